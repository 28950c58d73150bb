-- How threads end.
use Rattle.std.specs.Prelude.{◌≡◌, ℕ, List, [], ◌∷◌, map, Option, None, IfSome, IfNone}
use Rattle.std.specs.List.{All}
use Rattle.stable_record.specs.Records.{client_record_of}
use Rattle.world_model.specs.declared.exact.ExactClient.{ExactClient}
use Rattle.world_model.specs.declared.exact.ExactClientPhase.TheVariants as client
use Rattle.world_model.specs.Parts.{Part, ClientPart}
use Rattle.event_recorders.specs.declared.faults.RunFault.{RunFault}
use Rattle.event_recorders.specs.OwnLogs.{OwnLog, FindsItsOwn, part_now}
use Rattle.node_loop.specs.Standing.{IsIdleNode, IsNodeFault, as_opened}
use Rattle.own_threads.specs.Beginnings.{Beginning, IsOwnLog}

-- A node that ended: its log is an own run from its beginning on. Its fault is one of a node's. Without a fault it has
-- answered all that it took.
pub record IsNodeEnd (l : OwnLog) (b : Beginning) (ended : Option RunFault) : Type 0 where
  pub began : b.log ≡ as_opened l
  pub run : IsOwnLog l
  pub fault : IfSome ended IsNodeFault
  pub idle : IfNone ended (IsIdleNode (part_now l))

-- a client that is up and outside, has kept this attempt, and tries to keep nothing
abbrev pub resting_client : ℕ → ExactClient
resting_client attempt = record { kept = attempt; tried = None; phase = client.Idle }

-- It is the part of a client that rests, and a restart finds just the attempt that the client has kept.
pub record RestsWith (p : Part) (strings : List (List ℕ)) : Type 0 where
  pub attempt : ℕ
  pub part : p ≡ ClientPart (resting_client attempt)
  pub finds : strings ≡ client_record_of attempt ∷ []

-- A client that ended: its log is an own run from its beginning on, and a restart finds nothing but what the client has
-- kept or tries to keep. Without a fault it rests.
pub record IsClientEnd (l : OwnLog) (b : Beginning) (ended : Option RunFault) (strings : List (List ℕ)) : Type 0 where
  pub began : b.log ≡ as_opened l
  pub run : IsOwnLog l
  pub own : FindsItsOwn (part_now l) strings
  pub rests : IfNone ended (RestsWith (part_now l) strings)

-- The ends of nodes with these beginnings, in order, each by its log and its own beginning.
pub record AreNodeEnds (beginnings : List Beginning) (ends : List (OwnLog × Beginning × Option RunFault)) : Type 0 where
  pub began : map (λ e. e.1) ends ≡ beginnings
  pub each : All (λ e. IsNodeEnd e.0 e.1 e.2) ends

-- The ends of clients with these beginnings, in order, each also with what a restart finds in its record.
pub record AreClientEnds (beginnings : List Beginning) (ends : List (OwnLog × Beginning × Option RunFault × List (List ℕ))) : Type 0 where
  pub began : map (λ e. e.1) ends ≡ beginnings
  pub each : All (λ e. IsClientEnd e.0 e.1 e.2 e.3) ends
