-- Sessions beside the threads of nodes: what each is made of, how it ends, and which records come back.
use Rattle.std.specs.Prelude.{◌≡◌, ◌⊎◌, ℕ, List, [], ◌∷◌, length, map, All, Option, None, IfNone}
use Rattle.std.specs.List.{range_with_len}
use Rattle.lock_messages.specs.declared.ids.Actor.{Actor}
use Rattle.lock_messages.specs.declared.ids.Actor.TheVariants as actor
use Rattle.lock_model.specs.Decisions.{Among}
use Rattle.stable_record.specs.Records.{client_record_of}
use Rattle.world_model.specs.declared.exact.ExactClient.{ExactClient}
use Rattle.world_model.specs.declared.exact.ExactClientPhase.TheVariants as client
use Rattle.world_model.specs.declared.exact.ExactWorld.{ExactWorld}
use Rattle.world_model.specs.Parts.{Part, ClientPart, part}
use Rattle.event_recorders.specs.declared.faults.RunFault.{RunFault}
use Rattle.event_recorders.specs.OwnLogs.{FindsItsOwn}
use Rattle.history_book.specs.Books.{BerthValue, own_part}

-- each of these is in one of the two lists
abbrev pub AreDivided : List ℕ → List ℕ → List ℕ → Type 0
AreDivided numbers xs ys = All (λ n. Among n xs ⊎ Among n ys) numbers

-- a client that is up and outside, has kept this attempt, and tries to keep nothing
abbrev pub resting_client : ℕ → ExactClient
resting_client attempt = record { kept = attempt; tried = None; phase = client.Idle }

-- It is the part of a client that rests, and a restart finds just the attempt that the client has kept.
pub record RestsWith (p : Part) (strings : List (List ℕ)) : Type 0 where
  pub attempt : ℕ
  pub part : p ≡ ClientPart (resting_client attempt)
  pub finds : strings ≡ client_record_of attempt ∷ []

-- The berth is the client's, by whose own list it rests.
pub record RestsBy (c : ℕ) (k : BerthValue) (strings : List (List ℕ)) : Type 0 where
  pub actor : k.actor ≡ actor.Client c
  pub rests : RestsWith (own_part k) strings

-- The berth is the client's, and a restart finds nothing but what the client has kept, and tries to keep, by its own
-- list.
pub record FindsBy (c : ℕ) (k : BerthValue) (strings : List (List ℕ)) : Type 0 where
  pub actor : k.actor ≡ actor.Client c
  pub own : FindsItsOwn (own_part k) strings

-- However a session ended, a restart finds nothing but what its client has kept, and tries to keep; and one that ended
-- without a fault rests.
pub record IsSessionEnd (c : ℕ) (fault : Option RunFault) (k : BerthValue) (strings : List (List ℕ)) : Type 0 where
  pub found : FindsBy c k strings
  pub rests : IfNone fault (RestsBy c k strings)

-- the actor is not among those that ended by faults
abbrev pub IsUntold : List (Actor × RunFault) → Actor → Type 0
IsUntold faults who = (f : RunFault) → Among (who, f) faults → ⊥

-- The records of clients that come back, by what a restart finds of each: one of each client of the opening, in
-- order. A restart finds in each nothing but what its client has kept, and tries to keep, in this world, which the
-- history leaves; and a client that isn't told rests there.
pub record AreRecords (opening world : ExactWorld) (faults : List (Actor × RunFault)) (records : List (ℕ × List (List ℕ))) : Type 0 where
  pub clients : map (λ p. p.0) records ≡ range_with_len 1 (length opening.clients)
  pub own : All (λ p. FindsItsOwn (part world (actor.Client p.0)) p.1) records
  pub rest : All (λ p. IsUntold faults (actor.Client p.0) → RestsWith (part world (actor.Client p.0)) p.1) records
