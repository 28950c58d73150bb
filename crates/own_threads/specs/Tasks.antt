-- What an actor's thread is given, so that it may run.
use Rattle.std.specs.Prelude.{◌≡◌, ◌+◌, ℕ, List, [], ◌∷◌}
use Rattle.lock_messages.specs.declared.ids.Actor.TheVariants as actor
use Rattle.lock_model.specs.Ballots.{Ballot}
use Rattle.stable_record.specs.declared.node_records.NodeRecord.{NodeRecord}
use Rattle.event_recorders.specs.OwnLogs.{OwnLog, IsUnused, FindsPart}
use Rattle.client_loop.specs.Standing.{KeepsAttempt}
use Rattle.node_loop.specs.Standing.{IsReady}

-- The node's log is unused, and a restart finds just what the node has kept.
pub record IsNodeTask (n : ℕ) (l : OwnLog) (strings : List (List ℕ)) : Type 0 where
  pub kept : NodeRecord
  pub ready : IsReady l n kept strings

-- The client's log is unused and has these ballots, and a restart finds just the attempt that the client has kept.
pub record IsClientTask (c : ℕ) (list : List Ballot) (l : OwnLog) (strings : List (List ℕ)) : Type 0 where
  pub unused : IsUnused l (actor.Client c)
  pub ballots : l.ballots ≡ list
  pub found : FindsPart l.opening strings
  pub kept : KeepsAttempt l.opening

-- a log, with what a restart finds in its actor's record
abbrev pub with_found : OwnLog → List (List ℕ) → OwnLog × List (List ℕ)
with_found l strings = (l, strings)

-- The logs are those of the nodes from a number on, each with what a restart finds in its record, and each may run.
abbrev pub AreNodesReady : ℕ → List (OwnLog × List (List ℕ)) → Type 0
AreNodesReady n [] = Unit {0}
AreNodesReady n (s ∷ starts) = IsNodeTask n s.0 s.1 × AreNodesReady (n + 1) starts

-- The same of the clients from a number on.
abbrev pub AreClientsReady : List Ballot → ℕ → List (OwnLog × List (List ℕ)) → Type 0
AreClientsReady ballots c [] = Unit {0}
AreClientsReady ballots c (s ∷ starts) = IsClientTask c ballots s.0 s.1 × AreClientsReady ballots (c + 1) starts
