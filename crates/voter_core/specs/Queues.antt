-- Settling client by client, in the order in which they wait.
-- To go so over those that wait for the freed resource is to settle. The code proves that where it does it.
use Rattle.std.specs.Prelude.{ℕ, List, [], ◌∷◌, ◌++◌, Option, Some, None}
use Rattle.lock_messages.specs.declared.messages.Message.{Message}
use Rattle.lock_model.specs.declared.entries.Entry.{Entry}
use Rattle.lock_model.specs.declared.problems.Problem.{Problem}
use Rattle.lock_model.specs.ExactStations.{entry_of, settled_entry}
use Rattle.lock_model.specs.ExactDecisions.{told}
use Rattle.stable_record.specs.EntryLists.{replaced}

-- the entries once it has been the turn of this one, where there is one
abbrev pub settle_by : Problem → List Entry → Option Entry → List Entry
settle_by p entries None = entries
settle_by p entries (Some e) = replaced (settled_entry p entries e) entries

-- the Grant of this one, where it became a holder
abbrev pub told_by : Problem → ℕ → List Entry → Option Entry → List Message
told_by p n entries None = []
told_by p n entries (Some e) = told n e (settled_entry p entries e)

-- the entries once it has been a client's turn, and the Grant that it is told
abbrev pub settle_one : Problem → ℕ → List Entry → List Entry
settle_one p c entries = settle_by p entries (entry_of entries c)

abbrev pub told_one : Problem → ℕ → ℕ → List Entry → List Message
told_one p n c entries = told_by p n entries (entry_of entries c)

-- the same of clients one after the other
abbrev pub settle_each : Problem → List ℕ → List Entry → List Entry
settle_each p [] entries = entries
settle_each p (c ∷ cs) entries = settle_each p cs (settle_one p c entries)

abbrev pub told_each : Problem → ℕ → List ℕ → List Entry → List Message
told_each p n [] entries = []
told_each p n (c ∷ cs) entries = told_one p n c entries ++ told_each p n cs (settle_one p c entries)
