use Rattle.std.proofs.Common.{◌≡◌, ◌==◌, ◌<◌, ℕ, false, Some}
use Rattle.std.specs.Prelude.{slice_get}
use Rattle.world_model.specs.Parts.{place}
use Rattle.journal_merger.specs.Pendings.{Pending}
use Rattle.journal_merger.proofs.journals.has.Given as goal

-- none of the journals so far is the actor's
abbrev pub invariant-loop-journal : goal.invariant-loop-journal
invariant-loop-journal g l = (i : ℕ) (p : Pending) → i < l.journal-index → slice_get l.journals i ≡ Some p → (place p.who == place l.who) ≡ false
