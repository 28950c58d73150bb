use Rattle.std.proofs.Common.{◌≡◌, ℕ, ◌+◌, ◌||◌, Option, Some, None, List, length}
use Rattle.std.specs.Borrow.{Bor}
use Rattle.lock_messages.specs.declared.ids.Actor.{Actor}
use Rattle.service_folders.specs.Cuts.{split_behind}
use Rattle.service_folders.specs.Parts.{pieces, part_has, are_spans, name}
use Rattle.service_folders.proofs.parts.Part.read.Given as goal

-- the part has the actors that are named by pieces before those that are left, and each of these names actors
abbrev pub invariant-loop-left : goal.invariant-loop-left
invariant-loop-left l =
    (are_spans (pieces l.fn.text) ≡ are_spans (split_behind 44 l.left))
    × ((who : Actor) → (part_has l.part who || name (split_behind 44 l.left) who) ≡ name (pieces l.fn.text) who)

abbrev size : Option (Bor (List ℕ)) → ℕ
size None = 0
size (Some rest) = length rest.now + 1

abbrev pub decreases-loop-left : goal.decreases-loop-left
decreases-loop-left l = size l.left
