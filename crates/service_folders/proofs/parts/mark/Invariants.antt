use Rattle.std.proofs.Common.{◌≡◌, ℕ, ◌<◌, ◌||◌, ◌&&◌, false, nat_le, nat_lt, slice_index_or}
use Rattle.service_folders.proofs.parts.mark.Given as goal

-- the numbers before this one are marked
abbrev pub invariant-loop-number : goal.invariant-loop-number
invariant-loop-number l =
    (l.last < l.first → l.number ≡ l.first)
    × ((n : ℕ) → slice_index_or l.room n false ≡ (slice_index_or l.fn.room n false || (nat_le l.first n && nat_lt n l.number)))
