use Rattle.std.proofs.Common.{◌≡◌, length, map}
use Rattle.slot_record.specs.MemoryPlates.{call_of, filled, IsWithin}
use Rattle.slot_record.proofs.memory_plates.fill_unsynced.Given as goal

abbrev pub invariant-loop-call : goal.invariant-loop-call
invariant-loop-call l =
    (goal.iterator-loop-call).can_next l.call-iterator
    × (goal.iterator-loop-call).is_finite l.call-iterator
    × (filled l.fill (map call_of l.call-iterator) l.bytes ≡ filled l.fill (map call_of l.made) l.initial.bytes)
    × IsWithin (length l.bytes) (map call_of l.call-iterator)
