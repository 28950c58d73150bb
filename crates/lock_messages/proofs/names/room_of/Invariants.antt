use Rattle.std.proofs.Common.{◌≡◌, true, take}
use Rattle.std.specs.List.{list_all}
use Rattle.lock_messages.specs.Names.{padded, is_name_byte}
use Rattle.lock_messages.proofs.names.room_of.Given as goal

abbrev pub invariant-loop-i : goal.invariant-loop-i
invariant-loop-i l = (l.room ≡ padded (take l.i l.bytes)) × (list_all is_name_byte (take l.i l.bytes) ≡ true)
