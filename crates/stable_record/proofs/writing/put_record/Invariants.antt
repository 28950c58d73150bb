use Rattle.std.proofs.Common.{◌≡◌, ◌++◌, length, take}
use Rattle.std.specs.List.{flat_map}
use Rattle.stable_record.specs.Records.{head_bytes, entry_bytes}
use Rattle.stable_record.proofs.writing.put_record.Given as goal

abbrev pub invariant-loop-place : goal.invariant-loop-place
invariant-loop-place l = l.out.items ≡ l.fn.out.items ++ (head_bytes l.node.problem (length l.node.entries) ++ flat_map entry_bytes (take l.place l.node.entries))
