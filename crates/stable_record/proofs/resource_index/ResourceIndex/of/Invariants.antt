use Rattle.std.proofs.Common.{take}
use Rattle.stable_record.specs.Lines.{Indexes}
use Rattle.stable_record.proofs.resource_index.ResourceIndex.of.Given as goal

abbrev pub invariant-loop-place : goal.invariant-loop-place
invariant-loop-place l = Indexes l.index (take l.place l.node.entries)
