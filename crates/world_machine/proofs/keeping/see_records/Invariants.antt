use Rattle.std.proofs.Common.{take}
use Rattle.std.specs.List.{All}
use Rattle.stable_record.specs.Records.{IsNodeRecord}
use Rattle.world_machine.specs.Keeping.{record_in}
use Rattle.world_machine.proofs.keeping.see_records.Given as goal

abbrev pub invariant-loop-node : goal.invariant-loop-node
invariant-loop-node g l = All (λ v. IsNodeRecord (record_in v.part.kept)) (take l.node-index l.nodes)
