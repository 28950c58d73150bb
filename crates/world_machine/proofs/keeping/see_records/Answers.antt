use Rattle.std.proofs.Common.{◌<◌, ◌≤◌, length, subst, arith}
use Rattle.std.specs.List.{All}
use Rattle.std.proofs.lemmas.List.{take_all}
use Rattle.std.proofs.lemmas.List.Elements.{All-more}
use Rattle.stable_record.specs.Records.{IsNodeRecord}
use Rattle.world_machine.specs.Keeping.{record_in}
use Rattle.world_machine.proofs.keeping.see_records.Goals as goal

pub loop-node-preserved : goal.loop-node-preserved
loop-node-preserved g c =
    let within : c.loop-node.node-index < length c.args.nodes.now = omega (arith, c.loop-node-test.true) in
    let good : IsNodeRecord (record_in c.node-item.result.part.kept) = subst (λ s. IsNodeRecord (record_in s)) c.kept-kept.ensures.kept c.kept-kept.ensures.good in
    All-more (λ v. IsNodeRecord (record_in v.part.kept)) c.args.nodes.now c.loop-node.node-index c.node-item.result within c.loop-node.invariant
    (subst (λ v. IsNodeRecord (record_in v.part.kept)) c.node-item.is good)

pub returns : goal.returns
returns g c =
    let past : length c.args.nodes.now ≤ c.loop-node.node-index = omega (arith, c.loop-node-test.false) in
    subst (All (λ v. IsNodeRecord (record_in v.part.kept))) (take_all c.loop-node.node-index c.args.nodes.now past) c.loop-node.invariant
