use Rattle.std.proofs.Common.{◌<◌, length, take, arith}
use Rattle.std.proofs.lemmas.List.{length-take-le}
use Rattle.stable_record.proofs.LineFacts.{indexes-more}
use Rattle.stable_record.proofs.resource_index.ResourceIndex.of.Goals as goal

pub add-requires : goal.add-requires
add-requires c =
    let es = c.args.node.now.entries in
    let i = c.loop-place.place in
    let lt : i < length es = omega (arith, c.loop-place-test.true, c.len-place-end.ensures.len) in
    (take i es, c.loop-place.invariant, omega (arith, length-take-le i es (omega (arith, lt)), lt, c.len-place-end.ensures.len, c.len-place-end.ensures.few))

pub loop-place-preserved : goal.loop-place-preserved
loop-place-preserved c =
    let es = c.args.node.now.entries in
    let i = c.loop-place.place in
    indexes-more c.add.new.self es i c.at-entry.result (omega (arith, c.loop-place-test.true, c.len-place-end.ensures.len)) c.at-entry.ensures (c.in-Ok.ensures (take i es) c.loop-place.invariant)
