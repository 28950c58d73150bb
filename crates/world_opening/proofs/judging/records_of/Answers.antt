use Rattle.std.proofs.Common.{◌<◌, ◌+◌, length, map, sym, subst, arith}
use Rattle.std.proofs.lemmas.List.{length-map}
use Rattle.world_opening.specs.Openings.{IsRecordOf, NodeFinds, IsEach, IsFirstWithout}
use Rattle.world_opening.proofs.JudgingFacts.{each-more, first-without, node-finds, node-finds-none, is-found, is-not-found}
use Rattle.world_opening.proofs.judging.records_of.Goals as goal

pub returns-in_default-read-clause-refused : goal.returns-in_default-read-clause-refused
returns-in_default-read-clause-refused c clients =
    let found = c.args.found.now in
    let i = c.loop-place.place in
    let within : i < length found = c.loop-place-test.true in
    let v = c.index-found-place.result in
    let bytes = map (λ v. v.items) found in
    let none = is-not-found (IsRecordOf c.deref.result.now) c.in-Ok.read c.in-Ok.ensures c.in_default-read.is in
    subst (IsFirstWithout (length bytes) (NodeFinds bytes)) (sym c.node_at.ensures)
    (first-without (NodeFinds bytes) (length bytes) i c.loop-place.records.items c.loop-place.invariant (let w : i < length bytes = omega (arith, within, length-map found (λ v. v.items)) in w)
    (node-finds-none (λ v. v.items) found i v within c.index-found-place.is (λ r h. none r (subst (λ b. IsRecordOf b r) (sym c.deref.ensures.value) h))))

pub loop-place-preserved : goal.loop-place-preserved
loop-place-preserved c =
    let found = c.args.found.now in
    let i = c.loop-place.place in
    let within : i < length found = c.loop-place-test.true in
    let v = c.index-found-place.result in
    let bytes = map (λ v. v.items) found in
    let r = c.in-Some.record in
    let is = is-found (IsRecordOf c.deref.result.now) c.in-Ok.read r c.in-Ok.ensures c.in-Some.is in
    subst (IsEach (i + 1) (NodeFinds bytes)) (sym c.in-Ok-push.ensures.items)
    (each-more (NodeFinds bytes) i c.loop-place.records.items r c.loop-place.invariant
    (node-finds (λ v. v.items) found i v r within c.index-found-place.is (subst (λ b. IsRecordOf b r) c.deref.ensures.value is)))
