use Rattle.std.proofs.Common.{◌<◌, ◌+◌, length, map, sym, subst, arith}
use Rattle.std.proofs.lemmas.List.{length-map}
use Rattle.world_opening.specs.Openings.{IsAttemptOf, ClientFinds, IsEach, IsFirstWithout}
use Rattle.world_opening.proofs.JudgingFacts.{each-more, first-without, client-finds, client-finds-none, is-found, is-not-found}
use Rattle.world_opening.proofs.judging.attempts_of.Goals as goal

pub returns-in_default-clause-refused : goal.returns-in_default-clause-refused
returns-in_default-clause-refused c nodes records are =
    let found = c.args.found.now in
    let i = c.loop-place.place in
    let within : i < length found = c.loop-place-test.true in
    let v = c.index-found-place.result in
    let bytes = map (λ v. v.items) found in
    let none = is-not-found (IsAttemptOf c.deref.result.now) c.attempt_of.result c.attempt_of.ensures c.in_default.is in (
      (records, are),
      subst (IsFirstWithout (length bytes) (ClientFinds bytes)) (sym c.client_at.ensures)
          (first-without (ClientFinds bytes) (length bytes) i c.loop-place.attempts.items c.loop-place.invariant (let w : i < length bytes = omega (arith, within, length-map found (λ v. v.items)) in w)
          (client-finds-none (λ v. v.items) found i v within c.index-found-place.is (λ a h. none a (subst (λ b. IsAttemptOf b a) (sym c.deref.ensures.value) h)))),
    )

pub loop-place-preserved : goal.loop-place-preserved
loop-place-preserved c =
    let found = c.args.found.now in
    let i = c.loop-place.place in
    let within : i < length found = c.loop-place-test.true in
    let v = c.index-found-place.result in
    let bytes = map (λ v. v.items) found in
    let a = c.in-Some.attempt in
    let is = is-found (IsAttemptOf c.deref.result.now) c.attempt_of.result a c.attempt_of.ensures c.in-Some.is in
    subst (IsEach (i + 1) (ClientFinds bytes)) (sym c.in-Ok.ensures.items)
    (each-more (ClientFinds bytes) i c.loop-place.attempts.items a c.loop-place.invariant
    (client-finds (λ v. v.items) found i v a within c.index-found-place.is (subst (λ b. IsAttemptOf b a) c.deref.ensures.value is)))
