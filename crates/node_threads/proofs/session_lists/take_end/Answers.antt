use Rattle.std.proofs.Common.{◌≡◌, ◌⊎◌, inl, inr, ◌<◌, length, get_or, true, false, sym, ◌∙◌, ap, subst, arith, All}
use Rattle.std.proofs.lemmas.Bool.{eqb-true, eq-eqb}
use Rattle.std.proofs.lemmas.List.Elements.{All-more, All-weaker}
use Rattle.std.proofs.lemmas.List.{get_or_default}
use Rattle.lock_model.specs.Decisions.{Among}
use Rattle.node_threads.proofs.Amongst.{from_among, at_among, all_taken, fewer_among, others_among}
use Rattle.node_threads.proofs.session_lists.take_end.Goals as goal

pub returns-then-eq-clause-some : goal.returns-then-eq-clause-some
returns-then-eq-clause-some g c =
    let ends = c.loop-place.ends.items in
    let place = c.loop-place.place in
    let same = c.loop-place.invariant.same in
    let within : place < length ends = omega (arith, c.loop-place-test.true, c.len-place-end.ensures, c.args.ends.now.ok.0, ap length same) in
    let x = c.remove.result in
    let y = c.index.result.now in
    let there : x ≡ y = c.remove.ensures.value ∙ get_or_default ends place x y within ∙ sym c.index.ensures in (
      ap (λ e. e.client) there ∙ eqb-true y.client c.args.client (sym c.eq.ensures ∙ c.if-eq.true),
      subst (λ es. Among x es) same (subst (λ z. Among z ends) (sym c.remove.ensures.value) (at_among ends place x within)),
    )

pub returns-then-eq-clause-left : goal.returns-then-eq-clause-left
returns-then-eq-clause-left g c =
    let ends = c.loop-place.ends.items in
    let place = c.loop-place.place in
    let same = c.loop-place.invariant.same in
    let within : place < length ends = omega (arith, c.loop-place-test.true, c.len-place-end.ensures, c.args.ends.now.ok.0, ap length same) in
    subst (λ es. All (λ e. Among e es) c.remove.new.self.items) same (subst (All (λ e. Among e ends)) (sym c.remove.ensures.items) (fewer_among ends place within))

pub returns-then-eq-clause-others : goal.returns-then-eq-clause-others
returns-then-eq-clause-others g c =
    let ends = c.loop-place.ends.items in
    let place = c.loop-place.place in
    let same = c.loop-place.invariant.same in
    let within : place < length ends = omega (arith, c.loop-place-test.true, c.len-place-end.ensures, c.args.ends.now.ok.0, ap length same) in
    let y = c.index.result.now in
    let here : y.client ≡ c.args.client = eqb-true y.client c.args.client (sym c.eq.ensures ∙ c.if-eq.true) in
    let rest = subst (λ es. All (λ e. (e ≡ get_or ends place y) ⊎ Among e es) ends) (sym c.remove.ensures.items) (others_among ends place y within) in
    subst (All (λ e. (e.client ≡ c.args.client) ⊎ Among e c.remove.new.self.items)) same
    (All-weaker (λ e. (e ≡ get_or ends place y) ⊎ Among e c.remove.new.self.items) (λ e. (e.client ≡ c.args.client) ⊎ Among e c.remove.new.self.items)
    (λ e h. elim h [ inl is ↦ inl (ap (λ z. z.client) (is ∙ sym c.index.ensures) ∙ here) | inr behind ↦ inr behind ]) ends rest)

pub loop-place-preserved : goal.loop-place-preserved
loop-place-preserved g c =
    let ends = c.loop-place.ends.items in
    let place = c.loop-place.place in
    let same = c.loop-place.invariant.same in
    let within : place < length ends = omega (arith, c.loop-place-test.true, c.len-place-end.ensures, c.args.ends.now.ok.0, ap length same) in
    let y = c.index.result.now in
    let other : y.client ≡ c.args.client → ⊥ = λ is. (let z : true ≡ false = sym (eq-eqb y.client c.args.client is) ∙ sym c.eq.ensures ∙ c.if-eq.false in cc) in record {
      seen = All-more (λ e. e.client ≡ c.args.client → ⊥) ends place y within c.loop-place.invariant.seen (subst (λ z. z.client ≡ c.args.client → ⊥) c.index.ensures other);
      same = same;
    }

pub returns-clause-none : goal.returns-clause-none
returns-clause-none g c =
    let ends = c.loop-place.ends.items in
    let same = c.loop-place.invariant.same in
    subst (All (λ e. e.client ≡ c.args.client → ⊥)) same
    (all_taken (λ e. e.client ≡ c.args.client → ⊥) ends c.loop-place.place (omega (arith, c.loop-place-test.false, c.len-place-end.ensures, c.args.ends.now.ok.0, ap length same)) c.loop-place.invariant.seen)

pub returns-clause-left : goal.returns-clause-left
returns-clause-left g c = subst (λ es. All (λ e. Among e es) c.loop-place.ends.items) c.loop-place.invariant.same (from_among (λ e. Among e c.loop-place.ends.items) c.loop-place.ends.items (λ e there. there))

pub returns-clause-others : goal.returns-clause-others
returns-clause-others g c =
    let ends = c.loop-place.ends.items in
    subst (All (λ e. (e.client ≡ c.args.client) ⊎ Among e ends)) c.loop-place.invariant.same (from_among (λ e. (e.client ≡ c.args.client) ⊎ Among e ends) ends (λ e there. inr there))
