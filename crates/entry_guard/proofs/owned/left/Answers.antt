use Rattle.std.proofs.Common.{rules, ◌≡◌, ◌∙◌, true, false, true≢false, refl, sym, subst}
use Rattle.std.specs.DynBox.{dyn_box_with}
use Rattle.entry_guard.proofs.owned.left.Goals as goal

pub leave-requires : goal.leave-requires
leave-requires g c κs =
    let inside = subst (λ v. (goal.Door-dyn g v).is_inside v.1 ≡ true) (c.deref_box-1.ensures.1 ∙ sym c.deref_box_mut-1.ensures.value.1) (sym c.inside.ensures ∙ c.if-inside.true) in
    search rules

pub returns-else-inside : goal.returns-else-inside
returns-else-inside g c = record {
  outside = subst (λ v. (goal.Door-dyn g v).is_inside v.1 ≡ false) c.deref_box-1.ensures.1 (sym c.inside.ensures ∙ c.if-inside.false);
  leaves = λ within. absurd (true≢false (sym within ∙ subst (λ v. (goal.Door-dyn g v).is_inside v.1 ≡ false) c.deref_box-1.ensures.1 (sym c.inside.ensures ∙ c.if-inside.false)));
  untouched = λ outside. refl;
}

pub returns-then-inside-clause-untouched : goal.returns-then-inside-clause-untouched
returns-then-inside-clause-untouched g c outside =
    absurd (true≢false (sym (subst (λ v. (goal.Door-dyn g v).is_inside v.1 ≡ true) c.deref_box-1.ensures.1 (sym c.inside.ensures ∙ c.if-inside.true)) ∙ outside))

pub returns-then-inside-clause-leaves : goal.returns-then-inside-clause-leaves
returns-then-inside-clause-leaves g c within =
    subst (λ v. (door : (g.dyn-1.0.entry v.0).0.Denot) × (dyn_box_with c.args.door c.deref_box_mut-1.result.now.0 c.leave.new.self ≡ dyn_box_with c.args.door v.0 door) × (goal.Door-dyn g v).leaves v.1 door)
    c.deref_box_mut-1.ensures.value.1 (c.leave.new.self, refl, c.leave.ensures.0)
