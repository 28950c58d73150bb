use Rattle.std.proofs.Common.{◌≡◌, refl, sym, subst}
use Rattle.lock_model.specs.declared.problems.Problem.TheVariants.{First, Second}
use Rattle.rwdraw.proofs.main.OwnLists.{own-1}
use Rattle.rwdraw.proofs.main.Goals as goal

pub add_pair-requires-clause-first : goal.add_pair-requires-clause-first
add_pair-requires-clause-first c =
    let box = c.into_dyn_box in
    subst (λ v. (x : (own-1.entry v).0.Denot) → (own-1.entry v).1.problem_of x ≡ First) (sym box.ensures.0) (λ x. refl) box.result.value

pub add_pair-requires-clause-second : goal.add_pair-requires-clause-second
add_pair-requires-clause-second c =
    let box = c.into_dyn_box-in-loop in
    subst (λ v. (x : (own-1.entry v).0.Denot) → (own-1.entry v).1.problem_of x ≡ Second) (sym box.ensures.0) (λ x. refl) box.result.value
