use Rattle.std.proofs.Common.{◌≡◌, refl, sym, subst}
use Rattle.lock_model.specs.declared.problems.Problem.TheVariants.{First, Second}
use Rattle.world_tests.proofs.pairs.telling.Goals as goal
use Rattle.world_tests.proofs.pairs.telling.Hides.{has-1-1, has-1-2}

pub of-requires-3-clause-first : goal.of-requires-3-clause-first
of-requires-3-clause-first g c =
    let box = c.into_dyn_box in
    subst (λ v. (x : (g.dyn-1.0.entry v).0.Denot) → (g.dyn-1.0.entry v).1.problem_of x ≡ First) (sym box.ensures.0)
    (subst (λ e. (x : e.0.Denot) → e.1.problem_of x ≡ First) ((has-1-1 g.dyn-1.0 g.dyn-1-has).same (tt {0})) (λ x. refl)) box.result.value

pub of-requires-3-clause-second : goal.of-requires-3-clause-second
of-requires-3-clause-second g c =
    let box = c.into_dyn_box-in_ok-new-2 in
    subst (λ v. (x : (g.dyn-1.0.entry v).0.Denot) → (g.dyn-1.0.entry v).1.problem_of x ≡ Second) (sym box.ensures.0)
    (subst (λ e. (x : e.0.Denot) → e.1.problem_of x ≡ Second) ((has-1-2 g.dyn-1.0 g.dyn-1-has).same (tt {0})) (λ x. refl)) box.result.value
