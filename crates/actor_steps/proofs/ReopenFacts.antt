-- One reopen after others that failed.
use Rattle.std.proofs.Common.{◌≡◌, ◌+◌, ◌≤◌, ℕ, Bool, List, Option, Some, None, inl, inr, subst, sym, arith}
use Rattle.std.specs.Prelude.{IfSome, IfNone}
use Rattle.lock_model.specs.Decisions.{Among}
use Rattle.stable_record.specs.Finding.{Counts, FindsOnly}
use Rattle.actor_steps.specs.Steps.{HasFailed, HasNotReopened, IsReopened}
use Rattle.actor_steps.proofs.StepFacts.{is_one}

pub found_since : (times : ℕ) (bytes : List ℕ) (first before now : List (List ℕ)) (count count' : ℕ) (stuck : Bool) → HasNotReopened times first before count count' →
    IsReopened bytes before now stuck → IsReopened bytes first now stuck
found_since times bytes first before now count count' stuck so is = record { among = so.found bytes is.among; found = is.found; free = is.free }

pub reopened_only : (bytes : List ℕ) (first before now : List (List ℕ)) (stuck : Bool) → FindsOnly first before → IsReopened bytes before now stuck → FindsOnly first now
reopened_only bytes first before now stuck only is = λ x there. only x (subst (λ b. Among b before) (sym (is_one bytes x (subst (λ s. Among x s) is.found there))) is.among)

failed-since : (times a b c : ℕ) → HasFailed times a b → HasFailed 1 b c → HasFailed (times + 1) a c
failed-since times a b c (inl p) (inl q) = inl (omega (arith, p, q))
failed-since times a b c (inl p) (inr q) = inr q
failed-since times a b c (inr p) (inl q) = inr (omega (arith, p, q))
failed-since times a b c (inr p) (inr q) = inr q

pub once_more : (times : ℕ) (first before now : List (List ℕ)) (a b c : ℕ) → HasNotReopened times first before a b → HasNotReopened 1 before now b c → HasNotReopened (times + 1) first now a c
once_more times first before now a b c so once = record {
  found = λ found there. so.found found (once.found found there);
  failed = failed-since times a b c so.failed once.failed;
}

-- a count that rose, or stood at its greatest
pub failed_once : (a b : ℕ) → Counts a b → a ≤ b → HasFailed 1 a b
failed_once a b (inl rose) least = inl (omega (arith, rose))
failed_once a b (inr full) least = inr (omega (arith, full, least))

-- what is said of an option that is known

pub if_some : {A : Type 0} (P : A → Type 0) (o : Option A) (x : A) → o ≡ Some x → IfSome o P → P x
if_some P o x e h = subst (λ p. IfSome p P) e h

pub if_none : {A : Type 0} (P : Type 0) (o : Option A) → o ≡ None → IfNone o P → P
if_none P o e h = subst (λ p. IfNone p P) e h
