-- Of any world and any lines just one verdict is right, and it is the one that is computed.
use Rattle.std.proofs.Common.{◌≡◌, ℕ, ◌+◌, ◌≤◌, List, [], ◌∷◌, ◌++◌, length, Some, None, Result, Ok, Err, refl, sym, ap, subst, ◌∙◌, arith}
use Rattle.std.proofs.lemmas.List.{append-nil}
use Rattle.world_model.specs.declared.events.Event.{Event}
use Rattle.world_model.specs.declared.exact.ExactWorld.{ExactWorld}
use Rattle.world_model.specs.ExactWorlds.{Steps, ran_on, ran, step}
use Rattle.world_model.specs.StepsOf.{took}
use Rattle.event_lines.specs.declared.faults.LineFault.{LineFault}
use Rattle.event_lines.specs.Events.{event_of, IsSpelling, AreJournal}
use Rattle.event_lines.specs.Laws.{EventsAreSpelledOnce}
use Rattle.journal_audit.specs.declared.verdicts.Cause.{Cause}
use Rattle.journal_audit.specs.declared.verdicts.Cause.TheVariants as cause
use Rattle.journal_audit.specs.declared.verdicts.Verdict.{Verdict}
use Rattle.journal_audit.specs.declared.verdicts.Verdict.TheVariants.{Sound, Unsound}
use Rattle.journal_audit.specs.Verdicts.{Leads, IsUnsound, IsVerdict, VerdictsAreExact, step_verdict, line_verdict, verdict_behind, verdict_of, reaches}
use Rattle.journal_audit.proofs.RunFacts.{leads_nowhere, leads_first, one_less}

-- a right verdict on lines that stand behind so many
abbrev RightBehind : ℕ → ExactWorld → List (List ℕ) → Verdict → Type 0
RightBehind taken w lines (Sound n) = (n ≡ taken + length lines) × ((v : ExactWorld) × Leads w lines v)
RightBehind taken w lines (Unsound number c) =
    (before : List (List ℕ)) × (l : List ℕ) × (behind : List (List ℕ)) × (v : ExactWorld)
    × (lines ≡ before ++ l ∷ behind) × (number ≡ taken + length before + 1) × Leads w before v × IsUnsound v l c

-- one line more before them
onto : (taken : ℕ) (w : ExactWorld) (l : List ℕ) (ls : List (List ℕ)) (e : Event) → IsSpelling l e → (t : Steps) → step w e ≡ t → ((s : ExactWorld) → RightBehind (taken + 1) s ls (verdict_behind (taken + 1) s ls))
    → RightBehind taken w (l ∷ ls) (step_verdict (taken + 1) t (λ x. verdict_behind (taken + 1) x ls))
onto taken w l ls e s (Err f) h more =
    let number : taken + 1 ≡ taken + 0 + 1 = omega arith in
    ([], l, ls, w, refl, number, leads_nowhere w, (e, s, h))
onto taken w l ls e s (Ok t) h more = go (verdict_behind (taken + 1) t.world ls) (more t.world)
  where
    go : (v : Verdict) → RightBehind (taken + 1) t.world ls v → RightBehind taken w (l ∷ ls) v
    go (Sound n) r =
        let (count, some) = r in
        let (x, leads) = some in
        let all : n ≡ taken + length (l ∷ ls) = omega (arith, count) in
        (all, (x, leads_first w t.world x l ls e t.effect s h leads))
    go (Unsound number c) r =
        let (before, k, behind, x, cut, at, leads, bad) = r in
        let there : number ≡ taken + length (l ∷ before) + 1 = omega (arith, at) in
        (l ∷ before, k, behind, x, ap (λ rest. l ∷ rest) cut, there, leads_first w t.world x l before e t.effect s h leads, bad)

at_line : (spelled : EventsAreSpelledOnce) (taken : ℕ) (w : ExactWorld) (l : List ℕ) (ls : List (List ℕ)) → (r : Result Event LineFault) → event_of l ≡ r → ((s : ExactWorld) → RightBehind (taken + 1) s ls (verdict_behind (taken + 1) s ls))
    → RightBehind taken w (l ∷ ls) (line_verdict w (taken + 1) r (λ x. verdict_behind (taken + 1) x ls))
at_line spelled taken w l ls (Err f) h more =
    let number : taken + 1 ≡ taken + 0 + 1 = omega arith in
    ([], l, ls, w, refl, number, leads_nowhere w, h)
at_line spelled taken w l ls (Ok e) h more = onto taken w l ls e ((spelled l e).0 h) (step w e) refl more

is_right : (spelled : EventsAreSpelledOnce) (lines : List (List ℕ)) (taken : ℕ) (w : ExactWorld) → RightBehind taken w lines (verdict_behind taken w lines)
is_right spelled [] taken w = (let e : taken ≡ taken + 0 = omega arith in e, (w, leads_nowhere w))
is_right spelled (l ∷ ls) taken w = at_line spelled taken w l ls (event_of l) refl (λ s. is_right spelled ls (taken + 1) s)

from_none : (w : ExactWorld) (lines : List (List ℕ)) (v : Verdict) → RightBehind 0 w lines v → IsVerdict w lines v
from_none w lines (Sound n) r =
    let (count, some) = r in
    let (x, leads) = some in
    (let e : n ≡ length lines = omega (arith, count) in e, (x, leads))
from_none w lines (Unsound number c) r =
    let (before, l, behind, v, cut, at, leads, bad) = r in
    (before, l, behind, v, cut, let e : number ≡ length before + 1 = omega (arith, at) in e, leads, bad)

-- the verdict on lines of which the first ones lead somewhere
pub led : (spelled : EventsAreSpelledOnce) (before rest : List (List ℕ)) (events : List Event) (w v : ExactWorld) (taken : ℕ) → AreJournal before events → ran events w ≡ took (length events) v
    → verdict_behind taken w (before ++ rest) ≡ verdict_behind (taken + length before) v rest
led spelled [] rest [] w v taken j r =
    let same : w ≡ v = ap (λ q. q.world) r in
    let none : taken ≡ taken + 0 = omega arith in
    ap (λ n. verdict_behind n w rest) none ∙ ap (λ x. verdict_behind (taken + 0) x rest) same
led spelled [] rest (e ∷ es) w v taken j r = absurd j
led spelled (l ∷ ls) rest [] w v taken j r = absurd j
led spelled (l ∷ ls) rest (e ∷ es) w v taken j r =
    ap (λ q. line_verdict w (taken + 1) q (λ x. verdict_behind (taken + 1) x (ls ++ rest))) ((spelled l e).1 j.0)
    ∙ go (step w e) (λ x y. led spelled ls rest es x v (taken + 1) j.1 y) r
  where
    go : (s : Steps) → ((x : ExactWorld) → ran es x ≡ took (length es) v → verdict_behind (taken + 1) x (ls ++ rest) ≡ verdict_behind (taken + 1 + length ls) v rest)
        → ran_on w s (λ x. ran es x) ≡ took (length (e ∷ es)) v → step_verdict (taken + 1) s (λ x. verdict_behind (taken + 1) x (ls ++ rest)) ≡ verdict_behind (taken + length (l ∷ ls)) v rest
    go (Err f) more z = absurd (let q : Some f ≡ None = ap (λ q. q.refused) z in cc)
    go (Ok s) more z =
        let count : taken + 1 + length ls ≡ taken + length (l ∷ ls) = omega arith in
        more s.world (one_less (ran es s.world) (length es) v z) ∙ ap (λ n. verdict_behind n v rest) count

ends_so : (v : ExactWorld) (number : ℕ) (l : List ℕ) (behind : List (List ℕ)) (c : Cause) (spelled : EventsAreSpelledOnce) (taken : ℕ) → number ≡ taken + 1 → IsUnsound v l c → verdict_behind taken v (l ∷ behind) ≡ Unsound number c
ends_so v number l behind (cause.Line f) spelled taken n u =
    ap (λ q. line_verdict v (taken + 1) q (λ x. verdict_behind (taken + 1) x behind)) u ∙ ap (λ k. Unsound k (cause.Line f)) (sym n)
ends_so v number l behind (cause.Refused f) spelled taken n u =
    let (e, s, refused) = u in
    ap (λ q. line_verdict v (taken + 1) q (λ x. verdict_behind (taken + 1) x behind)) ((spelled l e).1 s)
    ∙ ap (λ q. step_verdict (taken + 1) q (λ x. verdict_behind (taken + 1) x behind)) refused ∙ ap (λ k. Unsound k (cause.Refused f)) (sym n)

is_computed : (spelled : EventsAreSpelledOnce) (w : ExactWorld) (lines : List (List ℕ)) (v : Verdict) → IsVerdict w lines v → verdict_behind 0 w lines ≡ v
is_computed spelled w lines (Sound n) h =
    let (count, some) = h in
    let (x, leads) = some in
    let (events, journal, run) = leads in
    let all : 0 + length lines ≡ n = omega (arith, count) in
    ap (λ ls. verdict_behind 0 w ls) (sym (append-nil lines)) ∙ led spelled lines [] events w x 0 journal run ∙ ap Sound all
is_computed spelled w lines (Unsound number c) h =
    let (before, l, behind, v, cut, at, leads, bad) = h in
    let (events, journal, run) = leads in
    let there : number ≡ 0 + length before + 1 = omega (arith, at) in
    ap (λ ls. verdict_behind 0 w ls) cut ∙ led spelled before (l ∷ behind) events w v 0 journal run ∙ ends_so v number l behind c spelled (0 + length before) there bad

pub verdicts_exact : EventsAreSpelledOnce → VerdictsAreExact
unfolding verdict_of
verdicts_exact spelled w lines v = (λ h. subst (λ x. IsVerdict w lines x) h (from_none w lines (verdict_behind 0 w lines) (is_right spelled lines 0 w)), is_computed spelled w lines v)

-- A verdict speaks of the line behind those that were taken, if there is one.

reaches_on : (lines : List (List ℕ)) (taken : ℕ) (w : ExactWorld) → taken ≤ reaches (verdict_behind taken w lines)
reaches_on [] taken w = omega arith
reaches_on (l ∷ ls) taken w = at (event_of l) (λ x. reaches_on ls (taken + 1) x)
  where
    at_step : (s : Steps) → ((x : ExactWorld) → taken + 1 ≤ reaches (verdict_behind (taken + 1) x ls)) → taken + 1 ≤ reaches (step_verdict (taken + 1) s (λ x. verdict_behind (taken + 1) x ls))
    at_step (Err f) more = omega arith
    at_step (Ok s) more = more s.world

    at : (r : Result Event LineFault) → ((x : ExactWorld) → taken + 1 ≤ reaches (verdict_behind (taken + 1) x ls)) → taken ≤ reaches (line_verdict w (taken + 1) r (λ x. verdict_behind (taken + 1) x ls))
    at (Err f) more = omega arith
    at (Ok e) more = let far : taken + 1 ≤ reaches (step_verdict (taken + 1) (step w e) (λ x. verdict_behind (taken + 1) x ls)) = at_step (step w e) more in omega arith

pub reaches_more : (l : List ℕ) (ls : List (List ℕ)) (taken : ℕ) (w : ExactWorld) → taken + 1 ≤ reaches (verdict_behind taken w (l ∷ ls))
reaches_more l ls taken w = at (event_of l)
  where
    at_step : (s : Steps) → taken + 1 ≤ reaches (step_verdict (taken + 1) s (λ x. verdict_behind (taken + 1) x ls))
    at_step (Err f) = omega arith
    at_step (Ok s) = reaches_on ls (taken + 1) s.world

    at : (r : Result Event LineFault) → taken + 1 ≤ reaches (line_verdict w (taken + 1) r (λ x. verdict_behind (taken + 1) x ls))
    at (Err f) = omega arith
    at (Ok e) = at_step (step w e)
