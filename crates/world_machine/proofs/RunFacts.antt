-- A run that goes on from where another ended.
use Rattle.std.proofs.Common.{◌≡◌, ℕ, ◌+◌, ◌<◌, List, [], ◌∷◌, ◌++◌, length, take, get_or, suc, Some, None, Ok, Err, sym, refl, ◌∙◌, ap, subst, arith}
use Rattle.std.proofs.Math.Seq.{take-suc}
use Rattle.std.proofs.lemmas.List.{length-take-le}
use Rattle.world_model.specs.declared.exact.ExactWorld.{ExactWorld}
use Rattle.world_model.specs.declared.events.Effect.{Effect}
use Rattle.world_model.specs.declared.events.Event.{Event}
use Rattle.world_model.specs.ExactWorlds.{Steps, Ran, one_more, ran_on, ran, step}
use Rattle.world_model.specs.StepsOf.{took}
use Rattle.world_model.specs.Forgetting.{forget, setting_of}
use Rattle.world_model.specs.Worlds.{World, Setting, Happens, Run}

abbrev and_then : Ran → List Event → Ran
and_then r actions = let q = ran actions r.world in record { taken = r.taken + q.taken; world = q.world; refused = q.refused }

pub ran-append : (xs bs : List Event) (w : ExactWorld) → (ran xs w).refused ≡ None → ran (xs ++ bs) w ≡ and_then (ran xs w) bs
ran-append [] bs w h = let q = ran bs w in ap (λ n. record { taken = n; world = q.world; refused = q.refused }) (let e : q.taken ≡ 0 + q.taken = omega arith in e)
ran-append (a ∷ xs) bs w h = go (step w a) (λ v z. ran-append xs bs v z) h
  where
    go : (s : Steps) → ((v : ExactWorld) → (ran xs v).refused ≡ None → ran (xs ++ bs) v ≡ and_then (ran xs v) bs) → (ran_on w s (λ v. ran xs v)).refused ≡ None → ran_on w s (λ v. ran (xs ++ bs) v) ≡ and_then (ran_on w s (λ v. ran xs v)) bs
    go (Err e) more z = absurd (let q : Some e ≡ None = z in cc)
    go (Ok s) more z =
        let r = ran xs s.world in
        let q = ran bs r.world in
        ap one_more (more s.world z) ∙ ap (λ n. record { taken = n; world = q.world; refused = q.refused }) (let e : r.taken + q.taken + 1 ≡ r.taken + 1 + q.taken = omega arith in e)

pub ran-snoc : (xs : List Event) (a : Event) (w v u : ExactWorld) (o : Effect) → ran xs w ≡ took (length xs) v → step v a ≡ Ok (record { world = u; effect = o }) → ran (xs ++ a ∷ []) w ≡ took (length xs + 1) u
ran-snoc xs a w v u o h s =
    ran-append xs (a ∷ []) w (ap (λ r. r.refused) h) ∙ ap (λ r. and_then r (a ∷ [])) h
    ∙ ap (λ t. let q = ran_on v t (λ x. ran [] x) in record { taken = length xs + q.taken; world = q.world; refused = q.refused }) s

-- a run of all the actions up to one, and that one
pub ran-next : (xs : List Event) (k : ℕ) (a : Event) (w v u : ExactWorld) (o : Effect) → k < length xs → a ≡ get_or xs k a → ran (take k xs) w ≡ took k v → step v a ≡ Ok (record { world = u; effect = o }) →
    ran (take (k + 1) xs) w ≡ took (k + 1) u
ran-next xs k a w v u o within is h s =
    let long : length (take k xs) ≡ k = length-take-le k xs (omega (arith, within)) in
    ap (λ n. ran (take n xs) w) (let e : k + 1 ≡ suc k = omega arith in e) ∙ ap (λ ys. ran ys w) (take-suc xs k a within ∙ ap (λ b. take k xs ++ b ∷ []) (sym is))
    ∙ ran-snoc (take k xs) a w v u o (h ∙ ap (λ n. took n v) (sym long)) s ∙ ap (λ n. took (n + 1) u) long

-- a run with one event more
pub run-snoc : (s : Setting) (es : List Event) (e : Event) (w v u : World) → Run s w es v → Happens s v e u → Run s w (es ++ e ∷ []) u
run-snoc s [] e w v u r h = (u, subst (λ y. Happens s y e u) r h, refl)
run-snoc s (a ∷ es) e w v u r h = (r.0, r.1, run-snoc s es e r.0 v u r.2 h)

-- a run of all the events up to one, and that one, among the same actors
pub run-next : (xs : List Event) (k : ℕ) (a : Event) (w v u : ExactWorld) → k < length xs → a ≡ get_or xs k a → setting_of v ≡ setting_of w → Run (setting_of w) (forget w) (take k xs) (forget v) →
    Happens (setting_of v) (forget v) a (forget u) → Run (setting_of w) (forget w) (take (k + 1) xs) (forget u)
run-next xs k a w v u within is same r h =
    let one : take (k + 1) xs ≡ take k xs ++ a ∷ [] = ap (λ n. take n xs) (let e : k + 1 ≡ suc k = omega arith in e) ∙ take-suc xs k a within ∙ ap (λ b. take k xs ++ b ∷ []) (sym is) in
    subst (λ es. Run (setting_of w) (forget w) es (forget u)) (sym one) (run-snoc (setting_of w) (take k xs) a (forget w) (forget v) (forget u) r (subst (λ s. Happens s (forget v) a (forget u)) same h))
