-- A queue without the first place of a client.
use Rattle.std.proofs.Common.{◌≡◌, ℕ, suc, ◌+◌, ◌≤◌, ◌==◌, Bool, true, false, not, nat_lt, cond, List, [], ◌∷◌, ◌++◌, length, drop, Some, None, refl, sym, ap, ◌∙◌, arith}
use Rattle.std.specs.List.{position, position_or_len, remove}
use Rattle.std.proofs.lemmas.List.{append-nil, take_all, drop_all}
use Rattle.std.proofs.lemmas.Grind.{common_steps}
use Rattle.stable_record.specs.Indexing.{without_first}

abbrev first_place : ℕ → List ℕ → ℕ
first_place c xs = position_or_len (λ d. d == c) xs

dropped : (c : ℕ) (xs : List ℕ) → without_first c xs ≡ remove xs (first_place c xs)
dropped c [] = refl
dropped c (x ∷ xs) = go (x == c) (dropped c xs)
  where
    go : (b : Bool) → without_first c xs ≡ remove xs (first_place c xs) → cond b xs (x ∷ without_first c xs) ≡ remove (x ∷ xs) (cond (not b) (1 + first_place c xs) 0)
    go true h = refl
    go false h =
        let next : 1 + first_place c xs ≡ suc (first_place c xs) = omega arith in
        ap (λ (l : List ℕ). x ∷ l) h ∙ ap (λ n. remove (x ∷ xs) n) (sym next)

chosen : (b : Bool) (n i : ℕ) → cond b (Some n) None ≡ Some i → n ≡ i
chosen true n i h = cc
chosen false n i h = cc

-- the place that was found is the first
pub dropped-found : (c : ℕ) (xs : List ℕ) (i : ℕ) → position (λ d. d == c) xs ≡ Some i → remove xs i ≡ without_first c xs
dropped-found c xs i h =
    ap (λ n. remove xs n) (sym (chosen (nat_lt (first_place c xs) (length xs)) (first_place c xs) i h)) ∙ sym (dropped c xs)

none_chosen : (b : Bool) (x : ℕ) → cond b (Some x) None ≡ None → b ≡ false
none_chosen true x h = cc
none_chosen false x h = refl

-- who stands nowhere is taken from nowhere
pub dropped-missing : (c : ℕ) (xs : List ℕ) → position (λ d. d == c) xs ≡ None → without_first c xs ≡ xs
dropped-missing c xs h =
    let n = first_place c xs in
    let past : nat_lt n (length xs) ≡ false = none_chosen (nat_lt n (length xs)) n h in
    let le : length xs ≤ n = grind (arith, common_steps) in
    dropped c xs ∙ ap (λ l. l ++ drop (suc n) xs) (take_all n xs le) ∙ ap (λ l. xs ++ l) (drop_all (suc n) xs (omega (arith, le))) ∙ append-nil xs
