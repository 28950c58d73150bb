-- Settling by one pass that writes each entry in its place.
use Rattle.std.proofs.Common.{◌≡◌, ℕ, ◌+◌, ◌<◌, List, [], ◌∷◌, ◌++◌, length, get_or, set, take, drop, sym, ◌∙◌, ap, arith}
use Rattle.std.proofs.lemmas.List.{append_assoc, append-nil, take_more, take_more_set, drop_more, drop-set-lt, length-set, take-append-drop, length-take-le}
use Rattle.lock_messages.specs.declared.messages.Message.{Message}
use Rattle.lock_model.specs.declared.entries.Entry.{Entry}
use Rattle.lock_model.specs.declared.problems.Problem.{Problem}
use Rattle.lock_model.specs.ExactStations.{settled_entry, settle, settled}
use Rattle.lock_model.specs.ExactDecisions.{told, grants}

-- the first k entries have settled, the others are as they were, and the Grants of the first are told
pub record SettledUpTo (p : Problem) (n : ℕ) (old : List Entry) (first : List Message) (k : ℕ) (now : List Entry) (replies : List Message) : Type 0 where
  pub size : length now ≡ length old
  pub goes_on : take k now ++ settle p (take k now) (drop k now) ≡ settled p old
  pub rest : drop k now ≡ drop k old
  pub told_so : replies ≡ first ++ grants n (take k old) (take k now)

grants-push : (n : ℕ) (es fs : List Entry) (e f : Entry) → length es ≡ length fs → grants n (es ++ e ∷ []) (fs ++ f ∷ []) ≡ grants n es fs ++ told n e f
grants-push n [] [] e f h = append-nil (told n e f)
grants-push n [] (g ∷ fs) e f h = absurd (omega arith)
grants-push n (d ∷ es) [] e f h = absurd (omega arith)
grants-push n (d ∷ es) (g ∷ fs) e f h = ap (λ ms. told n d g ++ ms) (grants-push n es fs e f (omega arith)) ∙ sym (append_assoc (told n d g) (grants n es fs) (told n e f))

pub settled-more : (p : Problem) (n : ℕ) (old : List Entry) (first : List Message) (k : ℕ) (now : List Entry) (replies : List Message) (e : Entry) → SettledUpTo p n old first k now replies →
    k < length now → e ≡ get_or now k e → (more : List Message) → more ≡ replies ++ told n e (settled_entry p now e) → SettledUpTo p n old first (k + 1) (set now k (settled_entry p now e)) more
settled-more p n old first k now replies e s below is more said =
    let f = settled_entry p now e in
    let inside : k < length old = omega (arith, s.size) in
    let split : drop k now ≡ e ∷ drop (k + 1) now = drop_more now k e below ∙ ap (λ x. x ∷ drop (k + 1) now) (sym is) in
    let whole : take k now ++ e ∷ drop (k + 1) now ≡ now = ap (λ xs. take k now ++ xs) (sym split) ∙ take-append-drop k now in
    let front : take (k + 1) (set now k f) ≡ take k now ++ f ∷ [] = take_more_set now k f below in
    let behind : drop (k + 1) (set now k f) ≡ drop (k + 1) now = drop-set-lt (k + 1) now k f (omega arith) in
    let turn : settle p (take k now) (drop k now) ≡ f ∷ settle p (take k now ++ f ∷ []) (drop (k + 1) now) =
    ap (settle p (take k now)) split ∙ ap (λ xs. let g = settled_entry p xs e in g ∷ settle p (take k now ++ g ∷ []) (drop (k + 1) now)) whole in
    let old_split : drop k old ≡ get_or old k e ∷ drop (k + 1) old = drop_more old k e inside in
    let heads : e ∷ drop (k + 1) now ≡ get_or old k e ∷ drop (k + 1) old = sym split ∙ s.rest ∙ old_split in
    let same : e ≡ get_or old k e = cc in
    let same_rest : drop (k + 1) now ≡ drop (k + 1) old = cc in
    let old_front : take (k + 1) old ≡ take k old ++ e ∷ [] = take_more old k e inside ∙ ap (λ x. take k old ++ x ∷ []) (sym same) in
    let sizes : length (take k old) ≡ length (take k now) = length-take-le k old (omega arith) ∙ sym (length-take-le k now (omega arith)) in
    record {
      size = length-set now k f ∙ s.size;
      goes_on = ap (λ xs. xs ++ settle p xs (drop (k + 1) (set now k f))) front ∙ ap (λ ys. take k now ++ f ∷ [] ++ settle p (take k now ++ f ∷ []) ys) behind
          ∙ append_assoc (take k now) (f ∷ []) (settle p (take k now ++ f ∷ []) (drop (k + 1) now)) ∙ ap (λ xs. take k now ++ xs) (sym turn) ∙ s.goes_on;
      rest = behind ∙ same_rest;
      told_so = said ∙ ap (λ ms. ms ++ told n e f) s.told_so ∙ append_assoc first (grants n (take k old) (take k now)) (told n e f)
          ∙ ap (λ ms. first ++ ms) (sym (grants-push n (take k old) (take k now) e f sizes) ∙ ap (λ es. grants n es (take k now ++ f ∷ [])) (sym old_front) ∙ ap (grants n (take (k + 1) old)) (sym front));
    }
