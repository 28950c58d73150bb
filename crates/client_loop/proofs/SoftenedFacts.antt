-- What a client's log has softened, wish after wish.
use Rattle.std.proofs.Common.{◌≡◌, ◌⊎◌, inl, inr, ℕ, ◌+◌, ◌-◌, ◌<◌, Bool, true, false, List, [], ◌∷◌, ◌++◌, length, map, filter, take, get_or, Option, Some, refl, sym, ap, ◌∙◌, arith, if◌then◌else◌}
use Rattle.std.proofs.lemmas.List.{take_more, map-append, append-nil}
use Rattle.std.proofs.lemmas.List.Elements.{filter-append}
use Rattle.event_lines.specs.declared.wishes.Wish.{Wish}
use Rattle.event_recorders.specs.OwnLogs.{OwnLog}
use Rattle.client_loop.specs.Visits.{Use, Tally, AddsUse, AddsAtMost, HasSoftened, softening_uses, softens, tally, use_of, visits_of}

-- one wish more
one_wish : (w : Wish) (does : Bool) → softens w ≡ does → softening_uses (w ∷ []) ≡ (if does then Some (use_of w) ∷ [] else [])
one_wish w true is = rw is refl
one_wish w false is = rw is refl

uses_more : (wishes : List Wish) (i : ℕ) (w other : Wish) → i < length wishes → w ≡ get_or wishes i other → softening_uses (take (i + 1) wishes) ≡ softening_uses (take i wishes) ++ softening_uses (w ∷ [])
uses_more wishes i w other few at =
    ap softening_uses (take_more wishes i other few)
    ∙ ap (λ (ws : List Wish). map (λ (x : Wish). Some (use_of x)) ws) (filter-append (λ (x : Wish). softens x) (take i wishes) (get_or wishes i other ∷ []))
    ∙ map-append (λ (x : Wish). Some (use_of x)) (filter (λ (x : Wish). softens x) (take i wishes)) (filter (λ (x : Wish). softens x) (get_or wishes i other ∷ []))
    ∙ ap (λ (x : Wish). softening_uses (take i wishes) ++ softening_uses (x ∷ [])) (sym at)

-- what a wish that was entered adds
adds_softened : (w : Wish) (does : Bool) (before : List (Option Use)) → softens w ≡ does → (if does then before ++ Some (use_of w) ∷ [] else before) ≡ before ++ softening_uses (w ∷ [])
adds_softened w true before is = rw (one_wish w true is) refl
adds_softened w false before is = rw (one_wish w false is) (sym (append-nil before))

pub wish_softened : (wishes : List Wish) (i n n' : ℕ) (w other : Wish) (l l' : OwnLog) → i < length wishes → w ≡ get_or wishes i other → n ≡ i →
    AddsUse (Some (use_of w)) (softens w) (tally n l) (tally n' l') → HasSoftened wishes n l → HasSoftened wishes n' l'
wish_softened wishes i n n' w other l l' few at count adds before =
    let counted : n' ≡ i + 1 = ap (λ (t : Tally). t.count) adds ∙ ap (λ (k : ℕ). k + 1) count in
    ap (λ (t : Tally). t.softened) adds
    ∙ adds_softened w (softens w) (visits_of l).softened refl
    ∙ ap (λ (us : List (Option Use)). us ++ softening_uses (w ∷ [])) (before ∙ ap (λ (k : ℕ). softening_uses (take k wishes)) count)
    ∙ sym (uses_more wishes i w other few at)
    ∙ ap (λ (k : ℕ). softening_uses (take k wishes)) (sym counted)

-- the same where a fault may have come between the Enter and its Soften
pub wish_half_softened : (wishes : List Wish) (i n n' : ℕ) (w other : Wish) (l l' : OwnLog) → i < length wishes → w ≡ get_or wishes i other → n ≡ i →
    AddsAtMost (Some (use_of w)) (softens w) (tally n l) (tally n' l') → HasSoftened wishes n l → HasSoftened wishes n' l' ⊎ HasSoftened wishes (n' - 1) l'
wish_half_softened wishes i n n' w other l l' few at count (inl none) before =
    inl (ap (λ (t : Tally). t.softened) none ∙ before ∙ ap (λ (k : ℕ). softening_uses (take k wishes)) (sym (ap (λ (t : Tally). t.count) none)))
wish_half_softened wishes i n n' w other l l' few at count (inr (inl half)) before =
    let more : n' ≡ n + 1 = ap (λ (t : Tally). t.count) half in
    let less : n ≡ n' - 1 = omega (arith, more) in
    inr (ap (λ (t : Tally). t.softened) half ∙ before ∙ ap (λ (k : ℕ). softening_uses (take k wishes)) less)
wish_half_softened wishes i n n' w other l l' few at count (inr (inr adds)) before = inl (wish_softened wishes i n n' w other l l' few at count adds before)
