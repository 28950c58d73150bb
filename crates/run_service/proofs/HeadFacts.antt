-- A head that was read is read again where its settings, the line of dashes and other lines stand.
use Rattle.std.proofs.Common.{◌≡◌, ℕ, Bool, true, false, cond, nat_lt, List, [], ◌∷◌, ◌++◌, length, Option, Some, None, Result, Ok, Err, codes, refl, sym, ap, subst, ◌∙◌, append_assoc}
use Rattle.std.specs.List.{All, onto_first}
use Rattle.std.specs.Str.{bytes_eq}
use Rattle.std.proofs.lemmas.List.Elements.{All-nil, All-cons, All-head, All-tail, All-from_recursion}
use Rattle.std.proofs.lemmas.List.Splits.{slice_split_at}
use Rattle.std.proofs.lemmas.Option.{same_Some}
use Rattle.line_streams.specs.Streams.{is_line_feed, pieces, lines_in, IsPlain}
use Rattle.world_settings.specs.declared.faults.SettingsFault.{SettingsFault}
use Rattle.world_settings.specs.declared.faults.SettingsFault.TheVariants as settings
use Rattle.world_settings.specs.declared.heads.TheConstants.{HEAD_ROOM}
use Rattle.world_settings.specs.Heads.{dashes, with_line, parts_at_dashes, within_room, head_of}

abbrev Feedless : ℕ → Type 0
Feedless b = is_line_feed b ≡ false

abbrev ArePlain : List (List ℕ) → Type 0
ArePlain ps = All IsPlain ps

-- pieces have no line feeds

onto_plain : (b : ℕ) (ps : List (List ℕ)) → Feedless b → ArePlain ps → ArePlain (onto_first b ps)
onto_plain b [] e h = All-cons IsPlain (b ∷ []) [] (All-cons Feedless b [] e (All-nil Feedless)) (All-nil IsPlain)
onto_plain b (p ∷ ps) e h = All-cons IsPlain (b ∷ p) ps (All-cons Feedless b p e (All-head IsPlain p ps h)) (All-tail IsPlain p ps h)

next_plain : (t : Bool) (b : ℕ) (ps : List (List ℕ)) → is_line_feed b ≡ t → ArePlain ps → ArePlain (cond t ([] ∷ ps) (onto_first b ps))
next_plain true b ps e h = All-cons IsPlain [] ps (All-nil Feedless) h
next_plain false b ps e h = onto_plain b ps e h

pieces_plain : (xs : List ℕ) → ArePlain (pieces xs)
pieces_plain [] = All-cons IsPlain [] [] (All-nil Feedless) (All-nil IsPlain)
pieces_plain (b ∷ xs) = next_plain (is_line_feed b) b (pieces xs) refl (pieces_plain xs)

dashes_plain : IsPlain dashes
dashes_plain = All-from_recursion Feedless dashes (refl, (refl, (refl, tt)))

abbrev Parts : Type 0
Parts = Option (List ℕ × List (List ℕ))

abbrev the_ok : {A : Type 0} → A → Result A SettingsFault
the_ok x = Ok x

ok_same : {A : Type 0} (x y : A) → the_ok x ≡ the_ok y → x ≡ y
ok_same x y h = cc

at_dashes : (rest : List ℕ) → parts_at_dashes (pieces (codes "---\n" ++ rest)) ≡ Some ([], pieces rest)
at_dashes rest = ap parts_at_dashes (slice_split_at is_line_feed dashes 10 rest dashes_plain refl)

behind_line : (p : List ℕ) (parts : Parts) (head : List ℕ) (others : List (List ℕ)) → with_line p parts ≡ Some (head, others)
    → (more : List ℕ) × (parts ≡ Some (more, others)) × (head ≡ p ++ codes "\n" ++ more)
behind_line p None head others h = let clash : None ≡ Some (head, others) = h in absurd (cc)
behind_line p (Some parts) head others h =
    let same = same_Some (p ++ codes "\n" ++ parts.0, parts.1) (head, others) h in
    let rest : parts.1 ≡ others = ap (λ (q : List ℕ × List (List ℕ)). q.1) same in
    (parts.0, ap (λ (os : List (List ℕ)). Some (parts.0, os)) rest, sym (ap (λ (q : List ℕ × List (List ℕ)). q.0) same))

-- the text behind the first piece
first_cut : (p more rest : List ℕ) → IsPlain p → pieces ((p ++ codes "\n" ++ more) ++ codes "---\n" ++ rest) ≡ p ∷ pieces (more ++ codes "---\n" ++ rest)
first_cut p more rest plain =
    let line = p ++ codes "\n" in
    ap (λ (bs : List ℕ). pieces (bs ++ rest)) (append_assoc line more (codes "---\n")) ∙ ap pieces (append_assoc line (more ++ codes "---\n") rest)
    ∙ ap pieces (append_assoc p (codes "\n") (more ++ codes "---\n" ++ rest)) ∙ slice_split_at is_line_feed p 10 (more ++ codes "---\n" ++ rest) plain refl

abbrev Again : List ℕ → List ℕ → Type 0
Again head rest = parts_at_dashes (pieces (head ++ codes "---\n" ++ rest)) ≡ Some (head, pieces rest)

at_piece : (t : Bool) (p : List ℕ) (ps : List (List ℕ)) (head : List ℕ) (others : List (List ℕ)) (rest : List ℕ) → bytes_eq p dashes ≡ t → IsPlain p
    → ((more : List ℕ) → parts_at_dashes ps ≡ Some (more, others) → Again more rest) → cond {A = Parts} t (Some ([], ps)) (with_line p (parts_at_dashes ps)) ≡ Some (head, others) → Again head rest
at_piece true p ps head others rest e plain next h =
    let none : [] ≡ head = ap (λ (q : List ℕ × List (List ℕ)). q.0) (same_Some ([], ps) (head, others) h) in
    subst (λ (hs : List ℕ). Again hs rest) none (at_dashes rest)
at_piece false p ps head others rest e plain next h =
    let (more, found, whole) = behind_line p (parts_at_dashes ps) head others h in
    let text = more ++ codes "---\n" ++ rest in
    subst (λ (hs : List ℕ). Again hs rest) (sym whole)
    (ap parts_at_dashes (first_cut p more rest plain) ∙ ap (λ (b : Bool). cond {A = Parts} b (Some ([], pieces text)) (with_line p (parts_at_dashes (pieces text)))) e
    ∙ ap (with_line p) (next more found))

again : (ps : List (List ℕ)) (head : List ℕ) (others : List (List ℕ)) (rest : List ℕ) → ArePlain ps → parts_at_dashes ps ≡ Some (head, others) → Again head rest
again [] head others rest all h = let clash : None ≡ Some (head, others) = h in absurd (cc)
again (p ∷ ps) head others rest all h = at_piece (bytes_eq p dashes) p ps head others rest refl (All-head IsPlain p ps all) (λ more found. again ps more others rest (All-tail IsPlain p ps all) found) h

-- the room is large enough

abbrev Found : Type 0
Found = Result (List ℕ × List (List ℕ)) SettingsFault

by_room : (t : Bool) (parts : List ℕ × List (List ℕ)) (head : List ℕ) (lines : List (List ℕ)) → nat_lt (length parts.0) HEAD_ROOM ≡ t
    → cond {A = Found} t (Ok (parts.0, lines_in parts.1)) (Err settings.NoEnd) ≡ Ok (head, lines) → (parts.0 ≡ head) × (nat_lt (length head) HEAD_ROOM ≡ true)
by_room true parts head lines e h =
    let same = ap (λ (q : List ℕ × List (List ℕ)). q.0) (ok_same (parts.0, lines_in parts.1) (head, lines) h) in
    (same, subst (λ (hs : List ℕ). nat_lt (length hs) HEAD_ROOM ≡ true) same e)
by_room false parts head lines e h = let clash : Err settings.NoEnd ≡ Ok (head, lines) = h in cc

found_in_room : (o : Parts) (head : List ℕ) (lines : List (List ℕ)) → within_room o ≡ Ok (head, lines)
    → (others : List (List ℕ)) × (o ≡ Some (head, others)) × (nat_lt (length head) HEAD_ROOM ≡ true)
found_in_room None head lines h = let clash : Err settings.NoEnd ≡ Ok (head, lines) = h in cc
found_in_room (Some parts) head lines h =
    let (same, few) = by_room (nat_lt (length parts.0) HEAD_ROOM) parts head lines refl h in
    (parts.1, ap (λ (hs : List ℕ). Some (hs, parts.1)) same, few)

pub read_again : (xs head : List ℕ) (lines : List (List ℕ)) (rest : List ℕ) → head_of (pieces xs) ≡ Ok (head, lines) → head_of (pieces (head ++ codes "---\n" ++ rest)) ≡ Ok (head, lines_in (pieces rest))
unfolding head_of
read_again xs head lines rest h =
    let (others, found, few) = found_in_room (parts_at_dashes (pieces xs)) head lines h in
    ap within_room (again (pieces xs) head others rest (pieces_plain xs) found) ∙ ap (λ (b : Bool). cond {A = Found} b (Ok (head, lines_in (pieces rest))) (Err settings.NoEnd)) few
