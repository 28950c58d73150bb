-- Reading a line, and writing a text, a part at a time.
use Rattle.std.proofs.Common.{◌≡◌, ℕ, suc, ◌+◌, ◌-◌, ◌<◌, ◌≤◌, min, Bool, true, false, List, [], ◌∷◌, ◌++◌, length, take, drop, Option, Some, None, IfSome, Result, Ok, inl, inr, ◌⊎◌, refl, sym, ap, subst, ◌∙◌, arith, append_assoc}
use Rattle.std.specs.List.{All, onto_first, count_by, slice_split, slice_range, copy_within, list_any}
use Rattle.std.specs.Io.KnownBytes.{prepend_known, Consumes, Keeps, Appends, IsAtEnd}
use Rattle.std.proofs.lemmas.List.{append-nil, take-append-drop, length-take, length-take-le, length-drop, drop-take, drop-drop, take_all, take_at}
use Rattle.std.proofs.lemmas.List.Elements.{All-append}
use Rattle.std.proofs.lemmas.List.Folds.{list_any-append, list_any_none}
use Rattle.std.proofs.KnownBytes.{Consumes-nil, Appends-trans, Consumes-trans, Consumes-kept}
use Rattle.std.proofs.Math.Nat.{min-le_left, le-min}
use Rattle.std.proofs.Math.Seq.{take-add}
use Rattle.std.proofs.lemmas.List.Splits.{slice_split_none, slice_split_at, slice_split-cons_no, length-slice_split}
use Rattle.line_streams.specs.declared.faults.StreamFault.{StreamFault}
use Rattle.line_streams.specs.declared.reading.End.TheVariants.{LineFeed, Input, Limit}
use Rattle.line_streams.specs.Streams.{is_line_feed, pieces, IsPlain, Fetches, TakesHeld, TakesLine, EndsLine, ReadsPiece, Grows, LetsOut, with_gathered}

-- the first part of a list that is cut

parted : {X : Type 0} (xs : List X) (n : ℕ) → length xs ≡ n + 1 → (y : X) × (ys : List X) × (xs ≡ y ∷ ys)
parted [] n h = absurd (omega (arith, h))
parted (y ∷ ys) n h = (y, ys, refl)

pub some_part : {X : Type 0} (p : X → Bool) (xs : List X) → (q : List X) × (qs : List (List X)) × (slice_split p xs ≡ q ∷ qs)
some_part p xs = parted (slice_split p xs) (count_by p xs) (length-slice_split p xs)

-- a front in which nothing passes belongs to the first part
split_front : (p : ℕ → Bool) (front rest : List ℕ) → All (λ x. p x ≡ false) front → (q : List ℕ) × (qs : List (List ℕ)) × (slice_split p (front ++ rest) ≡ (front ++ q) ∷ qs)
split_front p [] rest h = some_part p rest
split_front p (x ∷ front) rest h =
    let (q, qs, e) = split_front p front rest (λ k d inside. h (suc k) d (omega arith)) in
    (q, qs, slice_split-cons_no p x (front ++ rest) (h 0 0 (omega arith)) ∙ ap (onto_first x) e)

-- reading

pub ends_at_feed : (limit : ℕ) (old mid new : Option (List ℕ)) (line front after : List ℕ) → Consumes old mid line → IsPlain line → after ≡ line ++ front → IsPlain front → Consumes mid new (front ++ 10 ∷ []) → ReadsPiece limit old new after LineFeed
ends_at_feed limit None mid new line front after taken plain e more fed = tt
ends_at_feed limit (Some xs) None new line front after taken plain e more fed = absurd taken
ends_at_feed limit (Some xs) (Some ys) None line front after taken plain e more fed = absurd fed
ends_at_feed limit (Some xs) (Some ys) (Some zs) line front after taken plain e more fed =
    let all : xs ≡ (line ++ front) ++ 10 ∷ zs = taken ∙ ap (λ (bs : List ℕ). line ++ bs) (fed ∙ append_assoc front (10 ∷ []) zs) ∙ sym (append_assoc line front (10 ∷ zs)) in
    ap pieces all ∙ slice_split_at is_line_feed (line ++ front) 10 zs (All-append (λ (b : ℕ). is_line_feed b ≡ false) line front plain more) refl
    ∙ ap (λ (bs : List ℕ). bs ∷ pieces zs) (sym e)

pub ends_at_end : (limit : ℕ) (old mid new : Option (List ℕ)) (line : List ℕ) → Consumes old mid line → IsPlain line → Keeps mid new × IsAtEnd mid → ReadsPiece limit old new line Input
ends_at_end limit None mid new line taken plain over = tt
ends_at_end limit (Some xs) None new line taken plain over = absurd taken
ends_at_end limit (Some xs) (Some ys) None line taken plain over = absurd over.0
ends_at_end limit (Some xs) (Some ys) (Some zs) line taken plain over =
    (ap pieces (taken ∙ ap (λ (bs : List ℕ). line ++ bs) over.1 ∙ append-nil line) ∙ slice_split_none is_line_feed line plain, over.0 ∙ over.1)

pub line_ends : (limit most : ℕ) (old mid held new : Option (List ℕ)) (line after : List ℕ) (found fed : Bool) → Consumes old mid line → IsPlain line → Fetches {E = StreamFault} mid held (Ok found) → found ≡ true → TakesHeld {E = StreamFault} most held new line after (Ok fed) → fed ≡ true
    → ReadsPiece limit old new after LineFeed
line_ends limit most old mid held new line after found fed taken plain h e k f =
    let kept : Keeps mid held = subst (λ (b : Bool). Fetches {E = StreamFault} mid held (Ok b)) e h in
    let (front, same, more, few, fedc) = subst (λ (b : Bool). TakesHeld {E = StreamFault} most held new line after (Ok b)) f k in
    ends_at_feed limit old held new line front after (Consumes-kept old mid held line taken kept) plain same more fedc

-- what was taken of a line with the line feed behind it, and without
pub line_taken : (most : ℕ) (old mid held new : Option (List ℕ)) (line after : List ℕ) (found fed : Bool) → Consumes old mid line → IsPlain line → Fetches {E = StreamFault} mid held (Ok found) → found ≡ true → TakesHeld {E = StreamFault} most held new line after (Ok fed) → fed ≡ true
    → IsPlain after × Consumes old new (after ++ 10 ∷ [])
line_taken most old mid held new line after found fed taken plain h e k f =
    let kept : Keeps mid held = subst (λ (b : Bool). Fetches {E = StreamFault} mid held (Ok b)) e h in
    let (front, same, more, few, fedc) = subst (λ (b : Bool). TakesHeld {E = StreamFault} most held new line after (Ok b)) f k in
    let joined : line ++ (front ++ 10 ∷ []) ≡ after ++ 10 ∷ [] = sym (append_assoc line front (10 ∷ [])) ∙ ap (λ (bs : List ℕ). bs ++ 10 ∷ []) (sym same) in (
      subst (λ (bs : List ℕ). IsPlain bs) (sym same) (All-append (λ (b : ℕ). is_line_feed b ≡ false) line front plain more),
      subst (λ (bs : List ℕ). Consumes old new bs) joined (Consumes-trans old held new line (front ++ 10 ∷ []) (Consumes-kept old mid held line taken kept) fedc),
    )

pub part_taken : (most : ℕ) (old mid held new : Option (List ℕ)) (line after : List ℕ) (found fed : Bool) → Consumes old mid line → IsPlain line → Fetches {E = StreamFault} mid held (Ok found) → found ≡ true → TakesHeld {E = StreamFault} most held new line after (Ok fed) → fed ≡ false
    → IsPlain after × Consumes old new after
part_taken most old mid held new line after found fed taken plain h e k f =
    let kept : Keeps mid held = subst (λ (b : Bool). Fetches {E = StreamFault} mid held (Ok b)) e h in
    let (front, same, more, few, fedc) = subst (λ (b : Bool). TakesHeld {E = StreamFault} most held new line after (Ok b)) f k in (
      subst (λ (bs : List ℕ). IsPlain bs) (sym same) (All-append (λ (b : ℕ). is_line_feed b ≡ false) line front plain more),
      subst (λ (bs : List ℕ). Consumes old new bs) (sym same) (Consumes-trans old held new line front (Consumes-kept old mid held line taken kept) fedc),
    )

pub input_ends : (limit : ℕ) (old mid new : Option (List ℕ)) (line : List ℕ) (found : Bool) → Consumes old mid line → IsPlain line → Fetches {E = StreamFault} mid new (Ok found) → found ≡ false → ReadsPiece limit old new line Input
input_ends limit old mid new line found taken plain h e = ends_at_end limit old mid new line taken plain (subst (λ (b : Bool). Fetches {E = StreamFault} mid new (Ok b)) e h)

pub is_too_long : (limit : ℕ) (old new : Option (List ℕ)) (line : List ℕ) → Consumes old new line → IsPlain line → limit < length line → ReadsPiece limit old new line Limit
is_too_long limit None new line taken plain long = tt
is_too_long limit (Some xs) None line taken plain long = absurd taken
is_too_long limit (Some xs) (Some ys) line taken plain long =
    let (q, qs, e) = split_front is_line_feed line ys plain in
    (q, qs, ap pieces taken ∙ e, long)

pub plain_whole : (held : List ℕ) (count : ℕ) → count ≡ length held → IsPlain (take count held) → list_any is_line_feed held ≡ false
plain_whole held count is plain = list_any_none is_line_feed held (subst (λ (bs : List ℕ). IsPlain bs) (take_all count held (omega arith)) plain)

-- what is held ends no line where the first round over it met neither a line feed nor the limit
pub no_end_yet : (limit ahead : ℕ) (held : List ℕ) (before after : ℕ) → before ≡ 0 → length held ≤ ahead
    → ((after ≡ before + (min (limit - before) ahead + 1)) × (min (limit - before) ahead + 1 ≤ length held)) ⊎ ((after ≡ before + length held) × (list_any is_line_feed held ≡ false))
    → after ≤ limit → EndsLine limit held → ⊥
no_end_yet limit ahead held before after none few (inl (is, some)) within ends =
    let least : after ≤ min (limit - before) ahead = le-min (omega arith) (omega arith) in omega arith
no_end_yet limit ahead held before after none few (inr (is, plain)) within (inl feed) = absurd (let z : true ≡ false = sym feed ∙ plain in cc)
no_end_yet limit ahead held before after none few (inr (is, plain)) within (inr long) = absurd (omega arith)

pub some_held : (limit : ℕ) (held : List ℕ) → EndsLine limit held → 0 < length held
some_held limit [] (inl feed) = absurd (let z : false ≡ true = feed in cc)
some_held limit (b ∷ held) (inl feed) = omega arith
some_held limit held (inr long) = omega arith

-- an answer that bytes are held isn't one that none is left
pub is_found : (result : Result Bool StreamFault) (found : Bool) → result ≡ Ok true → result ≡ Ok found → found ≡ false → ⊥
is_found result found held was none = absurd (let z : true ≡ false = cc in cc)

no_bytes_plain : IsPlain []
no_bytes_plain k d inside = absurd (omega arith)

-- what the first round over what is held gives and takes, whatever stands behind: up to a line feed, or
-- more bytes than the limit
pub held_feed : (limit most : ℕ) (start held rest line after : List ℕ) (behind : Option (List ℕ)) (fed : Bool) → held ≡ start → line ≡ [] → TakesHeld {E = StreamFault} most (prepend_known held behind) (prepend_known rest behind) line after (Ok fed) → fed ≡ true
    → ReadsPiece limit (prepend_known start behind) (prepend_known rest behind) after LineFeed × TakesLine {E = StreamFault} (prepend_known start behind) (prepend_known rest behind) after (Ok LineFeed)
held_feed limit most start held rest line after behind fed same none k f =
    let old = prepend_known start behind in
    let new = prepend_known rest behind in
    let (front, is, plain, few, gave) = subst (λ (b : Bool). TakesHeld {E = StreamFault} most (prepend_known held behind) new line after (Ok b)) f k in
    let all : Consumes old new (front ++ 10 ∷ []) = subst (λ (bs : List ℕ). Consumes (prepend_known bs behind) new (front ++ 10 ∷ [])) same gave in
    let alone : after ≡ front = is ∙ ap (λ (bs : List ℕ). bs ++ front) none in (
      ends_at_feed limit old old new [] front after (Consumes-nil old) no_bytes_plain alone plain all,
      (subst (λ (bs : List ℕ). IsPlain bs) (sym alone) plain, subst (λ (bs : List ℕ). Consumes old new (bs ++ 10 ∷ [])) (sym alone) all),
    )

pub held_long : (limit most : ℕ) (start held rest line after : List ℕ) (behind : Option (List ℕ)) (fed : Bool) → held ≡ start → line ≡ [] → TakesHeld {E = StreamFault} most (prepend_known held behind) (prepend_known rest behind) line after (Ok fed) → fed ≡ false → limit < length after
    → ReadsPiece limit (prepend_known start behind) (prepend_known rest behind) after Limit × TakesLine {E = StreamFault} (prepend_known start behind) (prepend_known rest behind) after (Ok Limit)
held_long limit most start held rest line after behind fed same none k f long =
    let old = prepend_known start behind in
    let new = prepend_known rest behind in
    let (front, is, more, few, gave) = subst (λ (b : Bool). TakesHeld {E = StreamFault} most (prepend_known held behind) new line after (Ok b)) f k in
    let alone : after ≡ front = is ∙ ap (λ (bs : List ℕ). bs ++ front) none in
    let plain : IsPlain after = subst (λ (bs : List ℕ). IsPlain bs) (sym alone) more in
    let all : Consumes old new after = subst (λ (bs : List ℕ). Consumes (prepend_known bs behind) new after) same (subst (λ (bs : List ℕ). Consumes (prepend_known held behind) new bs) (sym alone) gave) in (
      is_too_long limit old new after all plain long,
      (plain, subst (λ (bs : List ℕ). Consumes old new bs) (sym (append-nil after)) all),
    )

-- the bytes that are held

few_held : (room : List ℕ) (at end count : ℕ) → count ≤ length (slice_range room at end) → count ≤ end - at
few_held room at end count w =
    let e : length (slice_range room at end) ≡ min (end - at) (length (drop at room)) = length-take (end - at) (drop at room) in
    let m : min (end - at) (length (drop at room)) ≤ end - at = min-le_left (end - at) (length (drop at room)) in
    omega arith

pub held_behind : (room : List ℕ) (at end count : ℕ) → at ≤ end → count ≤ length (slice_range room at end) → drop count (slice_range room at end) ≡ slice_range room (at + count) end
held_behind room at end count o w =
    let f : count ≤ end - at = few_held room at end count w in
    let e : end - at ≡ count + (end - (at + count)) = omega arith in
    ap (λ (n : ℕ). drop count (take n (drop at room))) e ∙ drop-take count (end - (at + count)) (drop at room)
    ∙ ap (λ (bs : List ℕ). take (end - (at + count)) bs) (drop-drop count at room)

pub takes_front : (room : List ℕ) (at end count : ℕ) (remaining : Option (List ℕ)) → at ≤ end → count ≤ length (slice_range room at end)
    → Consumes (prepend_known (slice_range room at end) remaining) (prepend_known (slice_range room (at + count) end) remaining) (take count (slice_range room at end))
takes_front room at end count None o w = tt
takes_front room at end count (Some xs) o w =
    let held = slice_range room at end in
    ap (λ (bs : List ℕ). bs ++ xs) (sym (take-append-drop count held) ∙ ap (λ (bs : List ℕ). take count held ++ bs) (held_behind room at end count o w))
    ∙ append_assoc (take count held) (slice_range room (at + count) end) xs

pub takes_feed : (room : List ℕ) (at end count : ℕ) (remaining : Option (List ℕ)) (rest : List ℕ) → at ≤ end → count ≤ length (slice_range room at end) → drop count (slice_range room at end) ≡ 10 ∷ rest
    → Consumes (prepend_known (slice_range room at end) remaining) (prepend_known (slice_range room (at + count + 1) end) remaining) (take count (slice_range room at end) ++ 10 ∷ [])
takes_feed room at end count remaining rest o w f =
    let within : count ≤ end - at = few_held room at end count w in
    let behind : slice_range room (at + count) end ≡ 10 ∷ rest = sym (held_behind room at end count o w) ∙ f in
    let some : 1 ≤ length (slice_range room (at + count) end) = subst (λ (bs : List ℕ). 1 ≤ length bs) (sym behind) (omega arith) in
    Consumes-trans (prepend_known (slice_range room at end) remaining) (prepend_known (slice_range room (at + count) end) remaining) (prepend_known (slice_range room (at + count + 1) end) remaining)
    (take count (slice_range room at end)) (10 ∷ []) (takes_front room at end count remaining o w)
    (subst (λ (bs : List ℕ). Consumes (prepend_known (slice_range room (at + count) end) remaining) (prepend_known (slice_range room (at + count + 1) end) remaining) bs) (ap (λ (bs : List ℕ). take 1 bs) behind)
    (takes_front room (at + count) end 1 remaining (omega arith) some))

pub has_line_left : (held : List ℕ) (remaining : Option (List ℕ)) → list_any is_line_feed held ≡ true → IfSome (prepend_known held remaining) (λ xs. list_any is_line_feed xs ≡ true)
has_line_left held None h = tt
has_line_left held (Some xs) h = rw (list_any-append is_line_feed held xs, h) refl

-- writing

pub grows_on : (old mid new : Option (List ℕ)) → Grows old mid → Grows mid new → Grows old new
grows_on old mid new p q = (p.0 ++ q.0, Appends-trans old mid new p.0 q.0 p.1 q.1)

pub let_out_grows : (old new : Option (List ℕ)) (gathered rest : List ℕ) → LetsOut old new gathered rest → Grows old new
let_out_grows old new gathered rest h = (h.0, h.2)

-- one more part is gathered
pub gathers : (written : Option (List ℕ)) (gathered more after : List ℕ) → after ≡ gathered ++ more → Appends (with_gathered written gathered) (with_gathered written after) more
gathers None gathered more after e = tt
gathers (Some xs) gathered more after e = ap (λ (bs : List ℕ). xs ++ bs) e ∙ sym (append_assoc xs gathered more)

-- one more part of a text
pub front_more : (text front rest behind : List ℕ) (n : ℕ) → text ≡ front ++ rest → behind ≡ drop n rest → text ≡ (front ++ take n rest) ++ behind
front_more text front rest behind n e f =
    e ∙ ap (λ (bs : List ℕ). front ++ bs) (sym (take-append-drop n rest) ∙ ap (λ (bs : List ℕ). take n rest ++ bs) (sym f)) ∙ sym (append_assoc front (take n rest) behind)

pub wrote_more : (text rest : List ℕ) (count some : ℕ) (old mid new : Option (List ℕ)) → rest ≡ drop count text → Appends old mid (take count text) → Appends mid new (take some rest) → Appends old new (take (count + some) text)
wrote_more text rest count some old mid new e p q =
    subst (λ (bs : List ℕ). Appends old new bs) (ap (λ (bs : List ℕ). take count text ++ take some bs) e ∙ sym (take-add count some text))
    (Appends-trans old mid new (take count text) (take some rest) p q)

pub few_more : (text rest : List ℕ) (count some : ℕ) → count ≤ length text → rest ≡ drop count text → some ≤ length rest → count + some ≤ length text
few_more text rest count some w e b =
    let l : length rest ≡ length text - count = ap length e ∙ length-drop count text in
    omega arith

-- what was not written moves to the front
pub rest_kept : (room after : List ℕ) (end count : ℕ) → count ≤ length (take end room) → end ≤ length room → after ≡ copy_within room count end 0 → take end room ≡ take count (take end room) ++ take (end - count) after
rest_kept room after end count w r e =
    let n = end - count in
    let all : length (take end room) ≡ end = length-take-le end room r in
    let behind : length (drop count room) ≡ length room - count = length-drop count room in
    let enough : n ≤ length (drop count room) = omega arith in
    let len : length (take n (drop count room)) ≡ n = length-take-le n (drop count room) enough in
    let a : take n after ≡ take n (drop count room) = ap (λ (bs : List ℕ). take n bs) e ∙ take_at (take n (drop count room)) (drop (0 + n) room) n len in
    let sum : end ≡ count + n = omega arith in
    let b : drop count (take end room) ≡ take n (drop count room) = ap (λ (k : ℕ). drop count (take k room)) sum ∙ drop-take count n room in
    sym (take-append-drop count (take end room)) ∙ ap (λ (bs : List ℕ). take count (take end room) ++ bs) (b ∙ sym a)
