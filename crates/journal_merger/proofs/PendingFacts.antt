-- What is left of journals.
use Rattle.std.proofs.Common.{◌≡◌, ◌==◌, ◌⊎◌, ℕ, ◌+◌, ◌<◌, Bool, true, false, List, [], ◌∷◌, ◌++◌, length, length-append, Option, Some, None, refl, sym, ◌∙◌, ap, subst, inl, inr, set, zero, suc, arith}
use Rattle.std.specs.Prelude.{slice_get, slice_set}
use Rattle.std.proofs.lemmas.Bool.{eqb-true, eq-eqb}
use Rattle.std.proofs.lemmas.List.{get_or-set_same}
use Rattle.std.proofs.lemmas.Option.{slice_get-get_or, slice_get_within}
use Rattle.std.proofs.Math.ListN.{length-set}
use Rattle.lock_messages.specs.declared.ids.Actor.{Actor}
use Rattle.line_streams.specs.declared.reading.End.{End}
use Rattle.line_streams.specs.declared.reading.End.TheVariants.{LineFeed, Input, Limit}
use Rattle.line_streams.specs.Streams.{is_line_feed, pieces, ReadsPiece}
use Rattle.line_streams.proofs.StreamFacts.{some_part}
use Rattle.world_model.specs.Parts.{place}
use Rattle.own_journals.specs.declared.lines.OwnLine.{OwnLine}
use Rattle.own_journals.specs.declared.lines.OwnLine.TheVariants as own
use Rattle.event_lines.specs.Events.{event_text}
use Rattle.own_journals.specs.OwnLines.{IsText, ReadsLine}
use Rattle.own_journals.specs.declared.faults.OwnLineFault.{OwnLineFault}
use Rattle.own_journals.specs.declared.faults.OwnLineFault.TheVariants as fault
use Rattle.world_model.specs.Numbered.{get-last}
use Rattle.std.specs.Prelude.{Result, Ok, Err, IfErr, OnOk, OnErr}
use Rattle.journal_merger.specs.declared.faults.JournalsFault.{JournalsFault}
use Rattle.journal_merger.specs.declared.faults.JournalsFault.TheVariants as journals
use Rattle.journal_merger.specs.declared.reading.TheConstants.{MAX_OWN_LINE_LEN}
use Rattle.journal_merge.specs.LineMerges.{Journals}
use Rattle.journal_merger.specs.Pendings.{whole_lines, AreTexts, HasLines, Pending, IsLeft, AreLeft, AreApart, IsOnlyText, journals_fault_of, ReadsNext, IsRead, one_more, Adds, owner, BeginsWithNoLine, IsNoText, IsReadFault, IsSpelledBy, HasActor, IsAddFault}

-- a line that was read

pub only-text : (bytes : List ℕ) (l : OwnLine) → ReadsLine bytes (Ok l) → IsOnlyText bytes l
only-text bytes l h = record { is = h.found; only = λ other text. go other (h.only other text) }
  where
    go : (other : OwnLine) → (◌≡◌ {A = Result OwnLine OwnLineFault} (Ok l) (Ok other)) ⊎ (◌≡◌ {A = Result OwnLine OwnLineFault} (Ok l) (Err fault.Memory)) → other ≡ l
    go other (inl e) = cc
    go other (inr e) = cc

whole-more : (p ys : List ℕ) → whole_lines (p ∷ pieces ys) ≡ p ∷ whole_lines (pieces ys)
whole-more p ys = let (q, qs, e) = some_part is_line_feed ys in ap (λ ps. whole_lines (p ∷ ps)) e ∙ ap (λ ps. p ∷ whole_lines ps) (sym e)

pub fed-next : (limit : ℕ) (old new : Option (List ℕ)) (piece : List ℕ) (l : OwnLine) → ReadsPiece limit old new piece LineFeed → IsOnlyText piece l → ReadsNext old (Some l) new
fed-next limit None new piece l h is = tt
fed-next limit (Some xs) None piece l h is = absurd h
fed-next limit (Some xs) (Some ys) piece l h is = (piece, ap whole_lines h ∙ whole-more piece ys, is)

pub last-next : (limit : ℕ) (old new : Option (List ℕ)) (piece : List ℕ) → ReadsPiece limit old new piece Input → ReadsNext old None new
last-next limit None new piece h = tt
last-next limit (Some xs) new piece h = ap whole_lines h.0

pub read-next : (limit : ℕ) (old new : Option (List ℕ)) (piece bytes : List ℕ) (end : End) (next : Option OwnLine) → bytes ≡ piece → end ≡ LineFeed → ReadsPiece limit old new piece end → (l : OwnLine) × (next ≡ Some l) × IsOnlyText bytes l → ReadsNext old next new
read-next limit old new piece bytes end next same fed h (l, is, text) =
    subst (λ n. ReadsNext old n new) (sym is) (fed-next limit old new piece l (subst (ReadsPiece limit old new piece) fed h) (subst (λ bs. IsOnlyText bs l) same text))

pub read-last : (limit : ℕ) (old new : Option (List ℕ)) (piece : List ℕ) (end : End) → end ≡ Input → ReadsPiece limit old new piece end → ReadsNext old None new
read-last limit old new piece end last h = last-next limit old new piece (subst (ReadsPiece limit old new piece) last h)

-- the lines before a read, and after it

pub left-on : (rest : Option (List ℕ)) (next : Option OwnLine) (after : Option (List ℕ)) (more : List OwnLine) → ReadsNext rest next after → HasLines ⊥ rest more → IsLeft ⊥ next after more
left-on None next after more h lines = absurd lines
left-on (Some text) None after more h lines = subst (λ ps. AreTexts ps more) h lines
left-on (Some text) (Some l) None more h lines = absurd h
left-on (Some text) (Some l) (Some ys) more h lines =
    let t : AreTexts (h.0 ∷ whole_lines (pieces ys)) more = subst (λ ps. AreTexts ps more) h.1 lines in
    (t.1, t.2 ∙ ap (λ x. x ∷ t.1) (h.2.only t.0 t.3), t.4)

pub left-back : (rest : Option (List ℕ)) (next : Option OwnLine) (after : Option (List ℕ)) (more : List OwnLine) → ReadsNext rest next after → IsLeft (Unit {0}) next after more → HasLines (Unit {0}) rest more
left-back None next after more h left = tt
left-back (Some text) None after more h left = subst (λ ps. AreTexts ps more) (sym h) left
left-back (Some text) (Some l) None more h left = absurd h
left-back (Some text) (Some l) (Some ys) more h left = subst (λ ps. AreTexts ps more) (sym h.1) (l, left.0, left.1, h.2.is, left.2)

-- a list in which one was put

get-set-there : {A : Type 0} (xs : List A) (i j : ℕ) (y : A) → (j ≡ i → ⊥) → slice_get (set xs i y) j ≡ slice_get xs j
get-set-there [] i j y apart = refl
get-set-there (x ∷ xs) zero zero y apart = absurd (apart refl)
get-set-there (x ∷ xs) zero (suc j) y apart = refl
get-set-there (x ∷ xs) (suc i) zero y apart = refl
get-set-there (x ∷ xs) (suc i) (suc j) y apart = get-set-there xs i j y (λ e. apart (ap suc e))

get-set-here : {A : Type 0} (xs : List A) (i : ℕ) (y : A) → i < length xs → slice_get (set xs i y) i ≡ Some y
get-set-here xs i y within =
    slice_get-get_or (set xs i y) i y (let w : i < length (set xs i y) = omega (arith, within, length-set xs i y) in w) ∙ ap Some (get_or-set_same xs i y y within)

-- a journal that was read on

pub is-read : (i : ℕ) (old : List Pending) (p q : Pending) → slice_get old i ≡ Some p → q.who ≡ p.who → q.number ≡ one_more p.number → ReadsNext p.rest q.next q.rest → IsRead i old (slice_set old i q)
is-read i old p q was who number reads = record {
  before = p;
  after = q;
  was = was;
  now = get-set-here old i q (slice_get_within old i p was);
  others = λ j apart. get-set-there old i j q apart;
  who = who;
  number = number;
  reads = reads;
}

pub read-on : (i : ℕ) (items old : List Pending) (p q : Pending) (r : Result (Unit {0}) JournalsFault) → items ≡ old → slice_get items i ≡ Some p → q.who ≡ p.who → OnOk r (q.number ≡ one_more p.number) → OnOk r (ReadsNext p.rest q.next q.rest) → OnOk r (IsRead i old (slice_set items i q))
read-on i items old p q (Ok tt) same was who number reads = subst (λ ps. IsRead i ps (slice_set items i q)) same (is-read i items p q was who number reads)
read-on i items old p q (Err e) same was who number reads = tt

-- what holds of one journal is apart from what holds of another

pub by-place : {P : Type 0} (i j : ℕ) → (i ≡ j → P) → ((i ≡ j → ⊥) → P) → P
by-place {P} i j same apart = go (i == j) refl
  where
    go : (t : Bool) → (i == j) ≡ t → P
    go true e = same (eqb-true i j e)
    go false e = apart (λ q. let z : true ≡ false = sym (eq-eqb i j q) ∙ e in cc)

was-there : (i : ℕ) (old new : List Pending) (r : IsRead i old new) (j : ℕ) (p : Pending) → slice_get new j ≡ Some p → (q : Pending) × (slice_get old j ≡ Some q) × (q.who ≡ p.who)
was-there i old new r j p h = by-place j i
    (λ same. let z : Some r.after ≡ Some p = sym r.now ∙ ap (slice_get new) (sym same) ∙ h in let e : r.after ≡ p = cc in (r.before, ap (slice_get old) same ∙ r.was, sym r.who ∙ ap (λ (x : Pending). x.who) e))
    (λ apart. (p, sym (r.others j apart) ∙ h, refl))

pub apart-stays : (i : ℕ) (old new : List Pending) → IsRead i old new → AreApart old → AreApart new
apart-stays i old new r apart j k p q at there who =
    let one = was-there i old new r j p at in
    let other = was-there i old new r k q there in
    apart j k one.0 other.0 one.1 other.1 (one.2 ∙ who ∙ sym other.2)

was-set : (i : ℕ) (old : List Pending) (p q : Pending) → slice_get old i ≡ Some p → q.who ≡ p.who → (j : ℕ) (x : Pending) → slice_get (slice_set old i q) j ≡ Some x → (y : Pending) × (slice_get old j ≡ Some y) × (y.who ≡ x.who)
was-set i old p q was who j x h = by-place j i
    (λ same. let z : Some q ≡ Some x = sym (get-set-here old i q (slice_get_within old i p was)) ∙ ap (slice_get (slice_set old i q)) (sym same) ∙ h in let e : q ≡ x = cc in (p, ap (slice_get old) same ∙ was, sym who ∙ ap (λ (y : Pending). y.who) e))
    (λ apart. (x, sym (get-set-there old i j q apart) ∙ h, refl))

pub apart-set : (i : ℕ) (old : List Pending) (p q : Pending) → slice_get old i ≡ Some p → q.who ≡ p.who → AreApart old → AreApart (slice_set old i q)
apart-set i old p q was who apart j k x y at there same =
    let one = was-set i old p q was who j x at in
    let other = was-set i old p q was who k y there in
    apart j k one.0 other.0 one.1 other.1 (one.2 ∙ same ∙ sym other.2)

-- lines that are left, as one journal is read on, and the other way round

pub left-moves : (unknown : Type 0) (i : ℕ) (old new : List Pending) (p q : Pending) (before after : Journals) → slice_get old i ≡ Some p → slice_get new i ≡ Some q → ((j : ℕ) → (j ≡ i → ⊥) → slice_get new j ≡ slice_get old j) → q.who ≡ p.who → AreApart new →
    AreLeft unknown old before → ((other : Actor) → (other ≡ p.who → ⊥) → after other ≡ before other) → IsLeft unknown q.next q.rest (after q.who) → AreLeft unknown new after
left-moves unknown i old new p q before after was now others who apart left same here = record { here = at; only = none }
  where
    at : (j : ℕ) (x : Pending) → slice_get new j ≡ Some x → IsLeft unknown x.next x.rest (after x.who)
    at j x h = by-place j i
        (λ e. let z : Some q ≡ Some x = sym now ∙ ap (slice_get new) (sym e) ∙ h in let is : q ≡ x = cc in subst (λ (y : Pending). IsLeft unknown y.next y.rest (after y.who)) is here)
        (λ e. subst (λ lines. IsLeft unknown x.next x.rest lines) (sym (same x.who (λ w. e (apart j i x q h now (w ∙ sym who))))) (left.here j x (sym (others j e) ∙ h)))

    none : (whose : Actor) → ((j : ℕ) (x : Pending) → slice_get new j ≡ Some x → x.who ≡ whose → ⊥) → after whose ≡ []
    none whose absent =
        same whose (λ w. absent i q now (who ∙ sym w))
        ∙ left.only whose (λ j x h w. by-place j i
        (λ e. let z : Some p ≡ Some x = sym was ∙ ap (slice_get old) (sym e) ∙ h in let is : p ≡ x = cc in absent i q now (who ∙ ap (λ (y : Pending). y.who) is ∙ w))
        (λ e. absent j x (others j e ∙ h) w))

-- a journal more

pub apart-more : (old : List Pending) (p : Pending) → AreApart old → ((i : ℕ) (q : Pending) → slice_get old i ≡ Some q → (place q.who == place p.who) ≡ false) → AreApart (old ++ p ∷ [])
apart-more old p apart new i j x y at there who = go (get-last old p i x at) (get-last old p j y there)
  where
    other : (k : ℕ) (q : Pending) → slice_get old k ≡ Some q → q.who ≡ p.who → ⊥
    other k q h e = let z : true ≡ false = sym (eq-eqb (place q.who) (place p.who) (ap place e)) ∙ new k q h in cc

    go : (slice_get old i ≡ Some x) ⊎ ((i ≡ length old) × (p ≡ x)) → (slice_get old j ≡ Some y) ⊎ ((j ≡ length old) × (p ≡ y)) → i ≡ j
    go (inl a) (inl b) = apart i j x y a b who
    go (inl a) (inr b) = absurd (other i x a (who ∙ ap (λ (q : Pending). q.who) (sym b.1)))
    go (inr a) (inl b) = absurd (other j y b (sym who ∙ ap (λ (q : Pending). q.who) (sym a.1)))
    go (inr a) (inr b) = a.0 ∙ sym b.0

pub apart-pushed : (old shown new : List Pending) (p : Pending) → shown ≡ old → new ≡ old ++ p ∷ [] → AreApart old → ((i : ℕ) (q : Pending) → slice_get shown i ≡ Some q → (place q.who == place p.who) ≡ false) → AreApart new
apart-pushed old shown new p same is apart none = subst AreApart (sym is) (apart-more old p apart (λ i q at. none i q (ap (λ (xs : List Pending). slice_get xs i) same ∙ at)))

pub was-added : (old items new : List Pending) (text source rest : Option (List ℕ)) (p : Pending) (next : Option OwnLine) (l : OwnLine) → items ≡ old → new ≡ items ++ p ∷ [] → source ≡ text → ReadsNext source next rest → next ≡ Some l → rest ≡ p.rest → p.number ≡ 1 → p.next ≡ Some l → p.who ≡ owner l → Adds old text new
was-added old items new text source rest p next l same is from reads some left number has who =
    (p, is ∙ ap (λ (xs : List Pending). xs ++ p ∷ []) same, subst (λ t. ReadsNext t p.next p.rest) from (subst (λ n. ReadsNext source n p.rest) (some ∙ sym has) (subst (λ r. ReadsNext source next r) left reads)), number, (l, has, who))

pub on-ok : {P : Type 0} (r : Result (Unit {0}) JournalsFault) (x : Unit {0}) → r ≡ Ok x → P → OnOk r P
on-ok {P} r x is p = subst (λ (s : Result (Unit {0}) JournalsFault). OnOk s P) (sym is) p

pub not-ok : (P : Type 0) (r : Result (Unit {0}) JournalsFault) (e : JournalsFault) → r ≡ Err e → OnOk r P
not-ok P r e is = subst (λ (s : Result (Unit {0}) JournalsFault). OnOk s P) (sym is) tt

pub on-err : {P : Type 0} (r : Result (Unit {0}) JournalsFault) (e : JournalsFault) → r ≡ Err e → P → OnErr r P
on-err {P} r e is p = subst (λ (s : Result (Unit {0}) JournalsFault). OnErr s P) (sym is) p

pub not-err : (P : Type 0) (r : Result (Unit {0}) JournalsFault) (x : Unit {0}) → r ≡ Ok x → OnErr r P
not-err P r x is = subst (λ (s : Result (Unit {0}) JournalsFault). OnErr s P) (sym is) tt

pub none-more : (pending : List Pending) (who : Actor) (n : ℕ) (q : Pending) → slice_get pending n ≡ Some q → (place q.who == place who) ≡ false →
    ((i : ℕ) (p : Pending) → i < n → slice_get pending i ≡ Some p → (place p.who == place who) ≡ false) → (i : ℕ) (p : Pending) → i < n + 1 → slice_get pending i ≡ Some p → (place p.who == place who) ≡ false
none-more pending who n q at apart all i p less h = by-place i n
    (λ e. let z : Some q ≡ Some p = sym at ∙ ap (slice_get pending) (sym e) ∙ h in let is : q ≡ p = cc in subst (λ (x : Pending). (place x.who == place who) ≡ false) is apart)
    (λ e. all i p (let other : (i ≡ n) → ⊥ = e in omega (arith, less, other)) h)

-- why no line was read

no-line : (bytes : List ℕ) → ReadsLine bytes (Err fault.NoLine) → (l : OwnLine) → IsText bytes l → ⊥
no-line bytes h l text = go (h.only l text)
  where
    go : (◌≡◌ {A = Result OwnLine OwnLineFault} (Err fault.NoLine) (Ok l)) ⊎ (◌≡◌ {A = Result OwnLine OwnLineFault} (Err fault.NoLine) (Err fault.Memory)) → ⊥
    go (inl e) = cc
    go (inr e) = cc

pub no-text : (bytes : List ℕ) (f : OwnLineFault) → ReadsLine bytes (Err f) → IsNoText bytes (journals_fault_of f)
no-text bytes fault.NoLine h = record { one_of = inl refl; line = λ e. no-line bytes h }
no-text bytes fault.Memory h = record { one_of = inr refl; line = λ e. let z : journals.Memory ≡ journals.NoLine = e in cc }

fed-no-line : (limit : ℕ) (old new : Option (List ℕ)) (piece : List ℕ) → ReadsPiece limit old new piece LineFeed → ((l : OwnLine) → IsText piece l → ⊥) → BeginsWithNoLine old
fed-no-line limit None new piece h none = tt
fed-no-line limit (Some xs) None piece h none = absurd h
fed-no-line limit (Some xs) (Some ys) piece h none = (piece, pieces ys, h, inr none)

pub read-no-line : (limit : ℕ) (old new : Option (List ℕ)) (piece bytes : List ℕ) (end : End) (f : JournalsFault) → bytes ≡ piece → end ≡ LineFeed → ReadsPiece limit old new piece end → IsNoText bytes f → IsReadFault old f
read-no-line limit old new piece bytes end f same fed h none = record {
  one_of = go none.one_of;
  line = λ e. fed-no-line limit old new piece (subst (ReadsPiece limit old new piece) fed h) (subst (λ (bs : List ℕ). (l : OwnLine) → IsText bs l → ⊥) same (none.line e));
}
  where
    go : (f ≡ journals.NoLine) ⊎ (f ≡ journals.Memory) → (f ≡ journals.NoLine) ⊎ ((f ≡ journals.Read) ⊎ (f ≡ journals.Memory))
    go (inl e) = inl e
    go (inr e) = inr (inr e)

limit-no-line : (old new : Option (List ℕ)) (piece : List ℕ) → ReadsPiece MAX_OWN_LINE_LEN old new piece Limit → BeginsWithNoLine old
limit-no-line None new piece h = tt
limit-no-line (Some xs) new piece h =
    let (rest, more, is, long) = h in
    let whole : length (piece ++ rest) ≡ length piece + length rest = length-append piece rest in
    (piece ++ rest, more, is, inl (omega (arith, long, whole)))

pub read-too-long : (old new : Option (List ℕ)) (piece : List ℕ) (end : End) → end ≡ Limit → ReadsPiece MAX_OWN_LINE_LEN old new piece end → IsReadFault old journals.NoLine
read-too-long old new piece end is h = record { one_of = inl refl; line = λ e. limit-no-line old new piece (subst (ReadsPiece MAX_OWN_LINE_LEN old new piece) is h) }

pub read-failed : (text : Option (List ℕ)) (f : JournalsFault) → (f ≡ journals.Read) ⊎ (f ≡ journals.Memory) → IsReadFault text f
read-failed text f h = record { one_of = inr h; line = λ e. absurd (go h e) }
  where
    go : (f ≡ journals.Read) ⊎ (f ≡ journals.Memory) → f ≡ journals.NoLine → ⊥
    go (inl a) e = let z : journals.Read ≡ journals.NoLine = sym a ∙ e in cc
    go (inr a) e = let z : journals.Memory ≡ journals.NoLine = sym a ∙ e in cc

-- why no journal was added

pub add-unread : (old : List Pending) (text : Option (List ℕ)) (f : JournalsFault) → IsReadFault text f → IsAddFault old text f
add-unread old text f h = record {
  one_of = inr (inr h.one_of);
  empty = λ e. absurd (not h.one_of e);
  same = λ e. absurd (other h.one_of e);
  line = h.line;
}
  where
    not : (f ≡ journals.NoLine) ⊎ ((f ≡ journals.Read) ⊎ (f ≡ journals.Memory)) → f ≡ journals.NoActor → ⊥
    not (inl a) e = let z : journals.NoLine ≡ journals.NoActor = sym a ∙ e in cc
    not (inr (inl a)) e = let z : journals.Read ≡ journals.NoActor = sym a ∙ e in cc
    not (inr (inr a)) e = let z : journals.Memory ≡ journals.NoActor = sym a ∙ e in cc

    other : (f ≡ journals.NoLine) ⊎ ((f ≡ journals.Read) ⊎ (f ≡ journals.Memory)) → f ≡ journals.SameActor → ⊥
    other (inl a) e = let z : journals.NoLine ≡ journals.SameActor = sym a ∙ e in cc
    other (inr (inl a)) e = let z : journals.Read ≡ journals.SameActor = sym a ∙ e in cc
    other (inr (inr a)) e = let z : journals.Memory ≡ journals.SameActor = sym a ∙ e in cc

pub add-empty : (old : List Pending) (text source rest : Option (List ℕ)) (next : Option OwnLine) → source ≡ text → next ≡ None → ReadsNext source next rest → IsAddFault old text journals.NoActor
add-empty old text source rest next from none reads = record {
  one_of = inl refl;
  empty = λ e. (rest, subst (λ t. ReadsNext t None rest) from (subst (λ n. ReadsNext source n rest) none reads));
  same = λ e. let z : journals.NoActor ≡ journals.SameActor = e in cc;
  line = λ e. let z : journals.NoActor ≡ journals.NoLine = e in cc;
}

pub add-same : (old items shown : List Pending) (text source rest : Option (List ℕ)) (next : Option OwnLine) (l : OwnLine) (who : Actor) → shown ≡ items → items ≡ old → source ≡ text → next ≡ Some l → ReadsNext source next rest → who ≡ owner l → HasActor shown who
    → IsAddFault old text journals.SameActor
add-same old items shown text source rest next l who seen was from some reads is has = record {
  one_of = inr (inl refl);
  empty = λ e. let z : journals.SameActor ≡ journals.NoActor = e in cc;
  same = λ e. (l, rest, subst (λ t. ReadsNext t (Some l) rest) from (subst (λ n. ReadsNext source n rest) some reads), subst (HasActor old) is (subst (λ (ps : List Pending). HasActor ps who) (seen ∙ was) has));
  line = λ e. let z : journals.SameActor ≡ journals.NoLine = e in cc;
}

pub add-memory : (old : List Pending) (text : Option (List ℕ)) → IsAddFault old text journals.Memory
add-memory old text = add-unread old text journals.Memory (read-failed text journals.Memory (inr refl))

pub fault-ok : (Q : JournalsFault → Type 0) (r : Result (Unit {0}) JournalsFault) (x : Unit {0}) → r ≡ Ok x → IfErr r Q
fault-ok Q r x is = subst (λ (s : Result (Unit {0}) JournalsFault). IfErr s Q) (sym is) tt

pub fault-err : (Q : JournalsFault → Type 0) (r : Result (Unit {0}) JournalsFault) (e : JournalsFault) → r ≡ Err e → Q e → IfErr r Q
fault-err Q r e is q = subst (λ (s : Result (Unit {0}) JournalsFault). IfErr s Q) (sym is) q

-- the text of a line that says an event is the event's

pub spelled_by : (bytes : List ℕ) (l : OwnLine) → IsText bytes l → IsSpelledBy bytes (Some l)
spelled_by bytes l text e is = go (subst (IsText bytes) same text)
  where
    same : l ≡ own.Does e
    same = let z : Some l ≡ Some (own.Does e) = is in cc

    go : IsText bytes (own.Does e) → bytes ≡ event_text e
    go (inl plain) = plain.0.0
    go (inr cut) = absurd cut.1

pub spells_none : (bytes : List ℕ) → IsSpelledBy bytes None
spells_none bytes e is = absurd (let z : ◌≡◌ {A = Option OwnLine} None (Some (own.Does e)) = is in cc)
