-- The index, when an entry changes, and while a client is announced.
use Rattle.std.proofs.Common.{◌≡◌, ◌⊎◌, inl, inr, ℕ, ◌+◌, ◌-◌, ◌≤◌, ◌==◌, Bool, true, false, not, ◌||◌, ◌&&◌, cond, List, [], ◌∷◌, ◌++◌, length, take, filter, map, Option, Some, None, IfSome, refl, sym, ap, ◌∙◌, subst, arith}
use Rattle.std.specs.BTreeMap.{is_at}
use Rattle.std.specs.Cmp.Lexicographic.{slice_cmp}
use Rattle.std.specs.Map.{lookup}
use Rattle.std.specs.Option.{option_map}
use Rattle.std.specs.Ordering.{nat_cmp}
use Rattle.std.specs.Str.{bytes_eq}
use Rattle.std.proofs.lemmas.Bool.{cases_Bool, and_parts, eqb-true, eq-eqb}
use Rattle.std.proofs.lemmas.List.{append-nil, append_assoc, length-append, take-append-le, take_all}
use Rattle.std.proofs.lemmas.List.Elements.{filter-append}
use Rattle.std.proofs.lemmas.Slice.Eq.{bytes_eq-Decides}
use Rattle.lock_messages.specs.declared.ids.TheConstants.{MAX_CLIENTS}
use Rattle.lock_messages.specs.declared.tickets.Mode.{Mode}
use Rattle.lock_messages.specs.declared.tickets.Mode.TheVariants.{Read, Write}
use Rattle.lock_model.specs.declared.entries.Entry.{Entry}
use Rattle.lock_model.specs.declared.entries.Live.{Live}
use Rattle.lock_model.specs.declared.entries.Status.{Status}
use Rattle.lock_model.specs.declared.entries.Status.TheVariants.{Waiting, Holding, Softened}
use Rattle.lock_model.specs.ExactStations.{is_of, knows, entry_of, EachOnce, is_waiting, is_holding, is_write, if_live, any_live, holds, writer_holds, writer_waits, promoted}
use Rattle.lock_model.specs.ExactDecisions.{moved_last}
use Rattle.lock_model.proofs.SettlingSets.{holding-waits}
use Rattle.stable_record.specs.EntryLists.{replaced}
use Rattle.stable_record.specs.Lines.{Tickets, is_for, waits_for, count_live, clients_of, tickets_for, line_of, line_in, Indexes, or_none, one_if, with_ticket, Joins}
use Rattle.stable_record.specs.Indexing.{announced_ticket, announced_entry, with_announced, IndexesWith, IsEntryAmong, HasNoTicket, without_live, with_holding, softened_holder, with_softened, without_ticket, with_holder, with_promoted, with_softened_holder, without_last, with_confirmed, is_no_tickets, unless_empty, Puts, AreCounted}
use Rattle.stable_record.proofs.LineFacts.{line-in-updated, and-yes, any-snoc, or-no, count-few, tickets-none, line-other, line-here, indexes-joined, or-none-read}
use Rattle.stable_record.proofs.ListFacts.{others, others-unknown}
use Rattle.stable_record.proofs.EditFacts.{Stands, stands, replaced-there, any-within, line-without, tickets-ended, tickets-held}

-- ---- lines that are put

self-eq : (x : List ℕ) → bytes_eq x x ≡ true
self-eq x = (bytes_eq-Decides x x).1 refl

pub puts-at : (x : List ℕ) (line : Option Tickets) (old new : List (List ℕ × Tickets)) → Puts x line old new → line_in new x ≡ line
puts-at x line old new h = h x ∙ ap (λ b. cond b line (line_in old x)) (self-eq x)

puts-off : (x y : List ℕ) (line : Option Tickets) (old new : List (List ℕ × Tickets)) → Puts x line old new → bytes_eq x y ≡ false → line_in new y ≡ line_in old y
puts-off x y line old new h k = h y ∙ ap (λ b. cond b line (line_in old y)) k

-- what is there is put there
pub puts-same : (x : List ℕ) (lines : List (List ℕ × Tickets)) → Puts x (line_in lines x) lines lines
puts-same x lines y = go (cases_Bool (bytes_eq x y))
  where
    go : (bytes_eq x y ≡ true) ⊎ (bytes_eq x y ≡ false) → line_in lines y ≡ cond (bytes_eq x y) (line_in lines x) (line_in lines y)
    go (inl k) = ap (line_in lines) (sym ((bytes_eq-Decides x y).0 k)) ∙ ap (λ b. cond b (line_in lines x) (line_in lines y)) (sym k)
    go (inr k) = ap (λ b. cond b (line_in lines x) (line_in lines y)) (sym k)

-- what is put last stays
pub puts-then : (x : List ℕ) (first last : Option Tickets) (old mid new : List (List ℕ × Tickets)) → Puts x first old mid → Puts x last mid new → Puts x last old new
puts-then x first last old mid new h k y = k y ∙ ap (λ l. cond (bytes_eq x y) last l) (h y) ∙ go (bytes_eq x y)
  where
    go : (b : Bool) → cond b last (cond b first (line_in old y)) ≡ cond b last (line_in old y)
    go true = refl
    go false = refl

-- what is put and goes where it is empty
pub puts-settled : (x : List ℕ) (line : Option Tickets) (old mid new : List (List ℕ × Tickets)) → Puts x line old mid → Puts x (unless_empty (line_in mid x)) mid new → Puts x (unless_empty line) old new
puts-settled x line old mid new h k =
    subst (λ o. Puts x (unless_empty o) old new) (puts-at x line old mid h) (puts-then x line (unless_empty (line_in mid x)) old mid new h k)

-- where there is no line nothing is put
pub puts-none : (f : Tickets → Tickets) (x : List ℕ) (old new : List (List ℕ × Tickets)) → line_in old x ≡ None → new ≡ old → Puts x (option_map f (line_in old x)) old new
puts-none f x old new none same =
    subst (λ lines. Puts x (option_map f (line_in old x)) old lines) (sym same)
    (subst (λ o. Puts x o old old) (none ∙ sym (ap (option_map f) none)) (puts-same x old))

-- a line that is written is put
pub puts-written : (f : Tickets → Tickets) (x : List ℕ) (old new : List (List ℕ × Tickets)) (t u : Tickets) → Some t ≡ line_in old x → u ≡ f t →
    ((q : List ℕ) → lookup (is_at (slice_cmp nat_cmp q)) new ≡ cond (is_at (slice_cmp nat_cmp x) q) (Some u) (lookup (is_at (slice_cmp nat_cmp q)) old)) →
    Puts x (option_map f (line_in old x)) old new
puts-written f x old new t u found made h y =
    line-in-updated x old new (Some u) h y ∙ ap (λ o. cond (bytes_eq x y) o (line_in old y)) (ap (λ v. Some v) made ∙ ap (option_map f) found)

-- an empty line goes, and another stays
pub puts-unless-none : (x : List ℕ) (lines : List (List ℕ × Tickets)) → line_in lines x ≡ None → Puts x (unless_empty (line_in lines x)) lines lines
puts-unless-none x lines none = subst (λ o. Puts x o lines lines) (none ∙ sym (ap unless_empty none)) (puts-same x lines)

pub puts-unless-kept : (x : List ℕ) (lines : List (List ℕ × Tickets)) (t : Tickets) → Some t ≡ line_in lines x → is_no_tickets t ≡ false → Puts x (unless_empty (line_in lines x)) lines lines
puts-unless-kept x lines t found some =
    subst (λ o. Puts x o lines lines) (sym found ∙ sym (ap (λ b. cond b None (Some t)) some) ∙ ap unless_empty found) (puts-same x lines)

pub puts-unless-gone : (x : List ℕ) (old new : List (List ℕ × Tickets)) (t : Tickets) → Some t ≡ line_in old x → is_no_tickets t ≡ true →
    ((q : List ℕ) → lookup (is_at (slice_cmp nat_cmp q)) new ≡ cond (is_at (slice_cmp nat_cmp x) q) None (lookup (is_at (slice_cmp nat_cmp q)) old)) →
    Puts x (unless_empty (line_in old x)) old new
puts-unless-gone x old new t found none h y =
    line-in-updated x old new None h y ∙ ap (λ o. cond (bytes_eq x y) o (line_in old y)) (sym (ap (λ b. cond b None (Some t)) none) ∙ ap unless_empty found)

-- an index is that of the entries where it has their line at the one place, and the lines elsewhere are as they were
indexes-put : (x : List ℕ) (line : Option Tickets) (old new : List (List ℕ × Tickets)) (before after : List Entry) → Puts x line old new → Indexes old before →
    line ≡ line_of after x → ((y : List ℕ) → bytes_eq x y ≡ false → line_of before y ≡ line_of after y) → Indexes new after
indexes-put x line old new before after h was here off y = go (cases_Bool (bytes_eq x y))
  where
    go : (bytes_eq x y ≡ true) ⊎ (bytes_eq x y ≡ false) → line_in new y ≡ line_of after y
    go (inl k) = subst (λ z. line_in new z ≡ line_of after z) ((bytes_eq-Decides x y).0 k) (puts-at x line old new h ∙ here)
    go (inr k) = puts-off x y line old new h k ∙ was y ∙ off y k

-- ---- lines without tickets

one-of : (s : Status) (k : Bool) → k ≡ ((is_holding s && k) || (is_waiting s && k))
one-of Waiting k = refl
one-of Holding true = refl
one-of Holding false = refl
one-of Softened true = refl
one-of Softened false = refl

one-is : (x : List ℕ) (o : Option Live) → if_live (is_for x) o ≡ (if_live (holds x) o || if_live (waits_for x) o)
one-is x None = refl
one-is x (Some l) = one-of l.status (bytes_eq l.resource x)

some-ticket : (x : List ℕ) (es : List Entry) → any_live (is_for x) es ≡ true → 1 ≤ count_live (holds x) es + length (clients_of (waits_for x) es)
some-ticket x [] h = absurd cc
some-ticket x (e ∷ es) h = go (if_live (holds x) e.live) (if_live (waits_for x) e.live) (ap (λ b. b || any_live (is_for x) es) (sym (one-is x e.live)) ∙ h) (some-ticket x es)
  where
    left : List Entry
    left = filter (λ d. if_live (holds x) d.live) es

    right : List Entry
    right = filter (λ d. if_live (waits_for x) d.live) es

    go : (b c : Bool) → ((b || c) || any_live (is_for x) es) ≡ true → (any_live (is_for x) es ≡ true → 1 ≤ length left + length (map (λ (d : Entry). d.client) right)) →
        1 ≤ length (cond b (e ∷ left) left) + length (map (λ (d : Entry). d.client) (cond c (e ∷ right) right))
    go true c k more = omega arith
    go false true k more = omega arith
    go false false k more = more k

both-none : (n m : ℕ) → 1 ≤ n + m → ((n == 0) && (m == 0)) ≡ false
both-none n m h = go (cases_Bool (n == 0)) (cases_Bool (m == 0))
  where
    go : ((n == 0) ≡ true) ⊎ ((n == 0) ≡ false) → ((m == 0) ≡ true) ⊎ ((m == 0) ≡ false) → ((n == 0) && (m == 0)) ≡ false
    go (inr k) j = ap (λ b. b && (m == 0)) k
    go (inl k) (inr j) = ap (λ b. b && (m == 0)) k ∙ j
    go (inl k) (inl j) = let p : n ≡ 0 = eqb-true n 0 k in let q : m ≡ 0 = eqb-true m 0 j in absurd (omega (arith, h, p, q))

-- the tickets for a resource are its line, unless there are none
empty-line : (x : List ℕ) (es : List Entry) → unless_empty (Some (tickets_for x es)) ≡ line_of es x
empty-line x es = go (cases_Bool (any_live (is_for x) es))
  where
    t : Tickets
    t = tickets_for x es

    go : (any_live (is_for x) es ≡ true) ⊎ (any_live (is_for x) es ≡ false) → cond (is_no_tickets t) None (Some t) ≡ cond (any_live (is_for x) es) (Some t) None
    go (inl k) =
        let some : is_no_tickets t ≡ false = both-none (count_live (holds x) es) (length (clients_of (waits_for x) es)) (some-ticket x es k) in
        ap (λ b. cond b None (Some t)) some ∙ sym (ap (λ b. cond b (Some t) None) k)
    go (inr k) =
        let none : is_no_tickets t ≡ true = ap is_no_tickets (tickets-none x es k) in
        ap (λ b. cond b None (Some t)) none ∙ sym (ap (λ b. cond b (Some t) None) k)

-- ---- a ticket ends, or holds

-- an entry with a ticket for the resource makes its line
line-within : (x : List ℕ) (front rest : List Entry) (e : Entry) → if_live (is_for x) e.live ≡ true → line_of (front ++ e ∷ rest) x ≡ Some (tickets_for x (front ++ e ∷ rest))
line-within x front rest e k =
    ap (λ b. cond b (Some (tickets_for x (front ++ e ∷ rest))) None) (any-within (is_for x) front rest e ∙ ap (λ b. b || any_live (is_for x) (front ++ rest)) k)

ended-there : (old new : List (List ℕ × Tickets)) (front rest : List Entry) (e f : Entry) (l : Live) → e.live ≡ Some l → f.live ≡ None → knows e.client front ≡ false →
    Indexes old (front ++ e ∷ rest) → Puts l.resource (unless_empty (option_map (without_ticket e.client l) (line_in old l.resource))) old new → Indexes new (front ++ f ∷ rest)
ended-there old new front rest e f l is gone none h puts =
    let x = l.resource in
    let own : if_live (is_for x) e.live ≡ true = ap (if_live (is_for x)) is ∙ self-eq x in
    let idle : (y : List ℕ) → if_live (is_for y) f.live ≡ false = λ y. ap (if_live (is_for y)) gone in
    indexes-put x (unless_empty (option_map (without_ticket e.client l) (line_in old x))) old new (front ++ e ∷ rest) (front ++ f ∷ rest) puts h
    (ap (λ o. unless_empty (option_map (without_ticket e.client l) o)) (h x ∙ line-within x front rest e own)
    ∙ ap (λ t. unless_empty (Some t)) (tickets-ended x front rest e l is (self-eq x) none)
    ∙ empty-line x (front ++ rest) ∙ sym (line-without x front rest f (idle x)))
    (λ y k. line-without y front rest e (ap (if_live (is_for y)) is ∙ k) ∙ sym (line-without y front rest f (idle y)))

-- a ticket of the same client for the same resource comes in the place of another
turned-there : (change : Tickets → Tickets) (old new : List (List ℕ × Tickets)) (front rest : List Entry) (e f : Entry) (l m : Live) → e.live ≡ Some l → f.live ≡ Some m → m.resource ≡ l.resource →
    change (tickets_for l.resource (front ++ e ∷ rest)) ≡ tickets_for l.resource (front ++ f ∷ rest) →
    Indexes old (front ++ e ∷ rest) → Puts l.resource (option_map change (line_in old l.resource)) old new → Indexes new (front ++ f ∷ rest)
turned-there change old new front rest e f l m is becomes same made h puts =
    indexes-put x (option_map change (line_in old x)) old new (front ++ e ∷ rest) (front ++ f ∷ rest) puts h
    (ap (option_map change) (h x ∙ line-within x front rest e (ap (if_live (is_for x)) is ∙ self-eq x))
    ∙ ap (λ t. Some t) made
    ∙ sym (line-within x front rest f (turned x ∙ self-eq x)))
    (λ y k. line-without y front rest e (ap (if_live (is_for y)) is ∙ k) ∙ sym (line-without y front rest f (turned y ∙ k)))
  where
    x : List ℕ
    x = l.resource

    turned : (y : List ℕ) → if_live (is_for y) f.live ≡ bytes_eq x y
    turned y = ap (if_live (is_for y)) becomes ∙ ap (λ z. bytes_eq z y) same

held-there : (old new : List (List ℕ × Tickets)) (front rest : List Entry) (e : Entry) (l : Live) → e.live ≡ Some l → knows e.client front ≡ false →
    Indexes old (front ++ e ∷ rest) → Puts l.resource (option_map (with_promoted e.client l) (line_in old l.resource)) old new → Indexes new (front ++ with_holding e ∷ rest)
held-there old new front rest e l is none h puts =
    turned-there (with_promoted e.client l) old new front rest e f l (promoted l) is becomes refl (go (cases_Bool (is_waiting l.status))) h puts
  where
    x : List ℕ
    x = l.resource

    f : Entry
    f = with_holding e

    becomes : f.live ≡ Some (promoted l)
    becomes = ap (option_map promoted) is

    all : Tickets
    all = tickets_for x (front ++ e ∷ rest)

    holds_now : with_holder l.mode (tickets_for x (front ++ rest)) ≡ tickets_for x (front ++ f ∷ rest)
    holds_now = tickets-held x front rest f (promoted l) becomes (self-eq x) refl refl

    go : (is_waiting l.status ≡ true) ⊎ (is_waiting l.status ≡ false) → with_promoted e.client l all ≡ tickets_for x (front ++ f ∷ rest)
    go (inl w) =
        ap (λ b. cond b (with_holder l.mode (without_ticket e.client l all)) all) w
        ∙ ap (with_holder l.mode) (tickets-ended x front rest e l is (self-eq x) none) ∙ holds_now
    go (inr w) =
        ap (λ b. cond b (with_holder l.mode (without_ticket e.client l all)) all) w
        ∙ sym (tickets-held x front rest e l is (self-eq x) (holding-waits l.status w) w) ∙ holds_now

-- ---- a ticket is softened

not-waiting : (s : Status) → is_holding s ≡ true → is_waiting s ≡ false
not-waiting Waiting h = absurd cc
not-waiting Holding h = refl
not-waiting Softened h = refl

-- a writer among the holders is a reader
writer-softened : (l : Live) (t : Tickets) → is_write l.mode ≡ true → is_holding l.status ≡ true → with_softened_holder l (with_holder l.mode t) ≡ with_holder Read t
writer-softened l t write holding =
    let one : one_if (is_write l.mode) ≡ 1 = ap one_if write in
    let gone : one_if (is_write l.mode && is_holding l.status) ≡ 1 = ap one_if (and-yes (is_write l.mode) (is_holding l.status) holding ∙ write) in
    let q : (t.writing_holders + one_if (is_write l.mode)) - one_if (is_write l.mode && is_holding l.status) ≡ t.writing_holders + 0 = omega (arith, one, gone) in
    λ i. record { holders = t.holders + 1; writing_holders = q i; waiting_writers = t.waiting_writers; waiting = t.waiting }

softened-there : (old new : List (List ℕ × Tickets)) (front rest : List Entry) (e : Entry) (l : Live) → e.live ≡ Some l →
    Indexes old (front ++ e ∷ rest) → Puts l.resource (option_map (with_softened_holder l) (line_in old l.resource)) old new → Indexes new (front ++ with_softened e ∷ rest)
softened-there old new front rest e l is h puts = go (cases_Bool (is_write l.mode && is_holding l.status))
  where
    x : List ℕ
    x = l.resource

    f : Entry
    f = with_softened e

    all : Tickets
    all = tickets_for x (front ++ e ∷ rest)

    reader : Live
    reader = record { attempt = l.attempt; mode = Read; resource = l.resource; status = Softened }

    go : ((is_write l.mode && is_holding l.status) ≡ true) ⊎ ((is_write l.mode && is_holding l.status) ≡ false) → Indexes new (front ++ f ∷ rest)
    go (inl k) =
        let both = and_parts (is_write l.mode) (is_holding l.status) k in
        let becomes : f.live ≡ Some reader = ap (option_map softened_holder) is ∙ ap (λ b. Some (cond b reader l)) k in
        turned-there (with_softened_holder l) old new front rest e f l reader is becomes refl
        (ap (with_softened_holder l) (sym (tickets-held x front rest e l is (self-eq x) both.1 (not-waiting l.status both.1)))
        ∙ writer-softened l (tickets_for x (front ++ rest)) both.0 both.1
        ∙ tickets-held x front rest f reader becomes (self-eq x) refl refl) h puts
    go (inr k) =
        let becomes : f.live ≡ Some l = ap (option_map softened_holder) is ∙ ap (λ b. Some (cond b reader l)) k in
        let live = is ∙ sym becomes in
        let same : e ≡ f = λ i. record { client = e.client; floor = e.floor; live = live i } in
        let nothing : one_if (is_write l.mode && is_holding l.status) ≡ 0 = ap one_if k in
        let q : all.writing_holders - one_if (is_write l.mode && is_holding l.status) ≡ all.writing_holders = omega (arith, nothing) in
        let kept : with_softened_holder l all ≡ all = λ i. record { holders = all.holders; writing_holders = q i; waiting_writers = all.waiting_writers; waiting = all.waiting } in
        turned-there (with_softened_holder l) old new front rest e f l l is becomes refl (kept ∙ ap (λ (d : Entry). tickets_for x (front ++ d ∷ rest)) same) h puts

-- ---- the same among entries of a node, with or without a client that is announced

abbrev tail_of : Option (ℕ × List ℕ) → List Entry
tail_of None = []
tail_of (Some a) = announced_entry a ∷ []

announced-tail : (a : Option (ℕ × List ℕ)) (es : List Entry) → with_announced a es ≡ es ++ tail_of a
announced-tail None es = sym (append-nil es)
announced-tail (Some a) es = refl

-- with the entry of a client in sight
within : (a : Option (ℕ × List ℕ)) (front back : List Entry) (d : Entry) → with_announced a (front ++ d ∷ back) ≡ front ++ d ∷ (back ++ tail_of a)
within a front back d = announced-tail a (front ++ d ∷ back) ∙ append_assoc front (d ∷ back) (tail_of a)

pub indexes-ended : (a : Option (ℕ × List ℕ)) (old new : List (List ℕ × Tickets)) (e : Entry) (l : Live) (floor : ℕ) (es : List Entry) → e.live ≡ Some l → IsEntryAmong e es → IndexesWith a old es →
    Puts l.resource (unless_empty (option_map (without_ticket e.client l) (line_in old l.resource))) old new → IndexesWith a new (replaced (without_live floor e) es)
indexes-ended a old new e l floor es is among h puts =
    let s = stands e es among.once among.found in
    let f = without_live floor e in
    let after : replaced f es ≡ s.front ++ f ∷ s.back = ap (replaced f) s.is ∙ replaced-there f s.front s.back e (eq-eqb e.client e.client refl) s.before s.after in
    let was : Indexes old (s.front ++ e ∷ (s.back ++ tail_of a)) = subst (Indexes old) (ap (with_announced a) s.is ∙ within a s.front s.back e) h in
    subst (Indexes new) (sym (ap (with_announced a) after ∙ within a s.front s.back f))
    (ended-there old new s.front (s.back ++ tail_of a) e f l is refl s.before was puts)

pub indexes-held : (a : Option (ℕ × List ℕ)) (old new : List (List ℕ × Tickets)) (e : Entry) (l : Live) (es : List Entry) → e.live ≡ Some l → IsEntryAmong e es → IndexesWith a old es →
    Puts l.resource (option_map (with_promoted e.client l) (line_in old l.resource)) old new → IndexesWith a new (replaced (with_holding e) es)
indexes-held a old new e l es is among h puts =
    let s = stands e es among.once among.found in
    let f = with_holding e in
    let after : replaced f es ≡ s.front ++ f ∷ s.back = ap (replaced f) s.is ∙ replaced-there f s.front s.back e (eq-eqb e.client e.client refl) s.before s.after in
    let was : Indexes old (s.front ++ e ∷ (s.back ++ tail_of a)) = subst (Indexes old) (ap (with_announced a) s.is ∙ within a s.front s.back e) h in
    subst (Indexes new) (sym (ap (with_announced a) after ∙ within a s.front s.back f))
    (held-there old new s.front (s.back ++ tail_of a) e l is s.before was puts)

pub indexes-softened : (a : Option (ℕ × List ℕ)) (old new : List (List ℕ × Tickets)) (e : Entry) (l : Live) (es : List Entry) → e.live ≡ Some l → IsEntryAmong e es → IndexesWith a old es →
    Puts l.resource (option_map (with_softened_holder l) (line_in old l.resource)) old new → IndexesWith a new (replaced (with_softened e) es)
indexes-softened a old new e l es is among h puts =
    let s = stands e es among.once among.found in
    let f = with_softened e in
    let after : replaced f es ≡ s.front ++ f ∷ s.back = ap (replaced f) s.is ∙ replaced-there f s.front s.back e (eq-eqb e.client e.client refl) s.before s.after in
    let was : Indexes old (s.front ++ e ∷ (s.back ++ tail_of a)) = subst (Indexes old) (ap (with_announced a) s.is ∙ within a s.front s.back e) h in
    subst (Indexes new) (sym (ap (with_announced a) after ∙ within a s.front s.back f))
    (softened-there old new s.front (s.back ++ tail_of a) e l is was puts)

-- an entry without a live ticket may change its floor
idle-there : (a : Option (ℕ × List ℕ)) (lines : List (List ℕ × Tickets)) (e f : Entry) (es : List Entry) → e.live ≡ None → f.live ≡ None → is_of f.client e ≡ true →
    (s : Stands e es) → knows f.client s.front ≡ false → knows f.client s.back ≡ false → IndexesWith a lines es → IndexesWith a lines (replaced f es)
idle-there a lines e f es is gone own s before after h y =
    let rest = s.back ++ tail_of a in
    let there : replaced f es ≡ s.front ++ f ∷ s.back = ap (replaced f) s.is ∙ replaced-there f s.front s.back e own before after in
    h y ∙ ap (λ l. line_of l y) (ap (with_announced a) s.is ∙ within a s.front s.back e)
    ∙ line-without y s.front rest e (ap (if_live (is_for y)) is) ∙ sym (line-without y s.front rest f (ap (if_live (is_for y)) gone))
    ∙ sym (ap (λ l. line_of l y) (ap (with_announced a) there ∙ within a s.front s.back f))

pub indexes-idle-ended : (a : Option (ℕ × List ℕ)) (lines : List (List ℕ × Tickets)) (e : Entry) (floor : ℕ) (es : List Entry) → e.live ≡ None → IsEntryAmong e es → IndexesWith a lines es →
    IndexesWith a lines (replaced (without_live floor e) es)
indexes-idle-ended a lines e floor es is among h =
    let s = stands e es among.once among.found in
    idle-there a lines e (without_live floor e) es is refl (eq-eqb e.client e.client refl) s s.before s.after h

pub indexes-idle-held : (a : Option (ℕ × List ℕ)) (lines : List (List ℕ × Tickets)) (e : Entry) (es : List Entry) → e.live ≡ None → IsEntryAmong e es → IndexesWith a lines es →
    IndexesWith a lines (replaced (with_holding e) es)
indexes-idle-held a lines e es is among h =
    let s = stands e es among.once among.found in
    idle-there a lines e (with_holding e) es is (ap (option_map promoted) is) (eq-eqb e.client e.client refl) s s.before s.after h

pub indexes-idle-softened : (a : Option (ℕ × List ℕ)) (lines : List (List ℕ × Tickets)) (e : Entry) (es : List Entry) → e.live ≡ None → IsEntryAmong e es → IndexesWith a lines es →
    IndexesWith a lines (replaced (with_softened e) es)
indexes-idle-softened a lines e es is among h =
    let s = stands e es among.once among.found in
    idle-there a lines e (with_softened e) es is (ap (option_map softened_holder) is) (eq-eqb e.client e.client refl) s s.before s.after h

pub some-same : (a b : Live) → Some a ≡ Some b → a ≡ b
some-same a b h = cc

-- no count is at the end of the numbers
pub indexed-counted : (a : Option (ℕ × List ℕ)) (lines : List (List ℕ × Tickets)) (es : List Entry) → length es ≤ MAX_CLIENTS → IndexesWith a lines es → (x : List ℕ) → AreCounted (or_none (line_in lines x))
indexed-counted a lines es few h x =
    let all = with_announced a es in
    let size : length all ≤ MAX_CLIENTS + 1 = go a in
    subst AreCounted (sym (ap or_none (h x) ∙ or-none-read all x)) (record {
      holders = omega (arith, size, count-few (holds x) all);
      writing_holders = omega (arith, size, count-few (writer_holds x) all);
      waiting_writers = omega (arith, size, count-few (writer_waits x) all);
    })
  where
    go : (b : Option (ℕ × List ℕ)) → length (with_announced b es) ≤ MAX_CLIENTS + 1
    go None = omega (arith, few)
    go (Some b) = let one = length-append es (announced_entry b ∷ []) in omega (arith, few, one)

-- ---- a client is announced, withdrawn and confirmed

pub indexes-announced : (old new : List (List ℕ × Tickets)) (c : ℕ) (x : List ℕ) → Joins c (announced_ticket x) old new → (es : List Entry) → Indexes old es → IndexesWith (Some (c, x)) new es
indexes-announced old new c x joins es h = indexes-joined old new (announced_entry (c, x)) (announced_ticket x) refl joins es h

take-last : (cs : List ℕ) (c : ℕ) → take (length (cs ++ c ∷ []) - 1) (cs ++ c ∷ []) ≡ cs
take-last cs c =
    let size : length (cs ++ c ∷ []) - 1 ≡ length cs = omega (arith, length-append cs (c ∷ [])) in
    ap (λ n. take n (cs ++ c ∷ [])) size ∙ take-append-le (length cs) cs (c ∷ []) (omega arith) ∙ take_all (length cs) cs (omega arith)

nothing-more : (n : ℕ) → n + 0 ≡ n
nothing-more n = omega arith

last-withdrawn : (c : ℕ) (x : List ℕ) (t : Tickets) → without_last (with_ticket c (announced_ticket x) t) ≡ t
last-withdrawn c x t =
    let p = nothing-more t.holders in
    let q = nothing-more t.writing_holders in
    let r = nothing-more t.waiting_writers in
    let s = take-last t.waiting c in
    λ i. record { holders = p i; writing_holders = q i; waiting_writers = r i; waiting = s i }

announced-here : (c : ℕ) (x : List ℕ) (es : List Entry) → line_of (es ++ announced_entry (c, x) ∷ []) x ≡ Some (with_ticket c (announced_ticket x) (tickets_for x es))
announced-here c x es = line-here x es (announced_entry (c, x)) (announced_ticket x) refl (self-eq x)

pub indexes-withdrawn : (old new : List (List ℕ × Tickets)) (c : ℕ) (x : List ℕ) (es : List Entry) → IndexesWith (Some (c, x)) old es →
    Puts x (unless_empty (option_map without_last (line_in old x))) old new → Indexes new es
indexes-withdrawn old new c x es h puts =
    indexes-put x (unless_empty (option_map without_last (line_in old x))) old new (es ++ announced_entry (c, x) ∷ []) es puts h
    (ap (λ o. unless_empty (option_map without_last o)) (h x ∙ announced-here c x es) ∙ ap (λ t. unless_empty (Some t)) (last-withdrawn c x (tickets_for x es)) ∙ empty-line x es)
    (λ y k. line-other y es (announced_entry (c, x)) k)

last-confirmed : (c a : ℕ) (m : Mode) (x y : List ℕ) (s : Status) (t : Tickets) →
    with_confirmed (record { attempt = a; mode = m; resource = x; status = s }) (with_ticket c (announced_ticket y) t) ≡ with_ticket c (record { attempt = a; mode = m; resource = x; status = s }) t
last-confirmed c a Read x y Waiting t =
    let r : (t.waiting_writers + 0) + 0 ≡ t.waiting_writers + 0 = omega arith in
    λ i. record { holders = t.holders + 0; writing_holders = t.writing_holders + 0; waiting_writers = r i; waiting = t.waiting ++ c ∷ [] }
last-confirmed c a Write x y Waiting t =
    let r : (t.waiting_writers + 0) + 1 ≡ t.waiting_writers + 1 = omega arith in
    λ i. record { holders = t.holders + 0; writing_holders = t.writing_holders + 0; waiting_writers = r i; waiting = t.waiting ++ c ∷ [] }
last-confirmed c a Read x y Holding t =
    let p : (t.holders + 0) + 1 ≡ t.holders + 1 = omega arith in
    let q : (t.writing_holders + 0) + 0 ≡ t.writing_holders + 0 = omega arith in
    let s = take-last t.waiting c ∙ sym (append-nil t.waiting) in
    λ i. record { holders = p i; writing_holders = q i; waiting_writers = t.waiting_writers + 0; waiting = s i }
last-confirmed c a Write x y Holding t =
    let p : (t.holders + 0) + 1 ≡ t.holders + 1 = omega arith in
    let q : (t.writing_holders + 0) + 1 ≡ t.writing_holders + 1 = omega arith in
    let s = take-last t.waiting c ∙ sym (append-nil t.waiting) in
    λ i. record { holders = p i; writing_holders = q i; waiting_writers = t.waiting_writers + 0; waiting = s i }
last-confirmed c a Read x y Softened t =
    let p : (t.holders + 0) + 1 ≡ t.holders + 1 = omega arith in
    let q : (t.writing_holders + 0) + 0 ≡ t.writing_holders + 0 = omega arith in
    let s = take-last t.waiting c ∙ sym (append-nil t.waiting) in
    λ i. record { holders = p i; writing_holders = q i; waiting_writers = t.waiting_writers + 0; waiting = s i }
last-confirmed c a Write x y Softened t =
    let p : (t.holders + 0) + 1 ≡ t.holders + 1 = omega arith in
    let q : (t.writing_holders + 0) + 1 ≡ t.writing_holders + 1 = omega arith in
    let s = take-last t.waiting c ∙ sym (append-nil t.waiting) in
    λ i. record { holders = p i; writing_holders = q i; waiting_writers = t.waiting_writers + 0; waiting = s i }

confirmed-last : (old new : List (List ℕ × Tickets)) (e : Entry) (l : Live) (es : List Entry) → e.live ≡ Some l → IndexesWith (Some (e.client, l.resource)) old es →
    Puts l.resource (option_map (with_confirmed l) (line_in old l.resource)) old new → Indexes new (es ++ e ∷ [])
confirmed-last old new e l es is h puts =
    let x = l.resource in
    indexes-put x (option_map (with_confirmed l) (line_in old x)) old new (es ++ announced_entry (e.client, x) ∷ []) (es ++ e ∷ []) puts h
    (ap (option_map (with_confirmed l)) (h x ∙ announced-here e.client x es)
    ∙ ap (λ t. Some t) (last-confirmed e.client l.attempt l.mode l.resource x l.status (tickets_for x es))
    ∙ sym (line-here x es e l is (self-eq x)))
    (λ y k. line-other y es (announced_entry (e.client, x)) k ∙ sym (line-other y es e (ap (if_live (is_for y)) is ∙ k)))

pub nowhere : (c : ℕ) (es : List Entry) → entry_of es c ≡ None → knows c es ≡ false
nowhere c [] h = refl
nowhere c (e ∷ es) h = go (is_of c e) (nowhere c es) h
  where
    go : (b : Bool) → (entry_of es c ≡ None → knows c es ≡ false) → cond b (Some e) (entry_of es c) ≡ None → (b || knows c es) ≡ false
    go true more k = absurd cc
    go false more k = more k

found-own : (c : ℕ) (es : List Entry) (d : Entry) → entry_of es c ≡ Some d → d.client ≡ c
found-own c [] d h = absurd cc
found-own c (e ∷ es) d h = go (is_of c e) refl (found-own c es d) h
  where
    go : (b : Bool) → is_of c e ≡ b → (entry_of es c ≡ Some d → d.client ≡ c) → cond b (Some e) (entry_of es c) ≡ Some d → d.client ≡ c
    go true own more k = let same : e ≡ d = cc in ap (λ (y : Entry). y.client) (sym same) ∙ eqb-true e.client c own
    go false own more k = more k

-- without a ticket a client's entry may go
dropped-line : (c : ℕ) (es last : List Entry) (y : List ℕ) → EachOnce es → (o : Option Entry) → entry_of es c ≡ o → IfSome o (λ e. e.live ≡ None) → line_of (es ++ last) y ≡ line_of (others c es ++ last) y
dropped-line c es last y once None at h = ap (λ l. line_of (l ++ last) y) (sym (others-unknown c es (nowhere c es at)))
dropped-line c es last y once (Some d) at h =
    let own = found-own c es d at in
    let s = stands d es once (ap (entry_of es) own ∙ at) in
    let before : knows c s.front ≡ false = ap (λ k. knows k s.front) (sym own) ∙ s.before in
    let after : knows c s.back ≡ false = ap (λ k. knows k s.back) (sym own) ∙ s.after in
    let left : others c es ≡ s.front ++ s.back =
    ap (others c) s.is ∙ filter-append (λ (e : Entry). not (is_of c e)) s.front (d ∷ s.back)
    ∙ ap (λ b. others c s.front ++ cond (not b) (d ∷ others c s.back) (others c s.back)) (eq-eqb d.client c own)
    ∙ ap (λ l. l ++ others c s.back) (others-unknown c s.front before) ∙ ap (λ l. s.front ++ l) (others-unknown c s.back after) in
    ap (λ l. line_of (l ++ last) y) s.is ∙ ap (λ l. line_of l y) (append_assoc s.front (d ∷ s.back) last)
    ∙ line-without y s.front (s.back ++ last) d (ap (if_live (is_for y)) h)
    ∙ ap (λ l. line_of l y) (sym (append_assoc s.front s.back last)) ∙ ap (λ l. line_of (l ++ last) y) (sym left)

pub indexes-confirmed : (old new : List (List ℕ × Tickets)) (e : Entry) (l : Live) (es : List Entry) → e.live ≡ Some l → HasNoTicket e.client es → IndexesWith (Some (e.client, l.resource)) old es →
    Puts l.resource (option_map (with_confirmed l) (line_in old l.resource)) old new → Indexes new (moved_last e es)
indexes-confirmed old new e l es is free h puts y =
    confirmed-last old new e l es is h puts y ∙ dropped-line e.client es (e ∷ []) y free.once (entry_of es e.client) refl free.none

-- ---- what is asked

-- who is announced counts nowhere
pub announced-any : (a : Option (ℕ × List ℕ)) (test : Live → Bool) (es : List Entry) → ((x : List ℕ) → test (announced_ticket x) ≡ false) → any_live test (with_announced a es) ≡ any_live test es
announced-any None test es h = refl
announced-any (Some a) test es h = any-snoc test es (announced_entry a) ∙ or-no (any_live test es) (test (announced_ticket a.1)) (h a.1)
