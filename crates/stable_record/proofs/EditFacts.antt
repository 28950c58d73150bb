-- The tickets of a resource, when an entry within the list changes.
use Rattle.std.proofs.Common.{◌≡◌, ℕ, ◌+◌, ◌-◌, Bool, true, false, ◌||◌, ◌&&◌, cond, List, [], ◌∷◌, ◌++◌, length, filter, map, Some, None, refl, sym, ap, ◌∙◌, arith}
use Rattle.std.specs.Str.{bytes_eq}
use Rattle.std.proofs.lemmas.Bool.{or_parts, eq-eqb, and_right}
use Rattle.std.proofs.lemmas.List.{map-append}
use Rattle.lock_model.specs.declared.entries.Entry.{Entry}
use Rattle.lock_model.specs.declared.entries.Live.{Live}
use Rattle.lock_model.specs.ExactStations.{is_of, knows, entry_of, EachOnce, is_waiting, is_holding, is_write, if_live, any_live, holds, writer_holds, writer_waits}
use Rattle.stable_record.specs.EntryLists.{replaced}
use Rattle.stable_record.specs.Lines.{is_for, waits_for, count_live, clients_of, tickets_for, line_of, one_if}
use Rattle.stable_record.specs.Indexing.{without_first, without_ticket, with_holder}
use Rattle.stable_record.proofs.LineFacts.{and-yes, off-live, holds-within, writer_holds-within, waits_for-within, writer_waits-within}
use Rattle.stable_record.proofs.ListFacts.{replaced-unknown}

-- ---- where a client's entry stands

pub record Stands (e : Entry) (es : List Entry) : Type 0 where
  pub front : List Entry
  pub back : List Entry
  pub is : es ≡ front ++ e ∷ back
  pub before : knows e.client front ≡ false
  pub after : knows e.client back ≡ false

pub stands : (e : Entry) (es : List Entry) → EachOnce es → entry_of es e.client ≡ Some e → Stands e es
stands e [] once h = absurd cc
stands e (d ∷ es) once h = go (is_of e.client d) refl h (stands e es once.1)
  where
    go : (b : Bool) → is_of e.client d ≡ b → cond b (Some d) (entry_of es e.client) ≡ Some e → (entry_of es e.client ≡ Some e → Stands e es) → Stands e (d ∷ es)
    go true own h more =
        let same : d ≡ e = cc in
        record { front = []; back = es; is = ap (λ (x : Entry). x ∷ es) same; before = refl; after = ap (λ (x : Entry). knows x.client es) (sym same) ∙ once.0 }
    go false other h more =
        let s = more h in
        record { front = d ∷ s.front; back = s.back; is = ap (λ (l : List Entry). d ∷ l) s.is; before = ap (λ b. b || knows e.client s.front) other ∙ s.before; after = s.after }

-- another entry of the client stands there where it is replaced
pub replaced-there : (f : Entry) (front back : List Entry) (e : Entry) → is_of f.client e ≡ true → knows f.client front ≡ false → knows f.client back ≡ false → replaced f (front ++ e ∷ back) ≡ front ++ f ∷ back
replaced-there f front back e own before after =
    map-append (λ (d : Entry). cond (is_of f.client d) f d) front (e ∷ back)
    ∙ ap (λ l. l ++ replaced f (e ∷ back)) (replaced-unknown f front before)
    ∙ ap (λ b. front ++ cond b f e ∷ replaced f back) own
    ∙ ap (λ l. front ++ f ∷ l) (replaced-unknown f back after)

-- ---- counts and lists, one entry within

pub count-within : (test : Live → Bool) (front rest : List Entry) (e : Entry) → count_live test (front ++ e ∷ rest) ≡ count_live test (front ++ rest) + one_if (if_live test e.live)
count-within test [] rest e = go (if_live test e.live)
  where
    left : List Entry
    left = filter (λ d. if_live test d.live) rest

    go : (b : Bool) → length (cond b (e ∷ left) left) ≡ length left + one_if b
    go true = omega arith
    go false = omega arith
count-within test (f ∷ front) rest e = go (if_live test f.live) (count-within test front rest e)
  where
    left : List Entry
    left = filter (λ d. if_live test d.live) (front ++ e ∷ rest)

    right : List Entry
    right = filter (λ d. if_live test d.live) (front ++ rest)

    go : (b : Bool) → length left ≡ length right + one_if (if_live test e.live) →
        length (cond b (f ∷ left) left) ≡ length (cond b (f ∷ right) right) + one_if (if_live test e.live)
    go true h = omega (arith, h)
    go false h = h

-- an entry that the test doesn't pass adds no client
pub clients-without : (test : Live → Bool) (front rest : List Entry) (e : Entry) → if_live test e.live ≡ false → clients_of test (front ++ e ∷ rest) ≡ clients_of test (front ++ rest)
clients-without test [] rest e h =
    let left = filter (λ (d : Entry). if_live test d.live) rest in
    ap (λ b. map (λ (d : Entry). d.client) (cond b (e ∷ left) left)) h
clients-without test (f ∷ front) rest e h = go (if_live test f.live) (clients-without test front rest e h)
  where
    left : List Entry
    left = filter (λ d. if_live test d.live) (front ++ e ∷ rest)

    right : List Entry
    right = filter (λ d. if_live test d.live) (front ++ rest)

    go : (b : Bool) → map (λ (d : Entry). d.client) left ≡ map (λ (d : Entry). d.client) right →
        map (λ (d : Entry). d.client) (cond b (f ∷ left) left) ≡ map (λ (d : Entry). d.client) (cond b (f ∷ right) right)
    go true k = ap (λ (l : List ℕ). f.client ∷ l) k
    go false k = k

-- one that it passes adds its client, in the first place where no earlier entry is the client's
pub clients-within : (test : Live → Bool) (front rest : List Entry) (e : Entry) → if_live test e.live ≡ true → knows e.client front ≡ false →
    without_first e.client (clients_of test (front ++ e ∷ rest)) ≡ clients_of test (front ++ rest)
clients-within test [] rest e h none =
    let left = filter (λ (d : Entry). if_live test d.live) rest in
    ap (λ b. without_first e.client (map (λ (d : Entry). d.client) (cond b (e ∷ left) left))) h
    ∙ ap (λ b. cond b (map (λ (d : Entry). d.client) left) (e.client ∷ without_first e.client (map (λ (d : Entry). d.client) left))) (eq-eqb e.client e.client refl)
clients-within test (f ∷ front) rest e h none = go (if_live test f.live) (clients-within test front rest e h (or_parts (is_of e.client f) (knows e.client front) none).1)
  where
    other : is_of e.client f ≡ false
    other = (or_parts (is_of e.client f) (knows e.client front) none).0

    left : List Entry
    left = filter (λ d. if_live test d.live) (front ++ e ∷ rest)

    right : List Entry
    right = filter (λ d. if_live test d.live) (front ++ rest)

    go : (b : Bool) → without_first e.client (map (λ (d : Entry). d.client) left) ≡ map (λ (d : Entry). d.client) right →
        without_first e.client (map (λ (d : Entry). d.client) (cond b (f ∷ left) left)) ≡ map (λ (d : Entry). d.client) (cond b (f ∷ right) right)
    go true k =
        ap (λ b. cond b (map (λ (d : Entry). d.client) left) (f.client ∷ without_first e.client (map (λ (d : Entry). d.client) left))) other
        ∙ ap (λ (l : List ℕ). f.client ∷ l) k
    go false k = k

pub any-within : (test : Live → Bool) (front rest : List Entry) (e : Entry) → any_live test (front ++ e ∷ rest) ≡ (if_live test e.live || any_live test (front ++ rest))
any-within test [] rest e = refl
any-within test (f ∷ front) rest e = ap (λ b. if_live test f.live || b) (any-within test front rest e) ∙ go (if_live test f.live) (if_live test e.live) (any_live test (front ++ rest))
  where
    go : (a b c : Bool) → (a || (b || c)) ≡ (b || (a || c))
    go true true c = refl
    go true false c = refl
    go false true c = refl
    go false false c = refl

-- ---- tickets, one entry within

-- an entry without a ticket for the resource
pub tickets-without : (x : List ℕ) (front rest : List Entry) (e : Entry) → if_live (is_for x) e.live ≡ false → tickets_for x (front ++ e ∷ rest) ≡ tickets_for x (front ++ rest)
tickets-without x front rest e k =
    let none : (test : Live → Bool) → if_live test e.live ≡ false → count_live test (front ++ e ∷ rest) ≡ count_live test (front ++ rest) =
    λ test h. let more : count_live test (front ++ e ∷ rest) ≡ count_live test (front ++ rest) + 0 = count-within test front rest e ∙ ap (λ b. count_live test (front ++ rest) + one_if b) h in omega (arith, more) in
    let p = none (holds x) (off-live (holds x) x (holds-within x) e.live k) in
    let q = none (writer_holds x) (off-live (writer_holds x) x (writer_holds-within x) e.live k) in
    let r = none (writer_waits x) (off-live (writer_waits x) x (writer_waits-within x) e.live k) in
    let s = clients-without (waits_for x) front rest e (off-live (waits_for x) x (waits_for-within x) e.live k) in
    λ i. record { holders = p i; writing_holders = q i; waiting_writers = r i; waiting = s i }

-- the line stays where such an entry goes
pub line-without : (x : List ℕ) (front rest : List Entry) (e : Entry) → if_live (is_for x) e.live ≡ false → line_of (front ++ e ∷ rest) x ≡ line_of (front ++ rest) x
line-without x front rest e k =
    let any : any_live (is_for x) (front ++ e ∷ rest) ≡ any_live (is_for x) (front ++ rest) = any-within (is_for x) front rest e ∙ ap (λ b. b || any_live (is_for x) (front ++ rest)) k in
    ap (λ b. cond b (Some (tickets_for x (front ++ e ∷ rest))) None) any
    ∙ ap (λ t. cond (any_live (is_for x) (front ++ rest)) (Some t) None) (tickets-without x front rest e k)

-- what each count and the list have of an entry with a ticket for the resource
pub record Counts (x : List ℕ) (front rest : List Entry) (e : Entry) (l : Live) : Type 0 where
  pub holders : count_live (holds x) (front ++ e ∷ rest) ≡ count_live (holds x) (front ++ rest) + one_if (is_holding l.status)
  pub writing_holders : count_live (writer_holds x) (front ++ e ∷ rest) ≡ count_live (writer_holds x) (front ++ rest) + one_if (is_write l.mode && is_holding l.status)
  pub waiting_writers : count_live (writer_waits x) (front ++ e ∷ rest) ≡ count_live (writer_waits x) (front ++ rest) + one_if (is_write l.mode && is_waiting l.status)
  pub waits : if_live (waits_for x) e.live ≡ is_waiting l.status

pub counts : (x : List ℕ) (front rest : List Entry) (e : Entry) (l : Live) → e.live ≡ Some l → is_for x l ≡ true → Counts x front rest e l
counts x front rest e l is k =
    let hold : holds x l ≡ is_holding l.status = and-yes (is_holding l.status) (bytes_eq l.resource x) k in
    let wait : waits_for x l ≡ is_waiting l.status = and-yes (is_waiting l.status) (bytes_eq l.resource x) k in
    record {
      holders = count-within (holds x) front rest e ∙ ap (λ b. count_live (holds x) (front ++ rest) + one_if b) (ap (if_live (holds x)) is ∙ hold);
      writing_holders = count-within (writer_holds x) front rest e ∙ ap (λ b. count_live (writer_holds x) (front ++ rest) + one_if b) (ap (if_live (writer_holds x)) is ∙ ap (λ b. is_write l.mode && b) hold);
      waiting_writers = count-within (writer_waits x) front rest e ∙ ap (λ b. count_live (writer_waits x) (front ++ rest) + one_if b) (ap (if_live (writer_waits x)) is ∙ ap (λ b. is_write l.mode && b) wait);
      waits = ap (if_live (waits_for x)) is ∙ wait;
    }

taken-back : (m n k : ℕ) → m ≡ n + k → m - k ≡ n
taken-back m n k h = omega (arith, h)

-- the tickets without that of an entry
pub tickets-ended : (x : List ℕ) (front rest : List Entry) (e : Entry) (l : Live) → e.live ≡ Some l → is_for x l ≡ true → knows e.client front ≡ false →
    without_ticket e.client l (tickets_for x (front ++ e ∷ rest)) ≡ tickets_for x (front ++ rest)
tickets-ended x front rest e l is k none =
    let c = counts x front rest e l is k in
    let p = taken-back _ _ _ c.holders in
    let q = taken-back _ _ _ c.writing_holders in
    let r = taken-back _ _ _ c.waiting_writers in
    let s = go (is_waiting l.status) c.waits in
    λ i. record { holders = p i; writing_holders = q i; waiting_writers = r i; waiting = s i }
  where
    all : List ℕ
    all = clients_of (waits_for x) (front ++ e ∷ rest)

    go : (b : Bool) → if_live (waits_for x) e.live ≡ b → cond b (without_first e.client all) all ≡ clients_of (waits_for x) (front ++ rest)
    go true h = clients-within (waits_for x) front rest e h none
    go false h = clients-without (waits_for x) front rest e h

-- the same with that of an entry that holds
pub tickets-held : (x : List ℕ) (front rest : List Entry) (e : Entry) (l : Live) → e.live ≡ Some l → is_for x l ≡ true → is_holding l.status ≡ true → is_waiting l.status ≡ false →
    with_holder l.mode (tickets_for x (front ++ rest)) ≡ tickets_for x (front ++ e ∷ rest)
tickets-held x front rest e l is k holding waiting =
    let c = counts x front rest e l is k in
    let one : one_if (is_holding l.status) ≡ 1 = ap one_if holding in
    let p : count_live (holds x) (front ++ rest) + 1 ≡ count_live (holds x) (front ++ e ∷ rest) = omega (arith, c.holders, one) in
    let q = sym (c.writing_holders ∙ ap (λ b. count_live (writer_holds x) (front ++ rest) + one_if b) (and-yes (is_write l.mode) (is_holding l.status) holding)) in
    let zero : one_if (is_write l.mode && is_waiting l.status) ≡ 0 = ap one_if (and_right (is_write l.mode) (is_waiting l.status) waiting) in
    let r : count_live (writer_waits x) (front ++ rest) ≡ count_live (writer_waits x) (front ++ e ∷ rest) = omega (arith, c.waiting_writers, zero) in
    let s = sym (clients-without (waits_for x) front rest e (c.waits ∙ waiting)) in
    λ i. record { holders = p i; writing_holders = q i; waiting_writers = r i; waiting = s i }
