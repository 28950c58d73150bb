-- What the index tells of entries, where it is theirs.
use Rattle.std.proofs.Common.{◌≡◌, ◌⊎◌, inl, inr, ℕ, zero, suc, ◌≤◌, ◌==◌, Bool, true, false, not, ◌||◌, ◌&&◌, cond, nat_lt, List, [], ◌∷◌, ◌++◌, length, filter, Option, Some, None, slice_get, refl, sym, ap, ◌∙◌, arith}
use Rattle.std.specs.List.{list_all}
use Rattle.std.specs.Str.{bytes_eq}
use Rattle.std.proofs.lemmas.Bool.{eqb-true, eq-eqb, ne_eqb, cases_eq, or_parts, and_parts, lt-ltb}
use Rattle.std.proofs.lemmas.List.{append_assoc}
use Rattle.std.proofs.lemmas.Slice.Eq.{bytes_eq-Decides}
use Rattle.lock_messages.specs.declared.tickets.Mode.{Mode}
use Rattle.lock_messages.specs.declared.tickets.Mode.TheVariants.{Read, Write}
use Rattle.lock_model.specs.declared.entries.Entry.{Entry}
use Rattle.lock_model.specs.declared.entries.Live.{Live}
use Rattle.lock_model.specs.declared.problems.Problem.{Problem}
use Rattle.lock_model.specs.ExactStations.{is_of, knows, EachOnce, is_waiting, is_holding, is_write, if_live, any_live, holds, writer_holds, writer_waits, admits_reader, admits}
use Rattle.lock_model.specs.Judgement.{is_only_holder, leaves_alone, is_lawful, has_cause, is_caused}
use Rattle.stable_record.specs.Lines.{Tickets, count_live, tickets_for, line_in, Indexes, or_none, admitted_beside, waits_by_line, alone_by_line}
use Rattle.stable_record.proofs.LineFacts.{or-none-read}

-- some ticket passes exactly where the count is above 0
pub count-any : (test : Live → Bool) (es : List Entry) → nat_lt 0 (count_live test es) ≡ any_live test es
count-any test [] = refl
count-any test (e ∷ es) = go (if_live test e.live) (count-any test es)
  where
    left : List Entry
    left = filter (λ d. if_live test d.live) es

    go : (b : Bool) → nat_lt 0 (length left) ≡ any_live test es → nat_lt 0 (length (cond b (e ∷ left) left)) ≡ (b || any_live test es)
    go true h = lt-ltb 0 (suc (length left)) (omega arith)
    go false h = h

-- the tickets of a line are those of the entries
pub read-line : (lines : List (List ℕ × Tickets)) (es : List Entry) → Indexes lines es → (x : List ℕ) → or_none (line_in lines x) ≡ tickets_for x es
read-line lines es h x = ap or_none (h x) ∙ or-none-read es x

-- a ticket is admitted among the entries exactly where it is beside those of its line
admitted-by-line : (p : Problem) (mode : Mode) (lines : List (List ℕ × Tickets)) (es : List Entry) → Indexes lines es → (x : List ℕ) → admitted_beside p mode (or_none (line_in lines x)) ≡ admits p mode x es
admitted-by-line p Write lines es h x = ap (admitted_beside p Write) (read-line lines es h x) ∙ ap not (count-any (holds x) es)
admitted-by-line p Read lines es h x =
    ap (admitted_beside p Read) (read-line lines es h x)
    ∙ ap (λ b. admits_reader p b (nat_lt 0 (count_live (writer_waits x) es))) (count-any (writer_holds x) es)
    ∙ ap (λ b. admits_reader p (any_live (writer_holds x) es) b) (count-any (writer_waits x) es)

cause-by-line : (p : Problem) (lines : List (List ℕ × Tickets)) (es : List Entry) → Indexes lines es → (live : Option Live) → waits_by_line p lines live ≡ has_cause p es live
cause-by-line p lines es h None = refl
cause-by-line p lines es h (Some l) = ap (λ b. not (is_waiting l.status) || not b) (admitted-by-line p l.mode lines es h l.resource)

caused-part : (p : Problem) (lines : List (List ℕ × Tickets)) (whole es : List Entry) → Indexes lines whole → list_all (λ e. waits_by_line p lines e.live) es ≡ list_all (λ e. has_cause p whole e.live) es
caused-part p lines whole [] h = refl
caused-part p lines whole (e ∷ es) h =
    ap (λ b. b && list_all (λ (d : Entry). waits_by_line p lines d.live) es) (cause-by-line p lines whole h e.live)
    ∙ ap (λ b. has_cause p whole e.live && b) (caused-part p lines whole es h)

-- who waits has a cause exactly where the lines say so
pub caused-by-line : (p : Problem) (lines : List (List ℕ × Tickets)) (es : List Entry) → Indexes lines es → list_all (λ e. waits_by_line p lines e.live) es ≡ is_caused p es
caused-by-line p lines es h = caused-part p lines es es h

-- ---- who is the only holder

succ-one : (n : ℕ) → (n == 0) ≡ (suc n == 1)
succ-one n = go (cases_eq n 0)
  where
    go : (n ≡ 0) ⊎ (n ≡ 0 → ⊥) → (n == 0) ≡ (suc n == 1)
    go (inl is) = eq-eqb n 0 is ∙ sym (eq-eqb (suc n) 1 (omega (arith, is)))
    go (inr more) = ne_eqb n 0 more ∙ sym (ne_eqb (suc n) 1 (λ is. more (omega (arith, is))))

only-unknown : (c : ℕ) (x : List ℕ) (es : List Entry) → knows c es ≡ false → is_only_holder es c x ≡ (count_live (holds x) es == 0)
only-unknown c x [] h = refl
only-unknown c x (e ∷ es) h =
    let k = or_parts (is_of c e) (knows c es) h in
    ap (λ b. (b || not (if_live (holds x) e.live)) && is_only_holder es c x) k.0 ∙ go (if_live (holds x) e.live) (only-unknown c x es k.1)
  where
    left : List Entry
    left = filter (λ d. if_live (holds x) d.live) es

    go : (b : Bool) → is_only_holder es c x ≡ (length left == 0) → (not b && is_only_holder es c x) ≡ (length (cond b (e ∷ left) left) == 0)
    go true ih = sym (ne_eqb (suc (length left)) 0 (λ z. omega (arith, z)))
    go false ih = ih

pub knows-at : (es : List Entry) (i : ℕ) (e : Entry) → slice_get es i ≡ Some e → knows e.client es ≡ true
knows-at [] i e h = cc
knows-at (d ∷ es) zero e h = let same : d ≡ e = cc in ap (λ b. b || knows e.client es) (eq-eqb d.client e.client (ap (λ (x : Entry). x.client) same))
knows-at (d ∷ es) (suc i) e h = go (is_of e.client d) (knows-at es i e h)
  where
    go : (b : Bool) → knows e.client es ≡ true → (b || knows e.client es) ≡ true
    go true k = refl
    go false k = k

count-at : (x : List ℕ) (es : List Entry) (i : ℕ) (e : Entry) → slice_get es i ≡ Some e → if_live (holds x) e.live ≡ true → 1 ≤ count_live (holds x) es
count-at x [] i e at h = cc
count-at x (d ∷ es) zero e at h =
    let same : d ≡ e = cc in
    let left = filter (λ (y : Entry). if_live (holds x) y.live) es in
    let is : length (cond (if_live (holds x) d.live) (d ∷ left) left) ≡ suc (length left) = ap (λ b. length (cond b (d ∷ left) left)) (ap (λ (y : Entry). if_live (holds x) y.live) same ∙ h) in
    omega (arith, is)
count-at x (d ∷ es) (suc i) e at h = go (if_live (holds x) d.live) (count-at x es i e at h)
  where
    left : List Entry
    left = filter (λ y. if_live (holds x) y.live) es

    go : (b : Bool) → 1 ≤ length left → 1 ≤ length (cond b (d ∷ left) left)
    go true k = omega (arith, k)
    go false k = k

-- who holds is the only one exactly where one holds
only-known : (x : List ℕ) (es : List Entry) (i : ℕ) (e : Entry) → EachOnce es → slice_get es i ≡ Some e → if_live (holds x) e.live ≡ true → is_only_holder es e.client x ≡ (count_live (holds x) es == 1)
only-known x [] i e once at h = cc
only-known x (d ∷ es) zero e once at h =
    let same : d ≡ e = cc in
    let left = filter (λ (y : Entry). if_live (holds x) y.live) es in
    let own : is_of e.client d ≡ true = eq-eqb d.client e.client (ap (λ (y : Entry). y.client) same) in
    let none : knows e.client es ≡ false = ap (λ (y : Entry). knows y.client es) (sym same) ∙ once.0 in
    let held : if_live (holds x) d.live ≡ true = ap (λ (y : Entry). if_live (holds x) y.live) same ∙ h in
    ap (λ b. (b || not (if_live (holds x) d.live)) && is_only_holder es e.client x) own ∙ only-unknown e.client x es none
    ∙ succ-one (length left) ∙ sym (ap (λ b. length (cond b (d ∷ left) left) == 1) held)
only-known x (d ∷ es) (suc i) e once at h = go (if_live (holds x) d.live) (only-known x es i e once.1 at h)
  where
    left : List Entry
    left = filter (λ y. if_live (holds x) y.live) es

    other : (b : Bool) → is_of e.client d ≡ b → is_of e.client d ≡ false
    other false is = is
    other true is =
        let clash : true ≡ false = sym (knows-at es i e at) ∙ ap (λ k. knows k es) (sym (eqb-true d.client e.client is)) ∙ once.0 in
        cc

    turned : (b : Bool) → ((is_of e.client d || not b) && is_only_holder es e.client x) ≡ (not b && is_only_holder es e.client x)
    turned b = ap (λ o. (o || not b) && is_only_holder es e.client x) (other (is_of e.client d) refl)

    go : (b : Bool) → is_only_holder es e.client x ≡ (length left == 1) → ((is_of e.client d || not b) && is_only_holder es e.client x) ≡ (length (cond b (d ∷ left) left) == 1)
    go true ih = turned true ∙ sym (ne_eqb (suc (length left)) 1 (λ z. let k = count-at x es i e at h in omega (arith, z, k)))
    go false ih = turned false ∙ ih

alone-at : (lines : List (List ℕ × Tickets)) (es : List Entry) → Indexes lines es → EachOnce es → (i client floor : ℕ) (live : Option Live) → slice_get es i ≡ Some (record { client = client; floor = floor; live = live }) →
    alone_by_line lines live ≡ leaves_alone es client live
alone-at lines es h once i client floor None at = refl
alone-at lines es h once i client floor (Some l) at = go (is_write l.mode && is_holding l.status) refl
  where
    x : List ℕ
    x = l.resource

    one : Bool
    one = (or_none (line_in lines l.resource)).holders == 1

    go : (b : Bool) → (is_write l.mode && is_holding l.status) ≡ b → (not (is_write l.mode && is_holding l.status) || one) ≡ (not (is_write l.mode && is_holding l.status) || is_only_holder es client l.resource)
    go false is = ap (λ b. not b || one) is ∙ sym (ap (λ b. not b || is_only_holder es client l.resource) is)
    go true is =
        let holding : is_holding l.status ≡ true = (and_parts (is_write l.mode) (is_holding l.status) is).1 in
        let held : holds l.resource l ≡ true = ap (λ b. b && bytes_eq l.resource l.resource) holding ∙ (bytes_eq-Decides l.resource l.resource).1 refl in
        let same : one ≡ is_only_holder es client l.resource =
        ap (λ (t : Tickets). t.holders == 1) (read-line lines es h l.resource) ∙ sym (only-known l.resource es i (record { client = client; floor = floor; live = Some l }) once at held) in
        ap (λ b. not (is_write l.mode && is_holding l.status) || b) same

pub seam : (front es : List Entry) (e : Entry) → slice_get (front ++ e ∷ es) (length front) ≡ Some e
seam [] es e = refl
seam (f ∷ front) es e = seam front es e

alone-part : (lines : List (List ℕ × Tickets)) (whole : List Entry) → Indexes lines whole → EachOnce whole → (front es : List Entry) → front ++ es ≡ whole →
    list_all (λ e. alone_by_line lines e.live) es ≡ list_all (λ e. leaves_alone whole e.client e.live) es
alone-part lines whole h once front [] is = refl
alone-part lines whole h once front (e ∷ es) is =
    let at : slice_get whole (length front) ≡ Some e = ap (λ l. slice_get l (length front)) (sym is) ∙ seam front es e in
    ap (λ b. b && list_all (λ (d : Entry). alone_by_line lines d.live) es) (alone-at lines whole h once (length front) e.client e.floor e.live at)
    ∙ ap (λ b. leaves_alone whole e.client e.live && b) (alone-part lines whole h once (front ++ e ∷ []) es (append_assoc front (e ∷ []) es ∙ is))

-- each writer that holds is alone exactly where the lines say so
pub lawful-by-line : (lines : List (List ℕ × Tickets)) (es : List Entry) → Indexes lines es → EachOnce es → list_all (λ e. alone_by_line lines e.live) es ≡ is_lawful es
lawful-by-line lines es h once = alone-part lines es h once [] es refl
