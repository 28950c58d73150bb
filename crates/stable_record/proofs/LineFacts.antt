-- The tickets of a resource, when an entry comes behind the others.
use Rattle.std.proofs.Common.{◌≡◌, ◌⊎◌, inl, inr, ℕ, suc, ◌+◌, ◌<◌, ◌≤◌, Bool, true, false, ◌||◌, ◌&&◌, cond, List, [], ◌∷◌, ◌++◌, length, take, filter, map, Option, Some, None, refl, sym, ap, ◌∙◌, subst, arith, slice_get}
use Rattle.std.specs.Map.{lookup}
use Rattle.std.specs.BTreeMap.{is_at}
use Rattle.std.specs.Cmp.Lexicographic.{slice_cmp}
use Rattle.std.specs.Ordering.{nat_cmp}
use Rattle.std.specs.Str.{bytes_eq}
use Rattle.std.proofs.lemmas.Bool.{cases_Bool, or_parts, or_right, and_right}
use Rattle.std.proofs.lemmas.List.{append-nil, take_more}
use Rattle.std.proofs.lemmas.Option.{get_or_from_slice_get}
use Rattle.std.proofs.lemmas.Map.Text.{is_eq-slice_cmp}
use Rattle.std.proofs.lemmas.Slice.Eq.{bytes_eq-Decides}
use Rattle.lock_messages.specs.declared.ids.TheConstants.{MAX_CLIENTS}
use Rattle.lock_model.specs.declared.entries.Entry.{Entry}
use Rattle.lock_model.specs.declared.entries.Live.{Live}
use Rattle.lock_model.specs.ExactStations.{is_waiting, is_holding, is_write, if_live, any_live, holds, writer_holds, writer_waits}
use Rattle.stable_record.specs.Lines.{Tickets, is_for, waits_for, count_live, clients_of, tickets_for, line_of, line_in, Indexes, no_tickets, one_if, with_ticket, or_none, Joins, AreFew}

-- ---- the lines of a map

-- a look-up by the order of names is one by their bytes
pub line-in-read : (lines : List (List ℕ × Tickets)) (x : List ℕ) → lookup (is_at (slice_cmp nat_cmp x)) lines ≡ line_in lines x
line-in-read [] x = refl
line-in-read (e ∷ es) x =
    ap (λ b. cond b (Some e.1) (lookup (is_at (slice_cmp nat_cmp x)) es)) (is_eq-slice_cmp x e.0)
    ∙ ap (λ r. cond (bytes_eq x e.0) (Some e.1) r) (line-in-read es x)

pub ruleset line_facts = (line-in-read)

-- a map that got these tickets at a resource has them there, and what it had elsewhere
pub line-in-updated : (key : List ℕ) (old new : List (List ℕ × Tickets)) (w : Option Tickets) →
    ((q : List ℕ) → lookup (is_at (slice_cmp nat_cmp q)) new ≡ cond (is_at (slice_cmp nat_cmp key) q) w (lookup (is_at (slice_cmp nat_cmp q)) old)) →
    (x : List ℕ) → line_in new x ≡ cond (bytes_eq key x) w (line_in old x)
line-in-updated key old new w h x =
    sym (line-in-read new x) ∙ h x
    ∙ ap (λ b. cond b w (lookup (is_at (slice_cmp nat_cmp x)) old)) (is_eq-slice_cmp key x)
    ∙ ap (λ r. cond (bytes_eq key x) w r) (line-in-read old x)

-- ---- counts and lists, one entry more

pub count-snoc : (test : Live → Bool) (es : List Entry) (e : Entry) → count_live test (es ++ e ∷ []) ≡ count_live test es + one_if (if_live test e.live)
count-snoc test [] e = go (if_live test e.live)
  where
    go : (b : Bool) → length (cond b (e ∷ []) []) ≡ 0 + one_if b
    go true = refl
    go false = refl
count-snoc test (f ∷ es) e = go (if_live test f.live) (count-snoc test es e)
  where
    left : List Entry
    left = filter (λ d. if_live test d.live) (es ++ e ∷ [])

    right : List Entry
    right = filter (λ d. if_live test d.live) es

    go : (b : Bool) → length left ≡ length right + one_if (if_live test e.live) →
        length (cond b (f ∷ left) left) ≡ length (cond b (f ∷ right) right) + one_if (if_live test e.live)
    go true h = omega (arith, h)
    go false h = h

pub clients-snoc : (test : Live → Bool) (es : List Entry) (e : Entry) → clients_of test (es ++ e ∷ []) ≡ clients_of test es ++ cond (if_live test e.live) (e.client ∷ []) []
clients-snoc test [] e = go (if_live test e.live)
  where
    go : (b : Bool) → map (λ (d : Entry). d.client) (cond b (e ∷ []) []) ≡ cond b (e.client ∷ []) []
    go true = refl
    go false = refl
clients-snoc test (f ∷ es) e = go (if_live test f.live) (clients-snoc test es e)
  where
    left : List Entry
    left = filter (λ d. if_live test d.live) (es ++ e ∷ [])

    right : List Entry
    right = filter (λ d. if_live test d.live) es

    last : List ℕ
    last = cond (if_live test e.live) (e.client ∷ []) []

    go : (b : Bool) → map (λ (d : Entry). d.client) left ≡ map (λ (d : Entry). d.client) right ++ last →
        map (λ (d : Entry). d.client) (cond b (f ∷ left) left) ≡ map (λ (d : Entry). d.client) (cond b (f ∷ right) right) ++ last
    go true h = ap (λ (l : List ℕ). f.client ∷ l) h
    go false h = h

pub any-snoc : (test : Live → Bool) (es : List Entry) (e : Entry) → any_live test (es ++ e ∷ []) ≡ (any_live test es || if_live test e.live)
any-snoc test [] e = go (if_live test e.live)
  where
    go : (b : Bool) → (b || false) ≡ b
    go true = refl
    go false = refl
any-snoc test (f ∷ es) e = go (if_live test f.live) (any-snoc test es e)
  where
    go : (b : Bool) → any_live test (es ++ e ∷ []) ≡ (any_live test es || if_live test e.live) →
        (b || any_live test (es ++ e ∷ [])) ≡ ((b || any_live test es) || if_live test e.live)
    go true h = refl
    go false h = h

pub count-few : (test : Live → Bool) (es : List Entry) → count_live test es ≤ length es
count-few test [] = omega arith
count-few test (f ∷ es) = go (if_live test f.live) (count-few test es)
  where
    left : List Entry
    left = filter (λ d. if_live test d.live) es

    go : (b : Bool) → length left ≤ length es → length (cond b (f ∷ left) left) ≤ suc (length es)
    go true h = omega (arith, h)
    go false h = omega (arith, h)

-- ---- which tickets a test passes

pub and-yes : (b c : Bool) → c ≡ true → (b && c) ≡ b
and-yes true c h = h
and-yes false c h = refl

pub or-no : (b c : Bool) → c ≡ false → (b || c) ≡ b
or-no true c h = refl
or-no false c h = h

-- the test passes tickets for the resource alone
abbrev pub IsWithin : (test : Live → Bool) → List ℕ → Type 0
IsWithin test x = (l : Live) → is_for x l ≡ false → test l ≡ false

pub holds-within : (x : List ℕ) → IsWithin (holds x) x
holds-within x l k = and_right (is_holding l.status) (bytes_eq l.resource x) k

pub writer_holds-within : (x : List ℕ) → IsWithin (writer_holds x) x
writer_holds-within x l k = and_right (is_write l.mode) (holds x l) (holds-within x l k)

pub waits_for-within : (x : List ℕ) → IsWithin (waits_for x) x
waits_for-within x l k = and_right (is_waiting l.status) (bytes_eq l.resource x) k

pub writer_waits-within : (x : List ℕ) → IsWithin (writer_waits x) x
writer_waits-within x l k = and_right (is_write l.mode) (waits_for x l) (waits_for-within x l k)

pub off-live : (test : Live → Bool) (x : List ℕ) → IsWithin test x → (o : Option Live) → if_live (is_for x) o ≡ false → if_live test o ≡ false
off-live test x h None k = refl
off-live test x h (Some l) k = h l k

-- ---- tickets, one entry more

same-count : (test : Live → Bool) (es : List Entry) (e : Entry) → if_live test e.live ≡ false → count_live test (es ++ e ∷ []) ≡ count_live test es
same-count test es e h =
    let more : count_live test (es ++ e ∷ []) ≡ count_live test es + 0 = count-snoc test es e ∙ ap (λ b. count_live test es + one_if b) h in
    omega (arith, more)

same-clients : (test : Live → Bool) (es : List Entry) (e : Entry) → if_live test e.live ≡ false → clients_of test (es ++ e ∷ []) ≡ clients_of test es
same-clients test es e h =
    clients-snoc test es e ∙ ap (λ b. clients_of test es ++ cond b (e.client ∷ []) []) h ∙ append-nil (clients_of test es)

tickets-other : (x : List ℕ) (es : List Entry) (e : Entry) → if_live (is_for x) e.live ≡ false → tickets_for x (es ++ e ∷ []) ≡ tickets_for x es
tickets-other x es e k =
    let p = same-count (holds x) es e (off-live (holds x) x (holds-within x) e.live k) in
    let q = same-count (writer_holds x) es e (off-live (writer_holds x) x (writer_holds-within x) e.live k) in
    let r = same-count (writer_waits x) es e (off-live (writer_waits x) x (writer_waits-within x) e.live k) in
    let s = same-clients (waits_for x) es e (off-live (waits_for x) x (waits_for-within x) e.live k) in
    λ i. record { holders = p i; writing_holders = q i; waiting_writers = r i; waiting = s i }

pub tickets-here : (x : List ℕ) (es : List Entry) (e : Entry) (l : Live) → e.live ≡ Some l → is_for x l ≡ true → tickets_for x (es ++ e ∷ []) ≡ with_ticket e.client l (tickets_for x es)
tickets-here x es e l is k =
    let hold : holds x l ≡ is_holding l.status = and-yes (is_holding l.status) (bytes_eq l.resource x) k in
    let wait : waits_for x l ≡ is_waiting l.status = and-yes (is_waiting l.status) (bytes_eq l.resource x) k in
    let p = count-snoc (holds x) es e ∙ ap (λ b. count_live (holds x) es + one_if b) (ap (if_live (holds x)) is ∙ hold) in
    let q = count-snoc (writer_holds x) es e ∙ ap (λ b. count_live (writer_holds x) es + one_if b) (ap (if_live (writer_holds x)) is ∙ ap (λ b. is_write l.mode && b) hold) in
    let r = count-snoc (writer_waits x) es e ∙ ap (λ b. count_live (writer_waits x) es + one_if b) (ap (if_live (writer_waits x)) is ∙ ap (λ b. is_write l.mode && b) wait) in
    let s = clients-snoc (waits_for x) es e ∙ ap (λ b. clients_of (waits_for x) es ++ cond b (e.client ∷ []) []) (ap (if_live (waits_for x)) is ∙ wait) in
    λ i. record { holders = p i; writing_holders = q i; waiting_writers = r i; waiting = s i }

none-pass : (test : Live → Bool) (x : List ℕ) → IsWithin test x → (es : List Entry) → any_live (is_for x) es ≡ false → filter (λ e. if_live test e.live) es ≡ []
none-pass test x h [] k = refl
none-pass test x h (e ∷ es) k =
    let p = or_parts (if_live (is_for x) e.live) (any_live (is_for x) es) k in
    let rest = filter (λ (d : Entry). if_live test d.live) es in
    ap (λ b. cond b (e ∷ rest) rest) (off-live test x h e.live p.0) ∙ none-pass test x h es p.1

pub tickets-none : (x : List ℕ) (es : List Entry) → any_live (is_for x) es ≡ false → tickets_for x es ≡ no_tickets
tickets-none x es k =
    let p = ap length (none-pass (holds x) x (holds-within x) es k) in
    let q = ap length (none-pass (writer_holds x) x (writer_holds-within x) es k) in
    let r = ap length (none-pass (writer_waits x) x (writer_waits-within x) es k) in
    let s = ap (map (λ (d : Entry). d.client)) (none-pass (waits_for x) x (waits_for-within x) es k) in
    λ i. record { holders = p i; writing_holders = q i; waiting_writers = r i; waiting = s i }

-- the line of the entries, or no tickets, are their tickets
pub or-none-read : (es : List Entry) (x : List ℕ) → or_none (line_of es x) ≡ tickets_for x es
or-none-read es x = go (any_live (is_for x) es) refl
  where
    go : (b : Bool) → any_live (is_for x) es ≡ b → or_none (cond b (Some (tickets_for x es)) None) ≡ tickets_for x es
    go true k = refl
    go false k = sym (tickets-none x es k)

-- ---- the index, one entry more

pub line-other : (x : List ℕ) (es : List Entry) (e : Entry) → if_live (is_for x) e.live ≡ false → line_of (es ++ e ∷ []) x ≡ line_of es x
line-other x es e k =
    let any : any_live (is_for x) (es ++ e ∷ []) ≡ any_live (is_for x) es = any-snoc (is_for x) es e ∙ or-no (any_live (is_for x) es) (if_live (is_for x) e.live) k in
    ap (λ b. cond b (Some (tickets_for x (es ++ e ∷ []))) None) any
    ∙ ap (λ t. cond (any_live (is_for x) es) (Some t) None) (tickets-other x es e k)

pub line-here : (x : List ℕ) (es : List Entry) (e : Entry) (l : Live) → e.live ≡ Some l → is_for x l ≡ true → line_of (es ++ e ∷ []) x ≡ Some (with_ticket e.client l (tickets_for x es))
line-here x es e l is k =
    let any : any_live (is_for x) (es ++ e ∷ []) ≡ true = any-snoc (is_for x) es e ∙ or_right (any_live (is_for x) es) (if_live (is_for x) e.live) (ap (if_live (is_for x)) is ∙ k) in
    ap (λ b. cond b (Some (tickets_for x (es ++ e ∷ []))) None) any ∙ ap (λ t. Some t) (tickets-here x es e l is k)

-- a live ticket comes to the index with its entry
pub indexes-joined : (old new : List (List ℕ × Tickets)) (e : Entry) (l : Live) → e.live ≡ Some l → Joins e.client l old new → (es : List Entry) → Indexes old es → Indexes new (es ++ e ∷ [])
indexes-joined old new e l is joins es h x = go (cases_Bool (bytes_eq l.resource x))
  where
    with : Tickets
    with = with_ticket e.client l (or_none (line_in old l.resource))

    go : (bytes_eq l.resource x ≡ true) ⊎ (bytes_eq l.resource x ≡ false) → line_in new x ≡ line_of (es ++ e ∷ []) x
    go (inl k) =
        let same : l.resource ≡ x = (bytes_eq-Decides l.resource x).0 k in
        let before : or_none (line_in old l.resource) ≡ tickets_for x es = ap (λ y. or_none (line_in old y)) same ∙ ap or_none (h x) ∙ or-none-read es x in
        joins x ∙ ap (λ b. cond b (Some with) (line_in old x)) k ∙ ap (λ t. Some (with_ticket e.client l t)) before ∙ sym (line-here x es e l is k)
    go (inr k) =
        joins x ∙ ap (λ b. cond b (Some with) (line_in old x)) k ∙ h x ∙ sym (line-other x es e (ap (if_live (is_for x)) is ∙ k))

-- there are fewer tickets than clients, where there are fewer entries
pub indexed-few : (lines : List (List ℕ × Tickets)) (es : List Entry) → Indexes lines es → length es < MAX_CLIENTS → (x : List ℕ) → AreFew (or_none (line_in lines x))
indexed-few lines es h few x =
    subst AreFew (sym (ap or_none (h x) ∙ or-none-read es x)) (record {
      holders = omega (arith, few, count-few (holds x) es);
      writing_holders = omega (arith, few, count-few (writer_holds x) es);
      waiting_writers = omega (arith, few, count-few (writer_waits x) es);
    })

-- what is indexed of a front, with the next entry
pub indexes-more : (lines : List (List ℕ × Tickets)) (es : List Entry) (i : ℕ) (e : Entry) → i < length es → slice_get es i ≡ Some e → Indexes lines (take i es ++ e ∷ []) → Indexes lines (take (i + 1) es)
indexes-more lines es i e lt at h =
    let one : take (i + 1) es ≡ take i es ++ e ∷ [] = take_more es i e lt ∙ ap (λ (y : Entry). take i es ++ y ∷ []) (get_or_from_slice_get es i e e at) in
    subst (Indexes lines) (sym one) h
