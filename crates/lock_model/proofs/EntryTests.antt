-- What == says of entries.
use Rattle.std.proofs.Common.{◌≡◌, ◌≢◌, ◌↔◌, ◌==◌, Bool, true, false, not, ◌&&◌, List, [], ◌∷◌, Option, Some, None, IsTrue, refl, sym, ◌∙◌, ap, Decides}
use Rattle.std.specs.Option.{option_eq}
use Rattle.std.specs.Str.{bytes_eq}
use Rattle.std.specs.Cmp.Lexicographic.{pointwise}
use Rattle.std.proofs.lemmas.Bool.{and_parts, and_from}
use Rattle.std.proofs.lemmas.Bool.Decides.{Decides-eqb}
use Rattle.std.proofs.lemmas.Slice.Eq.{bytes_eq-Decides, slice_eq-Decides}
use denote.Enum.Bare.{sameb}
use Rattle.lock_messages.specs.contracts.tickets.Mode.{the_type as mode_type}
use Rattle.lock_model.specs.contracts.entries.Status.{the_type as status_type}
use Rattle.lock_messages.specs.declared.tickets.Mode.{Mode}
use Rattle.lock_messages.specs.declared.tickets.Mode.TheVariants.{Read, Write}
use Rattle.lock_model.specs.declared.entries.Entry.{Entry}
use Rattle.lock_model.specs.declared.entries.Live.{Live}
use Rattle.lock_model.specs.declared.entries.Status.{Status}
use Rattle.lock_model.specs.declared.entries.Status.TheVariants.{Waiting, Holding, Softened}
use Rattle.lock_model.specs.ExactDecisions.{same_mode, same_status, same_live, same_entry, same_entries}

mode-decides : (a b : Mode) → Decides (sameb mode_type a b) (a ≡ b)
mode-decides Read Read = (λ h. refl, λ h. refl)
mode-decides Read Write = (λ h. cc, λ h. cc)
mode-decides Write Read = (λ h. cc, λ h. cc)
mode-decides Write Write = (λ h. refl, λ h. refl)

status-decides : (a b : Status) → Decides (sameb status_type a b) (a ≡ b)
status-decides Waiting Waiting = (λ h. refl, λ h. refl)
status-decides Waiting Holding = (λ h. cc, λ h. cc)
status-decides Waiting Softened = (λ h. cc, λ h. cc)
status-decides Holding Waiting = (λ h. cc, λ h. cc)
status-decides Holding Holding = (λ h. refl, λ h. refl)
status-decides Holding Softened = (λ h. cc, λ h. cc)
status-decides Softened Waiting = (λ h. cc, λ h. cc)
status-decides Softened Holding = (λ h. cc, λ h. cc)
status-decides Softened Softened = (λ h. refl, λ h. refl)

abbrev pub live_test : Live → Live → Bool
live_test x y = (x.attempt == y.attempt) && (sameb mode_type x.mode y.mode && (bytes_eq x.resource y.resource && sameb status_type x.status y.status))

live-decides : (x y : Live) → Decides (live_test x y) (x ≡ y)
live-decides x y = (to, from)
  where
    to : live_test x y ≡ true → x ≡ y
    to h =
        let p = and_parts (x.attempt == y.attempt) (sameb mode_type x.mode y.mode && (bytes_eq x.resource y.resource && sameb status_type x.status y.status)) h in
        let q = and_parts (sameb mode_type x.mode y.mode) (bytes_eq x.resource y.resource && sameb status_type x.status y.status) p.1 in
        let r = and_parts (bytes_eq x.resource y.resource) (sameb status_type x.status y.status) q.1 in
        ap (λ a. record { attempt = a; mode = x.mode; resource = x.resource; status = x.status }) ((Decides-eqb x.attempt y.attempt).0 p.0)
        ∙ ap (λ m. record { attempt = y.attempt; mode = m; resource = x.resource; status = x.status }) ((mode-decides x.mode y.mode).0 q.0)
        ∙ ap (λ n. record { attempt = y.attempt; mode = y.mode; resource = n; status = x.status }) ((bytes_eq-Decides x.resource y.resource).0 r.0)
        ∙ ap (λ s. record { attempt = y.attempt; mode = y.mode; resource = y.resource; status = s }) ((status-decides x.status y.status).0 r.1)

    from : x ≡ y → live_test x y ≡ true
    from e =
        and_from (x.attempt == y.attempt) (sameb mode_type x.mode y.mode && (bytes_eq x.resource y.resource && sameb status_type x.status y.status))
        ((Decides-eqb x.attempt y.attempt).1 (ap (λ (l : Live). l.attempt) e))
        (and_from (sameb mode_type x.mode y.mode) (bytes_eq x.resource y.resource && sameb status_type x.status y.status) ((mode-decides x.mode y.mode).1 (ap (λ (l : Live). l.mode) e))
        (and_from (bytes_eq x.resource y.resource) (sameb status_type x.status y.status) ((bytes_eq-Decides x.resource y.resource).1 (ap (λ (l : Live). l.resource) e)) ((status-decides x.status y.status).1 (ap (λ (l : Live). l.status) e))))

option-decides : (a b : Option Live) → Decides (option_eq live_test a b) (a ≡ b)
option-decides None None = (λ h. refl, λ h. refl)
option-decides None (Some y) = (λ h. cc, λ h. cc)
option-decides (Some x) None = (λ h. cc, λ h. cc)
option-decides (Some x) (Some y) = (λ h. ap Some ((live-decides x y).0 h), λ h. (live-decides x y).1 cc)

-- the test that == makes of two entries
abbrev pub entry_test : Entry → Entry → Bool
entry_test a b = (a.client == b.client) && ((a.floor == b.floor) && option_eq live_test a.live b.live)

pub entry-decides : (a b : Entry) → Decides (entry_test a b) (a ≡ b)
entry-decides a b = (to, from)
  where
    to : entry_test a b ≡ true → a ≡ b
    to h =
        let p = and_parts (a.client == b.client) ((a.floor == b.floor) && option_eq live_test a.live b.live) h in
        let q = and_parts (a.floor == b.floor) (option_eq live_test a.live b.live) p.1 in
        ap (λ c. record { client = c; floor = a.floor; live = a.live }) ((Decides-eqb a.client b.client).0 p.0)
        ∙ ap (λ f. record { client = b.client; floor = f; live = a.live }) ((Decides-eqb a.floor b.floor).0 q.0)
        ∙ ap (λ l. record { client = b.client; floor = b.floor; live = l }) ((option-decides a.live b.live).0 q.1)

    from : a ≡ b → entry_test a b ≡ true
    from e =
        and_from (a.client == b.client) ((a.floor == b.floor) && option_eq live_test a.live b.live) ((Decides-eqb a.client b.client).1 (ap (λ (k : Entry). k.client) e))
        (and_from (a.floor == b.floor) (option_eq live_test a.live b.live) ((Decides-eqb a.floor b.floor).1 (ap (λ (k : Entry). k.floor) e)) ((option-decides a.live b.live).1 (ap (λ (k : Entry). k.live) e)))

-- the plain tests say the same

mode-same : (a b : Mode) → sameb mode_type a b ≡ same_mode a b
mode-same Read Read = refl
mode-same Read Write = refl
mode-same Write Read = refl
mode-same Write Write = refl

status-same : (a b : Status) → sameb status_type a b ≡ same_status a b
status-same Waiting Waiting = refl
status-same Waiting Holding = refl
status-same Waiting Softened = refl
status-same Holding Waiting = refl
status-same Holding Holding = refl
status-same Holding Softened = refl
status-same Softened Waiting = refl
status-same Softened Holding = refl
status-same Softened Softened = refl

live-same : (x y : Live) → live_test x y ≡ same_live x y
live-same x y =
    ap (λ m. (x.attempt == y.attempt) && (m && (bytes_eq x.resource y.resource && sameb status_type x.status y.status))) (mode-same x.mode y.mode)
    ∙ ap (λ s. (x.attempt == y.attempt) && (same_mode x.mode y.mode && (bytes_eq x.resource y.resource && s))) (status-same x.status y.status)

option-same : (a b : Option Live) → option_eq live_test a b ≡ option_eq same_live a b
option-same None None = refl
option-same None (Some y) = refl
option-same (Some x) None = refl
option-same (Some x) (Some y) = live-same x y

entry-same : (a b : Entry) → entry_test a b ≡ same_entry a b
entry-same a b = ap (λ o. (a.client == b.client) && ((a.floor == b.floor) && o)) (option-same a.live b.live)

entries-same : (xs ys : List Entry) → pointwise entry_test xs ys ≡ same_entries xs ys
entries-same [] [] = refl
entries-same [] (y ∷ ys) = refl
entries-same (x ∷ xs) [] = refl
entries-same (x ∷ xs) (y ∷ ys) = ap (λ b. b && pointwise entry_test xs ys) (entry-same x y) ∙ ap (λ b. same_entry x y && b) (entries-same xs ys)

pub differ-is : (before after : List Entry) (r : Bool) → r ≡ not (pointwise entry_test before after) → r ≡ not (same_entries before after)
differ-is before after r h = h ∙ ap not (entries-same before after)

-- what == and != say of two lists of entries
pub differ-iff : (before after : List Entry) (r : Bool) → r ≡ not (pointwise entry_test before after) → IsTrue r ↔ (after ≢ before)
differ-iff before after r h = go (pointwise entry_test before after) refl
  where
    d : Decides (pointwise entry_test before after) (before ≡ after)
    d = slice_eq-Decides entry-decides before after (pointwise entry_test before after) refl

    go : (b : Bool) → pointwise entry_test before after ≡ b → IsTrue r ↔ (after ≢ before)
    go true e = let no_change : r ≡ false = h ∙ ap not e in (λ t. absurd (let z : false ≡ true = sym no_change ∙ t in cc), λ apart. absurd (apart (sym (d.0 e))))
    go false e = (λ t same. let z : false ≡ true = sym e ∙ d.1 (sym same) in cc, λ apart. h ∙ ap not e)

-- whether the test of two lists of entries fails
pub no-change-iff : (before after : List Entry) → (not (same_entries before after) ≡ false) ↔ (after ≡ before)
no-change-iff before after = go (same_entries before after) refl
  where
    d : Decides (pointwise entry_test before after) (before ≡ after)
    d = slice_eq-Decides entry-decides before after (pointwise entry_test before after) refl

    go : (b : Bool) → same_entries before after ≡ b → (not b ≡ false) ↔ (after ≡ before)
    go true e = (λ z. sym (d.0 (entries-same before after ∙ e)), λ z. refl)
    go false e = (λ z. absurd (let q : true ≡ false = z in cc), λ z. let q : true ≡ false = sym (d.1 (sym z)) ∙ entries-same before after ∙ e in cc)

-- the test that compares entries one by one is true exactly where they differ
pub not-same-iff : (before after : List Entry) → IsTrue (not (same_entries before after)) ↔ (after ≢ before)
not-same-iff before after = differ-iff before after (not (same_entries before after)) (sym (ap not (entries-same before after)))
