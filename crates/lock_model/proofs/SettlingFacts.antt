-- Settling over entries is a settling of the station that they stand for.
use Rattle.std.proofs.Common.{◌≡◌, ℕ, ◌⊎◌, Bool, true, false, not, ◌&&◌, cond, List, [], ◌∷◌, ◌++◌, Option, Some, None, refl, sym, ◌∙◌, ap, subst, inl, inr}
use Rattle.std.specs.Option.{option_map}
use Rattle.std.specs.Str.{bytes_eq}
use Rattle.std.proofs.lemmas.Bool.{eq-eqb, cases_Bool, and_parts, and_cases, and_from, not-false}
use Rattle.std.proofs.lemmas.List.{append_assoc}
use Rattle.std.proofs.lemmas.Slice.Eq.{bytes_eq-Decides}
use Rattle.lock_messages.specs.declared.tickets.Mode.{Mode}
use Rattle.lock_messages.specs.declared.tickets.Mode.TheVariants.{Read, Write}
use Rattle.lock_model.specs.declared.entries.Entry.{Entry}
use Rattle.lock_model.specs.declared.entries.Live.{Live}
use Rattle.lock_model.specs.declared.entries.Status.{Status}
use Rattle.lock_model.specs.declared.entries.Status.TheVariants.{Waiting, Holding, Softened}
use Rattle.lock_model.specs.declared.problems.Problem.{Problem}
use Rattle.lock_model.specs.declared.problems.Problem.TheVariants.{First, Second}
use Rattle.lock_model.specs.Stations.{Free, Has, Standing, IsHolder, Holds, Waits, IsLawful, Cause, IsCaused, Settles}
use Rattle.lock_model.specs.ExactStations.{is_of, knows, entry_of, claim_of, standing_of, meaning, EachOnce, is_write, is_waiting, is_holding, any_live, holds, writer_holds, writer_waits, admits, promoted, settled_live, settled_entry, settle, settled}
use Rattle.lock_model.proofs.EntryFacts.{Middle, once-middle, once-same, entry_of-here, entry_of-other, entry_of-found, has-found, found-has, any-of, any_live-found, any_live-of}
use Rattle.lock_model.proofs.StationFacts as Station
use Rattle.lock_model.proofs.StationFacts.{Turn, stays, Processed, none-processed, turn-processed, processed-settles}

-- what the tests on tickets say

pub waiting-true : (s : Status) → is_waiting s ≡ true → s ≡ Waiting
waiting-true Waiting h = refl
waiting-true Holding h = cc
waiting-true Softened h = cc

pub holding-true : (s : Status) → is_holding s ≡ true → IsHolder s
holding-true Waiting h = cc
holding-true Holding h = tt
holding-true Softened h = tt

pub holder-holding : (s : Status) → IsHolder s → is_holding s ≡ true
holder-holding Waiting h = absurd h
holder-holding Holding h = refl
holder-holding Softened h = refl

pub write-true : (m : Mode) → is_write m ≡ true → m ≡ Write
write-true Read h = cc
write-true Write h = refl

pub holds-from : (x : List ℕ) (l : Live) → IsHolder l.status → l.resource ≡ x → holds x l ≡ true
holds-from x l s r = and_from (is_holding l.status) (bytes_eq l.resource x) (holder-holding l.status s) ((bytes_eq-Decides l.resource x).1 r)

-- a client of the entries whose ticket is a holder, or a writer's
record Passes (es : List Entry) (m : Mode) (x : List ℕ) (status : Status) : Type 0 where
  pub client : ℕ
  pub has : (standing_of (entry_of es client)).claim ≡ Has m x status

passes : (es : List Entry) (e : Entry) (l : Live) (m : Mode) (x : List ℕ) (status : Status) → entry_of es e.client ≡ Some e → e.live ≡ Some l →
    l.mode ≡ m → l.resource ≡ x → l.status ≡ status → Passes es m x status
passes es e l m x status f k a b c = record { client = e.client; has = found-has es e.client m x status (record { entry = e; live = l; entry_is = f; live_is = k; mode_is = a; resource_is = b; status_is = c }) }

any-holds : (p : Problem) (es : List Entry) (x : List ℕ) → EachOnce es → any_live (holds x) es ≡ true → (d : ℕ) × (m : Mode) × Holds (meaning p es) d m x
any-holds p es x o h =
    let f = any_live-found (holds x) es o h in
    let t = and_parts (is_holding (f.1).status) (bytes_eq (f.1).resource x) f.4 in
    let r = passes es f.0 f.1 (f.1).mode x (f.1).status f.2 f.3 refl ((bytes_eq-Decides (f.1).resource x).0 t.1) refl in
    (r.client, (f.1).mode, ((f.1).status, holding-true (f.1).status t.0, r.has))

any-writer_holds : (p : Problem) (es : List Entry) (x : List ℕ) → EachOnce es → any_live (writer_holds x) es ≡ true → (d : ℕ) × Holds (meaning p es) d Write x
any-writer_holds p es x o h =
    let f = any_live-found (writer_holds x) es o h in
    let w = and_parts (is_write (f.1).mode) (holds x f.1) f.4 in
    let t = and_parts (is_holding (f.1).status) (bytes_eq (f.1).resource x) w.1 in
    let r = passes es f.0 f.1 Write x (f.1).status f.2 f.3 (write-true (f.1).mode w.0) ((bytes_eq-Decides (f.1).resource x).0 t.1) refl in
    (r.client, ((f.1).status, holding-true (f.1).status t.0, r.has))

any-writer_waits : (p : Problem) (es : List Entry) (x : List ℕ) → EachOnce es → any_live (writer_waits x) es ≡ true → (d : ℕ) × Waits (meaning p es) d Write x
any-writer_waits p es x o h =
    let f = any_live-found (writer_waits x) es o h in
    let w = and_parts (is_write (f.1).mode) (is_waiting (f.1).status && bytes_eq (f.1).resource x) f.4 in
    let t = and_parts (is_waiting (f.1).status) (bytes_eq (f.1).resource x) w.1 in
    let r = passes es f.0 f.1 Write x Waiting f.2 f.3 (write-true (f.1).mode w.0) ((bytes_eq-Decides (f.1).resource x).0 t.1) (waiting-true (f.1).status t.0) in
    (r.client, r.has)

holds-any : (p : Problem) (es : List Entry) (x : List ℕ) (d : ℕ) (m : Mode) → Holds (meaning p es) d m x → any_live (holds x) es ≡ true
holds-any p es x d m h =
    let f = has-found es d m x h.0 h.2 in
    any_live-of (holds x) es d f.entry f.live f.entry_is f.live_is (holds-from x f.live (subst IsHolder (sym f.status_is) h.1) f.resource_is)

writer_holds-any : (p : Problem) (es : List Entry) (x : List ℕ) (d : ℕ) → Holds (meaning p es) d Write x → any_live (writer_holds x) es ≡ true
writer_holds-any p es x d h =
    let f = has-found es d Write x h.0 h.2 in
    any_live-of (writer_holds x) es d f.entry f.live f.entry_is f.live_is
    (and_from (is_write (f.live).mode) (holds x f.live) (ap is_write f.mode_is) (holds-from x f.live (subst IsHolder (sym f.status_is) h.1) f.resource_is))

writer_waits-any : (p : Problem) (es : List Entry) (x : List ℕ) (d : ℕ) → Waits (meaning p es) d Write x → any_live (writer_waits x) es ≡ true
writer_waits-any p es x d h =
    let f = has-found es d Write x Waiting h in
    any_live-of (writer_waits x) es d f.entry f.live f.entry_is f.live_is
    (and_from (is_write (f.live).mode) (is_waiting (f.live).status && bytes_eq (f.live).resource x) (ap is_write f.mode_is)
    (and_from (is_waiting (f.live).status) (bytes_eq (f.live).resource x) (ap is_waiting f.status_is) ((bytes_eq-Decides (f.live).resource x).1 f.resource_is)))

-- a ticket is admitted exactly where it has no cause to wait

pub refused-cause : (p : Problem) (es : List Entry) (m : Mode) (x : List ℕ) → EachOnce es → admits p m x es ≡ false → Cause (meaning p es) m x
refused-cause p es Write x o h = any-holds p es x o (not-false (any_live (holds x) es) h)
refused-cause First es Read x o h = inl (any-writer_holds First es x o (not-false (any_live (writer_holds x) es) h))
refused-cause Second es Read x o h = go (and_cases (not (any_live (writer_holds x) es)) (not (any_live (writer_waits x) es)) h)
  where
    go : (not (any_live (writer_holds x) es) ≡ false) ⊎ (not (any_live (writer_waits x) es) ≡ false) → Cause (meaning Second es) Read x
    go (inl k) = inl (any-writer_holds Second es x o (not-false (any_live (writer_holds x) es) k))
    go (inr k) = inr (refl, any-writer_waits Second es x o (not-false (any_live (writer_waits x) es) k))

clash : (b : Bool) → not b ≡ true → b ≡ true → ⊥
clash true h k = let e : false ≡ true = h in cc
clash false h k = cc

pub admitted-free : (p : Problem) (es : List Entry) (m : Mode) (x : List ℕ) → admits p m x es ≡ true → ¬ (Cause (meaning p es) m x)
admitted-free p es Write x h c = clash (any_live (holds x) es) h (holds-any p es x c.0 c.1 c.2)
admitted-free First es Read x h (inl c) = clash (any_live (writer_holds x) es) h (writer_holds-any First es x c.0 c.1)
admitted-free First es Read x h (inr c) = let e : First ≡ Second = c.0 in cc
admitted-free Second es Read x h (inl c) =
    clash (any_live (writer_holds x) es) (and_parts (not (any_live (writer_holds x) es)) (not (any_live (writer_waits x) es)) h).0 (writer_holds-any Second es x c.0 c.1)
admitted-free Second es Read x h (inr c) =
    clash (any_live (writer_waits x) es) (and_parts (not (any_live (writer_holds x) es)) (not (any_live (writer_waits x) es)) h).1 (writer_waits-any Second es x c.1.0 c.1.1)

-- an entry's turn to settle is its client's turn at the station

turn-none : (p : Problem) (front : List Entry) (e : Entry) (rest : List Entry) → EachOnce (front ++ e ∷ rest) → e.live ≡ None →
    (f : Entry) → f ≡ e → Turn (meaning p (front ++ e ∷ rest)) e.client (meaning p (front ++ f ∷ rest))
turn-none p front e rest o n f same =
    stays (ap (λ g. meaning p (front ++ g ∷ rest)) same) (λ m x w. absurd (
    let k : claim_of e.live ≡ Has m x Waiting = sym (ap (λ r. (standing_of r).claim) (entry_of-here front e rest (once-middle front e rest o))) ∙ w in
    let z : Free ≡ Has m x Waiting = sym (ap claim_of n) ∙ k in cc))

turn-some : (p : Problem) (front : List Entry) (e : Entry) (rest : List Entry) → EachOnce (front ++ e ∷ rest) → (l : Live) → e.live ≡ Some l →
    (b : Bool) → (is_waiting l.status && admits p l.mode l.resource (front ++ e ∷ rest)) ≡ b →
    (f : Entry) → f ≡ record { client = e.client; floor = e.floor; live = Some (cond b (promoted l) l) } →
    Turn (meaning p (front ++ e ∷ rest)) e.client (meaning p (front ++ f ∷ rest))
turn-some p front e rest o l live true t f shape =
    let m = once-middle front e rest o in
    let parts = and_parts (is_waiting l.status) (admits p l.mode l.resource (front ++ e ∷ rest)) t in
    let here : standing_of (entry_of (front ++ e ∷ rest) e.client) ≡ standing_of (Some e) = ap standing_of (entry_of-here front e rest m) in
    let waits : Waits (meaning p (front ++ e ∷ rest)) e.client l.mode l.resource =
    ap (λ (s : Standing). s.claim) here ∙ ap claim_of live ∙ ap (λ s. Has l.mode l.resource s) (waiting-true l.status parts.0) in
    let client : f.client ≡ e.client = ap (λ (g : Entry). g.client) shape in
    let put : Middle front f rest = record { new = ap (λ c. knows c (front ++ rest)) client ∙ m.new; rest = m.rest } in
    let now : standing_of (entry_of (front ++ f ∷ rest) e.client) ≡ record { floor = e.floor; claim = Has l.mode l.resource Holding } =
    ap (λ c. standing_of (entry_of (front ++ f ∷ rest) c)) (sym client) ∙ ap standing_of (entry_of-here front f rest put) ∙ ap (λ g. standing_of (Some g)) shape in
    Station.holds l.mode l.resource waits (admitted-free p (front ++ e ∷ rest) l.mode l.resource parts.1)
    (record {
      problem = refl;
      here = now ∙ ap (λ n. record { floor = n; claim = Has l.mode l.resource Holding }) (sym (ap (λ (s : Standing). s.floor) here));
      others = λ d apart. ap standing_of (entry_of-other front f rest put d (λ s. apart (s ∙ client)) ∙ sym (entry_of-other front e rest m d apart));
    })
turn-some p front e rest o l live false t f shape =
    let m = once-middle front e rest o in
    let same : f ≡ e = shape ∙ ap (λ k. record { client = e.client; floor = e.floor; live = k }) (sym live) in
    stays (ap (λ g. meaning p (front ++ g ∷ rest)) same) (λ mode x w.
    let claim : claim_of e.live ≡ Has mode x Waiting = sym (ap (λ r. (standing_of r).claim) (entry_of-here front e rest m)) ∙ w in
    let said : Has l.mode l.resource l.status ≡ Has mode x Waiting = sym (ap claim_of live) ∙ claim in
    let at_mode : l.mode ≡ mode = cc in
    let at_resource : l.resource ≡ x = cc in
    let at_status : l.status ≡ Waiting = cc in
    let refused : admits p l.mode l.resource (front ++ e ∷ rest) ≡ false = go (and_cases (is_waiting l.status) (admits p l.mode l.resource (front ++ e ∷ rest)) t) (ap is_waiting at_status) in
    subst (λ k. Cause (meaning p (front ++ e ∷ rest)) k x) at_mode
    (subst (λ k. Cause (meaning p (front ++ e ∷ rest)) l.mode k) at_resource (refused-cause p (front ++ e ∷ rest) l.mode l.resource o refused)))
  where
    go : (is_waiting l.status ≡ false) ⊎ (admits p l.mode l.resource (front ++ e ∷ rest) ≡ false) → is_waiting l.status ≡ true → admits p l.mode l.resource (front ++ e ∷ rest) ≡ false
    go (inl k) s = absurd (let z : false ≡ true = sym k ∙ s in cc)
    go (inr k) s = k

pub entry-turn : (p : Problem) (front : List Entry) (e : Entry) (rest : List Entry) → EachOnce (front ++ e ∷ rest) →
    Turn (meaning p (front ++ e ∷ rest)) e.client (meaning p (front ++ settled_entry p (front ++ e ∷ rest) e ∷ rest))
entry-turn p front e rest o = go e.live refl
  where
    go : (k : Option Live) → e.live ≡ k → Turn (meaning p (front ++ e ∷ rest)) e.client (meaning p (front ++ settled_entry p (front ++ e ∷ rest) e ∷ rest))
    go None n = turn-none p front e rest o n (settled_entry p (front ++ e ∷ rest) e)
        (ap (λ k. record { client = e.client; floor = e.floor; live = option_map (settled_live p (front ++ e ∷ rest)) k }) n ∙ ap (λ k. record { client = e.client; floor = e.floor; live = k }) (sym n))
    go (Some l) s = turn-some p front e rest o l s (is_waiting l.status && admits p l.mode l.resource (front ++ e ∷ rest)) refl (settled_entry p (front ++ e ∷ rest) e)
        (ap (λ k. record { client = e.client; floor = e.floor; live = option_map (settled_live p (front ++ e ∷ rest)) k }) s)

-- the clients of the rest had their turn
pub settle-processed : (p : Problem) (front rest : List Entry) → EachOnce (front ++ rest) →
    Processed (meaning p (front ++ rest)) (meaning p (front ++ settle p front rest)) (λ c. knows c rest)
settle-processed p front [] o = none-processed (meaning p (front ++ []))
settle-processed p front (e ∷ rest) o =
    let f = settled_entry p (front ++ e ∷ rest) e in
    let shape : front ++ f ∷ [] ++ rest ≡ front ++ f ∷ rest = append_assoc front (f ∷ []) rest in
    let after : front ++ f ∷ [] ++ settle p (front ++ f ∷ []) rest ≡ front ++ f ∷ settle p (front ++ f ∷ []) rest = append_assoc front (f ∷ []) (settle p (front ++ f ∷ []) rest) in
    let once : EachOnce (front ++ f ∷ rest) = once-same front e f rest refl o in
    let ih = settle-processed p (front ++ f ∷ []) rest (subst EachOnce (sym shape) once) in
    let ih' : Processed (meaning p (front ++ f ∷ rest)) (meaning p (front ++ f ∷ settle p (front ++ f ∷ []) rest)) (λ c. knows c rest) =
    subst (λ es. Processed (meaning p es) (meaning p (front ++ f ∷ settle p (front ++ f ∷ []) rest)) (λ c. knows c rest)) shape
    (subst (λ es. Processed (meaning p (front ++ f ∷ [] ++ rest)) (meaning p es) (λ c. knows c rest)) after ih) in
    turn-processed (meaning p (front ++ e ∷ rest)) (meaning p (front ++ f ∷ rest)) (meaning p (front ++ f ∷ settle p (front ++ f ∷ []) rest)) e.client (λ c. knows c rest) (entry-turn p front e rest o) ih'

-- who has a claim is known
pub claim-known : (p : Problem) (es : List Entry) (c : ℕ) (m : Mode) (x : List ℕ) → Waits (meaning p es) c m x → knows c es ≡ true
claim-known p es c m x w =
    let f = has-found es c m x Waiting w in
    let a = entry_of-found es c f.entry f.entry_is in
    any-of (is_of c) es f.entry a.0 (eq-eqb (f.entry).client c a.1)

pub settled-settles : (p : Problem) (es : List Entry) → EachOnce es → IsLawful (meaning p es) → Settles (meaning p es) (meaning p (settled p es))
settled-settles p es o l =
    processed-settles (meaning p es) (meaning p (settled p es)) (λ c. knows c es) l (claim-known p es) (settle-processed p [] es o)

-- from entries in which each that waits has a cause, settling changes nothing

entry-still : (p : Problem) (front : List Entry) (e : Entry) (rest : List Entry) → EachOnce (front ++ e ∷ rest) → IsCaused (meaning p (front ++ e ∷ rest)) →
    settled_entry p (front ++ e ∷ rest) e ≡ e
entry-still p front e rest o c = go e.live refl
  where
    es : List Entry
    es = front ++ e ∷ rest

    refused : (l : Live) → e.live ≡ Some l → is_waiting l.status ≡ true → admits p l.mode l.resource es ≡ false
    refused l k w =
        let waits : Waits (meaning p es) e.client l.mode l.resource =
        ap (λ o. (standing_of o).claim) (entry_of-here front e rest (once-middle front e rest o)) ∙ ap claim_of k ∙ ap (Has l.mode l.resource) (waiting-true l.status w) in
        by (cases_Bool (admits p l.mode l.resource es)) (c.cause e.client l.mode l.resource waits)
      where
        by : (admits p l.mode l.resource es ≡ true) ⊎ (admits p l.mode l.resource es ≡ false) → Cause (meaning p es) l.mode l.resource → admits p l.mode l.resource es ≡ false
        by (inr f) cause = f
        by (inl t) cause = absurd (admitted-free p es l.mode l.resource t cause)

    live : (l : Live) → e.live ≡ Some l → (w : Bool) → is_waiting l.status ≡ w → (is_waiting l.status && admits p l.mode l.resource es) ≡ false
    live l k true h = ap (λ b. b && admits p l.mode l.resource es) h ∙ refused l k h
    live l k false h = ap (λ b. b && admits p l.mode l.resource es) h

    go : (k : Option Live) → e.live ≡ k → settled_entry p es e ≡ e
    go None h = ap (λ k. record { client = e.client; floor = e.floor; live = option_map (settled_live p es) k }) h ∙ ap (λ k. record { client = e.client; floor = e.floor; live = k }) (sym h)
    go (Some l) h =
        ap (λ k. record { client = e.client; floor = e.floor; live = option_map (settled_live p es) k }) h
        ∙ ap (λ b. record { client = e.client; floor = e.floor; live = Some (cond b (promoted l) l) }) (live l h (is_waiting l.status) refl)
        ∙ ap (λ k. record { client = e.client; floor = e.floor; live = k }) (sym h)

settle-still : (p : Problem) (front rest : List Entry) → EachOnce (front ++ rest) → IsCaused (meaning p (front ++ rest)) → settle p front rest ≡ rest
settle-still p front [] o c = refl
settle-still p front (e ∷ rest) o c =
    let shape : front ++ e ∷ [] ++ rest ≡ front ++ e ∷ rest = append_assoc front (e ∷ []) rest in
    ap (λ f. f ∷ settle p (front ++ f ∷ []) rest) (entry-still p front e rest o c)
    ∙ ap (λ es. e ∷ es) (settle-still p (front ++ e ∷ []) rest (subst EachOnce (sym shape) o) (subst (λ es. IsCaused (meaning p es)) (sym shape) c))

pub settled-still : (p : Problem) (es : List Entry) → EachOnce es → IsCaused (meaning p es) → settled p es ≡ es
settled-still p es o c = settle-still p [] es o c
