-- The Grants that settling adds are those of the tickets that it made holders.
use Rattle.std.proofs.Common.{◌≡◌, ◌≢◌, ◌↔◌, ℕ, ◌+◌, ◌==◌, ◌⊎◌, Bool, true, false, ◌&&◌, cond, List, [], ◌∷◌, ◌++◌, Option, Some, None, IfSome, refl, sym, ◌∙◌, ap, subst, inl, inr}
use Rattle.std.specs.List.{AllByRecursion}
use Rattle.std.proofs.lemmas.Bool.{eq-eqb, ne_eqb, and_parts, and_from}
use Rattle.std.proofs.lemmas.Bool.Decides.{eqb_tells}
use Rattle.lock_messages.specs.declared.tickets.Mode.{Mode}
use Rattle.lock_messages.specs.declared.messages.Message.{Message}
use Rattle.lock_messages.specs.declared.messages.Message.TheVariants.{Grant}
use Rattle.lock_model.specs.declared.entries.Entry.{Entry}
use Rattle.lock_model.specs.declared.entries.Live.{Live}
use Rattle.lock_model.specs.declared.entries.Status.{Status}
use Rattle.lock_model.specs.declared.entries.Status.TheVariants.{Waiting, Holding}
use Rattle.lock_model.specs.declared.problems.Problem.{Problem}
use Rattle.lock_model.specs.Stations.{Has, Station, Holds, Waits, Becomes, Settles}
use Rattle.lock_model.specs.Decisions.{Among, IsOnly, TellsGrant, AreReplies, AreGrants}
use Rattle.lock_model.specs.ExactStations.{is_of, knows, entry_of, standing_of, claim_of, meaning, EachOnce, IsAboveFloor, is_waiting, is_holding, if_live, settled_entry, settle, waits_in, holds_in}
use Rattle.lock_model.specs.ExactDecisions.{grant_of, told, grants}
use Rattle.lock_model.proofs.EntryFacts.{any-none, entry_of-found, all-at, has-found, if_live-found}
use Rattle.lock_model.proofs.StationFacts.{not-both}
use Rattle.lock_model.proofs.SettlingFacts.{waiting-true, holding-true}

pub among-left : {A : Type 0} (x : A) (xs ys : List A) → Among x xs → Among x (xs ++ ys)
among-left x [] ys m = absurd m
among-left x (z ∷ xs) ys (inl e) = inl e
among-left x (z ∷ xs) ys (inr m) = inr (among-left x xs ys m)

pub among-right : {A : Type 0} (x : A) (xs ys : List A) → Among x ys → Among x (xs ++ ys)
among-right x [] ys m = m
among-right x (z ∷ xs) ys m = inr (among-right x xs ys m)

pub among-cases : {A : Type 0} (x : A) (xs ys : List A) → Among x (xs ++ ys) → Among x xs ⊎ Among x ys
among-cases x [] ys m = inr m
among-cases x (z ∷ xs) ys (inl e) = inl (inl e)
among-cases {A} x (z ∷ xs) ys (inr m) = go (among-cases x xs ys m)
  where
    go : Among x xs ⊎ Among x ys → Among x (z ∷ xs) ⊎ Among x ys
    go (inl h) = inl (inr h)
    go (inr h) = inr h

-- two lists have the same clients at the same places
abbrev pub InStep : List Entry → List Entry → Type 0
InStep [] [] = Unit {0}
InStep [] (f ∷ fs) = ⊥
InStep (e ∷ es) [] = ⊥
InStep (e ∷ es) (f ∷ fs) = (f.client ≡ e.client) × InStep es fs

pub settle-in-step : (p : Problem) (front rest : List Entry) → InStep rest (settle p front rest)
settle-in-step p front [] = tt
settle-in-step p front (e ∷ rest) = (refl, settle-in-step p (front ++ settled_entry p (front ++ e ∷ rest) e ∷ []) rest)

-- a client whose ticket waited in one list and holds in the other
pub record NewHolder (n : ℕ) (es fs : List Entry) (r : Message) : Type 0 where
  pub client : ℕ
  pub before : Entry
  pub after : Entry
  pub found_before : entry_of es client ≡ Some before
  pub found_after : entry_of fs client ≡ Some after
  pub waited : waits_in (Some before) ≡ true
  pub holds : holds_in (Some after) ≡ true
  pub told_so : Among r (grant_of n after.client after.live)

told-among : (n : ℕ) (e f : Entry) (r : Message) → Among r (told n e f) → (waits_in (Some e) ≡ true) × (holds_in (Some f) ≡ true) × Among r (grant_of n f.client f.live)
told-among n e f r m = go (waits_in (Some e) && holds_in (Some f)) refl m
  where
    go : (b : Bool) → (waits_in (Some e) && holds_in (Some f)) ≡ b → Among r (cond b (grant_of n f.client f.live) []) → (waits_in (Some e) ≡ true) × (holds_in (Some f) ≡ true) × Among r (grant_of n f.client f.live)
    go true h m = let p = and_parts (waits_in (Some e)) (holds_in (Some f)) h in (p.0, p.1, m)
    go false h m = absurd m

told-from : (n : ℕ) (e f : Entry) (r : Message) → waits_in (Some e) ≡ true → holds_in (Some f) ≡ true → Among r (grant_of n f.client f.live) → Among r (told n e f)
told-from n e f r w h m = subst (λ b. Among r (cond b (grant_of n f.client f.live) [])) (sym (and_from (waits_in (Some e)) (holds_in (Some f)) w h)) m

-- found at the head, or behind it
head-found : (e : Entry) (es : List Entry) → entry_of (e ∷ es) e.client ≡ Some e
head-found e es = ap (λ b. cond b (Some e) (entry_of es e.client)) (eq-eqb e.client e.client refl)

tail-found : (e : Entry) (es : List Entry) (c : ℕ) → c ≢ e.client → entry_of (e ∷ es) c ≡ entry_of es c
tail-found e es c apart = ap (λ b. cond b (Some e) (entry_of es c)) (ne_eqb e.client c (λ s. apart (sym s)))

behind : (n : ℕ) (e f : Entry) (es fs : List Entry) (r : Message) → f.client ≡ e.client → knows e.client es ≡ false → NewHolder n es fs r → NewHolder n (e ∷ es) (f ∷ fs) r
behind n e f es fs r same new h =
    let apart : h.client ≢ e.client = λ s.
    let k = entry_of-found es h.client h.before h.found_before in
    let no_match : is_of e.client h.before ≡ false = any-none (is_of e.client) es h.before new k.0 in
    let match : is_of e.client h.before ≡ true = eq-eqb (h.before).client e.client (k.1 ∙ s) in
    let z : false ≡ true = sym no_match ∙ match in cc in
    record {
      client = h.client;
      before = h.before;
      after = h.after;
      found_before = tail-found e es h.client apart ∙ h.found_before;
      found_after = tail-found f fs h.client (λ s. apart (s ∙ same)) ∙ h.found_after;
      waited = h.waited;
      holds = h.holds;
      told_so = h.told_so;
    }

pub grants-sound : (n : ℕ) (es fs : List Entry) (r : Message) → InStep es fs → EachOnce es → Among r (grants n es fs) → NewHolder n es fs r
grants-sound n [] fs r s o m = absurd m
grants-sound n (e ∷ es) [] r s o m = absurd m
grants-sound n (e ∷ es) (f ∷ fs) r s o m = go (grants-sound n es fs r s.1 o.1) (among-cases r (told n e f) (grants n es fs) m)
  where
    go : (Among r (grants n es fs) → NewHolder n es fs r) → Among r (told n e f) ⊎ Among r (grants n es fs) → NewHolder n (e ∷ es) (f ∷ fs) r
    go ih (inl k) =
        let t = told-among n e f r k in
        record {
          client = e.client;
          before = e;
          after = f;
          found_before = head-found e es;
          found_after = ap (entry_of (f ∷ fs)) (sym s.0) ∙ head-found f fs;
          waited = t.0;
          holds = t.1;
          told_so = t.2;
        }
    go ih (inr k) = behind n e f es fs r s.0 o.0 (ih k)

pub grants-complete : (n : ℕ) (es fs : List Entry) (r : Message) → InStep es fs → NewHolder n es fs r → Among r (grants n es fs)
grants-complete n [] fs r s h = absurd (let z : None ≡ Some h.before = h.found_before in cc)
grants-complete n (e ∷ es) [] r s h = absurd s
grants-complete n (e ∷ es) (f ∷ fs) r s h = go (grants-complete n es fs r s.1) (eqb_tells h.client e.client)
  where
    go : (NewHolder n es fs r → Among r (grants n es fs)) → (((h.client == e.client) ≡ true) × (h.client ≡ e.client)) ⊎ (((h.client == e.client) ≡ false) × (h.client ≢ e.client)) → Among r (told n e f ++ grants n es fs)
    go ih (inl k) =
        let eb : Some e ≡ Some h.before = sym (head-found e es) ∙ ap (entry_of (e ∷ es)) (sym k.1) ∙ h.found_before in
        let fb : Some f ≡ Some h.after = sym (head-found f fs) ∙ ap (entry_of (f ∷ fs)) (s.0 ∙ sym k.1) ∙ h.found_after in
        let e_is : h.before ≡ e = cc in
        let f_is : h.after ≡ f = cc in
        among-left r (told n e f) (grants n es fs)
        (told-from n e f r (ap (λ g. waits_in (Some g)) (sym e_is) ∙ h.waited) (ap (λ g. holds_in (Some g)) (sym f_is) ∙ h.holds) (subst (λ (g : Entry). Among r (grant_of n g.client g.live)) f_is h.told_so))
    go ih (inr k) = among-right r (told n e f) (grants n es fs) (ih (record {
      client = h.client;
      before = h.before;
      after = h.after;
      found_before = sym (tail-found e es h.client k.1) ∙ h.found_before;
      found_after = sym (tail-found f fs h.client (λ q. k.1 (q ∙ s.0))) ∙ h.found_after;
      waited = h.waited;
      holds = h.holds;
      told_so = h.told_so;
    }))

-- who waited and holds became a holder
new-becomes : (s t : Station) → Settles s t → (c : ℕ) (m w : Mode) (x y : List ℕ) → Waits s c w y → Holds t c m x → Becomes s t c m x
new-becomes s t k c m w x y wait hold = go (k.claims c)
  where
    go : ((t.at c).claim ≡ (s.at c).claim) ⊎ ((v : Mode) × (z : List ℕ) × Becomes s t c v z) → Becomes s t c m x
    go (inl e) = absurd (not-both s c w m y x wait (hold.0, hold.1, sym e ∙ hold.2))
    go (inr b) =
        let same : Has b.0 b.1 Holding ≡ Has m x hold.0 = sym b.2.1 ∙ hold.2 in
        let mode : b.0 ≡ m = cc in
        let resource : b.1 ≡ x = cc in (
          b.2.0 ∙ ap (λ v. Has v b.1 Waiting) mode ∙ ap (λ z. Has m z Waiting) resource,
          b.2.1 ∙ ap (λ v. Has v b.1 Holding) mode ∙ ap (λ z. Has m z Holding) resource,
        )

live-claim : (o : Option Live) (l : Live) → o ≡ Some l → (s : Status) → l.status ≡ s → claim_of o ≡ Has l.mode l.resource s
live-claim o l h s k = ap claim_of h ∙ ap (λ v. Has l.mode l.resource v) k

pub grant-told : (n : ℕ) (p : Problem) (es fs : List Entry) (r : Message) → AllByRecursion IsAboveFloor fs → Settles (meaning p es) (meaning p fs) → NewHolder n es fs r → TellsGrant n (meaning p es) (meaning p fs) r
grant-told n p es fs r a k h =
    let w = if_live-found (λ l. is_waiting l.status) (h.before).live h.waited in
    let l = if_live-found (λ l. is_holding l.status) (h.after).live h.holds in
    let wait : Waits (meaning p es) h.client (w.0).mode (w.0).resource = ap (λ o. (standing_of o).claim) h.found_before ∙ live-claim (h.before).live w.0 w.1 Waiting (waiting-true (w.0).status w.2) in
    let hold : Holds (meaning p fs) h.client (l.0).mode (l.0).resource =
    ((l.0).status, holding-true (l.0).status l.2, ap (λ o. (standing_of o).claim) h.found_after ∙ live-claim (h.after).live l.0 l.1 (l.0).status refl) in
    let attempt : (l.0).attempt ≡ (h.after).floor + 1 = above (h.after).live l.1 (all-at IsAboveFloor fs h.client h.after a h.found_after) in
    let client : (h.after).client ≡ h.client = (entry_of-found fs h.client h.after h.found_after).1 in
    let floor : (h.after).floor ≡ (standing_of (entry_of fs h.client)).floor = sym (ap (λ o. (standing_of o).floor) h.found_after) in
    let one : r ≡ Grant n (record { client = (h.after).client; attempt = (l.0).attempt; mode = (l.0).mode; resource = (l.0).resource }) = only (h.after).live l.1 h.told_so in (
      h.client,
      (l.0).mode,
      (l.0).resource,
      new-becomes (meaning p es) (meaning p fs) k h.client (l.0).mode (w.0).mode (l.0).resource (w.0).resource wait hold,
      one ∙ ap (λ c. Grant n (record { client = c; attempt = (l.0).attempt; mode = (l.0).mode; resource = (l.0).resource })) client
          ∙ ap (λ b. Grant n (record { client = h.client; attempt = b; mode = (l.0).mode; resource = (l.0).resource })) (attempt ∙ ap (λ q. q + 1) floor),
    )
  where
    above : {l : Live} (o : Option Live) → o ≡ Some l → IfSome o (λ k. k.attempt ≡ (h.after).floor + 1) → l.attempt ≡ (h.after).floor + 1
    above {l} o s q = subst (λ v. IfSome v (λ k. k.attempt ≡ (h.after).floor + 1)) s q

    only : {l : Live} (o : Option Live) → o ≡ Some l → Among r (grant_of n (h.after).client o) → r ≡ Grant n (record { client = (h.after).client; attempt = l.attempt; mode = l.mode; resource = l.resource })
    only {l} o s q = one (subst (λ v. Among r (grant_of n (h.after).client v)) s q)
      where
        one : Among r (grant_of n (h.after).client (Some l)) → r ≡ Grant n (record { client = (h.after).client; attempt = l.attempt; mode = l.mode; resource = l.resource })
        one (inl e) = e
        one (inr z) = absurd z

pub told-grant : (n : ℕ) (p : Problem) (es fs : List Entry) (r : Message) → AllByRecursion IsAboveFloor fs → TellsGrant n (meaning p es) (meaning p fs) r → NewHolder n es fs r
told-grant n p es fs r a h =
    let w = has-found es h.0 h.1 h.2 Waiting h.3.0 in
    let l = has-found fs h.0 h.1 h.2 Holding h.3.1 in
    let attempt : (l.live).attempt ≡ (l.entry).floor + 1 = subst (λ v. IfSome v (λ k. k.attempt ≡ (l.entry).floor + 1)) l.live_is (all-at IsAboveFloor fs h.0 l.entry a l.entry_is) in
    let client : (l.entry).client ≡ h.0 = (entry_of-found fs h.0 l.entry l.entry_is).1 in
    let floor : (standing_of (entry_of fs h.0)).floor ≡ (l.entry).floor = ap (λ o. (standing_of o).floor) l.entry_is in
    let same : r ≡ Grant n (record { client = (l.entry).client; attempt = (l.live).attempt; mode = (l.live).mode; resource = (l.live).resource }) =
    h.4 ∙ ap (λ c. Grant n (record { client = c; attempt = (standing_of (entry_of fs h.0)).floor + 1; mode = h.1; resource = h.2 })) (sym client)
    ∙ ap (λ b. Grant n (record { client = (l.entry).client; attempt = b; mode = h.1; resource = h.2 })) (ap (λ q. q + 1) floor ∙ sym attempt)
    ∙ ap (λ m. Grant n (record { client = (l.entry).client; attempt = (l.live).attempt; mode = m; resource = h.2 })) (sym l.mode_is)
    ∙ ap (λ x. Grant n (record { client = (l.entry).client; attempt = (l.live).attempt; mode = (l.live).mode; resource = x })) (sym l.resource_is) in
    record {
      client = h.0;
      before = w.entry;
      after = l.entry;
      found_before = w.entry_is;
      found_after = l.entry_is;
      waited = ap (if_live (λ k. is_waiting k.status)) w.live_is ∙ ap is_waiting w.status_is;
      holds = ap (if_live (λ k. is_holding k.status)) l.live_is ∙ ap is_holding l.status_is;
      told_so = subst (λ o. Among r (grant_of n (l.entry).client o)) (sym l.live_is) (inl same);
    }

-- these Grants are those of the relation
pub grants-are : (n : ℕ) (p : Problem) (es fs : List Entry) → InStep es fs → EachOnce es → AllByRecursion IsAboveFloor fs → Settles (meaning p es) (meaning p fs) →
    AreGrants n (meaning p es) (meaning p fs) (grants n es fs)
grants-are n p es fs s o a k r = (λ m. grant-told n p es fs r a k (grants-sound n es fs r s o m), λ t. grants-complete n es fs r s (told-grant n p es fs r a t))

-- the replies with these Grants are those of the relation
pub replies-are : (n : ℕ) (p : Problem) (es fs : List Entry) (first : Message) → InStep es fs → EachOnce es → AllByRecursion IsAboveFloor fs → Settles (meaning p es) (meaning p fs) →
    AreReplies n first (meaning p es) (meaning p fs) (first ∷ grants n es fs)
replies-are n p es fs first s o a k r = (to, from)
  where
    are : Among r (grants n es fs) ↔ TellsGrant n (meaning p es) (meaning p fs) r
    are = grants-are n p es fs s o a k r

    to : Among r (first ∷ grants n es fs) → (r ≡ first) ⊎ TellsGrant n (meaning p es) (meaning p fs) r
    to (inl e) = inl e
    to (inr m) = inr (are.0 m)

    from : (r ≡ first) ⊎ TellsGrant n (meaning p es) (meaning p fs) r → Among r (first ∷ grants n es fs)
    from (inl e) = inl e
    from (inr t) = inr (are.1 t)

pub only-reply : (first : Message) → IsOnly first (first ∷ [])
only-reply first r = (to, λ e. inl e)
  where
    to : Among r (first ∷ []) → r ≡ first
    to (inl e) = e
    to (inr z) = absurd z
