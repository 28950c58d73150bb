-- Stations that only move tickets from waiting to holding, and settling one client after the other.
use Rattle.std.proofs.Common.{◌≡◌, ◌≢◌, ℕ, ◌==◌, ◌⊎◌, Bool, true, false, ◌||◌, List, refl, sym, ◌∙◌, ap, subst, inl, inr}
use Rattle.std.proofs.lemmas.Bool.{eqb-true, or_cases, cases_eq}
use Rattle.lock_messages.specs.declared.tickets.Mode.{Mode}
use Rattle.lock_messages.specs.declared.tickets.Mode.TheVariants.{Read, Write}
use Rattle.lock_model.specs.declared.entries.Status.{Status}
use Rattle.lock_model.specs.declared.entries.Status.TheVariants.{Waiting, Holding, Softened}
use Rattle.lock_model.specs.declared.problems.Problem.TheVariants.{Second}
use Rattle.lock_model.specs.Stations.{Has, Standing, Station, IsHolder, Holds, Waits, IsLawful, Cause, IsCaused, Puts, Becomes, Settles}

-- t is s with some waiting tickets holding
pub record Advances (s t : Station) : Type 0 where
  pub problem : t.problem ≡ s.problem
  pub floors : (c : ℕ) → (t.at c).floor ≡ (s.at c).floor
  pub claims : (c : ℕ) → ((t.at c).claim ≡ (s.at c).claim) ⊎ ((m : Mode) × (x : List ℕ) × Becomes s t c m x)

-- who waits doesn't hold
pub not-both : (s : Station) (c : ℕ) (m n : Mode) (x y : List ℕ) → Waits s c m x → Holds s c n y → ⊥
not-both s c m n x y h k = go k.0 k.1 (sym h ∙ k.2)
  where
    go : (status : Status) → IsHolder status → Has m x Waiting ≡ Has n y status → ⊥
    go Waiting i e = i
    go Holding i e = cc
    go Softened i e = cc

-- who holds does so as it did
pub status-kept : (s t : Station) → Advances s t → (c : ℕ) (m : Mode) (x : List ℕ) (status : Status) → IsHolder status → (s.at c).claim ≡ Has m x status → (t.at c).claim ≡ Has m x status
status-kept s t a c m x status i h = go (a.claims c)
  where
    go : ((t.at c).claim ≡ (s.at c).claim) ⊎ ((n : Mode) × (y : List ℕ) × Becomes s t c n y) → (t.at c).claim ≡ Has m x status
    go (inl e) = e ∙ h
    go (inr b) = absurd (not-both s c b.0 m b.1 x b.2.0 (status, i, h))

pub holds-kept : (s t : Station) → Advances s t → (c : ℕ) (m : Mode) (x : List ℕ) → Holds s c m x → Holds t c m x
holds-kept s t a c m x h = (h.0, h.1, status-kept s t a c m x h.0 h.1 h.2)

pub waits-back : (s t : Station) → Advances s t → (c : ℕ) (m : Mode) (x : List ℕ) → Waits t c m x → Waits s c m x
waits-back s t a c m x h = go (a.claims c)
  where
    go : ((t.at c).claim ≡ (s.at c).claim) ⊎ ((n : Mode) × (y : List ℕ) × Becomes s t c n y) → Waits s c m x
    go (inl e) = sym e ∙ h
    go (inr b) = absurd (not-both t c m b.0 x b.1 h (Holding, tt, b.2.1))

-- a writer that waited waits or holds
writer-kept : (s t : Station) → Advances s t → (d : ℕ) (x : List ℕ) → Waits s d Write x → Holds t d Write x ⊎ Waits t d Write x
writer-kept s t a d x h = go (a.claims d)
  where
    go : ((t.at d).claim ≡ (s.at d).claim) ⊎ ((n : Mode) × (y : List ℕ) × Becomes s t d n y) → Holds t d Write x ⊎ Waits t d Write x
    go (inl e) = inr (e ∙ h)
    go (inr b) =
        let same : Has b.0 b.1 Waiting ≡ Has Write x Waiting = sym b.2.0 ∙ h in
        let mode : b.0 ≡ Write = cc in
        let resource : b.1 ≡ x = cc in
        inl (Holding, tt, b.2.1 ∙ ap (λ w. Has w b.1 Holding) mode ∙ ap (λ w. Has Write w Holding) resource)

pub cause-kept : (s t : Station) → Advances s t → (m : Mode) (x : List ℕ) → Cause s m x → Cause t m x
cause-kept s t a Write x h = (h.0, h.1, holds-kept s t a h.0 h.1 x h.2)
cause-kept s t a Read x (inl h) = inl (h.0, holds-kept s t a h.0 Write x h.1)
cause-kept s t a Read x (inr h) = go (writer-kept s t a h.1.0 x h.1.1)
  where
    go : Holds t h.1.0 Write x ⊎ Waits t h.1.0 Write x → Cause t Read x
    go (inl k) = inl (h.1.0, k)
    go (inr k) = inr (a.problem ∙ h.0, (h.1.0, k))

-- a writer that holds is a cause for everybody
pub writer-causes : (s : Station) (c : ℕ) (m : Mode) (x : List ℕ) → Holds s c Write x → Cause s m x
writer-causes s c Write x h = (c, Write, h)
writer-causes s c Read x h = inl (c, h)

-- The client's turn to settle: it stays where it stands, with a cause if it waits, or it waits
-- without one, and holds from now on.
pub data Turn (s : Station) (c : ℕ) (t : Station) : Type 0 where
  stays : t ≡ s → ((m : Mode) (x : List ℕ) → Waits s c m x → Cause s m x) → Turn s c t
  holds : (m : Mode) (x : List ℕ) → Waits s c m x → ¬ (Cause s m x) →
      Puts s c (record { floor = (s.at c).floor; claim = Has m x Holding }) t → Turn s c t

-- t is s after some clients had their turn
pub record Processed (s t : Station) (had_turn : ℕ → Bool) : Type 0 where
  pub advances : Advances s t
  pub lawful : IsLawful s → IsLawful t
  pub caused : (c : ℕ) → had_turn c ≡ true → (m : Mode) (x : List ℕ) → Waits t c m x → Cause t m x
  pub no_passing : s.problem ≡ Second → (c d : ℕ) (x : List ℕ) → Becomes s t c Read x → ¬ (Waits t d Write x)

pub none-processed : (s : Station) → Processed s s (λ _. false)
none-processed s = record {
  advances = record { problem = refl; floors = λ c. refl; claims = λ c. inl refl };
  lawful = λ l. l;
  caused = λ c h. absurd (let e : false ≡ true = h in cc);
  no_passing = λ p c d x b w. not-both s c Read Read x x b.0 (Holding, tt, b.1);
}

more-stays : (s t : Station) (c : ℕ) (had_turn : ℕ → Bool) → ((m : Mode) (x : List ℕ) → Waits s c m x → Cause s m x) →
    Processed s t had_turn → Processed s t (λ d. (c == d) || had_turn d)
more-stays s t c had_turn why p = record {
  advances = p.advances;
  lawful = p.lawful;
  caused = λ d h m x w. go d m x w (or_cases (c == d) (had_turn d) h);
  no_passing = p.no_passing;
}
  where
    go : (d : ℕ) (m : Mode) (x : List ℕ) → Waits t d m x → ((c == d) ≡ true) ⊎ (had_turn d ≡ true) → Cause t m x
    go d m x w (inr h) = p.caused d h m x w
    go d m x w (inl h) =
        let at_c : Waits t c m x = subst (λ n. Waits t n m x) (sym (eqb-true c d h)) w in
        cause-kept s t p.advances m x (why m x (waits-back s t p.advances c m x at_c))

-- what is at a client after one client was put to hold
record Held (s u : Station) (c : ℕ) (m : Mode) (x : List ℕ) : Type 0 where
  pub waited : Waits s c m x
  pub free : ¬ (Cause s m x)
  pub puts : Puts s c (record { floor = (s.at c).floor; claim = Has m x Holding }) u

held-claim : (s u : Station) (c : ℕ) (m : Mode) (x : List ℕ) → Held s u c m x → (u.at c).claim ≡ Has m x Holding
held-claim s u c m x h = ap (λ (w : Standing). w.claim) h.puts.here

held-other : (s u : Station) (c : ℕ) (m : Mode) (x : List ℕ) → Held s u c m x → (d : ℕ) → d ≢ c → (u.at d).claim ≡ (s.at d).claim
held-other s u c m x h d apart = ap (λ (w : Standing). w.claim) (h.puts.others d apart)

-- another that holds now did before
held-back : (s u : Station) (c : ℕ) (m : Mode) (x : List ℕ) → Held s u c m x → (d : ℕ) → d ≢ c → (n : Mode) (y : List ℕ) → Holds u d n y → Holds s d n y
held-back s u c m x h d apart n y k = (k.0, k.1, sym (held-other s u c m x h d apart) ∙ k.2)

held-advances : (s u : Station) (c : ℕ) (m : Mode) (x : List ℕ) → Held s u c m x → Advances s u
held-advances s u c m x h = record {
  problem = h.puts.problem;
  floors = λ d. floors d (cases_eq d c);
  claims = λ d. claims d (cases_eq d c);
}
  where
    floors : (d : ℕ) → (d ≡ c) ⊎ (d ≢ c) → (u.at d).floor ≡ (s.at d).floor
    floors d (inl e) = subst (λ n. (u.at n).floor ≡ (s.at n).floor) (sym e) (ap (λ (w : Standing). w.floor) h.puts.here)
    floors d (inr e) = ap (λ (w : Standing). w.floor) (h.puts.others d e)

    claims : (d : ℕ) → (d ≡ c) ⊎ (d ≢ c) → ((u.at d).claim ≡ (s.at d).claim) ⊎ ((n : Mode) × (y : List ℕ) × Becomes s u d n y)
    claims d (inl e) = subst (λ k. ((u.at k).claim ≡ (s.at k).claim) ⊎ ((n : Mode) × (y : List ℕ) × Becomes s u k n y)) (sym e) (inr (m, x, (h.waited, held-claim s u c m x h)))
    claims d (inr e) = inl (held-other s u c m x h d e)

pub then-advances : (s u t : Station) → Advances s u → Advances u t → Advances s t
then-advances s u t a b = record {
  problem = b.problem ∙ a.problem;
  floors = λ c. b.floors c ∙ a.floors c;
  claims = λ c. go c (a.claims c) (b.claims c);
}
  where
    go : (c : ℕ) → ((u.at c).claim ≡ (s.at c).claim) ⊎ ((n : Mode) × (y : List ℕ) × Becomes s u c n y) →
        ((t.at c).claim ≡ (u.at c).claim) ⊎ ((n : Mode) × (y : List ℕ) × Becomes u t c n y) →
        ((t.at c).claim ≡ (s.at c).claim) ⊎ ((n : Mode) × (y : List ℕ) × Becomes s t c n y)
    go c (inl e) (inl f) = inl (f ∙ e)
    go c (inl e) (inr g) = inr (g.0, g.1, (sym e ∙ g.2.0, g.2.1))
    go c (inr g) other = inr (g.0, g.1, (g.2.0, status-kept u t b c g.0 g.1 Holding tt g.2.1))

held-lawful : (s u : Station) (c : ℕ) (m : Mode) (x : List ℕ) → Held s u c m x → IsLawful s → IsLawful u
held-lawful s u c m x h l = record { alone = λ a b n y p q. go a b n y p q (cases_eq a c) (cases_eq b c) }
  where
    go : (a b : ℕ) (n : Mode) (y : List ℕ) → Holds u a Write y → Holds u b n y → (a ≡ c) ⊎ (a ≢ c) → (b ≡ c) ⊎ (b ≢ c) → b ≡ a
    go a b n y p q (inl e) (inl f) = f ∙ sym e
    go a b n y p q (inr e) (inr f) = l.alone a b n y (held-back s u c m x h a e Write y p) (held-back s u c m x h b f n y q)
    go a b n y p q (inl e) (inr f) =
        let mine : Has m x Holding ≡ Has Write y p.0 = sym (held-claim s u c m x h) ∙ ap (λ k. (u.at k).claim) (sym e) ∙ p.2 in
        let mode : Write ≡ m = cc in
        let resource : y ≡ x = cc in
        let cause : Cause s Write y = (b, n, held-back s u c m x h b f n y q) in
        absurd (h.free (subst (λ w. Cause s w x) mode (subst (λ w. Cause s Write w) resource cause)))
    go a b n y p q (inr e) (inl f) =
        let mine : Has m x Holding ≡ Has n y q.0 = sym (held-claim s u c m x h) ∙ ap (λ k. (u.at k).claim) (sym f) ∙ q.2 in
        let resource : y ≡ x = cc in
        absurd (h.free (subst (λ w. Cause s m w) resource (writer-causes s a m y (held-back s u c m x h a e Write y p))))

more-holds : (s u t : Station) (c : ℕ) (m : Mode) (x : List ℕ) (had_turn : ℕ → Bool) → Held s u c m x → Processed u t had_turn → Processed s t (λ d. (c == d) || had_turn d)
more-holds s u t c m x had_turn h p = record {
  advances = whole;
  lawful = λ l. p.lawful (held-lawful s u c m x h l);
  caused = λ d k n y w. caused d n y w (or_cases (c == d) (had_turn d) k);
  no_passing = λ second d w y b q. passing second d w y b q (cases_eq d c);
}
  where
    whole : Advances s t
    whole = then-advances s u t (held-advances s u c m x h) p.advances

    caused : (d : ℕ) (n : Mode) (y : List ℕ) → Waits t d n y → ((c == d) ≡ true) ⊎ (had_turn d ≡ true) → Cause t n y
    caused d n y w (inr k) = p.caused d k n y w
    caused d n y w (inl k) =
        let at_c : Waits t c n y = subst (λ e. Waits t e n y) (sym (eqb-true c d k)) w in
        absurd (not-both t c n m y x at_c (holds-kept u t p.advances c m x (Holding, tt, held-claim s u c m x h)))

    passing : s.problem ≡ Second → (d w : ℕ) (y : List ℕ) → Becomes s t d Read y → Waits t w Write y → (d ≡ c) ⊎ (d ≢ c) → ⊥
    passing second d w y b q (inr e) = p.no_passing (h.puts.problem ∙ second) d w y (held-other s u c m x h d e ∙ b.0, b.1) q
    passing second d w y b q (inl e) =
        let mine : Has m x Waiting ≡ Has Read y Waiting = sym h.waited ∙ ap (λ k. (s.at k).claim) (sym e) ∙ b.0 in
        let mode : Read ≡ m = cc in
        let resource : y ≡ x = cc in
        let cause : Cause s Read y = inr (second, (w, waits-back s t whole w Write y q)) in
        h.free (subst (λ k. Cause s k x) mode (subst (λ k. Cause s Read k) resource cause))

pub turn-processed : (s u t : Station) (c : ℕ) (had_turn : ℕ → Bool) → Turn s c u → Processed u t had_turn → Processed s t (λ d. (c == d) || had_turn d)
turn-processed s u t c had_turn (stays same why) p = more-stays s t c had_turn why (subst (λ w. Processed w t had_turn) same p)
turn-processed s u t c had_turn (holds m x w f q) p = more-holds s u t c m x had_turn (record { waited = w; free = f; puts = q }) p

-- from a caused station settling changes nothing

settles-advances : (s t : Station) → Settles s t → Advances s t
settles-advances s t k = record { problem = k.problem; floors = k.floors; claims = k.claims }

-- a writer that waits with a cause doesn't hold once all has settled
writer-still : (s t : Station) → IsCaused s → Settles s t → (c : ℕ) (x : List ℕ) → Waits s c Write x → Holds t c Write x → ⊥
writer-still s t l k c x w h =
    let cause = l.cause c Write x w in
    let one : cause.0 ≡ c = (k.lawful).alone c cause.0 cause.1 x h (holds-kept s t (settles-advances s t k) cause.0 cause.1 x cause.2) in
    not-both s c Write cause.1 x x w (subst (λ d. Holds s d cause.1 x) one cause.2)

none-becomes : (s t : Station) → IsCaused s → Settles s t → (c : ℕ) (m : Mode) (x : List ℕ) → Becomes s t c m x → ⊥
none-becomes s t l k c Write x b = writer-still s t l k c x b.0 (Holding, tt, b.1)
none-becomes s t l k c Read x b = go (l.cause c Read x b.0)
  where
    passed : (d : ℕ) → s.problem ≡ Second → Waits s d Write x → Holds t d Write x ⊎ Waits t d Write x → ⊥
    passed d second w (inl h) = writer-still s t l k d x w h
    passed d second w (inr h) = k.no_passing second c d x b h

    go : Cause s Read x → ⊥
    go (inl h) =
        let one : c ≡ h.0 = (k.lawful).alone h.0 c Read x (holds-kept s t (settles-advances s t k) h.0 Write x h.1) (Holding, tt, b.1) in
        not-both s c Read Write x x b.0 (subst (λ d. Holds s d Write x) (sym one) h.1)
    go (inr h) = passed h.1.0 h.0 h.1.1 (writer-kept s t (settles-advances s t k) h.1.0 x h.1.1)

pub nothing-to-settle : (s t : Station) → IsCaused s → Settles s t → (c : ℕ) → t.at c ≡ s.at c
nothing-to-settle s t l k c = go (k.claims c)
  where
    go : ((t.at c).claim ≡ (s.at c).claim) ⊎ ((m : Mode) × (x : List ℕ) × Becomes s t c m x) → t.at c ≡ s.at c
    go (inl e) = λ i. record { floor = k.floors c i; claim = e i }
    go (inr b) = absurd (none-becomes s t l k c b.0 b.1 b.2)

-- settling is done where each client that waits had its turn
pub processed-settles : (s t : Station) (had_turn : ℕ → Bool) → IsLawful s → ((c : ℕ) (m : Mode) (x : List ℕ) → Waits s c m x → had_turn c ≡ true) →
    Processed s t had_turn → Settles s t
processed-settles s t had_turn l all p = record {
  problem = p.advances.problem;
  floors = p.advances.floors;
  claims = p.advances.claims;
  lawful = p.lawful l;
  caused = record { cause = λ c m x w. p.caused c (all c m x (waits-back s t p.advances c m x w)) m x w };
  no_passing = p.no_passing;
}
