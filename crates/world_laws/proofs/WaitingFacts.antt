-- In a sound world no more tickets wait for a node than there are clients.
use Rattle.std.proofs.Common.{◌≡◌, ◌≢◌, ℕ, ◌+◌, ◌≤◌, ◌&&◌, ◌||◌, ◌⊎◌, Bool, true, false, cond, nat_le, List, [], ◌∷◌, length, zero, suc, Option, None, Some, refl, sym, ◌∙◌, ap, subst, inl, inr, arith}
use Rattle.std.specs.List.{AllByRecursion}
use Rattle.std.proofs.lemmas.Bool.{eq-eqb, eqb-true, ne_eqb, cases_eq, le-leb, leb-true}
use Rattle.lock_model.specs.declared.entries.Entry.{Entry}
use Rattle.lock_model.specs.declared.entries.Live.{Live}
use Rattle.lock_model.specs.Stations.{Free, Has}
use Rattle.lock_model.specs.ExactStations.{is_of, knows, entry_of, claim_of, standing_of, EachOnce, is_waiting, if_live, waits_in}
use Rattle.lock_model.proofs.EntryEdits.{unknown-none}
use Rattle.world_model.specs.declared.exact.ExactClient.{ExactClient}
use Rattle.world_model.specs.declared.exact.ExactStation.{ExactStation}
use Rattle.world_model.specs.declared.exact.ExactWorld.{ExactWorld}
use Rattle.world_model.specs.ExactWays.{waiting_count}
use Rattle.world_model.specs.ExactWorlds.{numbered}
use Rattle.world_model.specs.Forgetting.{station_of, client_numbered, forget}
use Rattle.world_model.specs.Invariants.{IsSafeStation}
use Rattle.world_model.specs.Numbered.{numbered-one}

-- how many entries are of this client, and how many of those that wait are of a client up to this number
abbrev at_client : ℕ → List Entry → ℕ
at_client c [] = 0
at_client c (e ∷ es) = cond (is_of c e) 1 0 + at_client c es

abbrev waiting_upto : ℕ → List Entry → ℕ
waiting_upto k [] = 0
waiting_upto k (e ∷ es) = cond (waits_in (Some e) && nat_le e.client k) 1 0 + waiting_upto k es

unknown-at-none : (c : ℕ) (es : List Entry) → knows c es ≡ false → at_client c es ≡ 0
unknown-at-none c [] h = refl
unknown-at-none c (e ∷ es) h = go (is_of c e) refl h (unknown-at-none c es)
  where
    go : (b : Bool) → is_of c e ≡ b → (b || knows c es) ≡ false → (knows c es ≡ false → at_client c es ≡ 0) → cond b 1 0 + at_client c es ≡ 0
    go true is z rest = absurd (let q : true ≡ false = z in cc)
    go false is z rest = omega (arith, rest z)

once-at-one : (c : ℕ) (es : List Entry) → EachOnce es → at_client c es ≤ 1
once-at-one c [] once = omega arith
once-at-one c (e ∷ es) once = go (is_of c e) refl (once-at-one c es once.1)
  where
    go : (b : Bool) → is_of c e ≡ b → at_client c es ≤ 1 → cond b 1 0 + at_client c es ≤ 1
    go true is rest = omega (arith, unknown-at-none c es (ap (λ d. knows d es) (sym (eqb-true e.client c is)) ∙ once.0))
    go false is rest = omega (arith, rest)

upto-more : (k : ℕ) (es : List Entry) → waiting_upto (k + 1) es ≤ waiting_upto k es + at_client (k + 1) es
upto-more k [] = omega arith
upto-more k (e ∷ es) = go (waits_in (Some e)) (nat_le e.client (k + 1)) (nat_le e.client k) (is_of (k + 1) e) refl refl refl (upto-more k es)
  where
    go : (w a b c : Bool) → nat_le e.client (k + 1) ≡ a → nat_le e.client k ≡ b → is_of (k + 1) e ≡ c → waiting_upto (k + 1) es ≤ waiting_upto k es + at_client (k + 1) es →
        cond (w && a) 1 0 + waiting_upto (k + 1) es ≤ (cond (w && b) 1 0 + waiting_upto k es) + (cond c 1 0 + at_client (k + 1) es)
    go false a b c p q r rest = omega (arith, rest)
    go true false b c p q r rest = omega (arith, rest)
    go true true true c p q r rest = omega (arith, rest)
    go true true false true p q r rest = omega (arith, rest)
    go true true false false p q r rest =
        absurd (go2 (cases_eq e.client (k + 1)))
      where
        go2 : (e.client ≡ k + 1) ⊎ (e.client ≢ k + 1) → ⊥
        go2 (inl same) = let z : false ≡ true = sym r ∙ eq-eqb e.client (k + 1) same in cc
        go2 (inr apart) =
            let below : e.client ≤ k = omega (arith, leb-true e.client (k + 1) p, apart) in
            let z : false ≡ true = sym q ∙ le-leb e.client k below in cc

-- the entry's client is one of so many, if its ticket waits
abbrev IsInRange : ℕ → Entry → Type 0
IsInRange k e = waits_in (Some e) ≡ true → (1 ≤ e.client) × (e.client ≤ k)

upto-none : (k : ℕ) (es : List Entry) → AllByRecursion (IsInRange k) es → waiting_upto 0 es ≡ 0
upto-none k [] all = refl
upto-none k (e ∷ es) all = go (waits_in (Some e)) (nat_le e.client 0) refl refl (upto-none k es all.1)
  where
    go : (w a : Bool) → waits_in (Some e) ≡ w → nat_le e.client 0 ≡ a → waiting_upto 0 es ≡ 0 → cond (w && a) 1 0 + waiting_upto 0 es ≡ 0
    go false a p q rest = omega (arith, rest)
    go true false p q rest = omega (arith, rest)
    go true true p q rest = absurd (omega (arith, leb-true e.client 0 q, (all.0 p).0))

upto-all : (k : ℕ) (es : List Entry) → AllByRecursion (IsInRange k) es → waiting_count es ≤ waiting_upto k es
upto-all k [] all = omega arith
upto-all k (e ∷ es) all = go (waits_in (Some e)) refl (upto-all k es all.1)
  where
    one : (b : Bool) → b ≡ true → 1 ≤ cond b 1 0
    one true is = omega arith
    one false is = absurd (let z : false ≡ true = is in cc)

    go : (w : Bool) → waits_in (Some e) ≡ w → waiting_count es ≤ waiting_upto k es → cond w 1 0 + waiting_count es ≤ cond (w && nat_le e.client k) 1 0 + waiting_upto k es
    go false p rest = omega (arith, rest)
    go true p rest = omega (arith, rest, one (nat_le e.client k) (le-leb e.client k (all.0 p).1))

upto-few : (k : ℕ) (es : List Entry) → EachOnce es → waiting_upto 0 es ≡ 0 → waiting_upto k es ≤ k
upto-few zero es once none = omega (arith, none)
upto-few (suc k) es once none =
    let more : waiting_upto (suc k) es ≤ waiting_upto k es + at_client (suc k) es = subst (λ (n : ℕ). waiting_upto n es ≤ waiting_upto k es + at_client n es) (let q : k + 1 ≡ suc k = omega arith in q) (upto-more k es) in
    omega (arith, more, upto-few k es once none, once-at-one (suc k) es once)

few-wait : (k : ℕ) (es : List Entry) → EachOnce es → AllByRecursion (IsInRange k) es → waiting_count es ≤ k
few-wait k es once all = omega (arith, upto-all k es all, upto-few k es once (upto-none k es all))

-- what holds of each client that waits by its entry holds of each entry that waits
behind : (e : Entry) (es : List Entry) (c : ℕ) → knows e.client es ≡ false → waits_in (entry_of es c) ≡ true → waits_in (entry_of (e ∷ es) c) ≡ true
behind e es c new w = ap (λ b. waits_in (cond b (Some e) (entry_of es c))) (ne_eqb e.client c apart) ∙ w
  where
    apart : e.client ≢ c
    apart same = let z : false ≡ true = sym (ap waits_in (unknown-none es c (ap (λ d. knows d es) (sym same) ∙ new))) ∙ w in cc

each-entry : (P : ℕ → Type 0) (es : List Entry) → EachOnce es → ((c : ℕ) → waits_in (entry_of es c) ≡ true → P c) → AllByRecursion (λ e. waits_in (Some e) ≡ true → P e.client) es
each-entry P [] once f = tt
each-entry P (e ∷ es) once f = (
  λ w. f e.client (ap (λ b. waits_in (cond b (Some e) (entry_of es e.client))) (eq-eqb e.client e.client refl) ∙ w),
  each-entry P es once.1 (λ c w. f c (behind e es c once.0 w)),
)

-- who has a claim there is a client
known : (w : ExactWorld) (c : ℕ) → 1 ≤ ((forget w).clients c).kept → (1 ≤ c) × (c ≤ length w.clients)
known w c some = go (numbered w.clients c) refl some
  where
    go : (o : Option ExactClient) → numbered w.clients c ≡ o → 1 ≤ (client_numbered o).kept → (1 ≤ c) × (c ≤ length w.clients)
    go None is z = absurd (omega (arith, z))
    go (Some k) is z = numbered-one w.clients c k is

claimed : (o : Option Entry) → waits_in o ≡ true → (standing_of o).claim ≢ Free
claimed None w = absurd (let z : false ≡ true = w in cc)
claimed (Some e) w = go e.live w
  where
    go : (l : Option Live) → if_live (λ x. is_waiting x.status) l ≡ true → claim_of l ≢ Free
    go None z = absurd (let q : false ≡ true = z in cc)
    go (Some l) z = λ q. let r : Has l.mode l.resource l.status ≡ Free = q in cc

in-range : (w : ExactWorld) (n : ℕ) (s : ExactStation) → IsSafeStation (forget w) n (station_of s) → (c : ℕ) → waits_in (entry_of s.entries c) ≡ true → (1 ≤ c) × (c ≤ length w.clients)
in-range w n s safe c h = known w c (omega (arith, (safe.owes c).within.live (claimed (entry_of s.entries c) h)))

pub waiting-few : (w : ExactWorld) (n : ℕ) (s : ExactStation) → EachOnce s.entries → IsSafeStation (forget w) n (station_of s) → waiting_count s.entries ≤ length w.clients
waiting-few w n s once safe = few-wait (length w.clients) s.entries once (each-entry (λ c. (1 ≤ c) × (c ≤ length w.clients)) s.entries once (in-range w n s safe))
