-- What stands in the way at a station, and what of it is left where the others' claims only get less.
use Rattle.std.proofs.Common.{◌≡◌, ◌≢◌, ℕ, ◌+◌, ◌<◌, ◌≤◌, ◌==◌, ◌⊎◌, Bool, true, false, not, ◌||◌, if◌then◌else◌, List, [], ◌∷◌, refl, sym, ◌∙◌, ap, subst, inl, inr, arith}
use Rattle.std.specs.Str.{bytes_eq}
use Rattle.std.proofs.lemmas.Bool.{cases_eq, eq-eqb, ne_eqb, and_from, and_left, and_right, and_parts, or_left, or_right}
use Rattle.std.proofs.lemmas.Slice.Eq.{bytes_eq-Decides}
use Rattle.lock_messages.specs.declared.tickets.Mode.{Mode}
use Rattle.lock_messages.specs.declared.tickets.Mode.TheVariants.{Read, Write}
use Rattle.lock_model.specs.declared.entries.Status.{Status}
use Rattle.lock_model.specs.declared.entries.Status.TheVariants.{Waiting, Holding}
use Rattle.lock_model.specs.Stations.{Claim, Free, Has, Standing, Station, IsHolder, Cause, Puts, EndsAt, Ends, Settles, Becomes}
use Rattle.lock_model.specs.ExactStations.{is_write}
use Rattle.lock_model.specs.Decisions.{Among}
use Rattle.world_model.specs.declared.ways.Want.{Want}
use Rattle.world_model.specs.Advice.{is_in_way, blocks}
use Rattle.world_model.specs.Ways.{StandsInWay}
use Rattle.world_model.specs.ExactWays.{total_over}
use Rattle.world_model.proofs.Costs.{block_cost}
use Rattle.world_model.proofs.Nearer.{total-le}

-- who stands in the way blocks
pub stands-blocks : (a : Want) (s : Station) (d : ℕ) → StandsInWay a s d → blocks a s d ≡ true
stands-blocks a s d (apart, (m, status, claim, writes)) =
    and_from (not (d == a.client)) (is_in_way a (s.at d).claim) (ap not (ne_eqb d a.client apart))
    (ap (is_in_way a) claim ∙ and_from (is_write a.mode || is_write m) (bytes_eq a.resource a.resource) (one writes) ((bytes_eq-Decides a.resource a.resource).1 refl))
  where
    one : (a.mode ≡ Write) ⊎ (m ≡ Write) → (is_write a.mode || is_write m) ≡ true
    one (inl e) = or_left (is_write a.mode) (is_write m) (ap is_write e)
    one (inr e) = or_right (is_write a.mode) (is_write m) (ap is_write e)

-- a client that blocks has a claim
pub blocks-has : (a : Want) (s : Station) (d : ℕ) → blocks a s d ≡ true → (s.at d).claim ≢ Free
blocks-has a s d is e = let z : false ≡ true = sym (ap (is_in_way a) e) ∙ (and_parts (not (d == a.client)) (is_in_way a (s.at d).claim) is).1 in cc

-- and who has none doesn't
pub free-blocks-not : (a : Want) (s : Station) (d : ℕ) → (s.at d).claim ≡ Free → blocks a s d ≡ false
free-blocks-not a s d e = and_right (not (d == a.client)) (is_in_way a (s.at d).claim) (ap (is_in_way a) e)

-- A claim gets less, if anything: it stays, goes, or holds where it waited.
pub data Lessens (before after : Claim) : Type 0 where
  stays : after ≡ before → Lessens before after
  goes : after ≡ Free → Lessens before after
  turns : (m : Mode) (x : List ℕ) → before ≡ Has m x Waiting → after ≡ Has m x Holding → Lessens before after

-- so does that of each client but for this one
abbrev pub OthersLessen : ℕ → Station → Station → Type 0
OthersLessen c s u = (d : ℕ) → d ≢ c → Lessens (s.at d).claim (u.at d).claim

less-further : (p q r : Claim) → Lessens p q → Lessens q r → Lessens p r
less-further p q r first (stays e) = subst (Lessens p) (sym e) first
less-further p q r first (goes e) = goes e
less-further p q r (stays e) (turns m x was now) = turns m x (sym e ∙ was) now
less-further p q r (goes e) (turns m x was now) = absurd (let z : Free ≡ Has m x Waiting = sym e ∙ was in cc)
less-further p q r (turns k y old new) (turns m x was now) = absurd (let z : Has k y Holding ≡ Has m x Waiting = sym new ∙ was in cc)

same-lessens : (p q : Standing) → q ≡ p → Lessens p.claim q.claim
same-lessens p q e = stays (ap (λ (t : Standing). t.claim) e)

-- ending a client's attempts lets claims only get less, and so does settling
ends-lessen : (s t : Station) (c b : ℕ) → Ends s c b t → (d : ℕ) → Lessens (s.at d).claim (t.at d).claim
ends-lessen s t c b (after, at, puts) d = go (cases_eq d c) at
  where
    here : d ≡ c → t.at d ≡ after
    here e = ap t.at e ∙ puts.here

    go : (d ≡ c) ⊎ (d ≢ c) → EndsAt b (s.at c) after → Lessens (s.at d).claim (t.at d).claim
    go (inl e) (inl h) = same-lessens (s.at d) (t.at d) (here e ∙ h.1 ∙ ap s.at (sym e))
    go (inl e) (inr h) = goes (ap (λ (x : Standing). x.claim) (here e ∙ h.1))
    go (inr apart) h = same-lessens (s.at d) (t.at d) (puts.others d apart)

settles-lessen : (s t : Station) → Settles s t → (d : ℕ) → Lessens (s.at d).claim (t.at d).claim
settles-lessen s t settles d = elim (settles.claims d) [
  | inl e ↦ stays e
  | inr turn ↦ turns turn.0 turn.1 turn.2.0 turn.2.1
]

pub settled-lessen : (s ended settled : Station) (c b : ℕ) → Ends s c b ended → Settles ended settled → (d : ℕ) → Lessens (s.at d).claim (settled.at d).claim
settled-lessen s ended settled c b ends settles d =
    less-further (s.at d).claim (ended.at d).claim (settled.at d).claim (ends-lessen s ended c b ends d) (settles-lessen ended settled settles d)

-- and putting this one client elsewhere doesn't touch the others
pub put-lessen : (s settled u : Station) (c : ℕ) (standing : Standing) → ((d : ℕ) → Lessens (s.at d).claim (settled.at d).claim) → Puts settled c standing u → OthersLessen c s u
put-lessen s settled u c standing less puts d apart =
    less-further (s.at d).claim (settled.at d).claim (u.at d).claim (less d) (same-lessens (settled.at d) (u.at d) (puts.others d apart))

-- A client whose attempts are ended past its floor has no claim, also once all have settled.
pub ended-free : (s ended settled : Station) (c b : ℕ) → (s.at c).floor < b → Ends s c b ended → Settles ended settled → (settled.at c).claim ≡ Free
ended-free s ended settled c b below (after, at, puts) settles = go at (settles.claims c)
  where
    gone : EndsAt b (s.at c) after → (ended.at c).claim ≡ Free
    gone (inl h) = absurd (let past : b ≤ (s.at c).floor = h.0 in omega (arith, past, below))
    gone (inr h) = ap (λ (x : Standing). x.claim) (puts.here ∙ h.1)

    go : EndsAt b (s.at c) after → ((settled.at c).claim ≡ (ended.at c).claim) ⊎ ((m : Mode) × (x : List ℕ) × Becomes ended settled c m x) → (settled.at c).claim ≡ Free
    go h (inl e) = e ∙ gone h
    go h (inr turn) = absurd (let z : Free ≡ Has turn.0 turn.1 Waiting = sym (gone h) ∙ turn.2.0 in cc)

-- what is in the way then was in the way before
less-in-way : (a : Want) (before after : Claim) → Lessens before after → is_in_way a after ≡ true → is_in_way a before ≡ true
less-in-way a before after (stays e) is = ap (is_in_way a) (sym e) ∙ is
less-in-way a before after (goes e) is = absurd (let z : false ≡ true = sym (ap (is_in_way a) e) ∙ is in cc)
less-in-way a before after (turns m x was now) is = ap (is_in_way a) was ∙ sym (ap (is_in_way a) now) ∙ is

less-has : (before after : Claim) → Lessens before after → (m : Mode) (x : List ℕ) (status : Status) → after ≡ Has m x status → (old : Status) × (before ≡ Has m x old)
less-has before after (stays e) m x status has = (status, sym e ∙ has)
less-has before after (goes e) m x status has = absurd (let z : Free ≡ Has m x status = sym e ∙ has in cc)
less-has before after (turns k y was now) m x status has =
    let q : Has k y Holding ≡ Has m x status = sym now ∙ has in
    let mode : k ≡ m = cc in
    let resource : y ≡ x = cc in
    (Waiting, was ∙ ap (λ j. Has j y Waiting) mode ∙ ap (λ z. Has m z Waiting) resource)

pub less-stands : (a : Want) (s u : Station) → OthersLessen a.client s u → (d : ℕ) → StandsInWay a u d → StandsInWay a s d
less-stands a s u less d (apart, (m, status, claim, writes)) =
    let h = less-has (s.at d).claim (u.at d).claim (less d apart) m a.resource status claim in
    (apart, (m, h.0, h.1, writes))

-- and it costs no more
pub less-blocks : (a : Want) (s u : Station) → OthersLessen a.client s u → (d : ℕ) → block_cost a u d ≤ block_cost a s d
less-blocks a s u less d = go (cases_eq d a.client)
  where
    cost-le : (b c : Bool) → (c ≡ true → b ≡ true) → (if c then 4 else 0) ≤ (if b then 4 else 0)
    cost-le true true up = omega arith
    cost-le true false up = omega arith
    cost-le false true up = absurd (let z : false ≡ true = up refl in cc)
    cost-le false false up = omega arith

    still : blocks a u d ≡ true → d ≢ a.client → blocks a s d ≡ true
    still is apart =
        let p = and_parts (not (d == a.client)) (is_in_way a (u.at d).claim) is in
        and_from (not (d == a.client)) (is_in_way a (s.at d).claim) p.0 (less-in-way a (s.at d).claim (u.at d).claim (less d apart) p.1)

    own : (t : Station) → d ≡ a.client → blocks a t d ≡ false
    own t e = and_left (not (d == a.client)) (is_in_way a (t.at d).claim) (ap not (eq-eqb d a.client e))

    go : (d ≡ a.client) ⊎ (d ≢ a.client) → block_cost a u d ≤ block_cost a s d
    go (inl e) = cost-le (blocks a s d) (blocks a u d) (λ is. absurd (let z : false ≡ true = sym (own u e) ∙ is in cc))
    go (inr apart) = cost-le (blocks a s d) (blocks a u d) (λ is. still is apart)

-- where one of them costs less by so much, so does the whole
pub total-drops : (f g : ℕ → ℕ) (ns : List ℕ) → ((n : ℕ) → f n ≤ g n) → (m k : ℕ) → Among k ns → f k + m ≤ g k → total_over f ns + m ≤ total_over g ns
total-drops f g [] le m k here less = absurd here
total-drops f g (n ∷ ns) le m k (inl e) less =
    let first : f n + m ≤ g n = subst (λ j. f j + m ≤ g j) e less in
    omega (arith, first, rest)
  where
    rest : total_over f ns ≤ total_over g ns
    rest = total-le f g ns le
total-drops f g (n ∷ ns) le m k (inr there) less = omega (arith, le n, total-drops f g ns le m k there less)

-- Where nobody stands in the way, a ticket as it is wanted has no cause to wait.

-- a claim of the client itself is such a ticket that waits, if there is one
abbrev pub OnlyWaits : Want → Claim → Type 0
OnlyWaits a claim = (m : Mode) (x : List ℕ) (status : Status) → claim ≡ Has m x status → (m ≡ a.mode) × (status ≡ Waiting)

pub cause-stands : (a : Want) (s : Station) → OnlyWaits a (s.at a.client).claim → Cause s a.mode a.resource → (d : ℕ) × StandsInWay a s d
cause-stands a s own cause = go a.mode refl cause
  where
    apart-from : (d : ℕ) (m : Mode) (status : Status) → (s.at d).claim ≡ Has m a.resource status → (m ≡ a.mode → status ≡ Waiting → ⊥) → d ≢ a.client
    apart-from d m status claim differs e =
        let o = own m a.resource status (ap (λ j. (s.at j).claim) (sym e) ∙ claim) in
        differs o.0 o.1

    holds-not : (status : Status) → IsHolder status → status ≡ Waiting → ⊥
    holds-not status holds e = subst IsHolder e holds

    go : (m : Mode) → a.mode ≡ m → Cause s m a.resource → (d : ℕ) × StandsInWay a s d
    go Write is (d, m, (status, holds, claim)) = (d, (apart-from d m status claim (λ same waits. holds-not status holds waits), (m, status, claim, inl is)))
    go Read is (inl (d, (status, holds, claim))) = (d, (apart-from d Write status claim (λ same waits. holds-not status holds waits), (Write, status, claim, inr refl)))
    go Read is (inr (second, (d, claim))) = (d, (apart-from d Write Waiting claim (λ same waits. (let z : Write ≡ Read = same ∙ is in cc)), (Write, Waiting, claim, inr refl)))

-- none of the clients blocks
pub unblocked-free : (a : Want) (s : Station) → ((d : ℕ) → blocks a s d ≡ false) → (u : Station) → OthersLessen a.client s u → OnlyWaits a (u.at a.client).claim → Cause u a.mode a.resource → ⊥
unblocked-free a s none u less own cause =
    let stands = cause-stands a u own cause in
    let z : false ≡ true = sym (none stands.0) ∙ stands-blocks a s stands.0 (less-stands a s u less stands.0 stands.1) in
    cc
