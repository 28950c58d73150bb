-- Taking up a ticket leaves a lawful and caused station: it holds where nothing stands in its way, and
-- waits where something does.
use Rattle.std.proofs.Common.{◌≡◌, ◌≢◌, ℕ, ◌⊎◌, List, refl, sym, ◌∙◌, ap, subst, inl, inr}
use Rattle.std.proofs.lemmas.Bool.{cases_eq}
use Rattle.lock_messages.specs.declared.tickets.Mode.{Mode}
use Rattle.lock_messages.specs.declared.tickets.Mode.TheVariants.{Read, Write}
use Rattle.lock_messages.specs.declared.tickets.Ticket.{Ticket}
use Rattle.lock_model.specs.declared.entries.Status.{Status}
use Rattle.lock_model.specs.declared.entries.Status.TheVariants.{Waiting, Holding}
use Rattle.lock_model.specs.Stations.{Claim, Free, Has, Standing, Station, IsHolder, Holds, Waits, IsLawful, Cause, IsCaused, Puts}
use Rattle.lock_model.specs.Decisions.{taken_up}
use Rattle.lock_model.proofs.StationFacts.{writer-causes}
use Rattle.world_model.proofs.StandingSteps.{waits-apart}

-- a claim that is free is no other
free-apart : (claim : Claim) (m : Mode) (x : List ℕ) (status : Status) → claim ≡ Free → claim ≡ Has m x status → ⊥
free-apart claim m x status e h = let q : Free ≡ Has m x status = sym e ∙ h in cc

-- a client without a claim takes up a ticket
pub record TakesUp (s u : Station) (t : Ticket) (status : Status) : Type 0 where
  pub free : (s.at t.client).claim ≡ Free
  pub puts : Puts s t.client (taken_up t status) u

-- its claim is this one, and holds
abbrev HoldsSo : Ticket → Status → Mode → List ℕ → Type 0
HoldsSo t status m x = (st : Status) × IsHolder st × (Has t.mode t.resource status ≡ Has m x st)

module _ (s u : Station) (t : Ticket) (status : Status) (takes : TakesUp s u t status) where
  here : (u.at t.client).claim ≡ Has t.mode t.resource status
  here = ap (λ (w : Standing). w.claim) takes.puts.here

  -- another client's claim is as it was
  there : (d : ℕ) → d ≢ t.client → (u.at d).claim ≡ (s.at d).claim
  there d apart = ap (λ (w : Standing). w.claim) (takes.puts.others d apart)

  -- a claim before is one after, and another client's
  before : (d : ℕ) (m : Mode) (x : List ℕ) (st : Status) → (s.at d).claim ≡ Has m x st → (u.at d).claim ≡ Has m x st
  before d m x st h = go (cases_eq d t.client)
    where
      go : (d ≡ t.client) ⊎ (d ≢ t.client) → (u.at d).claim ≡ Has m x st
      go (inl e) = absurd (free-apart (s.at t.client).claim m x st takes.free (subst (λ c. (s.at c).claim ≡ Has m x st) e h))
      go (inr apart) = there d apart ∙ h

  -- so is a holder
  still-holds : (d : ℕ) (m : Mode) (x : List ℕ) → Holds s d m x → Holds u d m x
  still-holds d m x h = (h.0, h.1, before d m x h.0 h.2)

  -- a cause stays one
  cause-stays : (m : Mode) (x : List ℕ) → Cause s m x → Cause u m x
  cause-stays Write x h = (h.0, h.1, still-holds h.0 h.1 x h.2)
  cause-stays Read x (inl h) = inl (h.0, still-holds h.0 Write x h.1)
  cause-stays Read x (inr h) = inr (takes.puts.problem ∙ h.0, (h.1.0, before h.1.0 Write x Waiting h.1.1))

  -- a claim after is the ticket's own, or was there before
  after : (d : ℕ) (m : Mode) (x : List ℕ) (st : Status) → (u.at d).claim ≡ Has m x st → ((d ≡ t.client) × (Has t.mode t.resource status ≡ Has m x st)) ⊎ ((s.at d).claim ≡ Has m x st)
  after d m x st h = go (cases_eq d t.client)
    where
      go : (d ≡ t.client) ⊎ (d ≢ t.client) → ((d ≡ t.client) × (Has t.mode t.resource status ≡ Has m x st)) ⊎ ((s.at d).claim ≡ Has m x st)
      go (inl e) = inl (e, sym here ∙ subst (λ c. (u.at c).claim ≡ Has m x st) e h)
      go (inr apart) = inr (sym (there d apart) ∙ h)

  -- a holder after is the ticket's client, or was one before
  was-holder : (d : ℕ) (m : Mode) (x : List ℕ) → Holds u d m x → ((d ≡ t.client) × HoldsSo t status m x) ⊎ Holds s d m x
  was-holder d m x h = go (after d m x h.0 h.2)
    where
      go : ((d ≡ t.client) × (Has t.mode t.resource status ≡ Has m x h.0)) ⊎ ((s.at d).claim ≡ Has m x h.0) → ((d ≡ t.client) × HoldsSo t status m x) ⊎ Holds s d m x
      go (inl e) = inl (e.0, (h.0, h.1, e.1))
      go (inr e) = inr (h.0, h.1, e)

-- it holds, since nothing stood in its way

pub holding-lawful : (s u : Station) (t : Ticket) → TakesUp s u t Holding → ¬ (Cause s t.mode t.resource) → IsLawful s → IsLawful u
holding-lawful s u t takes free lawful = record { alone = λ a b m x p q. go a b m x (was-holder s u t Holding takes a Write x p) (was-holder s u t Holding takes b m x q) }
  where
    go : (a b : ℕ) (m : Mode) (x : List ℕ) → ((a ≡ t.client) × HoldsSo t Holding Write x) ⊎ Holds s a Write x → ((b ≡ t.client) × HoldsSo t Holding m x) ⊎ Holds s b m x → b ≡ a
    go a b m x (inl p) (inl q) = q.0 ∙ sym p.0
    go a b m x (inr p) (inr q) = lawful.alone a b m x p q
    go a b m x (inl p) (inr q) =
        let e : Has t.mode t.resource Holding ≡ Has Write x p.1.0 = p.1.2 in
        let mode : Write ≡ t.mode = cc in
        let resource : x ≡ t.resource = cc in
        let cause : Cause s Write x = (b, m, q) in
        absurd (free (subst (λ w. Cause s w t.resource) mode (subst (λ w. Cause s Write w) resource cause)))
    go a b m x (inr p) (inl q) =
        let e : Has t.mode t.resource Holding ≡ Has m x q.1.0 = q.1.2 in
        let resource : x ≡ t.resource = cc in
        absurd (free (subst (λ w. Cause s t.mode w) resource (writer-causes s a t.mode x p)))

pub holding-caused : (s u : Station) (t : Ticket) → TakesUp s u t Holding → IsCaused s → IsCaused u
holding-caused s u t takes caused = record { cause = λ d m x h. go d m x (after s u t Holding takes d m x Waiting h) }
  where
    go : (d : ℕ) (m : Mode) (x : List ℕ) → ((d ≡ t.client) × (Has t.mode t.resource Holding ≡ Has m x Waiting)) ⊎ Waits s d m x → Cause u m x
    go d m x (inl e) = absurd (let q : Has t.mode t.resource Holding ≡ Has m x Waiting = e.1 in cc)
    go d m x (inr h) = cause-stays s u t Holding takes m x (caused.cause d m x h)

-- it waits, since something did

pub waiting-lawful : (s u : Station) (t : Ticket) → TakesUp s u t Waiting → IsLawful s → IsLawful u
waiting-lawful s u t takes lawful = record { alone = λ a b m x p q. go a b m x (was-holder s u t Waiting takes a Write x p) (was-holder s u t Waiting takes b m x q) }
  where
    go : (a b : ℕ) (m : Mode) (x : List ℕ) → ((a ≡ t.client) × HoldsSo t Waiting Write x) ⊎ Holds s a Write x → ((b ≡ t.client) × HoldsSo t Waiting m x) ⊎ Holds s b m x → b ≡ a
    go a b m x (inr p) (inr q) = lawful.alone a b m x p q
    go a b m x (inl p) q = absurd (waits-apart (Has t.mode t.resource Waiting) t.mode Write t.resource x p.1.0 refl p.1.1 p.1.2)
    go a b m x (inr p) (inl q) = absurd (waits-apart (Has t.mode t.resource Waiting) t.mode m t.resource x q.1.0 refl q.1.1 q.1.2)

pub waiting-caused : (s u : Station) (t : Ticket) → TakesUp s u t Waiting → Cause s t.mode t.resource → IsCaused s → IsCaused u
waiting-caused s u t takes why caused = record { cause = λ d m x h. go d m x (after s u t Waiting takes d m x Waiting h) }
  where
    go : (d : ℕ) (m : Mode) (x : List ℕ) → ((d ≡ t.client) × (Has t.mode t.resource Waiting ≡ Has m x Waiting)) ⊎ Waits s d m x → Cause u m x
    go d m x (inl e) =
        let q : Has t.mode t.resource Waiting ≡ Has m x Waiting = e.1 in
        let mode : t.mode ≡ m = cc in
        let resource : t.resource ≡ x = cc in
        subst (λ w. Cause u w x) mode (subst (λ w. Cause u t.mode w) resource (cause-stays s u t Waiting takes t.mode t.resource why))
    go d m x (inr h) = cause-stays s u t Waiting takes m x (caused.cause d m x h)
