-- What becomes of where a client stands at a node: ending, softening, settling and taking up a ticket each
-- keep what the node granted, and what its station owes the client.
use Rattle.std.proofs.Common.{◌≡◌, ◌≢◌, ℕ, ◌+◌, ◌-◌, ◌<◌, ◌≤◌, ◌⊎◌, List, refl, sym, ◌∙◌, ap, subst, inl, inr, arith}
use Rattle.lock_messages.specs.declared.tickets.Mode.{Mode}
use Rattle.lock_messages.specs.declared.tickets.Mode.TheVariants.{Read, Write}
use Rattle.lock_messages.specs.declared.tickets.Ticket.{Ticket}
use Rattle.lock_model.specs.declared.entries.Status.{Status}
use Rattle.lock_model.specs.declared.entries.Status.TheVariants.{Waiting, Holding, Softened}
use Rattle.lock_model.specs.Stations.{Claim, Free, Has, Standing, IsHolder, EndsAt, SoftensAt, holder, waiter, neither, asked_mode}
use Rattle.lock_model.specs.Decisions.{IsNew, taken_up}
use Rattle.world_model.specs.Worlds.{World}
use Rattle.world_model.specs.Invariants.{IsPresent, IsUnsoftened, WasAsked, IsHeldAs, Honors, Owes}

-- the standing after goes on from the one before
pub record GoesOn (w : World) (c : ℕ) (before after : Standing) : Type 0 where
  pub honors : (a : ℕ) (m : Mode) (x : List ℕ) → Honors before a m x → Honors after a m x
  pub owes : Owes w c before → Owes w c after

pub goes-nowhere : (w : World) (c : ℕ) (standing : Standing) → GoesOn w c standing standing
goes-nowhere w c standing = record { honors = λ a m x h. h; owes = λ o. o }

pub goes-further : (w : World) (c : ℕ) (before between after : Standing) → GoesOn w c before between → GoesOn w c between after → GoesOn w c before after
goes-further w c before between after p q = record { honors = λ a m x h. q.honors a m x (p.honors a m x h); owes = λ o. q.owes (p.owes o) }

free-not-has : (m : Mode) (x : List ℕ) (status : Status) → Free ≡ Has m x status → ⊥
free-not-has m x status e = cc

-- a claim that waits is no holder's
pub waits-apart : (claim : Claim) (m n : Mode) (x y : List ℕ) (status : Status) → claim ≡ Has m x Waiting → IsHolder status → claim ≡ Has n y status → ⊥
waits-apart claim m n x y Waiting e holds h = holds
waits-apart claim m n x y Holding e holds h = let q : Has m x Waiting ≡ Has n y Holding = sym e ∙ h in cc
waits-apart claim m n x y Softened e holds h = let q : Has m x Waiting ≡ Has n y Softened = sym e ∙ h in cc

-- ending the attempts up to a, where a was kept and no present attempt is among them

pub ended-goes-on : (w : World) (c a : ℕ) (before after : Standing) → EndsAt a before after → a ≤ (w.clients c).kept → ((t : Ticket) → IsPresent w c t → a < t.attempt) → GoesOn w c before after
ended-goes-on w c a before after (inl h) kept present = subst (GoesOn w c before) (sym h.1) (goes-nowhere w c before)
ended-goes-on w c a before after (inr h) kept present = subst (GoesOn w c before) (sym h.1) (record { honors = honors; owes = λ o. owes })
  where
    raised : Standing
    raised = record { floor = a; claim = Free }

    honors : (b : ℕ) (m : Mode) (x : List ℕ) → Honors before b m x → Honors raised b m x
    honors b m x (inl k) = inl (omega (arith, k, h.0))
    honors b m x (inr k) = inl (omega (arith, k.0, h.0))

    owes : Owes w c raised
    owes = record {
      within = record { floor = kept; live = λ apart. absurd (apart refl) };
      present = present;
      agrees = λ t m x status claim asked client attempt. absurd (free-not-has m x status claim);
      softened = λ m x claim un. free-not-has m x Softened claim;
    }

-- softening an attempt that its client doesn't have as a writer's

softened-held : (m n : Mode) (status : Status) (x y : List ℕ) → Has Write x Holding ≡ Has n y status → asked_mode n status ≡ m → IsHeldAs (Has Read x Softened) m y
softened-held m n status x y same asked =
    let mode : n ≡ Write = cc in
    let resource : x ≡ y = cc in
    let is : Holding ≡ status = cc in
    let was : Write ≡ asked_mode n status = sym mode ∙ ap (asked_mode n) is in
    (Read, Softened, tt, ap (λ z. Has Read z Softened) resource, was ∙ asked)

pub softened-goes-on : (w : World) (c a : ℕ) (before after : Standing) → SoftensAt a before after → ¬ (IsUnsoftened w c a) → GoesOn w c before after
softened-goes-on w c a before after (holder x attempt claim) softened = record {
  honors = honors;
  owes = λ o. record {
    within = record { floor = o.within.floor; live = λ apart. o.within.live (λ e. free-not-has Write x Holding (sym e ∙ claim)) };
    present = o.present;
    agrees = λ t m y status same asked client at. agrees o t m y status same asked client at;
    softened = λ m y same un. softened (subst (IsUnsoftened w c) (sym attempt) un);
  };
}
  where
    honors : (b : ℕ) (m : Mode) (y : List ℕ) → Honors before b m y → Honors (record { floor = before.floor; claim = Has Read x Softened }) b m y
    honors b m y (inl h) = inl h
    honors b m y (inr h) = inr (h.0, softened-held m h.1.0 h.1.1 x y (sym claim ∙ h.1.3) h.1.4)

    agrees : Owes w c before → (t : Ticket) (m : Mode) (y : List ℕ) (status : Status) → Has Read x Softened ≡ Has m y status → WasAsked w t → t.client ≡ c → t.attempt ≡ before.floor + 1 →
        (asked_mode m status ≡ t.mode) × (y ≡ t.resource)
    agrees o t m y status same asked client at =
        let resource : y ≡ x = cc in
        let is : status ≡ Softened = cc in
        let r = o.agrees t Write x Holding claim asked client at in
        (ap (asked_mode m) is ∙ r.0, resource ∙ r.1)
softened-goes-on w c a before after (waiter x attempt claim) softened = record {
  honors = honors;
  owes = λ o. record {
    within = record { floor = o.within.floor; live = λ apart. absurd (apart refl) };
    present = o.present;
    agrees = λ t m y status same asked client at. absurd (free-not-has m y status same);
    softened = λ m y same un. free-not-has m y Softened same;
  };
}
  where
    honors : (b : ℕ) (m : Mode) (y : List ℕ) → Honors before b m y → Honors (record { floor = before.floor; claim = Free }) b m y
    honors b m y (inl h) = inl h
    honors b m y (inr h) = absurd (waits-apart before.claim Write h.1.0 x y h.1.1 claim h.1.2 h.1.3)
softened-goes-on w c a before after (neither no_writer) softened = goes-nowhere w c before

-- settling: the same floor, and the same claim or one that waited and holds now

abbrev pub SettlesAt : Standing → Standing → Type 0
SettlesAt before after = (after.claim ≡ before.claim) ⊎ ((m : Mode) × (x : List ℕ) × ((before.claim ≡ Has m x Waiting) × (after.claim ≡ Has m x Holding)))

pub settled-goes-on : (w : World) (c : ℕ) (before after : Standing) → after.floor ≡ before.floor → SettlesAt before after → GoesOn w c before after
settled-goes-on w c before after floor claims = record {
  honors = λ a m x h. honors a m x claims h;
  owes = λ o. record {
    within = record { floor = omega (arith, o.within.floor, floor); live = λ apart. omega (arith, o.within.live (live claims apart), floor) };
    present = λ t p. omega (arith, o.present t p, floor);
    agrees = λ t m x status claim asked client attempt. agrees o t m x status claims claim asked client (attempt ∙ ap (λ n. n + 1) floor);
    softened = λ m x claim un. softened o m x claims claim (subst (λ n. IsUnsoftened w c (n + 1)) floor un);
  };
}
  where
    honors : (a : ℕ) (m : Mode) (x : List ℕ) → SettlesAt before after → Honors before a m x → Honors after a m x
    honors a m x s (inl h) = inl (omega (arith, h, floor))
    honors a m x (inl same) (inr h) = inr (h.0 ∙ ap (λ n. n + 1) (sym floor), (h.1.0, h.1.1, h.1.2, same ∙ h.1.3, h.1.4))
    honors a m x (inr turn) (inr h) = absurd (waits-apart before.claim turn.0 h.1.0 turn.1 x h.1.1 turn.2.0 h.1.2 h.1.3)

    live : SettlesAt before after → after.claim ≢ Free → before.claim ≢ Free
    live (inl same) apart e = apart (same ∙ e)
    live (inr turn) apart e = free-not-has turn.0 turn.1 Waiting (sym e ∙ turn.2.0)

    agrees : Owes w c before → (t : Ticket) (m : Mode) (x : List ℕ) (status : Status) → SettlesAt before after → after.claim ≡ Has m x status → WasAsked w t → t.client ≡ c → t.attempt ≡ before.floor + 1 →
        (asked_mode m status ≡ t.mode) × (x ≡ t.resource)
    agrees o t m x status (inl same) claim asked client attempt = o.agrees t m x status (sym same ∙ claim) asked client attempt
    agrees o t m x status (inr turn) claim asked client attempt =
        let e : Has turn.0 turn.1 Holding ≡ Has m x status = sym turn.2.1 ∙ claim in
        let mode : m ≡ turn.0 = cc in
        let resource : x ≡ turn.1 = cc in
        let is : status ≡ Holding = cc in
        let r = o.agrees t turn.0 turn.1 Waiting turn.2.0 asked client attempt in
        (ap (asked_mode m) is ∙ mode ∙ r.0, resource ∙ r.1)

    softened : Owes w c before → (m : Mode) (x : List ℕ) → SettlesAt before after → after.claim ≡ Has m x Softened → IsUnsoftened w c (before.floor + 1) → ⊥
    softened o m x (inl same) claim un = o.softened m x (sym same ∙ claim) un
    softened o m x (inr turn) claim un = let e : Has turn.0 turn.1 Holding ≡ Has m x Softened = sym turn.2.1 ∙ claim in cc

-- taking up a ticket that was asked for

-- where a client stands before its new ticket is taken up
abbrev pub cleared : Ticket → Standing
cleared t = record { floor = t.attempt - 1; claim = Free }

pub new-cleared : (t : Ticket) (before after : Standing) → IsNew before t.attempt → EndsAt (t.attempt - 1) before after → after ≡ cleared t
new-cleared t before after (inl h) (inl e) = absurd (omega (arith, h, e.0))
new-cleared t before after (inr h) (inl e) =
    let floor : before.floor ≡ t.attempt - 1 = omega (arith, h.0) in
    e.1 ∙ (λ i. record { floor = floor i; claim = h.1 i })
new-cleared t before after h (inr e) = e.1

pub settled-cleared : (t : Ticket) (before after : Standing) → before ≡ cleared t → after.floor ≡ before.floor → SettlesAt before after → after ≡ cleared t
settled-cleared t before after is floor (inl same) =
    let f : after.floor ≡ t.attempt - 1 = floor ∙ ap (λ (s : Standing). s.floor) is in
    let c : after.claim ≡ Free = same ∙ ap (λ (s : Standing). s.claim) is in
    λ i. record { floor = f i; claim = c i }
settled-cleared t before after is floor (inr turn) = absurd (free-not-has turn.0 turn.1 Waiting (sym (ap (λ (s : Standing). s.claim) is) ∙ turn.2.0))

pub new-some : (before : Standing) (a : ℕ) → IsNew before a → 1 ≤ a
new-some before a (inl h) = omega (arith, h)
new-some before a (inr h) = omega (arith, h.0)

-- what has to be known of all tickets
pub record AsksOnce (w : World) : Type 0 where
  pub one_ticket : (t u : Ticket) → WasAsked w t → WasAsked w u → t.client ≡ u.client → t.attempt ≡ u.attempt → t ≡ u
  pub asked : (t : Ticket) → WasAsked w t → t.attempt ≤ (w.clients t.client).kept
  pub latest : (t u : Ticket) → WasAsked w t → IsPresent w t.client u → t.attempt ≤ u.attempt

-- it waits or holds, in the mode that was asked for
as-asked : (m : Mode) (status : Status) → status ≢ Softened → asked_mode m status ≡ m
as-asked m Waiting apart = refl
as-asked m Holding apart = refl
as-asked m Softened apart = absurd (apart refl)

pub taken-goes-on : (w : World) (t : Ticket) (status : Status) → status ≢ Softened → AsksOnce w → WasAsked w t → 1 ≤ t.attempt → GoesOn w t.client (cleared t) (taken_up t status)
taken-goes-on w t status apart once asked some = record {
  honors = honors;
  owes = λ o. record {
    within = record { floor = o.within.floor; live = λ live. omega (arith, once.asked t asked, some) };
    present = o.present;
    softened = λ m x claim un. apart (let e : Has t.mode t.resource status ≡ Has m x Softened = claim in let is : status ≡ Softened = cc in is);
    agrees = λ u m x s claim also client attempt. agrees u m x s claim also client (attempt ∙ (let e : (t.attempt - 1) + 1 ≡ t.attempt = omega (arith, some) in e));
  };
}
  where
    honors : (a : ℕ) (m : Mode) (x : List ℕ) → Honors (cleared t) a m x → Honors (taken_up t status) a m x
    honors a m x (inl h) = inl h
    honors a m x (inr h) = absurd (free-not-has h.1.0 x h.1.1 h.1.3)

    agrees : (u : Ticket) (m : Mode) (x : List ℕ) (s : Status) → Has t.mode t.resource status ≡ Has m x s → WasAsked w u → u.client ≡ t.client → u.attempt ≡ t.attempt → (asked_mode m s ≡ u.mode) × (x ≡ u.resource)
    agrees u m x s claim also client attempt =
        let same : u ≡ t = once.one_ticket u t also asked client attempt in
        let mode : m ≡ t.mode = cc in
        let resource : x ≡ t.resource = cc in
        let is : s ≡ status = cc in
        (ap (asked_mode m) is ∙ as-asked m status apart ∙ mode ∙ sym (ap (λ (z : Ticket). z.mode) same), resource ∙ sym (ap (λ (z : Ticket). z.resource) same))
