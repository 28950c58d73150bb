-- Being inside, by the core and by the own log.
use Rattle.std.proofs.Common.{◌≡◌, ◌⊎◌, inl, inr, ℕ, Bool, true, false, None, Some, refl, ap, subst, ◌∙◌, if◌then◌else◌}
use Rattle.lock_messages.specs.declared.tickets.Ticket.{Ticket}
use Rattle.client_core.specs.declared.phases.Phase.TheVariants as phase
use Rattle.client_core.specs.declared.phases.Present.{Present}
use Rattle.client_core.specs.declared.phases.State.{State}
use Rattle.client_core.specs.declared.phases.State.TheVariants.{Idle, Chosen, Asking, Inside}
use Rattle.client_core.specs.Clients.{phase_in, phase_of, ticket_in, ticket_of, softened_ticket}
use Rattle.client_core.specs.Calls.{MaySoften, MaySoftenIn, softened, softens_in}
use Rattle.world_model.specs.Parts.{ClientPart}
use Rattle.world_actors.specs.Clients.{phase_of as part_phase}
use Rattle.world_model.specs.Staying.{inside_ticket}
use Rattle.client_loop.specs.declared.progress.Progress.{Progress}
use Rattle.client_loop.specs.Remembering.{core_of, with_core}
use Rattle.client_loop.specs.Standing.{Stands}
use Rattle.lock_session.specs.Sessions.{SessionValue, IsInside, IsInsideStill}

-- the own log of a client that is inside has its core's ticket
logged_in : (attempt : ℕ) (s : State) → phase_in s ≡ phase.Inside → inside_ticket (ClientPart (record { kept = attempt; tried = None; phase = part_phase s })) ≡ ticket_in s
logged_in attempt Idle inside = absurd (let clash : phase.Idle ≡ phase.Inside = inside in cc)
logged_in attempt (Chosen t place) inside = absurd (let clash : phase.Chosen ≡ phase.Inside = inside in cc)
logged_in attempt (Asking p) inside = absurd (let clash : phase.Asking ≡ phase.Inside = inside in cc)
logged_in attempt (Inside p) inside = refl

pub inside_with : (v : SessionValue) (t : Ticket) → v.left ≡ false → Stands v.log v.finds v.core → phase_of v.core ≡ phase.Inside → ticket_of v.core ≡ Some t → IsInside v t
inside_with v t settled h inside has = record {
  settled = settled;
  stands = h;
  inside = inside;
  ticket = has;
  logged = ap inside_ticket h.part ∙ logged_in v.core.attempt v.core.state inside ∙ has;
}

-- a core that softened is inside with its ticket as a reader's
soft_in : (s : State) → MaySoftenIn s → phase_in (softens_in s) ≡ phase.Inside
soft_in Idle may = absurd may
soft_in (Chosen t place) may = absurd may
soft_in (Asking p) may = absurd may
soft_in (Inside p) may = refl

soft_ticket : (p : Present) (t : Ticket) (is : Bool) → p.softened ≡ is → is ≡ false → Some (if is then softened_ticket p.ticket else p.ticket) ≡ Some t → p.ticket ≡ t
soft_ticket p t true soft un has = absurd cc
soft_ticket p t false soft un has = cc

soft_has : (s : State) (t : Ticket) → MaySoftenIn s → ticket_in s ≡ Some t → ticket_in (softens_in s) ≡ Some (softened_ticket t)
soft_has Idle t may has = absurd may
soft_has (Chosen u place) t may has = absurd may
soft_has (Asking p) t may has = absurd may
soft_has (Inside p) t may has = ap (λ (x : Ticket). Some (softened_ticket x)) (soft_ticket p t p.softened refl may.unsoftened has)

pub softened_inside : (v v' : SessionValue) (t : Ticket) → MaySoften v.core → IsInside v t → v'.left ≡ false → v'.core ≡ softened v.core → Stands v'.log v'.finds v'.core → IsInside v' (softened_ticket t)
softened_inside v v' t may h settled same stands =
    inside_with v' (softened_ticket t) settled stands (ap phase_of same ∙ soft_in v.core.state may) (ap ticket_of same ∙ soft_has v.core.state t may h.ticket)

-- a core that is as it was is inside as it was
pub still_inside : (v v' : SessionValue) (t : Ticket) → IsInside v t → v'.left ≡ false → v'.core ≡ v.core → Stands v'.log v'.finds v'.core → IsInside v' t
still_inside v v' t h settled same stands = inside_with v' t settled stands (ap phase_of same ∙ h.inside) (ap ticket_of same ∙ h.ticket)

-- what softening left of what a client remembers
pub kept_core : (p p' : Progress) → (p' ≡ p) ⊎ (p' ≡ with_core p (softened (core_of p))) → (core_of p' ≡ core_of p) ⊎ (core_of p' ≡ softened (core_of p))
kept_core p p' (inl same) = inl (ap (λ (x : Progress). core_of x) same)
kept_core p p' (inr soft) = inr (ap (λ (x : Progress). core_of x) soft)

-- a session that was to soften is inside still
pub soften_still : (v v' : SessionValue) (t : Ticket) → IsInside v t → MaySoften v.core → v'.left ≡ false → (v'.core ≡ v.core) ⊎ (v'.core ≡ softened v.core) → Stands v'.log v'.finds v'.core → IsInsideStill t v'
soften_still v v' t h may settled (inl same) stands = record { ticket = t; inside = still_inside v v' t h settled same stands; same = inl refl }
soften_still v v' t h may settled (inr soft) stands = record { ticket = softened_ticket t; inside = softened_inside v v' t may h settled soft stands; same = inr refl }

-- the ticket of the core is the one with which the session is inside
pub held_by : (t x : Ticket) (v : SessionValue) → IsInsideStill t v → ticket_of v.core ≡ Some x → IsInside v x
held_by t x v h has =
    let own = h.inside.ticket in
    let same : h.ticket ≡ x = cc in
    subst (λ (u : Ticket). IsInside v u) same h.inside

pub inside_one : (t x : Ticket) (v : SessionValue) → IsInside v t → ticket_of v.core ≡ Some x → x ≡ t
inside_one t x v h has = let own = h.ticket in cc

-- the same ticket, or that as a reader's
pub still_one : (t x : Ticket) (v : SessionValue) → IsInsideStill t v → ticket_of v.core ≡ Some x → (x ≡ t) ⊎ (x ≡ softened_ticket t)
still_one t x v h has = so h.same
  where
    one : x ≡ h.ticket
    one = inside_one h.ticket x v h.inside has

    so : (h.ticket ≡ t) ⊎ (h.ticket ≡ softened_ticket t) → (x ≡ t) ⊎ (x ≡ softened_ticket t)
    so (inl same) = inl (one ∙ same)
    so (inr soft) = inr (one ∙ soft)
