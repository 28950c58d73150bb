use Rattle.std.proofs.Common.{◌≡◌, ◌↔◌, ◌∙◌, true, false, Some, Option, refl, sym, ap, subst}
use denote.Param.Object.{read_made}
use Rattle.lock_messages.specs.declared.tickets.Ticket.{Ticket}
use Rattle.client_core.specs.Clients.{Client}
use Rattle.client_core.specs.Clients.{ticket_of as client_ticket}
use Rattle.client_core.specs.Calls.{MayEnter, entered}
use Rattle.entry_guard.specs.Doors.{ClientLeaves}
use Rattle.entry_guard.specs.Guards.{HasDoor}
use Rattle.entry_guard.proofs.boxed.enter_and_leave.OwnLists.{own-1, at-1-1}
use Rattle.entry_guard.proofs.boxed.enter_and_leave.Goals as goal

pub returns-in_default-clause-entered : goal.returns-in_default-clause-entered
returns-in_default-clause-entered c =
    let box = c.into_dyn_box.result in
    let same =
    read_made own-1 (own-1.entry at-1-1) at-1-1 refl (Type 0) (λ j w. j.1.can_enter w) box.vtable box.value c.in-Ok.boxed.value c.into_dyn_box.ensures.1
    ∙ ap (λ (k : Client). MayEnter k) c.in-Ok.ensures.ok in
    subst (λ (t : Type 0). false ≡ true ↔ t) same c.in_default.ensures.entered

pub returns-clause-entered : goal.returns-clause-entered
returns-clause-entered c =
    let box = c.into_dyn_box.result in
    let same =
    read_made own-1 (own-1.entry at-1-1) at-1-1 refl (Type 0) (λ j w. j.1.can_enter w) box.vtable box.value c.in-Ok.boxed.value c.into_dyn_box.ensures.1
    ∙ ap (λ (k : Client). MayEnter k) c.in-Ok.ensures.ok in
    subst (λ (t : Type 0). true ≡ true ↔ t) same c.in-Ok-enter.ensures.entered

pub returns-clause-with : goal.returns-clause-with
returns-clause-with c =
    let box = c.into_dyn_box.result in
    sym (ap (λ (k : Client). client_ticket k) c.in-Ok.ensures.ok)
    ∙ sym (read_made own-1 (own-1.entry at-1-1) at-1-1 refl (Option Ticket) (λ j w. j.1.ticket_of w) box.vtable box.value c.in-Ok.boxed.value c.into_dyn_box.ensures.1)
    ∙ c.in-Ok-enter.ensures.ticket ∙ ap (λ (t : Ticket). Some t) (sym c.ticket-with.ensures)

pub returns-clause-left : goal.returns-clause-left
returns-clause-left c =
    let box = c.into_dyn_box.result in
    let enters = c.in-Ok-enter.ensures.enters in
    let leaves = subst (λ b. HasDoor b c.leave-door.result (λ d. (own-1.entry b.vtable).1.leaves b.value d)) enters.1 (c.leave-door.ensures.leaves c.in-Ok-enter.ensures.inside) in
    let ticket = subst (λ b. c.ticket.result ≡ (own-1.entry b.vtable).1.ticket_of b.value) leaves.1 (subst (λ v. c.ticket.result ≡ (own-1.entry v.0).1.ticket_of v.1) c.deref_box-1.ensures.1 c.ticket.ensures.0) in
    let inside = subst (λ b. c.inside.result ≡ (own-1.entry b.vtable).1.is_inside b.value) leaves.1 (subst (λ v. c.inside.result ≡ (own-1.entry v.0).1.is_inside v.1) c.deref_box-2.ensures.1 c.inside.ensures) in
    let whole =
    read_made own-1 (own-1.entry at-1-1) at-1-1 refl (Type 0)
    (λ j w. (u : j.0.Denot) × (v : j.0.Denot) × j.1.enters w u × j.1.leaves u v × (c.ticket.result ≡ j.1.ticket_of v) × (c.inside.result ≡ j.1.is_inside v))
    box.vtable box.value c.in-Ok.boxed.value c.into_dyn_box.ensures.1 in
    let seen = subst (λ (t : Type 0). t) whole (enters.0, leaves.0, enters.2, leaves.2, ticket, inside) in
    (seen.1, subst (λ (k : Client). ClientLeaves k seen.1) (seen.2 ∙ ap entered c.in-Ok.ensures.ok) seen.3, seen.4, seen.5)
