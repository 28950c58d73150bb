use Rattle.std.proofs.Common.{◌≡◌, ◌∙◌, true≢false, Some, refl, sym, subst, ap}
use Rattle.std.specs.DynBox.{dyn_box_with}
use Rattle.std.specs.Option.{option_map}
use mathlib.Core.List.{mem-append_right}
use Rattle.client_core.specs.Clients.{softened_ticket}
use Rattle.entry_guard.specs.Doors.{MaySoften}
use Rattle.entry_guard.proofs.DoorFacts.{may-soften}
use Rattle.entry_guard.proofs.owned.OwnedEntry.soften.Goals as goal

pub soften-requires : goal.soften-requires
soften-requires g c κs =
    let may = subst (λ v. MaySoften ((goal.Door-dyn g v).is_inside v.1) ((goal.Door-dyn g v).ticket_of v.1)) (c.deref_box-1.ensures.1 ∙ sym c.deref_box_mut-1.ensures.value.1) (c.may_soften.ensures.0 c.if-may_soften.true) in
    (refl, λ outlives. (tt, (λ a m. outlives a (mem-append_right κs.0 m), may)))

pub returns-then-may_soften-clause-softens : goal.returns-then-may_soften-clause-softens
returns-then-may_soften-clause-softens g c within =
    subst (λ v. (door : (g.dyn-1.0.entry v.0).0.Denot) × (dyn_box_with c.args.self.now.door c.deref_box_mut-1.result.now.0 c.soften.new.self ≡ dyn_box_with c.args.self.now.door v.0 door) × (goal.Door-dyn g v).softens v.1 door)
    c.deref_box_mut-1.ensures.value.1 (c.soften.new.self, refl, c.soften.ensures.0)

pub returns-then-may_soften-clause-held : goal.returns-then-may_soften-clause-held
returns-then-may_soften-clause-held g c within =
    let before = subst (λ v. (goal.Door-dyn g v).ticket_of v.1 ≡ Some c.args.self.now.ticket) (sym c.deref_box_mut-1.ensures.value.1) within.ticket in
    record { inside = c.soften.ensures.1.0; ticket = c.soften.ensures.1.1 ∙ ap (λ o. option_map softened_ticket o) before }

pub returns-else-may_soften-clause-softens : goal.returns-else-may_soften-clause-softens
returns-else-may_soften-clause-softens g c within =
    let said = c.may_soften.ensures.1 (subst (λ v. MaySoften ((goal.Door-dyn g v).is_inside v.1) ((goal.Door-dyn g v).ticket_of v.1)) (sym c.deref_box-1.ensures.1) (may-soften _ _ _ within c.requires)) in
    absurd (true≢false (sym said ∙ c.if-may_soften.false))

pub returns-else-may_soften-clause-held : goal.returns-else-may_soften-clause-held
returns-else-may_soften-clause-held g c within =
    let said = c.may_soften.ensures.1 (subst (λ v. MaySoften ((goal.Door-dyn g v).is_inside v.1) ((goal.Door-dyn g v).ticket_of v.1)) (sym c.deref_box-1.ensures.1) (may-soften _ _ _ within c.requires)) in
    absurd (true≢false (sym said ∙ c.if-may_soften.false))

pub returns-then-may_soften-clause-untouched : goal.returns-then-may_soften-clause-untouched
returns-then-may_soften-clause-untouched g c never =
    absurd (never (subst (λ v. MaySoften ((goal.Door-dyn g v).is_inside v.1) ((goal.Door-dyn g v).ticket_of v.1)) c.deref_box-1.ensures.1 (c.may_soften.ensures.0 c.if-may_soften.true)))
