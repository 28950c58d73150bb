use Rattle.std.proofs.Common.{rules, ◌≡◌, ◌∙◌, true, refl, sym, subst}
use Rattle.std.specs.DynBox.{dyn_box_with}
use Rattle.entry_guard.proofs.owned.OwnedEntry.enter.Goals as goal

pub returns-then-not-may_enter-clause-entered : goal.returns-then-not-may_enter-clause-entered
returns-then-not-may_enter-clause-entered g c = (
  λ e. cc,
  λ may.
      let can = subst (λ v. (goal.Door-dyn g v).can_enter v.1) (sym c.deref_box-1.ensures.1) may in
      let said = c.may_enter.ensures.1 can in
      cc,
)

pub enter-requires : goal.enter-requires
enter-requires g c κs =
    let can = subst (λ v. (goal.Door-dyn g v).can_enter v.1) (c.deref_box-1.ensures.1 ∙ sym c.deref_box_mut-1.ensures.value.1) (c.may_enter.ensures.0 c.if-not-may_enter.false) in
    search rules

pub unwrap-ticket-requires : goal.unwrap-ticket-requires
unwrap-ticket-requires g c =
    c.ticket.ensures.1 (subst (λ v. (goal.Door-dyn g v).is_inside v.1 ≡ true) (sym c.deref_box-2.ensures.1) c.enter.ensures.1.0)

pub returns-clause-entered : goal.returns-clause-entered
returns-clause-entered g c =
    let can = subst (λ v. (goal.Door-dyn g v).can_enter v.1) c.deref_box-1.ensures.1 (c.may_enter.ensures.0 c.if-not-may_enter.false) in
    (λ e. can, λ may. refl)

pub returns-clause-ticket : goal.returns-clause-ticket
returns-clause-ticket g c =
    let before = subst (λ v. (goal.Door-dyn g v).ticket_of v.1 ≡ (goal.Door-dyn g (c.deref_box_mut-1.result.now.0, c.deref_box_mut-1.result.now.1)).ticket_of c.deref_box_mut-1.result.now.1) c.deref_box_mut-1.ensures.value.1 refl in
    let after = subst (λ v. c.ticket.result ≡ (goal.Door-dyn g v).ticket_of v.1) c.deref_box-2.ensures.1 c.ticket.ensures.0 in
    before ∙ sym c.enter.ensures.1.1 ∙ sym after ∙ c.unwrap-ticket.ensures

pub returns-clause-enters : goal.returns-clause-enters
returns-clause-enters g c =
    subst (λ v. (door : (g.dyn-1.0.entry v.0).0.Denot) × (dyn_box_with c.args.door c.deref_box_mut-1.result.now.0 c.enter.new.self ≡ dyn_box_with c.args.door v.0 door) × (goal.Door-dyn g v).enters v.1 door)
    c.deref_box_mut-1.ensures.value.1 (c.enter.new.self, refl, c.enter.ensures.0)

pub returns-clause-held : goal.returns-clause-held
returns-clause-held g c =
    let after = subst (λ v. c.ticket.result ≡ (goal.Door-dyn g v).ticket_of v.1) c.deref_box-2.ensures.1 c.ticket.ensures.0 in
    record { inside = c.enter.ensures.1.0; ticket = sym after ∙ c.unwrap-ticket.ensures }
