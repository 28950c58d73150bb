-- A berth that is inside stays inside in its book.
use Rattle.std.proofs.Common.{◌≡◌, ℕ, List, sym, ap, ◌∙◌}
use Rattle.std.proofs.lemmas.List.Elements.{filter-append}
use Rattle.lock_messages.specs.declared.ids.Actor.{Actor}
use Rattle.lock_messages.specs.declared.ids.Actor.TheVariants as actor
use Rattle.world_model.specs.declared.events.Effect.{Effect}
use Rattle.world_model.specs.declared.events.Event.{Event}
use Rattle.world_model.specs.declared.exact.ExactWorld.{ExactWorld}
use Rattle.world_model.specs.Locality.{PartsAreLocal, own_events, local_part}
use Rattle.world_model.specs.Parts.{is_own, part}
use Rattle.world_model.specs.Staying.{inside_ticket, PartsStayInside}
use Rattle.world_model.specs.Views.{ticket_inside}
use Rattle.world_model.proofs.StayFacts.{local-append, ticket-by-part}
use Rattle.history_book.specs.Books.{BookValue, BerthValue, Known, own_of, own_part}
use Rattle.history_book.specs.Laws.{GoesOn, BerthsStayInside}

-- a client's ticket in the world, by its part
ticket_of_actor : (w : ExactWorld) (who : Actor) (c : ℕ) → who ≡ actor.Client c → ticket_inside c w ≡ inside_ticket (part w who)
ticket_of_actor w who c is = sym (ticket-by-part w c) ∙ ap (λ a. inside_ticket (part w a)) (sym is)

-- the part in the book, by what the berth has seen and what came since
part_after : (b : BookValue) (k : BerthValue) (more : List (Event × Effect)) → PartsAreLocal → GoesOn b k more → part b.world k.actor ≡ local_part k.opening.ballots (own_part k) (own_events k.actor more)
part_after b k more law goes =
    law b.opening b.world b.history goes.run k.actor
    ∙ ap (λ w. local_part w.ballots (part w k.actor) (own_events k.actor b.history)) (sym goes.opening)
    ∙ ap (λ l. local_part k.opening.ballots (part k.opening k.actor) (own_events k.actor l)) goes.history
    ∙ ap (λ l. local_part k.opening.ballots (part k.opening k.actor) l) (filter-append (λ (p : Event × Effect). is_own k.actor p.0) k.seen more)
    ∙ local-append k.opening.ballots (part k.opening k.actor) (own_of k) (own_events k.actor more)

pub stays : PartsAreLocal → PartsStayInside → BerthsStayInside
stays local law b k more c t goes is inside all =
    let still = law k.opening.ballots (own_part k) t (own_events k.actor more) inside all in
    (still.0, ticket_of_actor b.world k.actor c is ∙ ap inside_ticket (part_after b k more local goes) ∙ still.1, still.2, still.3)

pub tells : (b : BookValue) (k : BerthValue) (c : ℕ) → Known b k → k.actor ≡ actor.Client c → ticket_inside c b.world ≡ inside_ticket (own_part k)
tells b k c known is = ticket_of_actor b.world k.actor c is ∙ ap inside_ticket known.part
