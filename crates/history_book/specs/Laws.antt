-- What a berth tells of its book, as statements; each is proved as the contract of a function of `laws`.
use Rattle.std.specs.Prelude.{◌≡◌, ℕ, List, ◌++◌, Some}
use Rattle.lock_messages.specs.declared.ids.Actor.TheVariants as actor
use Rattle.lock_messages.specs.declared.tickets.Ticket.{Ticket}
use Rattle.world_model.specs.declared.events.Effect.{Effect}
use Rattle.world_model.specs.declared.events.Event.{Event}
use Rattle.world_model.specs.Locality.{own_events, IsHistory}
use Rattle.world_model.specs.Staying.{inside_ticket, HasNoEnd, HasNoSoften, IsOrSoftens}
use Rattle.world_model.specs.Views.{ticket_inside}
use Rattle.history_book.specs.Books.{BookValue, BerthValue, Known, own_part}

-- The book goes on from what the berth has seen by these events: its history is a run from the opening
-- that they agree on, and is what the berth has seen and then these.
pub record GoesOn (b : BookValue) (k : BerthValue) (more : List (Event × Effect)) : Type 0 where
  pub run : IsHistory b.opening b.history b.world
  pub opening : k.opening ≡ b.opening
  pub history : b.history ≡ k.seen ++ more

-- A client that is inside by its berth's own list is inside in the book, however the book has gone on, as
-- long as it has gone on by no Leave and no Fall of this client: with the same ticket, or with it as a
-- reader's where the client has softened since.
abbrev pub BerthsStayInside : Type 0
BerthsStayInside = (b : BookValue) (k : BerthValue) (more : List (Event × Effect)) (c : ℕ) (t : Ticket) → GoesOn b k more → k.actor ≡ actor.Client c →
    inside_ticket (own_part k) ≡ Some t → HasNoEnd (own_events k.actor more) →
    (u : Ticket) × (ticket_inside c b.world ≡ Some u) × IsOrSoftens t u × (HasNoSoften (own_events k.actor more) → u ≡ t)

-- So where the berth was in nobody else's hands it is inside in the book exactly where its own list says
-- so, and with that ticket: whatever was logged since, nothing of it was its own.
abbrev pub BerthsTellWhoIsInside : Type 0
BerthsTellWhoIsInside = (b : BookValue) (k : BerthValue) (c : ℕ) → Known b k → k.actor ≡ actor.Client c → ticket_inside c b.world ≡ inside_ticket (own_part k)
