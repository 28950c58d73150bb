-- What a book tells of two berths is what their own logs tell, and whom it has inside was so where it was asked.
use Rattle.std.proofs.Common.{◌≡◌, ◌≢◌, ◌⊎◌, ℕ, Bool, true, List, Result, Ok, Err, inl, inr, sym, ap, ◌∙◌}
use Rattle.std.specs.Prelude.{Vec, OnOk, IfOk, IfErr}
use Rattle.std.specs.Global.{Global}
use Rattle.lock_messages.specs.declared.tickets.Ticket.{Ticket}
use Rattle.world_model.specs.declared.exact.ExactWorld.{ExactWorld}
use Rattle.world_model.specs.Parts.{part}
use Rattle.event_recorders.specs.declared.log_faults.LogFault.{LogFault}
use Rattle.event_recorders.specs.declared.log_faults.LogFault.TheVariants as book
use Rattle.history_book.specs.Books.{BookValue, BerthValue, Known, sees, own_part, inside_ticket, IsMet, Reads}
use Rattle.history_book.specs.Inside.{TellsInside}
use Rattle.event_recorders.specs.Sharing.{HaveMet, HasSeenInside}
use Rattle.book_recorders.specs.Meeting.{HasSeenOn, SeesInside}
use Rattle.book_recorders.specs.Sharing.{after_seeing, log_of}
use Rattle.book_recorders.proofs.Between.{between_of}
use Rattle.book_recorders.proofs.Logging.{log_after}

-- a berth that sees all of the history has its own log still
pub log_seen : (b : BookValue) (k k' : BerthValue) → Known b k → k' ≡ sees b k → log_of k' ≡ log_of k
log_seen b k k' known is = log_after k k' b.history _ is known.own

have_met : (answer : Bool) (b : BookValue) (k l k' l' : BerthValue) → IsMet answer b k l k' l' → (answer ≡ true → Reads (inside_ticket (own_part k)) × Reads (inside_ticket (own_part l))) → HaveMet answer (log_of k) (log_of l) (log_of k') (log_of l')
have_met answer b k l k' l' met readers = record {
  told = met.told;
  readers = readers;
  one = log_seen b k k' met.one met.one_sees;
  other = log_seen b l l' met.other met.other_sees;
}

pub met_if : (r : Result Bool LogFault) (b : BookValue) (k l k' l' : BerthValue) → IfOk r (λ met. IsMet met b k l k' l') → IfOk r (λ met. met ≡ true → Reads (inside_ticket (own_part k)) × Reads (inside_ticket (own_part l))) → IfOk r (λ met. HaveMet met (log_of k) (log_of l) (log_of k') (log_of l'))
met_if (Ok met) b k l k' l' is readers = have_met met b k l k' l' is readers
met_if (Err f) b k l k' l' is readers = tt

has_seen : (b : BookValue) (k : BerthValue) (x : List ℕ) (tickets : List Ticket) (k' : BerthValue) → TellsInside b k x tickets k' → HasSeenInside (log_of k) x tickets (log_of k')
has_seen b k x tickets k' told = record {
  opening = b.opening;
  history = b.history;
  world = b.world;
  run = told.known.run;
  ballots = ap (λ (w : ExactWorld). w.ballots) (sym told.known.opening);
  opened = ap (λ (w : ExactWorld). part w k.actor) (sym told.known.opening);
  events = told.known.own;
  own = told.known.part;
  those = told.those;
  log = log_seen b k k' told.known told.seen;
}

pub seen_if : (r : Result (Vec Ticket Global) LogFault) (b : BookValue) (k : BerthValue) (x : List ℕ) (k' : BerthValue) → IfOk r (λ tickets. TellsInside b k x tickets.items k') → IfOk r (λ tickets. HasSeenInside (log_of k) x tickets.items (log_of k'))
seen_if (Ok tickets) b k x k' told = has_seen b k x tickets.items k' told
seen_if (Err f) b k x k' told = tt

seen_on : (b : BookValue) (k k' : BerthValue) → Known b k → k' ≡ sees b k → HasSeenOn k k' b.world
seen_on b k k' known is = record {
  between = known.begins.0;
  others = between_of b k known;
  berth = is ∙ ap (after_seeing k) (sym known.begins.1);
}

sees_inside : (b : BookValue) (k : BerthValue) (x : List ℕ) (tickets : List Ticket) (k' : BerthValue) → TellsInside b k x tickets k' → SeesInside k x tickets k'
sees_inside b k x tickets k' told = record {
  now = b.world;
  seen = seen_on b k k' told.known told.seen;
  those = told.those;
}

pub shown_if : (r : Result (Vec Ticket Global) LogFault) (b : BookValue) (k : BerthValue) (x : List ℕ) (k' : BerthValue) → IfOk r (λ tickets. TellsInside b k x tickets.items k') → IfOk r (λ tickets. SeesInside k x tickets.items k')
shown_if (Ok tickets) b k x k' told = sees_inside b k x tickets.items k' told
shown_if (Err f) b k x k' told = tt

-- what the berth has seen where nobody is told
pub unshown_if : {T : Type 0} (r : Result T LogFault) (b : BookValue) (k k' : BerthValue)
    → IfErr r (λ f. ((f ≡ book.OtherBook) × (k.number ≢ b.number) × (k' ≡ k)) ⊎ ((f ≡ book.Memory) × Known b k × (k' ≡ sees b k)))
    → IfErr r (λ f. (f ≡ book.OtherBook → k' ≡ k) × (f ≡ book.Memory → (now : ExactWorld) × HasSeenOn k k' now))
unshown_if (Ok t) b k k' told = tt
unshown_if (Err f) b k k' (inl (other, number, same)) = (λ o. same, λ m. absurd (let z : book.OtherBook ≡ book.Memory = sym other ∙ m in cc))
unshown_if (Err f) b k k' (inr (memory, known, seen)) = (λ o. absurd (let z : book.Memory ≡ book.OtherBook = sym memory ∙ o in cc), λ m. (b.world, seen_on b k k' known seen))

-- both have seen one history
pub both_seen_if : (r : Result Bool LogFault) (b : BookValue) (k l k' l' : BerthValue) → IfOk r (λ met. IsMet met b k l k' l') → OnOk r ((now : ExactWorld) × HasSeenOn k k' now × HasSeenOn l l' now)
both_seen_if (Ok met) b k l k' l' is = (b.world, seen_on b k k' is.one is.one_sees, seen_on b l l' is.other is.other_sees)
both_seen_if (Err f) b k l k' l' is = tt
