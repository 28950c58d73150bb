-- The outcomes of the steps by which a client says and hears.
use Rattle.std.specs.Prelude.{◌≡◌, ◌⊎◌, ℕ, List, Option, Result, Ok, IfErr}
use Rattle.lock_messages.specs.declared.tickets.Ticket.{Ticket}
use Rattle.lossy_link.specs.declared.parcels.Sending.{Sending}
use Rattle.event_lines.specs.declared.wishes.Wish.{Wish}
use Rattle.client_core.specs.Calls.{softened}
use Rattle.client_core.specs.Clients.{Client, phase_of, ticket_of, softened_ticket}
use Rattle.event_recorders.specs.declared.faults.RunFault.{RunFault}
use Rattle.event_recorders.specs.declared.faults.RunFault.TheVariants as fault
use Rattle.event_recorders.specs.OwnLogs.{OwnLog, FindsItsOwn, part_now}
use Rattle.actor_steps.specs.Steps.{IsBookFault}
use Rattle.actor_steps.specs.Endings.{falls_of}
use Rattle.client_loop.specs.declared.progress.Progress.{Progress}
use Rattle.client_loop.specs.Endings.{IsAskFault}
use Rattle.client_loop.specs.Hearing.{HearsNothing}
use Rattle.client_loop.specs.Nodes.{CanSuffice}
use Rattle.client_loop.specs.Remembering.{KeepsAsking, HasHadLast}
use Rattle.client_loop.specs.Releasing.{EndsWaiting}
use Rattle.client_loop.specs.Sendings.{sent_of, SendsBy, TellsSoftened}
use Rattle.client_loop.specs.Standing.{Stands}
use Rattle.client_loop.specs.Visits.{visits_of, visits_softening, BeginsNothing, GoesOnQuietly}

-- It ended by this fault, of the book or of memory, and nothing was logged.
pub record EndsUnlogged (f : RunFault) (l l' : OwnLog) : Type 0 where
  pub which : IsBookFault f
  pub unlogged : l' ≡ l

-- However it ended, the client is as its core is by its own log, which has nothing new begun, entered, softened or fallen. The link was
-- given what the log tells. If it ended by a fault, the last message may be missing if memory ran out.
pub record TalksBy {A : Type 0} (r : Result A RunFault) (l l' : OwnLog) (given given' : Option (List Sending)) (finds : List (List ℕ)) (core : Client) : Type 0 where
  pub sent : SendsBy r l l' given given'
  pub stands : Stands l' finds core
  pub quiet : GoesOnQuietly l l'

-- The same, where it ends by no fault but one of the book or of memory.
pub record Says (r : Result (Unit {0}) RunFault) (l l' : OwnLog) (given given' : Option (List Sending)) (finds : List (List ℕ)) (core : Client) : Type 0 where
  pub talks : TalksBy r l l' given given' finds core
  pub faults : IfErr r IsBookFault

-- Without a fault.
abbrev pub Talks : OwnLog → OwnLog → Option (List Sending) → Option (List Sending) → List (List ℕ) → Client → Type 0
Talks l l' given given' finds core = TalksBy {A = Unit {0}} (Ok tt) l l' given given' finds core

-- However it ended, the client is as its core is by its own log, in the same phase and with the same ticket. Its log has nothing new
-- sent, begun, entered, softened or fallen.
pub record Listens (l l' : OwnLog) (finds : List (List ℕ)) (core core' : Client) : Type 0 where
  pub silent : sent_of l' ≡ sent_of l
  pub stands : Stands l' finds core'
  pub phase : phase_of core' ≡ phase_of core
  pub ticket : ticket_of core' ≡ ticket_of core
  pub quiet : GoesOnQuietly l l'

-- It ended by this fault, of the book or of memory, and the client heard nothing.
pub record EndsUnheard (f : RunFault) (l l' : OwnLog) (core core' : Client) : Type 0 where
  pub which : IsBookFault f
  pub nothing : HearsNothing l l' core core'

-- It ended by this fault, of the book or of memory, and the client took nothing.
pub record EndsUntaken (f : RunFault) (l l' : OwnLog) (p p' : Progress) : Type 0 where
  pub which : IsBookFault f
  pub nothing : (p' ≡ p) × (l' ≡ l)

-- Asking for this wish ended by this fault. It is 913 only at the last nudge, and 912 only if the nodes that granted and those that are
-- not gone are not enough.
pub record EndsAskingFor (wish : Wish) (f : RunFault) (p : Progress) : Type 0 where
  pub which : IsAskFault f
  pub last : f ≡ fault.GaveUp → HasHadLast p
  pub too_few : f ≡ fault.TooFewNodes → CanSuffice p.core.ballots wish.place wish.mode p.granted p.gone → ⊥

-- However it ended, the client has not fallen, and a restart finds in its record nothing but what it has kept and what it tries to keep.
pub record HasNotFallen (l l' : OwnLog) (finds : List (List ℕ)) : Type 0 where
  pub falls : falls_of l' ≡ falls_of l
  pub own : FindsItsOwn (part_now l') finds

-- The client softened, by its log, its core and the ticket of its guard, and said so once to each node of the set.
pub record SoftensGuard (set : List ℕ) (l l' : OwnLog) (finds : List (List ℕ)) (core core' : Client) (t t' : Ticket) : Type 0 where
  pub told : TellsSoftened core set l l'
  pub ticket : t' ≡ softened_ticket t
  pub stands : Stands l' finds core'
  pub visits : visits_of l' ≡ visits_softening (visits_of l)

-- Softening a guard ended by this fault. The guard may be softened, and the log may tell that.
pub record EndsSofteningGuard (f : RunFault) (l l' : OwnLog) (t t' : Ticket) : Type 0 where
  pub which : IsBookFault f
  pub still : (t' ≡ t) ⊎ (t' ≡ softened_ticket t)
  pub fewer : (visits_of l' ≡ visits_of l) ⊎ (visits_of l' ≡ visits_softening (visits_of l))

-- However it ended, nothing was sent, begun, entered or softened since, and the client has not fallen.
pub record LeavesSilently (l l' : OwnLog) : Type 0 where
  pub silent : sent_of l' ≡ sent_of l
  pub quiet : GoesOnQuietly l l'

-- However it ended, nothing was sent or begun since, and the client has not fallen.
pub record EntersSilently (l l' : OwnLog) : Type 0 where
  pub silent : sent_of l' ≡ sent_of l
  pub begins : BeginsNothing (visits_of l) (visits_of l')
  pub falls : falls_of l' ≡ falls_of l

-- The log has one softening more, and the client is by it as its core is once that is softened.
pub record IsSoftened (l l' : OwnLog) (finds : List (List ℕ)) (core : Client) : Type 0 where
  pub stands : Stands l' finds (softened core)
  pub visits : visits_of l' ≡ visits_softening (visits_of l)

-- However it ended, nothing was sent since, and the client has not fallen.
pub record GoesOnSoftened (l l' : OwnLog) : Type 0 where
  pub silent : sent_of l' ≡ sent_of l
  pub falls : falls_of l' ≡ falls_of l

-- However it ended, the client talked, went on asking as before, and if it ended by a fault, this was one that ends a wait.
pub record WaitsBy (r : Result (Unit {0}) RunFault) (l l' : OwnLog) (given given' : Option (List Sending)) (finds : List (List ℕ)) (p p' : Progress) : Type 0 where
  pub talks : TalksBy r l l' given given' finds p'.core
  pub keeps : KeepsAsking p p'
  pub ended : IfErr r (λ f. EndsWaiting f p')

-- The client went on asking as before, and those to which something was sent in this attempt are the same.
pub record KeepsAsked (p p' : Progress) : Type 0 where
  pub keeps : KeepsAsking p p'
  pub asked : p'.asked ≡ p.asked
