-- The outcomes of the steps by which a client makes an attempt, ends it, and fulfils a wish.
use Rattle.std.specs.Prelude.{◌≡◌, ◌⊎◌, ℕ, Bool, true, false, List, Option, Some, IfSome}
use Rattle.lock_messages.specs.declared.tickets.Ticket.{Ticket}
use Rattle.event_lines.specs.declared.wishes.Wish.{Wish}
use Rattle.client_core.specs.declared.phases.Phase.TheVariants as phase
use Rattle.client_core.specs.Clients.{Client, phase_of, ticket_of}
use Rattle.client_core.specs.Calls.{MayEnter, entered as inside_of}
use Rattle.event_recorders.specs.declared.faults.RunFault.{RunFault}
use Rattle.event_recorders.specs.declared.faults.RunFault.TheVariants as fault
use Rattle.event_recorders.specs.OwnLogs.{OwnLog, FindsItsOwn, part_now}
use Rattle.actor_steps.specs.Steps.{IsBookFault}
use Rattle.actor_steps.specs.Endings.{falls_of, FailuresFollow}
use Rattle.client_loop.specs.declared.progress.Progress.{Progress}
use Rattle.client_loop.specs.declared.progress.TheConstants.{MAX_NUDGES}
use Rattle.client_loop.specs.Endings.{ClientEndsFrom, EndsAsking, EndsOneAttempt, IsAtRest, IsAttemptFault, IsOutside}
use Rattle.client_loop.specs.Remembering.{most_of, HasHadLast, HasReleased}
use Rattle.client_loop.specs.Sendings.{sent_of, TellsSoftenedIf}
use Rattle.client_loop.specs.Standing.{Stands, HasChosen, HasLeft}
use Rattle.client_loop.specs.Talking.{HasNotFallen}
use Rattle.client_loop.specs.Visits.{Use, AsksFor, visits_of, visits_entering, visits_softening_if, BeginsNothing, BeginsOnly, BeginsMore, GoesOnQuietly, Tally, AddsUse, AddsAtMost, softens, use_of}

-- Nothing was sent since, and nothing begun, entered or softened.
pub record GoesOnSilently (l l' : OwnLog) : Type 0 where
  pub silent : sent_of l' ≡ sent_of l
  pub visits : visits_of l' ≡ visits_of l

-- Nothing but this use was begun since, and nothing sent, entered or softened.
pub record BeginsSilently (u : Use) (l l' : OwnLog) : Type 0 where
  pub silent : sent_of l' ≡ sent_of l
  pub entered : (visits_of l').entered ≡ (visits_of l).entered
  pub softened : (visits_of l').softened ≡ (visits_of l).softened
  pub begins : BeginsOnly u (visits_of l) (visits_of l')

-- Something was begun since, the last for this use, and the client has a ticket for it.
pub record HasBegunFor (u : Use) (l l' : OwnLog) (core : Client) : Type 0 where
  pub begun : (visits_of l').begun ≡ Some u
  pub more : BeginsMore (visits_of l) (visits_of l')
  pub ticket : IfSome (ticket_of core) (AsksFor u)

-- However it ended, the record agrees with the log. Since it had fallen so many times, the client fell no more often than the device
-- failed. A restart finds nothing but what the client has kept and what it tries to keep.
pub record RecordAgrees (times : ℕ) (l : OwnLog) (finds : List (List ℕ)) (before now : ℕ) : Type 0 where
  pub falls : FailuresFollow times (falls_of l) before now
  pub own : FindsItsOwn (part_now l) finds

-- The same, and nothing was sent since, begun, entered or softened.
pub record AgreesSilently (times : ℕ) (l l' : OwnLog) (finds : List (List ℕ)) (before now : ℕ) : Type 0 where
  pub silent : GoesOnSilently l l'
  pub agrees : RecordAgrees times l' finds before now

-- The same, but for this use attempts were begun.
pub record AttemptsSilently (u : Use) (l l' : OwnLog) (finds : List (List ℕ)) (before now : ℕ) : Type 0 where
  pub silent : BeginsSilently u l l'
  pub agrees : RecordAgrees (falls_of l) l' finds before now

-- Nothing but this use was begun since, and nothing sent, entered or softened, and the client has not fallen.
pub record BeginsUpright (u : Use) (l l' : OwnLog) (finds : List (List ℕ)) : Type 0 where
  pub silent : BeginsSilently u l l'
  pub up : HasNotFallen l l' finds

-- Making an attempt ended by this fault, of which the log and the record tell the cause.
pub record EndsAttempting (f : RunFault) (times : ℕ) (l : OwnLog) (stuck spent : Bool) (before now : ℕ) : Type 0 where
  pub which : IsAttemptFault f
  pub cause : ClientEndsFrom f times l stuck spent before now

-- The client asks by its own log, as its core does, and its record is not stuck.
pub record IsAsking (l : OwnLog) (finds : List (List ℕ)) (stuck : Bool) (core : Client) : Type 0 where
  pub stands : Stands l finds core
  pub asking : phase_of core ≡ phase.Asking
  pub free : stuck ≡ false

-- It asks with this ticket.
pub record AsksWith (asked : Option Ticket) (l : OwnLog) (finds : List (List ℕ)) (stuck : Bool) (core : Client) : Type 0 where
  pub asks : IsAsking l finds stuck core
  pub ticket : ticket_of core ≡ asked

-- It asks for this use, for which it has begun last.
pub record AsksForUse (u : Use) (l l' : OwnLog) (finds : List (List ℕ)) (stuck : Bool) (core : Client) : Type 0 where
  pub asks : IsAsking l' finds stuck core
  pub begun : HasBegunFor u l l' core

-- It has chosen an attempt for this use, for which it has begun last.
pub record ChoosesFor (u : Use) (l l' : OwnLog) (finds : List (List ℕ)) (core : Client) : Type 0 where
  pub chosen : HasChosen l' finds core
  pub begun : HasBegunFor u l l' core

-- The client rests by its own log, as its core does.
pub record IsIdle (l : OwnLog) (finds : List (List ℕ)) (core : Client) : Type 0 where
  pub stands : Stands l finds core
  pub idle : phase_of core ≡ phase.Idle

-- However it ended, the client had as many nudges as before and may have as many, and its log has nothing new begun, entered, softened or
-- fallen. A restart finds in its record nothing but what it has kept and what it tries to keep.
pub record GivesUp (l l' : OwnLog) (finds : List (List ℕ)) (p p' : Progress) : Type 0 where
  pub quiet : GoesOnQuietly l l'
  pub own : FindsItsOwn (part_now l') finds
  pub most : p'.most_nudges ≡ p.most_nudges
  pub nudges : p'.nudges ≡ p.nudges

-- The client is outside by its own log, and is as its core is.
pub record StandsOutside (l : OwnLog) (finds : List (List ℕ)) (core : Client) : Type 0 where
  pub stands : Stands l finds core
  pub outside : IsOutside (part_now l)

-- An attempt that was to end by the one fault ended by the other, which is the same or one of the book. The log tells the cause, and the
-- client rests if the fault ends one attempt alone.
pub record EndsInstead (f f' : RunFault) (l : OwnLog) (finds : List (List ℕ)) (core : Client) : Type 0 where
  pub which : (f' ≡ f) ⊎ IsBookFault f'
  pub cause : EndsAsking f' l
  pub rests : EndsOneAttempt f' → IsIdle l finds core

-- However it ended, the client may have as many nudges as before, has begun nothing and has not fallen. A restart finds in its record
-- nothing but what it has kept and what it tries to keep.
pub record GoesOnAsking (l l' : OwnLog) (finds : List (List ℕ)) (p p' : Progress) : Type 0 where
  pub most : p'.most_nudges ≡ p.most_nudges
  pub begins : BeginsNothing (visits_of l) (visits_of l')
  pub falls : falls_of l' ≡ falls_of l
  pub own : FindsItsOwn (part_now l') finds

-- The client entered with the ticket by which it asked: its log has it inside, and its core may enter.
pub record EntersAsking (l l' : OwnLog) (finds : List (List ℕ)) (core core' : Client) : Type 0 where
  pub visits : visits_of l' ≡ visits_entering (visits_of l)
  pub may : MayEnter core'
  pub ticket : ticket_of core' ≡ ticket_of core
  pub inside : Stands l' finds (inside_of core')

-- A node let the client wait, which is not to wait. It took back what it asked for, and rests: each node that it asked has answered its
-- release or is gone.
pub record StopsAsking (is_to_wait : Bool) (l : OwnLog) (finds : List (List ℕ)) (p : Progress) : Type 0 where
  pub waits : is_to_wait ≡ false
  pub busy : p.busy ≡ true
  pub released : HasReleased p
  pub rests : IsIdle l finds p.core

-- Asking ended by this fault, of which the log tells the cause. The client gave up only at its last nudge, and rests if the fault ends one
-- attempt alone.
pub record EndsAskingOnce (f : RunFault) (l : OwnLog) (finds : List (List ℕ)) (p : Progress) : Type 0 where
  pub last : f ≡ fault.GaveUp → HasHadLast p
  pub cause : EndsAsking f l
  pub rests : EndsOneAttempt f → IsIdle l finds p.core

-- The client was inside as the wish says, softened if it says so, and has left by its core, but not yet by its log.
pub record HasStayed (wish : Wish) (granted : List ℕ) (l l' : OwnLog) (finds : List (List ℕ)) (core core' : Client) : Type 0 where
  pub told : TellsSoftenedIf (softens wish) core granted l l'
  pub left : HasLeft l' finds core'
  pub visits : visits_of l' ≡ visits_softening_if (softens wish) (visits_of l)

-- Being inside ended by this fault. The log may tell that the client softened, if the wish says so.
pub record EndsStaying (f : RunFault) (wish : Wish) (l l' : OwnLog) : Type 0 where
  pub which : IsBookFault f
  pub fewer : (visits_of l' ≡ visits_of l) ⊎ (visits_of l' ≡ visits_softening_if (softens wish) (visits_of l))

-- However it ended, the client may have as many nudges as any wish of a run may have, made attempts for this wish alone, and entered it
-- once at most.
pub record WorksFor (wish : Wish) (before after : Tally) (l l' : OwnLog) (p : Progress) : Type 0 where
  pub most : most_of p ≡ MAX_NUDGES
  pub begins : BeginsOnly (use_of wish) (visits_of l) (visits_of l')
  pub counted : AddsAtMost (Some (use_of wish)) (softens wish) before after

-- The client entered the wish, softened if it says so, and rests again.
pub record HasFulfilled (wish : Wish) (before after : Tally) (l : OwnLog) (finds : List (List ℕ)) (stuck : Bool) (core : Client) : Type 0 where
  pub entered : AddsUse (Some (use_of wish)) (softens wish) before after
  pub rests : IsAtRest l finds stuck core

-- Fulfilling a wish ended by this fault, of which the log and the record tell the cause. The client gave up only at its last nudge.
pub record EndsFulfilling (f : RunFault) (times : ℕ) (l : OwnLog) (stuck spent : Bool) (before now : ℕ) (p : Progress) : Type 0 where
  pub last : f ≡ fault.GaveUp → HasHadLast p
  pub cause : ClientEndsFrom f times l stuck spent before now
