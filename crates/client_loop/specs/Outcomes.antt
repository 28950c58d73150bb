-- What the calls of a client come to, from the moment before to the moment after.
use Rattle.std.specs.Prelude.{◌≡◌, ◌⊎◌, ◌++◌, ◌∷◌, [], ℕ, Bool, true, false, List, length, Option, Some, Result, Ok, OnOk, IfOk, IfErr, IfSome}
use Rattle.lock_messages.specs.declared.ids.Actor.{Actor}
use Rattle.event_lines.specs.declared.wishes.Wish.{Wish}
use Rattle.lossy_link.specs.declared.parcels.Sending.{Sending}
use Rattle.lossy_link.specs.Links.{all_more}
use Rattle.client_core.specs.declared.phases.Phase.TheVariants as phase
use Rattle.client_core.specs.Clients.{phase_of, ticket_of}
use Rattle.client_core.specs.Calls.{MayEnter, softened, entered as inside_of}
use Rattle.event_recorders.specs.declared.faults.RunFault.{RunFault}
use Rattle.event_recorders.specs.declared.faults.RunFault.TheVariants as fault
use Rattle.event_recorders.specs.OwnLogs.{OwnLog, FindsItsOwn, part_now}
use Rattle.actor_steps.specs.Steps.{IsBookFault}
use Rattle.actor_steps.specs.Endings.{falls_of, FailuresFollow}
use Rattle.client_loop.specs.declared.progress.Progress.{Progress}
use Rattle.client_loop.specs.Sendings.{sent_of, SentFollows, SentUnlessMemory, ToldUnlessMemory, TellsSoftened}
use Rattle.client_loop.specs.Standing.{Stands, IsSameClient}
use Rattle.client_loop.specs.Remembering.{core_of, with_core, asked_of, granted_of, busy_of, most_of, HasHadLast, HasReleased}
use Rattle.client_loop.specs.Endings.{IsOutside, ClientEndsFrom, EndsAsking, EndsOneAttempt, IsPostFault, IsAtRest}
use Rattle.client_loop.specs.Visits.{Use, AsksFor, visits_of, visits_softening, BeginsOnly, BeginsMore, GoesOnQuietly, HasEntered, HasBegun, SoftensAsWished, entries_of}

-- What a record answers: what a restart finds in it, whether it is stuck and spent, and how often its device has failed.
pub record Answers : Type 0 where
  pub finds : List (List ℕ)
  pub stuck : Bool
  pub spent : Bool
  pub failures : ℕ

-- these answers
abbrev pub answers : List (List ℕ) → Bool → Bool → ℕ → Answers
answers finds stuck spent failures = record { finds = finds; stuck = stuck; spent = spent; failures = failures }

-- A client at a moment: what it remembers, its own log, what its record answers, and what was given to its link.
pub record Moment : Type 0 where
  pub progress : Progress
  pub log : OwnLog
  pub stable : Answers
  pub given : Option (List Sending)

-- this moment
abbrev pub moment : Progress → OwnLog → Answers → Option (List Sending) → Moment
moment progress log stable given = record { progress = progress; log = log; stable = stable; given = given }

-- What was sent is what the log tells.
abbrev pub Sends : Moment → Moment → Type 0
Sends v v' = SentFollows v.log v'.log v.given v'.given

-- The same, but that the last message of the log may be missing if memory ran out.
abbrev pub SendsUnlessMemory : RunFault → Moment → Moment → Type 0
SendsUnlessMemory f v v' = SentUnlessMemory f v.log v'.log v.given v'.given

-- The client rests, and may make an attempt.
abbrev pub Rests : Moment → Type 0
Rests v = IsAtRest v.log v.stable.finds v.stable.stuck (core_of v.progress)

-- A restart finds in the record nothing but what the client has kept and what it tries to keep.
abbrev pub KeepsItsOwn : Moment → Type 0
KeepsItsOwn v = FindsItsOwn (part_now v.log) v.stable.finds

-- The client entered and softened nothing since, and began nothing.
abbrev pub VisitsNothing : Moment → Moment → Type 0
VisitsNothing v v' = visits_of v'.log ≡ visits_of v.log

-- the client entered nothing since
abbrev pub EntersNothing : Moment → Moment → Type 0
EntersNothing v v' = (visits_of v'.log).entered ≡ (visits_of v.log).entered

-- However it ended, the client had so many nudges, made attempts for this use alone, softened nothing, and fell no more often than
-- its record's device failed.
pub record Attempts (u : Use) (nudges : ℕ) (v v' : Moment) : Type 0 where
  pub client : IsSameClient v.log v'.log
  pub most : most_of v'.progress ≡ nudges
  pub begins : BeginsOnly u (visits_of v.log) (visits_of v'.log)
  pub softened : (visits_of v'.log).softened ≡ (visits_of v.log).softened
  pub falls : FailuresFollow (falls_of v.log) (falls_of v'.log) v.stable.failures v'.stable.failures
  pub own : KeepsItsOwn v'

-- It made one attempt or more, the last for this use. Its record is not stuck, and what was sent is what its log tells.
pub record MakesAttempts (u : Use) (v v' : Moment) : Type 0 where
  pub begun : (visits_of v'.log).begun ≡ Some u
  pub more : BeginsMore (visits_of v.log) (visits_of v'.log)
  pub free : v'.stable.stuck ≡ false
  pub sent : Sends v v'

-- It entered this use, once: its log has it inside with a ticket for the use, and its core may enter.
pub record Enters (u : Use) (v v' : Moment) : Type 0 where
  pub entered : (visits_of v'.log).entered ≡ (visits_of v.log).entered ++ Some u ∷ []
  pub may : MayEnter (core_of v'.progress)
  pub ticket : IfSome (ticket_of (core_of v'.progress)) (AsksFor u)
  pub inside : Stands v'.log v'.stable.finds (inside_of (core_of v'.progress))

-- A node let it wait. It took back what it asked for, and rests: each node that it asked has answered its release or is gone.
pub record TakesBack (v v' : Moment) : Type 0 where
  pub outside : EntersNothing v v'
  pub busy : busy_of v'.progress ≡ true
  pub released : HasReleased v'.progress
  pub rests : Rests v'

-- Its attempts ended by this fault: it entered nothing, and its log and its record tell the cause. It gave up only at its last
-- nudge. If the fault ends one attempt alone, it rests.
pub record EndsAttempts (f : RunFault) (v v' : Moment) : Type 0 where
  pub outside : EntersNothing v v'
  pub sent : SendsUnlessMemory f v v'
  pub cause : ClientEndsFrom f (falls_of v.log) v'.log v'.stable.stuck v'.stable.spent v.stable.failures v'.stable.failures
  pub last : f ≡ fault.GaveUp → HasHadLast v'.progress
  pub rests : EndsOneAttempt f → Rests v'

-- What entering this use comes to, with so many nudges. It takes the wish back only if it is not to wait.
pub record Entering (u : Use) (nudges : ℕ) (waits : Bool) (r : Result Bool RunFault) (v v' : Moment) : Type 0 where
  pub attempts : Attempts u nudges v v'
  pub attempted : OnOk r (MakesAttempts u v v')
  pub entered : r ≡ Ok true → Enters u v v'
  pub taken_back : r ≡ Ok false → (waits ≡ false) × TakesBack v v'
  pub ended : IfErr r (λ f. EndsAttempts f v v')

-- However it ended, the client may have as many nudges as before, its core is idle, and its log has nothing begun, entered,
-- softened or fallen since.
pub record Leaves (v v' : Moment) : Type 0 where
  pub client : IsSameClient v.log v'.log
  pub idle : phase_of (core_of v'.progress) ≡ phase.Idle
  pub most : most_of v'.progress ≡ most_of v.progress
  pub quiet : GoesOnQuietly v.log v'.log
  pub own : KeepsItsOwn v'

-- It rests by its own log: each node that it asked has answered its release or is gone. If a node let it wait, it remembers that.
pub record LeavesAll (v v' : Moment) : Type 0 where
  pub sent : Sends v v'
  pub stands : Stands v'.log v'.stable.finds (core_of v'.progress)
  pub asked : asked_of v'.progress ≡ asked_of v.progress
  pub released : HasReleased v'.progress
  pub busy : busy_of v.progress ≡ true → busy_of v'.progress ≡ true

-- Its leaving ended by this fault, and its log tells the cause. It gave up only at its last nudge, and then it rests.
pub record EndsLeaving (f : RunFault) (v v' : Moment) : Type 0 where
  pub which : IsPostFault f
  pub sent : SendsUnlessMemory f v v'
  pub cause : EndsAsking f v'.log
  pub last : f ≡ fault.GaveUp → HasHadLast v'.progress
  pub stands : f ≡ fault.GaveUp → Stands v'.log v'.stable.finds (core_of v'.progress)

-- What leaving comes to.
pub record Leaving (r : Result (Unit {0}) RunFault) (v v' : Moment) : Type 0 where
  pub leaves : Leaves v v'
  pub left : OnOk r (LeavesAll v v')
  pub ended : IfErr r (λ f. EndsLeaving f v v')

-- the same with the core softened
abbrev pub softened_progress : Progress → Progress
softened_progress p = with_core p (softened (core_of p))

-- However it ended, the client is inside by its own log as its core is, and has not fallen.
pub record StaysInside (v v' : Moment) : Type 0 where
  pub client : IsSameClient v.log v'.log
  pub stands : Stands v'.log v'.stable.finds (core_of v'.progress)
  pub falls : falls_of v'.log ≡ falls_of v.log

-- It softened, once, and said so once to each node whose vote was counted.
pub record Softens (v v' : Moment) : Type 0 where
  pub core : v'.progress ≡ softened_progress v.progress
  pub told : TellsSoftened (core_of v.progress) (granted_of v.progress) v.log v'.log
  pub visits : visits_of v'.log ≡ visits_softening (visits_of v.log)
  pub sent : Sends v v'

-- Its softening ended by this fault. The core may have softened, and the log may tell that.
pub record EndsSoftening (f : RunFault) (v v' : Moment) : Type 0 where
  pub which : IsBookFault f
  pub core : (v'.progress ≡ v.progress) ⊎ (v'.progress ≡ softened_progress v.progress)
  pub visits : VisitsNothing v v' ⊎ (visits_of v'.log ≡ visits_softening (visits_of v.log))
  pub sent : SendsUnlessMemory f v v'

-- What softening comes to.
pub record Softening (r : Result (Unit {0}) RunFault) (v v' : Moment) : Type 0 where
  pub stays : StaysInside v v'
  pub softened : OnOk r (Softens v v')
  pub ended : IfErr r (λ f. EndsSoftening f v v')

-- However it ended, the log has nothing sent, entered, softened or begun, and it fell no more often than its record's device failed.
pub record BeginsToLog (l l' : OwnLog) (a a' : Answers) : Type 0 where
  pub client : IsSameClient l l'
  pub silent : sent_of l' ≡ []
  pub entered : (visits_of l').entered ≡ []
  pub softened : (visits_of l').softened ≡ []
  pub begins : (visits_of l').begins ≡ []
  pub whose : (visits_of l').whose ≡ l.actor
  pub ballots : (visits_of l').ballots ≡ l.ballots
  pub opening : (visits_of l').opening ≡ l.opening
  pub falls : FailuresFollow (falls_of l) (falls_of l') a.failures a'.failures
  pub own : FindsItsOwn (part_now l') a'.finds

-- It ended by this fault: nothing is logged, and its record tells the cause.
pub record EndsRising (f : RunFault) (l l' : OwnLog) (a a' : Answers) : Type 0 where
  pub unlogged : l' ≡ l
  pub cause : ClientEndsFrom f (falls_of l) l' a'.stuck a'.spent a.failures a'.failures

-- What rising comes to.
pub record Rising (r : Result Progress RunFault) (l l' : OwnLog) (a a' : Answers) : Type 0 where
  pub begins : BeginsToLog l l' a a'
  pub rests : IfOk r (λ p. IsAtRest l' a'.finds a'.stuck (core_of p))
  pub ended : IfErr r (λ f. EndsRising f l l' a a')

-- The client entered the first of these wishes, each once and in order, softened as they say, and began nothing else.
pub record FulfilsInOrder (who : Actor) (wishes : List Wish) (r : Result ℕ (ℕ × RunFault)) (l : OwnLog) : Type 0 where
  pub entered : HasEntered wishes (entries_of r) l
  pub softened : SoftensAsWished wishes r l
  pub begun : HasBegun who wishes l

-- So many are all of these wishes, and the client is outside.
pub record FulfilsAll (wishes : List Wish) (l : OwnLog) (n : ℕ) : Type 0 where
  pub all : n ≡ length wishes
  pub outside : IsOutside (part_now l)

-- What was sent is what the log tells. If it ended by a fault, the last message may be missing if memory ran out.
pub record TellsBy (r : Result ℕ (ℕ × RunFault)) (l : OwnLog) (given given' : Option (List Sending)) : Type 0 where
  pub all : OnOk r (given' ≡ all_more given (sent_of l))
  pub faulted : IfErr r (λ p. ToldUnlessMemory p.1 l given given')
