-- What a berth tells of a call that logged for it, where the book lies under a lock: the book isn't named,
-- and others may have logged since the berth saw it last.
use Rattle.std.specs.Prelude.{◌≡◌, true, false, List, [], ◌∷◌, ◌++◌, Some, Err}
use Rattle.berth_seats.specs.Views.{TableId}
use Rattle.event_recorders.specs.OwnLogs.{OwnLog}
use Rattle.world_model.specs.declared.events.Effect.{Effect}
use Rattle.world_model.specs.declared.events.Event.{Event}
use Rattle.world_model.specs.declared.events.StepFault.{StepFault}
use Rattle.world_model.specs.declared.exact.ExactWorld.{ExactWorld}
use Rattle.world_model.specs.ExactWorlds.{step}
use Rattle.world_model.specs.Laws.{Takes}
use Rattle.world_model.specs.Locality.{own_events, IsHistory, IsAsListed, IsLocalRefusal}
use Rattle.world_model.specs.Parts.{is_own, part, own_refusal}
use Rattle.event_recorders.specs.declared.log_faults.LogFault.{LogFault}
use Rattle.event_recorders.specs.declared.log_faults.LogFault.TheVariants as book
use Rattle.history_book.specs.Books.{BerthValue, own_of, own_part, IsOfEvent, IsFull}

-- the berth, once it has seen this much
abbrev pub after_seeing : BerthValue → List (Event × Effect) → BerthValue
after_seeing k seen = record { number = k.number; table = k.table; actor = k.actor; opening = k.opening; seen = seen }

-- Others logged these since the berth saw the history last: with what it has seen they are a run from the
-- opening to this world, and none of them is its actor's.
pub record Between (k : BerthValue) (between : List (Event × Effect)) (w : ExactWorld) : Type 0 where
  pub run : IsHistory k.opening (k.seen ++ between) w
  pub others : own_events k.actor between ≡ []

-- The event was logged: the berth has seen what it had seen, then what others logged, and then this event
-- with its effect, which was a step of the world there; and all of it is a run.
pub record HasLogged (k : BerthValue) (e : Event) (done : Effect) (k' : BerthValue) : Type 0 where
  pub own : is_own k.actor e ≡ true
  pub between : List (Event × Effect)
  pub before : ExactWorld
  pub after : ExactWorld
  pub others : Between k between before
  pub takes : Takes before e done after
  pub listed : IsAsListed before e done
  pub berth : k' ≡ after_seeing k ((k.seen ++ between) ++ (e, done) ∷ [])
  pub run : IsHistory k'.opening k'.seen after

-- The event is no step of the world that the history up to there leaves, for this reason, which the berth's own
-- list gives or, where that gives none, the list of messages. The berth has seen what others logged since.
pub record HasRefused (f : StepFault) (k : BerthValue) (e : Event) (k' : BerthValue) : Type 0 where
  pub own : is_own k.actor e ≡ true
  pub of_event : IsOfEvent f
  pub between : List (Event × Effect)
  pub now : ExactWorld
  pub others : Between k between now
  pub refused : step now e ≡ Err f
  pub local : IsLocalRefusal e (own_refusal k.opening.ballots e (own_part k)) (Some f)
  pub berth : k' ≡ after_seeing k (k.seen ++ between)

-- With what others logged since the history is full, or the list of messages of the world that it leaves has no
-- room for what the event says. The berth is as it was.
pub record HasFoundFull (k : BerthValue) (e : Event) (k' : BerthValue) : Type 0 where
  pub own : is_own k.actor e ≡ true
  pub between : List (Event × Effect)
  pub now : ExactWorld
  pub others : Between k between now
  pub full : IsFull (k.seen ++ between) now e
  pub berth : k' ≡ k

-- Why the event was not logged. The world that refuses it and the list that is full are those that the history
-- has come to when it is asked. But for what the berth has seen after 811 nothing is changed.
abbrev pub MayRefuse : LogFault → BerthValue → Event → BerthValue → Type 0
MayRefuse book.OtherBook k e k' = k' ≡ k
MayRefuse book.OtherActor k e k' = (is_own k.actor e ≡ false) × (k' ≡ k)
MayRefuse book.Full k e k' = HasFoundFull k e k'
MayRefuse book.Memory k e k' = (is_own k.actor e ≡ true) × (k' ≡ k)
MayRefuse (book.NotAStep f) k e k' = HasRefused f k e k'

-- the berth's own log: its actor, the actor's part of the world as the book was opened, and its own events
abbrev pub log_of : BerthValue → OwnLog
log_of k = record { actor = k.actor; ballots = k.opening.ballots; opening = part k.opening k.actor; events = own_of k }

-- no book's table
abbrev pub no_table : TableId
no_table = record { words = 0; slots = 0; views_name = 0; atom = 0; block = 0; offset = 0; slot_names = [] }
