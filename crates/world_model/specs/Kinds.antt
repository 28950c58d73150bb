-- What an event is about, for definitions that go by nothing else of it. This is their one table by event.
use Rattle.std.specs.Prelude.{ℕ, Bool, true, false, List}
use Rattle.lock_messages.specs.declared.tickets.Mode.{Mode}
use Rattle.world_model.specs.declared.events.Event.{Event}
use Rattle.world_model.specs.declared.events.Event.TheVariants as event

pub data Kind : Type 0 where
  -- a client begins an attempt, in this mode, for this resource, by the ballot at this place
  Beginning : (mode : Mode) (resource : List ℕ) (place : ℕ) → Kind
  -- an actor tries to keep its record, or has kept it
  Keeping : Kind
  -- an actor says something
  Speaking : Kind
  -- an actor takes or hears a message
  Reading : Kind
  Entering : Kind
  Leaving : Kind
  Softening : Kind
  Falling : Kind
  Rising : Kind
  Switching : Kind

abbrev pub kind_of : Event → Kind
kind_of (event.Begin c m x place) = Beginning m x place
kind_of (event.Try who) = Keeping
kind_of (event.Kept who) = Keeping
kind_of (event.SayTo c n) = Speaking
kind_of (event.Say n) = Speaking
kind_of (event.Take n k) = Reading
kind_of (event.Hear c k) = Reading
kind_of (event.Enter c) = Entering
kind_of (event.Leave c) = Leaving
kind_of (event.Soften c) = Softening
kind_of (event.Fall who) = Falling
kind_of (event.Rise who age) = Rising
kind_of (event.Switch n p) = Switching

-- whether an event is of a kind
abbrev pub is_keeping : Kind → Bool
is_keeping Keeping = true
is_keeping _ = false

abbrev pub is_reading : Kind → Bool
is_reading Reading = true
is_reading _ = false

abbrev pub is_entering : Kind → Bool
is_entering Entering = true
is_entering _ = false

abbrev pub is_leaving : Kind → Bool
is_leaving Leaving = true
is_leaving _ = false

abbrev pub is_softening : Kind → Bool
is_softening Softening = true
is_softening _ = false

abbrev pub is_falling : Kind → Bool
is_falling Falling = true
is_falling _ = false

abbrev pub is_rising : Kind → Bool
is_rising Rising = true
is_rising _ = false
