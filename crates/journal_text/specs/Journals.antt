-- The text of a journal, and what the events that stand in it name.
use Rattle.std.specs.Prelude.{ℕ, ◌≤◌, List, [], ◌∷◌, ◌++◌, length, take, Option}
use Rattle.std.specs.Io.KnownBytes.{Appends}
use Rattle.std.specs.List.{flat_map, AllByRecursion}
use Rattle.lock_messages.specs.Ids.{IsNode, IsClient}
use Rattle.lock_messages.specs.Names.{IsName}
use Rattle.vote_weights.specs.declared.lists.TheConstants.{MAX_BALLOTS}
use Rattle.world_model.specs.declared.events.Effect.{Effect}
use Rattle.world_model.specs.declared.events.Event.{Event}
use Rattle.world_model.specs.declared.events.Event.TheVariants as event
use Rattle.world_model.specs.declared.exact.ExactWorld.{ExactWorld}
use Rattle.world_model.specs.Forgetting.{IsSound}
use Rattle.world_model.specs.Locality.{IsHistory}
use Rattle.event_lines.specs.Lines.{IsActor}
use Rattle.event_lines.specs.Events.{event_text}

-- the line of an event, with its line feed
abbrev pub event_line : Event → List ℕ
event_line e = event_text e ++ 10 ∷ []

-- The journal of a history: the line of each event, in order.
abbrev pub history_text : List (Event × Effect) → List ℕ
history_text history = flat_map (λ p. event_line p.0) history

-- the lines of some first events were appended, each whole
abbrev pub AppendsLines : Option (List ℕ) → Option (List ℕ) → List (Event × Effect) → Type 0
AppendsLines old new history = (count : ℕ) × Appends old new (history_text (take count history))

-- The nodes, the clients and the resource that an event names may be some. (That the place of a ballot may
-- be one is told by the world that took the event.)
-- (The run says that the number of a message is one that messages may have.)
abbrev pub IsWellNamed : Event → Type 0
IsWellNamed (event.Begin c m x place) = IsClient c × IsName x
IsWellNamed (event.Try who) = IsActor who
IsWellNamed (event.Kept who) = IsActor who
IsWellNamed (event.SayTo c n) = IsClient c × IsNode n
IsWellNamed (event.Say n) = IsNode n
IsWellNamed (event.Take n k) = IsNode n
IsWellNamed (event.Hear c k) = IsClient c
IsWellNamed (event.Enter c) = IsClient c
IsWellNamed (event.Leave c) = IsClient c
IsWellNamed (event.Soften c) = IsClient c
IsWellNamed (event.Fall who) = IsActor who
IsWellNamed (event.Rise who age) = IsActor who
IsWellNamed (event.Switch n p) = IsNode n

abbrev pub AreWellNamed : List (Event × Effect) → Type 0
AreWellNamed history = AllByRecursion (λ p. IsWellNamed p.0) history

-- there are no more ballots than places that a line may have
abbrev pub HasFewBallots : ExactWorld → Type 0
HasFewBallots w = length w.ballots ≤ MAX_BALLOTS

-- A history that can be read back: it is a run from a sound world of few ballots, and its events name what
-- there may be.
pub record IsRecorded (w : ExactWorld) (history : List (Event × Effect)) (v : ExactWorld) : Type 0 where
  pub opening : IsSound w
  pub few_ballots : HasFewBallots w
  pub run : IsHistory w history v
  pub named : AreWellNamed history
