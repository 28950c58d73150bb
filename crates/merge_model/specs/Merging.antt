-- A merge: one history of all actors, made of their own runs. Each message that is taken or heard was said before. It
-- is known by what it says, and not by a number.
use Rattle.std.specs.Prelude.{◌≡◌, ◌↔◌, ℕ, List, [], ◌∷◌, ◌++◌, map, Option, Some, None, IfSome, if◌then◌else◌}
use Rattle.lock_messages.specs.declared.ids.Actor.{Actor}
use Rattle.lock_messages.specs.declared.ids.Actor.TheVariants as actor
use Rattle.lock_messages.specs.declared.messages.Message.{Message}
use Rattle.lock_model.specs.Ballots.{Ballot}
use Rattle.lock_model.specs.Decisions.{Among}
use Rattle.world_model.specs.declared.events.Effect.{Effect}
use Rattle.world_model.specs.declared.events.Effect.TheVariants as effect
use Rattle.world_model.specs.declared.events.Event.{Event}
use Rattle.world_model.specs.declared.events.Event.TheVariants as event
use Rattle.world_model.specs.declared.exact.ExactNode.{ExactNode}
use Rattle.world_model.specs.declared.exact.ExactClient.{ExactClient}
use Rattle.world_model.specs.declared.exact.ExactWorld.{ExactWorld}
use Rattle.world_model.specs.Worlds.{World}
use Rattle.world_model.specs.Forgetting.{node_numbered, client_numbered}
use Rattle.world_model.specs.ExactWorlds.{actor_of}
use Rattle.world_model.specs.Parts.{Part, NoPart, NodePart, ClientPart, part, is_own, message_of, after_own, said_by}
use Rattle.world_model.specs.Locality.{own_events, local_part}
use Rattle.merge_model.specs.OwnRuns.{IsOwnRun}

-- the events that each actor logged, each with its effect
abbrev pub Logs : Type 0
Logs = Actor → List (Event × Effect)

-- the parts of all actors after an event of one of them
abbrev pub moved : List Ballot → (Actor → Part) → Event × Effect → Actor → Part
moved b parts q who = if is_own who q.0 then after_own b q.0 q.1 (parts who) else parts who

-- what the event's actor says in it
abbrev pub says : List Ballot → (Actor → Part) → Event × Effect → List Message
says b parts q = said_by b q.0 (parts (actor_of q.0))

-- all that is said in a history
abbrev pub all_said : List Ballot → (Actor → Part) → List (Event × Effect) → List Message
all_said b parts [] = []
all_said b parts (q ∷ history) = says b parts q ++ all_said b (moved b parts q) history

-- The message that was taken or heard, if any, is among those that were said.
abbrev pub HasSource : List Message → Effect → Type 0
HasSource said done = IfSome (message_of done) (λ m. Among m said)

-- From these parts and these messages on, each message that is taken or heard in the history was said before it.
abbrev pub IsSourced : List Ballot → (Actor → Part) → List Message → List (Event × Effect) → Type 0
IsSourced b parts said [] = Unit {0}
IsSourced b parts said (q ∷ history) = HasSource said q.1 × IsSourced b (moved b parts q) (said ++ says b parts q) history

-- The history has of each actor exactly its log, in order.
abbrev pub Interleaves : Logs → List (Event × Effect) → Type 0
Interleaves logs history = (who : Actor) → own_events who history ≡ logs who

-- A merge of logs, from a world on.
pub record IsMerge (w : ExactWorld) (logs : Logs) (history : List (Event × Effect)) : Type 0 where
  pub own : (who : Actor) → IsOwnRun w.ballots who (part w who) (logs who)
  pub interleaved : Interleaves logs history
  pub sourced : IsSourced w.ballots (part w) w.sent history

-- the actor of a part, if there is one
abbrev pub node_of_part : Part → Option ExactNode
node_of_part NoPart = None
node_of_part (NodePart v) = Some v
node_of_part (ClientPart k) = None

abbrev pub client_of_part : Part → Option ExactClient
client_of_part NoPart = None
client_of_part (NodePart v) = None
client_of_part (ClientPart k) = Some k

-- an actor's part of the world after its log
abbrev pub left_part : ExactWorld → Logs → Actor → Part
left_part w logs who = local_part w.ballots (part w who) (logs who)

-- The world that a merge leaves: each actor is as its own log says, and the messages are those of before and all that
-- was said.
pub record IsLeft (w : ExactWorld) (logs : Logs) (history : List (Event × Effect)) (v : World) : Type 0 where
  pub nodes : (n : ℕ) → v.nodes n ≡ node_numbered (node_of_part (left_part w logs (actor.Node n)))
  pub clients : (c : ℕ) → v.clients c ≡ client_numbered (client_of_part (left_part w logs (actor.Client c)))
  pub sent : (m : Message) → Among m v.sent ↔ Among m (w.sent ++ all_said w.ballots (part w) history)

-- an event without the number of the message that it reads
abbrev pub unnumbered : Event → Event
unnumbered (event.Take n k) = event.Take n 0
unnumbered (event.Hear c k) = event.Hear c 0
unnumbered (event.Begin c m x place) = event.Begin c m x place
unnumbered (event.Try who) = event.Try who
unnumbered (event.Kept who) = event.Kept who
unnumbered (event.SayTo c n) = event.SayTo c n
unnumbered (event.Say n) = event.Say n
unnumbered (event.Enter c) = event.Enter c
unnumbered (event.Leave c) = event.Leave c
unnumbered (event.Soften c) = event.Soften c
unnumbered (event.Fall who) = event.Fall who
unnumbered (event.Rise who age) = event.Rise who age
unnumbered (event.Switch n p) = event.Switch n p

-- an effect without the numbers that its messages got
abbrev pub unsaid : Effect → Effect
unsaid (effect.Sent k m) = effect.Sent 0 m
unsaid (effect.Said first count) = effect.Said 0 count
unsaid (effect.Chose a) = effect.Chose a
unsaid effect.Tried = effect.Tried
unsaid effect.Kept = effect.Kept
unsaid (effect.Took m changed) = effect.Took m changed
unsaid (effect.Heard m heard) = effect.Heard m heard
unsaid effect.Inside = effect.Inside
unsaid effect.Outside = effect.Outside
unsaid effect.Softened = effect.Softened
unsaid effect.Down = effect.Down
unsaid effect.Up = effect.Up
unsaid (effect.Switched changed) = effect.Switched changed

-- a history without numbers
abbrev pub content_of : List (Event × Effect) → List (Event × Effect)
content_of history = map (λ q. (unnumbered q.0, unsaid q.1)) history
