-- The world exactly: entries in order, messages numbered from 1, and what happens next as a function.
use Rattle.std.specs.Prelude.{ℕ, ◌+◌, ◌-◌, ◌==◌, Bool, nat_le, List, [], ◌∷◌, ◌++◌, length, slice_get, slice_set, Option, Some, None, Result, Ok, Err, if◌then◌else◌}
use Rattle.lock_messages.specs.declared.ids.Actor.{Actor}
use Rattle.lock_messages.specs.declared.ids.Actor.TheVariants as actor
use Rattle.lock_messages.specs.declared.messages.Message.{Message}
use Rattle.lock_model.specs.Ballots.{Ballot, node_count}
use Rattle.world_model.specs.declared.TheConstants.{MAX_MESSAGES}
use Rattle.world_model.specs.declared.events.Effect.{Effect}
use Rattle.world_model.specs.declared.events.Event.{Event}
use Rattle.world_model.specs.declared.events.Event.TheVariants as event
use Rattle.world_model.specs.declared.events.StepFault.{StepFault}
use Rattle.world_model.specs.declared.events.StepFault.TheVariants as fault
use Rattle.world_model.specs.declared.exact.ExactNode.{ExactNode}
use Rattle.world_model.specs.declared.exact.ExactClient.{ExactClient}
use Rattle.world_model.specs.declared.exact.ExactWorld.{ExactWorld}
use Rattle.world_model.specs.Turns.{Turn, Acts, Speaks, Reads, Turns}
use Rattle.world_model.specs.ExactNodes.{tries_station_in, keeps_station_in, says_in, takes_in, node_falls_in, node_rises_in, switches_in}
use Rattle.world_model.specs.ExactClients.{begins_in, tries_attempt_in, keeps_attempt_in, tells, hears, enters_in, leaves_in, softens_in, client_falls_in, client_rises_in}

-- the k-th of a list, counted from 1
abbrev pub numbered : {A : Type 0} → List A → ℕ → Option A
numbered xs k = if k == 0 then None else slice_get xs (k - 1)

-- An event as a deed: whose it is, and what that actor's turn is. A client's turn may hang on the
-- ballots too.
pub data Deed : Type 0 where
  NodeDoes : (n : ℕ) (turn : ExactNode → Turns ExactNode) → Deed
  ClientDoes : (c : ℕ) (turn : List Ballot → ExactClient → Turns ExactClient) → Deed

-- what a node and a client do each in their own way
abbrev pub either_does : Actor → (ExactNode → Turns ExactNode) → (ExactClient → Turns ExactClient) → Deed
either_does (actor.Node n) f g = NodeDoes n f
either_does (actor.Client c) f g = ClientDoes c (λ b. g)

abbrev pub deed_of : Event → Deed
deed_of (event.Begin c m x place) = ClientDoes c (λ b k. begins_in b c m x place k k.phase)
deed_of (event.Try who) = either_does who (λ v. tries_station_in v v.phase) (λ k. tries_attempt_in k k.phase)
deed_of (event.Kept who) = either_does who (λ v. keeps_station_in v v.phase) (λ k. keeps_attempt_in k k.phase)
deed_of (event.SayTo c n) = ClientDoes c (λ b k. tells b c n k)
deed_of (event.Say n) = NodeDoes n (λ v. says_in v v.phase)
deed_of (event.Take n number) = NodeDoes n (λ v. takes_in n number v v.phase)
deed_of (event.Hear c number) = ClientDoes c (λ b k. hears (node_count b) c number k)
deed_of (event.Enter c) = ClientDoes c (λ b k. enters_in b k k.phase)
deed_of (event.Leave c) = ClientDoes c (λ b k. leaves_in k k.phase)
deed_of (event.Soften c) = ClientDoes c (λ b k. softens_in k k.phase)
deed_of (event.Fall who) = either_does who (λ v. node_falls_in v v.phase) (λ k. client_falls_in k k.phase)
deed_of (event.Rise who age) = either_does who (λ v. node_rises_in age v v.phase) (λ k. client_rises_in age k k.phase)
deed_of (event.Switch n p) = NodeDoes n (λ v. switches_in n p v v.phase)

-- the actor whose event it is
abbrev pub actor_in : Deed → Actor
actor_in (NodeDoes n turn) = actor.Node n
actor_in (ClientDoes c turn) = actor.Client c

abbrev pub actor_of : Event → Actor
actor_of e = actor_in (deed_of e)

-- a world, and what was done
pub record Stepped : Type 0 where
  pub world : ExactWorld
  pub effect : Effect

abbrev pub Steps : Type 0
Steps = Result Stepped StepFault

-- the list of messages has room for what is said
abbrev pub has_room : ExactWorld → List Message → Bool
has_room w says = nat_le (length says) (MAX_MESSAGES - length w.sent)

-- the number that the next message gets
abbrev pub next_number : ExactWorld → ℕ
next_number w = length w.sent + 1

-- the world with these messages sent too
abbrev pub sending : List Message → ExactWorld → ExactWorld
sending says w = record { ballots = w.ballots; nodes = w.nodes; clients = w.clients; sent = w.sent ++ says }

-- the world with this node, or this client, in the place of this number
abbrev pub with_node_at : ExactWorld → ℕ → ExactNode → ExactWorld
with_node_at w n v = record { ballots = w.ballots; nodes = slice_set w.nodes (n - 1) v; clients = w.clients; sent = w.sent }

abbrev pub with_client_at : ExactWorld → ℕ → ExactClient → ExactWorld
with_client_at w c k = record { ballots = w.ballots; nodes = w.nodes; clients = slice_set w.clients (c - 1) k; sent = w.sent }

-- What comes of a turn, where `into` puts the actor back into the world: the list of messages refuses a
-- number that it doesn't have, a message for another, and what it has no room for; nothing else.

abbrev pub read_in : {A : Type 0} → (A → ExactWorld) → (Message → Bool) → (Message → A) → (Message → Effect) → Option Message → Steps
read_in into is_mine after effect None = Err fault.NoSuchMessage
read_in into is_mine after effect (Some m) = if is_mine m then Ok (record { world = into (after m); effect = effect m }) else Err fault.NotAddressed

abbrev pub finished : {A : Type 0} → ExactWorld → (A → ExactWorld) → Turn A → Steps
finished w into (Acts after effect) = Ok (record { world = into after; effect = effect })
finished w into (Speaks after says effect) =
    if has_room w says then Ok (record { world = sending says (into after); effect = effect (next_number w) }) else Err fault.SentListFull
finished w into (Reads number is_mine after effect) = read_in into is_mine after effect (numbered w.sent number)

-- first what the actor's own part refuses, and only then what the list of messages does
abbrev pub finishes : {A : Type 0} → ExactWorld → (A → ExactWorld) → Turns A → Steps
finishes w into (Err e) = Err e
finishes w into (Ok t) = finished w into t

-- the turn of an actor, if there is one
abbrev pub by_actor : {A : Type 0} → ExactWorld → (A → ExactWorld) → Option A → (A → Turns A) → Steps
by_actor w into None turn = Err fault.UnknownActor
by_actor w into (Some a) turn = finishes w into (turn a)

abbrev pub node_steps : ExactWorld → ℕ → (ExactNode → Turns ExactNode) → Steps
node_steps w n turn = by_actor w (with_node_at w n) (numbered w.nodes n) turn

abbrev pub client_steps : ExactWorld → ℕ → (ExactClient → Turns ExactClient) → Steps
client_steps w c turn = by_actor w (with_client_at w c) (numbered w.clients c) turn

abbrev pub done_by : ExactWorld → Deed → Steps
done_by w (NodeDoes n turn) = node_steps w n turn
done_by w (ClientDoes c turn) = client_steps w c (turn w.ballots)

-- the world after an event and what was done, or the lowest refusal that applies
unfoldable pub step : ExactWorld → Event → Steps
step w e = done_by w (deed_of e)

-- The same in three words: the world after, which is the same where the event is refused; what was
-- done, unless it is refused; and the refusal.
abbrev pub world_after : ExactWorld → Steps → ExactWorld
world_after w (Ok s) = s.world
world_after w (Err e) = w

abbrev pub effect_of : Steps → Option Effect
effect_of (Ok s) = Some s.effect
effect_of (Err e) = None

abbrev pub refusal_of : {A : Type 0} → Result A StepFault → Option StepFault
refusal_of (Ok s) = None
refusal_of (Err e) = Some e

abbrev pub after : ExactWorld → Event → ExactWorld
after w e = world_after w (step w e)

abbrev pub effect : ExactWorld → Event → Option Effect
effect w e = effect_of (step w e)

abbrev pub refusal : ExactWorld → Event → Option StepFault
refusal w e = refusal_of (step w e)

-- A run: how many events were taken, the world after them, and the refusal of the next, if any.
pub record Ran : Type 0 where
  pub taken : ℕ
  pub world : ExactWorld
  pub refused : Option StepFault

abbrev pub one_more : Ran → Ran
one_more r = record { taken = r.taken + 1; world = r.world; refused = r.refused }

-- goes on with a run where the step was taken
abbrev pub ran_on : ExactWorld → Steps → (ExactWorld → Ran) → Ran
ran_on w (Err e) go = record { taken = 0; world = w; refused = Some e }
ran_on w (Ok s) go = one_more (go s.world)

abbrev pub ran : List Event → ExactWorld → Ran
ran [] w = record { taken = 0; world = w; refused = None }
ran (e ∷ events) w = ran_on w (step w e) (λ v. ran events v)
