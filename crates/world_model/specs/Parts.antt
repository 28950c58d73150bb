-- An actor's own part of the world, and what it is after the actor's own events. Nothing here speaks of
-- another actor, or of the list of messages: a message that is read is the one that the effect carries.
use Rattle.std.specs.Prelude.{◌≡◌, ℕ, ◌+◌, ◌==◌, ◌⊎◌, Bool, true, false, List, [], Option, Some, None, Ok, Err}
use Rattle.lock_messages.specs.declared.ids.Actor.{Actor}
use Rattle.lock_messages.specs.declared.ids.Actor.TheVariants as actor
use Rattle.lock_messages.specs.declared.messages.Message.{Message}
use Rattle.lock_model.specs.Ballots.{Ballot}
use Rattle.world_model.specs.declared.events.Effect.{Effect}
use Rattle.world_model.specs.declared.events.Effect.TheVariants as effect
use Rattle.world_model.specs.declared.events.Event.{Event}
use Rattle.world_model.specs.declared.events.StepFault.{StepFault}
use Rattle.world_model.specs.declared.events.StepFault.TheVariants as fault
use Rattle.world_model.specs.declared.exact.ExactNode.{ExactNode}
use Rattle.world_model.specs.declared.exact.ExactClient.{ExactClient}
use Rattle.world_model.specs.declared.exact.ExactWorld.{ExactWorld}
use Rattle.world_model.specs.Kinds.{Kind, Reading, Speaking, kind_of}
use Rattle.world_model.specs.Turns.{Acts, Speaks, Reads, Turns}
use Rattle.world_model.specs.ExactWorlds.{numbered, Deed, NodeDoes, ClientDoes, deed_of, actor_of, refusal_of}

-- a number for each actor, of which no other has the same
-- Even numbers for nodes and odd ones for clients, so that no bound on their numbers is needed.
abbrev pub place : Actor → ℕ
place (actor.Node n) = n + n
place (actor.Client c) = c + c + 1

-- the event is this actor's
abbrev pub is_own : Actor → Event → Bool
is_own who e = place (actor_of e) == place who

-- an actor's part of the world: none where there is no such actor
pub data Part : Type 0 where
  NoPart : Part
  NodePart : (node : ExactNode) → Part
  ClientPart : (client : ExactClient) → Part

abbrev pub node_part : Option ExactNode → Part
node_part None = NoPart
node_part (Some v) = NodePart v

abbrev pub client_part : Option ExactClient → Part
client_part None = NoPart
client_part (Some k) = ClientPart k

abbrev pub part : ExactWorld → Actor → Part
part w (actor.Node n) = node_part (numbered w.nodes n)
part w (actor.Client c) = client_part (numbered w.clients c)

-- what the actor's own part refuses
abbrev pub refused_in : List Ballot → Deed → Part → Option StepFault
refused_in b (NodeDoes n turn) NoPart = Some fault.UnknownActor
refused_in b (NodeDoes n turn) (NodePart v) = refusal_of (turn v)
refused_in b (NodeDoes n turn) (ClientPart k) = Some fault.UnknownActor
refused_in b (ClientDoes c turn) NoPart = Some fault.UnknownActor
refused_in b (ClientDoes c turn) (NodePart v) = Some fault.UnknownActor
refused_in b (ClientDoes c turn) (ClientPart k) = refusal_of (turn b k)

abbrev pub own_refusal : List Ballot → Event → Part → Option StepFault
own_refusal b e p = refused_in b (deed_of e) p

-- a refusal that an actor's own part may have; the others are the list's, and want of memory
abbrev pub is_own_fault : StepFault → Bool
is_own_fault fault.NoSuchMessage = false
is_own_fault fault.NotAddressed = false
is_own_fault fault.SentListFull = false
is_own_fault fault.Memory = false
is_own_fault fault.UnknownActor = true
is_own_fault fault.Down = true
is_own_fault fault.Up = true
is_own_fault fault.WrongPhase = true
is_own_fault fault.NotStored = true
is_own_fault fault.NothingToSay = true
is_own_fault fault.NoQuorum = true
is_own_fault fault.AttemptsSpent = true
is_own_fault fault.NothingTried = true
is_own_fault fault.NoSuchPlace = true

-- the refusals that the list of messages may have for an event: of one that reads a message or says something
abbrev pub IsFaultOfKind : Kind → StepFault → Type 0
IsFaultOfKind Reading f = (f ≡ fault.NoSuchMessage) ⊎ (f ≡ fault.NotAddressed)
IsFaultOfKind Speaking f = f ≡ fault.SentListFull
IsFaultOfKind _ f = ⊥

abbrev pub IsListFault : Event → StepFault → Type 0
IsListFault e f = IsFaultOfKind (kind_of e) f

-- the message that an effect carries
abbrev pub message_of : Effect → Option Message
message_of (effect.Took m changed) = Some m
message_of (effect.Heard m heard) = Some m
message_of (effect.Chose a) = None
message_of effect.Tried = None
message_of effect.Kept = None
message_of (effect.Sent k m) = None
message_of (effect.Said first count) = None
message_of effect.Inside = None
message_of effect.Outside = None
message_of effect.Softened = None
message_of effect.Down = None
message_of effect.Up = None
message_of (effect.Switched changed) = None

-- the number of the message that was sent, or of the first one that was said; 0 where nothing is said
abbrev pub number_of : Effect → ℕ
number_of (effect.Sent k m) = k
number_of (effect.Said first count) = first
number_of (effect.Chose a) = 0
number_of effect.Tried = 0
number_of effect.Kept = 0
number_of (effect.Took m changed) = 0
number_of (effect.Heard m heard) = 0
number_of effect.Inside = 0
number_of effect.Outside = 0
number_of effect.Softened = 0
number_of effect.Down = 0
number_of effect.Up = 0
number_of (effect.Switched changed) = 0

-- whether a message that was taken, or a problem that was switched to, changes the record
abbrev pub changed_by : Effect → Bool
changed_by (effect.Took m changed) = changed
changed_by (effect.Switched changed) = changed
changed_by (effect.Chose a) = false
changed_by effect.Tried = false
changed_by effect.Kept = false
changed_by (effect.Sent k m) = false
changed_by (effect.Said first count) = false
changed_by (effect.Heard m heard) = false
changed_by effect.Inside = false
changed_by effect.Outside = false
changed_by effect.Softened = false
changed_by effect.Down = false
changed_by effect.Up = false

-- the actor after its turn
abbrev pub after_reading : {A : Type 0} → A → (Message → A) → Option Message → A
after_reading before after None = before
after_reading before after (Some m) = after m

abbrev pub after_turn : {A : Type 0} → A → Turns A → Effect → A
after_turn before (Err e) done = before
after_turn before (Ok (Acts after effect)) done = after
after_turn before (Ok (Speaks after says effect)) done = after
after_turn before (Ok (Reads number is_mine after effect)) done = after_reading before after (message_of done)

abbrev pub after_in : List Ballot → Deed → Effect → Part → Part
after_in b deed done NoPart = NoPart
after_in b (NodeDoes n turn) done (NodePart v) = NodePart (after_turn v (turn v) done)
after_in b (NodeDoes n turn) done (ClientPart k) = ClientPart k
after_in b (ClientDoes c turn) done (NodePart v) = NodePart v
after_in b (ClientDoes c turn) done (ClientPart k) = ClientPart (after_turn k (turn b k) done)

-- an actor's part after an event of its own that had this effect
abbrev pub after_own : List Ballot → Event → Effect → Part → Part
after_own b e done p = after_in b (deed_of e) done p

-- what is said in a turn
abbrev pub turn_says : {A : Type 0} → Turns A → List Message
turn_says (Err e) = []
turn_says (Ok (Acts after effect)) = []
turn_says (Ok (Speaks after says effect)) = says
turn_says (Ok (Reads number is_mine after effect)) = []

abbrev pub said_in : List Ballot → Deed → Part → List Message
said_in b deed NoPart = []
said_in b (NodeDoes n turn) (NodePart v) = turn_says (turn v)
said_in b (NodeDoes n turn) (ClientPart k) = []
said_in b (ClientDoes c turn) (NodePart v) = []
said_in b (ClientDoes c turn) (ClientPart k) = turn_says (turn b k)

abbrev pub said_by : List Ballot → Event → Part → List Message
said_by b e p = said_in b (deed_of e) p
