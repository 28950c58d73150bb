-- An event as the turn that it is to its actor, and what a call that takes a turn has done.
use Rattle.std.specs.Prelude.{◌≡◌, ℕ, ◌+◌, ◌-◌, ◌<◌, ◌≤◌, ◌⊎◌, Bool, true, false, List, ◌++◌, length, Option, Some, None, Result, Ok, Err, IsOk, if◌then◌else◌}
use Rattle.lock_messages.specs.declared.ids.Actor.TheVariants as actor
use Rattle.lock_messages.specs.declared.messages.Message.{Message}
use Rattle.lock_model.specs.Ballots.{Ballot}
use Rattle.world_model.specs.declared.TheConstants.{MAX_MESSAGES}
use Rattle.world_model.specs.declared.events.Effect.{Effect}
use Rattle.world_model.specs.declared.events.Event.{Event}
use Rattle.world_model.specs.declared.events.Event.TheVariants as event
use Rattle.world_model.specs.declared.events.StepFault.{StepFault}
use Rattle.world_model.specs.declared.events.StepFault.TheVariants as fault
use Rattle.world_model.specs.declared.exact.ExactNode.{ExactNode}
use Rattle.world_model.specs.declared.exact.ExactClient.{ExactClient}
use Rattle.world_model.specs.ExactNodes.{tries_station_in, keeps_station_in, node_falls_in, node_rises_in, switches_in}
use Rattle.world_model.specs.ExactClients.{begins_in, tries_attempt_in, keeps_attempt_in, enters_in, leaves_in, softens_in, client_falls_in, client_rises_in}
use Rattle.world_model.specs.Parts.{turn_says}
use Rattle.world_model.specs.Turns.{Turns, Acts, Speaks, Reads, acts, speaks}
use Rattle.world_machine.specs.declared.turns.NodeAct.{NodeAct}
use Rattle.world_machine.specs.declared.turns.NodeAct.TheVariants as node_act
use Rattle.world_machine.specs.declared.turns.ClientAct.{ClientAct}
use Rattle.world_machine.specs.declared.turns.ClientAct.TheVariants as client_act
use Rattle.world_machine.specs.declared.turns.Turn.{Turn}
use Rattle.world_machine.specs.declared.turns.Turn.TheVariants as doing

-- what a node does by itself, as an event and as a turn; and whether memory is asked for
abbrev pub node_event : ℕ → NodeAct → Event
node_event n node_act.Try = event.Try (actor.Node n)
node_event n node_act.Kept = event.Kept (actor.Node n)
node_event n node_act.Fall = event.Fall (actor.Node n)
node_event n (node_act.Rise age) = event.Rise (actor.Node n) age
node_event n (node_act.Switch p) = event.Switch n p

abbrev pub node_turn : NodeAct → ℕ → ExactNode → Turns ExactNode
node_turn node_act.Try n v = tries_station_in v v.phase
node_turn node_act.Kept n v = keeps_station_in v v.phase
node_turn node_act.Fall n v = node_falls_in v v.phase
node_turn (node_act.Rise age) n v = node_rises_in age v v.phase
node_turn (node_act.Switch p) n v = switches_in n p v v.phase

abbrev pub node_asks : NodeAct → Bool
node_asks node_act.Try = true
node_asks node_act.Kept = false
node_asks node_act.Fall = false
node_asks (node_act.Rise age) = true
node_asks (node_act.Switch p) = true

-- what a client does by itself; it asks for no memory
abbrev pub client_event : ℕ → ClientAct → Event
client_event c (client_act.Begin m x place) = event.Begin c m x.now place
client_event c client_act.Try = event.Try (actor.Client c)
client_event c client_act.Kept = event.Kept (actor.Client c)
client_event c client_act.Enter = event.Enter c
client_event c client_act.Leave = event.Leave c
client_event c client_act.Soften = event.Soften c
client_event c client_act.Fall = event.Fall (actor.Client c)
client_event c (client_act.Rise age) = event.Rise (actor.Client c) age

abbrev pub client_turn : ClientAct → ℕ → List Ballot → ExactClient → Turns ExactClient
client_turn (client_act.Begin m x place) c b k = begins_in b c m x.now place k k.phase
client_turn client_act.Try c b k = tries_attempt_in k k.phase
client_turn client_act.Kept c b k = keeps_attempt_in k k.phase
client_turn client_act.Enter c b k = enters_in b k k.phase
client_turn client_act.Leave c b k = leaves_in k k.phase
client_turn client_act.Soften c b k = softens_in k k.phase
client_turn client_act.Fall c b k = client_falls_in k k.phase
client_turn (client_act.Rise age) c b k = client_rises_in age k k.phase

-- the event of a turn
abbrev pub event_of : Turn → Event
event_of (doing.Node n act) = node_event n act
event_of (doing.Client c act) = client_event c act
event_of (doing.Tells c n) = event.SayTo c n
event_of (doing.Says n) = event.Say n
event_of (doing.Takes n number) = event.Take n number
event_of (doing.Hears c number) = event.Hear c number

-- the turn is not done: it is refused so, or memory was refused to one that asks for it
abbrev pub IsNotTurned : {P : Type 0} → Bool → Turns P → StepFault → Type 0
IsNotTurned asks turn f = (turn ≡ Err f) ⊎ ((f ≡ fault.Memory) × (asks ≡ true) × IsOk turn)

-- The call did the turn, with the actor's part before and after it: `part` says which part of the world
-- an actor is. A refusal changes nothing.
abbrev pub Turned : {A P : Type 0} → Bool → (A → P) → Turns P → A → Result Effect StepFault → A → Type 0
Turned asks part turn before (Ok done) after = turn ≡ acts (part after) done
Turned asks part turn before (Err f) after = IsNotTurned asks turn f × (after ≡ before)

-- a turn in which a message is read, once it is read: the one of the number, if there is one
abbrev pub read_turn : {P : Type 0} → Option Message → Turns P → Turns P
read_turn found (Err e) = Err e
read_turn found (Ok (Acts after effect)) = Ok (Acts after effect)
read_turn found (Ok (Speaks after says effect)) = Ok (Speaks after says effect)
read_turn None (Ok (Reads number is_mine after effect)) = Err fault.NoSuchMessage
read_turn (Some m) (Ok (Reads number is_mine after effect)) = if is_mine m then acts (after m) (effect m) else Err fault.NotAddressed

-- the list of messages, with so many in it, can't hold what is said; or memory was refused
abbrev pub IsKeptBack : {P : Type 0} → Turns P → ℕ → StepFault → Type 0
IsKeptBack turn count f =
    ((f ≡ fault.SentListFull) × (MAX_MESSAGES - count < length (turn_says turn)))
    ⊎ ((f ≡ fault.Memory) × (length (turn_says turn) ≤ MAX_MESSAGES - count))

-- The call did a turn in which something is said, and it was sent behind the messages sent before. A
-- refusal changes nothing.
abbrev pub Spoke : {A P : Type 0} → (A → P) → Turns P → List Message → A → Result Effect StepFault → A → List Message → Type 0
Spoke {A} {P} part turn sent before (Ok done) after new =
    (says : List Message) × (effect : ℕ → Effect) × (turn ≡ speaks (part after) says effect) × (length says ≤ MAX_MESSAGES - length sent)
    × (new ≡ sent ++ says) × (done ≡ effect (length sent + 1))
Spoke part turn sent before (Err f) after new = ((turn ≡ Err f) ⊎ (IsOk turn × IsKeptBack turn (length sent) f)) × (after ≡ before) × (new ≡ sent)

-- how many events a run took
abbrev pub taken_of : Result ℕ (ℕ × StepFault) → ℕ
taken_of (Ok k) = k
taken_of (Err r) = r.0
