-- What has to happen next for a client to get in, told by the world as it is: nothing has to be remembered
-- between one move and the next.
--
-- A set of nodes is chosen whose votes are to be won. Each of them first finishes what it is about. Then the
-- tickets of other clients that stand in the way at them go: their clients come to rest and say their releases.
-- Then the client itself begins, if it doesn't ask for the same already, asks each chosen node, hears its Grant,
-- and enters.
use Rattle.std.specs.Prelude.{ℕ, ◌==◌, ◌||◌, ◌&&◌, nat_lt, Bool, true, false, not, List, [], ◌∷◌, Option, Some, None, if◌then◌else◌}
use Rattle.std.specs.List.{range_with_len, list_any}
use Rattle.std.specs.Str.{bytes_eq}
use Rattle.lock_messages.specs.declared.ids.TheConstants.{MAX_ATTEMPT}
use Rattle.lock_messages.specs.declared.ids.Actor.TheVariants as actor
use Rattle.lock_messages.specs.declared.tickets.Ticket.{Ticket}
use Rattle.lock_messages.specs.declared.messages.Message.{Message}
use Rattle.lock_messages.specs.declared.messages.Message.TheVariants.{Request, Release, Grant, Busy, Over, Done, Muddled, Soften}
use Rattle.lock_messages.specs.declared.messages.Message.TheVariants as message
use Rattle.lock_model.specs.Ballots.{node_count}
use Rattle.lock_model.specs.Stations.{Claim, Free, Has, Station}
use Rattle.lock_model.specs.ExactStations.{is_write}
use Rattle.lock_model.specs.ExactDecisions.{same_mode}
use Rattle.lock_model.specs.ExactHearing.{same_ticket}
use Rattle.world_model.specs.declared.events.Age.TheVariants.{Old}
use Rattle.world_model.specs.declared.events.Event.{Event}
use Rattle.world_model.specs.declared.events.Event.TheVariants as event
use Rattle.world_model.specs.declared.ways.Move.{Move}
use Rattle.world_model.specs.declared.ways.Move.TheVariants.{Alone, Hand, HearFrom}
use Rattle.world_model.specs.declared.ways.Want.{Want}
use Rattle.world_model.specs.Worlds.{NodePhase, NodeDown, NodeIdle, Decided, Stored, Node, Present, present_mode, ClientPhase, ClientDown, ClientIdle, Chosen, Asking, IsIn, Client, World, Setting}

-- the first that is found, if one is
abbrev pub found : {A : Type 0} → Option A → Option A → Option A
found None rest = rest
found (Some a) rest = Some a

abbrev pub search : {A : Type 0} → (ℕ → Option A) → List ℕ → Option A
search f [] = None
search f (n ∷ ns) = found (f n) (search f ns)

-- the numbers of nodes and of clients
abbrev pub node_numbers : Setting → List ℕ
node_numbers s = range_with_len 1 (node_count s.ballots)

abbrev pub client_numbers : Setting → List ℕ
client_numbers s = range_with_len 1 s.clients

-- A node finishes what it is about.
abbrev pub finishing_in : ℕ → NodePhase → {A : Type 0} → Option A → Option Event
finishing_in n NodeDown tried = None
finishing_in n NodeIdle tried = None
finishing_in n (Decided s replies) None = Some (event.Try (actor.Node n))
finishing_in n (Decided s replies) (Some u) = Some (event.Kept (actor.Node n))
finishing_in n (Stored replies) tried = Some (event.Say n)

abbrev pub finishing : ℕ → Node → Option Event
finishing n v = finishing_in n v.phase v.tried

-- the station that the node will have once it has finished
abbrev pub coming_in : Station → NodePhase → Station
coming_in kept NodeDown = kept
coming_in kept NodeIdle = kept
coming_in kept (Decided s replies) = s
coming_in kept (Stored replies) = kept

abbrev pub coming : Node → Station
coming v = coming_in v.kept v.phase

-- a ticket with this claim stands in the way: it is for the resource, and one of the two is a writer's
abbrev pub is_in_way : Want → Claim → Bool
is_in_way a Free = false
is_in_way a (Has m x status) = (is_write a.mode || is_write m) && bytes_eq x a.resource

-- a ticket of another client stands in the way at the station
abbrev pub blocks : Want → Station → ℕ → Bool
blocks a s d = not (d == a.client) && is_in_way a (s.at d).claim

-- A client comes to rest: it finishes what it is keeping, and leaves.
abbrev pub resting_in : ℕ → ClientPhase → Option ℕ → Option Event
resting_in d ClientDown tried = None
resting_in d ClientIdle tried = None
resting_in d (Chosen t place) None = Some (event.Try (actor.Client d))
resting_in d (Chosen t place) (Some a) = Some (event.Kept (actor.Client d))
resting_in d (Asking p) tried = Some (event.Leave d)
resting_in d (IsIn p) tried = Some (event.Leave d)

abbrev pub resting : ℕ → Client → Option Event
resting d k = resting_in d k.phase k.tried

-- at rest it says its release to the node
abbrev pub going : ℕ → ℕ → Option Event → Move
going n d (Some e) = Alone e
going n d None = Hand d n

-- who asks with this ticket by the ballot of this place asks for what is wanted
abbrev pub is_wanted : Want → Ticket → ℕ → Bool
is_wanted a t place = same_mode t.mode a.mode && (bytes_eq t.resource a.resource && (place == a.place))

abbrev pub asks_for : Want → Present → Bool
asks_for a p = not p.softened && is_wanted a p.ticket p.place

-- who is inside with this attempt is inside as is wanted
abbrev pub is_inside_as : Want → Present → Bool
is_inside_as a p = same_mode (present_mode p) a.mode && (bytes_eq p.ticket.resource a.resource && (p.place == a.place))

-- The client that wants in comes to ask for it: what else it is about it gives up.
abbrev pub beginning_in : Want → ClientPhase → Option ℕ → Option Event
beginning_in a ClientDown tried = None
beginning_in a ClientIdle tried = Some (event.Begin a.client a.mode a.resource a.place)
beginning_in a (Chosen t place) None = Some (event.Try (actor.Client a.client))
beginning_in a (Chosen t place) (Some b) = Some (event.Kept (actor.Client a.client))
beginning_in a (Asking p) tried = if asks_for a p then None else Some (event.Leave a.client)
beginning_in a (IsIn p) tried = if is_inside_as a p then None else Some (event.Leave a.client)

abbrev pub beginning : Want → Client → Option Event
beginning a k = beginning_in a k.phase k.tried

-- Before that it has to be up, with an attempt left for what is wanted: it rises or, where the attempt that it has
-- chosen for something else is the greatest, loses that attempt by a fall.
abbrev pub coming_up : Want → ClientPhase → List Event
coming_up a ClientDown = event.Rise (actor.Client a.client) Old ∷ []
coming_up a ClientIdle = []
coming_up a (Chosen t place) = if is_wanted a t place || nat_lt t.attempt MAX_ATTEMPT then [] else event.Fall (actor.Client a.client) ∷ event.Rise (actor.Client a.client) Old ∷ []
coming_up a (Asking p) = []
coming_up a (IsIn p) = []

-- the message is the node's Grant of this ticket
abbrev pub is_grant : ℕ → Ticket → Message → Bool
is_grant n t (Grant k u) = (k == n) && same_ticket u t
is_grant n t (Request k u) = false
is_grant n t (Release k c a) = false
is_grant n t (Busy k u) = false
is_grant n t (Over k c a) = false
is_grant n t (Done k c a) = false
is_grant n t (Muddled k c a) = false
is_grant n t (Soften k c a) = false
is_grant n t (message.Softened k c a) = false

-- It asks a node that hasn't granted its ticket, or hears what that node has said.
abbrev pub asking_of : Want → Present → List Message → ℕ → Option Move
asking_of a p sent n = if p.granted n then None else Some (if list_any (is_grant n p.ticket) sent then HearFrom n else Hand a.client n)

-- once all have granted it, it enters
abbrev pub entering : Want → Option Move → Option Move
entering a None = Some (Alone (event.Enter a.client))
entering a (Some mv) = Some mv

-- among the chosen ones only
abbrev pub only : {A : Type 0} → (ℕ → Bool) → (ℕ → Option A) → ℕ → Option A
only chosen f n = if chosen n then f n else None

abbrev pub alone : Option Event → Option Move
alone None = None
alone (Some e) = Some (Alone e)

-- a chosen node finishes
abbrev pub finish_move : Setting → (ℕ → Bool) → World → Option Move
finish_move s chosen w = search (only chosen (λ n. alone (finishing n (w.nodes n)))) (node_numbers s)

-- who stands in the way at a chosen node goes
abbrev pub clear_at : Want → World → ℕ → ℕ → Option Move
clear_at a w n d = if blocks a (coming (w.nodes n)) d then Some (going n d (resting d (w.clients d))) else None

abbrev pub clear_move : Setting → (ℕ → Bool) → Want → World → Option Move
clear_move s chosen a w = search (only chosen (λ n. search (clear_at a w n) (client_numbers s))) (node_numbers s)

-- the client itself goes on; inside as it wants to be it has nothing to do
abbrev pub own_in : Setting → (ℕ → Bool) → Want → World → ClientPhase → Option Move
own_in s chosen a w ClientDown = None
own_in s chosen a w ClientIdle = None
own_in s chosen a w (Chosen t place) = None
own_in s chosen a w (Asking p) = entering a (search (only chosen (asking_of a p w.sent)) (node_numbers s))
own_in s chosen a w (IsIn p) = None

abbrev pub own_move : Setting → (ℕ → Bool) → Want → World → Option Move
own_move s chosen a w = found (alone (beginning a (w.clients a.client))) (own_in s chosen a w (w.clients a.client).phase)

-- the next move, if there is one
-- You need not believe this to believe the law: it is the way that the proof takes, and the body of World::way_in.
-- No clause speaks of it.
abbrev pub next_move : Setting → (ℕ → Bool) → Want → World → Option Move
next_move s chosen a w = found (finish_move s chosen w) (found (clear_move s chosen a w) (own_move s chosen a w))

-- A node can be won: it is up, and so is each other client whose ticket stands in the way there.
abbrev pub is_up : NodePhase → Bool
is_up NodeDown = false
is_up NodeIdle = true
is_up (Decided s replies) = true
is_up (Stored replies) = true

abbrev pub is_client_up : ClientPhase → Bool
is_client_up ClientDown = false
is_client_up ClientIdle = true
is_client_up (Chosen t place) = true
is_client_up (Asking p) = true
is_client_up (IsIn p) = true

-- a client whose ticket stands in the way at the station is down
abbrev pub is_held : Want → World → Station → ℕ → Bool
is_held a w s d = blocks a s d && not (is_client_up (w.clients d).phase)

abbrev pub can_be_won : Setting → Want → World → ℕ → Bool
can_be_won s a w n = is_up (w.nodes n).phase && not (list_any (is_held a w (coming (w.nodes n))) (client_numbers s))
