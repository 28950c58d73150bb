-- How far it still is: each move makes this less.
use Rattle.std.proofs.Common.{ℕ, ◌+◌, ◌==◌, Bool, false, if◌then◌else◌, List, Option, None, Some}
use Rattle.std.specs.List.{list_any}
use Rattle.lock_messages.specs.declared.tickets.Ticket.{Ticket}
use Rattle.lock_messages.specs.declared.messages.Message.{Message}
use Rattle.lock_model.specs.Stations.{Station}
use Rattle.world_model.specs.Worlds.{NodePhase, NodeDown, NodeIdle, Decided, Stored, Node, ClientPhase, ClientDown, ClientIdle, Chosen, Asking, IsIn, Client, World, Setting}
use Rattle.world_model.specs.declared.ways.Want.{Want}
use Rattle.world_model.specs.ExactWays.{total_over}
use Rattle.world_model.specs.Advice.{coming, blocks, is_wanted, asks_for, is_inside_as, is_grant, node_numbers, client_numbers}

-- to finish, a node has this many events
abbrev pub finish_cost : {A : Type 0} → NodePhase → Option A → ℕ
finish_cost NodeDown tried = 0
finish_cost NodeIdle tried = 0
finish_cost (Decided s replies) None = 3
finish_cost (Decided s replies) (Some u) = 2
finish_cost (Stored replies) tried = 1

-- to clear one ticket that stands in the way: it is handed in, and the node finishes
abbrev pub block_cost : Want → Station → ℕ → ℕ
block_cost a s d = if blocks a s d then 4 else 0

-- the Grant is among what the node will say
abbrev pub promises : ℕ → Ticket → NodePhase → Bool
promises n t NodeDown = false
promises n t NodeIdle = false
promises n t (Decided s replies) = list_any (is_grant n t) replies
promises n t (Stored replies) = list_any (is_grant n t) replies

-- to win one node's vote
abbrev pub vote_cost : ℕ → Ticket → List Message → NodePhase → ℕ
vote_cost n t sent phase = if list_any (is_grant n t) sent then 1 else (if promises n t phase then 2 else 7)

abbrev pub ask_cost : Want → ClientPhase → List Message → ℕ → NodePhase → ℕ
ask_cost a ClientDown sent n phase = 7
ask_cost a ClientIdle sent n phase = 7
ask_cost a (Chosen t place) sent n phase = 7
ask_cost a (Asking p) sent n phase = if asks_for a p then (if p.granted n then 0 else vote_cost n p.ticket sent phase) else 7
ask_cost a (IsIn p) sent n phase = if is_inside_as a p then 0 else 7

-- all that a node costs
abbrev pub node_cost : Setting → Want → ClientPhase → List Message → ℕ → Node → ℕ
node_cost s a phase sent n v = finish_cost v.phase v.tried + (total_over (block_cost a (coming v)) (client_numbers s) + ask_cost a phase sent n v.phase)

-- another client comes to rest
abbrev pub rest_cost : {A : Type 0} → ClientPhase → Option A → ℕ
rest_cost ClientDown tried = 0
rest_cost ClientIdle tried = 0
rest_cost (Chosen t place) None = 3
rest_cost (Chosen t place) (Some b) = 2
rest_cost (Asking p) tried = 1
rest_cost (IsIn p) tried = 1

-- the client itself comes to be inside
abbrev pub own_cost : Want → {A : Type 0} → ClientPhase → Option A → ℕ
own_cost a ClientDown tried = 9
own_cost a ClientIdle tried = 4
own_cost a (Chosen t place) None = if is_wanted a t place then 3 else 7
own_cost a (Chosen t place) (Some b) = if is_wanted a t place then 2 else 6
own_cost a (Asking p) tried = if asks_for a p then 1 else 5
own_cost a (IsIn p) tried = if is_inside_as a p then 0 else 5

abbrev pub client_cost : Want → ℕ → Client → ℕ
client_cost a d k = if d == a.client then own_cost a k.phase k.tried else rest_cost k.phase k.tried

-- all that it costs from here
abbrev pub cost : Setting → (ℕ → Bool) → Want → World → ℕ
cost s chosen a w =
    total_over (λ n. if chosen n then node_cost s a (w.clients a.client).phase w.sent n (w.nodes n) else 0) (node_numbers s)
    + total_over (λ d. client_cost a d (w.clients d)) (client_numbers s)
