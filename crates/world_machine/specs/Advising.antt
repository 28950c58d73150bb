-- What has to happen next for a client to get in, said over the lists of actors.
use Rattle.std.specs.Prelude.{ℕ, ◌+◌, ◌==◌, ◌&&◌, Bool, not, List, [], ◌∷◌, Option, Some, None, if◌then◌else◌}
use Rattle.std.specs.List.{list_any, position}
use Rattle.std.specs.Option.{option_map}
use Rattle.lock_messages.specs.declared.messages.Message.{Message}
use Rattle.lock_messages.specs.declared.tickets.Ticket.{Ticket}
use Rattle.vote_weights.specs.Sets.{has_node}
use Rattle.world_actors.specs.Acting.{ActingNode, ActingClient}
use Rattle.world_actors.specs.Asking.{asked_in}
use Rattle.world_model.specs.declared.events.Event.TheVariants as event
use Rattle.world_model.specs.declared.ways.Move.{Move}
use Rattle.world_model.specs.declared.ways.Move.TheVariants.{Alone, Hand, HearFrom}
use Rattle.world_model.specs.declared.ways.Want.{Want}
use Rattle.world_model.specs.Advice.{found, alone, finishing, coming, blocks, going, resting, beginning, is_grant, is_up, is_client_up}
use Rattle.world_model.specs.ExactWorlds.{numbered}
use Rattle.world_model.specs.Forgetting.{node_of, client_of}

-- what is found by the first of a list by which something is
abbrev pub first_found : {A B : Type 0} → (A → Option B) → List A → Option B
first_found f [] = None
first_found f (x ∷ xs) = found (f x) (first_found f xs)

-- a chosen node finishes
abbrev pub finish_at : (ℕ → Bool) → ActingNode → Option Move
finish_at chosen v = if chosen v.number then alone (finishing v.number (node_of v.part)) else None

-- a client that stands in the way at a node goes
abbrev pub clear_at : Want → ActingNode → ActingClient → Option Move
clear_at a v k = if blocks a (coming (node_of v.part)) k.number then Some (going v.number k.number (resting k.number (client_of k.part))) else None

-- the first that stands in the way at a chosen node does
abbrev pub clear_node : (ℕ → Bool) → Want → List ActingClient → ActingNode → Option Move
clear_node chosen a ks v = if chosen v.number then first_found (clear_at a v) ks else None

-- a client that asks with this ticket, which these have granted, asks a chosen node or hears it
abbrev pub hear_or_ask : Want → ℕ → Bool → Move
hear_or_ask a n said = if said then HearFrom n else Hand a.client n

abbrev pub ask_node : (ℕ → Bool) → Want → List Message → Ticket → List ℕ → ActingNode → Option Move
ask_node chosen a sent t granted v =
    if chosen v.number then (if has_node granted v.number then None else Some (hear_or_ask a v.number (list_any (is_grant v.number t) sent))) else None

-- and enters once all have granted it
abbrev pub or_enters : Want → Option Move → Move
or_enters a None = Alone (event.Enter a.client)
or_enters a (Some mv) = mv

abbrev pub asks : (ℕ → Bool) → Want → List Message → List ActingNode → Option (Ticket × List ℕ) → Option Move
asks chosen a sent ns None = None
asks chosen a sent ns (Some p) = Some (or_enters a (first_found (ask_node chosen a sent p.0 p.1) ns))

-- the client that wants in goes on
abbrev pub own_at : (ℕ → Bool) → Want → List Message → List ActingNode → ActingClient → Option Move
own_at chosen a sent ns k = found (alone (beginning a (client_of k.part))) (asks chosen a sent ns (asked_in k.part.phase))

-- where it is one
abbrev pub own_if : (ℕ → Bool) → Want → List Message → List ActingNode → Option ActingClient → Option Move
own_if chosen a sent ns None = None
own_if chosen a sent ns (Some k) = own_at chosen a sent ns k

-- the chosen nodes finish, then who stands in the way goes, and then the client that wants in goes on
abbrev pub first_move : (ℕ → Bool) → Want → List Message → List ActingNode → List ActingClient → Option Move
first_move chosen a sent ns ks = found (first_found (finish_at chosen) ns) (found (first_found (clear_node chosen a ks) ns) (own_if chosen a sent ns (numbered ks a.client)))

-- a client that is down stands in the way at a node
abbrev pub is_held_by : Want → ActingNode → ActingClient → Bool
is_held_by a v k = blocks a (coming (node_of v.part)) k.number && not (is_client_up (client_of k.part).phase)

-- a node can be won
abbrev pub is_won : Want → List ActingClient → ActingNode → Bool
is_won a ks v = is_up (node_of v.part).phase && not (list_any (is_held_by a v) ks)

-- it is this one
abbrev pub wins : Want → List ActingClient → ℕ → ActingNode → Bool
wins a ks n v = (v.number == n) && is_won a ks v

-- the number of the first message that is the node's Grant of the ticket
abbrev pub number_of_grant : ℕ → Ticket → List Message → Option ℕ
number_of_grant n t sent = option_map (λ i. i + 1) (position (is_grant n t) sent)

-- the ticket with which a client asks, if it does
abbrev pub asking_in : Option (Ticket × List ℕ) → Option Ticket
asking_in None = None
asking_in (Some p) = Some p.0

abbrev pub asking_if : Option ActingClient → Option Ticket
asking_if None = None
asking_if (Some k) = asking_in (asked_in k.part.phase)

-- the number of the message that the client hears
abbrev pub grant_if : ℕ → Option Ticket → List Message → Option ℕ
grant_if n None sent = None
grant_if n (Some t) sent = number_of_grant n t sent
