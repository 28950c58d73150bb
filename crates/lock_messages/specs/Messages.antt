-- Which messages there are, and to whom one is sent.
use Rattle.std.specs.Prelude.{ℕ, ◌==◌, Bool, false}
use Rattle.lock_messages.specs.declared.ids.Actor.{Actor}
use Rattle.lock_messages.specs.declared.ids.Actor.TheVariants.{Node, Client}
use Rattle.lock_messages.specs.declared.tickets.Ticket.{Ticket}
use Rattle.lock_messages.specs.declared.messages.Message.{Message}
use Rattle.lock_messages.specs.declared.messages.Message.TheVariants.{Request, Release, Grant, Busy, Over, Done, Muddled, Soften, Softened}
use Rattle.lock_messages.specs.Ids.{IsNode, IsClient, IsAttempt}
use Rattle.lock_messages.specs.Names.{IsName}

-- each part of the ticket is in its range
pub record IsTicket (t : Ticket) : Type 0 where
  pub client : IsClient t.client
  pub attempt : IsAttempt t.attempt
  pub resource : IsName t.resource

-- each part of the message is in its range
abbrev pub IsMessage : Message → Type 0
IsMessage (Request n t) = IsNode n × IsTicket t
IsMessage (Release n c a) = IsNode n × IsClient c × IsAttempt a
IsMessage (Grant n t) = IsNode n × IsTicket t
IsMessage (Busy n t) = IsNode n × IsTicket t
IsMessage (Over n c a) = IsNode n × IsClient c × IsAttempt a
IsMessage (Done n c a) = IsNode n × IsClient c × IsAttempt a
IsMessage (Muddled n c a) = IsNode n × IsClient c × IsAttempt a
IsMessage (Soften n c a) = IsNode n × IsClient c × IsAttempt a
IsMessage (Softened n c a) = IsNode n × IsClient c × IsAttempt a

-- a request, a release or a softening, to the node that it names
abbrev pub is_for_node : Message → ℕ → Bool
is_for_node (Request n t) node = n == node
is_for_node (Release n c a) node = n == node
is_for_node (Grant n t) node = false
is_for_node (Busy n t) node = false
is_for_node (Over n c a) node = false
is_for_node (Done n c a) node = false
is_for_node (Muddled n c a) node = false
is_for_node (Soften n c a) node = n == node
is_for_node (Softened n c a) node = false

-- any other message, to the client that it names
abbrev pub is_for_client : Message → ℕ → Bool
is_for_client (Request n t) client = false
is_for_client (Release n c a) client = false
is_for_client (Grant n t) client = t.client == client
is_for_client (Busy n t) client = t.client == client
is_for_client (Over n c a) client = c == client
is_for_client (Done n c a) client = c == client
is_for_client (Muddled n c a) client = c == client
is_for_client (Soften n c a) client = false
is_for_client (Softened n c a) client = c == client

-- the message is for the actor
abbrev pub is_for : Actor → Message → Bool
is_for (Node n) m = is_for_node m n
is_for (Client c) m = is_for_client m c

-- the node that a message names
abbrev pub named_node : Message → ℕ
named_node (Request n t) = n
named_node (Release n c a) = n
named_node (Grant n t) = n
named_node (Busy n t) = n
named_node (Over n c a) = n
named_node (Done n c a) = n
named_node (Muddled n c a) = n
named_node (Soften n c a) = n
named_node (Softened n c a) = n

-- the actor to which a message goes
abbrev pub addressee : Message → Actor
addressee (Request n t) = Node n
addressee (Release n c a) = Node n
addressee (Grant n t) = Client t.client
addressee (Busy n t) = Client t.client
addressee (Over n c a) = Client c
addressee (Done n c a) = Client c
addressee (Muddled n c a) = Client c
addressee (Soften n c a) = Node n
addressee (Softened n c a) = Client c
