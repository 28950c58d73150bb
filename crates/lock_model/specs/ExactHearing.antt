-- What a client makes of a message, exactly: a function of its ticket and granted set, or of the
-- attempt after which it rests.
use Rattle.std.specs.Prelude.{ℕ, ◌==◌, ◌&&◌, Bool, true, false, nat_le, if◌then◌else◌}
use Rattle.std.specs.Str.{bytes_eq}
use Rattle.lock_messages.specs.declared.tickets.Ticket.{Ticket}
use Rattle.lock_messages.specs.declared.messages.Message.{Message}
use Rattle.lock_messages.specs.declared.messages.Message.TheVariants as message
use Rattle.lock_model.specs.declared.hearing.Heard.{Heard}
use Rattle.lock_model.specs.declared.hearing.Heard.TheVariants.{Counted, Known, Busy, Done, Softened, NotMine}
use Rattle.lock_model.specs.ExactDecisions.{same_mode}

-- n is one of the nodes of a ballot that has so many
abbrev pub is_node_of : ℕ → ℕ → Bool
is_node_of nodes n = nat_le 1 n && nat_le n nodes

-- both tickets are one
abbrev pub same_ticket : Ticket → Ticket → Bool
same_ticket t u = (t.client == u.client) && ((t.attempt == u.attempt) && (same_mode t.mode u.mode && bytes_eq t.resource u.resource))

-- while a client asks with a ticket, or is inside with it; granted is the set of nodes whose Grant was counted
abbrev pub heard_of_ticket : ℕ → Ticket → (ℕ → Bool) → Message → Heard
heard_of_ticket nodes t granted (message.Grant n u) = if is_node_of nodes n && same_ticket u t then (if granted n then Known else Counted) else NotMine
heard_of_ticket nodes t granted (message.Busy n u) = if is_node_of nodes n && same_ticket u t then Busy else NotMine
heard_of_ticket nodes t granted (message.Request n u) = NotMine
heard_of_ticket nodes t granted (message.Release n c a) = NotMine
heard_of_ticket nodes t granted (message.Over n c a) = NotMine
heard_of_ticket nodes t granted (message.Done n c a) = NotMine
heard_of_ticket nodes t granted (message.Muddled n c a) = NotMine
heard_of_ticket nodes t granted (message.Soften n c a) = NotMine
heard_of_ticket nodes t granted (message.Softened n c a) = NotMine

-- while client c is inside, and has softened this attempt
abbrev pub heard_softened : ℕ → ℕ → ℕ → Message → Heard
heard_softened nodes c attempt (message.Softened n d a) = if is_node_of nodes n && ((d == c) && (a == attempt)) then Softened else NotMine
heard_softened nodes c attempt (message.Request n u) = NotMine
heard_softened nodes c attempt (message.Release n d a) = NotMine
heard_softened nodes c attempt (message.Grant n u) = NotMine
heard_softened nodes c attempt (message.Busy n u) = NotMine
heard_softened nodes c attempt (message.Over n d a) = NotMine
heard_softened nodes c attempt (message.Done n d a) = NotMine
heard_softened nodes c attempt (message.Muddled n d a) = NotMine
heard_softened nodes c attempt (message.Soften n d a) = NotMine

-- while client c rests, after this attempt (0 before the first)
abbrev pub heard_at_rest : ℕ → ℕ → ℕ → Message → Heard
heard_at_rest nodes c attempt (message.Done n d a) = if is_node_of nodes n && ((d == c) && (a == attempt)) then Done else NotMine
heard_at_rest nodes c attempt (message.Request n u) = NotMine
heard_at_rest nodes c attempt (message.Release n d a) = NotMine
heard_at_rest nodes c attempt (message.Grant n u) = NotMine
heard_at_rest nodes c attempt (message.Busy n u) = NotMine
heard_at_rest nodes c attempt (message.Over n d a) = NotMine
heard_at_rest nodes c attempt (message.Muddled n d a) = NotMine
heard_at_rest nodes c attempt (message.Soften n d a) = NotMine
heard_at_rest nodes c attempt (message.Softened n d a) = NotMine

-- whether the answer is that a vote was counted
abbrev pub is_counted : Heard → Bool
is_counted Counted = true
is_counted Known = false
is_counted Busy = false
is_counted Done = false
is_counted Softened = false
is_counted NotMine = false
