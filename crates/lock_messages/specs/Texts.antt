-- How the vocabulary is written in scripts, journals and outputs.
use Rattle.std.specs.Prelude.{ℕ, List, ◌++◌, codes}
use Rattle.std.specs.Fmt.{decimal}
use Rattle.lock_messages.specs.declared.ids.Actor.{Actor}
use Rattle.lock_messages.specs.declared.ids.Actor.TheVariants.{Node, Client}
use Rattle.lock_messages.specs.declared.tickets.Mode.{Mode}
use Rattle.lock_messages.specs.declared.tickets.Mode.TheVariants.{Read, Write}
use Rattle.lock_messages.specs.declared.tickets.Ticket.{Ticket}
use Rattle.lock_messages.specs.declared.messages.Message.{Message}
use Rattle.lock_messages.specs.declared.messages.Message.TheVariants.{Request, Release, Grant, Busy, Over, Done, Muddled, Soften, Softened}

abbrev pub node_text : ℕ → List ℕ
node_text n = codes "n" ++ decimal n

abbrev pub client_text : ℕ → List ℕ
client_text c = codes "c" ++ decimal c

abbrev pub actor_text : Actor → List ℕ
actor_text (Node n) = node_text n
actor_text (Client c) = client_text c

abbrev pub mode_text : Mode → List ℕ
mode_text Read = codes "read"
mode_text Write = codes "write"

-- `c1 1 read a`
abbrev pub ticket_text : Ticket → List ℕ
ticket_text t = client_text t.client ++ codes " " ++ decimal t.attempt ++ codes " " ++ mode_text t.mode ++ codes " " ++ t.resource

-- `grant n1 c1 1 read a`
abbrev pub long_text : List ℕ → ℕ → Ticket → List ℕ
long_text kind n t = kind ++ codes " " ++ node_text n ++ codes " " ++ ticket_text t

-- `done n1 c1 1`
abbrev pub short_text : List ℕ → ℕ → ℕ → ℕ → List ℕ
short_text kind n c a = kind ++ codes " " ++ node_text n ++ codes " " ++ client_text c ++ codes " " ++ decimal a

abbrev pub message_text : Message → List ℕ
message_text (Request n t) = long_text (codes "request") n t
message_text (Release n c a) = short_text (codes "release") n c a
message_text (Grant n t) = long_text (codes "grant") n t
message_text (Busy n t) = long_text (codes "busy") n t
message_text (Over n c a) = short_text (codes "over") n c a
message_text (Done n c a) = short_text (codes "done") n c a
message_text (Muddled n c a) = short_text (codes "muddled") n c a
message_text (Soften n c a) = short_text (codes "soften") n c a
message_text (Softened n c a) = short_text (codes "softened") n c a
