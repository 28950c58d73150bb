-- What a client makes of a message. A message that names another client, or a node that is none of those
-- it asks, is never its own. The nodes are numbered from 1, and there are so many of them.
use Rattle.std.specs.Prelude.{◌≡◌, ◌≢◌, ℕ, Bool, true, false}
use Rattle.lock_messages.specs.declared.tickets.Ticket.{Ticket}
use Rattle.lock_messages.specs.declared.messages.Message.{Message}
use Rattle.lock_messages.specs.declared.messages.Message.TheVariants as message
use Rattle.lock_model.specs.declared.hearing.Heard.{Heard}
use Rattle.lock_model.specs.declared.hearing.Heard.TheVariants.{Counted, Known, Busy, Done, Softened, NotMine}
use Rattle.lock_model.specs.Ballots.{IsNodeOf}

-- from some one of the nodes that passes the test
abbrev pub FromNode : ℕ → (ℕ → Type 0) → Type 0
FromNode nodes P = (n : ℕ) × IsNodeOf nodes n × P n

-- While a client asks with a ticket, or is inside with it. The granted set has the nodes whose Grant
-- was counted.
abbrev pub HearsOfTicket : ℕ → Ticket → (ℕ → Bool) → Message → Heard → Type 0
-- a Grant of the ticket, from a node outside the set
HearsOfTicket nodes t granted m Counted = FromNode nodes (λ n. (granted n ≡ false) × (m ≡ message.Grant n t))
-- the same, from a node in the set
HearsOfTicket nodes t granted m Known = FromNode nodes (λ n. (granted n ≡ true) × (m ≡ message.Grant n t))
-- a Busy of the ticket
HearsOfTicket nodes t granted m Busy = FromNode nodes (λ n. m ≡ message.Busy n t)
HearsOfTicket nodes t granted m Done = ⊥
HearsOfTicket nodes t granted m Softened = ⊥
-- everything else
HearsOfTicket nodes t granted m NotMine = (n : ℕ) → IsNodeOf nodes n → (m ≢ message.Grant n t) × (m ≢ message.Busy n t)

-- While a client is inside, and has softened this attempt. Nothing is counted any more.
abbrev pub HearsSoftened : ℕ → ℕ → ℕ → Message → Heard → Type 0
HearsSoftened nodes c attempt m Counted = ⊥
HearsSoftened nodes c attempt m Known = ⊥
HearsSoftened nodes c attempt m Busy = ⊥
HearsSoftened nodes c attempt m Done = ⊥
-- a Softened of the attempt
HearsSoftened nodes c attempt m Softened = FromNode nodes (λ n. m ≡ message.Softened n c attempt)
-- everything else
HearsSoftened nodes c attempt m NotMine = (n : ℕ) → IsNodeOf nodes n → m ≢ message.Softened n c attempt

-- While a client rests, after this attempt (0 before the first).
abbrev pub HearsAtRest : ℕ → ℕ → ℕ → Message → Heard → Type 0
HearsAtRest nodes c attempt m Counted = ⊥
HearsAtRest nodes c attempt m Known = ⊥
HearsAtRest nodes c attempt m Busy = ⊥
HearsAtRest nodes c attempt m Softened = ⊥
-- a Done of the attempt
HearsAtRest nodes c attempt m Done = FromNode nodes (λ n. m ≡ message.Done n c attempt)
-- everything else
HearsAtRest nodes c attempt m NotMine = (n : ℕ) → IsNodeOf nodes n → m ≢ message.Done n c attempt
