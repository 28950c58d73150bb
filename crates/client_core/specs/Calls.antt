-- What each call makes of a client, and what it answers.
use Rattle.std.specs.Prelude.{◌≡◌, ℕ, ◌+◌, ◌==◌, Bool, true, false, ◌||◌, List, [], Option, Some, None, Result, Ok, Err, nat_lt, if◌then◌else◌, ◌⊎◌}
use Rattle.lock_messages.specs.declared.ids.TheConstants.{MAX_ATTEMPT}
use Rattle.lock_messages.specs.declared.tickets.Mode.{Mode}
use Rattle.lock_messages.specs.declared.tickets.Mode.TheVariants.{Write}
use Rattle.lock_messages.specs.declared.tickets.Ticket.{Ticket}
use Rattle.lock_messages.specs.declared.messages.Message.{Message}
use Rattle.lock_messages.specs.declared.messages.Message.TheVariants as message
use Rattle.lock_messages.specs.Messages.{named_node}
use Rattle.lock_model.specs.declared.hearing.Heard.{Heard}
use Rattle.lock_model.specs.declared.hearing.Heard.TheVariants as heard
use Rattle.lock_model.specs.Ballots.{Ballot, HasNode, HasAnyNode, has_place, ballot_at, node_count}
use Rattle.lock_model.specs.Hearing.{HearsOfTicket, HearsSoftened, HearsAtRest}
use Rattle.lock_model.specs.ExactHearing.{is_node_of, heard_of_ticket, heard_softened, heard_at_rest, is_counted}
use Rattle.vote_weights.specs.Sets.{has_node, with_node}
use Rattle.client_core.specs.declared.faults.ClientFault.{ClientFault}
use Rattle.client_core.specs.declared.faults.ClientFault.TheVariants.{NotIdle, AttemptsSpent, NoSuchPlace}
use Rattle.client_core.specs.declared.phases.Phase.TheVariants as phase
use Rattle.client_core.specs.declared.phases.Present.{Present}
use Rattle.client_core.specs.declared.phases.State.{State}
use Rattle.client_core.specs.declared.phases.State.TheVariants.{Idle, Chosen, Asking, Inside}
use Rattle.client_core.specs.Clients.{Client, client_of, phase_of, HasEnough}

-- a client at rest, after this attempt (0 before the first)
abbrev pub at_rest : ℕ → List Ballot → ℕ → Client
at_rest client ballots attempt = client_of client ballots attempt Idle

-- the client in another state
abbrev pub in_state : Client → State → Client
in_state c state = client_of c.client c.ballots c.attempt state

-- `begin`

-- the ticket of the client's next attempt
abbrev pub next_ticket : Client → List ℕ → Mode → Ticket
next_ticket c resource mode = record { client = c.client; attempt = c.attempt + 1; mode = mode; resource = resource }

-- the client with the next attempt chosen, by this place's ballot
abbrev pub begun : Client → List ℕ → Mode → ℕ → Client
begun c resource mode place = client_of c.client c.ballots (c.attempt + 1) (Chosen (next_ticket c resource mode) place)

-- why the next attempt can't begin, or its number: attempts may be spent, and else the place has to be there
abbrev pub number_if_placed : List Ballot → ℕ → ℕ → Result ℕ ClientFault
number_if_placed ballots place attempt = if has_place ballots place then Ok (attempt + 1) else Err NoSuchPlace

abbrev pub number_if_left : List Ballot → ℕ → ℕ → Result ℕ ClientFault
number_if_left ballots place attempt = if nat_lt attempt MAX_ATTEMPT then number_if_placed ballots place attempt else Err AttemptsSpent

abbrev pub begin_answer_in : State → List Ballot → ℕ → ℕ → Result ℕ ClientFault
begin_answer_in Idle ballots place attempt = number_if_left ballots place attempt
begin_answer_in (Chosen t chosen) ballots place attempt = Err NotIdle
begin_answer_in (Asking p) ballots place attempt = Err NotIdle
begin_answer_in (Inside p) ballots place attempt = Err NotIdle

abbrev pub begin_answer : Client → ℕ → Result ℕ ClientFault
begin_answer c place = begin_answer_in c.state c.ballots place c.attempt

-- `kept`, `enter`, `soften` and `leave`

-- an attempt as it begins to ask: nothing is granted or skipped
abbrev pub first_of : Ticket → ℕ → Present
first_of t place = record { ticket = t; place = place; granted = []; skipped = []; softened = false }

abbrev pub asks_in : State → State
asks_in Idle = Idle
asks_in (Chosen t place) = Asking (first_of t place)
asks_in (Asking p) = Asking p
asks_in (Inside p) = Inside p

-- a chosen ticket is asked with
abbrev pub asking : Client → Client
asking c = in_state c (asks_in c.state)

abbrev pub enters_in : State → State
enters_in Idle = Idle
enters_in (Chosen t place) = Chosen t place
enters_in (Asking p) = Inside p
enters_in (Inside p) = Inside p

-- a client that asks is inside, with the same ticket, place and sets
abbrev pub entered : Client → Client
entered c = in_state c (enters_in c.state)

-- a client that asks has enough votes to enter, by its attempt's ballot
abbrev pub MayEnterIn : List Ballot → State → Type 0
MayEnterIn ballots Idle = ⊥
MayEnterIn ballots (Chosen t place) = ⊥
MayEnterIn ballots (Asking p) = HasEnough ballots p
MayEnterIn ballots (Inside p) = ⊥

abbrev pub MayEnter : Client → Type 0
MayEnter c = MayEnterIn c.ballots c.state

-- the attempt is a writer's: it was asked for by one, and isn't softened
pub record IsWriters (p : Present) : Type 0 where
  pub mode : p.ticket.mode ≡ Write
  pub unsoftened : p.softened ≡ false

-- a client that is inside as a writer may soften
abbrev pub MaySoftenIn : State → Type 0
MaySoftenIn Idle = ⊥
MaySoftenIn (Chosen t place) = ⊥
MaySoftenIn (Asking p) = ⊥
MaySoftenIn (Inside p) = IsWriters p

abbrev pub MaySoften : Client → Type 0
MaySoften c = MaySoftenIn c.state

-- the same attempt, softened
abbrev pub soft : Present → Present
soft p = record p { softened = true }

abbrev pub softens_in : State → State
softens_in Idle = Idle
softens_in (Chosen t place) = Chosen t place
softens_in (Asking p) = Asking p
softens_in (Inside p) = Inside (soft p)

-- A client that was inside as a writer is inside as a reader, with the same votes, which aren't counted anew.
abbrev pub softened : Client → Client
softened c = in_state c (softens_in c.state)

-- a client that asks or is inside may leave
abbrev pub MayLeave : Client → Type 0
MayLeave c = (phase_of c ≡ phase.Asking) ⊎ (phase_of c ≡ phase.Inside)

-- it rests, after the same attempt
abbrev pub left : Client → Client
left c = in_state c Idle

-- `message_for`

-- the release of an attempt
abbrev pub release_of : ℕ → ℕ → ℕ → Option Message
release_of n client attempt = if attempt == 0 then None else Some (message.Release n client attempt)

-- inside, the request of the ticket or, once it is softened, that
abbrev pub said_inside : ℕ → ℕ → Present → Message
said_inside client n p = if p.softened then message.Soften n client p.ticket.attempt else message.Request n p.ticket

abbrev pub message_in : ℕ → ℕ → ℕ → State → Option Message
message_in n client attempt Idle = release_of n client attempt
message_in n client attempt (Chosen t place) = None
message_in n client attempt (Asking p) = Some (message.Request n p.ticket)
message_in n client attempt (Inside p) = Some (said_inside client n p)

-- what the client has to say to the node
abbrev pub message_for : Client → ℕ → Option Message
message_for c n = if is_node_of (node_count c.ballots) n then message_in n c.client c.attempt c.state else None

-- each node of the list is told that the attempt is over
abbrev pub ReleasesAll : Client → ℕ → Type 0
ReleasesAll c attempt = (n : ℕ) → HasAnyNode c.ballots n → message_for c n ≡ Some (message.Release n c.client attempt)

-- each node of the list is told that the attempt is softened
abbrev pub SoftensAll : Client → ℕ → Type 0
SoftensAll c attempt = (n : ℕ) → HasAnyNode c.ballots n → message_for c n ≡ Some (message.Soften n c.client attempt)

-- `hear`

-- inside: once it has softened nothing counts
abbrev pub heard_inside : ℕ → ℕ → Present → Message → Heard
heard_inside nodes client p m = if p.softened then heard_softened nodes client p.ticket.attempt m else heard_of_ticket nodes p.ticket (has_node p.granted) m

abbrev pub heard_in : ℕ → ℕ → ℕ → State → Message → Heard
heard_in nodes client attempt Idle m = heard_at_rest nodes client attempt m
heard_in nodes client attempt (Chosen t place) m = heard.NotMine
heard_in nodes client attempt (Asking p) m = heard_of_ticket nodes p.ticket (has_node p.granted) m
heard_in nodes client attempt (Inside p) m = heard_inside nodes client p m

-- what the client makes of the message
abbrev pub heard_by : Client → Message → Heard
heard_by c m = heard_in (node_count c.ballots) c.client c.attempt c.state m

-- the same attempt with the node's Grant counted
abbrev pub with_vote : ℕ → Present → Present
with_vote n p = record p { granted = with_node p.granted n }

abbrev pub counts_in : ℕ → State → State
counts_in n Idle = Idle
counts_in n (Chosen t place) = Chosen t place
counts_in n (Asking p) = Asking (with_vote n p)
counts_in n (Inside p) = Inside (with_vote n p)

-- the client with the node's Grant counted
abbrev pub counted : Client → ℕ → Client
counted c n = in_state c (counts_in n c.state)

-- the one set has the nodes of the other, and this one
abbrev pub AddsNode : List ℕ → ℕ → List ℕ → Type 0
AddsNode before n after = (m : ℕ) → has_node after m ≡ ((n == m) || has_node before m)

-- counting the node's Grant adds it to the granted set, where there is one
abbrev pub AddsVote : State → ℕ → Type 0
AddsVote Idle n = Unit {0}
AddsVote (Chosen t place) n = Unit {0}
AddsVote (Asking p) n = AddsNode p.granted n (with_node p.granted n)
AddsVote (Inside p) n = AddsNode p.granted n (with_node p.granted n)

-- what hearing leaves: a Grant that counts puts its node into the granted set, and nothing else changes
abbrev pub after_hearing : Client → Message → Client
after_hearing c m = if is_counted (heard_by c m) then counted c (named_node m) else c

abbrev pub HearsInsideIf : Bool → ℕ → ℕ → Present → Message → Heard → Type 0
HearsInsideIf true nodes client p m h = HearsSoftened nodes client p.ticket.attempt m h
HearsInsideIf false nodes client p m h = HearsOfTicket nodes p.ticket (has_node p.granted) m h

abbrev pub HearsInside : ℕ → ℕ → Present → Message → Heard → Type 0
HearsInside nodes client p m h = HearsInsideIf p.softened nodes client p m h

abbrev pub HearsIn : List Ballot → ℕ → ℕ → State → Message → Heard → Type 0
HearsIn ballots client attempt Idle m h = HearsAtRest (node_count ballots) client attempt m h
HearsIn ballots client attempt (Chosen t place) m h = h ≡ heard.NotMine
HearsIn ballots client attempt (Asking p) m h = HearsOfTicket (node_count ballots) p.ticket (has_node p.granted) m h
HearsIn ballots client attempt (Inside p) m h = HearsInside (node_count ballots) client p m h

-- the answer is the one that the message has for the client
abbrev pub Hears : Client → Message → Heard → Type 0
Hears c m h = HearsIn c.ballots c.client c.attempt c.state m h

-- `next_ask` and `skip`

-- a node that neither gave its vote nor was skipped
pub record IsOpenTo (b : Ballot) (granted skipped : List ℕ) (n : ℕ) : Type 0 where
  pub node : HasNode b n
  pub not_granted : has_node granted n ≡ false
  pub not_skipped : has_node skipped n ≡ false

abbrev pub IsOpenIn : List Ballot → State → ℕ → Type 0
IsOpenIn ballots Idle n = ⊥
IsOpenIn ballots (Chosen t place) n = ⊥
IsOpenIn ballots (Asking p) n = IsOpenTo (ballot_at ballots p.place) p.granted p.skipped n
IsOpenIn ballots (Inside p) n = ⊥

-- a node of its attempt's ballot that the client can still ask
abbrev pub IsOpen : Client → ℕ → Type 0
IsOpen c n = IsOpenIn c.ballots c.state n

-- the same attempt with the node skipped
abbrev pub without : ℕ → Present → Present
without n p = record p { skipped = with_node p.skipped n }

abbrev pub skips_in : ℕ → State → State
skips_in n Idle = Idle
skips_in n (Chosen t place) = Chosen t place
skips_in n (Asking p) = Asking (without n p)
skips_in n (Inside p) = Inside p

-- while it asks, the client with the node skipped
abbrev pub skipping : Client → ℕ → Client
skipping c n = in_state c (skips_in n c.state)
