-- A client's turns, each by the phase that it is in.
use Rattle.std.specs.Prelude.{ℕ, ◌+◌, ◌==◌, ◌&&◌, Bool, true, false, not, nat_le, nat_lt, List, [], ◌∷◌, Option, Some, None, Err, if◌then◌else◌}
use Rattle.lock_messages.specs.declared.ids.TheConstants.{MAX_ATTEMPT}
use Rattle.lock_messages.specs.declared.tickets.Mode.{Mode}
use Rattle.lock_messages.specs.declared.tickets.Ticket.{Ticket}
use Rattle.lock_messages.specs.declared.messages.Message.{Message}
use Rattle.lock_messages.specs.declared.messages.Message.TheVariants as message
use Rattle.lock_messages.specs.Messages.{is_for_client, named_node}
use Rattle.lock_model.specs.declared.hearing.Heard.{Heard}
use Rattle.lock_model.specs.declared.hearing.Heard.TheVariants as heard
use Rattle.lock_model.specs.Ballots.{Ballot, needed, votes_of, ballot_at, has_place, node_count}
use Rattle.lock_model.specs.ExactHearing.{is_node_of, heard_of_ticket, heard_softened, heard_at_rest, is_counted}
use Rattle.lock_model.specs.ExactStations.{is_write}
use Rattle.vote_weights.specs.Sets.{has_node, with_node}
use Rattle.world_model.specs.declared.events.Age.{Age}
use Rattle.world_model.specs.declared.events.Age.TheVariants.{Old, New}
use Rattle.world_model.specs.declared.events.Effect.TheVariants as effect
use Rattle.world_model.specs.declared.events.StepFault.TheVariants as fault
use Rattle.world_model.specs.declared.exact.ExactClient.{ExactClient}
use Rattle.world_model.specs.declared.exact.ExactPresent.{ExactPresent}
use Rattle.world_model.specs.declared.exact.ExactClientPhase.{ExactClientPhase}
use Rattle.world_model.specs.declared.exact.ExactClientPhase.TheVariants.{Down, Idle, Chosen, Asking, Inside}
use Rattle.world_model.specs.Turns.{Turns, acts, speaks, reads}

-- the client in another phase
abbrev pub client_in : ExactClient → ExactClientPhase → ExactClient
client_in k phase = record { kept = k.kept; tried = k.tried; phase = phase }

-- Begin: the next attempt, where there is one

abbrev pub next_ticket : ℕ → Mode → List ℕ → ℕ → Ticket
next_ticket c m x kept = record { client = c; attempt = kept + 1; mode = m; resource = x }

-- by the ballot of a place, which has to be there
abbrev pub begins_by : List Ballot → ℕ → Turns ExactClient → Turns ExactClient
begins_by b place turn = if has_place b place then turn else Err fault.NoSuchPlace

abbrev pub begins_in : List Ballot → ℕ → Mode → List ℕ → ℕ → ExactClient → ExactClientPhase → Turns ExactClient
begins_in b c m x place k Down = Err fault.Down
begins_in b c m x place k Idle =
    if nat_lt k.kept MAX_ATTEMPT
    then begins_by b place (acts (client_in k (Chosen (next_ticket c m x k.kept) place)) (effect.Chose (k.kept + 1)))
    else Err fault.AttemptsSpent
begins_in b c m x place k (Chosen t chosen) = Err fault.WrongPhase
begins_in b c m x place k (Asking p) = Err fault.WrongPhase
begins_in b c m x place k (Inside p) = Err fault.WrongPhase

-- Try: a chosen attempt, with nothing tried, is tried

abbrev pub tries_attempt_with : ExactClient → Ticket → Option ℕ → Turns ExactClient
tries_attempt_with k t None = acts (record { kept = k.kept; tried = Some t.attempt; phase = k.phase }) effect.Tried
tries_attempt_with k t (Some a) = Err fault.WrongPhase

abbrev pub tries_attempt_in : ExactClient → ExactClientPhase → Turns ExactClient
tries_attempt_in k Down = Err fault.Down
tries_attempt_in k Idle = Err fault.WrongPhase
tries_attempt_in k (Chosen t place) = tries_attempt_with k t k.tried
tries_attempt_in k (Asking p) = Err fault.WrongPhase
tries_attempt_in k (Inside p) = Err fault.WrongPhase

-- Kept: the tried attempt is the kept one, and the client asks with its ticket

-- a ticket and a place with which the client begins to ask, and no node has granted it
abbrev pub first_of : Ticket → ℕ → ExactPresent
first_of t place = record { ticket = t; place = place; granted = []; softened = false }

abbrev pub keeps_attempt_with : Ticket → ℕ → Option ℕ → Turns ExactClient
keeps_attempt_with t place None = Err fault.NothingTried
keeps_attempt_with t place (Some a) = acts (record { kept = a; tried = None; phase = Asking (first_of t place) }) effect.Kept

abbrev pub keeps_attempt_in : ExactClient → ExactClientPhase → Turns ExactClient
keeps_attempt_in k Down = Err fault.Down
keeps_attempt_in k Idle = Err fault.WrongPhase
keeps_attempt_in k (Chosen t place) = keeps_attempt_with t place k.tried
keeps_attempt_in k (Asking p) = Err fault.WrongPhase
keeps_attempt_in k (Inside p) = Err fault.WrongPhase

-- SayTo: to a node of one of the ballots, the request of the ticket or, once it is softened, that; or at rest
-- the release of the attempt

abbrev pub says_one : ExactClient → Message → Turns ExactClient
says_one k m = speaks k (m ∷ []) (λ first. effect.Sent first m)

-- what a client that is inside has to say to a node
abbrev pub said_inside : ℕ → ℕ → ExactPresent → Message
said_inside c n p = if p.softened then message.Soften n c p.ticket.attempt else message.Request n p.ticket

abbrev pub tells_in : ℕ → ℕ → ExactClient → ExactClientPhase → Turns ExactClient
tells_in c n k Down = Err fault.Down
tells_in c n k Idle = if k.kept == 0 then Err fault.NothingToSay else says_one k (message.Release n c k.kept)
tells_in c n k (Chosen t place) = Err fault.NotStored
tells_in c n k (Asking p) = says_one k (message.Request n p.ticket)
tells_in c n k (Inside p) = says_one k (said_inside c n p)

abbrev pub tells : List Ballot → ℕ → ℕ → ExactClient → Turns ExactClient
tells b c n k = if is_node_of (node_count b) n then tells_in c n k k.phase else Err fault.UnknownActor

-- Hear: a vote that counts is put into the set; nothing else changes the client, and once it has softened
-- nothing counts

abbrev pub heard_inside : ℕ → ℕ → ExactPresent → Message → Heard
heard_inside nodes c p m = if p.softened then heard_softened nodes c p.ticket.attempt m else heard_of_ticket nodes p.ticket (has_node p.granted) m

abbrev pub heard_in : ℕ → ℕ → ℕ → ExactClientPhase → Message → Heard
heard_in nodes c kept Down m = heard.NotMine
heard_in nodes c kept Idle m = heard_at_rest nodes c kept m
heard_in nodes c kept (Chosen t place) m = heard.NotMine
heard_in nodes c kept (Asking p) m = heard_of_ticket nodes p.ticket (has_node p.granted) m
heard_in nodes c kept (Inside p) m = heard_inside nodes c p m

abbrev pub with_vote : ℕ → ExactPresent → ExactPresent
with_vote n p = record p { granted = with_node p.granted n }

abbrev pub counts_in : ℕ → ExactClientPhase → ExactClientPhase
counts_in n Down = Down
counts_in n Idle = Idle
counts_in n (Chosen t place) = Chosen t place
counts_in n (Asking p) = Asking (with_vote n p)
counts_in n (Inside p) = Inside (with_vote n p)

abbrev pub after_hearing : ℕ → ℕ → ExactClient → Message → ExactClient
after_hearing nodes c k m = if is_counted (heard_in nodes c k.kept k.phase m) then client_in k (counts_in (named_node m) k.phase) else k

abbrev pub is_down : ExactClientPhase → Bool
is_down Down = true
is_down Idle = false
is_down (Chosen t place) = false
is_down (Asking p) = false
is_down (Inside p) = false

abbrev pub hears : ℕ → ℕ → ℕ → ExactClient → Turns ExactClient
hears nodes c number k =
    if is_down k.phase then Err fault.Down
    else reads number (λ m. is_for_client m c) (after_hearing nodes c k) (λ m. effect.Heard m (heard_in nodes c k.kept k.phase m))

-- Enter: a client that asks, once its votes are enough by the ballot of its attempt

abbrev pub enters_in : List Ballot → ExactClient → ExactClientPhase → Turns ExactClient
enters_in b k Down = Err fault.Down
enters_in b k Idle = Err fault.WrongPhase
enters_in b k (Chosen t place) = Err fault.WrongPhase
enters_in b k (Asking p) =
    if nat_le (needed (ballot_at b p.place) p.ticket.mode) (votes_of (ballot_at b p.place) (has_node p.granted)) then acts (client_in k (Inside p)) effect.Inside else Err fault.NoQuorum
enters_in b k (Inside p) = Err fault.WrongPhase

-- Leave: a client that asks or is inside

abbrev pub leaves_in : ExactClient → ExactClientPhase → Turns ExactClient
leaves_in k Down = Err fault.Down
leaves_in k Idle = Err fault.WrongPhase
leaves_in k (Chosen t place) = Err fault.WrongPhase
leaves_in k (Asking p) = acts (client_in k Idle) effect.Outside
leaves_in k (Inside p) = acts (client_in k Idle) effect.Outside

-- Soften: a client that is inside with a writer's ticket, and hasn't softened it

abbrev pub soft : ExactPresent → ExactPresent
soft p = record p { softened = true }

abbrev pub softens_in : ExactClient → ExactClientPhase → Turns ExactClient
softens_in k Down = Err fault.Down
softens_in k Idle = Err fault.WrongPhase
softens_in k (Chosen t place) = Err fault.WrongPhase
softens_in k (Asking p) = Err fault.WrongPhase
softens_in k (Inside p) = if is_write p.ticket.mode && not p.softened then acts (client_in k (Inside (soft p))) effect.Softened else Err fault.WrongPhase

-- Fall: what is kept and tried remains

abbrev pub client_falls_in : ExactClient → ExactClientPhase → Turns ExactClient
client_falls_in k Down = Err fault.Down
client_falls_in k Idle = acts (client_in k Down) effect.Down
client_falls_in k (Chosen t place) = acts (client_in k Down) effect.Down
client_falls_in k (Asking p) = acts (client_in k Down) effect.Down
client_falls_in k (Inside p) = acts (client_in k Down) effect.Down

-- Rise: with the kept attempt or, where one is tried, with that

abbrev pub client_rises_with : Age → ℕ → Option ℕ → Turns ExactClient
client_rises_with Old kept tried = acts (record { kept = kept; tried = None; phase = Idle }) effect.Up
client_rises_with New kept None = Err fault.NothingTried
client_rises_with New kept (Some a) = acts (record { kept = a; tried = None; phase = Idle }) effect.Up

abbrev pub client_rises_in : Age → ExactClient → ExactClientPhase → Turns ExactClient
client_rises_in age k Down = client_rises_with age k.kept k.tried
client_rises_in age k Idle = Err fault.Up
client_rises_in age k (Chosen t place) = Err fault.Up
client_rises_in age k (Asking p) = Err fault.Up
client_rises_in age k (Inside p) = Err fault.Up
