-- Worked runs of the exact world, each under the name of what it shows.
use Rattle.std.specs.Prelude.{◌≡◌, ℕ, true, false, List, [], ◌∷◌, ◌++◌, Option, Some, codes, replicate}
use Rattle.std.specs.Option.{option_map}
use Rattle.lock_messages.specs.declared.ids.TheConstants.{MAX_ATTEMPT}
use Rattle.lock_messages.specs.declared.ids.Actor.TheVariants as actor
use Rattle.lock_messages.specs.declared.tickets.Mode.{Mode}
use Rattle.lock_messages.specs.declared.tickets.Mode.TheVariants.{Read, Write}
use Rattle.lock_messages.specs.declared.tickets.Ticket.{Ticket}
use Rattle.lock_messages.specs.declared.messages.Message.TheVariants.{Request, Grant}
use Rattle.lock_messages.specs.declared.messages.Message.TheVariants as message
use Rattle.lock_model.specs.declared.hearing.Heard.TheVariants.{NotMine}
use Rattle.lock_model.specs.declared.problems.Problem.{Problem}
use Rattle.lock_model.specs.declared.problems.Problem.TheVariants.{First, Second}
use Rattle.lock_model.specs.Ballots.{Ballot}
use Rattle.world_model.specs.declared.events.Age.TheVariants.{Old, New}
use Rattle.world_model.specs.declared.events.Effect.TheVariants as effect
use Rattle.world_model.specs.declared.events.Event.{Event}
use Rattle.world_model.specs.declared.events.Event.TheVariants.{Begin, Try, Kept, SayTo, Say, Take, Hear, Enter, Soften, Fall, Rise, Switch}
use Rattle.world_model.specs.declared.events.StepFault.TheVariants as fault
use Rattle.world_model.specs.declared.exact.ExactWorld.{ExactWorld}
use Rattle.world_model.specs.ExactWorlds.{numbered, ran, after, effect, refusal}
use Rattle.world_model.specs.Openings.{empty_station, resumed, opening}
use Rattle.world_model.specs.Views.{inside, waiting, holding}

-- three nodes of one vote each; two votes read, and two write
abbrev pub three_nodes : List Ballot
three_nodes = record { votes = 1 ∷ 1 ∷ 1 ∷ []; read = 2; write = 2 } ∷ []

-- the ticket of client 1's first attempt: to read `a`
abbrev pub first_ticket : Ticket
first_ticket = record { client = 1; attempt = 1; mode = Read; resource = codes "a" }

-- the world after these events, from one of four clients in which all that take part here are up
abbrev pub from_rest : List Event → ExactWorld
from_rest events =
    let up = Rise (actor.Node 1) Old ∷ Rise (actor.Node 2) Old ∷ Rise (actor.Client 1) Old ∷ [] in
    (ran (up ++ events) (opening three_nodes (replicate 3 First) 4)).world

-- client 1 chooses to read `a`
abbrev pub chooses : List Event
chooses = Begin 1 Read (codes "a") 1 ∷ Try (actor.Client 1) ∷ Kept (actor.Client 1) ∷ []

-- the client asks a node, by the message of this number
abbrev pub asks : ℕ → ℕ → List Event
asks n request = SayTo 1 n ∷ Take n request ∷ []

-- the node keeps what it decided
abbrev pub keeps : ℕ → List Event
keeps n = Try (actor.Node n) ∷ Kept (actor.Node n) ∷ []

-- it says its reply, the message of this number, which the client hears
abbrev pub replies : ℕ → ℕ → List Event
replies n reply = Say n ∷ Hear 1 reply ∷ []

abbrev pub one_grant : List Event
one_grant = chooses ++ asks 1 1 ++ keeps 1 ++ replies 1 2

abbrev pub two_grants : List Event
two_grants = one_grant ++ asks 2 3 ++ keeps 2 ++ replies 2 4

-- with two Grants a reader is inside, and these messages were sent
abbrev pub FirstReader : Type 0
FirstReader =
    let w = from_rest (two_grants ++ Enter 1 ∷ []) in
    (inside (codes "a") w ≡ first_ticket ∷ [])
    × (w.sent ≡ Request 1 first_ticket ∷ Grant 1 first_ticket ∷ Request 2 first_ticket ∷ Grant 2 first_ticket ∷ [])

-- with one it isn't
abbrev pub OneGrantIsTooFew : Type 0
OneGrantIsTooFew = let w = from_rest one_grant in (refusal w (Enter 1) ≡ Some fault.NoQuorum) × (inside (codes "a") w ≡ [])

-- a node says nothing before its record is kept
abbrev pub SayBeforeKept : Type 0
SayBeforeKept =
    let w = from_rest (chooses ++ asks 1 1) in
    (refusal w (Say 1) ≡ Some fault.NotStored) × (refusal (after w (Try (actor.Node 1))) (Say 1) ≡ Some fault.NotStored)

-- a node that fell after its record was kept finds it, and has only to say its Grant again
abbrev pub RestartWithOldRecord : Type 0
RestartWithOldRecord =
    let w = from_rest (chooses ++ asks 1 1 ++ keeps 1 ++ Fall (actor.Node 1) ∷ Rise (actor.Node 1) Old ∷ []) in
    (effect w (Take 1 1) ≡ Some (effect.Took (Request 1 first_ticket) false)) × (effect (after w (Take 1 1)) (Say 1) ≡ Some (effect.Said 2 1))

-- one that fell as its record was written finds the new one or the old one
abbrev pub RestartWithNewRecord : Type 0
RestartWithNewRecord =
    let w = from_rest (chooses ++ asks 1 1 ++ Try (actor.Node 1) ∷ Fall (actor.Node 1) ∷ []) in
    (holding 1 (codes "a") (after w (Rise (actor.Node 1) New)) ≡ Some (first_ticket ∷ []))
    × (holding 1 (codes "a") (after w (Rise (actor.Node 1) Old)) ≡ Some [])

-- there is no new record where none was written, and who is up doesn't rise
abbrev pub RefusedRises : Type 0
RefusedRises =
    let w = from_rest (Fall (actor.Node 1) ∷ []) in
    (refusal w (Rise (actor.Node 1) New) ≡ Some fault.NothingTried)
    × (refusal (after w (Rise (actor.Node 1) Old)) (Rise (actor.Node 1) Old) ≡ Some fault.Up)

-- a client that fell goes on with its next attempt, and the old Grants count for nothing
abbrev pub RestartedClient : Type 0
RestartedClient =
    let w = from_rest (two_grants ++ Enter 1 ∷ Fall (actor.Client 1) ∷ Rise (actor.Client 1) Old ∷ []) in
    let v = after (after (after w (Begin 1 Write (codes "a") 1)) (Try (actor.Client 1))) (Kept (actor.Client 1)) in
    (effect w (Begin 1 Write (codes "a") 1) ≡ Some (effect.Chose 2)) × (effect v (Hear 1 2) ≡ Some (effect.Heard (Grant 1 first_ticket) NotMine))
    × (refusal v (Enter 1) ≡ Some fault.NoQuorum) × (inside (codes "a") v ≡ [])

-- an attempt by a place that the list doesn't have is refused, and the places are numbered from 1
abbrev pub NoSuchPlace : Type 0
NoSuchPlace =
    let w = from_rest [] in
    (refusal w (Begin 1 Read (codes "a") 2) ≡ Some fault.NoSuchPlace) × (refusal w (Begin 1 Read (codes "a") 0) ≡ Some fault.NoSuchPlace)

-- a client whose attempts are spent begins no other, and none while it is down
abbrev pub GreatestAttempt : Type 0
GreatestAttempt =
    let w = resumed three_nodes (replicate 3 (empty_station First)) (MAX_ATTEMPT ∷ []) in
    (refusal w (Begin 1 Read (codes "a") 1) ≡ Some fault.Down)
    × (refusal (after w (Rise (actor.Client 1) Old)) (Begin 1 Read (codes "a") 1) ≡ Some fault.AttemptsSpent)

-- one node, of one vote, which is enough for anybody
abbrev pub one_node : List Ballot
one_node = record { votes = 1 ∷ []; read = 1; write = 1 } ∷ []

-- client 1 is inside `a` as a writer, by the messages 1 and 2, and client 2 asks to read `a`, by message 3
abbrev pub one_writes : List Event
one_writes =
    let one = Begin 1 Write (codes "a") 1 ∷ Try (actor.Client 1) ∷ Kept (actor.Client 1) ∷ asks 1 1 ++ keeps 1 ++ replies 1 2 ++ Enter 1 ∷ [] in
    let two = Begin 2 Read (codes "a") 1 ∷ Try (actor.Client 2) ∷ Kept (actor.Client 2) ∷ SayTo 2 1 ∷ Take 1 3 ∷ keeps 1 ++ Say 1 ∷ [] in
    Rise (actor.Node 1) Old ∷ Rise (actor.Client 1) Old ∷ Rise (actor.Client 2) Old ∷ one ++ two

-- A writer that softens is inside as a reader, says so to the node, and softens once only. The node then lets
-- the reader that waited hold beside it.
abbrev pub Softening : Type 0
Softening =
    let w = (ran one_writes (opening one_node (First ∷ []) 2)).world in
    let v = after w (Soften 1) in
    let told = (ran (SayTo 1 1 ∷ Take 1 5 ∷ keeps 1) v).world in
    (effect w (Soften 1) ≡ Some effect.Softened) × (inside (codes "a") v ≡ first_ticket ∷ []) × (effect v (SayTo 1 1) ≡ Some (effect.Sent 5 (message.Soften 1 1 1)))
    × (refusal v (Soften 1) ≡ Some fault.WrongPhase)
    × (holding 1 (codes "a") told ≡ Some (first_ticket ∷ record { client = 2; attempt = 1; mode = Read; resource = codes "a" } ∷ []))

-- a client asks the one node, and the node keeps and says what it decides on the message of this number

abbrev pub asks_to : ℕ → Mode → List Event
asks_to c m = Begin c m (codes "a") 1 ∷ Try (actor.Client c) ∷ Kept (actor.Client c) ∷ SayTo c 1 ∷ []

abbrev pub is_told : ℕ → List Event
is_told request = Take 1 request ∷ keeps 1 ++ Say 1 ∷ []

-- the ticket of a client's first attempt, for `a`
abbrev pub asked_by : ℕ → Mode → Ticket
asked_by c m = record { client = c; attempt = 1; mode = m; resource = codes "a" }

-- Under problem 2 client 1 holds `a` as a reader, and client 2 waits for it as a writer, and behind it client 3
-- as a reader, by the messages 1 to 6.
abbrev pub behind_writer : ExactWorld
behind_writer =
    let up = Rise (actor.Node 1) Old ∷ Rise (actor.Client 1) Old ∷ Rise (actor.Client 2) Old ∷ Rise (actor.Client 3) Old ∷ Rise (actor.Client 4) Old ∷ [] in
    (ran (up ++ asks_to 1 Read ++ is_told 1 ++ asks_to 2 Write ++ is_told 3 ++ asks_to 3 Read ++ is_told 5) (opening one_node (Second ∷ []) 4)).world

-- the problem that node 1 has kept
abbrev pub kept_problem : ExactWorld → Option Problem
kept_problem w = option_map (λ v. v.kept.problem) (numbered w.nodes 1)

-- the world after the switch to problem 1, once the node has said what came of it
abbrev pub let_in : ExactWorld
let_in = (ran (Switch 1 First ∷ keeps 1 ++ Say 1 ∷ []) behind_writer).world

-- A switch to problem 1 lets in the reader behind a writer that waits, and tells it, once the new problem is kept.
-- The writer still waits. Another switch to problem 1 changes nothing, and then there is nothing to say.
abbrev pub Switching : Type 0
Switching =
    let w = behind_writer in
    let decided = after w (Switch 1 First) in
    let again = after let_in (Switch 1 First) in
    (effect w (Switch 1 First) ≡ Some (effect.Switched true)) × (refusal decided (Say 1) ≡ Some fault.NotStored) × (refusal decided (Switch 1 Second) ≡ Some fault.WrongPhase)
    × (refusal w (Switch 2 First) ≡ Some fault.UnknownActor) × (refusal (after w (Fall (actor.Node 1))) (Switch 1 First) ≡ Some fault.Down)
    × (numbered let_in.sent 7 ≡ Some (Grant 1 (asked_by 3 Read))) × (kept_problem let_in ≡ Some First)
    × (holding 1 (codes "a") let_in ≡ Some (asked_by 1 Read ∷ asked_by 3 Read ∷ [])) × (waiting 1 (codes "a") let_in ≡ Some (asked_by 2 Write ∷ []))
    × (effect let_in (Switch 1 First) ≡ Some (effect.Switched false)) × (effect again (Say 1) ≡ Some (effect.Said 8 0))

-- A node that fell before its new problem was kept has the old one, and where it was being written the old one or
-- the new one. So a reader that asks behind the writer, by message 8, holds or waits.
abbrev pub SwitchingPastAFall : Type 0
SwitchingPastAFall =
    let w = (ran (asks_to 4 Read ++ Switch 1 Second ∷ []) let_in).world in
    let tried = after (after w (Try (actor.Node 1))) (Fall (actor.Node 1)) in
    let untried = (ran (Rise (actor.Node 1) Old ∷ is_told 8) (after w (Fall (actor.Node 1)))).world in
    let old = after tried (Rise (actor.Node 1) Old) in
    let new = (ran (Rise (actor.Node 1) New ∷ is_told 8) tried).world in
    (kept_problem w ≡ Some First) × (kept_problem untried ≡ Some First) × (kept_problem old ≡ Some First) × (kept_problem new ≡ Some Second)
    × (holding 1 (codes "a") untried ≡ Some (asked_by 1 Read ∷ asked_by 3 Read ∷ asked_by 4 Read ∷ []))
    × (waiting 1 (codes "a") new ≡ Some (asked_by 2 Write ∷ asked_by 4 Read ∷ []))
