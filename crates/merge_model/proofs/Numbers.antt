-- The number that an event names is nothing to its actor.
use Rattle.std.proofs.Common.{◌≡◌, ℕ, ◌+◌, ◌==◌, ◌&&◌, not, Bool, true, false, cond, List, Option, Some, None, Ok, Err, refl, ap}
use Rattle.std.specs.Prelude.{nat_lt}
use Rattle.lock_messages.specs.declared.ids.TheConstants.{MAX_ATTEMPT}
use Rattle.lock_messages.specs.declared.ids.Actor.TheVariants as actor
use Rattle.lock_messages.specs.declared.tickets.Mode.{Mode}
use Rattle.lock_messages.specs.declared.tickets.Ticket.{Ticket}
use Rattle.lock_messages.specs.declared.messages.Message.{Message}
use Rattle.lock_messages.specs.declared.messages.Message.TheVariants as message
use Rattle.lock_messages.specs.Messages.{is_for_client}
use Rattle.lock_model.specs.declared.problems.Problem.{Problem}
use Rattle.lock_model.specs.Ballots.{Ballot, node_count, has_place}
use Rattle.lock_model.specs.ExactHearing.{is_node_of}
use Rattle.lock_model.specs.ExactStations.{is_write}
use Rattle.world_model.specs.declared.events.Age.{Age}
use Rattle.world_model.specs.declared.events.Age.TheVariants.{Old, New}
use Rattle.world_model.specs.declared.events.Effect.{Effect}
use Rattle.world_model.specs.declared.events.Effect.TheVariants as effect
use Rattle.world_model.specs.declared.events.Event.{Event}
use Rattle.world_model.specs.declared.events.Event.TheVariants as event
use Rattle.world_model.specs.declared.events.StepFault.TheVariants as fault
use Rattle.world_model.specs.declared.exact.ExactNode.{ExactNode}
use Rattle.world_model.specs.declared.exact.ExactNodePhase.{ExactNodePhase}
use Rattle.world_model.specs.declared.exact.ExactNodePhase.TheVariants as node
use Rattle.world_model.specs.declared.exact.ExactClient.{ExactClient}
use Rattle.world_model.specs.declared.exact.ExactClientPhase.{ExactClientPhase}
use Rattle.world_model.specs.declared.exact.ExactClientPhase.TheVariants as client
use Rattle.world_model.specs.declared.exact.ExactStation.{ExactStation}
use Rattle.world_model.specs.Turns.{Turns, Acts, Speaks, Reads, acts, reads}
use Rattle.world_model.specs.ExactNodes.{tries_station_in, tries_station_with, keeps_station_in, keeps_station_with, says_in, takes_in, node_falls_in, node_rises_in, node_rises_with, switches_in}
use Rattle.world_model.specs.ExactClients.{begins_in, client_in, next_ticket, says_one, after_hearing, heard_in, soft, tries_attempt_in, tries_attempt_with, keeps_attempt_in, keeps_attempt_with, tells, tells_in, hears, is_down, enters_in, leaves_in, softens_in, client_falls_in, client_rises_in, client_rises_with}
use Rattle.world_model.specs.ExactWorlds.{Deed, NodeDoes, ClientDoes, deed_of, actor_of}
use Rattle.world_model.specs.Parts.{Part, NoPart, NodePart, ClientPart, message_of, after_turn, after_own, turn_says, said_by}
use Rattle.merge_model.specs.OwnRuns.{HasEffect, IsTurn}
use Rattle.merge_model.specs.Merging.{unnumbered, unsaid}

-- the same event, by this number
abbrev pub by_number : Event → ℕ → Event
by_number (event.Take n k) j = event.Take n j
by_number (event.Hear c k) j = event.Hear c j
by_number (event.Begin c m x place) j = event.Begin c m x place
by_number (event.Try who) j = event.Try who
by_number (event.Kept who) j = event.Kept who
by_number (event.SayTo c n) j = event.SayTo c n
by_number (event.Say n) j = event.Say n
by_number (event.Enter c) j = event.Enter c
by_number (event.Leave c) j = event.Leave c
by_number (event.Soften c) j = event.Soften c
by_number (event.Fall who) j = event.Fall who
by_number (event.Rise who age) j = event.Rise who age
by_number (event.Switch n p) j = event.Switch n p

pub content-same : (e : Event) (j : ℕ) → unnumbered (by_number e j) ≡ unnumbered e
content-same (event.Take n k) j = refl
content-same (event.Hear c k) j = refl
content-same (event.Begin c m x place) j = refl
content-same (event.Try who) j = refl
content-same (event.Kept who) j = refl
content-same (event.SayTo c n) j = refl
content-same (event.Say n) j = refl
content-same (event.Enter c) j = refl
content-same (event.Leave c) j = refl
content-same (event.Soften c) j = refl
content-same (event.Fall who) j = refl
content-same (event.Rise who age) j = refl
content-same (event.Switch n p) j = refl

pub actor-same : (e : Event) (j : ℕ) → actor_of (by_number e j) ≡ actor_of e
actor-same (event.Take n k) j = refl
actor-same (event.Hear c k) j = refl
actor-same (event.Begin c m x place) j = refl
actor-same (event.Try who) j = refl
actor-same (event.Kept who) j = refl
actor-same (event.SayTo c n) j = refl
actor-same (event.Say n) j = refl
actor-same (event.Enter c) j = refl
actor-same (event.Leave c) j = refl
actor-same (event.Soften c) j = refl
actor-same (event.Fall who) j = refl
actor-same (event.Rise who age) j = refl
actor-same (event.Switch n p) j = refl

-- two turns that differ in the number that is read alone

pub record Alike {A : Type 0} (s t : Turns A) : Type 0 where
  pub effects : (done : Effect) → HasEffect t done → HasEffect s done
  pub after : (v : A) (done : Effect) → after_turn v s done ≡ after_turn v t done
  pub says : turn_says s ≡ turn_says t

alike : {A : Type 0} (t : Turns A) → Alike t t
alike t = record { effects = λ done h. h; after = λ v done. refl; says = refl }

takes-alike : (n j k : ℕ) (v : ExactNode) (phase : ExactNodePhase) → Alike (takes_in n j v phase) (takes_in n k v phase)
takes-alike n j k v node.Down = record { effects = λ done h. h; after = λ u done. refl; says = refl }
takes-alike n j k v node.Idle = record { effects = λ done h. h; after = λ u done. refl; says = refl }
takes-alike n j k v (node.Decided s replies) = record { effects = λ done h. h; after = λ u done. refl; says = refl }
takes-alike n j k v (node.Stored replies) = record { effects = λ done h. h; after = λ u done. refl; says = refl }

hears-alike : (nodes c j i : ℕ) (k : ExactClient) → Alike (hears nodes c j k) (hears nodes c i k)
hears-alike nodes c j i k = go k.phase
  where
    go : (phase : ExactClientPhase) → Alike (hears nodes c j (record { kept = k.kept; tried = k.tried; phase = phase })) (hears nodes c i (record { kept = k.kept; tried = k.tried; phase = phase }))
    go client.Down = record { effects = λ done h. h; after = λ u done. refl; says = refl }
    go client.Idle = record { effects = λ done h. h; after = λ u done. refl; says = refl }
    go (client.Chosen t place) = record { effects = λ done h. h; after = λ u done. refl; says = refl }
    go (client.Asking p) = record { effects = λ done h. h; after = λ u done. refl; says = refl }
    go (client.Inside p) = record { effects = λ done h. h; after = λ u done. refl; says = refl }

-- an event by another number is as much a turn, comes to the same, and says the same
pub record SameTurn (b : List Ballot) (p : Part) (d e : Event) : Type 0 where
  pub turns : (done : Effect) → IsTurn b p e done → IsTurn b p d done
  pub after : (done : Effect) → after_own b d done p ≡ after_own b e done p
  pub says : said_by b d p ≡ said_by b e p

one-turn : (b : List Ballot) (p : Part) (e : Event) → SameTurn b p e e
one-turn b p e = record { turns = λ done h. h; after = λ done. refl; says = refl }

take-turn : (b : List Ballot) (p : Part) (n j k : ℕ) → SameTurn b p (event.Take n j) (event.Take n k)
take-turn b NoPart n j k = record { turns = λ done h. h; after = λ done. refl; says = refl }
take-turn b (NodePart v) n j k =
    let a = takes-alike n j k v v.phase in
    record { turns = a.effects; after = λ done. ap NodePart (a.after v done); says = a.says }
take-turn b (ClientPart c) n j k = record { turns = λ done h. h; after = λ done. refl; says = refl }

hear-turn : (b : List Ballot) (p : Part) (c j i : ℕ) → SameTurn b p (event.Hear c j) (event.Hear c i)
hear-turn b NoPart c j i = record { turns = λ done h. h; after = λ done. refl; says = refl }
hear-turn b (NodePart v) c j i = record { turns = λ done h. h; after = λ done. refl; says = refl }
hear-turn b (ClientPart k) c j i =
    let a = hears-alike (node_count b) c j i k in
    record { turns = a.effects; after = λ done. ap ClientPart (a.after k done); says = a.says }

pub same-turn : (b : List Ballot) (p : Part) (e : Event) (j : ℕ) → SameTurn b p (by_number e j) e
same-turn b p (event.Take n k) j = take-turn b p n j k
same-turn b p (event.Hear c k) j = hear-turn b p c j k
same-turn b p (event.Begin c m x place) j = one-turn b p (event.Begin c m x place)
same-turn b p (event.Try who) j = one-turn b p (event.Try who)
same-turn b p (event.Kept who) j = one-turn b p (event.Kept who)
same-turn b p (event.SayTo c n) j = one-turn b p (event.SayTo c n)
same-turn b p (event.Say n) j = one-turn b p (event.Say n)
same-turn b p (event.Enter c) j = one-turn b p (event.Enter c)
same-turn b p (event.Leave c) j = one-turn b p (event.Leave c)
same-turn b p (event.Soften c) j = one-turn b p (event.Soften c)
same-turn b p (event.Fall who) j = one-turn b p (event.Fall who)
same-turn b p (event.Rise who age) j = one-turn b p (event.Rise who age)
same-turn b p (event.Switch n q) j = one-turn b p (event.Switch n q)

-- what kind of turn an event is: what it says has no other content by another number, and what it reads is the
-- message of this number, which the effect carries

abbrev pub Fits : {A : Type 0} → ℕ → Turns A → Type 0
Fits j (Err e) = Unit {0}
Fits j (Ok (Acts after effect)) = Unit {0}
Fits j (Ok (Speaks after says effect)) = (a b : ℕ) → unsaid (effect a) ≡ unsaid (effect b)
Fits j (Ok (Reads number is_mine after effect)) = (number ≡ j) × ((m : Message) → message_of (effect m) ≡ Some m)

-- where a test decides between two turns
fits-if : {A : Type 0} (j : ℕ) (t : Bool) (s u : Turns A) → Fits j s → Fits j u → Fits j (cond t s u)
fits-if j true s u h i = h
fits-if j false s u h i = i

tries-with : (j : ℕ) (v : ExactNode) (s : ExactStation) (o : Option ExactStation) → Fits j (tries_station_with v s o)
tries-with j v s None = tt
tries-with j v s (Some u) = tt

tries-fits : (j : ℕ) (v : ExactNode) (phase : ExactNodePhase) → Fits j (tries_station_in v phase)
tries-fits j v node.Down = tt
tries-fits j v node.Idle = tt
tries-fits j v (node.Decided s replies) = tries-with j v s v.tried
tries-fits j v (node.Stored replies) = tt

keeps-with : (j : ℕ) (replies : List Message) (o : Option ExactStation) → Fits j (keeps_station_with replies o)
keeps-with j replies None = tt
keeps-with j replies (Some u) = tt

keeps-fits : (j : ℕ) (v : ExactNode) (phase : ExactNodePhase) → Fits j (keeps_station_in v phase)
keeps-fits j v node.Down = tt
keeps-fits j v node.Idle = tt
keeps-fits j v (node.Decided s replies) = keeps-with j replies v.tried
keeps-fits j v (node.Stored replies) = tt

says-fits : (j : ℕ) (v : ExactNode) (phase : ExactNodePhase) → Fits j (says_in v phase)
says-fits j v node.Down = tt
says-fits j v node.Idle = tt
says-fits j v (node.Decided s replies) = tt
says-fits j v (node.Stored replies) = λ a b. refl

takes-fits : (n j : ℕ) (v : ExactNode) (phase : ExactNodePhase) → Fits j (takes_in n j v phase)
takes-fits n j v node.Down = tt
takes-fits n j v node.Idle = (refl, λ m. refl)
takes-fits n j v (node.Decided s replies) = tt
takes-fits n j v (node.Stored replies) = tt

node-falls-fits : (j : ℕ) (v : ExactNode) (phase : ExactNodePhase) → Fits j (node_falls_in v phase)
node-falls-fits j v node.Down = tt
node-falls-fits j v node.Idle = tt
node-falls-fits j v (node.Decided s replies) = tt
node-falls-fits j v (node.Stored replies) = tt

node-rises-with : (j : ℕ) (age : Age) (kept : ExactStation) (o : Option ExactStation) → Fits j (node_rises_with age kept o)
node-rises-with j Old kept o = tt
node-rises-with j New kept None = tt
node-rises-with j New kept (Some s) = tt

node-rises-fits : (j : ℕ) (age : Age) (v : ExactNode) (phase : ExactNodePhase) → Fits j (node_rises_in age v phase)
node-rises-fits j age v node.Down = node-rises-with j age v.kept v.tried
node-rises-fits j age v node.Idle = tt
node-rises-fits j age v (node.Decided s replies) = tt
node-rises-fits j age v (node.Stored replies) = tt

switches-fits : (j n : ℕ) (p : Problem) (v : ExactNode) (phase : ExactNodePhase) → Fits j (switches_in n p v phase)
switches-fits j n p v node.Down = tt
switches-fits j n p v node.Idle = tt
switches-fits j n p v (node.Decided s replies) = tt
switches-fits j n p v (node.Stored replies) = tt

begins-fits : (j : ℕ) (b : List Ballot) (c : ℕ) (m : Mode) (x : List ℕ) (place : ℕ) (k : ExactClient) (phase : ExactClientPhase) → Fits j (begins_in b c m x place k phase)
begins-fits j b c m x place k client.Down = tt
begins-fits j b c m x place k client.Idle = first (nat_lt k.kept MAX_ATTEMPT) (has_place b place)
  where
    first : (s t : Bool) → Fits j (cond s (cond t (acts (client_in k (client.Chosen (next_ticket c m x k.kept) place)) (effect.Chose (k.kept + 1))) (Err fault.NoSuchPlace)) (Err fault.AttemptsSpent))
    first true true = tt
    first true false = tt
    first false t = tt
begins-fits j b c m x place k (client.Chosen t chosen) = tt
begins-fits j b c m x place k (client.Asking p) = tt
begins-fits j b c m x place k (client.Inside p) = tt

tries-attempt-with : (j : ℕ) (k : ExactClient) (t : Ticket) (o : Option ℕ) → Fits j (tries_attempt_with k t o)
tries-attempt-with j k t None = tt
tries-attempt-with j k t (Some a) = tt

tries-attempt-fits : (j : ℕ) (k : ExactClient) (phase : ExactClientPhase) → Fits j (tries_attempt_in k phase)
tries-attempt-fits j k client.Down = tt
tries-attempt-fits j k client.Idle = tt
tries-attempt-fits j k (client.Chosen t place) = tries-attempt-with j k t k.tried
tries-attempt-fits j k (client.Asking p) = tt
tries-attempt-fits j k (client.Inside p) = tt

keeps-attempt-with : (j : ℕ) (t : Ticket) (place : ℕ) (o : Option ℕ) → Fits j (keeps_attempt_with t place o)
keeps-attempt-with j t place None = tt
keeps-attempt-with j t place (Some a) = tt

keeps-attempt-fits : (j : ℕ) (k : ExactClient) (phase : ExactClientPhase) → Fits j (keeps_attempt_in k phase)
keeps-attempt-fits j k client.Down = tt
keeps-attempt-fits j k client.Idle = tt
keeps-attempt-fits j k (client.Chosen t place) = keeps-attempt-with j t place k.tried
keeps-attempt-fits j k (client.Asking p) = tt
keeps-attempt-fits j k (client.Inside p) = tt

tells-in-fits : (j c n : ℕ) (k : ExactClient) (phase : ExactClientPhase) → Fits j (tells_in c n k phase)
tells-in-fits j c n k client.Down = tt
tells-in-fits j c n k client.Idle = fits-if j (k.kept == 0) (Err fault.NothingToSay) (says_one k (message.Release n c k.kept)) tt (λ a b. refl)
tells-in-fits j c n k (client.Chosen t place) = tt
tells-in-fits j c n k (client.Asking p) = λ a b. refl
tells-in-fits j c n k (client.Inside p) = λ a b. refl

tells-fits : (j : ℕ) (b : List Ballot) (c n : ℕ) (k : ExactClient) → Fits j (tells b c n k)
tells-fits j b c n k = fits-if j (is_node_of (node_count b) n) (tells_in c n k k.phase) (Err fault.UnknownActor) (tells-in-fits j c n k k.phase) tt

hears-fits : (j nodes c : ℕ) (k : ExactClient) → Fits j (hears nodes c j k)
hears-fits j nodes c k = go (is_down k.phase)
  where
    go : (t : Bool) → Fits j (cond t (Err fault.Down) (reads j (λ m. is_for_client m c) (after_hearing nodes c k) (λ m. effect.Heard m (heard_in nodes c k.kept k.phase m))))
    go true = tt
    go false = (refl, λ m. refl)

enters-fits : (j : ℕ) (b : List Ballot) (k : ExactClient) (phase : ExactClientPhase) → Fits j (enters_in b k phase)
enters-fits j b k client.Down = tt
enters-fits j b k client.Idle = tt
enters-fits j b k (client.Chosen t place) = tt
enters-fits j b k (client.Asking p) = fits-if j _ (acts (client_in k (client.Inside p)) effect.Inside) (Err fault.NoQuorum) tt tt
enters-fits j b k (client.Inside p) = tt

leaves-fits : (j : ℕ) (k : ExactClient) (phase : ExactClientPhase) → Fits j (leaves_in k phase)
leaves-fits j k client.Down = tt
leaves-fits j k client.Idle = tt
leaves-fits j k (client.Chosen t place) = tt
leaves-fits j k (client.Asking p) = tt
leaves-fits j k (client.Inside p) = tt

softens-fits : (j : ℕ) (k : ExactClient) (phase : ExactClientPhase) → Fits j (softens_in k phase)
softens-fits j k client.Down = tt
softens-fits j k client.Idle = tt
softens-fits j k (client.Chosen t place) = tt
softens-fits j k (client.Asking p) = tt
softens-fits j k (client.Inside p) = fits-if j (is_write p.ticket.mode && not p.softened) (acts (client_in k (client.Inside (soft p))) effect.Softened) (Err fault.WrongPhase) tt tt

client-falls-fits : (j : ℕ) (k : ExactClient) (phase : ExactClientPhase) → Fits j (client_falls_in k phase)
client-falls-fits j k client.Down = tt
client-falls-fits j k client.Idle = tt
client-falls-fits j k (client.Chosen t place) = tt
client-falls-fits j k (client.Asking p) = tt
client-falls-fits j k (client.Inside p) = tt

client-rises-with : (j : ℕ) (age : Age) (kept : ℕ) (o : Option ℕ) → Fits j (client_rises_with age kept o)
client-rises-with j Old kept o = tt
client-rises-with j New kept None = tt
client-rises-with j New kept (Some a) = tt

client-rises-fits : (j : ℕ) (age : Age) (k : ExactClient) (phase : ExactClientPhase) → Fits j (client_rises_in age k phase)
client-rises-fits j age k client.Down = client-rises-with j age k.kept k.tried
client-rises-fits j age k client.Idle = tt
client-rises-fits j age k (client.Chosen t place) = tt
client-rises-fits j age k (client.Asking p) = tt
client-rises-fits j age k (client.Inside p) = tt

abbrev pub DeedFits : ℕ → Deed → Type 0
DeedFits j (NodeDoes n turn) = (v : ExactNode) → Fits j (turn v)
DeedFits j (ClientDoes c turn) = (b : List Ballot) (k : ExactClient) → Fits j (turn b k)

pub deed-fits : (e : Event) (j : ℕ) → DeedFits j (deed_of (by_number e j))
deed-fits (event.Take n k) j = λ v. takes-fits n j v v.phase
deed-fits (event.Hear c i) j = λ b k. hears-fits j (node_count b) c k
deed-fits (event.Begin c m x place) j = λ b k. begins-fits j b c m x place k k.phase
deed-fits (event.Try (actor.Node n)) j = λ v. tries-fits j v v.phase
deed-fits (event.Try (actor.Client c)) j = λ b k. tries-attempt-fits j k k.phase
deed-fits (event.Kept (actor.Node n)) j = λ v. keeps-fits j v v.phase
deed-fits (event.Kept (actor.Client c)) j = λ b k. keeps-attempt-fits j k k.phase
deed-fits (event.SayTo c n) j = λ b k. tells-fits j b c n k
deed-fits (event.Say n) j = λ v. says-fits j v v.phase
deed-fits (event.Enter c) j = λ b k. enters-fits j b k k.phase
deed-fits (event.Leave c) j = λ b k. leaves-fits j k k.phase
deed-fits (event.Soften c) j = λ b k. softens-fits j k k.phase
deed-fits (event.Fall (actor.Node n)) j = λ v. node-falls-fits j v v.phase
deed-fits (event.Fall (actor.Client c)) j = λ b k. client-falls-fits j k k.phase
deed-fits (event.Rise (actor.Node n) age) j = λ v. node-rises-fits j age v v.phase
deed-fits (event.Rise (actor.Client c) age) j = λ b k. client-rises-fits j age k k.phase
deed-fits (event.Switch n p) j = λ v. switches-fits j n p v v.phase
