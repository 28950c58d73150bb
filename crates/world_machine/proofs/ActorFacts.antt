-- An actor's turn, put into the lists.
use Rattle.std.proofs.Common.{◌≡◌, ℕ, ◌-◌, ◌≤◌, Bool, true, false, List, length, map, set, Some, None, Result, Ok, Err, refl, sym, ◌∙◌, ap, subst, arith}
use Rattle.std.specs.Prelude.{slice_set}
use Rattle.std.specs.Option.{option_map}
use Rattle.std.proofs.lemmas.List.{map-set, length-append}
use Rattle.lock_messages.specs.declared.messages.Message.{Message}
use Rattle.lock_model.specs.Ballots.{Ballot, node_count}
use Rattle.world_actors.specs.Acting.{ActingNode, ActingClient}
use Rattle.world_model.specs.declared.TheConstants.{MAX_MESSAGES}
use Rattle.world_model.specs.declared.events.Effect.{Effect}
use Rattle.world_model.specs.declared.events.Event.{Event}
use Rattle.world_model.specs.declared.events.Event.TheVariants as event
use Rattle.world_model.specs.declared.events.StepFault.{StepFault}
use Rattle.world_model.specs.declared.events.StepFault.TheVariants as fault
use Rattle.world_model.specs.declared.exact.ExactNode.{ExactNode}
use Rattle.world_model.specs.declared.exact.ExactClient.{ExactClient}
use Rattle.world_model.specs.declared.exact.ExactWorld.{ExactWorld}
use Rattle.world_model.specs.ExactNodes.{says_in, takes_in}
use Rattle.world_model.specs.ExactClients.{tells, hears}
use Rattle.world_model.specs.ExactWorlds.{numbered, NodeDoes, ClientDoes, deed_of, finishes, with_node_at, with_client_at, step}
use Rattle.world_model.specs.StepsOf.{asks_for_memory, Does}
use Rattle.world_model.specs.Turns.{Turns}
use Rattle.world_machine.specs.declared.turns.NodeAct.{NodeAct}
use Rattle.world_machine.specs.declared.turns.ClientAct.{ClientAct}
use Rattle.world_machine.specs.Doing.{node_event, node_turn, node_asks, client_event, client_turn, Turned, read_turn, Spoke}
use Rattle.world_machine.specs.Machines.{node_part, client_part, AreNodes, AreClients, with_nodes, with_clients, with_sent}
use Rattle.world_model.specs.Numbered.{numbered-map}
use Rattle.world_machine.proofs.ListFacts.{here-or-there, set-same}
use Rattle.world_machine.proofs.TurnFacts.{OnlyActs, node-deed, node-asks, client-deed, step-node, step-no-node, step-client, step-no-client, node-acts, node-speaks, client-speaks, take-once, take-acts, hear-once, does-turned, does-spoke}
use Rattle.world_machine.proofs.ListingFacts.{client-at}

-- the part under a number
node-there : (w : ExactWorld) (ns : List ActingNode) (n : ℕ) (v : ActingNode) → w.nodes ≡ map node_part ns → numbered ns n ≡ Some v → numbered w.nodes n ≡ Some v.part
node-there w ns n v is at = ap (λ xs. numbered xs n) is ∙ numbered-map node_part ns n ∙ ap (option_map node_part) at

node-put : (w : ExactWorld) (ns : List ActingNode) (n : ℕ) (u : ActingNode) → w.nodes ≡ map node_part ns → slice_set w.nodes (n - 1) u.part ≡ map node_part (slice_set ns (n - 1) u)
node-put w ns n u is = ap (λ xs. set xs (n - 1) u.part) is ∙ sym (map-set node_part ns (n - 1) u)

client-put : (w : ExactWorld) (cs : List ActingClient) (c : ℕ) (u : ActingClient) → w.clients ≡ map client_part cs → slice_set w.clients (c - 1) u.part ≡ map client_part (slice_set cs (c - 1) u)
client-put w cs c u is = ap (λ xs. set xs (c - 1) u.part) is ∙ sym (map-set client_part cs (c - 1) u)

-- no actor of this number

pub node-unknown : (w : ExactWorld) (e : Event) (n : ℕ) (turn : ExactNode → Turns ExactNode) (ns : List ActingNode) → deed_of e ≡ NodeDoes n turn → w.nodes ≡ map node_part ns → numbered ns n ≡ None → step w e ≡ Err fault.UnknownActor
node-unknown w e n turn ns d is none = step-no-node w e n turn d (ap (λ xs. numbered xs n) is ∙ numbered-map node_part ns n ∙ ap (option_map node_part) none)

pub client-unknown : (w : ExactWorld) (e : Event) (c : ℕ) (turn : List Ballot → ExactClient → Turns ExactClient) (cs : List ActingClient) → deed_of e ≡ ClientDoes c turn → w.clients ≡ map client_part cs → numbered cs c ≡ None → step w e ≡ Err fault.UnknownActor
client-unknown w e c turn cs d is none = step-no-client w e c turn d (ap (λ xs. numbered xs c) is ∙ numbered-map client_part cs c ∙ ap (option_map client_part) none)

-- a turn of the node, or of the client, of this number

node-does : (w : ExactWorld) (e : Event) (n : ℕ) (turn : Turns ExactNode) (asks : Bool) (ns : List ActingNode) (v u : ActingNode) (r : Result Effect StepFault) → w.nodes ≡ map node_part ns → numbered ns n ≡ Some v →
    step w e ≡ finishes w (with_node_at w n) turn → (asks ≡ true → asks_for_memory e ≡ true) → (asks ≡ true → OnlyActs turn) → Turned asks node_part turn v r u → Does e (step w e) w r (with_nodes w (map node_part (slice_set ns (n - 1) u)))
node-does w e n turn asks ns v u r is at s may only h =
    subst (λ xs. Does e (step w e) w r (with_nodes w xs)) (node-put w ns n u is)
    (does-turned w e (with_node_at w n) node_part turn asks v u r s may only (ap (with_nodes w) (set-same w.nodes n v.part (node-there w ns n v is at))) h)

client-does : (w : ExactWorld) (e : Event) (c : ℕ) (turn : Turns ExactClient) (cs : List ActingClient) (k u : ActingClient) (r : Result Effect StepFault) → w.clients ≡ map client_part cs → numbered cs c ≡ Some k →
    step w e ≡ finishes w (with_client_at w c) turn → Turned false client_part turn k r u → Does e (step w e) w r (with_clients w (map client_part (slice_set cs (c - 1) u)))
client-does w e c turn cs k u r is at s h =
    subst (λ xs. Does e (step w e) w r (with_clients w xs)) (client-put w cs c u is)
    (does-turned w e (with_client_at w c) client_part turn false k u r s (λ q. absurd (let p : false ≡ true = q in cc)) (λ q. absurd (let p : false ≡ true = q in cc)) (ap (with_clients w) (set-same w.clients c k.part (client-at w cs c k is at))) h)

pub act-node : (w : ExactWorld) (n : ℕ) (act : NodeAct) (ns : List ActingNode) (v u : ActingNode) (r : Result Effect StepFault) → w.nodes ≡ map node_part ns → AreNodes ns → numbered ns n ≡ Some v →
    Turned (node_asks act) node_part (node_turn act v.number v.part) v r u → Does (node_event n act) (step w (node_event n act)) w r (with_nodes w (map node_part (slice_set ns (n - 1) u)))
act-node w n act ns v u r is order at h =
    node-does w (node_event n act) n (node_turn act n v.part) (node_asks act) ns v u r is at (step-node w (node_event n act) n (λ x. node_turn act n x) v.part (node-deed n act) (node-there w ns n v is at))
    (λ q. node-asks n act ∙ q) (node-acts act n v.part) (subst (λ m. Turned (node_asks act) node_part (node_turn act m v.part) v r u) (order n v at) h)

pub act-client : (w : ExactWorld) (c : ℕ) (act : ClientAct) (cs : List ActingClient) (k u : ActingClient) (r : Result Effect StepFault) → w.clients ≡ map client_part cs → AreClients w.ballots cs → numbered cs c ≡ Some k →
    Turned false client_part (client_turn act k.number k.ballots k.part) k r u → Does (client_event c act) (step w (client_event c act)) w r (with_clients w (map client_part (slice_set cs (c - 1) u)))
act-client w c act cs k u r is order at h =
    let own = order c k at in
    client-does w (client_event c act) c (client_turn act c w.ballots k.part) cs k u r is at (step-client w (client_event c act) c (λ b x. client_turn act c b x) k.part (client-deed c act) (client-at w cs c k is at))
    (subst (λ b. Turned false client_part (client_turn act c b k.part) k r u) own.1 (subst (λ m. Turned false client_part (client_turn act m k.ballots k.part) k r u) own.0 h))

pub take-node : (w : ExactWorld) (n number : ℕ) (ns : List ActingNode) (sent : List Message) (v u : ActingNode) (r : Result Effect StepFault) → w.nodes ≡ map node_part ns → w.sent ≡ sent → AreNodes ns → numbered ns n ≡ Some v →
    Turned true node_part (read_turn (numbered sent number) (takes_in v.number number v.part v.part.phase)) v r u → Does (event.Take n number) (step w (event.Take n number)) w r (with_nodes w (map node_part (slice_set ns (n - 1) u)))
take-node w n number ns sent v u r is all order at h =
    let own = order n v at in
    let turn = read_turn (numbered w.sent number) (takes_in n number v.part v.part.phase) in
    node-does w (event.Take n number) n turn true ns v u r is at
    (step-node w (event.Take n number) n (λ x. takes_in n number x x.phase) v.part refl (node-there w ns n v is at) ∙ take-once w (with_node_at w n) n number v.part)
    (λ q. refl) (λ q. take-acts n number v.part (numbered w.sent number))
    (subst (λ m. Turned true node_part (read_turn (numbered w.sent number) (takes_in m number v.part v.part.phase)) v r u) own (subst (λ l. Turned true node_part (read_turn (numbered l number) (takes_in v.number number v.part v.part.phase)) v r u) (sym all) h))

pub hear-client : (w : ExactWorld) (c number : ℕ) (cs : List ActingClient) (sent : List Message) (k u : ActingClient) (r : Result Effect StepFault) → w.clients ≡ map client_part cs → w.sent ≡ sent → AreClients w.ballots cs → numbered cs c ≡ Some k →
    Turned false client_part (read_turn (numbered sent number) (hears (node_count k.ballots) k.number number k.part)) k r u → Does (event.Hear c number) (step w (event.Hear c number)) w r (with_clients w (map client_part (slice_set cs (c - 1) u)))
hear-client w c number cs sent k u r is all order at h =
    let own = order c k at in
    let turn = read_turn (numbered w.sent number) (hears (node_count w.ballots) c number k.part) in
    client-does w (event.Hear c number) c turn cs k u r is at
    (step-client w (event.Hear c number) c (λ b x. hears (node_count b) c number x) k.part refl (client-at w cs c k is at) ∙ hear-once w (with_client_at w c) (node_count w.ballots) c number k.part)
    (subst (λ (b : List Ballot). Turned false client_part (read_turn (numbered w.sent number) (hears (node_count b) c number k.part)) k r u) own.1
    (subst (λ m. Turned false client_part (read_turn (numbered w.sent number) (hears (node_count k.ballots) m number k.part)) k r u) own.0
    (subst (λ l. Turned false client_part (read_turn (numbered l number) (hears (node_count k.ballots) k.number number k.part)) k r u) (sym all) h)))

pub say-node : (w : ExactWorld) (n : ℕ) (ns : List ActingNode) (sent new : List Message) (v u : ActingNode) (r : Result Effect StepFault) → w.nodes ≡ map node_part ns → w.sent ≡ sent → numbered ns n ≡ Some v →
    Spoke node_part (says_in v.part v.part.phase) sent v r u new → Does (event.Say n) (step w (event.Say n)) w r (with_sent (with_nodes w (map node_part (slice_set ns (n - 1) u))) new)
say-node w n ns sent new v u r is all at h =
    subst (λ xs. Does (event.Say n) (step w (event.Say n)) w r (with_sent (with_nodes w xs) new)) (node-put w ns n u is)
    (does-spoke w (event.Say n) (with_node_at w n) node_part (says_in v.part v.part.phase) sent v u r new (step-node w (event.Say n) n (λ x. says_in x x.phase) v.part refl (node-there w ns n v is at)) refl
    (node-speaks v.part) (ap (with_nodes w) (set-same w.nodes n v.part (node-there w ns n v is at))) (λ p. refl) all h)

pub tell-client : (w : ExactWorld) (c n : ℕ) (cs : List ActingClient) (sent new : List Message) (k : ActingClient) (r : Result Effect StepFault) → w.clients ≡ map client_part cs → w.sent ≡ sent → AreClients w.ballots cs → numbered cs c ≡ Some k →
    Spoke client_part (tells k.ballots k.number n k.part) sent k r k new → Does (event.SayTo c n) (step w (event.SayTo c n)) w r (with_sent w new)
tell-client w c n cs sent new k r is all order at h =
    let own = order c k at in
    let there = client-at w cs c k is at in
    let same = ap (with_clients w) (set-same w.clients c k.part there) in
    subst (λ x. Does (event.SayTo c n) (step w (event.SayTo c n)) w r (with_sent x new)) same
    (does-spoke w (event.SayTo c n) (with_client_at w c) client_part (tells w.ballots c n k.part) sent k k r new (step-client w (event.SayTo c n) c (λ b x. tells b c n x) k.part refl there) refl
    (client-speaks w.ballots c n k.part) same (λ p. refl) all
    (subst (λ b. Spoke client_part (tells b c n k.part) sent k r k new) own.1 (subst (λ m. Spoke client_part (tells k.ballots m n k.part) sent k r k new) own.0 h)))

-- the actors stay in order

pub nodes-stay : (ns : List ActingNode) (n : ℕ) (v u : ActingNode) → numbered ns n ≡ Some v → u.number ≡ v.number → AreNodes ns → AreNodes (slice_set ns (n - 1) u)
nodes-stay ns n v u at same order = here-or-there (λ m x. x.number ≡ m) ns n v u at (same ∙ order n v at) order

pub clients-stay : (b : List Ballot) (cs : List ActingClient) (c : ℕ) (k u : ActingClient) → numbered cs c ≡ Some k → u.number ≡ k.number → u.ballots ≡ k.ballots → AreClients b cs → AreClients b (slice_set cs (c - 1) u)
clients-stay b cs c k u at same by order =
    let own = order c k at in
    here-or-there (λ m x. (x.number ≡ m) × (x.ballots ≡ b)) cs c k u at (same ∙ own.0, by ∙ own.1) order

-- the messages don't become too many
pub spoke-room : {A P : Type 0} (part : A → P) (turn : Turns P) (sent : List Message) (v : A) (r : Result Effect StepFault) (u : A) (new : List Message) → length sent ≤ MAX_MESSAGES → Spoke part turn sent v r u new → length new ≤ MAX_MESSAGES
spoke-room part turn sent v (Ok done) u new room h = subst (λ l. length l ≤ MAX_MESSAGES) (sym h.4) (omega (arith, length-append sent h.0, h.3, room))
spoke-room part turn sent v (Err f) u new room h = subst (λ l. length l ≤ MAX_MESSAGES) (sym h.2) room
