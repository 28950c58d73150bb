-- What may happen in the world that an exact one stands for, the exact one takes.
use Rattle.std.proofs.Common.{◌≡◌, ◌≢◌, ℕ, ◌+◌, ◌≤◌, ◌&&◌, true, false, not, cond, nat_le, List, [], length, Some, None, Ok, Err, refl, sym, ◌∙◌, ap, subst, arith}
use Rattle.std.proofs.lemmas.Bool.{ne_eqb, le-leb, lt-ltb, and_from}
use Rattle.lock_messages.specs.declared.ids.TheConstants.{MAX_ATTEMPT}
use Rattle.lock_messages.specs.declared.ids.Actor.TheVariants as actor
use Rattle.lock_messages.specs.declared.tickets.Mode.{Mode}
use Rattle.lock_messages.specs.declared.tickets.Mode.TheVariants.{Write}
use Rattle.lock_messages.specs.declared.messages.Message.{Message}
use Rattle.lock_messages.specs.declared.messages.Message.TheVariants as message
use Rattle.lock_model.specs.declared.problems.Problem.{Problem}
use Rattle.lock_model.specs.Ballots.{Ballot, HasAnyNode, has_place, ballot_at, node_count, needed, votes_of}
use Rattle.lock_model.specs.ExactHearing.{is_node_of}
use Rattle.lock_model.specs.ExactStations.{is_write}
use Rattle.vote_weights.specs.Sets.{has_node}
use Rattle.world_model.specs.declared.events.Age.{Age}
use Rattle.world_model.specs.declared.events.Age.TheVariants.{Old, New}
use Rattle.world_model.specs.declared.events.Effect.{Effect}
use Rattle.world_model.specs.declared.events.Effect.TheVariants as effect
use Rattle.world_model.specs.declared.events.StepFault.TheVariants as fault
use Rattle.world_model.specs.declared.exact.ExactNode.{ExactNode}
use Rattle.world_model.specs.declared.exact.ExactNodePhase.{ExactNodePhase}
use Rattle.world_model.specs.declared.exact.ExactNodePhase.TheVariants as node
use Rattle.world_model.specs.declared.exact.ExactClient.{ExactClient}
use Rattle.world_model.specs.declared.exact.ExactClientPhase.{ExactClientPhase}
use Rattle.world_model.specs.declared.exact.ExactClientPhase.TheVariants as client
use Rattle.world_model.specs.declared.exact.ExactWorld.{ExactWorld}
use Rattle.world_model.specs.Worlds.{NodeDown, Node, Present, ClientDown, Client, World, OfNode, OfClient, ByNode, ByClient, Begins, TriesAttempt, TriesStation, KeepsAttempt, KeepsStation, Tells, Says, Enters, Leaves, Softens, NodeFalls, ClientFalls, NodeRises, ClientRises, Switches}
use Rattle.world_model.specs.Turns.{Turn, Acts, Turns, acts}
use Rattle.world_model.specs.ExactNodes.{tries_station_with, tries_station_in, keeps_station_with, keeps_station_in, says_in, node_falls_in, node_rises_with, node_rises_in, is_another, switched_to, switches_in}
use Rattle.world_model.specs.ExactClients.{client_in, next_ticket, begins_by, begins_in, tries_attempt_with, tries_attempt_in, first_of, keeps_attempt_with, keeps_attempt_in, says_one, tells_in, tells, is_down, enters_in, leaves_in, soft, softens_in, client_falls_in, client_rises_with, client_rises_in}
use Rattle.world_model.specs.ExactWorlds.{numbered, NodeDoes, ClientDoes, refusal_of}
use Rattle.world_model.specs.Forgetting.{node_of, node_phase_of, client_of, client_phase_of, node_numbered, client_numbered, forget, setting_of, IsSound}
use Rattle.world_model.specs.Parts.{part, node_part, client_part, refused_in}
use Rattle.world_model.specs.Numbered.{numbered-there}
use Rattle.world_model.proofs.PhaseFacts.{client-idle, client-down, client-chosen, client-asking, client-inside, begins-needs, tries-needs, keeps-needs, MaySpeak, speaks_asking, speaks_inside, speaks_idle, tells-needs, enters-needs, MayLeave, leaves_asking, leaves_inside, leaves-needs, softens-needs, client-falls-needs, old-needs, new-needs, node-down, node-idle, node-decided, node-stored, none-tried, some-tried, station-tries-needs, station-keeps-needs, says-needs, node-falls-needs, node-old-needs, node-new-needs, switches-needs}

-- the turn is one that the actor's own part doesn't refuse
pub record MayTurn (A : Type 0) (turns : Turns A) : Type 0 where
  pub turn : Turn A
  pub does : turns ≡ Ok turn

acts-may : {A : Type 0} (turns : Turns A) (a : A) (done : Effect) → turns ≡ acts a done → MayTurn A turns
acts-may turns a done h = record { turn = Acts a done; does = h }

-- the client's turns

pub begins-may : (b : List Ballot) (c : ℕ) (m : Mode) (x : List ℕ) (place : ℕ) (k : ExactClient) (after : Client) → Begins b c m x place (client_of k) after → MayTurn ExactClient (begins_in b c m x place k k.phase)
begins-may b c m x place k after h =
    let n = begins-needs h in
    let next = client_in k (client.Chosen (next_ticket c m x k.kept) place) in
    let turn = acts next (effect.Chose (k.kept + 1)) in
    let there : has_place b place ≡ true = and_from (nat_le 1 place) (nat_le place (length b)) (le-leb 1 place n.2.0) (le-leb place (length b) n.2.1) in
    acts-may (begins_in b c m x place k k.phase) next (effect.Chose (k.kept + 1))
    (ap (begins_in b c m x place k) (client-idle k.phase n.0)
    ∙ ap (λ e. cond e (begins_by b place turn) (Err fault.AttemptsSpent)) (lt-ltb k.kept MAX_ATTEMPT n.1)
    ∙ ap (λ e. cond e turn (Err fault.NoSuchPlace)) there)

pub tries-attempt-may : (k : ExactClient) (after : Client) → TriesAttempt (client_of k) after → MayTurn ExactClient (tries_attempt_in k k.phase)
tries-attempt-may k after h =
    let n = tries-needs h in
    acts-may (tries_attempt_in k k.phase) (record { kept = k.kept; tried = Some n.0.attempt; phase = k.phase }) effect.Tried
    (ap (tries_attempt_in k) (client-chosen k.phase n.0 n.1 n.2) ∙ ap (tries_attempt_with k n.0) n.3)

pub keeps-attempt-may : (k : ExactClient) (after : Client) → KeepsAttempt (client_of k) after → MayTurn ExactClient (keeps_attempt_in k k.phase)
keeps-attempt-may k after h =
    let n = keeps-needs h in
    acts-may (keeps_attempt_in k k.phase) (record { kept = n.2; tried = None; phase = client.Asking (first_of n.0 n.1) }) effect.Kept
    (ap (keeps_attempt_in k) (client-chosen k.phase n.0 n.1 n.3) ∙ ap (keeps_attempt_with n.0 n.1) n.4)

pub tells-may : (b : List Ballot) (c n : ℕ) (k : ExactClient) (said : List Message) → HasAnyNode b n → Tells c n (client_of k) said → MayTurn ExactClient (tells b c n k)
tells-may b c n k said known h =
    let may = go (tells-needs h) in
    record { turn = may.turn; does = ap (λ t. cond t (tells_in c n k k.phase) (Err fault.UnknownActor)) is_known ∙ may.does }
  where
    is_known : is_node_of (node_count b) n ≡ true
    is_known = and_from (nat_le 1 n) (nat_le n (node_count b)) (le-leb 1 n known.0) (le-leb n (node_count b) known.1)

    go : MaySpeak (client_of k) → MayTurn ExactClient (tells_in c n k k.phase)
    go (speaks_asking p e) = record { turn = _; does = ap (tells_in c n k) (client-asking k.phase p e).1 }
    go (speaks_inside p e) = record { turn = _; does = ap (tells_in c n k) (client-inside k.phase p e).1 }
    go (speaks_idle e some) =
        record {
          turn = _;
          does = ap (tells_in c n k) (client-idle k.phase e) ∙ ap (λ b. cond b (Err fault.NothingToSay) (says_one k (message.Release n c k.kept))) (ne_eqb k.kept 0 (λ z. absurd (omega (arith, some, z))));
        }

pub awake : (p : ExactClientPhase) → client_phase_of p ≢ ClientDown → is_down p ≡ false
awake client.Down apart = absurd (apart refl)
awake client.Idle apart = refl
awake (client.Chosen t place) apart = refl
awake (client.Asking p) apart = refl
awake (client.Inside p) apart = refl

pub enters-may : (b : List Ballot) (k : ExactClient) (after : Client) → Enters b (client_of k) after → MayTurn ExactClient (enters_in b k k.phase)
enters-may b k after h =
    let n = enters-needs h in
    let a = client-asking k.phase n.0 n.1 in
    let enough : needed (ballot_at b a.0.place) a.0.ticket.mode ≤ votes_of (ballot_at b a.0.place) (has_node a.0.granted) = subst (λ (p : Present). needed (ballot_at b p.place) p.ticket.mode ≤ votes_of (ballot_at b p.place) p.granted) (sym a.2) n.2 in
    acts-may (enters_in b k k.phase) (client_in k (client.Inside a.0)) effect.Inside
    (ap (enters_in b k) a.1 ∙ ap (λ e. cond e (acts (client_in k (client.Inside a.0)) effect.Inside) (Err fault.NoQuorum)) (le-leb (needed (ballot_at b a.0.place) a.0.ticket.mode) (votes_of (ballot_at b a.0.place) (has_node a.0.granted)) enough))

pub leaves-may : (k : ExactClient) (after : Client) → Leaves (client_of k) after → MayTurn ExactClient (leaves_in k k.phase)
leaves-may k after h = go (leaves-needs h)
  where
    go : MayLeave (client_of k) → MayTurn ExactClient (leaves_in k k.phase)
    go (leaves_asking p e) = acts-may (leaves_in k k.phase) (client_in k client.Idle) effect.Outside (ap (leaves_in k) (client-asking k.phase p e).1)
    go (leaves_inside p e) = acts-may (leaves_in k k.phase) (client_in k client.Idle) effect.Outside (ap (leaves_in k) (client-inside k.phase p e).1)

pub softens-may : (k : ExactClient) (after : Client) → Softens (client_of k) after → MayTurn ExactClient (softens_in k k.phase)
softens-may k after h =
    let n = softens-needs h in
    let a = client-inside k.phase n.0 n.1 in
    let writes : a.0.ticket.mode ≡ Write = ap (λ (p : Present). p.ticket.mode) a.2 ∙ n.2 in
    let whole : a.0.softened ≡ false = ap (λ (p : Present). p.softened) a.2 ∙ n.3 in
    let may : (is_write a.0.ticket.mode && not a.0.softened) ≡ true = and_from (is_write a.0.ticket.mode) (not a.0.softened) (ap is_write writes) (ap not whole) in
    let next = client_in k (client.Inside (soft a.0)) in
    acts-may (softens_in k k.phase) next effect.Softened
    (ap (softens_in k) a.1 ∙ ap (λ e. cond e (acts next effect.Softened) (Err fault.WrongPhase)) may)

pub client-falls-may : (k : ExactClient) (after : Client) → ClientFalls (client_of k) after → MayTurn ExactClient (client_falls_in k k.phase)
client-falls-may k after h = go k.phase (client-falls-needs h)
  where
    go : (p : ExactClientPhase) → client_phase_of p ≢ ClientDown → MayTurn ExactClient (client_falls_in k p)
    go client.Down apart = absurd (apart refl)
    go client.Idle apart = record { turn = _; does = refl }
    go (client.Chosen t place) apart = record { turn = _; does = refl }
    go (client.Asking p) apart = record { turn = _; does = refl }
    go (client.Inside p) apart = record { turn = _; does = refl }

pub client-rises-may : (age : Age) (k : ExactClient) (after : Client) → ClientRises age (client_of k) after → MayTurn ExactClient (client_rises_in age k k.phase)
client-rises-may Old k after h =
    acts-may (client_rises_in Old k k.phase) (record { kept = k.kept; tried = None; phase = client.Idle }) effect.Up (ap (client_rises_in Old k) (client-down k.phase (old-needs h)))
client-rises-may New k after h =
    let n = new-needs h in
    acts-may (client_rises_in New k k.phase) (record { kept = n.0; tried = None; phase = client.Idle }) effect.Up (ap (client_rises_in New k) (client-down k.phase n.1) ∙ ap (client_rises_with New k.kept) n.2)

-- the node's turns

pub tries-station-may : (v : ExactNode) (after : Node) → TriesStation (node_of v) after → MayTurn ExactNode (tries_station_in v v.phase)
tries-station-may v after h =
    let n = station-tries-needs h in
    let p = node-decided v.phase n.0 n.1 n.2 in
    acts-may (tries_station_in v v.phase) (record { kept = v.kept; tried = Some p.0; phase = v.phase }) effect.Tried (ap (tries_station_in v) p.2 ∙ ap (tries_station_with v p.0) (none-tried v.tried n.3))

pub keeps-station-may : (v : ExactNode) (after : Node) → KeepsStation (node_of v) after → MayTurn ExactNode (keeps_station_in v v.phase)
keeps-station-may v after h =
    let n = station-keeps-needs h in
    let p = node-decided v.phase n.0 n.2 n.3 in
    let u = some-tried v.tried n.1 n.4 in
    acts-may (keeps_station_in v v.phase) (record { kept = u.0; tried = None; phase = node.Stored p.1 }) effect.Kept (ap (keeps_station_in v) p.2 ∙ ap (keeps_station_with p.1) u.1)

pub says-may : (v : ExactNode) (after : Node) (said : List Message) → Says (node_of v) after said → MayTurn ExactNode (says_in v v.phase)
says-may v after said h = let p = node-stored v.phase said (says-needs h) in record { turn = _; does = ap (says_in v) p.1 }

pub node-falls-may : (v : ExactNode) (after : Node) → NodeFalls (node_of v) after → MayTurn ExactNode (node_falls_in v v.phase)
node-falls-may v after h = go v.phase (node-falls-needs h)
  where
    go : (p : ExactNodePhase) → node_phase_of p ≢ NodeDown → MayTurn ExactNode (node_falls_in v p)
    go node.Down apart = absurd (apart refl)
    go node.Idle apart = record { turn = _; does = refl }
    go (node.Decided s replies) apart = record { turn = _; does = refl }
    go (node.Stored replies) apart = record { turn = _; does = refl }

pub node-rises-may : (age : Age) (v : ExactNode) (after : Node) → NodeRises age (node_of v) after → MayTurn ExactNode (node_rises_in age v v.phase)
node-rises-may Old v after h =
    acts-may (node_rises_in Old v v.phase) (record { kept = v.kept; tried = None; phase = node.Idle }) effect.Up (ap (node_rises_in Old v) (node-down v.phase (node-old-needs h)))
node-rises-may New v after h =
    let n = node-new-needs h in
    let u = some-tried v.tried n.0 n.2 in
    acts-may (node_rises_in New v v.phase) (record { kept = u.0; tried = None; phase = node.Idle }) effect.Up (ap (node_rises_in New v) (node-down v.phase n.1) ∙ ap (node_rises_with New v.kept) u.1)

pub switches-may : (n : ℕ) (p : Problem) (v : ExactNode) (after : Node) → Switches n p (node_of v) after → MayTurn ExactNode (switches_in n p v v.phase)
switches-may n p v after h = acts-may (switches_in n p v v.phase) (switched_to n p v) (effect.Switched (is_another p v)) (ap (switches_in n p v) (node-idle v.phase (switches-needs h)))

-- an actor of a change is there

pub record ClientThere (w : ExactWorld) (c : ℕ) (before : Client) : Type 0 where
  pub client : ExactClient
  pub was : numbered w.clients c ≡ Some client
  pub seen : client_of client ≡ before

pub client-there : (w : ExactWorld) (c : ℕ) (before after : Client) (said : List Message) (u : World) → OfClient (setting_of w) c (forget w) before after said u → ClientThere w c before
client-there w c before after said u h =
    let k = numbered-there w.clients c h.known.0 h.known.1 in
    record { client = k.0; was = k.1; seen = sym (ap client_numbered k.1) ∙ h.was }

pub record NodeThere (w : ExactWorld) (n : ℕ) (before : Node) : Type 0 where
  pub node : ExactNode
  pub was : numbered w.nodes n ≡ Some node
  pub seen : node_of node ≡ before

pub node-there : (w : ExactWorld) (n : ℕ) (before after : Node) (said : List Message) (u : World) → IsSound w → OfNode (setting_of w) n (forget w) before after said u → NodeThere w n before
node-there w n before after said u sound h =
    let v = numbered-there w.nodes n h.known.0 (omega (arith, h.known.1, sound.nodes)) in
    record { node = v.0; was = v.1; seen = sym (ap node_numbered v.1) ∙ h.was }

-- and its own part refuses nothing

pub client-free : (w : ExactWorld) (c : ℕ) (turn : List Ballot → ExactClient → Turns ExactClient) (k : ExactClient) → numbered w.clients c ≡ Some k → MayTurn ExactClient (turn w.ballots k) →
    refused_in w.ballots (ClientDoes c turn) (part w (actor.Client c)) ≡ None
client-free w c turn k was may = ap (λ o. refused_in w.ballots (ClientDoes c turn) (client_part o)) was ∙ ap refusal_of may.does

pub node-free : (w : ExactWorld) (n : ℕ) (turn : ExactNode → Turns ExactNode) (v : ExactNode) → numbered w.nodes n ≡ Some v → MayTurn ExactNode (turn v) →
    refused_in w.ballots (NodeDoes n turn) (part w (actor.Node n)) ≡ None
node-free w n turn v was may = ap (λ o. refused_in w.ballots (NodeDoes n turn) (node_part o)) was ∙ ap refusal_of may.does

pub by-client-free : (R : Client → Client → Type 0) (w : ExactWorld) (c : ℕ) (turn : List Ballot → ExactClient → Turns ExactClient) (u : World) → ByClient (setting_of w) (forget w) u c R →
    ((k : ExactClient) (after : Client) → R (client_of k) after → MayTurn ExactClient (turn w.ballots k)) → refused_in w.ballots (ClientDoes c turn) (part w (actor.Client c)) ≡ None
by-client-free R w c turn u h may =
    let k = client-there w c h.0 h.1 [] u h.3 in
    client-free w c turn k.client k.was (may k.client h.1 (subst (λ b. R b h.1) (sym k.seen) h.2))

pub by-node-free : (R : Node → Node → Type 0) (w : ExactWorld) (n : ℕ) (turn : ExactNode → Turns ExactNode) (u : World) → IsSound w → ByNode (setting_of w) (forget w) u n R →
    ((v : ExactNode) (after : Node) → R (node_of v) after → MayTurn ExactNode (turn v)) → refused_in w.ballots (NodeDoes n turn) (part w (actor.Node n)) ≡ None
by-node-free R w n turn u sound h may =
    let v = node-there w n h.0 h.1 [] u sound h.3 in
    node-free w n turn v.node v.was (may v.node h.1 (subst (λ b. R b h.1) (sym v.seen) h.2))
