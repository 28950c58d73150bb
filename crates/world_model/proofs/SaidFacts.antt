-- What a step that was taken has said, and where it has left the actors.
use Rattle.std.proofs.Common.{◌≡◌, ◌≢◌, ℕ, ◌+◌, List, [], ◌++◌, length, Option, None, Some, Ok, Err, refl, sym, ◌∙◌, ap, subst, inl}
use Rattle.std.proofs.Math.ListN.{length-append}
use Rattle.std.proofs.lemmas.List.{append-nil}
use Rattle.lock_messages.specs.declared.ids.Actor.TheVariants as actor
use Rattle.lock_messages.specs.declared.messages.Message.{Message}
use Rattle.lock_model.specs.Decisions.{Among}
use Rattle.world_model.specs.declared.events.Effect.{Effect}
use Rattle.world_model.specs.declared.events.Event.{Event}
use Rattle.world_model.specs.declared.events.StepFault.TheVariants as fault
use Rattle.world_model.specs.declared.exact.ExactNode.{ExactNode}
use Rattle.world_model.specs.declared.exact.ExactClient.{ExactClient}
use Rattle.world_model.specs.declared.exact.ExactWorld.{ExactWorld}
use Rattle.world_model.specs.Worlds.{Setting}
use Rattle.world_model.specs.Turns.{Acts, Speaks, Reads, Turns}
use Rattle.world_model.specs.ExactWorlds.{numbered, Deed, NodeDoes, ClientDoes, deed_of, actor_in, actor_of}
use Rattle.world_model.specs.Forgetting.{forget, setting_of}
use Rattle.world_model.specs.Parts.{NoPart, NodePart, ClientPart, node_part, client_part, part, IsListFault, after_turn, after_in, turn_says, said_in, said_by}
use Rattle.world_model.proofs.ListFacts.{among-append}
use Rattle.world_model.proofs.Nearer.{Grows}
use Rattle.world_model.proofs.Told.{Kind, Told}
use Rattle.world_model.proofs.ClientTurns.{clients}
use Rattle.world_model.proofs.NodeTurns.{nodes}
use Rattle.world_model.proofs.Deeds.{ModelLaws, DeedTold, deed-told}
use Rattle.world_model.proofs.StepFacts.{DeedDone}

-- An event for which the list can't be full says nothing.

turn-silent : (A : Type 0) (q : Kind A) (s : Setting) (e : Event) (before : A) (ts : Turns A) → Told A q s e before ts → ¬ (IsListFault e fault.SentListFull) → turn_says ts ≡ []
turn-silent A q s e before (Err f) told none = refl
turn-silent A q s e before (Ok (Acts after done)) told none = refl
turn-silent A q s e before (Ok (Speaks after says done)) told none = absurd (none told.full)
turn-silent A q s e before (Ok (Reads number is_mine after done)) told none = refl

deed-silent : (x : ExactWorld) (e : Event) (d : Deed) → DeedTold (setting_of x) e d → ¬ (IsListFault e fault.SentListFull) → said_in x.ballots d (part x (actor_in d)) ≡ []
deed-silent x e (NodeDoes n turn) told none = go (numbered x.nodes n)
  where
    go : (o : Option ExactNode) → said_in x.ballots (NodeDoes n turn) (node_part o) ≡ []
    go None = refl
    go (Some v) = turn-silent ExactNode (nodes (setting_of x) n) (setting_of x) e v (turn v) (told v) none
deed-silent x e (ClientDoes c turn) told none = go (numbered x.clients c)
  where
    go : (o : Option ExactClient) → said_in x.ballots (ClientDoes c turn) (client_part o) ≡ []
    go None = refl
    go (Some k) = turn-silent ExactClient (clients (setting_of x) c) (setting_of x) e k (turn x.ballots k) (told k) none

pub said-nothing : ModelLaws → (x : ExactWorld) (e : Event) → ¬ (IsListFault e fault.SentListFull) → said_by x.ballots e (part x (actor_of e)) ≡ []
said-nothing laws x e none = deed-silent x e (deed_of e) (deed-told laws (setting_of x) e) none

-- parts are those of their actors

node-part-same : (o q : Option ExactNode) → node_part o ≡ node_part q → o ≡ q
node-part-same None None e = refl
node-part-same None (Some v) e = absurd (let z : NoPart ≡ NodePart v = e in cc)
node-part-same (Some v) None e = absurd (let z : NodePart v ≡ NoPart = e in cc)
node-part-same (Some v) (Some u) e = let z : NodePart v ≡ NodePart u = e in let same : v ≡ u = cc in ap Some same

client-part-same : (o q : Option ExactClient) → client_part o ≡ client_part q → o ≡ q
client-part-same None None e = refl
client-part-same None (Some v) e = absurd (let z : NoPart ≡ ClientPart v = e in cc)
client-part-same (Some v) None e = absurd (let z : ClientPart v ≡ NoPart = e in cc)
client-part-same (Some v) (Some u) e = let z : ClientPart v ≡ ClientPart u = e in let same : v ≡ u = cc in ap Some same

pub same-node : (x t : ExactWorld) (n : ℕ) → part t (actor.Node n) ≡ part x (actor.Node n) → numbered t.nodes n ≡ numbered x.nodes n
same-node x t n h = node-part-same (numbered t.nodes n) (numbered x.nodes n) h

pub same-client : (x t : ExactWorld) (c : ℕ) → part t (actor.Client c) ≡ part x (actor.Client c) → numbered t.clients c ≡ numbered x.clients c
same-client x t c h = client-part-same (numbered t.clients c) (numbered x.clients c) h

-- a node has done something: what it is then, and what it has said
pub record NodeDid (x t : ExactWorld) (n : ℕ) (after : ExactNode) (says : List Message) : Type 0 where
  pub setting : setting_of t ≡ setting_of x
  pub now : numbered t.nodes n ≡ Some after
  pub others : (k : ℕ) → k ≢ n → numbered t.nodes k ≡ numbered x.nodes k
  pub clients : (c : ℕ) → numbered t.clients c ≡ numbered x.clients c
  pub sent : t.sent ≡ x.sent ++ says

pub node-did : (x t : ExactWorld) (e : Event) (n : ℕ) (turn : ExactNode → Turns ExactNode) (v : ExactNode) (done : Effect) → numbered x.nodes n ≡ Some v → DeedDone x e (NodeDoes n turn) done t →
    NodeDid x t n (after_turn v (turn v) done) (turn_says (turn v))
node-did x t e n turn v done was d = record {
  setting = d.setting;
  now = node-part-same (numbered t.nodes n) (Some (after_turn v (turn v) done)) (d.own ∙ ap (λ o. after_in x.ballots (NodeDoes n turn) done (node_part o)) was);
  others = λ k apart. same-node x t k (d.others (actor.Node k) (λ q. apart (let z : actor.Node k ≡ actor.Node n = q in let same : k ≡ n = cc in same)));
  clients = λ c. same-client x t c (d.others (actor.Client c) (λ q. let z : actor.Client c ≡ actor.Node n = q in cc));
  sent = d.sent ∙ ap (λ o. x.sent ++ said_in x.ballots (NodeDoes n turn) (node_part o)) was;
}

-- what is said makes the list longer by as much, and only more is among it
pub said-length : (x t : ExactWorld) (says : List Message) → t.sent ≡ x.sent ++ says → length t.sent ≡ length x.sent + length says
said-length x t says sent = ap length sent ∙ length-append x.sent says

pub said-grows : (x t : ExactWorld) (says : List Message) → t.sent ≡ x.sent ++ says → Grows (forget x) (forget t)
said-grows x t says sent m h = subst (λ l. Among m l) (sym sent) ((among-append m x.sent says).1 (inl h))

pub nothing-said : (x t : ExactWorld) (says : List Message) → says ≡ [] → t.sent ≡ x.sent ++ says → t.sent ≡ x.sent
nothing-said x t says none sent = sent ∙ ap (λ l. x.sent ++ l) none ∙ append-nil x.sent
