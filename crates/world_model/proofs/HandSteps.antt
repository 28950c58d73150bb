-- Handing in: a client says what it has to say to a node, and the node takes it. What a decision has to bring
-- for this to be nearer, and that the hand can be made where there is a decision.
use Rattle.std.proofs.Common.{◌≡◌, ◌≢◌, ℕ, ◌+◌, ◌<◌, ◌≤◌, Bool, true, false, if◌then◌else◌, List, [], ◌∷◌, Option, None, Some, refl, sym, ◌∙◌, ap, subst, inl, inr, arith}
use Rattle.std.specs.List.{list_any}
use Rattle.lock_messages.specs.declared.ids.Actor.TheVariants as actor
use Rattle.lock_messages.specs.declared.tickets.Ticket.{Ticket}
use Rattle.lock_messages.specs.declared.messages.Message.{Message}
use Rattle.lock_messages.specs.declared.messages.Message.TheVariants.{Request, Release}
use Rattle.lock_messages.specs.Messages.{is_for_node}
use Rattle.lock_model.specs.Ballots.{HasAnyNode}
use Rattle.lock_model.specs.Stations.{Station}
use Rattle.lock_model.specs.Decisions.{Among, Decides}
use Rattle.world_model.specs.declared.events.Event.TheVariants as event
use Rattle.world_model.specs.Worlds.{NodePhase, NodeDown, NodeIdle, Decided, Stored, Node, Present, ClientPhase, ClientDown, ClientIdle, Chosen, Asking, IsIn, Client, World, Setting, HasClient, OfNode, Tells, asks, asks_inside, tells_softened, releases, Takes, takes, takes_same}
use Rattle.world_model.specs.declared.ways.Move.TheVariants.{Hand}
use Rattle.world_model.specs.declared.ways.Want.{Want}
use Rattle.world_model.specs.Advice.{coming, coming_in, asks_for, is_grant, client_numbers}
use Rattle.world_model.specs.Ways.{IsUp, StandsInWay}
use Rattle.world_model.specs.ExactWays.{total_over}
use Rattle.world_model.proofs.Costs.{finish_cost, block_cost, promises, ask_cost, node_cost, cost}
use Rattle.world_model.specs.ExactWays.{IsLeft}
use Rattle.world_model.proofs.Nearer.{Fine, Hands, Goes, Grows, OnlyNode, costs_at, node-nearer}
use Rattle.world_model.proofs.FineFacts.{only-node, only-client, same-clients, fine-of-node, fine-of-client}
use Rattle.world_model.proofs.Puts.{put_node, put-node, put_client, put-client}
use Rattle.world_model.proofs.InTheWay.{OthersLessen, less-stands}

-- what a client says

pub says-release : (d n : ℕ) (k : Client) (m : Message) → Tells d n k (m ∷ []) → k.phase ≡ ClientIdle → m ≡ Release n d k.kept
says-release d n k m tells is = go k (m ∷ []) tells is refl
  where
    go : (k : Client) (said : List Message) → Tells d n k said → k.phase ≡ ClientIdle → said ≡ m ∷ [] → m ≡ Release n d k.kept
    go k said (asks kept tried p) e same = absurd (let z : Asking p ≡ ClientIdle = e in cc)
    go k said (asks_inside kept tried p hard) e same = absurd (let z : IsIn p ≡ ClientIdle = e in cc)
    go k said (tells_softened kept tried p soft) e same = absurd (let z : IsIn p ≡ ClientIdle = e in cc)
    go k said (releases kept tried some) e same = let z : Release n d kept ∷ [] ≡ m ∷ [] = same in cc

pub says-request : (c n : ℕ) (k : Client) (m : Message) (p : Present) → Tells c n k (m ∷ []) → k.phase ≡ Asking p → m ≡ Request n p.ticket
says-request c n k m p tells is = go k (m ∷ []) tells is refl
  where
    go : (k : Client) (said : List Message) → Tells c n k said → k.phase ≡ Asking p → said ≡ m ∷ [] → m ≡ Request n p.ticket
    go k said (asks kept tried q) e same =
        let z : Request n q.ticket ∷ [] ≡ m ∷ [] = same in
        let one : m ≡ Request n q.ticket = cc in
        let f : Asking q ≡ Asking p = e in
        let r : q ≡ p = cc in
        one ∙ ap (λ (x : Present). Request n x.ticket) r
    go k said (asks_inside kept tried q hard) e same = absurd (let z : IsIn q ≡ Asking p = e in cc)
    go k said (tells_softened kept tried q soft) e same = absurd (let z : IsIn q ≡ Asking p = e in cc)
    go k said (releases kept tried some) e same = absurd (let z : ClientIdle ≡ Asking p = e in cc)

pub tells-release : (d n : ℕ) (k : Client) → k.phase ≡ ClientIdle → 0 < k.kept → Tells d n k (Release n d k.kept ∷ [])
tells-release d n k is some =
    subst (λ (x : Client). Tells d n x (Release n d k.kept ∷ [])) (λ i. record { kept = k.kept; tried = k.tried; phase = sym is i }) (releases k.kept k.tried some)

pub tells-request : (c n : ℕ) (k : Client) (p : Present) → k.phase ≡ Asking p → Tells c n k (Request n p.ticket ∷ [])
tells-request c n k p is =
    subst (λ (x : Client). Tells c n x (Request n p.ticket ∷ [])) (λ i. record { kept = k.kept; tried = k.tried; phase = sym is i }) (asks k.kept k.tried p)

-- what a node comes to by taking a message
record TakenTo (m : Message) (before after : Node) : Type 0 where
  replies : List Message
  decides : Decides before.kept m (coming after) replies
  finish : finish_cost after.phase after.tried ≤ 3
  promised : (n : ℕ) (t : Ticket) → promises n t after.phase ≡ list_any (is_grant n t) replies
  up : after.phase ≢ NodeDown

taken-to : (m : Message) (before after : Node) → Takes m before after → TakenTo m before after
taken-to m before after (takes kept s tried replies h) = record {
  replies = replies;
  decides = h;
  finish = at-most tried;
  promised = λ n t. refl;
  up = λ e. (let z : Decided s replies ≡ NodeDown = e in cc);
}
  where
    at-most : (o : Option Station) → finish_cost (Decided s replies) o ≤ 3
    at-most None = omega arith
    at-most (Some u) = omega arith
taken-to m before after (takes_same kept tried replies h) = record {
  replies = replies;
  decides = h;
  finish = omega arith;
  promised = λ n t. refl;
  up = λ e. (let z : Stored replies ≡ NodeDown = e in cc);
}

-- A decision pays: nobody comes to stand in the way, and what there is to do is less by more than the node has
-- to do to finish.
pub record Pays (s : Setting) (a : Want) (n : ℕ) (w v : World) (u : Station) (replies : List Message) : Type 0 where
  pub less : OthersLessen a.client (w.nodes n).kept u
  pub cheaper : (phase : NodePhase) → ((t : Ticket) → promises n t phase ≡ list_any (is_grant n t) replies) →
      3 + (total_over (block_cost a u) (client_numbers s) + ask_cost a (w.clients a.client).phase v.sent n phase)
      < total_over (block_cost a (w.nodes n).kept) (client_numbers s) + ask_cost a (w.clients a.client).phase w.sent n NodeIdle

module _ (s : Setting) (chosen : ℕ → Bool) (a : Want) (w : World) (n d : ℕ) (v : World) (h : Hands s d n w v) where
  abbrev before : Node
  before = let by = h.taken in by.0

  abbrev after : Node
  after = let by = h.taken in by.1

  step : Takes h.message before after
  step = let by = h.taken in by.2

  of : OfNode s n h.between before after [] v
  of = let by = h.taken in by.3

  told : TakenTo h.message before after
  told = taken-to h.message before after step

  same-between : (c : ℕ) → (h.between).clients c ≡ w.clients c
  same-between = same-clients s d w h.before (h.message ∷ []) h.between h.said

  same-after : (c : ℕ) → v.clients c ≡ w.clients c
  same-after c = of.clients c ∙ same-between c

  pub hand-grows : Grows w v
  hand-grows m x = (of.sends m).1 (inl ((h.said.sends m).1 (inl x)))

  hand-only : OnlyNode s n w v
  hand-only = record {
    known = h.node;
    others = λ k apart. of.others k apart ∙ h.said.nodes k;
    clients = same-after;
    grows = hand-grows;
  }

  -- the world in between is fine
  between-fine : Fine s chosen a w → IsUp w (actor.Client d) → Fine s chosen a h.between
  between-fine fine up =
      fine-of-client s chosen a w (event.SayTo d n) h.between d fine (h.node, (h.before, h.message ∷ [], h.tells, h.said))
      (only-client s d w h.before h.before (h.message ∷ []) h.between h.said)
      (λ e. up (ap (λ (k : Client). k.phase) (sym (same-between d)) ∙ e))
      (subst (λ (k : Client). IsLeft a k.kept k.phase) (sym (same-between a.client)) fine.left)

  -- and so is the one after, where nobody comes to stand in the way
  after-fine : Fine s chosen a w → IsUp w (actor.Client d) → (w.nodes n).phase ≡ NodeIdle → OthersLessen a.client (w.nodes n).kept (coming after) → Fine s chosen a v
  after-fine fine up idle less =
      fine-of-node s chosen a h.between (event.Take n 0) v n (between-fine fine up) (h.message, sent, h.mine, h.taken)
      (only-node s n h.between before after [] v of) (λ e. told.up (ap (λ (x : Node). x.phase) (sym of.is) ∙ e)) stands
    where
      sent : Among h.message (h.between).sent
      sent = (h.said.sends h.message).1 (inr (inl refl))

      stands : (e : ℕ) → StandsInWay a (coming (v.nodes n)) e → StandsInWay a (coming ((h.between).nodes n)) e
      stands e x =
          subst (λ (y : Node). StandsInWay a (coming y) e) (sym (h.said.nodes n))
          (subst (λ t. StandsInWay a t e) (ap (coming_in (w.nodes n).kept) (sym idle))
          (less-stands a (w.nodes n).kept (coming after) less e (subst (λ (y : Node). StandsInWay a (coming y) e) of.is x)))

  -- The hand brings the client nearer, where each decision pays.
  pub hand-nearer : Fine s chosen a w → chosen n ≡ true → IsUp w (actor.Client d) → (w.nodes n).phase ≡ NodeIdle →
      ((u : Station) (replies : List Message) → Decides (w.nodes n).kept h.message u replies → Pays s a n w v u replies) → Fine s chosen a v × (cost s chosen a v < cost s chosen a w)
  hand-nearer fine is up idle all = (after-fine fine up idle pays.less, node-nearer s chosen a w v n hand-only is less)
    where
      pays : Pays s a n w v (coming after) told.replies
      pays = all (coming after) told.replies (subst (λ (x : Node). Decides x.kept h.message (coming after) told.replies) (sym of.was ∙ h.said.nodes n) told.decides)

      k : ClientPhase
      k = (w.clients a.client).phase

      costs-before : costs_at s a w n ≡ 0 + (total_over (block_cost a (w.nodes n).kept) (client_numbers s) + ask_cost a k w.sent n NodeIdle)
      costs-before = ap (λ p. finish_cost p (w.nodes n).tried + (total_over (block_cost a (coming_in (w.nodes n).kept p)) (client_numbers s) + ask_cost a k w.sent n p)) idle

      costs-after : costs_at s a v n ≡ finish_cost after.phase after.tried + (total_over (block_cost a (coming after)) (client_numbers s) + ask_cost a k v.sent n after.phase)
      costs-after = ap (λ (x : Node). node_cost s a (v.clients a.client).phase v.sent n x) of.is ∙ ap (λ (x : Client). node_cost s a x.phase v.sent n after) (same-after a.client)

      less : costs_at s a v n < costs_at s a w n
      less = omega (arith, costs-before, costs-after, told.finish, pays.cheaper after.phase (told.promised n))

-- The hand can be made, where there is a decision.
pub hand-goes : (s : Setting) (a : Want) (w : World) (n d : ℕ) (m : Message) (u : Station) (replies : List Message) → HasAnyNode s.ballots n → HasClient s d → (w.nodes n).phase ≡ NodeIdle → Tells d n (w.clients d) (m ∷ []) →
    is_for_node m n ≡ true → Decides (w.nodes n).kept m u replies → Goes s a w (Hand d n)
hand-goes s a w n d m u replies node client idle tells mine decides = (
  put_node between n after [],
  record {
    before = w.clients d;
    message = m;
    between = between;
    node = node;
    tells = tells;
    said = put-client s d w (w.clients d) (w.clients d) (m ∷ []) client refl;
    mine = mine;
    taken = (
      before,
      after,
      takes (w.nodes n).kept u (w.nodes n).tried replies decides,
      put-node s n between before after [] node (λ i. record { kept = (w.nodes n).kept; tried = (w.nodes n).tried; phase = idle i }),
    );
  },
)
  where
    before : Node
    before = record { kept = (w.nodes n).kept; tried = (w.nodes n).tried; phase = NodeIdle }

    after : Node
    after = record { kept = (w.nodes n).kept; tried = (w.nodes n).tried; phase = Decided u replies }

    between : World
    between = put_client w d (w.clients d) (m ∷ [])

-- what asking costs at a node that is idle is the most that it can cost
pub idle-asks : (a : Want) (k : ClientPhase) (sent : List Message) (n : ℕ) (phase : NodePhase) → ask_cost a k sent n phase ≤ ask_cost a k sent n NodeIdle
idle-asks a ClientDown sent n phase = omega arith
idle-asks a ClientIdle sent n phase = omega arith
idle-asks a (Chosen t place) sent n phase = omega arith
idle-asks a (Asking p) sent n phase = go (asks_for a p) (p.granted n) (list_any (is_grant n p.ticket) sent) (promises n p.ticket phase)
  where
    go : (b c e f : Bool) → (if b then (if c then 0 else (if e then 1 else (if f then 2 else 7))) else 7) ≤ (if b then (if c then 0 else (if e then 1 else 7)) else 7)
    go true true e f = omega arith
    go true false true f = omega arith
    go true false false true = omega arith
    go true false false false = omega arith
    go false c e f = omega arith
idle-asks a (IsIn p) sent n phase = omega arith
