-- What three of the exact steps lead to, where the message is known.
use Rattle.std.proofs.Common.{◌≡◌, ℕ, Bool, true, false, cond, nat_le, List, [], ◌∷◌, Option, None, Some, Ok, Err, refl, sym, ◌∙◌, ap, subst, arith}
use Rattle.std.proofs.lemmas.Bool.{ne_eqb, le-leb, and_from}
use Rattle.lock_messages.specs.declared.messages.Message.{Message}
use Rattle.lock_messages.specs.declared.messages.Message.TheVariants as message
use Rattle.lock_messages.specs.Messages.{is_for_node, is_for_client}
use Rattle.lock_model.specs.Ballots.{Ballot, HasAnyNode, node_count}
use Rattle.lock_model.specs.ExactHearing.{is_node_of}
use Rattle.world_model.specs.declared.events.Effect.{Effect}
use Rattle.world_model.specs.declared.events.Effect.TheVariants as effect
use Rattle.world_model.specs.declared.events.Event.TheVariants as event
use Rattle.world_model.specs.declared.events.StepFault.TheVariants as fault
use Rattle.world_model.specs.declared.exact.ExactNode.{ExactNode}
use Rattle.world_model.specs.declared.exact.ExactNodePhase.{ExactNodePhase}
use Rattle.world_model.specs.declared.exact.ExactNodePhase.TheVariants as node
use Rattle.world_model.specs.declared.exact.ExactClient.{ExactClient}
use Rattle.world_model.specs.declared.exact.ExactWorld.{ExactWorld}
use Rattle.world_model.specs.Turns.{reads}
use Rattle.world_model.specs.ExactNodes.{decided_on, takes_in}
use Rattle.world_model.specs.Worlds.{Present, Client, Tells, asks, asks_inside, tells_softened, releases}
use Rattle.world_model.specs.ExactClients.{says_one, tells_in, tells, after_hearing, heard_in, is_down, hears}
use Rattle.world_model.specs.ExactWorlds.{numbered, Stepped, with_node_at, has_room, next_number, sending, with_client_at, read_in, finishes, by_actor, step}
use Rattle.world_model.specs.Forgetting.{client_of}
use Rattle.world_model.proofs.PhaseFacts.{client-idle, client-asking, client-inside}

-- a message that is read is for the actor
read-shape : {A : Type 0} (into : A → ExactWorld) (is_mine : Message → Bool) (after : Message → A) (effect : Message → Effect) (o : Option Message) (m : Message) (s : Stepped) → o ≡ Some m → read_in into is_mine after effect o ≡ Ok s →
    (is_mine m ≡ true) × (s.world ≡ into (after m))
read-shape into is_mine after effect o m s there h = go (is_mine m) refl (subst (λ x. read_in into is_mine after effect x ≡ Ok s) there h)
  where
    it : Stepped
    it = record { world = into (after m); effect = effect m }

    go : (b : Bool) → is_mine m ≡ b → cond b (Ok it) (Err fault.NotAddressed) ≡ Ok s → (is_mine m ≡ true) × (s.world ≡ into (after m))
    go true is q = (is, (let same : it ≡ s = cc in ap (λ (x : Stepped). x.world) (sym same)))
    go false is q = absurd (let z : Err fault.NotAddressed ≡ Ok s = q in cc)

-- a node takes a message: it was idle, and has decided on it
pub record TookSo (x : ExactWorld) (n : ℕ) (m : Message) (v : ExactWorld) : Type 0 where
  pub taker : ExactNode
  pub was : numbered x.nodes n ≡ Some taker
  pub idle : taker.phase ≡ node.Idle
  pub mine : is_for_node m n ≡ true
  pub is : v ≡ with_node_at x n (decided_on taker m)

pub take-shape : (x : ExactWorld) (n k : ℕ) (m : Message) (s : Stepped) → numbered x.sent k ≡ Some m → step x (event.Take n k) ≡ Ok s → TookSo x n m s.world
unfolding step
take-shape x n k m s there h = found (numbered x.nodes n) refl h
  where
    idle : (v : ExactNode) → numbered x.nodes n ≡ Some v → (p : ExactNodePhase) → v.phase ≡ p → finishes x (with_node_at x n) (takes_in n k v p) ≡ Ok s → TookSo x n m s.world
    idle v was node.Down is q = absurd (let z : Err fault.Down ≡ Ok s = q in cc)
    idle v was node.Idle is q =
        let r = read-shape (with_node_at x n) (λ y. is_for_node y n) (decided_on v) _ (numbered x.sent k) m s there q in
        record { taker = v; was = was; idle = is; mine = r.0; is = r.1 }
    idle v was (node.Decided u replies) is q = absurd (let z : Err fault.WrongPhase ≡ Ok s = q in cc)
    idle v was (node.Stored replies) is q = absurd (let z : Err fault.WrongPhase ≡ Ok s = q in cc)

    found : (o : Option ExactNode) → numbered x.nodes n ≡ o → by_actor x (with_node_at x n) o (λ v. takes_in n k v v.phase) ≡ Ok s → TookSo x n m s.world
    found None was q = absurd (let z : Err fault.UnknownActor ≡ Ok s = q in cc)
    found (Some v) was q = idle v was v.phase refl q

-- a client hears a message
pub record HeardSo (x : ExactWorld) (c : ℕ) (m : Message) (v : ExactWorld) : Type 0 where
  pub hearer : ExactClient
  pub was : numbered x.clients c ≡ Some hearer
  pub up : is_down hearer.phase ≡ false
  pub mine : is_for_client m c ≡ true
  pub is : v ≡ with_client_at x c (after_hearing (node_count x.ballots) c hearer m)

pub hear-shape : (x : ExactWorld) (c k : ℕ) (m : Message) (s : Stepped) → numbered x.sent k ≡ Some m → step x (event.Hear c k) ≡ Ok s → HeardSo x c m s.world
unfolding step
hear-shape x c k m s there h = found (numbered x.clients c) refl h
  where
    nodes : ℕ
    nodes = node_count x.ballots

    up : (j : ExactClient) → numbered x.clients c ≡ Some j → (b : Bool) → is_down j.phase ≡ b →
        finishes x (with_client_at x c) (cond b (Err fault.Down) (reads k (λ y. is_for_client y c) (after_hearing nodes c j) (λ y. effect.Heard y (heard_in nodes c j.kept j.phase y)))) ≡ Ok s → HeardSo x c m s.world
    up j was true is q = absurd (let z : Err fault.Down ≡ Ok s = q in cc)
    up j was false is q =
        let r = read-shape (with_client_at x c) (λ y. is_for_client y c) (after_hearing nodes c j) (λ y. effect.Heard y (heard_in nodes c j.kept j.phase y)) (numbered x.sent k) m s there q in
        record { hearer = j; was = was; up = is; mine = r.0; is = r.1 }

    found : (o : Option ExactClient) → numbered x.clients c ≡ o → by_actor x (with_client_at x c) o (hears nodes c k) ≡ Ok s → HeardSo x c m s.world
    found None was q = absurd (let z : Err fault.UnknownActor ≡ Ok s = q in cc)
    found (Some j) was q = up j was (is_down j.phase) refl q

-- A client says just what it tells.

tells-exactly : (b : List Ballot) (c n : ℕ) (k : ExactClient) (j : Client) (m : Message) → Tells c n j (m ∷ []) → j ≡ client_of k → tells_in c n k k.phase ≡ says_one k m
tells-exactly b c n k _ _ (asks kept tried p) e =
    let q = client-asking k.phase p (sym (ap (λ (x : Client). x.phase) e)) in
    ap (tells_in c n k) q.1 ∙ ap (λ (x : Present). says_one k (message.Request n x.ticket)) q.2
tells-exactly b c n k _ _ (asks_inside kept tried p whole) e =
    let q = client-inside k.phase p (sym (ap (λ (x : Client). x.phase) e)) in
    ap (tells_in c n k) q.1
    ∙ ap (λ (x : Present). says_one k (cond x.softened (message.Soften n c x.ticket.attempt) (message.Request n x.ticket))) q.2
    ∙ ap (λ soft. says_one k (cond soft (message.Soften n c p.ticket.attempt) (message.Request n p.ticket))) whole
tells-exactly b c n k _ _ (tells_softened kept tried p so) e =
    let q = client-inside k.phase p (sym (ap (λ (x : Client). x.phase) e)) in
    ap (tells_in c n k) q.1
    ∙ ap (λ (x : Present). says_one k (cond x.softened (message.Soften n c x.ticket.attempt) (message.Request n x.ticket))) q.2
    ∙ ap (λ soft. says_one k (cond soft (message.Soften n c p.ticket.attempt) (message.Request n p.ticket))) so
tells-exactly b c n k _ _ (releases kept tried some) e =
    let idle = client-idle k.phase (sym (ap (λ (x : Client). x.phase) e)) in
    let same : kept ≡ k.kept = ap (λ (x : Client). x.kept) e in
    ap (tells_in c n k) idle
    ∙ ap (λ z. cond z (Err fault.NothingToSay) (says_one k (message.Release n c k.kept))) (ne_eqb k.kept 0 (λ z. absurd (omega (arith, some, z, same))))
    ∙ ap (λ a. says_one k (message.Release n c a)) (sym same)

-- and it is sent where there is room
pub says-shape : (x : ExactWorld) (c n : ℕ) (k : ExactClient) (m : Message) → HasAnyNode x.ballots n → numbered x.clients c ≡ Some k → Tells c n (client_of k) (m ∷ []) →
    step x (event.SayTo c n) ≡ cond (has_room x (m ∷ [])) (Ok (record { world = sending (m ∷ []) (with_client_at x c k); effect = effect.Sent (next_number x) m })) (Err fault.SentListFull)
unfolding step
says-shape x c n k m known was t =
    ap (λ o. by_actor x (with_client_at x c) o (λ j. tells x.ballots c n j)) was
    ∙ ap (λ b. finishes x (with_client_at x c) (cond b (tells_in c n k k.phase) (Err fault.UnknownActor))) is_known
    ∙ ap (finishes x (with_client_at x c)) (tells-exactly x.ballots c n k (client_of k) m t refl)
  where
    is_known : is_node_of (node_count x.ballots) n ≡ true
    is_known = and_from (nat_le 1 n) (nat_le n (node_count x.ballots)) (le-leb 1 n known.0) (le-leb n (node_count x.ballots) known.1)
