-- The moves at the exact world: each is taken where the list of messages has room, and then is the move that the
-- world of sets and maps makes.
use Rattle.std.proofs.Common.{◌≡◌, ℕ, ◌+◌, ◌⊎◌, Bool, true, false, cond, List, [], ◌∷◌, ◌++◌, length, Option, None, Some, Ok, Err, refl, sym, ◌∙◌, ap, subst}
use Rattle.std.specs.Prelude.{slice_get}
use Rattle.lock_messages.specs.declared.ids.Actor.TheVariants as actor
use Rattle.lock_messages.specs.declared.messages.Message.{Message}
use Rattle.lock_messages.specs.declared.messages.Message.TheVariants.{Grant}
use Rattle.lock_messages.specs.Messages.{is_for_client}
use Rattle.lock_model.specs.Ballots.{node_count}
use Rattle.lock_model.specs.Decisions.{Among}
use Rattle.world_model.specs.declared.events.Event.{Event}
use Rattle.world_model.specs.declared.events.Event.TheVariants as event
use Rattle.world_model.specs.declared.events.Effect.TheVariants as effect
use Rattle.world_model.specs.declared.events.StepFault.TheVariants as fault
use Rattle.world_model.specs.declared.exact.ExactClient.{ExactClient}
use Rattle.world_model.specs.declared.exact.ExactNode.{ExactNode}
use Rattle.world_model.specs.declared.exact.ExactNodePhase.TheVariants as node
use Rattle.world_model.specs.declared.exact.ExactWorld.{ExactWorld}
use Rattle.world_model.specs.declared.ways.Move.TheVariants.{Alone, Hand, HearFrom}
use Rattle.world_model.specs.declared.ways.Want.{Want}
use Rattle.world_model.specs.Worlds.{NodePhase, NodeDown, NodeIdle, Decided, Stored, Node, Present, ClientPhase, ClientDown, ClientIdle, Chosen, Asking, IsIn, Client, World, Setting, OfNode, OfClient, ByNode, Takes, Tells, Hears, Happens}
use Rattle.world_model.specs.ExactNodes.{node_in, decided_on}
use Rattle.world_model.specs.ExactClients.{after_hearing}
use Rattle.world_model.specs.ExactWorlds.{numbered, next_number, has_room, sending, with_node_at, with_client_at, Stepped, refusal, step}
use Rattle.world_model.specs.Forgetting.{node_of, client_of, forget, setting_of, IsSound, IsSoundNode}
use Rattle.world_model.specs.Numbered.{numbered-next}
use Rattle.world_model.specs.Laws.{NamesItsMessage}
use Rattle.world_model.specs.Advice.{finishing_in, resting_in, beginning_in, asks_for, is_inside_as, is_grant}
use Rattle.world_model.proofs.ListFacts.{numbered-among}
use Rattle.world_model.proofs.Deeds.{ModelLaws}
use Rattle.world_model.proofs.NodeTurns.{decides-so}
use Rattle.world_model.proofs.HearTurns.{hears-message}
use Rattle.world_model.proofs.TurnEnds.{silently}
use Rattle.world_model.proofs.StepFacts.{step-done, of-client, of-node}
use Rattle.world_model.proofs.TakenFacts.{ClientThere, client-there}
use Rattle.world_model.proofs.TakenSteps.{takes-taken, hears-taken, step-taken}
use Rattle.world_model.proofs.StepShapes.{TookSo, HeardSo, take-shape, hear-shape, says-shape}
use Rattle.world_model.proofs.Nearer.{Hands, HearsGrant, Makes, Goes}
use Rattle.world_model.proofs.Puts.{put_node, put-node}
use Rattle.world_model.proofs.VoteMoves.{grant-is, same-present}
use Rattle.world_model.proofs.MoveKinds as kind
use Rattle.world_model.proofs.MoveKinds.{MoveKind}

-- An event by itself.

-- it names no message
named-finish : (x : ExactWorld) (n : ℕ) (e : Event) (phase : NodePhase) {A : Type 0} (tried : Option A) → finishing_in n phase tried ≡ Some e → NamesItsMessage x e
named-finish x n e NodeDown tried h = absurd (let q : None ≡ Some e = h in cc)
named-finish x n e NodeIdle tried h = absurd (let q : None ≡ Some e = h in cc)
named-finish x n e (Decided st replies) None h = let same : event.Try (actor.Node n) ≡ e = cc in subst (NamesItsMessage x) same tt
named-finish x n e (Decided st replies) (Some u) h = let same : event.Kept (actor.Node n) ≡ e = cc in subst (NamesItsMessage x) same tt
named-finish x n e (Stored replies) tried h = let same : event.Say n ≡ e = cc in subst (NamesItsMessage x) same tt

named-rest : (x : ExactWorld) (d : ℕ) (e : Event) (phase : ClientPhase) (tried : Option ℕ) → resting_in d phase tried ≡ Some e → NamesItsMessage x e
named-rest x d e ClientDown tried h = absurd (let q : None ≡ Some e = h in cc)
named-rest x d e ClientIdle tried h = absurd (let q : None ≡ Some e = h in cc)
named-rest x d e (Chosen t place) None h = let same : event.Try (actor.Client d) ≡ e = cc in subst (NamesItsMessage x) same tt
named-rest x d e (Chosen t place) (Some b) h = let same : event.Kept (actor.Client d) ≡ e = cc in subst (NamesItsMessage x) same tt
named-rest x d e (Asking p) tried h = let same : event.Leave d ≡ e = cc in subst (NamesItsMessage x) same tt
named-rest x d e (IsIn p) tried h = let same : event.Leave d ≡ e = cc in subst (NamesItsMessage x) same tt

named-leaving : (x : ExactWorld) (c : ℕ) (e : Event) (b : Bool) → cond b None (Some (event.Leave c)) ≡ Some e → NamesItsMessage x e
named-leaving x c e true h = absurd (let q : None ≡ Some e = h in cc)
named-leaving x c e false h = let same : event.Leave c ≡ e = cc in subst (NamesItsMessage x) same tt

named-begin : (x : ExactWorld) (a : Want) (e : Event) (phase : ClientPhase) (tried : Option ℕ) → beginning_in a phase tried ≡ Some e → NamesItsMessage x e
named-begin x a e ClientDown tried h = absurd (let q : None ≡ Some e = h in cc)
named-begin x a e ClientIdle tried h = let same : event.Begin a.client a.mode a.resource a.place ≡ e = cc in subst (NamesItsMessage x) same tt
named-begin x a e (Chosen t place) None h = let same : event.Try (actor.Client a.client) ≡ e = cc in subst (NamesItsMessage x) same tt
named-begin x a e (Chosen t place) (Some b) h = let same : event.Kept (actor.Client a.client) ≡ e = cc in subst (NamesItsMessage x) same tt
named-begin x a e (Asking p) tried h = named-leaving x a.client e (asks_for a p) h
named-begin x a e (IsIn p) tried h = named-leaving x a.client e (is_inside_as a p) h

named-alone : (s : Setting) (chosen : ℕ → Bool) (a : Want) (w : World) (x : ExactWorld) (e : Event) → MoveKind s chosen a w (Alone e) → NamesItsMessage x e
named-alone s chosen a w x _ (kind.finishes n e is known h) = named-finish x n e (w.nodes n).phase (w.nodes n).tried h
named-alone s chosen a w x _ (kind.rests d e known apart up h) = named-rest x d e (w.clients d).phase (w.clients d).tried h
named-alone s chosen a w x _ (kind.begins e h) = named-begin x a e (w.clients a.client).phase (w.clients a.client).tried h
named-alone s chosen a w x _ (kind.enters p asking for all) = tt

-- so that it is taken, or the list of messages is full
pub alone-goes : ModelLaws → (chosen : ℕ → Bool) (a : Want) (x : ExactWorld) (e : Event) → IsSound x → Goes (setting_of x) a (forget x) (Alone e) → MoveKind (setting_of x) chosen a (forget x) (Alone e) →
    (refusal x e ≡ None) ⊎ (refusal x e ≡ Some fault.SentListFull)
alone-goes laws chosen a x e sound goes k = step-taken laws x e goes.0 sound goes.1 (named-alone (setting_of x) chosen a (forget x) x e k)

pub alone-makes : ModelLaws → (a : Want) (x : ExactWorld) (e : Event) (t : Stepped) → IsSound x → step x e ≡ Ok t → Makes (setting_of x) a (forget x) (Alone e) (forget t.world)
alone-makes laws a x e t sound h = (step-done laws x e t h).happens sound

-- A hand.

pub last-got : {A : Type 0} (xs : List A) (y : A) → slice_get (xs ++ y ∷ []) (length xs) ≡ Some y
last-got [] y = refl
last-got (x ∷ xs) y = last-got xs y

last-numbered : {A : Type 0} (xs : List A) (y : A) → numbered (xs ++ y ∷ []) (length xs + 1) ≡ Some y
last-numbered xs y = numbered-next (xs ++ y ∷ []) (length xs) ∙ last-got xs y

pub hand-goes-first : ModelLaws → (a : Want) (x : ExactWorld) (d n : ℕ) → IsSound x → Goes (setting_of x) a (forget x) (Hand d n) → (refusal x (event.SayTo d n) ≡ None) ⊎ (refusal x (event.SayTo d n) ≡ Some fault.SentListFull)
hand-goes-first laws a x d n sound goes = let h = goes.1 in step-taken laws x (event.SayTo d n) h.between sound (h.node, (h.before, h.message ∷ [], h.tells, h.said)) tt

-- what was said
pub record SaidSo (s : Setting) (x : ExactWorld) (d n : ℕ) (m : Message) (v : ExactWorld) : Type 0 where
  pub sayer : ExactClient
  pub was : numbered x.clients d ≡ Some sayer
  pub tells : Tells d n (client_of sayer) (m ∷ [])
  pub is : v ≡ sending (m ∷ []) (with_client_at x d sayer)

said-so : (a : Want) (x : ExactWorld) (d n : ℕ) (t : Stepped) (goes : Goes (setting_of x) a (forget x) (Hand d n)) → step x (event.SayTo d n) ≡ Ok t → SaidSo (setting_of x) x d n goes.1.message t.world
said-so a x d n t goes taken = record { sayer = k.client; was = k.was; tells = tells; is = go (has_room x (h.message ∷ [])) (sym (says-shape x d n k.client h.message h.node k.was tells) ∙ taken) }
  where
    h : Hands (setting_of x) d n (forget x) goes.0
    h = goes.1

    k : ClientThere x d h.before
    k = client-there x d h.before h.before (h.message ∷ []) h.between h.said

    tells : Tells d n (client_of k.client) (h.message ∷ [])
    tells = subst (λ b. Tells d n b (h.message ∷ [])) (sym k.seen) h.tells

    it : Stepped
    it = record { world = sending (h.message ∷ []) (with_client_at x d k.client); effect = effect.Sent (next_number x) h.message }

    go : (b : Bool) → cond b (Ok it) (Err fault.SentListFull) ≡ Ok t → t.world ≡ it.world
    go true q = let same : it ≡ t = cc in ap (λ (y : Stepped). y.world) (sym same)
    go false q = absurd (let z : Err fault.SentListFull ≡ Ok t = q in cc)

-- the node takes it
pub hand-goes-second : ModelLaws → (a : Want) (x : ExactWorld) (d n : ℕ) (t : Stepped) → IsSound x → Goes (setting_of x) a (forget x) (Hand d n) → step x (event.SayTo d n) ≡ Ok t → refusal t.world (event.Take n (next_number x)) ≡ None
hand-goes-second laws a x d n t sound goes taken = subst (λ v. refusal v (event.Take n (next_number x)) ≡ None) (sym said.is) (takes-taken u n (next_number x) after sound-then happens (h.message, there, h.mine))
  where
    h : Hands (setting_of x) d n (forget x) goes.0
    h = goes.1

    said : SaidSo (setting_of x) x d n h.message t.world
    said = said-so a x d n t goes taken

    u : ExactWorld
    u = sending (h.message ∷ []) (with_client_at x d said.sayer)

    sound-then : IsSound u
    sound-then = subst IsSound said.is ((step-done laws x (event.SayTo d n) t taken).sound sound)

    by : ByNode (setting_of x) h.between goes.0 n (Takes h.message)
    by = h.taken

    after : World
    after = put_node (forget u) n by.1 []

    there : numbered u.sent (next_number x) ≡ Some h.message
    there = last-numbered x.sent h.message

    of : OfNode (setting_of u) n (forget u) by.0 by.1 [] after
    of = put-node (setting_of u) n (forget u) by.0 by.1 [] h.node (sym (h.said.nodes n) ∙ by.3.was)

    happens : Happens (setting_of u) (forget u) (event.Take n (next_number x)) after
    happens = (h.message, numbered-among u.sent (next_number x) h.message there, h.mine, (by.0, by.1, by.2, of))

idle-itself : (v : ExactNode) → v.phase ≡ node.Idle → node_in v node.Idle ≡ v
idle-itself v e = λ i. record { kept = v.kept; tried = v.tried; phase = sym e i }

-- and both together are the hand
pub hand-makes : ModelLaws → (a : Want) (x : ExactWorld) (d n : ℕ) (t u : Stepped) → IsSound x → Goes (setting_of x) a (forget x) (Hand d n) → step x (event.SayTo d n) ≡ Ok t → step t.world (event.Take n (next_number x)) ≡ Ok u →
    Makes (setting_of x) a (forget x) (Hand d n) (forget u.world)
hand-makes laws a x d n t u sound goes first second = record {
  before = client_of said.sayer;
  message = m;
  between = forget t.world;
  node = h.node;
  tells = said.tells;
  said = subst (λ v. OfClient (setting_of x) d (forget x) (client_of said.sayer) (client_of said.sayer) (m ∷ []) (forget v)) (sym said.is) (of-client x d said.sayer said.sayer (m ∷ []) said.was);
  mine = took.mine;
  taken = (node_of took.taker, node_of (decided_on took.taker m), does, of);
}
  where
    h : Hands (setting_of x) d n (forget x) goes.0
    h = goes.1

    m : Message
    m = h.message

    said : SaidSo (setting_of x) x d n m t.world
    said = said-so a x d n t goes first

    there : numbered t.world.sent (next_number x) ≡ Some m
    there = subst (λ v. numbered v.sent (next_number x) ≡ Some m) (sym said.is) (last-numbered x.sent m)

    sound-then : IsSound t.world
    sound-then = (step-done laws x (event.SayTo d n) t first).sound sound

    took : TookSo t.world n m u.world
    took = take-shape t.world n (next_number x) m u there second

    does : Takes m (node_of took.taker) (node_of (decided_on took.taker m))
    does =
        subst (λ v. Takes m (node_of v) (node_of (decided_on v m))) (idle-itself took.taker took.idle)
        (decides-so laws.deciding n m took.taker took.mine (subst IsSoundNode (sym (idle-itself took.taker took.idle)) (sound-then.each_node n took.taker took.was))).does

    of : OfNode (setting_of x) n (forget t.world) (node_of took.taker) (node_of (decided_on took.taker m)) [] (forget u.world)
    of =
        subst (λ s. OfNode s n (forget t.world) (node_of took.taker) (node_of (decided_on took.taker m)) [] (forget u.world)) (step-done laws x (event.SayTo d n) t first).setting
        (subst (λ v. OfNode (setting_of t.world) n (forget t.world) (node_of took.taker) (node_of (decided_on took.taker m)) [] (forget v)) (sym (took.is ∙ silently (with_node_at t.world n (decided_on took.taker m))))
        (of-node t.world n took.taker (decided_on took.taker m) [] sound-then took.was))

-- Hearing.

pub hear-goes : (a : Want) (x : ExactWorld) (n k : ℕ) (p : Present) (m : Message) → Goes (setting_of x) a (forget x) (HearFrom n) → ((forget x).clients a.client).phase ≡ Asking p → numbered x.sent k ≡ Some m → is_grant n p.ticket m ≡ true →
    refusal x (event.Hear a.client k) ≡ None
hear-goes a x n k p m goes asks there is =
    let h : HearsGrant (setting_of x) a n (forget x) goes.0 = goes.1 in
    let same : h.present ≡ p = same-present h.present p (sym h.asks ∙ asks) in
    let grant : Grant n h.present.ticket ≡ m = ap (λ (q : Present). Grant n q.ticket) same ∙ sym (grant-is n p.ticket m is) in
    hears-taken x a.client k goes.0 (Grant n h.present.ticket, h.sent, h.mine, h.heard) (m, there, subst (λ y. is_for_client y a.client ≡ true) grant h.mine)

pub hear-makes : ModelLaws → (a : Want) (x : ExactWorld) (n k : ℕ) (p : Present) (m : Message) (t : Stepped) → ((forget x).clients a.client).phase ≡ Asking p → numbered x.sent k ≡ Some m → is_grant n p.ticket m ≡ true →
    step x (event.Hear a.client k) ≡ Ok t → Makes (setting_of x) a (forget x) (HearFrom n) (forget t.world)
hear-makes laws a x n k p m t asks there is taken = record {
  present = p;
  asks = asks;
  sent = subst (λ y. Among y x.sent) grant (numbered-among x.sent k m there);
  mine = subst (λ y. is_for_client y a.client ≡ true) grant heard.mine;
  heard = (client_of heard.hearer, client_of after, subst (λ y. Hears x.ballots a.client y (client_of heard.hearer) (client_of after)) grant hears, of);
}
  where
    grant : m ≡ Grant n p.ticket
    grant = grant-is n p.ticket m is

    heard : HeardSo x a.client m t.world
    heard = hear-shape x a.client k m t there taken

    after : ExactClient
    after = after_hearing (node_count x.ballots) a.client heard.hearer m

    hears : Hears x.ballots a.client m (client_of heard.hearer) (client_of after)
    hears = hears-message laws.hearing x.ballots a.client m heard.hearer heard.up

    of : OfClient (setting_of x) a.client (forget x) (client_of heard.hearer) (client_of after) [] (forget t.world)
    of =
        subst (λ v. OfClient (setting_of x) a.client (forget x) (client_of heard.hearer) (client_of after) [] (forget v)) (sym (heard.is ∙ silently (with_client_at x a.client after)))
        (of-client x a.client heard.hearer after [] heard.was)
