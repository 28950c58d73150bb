-- What a step that was taken has done.
use Rattle.std.proofs.Common.{◌≡◌, ◌≢◌, ℕ, ◌-◌, ◌≤◌, ◌==◌, Bool, true, false, List, ◌++◌, length, set, Option, Some, None, Ok, Err, refl, sym, ◌∙◌, ap, subst, arith}
use Rattle.std.specs.Prelude.{slice_set}
use Rattle.std.proofs.lemmas.Bool.{eq-eqb, eqb-true}
use Rattle.std.proofs.Math.ListN.{length-set}
use Rattle.lock_messages.specs.declared.ids.Actor.{Actor}
use Rattle.lock_messages.specs.declared.ids.Actor.TheVariants as actor
use Rattle.lock_messages.specs.declared.messages.Message.{Message}
use Rattle.lock_model.specs.Ballots.{Ballot}
use Rattle.world_model.specs.declared.TheConstants.{MAX_MESSAGES}
use Rattle.world_model.specs.declared.events.Effect.{Effect}
use Rattle.world_model.specs.declared.events.Event.{Event}
use Rattle.world_model.specs.declared.events.StepFault.TheVariants as fault
use Rattle.world_model.specs.declared.exact.ExactNode.{ExactNode}
use Rattle.world_model.specs.declared.exact.ExactClient.{ExactClient}
use Rattle.world_model.specs.declared.exact.ExactWorld.{ExactWorld}
use Rattle.world_model.specs.Worlds.{Setting, OfNode, OfClient, Happens}
use Rattle.world_model.specs.Turns.{Turns}
use Rattle.world_model.specs.ExactWorlds.{numbered, Deed, NodeDoes, ClientDoes, deed_of, actor_in, Stepped, sending, with_node_at, with_client_at, finishes, by_actor, done_by, step}
use Rattle.world_model.specs.Forgetting.{node_of, client_of, node_numbered, client_numbered, forget, setting_of, IsSoundNode, IsSoundClient, IsSound}
use Rattle.world_model.specs.Invariants.{IsSafe}
use Rattle.world_model.specs.Laws.{IsNumbered}
use Rattle.world_model.specs.Locality.{IsEffectOf, IsAsListed}
use Rattle.world_model.specs.Parts.{NodePart, ClientPart, node_part, client_part, part, after_in, said_in}
use Rattle.world_model.specs.Numbered.{numbered-one, numbered-set-here, numbered-set-there}
use Rattle.world_model.proofs.ListFacts.{among-append}
use Rattle.world_model.proofs.Told.{Told}
use Rattle.world_model.proofs.ClientTurns.{clients}
use Rattle.world_model.proofs.NodeTurns.{nodes}
use Rattle.world_model.proofs.SafeRuns.{happens-safe}
use Rattle.world_model.proofs.Deeds.{ModelLaws, DeedTold, deed-told}
use Rattle.world_model.proofs.TurnEnds.{TurnEnds, turn-ends}

-- what a deed has done in a world
pub record DeedDone (w : ExactWorld) (e : Event) (d : Deed) (done : Effect) (v : ExactWorld) : Type 0 where
  pub happens : IsSound w → Happens (setting_of w) (forget w) e (forget v)
  pub sound : IsSound w → IsSound v
  pub setting : setting_of v ≡ setting_of w
  pub own : part v (actor_in d) ≡ after_in w.ballots d done (part w (actor_in d))
  pub others : (who : Actor) → who ≢ actor_in d → part v who ≡ part w who
  pub sent : v.sent ≡ w.sent ++ said_in w.ballots d (part w (actor_in d))
  pub kind : IsEffectOf e done
  pub numbers : IsNumbered w done
  pub listed : IsAsListed w e done

-- an actor in its place, and the others in theirs
here-or-there : {A : Type 0} (P : A → Type 0) (xs : List A) (k : ℕ) (x y : A) → numbered xs k ≡ Some x → P y → ((d : ℕ) (z : A) → numbered xs d ≡ Some z → P z) →
    (d : ℕ) (z : A) → numbered (slice_set xs (k - 1) y) d ≡ Some z → P z
here-or-there {A} P xs k x y was new old d z h = at (d == k) refl
  where
    at : (b : Bool) → (d == k) ≡ b → P z
    at true e =
        let same : d ≡ k = eqb-true d k e in
        let there : Some y ≡ Some z = sym (numbered-set-here xs k x y was) ∙ ap (numbered (set xs (k - 1) y)) (sym same) ∙ h in
        let q : y ≡ z = cc in subst P q new
    at false e =
        let apart : d ≢ k = λ q. let p : false ≡ true = sym e ∙ eq-eqb d k q in cc in
        old d z (sym (numbered-set-there xs k d y (numbered-one xs k x was).0 apart) ∙ h)

-- clients

pub of-client : (w : ExactWorld) (c : ℕ) (k after : ExactClient) (says : List Message) → numbered w.clients c ≡ Some k →
    OfClient (setting_of w) c (forget w) (client_of k) (client_of after) says (forget (sending says (with_client_at w c after)))
of-client w c k after says was = record {
  known = numbered-one w.clients c k was;
  was = ap client_numbered was;
  is = ap client_numbered (numbered-set-here w.clients c k after was);
  others = λ d apart. ap client_numbered (numbered-set-there w.clients c d after (numbered-one w.clients c k was).0 apart);
  nodes = λ n. refl;
  sends = λ m. among-append m w.sent says;
}

pub same-clients : (w : ExactWorld) (c : ℕ) (after : ExactClient) → setting_of (with_client_at w c after) ≡ setting_of w
same-clients w c after = ap (λ n. record { ballots = w.ballots; clients = n }) (length-set w.clients (c - 1) after)

client-sound : (w : ExactWorld) (c : ℕ) (k after : ExactClient) (says : List Message) → numbered w.clients c ≡ Some k → (IsSoundClient k → IsSoundClient after) →
    (length w.sent ≤ MAX_MESSAGES → length (w.sent ++ says) ≤ MAX_MESSAGES) → IsSafe (setting_of w) (forget (sending says (with_client_at w c after))) → IsSound w → IsSound (sending says (with_client_at w c after))
client-sound w c k after says was sound roomy safe ok = record {
  crosses = ok.crosses;
  nodes = ok.nodes;
  each_node = ok.each_node;
  each_client = here-or-there IsSoundClient w.clients c k after was (sound (ok.each_client c k was)) ok.each_client;
  room = roomy ok.room;
  safe = subst (λ (s : Setting). IsSafe s (forget (sending says (with_client_at w c after)))) (sym (same-clients w c after)) safe;
}

client-others : (w : ExactWorld) (c : ℕ) (k after : ExactClient) (says : List Message) → numbered w.clients c ≡ Some k → (who : Actor) → who ≢ actor.Client c → part (sending says (with_client_at w c after)) who ≡ part w who
client-others w c k after says was (actor.Node n) apart = refl
client-others w c k after says was (actor.Client d) apart = ap client_part (numbered-set-there w.clients c d after (numbered-one w.clients c k was).0 (λ e. apart (ap actor.Client e)))

client-done : (w : ExactWorld) (e : Event) (c : ℕ) (turn : List Ballot → ExactClient → Turns ExactClient) (k : ExactClient) (s : Stepped) → numbered w.clients c ≡ Some k →
    TurnEnds ExactClient (clients (setting_of w) c) (setting_of w) e w (with_client_at w c) k (turn w.ballots k) s → DeedDone w e (ClientDoes c turn) s.effect s.world
client-done w e c turn k s was ends = subst (DeedDone w e (ClientDoes c turn) s.effect) (sym ends.world) (record {
  happens = happens;
  sound = λ ok. client-sound w c k ends.after ends.says was ends.sound ends.roomy (happens-safe (setting_of w) (forget w) e (forget v) ok.safe (happens ok)) ok;
  setting = same-clients w c ends.after;
  own = ap client_part (numbered-set-here w.clients c k ends.after was) ∙ ap ClientPart (sym ends.own) ∙ ap (λ o. after_in w.ballots (ClientDoes c turn) s.effect (client_part o)) (sym was);
  others = client-others w c k ends.after ends.says was;
  sent = ap (λ (l : List Message). w.sent ++ l) (sym ends.said ∙ ap (λ o. said_in w.ballots (ClientDoes c turn) (client_part o)) (sym was));
  kind = ends.kind;
  numbers = ends.numbers;
  listed = ends.listed;
})
  where
    v : ExactWorld
    v = sending ends.says (with_client_at w c ends.after)

    happens : IsSound w → Happens (setting_of w) (forget w) e (forget v)
    happens ok = ends.happens (ok.each_client c k was) (forget v) (of-client w c k ends.after ends.says was)

-- nodes

pub of-node : (w : ExactWorld) (n : ℕ) (v after : ExactNode) (says : List Message) → IsSound w → numbered w.nodes n ≡ Some v →
    OfNode (setting_of w) n (forget w) (node_of v) (node_of after) says (forget (sending says (with_node_at w n after)))
of-node w n v after says ok was = record {
  known = (let r = numbered-one w.nodes n v was in (r.0, omega (arith, r.1, ok.nodes)));
  was = ap node_numbered was;
  is = ap node_numbered (numbered-set-here w.nodes n v after was);
  others = λ d apart. ap node_numbered (numbered-set-there w.nodes n d after (numbered-one w.nodes n v was).0 apart);
  clients = λ c. refl;
  sends = λ m. among-append m w.sent says;
}

node-sound : (w : ExactWorld) (n : ℕ) (v after : ExactNode) (says : List Message) → numbered w.nodes n ≡ Some v → (IsSoundNode v → IsSoundNode after) →
    (length w.sent ≤ MAX_MESSAGES → length (w.sent ++ says) ≤ MAX_MESSAGES) → IsSafe (setting_of w) (forget (sending says (with_node_at w n after))) → IsSound w → IsSound (sending says (with_node_at w n after))
node-sound w n v after says was sound roomy safe ok = record {
  crosses = ok.crosses;
  nodes = length-set w.nodes (n - 1) after ∙ ok.nodes;
  each_node = here-or-there IsSoundNode w.nodes n v after was (sound (ok.each_node n v was)) ok.each_node;
  each_client = ok.each_client;
  room = roomy ok.room;
  safe = safe;
}

node-others : (w : ExactWorld) (n : ℕ) (v after : ExactNode) (says : List Message) → numbered w.nodes n ≡ Some v → (who : Actor) → who ≢ actor.Node n → part (sending says (with_node_at w n after)) who ≡ part w who
node-others w n v after says was (actor.Node d) apart = ap node_part (numbered-set-there w.nodes n d after (numbered-one w.nodes n v was).0 (λ e. apart (ap actor.Node e)))
node-others w n v after says was (actor.Client c) apart = refl

node-done : (w : ExactWorld) (e : Event) (n : ℕ) (turn : ExactNode → Turns ExactNode) (v : ExactNode) (s : Stepped) → numbered w.nodes n ≡ Some v →
    TurnEnds ExactNode (nodes (setting_of w) n) (setting_of w) e w (with_node_at w n) v (turn v) s → DeedDone w e (NodeDoes n turn) s.effect s.world
node-done w e n turn v s was ends = subst (DeedDone w e (NodeDoes n turn) s.effect) (sym ends.world) (record {
  happens = happens;
  sound = λ ok. node-sound w n v ends.after ends.says was ends.sound ends.roomy (happens-safe (setting_of w) (forget w) e (forget u) ok.safe (happens ok)) ok;
  setting = refl;
  own = ap node_part (numbered-set-here w.nodes n v ends.after was) ∙ ap NodePart (sym ends.own) ∙ ap (λ o. after_in w.ballots (NodeDoes n turn) s.effect (node_part o)) (sym was);
  others = node-others w n v ends.after ends.says was;
  sent = ap (λ (l : List Message). w.sent ++ l) (sym ends.said ∙ ap (λ o. said_in w.ballots (NodeDoes n turn) (node_part o)) (sym was));
  kind = ends.kind;
  numbers = ends.numbers;
  listed = ends.listed;
})
  where
    u : ExactWorld
    u = sending ends.says (with_node_at w n ends.after)

    happens : IsSound w → Happens (setting_of w) (forget w) e (forget u)
    happens ok = ends.happens (ok.each_node n v was) (forget u) (of-node w n v ends.after ends.says ok was)

-- the whole

pub deed-done : (w : ExactWorld) (e : Event) (d : Deed) (s : Stepped) → DeedTold (setting_of w) e d → done_by w d ≡ Ok s → DeedDone w e d s.effect s.world
deed-done w e (NodeDoes n turn) s told h = found (numbered w.nodes n) refl h
  where
    ended : (v : ExactNode) → numbered w.nodes n ≡ Some v → (ts : Turns ExactNode) → turn v ≡ ts → Told ExactNode (nodes (setting_of w) n) (setting_of w) e v ts → finishes w (with_node_at w n) ts ≡ Ok s → DeedDone w e (NodeDoes n turn) s.effect s.world
    ended v was (Err f) does t z = absurd (let q : Err f ≡ Ok s = z in cc)
    ended v was (Ok x) does t z =
        node-done w e n turn v s was
        (subst (λ ts. TurnEnds ExactNode (nodes (setting_of w) n) (setting_of w) e w (with_node_at w n) v ts s) (sym does) (turn-ends ExactNode (nodes (setting_of w) n) (setting_of w) e w (with_node_at w n) v x s t z))

    found : (o : Option ExactNode) → numbered w.nodes n ≡ o → by_actor w (with_node_at w n) o turn ≡ Ok s → DeedDone w e (NodeDoes n turn) s.effect s.world
    found None was z = absurd (let q : Err fault.UnknownActor ≡ Ok s = z in cc)
    found (Some v) was z = ended v was (turn v) refl (told v) z
deed-done w e (ClientDoes c turn) s told h = found (numbered w.clients c) refl h
  where
    ended : (k : ExactClient) → numbered w.clients c ≡ Some k → (ts : Turns ExactClient) → turn w.ballots k ≡ ts → Told ExactClient (clients (setting_of w) c) (setting_of w) e k ts → finishes w (with_client_at w c) ts ≡ Ok s → DeedDone w e (ClientDoes c turn) s.effect s.world
    ended k was (Err f) does t z = absurd (let q : Err f ≡ Ok s = z in cc)
    ended k was (Ok x) does t z =
        client-done w e c turn k s was
        (subst (λ ts. TurnEnds ExactClient (clients (setting_of w) c) (setting_of w) e w (with_client_at w c) k ts s) (sym does) (turn-ends ExactClient (clients (setting_of w) c) (setting_of w) e w (with_client_at w c) k x s t z))

    found : (o : Option ExactClient) → numbered w.clients c ≡ o → by_actor w (with_client_at w c) o (turn w.ballots) ≡ Ok s → DeedDone w e (ClientDoes c turn) s.effect s.world
    found None was z = absurd (let q : Err fault.UnknownActor ≡ Ok s = z in cc)
    found (Some k) was z = ended k was (turn w.ballots k) refl (told k) z

pub step-done : ModelLaws → (w : ExactWorld) (e : Event) (s : Stepped) → step w e ≡ Ok s → DeedDone w e (deed_of e) s.effect s.world
unfolding step
step-done laws w e s h = deed-done w e (deed_of e) s (deed-told laws (setting_of w) e) h
