-- A world in which each actor is as its part says, and what an actor's turn makes of it.
use Rattle.std.proofs.Common.{◌≡◌, ◌≢◌, ◌↔◌, ℕ, ◌==◌, ◌⊎◌, Bool, true, cond, List, [], ◌++◌, Option, Some, None, IfSome, Ok, Err, refl, sym, ◌∙◌, ap, subst, inl, inr}
use Rattle.std.proofs.lemmas.Bool.{eq-eqb, ne_eqb, cases_eq}
use Rattle.lock_messages.specs.declared.ids.Actor.{Actor}
use Rattle.lock_messages.specs.declared.ids.Actor.TheVariants as actor
use Rattle.lock_messages.specs.declared.messages.Message.{Message}
use Rattle.lock_model.specs.Ballots.{Ballot, HasAnyNode}
use Rattle.lock_model.specs.Decisions.{Among}
use Rattle.world_model.specs.declared.events.Effect.{Effect}
use Rattle.world_model.specs.declared.events.Event.{Event}
use Rattle.world_model.specs.declared.exact.ExactNode.{ExactNode}
use Rattle.world_model.specs.declared.exact.ExactClient.{ExactClient}
use Rattle.world_model.specs.Worlds.{World, Setting, HasClient, OfNode, OfClient, Happens}
use Rattle.world_model.specs.Turns.{Acts, Speaks, Reads, Turns}
use Rattle.world_model.specs.ExactWorlds.{Deed, NodeDoes, ClientDoes, actor_in}
use Rattle.world_model.specs.Forgetting.{node_of, client_of, node_numbered, client_numbered, IsSoundNode, IsSoundClient}
use Rattle.world_model.specs.Parts.{place, Part, NoPart, NodePart, ClientPart, message_of, after_reading, after_turn, after_in, turn_says, said_in}
use Rattle.world_model.proofs.ListFacts.{among-append}
use Rattle.world_model.proofs.LocalityFacts.{places-apart}
use Rattle.world_model.proofs.Told.{Kind, ActsTold, SpeaksTold, ReadsTold, Told}
use Rattle.world_model.proofs.ClientTurns.{clients}
use Rattle.world_model.proofs.NodeTurns.{nodes}
use Rattle.world_model.proofs.Deeds.{DeedTold}
use Rattle.merge_model.specs.OwnRuns.{HasEffect, HasEffectIn}
use Rattle.merge_model.specs.Merging.{HasSource, node_of_part, client_of_part}

-- what an actor's turn comes to, in any world in which the message that it reads was sent

record Goes (A : Type 0) (q : Kind A) (st : Setting) (e : Event) (before after : A) (said : List Message) (done : Effect) : Type 0 where
  sound : q.Sound before → q.Sound after
  happens : q.Sound before → (w v : World) → HasSource w.sent done → q.Changes w before after said v → Happens st w e v

acts-goes : (A : Type 0) (q : Kind A) (st : Setting) (e : Event) (before after : A) (done : Effect) → ActsTold A q st e before after done → Goes A q st e before after [] done
acts-goes A q st e before after done told = record { sound = told.sound; happens = λ ok w v source change. told.happens ok w v change }

speaks-goes : (A : Type 0) (q : Kind A) (st : Setting) (e : Event) (before after : A) (said : List Message) (effect : ℕ → Effect) (done : Effect) → SpeaksTold A q st e before after said effect → Goes A q st e before after said done
speaks-goes A q st e before after said effect done told = record { sound = told.sound; happens = λ ok w v source change. told.happens ok w v change }

reads-goes : (A : Type 0) (q : Kind A) (st : Setting) (e : Event) (before : A) (number : ℕ) (is_mine : Message → Bool) (after : Message → A) (effect : Message → Effect) (m : Message) (done : Effect) →
    ReadsTold A q st e before number is_mine after effect → is_mine m ≡ true → message_of done ≡ Some m → Goes A q st e before (after m) [] done
reads-goes A q st e before number is_mine after effect m done told mine carried = record {
  sound = told.sound m mine;
  happens = λ ok w v source change. told.happens m mine ok w v (subst (λ o. IfSome o (λ x. Among x w.sent)) carried source) change;
}

turn-goes : (A : Type 0) (q : Kind A) (st : Setting) (e : Event) (before : A) (t : Turns A) (done : Effect) → Told A q st e before t → HasEffect t done → Goes A q st e before (after_turn before t done) (turn_says t) done
turn-goes A q st e before (Err f) done told h = absurd h
turn-goes A q st e before (Ok (Acts after effect)) done told h = acts-goes A q st e before after done (subst (ActsTold A q st e before after) (sym h) told)
turn-goes A q st e before (Ok (Speaks after said effect)) done told h = speaks-goes A q st e before after said effect done told
turn-goes A q st e before (Ok (Reads number is_mine after effect)) done told h = go told
  where
    go : ReadsTold A q st e before number is_mine after effect → Goes A q st e before (after_reading before after (message_of done)) [] done
    go told =
        let carried : message_of done ≡ Some h.0 = ap message_of h.2 ∙ told.carries h.0 in
        subst (λ o. Goes A q st e before (after_reading before after o) [] done) (sym carried) (reads-goes A q st e before number is_mine after effect h.0 done told h.1 carried)

-- each actor of the world is as its part says, and is sound
pub record Stands (st : Setting) (parts : Actor → Part) (said : List Message) (v : World) : Type 0 where
  pub nodes : (n : ℕ) → v.nodes n ≡ node_numbered (node_of_part (parts (actor.Node n)))
  pub clients : (c : ℕ) → v.clients c ≡ client_numbered (client_of_part (parts (actor.Client c)))
  pub sent : (m : Message) → Among m v.sent ↔ Among m said
  pub each_node : (n : ℕ) (x : ExactNode) → parts (actor.Node n) ≡ NodePart x → HasAnyNode st.ballots n × IsSoundNode x
  pub each_client : (c : ℕ) (k : ExactClient) → parts (actor.Client c) ≡ ClientPart k → HasClient st c × IsSoundClient k

-- the parts after a change of this actor's
abbrev pub changed : Actor → (Part → Part) → (Actor → Part) → Actor → Part
changed who f parts x = cond (place who == place x) (f (parts x)) (parts x)

changed-here : (who : Actor) (f : Part → Part) (parts : Actor → Part) → changed who f parts who ≡ f (parts who)
changed-here who f parts = ap (λ t. cond t (f (parts who)) (parts who)) (eq-eqb (place who) (place who) refl)

changed-there : (who x : Actor) (f : Part → Part) (parts : Actor → Part) → x ≢ who → changed who f parts x ≡ parts x
changed-there who x f parts apart = ap (λ t. cond t (f (parts x)) (parts x)) (ne_eqb (place who) (place x) (λ e. apart (sym (places-apart who x e))))

same-sent : (sent said now also : List Message) → ((m : Message) → Among m sent ↔ Among m said) → now ≡ also → (m : Message) → Among m (sent ++ now) ↔ Among m (said ++ also)
same-sent sent said now also same is m = (λ a. over ((among-append m sent now).0 a), λ a. back ((among-append m said also).0 a))
  where
    over : Among m sent ⊎ Among m now → Among m (said ++ also)
    over (inl a) = (among-append m said also).1 (inl ((same m).0 a))
    over (inr a) = (among-append m said also).1 (inr (subst (λ xs. Among m xs) is a))

    back : Among m said ⊎ Among m also → Among m (sent ++ now)
    back (inl a) = (among-append m sent now).1 (inl ((same m).1 a))
    back (inr a) = (among-append m sent now).1 (inr (subst (λ xs. Among m xs) (sym is) a))

pub record OneStep (st : Setting) (parts : Actor → Part) (said : List Message) (v : World) (e : Event) : Type 0 where
  pub world : World
  pub happens : Happens st v e world
  pub stands : Stands st parts said world

other-kind : (n c : ℕ) → actor.Client c ≢ actor.Node n
other-kind n c e = let z : actor.Client c ≡ actor.Node n = e in cc

other-way : (n c : ℕ) → actor.Node n ≢ actor.Client c
other-way n c e = let z : actor.Node n ≡ actor.Client c = e in cc

-- a node's turn

module _ (st : Setting) (parts : Actor → Part) (said : List Message) (v : World) (e : Event) (n : ℕ) (turn : ExactNode → Turns ExactNode) (done : Effect) (stands : Stands st parts said v) (told : DeedTold st e (NodeDoes n turn)) (source : HasSource said done) (x : ExactNode) (is : parts (actor.Node n) ≡ NodePart x) (h : HasEffect (turn x) done) where
  abbrev node-now : ExactNode
  node-now = after_turn x (turn x) done

  abbrev node-world : World
  node-world = record { nodes = λ k. cond (k == n) (node_of node-now) (v.nodes k); clients = v.clients; sent = v.sent ++ turn_says (turn x) }

  node-goes : Goes ExactNode (nodes st n) st e x node-now (turn_says (turn x)) done
  node-goes = turn-goes ExactNode (nodes st n) st e x (turn x) done (told x) h

  abbrev node-parts : Actor → Part
  node-parts = changed (actor.Node n) (after_in st.ballots (NodeDoes n turn) done) parts

  part-now : node-parts (actor.Node n) ≡ NodePart node-now
  part-now = changed-here (actor.Node n) (after_in st.ballots (NodeDoes n turn) done) parts ∙ ap (after_in st.ballots (NodeDoes n turn) done) is

  node-part-there : (a : Actor) → a ≢ actor.Node n → node-parts a ≡ parts a
  node-part-there a apart = changed-there (actor.Node n) a (after_in st.ballots (NodeDoes n turn) done) parts apart

  node-apart : (k : ℕ) → k ≢ n → actor.Node k ≢ actor.Node n
  node-apart k apart same = apart (let z : actor.Node k ≡ actor.Node n = same in cc)

  node-changes : OfNode st n v (node_of x) (node_of node-now) (turn_says (turn x)) node-world
  node-changes = record {
    known = (stands.each_node n x is).0;
    was = stands.nodes n ∙ ap (λ p. node_numbered (node_of_part p)) is;
    is = ap (λ t. cond t (node_of node-now) (v.nodes n)) (eq-eqb n n refl);
    others = λ k apart. ap (λ t. cond t (node_of node-now) (v.nodes k)) (ne_eqb k n apart);
    clients = λ k. refl;
    sends = λ m. among-append m v.sent (turn_says (turn x));
  }

  node-is : (k : ℕ) → (k ≡ n) ⊎ (k ≢ n) → node-world.nodes k ≡ node_numbered (node_of_part (node-parts (actor.Node k)))
  node-is k (inl same) =
      subst (λ j. node-world.nodes j ≡ node_numbered (node_of_part (node-parts (actor.Node j)))) (sym same)
      (node-changes.is ∙ ap (λ p. node_numbered (node_of_part p)) (sym part-now))
  node-is k (inr apart) =
      node-changes.others k apart ∙ stands.nodes k ∙ ap (λ p. node_numbered (node_of_part p)) (sym (node-part-there (actor.Node k) (node-apart k apart)))

  node-each : (k : ℕ) (y : ExactNode) → (k ≡ n) ⊎ (k ≢ n) → node-parts (actor.Node k) ≡ NodePart y → HasAnyNode st.ballots k × IsSoundNode y
  node-each k y (inl same) there =
      let here : node-parts (actor.Node n) ≡ NodePart y = subst (λ j. node-parts (actor.Node j) ≡ NodePart y) same there in
      let both : NodePart node-now ≡ NodePart y = sym part-now ∙ here in
      let it : node-now ≡ y = cc in
      (subst (HasAnyNode st.ballots) (sym same) (stands.each_node n x is).0, subst IsSoundNode it (node-goes.sound (stands.each_node n x is).1))
  node-each k y (inr apart) there = stands.each_node k y (sym (node-part-there (actor.Node k) (node-apart k apart)) ∙ there)

  node-step : OneStep st node-parts (said ++ said_in st.ballots (NodeDoes n turn) (parts (actor.Node n))) v e
  node-step = record {
    world = node-world;
    happens = node-goes.happens (stands.each_node n x is).1 v node-world (heard source) node-changes;
    stands = record {
      nodes = λ k. node-is k (cases_eq k n);
      clients = λ c. stands.clients c ∙ ap (λ p. client_numbered (client_of_part p)) (sym (node-part-there (actor.Client c) (other-kind n c)));
      sent = same-sent v.sent said (turn_says (turn x)) (said_in st.ballots (NodeDoes n turn) (parts (actor.Node n))) stands.sent (ap (said_in st.ballots (NodeDoes n turn)) (sym is));
      each_node = λ k y there. node-each k y (cases_eq k n) there;
      each_client = λ c k there. stands.each_client c k (sym (node-part-there (actor.Client c) (other-kind n c)) ∙ there);
    };
  }
    where
      heard : HasSource said done → HasSource v.sent done
      heard s = go (message_of done) s
        where
          go : (o : Option Message) → IfSome o (λ m. Among m said) → IfSome o (λ m. Among m v.sent)
          go None a = a
          go (Some m) a = (stands.sent m).1 a

-- a client's turn

module _ (st : Setting) (parts : Actor → Part) (said : List Message) (v : World) (e : Event) (c : ℕ) (turn : List Ballot → ExactClient → Turns ExactClient) (done : Effect) (stands : Stands st parts said v) (told : DeedTold st e (ClientDoes c turn)) (source : HasSource said done) (x : ExactClient) (is : parts (actor.Client c) ≡ ClientPart x) (h : HasEffect (turn st.ballots x) done) where
  abbrev client-now : ExactClient
  client-now = after_turn x (turn st.ballots x) done

  abbrev client-world : World
  client-world = record { nodes = v.nodes; clients = λ k. cond (k == c) (client_of client-now) (v.clients k); sent = v.sent ++ turn_says (turn st.ballots x) }

  client-goes : Goes ExactClient (clients st c) st e x client-now (turn_says (turn st.ballots x)) done
  client-goes = turn-goes ExactClient (clients st c) st e x (turn st.ballots x) done (told x) h

  abbrev client-parts : Actor → Part
  client-parts = changed (actor.Client c) (after_in st.ballots (ClientDoes c turn) done) parts

  client-part-now : client-parts (actor.Client c) ≡ ClientPart client-now
  client-part-now = changed-here (actor.Client c) (after_in st.ballots (ClientDoes c turn) done) parts ∙ ap (after_in st.ballots (ClientDoes c turn) done) is

  client-part-there : (a : Actor) → a ≢ actor.Client c → client-parts a ≡ parts a
  client-part-there a apart = changed-there (actor.Client c) a (after_in st.ballots (ClientDoes c turn) done) parts apart

  client-apart : (k : ℕ) → k ≢ c → actor.Client k ≢ actor.Client c
  client-apart k apart same = apart (let z : actor.Client k ≡ actor.Client c = same in cc)

  client-changes : OfClient st c v (client_of x) (client_of client-now) (turn_says (turn st.ballots x)) client-world
  client-changes = record {
    known = (stands.each_client c x is).0;
    was = stands.clients c ∙ ap (λ p. client_numbered (client_of_part p)) is;
    is = ap (λ t. cond t (client_of client-now) (v.clients c)) (eq-eqb c c refl);
    others = λ k apart. ap (λ t. cond t (client_of client-now) (v.clients k)) (ne_eqb k c apart);
    nodes = λ k. refl;
    sends = λ m. among-append m v.sent (turn_says (turn st.ballots x));
  }

  client-is : (k : ℕ) → (k ≡ c) ⊎ (k ≢ c) → client-world.clients k ≡ client_numbered (client_of_part (client-parts (actor.Client k)))
  client-is k (inl same) =
      subst (λ j. client-world.clients j ≡ client_numbered (client_of_part (client-parts (actor.Client j)))) (sym same)
      (client-changes.is ∙ ap (λ p. client_numbered (client_of_part p)) (sym client-part-now))
  client-is k (inr apart) =
      client-changes.others k apart ∙ stands.clients k ∙ ap (λ p. client_numbered (client_of_part p)) (sym (client-part-there (actor.Client k) (client-apart k apart)))

  client-each : (k : ℕ) (y : ExactClient) → (k ≡ c) ⊎ (k ≢ c) → client-parts (actor.Client k) ≡ ClientPart y → HasClient st k × IsSoundClient y
  client-each k y (inl same) there =
      let here : client-parts (actor.Client c) ≡ ClientPart y = subst (λ j. client-parts (actor.Client j) ≡ ClientPart y) same there in
      let both : ClientPart client-now ≡ ClientPart y = sym client-part-now ∙ here in
      let it : client-now ≡ y = cc in
      (subst (HasClient st) (sym same) (stands.each_client c x is).0, subst IsSoundClient it (client-goes.sound (stands.each_client c x is).1))
  client-each k y (inr apart) there = stands.each_client k y (sym (client-part-there (actor.Client k) (client-apart k apart)) ∙ there)

  client-step : OneStep st client-parts (said ++ said_in st.ballots (ClientDoes c turn) (parts (actor.Client c))) v e
  client-step = record {
    world = client-world;
    happens = client-goes.happens (stands.each_client c x is).1 v client-world (heard source) client-changes;
    stands = record {
      nodes = λ n. stands.nodes n ∙ ap (λ p. node_numbered (node_of_part p)) (sym (client-part-there (actor.Node n) (other-way n c)));
      clients = λ k. client-is k (cases_eq k c);
      sent = same-sent v.sent said (turn_says (turn st.ballots x)) (said_in st.ballots (ClientDoes c turn) (parts (actor.Client c))) stands.sent (ap (said_in st.ballots (ClientDoes c turn)) (sym is));
      each_node = λ n y there. stands.each_node n y (sym (client-part-there (actor.Node n) (other-way n c)) ∙ there);
      each_client = λ k y there. client-each k y (cases_eq k c) there;
    };
  }
    where
      heard : HasSource said done → HasSource v.sent done
      heard s = go (message_of done) s
        where
          go : (o : Option Message) → IfSome o (λ m. Among m said) → IfSome o (λ m. Among m v.sent)
          go None a = a
          go (Some m) a = (stands.sent m).1 a

-- an actor's turn

pub deed-step : (st : Setting) (parts : Actor → Part) (said : List Message) (v : World) (e : Event) (d : Deed) (done : Effect) → Stands st parts said v → DeedTold st e d → HasSource said done → HasEffectIn st.ballots d (parts (actor_in d)) done →
    OneStep st (changed (actor_in d) (after_in st.ballots d done) parts) (said ++ said_in st.ballots d (parts (actor_in d))) v e
deed-step st parts said v e (NodeDoes n turn) done stands told source h = go (parts (actor.Node n)) refl h
  where
    go : (p : Part) → parts (actor.Node n) ≡ p → HasEffectIn st.ballots (NodeDoes n turn) p done → OneStep st (changed (actor.Node n) (after_in st.ballots (NodeDoes n turn) done) parts) (said ++ said_in st.ballots (NodeDoes n turn) (parts (actor.Node n))) v e
    go NoPart is h = absurd h
    go (NodePart x) is h = node-step st parts said v e n turn done stands told source x is h
    go (ClientPart k) is h = absurd h
deed-step st parts said v e (ClientDoes c turn) done stands told source h = go (parts (actor.Client c)) refl h
  where
    go : (p : Part) → parts (actor.Client c) ≡ p → HasEffectIn st.ballots (ClientDoes c turn) p done → OneStep st (changed (actor.Client c) (after_in st.ballots (ClientDoes c turn) done) parts) (said ++ said_in st.ballots (ClientDoes c turn) (parts (actor.Client c))) v e
    go NoPart is h = absurd h
    go (NodePart x) is h = absurd h
    go (ClientPart k) is h = client-step st parts said v e c turn done stands told source k is h
