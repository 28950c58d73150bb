-- A merge is a run.
use Rattle.std.proofs.Common.{◌≡◌, ℕ, Bool, true, false, cond, List, [], ◌∷◌, ◌++◌, Option, Some, None, refl, sym, ◌∙◌, ap, subst, arith}
use Rattle.std.specs.Prelude.{map}
use Rattle.std.proofs.lemmas.List.{append-nil, append_assoc}
use Rattle.lock_messages.specs.declared.ids.Actor.{Actor}
use Rattle.lock_messages.specs.declared.ids.Actor.TheVariants as actor
use Rattle.lock_messages.specs.declared.messages.Message.{Message}
use Rattle.lock_messages.specs.declared.tickets.Mode.TheVariants.{Write}
use Rattle.lock_model.specs.Ballots.{Ballot, HasAnyNode}
use Rattle.lock_model.specs.Laws.{EnoughSetsShareANodeOfBoth, AnyTwoCross}
use Rattle.world_model.specs.declared.exact.ExactNode.{ExactNode}
use Rattle.world_model.specs.declared.exact.ExactClient.{ExactClient}
use Rattle.world_model.specs.declared.exact.ExactWorld.{ExactWorld}
use Rattle.world_model.specs.Worlds.{Present, IsIn, present_mode, Node, Client, World, Setting, HasClient, EachStation, Run}
use Rattle.world_model.specs.Exclusion.{ReadersHaveCause, IsExclusive}
use Rattle.world_model.specs.Forgetting.{node_numbered, client_numbered, forget, setting_of, IsSoundNode, IsSoundClient, IsSound}
use Rattle.world_model.specs.ExactWorlds.{numbered, deed_of}
use Rattle.world_model.specs.Numbered.{numbered-one}
use Rattle.world_model.specs.Parts.{Part, NodePart, ClientPart, node_part, client_part, part, is_own, after_own}
use Rattle.world_model.specs.Locality.{own_events, local_part}
use Rattle.world_model.proofs.Deeds.{ModelLaws, deed-told}
use Rattle.world_model.proofs.SafeRuns.{run-safe}
use Rattle.world_model.proofs.ExclusionFacts.{exclusive}
use Rattle.merge_model.specs.OwnRuns.{IsOwnRun}
use Rattle.merge_model.specs.Merging.{Logs, moved, says, IsSourced, all_said, IsMerge, node_of_part, client_of_part, left_part, IsLeft}
use Rattle.merge_model.proofs.OwnRunFacts.{Pair, AreTurns, own-turns}
use Rattle.merge_model.proofs.Stands.{Stands, OneStep, deed-step}

-- the parts after a history
abbrev finals : List Ballot → (Actor → Part) → List Pair → Actor → Part
finals b parts [] = parts
finals b parts (q ∷ history) = finals b (moved b parts q) history

one-final : (b : List Ballot) (p : Part) (q : Pair) (own : List Pair) (t : Bool) → local_part b (cond t (after_own b q.0 q.1 p) p) own ≡ local_part b p (cond t (q ∷ own) own)
one-final b p q own true = refl
one-final b p q own false = refl

finals-local : (b : List Ballot) (parts : Actor → Part) (history : List Pair) (who : Actor) → finals b parts history who ≡ local_part b (parts who) (own_events who history)
finals-local b parts [] who = refl
finals-local b parts (q ∷ history) who = finals-local b (moved b parts q) history who ∙ one-final b (parts who) q (own_events who history) (is_own who q.0)

record Runs (st : Setting) (parts : Actor → Part) (said : List Message) (v : World) (history : List Pair) : Type 0 where
  world : World
  run : Run st v (map (λ q. q.0) history) world
  stands : Stands st (finals st.ballots parts history) (said ++ all_said st.ballots parts history) world

runs : ModelLaws → (st : Setting) (history : List Pair) (parts : Actor → Part) (said : List Message) (v : World) → Stands st parts said v → AreTurns st.ballots parts history → IsSourced st.ballots parts said history → Runs st parts said v history
runs laws st [] parts said v stands turns sourced = record { world = v; run = refl; stands = subst (λ xs. Stands st parts xs v) (sym (append-nil said)) stands }
runs laws st (q ∷ history) parts said v stands turns sourced =
    let one : OneStep st (moved st.ballots parts q) (said ++ says st.ballots parts q) v q.0 = deed-step st parts said v q.0 (deed_of q.0) q.1 stands (deed-told laws st q.0) sourced.0 turns.0 in
    let rest = runs laws st history (moved st.ballots parts q) (said ++ says st.ballots parts q) one.world one.stands turns.1 sourced.1 in
    record {
      world = rest.world;
      run = (one.world, one.happens, rest.run);
      stands = subst (λ xs. Stands st (finals st.ballots (moved st.ballots parts q) history) xs rest.world) (append_assoc said (says st.ballots parts q) (all_said st.ballots (moved st.ballots parts q) history)) rest.stands;
    }

-- a sound world is as its parts say

module _ (w : ExactWorld) (sound : IsSound w) where
  node-as-part : (o : Option ExactNode) → node_numbered o ≡ node_numbered (node_of_part (node_part o))
  node-as-part None = refl
  node-as-part (Some x) = refl

  client-as-part : (o : Option ExactClient) → client_numbered o ≡ client_numbered (client_of_part (client_part o))
  client-as-part None = refl
  client-as-part (Some k) = refl

  node-there : (n : ℕ) (x : ExactNode) (o : Option ExactNode) → numbered w.nodes n ≡ o → node_part o ≡ NodePart x → HasAnyNode w.ballots n × IsSoundNode x
  node-there n x None was e = absurd (let z : node_part None ≡ NodePart x = e in cc)
  node-there n x (Some y) was e =
      let both : NodePart y ≡ NodePart x = e in
      let it : y ≡ x = cc in
      let r = numbered-one w.nodes n y was in
      ((r.0, omega (arith, r.1, sound.nodes)), subst IsSoundNode it (sound.each_node n y was))

  client-there : (c : ℕ) (x : ExactClient) (o : Option ExactClient) → numbered w.clients c ≡ o → client_part o ≡ ClientPart x → HasClient (setting_of w) c × IsSoundClient x
  client-there c x None was e = absurd (let z : client_part None ≡ ClientPart x = e in cc)
  client-there c x (Some y) was e =
      let both : ClientPart y ≡ ClientPart x = e in
      let it : y ≡ x = cc in
      (numbered-one w.clients c y was, subst IsSoundClient it (sound.each_client c y was))

  opening-stands : Stands (setting_of w) (part w) w.sent (forget w)
  opening-stands = record {
    nodes = λ n. node-as-part (numbered w.nodes n);
    clients = λ c. client-as-part (numbered w.clients c);
    sent = λ m. (λ a. a, λ a. a);
    each_node = λ n x e. node-there n x (numbered w.nodes n) refl e;
    each_client = λ c k e. client-there c k (numbered w.clients c) refl e;
  }

pub merge-runs : ModelLaws → (w : ExactWorld) (logs : Logs) (history : List Pair) → IsSound w → IsMerge w logs history → (v : World) × Run (setting_of w) (forget w) (map (λ q. q.0) history) v × IsLeft w logs history v
merge-runs laws w logs history sound m =
    let turns = own-turns w.ballots history (part w) (λ who. subst (IsOwnRun w.ballots who (part w who)) (sym (m.interleaved who)) (m.own who)) in
    let r = runs laws (setting_of w) history (part w) w.sent (forget w) (opening-stands w sound) turns m.sourced in (
      r.world,
      r.run,
      record {
        nodes = λ n. r.stands.nodes n ∙ ap (λ p. node_numbered (node_of_part p)) (left (actor.Node n));
        clients = λ c. r.stands.clients c ∙ ap (λ p. client_numbered (client_of_part p)) (left (actor.Client c));
        sent = r.stands.sent;
      },
    )
  where
    left : (who : Actor) → finals w.ballots (part w) history who ≡ left_part w logs who
    left who = finals-local w.ballots (part w) history who ∙ ap (local_part w.ballots (part w who)) (m.interleaved who)

-- and a writer is alone in it

exclusive-as : (u v : World) → ((n : ℕ) → v.nodes n ≡ u.nodes n) → ((c : ℕ) → v.clients c ≡ u.clients c) → IsExclusive u → IsExclusive v
exclusive-as u v nodes clients is = record {
  alone = λ c d m x i j. is.alone c d m x (subst (λ (k : Client). (p : Present) × (k.phase ≡ IsIn p) × (present_mode p ≡ Write) × (p.ticket.resource ≡ x)) (clients c) i) (subst (λ (k : Client). (p : Present) × (k.phase ≡ IsIn p) × (present_mode p ≡ m) × (p.ticket.resource ≡ x)) (clients d) j);
  readers = λ n. subst (λ (k : Node). EachStation ReadersHaveCause k) (sym (nodes n)) (is.readers n);
}

pub merge-exclusive : ModelLaws → EnoughSetsShareANodeOfBoth → AnyTwoCross → (w : ExactWorld) (logs : Logs) (history : List Pair) (v : World) → IsSound w → IsMerge w logs history → IsLeft w logs history v → IsExclusive v
merge-exclusive laws share two w logs history v sound m left =
    let r = merge-runs laws w logs history sound m in
    exclusive-as r.0 v (λ n. left.nodes n ∙ sym (r.2.nodes n)) (λ c. left.clients c ∙ sym (r.2.clients c))
    (exclusive share two (setting_of w) r.0 sound.crosses (run-safe (setting_of w) (map (λ q. q.0) history) (forget w) r.0 sound.safe r.1))
