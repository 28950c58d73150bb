-- The lives of an actor are one own run.
use Rattle.std.proofs.Common.{◌≡◌, ◌≢◌, ℕ, ◌==◌, true, List, [], ◌∷◌, ◌++◌, Option, Some, None, refl, sym, ◌∙◌, ap, subst}
use Rattle.std.specs.Option.{option_map}
use Rattle.std.proofs.lemmas.Bool.{eq-eqb}
use Rattle.lock_messages.specs.declared.ids.Actor.{Actor}
use Rattle.lock_messages.specs.declared.ids.Actor.TheVariants as actor
use Rattle.lock_model.specs.Ballots.{Ballot}
use Rattle.stable_record.specs.Records.{client_record_of, record_bytes}
use Rattle.world_model.specs.declared.events.Age.TheVariants.{Old, New}
use Rattle.world_model.specs.declared.events.Effect.TheVariants as effect
use Rattle.world_model.specs.declared.events.Event.{Event}
use Rattle.world_model.specs.declared.events.Event.TheVariants as event
use Rattle.world_model.specs.declared.exact.ExactNode.{ExactNode}
use Rattle.world_model.specs.declared.exact.ExactClient.{ExactClient}
use Rattle.world_model.specs.declared.exact.ExactNodePhase.{ExactNodePhase}
use Rattle.world_model.specs.declared.exact.ExactNodePhase.TheVariants as node
use Rattle.world_model.specs.declared.exact.ExactClientPhase.{ExactClientPhase}
use Rattle.world_model.specs.declared.exact.ExactClientPhase.TheVariants as client
use Rattle.world_model.specs.declared.exact.ExactStation.{ExactStation}
use Rattle.world_model.specs.Turns.{acts}
use Rattle.world_model.specs.ExactNodes.{node_in, node_falls_in, node_rises_in, node_rises_with}
use Rattle.world_model.specs.ExactClients.{client_in, client_falls_in, client_rises_in, client_rises_with}
use Rattle.world_model.specs.Locality.{local_part}
use Rattle.world_model.specs.Parts.{place, Part, NoPart, NodePart, ClientPart, after_turn, after_own}
use Rattle.merge_model.specs.OwnRuns.{HasEffect, IsOwnRun}
use Rattle.merge_model.specs.Lives.{Life, kept_record, tried_record, IsRise, rises_old, rises_new, Restarts, only_rises, falls_first, TellsLives}
use Rattle.merge_model.proofs.OwnRunFacts.{Pair, runs-join}

-- what an actor does by itself, and what it has kept then
record Does (b : List Ballot) (who : Actor) (p : Part) (found : List ℕ) (own : List Pair) : Type 0 where
  run : IsOwnRun b who p own
  kept : kept_record who (local_part b p own) ≡ Some found

own-place : (who : Actor) → (place who == place who) ≡ true
own-place who = eq-eqb (place who) (place who) refl

-- a node that is down rises

node-rises-new : (v : ExactNode) (found : List ℕ) (o : Option ExactStation) → option_map (λ s. record_bytes s.problem s.entries) o ≡ Some found →
    HasEffect (node_rises_with New v.kept o) effect.Up × (kept_record (actor.Node 0) (NodePart (after_turn v (node_rises_with New v.kept o) effect.Up)) ≡ Some found)
node-rises-new v found None h = absurd (let z : None ≡ Some found = h in cc)
node-rises-new v found (Some s) h = (refl, h)

node-rises : (b : List Ballot) (n : ℕ) (v : ExactNode) (found : List ℕ) (rise : Event) → v.phase ≡ node.Down → IsRise (actor.Node n) (NodePart v) found rise → Does b (actor.Node n) (NodePart v) found ((rise, effect.Up) ∷ [])
node-rises b n v found _ down (rises_old kept) = record {
  run = (own-place (actor.Node n), subst (λ phase. HasEffect (node_rises_in Old v phase) effect.Up) (sym down) refl, tt);
  kept = subst (λ phase. kept_record (actor.Node n) (NodePart (after_turn v (node_rises_in Old v phase) effect.Up)) ≡ Some found) (sym down) kept;
}
node-rises b n v found _ down (rises_new apart tried) =
    let r = node-rises-new v found v.tried tried in
    record {
      run = (own-place (actor.Node n), subst (λ phase. HasEffect (node_rises_in New v phase) effect.Up) (sym down) r.0, tt);
      kept = subst (λ phase. kept_record (actor.Node n) (NodePart (after_turn v (node_rises_in New v phase) effect.Up)) ≡ Some found) (sym down) r.1;
    }

-- one that is up falls first

node-falls : (v : ExactNode) (phase : ExactNodePhase) → phase ≢ node.Down → node_falls_in v phase ≡ acts (node_in v node.Down) effect.Down
node-falls v node.Down up = absurd (up refl)
node-falls v node.Idle up = refl
node-falls v (node.Decided s replies) up = refl
node-falls v (node.Stored replies) up = refl

node-rise-fallen : (n : ℕ) (v : ExactNode) (found : List ℕ) (rise : Event) → IsRise (actor.Node n) (NodePart v) found rise → IsRise (actor.Node n) (NodePart (node_in v node.Down)) found rise
node-rise-fallen n v found _ (rises_old kept) = rises_old kept
node-rise-fallen n v found _ (rises_new apart tried) = rises_new apart tried

node-restarts : (b : List Ballot) (n : ℕ) (v : ExactNode) (found : List ℕ) (rise : Event) → v.phase ≢ node.Down → IsRise (actor.Node n) (NodePart v) found rise →
    Does b (actor.Node n) (NodePart v) found ((event.Fall (actor.Node n), effect.Down) ∷ (rise, effect.Up) ∷ [])
node-restarts b n v found rise up is =
    let fallen : NodePart (node_in v node.Down) ≡ after_own b (event.Fall (actor.Node n)) effect.Down (NodePart v) = ap (λ t. NodePart (after_turn v t effect.Down)) (sym (node-falls v v.phase up)) in
    let r = subst (λ p. Does b (actor.Node n) p found ((rise, effect.Up) ∷ [])) fallen (node-rises b n (node_in v node.Down) found rise refl (node-rise-fallen n v found rise is)) in
    record {
      run = (own-place (actor.Node n), subst (λ t. HasEffect t effect.Down) (sym (node-falls v v.phase up)) refl, r.run);
      kept = r.kept;
    }

-- the same of a client

client-rises-new : (k : ExactClient) (found : List ℕ) (o : Option ℕ) → option_map client_record_of o ≡ Some found →
    HasEffect (client_rises_with New k.kept o) effect.Up × (kept_record (actor.Client 0) (ClientPart (after_turn k (client_rises_with New k.kept o) effect.Up)) ≡ Some found)
client-rises-new k found None h = absurd (let z : None ≡ Some found = h in cc)
client-rises-new k found (Some a) h = (refl, h)

client-rises : (b : List Ballot) (c : ℕ) (k : ExactClient) (found : List ℕ) (rise : Event) → k.phase ≡ client.Down → IsRise (actor.Client c) (ClientPart k) found rise → Does b (actor.Client c) (ClientPart k) found ((rise, effect.Up) ∷ [])
client-rises b c k found _ down (rises_old kept) = record {
  run = (own-place (actor.Client c), subst (λ phase. HasEffect (client_rises_in Old k phase) effect.Up) (sym down) refl, tt);
  kept = subst (λ phase. kept_record (actor.Client c) (ClientPart (after_turn k (client_rises_in Old k phase) effect.Up)) ≡ Some found) (sym down) kept;
}
client-rises b c k found _ down (rises_new apart tried) =
    let r = client-rises-new k found k.tried tried in
    record {
      run = (own-place (actor.Client c), subst (λ phase. HasEffect (client_rises_in New k phase) effect.Up) (sym down) r.0, tt);
      kept = subst (λ phase. kept_record (actor.Client c) (ClientPart (after_turn k (client_rises_in New k phase) effect.Up)) ≡ Some found) (sym down) r.1;
    }

client-falls : (k : ExactClient) (phase : ExactClientPhase) → phase ≢ client.Down → client_falls_in k phase ≡ acts (client_in k client.Down) effect.Down
client-falls k client.Down up = absurd (up refl)
client-falls k client.Idle up = refl
client-falls k (client.Chosen t place) up = refl
client-falls k (client.Asking p) up = refl
client-falls k (client.Inside p) up = refl

client-rise-fallen : (c : ℕ) (k : ExactClient) (found : List ℕ) (rise : Event) → IsRise (actor.Client c) (ClientPart k) found rise → IsRise (actor.Client c) (ClientPart (client_in k client.Down)) found rise
client-rise-fallen c k found _ (rises_old kept) = rises_old kept
client-rise-fallen c k found _ (rises_new apart tried) = rises_new apart tried

client-restarts : (b : List Ballot) (c : ℕ) (k : ExactClient) (found : List ℕ) (rise : Event) → k.phase ≢ client.Down → IsRise (actor.Client c) (ClientPart k) found rise →
    Does b (actor.Client c) (ClientPart k) found ((event.Fall (actor.Client c), effect.Down) ∷ (rise, effect.Up) ∷ [])
client-restarts b c k found rise up is =
    let fallen : ClientPart (client_in k client.Down) ≡ after_own b (event.Fall (actor.Client c)) effect.Down (ClientPart k) = ap (λ t. ClientPart (after_turn k t effect.Down)) (sym (client-falls k k.phase up)) in
    let r = subst (λ p. Does b (actor.Client c) p found ((rise, effect.Up) ∷ [])) fallen (client-rises b c (client_in k client.Down) found rise refl (client-rise-fallen c k found rise is)) in
    record {
      run = (own-place (actor.Client c), subst (λ t. HasEffect t effect.Down) (sym (client-falls k k.phase up)) refl, r.run);
      kept = r.kept;
    }

-- nobody rises without a record

no-record : (who : Actor) (p : Part) (found : List ℕ) (rise : Event) → kept_record who p ≡ None → tried_record who p ≡ None → IsRise who p found rise → ⊥
no-record who p found _ none untried (rises_old kept) = let z : None ≡ Some found = sym none ∙ kept in cc
no-record who p found _ none untried (rises_new apart tried) = let z : None ≡ Some found = sym untried ∙ tried in cc

restarts : (b : List Ballot) (who : Actor) (p : Part) (found : List ℕ) (own : List Pair) → Restarts who p found own → Does b who p found own
restarts b (actor.Node n) NoPart found _ (only_rises rise down is) = absurd down
restarts b (actor.Node n) NoPart found _ (falls_first rise up is) = absurd (no-record (actor.Node n) NoPart found rise refl refl is)
restarts b (actor.Node n) (NodePart v) found _ (only_rises rise down is) = node-rises b n v found rise down is
restarts b (actor.Node n) (NodePart v) found _ (falls_first rise up is) = node-restarts b n v found rise up is
restarts b (actor.Node n) (ClientPart k) found _ (only_rises rise down is) = absurd (no-record (actor.Node n) (ClientPart k) found rise refl refl is)
restarts b (actor.Node n) (ClientPart k) found _ (falls_first rise up is) = absurd (no-record (actor.Node n) (ClientPart k) found rise refl refl is)
restarts b (actor.Client c) NoPart found _ (only_rises rise down is) = absurd down
restarts b (actor.Client c) NoPart found _ (falls_first rise up is) = absurd (no-record (actor.Client c) NoPart found rise refl refl is)
restarts b (actor.Client c) (NodePart v) found _ (only_rises rise down is) = absurd (no-record (actor.Client c) (NodePart v) found rise refl refl is)
restarts b (actor.Client c) (NodePart v) found _ (falls_first rise up is) = absurd (no-record (actor.Client c) (NodePart v) found rise refl refl is)
restarts b (actor.Client c) (ClientPart k) found _ (only_rises rise down is) = client-rises b c k found rise down is
restarts b (actor.Client c) (ClientPart k) found _ (falls_first rise up is) = client-restarts b c k found rise up is

pub begins-as-found : (b : List Ballot) (who : Actor) (p : Part) (found : List ℕ) (own : List Pair) → Restarts who p found own → kept_record who (local_part b p own) ≡ Some found
begins-as-found b who p found own h = (restarts b who p found own h).kept

-- the lives of an actor

pub lives-run : (b : List Ballot) (who : Actor) (lives : List Life) (p : Part) (log : List Pair) → TellsLives b who p lives log → IsOwnRun b who p log
lives-run b who [] p log h = subst (IsOwnRun b who p) (sym h) tt
lives-run b who (life ∷ lives) p log h =
    let begun = local_part b p h.0 in
    subst (IsOwnRun b who p) (sym h.5)
    (runs-join b who p h.0 (life.events ++ h.1) (restarts b who p life.found h.0 h.2).run
    (runs-join b who begun life.events h.1 h.3 (lives-run b who lives (local_part b begun life.events) h.1 h.4)))

-- and they tell one log

one-rise : (who : Actor) (p : Part) (found : List ℕ) (rise other : Event) → IsRise who p found rise → IsRise who p found other → rise ≡ other
one-rise who p found _ _ (rises_old kept) (rises_old also) = refl
one-rise who p found _ _ (rises_old kept) (rises_new apart tried) = absurd (apart kept)
one-rise who p found _ _ (rises_new apart tried) (rises_old kept) = absurd (apart kept)
one-rise who p found _ _ (rises_new apart tried) (rises_new again also) = refl

pub one-restart : (who : Actor) (p : Part) (found : List ℕ) (own other : List Pair) → Restarts who p found own → Restarts who p found other → own ≡ other
one-restart who p found _ _ (only_rises rise down is) (only_rises also too that) = ap (λ e. (e, effect.Up) ∷ []) (one-rise who p found rise also is that)
one-restart who p found _ _ (only_rises rise down is) (falls_first also up that) = absurd (up down)
one-restart who p found _ _ (falls_first rise up is) (only_rises also down that) = absurd (up down)
one-restart who p found _ _ (falls_first rise up is) (falls_first also too that) = ap (λ e. (event.Fall who, effect.Down) ∷ (e, effect.Up) ∷ []) (one-rise who p found rise also is that)

pub one-log : (b : List Ballot) (who : Actor) (lives : List Life) (p : Part) (log other : List Pair) → TellsLives b who p lives log → TellsLives b who p lives other → log ≡ other
one-log b who [] p log other h i = h ∙ sym i
one-log b who (life ∷ lives) p log other h i =
    let begun : h.0 ≡ i.0 = one-restart who p life.found h.0 i.0 h.2 i.2 in
    let rest : h.1 ≡ i.1 = one-log b who lives (local_part b (local_part b p i.0) life.events) h.1 i.1 (subst (λ r. TellsLives b who (local_part b (local_part b p r) life.events) lives h.1) begun h.4) i.4 in
    h.5 ∙ ap (λ r. r ++ (life.events ++ h.1)) begun ∙ ap (λ xs. i.0 ++ (life.events ++ xs)) rest ∙ sym i.5
