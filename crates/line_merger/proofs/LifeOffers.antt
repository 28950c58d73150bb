-- What comes of a line by which a life begins.
use Rattle.std.proofs.Common.{◌≡◌, ◌≢◌, ◌⊎◌, ℕ, ◌≤◌, Bool, true, false, List, [], ◌∷◌, ◌++◌, length, Option, Some, None, Result, Ok, Err, refl, sym, ◌∙◌, ap, subst, inl, inr, arith}
use Rattle.std.specs.Option.{option_map}
use Rattle.std.specs.Str.{bytes_eq}
use Rattle.std.proofs.lemmas.Slice.Eq.{bytes_eq-Decides}
use Rattle.std.proofs.lemmas.List.{append-nil}
use Rattle.lock_messages.specs.declared.ids.Actor.{Actor}
use Rattle.lock_messages.specs.declared.ids.Actor.TheVariants as actor
use Rattle.lock_messages.specs.declared.messages.Message.{Message}
use Rattle.lock_model.specs.Ballots.{Ballot}
use Rattle.stable_record.specs.Records.{client_record_of, record_bytes}
use Rattle.world_model.specs.declared.TheConstants.{MAX_MESSAGES}
use Rattle.world_model.specs.declared.events.Age.{Age}
use Rattle.world_model.specs.declared.events.Age.TheVariants.{Old, New}
use Rattle.world_model.specs.declared.events.Effect.{Effect}
use Rattle.world_model.specs.declared.events.Effect.TheVariants as effect
use Rattle.world_model.specs.declared.events.Event.{Event}
use Rattle.world_model.specs.declared.events.Event.TheVariants as event
use Rattle.world_model.specs.declared.events.StepFault.{StepFault}
use Rattle.world_model.specs.declared.events.StepFault.TheVariants as step
use Rattle.world_model.specs.declared.exact.ExactNode.{ExactNode}
use Rattle.world_model.specs.declared.exact.ExactNodePhase.{ExactNodePhase}
use Rattle.world_model.specs.declared.exact.ExactNodePhase.TheVariants as node
use Rattle.world_model.specs.declared.exact.ExactClient.{ExactClient}
use Rattle.world_model.specs.declared.exact.ExactClientPhase.{ExactClientPhase}
use Rattle.world_model.specs.declared.exact.ExactClientPhase.TheVariants as client
use Rattle.world_model.specs.declared.exact.ExactStation.{ExactStation}
use Rattle.world_model.specs.declared.exact.ExactWorld.{ExactWorld}
use Rattle.world_model.specs.Worlds.{Setting}
use Rattle.world_model.specs.ExactNodes.{node_falls_in, node_rises_in, node_rises_with}
use Rattle.world_model.specs.ExactClients.{client_falls_in, client_rises_in, client_rises_with}
use Rattle.world_model.specs.ExactWorlds.{numbered, actor_of, deed_of, step as step_of, refusal, refusal_of, Steps, Stepped}
use Rattle.world_model.specs.Laws.{Takes}
use Rattle.world_model.specs.Locality.{StepsChangeOnePart, OwnRefusalsComeFirst, ListRefusalsComeSecond, EffectsAreOfTheirEvents}
use Rattle.world_model.specs.Parts.{place, Part, NoPart, NodePart, ClientPart, node_part, client_part, part, own_refusal, IsListFault, after_turn, after_own, turn_says, said_by}
use Rattle.world_model.specs.StepsOf.{Does}
use Rattle.world_model.specs.StepsOf.{IsRefused as IsRefusedStep}
use Rattle.world_machine.specs.Listing.{kept_bytes}
use Rattle.merge_model.specs.OwnRuns.{HasEffect, IsTurn, IsOwnRun}
use Rattle.merge_model.specs.Lives.{kept_record, tried_record, IsDown, IsRise, rises_old, rises_new, Restarts, only_rises, falls_first}
use Rattle.merge_model.proofs.OwnRunFacts.{Pair, turns-allowed}
use Rattle.merge_model.proofs.Numbers.{deed-fits}
use Rattle.merge_model.proofs.Histories.{deed-steps}
use Rattle.merge_model.proofs.TakenTurns.{taken-turn}
use Rattle.merge_model.proofs.LifeFacts.{lives-run}
use Rattle.own_journals.specs.declared.lines.OwnLine.TheVariants as own
use Rattle.journal_merge.specs.LineMerges.{IsRefused}
use Rattle.line_merger.specs.declared.offers.Offer.TheVariants as offer
use Rattle.line_merger.specs.Offers.{TakesLine, offered, refused}
use Rattle.line_merger.specs.declared.offers.Taken.TheVariants as taken
use Rattle.line_merger.specs.Lives.{Finds, Fell, fallen, Falls, age_if, settled}
use Rattle.line_merger.specs.Reasons.{RefusesLife, IsAttempted}
use Rattle.line_merger.proofs.OfferFacts.{of-refused, own-or-listed, nothing-tried}

-- the record of the world is that of the part

pub kept-at : (who : Actor) (w : ExactWorld) → kept_bytes who w ≡ kept_record who (part w who)
kept-at (actor.Node n) w = go (numbered w.nodes n)
  where
    go : (o : Option ExactNode) → option_map (λ v. record_bytes v.kept.problem v.kept.entries) o ≡ kept_record (actor.Node n) (node_part o)
    go None = refl
    go (Some v) = refl
kept-at (actor.Client c) w = go (numbered w.clients c)
  where
    go : (o : Option ExactClient) → option_map (λ k. client_record_of k.kept) o ≡ kept_record (actor.Client c) (client_part o)
    go None = refl
    go (Some k) = refl

-- what a fall leaves

fall-keeps : (b : List Ballot) (who : Actor) (p : Part) (done : Effect) → tried_record who (after_own b (event.Fall who) done p) ≡ tried_record who p
fall-keeps b (actor.Node n) NoPart done = refl
fall-keeps b (actor.Node n) (NodePart v) done = go v.phase
  where
    go : (phase : ExactNodePhase) → tried_record (actor.Node n) (NodePart (after_turn v (node_falls_in v phase) done)) ≡ tried_record (actor.Node n) (NodePart v)
    go node.Down = refl
    go node.Idle = refl
    go (node.Decided s replies) = refl
    go (node.Stored replies) = refl
fall-keeps b (actor.Node n) (ClientPart k) done = refl
fall-keeps b (actor.Client c) NoPart done = refl
fall-keeps b (actor.Client c) (NodePart v) done = refl
fall-keeps b (actor.Client c) (ClientPart k) done = go k.phase
  where
    go : (phase : ExactClientPhase) → tried_record (actor.Client c) (ClientPart (after_turn k (client_falls_in k phase) done)) ≡ tried_record (actor.Client c) (ClientPart k)
    go client.Down = refl
    go client.Idle = refl
    go (client.Chosen t place) = refl
    go (client.Asking p) = refl
    go (client.Inside p) = refl

fall-keeps-kept : (b : List Ballot) (who : Actor) (p : Part) (done : Effect) → kept_record who (after_own b (event.Fall who) done p) ≡ kept_record who p
fall-keeps-kept b (actor.Node n) NoPart done = refl
fall-keeps-kept b (actor.Node n) (NodePart v) done = go v.phase
  where
    go : (phase : ExactNodePhase) → kept_record (actor.Node n) (NodePart (after_turn v (node_falls_in v phase) done)) ≡ kept_record (actor.Node n) (NodePart v)
    go node.Down = refl
    go node.Idle = refl
    go (node.Decided s replies) = refl
    go (node.Stored replies) = refl
fall-keeps-kept b (actor.Node n) (ClientPart k) done = refl
fall-keeps-kept b (actor.Client c) NoPart done = refl
fall-keeps-kept b (actor.Client c) (NodePart v) done = refl
fall-keeps-kept b (actor.Client c) (ClientPart k) done = go k.phase
  where
    go : (phase : ExactClientPhase) → kept_record (actor.Client c) (ClientPart (after_turn k (client_falls_in k phase) done)) ≡ kept_record (actor.Client c) (ClientPart k)
    go client.Down = refl
    go client.Idle = refl
    go (client.Chosen t place) = refl
    go (client.Asking p) = refl
    go (client.Inside p) = refl

fall-says : (b : List Ballot) (who : Actor) (p : Part) → said_by b (event.Fall who) p ≡ []
fall-says b (actor.Node n) NoPart = refl
fall-says b (actor.Node n) (NodePart v) = go v.phase
  where
    go : (phase : ExactNodePhase) → turn_says (node_falls_in v phase) ≡ []
    go node.Down = refl
    go node.Idle = refl
    go (node.Decided s replies) = refl
    go (node.Stored replies) = refl
fall-says b (actor.Node n) (ClientPart k) = refl
fall-says b (actor.Client c) NoPart = refl
fall-says b (actor.Client c) (NodePart v) = refl
fall-says b (actor.Client c) (ClientPart k) = go k.phase
  where
    go : (phase : ExactClientPhase) → turn_says (client_falls_in k phase) ≡ []
    go client.Down = refl
    go client.Idle = refl
    go (client.Chosen t place) = refl
    go (client.Asking p) = refl
    go (client.Inside p) = refl

-- who fell is down

fall-downs : (b : List Ballot) (who : Actor) (p : Part) (done : Effect) → IsTurn b p (event.Fall who) done → IsDown (after_own b (event.Fall who) done p)
fall-downs b (actor.Node n) NoPart done turn = absurd turn
fall-downs b (actor.Node n) (NodePart v) done turn = go v.phase turn
  where
    go : (phase : ExactNodePhase) → HasEffect (node_falls_in v phase) done → IsDown (NodePart (after_turn v (node_falls_in v phase) done))
    go node.Down h = absurd h
    go node.Idle h = refl
    go (node.Decided s replies) h = refl
    go (node.Stored replies) h = refl
fall-downs b (actor.Node n) (ClientPart k) done turn = absurd turn
fall-downs b (actor.Client c) NoPart done turn = absurd turn
fall-downs b (actor.Client c) (NodePart v) done turn = absurd turn
fall-downs b (actor.Client c) (ClientPart k) done turn = go k.phase turn
  where
    go : (phase : ExactClientPhase) → HasEffect (client_falls_in k phase) done → IsDown (ClientPart (after_turn k (client_falls_in k phase) done))
    go client.Down h = absurd h
    go client.Idle h = refl
    go (client.Chosen t place) h = refl
    go (client.Asking p) h = refl
    go (client.Inside p) h = refl

up-falls : (b : List Ballot) (who : Actor) (p : Part) (done : Effect) → IsTurn b p (event.Fall who) done → IsDown p → ⊥
up-falls b (actor.Node n) NoPart done turn down = down
up-falls b (actor.Node n) (NodePart v) done turn down = subst (λ phase. HasEffect (node_falls_in v phase) done) down turn
up-falls b (actor.Node n) (ClientPart k) done turn down = turn
up-falls b (actor.Client c) NoPart done turn down = down
up-falls b (actor.Client c) (NodePart v) done turn down = turn
up-falls b (actor.Client c) (ClientPart k) done turn down = subst (λ phase. HasEffect (client_falls_in k phase) done) down turn

-- what a rise with what was tried keeps

new-keeps : (b : List Ballot) (who : Actor) (p : Part) (done : Effect) → IsTurn b p (event.Rise who New) done → kept_record who (after_own b (event.Rise who New) done p) ≡ tried_record who p
new-keeps b (actor.Node n) NoPart done turn = absurd turn
new-keeps b (actor.Node n) (NodePart v) done turn = go v.phase turn
  where
    tried : (o : Option ExactStation) → HasEffect (node_rises_with New v.kept o) done → kept_record (actor.Node n) (NodePart (after_turn v (node_rises_with New v.kept o) done)) ≡ option_map (λ s. record_bytes s.problem s.entries) o
    tried None h = absurd h
    tried (Some s) h = refl

    go : (phase : ExactNodePhase) → HasEffect (node_rises_in New v phase) done → kept_record (actor.Node n) (NodePart (after_turn v (node_rises_in New v phase) done)) ≡ tried_record (actor.Node n) (NodePart v)
    go node.Down h = tried v.tried h
    go node.Idle h = absurd h
    go (node.Decided s replies) h = absurd h
    go (node.Stored replies) h = absurd h
new-keeps b (actor.Node n) (ClientPart k) done turn = absurd turn
new-keeps b (actor.Client c) NoPart done turn = absurd turn
new-keeps b (actor.Client c) (NodePart v) done turn = absurd turn
new-keeps b (actor.Client c) (ClientPart k) done turn = go k.phase turn
  where
    tried : (o : Option ℕ) → HasEffect (client_rises_with New k.kept o) done → kept_record (actor.Client c) (ClientPart (after_turn k (client_rises_with New k.kept o) done)) ≡ option_map client_record_of o
    tried None h = absurd h
    tried (Some a) h = refl

    go : (phase : ExactClientPhase) → HasEffect (client_rises_in New k phase) done → kept_record (actor.Client c) (ClientPart (after_turn k (client_rises_in New k phase) done)) ≡ tried_record (actor.Client c) (ClientPart k)
    go client.Down h = tried k.tried h
    go client.Idle h = absurd h
    go (client.Chosen t place) h = absurd h
    go (client.Asking p) h = absurd h
    go (client.Inside p) h = absurd h

-- whose events they are

fall-of : (who : Actor) → actor_of (event.Fall who) ≡ who
fall-of (actor.Node n) = refl
fall-of (actor.Client c) = refl

rise-of : (who : Actor) (age : Age) → actor_of (event.Rise who age) ≡ who
rise-of (actor.Node n) age = refl
rise-of (actor.Client c) age = refl

-- the world after the fall, if any

after-fall : StepsChangeOnePart → EffectsAreOfTheirEvents → (w u : ExactWorld) (who : Actor) (done : Effect) → Takes w (event.Fall who) done u → part u who ≡ after_own w.ballots (event.Fall who) effect.Down (part w who)
after-fall changes effects w u who done h =
    subst (λ a. part u a ≡ after_own w.ballots (event.Fall who) effect.Down (part w a)) (fall-of who)
    (subst (λ d. part u (actor_of (event.Fall who)) ≡ after_own w.ballots (event.Fall who) d (part w (actor_of (event.Fall who)))) (effects w u (event.Fall who) done h) (changes w u (event.Fall who) done h).own)

fell-tried : StepsChangeOnePart → EffectsAreOfTheirEvents → (w u : ExactWorld) (who : Actor) (fell : Bool) → Fell w who fell u → tried_record who (part u who) ≡ tried_record who (part w who)
fell-tried changes effects w u who true h = ap (tried_record who) (after-fall changes effects w u who h.0 h.1) ∙ fall-keeps w.ballots who (part w who) effect.Down
fell-tried changes effects w u who false h = ap (λ (x : ExactWorld). tried_record who (part x who)) h.0

fell-kept : StepsChangeOnePart → EffectsAreOfTheirEvents → (w u : ExactWorld) (who : Actor) (fell : Bool) → Fell w who fell u → kept_record who (part u who) ≡ kept_record who (part w who)
fell-kept changes effects w u who true h = ap (kept_record who) (after-fall changes effects w u who h.0 h.1) ∙ fall-keeps-kept w.ballots who (part w who) effect.Down
fell-kept changes effects w u who false h = ap (λ (x : ExactWorld). kept_record who (part x who)) h.0

fell-down : StepsChangeOnePart → EffectsAreOfTheirEvents → (w u : ExactWorld) (who : Actor) (fell : Bool) → Fell w who fell u → IsDown (part u who)
fell-down changes effects w u who true h =
    let done : h.0 ≡ effect.Down = effects w u (event.Fall who) h.0 h.1 in
    subst IsDown (sym (after-fall changes effects w u who h.0 h.1))
    (fall-downs w.ballots who (part w who) effect.Down (subst (λ d. IsTurn w.ballots (part w who) (event.Fall who) d) done (subst (λ a. IsTurn w.ballots (part w a) (event.Fall who) h.0) (fall-of who) (taken-turn w u (event.Fall who) h.0 h.1))))
fell-down changes effects w u who false h = subst (λ (x : ExactWorld). IsDown (part x who)) (sym h.0) h.1

down-kept : (u : ExactWorld) (who : Actor) → IsDown (part u who) → kept_record who (part u who) ≡ None → ⊥
down-kept u (actor.Node n) = go (numbered u.nodes n)
  where
    go : (o : Option ExactNode) → IsDown (node_part o) → kept_record (actor.Node n) (node_part o) ≡ None → ⊥
    go None down none = down
    go (Some v) down none = let z : ◌≡◌ {A = Option (List ℕ)} (Some (record_bytes v.kept.problem v.kept.entries)) None = none in cc
down-kept u (actor.Client c) = go (numbered u.clients c)
  where
    go : (o : Option ExactClient) → IsDown (client_part o) → kept_record (actor.Client c) (client_part o) ≡ None → ⊥
    go None down none = down
    go (Some k) down none = let z : ◌≡◌ {A = Option (List ℕ)} (Some (client_record_of k.kept)) None = none in cc

fell-there : StepsChangeOnePart → EffectsAreOfTheirEvents → (w u : ExactWorld) (who : Actor) (fell : Bool) → Fell w who fell u → kept_record who (part w who) ≢ None
fell-there changes effects w u who fell h none = down-kept u who (fell-down changes effects w u who fell h) (fell-kept changes effects w u who fell h ∙ none)

-- what was attempted

fell-sent : StepsChangeOnePart → (w u : ExactWorld) (who : Actor) (done : Effect) → Takes w (event.Fall who) done u → u.sent ≡ w.sent
fell-sent changes w u who done h = (changes w u (event.Fall who) done h).sent ∙ ap (λ xs. w.sent ++ xs) (fall-says w.ballots who (part w (actor_of (event.Fall who)))) ∙ append-nil w.sent

fell-attempt : StepsChangeOnePart → (w u : ExactWorld) (who : Actor) (fell : Bool) → Fell w who fell u → IsAttempted who w u
fell-attempt changes w u who true h = record {
  events = (event.Fall who, h.0) ∷ [];
  attempt = (inl refl, tt);
  history = (u, h.1, refl);
  sent = fell-sent changes w u who h.0 h.1;
}
fell-attempt changes w u who false h = nothing-tried w u who h.0

-- a life that begins: the line was taken

taken-as : StepsChangeOnePart → EffectsAreOfTheirEvents → (w u v : ExactWorld) (who : Actor) (found : List ℕ) (age : Age) (done : Effect) (fell : Bool) → Fell w who fell u → Takes u (event.Rise who age) done v → IsRise who (part w who) found (event.Rise who age) →
    TakesLine w who (own.Life who found) (Ok (offer.Took (taken.Rose fell age))) v
taken-as changes effects w u v who found age done true h rise is =
    let fell : h.0 ≡ effect.Down = effects w u (event.Fall who) h.0 h.1 in
    let rose : done ≡ effect.Up = effects u v (event.Rise who age) done rise in (
      (event.Fall who, effect.Down) ∷ (event.Rise who age, effect.Up) ∷ [],
      (refl, falls_first (event.Rise who age) (up-falls w.ballots who (part w who) h.0 (subst (λ a. IsTurn w.ballots (part w a) (event.Fall who) h.0) (fall-of who) (taken-turn w u (event.Fall who) h.0 h.1))) is),
      (u, subst (λ d. Takes w (event.Fall who) d u) fell h.1, (v, subst (λ d. Takes u (event.Rise who age) d v) rose rise, refl)),
      refl,
    )
taken-as changes effects w u v who found age done false h rise is =
    let rose : done ≡ effect.Up = effects u v (event.Rise who age) done rise in (
      (event.Rise who age, effect.Up) ∷ [],
      (refl, only_rises (event.Rise who age) h.1 is),
      (v, subst (λ (x : ExactWorld). Takes x (event.Rise who age) effect.Up v) h.0 (subst (λ d. Takes u (event.Rise who age) d v) rose rise), refl),
      refl,
    )

pub old-taken : StepsChangeOnePart → EffectsAreOfTheirEvents → (w u v : ExactWorld) (who : Actor) (found : List ℕ) (done : Effect) (fell : Bool) → Fell w who fell u → Takes u (event.Rise who Old) done v → kept_record who (part w who) ≡ Some found →
    TakesLine w who (own.Life who found) (Ok (offer.Took (taken.Rose fell Old))) v
old-taken changes effects w u v who found done fell down rise kept = taken-as changes effects w u v who found Old done fell down rise (rises_old kept)

new-tried : StepsChangeOnePart → EffectsAreOfTheirEvents → (w u v : ExactWorld) (who : Actor) (done : Effect) (fell : Bool) → Fell w who fell u → Takes u (event.Rise who New) done v → kept_record who (part v who) ≡ tried_record who (part w who)
new-tried changes effects w u v who done fell down rise =
    let turn : IsTurn u.ballots (part u who) (event.Rise who New) done = subst (λ a. IsTurn u.ballots (part u a) (event.Rise who New) done) (rise-of who New) (taken-turn u v (event.Rise who New) done rise) in
    let after : part v who ≡ after_own u.ballots (event.Rise who New) done (part u who) = subst (λ a. part v a ≡ after_own u.ballots (event.Rise who New) done (part u a)) (rise-of who New) (changes u v (event.Rise who New) done rise).own in
    ap (kept_record who) after ∙ new-keeps u.ballots who (part u who) done turn ∙ fell-tried changes effects w u who fell down

pub new-taken : StepsChangeOnePart → EffectsAreOfTheirEvents → (w u v : ExactWorld) (who : Actor) (found : List ℕ) (done : Effect) (fell : Bool) → Fell w who fell u → Takes u (event.Rise who New) done v → kept_record who (part w who) ≢ Some found → kept_record who (part v who) ≡ Some found →
    TakesLine w who (own.Life who found) (Ok (offer.Took (taken.Rose fell New))) v
new-taken changes effects w u v who found done fell down rise apart kept =
    taken-as changes effects w u v who found New done fell down rise (rises_new apart (sym (new-tried changes effects w u v who done fell down rise) ∙ kept))

-- each restart has a rise

restart-rise : (who : Actor) (p : Part) (found : List ℕ) (events : List Pair) → Restarts who p found events → (e : Event) × IsRise who p found e
restart-rise who p found _ (only_rises e down is) = (e, is)
restart-rise who p found _ (falls_first e up is) = (e, is)

-- a life that does not begin

pub new-other : StepsChangeOnePart → EffectsAreOfTheirEvents → (w u v : ExactWorld) (who : Actor) (found : List ℕ) (done : Effect) (fell : Bool) → Fell w who fell u → Takes u (event.Rise who New) done v → kept_record who (part w who) ≢ Some found → kept_record who (part v who) ≢ Some found →
    IsRefused w who (own.Life who found)
new-other changes effects w u v who found done fell down rise apart other events t =
    let r = restart-rise who (part w who) found events t.1 in
    rises r.0 r.1
  where
    rises : (e : Event) → IsRise who (part w who) found e → ⊥
    rises _ (rises_old kept) = apart kept
    rises _ (rises_new also tried) = other (new-tried changes effects w u v who done fell down rise ∙ tried)

-- nobody rises without a record

kept-or-none : (who : Actor) (p : Part) → kept_record who p ≡ None → tried_record who p ≡ None
kept-or-none (actor.Node n) NoPart none = refl
kept-or-none (actor.Node n) (NodePart v) none = absurd (let z : ◌≡◌ {A = Option (List ℕ)} (Some (record_bytes v.kept.problem v.kept.entries)) None = none in cc)
kept-or-none (actor.Node n) (ClientPart k) none = refl
kept-or-none (actor.Client c) NoPart none = refl
kept-or-none (actor.Client c) (NodePart v) none = refl
kept-or-none (actor.Client c) (ClientPart k) none = absurd (let z : ◌≡◌ {A = Option (List ℕ)} (Some (client_record_of k.kept)) None = none in cc)

no-rise : (who : Actor) (p : Part) (found : List ℕ) (e : Event) → kept_record who p ≡ None → IsRise who p found e → ⊥
no-rise who p found _ none (rises_old kept) = let z : ◌≡◌ {A = Option (List ℕ)} None (Some found) = sym none ∙ kept in cc
no-rise who p found _ none (rises_new apart tried) = let z : ◌≡◌ {A = Option (List ℕ)} None (Some found) = sym (kept-or-none who p none) ∙ tried in cc

pub no-record : (w : ExactWorld) (who : Actor) (found : List ℕ) → kept_bytes who w ≡ None → IsRefused w who (own.Life who found)
no-record w who found none events t = let r = restart-rise who (part w who) found events t.1 in no-rise who (part w who) found r.0 (sym (kept-at who w) ∙ none) r.1

-- the run of a restart

restart-run : (b : List Ballot) (who : Actor) (p : Part) (found : List ℕ) (events : List Pair) → Restarts who p found events → IsOwnRun b who p events
restart-run b who p found events h =
    subst (IsOwnRun b who p) (append-nil events) (lives-run b who (record { found = found; events = [] } ∷ []) p (events ++ ([] ++ [])) (events, [], h, tt, refl, refl))

-- the refusal of a fall

down-of : (b : List Ballot) (who : Actor) (p : Part) → own_refusal b (event.Fall who) p ≡ Some step.Down → IsDown p
down-of b (actor.Node n) NoPart h = absurd (let z : ◌≡◌ {A = Option StepFault} (Some step.UnknownActor) (Some step.Down) = h in cc)
down-of b (actor.Node n) (NodePart v) h = go v.phase h
  where
    go : (phase : ExactNodePhase) → refusal_of (node_falls_in v phase) ≡ Some step.Down → phase ≡ node.Down
    go node.Down h = refl
    go node.Idle h = absurd (let z : ◌≡◌ {A = Option StepFault} None (Some step.Down) = h in cc)
    go (node.Decided s replies) h = absurd (let z : ◌≡◌ {A = Option StepFault} None (Some step.Down) = h in cc)
    go (node.Stored replies) h = absurd (let z : ◌≡◌ {A = Option StepFault} None (Some step.Down) = h in cc)
down-of b (actor.Node n) (ClientPart k) h = absurd (let z : ◌≡◌ {A = Option StepFault} (Some step.UnknownActor) (Some step.Down) = h in cc)
down-of b (actor.Client c) NoPart h = absurd (let z : ◌≡◌ {A = Option StepFault} (Some step.UnknownActor) (Some step.Down) = h in cc)
down-of b (actor.Client c) (NodePart v) h = absurd (let z : ◌≡◌ {A = Option StepFault} (Some step.UnknownActor) (Some step.Down) = h in cc)
down-of b (actor.Client c) (ClientPart k) h = go k.phase h
  where
    go : (phase : ExactClientPhase) → refusal_of (client_falls_in k phase) ≡ Some step.Down → phase ≡ client.Down
    go client.Down h = refl
    go client.Idle h = absurd (let z : ◌≡◌ {A = Option StepFault} None (Some step.Down) = h in cc)
    go (client.Chosen t place) h = absurd (let z : ◌≡◌ {A = Option StepFault} None (Some step.Down) = h in cc)
    go (client.Asking p) h = absurd (let z : ◌≡◌ {A = Option StepFault} None (Some step.Down) = h in cc)
    go (client.Inside p) h = absurd (let z : ◌≡◌ {A = Option StepFault} None (Some step.Down) = h in cc)

down-refuses : (b : List Ballot) (who : Actor) (p : Part) (found : List ℕ) (e : Event) → IsDown p → IsRise who p found e → own_refusal b (event.Fall who) p ≡ Some step.Down
down-refuses b (actor.Node n) NoPart found e down is = absurd down
down-refuses b (actor.Node n) (NodePart v) found e down is = subst (λ phase. refusal_of (node_falls_in v phase) ≡ Some step.Down) (sym down) refl
down-refuses b (actor.Node n) (ClientPart k) found e down is = absurd (no-rise (actor.Node n) (ClientPart k) found e refl is)
down-refuses b (actor.Client c) NoPart found e down is = absurd down
down-refuses b (actor.Client c) (NodePart v) found e down is = absurd (no-rise (actor.Client c) (NodePart v) found e refl is)
down-refuses b (actor.Client c) (ClientPart k) found e down is = subst (λ phase. refusal_of (client_falls_in k phase) ≡ Some step.Down) (sym down) refl

own-fall-refusal : OwnRefusalsComeFirst → ListRefusalsComeSecond → (w : ExactWorld) (who : Actor) (f : StepFault) → refusal w (event.Fall who) ≡ Some f → own_refusal w.ballots (event.Fall who) (part w who) ≡ Some f
own-fall-refusal first second w who f h = subst (λ a. own_refusal w.ballots (event.Fall who) (part w a) ≡ Some f) (fall-of who) (go (own_refusal w.ballots (event.Fall who) (part w (actor_of (event.Fall who)))) refl)
  where
    listed : (refusal w (event.Fall who) ≡ None) ⊎ ((g : StepFault) × (refusal w (event.Fall who) ≡ Some g) × IsListFault (event.Fall who) g) → ⊥
    listed (inl none) = let z : ◌≡◌ {A = Option StepFault} None (Some f) = sym none ∙ h in cc
    listed (inr some) = some.2

    go : (o : Option StepFault) → own_refusal w.ballots (event.Fall who) (part w (actor_of (event.Fall who))) ≡ o → own_refusal w.ballots (event.Fall who) (part w (actor_of (event.Fall who))) ≡ Some f
    go None is = absurd (listed (second w (event.Fall who) is))
    go (Some g) is = is ∙ sym (first w (event.Fall who) g is).0 ∙ h

the-refusal : (e : Event) (s : Steps) (f : StepFault) → IsRefusedStep e s f → f ≢ step.Memory → s ≡ Err f
the-refusal e s f (inl h) apart = h
the-refusal e s f (inr h) apart = absurd (apart h.0)

fall-unknown : (w : ExactWorld) (who : Actor) (f : StepFault) → own_refusal w.ballots (event.Fall who) (part w who) ≡ Some f → f ≢ step.Down → (f ≡ step.UnknownActor) × (kept_record who (part w who) ≡ None)
fall-unknown w (actor.Node n) f = go (numbered w.nodes n)
  where
    phased : (v : ExactNode) (phase : ExactNodePhase) → refusal_of (node_falls_in v phase) ≡ Some f → f ≢ step.Down → ⊥
    phased v node.Down h apart = let z : ◌≡◌ {A = Option StepFault} (Some step.Down) (Some f) = h in apart cc
    phased v node.Idle h apart = let z : ◌≡◌ {A = Option StepFault} None (Some f) = h in cc
    phased v (node.Decided s replies) h apart = let z : ◌≡◌ {A = Option StepFault} None (Some f) = h in cc
    phased v (node.Stored replies) h apart = let z : ◌≡◌ {A = Option StepFault} None (Some f) = h in cc

    go : (o : Option ExactNode) → own_refusal w.ballots (event.Fall (actor.Node n)) (node_part o) ≡ Some f → f ≢ step.Down → (f ≡ step.UnknownActor) × (kept_record (actor.Node n) (node_part o) ≡ None)
    go None h apart = let z : ◌≡◌ {A = Option StepFault} (Some step.UnknownActor) (Some f) = h in (cc, refl)
    go (Some v) h apart = absurd (phased v v.phase h apart)
fall-unknown w (actor.Client c) f = go (numbered w.clients c)
  where
    phased : (k : ExactClient) (phase : ExactClientPhase) → refusal_of (client_falls_in k phase) ≡ Some f → f ≢ step.Down → ⊥
    phased k client.Down h apart = let z : ◌≡◌ {A = Option StepFault} (Some step.Down) (Some f) = h in apart cc
    phased k client.Idle h apart = let z : ◌≡◌ {A = Option StepFault} None (Some f) = h in cc
    phased k (client.Chosen t place) h apart = let z : ◌≡◌ {A = Option StepFault} None (Some f) = h in cc
    phased k (client.Asking p) h apart = let z : ◌≡◌ {A = Option StepFault} None (Some f) = h in cc
    phased k (client.Inside p) h apart = let z : ◌≡◌ {A = Option StepFault} None (Some f) = h in cc

    go : (o : Option ExactClient) → own_refusal w.ballots (event.Fall (actor.Client c)) (client_part o) ≡ Some f → f ≢ step.Down → (f ≡ step.UnknownActor) × (kept_record (actor.Client c) (client_part o) ≡ None)
    go None h apart = let z : ◌≡◌ {A = Option StepFault} (Some step.UnknownActor) (Some f) = h in (cc, refl)
    go (Some k) h apart = absurd (phased k k.phase h apart)

fall-refused : OwnRefusalsComeFirst → ListRefusalsComeSecond → (w : ExactWorld) (who : Actor) (f : StepFault) → f ≢ step.Down → f ≢ step.Memory → IsRefusedStep (event.Fall who) (step_of w (event.Fall who)) f → (found : List ℕ) → IsRefused w who (own.Life who found)
fall-refused first second w who f apart memory h found events t = go events t.1
  where
    own : own_refusal w.ballots (event.Fall who) (part w who) ≡ Some f
    own = own-fall-refusal first second w who f (ap refusal_of (the-refusal (event.Fall who) (step_of w (event.Fall who)) f h memory))

    go : (events : List Pair) → Restarts who (part w who) found events → ⊥
    go _ (only_rises e down is) =
        let z : ◌≡◌ {A = Option StepFault} (Some f) (Some step.Down) = sym own ∙ down-refuses w.ballots who (part w who) found e down is in
        apart cc
    go _ (falls_first e up is) =
        let run = restart-run w.ballots who (part w who) found ((event.Fall who, effect.Down) ∷ (e, effect.Up) ∷ []) (falls_first e up is) in
        let z : ◌≡◌ {A = Option StepFault} None (Some f) = sym (turns-allowed w.ballots (part w who) (event.Fall who) effect.Down run.1) ∙ own in
        cc

-- a fall that is refused, but not since the actor is down
fall-fails : OwnRefusalsComeFirst → ListRefusalsComeSecond → (w u : ExactWorld) (who : Actor) (f : StepFault) → f ≢ step.Down → f ≢ step.Memory → IsRefusedStep (event.Fall who) (step_of w (event.Fall who)) f × (u ≡ w) → Falls w who (Err f) u
fall-fails first second w u who f apart memory h =
    let own : own_refusal w.ballots (event.Fall who) (part w who) ≡ Some f = own-fall-refusal first second w who f (ap refusal_of (the-refusal (event.Fall who) (step_of w (event.Fall who)) f h.0 memory)) in
    let unknown = fall-unknown w who f own apart in
    inr (fall-refused first second w who f apart memory h.0, unknown.0, unknown.1, h.1)

pub falls-as : OwnRefusalsComeFirst → ListRefusalsComeSecond → (w u : ExactWorld) (who : Actor) (r : Result Effect StepFault) → Does (event.Fall who) (step_of w (event.Fall who)) w r u → Falls w who (fallen r) u
falls-as first second w u who (Ok done) h = (done, h)
falls-as first second w u who (Err step.Down) h =
    (h.1, down-of w.ballots who (part w who) (own-fall-refusal first second w who step.Down (ap refusal_of (the-refusal (event.Fall who) (step_of w (event.Fall who)) step.Down h.0 (λ e. cc)))))
falls-as first second w u who (Err step.Memory) h = inl refl
falls-as first second w u who (Err step.UnknownActor) h = fall-fails first second w u who step.UnknownActor (λ e. cc) (λ e. cc) h
falls-as first second w u who (Err step.Up) h = fall-fails first second w u who step.Up (λ e. cc) (λ e. cc) h
falls-as first second w u who (Err step.WrongPhase) h = fall-fails first second w u who step.WrongPhase (λ e. cc) (λ e. cc) h
falls-as first second w u who (Err step.NotStored) h = fall-fails first second w u who step.NotStored (λ e. cc) (λ e. cc) h
falls-as first second w u who (Err step.NothingToSay) h = fall-fails first second w u who step.NothingToSay (λ e. cc) (λ e. cc) h
falls-as first second w u who (Err step.NoSuchMessage) h = fall-fails first second w u who step.NoSuchMessage (λ e. cc) (λ e. cc) h
falls-as first second w u who (Err step.NotAddressed) h = fall-fails first second w u who step.NotAddressed (λ e. cc) (λ e. cc) h
falls-as first second w u who (Err step.NoQuorum) h = fall-fails first second w u who step.NoQuorum (λ e. cc) (λ e. cc) h
falls-as first second w u who (Err step.AttemptsSpent) h = fall-fails first second w u who step.AttemptsSpent (λ e. cc) (λ e. cc) h
falls-as first second w u who (Err step.NothingTried) h = fall-fails first second w u who step.NothingTried (λ e. cc) (λ e. cc) h
falls-as first second w u who (Err step.SentListFull) h = fall-fails first second w u who step.SentListFull (λ e. cc) (λ e. cc) h
falls-as first second w u who (Err step.NoSuchPlace) h = fall-fails first second w u who step.NoSuchPlace (λ e. cc) (λ e. cc) h

-- the refusal of a rise

rise-says : (b : List Ballot) (who : Actor) (age : Age) (p : Part) → said_by b (event.Rise who age) p ≡ []
rise-says b (actor.Node n) age NoPart = refl
rise-says b (actor.Node n) age (NodePart v) = go v.phase
  where
    with-tried : (age : Age) (o : Option ExactStation) → turn_says (node_rises_with age v.kept o) ≡ []
    with-tried Old o = refl
    with-tried New None = refl
    with-tried New (Some s) = refl

    go : (phase : ExactNodePhase) → turn_says (node_rises_in age v phase) ≡ []
    go node.Down = with-tried age v.tried
    go node.Idle = refl
    go (node.Decided s replies) = refl
    go (node.Stored replies) = refl
rise-says b (actor.Node n) age (ClientPart k) = refl
rise-says b (actor.Client c) age NoPart = refl
rise-says b (actor.Client c) age (NodePart v) = refl
rise-says b (actor.Client c) age (ClientPart k) = go k.phase
  where
    with-tried : (age : Age) (o : Option ℕ) → turn_says (client_rises_with age k.kept o) ≡ []
    with-tried Old o = refl
    with-tried New None = refl
    with-tried New (Some a) = refl

    go : (phase : ExactClientPhase) → turn_says (client_rises_in age k phase) ≡ []
    go client.Down = with-tried age k.tried
    go client.Idle = refl
    go (client.Chosen t place) = refl
    go (client.Asking p) = refl
    go (client.Inside p) = refl

step-rises : (w : ExactWorld) (who : Actor) (age : Age) → length w.sent ≤ MAX_MESSAGES → IsTurn w.ballots (part w who) (event.Rise who age) effect.Up → (s : Stepped) × (step_of w (event.Rise who age) ≡ Ok s)
unfolding step_of
step-rises w (actor.Node n) age room turn =
    let none = ap (λ (xs : List Message). length xs) (rise-says w.ballots (actor.Node n) age (part w (actor.Node n))) in
    let d = deed-steps w (deed_of (event.Rise (actor.Node n) age)) effect.Up 0 (deed-fits (event.Rise (actor.Node n) age) 0) turn (λ m e. absurd (let z : ◌≡◌ {A = Option Message} None (Some m) = e in cc)) (omega (arith, none, room)) in
    (_, d.steps)
step-rises w (actor.Client c) age room turn =
    let none = ap (λ (xs : List Message). length xs) (rise-says w.ballots (actor.Client c) age (part w (actor.Client c))) in
    let d = deed-steps w (deed_of (event.Rise (actor.Client c) age)) effect.Up 0 (deed-fits (event.Rise (actor.Client c) age) 0) turn (λ m e. absurd (let z : ◌≡◌ {A = Option Message} None (Some m) = e in cc)) (omega (arith, none, room)) in
    (_, d.steps)

-- the refusal of a rise is the actor's own

own-rise-refusal : OwnRefusalsComeFirst → ListRefusalsComeSecond → (w : ExactWorld) (who : Actor) (age : Age) (f : StepFault) → refusal w (event.Rise who age) ≡ Some f → own_refusal w.ballots (event.Rise who age) (part w who) ≡ Some f
own-rise-refusal first second w who age f h = subst (λ a. own_refusal w.ballots (event.Rise who age) (part w a) ≡ Some f) (rise-of who age) (go (own-or-listed first second w (event.Rise who age) f h))
  where
    go : (own_refusal w.ballots (event.Rise who age) (part w (actor_of (event.Rise who age))) ≡ Some f) ⊎ ((own_refusal w.ballots (event.Rise who age) (part w (actor_of (event.Rise who age))) ≡ None) × ⊥) → own_refusal w.ballots (event.Rise who age) (part w (actor_of (event.Rise who age))) ≡ Some f
    go (inl is) = is
    go (inr listed) = absurd listed.1

old-goes : (u : ExactWorld) (who : Actor) (f : StepFault) → IsDown (part u who) → own_refusal u.ballots (event.Rise who Old) (part u who) ≡ Some f → ⊥
old-goes u (actor.Node n) f = go (numbered u.nodes n)
  where
    phased : (v : ExactNode) (phase : ExactNodePhase) → phase ≡ node.Down → refusal_of (node_rises_in Old v phase) ≡ Some f → ⊥
    phased v node.Down down h = let z : ◌≡◌ {A = Option StepFault} None (Some f) = h in cc
    phased v node.Idle down h = let z : node.Idle ≡ node.Down = down in cc
    phased v (node.Decided s replies) down h = let z : node.Decided s replies ≡ node.Down = down in cc
    phased v (node.Stored replies) down h = let z : node.Stored replies ≡ node.Down = down in cc

    go : (o : Option ExactNode) → IsDown (node_part o) → own_refusal u.ballots (event.Rise (actor.Node n) Old) (node_part o) ≡ Some f → ⊥
    go None down h = down
    go (Some v) down h = phased v v.phase down h
old-goes u (actor.Client c) f = go (numbered u.clients c)
  where
    phased : (k : ExactClient) (phase : ExactClientPhase) → phase ≡ client.Down → refusal_of (client_rises_in Old k phase) ≡ Some f → ⊥
    phased k client.Down down h = let z : ◌≡◌ {A = Option StepFault} None (Some f) = h in cc
    phased k client.Idle down h = let z : client.Idle ≡ client.Down = down in cc
    phased k (client.Chosen t place) down h = let z : client.Chosen t place ≡ client.Down = down in cc
    phased k (client.Asking p) down h = let z : client.Asking p ≡ client.Down = down in cc
    phased k (client.Inside p) down h = let z : client.Inside p ≡ client.Down = down in cc

    go : (o : Option ExactClient) → IsDown (client_part o) → own_refusal u.ballots (event.Rise (actor.Client c) Old) (client_part o) ≡ Some f → ⊥
    go None down h = down
    go (Some k) down h = phased k k.phase down h

new-untried : (u : ExactWorld) (who : Actor) (f : StepFault) → IsDown (part u who) → own_refusal u.ballots (event.Rise who New) (part u who) ≡ Some f → (f ≡ step.NothingTried) × (tried_record who (part u who) ≡ None)
new-untried u (actor.Node n) f = go (numbered u.nodes n)
  where
    tried : (kept : ExactStation) (o : Option ExactStation) → refusal_of (node_rises_with New kept o) ≡ Some f → (f ≡ step.NothingTried) × (option_map (λ (s : ExactStation). record_bytes s.problem s.entries) o ≡ None)
    tried kept None h = let z : ◌≡◌ {A = Option StepFault} (Some step.NothingTried) (Some f) = h in (cc, refl)
    tried kept (Some s) h = absurd (let z : ◌≡◌ {A = Option StepFault} None (Some f) = h in cc)

    phased : (v : ExactNode) (phase : ExactNodePhase) → phase ≡ node.Down → refusal_of (node_rises_in New v phase) ≡ Some f → (f ≡ step.NothingTried) × (tried_record (actor.Node n) (NodePart v) ≡ None)
    phased v node.Down down h = tried v.kept v.tried h
    phased v node.Idle down h = absurd (let z : node.Idle ≡ node.Down = down in cc)
    phased v (node.Decided s replies) down h = absurd (let z : node.Decided s replies ≡ node.Down = down in cc)
    phased v (node.Stored replies) down h = absurd (let z : node.Stored replies ≡ node.Down = down in cc)

    go : (o : Option ExactNode) → IsDown (node_part o) → own_refusal u.ballots (event.Rise (actor.Node n) New) (node_part o) ≡ Some f → (f ≡ step.NothingTried) × (tried_record (actor.Node n) (node_part o) ≡ None)
    go None down h = absurd down
    go (Some v) down h = phased v v.phase down h
new-untried u (actor.Client c) f = go (numbered u.clients c)
  where
    tried : (kept : ℕ) (o : Option ℕ) → refusal_of (client_rises_with New kept o) ≡ Some f → (f ≡ step.NothingTried) × (option_map client_record_of o ≡ None)
    tried kept None h = let z : ◌≡◌ {A = Option StepFault} (Some step.NothingTried) (Some f) = h in (cc, refl)
    tried kept (Some a) h = absurd (let z : ◌≡◌ {A = Option StepFault} None (Some f) = h in cc)

    phased : (k : ExactClient) (phase : ExactClientPhase) → phase ≡ client.Down → refusal_of (client_rises_in New k phase) ≡ Some f → (f ≡ step.NothingTried) × (tried_record (actor.Client c) (ClientPart k) ≡ None)
    phased k client.Down down h = tried k.kept k.tried h
    phased k client.Idle down h = absurd (let z : client.Idle ≡ client.Down = down in cc)
    phased k (client.Chosen t place) down h = absurd (let z : client.Chosen t place ≡ client.Down = down in cc)
    phased k (client.Asking p) down h = absurd (let z : client.Asking p ≡ client.Down = down in cc)
    phased k (client.Inside p) down h = absurd (let z : client.Inside p ≡ client.Down = down in cc)

    go : (o : Option ExactClient) → IsDown (client_part o) → own_refusal u.ballots (event.Rise (actor.Client c) New) (client_part o) ≡ Some f → (f ≡ step.NothingTried) × (tried_record (actor.Client c) (client_part o) ≡ None)
    go None down h = absurd down
    go (Some k) down h = phased k k.phase down h

rise-turn : StepsChangeOnePart → EffectsAreOfTheirEvents → (w u : ExactWorld) (who : Actor) (found : List ℕ) (events : List Pair) (fell : Bool) → Fell w who fell u → Restarts who (part w who) found events → (e : Event) × IsRise who (part w who) found e × IsTurn u.ballots (part u who) e effect.Up
rise-turn changes effects w u who found _ true h (only_rises e down is) =
    absurd (up-falls w.ballots who (part w who) h.0 (subst (λ a. IsTurn w.ballots (part w a) (event.Fall who) h.0) (fall-of who) (taken-turn w u (event.Fall who) h.0 h.1)) down)
rise-turn changes effects w u who found _ false h (only_rises e down is) =
    let run = restart-run w.ballots who (part w who) found ((e, effect.Up) ∷ []) (only_rises e down is) in
    (e, is, subst (λ (x : ExactWorld). IsTurn x.ballots (part x who) e effect.Up) (sym h.0) run.1)
rise-turn changes effects w u who found _ true h (falls_first e up is) =
    let run = restart-run w.ballots who (part w who) found ((event.Fall who, effect.Down) ∷ (e, effect.Up) ∷ []) (falls_first e up is) in
    let ballots : u.ballots ≡ w.ballots = ap (λ (x : Setting). x.ballots) (changes w u (event.Fall who) h.0 h.1).setting in
    (e, is, subst (λ b. IsTurn b (part u who) e effect.Up) (sym ballots) (subst (λ p. IsTurn w.ballots p e effect.Up) (sym (after-fall changes effects w u who h.0 h.1)) run.2.1))
rise-turn changes effects w u who found _ false h (falls_first e up is) = absurd (up h.1)

pub rise-refused : StepsChangeOnePart → EffectsAreOfTheirEvents → (w u : ExactWorld) (who : Actor) (found : List ℕ) (old : Bool) (f : StepFault) (fell : Bool) → length u.sent ≤ MAX_MESSAGES → Fell w who fell u → (old ≡ true → kept_record who (part w who) ≡ Some found) → (old ≡ false → kept_record who (part w who) ≢ Some found) →
    IsRefusedStep (event.Rise who (age_if old)) (step_of u (event.Rise who (age_if old))) f → f ≢ step.SentListFull → f ≢ step.Memory → IsRefused w who (own.Life who found)
rise-refused changes effects w u who found old f fell room down is apart h full memory events t =
    let r = rise-turn changes effects w u who found events fell down t.1 in
    by old r.0 r.1 r.2 is apart h
  where
    taken : (age : Age) → IsTurn u.ballots (part u who) (event.Rise who age) effect.Up → IsRefusedStep (event.Rise who age) (step_of u (event.Rise who age)) f → ⊥
    taken age turn refused =
        let s = step-rises u who age room turn in
        let z : ◌≡◌ {A = Steps} (Ok s.0) (Err f) = sym s.1 ∙ the-refusal (event.Rise who age) (step_of u (event.Rise who age)) f refused memory in
        cc

    by : (old : Bool) (e : Event) → IsRise who (part w who) found e → IsTurn u.ballots (part u who) e effect.Up → (old ≡ true → kept_record who (part w who) ≡ Some found) → (old ≡ false → kept_record who (part w who) ≢ Some found) → IsRefusedStep (event.Rise who (age_if old)) (step_of u (event.Rise who (age_if old))) f → ⊥
    by true _ (rises_old kept) turn is apart refused = taken Old turn refused
    by false _ (rises_old kept) turn is apart refused = apart refl kept
    by true _ (rises_new other tried) turn is apart refused = other (is refl)
    by false _ (rises_new other tried) turn is apart refused = taken New turn refused

-- what the calls answer

pub finds_bytes : (w : ExactWorld) (who : Actor) (found kept : List ℕ) → kept_bytes who w ≡ Some kept → Finds w who found (Ok (bytes_eq kept found))
finds_bytes w who found kept h = (
  λ is. sym (kept-at who w) ∙ h ∙ ap Some ((bytes_eq-Decides kept found).0 is),
  λ other same. apart other (sym h ∙ kept-at who w ∙ same),
)
  where
    apart : bytes_eq kept found ≡ false → ◌≡◌ {A = Option (List ℕ)} (Some kept) (Some found) → ⊥
    apart other same =
        let is : kept ≡ found = cc in
        let z : false ≡ true = sym other ∙ (bytes_eq-Decides kept found).1 is in
        cc

pub finds_fault : (w : ExactWorld) (who : Actor) (found : List ℕ) (f : StepFault) → ((f ≡ step.UnknownActor) × (kept_bytes who w ≡ None)) ⊎ ((f ≡ step.Memory) × (kept_bytes who w ≢ None)) → Finds w who found (Err f)
finds_fault w who found f (inl h) = inr (no-record w who found h.1, h.0, sym (kept-at who w) ∙ h.1)
finds_fault w who found f (inr h) = inl h.0

pub finds_offered : (w : ExactWorld) (who : Actor) (found : List ℕ) (f : StepFault) → Finds w who found (Err f) → TakesLine w who (own.Life who found) (refused f) w
finds_offered w who found f (inl h) = of-refused w w who (own.Life who found) f (λ full memory. absurd (memory h))
finds_offered w who found f (inr h) = of-refused w w who (own.Life who found) f (λ full memory. (h.0, inl (h.1, h.2), nothing-tried w w who refl))

pub falls_offered : (w u : ExactWorld) (who : Actor) (found : List ℕ) (f : StepFault) → Falls w who (Err f) u → TakesLine w who (own.Life who found) (refused f) u
falls_offered w u who found f (inl h) = of-refused w u who (own.Life who found) f (λ full memory. absurd (memory h))
falls_offered w u who found f (inr h) = of-refused w u who (own.Life who found) f (λ full memory. (h.0 found, inl (h.1, h.2), nothing-tried w u who h.3))

old-rises : OwnRefusalsComeFirst → ListRefusalsComeSecond → StepsChangeOnePart → EffectsAreOfTheirEvents → (w u : ExactWorld) (who : Actor) (f : StepFault) (fell : Bool) → IsRefusedStep (event.Rise who Old) (step_of u (event.Rise who Old)) f → Fell w who fell u → f ≢ step.Memory → ⊥
old-rises first second changes effects w u who f fell h down memory =
    old-goes u who f (fell-down changes effects w u who fell down) (own-rise-refusal first second u who Old f (ap refusal_of (the-refusal (event.Rise who Old) (step_of u (event.Rise who Old)) f h memory)))

pub old-offered : OwnRefusalsComeFirst → ListRefusalsComeSecond → StepsChangeOnePart → EffectsAreOfTheirEvents → (w u v : ExactWorld) (who : Actor) (found : List ℕ) (r : Result Effect StepFault) (fell : Bool) → Does (event.Rise who Old) (step_of u (event.Rise who Old)) u r v → Fell w who fell u → kept_record who (part w who) ≡ Some found →
    TakesLine w who (own.Life who found) (offered (taken.Rose fell Old) r) v
old-offered first second changes effects w u v who found (Ok done) fell h down kept = old-taken changes effects w u v who found done fell down h kept
old-offered first second changes effects w u v who found (Err f) fell h down kept =
    of-refused w v who (own.Life who found) f (λ full memory. absurd (old-rises first second changes effects w u who f fell h.0 down memory))

new-reason : OwnRefusalsComeFirst → ListRefusalsComeSecond → StepsChangeOnePart → EffectsAreOfTheirEvents → (w u : ExactWorld) (who : Actor) (found : List ℕ) (f : StepFault) (fell : Bool) → IsRefusedStep (event.Rise who New) (step_of u (event.Rise who New)) f → Fell w who fell u → kept_record who (part w who) ≢ Some found → f ≢ step.Memory → RefusesLife who (part w who) found f
new-reason first second changes effects w u who found f fell h down apart memory =
    let untried = new-untried u who f (fell-down changes effects w u who fell down) (own-rise-refusal first second u who New f (ap refusal_of (the-refusal (event.Rise who New) (step_of u (event.Rise who New)) f h memory))) in
    inr (
      untried.0,
      record {
        there = fell-there changes effects w u who fell down;
        kept = apart;
        tried = λ is. let z : ◌≡◌ {A = Option (List ℕ)} None (Some found) = sym untried.1 ∙ fell-tried changes effects w u who fell down ∙ is in cc;
      },
    )

pub new-offered : OwnRefusalsComeFirst → ListRefusalsComeSecond → StepsChangeOnePart → EffectsAreOfTheirEvents → (w u v : ExactWorld) (who : Actor) (found : List ℕ) (f : StepFault) (fell : Bool) → length u.sent ≤ MAX_MESSAGES → IsRefusedStep (event.Rise who New) (step_of u (event.Rise who New)) f × (v ≡ u) → Fell w who fell u → kept_record who (part w who) ≢ Some found →
    TakesLine w who (own.Life who found) (refused f) v
new-offered first second changes effects w u v who found f fell room h down apart =
    of-refused w v who (own.Life who found) f (λ full memory. (
      rise-refused changes effects w u who found false f fell room down (λ e. absurd (let z : false ≡ true = e in cc)) (λ e. apart) h.0 full memory,
      new-reason first second changes effects w u who found f fell h.0 down apart memory,
      subst (IsAttempted who w) (sym h.1) (fell-attempt changes w u who fell down),
    ))

rose-sent : StepsChangeOnePart → (u v : ExactWorld) (who : Actor) (done : Effect) → Takes u (event.Rise who New) done v → v.sent ≡ u.sent
rose-sent changes u v who done h = (changes u v (event.Rise who New) done h).sent ∙ ap (λ xs. u.sent ++ xs) (rise-says u.ballots who New (part u (actor_of (event.Rise who New)))) ∙ append-nil u.sent

rose-attempt : StepsChangeOnePart → (w u v : ExactWorld) (who : Actor) (done : Effect) (fell : Bool) → Takes u (event.Rise who New) done v → Fell w who fell u → IsAttempted who w v
rose-attempt changes w u v who done true rise h = record {
  events = (event.Fall who, h.0) ∷ (event.Rise who New, done) ∷ [];
  attempt = (inl refl, (inr refl, tt));
  history = (u, h.1, (v, rise, refl));
  sent = rose-sent changes u v who done rise ∙ fell-sent changes w u who h.0 h.1;
}
rose-attempt changes w u v who done false rise h = record {
  events = (event.Rise who New, done) ∷ [];
  attempt = (inr refl, tt);
  history = (v, subst (λ (x : ExactWorld). Takes x (event.Rise who New) done v) h.0 rise, refl);
  sent = rose-sent changes u v who done rise ∙ ap (λ (x : ExactWorld). x.sent) h.0;
}

pub new-settled : StepsChangeOnePart → EffectsAreOfTheirEvents → (w u v : ExactWorld) (who : Actor) (found : List ℕ) (done : Effect) (r : Result Bool StepFault) (fell : Bool) → Takes u (event.Rise who New) done v → Finds v who found r → Fell w who fell u → kept_record who (part w who) ≢ Some found →
    TakesLine w who (own.Life who found) (settled (taken.Rose fell New) r) v
new-settled changes effects w u v who found done (Ok true) fell h finds down apart = new-taken changes effects w u v who found done fell down h apart (finds.0 refl)
new-settled changes effects w u v who found done (Ok false) fell h finds down apart = (
  new-other changes effects w u v who found done fell down h apart (finds.1 refl),
  record {
    there = fell-there changes effects w u who fell down;
    kept = apart;
    tried = λ is. finds.1 refl (new-tried changes effects w u v who done fell down h ∙ is);
  },
  rose-attempt changes w u v who done fell h down,
)
new-settled changes effects w u v who found done (Err f) fell h finds down apart = tt
