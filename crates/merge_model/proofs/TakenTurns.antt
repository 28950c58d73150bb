-- A history is a merge of each actor's own events in it.
use Rattle.std.proofs.Common.{◌≡◌, ℕ, Bool, true, false, cond, List, [], ◌∷◌, ◌++◌, Option, Some, None, IfSome, Ok, Err, refl, sym, ◌∙◌, ap, subst}
use Rattle.std.proofs.lemmas.Bool.{eqb-true, eq-eqb}
use Rattle.lock_messages.specs.declared.ids.Actor.{Actor}
use Rattle.lock_messages.specs.declared.messages.Message.{Message}
use Rattle.lock_model.specs.Ballots.{Ballot}
use Rattle.lock_model.specs.Decisions.{Among}
use Rattle.world_model.specs.declared.events.Effect.{Effect}
use Rattle.world_model.specs.declared.events.Effect.TheVariants as effect
use Rattle.world_model.specs.declared.events.Event.{Event}
use Rattle.world_model.specs.declared.events.Event.TheVariants as event
use Rattle.world_model.specs.declared.events.StepFault.TheVariants as fault
use Rattle.world_model.specs.declared.exact.ExactNode.{ExactNode}
use Rattle.world_model.specs.declared.exact.ExactClient.{ExactClient}
use Rattle.world_model.specs.declared.exact.ExactWorld.{ExactWorld}
use Rattle.world_model.specs.Worlds.{Setting}
use Rattle.world_model.specs.Turns.{Acts, Speaks, Reads, Turns}
use Rattle.world_model.specs.ExactWorlds.{numbered, Deed, NodeDoes, ClientDoes, deed_of, actor_in, actor_of, Stepped, Steps, has_room, next_number, sending, with_node_at, with_client_at, read_in, finishes, by_actor, done_by, step}
use Rattle.world_model.specs.Parts.{place, is_own, Part, node_part, client_part, part, message_of, after_own}
use Rattle.world_model.specs.Laws.{Takes}
use Rattle.world_model.specs.Locality.{IsHistory, own_events, local_part, IsEffectOf, EffectsAreOfTheirEvents, IsAsListed, MessagesAreAsListed, ChangesOne, StepsChangeOnePart}
use Rattle.world_model.proofs.ListFacts.{numbered-among}
use Rattle.world_model.proofs.LocalityFacts.{places-apart}
use Rattle.merge_model.specs.OwnRuns.{HasEffect, HasEffectIn, IsTurn, IsOwnRun}
use Rattle.merge_model.specs.LongHistories.{Comes, IsLongHistory}
use Rattle.merge_model.specs.Merging.{moved, says, HasSource, IsSourced, IsMerge}
use Rattle.merge_model.proofs.OwnRunFacts.{Pair}
use Rattle.merge_model.proofs.Greed.{sourced-same}

-- a step that was taken is a turn

same-effect : (x s : Stepped) → ◌≡◌ {A = Steps} (Ok x) (Ok s) → x.effect ≡ s.effect
same-effect x s h = let same : x ≡ s = cc in ap (λ (y : Stepped). y.effect) same

finished-turn : {A : Type 0} (w : ExactWorld) (into : A → ExactWorld) (t : Turns A) (s : Stepped) → finishes w into t ≡ Ok s → HasEffect t s.effect
finished-turn w into (Err e) s h = absurd (let z : Err e ≡ Ok s = h in cc)
finished-turn w into (Ok (Acts after effect)) s h = sym (same-effect (record { world = into after; effect = effect }) s h)
finished-turn w into (Ok (Speaks after said effect)) s h = go (has_room w said) h
  where
    x : Stepped
    x = record { world = sending said (into after); effect = effect (next_number w) }

    go : (room : Bool) → cond room (Ok x) (Err fault.SentListFull) ≡ Ok s → HasEffect (Ok (Speaks after said effect)) s.effect
    go true z = (next_number w, sym (same-effect x s z))
    go false z = absurd (let p : Err fault.SentListFull ≡ Ok s = z in cc)
finished-turn w into (Ok (Reads number is_mine after effect)) s h = go (numbered w.sent number) h
  where
    x : Message → Stepped
    x m = record { world = into (after m); effect = effect m }

    mine : (m : Message) (yours : Bool) → is_mine m ≡ yours → cond yours (Ok (x m)) (Err fault.NotAddressed) ≡ Ok s → HasEffect (Ok (Reads number is_mine after effect)) s.effect
    mine m true is z = (m, is, sym (same-effect (x m) s z))
    mine m false is z = absurd (let p : Err fault.NotAddressed ≡ Ok s = z in cc)

    go : (o : Option Message) → read_in into is_mine after effect o ≡ Ok s → HasEffect (Ok (Reads number is_mine after effect)) s.effect
    go None z = absurd (let p : Err fault.NoSuchMessage ≡ Ok s = z in cc)
    go (Some m) z = mine m (is_mine m) refl z

done-turn : (w : ExactWorld) (d : Deed) (s : Stepped) → done_by w d ≡ Ok s → HasEffectIn w.ballots d (part w (actor_in d)) s.effect
done-turn w (NodeDoes n turn) s h = go (numbered w.nodes n) h
  where
    go : (o : Option ExactNode) → by_actor w (with_node_at w n) o turn ≡ Ok s → HasEffectIn w.ballots (NodeDoes n turn) (node_part o) s.effect
    go None z = absurd (let p : Err fault.UnknownActor ≡ Ok s = z in cc)
    go (Some x) z = finished-turn w (with_node_at w n) (turn x) s z
done-turn w (ClientDoes c turn) s h = go (numbered w.clients c) h
  where
    go : (o : Option ExactClient) → by_actor w (with_client_at w c) o (turn w.ballots) ≡ Ok s → HasEffectIn w.ballots (ClientDoes c turn) (client_part o) s.effect
    go None z = absurd (let p : Err fault.UnknownActor ≡ Ok s = z in cc)
    go (Some x) z = finished-turn w (with_client_at w c) (turn w.ballots x) s z

pub taken-turn : (w v : ExactWorld) (e : Event) (done : Effect) → Takes w e done v → IsTurn w.ballots (part w (actor_of e)) e done
unfolding step
taken-turn w v e done h = done-turn w (deed_of e) (record { world = v; effect = done }) h

-- and the message that it read was sent

silent : (said : List Message) (done other : Effect) → done ≡ other → message_of other ≡ None → HasSource said done
silent said done other is none = subst (λ o. IfSome o (λ m. Among m said)) (sym (ap message_of is ∙ none)) tt

listed-source : (sent : List Message) (k : ℕ) (done other : Effect) (m : Message) → done ≡ other → message_of other ≡ Some m → message_of done ≡ numbered sent k → HasSource sent done
listed-source sent k done other m is some listed =
    let carried : message_of done ≡ Some m = ap message_of is ∙ some in
    subst (λ o. IfSome o (λ x. Among x sent)) (sym carried) (numbered-among sent k m (sym listed ∙ carried))

pub taken-source : (w : ExactWorld) (e : Event) (done : Effect) → IsEffectOf e done → IsAsListed w e done → HasSource w.sent done
taken-source w (event.Begin c m x place) done kind listed = silent w.sent done (effect.Chose kind.0) kind.1 refl
taken-source w (event.Try who) done kind listed = silent w.sent done effect.Tried kind refl
taken-source w (event.Kept who) done kind listed = silent w.sent done effect.Kept kind refl
taken-source w (event.SayTo c n) done kind listed = silent w.sent done (effect.Sent kind.0 kind.1) kind.2 refl
taken-source w (event.Say n) done kind listed = silent w.sent done (effect.Said kind.0 kind.1) kind.2 refl
taken-source w (event.Take n k) done kind listed = listed-source w.sent k done (effect.Took kind.0 kind.1) kind.0 kind.3 refl listed
taken-source w (event.Hear c k) done kind listed = listed-source w.sent k done (effect.Heard kind.0 kind.1) kind.0 kind.3 refl listed
taken-source w (event.Enter c) done kind listed = silent w.sent done effect.Inside kind refl
taken-source w (event.Leave c) done kind listed = silent w.sent done effect.Outside kind refl
taken-source w (event.Soften c) done kind listed = silent w.sent done effect.Softened kind refl
taken-source w (event.Fall who) done kind listed = silent w.sent done effect.Down kind refl
taken-source w (event.Rise who age) done kind listed = silent w.sent done effect.Up kind refl
taken-source w (event.Switch n p) done kind listed = silent w.sent done (effect.Switched kind.0) kind.1 refl

-- what a step does to the parts

pub parts-move : (w u : ExactWorld) (q : Pair) → ChangesOne w q.0 q.1 u → (who : Actor) (t : Bool) → is_own who q.0 ≡ t → part u who ≡ cond t (after_own w.ballots q.0 q.1 (part w who)) (part w who)
parts-move w u q change who true own =
    let same : actor_of q.0 ≡ who = places-apart (actor_of q.0) who (eqb-true (place (actor_of q.0)) (place who) own) in
    subst (λ a. part u a ≡ after_own w.ballots q.0 q.1 (part w a)) same change.own
parts-move w u q change who false own =
    change.others who (λ e. let z : false ≡ true = sym own ∙ eq-eqb (place (actor_of q.0)) (place who) (ap place (sym e)) in cc)

pub ballots-stay : (w u : ExactWorld) (q : Pair) → ChangesOne w q.0 q.1 u → u.ballots ≡ w.ballots
ballots-stay w u q change = ap (λ (s : Setting). s.ballots) change.setting

one-run : (w u : ExactWorld) (q : Pair) (who : Actor) (own : List Pair) (t : Bool) → ChangesOne w q.0 q.1 u → IsTurn w.ballots (part w (actor_of q.0)) q.0 q.1 → is_own who q.0 ≡ t → IsOwnRun u.ballots who (part u who) own → IsOwnRun w.ballots who (part w who) (cond t (q ∷ own) own)
one-run w u q who own true change turn is rest =
    let same : actor_of q.0 ≡ who = places-apart (actor_of q.0) who (eqb-true (place (actor_of q.0)) (place who) is) in (
      is,
      subst (λ a. IsTurn w.ballots (part w a) q.0 q.1) same turn,
      subst (λ p. IsOwnRun w.ballots who p own) (parts-move w u q change who true is) (subst (λ b. IsOwnRun b who (part u who) own) (ballots-stay w u q change) rest),
    )
one-run w u q who own false change turn is rest = subst (λ p. IsOwnRun w.ballots who p own) (parts-move w u q change who false is) (subst (λ b. IsOwnRun b who (part u who) own) (ballots-stay w u q change) rest)

-- a history is a long one

pub taken-comes : StepsChangeOnePart → EffectsAreOfTheirEvents → MessagesAreAsListed → (w v : ExactWorld) (q : Pair) → Takes w q.0 q.1 v → Comes w q v
taken-comes changes effects messages w v q h = record {
  turn = taken-turn w v q.0 q.1 h;
  source = taken-source w q.0 q.1 (effects w v q.0 q.1 h) (messages w v q.0 q.1 h);
  change = changes w v q.0 q.1 h;
}

pub history-comes : StepsChangeOnePart → EffectsAreOfTheirEvents → MessagesAreAsListed → (history : List Pair) (w v : ExactWorld) → IsHistory w history v → IsLongHistory w history v
history-comes changes effects messages [] w v h = h
history-comes changes effects messages (q ∷ history) w v h = (h.0, taken-comes changes effects messages w h.0 q h.1, history-comes changes effects messages history h.0 v h.2)

-- and a long one is a merge

own-history : (history : List Pair) (w v : ExactWorld) → IsLongHistory w history v → (who : Actor) → IsOwnRun w.ballots who (part w who) (own_events who history)
own-history [] w v h who = tt
own-history (q ∷ history) w v h who =
    one-run w h.0 q who (own_events who history) (is_own who q.0) h.1.change h.1.turn refl (own-history history h.0 v h.2 who)

sourced-history : (history : List Pair) (w v : ExactWorld) → IsLongHistory w history v → IsSourced w.ballots (part w) w.sent history
sourced-history [] w v h = tt
sourced-history (q ∷ history) w v h =
    let change : ChangesOne w q.0 q.1 h.0 = h.1.change in (
      h.1.source,
      sourced-same w.ballots history (part h.0) (moved w.ballots (part w) q) h.0.sent (w.sent ++ says w.ballots (part w) q)
          (λ who. parts-move w h.0 q change who (is_own who q.0) refl)
          (λ m a. subst (λ xs. Among m xs) change.sent a)
          (subst (λ b. IsSourced b (part h.0) h.0.sent history) (ballots-stay w h.0 q change) (sourced-history history h.0 v h.2)),
    )

pub long-merges : (w v : ExactWorld) (history : List Pair) → IsLongHistory w history v → IsMerge w (λ who. own_events who history) history
long-merges w v history h = record {
  own = own-history history w v h;
  interleaved = λ who. refl;
  sourced = sourced-history history w v h;
}

pub history-merges : StepsChangeOnePart → EffectsAreOfTheirEvents → MessagesAreAsListed → (w v : ExactWorld) (history : List Pair) → IsHistory w history v → IsMerge w (λ who. own_events who history) history
history-merges changes effects messages w v history h = long-merges w v history (history-comes changes effects messages history w v h)

-- where a long history leads

pub long-ballots : (w v : ExactWorld) (history : List Pair) → IsLongHistory w history v → v.ballots ≡ w.ballots
long-ballots w v [] h = ap (λ (x : ExactWorld). x.ballots) h
long-ballots w v (q ∷ history) h = long-ballots h.0 v history h.2 ∙ ballots-stay w h.0 q h.1.change

moved-local : (b : List Ballot) (q : Pair) (p : Part) (own : List Pair) (t : Bool) → local_part b (cond t (after_own b q.0 q.1 p) p) own ≡ local_part b p (cond t (q ∷ own) own)
moved-local b q p own true = refl
moved-local b q p own false = refl

pub long-parts : (w v : ExactWorld) (history : List Pair) (who : Actor) → IsLongHistory w history v → part v who ≡ local_part w.ballots (part w who) (own_events who history)
long-parts w v [] who h = ap (λ (x : ExactWorld). part x who) h
long-parts w v (q ∷ history) who h =
    long-parts h.0 v history who h.2
    ∙ ap (λ b. local_part b (part h.0 who) (own_events who history)) (ballots-stay w h.0 q h.1.change)
    ∙ ap (λ p. local_part w.ballots p (own_events who history)) (parts-move w h.0 q h.1.change who (is_own who q.0) refl)
    ∙ moved-local w.ballots q (part w who) (own_events who history) (is_own who q.0)

pub long-joined : (w u v : ExactWorld) (begun rest : List Pair) → IsLongHistory w begun u → IsLongHistory u rest v → IsLongHistory w (begun ++ rest) v
long-joined w u v [] rest h i = subst (λ x. IsLongHistory x rest v) h i
long-joined w u v (q ∷ begun) rest h i = (h.0, h.1, long-joined h.0 u v begun rest h.2 i)
