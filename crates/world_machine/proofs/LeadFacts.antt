-- What the way in answers, or why there is none, by what going ahead has done.
use Rattle.std.proofs.Common.{◌≡◌, ℕ, ◌+◌, ◌⊎◌, ◌↔◌, IsTrue, IfOk, IfErr, Result, Bool, true, false, List, [], ◌++◌, Option, None, Some, Ok, Err, refl, sym, ◌∙◌, ap, subst, inl, inr, arith}
use Rattle.std.specs.Option.{option_map}
use Rattle.std.proofs.lemmas.List.{length-map}
use Rattle.lock_messages.specs.declared.ids.Actor.{Actor}
use Rattle.lock_messages.specs.declared.ids.Actor.TheVariants as actor
use Rattle.lock_messages.specs.declared.messages.Message.{Message}
use Rattle.lock_model.specs.Ballots.{Ballot, HasPlace, IsEnough, ballot_at}
use Rattle.world_actors.specs.Acting.{ActingNode, ActingClient}
use Rattle.world_model.specs.declared.events.Event.{Event}
use Rattle.world_model.specs.declared.events.StepFault.{StepFault}
use Rattle.world_model.specs.declared.events.StepFault.TheVariants as fault
use Rattle.world_model.specs.declared.exact.ExactWorld.{ExactWorld}
use Rattle.world_model.specs.declared.ways.Want.{Want}
use Rattle.world_model.specs.Worlds.{Client, Setting, HasClient}
use Rattle.world_model.specs.ExactWorlds.{numbered, ran}
use Rattle.world_model.specs.Forgetting.{client_of, client_numbered, forget, setting_of, IsSound}
use Rattle.world_model.specs.Numbered.{numbered-map, numbered-one, numbered-there}
use Rattle.world_model.specs.Advice.{can_be_won, coming_up}
use Rattle.world_model.specs.Ways.{IsPossible, IsUp, HasActor}
use Rattle.world_model.specs.ExactWays.{SetsOut, StopsAt, LeadsIn, HasAttempt, HasRoomFor, IsNoWay, every_node}
use Rattle.world_model.proofs.Deeds.{model-laws}
use Rattle.world_model.proofs.WayAnswers.{came-run, came-free, out-gently, leads-gently, stops-gently, out-raised, leads-risen, stops-risen, rises-risen}
use Rattle.world_machine.specs.Going.{HasTakenAll, HasArrived, HasRaised, IsGentleWay, IsNodeActor, IsClientActor, HasAttemptOf, AttemptIs}
use Rattle.world_machine.specs.Machines.{client_part, world_view}
use Rattle.world_machine.proofs.GoingFacts.{raised-join}

-- Whether there is a client with an attempt left.

pub record Judged (a : Want) (w : ExactWorld) (r : Option Bool) : Type 0 where
  pub left : r ≡ Some true → HasClient (setting_of w) a.client × HasAttempt (forget w) a
  pub spent : r ≡ Some false → HasClient (setting_of w) a.client × ¬ (HasAttempt (forget w) a)
  pub nobody : r ≡ None → ¬ (HasClient (setting_of w) a.client)

pub judged : (b : List Ballot) (ns : List ActingNode) (ks : List ActingClient) (sent : List Message) (a : Want) (r : Option Bool) → AttemptIs a (numbered ks a.client) r → Judged a (world_view b ns ks sent) r
judged b ns ks sent a r is = go (numbered ks a.client) refl is
  where
    w : ExactWorld
    w = world_view b ns ks sent

    there : (k : ActingClient) → numbered ks a.client ≡ Some k → HasClient (setting_of w) a.client
    there k at = let one = numbered-one ks a.client k at in (one.0, omega (arith, one.1, length-map ks client_part))

    client-is : (k : ActingClient) → numbered ks a.client ≡ Some k → (forget w).clients a.client ≡ client_of k.part
    client-is k at = ap client_numbered (numbered-map client_part ks a.client) ∙ ap (λ o. client_numbered (option_map client_part o)) at

    attempt : (k : ActingClient) → numbered ks a.client ≡ Some k → HasAttemptOf a (client_of k.part) ↔ HasAttempt (forget w) a
    attempt k at = (λ h. subst (HasAttemptOf a) (sym (client-is k at)) h, λ h. subst (HasAttemptOf a) (client-is k at) h)

    go : (o : Option ActingClient) → numbered ks a.client ≡ o → AttemptIs a o r → Judged a w r
    go None at none = record {
      left = λ e. absurd (let z : None ≡ Some true = sym none ∙ e in cc);
      spent = λ e. absurd (let z : None ≡ Some false = sym none ∙ e in cc);
      nobody = λ e has. absurd (let k = numbered-there ks a.client has.0 (omega (arith, has.1, length-map ks client_part)) in let z : None ≡ Some k.0 = sym at ∙ k.1 in cc);
    }
    go (Some k) at (t, is_t, iff) = record {
      left = λ e. (let same : t ≡ true = (let z : Some t ≡ Some true = sym is_t ∙ e in cc) in (there k at, (attempt k at).0 (iff.0 same)));
      spent = λ e. (let same : t ≡ false = (let z : Some t ≡ Some false = sym is_t ∙ e in cc) in (there k at, λ has. (let q : t ≡ true = iff.1 ((attempt k at).1 has) in let z : false ≡ true = sym same ∙ q in cc)));
      nobody = λ e. absurd (let z : Some t ≡ None = sym is_t ∙ e in cc);
    }

pub may-then : (a : Want) (w : ExactWorld) (b : List Ballot) (r : Result Ballot StepFault) → w.ballots ≡ b → HasClient (setting_of w) a.client × HasAttempt (forget w) a → IfOk r (λ it. HasPlace b a.place × (it ≡ ballot_at b a.place)) →
    IfOk r (λ it. IsPossible (setting_of w) a × HasAttempt (forget w) a × (it ≡ ballot_at w.ballots a.place))
may-then a w b (Ok it) same known h = (record { client = known.0; place = subst (λ l. HasPlace l a.place) (sym same) h.0 }, known.1, h.1 ∙ ap (λ l. ballot_at l a.place) (sym same))
may-then a w b (Err f) same known h = tt

pub no-place-then : (a : Want) (w : ExactWorld) (b : List Ballot) (r : Result Ballot StepFault) → w.ballots ≡ b → HasClient (setting_of w) a.client × HasAttempt (forget w) a → IfErr r (λ f. (f ≡ fault.NoSuchPlace) × ¬ (HasPlace b a.place)) → IfErr r (IsNoWay w a)
no-place-then a w b (Ok it) same known h = tt
no-place-then a w b (Err f) same known h = inr (inr (inl (h.0, known.0, known.1, λ has. h.1 (subst (λ l. HasPlace l a.place) same has))))

-- The way.

module _ (x : ExactWorld) (a : Want) (sound : IsSound x) (may : IsPossible (setting_of x) a × HasAttempt (forget x) a) where
  abbrev first : List Event
  first = coming_up a ((forget x).clients a.client).phase

  pub memory-then : (f : StepFault) → f ≡ fault.Memory → IsNoWay x a f
  memory-then f is = inr (inr (inr (inr (is, may.0, may.1))))

  pub came-stops : (f : StepFault) → ((ran first x).refused ≡ Some f) ⊎ (f ≡ fault.Memory) → IsNoWay x a f
  came-stops f (inl refused) = absurd (let z : None ≡ Some f = sym (came-free model-laws x a sound may.0.client may.1) ∙ refused in cc)
  came-stops f (inr is) = memory-then f is

  full-then : (f : StepFault) → (f ≡ fault.SentListFull) × ¬ (HasRoomFor (every_node (setting_of x)) a x) → IsNoWay x a f
  full-then f (is, none) = inr (inr (inr (inl (is, may.0, may.1, none))))

  module _ (y : ExactWorld) (mid : List Event) (came : HasTakenAll x [] first y mid) where
    -- by the nodes that can be won
    module _ (chosen : ℕ → Bool) (won : (n : ℕ) → chosen n ≡ can_be_won (setting_of x) a (forget x) n) (enough : IsEnough (ballot_at x.ballots a.place) a.mode chosen) where
      same-set : chosen ≡ can_be_won (setting_of x) a (forget x)
      same-set = λ i n. won n i

      enough-won : IsEnough (ballot_at x.ballots a.place) a.mode (can_be_won (setting_of x) a (forget x))
      enough-won = subst (IsEnough (ballot_at x.ballots a.place) a.mode) same-set enough

      pub lead-out : SetsOut chosen a y
      lead-out = subst (λ c. SetsOut c a y) (sym same-set) (out-gently model-laws x a sound may.0 may.1 y came.0 enough-won)

      pub lead-inside : (z : ExactWorld) (new : List Event) → HasArrived chosen a y mid z new → LeadsIn x a new × IsGentleWay x a new
      lead-inside z new arrived = go (subst (λ c. HasArrived c a y mid z new) same-set arrived)
        where
          go : HasArrived (can_be_won (setting_of x) a (forget x)) a y mid z new → LeadsIn x a new × IsGentleWay x a new
          go (es, follows, none, joined) =
              let led = leads-gently model-laws x a sound may.0 may.1 y came.0 enough-won es z follows none in
              let same : new ≡ first ++ es = joined ∙ ap (λ l. l ++ es) came.1 in
              (subst (LeadsIn x a) (sym same) led.0, subst (IsGentleWay x a) (sym same) (λ e below. led.1 below))

      pub lead-stops : (f : StepFault) → StopsAt chosen a y f ⊎ (f ≡ fault.Memory) → IsNoWay x a f
      lead-stops f (inl stops) = full-then f (stops-gently model-laws x a sound may.0 may.1 y came.0 enough-won f (subst (λ c. StopsAt c a y f) same-set stops))
      lead-stops f (inr is) = memory-then f is

    -- by all, once all have risen
    module _ (u v : ExactWorld) (mid2 mid3 : List Event) (nodes : HasRaised y mid u mid2 IsNodeActor) (clients : HasRaised u mid2 v mid3 IsClientActor) (chosen : ℕ → Bool) (all : (n : ℕ) → chosen n ≡ every_node (setting_of v) n) where
      abbrev both : HasRaised y mid v mid3 (λ who. IsNodeActor who ⊎ IsClientActor who)
      both = raised-join y mid u mid2 v mid3 IsNodeActor IsClientActor (came-run model-laws x a y sound may.0.client may.1 came.0).sound nodes clients

      all-up : (who : Actor) → HasActor (setting_of x) who → IsUp (forget v) who
      all-up who known = let same = (came-run model-laws x a y sound may.0.client may.1 came.0).setting in both.4 who (which who) (subst (λ s. HasActor s who) (sym same) known)
        where
          which : (w : Actor) → IsNodeActor w ⊎ IsClientActor w
          which (actor.Node n) = inl (n, refl)
          which (actor.Client c) = inr (c, refl)

      same-all : chosen ≡ every_node (setting_of x)
      same-all =
          let risen = rises-risen model-laws a both.0 y v (came-run model-laws x a y sound may.0.client may.1 came.0).sound both.1 both.2 in
          let same : setting_of v ≡ setting_of x = risen.setting ∙ (came-run model-laws x a y sound may.0.client may.1 came.0).setting in
          (λ i n. (all n ∙ ap (λ (s : Setting). every_node s n) same) i)

      pub raised-out : SetsOut chosen a v
      raised-out = subst (λ c. SetsOut c a v) (sym same-all) (out-raised model-laws x a sound may.0 may.1 y came.0 both.0 v both.1 both.2 all-up)

      pub raised-inside : (z : ExactWorld) (new : List Event) → HasArrived chosen a v mid3 z new → LeadsIn x a new
      raised-inside z new arrived = go (subst (λ c. HasArrived c a v mid3 z new) same-all arrived)
        where
          go : HasArrived (every_node (setting_of x)) a v mid3 z new → LeadsIn x a new
          go (es, follows, none, joined) =
              let led = leads-risen model-laws x a sound may.0 may.1 y came.0 both.0 v both.1 both.2 all-up es z follows none in
              let same : new ≡ (first ++ both.0) ++ es = joined ∙ ap (λ l. l ++ es) (both.3 ∙ ap (λ l. l ++ both.0) came.1) in
              subst (LeadsIn x a) (sym same) led

      pub raised-stops : (f : StepFault) → StopsAt chosen a v f ⊎ (f ≡ fault.Memory) → IsNoWay x a f
      raised-stops f (inl stops) = full-then f (stops-risen model-laws x a sound may.0 may.1 y came.0 both.0 v both.1 both.2 all-up f (subst (λ c. StopsAt c a v f) same-all stops))
      raised-stops f (inr is) = memory-then f is

-- the same where the events began empty
pub from-none : (x : ExactWorld) (old es : List Event) (y : ExactWorld) (mid : List Event) → old ≡ [] → HasTakenAll x old es y mid → HasTakenAll x [] es y mid
from-none x old es y mid none taken = subst (λ l. HasTakenAll x l es y mid) none taken

-- Of a copy of the world.

pub gentle-copy : {V : Type 0} (x w : ExactWorld) (a : Want) (r : Result V StepFault) (of : V → List Event) → w ≡ x → IfOk r (λ events. IsGentleWay w a (of events)) → IfOk r (λ events. IsGentleWay x a (of events))
gentle-copy x w a r of same h = subst (λ y. IfOk r (λ events. IsGentleWay y a (of events))) same h

-- where the votes aren't enough, nothing is claimed
pub too-few : (x : ExactWorld) (a : Want) (chosen : ℕ → Bool) (b : Ballot) (is_enough : Bool) → b ≡ ballot_at x.ballots a.place → ((n : ℕ) → chosen n ≡ can_be_won (setting_of x) a (forget x) n) → (IsTrue is_enough ↔ IsEnough b a.mode chosen) → is_enough ≡ false →
    (events : List Event) → IsGentleWay x a events
too-few x a chosen b is_enough same won iff none events enough =
    absurd (let it : IsEnough b a.mode chosen = subst (λ c. IsEnough b a.mode c) (λ i n. sym (won n) i) (subst (λ z. IsEnough z a.mode (can_be_won (setting_of x) a (forget x))) (sym same) enough) in
    let q : is_enough ≡ true = iff.1 it in
    let z : false ≡ true = sym none ∙ q in cc)

pub ok-of-all : {V : Type 0} (r : Result V StepFault) (P : V → Type 0) → ((v : V) → P v) → IfOk r P
ok-of-all (Ok v) P all = all v
ok-of-all (Err f) P all = tt
