-- What moves made one event after the other come to.
use Rattle.std.proofs.Common.{◌≡◌, ℕ, ◌+◌, ◌<◌, ◌≤◌, ◌⊎◌, arith, Result, OnOk, IfErr, Bool, List, [], ◌∷◌, ◌++◌, true, Some, Ok, Err, refl, sym, ◌∙◌, ap, subst, inl, inr, append_assoc}
use Rattle.std.proofs.lemmas.Bool.{cases_lt}
use Rattle.lock_messages.specs.declared.messages.Message.{Message}
use Rattle.world_model.specs.declared.events.Event.{Event}
use Rattle.world_model.specs.declared.events.Event.TheVariants as event
use Rattle.world_model.specs.declared.events.StepFault.{StepFault}
use Rattle.world_model.specs.declared.events.StepFault.TheVariants as fault
use Rattle.world_model.specs.declared.exact.ExactWorld.{ExactWorld}
use Rattle.world_model.specs.declared.ways.Move.{Move}
use Rattle.world_model.specs.declared.ways.Move.TheVariants.{Alone, Hand, HearFrom}
use Rattle.world_model.specs.declared.ways.Want.{Want}
use Rattle.lock_messages.specs.declared.ids.Actor.{Actor}
use Rattle.lock_messages.specs.declared.ids.Actor.TheVariants as actor
use Rattle.lock_messages.specs.declared.tickets.Mode.TheVariants.{Read}
use Rattle.lock_model.specs.Decisions.{Among}
use Rattle.world_model.specs.declared.events.Age.TheVariants.{Old}
use Rattle.world_model.specs.Worlds.{Present, Asking, Node, Client, NodeIdle, NodeDown, ClientIdle, ClientDown, OfNode, OfClient, NodeRises, node_rises_old, ClientRises, client_rises_old}
use Rattle.world_model.specs.ExactWorlds.{numbered, next_number, Stepped, step}
use Rattle.world_model.specs.Forgetting.{forget, setting_of, IsSound}
use Rattle.world_model.specs.Advice.{is_grant, next_move}
use Rattle.world_model.specs.ExactWays.{Moved, moved_alone, moved_hand, moved_hear, IsStuck, stuck_alone, stuck_saying, stuck_taking, stuck_hearing, Follows, follows_more}
use Rattle.world_model.specs.ExactWays.{SetsOut, HasRun, IsRise, AreRises}
use Rattle.world_model.specs.Ways.{IsUp, HasActor}
use Rattle.world_model.proofs.ListFacts.{among-append}
use Rattle.world_model.proofs.Deeds.{model-laws}
use Rattle.world_model.proofs.StepFacts.{step-done}
use Rattle.world_model.proofs.Raises.{still-up}
use Rattle.world_model.proofs.OnTheWay.{run-more}
use Rattle.world_model.proofs.Prefixes.{Risen, client-rises-step, node-rises-step}
use Rattle.world_model.proofs.ExactWaysIn.{run-join}
use Rattle.world_model.proofs.WayAnswers.{rises-risen, step-costs}
use Rattle.world_model.proofs.Costs.{cost}
use Rattle.world_machine.specs.Going.{HasTaken, HasMade, HasRaised, IsDownThere}

-- one event
pub alone-made : (a : Want) (w : ExactWorld) (old : List Event) (e : Event) (v : ExactWorld) (new : List Event) → HasTaken w old e v new → HasMade a w old (Alone e) v new
alone-made a w old e v new (t, h, is, joined) = (e ∷ [], subst (Moved a w (Alone e) (e ∷ [])) (sym is) (moved_alone e t h), joined)

pub alone-stuck : (a : Want) (w : ExactWorld) (e : Event) (f : StepFault) → (step w e ≡ Err f) ⊎ (f ≡ fault.Memory) → IsStuck a w (Alone e) f ⊎ (f ≡ fault.Memory)
alone-stuck a w e f (inl h) = inl (stuck_alone e f h)
alone-stuck a w e f (inr h) = inr h

-- two of them
pub hand-made : (a : Want) (w : ExactWorld) (old : List Event) (d n k : ℕ) (v : ExactWorld) (mid : List Event) (u : ExactWorld) (new : List Event) → k ≡ next_number w → HasTaken w old (event.SayTo d n) v mid → HasTaken v mid (event.Take n k) u new →
    HasMade a w old (Hand d n) u new
hand-made a w old d n k v mid u new number (t, h, is, joined) (s, g, at, more) = (
  event.SayTo d n ∷ event.Take n (next_number w) ∷ [],
  subst (Moved a w (Hand d n) (event.SayTo d n ∷ event.Take n (next_number w) ∷ [])) (sym at) (moved_hand d n t s h (subst (λ x. step x (event.Take n (next_number w)) ≡ Ok s) is (subst (λ j. step v (event.Take n j) ≡ Ok s) number g))),
  subst (λ j. new ≡ old ++ event.SayTo d n ∷ event.Take n j ∷ []) number (more ∙ ap (λ es. es ++ event.Take n k ∷ []) joined ∙ append_assoc old (event.SayTo d n ∷ []) (event.Take n k ∷ [])),
)

pub hand-stuck-saying : (a : Want) (w : ExactWorld) (d n : ℕ) (f : StepFault) → (step w (event.SayTo d n) ≡ Err f) ⊎ (f ≡ fault.Memory) → IsStuck a w (Hand d n) f ⊎ (f ≡ fault.Memory)
hand-stuck-saying a w d n f (inl h) = inl (stuck_saying d n f h)
hand-stuck-saying a w d n f (inr h) = inr h

pub hand-stuck-taking : (a : Want) (w : ExactWorld) (old : List Event) (d n k : ℕ) (v : ExactWorld) (mid : List Event) (f : StepFault) → k ≡ next_number w → HasTaken w old (event.SayTo d n) v mid →
    (step v (event.Take n k) ≡ Err f) ⊎ (f ≡ fault.Memory) → IsStuck a w (Hand d n) f ⊎ (f ≡ fault.Memory)
hand-stuck-taking a w old d n k v mid f number (t, h, is, joined) (inl g) =
    inl (stuck_taking d n t f h (subst (λ x. step x (event.Take n (next_number w)) ≡ Err f) is (subst (λ j. step v (event.Take n j) ≡ Err f) number g)))
hand-stuck-taking a w old d n k v mid f number taken (inr g) = inr g

-- and a Grant that is heard
abbrev pub IsHeardAs : Want → ExactWorld → ℕ → ℕ → Type 0
IsHeardAs a w n k = (m : Message) × (p : Present) × (((forget w).clients a.client).phase ≡ Asking p) × (numbered w.sent k ≡ Some m) × (is_grant n p.ticket m ≡ true)

pub hear-made : (a : Want) (w : ExactWorld) (old : List Event) (n k : ℕ) (v : ExactWorld) (new : List Event) → IsHeardAs a w n k → HasTaken w old (event.Hear a.client k) v new → HasMade a w old (HearFrom n) v new
hear-made a w old n k v new (m, p, asks, there, is_it) (t, h, is, joined) = (event.Hear a.client k ∷ [], subst (Moved a w (HearFrom n) (event.Hear a.client k ∷ [])) (sym is) (moved_hear n k m p t asks there is_it h), joined)

pub hear-stuck : (a : Want) (w : ExactWorld) (n k : ℕ) (f : StepFault) → IsHeardAs a w n k → (step w (event.Hear a.client k) ≡ Err f) ⊎ (f ≡ fault.Memory) → IsStuck a w (HearFrom n) f ⊎ (f ≡ fault.Memory)
hear-stuck a w n k f (m, p, asks, there, is_it) (inl h) = inl (stuck_hearing n k m p f asks there is_it h)
hear-stuck a w n k f heard (inr h) = inr h

-- what a result's value or fault comes to

pub ok-all : {A : Type 0} {E : Type 0} (r : Result A E) (P Q : Type 0) → (P → Q) → OnOk r P → OnOk r Q
ok-all (Ok a) P Q more h = more h
ok-all (Err e) P Q more h = tt

pub err-all : {A : Type 0} {E : Type 0} (r : Result A E) (P Q : E → Type 0) → ((e : E) → P e → Q e) → IfErr r P → IfErr r Q
err-all (Ok a) P Q more h = tt
err-all (Err e) P Q more h = more e h

-- Those that are down rise.

-- whom the load is told for doesn't matter here
abbrev no_want : Want
no_want = record { client = 0; mode = Read; resource = []; place = 0 }

rise-up : (w : ExactWorld) (who : Actor) (t : Stepped) → IsSound w → step w (event.Rise who Old) ≡ Ok t → IsUp (forget t.world) who
rise-up w (actor.Node n) t sound h = let by = (step-done model-laws w (event.Rise (actor.Node n) Old) t h).happens sound in node by.0 by.1 by.2 by.3
  where
    node : (before after : Node) → NodeRises Old before after → OfNode (setting_of w) n (forget w) before after [] (forget t.world) → IsUp (forget t.world) (actor.Node n)
    node _ _ (node_rises_old kept tried) of e = let q : NodeIdle ≡ NodeDown = sym (ap (λ (x : Node). x.phase) of.is) ∙ e in cc
rise-up w (actor.Client c) t sound h = let by = (step-done model-laws w (event.Rise (actor.Client c) Old) t h).happens sound in client by.0 by.1 by.2 by.3
  where
    client : (before after : Client) → ClientRises Old before after → OfClient (setting_of w) c (forget w) before after [] (forget t.world) → IsUp (forget t.world) (actor.Client c)
    client _ _ (client_rises_old kept tried) of e = let q : ClientIdle ≡ ClientDown = sym (ap (λ (x : Client). x.phase) of.is) ∙ e in cc

pub raised-one : (w : ExactWorld) (old : List Event) (who : Actor) (v : ExactWorld) (new : List Event) → IsSound w → HasTaken w old (event.Rise who Old) v new → HasRaised w old v new (λ x. x ≡ who)
raised-one w old who v new sound (t, h, is, joined) = (
  event.Rise who Old ∷ [],
  subst (HasRun w (event.Rise who Old ∷ [])) (sym is) (run-more w [] w (event.Rise who Old) t refl h),
  rises,
  joined,
  λ x same known. subst (IsUp (forget v)) (sym same) (subst (λ u. IsUp (forget u) who) (sym is) (rise-up w who t sound h)),
)
  where
    rises : AreRises (event.Rise who Old ∷ [])
    rises e (inl same) = (who, same)
    rises e (inr m) = absurd m

pub raised-join : (w : ExactWorld) (old : List Event) (v : ExactWorld) (mid : List Event) (u : ExactWorld) (new : List Event) (P Q : Actor → Type 0) → IsSound w → HasRaised w old v mid P → HasRaised v mid u new Q →
    HasRaised w old u new (λ who. P who ⊎ Q who)
raised-join w old v mid u new P Q sound (es, run, rises, joined, up) (fs, more, risen, then_joined, then_up) = (
  es ++ fs,
  run-join w es v fs u run more,
  both,
  then_joined ∙ ap (λ l. l ++ fs) joined ∙ append_assoc old es fs,
  each,
)
  where
    first : Risen no_want w v
    first = rises-risen model-laws no_want es w v sound run rises

    second : Risen no_want v u
    second = rises-risen model-laws no_want fs v u first.sound more risen

    both : AreRises (es ++ fs)
    both e m = go ((among-append e es fs).0 m)
      where
        go : Among e es ⊎ Among e fs → IsRise e
        go (inl h) = rises e h
        go (inr h) = risen e h

    each : (who : Actor) → P who ⊎ Q who → HasActor (setting_of w) who → IsUp (forget u) who
    each who (inl p) known = still-up (forget v) (forget u) second.stays who (up who p known)
    each who (inr q) known = then_up who q (subst (λ s. HasActor s who) (sym first.setting) known)

pub raised-weaker : (w : ExactWorld) (old : List Event) (v : ExactWorld) (new : List Event) (P Q : Actor → Type 0) → ((who : Actor) → Q who → HasActor (setting_of w) who → P who) → HasRaised w old v new P → HasRaised w old v new Q
raised-weaker w old v new P Q weaker (es, run, rises, joined, up) = (es, run, rises, joined, λ who q known. up who (weaker who q known) known)

-- one more of them by number
pub raised-next : (mk : ℕ → Actor) (w : ExactWorld) (old : List Event) (v : ExactWorld) (mid : List Event) (u : ExactWorld) (new : List Event) (k j : ℕ) → IsSound w → j ≡ k + 1 → HasRaised w old v mid (λ x. (n : ℕ) × (x ≡ mk n) × (n ≤ k)) →
    HasRaised v mid u new (λ x. x ≡ mk j) → HasRaised w old u new (λ x. (n : ℕ) × (x ≡ mk n) × (n ≤ k + 1))
raised-next mk w old v mid u new k j sound next first second =
    raised-weaker w old u new (λ x. ((n : ℕ) × (x ≡ mk n) × (n ≤ k)) ⊎ (x ≡ mk j)) (λ x. (n : ℕ) × (x ≡ mk n) × (n ≤ k + 1)) which
    (raised-join w old v mid u new (λ x. (n : ℕ) × (x ≡ mk n) × (n ≤ k)) (λ x. x ≡ mk j) sound first second)
  where
    which : (x : Actor) → (n : ℕ) × (x ≡ mk n) × (n ≤ k + 1) → HasActor (setting_of w) x → ((n : ℕ) × (x ≡ mk n) × (n ≤ k)) ⊎ (x ≡ mk j)
    which x (n, is, le) known = go (cases_lt k n)
      where
        go : (k < n) ⊎ (n ≤ k) → ((n : ℕ) × (x ≡ mk n) × (n ≤ k)) ⊎ (x ≡ mk j)
        go (inl past) = let same : n ≡ j = omega (arith, past, le, next) in inr (is ∙ ap mk same)
        go (inr within) = inl (n, is, within)

-- who is down may rise, so that only memory can be wanting

ok-err : {A : Type 0} {E : Type 0} (a : A) (e : E) → Ok a ≡ Err e → ⊥
ok-err a e q = cc

pub node-rises-free : (w : ExactWorld) (n : ℕ) (f : StepFault) → IsDownThere w (actor.Node n) → (step w (event.Rise (actor.Node n) Old) ≡ Err f) ⊎ (f ≡ fault.Memory) → f ≡ fault.Memory
node-rises-free w n f down (inl h) = absurd (ok-err _ f (sym (node-rises-step w n down.0 down.1 down.2) ∙ h))
node-rises-free w n f down (inr m) = m

pub client-rises-free : (w : ExactWorld) (c : ℕ) (f : StepFault) → IsDownThere w (actor.Client c) → (step w (event.Rise (actor.Client c) Old) ≡ Err f) ⊎ (f ≡ fault.Memory) → f ≡ fault.Memory
client-rises-free w c f down (inl h) = absurd (ok-err _ f (sym (client-rises-step w c down.0 down.1 down.2) ∙ h))
client-rises-free w c f down (inr m) = m

-- The moves so far, and one more.

pub made-more : (chosen : ℕ → Bool) (a : Want) (w : ExactWorld) (old : List Event) (v : ExactWorld) (mid : List Event) (mv : Move) (u : ExactWorld) (new : List Event) → ((es : List Event) × Follows chosen a w es v × (mid ≡ old ++ es)) →
    next_move (setting_of v) chosen a (forget v) ≡ Some mv → HasMade a v mid mv u new → (es : List Event) × Follows chosen a w es u × (new ≡ old ++ es)
made-more chosen a w old v mid mv u new (es, follows, joined) next (added, moved, more) = (es ++ added, follows_more es v mv added u follows next moved, more ∙ ap (λ l. l ++ added) joined ∙ append_assoc old es added)

pub made-less : (chosen : ℕ → Bool) (a : Want) (w : ExactWorld) (old : List Event) (v : ExactWorld) (mid : List Event) (mv : Move) (u : ExactWorld) (new : List Event) → IsSound w → SetsOut chosen a w → ((es : List Event) × Follows chosen a w es v × (mid ≡ old ++ es)) →
    next_move (setting_of v) chosen a (forget v) ≡ Some mv → HasMade a v mid mv u new → cost (setting_of u) chosen a (forget u) < cost (setting_of v) chosen a (forget v)
made-less chosen a w old v mid mv u new sound out (es, follows, joined) next (added, moved, more) = step-costs model-laws chosen a w es v mv added u sound out follows next moved
