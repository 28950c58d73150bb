-- The client that wants in is up, with an attempt left, once it has come up.
use Rattle.std.proofs.Common.{◌≡◌, ◌≢◌, ℕ, ◌<◌, ◌≤◌, ◌⊎◌, ◌||◌, nat_lt, Bool, true, false, cond, List, [], ◌∷◌, None, Some, Ok, refl, sym, ◌∙◌, ap, subst, inl, inr, arith}
use Rattle.std.proofs.lemmas.Bool.{or_parts, ltb-true, ltb-false}
use Rattle.lock_messages.specs.declared.ids.TheConstants.{MAX_ATTEMPT}
use Rattle.lock_messages.specs.declared.ids.Actor.TheVariants as actor
use Rattle.lock_messages.specs.declared.tickets.Ticket.{Ticket}
use Rattle.lock_model.specs.Decisions.{Among}
use Rattle.world_model.specs.declared.events.Age.TheVariants.{Old}
use Rattle.world_model.specs.declared.events.Effect.TheVariants as effect
use Rattle.world_model.specs.declared.events.Event.{Event}
use Rattle.world_model.specs.declared.events.Event.TheVariants as event
use Rattle.world_model.specs.declared.exact.ExactClient.{ExactClient}
use Rattle.world_model.specs.declared.exact.ExactClientPhase.{ExactClientPhase}
use Rattle.world_model.specs.declared.exact.ExactClientPhase.TheVariants as client
use Rattle.world_model.specs.declared.exact.ExactWorld.{ExactWorld}
use Rattle.world_model.specs.declared.ways.Want.{Want}
use Rattle.world_model.specs.Worlds.{Chosen, Asking, Client}
use Rattle.world_model.specs.ExactClients.{client_in, is_down}
use Rattle.world_model.specs.ExactWorlds.{numbered, Stepped, with_client_at, step}
use Rattle.world_model.specs.Forgetting.{client_phase_of, client_of, client_numbered, forget, setting_of, IsSound}
use Rattle.world_model.specs.Numbered.{numbered-one, numbered-set-here, numbered-set-there}
use Rattle.world_model.specs.Advice.{is_wanted, coming_up}
use Rattle.world_model.specs.Ways.{IsChosenBelow}
use Rattle.world_model.specs.ExactWays.{load, HasRun, IsOwnOrGentle, HasBegun}
use Rattle.world_model.proofs.Deeds.{ModelLaws}
use Rattle.world_model.proofs.StepFacts.{step-done, same-clients}
use Rattle.world_model.specs.ExactWays.{IsLeft}
use Rattle.world_model.proofs.OnTheWay.{run-more}
use Rattle.world_model.proofs.Prefixes.{client-rises-step, client-falls-step, client-load}

-- the client has come up, by these events
pub record CameUp (a : Want) (x : ExactWorld) (events : List Event) (y : ExactWorld) : Type 0 where
  pub run : HasRun x events y
  pub setting : setting_of y ≡ setting_of x
  pub sound : IsSound y
  pub sent : y.sent ≡ x.sent
  pub load : (chosen : ℕ → Bool) → load chosen a y ≤ load chosen a x
  pub nodes : (n : ℕ) → (forget y).nodes n ≡ (forget x).nodes n
  pub others : (d : ℕ) → d ≢ a.client → (forget y).clients d ≡ (forget x).clients d
  pub left : IsLeft a ((forget y).clients a.client).kept ((forget y).clients a.client).phase
  pub such : IsChosenBelow ((forget x).clients a.client).phase → (e : Event) → Among e events → IsOwnOrGentle x a e

module _ (laws : ModelLaws) (a : Want) (x : ExactWorld) (sound : IsSound x) (k : ExactClient) (was : numbered x.clients a.client ≡ Some k) where
  is-client : (forget x).clients a.client ≡ client_of k
  is-client = ap client_numbered was

  -- it stays as it is
  stays-up : IsLeft a k.kept (client_phase_of k.phase) → CameUp a x [] x
  stays-up left = record {
    run = refl;
    setting = refl;
    sound = sound;
    sent = refl;
    load = λ chosen. omega arith;
    nodes = λ n. refl;
    others = λ d apart. refl;
    left = subst (λ (j : Client). IsLeft a j.kept j.phase) (sym is-client) left;
    such = λ below e m. absurd m;
  }

  -- where only this client changes, and says nothing
  changed : (events : List Event) (after : ExactClient) → HasRun x events (with_client_at x a.client after) → IsSound (with_client_at x a.client after) → IsLeft a after.kept (client_phase_of after.phase) →
      (IsChosenBelow ((forget x).clients a.client).phase → (e : Event) → Among e events → IsOwnOrGentle x a e) → CameUp a x events (with_client_at x a.client after)
  changed events after run ok left such = record {
    run = run;
    setting = same-clients x a.client after;
    sound = ok;
    sent = refl;
    load = λ chosen. client-load chosen a x a.client after;
    nodes = λ n. refl;
    others = λ d apart. ap client_numbered (numbered-set-there x.clients a.client d after (numbered-one x.clients a.client k was).0 apart);
    left = subst (λ (j : Client). IsLeft a j.kept j.phase) (sym (ap client_numbered (numbered-set-here x.clients a.client k after was))) left;
    such = such;
  }

  abbrev idle : ExactClient
  idle = record { kept = k.kept; tried = None; phase = client.Idle }

  -- it rises
  rises : k.phase ≡ client.Down → k.kept < MAX_ATTEMPT → CameUp a x (event.Rise (actor.Client a.client) Old ∷ []) (with_client_at x a.client idle)
  rises down below = changed (event.Rise (actor.Client a.client) Old ∷ []) idle run ((step-done laws x (event.Rise (actor.Client a.client) Old) t stepped).sound sound) below such
    where
      t : Stepped
      t = record { world = with_client_at x a.client idle; effect = effect.Up }

      stepped : step x (event.Rise (actor.Client a.client) Old) ≡ Ok t
      stepped = client-rises-step x a.client k was down

      run : HasRun x (event.Rise (actor.Client a.client) Old ∷ []) t.world
      run = run-more x [] x (event.Rise (actor.Client a.client) Old) t refl stepped

      such : IsChosenBelow ((forget x).clients a.client).phase → (e : Event) → Among e (event.Rise (actor.Client a.client) Old ∷ []) → IsOwnOrGentle x a e
      such chosen e (inl same) = subst (IsOwnOrGentle x a) (sym same) (refl, inr refl)
      such chosen e (inr m) = absurd m

  abbrev fallen : ExactClient
  fallen = client_in k client.Down

  -- it falls, and rises
  falls : (t : Ticket) (place : ℕ) → k.phase ≡ client.Chosen t place → MAX_ATTEMPT ≤ t.attempt → k.kept < MAX_ATTEMPT →
      (y : ExactWorld) × CameUp a x (event.Fall (actor.Client a.client) ∷ event.Rise (actor.Client a.client) Old ∷ []) y
  falls t place is most below = (second.world, came)
    where
      first : Stepped
      first = record { world = with_client_at x a.client fallen; effect = effect.Down }

      falling : step x (event.Fall (actor.Client a.client)) ≡ Ok first
      falling = client-falls-step x a.client k was (ap is_down is)

      second : Stepped
      second = record { world = with_client_at first.world a.client idle; effect = effect.Up }

      there : numbered first.world.clients a.client ≡ Some fallen
      there = numbered-set-here x.clients a.client k fallen was

      rising : step first.world (event.Rise (actor.Client a.client) Old) ≡ Ok second
      rising = client-rises-step first.world a.client fallen there refl

      run : HasRun x (event.Fall (actor.Client a.client) ∷ event.Rise (actor.Client a.client) Old ∷ []) second.world
      run = run-more x (event.Fall (actor.Client a.client) ∷ []) first.world (event.Rise (actor.Client a.client) Old) second (run-more x [] x (event.Fall (actor.Client a.client)) first refl falling) rising

      spent : IsChosenBelow ((forget x).clients a.client).phase → ⊥
      spent chosen =
          let z : t.attempt < MAX_ATTEMPT = subst IsChosenBelow (ap client_phase_of is) (subst (λ (j : Client). IsChosenBelow j.phase) is-client chosen) in
          let q : ⊥ = omega (arith, z, most) in q

      one-sound : IsSound first.world
      one-sound = (step-done laws x (event.Fall (actor.Client a.client)) first falling).sound sound

      came : CameUp a x (event.Fall (actor.Client a.client) ∷ event.Rise (actor.Client a.client) Old ∷ []) second.world
      came = record {
        run = run;
        setting = same-clients first.world a.client idle ∙ same-clients x a.client fallen;
        sound = (step-done laws first.world (event.Rise (actor.Client a.client) Old) second rising).sound one-sound;
        sent = refl;
        load = λ chosen. (let one = client-load chosen a x a.client fallen in let two = client-load chosen a first.world a.client idle in omega (arith, one, two));
        nodes = λ n. refl;
        others = λ d apart.
            ap client_numbered (numbered-set-there first.world.clients a.client d idle (numbered-one x.clients a.client k was).0 apart)
            ∙ ap client_numbered (numbered-set-there x.clients a.client d fallen (numbered-one x.clients a.client k was).0 apart);
        left = subst (λ (j : Client). IsLeft a j.kept j.phase) (sym (ap client_numbered (numbered-set-here first.world.clients a.client fallen idle there))) below;
        such = λ chosen e m. absurd (spent chosen);
      }

  -- whichever it takes
  pub came-up : k.kept < MAX_ATTEMPT ⊎ HasBegun a (client_phase_of k.phase) → (y : ExactWorld) × CameUp a x (coming_up a (client_phase_of k.phase)) y
  came-up left = go k.phase refl left
    where
      Came : ExactClientPhase → Type 0
      Came p = (y : ExactWorld) × CameUp a x (coming_up a (client_phase_of p)) y

      chosen : (t : Ticket) (place : ℕ) (b : Bool) → k.phase ≡ client.Chosen t place → k.kept < MAX_ATTEMPT → (is_wanted a t place || nat_lt t.attempt MAX_ATTEMPT) ≡ b →
          (y : ExactWorld) × CameUp a x (cond b [] (event.Fall (actor.Client a.client) ∷ event.Rise (actor.Client a.client) Old ∷ [])) y
      chosen t place true is below h = (x, stays-up (subst (λ p. IsLeft a k.kept (client_phase_of p)) (sym is) (which (is_wanted a t place) refl h)))
        where
          which : (w : Bool) → is_wanted a t place ≡ w → (w || nat_lt t.attempt MAX_ATTEMPT) ≡ true → (is_wanted a t place ≡ true) ⊎ (t.attempt < MAX_ATTEMPT)
          which true is z = inl is
          which false is z = inr (ltb-true t.attempt MAX_ATTEMPT z)
      chosen t place false is below h =
          let parts = or_parts (is_wanted a t place) (nat_lt t.attempt MAX_ATTEMPT) h in
          falls t place is (ltb-false t.attempt MAX_ATTEMPT parts.1) below

      go : (p : ExactClientPhase) → k.phase ≡ p → k.kept < MAX_ATTEMPT ⊎ HasBegun a (client_phase_of p) → Came p
      go client.Down is (inl below) = (with_client_at x a.client idle, rises is below)
      go client.Down is (inr begun) = absurd begun
      go client.Idle is (inl below) = (x, stays-up (subst (λ p. IsLeft a k.kept (client_phase_of p)) (sym is) below))
      go client.Idle is (inr begun) = absurd begun
      go (client.Chosen t place) is (inl below) = chosen t place (is_wanted a t place || nat_lt t.attempt MAX_ATTEMPT) is below refl
      go (client.Chosen t place) is (inr begun) = absurd begun
      go (client.Asking p) is (inl below) = (x, stays-up (subst (λ p. IsLeft a k.kept (client_phase_of p)) (sym is) (inr below)))
      go (client.Asking p) is (inr begun) = (x, stays-up (subst (λ p. IsLeft a k.kept (client_phase_of p)) (sym is) (inl begun)))
      go (client.Inside p) is (inl below) = (x, stays-up (subst (λ p. IsLeft a k.kept (client_phase_of p)) (sym is) (inr below)))
      go (client.Inside p) is (inr begun) = (x, stays-up (subst (λ p. IsLeft a k.kept (client_phase_of p)) (sym is) (inl begun)))
