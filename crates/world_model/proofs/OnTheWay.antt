-- On the way at the exact world: what holds after some moves, how the next keeps it, and why one may stop.
use Rattle.std.proofs.Common.{◌≡◌, ℕ, ◌+◌, ◌<◌, ◌≤◌, ◌⊎◌, Bool, true, false, List, [], ◌∷◌, ◌++◌, length, None, Some, Ok, Err, suc, refl, sym, ◌∙◌, ap, subst, inl, inr, arith, append_assoc}
use Rattle.std.specs.List.{list_any}
use Rattle.lock_messages.specs.declared.ids.Actor.{Actor}
use Rattle.lock_messages.specs.declared.ids.Actor.TheVariants as actor
use Rattle.lock_model.specs.Decisions.{Among}
use Rattle.world_model.specs.declared.TheConstants.{MAX_MESSAGES}
use Rattle.world_model.specs.declared.events.Event.{Event}
use Rattle.world_model.specs.declared.events.Event.TheVariants as event
use Rattle.world_model.specs.declared.events.StepFault.{StepFault}
use Rattle.world_model.specs.declared.events.StepFault.TheVariants as fault
use Rattle.world_model.specs.declared.exact.ExactWorld.{ExactWorld}
use Rattle.world_model.specs.declared.ways.Move.{Move}
use Rattle.world_model.specs.declared.ways.Move.TheVariants.{Alone, Hand, HearFrom}
use Rattle.world_model.specs.declared.ways.Want.{Want}
use Rattle.world_model.specs.Worlds.{Node, Present, Asking, World, Setting, Happens}
use Rattle.world_model.specs.ExactWorlds.{next_number, actor_of, Stepped, Steps, refusal_of, refusal, step, Ran, one_more, ran_on, ran}
use Rattle.world_model.specs.Forgetting.{forget, setting_of, IsSound}
use Rattle.world_model.specs.Advice.{is_grant, next_move}
use Rattle.world_model.specs.Ways.{IsGentle, IsUp}
use Rattle.world_model.specs.ExactWays.{HasRun, IsOwnOrGentle, Moved, moved_alone, moved_hand, moved_hear, IsStuck, stuck_alone, stuck_saying, stuck_taking, stuck_hearing, stuck_unheard}
use Rattle.world_model.proofs.Deeds.{ModelLaws}
use Rattle.world_model.proofs.StepFacts.{step-done}
use Rattle.world_model.proofs.Costs.{cost}
use Rattle.world_model.proofs.Owed.{owed}
use Rattle.world_model.proofs.Rooms.{alone-pays, alone-full, hand-pays, hand-full, hear-pays}
use Rattle.world_model.proofs.Nearer.{Fine, Makes}
use Rattle.world_model.proofs.ListFacts.{among-append}
use Rattle.world_model.proofs.Arrivals.{none-rises}
use Rattle.world_model.proofs.WaysIn.{gentle-more}
use Rattle.world_model.proofs.MoveKinds as kind
use Rattle.world_model.proofs.MoveKinds.{MoveKind}
use Rattle.world_model.proofs.Progress.{IsNext, progress}
use Rattle.world_model.proofs.ExactMoves.{alone-goes, alone-makes, hand-goes-first, hand-goes-second, hand-makes, hear-goes, hear-makes}

-- A run whose events were all taken: one more event behind
pub run-more : (x : ExactWorld) (events : List Event) (y : ExactWorld) (e : Event) (t : Stepped) → HasRun x events y → step y e ≡ Ok t → HasRun x (events ++ e ∷ []) t.world
run-more x [] y e t run h =
    let same : x ≡ y = ap (λ (r : Ran). r.world) run in
    ap (λ s. ran_on x s (λ v. ran [] v)) (ap (λ v. step v e) same ∙ h)
run-more x (f ∷ events) y e t run h = go (step x f) refl run (λ v r. run-more v events y e t r h)
  where
    go : (s : Steps) → step x f ≡ s → ran_on x s (λ v. ran events v) ≡ record { taken = suc (length events); world = y; refused = None } →
        ((v : ExactWorld) → HasRun v events y → HasRun v (events ++ e ∷ []) t.world) → HasRun x (f ∷ (events ++ e ∷ [])) t.world
    go (Err g) is q more = absurd (let z : Some g ≡ None = ap (λ (r : Ran). r.refused) q in cc)
    go (Ok s) is q more =
        let r : Ran = ran events s.world in
        let all : r.taken ≡ length events = (let z : r.taken + 1 ≡ suc (length events) = ap (λ (k : Ran). k.taken) q in omega (arith, z)) in
        let rest : HasRun s.world events y = λ i. record { taken = all i; world = ap (λ (k : Ran). k.world) q i; refused = ap (λ (k : Ran). k.refused) q i } in
        let after = more s.world rest in
        let one : length (events ++ e ∷ []) + 1 ≡ suc (length (events ++ e ∷ [])) = omega arith in
        ap (λ z. ran_on x z (λ v. ran (events ++ e ∷ []) v)) is ∙ ap one_more after ∙ ap (λ n. record { taken = n; world = t.world; refused = None }) one

-- What holds on the way from x, where `bound` messages at most are sent at its end; and, where G is true, nobody else
-- was disturbed.
pub record OnTheWay (G : Bool) (chosen : ℕ → Bool) (a : Want) (bound : ℕ) (x : ExactWorld) (events : List Event) (y : ExactWorld) : Type 0 where
  pub run : HasRun x events y
  pub setting : setting_of y ≡ setting_of x
  pub sound : IsSound y
  pub fine : Fine (setting_of y) chosen a (forget y)
  pub room : length y.sent + owed chosen a y ≤ bound
  pub such : G ≡ true → (e : Event) → Among e events → IsOwnOrGentle x a e
  pub ups : G ≡ true → (who : Actor) → IsUp (forget y) who → IsUp (forget x) who ⊎ (who ≡ actor.Client a.client)

-- the nodes are as they were where a client says something
h-nodes : (s : Setting) (a : Want) (w : World) (d n : ℕ) (t : ExactWorld) → Happens s w (event.SayTo d n) (forget t) → (forget t).nodes n ≡ w.nodes n
h-nodes s a w d n t h = let says = h.1 in says.3.nodes n

-- the step's refusal, where it has one
refused-err : (s : Steps) (f : StepFault) → s ≡ Err f → refusal_of s ≡ Some f
refused-err s f h = ap refusal_of h

pub stepped-ok : (s : Steps) → refusal_of s ≡ None → (t : Stepped) × (s ≡ Ok t)
stepped-ok (Ok t) h = (t, refl)
stepped-ok (Err f) h = absurd (let z : Some f ≡ None = h in cc)

module _ (laws : ModelLaws) (G : Bool) (chosen : ℕ → Bool) (a : Want) (bound : ℕ) (x : ExactWorld) where
  -- one event more
  more-such : (events : List Event) (y : ExactWorld) (e : Event) → OnTheWay G chosen a bound x events y → IsGentle (λ who. ⊥) a.client e → IsUp (forget y) (actor_of e) →
      ((e : Event) → Among e events → IsOwnOrGentle x a e) → G ≡ true → (b : Event) → Among b (events ++ e ∷ []) → IsOwnOrGentle x a b
  more-such events y e way gentle up old g b m = go ((among-append b events (e ∷ [])).0 m)
    where
      go : Among b events ⊎ Among b (e ∷ []) → IsOwnOrGentle x a b
      go (inl h) = old b h
      go (inr (inl same)) = subst (IsOwnOrGentle x a) (sym same) (gentle-more (λ who. who ≡ actor.Client a.client) a.client e gentle, way.ups g (actor_of e) up)
      go (inr (inr h)) = absurd h

  -- what is known of the next move
  next-is : (events : List Event) (y : ExactWorld) (mv : Move) → OnTheWay G chosen a bound x events y → next_move (setting_of y) chosen a (forget y) ≡ Some mv → IsNext (setting_of y) chosen a (forget y) mv
  next-is events y mv way next = progress (setting_of y) chosen a (forget y) way.fine (Some mv) next

  -- a move that is one event
  on-alone : (events : List Event) (y : ExactWorld) (mv : Move) (e : Event) (t : Stepped) → OnTheWay G chosen a bound x events y → next_move (setting_of y) chosen a (forget y) ≡ Some mv → step y e ≡ Ok t →
      Makes (setting_of y) a (forget y) mv (forget t.world) → IsGentle (λ who. ⊥) a.client e → IsUp (forget y) (actor_of e) → length t.world.sent + owed chosen a t.world ≤ length y.sent + owed chosen a y →
      OnTheWay G chosen a bound x (events ++ e ∷ []) t.world × (cost (setting_of y) chosen a (forget t.world) < cost (setting_of y) chosen a (forget y))
  on-alone events y mv e t way next h makes gentle up pays =
      let done = step-done laws y e t h in
      let near = (next-is events y mv way next).nears (forget t.world) makes in (
        record {
          run = run-more x events y e t way.run h;
          setting = done.setting ∙ way.setting;
          sound = done.sound way.sound;
          fine = subst (λ s. Fine s chosen a (forget t.world)) (sym done.setting) near.0;
          room = omega (arith, pays, way.room);
          such = λ g. more-such events y e way gentle up (way.such g) g;
          ups = λ g who is. way.ups g who (none-rises (setting_of y) a.client (forget y) e (forget t.world) (done.happens way.sound) gentle who is);
        },
        near.1,
      )

  -- a hand
  on-hand : (events : List Event) (y : ExactWorld) (d n : ℕ) (t u : Stepped) → OnTheWay G chosen a bound x events y → next_move (setting_of y) chosen a (forget y) ≡ Some (Hand d n) → step y (event.SayTo d n) ≡ Ok t →
      step t.world (event.Take n (next_number y)) ≡ Ok u →
      OnTheWay G chosen a bound x (events ++ event.SayTo d n ∷ event.Take n (next_number y) ∷ []) u.world × (cost (setting_of y) chosen a (forget u.world) < cost (setting_of y) chosen a (forget y))
  on-hand events y d n t u way next first second =
      let is = next-is events y (Hand d n) way next in
      let one = step-done laws y (event.SayTo d n) t first in
      let two = step-done laws t.world (event.Take n (next_number y)) u second in
      let near = is.nears (forget u.world) (hand-makes laws a y d n t u way.sound is.goes first second) in
      let same : setting_of u.world ≡ setting_of y = two.setting ∙ one.setting in
      let node_up : IsUp (forget t.world) (actor.Node n) = λ e. is.gentle.1 (ap (λ (v : Node). v.phase) (sym (h-nodes (setting_of y) a (forget y) d n t.world (one.happens way.sound))) ∙ e) in
      let says_up = none-rises (setting_of y) a.client (forget y) (event.SayTo d n) (forget t.world) (one.happens way.sound) tt in
      let takes_up = none-rises (setting_of t.world) a.client (forget t.world) (event.Take n (next_number y)) (forget u.world) (two.happens (one.sound way.sound)) tt in (
        record {
          run = subst (λ es. HasRun x es u.world) (append_assoc events (event.SayTo d n ∷ []) (event.Take n (next_number y) ∷ []))
              (run-more x (events ++ event.SayTo d n ∷ []) t.world (event.Take n (next_number y)) u (run-more x events y (event.SayTo d n) t way.run first) second);
          setting = same ∙ way.setting;
          sound = two.sound (one.sound way.sound);
          fine = subst (λ s. Fine s chosen a (forget u.world)) (sym same) near.0;
          room = omega (arith, hand-pays laws chosen a y d n t u way.sound way.fine is.kind first second, way.room);
          such = λ g. such g is.gentle;
          ups = λ g who up. way.ups g who (says_up who (takes_up who up));
        },
        near.1,
      )
    where
      such : G ≡ true → IsUp (forget y) (actor.Client d) × IsUp (forget y) (actor.Node n) → (b : Event) → Among b (events ++ event.SayTo d n ∷ event.Take n (next_number y) ∷ []) → IsOwnOrGentle x a b
      such g up b m = go ((among-append b events (event.SayTo d n ∷ event.Take n (next_number y) ∷ [])).0 m)
        where
          go : Among b events ⊎ Among b (event.SayTo d n ∷ event.Take n (next_number y) ∷ []) → IsOwnOrGentle x a b
          go (inl h) = way.such g b h
          go (inr (inl same)) = subst (IsOwnOrGentle x a) (sym same) (tt, way.ups g (actor.Client d) up.0)
          go (inr (inr (inl same))) = subst (IsOwnOrGentle x a) (sym same) (tt, way.ups g (actor.Node n) up.1)
          go (inr (inr (inr h))) = absurd h

  -- any move
  pub moves-on : (events : List Event) (y : ExactWorld) (mv : Move) (added : List Event) (z : ExactWorld) → OnTheWay G chosen a bound x events y → next_move (setting_of y) chosen a (forget y) ≡ Some mv → Moved a y mv added z →
      OnTheWay G chosen a bound x (events ++ added) z × (cost (setting_of y) chosen a (forget z) < cost (setting_of y) chosen a (forget y))
  moves-on events y _ _ _ way next (moved_alone e t h) =
      let is = next-is events y (Alone e) way next in
      on-alone events y (Alone e) e t way next h (alone-makes laws a y e t way.sound h) is.gentle.0 is.gentle.1 (alone-pays laws chosen a y e t way.sound way.fine is.kind h)
  moves-on events y _ _ _ way next (moved_hand d n t u first second) = on-hand events y d n t u way next first second
  moves-on events y _ _ _ way next (moved_hear n k m p t asks there is h) =
      let it = next-is events y (HearFrom n) way next in
      on-alone events y (HearFrom n) (event.Hear a.client k) t way next h (hear-makes laws a y n k p m t asks there is h) refl it.gentle (hear-pays laws chosen a y k t way.sound h)

  -- Only a full list of messages stops it, and that it isn't full the bound may say.
  full-only : (y : ExactWorld) (e : Event) (f : StepFault) → ((refusal y e ≡ None) ⊎ (refusal y e ≡ Some fault.SentListFull)) → (refusal y e ≡ Some fault.SentListFull → MAX_MESSAGES < bound) → step y e ≡ Err f → (f ≡ fault.SentListFull) × (MAX_MESSAGES < bound)
  full-only y e f (inl none) full h = absurd (let z : None ≡ Some f = sym none ∙ refused-err (step y e) f h in cc)
  full-only y e f (inr is) full h = let q : Some f ≡ Some fault.SentListFull = sym (refused-err (step y e) f h) ∙ is in let same : f ≡ fault.SentListFull = cc in (same, full is)

  pub stuck-full : (events : List Event) (y : ExactWorld) (mv : Move) (f : StepFault) → OnTheWay G chosen a bound x events y → next_move (setting_of y) chosen a (forget y) ≡ Some mv → IsStuck a y mv f → (f ≡ fault.SentListFull) × (MAX_MESSAGES < bound)
  stuck-full events y _ _ way next (stuck_alone e f h) =
      let is = next-is events y (Alone e) way next in
      full-only y e f (alone-goes laws chosen a y e way.sound is.goes is.kind) (λ full. omega (arith, alone-full laws chosen a y e way.sound way.fine is.kind full, way.room)) h
  stuck-full events y _ _ way next (stuck_saying d n f h) =
      let is = next-is events y (Hand d n) way next in
      full-only y (event.SayTo d n) f (hand-goes-first laws a y d n way.sound is.goes) (λ full. omega (arith, hand-full laws chosen a y d n way.sound way.fine is.kind full, way.room)) h
  stuck-full events y _ _ way next (stuck_taking d n t f first h) =
      let is = next-is events y (Hand d n) way next in
      let none = hand-goes-second laws a y d n t way.sound is.goes first in
      absurd (let z : None ≡ Some f = sym none ∙ refused-err (step t.world (event.Take n (next_number y))) f h in cc)
  stuck-full events y _ _ way next (stuck_hearing n k m p f asks there is h) =
      let it = next-is events y (HearFrom n) way next in
      let none = hear-goes a y n k p m it.goes asks there is in
      absurd (let z : None ≡ Some f = sym none ∙ refused-err (step y (event.Hear a.client k)) f h in cc)
  stuck-full events y _ _ way next (stuck_unheard n none) = absurd (unheard n ((next-is events y (HearFrom n) way next).kind) none)
    where
      unheard : (n : ℕ) → MoveKind (setting_of y) chosen a (forget y) (HearFrom n) → ((p : Present) → ((forget y).clients a.client).phase ≡ Asking p → list_any (is_grant n p.ticket) y.sent ≡ false) → ⊥
      unheard _ (kind.hears n p is known asks for ungranted said) none = let z : true ≡ false = sym said ∙ none p asks in cc
