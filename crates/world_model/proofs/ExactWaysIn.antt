-- The law of ways in at the exact world, as long as there is room.
use Rattle.std.proofs.Common.{◌≡◌, ◌≢◌, ℕ, ◌+◌, ◌-◌, ◌<◌, ◌≤◌, ◌⊎◌, not, ◌&&◌, Bool, true, false, List, [], ◌∷◌, ◌++◌, length, Option, None, Some, Ok, Err, zero, suc, refl, sym, ◌∙◌, ap, subst, inl, inr, arith, append_assoc, append-nil}
use Rattle.std.specs.List.{list_any}
use Rattle.std.proofs.lemmas.Bool.{cases_eq, and_parts, ltb-true, lt-ltb}
use Rattle.lock_messages.specs.declared.ids.TheConstants.{MAX_ATTEMPT}
use Rattle.lock_messages.specs.declared.ids.Actor.{Actor}
use Rattle.lock_messages.specs.declared.ids.Actor.TheVariants as actor
use Rattle.lock_model.specs.Ballots.{AllCross, HasAnyNode, IsEnough, ballot_at}
use Rattle.lock_model.specs.Stations.{Free, Has, Standing}
use Rattle.lock_model.specs.Decisions.{Among}
use Rattle.lock_model.proofs.EntryFacts.{any-found, any-none}
use Rattle.world_model.specs.declared.TheConstants.{MAX_MESSAGES}
use Rattle.world_model.specs.declared.events.Age.TheVariants.{Old}
use Rattle.world_model.specs.declared.events.Effect.TheVariants as effect
use Rattle.world_model.specs.declared.events.Event.{Event}
use Rattle.world_model.specs.declared.events.Event.TheVariants as event
use Rattle.world_model.specs.declared.exact.ExactClient.{ExactClient}
use Rattle.world_model.specs.declared.exact.ExactClientPhase.{ExactClientPhase}
use Rattle.world_model.specs.declared.exact.ExactClientPhase.TheVariants as client
use Rattle.world_model.specs.declared.exact.ExactNode.{ExactNode}
use Rattle.world_model.specs.declared.exact.ExactNodePhase.{ExactNodePhase}
use Rattle.world_model.specs.declared.exact.ExactNodePhase.TheVariants as node
use Rattle.world_model.specs.declared.exact.ExactWorld.{ExactWorld}
use Rattle.world_model.specs.declared.ways.Move.{Move}
use Rattle.world_model.specs.declared.ways.Move.TheVariants.{Alone, Hand, HearFrom}
use Rattle.world_model.specs.declared.ways.Want.{Want}
use Rattle.world_model.specs.Worlds.{NodePhase, NodeDown, NodeIdle, Decided, Stored, Node, ClientPhase, ClientDown, ClientIdle, Chosen, Asking, IsIn, Client, World, Setting, HasClient}
use Rattle.world_model.specs.ExactWorlds.{numbered, next_number, with_node_at, with_client_at, Ran, Stepped, Steps, step, ran_on, ran}
use Rattle.world_model.specs.Forgetting.{station_of, present_of, node_phase_of, client_phase_of, node_numbered, client_numbered, forget, setting_of, IsSound}
use Rattle.world_model.specs.Invariants.{IsSafe}
use Rattle.world_model.specs.Numbered.{numbered-one, numbered-there}
use Rattle.world_model.specs.Advice.{coming, is_up, is_client_up, is_held, can_be_won, coming_up, node_numbers, client_numbers, is_grant, next_move}
use Rattle.world_model.specs.Ways.{IsPossible, IsInsideAs, IsUp, HasActor, IsChosenBelow, StandsInWay, IsReady}
use Rattle.world_model.specs.ExactWays.{load, SetsOut, every_node, LeadsIn, HasRun, HasBegun, is_chosen_below, HasAttempt, ExactWayIn, ExactWayWithoutTheDead, Moved, moved_alone, moved_hand, moved_hear}
use Rattle.world_model.proofs.ListFacts.{among-got, got-numbered}
use Rattle.world_model.proofs.Deeds.{ModelLaws}
use Rattle.world_model.proofs.Costs.{cost}
use Rattle.world_model.proofs.Owed.{owed}
use Rattle.world_model.proofs.Rooms.{alone-full, hand-full}
use Rattle.world_model.specs.ExactWays.{IsLeft}
use Rattle.world_model.proofs.Nearer.{Fine, left-up, node-among, client-among}
use Rattle.world_model.proofs.FineFacts.{cases-client, stranger-is, safe-coming}
use Rattle.world_model.proofs.InTheWay.{stands-blocks}
use Rattle.world_model.proofs.Searches.{numbers-among, among-clients}
use Rattle.world_model.proofs.MoveKinds as kind
use Rattle.world_model.proofs.MoveKinds.{MoveKind}
use Rattle.world_model.proofs.Progress.{IsNext, Goes-on, progress}
use Rattle.world_model.proofs.Raises.{still-up}
use Rattle.world_model.proofs.WaysIn.{every-known, every-enough}
use Rattle.world_model.proofs.ExactMoves.{alone-goes, hand-goes-first, hand-goes-second, hear-goes}
use Rattle.world_model.proofs.OnTheWay.{run-more, OnTheWay, stepped-ok, moves-on}
use Rattle.world_model.proofs.Prefixes.{Risen, none-risen, risen-on, client-risen, node-risen, client-rises-step, node-rises-step}
use Rattle.world_model.proofs.OwnRests.{CameUp, came-up}
use Rattle.world_model.proofs.OwedFacts.{owed-load}

-- Runs, one after the other.
pub run-join : (x : ExactWorld) (events : List Event) (y : ExactWorld) (more : List Event) (z : ExactWorld) → HasRun x events y → HasRun y more z → HasRun x (events ++ more) z
run-join x events y [] z run next =
    let same : y ≡ z = ap (λ (r : Ran). r.world) next in
    subst (λ es. HasRun x es z) (sym (append-nil events)) (subst (HasRun x events) same run)
run-join x events y (e ∷ more) z run next = go (step y e) refl next (λ t h rest. run-join x (events ++ e ∷ []) t.world more z (run-more x events y e t run h) rest)
  where
    go : (s : Steps) → step y e ≡ s → ran_on y s (λ v. ran more v) ≡ record { taken = suc (length more); world = z; refused = None } →
        ((t : Stepped) → step y e ≡ Ok t → HasRun t.world more z → HasRun x ((events ++ e ∷ []) ++ more) z) → HasRun x (events ++ e ∷ more) z
    go (Err g) is q join = absurd (let w : Some g ≡ None = ap (λ (r : Ran). r.refused) q in cc)
    go (Ok t) is q join =
        let all : (ran more t.world).taken ≡ length more = (let k : (ran more t.world).taken + 1 ≡ suc (length more) = ap (λ (r : Ran). r.taken) q in omega (arith, k)) in
        let rest : HasRun t.world more z = λ i. record { taken = all i; world = ap (λ (r : Ran). r.world) q i; refused = ap (λ (r : Ran). r.refused) q i } in
        subst (λ es. HasRun x es z) (append_assoc events (e ∷ []) more) (join t is rest)

-- A run that ends inside leads in.
pub leads-in : (x : ExactWorld) (a : Want) (events : List Event) (y : ExactWorld) → HasRun x events y → IsInsideAs (forget y) a → LeadsIn x a events
leads-in x a events y run inside = record { taken = ap (λ (r : Ran). r.taken) run; refused = ap (λ (r : Ran). r.refused) run; inside = subst (λ v. IsInsideAs (forget v) a) (sym (ap (λ (r : Ran). r.world) run)) inside }

-- Where there is room each next move is made.

no-full : {A : Type 0} (bound : ℕ) → bound ≤ MAX_MESSAGES → MAX_MESSAGES < bound → A
no-full bound fits full = absurd (let z : ⊥ = omega (arith, fits, full) in z)

module _ (laws : ModelLaws) (G : Bool) (chosen : ℕ → Bool) (a : Want) (bound : ℕ) (fits : bound ≤ MAX_MESSAGES) (x : ExactWorld) where
  alone-made : (y : ExactWorld) (e : Event) → IsSound y → Fine (setting_of y) chosen a (forget y) → length y.sent + owed chosen a y ≤ bound → IsNext (setting_of y) chosen a (forget y) (Alone e) → (t : Stepped) × (step y e ≡ Ok t)
  alone-made y e sound fine room is = elim (alone-goes laws chosen a y e sound is.goes is.kind) [
    | inl none ↦ stepped-ok (step y e) none
    | inr full ↦ no-full bound fits (omega (arith, alone-full laws chosen a y e sound fine is.kind full, room))
  ]

  made : (y : ExactWorld) (mv : Move) → IsSound y → Fine (setting_of y) chosen a (forget y) → length y.sent + owed chosen a y ≤ bound → IsNext (setting_of y) chosen a (forget y) mv → (added : List Event) × (z : ExactWorld) × Moved a y mv added z
  made y (Alone e) sound fine room is = let t = alone-made y e sound fine room is in (e ∷ [], t.0.world, moved_alone e t.0 t.1)
  made y (Hand d n) sound fine room is =
      elim (hand-goes-first laws a y d n sound is.goes) [
        | inl none ↦
            let t = stepped-ok (step y (event.SayTo d n)) none in
            let u = stepped-ok (step t.0.world (event.Take n (next_number y))) (hand-goes-second laws a y d n t.0 sound is.goes t.1) in
            (event.SayTo d n ∷ event.Take n (next_number y) ∷ [], u.0.world, moved_hand d n t.0 u.0 t.1 u.1)
        | inr full ↦ no-full bound fits (omega (arith, hand-full laws chosen a y d n sound fine is.kind full, room))
      ]
  made y (HearFrom n) sound fine room is = hearing n is is.kind
    where
      hearing : (n : ℕ) (it : IsNext (setting_of y) chosen a (forget y) (HearFrom n)) → MoveKind (setting_of y) chosen a (forget y) (HearFrom n) → (added : List Event) × (z : ExactWorld) × Moved a y (HearFrom n) added z
      hearing _ it (kind.hears n p is known asks for ungranted said) =
          let f = any-found (is_grant n p.ticket) y.sent said in
          let at = among-got y.sent f.0 f.1 in
          let there = got-numbered y.sent at.0 f.0 at.1 in
          let t = stepped-ok (step y (event.Hear a.client (at.0 + 1))) (hear-goes a y n (at.0 + 1) p f.0 it.goes asks there f.2) in
          (event.Hear a.client (at.0 + 1) ∷ [], t.0.world, moved_hear n (at.0 + 1) f.0 p t.0 asks there f.2 t.1)

  -- so that the client gets in
  pub gets-in : (k : ℕ) (events : List Event) (y : ExactWorld) → OnTheWay G chosen a bound x events y → cost (setting_of y) chosen a (forget y) < k → (es : List Event) × (z : ExactWorld) × OnTheWay G chosen a bound x es z × IsInsideAs (forget z) a
  gets-in zero events y way less = absurd (let z : ⊥ = omega (arith, less) in z)
  gets-in (suc k) events y way less =
      go (next_move (setting_of y) chosen a (forget y)) refl (progress (setting_of y) chosen a (forget y) way.fine (next_move (setting_of y) chosen a (forget y)) refl) (λ es z on nearer. gets-in k es z on (omega (arith, less, nearer)))
    where
      go : (o : Option Move) → next_move (setting_of y) chosen a (forget y) ≡ o → Goes-on (setting_of y) chosen a (forget y) o →
          ((es : List Event) (z : ExactWorld) → OnTheWay G chosen a bound x es z → cost (setting_of z) chosen a (forget z) < cost (setting_of y) chosen a (forget y) → (fs : List Event) × (u : ExactWorld) × OnTheWay G chosen a bound x fs u × IsInsideAs (forget u) a) →
          (es : List Event) × (z : ExactWorld) × OnTheWay G chosen a bound x es z × IsInsideAs (forget z) a
      go None is inside more = (events, y, way, inside)
      go (Some mv) is next more =
          let m = made y mv way.sound way.fine way.room next in
          let on = moves-on laws G chosen a bound x events y mv m.0 m.1 way is m.2 in
          let same : setting_of m.1 ≡ setting_of y = on.0.setting ∙ sym way.setting in
          more (events ++ m.0) m.1 on.0 (subst (λ s. cost s chosen a (forget m.1) < cost (setting_of y) chosen a (forget y)) (sym same) on.1)

-- Where the way begins.

-- a client that isn't there has kept nothing
pub nothing-kept : (x : ExactWorld) (c : ℕ) → ¬ (HasClient (setting_of x) c) → ((forget x).clients c).kept ≡ 0
nothing-kept x c stranger = go (numbered x.clients c) refl
  where
    go : (o : Option ExactClient) → numbered x.clients c ≡ o → (client_numbered (numbered x.clients c)).kept ≡ 0
    go None is = ap (λ o. (client_numbered o).kept) is
    go (Some k) is = absurd (stranger (numbered-one x.clients c k is))

up-true : (phase : NodePhase) → is_up phase ≡ true → phase ≢ NodeDown
up-true NodeDown h e = let z : false ≡ true = h in cc
up-true NodeIdle h e = let z : NodeIdle ≡ NodeDown = e in cc
up-true (Decided st replies) h e = let z : Decided st replies ≡ NodeDown = e in cc
up-true (Stored replies) h e = let z : Stored replies ≡ NodeDown = e in cc

down-false : (phase : ClientPhase) → phase ≡ ClientDown → is_client_up phase ≡ false
down-false phase e = ap is_client_up e

-- a node that passes the test can be won
pub won-ready : (x : ExactWorld) (a : Want) (n : ℕ) → IsSound x → can_be_won (setting_of x) a (forget x) n ≡ true → IsReady (forget x) a n
won-ready x a n sound h = record { up = up-true ((forget x).nodes n).phase parts.0; in_way = others }
  where
    s : Setting
    s = setting_of x

    held : ℕ → Bool
    held = is_held a (forget x) (coming ((forget x).nodes n))

    parts : (is_up ((forget x).nodes n).phase ≡ true) × (not (list_any held (client_numbers s)) ≡ true)
    parts = and_parts (is_up ((forget x).nodes n).phase) (not (list_any held (client_numbers s))) h

    none : list_any held (client_numbers s) ≡ false
    none = go (list_any held (client_numbers s)) parts.1
      where
        go : (b : Bool) → not b ≡ true → b ≡ false
        go true e = absurd (let z : false ≡ true = e in cc)
        go false e = refl

    others : (d : ℕ) → StandsInWay a (coming ((forget x).nodes n)) d → IsUp (forget x) (actor.Client d)
    others d stands down = elim (cases-client s d) [
      | inl has ↦
          let not_held : held d ≡ false = any-none held (client_numbers s) d none (client-among s d has) in
          let is_held : held d ≡ true =
          ap (λ b. b && not (is_client_up ((forget x).clients d).phase)) (stands-blocks a (coming ((forget x).nodes n)) d stands) ∙ ap not (down-false ((forget x).clients d).phase down) in
          absurd (let z : false ≡ true = sym not_held ∙ is_held in cc)
      | inr stranger ↦
          absurd (let it = stands.1 in
          let e = stranger-is s (forget x) n (coming ((forget x).nodes n)) (nothing-kept x) (safe-coming s (forget x) n sound.safe) d stranger in
          let z : Free ≡ Has it.0 a.resource it.1 = ap (λ (t : Standing). t.claim) (sym e) ∙ it.2 in cc)
    ]

-- the client's coming up makes no other actor less ready
came-ready : (a : Want) (x : ExactWorld) (events : List Event) (y : ExactWorld) → CameUp a x events y → (n : ℕ) → IsReady (forget x) a n → IsReady (forget y) a n
came-ready a x events y came n is = record {
  up = λ e. is.up (ap (λ (v : Node). v.phase) (sym (came.nodes n)) ∙ e);
  in_way = λ d stands. (let up = is.in_way d (subst (λ v. StandsInWay a (coming v) d) (came.nodes n) stands) in λ e. up (ap (λ (k : Client). k.phase) (sym (came.others d stands.0)) ∙ e));
}

pub fine-there : (chosen : ℕ → Bool) (a : Want) (y : ExactWorld) → IsSound y → SetsOut chosen a y → Fine (setting_of y) chosen a (forget y)
fine-there chosen a y sound out = record { possible = out.possible; enough = out.enough; safe = sound.safe; strangers = nothing-kept y; left = out.left; ready = out.ready }

same-possible : (a : Want) (x y : ExactWorld) → setting_of y ≡ setting_of x → IsPossible (setting_of x) a → IsPossible (setting_of y) a
same-possible a x y same possible = subst (λ s. IsPossible s a) (sym same) possible

-- what is chosen is below the greatest attempt, as the test says
chosen-below : (phase : ClientPhase) → is_chosen_below phase ≡ true → IsChosenBelow phase
chosen-below ClientDown h = tt
chosen-below ClientIdle h = tt
chosen-below (Chosen t place) h = ltb-true t.attempt MAX_ATTEMPT h
chosen-below (Asking p) h = tt
chosen-below (IsIn p) h = tt

pub below-chosen : (phase : ClientPhase) → IsChosenBelow phase → is_chosen_below phase ≡ true
below-chosen ClientDown h = refl
below-chosen ClientIdle h = refl
below-chosen (Chosen t place) h = lt-ltb t.attempt MAX_ATTEMPT h
below-chosen (Asking p) h = refl
below-chosen (IsIn p) h = refl

-- the client has come up, and the nodes that could be won are won without the dead
pub out-won : (a : Want) (x : ExactWorld) (events : List Event) (y : ExactWorld) → IsSound x → IsPossible (setting_of x) a → IsEnough (ballot_at x.ballots a.place) a.mode (can_be_won (setting_of x) a (forget x)) → CameUp a x events y →
    SetsOut (can_be_won (setting_of x) a (forget x)) a y
out-won a x events y sound possible enough came = record {
  possible = same-possible a x y came.setting possible;
  enough = subst (λ (s : Setting). IsEnough (ballot_at s.ballots a.place) a.mode (can_be_won (setting_of x) a (forget x))) (sym came.setting) enough;
  left = came.left;
  ready = λ n is. came-ready a x events y came n (won-ready x a n sound is);
}

pub sets-out : (a : Want) (x : ExactWorld) (events : List Event) (y : ExactWorld) → IsSound x → IsPossible (setting_of x) a → IsEnough (ballot_at x.ballots a.place) a.mode (can_be_won (setting_of x) a (forget x)) → CameUp a x events y →
    OnTheWay (is_chosen_below ((forget x).clients a.client).phase) (can_be_won (setting_of x) a (forget x)) a (length x.sent + load (can_be_won (setting_of x) a (forget x)) a x) x events y
sets-out a x events y sound possible enough came = record {
  run = came.run;
  setting = came.setting;
  sound = came.sound;
  fine = fine-there chosen a y came.sound (out-won a x events y sound possible enough came);
  room = (let owes = owed-load chosen a y in let less = came.load chosen in let same : length y.sent ≡ length x.sent = ap length came.sent in omega (arith, owes, less, same));
  such = λ below. came.such (chosen-below ((forget x).clients a.client).phase below);
  ups = λ below. ups;
}
  where
    chosen : ℕ → Bool
    chosen = can_be_won (setting_of x) a (forget x)

    ups : (who : Actor) → IsUp (forget y) who → IsUp (forget x) who ⊎ (who ≡ actor.Client a.client)
    ups (actor.Node n) up = inl (λ e. up (ap (λ (v : Node). v.phase) (came.nodes n) ∙ e))
    ups (actor.Client d) up = elim (cases_eq d a.client) [
      | inl e ↦ inr (ap actor.Client e)
      | inr apart ↦ inl (λ e. up (ap (λ (k : Client). k.phase) (came.others d apart) ∙ e))
    ]

-- or all have risen since
module _ (a : Want) (x : ExactWorld) (events : List Event) (y z : ExactWorld) (possible : IsPossible (setting_of x) a) (crosses : AllCross x.ballots) (came : CameUp a x events y) (risen : Risen a y z)
    (up : (who : Actor) → HasActor (setting_of x) who → IsUp (forget z) who) where
  abbrev among : Setting
  among = setting_of x

  abbrev all : ℕ → Bool
  all = every_node (setting_of x)

  same-then : setting_of z ≡ among
  same-then = risen.setting ∙ came.setting

  own-then : (forget z).clients a.client ≡ (forget y).clients a.client
  own-then = risen.stays.clients a.client (left-up a ((forget y).clients a.client).kept ((forget y).clients a.client).phase came.left)

  others-then : (n d : ℕ) → StandsInWay a (coming ((forget z).nodes n)) d → IsUp (forget z) (actor.Client d)
  others-then n d stands = elim (cases-client among d) [
    | inl has ↦ up (actor.Client d) has
    | inr stranger ↦
        absurd (let it = stands.1 in
        let e = stranger-is among (forget z) n (coming ((forget z).nodes n)) (subst (λ (t : Setting). (c : ℕ) → ¬ (HasClient t c) → ((forget z).clients c).kept ≡ 0) same-then (nothing-kept z)) (safe-coming among (forget z) n (subst (λ t. IsSafe t (forget z)) same-then risen.sound.safe)) d stranger in
        let q : Free ≡ Has it.0 a.resource it.1 = ap (λ (t : Standing). t.claim) (sym e) ∙ it.2 in cc)
  ]

  pub out-risen : SetsOut all a z
  out-risen = record {
    possible = same-possible a x z same-then possible;
    enough = subst (λ (t : Setting). IsEnough (ballot_at t.ballots a.place) a.mode all) (sym same-then) (every-enough among a.place a.mode crosses possible.place);
    left = subst (λ (k : Client). IsLeft a k.kept k.phase) (sym own-then) came.left;
    ready = λ n is. record { up = up (actor.Node n) (every-known among n is); in_way = others-then n };
  }

  pub sets-out-risen : (more : List Event) → HasRun x (events ++ more) z → OnTheWay false all a (length x.sent + load all a x) x (events ++ more) z
  sets-out-risen more run = record {
    run = run;
    setting = same-then;
    sound = risen.sound;
    fine = fine-there all a z risen.sound out-risen;
    room =
        (let owes = owed-load all a z in
        let less = came.load all in
        let still = risen.load all in
        let same : length z.sent ≡ length x.sent = ap length (risen.sent ∙ came.sent) in omega (arith, owes, less, still, same));
    such = λ never. absurd (let q : false ≡ true = never in cc);
    ups = λ never. absurd (let q : false ≡ true = never in cc);
  }

-- All rise.

-- those of some numbers are up at the end of a run in which nothing else has happened
pub record AllRisen (a : Want) (y : ExactWorld) (IsRaised : World → Type 0) : Type 0 where
  pub events : List Event
  pub world : ExactWorld
  pub run : HasRun y events world
  pub risen : Risen a y world
  pub raised : IsRaised (forget world)

raise-node : ModelLaws → (a : Want) (y : ExactWorld) (n : ℕ) → IsSound y → HasAnyNode y.ballots n → AllRisen a y (λ w. IsUp w (actor.Node n))
raise-node laws a y n sound known = go v.0 v.1 v.0.phase refl
  where
    v : (v : ExactNode) × (numbered y.nodes n ≡ Some v)
    v = numbered-there y.nodes n known.0 (omega (arith, known.1, sound.nodes))

    up-already : (x : ExactNode) → numbered y.nodes n ≡ Some x → node_phase_of x.phase ≢ NodeDown → AllRisen a y (λ w. IsUp w (actor.Node n))
    up-already x was up = record { events = []; world = y; run = refl; risen = none-risen a y sound; raised = λ e. up (sym (ap (λ o. (node_numbered o).phase) was) ∙ e) }

    go : (x : ExactNode) → numbered y.nodes n ≡ Some x → (p : ExactNodePhase) → x.phase ≡ p → AllRisen a y (λ w. IsUp w (actor.Node n))
    go x was node.Down is =
        let r = node-risen laws a y n x sound was is in
        let t : Stepped = record { world = with_node_at y n (record { kept = x.kept; tried = None; phase = node.Idle }); effect = effect.Up } in
        record { events = event.Rise (actor.Node n) Old ∷ []; world = t.world; run = run-more y [] y (event.Rise (actor.Node n) Old) t refl (node-rises-step y n x was is); risen = r.0; raised = r.1 }
    go x was node.Idle is = up-already x was (λ e. let z : NodeIdle ≡ NodeDown = ap node_phase_of (sym is) ∙ e in cc)
    go x was (node.Decided st replies) is = up-already x was (λ e. let z : Decided (station_of st) replies ≡ NodeDown = ap node_phase_of (sym is) ∙ e in cc)
    go x was (node.Stored replies) is = up-already x was (λ e. let z : Stored replies ≡ NodeDown = ap node_phase_of (sym is) ∙ e in cc)

raise-client : ModelLaws → (a : Want) (y : ExactWorld) (c : ℕ) → IsSound y → HasClient (setting_of y) c → AllRisen a y (λ w. IsUp w (actor.Client c))
raise-client laws a y c sound known = go k.0 k.1 k.0.phase refl
  where
    k : (k : ExactClient) × (numbered y.clients c ≡ Some k)
    k = numbered-there y.clients c known.0 known.1

    up-already : (j : ExactClient) → numbered y.clients c ≡ Some j → client_phase_of j.phase ≢ ClientDown → AllRisen a y (λ w. IsUp w (actor.Client c))
    up-already j was up = record { events = []; world = y; run = refl; risen = none-risen a y sound; raised = λ e. up (sym (ap (λ o. (client_numbered o).phase) was) ∙ e) }

    go : (j : ExactClient) → numbered y.clients c ≡ Some j → (p : ExactClientPhase) → j.phase ≡ p → AllRisen a y (λ w. IsUp w (actor.Client c))
    go j was client.Down is =
        let r = client-risen laws a y c j sound was is in
        let t : Stepped = record { world = with_client_at y c (record { kept = j.kept; tried = None; phase = client.Idle }); effect = effect.Up } in
        record { events = event.Rise (actor.Client c) Old ∷ []; world = t.world; run = run-more y [] y (event.Rise (actor.Client c) Old) t refl (client-rises-step y c j was is); risen = r.0; raised = r.1 }
    go j was client.Idle is = up-already j was (λ e. let z : ClientIdle ≡ ClientDown = ap client_phase_of (sym is) ∙ e in cc)
    go j was (client.Chosen t place) is = up-already j was (λ e. let z : Chosen t place ≡ ClientDown = ap client_phase_of (sym is) ∙ e in cc)
    go j was (client.Asking p) is = up-already j was (λ e. let z : Asking (present_of p) ≡ ClientDown = ap client_phase_of (sym is) ∙ e in cc)
    go j was (client.Inside p) is = up-already j was (λ e. let z : IsIn (present_of p) ≡ ClientDown = ap client_phase_of (sym is) ∙ e in cc)

raise-more : (a : Want) (y : ExactWorld) (who : ℕ → Actor) (n : ℕ) (ns : List ℕ) (first : AllRisen a y (λ w. IsUp w (who n))) → AllRisen a first.world (λ w. (k : ℕ) → Among k ns → IsUp w (who k)) →
    AllRisen a y (λ w. (k : ℕ) → Among k (n ∷ ns) → IsUp w (who k))
raise-more a y who n ns first rest = record {
  events = first.events ++ rest.events;
  world = rest.world;
  run = run-join y first.events first.world rest.events rest.world first.run rest.run;
  risen = risen-on a y first.world rest.world first.risen rest.risen;
  raised = each;
}
  where
    each : (k : ℕ) → Among k (n ∷ ns) → IsUp (forget rest.world) (who k)
    each k (inl e) = subst (λ j. IsUp (forget rest.world) (who j)) (sym e) (still-up (forget first.world) (forget rest.world) rest.risen.stays (who n) first.raised)
    each k (inr m) = rest.raised k m

raise-nodes : ModelLaws → (a : Want) (y : ExactWorld) (ns : List ℕ) → IsSound y → ((n : ℕ) → Among n ns → HasAnyNode y.ballots n) → AllRisen a y (λ w. (n : ℕ) → Among n ns → IsUp w (actor.Node n))
raise-nodes laws a y [] sound known = record { events = []; world = y; run = refl; risen = none-risen a y sound; raised = λ n m. absurd m }
raise-nodes laws a y (n ∷ ns) sound known =
    let first = raise-node laws a y n sound (known n (inl refl)) in
    raise-more a y actor.Node n ns first (raise-nodes laws a first.world ns first.risen.sound (λ k m. subst (λ (s : Setting). HasAnyNode s.ballots k) (sym first.risen.setting) (known k (inr m))))

raise-clients : ModelLaws → (a : Want) (y : ExactWorld) (cs : List ℕ) → IsSound y → ((c : ℕ) → Among c cs → HasClient (setting_of y) c) → AllRisen a y (λ w. (c : ℕ) → Among c cs → IsUp w (actor.Client c))
raise-clients laws a y [] sound known = record { events = []; world = y; run = refl; risen = none-risen a y sound; raised = λ c m. absurd m }
raise-clients laws a y (c ∷ cs) sound known =
    let first = raise-client laws a y c sound (known c (inl refl)) in
    raise-more a y actor.Client c cs first (raise-clients laws a first.world cs first.risen.sound (λ k m. subst (λ s. HasClient s k) (sym first.risen.setting) (known k (inr m))))

raise-all : ModelLaws → (a : Want) (y : ExactWorld) → IsSound y → AllRisen a y (λ w. (who : Actor) → HasActor (setting_of y) who → IsUp w who)
raise-all laws a y sound =
    record {
      events = nodes.events ++ clients.events;
      world = clients.world;
      run = run-join y nodes.events nodes.world clients.events clients.world nodes.run clients.run;
      risen = risen-on a y nodes.world clients.world nodes.risen clients.risen;
      raised = all;
    }
  where
    s : Setting
    s = setting_of y

    nodes : AllRisen a y (λ w. (n : ℕ) → Among n (node_numbers s) → IsUp w (actor.Node n))
    nodes = raise-nodes laws a y (node_numbers s) sound (numbers-among s)

    clients : AllRisen a nodes.world (λ w. (c : ℕ) → Among c (client_numbers s) → IsUp w (actor.Client c))
    clients = raise-clients laws a nodes.world (client_numbers s) nodes.risen.sound (λ c m. subst (λ t. HasClient t c) (sym nodes.risen.setting) (among-clients s c m))

    all : (who : Actor) → HasActor s who → IsUp (forget clients.world) who
    all (actor.Node n) known = still-up (forget nodes.world) (forget clients.world) clients.risen.stays (actor.Node n) (nodes.raised n (node-among s n known))
    all (actor.Client c) known = clients.raised c (client-among s c known)

-- The laws.

came : ModelLaws → (x : ExactWorld) (a : Want) → IsSound x → HasClient (setting_of x) a.client → HasAttempt (forget x) a → (events : List Event) × (y : ExactWorld) × CameUp a x events y
came laws x a sound known attempt =
    let k = numbered-there x.clients a.client known.0 known.1 in
    let left : k.0.kept < MAX_ATTEMPT ⊎ HasBegun a (client_phase_of k.0.phase) = subst (λ (j : Client). (j.kept < MAX_ATTEMPT) ⊎ HasBegun a j.phase) (ap client_numbered k.1) attempt in
    let up = came-up laws a x sound k.0 k.1 left in
    (coming_up a (client_phase_of k.0.phase), up.0, up.1)

pub exact-way : ModelLaws → ExactWayIn
exact-way laws x a sound possible attempt room =
    let c = came laws x a sound possible.client attempt in
    let all = raise-all laws a c.1 c.2.sound in
    let way = sets-out-risen a x c.0 c.1 all.world possible sound.crosses c.2 all.risen (λ who known. all.raised who (subst (λ s. HasActor s who) (sym c.2.setting) known)) all.events (run-join x c.0 c.1 all.events all.world c.2.run all.run) in
    let end = gets-in laws false (every_node (setting_of x)) a (length x.sent + load (every_node (setting_of x)) a x) room x (suc (cost (setting_of all.world) (every_node (setting_of x)) a (forget all.world))) (c.0 ++ all.events) all.world way (omega arith) in
    (end.0, leads-in x a end.0 end.1 end.2.run end.3)

pub exact-way-gently : ModelLaws → ExactWayWithoutTheDead
exact-way-gently laws x a sound possible attempt below enough room =
    let chosen = can_be_won (setting_of x) a (forget x) in
    let c = came laws x a sound possible.client attempt in
    let way = sets-out a x c.0 c.1 sound possible enough c.2 in
    let end = gets-in laws (is_chosen_below ((forget x).clients a.client).phase) chosen a (length x.sent + load chosen a x) room x (suc (cost (setting_of c.1) chosen a (forget c.1))) c.0 c.1 way (omega arith) in
    (end.0, leads-in x a end.0 end.1 end.2.run end.3, end.2.such (below-chosen ((forget x).clients a.client).phase below))
