-- What a search for a way in has found, where it makes the next moves one after the other.
use Rattle.std.proofs.Common.{◌≡◌, ℕ, ◌+◌, ◌<◌, ◌≤◌, ◌⊎◌, Bool, true, false, if◌then◌else◌, List, [], ◌∷◌, ◌++◌, length, Option, None, Some, Ok, Err, suc, refl, sym, ◌∙◌, ap, subst, inl, inr, arith, append_assoc, append-nil}
use Rattle.lock_messages.specs.declared.ids.TheConstants.{MAX_ATTEMPT}
use Rattle.lock_messages.specs.declared.ids.Actor.{Actor}
use Rattle.lock_messages.specs.declared.ids.Actor.TheVariants as actor
use Rattle.lock_model.specs.Ballots.{IsEnough, ballot_at}
use Rattle.lock_model.specs.Decisions.{Among}
use Rattle.world_model.specs.declared.TheConstants.{MAX_MESSAGES}
use Rattle.world_model.specs.declared.events.Age.TheVariants.{Old}
use Rattle.world_model.specs.declared.events.Effect.TheVariants as effect
use Rattle.world_model.specs.declared.events.Event.{Event}
use Rattle.world_model.specs.declared.events.Event.TheVariants as event
use Rattle.world_model.specs.declared.events.StepFault.{StepFault}
use Rattle.world_model.specs.declared.events.StepFault.TheVariants as fault
use Rattle.world_model.specs.declared.exact.ExactClient.{ExactClient}
use Rattle.world_model.specs.declared.exact.ExactClientPhase.{ExactClientPhase}
use Rattle.world_model.specs.declared.exact.ExactClientPhase.TheVariants as client
use Rattle.world_model.specs.declared.exact.ExactNode.{ExactNode}
use Rattle.world_model.specs.declared.exact.ExactNodePhase.{ExactNodePhase}
use Rattle.world_model.specs.declared.exact.ExactNodePhase.TheVariants as node
use Rattle.world_model.specs.declared.exact.ExactWorld.{ExactWorld}
use Rattle.world_model.specs.declared.ways.Move.{Move}
use Rattle.world_model.specs.declared.ways.Want.{Want}
use Rattle.world_model.specs.Worlds.{Client, HasClient}
use Rattle.world_model.specs.ExactNodes.{node_rises_in}
use Rattle.world_model.specs.ExactClients.{client_rises_in}
use Rattle.world_model.specs.ExactWorlds.{numbered, with_node_at, with_client_at, Ran, Stepped, Steps, finishes, by_actor, step, ran_on, ran}
use Rattle.world_model.specs.Forgetting.{client_phase_of, client_numbered, forget, setting_of, IsSound}
use Rattle.world_model.specs.Numbered.{numbered-there}
use Rattle.world_model.specs.Advice.{can_be_won, coming_up, node_numbers, next_move}
use Rattle.world_model.specs.Ways.{IsPossible, IsUp, HasActor, IsChosenBelow, IsInsideAs}
use Rattle.world_model.specs.ExactWays.{total_over, load_at, load, HasRoomFor, every_node, LeadsIn, HasRun, HasBegun, is_chosen_below, HasAttempt, IsOwnOrGentle, SetsOut, Moved, Follows, follows_none, follows_more, StopsAt, AreRises}
use Rattle.world_model.proofs.Deeds.{ModelLaws}
use Rattle.world_model.proofs.Searches.{numbers-among}
use Rattle.world_model.proofs.Progress.{progress}
use Rattle.world_model.proofs.WaysIn.{known-every}
use Rattle.world_model.proofs.OnTheWay.{OnTheWay, moves-on, stuck-full}
use Rattle.world_model.proofs.Prefixes.{Risen, none-risen, risen-on, client-risen, node-risen, client-rises-step, node-rises-step}
use Rattle.world_model.proofs.OwnRests.{CameUp, came-up}
use Rattle.world_model.proofs.ExactWaysIn.{run-join, leads-in, fine-there, below-chosen, out-won, out-risen, sets-out, sets-out-risen}
use Rattle.world_model.proofs.Costs.{cost}
use Rattle.world_model.proofs.OwedFacts.{owed-load}

-- The next moves keep to the way, and only a full list of messages stops them.

followed : ModelLaws → (G : Bool) (chosen : ℕ → Bool) (a : Want) (bound : ℕ) (x : ExactWorld) (events : List Event) (y : ExactWorld) (es : List Event) (z : ExactWorld) → OnTheWay G chosen a bound x events y → Follows chosen a y es z →
    OnTheWay G chosen a bound x (events ++ es) z
followed laws G chosen a bound x events y _ _ way follows_none = subst (λ es. OnTheWay G chosen a bound x es y) (sym (append-nil events)) way
followed laws G chosen a bound x events y _ _ way (follows_more es v mv added u before next moved) =
    subst (λ fs. OnTheWay G chosen a bound x fs u) (append_assoc events es added)
    (moves-on laws G chosen a bound x (events ++ es) v mv added u (followed laws G chosen a bound x events y es v way before) next moved).0

inside-then : (G : Bool) (chosen : ℕ → Bool) (a : Want) (bound : ℕ) (x : ExactWorld) (events : List Event) (z : ExactWorld) → OnTheWay G chosen a bound x events z → next_move (setting_of z) chosen a (forget z) ≡ None → IsInsideAs (forget z) a
inside-then G chosen a bound x events z way none = progress (setting_of z) chosen a (forget z) way.fine None none

stopped : ModelLaws → (G : Bool) (chosen : ℕ → Bool) (a : Want) (bound : ℕ) (x : ExactWorld) (events : List Event) (y : ExactWorld) (f : StepFault) → OnTheWay G chosen a bound x events y → StopsAt chosen a y f → (f ≡ fault.SentListFull) × (MAX_MESSAGES < bound)
stopped laws G chosen a bound x events y f way stops =
    stuck-full laws G chosen a bound x (events ++ stops.events) stops.world stops.move f (followed laws G chosen a bound x events y stops.events stops.world way stops.follows) stops.next stops.stuck

-- On the way each move costs something, so that there is an end.
pub fine-start : (chosen : ℕ → Bool) (a : Want) (y : ExactWorld) → IsSound y → SetsOut chosen a y → OnTheWay false chosen a (length y.sent + load chosen a y) y [] y
fine-start chosen a y sound out = record {
  run = refl;
  setting = refl;
  sound = sound;
  fine = fine-there chosen a y sound out;
  room = (let owes = owed-load chosen a y in omega (arith, owes));
  such = λ never. absurd (let q : false ≡ true = never in cc);
  ups = λ never. absurd (let q : false ≡ true = never in cc);
}

pub step-costs : ModelLaws → (chosen : ℕ → Bool) (a : Want) (y : ExactWorld) (es : List Event) (v : ExactWorld) (mv : Move) (added : List Event) (u : ExactWorld) → IsSound y → SetsOut chosen a y → Follows chosen a y es v →
    next_move (setting_of v) chosen a (forget v) ≡ Some mv → Moved a v mv added u → cost (setting_of u) chosen a (forget u) < cost (setting_of v) chosen a (forget v)
step-costs laws chosen a y es v mv added u sound out follows next moved =
    let bound = length y.sent + load chosen a y in
    let way = followed laws false chosen a bound y [] y es v (fine-start chosen a y sound out) follows in
    let on = moves-on laws false chosen a bound y es v mv added u way next moved in
    subst (λ s. cost s chosen a (forget u) < cost (setting_of v) chosen a (forget v)) (sym (on.0.setting ∙ sym way.setting)) on.1

-- Those that rise were down.

client-was-down : (y : ExactWorld) (c : ℕ) (t : Stepped) → step y (event.Rise (actor.Client c) Old) ≡ Ok t → (k : ExactClient) × (numbered y.clients c ≡ Some k) × (k.phase ≡ client.Down)
unfolding step
client-was-down y c t h = found (numbered y.clients c) refl h
  where
    down : (k : ExactClient) → numbered y.clients c ≡ Some k → (p : ExactClientPhase) → k.phase ≡ p → finishes y (with_client_at y c) (client_rises_in Old k p) ≡ Ok t → (j : ExactClient) × (numbered y.clients c ≡ Some j) × (j.phase ≡ client.Down)
    down k was client.Down is q = (k, was, is)
    down k was client.Idle is q = absurd (let z : Err fault.Up ≡ Ok t = q in cc)
    down k was (client.Chosen ticket place) is q = absurd (let z : Err fault.Up ≡ Ok t = q in cc)
    down k was (client.Asking p) is q = absurd (let z : Err fault.Up ≡ Ok t = q in cc)
    down k was (client.Inside p) is q = absurd (let z : Err fault.Up ≡ Ok t = q in cc)

    found : (o : Option ExactClient) → numbered y.clients c ≡ o → by_actor y (with_client_at y c) o (λ j. client_rises_in Old j j.phase) ≡ Ok t → (j : ExactClient) × (numbered y.clients c ≡ Some j) × (j.phase ≡ client.Down)
    found None was q = absurd (let z : Err fault.UnknownActor ≡ Ok t = q in cc)
    found (Some k) was q = down k was k.phase refl q

node-was-down : (y : ExactWorld) (n : ℕ) (t : Stepped) → step y (event.Rise (actor.Node n) Old) ≡ Ok t → (v : ExactNode) × (numbered y.nodes n ≡ Some v) × (v.phase ≡ node.Down)
unfolding step
node-was-down y n t h = found (numbered y.nodes n) refl h
  where
    down : (v : ExactNode) → numbered y.nodes n ≡ Some v → (p : ExactNodePhase) → v.phase ≡ p → finishes y (with_node_at y n) (node_rises_in Old v p) ≡ Ok t → (w : ExactNode) × (numbered y.nodes n ≡ Some w) × (w.phase ≡ node.Down)
    down v was node.Down is q = (v, was, is)
    down v was node.Idle is q = absurd (let z : Err fault.Up ≡ Ok t = q in cc)
    down v was (node.Decided st replies) is q = absurd (let z : Err fault.Up ≡ Ok t = q in cc)
    down v was (node.Stored replies) is q = absurd (let z : Err fault.Up ≡ Ok t = q in cc)

    found : (o : Option ExactNode) → numbered y.nodes n ≡ o → by_actor y (with_node_at y n) o (λ j. node_rises_in Old j j.phase) ≡ Ok t → (w : ExactNode) × (numbered y.nodes n ≡ Some w) × (w.phase ≡ node.Down)
    found None was q = absurd (let z : Err fault.UnknownActor ≡ Ok t = q in cc)
    found (Some v) was q = down v was v.phase refl q

one-risen : ModelLaws → (a : Want) (y : ExactWorld) (who : Actor) (t : Stepped) → IsSound y → step y (event.Rise who Old) ≡ Ok t → Risen a y t.world
one-risen laws a y (actor.Client c) t sound h =
    let k = client-was-down y c t h in
    let it : Stepped = record { world = with_client_at y c (record { kept = k.0.kept; tried = None; phase = client.Idle }); effect = effect.Up } in
    let q : Ok it ≡ Ok t = sym (client-rises-step y c k.0 k.1 k.2) ∙ h in
    let same : it ≡ t = cc in
    subst (λ (s : Stepped). Risen a y s.world) same (client-risen laws a y c k.0 sound k.1 k.2).0
one-risen laws a y (actor.Node n) t sound h =
    let v = node-was-down y n t h in
    let it : Stepped = record { world = with_node_at y n (record { kept = v.0.kept; tried = None; phase = node.Idle }); effect = effect.Up } in
    let q : Ok it ≡ Ok t = sym (node-rises-step y n v.0 v.1 v.2) ∙ h in
    let same : it ≡ t = cc in
    subst (λ (s : Stepped). Risen a y s.world) same (node-risen laws a y n v.0 sound v.1 v.2).0

pub rises-risen : ModelLaws → (a : Want) (es : List Event) (y z : ExactWorld) → IsSound y → HasRun y es z → AreRises es → Risen a y z
rises-risen laws a [] y z sound run rises = subst (Risen a y) (ap (λ (r : Ran). r.world) run) (none-risen a y sound)
rises-risen laws a (e ∷ es) y z sound run rises = go (step y e) refl run (λ t ok rest. rises-risen laws a es t z ok rest (λ b m. rises b (inr m)))
  where
    go : (s : Steps) → step y e ≡ s → ran_on y s (λ v. ran es v) ≡ record { taken = suc (length es); world = z; refused = None } → ((t : ExactWorld) → IsSound t → HasRun t es z → Risen a t z) → Risen a y z
    go (Err g) is q more = absurd (let w : Some g ≡ None = ap (λ (r : Ran). r.refused) q in cc)
    go (Ok t) is q more =
        let all : (ran es t.world).taken ≡ length es = (let k : (ran es t.world).taken + 1 ≡ suc (length es) = ap (λ (r : Ran). r.taken) q in omega (arith, k)) in
        let rest : HasRun t.world es z = λ i. record { taken = all i; world = ap (λ (r : Ran). r.world) q i; refused = ap (λ (r : Ran). r.refused) q i } in
        let rise = rises e (inl refl) in
        let first = one-risen laws a y rise.0 t sound (ap (step y) (sym rise.1) ∙ is) in
        risen-on a y t.world z first (more t.world first.sound rest)

-- All nodes have at least the load of some.
load-every : (chosen : ℕ → Bool) (a : Want) (x : ExactWorld) → load chosen a x ≤ load (every_node (setting_of x)) a x
load-every chosen a x = sums (node_numbers (setting_of x)) (λ n m. known-every (setting_of x) n (numbers-among (setting_of x) n m))
  where
    at : ℕ → ℕ
    at n = load_at (setting_of x) a (numbered x.nodes n)

    one : (b c : Bool) (k : ℕ) → c ≡ true → (if b then k else 0) ≤ (if c then k else 0)
    one true c k h = subst (λ d. k ≤ (if d then k else 0)) (sym h) (omega arith)
    one false c k h = omega arith

    sums : (ns : List ℕ) → ((n : ℕ) → Among n ns → every_node (setting_of x) n ≡ true) → total_over (λ n. if chosen n then at n else 0) ns ≤ total_over (λ n. if every_node (setting_of x) n then at n else 0) ns
    sums [] all = omega arith
    sums (n ∷ ns) all = let here = one (chosen n) (every_node (setting_of x) n) (at n) (all n (inl refl)) in let rest = sums ns (λ k m. all k (inr m)) in omega (arith, here, rest)

-- The client comes up in just one way.
pub came-run : ModelLaws → (x : ExactWorld) (a : Want) (y : ExactWorld) → IsSound x → HasClient (setting_of x) a.client → HasAttempt (forget x) a → HasRun x (coming_up a ((forget x).clients a.client).phase) y →
    CameUp a x (coming_up a ((forget x).clients a.client).phase) y
came-run laws x a y sound known attempt run =
    let k = numbered-there x.clients a.client known.0 known.1 in
    let is : ((forget x).clients a.client).phase ≡ client_phase_of k.0.phase = ap (λ o. (client_numbered o).phase) k.1 in
    let left : k.0.kept < MAX_ATTEMPT ⊎ HasBegun a (client_phase_of k.0.phase) = subst (λ (j : Client). (j.kept < MAX_ATTEMPT) ⊎ HasBegun a j.phase) (ap client_numbered k.1) attempt in
    let up = came-up laws a x sound k.0 k.1 left in
    let there : CameUp a x (coming_up a ((forget x).clients a.client).phase) up.0 = subst (λ p. CameUp a x (coming_up a p) up.0) (sym is) up.1 in
    subst (CameUp a x (coming_up a ((forget x).clients a.client).phase)) (ap (λ (r : Ran). r.world) (sym there.run ∙ run)) there

-- and is never refused it
pub came-free : ModelLaws → (x : ExactWorld) (a : Want) → IsSound x → HasClient (setting_of x) a.client → HasAttempt (forget x) a → (ran (coming_up a ((forget x).clients a.client).phase) x).refused ≡ None
came-free laws x a sound known attempt =
    let k = numbered-there x.clients a.client known.0 known.1 in
    let is : ((forget x).clients a.client).phase ≡ client_phase_of k.0.phase = ap (λ o. (client_numbered o).phase) k.1 in
    let left : k.0.kept < MAX_ATTEMPT ⊎ HasBegun a (client_phase_of k.0.phase) = subst (λ (j : Client). (j.kept < MAX_ATTEMPT) ⊎ HasBegun a j.phase) (ap client_numbered k.1) attempt in
    let up = came-up laws a x sound k.0 k.1 left in
    ap (λ p. (ran (coming_up a p) x).refused) is ∙ ap (λ (r : Ran). r.refused) up.1.run

-- What is answered where the nodes that can be won are enough.

module _ (laws : ModelLaws) (x : ExactWorld) (a : Want) (sound : IsSound x) (possible : IsPossible (setting_of x) a) (attempt : HasAttempt (forget x) a) (y : ExactWorld)
    (came : HasRun x (coming_up a ((forget x).clients a.client).phase) y) where
  abbrev first : List Event
  first = coming_up a ((forget x).clients a.client).phase

  abbrev won : ℕ → Bool
  won = can_be_won (setting_of x) a (forget x)

  abbrev every : ℕ → Bool
  every = every_node (setting_of x)

  gentle-out : IsEnough (ballot_at x.ballots a.place) a.mode won → OnTheWay (is_chosen_below ((forget x).clients a.client).phase) won a (length x.sent + load won a x) x first y
  gentle-out enough = sets-out a x first y sound possible enough (came-run laws x a y sound possible.client attempt came)

  pub out-gently : IsEnough (ballot_at x.ballots a.place) a.mode won → SetsOut won a y
  out-gently enough = out-won a x first y sound possible enough (came-run laws x a y sound possible.client attempt came)

  pub leads-gently : IsEnough (ballot_at x.ballots a.place) a.mode won → (es : List Event) (z : ExactWorld) → Follows won a y es z → next_move (setting_of z) won a (forget z) ≡ None →
      LeadsIn x a (first ++ es) × (IsChosenBelow ((forget x).clients a.client).phase → (e : Event) → Among e (first ++ es) → IsOwnOrGentle x a e)
  leads-gently enough es z follows none =
      let way = followed laws (is_chosen_below ((forget x).clients a.client).phase) won a (length x.sent + load won a x) x first y es z (gentle-out enough) follows in
      (leads-in x a (first ++ es) z way.run (inside-then (is_chosen_below ((forget x).clients a.client).phase) won a (length x.sent + load won a x) x (first ++ es) z way none), λ below. way.such (below-chosen ((forget x).clients a.client).phase below))

  pub stops-gently : IsEnough (ballot_at x.ballots a.place) a.mode won → (f : StepFault) → StopsAt won a y f → (f ≡ fault.SentListFull) × ¬ (HasRoomFor every a x)
  stops-gently enough f stops =
      let s = stopped laws (is_chosen_below ((forget x).clients a.client).phase) won a (length x.sent + load won a x) x first y f (gentle-out enough) stops in
      (s.0, λ room. (let less = load-every won a x in let z : ⊥ = omega (arith, s.1, less, room) in z))

  -- and where all have to rise
  module _ (rs : List Event) (u : ExactWorld) (rose : HasRun y rs u) (rises : AreRises rs) (up : (who : Actor) → HasActor (setting_of x) who → IsUp (forget u) who) where
    risen-out : OnTheWay false every a (length x.sent + load every a x) x (first ++ rs) u
    risen-out =
        let c = came-run laws x a y sound possible.client attempt came in
        sets-out-risen a x first y u possible sound.crosses c (rises-risen laws a rs y u c.sound rose rises) up rs (run-join x first y rs u came rose)

    pub out-raised : SetsOut every a u
    out-raised =
        let c = came-run laws x a y sound possible.client attempt came in
        out-risen a x first y u possible sound.crosses c (rises-risen laws a rs y u c.sound rose rises) up

    pub leads-risen : (es : List Event) (z : ExactWorld) → Follows every a u es z → next_move (setting_of z) every a (forget z) ≡ None → LeadsIn x a ((first ++ rs) ++ es)
    leads-risen es z follows none =
        let way = followed laws false every a (length x.sent + load every a x) x (first ++ rs) u es z risen-out follows in
        leads-in x a ((first ++ rs) ++ es) z way.run (inside-then false every a (length x.sent + load every a x) x ((first ++ rs) ++ es) z way none)

    pub stops-risen : (f : StepFault) → StopsAt every a u f → (f ≡ fault.SentListFull) × ¬ (HasRoomFor every a x)
    stops-risen f stops =
        let s = stopped laws false every a (length x.sent + load every a x) x (first ++ rs) u f risen-out stops in
        (s.0, λ room. (let z : ⊥ = omega (arith, s.1, room) in z))
