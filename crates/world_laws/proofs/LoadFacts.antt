-- In a reachable world a way in says no more than its nodes and clients allow.
use Rattle.std.proofs.Common.{◌≡◌, ◌≢◌, ℕ, ◌+◌, ◌*◌, ◌≤◌, ◌⊎◌, Bool, true, false, cond, List, [], ◌∷◌, length, map, Option, None, Some, refl, sym, ◌∙◌, ap, subst, inl, inr, arith}
use Rattle.std.specs.Option.{option_map}
use Rattle.std.proofs.lemmas.Bool.{cases_eq}
use Rattle.std.proofs.lemmas.Nat.{mul-le}
use Rattle.std.proofs.lemmas.List.FromFn.{length-range_with_len}
use Rattle.lock_messages.specs.declared.ids.Actor.{Actor}
use Rattle.lock_messages.specs.declared.ids.Actor.TheVariants as actor
use Rattle.lock_messages.specs.declared.messages.Message.{Message}
use Rattle.lock_model.specs.Ballots.{Ballot, node_count}
use Rattle.lock_model.specs.declared.problems.Problem.{Problem}
use Rattle.lock_model.specs.ExactDecisions.{decision, changes, switches}
use Rattle.world_model.specs.declared.events.Age.{Age}
use Rattle.world_model.specs.declared.events.Age.TheVariants.{Old, New}
use Rattle.world_model.specs.declared.events.Effect.{Effect}
use Rattle.world_model.specs.declared.events.Event.{Event}
use Rattle.world_model.specs.declared.events.Event.TheVariants as event
use Rattle.world_model.specs.declared.exact.ExactStation.{ExactStation}
use Rattle.world_model.specs.declared.exact.ExactNode.{ExactNode}
use Rattle.world_model.specs.declared.exact.ExactNodePhase.{ExactNodePhase}
use Rattle.world_model.specs.declared.exact.ExactNodePhase.TheVariants as node
use Rattle.world_model.specs.declared.exact.ExactWorld.{ExactWorld}
use Rattle.world_model.specs.declared.ways.Want.{Want}
use Rattle.world_model.specs.Worlds.{IfDecided, Setting}
use Rattle.world_model.specs.Advice.{blocks, node_numbers, client_numbers}
use Rattle.world_model.specs.ExactNodes.{decided_on, takes_in, tries_station_in, tries_station_with, keeps_station_in, keeps_station_with, says_in, node_falls_in, node_rises_in, node_rises_with, is_another, switched_to, switches_in}
use Rattle.world_model.specs.ExactWays.{total_over, to_say, coming_station, waiting_count, block_load, node_load, load_at, load}
use Rattle.world_model.specs.ExactWorlds.{numbered, Deed, NodeDoes, ClientDoes, deed_of, actor_in}
use Rattle.world_model.specs.Forgetting.{station_of, node_phase_of, node_numbered, forget, setting_of, IsSoundPhase, IsSound}
use Rattle.world_model.specs.Invariants.{IsSafeStation, IsSafeNode}
use Rattle.world_model.specs.Laws.{ExactStepsAreAllowed, StepsKeepSound, ResumedIsSound}
use Rattle.world_model.specs.Locality.{StepsChangeOnePart, ChangesOne}
use Rattle.world_model.specs.Numbered.{numbered-map}
use Rattle.world_model.specs.Openings.{resumed, down_node}
use Rattle.world_model.specs.Parts.{NoPart, NodePart, node_part, part, message_of, after_reading, after_turn, after_in}
use Rattle.world_model.specs.Turns.{Turns}
use Rattle.world_laws.specs.Reaching.{LeadsTo, leads_nowhere, leads_on, IsReachable}
use Rattle.world_laws.proofs.ReachFacts.{leads}
use Rattle.world_laws.proofs.ReplyCounts.{replies-few, switch-few}
use Rattle.world_laws.proofs.WaitingFacts.{waiting-few}

-- A node of a sound world has few tickets that wait, in the station that it has kept and in the one to come.

safe-node : (w : ExactWorld) (n : ℕ) (v : ExactNode) → IsSound w → numbered w.nodes n ≡ Some v → IsSafeNode (forget w) n (node_numbered (Some v))
safe-node w n v sound is = subst (λ o. IsSafeNode (forget w) n (node_numbered o)) is (sound.safe.nodes n)

kept-few : (w : ExactWorld) (n : ℕ) (v : ExactNode) → IsSound w → numbered w.nodes n ≡ Some v → waiting_count v.kept.entries ≤ length w.clients
kept-few w n v sound is = waiting-few w n v.kept (sound.each_node n v is).kept.well_formed.once (safe-node w n v sound is).stations.kept

coming-few : (w : ExactWorld) (n : ℕ) (v : ExactNode) → IsSound w → numbered w.nodes n ≡ Some v → (p : ExactNodePhase) → v.phase ≡ p → waiting_count (coming_station v.kept p).entries ≤ length w.clients
coming-few w n v sound is node.Down at = kept-few w n v sound is
coming-few w n v sound is node.Idle at = kept-few w n v sound is
coming-few w n v sound is (node.Stored replies) at = kept-few w n v sound is
coming-few w n v sound is (node.Decided s replies) at =
    waiting-few w n s
    (subst IsSoundPhase at (sound.each_node n v is).decided).well_formed.once
    (subst (λ (q : ExactNodePhase). IfDecided (node_phase_of q) (IsSafeStation (forget w) n)) at (safe-node w n v sound is).stations.decided)

-- A turn of a node leaves few replies to say.

abbrev SaysFew : ℕ → ExactNode → Type 0
SaysFew count v = to_say v.phase ≤ count + 1

-- after the turn, whatever message was read
abbrev LeavesFew : ℕ → ExactNode → Turns ExactNode → Type 0
LeavesFew count v ts = (done : Effect) → SaysFew count (after_turn v ts done)

decided-few : (count : ℕ) (v : ExactNode) (m : Message) → waiting_count v.kept.entries ≤ count → SaysFew count (decided_on v m)
decided-few count v m few = go (changes v.kept.problem v.kept.entries m)
  where
    go : (b : Bool) → SaysFew count (cond b (record { kept = v.kept; tried = v.tried; phase = node.Decided (record { problem = v.kept.problem; entries = (decision v.kept.problem v.kept.entries m).entries }) (decision v.kept.problem v.kept.entries m).replies }) (record { kept = v.kept; tried = v.tried; phase = node.Stored (decision v.kept.problem v.kept.entries m).replies }))
    go true = omega (arith, few, replies-few v.kept.problem v.kept.entries m)
    go false = omega (arith, few, replies-few v.kept.problem v.kept.entries m)

read-few : (count : ℕ) (v : ExactNode) → waiting_count v.kept.entries ≤ count → SaysFew count v → (o : Option Message) → SaysFew count (after_reading v (decided_on v) o)
read-few count v few old None = old
read-few count v few old (Some m) = decided-few count v m few

takes-few : (count n k : ℕ) (v : ExactNode) → waiting_count v.kept.entries ≤ count → SaysFew count v → (p : ExactNodePhase) → LeavesFew count v (takes_in n k v p)
takes-few count n k v few old node.Down done = old
takes-few count n k v few old node.Idle done = read-few count v few old (message_of done)
takes-few count n k v few old (node.Decided s replies) done = old
takes-few count n k v few old (node.Stored replies) done = old

switched-few : (count n : ℕ) (p : Problem) (v : ExactNode) → waiting_count v.kept.entries ≤ count → SaysFew count (switched_to n p v)
switched-few count n p v few = go (is_another p v)
  where
    go : (b : Bool) → SaysFew count (cond b (record { kept = v.kept; tried = v.tried; phase = node.Decided (record { problem = p; entries = (switches n p v.kept.entries).entries }) (switches n p v.kept.entries).replies }) (record { kept = v.kept; tried = v.tried; phase = node.Stored (switches n p v.kept.entries).replies }))
    go true = omega (arith, few, switch-few n p v.kept.entries)
    go false = omega (arith, few, switch-few n p v.kept.entries)

switches-few : (count n : ℕ) (p : Problem) (v : ExactNode) → waiting_count v.kept.entries ≤ count → SaysFew count v → (q : ExactNodePhase) → LeavesFew count v (switches_in n p v q)
switches-few count n p v few old node.Down done = old
switches-few count n p v few old node.Idle done = switched-few count n p v few
switches-few count n p v few old (node.Decided s replies) done = old
switches-few count n p v few old (node.Stored replies) done = old

tries-few : (count : ℕ) (v : ExactNode) → SaysFew count v → (p : ExactNodePhase) → LeavesFew count v (tries_station_in v p)
tries-few count v old node.Down done = old
tries-few count v old node.Idle done = old
tries-few count v old (node.Stored replies) done = old
tries-few count v old (node.Decided s replies) done = go v.tried
  where
    go : (o : Option ExactStation) → SaysFew count (after_turn v (tries_station_with v s o) done)
    go None = old
    go (Some u) = old

keeps-few : (count : ℕ) (v : ExactNode) → SaysFew count v → (p : ExactNodePhase) → v.phase ≡ p → LeavesFew count v (keeps_station_in v p)
keeps-few count v old node.Down at done = old
keeps-few count v old node.Idle at done = old
keeps-few count v old (node.Stored replies) at done = old
keeps-few count v old (node.Decided s replies) at done = go v.tried
  where
    go : (o : Option ExactStation) → SaysFew count (after_turn v (keeps_station_with replies o) done)
    go None = old
    go (Some u) = omega (arith, old, ap to_say at)

says-few : (count : ℕ) (v : ExactNode) → SaysFew count v → (p : ExactNodePhase) → LeavesFew count v (says_in v p)
says-few count v old node.Down done = old
says-few count v old node.Idle done = old
says-few count v old (node.Decided s replies) done = old
says-few count v old (node.Stored replies) done = omega arith

falls-few : (count : ℕ) (v : ExactNode) → SaysFew count v → (p : ExactNodePhase) → LeavesFew count v (node_falls_in v p)
falls-few count v old node.Down done = old
falls-few count v old node.Idle done = omega arith
falls-few count v old (node.Decided s replies) done = omega arith
falls-few count v old (node.Stored replies) done = omega arith

rises-few : (count : ℕ) (v : ExactNode) → SaysFew count v → (age : Age) (p : ExactNodePhase) → LeavesFew count v (node_rises_in age v p)
rises-few count v old age node.Down done = go age v.tried
  where
    go : (a : Age) (o : Option ExactStation) → SaysFew count (after_turn v (node_rises_with a v.kept o) done)
    go Old o = omega arith
    go New None = old
    go New (Some s) = omega arith
rises-few count v old age node.Idle done = old
rises-few count v old age (node.Decided s replies) done = old
rises-few count v old age (node.Stored replies) done = old

-- of whatever deed
abbrev DeedFew : ℕ → Deed → Type 0
DeedFew count (NodeDoes n turn) = (v : ExactNode) → waiting_count v.kept.entries ≤ count → SaysFew count v → LeavesFew count v (turn v)
DeedFew count (ClientDoes c turn) = Unit {0}

deed-few : (count : ℕ) (e : Event) → DeedFew count (deed_of e)
deed-few count (event.Begin c m x place) = tt
deed-few count (event.Try (actor.Node n)) = λ v few old. tries-few count v old v.phase
deed-few count (event.Try (actor.Client c)) = tt
deed-few count (event.Kept (actor.Node n)) = λ v few old. keeps-few count v old v.phase refl
deed-few count (event.Kept (actor.Client c)) = tt
deed-few count (event.SayTo c n) = tt
deed-few count (event.Say n) = λ v few old. says-few count v old v.phase
deed-few count (event.Take n k) = λ v few old. takes-few count n k v few old v.phase
deed-few count (event.Hear c k) = tt
deed-few count (event.Enter c) = tt
deed-few count (event.Leave c) = tt
deed-few count (event.Soften c) = tt
deed-few count (event.Fall (actor.Node n)) = λ v few old. falls-few count v old v.phase
deed-few count (event.Fall (actor.Client c)) = tt
deed-few count (event.Rise (actor.Node n) age) = λ v few old. rises-few count v old age v.phase
deed-few count (event.Rise (actor.Client c) age) = tt
deed-few count (event.Switch n p) = λ v few old. switches-few count n p v few old v.phase

-- So in a reachable world each node has few replies to say.

abbrev EachSaysFew : ExactWorld → Type 0
EachSaysFew w = (n : ℕ) (v : ExactNode) → numbered w.nodes n ≡ Some v → SaysFew (length w.clients) v

node-part-is : (o : Option ExactNode) (v : ExactNode) → node_part o ≡ NodePart v → o ≡ Some v
node-part-is None v h = absurd (let z : NoPart ≡ NodePart v = h in cc)
node-part-is (Some u) v h = let z : NodePart u ≡ NodePart v = h in let same : u ≡ v = cc in ap Some same

part-is-node : (b : List Ballot) (n : ℕ) (turn : ExactNode → Turns ExactNode) (done : Effect) (o : Option ExactNode) (u : ExactNode) → NodePart u ≡ after_in b (NodeDoes n turn) done (node_part o) → (v : ExactNode) × (o ≡ Some v) × (u ≡ after_turn v (turn v) done)
part-is-node b n turn done None u h = absurd (let z : NodePart u ≡ NoPart = h in cc)
part-is-node b n turn done (Some v) u h = let z : NodePart u ≡ NodePart (after_turn v (turn v) done) = h in let same : u ≡ after_turn v (turn v) done = cc in (v, refl, same)

same-clients : (w v : ExactWorld) → setting_of v ≡ setting_of w → length v.clients ≡ length w.clients
same-clients w v h = ap (λ (s : Setting). s.clients) h

step-few : (w v : ExactWorld) (e : Event) (done : Effect) → IsSound w → EachSaysFew w → ChangesOne w e done v → EachSaysFew v
step-few w v e done sound old one n u is = subst (λ (c : ℕ). SaysFew c u) (sym (same-clients w v one.setting)) (go (deed_of e) (deed-few (length w.clients) e) one.own one.others)
  where
    there : part v (actor.Node n) ≡ part w (actor.Node n) → SaysFew (length w.clients) u
    there same = old n u (node-part-is (numbered w.nodes n) u (sym same ∙ ap node_part is))

    go : (d : Deed) → DeedFew (length w.clients) d → part v (actor_in d) ≡ after_in w.ballots d done (part w (actor_in d)) → ((who : Actor) → who ≢ actor_in d → part v who ≡ part w who) → SaysFew (length w.clients) u
    go (ClientDoes c turn) few own others = there (others (actor.Node n) (λ q. let z : actor.Node n ≡ actor.Client c = q in cc))
    go (NodeDoes k turn) few own others = at (cases_eq n k)
      where
        at : (n ≡ k) ⊎ (n ≢ k) → SaysFew (length w.clients) u
        at (inr apart) = there (others (actor.Node n) (λ q. apart (let z : actor.Node n ≡ actor.Node k = q in let same : n ≡ k = cc in same)))
        at (inl same) =
            let (x, was, now) = part-is-node w.ballots k turn done (numbered w.nodes k) u (sym (ap (λ m. node_part (numbered v.nodes m)) (sym same) ∙ ap node_part is) ∙ own) in
            subst (SaysFew (length w.clients)) (sym now) (few x (kept-few w k x sound was) (old k x was) done)

down-few : (stations : List ExactStation) (count n : ℕ) (v : ExactNode) → numbered (map down_node stations) n ≡ Some v → SaysFew count v
down-few stations count n v is = go (numbered stations n) (sym (numbered-map down_node stations n) ∙ is)
  where
    go : (o : Option ExactStation) → option_map down_node o ≡ Some v → SaysFew count v
    go None z = absurd (let q : None ≡ Some v = z in cc)
    go (Some s) z = let q : Some (down_node s) ≡ Some v = z in let same : down_node s ≡ v = cc in subst (SaysFew count) same (let most : 0 ≤ count + 1 = omega arith in most)

few-replies : ExactStepsAreAllowed → StepsKeepSound → StepsChangeOnePart → (x w : ExactWorld) → IsSound x → EachSaysFew x → LeadsTo x w → EachSaysFew w
few-replies allowed keep changes x _ sound first leads_nowhere = first
few-replies allowed keep changes x _ sound first (leads_on u e s l is) =
    step-few u s.world e s.effect (leads allowed keep x u sound l).sound (few-replies allowed keep changes x u sound first l) (changes u s.world e s.effect is)

-- The sum over the nodes.

total-most : (f : ℕ → ℕ) (most : ℕ) → ((n : ℕ) → f n ≤ most) → (ns : List ℕ) → total_over f ns ≤ length ns * most
total-most f most each [] = omega arith
total-most f most each (n ∷ ns) = omega (arith, each n, total-most f most each ns)

blocks-few : (s : Setting) (a : Want) (station : ExactStation) → total_over (block_load a station) (client_numbers s) ≤ s.clients * 2
blocks-few s a station = subst (λ k. total_over (block_load a station) (client_numbers s) ≤ k * 2) (length-range_with_len 1 s.clients) (total-most (block_load a station) 2 each (client_numbers s))
  where
    each : (d : ℕ) → block_load a station d ≤ 2
    each d = go (blocks a (station_of station) d)
      where
        go : (b : Bool) → cond b 2 0 ≤ 2
        go true = omega arith
        go false = omega arith

node-most : (w : ExactWorld) (a : Want) (n : ℕ) (v : ExactNode) → IsSound w → EachSaysFew w → numbered w.nodes n ≡ Some v → node_load (setting_of w) a v ≤ 4 * length w.clients + 3
node-most w a n v sound few is = omega (arith, few n v is, coming-few w n v sound is v.phase refl, blocks-few (setting_of w) a (coming_station v.kept v.phase))

at-most : (w : ExactWorld) (a : Want) (n : ℕ) → IsSound w → EachSaysFew w → load_at (setting_of w) a (numbered w.nodes n) ≤ 4 * length w.clients + 3
at-most w a n sound few = go (numbered w.nodes n) refl
  where
    go : (o : Option ExactNode) → numbered w.nodes n ≡ o → load_at (setting_of w) a o ≤ 4 * length w.clients + 3
    go None is = omega arith
    go (Some v) is = node-most w a n v sound few is

load-most : (w : ExactWorld) (chosen : ℕ → Bool) (a : Want) → IsSound w → EachSaysFew w → load chosen a w ≤ node_count w.ballots * (4 * length w.clients + 3)
load-most w chosen a sound few =
    subst (λ k. load chosen a w ≤ k * (4 * length w.clients + 3)) (length-range_with_len 1 (node_count w.ballots))
    (total-most (λ n. cond (chosen n) (load_at (setting_of w) a (numbered w.nodes n)) 0) (4 * length w.clients + 3) (λ n. one n (chosen n)) (node_numbers (setting_of w)))
  where
    one : (n : ℕ) (b : Bool) → cond b (load_at (setting_of w) a (numbered w.nodes n)) 0 ≤ 4 * length w.clients + 3
    one n true = at-most w a n sound few
    one n false = omega arith

pub load-bounded : ExactStepsAreAllowed → StepsKeepSound → StepsChangeOnePart → ResumedIsSound → (w : ExactWorld) (chosen : ℕ → Bool) (a : Want) → IsReachable w → load chosen a w ≤ node_count w.ballots * (4 * length w.clients + 3)
load-bounded allowed keep changes is_sound w chosen a h =
    let x = resumed h.ballots h.stations h.attempts in
    let sound = is_sound h.ballots h.stations h.attempts h.resumable in
    load-most w chosen a (leads allowed keep x w sound h.leads).sound
    (few-replies allowed keep changes x w sound (λ n v is. down-few h.stations (length x.clients) n v is) h.leads)

-- by numbers
pub by-number : (load nodes clients : ℕ) → load ≤ nodes * (4 * clients + 3) → nodes ≤ 16 → clients ≤ 1024 → load ≤ 65584
by-number load nodes clients h few_nodes few_clients =
    let rows : nodes * (4 * clients + 3) ≤ 16 * (4 * 1024 + 3) = mul-le nodes (4 * clients + 3) 16 (4 * 1024 + 3) few_nodes (omega (arith, few_clients)) in
    omega (arith, h, rows)
