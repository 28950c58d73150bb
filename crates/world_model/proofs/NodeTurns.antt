-- What a node's turns are told to be.
use Rattle.std.proofs.Common.{◌≡◌, ◌≢◌, ℕ, Bool, true, false, not, cond, List, length, Option, Some, None, refl, sym, ◌∙◌, ap, subst, inl, inr}
use Rattle.lock_messages.specs.declared.ids.Actor.TheVariants as actor
use Rattle.lock_messages.specs.declared.messages.Message.{Message}
use Rattle.lock_messages.specs.Messages.{is_for_node}
use Rattle.lock_model.specs.declared.problems.Problem.{Problem}
use Rattle.lock_model.specs.declared.entries.Entry.{Entry}
use Rattle.lock_model.specs.Stations.{IsCaused}
use Rattle.lock_model.specs.Decisions.{Decides, IsSwitched}
use Rattle.lock_model.specs.ExactStations.{meaning}
use Rattle.lock_model.specs.ExactDecisions.{Outcome, decision, changes, switches, same_problem}
use Rattle.lock_model.specs.Laws.{IsAllowed, ExactDecisionIsAllowed, StayingIsSeen, IsAllowedSwitch, ExactSwitchIsAllowed, SwitchToTheSame, ProblemsAreCompared}
use Rattle.world_model.specs.declared.events.Age.{Age}
use Rattle.world_model.specs.declared.events.Age.TheVariants.{Old, New}
use Rattle.world_model.specs.declared.events.Effect.{Effect}
use Rattle.world_model.specs.declared.events.Effect.TheVariants as effect
use Rattle.world_model.specs.declared.events.Event.{Event}
use Rattle.world_model.specs.declared.events.Event.TheVariants as event
use Rattle.world_model.specs.declared.exact.ExactStation.{ExactStation}
use Rattle.world_model.specs.declared.exact.ExactNode.{ExactNode}
use Rattle.world_model.specs.declared.exact.ExactNodePhase.{ExactNodePhase}
use Rattle.world_model.specs.declared.exact.ExactNodePhase.TheVariants as exact
use Rattle.world_model.specs.declared.exact.ExactWorld.{ExactWorld}
use Rattle.world_model.specs.Worlds.{Node, NodeDown, NodeIdle, Decided, Stored, World, Setting, OfNode, ByNode, Happens, TriesStation, tries_station, KeepsStation, keeps_station, says, Takes, takes, takes_same, NodeFalls, node_falls, NodeRises, node_rises_old, node_rises_new, Switches, switches_to, switches_same}
use Rattle.world_model.specs.Turns.{Turns, acts}
use Rattle.world_model.specs.ExactNodes.{node_in, tries_station_with, tries_station_in, keeps_station_with, keeps_station_in, says_in, decided_on, takes_in, node_falls_in, node_rises_with, node_rises_in, is_another, switched_to, switches_in}
use Rattle.world_model.specs.Forgetting.{station_of, node_phase_of, node_of, IsSoundNode}
use Rattle.world_model.specs.Laws.{IsNumbered}
use Rattle.world_model.specs.Locality.{IsEffectOf, IsAsListed}
use Rattle.world_model.proofs.Told.{Kind, Told}
use Rattle.world_model.proofs.RoomFacts.{fits-all}

-- nodes of this number, in this setting
abbrev pub nodes : Setting → ℕ → Kind ExactNode
nodes s n = record { Changes = λ w before after says v. OfNode s n w (node_of before) (node_of after) says v; Sound = IsSoundNode }

abbrev pub NodeTold : Setting → Event → ℕ → ExactNode → Turns ExactNode → Type 0
NodeTold s e n v turns = Told ExactNode (nodes s n) s e v turns

-- a node that does something by itself, by a relation
acting : (s : Setting) (e : Event) (n : ℕ) (R : Node → Node → Type 0) → ((w v : World) → ByNode s w v n R → Happens s w e v) → (v a : ExactNode) (done : Effect) →
    R (node_of v) (node_of a) → (IsSoundNode v → IsSoundNode a) → IsEffectOf e done → ((w : ExactWorld) → IsNumbered w done) → ((w : ExactWorld) → IsAsListed w e done) → NodeTold s e n v (acts a done)
acting s e n R up v a done does sound kind numbers listed =
    record { happens = λ ok w u of. up w u (node_of v, node_of a, does, of); sound = sound; kind = kind; numbers = numbers; listed = listed }

-- Try

pub tries-station-told : (s : Setting) (n : ℕ) (v : ExactNode) → NodeTold s (event.Try (actor.Node n)) n v (tries_station_in v v.phase)
tries-station-told s n v = go v.phase
  where
    decided : (u : ExactStation) (replies : List Message) (o : Option ExactStation) →
        NodeTold s (event.Try (actor.Node n)) n (record { kept = v.kept; tried = o; phase = exact.Decided u replies }) (tries_station_with (record { kept = v.kept; tried = o; phase = exact.Decided u replies }) u o)
    decided u replies None =
        acting s (event.Try (actor.Node n)) n TriesStation (λ w v h. h) (record { kept = v.kept; tried = None; phase = exact.Decided u replies }) (record { kept = v.kept; tried = Some u; phase = exact.Decided u replies }) effect.Tried
        (tries_station (station_of v.kept) (station_of u) replies) (λ ok. record { kept = ok.kept; tried = ok.decided; decided = ok.decided }) refl (λ w. tt) (λ w. tt)
    decided u replies (Some t) = refl

    go : (p : ExactNodePhase) → NodeTold s (event.Try (actor.Node n)) n (node_in v p) (tries_station_in (node_in v p) p)
    go exact.Down = refl
    go exact.Idle = refl
    go (exact.Decided u replies) = decided u replies v.tried
    go (exact.Stored replies) = refl

-- Kept

pub keeps-station-told : (s : Setting) (n : ℕ) (v : ExactNode) → NodeTold s (event.Kept (actor.Node n)) n v (keeps_station_in v v.phase)
keeps-station-told s n v = go v.phase
  where
    decided : (u : ExactStation) (replies : List Message) (o : Option ExactStation) →
        NodeTold s (event.Kept (actor.Node n)) n (record { kept = v.kept; tried = o; phase = exact.Decided u replies }) (keeps_station_with replies o)
    decided u replies None = refl
    decided u replies (Some t) =
        acting s (event.Kept (actor.Node n)) n KeepsStation (λ w v h. h) (record { kept = v.kept; tried = Some t; phase = exact.Decided u replies }) (record { kept = t; tried = None; phase = exact.Stored replies }) effect.Kept
        (keeps_station (station_of v.kept) (station_of t) (station_of u) replies) (λ ok. record { kept = ok.tried; tried = tt; decided = tt }) refl (λ w. tt) (λ w. tt)

    go : (p : ExactNodePhase) → NodeTold s (event.Kept (actor.Node n)) n (node_in v p) (keeps_station_in (node_in v p) p)
    go exact.Down = refl
    go exact.Idle = refl
    go (exact.Decided u replies) = decided u replies v.tried
    go (exact.Stored replies) = refl

-- Say

pub says-told : (s : Setting) (n : ℕ) (v : ExactNode) → NodeTold s (event.Say n) n v (says_in v v.phase)
says-told s n v = go v.phase
  where
    go : (p : ExactNodePhase) → NodeTold s (event.Say n) n (node_in v p) (says_in (node_in v p) p)
    go exact.Down = refl
    go exact.Idle = refl
    go (exact.Decided u replies) = refl
    go (exact.Stored replies) =
        record {
          happens = λ ok w u of. (node_of (node_in v (exact.Stored replies)), node_of (node_in v exact.Idle), replies, says (station_of v.kept) (node_of v).tried replies, of);
          sound = λ ok. record { kept = ok.kept; tried = ok.tried; decided = tt };
          kind = λ first. (first, length replies, refl);
          numbers = λ w room. (refl, λ some. fits-all w replies room some);
          listed = λ w first. tt;
          full = refl;
        }

-- Take

-- the laws of deciding, as they are used here
pub record DecisionLaws : Type 1 where
  pub allowed : ExactDecisionIsAllowed
  pub seen : StayingIsSeen

-- a decision is one that the node may take, and leaves it sound
pub record DecidesSo (v : ExactNode) (m : Message) (after : ExactNode) : Type 0 where
  pub does : Takes m (node_of v) (node_of after)
  sound : IsSoundNode after

pub decides-so : DecisionLaws → (n : ℕ) (m : Message) (v : ExactNode) → is_for_node m n ≡ true → IsSoundNode (node_in v exact.Idle) → DecidesSo (node_in v exact.Idle) m (decided_on (node_in v exact.Idle) m)
decides-so laws n m v mine ok = go (changes v.kept.problem v.kept.entries m) refl
  where
    before : ExactNode
    before = node_in v exact.Idle

    p : Problem
    p = v.kept.problem

    after : List Entry
    after = (decision p v.kept.entries m).entries

    replies : List Message
    replies = (decision p v.kept.entries m).replies

    is : IsAllowed p v.kept.entries m
    is = laws.allowed p v.kept.entries m n mine ok.kept.well_formed ok.kept.lawful ok.kept.caused

    go : (b : Bool) → changes p v.kept.entries m ≡ b → DecidesSo before m (cond b (node_in before (exact.Decided (record { problem = p; entries = after }) replies)) (node_in before (exact.Stored replies)))
    go true e = record {
      does = takes (station_of v.kept) (meaning p after) (node_of v).tried replies is.decides;
      sound = record { kept = ok.kept; tried = ok.tried; decided = record { well_formed = is.well_formed; lawful = is.lawful; caused = is.caused } };
    }
    go false e =
        let same : after ≡ v.kept.entries = (laws.seen p v.kept.entries m).0 e in
        record {
          does = takes_same (station_of v.kept) (node_of v).tried replies (subst (λ entries. Decides (station_of v.kept) m (meaning p entries) replies) same is.decides);
          sound = record { kept = ok.kept; tried = ok.tried; decided = tt };
        }

pub takes-told : DecisionLaws → (s : Setting) (n number : ℕ) (v : ExactNode) → NodeTold s (event.Take n number) n v (takes_in n number v v.phase)
takes-told laws s n number v = go v.phase
  where
    go : (p : ExactNodePhase) → NodeTold s (event.Take n number) n (node_in v p) (takes_in n number (node_in v p) p)
    go exact.Down = refl
    go exact.Idle =
        record {
          happens = λ m mine ok w u there of.
              (m, there, mine, (node_of (node_in v exact.Idle), node_of (decided_on (node_in v exact.Idle) m), (decides-so laws n m v mine ok).does, of));
          sound = λ m mine ok. (decides-so laws n m v mine ok).sound;
          kind = λ m mine. (m, changes v.kept.problem v.kept.entries m, mine, refl);
          numbers = λ w m. tt;
          listed = λ w m h. sym h;
          carries = λ m. refl;
          no_such = inl refl;
          not_mine = inr refl;
        }
    go (exact.Decided u replies) = refl
    go (exact.Stored replies) = refl

-- Fall, and Rise

pub node-falls-told : (s : Setting) (n : ℕ) (v : ExactNode) → NodeTold s (event.Fall (actor.Node n)) n v (node_falls_in v v.phase)
node-falls-told s n v = go v.phase
  where
    up : (p : ExactNodePhase) → node_phase_of p ≢ NodeDown → NodeTold s (event.Fall (actor.Node n)) n (node_in v p) (acts (node_in v exact.Down) effect.Down)
    up p apart =
        acting s (event.Fall (actor.Node n)) n NodeFalls (λ w v h. h) (node_in v p) (node_in v exact.Down) effect.Down
        (node_falls (station_of v.kept) (node_of v).tried (node_phase_of p) apart) (λ ok. record { kept = ok.kept; tried = ok.tried; decided = tt }) refl (λ w. tt) (λ w. tt)

    go : (p : ExactNodePhase) → NodeTold s (event.Fall (actor.Node n)) n (node_in v p) (node_falls_in (node_in v p) p)
    go exact.Down = refl
    go exact.Idle = up exact.Idle (λ e. let q : NodeIdle ≡ NodeDown = e in cc)
    go (exact.Decided u replies) = up (exact.Decided u replies) (λ e. let q : Decided (station_of u) replies ≡ NodeDown = e in cc)
    go (exact.Stored replies) = up (exact.Stored replies) (λ e. let q : Stored replies ≡ NodeDown = e in cc)

pub node-rises-told : (s : Setting) (n : ℕ) (age : Age) (v : ExactNode) → NodeTold s (event.Rise (actor.Node n) age) n v (node_rises_in age v v.phase)
node-rises-told s n age v = go v.phase
  where
    down : (a : Age) (o : Option ExactStation) → NodeTold s (event.Rise (actor.Node n) a) n (record { kept = v.kept; tried = o; phase = exact.Down }) (node_rises_with a v.kept o)
    down Old o =
        acting s (event.Rise (actor.Node n) Old) n (NodeRises Old) (λ w v h. h) (record { kept = v.kept; tried = o; phase = exact.Down }) (record { kept = v.kept; tried = None; phase = exact.Idle }) effect.Up
        (node_rises_old (station_of v.kept) (node_of (record { kept = v.kept; tried = o; phase = exact.Down })).tried) (λ ok. record { kept = ok.kept; tried = tt; decided = tt }) refl (λ w. tt) (λ w. tt)
    down New None = refl
    down New (Some t) =
        acting s (event.Rise (actor.Node n) New) n (NodeRises New) (λ w v h. h) (record { kept = v.kept; tried = Some t; phase = exact.Down }) (record { kept = t; tried = None; phase = exact.Idle }) effect.Up
        (node_rises_new (station_of v.kept) (station_of t)) (λ ok. record { kept = ok.tried; tried = tt; decided = tt }) refl (λ w. tt) (λ w. tt)

    go : (p : ExactNodePhase) → NodeTold s (event.Rise (actor.Node n) age) n (node_in v p) (node_rises_in age (node_in v p) p)
    go exact.Down = down age v.tried
    go exact.Idle = refl
    go (exact.Decided u replies) = refl
    go (exact.Stored replies) = refl

-- Switch

-- the laws of switching, as they are used here
pub record SwitchLaws : Type 1 where
  pub allowed : ExactSwitchIsAllowed
  pub same : SwitchToTheSame
  pub compared : ProblemsAreCompared

-- a switch is one that the node may take, and leaves it sound
record SwitchesSo (n : ℕ) (p : Problem) (v after : ExactNode) : Type 0 where
  does : Switches n p (node_of v) (node_of after)
  sound : IsSoundNode after

switches-so : SwitchLaws → (n : ℕ) (p : Problem) (v : ExactNode) → IsSoundNode (node_in v exact.Idle) → SwitchesSo n p (node_in v exact.Idle) (switched_to n p (node_in v exact.Idle))
switches-so laws n p v ok = go (same_problem v.kept.problem p) refl
  where
    before : ExactNode
    before = node_in v exact.Idle

    after : List Entry
    after = (switches n p v.kept.entries).entries

    replies : List Message
    replies = (switches n p v.kept.entries).replies

    is : IsAllowedSwitch v.kept.problem p v.kept.entries n
    is = laws.allowed v.kept.problem p v.kept.entries n ok.kept.well_formed ok.kept.lawful

    go : (b : Bool) → same_problem v.kept.problem p ≡ b → SwitchesSo n p before (cond (not b) (node_in before (exact.Decided (record { problem = p; entries = after }) replies)) (node_in before (exact.Stored replies)))
    go true e =
        let same : v.kept.problem ≡ p = (laws.compared v.kept.problem p).0 e in
        let stays : after ≡ v.kept.entries =
        ap (λ (o : Outcome). o.entries) (laws.same p v.kept.entries n ok.kept.well_formed (subst (λ q. IsCaused (meaning q v.kept.entries)) same ok.kept.caused)) in
        record {
          does = switches_same (station_of v.kept) (node_of v).tried replies same
              (subst (λ q. IsSwitched n (station_of v.kept) p (meaning q v.kept.entries) replies) (sym same) (subst (λ entries. IsSwitched n (station_of v.kept) p (meaning p entries) replies) stays is.switched));
          sound = record { kept = ok.kept; tried = ok.tried; decided = tt };
        }
    go false e =
        let apart : v.kept.problem ≢ p = λ q. let z : false ≡ true = sym e ∙ (laws.compared v.kept.problem p).1 q in cc in
        record {
          does = switches_to (station_of v.kept) (meaning p after) (node_of v).tried replies apart is.switched;
          sound = record { kept = ok.kept; tried = ok.tried; decided = record { well_formed = is.well_formed; lawful = is.lawful; caused = is.caused } };
        }

pub switches-told : SwitchLaws → (s : Setting) (n : ℕ) (p : Problem) (v : ExactNode) → NodeTold s (event.Switch n p) n v (switches_in n p v v.phase)
switches-told laws s n p v = go v.phase
  where
    go : (phase : ExactNodePhase) → NodeTold s (event.Switch n p) n (node_in v phase) (switches_in n p (node_in v phase) phase)
    go exact.Down = refl
    go exact.Idle =
        record {
          happens = λ ok w u of. (node_of (node_in v exact.Idle), node_of (switched_to n p (node_in v exact.Idle)), (switches-so laws n p v ok).does, of);
          sound = λ ok. (switches-so laws n p v ok).sound;
          kind = (is_another p v, refl);
          numbers = λ w. tt;
          listed = λ w. tt;
        }
    go (exact.Decided u replies) = refl
    go (exact.Stored replies) = refl
