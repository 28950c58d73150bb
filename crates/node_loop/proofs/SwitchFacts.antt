-- A node that has taken another problem, or the one that it has.
use Rattle.std.proofs.Common.{◌≡◌, ℕ, Bool, true, false, not, cond, List, [], ◌∷◌, None, refl, sym, ap, ◌∙◌, subst}
use Rattle.lock_messages.specs.declared.ids.Actor.TheVariants as actor
use Rattle.lock_model.specs.declared.problems.Problem.{Problem}
use Rattle.lock_model.specs.Stations.{IsCaused}
use Rattle.lock_model.specs.ExactStations.{meaning}
use Rattle.lock_model.specs.ExactDecisions.{Outcome, switches, same_problem}
use Rattle.lock_model.specs.Laws.{SwitchToTheSame, ProblemsAreCompared}
use Rattle.stable_record.specs.declared.node_records.NodeRecord.{NodeRecord}
use Rattle.stable_record.specs.Records.{IsNodeRecord, node_record_of}
use Rattle.voter_core.specs.Voters.{Voter, record_of, state_after, switched}
use Rattle.world_model.specs.declared.events.Effect.TheVariants as effect
use Rattle.world_model.specs.declared.events.Event.TheVariants as event
use Rattle.world_model.specs.declared.exact.ExactNode.{ExactNode}
use Rattle.world_model.specs.declared.exact.ExactNodePhase.{ExactNodePhase}
use Rattle.world_model.specs.declared.exact.ExactNodePhase.TheVariants as node
use Rattle.world_model.specs.Parts.{NodePart, after_own}
use Rattle.world_actors.specs.Nodes.{station_in}
use Rattle.event_recorders.specs.OwnLogs.{OwnLog, part_now, IsAdded}
use Rattle.node_loop.specs.Standing.{StandsIdle, HasTaken, HasSwitched}

-- what the node has kept before, with nothing tried, about this
abbrev about : NodeRecord → ExactNodePhase → ExactNode
about r phase = record { kept = station_in r; tried = None; phase = phase }

module _ (l l' : OwnLog) (core : Voter) (p : Problem) (told : Bool) (strings : List (List ℕ)) (stuck : Bool) (s : StandsIdle l core strings stuck) (added : IsAdded l (event.Switch core.node p) (effect.Switched told) l') where
  abbrev o : Outcome
  o = switches core.node p core.entries

  abbrev after : NodeRecord
  after = record { problem = p; entries = o.entries }

  owner : l'.actor ≡ actor.Node core.node
  owner = ap (λ (x : OwnLog). x.actor) added.log ∙ s.actor

  part : (b : Bool) → same_problem core.problem p ≡ b → part_now l' ≡ NodePart (cond (not b) (about (record_of core) (node.Decided (station_in after) o.replies)) (about (record_of core) (node.Stored o.replies)))
  part b e =
      added.part ∙ ap (after_own l.ballots (event.Switch core.node p) (effect.Switched told)) s.part
      ∙ ap (λ x. NodePart (cond (not x) (about (record_of core) (node.Decided (station_in after) o.replies)) (about (record_of core) (node.Stored o.replies)))) e

  is_so : (b : Bool) → same_problem core.problem p ≡ b → switched core p ≡ record { node = core.node; problem = p; entries = o.entries; state = state_after (not b) o.replies }
  is_so b e = ap (λ x. record { node = core.node; problem = p; entries = o.entries; state = state_after (not x) o.replies }) e

  another : same_problem core.problem p ≡ false → HasTaken true l' (switched core p) (record_of core) strings stuck
  another e = subst (λ (v : Voter). HasTaken true l' v (record_of core) strings stuck) (sym (is_so false e))
      (record { actor = owner; state = refl; part = part false e; good = s.good; finds = s.finds; ready = s.ready })

  still : SwitchToTheSame → ProblemsAreCompared → same_problem core.problem p ≡ true → after ≡ record_of core
  still same compared e =
      let is : core.problem ≡ p = (compared core.problem p).0 e in
      let nothing : o ≡ record { entries = core.entries; replies = [] } = same p core.entries core.node s.good.well_formed (subst (λ q. IsCaused (meaning q core.entries)) is s.good.caused) in
      ap (λ (u : Outcome). record { problem = p; entries = u.entries }) nothing ∙ ap (λ q. record { problem = q; entries = core.entries }) (sym is)

  the_same : SwitchToTheSame → ProblemsAreCompared → same_problem core.problem p ≡ true → HasTaken false l' (switched core p) (record_of core) strings stuck
  the_same same compared e =
      let now : after ≡ record_of core = still same compared e in
      subst (λ (v : Voter). HasTaken false l' v (record_of core) strings stuck) (sym (is_so true e)) (record {
        actor = owner;
        state = refl;
        part = part true e ∙ ap (λ r. NodePart (about r (node.Stored o.replies))) (sym now);
        good = subst IsNodeRecord (sym now) s.good;
        finds = s.finds ∙ ap (λ r. node_record_of r ∷ []) (sym now);
        ready = s.ready;
      })

  taken : SwitchToTheSame → ProblemsAreCompared → (b : Bool) → same_problem core.problem p ≡ b → HasTaken (not b) l' (switched core p) (record_of core) strings stuck
  taken same compared false e = another e
  taken same compared true e = the_same same compared e

-- the core that took the problem stands as its log tells
pub switched_stands : SwitchToTheSame → ProblemsAreCompared → (l l' : OwnLog) (core new : Voter) (n : ℕ) (p : Problem) (told changed : Bool) (strings : List (List ℕ)) (stuck : Bool) → StandsIdle l core strings stuck → n ≡ core.node →
    IsAdded l (event.Switch n p) (effect.Switched told) l' → new ≡ switched core p → changed ≡ not (same_problem core.problem p) → HasSwitched p changed l l' new (record_of core) strings stuck
switched_stands same compared l l' core new n p told changed strings stuck s number added is answer =
    let logged : IsAdded l (event.Switch core.node p) (effect.Switched told) l' = subst (λ k. IsAdded l (event.Switch k p) (effect.Switched told) l') number added in
    subst (λ (v : Voter). HasSwitched p changed l l' v (record_of core) strings stuck) (sym is) (record {
      logged = (told, logged);
      taken = subst (λ b. HasTaken b l' (switched core p) (record_of core) strings stuck) (sym answer)
          (taken l l' core p told strings stuck s logged same compared (same_problem core.problem p) refl);
    })
