-- A node that takes another problem, or the one that it has.
use Rattle.std.proofs.Common.{◌≡◌, Bool, true, false, not, [], Option, None, IfSome, refl, sym, ◌∙◌, ap, subst}
use Rattle.lock_model.specs.declared.problems.Problem.{Problem}
use Rattle.lock_model.specs.ExactStations.{meaning}
use Rattle.lock_model.specs.Stations.{IsCaused}
use Rattle.lock_model.specs.ExactDecisions.{Outcome, switches, same_problem}
use Rattle.lock_model.specs.Laws.{SwitchToTheSame, ProblemsAreCompared}
use Rattle.stable_record.specs.declared.node_records.NodeRecord.{NodeRecord}
use Rattle.stable_record.specs.Records.{IsNodeRecord}
use Rattle.voter_core.specs.Voters.{Voter, State, Idle, Decided, Stored, record_of, state_after, switched}
use Rattle.world_model.specs.declared.exact.ExactNodePhase.TheVariants as node
use Rattle.world_actors.specs.Nodes.{phase_of, phase_if, IsInStep, IsInStepIf, IsActing}

-- a node that is up and about nothing
idle-state : (r : NodeRecord) (s : State) → phase_of r s ≡ node.Idle → s ≡ Idle
idle-state r Idle h = refl
idle-state r (Decided replies) h = cc
idle-state r (Stored replies) h = cc

switch-in-step : SwitchToTheSame → ProblemsAreCompared → (core : Voter) (k : NodeRecord) (t : Option NodeRecord) (p : Problem) → IsNodeRecord k → record_of core ≡ k → t ≡ None →
    IsInStep (switched core p).state (record_of (switched core p)) k t
switch-in-step same compared core k t p good now none = go (same_problem core.problem p) refl
  where
    o : Outcome
    o = switches core.node p core.entries

    go : (b : Bool) → same_problem core.problem p ≡ b → IsInStep (state_after (not b) o.replies) (record { problem = p; entries = o.entries }) k t
    go false e = subst (λ u. IfSome u (λ r. r ≡ record { problem = p; entries = o.entries })) (sym none) tt
    go true e =
        let is : core.problem ≡ p = (compared core.problem p).0 e in
        let well = subst IsNodeRecord (sym now) good in
        let still : o ≡ record { entries = core.entries; replies = [] } = same p core.entries core.node well.well_formed (subst (λ q. IsCaused (meaning q core.entries)) is well.caused) in
        (ap (λ (u : Outcome). record { problem = p; entries = u.entries }) still ∙ ap (λ q. record { problem = q; entries = core.entries }) (sym is) ∙ now, none)

pub switched-acting : SwitchToTheSame → ProblemsAreCompared → (core : Voter) (k : NodeRecord) (t : Option NodeRecord) (up : Bool) (p : Problem) (new : Voter) → IsActing core k t up → phase_if up core ≡ node.Idle →
    new ≡ switched core p → IsActing new k t up
switched-acting same compared core k t up p new h idle is = subst (λ v. IsActing v k t up) (sym is) (record { kept = h.kept; tried = h.tried; in_step = go up h.in_step idle })
  where
    go : (b : Bool) → IsInStepIf b core k t → phase_if b core ≡ node.Idle → IsInStepIf b (switched core p) k t
    go false in_step at = tt
    go true in_step at = at_rest (idle-state (record_of core) core.state at) in_step
      where
        at_rest : core.state ≡ Idle → IsInStep core.state (record_of core) k t → IsInStep (switched core p).state (record_of (switched core p)) k t
        at_rest e i = let rest = subst (λ s. IsInStep s (record_of core) k t) e i in switch-in-step same compared core k t p h.kept rest.0 rest.1
