-- A client whose session rests has kept an attempt, tries to keep nothing, and a restart finds just the attempt.
use Rattle.std.proofs.Common.{◌≡◌, None, refl, ap, ◌∙◌}
use Rattle.client_core.specs.declared.phases.Phase.TheVariants as phase
use Rattle.client_core.specs.declared.phases.Present.{Present}
use Rattle.client_core.specs.declared.phases.State.{State}
use Rattle.client_core.specs.declared.phases.State.TheVariants.{Idle, Chosen, Asking, Inside}
use Rattle.client_core.specs.Clients.{phase_in}
use Rattle.world_model.specs.declared.exact.ExactClientPhase.{ExactClientPhase}
use Rattle.world_model.specs.declared.exact.ExactClientPhase.TheVariants as client
use Rattle.world_model.specs.Parts.{ClientPart}
use Rattle.world_actors.specs.Clients.{phase_of}
use Rattle.event_recorders.specs.OwnLogs.{part_now}
use Rattle.lock_session.specs.Sessions.{SessionValue, IsResting}
use Rattle.own_threads.specs.Ends.{RestsWith}

idle_there : (s : State) → phase_in s ≡ phase.Idle → phase_of s ≡ client.Idle
idle_there Idle h = refl
idle_there (Chosen t place) h = absurd (let clash : phase.Chosen ≡ phase.Idle = h in cc)
idle_there (Asking p) h = absurd (let clash : phase.Asking ≡ phase.Idle = h in cc)
idle_there (Inside p) h = absurd (let clash : phase.Inside ≡ phase.Idle = h in cc)

pub rests_with : (v : SessionValue) → IsResting v → RestsWith (part_now v.log) v.finds
rests_with v h = record {
  attempt = v.core.attempt;
  part = h.rests.stands.part ∙ ap (λ (p : ExactClientPhase). ClientPart (record { kept = v.core.attempt; tried = None; phase = p })) (idle_there v.core.state h.rests.idle);
  finds = h.rests.stands.found;
}
