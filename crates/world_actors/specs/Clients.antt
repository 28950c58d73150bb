-- A client's core, with the attempt that the client has kept and the one that it tries to keep, as a
-- client of the exact world.
use Rattle.std.specs.Prelude.{◌≡◌, ℕ, ◌+◌, ◌≤◌, Bool, true, false, Option, None, IfSome}
use Rattle.lock_messages.specs.declared.ids.TheConstants.{MAX_ATTEMPT}
use Rattle.client_core.specs.declared.phases.Present.{Present}
use Rattle.client_core.specs.declared.phases.State.{State}
use Rattle.client_core.specs.declared.phases.State.TheVariants.{Idle, Chosen, Asking, Inside}
use Rattle.client_core.specs.Clients.{Client}
use Rattle.world_model.specs.declared.exact.ExactPresent.{ExactPresent}
use Rattle.world_model.specs.declared.exact.ExactClientPhase.{ExactClientPhase}
use Rattle.world_model.specs.declared.exact.ExactClientPhase.TheVariants as client
use Rattle.world_actors.specs.Acting.{ActingClient}

-- what a client has of its present attempt; the nodes that it skips are no matter of the exact world
abbrev pub present_of : Present → ExactPresent
present_of p = record { ticket = p.ticket; place = p.place; granted = p.granted; softened = p.softened }

-- what a client that is up is about
abbrev pub phase_of : State → ExactClientPhase
phase_of Idle = client.Idle
phase_of (Chosen t place) = client.Chosen t place
phase_of (Asking p) = client.Asking (present_of p)
phase_of (Inside p) = client.Inside (present_of p)

-- a client that is down is about nothing, whatever its core was about as it fell
abbrev pub phase_if : Bool → Client → ExactClientPhase
phase_if true core = phase_of core.state
phase_if false core = client.Down

abbrev pub acting_client : Client → ℕ → Option ℕ → Bool → ActingClient
acting_client core kept tried up = record {
  number = core.client;
  ballots = core.ballots;
  part = record { kept = kept; tried = tried; phase = phase_if up core };
}

-- The core's attempt is the kept one, and nothing is tried; only one that is chosen is the next, and
-- then it is what is tried, if anything is.
abbrev pub IsInStep : State → ℕ → ℕ → Option ℕ → Type 0
IsInStep Idle now kept tried = (now ≡ kept) × (tried ≡ None)
IsInStep (Chosen t place) now kept tried = (now ≡ kept + 1) × (t.attempt ≡ now) × IfSome tried (λ a. a ≡ now)
IsInStep (Asking p) now kept tried = (now ≡ kept) × (tried ≡ None)
IsInStep (Inside p) now kept tried = (now ≡ kept) × (tried ≡ None)

abbrev pub IsInStepIf : Bool → Client → ℕ → Option ℕ → Type 0
IsInStepIf true core kept tried = IsInStep core.state core.attempt kept tried
IsInStepIf false core kept tried = Unit {0}

-- what holds of each client
pub record IsActing (core : Client) (k : ℕ) (t : Option ℕ) (up : Bool) : Type 0 where
  pub kept : k ≤ MAX_ATTEMPT
  pub tried : IfSome t (λ a. a ≤ MAX_ATTEMPT)
  pub in_step : IsInStepIf up core k t
