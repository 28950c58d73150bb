-- What a client that asks does as it enters, by the state of its core.
use Rattle.std.proofs.Common.{◌≡◌, ℕ, Bool, true, List, Option, Err, sym, subst, arith}
use Rattle.std.proofs.lemmas.Bool.Decides.{nat_tests}
use Rattle.lock_model.specs.Ballots.{Ballot}
use Rattle.client_core.specs.declared.phases.Phase.TheVariants as phase
use Rattle.client_core.specs.declared.phases.State.{State}
use Rattle.client_core.specs.declared.phases.State.TheVariants.{Idle, Chosen, Asking, Inside}
use Rattle.client_core.specs.Clients.{Client, phase_in, phase_of as phase_of_core}
use Rattle.client_core.specs.Calls.{MayEnterIn, MayEnter, enters_in as entered_in, entered}
use Rattle.world_model.specs.declared.events.Effect.TheVariants as effect
use Rattle.world_model.specs.declared.events.StepFault.TheVariants as fault
use Rattle.world_model.specs.declared.exact.ExactClient.{ExactClient}
use Rattle.world_model.specs.Turns.{acts}
use Rattle.world_model.specs.ExactClients.{client_in, enters_in}
use Rattle.world_actors.specs.Acting.{ActingClient}
use Rattle.world_actors.specs.Clients.{phase_of, phase_if, acting_client}

pub too_few : (b : List Ballot) (k : ExactClient) (s : State) → phase_in s ≡ phase.Asking → (MayEnterIn b s → ⊥) → enters_in b k (phase_of s) ≡ Err fault.NoQuorum
too_few b k Idle asks not = absurd (let q : phase.Idle ≡ phase.Asking = asks in cc)
too_few b k (Chosen t place) asks not = absurd (let q : phase.Chosen ≡ phase.Asking = asks in cc)
too_few b k (Asking p) asks not = grind (arith, nat_tests)
too_few b k (Inside p) asks not = absurd (let q : phase.Inside ≡ phase.Asking = asks in cc)

pub enough : (b : List Ballot) (k : ExactClient) (s : State) → MayEnterIn b s → enters_in b k (phase_of s) ≡ acts (client_in k (phase_of (entered_in s))) effect.Inside
enough b k Idle may = absurd may
enough b k (Chosen t place) may = absurd may
enough b k (Asking p) may = grind (arith, nat_tests)
enough b k (Inside p) may = absurd may

-- The same of a client with its core: it is refused while its votes are too few, and else enters.
pub refuses : (core : Client) (kept : ℕ) (tried : Option ℕ) (up : Bool) (a : ActingClient) → acting_client core kept tried up ≡ a → up ≡ true → phase_of_core core ≡ phase.Asking → (MayEnter core → ⊥) →
    enters_in a.ballots a.part a.part.phase ≡ Err fault.NoQuorum
refuses core kept tried up a is awake asks not =
    subst (λ (x : ActingClient). enters_in x.ballots x.part x.part.phase ≡ Err fault.NoQuorum) is
    (subst (λ u. enters_in core.ballots (record { kept = kept; tried = tried; phase = phase_if u core }) (phase_if u core) ≡ Err fault.NoQuorum) (sym awake) (too_few core.ballots (record { kept = kept; tried = tried; phase = phase_of core.state }) core.state asks not))

pub enters : (core after : Client) (kept : ℕ) (tried : Option ℕ) (up : Bool) (a : ActingClient) → acting_client core kept tried up ≡ a → up ≡ true → MayEnter core → after ≡ entered core →
    enters_in a.ballots a.part a.part.phase ≡ acts (record { kept = kept; tried = tried; phase = phase_if up after }) effect.Inside
enters core after kept tried up a is awake may now =
    subst (λ (x : ActingClient). enters_in x.ballots x.part x.part.phase ≡ acts (record { kept = kept; tried = tried; phase = phase_if up after }) effect.Inside) is
    (subst (λ u. enters_in core.ballots (record { kept = kept; tried = tried; phase = phase_if u core }) (phase_if u core) ≡ acts (record { kept = kept; tried = tried; phase = phase_if u after }) effect.Inside) (sym awake)
    (subst (λ (x : Client). enters_in core.ballots (record { kept = kept; tried = tried; phase = phase_of core.state }) (phase_of core.state) ≡ acts (record { kept = kept; tried = tried; phase = phase_of x.state }) effect.Inside) (sym now)
    (enough core.ballots (record { kept = kept; tried = tried; phase = phase_of core.state }) core.state may)))
