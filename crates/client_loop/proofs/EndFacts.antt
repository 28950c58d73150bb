-- One step after the other, to the fault by which a client ends.
use Rattle.std.proofs.Common.{◌≡◌, ◌⊎◌, inl, inr, ℕ, Bool, false, List, refl, sym, subst, arith}
use Rattle.lock_messages.specs.declared.ids.Actor.{Actor}
use Rattle.client_core.specs.declared.phases.Phase.TheVariants as phase
use Rattle.client_core.specs.declared.phases.State.{State}
use Rattle.client_core.specs.declared.phases.State.TheVariants.{Idle, Chosen, Asking, Inside}
use Rattle.client_core.specs.Clients.{Client, phase_in, phase_of}
use Rattle.world_model.specs.declared.exact.ExactClientPhase.TheVariants as client
use Rattle.world_model.specs.Parts.{ClientPart}
use Rattle.world_actors.specs.Clients.{phase_of as part_phase}
use Rattle.event_recorders.specs.declared.faults.RunFault.{RunFault}
use Rattle.event_recorders.specs.declared.faults.RunFault.TheVariants as fault
use Rattle.event_recorders.specs.OwnLogs.{OwnLog, IsUnused, part_now}
use Rattle.actor_steps.specs.Steps.{HasFailed, IsBookFault}
use Rattle.actor_steps.specs.Endings.{falls_of, FailuresFollow, EndsBy, EndsFrom}
use Rattle.actor_steps.proofs.EndFacts.{none_fallen, failures_stay}
use Rattle.client_loop.specs.Standing.{Stands, part_of}
use Rattle.client_loop.specs.Endings.{IsOutside, EndsAsking, EndsOneAttempt, IsAttemptFault, ClientEndsBy, ClientEndsFrom, ClientEndsSomehow}

-- a client ends as any actor does
ends-too : (f : RunFault) (l : OwnLog) (stuck spent : Bool) (before now : ℕ) → EndsBy f l stuck spent before now → ClientEndsBy f l stuck spent before now
ends-too fault.NotReopened l stuck spent before now h = h
ends-too fault.Memory l stuck spent before now h = h
ends-too fault.Book l stuck spent before now h = h
ends-too fault.Spent l stuck spent before now h = inl h
ends-too fault.TooFewNodes l stuck spent before now h = absurd h
ends-too fault.GaveUp l stuck spent before now h = absurd h

pub client_ends : (f : RunFault) (n : ℕ) (l : OwnLog) (stuck spent : Bool) (a b : ℕ) → EndsFrom f n l stuck spent a b → ClientEndsFrom f n l stuck spent a b
client_ends f n l stuck spent a b h = record { ends = λ start since. ends-too f l stuck spent start b (h.ends start since) }

pub client_ends_on : (f : RunFault) (m n : ℕ) (l : OwnLog) (stuck spent : Bool) (a b c : ℕ) → FailuresFollow m n a b → ClientEndsFrom f n l stuck spent b c → ClientEndsFrom f m l stuck spent a c
client_ends_on f m n l stuck spent a b c first second = record { ends = λ start since. second.ends start (first.follows start since) }

pub client_ended_since : (f : RunFault) (l l' : OwnLog) (who : Actor) (stuck spent : Bool) (a b : ℕ) → IsUnused l who → ClientEndsFrom f (falls_of l) l' stuck spent a b → ClientEndsBy f l' stuck spent a b
client_ended_since f l l' who stuck spent a b unused ends = ends.ends a (none_fallen l who a unused)

-- what a record answers is some answer
pub client_ends_somehow : (f : RunFault) (l : OwnLog) (stuck spent : Bool) (before now : ℕ) → ClientEndsBy f l stuck spent before now → ClientEndsSomehow f l
client_ends_somehow f l stuck spent before now ends = record { stuck = stuck; spent = spent; before = before; now = now; ends = ends }

-- where the record isn't stuck, the book's refusal left no failure behind
by-book : (f : RunFault) (l : OwnLog) (stuck spent : Bool) (before now : ℕ) → IsBookFault f → stuck ≡ false → ClientEndsBy f l stuck spent before now
by-book f l stuck spent before now (inl memory) free = subst (λ (x : RunFault). ClientEndsBy x l stuck spent before now) (sym memory) tt
by-book f l stuck spent before now (inr book) free = subst (λ (x : RunFault). ClientEndsBy x l stuck spent before now) (sym book) (inl free)

pub book_ends : (f : RunFault) (n : ℕ) (l : OwnLog) (stuck spent : Bool) (a b : ℕ) → IsBookFault f → stuck ≡ false → ClientEndsFrom f n l stuck spent a b
book_ends f n l stuck spent a b h free = record { ends = λ start since. by-book f l stuck spent start b h free }

by-asking : (f : RunFault) (l : OwnLog) (stuck spent : Bool) (before now : ℕ) → EndsAsking f l → stuck ≡ false → ClientEndsBy f l stuck spent before now
by-asking f l stuck spent before now (inl book) free = by-book f l stuck spent before now book free
by-asking f l stuck spent before now (inr h) free = so h.0
  where
    so : (f ≡ fault.TooFewNodes) ⊎ (f ≡ fault.GaveUp) → ClientEndsBy f l stuck spent before now
    so (inl few) = subst (λ (x : RunFault). ClientEndsBy x l stuck spent before now) (sym few) h.1
    so (inr gave) = subst (λ (x : RunFault). ClientEndsBy x l stuck spent before now) (sym gave) h.1

pub asking_ends : (f : RunFault) (n : ℕ) (l : OwnLog) (stuck spent : Bool) (a b : ℕ) → EndsAsking f l → stuck ≡ false → ClientEndsFrom f n l stuck spent a b
asking_ends f n l stuck spent a b h free = record { ends = λ start since. by-asking f l stuck spent start b h free }

-- a record that was only read has failed as often as before
pub failures_same : (m n a : ℕ) → n ≡ m → FailuresFollow m n a a
failures_same m n a same =
    let least : HasFailed 0 a a = inl (omega arith) in
    failures_stay m n a a (omega (arith, same)) least

-- no attempt is left
idle-part : (s : State) → phase_in s ≡ phase.Idle → part_phase s ≡ client.Idle
idle-part Idle h = refl
idle-part (Chosen t place) h = absurd (let clash : phase.Chosen ≡ phase.Idle = h in cc)
idle-part (Asking p) h = absurd (let clash : phase.Asking ≡ phase.Idle = h in cc)
idle-part (Inside p) h = absurd (let clash : phase.Inside ≡ phase.Idle = h in cc)

-- a client that rests is outside
pub is_outside : (l : OwnLog) (finds : List (List ℕ)) (c : Client) → Stands l finds c → phase_of c ≡ phase.Idle → IsOutside (part_now l)
is_outside l finds c h rests =
    let so : IsOutside (ClientPart (part_of c)) = (idle-part c.state rests, refl) in
    subst IsOutside (sym h.part) so

-- a fault of making an attempt is none after which the client may make another
pub attempt_ends_all : (f : RunFault) → IsAttemptFault f → EndsOneAttempt f → ⊥
attempt_ends_all f (inl is) (inl few) = cc
attempt_ends_all f (inl is) (inr gave) = cc
attempt_ends_all f (inr (inl is)) (inl few) = cc
attempt_ends_all f (inr (inl is)) (inr gave) = cc
attempt_ends_all f (inr (inr (inl is))) (inl few) = cc
attempt_ends_all f (inr (inr (inl is))) (inr gave) = cc
attempt_ends_all f (inr (inr (inr is))) (inl few) = cc
attempt_ends_all f (inr (inr (inr is))) (inr gave) = cc
