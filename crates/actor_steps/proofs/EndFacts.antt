-- One step after the other, to the fault by which a node ends.
use Rattle.std.proofs.Common.{◌≡◌, inl, inr, ℕ, ◌+◌, Bool, arith}
use Rattle.std.specs.Prelude.{◌≤◌}
use Rattle.event_recorders.specs.declared.faults.RunFault.{RunFault}
use Rattle.event_recorders.specs.OwnLogs.{OwnLog, IsUnused}
use Rattle.lock_messages.specs.declared.ids.Actor.{Actor}
use Rattle.world_model.specs.declared.events.Effect.{Effect}
use Rattle.world_model.specs.declared.events.Event.{Event}
use Rattle.std.specs.List.{count_by}
use Rattle.std.proofs.Common.{ap}
use Rattle.actor_steps.specs.Steps.{HasFailed}
use Rattle.actor_steps.specs.Endings.{is_fall, falls_of, FailuresFollow, EndsBy, EndsFrom}

-- counts of failures

fewer : (m n k a b c : ℕ) → HasFailed m a b → HasFailed n b c → k ≤ m + n → HasFailed k a c
fewer m n k a b c (inl p) (inl q) e = inl (omega (arith, p, q, e))
fewer m n k a b c (inl p) (inr q) e = inr q
fewer m n k a b c (inr p) (inl q) e = inr (omega (arith, p, q))
fewer m n k a b c (inr p) (inr q) e = inr q

-- no failure more than falls more
pub failures_stay : (m n a b : ℕ) → n ≤ m → HasFailed 0 a b → FailuresFollow m n a b
failures_stay m n a b few count = record { follows = λ start since. fewer m 0 n start a b since count (omega (arith, few)) }

-- one failure more
pub failures_rise : (m n a b : ℕ) → n ≡ m → HasFailed 1 a b → FailuresFollow m (n + 1) a b
failures_rise m n a b same count = record { follows = λ start since. fewer m 1 (n + 1) start a b since count (omega (arith, same)) }

pub failures_on : (m n k a b c : ℕ) → FailuresFollow m n a b → FailuresFollow n k b c → FailuresFollow m k a c
failures_on m n k a b c first second = record { follows = λ start since. second.follows start (first.follows start since) }

pub ends_on : (f : RunFault) (m n : ℕ) (l : OwnLog) (stuck spent : Bool) (a b c : ℕ) → FailuresFollow m n a b → EndsFrom f n l stuck spent b c → EndsFrom f m l stuck spent a c
ends_on f m n l stuck spent a b c first second = record { ends = λ start since. second.ends start (first.follows start since) }

-- since a log that is unused

pub none_fallen : (l : OwnLog) (who : Actor) (a : ℕ) → IsUnused l who → HasFailed (falls_of l) a a
none_fallen l who a unused =
    let none : falls_of l ≡ 0 = ap (count_by (λ (p : Event × Effect). is_fall p.0)) unused.events in
    inl (omega (arith, none))

pub failed_since : (l l' : OwnLog) (who : Actor) (a b : ℕ) → IsUnused l who → FailuresFollow (falls_of l) (falls_of l') a b → HasFailed (falls_of l') a b
failed_since l l' who a b unused follows = follows.follows a (none_fallen l who a unused)

pub ended_since : (f : RunFault) (l l' : OwnLog) (who : Actor) (stuck spent : Bool) (a b : ℕ) → IsUnused l who → EndsFrom f (falls_of l) l' stuck spent a b → EndsBy f l' stuck spent a b
ended_since f l l' who stuck spent a b unused ends = ends.ends a (none_fallen l who a unused)
