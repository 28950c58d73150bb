-- How an actor ends by a fault, as its own log and its record tell.
use Rattle.std.specs.Prelude.{◌≡◌, ◌⊎◌, ℕ, ◌+◌, Bool, true, false, IsSome, count_by}
use Rattle.world_model.specs.declared.events.Event.{Event}
use Rattle.world_model.specs.declared.exact.ExactNodePhase.TheVariants as node
use Rattle.world_model.specs.declared.exact.ExactClientPhase.TheVariants as client
use Rattle.world_model.specs.Kinds.{kind_of, is_falling}
use Rattle.world_model.specs.Parts.{Part, NoPart, NodePart, ClientPart}
use Rattle.event_recorders.specs.declared.faults.RunFault.{RunFault}
use Rattle.event_recorders.specs.declared.faults.RunFault.TheVariants as fault
use Rattle.event_recorders.specs.OwnLogs.{OwnLog, part_now}
use Rattle.actor_steps.specs.declared.reopening.TheConstants.{MAX_REOPENS}
use Rattle.actor_steps.specs.Steps.{HasFailed}

abbrev pub is_fall : Event → Bool
is_fall e = is_falling (kind_of e)

-- how often the actor has fallen
abbrev pub falls_of : OwnLog → ℕ
falls_of l = count_by (λ p. is_fall p.0) l.events

-- Where the device has failed this often since whatever moment, it has failed now that often since then.
pub record FailuresFollow (times times' before now : ℕ) : Type 0 where
  pub follows : (start : ℕ) → HasFailed times start before → HasFailed times' start now

-- the actor is down
abbrev pub IsDown : Part → Type 0
IsDown NoPart = ⊥
IsDown (NodePart v) = v.phase ≡ node.Down
IsDown (ClientPart k) = k.phase ≡ client.Down

-- the actor is up, and tries to keep something
abbrev pub TriesToKeep : Part → Type 0
TriesToKeep NoPart = ⊥
TriesToKeep (NodePart v) = IsSome v.tried × (v.phase ≡ node.Down → ⊥)
TriesToKeep (ClientPart k) = IsSome k.tried × (k.phase ≡ client.Down → ⊥)

-- 911: the actor is down, and its device has failed once for each of its falls and then for as many reopens
-- as there may be.
pub record HasNotRisen (l : OwnLog) (before now : ℕ) : Type 0 where
  pub down : IsDown (part_now l)
  pub failed : HasFailed (falls_of l + MAX_REOPENS) before now

-- 915: no failure of the device was left behind: the record isn't stuck, or the actor still tries to keep
-- what it could not keep, since it was the fall that the book refused.
abbrev pub IsRefusedEvent : OwnLog → Bool → Type 0
IsRefusedEvent l stuck = (stuck ≡ false) ⊎ TriesToKeep (part_now l)

-- 916: the actor tries to keep something, and no change of its record can be numbered any more
pub record IsSpentRecord (l : OwnLog) (spent : Bool) : Type 0 where
  pub tries : TriesToKeep (part_now l)
  pub is_spent : spent ≡ true

-- What an actor's own log tells of the fault by which it ended, and whether its record is stuck, whether it
-- is spent, and how often its device had failed before and has failed now. Want of memory (914) leaves no
-- trace there; and no record brings 912 and 913.
abbrev pub EndsBy : RunFault → OwnLog → Bool → Bool → ℕ → ℕ → Type 0
EndsBy fault.NotReopened l stuck spent before now = HasNotRisen l before now
EndsBy fault.Memory l stuck spent before now = Unit {0}
EndsBy fault.Book l stuck spent before now = IsRefusedEvent l stuck
EndsBy fault.Spent l stuck spent before now = IsSpentRecord l spent
EndsBy fault.TooFewNodes l stuck spent before now = ⊥
EndsBy fault.GaveUp l stuck spent before now = ⊥

-- the same since whatever moment since which the device had failed this often before
pub record EndsFrom (f : RunFault) (times : ℕ) (l : OwnLog) (stuck spent : Bool) (before now : ℕ) : Type 0 where
  pub ends : (start : ℕ) → HasFailed times start before → EndsBy f l stuck spent start now
