-- How a node's run ends.
use Rattle.std.specs.Prelude.{◌≡◌, ℕ, Bool, List, Option}
use Rattle.lossy_link.specs.declared.parcels.Post.{Post}
use Rattle.lossy_link.specs.declared.parcels.Sending.{Sending}
use Rattle.lossy_link.specs.Links.{all_more}
use Rattle.event_recorders.specs.declared.faults.RunFault.{RunFault}
use Rattle.event_recorders.specs.OwnLogs.{OwnLog, FindsItsOwn, part_now}
use Rattle.actor_steps.specs.Steps.{HasFailed}
use Rattle.actor_steps.specs.Endings.{falls_of, EndsBy}
use Rattle.node_loop.specs.Replies.{sent_of}
use Rattle.node_loop.specs.Standing.{as_opened, IsIdleNode, IsAtEnd}

-- It ended without a fault. It has answered all that it took since it last rose. What was given to its link, on top of what was
-- there, is what its log tells: its replies, and after each fall its nudge. Nothing more comes over its link.
pub record EndsIdle (l : OwnLog) (given given' : Option (List Sending)) (coming : Option (List Post)) : Type 0 where
  pub idle : IsIdleNode (part_now l)
  pub sent : given' ≡ all_more given (sent_of l)
  pub closed : IsAtEnd coming

-- However it ended, its log goes on from the same opening, and its record's device failed for each of its falls. A restart finds in
-- the record nothing but what it has kept and what it tries to keep.
pub record HasRun (l l' : OwnLog) (strings : List (List ℕ)) (before now : ℕ) : Type 0 where
  pub opened : as_opened l' ≡ as_opened l
  pub falls : HasFailed (falls_of l') before now
  pub own : FindsItsOwn (part_now l') strings

-- It owned its record, which nobody sees afterwards. It ended by this fault with some answers of its record: whether it is stuck and
-- spent then, and how often its device had failed before and has failed.
pub record EndsSomehow (f : RunFault) (l : OwnLog) : Type 0 where
  pub stuck : Bool
  pub spent : Bool
  pub before : ℕ
  pub now : ℕ
  pub ends : EndsBy f l stuck spent before now
