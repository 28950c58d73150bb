-- What a node had sent that ended by a fault.
use Rattle.std.specs.Prelude.{◌≡◌, ◌⊎◌, ℕ, Bool, List, [], ◌∷◌, ◌++◌, Option}
use Rattle.lock_model.specs.Ballots.{Ballot}
use Rattle.lossy_link.specs.declared.parcels.Post.TheVariants as post
use Rattle.lossy_link.specs.declared.parcels.Sending.{Sending}
use Rattle.lossy_link.specs.declared.parcels.Sending.TheVariants as sending
use Rattle.lossy_link.specs.Links.{one_more, all_more, IsRefused}
use Rattle.world_model.specs.declared.events.Effect.{Effect}
use Rattle.world_model.specs.declared.events.Event.{Event}
use Rattle.world_model.specs.Parts.{Part, after_own}
use Rattle.event_recorders.specs.declared.faults.RunFault.{RunFault}
use Rattle.event_recorders.specs.declared.faults.RunFault.TheVariants as fault
use Rattle.event_recorders.specs.OwnLogs.{OwnLog, part_now}
use Rattle.actor_steps.specs.Endings.{IsDown}
use Rattle.node_loop.specs.Replies.{sent_for, sent_of}

-- the later of two lists, or the earlier one where that is empty
abbrev pub latest : {X : Type 0} → List X → List X → List X
latest earlier [] = earlier
latest earlier (x ∷ xs) = x ∷ xs

-- what the last of a node's events that sends anything sends, from a part on
abbrev pub last_by : List Ballot → Part → List (Event × Effect) → List Sending
last_by b p [] = []
last_by b p (q ∷ own) = latest (sent_for b q.0 q.1 p) (last_by b (after_own b q.0 q.1 p) own)

abbrev pub last_sent : OwnLog → List Sending
last_sent l = last_by l.ballots l.opening l.events

-- A beginning of these was given to a link, on top of what was there, and the rest is left.
pub record HasGiven (all left : List Sending) (given given' : Option (List Sending)) : Type 0 where
  pub begun : List Sending
  pub whole : all ≡ begun ++ left
  pub now : given' ≡ all_more given begun

abbrev pub GivesSome : List Sending → Option (List Sending) → Option (List Sending) → Type 0
GivesSome all given given' = (left : List Sending) × HasGiven all left given given'

-- All that the log tells was sent, but perhaps for an end of what its last event that sends anything sends.
pub record HasSent (l : OwnLog) (sent : List Sending) : Type 0 where
  pub begun : List Sending
  pub left : List Sending
  pub all : sent_of l ≡ sent ++ left
  pub last : last_sent l ≡ begun ++ left

-- Nothing is left unsent but where memory was refused (914), or where the node is down, since it fell and did not
-- rise.
abbrev pub IsWhole : RunFault → OwnLog → List Sending → Type 0
IsWhole f l sent = (f ≡ fault.Memory → ⊥) → (IsDown (part_now l) → ⊥) → sent_of l ≡ sent

-- Where what was given to a link before is what one log tells, on top of what was there, what was given
-- since is what the other log tells, but perhaps for such an end, where it ended by this fault.
pub record SentAsFar (f : RunFault) (l l' : OwnLog) (given given' : Option (List Sending)) : Type 0 where
  pub sent : List Sending
  pub far : HasSent l' sent
  pub whole : IsWhole f l' sent
  pub follows : (before : Option (List Sending)) → given ≡ all_more before (sent_of l) → given' ≡ all_more before sent

-- what the log tells was given, on top of what was there, but perhaps for such an end
pub record ToldAsFar (f : RunFault) (l : OwnLog) (given given' : Option (List Sending)) : Type 0 where
  pub sent : List Sending
  pub far : HasSent l sent
  pub whole : IsWhole f l sent
  pub now : given' ≡ all_more given sent

-- every client is told that the node is gone, unless memory was refused
abbrev pub TellsGone : ℕ → Option (List Sending) → Option (List Sending) → Option Bool → Type 0
TellsGone n given given' refused = (given' ≡ one_more given (sending.Told (post.Gone n))) ⊎ ((given' ≡ given) × IsRefused refused)

-- What a node that ended by this fault has given to its link, on top of what was there: what its log tells, but
-- perhaps for such an end, and behind it that the node is gone, unless memory was refused.
pub record HasGone (n : ℕ) (f : RunFault) (l : OwnLog) (given given' : Option (List Sending)) (refused : Option Bool) : Type 0 where
  pub between : Option (List Sending)
  pub told : ToldAsFar f l given between
  pub gone : TellsGone n between given' refused
