-- A node that works off several messages, keeps once for them, and only then sends.
use Rattle.std.specs.Prelude.{◌≡◌, ◌⊎◌, ℕ, Bool, true, false, List, [], ◌∷◌, ◌++◌, Option, None, Some}
use Rattle.lock_model.specs.Decisions.{Among}
use Rattle.stable_record.specs.Finding.{FindsOnlyOr}
use Rattle.voter_core.specs.Voters.{Voter}
use Rattle.lossy_link.specs.declared.parcels.Post.{Post}
use Rattle.lossy_link.specs.declared.parcels.Sending.{Sending}
use Rattle.lossy_link.specs.Links.{all_more}
use Rattle.event_recorders.specs.declared.faults.RunFault.{RunFault}
use Rattle.event_recorders.specs.declared.faults.RunFault.TheVariants as fault
use Rattle.event_recorders.specs.OwnLogs.{OwnLog, part_now, kept_in}
use Rattle.actor_steps.specs.Endings.{falls_of}
use Rattle.actor_steps.specs.Sendings.{sent_of}
use Rattle.node_loop.specs.Standing.{StandsIdle, as_opened}
use Rattle.merge_model.specs.OwnRuns.{IsOwnRun}
use Rattle.node_loop.specs.Unsent.{TellsGone, GivesSome}

-- What contracts see of a link that holds back what is sent: the posts that it will bring, what it holds back, in order, and
-- whether memory ran out in a call.
pub record Holding : Type 0 where
  pub coming : List Post
  pub held : List Sending
  pub refused : Bool

-- these posts, and then what is still to come, where that is known
abbrev pub then_coming : List Post → Option (List Post) → Option (List Post)
then_coming posts None = None
then_coming posts (Some left) = Some (posts ++ left)

-- a restart finds just what the node has kept at the end of this log
abbrev pub FindsLast : OwnLog → List (List ℕ) → Type 0
FindsLast l strings = strings ≡ kept_in (part_now l) ∷ []

-- Between two batches. The log is an own run, the node has answered all that it took, and has never fallen. A restart finds in its
-- record just what the node has kept, of which this is the copy in memory.
pub record Rests (l : OwnLog) (core : Voter) (copy : List ℕ) (strings : List (List ℕ)) (stuck : Bool) : Type 0 where
  pub run : IsOwnRun l.ballots l.actor l.opening l.events
  pub idle : StandsIdle l core (copy ∷ []) false
  pub up : falls_of l ≡ 0
  pub found : strings ≡ copy ∷ []
  pub free : stuck ≡ false

-- What the node did last is held back, as if it had not happened. An own run from the same opening tells all that was sent. A
-- restart finds what the node has kept in that run, or what it has kept at the end of its log.
pub record HoldsBack (l : OwnLog) (strings : List (List ℕ)) (given given' : Option (List Sending)) : Type 0 where
  pub before : OwnLog
  pub opened : as_opened before ≡ as_opened l
  pub run : IsOwnRun before.ballots before.actor before.opening before.events
  pub sent : given' ≡ all_more given (sent_of before)
  pub found : (found : List ℕ) → Among found strings → (found ≡ kept_in (part_now before)) ⊎ (found ≡ kept_in (part_now l))

-- A restart finds what the node has kept at the end, and it has sent a beginning of what its log tells.
pub record SendsSome (l : OwnLog) (strings : List (List ℕ)) (given given' : Option (List Sending)) : Type 0 where
  pub sent : List Sending
  pub left : List Sending
  pub all : sent_of l ≡ sent ++ left
  pub now : given' ≡ all_more given sent
  pub found : FindsLast l strings

-- Nothing was sent that is not kept.
abbrev pub SendsKept : OwnLog → List (List ℕ) → Option (List Sending) → Option (List Sending) → Type 0
SendsKept l strings given given' = HoldsBack l strings given given' ⊎ SendsSome l strings given given'

-- The same, whatever was given to the link before the first log.
pub record SendsKeptSince (l l' : OwnLog) (strings : List (List ℕ)) (given given' : Option (List Sending)) : Type 0 where
  pub since : (before : Option (List Sending)) → given ≡ all_more before (sent_of l) → SendsKept l' strings before given'

-- And then it told every client that it is gone, unless memory ran out.
pub record HasGone (n : ℕ) (l : OwnLog) (strings : List (List ℕ)) (given given' : Option (List Sending)) (refused : Option Bool) : Type 0 where
  pub between : Option (List Sending)
  pub kept : SendsKept l strings given between
  pub gone : TellsGone n between given' refused

-- Why it ended: its record's device failed (911), no change of its record can be numbered any more (916), out of memory (914), or
-- its journal took no more (915). The record shows the first two.
abbrev pub HasCause : RunFault → Bool → Bool → Type 0
HasCause fault.NotReopened stuck spent = stuck ≡ true
HasCause fault.Spent stuck spent = spent ≡ true
HasCause fault.Memory stuck spent = Unit {0}
HasCause fault.Book stuck spent = Unit {0}
HasCause fault.TooFewNodes stuck spent = ⊥
HasCause fault.GaveUp stuck spent = ⊥

-- What came of keeping these bytes and then sending what was held back, if not all was done: nothing was sent, and a restart finds
-- these bytes or those before; or a restart finds these bytes, and some was sent.
abbrev pub IsHalfOut : List ℕ → List ℕ → List Sending → List (List ℕ) → Option (List Sending) → Option (List Sending) → Type 0
IsHalfOut before next held strings given given' =
    (FindsOnlyOr (before ∷ []) next strings × (given' ≡ given)) ⊎ ((strings ≡ next ∷ []) × GivesSome held given given')
