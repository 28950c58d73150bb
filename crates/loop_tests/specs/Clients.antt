-- The own log of c1 in a world in which it has made attempts already.
use Rattle.std.specs.Prelude.{◌≡◌, ℕ, ◌≤◌, List, []}
use Rattle.lock_messages.specs.declared.ids.Actor.TheVariants as actor
use Rattle.lock_messages.specs.declared.ids.TheConstants.{MAX_ATTEMPT}
use Rattle.lock_model.specs.Ballots.{Ballot}
use Rattle.stable_record.specs.Records.{client_record_of}
use Rattle.world_model.specs.declared.exact.ExactWorld.{ExactWorld}
use Rattle.world_model.specs.Openings.{down_client}
use Rattle.world_model.specs.Parts.{part, Part, ClientPart}
use Rattle.event_recorders.specs.OwnLogs.{OwnLog}

-- the part of a client that is down, and whose record is the one of this attempt
pub record IsDown (attempt : ℕ) (p : Part) : Type 0 where
  pub kept : ℕ
  pub in_range : kept ≤ MAX_ATTEMPT
  pub spelled : client_record_of attempt ≡ client_record_of kept
  pub part : p ≡ ClientPart (down_client kept)

-- a world of these ballots in which c1 is down, and has made this attempt last
pub record HasKept (b : List Ballot) (attempt : ℕ) (w : ExactWorld) : Type 0 where
  pub ballots : w.ballots ≡ b
  pub down : IsDown attempt (part w (actor.Client 1))

-- the log of c1, which has logged nothing, in such a world
pub record IsClientOf (b : List Ballot) (attempt : ℕ) (l : OwnLog) : Type 0 where
  pub actor : l.actor ≡ actor.Client 1
  pub ballots : l.ballots ≡ b
  pub events : l.events ≡ []
  pub down : IsDown attempt l.opening
