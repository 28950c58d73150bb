-- What a client's session comes to while it obeys commands.
use Rattle.std.specs.Prelude.{◌≡◌, ℕ, ◌||◌, ◌&&◌, not, true, false, List, [], Some, Result, Ok, Err}
use Rattle.lock_model.specs.Ballots.{Ballot}
use Rattle.vote_weights.specs.Sets.{has_node}
use Rattle.event_recorders.specs.declared.faults.RunFault.{RunFault}
use Rattle.client_commands.specs.declared.commands.Entry.{Entry}
use Rattle.client_loop.specs.Nodes.{is_among}
use Rattle.client_loop.specs.Sendings.{SentFollows, SentUnlessMemory}
use Rattle.client_loop.specs.Visits.{Use}
use Rattle.lock_session.specs.Sessions.{SessionValue, IsSameSession, IsResting, over_by, use_by}

-- The session is the same client's. What was sent since is what its log tells since.
pub record GoesOn (v v' : SessionValue) : Type 0 where
  pub same : IsSameSession v v'
  pub sent : SentFollows v.log v'.log v.given v'.given

-- The same, and it rests.
pub record RestsAgain (v v' : SessionValue) : Type 0 where
  pub on : GoesOn v v'
  pub rests : IsResting v'

-- The session is the same client's, and over by this fault. What was sent since is what its log tells since, without the
-- last message perhaps if it ran out of memory.
pub record IsOverBy (f : RunFault) (v v' : SessionValue) : Type 0 where
  pub same : IsSameSession v v'
  pub sent : SentUnlessMemory f v.log v'.log v.given v'.given
  pub over : v'.over ≡ Some f

-- leaving ended by this fault, and the session is over by it
abbrev pub EndsLife : {A : Type 0} → Result A RunFault → RunFault → Type 0
EndsLife (Ok a) g = ⊥
EndsLife (Err f) g = (g ≡ f) × (over_by g ≡ Some g)

-- the use that a command asks for
abbrev pub use_in : Entry → Use
use_in e = use_by e.mode e.resource e.place

-- The nodes of the ballots that had to answer before or were asked, and have not answered, are just these.
pub record AreOwing (b : List Ballot) (before asked released owing : List ℕ) : Type 0 where
  pub each : (n : ℕ) → is_among b n ≡ true → has_node owing n ≡ ((has_node before n || has_node asked n) && not (has_node released n))

-- Each node of the session's ballots that was asked last and has not answered the release is among these.
pub record OwesTo (v : SessionValue) (owing : List ℕ) : Type 0 where
  pub each : (n : ℕ) → is_among v.ballots n ≡ true → has_node v.asked n ≡ true → has_node v.released n ≡ false → has_node owing n ≡ true

-- each node of the ballots that was asked last has answered the release
abbrev pub HasAnswered : SessionValue → Type 0
HasAnswered v = OwesTo v []
