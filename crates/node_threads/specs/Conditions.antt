-- What is handed in for a run: beside the world a pair of policies a node, and one record an actor.
use Rattle.std.specs.Prelude.{◌≡◌, ℕ, List, [], ◌∷◌, ◌++◌, length, map}
use Rattle.lock_model.specs.Ballots.{Ballot}
use Rattle.stable_record.specs.Records.{client_record_of}
use Rattle.world_machine.specs.Listing.{station_bytes}
use Rattle.world_model.specs.declared.exact.ExactStation.{ExactStation}
use Rattle.world_model.specs.declared.exact.ExactWorld.{ExactWorld}
use Rattle.world_model.specs.Openings.{resumed}

-- what a record finds that has just this station of a node, or just this attempt of a client
abbrev pub finds_station : ExactStation → List (List ℕ)
finds_station s = station_bytes s ∷ []

abbrev pub finds_attempt : ℕ → List (List ℕ)
finds_attempt attempt = client_record_of attempt ∷ []

-- What may be handed in for a run. The world has these ballots; its actors are all down with nothing tried,
-- and have kept these stations and attempts; nothing is sent. There are so many pairs, one a node, and one
-- record an actor, nodes first, which finds just what its actor has kept.
pub record MayRun (w : ExactWorld) (ballots : List Ballot) (pairs : ℕ) (found : List (List (List ℕ))) : Type 0 where
  pub stations : List ExactStation
  pub attempts : List ℕ
  pub world : w ≡ resumed ballots stations attempts
  pub paired : pairs ≡ length stations
  pub records : found ≡ map finds_station stations ++ map finds_attempt attempts
