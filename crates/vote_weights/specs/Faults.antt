-- What is wrong with numbers that make no ballot. (With ballots that make no list: `ListFaults`.)
use Rattle.std.specs.Prelude.{◌≡◌, ℕ, ◌+◌, ◌*◌, ◌==◌, ◌||◌, ◌↔◌, length, nat_le, nat_lt, if◌then◌else◌, Option, Some, None, Result, Ok, Err}
use Rattle.lock_messages.specs.declared.ids.TheConstants.{MAX_NODES}
use Rattle.lock_model.specs.Ballots.{Ballot, total}
use Rattle.vote_weights.specs.Ballots.{IsBallot}
use Rattle.vote_weights.specs.declared.faults.BallotFault.{BallotFault}
use Rattle.vote_weights.specs.declared.faults.BallotFault.TheVariants.{NoNode, TooManyNodes, OverTotal, ReadsMissWrites, WritesMiss, BallotsMiss, NoBallot, TooManyBallots}

-- the number by which programs print the fault
abbrev pub fault_number : BallotFault → ℕ
fault_number NoNode = 201
fault_number TooManyNodes = 202
fault_number OverTotal = 203
fault_number ReadsMissWrites = 204
fault_number WritesMiss = 205
fault_number (BallotsMiss lower higher) = 206
fault_number NoBallot = 207
fault_number TooManyBallots = 208

-- what is wrong with the numbers: the first that applies
abbrev pub fault_of : Ballot → Option BallotFault
fault_of b =
    if length b.votes == 0 then Some NoNode
    else (if nat_lt MAX_NODES (length b.votes) then Some TooManyNodes
    else (if nat_lt (total b) b.read || nat_lt (total b) b.write then Some OverTotal
    else (if nat_le (b.read + b.write) (total b) then Some ReadsMissWrites
    else (if nat_le (2 * b.write) (total b) then Some WritesMiss
    else None))))

-- the ballot, or the fault where there is one
abbrev pub ballot_unless : Option BallotFault → Ballot → Result Ballot BallotFault
ballot_unless None b = Ok b
ballot_unless (Some fault) b = Err fault

-- numbers have no fault exactly where they make a ballot
abbrev pub OnlyBallotsHaveNoFault : Type 0
OnlyBallotsHaveNoFault = (b : Ballot) → (fault_of b ≡ None) ↔ IsBallot b
