pub mod Sets
pub mod Ballots
pub mod Faults
pub mod SetLaws
pub mod BallotLists
pub mod ListFaults
