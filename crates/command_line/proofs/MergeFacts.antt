-- What a merge comes to, by where its settings are.
use Rattle.std.proofs.Common.{ℕ, Bool, List, Option, Some, inl, inr}
use Rattle.program_ends.specs.declared.ending.Ended.{Ended}
use Rattle.program_ends.specs.Endings.{Writers, LacksMemory}
use Rattle.merge_service.specs.Merging.{RunsMerge}
use Rattle.command_line.specs.CommandLine.{MergesNamed}

pub merges_input : (judged : Bool) (count : ℕ) (input : Option (List ℕ)) (w : Writers) (e : Ended) → RunsMerge judged count input w e → MergesNamed judged input w e
merges_input judged count input w e h = inl (count, h)

pub merges_folder : (judged : Bool) (count : ℕ) (input settings : Option (List ℕ)) (w : Writers) (e : Ended) → RunsMerge judged count settings w e → MergesNamed judged input w e
merges_folder judged count input settings w e h = inr (inl (count, settings, h))

pub merges_nothing : (judged : Bool) (input : Option (List ℕ)) (w : Writers) (e : Ended) → LacksMemory w e → MergesNamed judged input w e
merges_nothing judged input w e h = inr (inr h)
