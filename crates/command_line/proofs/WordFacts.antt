-- What a run comes to, by what was read of its words.
use Rattle.std.proofs.Common.{◌≡◌, inl, inr, List, [], ℕ, Option}
use Rattle.clap.specs.Words.{Kinds}
use Rattle.program_ends.specs.declared.ending.Ended.{Ended}
use Rattle.program_ends.specs.declared.wording.Unserved.{Unserved}
use Rattle.program_ends.specs.Endings.{Writers, LacksMemory, EndsUnserved}
use Rattle.program_ends.specs.Wordings.{IsUnserved}
use Rattle.command_words.specs.declared.reading.Request.{Request}
use Rattle.command_words.specs.Words.{FoundWords, Names}
use Rattle.command_line.specs.CommandLine.{RunsRequest, RunsBy}

pub runs_lacking : (input : Option (List ℕ)) (kinds : Kinds) (named : FoundWords) (w : Writers) (e : Ended) → LacksMemory w e → RunsBy input kinds named w e
runs_lacking input kinds named w e h = inr (inl h)

pub runs_request : (input : Option (List ℕ)) (kinds : Kinds) (named : FoundWords) (w : Writers) (e : Ended) (r : Request) → kinds ≡ [] → Names named r → RunsRequest r input w e → RunsBy input kinds named w e
runs_request input kinds named w e r n m h = inl (n, (r, m, h))

pub runs_unserved : (input : Option (List ℕ)) (kinds : Kinds) (named : FoundWords) (w : Writers) (e : Ended) (u : Unserved) → IsUnserved kinds u → ((ks : Kinds) → IsUnserved ks u → EndsUnserved ks w e) → RunsBy input kinds named w e
runs_unserved input kinds named w e u h f = inr (f kinds h)
