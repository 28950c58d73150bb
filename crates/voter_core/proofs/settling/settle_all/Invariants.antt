use Rattle.std.proofs.Common.{◌≤◌, ◌+◌, ℕ, List, Option, length}
use Rattle.std.specs.Vec.{vec_len, vec_capacity}
use Rattle.stable_record.specs.Indexing.{IndexesWith}
use Rattle.voter_core.proofs.AllFacts.{AllSettled}
use Rattle.voter_core.proofs.settling.settle_all.Given as goal

abbrev pub invariant-loop-place : goal.invariant-loop-place
invariant-loop-place g l = record {
  all : AllSettled l.problem l.node l.fn.entries l.fn.replies.items l.place l.entries l.replies.items;
  room : vec_len l.replies + length l.fn.entries ≤ vec_capacity l.replies + l.place;
  indexed : (a : Option (ℕ × List ℕ)) → IndexesWith a l.fn.index l.fn.entries → IndexesWith a l.index l.entries;
}
