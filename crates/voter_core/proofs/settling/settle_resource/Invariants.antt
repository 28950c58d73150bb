use Rattle.std.proofs.Common.{◌≡◌, ◌≤◌, ◌+◌, ℕ, List, Option}
use Rattle.std.specs.Vec.{vec_len, vec_capacity}
use Rattle.stable_record.specs.Indexing.{IndexesWith}
use Rattle.stable_record.specs.Lines.{waits_for, count_live}
use Rattle.voter_core.proofs.QueueFacts.{QueueSettled}
use Rattle.voter_core.proofs.settling.settle_resource.Given as goal

abbrev pub invariant-loop-turn : goal.invariant-loop-turn
invariant-loop-turn g l = record {
  queue : QueueSettled l.problem l.node l.resource l.fn.entries l.fn.replies.items l.place l.entries l.replies.items;
  left : l.place + l.waiting ≡ count_live (waits_for l.resource) l.entries + l.turn;
  few : l.place ≤ l.turn;
  room : vec_len l.replies + l.waiting ≤ vec_capacity l.replies + l.turn;
  indexed : (a : Option (ℕ × List ℕ)) → IndexesWith a l.fn.index l.fn.entries → IndexesWith a l.index l.entries;
}
