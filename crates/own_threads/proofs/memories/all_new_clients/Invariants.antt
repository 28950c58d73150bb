use Rattle.std.proofs.Common.{◌≡◌, ◌∷◌, [], length, map}
use Rattle.own_threads.specs.Beginnings.{unwritten}
use Rattle.own_threads.specs.Memories.{new_clients}
use Rattle.own_threads.specs.Tasks.{AreClientsReady}
use Rattle.own_threads.proofs.memories.all_new_clients.Given as goal

-- so many clients are there, and each may run
abbrev pub invariant-loop-place : goal.invariant-loop-place
invariant-loop-place l = record {
  count : length l.all.items ≡ l.place;
  logs : map (λ s. unwritten s.recorder) l.all.items ≡ new_clients l.ballots l.place;
  ready : AreClientsReady l.ballots 1 (map (λ s. (s.recorder, s.stable ∷ [])) l.all.items);
}
