use Rattle.std.proofs.Common.{◌≡◌, ◌++◌, map}
use Rattle.std.specs.Vec.Iter.{into_iter_items}
use Rattle.own_threads.proofs.memories.faults_of.Given as goal

-- the ends that are left; the faults are those of the ends before
abbrev pub invariant-loop-end : goal.invariant-loop-end
invariant-loop-end g l = record {
  can : (goal.iterator-loop-end g).can_next l.end-iterator;
  finite : (goal.iterator-loop-end g).is_finite l.end-iterator;
  faults : l.faults.items ++ map (λ e. e.fault) (into_iter_items l.end-iterator) ≡ map (λ e. e.fault) l.fn.ends.items;
}
