use Rattle.std.proofs.Common.{◌≡◌, ◌++◌, map, All}
use Rattle.std.specs.Vec.Iter.{into_iter_items}
use Rattle.history_book.specs.Books.{Known}
use Rattle.node_threads.proofs.services.hand_back.Given as goal

-- the berths that are left are the book's; where they are tied to it, all are
abbrev pub invariant-loop-ended : goal.invariant-loop-ended
invariant-loop-ended g l = record {
  can : (goal.iterator-loop-ended g).can_next l.ended-iterator;
  finite : (goal.iterator-loop-ended g).is_finite l.ended-iterator;
  book : l.book ≡ l.fn.book;
  theirs : All (λ e. e.berth.table ≡ l.fn.book.table) (into_iter_items l.ended-iterator);
  tied : All (λ e. Known l.fn.book e.berth) (into_iter_items l.ended-iterator) → All (λ e. Known l.fn.book e.berth) l.fn.ends.items;
  records : l.records.items ++ map (λ e. (e.client, e.stable)) (into_iter_items l.ended-iterator) ≡ map (λ e. (e.client, e.stable)) l.fn.ends.items;
}
