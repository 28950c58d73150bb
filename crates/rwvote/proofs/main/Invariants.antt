use Rattle.std.proofs.Common.{◌≡◌, length, map, replicate}
use Rattle.lock_messages.specs.declared.ids.TheConstants.{MAX_NODES}
use Rattle.lock_model.specs.declared.problems.Problem.TheVariants.{First, Second}
use Rattle.run_service.specs.Empty.{empty_node, empty_client}
use Rattle.rwvote.proofs.main.OwnLists.{own-2}
use Rattle.rwvote.proofs.main.Given as goal

abbrev pub invariant-loop : goal.invariant-loop
invariant-loop g l = length l.world.pairs.items ≡ l.counter

abbrev pub invariant-loop-2 : goal.invariant-loop-2
invariant-loop-2 g l = length l.threads.pairs.items ≡ l.counter

abbrev pub invariant-loop-3 : goal.invariant-loop-3
invariant-loop-3 g l = record {
  first : map (λ b. (own-2.entry b.vtable).1.finds b.value) l.records.first.items ≡ replicate l.counter (empty_node First);
  second : map (λ b. (own-2.entry b.vtable).1.finds b.value) l.records.second.items ≡ replicate l.counter (empty_node Second);
  clients : map (λ b. (own-2.entry b.vtable).1.finds b.value) l.records.clients.items ≡ replicate 0 empty_client;
}

abbrev pub invariant-loop-4 : goal.invariant-loop-4
invariant-loop-4 g l = record {
  first : map (λ b. (own-2.entry b.vtable).1.finds b.value) l.records.first.items ≡ replicate MAX_NODES (empty_node First);
  second : map (λ b. (own-2.entry b.vtable).1.finds b.value) l.records.second.items ≡ replicate MAX_NODES (empty_node Second);
  clients : map (λ b. (own-2.entry b.vtable).1.finds b.value) l.records.clients.items ≡ replicate l.counter empty_client;
}
