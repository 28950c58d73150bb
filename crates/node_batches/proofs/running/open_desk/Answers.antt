use Rattle.std.proofs.Common.{rules, false, ◌∙◌}
use Rattle.node_batches.proofs.RunFacts.{ready_found, found_or, kept_or}
use Rattle.node_batches.proofs.running.open_desk.Goals as goal

-- Until the record is kept, it has what it had.

pub returns-in_err-found-clause-only : goal.returns-in_err-found-clause-only
returns-in_err-found-clause-only g c = found_or _ _ _ c.found_in.ensures.only

pub rise_with-requires : goal.rise_with-requires
rise_with-requires g c = ready_found _ _ c.deref.result.now c.in_ok-found.found.items _ _ c.requires c.in_ok-found.ensures.found c.found_in.ensures.only c.deref.ensures.value

pub returns-in_err-desk-clause-only : goal.returns-in_err-desk-clause-only
returns-in_err-desk-clause-only g c = found_or _ _ _ c.found_in.ensures.only

pub returns-in_err-next-clause-only : goal.returns-in_err-next-clause-only
returns-in_err-next-clause-only g c = found_or _ _ _ c.found_in.ensures.only

pub returns-in_default-clause-only : goal.returns-in_default-clause-only
returns-in_default-clause-only g c = found_or _ _ _ c.found_in.ensures.only

pub returns-in_err-keep-clause-only : goal.returns-in_err-keep-clause-only
returns-in_err-keep-clause-only g c =
    kept_or c.let_out.new.self.log c.in_ok-desk.desk.core c.in_ok-desk.desk.copy c.in_ok-found.found.items c.deref-3.result.now c.deref-4.result.now false _ _ _ c.found_in.ensures.only c.in_ok-found.ensures.found c.deref-3.ensures.value c.keep.ensures.only (search rules)
    (c.deref-4.ensures.value ∙ c.in_ok-next.ensures.bytes)
