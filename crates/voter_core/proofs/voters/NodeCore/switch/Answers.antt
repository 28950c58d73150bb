use Rattle.std.proofs.Common.{sym, subst, None}
use Rattle.stable_record.specs.Records.{IsNodeRecord}
use Rattle.voter_core.proofs.voters.NodeCore.switch.Goals as goal

pub invariant_of-self : goal.invariant_of-self
invariant_of-self g c = record {
  good = subst (λ es. IsNodeRecord (record { problem = c.args.problem; entries = es })) (sym c.settle_all.ensures.entries) c.switches_to_a_record.ensures.record;
  indexed = c.settle_all.ensures.indexed None c.self.invariant.indexed;
}
