use Rattle.lock_model.proofs.EntryTests.{differ-iff, differ-is}
use Rattle.lock_model.proofs.decision.differ.Goals as goal

pub returns : goal.returns
returns c = record {
  differ = differ-iff c.args.before.now c.args.after.now _ c.ne.ensures;
  test = differ-is c.args.before.now c.args.after.now _ c.ne.ensures;
}
