use Rattle.std.proofs.Common.{◌≤◌, length, arith}
use Rattle.lock_messages.specs.declared.ids.TheConstants.{MAX_CLIENTS}
use Rattle.stable_record.proofs.CountFacts.{few_clients}
use Rattle.stable_record.proofs.entries.Entries.len.Goals as goal

pub returns-clause-few : goal.returns-clause-few
returns-clause-few c =
    let list = c.self.inside.list in
    let most : length list.items ≤ MAX_CLIENTS = few_clients list.items c.self.invariant.once c.self.invariant.clients in
    omega (arith, c.len.ensures, list.ok.0)
