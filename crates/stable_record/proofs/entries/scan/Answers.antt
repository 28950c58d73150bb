use Rattle.std.proofs.Common.{ap, ◌∙◌, is_some}
use Rattle.lock_model.specs.ExactStations.{is_of}
use Rattle.stable_record.proofs.ListFacts.{first-place, place-some}
use Rattle.stable_record.proofs.entries.scan.Goals as goal

pub returns-clause-known : goal.returns-clause-known
returns-clause-known c = ap is_some c.first_of.ensures ∙ place-some (is_of c.args.client) c.args.list.now

pub returns-clause-place : goal.returns-clause-place
returns-clause-place c = first-place c.args.client c.args.list.now c.first_of.result c.first_of.ensures
