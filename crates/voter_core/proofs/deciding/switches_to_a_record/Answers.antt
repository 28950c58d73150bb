use Rattle.std.proofs.Common.{[]}
use Rattle.voter_core.proofs.RangeFacts.{range-settle}
use Rattle.voter_core.proofs.deciding.switches_to_a_record.Goals as goal

pub returns-clause-record : goal.returns-clause-record
returns-clause-record c =
    let r = c.args.station.now in
    let h = c.requires in
    let a = c.switch_is_allowed.ensures.allowed r.problem c.args.problem r.entries c.args.node h.well_formed h.lawful in
    let range = range-settle c.args.problem [] r.entries h.entries in
    record { few = c.entries_are_few.ensures _ a.well_formed.once range; entries = range; well_formed = a.well_formed; lawful = a.lawful; caused = a.caused }

pub returns-clause-allowed : goal.returns-clause-allowed
returns-clause-allowed c =
    let r = c.args.station.now in
    let h = c.requires in
    c.switch_is_allowed.ensures.allowed r.problem c.args.problem r.entries c.args.node h.well_formed h.lawful
