use Rattle.lock_model.specs.ExactDecisions.{changes}
use Rattle.voter_core.proofs.ChangeFacts.{one-test}
use Rattle.voter_core.proofs.RangeFacts.{range-decision}
use Rattle.voter_core.proofs.deciding.stays_a_record.Goals as goal

pub returns-clause-record : goal.returns-clause-record
returns-clause-record c =
    let r = c.args.station.now in
    let h = c.requires.record in
    let a = c.decision_is_allowed.ensures r.problem r.entries c.args.message.now c.args.node c.requires.for_node h.well_formed h.lawful h.caused in
    let range = range-decision r.problem r.entries c.args.message.now c.is_message.ensures h.entries in
    record { few = c.entries_are_few.ensures _ a.well_formed.once range; entries = range; well_formed = a.well_formed; lawful = a.lawful; caused = a.caused }

pub returns-clause-allowed : goal.returns-clause-allowed
returns-clause-allowed c =
    let r = c.args.station.now in
    let h = c.requires.record in
    c.decision_is_allowed.ensures r.problem r.entries c.args.message.now c.args.node c.requires.for_node h.well_formed h.lawful h.caused

pub returns-clause-changes : goal.returns-clause-changes
returns-clause-changes c =
    let r = c.args.station.now in
    λ b h. one-test b (changes r.problem r.entries c.args.message.now) h (c.changes_are_seen.ensures.changed r.problem r.entries c.args.message.now)
