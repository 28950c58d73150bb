use Rattle.event_recorders.proofs.OwnLogFacts.{parts-follow, records-stay}
use Rattle.event_recorders.proofs.laws.own_logs_tell_parts.Goals as goal

pub returns-clause-parts : goal.returns-clause-parts
returns-clause-parts c = parts-follow

pub returns-clause-records : goal.returns-clause-records
returns-clause-records c = records-stay
