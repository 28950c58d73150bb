use Rattle.book_recorders.proofs.Logging.{added_if}
use Rattle.book_recorders.proofs.shared.BookRecorderRecorder.log_reading.Goals as goal

pub returns-clause-logged : goal.returns-clause-logged
returns-clause-logged g c = added_if c.steps_change_one_part.ensures.effects c.log_event.result c.args.self.now c.args.event c.log_event.new.self c.log_event.ensures.goes_on
