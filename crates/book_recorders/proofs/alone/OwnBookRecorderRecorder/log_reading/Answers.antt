use Rattle.book_recorders.proofs.Logging.{added_alone}
use Rattle.book_recorders.proofs.alone.OwnBookRecorderRecorder.log_reading.Goals as goal

pub returns-clause-logged : goal.returns-clause-logged
returns-clause-logged g c =
    added_alone c.steps_change_one_part.ensures.effects c.log_event.result c.args.self.now.book c.args.self.now.berth c.args.event c.log_event.new.self.book c.log_event.new.self.berth
    c.log_event.ensures.ok c.log_event.ensures.listed
