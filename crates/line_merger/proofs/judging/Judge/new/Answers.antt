use Rattle.line_merger.proofs.JudgeFacts.{first-judge}
use Rattle.line_merger.proofs.judging.Judge.new.Goals as goal

pub returns-in-Ok : goal.returns-in-Ok
returns-in-Ok g c = first-judge c.args.world c.of-actors.result c.take_in.new.actors c.new-said.result c.take_in.new.self c.new-said.ensures c.in-Ok.ensures.adds c.of-actors.ensures c.in-Ok.ensures.forgets
