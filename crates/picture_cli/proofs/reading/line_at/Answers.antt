use Rattle.clap.specs.Words.{found_of}
use Rattle.picture_cli.proofs.WordFacts.{line_told, line_absent}
use Rattle.picture_cli.proofs.reading.line_at.Goals as goal

pub returns-in-Some : goal.returns-in-Some
returns-in-Some c = line_told (found_of c.args.found.now) c.args.name.now c.in-Some.text.now c.args.absent c.line_in.result c.in-Some.ensures c.line_in.ensures

pub returns-in-None : goal.returns-in-None
returns-in-None c = line_absent (found_of c.args.found.now) c.args.name.now c.args.absent c.in-None.ensures
