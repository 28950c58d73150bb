use Rattle.std.proofs.Common.{codes, refl}
use Rattle.clap.specs.Words.{found_of}
use Rattle.clap_arguments.proofs.FoundFacts.{word_told, word_absent}
use Rattle.clap_arguments.proofs.finding.word_at.Goals as goal

pub returns-in-Some : goal.returns-in-Some
returns-in-Some c = word_told (found_of c.args.found.now) c.args.name.now c.in-Some.text.now c.in-Some.ensures

pub returns-in-None : goal.returns-in-None
returns-in-None c = word_absent (found_of c.args.found.now) c.args.name.now (codes "") refl c.in-None.ensures
