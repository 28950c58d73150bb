use Rattle.std.proofs.Common.{codes}
use Rattle.clap.specs.Words.{App, with_rule}
use Rattle.picture_cli.specs.Words.{bare_app, option_rule}
use Rattle.picture_cli.proofs.WordFacts.{with_option}
use Rattle.picture_cli.proofs.reading.words_taken.Goals as goal

abbrev first : App
first = with_rule bare_app (option_rule (codes "from"))

abbrev second : App
second = with_rule first (option_rule (codes "to"))

pub returns : goal.returns
returns c =
    let one = with_option c.bare.result c.in_ok-with_from.with_from c.option-from.result bare_app (option_rule (codes "from")) c.in_ok-with_from.ensures c.bare.ensures c.option-from.ensures.rule c.option-from.ensures.local in
    let two = with_option c.in_ok-with_from.with_from c.in_ok-with_both.with_both c.option-upto.result first (option_rule (codes "to")) c.in_ok-with_both.ensures one c.option-upto.ensures.rule c.option-upto.ensures.local in
    with_option c.in_ok-with_both.with_both c.in_ok-with_all.with_all c.option-resource.result second (option_rule (codes "resource")) c.in_ok-with_all.ensures two c.option-resource.ensures.rule c.option-resource.ensures.local
