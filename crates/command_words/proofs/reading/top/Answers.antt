use Rattle.command_words.specs.Words.{bare_app, explain_rule}
use Rattle.clap_arguments.proofs.ShapeFacts.{with_flag}
use Rattle.command_words.proofs.reading.top.Goals as goal

pub returns : goal.returns
returns c =
    with_flag c.bare_top.result c.in_ok-with_flag.with_flag c.explain_flag.result bare_app explain_rule c.in_ok-with_flag.ensures c.bare_top.ensures.app c.explain_flag.ensures.rule
    c.explain_flag.ensures.local
