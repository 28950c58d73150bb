use Rattle.std.proofs.Common.{◌∙◌, ap, codes}
use Rattle.clap.specs.Words.{Shape, Rule, shape_of, rule_of}
use Rattle.clap_arguments.specs.Arguments.{adding, flag_rule}
use Rattle.service_words.proofs.commands.with_journal.Goals as goal

pub returns : goal.returns
returns c =
    let synced = rule_of c.flag-synced.result in
    let before = shape_of c.args.command in
    record {
      shape = c.in_ok-with_synced.ensures.shape ∙ ap (λ (s : Shape). adding s synced) c.in_ok-with_none.ensures.shape
          ∙ ap (λ (r : Rule). adding (adding before r) synced) c.flag-none.ensures.rule ∙ ap (λ (r : Rule). adding (adding before (flag_rule (codes "no-journal"))) r) c.flag-synced.ensures.rule;
      local = c.in_ok-with_synced.ensures.local;
    }
