use Rattle.std.proofs.Common.{◌≡◌, ◌∙◌, Some, List, ℕ, ap}
use Rattle.clap.specs.Walk.{Rule, rule_of}
use Rattle.clap.specs.declared.builder.action.ArgAction.TheVariants.{SetTrue}
use Rattle.clap.specs.declared.builder.arg.Arg.{Arg}
use Rattle.clap_arguments.proofs.declaring.flag.Goals as goal

abbrev with_long : List ℕ → Rule → Rule
with_long name r = record r { long = Some name }

abbrev with_action : Rule → Rule
with_action r = record r { action = Some SetTrue }

pub returns-clause-rule : goal.returns-clause-rule
returns-clause-rule c =
    let a : rule_of c.long.result ≡ with_long c.args.name.now (rule_of c.new.result) = ap rule_of c.long.ensures in
    let b : rule_of c.action.result ≡ with_action (rule_of c.long.result) = ap rule_of c.action.ensures in
    let d : rule_of c.help.result ≡ rule_of c.action.result = ap rule_of c.help.ensures in
    d ∙ b ∙ ap with_action (a ∙ ap (with_long c.args.name.now) c.new.ensures.rule)

pub returns-clause-local : goal.returns-clause-local
returns-clause-local c =
    let global = λ (x : Arg). x.global in
    ap global c.help.ensures ∙ ap global c.action.ensures ∙ ap global c.long.ensures ∙ c.new.ensures.optional.1
