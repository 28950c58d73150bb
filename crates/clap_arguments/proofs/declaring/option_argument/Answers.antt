use Rattle.std.proofs.Common.{◌≡◌, ◌∙◌, Some, List, ℕ, ap}
use Rattle.clap.specs.Walk.{Rule, rule_of}
use Rattle.clap.specs.declared.builder.action.ArgAction.TheVariants.{Set}
use Rattle.clap.specs.declared.builder.arg.Arg.{Arg}
use Rattle.clap_arguments.proofs.declaring.option_argument.Goals as goal

abbrev with_long : List ℕ → Rule → Rule
with_long name r = record r { long = Some name }

abbrev with_value : Rule → Rule
with_value r = record r { value_names = 1 }

abbrev with_action : Rule → Rule
with_action r = record r { action = Some Set }

pub returns-clause-rule : goal.returns-clause-rule
returns-clause-rule c =
    let l : rule_of c.long.result ≡ with_long c.args.name.now (rule_of c.new.result) = ap rule_of c.long.ensures in
    let v : rule_of c.value_name.result ≡ with_value (rule_of c.long.result) = ap rule_of c.value_name.ensures in
    let a : rule_of c.action.result ≡ with_action (rule_of c.value_name.result) = ap rule_of c.action.ensures in
    let h : rule_of c.help.result ≡ rule_of c.action.result = ap rule_of c.help.ensures in
    h ∙ a ∙ ap with_action (v ∙ ap with_value (l ∙ ap (with_long c.args.name.now) c.new.ensures.rule))

pub returns-clause-local : goal.returns-clause-local
returns-clause-local c =
    let global = λ (x : Arg). x.global in
    ap global c.help.ensures ∙ ap global c.action.ensures ∙ ap global c.value_name.ensures ∙ ap global c.long.ensures ∙ c.new.ensures.optional.1
