use Rattle.std.proofs.Common.{◌≡◌, ◌∙◌, true, Some, ap}
use Rattle.clap.specs.Walk.{Rule, rule_of}
use Rattle.clap.specs.declared.builder.action.ArgAction.TheVariants.{Append}
use Rattle.clap.specs.declared.builder.arg.Arg.{Arg}
use Rattle.clap_arguments.proofs.declaring.words_argument.Goals as goal

abbrev with_value : Rule → Rule
with_value r = record r { value_names = 1 }

abbrev with_need : Rule → Rule
with_need r = record r { required = true }

abbrev with_action : Rule → Rule
with_action r = record r { action = Some Append }

pub returns-clause-rule : goal.returns-clause-rule
returns-clause-rule c =
    let v : rule_of c.value_name.result ≡ with_value (rule_of c.new.result) = ap rule_of c.value_name.ensures in
    let n : rule_of c.required.result ≡ with_need (rule_of c.value_name.result) = ap rule_of c.required.ensures in
    let a : rule_of c.action.result ≡ with_action (rule_of c.required.result) = ap rule_of c.action.ensures in
    let h : rule_of c.help.result ≡ rule_of c.action.result = ap rule_of c.help.ensures in
    h ∙ a ∙ ap with_action (n ∙ ap with_need (v ∙ ap with_value c.new.ensures.rule))

pub returns-clause-local : goal.returns-clause-local
returns-clause-local c =
    let global = λ (x : Arg). x.global in
    ap global c.help.ensures ∙ ap global c.action.ensures ∙ ap global c.required.ensures ∙ ap global c.value_name.ensures ∙ c.new.ensures.optional.1
