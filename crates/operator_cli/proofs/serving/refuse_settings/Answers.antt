use Rattle.std.proofs.Common.{List, ℕ, subst, ◌∙◌}
use Rattle.operator_cli.specs.Outputs.{Prints}
use Rattle.operator_cli.proofs.serving.refuse_settings.Goals as goal

pub returns : goal.returns
returns g c =
    let out = g.W.Write.contents in
    subst (λ (t : List ℕ). Prints (record { text = t; status = 2 }) (out c.args.writer.now) (out c.print.new.writer) c.print.result) (c.as_bytes.ensures.value ∙ c.settings_text.ensures) c.print.ensures
