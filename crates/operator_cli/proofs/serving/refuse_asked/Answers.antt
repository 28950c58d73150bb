use Rattle.std.proofs.Common.{subst}
use Rattle.operator_cli.specs.Outputs.{Output, Prints}
use Rattle.operator_cli.proofs.ServeFacts.{plain_refusal, weather_refusal, wish_refusal}
use Rattle.operator_cli.proofs.serving.refuse_asked.Goals as goal

pub returns-in-NoEnd : goal.returns-in-NoEnd
returns-in-NoEnd g c =
    let out = g.W.Write.contents in
    subst (λ (o : Output). Prints o (out c.args.writer.now) (out c.refuse_settings.new.writer) c.refuse_settings.result) (plain_refusal c.args.fault c.in-NoEnd.is) c.refuse_settings.ensures

pub returns-in-Weather : goal.returns-in-Weather
returns-in-Weather g c =
    let out = g.W.Write.contents in
    subst (λ (o : Output). Prints o (out c.args.writer.now) (out c.refuse_settings-in-Weather.new.writer) c.refuse_settings-in-Weather.result) (weather_refusal c.args.fault c.in-Weather.field-0 c.in-Weather.is) c.refuse_settings-in-Weather.ensures

pub returns-in-Wish : goal.returns-in-Wish
returns-in-Wish g c =
    let out = g.W.Write.contents in
    subst (λ (o : Output). Prints o (out c.args.writer.now) (out c.refuse_settings-in-Wish.new.writer) c.refuse_settings-in-Wish.result) (wish_refusal c.args.fault c.in-Wish.field-0 c.in-Wish.is) c.refuse_settings-in-Wish.ensures
