use Rattle.std.proofs.Common.{◌≡◌, ◌∙◌, codes, refl, sym, ap}
use Rattle.std.specs.Fmt.{digits}
use Rattle.lossy_link.specs.declared.faults.WeatherFault.{WeatherFault}
use Rattle.lossy_link.specs.declared.faults.WeatherFault.TheVariants.{OverThousand}
use Rattle.lossy_link.specs.Faults.{weather_fault_number}
use Rattle.operator_cli.specs.Texts.{settings_fault_text}
use Rattle.operator_cli.proofs.serving.weather_text.Goals as goal

text_901 : codes "settings fault 901\n" ≡ settings_fault_text 901
unfolding digits
text_901 = refl

only_one : (f : WeatherFault) → weather_fault_number f ≡ 901
only_one OverThousand = refl

pub returns : goal.returns
returns c = text_901 ∙ ap settings_fault_text (sym (only_one c.args.fault))
