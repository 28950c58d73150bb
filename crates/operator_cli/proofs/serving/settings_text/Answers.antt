use Rattle.std.proofs.Common.{◌≡◌, ◌∙◌, codes, refl, sym, ap}
use Rattle.std.specs.Fmt.{digits}
use Rattle.world_settings.specs.declared.faults.SettingsFault.{SettingsFault}
use Rattle.world_settings.specs.Faults.{settings_fault_number}
use Rattle.operator_cli.specs.Texts.{settings_fault_text}
use Rattle.operator_cli.proofs.serving.settings_text.Goals as goal

text_921 : codes "settings fault 921\n" ≡ settings_fault_text 921
unfolding digits
text_921 = refl

pub returns-in-NoDocument : goal.returns-in-NoDocument
returns-in-NoDocument c = text_921 ∙ ap (λ (f : SettingsFault). settings_fault_text (settings_fault_number f)) (sym c.in-NoDocument.is)

text_922 : codes "settings fault 922\n" ≡ settings_fault_text 922
unfolding digits
text_922 = refl

pub returns-in-Value : goal.returns-in-Value
returns-in-Value c = text_922 ∙ ap (λ (f : SettingsFault). settings_fault_text (settings_fault_number f)) (sym c.in-Value.is)

text_923 : codes "settings fault 923\n" ≡ settings_fault_text 923
unfolding digits
text_923 = refl

pub returns-in-UnknownKey : goal.returns-in-UnknownKey
returns-in-UnknownKey c = text_923 ∙ ap (λ (f : SettingsFault). settings_fault_text (settings_fault_number f)) (sym c.in-UnknownKey.is)

text_924 : codes "settings fault 924\n" ≡ settings_fault_text 924
unfolding digits
text_924 = refl

pub returns-in-NoEnd : goal.returns-in-NoEnd
returns-in-NoEnd c = text_924 ∙ ap (λ (f : SettingsFault). settings_fault_text (settings_fault_number f)) (sym c.in-NoEnd.is)

text_925 : codes "settings fault 925\n" ≡ settings_fault_text 925
unfolding digits
text_925 = refl

pub returns-in-Memory : goal.returns-in-Memory
returns-in-Memory c = text_925 ∙ ap (λ (f : SettingsFault). settings_fault_text (settings_fault_number f)) (sym c.in-Memory.is)
