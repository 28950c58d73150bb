use Rattle.std.proofs.Common.{◌≡◌, ◌∙◌, codes, refl, sym, ap}
use Rattle.std.specs.Fmt.{digits}
use Rattle.event_lines.specs.declared.faults.LineFault.{LineFault}
use Rattle.event_lines.specs.Faults.{line_fault_number}
use Rattle.operator_cli.specs.Texts.{settings_fault_text}
use Rattle.operator_cli.proofs.serving.wish_text.Goals as goal

text_801 : codes "settings fault 801\n" ≡ settings_fault_text 801
unfolding digits
text_801 = refl

pub returns-in-Word : goal.returns-in-Word
returns-in-Word c = text_801 ∙ ap (λ (f : LineFault). settings_fault_text (line_fault_number f)) (sym c.in-Word.is)

text_802 : codes "settings fault 802\n" ≡ settings_fault_text 802
unfolding digits
text_802 = refl

pub returns-in-Actor : goal.returns-in-Actor
returns-in-Actor c = text_802 ∙ ap (λ (f : LineFault). settings_fault_text (line_fault_number f)) (sym c.in-Actor.is)

text_803 : codes "settings fault 803\n" ≡ settings_fault_text 803
unfolding digits
text_803 = refl

pub returns-in-Number : goal.returns-in-Number
returns-in-Number c = text_803 ∙ ap (λ (f : LineFault). settings_fault_text (line_fault_number f)) (sym c.in-Number.is)

text_804 : codes "settings fault 804\n" ≡ settings_fault_text 804
unfolding digits
text_804 = refl

pub returns-in-Name : goal.returns-in-Name
returns-in-Name c = text_804 ∙ ap (λ (f : LineFault). settings_fault_text (line_fault_number f)) (sym c.in-Name.is)

text_805 : codes "settings fault 805\n" ≡ settings_fault_text 805
unfolding digits
text_805 = refl

pub returns-in-Words : goal.returns-in-Words
returns-in-Words c = text_805 ∙ ap (λ (f : LineFault). settings_fault_text (line_fault_number f)) (sym c.in-Words.is)
