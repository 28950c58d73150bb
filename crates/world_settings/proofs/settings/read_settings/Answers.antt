use Rattle.std.proofs.Common.{◌≡◌, true, false, Result, ◌∙◌, sym, subst}
use Rattle.world_settings.specs.declared.faults.SettingsFault.{SettingsFault}
use Rattle.world_settings.specs.Settings.{Given, Judges, given}
use Rattle.world_settings.proofs.SettingsFacts.{no_text, no_document, unknown_key, known_keys_alone}
use Rattle.world_settings.proofs.settings.read_settings.Goals as goal

pub returns-in_default-clause-start : goal.returns-in_default-clause-start
returns-in_default-clause-start c = no_text c.args.command c.args.head.now c.in_default.ensures.cases.0

pub returns-in-Err-clause-start : goal.returns-in-Err-clause-start
returns-in-Err-clause-start c =
    no_document c.args.command c.args.head.now c.in-Ok.text.now c.in-Ok.ensures.cases.0 c.in-Ok.ensures.cases.1
    (c.in-Err.ensures.refused (λ m. let t : true ≡ false = sym (c.is_memory.ensures.1 m) ∙ c.if-is_memory.false in cc))

pub returns-then-not-has_known_keys-clause-start : goal.returns-then-not-has_known_keys-clause-start
returns-then-not-has_known_keys-clause-start c =
    unknown_key c.args.command c.args.head.now c.in-Ok.text.now _ c.in-Ok.ensures.cases.0 c.in-Ok.ensures.cases.1 c.in-Ok-table_from_str.ensures.ok (sym c.has_known_keys.ensures ∙ c.if-not-has_known_keys.true)

pub returns-clause-start : goal.returns-clause-start
returns-clause-start c =
    let e = known_keys_alone c.args.command c.args.head.now c.in-Ok.text.now _ c.in-Ok.ensures.cases.0 c.in-Ok.ensures.cases.1 c.in-Ok-table_from_str.ensures.ok (sym c.has_known_keys.ensures ∙ c.if-not-has_known_keys.false) in
    subst (λ (j : Result Given SettingsFault). Judges given c.values_of.result j) (sym e) c.values_of.ensures.start
