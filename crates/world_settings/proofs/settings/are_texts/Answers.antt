use Rattle.std.proofs.Common.{◌∙◌}
use Rattle.world_settings.proofs.SettingsFacts.{texts_view}
use Rattle.world_settings.proofs.settings.are_texts.Goals as goal

pub returns : goal.returns
returns c = c.each_is_text.ensures ∙ texts_view c.args.values.now
