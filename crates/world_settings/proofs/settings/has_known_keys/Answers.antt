use Rattle.std.proofs.Common.{◌∙◌}
use Rattle.world_settings.specs.Settings.{is_known}
use Rattle.world_settings.proofs.SettingsFacts.{keys_view}
use Rattle.world_settings.proofs.settings.has_known_keys.Goals as goal

pub returns : goal.returns
returns c = c.each_key_is_known.ensures ∙ keys_view is_known c.args.table.now.entries
