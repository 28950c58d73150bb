use Rattle.std.proofs.Common.{◌∙◌}
use Rattle.world_settings.specs.Settings.{tells_ballot}
use Rattle.world_settings.proofs.SettingsFacts.{keys_view}
use Rattle.world_settings.proofs.settings.has_ballot_keys.Goals as goal

pub returns : goal.returns
returns c = c.each_key_tells_ballot.ensures ∙ keys_view tells_ballot c.args.table.now.entries
