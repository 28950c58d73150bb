use Rattle.std.proofs.Common.{◌≡◌, drop}
use Rattle.toml.specs.View.{items_view}
use Rattle.world_settings.specs.Settings.{vote_list}
use Rattle.world_settings.proofs.SettingsFacts.{with_front}
use Rattle.world_settings.proofs.settings.vote_list.Given as goal

-- the votes so far and those of the rest are those of all
abbrev pub invariant-loop-value : goal.invariant-loop-value
invariant-loop-value l = with_front l.votes.items (vote_list (items_view (drop l.value-index l.values))) ≡ vote_list (items_view l.values)
