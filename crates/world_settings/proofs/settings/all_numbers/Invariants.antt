use Rattle.std.proofs.Common.{◌≡◌, drop, map}
use Rattle.toml.specs.View.{items_view}
use Rattle.world_settings.specs.Settings.{onto, numbers_of, all_numbers}
use Rattle.world_settings.proofs.settings.all_numbers.Given as goal

-- the numbers so far and those of the rest are those of all
abbrev pub invariant-loop-value : goal.invariant-loop-value
invariant-loop-value l = onto (map numbers_of l.all.items) (all_numbers (items_view (drop l.value-index l.values))) ≡ all_numbers (items_view l.values)
