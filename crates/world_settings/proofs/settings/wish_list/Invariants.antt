use Rattle.std.proofs.Common.{◌≡◌, drop}
use Rattle.toml.specs.View.{items_view}
use Rattle.world_settings.specs.Settings.{onto, wishes_in}
use Rattle.world_settings.proofs.settings.wish_list.Given as goal

-- the wishes so far and those of the rest are those of all
abbrev pub invariant-loop-value : goal.invariant-loop-value
invariant-loop-value l = onto l.wishes.items (wishes_in l.clients l.count (items_view (drop l.value-index l.values))) ≡ wishes_in l.clients l.count (items_view l.values)
