use Rattle.std.proofs.Common.{◌≡◌, ◌-◌}
use Rattle.std.specs.List.{flat_map, range_with_len}
use Rattle.std.specs.Option.{option_to_list}
use Rattle.world_model.specs.ExactWorlds.{numbered}
use Rattle.journal_picture.proofs.telling.said_from.Given as goal

abbrev pub invariant-loop-number : goal.invariant-loop-number
invariant-loop-number g l = l.said.items ≡ flat_map (λ k. option_to_list (numbered l.world.sent k)) (range_with_len l.first (l.number - l.first))
