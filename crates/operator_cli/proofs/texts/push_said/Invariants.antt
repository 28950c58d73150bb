use Rattle.std.proofs.Common.{◌≡◌, ◌-◌, ◌++◌, string_bytes}
use Rattle.std.specs.List.{flat_map, range_with_len}
use Rattle.world_model.specs.ExactWorlds.{numbered}
use Rattle.operator_cli.specs.Texts.{found_text}
use Rattle.operator_cli.proofs.texts.push_said.Given as goal

abbrev pub invariant-loop-number : goal.invariant-loop-number
invariant-loop-number g l = string_bytes l.text ≡ string_bytes l.fn.text ++ flat_map (λ k. found_text k (numbered l.world.sent k)) (range_with_len l.first (l.number - l.first))
