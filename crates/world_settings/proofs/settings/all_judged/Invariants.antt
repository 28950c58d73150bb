use Rattle.std.proofs.Common.{◌≡◌, drop, map, [], ◌∷◌}
use Rattle.world_settings.specs.Settings.{onto, numbers_of, all_judged}
use Rattle.world_settings.proofs.settings.all_judged.Given as goal

-- the ballots so far and those of the rest are all
abbrev pub invariant-loop-numbers : goal.invariant-loop-numbers
invariant-loop-numbers l = onto l.ballots.items (all_judged (map numbers_of (drop l.numbers-index l.more))) ≡ onto (l.fn.first ∷ []) (all_judged (map numbers_of l.more))
