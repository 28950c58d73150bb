use Rattle.std.proofs.Common.{◌≡◌, drop, map, find, ◌==◌}
use Rattle.fault_numbers.specs.Numbers.{words_in}
use Rattle.fault_numbers.specs.Tables.{Words}
use Rattle.fault_numbers.proofs.searching.found_in.Given as goal

abbrev pub invariant-loop-text : goal.invariant-loop-text
invariant-loop-text l =
    find {X = Words} (λ w. w.number == l.number) (map words_in (drop l.text-index l.texts)) ≡ find {X = Words} (λ w. w.number == l.number) (map words_in l.texts)
