-- How many entries have a live ticket of a kind, by the first of them.
use Rattle.std.proofs.Common.{◌≡◌, Bool, true, false, cond, filter, ◌+◌, List, ◌∷◌, length, arith}
use Rattle.lock_model.specs.declared.entries.Entry.{Entry}
use Rattle.lock_model.specs.declared.entries.Live.{Live}
use Rattle.lock_model.specs.ExactStations.{if_live}
use Rattle.stable_record.specs.Lines.{count_live, one_if}

pub count-first : (test : Live → Bool) (e : Entry) (es : List Entry) → count_live test (e ∷ es) ≡ one_if (if_live test e.live) + count_live test es
count-first test e es = go (if_live test e.live)
  where
    left : List Entry
    left = filter (λ d. if_live test d.live) es

    go : (b : Bool) → length (cond b (e ∷ left) left) ≡ one_if b + length left
    go true = omega arith
    go false = omega arith
