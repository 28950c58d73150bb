use Rattle.std.proofs.Common.{◌<◌, length, List, ℕ, get_or, set, ap, ◌∙◌, rules}
use Rattle.std.proofs.lemmas.List.Folds.{list_all_more}
use Rattle.lock_messages.specs.Names.{is_name_byte}
use Rattle.lock_messages.proofs.NameFacts.{set-padded}
use Rattle.lock_messages.proofs.names.room_of.Goals as goal

pub loop-i-preserved : goal.loop-i-preserved
loop-i-preserved c =
    let bytes = c.args.bytes.now in
    let i = c.loop-i.i in
    let h : i < length bytes = c.loop-i-test.true in (
      ap (λ (room : List ℕ). set room i (get_or bytes i 0)) c.loop-i.invariant.0 ∙ set-padded bytes i h c.requires,
      rw (list_all_more is_name_byte bytes i 0 h, c.loop-i.invariant.1) (search rules),
    )
