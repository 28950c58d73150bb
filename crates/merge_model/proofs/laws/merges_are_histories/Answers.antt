use Rattle.std.proofs.Common.{refl, subst, sym}
use Rattle.world_model.specs.Parts.{part}
use Rattle.merge_model.specs.OwnRuns.{IsOwnRun}
use Rattle.merge_model.proofs.OwnRunFacts.{own-turns}
use Rattle.merge_model.proofs.Histories.{merge-told}
use Rattle.merge_model.proofs.laws.merges_are_histories.Goals as goal

pub returns : goal.returns
returns c = λ w logs history m room.
    let turns = own-turns w.ballots history (part w) (λ who. subst (λ own. IsOwnRun w.ballots who (part w who) own) (sym (m.interleaved who)) (m.own who)) in
    let t = merge-told c.steps_change_one_part.ensures.changes history w (part w) w.sent (λ who. refl) (λ x a. a) turns m.sourced room in
    (t.told, t.world, t.is, t.content)
