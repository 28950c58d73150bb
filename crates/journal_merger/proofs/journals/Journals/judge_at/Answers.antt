use Rattle.std.proofs.Common.{◌<◌, length, refl, arith}
use Rattle.std.proofs.lemmas.Option.{slice_get_read}
use Rattle.journal_merger.proofs.PendingFacts.{apart-set}
use Rattle.journal_merger.proofs.journals.Journals.judge_at.Goals as goal

pub invariant_of-self : goal.invariant_of-self
invariant_of-self g c =
    let within : c.args.index < length c.self.inside.journals.items = omega (arith, c.if-index-len.false, c.len.ensures) in
    apart-set c.args.index c.self.inside.journals.items c.index_mut.result.now c.judge_on.new.self
    (slice_get_read c.self.inside.journals.items (length c.self.inside.journals.items) c.args.index c.index_mut.result.now refl within c.index_mut.ensures.value) c.judge_on.ensures.who c.self.invariant
