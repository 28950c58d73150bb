use Rattle.std.proofs.Common.{List, length, sym, subst}
use Rattle.journal_merger.specs.Pendings.{Pending}
use Rattle.journal_merger.specs.Merges.{Goes}
use Rattle.journal_merger.specs.Judging.{IsWithin}
use Rattle.journal_merger.proofs.JudgeFacts.{Finds, stands-first, took-on, found-refused, found-stuck, found-merged}
use Rattle.journal_merger.proofs.judging.judge_all.Goals as goal

pub loop-lines-init : goal.loop-lines-init
loop-lines-init g c = λ w of. (w, stands-first w c.args.journals.now, of)

pub pass-requires : goal.pass-requires
pass-requires g c =
    let within = subst (λ (js : List Pending). IsWithin (length js) c.in-Ok.found) c.all.ensures c.in-Ok.ensures.within in
    subst (λ f. IsWithin (length c.loop-lines.journals) f) c.in-Took.is within

pub loop-lines-preserved : goal.loop-lines-preserved
loop-lines-preserved g c = λ w of.
    let (u, stands, at) = c.loop-lines.invariant w of in
    let (v, found, now) = subst (λ (js : List Pending). Finds u js c.in-Ok.found c.judge_round.new.judge) c.all.ensures (c.in-Ok.ensures.found u at) in (
      v,
      took-on c.judging_is_exact.ensures.taking w u v c.args.journals.now c.loop-lines.journals c.pass.new.self c.in-Took.journal c.loop-lines.lines c.in-Took.field-1 c.in-Ok.found stands c.tell_apart.ensures c.in-Took.is found c.in-Ok-pass.ensures.read,
      now (subst Goes (sym c.in-Took.is) tt),
    )

pub returns-in-Refused : goal.returns-in-Refused
returns-in-Refused g c = λ w of.
    let (u, stands, at) = c.loop-lines.invariant w of in
    let (v, found, now) = subst (λ (js : List Pending). Finds u js c.in-Ok.found c.judge_round.new.judge) c.all.ensures (c.in-Ok.ensures.found u at) in
    found-refused c.judging_is_exact.ensures.refused w u v c.args.journals.now c.loop-lines.journals c.in-Refused.journal c.loop-lines.lines c.in-Refused.why c.in-Ok.found stands c.in-Refused.is found

pub returns-in-Stuck : goal.returns-in-Stuck
returns-in-Stuck g c = λ w of.
    let (u, stands, at) = c.loop-lines.invariant w of in
    let (v, found, now) = subst (λ (js : List Pending). Finds u js c.in-Ok.found c.judge_round.new.judge) c.all.ensures (c.in-Ok.ensures.found u at) in
    found-stuck c.judging_is_exact.ensures.waiting w u v c.args.journals.now c.loop-lines.journals c.loop-lines.lines c.in-Ok.found stands c.in-Stuck.is found

pub returns-in-Merged : goal.returns-in-Merged
returns-in-Merged g c = λ w of.
    let (u, stands, at) = c.loop-lines.invariant w of in
    let (v, found, now) = subst (λ (js : List Pending). Finds u js c.in-Ok.found c.judge_round.new.judge) c.all.ensures (c.in-Ok.ensures.found u at) in
    found-merged c.judging_is_exact.ensures.merged w u v c.args.journals.now c.loop-lines.journals c.loop-lines.lines c.in-Ok.found stands c.in-Merged.is found
