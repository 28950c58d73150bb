use Rattle.std.proofs.Common.{List, subst}
use Rattle.event_lines.specs.declared.wishes.Wish.{Wish}
use Rattle.world_settings.specs.Settings.{given}
use Rattle.run_service.specs.Ends.{End, IsEndOf}
use Rattle.run_service.proofs.RunFacts.{settings_refused, told_by}
use Rattle.run_service.proofs.serving.run_head.Goals as goal

pub returns-in-Err-clause-told : goal.returns-in-Err-clause-told
returns-in-Err-clause-told g c =
    let out = g.W.Write.contents in
    settings_refused c.args.journal c.args.head.now c.in-Err.fault (out c.args.writer.now) (out c.refuse_start.new.writer) c.refuse_start.result c.in-Err.ensures.start c.refuse_start.ensures.told

pub returns-clause-told : goal.returns-clause-told
returns-clause-told g c =
    let out = g.W.Write.contents in
    let start = c.in-Ok.start in
    let ran = c.in-Ok-run.end in
    let ended : End = record { history = ran.book.history; world = ran.book.world; faults = ran.faults.items } in
    told_by c.args.journal c.args.head.now (given start) (out c.args.writer.now) (out c.tell.new.writer) c.tell.result c.in-Ok.ensures.start
    (c.tell.ensures.told start.wishes.items (subst (λ (ws : List Wish). IsEndOf start.settings ws ended) c.as_slice.ensures.value c.in-Ok-run.ensures.end))
