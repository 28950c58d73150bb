use Rattle.std.proofs.Common.{◌++◌, ◌+◌, ◌∙◌, List, [], sym, ap, subst}
use Rattle.std.specs.Prelude.{slice_get}
use Rattle.journal_merger.specs.Pendings.{Pending, told_of}
use Rattle.journal_merger.specs.Merges.{IsFound, Goes}
use Rattle.journal_merger.proofs.StandFacts.{stands-first, counts-first, took-on, index-within, found-refused, found-stuck, found-merged}
use Rattle.journal_merger.proofs.OutFacts.{written-none, written-on, written-out, written-all, written-begins, written-part}
use Rattle.journal_merger.proofs.merging.take_all.Goals as goal

pub loop-lines-init : goal.loop-lines-init
loop-lines-init g c = ([], stands-first c.args.world.now c.args.journals.now, counts-first c.args.world.now c.args.journals.now, c.new-numbers.ensures c.args.world.now.sent, written-none (g.W.Write.contents c.args.writer.now) c.new-out.result c.new-out.ensures)

pub go_on-requires : goal.go_on-requires
go_on-requires g c = index-within c.loop-lines.world c.find_near.new.world c.loop-lines.journals c.in-Took.journal c.in-Took.taken c.in-Ok.found c.in-Took.is (subst (λ (js : List Pending). IsFound c.loop-lines.world js c.in-Ok.found c.find_near.new.world) c.all.ensures c.in-Ok.ensures.found)

pub loop-lines-preserved : goal.loop-lines-preserved
loop-lines-preserved g c =
    let (told, stands, count, index, text) = c.loop-lines.invariant in
    let on = took-on c.args.world.now c.loop-lines.world c.find_near.new.world c.args.journals.now c.loop-lines.journals c.go_on.new.self c.in-Took.journal told c.in-Took.taken c.in-Ok.found stands c.tell_apart.ensures c.in-Took.is (subst (λ (js : List Pending). IsFound c.loop-lines.world js c.in-Ok.found c.find_near.new.world) c.all.ensures c.in-Ok.ensures.found) c.in-Ok-go_on.ensures.read in (
      told ++ on.0,
      on.1,
      ap (λ n. n + 1) count ∙ sym on.3,
      c.in-Ok.ensures.index (subst Goes (sym c.in-Took.is) tt),
      written-on (g.W.Write.contents c.args.writer.now) (g.W.Write.contents c.loop-lines.writer) (g.W.Write.contents c.go_on.new.writer) c.loop-lines.out c.go_on.new.out told on.0 (told_of (slice_get c.loop-lines.journals c.in-Took.journal) c.in-Took.taken) c.go_on.result _ on.2 c.in-Ok-go_on.is text c.go_on.ensures.text,
    )

pub returns-in-Err : goal.returns-in-Err
returns-in-Err g c =
    let (told, stands, count, index, text) = c.loop-lines.invariant in
    (c.in-Err.ensures.fault, written-begins c.args.world.now c.args.journals.now c.loop-lines.journals c.loop-lines.world _ _ c.loop-lines.out told stands text)

pub returns-in-Err-go_on : goal.returns-in-Err-go_on
returns-in-Err-go_on g c =
    let (told, stands, count, index, text) = c.loop-lines.invariant in
    let out = g.W.Write.contents in (
      c.in-Err-go_on.ensures.fault,
      written-part c.args.world.now c.loop-lines.world c.find_near.new.world c.args.journals.now c.loop-lines.journals c.in-Took.journal (out c.args.writer.now) (out c.loop-lines.writer) (out c.go_on.new.writer) c.loop-lines.out c.go_on.new.out told c.in-Took.taken c.in-Ok.found c.go_on.result c.in-Err-go_on.fault
          stands c.in-Took.is (subst (λ (js : List Pending). IsFound c.loop-lines.world js c.in-Ok.found c.find_near.new.world) c.all.ensures c.in-Ok.ensures.found) text c.in-Err-go_on.is c.go_on.ensures.text,
    )

pub returns-in-Refused : goal.returns-in-Refused
returns-in-Refused g c =
    let (told, stands, count, index, text) = c.loop-lines.invariant in (
      found-refused c.merging_is_exact.ensures.refused c.args.world.now c.loop-lines.world c.find_near.new.world c.args.journals.now c.loop-lines.journals told c.in-Refused.journal c.in-Refused.why c.in-Ok.found stands c.in-Refused.is (subst (λ (js : List Pending). IsFound c.loop-lines.world js c.in-Ok.found c.find_near.new.world) c.all.ensures c.in-Ok.ensures.found),
      written-begins c.args.world.now c.args.journals.now c.loop-lines.journals c.loop-lines.world _ _ c.loop-lines.out told stands text,
    )

pub returns-in-Stuck : goal.returns-in-Stuck
returns-in-Stuck g c =
    let (told, stands, count, index, text) = c.loop-lines.invariant in (
      found-stuck c.merging_is_exact.ensures.waiting c.args.world.now c.loop-lines.world c.find_near.new.world c.args.journals.now c.loop-lines.journals told c.in-Ok.found stands c.in-Stuck.is (subst (λ (js : List Pending). IsFound c.loop-lines.world js c.in-Ok.found c.find_near.new.world) c.all.ensures c.in-Ok.ensures.found),
      written-begins c.args.world.now c.args.journals.now c.loop-lines.journals c.loop-lines.world _ _ c.loop-lines.out told stands text,
    )

pub returns-in-Ok-let_out : goal.returns-in-Ok-let_out
returns-in-Ok-let_out g c =
    let (told, stands, count, index, text) = c.loop-lines.invariant in
    let out = g.W.Write.contents in
    let all = written-out (out c.args.writer.now) (out c.loop-lines.writer) (out c.let_out.new.writer) c.loop-lines.out c.let_out.new.self told text c.in-Ok-let_out.ensures.bytes in
    found-merged c.merging_is_exact.ensures.merged c.args.world.now c.loop-lines.world c.find_near.new.world c.args.journals.now c.loop-lines.journals told c.in-Ok.found (out c.args.writer.now) (out c.let_out.new.writer) c.loop-lines.lines stands count c.in-Merged.is
    (subst (λ (js : List Pending). IsFound c.loop-lines.world js c.in-Ok.found c.find_near.new.world) c.all.ensures c.in-Ok.ensures.found) (written-all (out c.args.writer.now) (out c.let_out.new.writer) c.let_out.new.self told c.in-Ok-let_out.ensures.empty all)

pub returns-in-Err-let_out : goal.returns-in-Err-let_out
returns-in-Err-let_out g c =
    let (told, stands, count, index, text) = c.loop-lines.invariant in
    let out = g.W.Write.contents in
    let all = written-out (out c.args.writer.now) (out c.loop-lines.writer) (out c.let_out.new.writer) c.loop-lines.out c.let_out.new.self told text c.in-Err-let_out.ensures.bytes in
    (tt, written-begins c.args.world.now c.args.journals.now c.loop-lines.journals c.loop-lines.world (out c.args.writer.now) (out c.let_out.new.writer) c.let_out.new.self told stands all)

pub returns : goal.returns
returns g c =
    let (told, stands, count, index, text) = c.loop-lines.invariant in
    (tt, written-begins c.args.world.now c.args.journals.now c.loop-lines.journals c.loop-lines.world (g.W.Write.contents c.args.writer.now) (g.W.Write.contents c.loop-lines.writer) c.loop-lines.out told stands text)
