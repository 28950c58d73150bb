use Rattle.std.proofs.Common.{◌≡◌, ◌+◌, ◌<◌, ◌≤◌, ◌++◌, ◌∙◌, false, length, take, true}
use Rattle.std.proofs.KnownBytes.{Appends-trans, Appends-kept}
use Rattle.std.proofs.lemmas.Result.{err_from_is_err_and}
use Rattle.line_streams.specs.Streams.{with_gathered}
use Rattle.line_streams.specs.declared.writing.TheConstants.{MAX_GATHERED}
use Rattle.line_streams.proofs.StreamFacts.{grows_on, front_more, gathers}
use Rattle.line_streams.proofs.WriteFacts.{puts_part, some_left, put_part, has_room_yet, gathers_on}
use Rattle.line_streams.proofs.writing.Gathered.put.Given as given
use Rattle.line_streams.proofs.writing.Gathered.put.Goals as goal

pub returns-in_err-make_room-clause-grows : goal.returns-in_err-make_room-clause-grows
returns-in_err-make_room-clause-grows g c = grows_on _ _ _ c.loop-rest.invariant.grown c.make_room.ensures.grows

pub returns-in_err-make_room-clause-text : goal.returns-in_err-make_room-clause-text
returns-in_err-make_room-clause-text g c =
    let (front, e, p) = c.loop-rest.invariant.front in
    let failed = err_from_is_err_and c.from_residual.result c.from_residual.ensures.1 in
    puts_part c.from_residual.result _ _ c.args.text.now failed.0 failed.1
    (put_part c.args.text.now front c.loop-rest.rest.now _ _ _ e p c.make_room.ensures.kept (some_left c.loop-rest.rest.now c.is_empty.result c.is_empty.ensures c.loop-rest-test.true))

-- no text that fits ends so
never : (g : given.Over) (c : goal.After-from_residual g) → length c.args.self.now + length c.args.text.now ≤ MAX_GATHERED → ⊥
never g c fits =
    let (same, all) = c.loop-rest.invariant.quiet fits in
    let some : 0 < length c.loop-rest.rest.now = some_left c.loop-rest.rest.now c.is_empty.result c.is_empty.ensures c.loop-rest-test.true in
    let (written, held, ok) = c.in_err-make_room.ensures.quiet (has_room_yet MAX_GATHERED c.args.self.now c.args.text.now c.loop-rest.self c.loop-rest.rest.now all some fits) in
    let z : false ≡ true = ok in cc

pub returns-in_err-make_room-clause-quiet : goal.returns-in_err-make_room-clause-quiet
returns-in_err-make_room-clause-quiet g c fits = absurd (never g c fits)

pub returns-in_err-make_room-clause-held : goal.returns-in_err-make_room-clause-held
returns-in_err-make_room-clause-held g c fits = absurd (never g c fits)

pub loop-rest-preserved : goal.loop-rest-preserved
loop-rest-preserved g c =
    let out = g.W.Write.contents in
    let (front, e, p) = c.loop-rest.invariant.front in
    let rest = c.loop-rest.rest.now in
    let count = c.gather-count.result in
    let written = out c.make_room.new.writer in
    let old = with_gathered (out c.args.writer.now) c.args.self.now in
    let mid = with_gathered written c.make_room.new.self in
    record {
      front = (
        front ++ take count rest,
        front_more c.args.text.now front rest c.split_at.result.1.now count e c.split_at.ensures.back,
        Appends-trans old mid (with_gathered written c.gather-count.new.self) front (take count rest)
            (Appends-kept old (with_gathered (out c.loop-rest.writer) c.loop-rest.self) mid front p c.make_room.ensures.kept)
            (gathers written c.make_room.new.self (take count rest) c.gather-count.new.self c.gather-count.ensures.bytes),
      );
      grown = grows_on _ _ _ c.loop-rest.invariant.grown c.make_room.ensures.grows;
      quiet = λ fits.
          let (same, all) = c.loop-rest.invariant.quiet fits in
          let first = c.args.self.now in
          let some : 0 < length rest = some_left rest c.is_empty.result c.is_empty.ensures c.loop-rest-test.true in
          let (unasked, kept, ok) = c.make_room.ensures.quiet (has_room_yet MAX_GATHERED first c.args.text.now c.loop-rest.self rest all some fits) in
          (unasked ∙ same, gathers_on c.loop-rest.self rest c.make_room.new.self c.gather-count.new.self c.split_at.result.1.now count kept c.gather-count.ensures.bytes c.split_at.ensures.back ∙ all);
    }
