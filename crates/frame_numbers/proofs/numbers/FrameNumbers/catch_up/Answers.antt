use Rattle.std.proofs.Common.{◌+◌, ◌∙◌, sym, ap}
use Rattle.world_model.specs.ExactWorlds.{numbered}
use Rattle.frame_numbers.proofs.NumberFacts.{noted_next}
use Rattle.frame_numbers.proofs.numbers.FrameNumbers.catch_up.Goals as goal

pub loop-number-preserved : goal.loop-number-preserved
loop-number-preserved g c =
    let inv = c.loop-number.invariant in
    let sent = c.args.actors.now.sent in (
      c.in_ok-note.ensures.one ∙ ap (λ n. n + 1) inv.0,
      noted_next c.args.self.now c.loop-number.self c.note.new.self c.in-Some.message sent c.in_ok-note.ensures.puts c.in_ok-note.ensures.one (sym c.in-Some.is ∙ c.sent.ensures ∙ ap (λ n. numbered sent (n + 1)) (sym inv.0)) inv.1,
    )
