use Rattle.line_merger.proofs.lives.rise.Goals as goal

pub returns-then-old : goal.returns-then-old
returns-then-old g c = λ w fell finds. c.rise_old.ensures w c.args.found.now fell (finds.0 c.if-old.true)

pub returns-else-old : goal.returns-else-old
returns-else-old g c = λ w fell finds. c.rise_new.ensures w fell (finds.1 c.if-old.false)
