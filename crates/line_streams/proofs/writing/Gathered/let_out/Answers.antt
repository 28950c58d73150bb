use Rattle.std.proofs.Common.{◌∙◌, take, sym, rules}
use Rattle.line_streams.proofs.StreamFacts.{rest_kept}
use Rattle.line_streams.proofs.WriteFacts.{some_kept}
use Rattle.line_streams.proofs.writing.Gathered.let_out.Goals as goal

pub returns-then-not-whole-clause-bytes : goal.returns-then-not-whole-clause-bytes
returns-then-not-whole-clause-bytes g c =
    let s = c.self.inside in
    let count = c.write_out-count.result.0 in (
      take count (take s.end s.room),
      sym c.self.view_is ∙ rest_kept s.room c.copy_within.new.self s.end count c.write_out-count.ensures.bound (search rules) c.copy_within.ensures.after,
      c.write_out-count.ensures.bytes,
    )

pub returns-then-not-whole-clause-rest : goal.returns-then-not-whole-clause-rest
returns-then-not-whole-clause-rest g c =
    let s = c.self.inside in
    some_kept s.room c.copy_within.new.self s.end c.write_out-count.result.0 (c.write_out-count.ensures.fewer c.if-not-whole.true) (search rules)
