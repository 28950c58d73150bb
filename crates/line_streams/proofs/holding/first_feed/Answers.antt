use Rattle.std.proofs.Common.{rules, Option, ℕ, take, subst}
use Rattle.memchr.specs.Find.{IsFirstByte, is_byte}
use Rattle.line_streams.proofs.FeedFacts.{near_feed}
use Rattle.line_streams.proofs.holding.first_feed.Goals as goal

pub returns-in-Some : goal.returns-in-Some
returns-in-Some c =
    let bytes = c.args.bytes.now in
    near_feed bytes c.min-near.result c.in-Some.at (search rules) (subst (λ (r : Option ℕ). IsFirstByte (is_byte 10) (take c.min-near.result bytes) r) c.in-Some.is c.memchr.ensures)
