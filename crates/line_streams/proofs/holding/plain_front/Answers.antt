use Rattle.std.proofs.Common.{rules, Option, ℕ, take, subst}
use Rattle.memchr.specs.Find.{IsFirstByte, is_byte}
use Rattle.line_streams.proofs.FeedFacts.{feed_met, none_met}
use Rattle.line_streams.proofs.holding.plain_front.Goals as goal

pub returns-in-Some : goal.returns-in-Some
returns-in-Some c =
    let bytes = c.args.bytes.now in
    feed_met bytes c.args.most c.min-upto.result c.in-Some.at (search rules) (search rules) (subst (λ (r : Option ℕ). IsFirstByte (is_byte 10) (take c.min-upto.result bytes) r) c.in-Some.is c.first_feed.ensures)

pub returns-in-None : goal.returns-in-None
returns-in-None c =
    let bytes = c.args.bytes.now in
    none_met bytes c.args.most c.min-upto.result (search rules) (search rules) (search rules) (subst (λ (r : Option ℕ). IsFirstByte (is_byte 10) (take c.min-upto.result bytes) r) c.in-None.is c.first_feed.ensures)
