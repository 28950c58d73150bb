use Rattle.std.proofs.Common.{codes, string_bytes}
use Rattle.record_view.specs.Texts.{count_words}
use Rattle.record_view.proofs.TextFacts.{three_joined}
use Rattle.record_view.proofs.contents.push_head.Goals as goal

pub returns : goal.returns
returns c =
    three_joined (string_bytes c.args.text.now) (codes "a node's record: problem ") c.args.problem.now (count_words c.args.count)
    (string_bytes c.push_str.new.self) (string_bytes c.push_str-2.new.self) (string_bytes c.push_count.new.text)
    c.in_ok-push_str.ensures.bytes c.in_ok-push_str-2.ensures.bytes c.in_ok-push_count.ensures
