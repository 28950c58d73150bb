use Rattle.std.proofs.Common.{rules}
use Rattle.std.proofs.lemmas.List.{nil_from_length}
use Rattle.stable_record.specs.Reading.{reading}
use Rattle.stable_record.proofs.RecordFacts.{whole-judged}
use Rattle.stable_record.proofs.reading.whole.Goals as goal

pub returns : goal.returns
unfolding reading
returns c =
    whole-judged c.args.bytes.now c.in_ok-record.record c.record.new.self.bytes.now c.judge.result c.in_ok-record.ensures (search (rules, nil_from_length)) c.judge.ensures
