use Rattle.std.proofs.Common.{arith, string_bytes}
use Rattle.operator_cli.proofs.TextFacts.{ballots_more}
use Rattle.operator_cli.proofs.texts.push_ballots.Goals as goal

pub loop-place-preserved : goal.loop-place-preserved
loop-place-preserved c =
    let found = c.in-Some.ensures in
    record {
      from = omega arith;
      text = ballots_more c.args.ballots.now c.loop-place.place c.in-Some.ballot (string_bytes c.args.text.now) (string_bytes c.loop-place.text) (string_bytes c.push_ballot.new.text) found.0 found.1 c.loop-place.invariant.text c.in_ok-push_ballot.ensures;
    }
