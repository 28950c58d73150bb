use Rattle.std.proofs.Common.{◌≡◌, ◌≤◌, ◌-◌, ◌++◌, take, string_bytes}
use Rattle.operator_cli.specs.Texts.{ballots_text}
use Rattle.operator_cli.proofs.texts.push_ballots.Given as goal

-- a line stands there for each ballot before the place
abbrev pub invariant-loop-place : goal.invariant-loop-place
invariant-loop-place l = record {
  from : 1 ≤ l.place;
  text : string_bytes l.text ≡ string_bytes l.fn.text ++ ballots_text (take (l.place - 1) l.ballots);
}
