use Rattle.std.proofs.Common.{◌≡◌, ◌++◌, take, string_bytes}
use Rattle.std.specs.List.{flat_map}
use Rattle.record_view.specs.Texts.{entry_text}
use Rattle.record_view.proofs.contents.push_entries.Given as goal

-- a line stands there for each entry before the place
abbrev pub invariant-loop-place : goal.invariant-loop-place
invariant-loop-place l = string_bytes l.text ≡ string_bytes l.fn.text ++ flat_map entry_text (take l.place l.kept.entries)
