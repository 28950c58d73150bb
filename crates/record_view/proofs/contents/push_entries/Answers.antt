use Rattle.std.proofs.Common.{string_bytes}
use Rattle.record_view.proofs.TextFacts.{entries_more}
use Rattle.record_view.proofs.contents.push_entries.Goals as goal

pub loop-place-preserved : goal.loop-place-preserved
loop-place-preserved c =
    entries_more c.args.kept.now.entries c.loop-place.place c.in-Some.entry (string_bytes c.args.text.now) (string_bytes c.loop-place.text) (string_bytes c.push_entry.new.text)
    c.in-Some.ensures.found c.loop-place.invariant c.in_ok-push_entry.ensures
