use Rattle.std.proofs.Common.{rules, ◌≡◌, ap, sym, ◌∙◌, Some, subst}
use Rattle.std.specs.Option.{option_copied_mut}
use Rattle.stable_record.specs.Indexing.{AreCounted, with_promoted}
use Rattle.stable_record.specs.Lines.{line_in, or_none}
use Rattle.stable_record.proofs.LineFacts.{line-in-read}
use Rattle.stable_record.proofs.IndexFacts.{puts-none, puts-written}
use Rattle.stable_record.proofs.resource_index.promote.Goals as goal

pub returns-in-Some : goal.returns-in-Some
returns-in-Some c counted =
    let x = c.args.live.now.resource in
    let old = c.args.lines.now.entries in
    let new = (c.get_mut.follows.lender c.promote.new.self).entries in
    let found : Some c.in-Some.line.now ≡ line_in old x = ap option_copied_mut (sym c.in-Some.is) ∙ c.get_mut.ensures.value ∙ line-in-read old x in
    let updates = ((c.get_mut.follows.holds c.promote.new.self).3 (search rules)).0 in
    puts-written (with_promoted c.args.client c.args.live.now) x old new c.in-Some.line.now c.promote.new.self found (c.promote.ensures (subst AreCounted (sym (ap or_none found)) counted)) updates

pub returns-in_default : goal.returns-in_default
returns-in_default c counted =
    let x = c.args.live.now.resource in
    let old = c.args.lines.now.entries in
    puts-none (with_promoted c.args.client c.args.live.now) x old _ (sym (line-in-read old x) ∙ sym c.get_mut.ensures.value ∙ ap option_copied_mut c.in_default.is) (ap (λ m. m.entries) c.get_mut.follows.holds-at-none)
