use Rattle.std.proofs.Common.{rules, ◌≡◌, ap, sym, ◌∙◌, Some}
use Rattle.std.specs.Option.{option_copied_mut}
use Rattle.stable_record.specs.Indexing.{with_softened_holder}
use Rattle.stable_record.specs.Lines.{line_in}
use Rattle.stable_record.proofs.LineFacts.{line-in-read}
use Rattle.stable_record.proofs.IndexFacts.{puts-none, puts-written}
use Rattle.stable_record.proofs.resource_index.soften.Goals as goal

pub returns-in-Some : goal.returns-in-Some
returns-in-Some c =
    let x = c.args.live.now.resource in
    let old = c.args.lines.now.entries in
    let new = (c.get_mut.follows.lender c.soften.new.self).entries in
    let found : Some c.in-Some.line.now ≡ line_in old x = ap option_copied_mut (sym c.in-Some.is) ∙ c.get_mut.ensures.value ∙ line-in-read old x in
    let updates = ((c.get_mut.follows.holds c.soften.new.self).3 (search rules)).0 in
    puts-written (with_softened_holder c.args.live.now) x old new c.in-Some.line.now c.soften.new.self found c.soften.ensures updates

pub returns-in_default : goal.returns-in_default
returns-in_default c =
    let x = c.args.live.now.resource in
    let old = c.args.lines.now.entries in
    puts-none (with_softened_holder c.args.live.now) x old _ (sym (line-in-read old x) ∙ sym c.get_mut.ensures.value ∙ ap option_copied_mut c.in_default.is) (ap (λ m. m.entries) c.get_mut.follows.holds-at-none)
