use Rattle.std.proofs.Common.{◌≡◌, ap, sym, ◌∙◌, Some}
use Rattle.std.specs.Option.{option_copied}
use Rattle.stable_record.specs.Lines.{line_in}
use Rattle.stable_record.proofs.LineFacts.{line-in-read}
use Rattle.stable_record.proofs.IndexFacts.{puts-unless-none, puts-unless-kept, puts-unless-gone}
use Rattle.stable_record.proofs.resource_index.drop_empty.Goals as goal

pub returns-in_default : goal.returns-in_default
returns-in_default c =
    let x = c.args.resource.now in
    let old = c.args.lines.now.entries in
    puts-unless-none x old (sym (line-in-read old x) ∙ sym c.get.ensures.value ∙ ap option_copied c.in_default.is)

pub returns-then-is_empty : goal.returns-then-is_empty
returns-then-is_empty c =
    let x = c.args.resource.now in
    let old = c.args.lines.now.entries in
    let found : Some c.in-Some.line.now ≡ line_in old x = ap option_copied (sym c.in-Some.is) ∙ c.get.ensures.value ∙ line-in-read old x in
    puts-unless-gone x old c.remove.new.self.entries c.in-Some.line.now found (sym c.is_empty.ensures ∙ c.if-is_empty.true) c.remove.ensures.updates.0

pub returns-else-is_empty : goal.returns-else-is_empty
returns-else-is_empty c =
    let x = c.args.resource.now in
    let old = c.args.lines.now.entries in
    let found : Some c.in-Some.line.now ≡ line_in old x = ap option_copied (sym c.in-Some.is) ∙ c.get.ensures.value ∙ line-in-read old x in
    puts-unless-kept x old c.in-Some.line.now found (sym c.is_empty.ensures ∙ c.if-is_empty.false)
