use Rattle.std.proofs.Common.{◌≡◌, cond, ap, sym, ◌∙◌, Some}
use Rattle.std.specs.Str.{bytes_eq}
use Rattle.stable_record.specs.Indexing.{announced_ticket}
use Rattle.stable_record.specs.Lines.{line_in, with_ticket, or_none}
use Rattle.stable_record.proofs.LineFacts.{line-in-updated}
use Rattle.stable_record.proofs.resource_index.open_announced.Goals as goal

pub returns-in-Ok-clause-announced : goal.returns-in-Ok-clause-announced
returns-in-Ok-clause-announced c y =
    let x = c.args.resource.now in
    let old = c.args.lines.now.entries in
    let made : c.announce.new.self ≡ with_ticket c.args.client (announced_ticket x) (or_none (line_in old x)) =
    c.in_ok-announce.ensures.announced x ∙ ap (with_ticket c.args.client (announced_ticket x)) (c.new-line.ensures ∙ sym (ap or_none c.requires)) in
    line-in-updated x old c.insert.new.self.entries (Some c.announce.new.self) c.in-Ok.ensures.updates.0 y
    ∙ ap (λ t. cond (bytes_eq x y) (Some t) (line_in old y)) made
