use Rattle.std.proofs.Common.{◌≡◌, cond, ap, sym, ◌∙◌, Some}
use Rattle.std.specs.Str.{bytes_eq}
use Rattle.stable_record.specs.Lines.{line_in, with_ticket, or_none}
use Rattle.stable_record.proofs.LineFacts.{line-in-updated}
use Rattle.stable_record.proofs.resource_index.open_line.Goals as goal

pub returns-in-Ok-clause-joined : goal.returns-in-Ok-clause-joined
returns-in-Ok-clause-joined c x =
    let l = c.args.live.now in
    let old = c.args.lines.now.entries in
    let made : c.join.new.self ≡ with_ticket c.args.client l (or_none (line_in old l.resource)) =
    c.in_ok-join.ensures.joined ∙ ap (with_ticket c.args.client l) (c.new-line.ensures ∙ sym (ap or_none c.requires)) in
    line-in-updated l.resource old c.insert.new.self.entries (Some c.join.new.self) c.in-Ok.ensures.updates.0 x
    ∙ ap (λ t. cond (bytes_eq l.resource x) (Some t) (line_in old x)) made
