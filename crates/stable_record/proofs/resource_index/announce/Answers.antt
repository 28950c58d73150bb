use Rattle.std.proofs.Common.{rules, ◌≡◌, cond, ap, sym, ◌∙◌, Some}
use Rattle.std.specs.BTreeMap.{is_at}
use Rattle.std.specs.Cmp.Lexicographic.{slice_cmp}
use Rattle.std.specs.Map.{set_value}
use Rattle.std.specs.Option.{option_copied_mut}
use Rattle.std.specs.Ordering.{nat_cmp}
use Rattle.std.specs.Str.{bytes_eq}
use Rattle.std.proofs.lemmas.Map.Steps.{set_value_same}
use Rattle.std.proofs.lemmas.Result.{on_ok_weaker, on_err_weaker}
use Rattle.stable_record.specs.Indexing.{announced_ticket}
use Rattle.stable_record.specs.Lines.{line_in, with_ticket, or_none}
use Rattle.stable_record.proofs.LineFacts.{line-in-read, line-in-updated}
use Rattle.stable_record.proofs.resource_index.announce.Goals as goal

pub open_announced-requires : goal.open_announced-requires
open_announced-requires c =
    let x = c.args.resource.now in
    let old = c.args.lines.now.entries in
    ap (λ m. line_in m.entries x) c.get_mut.follows.holds-at-none
    ∙ sym (line-in-read old x) ∙ sym c.get_mut.ensures.value ∙ ap option_copied_mut c.in-None.is

pub returns-in-Some-clause-announced : goal.returns-in-Some-clause-announced
returns-in-Some-clause-announced c =
    let x = c.args.resource.now in
    let old = c.args.lines.now.entries in
    let new = (c.get_mut.follows.lender c.announce.new.self).entries in
    let found : Some c.in-Some.line.now ≡ line_in old x = ap option_copied_mut (sym c.in-Some.is) ∙ c.get_mut.ensures.value ∙ line-in-read old x in
    let updates = ((c.get_mut.follows.holds c.announce.new.self).3 (search rules)).0 in
    on_ok_weaker c.announce.result (λ made y.
    line-in-updated x old new (Some c.announce.new.self) updates y
    ∙ ap (λ t. cond (bytes_eq x y) (Some t) (line_in old y)) (made x ∙ ap (with_ticket c.args.client (announced_ticket x)) (ap or_none found))) c.announce.ensures.announced

pub returns-in-Some-clause-refused : goal.returns-in-Some-clause-refused
returns-in-Some-clause-refused c =
    let x = c.args.resource.now in
    let old = c.args.lines.now.entries in
    let test = is_at (slice_cmp nat_cmp x) in
    let found = sym c.get_mut.ensures.value ∙ ap option_copied_mut c.in-Some.is in
    on_err_weaker c.announce.result (λ same.
    (c.get_mut.follows.holds c.announce.new.self).0 ∙ ap (set_value test old) same ∙ set_value_same test old c.in-Some.line.now found) c.announce.ensures.refused
