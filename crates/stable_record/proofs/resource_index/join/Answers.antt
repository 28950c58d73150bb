use Rattle.std.proofs.Common.{rules, ◌≡◌, cond, ap, sym, ◌∙◌, subst, Some}
use Rattle.std.specs.BTreeMap.{is_at}
use Rattle.std.specs.Cmp.Lexicographic.{slice_cmp}
use Rattle.std.specs.Map.{set_value}
use Rattle.std.specs.Option.{option_copied_mut}
use Rattle.std.specs.Ordering.{nat_cmp}
use Rattle.std.specs.Str.{bytes_eq}
use Rattle.std.proofs.lemmas.Map.Steps.{set_value_same}
use Rattle.std.proofs.lemmas.Result.{on_ok_weaker, on_err_weaker}
use Rattle.stable_record.specs.Lines.{line_in, with_ticket, or_none, AreFew}
use Rattle.stable_record.proofs.LineFacts.{line-in-read, line-in-updated}
use Rattle.stable_record.proofs.resource_index.join.Goals as goal

pub join-requires : goal.join-requires
join-requires c =
    let l = c.args.live.now in
    let old = c.args.lines.now.entries in
    let found : Some c.in-Some.line.now ≡ line_in old l.resource = ap option_copied_mut (sym c.in-Some.is) ∙ c.get_mut.ensures.value ∙ line-in-read old l.resource in
    subst AreFew (sym (ap or_none found)) c.requires

pub open_line-requires : goal.open_line-requires
open_line-requires c =
    let l = c.args.live.now in
    let old = c.args.lines.now.entries in
    ap (λ m. line_in m.entries l.resource) c.get_mut.follows.holds-at-none
    ∙ sym (line-in-read old l.resource) ∙ sym c.get_mut.ensures.value ∙ ap option_copied_mut c.in-None.is

pub returns-in-Some-clause-joined : goal.returns-in-Some-clause-joined
returns-in-Some-clause-joined c =
    let l = c.args.live.now in
    let old = c.args.lines.now.entries in
    let new = (c.get_mut.follows.lender c.join.new.self).entries in
    let found : Some c.in-Some.line.now ≡ line_in old l.resource = ap option_copied_mut (sym c.in-Some.is) ∙ c.get_mut.ensures.value ∙ line-in-read old l.resource in
    let updates = ((c.get_mut.follows.holds c.join.new.self).3 (search rules)).0 in
    on_ok_weaker c.join.result (λ made x.
    line-in-updated l.resource old new (Some c.join.new.self) updates x
    ∙ ap (λ t. cond (bytes_eq l.resource x) (Some t) (line_in old x)) (made ∙ ap (with_ticket c.args.client l) (ap or_none found))) c.join.ensures.joined

pub returns-in-Some-clause-refused : goal.returns-in-Some-clause-refused
returns-in-Some-clause-refused c =
    let l = c.args.live.now in
    let old = c.args.lines.now.entries in
    let test = is_at (slice_cmp nat_cmp l.resource) in
    let found = sym c.get_mut.ensures.value ∙ ap option_copied_mut c.in-Some.is in
    on_err_weaker c.join.result (λ same.
    (c.get_mut.follows.holds c.join.new.self).0 ∙ ap (set_value test old) same ∙ set_value_same test old c.in-Some.line.now found) c.join.ensures.refused
