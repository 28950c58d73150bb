use Rattle.std.proofs.Common.{ℕ, List, Option, ap, subst, sym, ◌∙◌}
use Rattle.lossy_link.specs.Links.{one_more}
use Rattle.line_link.specs.Carried.{Given, Repeats, none, again}
use Rattle.line_link.proofs.links.put_again.Goals as goal

pub returns-in_default : goal.returns-in_default
returns-in_default g c = none

pub returns : goal.returns
returns g c =
    let old = g.C.Carrier.given c.args.carrier.now in
    let given = c.put.ensures ∙ ap (λ (l : List ℕ). one_more old (c.letter.inside.to, l)) c.as_bytes.ensures.value ∙ ap (one_more old) c.letter.view_is in
    subst (λ (now : Option Given). Repeats c.args.letters.now old now) (sym given) (again c.in-Some.letter.now old none c.in-Some.ensures)
