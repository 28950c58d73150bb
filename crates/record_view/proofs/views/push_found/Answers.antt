use Rattle.std.proofs.Common.{◌≡◌, ℕ, List, ◌++◌, Option, Vec, option_map, string_bytes, sym, subst}
use Rattle.std.specs.Global.{Global}
use Rattle.record_view.specs.Texts.{SaysBody, SaysFound}
use Rattle.record_view.proofs.views.push_found.Goals as goal

pub returns : goal.returns
returns c =
    let old = string_bytes c.args.text.now in
    let new = string_bytes c.push_body.new.text in
    subst (λ (o : Option (Vec ℕ Global)). (x : List ℕ) × SaysFound (option_map (λ v. v.items) o) x × (new ≡ old ++ x)) (sym c.in-Some.is)
    (subst (λ (b : List ℕ). (x : List ℕ) × SaysBody b x × (new ≡ old ++ x)) c.deref.ensures.value c.in_ok-push_body.ensures)
