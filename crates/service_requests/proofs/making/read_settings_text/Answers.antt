use Rattle.std.proofs.Common.{◌≡◌, ◌∙◌, List, ℕ, Option, Some, None, [], ◌++◌, take, option_map, ap, subst}
use Rattle.std.specs.Prelude.{IfSome}
use Rattle.service_requests.specs.Requests.{IsBeginning}
use Rattle.service_requests.proofs.making.read_settings_text.Goals as goal

-- all that such a reader gives is a beginning of what is behind it
beginning : (input : Option (List ℕ)) (text old : List ℕ) → old ≡ [] → IfSome (option_map (take 65536) input) (λ xs. text ≡ old ++ xs) → IsBeginning input text
beginning None text old e h = tt
beginning (Some bytes) text old e h = subst (λ (o : List ℕ). text ≡ o ++ take 65536 bytes) e h

pub returns-in-Ok-clause-text : goal.returns-in-Ok-clause-text
returns-in-Ok-clause-text g c =
    let remaining = g.R.Read.remaining in
    let bounded : option_map (take c.take.result.limit) (remaining c.take.result.inner) ≡ option_map (take 65536) (remaining c.args.reader) =
    ap (λ (n : ℕ). option_map (take n) (remaining c.take.result.inner)) c.take.ensures.limit ∙ ap (λ r. option_map (take 65536) (remaining r)) c.take.ensures.inner in
    beginning (remaining c.args.reader) c.read_to_end.new.buf.items c.new-text.result.items c.new-text.ensures.items
    (subst (λ (o : Option (List ℕ)). IfSome o (λ xs. c.read_to_end.new.buf.items ≡ c.new-text.result.items ++ xs)) bounded c.in-Ok.ensures.bytes)
