use Rattle.std.proofs.Common.{◌≡◌, List, ℕ, ◌∷◌, Option, Some, None, true, Bor, ap, sym, ◌∙◌}
use Rattle.std.specs.Option.{is_some}
use Rattle.event_lines.specs.Lines.{is_space, words, between}
use Rattle.event_lines.specs.Reading.{words_behind}
use Rattle.event_lines.proofs.SplitFacts.{some_part}
use Rattle.event_lines.proofs.words.only_word.Goals as goal

-- there is a second word
second_word : (first : List ℕ) (text : List ℕ) (rest : Option (Bor (List ℕ))) → words text ≡ first ∷ words_behind rest → is_some rest ≡ true → (second : List ℕ) × (others : List (List ℕ)) × (words text ≡ first ∷ second ∷ others)
second_word first text None e h = absurd (cc)
second_word first text (Some r) e h =
    let (q, qs, f) = some_part is_space r.now in
    (q, qs, e ∙ ap (λ (ws : List (List ℕ)). first ∷ ws) f)

pub returns-then-is_some-clause-one : goal.returns-then-is_some-clause-one
returns-then-is_some-clause-one c =
    let (q, qs, e) = second_word c.first_word.result.0.now c.args.text.now c.first_word.result.1 c.first_word.ensures (sym c.is_some.ensures ∙ c.if-is_some.true) in
    ap (between 1 1) e

pub returns-then-is_some-clause-at_most_one : goal.returns-then-is_some-clause-at_most_one
returns-then-is_some-clause-at_most_one c =
    let (q, qs, e) = second_word c.first_word.result.0.now c.args.text.now c.first_word.result.1 c.first_word.ensures (sym c.is_some.ensures ∙ c.if-is_some.true) in
    ap (between 0 1) e
