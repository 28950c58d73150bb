use Rattle.std.proofs.Common.{◌+◌, ◌∙◌, sym, ap, ◌∷◌, List, ℕ, take}
use Rattle.std.proofs.lemmas.List.{take_rest}
use Rattle.event_lines.specs.Lines.{is_space, words}
use Rattle.event_lines.proofs.SplitFacts.{split_none, split_some}
use Rattle.own_journals.proofs.words.first_word.Goals as goal

pub returns-in-None-clause-words : goal.returns-in-None-clause-words
returns-in-None-clause-words c = split_none is_space c.args.text.now (sym c.space_in.ensures ∙ c.in-None.is)

pub returns-in-Some-clause-words : goal.returns-in-Some-clause-words
returns-in-Some-clause-words c =
    let text = c.args.text.now in let at = c.in-Some.at in
    split_some is_space text at 0 (sym c.space_in.ensures ∙ c.in-Some.is)
    ∙ ap (λ (rest : List ℕ). take at text ∷ words rest) (sym (take_rest text (at + 1)))
