use Rattle.std.proofs.Common.{◌+◌, ◌∙◌, sym, ap, ◌∷◌, List, ℕ, take}
use Rattle.std.specs.List.{slice_split}
use Rattle.std.proofs.lemmas.List.{take_rest}
use Rattle.service_folders.specs.Cuts.{is_byte}
use Rattle.service_folders.proofs.SplitFacts.{split_none, split_some}
use Rattle.service_folders.proofs.cuts.cut.Goals as goal

pub returns-in-None-clause-pieces : goal.returns-in-None-clause-pieces
returns-in-None-clause-pieces c = split_none (is_byte c.args.mark) c.args.text.now (sym c.place_of.ensures ∙ c.in-None.is)

pub returns-in-Some-clause-pieces : goal.returns-in-Some-clause-pieces
returns-in-Some-clause-pieces c =
    let text = c.args.text.now in let at = c.in-Some.at in let p = is_byte c.args.mark in
    split_some p text at 0 (sym c.place_of.ensures ∙ c.in-Some.is)
    ∙ ap (λ (rest : List ℕ). take at text ∷ slice_split p rest) (sym (take_rest text (at + 1)))
