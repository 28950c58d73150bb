use Rattle.std.proofs.Common.{◌∙◌, rules, List, ℕ, Option, map, string_bytes, subst}
use Rattle.std.proofs.lemmas.Result.{IfOk-weaker}
use Rattle.clap.proofs.WalkLemmas.{raw_values-rows}
use Rattle.clap.specs.Words.{found_of}
use Rattle.clap_arguments.specs.Arguments.{AreWords}
use Rattle.clap_arguments.proofs.finding.words_at.Goals as goal

pub returns-in-Some : goal.returns-in-Some
returns-in-Some c =
    let found = c.in-Some.ensures ∙ raw_values-rows (found_of c.args.found.now) c.args.name.now in
    IfOk-weaker c.copied.result _ _ (λ names h. subst (λ (o : Option (List (List ℕ))). AreWords o (map string_bytes names.items)) found h) c.copied.ensures

pub returns-in-None : goal.returns-in-None
returns-in-None c =
    let found = c.in-None.ensures ∙ raw_values-rows (found_of c.args.found.now) c.args.name.now in
    subst (λ (o : Option (List (List ℕ))). AreWords o (map string_bytes c.new.result.items)) found (search rules)
