use Rattle.std.proofs.Common.{◌∙◌, List, ℕ, Option, Some, Result, Ok, Err, map, codes, refl, subst}
use Rattle.clap.proofs.WalkLemmas.{raw_values-rows}
use Rattle.clap.specs.Words.{found_of}
use Rattle.service_words.specs.declared.misuses.Misuse.{Misuse}
use Rattle.service_words.specs.declared.misuses.Misuse.TheVariants as misuse
use Rattle.service_words.specs.declared.reading.Place.{Place}
use Rattle.service_words.specs.Readings.{ReadsPlace, ReadsPlaceAt, AreNoPlace}
use Rattle.service_words.proofs.reading.place_at.Goals as goal

-- the words were found
placed : (words : List (List ℕ)) (r : Result Place Misuse) → ReadsPlace words r → ReadsPlaceAt (Some words) r
placed words (Ok p) h = h
placed words (Err m) h = h

pub returns-in-Some : goal.returns-in-Some
returns-in-Some c =
    let found = c.in-Some.ensures ∙ raw_values-rows (found_of c.args.found.now) (codes "words") in
    subst (λ (o : Option (List (List ℕ))). ReadsPlaceAt o c.place_in.result) found (placed (map (λ w. w.now) c.in-Some.words.now) c.place_in.result c.place_in.ensures)

pub returns-in-None : goal.returns-in-None
returns-in-None c =
    let found = c.in-None.ensures ∙ raw_values-rows (found_of c.args.found.now) (codes "words") in
    subst (λ (o : Option (List (List ℕ))). AreNoPlace o misuse.ClientWords) found refl
