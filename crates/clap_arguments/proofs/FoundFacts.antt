-- What was found, by what the getters return.
use Rattle.std.proofs.Common.{◌≡◌, ◌∙◌, Bool, true, false, List, ℕ, Option, Some, None, codes, refl, subst}
use Rattle.clap.proofs.WalkLemmas.{first_value-rows, one_text-rows}
use Rattle.clap.specs.Matches.{one_text}
use Rattle.clap.specs.Words.{first_of, first_value, one_of, rows_of}
use Rattle.clap.specs.declared.parser.matches.Found.{Found}
use Rattle.clap_arguments.specs.Arguments.{IsFlag, IsWord}

-- what a flag is, by what its getter returns
pub is_flag : (f : Found) (id : List ℕ) (set : Bool) → (one_text f id ≡ None → set ≡ false) → (one_text f id ≡ Some (codes "true") → set ≡ true) → (one_text f id ≡ Some (codes "false") → set ≡ false)
    → IsFlag (one_of id (rows_of f)) set
is_flag f id set none given absent = record {
  missing = λ h. none (one_text-rows f id ∙ h);
  given = λ h. given (one_text-rows f id ∙ h);
  absent = λ h. absent (one_text-rows f id ∙ h);
}

-- and what a word is
pub word_told : (f : Found) (name text : List ℕ) → Some text ≡ first_value f name → IsWord (first_of name (rows_of f)) text
word_told f name text at = subst (λ (o : Option (List ℕ)). IsWord o text) (at ∙ first_value-rows f name) refl

pub word_absent : (f : Found) (name text : List ℕ) → text ≡ codes "" → None ≡ first_value f name → IsWord (first_of name (rows_of f)) text
word_absent f name text empty at = subst (λ (o : Option (List ℕ)). IsWord o text) (at ∙ first_value-rows f name) empty
