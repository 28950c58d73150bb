-- The words that the program takes, and what `clap` says of others.
use Rattle.std.proofs.Common.{◌≡◌, true, List, ℕ, Result, Err, refl, subst}
use Rattle.clap.proofs.OnLiterals.{clap_on_literals}
use Rattle.clap.specs.Words.{App, Kinds, FailsBy, HasKind, fault_of, is_simple_and_free}
use Rattle.clap.specs.declared.error.Error.{Error}
use Rattle.program_ends.specs.declared.wording.Unserved.{Unserved}
use Rattle.program_ends.specs.Wordings.{IsUnserved}
use Rattle.command_words.specs.Words.{app, ReadsWords, FoundWords}

is_simple_app : is_simple_and_free app ≡ true
unfolding clap_on_literals
is_simple_app = refl

-- the command is the one that is meant
pub fails_by : {T : Type 0} (a : App) (words : List (List ℕ)) (r : Result T Error) → a ≡ app → (is_simple_and_free a ≡ true → FailsBy (fault_of a words) r) → FailsBy (fault_of app words) r
fails_by a words r e h = subst (λ (b : App). is_simple_and_free b ≡ true → FailsBy (fault_of b words) r) e h is_simple_app

-- the words name no command
pub unread_so : (kinds : Kinds) (named : FoundWords) (e : Error) (u : Unserved) → HasKind kinds e → ((ks : Kinds) → HasKind ks e → IsUnserved ks u) → ReadsWords kinds named (Err u)
unread_so kinds named e u h f = f kinds h
