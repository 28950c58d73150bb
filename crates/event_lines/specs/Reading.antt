-- What the functions that read a line answer, piece by piece.
use Rattle.std.specs.Prelude.{◌≡◌, ℕ, List, [], ◌∷◌, Option, Some, None, Result, Ok, Err}
use Rattle.std.specs.Borrow.{Bor}
use Rattle.event_lines.specs.declared.faults.LineFault.{LineFault}
use Rattle.event_lines.specs.Lines.{words}

-- what a function answered, as it is seen, is the judgement
abbrev pub Gives : {X Y : Type 0} → (X → Y) → Result X LineFault → Result Y LineFault → Type 0
Gives view (Ok x) judged = judged ≡ Ok (view x)
Gives view (Err e) judged = judged ≡ Err e

-- the words of what stands behind a space, if anything does
abbrev pub words_behind : Option (Bor (List ℕ)) → List (List ℕ)
words_behind None = []
words_behind (Some rest) = words rest.now

-- the one word that is there, if one is
abbrev pub word_there : Option (Bor (List ℕ)) → List (List ℕ)
word_there None = []
word_there (Some word) = word.now ∷ []
