-- Which words belong to which number, and how they are printed.
use Rattle.std.specs.Prelude.{ℕ, ◌==◌, List, [], ◌++◌, Option, find, codes}
use Rattle.std.specs.Option.{option_map_or}
use Rattle.std.specs.Fmt.{decimal}
use Rattle.fault_numbers.specs.Tables.{Words, table_for}
use Rattle.fault_numbers.specs.declared.searching.FaultText.{FaultText}

-- the words of a number, if a fault has it
unfoldable pub words_of : ℕ → Option Words
words_of number = find (λ w. w.number == number) (table_for number)

-- what it means; nothing if no fault has the number
abbrev pub meaning_of : ℕ → List ℕ
meaning_of number = option_map_or (λ w. w.meaning) (words_of number) []

-- the words as a program has them
abbrev pub words_in : FaultText → Words
words_in t = record { number = t.number; meaning = t.meaning.now; cause = t.cause.now; remedy = t.remedy.now }

-- `609: not enough votes`, a blank line, the cause and the remedy
abbrev pub explained_text : Words → List ℕ
explained_text w =
    decimal w.number ++ codes ": " ++ w.meaning ++ codes "\n\nCause:  " ++ w.cause ++ codes "\nRemedy: " ++ w.remedy ++ codes "\n"
