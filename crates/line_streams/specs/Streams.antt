-- The pieces of an input, which stand between its line feeds, and how they are read one by one; and
-- what becomes of texts that are gathered and written.
use Rattle.std.specs.Prelude.{◌≡◌, ◌⊎◌, ℕ, ◌+◌, ◌<◌, ◌≤◌, ◌==◌, if◌then◌else◌, Bool, true, false, List, [], ◌∷◌, ◌++◌, length, take, drop, Option, Some, None, Result, Ok, Err}
use Rattle.std.specs.List.{slice_split, list_any, All}
use Rattle.std.specs.Io.KnownBytes.{append_known, Consumes, Keeps, Appends, IsAtEnd}
use Rattle.line_streams.specs.declared.reading.End.{End}
use Rattle.line_streams.specs.declared.reading.End.TheVariants.{LineFeed, Input, Limit}

abbrev pub is_line_feed : ℕ → Bool
is_line_feed b = b == 10

-- What stands between the line feeds, in order, empty pieces too. Joined by line feeds they are the
-- bytes.
abbrev pub pieces : List ℕ → List (List ℕ)
pieces bytes = slice_split is_line_feed bytes

-- The lines that pieces are: a last piece that is empty stands behind the last line feed and is none. So
-- a last line counts without its line feed, and no bytes are no line.
abbrev pub lines_in : List (List ℕ) → List (List ℕ)
lines_in [] = []
lines_in (p ∷ []) = if length p == 0 then [] else p ∷ []
lines_in (p ∷ q ∷ qs) = p ∷ lines_in (q ∷ qs)

-- none of the bytes is a line feed
abbrev pub IsPlain : List ℕ → Type 0
IsPlain bytes = All (λ b. is_line_feed b ≡ false) bytes

-- what is known of the bytes that are left
abbrev pub KnownLeft : Option (List ℕ) → (List ℕ → Type 0) → Type 0
KnownLeft None P = ⊥
KnownLeft (Some xs) P = P xs

-- some bytes are left, where it is known which
abbrev pub HasMore : Option (List ℕ) → Type 0
HasMore None = Unit {0}
HasMore (Some xs) = 0 < length xs

-- nothing follows a piece that ended so
abbrev pub is_last : End → Bool
is_last LineFeed = false
is_last Input = true
is_last Limit = false

-- A piece that ended so is no line: it is empty, and stands behind the last line feed.
abbrev pub ends_no_line : End → List ℕ → Bool
ends_no_line LineFeed piece = false
ends_no_line Input piece = length piece == 0
ends_no_line Limit piece = false

-- How a piece of xs was read, of which `piece` was kept: all of it, with the line feed behind it or up
-- to the end; or a beginning of it that is longer than the limit.
abbrev pub EndsPiece : ℕ → List ℕ → Option (List ℕ) → List ℕ → End → Type 0
EndsPiece limit xs new piece LineFeed = KnownLeft new (λ ys. pieces xs ≡ piece ∷ pieces ys)
EndsPiece limit xs new piece Input = (pieces xs ≡ piece ∷ []) × KnownLeft new (λ ys. ys ≡ [])
EndsPiece limit xs new piece Limit = (rest : List ℕ) × (more : List (List ℕ)) × (pieces xs ≡ (piece ++ rest) ∷ more) × (limit < length piece)

-- the same, where the bytes are known
abbrev pub ReadsPiece : ℕ → Option (List ℕ) → Option (List ℕ) → List ℕ → End → Type 0
ReadsPiece limit None new piece end = Unit {0}
ReadsPiece limit (Some xs) new piece end = EndsPiece limit xs new piece end

-- the line feed that was taken behind a piece that ended so
abbrev pub feed_of : End → List ℕ
feed_of LineFeed = 10 ∷ []
feed_of Input = []
feed_of Limit = []

-- What a call took that reads a line: bytes that are no line feed, and behind them the line feed that
-- ended the line, if one did. After a fault none was taken.
abbrev pub TakesLine : {E : Type 0} → Option (List ℕ) → Option (List ℕ) → List ℕ → Result End E → Type 0
TakesLine old new piece (Ok end) = IsPlain piece × Consumes old new (piece ++ feed_of end)
TakesLine old new piece (Err e) = IsPlain piece × Consumes old new piece

-- How long a piece is of which so much was taken: it is within the limit, or just over it.
abbrev pub FitsLimit : {E : Type 0} → ℕ → List ℕ → Result End E → Type 0
FitsLimit limit piece (Ok LineFeed) = length piece ≤ limit
FitsLimit limit piece (Ok Input) = length piece ≤ limit
FitsLimit limit piece (Ok Limit) = length piece ≡ limit + 1
FitsLimit limit piece (Err e) = length piece ≤ limit

-- Lines as they stand in a text, a line feed behind each.
abbrev pub fed_lines : List (List ℕ) → List ℕ
fed_lines [] = []
fed_lines (l ∷ ls) = l ++ 10 ∷ fed_lines ls

-- Lines that stand so at the front of a text are its first lines, and those of what is behind them follow.
abbrev pub FedLinesComeFirst : Type 0
FedLinesComeFirst = (lines : List (List ℕ)) (behind : List ℕ) → All IsPlain lines → lines_in (pieces (fed_lines lines ++ behind)) ≡ lines ++ lines_in (pieces behind)

-- What was found at the front of some bytes: so many that are no line feed, at most so many, and
-- whether a line feed stands behind them; both are looked for among so many bytes. Where none does, so many
-- are all that there are, or all that they may be.
pub record FindsFront (bytes : List ℕ) (most count : ℕ) (has_feed : Bool) : Type 0 where
  pub within : count ≤ length bytes
  pub few : count ≤ most
  pub fewer : has_feed ≡ true → count < most
  pub plain : IsPlain (take count bytes)
  pub feed : has_feed ≡ true → (rest : List ℕ) × (drop count bytes ≡ 10 ∷ rest)
  pub all : has_feed ≡ false → (count ≡ length bytes) ⊎ (count ≡ most)

-- What is held ends a line: a line feed is there, or more bytes than the limit.
abbrev pub EndsLine : ℕ → List ℕ → Type 0
EndsLine limit held = (list_any is_line_feed held ≡ true) ⊎ (limit < length held)

-- Bytes are held, or none is left; a fault takes none.
abbrev pub Fetches : {E : Type 0} → Option (List ℕ) → Option (List ℕ) → Result Bool E → Type 0
Fetches old new (Ok true) = Keeps old new
Fetches old new (Ok false) = Keeps old new × IsAtEnd old
Fetches old new (Err e) = Keeps old new

-- What a call added to a line: a front of what was left that has no line feed, and at most so many
-- bytes; and whether the line feed behind it was taken too, which counts among them.
abbrev pub TakesHeld : {E : Type 0} → ℕ → Option (List ℕ) → Option (List ℕ) → List ℕ → List ℕ → Result Bool E → Type 0
TakesHeld most old new line after (Ok true) = (front : List ℕ) × (after ≡ line ++ front) × IsPlain front × (length front < most) × Consumes old new (front ++ 10 ∷ [])
TakesHeld most old new line after (Ok false) = (front : List ℕ) × (after ≡ line ++ front) × IsPlain front × (length front ≤ most) × Consumes old new front
TakesHeld most old new line after (Err e) = Unit {0}

-- a beginning of the text was appended
abbrev pub AppendsBeginning : Option (List ℕ) → Option (List ℕ) → List ℕ → Type 0
AppendsBeginning old new text = (front : List ℕ) × (back : List ℕ) × (text ≡ front ++ back) × Appends old new front

-- a beginning of the text was appended, and not all of it
abbrev pub AppendsPart : Option (List ℕ) → Option (List ℕ) → List ℕ → Type 0
AppendsPart old new text = (front : List ℕ) × (back : List ℕ) × (text ≡ front ++ back) × (0 < length back) × Appends old new front

-- the text was appended, or after a fault a beginning of it, and not all
abbrev pub Puts : {U E : Type 0} → Option (List ℕ) → Option (List ℕ) → List ℕ → Result U E → Type 0
Puts old new text (Ok u) = Appends old new text
Puts old new text (Err e) = AppendsPart old new text

-- What was written, and then what is gathered and still to be written.
abbrev pub with_gathered : Option (List ℕ) → List ℕ → Option (List ℕ)
with_gathered written gathered = append_known written gathered

-- what was written stays, and something may follow it
abbrev pub Grows : Option (List ℕ) → Option (List ℕ) → Type 0
Grows old new = (more : List ℕ) × Appends old new more

-- a front of what was gathered was written, and the rest is still gathered
abbrev pub LetsOut : Option (List ℕ) → Option (List ℕ) → List ℕ → List ℕ → Type 0
LetsOut old new gathered rest = (front : List ℕ) × (gathered ≡ front ++ rest) × Appends old new front
