-- The lines that were given to a carrier, by what was given to the link over it.
use Rattle.std.specs.Prelude.{◌≡◌, ℕ, Bool, List, [], ◌∷◌, ◌++◌, Option, None, All, Contains, false}
use Rattle.std.specs.Io.KnownBytes.{Appends}
use Rattle.lock_messages.specs.declared.ids.Actor.{Actor}
use Rattle.lossy_link.specs.declared.parcels.Sending.{Sending}
use Rattle.lossy_link.specs.declared.parcels.Sending.TheVariants.{Sent, Told}
use Rattle.lossy_link.specs.Links.{one_more}
use Rattle.frame_lines.specs.FrameLines.{frame_line}

-- lines with the actor that each is for, in order
abbrev pub Given : Type 0
Given = List (Actor × List ℕ)

-- the line of a frame, with its line feed, and the actor that it is for
abbrev pub line_for : List ℕ → Actor → List ℕ → Actor × List ℕ
line_for block to frame = (to, frame_line block to frame ++ 10 ∷ [])

-- The lines of what was given to a link: one for each parcel that was sent. Nothing that is told to all clients has a
-- line.
abbrev pub lines_given : List ℕ → List Sending → Given
lines_given block [] = []
lines_given block (Sent to parcel ∷ given) = line_for block to parcel.frame ∷ lines_given block given
lines_given block (Told post ∷ given) = lines_given block given

-- each of the first lines is among the second
abbrev pub AreAmong : Given → Given → Type 0
AreAmong some lines = All (λ line. Contains lines line) some

-- A carrier that had been given the first was then given some of these lines again, in any order, and no others.
pub data Repeats (some : Given) (before : Option Given) : Option Given → Type 0 where
  none : Repeats some before before
  again : (line : Actor × List ℕ) (mid : Option Given) → Repeats some before mid → Contains some line → Repeats some before (one_more mid line)

-- A carrier that had been given the first was then given these lines, in this order, and between them and after them
-- some of those lines again.
pub data GivesLines (before : Option Given) : Given → Option Given → Type 0 where
  nothing : GivesLines before [] before
  next : (lines : Given) (line : Actor × List ℕ) (now : Option Given) → GivesLines before lines now → GivesLines before (lines ++ line ∷ []) (one_more now line)
  repeated : (lines : Given) (line : Actor × List ℕ) (now : Option Given) → GivesLines before lines now → Contains lines line → GivesLines before lines (one_more now line)

-- What contracts see of a link over lines: the block of the secret, the lines that its carrier was given before and
-- until now, if it remembers them, what was given to the link, and whether it ran out of memory in a call.
pub record LinedLink : Type 0 where
  pub block : List ℕ
  pub before : Option Given
  pub now : Option Given
  pub given : List Sending
  pub refused : Bool

-- The carrier was given the lines of what was given to the link, in order, and otherwise only lines that it was already given.
abbrev pub IsCarried : LinedLink → Type 0
IsCarried l = GivesLines l.before (lines_given l.block l.given) l.now

abbrev pub sendings : List (Sending × Actor) → List Sending
sendings [] = []
sendings (s ∷ more) = s.0 ∷ sendings more

abbrev pub given_before : {C : Type 0} → (C → Option Given) → List (C × Actor) → Option Given
given_before given [] = None
given_before given (c ∷ more) = given c.0

abbrev pub lined_of : {C : Type 0} → (C → Option Given) → C → List ℕ → List (C × Actor) → List (Sending × Actor) → Bool → LinedLink
lined_of given c block opened made refused = record { block = block; before = given_before given opened; now = given c; given = sendings made; refused = refused }

-- What contracts see of lines over streams: what the writer holds, if that is known, and whether a write has failed.
pub record Outflow : Type 0 where
  pub text : Option (List ℕ)
  pub failed : Bool

-- If no write has failed until now, the writer got just this line more.
abbrev pub WritesLine : Outflow → List ℕ → Outflow → Type 0
WritesLine old line new = new.failed ≡ false → (old.failed ≡ false) × Appends old.text new.text line
