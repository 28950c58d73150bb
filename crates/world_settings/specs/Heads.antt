-- The head of an input: which bytes its settings are, and what they give to a command.
use Rattle.std.specs.Prelude.{◌≡◌, ◌⊎◌, ℕ, ◌≤◌, nat_lt, if◌then◌else◌, List, [], ◌∷◌, ◌++◌, length, Option, Some, None, Result, Ok, Err, codes}
use Rattle.std.specs.Str.{bytes_eq}
use Rattle.std.specs.Io.KnownBytes.{Consumes}
use Rattle.line_streams.specs.declared.reading.End.{End}
use Rattle.line_streams.specs.Streams.{pieces, lines_in, KnownLeft, ReadsPiece}
use Rattle.world_settings.specs.declared.commands.Command.{Command}
use Rattle.world_settings.specs.declared.faults.SettingsFault.{SettingsFault}
use Rattle.world_settings.specs.declared.faults.SettingsFault.TheVariants as settings
use Rattle.world_settings.specs.declared.heads.TheConstants.{HEAD_ROOM}
use Rattle.world_settings.specs.declared.heads.StartFault.{StartFault}
use Rattle.world_settings.specs.declared.heads.StartFault.TheVariants as start
use Rattle.world_settings.specs.declared.settings.Start.{Start}
use Rattle.world_settings.specs.Settings.{Given, Refuses, given, settings_of}

-- the line that ends the settings
abbrev pub dashes : List ℕ
dashes = codes "---"

-- what stands before the first piece that is the line of dashes, with its line feeds, and the pieces behind it
abbrev pub with_line : List ℕ → Option (List ℕ × List (List ℕ)) → Option (List ℕ × List (List ℕ))
with_line p None = None
with_line p (Some parts) = Some (p ++ codes "\n" ++ parts.0, parts.1)

abbrev pub parts_at_dashes : List (List ℕ) → Option (List ℕ × List (List ℕ))
parts_at_dashes [] = None
parts_at_dashes (p ∷ ps) = if bytes_eq p dashes then Some ([], ps) else with_line p (parts_at_dashes ps)

-- The settings' text and the lines behind it. The line of dashes has to begin within the first `HEAD_ROOM` bytes.
abbrev pub within_room : Option (List ℕ × List (List ℕ)) → Result (List ℕ × List (List ℕ)) SettingsFault
within_room None = Err settings.NoEnd
within_room (Some parts) = if nat_lt (length parts.0) HEAD_ROOM then Ok (parts.0, lines_in parts.1) else Err settings.NoEnd

unfoldable pub head_of : List (List ℕ) → Result (List ℕ × List (List ℕ)) SettingsFault
head_of ps = within_room (parts_at_dashes ps)

-- What the settings of an input give to a command, and the lines behind them, or what is wrong with the
-- settings.
abbrev pub with_lines : List (List ℕ) → Result Given SettingsFault → Result (Given × List (List ℕ)) SettingsFault
with_lines lines (Err e) = Err e
with_lines lines (Ok s) = Ok (s, lines)

abbrev pub start_of : Command → Result (List ℕ × List (List ℕ)) SettingsFault → Result (Given × List (List ℕ)) SettingsFault
start_of c (Err e) = Err e
start_of c (Ok parts) = with_lines parts.1 (settings_of c parts.0)

unfoldable pub opened : Command → List ℕ → Result (Given × List (List ℕ)) SettingsFault
opened c input = start_of c (head_of (pieces input))

-- how the next piece of the head was read
abbrev pub HeadPiece : Option (List ℕ) → Option (List ℕ) → List ℕ → Result End StartFault → Type 0
HeadPiece old new piece (Ok end) = ReadsPiece HEAD_ROOM old new piece end
HeadPiece old new piece (Err e) = (e ≡ start.Read) ⊎ (e ≡ start.Settings settings.Memory)

-- What a call read as the settings' text, of known bytes: what stands before the line of dashes, and
-- behind it the bytes that are left; or that there is none, unless reading failed or memory was refused.
abbrev pub FindsHead : {A : Type 0} → Option (List ℕ) → Option (List ℕ) → List ℕ → Result A StartFault → Type 0
FindsHead None new head r = Unit {0}
FindsHead (Some xs) new head (Ok a) = KnownLeft new (λ ys. head_of (pieces xs) ≡ Ok (head, lines_in (pieces ys)))
FindsHead (Some xs) new head (Err start.Read) = Unit {0}
FindsHead (Some xs) new head (Err (start.Settings e)) = Refuses e (head_of (pieces xs))

-- What a call read as the settings of a command, of known bytes: these, and behind them the bytes that
-- are left; or that they are refused.
abbrev pub Starts : Command → Option (List ℕ) → Option (List ℕ) → Result Start StartFault → Type 0
Starts c None new r = Unit {0}
Starts c (Some xs) new (Ok s) = KnownLeft new (λ ys. opened c xs ≡ Ok (given s, lines_in (pieces ys)))
Starts c (Some xs) new (Err start.Read) = Unit {0}
Starts c (Some xs) new (Err (start.Settings e)) = Refuses e (opened c xs)

-- Of known bytes a front was taken, of at most so many.
abbrev pub TakesAtMost : ℕ → Option (List ℕ) → Option (List ℕ) → Type 0
TakesAtMost most old new = (front : List ℕ) × (length front ≤ most) × Consumes old new front
