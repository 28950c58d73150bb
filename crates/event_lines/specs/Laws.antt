-- Laws about lines.
use Rattle.std.specs.Prelude.{◌≡◌, ◌⊎◌, ℕ, ◌<◌, ◌≤◌, ◌^◌, ◌↔◌, List, [], ◌∷◌, Some, Ok}
use Rattle.std.specs.Fmt.{decimal}
use Rattle.world_model.specs.declared.events.Event.{Event}
use Rattle.event_lines.specs.declared.commands.Command.{Command}
use Rattle.event_lines.specs.declared.lines.Line.{Line}
use Rattle.event_lines.specs.declared.wishes.Wish.{Wish}
use Rattle.event_lines.specs.Lines.{spelled, line_of, text_of, command_of, IsInRange}
use Rattle.event_lines.specs.Events.{event_of, IsSpelling}
use Rattle.event_lines.specs.Wishes.{wish_of, wish_text, IsWish}

-- a word spells a number exactly where it is the number's decimal text
abbrev pub NumbersAreSpelledOnce : Type 0
NumbersAreSpelledOnce = (most : ℕ) (word : List ℕ) (n : ℕ) → most < 2 ^ 64 → (spelled most word ≡ Some n) ↔ ((1 ≤ n) × (n ≤ most) × (decimal n ≡ word))

-- the command is one of these
abbrev pub IsAmong : Command → List Command → Type 0
IsAmong c [] = ⊥
IsAmong c (d ∷ ds) = (c ≡ d) ⊎ IsAmong c ds

-- To who reads these commands a line says an event or a query exactly where it is the one text of it,
-- byte for byte, this is in range, and its command is one of them. So each text is read, and nothing
-- has two.
abbrev pub LinesAreSpelledOnce : Type 0
LinesAreSpelledOnce = (commands : List Command) (bytes : List ℕ) (l : Line) → (line_of commands bytes ≡ Ok l) ↔ ((bytes ≡ text_of l) × IsInRange l × IsAmong (command_of l) commands)

-- A line of a journal says an event exactly where it is the one text of it, byte for byte, and this is
-- in range.
abbrev pub EventsAreSpelledOnce : Type 0
EventsAreSpelledOnce = (bytes : List ℕ) (e : Event) → (event_of bytes ≡ Ok e) ↔ IsSpelling bytes e

-- a text wishes something exactly where it is the one text of it, and this is in range
abbrev pub WishesAreSpelledOnce : Type 0
WishesAreSpelledOnce = (bytes : List ℕ) (w : Wish) → (wish_of bytes ≡ Ok w) ↔ ((bytes ≡ wish_text w) × IsWish w)
