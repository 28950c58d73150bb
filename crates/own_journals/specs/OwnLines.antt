-- The lines of a journal that one actor writes alone.
use Rattle.std.specs.Prelude.{◌≡◌, ℕ, false, List, [], ◌∷◌, Option, Some, None, IfOk, Result, Ok, Err, ◌⊎◌, codes, Bool, ◌||◌, ◌==◌, ◌++◌, if◌then◌else◌}
use Rattle.std.specs.List.{ends_with}
use Rattle.std.specs.Str.{bytes_eq}
use Rattle.std.specs.Option.{ok_or}
use Rattle.std.specs.Borrow.{Bor}
use Rattle.hex.specs.Hex.{decode_of}
use Rattle.lock_messages.specs.declared.ids.Actor.{Actor}
use Rattle.lock_messages.specs.declared.ids.Actor.TheVariants as actor
use Rattle.lock_messages.specs.Texts.{actor_text}
use Rattle.world_model.specs.declared.events.Event.{Event}
use Rattle.world_model.specs.declared.events.Event.TheVariants as event
use Rattle.event_lines.specs.declared.faults.LineFault.{LineFault}
use Rattle.world_model.specs.Kinds.{kind_of, is_reading}
use Rattle.event_lines.specs.Lines.{words, IsActor}
use Rattle.event_lines.specs.Events.{IsSpelling}
use Rattle.own_journals.specs.declared.faults.OwnLineFault.{OwnLineFault}
use Rattle.own_journals.specs.declared.faults.OwnLineFault.TheVariants as fault
use Rattle.own_journals.specs.declared.lines.OwnLine.{OwnLine}
use Rattle.own_journals.specs.declared.lines.OwnLine.TheVariants as own

-- The words of the line are this one, the actor's name, and hexadecimal digits for these bytes.
pub record IsFramed (line word : List ℕ) (who : Actor) (bytes : List ℕ) : Type 0 where
  pub digits : List ℕ
  pub words : words line ≡ word ∷ actor_text who ∷ digits ∷ []
  pub spell : decode_of digits ≡ Ok bytes
  pub actor : IsActor who

-- a node takes, and a client hears
abbrev pub reading_word : Actor → List ℕ
reading_word (actor.Node n) = codes "take"
reading_word (actor.Client c) = codes "hear"

-- the text of an event that reads no message
abbrev pub IsPlain : List ℕ → Event → Type 0
IsPlain line e = IsSpelling line e × (is_reading (kind_of e) ≡ false)

-- These bytes, without a line feed, are the whole text of the line. An event that reads a message has its frame here,
-- and no number.
abbrev pub IsWhole : List ℕ → OwnLine → Type 0
IsWhole line (own.Life who found) = IsFramed line (codes "life") who found
IsWhole line (own.Reads who frame) = IsFramed line (reading_word who) who frame
IsWhole line (own.Does e) = IsPlain line e

abbrev pub IsWholeOfNone : List ℕ → Type 0
IsWholeOfNone line = (l : OwnLine) → IsWhole line l → ⊥

-- The last words of the line are one that ends with `life`, the actor's name, and hexadecimal digits for these bytes.
pub record EndsInLife (line : List ℕ) (who : Actor) (found : List ℕ) : Type 0 where
  pub before : List (List ℕ)
  pub cut : List ℕ
  pub digits : List ℕ
  pub words : words line ≡ before ++ (cut ++ codes "life") ∷ actor_text who ∷ digits ∷ []
  pub spell : decode_of digits ≡ Ok found
  pub actor : IsActor who

-- The line is one by which a life begins, and the bytes end with it.
abbrev pub EndsAsLife : List ℕ → OwnLine → Type 0
EndsAsLife line (own.Life who found) = EndsInLife line who found
EndsAsLife line (own.Reads who frame) = ⊥
EndsAsLife line (own.Does e) = ⊥

-- These bytes, without a line feed, are the text of the line. A process that dies while it writes a line leaves a
-- beginning, and the next life is written right after it. So bytes that are the whole text of no line, and end with one by
-- which a life begins, are the text of that one. Whatever is before it was cut off, and counts for nothing.
abbrev pub IsText : List ℕ → OwnLine → Type 0
IsText line l = IsWhole line l ⊎ (IsWholeOfNone line × EndsAsLife line l)

-- three words, if the words are three
abbrev pub three_of : List (List ℕ) → Option (List ℕ × List ℕ × List ℕ)
three_of [] = None
three_of (a ∷ []) = None
three_of (a ∷ b ∷ []) = None
three_of (a ∷ b ∷ c ∷ []) = Some (a, b, c)
three_of (a ∷ b ∷ c ∷ d ∷ ws) = None

abbrev pub seen : Option (Bor (List ℕ) × Bor (List ℕ) × Bor (List ℕ)) → Option (List ℕ × List ℕ × List ℕ)
seen None = None
seen (Some t) = Some (t.0.now, t.1.now, t.2.now)

-- two words, as they are seen
abbrev pub both : Option (Bor (List ℕ) × Bor (List ℕ)) → Option (List ℕ × List ℕ)
both None = None
both (Some t) = Some (t.0.now, t.1.now)

-- the last three of these three words and those after them
abbrev pub last_from : List ℕ → List ℕ → List ℕ → List (List ℕ) → List ℕ × List ℕ × List ℕ
last_from a b c [] = (a, b, c)
last_from a b c (d ∷ ws) = last_from b c d ws

-- the last three words, if there are three
abbrev pub last_three : List (List ℕ) → Option (List ℕ × List ℕ × List ℕ)
last_three [] = None
last_three (a ∷ []) = None
last_three (a ∷ b ∷ []) = None
last_three (a ∷ b ∷ c ∷ ws) = Some (last_from a b c ws)

abbrev pub ends_in_life : List ℕ → Bool
ends_in_life word = ends_with (λ a b. a == b) word (codes "life")

-- the last two of three words of which the first ends with `life`
abbrev pub life_in : Option (List ℕ × List ℕ × List ℕ) → Option (List ℕ × List ℕ)
life_in None = None
life_in (Some t) = if ends_in_life t.0 then Some (t.1, t.2) else None

-- the actor that a word names, unless there is no memory: none exactly if the word is no actor's name
pub record NamesActor (word : List ℕ) (found : Result Actor OwnLineFault) : Type 0 where
  pub is : IfOk found (λ who. (word ≡ actor_text who) × IsActor who)
  pub only : (who : Actor) → word ≡ actor_text who → IsActor who → (found ≡ Ok who) ⊎ (found ≡ Err fault.Memory)

-- the actor that tries to keep, in an event and in what was read
abbrev pub trying_in : Event → Option Actor
trying_in (event.Try who) = Some who
trying_in _ = None

abbrev pub named_in : Result Event LineFault → Result Actor OwnLineFault
named_in (Ok e) = ok_or (trying_in e) fault.NoLine
named_in (Err f) = Err fault.NoLine

-- the bytes that digits spell, unless there is no memory: none exactly if they spell none
pub record SpellsBytes (digits : List ℕ) (found : Result (List ℕ) OwnLineFault) : Type 0 where
  pub is : IfOk found (λ bytes. decode_of digits ≡ Ok bytes)
  pub only : (bytes : List ℕ) → decode_of digits ≡ Ok bytes → (found ≡ Ok bytes) ⊎ (found ≡ Err fault.Memory)

-- the three words of a line that has a frame or a record
abbrev pub Frames : List ℕ → List ℕ → List ℕ → OwnLine → Type 0
Frames word name digits (own.Life who found) = (word ≡ codes "life") × (name ≡ actor_text who) × IsActor who × (decode_of digits ≡ Ok found)
Frames word name digits (own.Reads who frame) = (word ≡ reading_word who) × (name ≡ actor_text who) × IsActor who × (decode_of digits ≡ Ok frame)
Frames word name digits (own.Does e) = ⊥

abbrev pub is_frame_word : List ℕ → Bool
is_frame_word word = bytes_eq word (codes "life") || (bytes_eq word (codes "take") || bytes_eq word (codes "hear"))

-- the line of a word, an actor and bytes
abbrev pub line_with : List ℕ → Actor → List ℕ → Result OwnLine OwnLineFault
line_with word who bytes =
    if bytes_eq word (codes "life") then Ok (own.Life who bytes)
    else if bytes_eq word (reading_word who) then Ok (own.Reads who bytes)
    else Err fault.NoLine

-- what is read of three words, unless there is no memory
pub record ReadsFrame (word name digits : List ℕ) (read : Result OwnLine OwnLineFault) : Type 0 where
  pub found : IfOk read (λ l. Frames word name digits l)
  pub only : (l : OwnLine) → Frames word name digits l → (read ≡ Ok l) ⊎ (read ≡ Err fault.Memory)

-- the line of an event that reads no message
abbrev pub plain_in : Result Event LineFault → Result OwnLine OwnLineFault
plain_in (Ok e) = if is_reading (kind_of e) then Err fault.NoLine else Ok (own.Does e)
plain_in (Err f) = Err fault.NoLine

-- three words of which the first says that there is a frame or a record
abbrev pub framed_in : Option (List ℕ × List ℕ × List ℕ) → Option (List ℕ × List ℕ × List ℕ)
framed_in None = None
framed_in (Some t) = if is_frame_word t.0 then Some t else None

-- What is read of a line, unless there is no memory: the line of which the bytes are the whole text, exactly if there
-- is one.
pub record ReadsWhole (line : List ℕ) (read : Result OwnLine OwnLineFault) : Type 0 where
  pub found : IfOk read (IsWhole line)
  pub only : (l : OwnLine) → IsWhole line l → (read ≡ Ok l) ⊎ (read ≡ Err fault.Memory)

-- So it is for the line by which a life begins, with which the bytes end,
pub record ReadsLife (line : List ℕ) (read : Result OwnLine OwnLineFault) : Type 0 where
  pub found : IfOk read (EndsAsLife line)
  pub only : (l : OwnLine) → EndsAsLife line l → (read ≡ Ok l) ⊎ (read ≡ Err fault.Memory)

-- and for the line of which they are the text.
pub record ReadsLine (line : List ℕ) (read : Result OwnLine OwnLineFault) : Type 0 where
  pub found : IfOk read (IsText line)
  pub only : (l : OwnLine) → IsText line l → (read ≡ Ok l) ⊎ (read ≡ Err fault.Memory)
