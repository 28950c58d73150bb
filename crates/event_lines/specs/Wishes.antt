-- Wishes: what a client is to do, as a text.
use Rattle.std.specs.Prelude.{ℕ, nat_le, nat_lt, if◌then◌else◌, List, [], ◌∷◌, length, Result, Ok, Err}
use Rattle.std.specs.List.{join_with_byte}
use Rattle.lock_messages.specs.declared.ids.TheConstants.{MAX_CLIENTS}
use Rattle.event_lines.specs.declared.faults.LineFault.{LineFault}
use Rattle.event_lines.specs.declared.faults.LineFault.TheVariants as fault
use Rattle.event_lines.specs.declared.wishes.Wish.{Wish}
use Rattle.event_lines.specs.declared.words.TheConstants.{MAX_LINE_LEN}
use Rattle.event_lines.specs.Lines.{◌>>=◌, Kind, AClient, AWishMode, AName, APlace, Arguments, AreValues, argument_texts, words, between, values_in, client_word}

-- what a client is to use, and how: a mode and whether it softens, a resource's name and the place of a ballot
abbrev pub use_kinds : List Kind
use_kinds = AWishMode ∷ AName ∷ APlace ∷ []

-- what a wish has, in order
abbrev pub wish_kinds : List Kind
wish_kinds = AClient ∷ use_kinds

abbrev pub wish_parts : Wish → Arguments wish_kinds
wish_parts w = (w.client, ((w.mode, w.soften), (w.resource, (w.place, tt))))

-- the one text of a wish: its parts, with a space between any two; place 1 has no word
abbrev pub wish_text : Wish → List ℕ
wish_text w = join_with_byte 32 (argument_texts wish_kinds (wish_parts w))

-- its client, its name and its place are some that there may be, and where it softens it asks as a writer
abbrev pub IsWish : Wish → Type 0
IsWish w = AreValues wish_kinds (wish_parts w)

-- the client of a word, where there are so many
abbrev pub client_among : ℕ → List ℕ → Result ℕ LineFault
client_among clients word = client_word word >>= (λ c. if nat_le c clients then Ok c else Err fault.Actor)

-- the wish of a client who is to use this
abbrev pub wished : ℕ → Arguments use_kinds → Wish
wished client usage = record { client = client; mode = usage.0.0; soften = usage.0.1; resource = usage.1.0; place = usage.1.1.0 }

abbrev pub words_wish : ℕ → List (List ℕ) → Result Wish LineFault
words_wish clients [] = Err fault.Words
words_wish clients (c ∷ ws) = client_among clients c >>= (λ client. values_in use_kinds ws >>= (λ usage. Ok (wished client usage)))

-- What a text wishes where there are so many clients, or what is wrong with it. It is judged as the
-- arguments of a line are, and a client behind the last one is judged where its word stands.
unfoldable pub wish_among : ℕ → List ℕ → Result Wish LineFault
wish_among clients bytes = if nat_lt MAX_LINE_LEN (length bytes) then Err fault.Words else between 3 4 (words bytes) >>= (λ ws. words_wish clients ws)

-- what a text wishes among all clients that there can be
abbrev pub wish_of : List ℕ → Result Wish LineFault
wish_of bytes = wish_among MAX_CLIENTS bytes
