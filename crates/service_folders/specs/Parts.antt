-- The actors of one machine, as words name them.
use Rattle.std.specs.Prelude.{◌≡◌, ℕ, Bool, false, ◌&&◌, nat_le, if◌then◌else◌, List, [], ◌∷◌, slice_index_or, Option, Some, None, IfSome, is_some}
use Rattle.std.specs.List.{slice_split, list_any, list_all}
use Rattle.std.specs.Result.{result_ok}
use Rattle.lock_messages.specs.declared.ids.Actor.{Actor}
use Rattle.lock_messages.specs.declared.ids.Actor.TheVariants as actor
use Rattle.event_lines.specs.Lines.{actor_word}
use Rattle.service_folders.specs.Cuts.{is_byte}
use Rattle.service_folders.specs.declared.parts.Span.{Span}
use Rattle.service_folders.specs.declared.parts.Span.TheVariants as span

-- the actor of a name: `n` or `c`, and the decimal text of its number
abbrev pub actor_named : List ℕ → Option Actor
actor_named word = result_ok (actor_word word)

-- the actors from one to another of the same kind, the lower one first
abbrev pub span_between : Actor → Actor → Option Span
span_between (actor.Node a) (actor.Node b) = if nat_le a b then Some (span.Nodes a b) else None
span_between (actor.Client a) (actor.Client b) = if nat_le a b then Some (span.Clients a b) else None
span_between (actor.Node a) (actor.Client b) = None
span_between (actor.Client a) (actor.Node b) = None

abbrev pub span_over : Option Actor → Option Actor → Option Span
span_over (Some a) (Some b) = span_between a b
span_over (Some a) None = None
span_over None b = None

-- what one or two words say: an actor, or those from the first to the last
abbrev pub span_of_words : List (List ℕ) → Option Span
span_of_words [] = None
span_of_words (a ∷ []) = span_over (actor_named a) (actor_named a)
span_of_words (a ∷ b ∷ []) = span_over (actor_named a) (actor_named b)
span_of_words (a ∷ b ∷ c ∷ rest) = None

-- a dash, which is 45, is between the two
abbrev pub span_of : List ℕ → Option Span
span_of piece = span_of_words (slice_split (is_byte 45) piece)

-- the pieces of a text, with a comma, which is 44, between any two
abbrev pub pieces : List ℕ → List (List ℕ)
pieces text = slice_split (is_byte 44) text

abbrev pub covers : Span → Actor → Bool
covers (span.Nodes a b) (actor.Node n) = nat_le a n && nat_le n b
covers (span.Clients a b) (actor.Client c) = nat_le a c && nat_le c b
covers (span.Nodes a b) (actor.Client c) = false
covers (span.Clients a b) (actor.Node n) = false

abbrev pub covered : Option Span → Actor → Bool
covered None who = false
covered (Some s) who = covers s who

-- each piece names actors
abbrev pub are_spans : List (List ℕ) → Bool
are_spans list = list_all (λ piece. is_some (span_of piece)) list

-- some piece names the actor
abbrev pub name : List (List ℕ) → Actor → Bool
name list who = list_any (λ piece. covered (span_of piece) who) list

-- the nodes and the clients of a part, by their numbers
pub record Members : Type 0 where
  pub nodes : List Bool
  pub clients : List Bool

abbrev pub part_has : Members → Actor → Bool
part_has p (actor.Node n) = slice_index_or p.nodes n false
part_has p (actor.Client c) = slice_index_or p.clients c false

-- A text is read exactly if each of its pieces names actors. The part then has the actors that some piece names.
pub record ReadsPart (text : List ℕ) (found : Option Members) : Type 0 where
  pub when : is_some found ≡ are_spans (pieces text)
  pub actors : IfSome found (λ p. (who : Actor) → part_has p who ≡ name (pieces text) who)
