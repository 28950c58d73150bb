-- The lines of scripts and journals: which line is which event or query, how each of these is
-- written, and what is wrong with any other line.
use Rattle.std.specs.Prelude.{◌≡◌, ℕ, zero, suc, Bool, true, false, ◌&&◌, ◌==◌, ◌≤◌, nat_le, nat_lt, if◌then◌else◌, List, [], ◌∷◌, ◌++◌, length, Option, Some, None, Result, Ok, Err, codes}
use Rattle.std.specs.List.{slice_split, list_all, join_with_byte}
use Rattle.std.specs.Option.{is_some, ok_or}
use Rattle.std.specs.Fmt.{decimal}
use Rattle.std.specs.Str.{bytes_eq}
use Rattle.std.specs.Str.Parse.{digits_value}
use Rattle.lock_messages.specs.declared.ids.TheConstants.{MAX_NODES, MAX_CLIENTS}
use Rattle.lock_messages.specs.declared.ids.Actor.{Actor}
use Rattle.lock_messages.specs.declared.ids.Actor.TheVariants as actor
use Rattle.lock_messages.specs.declared.names.TheConstants.{MAX_NAME_LEN}
use Rattle.lock_messages.specs.declared.tickets.Mode.{Mode}
use Rattle.lock_messages.specs.declared.tickets.Mode.TheVariants.{Read, Write}
use Rattle.lock_messages.specs.Ids.{IsNode, IsClient}
use Rattle.lock_messages.specs.Names.{IsName, is_name_byte}
use Rattle.lock_messages.specs.Texts.{node_text, client_text, actor_text, mode_text}
use Rattle.lock_model.specs.declared.problems.Problem.{Problem}
use Rattle.lock_model.specs.declared.problems.Problem.TheVariants.{First, Second}
use Rattle.vote_weights.specs.declared.lists.TheConstants.{MAX_BALLOTS}
use Rattle.world_model.specs.declared.TheConstants.{MAX_MESSAGES}
use Rattle.world_model.specs.declared.events.Age.{Age}
use Rattle.world_model.specs.declared.events.Age.TheVariants.{Old, New}
use Rattle.world_model.specs.declared.events.Event.TheVariants as event
use Rattle.event_lines.specs.declared.commands.Command.{Command}
use Rattle.event_lines.specs.declared.commands.Command.TheVariants as command
use Rattle.event_lines.specs.declared.faults.LineFault.{LineFault}
use Rattle.event_lines.specs.declared.faults.LineFault.TheVariants as fault
use Rattle.event_lines.specs.declared.lines.Line.{Line}
use Rattle.event_lines.specs.declared.lines.Line.TheVariants as line
use Rattle.event_lines.specs.declared.lines.Query.TheVariants as query
use Rattle.event_lines.specs.declared.words.TheConstants.{MAX_LINE_LEN}
use Rattle.event_lines.specs.Commands.{word_of, named}

infixl 10 ◌>>=◌
-- what comes next is judged where no fault was met
abbrev pub ◌>>=◌ : {A B : Type 0} → Result A LineFault → (A → Result B LineFault) → Result B LineFault
(Ok x) >>= f = f x
(Err e) >>= f = Err e

-- What an argument is: a node, a client, either of these, a message's number, a resource's name, a mode, the
-- mode of a wish, an age, the place of a ballot, a problem.
pub data Kind : Type 0 where
  ANode : Kind
  AClient : Kind
  AnActor : Kind
  ANumber : Kind
  AName : Kind
  AMode : Kind
  AWishMode : Kind
  AnAge : Kind
  APlace : Kind
  AProblem : Kind

-- The grammar: the arguments of each command, in order. All else is said of this table. What may be left
-- out stands last.
abbrev pub kinds_of : Command → List Kind
kinds_of command.Begin = AClient ∷ AMode ∷ AName ∷ APlace ∷ []
kinds_of command.Try = AnActor ∷ []
kinds_of command.Kept = AnActor ∷ []
kinds_of command.SayTo = AClient ∷ ANode ∷ []
kinds_of command.Say = ANode ∷ []
kinds_of command.Take = ANode ∷ ANumber ∷ []
kinds_of command.Hear = AClient ∷ ANumber ∷ []
kinds_of command.Enter = AClient ∷ []
kinds_of command.Leave = AClient ∷ []
kinds_of command.Soften = AClient ∷ []
kinds_of command.Fall = AnActor ∷ []
kinds_of command.Rise = AnActor ∷ AnAge ∷ []
kinds_of command.Switch = ANode ∷ AProblem ∷ []
kinds_of command.Inside = AName ∷ []
kinds_of command.Waiting = ANode ∷ AName ∷ []
kinds_of command.Holding = ANode ∷ AName ∷ []

-- how a wish asks: in which mode, and whether it softens then
abbrev pub WishMode : Type 0
WishMode = Mode × Bool

-- the values of a kind, and arguments of these kinds, in order
abbrev pub Value : Kind → Type 0
Value ANode = ℕ
Value AClient = ℕ
Value AnActor = Actor
Value ANumber = ℕ
Value AName = List ℕ
Value AMode = Mode
Value AWishMode = WishMode
Value AnAge = Age
Value APlace = ℕ
Value AProblem = Problem

abbrev pub Arguments : List Kind → Type 0
Arguments [] = Unit {0}
Arguments (k ∷ ks) = Value k × Arguments ks

-- What an argument is whose word is left out: a place is 1 then, and each other kind has its word always.
abbrev pub left_out : (k : Kind) → Option (Value k)
left_out APlace = Some 1
left_out ANode = None
left_out AClient = None
left_out AnActor = None
left_out ANumber = None
left_out AName = None
left_out AMode = None
left_out AWishMode = None
left_out AnAge = None
left_out AProblem = None

-- A line, taken apart: f is given its command and its arguments.
abbrev pub with_parts : {R : Type 0} → ((c : Command) → Arguments (kinds_of c) → R) → Line → R
with_parts f (line.Event (event.Begin c m x place)) = f command.Begin (c, (m, (x, (place, tt))))
with_parts f (line.Event (event.Try who)) = f command.Try (who, tt)
with_parts f (line.Event (event.Kept who)) = f command.Kept (who, tt)
with_parts f (line.Event (event.SayTo c n)) = f command.SayTo (c, (n, tt))
with_parts f (line.Event (event.Say n)) = f command.Say (n, tt)
with_parts f (line.Event (event.Take n k)) = f command.Take (n, (k, tt))
with_parts f (line.Event (event.Hear c k)) = f command.Hear (c, (k, tt))
with_parts f (line.Event (event.Enter c)) = f command.Enter (c, tt)
with_parts f (line.Event (event.Leave c)) = f command.Leave (c, tt)
with_parts f (line.Event (event.Soften c)) = f command.Soften (c, tt)
with_parts f (line.Event (event.Fall who)) = f command.Fall (who, tt)
with_parts f (line.Event (event.Rise who age)) = f command.Rise (who, (age, tt))
with_parts f (line.Event (event.Switch n p)) = f command.Switch (n, (p, tt))
with_parts f (line.Query (query.Inside x)) = f command.Inside (x, tt)
with_parts f (line.Query (query.Waiting n x)) = f command.Waiting (n, (x, tt))
with_parts f (line.Query (query.Holding n x)) = f command.Holding (n, (x, tt))

abbrev pub command_of : Line → Command
command_of l = with_parts (λ c a. c) l

-- Writing.

-- a wish that softens has a word of its own
abbrev pub wish_mode_text : WishMode → List ℕ
wish_mode_text x = if x.1 then codes "soften" else mode_text x.0

abbrev pub age_text : Age → List ℕ
age_text Old = codes "old"
age_text New = codes "new"

abbrev pub problem_text : Problem → List ℕ
problem_text First = codes "1"
problem_text Second = codes "2"

abbrev pub value_text : (k : Kind) → Value k → List ℕ
value_text ANode n = node_text n
value_text AClient c = client_text c
value_text AnActor who = actor_text who
value_text ANumber k = decimal k
value_text AName x = x
value_text AMode m = mode_text m
value_text AWishMode x = wish_mode_text x
value_text AnAge age = age_text age
value_text APlace place = codes "b" ++ decimal place
value_text AProblem p = problem_text p

-- The words that spell an argument: its one word, but none for place 1.
abbrev pub value_texts : (k : Kind) → Value k → List (List ℕ)
value_texts APlace place = if place == 1 then [] else value_text APlace place ∷ []
value_texts ANode n = value_text ANode n ∷ []
value_texts AClient c = value_text AClient c ∷ []
value_texts AnActor who = value_text AnActor who ∷ []
value_texts ANumber k = value_text ANumber k ∷ []
value_texts AName x = value_text AName x ∷ []
value_texts AMode m = value_text AMode m ∷ []
value_texts AWishMode x = value_text AWishMode x ∷ []
value_texts AnAge age = value_text AnAge age ∷ []
value_texts AProblem p = value_text AProblem p ∷ []

abbrev pub argument_texts : (ks : List Kind) → Arguments ks → List (List ℕ)
argument_texts [] a = []
argument_texts (k ∷ ks) a = value_texts k a.0 ++ argument_texts ks a.1

-- The one text of an event or a query, without a line feed: its word and its arguments, with a space
-- between any two.
abbrev pub parts_text : (c : Command) → Arguments (kinds_of c) → List ℕ
parts_text c a = join_with_byte 32 (word_of c ∷ argument_texts (kinds_of c) a)

abbrev pub text_of : Line → List ℕ
text_of l = with_parts parts_text l

-- Which values a line may have: nodes, clients and names are as they are everywhere, a message has a
-- number from 1 to MAX_MESSAGES, a ballot a place from 1 to MAX_BALLOTS, and who softens asks as a writer.

abbrev pub IsActor : Actor → Type 0
IsActor (actor.Node n) = IsNode n
IsActor (actor.Client c) = IsClient c

abbrev pub IsPlace : ℕ → Type 0
IsPlace place = (1 ≤ place) × (place ≤ MAX_BALLOTS)

abbrev pub IsWishMode : WishMode → Type 0
IsWishMode x = x.1 ≡ true → x.0 ≡ Write

abbrev pub IsValue : (k : Kind) → Value k → Type 0
IsValue ANode n = IsNode n
IsValue AClient c = IsClient c
IsValue AnActor who = IsActor who
IsValue ANumber k = (1 ≤ k) × (k ≤ MAX_MESSAGES)
IsValue AName x = IsName x
IsValue AMode m = Unit {0}
IsValue AWishMode x = IsWishMode x
IsValue AnAge age = Unit {0}
IsValue APlace place = IsPlace place
IsValue AProblem p = Unit {0}

abbrev pub AreValues : (ks : List Kind) → Arguments ks → Type 0
AreValues [] a = Unit {0}
AreValues (k ∷ ks) a = IsValue k a.0 × AreValues ks a.1

abbrev pub Parts : Type 0
Parts = (c : Command) × Arguments (kinds_of c)

abbrev pub AreInRange : Parts → Type 0
AreInRange p = AreValues (kinds_of p.0) p.1

abbrev pub IsInRange : Line → Type 0
IsInRange l = AreInRange (with_parts (λ c a. (c, a)) l)

-- Reading.

abbrev pub is_space : ℕ → Bool
is_space b = b == 32

-- The words of a line: what stands between its spaces, in order, empty words too. Joined by spaces
-- they are the line.
abbrev pub words : List ℕ → List (List ℕ)
words bytes = slice_split is_space bytes

-- The number from 1 to most whose decimal text the word is. That text has no leading zero.
unfoldable pub spelled : ℕ → List ℕ → Option ℕ
spelled most word =
    let n = digits_value 10 word in
    if (nat_le 1 n && nat_le n most) && bytes_eq (decimal n) word then Some n else None

-- the number behind the letter
abbrev pub lettered : ℕ → ℕ → List ℕ → Option ℕ
lettered letter most [] = None
lettered letter most (b ∷ digits) = if b == letter then spelled most digits else None

-- `n` and the number of a node
abbrev pub node_word : List ℕ → Result ℕ LineFault
node_word word = ok_or (lettered 110 MAX_NODES word) fault.Actor

-- `c` and the number of a client
abbrev pub client_word : List ℕ → Result ℕ LineFault
client_word word = ok_or (lettered 99 MAX_CLIENTS word) fault.Actor

-- a node or a client
abbrev pub either_of : Option ℕ → Option ℕ → Result Actor LineFault
either_of (Some n) found = Ok (actor.Node n)
either_of None (Some c) = Ok (actor.Client c)
either_of None None = Err fault.Actor

abbrev pub actor_word : List ℕ → Result Actor LineFault
actor_word word = either_of (lettered 110 MAX_NODES word) (lettered 99 MAX_CLIENTS word)

-- the number of a message
abbrev pub number_word : List ℕ → Result ℕ LineFault
number_word word = ok_or (spelled MAX_MESSAGES word) fault.Number

-- a resource's name
abbrev pub name_word : List ℕ → Result (List ℕ) LineFault
name_word word = if (nat_le 1 (length word) && nat_le (length word) MAX_NAME_LEN) && list_all is_name_byte word then Ok word else Err fault.Name

abbrev pub mode_word : List ℕ → Result Mode LineFault
mode_word word = if bytes_eq word (codes "read") then Ok Read else (if bytes_eq word (codes "write") then Ok Write else Err fault.Word)

-- `soften`, or the word of a mode
abbrev pub wish_mode_word : List ℕ → Result WishMode LineFault
wish_mode_word word = if bytes_eq word (codes "soften") then Ok (Write, true) else mode_word word >>= (λ m. Ok (m, false))

abbrev pub age_word : List ℕ → Result Age LineFault
age_word word = if bytes_eq word (codes "old") then Ok Old else (if bytes_eq word (codes "new") then Ok New else Err fault.Word)

-- `1` or `2`
abbrev pub problem_word : List ℕ → Result Problem LineFault
problem_word word = if bytes_eq word (codes "1") then Ok First else (if bytes_eq word (codes "2") then Ok Second else Err fault.Number)

-- the place behind the first one
abbrev pub behind_first : Option ℕ → Result ℕ LineFault
behind_first None = Err fault.Number
behind_first (Some place) = if place == 1 then Err fault.Number else Ok place

-- `b` and a place from 2: the first one has no word
abbrev pub place_word : List ℕ → Result ℕ LineFault
place_word word = behind_first (lettered 98 MAX_BALLOTS word)

-- the value of this kind that the word is, or what is wrong with it
abbrev pub value_in : (k : Kind) → List ℕ → Result (Value k) LineFault
value_in ANode word = node_word word
value_in AClient word = client_word word
value_in AnActor word = actor_word word
value_in ANumber word = number_word word
value_in AName word = name_word word
value_in AMode word = mode_word word
value_in AWishMode word = wish_mode_word word
value_in AnAge word = age_word word
value_in APlace word = place_word word
value_in AProblem word = problem_word word

-- the words, where there are at least and at most so many
abbrev pub between : ℕ → ℕ → List (List ℕ) → Result (List (List ℕ)) LineFault
between zero most [] = Ok []
between (suc least) most [] = Err fault.Words
between zero zero (w ∷ ws) = Err fault.Words
between zero (suc most) (w ∷ ws) = between zero most ws >>= (λ rest. Ok (w ∷ rest))
between (suc least) zero (w ∷ ws) = Err fault.Words
between (suc least) (suc most) (w ∷ ws) = between least most ws >>= (λ rest. Ok (w ∷ rest))

-- how many words these arguments have at least
abbrev pub least_words : List Kind → ℕ
least_words [] = 0
least_words (k ∷ ks) = if is_some (left_out k) then least_words ks else suc (least_words ks)

-- the arguments that the words are, of which the first that is wrong is told; where no word is left, what
-- may be left out is
abbrev pub values_in : (ks : List Kind) → List (List ℕ) → Result (Arguments ks) LineFault
values_in [] [] = Ok tt
values_in [] (w ∷ ws) = Err fault.Words
values_in (k ∷ ks) [] = ok_or (left_out k) fault.Words >>= (λ x. values_in ks [] >>= (λ xs. Ok (x, xs)))
values_in (k ∷ ks) (w ∷ ws) = value_in k w >>= (λ x. values_in ks ws >>= (λ xs. Ok (x, xs)))

-- first it is judged how many there are, and then each, from the left
abbrev pub arguments_in : (ks : List Kind) → List (List ℕ) → Result (Arguments ks) LineFault
arguments_in ks ws = between (least_words ks) (length ks) ws >>= (λ us. values_in ks us)

-- what a command says whose arguments say this
abbrev pub given : (c : Command) → (Arguments (kinds_of c) → Line) → List (List ℕ) → Result Line LineFault
given c says ws = arguments_in (kinds_of c) ws >>= (λ a. Ok (says a))

-- what the command says with the arguments that these words are
abbrev pub said_by : Command → List (List ℕ) → Result Line LineFault
said_by command.Begin ws = given command.Begin (λ a. line.Event (event.Begin a.0 a.1.0 a.1.1.0 a.1.1.1.0)) ws
said_by command.Try ws = given command.Try (λ a. line.Event (event.Try a.0)) ws
said_by command.Kept ws = given command.Kept (λ a. line.Event (event.Kept a.0)) ws
said_by command.SayTo ws = given command.SayTo (λ a. line.Event (event.SayTo a.0 a.1.0)) ws
said_by command.Say ws = given command.Say (λ a. line.Event (event.Say a.0)) ws
said_by command.Take ws = given command.Take (λ a. line.Event (event.Take a.0 a.1.0)) ws
said_by command.Hear ws = given command.Hear (λ a. line.Event (event.Hear a.0 a.1.0)) ws
said_by command.Enter ws = given command.Enter (λ a. line.Event (event.Enter a.0)) ws
said_by command.Leave ws = given command.Leave (λ a. line.Event (event.Leave a.0)) ws
said_by command.Soften ws = given command.Soften (λ a. line.Event (event.Soften a.0)) ws
said_by command.Fall ws = given command.Fall (λ a. line.Event (event.Fall a.0)) ws
said_by command.Rise ws = given command.Rise (λ a. line.Event (event.Rise a.0 a.1.0)) ws
said_by command.Switch ws = given command.Switch (λ a. line.Event (event.Switch a.0 a.1.0)) ws
said_by command.Inside ws = given command.Inside (λ a. line.Query (query.Inside a.0)) ws
said_by command.Waiting ws = given command.Waiting (λ a. line.Query (query.Waiting a.0 a.1.0)) ws
said_by command.Holding ws = given command.Holding (λ a. line.Query (query.Holding a.0 a.1.0)) ws

-- the words of a line: the first one says which command it is
abbrev pub words_say : List Command → List (List ℕ) → Result Line LineFault
words_say commands [] = Err fault.Word
words_say commands (first ∷ ws) = named commands first >>= (λ c. said_by c ws)

-- What a line says to who reads these commands, given without its line feed: an event or a query, or
-- what is wrong with it.
unfoldable pub line_of : List Command → List ℕ → Result Line LineFault
line_of commands bytes = if nat_lt MAX_LINE_LEN (length bytes) then Err fault.Words else words_say commands (words bytes)
