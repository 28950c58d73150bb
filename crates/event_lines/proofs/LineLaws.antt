-- A line says something exactly where it is the one text of it.
use Rattle.std.proofs.Common.{◌≡◌, inl, inr, ◌↔◌, ℕ, zero, suc, ◌+◌, ◌≤◌, Bool, true, false, cond, not, ◌&&◌, nat_le, nat_lt, List, [], ◌∷◌, ◌++◌, length, Option, Some, None, slice_get, Result, Ok, Err, refl, sym, ap, subst, ◌∙◌, arith}
use Rattle.std.specs.List.{All, join_with_byte}
use Rattle.std.specs.Option.{is_some, ok_or}
use Rattle.std.specs.Str.{bytes_eq}
use Rattle.std.proofs.lemmas.Bool.Decides.{nat_tests}
use Rattle.std.proofs.lemmas.List.{length-append}
use Rattle.std.proofs.lemmas.List.Elements.{All-head, All-tail}
use Rattle.std.proofs.lemmas.List.Splits.{join_with_byte-slice_split, slice_split_none, slice_split_at}
use Rattle.std.proofs.lemmas.Slice.Eq.{bytes_eq-Decides}
use Rattle.std.proofs.lemmas.Bool.{leb-true}
use Rattle.world_model.specs.declared.events.Event.TheVariants as event
use Rattle.event_lines.specs.declared.commands.Command.{Command}
use Rattle.event_lines.specs.declared.commands.Command.TheVariants as command
use Rattle.event_lines.specs.declared.faults.LineFault.{LineFault}
use Rattle.event_lines.specs.declared.faults.LineFault.TheVariants as fault
use Rattle.event_lines.specs.declared.lines.Line.{Line}
use Rattle.event_lines.specs.declared.lines.Line.TheVariants as line
use Rattle.event_lines.specs.declared.lines.Query.TheVariants as query
use Rattle.event_lines.specs.declared.words.TheConstants.{MAX_LINE_LEN}
use Rattle.event_lines.specs.Commands.{word_of, named}
use Rattle.event_lines.specs.Lines.{◌>>=◌, Kind, kinds_of, Value, Arguments, left_out, value_in, value_texts, argument_texts, parts_text, text_of, command_of, IsValue, AreValues, IsInRange, is_space, words, between, least_words, values_in, arguments_in, given, said_by, words_say, line_of}
use Rattle.event_lines.specs.Laws.{IsAmong}
use Rattle.event_lines.proofs.WordFacts.{never_ok, was_some, value_is, left_is, spelled_by, width, IsSpelledBy, IsGoodWord}
use Rattle.event_lines.proofs.WordBytes.{Lacks, IsOutside, lacks_word, lacks_arguments}

pub bind_ok : {A B : Type 0} (r : Result A LineFault) (f : A → Result B LineFault) (y : B) → (r >>= f) ≡ Ok y → (x : A) × (r ≡ Ok x) × (f x ≡ Ok y)
bind_ok (Ok x) f y h = (x, refl, h)
bind_ok (Err e) f y h = absurd (let clash : Err e ≡ Ok y = h in cc)

pub bound : {A B : Type 0} (r : Result A LineFault) (f : A → Result B LineFault) (x : A) (s : Result B LineFault) → r ≡ Ok x → f x ≡ s → (r >>= f) ≡ s
bound {A = A} r f x s h g = ap (λ (q : Result A LineFault). q >>= f) h ∙ g

abbrev pub Same : {A : Type 0} → Result A LineFault → Result A LineFault → Type 0
Same r s = r ≡ s

pub ok_same : {A : Type 0} (x y : A) → Same (Ok x) (Ok y) → x ≡ y
ok_same x y h = let same : Ok x ≡ Ok y = h in cc

-- Commands.
abbrev pub joined : List (List ℕ) → List ℕ
joined ws = join_with_byte 32 ws

-- what a word names
abbrev Names : List Command → List ℕ → Command → Type 0
Names cs w c = (w ≡ word_of c) × IsAmong c cs

named_at : (b : Bool) (d : Command) (ds : List Command) (w : List ℕ) (c : Command) → bytes_eq w (word_of d) ≡ b → (named ds w ≡ Ok c → Names ds w c) → cond b (Ok d) (named ds w) ≡ Ok c → Names (d ∷ ds) w c
named_at true d ds w c e more h =
    let same : d ≡ c = ok_same d c h in
    ((bytes_eq-Decides w (word_of d)).0 e ∙ ap word_of same, inl (sym same))
named_at false d ds w c e more h = let (text, there) = more h in (text, inr there)

named_is : (cs : List Command) (w : List ℕ) (c : Command) → named cs w ≡ Ok c → Names cs w c
named_is [] w c h = never_ok fault.Word c h
named_is (d ∷ ds) w c h = named_at (bytes_eq w (word_of d)) d ds w c refl (named_is ds w c) h

-- the commands have different words
abbrev every : List Command
every =
    command.Begin ∷ command.Try ∷ command.Kept ∷ command.SayTo ∷ command.Say ∷ command.Take ∷ command.Hear ∷ command.Enter ∷ command.Leave ∷ command.Soften ∷ command.Fall ∷ command.Rise ∷ command.Switch ∷ command.Inside ∷ command.Waiting ∷ command.Holding
    ∷ []

its_word : (c : Command) → named every (word_of c) ≡ Ok c
its_word command.Begin = refl
its_word command.Try = refl
its_word command.Kept = refl
its_word command.SayTo = refl
its_word command.Say = refl
its_word command.Take = refl
its_word command.Hear = refl
its_word command.Enter = refl
its_word command.Leave = refl
its_word command.Soften = refl
its_word command.Fall = refl
its_word command.Rise = refl
its_word command.Switch = refl
its_word command.Inside = refl
its_word command.Waiting = refl
its_word command.Holding = refl

same_command : (c d : Command) → word_of c ≡ word_of d → c ≡ d
same_command c d h = ok_same c d (sym (its_word c) ∙ ap (named every) h ∙ its_word d)

found_at : (b : Bool) (c d : Command) (ds : List Command) → bytes_eq (word_of c) (word_of d) ≡ b → IsAmong c (d ∷ ds) → (IsAmong c ds → named ds (word_of c) ≡ Ok c) → cond b (Ok d) (named ds (word_of c)) ≡ Ok c
found_at true c d ds e there more = ap Ok (sym (same_command c d ((bytes_eq-Decides (word_of c) (word_of d)).0 e)))
found_at false c d ds e (inl same) more = let clash : false ≡ true = sym e ∙ (bytes_eq-Decides (word_of c) (word_of d)).1 (ap word_of same) in absurd (cc)
found_at false c d ds e (inr there) more = more there

finds : (cs : List Command) (c : Command) → IsAmong c cs → named cs (word_of c) ≡ Ok c
finds [] c h = absurd h
finds (d ∷ ds) c h = found_at (bytes_eq (word_of c) (word_of d)) c d ds refl h (finds ds c)

among_at : (cs : List Command) (i : ℕ) (c : Command) → slice_get cs i ≡ Some c → IsAmong c cs
among_at [] i c h = absurd (let none : None ≡ Some c = h in cc)
among_at (d ∷ ds) zero c h = inl (let same : Some d ≡ Some c = h in cc)
among_at (d ∷ ds) (suc i) c h = inr (among_at ds i c h)

-- a command that stands among them, and whose word it is
pub named_there : (cs : List Command) (i : ℕ) (w : List ℕ) (c : Command) → slice_get cs i ≡ Some c → bytes_eq w (word_of c) ≡ true → named cs w ≡ Ok c
named_there cs i w c there same = subst (λ (u : List ℕ). named cs u ≡ Ok c) (sym ((bytes_eq-Decides w (word_of c)).0 same)) (finds cs c (among_at cs i c there))

-- From words to arguments.
one_more : (w : List ℕ) (ws us : List (List ℕ)) (r : Result (List (List ℕ)) LineFault) → ((vs : List (List ℕ)) → r ≡ Ok vs → ws ≡ vs) → (r >>= (λ (vs : List (List ℕ)). Ok (w ∷ vs))) ≡ Ok us → w ∷ ws ≡ us
one_more w ws us r same h =
    let (rest, e, g) = bind_ok r (λ (vs : List (List ℕ)). Ok (w ∷ vs)) us h in
    ap (λ (vs : List (List ℕ)). w ∷ vs) (same rest e) ∙ ok_same (w ∷ rest) us g

between_is : (least most : ℕ) (ws us : List (List ℕ)) → between least most ws ≡ Ok us → ws ≡ us
between_is zero most [] us h = ok_same {A = List (List ℕ)} [] us h
between_is (suc least) most [] us h = never_ok fault.Words us h
between_is zero zero (w ∷ ws) us h = never_ok fault.Words us h
between_is zero (suc most) (w ∷ ws) us h = one_more w ws us (between zero most ws) (between_is zero most ws) h
between_is (suc least) zero (w ∷ ws) us h = never_ok fault.Words us h
between_is (suc least) (suc most) (w ∷ ws) us h = one_more w ws us (between least most ws) (between_is least most ws) h

abbrev pub Spell : (ks : List Kind) → List (List ℕ) → Arguments ks → Type 0
Spell ks ws a = (ws ≡ argument_texts ks a) × AreValues ks a

-- the words of a first value and of the others
both_spell : (k : Kind) (ks : List Kind) (v ws : List (List ℕ)) (x : Value k) (xs : Arguments ks) → (v ≡ value_texts k x) × IsValue k x → Spell ks ws xs → Spell (k ∷ ks) (v ++ ws) (x, xs)
both_spell k ks v ws x xs first others =
    (ap (λ (us : List (List ℕ)). us ++ ws) first.0 ∙ ap (λ (us : List (List ℕ)). value_texts k x ++ us) others.0, (first.1, others.1))

values_are : (ks : List Kind) (ws : List (List ℕ)) (a : Arguments ks) → values_in ks ws ≡ Ok a → Spell ks ws a
values_are [] [] a h = (refl, tt)
values_are [] (w ∷ ws) a h = never_ok fault.Words a h
values_are (k ∷ ks) [] a h =
    let (x, e, h1) = bind_ok (ok_or (left_out k) fault.Words) (λ x. values_in ks [] >>= (λ xs. Ok (x, xs))) a h in
    let (xs, g, h2) = bind_ok (values_in ks []) (λ xs. Ok (x, xs)) a h1 in
    subst (λ (b : Arguments (k ∷ ks)). Spell (k ∷ ks) [] b) (ok_same {A = Arguments (k ∷ ks)} (x, xs) a h2)
    (both_spell k ks [] [] x xs (left_is k x (was_some (left_out k) fault.Words x e)) (values_are ks [] xs g))
values_are (k ∷ ks) (w ∷ ws) a h =
    let (x, e, h1) = bind_ok (value_in k w) (λ x. values_in ks ws >>= (λ xs. Ok (x, xs))) a h in
    let (xs, g, h2) = bind_ok (values_in ks ws) (λ xs. Ok (x, xs)) a h1 in
    subst (λ (b : Arguments (k ∷ ks)). Spell (k ∷ ks) (w ∷ ws) b) (ok_same {A = Arguments (k ∷ ks)} (x, xs) a h2)
    (both_spell k ks (w ∷ []) ws x xs (value_is k w x e) (values_are ks ws xs g))

pub arguments_are : (ks : List Kind) (ws : List (List ℕ)) (a : Arguments ks) → arguments_in ks ws ≡ Ok a → Spell ks ws a
arguments_are ks ws a h =
    let (us, e, g) = bind_ok (between (least_words ks) (length ks) ws) (λ us. values_in ks us) a h in
    let s = values_are ks us a g in
    (between_is (least_words ks) (length ks) ws us e ∙ s.0, s.1)

-- What is said, taken apart, is what said it.
abbrev IsSaid : Command → List (List ℕ) → Line → Type 0
IsSaid c ws l = (joined (word_of c ∷ ws) ≡ text_of l) × IsInRange l × (command_of l ≡ c)

row : (c : Command) (says : Arguments (kinds_of c) → Line) → ((a : Arguments (kinds_of c)) → parts_text c a ≡ text_of (says a)) → ((a : Arguments (kinds_of c)) → AreValues (kinds_of c) a → IsInRange (says a)) → ((a : Arguments (kinds_of c)) → command_of (says a) ≡ c)
    → (ws : List (List ℕ)) (l : Line) → given c says ws ≡ Ok l → IsSaid c ws l
row c says text range same ws l h =
    let (a, e, g) = bind_ok (arguments_in (kinds_of c) ws) (λ a. Ok (says a)) l h in
    let s = arguments_are (kinds_of c) ws a e in
    subst (λ (m : Line). IsSaid c ws m) (ok_same (says a) l g) (ap (λ (vs : List (List ℕ)). joined (word_of c ∷ vs)) s.0 ∙ text a, range a s.1, same a)

said_is : (c : Command) (ws : List (List ℕ)) (l : Line) → said_by c ws ≡ Ok l → IsSaid c ws l
said_is command.Begin ws l h = row command.Begin (λ a. line.Event (event.Begin a.0 a.1.0 a.1.1.0 a.1.1.1.0)) (λ a. refl) (λ a v. v) (λ a. refl) ws l h
said_is command.Try ws l h = row command.Try (λ a. line.Event (event.Try a.0)) (λ a. refl) (λ a v. v) (λ a. refl) ws l h
said_is command.Kept ws l h = row command.Kept (λ a. line.Event (event.Kept a.0)) (λ a. refl) (λ a v. v) (λ a. refl) ws l h
said_is command.SayTo ws l h = row command.SayTo (λ a. line.Event (event.SayTo a.0 a.1.0)) (λ a. refl) (λ a v. v) (λ a. refl) ws l h
said_is command.Say ws l h = row command.Say (λ a. line.Event (event.Say a.0)) (λ a. refl) (λ a v. v) (λ a. refl) ws l h
said_is command.Take ws l h = row command.Take (λ a. line.Event (event.Take a.0 a.1.0)) (λ a. refl) (λ a v. v) (λ a. refl) ws l h
said_is command.Hear ws l h = row command.Hear (λ a. line.Event (event.Hear a.0 a.1.0)) (λ a. refl) (λ a v. v) (λ a. refl) ws l h
said_is command.Enter ws l h = row command.Enter (λ a. line.Event (event.Enter a.0)) (λ a. refl) (λ a v. v) (λ a. refl) ws l h
said_is command.Leave ws l h = row command.Leave (λ a. line.Event (event.Leave a.0)) (λ a. refl) (λ a v. v) (λ a. refl) ws l h
said_is command.Soften ws l h = row command.Soften (λ a. line.Event (event.Soften a.0)) (λ a. refl) (λ a v. v) (λ a. refl) ws l h
said_is command.Fall ws l h = row command.Fall (λ a. line.Event (event.Fall a.0)) (λ a. refl) (λ a v. v) (λ a. refl) ws l h
said_is command.Rise ws l h = row command.Rise (λ a. line.Event (event.Rise a.0 a.1.0)) (λ a. refl) (λ a v. v) (λ a. refl) ws l h
said_is command.Switch ws l h = row command.Switch (λ a. line.Event (event.Switch a.0 a.1.0)) (λ a. refl) (λ a v. v) (λ a. refl) ws l h
said_is command.Inside ws l h = row command.Inside (λ a. line.Query (query.Inside a.0)) (λ a. refl) (λ a v. v) (λ a. refl) ws l h
said_is command.Waiting ws l h = row command.Waiting (λ a. line.Query (query.Waiting a.0 a.1.0)) (λ a. refl) (λ a v. v) (λ a. refl) ws l h
said_is command.Holding ws l h = row command.Holding (λ a. line.Query (query.Holding a.0 a.1.0)) (λ a. refl) (λ a v. v) (λ a. refl) ws l h

-- what a line says is its text, in range and among the commands
abbrev IsItsText : List Command → List ℕ → Line → Type 0
IsItsText cs bytes l = (bytes ≡ text_of l) × IsInRange l × IsAmong (command_of l) cs

all_words : (cs : List Command) (ws : List (List ℕ)) (l : Line) → words_say cs ws ≡ Ok l → IsItsText cs (joined ws) l
all_words cs [] l h = never_ok fault.Word l h
all_words cs (first ∷ ws) l h =
    let (c, hc, h1) = bind_ok (named cs first) (λ c. said_by c ws) l h in
    let (word, there) = named_is cs first c hc in
    let (text, range, same) = said_is c ws l h1 in
    (ap (λ (w : List ℕ). joined (w ∷ ws)) word ∙ text, range, subst (λ (d : Command). IsAmong d cs) (sym same) there)

pub short_line : (b : Bool) (r : Result Line LineFault) (l : Line) → cond b (Err fault.Words) r ≡ Ok l → r ≡ Ok l
short_line true r l h = never_ok fault.Words l h
short_line false r l h = h

what_is_read : (cs : List Command) (bytes : List ℕ) (l : Line) → line_of cs bytes ≡ Ok l → IsItsText cs bytes l
unfolding line_of
what_is_read cs bytes l h =
    subst (λ (bs : List ℕ). IsItsText cs bs l) (join_with_byte-slice_split 32 bytes) (all_words cs (words bytes) l (short_line (nat_lt MAX_LINE_LEN (length bytes)) (words_say cs (words bytes)) l h))

-- From arguments to words: what is written is read.
pub its_words : (w : List ℕ) (ws : List (List ℕ)) → Lacks 32 w → All (Lacks 32) ws → words (joined (w ∷ ws)) ≡ w ∷ ws
its_words w [] h hs = slice_split_none is_space w h
its_words w (v ∷ vs) h hs =
    slice_split_at is_space w 32 (joined (v ∷ vs)) h refl
    ∙ ap (λ (ws : List (List ℕ)). w ∷ ws) (its_words v vs (All-head (Lacks 32) v vs hs) (All-tail (Lacks 32) v vs hs))

-- how long words are, each with a space before it
abbrev pub spaced : List (List ℕ) → ℕ
spaced [] = 0
spaced (w ∷ ws) = suc (length w + spaced ws)

pub its_length : (w : List ℕ) (ws : List (List ℕ)) → length (joined (w ∷ ws)) ≡ length w + spaced ws
its_length w [] = omega arith
its_length w (v ∷ vs) =
    let more : length (joined (v ∷ vs)) ≡ length v + spaced vs = its_length v vs in
    let whole : length (w ++ 32 ∷ joined (v ∷ vs)) ≡ length w + suc (length (joined (v ∷ vs))) = length-append w (32 ∷ joined (v ∷ vs)) in
    omega (arith, whole, more)

-- how long the arguments and the spaces before them are at most
abbrev pub room : List Kind → ℕ
room [] = 0
room (k ∷ ks) = suc (width k + room ks)

short_value : (k : Kind) (ks : List Kind) (x : Value k) (ws : List (List ℕ)) → IsSpelledBy k x → spaced ws ≤ room ks → spaced (value_texts k x ++ ws) ≤ room (k ∷ ks)
short_value k ks x ws (inl none) h = subst (λ (vs : List (List ℕ)). spaced (vs ++ ws) ≤ room (k ∷ ks)) (sym none.0) (omega (arith, h))
short_value k ks x ws (inr (w, one, good)) h = subst (λ (vs : List (List ℕ)). spaced (vs ++ ws) ≤ room (k ∷ ks)) (sym one) (omega (arith, h, good.short))

are_short : (ks : List Kind) (a : Arguments ks) → AreValues ks a → spaced (argument_texts ks a) ≤ room ks
are_short [] a v = omega arith
are_short (k ∷ ks) a v = short_value k ks a.0 (argument_texts ks a.1) (spelled_by k a.0 v.0) (are_short ks a.1 v.1)

pub short_arguments : (w : List ℕ) (ks : List Kind) (a : Arguments ks) → AreValues ks a → length (joined (w ∷ argument_texts ks a)) ≤ length w + room ks
short_arguments w ks a v =
    let whole : length (joined (w ∷ argument_texts ks a)) ≡ length w + spaced (argument_texts ks a) = its_length w (argument_texts ks a) in
    let short : spaced (argument_texts ks a) ≤ room ks = are_short ks a v in
    omega (arith, whole, short)

-- what may be left out stands last
abbrev pub lacks_last : List Kind → Bool
lacks_last [] = true
lacks_last (k ∷ []) = true
lacks_last (k ∷ j ∷ ks) = not (is_some (left_out k)) && lacks_last (j ∷ ks)

never_left : (k : Kind) (x : Value k) (rest : Bool) {P : Type 0} → (not (is_some (left_out k)) && rest) ≡ true → left_out k ≡ Some x → P
never_left k x rest h e = absurd (let clash : false ≡ true = sym (ap (λ o. not (is_some o) && rest) e) ∙ h in cc)

has_word : (b rest : Bool) → (not b && rest) ≡ true → (b ≡ false) × (rest ≡ true)
has_word true rest h = absurd (let clash : false ≡ true = h in cc)
has_word false rest h = (refl, h)

-- there are as many words as there may be
abbrev AsMany : List Kind → List (List ℕ) → Type 0
AsMany ks ws = between (least_words ks) (length ks) ws ≡ Ok ws

one_or_none : (b : Bool) (w : List ℕ) → between (cond b 0 1) 1 (w ∷ []) ≡ Ok (w ∷ [])
one_or_none true w = refl
one_or_none false w = refl

last_counts : (k : Kind) (x : Value k) → IsSpelledBy k x → AsMany (k ∷ []) (value_texts k x ++ [])
last_counts k x (inl none) =
    subst (λ (vs : List (List ℕ)). AsMany (k ∷ []) (vs ++ [])) (sym none.0)
    (ap (λ (b : Bool). between (cond b 0 1) 1 []) (ap is_some none.1))
last_counts k x (inr (w, one, good)) = subst (λ (vs : List (List ℕ)). AsMany (k ∷ []) (vs ++ [])) (sym one) (one_or_none (is_some (left_out k)) w)

first_counts : (k : Kind) (ks : List Kind) (x : Value k) (ws : List (List ℕ)) (rest : Bool) → (not (is_some (left_out k)) && rest) ≡ true → IsSpelledBy k x → AsMany ks ws → AsMany (k ∷ ks) (value_texts k x ++ ws)
first_counts k ks x ws rest l (inl none) h = never_left k x rest l none.1
first_counts k ks x ws rest l (inr (w, one, good)) h =
    subst (λ (vs : List (List ℕ)). AsMany (k ∷ ks) (vs ++ ws)) (sym one)
    (ap (λ (b : Bool). between (cond b (least_words ks) (suc (least_words ks))) (suc (length ks)) (w ∷ ws)) (has_word (is_some (left_out k)) rest l).0
    ∙ bound (between (least_words ks) (length ks) ws) (λ (us : List (List ℕ)). Ok (w ∷ us)) ws (Ok (w ∷ ws)) h refl)

as_many : (ks : List Kind) (a : Arguments ks) → lacks_last ks ≡ true → AreValues ks a → AsMany ks (argument_texts ks a)
as_many [] a l v = refl
as_many (k ∷ []) a l v = last_counts k a.0 (spelled_by k a.0 v.0)
as_many (k ∷ j ∷ ks) a l v =
    first_counts k (j ∷ ks) a.0 (argument_texts (j ∷ ks) a.1) (lacks_last (j ∷ ks)) l (spelled_by k a.0 v.0)
    (as_many (j ∷ ks) a.1 (has_word (is_some (left_out k)) (lacks_last (j ∷ ks)) l).1 v.1)

-- words that are read as the arguments
abbrev Say : (ks : List Kind) → List (List ℕ) → Arguments ks → Type 0
Say ks ws a = values_in ks ws ≡ Ok a

word_says : (k : Kind) (ks : List Kind) (w : List ℕ) (ws : List (List ℕ)) (x : Value k) (xs : Arguments ks) → IsGoodWord k w x → Say ks ws xs → Say (k ∷ ks) (w ∷ ws) (x, xs)
word_says k ks w ws x xs good h =
    bound (value_in k w) (λ y. values_in ks ws >>= (λ ys. Ok (y, ys))) x (Ok (x, xs)) good.says
    (bound (values_in ks ws) (λ ys. Ok (x, ys)) xs (Ok (x, xs)) h refl)

last_says : (k : Kind) (x : Value k) → IsSpelledBy k x → Say (k ∷ []) (value_texts k x ++ []) (x, tt)
last_says k x (inl none) =
    subst (λ (vs : List (List ℕ)). Say (k ∷ []) (vs ++ []) (x, tt)) (sym none.0)
    (ap (λ (o : Option (Value k)). ok_or o fault.Words >>= (λ y. Ok (y, tt))) none.1)
last_says k x (inr (w, one, good)) = subst (λ (vs : List (List ℕ)). Say (k ∷ []) (vs ++ []) (x, tt)) (sym one) (word_says k [] w [] x tt good refl)

first_says : (k : Kind) (ks : List Kind) (x : Value k) (xs : Arguments ks) (ws : List (List ℕ)) (rest : Bool) → (not (is_some (left_out k)) && rest) ≡ true → IsSpelledBy k x → Say ks ws xs → Say (k ∷ ks) (value_texts k x ++ ws) (x, xs)
first_says k ks x xs ws rest l (inl none) h = never_left k x rest l none.1
first_says k ks x xs ws rest l (inr (w, one, good)) h = subst (λ (vs : List (List ℕ)). Say (k ∷ ks) (vs ++ ws) (x, xs)) (sym one) (word_says k ks w ws x xs good h)

values_say : (ks : List Kind) (a : Arguments ks) → lacks_last ks ≡ true → AreValues ks a → Say ks (argument_texts ks a) a
values_say [] a l v = refl
values_say (k ∷ []) a l v = last_says k a.0 (spelled_by k a.0 v.0)
values_say (k ∷ j ∷ ks) a l v =
    first_says k (j ∷ ks) a.0 a.1 (argument_texts (j ∷ ks) a.1) (lacks_last (j ∷ ks)) l (spelled_by k a.0 v.0)
    (values_say (j ∷ ks) a.1 (has_word (is_some (left_out k)) (lacks_last (j ∷ ks)) l).1 v.1)

pub arguments_say : (ks : List Kind) (a : Arguments ks) → lacks_last ks ≡ true → AreValues ks a → arguments_in ks (argument_texts ks a) ≡ Ok a
arguments_say ks a l v =
    bound (between (least_words ks) (length ks) (argument_texts ks a)) (λ us. values_in ks us) (argument_texts ks a) (Ok a) (as_many ks a l v) (values_say ks a l v)

-- a space is no byte of a word
pub space_outside : IsOutside 32
space_outside = record { digit = refl; name = refl }

few_words : (c : Command) → nat_le (length (word_of c) + room (kinds_of c)) 128 ≡ true
few_words command.Begin = refl
few_words command.Try = refl
few_words command.Kept = refl
few_words command.SayTo = refl
few_words command.Say = refl
few_words command.Take = refl
few_words command.Hear = refl
few_words command.Enter = refl
few_words command.Leave = refl
few_words command.Soften = refl
few_words command.Fall = refl
few_words command.Rise = refl
few_words command.Switch = refl
few_words command.Inside = refl
few_words command.Waiting = refl
few_words command.Holding = refl

the_last : (c : Command) → lacks_last (kinds_of c) ≡ true
the_last command.Begin = refl
the_last command.Try = refl
the_last command.Kept = refl
the_last command.SayTo = refl
the_last command.Say = refl
the_last command.Take = refl
the_last command.Hear = refl
the_last command.Enter = refl
the_last command.Leave = refl
the_last command.Soften = refl
the_last command.Fall = refl
the_last command.Rise = refl
the_last command.Switch = refl
the_last command.Inside = refl
the_last command.Waiting = refl
the_last command.Holding = refl

pub if_short : {A : Type 0} (n : ℕ) (x y : A) → n ≤ 128 → cond (nat_lt MAX_LINE_LEN n) x y ≡ y
if_short n x y h = let t : nat_lt MAX_LINE_LEN n ≡ false = grind (arith, nat_tests) in ap (λ (b : Bool). cond b x y) t

pub no_longer : (n m : ℕ) → n ≤ m → m ≤ 128 → n ≤ 128
no_longer n m h g = omega arith

back : (cs : List Command) (c : Command) (says : Arguments (kinds_of c) → Line) → ((ws : List (List ℕ)) → said_by c ws ≡ given c says ws) → (a : Arguments (kinds_of c)) → AreValues (kinds_of c) a → IsAmong c cs → line_of cs (parts_text c a) ≡ Ok (says a)
unfolding line_of
back cs c says same a v there =
    let text = parts_text c a in
    let ws = argument_texts (kinds_of c) a in
    let few : length text ≤ length (word_of c) + room (kinds_of c) = short_arguments (word_of c) (kinds_of c) a v in
    let most : length (word_of c) + room (kinds_of c) ≤ 128 = leb-true (length (word_of c) + room (kinds_of c)) 128 (few_words c) in
    let short : length text ≤ 128 = no_longer (length text) (length (word_of c) + room (kinds_of c)) few most in
    if_short (length text) (Err fault.Words) (words_say cs (words text)) short
    ∙ ap (words_say cs) (its_words (word_of c) ws (lacks_word 32 space_outside c) (lacks_arguments 32 space_outside (kinds_of c) a v))
    ∙ bound (named cs (word_of c)) (λ d. said_by d ws) c (Ok (says a)) (finds cs c there)
    (same ws ∙ bound (arguments_in (kinds_of c) ws) (λ b. Ok (says b)) a (Ok (says a)) (arguments_say (kinds_of c) a (the_last c) v) refl)

what_is_written : (cs : List Command) (l : Line) → IsInRange l → IsAmong (command_of l) cs → line_of cs (text_of l) ≡ Ok l
what_is_written cs (line.Event (event.Begin c m x place)) v h = back cs command.Begin (λ a. line.Event (event.Begin a.0 a.1.0 a.1.1.0 a.1.1.1.0)) (λ ws. refl) (c, (m, (x, (place, tt)))) v h
what_is_written cs (line.Event (event.Try who)) v h = back cs command.Try (λ a. line.Event (event.Try a.0)) (λ ws. refl) (who, tt) v h
what_is_written cs (line.Event (event.Kept who)) v h = back cs command.Kept (λ a. line.Event (event.Kept a.0)) (λ ws. refl) (who, tt) v h
what_is_written cs (line.Event (event.SayTo c n)) v h = back cs command.SayTo (λ a. line.Event (event.SayTo a.0 a.1.0)) (λ ws. refl) (c, (n, tt)) v h
what_is_written cs (line.Event (event.Say n)) v h = back cs command.Say (λ a. line.Event (event.Say a.0)) (λ ws. refl) (n, tt) v h
what_is_written cs (line.Event (event.Take n k)) v h = back cs command.Take (λ a. line.Event (event.Take a.0 a.1.0)) (λ ws. refl) (n, (k, tt)) v h
what_is_written cs (line.Event (event.Hear c k)) v h = back cs command.Hear (λ a. line.Event (event.Hear a.0 a.1.0)) (λ ws. refl) (c, (k, tt)) v h
what_is_written cs (line.Event (event.Enter c)) v h = back cs command.Enter (λ a. line.Event (event.Enter a.0)) (λ ws. refl) (c, tt) v h
what_is_written cs (line.Event (event.Leave c)) v h = back cs command.Leave (λ a. line.Event (event.Leave a.0)) (λ ws. refl) (c, tt) v h
what_is_written cs (line.Event (event.Soften c)) v h = back cs command.Soften (λ a. line.Event (event.Soften a.0)) (λ ws. refl) (c, tt) v h
what_is_written cs (line.Event (event.Fall who)) v h = back cs command.Fall (λ a. line.Event (event.Fall a.0)) (λ ws. refl) (who, tt) v h
what_is_written cs (line.Event (event.Rise who age)) v h = back cs command.Rise (λ a. line.Event (event.Rise a.0 a.1.0)) (λ ws. refl) (who, (age, tt)) v h
what_is_written cs (line.Event (event.Switch n p)) v h = back cs command.Switch (λ a. line.Event (event.Switch a.0 a.1.0)) (λ ws. refl) (n, (p, tt)) v h
what_is_written cs (line.Query (query.Inside x)) v h = back cs command.Inside (λ a. line.Query (query.Inside a.0)) (λ ws. refl) (x, tt) v h
what_is_written cs (line.Query (query.Waiting n x)) v h = back cs command.Waiting (λ a. line.Query (query.Waiting a.0 a.1.0)) (λ ws. refl) (n, (x, tt)) v h
what_is_written cs (line.Query (query.Holding n x)) v h = back cs command.Holding (λ a. line.Query (query.Holding a.0 a.1.0)) (λ ws. refl) (n, (x, tt)) v h

pub one_spelling : (cs : List Command) (bytes : List ℕ) (l : Line) → (line_of cs bytes ≡ Ok l) ↔ ((bytes ≡ text_of l) × IsInRange l × IsAmong (command_of l) cs)
one_spelling cs bytes l = (what_is_read cs bytes l, λ h. subst (λ (bs : List ℕ). line_of cs bs ≡ Ok l) (sym h.0) (what_is_written cs l h.1 h.2))
