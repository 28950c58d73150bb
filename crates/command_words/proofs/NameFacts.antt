-- The command that words name is one of the program's.
use Rattle.std.proofs.Common.{◌≡◌, ◌⊎◌, inl, inr, ◌&&◌, ◌||◌, not, Bool, true, false, cond, ℕ, List, [], ◌∷◌, map, codes, Option, Some, None, Result, Ok, Err, option_map, find, is_some, refl, sym, ap, subst, ◌∙◌, Box}
use Rattle.std.specs.Prelude.{IfOk}
use Rattle.std.specs.Box.{box_value}
use Rattle.std.proofs.lemmas.Option.{same_Some}
use Rattle.clap.proofs.CallerLemmas.{subcommand_required}
use Rattle.clap.proofs.OnLiterals.{clap_on_literals}
use Rattle.clap.specs.Built.{IsParsedFrom}
use Rattle.clap.specs.Matches.{found_of, subcommand_name_of}
use Rattle.clap.specs.Simple.{App, Shape, app_of, matches_of, built, entered, rows_at, names_of, label_of, argument_words, is_simple, subcommand_of, subcommand_rows, subcommand_rows_of, HasMatchesOf}
use Rattle.clap.specs.Kinds.{Kinds, or_else}
use Rattle.clap.specs.Faults.{fault_of, walk_fault}
use Rattle.clap.specs.Walk.{Names, Row, Text, answers_to, stop_after, one_of, rows_of, walk_from, nothing_held}
use Rattle.std.specs.Str.{bytes_eq}
use Rattle.std.proofs.lemmas.Slice.Eq.{bytes_eq-Decides}
use Rattle.clap.specs.declared.builder.command.Command.TheViews.{out-Command}
use Rattle.clap.specs.declared.builder.command.Command as clap
use Rattle.clap.specs.declared.parser.matches.ArgMatches.{ArgMatches}
use Rattle.clap.specs.declared.parser.matches.ArgMatches.TheViews.{out-ArgMatches, out-SubCommand}
use Rattle.clap.specs.declared.parser.matches.SubCommand.{SubCommand}
use Rattle.command_words.specs.Words.{app, found_in, IsRequest, NamesOne, RequestsBehind, RequestsNamed, Requests}
use Rattle.clap_arguments.specs.Arguments.{IsFlag}
use Rattle.command_words.specs.declared.reading.Request.{Request}
use Rattle.command_words.proofs.HelpFacts.{NotHelp, walk_keeps}

-- one of some names, which a word answers to
abbrev pub OneOf : (Text × List Text → Bool) → Names → Text → Type 0
OneOf f [] n = ⊥
OneOf f (x ∷ xs) n = ((n ≡ x.0) × (f x ≡ true)) ⊎ OneOf f xs n

abbrev labels : List Shape → Names
labels = map label_of

-- a shape that is found has one of the names
abbrev FoundOne : (Text × List Text → Bool) → List Shape → Option (Text × List Row) → Type 0
FoundOne f subs None = Unit {0}
FoundOne f subs (Some found) = OneOf f (labels subs) found.0

one_more : (f : Text × List Text → Bool) (s : Shape) (subs : List Shape) (found : Option (Text × List Row)) → FoundOne f subs found → FoundOne f (s ∷ subs) found
one_more f s subs None h = tt
one_more f s subs (Some found) h = inr h

find_by : (f : Text × List Text → Bool) (b : Bool) (s : Shape) (subs : List Shape) (rest : Option Shape) (words : List Text) → f (label_of s) ≡ b
    → FoundOne f subs (option_map (λ t. rows_at t words) rest) → FoundOne f (s ∷ subs) (option_map (λ t. rows_at t words) (cond b (Some s) rest))
find_by f true s subs rest words e h = inl (refl, e)
find_by f false s subs rest words e h = one_more f s subs (option_map (λ t. rows_at t words) rest) h

found_one : (f : Text × List Text → Bool) (subs : List Shape) (words : List Text) → FoundOne f subs (option_map (λ t. rows_at t words) (find (λ s. f (label_of s)) subs))
found_one f [] words = tt
found_one f (s ∷ subs) words = find_by f (f (label_of s)) s subs (find (λ t. f (label_of t)) subs) words refl (found_one f subs words)

abbrev pub label : Text → Text × List Text
label name = (name, [])

abbrev pub all_labels : Names
all_labels = label (codes "script") ∷ label (codes "audit") ∷ label (codes "ballot") ∷ label (codes "run") ∷ label (codes "explain") ∷ label (codes "merge") ∷ label (codes "record") ∷ label (codes "init") ∷ label (codes "node") ∷ label (codes "client") ∷ label (codes "reap") ∷ label (codes "status") ∷ label (codes "switch") ∷ label (codes "help") ∷ []

-- the program's commands have these names, and `clap` adds the last
labels_are : labels (built app).subs ≡ all_labels
unfolding clap_on_literals
labels_are = refl

answers_by_name : (word name : Text) → answers_to word (label name) ≡ true → name ≡ word
answers_by_name word name h = (bytes_eq-Decides name word).0 (or_false (bytes_eq name word) h)
  where
    or_false : (b : Bool) → (b || false) ≡ true → b ≡ true
    or_false true h = refl
    or_false false h = h

is_name : (word n : Text) → OneOf (answers_to word) all_labels n → (word ≡ codes "help" → ⊥) → IsRequest n
is_name word n (inl e) other = inl (inl e.0)
is_name word n (inr (inl e)) other = inl (inr (inl e.0))
is_name word n (inr (inr (inl e))) other = inl (inr (inr (inl e.0)))
is_name word n (inr (inr (inr (inl e)))) other = inl (inr (inr (inr e.0)))
is_name word n (inr (inr (inr (inr (inl e))))) other = inr (inl e.0)
is_name word n (inr (inr (inr (inr (inr (inl e)))))) other = inr (inr (inl e.0))
is_name word n (inr (inr (inr (inr (inr (inr (inl e))))))) other = inr (inr (inr (inl e.0)))
is_name word n (inr (inr (inr (inr (inr (inr (inr (inl e)))))))) other = inr (inr (inr (inr (inl e.0))))
is_name word n (inr (inr (inr (inr (inr (inr (inr (inr (inl e))))))))) other = inr (inr (inr (inr (inr (inl e.0)))))
is_name word n (inr (inr (inr (inr (inr (inr (inr (inr (inr (inl e)))))))))) other = inr (inr (inr (inr (inr (inr (inl e.0))))))
is_name word n (inr (inr (inr (inr (inr (inr (inr (inr (inr (inr (inl e))))))))))) other = inr (inr (inr (inr (inr (inr (inr (inl e.0)))))))
is_name word n (inr (inr (inr (inr (inr (inr (inr (inr (inr (inr (inr (inl e)))))))))))) other = inr (inr (inr (inr (inr (inr (inr (inr (inl e.0))))))))
is_name word n (inr (inr (inr (inr (inr (inr (inr (inr (inr (inr (inr (inr (inl e))))))))))))) other = inr (inr (inr (inr (inr (inr (inr (inr (inr e.0))))))))
is_name word n (inr (inr (inr (inr (inr (inr (inr (inr (inr (inr (inr (inr (inr (inl e)))))))))))))) other = absurd (other (sym (answers_by_name word (codes "help") e.1)))
is_name word n (inr (inr (inr (inr (inr (inr (inr (inr (inr (inr (inr (inr (inr (inr e)))))))))))))) other = absurd e

some_command : (word : Text) (subs : List Shape) (found : Option (Text × List Row)) (n : Text) → labels subs ≡ all_labels → (word ≡ codes "help" → ⊥) → FoundOne (answers_to word) subs found
    → option_map (λ p. p.0) found ≡ Some n → IsRequest n
some_command word subs None n e other h k = let clash : None ≡ Some n = k in cc
some_command word subs (Some found) n e other h k =
    let same : found.0 ≡ n = let s : Some found.0 ≡ Some n = k in cc in
    is_name word n (subst (λ (m : Text). OneOf (answers_to word) all_labels m) same (subst (λ (ns : Names). OneOf (answers_to word) ns found.0) e h)) other

stopped_command : (stop : Option (Text × List Text)) (n : Text) → NotHelp stop → option_map (λ p. p.0) (entered (built app) stop) ≡ Some n → IsRequest n
stopped_command None n other k = let clash : None ≡ Some n = k in cc
stopped_command (Some p) n other k = some_command p.0 (built app).subs (entered (built app) (Some p)) n labels_are other (found_one (answers_to p.0) (built app).subs p.1) k

help_is_on : (built app).top.disable_help_subcommand ≡ false
unfolding clap_on_literals
help_is_on = refl

first_none : (a b : Kinds) → or_else a b ≡ [] → a ≡ []
first_none [] b e = refl
first_none (k ∷ ks) b e = let clash : k ∷ ks ≡ [] = e in cc

-- words that are taken do not stop at `help`
not_help : (words : List Text) → fault_of app words ≡ [] → NotHelp (stop_after (built app).top.rules (names_of (built app)) (argument_words app words))
not_help words none =
    walk_keeps (built app).top (names_of (built app)) (argument_words app words) (walk_from nothing_held) help_is_on (first_none (walk_fault (built app).top (names_of (built app)) (walk_from nothing_held) (argument_words app words)) _ none) tt

pub named_is_request : (words : List Text) (n : Text) → fault_of app words ≡ [] → option_map (λ p. p.0) (found_in words).named ≡ Some n → IsRequest n
unfolding found_in
named_is_request words n none h = stopped_command (stop_after (built app).top.rules (names_of (built app)) (argument_words app words)) n (not_help words none) h

-- what a parse met

name_of_rows : {Z : Type 0} (o : Option (Box SubCommand Z)) → option_map (λ b. (out-SubCommand (box_value b)).name.now) o ≡ option_map (λ p. p.0) (subcommand_rows o)
name_of_rows None = refl
name_of_rows (Some b) = refl

some_mapped : {A B : Type 0} (f : A → B) (o : Option A) → is_some (option_map f o) ≡ is_some o
some_mapped f None = refl
some_mapped f (Some x) = refl

names_one : (o : Option (List ℕ)) → is_some o ≡ true → ((n : List ℕ) → o ≡ Some n → IsRequest n) → NamesOne o
names_one None h f = let clash : false ≡ true = h in cc
names_one (Some n) h f = f n refl

no_globals : (a b c d : Bool) → (a && (not b && (not c && d))) ≡ true → c ≡ false
no_globals true false false d h = refl
no_globals true false true d h = let clash : false ≡ true = h in cc
no_globals true true c d h = let clash : false ≡ true = h in cc
no_globals false b c d h = let clash : false ≡ true = h in cc

is_simple_app : is_simple app ≡ true
unfolding clap_on_literals
is_simple_app = refl

pub met_rows : (c : clap.Command) (words : List (List ℕ)) (m : ArgMatches) → app_of c ≡ app → HasMatchesOf (app_of c) words m → subcommand_rows_of m ≡ (found_in words).named
unfolding found_in
met_rows c words m e h = (h (ap is_simple e ∙ is_simple_app)).1 ∙ ap (λ (a : App). subcommand_of a words) e

pub met_front : (c : clap.Command) (words : List (List ℕ)) (m : ArgMatches) → app_of c ≡ app → HasMatchesOf (app_of c) words m → rows_of (found_of m) ≡ (found_in words).front
unfolding found_in
met_front c words m e h = (h (ap is_simple e ∙ is_simple_app)).0 ∙ ap (λ (a : App). matches_of a words) e

met_name : (c : clap.Command) (words : List (List ℕ)) (m : ArgMatches) → app_of c ≡ app → HasMatchesOf (app_of c) words m → subcommand_name_of m ≡ option_map (λ p. p.0) (found_in words).named
met_name c words m e h = name_of_rows (out-ArgMatches m).subcommand ∙ ap (option_map (λ p. p.0)) (met_rows c words m e h)

pub met_one : (c : clap.Command) (words : List (List ℕ)) (m : ArgMatches) → app_of c ≡ app → fault_of app words ≡ [] → IsParsedFrom c m → HasMatchesOf (app_of c) words m → NamesOne (subcommand_name_of m)
met_one c words m e none p h =
    let locals = no_globals _ _ (out-Command c).has_globals _ (ap (λ (a : App). a.top.is_plain) e) in
    let met = subcommand_required c m p locals (ap (λ (a : App). a.top.subcommand_required) e) in
    names_one (subcommand_name_of m) (some_mapped _ (out-ArgMatches m).subcommand ∙ met) (λ n k. named_is_request words n none (sym (met_name c words m e h) ∙ k))

-- what was found is what the words ask for
pub names_found : (front : Bool) (o : Option (Text × List Row)) (name : Text) (rows : List Row) (r : Request) → Some name ≡ option_map (λ p. p.0) o → Some rows ≡ option_map (λ p. p.1) o → RequestsBehind front name rows r
    → RequestsNamed front o r
names_found front None name rows r e k h = let clash : Some name ≡ None = e in absurd (cc)
names_found front (Some found) name rows r e k h =
    let same : name ≡ found.0 = same_Some name found.0 e in
    let rest : rows ≡ found.1 = same_Some rows found.1 k in
    subst (λ (rs : List Row). RequestsBehind front found.0 rs r) rest (subst (λ (n : Text). RequestsBehind front n rows r) same h)

pub request_found : {E : Type 0} (rows : List Row) (front : Bool) (o : Option (Text × List Row)) (name : Text) (behind : List Row) (r : Result Request E) → IsFlag (one_of (codes "explain") rows) front
    → Some name ≡ option_map (λ p. p.0) o → Some behind ≡ option_map (λ p. p.1) o → IfOk r (λ q. RequestsBehind front name behind q) → IfOk r (λ q. Requests o rows q)
request_found {E} rows front o name behind (Ok q) flag e k h = (front, flag, names_found front o name behind q e k h)
request_found {E} rows front o name behind (Err x) flag e k h = tt

pub found_name : (m : ArgMatches) → subcommand_name_of m ≡ option_map (λ p. p.0) (subcommand_rows_of m)
found_name m = name_of_rows (out-ArgMatches m).subcommand
