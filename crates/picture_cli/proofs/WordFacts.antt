-- The words that the program takes, and the part that they name.
use Rattle.std.proofs.Common.{◌≡◌, inl, inr, ℕ, true, false, List, [], Option, Some, None, Result, Ok, Err, refl, sym, ap, subst, ◌∙◌}
use Rattle.std.specs.Prelude.{SomeIff}
use Rattle.clap.proofs.OnLiterals.{clap_on_literals}
use Rattle.clap.proofs.WalkLemmas.{first_value-rows}
use Rattle.clap.specs.Built.{AddsArg}
use Rattle.clap.specs.Words.{App, Rule, Row, Kinds, HasMatchesOf, fault_of, is_simple, is_simple_and_free, app_of, rule_of, rows_of, found_of, first_of, first_value, matches_of, with_rule}
use Rattle.clap.specs.declared.builder.arg.Arg.{Arg}
use Rattle.clap.specs.declared.builder.command.Command as clap
use Rattle.clap.specs.declared.parser.matches.Found.{Found}
use Rattle.clap.specs.declared.parser.matches.ArgMatches.{ArgMatches}
use Rattle.lock_messages.specs.Names.{IsName}
use Rattle.run_picture.specs.declared.marks.Part.{Part}
use Rattle.program_ends.specs.declared.ending.Ended.{Ended}
use Rattle.program_ends.specs.declared.wording.Unserved.{Unserved}
use Rattle.program_ends.specs.Endings.{Writers, LacksMemory, RefusesWords, EndsUnserved}
use Rattle.program_ends.specs.Wordings.{IsUnserved}
use Rattle.picture_cli.specs.declared.reading.Undrawn.{Undrawn}
use Rattle.picture_cli.specs.declared.reading.Undrawn.TheVariants as undrawn
use Rattle.picture_cli.specs.Words.{app, rows_in, IsLine, line_number, TellsLine, TellsName, NamesPart, NamesNone, TellsPart, ReadsPart}
use Rattle.picture_cli.specs.Drawing.{Page, DrawsInput, RunsBy}

is_simple_app : is_simple_and_free app ≡ true
unfolding clap_on_literals
is_simple_app = refl

has_matches : is_simple app ≡ true
unfolding clap_on_literals
has_matches = refl

-- the command is the one that is meant
pub by_app : (P : Kinds → Type 0) (a : App) (words : List (List ℕ)) → a ≡ app → (is_simple_and_free a ≡ true → P (fault_of a words)) → P (fault_of app words)
by_app P a words e h = subst (λ (b : App). is_simple_and_free b ≡ true → P (fault_of b words)) e h is_simple_app

pub met_rows : (c : clap.Command) (words : List (List ℕ)) (m : ArgMatches) → app_of c ≡ app → HasMatchesOf (app_of c) words m → rows_of (found_of m) ≡ rows_in words
unfolding rows_in
met_rows c words m e h = (h (ap is_simple e ∙ has_matches)).0 ∙ ap (λ (a : App). matches_of a words) e

-- a command with one more option
pub with_option : (old new : clap.Command) (a : Arg) (b : App) (r : Rule) → AddsArg old a new → app_of old ≡ b → rule_of a ≡ r → a.global ≡ false → app_of new ≡ with_rule b r
with_option old new a b r adds before rule local = adds.shape local ∙ ap (λ (x : App). with_rule x (rule_of a)) before ∙ ap (λ (x : Rule). with_rule b x) rule

-- What an option's value tells.

pub line_told : (f : Found) (name text : List ℕ) (absent : ℕ) (r : Option ℕ) → Some text ≡ first_value f name → SomeIff r (IsLine text) (line_number text) → TellsLine absent (first_of name (rows_of f)) r
line_told f name text absent r at h = subst (λ (o : Option (List ℕ)). TellsLine absent o r) (at ∙ first_value-rows f name) h

pub line_absent : (f : Found) (name : List ℕ) (absent : ℕ) → None ≡ first_value f name → TellsLine absent (first_of name (rows_of f)) (Some absent)
line_absent f name absent at = subst (λ (o : Option (List ℕ)). TellsLine absent o (Some absent)) (at ∙ first_value-rows f name) refl

pub name_told : (f : Found) (name text : List ℕ) (r : Option (Option (List ℕ))) → Some text ≡ first_value f name → SomeIff r (IsName text) (Some text) → TellsName (first_of name (rows_of f)) r
name_told f name text r at h = subst (λ (o : Option (List ℕ)). TellsName o r) (at ∙ first_value-rows f name) h

pub name_absent : (f : Found) (name : List ℕ) → None ≡ first_value f name → TellsName (first_of name (rows_of f)) (Some None)
name_absent f name at = subst (λ (o : Option (List ℕ)). TellsName o (Some None)) (at ∙ first_value-rows f name) refl

pub name_there : (text bytes x : List ℕ) → bytes ≡ text → IsName bytes → x ≡ bytes → SomeIff (Some (Some x)) (IsName text) (Some text)
name_there text bytes x same is e = (subst IsName same is, ap Some (e ∙ same))

pub no_name : (text bytes : List ℕ) → bytes ≡ text → (IsName bytes → ⊥) → SomeIff {T = Option (List ℕ)} None (IsName text) (Some text)
no_name text bytes same never is = never (subst IsName (sym same) is)

-- What an option tells is one thing.

-- no part is named

-- what was found is read
pub part_read : (kinds : Kinds) (rows : List Row) (r : Result Part Undrawn) → kinds ≡ [] → TellsPart rows r → ReadsPart kinds rows r
part_read kinds rows (Ok p) none h = (none, h)
part_read kinds rows (Err (undrawn.Unserved why)) none h = absurd h
part_read kinds rows (Err (undrawn.Value text)) none h = (none, h)

pub read_same : (kinds : Kinds) (rows : List Row) (u v : Undrawn) → ReadsPart kinds rows (Err u) → u ≡ v → ReadsPart kinds rows (Err v)
read_same kinds rows u v h e = subst (λ (x : Undrawn). ReadsPart kinds rows (Err x)) e h

-- what a run comes to

pub runs_lacking : (input : Option (List ℕ)) (kinds : Kinds) (rows : List Row) (page : Page) (w : Writers) (e : Ended) → LacksMemory w e → RunsBy input kinds rows page w e
runs_lacking input kinds rows page w e h = inr (inl h)

pub runs_part : (input : Option (List ℕ)) (kinds : Kinds) (rows : List Row) (page : Page) (w : Writers) (e : Ended) (p : Part) → kinds ≡ [] → NamesPart rows p → DrawsInput input p page w e → RunsBy input kinds rows page w e
runs_part input kinds rows page w e p n m h = inl (n, inl (p, m, h))

pub runs_value : (input : Option (List ℕ)) (kinds : Kinds) (rows : List Row) (page : Page) (w : Writers) (e : Ended) → kinds ≡ [] → NamesNone rows → page.new ≡ page.old → RefusesWords w e → RunsBy input kinds rows page w e
runs_value input kinds rows page w e n m k h = inl (n, inr (m, k, h))

pub runs_unserved : (input : Option (List ℕ)) (kinds : Kinds) (rows : List Row) (page : Page) (w : Writers) (e : Ended) (u : Unserved) → IsUnserved kinds u → ((ks : Kinds) → IsUnserved ks u → EndsUnserved ks w e) → RunsBy input kinds rows page w e
runs_unserved input kinds rows page w e u h f = inr (f kinds h)
