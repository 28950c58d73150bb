-- A command with one more argument, or with one more command below it.
use Rattle.std.proofs.Common.{◌≡◌, ◌∙◌, ◌||◌, Bool, false, ap}
use Rattle.clap.specs.Built.{AddsArg, AddsSubcommand}
use Rattle.clap.specs.Simple.{App, Shape, app_of, shape_of, with_rule, with_subcommand}
use Rattle.clap.specs.Walk.{Rule, rule_of}
use Rattle.clap.specs.declared.builder.arg.Arg.{Arg}
use Rattle.clap.specs.declared.builder.command.Command.TheViews.{out-Command}
use Rattle.clap.specs.declared.builder.command.Command as clap
use Rattle.clap_arguments.specs.Arguments.{adding}

-- a program with one more flag
pub with_flag : (old new : clap.Command) (a : Arg) (b : App) (r : Rule) → AddsArg old a new → app_of old ≡ b → rule_of a ≡ r → a.global ≡ false → app_of new ≡ with_rule b r
with_flag old new a b r adds before rule local = adds.shape local ∙ ap (λ (x : App). with_rule x (rule_of a)) before ∙ ap (λ (x : Rule). with_rule b x) rule

-- a command with one more argument
pub shape_adding : (old new : clap.Command) (a : Arg) → AddsArg old a new → a.global ≡ false → shape_of new ≡ adding (shape_of old) (rule_of a)
shape_adding old new a adds local = ap (λ (w : App). w.top) (adds.shape local)

-- a program with one more command below it
pub with_sub : (old sub new : clap.Command) (b : App) (s : Shape) → AddsSubcommand old sub new → app_of old ≡ b → shape_of sub ≡ s → (out-Command sub).has_globals ≡ false → app_of new ≡ with_subcommand b s
with_sub old sub new b s adds before shape local = adds.shape local ∙ ap (λ (x : App). with_subcommand x (shape_of sub)) before ∙ ap (λ (x : Shape). with_subcommand b x) shape

-- neither is for all commands below
pub still_local : (old new : clap.Command) (a : Arg) → AddsArg old a new → (out-Command old).has_globals ≡ false → a.global ≡ false → (out-Command new).has_globals ≡ false
still_local old new a adds e k = adds.globals ∙ ap (λ (b : Bool). b || a.global) e ∙ k
