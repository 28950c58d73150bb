use Rattle.std.proofs.Common.{◌≡◌, ◌∙◌, Bool, true, ap}
use Rattle.clap.specs.Simple.{Shape, app_of, app_of_fields, on_top}
use Rattle.clap.specs.declared.builder.command.Command.{Command}
use Rattle.clap.specs.declared.builder.command.Command.TheOpen.{Command-F}
use Rattle.command_words.proofs.reading.bare_top.Goals as goal

abbrev with_version : Shape → Shape
with_version s = record s { has_version = true }

abbrev with_needed : Shape → Shape
with_needed s = record s { subcommand_required = true }

pub returns-clause-app : goal.returns-clause-app
returns-clause-app c =
    let a : app_of c.about.result ≡ on_top with_version (app_of c.new.result) = ap app_of_fields c.about.ensures ∙ ap app_of_fields c.version.ensures in
    let b : app_of c.subcommand_required.result ≡ on_top with_needed (app_of c.about.result) = ap app_of_fields c.subcommand_required.ensures in
    b ∙ ap (on_top with_needed) (a ∙ ap (on_top with_version) c.new.ensures.app)

pub returns-clause-local : goal.returns-clause-local
returns-clause-local c =
    let globals : Command-F Command → Bool = λ f. f.has_globals in
    ap globals c.subcommand_required.ensures ∙ ap globals c.about.ensures ∙ ap globals c.version.ensures ∙ c.new.ensures.local
