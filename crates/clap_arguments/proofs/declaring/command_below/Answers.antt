use Rattle.std.proofs.Common.{◌∙◌, ap}
use Rattle.clap.specs.Simple.{App, shape_of_fields}
use Rattle.clap.specs.declared.builder.command.Command.{Command}
use Rattle.clap.specs.declared.builder.command.Command.TheOpen.{Command-F}
use Rattle.clap_arguments.proofs.declaring.command_below.Goals as goal

pub returns-clause-shape : goal.returns-clause-shape
returns-clause-shape c = ap shape_of_fields c.long_about.ensures ∙ ap shape_of_fields c.about.ensures ∙ ap (λ (a : App). a.top) c.new.ensures.app

pub returns-clause-local : goal.returns-clause-local
returns-clause-local c = ap (λ (f : Command-F Command). f.has_globals) c.long_about.ensures ∙ ap (λ (f : Command-F Command). f.has_globals) c.about.ensures ∙ c.new.ensures.local
