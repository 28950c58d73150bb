use Rattle.std.proofs.Common.{◌≡◌, ◌∙◌, true, ap}
use Rattle.clap.specs.Simple.{Shape, app_of, app_of_fields, on_top}
use Rattle.picture_cli.proofs.reading.bare.Goals as goal

abbrev with_version : Shape → Shape
with_version s = record s { has_version = true }

pub returns : goal.returns
returns c =
    let a : app_of c.about.result ≡ on_top with_version (app_of c.new.result) = ap app_of_fields c.about.ensures ∙ ap app_of_fields c.version.ensures in
    let b : app_of c.long_about.result ≡ app_of c.about.result = ap app_of_fields c.long_about.ensures in
    b ∙ a ∙ ap (on_top with_version) c.new.ensures.app
