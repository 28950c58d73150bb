use Rattle.std.proofs.Common.{◌≡◌, [], List, map, string_bytes, subst}
use Rattle.clap.specs.Words.{Row, Kinds, HasKind, app_of, fault_of}
use Rattle.picture_cli.specs.Words.{app, TellsPart}
use Rattle.picture_cli.proofs.WordFacts.{met_rows, by_app, part_read}
use Rattle.picture_cli.proofs.reading.parse_by.Goals as goal

pub returns-in-Ok : goal.returns-in-Ok
returns-in-Ok c =
    let words = map string_bytes c.args.words.now in
    let none = by_app (λ (kinds : Kinds). kinds ≡ []) (app_of c.args.command) words c.requires c.in-Ok.ensures.kinds in
    part_read (fault_of app words) _ c.part_in.result none (subst (λ (rows : List Row). TellsPart rows c.part_in.result) (met_rows c.args.command words c.in-Ok.found c.requires c.in-Ok.ensures.matches) c.part_in.ensures)

pub returns-in-Err : goal.returns-in-Err
returns-in-Err c =
    let words = map string_bytes c.args.words.now in
    c.unserved_by.ensures (fault_of app words) (by_app (λ (kinds : Kinds). HasKind kinds c.in-Err.error) (app_of c.args.command) words c.requires c.in-Err.ensures.kinds)
