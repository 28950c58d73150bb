use Rattle.std.proofs.Common.{Some, None, codes}
use Rattle.clap.specs.Words.{found_of}
use Rattle.picture_cli.proofs.WordFacts.{name_told, name_absent, name_there, no_name}
use Rattle.picture_cli.proofs.reading.resource_at.Goals as goal

pub returns-in-Some-of : goal.returns-in-Some-of
returns-in-Some-of c =
    name_told (found_of c.args.found.now) (codes "resource") c.in-Some.text.now (Some (Some c.in-Some-of.name)) c.in-Some.ensures
    (name_there c.in-Some.text.now c.as_bytes.result.now c.in-Some-of.name c.as_bytes.ensures.value c.in-Some-of.ensures.0 c.in-Some-of.ensures.1)

pub returns-in-None-of : goal.returns-in-None-of
returns-in-None-of c =
    name_told (found_of c.args.found.now) (codes "resource") c.in-Some.text.now None c.in-Some.ensures (no_name c.in-Some.text.now c.as_bytes.result.now c.as_bytes.ensures.value c.in-None-of.ensures)

pub returns-in-None : goal.returns-in-None
returns-in-None c = name_absent (found_of c.args.found.now) (codes "resource") c.in-None.ensures
