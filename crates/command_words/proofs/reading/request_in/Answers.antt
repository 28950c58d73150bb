use Rattle.std.proofs.Common.{◌∙◌}
use Rattle.clap.specs.Words.{rows_of, found_of, subcommand_rows_of}
use Rattle.command_words.proofs.NameFacts.{request_found, found_name}
use Rattle.command_words.proofs.reading.request_in.Goals as goal

pub returns : goal.returns
returns c =
    request_found (rows_of (found_of c.args.matches.now)) c.has_flag-front.result (subcommand_rows_of c.args.matches.now) c.in-Some.name.now (rows_of (found_of c.in-Some.found.now)) c.request_of.result c.has_flag-front.ensures
    (c.in-Some.ensures.name ∙ found_name c.args.matches.now) c.in-Some.ensures.rows c.request_of.ensures
