use Rattle.std.proofs.Common.{Ok, Err, Option, List, ℕ, map, string_bytes, subst}
use Rattle.clap.specs.Walk.{Row}
use Rattle.clap.specs.Words.{app_of, rows_of, found_of}
use Rattle.command_words.specs.Words.{Requests, found_in}
use Rattle.command_words.proofs.NameFacts.{met_rows, met_front, met_one}
use Rattle.command_words.proofs.WordFacts.{fails_by}
use Rattle.command_words.proofs.reading.parse_by.Goals as goal

pub request_in-requires : goal.request_in-requires
request_in-requires c =
    let words = map string_bytes c.args.words.now in
    let none = fails_by (app_of c.args.command) words (Ok c.in-Ok.matches) c.requires c.in-Ok.ensures.kinds in
    met_one c.args.command words c.in-Ok.matches c.requires none c.in-Ok.ensures.parsed c.in-Ok.ensures.matches

pub returns-in-Ok-request_in : goal.returns-in-Ok-request_in
returns-in-Ok-request_in c =
    let words = map string_bytes c.args.words.now in
    let request = c.in-Ok-request_in.request in
    let named = subst (λ (found : Option (List ℕ × List Row)). Requests found (rows_of (found_of c.in-Ok.matches)) request) (met_rows c.args.command words c.in-Ok.matches c.requires c.in-Ok.ensures.matches) c.in-Ok-request_in.ensures in (
      fails_by (app_of c.args.command) words (Ok c.in-Ok.matches) c.requires c.in-Ok.ensures.kinds,
      subst (λ (rows : List Row). Requests (found_in words).named rows request) (met_front c.args.command words c.in-Ok.matches c.requires c.in-Ok.ensures.matches) named,
    )

pub returns : goal.returns
returns c = fails_by {T = Unit {0}} (app_of c.args.command) (map string_bytes c.args.words.now) (Err c.in-Err.error) c.requires c.in-Err.ensures.kinds
