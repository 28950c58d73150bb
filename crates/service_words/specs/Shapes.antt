-- The commands of services, as `clap` sees them.
use Rattle.std.specs.Prelude.{[], ◌∷◌, codes}
use Rattle.clap.specs.Words.{App, Shape, with_subcommand}
use Rattle.clap.specs.Simple.{new_shape}
use Rattle.clap_arguments.specs.Arguments.{adding, flag_rule, option_rule, word_rule, words_rule}

-- `init DIR`, and the options `--actors` and `--secret`
abbrev pub init_shape : Shape
init_shape = record (new_shape (codes "init")) { rules = word_rule (codes "folder") ∷ option_rule (codes "actors") ∷ option_rule (codes "secret") ∷ [] }

-- with the flags `--no-journal` and `--sync-journal`
abbrev pub journaled : Shape → Shape
journaled s = adding (adding s (flag_rule (codes "no-journal"))) (flag_rule (codes "sync-journal"))

-- `node N DIR`, and the flags `--pipes`, `--no-journal` and `--sync-journal`
abbrev pub node_shape : Shape
node_shape = record (new_shape (codes "node")) {
  rules = word_rule (codes "number") ∷ word_rule (codes "folder") ∷ flag_rule (codes "pipes") ∷ flag_rule (codes "no-journal") ∷ flag_rule (codes "sync-journal") ∷ [];
}

-- `client` and words, the flag `--pipes`, and the options `--commands` and `--answers`
abbrev pub bare_client_shape : Shape
bare_client_shape = record (new_shape (codes "client")) {
  rules = words_rule (codes "words") ∷ flag_rule (codes "pipes") ∷ option_rule (codes "commands") ∷ option_rule (codes "answers") ∷ [];
}

-- the same, and the flags `--no-journal` and `--sync-journal`
abbrev pub client_shape : Shape
client_shape = journaled bare_client_shape

-- `reap DIR`, and the option `--every`
abbrev pub reap_shape : Shape
reap_shape = record (new_shape (codes "reap")) { rules = word_rule (codes "folder") ∷ option_rule (codes "every") ∷ [] }

-- `status DIR`
abbrev pub status_shape : Shape
status_shape = record (new_shape (codes "status")) { rules = word_rule (codes "folder") ∷ [] }

-- `switch N PROBLEM DIR`, and the flag `--pipes`
abbrev pub switch_shape : Shape
switch_shape = record (new_shape (codes "switch")) { rules = word_rule (codes "number") ∷ word_rule (codes "problem") ∷ word_rule (codes "folder") ∷ flag_rule (codes "pipes") ∷ [] }

-- a program with the commands of services
abbrev pub with_actors : App → App
with_actors a = with_subcommand (with_subcommand (with_subcommand a init_shape) node_shape) client_shape

abbrev pub with_services : App → App
with_services a = with_subcommand (with_subcommand (with_subcommand (with_actors a) reap_shape) status_shape) switch_shape
