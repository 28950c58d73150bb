-- What `serve_run` writes, and its status.
use Rattle.std.specs.Prelude.{◌≡◌, ◌⊎◌, ℕ, Bool, true, false, List, length, Option, Some, None, Result, Ok, Err}
use Rattle.std.specs.Io.KnownBytes.{Keeps, Appends}
use Rattle.event_lines.specs.declared.wishes.Wish.{Wish}
use Rattle.journal_audit.specs.declared.verdicts.Verdict.TheVariants.{Sound}
use Rattle.line_streams.specs.Streams.{pieces, AppendsPart}
use Rattle.operator_cli.specs.declared.faults.ServeFault.{ServeFault}
use Rattle.world_settings.specs.declared.faults.SettingsFault.{SettingsFault}
use Rattle.world_settings.specs.declared.faults.SettingsFault.TheVariants as settings
use Rattle.world_settings.specs.declared.commands.Command.{Command}
use Rattle.world_settings.specs.declared.commands.Command.TheVariants as command
use Rattle.world_settings.specs.declared.settings.Settings.{Settings}
use Rattle.world_settings.specs.Settings.{Given, settings_of}
use Rattle.operator_cli.specs.Outputs.{output_of, verdict_output, refusal_output, Prints, EndsRefused}
use Rattle.world_settings.specs.Heads.{head_of}
use Rattle.run_service.specs.Ends.{End, IsEndOf, run_text, journal_behind, end_status}

-- the command that `serve_run` takes, and whether it asks for the journal
abbrev pub IsRun : Command → Type 0
IsRun command.Script = ⊥
IsRun command.Audit = ⊥
IsRun command.Ballot = ⊥
IsRun (command.Run journal) = Unit {0}

-- What was written as a journal is one: where it is audited, `operator_cli::serve` prints that it is
-- sound, and how many events it has.
abbrev pub IsFoundSound : Bool → List ℕ → End → Type 0
IsFoundSound false head e = Unit {0}
IsFoundSound true head e = output_of command.Audit (journal_behind head e.history) ≡ verdict_output (Sound (length e.history))

-- How a run ends that has settings: all of the text of its end was written, and the status is the end's;
-- or after a fault a beginning of it, and not all, or nothing where the run didn't come to its end.
abbrev pub Tells : Bool → List ℕ → Settings → List Wish → Option (List ℕ) → Option (List ℕ) → Result ℕ ServeFault → Type 0
Tells journal head s wishes old new (Ok status) = (e : End) × IsEndOf s wishes e × Appends old new (run_text journal head e) × (status ≡ end_status e.faults) × IsFoundSound journal head e
Tells journal head s wishes old new (Err f) = Keeps old new ⊎ ((e : End) × IsEndOf s wishes e × AppendsPart old new (run_text journal head e))

-- the same, and for settings that are refused the line of their fault
abbrev pub TellsBy : Bool → List ℕ → Result Given SettingsFault → Option (List ℕ) → Option (List ℕ) → Result ℕ ServeFault → Type 0
TellsBy journal head (Err e) old new r = EndsRefused (refusal_output e) old new r
TellsBy journal head (Ok g) old new r = Tells journal head g.settings g.wishes old new r

abbrev pub TellsBehind : Bool → Result (List ℕ × List (List ℕ)) SettingsFault → Option (List ℕ) → Option (List ℕ) → Result ℕ ServeFault → Type 0
TellsBehind journal (Err e) old new r = EndsRefused (refusal_output e) old new r
TellsBehind journal (Ok parts) old new r = TellsBy journal parts.0 (settings_of (command.Run journal) parts.0) old new r

-- What `serve_run` does with known bytes: it runs the service by the settings in front of the line of
-- dashes, whatever stands behind it; or, where memory was refused for the settings, it writes the line
-- that says so.
abbrev pub ServesRun : Command → Option (List ℕ) → Option (List ℕ) → Option (List ℕ) → Result ℕ ServeFault → Type 0
ServesRun c None old new r = Unit {0}
ServesRun command.Script (Some input) old new r = ⊥
ServesRun command.Audit (Some input) old new r = ⊥
ServesRun command.Ballot (Some input) old new r = ⊥
ServesRun (command.Run journal) (Some input) old new r = TellsBehind journal (head_of (pieces input)) old new r ⊎ Prints (refusal_output settings.Memory) old new r
