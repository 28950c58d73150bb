-- Parts of what is told of a run: what the private functions owe one another. Who reads what `serve_run`
-- promises has no need of them.
use Rattle.std.specs.Prelude.{◌≡◌, ◌⊎◌, ℕ, Bool, true, List, Option, Result, Ok, Err}
use Rattle.std.specs.Io.KnownBytes.{Keeps, Appends}
use Rattle.event_lines.specs.declared.wishes.Wish.{Wish}
use Rattle.journal_text.specs.Journals.{IsRecorded}
use Rattle.line_streams.specs.Streams.{AppendsPart}
use Rattle.operator_cli.specs.declared.faults.ServeFault.{ServeFault}
use Rattle.world_settings.specs.declared.faults.SettingsFault.{SettingsFault}
use Rattle.world_settings.specs.declared.faults.SettingsFault.TheVariants as settings
use Rattle.world_settings.specs.declared.commands.Command.TheVariants as command
use Rattle.world_settings.specs.declared.settings.Settings.{Settings}
use Rattle.world_settings.specs.Openings.{all_down}
use Rattle.world_settings.specs.Settings.{Given, settings_of}
use Rattle.operator_cli.specs.Outputs.{refusal_output, Prints}
use Rattle.run_service.specs.Ends.{End, IsEndOf, run_text, end_status}

-- What a run came to was told, and a journal that was written can be read back; or a beginning was told, and not
-- all.
abbrev pub TellsEnd : Bool → List ℕ → Settings → List Wish → Option (List ℕ) → Option (List ℕ) → Result ℕ ServeFault → Type 0
TellsEnd journal head s wishes old new (Ok status) =
    (e : End) × IsEndOf s wishes e × Appends old new (run_text journal head e) × (status ≡ end_status e.faults) × (journal ≡ true → IsRecorded (all_down s) e.history e.world)
TellsEnd journal head s wishes old new (Err f) = Keeps old new ⊎ ((e : End) × IsEndOf s wishes e × AppendsPart old new (run_text journal head e))

-- The same for what a head gives; or settings are refused.
abbrev pub RunsBy : Bool → List ℕ → Result Given SettingsFault → Option (List ℕ) → Option (List ℕ) → Result ℕ ServeFault → Type 0
RunsBy journal head (Err e) old new r = Prints (refusal_output e) old new r
RunsBy journal head (Ok g) old new r = TellsEnd journal head g.settings g.wishes old new r

abbrev pub RunsHead : Bool → List ℕ → Option (List ℕ) → Option (List ℕ) → Result ℕ ServeFault → Type 0
RunsHead journal head old new r = RunsBy journal head (settings_of (command.Run journal) head) old new r ⊎ Prints (refusal_output settings.Memory) old new r
