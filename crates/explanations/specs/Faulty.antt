-- What is at fault in settings that are refused.
use Rattle.std.specs.Prelude.{ℕ, Bool, true, false, Option, Some, None, option_and_then, Result, Ok, Err}
use Rattle.toml.specs.Data.{Data, as_integer}
use Rattle.event_lines.specs.declared.faults.LineFault.{LineFault}
use Rattle.event_lines.specs.declared.wishes.Wish.{Wish}
use Rattle.world_settings.specs.declared.faults.SettingsFault.{SettingsFault}
use Rattle.world_settings.specs.declared.faults.SettingsFault.TheVariants as fault
use Rattle.world_settings.specs.Settings.{within}
use Rattle.explanations.specs.declared.faulty.Wrong.{Wrong}
use Rattle.explanations.specs.declared.faulty.Wrong.TheVariants as wrong

-- what is wrong with a value that is to be an integer from least to most
abbrev pub wrong_unless : ℕ → ℕ → Option ℕ → Option Wrong
wrong_unless least most (Some n) = None
wrong_unless least most None = Some (wrong.NoNumber least most)

abbrev pub wrong_in : ℕ → ℕ → Data → Option Wrong
wrong_in least most value = wrong_unless least most (option_and_then (within least most) (as_integer value))

-- the same of the value at a key, which may be missing where it isn't needed
abbrev pub wrong_missing : Bool → Option Wrong
wrong_missing true = Some wrong.Missing
wrong_missing false = None

abbrev pub wrong_number : Bool → ℕ → ℕ → Option Data → Option Wrong
wrong_number needed least most (Some value) = wrong_in least most value
wrong_number needed least most None = wrong_missing needed

-- what is wrong with a wish, by what the settings find of it
abbrev pub wish_fault : Result Wish SettingsFault → Option LineFault
wish_fault (Ok w) = None
wish_fault (Err (fault.Wish f)) = Some f
wish_fault (Err fault.NoEnd) = None
wish_fault (Err fault.NoDocument) = None
wish_fault (Err fault.UnknownKey) = None
wish_fault (Err fault.Value) = None
wish_fault (Err (fault.Ballot f)) = None
wish_fault (Err (fault.Weather f)) = None
wish_fault (Err fault.Memory) = None
