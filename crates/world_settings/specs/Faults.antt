-- The numbers of what may be wrong with settings.
use Rattle.std.specs.Prelude.{ℕ}
use Rattle.vote_weights.specs.Faults.{fault_number}
use Rattle.event_lines.specs.Faults.{line_fault_number}
use Rattle.lossy_link.specs.Faults.{weather_fault_number}
use Rattle.world_settings.specs.declared.faults.SettingsFault.{SettingsFault}
use Rattle.world_settings.specs.declared.faults.SettingsFault.TheVariants as settings

abbrev pub settings_fault_number : SettingsFault → ℕ
settings_fault_number settings.NoEnd = 924
settings_fault_number settings.NoDocument = 921
settings_fault_number settings.UnknownKey = 923
settings_fault_number settings.Value = 922
settings_fault_number (settings.Ballot fault) = fault_number fault
settings_fault_number (settings.Weather fault) = weather_fault_number fault
settings_fault_number (settings.Wish fault) = line_fault_number fault
settings_fault_number settings.Memory = 925
