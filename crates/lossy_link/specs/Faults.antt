-- The numbers by which programs print faults.
use Rattle.std.specs.Prelude.{ℕ}
use Rattle.lossy_link.specs.declared.faults.WeatherFault.{WeatherFault}
use Rattle.lossy_link.specs.declared.faults.WeatherFault.TheVariants.{OverThousand}
use Rattle.lossy_link.specs.declared.faults.LinkFault.{LinkFault}
use Rattle.lossy_link.specs.declared.faults.LinkFault.TheVariants.{Closed, Memory}

abbrev pub weather_fault_number : WeatherFault → ℕ
weather_fault_number OverThousand = 901

abbrev pub link_fault_number : LinkFault → ℕ
link_fault_number Closed = 902
link_fault_number Memory = 903
