-- The numbers of faults.
use Rattle.std.specs.Prelude.{ℕ}
use Rattle.file_plate.specs.FileFaults.{file_fault_number}
use Rattle.world_settings.specs.Faults.{settings_fault_number}
use Rattle.service_folders.specs.declared.faults.ServiceFault.{ServiceFault}
use Rattle.service_folders.specs.declared.faults.ServiceFault.TheVariants as faults

abbrev pub service_fault_number : ServiceFault → ℕ
service_fault_number faults.NotEmpty = 961
service_fault_number faults.Unwritable = 962
service_fault_number faults.NoService = 963
service_fault_number faults.NoSecret = 964
service_fault_number faults.NoActor = 965
service_fault_number faults.AllHeld = 966
service_fault_number faults.NoInbox = 967
service_fault_number faults.NoJournal = 968
service_fault_number faults.NoStreams = 969
service_fault_number faults.NotTaken = 970
service_fault_number (faults.Record fault) = file_fault_number fault
service_fault_number (faults.Settings fault) = settings_fault_number fault
service_fault_number faults.Memory = 933
