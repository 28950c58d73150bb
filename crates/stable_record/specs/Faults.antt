-- The numbers by which programs print faults.
use Rattle.std.specs.Prelude.{ℕ}
use Rattle.stable_record.specs.declared.faults.RecordFault.{RecordFault}
use Rattle.stable_record.specs.declared.faults.RecordFault.TheVariants as faults

abbrev pub fault_number : RecordFault → ℕ
fault_number faults.Device = 301
fault_number faults.Stuck = 302
fault_number faults.TooLong = 303
fault_number faults.Memory = 304
fault_number faults.Spent = 305
fault_number faults.Short = 311
fault_number faults.Version = 312
fault_number faults.Policy = 313
fault_number faults.EntryField = 314
fault_number faults.ClientTwice = 315
fault_number faults.AttemptNotNext = 316
fault_number faults.WriterNotAlone = 317
fault_number faults.NoCause = 318
fault_number faults.Trailing = 319
fault_number faults.NoMemory = 320
fault_number faults.ClientShort = 321
fault_number faults.ClientVersion = 322
fault_number faults.ClientAttempt = 323
fault_number faults.ClientTrailing = 324
