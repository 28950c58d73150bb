-- What is said of the text of settings.
use Rattle.std.proofs.Common.{◌≡◌, ◌⊎◌, inl, inr, Result, Err, refl}
use Rattle.world_settings.specs.declared.faults.SettingsFault.{SettingsFault}
use Rattle.world_settings.specs.declared.faults.SettingsFault.TheVariants as fault
use Rattle.world_settings.specs.Settings.{Refuses}

-- a fault is that of what was judged, or there is no memory
pub refused_so : {Y : Type 0} (f : SettingsFault) (judged : Result Y SettingsFault) → Refuses f judged → (f ≡ fault.Memory) ⊎ (judged ≡ Err f)
refused_so fault.NoEnd judged h = inr h
refused_so fault.NoDocument judged h = inr h
refused_so fault.UnknownKey judged h = inr h
refused_so fault.Value judged h = inr h
refused_so (fault.Ballot f) judged h = inr h
refused_so (fault.Weather f) judged h = inr h
refused_so (fault.Wish f) judged h = inr h
refused_so fault.Memory judged h = inl refl
