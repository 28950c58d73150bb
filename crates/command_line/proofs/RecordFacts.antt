-- What a look at a file comes to, by what was read of it.
use Rattle.std.proofs.Common.{◌≡◌, ℕ, List, inl, inr, string_bytes, subst}
use Rattle.std.specs.Io.KnownBytes.{Keeps}
use Rattle.file_plate.specs.declared.faults.FileFault.{FileFault}
use Rattle.record_view.specs.declared.reports.Report.{Report}
use Rattle.record_view.specs.Texts.{IsReport}
use Rattle.program_ends.specs.declared.ending.Ended.{Ended}
use Rattle.program_ends.specs.Endings.{Writers, LacksMemory, EndsSaying}
use Rattle.command_line.specs.CommandLine.{ShowsWith, LooksAtFile, status_for, look_text}

pub shows_report : (r : Report) (status : ℕ) (text : List ℕ) (w : Writers) (e : Ended) → IsReport r → status ≡ status_for r.verdict → text ≡ string_bytes r.text → ShowsWith status text w e → LooksAtFile w e
shows_report r status text w e is s t h = inl (r, is, subst (λ (n : ℕ). ShowsWith n (string_bytes r.text) w e) s (subst (λ (x : List ℕ). ShowsWith status x w e) t h))

pub refuses_file : (f : FileFault) (text : List ℕ) (w : Writers) (e : Ended) → Keeps w.old w.new → text ≡ look_text f → EndsSaying 2 text w.errors_old w.errors_new e → LooksAtFile w e
refuses_file f text w e keeps is h = inr (inl (f, keeps, subst (λ (t : List ℕ). EndsSaying 2 t w.errors_old w.errors_new e) is h))

pub lacks_memory : (w : Writers) (e : Ended) → LacksMemory w e → LooksAtFile w e
lacks_memory w e h = inr (inr h)
