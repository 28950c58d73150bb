-- What is found where a journal is drawn, and which marks its lines have.
use Rattle.std.specs.Prelude.{◌≡◌, ℕ, List, [], ◌∷◌, ◌++◌, length, Option, Some, None, Result, Ok, Err}
use Rattle.std.specs.List.{flat_map, range_with_len}
use Rattle.std.specs.Option.{option_to_list}
use Rattle.lock_messages.specs.declared.messages.Message.{Message}
use Rattle.world_model.specs.declared.exact.ExactWorld.{ExactWorld}
use Rattle.world_model.specs.ExactWorlds.{numbered}
use Rattle.journal_audit.specs.declared.faults.AuditFault.{AuditFault}
use Rattle.journal_audit.specs.declared.faults.AuditFault.TheVariants as fault
use Rattle.journal_audit.specs.declared.verdicts.Cause.{Cause}
use Rattle.journal_audit.specs.declared.verdicts.Cause.TheVariants as cause
use Rattle.journal_audit.specs.declared.verdicts.Verdict.{Verdict}
use Rattle.journal_audit.specs.declared.verdicts.Verdict.TheVariants.{Sound, Unsound}
use Rattle.journal_audit.specs.Verdicts.{reaches, text_lines}
use Rattle.run_picture.specs.declared.marks.Mark.{Mark}
use Rattle.run_picture.specs.declared.marks.Place.{Place}
use Rattle.run_picture.specs.declared.marks.Sign.{Sign}
use Rattle.run_picture.specs.declared.marks.Sign.TheVariants as sign
use Rattle.run_picture.specs.Pictures.{Told, Drawn, mark_of, marks_behind, drawn_behind, end_place, open_marks, lost_mark}
use Rattle.journal_picture.specs.declared.ending.Drawing.{Drawing}
use Rattle.journal_picture.specs.Histories.{with_more, history_of, world_behind}
use Rattle.journal_picture.specs.Strokes.{Stroke}

-- what was found, as an audit tells it
abbrev pub found : Result Drawing AuditFault → Result Verdict AuditFault
found (Ok d) = Ok d.verdict
found (Err e) = Err e

abbrev pub found_beside : Result (Drawn × Verdict) AuditFault → Result Verdict AuditFault
found_beside (Ok r) = Ok r.1
found_beside (Err e) = Err e

-- The faults that may cut a drawing short, whatever the lines are.
abbrev pub StopsShort : AuditFault → Type 0
StopsShort fault.Read = Unit {0}
StopsShort fault.Write = Unit {0}
StopsShort fault.Memory = Unit {0}
StopsShort fault.TooManyLines = ⊥

-- The picture was ended with this verdict, or cut short.
abbrev pub EndsWith : Verdict → Result Drawing AuditFault → Type 0
EndsWith v (Ok d) = d.verdict ≡ v
EndsWith v (Err e) = StopsShort e

-- The marks of the end of a picture.

-- that the message of this number was lost, if there is one
abbrev pub lost_by : Drawn → ℕ → Option Message → List Mark
lost_by d k None = []
lost_by d k (Some m) = option_to_list (lost_mark d k m)

-- of all that were sent, in the order of their numbers
abbrev pub lost_marks : Drawn → List Message → List Mark
lost_marks d sent = flat_map (λ k. lost_by d k (numbered sent k)) (range_with_len 1 (length sent))

abbrev pub stop_sign : Cause → Sign
stop_sign (cause.Line f) = sign.NoEvent f
stop_sign (cause.Refused f) = sign.Refused f

-- that a line does not go on, if one does not
abbrev pub stop_marks : Verdict → Place → List Mark
stop_marks (Sound n) at = []
stop_marks (Unsound number c) at = mark_of (stop_sign c) at at ∷ []

-- What lasts still, what was lost, and the line that does not go on.
abbrev pub end_marks : Drawn → List Message → Verdict → List Mark
end_marks d sent v = open_marks d (reaches v) ++ (lost_marks d sent ++ stop_marks v (end_place d (reaches v)))

-- The marks of the history that the lines tell were drawn, all of them and in order, the drawer is the one
-- behind it, and the world the one to which it leads; so where the text is known, and the picture was not cut
-- short.
abbrev pub DrawsHistory : ExactWorld → Drawn → Option (List ℕ) → Option (List Stroke) → Option (List Stroke) → ExactWorld → Result (Drawn × Verdict) AuditFault → Type 0
DrawsHistory w d None old new v r = Unit {0}
DrawsHistory w d (Some text) old new v (Err e) = Unit {0}
DrawsHistory w d (Some text) old new v (Ok r) =
    let history = history_of w (text_lines text) in
    (new ≡ with_more (marks_behind d history) old) × (r.0 ≡ drawn_behind d history) × (v ≡ world_behind w history)

-- All marks of a picture: those of a history, and those of the end behind it.
abbrev pub all_marks : ExactWorld → Drawn → List Told → Verdict → List Mark
all_marks w d history v = marks_behind d history ++ end_marks (drawn_behind d history) (world_behind w history).sent v

-- All marks of the picture of what the lines tell were drawn, in order, and it ends where the history does; so
-- where the text is known, and the picture was not cut short.
abbrev pub DrawsJournal : ExactWorld → Drawn → Option (List ℕ) → Option (List Stroke) → Option (List Stroke) → Result Drawing AuditFault → Type 0
DrawsJournal w d None old new r = Unit {0}
DrawsJournal w d (Some text) old new (Err e) = Unit {0}
DrawsJournal w d (Some text) old new (Ok r) =
    let history = history_of w (text_lines text) in
    (new ≡ with_more (all_marks w d history r.verdict) old) × (r.end ≡ end_place (drawn_behind d history) (reaches r.verdict))
