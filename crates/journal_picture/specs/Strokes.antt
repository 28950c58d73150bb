-- What is done on a canvas.
use Rattle.std.specs.Prelude.{ℕ, List, ◌++◌, Option, Some, None}
use Rattle.run_picture.specs.declared.marks.Mark.{Mark}
use Rattle.run_picture.specs.declared.marks.Part.{Part}
use Rattle.run_picture.specs.declared.marks.Place.{Place}

-- The picture of a part is begun, with a column for each of so many nodes and of so many clients; a mark is
-- drawn; the picture is ended at a place.
pub data Stroke : Type 0 where
  Begun : (nodes clients : ℕ) (part : Part) → Stroke
  Marked : (mark : Mark) → Stroke
  Ended : (at : Place) → Stroke

-- what was done, where it is known, and this behind it
abbrev pub with_strokes : List Stroke → Option (List Stroke) → Option (List Stroke)
with_strokes strokes None = None
with_strokes strokes (Some done) = Some (done ++ strokes)
