use Rattle.std.proofs.Common.{◌≡◌, ◌++◌, map, ℕ, ◌+◌, List, Option, Bool, Vec, refl}
use Rattle.std.specs.Global.{Global}
use Rattle.lock_messages.specs.declared.ids.Actor.{Actor}
use Rattle.lock_messages.specs.declared.messages.Message.{Message}
use Rattle.run_picture.specs.declared.lasting.Since.{Since}
use Rattle.run_picture.specs.declared.marks.Place.{Place}
use Rattle.run_picture.specs.Pictures.{told, Told, Drawn, one_if, is_drawn, or_same, after_at, about_after, lasts_after, newly_said, came, number_in}
use Rattle.run_picture.proofs.drawing.Drawer.behind.Goals as goal

-- each part of the drawer changes apart from the others
joined : (d x z y : Drawn) (s : Told) (at : Place) (k : Option ℕ) (said : List Message) (b : Bool) (v : Option (Vec Actor Global)) (w : Option (Vec Since Global)) →
    x ≡ record { part = d.part; rows = d.rows; about = d.about; said = came k d.said; lasts = d.lasts } →
    z ≡ record { part = x.part; rows = x.rows; about = x.about; said = x.said ++ map (newly_said x.part x.about at) said; lasts = x.lasts } →
    y ≡ record { part = z.part; rows = z.rows + one_if b; about = or_same z.about v; said = z.said; lasts = or_same z.lasts w } →
    k ≡ number_in s.event → said ≡ s.said → b ≡ is_drawn d s →
    or_same d.about v ≡ about_after d s.event → or_same d.lasts w ≡ lasts_after d s at → y ≡ after_at d s at
joined d x z y s at k said b v w ex ez ey ek es eb about lasts = rw ey (rw ez (rw ex (rw (ek, es, eb) (rw (about, lasts) refl))))

pub returns : goal.returns
returns c = joined _ _ _ _ (told c.args.step.now) _ _ _ _ c.in_ok-actors.actors c.in_ok-lasting.lasting c.note_came.ensures c.in_ok-note_said.ensures c.with.ensures c.number_in.ensures c.as_slice.ensures.value c.requires.drawn c.in_ok-actors.ensures c.in_ok-lasting.ensures
