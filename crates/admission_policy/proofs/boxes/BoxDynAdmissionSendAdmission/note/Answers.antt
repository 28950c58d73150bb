use Rattle.std.proofs.Common.{◌≡◌, Bool, refl, sym, subst}
use Rattle.std.specs.DynBox.{dyn_box_with}
use Rattle.lock_model.specs.ExactStations.{admits_reader}
use Rattle.admission_policy.proofs.boxes.BoxDynAdmissionSendAdmission.note.Goals as goal

pub returns-clause-notes : goal.returns-clause-notes
returns-clause-notes g c =
    let b = c.args.self.now in
    subst (λ v. (u : (g.dyn-1.0.entry v.0).0.Denot) → (goal.Admission-dyn g v).notes v.1 c.args.admitted u → (x : (g.dyn-1.0.entry b.vtable).0.Denot) × (g.dyn-1.0.entry b.vtable).1.notes b.value c.args.admitted x × (dyn_box_with b v.0 u ≡ dyn_box_with b b.vtable x))
    (sym c.deref_box_mut-1.ensures.value.1) (λ u h. (u, h, refl)) c.note.new.self c.note.ensures.0

pub returns-clause-problem : goal.returns-clause-problem
returns-clause-problem g c =
    subst (λ v. (goal.Admission-dyn g (c.deref_box_mut-1.result.now.0, c.note.new.self)).problem_of c.note.new.self ≡ (goal.Admission-dyn g v).problem_of v.1) c.deref_box_mut-1.ensures.value.1 c.note.ensures.1.0

pub returns-clause-answers : goal.returns-clause-answers
returns-clause-answers g c = λ holds waits.
    subst (λ v. admits_reader ((goal.Admission-dyn g (c.deref_box_mut-1.result.now.0, c.note.new.self)).problem_of c.note.new.self) holds waits ≡ admits_reader ((goal.Admission-dyn g v).problem_of v.1) holds waits) c.deref_box_mut-1.ensures.value.1 (c.note.ensures.1.1 holds waits)
