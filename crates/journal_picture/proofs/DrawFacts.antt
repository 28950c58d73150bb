-- Drawing line after line: what is found, and which marks were drawn.
use Rattle.std.proofs.Common.{◌≡◌, ◌≢◌, ℕ, ◌+◌, true, false, List, [], ◌∷◌, ◌++◌, Option, Some, None, Result, Ok, Err, IfOk, OnOk, sym, ap, subst, ◌∙◌}
use Rattle.world_model.specs.declared.events.Event.{Event}
use Rattle.world_model.specs.declared.events.Effect.{Effect}
use Rattle.world_model.specs.declared.events.StepFault.{StepFault}
use Rattle.world_model.specs.declared.events.StepFault.TheVariants as refusal
use Rattle.world_model.specs.declared.exact.ExactWorld.{ExactWorld}
use Rattle.world_model.specs.ExactWorlds.{Steps, step, after, world_after}
use Rattle.world_model.specs.StepsOf.{Does}
use Rattle.event_lines.specs.declared.faults.LineFault.{LineFault}
use Rattle.event_lines.specs.declared.words.TheConstants.{MAX_LINE_LEN}
use Rattle.event_lines.specs.Events.{event_of}
use Rattle.line_streams.specs.declared.reading.End.{End}
use Rattle.line_streams.specs.declared.reading.End.TheVariants.{LineFeed, Input, Limit}
use Rattle.line_streams.specs.Streams.{is_last, ends_no_line, KnownLeft, ReadsPiece}
use Rattle.line_streams.proofs.LineFacts.{no_line_left}
use Rattle.journal_audit.specs.declared.faults.AuditFault.{AuditFault}
use Rattle.journal_audit.specs.declared.verdicts.Verdict.{Verdict}
use Rattle.journal_audit.specs.Leavings.{LeavesBy}
use Rattle.journal_audit.specs.Verdicts.{reaches, text_lines}
use Rattle.journal_audit.proofs.LineFacts.{line_comes, never_long}
use Rattle.journal_audit.proofs.JudgeFacts.{refused_so}
use Rattle.run_picture.specs.Pictures.{Drawn, Told, marks_of_step, after_step, marks_behind, drawn_behind, end_place}
use Rattle.journal_picture.specs.declared.ending.Drawing.{Drawing}
use Rattle.journal_picture.specs.Drawings.{EndsWith, DrawsHistory, DrawsJournal, all_marks, end_marks}
use Rattle.journal_picture.specs.Strokes.{Stroke}
use Rattle.journal_picture.specs.Histories.{with_more, told_of, line_told, step_told, history_behind, history_of, world_behind}
use Rattle.journal_picture.proofs.TellFacts.{more_marks, no_marks}

-- what is left by a verdict is left where the picture ends with it
pub left_so : (w : ExactWorld) (text left : Option (List ℕ)) (v : Verdict) (r : Result Drawing AuditFault) → LeavesBy w text left v → EndsWith v r → IfOk r (λ d. LeavesBy w text left d.verdict)
left_so w text left v (Ok d) h e = subst (λ (x : Verdict). LeavesBy w text left x) (sym e) h
left_so w text left v (Err e) h s = tt

-- What was drawn so far and what the rest has are what the whole history has.
pub record Same (w v : ExactWorld) (hist rest : List Told) (first d : Drawn) (old new : Option (List Stroke)) : Type 0 where
  pub marks : with_more (marks_behind d rest) new ≡ with_more (marks_behind first hist) old
  pub drawer : drawn_behind d rest ≡ drawn_behind first hist
  pub world : world_behind v rest ≡ world_behind w hist

abbrev pub DrawnSoFar : ExactWorld → ExactWorld → Option (List ℕ) → Option (List ℕ) → ℕ → Drawn → Drawn → Option (List Stroke) → Option (List Stroke) → Type 0
DrawnSoFar w v None left taken first d old new = Unit {0}
DrawnSoFar w v (Some xs) left taken first d old new = KnownLeft left (λ ys. Same w v (history_of w (text_lines xs)) (history_behind taken v (text_lines ys)) first d old new)

-- no rest
all_drawn : (w v : ExactWorld) (hist rest : List Told) (first d : Drawn) (old new : Option (List Stroke)) → Same w v hist rest first d old new → rest ≡ []
    → (new ≡ with_more (marks_behind first hist) old) × (d ≡ drawn_behind first hist) × (v ≡ world_behind w hist)
all_drawn w v hist rest first d old new h e = (
  no_marks new ∙ ap (λ (r : List Told). with_more (marks_behind d r) new) (sym e) ∙ h.marks,
  ap (λ (r : List Told). drawn_behind d r) (sym e) ∙ h.drawer,
  ap (λ (r : List Told). world_behind v r) (sym e) ∙ h.world,
)

-- a step more
step_drawn : (w v u : ExactWorld) (hist rest more : List Told) (t : Told) (first d next : Drawn) (old new newer : Option (List Stroke)) → Same w v hist rest first d old new → rest ≡ t ∷ more → newer ≡ with_more (marks_of_step d t) new → next ≡ after_step d t
    → u ≡ after v t.event → Same w u hist more first next old newer
step_drawn w v u hist rest more t first d next old new newer h e m a s = record {
  marks = ap (λ (x : Drawn). with_more (marks_behind x more) newer) a ∙ ap (with_more (marks_behind (after_step d t) more)) m
      ∙ more_marks (marks_of_step d t) (marks_behind (after_step d t) more) new ∙ ap (λ (r : List Told). with_more (marks_behind d r) new) (sym e) ∙ h.marks;
  drawer = ap (λ (x : Drawn). drawn_behind x more) a ∙ ap (λ (r : List Told). drawn_behind d r) (sym e) ∙ h.drawer;
  world = ap (λ (x : ExactWorld). world_behind x more) s ∙ ap (λ (r : List Told). world_behind v r) (sym e) ∙ h.world;
}

-- the world behind a step that is taken
taken_to : (v u : ExactWorld) (x : Event) (o : Effect) → step v x ≡ Ok (record { world = u; effect = o }) → u ≡ after v x
taken_to v u x o s = sym (ap (world_after v) s)

-- what lines tell of which the first says this
told_next : (v u : ExactWorld) (taken : ℕ) (lines : List (List ℕ)) (l : List ℕ) (more : List (List ℕ)) (x : Event) (o : Effect) → lines ≡ l ∷ more → event_of l ≡ Ok x → step v x ≡ Ok (record { world = u; effect = o })
    → history_behind taken v lines ≡ told_of u (taken + 1) x o ∷ history_behind (taken + 1) u more
told_next v u taken lines l more x o e k s =
    ap (history_behind taken v) e ∙ ap (λ (r : Result Event LineFault). line_told v (taken + 1) r (λ z. history_behind (taken + 1) z more)) k
    ∙ ap (λ (r : Steps). step_told (taken + 1) x r (λ z. history_behind (taken + 1) z more)) s

told_no_event : (v : ExactWorld) (taken : ℕ) (lines : List (List ℕ)) (l : List ℕ) (more : List (List ℕ)) (f : LineFault) → lines ≡ l ∷ more → event_of l ≡ Err f → history_behind taken v lines ≡ []
told_no_event v taken lines l more f e k =
    ap (history_behind taken v) e ∙ ap (λ (r : Result Event LineFault). line_told v (taken + 1) r (λ z. history_behind (taken + 1) z more)) k

told_no_step : (v : ExactWorld) (taken : ℕ) (lines : List (List ℕ)) (l : List ℕ) (more : List (List ℕ)) (x : Event) (f : StepFault) → lines ≡ l ∷ more → event_of l ≡ Ok x → step v x ≡ Err f → history_behind taken v lines ≡ []
told_no_step v taken lines l more x f e k s =
    ap (history_behind taken v) e ∙ ap (λ (r : Result Event LineFault). line_told v (taken + 1) r (λ z. history_behind (taken + 1) z more)) k
    ∙ ap (λ (r : Steps). step_told (taken + 1) x r (λ z. history_behind (taken + 1) z more)) s

pub drawn_over : (w v : ExactWorld) (text left next : Option (List ℕ)) (taken : ℕ) (piece : List ℕ) (end : End) (first d : Drawn) (old new : Option (List Stroke)) (u : Verdict)
    → DrawnSoFar w v text left taken first d old new → ReadsPiece MAX_LINE_LEN left next piece end → ends_no_line end piece ≡ true → DrawsHistory w first text old new v (Ok (d, u))
drawn_over w v None left next taken piece end first d old new u h r j = tt
drawn_over w v (Some xs) None next taken piece end first d old new u h r j = absurd h
drawn_over w v (Some xs) (Some ys) next taken piece end first d old new u h r j = all_drawn _ _ _ _ first d old new h (ap (history_behind taken v) (no_line_left MAX_LINE_LEN ys next piece end r j))

pub drawn_bad : (w v : ExactWorld) (text left next : Option (List ℕ)) (taken : ℕ) (piece : List ℕ) (end : End) (f : LineFault) (first d : Drawn) (old new : Option (List Stroke)) (u : Verdict)
    → DrawnSoFar w v text left taken first d old new → ReadsPiece MAX_LINE_LEN left next piece end → ends_no_line end piece ≡ false → event_of piece ≡ Err f → DrawsHistory w first text old new v (Ok (d, u))
drawn_bad w v None left next taken piece end f first d old new u h r j q = tt
drawn_bad w v (Some xs) None next taken piece end f first d old new u h r j q = absurd h
drawn_bad w v (Some xs) (Some ys) next taken piece end f first d old new u h r j q =
    let (l, more, e, k, behind) = line_comes ys next piece end (Err f) r j q in
    all_drawn _ _ _ _ first d old new h (told_no_event v taken (text_lines ys) l more f e k)

pub drawn_refused : (w v z : ExactWorld) (text left next : Option (List ℕ)) (taken : ℕ) (piece : List ℕ) (end : End) (x : Event) (f : StepFault) (first d : Drawn) (old new : Option (List Stroke)) (u : Verdict)
    → DrawnSoFar w v text left taken first d old new → ReadsPiece MAX_LINE_LEN left next piece end → ends_no_line end piece ≡ false → event_of piece ≡ Ok x → Does x (step v x) v (Err f) z → f ≢ refusal.Memory → DrawsHistory w first text old new z (Ok (d, u))
drawn_refused w v z None left next taken piece end x f first d old new u h r j q bars n = tt
drawn_refused w v z (Some xs) None next taken piece end x f first d old new u h r j q bars n = absurd h
drawn_refused w v z (Some xs) (Some ys) next taken piece end x f first d old new u h r j q bars n =
    let (l, more, e, k, behind) = line_comes ys next piece end (Ok x) r j q in
    let (marks, drawer, world) = all_drawn _ _ _ _ first d old new h (told_no_step v taken (text_lines ys) l more x f e k (refused_so x (step v x) f bars.0 n)) in
    (marks, drawer, bars.1 ∙ world)

pub drawn_on : (w v u : ExactWorld) (text left next : Option (List ℕ)) (taken : ℕ) (piece : List ℕ) (end : End) (x : Event) (o : Effect) (first d after : Drawn) (old new newer : Option (List Stroke))
    → DrawnSoFar w v text left taken first d old new → ReadsPiece MAX_LINE_LEN left next piece end → ends_no_line end piece ≡ false → event_of piece ≡ Ok x → Does x (step v x) v (Ok o) u → is_last end ≡ false
    → newer ≡ with_more (marks_of_step d (told_of u (taken + 1) x o)) new → after ≡ after_step d (told_of u (taken + 1) x o) → DrawnSoFar w u text next (taken + 1) first after old newer
drawn_on w v u None left next taken piece end x o first d after old new newer h r j said s z m a = tt
drawn_on w v u (Some xs) None next taken piece end x o first d after old new newer h r j said s z m a = absurd h
drawn_on w v u (Some xs) (Some ys) None taken piece LineFeed x o first d after old new newer h r j said s z m a = absurd r
drawn_on w v u (Some xs) (Some ys) (Some zs) taken piece LineFeed x o first d after old new newer h r j said s z m a =
    let (l, more, e, k, b) = line_comes ys (Some zs) piece LineFeed (Ok x) r j said in
    subst (λ (ls : List (List ℕ)). Same w u (history_of w (text_lines xs)) (history_behind (taken + 1) u ls) first after old newer) b
    (step_drawn _ _ _ _ _ (history_behind (taken + 1) u more) (told_of u (taken + 1) x o) first d after old new newer h (told_next v u taken (text_lines ys) l more x o e k s) m a (taken_to v u x o s))
drawn_on w v u (Some xs) (Some ys) next taken piece Input x o first d after old new newer h r j said s z m a = let clash : true ≡ false = z in absurd (cc)
drawn_on w v u (Some xs) (Some ys) next taken piece Limit x o first d after old new newer h r j said s z m a = absurd (never_long ys next piece x r said)

pub drawn_last : (w v u : ExactWorld) (text left next : Option (List ℕ)) (taken : ℕ) (piece : List ℕ) (end : End) (x : Event) (o : Effect) (first d after : Drawn) (old new newer : Option (List Stroke)) (q : Verdict)
    → DrawnSoFar w v text left taken first d old new → ReadsPiece MAX_LINE_LEN left next piece end → ends_no_line end piece ≡ false → event_of piece ≡ Ok x → Does x (step v x) v (Ok o) u → is_last end ≡ true
    → newer ≡ with_more (marks_of_step d (told_of u (taken + 1) x o)) new → after ≡ after_step d (told_of u (taken + 1) x o) → DrawsHistory w first text old newer u (Ok (after, q))
drawn_last w v u None left next taken piece end x o first d after old new newer q h r j said s z m a = tt
drawn_last w v u (Some xs) None next taken piece end x o first d after old new newer q h r j said s z m a = absurd h
drawn_last w v u (Some xs) (Some ys) next taken piece LineFeed x o first d after old new newer q h r j said s z m a = let clash : false ≡ true = z in absurd (cc)
drawn_last w v u (Some xs) (Some ys) next taken piece Limit x o first d after old new newer q h r j said s z m a = let clash : false ≡ true = z in absurd (cc)
drawn_last w v u (Some xs) (Some ys) next taken piece Input x o first d after old new newer q h r j said s z m a =
    let (l, more, e, k, b) = line_comes ys next piece Input (Ok x) r j said in
    all_drawn _ _ _ (history_behind (taken + 1) u more) first after old newer
    (step_drawn _ _ _ _ _ (history_behind (taken + 1) u more) (told_of u (taken + 1) x o) first d after old new newer h (told_next v u taken (text_lines ys) l more x o e k s) m a (taken_to v u x o s))
    (ap (history_behind (taken + 1) u) b)

-- the marks of the end behind those of the history
pub journal_drawn : (w v : ExactWorld) (text : Option (List ℕ)) (first d : Drawn) (old new newer : Option (List Stroke)) (u : Verdict) (r : Result Drawing AuditFault) → DrawsHistory w first text old new v (Ok (d, u)) → EndsWith u r
    → OnOk r (newer ≡ with_more (end_marks d v.sent u) new) → IfOk r (λ x. x.end ≡ end_place d (reaches u)) → DrawsJournal w first text old newer r
journal_drawn w v None first d old new newer u r h e m p = tt
journal_drawn w v (Some xs) first d old new newer u (Err f) h e m p = tt
journal_drawn w v (Some xs) first d old new newer u (Ok x) h e m p =
    let history = history_of w (text_lines xs) in (
      m ∙ ap (with_more (end_marks d v.sent u)) h.0 ∙ more_marks (marks_behind first history) (end_marks d v.sent u) old
          ∙ ap (λ (z : Drawn). with_more (marks_behind first history ++ end_marks z v.sent u) old) h.1
          ∙ ap (λ (z : ExactWorld). with_more (marks_behind first history ++ end_marks (drawn_behind first history) z.sent u) old) h.2
          ∙ ap (λ (q : Verdict). with_more (all_marks w first history q) old) (sym e),
      p ∙ ap (λ (z : Drawn). end_place z (reaches u)) h.1 ∙ ap (λ (q : Verdict). end_place (drawn_behind first history) (reaches q)) (sym e),
    )
