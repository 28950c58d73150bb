-- A log goes on by a turn, and its journal by a line.
use Rattle.std.proofs.Common.{◌≡◌, ℕ, Bool, true, false, List, [], ◌∷◌, ◌++◌, map, Option, refl, sym, ap, subst, ◌∙◌, append_assoc, append-nil}
use Rattle.std.specs.Io.KnownBytes.{Appends}
use Rattle.std.proofs.KnownBytes.{Appends-nil, Appends-trans}
use Rattle.std.proofs.lemmas.List.Elements.{All-nil, All-cons, All-head, All-tail}
use Rattle.lock_messages.specs.declared.ids.Actor.{Actor}
use Rattle.lock_messages.specs.declared.messages.Message.{Message}
use Rattle.lock_model.specs.Ballots.{Ballot}
use Rattle.world_model.specs.declared.events.Effect.{Effect}
use Rattle.world_model.specs.declared.events.Event.{Event}
use Rattle.world_model.specs.Locality.{local_part}
use Rattle.world_model.specs.Parts.{Part, is_own, after_own, message_of}
use Rattle.event_recorders.specs.OwnLogs.{OwnLog, kept_in, IsDownAtRest}
use Rattle.merge_model.specs.OwnRuns.{IsTurn, IsOwnRun}
use Rattle.line_streams.specs.Streams.{AppendsPart}
use Rattle.own_journals.specs.declared.lines.OwnLine.{OwnLine}
use Rattle.own_journals.specs.declared.lines.OwnLine.TheVariants as own
use Rattle.own_recorders.specs.OwnTurns.{HasTurned}
use Rattle.own_recorders.specs.OwnJournals.{AreRead, IsRead, event_line, life_lines, log_lines, line_behind, IsLine, AreLines, HoldsLog, OwnKeeper, IsKeeping, HasLogged, HasTorn, has_begun}

-- one turn more, at the end of an own run
pub run_on : (b : List Ballot) (who : Actor) (p : Part) (events : List (Event × Effect)) (e : Event) (done : Effect) → IsOwnRun b who p events → is_own who e ≡ true → IsTurn b (local_part b p events) e done →
    IsOwnRun b who p (events ++ (e, done) ∷ [])
run_on b who p [] e done h own turn = (own, turn, tt)
run_on b who p (q ∷ events) e done h own turn = (h.0, h.1, run_on b who (after_own b q.0 q.1 p) events e done h.2 own turn)

-- one event more, whose message may be read
read_on : (events : List (Event × Effect)) (e : Event) (done : Effect) → AreRead events → IsRead (message_of done) → AreRead (events ++ (e, done) ∷ [])
read_on [] e done h good = All-cons (λ q. IsRead (message_of q.1)) (e, done) [] good (All-nil (λ q. IsRead (message_of q.1)))
read_on (q ∷ events) e done h good =
    let P : Event × Effect → Type 0 = λ q. IsRead (message_of q.1) in
    All-cons P q (events ++ (e, done) ∷ []) (All-head P q events h) (read_on events e done (All-tail P q events h) good)

-- one event more has one line more
event_lines_on : (who : Actor) (events : List (Event × Effect)) (e : Event) (done : Effect) →
    map (λ q. event_line who q.0 (message_of q.1)) (events ++ (e, done) ∷ []) ≡ map (λ q. event_line who q.0 (message_of q.1)) events ++ event_line who e (message_of done) ∷ []
event_lines_on who [] e done = refl
event_lines_on who (q ∷ events) e done = ap (λ (ls : List OwnLine). event_line who q.0 (message_of q.1) ∷ ls) (event_lines_on who events e done)

lines_on : (who : Actor) (found : List ℕ) (events : List (Event × Effect)) (e : Event) (done : Effect) →
    life_lines who found (events ++ (e, done) ∷ []) ≡ life_lines who found events ++ line_behind who found events e (message_of done) ∷ []
lines_on who found [] e done = refl
lines_on who found (q ∷ events) e done = ap (λ (ls : List OwnLine). own.Life who found ∷ ls) (event_lines_on who events e done)

-- one line more, at the end of lines
line_on : (lines : List OwnLine) (line : OwnLine) (bytes more : List ℕ) → AreLines lines bytes → IsLine line more → AreLines (lines ++ line ∷ []) (bytes ++ more)
line_on [] line bytes more h is = (more, [], is, refl, ap (λ (l : List ℕ). l ++ more) h ∙ sym (append-nil more))
line_on (l ∷ lines) line bytes more h is =
    let (first, rest, of, others, e) = h in
    (first, rest ++ more, of, line_on lines line rest more others is, ap (λ (x : List ℕ). x ++ more) e ∙ append_assoc first rest more)

begun_on : (events : List (Event × Effect)) (q : Event × Effect) → true ≡ has_begun (events ++ q ∷ [])
begun_on [] q = refl
begun_on (p ∷ events) q = refl

-- nothing is logged yet
pub opened : (who : Actor) (b : List Ballot) (p : Part) (held : Option (List ℕ)) → IsDownAtRest who p → IsKeeping (record { log = record { actor = who; ballots = b; opening = p; events = [] }; before = held; written = held; stuck = false }) false p
opened who b p held down = record { down = down; part = λ free. refl; run = tt; read = All-nil (λ q. IsRead (message_of q.1)); begun = refl; journal = ([], refl, Appends-nil held) }

holds : (stuck : Bool) (l : OwnLog) (before now : Option (List ℕ)) → stuck ≡ false → HoldsLog stuck l before now → HoldsLog false l before now
holds true l before now h has = absurd (cc)
holds false l before now h has = has

after_last : (b : List Ballot) (q : Part) (events : List (Event × Effect)) (e : Event) (done : Effect) → local_part b q (events ++ (e, done) ∷ []) ≡ after_own b e done (local_part b q events)
after_last b q [] e done = refl
after_last b q (r ∷ events) e done = after_last b (after_own b r.0 r.1 q) events e done

-- a recorder of these parts
abbrev pub keeper : Actor → List Ballot → Part → List (Event × Effect) → Option (List ℕ) → Option (List ℕ) → Bool → OwnKeeper
keeper who b p events before now stuck = record {
  log = record { actor = who; ballots = b; opening = p; events = events };
  before = before;
  written = now;
  stuck = stuck;
}

module _ (who : Actor) (b : List Ballot) (o : Part) (events : List (Event × Effect)) (before old now : Option (List ℕ)) (stuck begun : Bool) (p p' : Part) (e : Event) (read : Option Message) (line : List ℕ)
    (is : IsKeeping (keeper who b o events before old stuck) begun p) (free : stuck ≡ false) (text : IsLine (line_behind who (kept_in o) events e read) line) where
  there : local_part b o events ≡ p
  there = is.part free

  turn_there : (done : Effect) → HasTurned b p e read done p' → IsTurn b (local_part b o events) e done
  turn_there done turned = subst (λ (q : Part). IsTurn b q e done) (sym there) turned.turn

  -- an event is logged
  goes_on_there : (done : Effect) → IsRead read → is_own who e ≡ true → HasTurned b p e read done p' → Appends old now line → IsKeeping (keeper who b o (events ++ (e, done) ∷ []) before now stuck) true p'
  goes_on_there done good own turned added =
      let l = (keeper who b o events before old stuck).log in
      let l' = (keeper who b o (events ++ (e, done) ∷ []) before old stuck).log in
      let (bytes, lines, held) = holds stuck l before old free is.journal in
      record {
        down = is.down;
        part = λ f. after_last b o events e done ∙ ap (λ (q : Part). after_own b e done q) there ∙ sym turned.part;
        run = run_on b who o events e done is.run own (turn_there done turned);
        read = read_on events e done is.read (subst IsRead (sym turned.message) good);
        begun = begun_on events (e, done);
        journal = subst (λ (s : Bool). HoldsLog s l' before now) (sym free) (
          bytes ++ line,
          subst (λ (ls : List OwnLine). AreLines ls (bytes ++ line)) (sym (lines_on who (kept_in o) events e done))
              (line_on (log_lines l) (line_behind who (kept_in o) events e (message_of done)) bytes line lines
              (subst (λ (m : Option Message). IsLine (line_behind who (kept_in o) events e m) line) (sym turned.message) text)),
          Appends-trans before old now bytes line held added,
        );
      }

  logged_there : (done : Effect) → HasTurned b p e read done p' → Appends old now line → HasLogged (keeper who b o events before old stuck) e read done (keeper who b o (events ++ (e, done) ∷ []) before now stuck)
  logged_there done turned added = record {
    free = free;
    added = record { kind = turned.kind; log = refl; part = after_last b o events e done };
    turn = turn_there done turned;
    message = turned.message;
    line = (line, text, added);
    still = free;
    before = refl;
  }

  -- a write fails
  breaks_there : AppendsPart old now line → IsKeeping (keeper who b o events before now true) begun p'
  breaks_there part =
      let (bytes, lines, held) = holds stuck (keeper who b o events before old stuck).log before old free is.journal in
      let (front, back, cut, some, added) = part in
      record {
        down = is.down;
        part = λ (f : true ≡ false). absurd (cc);
        run = is.run;
        read = is.read;
        begun = is.begun;
        journal = (bytes, front, lines, (line_behind who (kept_in o) events e read, line, back, text, cut, some), Appends-trans before old now bytes front held added);
      }

  torn_there : AppendsPart old now line → HasTorn (keeper who b o events before old stuck) e read (keeper who b o events before now true)
  torn_there part =
      let (front, back, cut, some, added) = part in
      record { free = free; log = refl; line = (line, front, back, text, cut, some, added); stuck = refl; before = refl }

-- The same, where the actor and its ballots are told anew.

pub goes_on : (who who' : Actor) (b b' : List Ballot) (o : Part) (events events' : List (Event × Effect)) (before old now : Option (List ℕ)) (stuck begun : Bool) (p p' : Part) (e : Event) (read : Option Message) (line : List ℕ) (done : Effect) →
    who' ≡ who → b' ≡ b → events' ≡ events ++ (e, done) ∷ [] → IsKeeping (keeper who b o events before old stuck) begun p → stuck ≡ false → IsLine (line_behind who (kept_in o) events e read) line → IsRead read → is_own who e ≡ true → HasTurned b p e read done p' → Appends old now line →
    IsKeeping (keeper who' b' o events' before now stuck) true p'
goes_on who who' b b' o events events' before old now stuck begun p p' e read line done same list more is free text good own turned added =
    rw same (rw list (rw more (goes_on_there who b o events before old now stuck begun p p' e read line is free text done good own turned added)))

pub logged : (who who' : Actor) (b b' : List Ballot) (o : Part) (events events' : List (Event × Effect)) (before old now : Option (List ℕ)) (stuck begun : Bool) (p p' : Part) (e : Event) (read : Option Message) (line : List ℕ) (done : Effect) →
    who' ≡ who → b' ≡ b → events' ≡ events ++ (e, done) ∷ [] → IsKeeping (keeper who b o events before old stuck) begun p → stuck ≡ false → IsLine (line_behind who (kept_in o) events e read) line → HasTurned b p e read done p' → Appends old now line →
    HasLogged (keeper who b o events before old stuck) e read done (keeper who' b' o events' before now stuck)
logged who who' b b' o events events' before old now stuck begun p p' e read line done same list more is free text turned added =
    rw same (rw list (rw more (logged_there who b o events before old now stuck begun p p' e read line is free text done turned added)))

pub breaks : (who who' : Actor) (b b' : List Ballot) (o : Part) (events : List (Event × Effect)) (before old now : Option (List ℕ)) (stuck begun : Bool) (p p' : Part) (e : Event) (read : Option Message) (line : List ℕ) →
    who' ≡ who → b' ≡ b → IsKeeping (keeper who b o events before old stuck) begun p → stuck ≡ false → IsLine (line_behind who (kept_in o) events e read) line → AppendsPart old now line →
    IsKeeping (keeper who' b' o events before now true) begun p'
breaks who who' b b' o events before old now stuck begun p p' e read line same list is free text part =
    rw same (rw list (breaks_there who b o events before old now stuck begun p p' e read line is free text part))

pub torn : (who who' : Actor) (b b' : List Ballot) (o : Part) (events : List (Event × Effect)) (before old now : Option (List ℕ)) (stuck begun : Bool) (p p' : Part) (e : Event) (read : Option Message) (line : List ℕ) →
    who' ≡ who → b' ≡ b → IsKeeping (keeper who b o events before old stuck) begun p → stuck ≡ false → IsLine (line_behind who (kept_in o) events e read) line → AppendsPart old now line →
    HasTorn (keeper who b o events before old stuck) e read (keeper who' b' o events before now true)
torn who who' b b' o events before old now stuck begun p p' e read line same list is free text part =
    rw same (rw list (torn_there who b o events before old now stuck begun p p' e read line is free text part))
