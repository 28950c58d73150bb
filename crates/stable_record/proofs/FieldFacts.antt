-- A field that is read is the field that was written, and what was written is read again. What holds of
-- fields of any layout is a law of the messages' crate.
use Rattle.std.proofs.Common.{◌≡◌, ℕ, ◌+◌, ◌≤◌, Bool, true, false, cond, eqb, List, [], ◌∷◌, ◌++◌, length, Option, Some, None, Result, Ok, Err, refl, sym, ap, subst, ◌∙◌, arith, inl, inr}
use Rattle.std.specs.Prelude.{IfSome}
use Rattle.std.specs.Int.{Width, w16, w32, w64, to_be_bytes}
use Rattle.std.proofs.lemmas.Bool.{eqb-true, eq-eqb}
use Rattle.lock_messages.specs.declared.ids.TheConstants.{MAX_CLIENTS, MAX_ATTEMPT}
use Rattle.lock_messages.specs.declared.names.TheConstants.{MAX_NAME_LEN}
use Rattle.lock_messages.specs.declared.tickets.Mode.{Mode}
use Rattle.lock_messages.specs.declared.tickets.Mode.TheVariants.{Read, Write}
use Rattle.lock_messages.specs.Names.{IsName}
use Rattle.lock_messages.specs.Fields.{◌>>=◌, byte_at, number_at, mode_number, mode_at, name_at, AreBytes, IsFieldWidth, FieldsAreExact}
use Rattle.lock_model.specs.declared.entries.Entry.{Entry}
use Rattle.lock_model.specs.declared.entries.Live.{Live}
use Rattle.lock_model.specs.declared.entries.Status.{Status}
use Rattle.lock_model.specs.declared.entries.Status.TheVariants.{Waiting, Holding, Softened}
use Rattle.lock_model.specs.declared.problems.Problem.{Problem}
use Rattle.lock_model.specs.declared.problems.Problem.TheVariants.{First, Second}
use Rattle.lock_model.specs.ExactStations.{knows, IsAboveFloor, IsReaderIfSoftened}
use Rattle.stable_record.specs.declared.faults.RecordFault.{RecordFault}
use Rattle.stable_record.specs.declared.faults.RecordFault.TheVariants as faults
use Rattle.stable_record.specs.Records.{problem_byte, status_number, ticket_bytes, live_bytes, entry_bytes, IsTicketOf, IsEntry}
use Rattle.stable_record.specs.Reading.{problem_at, client_at, floor_at, state_at, attempt_at, goes_with, ticket_mode_at, length_at, ticket_at, live_at, entry_at}
use Rattle.lock_messages.specs.FieldSteps.{bind_ok, bind_again, not_stopped, went_on, chosen, done, ok_is, behind, Takes, takes, Takes-then}

pub is16 : IsFieldWidth w16
is16 = inl refl

pub is32 : IsFieldWidth w32
is32 = inr (inl refl)

pub is64 : IsFieldWidth w64
is64 = inr (inr refl)

-- ---- policies and states

one_policy : (b : ℕ) (p : Problem) (rest : List ℕ) (x : Problem × List ℕ) → AreBytes (b ∷ rest) → b ≡ problem_byte p → done {A = Problem × List ℕ} RecordFault (p, rest) ≡ Ok x → Takes (b ∷ rest) (problem_byte x.0 ∷ []) x.1
one_policy b p rest x fits h e =
    subst (λ (y : Problem × List ℕ). Takes (b ∷ rest) (problem_byte y.0 ∷ []) y.1) (ok_is (p, rest) x e)
    (record { parts = ap (λ (n : ℕ). n ∷ rest) h; rest_fits = behind (b ∷ []) rest fits })

pub policy_takes : (bytes : List ℕ) (x : Problem × List ℕ) → AreBytes bytes → problem_at bytes ≡ Ok x → Takes bytes (problem_byte x.0 ∷ []) x.1
policy_takes [] x fits e = absurd cc
policy_takes (b ∷ rest) x fits e =
    elim (chosen (eqb b 1) _ _ _ e) [
      | inl h1 ↦ one_policy b First rest x fits (eqb-true _ _ h1.0) h1.1
      | inr n1 ↦ elim (chosen (eqb b 2) _ _ _ n1.1) [
        | inl h2 ↦ one_policy b Second rest x fits (eqb-true _ _ h2.0) h2.1
        | inr n2 ↦ let bad : done RecordFault x ≡ Err faults.Policy = sym n2.1 in absurd cc
      ]
    ]

pub problem_again : (p : Problem) (rest : List ℕ) → problem_at (problem_byte p ∷ rest) ≡ Ok (p, rest)
problem_again First rest = refl
problem_again Second rest = refl

abbrev pub state_number : Option Status → ℕ
state_number None = 0
state_number (Some s) = status_number s

one_state : (b : ℕ) (s : Option Status) (rest : List ℕ) (x : Option Status × List ℕ) → AreBytes (b ∷ rest) → b ≡ state_number s → done {A = Option Status × List ℕ} RecordFault (s, rest) ≡ Ok x → Takes (b ∷ rest) (state_number x.0 ∷ []) x.1
one_state b s rest x fits h e =
    subst (λ (y : Option Status × List ℕ). Takes (b ∷ rest) (state_number y.0 ∷ []) y.1) (ok_is (s, rest) x e)
    (record { parts = ap (λ (n : ℕ). n ∷ rest) h; rest_fits = behind (b ∷ []) rest fits })

state_takes : (bytes : List ℕ) (x : Option Status × List ℕ) → AreBytes bytes → state_at bytes ≡ Ok x → Takes bytes (state_number x.0 ∷ []) x.1
state_takes [] x fits e = absurd cc
state_takes (b ∷ rest) x fits e =
    elim (chosen (eqb b 0) _ _ _ e) [
      | inl h0 ↦ one_state b None rest x fits (eqb-true _ _ h0.0) h0.1
      | inr n0 ↦ elim (chosen (eqb b 1) _ _ _ n0.1) [
        | inl h1 ↦ one_state b (Some Waiting) rest x fits (eqb-true _ _ h1.0) h1.1
        | inr n1 ↦ elim (chosen (eqb b 2) _ _ _ n1.1) [
          | inl h2 ↦ one_state b (Some Holding) rest x fits (eqb-true _ _ h2.0) h2.1
          | inr n2 ↦ elim (chosen (eqb b 3) _ _ _ n2.1) [
            | inl h3 ↦ one_state b (Some Softened) rest x fits (eqb-true _ _ h3.0) h3.1
            | inr n3 ↦ let bad : done RecordFault x ≡ Err faults.EntryField = sym n3.1 in absurd cc
          ]
        ]
      ]
    ]

state_again : (s : Option Status) (rest : List ℕ) → state_at (state_number s ∷ rest) ≡ Ok (s, rest)
state_again None rest = refl
state_again (Some Waiting) rest = refl
state_again (Some Holding) rest = refl
state_again (Some Softened) rest = refl

reads-if-softened : (s : Status) (m : Mode) → goes_with s m ≡ true → s ≡ Softened → m ≡ Read
reads-if-softened s Read h e = refl
reads-if-softened Waiting Write h e = absurd cc
reads-if-softened Holding Write h e = absurd cc
reads-if-softened Softened Write h e = absurd cc

goes-if-reads : (s : Status) (m : Mode) → (s ≡ Softened → m ≡ Read) → goes_with s m ≡ true
goes-if-reads Waiting m h = refl
goes-if-reads Holding m h = refl
goes-if-reads Softened Read h = refl
goes-if-reads Softened Write h = absurd (let bad : Write ≡ Read = h refl in cc)

-- ---- what a ticket, a live ticket and an entry take

-- a ticket that was read from these bytes
record TakesTicket (floor : ℕ) (status : Status) (bytes : List ℕ) (l : Live) (rest : List ℕ) : Type 0 where
  pub taken : Takes bytes (ticket_bytes l) rest
  pub fits : IsTicketOf l
  pub above : l.attempt ≡ floor + 1
  pub softened : l.status ≡ Softened → l.mode ≡ Read
  pub status_is : l.status ≡ status

abbrev at_name : Status → ℕ → Mode → ℕ → List ℕ → Result (Live × List ℕ) RecordFault
at_name s a m size bytes = name_at faults.Short faults.EntryField size bytes >>= λ name. Ok (record { attempt = a; mode = m; resource = name.0; status = s }, name.1)

abbrev at_length : Status → ℕ → Mode → List ℕ → Result (Live × List ℕ) RecordFault
at_length s a m bytes = length_at bytes >>= λ size. at_name s a m size.0 size.1

abbrev at_mode : Status → ℕ → List ℕ → Result (Live × List ℕ) RecordFault
at_mode s a bytes = ticket_mode_at s bytes >>= λ mode. at_length s a mode.0 mode.1

record TakesLive (floor : ℕ) (bytes : List ℕ) (o : Option Live) (rest : List ℕ) : Type 0 where
  pub taken : Takes bytes (live_bytes o) rest
  pub fits : IfSome o IsTicketOf
  pub above : IfSome o (λ l. l.attempt ≡ floor + 1)
  pub softened : IfSome o (λ l. l.status ≡ Softened → l.mode ≡ Read)

abbrev at_state : ℕ → List ℕ → Result (Option Live × List ℕ) RecordFault
at_state floor bytes = state_at bytes >>= λ state. live_at floor state.0 state.1

pub record TakesEntry (seen : List Entry) (bytes : List ℕ) (e : Entry) (rest : List ℕ) : Type 0 where
  pub taken : Takes bytes (entry_bytes e) rest
  pub fits : IsEntry e
  pub above : IsAboveFloor e
  pub softened : IsReaderIfSoftened e
  pub new : knows e.client seen ≡ false

abbrev at_live : ℕ → ℕ → Option Status → List ℕ → Result (Entry × List ℕ) RecordFault
at_live c floor s bytes = live_at floor s bytes >>= λ live. Ok (record { client = c; floor = floor; live = live.0 }, live.1)

abbrev at_entry_state : ℕ → ℕ → List ℕ → Result (Entry × List ℕ) RecordFault
at_entry_state c floor bytes = state_at bytes >>= λ state. at_live c floor state.0 state.1

abbrev at_floor : ℕ → List ℕ → Result (Entry × List ℕ) RecordFault
at_floor c bytes = floor_at bytes >>= λ floor. at_entry_state c floor.0 floor.1

-- the client of an entry that was read is new
pub entry_new : (seen : List Entry) (bytes : List ℕ) (x : Entry × List ℕ) → entry_at seen bytes ≡ Ok x → knows x.0.client seen ≡ false
unfolding entry_at
entry_new seen bytes x e =
    let c = bind_ok (client_at seen bytes) (λ client. at_floor client.0 client.1) x e in
    let b = bind_ok (number_at w32 1 MAX_CLIENTS faults.Short faults.EntryField bytes) (λ c. cond (knows c.0 seen) (Err faults.ClientTwice) (Ok c)) c.0 c.1 in
    let g = not_stopped (knows b.0.0 seen) faults.ClientTwice (Ok b.0) c.0 b.2 in
    let f = bind_ok (floor_at c.0.1) (λ floor. at_entry_state c.0.0 floor.0 floor.1) x c.2 in
    let s = bind_ok (state_at f.0.1) (λ state. at_live c.0.0 f.0.0 state.0 state.1) x f.2 in
    let l = bind_ok (live_at f.0.0 s.0.0 s.0.1) (λ live. Ok (record { client = c.0.0; floor = f.0.0; live = live.0 }, live.1)) x s.2 in
    let made : Entry × List ℕ = (record { client = c.0.0; floor = f.0.0; live = l.0.0 }, l.0.1) in
    let here : knows c.0.0 seen ≡ false = subst (λ (y : ℕ × List ℕ). knows y.0 seen ≡ false) (ok_is b.0 c.0 g.1) g.0 in
    subst (λ (y : Entry × List ℕ). knows y.0.client seen ≡ false) (ok_is made x l.2) here

-- ---- by the law of fields

module _ (law : FieldsAreExact RecordFault) where
  pub byte_takes : (least most : ℕ) (missing fault : RecordFault) (bytes : List ℕ) (x : ℕ × List ℕ) → AreBytes bytes → byte_at least most missing fault bytes ≡ Ok x
      → Takes bytes (x.0 ∷ []) x.1 × (least ≤ x.0) × (x.0 ≤ most)
  byte_takes least most missing fault bytes x fits e =
      let h = (law.byte least most missing fault bytes x.0 x.1).0 e in
      (takes bytes (x.0 ∷ []) x.1 fits h.0, h.1, h.2)

  pub number_takes : (w : Width) (of_w : IsFieldWidth w) (least most : ℕ) (missing fault : RecordFault) (bytes : List ℕ) (x : ℕ × List ℕ) → AreBytes bytes → number_at w least most missing fault bytes ≡ Ok x
      → Takes bytes (to_be_bytes w x.0) x.1 × (least ≤ x.0) × (x.0 ≤ most)
  number_takes w of_w least most missing fault bytes x fits e =
      let h = law.number w least most missing fault bytes x.0 x.1 of_w fits e in
      (takes bytes (to_be_bytes w x.0) x.1 fits h.0, h.1, h.2)

  mode_takes : (bytes : List ℕ) (x : Mode × List ℕ) → AreBytes bytes → mode_at faults.Short faults.EntryField bytes ≡ Ok x → Takes bytes (mode_number x.0 ∷ []) x.1
  mode_takes bytes x fits e = takes bytes (mode_number x.0 ∷ []) x.1 fits ((law.mode faults.Short faults.EntryField bytes x.0 x.1).0 e)

  name_takes : (size : ℕ) (bytes : List ℕ) (x : List ℕ × List ℕ) → AreBytes bytes → 1 ≤ size → size ≤ MAX_NAME_LEN → name_at faults.Short faults.EntryField size bytes ≡ Ok x
      → Takes bytes x.0 x.1 × (length x.0 ≡ size) × IsName x.0
  name_takes size bytes x fits low high e =
      let h = (law.name faults.Short faults.EntryField size bytes x.0 x.1 low high).0 e in
      (takes bytes x.0 x.1 fits h.0, h.1, h.2)

  client_takes : (seen : List Entry) (bytes : List ℕ) (x : ℕ × List ℕ) → AreBytes bytes → client_at seen bytes ≡ Ok x
      → Takes bytes (to_be_bytes w32 x.0) x.1 × (1 ≤ x.0) × (x.0 ≤ MAX_CLIENTS) × (knows x.0 seen ≡ false)
  client_takes seen bytes x fits e =
      let b = bind_ok (number_at w32 1 MAX_CLIENTS faults.Short faults.EntryField bytes) (λ c. cond (knows c.0 seen) (Err faults.ClientTwice) (Ok c)) x e in
      let t = number_takes w32 is32 1 MAX_CLIENTS faults.Short faults.EntryField bytes b.0 fits b.1 in
      let g = not_stopped (knows b.0.0 seen) faults.ClientTwice (Ok b.0) x b.2 in
      subst (λ (y : ℕ × List ℕ). Takes bytes (to_be_bytes w32 y.0) y.1 × (1 ≤ y.0) × (y.0 ≤ MAX_CLIENTS) × (knows y.0 seen ≡ false)) (ok_is b.0 x g.1) (t.0, t.1, t.2, g.0)

  client_again : (seen : List Entry) (c : ℕ) (rest : List ℕ) → 1 ≤ c → c ≤ MAX_CLIENTS → knows c seen ≡ false → client_at seen (to_be_bytes w32 c ++ rest) ≡ Ok (c, rest)
  client_again seen c rest low high new =
      bind_again (number_at w32 1 MAX_CLIENTS faults.Short faults.EntryField (to_be_bytes w32 c ++ rest)) (λ c. cond (knows c.0 seen) (Err faults.ClientTwice) (Ok c)) (c, rest)
      (law.number_again w32 1 MAX_CLIENTS faults.Short faults.EntryField c rest is32 (omega arith) low high)
      ∙ ap (λ (t : Bool). cond t (Err faults.ClientTwice) (Ok (c, rest))) new

  attempt_takes : (floor : ℕ) (bytes : List ℕ) (x : ℕ × List ℕ) → AreBytes bytes → attempt_at floor bytes ≡ Ok x
      → Takes bytes (to_be_bytes w64 x.0) x.1 × (1 ≤ x.0) × (x.0 ≤ MAX_ATTEMPT) × (x.0 ≡ floor + 1)
  attempt_takes floor bytes x fits e =
      let b = bind_ok (number_at w64 1 MAX_ATTEMPT faults.Short faults.EntryField bytes) (λ a. cond (eqb a.0 (floor + 1)) (Ok a) (Err faults.AttemptNotNext)) x e in
      let t = number_takes w64 is64 1 MAX_ATTEMPT faults.Short faults.EntryField bytes b.0 fits b.1 in
      let g = went_on (eqb b.0.0 (floor + 1)) faults.AttemptNotNext (Ok b.0) x b.2 in
      subst (λ (y : ℕ × List ℕ). Takes bytes (to_be_bytes w64 y.0) y.1 × (1 ≤ y.0) × (y.0 ≤ MAX_ATTEMPT) × (y.0 ≡ floor + 1)) (ok_is b.0 x g.1) (t.0, t.1, t.2, eqb-true _ _ g.0)

  attempt_again : (floor a : ℕ) (rest : List ℕ) → 1 ≤ a → a ≤ MAX_ATTEMPT → a ≡ floor + 1 → attempt_at floor (to_be_bytes w64 a ++ rest) ≡ Ok (a, rest)
  attempt_again floor a rest low high next =
      bind_again (number_at w64 1 MAX_ATTEMPT faults.Short faults.EntryField (to_be_bytes w64 a ++ rest)) (λ a. cond (eqb a.0 (floor + 1)) (Ok a) (Err faults.AttemptNotNext)) (a, rest)
      (law.number_again w64 1 MAX_ATTEMPT faults.Short faults.EntryField a rest is64 (omega arith) low high)
      ∙ ap (λ (t : Bool). cond t (Ok (a, rest)) (Err faults.AttemptNotNext)) (eq-eqb a (floor + 1) next)

  ticket_mode_takes : (s : Status) (bytes : List ℕ) (x : Mode × List ℕ) → AreBytes bytes → ticket_mode_at s bytes ≡ Ok x
      → Takes bytes (mode_number x.0 ∷ []) x.1 × (s ≡ Softened → x.0 ≡ Read)
  ticket_mode_takes s bytes x fits e =
      let b = bind_ok (mode_at faults.Short faults.EntryField bytes) (λ m. cond (goes_with s m.0) (Ok m) (Err faults.EntryField)) x e in
      let t = mode_takes bytes b.0 fits b.1 in
      let g = went_on (goes_with s b.0.0) faults.EntryField (Ok b.0) x b.2 in
      subst (λ (y : Mode × List ℕ). Takes bytes (mode_number y.0 ∷ []) y.1 × (s ≡ Softened → y.0 ≡ Read)) (ok_is b.0 x g.1) (t, reads-if-softened s b.0.0 g.0)

  ticket_mode_again : (s : Status) (m : Mode) (rest : List ℕ) → (s ≡ Softened → m ≡ Read) → ticket_mode_at s (mode_number m ∷ rest) ≡ Ok (m, rest)
  ticket_mode_again s m rest reads =
      bind_again (mode_at faults.Short faults.EntryField (mode_number m ∷ rest)) (λ m. cond (goes_with s m.0) (Ok m) (Err faults.EntryField)) (m, rest)
      ((law.mode faults.Short faults.EntryField (mode_number m ∷ rest) m rest).1 refl)
      ∙ ap (λ (t : Bool). cond t (Ok (m, rest)) (Err faults.EntryField)) (goes-if-reads s m reads)

  ticket_takes : (floor : ℕ) (s : Status) (bytes : List ℕ) (x : Live × List ℕ) → AreBytes bytes → ticket_at floor s bytes ≡ Ok x → TakesTicket floor s bytes x.0 x.1
  unfolding ticket_at
  ticket_takes floor s bytes x fits e =
      let a = bind_ok (attempt_at floor bytes) (λ attempt. at_mode s attempt.0 attempt.1) x e in
      let m = bind_ok (ticket_mode_at s a.0.1) (λ mode. at_length s a.0.0 mode.0 mode.1) x a.2 in
      let z = bind_ok (length_at m.0.1) (λ size. at_name s a.0.0 m.0.0 size.0 size.1) x m.2 in
      let r = bind_ok (name_at faults.Short faults.EntryField z.0.0 z.0.1) (λ name. Ok (record { attempt = a.0.0; mode = m.0.0; resource = name.0; status = s }, name.1)) x z.2 in
      let t0 = attempt_takes floor bytes a.0 fits a.1 in
      let t1 = ticket_mode_takes s a.0.1 m.0 t0.0.rest_fits m.1 in
      let t2 = byte_takes 1 MAX_NAME_LEN faults.Short faults.EntryField m.0.1 z.0 t1.0.rest_fits z.1 in
      let t3 = name_takes z.0.0 z.0.1 r.0 t2.0.rest_fits t2.1 t2.2 r.1 in
      let t23 = Takes-then m.0.1 (z.0.0 ∷ []) z.0.1 r.0.0 r.0.1 t2.0 t3.0 in
      let t123 = Takes-then a.0.1 (mode_number m.0.0 ∷ []) m.0.1 (z.0.0 ∷ r.0.0) r.0.1 t1.0 t23 in
      let t0123 = Takes-then bytes (to_be_bytes w64 a.0.0) a.0.1 (mode_number m.0.0 ∷ z.0.0 ∷ r.0.0) r.0.1 t0.0 t123 in
      let whole : Takes bytes (to_be_bytes w64 a.0.0 ++ mode_number m.0.0 ∷ length r.0.0 ∷ r.0.0) r.0.1 = subst (λ (k : ℕ). Takes bytes (to_be_bytes w64 a.0.0 ++ mode_number m.0.0 ∷ k ∷ r.0.0) r.0.1) (sym t3.1) t0123 in
      let made : Live × List ℕ = (record { attempt = a.0.0; mode = m.0.0; resource = r.0.0; status = s }, r.0.1) in
      subst (λ (y : Live × List ℕ). TakesTicket floor s bytes y.0 y.1) (ok_is made x r.2) (record { taken = whole; fits = record { attempt = (t0.1, t0.2); resource = t3.2 }; above = t0.3; softened = t1.1; status_is = refl })

  ticket_again : (floor : ℕ) (l : Live) (rest : List ℕ) → IsTicketOf l → l.attempt ≡ floor + 1 → (l.status ≡ Softened → l.mode ≡ Read) → ticket_at floor l.status (ticket_bytes l ++ rest) ≡ Ok (l, rest)
  unfolding ticket_at
  ticket_again floor l rest fits next reads =
      let b3 = l.resource ++ rest in
      let b2 = length l.resource ∷ b3 in
      let b1 = mode_number l.mode ∷ b2 in
      bind_again (attempt_at floor (to_be_bytes w64 l.attempt ++ b1)) (λ attempt. at_mode l.status attempt.0 attempt.1) (l.attempt, b1) (attempt_again floor l.attempt b1 fits.attempt.0 fits.attempt.1 next)
      ∙ bind_again (ticket_mode_at l.status b1) (λ mode. at_length l.status l.attempt mode.0 mode.1) (l.mode, b2) (ticket_mode_again l.status l.mode b2 reads)
      ∙ bind_again (length_at b2) (λ size. at_name l.status l.attempt l.mode size.0 size.1) (length l.resource, b3) ((law.byte 1 MAX_NAME_LEN faults.Short faults.EntryField b2 (length l.resource) b3).1 (refl, omega (arith, fits.resource.not_empty), fits.resource.fits))
      ∙ bind_again (name_at faults.Short faults.EntryField (length l.resource) b3) (λ name. Ok (record { attempt = l.attempt; mode = l.mode; resource = name.0; status = l.status }, name.1)) (l.resource, rest) ((law.name faults.Short faults.EntryField (length l.resource) b3 l.resource rest (omega (arith, fits.resource.not_empty)) fits.resource.fits).1 (refl, refl, fits.resource))

  live_takes : (floor : ℕ) (s : Option Status) (before bytes : List ℕ) (x : Option Live × List ℕ) → Takes before (state_number s ∷ []) bytes → live_at floor s bytes ≡ Ok x → TakesLive floor before x.0 x.1
  live_takes floor None before bytes x t e =
      subst (λ (y : Option Live × List ℕ). TakesLive floor before y.0 y.1) (ok_is (None, bytes) x e) (record { taken = t; fits = tt; above = tt; softened = tt })
  live_takes floor (Some s) before bytes x t e =
      let b = bind_ok (ticket_at floor s bytes) (λ l. Ok (Some l.0, l.1)) x e in
      let k = ticket_takes floor s bytes b.0 t.rest_fits b.1 in
      let both = Takes-then before (status_number s ∷ []) bytes (ticket_bytes b.0.0) b.0.1 t k.taken in
      let whole : Takes before (live_bytes (Some b.0.0)) b.0.1 = subst (λ (q : Status). Takes before (status_number q ∷ ticket_bytes b.0.0) b.0.1) (sym k.status_is) both in
      let made : Option Live × List ℕ = (Some b.0.0, b.0.1) in
      subst (λ (y : Option Live × List ℕ). TakesLive floor before y.0 y.1) (ok_is made x b.2) (record { taken = whole; fits = k.fits; above = k.above; softened = k.softened })

  live_again : (floor : ℕ) (o : Option Live) (rest : List ℕ) → IfSome o IsTicketOf → IfSome o (λ l. l.attempt ≡ floor + 1) → IfSome o (λ l. l.status ≡ Softened → l.mode ≡ Read) → at_state floor (live_bytes o ++ rest) ≡ Ok (o, rest)
  live_again floor None rest fits above reads = refl
  live_again floor (Some l) rest fits above reads =
      bind_again (state_at (status_number l.status ∷ (ticket_bytes l ++ rest))) (λ state. live_at floor state.0 state.1) (Some l.status, ticket_bytes l ++ rest) (state_again (Some l.status) (ticket_bytes l ++ rest))
      ∙ bind_again (ticket_at floor l.status (ticket_bytes l ++ rest)) (λ t. Ok (Some t.0, t.1)) (l, rest) (ticket_again floor l rest fits above reads)

  pub entry_takes : (seen : List Entry) (bytes : List ℕ) (x : Entry × List ℕ) → AreBytes bytes → entry_at seen bytes ≡ Ok x → TakesEntry seen bytes x.0 x.1
  unfolding entry_at
  entry_takes seen bytes x fits e =
      let c = bind_ok (client_at seen bytes) (λ client. at_floor client.0 client.1) x e in
      let f = bind_ok (floor_at c.0.1) (λ floor. at_entry_state c.0.0 floor.0 floor.1) x c.2 in
      let s = bind_ok (state_at f.0.1) (λ state. at_live c.0.0 f.0.0 state.0 state.1) x f.2 in
      let l = bind_ok (live_at f.0.0 s.0.0 s.0.1) (λ live. Ok (record { client = c.0.0; floor = f.0.0; live = live.0 }, live.1)) x s.2 in
      let tc = client_takes seen bytes c.0 fits c.1 in
      let tf = number_takes w64 is64 0 MAX_ATTEMPT faults.Short faults.EntryField c.0.1 f.0 tc.0.rest_fits f.1 in
      let ts = state_takes f.0.1 s.0 tf.0.rest_fits s.1 in
      let tl = live_takes f.0.0 s.0.0 f.0.1 s.0.1 l.0 ts l.1 in
      let from_floor = Takes-then c.0.1 (to_be_bytes w64 f.0.0) f.0.1 (live_bytes l.0.0) l.0.1 tf.0 tl.taken in
      let whole = Takes-then bytes (to_be_bytes w32 c.0.0) c.0.1 (to_be_bytes w64 f.0.0 ++ live_bytes l.0.0) l.0.1 tc.0 from_floor in
      let made : Entry × List ℕ = (record { client = c.0.0; floor = f.0.0; live = l.0.0 }, l.0.1) in
      subst (λ (y : Entry × List ℕ). TakesEntry seen bytes y.0 y.1) (ok_is made x l.2)
      (record { taken = whole; fits = record { client = (tc.1, tc.2); floor = tf.2; live = tl.fits }; above = tl.above; softened = tl.softened; new = tc.3 })

  pub entry_again : (seen : List Entry) (e : Entry) (rest : List ℕ) → IsEntry e → IsAboveFloor e → IsReaderIfSoftened e → knows e.client seen ≡ false → entry_at seen (entry_bytes e ++ rest) ≡ Ok (e, rest)
  unfolding entry_at
  entry_again seen e rest fits above reads new =
      let b2 = live_bytes e.live ++ rest in
      let b1 = to_be_bytes w64 e.floor ++ b2 in
      let finish : Option Live × List ℕ → Result (Entry × List ℕ) RecordFault = λ live. Ok (record { client = e.client; floor = e.floor; live = live.0 }, live.1) in
      bind_again (client_at seen (to_be_bytes w32 e.client ++ b1)) (λ client. at_floor client.0 client.1) (e.client, b1) (client_again seen e.client b1 fits.client.0 fits.client.1 new)
      ∙ bind_again (floor_at b1) (λ floor. at_entry_state e.client floor.0 floor.1) (e.floor, b2) (law.number_again w64 0 MAX_ATTEMPT faults.Short faults.EntryField e.floor b2 is64 (omega (arith, fits.floor)) (omega arith) fits.floor)
      ∙ live_then e.floor (state_at b2) finish
      ∙ bind_again (at_state e.floor b2) finish (e.live, rest) (live_again e.floor e.live rest fits.live above reads)
    where
      live_then : (floor : ℕ) (state : Result (Option Status × List ℕ) RecordFault) (f : Option Live × List ℕ → Result (Entry × List ℕ) RecordFault) →
          (state >>= λ s. live_at floor s.0 s.1 >>= f) ≡ ((state >>= λ s. live_at floor s.0 s.1) >>= f)
      live_then floor (Ok s) f = refl
      live_then floor (Err d) f = refl
