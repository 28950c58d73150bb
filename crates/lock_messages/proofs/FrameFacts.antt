-- What is read is spelled so, and what is spelled so is read.
use Rattle.std.proofs.Common.{◌≡◌, ℕ, ◌≤◌, cond, eqb, inl, inr, List, [], ◌∷◌, ◌++◌, length, Result, Ok, Err, refl, sym, ap, subst, ◌∙◌, append_assoc, arith}
use Rattle.std.specs.Prelude.{IfOk}
use Rattle.std.specs.Int.{Width, w32, w64, to_be_bytes}
use Rattle.std.proofs.lemmas.Bool.{eqb-true, eqb-false}
use Rattle.std.proofs.lemmas.List.{append-nil, nil_from_length}
use Rattle.lock_messages.specs.declared.ids.TheConstants.{MAX_NODES, MAX_CLIENTS, MAX_ATTEMPT}
use Rattle.lock_messages.specs.declared.names.TheConstants.{MAX_NAME_LEN}
use Rattle.lock_messages.specs.declared.kinds.TheConstants.{VERSION, SOFTENING_VERSION}
use Rattle.lock_messages.specs.declared.tickets.Mode.{Mode}
use Rattle.lock_messages.specs.declared.kinds.Kind.{Kind}
use Rattle.lock_messages.specs.declared.kinds.Kind.TheVariants as kinds
use Rattle.lock_messages.specs.declared.faults.FrameFault.{FrameFault}
use Rattle.lock_messages.specs.declared.faults.FrameFault.TheVariants as faults
use Rattle.lock_messages.specs.declared.tickets.Ticket.{Ticket}
use Rattle.lock_messages.specs.declared.messages.Message.{Message}
use Rattle.lock_messages.specs.declared.messages.Message.TheVariants.{Request, Release, Grant, Busy, Over, Done, Muddled, Soften, Softened}
use Rattle.lock_messages.specs.Names.{IsName}
use Rattle.lock_messages.specs.Ids.{IsNode, IsClient, IsAttempt}
use Rattle.lock_messages.specs.Messages.{IsTicket, IsMessage}
use Rattle.lock_messages.specs.Frames.{kind_number, version_of, head, wish, with_ticket, frame_of}
use Rattle.lock_messages.specs.Fields.{◌>>=◌, byte_at, number_at, mode_number, mode_at, name_at, AreBytes, IsFieldWidth, FieldsAreExact}
use Rattle.lock_messages.specs.Reading.{version_at, first_kind, softening_kind, kind_at, node_at, client_at, attempt_at, length_at, ticket_at, body_at, message_at, reading}
use Rattle.lock_messages.specs.Laws.{OneSpelling}
use Rattle.lock_messages.specs.FieldSteps.{bind_ok, bind_again, passed, chosen, done, ok_is, Takes, takes, Takes-then}
use Rattle.lock_messages.proofs.FieldFacts.{fields_exact}

law : FieldsAreExact FrameFault
law = fields_exact FrameFault

-- ---- fields of a frame, what they take and that they are read again

byte_takes : (least most : ℕ) (fault : FrameFault) (bytes : List ℕ) (x : ℕ × List ℕ) → AreBytes bytes → byte_at least most faults.Short fault bytes ≡ Ok x
    → Takes bytes (x.0 ∷ []) x.1 × (least ≤ x.0) × (x.0 ≤ most)
byte_takes least most fault bytes x fits e =
    let h = (law.byte least most faults.Short fault bytes x.0 x.1).0 e in
    (takes bytes (x.0 ∷ []) x.1 fits h.0, h.1, h.2)

byte_again : (least most : ℕ) (fault : FrameFault) (b : ℕ) (rest : List ℕ) → least ≤ b → b ≤ most → byte_at least most faults.Short fault (b ∷ rest) ≡ Ok (b, rest)
byte_again least most fault b rest low high = (law.byte least most faults.Short fault (b ∷ rest) b rest).1 (refl, low, high)

number_takes : (w : Width) (of_w : IsFieldWidth w) (most : ℕ) (fault : FrameFault) (bytes : List ℕ) (x : ℕ × List ℕ) → AreBytes bytes → number_at w 1 most faults.Short fault bytes ≡ Ok x
    → Takes bytes (to_be_bytes w x.0) x.1 × (1 ≤ x.0) × (x.0 ≤ most)
number_takes w of_w most fault bytes x fits e =
    let h = law.number w 1 most faults.Short fault bytes x.0 x.1 of_w fits e in
    (takes bytes (to_be_bytes w x.0) x.1 fits h.0, h.1, h.2)

is32 : IsFieldWidth w32
is32 = inr (inl refl)

is64 : IsFieldWidth w64
is64 = inr (inr refl)

mode_takes : (bytes : List ℕ) (x : Mode × List ℕ) → AreBytes bytes → mode_at faults.Short faults.Mode bytes ≡ Ok x → Takes bytes (mode_number x.0 ∷ []) x.1
mode_takes bytes x fits e = takes bytes (mode_number x.0 ∷ []) x.1 fits ((law.mode faults.Short faults.Mode bytes x.0 x.1).0 e)

mode_again : (m : Mode) (rest : List ℕ) → mode_at faults.Short faults.Mode (mode_number m ∷ rest) ≡ Ok (m, rest)
mode_again m rest = (law.mode faults.Short faults.Mode (mode_number m ∷ rest) m rest).1 refl

name_takes : (size : ℕ) (bytes : List ℕ) (x : List ℕ × List ℕ) → AreBytes bytes → 1 ≤ size → size ≤ MAX_NAME_LEN → name_at faults.Short faults.NameByte size bytes ≡ Ok x
    → Takes bytes x.0 x.1 × (length x.0 ≡ size) × IsName x.0
name_takes size bytes x fits low high e =
    let h = (law.name faults.Short faults.NameByte size bytes x.0 x.1 low high).0 e in
    (takes bytes x.0 x.1 fits h.0, h.1, h.2)

name_again : (name rest : List ℕ) → IsName name → name_at faults.Short faults.NameByte (length name) (name ++ rest) ≡ Ok (name, rest)
name_again name rest h = (law.name faults.Short faults.NameByte (length name) (name ++ rest) name rest (omega (arith, h.not_empty)) h.fits).1 (refl, refl, h)

-- a kind's version and its number
record IsSpelled (v b : ℕ) (k : Kind) : Type 0 where
  pub version : v ≡ version_of k
  pub number : b ≡ kind_number k

one_kind : (version b : ℕ) (k x : Kind) → version ≡ version_of k → b ≡ kind_number k → done FrameFault k ≡ Ok x → IsSpelled version b x
one_kind version b k x v h e = subst (IsSpelled version b) (ok_is k x e) (record { version = v; number = h })

first_kind_spelled : (b : ℕ) (x : Kind) → first_kind b ≡ Ok x → IsSpelled VERSION b x
first_kind_spelled b x e =
    elim (chosen (eqb b 1) _ _ _ e) [
      | inl h1 ↦ one_kind VERSION b kinds.Request x refl (eqb-true _ _ h1.0) h1.1
      | inr n1 ↦ elim (chosen (eqb b 2) _ _ _ n1.1) [
        | inl h2 ↦ one_kind VERSION b kinds.Release x refl (eqb-true _ _ h2.0) h2.1
        | inr n2 ↦ elim (chosen (eqb b 3) _ _ _ n2.1) [
          | inl h3 ↦ one_kind VERSION b kinds.Grant x refl (eqb-true _ _ h3.0) h3.1
          | inr n3 ↦ elim (chosen (eqb b 4) _ _ _ n3.1) [
            | inl h4 ↦ one_kind VERSION b kinds.Busy x refl (eqb-true _ _ h4.0) h4.1
            | inr n4 ↦ elim (chosen (eqb b 5) _ _ _ n4.1) [
              | inl h5 ↦ one_kind VERSION b kinds.Over x refl (eqb-true _ _ h5.0) h5.1
              | inr n5 ↦ elim (chosen (eqb b 6) _ _ _ n5.1) [
                | inl h6 ↦ one_kind VERSION b kinds.Done x refl (eqb-true _ _ h6.0) h6.1
                | inr n6 ↦
                    let h7 = passed (eqb b 7) faults.Kind kinds.Muddled x n6.1 in
                    subst (IsSpelled VERSION b) h7.1 (record { version = refl; number = eqb-true _ _ h7.0 })
              ]
            ]
          ]
        ]
      ]
    ]

softening_kind_spelled : (b : ℕ) (x : Kind) → softening_kind b ≡ Ok x → IsSpelled SOFTENING_VERSION b x
softening_kind_spelled b x e =
    elim (chosen (eqb b 8) _ _ _ e) [
      | inl h8 ↦ one_kind SOFTENING_VERSION b kinds.Soften x refl (eqb-true _ _ h8.0) h8.1
      | inr n8 ↦
          let h9 = passed (eqb b 9) faults.Kind kinds.Softened x n8.1 in
          subst (IsSpelled SOFTENING_VERSION b) h9.1 (record { version = refl; number = eqb-true _ _ h9.0 })
    ]

kind_spelled : (version b : ℕ) (x : Kind) → VERSION ≤ version → version ≤ SOFTENING_VERSION
    → cond (eqb version SOFTENING_VERSION) (softening_kind b) (first_kind b) ≡ Ok x → IsSpelled version b x
kind_spelled version b x low high e =
    elim (chosen (eqb version SOFTENING_VERSION) _ _ _ e) [
      | inl h ↦ subst (λ (v : ℕ). IsSpelled v b x) (sym (eqb-true _ _ h.0)) (softening_kind_spelled b x h.1)
      | inr h ↦
          let is : version ≡ VERSION = omega (arith, low, high, eqb-false _ _ h.0) in
          subst (λ (v : ℕ). IsSpelled v b x) (sym is) (first_kind_spelled b x h.1)
    ]

kind_takes : (version : ℕ) (bytes : List ℕ) (x : Kind × List ℕ) → AreBytes bytes → VERSION ≤ version → version ≤ SOFTENING_VERSION → kind_at version bytes ≡ Ok x
    → Takes bytes (kind_number x.0 ∷ []) x.1 × (version ≡ version_of x.0)
kind_takes version [] x fits low high e = absurd cc
kind_takes version (b ∷ rest) x fits low high e =
    let k = bind_ok (cond (eqb version SOFTENING_VERSION) (softening_kind b) (first_kind b)) (λ kind. Ok (kind, rest)) x e in
    let is = kind_spelled version b k.0 low high k.1 in
    let taken : Takes (b ∷ rest) (kind_number k.0 ∷ []) rest = takes (b ∷ rest) (kind_number k.0 ∷ []) rest fits (ap (λ (n : ℕ). n ∷ rest) is.number) in
    subst (λ (y : Kind × List ℕ). Takes (b ∷ rest) (kind_number y.0 ∷ []) y.1 × (version ≡ version_of y.0)) (ok_is (k.0, rest) x k.2) (taken, is.version)

version_again : (k : Kind) (rest : List ℕ) → version_at (version_of k ∷ rest) ≡ Ok (version_of k, rest)
version_again kinds.Request rest = refl
version_again kinds.Release rest = refl
version_again kinds.Grant rest = refl
version_again kinds.Busy rest = refl
version_again kinds.Over rest = refl
version_again kinds.Done rest = refl
version_again kinds.Muddled rest = refl
version_again kinds.Soften rest = refl
version_again kinds.Softened rest = refl

kind_again : (k : Kind) (rest : List ℕ) → kind_at (version_of k) (kind_number k ∷ rest) ≡ Ok (k, rest)
kind_again kinds.Request rest = refl
kind_again kinds.Release rest = refl
kind_again kinds.Grant rest = refl
kind_again kinds.Busy rest = refl
kind_again kinds.Over rest = refl
kind_again kinds.Done rest = refl
kind_again kinds.Muddled rest = refl
kind_again kinds.Soften rest = refl
kind_again kinds.Softened rest = refl

-- ---- tickets

-- a ticket that was read from these bytes
record TakesTicket (c a : ℕ) (bytes : List ℕ) (t : Ticket) (rest : List ℕ) : Type 0 where
  pub taken : Takes bytes (wish t.mode t.resource) rest
  pub named : IsName t.resource
  pub client : t.client ≡ c
  pub attempt : t.attempt ≡ a

abbrev at_name : ℕ → ℕ → Mode → ℕ → List ℕ → Result (Ticket × List ℕ) FrameFault
at_name c a m size bytes = name_at faults.Short faults.NameByte size bytes >>= λ name. Ok (record { client = c; attempt = a; mode = m; resource = name.0 }, name.1)

abbrev at_length : ℕ → ℕ → Mode → List ℕ → Result (Ticket × List ℕ) FrameFault
at_length c a m bytes = length_at bytes >>= λ size. at_name c a m size.0 size.1

ticket_takes : (c a : ℕ) (bytes : List ℕ) (x : Ticket × List ℕ) → AreBytes bytes → ticket_at c a bytes ≡ Ok x → TakesTicket c a bytes x.0 x.1
unfolding ticket_at
ticket_takes c a bytes x fits e =
    let m = bind_ok (mode_at faults.Short faults.Mode bytes) (λ mode. at_length c a mode.0 mode.1) x e in
    let s = bind_ok (length_at m.0.1) (λ size. at_name c a m.0.0 size.0 size.1) x m.2 in
    let r = bind_ok (name_at faults.Short faults.NameByte s.0.0 s.0.1) (λ name. Ok (record { client = c; attempt = a; mode = m.0.0; resource = name.0 }, name.1)) x s.2 in
    let t1 = mode_takes bytes m.0 fits m.1 in
    let t2 = byte_takes 1 MAX_NAME_LEN faults.NameLength m.0.1 s.0 t1.rest_fits s.1 in
    let t3 = name_takes s.0.0 s.0.1 r.0 t2.0.rest_fits t2.1 t2.2 r.1 in
    let t23 = Takes-then m.0.1 (s.0.0 ∷ []) s.0.1 r.0.0 r.0.1 t2.0 t3.0 in
    let t123 = Takes-then bytes (mode_number m.0.0 ∷ []) m.0.1 (s.0.0 ∷ r.0.0) r.0.1 t1 t23 in
    let whole : Takes bytes (wish m.0.0 r.0.0) r.0.1 = subst (λ (k : ℕ). Takes bytes (mode_number m.0.0 ∷ k ∷ r.0.0) r.0.1) (sym t3.1) t123 in
    let made : Ticket × List ℕ = (record { client = c; attempt = a; mode = m.0.0; resource = r.0.0 }, r.0.1) in
    subst (λ (y : Ticket × List ℕ). TakesTicket c a bytes y.0 y.1) (ok_is made x r.2) (record { taken = whole; named = t3.2; client = refl; attempt = refl })

ticket_again : (t : Ticket) (rest : List ℕ) → IsName t.resource → ticket_at t.client t.attempt (wish t.mode t.resource ++ rest) ≡ Ok (t, rest)
unfolding ticket_at
ticket_again t rest named =
    let b2 = t.resource ++ rest in
    let b1 = length t.resource ∷ b2 in
    bind_again (mode_at faults.Short faults.Mode (mode_number t.mode ∷ b1)) (λ mode. at_length t.client t.attempt mode.0 mode.1) (t.mode, b1) (mode_again t.mode b1)
    ∙ bind_again (length_at b1) (λ size. at_name t.client t.attempt t.mode size.0 size.1) (length t.resource, b2) (byte_again 1 MAX_NAME_LEN faults.NameLength (length t.resource) b2 (omega (arith, named.not_empty)) named.fits)
    ∙ bind_again (name_at faults.Short faults.NameByte (length t.resource) b2) (λ name. Ok (record { client = t.client; attempt = t.attempt; mode = t.mode; resource = name.0 }, name.1)) (t.resource, rest) (name_again t.resource rest named)

-- ---- messages

-- the reading from each field on
abbrev at_attempt : Kind → ℕ → ℕ → List ℕ → Result (Message × List ℕ) FrameFault
at_attempt k n c bytes = attempt_at bytes >>= λ attempt. body_at k n c attempt.0 attempt.1

abbrev at_client : Kind → ℕ → List ℕ → Result (Message × List ℕ) FrameFault
at_client k n bytes = client_at bytes >>= λ client. at_attempt k n client.0 client.1

abbrev at_node : Kind → List ℕ → Result (Message × List ℕ) FrameFault
at_node k bytes = node_at bytes >>= λ node. at_client k node.0 node.1

abbrev at_kind : ℕ → List ℕ → Result (Message × List ℕ) FrameFault
at_kind version bytes = kind_at version bytes >>= λ kind. at_node kind.0 kind.1

-- ---- what is read is spelled so

-- a message whose frame is this head and what was taken from the bytes
record TakesBody (k : Kind) (n c a : ℕ) (bytes : List ℕ) (m : Message) (rest : List ℕ) : Type 0 where
  pub text : List ℕ
  pub taken : Takes bytes text rest
  pub spelled : head k n c a ++ text ≡ frame_of m
  pub fits : IsMessage m

abbrev Carries : Kind → (ℕ → Ticket → Message) → Type 0
Carries k message = (n : ℕ) (t : Ticket) → IsNode n → IsTicket t → IsMessage (message n t) × (with_ticket k n t ≡ frame_of (message n t))

ticket_body : (k : Kind) (message : ℕ → Ticket → Message) (carries : Carries k message) (n c a : ℕ) (bytes : List ℕ) (x : Message × List ℕ) → AreBytes bytes → IsNode n → IsClient c → IsAttempt a
    → (ticket_at c a bytes >>= λ t. Ok (message n t.0, t.1)) ≡ Ok x → TakesBody k n c a bytes x.0 x.1
ticket_body k message carries n c a bytes x fits hn hc ha e =
    let b = bind_ok (ticket_at c a bytes) (λ t. Ok (message n t.0, t.1)) x e in
    let t = ticket_takes c a bytes b.0 fits b.1 in
    let in_range : IsTicket b.0.0 = record { client = rw t.client hc; attempt = rw t.attempt ha; resource = t.named } in
    let law = carries n b.0.0 hn in_range in
    let same : head k n c a ++ wish b.0.0.mode b.0.0.resource ≡ with_ticket k n b.0.0 = rw (t.client, t.attempt) refl in
    let made : Message × List ℕ = (message n b.0.0, b.0.1) in
    subst (λ (y : Message × List ℕ). TakesBody k n c a bytes y.0 y.1) (ok_is made x b.2)
    (record { text = wish b.0.0.mode b.0.0.resource; taken = t.taken; spelled = same ∙ law.1; fits = law.0 })

plain_body : (k : Kind) (m : Message) (n c a : ℕ) (bytes : List ℕ) (x : Message × List ℕ) → AreBytes bytes → IsMessage m → head k n c a ≡ frame_of m
    → (m, bytes) ≡ x → TakesBody k n c a bytes x.0 x.1
plain_body k m n c a bytes x fits in_range spelled e =
    subst (λ (y : Message × List ℕ). TakesBody k n c a bytes y.0 y.1) e
    (record { text = []; taken = record { parts = refl; rest_fits = fits }; spelled = append-nil (head k n c a) ∙ spelled; fits = in_range })

body_takes : (k : Kind) (n c a : ℕ) (bytes : List ℕ) (x : Message × List ℕ) → AreBytes bytes → IsNode n → IsClient c → IsAttempt a
    → body_at k n c a bytes ≡ Ok x → TakesBody k n c a bytes x.0 x.1
body_takes kinds.Request n c a bytes x fits hn hc ha e = ticket_body kinds.Request Request (λ n t p q. ((p, q), refl)) n c a bytes x fits hn hc ha e
body_takes kinds.Release n c a bytes x fits hn hc ha e = plain_body kinds.Release (Release n c a) n c a bytes x fits (hn, hc, ha) refl (ok_is (Release n c a, bytes) x e)
body_takes kinds.Grant n c a bytes x fits hn hc ha e = ticket_body kinds.Grant Grant (λ n t p q. ((p, q), refl)) n c a bytes x fits hn hc ha e
body_takes kinds.Busy n c a bytes x fits hn hc ha e = ticket_body kinds.Busy Busy (λ n t p q. ((p, q), refl)) n c a bytes x fits hn hc ha e
body_takes kinds.Over n c a bytes x fits hn hc ha e = plain_body kinds.Over (Over n c a) n c a bytes x fits (hn, hc, ha) refl (ok_is (Over n c a, bytes) x e)
body_takes kinds.Done n c a bytes x fits hn hc ha e = plain_body kinds.Done (Done n c a) n c a bytes x fits (hn, hc, ha) refl (ok_is (Done n c a, bytes) x e)
body_takes kinds.Muddled n c a bytes x fits hn hc ha e = plain_body kinds.Muddled (Muddled n c a) n c a bytes x fits (hn, hc, ha) refl (ok_is (Muddled n c a, bytes) x e)
body_takes kinds.Soften n c a bytes x fits hn hc ha e = plain_body kinds.Soften (Soften n c a) n c a bytes x fits (hn, hc, ha) refl (ok_is (Soften n c a, bytes) x e)
body_takes kinds.Softened n c a bytes x fits hn hc ha e = plain_body kinds.Softened (Softened n c a) n c a bytes x fits (hn, hc, ha) refl (ok_is (Softened n c a, bytes) x e)

-- the message that was taken, in its range
record TakesMessage (bytes : List ℕ) (m : Message) (rest : List ℕ) : Type 0 where
  pub taken : Takes bytes (frame_of m) rest
  pub fits : IsMessage m

fields_take : (bytes r1 r2 r3 r4 r5 rest : List ℕ) (k : Kind) (n c a : ℕ) (m : Message)
    → Takes bytes (version_of k ∷ []) r1 → Takes r1 (kind_number k ∷ []) r2 → Takes r2 (n ∷ []) r3 → Takes r3 (to_be_bytes w32 c) r4 → Takes r4 (to_be_bytes w64 a) r5
    → TakesBody k n c a r5 m rest → TakesMessage bytes m rest
fields_take bytes r1 r2 r3 r4 r5 rest k n c a m version kind node client attempt body =
    let from_attempt = Takes-then r4 (to_be_bytes w64 a) r5 body.text rest attempt body.taken in
    let from_client = Takes-then r3 (to_be_bytes w32 c) r4 (to_be_bytes w64 a ++ body.text) rest client from_attempt in
    let from_node = Takes-then r2 (n ∷ []) r3 (to_be_bytes w32 c ++ (to_be_bytes w64 a ++ body.text)) rest node from_client in
    let from_kind = Takes-then r1 (kind_number k ∷ []) r2 (n ∷ (to_be_bytes w32 c ++ (to_be_bytes w64 a ++ body.text))) rest kind from_node in
    let whole : Takes bytes (head k n c a ++ body.text) rest = Takes-then bytes (version_of k ∷ []) r1 (kind_number k ∷ n ∷ (to_be_bytes w32 c ++ (to_be_bytes w64 a ++ body.text))) rest version from_kind in
    record { taken = subst (λ (t : List ℕ). Takes bytes t rest) body.spelled whole; fits = body.fits }

message_takes : (bytes : List ℕ) (x : Message × List ℕ) → AreBytes bytes → message_at bytes ≡ Ok x → TakesMessage bytes x.0 x.1
unfolding message_at
message_takes bytes x fits e =
    let v = bind_ok (version_at bytes) (λ version. at_kind version.0 version.1) x e in
    let k = bind_ok (kind_at v.0.0 v.0.1) (λ kind. at_node kind.0 kind.1) x v.2 in
    let n = bind_ok (node_at k.0.1) (λ node. at_client k.0.0 node.0 node.1) x k.2 in
    let c = bind_ok (client_at n.0.1) (λ client. at_attempt k.0.0 n.0.0 client.0 client.1) x n.2 in
    let a = bind_ok (attempt_at c.0.1) (λ attempt. body_at k.0.0 n.0.0 c.0.0 attempt.0 attempt.1) x c.2 in
    let tv = byte_takes VERSION SOFTENING_VERSION faults.Version bytes v.0 fits v.1 in
    let tk = kind_takes v.0.0 v.0.1 k.0 tv.0.rest_fits tv.1 tv.2 k.1 in
    let of_kind : Takes bytes (version_of k.0.0 ∷ []) v.0.1 = subst (λ (version : ℕ). Takes bytes (version ∷ []) v.0.1) tk.1 tv.0 in
    let tn = byte_takes 1 MAX_NODES faults.Node k.0.1 n.0 tk.0.rest_fits n.1 in
    let tc = number_takes w32 is32 MAX_CLIENTS faults.Client n.0.1 c.0 tn.0.rest_fits c.1 in
    let ta = number_takes w64 is64 MAX_ATTEMPT faults.Attempt c.0.1 a.0 tc.0.rest_fits a.1 in
    let tb = body_takes k.0.0 n.0.0 c.0.0 a.0.0 a.0.1 x ta.0.rest_fits (tn.1, tn.2) (tc.1, tc.2) (ta.1, ta.2) a.2 in
    fields_take bytes v.0.1 k.0.1 n.0.1 c.0.1 a.0.1 x.1 k.0.0 n.0.0 c.0.0 a.0.0 x.0 of_kind tk.0 tn.0 tc.0 ta.0 tb

reading_takes : (bytes : List ℕ) (m : Message) → AreBytes bytes → reading bytes ≡ Ok m → IsMessage m × (bytes ≡ frame_of m)
unfolding reading
reading_takes bytes m fits e =
    let b = bind_ok (message_at bytes) (λ x. cond (eqb (length x.1) 0) (Ok x.0) (Err faults.Trailing)) m e in
    let g = passed (eqb (length b.0.1) 0) faults.Trailing b.0.0 m b.2 in
    let t = message_takes bytes b.0 fits b.1 in
    let nothing : b.0.1 ≡ [] = nil_from_length b.0.1 (eqb-true _ _ g.0) in
    let whole : bytes ≡ frame_of b.0.0 = t.taken.parts ∙ ap (λ (r : List ℕ). frame_of b.0.0 ++ r) nothing ∙ append-nil (frame_of b.0.0) in
    subst (λ (y : Message). IsMessage y × (bytes ≡ frame_of y)) g.1 (t.fits, whole)

pub is_found : (bytes : List ℕ) (r : Result Message FrameFault) → AreBytes bytes → r ≡ reading bytes → IfOk r (λ m. IsMessage m × (bytes ≡ frame_of m))
is_found bytes (Ok m) fits e = reading_takes bytes m fits (sym e)
is_found bytes (Err d) fits e = tt

-- ---- what is spelled so is read

head_again : (k : Kind) (n c a : ℕ) (rest : List ℕ) → IsNode n → IsClient c → IsAttempt a → message_at (head k n c a ++ rest) ≡ body_at k n c a rest
unfolding message_at
head_again k n c a rest hn hc ha =
    let b4 = to_be_bytes w64 a ++ rest in
    let b3 = to_be_bytes w32 c ++ b4 in
    let b2 = n ∷ b3 in
    let b1 = kind_number k ∷ b2 in
    bind_again (version_at (version_of k ∷ b1)) (λ version. at_kind version.0 version.1) (version_of k, b1) (version_again k b1)
    ∙ bind_again (kind_at (version_of k) b1) (λ kind. at_node kind.0 kind.1) (k, b2) (kind_again k b2)
    ∙ bind_again (node_at b2) (λ node. at_client k node.0 node.1) (n, b3) (byte_again 1 MAX_NODES faults.Node n b3 hn.0 hn.1)
    ∙ bind_again (client_at b3) (λ client. at_attempt k n client.0 client.1) (c, b4) (law.number_again w32 1 MAX_CLIENTS faults.Short faults.Client c b4 is32 (omega arith) hc.0 hc.1)
    ∙ bind_again (attempt_at b4) (λ attempt. body_at k n c attempt.0 attempt.1) (a, rest) (law.number_again w64 1 MAX_ATTEMPT faults.Short faults.Attempt a rest is64 (omega arith) ha.0 ha.1)

ticket_frame_again : (k : Kind) (n : ℕ) (t : Ticket) (rest : List ℕ) → IsNode n → IsTicket t
    → message_at (with_ticket k n t ++ rest) ≡ body_at k n t.client t.attempt (wish t.mode t.resource ++ rest)
ticket_frame_again k n t rest hn ht =
    ap message_at (append_assoc (head k n t.client t.attempt) (wish t.mode t.resource) rest)
    ∙ head_again k n t.client t.attempt (wish t.mode t.resource ++ rest) hn ht.client ht.attempt

message_again : (m : Message) (rest : List ℕ) → IsMessage m → message_at (frame_of m ++ rest) ≡ Ok (m, rest)
message_again (Request n t) rest fits = ticket_frame_again kinds.Request n t rest fits.0 fits.1 ∙ bind_again _ (λ t. Ok (Request n t.0, t.1)) (t, rest) (ticket_again t rest fits.1.resource)
message_again (Release n c a) rest fits = head_again kinds.Release n c a rest fits.0 fits.1 fits.2
message_again (Grant n t) rest fits = ticket_frame_again kinds.Grant n t rest fits.0 fits.1 ∙ bind_again _ (λ t. Ok (Grant n t.0, t.1)) (t, rest) (ticket_again t rest fits.1.resource)
message_again (Busy n t) rest fits = ticket_frame_again kinds.Busy n t rest fits.0 fits.1 ∙ bind_again _ (λ t. Ok (Busy n t.0, t.1)) (t, rest) (ticket_again t rest fits.1.resource)
message_again (Over n c a) rest fits = head_again kinds.Over n c a rest fits.0 fits.1 fits.2
message_again (Done n c a) rest fits = head_again kinds.Done n c a rest fits.0 fits.1 fits.2
message_again (Muddled n c a) rest fits = head_again kinds.Muddled n c a rest fits.0 fits.1 fits.2
message_again (Soften n c a) rest fits = head_again kinds.Soften n c a rest fits.0 fits.1 fits.2
message_again (Softened n c a) rest fits = head_again kinds.Softened n c a rest fits.0 fits.1 fits.2

pub reading_again : (m : Message) → IsMessage m → reading (frame_of m) ≡ Ok m
unfolding reading
reading_again m fits =
    let e : message_at (frame_of m) ≡ Ok (m, []) = ap message_at (sym (append-nil (frame_of m))) ∙ message_again m [] fits in
    bind_again (message_at (frame_of m)) (λ x. cond (eqb (length x.1) 0) (Ok x.0) (Err faults.Trailing)) (m, []) e

pub one_spelling : OneSpelling
one_spelling m n xs ys hm hn e =
    let both = ok_is (m, xs) (n, ys) (sym (message_again m xs hm) ∙ ap message_at e ∙ message_again n ys hn) in
    (ap (λ (p : Message × List ℕ). p.0) both, ap (λ (p : Message × List ℕ). p.1) both)
