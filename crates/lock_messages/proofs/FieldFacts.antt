-- A field is read exactly where it is spelled in front, whatever the faults are.
use Rattle.std.proofs.Common.{◌≡◌, ℕ, ◌+◌, ◌^◌, ◌<◌, ◌≤◌, Bool, true, false, cond, eqb, ltb, List, [], ◌∷◌, ◌++◌, length, get_or, take, drop, Result, Ok, Err, refl, sym, ap, subst, ◌∙◌, arith, inl, inr, ◌⊎◌, ◌↔◌}
use Rattle.std.specs.Int.{Width, w16, w32, w64, byte_len, from_be_bytes, to_be_bytes}
use Rattle.std.specs.List.{list_all}
use Rattle.std.proofs.lemmas.Bool.{cases_lt, ltb-false, le-ltb, eqb-true}
use Rattle.std.proofs.lemmas.Bool.Decides.{nat_tests}
use Rattle.std.proofs.lemmas.List.{take_at, drop_at, take-append-drop, length-append, length-take, get_or-take, get_or_past}
use Rattle.std.proofs.lemmas.Nat.{be_bytes_2, be_bytes_4, be_bytes_8, from_be_bytes-to_be_bytes_2, from_be_bytes-to_be_bytes_4, from_be_bytes-to_be_bytes_8}
use Rattle.lock_messages.specs.declared.names.TheConstants.{MAX_NAME_LEN}
use Rattle.lock_messages.specs.declared.tickets.Mode.{Mode}
use Rattle.lock_messages.specs.declared.tickets.Mode.TheVariants.{Read, Write}
use Rattle.lock_messages.specs.Names.{IsName, is_name_byte}
use Rattle.lock_messages.specs.Fields.{is_between, byte_at, number_at, mode_number, mode_at, name_at, AreBytes, IsFieldWidth, FieldsAreExact}
use Rattle.lock_messages.specs.FieldSteps.{passed, not_stopped, went_on, chosen, done, ok_is}

-- ---- bytes

least_le : (least most n : ℕ) → is_between least most n ≡ true → least ≤ n
least_le least most n h = grind (arith, nat_tests)

le_most : (least most n : ℕ) → is_between least most n ≡ true → n ≤ most
le_most least most n h = grind (arith, nat_tests)

between : (least most n : ℕ) → least ≤ n → n ≤ most → is_between least most n ≡ true
between least most n low high = grind (arith, nat_tests)

module _ {F : Type 0} where
  byte_spelled : (least most : ℕ) (missing fault : F) (bytes : List ℕ) (b : ℕ) (rest : List ℕ) → byte_at least most missing fault bytes ≡ Ok (b, rest) → (bytes ≡ b ∷ rest) × (least ≤ b) × (b ≤ most)
  byte_spelled least most missing fault [] b rest e = absurd cc
  byte_spelled least most missing fault (x ∷ xs) b rest e =
      let g = passed (is_between least most x) fault (x, xs) (b, rest) e in
      subst (λ (y : ℕ × List ℕ). (x ∷ xs ≡ y.0 ∷ y.1) × (least ≤ y.0) × (y.0 ≤ most)) g.1 (refl, least_le least most x g.0, le_most least most x g.0)

  byte_read : (least most : ℕ) (missing fault : F) (bytes : List ℕ) (b : ℕ) (rest : List ℕ) → (bytes ≡ b ∷ rest) × (least ≤ b) × (b ≤ most) → byte_at least most missing fault bytes ≡ Ok (b, rest)
  byte_read least most missing fault bytes b rest h =
      ap (byte_at least most missing fault) h.0 ∙ ap (λ (t : Bool). cond t (Ok (b, rest)) (Err fault)) (between least most b h.1 h.2)

-- ---- numbers of several bytes

record IsWide (w : Width) : Type 0 where
  pub len : (n : ℕ) → length (to_be_bytes w n) ≡ byte_len w
  pub back : (bytes : List ℕ) → length bytes ≡ byte_len w → AreBytes bytes → to_be_bytes w (from_be_bytes w bytes) ≡ bytes
  pub again : (n : ℕ) → n < 256 ^ byte_len w → from_be_bytes w (to_be_bytes w n) ≡ n

wide16 : IsWide w16
wide16 = record {
  len = λ n. refl;
  back = λ bytes len fits. be_bytes_2 bytes _ len fits refl;
  again = λ n lt. from_be_bytes-to_be_bytes_2 n lt;
}

wide32 : IsWide w32
wide32 = record {
  len = λ n. refl;
  back = λ bytes len fits. be_bytes_4 bytes _ len fits refl;
  again = λ n lt. from_be_bytes-to_be_bytes_4 n lt;
}

wide64 : IsWide w64
wide64 = record {
  len = λ n. refl;
  back = λ bytes len fits. be_bytes_8 bytes _ len fits refl;
  again = λ n lt. from_be_bytes-to_be_bytes_8 n lt;
}

wide : (w : Width) → IsFieldWidth w → IsWide w
wide w (inl e) = subst IsWide (sym e) wide16
wide w (inr (inl e)) = subst IsWide (sym e) wide32
wide w (inr (inr e)) = subst IsWide (sym e) wide64

AreBytes-take : (n : ℕ) (bytes : List ℕ) → AreBytes bytes → AreBytes (take n bytes)
AreBytes-take n bytes h i =
    elim (cases_lt i n) [
      | inl lt ↦ rw (get_or-take n bytes i 0 lt) (h i)
      | inr le ↦ rw (get_or_past (take n bytes) i 0 (omega (arith, length-take n bytes))) (omega arith)
    ]

module _ {F : Type 0} (w : Width) (least most : ℕ) (missing fault : F) where
  number_spelled : (bytes : List ℕ) (n : ℕ) (rest : List ℕ) → IsWide w → AreBytes bytes → number_at w least most missing fault bytes ≡ Ok (n, rest) → (bytes ≡ to_be_bytes w n ++ rest) × (least ≤ n) × (n ≤ most)
  number_spelled bytes n rest of_w fits e =
      let m = from_be_bytes w (take (byte_len w) bytes) in
      let behind = drop (byte_len w) bytes in
      let there = not_stopped (ltb (length bytes) (byte_len w)) missing (cond (is_between least most m) (Ok (m, behind)) (Err fault)) (n, rest) e in
      let g = passed (is_between least most m) fault (m, behind) (n, rest) there.1 in
      let long : byte_len w ≤ length bytes = ltb-false _ _ there.0 in
      let front : to_be_bytes w m ≡ take (byte_len w) bytes = of_w.back (take (byte_len w) bytes) (omega (arith, length-take (byte_len w) bytes)) (AreBytes-take (byte_len w) bytes fits) in
      let parts : bytes ≡ to_be_bytes w m ++ behind = sym (take-append-drop (byte_len w) bytes) ∙ ap (λ (t : List ℕ). t ++ behind) (sym front) in
      subst (λ (y : ℕ × List ℕ). (bytes ≡ to_be_bytes w y.0 ++ y.1) × (least ≤ y.0) × (y.0 ≤ most)) g.1 (parts, least_le least most m g.0, le_most least most m g.0)

  number_read : (n : ℕ) (rest : List ℕ) → IsWide w → n < 256 ^ byte_len w → least ≤ n → n ≤ most → number_at w least most missing fault (to_be_bytes w n ++ rest) ≡ Ok (n, rest)
  number_read n rest of_w lt low high =
      let len = of_w.len n in
      let long : ltb (length (to_be_bytes w n ++ rest)) (byte_len w) ≡ false = le-ltb _ _ (omega (arith, length-append (to_be_bytes w n) rest)) in
      rw (long, take_at (to_be_bytes w n) rest (byte_len w) len, drop_at (to_be_bytes w n) rest (byte_len w) len, of_w.again n lt, between least most n low high) refl

-- ---- modes

module _ {F : Type 0} (missing fault : F) where
  one_mode : (b : ℕ) (xs : List ℕ) (k m : Mode) (rest : List ℕ) → b ≡ mode_number k → done {A = Mode × List ℕ} F (k, xs) ≡ Ok (m, rest) → b ∷ xs ≡ mode_number m ∷ rest
  one_mode b xs k m rest h e = subst (λ (y : Mode × List ℕ). b ∷ xs ≡ mode_number y.0 ∷ y.1) (ok_is (k, xs) (m, rest) e) (ap (λ (n : ℕ). n ∷ xs) h)

  mode_spelled : (bytes : List ℕ) (m : Mode) (rest : List ℕ) → mode_at missing fault bytes ≡ Ok (m, rest) → bytes ≡ mode_number m ∷ rest
  mode_spelled [] m rest e = absurd cc
  mode_spelled (b ∷ xs) m rest e =
      elim (chosen (eqb b 0) _ _ _ e) [
        | inl h0 ↦ one_mode b xs Read m rest (eqb-true _ _ h0.0) h0.1
        | inr n0 ↦ elim (chosen (eqb b 1) _ _ _ n0.1) [
          | inl h1 ↦ one_mode b xs Write m rest (eqb-true _ _ h1.0) h1.1
          | inr n1 ↦ let bad : done {A = Mode × List ℕ} F (m, rest) ≡ Err fault = sym n1.1 in absurd cc
        ]
      ]

  mode_again : (m : Mode) (rest : List ℕ) → mode_at missing fault (mode_number m ∷ rest) ≡ Ok (m, rest)
  mode_again Read rest = refl
  mode_again Write rest = refl

-- ---- names

module _ {F : Type 0} (missing fault : F) (size : ℕ) (bytes name rest : List ℕ) where
  name_spelled : 1 ≤ size → size ≤ MAX_NAME_LEN → name_at missing fault size bytes ≡ Ok (name, rest) → (bytes ≡ name ++ rest) × (length name ≡ size) × IsName name
  name_spelled low high e =
      let lawful = went_on (list_all is_name_byte (take size bytes)) fault (cond (ltb (length bytes) size) (Err missing) (Ok (take size bytes, drop size bytes))) (name, rest) e in
      let there = not_stopped (ltb (length bytes) size) missing (Ok (take size bytes, drop size bytes)) (name, rest) lawful.1 in
      let long : size ≤ length bytes = ltb-false _ _ there.0 in
      let len : length (take size bytes) ≡ size = omega (arith, length-take size bytes) in
      let named : IsName (take size bytes) = record { not_empty = omega (arith, len); fits = omega (arith, len); each = lawful.0 } in
      subst (λ (y : List ℕ × List ℕ). (bytes ≡ y.0 ++ y.1) × (length y.0 ≡ size) × IsName y.0) (ok_is (take size bytes, drop size bytes) (name, rest) there.1)
      (sym (take-append-drop size bytes), len, named)

  name_read : (bytes ≡ name ++ rest) × (length name ≡ size) × IsName name → name_at missing fault size bytes ≡ Ok (name, rest)
  name_read h =
      let long : ltb (length (name ++ rest)) size ≡ false = le-ltb _ _ (omega (arith, length-append name rest, h.1)) in
      ap (name_at missing fault size) h.0 ∙ rw (take_at name rest size h.1, drop_at name rest size h.1, long, h.2.each) refl

pub fields_exact : (F : Type 0) → FieldsAreExact F
fields_exact F = record {
  byte = λ least most missing fault bytes b rest. (byte_spelled least most missing fault bytes b rest, byte_read least most missing fault bytes b rest);
  number = λ w least most missing fault bytes n rest is fits e. number_spelled w least most missing fault bytes n rest (wide w is) fits e;
  number_again = λ w least most missing fault n rest is lt low high. number_read w least most missing fault n rest (wide w is) lt low high;
  mode = λ missing fault bytes m rest. (mode_spelled missing fault bytes m rest, λ h. ap (mode_at missing fault) h ∙ mode_again missing fault m rest);
  name = λ missing fault size bytes name rest low high. (name_spelled missing fault size bytes name rest low high, name_read missing fault size bytes name rest);
}
