-- What is read is spelled so, and what is spelled so is read: client records.
use Rattle.std.proofs.Common.{◌≡◌, ℕ, ◌≤◌, cond, eqb, List, [], ◌∷◌, ◌++◌, length, Result, Ok, Err, refl, sym, ap, subst, ◌∙◌, arith}
use Rattle.std.specs.Prelude.{IfOk}
use Rattle.std.specs.Int.{w64, to_be_bytes}
use Rattle.std.proofs.lemmas.Bool.{eqb-true}
use Rattle.std.proofs.lemmas.List.{append-nil, nil_from_length}
use Rattle.lock_messages.specs.declared.ids.TheConstants.{MAX_ATTEMPT}
use Rattle.stable_record.specs.declared.faults.RecordFault.{RecordFault}
use Rattle.stable_record.specs.declared.faults.RecordFault.TheVariants as faults
use Rattle.stable_record.specs.declared.formats.TheConstants.{VERSION}
use Rattle.stable_record.specs.Records.{client_record_of}
use Rattle.lock_messages.specs.Fields.{◌>>=◌, byte_at, number_at, AreBytes, FieldsAreExact}
use Rattle.stable_record.specs.Reading.{client_reading}
use Rattle.stable_record.specs.Laws.{OneClientSpelling}
use Rattle.lock_messages.specs.FieldSteps.{bind_ok, bind_again, passed, ok_is, Takes, Takes-then}
use Rattle.stable_record.proofs.FieldFacts.{is64, byte_takes, number_takes}

abbrev client_at : List ℕ → Result (ℕ × List ℕ) RecordFault
client_at bytes = byte_at VERSION VERSION faults.ClientShort faults.ClientVersion bytes >>= λ v. number_at w64 0 MAX_ATTEMPT faults.ClientShort faults.ClientAttempt v.1

abbrev ended : ℕ × List ℕ → Result ℕ RecordFault
ended x = cond (eqb (length x.1) 0) (Ok x.0) (Err faults.ClientTrailing)

reading_is : (bytes : List ℕ) → client_reading bytes ≡ (client_at bytes >>= ended)
unfolding client_reading
reading_is bytes = go (byte_at VERSION VERSION faults.ClientShort faults.ClientVersion bytes)
  where
    go : (v : Result (ℕ × List ℕ) RecordFault) → (v >>= λ v. number_at w64 0 MAX_ATTEMPT faults.ClientShort faults.ClientAttempt v.1 >>= ended) ≡ ((v >>= λ v. number_at w64 0 MAX_ATTEMPT faults.ClientShort faults.ClientAttempt v.1) >>= ended)
    go (Ok v) = refl
    go (Err d) = refl

module _ (law : FieldsAreExact RecordFault) where
  client_takes : (bytes : List ℕ) (a : ℕ) → AreBytes bytes → client_reading bytes ≡ Ok a → (a ≤ MAX_ATTEMPT) × (bytes ≡ client_record_of a)
  unfolding client_reading
  client_takes bytes a fits e =
      let v = bind_ok (byte_at VERSION VERSION faults.ClientShort faults.ClientVersion bytes) (λ v. number_at w64 0 MAX_ATTEMPT faults.ClientShort faults.ClientAttempt v.1 >>= ended) a e in
      let n = bind_ok (number_at w64 0 MAX_ATTEMPT faults.ClientShort faults.ClientAttempt v.0.1) ended a v.2 in
      let g = passed (eqb (length n.0.1) 0) faults.ClientTrailing n.0.0 a n.2 in
      let tv = byte_takes law VERSION VERSION faults.ClientShort faults.ClientVersion bytes v.0 fits v.1 in
      let tn = number_takes law w64 is64 0 MAX_ATTEMPT faults.ClientShort faults.ClientAttempt v.0.1 n.0 tv.0.rest_fits n.1 in
      let is : v.0.0 ≡ VERSION = omega (arith, tv.1, tv.2) in
      let first : Takes bytes (VERSION ∷ []) v.0.1 = subst (λ (b : ℕ). Takes bytes (b ∷ []) v.0.1) is tv.0 in
      let both = Takes-then bytes (VERSION ∷ []) v.0.1 (to_be_bytes w64 n.0.0) n.0.1 first tn.0 in
      let nothing : n.0.1 ≡ [] = nil_from_length n.0.1 (eqb-true _ _ g.0) in
      let whole : bytes ≡ client_record_of n.0.0 = both.parts ∙ ap (λ (q : List ℕ). client_record_of n.0.0 ++ q) nothing ∙ append-nil (client_record_of n.0.0) in
      subst (λ (y : ℕ). (y ≤ MAX_ATTEMPT) × (bytes ≡ client_record_of y)) g.1 (tn.2, whole)

  client_again : (a : ℕ) (rest : List ℕ) → a ≤ MAX_ATTEMPT → client_at (client_record_of a ++ rest) ≡ Ok (a, rest)
  client_again a rest high =
      bind_again (byte_at VERSION VERSION faults.ClientShort faults.ClientVersion (VERSION ∷ (to_be_bytes w64 a ++ rest))) (λ v. number_at w64 0 MAX_ATTEMPT faults.ClientShort faults.ClientAttempt v.1) (VERSION, to_be_bytes w64 a ++ rest) refl
      ∙ law.number_again w64 0 MAX_ATTEMPT faults.ClientShort faults.ClientAttempt a rest is64 (omega arith) (omega arith) high

  pub client_found : (bytes : List ℕ) (r : Result ℕ RecordFault) → AreBytes bytes → r ≡ client_reading bytes → IfOk r (λ a. (a ≤ MAX_ATTEMPT) × (bytes ≡ client_record_of a))
  client_found bytes (Ok a) fits e = client_takes bytes a fits (sym e)
  client_found bytes (Err d) fits e = tt

  pub client_reading_again : (a : ℕ) → a ≤ MAX_ATTEMPT → client_reading (client_record_of a) ≡ Ok a
  client_reading_again a high =
      reading_is (client_record_of a)
      ∙ ap (λ (bytes : List ℕ). client_at bytes >>= ended) (sym (append-nil (client_record_of a)))
      ∙ bind_again (client_at (client_record_of a ++ [])) ended (a, []) (client_again a [] high)

  pub one_client_spelling : OneClientSpelling
  one_client_spelling a b xs ys ha hb e =
      let both = ok_is (a, xs) (b, ys) (sym (client_again a xs ha) ∙ ap client_at e ∙ client_again b ys hb) in
      (ap (λ (p : ℕ × List ℕ). p.0) both, ap (λ (p : ℕ × List ℕ). p.1) both)
