-- What is read is spelled so, and what is spelled so is read: node records.
use Rattle.std.proofs.Common.{◌≡◌, ◌⊎◌, inl, inr, ℕ, zero, suc, ◌+◌, ◌-◌, ◌<◌, ◌≤◌, ◌==◌, Bool, true, false, cond, eqb, List, [], ◌∷◌, ◌++◌, length, take, slice_get, Some, Result, Ok, Err, refl, sym, ap, subst, ◌∙◌, append_assoc, arith}
use Rattle.std.specs.Prelude.{IfOk, IsOk}
use Rattle.std.specs.Int.{w16, to_be_bytes}
use Rattle.std.specs.List.{flat_map, AllByRecursion}
use Rattle.std.proofs.lemmas.Bool.{eqb-true, or_parts, or_from}
use Rattle.std.proofs.lemmas.List.{append-nil, nil_from_length, take_more}
use Rattle.std.proofs.lemmas.Option.{get_or_from_slice_get}
use Rattle.std.proofs.lemmas.Grind.{flat_map-append}
use Rattle.std.proofs.lemmas.List.Concat.{flat_map-cons}
use Rattle.lock_messages.specs.declared.ids.TheConstants.{MAX_CLIENTS}
use Rattle.lock_model.specs.declared.entries.Entry.{Entry}
use Rattle.lock_model.specs.declared.problems.Problem.{Problem}
use Rattle.lock_model.specs.ExactStations.{is_of, knows, EachOnce, IsAboveFloor, IsReaderIfSoftened, IsWellFormed}
use Rattle.stable_record.specs.declared.faults.RecordFault.{RecordFault}
use Rattle.stable_record.specs.declared.faults.RecordFault.TheVariants as faults
use Rattle.stable_record.specs.declared.formats.TheConstants.{VERSION}
use Rattle.lock_model.specs.Laws.{LawfulIsSeen, CausedIsSeen}
use Rattle.stable_record.specs.declared.node_records.NodeRecord.{NodeRecord}
use Rattle.lock_model.specs.Judgement.{is_lawful, is_caused}
use Rattle.stable_record.specs.Records.{problem_byte, entry_bytes, head_bytes, node_record_of, IsEntry, IsNodeRecord}
use Rattle.lock_messages.specs.Fields.{◌>>=◌, AreBytes, FieldsAreExact}
use Rattle.stable_record.specs.Reading.{IsOrRefused, IsGoodSoFar, AreGood, version_at, problem_at, count_at, entry_at, entries_at, head_at, record_at, judged, reading}
use Rattle.stable_record.specs.Laws.{OneSpelling}
use Rattle.stable_record.proofs.ListFacts.{once-push, same-turned}
use Rattle.lock_messages.specs.FieldSteps.{bind_ok, bind_again, went_on, ok_is, Takes, Takes-then}
use Rattle.stable_record.proofs.FieldFacts.{is16, byte_takes, number_takes, policy_takes, problem_again, entry_takes, entry_again}

abbrev pub read : {A : Type 0} → A → Result A RecordFault
read x = Ok x

-- ---- each client once

apart-from : (c : ℕ) (xs : List Entry) (e : Entry) (ys : List Entry) → knows c (xs ++ e ∷ ys) ≡ false → (e.client == c) ≡ false
apart-from c [] e ys h = (or_parts (is_of c e) (knows c ys) h).0
apart-from c (x ∷ xs) e ys h = apart-from c xs e ys (or_parts (is_of c x) (knows c (xs ++ e ∷ ys)) h).1

once-new : (xs : List Entry) (e : Entry) (ys : List Entry) → EachOnce (xs ++ e ∷ ys) → knows e.client xs ≡ false
once-new [] e ys o = refl
once-new (x ∷ xs) e ys o = or_from (is_of e.client x) (knows e.client xs) (same-turned x.client e.client ∙ apart-from x.client xs e ys o.0) (once-new xs e ys o.1)

-- ---- what so many entries and a whole record take

record TakesEntries (n : ℕ) (seen : List Entry) (bytes : List ℕ) (all : List Entry) (rest : List ℕ) : Type 0 where
  pub more : List Entry
  pub all_is : all ≡ seen ++ more
  pub taken : Takes bytes (flat_map entry_bytes more) rest
  pub length_is : length more ≡ n
  pub fits : AllByRecursion IsEntry more
  pub above : AllByRecursion IsAboveFloor more
  pub softened : AllByRecursion IsReaderIfSoftened more
  pub once : EachOnce seen → EachOnce all

record TakesRecord (bytes : List ℕ) (r : NodeRecord) (rest : List ℕ) : Type 0 where
  pub taken : Takes bytes (node_record_of r) rest
  pub few : length r.entries ≤ MAX_CLIENTS
  pub entries : AllByRecursion IsEntry r.entries
  pub well_formed : IsWellFormed r.entries

-- ---- steps of the head

abbrev at_count : Problem → List ℕ → Result ((Problem × ℕ) × List ℕ) RecordFault
at_count p bytes = count_at bytes >>= λ count. Ok ((p, count.0), count.1)

abbrev at_problem : List ℕ → Result ((Problem × ℕ) × List ℕ) RecordFault
at_problem bytes = problem_at bytes >>= λ problem. at_count problem.0 problem.1

-- ---- by the law of fields

module _ (law : FieldsAreExact RecordFault) where
  entries_take : (n : ℕ) (seen : List Entry) (bytes : List ℕ) (x : List Entry × List ℕ) → AreBytes bytes → entries_at n seen bytes ≡ Ok x → TakesEntries n seen bytes x.0 x.1
  unfolding entries_at
  entries_take zero seen bytes x fits e =
      subst (λ (y : List Entry × List ℕ). TakesEntries 0 seen bytes y.0 y.1) (ok_is (seen, bytes) x e)
      (record { more = []; all_is = sym (append-nil seen); taken = record { parts = refl; rest_fits = fits }; length_is = refl; fits = tt; above = tt; softened = tt; once = λ o. o })
  entries_take (suc n) seen bytes x fits e =
      let a = bind_ok (entry_at seen bytes) (λ first. entries_at n (seen ++ first.0 ∷ []) first.1) x e in
      let first = entry_takes law seen bytes a.0 fits a.1 in
      let others = entries_take n (seen ++ a.0.0 ∷ []) a.0.1 x first.taken.rest_fits a.2 in
      let both = Takes-then bytes (entry_bytes a.0.0) a.0.1 (flat_map entry_bytes others.more) x.1 first.taken others.taken in
      record {
        more = a.0.0 ∷ others.more;
        all_is = others.all_is ∙ append_assoc seen (a.0.0 ∷ []) others.more;
        taken = subst (λ (t : List ℕ). Takes bytes t x.1) (sym (flat_map-cons entry_bytes a.0.0 others.more)) both;
        length_is = ap suc others.length_is;
        fits = (first.fits, others.fits);
        above = (first.above, others.above);
        softened = (first.softened, others.softened);
        once = λ o. others.once (once-push seen a.0.0 o first.new);
      }

  entries_again : (es seen : List Entry) (rest : List ℕ) → AllByRecursion IsEntry es → AllByRecursion IsAboveFloor es → AllByRecursion IsReaderIfSoftened es → EachOnce (seen ++ es)
      → entries_at (length es) seen (flat_map entry_bytes es ++ rest) ≡ Ok (seen ++ es, rest)
  unfolding entries_at
  entries_again [] seen rest fits above reads o = ap (λ (l : List Entry). read (l, rest)) (sym (append-nil seen))
  entries_again (e ∷ es) seen rest fits above reads o =
      let regrouped : flat_map entry_bytes (e ∷ es) ++ rest ≡ entry_bytes e ++ (flat_map entry_bytes es ++ rest) = ap (λ (t : List ℕ). t ++ rest) (flat_map-cons entry_bytes e es) ∙ append_assoc (entry_bytes e) (flat_map entry_bytes es) rest in
      let shape : (seen ++ e ∷ []) ++ es ≡ seen ++ e ∷ es = append_assoc seen (e ∷ []) es in
      ap (entries_at (suc (length es)) seen) regrouped
      ∙ bind_again (entry_at seen (entry_bytes e ++ (flat_map entry_bytes es ++ rest))) (λ first. entries_at (length es) (seen ++ first.0 ∷ []) first.1) (e, flat_map entry_bytes es ++ rest)
      (entry_again law seen e (flat_map entry_bytes es ++ rest) fits.0 above.0 reads.0 (once-new seen e es o))
      ∙ entries_again es (seen ++ e ∷ []) rest fits.1 above.1 reads.1 (subst EachOnce (sym shape) o)
      ∙ ap (λ (l : List Entry). read (l, rest)) shape

  head_takes : (bytes : List ℕ) (x : (Problem × ℕ) × List ℕ) → AreBytes bytes → head_at bytes ≡ Ok x → Takes bytes (head_bytes x.0.0 x.0.1) x.1 × (x.0.1 ≤ MAX_CLIENTS)
  unfolding head_at
  head_takes bytes x fits e =
      let v = bind_ok (version_at bytes) (λ version. at_problem version.1) x e in
      let p = bind_ok (problem_at v.0.1) (λ problem. at_count problem.0 problem.1) x v.2 in
      let n = bind_ok (count_at p.0.1) (λ count. Ok ((p.0.0, count.0), count.1)) x p.2 in
      let tv = byte_takes law VERSION VERSION faults.Short faults.Version bytes v.0 fits v.1 in
      let tp = policy_takes v.0.1 p.0 tv.0.rest_fits p.1 in
      let tn = number_takes law w16 is16 0 MAX_CLIENTS faults.Short faults.EntryField p.0.1 n.0 tp.rest_fits n.1 in
      let is : v.0.0 ≡ VERSION = omega (arith, tv.1, tv.2) in
      let first : Takes bytes (VERSION ∷ []) v.0.1 = subst (λ (b : ℕ). Takes bytes (b ∷ []) v.0.1) is tv.0 in
      let from_policy = Takes-then v.0.1 (problem_byte p.0.0 ∷ []) p.0.1 (to_be_bytes w16 n.0.0) n.0.1 tp tn.0 in
      let whole = Takes-then bytes (VERSION ∷ []) v.0.1 (problem_byte p.0.0 ∷ to_be_bytes w16 n.0.0) n.0.1 first from_policy in
      let made : (Problem × ℕ) × List ℕ = ((p.0.0, n.0.0), n.0.1) in
      subst (λ (y : (Problem × ℕ) × List ℕ). Takes bytes (head_bytes y.0.0 y.0.1) y.1 × (y.0.1 ≤ MAX_CLIENTS)) (ok_is made x n.2) (whole, tn.2)

  head_again : (p : Problem) (n : ℕ) (rest : List ℕ) → n ≤ MAX_CLIENTS → head_at (head_bytes p n ++ rest) ≡ Ok ((p, n), rest)
  unfolding head_at
  head_again p n rest few =
      let b2 = to_be_bytes w16 n ++ rest in
      let b1 = problem_byte p ∷ b2 in
      bind_again (version_at (VERSION ∷ b1)) (λ version. at_problem version.1) (VERSION, b1) refl
      ∙ bind_again (problem_at b1) (λ problem. at_count problem.0 problem.1) (p, b2) (problem_again p b2)
      ∙ bind_again (count_at b2) (λ count. Ok ((p, count.0), count.1)) (n, rest) (law.number_again w16 0 MAX_CLIENTS faults.Short faults.EntryField n rest is16 (omega arith) (omega arith) few)

  record_takes : (bytes : List ℕ) (x : NodeRecord × List ℕ) → AreBytes bytes → record_at bytes ≡ Ok x → TakesRecord bytes x.0 x.1
  unfolding record_at
  record_takes bytes x fits e =
      let h = bind_ok (head_at bytes) (λ head. entries_at head.0.1 [] head.1 >>= λ entries. Ok (record { problem = head.0.0; entries = entries.0 }, entries.1)) x e in
      let b = bind_ok (entries_at h.0.0.1 [] h.0.1) (λ entries. Ok (record { problem = h.0.0.0; entries = entries.0 }, entries.1)) x h.2 in
      let th = head_takes bytes h.0 fits h.1 in
      let tb = entries_take h.0.0.1 [] h.0.1 b.0 th.0.rest_fits b.1 in
      let all : tb.more ≡ b.0.0 = sym tb.all_is in
      let text : Takes h.0.1 (flat_map entry_bytes b.0.0) b.0.1 = subst (λ (es : List Entry). Takes h.0.1 (flat_map entry_bytes es) b.0.1) all tb.taken in
      let len : length b.0.0 ≡ h.0.0.1 = ap length (sym all) ∙ tb.length_is in
      let both = Takes-then bytes (head_bytes h.0.0.0 h.0.0.1) h.0.1 (flat_map entry_bytes b.0.0) b.0.1 th.0 text in
      let whole : Takes bytes (head_bytes h.0.0.0 (length b.0.0) ++ flat_map entry_bytes b.0.0) b.0.1 = subst (λ (n : ℕ). Takes bytes (head_bytes h.0.0.0 n ++ flat_map entry_bytes b.0.0) b.0.1) (sym len) both in
      let made : NodeRecord × List ℕ = (record { problem = h.0.0.0; entries = b.0.0 }, b.0.1) in
      subst (λ (y : NodeRecord × List ℕ). TakesRecord bytes y.0 y.1) (ok_is made x b.2)
      (record {
        taken = whole;
        few = omega (arith, th.1, len);
        entries = subst (AllByRecursion IsEntry) all tb.fits;
        well_formed = record { once = tb.once tt; attempts = subst (AllByRecursion IsAboveFloor) all tb.above; softened = subst (AllByRecursion IsReaderIfSoftened) all tb.softened };
      })

  record_again : (r : NodeRecord) (rest : List ℕ) → IsNodeRecord r → record_at (node_record_of r ++ rest) ≡ Ok (r, rest)
  unfolding record_at
  record_again r rest fits =
      let body = flat_map entry_bytes r.entries ++ rest in
      ap record_at (append_assoc (head_bytes r.problem (length r.entries)) (flat_map entry_bytes r.entries) rest)
      ∙ bind_again (head_at (head_bytes r.problem (length r.entries) ++ body)) (λ head. entries_at head.0.1 [] head.1 >>= λ entries. Ok (record { problem = head.0.0; entries = entries.0 }, entries.1)) ((r.problem, length r.entries), body)
      (head_again r.problem (length r.entries) body fits.few)
      ∙ bind_again (entries_at (length r.entries) [] body) (λ entries. Ok (record { problem = r.problem; entries = entries.0 }, entries.1)) (r.entries, rest)
      (entries_again r.entries [] rest fits.entries fits.well_formed.attempts fits.well_formed.softened fits.well_formed.once)

  reading_takes : LawfulIsSeen → CausedIsSeen → (bytes : List ℕ) (r : NodeRecord) → AreBytes bytes → reading bytes ≡ Ok r → IsNodeRecord r × (bytes ≡ node_record_of r)
  unfolding reading
  reading_takes lawful_seen caused_seen bytes r fits e =
      let b = bind_ok (record_at bytes) judged r e in
      let x = b.0 in
      let g1 = went_on (eqb (length x.1) 0) faults.Trailing (cond (is_lawful x.0.entries) (cond (is_caused x.0.problem x.0.entries) (Ok x.0) (Err faults.NoCause)) (Err faults.WriterNotAlone)) r b.2 in
      let g2 = went_on (is_lawful x.0.entries) faults.WriterNotAlone (cond (is_caused x.0.problem x.0.entries) (Ok x.0) (Err faults.NoCause)) r g1.1 in
      let g3 = went_on (is_caused x.0.problem x.0.entries) faults.NoCause (Ok x.0) r g2.1 in
      let t = record_takes bytes x fits b.1 in
      let nothing : x.1 ≡ [] = nil_from_length x.1 (eqb-true _ _ g1.0) in
      let whole : bytes ≡ node_record_of x.0 = t.taken.parts ∙ ap (λ (q : List ℕ). node_record_of x.0 ++ q) nothing ∙ append-nil (node_record_of x.0) in
      subst (λ (y : NodeRecord). IsNodeRecord y × (bytes ≡ node_record_of y)) (ok_is x.0 r g3.1) (
        record {
          few = t.few;
          entries = t.entries;
          well_formed = t.well_formed;
          lawful = (lawful_seen x.0.problem x.0.entries t.well_formed.once).0 g2.0;
          caused = (caused_seen x.0.problem x.0.entries t.well_formed.once).0 g3.0;
        },
        whole,
      )

  reading_again : LawfulIsSeen → CausedIsSeen → (r : NodeRecord) → IsNodeRecord r → reading (node_record_of r) ≡ Ok r
  unfolding reading
  reading_again lawful_seen caused_seen r fits =
      let e : record_at (node_record_of r) ≡ Ok (r, []) = ap record_at (sym (append-nil (node_record_of r))) ∙ record_again r [] fits in
      let lawful : is_lawful r.entries ≡ true = (lawful_seen r.problem r.entries fits.well_formed.once).1 fits.lawful in
      let caused : is_caused r.problem r.entries ≡ true = (caused_seen r.problem r.entries fits.well_formed.once).1 fits.caused in
      bind_again (record_at (node_record_of r)) judged (r, []) e
      ∙ ap (λ (b : Bool). cond b (cond (is_caused r.problem r.entries) (read r) (Err faults.NoCause)) (Err faults.WriterNotAlone)) lawful
      ∙ ap (λ (b : Bool). cond b (read r) (Err faults.NoCause)) caused

  pub is_found : LawfulIsSeen → CausedIsSeen → (good : Type 0) (bytes : List ℕ) (r : Result NodeRecord RecordFault) → AreBytes bytes → IsOrRefused good r (reading bytes) → IfOk r (λ n. IsNodeRecord n × (bytes ≡ node_record_of n))
  is_found lawful_seen caused_seen good bytes (Ok n) fits (inl h) = absurd (let z : read n ≡ Err faults.NoMemory = h.0 in cc)
  is_found lawful_seen caused_seen good bytes (Ok n) fits (inr h) = reading_takes lawful_seen caused_seen bytes n fits (sym h)
  is_found lawful_seen caused_seen good bytes (Err d) fits h = tt

  pub is_read : LawfulIsSeen → CausedIsSeen → (good : Type 0) (bytes : List ℕ) (r : Result NodeRecord RecordFault) → IsOrRefused good r (reading bytes) → (n : NodeRecord) → IsNodeRecord n → bytes ≡ node_record_of n → (r ≡ Err faults.NoMemory) ⊎ (r ≡ Ok n)
  is_read lawful_seen caused_seen good bytes r (inl h) n fits e = inl h.0
  is_read lawful_seen caused_seen good bytes r (inr h) n fits e = inr (h ∙ ap reading e ∙ reading_again lawful_seen caused_seen n fits)

  pub one_spelling : OneSpelling
  one_spelling r s xs ys hr hs e =
      let both = ok_is (r, xs) (s, ys) (sym (record_again r xs hr) ∙ ap record_at e ∙ record_again s ys hs) in
      (ap (λ (p : NodeRecord × List ℕ). p.0) both, ap (λ (p : NodeRecord × List ℕ). p.1) both)

-- ---- reading entries one after the other, as a loop does

entries-more : (i n k : ℕ) (seen : List Entry) (bytes : List ℕ) → k ≡ i + n → entries_at k seen bytes ≡ (entries_at i seen bytes >>= λ x. entries_at n x.0 x.1)
unfolding entries_at
entries-more zero n k seen bytes e = let same : k ≡ n = omega arith in ap (λ (m : ℕ). entries_at m seen bytes) same
entries-more (suc i) n k seen bytes e =
    let next : k ≡ suc (i + n) = omega arith in
    ap (λ (m : ℕ). entries_at m seen bytes) next ∙ go (λ (s : List Entry) (t : List ℕ). entries-more i n (i + n) s t refl) (entry_at seen bytes)
  where
    go : ((s : List Entry) (t : List ℕ) → entries_at (i + n) s t ≡ (entries_at i s t >>= λ x. entries_at n x.0 x.1)) → (first : Result (Entry × List ℕ) RecordFault) →
        (first >>= λ f. entries_at (i + n) (seen ++ f.0 ∷ []) f.1) ≡ ((first >>= λ f. entries_at i (seen ++ f.0 ∷ []) f.1) >>= λ x. entries_at n x.0 x.1)
    go again (Ok f) = again (seen ++ f.0 ∷ []) f.1
    go again (Err d) = refl

pub one_more : (i : ℕ) (bytes : List ℕ) (x : List Entry × List ℕ) → entries_at i [] bytes ≡ Ok x → entries_at (i + 1) [] bytes ≡ entries_at 1 x.0 x.1
one_more i bytes x h = entries-more i 1 (i + 1) [] bytes refl ∙ ap (λ (r : Result (List Entry × List ℕ) RecordFault). r >>= λ y. entries_at 1 y.0 y.1) h

pub fails : (i count : ℕ) (bytes : List ℕ) (x : List Entry × List ℕ) (d : RecordFault) → i < count → entries_at i [] bytes ≡ Ok x → entries_at 1 x.0 x.1 ≡ Err d → entries_at count [] bytes ≡ Err d
fails i count bytes x d lt h f =
    let k : count ≡ (i + 1) + (count - (i + 1)) = omega arith in
    entries-more (i + 1) (count - (i + 1)) count [] bytes k
    ∙ ap (λ (r : Result (List Entry × List ℕ) RecordFault). r >>= λ y. entries_at (count - (i + 1)) y.0 y.1) (one_more i bytes x h ∙ f)

pub good : (i count : ℕ) (bytes : List ℕ) (x : List Entry × List ℕ) → i < count → entries_at i [] bytes ≡ Ok x → IsOk (entries_at 1 x.0 x.1) → AreGood count bytes
good i count bytes x lt h ok = record { n = i + 1; some = omega arith; within = omega arith; read = subst IsOk (sym (one_more i bytes x h)) ok }

pub starts : (bytes : List ℕ) (es : List Entry) → es ≡ [] → entries_at 0 [] bytes ≡ Ok (es, bytes)
unfolding entries_at
starts bytes es e = ap (λ (l : List Entry). read (l, bytes)) (sym e)

pub ends : (i count : ℕ) (bytes : List ℕ) (x : List Entry × List ℕ) (d : RecordFault) → i < count → entries_at i [] bytes ≡ Ok x →
    ((d ≡ faults.NoMemory) × IsOk (entries_at 1 x.0 x.1)) ⊎ (entries_at 1 x.0 x.1 ≡ Err d) → ((d ≡ faults.NoMemory) × AreGood count bytes) ⊎ (entries_at count [] bytes ≡ Err d)
ends i count bytes x d lt h (inl m) = inl (m.0, good i count bytes x lt h m.1)
ends i count bytes x d lt h (inr f) = inr (fails i count bytes x d lt h f)

-- one entry alone
one_is : (seen : List Entry) (bytes : List ℕ) → entries_at 1 seen bytes ≡ (entry_at seen bytes >>= λ f. Ok (seen ++ f.0 ∷ [], f.1))
unfolding entries_at
one_is seen bytes = refl

pub one_read : (seen : List Entry) (bytes : List ℕ) (e : Entry) (left : List ℕ) → entry_at seen bytes ≡ Ok (e, left) → entries_at 1 seen bytes ≡ Ok (seen ++ e ∷ [], left)
one_read seen bytes e left h = one_is seen bytes ∙ ap (λ (r : Result (Entry × List ℕ) RecordFault). r >>= λ f. Ok (seen ++ f.0 ∷ [], f.1)) h

pub one_fails : (seen : List Entry) (bytes : List ℕ) (d : RecordFault) → entry_at seen bytes ≡ Err d → entries_at 1 seen bytes ≡ Err d
one_fails seen bytes d h = one_is seen bytes ∙ ap (λ (r : Result (Entry × List ℕ) RecordFault). r >>= λ f. Ok (seen ++ f.0 ∷ [], f.1)) h

-- ---- writing one entry more
pub written_more : (old out head : List ℕ) (es : List Entry) (i : ℕ) (e : Entry) → i < length es → slice_get es i ≡ Some e → out ≡ old ++ (head ++ flat_map entry_bytes (take i es))
    → out ++ entry_bytes e ≡ old ++ (head ++ flat_map entry_bytes (take (i + 1) es))
written_more old out head es i e lt at so_far =
    let one : take (i + 1) es ≡ take i es ++ e ∷ [] = take_more es i e lt ∙ ap (λ (y : Entry). take i es ++ y ∷ []) (get_or_from_slice_get es i e e at) in
    let last : flat_map entry_bytes (e ∷ []) ≡ entry_bytes e = flat_map-cons entry_bytes e [] ∙ append-nil (entry_bytes e) in
    let more : flat_map entry_bytes (take (i + 1) es) ≡ flat_map entry_bytes (take i es) ++ entry_bytes e =
    ap (λ (l : List Entry). flat_map entry_bytes l) one ∙ flat_map-append entry_bytes (take i es) (e ∷ []) ∙ ap (λ (t : List ℕ). flat_map entry_bytes (take i es) ++ t) last in
    ap (λ (t : List ℕ). t ++ entry_bytes e) so_far ∙ append_assoc old (head ++ flat_map entry_bytes (take i es)) (entry_bytes e)
    ∙ ap (λ (t : List ℕ). old ++ t) (append_assoc head (flat_map entry_bytes (take i es)) (entry_bytes e) ∙ ap (λ (t : List ℕ). head ++ t) (sym more))

some-count : (count : ℕ) (bytes : List ℕ) (x : List Entry × List ℕ) → entries_at count [] bytes ≡ Ok x → (x.0 ≡ [] → ⊥) → 1 ≤ count
unfolding entries_at
some-count zero bytes x e some = absurd (some (sym (ap (λ (y : List Entry × List ℕ). y.0) (ok_is ([], bytes) x e))))
some-count (suc n) bytes x e some = omega arith

-- where a record with entries was read, the bytes are good up to the end of the last
pub good-whole : (bytes : List ℕ) (x : NodeRecord × List ℕ) → record_at bytes ≡ Ok x → (x.0.entries ≡ [] → ⊥) → IsGoodSoFar bytes
unfolding record_at
good-whole bytes x e some =
    let h = bind_ok (head_at bytes) (λ head. entries_at head.0.1 [] head.1 >>= λ entries. Ok (record { problem = head.0.0; entries = entries.0 }, entries.1)) x e in
    let b = bind_ok (entries_at h.0.0.1 [] h.0.1) (λ entries. Ok (record { problem = h.0.0.0; entries = entries.0 }, entries.1)) x h.2 in
    let same : b.0.0 ≡ x.0.entries = ap (λ (y : NodeRecord × List ℕ). y.0.entries) (ok_is (record { problem = h.0.0.0; entries = b.0.0 }, b.0.1) x b.2) in
    record {
      head = h.0;
      read = h.1;
      entries = record { n = h.0.0.1; some = some-count h.0.0.1 h.0.1 b.0 b.1 (λ z. some (sym same ∙ z)); within = omega arith; read = subst IsOk (sym b.1) refl };
    }

-- what judging the record answers is what reading the bytes gives, unless memory was refused
pub whole-judged : (bytes : List ℕ) (r : NodeRecord) (left : List ℕ) (result : Result NodeRecord RecordFault) → record_at bytes ≡ Ok (r, left) → left ≡ [] →
    IsOrRefused (r.entries ≡ [] → ⊥) result (judged (r, [])) → IsOrRefused (IsGoodSoFar bytes) result (record_at bytes >>= judged)
whole-judged bytes r left result e none (inl m) = inl (m.0, good-whole bytes (r, left) e m.1)
whole-judged bytes r left result e none (inr is) = inr (is ∙ ap (λ xs. judged (r, xs)) (sym none) ∙ sym (bind_again (record_at bytes) judged (r, left) e))
