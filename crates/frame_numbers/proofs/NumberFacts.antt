-- An index of messages by their frames.
use Rattle.std.proofs.Common.{◌≡◌, ℕ, ◌+◌, ◌-◌, ◌<◌, ◌≤◌, ◌⊎◌, Bool, true, false, cond, List, [], ◌∷◌, ◌++◌, length, zero, suc, Option, Some, None, refl, sym, ◌∙◌, ap, inl, inr, arith}
use Rattle.std.specs.Str.{bytes_eq}
use Rattle.std.proofs.lemmas.Slice.Eq.{bytes_eq-Decides}
use Rattle.std.specs.Prelude.{slice_get}
use Rattle.std.proofs.lemmas.List.{length-append}
use Rattle.std.proofs.lemmas.Bool.{cases_eq, cases_lt}
use Rattle.lock_messages.specs.declared.messages.Message.{Message}
use Rattle.lock_messages.specs.Frames.{frame_of}
use Rattle.world_model.specs.declared.TheConstants.{MAX_MESSAGES}
use Rattle.world_model.specs.ExactWorlds.{numbered}
use Rattle.world_model.specs.Numbered.{past-zero, numbered-there, numbered-one}
use Rattle.world_model.proofs.ListFacts.{among-got, got-numbered}
use Rattle.frame_numbers.specs.FrameNumbers.{Seen, number_in, Puts, IsIndexOf, IsWhole}

pub empty-index : (s : Seen) (sent : List Message) → s.entries ≡ [] → s.count ≡ 0 → IsIndexOf s sent
empty-index s sent none nothing = record {
  within = omega (arith, nothing);
  found = λ frame k h. absurd (let z : ◌≡◌ {A = Option ℕ} None (Some k) = sym (ap (λ es. number_in es frame) none) ∙ h in cc);
  taken = λ k m few is. absurd (let one = (numbered-one sent k m is).0 in omega (arith, few, nothing, one));
}

-- one more message

module _ (s t : Seen) (sent : List Message) (m : Message) (index : IsIndexOf s sent) (is : numbered sent (s.count + 1) ≡ Some m) (one_more : t.count ≡ s.count + 1) (updates : (frame : List ℕ) → number_in t.entries frame ≡ cond (bytes_eq (frame_of m) frame) (Some (s.count + 1)) (number_in s.entries frame)) where
  found-in : (frame : List ℕ) (k : ℕ) (b : Bool) → bytes_eq (frame_of m) frame ≡ b → cond b (Some (s.count + 1)) (number_in s.entries frame) ≡ Some k → (n : Message) × (numbered sent k ≡ Some n) × (frame_of n ≡ frame)
  found-in frame k true same h =
      let number : s.count + 1 ≡ k = cc in
      (m, ap (numbered sent) (sym number) ∙ is, (bytes_eq-Decides (frame_of m) frame).0 same)
  found-in frame k false same h = index.found frame k h

  put-at : (frame : List ℕ) (b : Bool) → bytes_eq (frame_of m) frame ≡ b → (j : ℕ) × (number_in s.entries frame ≡ Some j) → (j : ℕ) × (cond b (Some (s.count + 1)) (number_in s.entries frame) ≡ Some j)
  put-at frame true same h = (s.count + 1, refl)
  put-at frame false same h = h

  taken-at : (k : ℕ) (n : Message) → (k ≡ s.count + 1) ⊎ (k ≡ s.count + 1 → ⊥) → k ≤ t.count → numbered sent k ≡ Some n → (j : ℕ) × (number_in t.entries (frame_of n) ≡ Some j)
  taken-at k n (inl last) few h =
      let both : ◌≡◌ {A = Option Message} (Some m) (Some n) = sym is ∙ ap (numbered sent) (sym last) ∙ h in
      let same : m ≡ n = cc in
      (s.count + 1, updates (frame_of n) ∙ ap (λ b. cond b (Some (s.count + 1)) (number_in s.entries (frame_of n))) ((bytes_eq-Decides (frame_of m) (frame_of n)).1 (ap frame_of same)))
  taken-at k n (inr apart) few h =
      let j = put-at (frame_of n) (bytes_eq (frame_of m) (frame_of n)) refl (index.taken k n (omega (arith, few, one_more, apart)) h) in
      (j.0, updates (frame_of n) ∙ j.1)

  noted : IsIndexOf t sent
  noted = record {
    within = (let w = (numbered-one sent (s.count + 1) m is).1 in omega (arith, w, one_more));
    found = λ frame k h. found-in frame k (bytes_eq (frame_of m) frame) refl (sym (updates frame) ∙ h);
    taken = λ k n few h. taken-at k n (cases_eq k (s.count + 1)) few h;
  }

pub noted_next : (f s t : Seen) (m : Message) (sent : List Message) → Puts s.entries (frame_of m) (s.count + 1) t.entries → t.count ≡ s.count + 1 → Some m ≡ numbered sent (s.count + 1) → (IsIndexOf f sent → IsIndexOf s sent) → IsIndexOf f sent → IsIndexOf t sent
noted_next f s t m sent puts one_more is kept index = noted s t sent m (kept index) (sym is) one_more puts

-- no message more

pub whole-index : (s : Seen) (sent : List Message) → IsIndexOf s sent → length sent ≤ s.count → IsWhole s sent
whole-index s sent index all = record {
  found = index.found;
  all = λ m a. let g = among-got sent m a in let h = got-numbered sent g.0 m g.1 in index.taken (g.0 + 1) m (let w = (numbered-one sent (g.0 + 1) m h).1 in omega (arith, w, all)) h;
}

pub past-the-last : (sent : List Message) (count : ℕ) → numbered sent (count + 1) ≡ None → length sent ≤ count
past-the-last sent count none = go (cases_lt count (length sent))
  where
    go : (count < length sent) ⊎ (length sent ≤ count) → length sent ≤ count
    go (inr h) = h
    go (inl h) =
        let there = numbered-there sent (count + 1) (omega arith) (omega (arith, h)) in
        absurd (let z : ◌≡◌ {A = Option Message} None (Some there.0) = sym none ∙ there.1 in cc)

pub caught_up : (s t : Seen) (sent : List Message) (n : ℕ) → t.count ≡ n → (IsIndexOf s sent → IsIndexOf t sent) → numbered sent (n + 1) ≡ None → IsIndexOf s sent → IsWhole t sent
caught_up s t sent n count kept none index = whole-index t sent (kept index) (let far = past-the-last sent n none in omega (arith, far, count))

pub full_up : (s t : Seen) (sent : List Message) (n : ℕ) → t.count ≡ n → (IsIndexOf s sent → IsIndexOf t sent) → length sent ≤ MAX_MESSAGES → MAX_MESSAGES ≤ n → IsIndexOf s sent → IsWhole t sent
full_up s t sent n count kept room far index = whole-index t sent (kept index) (omega (arith, room, far, count))

-- more messages

numbered-grows : (xs ys : List Message) (k : ℕ) (x : Message) → numbered xs k ≡ Some x → numbered (xs ++ ys) k ≡ Some x
numbered-grows xs ys k x h =
    let in_range = numbered-one xs k x h in
    past-zero (xs ++ ys) k in_range.0 ∙ got-grows xs ys (k - 1) x (sym (past-zero xs k in_range.0) ∙ h)
  where
    got-grows : (xs ys : List Message) (i : ℕ) (x : Message) → slice_get xs i ≡ Some x → slice_get (xs ++ ys) i ≡ Some x
    got-grows [] ys i x h = absurd (let z : ◌≡◌ {A = Option Message} None (Some x) = h in cc)
    got-grows (y ∷ xs) ys zero x h = h
    got-grows (y ∷ xs) ys (suc i) x h = got-grows xs ys i x h

pub index-grows : (s : Seen) (sent more : List Message) → IsIndexOf s sent → IsIndexOf s (sent ++ more)
index-grows s sent more index = record {
  within = omega (arith, index.within, length-append sent more);
  found = λ frame k h. let f = index.found frame k h in (f.0, numbered-grows sent more k f.0 f.1, f.2);
  taken = taken;
}
  where
    taken : (k : ℕ) (m : Message) → k ≤ s.count → numbered (sent ++ more) k ≡ Some m → (j : ℕ) × (number_in s.entries (frame_of m) ≡ Some j)
    taken k m few h =
        let one = (numbered-one (sent ++ more) k m h).0 in
        let there = numbered-there sent k one (omega (arith, few, index.within)) in
        let both : ◌≡◌ {A = Option Message} (Some there.0) (Some m) = sym (numbered-grows sent more k there.0 there.1) ∙ h in
        let same : there.0 ≡ m = cc in
        index.taken k m few (there.1 ∙ ap Some same)
