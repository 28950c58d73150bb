-- The frames of messages, taken in one by one.
use Rattle.std.proofs.Common.{◌≡◌, ℕ, ◌+◌, ◌≤◌, ◌⊎◌, Bool, true, false, cond, List, length, Option, Some, None, refl, sym, ◌∙◌, ap, inl, inr, arith}
use Rattle.std.specs.Str.{bytes_eq}
use Rattle.std.proofs.lemmas.Slice.Eq.{bytes_eq-Decides}
use Rattle.std.proofs.lemmas.Bool.{cases_eq}
use Rattle.lock_messages.specs.declared.messages.Message.{Message}
use Rattle.lock_messages.specs.Messages.{IsMessage}
use Rattle.lock_messages.specs.Frames.{frame_of}
use Rattle.world_model.specs.declared.TheConstants.{MAX_MESSAGES}
use Rattle.world_model.specs.ExactWorlds.{numbered}
use Rattle.world_model.specs.Numbered.{numbered-one}
use Rattle.world_model.proofs.ListFacts.{among-got, got-numbered, numbered-among}
use Rattle.frame_numbers.specs.SaidFrames.{has_frame, AddsFrame, IsFrameOfOne, AddsFrames}
use Rattle.frame_numbers.proofs.NumberFacts.{past-the-last}

-- the first messages were taken in
pub record SoFar (before : List (List ℕ)) (said : List Message) (n : ℕ) (after : List (List ℕ)) : Type 0 where
  pub found : (frame : List ℕ) → has_frame after frame ≡ true → (has_frame before frame ≡ true) ⊎ IsFrameOfOne said frame
  pub kept : (frame : List ℕ) → has_frame before frame ≡ true → has_frame after frame ≡ true
  pub taken : (k : ℕ) (m : Message) → k ≤ n → numbered said k ≡ Some m → has_frame after (frame_of m) ≡ true

pub none-so-far : (before : List (List ℕ)) (said : List Message) → SoFar before said 0 before
none-so-far before said = record {
  found = λ frame has. inl has;
  kept = λ frame has. has;
  taken = λ k m few is. absurd (let one = (numbered-one said k m is).0 in omega (arith, few, one));
}

module _ (before mid after : List (List ℕ)) (said : List Message) (n : ℕ) (m : Message) (so : SoFar before said n mid) (is : numbered said (n + 1) ≡ Some m) (known : IsMessage m) (adds : AddsFrame mid (frame_of m) after) where
  found-in : (frame : List ℕ) (b : Bool) → bytes_eq (frame_of m) frame ≡ b → cond b true (has_frame mid frame) ≡ true → (has_frame before frame ≡ true) ⊎ IsFrameOfOne said frame
  found-in frame true same h = inr (m, numbered-among said (n + 1) m is, known, (bytes_eq-Decides (frame_of m) frame).0 same)
  found-in frame false same h = so.found frame h

  kept-in : (frame : List ℕ) (b : Bool) → has_frame mid frame ≡ true → cond b true (has_frame mid frame) ≡ true
  kept-in frame true h = refl
  kept-in frame false h = h

  taken-in : (k : ℕ) (o : Message) → (k ≡ n + 1) ⊎ (k ≡ n + 1 → ⊥) → k ≤ n + 1 → numbered said k ≡ Some o → has_frame after (frame_of o) ≡ true
  taken-in k o (inl last) few h =
      let both : ◌≡◌ {A = Option Message} (Some m) (Some o) = sym is ∙ ap (numbered said) (sym last) ∙ h in
      let same : m ≡ o = cc in
      adds (frame_of o) ∙ ap (λ b. cond b true (has_frame mid (frame_of o))) ((bytes_eq-Decides (frame_of m) (frame_of o)).1 (ap frame_of same))
  taken-in k o (inr apart) few h = adds (frame_of o) ∙ kept-in (frame_of o) (bytes_eq (frame_of m) (frame_of o)) (so.taken k o (omega (arith, few, apart)) h)

  one-more : SoFar before said (n + 1) after
  one-more = record {
    found = λ frame h. found-in frame (bytes_eq (frame_of m) frame) refl (sym (adds frame) ∙ h);
    kept = λ frame h. adds frame ∙ kept-in frame (bytes_eq (frame_of m) frame) (so.kept frame h);
    taken = λ k o few h. taken-in k o (cases_eq k (n + 1)) few h;
  }

pub noted : (before mid after : List (List ℕ)) (said : List Message) (n : ℕ) (m : Message) → SoFar before said n mid → numbered said (n + 1) ≡ Some m → IsMessage m → AddsFrame mid (frame_of m) after → SoFar before said (n + 1) after
noted before mid after said n m so is known adds = one-more before mid after said n m so is known adds

pub all-in : (before after : List (List ℕ)) (said : List Message) (n : ℕ) → SoFar before said n after → length said ≤ n → AddsFrames before said after
all-in before after said n so all = record {
  found = so.found;
  kept = so.kept;
  all = λ m a. let g = among-got said m a in let h = got-numbered said g.0 m g.1 in so.taken (g.0 + 1) m (let w = (numbered-one said (g.0 + 1) m h).1 in omega (arith, w, all)) h;
}

pub none_next : (before after : List (List ℕ)) (said : List Message) (n : ℕ) → SoFar before said n after → numbered said (n + 1) ≡ None → AddsFrames before said after
none_next before after said n so none = all-in before after said n so (past-the-last said n none)

pub full_list : (before after : List (List ℕ)) (said : List Message) (n : ℕ) → SoFar before said n after → length said ≤ MAX_MESSAGES → MAX_MESSAGES ≤ n → AddsFrames before said after
full_list before after said n so room far = all-in before after said n so (omega (arith, room, far))
