-- Lengths of digests, and blocks with a mask.
use Rattle.std.proofs.Common.{◌≡◌, ℕ, zero, suc, ◌+◌, ◌-◌, ◌<◌, ◌≤◌, List, [], ◌∷◌, ◌++◌, length, take, drop, replicate, bit_xor, slice_set, slice_index_or, refl, ap, subst, ◌∙◌, arith}
use Rattle.std.proofs.lemmas.List.{drop-replicate}
use Rattle.sha2.specs.Sha256.{sha256}
use Rattle.sha2.proofs.Facts256.{length-sha256}
use Rattle.frame_lines.specs.Hmac.{masked}

-- a digest has 32 bytes
pub digest_length : (m : List ℕ) → length (sha256 m) ≡ 32
digest_length m = length-sha256 m

-- bytes before zeros
pub in_front : (bytes new : List ℕ) → new ≡ bytes → new ++ drop (length bytes) (replicate 64 0) ≡ bytes ++ replicate (64 - length bytes) 0
in_front bytes new is = ap (λ (l : List ℕ). l ++ drop (length bytes) (replicate 64 0)) is ∙ ap (λ (l : List ℕ). bytes ++ l) (drop-replicate (length bytes) 64 0)

-- one byte more has the mask

mask_next_suc : (mask : ℕ) (block : List ℕ) (i d x : ℕ) → i < length block → x ≡ bit_xor (slice_index_or block i d) mask →
    slice_set (masked mask (take i block) ++ drop i block) i x ≡ masked mask (take (suc i) block) ++ drop (suc i) block
mask_next_suc mask [] i d x within h = absurd (omega (arith, within))
mask_next_suc mask (b ∷ block) zero d x within h = ap (λ (y : ℕ). y ∷ block) h
mask_next_suc mask (b ∷ block) (suc i) d x within h = ap (λ (l : List ℕ). bit_xor b mask ∷ l) (mask_next_suc mask block i d x (omega (arith, within)) h)

pub mask_next : (mask : ℕ) (block : List ℕ) (i d x : ℕ) → i < length block → x ≡ bit_xor (slice_index_or block i d) mask →
    slice_set (masked mask (take i block) ++ drop i block) i x ≡ masked mask (take (i + 1) block) ++ drop (i + 1) block
mask_next mask block i d x within h =
    let next : suc i ≡ i + 1 = omega arith in
    subst (λ (j : ℕ). slice_set (masked mask (take i block) ++ drop i block) i x ≡ masked mask (take j block) ++ drop j block) next (mask_next_suc mask block i d x within h)

-- all bytes have it
pub mask_all : (mask : ℕ) (block : List ℕ) (n : ℕ) → length block ≤ n → masked mask (take n block) ++ drop n block ≡ masked mask block
mask_all mask [] zero h = refl
mask_all mask [] (suc n) h = refl
mask_all mask (b ∷ block) zero h = absurd (omega (arith, h))
mask_all mask (b ∷ block) (suc n) h = ap (λ (l : List ℕ). bit_xor b mask ∷ l) (mask_all mask block n (omega (arith, h)))
