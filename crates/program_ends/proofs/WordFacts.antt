-- What is said of words by the sort of an error.
use Rattle.std.proofs.Common.{◌≡◌, ◌⊎◌, inl, inr, subst}
use Rattle.clap.specs.Words.{Kinds, IsAmong, HasKind, kind_of}
use Rattle.clap.specs.declared.error.Error.{Error}
use Rattle.clap.specs.declared.error.kind.ErrorKind.{ErrorKind}
use Rattle.clap.specs.declared.error.kind.ErrorKind.TheVariants as kind
use Rattle.program_ends.specs.declared.wording.Sort.{Sort}
use Rattle.program_ends.specs.declared.wording.Sort.TheVariants as sort
use Rattle.program_ends.specs.declared.wording.Unserved.{Unserved}
use Rattle.program_ends.specs.declared.wording.Unserved.TheVariants as unserved
use Rattle.program_ends.specs.Wordings.{sort_of, HasSort, IsOfSort, IsUnserved}

by_kind : (kinds : Kinds) (k : ErrorKind) (s : Sort) → (k ≡ kind.OutOfMemory) ⊎ IsAmong k kinds → sort_of k ≡ s → (s ≡ sort.NoMemory → ⊥) → HasSort s kinds
by_kind kinds k s (inl m) e never = absurd (never (let n : sort_of kind.OutOfMemory ≡ s = subst (λ (x : ErrorKind). sort_of x ≡ s) m e in cc))
by_kind kinds k s (inr among) e never = (k, among, e)

pub unserved_so : (e : Error) (u : Unserved) → IsOfSort (sort_of (kind_of e)) u → (kinds : Kinds) → HasKind kinds e → IsUnserved kinds u
unserved_so e unserved.NoMemory s kinds h = tt
unserved_so e (unserved.Help text) s kinds h = by_kind kinds (kind_of e) sort.Help h s (λ n. let clash : sort.Help ≡ sort.NoMemory = n in cc)
unserved_so e (unserved.Wrong text) s kinds h = by_kind kinds (kind_of e) sort.Wrong h s (λ n. let clash : sort.Wrong ≡ sort.NoMemory = n in cc)

pub unserved_same : (kinds : Kinds) (u v : Unserved) → IsUnserved kinds u → u ≡ v → IsUnserved kinds v
unserved_same kinds u v h e = subst (IsUnserved kinds) e h
