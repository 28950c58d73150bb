-- What `clap` says of words that name nothing to serve, and what is to be said of them.
use Rattle.std.specs.Prelude.{◌≡◌}
use Rattle.clap.specs.Words.{IsAmong, Kinds}
use Rattle.clap.specs.declared.error.kind.ErrorKind.{ErrorKind}
use Rattle.clap.specs.declared.error.kind.ErrorKind.TheVariants as kind
use Rattle.program_ends.specs.declared.wording.Sort.{Sort}
use Rattle.program_ends.specs.declared.wording.Sort.TheVariants as sort
use Rattle.program_ends.specs.declared.wording.Unserved.{Unserved}
use Rattle.program_ends.specs.declared.wording.Unserved.TheVariants as unserved

-- It lacked memory, help or the version is asked for, or they are wrong.
abbrev pub sort_of : ErrorKind → Sort
sort_of kind.OutOfMemory = sort.NoMemory
sort_of kind.DisplayHelp = sort.Help
sort_of kind.DisplayVersion = sort.Help
sort_of k = sort.Wrong

-- one of the kinds is of this sort
abbrev pub HasSort : Sort → Kinds → Type 0
HasSort s kinds = (k : ErrorKind) × IsAmong k kinds × (sort_of k ≡ s)

-- What is said is of a sort; want of memory may come at any.
abbrev pub IsOfSort : Sort → Unserved → Type 0
IsOfSort s unserved.NoMemory = Unit {0}
IsOfSort s (unserved.Help text) = s ≡ sort.Help
IsOfSort s (unserved.Wrong text) = s ≡ sort.Wrong

-- What is said of words that may fail by these kinds: one of them is of its sort.
abbrev pub IsUnserved : Kinds → Unserved → Type 0
IsUnserved kinds unserved.NoMemory = Unit {0}
IsUnserved kinds (unserved.Help text) = HasSort sort.Help kinds
IsUnserved kinds (unserved.Wrong text) = HasSort sort.Wrong kinds
