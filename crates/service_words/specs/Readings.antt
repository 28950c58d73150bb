-- What is read of the words that were found of a command, and which words are wrong.
use Rattle.std.specs.Prelude.{◌≡◌, ◌⊎◌, ◌&&◌, ◌||◌, is_some, ℕ, Bool, true, false, List, [], ◌∷◌, Option, Some, None, option_map, Result, Ok, Err, codes}
use Rattle.lock_model.specs.declared.problems.Problem.{Problem}
use Rattle.clap.specs.Words.{Row, all_of, one_of, first_of}
use Rattle.clap_arguments.specs.Arguments.{IsFlag, IsWord}
use Rattle.service_words.specs.Numbers.{number_value, IsNodeWord, IsClientWord, IsSecondsWord, TellsProblem}
use Rattle.service_words.specs.declared.misuses.Misuse.{Misuse}
use Rattle.service_words.specs.declared.misuses.Misuse.TheVariants as misuse
use Rattle.service_words.specs.declared.reading.Place.{Place}
use Rattle.service_words.specs.declared.requests.Journaling.{Journaling}
use Rattle.service_words.specs.declared.requests.Journaling.TheVariants as journaling
use Rattle.service_words.specs.declared.requests.InitWords.{InitWords}
use Rattle.service_words.specs.declared.requests.NodeWords.{NodeWords}
use Rattle.service_words.specs.declared.requests.ClientWords.{ClientWords}
use Rattle.service_words.specs.declared.requests.ReapWords.{ReapWords}
use Rattle.service_words.specs.declared.requests.SwitchWords.{SwitchWords}
use Rattle.service_words.specs.declared.requests.ServiceRequest.{ServiceRequest}
use Rattle.service_words.specs.declared.requests.ServiceRequest.TheVariants as service

-- the name of a command of a service
abbrev pub IsServiceName : List ℕ → Type 0
IsServiceName name =
    (name ≡ codes "init") ⊎ ((name ≡ codes "node") ⊎ ((name ≡ codes "client") ⊎ ((name ≡ codes "reap") ⊎ ((name ≡ codes "status") ⊎ (name ≡ codes "switch")))))

-- A node's number is that of the word, if the word is one.
abbrev pub ReadsNumber : Option (List ℕ) → Result ℕ Misuse → Type 0
ReadsNumber (Some text) (Ok n) = IsNodeWord text × (n ≡ number_value text)
ReadsNumber None (Ok n) = ⊥
ReadsNumber (Some text) (Err m) = (IsNodeWord text → ⊥) × (m ≡ misuse.NodeNumber)
ReadsNumber None (Err m) = m ≡ misuse.NodeNumber

-- A problem is the one that the word names.
abbrev pub ReadsProblem : Option (List ℕ) → Result Problem Misuse → Type 0
ReadsProblem (Some text) (Ok p) = TellsProblem text (Some p)
ReadsProblem None (Ok p) = ⊥
ReadsProblem (Some text) (Err m) = TellsProblem text None × (m ≡ misuse.Problem)
ReadsProblem None (Err m) = m ≡ misuse.Problem

-- whether a journal is written, by the two flags
abbrev pub IsJournaling : List Row → Journaling → Type 0
IsJournaling rows journaling.Written = IsFlag (one_of (codes "no-journal") rows) false × IsFlag (one_of (codes "sync-journal") rows) false
IsJournaling rows journaling.Synced = IsFlag (one_of (codes "no-journal") rows) false × IsFlag (one_of (codes "sync-journal") rows) true
IsJournaling rows journaling.None = IsFlag (one_of (codes "no-journal") rows) true × IsFlag (one_of (codes "sync-journal") rows) false

-- both flags are there
abbrev pub HasTwoJournals : List Row → Misuse → Type 0
HasTwoJournals rows m = (m ≡ misuse.TwoJournals) × IsFlag (one_of (codes "no-journal") rows) true × IsFlag (one_of (codes "sync-journal") rows) true

abbrev pub ReadsJournal : List Row → Result Journaling Misuse → Type 0
ReadsJournal rows (Ok j) = IsJournaling rows j
ReadsJournal rows (Err m) = HasTwoJournals rows m

-- A client's words are its directory, or its number and its directory.
abbrev pub IsPlace : List (List ℕ) → Option ℕ → List ℕ → Type 0
IsPlace words None folder = words ≡ folder ∷ []
IsPlace words (Some n) folder = (text : List ℕ) × (words ≡ text ∷ folder ∷ []) × IsClientWord text × (n ≡ number_value text)

-- They are wrong if there are two and the first is no client's number, or if there are none or more.
abbrev pub IsNoPlace : List (List ℕ) → Misuse → Type 0
IsNoPlace [] m = m ≡ misuse.ClientWords
IsNoPlace (folder ∷ []) m = ⊥
IsNoPlace (text ∷ folder ∷ []) m = (IsClientWord text → ⊥) × (m ≡ misuse.ClientNumber)
IsNoPlace (a ∷ b ∷ c ∷ more) m = m ≡ misuse.ClientWords

abbrev pub ReadsPlace : List (List ℕ) → Result Place Misuse → Type 0
ReadsPlace words (Ok p) = IsPlace words p.number p.folder.now
ReadsPlace words (Err m) = IsNoPlace words m

-- the same of what was found
abbrev pub ArePlace : Option (List (List ℕ)) → Option ℕ → List ℕ → Type 0
ArePlace None number folder = ⊥
ArePlace (Some words) number folder = IsPlace words number folder

abbrev pub AreNoPlace : Option (List (List ℕ)) → Misuse → Type 0
AreNoPlace None m = m ≡ misuse.ClientWords
AreNoPlace (Some words) m = IsNoPlace words m

abbrev pub ReadsPlaceAt : Option (List (List ℕ)) → Result Place Misuse → Type 0
ReadsPlaceAt found (Ok p) = ArePlace found p.number p.folder.now
ReadsPlaceAt found (Err m) = AreNoPlace found m

-- Both files, of commands and of answers, are there with `--pipes`, and neither without it.
abbrev pub IsPiped : List Row → Bool → Type 0
IsPiped rows true = IsFlag (one_of (codes "pipes") rows) true × (is_some (first_of (codes "commands") rows) ≡ true) × (is_some (first_of (codes "answers") rows) ≡ true)
IsPiped rows false = IsFlag (one_of (codes "pipes") rows) false × (is_some (first_of (codes "commands") rows) ≡ false) × (is_some (first_of (codes "answers") rows) ≡ false)

-- `--pipes` is there and a file is missing, or a file is there and `--pipes` is missing
abbrev pub AreNoFiles : List Row → Misuse → Type 0
AreNoFiles rows m =
    ((m ≡ misuse.PipesAlone) × IsFlag (one_of (codes "pipes") rows) true × ((is_some (first_of (codes "commands") rows) && is_some (first_of (codes "answers") rows)) ≡ false))
    ⊎ ((m ≡ misuse.FilesAlone) × IsFlag (one_of (codes "pipes") rows) false × ((is_some (first_of (codes "commands") rows) || is_some (first_of (codes "answers") rows)) ≡ true))

abbrev pub ReadsPipes : List Row → Result Bool Misuse → Type 0
ReadsPipes rows (Ok pipes) = IsPiped rows pipes
ReadsPipes rows (Err m) = AreNoFiles rows m

-- The seconds are those of the option, if it is there.
abbrev pub IsEvery : Option (List ℕ) → Option ℕ → Type 0
IsEvery None every = every ≡ None
IsEvery (Some text) every = IsSecondsWord text × (every ≡ Some (number_value text))

abbrev pub IsNoEvery : Option (List ℕ) → Misuse → Type 0
IsNoEvery None m = ⊥
IsNoEvery (Some text) m = (IsSecondsWord text → ⊥) × (m ≡ misuse.Seconds)

abbrev pub ReadsEvery : Option (List ℕ) → Result (Option ℕ) Misuse → Type 0
ReadsEvery found (Ok every) = IsEvery found every
ReadsEvery found (Err m) = IsNoEvery found m

-- the words of `init`
pub record IsInitWords (rows : List Row) (w : InitWords) : Type 0 where
  pub folder : IsWord (first_of (codes "folder") rows) w.folder.now
  pub actors : option_map (λ t. t.now) w.actors ≡ first_of (codes "actors") rows
  pub secret : option_map (λ t. t.now) w.secret ≡ first_of (codes "secret") rows

-- the words of `node`, and why they are wrong
pub record IsNodeWords (rows : List Row) (w : NodeWords) : Type 0 where
  pub number : ReadsNumber (first_of (codes "number") rows) (Ok w.number)
  pub folder : IsWord (first_of (codes "folder") rows) w.folder.now
  pub pipes : IsFlag (one_of (codes "pipes") rows) w.pipes
  pub journal : IsJournaling rows w.journal

abbrev pub ReadsNode : List Row → Result NodeWords Misuse → Type 0
ReadsNode rows (Ok w) = IsNodeWords rows w
ReadsNode rows (Err m) = ReadsNumber (first_of (codes "number") rows) (Err m) ⊎ HasTwoJournals rows m

-- the words of `client`, and why they are wrong
pub record IsClientWords (rows : List Row) (w : ClientWords) : Type 0 where
  pub place : ArePlace (all_of (codes "words") rows) w.number w.folder.now
  pub pipes : IsPiped rows w.pipes
  pub commands : option_map (λ t. t.now) w.commands ≡ first_of (codes "commands") rows
  pub answers : option_map (λ t. t.now) w.answers ≡ first_of (codes "answers") rows
  pub journal : IsJournaling rows w.journal

abbrev pub ReadsClient : List Row → Result ClientWords Misuse → Type 0
ReadsClient rows (Ok w) = IsClientWords rows w
ReadsClient rows (Err m) = AreNoPlace (all_of (codes "words") rows) m ⊎ (HasTwoJournals rows m ⊎ AreNoFiles rows m)

-- the words of `reap`, and why they are wrong
abbrev pub ReadsReap : List Row → Result ReapWords Misuse → Type 0
ReadsReap rows (Ok w) = IsWord (first_of (codes "folder") rows) w.folder.now × IsEvery (first_of (codes "every") rows) w.every
ReadsReap rows (Err m) = IsNoEvery (first_of (codes "every") rows) m

-- the words of `switch`, and why they are wrong
pub record IsSwitchWords (rows : List Row) (w : SwitchWords) : Type 0 where
  pub number : ReadsNumber (first_of (codes "number") rows) (Ok w.number)
  pub problem : ReadsProblem (first_of (codes "problem") rows) (Ok w.problem)
  pub folder : IsWord (first_of (codes "folder") rows) w.folder.now
  pub pipes : IsFlag (one_of (codes "pipes") rows) w.pipes

abbrev pub ReadsSwitch : List Row → Result SwitchWords Misuse → Type 0
ReadsSwitch rows (Ok w) = IsSwitchWords rows w
ReadsSwitch rows (Err m) = ReadsNumber (first_of (codes "number") rows) (Err m) ⊎ ReadsProblem (first_of (codes "problem") rows) (Err m)

-- what is asked for by the command of a name
abbrev pub ServiceBehind : List ℕ → List Row → ServiceRequest → Type 0
ServiceBehind name rows (service.Init w) = (name ≡ codes "init") × IsInitWords rows w
ServiceBehind name rows (service.Node w) = (name ≡ codes "node") × ReadsNode rows (Ok w)
ServiceBehind name rows (service.Client w) = (name ≡ codes "client") × ReadsClient rows (Ok w)
ServiceBehind name rows (service.Reap w) = (name ≡ codes "reap") × ReadsReap rows (Ok w)
ServiceBehind name rows (service.Status folder) = (name ≡ codes "status") × IsWord (first_of (codes "folder") rows) folder.now
ServiceBehind name rows (service.Switch w) = (name ≡ codes "switch") × ReadsSwitch rows (Ok w)

-- why the words of the command of a name are wrong
abbrev pub MisusedBehind : List ℕ → List Row → Misuse → Type 0
MisusedBehind name rows m =
    ((name ≡ codes "node") × ReadsNode rows (Err m))
    ⊎ (((name ≡ codes "client") × ReadsClient rows (Err m)) ⊎ (((name ≡ codes "reap") × ReadsReap rows (Err m)) ⊎ ((name ≡ codes "switch") × ReadsSwitch rows (Err m))))

-- What is read of the words of the command of a name: what is asked for, or why they are wrong.
abbrev pub ReadsService : List ℕ → List Row → Result ServiceRequest Misuse → Type 0
ReadsService name rows (Ok s) = ServiceBehind name rows s
ReadsService name rows (Err m) = MisusedBehind name rows m
