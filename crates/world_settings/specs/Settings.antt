-- Settings: the TOML document that an input begins with, and what it says.
use Rattle.std.specs.Prelude.{◌≡◌, ℕ, suc, ◌+◌, ◌≤◌, length, ◌&&◌, ◌||◌, ◌==◌, Bool, true, false, nat_le, if◌then◌else◌, List, [], ◌∷◌, ◌++◌, ℤ, pos, negsuc, Option, Some, None, option_map, option_and_then, is_some, Result, Ok, Err, codes}
use Rattle.std.specs.List.{list_any, All}
use Rattle.std.specs.Option.{ok_or}
use Rattle.std.specs.Str.{bytes_eq, is_utf8}
use Rattle.toml.specs.Data.{Items, no_items, item, Data, Members, no_members, member, get_member, as_integer, as_str, as_array, as_table}
use Rattle.toml.specs.Parse.{parse_document}
use Rattle.lock_messages.specs.declared.ids.TheConstants.{MAX_CLIENTS}
use Rattle.lock_model.specs.declared.problems.Problem.{Problem}
use Rattle.lock_model.specs.declared.problems.Problem.TheVariants.{First, Second}
use Rattle.lock_model.specs.Ballots.{Ballot, HasPlace}
use Rattle.vote_weights.specs.Ballots.{ballot_of}
use Rattle.vote_weights.specs.Faults.{fault_of, ballot_unless}
use Rattle.vote_weights.specs.ListFaults.{list_fault_of, list_unless}
use Rattle.vote_weights.specs.declared.faults.BallotFault.{BallotFault}
use Rattle.world_settings.specs.declared.faults.SettingsFault.{SettingsFault}
use Rattle.world_settings.specs.declared.faults.SettingsFault.TheVariants as fault
use Rattle.event_lines.specs.declared.faults.LineFault.{LineFault}
use Rattle.event_lines.specs.declared.faults.LineFault.TheVariants as line_fault
use Rattle.event_lines.specs.declared.wishes.Wish.{Wish}
use Rattle.event_lines.specs.Wishes.{wish_among}
use Rattle.lossy_link.specs.declared.faults.WeatherFault.TheVariants.{OverThousand}
use Rattle.lossy_link.specs.Weathers.{Climate, climate_of, odds_of}
use Rattle.world_settings.specs.declared.commands.Command.{Command}
use Rattle.world_settings.specs.declared.commands.Command.TheVariants as command
use Rattle.world_settings.specs.declared.settings.Numbers.{Numbers}
use Rattle.world_settings.specs.declared.settings.RunValues.{RunValues}
use Rattle.world_settings.specs.declared.settings.Settings.{Settings}
use Rattle.world_settings.specs.declared.settings.Start.{Start}
use Rattle.event_lines.specs.declared.wishes.TheConstants.{MAX_WISHES}

infixl 10 ◌>>=◌
-- the next value is judged where no fault was met
abbrev pub ◌>>=◌ : {A B : Type 0} → Result A SettingsFault → (A → Result B SettingsFault) → Result B SettingsFault
(Ok x) >>= f = f x
(Err e) >>= f = Err e

-- what a function answered, as it is seen, is the judgement, or memory was refused
abbrev pub Refuses : {Y : Type 0} → SettingsFault → Result Y SettingsFault → Type 0
Refuses fault.NoEnd judged = judged ≡ Err fault.NoEnd
Refuses fault.NoDocument judged = judged ≡ Err fault.NoDocument
Refuses fault.UnknownKey judged = judged ≡ Err fault.UnknownKey
Refuses fault.Value judged = judged ≡ Err fault.Value
Refuses (fault.Ballot f) judged = judged ≡ Err (fault.Ballot f)
Refuses (fault.Weather f) judged = judged ≡ Err (fault.Weather f)
Refuses (fault.Wish f) judged = judged ≡ Err (fault.Wish f)
Refuses fault.Memory judged = Unit {0}

abbrev pub Judges : {X Y : Type 0} → (X → Y) → Result X SettingsFault → Result Y SettingsFault → Type 0
Judges view (Ok x) judged = judged ≡ Ok (view x)
Judges view (Err e) judged = Refuses e judged

-- the keys that settings have: those that tell of a ballot, of the rest of the world, and of a run
abbrev pub ballot_keys : List (List ℕ)
ballot_keys = codes "votes" ∷ codes "read" ∷ codes "write" ∷ []

abbrev pub world_keys : List (List ℕ)
world_keys = codes "problem" ∷ codes "clients" ∷ codes "more" ∷ []

abbrev pub run_keys : List (List ℕ)
run_keys = codes "seed" ∷ codes "lose" ∷ codes "twice" ∷ codes "late" ∷ codes "wishes" ∷ []

abbrev pub tells_ballot : List ℕ → Bool
tells_ballot key = list_any (bytes_eq key) ballot_keys

abbrev pub is_known : List ℕ → Bool
is_known key = tells_ballot key || (list_any (bytes_eq key) world_keys || list_any (bytes_eq key) run_keys)

-- each key of a table passes the test
abbrev pub all_keys : (List ℕ → Bool) → Members → Bool
all_keys test no_members = true
all_keys test (member key value rest) = test key && all_keys test rest

abbrev pub all_known : Members → Bool
all_known document = all_keys is_known document

-- an integer from least to most
abbrev pub within : ℕ → ℕ → ℤ → Option ℕ
within least most (pos n) = if nat_le least n && nat_le n most then Some n else None
within least most (negsuc n) = None

-- the integer at a key, from least to most
abbrev pub number_at : ℕ → ℕ → List ℕ → Members → Result ℕ SettingsFault
number_at least most key document = ok_or (option_and_then (within least most) (option_and_then as_integer (get_member key document))) fault.Value

-- the same, and another one where there is no such key
abbrev pub unless_missing : Option Data → ℕ → Result ℕ SettingsFault → Result ℕ SettingsFault
unless_missing None absent found = Ok absent
unless_missing (Some value) absent found = found

abbrev pub number_or : ℕ → ℕ → ℕ → List ℕ → Members → Result ℕ SettingsFault
number_or absent least most key document = unless_missing (get_member key document) absent (number_at least most key document)

-- the integer at a key that only the question for the ballot can do without
abbrev pub number_for : Command → ℕ → ℕ → ℕ → List ℕ → Members → Result ℕ SettingsFault
number_for command.Script absent least most key document = number_at least most key document
number_for command.Audit absent least most key document = number_at least most key document
number_for command.Ballot absent least most key document = number_or absent least most key document
number_for (command.Run journal) absent least most key document = number_at least most key document

-- the number of the weather: no negative one, and 0 where there is none
abbrev pub natural : ℤ → Option ℕ
natural (pos n) = Some n
natural (negsuc n) = None

abbrev pub seed_in : Option Data → Result ℕ SettingsFault
seed_in None = Ok 0
seed_in (Some value) = ok_or (option_and_then natural (as_integer value)) fault.Value

abbrev pub seed_at : Members → Result ℕ SettingsFault
seed_at document = seed_in (get_member (codes "seed") document)

-- a list of numbers from 0 to 255
abbrev pub put_first : Option ℕ → Option (List ℕ) → Option (List ℕ)
put_first None rest = None
put_first (Some v) rest = option_map (λ vs. v ∷ vs) rest

abbrev pub vote_list : Items → Option (List ℕ)
vote_list no_items = Some []
vote_list (item value rest) = put_first (option_and_then (within 0 255) (as_integer value)) (vote_list rest)

abbrev pub votes_at : Members → Result (List ℕ) SettingsFault
votes_at document = ok_or (option_and_then vote_list (option_and_then as_array (get_member (codes "votes") document))) fault.Value

-- the problem of this number, 1 or 2
abbrev pub problem_numbered : ℕ → Problem
problem_numbered number = if number == 1 then First else Second

abbrev pub problem_at : Command → Members → Result Problem SettingsFault
problem_at c document = number_for c 1 1 2 (codes "problem") document >>= (λ number. Ok (problem_numbered number))

abbrev pub clients_at : Command → Members → Result ℕ SettingsFault
clients_at c document = number_for c MAX_CLIENTS 1 MAX_CLIENTS (codes "clients") document

-- The numbers of a ballot in a table: the votes of each node, and how many a read and a write need. They
-- may be numbers that make no ballot.
abbrev pub numbers_at : Members → Result Ballot SettingsFault
numbers_at table =
    votes_at table >>= (λ votes. number_at 0 65535 (codes "read") table >>= (λ read. number_at 0 65535 (codes "write") table >>= (λ write. Ok (ballot_of votes read write))))

-- the same of a value that has to be a table with these three keys and no others
abbrev pub numbers_of_table : Option Members → Result Ballot SettingsFault
numbers_of_table None = Err fault.Value
numbers_of_table (Some table) = if all_keys tells_ballot table then numbers_at table else Err fault.Value

abbrev pub numbers_in : Data → Result Ballot SettingsFault
numbers_in value = numbers_of_table (as_table value)

abbrev pub all_numbers : Items → Result (List Ballot) SettingsFault
all_numbers no_items = Ok []
all_numbers (item value rest) = numbers_in value >>= (λ b. all_numbers rest >>= (λ bs. Ok (b ∷ bs)))

-- the numbers of the other ballots, in order; there needn't be any
abbrev pub numbers_of_items : Option Items → Result (List Ballot) SettingsFault
numbers_of_items None = Err fault.Value
numbers_of_items (Some items) = all_numbers items

abbrev pub more_in : Option Data → Result (List Ballot) SettingsFault
more_in None = Ok []
more_in (Some value) = numbers_of_items (as_array value)

abbrev pub more_at : Members → Result (List Ballot) SettingsFault
more_at document = more_in (get_member (codes "more") document)

-- the numbers of a ballot, as they are kept until they are judged
abbrev pub numbers_of : Numbers → Ballot
numbers_of n = ballot_of n.votes.items n.read n.write

-- what numbers are, judged as a ballot: it, or what is wrong with it; and so each of a list, in order
abbrev pub ballot_said : {A : Type 0} → Result A BallotFault → Result A SettingsFault
ballot_said (Ok x) = Ok x
ballot_said (Err f) = Err (fault.Ballot f)

abbrev pub judged : Ballot → Result Ballot SettingsFault
judged b = ballot_said (ballot_unless (fault_of b) b)

abbrev pub all_judged : List Ballot → Result (List Ballot) SettingsFault
all_judged [] = Ok []
all_judged (b ∷ bs) = judged b >>= (λ x. all_judged bs >>= (λ xs. Ok (x ∷ xs)))

-- what is answered of the rest of a list, with its front before it
abbrev pub onto : {A : Type 0} → List A → Result (List A) SettingsFault → Result (List A) SettingsFault
onto front (Ok rest) = Ok (front ++ rest)
onto front (Err e) = Err e

-- the ballots, judged as a list
abbrev pub listed : List Ballot → Result (List Ballot) SettingsFault
listed ballots = ballot_said (list_unless (list_fault_of ballots) ballots)

-- What the values say of the world: the numbers of the first ballot, the first problem of every node, 1 or
-- 2, how many clients there are, and the numbers of more ballots. Each is needed but the last, and the
-- question for the ballot does without the problem and the clients. First each value is judged by itself,
-- then each ballot, and then the list of them.
unfoldable pub world_of : Command → Members → Result Settings SettingsFault
world_of c document =
    numbers_at document >>= (λ first. problem_at c document >>= (λ problem. clients_at c document >>= (λ clients. more_at document >>= (λ more.
    judged first >>= (λ one. onto (one ∷ []) (all_judged more) >>= (λ all. listed all >>= (λ ballots.
    Ok (record { ballots = ballots; problem = problem; clients = clients }))))))))

-- the values at `wishes` are texts, and no more than there may be
abbrev pub count : Items → ℕ
count no_items = 0
count (item value rest) = suc (count rest)

abbrev pub are_texts : Items → Bool
are_texts no_items = true
are_texts (item value rest) = is_some (as_str value) && are_texts rest

abbrev pub are_few_texts : Items → Bool
are_few_texts items = nat_le (count items) MAX_WISHES && are_texts items

abbrev pub few_texts_in : Option Items → Bool
few_texts_in None = false
few_texts_in (Some items) = are_few_texts items

abbrev pub wish_texts_in : Option Data → Bool
wish_texts_in None = true
wish_texts_in (Some value) = few_texts_in (as_array value)

abbrev pub has_wish_texts : Members → Bool
has_wish_texts document = wish_texts_in (get_member (codes "wishes") document)

-- The numbers that a weather is made of; a missing one is 0. What is said of the wishes here is only
-- that they are texts.
unfoldable pub run_values : Members → Result RunValues SettingsFault
run_values document =
    seed_at document >>= (λ seed. number_or 0 0 1000 (codes "lose") document >>= (λ lose. number_or 0 0 1000 (codes "twice") document >>= (λ twice.
    number_or 0 0 1000 (codes "late") document >>= (λ late.
    if has_wish_texts document then Ok (record { seed = seed; lose = lose; twice = twice; late = late }) else Err fault.Value))))

-- the weather of these numbers
abbrev pub weather_of : RunValues → Result Climate SettingsFault
weather_of run =
    if nat_le (run.lose + run.twice + run.late) 1000 then Ok (climate_of run.seed (odds_of run.lose run.twice run.late)) else Err (fault.Weather OverThousand)

-- the wishes that texts are, in order, or the first fault of one
abbrev pub wish_said : Result Wish LineFault → Result Wish SettingsFault
wish_said (Ok w) = Ok w
wish_said (Err f) = Err (fault.Wish f)

-- the wish, where there are so many ballots that one stands at its place
abbrev pub if_placed : ℕ → Wish → Result Wish SettingsFault
if_placed count w = if nat_le w.place count then Ok w else Err (fault.Wish line_fault.Number)

abbrev pub wish_from : ℕ → ℕ → Option (List ℕ) → Result Wish SettingsFault
wish_from clients count None = Err fault.Value
wish_from clients count (Some text) = wish_said (wish_among clients text) >>= (λ w. if_placed count w)

abbrev pub wishes_in : ℕ → ℕ → Items → Result (List Wish) SettingsFault
wishes_in clients count no_items = Ok []
wishes_in clients count (item value rest) = wish_from clients count (as_str value) >>= (λ w. wishes_in clients count rest >>= (λ ws. Ok (w ∷ ws)))

abbrev pub wishes_of : ℕ → ℕ → Option Items → Result (List Wish) SettingsFault
wishes_of clients count None = Ok []
wishes_of clients count (Some items) = wishes_in clients count items

abbrev pub wishes_at : ℕ → ℕ → Members → Result (List Wish) SettingsFault
wishes_at clients count document = wishes_of clients count (option_and_then as_array (get_member (codes "wishes") document))

-- What settings give: the world, the weather of each link of a run, and the wishes, in order.
pub record Given : Type 0 where
  pub settings : Settings
  pub weather : Climate
  pub wishes : List Wish

abbrev pub given : Start → Given
given s = record { settings = s.settings; weather = s.weather; wishes = s.wishes.items }

-- The wishes are of clients of which there are so many, by places that the ballots have, and no more than
-- there may be.
pub record AreAmong (clients : ℕ) (ballots : List Ballot) (wishes : List Wish) : Type 0 where
  pub theirs : All (λ w. w.client ≤ clients) wishes
  pub placed : All (λ w. HasPlace ballots w.place) wishes
  pub few : length wishes ≤ MAX_WISHES

-- What the values say. First each is judged by itself, then the ballots, then the weather, and then the
-- wishes.
unfoldable pub values_of : Command → Members → Result Given SettingsFault
values_of c document =
    run_values document >>= (λ run. world_of c document >>= (λ s. weather_of run >>= (λ w. wishes_at s.clients (length s.ballots) document >>= (λ ws.
    Ok (record { settings = s; weather = w; wishes = ws })))))

abbrev pub document_settings : Command → Option Members → Result Given SettingsFault
document_settings c None = Err fault.NoDocument
document_settings c (Some document) = if all_known document then values_of c document else Err fault.UnknownKey

-- what a head gives to a command, or the first thing that is wrong with it
unfoldable pub settings_of : Command → List ℕ → Result Given SettingsFault
settings_of c head = if is_utf8 head then document_settings c (parse_document head) else Err fault.NoDocument
