-- Words that `clap` takes do not name its subcommand `help`, which answers with a text.
use Rattle.std.proofs.Common.{◌≡◌, ◌&&◌, not, Bool, true, false, cond, ℕ, List, [], ◌∷◌, codes, Option, Some, None, is_some, fold, refl, subst}
use Rattle.std.specs.Str.{bytes_eq}
use Rattle.clap.specs.Lexer.{long_of, short_of}
use Rattle.clap.specs.Kinds.{Kinds, or_else}
use Rattle.clap.specs.Faults.{other_fault, word_fault, step_fault, turn_fault, walk_fault}
use Rattle.clap.specs.Simple.{Shape}
use Rattle.clap.specs.Walk.{Held, Names, Outcome, Rule, Step, Text, Waiting, Walk, done, waits, plain, refused, idle, option, positional, next, trailing, subcommand, value}
use Rattle.clap.specs.Walk.{after_flag, after_step, arg_by_index, arg_by_long, bundle, long_met, long_or_other, plain_word, short_or_plain, subcommand_met, subcommand_or_other, to_positional, walked, walked_from, word_met}
use Rattle.clap.specs.declared.error.kind.ErrorKind.TheVariants as kind

-- a walk did not stop at `help`
abbrev pub NotHelp : Option (Text × List Text) → Type 0
NotHelp None = Unit {0}
NotHelp (Some p) = p.0 ≡ codes "help" → ⊥

-- a step does not lead there
abbrev LeadsElsewhere : Step → Type 0
LeadsElsewhere (next w) = Unit {0}
LeadsElsewhere (trailing p) = Unit {0}
LeadsElsewhere (subcommand name) = name ≡ codes "help" → ⊥
LeadsElsewhere value = Unit {0}

plain_step : (c : List Rule) (w : Waiting) (word : Text) (h : Held) → LeadsElsewhere (plain_word c w word h).1
plain_step c idle word h = tt
plain_step c (option id) word h = tt
plain_step c positional word h = tt

flag_step : (c : List Rule) (w : Waiting) (word : Text) (h : Held) (o : Outcome) → LeadsElsewhere (after_flag c w word h o).1
flag_step c w word h done = tt
flag_step c w word h (waits id) = tt
flag_step c w word h plain = plain_step c w word h
flag_step c w word h refused = plain_step c w word h

short_step : (c : List Rule) (w : Waiting) (word : Text) (o : Option Text) (h : Held) → LeadsElsewhere (short_or_plain c w word o h).1
short_step c w word (Some flags) h = flag_step c w word (bundle c flags h).0 (bundle c flags h).1
short_step c w word None h = plain_step c w word h

long_step : (c : List Rule) (w : Waiting) (word : Text) (o : Option (Text × Option Text)) (h : Held) → LeadsElsewhere (long_or_other c w word o h).1
long_step c w word (Some p) h = flag_step c w word (long_met c (arg_by_long c p.0) p.1 h).0 (long_met c (arg_by_long c p.0) p.1 h).1
long_step c w word None h = short_step c w word (short_of word) h

chosen_step : (b : Bool) (x y : Held × Step) → LeadsElsewhere x.1 → LeadsElsewhere y.1 → LeadsElsewhere (cond b x y).1
chosen_step true x y hx hy = hx
chosen_step false x y hx hy = hy

-- what `clap` finds wrong with `help` as a subcommand
abbrev help_kinds : Bool → Bool → Kinds
help_kinds named off = cond (named && not off) (kind.DisplayHelp ∷ kind.InvalidSubcommand ∷ []) []

met_step : (s : Shape) (o : Option Text) (w : Waiting) (p : ℕ) (word : Text) (h : Held) → s.disable_help_subcommand ≡ false → other_fault s o word h ≡ [] → LeadsElsewhere (subcommand_or_other s.rules o w p word h).1
met_step s (Some name) w p word h off none = λ e.
    let one : help_kinds (bytes_eq name (codes "help")) false ≡ [] = subst (λ (b : Bool). help_kinds (bytes_eq name (codes "help")) b ≡ []) off none in
    let two : help_kinds (bytes_eq (codes "help") (codes "help")) false ≡ [] = subst (λ (n : Text). help_kinds (bytes_eq n (codes "help")) false ≡ []) e one in
    let clash : kind.DisplayHelp ∷ kind.InvalidSubcommand ∷ [] ≡ [] = two in
    cc
met_step s None w p word h off none =
    chosen_step (bytes_eq word (45 ∷ 45 ∷ [])) (h, trailing p) (long_or_other s.rules w word (long_of word) h) tt (long_step s.rules w word (long_of word) h)

word_step : (s : Shape) (names : Names) (t : Bool) (w : Waiting) (p : ℕ) (word : Text) (h : Held) → s.disable_help_subcommand ≡ false → word_fault s names t w word h ≡ [] → LeadsElsewhere (word_met s.rules names t w p word h).1
word_step s names true w p word h off none = tt
word_step s names false w p word h off none = met_step s (subcommand_met names w word) w p word h off none

positional_keeps : (c : List Rule) (o : Option Rule) (word : Text) (w : Walk) (h : Held) → NotHelp w.stopped → NotHelp (to_positional c o word w h).stopped
positional_keeps c None word w h k = k
positional_keeps c (Some a) word w h k = tt

step_keeps : (c : List Rule) (word : Text) (w : Walk) (h : Held) (t : Step) → LeadsElsewhere t → NotHelp w.stopped → NotHelp (after_step c word w h t).stopped
step_keeps c word w h (next waiting) e k = k
step_keeps c word w h (trailing p) e k = k
step_keeps c word w h (subcommand name) e k = e
step_keeps c word w h value e k = positional_keeps c (arg_by_index c w.position) word w h k

first_none : (a b : Kinds) → or_else a b ≡ [] → a ≡ []
first_none [] b e = refl
first_none (k ∷ ks) b e = let clash : k ∷ ks ≡ [] = e in cc

second_none : (a b : Kinds) → or_else a b ≡ [] → b ≡ []
second_none [] b e = e
second_none (k ∷ ks) b e = let clash : k ∷ ks ≡ [] = e in cc

-- what is wrong with a word, where a subcommand was met or was not
abbrev met_in : Shape → Names → Walk → Text → Held × Step
met_in s names w word = word_met s.rules names w.is_trailing w.waiting w.position word w.held

abbrev fault_in : Shape → Names → Walk → Text → Bool → Kinds
fault_in s names w word stopped =
    cond stopped [] (or_else (word_fault s names w.is_trailing w.waiting word w.held) (step_fault s w.position (met_in s names w word).0 (met_in s names w word).1))

turn_from : (s : Shape) (names : Names) (w : Walk) (word : Text) (o : Option (Text × List Text)) → s.disable_help_subcommand ≡ false → fault_in s names w word (is_some o) ≡ [] → o ≡ w.stopped → NotHelp o
    → NotHelp (walked_from s.rules names o w word).stopped
turn_from s names w word (Some p) off none is k = k
turn_from s names w word None off none is k =
    let met = met_in s names w word in
    let kept : NotHelp w.stopped = subst NotHelp is k in
    step_keeps s.rules word w met.0 met.1 (word_step s names w.is_trailing w.waiting w.position word w.held off (first_none _ _ none)) kept

turn_keeps : (s : Shape) (names : Names) (w : Walk) (word : Text) → s.disable_help_subcommand ≡ false → turn_fault s names w word ≡ [] → NotHelp w.stopped → NotHelp (walked s.rules names w word).stopped
unfolding walked
turn_keeps s names w word off none k = turn_from s names w word w.stopped off none refl k

pub walk_keeps : (s : Shape) (names : Names) (words : List Text) (w : Walk) → s.disable_help_subcommand ≡ false → walk_fault s names w words ≡ [] → NotHelp w.stopped → NotHelp (fold (walked s.rules names) w words).stopped
unfolding walk_fault
walk_keeps s names [] w off none k = k
walk_keeps s names (word ∷ words) w off none k =
    walk_keeps s names words (walked s.rules names w word) off (second_none (turn_fault s names w word) _ none) (turn_keeps s names w word off (first_none (turn_fault s names w word) _ none) k)
