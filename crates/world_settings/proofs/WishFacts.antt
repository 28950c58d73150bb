-- The wishes that settings give are of their clients and by places of their ballots, and no more than there
-- may be.
use Rattle.std.proofs.Common.{◌≡◌, ℕ, suc, ◌≤◌, nat_le, Bool, true, false, cond, ◌&&◌, List, [], ◌∷◌, length, Option, Some, None, option_and_then, Result, Ok, Err, codes, refl, sym, ap, subst, ◌∙◌, arith}
use Rattle.std.specs.List.{All}
use Rattle.std.proofs.lemmas.Bool.{leb-true}
use Rattle.std.proofs.lemmas.List.Elements.{All-nil, All-cons}
use Rattle.toml.specs.Data.{Items, no_items, item, Data, Members, get_member, as_str, as_array}
use Rattle.lock_model.specs.Ballots.{Ballot}
use Rattle.event_lines.specs.declared.faults.LineFault.{LineFault}
use Rattle.event_lines.specs.declared.faults.LineFault.TheVariants as line_fault
use Rattle.event_lines.specs.declared.wishes.Wish.{Wish}
use Rattle.event_lines.specs.Wishes.{wish_among}
use Rattle.world_settings.specs.declared.faults.SettingsFault.{SettingsFault}
use Rattle.world_settings.specs.declared.faults.SettingsFault.TheVariants as fault
use Rattle.world_settings.specs.declared.settings.RunValues.{RunValues}
use Rattle.event_lines.specs.declared.wishes.TheConstants.{MAX_WISHES}
use Rattle.world_settings.specs.Settings.{◌>>=◌, AreAmong, count as count_of, are_texts, seed_at, number_or, few_texts_in, wish_texts_in, has_wish_texts, run_values, wish_said, if_placed, wish_from, wishes_in, wishes_of, wishes_at}
use Rattle.world_settings.proofs.WishTexts.{within}

-- what is answered behind a part was answered by it
behind : {A B : Type 0} (r : Result A SettingsFault) (f : A → Result B SettingsFault) (y : B) → r >>= f ≡ Ok y → (x : A) × (r ≡ Ok x) × (f x ≡ Ok y)
behind (Ok x) f y h = (x, refl, h)
behind (Err e) f y h = let clash : Err e ≡ Ok y = h in cc

placed : (count : ℕ) (w u : Wish) → if_placed count w ≡ Ok u → (w ≡ u) × (w.place ≤ count)
placed count w u h = go (nat_le w.place count) refl h
  where
    go : (b : Bool) → nat_le w.place count ≡ b → cond b (Ok w) (Err (fault.Wish line_fault.Number)) ≡ Ok u → (w ≡ u) × (w.place ≤ count)
    go true t e = (let s : Ok w ≡ Ok u = e in cc, leb-true _ _ t)
    go false t e = let clash : Err (fault.Wish line_fault.Number) ≡ Ok u = e in cc

-- the wish is of a client of which there are so many, and of a place that is there
abbrev IsTheirs : ℕ → ℕ → Wish → Type 0
IsTheirs clients count w = (w.client ≤ clients) × (1 ≤ w.place) × (w.place ≤ count)

said : (clients count : ℕ) (bytes : List ℕ) (r : Result Wish LineFault) (w : Wish) → wish_among clients bytes ≡ r → wish_said r >>= (λ u. if_placed count u) ≡ Ok w → IsTheirs clients count w
said clients count bytes (Ok u) w e h =
    let at = placed count u w h in
    let own = within clients bytes u e in
    subst (λ (v : Wish). IsTheirs clients count v) at.0 (own.0, own.1.0, at.1)
said clients count bytes (Err f) w e h = let clash : Err (fault.Wish f) ≡ Ok w = h in cc

told : (clients count : ℕ) (text : Option (List ℕ)) (w : Wish) → wish_from clients count text ≡ Ok w → IsTheirs clients count w
told clients count None w h = let clash : Err fault.Value ≡ Ok w = h in cc
told clients count (Some bytes) w h = said clients count bytes (wish_among clients bytes) w refl h

abbrev Theirs : ℕ → ℕ → List Wish → Type 0
Theirs clients count ws = All (λ w. IsTheirs clients count w) ws

-- the wishes of a list are so many
listed : (clients count : ℕ) (items : Items) (ws : List Wish) → wishes_in clients count items ≡ Ok ws → Theirs clients count ws × (length ws ≡ count_of items)
listed clients count no_items ws h =
    let none : [] ≡ ws = (let s : Ok [] ≡ Ok ws = h in cc) in
    (subst (λ (us : List Wish). Theirs clients count us) none (All-nil (λ w. IsTheirs clients count w)), ap length (sym none))
listed clients count (item value rest) ws h =
    let (w, is_wish, k) = behind (wish_from clients count (as_str value)) _ ws h in
    let (more, are_wishes, l) = behind (wishes_in clients count rest) _ ws k in
    let others = listed clients count rest more are_wishes in
    let same : w ∷ more ≡ ws = (let s : Ok (w ∷ more) ≡ Ok ws = l in cc) in
    (subst (λ (us : List Wish). Theirs clients count us) same (All-cons (λ u. IsTheirs clients count u) w more (told clients count (as_str value) w is_wish) others.0), ap length (sym same) ∙ ap suc others.1)

-- both halves of it, each of all wishes
among_of : (clients : ℕ) (ballots : List Ballot) (ws : List Wish) → Theirs clients (length ballots) ws → length ws ≤ MAX_WISHES → AreAmong clients ballots ws
among_of clients ballots ws all few = record { theirs = λ i d within. (all i d within).0; placed = λ i d within. ((all i d within).1, (all i d within).2); few = few }

of_both : (a b : Bool) → (a && b) ≡ true → a ≡ true
of_both true b h = refl
of_both false b h = h

few : (clients : ℕ) (ballots : List Ballot) (o : Option Data) (ws : List Wish) → wish_texts_in o ≡ true → wishes_of clients (length ballots) (option_and_then as_array o) ≡ Ok ws → AreAmong clients ballots ws
few clients ballots None ws t h =
    let none : [] ≡ ws = (let s : Ok [] ≡ Ok ws = h in cc) in
    subst (λ (us : List Wish). AreAmong clients ballots us) none (among_of clients ballots [] (All-nil (λ w. IsTheirs clients (length ballots) w)) (omega arith))
few clients ballots (Some value) ws t h = in_array (as_array value) ws t h
  where
    in_array : (a : Option Items) (ws : List Wish) → few_texts_in a ≡ true → wishes_of clients (length ballots) a ≡ Ok ws → AreAmong clients ballots ws
    in_array None ws t h = let clash : false ≡ true = t in cc
    in_array (Some items) ws t h =
        let all = listed clients (length ballots) items ws h in
        among_of clients ballots ws all.0 (subst (λ n. n ≤ MAX_WISHES) (sym all.1) (leb-true (count_of items) MAX_WISHES (of_both (nat_le (count_of items) MAX_WISHES) (are_texts items) t)))

texts : (b : Bool) (run u : RunValues) → cond b (Ok run) (Err fault.Value) ≡ Ok u → b ≡ true
texts true run u h = refl
texts false run u h = let clash : Err fault.Value ≡ Ok u = h in cc

-- where there are numbers of a run, the wishes are few texts
are_texts_first : (document : Members) (run : RunValues) → run_values document ≡ Ok run → has_wish_texts document ≡ true
unfolding run_values
are_texts_first document run h =
    let (seed, is_seed, a) = behind (seed_at document) _ run h in
    let (lose, is_lose, b) = behind (number_or 0 0 1000 (codes "lose") document) _ run a in
    let (twice, is_twice, c) = behind (number_or 0 0 1000 (codes "twice") document) _ run b in
    let (late, is_late, d) = behind (number_or 0 0 1000 (codes "late") document) _ run c in
    texts (has_wish_texts document) _ run d

pub among : (clients : ℕ) (ballots : List Ballot) (document : Members) (run : RunValues) (ws : List Wish) → run_values document ≡ Ok run → wishes_at clients (length ballots) document ≡ Ok ws → AreAmong clients ballots ws
among clients ballots document run ws h k = few clients ballots (get_member (codes "wishes") document) ws (are_texts_first document run h) k
