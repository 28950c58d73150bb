-- Openings are sound and lawful, exactly where no entry is above its client's attempt.
use Rattle.std.proofs.Common.{◌≡◌, ◌≢◌, ℕ, ◌+◌, ◌≤◌, true, nat_le, List, [], ◌∷◌, length, zero, suc, Option, Some, None, IfSome, refl, sym, ◌∙◌, ap, subst, arith, zero-le}
use Rattle.std.specs.Prelude.{map, replicate}
use Rattle.std.specs.List.{AllByRecursion}
use Rattle.std.specs.Option.{option_map}
use Rattle.std.proofs.lemmas.Bool.{le-leb, and_parts, and_from, leb-true}
use Rattle.std.proofs.lemmas.Bool.Decides.{nat_tests}
use Rattle.std.proofs.lemmas.List.{length-map}
use Rattle.lock_messages.specs.declared.ids.TheConstants.{MAX_ATTEMPT}
use Rattle.lock_messages.specs.declared.tickets.Mode.TheVariants.{Write}
use Rattle.lock_model.specs.declared.entries.Entry.{Entry}
use Rattle.lock_model.specs.declared.entries.Live.{Live}
use Rattle.lock_model.specs.declared.entries.Status.TheVariants.{Waiting}
use Rattle.lock_model.specs.declared.problems.Problem.{Problem}
use Rattle.lock_model.specs.declared.problems.Problem.TheVariants.{First}
use Rattle.lock_model.specs.Ballots.{Ballot, AllCross, node_count}
use Rattle.lock_model.specs.Stations.{Free, Has, IsLawful, IsCaused, stranger}
use Rattle.lock_model.specs.Decisions.{Among}
use Rattle.lock_model.specs.ExactStations.{IsAboveFloor, entry_of, claim_of, standing_of, meaning}
use Rattle.lock_model.proofs.EntryFacts.{entry_of-found, entry_of-among}
use Rattle.lock_model.proofs.JudgementFacts.{all-of, all-from}
use Rattle.world_model.specs.declared.exact.ExactStation.{ExactStation}
use Rattle.world_model.specs.Worlds.{NodeDown, Node, ClientDown, Client, HasClient, IsWithin, IsLawfulOpening}
use Rattle.world_model.specs.ExactWorlds.{numbered}
use Rattle.world_model.specs.Openings.{down_node, down_client, resumed, empty_station, attempt_of, kept_attempt, live_within, entry_within, entries_within, stations_within, IsResumable}
use Rattle.world_model.specs.Forgetting.{station_of, node_numbered, client_numbered, forget, setting_of, IsSoundStation, IsSoundNode, IsSoundClient, IsSound}
use Rattle.world_model.specs.Numbered.{numbered-one, numbered-map}
use Rattle.world_model.proofs.ListFacts.{numbered-among, among-got, got-numbered, each-among}
use Rattle.world_model.proofs.SafeRuns.{opening-safe}

-- nothing is kept

nobody-lawful : (p : Problem) → IsLawful (meaning p [])
nobody-lawful p = record { alone = λ c d m x holds other. absurd (let q : Free ≡ Has Write x holds.0 = holds.2 in cc) }

nobody-caused : (p : Problem) → IsCaused (meaning p [])
nobody-caused p = record { cause = λ c m x waits. absurd (let q : Free ≡ Has m x Waiting = waits in cc) }

empty-sound : (problems : List Problem) → AllByRecursion IsSoundStation (map empty_station problems)
empty-sound [] = tt
empty-sound (p ∷ problems) = (record { well_formed = record { once = tt; attempts = tt; softened = tt }; lawful = nobody-lawful p; caused = nobody-caused p }, empty-sound problems)

empty-within : (attempts : List ℕ) (problems : List Problem) → stations_within attempts (map empty_station problems) ≡ true
empty-within attempts [] = refl
empty-within attempts (p ∷ problems) = empty-within attempts problems

none-in-range : (clients : ℕ) → AllByRecursion (λ a. a ≤ MAX_ATTEMPT) (replicate clients 0)
none-in-range zero = tt
none-in-range (suc clients) = (zero-le, none-in-range clients)

pub opening-resumable : (b : List Ballot) (problems : List Problem) (clients : ℕ) → AllCross b → length problems ≡ node_count b → IsResumable b (map empty_station problems) (replicate clients 0)
opening-resumable b problems clients crosses many = record {
  crosses = crosses;
  nodes = length-map problems empty_station ∙ many;
  sound = empty-sound problems;
  in_range = none-in-range clients;
  within = empty-within (replicate clients 0) problems;
}

-- of each image
image-of : {A B : Type 0} (f : A → B) (P : B → Type 0) (xs : List A) → ((x : A) → Among x xs → P (f x)) → (k : ℕ) (y : B) → numbered (map f xs) k ≡ Some y → P y
image-of {A} {B} f P xs all k y h = go (numbered xs k) refl (sym (numbered-map f xs k) ∙ h)
  where
    go : (o : Option A) → numbered xs k ≡ o → option_map f o ≡ Some y → P y
    go None is z = absurd (let q : None ≡ Some y = z in cc)
    go (Some x) is z = let q : Some (f x) ≡ Some y = z in let e : f x ≡ y = cc in subst P e (all x (numbered-among xs k x is))

-- what stands in a world that was resumed

module _ (b : List Ballot) (stations : List ExactStation) (attempts : List ℕ) where
  node-is : (n : ℕ) → (forget (resumed b stations attempts)).nodes n ≡ node_numbered (option_map down_node (numbered stations n))
  node-is n = ap node_numbered (numbered-map down_node stations n)

  client-is : (c : ℕ) → (forget (resumed b stations attempts)).clients c ≡ client_numbered (option_map down_client (numbered attempts c))
  client-is c = ap client_numbered (numbered-map down_client attempts c)

  kept-is : (c : ℕ) → ((forget (resumed b stations attempts)).clients c).kept ≡ kept_attempt attempts c
  kept-is c = ap (λ (k : Client). k.kept) (client-is c) ∙ go (numbered attempts c)
    where
      go : (o : Option ℕ) → (client_numbered (option_map down_client o)).kept ≡ attempt_of o
      go None = refl
      go (Some a) = refl

  node-down : (o : Option ExactStation) → (node_numbered (option_map down_node o)).phase ≡ NodeDown
  node-down None = refl
  node-down (Some s) = refl

  client-down : (o : Option ℕ) → (client_numbered (option_map down_client o)).phase ≡ ClientDown
  client-down None = refl
  client-down (Some a) = refl

  station-untried : (o : Option ExactStation) → (node_numbered (option_map down_node o)).tried ≡ None
  station-untried None = refl
  station-untried (Some s) = refl

  attempt-untried : (o : Option ℕ) → (client_numbered (option_map down_client o)).tried ≡ None
  attempt-untried None = refl
  attempt-untried (Some a) = refl

-- an entry within is one

stranger-within : (kept : ℕ) → IsWithin kept stranger
stranger-within kept = record { floor = zero-le; live = λ apart. absurd (apart refl) }

live-within : (kept floor : ℕ) (o : Option Live) → IfSome o (λ l. l.attempt ≡ floor + 1) → live_within kept o ≡ true → claim_of o ≢ Free → floor + 1 ≤ kept
live-within kept floor None above test apart = absurd (apart refl)
live-within kept floor (Some l) above test apart = below (l.attempt) (floor + 1) kept above test
  where
    below : (a f k : ℕ) → a ≡ f → nat_le a k ≡ true → f ≤ k
    below a f k e t = grind (arith, nat_tests)

entry-is-within : (attempts : List ℕ) (e : Entry) → IsAboveFloor e → entry_within attempts e ≡ true → IsWithin (kept_attempt attempts e.client) (standing_of (Some e))
entry-is-within attempts e above test =
    let kept = kept_attempt attempts e.client in
    let parts = and_parts (nat_le e.floor kept) (live_within kept e.live) test in
    record { floor = leb-true e.floor kept parts.0; live = live-within kept e.floor e.live above parts.1 }

station-is-within : (attempts : List ℕ) (s : ExactStation) (c : ℕ) → IsSoundStation s → entries_within attempts s.entries ≡ true → IsWithin (kept_attempt attempts c) ((station_of s).at c)
station-is-within attempts s c sound test = go (entry_of s.entries c) refl
  where
    go : (o : Option Entry) → entry_of s.entries c ≡ o → IsWithin (kept_attempt attempts c) (standing_of o)
    go None is = stranger-within (kept_attempt attempts c)
    go (Some e) is =
        let found = entry_of-found s.entries c e is in
        subst (λ d. IsWithin (kept_attempt attempts d) (standing_of (Some e))) found.1
        (entry-is-within attempts e (each-among IsAboveFloor s.entries e sound.well_formed.attempts found.0) (all-of (entry_within attempts) s.entries e test found.0))

pub resumed-lawful : (b : List Ballot) (stations : List ExactStation) (attempts : List ℕ) → IsResumable b stations attempts →
    IsLawfulOpening (setting_of (resumed b stations attempts)) (forget (resumed b stations attempts))
resumed-lawful b stations attempts ok = record {
  nodes_down = λ n. ap (λ (v : Node). v.phase) (node-is b stations attempts n) ∙ node-down b stations attempts (numbered stations n);
  clients_down = λ c. ap (λ (k : Client). k.phase) (client-is b stations attempts c) ∙ client-down b stations attempts (numbered attempts c);
  nothing_sent = refl;
  no_station_tried = λ n. ap (λ (v : Node). v.tried) (node-is b stations attempts n) ∙ station-untried b stations attempts (numbered stations n);
  no_attempt_tried = λ c. ap (λ (k : Client). k.tried) (client-is b stations attempts c) ∙ attempt-untried b stations attempts (numbered attempts c);
  lawful = λ n. subst (λ (v : Node). IsLawful v.kept) (sym (node-is b stations attempts n)) (lawful n (numbered stations n) refl);
  caused = λ n. subst (λ (v : Node). IsCaused v.kept) (sym (node-is b stations attempts n)) (caused n (numbered stations n) refl);
  within = λ n c. subst (λ kept. IsWithin kept (((forget (resumed b stations attempts)).nodes n).kept.at c)) (sym (kept-is b stations attempts c))
      (subst (λ (v : Node). IsWithin (kept_attempt attempts c) (v.kept.at c)) (sym (node-is b stations attempts n)) (within n c (numbered stations n) refl));
  strangers = λ c out. kept-is b stations attempts c ∙ nothing c out (numbered attempts c) refl;
}
  where
    sound : (n : ℕ) (s : ExactStation) → numbered stations n ≡ Some s → IsSoundStation s
    sound n s is = each-among IsSoundStation stations s ok.sound (numbered-among stations n s is)

    lawful : (n : ℕ) (o : Option ExactStation) → numbered stations n ≡ o → IsLawful (node_numbered (option_map down_node o)).kept
    lawful n None is = nobody-lawful First
    lawful n (Some s) is = (sound n s is).lawful

    caused : (n : ℕ) (o : Option ExactStation) → numbered stations n ≡ o → IsCaused (node_numbered (option_map down_node o)).kept
    caused n None is = nobody-caused First
    caused n (Some s) is = (sound n s is).caused

    within : (n c : ℕ) (o : Option ExactStation) → numbered stations n ≡ o → IsWithin (kept_attempt attempts c) ((node_numbered (option_map down_node o)).kept.at c)
    within n c None is = stranger-within (kept_attempt attempts c)
    within n c (Some s) is =
        station-is-within attempts s c (sound n s is) (all-of (λ (u : ExactStation). entries_within attempts u.entries) stations s ok.within (numbered-among stations n s is))

    nothing : (c : ℕ) → ¬ (HasClient (setting_of (resumed b stations attempts)) c) → (o : Option ℕ) → numbered attempts c ≡ o → attempt_of o ≡ 0
    nothing c out None is = refl
    nothing c out (Some a) is =
        let r = numbered-one attempts c a is in
        absurd (out (r.0, omega (arith, r.1, length-map attempts down_client)))

-- so it is sound

pub resumed-sound : (b : List Ballot) (stations : List ExactStation) (attempts : List ℕ) → IsResumable b stations attempts → IsSound (resumed b stations attempts)
resumed-sound b stations attempts ok = record {
  crosses = ok.crosses;
  nodes = length-map stations down_node ∙ ok.nodes;
  each_node = image-of down_node IsSoundNode stations (λ s m. record { kept = each-among IsSoundStation stations s ok.sound m; tried = tt; decided = tt });
  each_client = image-of down_client IsSoundClient attempts (λ a m. record { kept = each-among (λ x. x ≤ MAX_ATTEMPT) attempts a ok.in_range m; tried = tt; chosen = tt });
  room = zero-le;
  safe = opening-safe (setting_of (resumed b stations attempts)) (forget (resumed b stations attempts)) (resumed-lawful b stations attempts ok);
}

-- and only these are lawful

live-test : (kept floor : ℕ) (o : Option Live) → IfSome o (λ l. l.attempt ≡ floor + 1) → (claim_of o ≢ Free → floor + 1 ≤ kept) → live_within kept o ≡ true
live-test kept floor None above within = refl
live-test kept floor (Some l) above within =
    let below : floor + 1 ≤ kept = within (λ e. let q : Has l.mode l.resource l.status ≡ Free = e in cc) in
    le-leb l.attempt kept (omega (arith, above, below))

entry-test : (attempts : List ℕ) (e : Entry) → IsAboveFloor e → IsWithin (kept_attempt attempts e.client) (standing_of (Some e)) → entry_within attempts e ≡ true
entry-test attempts e above within =
    let kept = kept_attempt attempts e.client in
    and_from (nat_le e.floor kept) (live_within kept e.live) (le-leb e.floor kept within.floor) (live-test kept e.floor e.live above within.live)

pub only-within : (b : List Ballot) (stations : List ExactStation) (attempts : List ℕ) → AllByRecursion IsSoundStation stations →
    IsLawfulOpening (setting_of (resumed b stations attempts)) (forget (resumed b stations attempts)) → stations_within attempts stations ≡ true
only-within b stations attempts sound lawful =
    all-from (λ (s : ExactStation). entries_within attempts s.entries) stations (λ s m. all-from (entry_within attempts) s.entries (λ e among. test s m e among))
  where
    test : (s : ExactStation) → Among s stations → (e : Entry) → Among e s.entries → entry_within attempts e ≡ true
    test s m e among =
        let ok = each-among IsSoundStation stations s sound m in
        let place = among-got stations s m in
        let n = place.0 + 1 in
        let c = e.client in
        let at : (forget (resumed b stations attempts)).nodes n ≡ node_numbered (Some (down_node s)) = node-is b stations attempts n ∙ ap (λ o. node_numbered (option_map down_node o)) (got-numbered stations place.0 s place.1) in
        let within : IsWithin (kept_attempt attempts c) ((station_of s).at c) =
        subst (λ (v : Node). IsWithin (kept_attempt attempts c) (v.kept.at c)) at
        (subst (λ kept. IsWithin kept (((forget (resumed b stations attempts)).nodes n).kept.at c)) (kept-is b stations attempts c) (lawful.within n c)) in
        entry-test attempts e (each-among IsAboveFloor s.entries e ok.well_formed.attempts among)
        (subst (λ o. IsWithin (kept_attempt attempts c) (standing_of o)) (entry_of-among s.entries e ok.well_formed.once among) within)
