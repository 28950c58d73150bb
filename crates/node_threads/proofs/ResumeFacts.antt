-- A world that was resumed from records may run with these.
use Rattle.std.proofs.Common.{◌≡◌, ℕ, ◌+◌, ◌-◌, ◌<◌, ◌≤◌, List, [], ◌∷◌, ◌++◌, length, get_or, map, slice_get, Some, None, ◌⊎◌, inl, inr, sym, ◌∙◌, ap, arith}
use Rattle.std.specs.Option.{option_map}
use Rattle.std.proofs.lemmas.List.{same_lists, length-map}
use Rattle.std.proofs.lemmas.Option.{slice_get-map, slice_get_cases, get_or_from_slice_get}
use Rattle.stable_record.specs.declared.node_records.NodeRecord.{NodeRecord}
use Rattle.stable_record.specs.Records.{node_record_of, client_record_of}
use Rattle.world_model.specs.ExactWorlds.{numbered}
use Rattle.world_model.specs.Numbered.{numbered-next}
use Rattle.world_opening.specs.Openings.{IsEach, NodeFinds, ClientFinds, station_in, stations_in}
use Rattle.node_threads.specs.Conditions.{finds_station, finds_attempt}
use Rattle.node_threads.specs.Laws.{ResumedMayRun, finds_each}
use Rattle.node_threads.proofs.Returned.{image_of_image}

-- where each of these is spelled by the bytes of its number, the bytes are their spellings
spelled_each : {A : Type 0} (spell : A → List ℕ) (P : ℕ → A → Type 0) (found : List (List ℕ)) (all : List A) → IsEach (length found) P all → ((n : ℕ) (a : A) → P n a → numbered found n ≡ Some (spell a)) → found ≡ map spell all
spelled_each spell P found all is spelled = same_lists found (map spell all) count at
  where
    count : length found ≡ length (map spell all)
    count = sym (length-map all spell ∙ is.count_is)

    at : (k : ℕ) (d : List ℕ) → k < length found → get_or found k d ≡ get_or (map spell all) k d
    at k d below = go (slice_get_cases all k).1
      where
        go : ((x : _) × (k < length all) × (slice_get all k ≡ Some x) × (get_or all k x ≡ x)) ⊎ ((length all ≤ k) × (slice_get all k ≡ None)) → get_or found k d ≡ get_or (map spell all) k d
        go (inr h) = absurd (let e = is.count_is in omega (arith, h.0, e, below))
        go (inl h) =
            let there : slice_get found k ≡ Some (spell h.0) = sym (numbered-next found k) ∙ spelled (k + 1) h.0 (is.each (k + 1) h.0 (numbered-next all k ∙ h.2)) in
            let image : slice_get (map spell all) k ≡ Some (spell h.0) = slice_get-map spell all k ∙ ap (option_map spell) h.2 in
            get_or_from_slice_get found k (spell h.0) d there ∙ sym (get_or_from_slice_get (map spell all) k (spell h.0) d image)

nodes_spell : (found : List (List ℕ)) (records : List NodeRecord) → IsEach (length found) (NodeFinds found) records → found ≡ map node_record_of records
nodes_spell found records is = spelled_each node_record_of (NodeFinds found) found records is (λ n r finds. finds.finds ∙ ap Some finds.reads.spelled)

clients_spell : (found : List (List ℕ)) (attempts : List ℕ) → IsEach (length found) (ClientFinds found) attempts → found ≡ map client_record_of attempts
clients_spell found attempts is = spelled_each client_record_of (ClientFinds found) found attempts is (λ n a finds. finds.finds ∙ ap Some finds.reads.spelled)

stations_find : (found : List (List ℕ)) (records : List NodeRecord) → found ≡ map node_record_of records → finds_each found ≡ map finds_station (stations_in records)
stations_find found records is =
    ap finds_each is ∙ image_of_image node_record_of (λ (bytes : List ℕ). bytes ∷ []) records ∙ sym (image_of_image station_in finds_station records)

attempts_find : (found : List (List ℕ)) (attempts : List ℕ) → found ≡ map client_record_of attempts → finds_each found ≡ map finds_attempt attempts
attempts_find found attempts is = ap finds_each is ∙ image_of_image client_record_of (λ (bytes : List ℕ). bytes ∷ []) attempts

pub resumed_runs : ResumedMayRun
resumed_runs b nodes clients w h = record {
  stations = stations_in h.records;
  attempts = h.attempts;
  world = h.world;
  paired = sym (length-map h.records station_in ∙ h.nodes_keep.count_is);
  records =
      ap (λ xs. xs ++ finds_each clients) (stations_find nodes h.records (nodes_spell nodes h.records h.nodes_keep))
      ∙ ap (λ xs. map finds_station (stations_in h.records) ++ xs) (attempts_find clients h.attempts (clients_spell clients h.attempts h.clients_keep));
}
