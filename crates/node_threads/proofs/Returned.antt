-- The records of clients that come back, once their berths are tied to the book.
use Rattle.std.proofs.Common.{◌≡◌, ℕ, List, [], ◌∷◌, ◌++◌, length, map, Option, Some, None, refl, sym, ◌∙◌, ap, subst}
use Rattle.std.specs.List.{All, filter_map, range_with_len}
use Rattle.std.proofs.lemmas.List.Elements.{All-map}
use Rattle.std.specs.Prelude.{IfNone}
use Rattle.lock_messages.specs.declared.ids.Actor.TheVariants as actor
use Rattle.lock_model.specs.Decisions.{Among}
use Rattle.lock_model.proofs.GrantFacts.{among-right}
use Rattle.event_recorders.specs.declared.faults.RunFault.{RunFault}
use Rattle.event_recorders.specs.OwnLogs.{FindsItsOwn}
use Rattle.world_model.specs.declared.exact.ExactWorld.{ExactWorld}
use Rattle.world_model.specs.Parts.{Part, part}
use Rattle.history_book.specs.Books.{BookValue, BerthValue, Known, own_part}
use Rattle.node_threads.specs.Sessions.{FindsBy, IsSessionEnd, IsUntold, RestsBy, RestsWith, AreRecords}
use Rattle.node_threads.proofs.Amongst.{all_among, from_among}
use Rattle.node_threads.proofs.Telling.{Told, told, told_among}

-- the image of an image
pub image_of_image : {X Y Z : Type 0} (f : X → Y) (h : Y → Z) (xs : List X) → map h (map f xs) ≡ map (λ x. h (f x)) xs
image_of_image f h [] = refl
image_of_image f h (x ∷ xs) = ap (λ zs. h (f x) ∷ zs) (image_of_image f h xs)

-- the part of a client by its berth is that of the world that the book has
same_part : (b : BookValue) (c : ℕ) (k : BerthValue) → Known b k → k.actor ≡ actor.Client c → own_part k ≡ part b.world (actor.Client c)
same_part b c k known its = sym known.part ∙ ap (part b.world) its

-- a client that rests by its berth rests in the world that the book has
rests_there : (b : BookValue) (c : ℕ) (k : BerthValue) (strings : List (List ℕ)) → Known b k → RestsBy c k strings → RestsWith (part b.world (actor.Client c)) strings
rests_there b c k strings known rests = subst (λ (p : Part). RestsWith p strings) (same_part b c k known rests.actor) rests.rests

-- what a record finds by its client's berth it finds by the world that the book has
found_there : (b : BookValue) (c : ℕ) (k : BerthValue) (strings : List (List ℕ)) → Known b k → FindsBy c k strings → FindsItsOwn (part b.world (actor.Client c)) strings
found_there b c k strings known found = subst (λ (p : Part). FindsItsOwn p strings) (same_part b c k known found.actor) found.own

module _ {X : Type 0} (client : X → ℕ) (fault : X → Option RunFault) (berth : X → BerthValue) (finds : X → List (List ℕ)) where
  abbrev returned : X → ℕ × List (List ℕ)
  returned e = (client e, finds e)

  pub are_records : (w : ExactWorld) (b : BookValue) (ends : List X) (faults before : List Told) (count : ℕ) → length w.clients ≡ count → map client ends ≡ range_with_len 1 count
      → All (λ e. IsSessionEnd (client e) (fault e) (berth e) (finds e)) ends → All (λ e. Known b (berth e)) ends → faults ≡ before ++ filter_map (λ e. told (actor.Client (client e)) (fault e)) ends
      → AreRecords w b.world faults (map (λ e. (client e, finds e)) ends)
  are_records w b ends faults before count many clients each known is = record {
    clients = image_of_image returned (λ p. p.0) ends ∙ clients ∙ ap (range_with_len 1) (sym many);
    own = All-map (λ (p : ℕ × List (List ℕ)). FindsItsOwn (part b.world (actor.Client p.0)) p.1) returned ends
        (from_among (λ e. FindsItsOwn (part b.world (actor.Client (client e))) (finds e)) ends
        (λ e there. found_there b (client e) (berth e) (finds e) (all_among (λ x. Known b (berth x)) e ends there known) (all_among (λ x. IsSessionEnd (client x) (fault x) (berth x) (finds x)) e ends there each).found));
    rest = All-map (λ (p : ℕ × List (List ℕ)). IsUntold faults (actor.Client p.0) → RestsWith (part b.world (actor.Client p.0)) p.1) returned ends
        (from_among (λ e. IsUntold faults (actor.Client (client e)) → RestsWith (part b.world (actor.Client (client e))) (finds e)) ends
        (λ e there untold. go e there untold (all_among (λ x. Known b (berth x)) e ends there known) (fault e) refl (all_among (λ x. IsSessionEnd (client x) (fault x) (berth x) (finds x)) e ends there each).rests));
  }
    where
      go : (e : X) → Among e ends → IsUntold faults (actor.Client (client e)) → Known b (berth e) → (o : Option RunFault) → fault e ≡ o → IfNone (fault e) (RestsBy (client e) (berth e) (finds e)) → RestsWith (part b.world (actor.Client (client e))) (finds e)
      go e there untold tied None well rests = rests_there b (client e) (berth e) (finds e) tied (subst (λ (o : Option RunFault). IfNone o (RestsBy (client e) (berth e) (finds e))) well rests)
      go e there untold tied (Some f) faulty rests =
          let qs = filter_map (λ x. told (actor.Client (client x)) (fault x)) ends in
          absurd (untold f (subst (λ (ps : List Told). Among (actor.Client (client e), f) ps) (sym is) (among-right (actor.Client (client e), f) before qs (told_among client fault e f ends there faulty))))
