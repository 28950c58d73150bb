-- The faults of ends that stand in the order of their actors are told in that order.
use Rattle.std.proofs.Common.{◌≡◌, inl, inr, ℕ, ◌+◌, ◌<◌, ◌≤◌, List, [], ◌∷◌, ◌++◌, length, take, get_or, map, Option, Some, None, zero, suc, refl, sym, ◌∙◌, ap, subst, arith}
use Rattle.std.specs.List.{All, AllPairs, filter_map, cons_option, range_with_len}
use Rattle.std.specs.Option.{option_map}
use Rattle.std.specs.Prelude.{IfSome}
use Rattle.std.proofs.lemmas.List.Elements.{All-nil, All-cons, All-head, All-tail, All-append, All-weaker}
use Rattle.std.proofs.lemmas.List.{append-nil}
use Rattle.std.proofs.lemmas.List.Kept.{AllPairs-cons}
use Rattle.berth_seats.specs.Views.{TableId}
use Rattle.lock_messages.specs.declared.ids.Actor.{Actor}
use Rattle.lock_messages.specs.declared.ids.Actor.TheVariants as actor
use Rattle.event_recorders.specs.declared.faults.RunFault.{RunFault}
use Rattle.event_lines.specs.declared.wishes.Wish.{Wish}
use Rattle.lock_model.specs.Decisions.{Among}
use Rattle.world_model.specs.declared.exact.ExactWorld.{ExactWorld}
use Rattle.node_threads.specs.declared.ends.NodeEnd.{NodeEnd}
use Rattle.node_threads.specs.declared.ends.ClientEnd.{ClientEnd}
use Rattle.node_threads.specs.Ends.{IsNodeEnd, AreNodeEnds, AreClientEnds, with_wishes, client_in, node_fault, client_fault}
use Rattle.node_threads.specs.Faults.{ComesBefore, IsActorOf, MayEndBy, AreFaults}
use Rattle.node_threads.proofs.Orders.{InOrder, all_above, rest_in_order, range_in_order, range_within}

-- the actor with its fault
abbrev pub Told : Type 0
Told = Actor × RunFault

abbrev pub told : Actor → Option RunFault → Option Told
told a o = option_map (λ f. (a, f)) o

-- it stands before the rest, where there is one
all_told : (P : Told → Type 0) (a : Actor) (o : Option RunFault) (rest : List Told) → ((f : RunFault) → o ≡ Some f → P (a, f)) → All P rest → All P (cons_option (told a o) rest)
all_told P a None rest here each = each
all_told P a (Some f) rest here each = All-cons P (a, f) rest (here f refl) each

abbrev Ordered : List Told → Type 0
Ordered ps = AllPairs (λ p q. ComesBefore p.0 q.0) ps

in_order : (a : Actor) (o : Option RunFault) (rest : List Told) → All (λ q. ComesBefore a q.0) rest → Ordered rest → Ordered (cons_option (told a o) rest)
in_order a None rest below order = order
in_order a (Some f) rest below order = AllPairs-cons (λ p q. ComesBefore p.0 q.0) (a, f) rest below order

-- two lists in order, the first before the second
both_in_order : (ps qs : List Told) → All (λ p. All (λ q. ComesBefore p.0 q.0) qs) ps → Ordered ps → Ordered qs → Ordered (ps ++ qs)
both_in_order [] qs apart first then = then
both_in_order (p ∷ ps) qs apart first then =
    let R : Told → Told → Type 0 = λ x y. ComesBefore x.0 y.0 in
    let below : All (R p) ps = λ k d within. first 0 (suc k) d (omega arith) (omega arith) in
    let rest : Ordered ps = λ i j d lower within. first (suc i) (suc j) d (omega arith) (omega arith) in
    AllPairs-cons R p (ps ++ qs) (All-append (R p) ps qs below (All-head (λ x. All (R x) qs) p ps apart)) (both_in_order ps qs (All-tail (λ x. All (R x) qs) p ps apart) rest then)

-- the actor has a number from low on and below high
record Within (who : ℕ → Actor) (low high : ℕ) (a : Actor) : Type 0 where
  number : ℕ
  is : a ≡ who number
  from : low ≤ number
  to : number < high

module _ {X : Type 0} (num : X → ℕ) (who : ℕ → Actor) (fault : X → Option RunFault) where
  abbrev faulty : List X → List Told
  faulty xs = filter_map (λ x. told (who (num x)) (fault x)) xs

  all_within : (xs : List X) (low high : ℕ) → All (λ n. (low ≤ n) × (n < high)) (map num xs) → All (λ p. Within who low high p.0) (faulty xs)
  all_within [] low high each = All-nil (λ p. Within who low high p.0)
  all_within (x ∷ xs) low high each =
      let B : ℕ → Type 0 = λ n. (low ≤ n) × (n < high) in
      let here = All-head B (num x) (map num xs) each in
      let this : Within who low high (who (num x)) = record { number = num x; is = refl; from = here.0; to = here.1 } in
      all_told (λ p. Within who low high p.0) (who (num x)) (fault x) (faulty xs) (λ f is. this) (all_within xs low high (All-tail B (num x) (map num xs) each))

  all_in_order : ((n k : ℕ) → n < k → ComesBefore (who n) (who k)) → (xs : List X) (high : ℕ) → InOrder (map num xs) → All (λ n. n < high) (map num xs) → Ordered (faulty xs)
  all_in_order lower [] high order few = λ i j d before within. absurd (omega arith)
  all_in_order lower (x ∷ xs) high order few =
      let above : All (λ n. num x < n) (map num xs) = all_above (num x) (map num xs) order in
      let rest : All (λ n. n < high) (map num xs) = All-tail (λ n. n < high) (num x) (map num xs) few in
      let between : All (λ n. (num x + 1 ≤ n) × (n < high)) (map num xs) = λ k d within. ((let h = above k d within in omega (arith, h)), rest k d within) in
      let below : (p : Told) → Within who (num x + 1) high p.0 → ComesBefore (who (num x)) p.0 =
      λ p w. subst (ComesBefore (who (num x))) (sym w.is) (lower (num x) w.number (let h = w.from in omega arith)) in
      in_order (who (num x)) (fault x) (faulty xs) (All-weaker (λ p. Within who (num x + 1) high p.0) (λ q. ComesBefore (who (num x)) q.0) below (faulty xs) (all_within xs (num x + 1) high between))
      (all_in_order lower xs high (rest_in_order (num x) (map num xs) order) rest)

  all_may : (xs : List X) → All (λ x. IfSome (fault x) (λ f. MayEndBy (who (num x)) f)) xs → All (λ p. MayEndBy p.0 p.1) (faulty xs)
  all_may [] each = All-nil (λ p. MayEndBy p.0 p.1)
  all_may (x ∷ xs) each =
      let P : X → Type 0 = λ y. IfSome (fault y) (λ f. MayEndBy (who (num y)) f) in
      all_told (λ p. MayEndBy p.0 p.1) (who (num x)) (fault x) (faulty xs) (λ f is. subst (λ o. IfSome o (MayEndBy (who (num x)))) is (All-head P x xs each)) (all_may xs (All-tail P x xs each))

-- the world's actors, by their numbers
nodes_of : (w : ExactWorld) (a : Actor) → Within actor.Node 1 (1 + length w.nodes) a → IsActorOf w a
nodes_of w a at = subst (IsActorOf w) (sym at.is) (at.from, (let h = at.to in omega arith))

clients_of : (w : ExactWorld) (a : Actor) → Within actor.Client 1 (1 + length w.clients) a → IsActorOf w a
clients_of w a at = subst (IsActorOf w) (sym at.is) (at.from, (let h = at.to in omega arith))

-- nodes come before clients
apart : (low high low' high' : ℕ) (a b : Actor) → Within actor.Node low high a → Within actor.Client low' high' b → ComesBefore a b
apart low high low' high' a b one other = subst (λ x. ComesBefore x b) (sym one.is) (subst (ComesBefore (actor.Node one.number)) (sym other.is) tt)

-- of nodes one after the other, and of clients of which some may be left out
pub faults_in_order : {X : Type 0} (client : X → ℕ) (fault : X → Option RunFault) (w : ExactWorld) (nodes : List NodeEnd) (clients : List X) (faults : List Told) → map (λ e. e.node) nodes ≡ range_with_len 1 (length w.nodes) → All IsNodeEnd nodes
    → InOrder (map client clients) → All (λ c. (1 ≤ c) × (c < 1 + length w.clients)) (map client clients) → faults ≡ filter_map node_fault nodes ++ filter_map (λ x. told (actor.Client (client x)) (fault x)) clients → AreFaults w faults
faults_in_order {X = X} client fault w nodes clients faults all_nodes each order within is =
    let ps = filter_map node_fault nodes in
    let qs = filter_map (λ x. told (actor.Client (client x)) (fault x)) clients in
    let B : ℕ → Type 0 = λ n. (1 ≤ n) × (n < 1 + length w.nodes) in
    let some = all_within (λ (e : NodeEnd). e.node) actor.Node (λ e. e.fault) nodes 1 (1 + length w.nodes) (subst (All B) (sym all_nodes) (range_within 1 (length w.nodes))) in
    let others = all_within client actor.Client fault clients 1 (1 + length w.clients) within in
    let N : Told → Type 0 = λ p. Within actor.Node 1 (1 + length w.nodes) p.0 in
    let C : Told → Type 0 = λ p. Within actor.Client 1 (1 + length w.clients) p.0 in
    subst (AreFaults w) (sym is) (record {
      ordered = both_in_order ps qs
          (All-weaker N (λ p. All (λ q. ComesBefore p.0 q.0) qs) (λ p one. All-weaker C (λ q. ComesBefore p.0 q.0) (λ q other. apart 1 (1 + length w.nodes) 1 (1 + length w.clients) p.0 q.0 one other) qs others) ps some)
          (all_in_order (λ (e : NodeEnd). e.node) actor.Node (λ e. e.fault) (λ n k lower. lower) nodes (1 + length w.nodes) (subst InOrder (sym all_nodes) (range_in_order 1 (length w.nodes)))
          (λ k d in_it. (subst (All B) (sym all_nodes) (range_within 1 (length w.nodes)) k d in_it).1))
          (all_in_order client actor.Client fault (λ n k lower. lower) clients (1 + length w.clients) order (λ k d in_it. (within k d in_it).1));
      theirs = All-append (λ p. IsActorOf w p.0) ps qs (All-weaker N (λ p. IsActorOf w p.0) (λ p at. nodes_of w p.0 at) ps some) (All-weaker C (λ p. IsActorOf w p.0) (λ p at. clients_of w p.0 at) qs others);
      each = All-append (λ p. MayEndBy p.0 p.1) ps qs (all_may (λ (e : NodeEnd). e.node) actor.Node (λ e. e.fault) nodes each)
          (all_may client actor.Client fault clients (λ k d in_it. free (fault (get_or clients k d))));
    })
  where
    free : (o : Option RunFault) → IfSome o (λ f. Unit {0})
    free None = tt
    free (Some f) = tt

-- a client that ended by a fault is told with it
pub told_among : {X : Type 0} (client : X → ℕ) (fault : X → Option RunFault) (e : X) (f : RunFault) (xs : List X) → Among e xs → fault e ≡ Some f → Among (actor.Client (client e), f) (filter_map (λ x. told (actor.Client (client x)) (fault x)) xs)
told_among client fault e f [] there is = absurd there
told_among {X = X} client fault e f (x ∷ xs) (inl same) is = here (fault x) (ap fault (sym same) ∙ is)
  where
    here : (o : Option RunFault) → fault x ≡ Some f → Among (actor.Client (client e), f) (filter_map (λ (y : X). told (actor.Client (client y)) (fault y)) (x ∷ xs))
    here o faulty = rw faulty (inl (ap (λ (y : X). (actor.Client (client y), f)) same))
told_among {X = X} client fault e f (x ∷ xs) (inr there) is = behind (fault x) refl (told_among client fault e f xs there is)
  where
    rest : List Told
    rest = filter_map (λ (y : X). told (actor.Client (client y)) (fault y)) xs

    behind : (o : Option RunFault) → fault x ≡ o → Among (actor.Client (client e), f) rest → Among (actor.Client (client e), f) (filter_map (λ (y : X). told (actor.Client (client y)) (fault y)) (x ∷ xs))
    behind None faulty among = rw faulty among
    behind (Some g) faulty among = rw faulty (inr among)

-- a part of what two lists have in common
pub same_parts : {X Y A B : Type 0} (f : X → A) (h : Y → A) (part : A → B) (xs : List X) (ys : List Y) → map f xs ≡ map h ys → map (λ x. part (f x)) xs ≡ map (λ y. part (h y)) ys
same_parts f h part [] [] at = refl
same_parts f h part [] (y ∷ ys) at = absurd (let z : [] ≡ h y ∷ map h ys = at in cc)
same_parts f h part (x ∷ xs) [] at = absurd (let z : f x ∷ map f xs ≡ [] = at in cc)
same_parts f h part (x ∷ xs) (y ∷ ys) at =
    let z : f x ∷ map f xs ≡ h y ∷ map h ys = at in
    let here : f x ≡ h y = cc in
    let rest : map f xs ≡ map h ys = cc in
    ap (λ p. part p ∷ map (λ x. part (f x)) xs) here ∙ ap (λ l. part (h y) ∷ l) (same_parts f h part xs ys rest)

-- the faults of the ends of all tasks
pub faults_are : {X Y : Type 0} (node : X → ℕ) (client : Y → ℕ) (given : Y → List Wish) (table : Y → TableId) (w opened : ExactWorld) (tasks : List X) (others : List Y) (nodes : List NodeEnd) (clients : List ClientEnd) (faults : List Told)
    → opened ≡ w → map node tasks ≡ range_with_len 1 (length opened.nodes) → map client others ≡ range_with_len 1 (length opened.clients)
    → AreNodeEnds (map node tasks) nodes → AreClientEnds (map (λ t. with_wishes (client t) (given t) (table t)) others) clients → faults ≡ filter_map node_fault nodes ++ filter_map client_fault clients → AreFaults w faults
faults_are node client given table w opened tasks others nodes clients faults opening all_nodes all_clients of_nodes of_clients is =
    let named = same_parts client_in (λ t. with_wishes (client t) (given t) (table t)) (λ (p : ℕ × List Wish × TableId). p.0) clients others of_clients.named in
    let numbers : map (λ (e : ClientEnd). e.client) clients ≡ range_with_len 1 (length w.clients) = named ∙ all_clients ∙ ap (λ (v : ExactWorld). range_with_len 1 (length v.clients)) opening in
    faults_in_order (λ (e : ClientEnd). e.client) (λ e. e.fault) w nodes clients faults (of_nodes.named ∙ all_nodes ∙ ap (λ (v : ExactWorld). range_with_len 1 (length v.nodes)) opening) of_nodes.each
    (subst InOrder (sym numbers) (range_in_order 1 (length w.clients))) (subst (All (λ c. (1 ≤ c) × (c < 1 + length w.clients))) (sym numbers) (range_within 1 (length w.clients))) is

-- The faults of the ends that were seen, one end more.

onto_option : {X : Type 0} (o : Option X) (xs ys : List X) → cons_option o (xs ++ ys) ≡ cons_option o xs ++ ys
onto_option None xs ys = refl
onto_option (Some x) xs ys = refl

seen_more : {X Y : Type 0} (f : X → Option Y) (xs : List X) (i : ℕ) (x other : X) → i < length xs → x ≡ get_or xs i other → filter_map f (take (suc i) xs) ≡ filter_map f (take i xs) ++ cons_option (f x) []
seen_more f [] i x other few at = absurd (omega (arith, few))
seen_more f (y ∷ ys) zero x other few at = ap (λ z. cons_option (f z) []) (sym at)
seen_more f (y ∷ ys) (suc i) x other few at =
    ap (λ zs. cons_option (f y) zs) (seen_more f ys i x other (omega (arith, few)) at) ∙ onto_option (f y) (filter_map f (take i ys)) (cons_option (f x) [])

one_on : {X Y : Type 0} (f : X → Option Y) (ends : List X) (i : ℕ) → filter_map f (take (i + 1) ends) ≡ filter_map f (take (suc i) ends)
one_on f ends i = let same : i + 1 ≡ suc i = omega arith in ap (λ n. filter_map f (take n ends)) same

module _ {X : Type 0} (client : X → ℕ) (fault : X → Option RunFault) where
  abbrev told_of : X → Option Told
  told_of e = told (actor.Client (client e)) (fault e)

  pub faulty_seen : (ends : List X) (i : ℕ) (e other : X) (f : RunFault) → i < length ends → e ≡ get_or ends i other → fault e ≡ Some f
      → filter_map told_of (take (i + 1) ends) ≡ filter_map told_of (take i ends) ++ (actor.Client (client e), f) ∷ []
  faulty_seen ends i e other f few at faulty =
      one_on told_of ends i ∙ seen_more told_of ends i e other few at ∙ ap (λ (o : Option RunFault). filter_map told_of (take i ends) ++ cons_option (told (actor.Client (client e)) o) []) faulty

  pub well_seen : (ends : List X) (i : ℕ) (e other : X) → i < length ends → e ≡ get_or ends i other → fault e ≡ None → filter_map told_of (take (i + 1) ends) ≡ filter_map told_of (take i ends)
  well_seen ends i e other few at well =
      one_on told_of ends i ∙ seen_more told_of ends i e other few at ∙ ap (λ (o : Option RunFault). filter_map told_of (take i ends) ++ cons_option (told (actor.Client (client e)) o) []) well
      ∙ append-nil (filter_map told_of (take i ends))
