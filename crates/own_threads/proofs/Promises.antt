-- Tasks that are handed to threads one after the other, and what the threads gave.
use Rattle.std.proofs.Common.{◌≡◌, ℕ, ◌<◌, List, [], ◌∷◌, ◌++◌, length, get_or, map, suc, refl, sym, ◌∙◌, ap, arith}
use Rattle.std.proofs.lemmas.List.{map-append, append_assoc, append-nil, nil_from_length}
use Rattle.std.specs.List.{All}
use Rattle.std.proofs.lemmas.List.Elements.{All-cons, All-head, All-map, All-nil, All-tail}
use Rattle.std.specs.Prelude.{Option, IfSome}
use Rattle.event_recorders.specs.declared.faults.RunFault.{RunFault}
use Rattle.event_recorders.specs.OwnLogs.{OwnLog}
use Rattle.node_loop.specs.Standing.{IsNodeFault}
use Rattle.own_threads.specs.Beginnings.{Beginning}
use Rattle.own_threads.specs.Ends.{IsNodeEnd}

-- a task more has its thread
pub one_more_started : {X Y Z : Type 0} (f : X → Z) (h : Y → Z) (xs xs' : List X) (ys ys' : List Y) (x : X) (y : Y) (all : List Z) → map f xs ++ map h ys ≡ all → ys ≡ y ∷ ys' → xs' ≡ xs ++ x ∷ [] → f x ≡ h y → map f xs' ++ map h ys' ≡ all
one_more_started f h xs xs' ys ys' x y all before at more same =
    ap (λ l. map f l ++ map h ys') more ∙ ap (λ l. l ++ map h ys') (map-append f xs (x ∷ [])) ∙ append_assoc (map f xs) (f x ∷ []) (map h ys')
    ∙ ap (λ z. map f xs ++ z ∷ map h ys') same ∙ sym (ap (λ l. map f xs ++ map h l) at) ∙ before

-- all tasks have theirs
pub all_started : {X Y Z : Type 0} (f : X → Z) (h : Y → Z) (xs : List X) (ys : List Y) (all : List Z) → map f xs ++ map h ys ≡ all → length ys ≡ 0 → map f xs ≡ all
all_started f h xs ys all before none = sym (append-nil (map f xs)) ∙ sym (ap (λ l. map f xs ++ map h l) (nil_from_length ys none)) ∙ before

-- what the elements at each place agree on
pub same_by_place : {X Y Z : Type 0} (f : X → Z) (h : Y → Z) (xs : List X) (ys : List Y) → length xs ≡ length ys → ((i : ℕ) (d : X) → i < length ys → (y : Y) × (y ≡ get_or ys i y) × (f (get_or xs i d) ≡ h y)) → map f xs ≡ map h ys
same_by_place f h [] [] long each = refl
same_by_place f h [] (y ∷ ys) long each = absurd (omega arith)
same_by_place f h (x ∷ xs) [] long each = absurd (omega arith)
same_by_place f h (x ∷ xs) (y ∷ ys) long each =
    let first = each 0 x (omega arith) in
    let here : f x ≡ h y = first.2 ∙ ap h first.1 in
    ap (λ z. z ∷ map f xs) here ∙ ap (λ l. h y ∷ l) (same_by_place f h xs ys (omega arith) (λ i d within. each (suc i) d (omega arith)))

-- the image of an image
pub image_of_image : {X Y Z : Type 0} (f : X → Y) (h : Y → Z) (xs : List X) → map h (map f xs) ≡ map (λ x. h (f x)) xs
image_of_image f h [] = refl
image_of_image f h (x ∷ xs) = ap (λ zs. h (f x) ∷ zs) (image_of_image f h xs)

-- what holds of the image of each holds of each image
pub each_of_images : {X Y : Type 0} (f : X → Y) (P : Y → Type 0) (xs : List X) → All (λ x. P (f x)) xs → All P (map f xs)
each_of_images f P xs each = All-map P f xs each

-- the faults of nodes that ended
pub node_faults : {X : Type 0} (log : X → OwnLog) (began : X → Beginning) (fault : X → Option RunFault) (xs : List X) → All (λ (e : OwnLog × Beginning × Option RunFault). IsNodeEnd e.0 e.1 e.2) (map (λ x. (log x, began x, fault x)) xs) → All (λ f. IfSome f IsNodeFault) (map fault xs)
node_faults log began fault [] each = All-nil (λ f. IfSome f IsNodeFault)
node_faults log began fault (x ∷ xs) each =
    let P : OwnLog × Beginning × Option RunFault → Type 0 = λ e. IsNodeEnd e.0 e.1 e.2 in
    let head : IsNodeEnd (log x) (began x) (fault x) = All-head P (log x, began x, fault x) (map (λ x. (log x, began x, fault x)) xs) each in
    All-cons (λ f. IfSome f IsNodeFault) (fault x) (map fault xs) head.fault (node_faults log began fault xs (All-tail P (log x, began x, fault x) (map (λ x. (log x, began x, fault x)) xs) each))
