-- Texts that are written one behind another.
use Rattle.std.proofs.Common.{◌≡◌, ◌+◌, List, [], ℕ, ◌++◌, length, codes, Option, Result, Ok, Err, refl, sym, ap, ◌∙◌, arith, append_assoc, length-append}
use Rattle.std.specs.List.{flat_map}
use Rattle.std.specs.Fmt.{decimal}
use Rattle.std.specs.Io.KnownBytes.{Appends}
use Rattle.std.proofs.KnownBytes.{Appends-nil, Appends-trans}
use Rattle.lock_messages.specs.declared.ids.Actor.{Actor}
use Rattle.world_model.specs.declared.events.Effect.{Effect}
use Rattle.world_model.specs.declared.events.Event.{Event}
use Rattle.event_recorders.specs.declared.faults.RunFault.{RunFault}
use Rattle.line_streams.specs.Streams.{AppendsPart, Puts}
use Rattle.history_book.specs.Books.{enters}
use Rattle.run_service.specs.Ends.{fault_line, counts_text, end_text}

-- a part of what stands first, or all of it and a part of the rest, is a part

pub first_part : (old new : Option (List ℕ)) (a b : List ℕ) → AppendsPart old new a → AppendsPart old new (a ++ b)
first_part old new a b h =
    let (front, back, cut, some, begun) = h in
    let long : length (back ++ b) ≡ length back + length b = length-append back b in
    (front, back ++ b, ap (λ (bs : List ℕ). bs ++ b) cut ∙ append_assoc front back b, omega (arith, long, some), begun)

pub then_part : (old mid new : Option (List ℕ)) (a b : List ℕ) → Appends old mid a → AppendsPart mid new b → AppendsPart old new (a ++ b)
then_part old mid new a b p h =
    let (front, back, cut, some, begun) = h in
    (a ++ front, back, ap (λ (bs : List ℕ). a ++ bs) cut ∙ sym (append_assoc a front back), some, Appends-trans old mid new a front p begun)

pub puts_both : {U E : Type 0} (old mid new : Option (List ℕ)) (a b : List ℕ) (r : Result U E) → Appends old mid a → Puts mid new b r → Puts old new (a ++ b) r
puts_both old mid new a b (Ok u) p q = Appends-trans old mid new a b p q
puts_both old mid new a b (Err e) p q = then_part old mid new a b p q

-- what a run came to is some text
pub untold : (o : Option (List ℕ)) (history : List (Event × Effect)) (faults : List (Actor × RunFault)) → AppendsPart o o (end_text history faults)
untold o history faults =
    let counts = counts_text (enters history) (length history) in
    let rest = decimal (enters history) ++ codes "\nevents " ++ decimal (length history) ++ codes "\n" in
    let whole : length (end_text history faults) ≡ length counts + length (flat_map fault_line faults) = length-append counts (flat_map fault_line faults) in
    let first : length counts ≡ length (codes "entered ") + length rest = length-append (codes "entered ") rest in
    let word : length (codes "entered ") ≡ 8 = refl in
    ([], end_text history faults, refl, omega (arith, whole, first, word), Appends-nil o)
