-- Lines that lead from one world to another.
use Rattle.std.proofs.Common.{◌≡◌, ℕ, suc, ◌+◌, List, [], ◌∷◌, ◌++◌, length, None, Ok, refl, sym, ap, ◌∙◌, arith}
use Rattle.std.proofs.lemmas.List.{length-append}
use Rattle.world_model.specs.declared.events.Event.{Event}
use Rattle.world_model.specs.declared.events.Effect.{Effect}
use Rattle.world_model.specs.declared.exact.ExactWorld.{ExactWorld}
use Rattle.world_model.specs.ExactWorlds.{Ran, one_more, ran_on, ran, step}
use Rattle.world_model.specs.StepsOf.{took}
use Rattle.event_lines.specs.Events.{IsSpelling, AreJournal}
use Rattle.journal_audit.specs.Verdicts.{Leads}
use Rattle.world_machine.proofs.RunFacts.{ran-snoc}

journal_more : (ls : List (List ℕ)) (es : List Event) (l : List ℕ) (e : Event) → AreJournal ls es → IsSpelling l e → AreJournal (ls ++ l ∷ []) (es ++ e ∷ [])
journal_more [] [] l e h s = (s, tt)
journal_more [] (d ∷ es) l e h s = absurd h
journal_more (k ∷ ls) [] l e h s = absurd h
journal_more (k ∷ ls) (d ∷ es) l e h s = (h.0, journal_more ls es l e h.1 s)

pub leads_nowhere : (w : ExactWorld) → Leads w [] w
leads_nowhere w = ([], tt, refl)

-- one line more behind lines that lead somewhere
pub leads_on : (w v u : ExactWorld) (before : List (List ℕ)) (l : List ℕ) (e : Event) (o : Effect) → Leads w before v → IsSpelling l e → step v e ≡ Ok (record { world = u; effect = o }) → Leads w (before ++ l ∷ []) u
leads_on w v u before l e o h s t =
    let (events, journal, run) = h in
    let long : length (events ++ e ∷ []) ≡ length events + 1 = length-append events (e ∷ []) in
    (events ++ e ∷ [], journal_more before events l e journal s, ran-snoc events e w v u o run t ∙ ap (λ n. took n u) (sym long))

-- and one before them
pub leads_first : (w u v : ExactWorld) (l : List ℕ) (ls : List (List ℕ)) (e : Event) (o : Effect) → IsSpelling l e → step w e ≡ Ok (record { world = u; effect = o }) → Leads u ls v → Leads w (l ∷ ls) v
leads_first w u v l ls e o s t h =
    let (events, journal, run) = h in
    let long : length events + 1 ≡ length (e ∷ events) = omega arith in
    (e ∷ events, (s, journal), ap (λ q. ran_on w q (λ x. ran events x)) t ∙ ap one_more run ∙ ap (λ n. took n v) long)

-- what is left of a run whose first event was taken
pub one_less : (r : Ran) (n : ℕ) (v : ExactWorld) → one_more r ≡ took (suc n) v → r ≡ took n v
one_less r n v h =
    let more : r.taken + 1 ≡ suc n = ap (λ q. q.taken) h in
    let count : r.taken ≡ n = omega (arith, more) in
    let world : r.world ≡ v = ap (λ q. q.world) h in
    let none : r.refused ≡ None = ap (λ q. q.refused) h in
    λ i. record { taken = count i; world = world i; refused = none i }
