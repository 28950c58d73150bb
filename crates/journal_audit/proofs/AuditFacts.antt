-- What an audit answers is what is found.
use Rattle.std.proofs.Common.{◌≡◌, ◌≢◌, ℕ, ◌+◌, ◌≤◌, true, false, cond, nat_le, List, ◌∷◌, length, Option, Some, None, Ok, Err, refl, sym, ap, subst, ◌∙◌, arith}
use Rattle.std.proofs.lemmas.Bool.Decides.{nat_tests}
use Rattle.world_model.specs.declared.exact.ExactWorld.{ExactWorld}
use Rattle.event_lines.specs.Laws.{EventsAreSpelledOnce}
use Rattle.line_streams.specs.Streams.{Puts}
use Rattle.journal_audit.specs.declared.faults.AuditFault.{AuditFault}
use Rattle.journal_audit.specs.declared.faults.AuditFault.TheVariants as fault
use Rattle.journal_audit.specs.declared.verdicts.TheConstants.{MAX_LINES}
use Rattle.journal_audit.specs.declared.verdicts.Verdict.{Verdict}
use Rattle.journal_audit.specs.Audits.{within_limit, found_in, IsFound, Audits}
use Rattle.journal_audit.specs.Verdicts.{Finds, IsTooLong, verdict_of, verdict_behind, verdict_text, reaches, text_lines}
use Rattle.journal_audit.proofs.VerdictLaws.{verdicts_exact, led, reaches_more}

few : (v : Verdict) → reaches v ≤ MAX_LINES → within_limit v ≡ Ok v
few v h = let t : nat_le (reaches v) MAX_LINES ≡ true = grind (arith, nat_tests) in ap (λ b. cond b (Ok v) (Err fault.TooManyLines)) t

many : (v : Verdict) → MAX_LINES + 1 ≤ reaches v → within_limit v ≡ Err fault.TooManyLines
many v h = let t : nat_le (reaches v) MAX_LINES ≡ false = grind (arith, nat_tests) in ap (λ b. cond b (Ok v) (Err fault.TooManyLines)) t

pub verdict_found : EventsAreSpelledOnce → (w : ExactWorld) (text : Option (List ℕ)) (v : Verdict) → Finds w text (Ok v) → IsFound w text (Ok v)
verdict_found spelled w None v h = tt
verdict_found spelled w (Some xs) v h = ap within_limit ((verdicts_exact spelled w (text_lines xs) v).1 h.0) ∙ few v h.1

too_long : EventsAreSpelledOnce → (w : ExactWorld) (lines : List (List ℕ)) → IsTooLong w lines → found_in w lines ≡ Err fault.TooManyLines
unfolding verdict_of
too_long spelled w lines h =
    let (before, l, behind, v, cut, count, leads) = h in
    let (events, journal, run) = leads in
    let at : 0 + length before ≡ MAX_LINES = omega (arith, count) in
    let same : verdict_behind 0 w lines ≡ verdict_behind MAX_LINES v (l ∷ behind) =
    ap (λ ls. verdict_behind 0 w ls) cut ∙ led spelled before (l ∷ behind) events w v 0 journal run ∙ ap (λ n. verdict_behind n v (l ∷ behind)) at in
    ap within_limit same ∙ many (verdict_behind MAX_LINES v (l ∷ behind)) (reaches_more l behind MAX_LINES v)

pub length_found : EventsAreSpelledOnce → (w : ExactWorld) (text : Option (List ℕ)) → Finds w text (Err fault.TooManyLines) → IsFound w text (Err fault.TooManyLines)
length_found spelled w None h = tt
length_found spelled w (Some xs) h = too_long spelled w (text_lines xs) h

-- what is answered where lines were judged without a verdict
pub no_verdict : EventsAreSpelledOnce → (w : ExactWorld) (text old : Option (List ℕ)) (e : AuditFault) → Finds w text (Err e) → e ≢ fault.Write → Audits w text old old (Err e)
no_verdict spelled w text old fault.Read h n = refl
no_verdict spelled w text old fault.Write h n = absurd (n refl)
no_verdict spelled w text old fault.Memory h n = refl
no_verdict spelled w text old fault.TooManyLines h n = (length_found spelled w text h, refl)

-- and where a verdict couldn't be written
pub not_told : EventsAreSpelledOnce → (w : ExactWorld) (text old new : Option (List ℕ)) (v : Verdict) (e f : AuditFault) → Finds w text (Ok v) → Puts {U = Unit {0}} {E = AuditFault} old new (verdict_text v) (Err e) → f ≡ fault.Write → Audits w text old new (Err f)
not_told spelled w text old new v e f h p same = subst (λ (d : AuditFault). Audits w text old new (Err d)) (sym same) (v, verdict_found spelled w text v h, p)
