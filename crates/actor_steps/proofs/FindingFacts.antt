-- What a restart finds in the record of an actor whose step failed.
use Rattle.std.proofs.Common.{◌≡◌, ◌⊎◌, ℕ, Bool, List, [], ◌∷◌, Option, Some, None, sym, ap, subst, inl, inr}
use Rattle.lock_messages.specs.declared.ids.Actor.{Actor}
use Rattle.lock_model.specs.Decisions.{Among}
use Rattle.stable_record.specs.Finding.{FindsOnly}
use Rattle.world_model.specs.Parts.{Part}
use Rattle.event_recorders.specs.OwnLogs.{OwnLog, part_now, kept_in, tried_in, FindsKept, FindsPart, IsUnused, FindsItsOwn}
use Rattle.actor_steps.specs.Steps.{HasFound, IsTrying, IsFallen}
use Rattle.actor_steps.proofs.StepFacts.{is_one, tries_to, both_kept, still_added, failed_finds}

-- what an actor may find in its record is its own

own-of : (kept : List ℕ) (tried : Option (List ℕ)) (strings : List (List ℕ)) → FindsKept kept tried strings → (found : List ℕ) → Among found strings → (found ≡ kept) ⊎ (tried ≡ Some found)
own-of kept None strings finds found there = inl (is_one kept found (subst (λ s. Among found s) finds there))
own-of kept (Some t) strings finds found there = either (finds found there)
  where
    either : (found ≡ kept) ⊎ (found ≡ t) → (found ≡ kept) ⊎ (Some t ≡ Some found)
    either (inl e) = inl e
    either (inr e) = inr (ap Some (sym e))

pub part_own : (p : Part) (strings : List (List ℕ)) → FindsPart p strings → FindsItsOwn p strings
part_own p strings finds = record { only = own-of (kept_in p) (tried_in p) strings finds }

pub found_own : (l : OwnLog) (bytes : List ℕ) (strings : List (List ℕ)) (stuck : Bool) → HasFound bytes l strings stuck → FindsItsOwn (part_now l) strings
found_own l bytes strings stuck is = part_own (part_now l) strings is.finds

fewer-own : (p : Part) (before now : List (List ℕ)) → FindsItsOwn p before → FindsOnly before now → FindsItsOwn p now
fewer-own p before now own only = record { only = λ found there. own.only found (only found there) }

pub still_own : (l l' : OwnLog) (strings : List (List ℕ)) → FindsItsOwn (part_now l) strings → l' ≡ l → FindsItsOwn (part_now l') strings
still_own l l' strings own same = subst (λ x. FindsItsOwn (part_now x) strings) (sym same) own

pub unused_own : (l l' : OwnLog) (who : Actor) (before now : List (List ℕ)) → IsUnused l who → FindsPart l.opening before → FindsOnly before now → l' ≡ l → FindsItsOwn (part_now l') now
unused_own l l' who before now is finds only same =
    let opened : part_now l ≡ l.opening = ap (λ events. part_now (record { actor = l.actor; ballots = l.ballots; opening = l.opening; events = events })) is.events in
    still_own l l' now (fewer-own (part_now l) before now (part_own (part_now l) before (subst (λ p. FindsPart p before) (sym opened) finds)) only) same

-- what it may find where its log stays, where it tried, and where it fell

pub still_finds : (l l' : OwnLog) (strings : List (List ℕ)) → FindsPart (part_now l) strings → l' ≡ l → FindsPart (part_now l') strings
still_finds l l' strings finds same = subst (λ x. FindsPart (part_now x) strings) (sym same) finds

pub trying_finds : (l : OwnLog) (who : Actor) (bytes : List ℕ) (before now : List (List ℕ)) → IsTrying l who bytes before → now ≡ before → FindsPart (part_now l) now
trying_finds l who bytes before now is same = tries_to (part_now l) bytes now is.tried (subst (λ s. FindsKept (kept_in (part_now l)) (Some bytes) s) (sym same) is.finds)

pub put_finds : (l l' : OwnLog) (who : Actor) (bytes : List ℕ) (before now : List (List ℕ)) → IsTrying l who bytes before → now ≡ bytes ∷ [] → l' ≡ l → FindsPart (part_now l') now
put_finds l l' who bytes before now is found same =
    still_finds l l' now (tries_to (part_now l) bytes now is.tried (λ x there. inr (is_one bytes x (subst (λ s. Among x s) found there)))) same

pub fallen_finds : (l l' : OwnLog) (who : Actor) (bytes : List ℕ) (before now : List (List ℕ)) → IsFallen l who bytes before → FindsOnly before now → l' ≡ l → FindsPart (part_now l') now
fallen_finds l l' who bytes before now is only same =
    still_finds l l' now (tries_to (part_now l) bytes now is.tries (λ x there. is.finds x (only x there))) same

-- what keeping the next record comes to
pub ruleset keeping = (both_kept, still_added, failed_finds, still_finds, trying_finds, put_finds)
