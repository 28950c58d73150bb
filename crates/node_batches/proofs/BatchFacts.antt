-- What batches come to.
use Rattle.std.proofs.Common.{◌≡◌, ◌⊎◌, ◌+◌, ◌≤◌, ℕ, Bool, true, false, List, [], ◌∷◌, ◌++◌, length, Option, None, Some, Result, Ok, Err, inl, inr, refl, sym, ap, ◌∙◌, subst, true≢false, append_assoc, append-nil, arith}
use Rattle.lock_model.specs.Decisions.{Among}
use Rattle.stable_record.specs.declared.formats.TheConstants.{MAX_RECORD_LEN}
use Rattle.stable_record.specs.Finding.{FindsOnly, FindsOnlyOr}
use Rattle.voter_core.specs.Voters.{Voter, record_of}
use Rattle.lossy_link.specs.declared.parcels.Post.{Post}
use Rattle.lossy_link.specs.declared.parcels.Sending.{Sending}
use Rattle.lossy_link.specs.declared.faults.LinkFault.{LinkFault}
use Rattle.lossy_link.specs.Links.{Brings, one_more, all_more}
use Rattle.lossy_link.proofs.GivenFacts.{one_is_more, more_and_more}
use Rattle.event_recorders.specs.declared.faults.RunFault.{RunFault}
use Rattle.event_recorders.specs.declared.faults.RunFault.TheVariants as fault
use Rattle.event_recorders.specs.Laws.{NodeRecordsFit}
use Rattle.event_recorders.specs.OwnLogs.{OwnLog, part_now, kept_in}
use Rattle.actor_steps.specs.Endings.{falls_of, FailuresFollow, EndsFrom}
use Rattle.actor_steps.specs.Steps.{HasFailed, IsBookFault}
use Rattle.actor_steps.specs.Sendings.{sent_of, SentFollows}
use Rattle.actor_steps.proofs.StepFacts.{is_one}
use Rattle.node_loop.specs.Standing.{StandsIdle, as_opened, IsNodeFault}
use Rattle.merge_model.specs.OwnRuns.{IsOwnRun}
use Rattle.node_loop.specs.Unsent.{HasGiven}
use Rattle.node_batches.specs.Batches.{then_coming, FindsLast, Rests, SendsKeptSince, HasCause, IsHalfOut}

abbrev first_of : List (List ℕ) → List ℕ
first_of [] = []
first_of (x ∷ xs) = x

-- the copy by which a node is idle is what it has kept
pub copy_kept : (l : OwnLog) (v : Voter) (copy : List ℕ) (stuck : Bool) → StandsIdle l v (copy ∷ []) stuck → copy ≡ kept_in (part_now l)
copy_kept l v copy stuck is = ap first_of is.finds ∙ sym (ap kept_in is.part)

-- It can be kept.
pub copy_fits : (l : OwnLog) (v : Voter) (copy next : List ℕ) (stuck : Bool) → NodeRecordsFit → StandsIdle l v (copy ∷ []) stuck → next ≡ copy → length next ≤ MAX_RECORD_LEN
copy_fits l v copy next stuck law is same = subst (λ (b : List ℕ). length b ≤ MAX_RECORD_LEN) (sym (same ∙ ap first_of is.finds)) (law (record_of v) is.good)

-- what a restart finds between two batches
pub rests_last : (l : OwnLog) (v : Voter) (copy : List ℕ) (strings : List (List ℕ)) (stuck : Bool) → Rests l v copy strings stuck → FindsLast l strings
rests_last l v copy strings stuck is = is.found ∙ ap (λ (s : List ℕ). s ∷ []) (copy_kept l v copy false is.idle)

-- what a link was given that held back since
pub held_since : (before held : List Sending) (l l' : OwnLog) → sent_of l ≡ before → SentFollows l l' (Some (before ++ [])) (Some (before ++ held)) → sent_of l' ≡ sent_of l ++ held
held_since before held l l' same follows = ap given_in (sym (follows.follows (Some []) (ap Some (append-nil before ∙ sym same)))) ∙ ap (λ xs. xs ++ held) (sym same)
  where
    given_in : Option (List Sending) → List Sending
    given_in None = []
    given_in (Some xs) = xs

-- Nothing has gone out.
pub held_back : (l l' : OwnLog) (v : Voter) (copy : List ℕ) (strings : List (List ℕ)) (stuck : Bool) (given : Option (List Sending)) → Rests l v copy strings stuck → as_opened l' ≡ as_opened l → SendsKeptSince l l' strings given given
held_back l l' v copy strings stuck given is on = record {
  since = λ before was. inl (record {
    before = l;
    opened = sym on;
    run = is.run;
    sent = was;
    found = λ found there. inl (is_one copy found (subst (λ s. Among found s) is.found there) ∙ copy_kept l v copy false is.idle);
  });
}

-- A link that is closed brought nothing.
pub none_brought : (f : LinkFault) (coming coming' : Option (List Post)) → Brings coming (Err f) coming' → coming ≡ then_coming [] coming'
none_brought f None coming' brings = ap (then_coming []) (sym brings)
none_brought f (Some []) coming' brings = ap (then_coming []) (sym brings.1)
none_brought f (Some (post ∷ posts)) coming' brings = absurd (true≢false (ap is_err brings.0))
  where
    is_err : Result Post LinkFault → Bool
    is_err (Ok post) = false
    is_err (Err f) = true

-- The first post that it brought.
pub first_brought : (post : Post) (coming coming' : Option (List Post)) → Brings coming (Ok post) coming' → coming ≡ then_coming (post ∷ []) coming'
first_brought post None coming' brings = ap (then_coming (post ∷ [])) (sym brings)
first_brought post (Some []) coming' brings = absurd (true≢false (ap is_ok brings.0))
  where
    is_ok : Result Post LinkFault → Bool
    is_ok (Ok post) = true
    is_ok (Err f) = false
first_brought post (Some (next ∷ posts)) coming' brings = ap (λ (p : Post). Some (p ∷ posts)) (sym (ap post_in brings.0)) ∙ ap (then_coming (post ∷ [])) (sym brings.1)
  where
    post_in : Result Post LinkFault → Post
    post_in (Ok p) = p
    post_in (Err f) = post

-- and one more
pub next_brought : (posts : List Post) (post : Post) (coming between coming' : Option (List Post)) → coming ≡ then_coming posts between → Brings between (Ok post) coming' → coming ≡ then_coming (posts ++ post ∷ []) coming'
next_brought posts post coming between coming' so brings = so ∙ ap (then_coming posts) (first_brought post between coming' brings) ∙ joined coming'
  where
    joined : (left : Option (List Post)) → then_coming posts (then_coming (post ∷ []) left) ≡ then_coming (posts ++ post ∷ []) left
    joined None = refl
    joined (Some left) = ap Some (sym (append_assoc posts (post ∷ []) left))

-- one of those that are left was given too
pub one_given : (all left next : List Sending) (x : Sending) (given between given' : Option (List Sending)) → left ≡ x ∷ next → HasGiven all left given between → given' ≡ one_more between x → HasGiven all next given given'
one_given all left next x given between given' rest so more = record {
  begun = so.begun ++ x ∷ [];
  whole = so.whole ∙ ap (λ xs. so.begun ++ xs) rest ∙ sym (append_assoc so.begun (x ∷ []) next);
  now = more ∙ one_is_more between x ∙ ap (λ g. all_more g (x ∷ [])) so.now ∙ more_and_more given so.begun (x ∷ []);
}

-- What a restart finds is the bytes that a reopening found, which could be found before.
pub reopened_only : (bytes : List ℕ) (before now : List (List ℕ)) → Among bytes before → now ≡ bytes ∷ [] → FindsOnly before now
reopened_only bytes before now there is = λ found in_now. subst (λ b. Among b before) (sym (is_one bytes found (subst (λ s. Among found s) is in_now))) there

-- What a keep that failed leaves.
pub failed_only : (one next : List ℕ) (before now : List (List ℕ)) → before ≡ one ∷ [] → FindsOnlyOr before next now → FindsOnlyOr (one ∷ []) next now
failed_only one next before now is only = subst (λ s. FindsOnlyOr s next now) is only

pub same_only : (one next : List ℕ) (before now : List (List ℕ)) → before ≡ one ∷ [] → now ≡ before → FindsOnlyOr (one ∷ []) next now
same_only one next before now is same = λ found there. inl (subst (λ s. Among found s) (same ∙ is) there)

pub new_only : (one next : List ℕ) (now : List (List ℕ)) → now ≡ next ∷ [] → FindsOnlyOr (one ∷ []) next now
new_only one next now is = λ found there. inr (is_one next found (subst (λ s. Among found s) is there))

-- Some has.
pub half_out : (l l' : OwnLog) (before next : List ℕ) (held : List Sending) (strings : List (List ℕ)) (given given' : Option (List Sending)) →
    IsOwnRun l.ballots l.actor l.opening l.events → before ≡ kept_in (part_now l) → next ≡ kept_in (part_now l') → as_opened l' ≡ as_opened l → sent_of l' ≡ sent_of l ++ held → IsHalfOut before next held strings given given' → SendsKeptSince l l' strings given given'
half_out l l' before next held strings given given' run old new on sends (inl h) = record {
  since = λ earlier was. inl (record {
    before = l;
    opened = sym on;
    run = run;
    sent = h.1 ∙ was;
    found = λ found there. either found (h.0 found there);
  });
}
  where
    either : (found : List ℕ) → Among found (before ∷ []) ⊎ (found ≡ next) → (found ≡ kept_in (part_now l)) ⊎ (found ≡ kept_in (part_now l'))
    either found (inl there) = inl (is_one before found there ∙ old)
    either found (inr same) = inr (same ∙ new)
half_out l l' before next held strings given given' run old new on sends (inr h) =
    let out : HasGiven held h.1.0 given given' = h.1.1 in
    record {
      since = λ earlier was. inr (record {
        sent = sent_of l ++ out.begun;
        left = h.1.0;
        all = sends ∙ ap (λ xs. sent_of l ++ xs) out.whole ∙ sym (append_assoc (sent_of l) out.begun h.1.0);
        now = out.now ∙ ap (λ (g : Option (List Sending)). all_more g out.begun) was ∙ more_and_more earlier (sent_of l) out.begun;
        found = h.0 ∙ ap (λ (s : List ℕ). s ∷ []) new;
      });
    }

-- All has.
pub all_out : (l l' : OwnLog) (held : List Sending) (given given' : Option (List Sending)) → sent_of l' ≡ sent_of l ++ held → given' ≡ all_more given held → SentFollows l l' given given'
all_out l l' held given given' sends out = record {
  follows = λ before was. out ∙ ap (λ (g : Option (List Sending)). all_more g held) was ∙ more_and_more before (sent_of l) held ∙ ap (all_more before) (sym sends);
}

-- after batches that all went out
pub kept_on : (l m l' : OwnLog) (strings : List (List ℕ)) (given between given' : Option (List Sending)) → SentFollows l m given between → SendsKeptSince m l' strings between given' → SendsKeptSince l l' strings given given'
kept_on l m l' strings given between given' first second = record { since = λ before was. second.since before (first.follows before was) }

-- A record in memory does not fail, and is never spent.

-- so a node that never fell has not fallen
pub never_falls : (m n : ℕ) → m ≡ 0 → FailuresFollow m n 0 0 → n ≡ 0
never_falls m n none follows = none_in (follows.follows 0 (inl (omega (arith, none))))
  where
    none_in : HasFailed n 0 0 → n ≡ 0
    none_in (inl few) = omega (arith, few)
    none_in (inr most) = omega (arith, most)

-- and the log alone can refuse
pub refused_only : (f : RunFault) (times : ℕ) (l : OwnLog) → times ≡ 0 → EndsFrom f times l false false 0 0 → IsBookFault f
refused_only fault.NotReopened times l none ends = absurd (none_in (ends.ends 0 (inl (omega (arith, none)))).failed)
  where
    none_in : HasFailed (falls_of l + 3) 0 0 → ⊥
    none_in (inl few) = omega (arith, few)
    none_in (inr most) = omega (arith, most)
refused_only fault.Memory times l none ends = inl refl
refused_only fault.Book times l none ends = inr refl
refused_only fault.Spent times l none ends = absurd (true≢false (sym (ends.ends 0 (inl (omega (arith, none)))).is_spent))
refused_only fault.TooFewNodes times l none ends = absurd (ends.ends 0 (inl (omega (arith, none))))
refused_only fault.GaveUp times l none ends = absurd (ends.ends 0 (inl (omega (arith, none))))

-- what the log refuses shows in no record
pub refused_cause : (f : RunFault) (stuck spent : Bool) → IsBookFault f → HasCause f stuck spent
refused_cause f stuck spent (inl same) = subst (λ (g : RunFault). HasCause g stuck spent) (sym same) tt
refused_cause f stuck spent (inr same) = subst (λ (g : RunFault). HasCause g stuck spent) (sym same) tt

-- a fault with a cause is a node's
pub cause_faults : (f : RunFault) (stuck spent : Bool) → HasCause f stuck spent → IsNodeFault f
cause_faults fault.NotReopened stuck spent cause = inr (inl refl)
cause_faults fault.Memory stuck spent cause = inr (inr (inl refl))
cause_faults fault.Book stuck spent cause = inr (inr (inr refl))
cause_faults fault.Spent stuck spent cause = inl refl
cause_faults fault.TooFewNodes stuck spent cause = absurd cause
cause_faults fault.GaveUp stuck spent cause = absurd cause

-- what a batch comes to
pub ruleset batching = (copy_kept, copy_fits, held_back, half_out, all_out, refused_cause)

-- what batch after batch comes to
pub ruleset serving = (held_back, kept_on, refused_cause)
