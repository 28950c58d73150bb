-- What a run in batches comes to.
use Rattle.std.proofs.Common.{◌≡◌, ◌⊎◌, ℕ, Bool, List, [], ◌∷◌, Option, Result, Ok, Err, OnOk, OnErr, inl, inr, refl, sym, ap, ◌∙◌, subst, append-nil}
use Rattle.lock_model.specs.Decisions.{Among}
use Rattle.stable_record.specs.declared.node_records.NodeRecord.{NodeRecord}
use Rattle.stable_record.specs.Finding.{FindsOnly, FindsOnlyOr}
use Rattle.stable_record.specs.Records.{node_record_of}
use Rattle.voter_core.specs.Voters.{Voter}
use Rattle.lossy_link.specs.declared.parcels.Post.{Post}
use Rattle.lossy_link.specs.declared.parcels.Sending.{Sending}
use Rattle.lossy_link.specs.Links.{all_more}
use Rattle.lossy_link.proofs.GivenFacts.{none_more}
use Rattle.event_recorders.specs.declared.faults.RunFault.{RunFault}
use Rattle.event_recorders.specs.OwnLogs.{OwnLog, part_now, kept_in}
use Rattle.lock_messages.specs.declared.ids.Actor.TheVariants as actor
use Rattle.actor_steps.specs.Sendings.{sent_of, SentFollows}
use Rattle.actor_steps.proofs.SendingFacts.{all_told, unused_sends_nothing}
use Rattle.actor_steps.proofs.StepFacts.{is_one}
use Rattle.node_loop.specs.Endings.{EndsIdle}
use Rattle.node_loop.specs.Standing.{StandsIdle, as_opened, IsReady, IsIdleNode, IsAtEnd}
use Rattle.merge_model.specs.OwnRuns.{IsOwnRun}
use Rattle.node_loop.specs.Unsent.{TellsGone}
use Rattle.node_batches.proofs.BatchFacts.{copy_kept, copy_fits, rests_last, refused_cause}
use Rattle.node_batches.specs.Batches.{HasGone, Rests, SendsKept, SendsKeptSince}

-- A node is ready with what it found.
pub ready_found : (l : OwnLog) (n : ℕ) (found bytes : List ℕ) (strings now : List (List ℕ)) → ((kept : NodeRecord) × IsReady l n kept strings) → now ≡ bytes ∷ [] → FindsOnly strings now → found ≡ bytes → (kept : NodeRecord) × IsReady l n kept (found ∷ [])
ready_found l n found bytes strings now ready is only same = (
  ready.0,
  record {
    unused = ready.1.unused;
    opening = ready.1.opening;
    good = ready.1.good;
    finds = ap (λ (s : List ℕ). s ∷ []) (same ∙ is_one (node_record_of ready.0) bytes (subst (λ s. Among bytes s) ready.1.finds (only bytes (subst (λ s. Among bytes s) (sym is) (inl refl)))));
  },
)

-- What a restart finds if a node did not rise: what it could find, or what the node has kept.
pub found_or : (kept : List ℕ) (before now : List (List ℕ)) → FindsOnly before now → FindsOnlyOr before kept now
found_or kept before now only = λ found there. inl (only found there)

pub kept_or : (l : OwnLog) (v : Voter) (copy bytes found next : List ℕ) (stuck : Bool) (before mid now : List (List ℕ)) → FindsOnly before mid → mid ≡ bytes ∷ [] → found ≡ bytes → FindsOnlyOr (found ∷ []) next now → StandsIdle l v (copy ∷ []) stuck → next ≡ copy → FindsOnlyOr before (kept_in (part_now l)) now
kept_or l v copy bytes found next stuck before mid now only is one or idle same = λ some there. either some (or some there)
  where
    either : (some : List ℕ) → Among some (found ∷ []) ⊎ (some ≡ next) → Among some before ⊎ (some ≡ kept_in (part_now l))
    either some (inl there) = inl (only some (subst (λ s. Among some s) (ap (λ (b : List ℕ). b ∷ []) one ∙ sym is) there))
    either some (inr new) = inr (new ∙ same ∙ copy_kept l v copy stuck idle)

-- A node that did not rise holds back that it rose.
pub not_risen : (l l' : OwnLog) (n : ℕ) (kept : NodeRecord) (strings strings' : List (List ℕ)) (given : Option (List Sending)) → IsReady l n kept strings → FindsOnlyOr strings (kept_in (part_now l')) strings' → as_opened l' ≡ as_opened l → SendsKept l' strings' given given
not_risen l l' n kept strings strings' given ready only on = inl (record {
  before = l;
  opened = sym on;
  run = subst (IsOwnRun l.ballots l.actor l.opening) (sym ready.unused.events) tt;
  sent = sym (ap (all_more given) (unused_sends_nothing l (actor.Node n) ready.unused) ∙ none_more given);
  found = λ found there. either found (only found there);
})
  where
    keeps : kept_in (part_now l) ≡ node_record_of kept
    keeps = ap (λ events. kept_in (part_now (record l { events = events }))) ready.unused.events ∙ ap kept_in ready.opening

    either : (found : List ℕ) → Among found strings ⊎ (found ≡ kept_in (part_now l')) → (found ≡ kept_in (part_now l)) ⊎ (found ≡ kept_in (part_now l'))
    either found (inl there) = inl (is_one (node_record_of kept) found (subst (λ s. Among found s) ready.finds there) ∙ sym keeps)
    either found (inr new) = inr new

-- how batches end if nothing more comes
pub ends_idle : (m l : OwnLog) (v : Voter) (copy : List ℕ) (strings : List (List ℕ)) (stuck : Bool) (given given' : Option (List Sending)) (coming : Option (List Post)) →
    sent_of m ≡ [] → SentFollows m l given given' → Rests l v copy strings stuck → IsAtEnd coming → EndsIdle l given given' coming
ends_idle m l v copy strings stuck given given' coming nothing follows is closed = record { idle = subst IsIdleNode (sym is.idle.part) (refl, refl); sent = all_told m l given given' nothing follows; closed = closed }

-- since a log that sends nothing
pub kept_since : (l l' : OwnLog) (strings : List (List ℕ)) (given given' : Option (List Sending)) → sent_of l ≡ [] → SendsKeptSince l l' strings given given' → SendsKept l' strings given given'
kept_since l l' strings given given' nothing kept = kept.since given (sym (ap (all_more given) nothing ∙ none_more given))

-- A node that rests has kept what a restart finds.
pub rests_or : (l : OwnLog) (v : Voter) (copy : List ℕ) (before strings : List (List ℕ)) (stuck : Bool) → Rests l v copy strings stuck → FindsOnlyOr before (kept_in (part_now l)) strings
rests_or l v copy before strings stuck is = λ found there. inr (is_one (kept_in (part_now l)) found (subst (λ s. Among found s) (rests_last l v copy strings stuck is) there))

-- Nothing was sent that is not kept, however the batches ended.
pub kept_either : (r : Result (Unit {0}) RunFault) (m l : OwnLog) (v : Voter) (copy : List ℕ) (strings : List (List ℕ)) (stuck : Bool) (given given' : Option (List Sending)) → sent_of m ≡ [] →
    OnOk r (Rests l v copy strings stuck) → OnOk r (SentFollows m l given given') → OnErr r (SendsKeptSince m l strings given given') → SendsKept l strings given given'
kept_either (Ok done) m l v copy strings stuck given given' nothing rests follows kept =
    inr (record { sent = sent_of l; left = []; all = sym (append-nil (sent_of l)); now = all_told m l given given' nothing follows; found = rests_last l v copy strings stuck rests })
kept_either (Err f) m l v copy strings stuck given given' nothing rests follows kept = kept_since m l strings given given' nothing kept

-- And then it told that it is gone.
pub gone_kept : (n : ℕ) (l : OwnLog) (strings : List (List ℕ)) (given between given' : Option (List Sending)) (refused : Option Bool) → SendsKept l strings given between → TellsGone n between given' refused → HasGone n l strings given given' refused
gone_kept n l strings given between given' refused kept gone = record { between = between; kept = kept; gone = gone }

-- what rising comes to
pub ruleset rising = (ready_found, found_or, kept_or, rests_or, copy_fits, refused_cause)

-- and a life
pub ruleset living = (not_risen, ends_idle, rests_last, kept_either)
