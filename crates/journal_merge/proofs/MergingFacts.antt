-- Journals that are being merged.
use Rattle.std.proofs.Common.{◌≡◌, ◌==◌, Bool, true, false, cond, List, [], ◌∷◌, ◌++◌, refl, sym, ◌∙◌, ap, subst}
use Rattle.std.proofs.lemmas.List.{append_assoc, append-nil}
use Rattle.std.proofs.lemmas.Bool.{eqb-true, eq-eqb}
use Rattle.lock_messages.specs.declared.ids.Actor.{Actor}
use Rattle.lock_messages.specs.Laws.{OneSpelling}
use Rattle.lock_model.specs.Ballots.{Ballot}
use Rattle.world_model.specs.declared.exact.ExactWorld.{ExactWorld}
use Rattle.world_model.specs.Locality.{IsHistory, own_events, local_part, EffectsAreOfTheirEvents, MessagesAreAsListed, StepsChangeOnePart}
use Rattle.world_model.specs.Parts.{place, Part, part, is_own}
use Rattle.world_model.specs.Worlds.{Setting}
use Rattle.world_model.proofs.Deeds.{model-laws}
use Rattle.world_model.proofs.LocalityFacts.{places-apart, history-setting, parts-local}
use Rattle.merge_model.specs.LongHistories.{IsLongHistory}
use Rattle.merge_model.specs.Merging.{Logs, HasSource, IsMerge, content_of}
use Rattle.merge_model.proofs.OwnRunFacts.{Pair}
use Rattle.merge_model.proofs.Greed.{stuck}
use Rattle.merge_model.proofs.GoingOn.{long-go-on}
use Rattle.merge_model.proofs.TakenTurns.{history-comes, long-merges, long-ballots, long-parts, long-joined}
use Rattle.own_journals.specs.declared.lines.OwnLine.{OwnLine}
use Rattle.journal_merge.specs.LineMerges.{TellsLine, TellsLines, Journals, HasMerge, IsCut, IsMerging, IsJudging, IsRefused, IsWaiting}
use Rattle.journal_merge.proofs.ContentFacts.{same-local}
use Rattle.journal_merge.proofs.TellingFacts.{told-joined, Cut, told-cut, lines-content, line-own, own-own, own-none, line-some}

-- a history goes on

own-joined-if : (q : Pair) (all begun rest : List Pair) (t : Bool) → all ≡ begun ++ rest → cond t (q ∷ all) all ≡ cond t (q ∷ begun) begun ++ rest
own-joined-if q all begun rest true e = ap (λ xs. q ∷ xs) e
own-joined-if q all begun rest false e = e

own-joined : (who : Actor) (begun rest : List Pair) → own_events who (begun ++ rest) ≡ own_events who begun ++ own_events who rest
own-joined who [] rest = refl
own-joined who (q ∷ begun) rest = own-joined-if q (own_events who (begun ++ rest)) (own_events who begun) (own_events who rest) (is_own who q.0) (own-joined who begun rest)

-- a line is taken

cut-at : (w u : ExactWorld) (who : Actor) (lines left after : List OwnLine) (line : OwnLine) (told events : List Pair) → u.ballots ≡ w.ballots → part u who ≡ local_part w.ballots (part w who) (own_events who told) → IsCut w who lines left (own_events who told) → left ≡ line ∷ after → TellsLine u.ballots who (part u who) line events →
    IsCut w who lines after (own_events who (told ++ events))
cut-at w u who lines left after line told events ballots now is next tells =
    let own : own_events who (told ++ events) ≡ own_events who told ++ events = own-joined who told events ∙ ap (λ xs. own_events who told ++ xs) (own-own who events (line-own u.ballots who (part u who) line events tells)) in
    let here : TellsLine w.ballots who (local_part w.ballots (part w who) (own_events who told)) line events = subst (λ p. TellsLine w.ballots who p line events) now (subst (λ b. TellsLine b who (part u who) line events) ballots tells) in
    record {
      taken = is.taken ++ line ∷ [];
      cut = is.cut ∙ ap (λ xs. is.taken ++ xs) next ∙ sym (append_assoc is.taken (line ∷ []) after);
      told = subst (TellsLines w.ballots who (part w who) (is.taken ++ line ∷ [])) (sym own)
          (told-joined w.ballots who (part w who) is.taken (line ∷ []) (own_events who told) events is.told (events, [], here, refl, sym (append-nil events)));
    }

pub cut-more : (w u : ExactWorld) (who : Actor) (lines left after : List OwnLine) (line : OwnLine) (told events : List Pair) → IsHistory w told u → IsCut w who lines left (own_events who told) → left ≡ line ∷ after → TellsLine u.ballots who (part u who) line events →
    IsCut w who lines after (own_events who (told ++ events))
cut-more w u who lines left after line told events h is next tells =
    cut-at w u who lines left after line told events (ap (λ (s : Setting). s.ballots) (history-setting model-laws told w u h)) (parts-local model-laws told w u h who) is next tells

pub cut-same : (w u : ExactWorld) (who other : Actor) (lines left after : List OwnLine) (line : OwnLine) (told events : List Pair) → (other ≡ who → ⊥) → IsCut w other lines left (own_events other told) → after ≡ left → TellsLine u.ballots who (part u who) line events →
    IsCut w other lines after (own_events other (told ++ events))
cut-same w u who other lines left after line told events apart is same tells =
    let own : own_events other (told ++ events) ≡ own_events other told = own-joined other told events ∙ ap (λ xs. own_events other told ++ xs) (own-none who other events apart (line-own u.ballots who (part u who) line events tells)) ∙ append-nil (own_events other told) in
    record {
      taken = is.taken;
      cut = is.cut ∙ ap (λ xs. is.taken ++ xs) (sym same);
      told = subst (TellsLines w.ballots other (part w other) is.taken) (sym own) is.told;
    }

abbrev pub AreCut : ExactWorld → Journals → Journals → List Pair → Type 0
AreCut w journals left told = (who : Actor) → IsCut w who (journals who) (left who) (own_events who told)

pub cuts-go-on : (w u : ExactWorld) (journals left after : Journals) (who : Actor) (line : OwnLine) (told events : List Pair) → IsLongHistory w told u → AreCut w journals left told → left who ≡ line ∷ after who → ((other : Actor) → (other ≡ who → ⊥) → after other ≡ left other) →
    TellsLine u.ballots who (part u who) line events → AreCut w journals after (told ++ events)
cuts-go-on w u journals left after who line told events h cuts next others tells other = go (place other == place who) refl
  where
    go : (t : Bool) → (place other == place who) ≡ t → IsCut w other (journals other) (after other) (own_events other (told ++ events))
    go true is =
        let same : other ≡ who = places-apart other who (eqb-true (place other) (place who) is) in
        subst (λ x. IsCut w x (journals x) (after x) (own_events x (told ++ events))) (sym same) (cut-at w u who (journals who) (left who) (after who) line told events (long-ballots w u told h) (long-parts w u told who h) (cuts who) next tells)
    go false is =
        let apart : other ≡ who → ⊥ = λ e. let z : true ≡ false = sym (eq-eqb (place other) (place who) (ap place e)) ∙ is in cc in
        cut-same w u who other (journals other) (left other) (after other) line told events apart (cuts other) (others other apart) tells

pub judging-goes-on : (w u v : ExactWorld) (journals left after : Journals) (who : Actor) (line : OwnLine) (events : List Pair) → IsJudging w journals left u → left who ≡ line ∷ after who → ((other : Actor) → (other ≡ who → ⊥) → after other ≡ left other) →
    TellsLine u.ballots who (part u who) line events → IsLongHistory u events v → IsJudging w journals after v
judging-goes-on w u v journals left after who line events m next others tells h = record {
  told = m.told ++ events;
  history = long-joined w u v m.told events m.history h;
  cut = cuts-go-on w u journals left after who line m.told events m.history m.cut next others tells;
}

-- all lines are taken

pub judged-have-merge : (w v : ExactWorld) (journals left : Journals) → IsJudging w journals left v → ((who : Actor) → left who ≡ []) → HasMerge w journals
judged-have-merge w v journals left m none = record {
  logs = λ who. own_events who m.told;
  history = m.told;
  merge = long-merges w v m.told m.history;
  told = λ who. subst (λ lines. TellsLines w.ballots who (part w who) lines (own_events who m.told)) (sym ((m.cut who).cut ∙ ap (λ xs. (m.cut who).taken ++ xs) (none who) ∙ append-nil (m.cut who).taken)) (m.cut who).told;
}

-- what is left of a merge

record Rest (v : ExactWorld) (left : Journals) : Type 0 where
  logs : Logs
  history : List Pair
  merge : IsMerge v logs history
  told : (who : Actor) → TellsLines v.ballots who (part v who) (left who) (logs who)

rest-of : OneSpelling → (w v : ExactWorld) (journals left : Journals) → IsJudging w journals left v → HasMerge w journals → Rest v left
rest-of once w v journals left m h =
    let on = long-go-on w v h.logs (λ who. (cuts who).begun) (λ who. (cuts who).rest) m.told h.history h.merge m.history (λ who. (cuts who).is) content in
    record { logs = λ who. (cuts who).rest; history = on.0; merge = on.1; told = tells }
  where
    cuts : (who : Actor) → Cut w.ballots who (part w who) (m.cut who).taken (left who) (h.logs who)
    cuts who = told-cut w.ballots who (part w who) (m.cut who).taken (left who) (h.logs who) (subst (λ lines. TellsLines w.ballots who (part w who) lines (h.logs who)) (m.cut who).cut (h.told who))

    content : (who : Actor) → content_of (cuts who).begun ≡ content_of (own_events who m.told)
    content who = lines-content once w.ballots who (part w who) (m.cut who).taken (cuts who).begun (own_events who m.told) (cuts who).told (m.cut who).told

    tells : (who : Actor) → TellsLines v.ballots who (part v who) (left who) (cuts who).rest
    tells who =
        subst (λ b. TellsLines b who (part v who) (left who) (cuts who).rest) (sym (long-ballots w v m.told m.history))
        (subst (λ p. TellsLines w.ballots who p (left who) (cuts who).rest)
        (same-local w.ballots (part w who) (cuts who).begun (own_events who m.told) (content who) ∙ sym (long-parts w v m.told who m.history)) (cuts who).after)

pub refused-are-judged : OneSpelling → (w v : ExactWorld) (journals left : Journals) (who : Actor) (line : OwnLine) (rest : List OwnLine) → IsJudging w journals left v →
    left who ≡ line ∷ rest → IsRefused v who line → HasMerge w journals → ⊥
refused-are-judged once w v journals left who line rest m next refused h =
    let r = rest-of once w v journals left m h in
    let t : TellsLines v.ballots who (part v who) (line ∷ rest) (r.logs who) = subst (λ lines. TellsLines v.ballots who (part v who) lines (r.logs who)) next (r.told who) in
    refused t.0 t.2

first-of : (b : List Ballot) (who : Actor) (p : Part) (line : OwnLine) (rest : List OwnLine) (log : List Pair) → TellsLines b who p (line ∷ rest) log → (q : Pair) × (more : List Pair) × (own : List Pair) × TellsLine b who p line (q ∷ more) × (log ≡ q ∷ own)
first-of b who p line rest log t =
    let s = line-some b who p line t.0 t.2 in
    (s.0, s.1, s.1 ++ t.1, subst (TellsLine b who p line) s.2 t.2, t.4 ∙ ap (λ xs. xs ++ t.1) s.2)

pub waiting-are-judged : OneSpelling → (w v : ExactWorld) (journals left : Journals) (someone : Actor) (line : OwnLine) (rest : List OwnLine) → IsJudging w journals left v →
    left someone ≡ line ∷ rest → ((who : Actor) (next : OwnLine) (more : List OwnLine) → left who ≡ next ∷ more → IsWaiting v who next) → HasMerge w journals → ⊥
waiting-are-judged once w v journals left someone line rest m next waits h =
    let r = rest-of once w v journals left m h in
    let f = first-of v.ballots someone (part v someone) line rest (r.logs someone) (subst (λ lines. TellsLines v.ballots someone (part v someone) lines (r.logs someone)) next (r.told someone)) in
    stuck v.ballots (part v) v.sent r.logs someone f.0 f.2 f.4 (λ who q own is source. none r who q own is source (left who) refl (r.told who)) r.history r.merge.interleaved r.merge.sourced
  where
    none : (r : Rest v left) (who : Actor) (q : Pair) (own : List Pair) → r.logs who ≡ q ∷ own → HasSource v.sent q.1 → (lines : List OwnLine) → left who ≡ lines → TellsLines v.ballots who (part v who) lines (r.logs who) → ⊥
    none r who q own is source [] empty told = let z : [] ≡ q ∷ own = sym told ∙ is in cc
    none r who q own is source (first ∷ more) some told =
        let f = first-of v.ballots who (part v who) first more (r.logs who) told in
        let z : f.0 ∷ f.2 ≡ q ∷ own = sym f.4 ∙ is in
        let same : q ≡ f.0 = cc in
        waits who first more some f.0 f.1 f.3 (subst (λ (x : Pair). HasSource v.sent x.1) same source)

-- journals that are being merged are being judged

judging : StepsChangeOnePart → EffectsAreOfTheirEvents → MessagesAreAsListed → (w v : ExactWorld) (journals left : Journals) → IsMerging w journals left v → IsJudging w journals left v
judging changes effects messages w v journals left m = record { told = m.told; history = history-comes changes effects messages m.told w v m.history; cut = m.cut }

pub history-joined : (w u v : ExactWorld) (begun rest : List Pair) → IsHistory w begun u → IsHistory u rest v → IsHistory w (begun ++ rest) v
history-joined w u v [] rest h i = subst (λ x. IsHistory x rest v) h i
history-joined w u v (q ∷ begun) rest h i = (h.0, h.1, history-joined h.0 u v begun rest h.2 i)

pub taking-goes-on : StepsChangeOnePart → EffectsAreOfTheirEvents → MessagesAreAsListed → (w u v : ExactWorld) (journals left after : Journals) (who : Actor) (line : OwnLine) (events : List Pair) → IsMerging w journals left u → left who ≡ line ∷ after who → ((other : Actor) → (other ≡ who → ⊥) → after other ≡ left other) →
    TellsLine u.ballots who (part u who) line events → IsHistory u events v → IsMerging w journals after v
taking-goes-on changes effects messages w u v journals left after who line events m next others tells h = record {
  told = m.told ++ events;
  history = history-joined w u v m.told events m.history h;
  cut = cuts-go-on w u journals left after who line m.told events (history-comes changes effects messages m.told w u m.history) m.cut next others tells;
}

pub merged-have-merge : StepsChangeOnePart → EffectsAreOfTheirEvents → MessagesAreAsListed → (w v : ExactWorld) (journals left : Journals) → IsMerging w journals left v → ((who : Actor) → left who ≡ []) → HasMerge w journals
merged-have-merge changes effects messages w v journals left m = judged-have-merge w v journals left (judging changes effects messages w v journals left m)

pub refused-have-none : StepsChangeOnePart → EffectsAreOfTheirEvents → MessagesAreAsListed → OneSpelling → (w v : ExactWorld) (journals left : Journals) (who : Actor) (line : OwnLine) (rest : List OwnLine) → IsMerging w journals left v →
    left who ≡ line ∷ rest → IsRefused v who line → HasMerge w journals → ⊥
refused-have-none changes effects messages once w v journals left who line rest m = refused-are-judged once w v journals left who line rest (judging changes effects messages w v journals left m)

pub waiting-have-none : StepsChangeOnePart → EffectsAreOfTheirEvents → MessagesAreAsListed → OneSpelling → (w v : ExactWorld) (journals left : Journals) (someone : Actor) (line : OwnLine) (rest : List OwnLine) → IsMerging w journals left v →
    left someone ≡ line ∷ rest → ((who : Actor) (next : OwnLine) (more : List OwnLine) → left who ≡ next ∷ more → IsWaiting v who next) → HasMerge w journals → ⊥
waiting-have-none changes effects messages once w v journals left someone line rest m = waiting-are-judged once w v journals left someone line rest (judging changes effects messages w v journals left m)
