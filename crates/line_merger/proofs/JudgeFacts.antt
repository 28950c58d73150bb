-- What comes of a line that is judged.
use Rattle.std.proofs.Common.{◌≡◌, ◌⊎◌, ℕ, true, false, List, [], ◌∷◌, ◌++◌, Option, Some, None, IfSome, IfOk, Result, Ok, Err, refl, sym, ◌∙◌, ap, subst, inl, inr}
use Rattle.lock_messages.specs.declared.ids.Actor.{Actor}
use Rattle.lock_messages.specs.declared.ids.Actor.TheVariants as actor
use Rattle.lock_messages.specs.declared.messages.Message.{Message}
use Rattle.lock_messages.specs.Messages.{IsMessage}
use Rattle.lock_messages.specs.Frames.{frame_of}
use Rattle.lock_messages.specs.Laws.{OneSpelling}
use Rattle.lock_model.specs.Decisions.{Among}
use Rattle.lock_model.proofs.GrantFacts.{among-left, among-right, among-cases}
use Rattle.world_model.specs.declared.events.Effect.{Effect}
use Rattle.world_model.specs.declared.events.Event.{Event}
use Rattle.world_model.specs.declared.exact.ExactWorld.{ExactWorld}
use Rattle.world_model.specs.ExactWorlds.{actor_of}
use Rattle.world_model.specs.Locality.{IsHistory, EffectsAreOfTheirEvents, MessagesAreAsListed, StepsChangeOnePart}
use Rattle.world_model.specs.Parts.{part, message_of, after_own, said_by}
use Rattle.world_machine.specs.Machines.{with_sent}
use Rattle.merge_model.specs.OwnRuns.{IsTurn}
use Rattle.merge_model.specs.LongHistories.{Comes, IsLongHistory}
use Rattle.merge_model.specs.Merging.{HasSource}
use Rattle.merge_model.specs.Lives.{Restarts, only_rises, falls_first}
use Rattle.merge_model.proofs.OwnRunFacts.{Pair}
use Rattle.merge_model.proofs.TakenTurns.{taken-comes}
use Rattle.own_journals.specs.declared.lines.OwnLine.{OwnLine}
use Rattle.own_journals.specs.declared.lines.OwnLine.TheVariants as own
use Rattle.journal_merge.specs.LineMerges.{TellsLine}
use Rattle.journal_merge.proofs.ContentFacts.{own-kind, no-message}
use Rattle.frame_numbers.specs.FrameNumbers.{HasFrame}
use Rattle.frame_numbers.specs.SaidFrames.{has_frame, IsFrameOfOne, AddsFrames, AreFramesOf}
use Rattle.line_merger.specs.declared.offers.MergeFault.{MergeFault}
use Rattle.line_merger.specs.declared.offers.Offer.{Offer}
use Rattle.line_merger.specs.declared.offers.Offer.TheVariants as offer
use Rattle.line_merger.specs.Offers.{GoesOn, TakesLine}
use Rattle.line_merger.specs.Judging.{Judged, IsOf, JudgesLine, TakesRecalled}

-- the messages of a world are no part of its actors

pub part-as : (w : ExactWorld) (sent : List Message) (who : Actor) → part (with_sent w sent) who ≡ part w who
part-as w sent (actor.Node n) = refl
part-as w sent (actor.Client c) = refl

said-more : (said more : List Message) (done : Effect) → ((m : Message) → Among m said → Among m more) → HasSource said done → HasSource more done
said-more said more done all h = go (message_of done) h
  where
    go : (o : Option Message) → IfSome o (λ m. Among m said) → IfSome o (λ m. Among m more)
    go None h = tt
    go (Some m) h = all m h

-- what is taken in a world that recalls some messages comes in the world that has them all

abbrev says-in : ExactWorld → Pair → List Message
says-in w q = said_by w.ballots q.0 (part w (actor_of q.0))

abbrev after-in : ExactWorld → ExactWorld → Pair → ExactWorld
after-in w u q = with_sent u (w.sent ++ says-in w q)

comes-in : (w u : ExactWorld) (sent : List Message) (q : Pair) → ((m : Message) → Among m sent → Among m w.sent) → Comes (with_sent w sent) q u → Comes w q (after-in w u q)
comes-in w u sent q all c = record {
  turn = subst (λ p. IsTurn w.ballots p q.0 q.1) (part-as w sent (actor_of q.0)) c.turn;
  source = said-more sent w.sent q.1 all c.source;
  change = record {
    setting = c.change.setting;
    own = part-as u (w.sent ++ says-in w q) (actor_of q.0) ∙ c.change.own ∙ ap (after_own w.ballots q.0 q.1) (part-as w sent (actor_of q.0));
    others = λ who apart. part-as u (w.sent ++ says-in w q) who ∙ c.change.others who apart ∙ part-as w sent who;
    sent = refl;
  };
}

pub record Lifted (w : ExactWorld) (events : List Pair) (sent : List Message) (a : ExactWorld) : Type 0 where
  pub world : ExactWorld
  pub history : IsLongHistory w events world
  pub same : a ≡ with_sent world a.sent
  pub kept : (m : Message) → Among m w.sent → Among m world.sent
  pub stays : (m : Message) → Among m sent → Among m a.sent
  pub back : (m : Message) → Among m a.sent → Among m world.sent
  pub over : (m : Message) → Among m world.sent → Among m w.sent ⊎ Among m a.sent

module _ (changes : StepsChangeOnePart) (effects : EffectsAreOfTheirEvents) (messages : MessagesAreAsListed) where
  lift : (events : List Pair) (w : ExactWorld) (sent : List Message) (a : ExactWorld) → ((m : Message) → Among m sent → Among m w.sent) → IsHistory (with_sent w sent) events a → Lifted w events sent a
  lift [] w sent a all h =
      let same : a.sent ≡ sent = ap (λ (x : ExactWorld). x.sent) h in
      record {
        world = w;
        history = refl;
        same = h ∙ ap (with_sent w) (sym same);
        kept = λ m at. at;
        stays = λ m at. subst (λ xs. Among m xs) (sym same) at;
        back = λ m at. all m (subst (λ xs. Among m xs) same at);
        over = λ m at. inl at;
      }
  lift (q ∷ events) w sent a all h =
      let u : ExactWorld = h.0 in
      let c : Comes (with_sent w sent) q u = taken-comes changes effects messages (with_sent w sent) u q h.1 in
      let says : List Message = says-in w q in
      let now : u.sent ≡ sent ++ says = c.change.sent ∙ ap (λ p. sent ++ said_by w.ballots q.0 p) (part-as w sent (actor_of q.0)) in
      let more : (m : Message) → Among m u.sent → Among m (w.sent ++ says) = λ m at. join m says (among-cases m sent says (subst (λ xs. Among m xs) now at)) in
      let l : Lifted (after-in w u q) events u.sent a = lift events (after-in w u q) u.sent a more h.2 in
      record {
        world = l.world;
        history = (after-in w u q, comes-in w u sent q all c, l.history);
        same = l.same;
        kept = λ m at. l.kept m (among-left m w.sent says at);
        stays = λ m at. l.stays m (subst (λ xs. Among m xs) (sym now) (among-left m sent says at));
        back = l.back;
        over = λ m at. first m says u l.stays now (l.over m at);
      }
    where
      join : (m : Message) (says : List Message) → Among m sent ⊎ Among m says → Among m (w.sent ++ says)
      join m says (inl at) = among-left m w.sent says (all m at)
      join m says (inr at) = among-right m w.sent says at

      later : (m : Message) (says : List Message) (u : ExactWorld) → ((o : Message) → Among o u.sent → Among o a.sent) → u.sent ≡ sent ++ says → Among m w.sent ⊎ Among m says → Among m w.sent ⊎ Among m a.sent
      later m says u stays now (inl at) = inl at
      later m says u stays now (inr at) = inr (stays m (subst (λ xs. Among m xs) (sym now) (among-right m sent says at)))

      first : (m : Message) (says : List Message) (u : ExactWorld) → ((o : Message) → Among o u.sent → Among o a.sent) → u.sent ≡ sent ++ says → Among m (w.sent ++ says) ⊎ Among m a.sent → Among m w.sent ⊎ Among m a.sent
      first m says u stays now (inl at) = later m says u stays now (among-cases m w.sent says at)
      first m says u stays now (inr at) = inr at

-- the frames after a line

frames-after : (frames after : List (List ℕ)) (said now more : List Message) → AreFramesOf frames said → AddsFrames frames more after → ((m : Message) → Among m said → Among m now) → ((m : Message) → Among m more → Among m now) → ((m : Message) → Among m now → Among m said ⊎ Among m more) → AreFramesOf after now
frames-after frames after said now more are adds kept back over = record {
  found = λ frame has. from frame (adds.found frame has);
  all = λ m at. to m (over m at);
}
  where
    widen : (sent : List Message) (frame : List ℕ) → ((m : Message) → Among m sent → Among m now) → IsFrameOfOne sent frame → IsFrameOfOne now frame
    widen sent frame all (m, at, known, is) = (m, all m at, known, is)

    from : (frame : List ℕ) → (has_frame frames frame ≡ true) ⊎ IsFrameOfOne more frame → IsFrameOfOne now frame
    from frame (inl has) = widen said frame kept (are.found frame has)
    from frame (inr one) = widen more frame back one

    to : (m : Message) → Among m said ⊎ Among m more → has_frame after (frame_of m) ≡ true
    to m (inl at) = adds.kept (frame_of m) (are.all m at)
    to m (inr at) = adds.all m at

-- what came of a line

tells-as : (w b : ExactWorld) (who : Actor) (line : OwnLine) (events : List Pair) → b ≡ with_sent w b.sent → TellsLine b.ballots who (part b who) line events → TellsLine w.ballots who (part w who) line events
tells-as w b who line events same h =
    subst (λ p. TellsLine w.ballots who p line events) (ap (λ x. part x who) same ∙ part-as w b.sent who)
    (subst (λ bs. TellsLine bs who (part b who) line events) (ap (λ (x : ExactWorld). x.ballots) same) h)

tells-back : (w b : ExactWorld) (who : Actor) (line : OwnLine) (events : List Pair) → b ≡ with_sent w b.sent → TellsLine w.ballots who (part w who) line events → TellsLine b.ballots who (part b who) line events
tells-back w b who line events same h =
    subst (λ bs. TellsLine bs who (part b who) line events) (sym (ap (λ (x : ExactWorld). x.ballots) same))
    (subst (λ p. TellsLine w.ballots who p line events) (sym (ap (λ x. part x who) same ∙ part-as w b.sent who)) h)

abbrev pub Stands : {F : Type 0} → ExactWorld → Actor → OwnLine → Result Offer F → Judged → Type 0
Stands w who line r j = (v : ExactWorld) × JudgesLine w who line r v × IfOk r (λ o. GoesOn o → IsOf j v)

pub judged : (F : Type 0) → StepsChangeOnePart → EffectsAreOfTheirEvents → MessagesAreAsListed → (w a : ExactWorld) (who : Actor) (line : OwnLine) (before after : List (List ℕ)) (now : ExactWorld) (o : Offer) → AreFramesOf before w.sent → TakesRecalled w who line (Ok o) a → AddsFrames before a.sent after → now ≡ with_sent a [] →
    Stands {F = F} w who line (Ok o) (record { actors = now; frames = after })
judged F changes effects messages w a who line before after now (offer.Took taken) are (b, recalls, (events, tells, history, names)) adds is =
    let l : Lifted w events b.sent a = lift changes effects messages events w b.sent a recalls.said (subst (λ x. IsHistory x events a) recalls.same history) in (
      l.world,
      (events, tells-as w b who line events recalls.same tells, l.history, names),
      λ on. record {
        actors = is ∙ ap (λ x. with_sent x []) l.same;
        said = frames-after before after w.sent l.world.sent a.sent are adds l.kept l.back l.over;
      },
    )
judged F changes effects messages w a who line before after now offer.Waits are (b, recalls, (same, waits, unsaid)) adds is = (
  w,
  (refl, λ q more tells source. waits q more (tells-back w b who line (q ∷ more) recalls.same tells) (recalls.enough q more tells source)),
  λ on. record {
    actors = is ∙ ap (λ x. with_sent x []) (same ∙ recalls.same);
    said = frames-after before after w.sent w.sent a.sent are adds (λ m at. at) (λ m at. recalls.said m (subst (λ (x : ExactWorld). Among m x.sent) same at)) (λ m at. inl at);
  },
)
judged F changes effects messages w a who line before after now (offer.Refused why) are (b, recalls, refused) adds is = (
  w,
  λ events tells. refused.0 events (tells-back w b who line events recalls.same tells),
  λ on. absurd on,
)

pub judged-ok : {F : Type 0} → StepsChangeOnePart → EffectsAreOfTheirEvents → MessagesAreAsListed → (w a : ExactWorld) (who : Actor) (line : OwnLine) (i j : Judged) (r : Result Offer MergeFault) (o : Offer) (q : Result Offer F) → IsOf i w → TakesRecalled w who line r a → r ≡ Ok o → AddsFrames i.frames a.sent j.frames → j.actors ≡ with_sent a [] → q ≡ Ok o →
    Stands w who line q j
judged-ok {F} changes effects messages w a who line i j r o q of recalled is adds now same =
    subst (λ (x : Result Offer F). Stands w who line x j) (sym same) (judged F changes effects messages w a who line i.frames j.frames j.actors o of.said (subst (λ x. TakesRecalled w who line x a) is recalled) adds now)

pub not-judged : {F : Type 0} (w : ExactWorld) (who : Actor) (line : OwnLine) (j : Judged) (q : Result Offer F) (f : F) → q ≡ Err f → Stands w who line q j
not-judged {F} w who line j q f same = subst (λ (x : Result Offer F). Stands w who line x j) (sym same) (w, tt, tt)

-- a judge at first

pub first-judge : (w a now : ExactWorld) (frames after : List (List ℕ)) → frames ≡ [] → AddsFrames frames a.sent after → a ≡ w → now ≡ with_sent a [] → IsOf (record { actors = now; frames = after }) w
first-judge w a now frames after none adds same is = record {
  actors = is ∙ ap (λ x. with_sent x []) same;
  said = record {
    found = λ frame has. found frame (adds.found frame has);
    all = λ m at. adds.all m (subst (λ (x : ExactWorld). Among m x.sent) (sym same) at);
  };
}
  where
    found : (frame : List ℕ) → (has_frame frames frame ≡ true) ⊎ IsFrameOfOne a.sent frame → IsFrameOfOne w.sent frame
    found frame (inl had) = absurd (let z : false ≡ true = ap (λ xs. has_frame xs frame) (sym none) ∙ had in cc)
    found frame (inr one) = subst (λ (x : ExactWorld). IsFrameOfOne x.sent frame) same one

-- lines that read nothing

abbrev IsSilent : ExactWorld → Actor → OwnLine → Type 0
IsSilent w who line = (q : Pair) (more : List Pair) → TellsLine w.ballots who (part w who) line (q ∷ more) → message_of q.1 ≡ None

silent-source : (sent : List Message) (done : Effect) → message_of done ≡ None → HasSource sent done
silent-source sent done none = subst (λ o. IfSome o (λ m. Among m sent)) (sym none) tt

life-silent : (w : ExactWorld) (who whose : Actor) (found : List ℕ) → IsSilent w who (own.Life whose found)
life-silent w who whose found q more t = go (q ∷ more) t.1 q more refl
  where
    go : (events : List Pair) → Restarts who (part w who) found events → (q : Pair) (more : List Pair) → events ≡ q ∷ more → message_of q.1 ≡ None
    go _ (only_rises e down is) q more same = ap (λ (x : Pair). message_of x.1) (sym (head-of _ q _ more same))
      where
        head-of : (x y : Pair) (xs ys : List Pair) → x ∷ xs ≡ y ∷ ys → x ≡ y
        head-of x y xs ys h = cc
    go _ (falls_first e up is) q more same = ap (λ (x : Pair). message_of x.1) (sym (head-of _ q _ more same))
      where
        head-of : (x y : Pair) (xs ys : List Pair) → x ∷ xs ≡ y ∷ ys → x ≡ y
        head-of x y xs ys h = cc

does-silent : (w : ExactWorld) (who : Actor) (e : Event) → IsSilent w who (own.Does e)
does-silent w who e q more t =
    let z : q ∷ more ≡ (e, t.0) ∷ [] = t.1 in
    let same : q ≡ (e, t.0) = cc in
    ap (λ (x : Pair). message_of x.1) same ∙ no-message e t.0 t.4 (own-kind w.ballots (part w who) e t.0 t.3)

silent-taken : (j : Judged) (w a : ExactWorld) (who : Actor) (line : OwnLine) (r : Result Offer MergeFault) → IsSilent w who line → IsOf j w → TakesLine j.actors who line r a → TakesRecalled w who line r a
silent-taken j w a who line r silent is h = (
  j.actors,
  record {
    same = is.actors ∙ ap (with_sent w) (sym (ap (λ (x : ExactWorld). x.sent) is.actors));
    said = λ m at. absurd (subst (λ (x : ExactWorld). Among m x.sent) is.actors at);
    enough = λ q more tells source. silent-source j.actors.sent q.1 (silent q more tells);
  },
  h,
)

pub life-taken : (j : Judged) (w a : ExactWorld) (who whose : Actor) (found : List ℕ) (r : Result Offer MergeFault) → IsOf j w → TakesLine j.actors who (own.Life whose found) r a → TakesRecalled w who (own.Life whose found) r a
life-taken j w a who whose found r is h = silent-taken j w a who (own.Life whose found) r (life-silent w who whose found) is h

pub does-taken : (j : Judged) (w a : ExactWorld) (who : Actor) (e : Event) (r : Result Offer MergeFault) → IsOf j w → TakesLine j.actors who (own.Does e) r a → TakesRecalled w who (own.Does e) r a
does-taken j w a who e r is h = silent-taken j w a who (own.Does e) r (does-silent w who e) is h

-- lines that read

carries : (w : ExactWorld) (who : Actor) (frame : List ℕ) (q : Pair) (more : List Pair) → TellsLine w.ballots who (part w who) (own.Reads who frame) (q ∷ more) → (m : Message) × IsMessage m × (frame_of m ≡ frame) × (message_of q.1 ≡ Some m)
carries w who frame q more t =
    let z : q ∷ more ≡ t.0 ∷ [] = t.1 in
    let same : q ≡ t.0 = cc in
    (t.4.message, t.4.is, t.4.spelled, ap (λ (x : Pair). message_of x.1) same ∙ t.4.carried)

pub unsaid-waits : (j : Judged) (w : ExactWorld) (who : Actor) (frame : List ℕ) → IsOf j w → has_frame j.frames frame ≡ false → TakesRecalled w who (own.Reads who frame) (Ok offer.Waits) j.actors
unsaid-waits j w who frame is not_had = (
  j.actors,
  record {
    same = is.actors ∙ ap (with_sent w) (sym (ap (λ (x : ExactWorld). x.sent) is.actors));
    said = λ m at. absurd (subst (λ (x : ExactWorld). Among m x.sent) is.actors at);
    enough = λ q more tells source. absurd (unsaid q more tells source);
  },
  (
    refl,
    λ q more tells source. none q (subst (λ (x : ExactWorld). HasSource x.sent q.1) is.actors source) (carries j.actors who frame q more tells),
    λ m at spelled. subst (λ (x : ExactWorld). Among m x.sent) is.actors at,
  ),
)
  where
    unsaid : (q : Pair) (more : List Pair) → TellsLine w.ballots who (part w who) (own.Reads who frame) (q ∷ more) → HasSource w.sent q.1 → ⊥
    unsaid q more tells source =
        let c = carries w who frame q more tells in
        let at : Among c.0 w.sent = subst (λ o. IfSome o (λ m. Among m w.sent)) c.3 source in
        let z : false ≡ true = sym not_had ∙ ap (has_frame j.frames) (sym c.2) ∙ is.said.all c.0 at in
        cc

    none : (q : Pair) → HasSource [] q.1 → (m : Message) × IsMessage m × (frame_of m ≡ frame) × (message_of q.1 ≡ Some m) → ⊥
    none q source c = subst (λ o. IfSome o (λ m. Among m [])) c.3 source

one-message : OneSpelling → (m n : Message) → IsMessage m → IsMessage n → frame_of m ≡ frame_of n → m ≡ n
one-message once m n known also same = (once m n [] [] known also (ap (λ xs. xs ++ []) same)).0

pub said-taken : OneSpelling → (j : Judged) (w a b : ExactWorld) (who : Actor) (frame : List ℕ) (m : Message) (r : Result Offer MergeFault) → IsOf j w → has_frame j.frames frame ≡ true → IsMessage m → frame ≡ frame_of m → b ≡ with_sent j.actors (m ∷ []) →
    ((frame : List ℕ) → HasFrame b.sent 1 frame → TakesLine b who (own.Reads who frame) r a) → TakesRecalled w who (own.Reads who frame) r a
said-taken once j w a b who frame m r is had known spelled brought takes =
    let sent : b.sent ≡ m ∷ [] = ap (λ (x : ExactWorld). x.sent) brought in (
      b,
      record {
        same = brought ∙ ap (λ x. with_sent x (m ∷ [])) is.actors ∙ ap (with_sent w) (sym sent);
        said = λ o at. said o (subst (λ xs. Among o xs) sent at);
        enough = λ q more tells source. subst (λ xs. HasSource xs q.1) (sym sent) (enough q (carries w who frame q more tells));
      },
      takes frame (m, ap (λ xs. Rattle.world_model.specs.ExactWorlds.numbered xs 1) sent, sym spelled),
    )
  where
    said : (o : Message) → (o ≡ m) ⊎ ⊥ → Among o w.sent
    said o (inr none) = absurd none
    said o (inl same) =
        let (n, at, also, has) = is.said.found frame had in
        let one : n ≡ m = one-message once n m also known (has ∙ spelled) in
        subst (λ x. Among x w.sent) (one ∙ sym same) at

    enough : (q : Pair) → (n : Message) × IsMessage n × (frame_of n ≡ frame) × (message_of q.1 ≡ Some n) → HasSource (m ∷ []) q.1
    enough q (n, also, has, carried) =
        let one : n ≡ m = one-message once n m also known (has ∙ spelled) in
        subst (λ o. IfSome o (λ x. Among x (m ∷ []))) (sym carried) (inl one)

pub undecoded : (j : Judged) (w : ExactWorld) (frame : List ℕ) → IsOf j w → has_frame j.frames frame ≡ true → ((m : Message) → IsMessage m → frame ≡ frame_of m → ⊥) → ⊥
undecoded j w frame is had none =
    let (m, at, known, same) = is.said.found frame had in
    none m known (sym same)

pub no-offer : (w a : ExactWorld) (who : Actor) (line : OwnLine) (f : MergeFault) → TakesRecalled w who line (Err f) a
no-offer w a who line f = (
  w,
  record { same = refl; said = λ m at. at; enough = λ q more tells source. source },
  tt,
)

-- a line that reads says nothing by the actor that it names

pub reads-recalled : (w a : ExactWorld) (who whose : Actor) (frame : List ℕ) (r : Result Offer MergeFault) → TakesRecalled w who (own.Reads who frame) r a → TakesRecalled w who (own.Reads whose frame) r a
reads-recalled w a who whose frame r (b, recalls, takes) = (
  b,
  record { same = recalls.same; said = recalls.said; enough = λ q more tells source. recalls.enough q more tells source },
  Rattle.line_merger.proofs.LineFacts.reads-anyone b a who whose frame r takes,
)
