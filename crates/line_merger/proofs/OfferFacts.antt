-- What comes of a line is right.
use Rattle.std.proofs.Common.{◌≡◌, ◌≢◌, ◌⊎◌, ℕ, ◌≤◌, not, Bool, true, false, cond, List, [], ◌∷◌, ◌++◌, length, map, Option, Some, None, IfSome, Result, Ok, Err, refl, sym, ◌∙◌, ap, subst, inl, inr, arith}
use Rattle.std.proofs.lemmas.Bool.{eqb-true, eq-eqb}
use Rattle.lock_messages.specs.declared.ids.Actor.{Actor}
use Rattle.lock_messages.specs.declared.ids.Actor.TheVariants as actor
use Rattle.lock_messages.specs.declared.messages.Message.{Message}
use Rattle.lock_messages.specs.Messages.{IsMessage}
use Rattle.lock_messages.specs.Frames.{frame_of}
use Rattle.lock_messages.specs.Laws.{OneSpelling}
use Rattle.lock_model.specs.Ballots.{Ballot, node_count}
use Rattle.lock_model.specs.Decisions.{Among}
use Rattle.world_model.specs.declared.TheConstants.{MAX_MESSAGES}
use Rattle.world_model.specs.declared.events.Effect.{Effect}
use Rattle.world_model.specs.declared.events.Event.{Event}
use Rattle.world_model.specs.declared.events.Event.TheVariants as event
use Rattle.world_model.specs.declared.events.StepFault.{StepFault}
use Rattle.world_model.specs.declared.events.StepFault.TheVariants as step
use Rattle.world_model.specs.declared.exact.ExactWorld.{ExactWorld}
use Rattle.world_model.specs.declared.exact.ExactNodePhase.{ExactNodePhase}
use Rattle.world_model.specs.declared.exact.ExactNodePhase.TheVariants as node
use Rattle.world_model.specs.declared.exact.ExactNode.{ExactNode}
use Rattle.world_model.specs.declared.exact.ExactClient.{ExactClient}
use Rattle.world_model.specs.Kinds.{Kind, Beginning, Keeping, Speaking, Reading, Entering, Leaving, Softening, Falling, Rising, Switching, kind_of, is_reading}
use Rattle.world_model.specs.Turns.{reads}
use Rattle.world_model.specs.ExactNodes.{takes_in}
use Rattle.world_model.specs.ExactClients.{is_down, after_hearing, heard_in, hears}
use Rattle.world_model.specs.ExactWorlds.{numbered, actor_of, deed_of, step as step_of, refusal, refusal_of, Steps, Stepped, read_in, finishes, by_actor, with_node_at, with_client_at}
use Rattle.world_model.specs.Laws.{Takes}
use Rattle.world_model.specs.Locality.{IsHistory, StepsChangeOnePart, OwnRefusalsComeFirst, ListRefusalsComeSecond, MessagesAreAsListed}
use Rattle.world_model.specs.Parts.{place, is_own, Part, NoPart, NodePart, ClientPart, part, own_refusal, IsFaultOfKind, message_of, turn_says, said_by}
use Rattle.world_model.specs.StepsOf.{Does}
use Rattle.world_model.specs.StepsOf.{IsRefused as IsRefusedStep}
use Rattle.world_model.proofs.LocalityFacts.{places-apart}
use Rattle.merge_model.specs.OwnRuns.{IsTurn}
use Rattle.merge_model.specs.Merging.{unnumbered}
use Rattle.merge_model.proofs.OwnRunFacts.{Pair, turns-allowed}
use Rattle.merge_model.proofs.Numbers.{same-turn, deed-fits}
use Rattle.merge_model.proofs.Histories.{deed-steps}
use Rattle.merge_model.proofs.GoingOn.{by-zero}
use Rattle.merge_model.proofs.TakenTurns.{taken-turn}
use Rattle.own_journals.specs.declared.lines.OwnLine.{OwnLine}
use Rattle.own_journals.specs.declared.lines.OwnLine.TheVariants as own
use Rattle.journal_merge.specs.LineMerges.{TellsLine, IsRefused, IsWaiting}
use Rattle.journal_merge.proofs.ContentFacts.{reading_of, reading-content}
use Rattle.frame_numbers.specs.FrameNumbers.{HasFrame, Seen, number_in, IsIndexOf, IsWhole, IndexesGrow}
use Rattle.line_merger.specs.declared.offers.Offer.TheVariants as offer
use Rattle.line_merger.specs.declared.offers.Taken.TheVariants as taken
use Rattle.line_merger.specs.declared.offers.Refusal.TheVariants as refusal
use Rattle.line_merger.specs.Reasons.{reading_by, RefusesToRead, IsReason, IsUnsaid, IsAttempted}
use Rattle.line_merger.specs.Offers.{TakesLine, offered, refused}

-- a line that was refused, by what its step was refused with

abbrev pub Refuses : ExactWorld → ExactWorld → Actor → OwnLine → StepFault → Type 0
Refuses w v who line f = f ≢ step.SentListFull → f ≢ step.Memory → IsRefused w who line × IsReason w.ballots who (part w who) line (refusal.Step f) × IsAttempted who w v

pub nothing-tried : (w v : ExactWorld) (who : Actor) → v ≡ w → IsAttempted who w v
nothing-tried w v who same = record { events = []; attempt = tt; history = same; sent = ap (λ (x : ExactWorld). x.sent) same }

pub of-refused : (w v : ExactWorld) (who : Actor) (line : OwnLine) (f : StepFault) → Refuses w v who line f → TakesLine w who line (refused f) v
of-refused w v who line step.SentListFull h = tt
of-refused w v who line step.Memory h = tt
of-refused w v who line step.UnknownActor h = h (λ e. cc) (λ e. cc)
of-refused w v who line step.Down h = h (λ e. cc) (λ e. cc)
of-refused w v who line step.Up h = h (λ e. cc) (λ e. cc)
of-refused w v who line step.WrongPhase h = h (λ e. cc) (λ e. cc)
of-refused w v who line step.NotStored h = h (λ e. cc) (λ e. cc)
of-refused w v who line step.NothingToSay h = h (λ e. cc) (λ e. cc)
of-refused w v who line step.NoSuchMessage h = h (λ e. cc) (λ e. cc)
of-refused w v who line step.NotAddressed h = h (λ e. cc) (λ e. cc)
of-refused w v who line step.NoQuorum h = h (λ e. cc) (λ e. cc)
of-refused w v who line step.AttemptsSpent h = h (λ e. cc) (λ e. cc)
of-refused w v who line step.NothingTried h = h (λ e. cc) (λ e. cc)
of-refused w v who line step.NoSuchPlace h = h (λ e. cc) (λ e. cc)

the-refusal : (e : Event) (s : Steps) (f : StepFault) → IsRefusedStep e s f → f ≢ step.Memory → s ≡ Err f
the-refusal e s f (inl h) apart = h
the-refusal e s f (inr h) apart = absurd (apart h.0)

-- its actor

its-actor : (who : Actor) (e : Event) → is_own who e ≡ true → actor_of e ≡ who
its-actor who e own = places-apart (actor_of e) who (eqb-true (place (actor_of e)) (place who) own)

-- an event that reads nothing

plain-fault : (k : Kind) (f : StepFault) → is_reading k ≡ false → IsFaultOfKind k f → f ≡ step.SentListFull
plain-fault (Beginning m x place) f plain h = absurd h
plain-fault Keeping f plain h = absurd h
plain-fault Speaking f plain h = h
plain-fault Reading f plain h = absurd (let z : true ≡ false = plain in cc)
plain-fault Entering f plain h = absurd h
plain-fault Leaving f plain h = absurd h
plain-fault Softening f plain h = absurd h
plain-fault Falling f plain h = absurd h
plain-fault Rising f plain h = absurd h
plain-fault Switching f plain h = absurd h

-- what is refused is refused by the actor's own part, or by the list of messages
pub own-or-listed : OwnRefusalsComeFirst → ListRefusalsComeSecond → (w : ExactWorld) (e : Event) (f : StepFault) → refusal w e ≡ Some f →
    (own_refusal w.ballots e (part w (actor_of e)) ≡ Some f) ⊎ ((own_refusal w.ballots e (part w (actor_of e)) ≡ None) × IsFaultOfKind (kind_of e) f)
own-or-listed first second w e f h = go (own_refusal w.ballots e (part w (actor_of e))) refl
  where
    listed : (refusal w e ≡ None) ⊎ ((g : StepFault) × (refusal w e ≡ Some g) × IsFaultOfKind (kind_of e) g) → IsFaultOfKind (kind_of e) f
    listed (inl none) = absurd (let z : ◌≡◌ {A = Option StepFault} None (Some f) = sym none ∙ h in cc)
    listed (inr some) =
        let z : ◌≡◌ {A = Option StepFault} (Some some.0) (Some f) = sym some.1 ∙ h in
        let same : some.0 ≡ f = cc in
        subst (λ g. IsFaultOfKind (kind_of e) g) same some.2

    go : (o : Option StepFault) → own_refusal w.ballots e (part w (actor_of e)) ≡ o → (own_refusal w.ballots e (part w (actor_of e)) ≡ Some f) ⊎ ((own_refusal w.ballots e (part w (actor_of e)) ≡ None) × IsFaultOfKind (kind_of e) f)
    go None is = inr (is, listed (second w e is))
    go (Some g) is = inl (is ∙ sym (first w e g is).0 ∙ h)

plain-reason : OwnRefusalsComeFirst → ListRefusalsComeSecond → (w : ExactWorld) (who : Actor) (e : Event) (f : StepFault) → is_own who e ≡ true → is_reading (kind_of e) ≡ false → IsRefusedStep e (step_of w e) f → f ≢ step.SentListFull → f ≢ step.Memory → own_refusal w.ballots e (part w who) ≡ Some f
plain-reason first second w who e f mine plain h full memory =
    subst (λ a. own_refusal w.ballots e (part w a) ≡ Some f) (its-actor who e mine)
    (go (own-or-listed first second w e f (ap refusal_of (the-refusal e (step_of w e) f h memory))))
  where
    go : (own_refusal w.ballots e (part w (actor_of e)) ≡ Some f) ⊎ ((own_refusal w.ballots e (part w (actor_of e)) ≡ None) × IsFaultOfKind (kind_of e) f) → own_refusal w.ballots e (part w (actor_of e)) ≡ Some f
    go (inl is) = is
    go (inr listed) = absurd (full (plain-fault (kind_of e) f plain listed.1))

plain-refused : ListRefusalsComeSecond → (w : ExactWorld) (who : Actor) (e : Event) (f : StepFault) → IsRefusedStep e (step_of w e) f → f ≢ step.SentListFull → f ≢ step.Memory → IsRefused w who (own.Does e)
plain-refused second w who e f h full memory events t = go (second w e allowed)
  where
    allowed : own_refusal w.ballots e (part w (actor_of e)) ≡ None
    allowed = turns-allowed w.ballots (part w (actor_of e)) e t.0 (subst (λ a. IsTurn w.ballots (part w a) e t.0) (sym (its-actor who e t.2)) t.3)

    refused : refusal w e ≡ Some f
    refused = ap refusal_of (the-refusal e (step_of w e) f h memory)

    go : (refusal w e ≡ None) ⊎ ((g : StepFault) × (refusal w e ≡ Some g) × IsFaultOfKind (kind_of e) g) → ⊥
    go (inl none) = let z : ◌≡◌ {A = Option StepFault} None (Some f) = sym none ∙ refused in cc
    go (inr some) =
        let z : ◌≡◌ {A = Option StepFault} (Some some.0) (Some f) = sym some.1 ∙ refused in
        let same : some.0 ≡ f = cc in
        full (sym same ∙ plain-fault (kind_of e) some.0 t.4 some.2)

pub plain-taken : OwnRefusalsComeFirst → ListRefusalsComeSecond → (w v : ExactWorld) (who : Actor) (e : Event) (r : Result Effect StepFault) → is_own who e ≡ true → is_reading (kind_of e) ≡ false → Does e (step_of w e) w r v → TakesLine w who (own.Does e) (offered taken.Said r) v
plain-taken first second w v who e (Ok done) mine plain h =
    ((e, done) ∷ [], (done, refl, mine, subst (λ a. IsTurn w.ballots (part w a) e done) (its-actor who e mine) (taken-turn w v e done h), plain), (v, h, refl), refl)
plain-taken first second w v who e (Err f) mine plain h =
    of-refused w v who (own.Does e) f (λ full memory. (plain-refused second w who e f h.0 full memory, plain-reason first second w who e f mine plain h.0 full memory, nothing-tried w v who h.1))

not-plain : (w : ExactWorld) (who : Actor) (e : Event) → is_own who e ≡ false → IsRefused w who (own.Does e)
not-plain w who e none events t = let z : true ≡ false = sym t.2 ∙ none in cc

reading-refused : (w : ExactWorld) (who : Actor) (e : Event) → is_reading (kind_of e) ≡ true → IsRefused w who (own.Does e)
reading-refused w who e is events t = let z : true ≡ false = sym is ∙ t.4 in cc

pub others-event : (w : ExactWorld) (who : Actor) (e : Event) → is_own who e ≡ false → TakesLine w who (own.Does e) (Ok (offer.Refused refusal.OtherActor)) w
others-event w who e none = (not-plain w who e none, inl none, nothing-tried w w who refl)

pub reading-event : (w : ExactWorld) (who : Actor) (e : Event) → is_reading (kind_of e) ≡ true → TakesLine w who (own.Does e) (Ok (offer.Refused refusal.OtherActor)) w
reading-event w who e is = (reading-refused w who e is, inr is, nothing-tried w w who refl)

-- an event that reads

own-reading : (who : Actor) (k : ℕ) → is_own who (reading_by who k) ≡ true
own-reading (actor.Node n) k = eq-eqb (place (actor.Node n)) (place (actor.Node n)) refl
own-reading (actor.Client c) k = eq-eqb (place (actor.Client c)) (place (actor.Client c)) refl

is-reading-by : (who : Actor) (k : ℕ) → is_reading (kind_of (reading_by who k)) ≡ true
is-reading-by (actor.Node n) k = refl
is-reading-by (actor.Client c) k = refl

listed-by : MessagesAreAsListed → (w v : ExactWorld) (who : Actor) (k : ℕ) (done : Effect) → Takes w (reading_by who k) done v → message_of done ≡ numbered w.sent k
listed-by listed w v (actor.Node n) k done h = listed w v (event.Take n k) done h
listed-by listed w v (actor.Client c) k done h = listed w v (event.Hear c k) done h

pub reads-taken : MessagesAreAsListed → (w v : ExactWorld) (who : Actor) (frame : List ℕ) (k : ℕ) (m : Message) (done : Effect) → numbered w.sent k ≡ Some m → frame_of m ≡ frame → IsMessage m → Takes w (reading_by who k) done v →
    (events : List Pair) × TellsLine w.ballots who (part w who) (own.Reads who frame) events × IsHistory w events v × (map (λ q. q.0) events ≡ reading_by who k ∷ [])
reads-taken listed w v who frame k m done is spelled known h = (
  (reading_by who k, done) ∷ [],
  (
    (reading_by who k, done),
    refl,
    own-reading who k,
    subst (λ a. IsTurn w.ballots (part w a) (reading_by who k) done) (its-actor who (reading_by who k) (own-reading who k)) (taken-turn w v (reading_by who k) done h),
    record { message = m; is = known; spelled = spelled; reading = is-reading-by who k; carried = listed-by listed w v who k done h ∙ is },
  ),
  (v, h, refl),
  refl,
)

pub reads-waits : (w : ExactWorld) (who : Actor) (frame : List ℕ) (s : Seen) → IsWhole s w.sent → number_in s.entries frame ≡ None → IsWaiting w who (own.Reads who frame)
reads-waits w who frame s whole none q more t source =
    let z : q ∷ more ≡ t.0 ∷ [] = t.1 in
    let same : q ≡ t.0 = cc in
    let said : Among t.4.message w.sent = subst (λ o. IfSome o (λ m. Among m w.sent)) (ap (λ (x : Pair). message_of x.1) same ∙ t.4.carried) source in
    let has = whole.all t.4.message said in
    let clash : ◌≡◌ {A = Option ℕ} None (Some has.0) = sym none ∙ ap (number_in s.entries) (sym t.4.spelled) ∙ has.1 in
    cc

pub reads-unsaid : (w : ExactWorld) (who : Actor) (frame : List ℕ) (s : Seen) → IsWhole s w.sent → number_in s.entries frame ≡ None → IsUnsaid w.sent (own.Reads who frame)
reads-unsaid w who frame s whole none m said spelled =
    let has = whole.all m said in
    let clash : ◌≡◌ {A = Option ℕ} None (Some has.0) = sym none ∙ ap (number_in s.entries) (sym spelled) ∙ has.1 in
    cc

reading-says : (b : List Ballot) (who : Actor) (k : ℕ) (p : Part) → said_by b (reading_by who k) p ≡ []
reading-says b (actor.Node n) k NoPart = refl
reading-says b (actor.Node n) k (NodePart v) = go v.phase
  where
    go : (phase : ExactNodePhase) → turn_says (takes_in n k v phase) ≡ []
    go node.Down = refl
    go node.Idle = refl
    go (node.Decided s replies) = refl
    go (node.Stored replies) = refl
reading-says b (actor.Node n) k (ClientPart x) = refl
reading-says b (actor.Client c) k NoPart = refl
reading-says b (actor.Client c) k (NodePart v) = refl
reading-says b (actor.Client c) k (ClientPart x) = go (is_down x.phase)
  where
    go : (t : Bool) → turn_says (cond t (Err step.Down) (reads k (λ m. Rattle.lock_messages.specs.Messages.is_for_client m c) (after_hearing (node_count b) c x) (λ m. Rattle.world_model.specs.declared.events.Effect.TheVariants.Heard m (heard_in (node_count b) c x.kept x.phase m)))) ≡ []
    go true = refl
    go false = refl

reading-as-by : (a : Actor) → reading_of a ≡ reading_by a 0
reading-as-by (actor.Node n) = refl
reading-as-by (actor.Client c) = refl

reading-zero : (who : Actor) (e : Event) → is_own who e ≡ true → is_reading (kind_of e) ≡ true → unnumbered e ≡ reading_by who 0
reading-zero who e mine reading = reading-content e reading ∙ reading-as-by (actor_of e) ∙ ap (λ a. reading_by a 0) (its-actor who e mine)

turn-by : (b : List Ballot) (p : Part) (who : Actor) (k : ℕ) (q : Pair) → is_own who q.0 ≡ true → is_reading (kind_of q.0) ≡ true → IsTurn b p q.0 q.1 → IsTurn b p (reading_by who k) q.1
turn-by b p who k q mine reading turn = numbered-so who (subst (λ e. IsTurn b p e q.1) (by-zero q.0 ∙ reading-zero who q.0 mine reading) ((same-turn b p q.0 0).turns q.1 turn))
  where
    numbered-so : (who : Actor) → IsTurn b p (reading_by who 0) q.1 → IsTurn b p (reading_by who k) q.1
    numbered-so (actor.Node n) h = (same-turn b p (event.Take n 0) k).turns q.1 h
    numbered-so (actor.Client c) h = (same-turn b p (event.Hear c 0) k).turns q.1 h

step-taken : (w : ExactWorld) (who : Actor) (k : ℕ) (done : Effect) (m : Message) → length w.sent ≤ MAX_MESSAGES → IsTurn w.ballots (part w who) (reading_by who k) done → message_of done ≡ Some m → numbered w.sent k ≡ Some m → (s : Stepped) × (step_of w (reading_by who k) ≡ Ok s)
unfolding step_of
step-taken w (actor.Node n) k done m room turn carried is =
    let d = deed-steps w (deed_of (event.Take n k)) done k (deed-fits (event.Take n 0) k) turn (λ x e. is ∙ sym carried ∙ e) (let none = ap (λ (xs : List Message). length xs) (reading-says w.ballots (actor.Node n) k (part w (actor.Node n))) in omega (arith, none, room)) in
    (_, d.steps)
step-taken w (actor.Client c) k done m room turn carried is =
    let d = deed-steps w (deed_of (event.Hear c k)) done k (deed-fits (event.Hear c 0) k) turn (λ x e. is ∙ sym carried ∙ e) (let none = ap (λ (xs : List Message). length xs) (reading-says w.ballots (actor.Client c) k (part w (actor.Client c))) in omega (arith, none, room)) in
    (_, d.steps)

pub reads-refused : OneSpelling → (w : ExactWorld) (who : Actor) (frame : List ℕ) (k : ℕ) (m : Message) (f : StepFault) → length w.sent ≤ MAX_MESSAGES → numbered w.sent k ≡ Some m → frame_of m ≡ frame → IsMessage m → IsRefusedStep (reading_by who k) (step_of w (reading_by who k)) f → f ≢ step.SentListFull → f ≢ step.Memory → IsRefused w who (own.Reads who frame)
reads-refused once w who frame k m f room is spelled known h full memory events t =
    let same : t.4.message ≡ m = (once t.4.message m [] [] t.4.is known (ap (λ xs. xs ++ []) (t.4.spelled ∙ sym spelled))).0 in
    let carried : message_of t.0.1 ≡ Some m = t.4.carried ∙ ap Some same in
    let s = step-taken w who k t.0.1 m room (turn-by w.ballots (part w who) who k t.0 t.2 t.4.reading t.3) carried is in
    let z : ◌≡◌ {A = Steps} (Ok s.0) (Err f) = sym s.1 ∙ the-refusal (reading_by who k) (step_of w (reading_by who k)) f h memory in
    cc

-- the message of the number is there: so its number is not what is refused

read-known : {A : Type 0} (into : A → ExactWorld) (is_mine : Message → Bool) (after : Message → A) (effect : Message → Effect) (o : Option Message) (m : Message) → o ≡ Some m → refusal_of (read_in into is_mine after effect o) ≡ Some step.NoSuchMessage → ⊥
read-known {A} into is_mine after effect None m is h = let z : ◌≡◌ {A = Option Message} None (Some m) = is in cc
read-known {A} into is_mine after effect (Some n) m is h = go (is_mine n) h
  where
    go : (t : Bool) → refusal_of {A = Stepped} (cond t (Ok (record { world = into (after n); effect = effect n })) (Err step.NotAddressed)) ≡ Some step.NoSuchMessage → ⊥
    go true h = let z : ◌≡◌ {A = Option StepFault} None (Some step.NoSuchMessage) = h in cc
    go false h = let z : ◌≡◌ {A = Option StepFault} (Some step.NotAddressed) (Some step.NoSuchMessage) = h in cc

heard-known : {A : Type 0} (w : ExactWorld) (into : A → ExactWorld) (t : Bool) (k : ℕ) (is_mine : Message → Bool) (after : Message → A) (effect : Message → Effect) (m : Message) → numbered w.sent k ≡ Some m →
    refusal_of (finishes w into (cond t (Err step.Down) (reads k is_mine after effect))) ≡ Some step.NoSuchMessage → ⊥
heard-known {A} w into true k is_mine after effect m is h = let z : ◌≡◌ {A = Option StepFault} (Some step.Down) (Some step.NoSuchMessage) = h in cc
heard-known {A} w into false k is_mine after effect m is h = read-known into is_mine after effect (numbered w.sent k) m is h

such-message : (w : ExactWorld) (who : Actor) (k : ℕ) (m : Message) → numbered w.sent k ≡ Some m → refusal w (reading_by who k) ≡ Some step.NoSuchMessage → ⊥
unfolding step_of
such-message w (actor.Node n) k m is h = go (numbered w.nodes n) h
  where
    phased : (v : ExactNode) (phase : ExactNodePhase) → refusal_of (finishes w (with_node_at w n) (takes_in n k v phase)) ≡ Some step.NoSuchMessage → ⊥
    phased v node.Down h = let z : ◌≡◌ {A = Option StepFault} (Some step.Down) (Some step.NoSuchMessage) = h in cc
    phased v node.Idle h = read-known (with_node_at w n) _ _ _ (numbered w.sent k) m is h
    phased v (node.Decided s replies) h = let z : ◌≡◌ {A = Option StepFault} (Some step.WrongPhase) (Some step.NoSuchMessage) = h in cc
    phased v (node.Stored replies) h = let z : ◌≡◌ {A = Option StepFault} (Some step.WrongPhase) (Some step.NoSuchMessage) = h in cc

    go : (o : Option ExactNode) → refusal_of (by_actor w (with_node_at w n) o (λ v. takes_in n k v v.phase)) ≡ Some step.NoSuchMessage → ⊥
    go None h = let z : ◌≡◌ {A = Option StepFault} (Some step.UnknownActor) (Some step.NoSuchMessage) = h in cc
    go (Some v) h = phased v v.phase h
such-message w (actor.Client c) k m is h = go (numbered w.clients c) h
  where
    go : (o : Option ExactClient) → refusal_of (by_actor w (with_client_at w c) o (λ x. hears (node_count w.ballots) c k x)) ≡ Some step.NoSuchMessage → ⊥
    go None h = let z : ◌≡◌ {A = Option StepFault} (Some step.UnknownActor) (Some step.NoSuchMessage) = h in cc
    go (Some x) h = heard-known w (with_client_at w c) (is_down x.phase) k _ _ _ m is h

reads-reason : OwnRefusalsComeFirst → ListRefusalsComeSecond → (w : ExactWorld) (who : Actor) (k : ℕ) (m : Message) (f : StepFault) → numbered w.sent k ≡ Some m → IsRefusedStep (reading_by who k) (step_of w (reading_by who k)) f → f ≢ step.Memory → RefusesToRead w.ballots who (part w who) f
reads-reason first second w who k m f is h memory =
    (k, subst (λ a. (own_refusal w.ballots (reading_by who k) (part w a) ≡ Some f) ⊎ ((own_refusal w.ballots (reading_by who k) (part w a) ≡ None) × (f ≡ step.NotAddressed))) (its-actor who (reading_by who k) (own-reading who k)) (go (own-or-listed first second w (reading_by who k) f refused)))
  where
    refused : refusal w (reading_by who k) ≡ Some f
    refused = ap refusal_of (the-refusal (reading_by who k) (step_of w (reading_by who k)) f h memory)

    listed : (who : Actor) → IsFaultOfKind (kind_of (reading_by who k)) f → (f ≡ step.NoSuchMessage) ⊎ (f ≡ step.NotAddressed)
    listed (actor.Node n) l = l
    listed (actor.Client c) l = l

    addressed : (f ≡ step.NoSuchMessage) ⊎ (f ≡ step.NotAddressed) → f ≡ step.NotAddressed
    addressed (inl none) = absurd (such-message w who k m is (refused ∙ ap Some none))
    addressed (inr other) = other

    go : (own_refusal w.ballots (reading_by who k) (part w (actor_of (reading_by who k))) ≡ Some f) ⊎ ((own_refusal w.ballots (reading_by who k) (part w (actor_of (reading_by who k))) ≡ None) × IsFaultOfKind (kind_of (reading_by who k)) f) →
        (own_refusal w.ballots (reading_by who k) (part w (actor_of (reading_by who k))) ≡ Some f) ⊎ ((own_refusal w.ballots (reading_by who k) (part w (actor_of (reading_by who k))) ≡ None) × (f ≡ step.NotAddressed))
    go (inl own) = inl own
    go (inr l) = inr (l.0, addressed (listed who l.1))

pub reads-offered : OwnRefusalsComeFirst → ListRefusalsComeSecond → MessagesAreAsListed → OneSpelling → (w v : ExactWorld) (who : Actor) (frame : List ℕ) (k : ℕ) (m : Message) (r : Result Effect StepFault) → length w.sent ≤ MAX_MESSAGES → numbered w.sent k ≡ Some m → frame_of m ≡ frame → IsMessage m → Does (reading_by who k) (step_of w (reading_by who k)) w r v →
    TakesLine w who (own.Reads who frame) (offered (taken.Read k) r) v
reads-offered first second listed once w v who frame k m (Ok done) room is spelled known h = reads-taken listed w v who frame k m done is spelled known h
reads-offered first second listed once w v who frame k m (Err f) room is spelled known h =
    of-refused w v who (own.Reads who frame) f (λ full memory. (reads-refused once w who frame k m f room is spelled known h.0 full memory, reads-reason first second w who k m f is h.0 memory, nothing-tried w v who h.1))

pub index-after : StepsChangeOnePart → IndexesGrow → (w v : ExactWorld) (e : Event) (r : Result Effect StepFault) (s : Seen) → Does e (step_of w e) w r v → IsIndexOf s w.sent → IsIndexOf s v.sent
index-after changes grow w v e (Ok done) s h index = subst (IsIndexOf s) (sym (changes w v e done h).sent) (grow s w.sent (said_by w.ballots e (part w (actor_of e))) index)
index-after changes grow w v e (Err f) s h index = subst (λ (x : ExactWorld). IsIndexOf s x.sent) (sym h.1) index

-- the calls

pub not-another : (b : Bool) → not b ≡ false → b ≡ true
not-another true h = refl
not-another false h = absurd (let z : true ≡ false = h in cc)

pub is-none : (b : Bool) → not b ≡ true → b ≡ false
is-none true h = absurd (let z : false ≡ true = h in cc)
is-none false h = refl

pub frame-offered : OwnRefusalsComeFirst → ListRefusalsComeSecond → MessagesAreAsListed → OneSpelling → (w v : ExactWorld) (who : Actor) (k : ℕ) (m : Message) (e : Event) (r : Result Effect StepFault) → length w.sent ≤ MAX_MESSAGES → numbered w.sent k ≡ Some m → IsMessage m → e ≡ reading_by who k → Does e (step_of w e) w r v →
    (frame : List ℕ) → HasFrame w.sent k frame → TakesLine w who (own.Reads who frame) (offered (taken.Read k) r) v
frame-offered first second listed once w v who k m e r room is known by h frame has =
    let both : ◌≡◌ {A = Option Message} (Some m) (Some has.0) = sym is ∙ has.1 in
    let same : m ≡ has.0 = cc in
    reads-offered first second listed once w v who frame k m r room is (ap frame_of same ∙ has.2) known (subst (λ x. Does x (step_of w x) w r v) by h)

pub no-frame : (w : ExactWorld) (who : Actor) (k : ℕ) → numbered w.sent k ≡ None → (frame : List ℕ) → HasFrame w.sent k frame → TakesLine w who (own.Reads who frame) (Ok offer.Waits) w
no-frame w who k none frame has = absurd (let z : ◌≡◌ {A = Option Message} None (Some has.0) = sym none ∙ has.1 in cc)
