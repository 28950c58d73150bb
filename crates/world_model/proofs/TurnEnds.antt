-- What a turn that was taken comes to: one actor after, and some messages sent.
use Rattle.std.proofs.Common.{◌≡◌, ℕ, ◌≤◌, Bool, true, false, cond, List, [], ◌++◌, length, Option, Some, None, Ok, Err, refl, sym, ap, subst}
use Rattle.std.proofs.lemmas.List.{append-nil}
use Rattle.lock_messages.specs.declared.messages.Message.{Message}
use Rattle.world_model.specs.declared.TheConstants.{MAX_MESSAGES}
use Rattle.world_model.specs.declared.events.Effect.{Effect}
use Rattle.world_model.specs.declared.events.Event.{Event}
use Rattle.world_model.specs.declared.events.StepFault.TheVariants as fault
use Rattle.world_model.specs.declared.exact.ExactWorld.{ExactWorld}
use Rattle.world_model.specs.Worlds.{World, Setting, Happens}
use Rattle.world_model.specs.Turns.{Turn, Acts, Speaks, Reads, Turns}
use Rattle.world_model.specs.ExactWorlds.{numbered, Stepped, has_room, next_number, sending, read_in, finished}
use Rattle.world_model.specs.Forgetting.{forget}
use Rattle.world_model.specs.Parts.{after_reading, after_turn, turn_says}
use Rattle.world_model.specs.Laws.{IsNumbered}
use Rattle.world_model.specs.Locality.{IsEffectOf, IsAsListed}
use Rattle.world_model.proofs.ListFacts.{numbered-among}
use Rattle.world_model.proofs.RoomFacts.{still-roomy}
use Rattle.world_model.proofs.Told.{Kind, ActsTold, SpeaksTold, ReadsTold, TurnTold}

pub record TurnEnds (A : Type 0) (q : Kind A) (st : Setting) (e : Event) (w : ExactWorld) (into : A → ExactWorld) (before : A) (turns : Turns A) (s : Stepped) : Type 0 where
  pub after : A
  pub says : List Message
  pub world : s.world ≡ sending says (into after)
  pub roomy : length w.sent ≤ MAX_MESSAGES → length (w.sent ++ says) ≤ MAX_MESSAGES
  pub happens : q.Sound before → (v : World) → q.Changes (forget w) before after says v → Happens st (forget w) e v
  pub sound : q.Sound before → q.Sound after
  pub kind : IsEffectOf e s.effect
  pub numbers : IsNumbered w s.effect
  pub listed : IsAsListed w e s.effect
  pub own : after_turn before turns s.effect ≡ after
  pub said : turn_says turns ≡ says

-- nothing more is sent
pub silently : (w : ExactWorld) → w ≡ sending [] w
silently w = ap (λ (l : List Message). record { ballots = w.ballots; nodes = w.nodes; clients = w.clients; sent = l }) (sym (append-nil w.sent))

still : (w : ExactWorld) → length w.sent ≤ MAX_MESSAGES → length (w.sent ++ []) ≤ MAX_MESSAGES
still w h = subst (λ (l : List Message). length l ≤ MAX_MESSAGES) (sym (append-nil w.sent)) h

acts-end : (A : Type 0) (q : Kind A) (st : Setting) (e : Event) (w : ExactWorld) (into : A → ExactWorld) (before after : A) (done : Effect) →
    ActsTold A q st e before after done → TurnEnds A q st e w into before (Ok (Acts after done)) (record { world = into after; effect = done })
acts-end A q st e w into before after done told = record {
  after = after;
  says = [];
  world = silently (into after);
  roomy = still w;
  happens = λ ok v of. told.happens ok (forget w) v of;
  sound = told.sound;
  kind = told.kind;
  numbers = told.numbers w;
  listed = told.listed w;
  own = refl;
  said = refl;
}

speaks-end : (A : Type 0) (q : Kind A) (st : Setting) (e : Event) (w : ExactWorld) (into : A → ExactWorld) (before after : A) (says : List Message) (effect : ℕ → Effect) →
    SpeaksTold A q st e before after says effect → has_room w says ≡ true →
    TurnEnds A q st e w into before (Ok (Speaks after says effect)) (record { world = sending says (into after); effect = effect (next_number w) })
speaks-end A q st e w into before after says effect told room = record {
  after = after;
  says = says;
  world = refl;
  roomy = still-roomy w says room;
  happens = λ ok v of. told.happens ok (forget w) v of;
  sound = told.sound;
  kind = told.kind (next_number w);
  numbers = told.numbers w room;
  listed = told.listed w (next_number w);
  own = refl;
  said = refl;
}

reads-end : (A : Type 0) (q : Kind A) (st : Setting) (e : Event) (w : ExactWorld) (into : A → ExactWorld) (before : A) (number : ℕ) (is_mine : Message → Bool) (after : Message → A) (effect : Message → Effect) (m : Message) →
    ReadsTold A q st e before number is_mine after effect → numbered w.sent number ≡ Some m → is_mine m ≡ true →
    TurnEnds A q st e w into before (Ok (Reads number is_mine after effect)) (record { world = into (after m); effect = effect m })
reads-end A q st e w into before number is_mine after effect m told found mine = record {
  after = after m;
  says = [];
  world = silently (into (after m));
  roomy = still w;
  happens = λ ok v of. told.happens m mine ok (forget w) v (numbered-among w.sent number m found) of;
  sound = told.sound m mine;
  kind = told.kind m mine;
  numbers = told.numbers w m;
  listed = told.listed w m found;
  own = ap (after_reading before after) (told.carries m);
  said = refl;
}

pub turn-ends : (A : Type 0) (q : Kind A) (st : Setting) (e : Event) (w : ExactWorld) (into : A → ExactWorld) (before : A) (t : Turn A) (s : Stepped) →
    TurnTold A q st e before t → finished w into t ≡ Ok s → TurnEnds A q st e w into before (Ok t) s
turn-ends A q st e w into before (Acts after done) s told h =
    let x : Stepped = record { world = into after; effect = done } in
    let p : Ok x ≡ Ok s = h in
    let same : x ≡ s = cc in
    subst (TurnEnds A q st e w into before (Ok (Acts after done))) same (acts-end A q st e w into before after done told)
turn-ends A q st e w into before (Speaks after says effect) s told h = go (has_room w says) refl h
  where
    x : Stepped
    x = record { world = sending says (into after); effect = effect (next_number w) }

    go : (room : Bool) → has_room w says ≡ room → cond room (Ok x) (Err fault.SentListFull) ≡ Ok s → TurnEnds A q st e w into before (Ok (Speaks after says effect)) s
    go true is z =
        let p : Ok x ≡ Ok s = z in
        let same : x ≡ s = cc in subst (TurnEnds A q st e w into before (Ok (Speaks after says effect))) same (speaks-end A q st e w into before after says effect told is)
    go false is z = absurd (let p : Err fault.SentListFull ≡ Ok s = z in cc)
turn-ends A q st e w into before (Reads number is_mine after effect) s told h = go (numbered w.sent number) refl h
  where
    x : Message → Stepped
    x m = record { world = into (after m); effect = effect m }

    mine : (m : Message) (yours : Bool) → numbered w.sent number ≡ Some m → is_mine m ≡ yours → cond yours (Ok (x m)) (Err fault.NotAddressed) ≡ Ok s → TurnEnds A q st e w into before (Ok (Reads number is_mine after effect)) s
    mine m true found is z =
        let p : Ok (x m) ≡ Ok s = z in
        let same : x m ≡ s = cc in
        subst (TurnEnds A q st e w into before (Ok (Reads number is_mine after effect))) same (reads-end A q st e w into before number is_mine after effect m told found is)
    mine m false found is z = absurd (let p : Err fault.NotAddressed ≡ Ok s = z in cc)

    go : (o : Option Message) → numbered w.sent number ≡ o → read_in into is_mine after effect o ≡ Ok s → TurnEnds A q st e w into before (Ok (Reads number is_mine after effect)) s
    go None is z = absurd (let p : Err fault.NoSuchMessage ≡ Ok s = z in cc)
    go (Some m) is z = mine m (is_mine m) is refl z
