-- What a call of a book's `log` tells, said of the berth alone.
use Rattle.std.proofs.Common.{◌≡◌, List, [], ◌∷◌, ◌++◌, Result, Ok, Err, true, Some, sym, ap, subst, ◌∙◌, append-nil}
use Rattle.std.specs.Prelude.{IfOk, IfErr}
use Rattle.std.proofs.lemmas.List.{append_cancel_left}
use Rattle.std.proofs.lemmas.List.Elements.{filter-append}
use Rattle.lock_messages.specs.declared.ids.Actor.{Actor}
use Rattle.world_model.specs.declared.events.Effect.{Effect}
use Rattle.world_model.specs.declared.events.Event.{Event}
use Rattle.world_model.specs.declared.events.StepFault.{StepFault}
use Rattle.world_model.specs.Locality.{own_events, IsHistory, IsAsListed, IsLocalRefusal}
use Rattle.world_model.specs.Parts.{is_own, own_refusal}
use Rattle.event_recorders.specs.declared.log_faults.LogFault.{LogFault}
use Rattle.event_recorders.specs.declared.log_faults.LogFault.TheVariants as book
use Rattle.history_book.specs.Books.{BookValue, BerthValue, own_of, own_part, Known, IsLogged, IsNoStep, IsFull, IsRefused}
use Rattle.history_book.proofs.Histories.{history_more}
use Rattle.book_recorders.specs.Sharing.{after_seeing, Between, HasLogged, HasRefused, HasFoundFull, MayRefuse}

pub own-append : (who : Actor) (xs ys : List (Event × Effect)) → own_events who (xs ++ ys) ≡ own_events who xs ++ own_events who ys
own-append who xs ys = filter-append (λ (p : Event × Effect). is_own who p.0) xs ys

pub between_of : (b : BookValue) (k : BerthValue) (known : Known b k) → Between k known.begins.0 b.world
between_of b k known = record {
  run = subst (λ h. IsHistory k.opening h b.world) (sym known.begins.1) (subst (λ w. IsHistory w b.history b.world) (sym known.opening) known.run);
  others =
      append_cancel_left (own_of k) (own_events k.actor known.begins.0) []
      (sym (own-append k.actor k.seen known.begins.0) ∙ ap (own_events k.actor) known.begins.1 ∙ known.own ∙ sym (append-nil (own_of k)));
}

-- the berth has seen the book's history, and a history that begins with what it had seen
seen_more : (k k' : BerthValue) (history seen : List (Event × Effect)) → k' ≡ after_seeing k history → history ≡ seen → k' ≡ after_seeing k seen
seen_more k k' history seen is same = is ∙ ap (after_seeing k) same

pub has_logged : (b : BookValue) (k : BerthValue) (e : Event) (done : Effect) (b' : BookValue) (k' : BerthValue) → IsLogged b k e done b' k' → IsAsListed b.world e done → HasLogged k e done k'
has_logged b k e done b' k' logged listed =
    let known = logged.known in
    let others = between_of b k known in
    let longer : b'.history ≡ b.history ++ (e, done) ∷ [] = ap (λ (x : BookValue). x.history) logged.book in
    let seen : b'.history ≡ (k.seen ++ known.begins.0) ++ (e, done) ∷ [] = longer ∙ ap (λ h. h ++ (e, done) ∷ []) (sym known.begins.1) in
    let berth : k' ≡ after_seeing k ((k.seen ++ known.begins.0) ++ (e, done) ∷ []) = seen_more k k' b'.history _ logged.berth seen in
    record {
      own = logged.may.actor;
      between = known.begins.0;
      before = b.world;
      after = b'.world;
      others = others;
      takes = logged.takes;
      listed = listed;
      berth = berth;
      run = subst (λ (x : BerthValue). IsHistory x.opening x.seen b'.world) (sym berth) (history_more k.opening b.world b'.world (k.seen ++ known.begins.0) e done others.run logged.takes);
    }

has_refused : (f : StepFault) (b : BookValue) (k : BerthValue) (e : Event) (b' : BookValue) (k' : BerthValue) → is_own k.actor e ≡ true → IsNoStep f b k e b' k' → HasRefused f k e k'
has_refused f b k e b' k' own no_step =
    let known = no_step.known in
    record {
      own = own;
      of_event = no_step.of_event;
      between = known.begins.0;
      now = b.world;
      others = between_of b k known;
      refused = no_step.refused;
      local = subst (λ w. IsLocalRefusal e (own_refusal w.ballots e (own_part k)) (Some f)) (sym known.opening) no_step.own;
      berth = seen_more k k' b.history _ no_step.berth (sym known.begins.1);
    }

has_found_full : (b : BookValue) (k : BerthValue) (e : Event) (k' : BerthValue) → is_own k.actor e ≡ true → Known b k → IsFull b.history b.world e → k' ≡ k → HasFoundFull k e k'
has_found_full b k e k' own known full same = record {
  own = own;
  between = known.begins.0;
  now = b.world;
  others = between_of b k known;
  full = subst (λ h. IsFull h b.world e) (sym known.begins.1) full;
  berth = same;
}

pub may_refuse : (f : LogFault) (b : BookValue) (k : BerthValue) (e : Event) (b' : BookValue) (k' : BerthValue) → IsRefused f b k e b' k' → MayRefuse f k e k'
may_refuse book.OtherBook b k e b' k' r = r.1.berth
may_refuse book.OtherActor b k e b' k' r = (r.1, r.2.berth)
may_refuse book.Full b k e b' k' r = has_found_full b k e k' r.0.actor r.2 r.1 r.3.berth
may_refuse book.Memory b k e b' k' r = (r.0.actor, r.2.berth)
may_refuse (book.NotAStep f) b k e b' k' r = has_refused f b k e b' k' r.0.actor r.2

-- a book stays the same book, and its opening stays

pub logged_table : (b : BookValue) (k : BerthValue) (e : Event) (done : Effect) (b' : BookValue) (k' : BerthValue) → IsLogged b k e done b' k' → b'.table ≡ b.table
logged_table b k e done b' k' logged = ap (λ (x : BookValue). x.table) logged.book

pub refused_same : (f : LogFault) (b : BookValue) (k : BerthValue) (e : Event) (b' : BookValue) (k' : BerthValue) → IsRefused f b k e b' k' → b' ≡ b
refused_same book.OtherBook b k e b' k' r = r.1.book
refused_same book.OtherActor b k e b' k' r = r.2.book
refused_same book.Full b k e b' k' r = r.3.book
refused_same book.Memory b k e b' k' r = r.2.book
refused_same (book.NotAStep f) b k e b' k' r = r.2.book

pub refused_table : (f : LogFault) (b : BookValue) (k : BerthValue) (e : Event) (b' : BookValue) (k' : BerthValue) → IsRefused f b k e b' k' → b'.table ≡ b.table
refused_table f b k e b' k' r = ap (λ (x : BookValue). x.table) (refused_same f b k e b' k' r)

-- the same of an answer

pub logged_if : (r : Result Effect LogFault) (b : BookValue) (k : BerthValue) (e : Event) (b' : BookValue) (k' : BerthValue) → IfOk r (λ done. IsLogged b k e done b' k') → IfOk r (λ done. IsAsListed b.world e done) → IfOk r (λ done. HasLogged k e done k')
logged_if (Ok done) b k e b' k' logged listed = has_logged b k e done b' k' logged listed
logged_if (Err f) b k e b' k' logged listed = tt

pub refused_if : (r : Result Effect LogFault) (b : BookValue) (k : BerthValue) (e : Event) (b' : BookValue) (k' : BerthValue) → IfErr r (λ f. IsRefused f b k e b' k') → IfErr r (λ f. MayRefuse f k e k')
refused_if (Ok done) b k e b' k' refused = tt
refused_if (Err f) b k e b' k' refused = may_refuse f b k e b' k' refused
