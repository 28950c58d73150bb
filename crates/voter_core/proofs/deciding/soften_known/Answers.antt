use Rattle.std.proofs.Common.{◌≡◌, Option, sym, ap, ◌∙◌, subst}
use Rattle.lock_model.specs.declared.entries.Live.{Live}
use Rattle.stable_record.specs.EntryLists.{replaced}
use Rattle.stable_record.specs.Indexing.{IndexesWith, with_softened, without_live}
use Rattle.voter_core.proofs.SoftenFacts.{index-softens}
use Rattle.voter_core.proofs.deciding.soften_known.Goals.{in-None, in-Some}
use Rattle.voter_core.proofs.deciding.soften_known.Goals as goal

pub returns-clause-indexed : goal.returns-clause-indexed
returns-clause-indexed c = λ a h.
    let es = c.args.entries.now in
    let e = c.args.entry.now in
    elim c.match-softened.branch [
      | in-None w ↦
          let made : c.replace.new.self ≡ replaced (without_live e.floor e) es =
          c.replace.ensures ∙ ap (λ (o : Option Live). replaced (record { client = e.client; floor = e.floor; live = o }) es) w.in-None.is in
          subst (IndexesWith a c.match-softened.index) (sym made)
          (subst (λ i. IndexesWith a i (replaced (without_live e.floor e) es)) (sym w.index-is) (w.end.ensures a es e.floor c.requires.among h))
      | in-Some w ↦
          let made : c.replace.new.self ≡ replaced (with_softened e) es =
          c.replace.ensures ∙ ap (λ (o : Option Live). replaced (record { client = e.client; floor = e.floor; live = o }) es)
          (sym (index-softens c.args.attempt c.args.live.now w.in-Some.field-0 e.live c.softened-softened.result c.requires.live c.requires.softened c.softened-softened.ensures w.in-Some.is)) in
          subst (IndexesWith a c.match-softened.index) (sym made)
          (subst (λ i. IndexesWith a i (replaced (with_softened e) es)) (sym w.index-is) (w.soften.ensures a es c.requires.among h))
    ]
