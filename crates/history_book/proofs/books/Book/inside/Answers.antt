use Rattle.std.proofs.Common.{ap, subst, ◌∙◌}
use Rattle.world_model.specs.declared.exact.ExactWorld.{ExactWorld}
use Rattle.world_model.specs.Forgetting.{forget}
use Rattle.world_model.specs.Views.{inside}
use Rattle.world_machine.specs.Listing.{AreInside}
use Rattle.history_book.specs.Books.{BookValue}
use Rattle.history_book.proofs.books.Book.inside.Goals as goal

pub returns-in-Ok-inside-clause-ok : goal.returns-in-Ok-inside-clause-ok
returns-in-Ok-inside-clause-ok g c = record {
  known = c.in-Ok.ensures.ok.0;
  seen = c.in-Ok.ensures.ok.1;
  those = record {
    told = c.in-Ok-inside.ensures.inside ∙ ap (λ (w : ExactWorld). inside c.args.resource.now w) (c.world.ensures ∙ ap (λ (b : BookValue). b.world) c.in-Ok.ensures.book);
    inside = subst (λ (w : ExactWorld). AreInside (forget w) c.args.resource.now c.in-Ok-inside.tickets.items) (c.world.ensures ∙ ap (λ (b : BookValue). b.world) c.in-Ok.ensures.book) c.in-Ok-inside.ensures.set;
    alone = c.in-Ok-inside.ensures.alone;
  };
}
