use Rattle.std.proofs.Common.{rules, ap, sym, subst, ◌++◌, ◌∷◌, [], ◌∙◌, arith}
use Rattle.world_model.specs.Forgetting.{IsSound}
use Rattle.world_model.specs.Locality.{IsHistory, IsAsListed}
use Rattle.history_book.specs.Books.{enters}
use Rattle.history_book.proofs.Histories.{history_more, enters_more, enters_within, enters_once}
use Rattle.history_book.proofs.books.Book.log.Goals as goal

pub overflow_add-self : goal.overflow_add-self
overflow_add-self g c =
    let i = c.self.invariant in
    let one = enters_once c.args.event in
    let all = enters_within c.self.inside.seat.book.history in
    search rules

pub invariant_of-self-in-Ok : goal.invariant_of-self-in-Ok
invariant_of-self-in-Ok g c =
    let i = c.self.invariant in
    let book = c.add.ensures.book in
    let kept = ap (λ s. s.book.history) book in
    record {
      kept = kept ∙ ap (λ h. h ++ (c.args.event, c.in-Ok.effect) ∷ []) (i.kept ∙ sym c.reserve.ensures.items) ∙ sym c.push_reserved.ensures.items;
      given = ap (λ s. s.book.given) book ∙ i.given;
      run = subst (λ s. IsHistory s.book.opening s.book.history c.step-stepped.new.self) (sym book) (history_more _ _ _ _ _ _ i.run c.in-Ok.ensures.exact);
      entered = omega (arith, i.entered, c.enters_by.ensures, ap enters kept, enters_more c.self.inside.seat.book.history c.args.event c.in-Ok.effect);
      room = search rules;
      sound = subst (λ s. IsSound s.book.opening) (sym book) i.sound;
    }

pub returns-in-Ok-clause-listed : goal.returns-in-Ok-clause-listed
returns-in-Ok-clause-listed g c =
    subst (λ b. IsAsListed b.world c.args.event c.in-Ok.effect) c.self.view_is
    (c.steps_change_one_part.ensures.messages c.self.inside.world c.step-stepped.new.self c.args.event c.in-Ok.effect c.in-Ok.ensures.exact)
