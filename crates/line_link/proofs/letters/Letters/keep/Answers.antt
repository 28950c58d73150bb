use Rattle.std.proofs.Common.{ℕ, List, Contains, subst, sym, is_ok}
use Rattle.std.proofs.lemmas.List.Elements.{All-set}
use Rattle.lock_messages.specs.declared.ids.Actor.{Actor}
use Rattle.line_link.specs.Carried.{Given, AreAmong}
use Rattle.line_link.proofs.CarriedFacts.{among_pushed}
use Rattle.line_link.proofs.letters.Letters.keep.Goals as goal
use Rattle.line_link.proofs.letters.Letters.keep.Goals.{in-Err-1, in-Ok-1}

pub returns-in-Some : goal.returns-in-Some
returns-in-Some c lines among is =
    All-set (λ (l : Actor × List ℕ). Contains lines l) c.self.inside.letters.items c.in-Some.at c.args.letter is (subst (λ (g : Given). AreAmong g lines) (sym c.self.view_is) among)

pub returns-in-None : goal.returns-in-None
returns-in-None c lines among is =
    let pushed : AreAmong c.push.new.self.items lines = subst (λ (g : Given). AreAmong g lines) (sym c.push.ensures.items) (among_pushed (is_ok c.push.result) c.self.inside.letters.items lines c.args.letter (subst (λ (g : Given). AreAmong g lines) (sym c.self.view_is) among) is) in
    elim c.match-push.branch [ in-Err-1 w ↦ subst (λ (g : Given). AreAmong g lines) (sym w.self-is) pushed | in-Ok-1 w ↦ subst (λ (g : Given). AreAmong g lines) (sym w.self-is) pushed ]
