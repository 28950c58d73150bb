use Rattle.std.proofs.Common.{◌≡◌, List, sym, ap, subst}
use Rattle.journal_audit.specs.Hearing.{Word, end_words, with_words}
use Rattle.journal_audit.proofs.HearFacts.{no_words}
use Rattle.journal_audit.proofs.auditing.show_end.Goals as goal

pub returns-in-Unsound : goal.returns-in-Unsound
returns-in-Unsound g c =
    let heard = g.V.Watcher.heard c.args.watcher.now in
    subst (λ (ws : List Word). heard ≡ with_words ws heard) (sym (ap end_words c.in-Unsound.is)) (no_words heard)
