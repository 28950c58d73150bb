use Rattle.journal_laws.proofs.SoundTexts.{lines_are_events, journals_sound, journals_found}
use Rattle.journal_laws.proofs.laws.journals_are_sound.Goals as goal

pub returns-clause-lines : goal.returns-clause-lines
returns-clause-lines c =
    lines_are_events (record { allowed = c.exact_steps_are_allowed.ensures.steps; keep = c.exact_steps_are_allowed.ensures.sound; kinds = c.steps_change_one_part.ensures.effects; listed = c.steps_change_one_part.ensures.messages })

pub returns-clause-sound : goal.returns-clause-sound
returns-clause-sound c =
    journals_sound (record { allowed = c.exact_steps_are_allowed.ensures.steps; keep = c.exact_steps_are_allowed.ensures.sound; kinds = c.steps_change_one_part.ensures.effects; listed = c.steps_change_one_part.ensures.messages })

pub returns-clause-found : goal.returns-clause-found
returns-clause-found c =
    journals_found (record { allowed = c.exact_steps_are_allowed.ensures.steps; keep = c.exact_steps_are_allowed.ensures.sound; kinds = c.steps_change_one_part.ensures.effects; listed = c.steps_change_one_part.ensures.messages }) c.verdicts_are_exact.ensures
