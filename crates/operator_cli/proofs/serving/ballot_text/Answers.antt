use Rattle.std.proofs.Common.{◌≡◌, ◌∙◌, codes, refl, sym, ap}
use Rattle.std.specs.Fmt.{digits}
use Rattle.vote_weights.specs.declared.faults.BallotFault.{BallotFault}
use Rattle.vote_weights.specs.Faults.{fault_number}
use Rattle.operator_cli.specs.Texts.{settings_fault_text}
use Rattle.operator_cli.proofs.serving.ballot_text.Goals as goal

text_201 : codes "settings fault 201\n" ≡ settings_fault_text 201
unfolding digits
text_201 = refl

pub returns-in-NoNode : goal.returns-in-NoNode
returns-in-NoNode c = text_201 ∙ ap (λ (f : BallotFault). settings_fault_text (fault_number f)) (sym c.in-NoNode.is)

text_202 : codes "settings fault 202\n" ≡ settings_fault_text 202
unfolding digits
text_202 = refl

pub returns-in-TooManyNodes : goal.returns-in-TooManyNodes
returns-in-TooManyNodes c = text_202 ∙ ap (λ (f : BallotFault). settings_fault_text (fault_number f)) (sym c.in-TooManyNodes.is)

text_203 : codes "settings fault 203\n" ≡ settings_fault_text 203
unfolding digits
text_203 = refl

pub returns-in-OverTotal : goal.returns-in-OverTotal
returns-in-OverTotal c = text_203 ∙ ap (λ (f : BallotFault). settings_fault_text (fault_number f)) (sym c.in-OverTotal.is)

text_204 : codes "settings fault 204\n" ≡ settings_fault_text 204
unfolding digits
text_204 = refl

pub returns-in-ReadsMissWrites : goal.returns-in-ReadsMissWrites
returns-in-ReadsMissWrites c = text_204 ∙ ap (λ (f : BallotFault). settings_fault_text (fault_number f)) (sym c.in-ReadsMissWrites.is)

text_205 : codes "settings fault 205\n" ≡ settings_fault_text 205
unfolding digits
text_205 = refl

pub returns-in-WritesMiss : goal.returns-in-WritesMiss
returns-in-WritesMiss c = text_205 ∙ ap (λ (f : BallotFault). settings_fault_text (fault_number f)) (sym c.in-WritesMiss.is)

text_206 : codes "settings fault 206\n" ≡ settings_fault_text 206
unfolding digits
text_206 = refl

pub returns-in-BallotsMiss : goal.returns-in-BallotsMiss
returns-in-BallotsMiss c = text_206 ∙ ap (λ (f : BallotFault). settings_fault_text (fault_number f)) (sym c.in-BallotsMiss.is)

text_207 : codes "settings fault 207\n" ≡ settings_fault_text 207
unfolding digits
text_207 = refl

pub returns-in-NoBallot : goal.returns-in-NoBallot
returns-in-NoBallot c = text_207 ∙ ap (λ (f : BallotFault). settings_fault_text (fault_number f)) (sym c.in-NoBallot.is)

text_208 : codes "settings fault 208\n" ≡ settings_fault_text 208
unfolding digits
text_208 = refl

pub returns-in-TooManyBallots : goal.returns-in-TooManyBallots
returns-in-TooManyBallots c = text_208 ∙ ap (λ (f : BallotFault). settings_fault_text (fault_number f)) (sym c.in-TooManyBallots.is)
