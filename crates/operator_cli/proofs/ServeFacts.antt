-- From the settings to the whole output.
use Rattle.std.proofs.Common.{◌≡◌, ◌⊎◌, inl, inr, ℕ, ◌<◌, ◌≤◌, nat_le, Bool, true, false, cond, List, [], ◌++◌, Option, Some, None, Result, Ok, Err, refl, sym, ap, subst, ◌∙◌, append_assoc}
use Rattle.std.specs.Prelude.{IfErr}
use Rattle.std.specs.Io.KnownBytes.{Appends}
use Rattle.std.proofs.lemmas.Bool.{leb-true, leb-false}
use Rattle.std.proofs.lemmas.List.{append-nil, append_cancel_left}
use Rattle.std.proofs.KnownBytes.{Appends-nil}
use Rattle.world_model.specs.declared.exact.ExactWorld.{ExactWorld}
use Rattle.world_settings.specs.Openings.{all_down}
use Rattle.operator_cli.specs.declared.faults.ServeFault.{ServeFault}
use Rattle.operator_cli.specs.declared.faults.ServeFault.TheVariants as fault
use Rattle.world_settings.specs.declared.faults.SettingsFault.{SettingsFault}
use Rattle.world_settings.specs.declared.faults.SettingsFault.TheVariants as settings
use Rattle.journal_audit.specs.declared.faults.AuditFault.{AuditFault}
use Rattle.journal_audit.specs.declared.faults.AuditFault.TheVariants as audit
use Rattle.journal_audit.specs.declared.verdicts.TheConstants.{MAX_LINES}
use Rattle.journal_audit.specs.declared.verdicts.Verdict.{Verdict}
use Rattle.journal_audit.specs.Audits.{Audits, found_in}
use Rattle.journal_audit.specs.Verdicts.{verdict_of, verdict_text, reaches}
use Rattle.world_settings.specs.declared.commands.Command.{Command}
use Rattle.world_settings.specs.declared.commands.Command.TheVariants as command
use Rattle.world_settings.specs.declared.heads.StartFault.{StartFault}
use Rattle.world_settings.specs.declared.heads.StartFault.TheVariants as start
use Rattle.world_settings.specs.declared.settings.Settings.{Settings}
use Rattle.world_settings.specs.declared.settings.Start.{Start}
use Rattle.world_settings.specs.Settings.{Given, Refuses}
use Rattle.event_lines.specs.declared.faults.LineFault.{LineFault}
use Rattle.lossy_link.specs.declared.faults.WeatherFault.{WeatherFault}
use Rattle.line_streams.specs.Streams.{pieces, lines_in, AppendsBeginning, Grows, with_gathered}
use Rattle.operator_cli.specs.Outputs.{Output, output_of, lines_output, settings_output, command_output, verdict_output, verdict_status, refusal_output, refused_ballot_output, refused_output, KeepsLimit, IsLimited, IsLimitedIn, IsCommonFault, MayEndBy, Prints, Writes, Serves}
use Rattle.world_settings.specs.Heads.{opened, Starts}
use Rattle.operator_cli.specs.PartOutputs.{RefusesStart, WritesLines, WritesBehind, WritesVerdict, Finishes}

-- nothing was written
nothing_yet : (o : Output) (old new : Option (List ℕ)) → new ≡ old → AppendsBeginning old new o.text
nothing_yet o old new e = ([], o.text, refl, subst (λ (n : Option (List ℕ)). Appends old n []) (sym e) (Appends-nil old))

-- an audit may end by each fault
pub any_fault : (r : Result ℕ ServeFault) → IfErr r (MayEndBy command.Audit)
any_fault (Ok status) = tt
any_fault (Err f) = tt

-- each command may end by a common fault
pub common_fault : (c : Command) (f : ServeFault) → IsCommonFault f → MayEndBy c f
common_fault command.Script f common = common
common_fault command.Audit f common = tt
common_fault command.Ballot f common = common
common_fault (command.Run journal) f common = common

pub common_faults : (c : Command) (r : Result ℕ ServeFault) → IfErr r IsCommonFault → IfErr r (MayEndBy c)
common_faults c (Ok status) common = tt
common_faults c (Err f) common = common_fault c f common

nothing_limited : (v : Verdict) (f : ServeFault) → IsCommonFault f → KeepsLimit v (Err f)
nothing_limited v fault.Read h = tt
nothing_limited v fault.Write h = tt
nothing_limited v fault.Memory h = tt
nothing_limited v (fault.Audit f) h = absurd h

no_limit : (c : Command) (s : Settings) (lines : List (List ℕ)) (f : ServeFault) → IsCommonFault f → IsLimited c s lines (Err f)
no_limit command.Script s lines f h = tt
no_limit command.Audit s lines f h = nothing_limited (verdict_of (all_down s) lines) f h
no_limit command.Ballot s lines f h = tt
no_limit (command.Run journal) s lines f h = tt

pub nothing_behind : (c : Command) (s : Settings) (left old new : Option (List ℕ)) (f : ServeFault) → IsCommonFault f → new ≡ old → WritesBehind c s left old new (Err f)
nothing_behind c s None old new f h e = tt
nothing_behind c s (Some xs) old new f h e = (nothing_yet (settings_output c s (lines_in (pieces xs))) old new e, no_limit c s (lines_in (pieces xs)) f h)

unread : (c : Command) (o : Result (Given × List (List ℕ)) SettingsFault) (old new : Option (List ℕ)) → new ≡ old → IsLimitedIn c o old new (Err fault.Read)
unread c (Err e) old new same = inr (refl, same)
unread c (Ok parts) old new same = no_limit c parts.0.settings parts.1 fault.Read tt

-- nothing is written after a failed read
serves_unread : (c : Command) (xs : List ℕ) (old new : Option (List ℕ)) → new ≡ old → Serves c (Some xs) old new (Err fault.Read)
serves_unread c xs old new same = inl (nothing_yet (output_of c xs) old new same, unread c (opened c xs) old new same)

-- what nothing but the writer can cut short is written as any output is
pub printed : (o : Output) (old new : Option (List ℕ)) (r : Result ℕ ServeFault) → Prints o old new r → Writes o old new r
printed o old new (Ok status) h = h
printed o old new (Err e) h = let (front, back, cut, some, begun) = h.1 in (front, back, cut, begun)

-- refused settings are what the output tells
refusal_told : (c : Command) (xs : List ℕ) (e : SettingsFault) (old new : Option (List ℕ)) (r : Result ℕ ServeFault) → opened c xs ≡ Err e → Prints (refused_output c e) old new r → Serves c (Some xs) old new r
unfolding output_of
refusal_told c xs e old new r h p =
    inl (
      subst (λ (o : Output). Writes o old new r) (sym (ap (command_output c) h)) (printed (refused_output c e) old new r p),
      subst (λ (o : Result (Given × List (List ℕ)) SettingsFault). IsLimitedIn c o old new r) (sym h) (inl p),
    )

-- only votes that make no ballot are told otherwise where the ballot is asked for
pub plain_refusal : (e : SettingsFault) → (e ≡ settings.NoEnd) ⊎ ((e ≡ settings.NoDocument) ⊎ ((e ≡ settings.UnknownKey) ⊎ ((e ≡ settings.Value) ⊎ (e ≡ settings.Memory)))) → refusal_output e ≡ refused_ballot_output e
plain_refusal settings.NoEnd h = refl
plain_refusal settings.NoDocument h = refl
plain_refusal settings.UnknownKey h = refl
plain_refusal settings.Value h = refl
plain_refusal settings.Memory h = refl
plain_refusal (settings.Ballot f) (inl e) = cc
plain_refusal (settings.Ballot f) (inr (inl e)) = cc
plain_refusal (settings.Ballot f) (inr (inr (inl e))) = cc
plain_refusal (settings.Ballot f) (inr (inr (inr (inl e)))) = cc
plain_refusal (settings.Ballot f) (inr (inr (inr (inr e)))) = cc
plain_refusal (settings.Weather f) (inl e) = cc
plain_refusal (settings.Weather f) (inr (inl e)) = cc
plain_refusal (settings.Weather f) (inr (inr (inl e))) = cc
plain_refusal (settings.Weather f) (inr (inr (inr (inl e)))) = cc
plain_refusal (settings.Weather f) (inr (inr (inr (inr e)))) = cc
plain_refusal (settings.Wish f) (inl e) = cc
plain_refusal (settings.Wish f) (inr (inl e)) = cc
plain_refusal (settings.Wish f) (inr (inr (inl e))) = cc
plain_refusal (settings.Wish f) (inr (inr (inr (inl e)))) = cc
plain_refusal (settings.Wish f) (inr (inr (inr (inr e)))) = cc

-- weather and wishes are no answer there
pub weather_refusal : (e : SettingsFault) (f : WeatherFault) → e ≡ settings.Weather f → refusal_output e ≡ refused_ballot_output e
weather_refusal e f h = ap refusal_output h ∙ sym (ap refused_ballot_output h)

pub wish_refusal : (e : SettingsFault) (f : LineFault) → e ≡ settings.Wish f → refusal_output e ≡ refused_ballot_output e
wish_refusal e f h = ap refusal_output h ∙ sym (ap refused_ballot_output h)

-- want of memory is told the same way for each command
memory_told : (c : Command) (xs : List ℕ) (old new : Option (List ℕ)) (r : Result ℕ ServeFault) → Prints (refused_output c settings.Memory) old new r → Serves c (Some xs) old new r
memory_told command.Script xs old new r p = inr p
memory_told command.Audit xs old new r p = inr p
memory_told command.Ballot xs old new r p = inr p
memory_told (command.Run journal) xs old new r p = inr p

by_fault : (c : Command) (xs : List ℕ) (old new : Option (List ℕ)) (e : SettingsFault) (r : Result ℕ ServeFault) → Refuses e (opened c xs) → Prints (refused_output c e) old new r → Serves c (Some xs) old new r
by_fault c xs old new settings.NoEnd r h p = refusal_told c xs settings.NoEnd old new r h p
by_fault c xs old new settings.NoDocument r h p = refusal_told c xs settings.NoDocument old new r h p
by_fault c xs old new settings.UnknownKey r h p = refusal_told c xs settings.UnknownKey old new r h p
by_fault c xs old new settings.Value r h p = refusal_told c xs settings.Value old new r h p
by_fault c xs old new (settings.Ballot f) r h p = refusal_told c xs (settings.Ballot f) old new r h p
by_fault c xs old new (settings.Weather f) r h p = refusal_told c xs (settings.Weather f) old new r h p
by_fault c xs old new (settings.Wish f) r h p = refusal_told c xs (settings.Wish f) old new r h p
by_fault c xs old new settings.Memory r h p = memory_told c xs old new r p

pub fails_writing : (o : Output) (old new : Option (List ℕ)) (r : Result ℕ ServeFault) → Prints o old new r → IfErr r IsCommonFault
fails_writing o old new (Ok status) h = tt
fails_writing o old new (Err e) h = subst IsCommonFault (sym h.0) tt

pub serves_refusal : (c : Command) (input left old new : Option (List ℕ)) (f : StartFault) (r : Result ℕ ServeFault) → Starts c input left (Err f) → RefusesStart c f old new r → Serves c input old new r
serves_refusal c None left old new f r h p = tt
serves_refusal c (Some xs) left old new start.Read r h p =
    subst (λ (q : Result ℕ ServeFault). Serves c (Some xs) old new q) (sym p.0) (serves_unread c xs old new p.1)
serves_refusal c (Some xs) left old new (start.Settings e) r h p = by_fault c xs old new e r h p

-- what is written for the settings and the lines behind them is the output
pub serves_behind : (c : Command) (input left old new : Option (List ℕ)) (s : Start) (r : Result ℕ ServeFault) → Starts c input left (Ok s) → WritesBehind c s.settings left old new r → Serves c input old new r
unfolding output_of
serves_behind c None left old new s r h p = tt
serves_behind c (Some xs) None old new s r h p = absurd h
serves_behind c (Some xs) (Some ys) old new s r h p =
    inl (subst (λ (o : Output). Writes o old new r) (sym (ap (command_output c) h)) p.0, subst (λ (o : Result (Given × List (List ℕ)) SettingsFault). IsLimitedIn c o old new r) (sym h) p.1)

-- What an audit found is the verdict of the lines.

within : (b : Bool) (v u : Verdict) → nat_le (reaches v) MAX_LINES ≡ b → cond b (Ok v) (Err audit.TooManyLines) ≡ Ok u → (v ≡ u) × (reaches v ≤ MAX_LINES)
within true v u e h = (let same : Ok v ≡ Ok u = h in cc, leb-true _ _ e)
within false v u e h = let clash : Err audit.TooManyLines ≡ Ok u = h in cc

beyond : (b : Bool) (v : Verdict) → nat_le (reaches v) MAX_LINES ≡ b → cond b (Ok v) (Err audit.TooManyLines) ≡ Err audit.TooManyLines → MAX_LINES < reaches v
beyond true v e h = let clash : Ok v ≡ Err audit.TooManyLines = h in cc
beyond false v e h = leb-false _ _ e

pub is_verdict : (w : ExactWorld) (lines : List (List ℕ)) (v : Verdict) → found_in w lines ≡ Ok v → (verdict_of w lines ≡ v) × (reaches (verdict_of w lines) ≤ MAX_LINES)
is_verdict w lines v h = within (nat_le (reaches (verdict_of w lines)) MAX_LINES) (verdict_of w lines) v refl h

pub verdict_written : (w : ExactWorld) (left old new : Option (List ℕ)) (v : Verdict) (status : ℕ) → Audits w left old new (Ok v) → status ≡ verdict_status v → WritesVerdict w left old new (Ok status)
verdict_written w None old new v status h e = tt
verdict_written w (Some xs) old new v status h e =
    let same = is_verdict w (lines_in (pieces xs)) v h.0 in
    ((subst (λ (u : Verdict). Appends old new (verdict_text u)) (sym same.0) h.1, e ∙ ap verdict_status (sym same.0)), same.1)

pub verdict_unwritten : (w : ExactWorld) (left old new : Option (List ℕ)) (f : AuditFault) → Audits w left old new (Err f) → WritesVerdict w left old new (Err (fault.Audit f))
verdict_unwritten w None old new f h = tt
verdict_unwritten w (Some xs) old new audit.Read h = (nothing_yet (verdict_output (verdict_of w (lines_in (pieces xs)))) old new h, tt)
verdict_unwritten w (Some xs) old new audit.Write h =
    let (v, found, part) = h in
    let (front, back, cut, some, begun) = part in
    (subst (λ (u : Verdict). AppendsBeginning old new (verdict_text u)) (sym (is_verdict w (lines_in (pieces xs)) v found).0) (front, back, cut, begun), tt)
verdict_unwritten w (Some xs) old new audit.Memory h = (nothing_yet (verdict_output (verdict_of w (lines_in (pieces xs)))) old new h, tt)
verdict_unwritten w (Some xs) old new audit.TooManyLines h = (
  nothing_yet (verdict_output (verdict_of w (lines_in (pieces xs)))) old new h.1,
  beyond (nat_le (reaches (verdict_of w (lines_in (pieces xs)))) MAX_LINES) (verdict_of w (lines_in (pieces xs))) refl h.0,
)

-- What was written and gathered is let out.

let_out_all : (old mid new : Option (List ℕ)) (gathered text : List ℕ) → Appends old (with_gathered mid gathered) text → Appends mid new gathered → Appends old new text
let_out_all None mid new gathered text p q = tt
let_out_all (Some xs) None new gathered text p q = absurd p
let_out_all (Some xs) (Some ys) None gathered text p q = absurd q
let_out_all (Some xs) (Some ys) (Some zs) gathered text p q = q ∙ p

a_beginning : (o : Output) (old new : Option (List ℕ)) (r : Result ℕ ServeFault) → Writes o old new r → AppendsBeginning old new o.text
a_beginning o old new (Ok status) h = (o.text, [], sym (append-nil o.text), h.0)
a_beginning o old new (Err e) h = h

let_out_some : (text : List ℕ) (old mid new : Option (List ℕ)) (gathered : List ℕ) → AppendsBeginning old (with_gathered mid gathered) text → Grows old mid → AppendsBeginning mid new gathered → AppendsBeginning old new text
let_out_some text None mid new gathered h grown out = ([], text, refl, tt)
let_out_some text (Some xs) None new gathered h grown out = absurd grown.1
let_out_some text (Some xs) (Some ys) None gathered h grown out = let (front, back, cut, b) = out in absurd b
let_out_some text (Some xs) (Some ys) (Some zs) gathered h grown out =
    let (t, u, whole, a) = h in
    let (p, m) = grown in
    let (front, back, cut, b) = out in
    let same : p ++ gathered ≡ t = append_cancel_left xs (p ++ gathered) t (sym (append_assoc xs p gathered) ∙ ap (λ (bs : List ℕ). bs ++ gathered) (sym m) ∙ a) in (
      p ++ front,
      back ++ u,
      whole ∙ ap (λ (bs : List ℕ). bs ++ u) (sym same ∙ ap (λ (bs : List ℕ). p ++ bs) cut ∙ sym (append_assoc p front back)) ∙ append_assoc (p ++ front) back u,
      b ∙ ap (λ (bs : List ℕ). bs ++ front) m ∙ append_assoc xs p front,
    )

let_out_output : (o : Output) (old mid new : Option (List ℕ)) (gathered : List ℕ) (came r : Result ℕ ServeFault) → Writes o old (with_gathered mid gathered) came → Grows old mid → Finishes mid new gathered came r → Writes o old new r
let_out_output o old mid new gathered came (Ok status) h grown f =
    let k = subst (λ (q : Result ℕ ServeFault). Writes o old (with_gathered mid gathered) q) f.0 h in
    (let_out_all old mid new gathered o.text k.0 f.1, k.1)
let_out_output o old mid new gathered came (Err e) h grown f = let_out_some o.text old mid new gathered (a_beginning o old (with_gathered mid gathered) came h) grown f

pub finished : (w : ExactWorld) (left old mid new : Option (List ℕ)) (gathered : List ℕ) (came r : Result ℕ ServeFault) → WritesLines w left old (with_gathered mid gathered) came → Grows old mid → Finishes mid new gathered came r → WritesLines w left old new r
finished w None old mid new gathered came r h grown f = tt
finished w (Some xs) old mid new gathered came r h grown f = let_out_output (lines_output w 1 (lines_in (pieces xs))) old mid new gathered came r h grown f

-- nothing is gathered at first
pub nothing_gathered : (w : ExactWorld) (left old new : Option (List ℕ)) (gathered : List ℕ) (r : Result ℕ ServeFault) → gathered ≡ [] → WritesLines w left (with_gathered old gathered) new r → WritesLines w left old new r
nothing_gathered w left None new gathered r e h = h
nothing_gathered w left (Some xs) new gathered r e h = subst (λ (bs : List ℕ). WritesLines w left (Some bs) new r) (ap (λ (bs : List ℕ). xs ++ bs) e ∙ append-nil xs) h
