-- Settings, or what is wrong with them, from the head of an input.
use Rattle.std.proofs.Common.{◌≡◌, ℕ, List, Option, Some, None, Result, Ok, Err, sym, ap, subst, ◌∙◌}
use Rattle.line_streams.specs.Streams.{pieces, lines_in}
use Rattle.world_settings.specs.declared.commands.Command.{Command}
use Rattle.world_settings.specs.declared.faults.SettingsFault.{SettingsFault}
use Rattle.world_settings.specs.declared.faults.SettingsFault.TheVariants as settings
use Rattle.world_settings.specs.declared.heads.StartFault.{StartFault}
use Rattle.world_settings.specs.declared.heads.StartFault.TheVariants as start
use Rattle.world_settings.specs.declared.settings.Start.{Start}
use Rattle.world_settings.specs.Heads.{FindsHead, Starts, head_of, opened, start_of, with_lines}
use Rattle.world_settings.specs.Settings.{Refuses, given, settings_of}

no_head : (c : Command) (xs : List ℕ) (e : SettingsFault) → Refuses e (head_of (pieces xs)) → Refuses e (opened c xs)
unfolding opened
no_head c xs settings.NoEnd h = ap (start_of c) h
no_head c xs settings.NoDocument h = ap (start_of c) h
no_head c xs settings.UnknownKey h = ap (start_of c) h
no_head c xs settings.Value h = ap (start_of c) h
no_head c xs (settings.Ballot f) h = ap (start_of c) h
no_head c xs (settings.Weather f) h = ap (start_of c) h
no_head c xs (settings.Wish f) h = ap (start_of c) h
no_head c xs settings.Memory h = tt

-- there is no head
pub not_started : (c : Command) (old new : Option (List ℕ)) (head : List ℕ) (f : StartFault) → FindsHead {A = Unit {0}} old new head (Err f) → Starts c old new (Err f)
not_started c None new head f h = tt
not_started c (Some xs) new head start.Read h = tt
not_started c (Some xs) new head (start.Settings e) h = no_head c xs e h

behind_head : (c : Command) (xs head : List ℕ) (lines : List (List ℕ)) → head_of (pieces xs) ≡ Ok (head, lines) → opened c xs ≡ with_lines lines (settings_of c head)
unfolding opened
behind_head c xs head lines h = ap (start_of c) h

-- the head gives settings
pub started : (c : Command) (old new : Option (List ℕ)) (head text : List ℕ) (a : Unit {0}) (s : Start) → FindsHead old new head (Ok a) → text ≡ head → settings_of c text ≡ Ok (given s) → Starts c old new (Ok s)
started c None new head text a s h same e = tt
started c (Some xs) None head text a s h same e = absurd h
started c (Some xs) (Some ys) head text a s h same e =
    behind_head c xs head (lines_in (pieces ys)) h ∙ ap (λ q. with_lines (lines_in (pieces ys)) q) (ap (settings_of c) (sym same) ∙ e)

bad_settings : (c : Command) (xs head : List ℕ) (lines : List (List ℕ)) (e : SettingsFault) → opened c xs ≡ with_lines lines (settings_of c head) → Refuses e (settings_of c head) → Refuses e (opened c xs)
bad_settings c xs head lines settings.NoEnd o h = o ∙ ap (with_lines lines) h
bad_settings c xs head lines settings.NoDocument o h = o ∙ ap (with_lines lines) h
bad_settings c xs head lines settings.UnknownKey o h = o ∙ ap (with_lines lines) h
bad_settings c xs head lines settings.Value o h = o ∙ ap (with_lines lines) h
bad_settings c xs head lines (settings.Ballot f) o h = o ∙ ap (with_lines lines) h
bad_settings c xs head lines (settings.Weather f) o h = o ∙ ap (with_lines lines) h
bad_settings c xs head lines (settings.Wish f) o h = o ∙ ap (with_lines lines) h
bad_settings c xs head lines settings.Memory o h = tt

-- the head gives none
pub refused : (c : Command) (old new : Option (List ℕ)) (head text : List ℕ) (a : Unit {0}) (e : SettingsFault) → FindsHead old new head (Ok a) → text ≡ head → Refuses e (settings_of c text) → Starts c old new (Err (start.Settings e))
refused c None new head text a e h same r = tt
refused c (Some xs) None head text a e h same r = absurd h
refused c (Some xs) (Some ys) head text a e h same r =
    bad_settings c xs head (lines_in (pieces ys)) e (behind_head c xs head (lines_in (pieces ys)) h) (subst (λ (t : List ℕ). Refuses e (settings_of c t)) same r)
