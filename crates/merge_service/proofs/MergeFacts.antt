-- From what is found of journals to what is written.
use Rattle.std.proofs.Common.{◌≡◌, inl, inr, ℕ, Bool, true, false, List, ◌++◌, Option, Some, None, Result, Ok, Err, codes, ap, sym, subst, ◌∙◌, append_assoc}
use Rattle.std.specs.Io.KnownBytes.{Appends}
use Rattle.std.proofs.KnownBytes.{Appends-trans}
use Rattle.world_model.specs.declared.exact.ExactWorld.{ExactWorld}
use Rattle.journal_text.specs.Journals.{history_text}
use Rattle.journal_merger.specs.Judging.{Judges}
use Rattle.journal_merger.specs.Merges.{Begins, Finds, WritesBeginning}
use Rattle.journal_merger.proofs.OutFacts.{begins-after}
use Rattle.journal_merger.specs.Pendings.{Pending}
use Rattle.journal_merger.specs.declared.faults.Failure.{Failure}
use Rattle.journal_merger.specs.declared.merging.Outcome.{Outcome}
use Rattle.journal_merger.specs.declared.merging.Outcome.TheVariants as outcome
use Rattle.line_merger.specs.declared.offers.Refusal.{Refusal}
use Rattle.line_streams.specs.Streams.{pieces, AppendsBeginning}
use Rattle.operator_cli.specs.declared.faults.ServeFault.{ServeFault}
use Rattle.world_settings.specs.declared.faults.SettingsFault.{SettingsFault}
use Rattle.world_settings.specs.declared.faults.SettingsFault.TheVariants as settings
use Rattle.world_settings.specs.declared.heads.StartFault.{StartFault}
use Rattle.world_settings.specs.declared.heads.StartFault.TheVariants as start
use Rattle.world_settings.specs.declared.commands.Command.TheVariants as command
use Rattle.world_settings.specs.Openings.{all_down}
use Rattle.world_settings.specs.Settings.{Given, Refuses, settings_of}
use Rattle.operator_cli.specs.Outputs.{refusal_output, Prints}
use Rattle.world_settings.specs.Heads.{head_of, FindsHead}
use Rattle.operator_cli.specs.PartOutputs.{RefusesStart}
use Rattle.merge_service.specs.declared.ends.MergeEnd.{MergeEnd}
use Rattle.merge_service.specs.declared.ends.MergeEnd.TheVariants as end
use Rattle.merge_service.specs.declared.ends.MergeFault.{MergeFault}
use Rattle.merge_service.specs.declared.ends.MergeFault.TheVariants as met
use Rattle.merge_service.specs.Merging.{merged_text, refused_of, WritesSome, Merges, MergesBy, MergesHead, MergesBehind, RefusesSettings, ServesMerge}

abbrev Out : Type 0
Out = Option (List ℕ)

abbrev Came : Type 0
Came = Result MergeEnd MergeFault

-- a merge that was written

pub judged_so : (head : List ℕ) (w : ExactWorld) (pending : List Pending) (old new : Out) (lines : ℕ) → Judges w pending (Ok (outcome.Merged lines)) → Appends old new (merged_text lines) → Merges true head w pending old new (Ok end.Merged)
judged_so head w pending old new lines (journals, left, has, count) put = (journals, left, has, subst (λ n. Appends old new (merged_text n)) count put)

pub written_so : (head : List ℕ) (w : ExactWorld) (pending : List Pending) (old mid new : Out) (lines : ℕ) → Appends old mid (head ++ codes "---\n") → Finds w pending mid new (Ok (outcome.Merged lines)) → Merges false head w pending old new (Ok end.Merged)
written_so head w pending old mid new lines put f =
    let (journals, told, left, merged, has, count, text) = f in
    (journals, left, has, (told, merged, Appends-trans old mid new (head ++ codes "---\n") (history_text told) put text))

-- a beginning that was written

pub begins_before : (old new : Out) (text rest : List ℕ) → AppendsBeginning old new text → AppendsBeginning old new (text ++ rest)
begins_before old new text rest h = let (front, back, e, r) = h in (front, back ++ rest, ap (λ (xs : List ℕ). xs ++ rest) e ∙ append_assoc front back rest, r)

pub begins_then : (old mid new : Out) (before text : List ℕ) (r : Result (Unit {0}) MergeFault) → Appends old mid before → Begins mid new text r → Begins old new (before ++ text) r
begins_then old mid new before text (Ok u) h b = Appends-trans old mid new before text h b
begins_then old mid new before text (Err f) h b = begins-after old mid new before text h b

behind_head : (head : List ℕ) (w : ExactWorld) (pending : List Pending) (old mid new : Out) → Appends old mid (head ++ codes "---\n") → WritesBeginning w pending mid new → WritesSome false head w pending old new
behind_head head w pending old mid new put h =
    let (told, begun, text) = h in
    (told, begun, begins-after old mid new (head ++ codes "---\n") (history_text told) put text)

pub stuck_so : (head : List ℕ) (w : ExactWorld) (pending : List Pending) (old mid new : Out) (o : Outcome) (why : Option (ℕ × Refusal)) → o ≡ outcome.Stuck why → Appends old mid (head ++ codes "---\n") → Finds w pending mid new (Ok o) → Merges false head w pending old new (Ok end.Stuck)
stuck_so head w pending old mid new o why is put h =
    let f : Finds w pending mid new (Ok (outcome.Stuck why)) = subst (λ (x : Outcome). Finds w pending mid new (Ok x)) is h in
    (f.0, behind_head head w pending old mid new put f.1)

pub failed_so : (head : List ℕ) (w : ExactWorld) (pending : List Pending) (old mid new : Out) (f : Failure) → Appends old mid (head ++ codes "---\n") → Finds w pending mid new (Err f) → Merges false head w pending old new (Err (met.Journals f))
failed_so head w pending old mid new f put h = (h.0, behind_head head w pending old mid new put h.1)

-- settings that were read, or are refused

pub by_settings : (judged : Bool) (head : List ℕ) (g : Given) (pending : List Pending) (old new : Out) (r : Came) → settings_of command.Audit head ≡ Ok g → Merges judged head (all_down g.settings) pending old new r → MergesHead judged head pending old new r
by_settings judged head g pending old new r is h = inl (subst (λ (q : Result Given SettingsFault). MergesBy judged head q pending old new r) (sym is) h)

pub settings_refused : (judged : Bool) (head : List ℕ) (e : SettingsFault) (pending : List Pending) (old new : Out) (r : Came) → Refuses e (settings_of command.Audit head) → RefusesSettings e old new r → MergesHead judged head pending old new r
settings_refused judged head settings.NoEnd pending old new r h p = inl (subst (λ (q : Result Given SettingsFault). MergesBy judged head q pending old new r) (sym h) p)
settings_refused judged head settings.NoDocument pending old new r h p = inl (subst (λ (q : Result Given SettingsFault). MergesBy judged head q pending old new r) (sym h) p)
settings_refused judged head settings.UnknownKey pending old new r h p = inl (subst (λ (q : Result Given SettingsFault). MergesBy judged head q pending old new r) (sym h) p)
settings_refused judged head settings.Value pending old new r h p = inl (subst (λ (q : Result Given SettingsFault). MergesBy judged head q pending old new r) (sym h) p)
settings_refused judged head (settings.Ballot f) pending old new r h p = inl (subst (λ (q : Result Given SettingsFault). MergesBy judged head q pending old new r) (sym h) p)
settings_refused judged head (settings.Weather f) pending old new r h p = inl (subst (λ (q : Result Given SettingsFault). MergesBy judged head q pending old new r) (sym h) p)
settings_refused judged head (settings.Wish f) pending old new r h p = inl (subst (λ (q : Result Given SettingsFault). MergesBy judged head q pending old new r) (sym h) p)
settings_refused judged head settings.Memory pending old new r h p = inr p

-- a head that was read, or is not there

abbrev Parts : Type 0
Parts = Result (List ℕ × List (List ℕ)) SettingsFault

pub serves : (judged : Bool) (input left old new : Out) (pending : List Pending) (head text : List ℕ) (a : Unit {0}) (r : Came) → FindsHead input left head (Ok a) → text ≡ head → MergesHead judged text pending old new r → ServesMerge judged input pending old new r
serves judged None left old new pending head text a r h same p = tt
serves judged (Some xs) None old new pending head text a r h same p = absurd h
serves judged (Some xs) (Some ys) old new pending head text a r h same p =
    let q : MergesHead judged head pending old new r = subst (λ (t : List ℕ). MergesHead judged t pending old new r) same p in
    inl (subst (λ (o : Parts). MergesBehind judged o pending old new r) (sym h) q)

head_refused : (judged : Bool) (xs : List ℕ) (e : SettingsFault) (pending : List Pending) (old new : Out) (r : Came) → Refuses e (head_of (pieces xs)) → RefusesSettings e old new r → ServesMerge judged (Some xs) pending old new r
head_refused judged xs settings.NoEnd pending old new r h p = inl (subst (λ (o : Parts). MergesBehind judged o pending old new r) (sym h) p)
head_refused judged xs settings.NoDocument pending old new r h p = inl (subst (λ (o : Parts). MergesBehind judged o pending old new r) (sym h) p)
head_refused judged xs settings.UnknownKey pending old new r h p = inl (subst (λ (o : Parts). MergesBehind judged o pending old new r) (sym h) p)
head_refused judged xs settings.Value pending old new r h p = inl (subst (λ (o : Parts). MergesBehind judged o pending old new r) (sym h) p)
head_refused judged xs (settings.Ballot f) pending old new r h p = inl (subst (λ (o : Parts). MergesBehind judged o pending old new r) (sym h) p)
head_refused judged xs (settings.Weather f) pending old new r h p = inl (subst (λ (o : Parts). MergesBehind judged o pending old new r) (sym h) p)
head_refused judged xs (settings.Wish f) pending old new r h p = inl (subst (λ (o : Parts). MergesBehind judged o pending old new r) (sym h) p)
head_refused judged xs settings.Memory pending old new r h p = inr (inl p)

pub not_started : (judged : Bool) (input left old new : Out) (pending : List Pending) (head : List ℕ) (f : StartFault) (came : Result ℕ ServeFault) (r : Came) → FindsHead {A = Unit {0}} input left head (Err f) → RefusesStart command.Audit f old new came → r ≡ refused_of came
    → ServesMerge judged input pending old new r
not_started judged None left old new pending head f came r h p is = tt
not_started judged (Some xs) left old new pending head start.Read came r h p is = inr (inr (subst (λ (c : Result ℕ ServeFault). r ≡ refused_of c) p.0 is, p.1))
not_started judged (Some xs) left old new pending head (start.Settings e) came r h p is = head_refused judged xs e pending old new r h (came, is, p)

-- no memory to begin with
pub no_room : (judged : Bool) (input old new : Out) (pending : List Pending) (came : Result ℕ ServeFault) (r : Came) → Prints (refusal_output settings.Memory) old new came → r ≡ refused_of came → ServesMerge judged input pending old new r
no_room judged None old new pending came r p is = tt
no_room judged (Some xs) old new pending came r p is = inr (inl (came, is, p))
