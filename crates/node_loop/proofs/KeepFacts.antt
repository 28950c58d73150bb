-- What keeping and rising make of a node's part of the world.
use Rattle.std.proofs.Common.{◌≡◌, ◌+◌, ℕ, Bool, List, [], ◌∷◌, ◌++◌, None, refl, sym, ap, ◌∙◌, subst}
use Rattle.lock_messages.specs.declared.ids.Actor.{Actor}
use Rattle.lock_messages.specs.declared.ids.Actor.TheVariants as actor
use Rattle.stable_record.specs.declared.node_records.NodeRecord.{NodeRecord}
use Rattle.stable_record.specs.Records.{IsNodeRecord, node_record_of}
use Rattle.stable_record.specs.Laws.{OneSpelling}
use Rattle.voter_core.specs.Voters.{State, Voter, record_of, risen, IsRecordOf}
use Rattle.world_model.specs.declared.events.Age.{Age}
use Rattle.world_model.specs.declared.events.Age.TheVariants.{Old, New}
use Rattle.world_model.specs.declared.events.Effect.TheVariants as effect
use Rattle.world_model.specs.declared.events.Event.TheVariants as event
use Rattle.world_model.specs.declared.exact.ExactNode.{ExactNode}
use Rattle.world_model.specs.declared.exact.ExactNodePhase.TheVariants as node
use Rattle.world_model.specs.Openings.{down_node}
use Rattle.world_model.specs.Locality.{local_part}
use Rattle.world_model.specs.Parts.{Part, NodePart, after_own}
use Rattle.world_actors.specs.Nodes.{station_in}
use Rattle.event_recorders.specs.OwnLogs.{OwnLog, part_now, FindsPart, IsAdded, kept_in, FindsItsOwn}
use Rattle.node_loop.specs.Standing.{as_opened, StandsBy, StandsIdle, FailsToKeep, IsReady, GoesOn}
use Rattle.actor_steps.specs.Steps.{HasFailed, HasFound, IsRisenAgain}
use Rattle.actor_steps.specs.Endings.{falls_of}
use Rattle.actor_steps.proofs.EndFacts.{failures_stay, failures_rise, failures_on}
use Rattle.actor_steps.proofs.SendingFacts.{keeping_sends_nothing, trying_sends_nothing, tried_sends_nothing}
use Rattle.actor_steps.proofs.FindingFacts.{part_own}
use Rattle.node_loop.proofs.OpeningFacts.{kept_opening, perhaps_opening, risen_opening}
use Rattle.node_loop.proofs.UnsentFacts.{none_left, sent_before, rising_leaves, failing_leaves, memory_whole, silent_whole, failing_whole, whole_from}

-- a restart of a node that is up finds just what it has kept
pub stands_own : (s : State) (l : OwnLog) (v : Voter) (kept : NodeRecord) (strings : List (List ℕ)) (stuck : Bool) → StandsBy s l v kept strings stuck → FindsItsOwn (part_now l) strings
stands_own s l v kept strings stuck is = part_own (part_now l) strings (subst (λ p. FindsPart p strings) (sym is.part) is.finds)

-- a node that is up with this record kept, idle
abbrev pub idle_with : NodeRecord → ExactNode
idle_with r = record { kept = station_in r; tried = None; phase = node.Idle }

-- a record by which the node is up and idle
record IsUpWith (q : Part) (r : NodeRecord) : Type 0 where
  pub good : IsNodeRecord r
  pub part : q ≡ NodePart (idle_with r)

risen_with : (l l' : OwnLog) (v : Voter) (before : NodeRecord) (tried : List ℕ) (strings : List (List ℕ)) (age : Age) → FailsToKeep l v before tried strings →
    IsRisenAgain l (actor.Node v.node) age l' → (r : NodeRecord) × IsUpWith (part_now l') r
risen_with l l' v before tried strings Old s again = (
  before,
  record {
    good = s.good;
    part = again.risen.part
        ∙ ap (after_own l.ballots (event.Rise (actor.Node v.node) Old) effect.Up) (again.fallen.part ∙ ap (after_own l.ballots (event.Fall (actor.Node v.node)) effect.Down) s.part);
  },
)
risen_with l l' v before tried strings New s again = (
  record_of v,
  record {
    good = s.decided;
    part = again.risen.part
        ∙ ap (after_own l.ballots (event.Rise (actor.Node v.node) New) effect.Up) (again.fallen.part ∙ ap (after_own l.ballots (event.Fall (actor.Node v.node)) effect.Down) s.part);
  },
)

-- The core that rises with what was found stands by the node that is up with it.
stands_risen : (l : OwnLog) (n : ℕ) (found : List ℕ) (r r' : NodeRecord) (v : Voter) (strings : List (List ℕ)) (stuck : Bool) → OneSpelling → l.actor ≡ actor.Node n →
    IsUpWith (part_now l) r → HasFound found l strings stuck → IsRecordOf found r' → v ≡ risen n r' → StandsIdle l v strings stuck
stands_risen l n found r r' v strings stuck law own up here is core =
    let bytes : node_record_of r ≡ found = sym (here.kept ∙ ap kept_in up.part) in
    let same : r ≡ r' = (law r r' [] [] up.good is.good (ap (λ xs. xs ++ []) (bytes ∙ is.spelled))).0 in
    subst (λ (w : Voter). StandsIdle l w strings stuck) (sym core)
    (record {
      actor = own;
      state = refl;
      part = up.part ∙ ap (λ x. NodePart (idle_with x)) same;
      good = is.good;
      finds = here.found ∙ ap (λ b. b ∷ []) is.spelled;
      ready = here.free;
    })

-- the part of a log that is unused is that of its opening
unused_part : (l : OwnLog) (p : Part) → l.events ≡ [] → l.opening ≡ p → part_now l ≡ p
unused_part l p none opening = ap (local_part l.ballots l.opening) none ∙ opening

first_up : (l l' : OwnLog) (n : ℕ) (kept : NodeRecord) (strings : List (List ℕ)) → IsReady l n kept strings →
    IsAdded l (event.Rise (actor.Node n) Old) effect.Up l' → IsUpWith (part_now l') kept
first_up l l' n kept strings s added = record {
  good = s.good;
  part = added.part ∙ ap (after_own l.ballots (event.Rise (actor.Node n) Old) effect.Up) (unused_part l (NodePart (down_node (station_in kept))) s.unused.events s.opening);
}

-- rising again: the core that restarts with what was found
pub restarts : (l l' : OwnLog) (v v' : Voter) (n : ℕ) (before : NodeRecord) (tried : List ℕ) (strings strings' : List (List ℕ)) (stuck : Bool) (age : Age) (found bytes : List ℕ) (r : NodeRecord) →
    OneSpelling → n ≡ v.node → FailsToKeep l v before tried strings → IsRisenAgain l (actor.Node n) age l' → HasFound found l' strings' stuck → bytes ≡ found →
    IsRecordOf bytes r → v' ≡ risen v.node r → StandsIdle l' v' strings' stuck
restarts l l' v v' n before tried strings strings' stuck age found bytes r law number failed again here read is core =
    let again' : IsRisenAgain l (actor.Node v.node) age l' = subst (λ (k : ℕ). IsRisenAgain l (actor.Node k) age l') number again in
    let up = risen_with l l' v before tried strings age failed again' in
    let own : l'.actor ≡ actor.Node v.node = ap (λ (x : OwnLog). x.actor) again.risen.log ∙ failed.actor in
    stands_risen l' v.node found up.0 r v' strings' stuck law own up.1 here (subst (λ (b : List ℕ). IsRecordOf b r) read is) core

-- what is found after a fall is a record
pub finds_record : (l l' : OwnLog) (v : Voter) (n : ℕ) (before : NodeRecord) (tried : List ℕ) (strings strings' : List (List ℕ)) (stuck : Bool) (age : Age) (found bytes : List ℕ) →
    n ≡ v.node → FailsToKeep l v before tried strings → IsRisenAgain l (actor.Node n) age l' → HasFound found l' strings' stuck → bytes ≡ found → (r : NodeRecord) × IsRecordOf bytes r
finds_record l l' v n before tried strings strings' stuck age found bytes number failed again here read =
    let again' : IsRisenAgain l (actor.Node v.node) age l' = subst (λ (k : ℕ). IsRisenAgain l (actor.Node k) age l') number again in
    let up = risen_with l l' v before tried strings age failed again' in
    let spelled : found ≡ node_record_of up.0 = here.kept ∙ ap kept_in up.1.part in
    (up.0, record { good = up.1.good; spelled = read ∙ spelled })

-- the first rising: the core that rises with what was found
pub rises : (l l' : OwnLog) (n : ℕ) (kept r : NodeRecord) (found bytes : List ℕ) (strings strings' : List (List ℕ)) (stuck : Bool) (v : Voter) → OneSpelling →
    IsReady l n kept strings → IsAdded l (event.Rise (actor.Node n) Old) effect.Up l' → HasFound found l' strings' stuck → bytes ≡ found → IsRecordOf bytes r → v ≡ risen n r →
    StandsIdle l' v strings' stuck
rises l l' n kept r found bytes strings strings' stuck v law ready added here read is core =
    let own : l'.actor ≡ actor.Node n = ap (λ (x : OwnLog). x.actor) added.log ∙ ready.unused.actor in
    stands_risen l' n found kept r v strings' stuck law own (first_up l l' n kept strings ready added) here (subst (λ (b : List ℕ). IsRecordOf b r) read is) core

-- a keep that failed, and then the node fell
pub fails_and_goes : (l m l' : OwnLog) (who : Actor) (strings : List (List ℕ)) (a b c : ℕ) → IsAdded l (event.Try who) effect.Tried m → falls_of m ≡ falls_of l → HasFailed 1 a b → GoesOn (falls_of m + 1) m l' strings b c → GoesOn (falls_of l) l l' strings a c
fails_and_goes l m l' who strings a b c tried same failed goes = record {
  opened = goes.opened ∙ ap as_opened tried.log;
  falls = failures_on _ _ _ _ _ _ (failures_rise _ _ _ _ same failed) goes.falls;
  own = goes.own;
}

-- what a keep comes to, tried, made or failed
pub ruleset keeping = (kept_opening, perhaps_opening, keeping_sends_nothing, trying_sends_nothing, tried_sends_nothing, failures_stay, failures_rise, failures_on, none_left, sent_before, memory_whole, silent_whole, whole_from, part_own, stands_own)

-- what a fall comes to, and the rising after it
pub ruleset restarting = (risen_opening, perhaps_opening, failures_stay, rising_leaves, failing_leaves, memory_whole, failing_whole, part_own)
