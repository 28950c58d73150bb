-- What is seen by what was read.
use Rattle.std.proofs.Common.{◌≡◌, inl, inr, ℕ, Bool, Option, Some, None, sym, subst, refl}
use Rattle.std.specs.Prelude.{Result, Ok, Err, IfOk, IfErr, IfSome}
use Rattle.stable_record.specs.declared.node_records.NodeRecord.{NodeRecord}
use Rattle.file_plate.specs.declared.faults.FileFault.{FileFault}
use Rattle.service_status.specs.declared.sights.NodeState.{NodeState}
use Rattle.service_status.specs.declared.sights.ClientState.{ClientState}
use Rattle.service_status.specs.Sights.{HoldsNode, HoldsClient, IsOfFile, IsNodeState, IsClientState, node_state_of, client_state_of}

-- a state is one that may be seen, if there is one
abbrev IfNode : Option NodeState → Type 0
IfNode s = IfSome s IsNodeState

abbrev IfClient : Option ClientState → Type 0
IfClient s = IfSome s IsClientState

node_fault : (f : FileFault) → IsOfFile f → IfNode (node_state_of (Err f))
node_fault f (inl e) = subst (λ (x : FileFault). IfNode (node_state_of (Err x))) (sym e) tt
node_fault f (inr (inl e)) = subst (λ (x : FileFault). IfNode (node_state_of (Err x))) (sym e) tt
node_fault f (inr (inr (inl e))) = subst (λ (x : FileFault). IfNode (node_state_of (Err x))) (sym e) (inl refl)
node_fault f (inr (inr (inr (inl e)))) = subst (λ (x : FileFault). IfNode (node_state_of (Err x))) (sym e) (inr (inl refl))
node_fault f (inr (inr (inr (inr e)))) = subst (λ (x : FileFault). IfNode (node_state_of (Err x))) (sym e) (inr (inr refl))

client_fault : (f : FileFault) → IsOfFile f → IfClient (client_state_of (Err f))
client_fault f (inl e) = subst (λ (x : FileFault). IfClient (client_state_of (Err x))) (sym e) tt
client_fault f (inr (inl e)) = subst (λ (x : FileFault). IfClient (client_state_of (Err x))) (sym e) tt
client_fault f (inr (inr (inl e))) = subst (λ (x : FileFault). IfClient (client_state_of (Err x))) (sym e) (inl refl)
client_fault f (inr (inr (inr (inl e)))) = subst (λ (x : FileFault). IfClient (client_state_of (Err x))) (sym e) (inr (inl refl))
client_fault f (inr (inr (inr (inr e)))) = subst (λ (x : FileFault). IfClient (client_state_of (Err x))) (sym e) (inr (inr refl))

node_seen : (read : Result (Bool × NodeRecord) FileFault) → IfOk read (λ seen. HoldsNode seen.1) → IfErr read IsOfFile → IfNode (node_state_of read)
node_seen (Ok seen) h g = h
node_seen (Err f) h g = node_fault f g

client_seen : (read : Result (Option ℕ) FileFault) → IfOk read (λ seen. IfSome seen HoldsClient) → IfErr read IsOfFile → IfClient (client_state_of read)
client_seen (Ok (Some attempt)) h g = h
client_seen (Ok None) h g = tt
client_seen (Err f) h g = client_fault f g

pub node_state_is : (read : Result (Bool × NodeRecord) FileFault) (state : NodeState) → IfOk read (λ seen. HoldsNode seen.1) → IfErr read IsOfFile → Some state ≡ node_state_of read → IsNodeState state
node_state_is read state h g is = subst IfNode (sym is) (node_seen read h g)

pub client_state_is : (read : Result (Option ℕ) FileFault) (state : ClientState) → IfOk read (λ seen. IfSome seen HoldsClient) → IfErr read IsOfFile → Some state ≡ client_state_of read → IsClientState state
client_state_is read state h g is = subst IfClient (sym is) (client_seen read h g)
