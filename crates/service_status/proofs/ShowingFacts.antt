-- What is shown of a service.
use Rattle.std.proofs.Common.{◌≡◌, ℕ, List, inl, subst}
use Rattle.program_ends.specs.declared.ending.Ended.{Ended}
use Rattle.program_ends.specs.Endings.{Writers, Shows}
use Rattle.lock_model.specs.Ballots.{node_count}
use Rattle.service_folders.specs.Folders.{Opened}
use Rattle.service_status.specs.Showing.{SaysFolder, ShowsFolder, ShowsStatus}

pub shows_folder : (nodes clients : ℕ) (text shown : List ℕ) (w : Writers) (e : Ended) → SaysFolder nodes clients text → shown ≡ text → Shows shown w e → ShowsFolder nodes clients w e
shows_folder nodes clients text shown w e says is shows = inl (text, says, subst (λ (t : List ℕ). Shows t w e) is shows)

pub shows_status : (o : Opened) (nodes clients : ℕ) (w : Writers) (e : Ended) → nodes ≡ node_count o.says.ballots → clients ≡ o.says.clients → ShowsFolder nodes clients w e → ShowsStatus o w e
shows_status o nodes clients w e n c h = subst (λ (k : ℕ). ShowsFolder (node_count o.says.ballots) k w e) c (subst (λ (k : ℕ). ShowsFolder k clients w e) n h)
