-- What is said of a service.
use Rattle.std.proofs.Common.{◌≡◌, ◌↔◌, ◌∙◌, ◌++◌, List, ℕ, [], ap, subst}
use Rattle.std.specs.List.{flat_map, Contains}
use Rattle.std.specs.List.Sorted.{IsPermutation, IsSorted}
use Rattle.service_status.specs.declared.sights.SeenNode.{SeenNode}
use Rattle.service_status.specs.declared.sights.SeenClient.{SeenClient}
use Rattle.service_status.specs.declared.sights.Sight.{Sight}
use Rattle.service_status.specs.declared.claims.Claim.{Claim}
use Rattle.service_status.specs.Claims.{claims_of_node, claim_cmp, IsClaim}
use Rattle.service_status.specs.Texts.{all_lines, AreClaims, SaysSight}

-- `first` and `nodes` are the sight's nodes as two calls were given them
pub says : (s : Sight) (first nodes : List SeenNode) (clients : List SeenClient) (found claims : List Claim) (empty text : List ℕ)
    → first ≡ s.nodes.items → nodes ≡ s.nodes.items → clients ≡ s.clients.items → claims ≡ found → empty ≡ []
    → ((c : Claim) → Contains found c ↔ IsClaim first c) → IsPermutation (flat_map claims_of_node first) found → IsSorted claim_cmp found
    → text ≡ empty ++ all_lines nodes clients claims → SaysSight s text
says s first nodes clients found claims empty text a b d e z exact once order is =
    let are : AreClaims first found = record { exact = exact; once = once; order = order } in (
      found,
      subst (λ (l : List SeenNode). AreClaims l found) a are,
      is ∙ ap (λ (l : List ℕ). l ++ all_lines nodes clients claims) z ∙ ap (λ (l : List SeenNode). all_lines l clients claims) b
          ∙ ap (λ (l : List SeenClient). all_lines s.nodes.items l claims) d ∙ ap (λ (l : List Claim). all_lines s.nodes.items s.clients.items l) e,
    )
