-- How a service is printed.
use Rattle.std.specs.Prelude.{◌≡◌, ◌==◌, ◌&&◌, ◌↔◌, ℕ, Bool, true, false, not, List, [], ◌∷◌, ◌++◌, Option, Some, None, find, if◌then◌else◌, codes}
use Rattle.std.specs.List.{flat_map, count_by, Contains}
use Rattle.std.specs.List.Sorted.{IsPermutation, IsSorted}
use Rattle.std.specs.Option.{option_map}
use Rattle.std.specs.Str.{bytes_eq}
use Rattle.std.specs.Fmt.{decimal}
use Rattle.lock_messages.specs.Texts.{node_text, client_text}
use Rattle.lock_model.specs.declared.entries.Entry.{Entry}
use Rattle.lock_model.specs.declared.entries.Live.{Live}
use Rattle.lock_model.specs.declared.problems.Problem.{Problem}
use Rattle.lock_model.specs.declared.problems.Problem.TheVariants as problem
use Rattle.lock_model.specs.ExactStations.{is_waiting}
use Rattle.file_plate.specs.declared.faults.FileFault.{FileFault}
use Rattle.file_plate.specs.declared.faults.FileFault.TheVariants as fault
use Rattle.service_status.specs.declared.sights.NodeState.{NodeState}
use Rattle.service_status.specs.declared.sights.NodeState.TheVariants as node
use Rattle.service_status.specs.declared.sights.SeenNode.{SeenNode}
use Rattle.service_status.specs.declared.sights.ClientState.{ClientState}
use Rattle.service_status.specs.declared.sights.ClientState.TheVariants as client
use Rattle.service_status.specs.declared.sights.SeenClient.{SeenClient}
use Rattle.service_status.specs.declared.sights.Sight.{Sight}
use Rattle.service_status.specs.declared.texts.Group.{Group}
use Rattle.service_status.specs.declared.texts.Group.TheVariants as group
use Rattle.service_status.specs.declared.claims.Standing.{Standing}
use Rattle.service_status.specs.declared.claims.Standing.TheVariants as standing
use Rattle.service_status.specs.declared.claims.Claim.{Claim}
use Rattle.service_status.specs.Claims.{claims_of_node, claim_cmp, IsClaim}

-- the faults of a record
abbrev pub fault_text : FileFault → List ℕ
fault_text fault.WrongSize = codes "fault 943: its record has the wrong size"
fault_text fault.NotFormatted = codes "fault 944: its file holds no record of it"
fault_text f = codes "fault 945: its record can't be read"

abbrev pub problem_text : Problem → List ℕ
problem_text problem.First = codes "1 (reader-first)"
problem_text problem.Second = codes "2 (writer-first)"

abbrev pub run_text : Bool → List ℕ
run_text true = codes "up"
run_text false = codes "down"

-- an entry has a live ticket, and the ticket waits or doesn't
abbrev pub stands : Bool → Option Live → Bool
stands waits None = false
stands waits (Some l) = if waits then is_waiting l.status else not (is_waiting l.status)

abbrev pub has_ticket : Bool → Entry → Bool
has_ticket waits e = stands waits e.live

-- `, 1 holding, 2 waiting`
abbrev pub counts_text : List Entry → List ℕ
counts_text entries = codes ", " ++ decimal (count_by (has_ticket false) entries) ++ codes " holding, " ++ decimal (count_by (has_ticket true) entries) ++ codes " waiting"

abbrev pub state_text : NodeState → List ℕ
state_text (node.Seen up r) = run_text up ++ codes ", problem " ++ problem_text r.problem ++ counts_text r.entries
state_text (node.Faulty f) = fault_text f
state_text node.Elsewhere = codes "elsewhere: its record is not in this folder"

-- `node n1: up, problem 1 (reader-first), 1 holding, 2 waiting`
abbrev pub node_line : SeenNode → List ℕ
node_line s = codes "node " ++ node_text s.node ++ codes ": " ++ state_text s.state ++ codes "\n"

-- `client c1: up, last attempt 12`. A client that is down has no line, and one that is elsewhere has none.
abbrev pub client_line_by : ℕ → ClientState → List ℕ
client_line_by c (client.Up attempt) = codes "client " ++ client_text c ++ codes ": up, last attempt " ++ decimal attempt ++ codes "\n"
client_line_by c (client.Faulty f) = codes "client " ++ client_text c ++ codes ": " ++ fault_text f ++ codes "\n"
client_line_by c client.Down = codes ""
client_line_by c client.Elsewhere = codes ""

abbrev pub client_line : SeenClient → List ℕ
client_line s = client_line_by s.client s.state

abbrev pub group_of : ClientState → Group
group_of (client.Up attempt) = group.Up
group_of client.Down = group.Down
group_of (client.Faulty f) = group.Faulty
group_of client.Elsewhere = group.Elsewhere

abbrev pub is_group : Group → Group → Bool
is_group group.Up group.Up = true
is_group group.Down group.Down = true
is_group group.Faulty group.Faulty = true
is_group group.Elsewhere group.Elsewhere = true
is_group g h = false

abbrev pub is_in : Group → SeenClient → Bool
is_in g s = is_group (group_of s.state) g

-- `clients: 3 up, 1021 down, 0 elsewhere, 0 with a fault`
abbrev pub groups_line : ℕ → ℕ → ℕ → ℕ → List ℕ
groups_line up down elsewhere faulty = codes "clients: " ++ decimal up ++ codes " up, " ++ decimal down ++ codes " down, " ++ decimal elsewhere ++ codes " elsewhere, " ++ decimal faulty ++ codes " with a fault\n"

abbrev pub groups_text : List SeenClient → List ℕ
groups_text clients = groups_line (count_by (is_in group.Up) clients) (count_by (is_in group.Down) clients) (count_by (is_in group.Elsewhere) clients) (count_by (is_in group.Faulty) clients)

abbrev pub clients_text : List SeenClient → List ℕ
clients_text clients = flat_map client_line clients ++ groups_text clients

-- how a client uses a resource
abbrev pub standing_text : Standing → List ℕ
standing_text standing.Writes = codes "write has the vote of"
standing_text standing.Reads = codes "read has the vote of"
standing_text standing.Downgraded = codes "read (downgraded) has the vote of"
standing_text standing.AwaitsWrite = codes "write waits for the vote of"
standing_text standing.AwaitsRead = codes "read waits for the vote of"

-- two claims differ in their nodes alone
abbrev pub is_same_line : Claim → Claim → Bool
is_same_line a b = bytes_eq a.resource b.resource && a.client == b.client && bytes_eq (standing_text a.standing) (standing_text b.standing)

-- the line of a resource comes before its first claim
abbrev pub resource_line : List ℕ → List ℕ
resource_line resource = codes "resource " ++ resource ++ codes "\n"

abbrev pub head_text : Option Claim → Claim → List ℕ
head_text None c = resource_line c.resource
head_text (Some b) c = if bytes_eq b.resource c.resource then codes "" else resource_line c.resource

-- `  c1 write has the vote of` comes before the first claim of a line
abbrev pub opening_text : Claim → List ℕ
opening_text c = codes "  " ++ client_text c.client ++ codes " " ++ standing_text c.standing

abbrev pub begin_text : Option Claim → Claim → List ℕ
begin_text None c = opening_text c
begin_text (Some b) c = if is_same_line b c then codes "" else opening_text c

-- what is seen of a client, if it is one of these
abbrev pub state_in : List SeenClient → ℕ → Option ClientState
state_in clients c = option_map (λ s. s.state) (find (λ s. s.client == c) clients)

-- the mark of a client that is down
abbrev pub mark_text : Option ClientState → List ℕ
mark_text (Some client.Down) = codes ", not running: rwvote reap frees it"
mark_text state = codes ""

abbrev pub closing_text : List SeenClient → Claim → List ℕ
closing_text clients c = mark_text (state_in clients c.client) ++ codes "\n"

abbrev pub end_text : List SeenClient → Claim → Option Claim → List ℕ
end_text clients c None = closing_text clients c
end_text clients c (Some a) = if is_same_line c a then codes "" else closing_text clients c

-- what is printed of a claim, between the one before it and the one behind it
abbrev pub piece_text : List SeenClient → Option Claim → Claim → Option Claim → List ℕ
piece_text clients before c after = head_text before c ++ begin_text before c ++ codes " " ++ node_text c.node ++ end_text clients c after

abbrev pub first_of : List Claim → Option Claim
first_of [] = None
first_of (c ∷ rest) = Some c

abbrev pub lines_from : List SeenClient → Option Claim → List Claim → List ℕ
lines_from clients before [] = []
lines_from clients before (c ∷ rest) = piece_text clients before c (first_of rest) ++ lines_from clients (Some c) rest

abbrev pub resources_text : List SeenClient → List Claim → List ℕ
resources_text clients [] = codes "no resource is held or waited for\n"
resources_text clients (c ∷ rest) = lines_from clients None (c ∷ rest)

abbrev pub all_lines : List SeenNode → List SeenClient → List Claim → List ℕ
all_lines nodes clients claims = flat_map node_line nodes ++ clients_text clients ++ resources_text clients claims

-- The claims are those that the records say, each as often as they say it, in order.
pub record AreClaims (nodes : List SeenNode) (claims : List Claim) : Type 0 where
  pub exact : (c : Claim) → Contains claims c ↔ IsClaim nodes c
  pub once : IsPermutation (flat_map claims_of_node nodes) claims
  pub order : IsSorted claim_cmp claims

-- What is said of a service: the lines of its nodes, of its clients, and of what the records claim.
abbrev pub SaysSight : Sight → List ℕ → Type 0
SaysSight s text = (claims : List Claim) × AreClaims s.nodes.items claims × (text ≡ all_lines s.nodes.items s.clients.items claims)
