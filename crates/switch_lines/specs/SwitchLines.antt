-- The line by which a node is asked to take a problem.
use Rattle.std.specs.Prelude.{ℕ, List, ◌∷◌, ◌++◌, take, codes}
use Rattle.hex.specs.Hex.{encode_lower}
use Rattle.lock_messages.specs.Texts.{node_text}
use Rattle.lock_model.specs.declared.problems.Problem.{Problem}
use Rattle.lock_model.specs.declared.problems.Problem.TheVariants.{First, Second}
use Rattle.frame_lines.specs.Hmac.{hmac_by}

-- what the node is asked
abbrev pub order_text : Problem → List ℕ
order_text First = codes "switch 1"
order_text Second = codes "switch 2"

-- The tagged bytes: the order, and the node that it is for. The tagged bytes of a frame begin with the name of an actor,
-- so these are never those of a frame.
abbrev pub switch_tagged : ℕ → Problem → List ℕ
switch_tagged n problem = order_text problem ++ 32 ∷ node_text n

-- the tag: the first 8 bytes of the keyed digest, as 16 digits
abbrev pub switch_tag : List ℕ → ℕ → Problem → List ℕ
switch_tag block n problem = encode_lower (take 8 (hmac_by block (switch_tagged n problem)))

-- The line that asks a node to take a problem, under the secret of this block, without its line feed. It has the node's
-- name, the order and the tag, with a space between any two.
abbrev pub switch_line : List ℕ → ℕ → Problem → List ℕ
switch_line block n problem = node_text n ++ 32 ∷ (order_text problem ++ 32 ∷ switch_tag block n problem)
