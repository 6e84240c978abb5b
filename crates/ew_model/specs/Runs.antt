-- Runs: characters that follow one another and are alike.
use Rattle.std.specs.Prelude.{ℕ, nat_eq, nat_lt, Bool}
use Rattle.ew_model.specs.declared.node.Node.{Node}

-- A character in a run: its node, its prepared number (0 not inserted yet, 1 inserted, n + 1 deleted n times), and whether
-- it is in the text.
pub record NodeState : Type 0 where
  pub node : Node
  pub prepared : ℕ
  pub effect : Bool

-- it is inserted in what is prepared, deleted there or not
abbrev pub is_inserted_state : NodeState → Bool
is_inserted_state s = nat_lt 0 s.prepared

-- it is inserted in what is prepared and not deleted there
abbrev pub is_visible_state : NodeState → Bool
is_visible_state s = nat_eq s.prepared 1

-- it is in the text
abbrev pub has_effect : NodeState → Bool
has_effect s = s.effect
