-- The state of a takeover.
use Rattle.std.specs.Prelude.{ℕ, List, []}
use Rattle.sig_core.specs.declared.view.View.{View}
use Rattle.frag_map.specs.Layout.{Layout}
use Rattle.frag_map.specs.Layout as layouts
use Rattle.takeover_block.specs.declared.gathered.Gathered.{Gathered}
use Rattle.takeover_block.specs.declared.stage.Stage.{Stage}
use Rattle.takeover_block.specs.declared.stage.Stage.TheVariants.{Resting}

-- a takeover: its node and layout, how far it has come, the place from which the list of its stage goes on, 0 where
-- nothing is left of it, and the transactions that were gathered and aren't done with, in order of TxId. While it is at
-- work, the first of them is the one that it is at
pub record TakeoverState : Type 0 where
  pub node : ℕ
  pub layout : Layout
  pub stage : Stage
  pub left : ℕ
  pub gathered : List Gathered

-- nothing is under way
abbrev pub resting : ℕ → Layout → TakeoverState
resting node layout = record { node = node; layout = layout; stage = Resting; left = 0; gathered = [] }

-- the same stage, where a count has changed
abbrev pub at_stage : TakeoverState → Stage → TakeoverState
at_stage s stage = record { node = s.node; layout = s.layout; stage = stage; left = s.left; gathered = s.gathered }

-- a stage begins, of whose list this place is left
abbrev pub come_to : TakeoverState → Stage → ℕ → TakeoverState
come_to s stage left = record { node = s.node; layout = s.layout; stage = stage; left = left; gathered = s.gathered }

abbrev pub with_left : TakeoverState → ℕ → TakeoverState
with_left s left = record { node = s.node; layout = s.layout; stage = s.stage; left = left; gathered = s.gathered }

abbrev pub with_gathered : TakeoverState → List Gathered → TakeoverState
with_gathered s gathered = record {
  node = s.node;
  layout = s.layout;
  stage = s.stage;
  left = s.left;
  gathered = gathered;
}

-- another view is installed: what was under way ends, and what was gathered is forgotten
abbrev pub in_view : TakeoverState → View → TakeoverState
in_view s view = resting s.node (layouts.in_view s.layout view)
