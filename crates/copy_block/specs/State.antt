-- The state of the copying.
use Rattle.std.specs.Prelude.{ℕ, List, []}
use Rattle.sig_core.specs.declared.view.View.{View}
use Rattle.frag_map.specs.Layout.{Layout}
use Rattle.frag_map.specs.Layout as layouts
use Rattle.copy_block.specs.declared.stage.Feed.{Feed}
use Rattle.copy_block.specs.declared.stage.Feed.TheVariants.{Idle}
use Rattle.copy_block.specs.declared.stage.Stage.{Stage}
use Rattle.copy_block.specs.declared.stage.Stage.TheVariants.{Resting}
use Rattle.copy_block.specs.declared.stage.Task.{Task}

-- The copying of a node: its node and layout; how far the joining has come that it drives, and the place from which the
-- list of its stage goes on, 0 where nothing is left of it; which row is on its way, and the fragments that are to be
-- copied behind that one, the oldest first.
pub record CopyState : Type 0 where
  pub node : ℕ
  pub layout : Layout
  pub stage : Stage
  pub left : ℕ
  pub feed : Feed
  pub queue : List Task

-- nothing is under way
abbrev pub resting : ℕ → Layout → CopyState
resting node layout =
    record { node = node; layout = layout; stage = Resting; left = 0; feed = Idle; queue = [] }

-- the joining comes to a stage, of whose list this place is left
abbrev pub come_to : CopyState → Stage → ℕ → CopyState
come_to s stage left =
    record s { stage = stage; left = left }

abbrev pub with_left : CopyState → ℕ → CopyState
with_left s left =
    record s { left = left }

abbrev pub with_feed : CopyState → Feed → CopyState
with_feed s feed =
    record s { feed = feed }

abbrev pub with_queue : CopyState → List Task → CopyState
with_queue s queue =
    record s { queue = queue }

-- another view is installed: what was under way ends, and is forgotten
abbrev pub in_view : CopyState → View → CopyState
in_view s view = resting s.node (layouts.in_view s.layout view)
