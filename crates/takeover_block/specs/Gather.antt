-- Gathering, signal by signal: every member is asked, tells what it has, and ends.
use Rattle.std.specs.Prelude.{ℕ, ◌+◌, ◌-◌, ◌==◌, Bool, true, false, nat_lt, List, [], length, Option}
use Rattle.sig_core.specs.declared.member.TxId.{TxId}
use Rattle.sig_core.specs.declared.signal.takeover.RecordState.{RecordState}
use Rattle.sig_core.specs.declared.view.View.{View}
use Rattle.sig_core.specs.Step.{Step, stay}
use Rattle.takeover_block.specs.declared.stage.Stage.{Stage}
use Rattle.takeover_block.specs.declared.stage.Stage.TheVariants.{Gathering}
use Rattle.takeover_block.specs.Gathered.{noted, told_epoch}
use Rattle.takeover_block.specs.Rule.{is_left, ruling}
use Rattle.takeover_block.specs.Sends.{ask_effects, ask_left}
use Rattle.takeover_block.specs.State.{TakeoverState, at_stage, come_to, with_gathered, with_left}

-- how many members a view has
abbrev pub member_count : View → ℕ
member_count view = length view.full + length view.starting

-- the takeover with nothing gathered, and so many members that have still to end
abbrev pub asking : TakeoverState → ℕ → ℕ → TakeoverState
asking s awaited left = with_gathered (come_to s (Gathering awaited) left) []

abbrev pub order_if : TakeoverState → ℕ → Bool → Step TakeoverState
order_if s awaited true = ruling (asking s awaited 0)
order_if s awaited false = record {
  state = asking s awaited (ask_left s.layout.view 0);
  effects = ask_effects s.node s.layout.view 0;
}

-- a takeover is ordered: what was gathered is forgotten, and every member is asked
unfoldable pub order_row : TakeoverState → Step TakeoverState
order_row s = order_if s (member_count s.layout.view) (member_count s.layout.view == 0)

abbrev pub ask_by : TakeoverState → ℕ → Bool → Stage → Step TakeoverState
ask_by s at true (Gathering awaited) = record {
  state = with_left s (ask_left s.layout.view at);
  effects = ask_effects s.node s.layout.view at;
}
ask_by s at _ _ = stay s

-- the members that weren't asked yet are, from a place on
unfoldable pub ask_row : TakeoverState → ℕ → Step TakeoverState
ask_row s at = ask_by s at (is_left s at) s.stage

abbrev pub tell_by : TakeoverState → TxId → List ℕ → Option ℕ → Stage → Step TakeoverState
tell_by s tx key epoch (Gathering awaited) = stay (with_gathered s (noted s.gathered tx key epoch))
tell_by s tx key epoch _ = stay s

-- a member tells of a record or a marker
unfoldable pub tell_row : TakeoverState → TxId → List ℕ → RecordState → ℕ → Step TakeoverState
tell_row s tx key state epoch = tell_by s tx key (told_epoch state epoch) s.stage

abbrev pub end_if : TakeoverState → ℕ → Bool → Step TakeoverState
end_if s awaited true = stay (at_stage s (Gathering (awaited - 1)))
end_if s awaited false = ruling s

abbrev pub end_by : TakeoverState → Stage → Step TakeoverState
end_by s (Gathering awaited) = end_if s awaited (nat_lt 1 awaited)
end_by s _ = stay s

-- a member has told all, the last one or not
unfoldable pub end_row : TakeoverState → Step TakeoverState
end_row s = end_by s s.stage
