-- The room of a step's effects.
use Rattle.std.specs.Prelude.{ℕ, ◌≤◌}
use Rattle.sig_core.specs.declared.outs.TheConstants.{OUTS}

-- so many signals and marks, in these rooms: each room is for as many as a step makes at most, and there are never more
pub record IsRoomFor (sends sends_room marks marks_room : ℕ) : Type 0 where
  pub few_sends : sends ≤ OUTS
  pub few_marks : marks ≤ OUTS
  pub wide_sends : OUTS ≤ sends_room
  pub wide_marks : OUTS ≤ marks_room
