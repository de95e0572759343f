-- A later start of a life.
use Rattle.std.specs.Prelude.{ℕ}
use Rattle.sig_core.specs.declared.member.Member.{Member}
use Rattle.sig_core.specs.declared.slots.Slots.{Slots}
use Rattle.sig_core.specs.declared.view.View.{View}

-- The member that is made, the stamp of the shell's step that makes it, the view in which the shell stands behind the
-- step before, with which the member's hosts begin, and the slots on its disk, with its own rows, as they were read.
pub record Late : Type 0 where
  pub member : Member
  pub stamp : ℕ
  pub view : View
  pub slots : Slots
