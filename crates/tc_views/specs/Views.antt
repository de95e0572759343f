-- Fences, and installations of views.
use Rattle.std.specs.Prelude.{ℕ, if◌then◌else◌, ◌==◌, Bool, true, false, nat_lt, List, [], ◌∷◌}
use Rattle.sig_core.specs.declared.signal.Body.TheVariants.{Membership}
use Rattle.sig_core.specs.declared.signal.membership.MembershipSignal.TheVariants.{FenceConf}
use Rattle.sig_core.specs.declared.view.View.{View}
use Rattle.sig_core.specs.Place.{membership}
use Rattle.sig_core.specs.Step.{Step, joined, sends_only, sending, stay}
use Rattle.tc_block.specs.declared.task.Task.{Task}
use Rattle.tc_block.specs.Doom.{doomed_in}
use Rattle.tc_block.specs.Resume.{resume_step, tasks_in}
use Rattle.tc_block.specs.Tc.{in_view}
use Rattle.tc_views.specs.State.{CoordinatorState, go_on_with, within}

-- the greater of two
abbrev pub greater : ℕ → ℕ → ℕ
greater one other = if nat_lt one other then other else one

-- a view is promised: it dooms the transactions that can't go on in it
unfoldable pub fence_row : CoordinatorState → View → Step CoordinatorState
fence_row s proposal =
    sending
    (record s { fence = greater s.fence proposal.number; doomed = doomed_in proposal s.doomed s.tc.live })
    (membership s.tc.node) (Membership FenceConf)

-- nothing is done for the transactions while a later view is promised: its installation does it
abbrev pub tasks_if : CoordinatorState → Bool → List Task
tasks_if s true = []
tasks_if s false = tasks_in s.doomed s.tc.live

abbrev pub tasks_at : CoordinatorState → ℕ → List Task
tasks_at s number = tasks_if s (nat_lt number s.fence)

-- the coordinator in another view
abbrev pub entered : CoordinatorState → View → CoordinatorState
entered s view =
    record s {
      tc = in_view s.tc view;
      number = view.number;
      fence = greater s.fence view.number;
      left = tasks_at s view.number;
    }

-- a view is installed: each transaction is judged as it stands
unfoldable pub install_row : CoordinatorState → View → Step CoordinatorState
install_row s view =
    record {
      state = entered s view;
      effects = sends_only (go_on_with s.tc.node (tasks_at s view.number));
    }

-- and then it goes on with what is left
abbrev pub and_go_on : Step CoordinatorState → Step CoordinatorState
and_go_on step =
    record {
      state = step.state;
      effects = joined step.effects (sends_only (go_on_with step.state.tc.node step.state.left));
    }

-- the first thing that is left is done
abbrev pub resume_first : CoordinatorState → Task → Step CoordinatorState
resume_first s task = and_go_on (within s (resume_step s.tc task s.number))

abbrev pub resume_by : CoordinatorState → List Task → Step CoordinatorState
resume_by s [] = stay s
resume_by s (task ∷ left) = resume_first (record s { left = left }) task

abbrev pub resume_if : CoordinatorState → Bool → Step CoordinatorState
resume_if s true = resume_by s s.left
resume_if s false = stay s

-- it goes on with what the installation left to do, unless another view was installed since
unfoldable pub resume_row : CoordinatorState → ℕ → Step CoordinatorState
resume_row s number = resume_if s (number == s.number)
