-- What a coordinator sends, whatever it takes and whatever view is installed.
use Rattle.std.proofs.Common.{◌≡◌, ◌⊎◌, ◌==◌, ℕ, Bool, true, false, List, [], ◌∷◌, nat_lt, length, refl, inl, inr}
use Rattle.run_theory.proofs.Pasts.{each_append}
use Rattle.sig_core.specs.declared.outs.Outgoing.{Outgoing}
use Rattle.sig_core.specs.declared.signal.Body.{Body}
use Rattle.sig_core.specs.declared.signal.Body.TheVariants.{Client, Epoch, Host, Membership}
use Rattle.sig_core.specs.declared.signal.Signal.{Signal}
use Rattle.sig_core.specs.declared.signal.client.ClientSignal.TheVariants.{TcKeyReq, TcRollbackReq}
use Rattle.sig_core.specs.declared.signal.epoch.EpochSignal.TheVariants.{DiVerifyConf}
use Rattle.sig_core.specs.declared.signal.host.HostSignal.TheVariants.{Continue}
use Rattle.sig_core.specs.declared.signal.host.Work.TheVariants.{Installation, Transaction}
use Rattle.sig_core.specs.declared.signal.membership.MembershipSignal.TheVariants.{FenceReq}
use Rattle.sig_core.specs.declared.view.View.{View}
use Rattle.tc_block.specs.declared.task.Task.{Task}
use Rattle.tc_block.specs.Doom.{is_among}
use Rattle.tc_block.specs.Resume.{resume_step}
use Rattle.tc_views.specs.Coordinator.{calm_row, calm_unless, coordinator_row, coordinator_table, is_to_fail}
use Rattle.tc_views.specs.State.{CoordinatorState, go_on_if, within}
use Rattle.tc_views.specs.Views.{fence_row, install_row, resume_by, resume_first, resume_if, resume_row, tasks_at}
use Rattle.view_laws.proofs.words.Turns.{is_of_coordinator, resume_kinds, tc_kinds}
use Rattle.view_laws.proofs.votes.NoVotes.{confirmation, is_fencing}
use Rattle.view_laws.proofs.words.Sent.{AreOf, IsOf, SendsOf}

-- of its kinds, or it confirms its fence, where it is asked to
abbrev pub AreOfCoordinator : ℕ → Body → List Outgoing → Type 0
AreOfCoordinator node body sends =
    AreOf is_of_coordinator sends ⊎ ((is_fencing body ≡ true) × (sends ≡ confirmation node ∷ []))

more_kinds : (node : ℕ) (b : Bool) → AreOf is_of_coordinator (go_on_if node b)
more_kinds node true = (refl, tt)
more_kinds node false = tt

calm_kinds : (s : CoordinatorState) (body : Body) → SendsOf is_of_coordinator (calm_row s body)
unfolding within
calm_kinds s body = tc_kinds s.tc body

unless_kinds : (s : CoordinatorState) (body : Body) (b : Bool) → SendsOf is_of_coordinator (calm_unless s body b)
unless_kinds s body true = tt
unless_kinds s body false = calm_kinds s body

first_kinds : (s : CoordinatorState) (task : Task) → SendsOf is_of_coordinator (resume_first s task)
unfolding within
first_kinds s task =
    each_append (IsOf is_of_coordinator) (resume_step s.tc task s.number).effects.sends _
    (resume_kinds s.tc task s.number) (more_kinds _ _)

left_kinds : (s : CoordinatorState) (left : List Task) → SendsOf is_of_coordinator (resume_by s left)
left_kinds s [] = tt
left_kinds s (task ∷ left) = first_kinds (record s { left = left }) task

resumes_kinds : (s : CoordinatorState) (number : ℕ) → SendsOf is_of_coordinator (resume_row s number)
unfolding resume_row
resumes_kinds s number = by (number == s.number)
  where
    by : (b : Bool) → SendsOf is_of_coordinator (resume_if s b)
    by true = left_kinds s s.left
    by false = tt

table_kinds : (s : CoordinatorState) (number : ℕ) (body : Body)
    → AreOfCoordinator s.tc.node body (coordinator_table s number body).effects.sends
unfolding fence_row
table_kinds s number (Membership (FenceReq proposal)) = inr (refl, refl)
table_kinds s number (Host (Continue Installation at)) = inl (resumes_kinds s number)
table_kinds s number (Host (Continue (Transaction tx) at)) =
    inl (unless_kinds s (Host (Continue (Transaction tx) at)) (nat_lt number s.number))
table_kinds s number (Epoch (DiVerifyConf tx epoch)) =
    inl (unless_kinds s (Epoch (DiVerifyConf tx epoch)) (is_among s.doomed tx))
table_kinds s number (Client (TcKeyReq tx op)) =
    inl (unless_kinds s (Client (TcKeyReq tx op)) (is_to_fail s.left tx))
table_kinds s number (Client (TcRollbackReq tx)) =
    inl (unless_kinds s (Client (TcRollbackReq tx)) (is_to_fail s.left tx))
table_kinds s number body = inl (calm_kinds s body)

pub coordinator_kinds : (s : CoordinatorState) (x : Signal)
    → AreOfCoordinator s.tc.node x.body (coordinator_row s x).effects.sends
coordinator_kinds s x = table_kinds s x.view.number x.body

pub coordinator_installs_kinds : (s : CoordinatorState) (view : View) → SendsOf is_of_coordinator (install_row s view)
unfolding install_row
coordinator_installs_kinds s view = more_kinds s.tc.node (nat_lt 0 (length (tasks_at s view.number)))
