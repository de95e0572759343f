-- What holds of each turn of a coordinator's transactions, those among them that an installation left to do, and of
-- what it does beside them, holds of each of its steps under views; and so what holds of each form of signal.
use Rattle.std.proofs.Common.{◌≡◌, ◌==◌, ℕ, Bool, true, false, List, [], ◌∷◌, length, nat_lt, refl, subst, sym}
use Rattle.std.specs.Prelude.{Option, None, Some, slice_get}
use Rattle.std.specs.Map.{values_of}
use Rattle.run_theory.specs.Lists.{Each}
use Rattle.run_theory.proofs.Pasts.{each_append}
use Rattle.sig_core.specs.declared.mark.Mark.{Mark}
use Rattle.sig_core.specs.declared.member.TxId.{TxId}
use Rattle.sig_core.specs.declared.outs.Outgoing.{Outgoing}
use Rattle.sig_core.specs.declared.signal.Body.{Body}
use Rattle.sig_core.specs.declared.signal.Body.TheVariants.{Client, Epoch, Host, Membership}
use Rattle.sig_core.specs.declared.signal.Signal.{Signal}
use Rattle.sig_core.specs.declared.signal.client.ClientSignal.TheVariants.{TcBeginConf, TcBeginRef, TcKeyReq}
use Rattle.sig_core.specs.declared.signal.client.ClientSignal.TheVariants.{TcRollbackReq, TcWaitConf}
use Rattle.sig_core.specs.declared.signal.epoch.EpochSignal.TheVariants.{DiVerifyConf}
use Rattle.sig_core.specs.declared.signal.host.HostSignal.TheVariants.{Continue}
use Rattle.sig_core.specs.declared.signal.host.Work.TheVariants as work
use Rattle.sig_core.specs.declared.signal.membership.MembershipSignal.TheVariants.{FenceConf, FenceReq}
use Rattle.sig_core.specs.declared.view.View.{View}
use Rattle.sig_core.specs.Place.{client, coordinator, membership}
use Rattle.sig_core.specs.Portion.{go_on_at}
use Rattle.sig_core.specs.Step.{Step, joined, sending, sends_only, to_place}
use Rattle.frag_map.specs.Layout.{Layout}
use Rattle.step_forms.specs.Does.{Does, IsAmong, IsWord}
use Rattle.tc_block.specs.declared.task.Task.{Task}
use Rattle.tc_block.specs.declared.transaction.Transaction.{Transaction}
use Rattle.tc_block.specs.Doom.{is_among}
use Rattle.tc_block.specs.Live.{place_in, turn_place, turn_value, turned_if}
use Rattle.tc_block.specs.Resume.{resume_row, resume_step}
use Rattle.tc_block.specs.State.{TcState}
use Rattle.tc_block.specs.Tc.{next_tx}
use Rattle.tc_block.specs.Turn.{Turn}
use Rattle.tc_block.proofs.EachResume.{ResumeForms, resumes}
use Rattle.tc_block.proofs.EachTc.{TcForms, tc_each}
use Rattle.tc_block.proofs.EachTurn.{rows_at}
use Rattle.tc_block.proofs.LiveSplit.{Split, split_at}
use Rattle.tc_block.proofs.TurnSends.{DriveSends, SendsOnly, TurnSends, resume_sends, turn_sends}
use Rattle.tc_views.specs.Coordinator.{calm_row, calm_unless, coordinator_row, coordinator_table, is_to_fail}
use Rattle.tc_views.specs.State.{CoordinatorState, go_on_if, within}
use Rattle.tc_views.specs.Views.{fence_row, install_row, resume_by as tasks_by, resume_first, resume_if}
use Rattle.tc_views.specs.Views.{resume_row as tasks_row, tasks_at}
use Rattle.tc_views.specs.Words.{CoordinatorKeepsToItsWords, is_coordinator_mark, is_coordinator_word}

-- R is of each turn that a transaction of the coordinator may take at the signal, and S of the step that it makes; and
-- of the other steps of the coordinator within its view, and where it goes on behind one
pub record CoordinatorOutcomes (s : CoordinatorState) (body : Body) (R : TxId → Transaction → Turn → Type 0)
    (S : Step TcState → Type 0) : Type 0
  where
    pub calm : TcForms s.tc body R S
    pub resumes : (tx : TxId) (t : Transaction) (at : ℕ) → Split tx t s.tc.live at
        → ResumeForms s.tc.node s.tc.layout tx t (R tx t)
    pub promises : S (sending s.tc (membership s.tc.node) (Membership FenceConf))
    pub goes_on : (step : Step TcState) (node : ℕ) (b : Bool) → S step
        → S (record { state = step.state; effects = joined step.effects (sends_only (go_on_if node b)) })

-- a step under views, as one of the coordinator within its view
abbrev pub inner : Step CoordinatorState → Step TcState
inner step = record { state = step.state.tc; effects = step.effects }

module _ (R : TxId → Transaction → Turn → Type 0) (S : Step TcState → Type 0) (s : CoordinatorState) where
  resumed : (body : Body) → CoordinatorOutcomes s body R S → (task : Task) → S (resume_step s.tc task s.number)
  unfolding resume_step resume_row
  resumed body forms task = at_place (place_in s.tc task.tx) refl
    where
      row : Transaction → Turn
      row t = resume_row s.tc.node s.tc.layout task.tx t task.verdict s.number

      at_value : (at : ℕ) → place_in s.tc task.tx ≡ Some at → (t : Option Transaction)
          → slice_get (values_of s.tc.live) at ≡ t → S (turn_value s.tc row at t)
      at_value at here None there = forms.calm.stays
      at_value at here (Some t) there =
          let split = split_at task.tx s.tc.live at t here there in
          let own = forms.resumes task.tx t at split in
          forms.calm.turned task.tx t at split (row t)
          (resumes s.tc.node s.tc.layout task.tx t (R task.tx t) own s.number task.verdict t.phase refl)

      at_place : (o : Option ℕ) → place_in s.tc task.tx ≡ o → S (turn_place s.tc row o)
      at_place None here = forms.calm.stays
      at_place (Some at) here = at_value at here (slice_get (values_of s.tc.live) at) refl

  calm_each : (body : Body) → CoordinatorOutcomes s body R S → S (inner (calm_row s body))
  unfolding within
  calm_each body forms = tc_each R S s.tc body forms.calm

  unless_each : (body : Body) → CoordinatorOutcomes s body R S → (b : Bool) → S (inner (calm_unless s body b))
  unless_each body forms true = forms.calm.stays
  unless_each body forms false = calm_each body forms

  first_each : (body : Body) → CoordinatorOutcomes s body R S → (left : List Task) (task : Task)
      → S (inner (resume_first (record s { left = left }) task))
  unfolding within
  first_each body forms left task =
      forms.goes_on (resume_step s.tc task s.number) _ (nat_lt 0 (length left)) (resumed body forms task)

  left_each : (body : Body) → CoordinatorOutcomes s body R S → (left : List Task) → S (inner (tasks_by s left))
  left_each body forms [] = forms.calm.stays
  left_each body forms (task ∷ left) = first_each body forms left task

  tasks_each : (body : Body) → CoordinatorOutcomes s body R S → (number : ℕ) → S (inner (tasks_row s number))
  unfolding tasks_row
  tasks_each body forms number = by (number == s.number)
    where
      by : (b : Bool) → S (inner (resume_if s b))
      by true = left_each body forms s.left
      by false = forms.calm.stays

  table_each : (number : ℕ) (body : Body) → CoordinatorOutcomes s body R S → S (inner (coordinator_table s number body))
  unfolding fence_row
  table_each number (Membership (FenceReq proposal)) forms = forms.promises
  table_each number (Host (Continue work.Installation at)) forms =
      tasks_each (Host (Continue work.Installation at)) forms number
  table_each number (Host (Continue (work.Transaction tx) at)) forms =
      unless_each (Host (Continue (work.Transaction tx) at)) forms (nat_lt number s.number)
  table_each number (Epoch (DiVerifyConf tx epoch)) forms =
      unless_each (Epoch (DiVerifyConf tx epoch)) forms (is_among s.doomed tx)
  table_each number (Client (TcKeyReq tx op)) forms =
      unless_each (Client (TcKeyReq tx op)) forms (is_to_fail s.left tx)
  table_each number (Client (TcRollbackReq tx)) forms =
      unless_each (Client (TcRollbackReq tx)) forms (is_to_fail s.left tx)
  table_each number body forms = calm_each body forms

  -- whatever the coordinator takes
  pub coordinator_outcomes : (x : Signal) → CoordinatorOutcomes s x.body R S → S (inner (coordinator_row s x))
  coordinator_outcomes x forms = table_each x.view.number x.body forms

-- each form of what it sends: where a transaction takes a signal, where it does what an installation left to do, and
-- beside its transactions
pub record CoordinatorForms (s : CoordinatorState) (x : Signal) (P : Outgoing → Type 0) : Type 0 where
  pub turns : (tx : TxId) (t : Transaction) (at : ℕ) → Split tx t s.tc.live at
      → TurnSends s.tc.node s.tc.layout tx t x.body (λ turn sent. P sent)
  pub resumes : (tx : TxId) (t : Transaction) (at : ℕ) → Split tx t s.tc.live at
      → DriveSends s.tc.node s.tc.layout tx t x.body (λ turn sent. P sent)
  pub full : (name : Option ℕ) → P (to_place client (Client (TcBeginRef name)))
  pub begins : (name : Option ℕ) → P (to_place client (Client (TcBeginConf name (next_tx s.tc))))
  pub passes : (tx ahead : TxId) → P (to_place client (Client (TcWaitConf tx ahead)))
  pub promises : P (to_place (membership s.tc.node) (Membership FenceConf))
  pub goes_on : (node : ℕ) → P (go_on_at (coordinator node) work.Installation 0)

goes_on_each : (P : Outgoing → Type 0) (node : ℕ) → P (go_on_at (coordinator node) work.Installation 0) → (b : Bool)
    → Each P (go_on_if node b)
goes_on_each P node own true = (own, tt)
goes_on_each P node own false = tt

-- whatever it takes; and it marks nothing
pub coordinator_each : (s : CoordinatorState) (x : Signal) (P : Outgoing → Type 0) (M : Mark → Type 0)
    → CoordinatorForms s x P → Does P M (coordinator_row s x)
coordinator_each s x P M forms =
    coordinator_outcomes (λ tx t turn. SendsOnly (λ turn sent. P sent) turn) (λ step. Does P M step) s x (record {
      calm = record {
        turns = λ tx t at split.
            rows_at s.tc.node s.tc.layout tx t x.body (λ turn. SendsOnly (λ turn sent. P sent) turn)
            (turn_sends s.tc.node s.tc.layout tx t x.body (λ turn sent. P sent) (forms.turns tx t at split));
        turned = λ tx t at split turn own. turned at turn own turn.over;
        stays = (tt, tt);
        full = λ name. ((forms.full name, tt), tt);
        begins = λ name. ((forms.begins name, tt), tt);
        passes = λ tx ahead. ((forms.passes tx ahead, tt), tt);
      };
      resumes = λ tx t at split.
          resume_sends s.tc.node s.tc.layout tx t x.body (λ turn sent. P sent) (forms.resumes tx t at split);
      promises = ((forms.promises, tt), tt);
      goes_on = λ step node b so_far. (
        each_append P step.effects.sends (go_on_if node b) so_far.0 (goes_on_each P node (forms.goes_on node) b),
        each_append M step.effects.marks [] so_far.1 tt,
      );
    })
  where
    turned : (at : ℕ) (turn : Turn) → SendsOnly (λ turn sent. P sent) turn → (b : Bool)
        → Does P M (turned_if s.tc at turn b)
    turned at turn own true = (own.sends, subst (Each M) (sym own.unmarked) tt)
    turned at turn own false = (own.sends, subst (Each M) (sym own.unmarked) tt)

-- where a view is installed it goes on with what that left to do, and marks nothing
pub coordinator_installed_each : (s : CoordinatorState) (view : View) (P : Outgoing → Type 0) (M : Mark → Type 0)
    → P (go_on_at (coordinator s.tc.node) work.Installation 0) → Does P M (install_row s view)
unfolding install_row
coordinator_installed_each s view P M own =
    (goes_on_each P s.tc.node own (nat_lt 0 (length (tasks_at s view.number))), tt)

pub coordinator_words : CoordinatorKeepsToItsWords
coordinator_words = record {
  takes = λ s x. coordinator_each s x (IsWord is_coordinator_word) (IsAmong is_coordinator_mark) (record {
    turns = λ tx t at split. record {
      drives = drives s.tc.node s.tc.layout tx t x.body;
      operates = λ op is can. refl;
      answers = λ key answer asked is answers at. refl;
      waits = λ asked is on r. refl;
      decides = λ is ready. refl;
    };
    resumes = λ tx t at split. drives s.tc.node s.tc.layout tx t x.body;
    full = λ name. refl;
    begins = λ name. refl;
    passes = λ tx ahead. refl;
    promises = refl;
    goes_on = λ node. refl;
  });
  installs = λ s view.
      coordinator_installed_each s view (IsWord is_coordinator_word) (IsAmong is_coordinator_mark) refl;
}
  where
    drives : (node : ℕ) (layout : Layout) (tx : TxId) (t : Transaction) (body : Body)
        → DriveSends node layout tx t body (λ turn sent. IsWord is_coordinator_word sent)
    drives node layout tx t body = record {
      goes_on = λ turn left. refl;
      commits = λ turn epoch awaited has in_phase u there. refl;
      confirms = λ turn epoch has how. refl;
      completes = λ turn epoch awaited has in_phase u there written. refl;
      aborts = λ turn why verifying awaited is in_phase key r there. refl;
      leaves = λ turn over. refl;
      rolls_back = λ turn why is over. refl;
    }
