-- A doomed transaction that isn't decided is decided by no step.
use Rattle.std.proofs.Common.{◌≡◌, ◌==◌, ◌∙◌, ℕ, Bool, true, false, List, [], ◌∷◌, ◌++◌, nat_lt, slice_get, refl, sym}
use Rattle.std.proofs.Common.{ap, subst}
use Rattle.std.specs.Map.{values_of}
use Rattle.std.specs.Prelude.{Option, None, Some, if◌then◌else◌}
use Rattle.indexmap.specs.IndexMap.{insert_entry}
use Rattle.run_theory.specs.Lists.{Each}
use Rattle.run_theory.proofs.Pasts.{each_after, each_append, each_before}
use Rattle.frag_map.specs.Layout.{Layout}
use Rattle.sig_core.specs.declared.member.TxId.{TxId}
use Rattle.sig_core.specs.declared.outcome.AbortCause.{AbortCause}
use Rattle.sig_core.specs.declared.signal.Body.{Body}
use Rattle.sig_core.specs.declared.signal.Body.TheVariants.{Client, Epoch, Host, Membership}
use Rattle.sig_core.specs.declared.signal.client.ClientSignal.TheVariants.{TcKeyReq, TcRollbackReq}
use Rattle.sig_core.specs.declared.signal.epoch.EpochSignal.TheVariants.{DiVerifyConf}
use Rattle.sig_core.specs.declared.signal.host.HostSignal.TheVariants.{Continue}
use Rattle.sig_core.specs.declared.signal.host.Work.TheVariants as work
use Rattle.sig_core.specs.declared.signal.membership.MembershipSignal.TheVariants.{FenceReq}
use Rattle.sig_core.specs.Same.{same_tx}
use Rattle.sig_core.proofs.TxLemmas.{same_tx-is}
use Rattle.tc_block.specs.Abort.{abort_if, aborted_for, aborts_awaited, replica_count}
use Rattle.tc_block.specs.declared.phase.Phase.{Phase}
use Rattle.tc_block.specs.declared.phase.Phase.TheVariants.{Open, Verifying, Committing, Completing, Aborting}
use Rattle.tc_block.specs.declared.task.Task.{Task}
use Rattle.tc_block.specs.declared.task.Verdict.{Verdict}
use Rattle.tc_block.specs.declared.task.Verdict.TheVariants.{Fail, AbortAnew, Redrive}
use Rattle.tc_block.specs.declared.transaction.Transaction.{Transaction}
use Rattle.tc_block.specs.Doom.{is_among}
use Rattle.tc_block.specs.Live.{place_in, turn_place, turn_value, turned, turned_if, without}
use Rattle.tc_block.specs.Operate.{fresh}
use Rattle.tc_block.specs.Phases.{is_decided}
use Rattle.tc_block.specs.Resume.{anew_if, aborted_anew, resume_by, resume_row, resume_step}
use Rattle.tc_block.specs.Sends.{entering}
use Rattle.tc_block.specs.State.{TcState}
use Rattle.tc_block.specs.Tc.{next_tx, tc_table}
use Rattle.tc_block.specs.Turn.{Turn, asking}
use Rattle.tc_block.proofs.EachTc.{tc_each}
use Rattle.tc_block.proofs.EachTurn.{TurnForms, rows_of}
use Rattle.tc_block.proofs.LiveSplit.{Live, Split, split_at}
use Rattle.tc_views.specs.Coordinator.{calm_row, calm_unless, coordinator_table, is_to_fail}
use Rattle.tc_views.specs.Laws.{DoomedAreNotDecided, IsNotDecided}
use Rattle.tc_views.specs.State.{CoordinatorState, within}
use Rattle.tc_views.specs.Views.{fence_row, resume_by as resumes, resume_if, resume_row as resumes_row}

-- its turn leaves a transaction that isn't decided so, if it is the one that is looked at
abbrev Leaves : TxId → TxId → Turn → Type 0
Leaves tx one turn = same_tx one tx ≡ true → is_decided turn.step.state.phase ≡ false

clash : (phase other : Phase) → phase ≡ other → is_decided phase ≡ false → is_decided other ≡ false
clash phase other at fine = ap is_decided (sym at) ∙ fine

module _ (tx : TxId) where
  abbrev One : TxId × Transaction → Type 0
  One e = IsNotDecided tx e

  abbrev AllFine : Live → Type 0
  AllFine live = Each (IsNotDecided tx) live

  -- no turn decides it but at an epoch
  forms : (node : ℕ) (layout : Layout) (one : TxId) (t : Transaction) (body : Body)
      → ((epoch : ℕ) → body ≡ Epoch (DiVerifyConf one epoch) → same_tx one tx ≡ false) → IsNotDecided tx (one, t)
      → TurnForms node layout one t body (λ turn. Leaves tx one turn)
  unfolding entering
  forms node layout one t body other fine = record {
    stays = fine;
    goes_on = λ at. fine;
    operates = λ op is can. fine;
    answers = λ key answer asked is on at. fine;
    late = λ key asked why verifying awaited on at. fine;
    waits = λ asked on. fine;
    decides = λ is ready same. refl;
    commits = λ epoch is at some same. absurd (let both : true ≡ false = sym same ∙ other epoch is in cc);
    commits_none = λ epoch is at.
        record {
          enters = λ some same. absurd (let both : true ≡ false = sym same ∙ other epoch is in cc);
          ends = λ none same. absurd (let both : true ≡ false = sym same ∙ other epoch is in cc);
        };
    committed = λ epoch awaited at more same. absurd (let both : true ≡ false = clash t.phase _ at (fine same) in cc);
    committed_all = λ epoch awaited at.
        record {
          enters = λ some same. absurd (let both : true ≡ false = clash t.phase _ at (fine same) in cc);
          ends = λ none. fine;
        };
    completed = λ epoch awaited at more same. absurd (let both : true ≡ false = clash t.phase _ at (fine same) in cc);
    completed_all = λ epoch awaited at last. fine;
    rolls_back = λ is undecided unaborted. record { enters = λ some same. refl; ends = λ none. fine };
    refuses = λ key why asked is on at. record { enters = λ some same. refl; ends = λ none. fine };
    aborted = λ why verifying awaited at more same. refl;
    aborted_all = λ why verifying awaited at last. fine;
  }

  -- a turn that leaves it so leaves all so
  turned_fine : (s : TcState) (one : TxId) (t : Transaction) (at : ℕ) → Split one t s.live at → (turn : Turn)
      → AllFine s.live → Leaves tx one turn → AllFine (turned s at turn).state.live
  unfolding without
  turned_fine s one t at split turn all leaves = by turn.over
    where
      whole : Each One (split.front ++ (one, t) ∷ split.back)
      whole = subst (Each One) split.is all

      front : Each One split.front
      front = each_before One split.front ((one, t) ∷ split.back) whole

      back : Each One split.back
      back = (each_after One split.front ((one, t) ∷ split.back) whole).1

      by : (b : Bool) → AllFine (turned_if s at turn b).state.live
      by true = subst (Each One) (sym split.gone) (each_append One split.front split.back front back)
      by false =
          subst (Each One) (sym (split.set turn.step.state))
          (each_append One split.front ((one, turn.step.state) ∷ split.back) front (leaves, back))

  own : (s : TcState) (one : TxId) (t : Transaction) (at : ℕ) → Split one t s.live at → AllFine s.live
      → IsNotDecided tx (one, t)
  own s one t at split all =
      (each_after (IsNotDecided tx) split.front ((one, t) ∷ split.back) (subst (Each (IsNotDecided tx)) split.is all)).0

  begun_fine : (live : Live) (one : TxId) → AllFine live → AllFine (insert_entry same_tx live one fresh)
  begun_fine [] one all = (λ same. refl, tt)
  begun_fine (e ∷ es) one all = by (same_tx one e.0) (begun_fine es one all.1)
    where
      by : (b : Bool) → AllFine (insert_entry same_tx es one fresh)
          → AllFine (if b then (e.0, fresh) ∷ es else e ∷ insert_entry same_tx es one fresh)
      by true more = (λ same. refl, all.1)
      by false more = (all.0, more)

  -- nor does a step within the view, but at its epoch
  calm_fine : (s : TcState) (body : Body)
      → ((one : TxId) (epoch : ℕ) → body ≡ Epoch (DiVerifyConf one epoch) → same_tx one tx ≡ false) → AllFine s.live
      → AllFine (tc_table s body).state.live
  calm_fine s body other all =
      tc_each (λ one t turn. Leaves tx one turn) (λ step. AllFine step.state.live) s body
      (record {
        turns = λ one t at split.
            rows_of s.node s.layout one t body (λ turn. Leaves tx one turn)
            (forms s.node s.layout one t body (other one) (own s one t at split all));
        turned = λ one t at split turn leaves. turned_fine s one t at split turn all leaves;
        stays = all;
        full = λ name. all;
        begins = λ name. begun_fine s.live (next_tx s) all;
        passes = λ one ahead. all;
      })

  -- nor does what an installation left to do
  resumed_leaves : (node : ℕ) (layout : Layout) (one : TxId) (t : Transaction) (number : ℕ) (verdict : Verdict)
      → IsNotDecided tx (one, t) → (phase : Phase) → t.phase ≡ phase
      → Leaves tx one (resume_by node layout one t number verdict phase)
  unfolding entering aborted_for aborted_anew
  resumed_leaves node layout one t number verdict fine phase at = by verdict phase at
    where
      failed : (cause : AbortCause) → Leaves tx one (aborted_for node layout one (asking t None) cause)
      failed cause = if_none (aborts_awaited layout (asking t None) == 0)
        where
          if_none : (b : Bool) → Leaves tx one (abort_if node layout one (asking t None) cause b)
          if_none true = fine
          if_none false = λ same. refl

      anew : (cause : AbortCause) (verifying : Bool)
          → Leaves tx one (aborted_anew node layout one (asking t None) cause verifying)
      anew cause verifying = if_none (replica_count layout t.touched == 0)
        where
          if_none : (b : Bool) → Leaves tx one (anew_if node layout one (asking t None) cause verifying b)
          if_none true = fine
          if_none false = λ same. refl

      by : (verdict : Verdict) (phase : Phase) → t.phase ≡ phase
          → Leaves tx one (resume_by node layout one t number verdict phase)
      by Fail Open is = failed _
      by Fail Verifying is = failed _
      by AbortAnew (Aborting cause verifying awaited) is = anew cause verifying
      by Redrive (Committing epoch awaited) is =
          λ same. absurd (let both : true ≡ false = clash t.phase _ is (fine same) in cc)
      by Redrive (Completing epoch awaited) is =
          λ same. absurd (let both : true ≡ false = clash t.phase _ is (fine same) in cc)
      by _ _ is = fine

  resumed_fine : (s : TcState) (task : Task) (number : ℕ) → AllFine s.live
      → AllFine (resume_step s task number).state.live
  unfolding resume_step resume_row
  resumed_fine s task number all = at_place (place_in s task.tx) refl
    where
      row : Transaction → Turn
      row t = resume_row s.node s.layout task.tx t task.verdict number

      at_value : (at : ℕ) → place_in s task.tx ≡ Some at → (t : Option Transaction)
          → slice_get (values_of s.live) at ≡ t → AllFine (turn_value s row at t).state.live
      at_value at here None there = all
      at_value at here (Some t) there =
          let split = split_at task.tx s.live at t here there in
          turned_fine s task.tx t at split (row t) all
          (resumed_leaves s.node s.layout task.tx t number task.verdict (own s task.tx t at split all) t.phase refl)

      at_place : (o : Option ℕ) → place_in s task.tx ≡ o → AllFine (turn_place s row o).state.live
      at_place None here = all
      at_place (Some at) here = at_value at here (slice_get (values_of s.live) at) refl

  abbrev Fine : CoordinatorState → Type 0
  Fine s = AllFine s.tc.live

  goes_on : (s : CoordinatorState) (number : ℕ) → Fine s → Fine (resumes_row s number).state
  unfolding resumes_row within
  goes_on s number fine = by (number == s.number)
    where
      first : (left : List Task) → Fine (resumes s left).state
      first [] = fine
      first (task ∷ left) = resumed_fine s.tc task s.number fine

      by : (b : Bool) → Fine (resume_if s b).state
      by true = first s.left
      by false = fine

  -- an epoch is given to another transaction
  apart : (doomed : List TxId) (one : TxId) → is_among doomed tx ≡ true → is_among doomed one ≡ false
      → same_tx one tx ≡ false
  apart doomed one is not = by (same_tx one tx) refl
    where
      by : (b : Bool) → same_tx one tx ≡ b → same_tx one tx ≡ false
      by true same =
          absurd (let both : true ≡ false = sym is ∙ ap (is_among doomed) (sym (same_tx-is one tx same)) ∙ not in cc)
      by false same = same

  within_fine : (s : CoordinatorState) (body : Body)
      → ((one : TxId) (epoch : ℕ) → body ≡ Epoch (DiVerifyConf one epoch) → same_tx one tx ≡ false) → Fine s
      → Fine (calm_row s body).state
  unfolding within
  within_fine s body other fine = calm_fine s.tc body other fine

  unless_fine : (s : CoordinatorState) (body : Body) (b : Bool)
      → ((one : TxId) (epoch : ℕ) → b ≡ false → body ≡ Epoch (DiVerifyConf one epoch) → same_tx one tx ≡ false) → Fine s
      → Fine (calm_unless s body b).state
  unless_fine s body true other fine = fine
  unless_fine s body false other fine = within_fine s body (λ one epoch is. other one epoch refl is) fine

  table_fine : (s : CoordinatorState) (number : ℕ) (body : Body) → is_among s.doomed tx ≡ true → Fine s
      → Fine (coordinator_table s number body).state
  unfolding fence_row
  table_fine s number (Membership (FenceReq proposal)) doomed fine = fine
  table_fine s number (Host (Continue work.Installation at)) doomed fine = goes_on s number fine
  table_fine s number (Host (Continue (work.Transaction one) at)) doomed fine =
      unless_fine s (Host (Continue (work.Transaction one) at)) (nat_lt number s.number)
      (λ other epoch off is. absurd cc) fine
  table_fine s number (Client (TcKeyReq one op)) doomed fine =
      unless_fine s (Client (TcKeyReq one op)) (is_to_fail s.left one) (λ other epoch off is. absurd cc) fine
  table_fine s number (Client (TcRollbackReq one)) doomed fine =
      unless_fine s (Client (TcRollbackReq one)) (is_to_fail s.left one) (λ other epoch off is. absurd cc) fine
  table_fine s number (Epoch (DiVerifyConf one epoch)) doomed fine =
      unless_fine s (Epoch (DiVerifyConf one epoch)) (is_among s.doomed one) named fine
    where
      named : (other : TxId) (e : ℕ) → is_among s.doomed one ≡ false
          → Epoch (DiVerifyConf one epoch) ≡ Epoch (DiVerifyConf other e)
          → same_tx other tx ≡ false
      named other e off is =
          let same : one ≡ other = cc in subst (λ it. same_tx it tx ≡ false) same (apart s.doomed one doomed off)
  table_fine s number body doomed fine = within_fine s body (λ other epoch is. absurd cc) fine

pub doomed_are_not_decided : DoomedAreNotDecided
doomed_are_not_decided s x tx doomed fine = table_fine tx s x.view.number x.body doomed fine
