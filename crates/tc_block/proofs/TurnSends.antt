-- What holds of each form of signal that a transaction sends at its coordinator holds of all that its turns send.
use Rattle.std.proofs.Common.{◌≡◌, ℕ, Bool, true, false, List, [], refl, sym, subst, nat_lt}
use Rattle.std.specs.Prelude.{None, Some}
use Rattle.std.specs.List.{flat_map}
use Rattle.run_theory.specs.Lists.{Each, IsIn}
use Rattle.run_theory.proofs.EachSent.{each_mapped}
use Rattle.run_theory.proofs.Pasts.{each_append}
use Rattle.sig_core.specs.declared.member.Member.{Member}
use Rattle.sig_core.specs.declared.member.TxId.{TxId}
use Rattle.sig_core.specs.declared.op.Answer.{Answer}
use Rattle.sig_core.specs.declared.op.Op.{Op}
use Rattle.sig_core.specs.declared.outcome.AbortCause.{AbortCause}
use Rattle.sig_core.specs.declared.outcome.AbortCause.TheVariants as cause
use Rattle.sig_core.specs.declared.outs.Outgoing.{Outgoing}
use Rattle.sig_core.specs.declared.signal.Body.{Body}
use Rattle.sig_core.specs.declared.signal.Body.TheVariants.{Host, Client, Chain, Epoch}
use Rattle.sig_core.specs.declared.signal.chain.ChainSignal.TheVariants.{LqhKeyConf, LqhKeyRef, LqhKeyReq}
use Rattle.sig_core.specs.declared.signal.chain.RowWork.TheVariants.{Operate}
use Rattle.sig_core.specs.declared.signal.client.ClientSignal.TheVariants.{TcKeyReq, TcKeyConf, TcCommitReq, TcWaitReq}
use Rattle.sig_core.specs.declared.signal.epoch.EpochSignal.TheVariants.{DiVerifyConf, DiVerifyReq}
use Rattle.sig_core.specs.declared.signal.host.HostSignal.TheVariants.{Continue}
use Rattle.sig_core.specs.declared.signal.host.Work.TheVariants as work
use Rattle.sig_core.specs.Chain.{node_at}
use Rattle.sig_core.specs.Op.{key_of}
use Rattle.sig_core.specs.Place.{client, coordinator, epochs, rows_of}
use Rattle.sig_core.specs.Portion.{go_on_at}
use Rattle.sig_core.specs.Step.{sending, sends_only, to_place}
use Rattle.step_forms.proofs.ListLemmas.{flat_in, mapped_in}
use Rattle.step_forms.proofs.PortionLemmas.{portion_each}
use Rattle.frag_map.specs.Layout.{Layout, chain_of}
use Rattle.tc_block.specs.Abort.{abort_end, is_verifying, rolled_back}
use Rattle.tc_block.specs.Commit.{verify_if}
use Rattle.tc_block.specs.declared.phase.Asked.{Asked}
use Rattle.tc_block.specs.declared.phase.Phase.{Phase}
use Rattle.tc_block.specs.declared.phase.Phase.TheVariants.{Open, Verifying, Committing, Completing, Aborting}
use Rattle.tc_block.specs.declared.task.Verdict.{Verdict}
use Rattle.tc_block.specs.declared.touched.Touched.{Touched}
use Rattle.tc_block.specs.declared.transaction.Transaction.{Transaction}
use Rattle.tc_block.specs.Operate as operate
use Rattle.tc_block.specs.Part.{part_effects}
use Rattle.tc_block.specs.Resume.{anew_if, resume_row}
use Rattle.tc_block.specs.Sends.{abort_of, commit_of, complete_if, complete_of, entering, front_sends, go_on_if}
use Rattle.tc_block.specs.Sends.{key_sends, phase_sends, reported, verify_end, wait_of}
use Rattle.tc_block.specs.Turn.{Turn, asking, ending, going}
use Rattle.tc_block.proofs.EachResume.{ResumeForms, resumes}
use Rattle.tc_block.proofs.EachTurn.{AbortForms, CommittedForms, IsAnswered, TurnFormsAt, rows_at}
use Rattle.tc_block.proofs.TurnRows.{turn_for, turn_with, tx_in}

-- the transaction is in the phase as it takes a turn, or behind it
pub data InPhase (t : Transaction) (turn : Turn) (phase : Phase) : Type 0 where
  is_before : t.phase ≡ phase → InPhase t turn phase
  is_behind : turn.over ≡ false → turn.step.state.phase ≡ phase → InPhase t turn phase

-- it knows its epoch, or is given it by the signal
pub data HasEpoch (tx : TxId) (t : Transaction) (body : Body) (epoch : ℕ) : Type 0 where
  commits_in : (awaited : ℕ) → t.phase ≡ Committing epoch awaited → HasEpoch tx t body epoch
  completes_in : (awaited : ℕ) → t.phase ≡ Completing epoch awaited → HasEpoch tx t body epoch
  is_given : body ≡ Epoch (DiVerifyConf tx epoch) → t.phase ≡ Verifying → HasEpoch tx t body epoch

-- why it is given up: it was already, its client wishes it, an operation is refused, or nodes failed
pub data IsGivenUp (tx : TxId) (t : Transaction) (body : Body) : AbortCause → Type 0 where
  is_so : (why : AbortCause) (verifying : Bool) (awaited : ℕ) → t.phase ≡ Aborting why verifying awaited
      → IsGivenUp tx t body why
  is_wished : IsGivenUp tx t body cause.Request
  is_refused : (key : List ℕ) (why : AbortCause) → body ≡ Chain (LqhKeyRef tx key why) → IsGivenUp tx t body why
  is_failed : (number : ℕ) → IsGivenUp tx t body (cause.NodeFail number)

-- its client is told of the commit as it comes to complete its keys, or where it ends
pub data IsConfirmed (t : Transaction) (turn : Turn) (epoch : ℕ) : Type 0 where
  at_completion : (awaited : ℕ) → InPhase t turn (Completing epoch awaited) → IsConfirmed t turn epoch
  at_end : turn.over ≡ true → IsConfirmed t turn epoch

-- What a transaction sends along its keys in its phase, and as it ends, whether by a signal or by what an installation
-- left to do: P is of the turn and of the signal that it sends.
pub record DriveSends (node : ℕ) (layout : Layout) (tx : TxId) (t : Transaction) (body : Body)
    (P : Turn → Outgoing → Type 0) : Type 0 where
  pub goes_on : (turn : Turn) (left : ℕ) → P turn (go_on_at (coordinator node) (work.Transaction tx) left)
  pub commits : (turn : Turn) (epoch awaited : ℕ) → HasEpoch tx t body epoch
      → InPhase t turn (Committing epoch awaited) → (u : Touched) → IsIn u turn.step.state.touched
      → P turn (commit_of tx epoch u)
  pub confirms : (turn : Turn) (epoch : ℕ) → HasEpoch tx t body epoch → IsConfirmed t turn epoch
      → P turn (reported tx epoch)
  pub completes : (turn : Turn) (epoch awaited : ℕ) → HasEpoch tx t body epoch
      → InPhase t turn (Completing epoch awaited) → (u : Touched) → IsIn u turn.step.state.touched
      → u.written ≡ true → P turn (complete_of tx u)
  pub aborts : (turn : Turn) (why : AbortCause) (verifying : Bool) (awaited : ℕ) → IsGivenUp tx t body why
      → InPhase t turn (Aborting why verifying awaited) → (key : List ℕ) (r : Member) → IsIn r (chain_of layout key)
      → P turn (abort_of tx key r)
  pub leaves : (turn : Turn) → turn.over ≡ true → P turn (verify_end node tx)
  pub rolls_back : (turn : Turn) (why : AbortCause) → IsGivenUp tx t body why → turn.over ≡ true
      → P turn (rolled_back tx why)

-- and what it sends where it takes a signal
pub record TurnSends (node : ℕ) (layout : Layout) (tx : TxId) (t : Transaction) (body : Body)
    (P : Turn → Outgoing → Type 0) : Type 0 where
  pub drives : DriveSends node layout tx t body P
  pub operates : (op : Op) → body ≡ Client (TcKeyReq tx op) → operate.can_operate t op ≡ true
      → P (going (operate.operating tx t op (chain_of layout (key_of op))))
      (to_place (rows_of (node_at (chain_of layout (key_of op)) 0))
      (Chain (LqhKeyReq tx (Operate op) (chain_of layout (key_of op)) 0)))
  pub answers : (key : List ℕ) (answer : Answer) (asked : Asked) → body ≡ Chain (LqhKeyConf tx key answer)
      → IsAnswered t key asked → t.phase ≡ Open
      → P (going (sending (operate.answered t asked answer) client (Client (TcKeyConf tx answer))))
      (to_place client (Client (TcKeyConf tx answer)))
  pub waits : (asked : Asked) → body ≡ Client (TcWaitReq tx) → t.asked ≡ Some asked → (r : Member)
      → P (going (operate.wait_by tx t (Some asked))) (wait_of tx (key_of asked.op) r)
  pub decides : body ≡ Client (TcCommitReq tx) → operate.is_ready t.phase t.asked ≡ true
      → P (going (verify_if node tx t true)) (to_place (epochs node) (Epoch (DiVerifyReq tx t.ops)))

-- a turn sends only such signals, and marks nothing
pub record SendsOnly (P : Turn → Outgoing → Type 0) (turn : Turn) : Type 0 where
  pub sends : Each (P turn) turn.step.effects.sends
  pub unmarked : turn.step.effects.marks ≡ []

module _ (node : ℕ) (layout : Layout) (tx : TxId) (t : Transaction) (body : Body) (P : Turn → Outgoing → Type 0)
    (drives : DriveSends node layout tx t body P)
  where
    abbrev R : Turn → Type 0
    R turn = SendsOnly P turn

    -- the phase tells how it came to be: it has the epoch, or is given up
    abbrev pub Comes : Phase → Type 0
    Comes (Committing epoch awaited) = HasEpoch tx t body epoch
    Comes (Completing epoch awaited) = HasEpoch tx t body epoch
    Comes (Aborting why verifying awaited) = IsGivenUp tx t body why
    Comes _ = Unit {0}

    -- what is sent of a list in a phase
    module _ (turn : Turn) (phase : Phase) (in_phase : InPhase t turn phase) (comes : Comes phase) where
      front_each : (p : Phase) → phase ≡ p → Each (P turn) (front_sends tx p)
      unfolding front_sends
      front_each Open is = tt
      front_each Verifying is = tt
      front_each (Committing epoch awaited) is = tt
      front_each (Completing epoch awaited) is = (
        drives.confirms turn epoch (subst Comes is comes)
            (at_completion awaited (subst (InPhase t turn) is in_phase)),
        tt,
      )
      front_each (Aborting why verifying awaited) is = tt

      key_each : (p : Phase) → phase ≡ p → (u : Touched) → IsIn u turn.step.state.touched
          → Each (P turn) (key_sends layout tx p u)
      unfolding key_sends
      key_each Open is u there = tt
      key_each Verifying is u there = tt
      key_each (Committing epoch awaited) is u there =
          (drives.commits turn epoch awaited (subst Comes is comes) (subst (InPhase t turn) is in_phase) u there, tt)
      key_each (Completing epoch awaited) is u there = by u.written refl
        where
          by : (b : Bool) → u.written ≡ b → Each (P turn) (complete_if tx u b)
          by true written = (
            drives.completes turn epoch awaited (subst Comes is comes) (subst (InPhase t turn) is in_phase) u there
                written,
            tt,
          )
          by false unwritten = tt
      key_each (Aborting why verifying awaited) is u there =
          mapped_in (P turn) (abort_of tx u.key) (chain_of layout u.key)
          (drives.aborts turn why verifying awaited (subst Comes is comes) (subst (InPhase t turn) is in_phase) u.key)

      phase_each : (at : ℕ) → Each (P turn)
          (part_effects node tx (phase_sends layout tx phase turn.step.state.touched) at).sends
      unfolding part_effects phase_sends
      phase_each at =
          portion_each (P turn) (coordinator node) (work.Transaction tx)
          (phase_sends layout tx phase turn.step.state.touched) at (drives.goes_on turn)
          (each_append (P turn) (front_sends tx phase)
          (flat_map (key_sends layout tx phase) turn.step.state.touched) (front_each phase refl)
          (flat_in (P turn) (key_sends layout tx phase) turn.step.state.touched (key_each phase refl)))

    enters : (u : Transaction) (phase : Phase) → Comes phase → R (going (entering node layout tx u phase))
    unfolding entering part_effects
    enters u phase comes = record {
      sends = phase_each (going (entering node layout tx u phase)) phase (is_behind refl refl) comes 0;
      unmarked = refl;
    }

    -- it ends: it was aborted, or had written nothing
    gives_up : (u : Transaction) (why : AbortCause) → IsGivenUp tx t body why → (b : Bool)
        → R (ending u (sends_only (abort_end node tx why b)))
    gives_up u why is true =
        record { sends = (drives.leaves _ refl, (drives.rolls_back _ why is refl, tt)); unmarked = refl }
    gives_up u why is false = record { sends = (drives.rolls_back _ why is refl, tt); unmarked = refl }

    abort_sends : (u : Transaction) (why : AbortCause) → IsGivenUp tx t body why → AbortForms node layout tx u why R
    abort_sends u why is = record {
      enters = λ some. enters u _ is;
      ends = λ none. gives_up u why is (is_verifying u.phase);
    }

    committed_sends : (epoch : ℕ) → HasEpoch tx t body epoch → CommittedForms node layout tx t epoch R
    committed_sends epoch has = record {
      enters = λ some. enters t _ has;
      ends = λ none. record {
        sends = (drives.confirms _ epoch has (at_end refl), (drives.leaves _ refl, tt));
        unmarked = refl;
      };
    }

    -- where it does what an installation left to do
    pub resume_sends : ResumeForms node layout tx t R
    resume_sends = record {
      stays = record { sends = tt; unmarked = refl };
      fails = λ number is. abort_sends (asking t None) (cause.NodeFail number) (is_failed number);
      anew = λ why verifying awaited at b. anew why (is_so why verifying awaited at) verifying b;
      recommits = λ epoch awaited at. enters _ _ (commits_in awaited at);
      recompletes = λ epoch awaited at. enters _ _ (completes_in awaited at);
    }
      where
        anew : (why : AbortCause) → IsGivenUp tx t body why → (verifying b : Bool)
            → R (anew_if node layout tx (asking t None) why verifying b)
        anew why is verifying true = gives_up (asking t None) why is verifying
        anew why is verifying false = enters (asking t None) _ is

-- where it takes a signal
pub turn_sends : (node : ℕ) (layout : Layout) (tx : TxId) (t : Transaction) (body : Body)
    (P : Turn → Outgoing → Type 0) → TurnSends node layout tx t body P
    → TurnFormsAt node layout tx t body (λ turn. SendsOnly P turn)
unfolding part_effects
turn_sends node layout tx t body P own = record {
  stays = λ off missed. record { sends = tt; unmarked = refl };
  stops = λ at is high. record { sends = tt; unmarked = refl };
  goes_on = λ at is low. record { sends = more at t.phase refl; unmarked = refl };
  operates = λ op is can. record { sends = (own.operates op is can, tt); unmarked = refl };
  answers = λ key answer asked is answers at.
      record { sends = (own.answers key answer asked is answers at, tt); unmarked = refl };
  late = λ key asked why verifying awaited is answers at. record {
    sends = mapped_in _ (abort_of tx key) (chain_of layout key)
        (own.drives.aborts _ why verifying awaited (is_so why verifying awaited at) (is_before at) key);
    unmarked = refl;
  };
  waits = λ asked is on. record {
    sends = each_mapped _ (wait_of tx (key_of asked.op)) asked.chain (own.waits asked is on);
    unmarked = refl;
  };
  decides = λ is ready. record { sends = (own.decides is ready, tt); unmarked = refl };
  commits = λ epoch is at some. enters node layout tx t body P own.drives t _ (is_given is at);
  commits_none = λ epoch is at none. committed_sends node layout tx t body P own.drives epoch (is_given is at);
  committed = λ key epoch awaited is at more. record { sends = tt; unmarked = refl };
  committed_all = λ key epoch awaited is at last.
      committed_sends node layout tx t body P own.drives epoch (commits_in awaited at);
  completed = λ key epoch awaited is at more. record { sends = tt; unmarked = refl };
  completed_all = λ key epoch awaited is at last. record { sends = (own.drives.leaves _ refl, tt); unmarked = refl };
  rolls_back = λ is undecided unaborted.
      abort_sends node layout tx t body P own.drives t cause.Request is_wished;
  refuses = λ key why asked is answers at.
      abort_sends node layout tx t body P own.drives (asking t None) why (is_refused key why is);
  aborted = λ key why verifying awaited is at more. record { sends = tt; unmarked = refl };
  aborted_all = λ key why verifying awaited is at last.
      gives_up node layout tx t body P own.drives t why (is_so why verifying awaited at) verifying;
}
  where
    more : (at : ℕ) (phase : Phase) → t.phase ≡ phase
        → Each (P (going (go_on_if node layout tx t at true))) (go_on_if node layout tx t at true).effects.sends
    more at phase is =
        phase_each node layout tx t body P own.drives (going (go_on_if node layout tx t at true)) t.phase
        (is_before refl) (subst (Comes node layout tx t body P own.drives) (sym is) (known phase is)) at
      where
        known : (phase : Phase) → t.phase ≡ phase → Comes node layout tx t body P own.drives phase
        known Open is = tt
        known Verifying is = tt
        known (Committing epoch awaited) is = commits_in awaited is
        known (Completing epoch awaited) is = completes_in awaited is
        known (Aborting why verifying awaited) is = is_so why verifying awaited is

-- so it is of the turn that a signal gives to a transaction
pub turn_for_sends : (node : ℕ) (layout : Layout) (tx : TxId) (t : Transaction) (body : Body)
    (P : Turn → Outgoing → Type 0) → TurnSends node layout tx t body P → tx_in body ≡ tx
    → Each (P (turn_for node layout tx body t)) (turn_for node layout tx body t).step.effects.sends
turn_for_sends node layout tx t body P own about =
    (turn_with node layout tx body t (λ turn. SendsOnly P turn)
    (rows_at node layout tx t body (λ turn. SendsOnly P turn) (turn_sends node layout tx t body P own)) about
    (λ off. record { sends = tt; unmarked = refl })).sends

-- and of one in which it does what an installation left to do
pub resume_row_sends : (node : ℕ) (layout : Layout) (tx : TxId) (t : Transaction) (body : Body)
    (P : Turn → Outgoing → Type 0) → DriveSends node layout tx t body P → (verdict : Verdict) (number : ℕ)
    → Each (P (resume_row node layout tx t verdict number))
    (resume_row node layout tx t verdict number).step.effects.sends
unfolding resume_row
resume_row_sends node layout tx t body P own verdict number =
    (resumes node layout tx t (λ turn. SendsOnly P turn) (resume_sends node layout tx t body P own) number verdict
    t.phase refl).sends
