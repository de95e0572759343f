-- What a transaction does at its coordinator: it never opens again, and it tells of its commit only once it is decided.
use Rattle.std.proofs.Common.{◌≡◌, ℕ, List, take, drop, length, Bool, true, false, refl, ap}
use Rattle.std.specs.Prelude.{◌+◌, nat_lt, None, Some}
use Rattle.std.specs.List.{flat_map}
use Rattle.sig_core.specs.declared.member.TxId.{TxId}
use Rattle.sig_core.specs.declared.outcome.AbortCause.{AbortCause}
use Rattle.sig_core.specs.declared.outs.Outgoing.{Outgoing}
use Rattle.sig_core.specs.declared.signal.Body.{Body}
use Rattle.sig_core.specs.declared.signal.Body.TheVariants.{Client, Epoch}
use Rattle.sig_core.specs.declared.signal.client.ClientSignal.TheVariants.{TcCommitReq}
use Rattle.sig_core.specs.declared.signal.epoch.EpochSignal.TheVariants.{DiVerifyConf}
use Rattle.frag_map.specs.Layout.{Layout}
use Rattle.sig_core.specs.Op.{key_of}
use Rattle.sig_core.specs.Step.{Step}
use Rattle.tc_block.specs.declared.phase.Asked.{Asked}
use Rattle.tc_block.specs.declared.phase.Phase.{Phase}
use Rattle.tc_block.specs.declared.phase.Phase.TheVariants.{Open, Verifying, Committing, Completing, Aborting}
use Rattle.tc_block.specs.declared.touched.Touched.{Touched}
use Rattle.tc_block.specs.declared.transaction.Transaction.{Transaction}
use Rattle.tc_block.specs.Abort as abort
use Rattle.frag_map.specs.Layout.{chain_of}
use Rattle.tc_block.specs.Commit as commit
use Rattle.tc_block.specs.Complete as complete
use Rattle.tc_block.specs.Operate as operate
use Rattle.tc_block.specs.Part.{part_effects, rest_if}
use Rattle.tc_block.specs.Sends.{abort_of, complete_if, entering, front_sends, key_sends, phase_sends, wait_of}
use Rattle.tc_block.specs.Turn.{Turn, asking, going}
use Rattle.run_theory.specs.Lists.{Each}
use Rattle.run_theory.proofs.Pasts.{each_append}
use Rattle.sig_core.specs.Step.{stay}
use Rattle.host_laws.specs.Kinds.{Kind, kind_of}
use Rattle.host_laws.specs.Kinds as kind
use Rattle.tc_block.specs.Phases.{is_decided, is_open}
use Rattle.tc_block.proofs.EachTurn.{AbortForms, CommittedForms, TurnForms}
use Rattle.run_theory.proofs.EachSent.{each_drop, each_flat, each_mapped, each_take}
use Rattle.sig_core.specs.declared.portion.TheConstants.{PORTION}

-- what a transaction may say where D is known of it once it is decided: that its rows are committed and that it has
-- ended,
-- and nothing of the rest
abbrev pub SaysOf : TxId → Type 0 → Kind → Type 0
SaysOf tx D (kind.ended other) = (other ≡ tx) × D
SaysOf tx D (kind.committing other) = (other ≡ tx) × D
SaysOf tx D kind.other = Unit {0}
SaysOf tx D _ = ⊥

abbrev pub AllSay : TxId → Type 0 → List Outgoing → Type 0
AllSay tx D sends = Each (λ (o : Outgoing). SaysOf tx D (kind_of o.body)) sends

-- a step of a transaction in this phase
pub record Goes (tx : TxId) (D : Type 0) (phase : Phase) (step : Step Transaction) : Type 0 where
  pub sends : AllSay tx D step.effects.sends
  pub closed : is_open phase ≡ false → is_open step.state.phase ≡ false
  pub deciding : is_decided step.state.phase ≡ true → D

abbrev pub TurnGoes : TxId → Type 0 → Phase → Turn → Type 0
TurnGoes tx D phase turn = Goes tx D phase turn.step

module _ (tx : TxId) (D : Type 0) where
  -- it knows that it is decided only where it is
  abbrev pub Known : Phase → Type 0
  Known phase = is_decided phase ≡ true → D

  stays : (t : Transaction) → Known t.phase → Goes tx D t.phase (stay t)
  stays t known = record { sends = tt; closed = λ is. is; deciding = known }

  rest_says : (node at : ℕ) (b : Bool) → AllSay tx D (rest_if node tx at b)
  rest_says node at true = (tt, tt)
  rest_says node at false = tt

  part_says : (node : ℕ) (sends : List Outgoing) (at : ℕ) → AllSay tx D sends
      → AllSay tx D (part_effects node tx sends at).sends
  unfolding part_effects
  part_says node sends at all =
      each_append (λ (o : Outgoing). SaysOf tx D (kind_of o.body)) (take PORTION (drop at sends))
      (rest_if node tx at (nat_lt (at + PORTION) (length sends)))
      (each_take (λ (o : Outgoing). SaysOf tx D (kind_of o.body)) PORTION (drop at sends)
      (each_drop (λ (o : Outgoing). SaysOf tx D (kind_of o.body)) at sends all))
      (rest_says node at (nat_lt (at + PORTION) (length sends)))

  front_says : (phase : Phase) → Known phase → AllSay tx D (front_sends tx phase)
  unfolding front_sends
  front_says Open known = tt
  front_says Verifying known = tt
  front_says (Committing epoch awaited) known = tt
  front_says (Completing epoch awaited) known = ((refl, known refl), tt)
  front_says (Aborting why verifying awaited) known = tt

  complete_says : (t : Touched) (b : Bool) → AllSay tx D (complete_if tx t b)
  complete_says t true = (tt, tt)
  complete_says t false = tt

  key_says : (layout : Layout) (phase : Phase) (t : Touched) → Known phase → AllSay tx D (key_sends layout tx phase t)
  unfolding key_sends
  key_says layout Open t known = tt
  key_says layout Verifying t known = tt
  key_says layout (Committing epoch awaited) t known = ((refl, known refl), tt)
  key_says layout (Completing epoch awaited) t known = complete_says t t.written
  key_says layout (Aborting why verifying awaited) t known = each_mapped
      (λ (o : Outgoing). SaysOf tx D (kind_of o.body)) (abort_of tx t.key) (chain_of layout t.key) (λ r. tt)

  phase_says : (layout : Layout) (phase : Phase) (touched : List Touched) → Known phase
      → AllSay tx D (phase_sends layout tx phase touched)
  unfolding phase_sends
  phase_says layout phase touched known =
      each_append (λ (o : Outgoing). SaysOf tx D (kind_of o.body)) (front_sends tx phase)
      (flat_map (key_sends layout tx phase) touched) (front_says phase known)
      (each_flat (λ (o : Outgoing). SaysOf tx D (kind_of o.body)) (key_sends layout tx phase) touched
      (λ t. key_says layout phase t known))

  -- it enters a phase that isn't the open one
  enters : (node : ℕ) (layout : Layout) (t : Transaction) (phase : Phase) → is_open phase ≡ false → Known phase
      → Goes tx D t.phase (entering node layout tx t phase)
  unfolding entering
  enters node layout t phase shut known = record {
    sends = part_says node (phase_sends layout tx phase t.touched) 0 (phase_says layout phase t.touched known);
    closed = λ is. shut;
    deciding = known;
  }

  late_goes : (layout : Layout) (t : Transaction) (key : List ℕ) → Known t.phase
      → Goes tx D t.phase (operate.late_answer layout tx t key)
  late_goes layout t key known = record {
    sends =
        each_mapped (λ (o : Outgoing). SaysOf tx D (kind_of o.body)) (abort_of tx key) (chain_of layout key) (λ r. tt);
    closed = λ is. is;
    deciding = known;
  }

  wait_goes : (t : Transaction) (asked : Asked) → Known t.phase → Goes tx D t.phase (operate.wait_by tx t (Some asked))
  wait_goes t asked known = record {
    sends = each_mapped (λ (o : Outgoing). SaysOf tx D (kind_of o.body)) (wait_of tx (key_of asked.op)) asked.chain
        (λ r. tt);
    closed = λ is. is;
    deciding = known;
  }

  abort_end_says : (node : ℕ) (why : AbortCause) (b : Bool) → AllSay tx D (abort.abort_end node tx why b)
  abort_end_says node why true = (tt, (tt, tt))
  abort_end_says node why false = (tt, tt)

  module _ (R : Turn → Type 0) (node : ℕ) (layout : Layout) where
    committed_goes : (t : Transaction) (epoch : ℕ) → ((turn : Turn) → TurnGoes tx D t.phase turn → R turn)
        → Known t.phase → D → CommittedForms node layout tx t epoch R
    committed_goes t epoch so known d = record {
      enters = λ some. so _ (enters node layout t (Completing epoch (complete.written_count t.touched)) refl (λ is. d));
      ends = λ none. so _ (record { sends = ((refl, d), (tt, tt)); closed = λ is. is; deciding = known });
    }

    abort_goes : (t : Transaction) → ((turn : Turn) → TurnGoes tx D t.phase turn → R turn) → Known t.phase
        → (why : AbortCause) → AbortForms node layout tx t why R
    abort_goes t so known why = record {
      enters = λ some. so _ (enters node layout t (Aborting why (abort.is_verifying t.phase)
          (abort.aborts_awaited layout t)) refl (λ is. absurd cc));
      ends = λ none. so _ (record {
        sends = abort_end_says node why (abort.is_verifying t.phase);
        closed = λ is. is;
        deciding = known;
      });
    }

    -- whatever turn it takes, but where it asks for an epoch
    pub turn_goes : (t : Transaction) (body : Body) → ((turn : Turn) → TurnGoes tx D t.phase turn → R turn)
        → (body ≡ Client (TcCommitReq tx) → operate.is_ready t.phase t.asked ≡ true → R
        (going (commit.verify_if node tx t true)))
        → Known t.phase → ((epoch : ℕ) → body ≡ Epoch (DiVerifyConf tx epoch) → D) → TurnForms node layout tx t body R
    turn_goes t body so asks known told = record {
      stays = so _ (stays t known);
      goes_on = λ at. so _ (record {
        sends = part_says node (phase_sends layout tx t.phase t.touched) at
            (phase_says layout t.phase t.touched known);
        closed = λ is. is;
        deciding = known;
      });
      operates = λ op is can. so _ (record { sends = (tt, tt); closed = λ is. is; deciding = known });
      answers = λ key answer asked is on at. so _ (record { sends = (tt, tt); closed = λ is. is; deciding = known });
      late = λ key asked why verifying awaited on at. so _ (late_goes layout t key known);
      waits = λ asked on. so _ (wait_goes t asked known);
      decides = asks;
      commits = λ epoch is at some. so _ (enters node layout t (Committing epoch (length t.touched)) refl
          (λ on. told epoch is));
      commits_none = λ epoch is at. committed_goes t epoch so known (told epoch is);
      committed = λ epoch awaited at more. so _ (record {
        sends = tt;
        closed = λ is. refl;
        deciding = λ is. known (ap is_decided at);
      });
      committed_all = λ epoch awaited at. committed_goes t epoch so known (known (ap is_decided at));
      completed = λ epoch awaited at more. so _ (record {
        sends = tt;
        closed = λ is. refl;
        deciding = λ is. known (ap is_decided at);
      });
      completed_all = λ epoch awaited at last. so _ (record { sends = (tt, tt); closed = λ is. is; deciding = known });
      rolls_back = λ is undecided unaborted. abort_goes t so known _;
      refuses = λ key why asked is on at. abort_goes (asking t None) so known why;
      aborted = λ why verifying awaited at more. so _ (record {
        sends = tt;
        closed = λ is. refl;
        deciding = λ is. absurd cc;
      });
      aborted_all = λ why verifying awaited at last. so _ (record {
        sends = abort_end_says node why verifying;
        closed = λ is. is;
        deciding = known;
      });
    }
