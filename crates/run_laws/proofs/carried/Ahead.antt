-- Turns of a transaction that commits or completes.
use Rattle.std.proofs.Common.{◌≡◌, ℕ, ◌-◌, ◌≤◌, ◌<◌, List, [], Bool, true, false, refl, ap, sym, ◌∙◌, arith}
use Rattle.std.specs.Prelude.{None, Some}
use Rattle.std.proofs.lemmas.Bool.{and_parts}
use Rattle.std.proofs.lemmas.Bool.Decides.{nat_tests}
use Rattle.run_theory.specs.Lists.{Each}
use Rattle.sig_core.specs.declared.member.TxId.{TxId}
use Rattle.sig_core.specs.declared.outcome.AbortCause.{AbortCause}
use Rattle.sig_core.specs.declared.outs.Outgoing.{Outgoing}
use Rattle.sig_core.specs.declared.signal.Body.{Body}
use Rattle.sig_core.specs.declared.signal.Body.TheVariants.{Host, Chain}
use Rattle.sig_core.specs.declared.signal.chain.ChainSignal.TheVariants.{Committed}
use Rattle.sig_core.specs.declared.signal.host.HostSignal.TheVariants.{Continue}
use Rattle.sig_core.specs.declared.signal.host.Work.TheVariants as work
use Rattle.frag_map.specs.Layout.{Layout}
use Rattle.sig_core.specs.Op.{key_of}
use Rattle.tc_block.specs.declared.sends.TheConstants.{SENDS}
use Rattle.tc_block.specs.declared.phase.Asked.{Asked}
use Rattle.tc_block.specs.declared.phase.Phase.{Phase}
use Rattle.tc_block.specs.declared.phase.Phase.TheVariants.{Open, Verifying, Committing, Completing}
use Rattle.tc_block.specs.declared.transaction.Transaction.{Transaction}
use Rattle.tc_block.specs.Complete as complete
use Rattle.tc_block.specs.Operate as operate
use Rattle.tc_block.specs.Part.{part_effects}
use Rattle.tc_block.specs.Sends.{entering, phase_sends, wait_of}
use Rattle.tc_block.specs.Turn.{Turn, asking, at_phase}
use Rattle.run_theory.proofs.EachSent.{each_mapped}
use Rattle.tc_block.specs.Phases.{is_committing, is_completing, is_decided}
use Rattle.tc_block.proofs.EachTurn.{AbortForms, CommittedForms, is_onward, ready_is, rows_at, TurnFormsAt}
use Rattle.run_laws.proofs.hosts.TcOwn.{AreSilent}
use Rattle.tc_block.proofs.TurnRows.{turn_for}
use Rattle.run_laws.proofs.hosts.TxTurns.{is_for, turn_each}
use Rattle.run_laws.proofs.fades.Signals.{is_next, is_part, is_sign}

-- a turn of a transaction that commits, and awaits so many
pub data FromCommitting (node : ℕ) (layout : Layout) (tx : TxId) (t : Transaction) (awaited : ℕ) (body : Body)
    (turn : Turn) : Type 0 where
  rests : turn.over ≡ false → turn.step.state ≡ t → AreSilent tx turn.step.effects.sends → is_next tx body ≡ false
      → FromCommitting node layout tx t awaited body turn
  -- no list is so long
  stops : (one : TxId) (at : ℕ) → body ≡ Host (Continue (work.Transaction one) at) → SENDS ≤ at → turn.over ≡ false
      → turn.step.state ≡ t → turn.step.effects.sends ≡ []
      → FromCommitting node layout tx t awaited body turn
  goes_on : (one : TxId) (at : ℕ) → body ≡ Host (Continue (work.Transaction one) at)
      → turn.over ≡ false → turn.step.state ≡ t
      → turn.step.effects.sends ≡ (part_effects node tx (phase_sends layout tx t.phase t.touched) at).sends
      → FromCommitting node layout tx t awaited body turn
  counts : (one : TxId) (key : List ℕ) (epoch : ℕ) → body ≡ Chain (Committed one key) → 1 < awaited → turn.over ≡ false
      → turn.step.state ≡ at_phase t (Committing epoch (awaited - 1))
      → turn.step.effects.sends ≡ [] → FromCommitting node layout tx t awaited body turn
  completes : (one : TxId) (key : List ℕ) (epoch next : ℕ) → body ≡ Chain (Committed one key) → awaited ≤ 1
      → turn.over ≡ false → turn.step.state ≡ at_phase t (Completing epoch next)
      → turn.step.effects.sends ≡ (part_effects node tx (phase_sends layout tx (Completing epoch next) t.touched)
      0).sends → FromCommitting node layout tx t awaited body turn
  ends : turn.over ≡ true → Each (λ (o : Outgoing). is_part tx o.body ≡ false) turn.step.effects.sends
      → FromCommitting node layout tx t awaited body turn

-- a turn of one that completes
pub data FromCompleting (node : ℕ) (layout : Layout) (tx : TxId) (t : Transaction) (turn : Turn) : Type 0 where
  still : (epoch next : ℕ) → turn.over ≡ false → turn.step.state ≡ at_phase t (Completing epoch next)
      → AreSilent tx turn.step.effects.sends → FromCompleting node layout tx t turn
  more : (epoch next at : ℕ) → turn.over ≡ false → turn.step.state ≡ at_phase t (Completing epoch next)
      → turn.step.effects.sends ≡ (part_effects node tx (phase_sends layout tx (Completing epoch next) t.touched)
      at).sends → FromCompleting node layout tx t turn
  over : turn.over ≡ true → AreSilent tx turn.step.effects.sends → FromCompleting node layout tx t turn

abbrev awaited_in : Phase → ℕ
awaited_in (Committing epoch awaited) = awaited
awaited_in phase = 0

-- nothing but the signal to go on leads to more of what is sent
next_none : (tx : TxId) (body : Body) → is_onward body ≡ false → is_next tx body ≡ false
next_none tx (Host (Continue (work.Transaction one) at)) off = absurd cc
next_none tx _ off = refl

module _ (node : ℕ) (layout : Layout) (tx : TxId) (t : Transaction) where
  waits_silent : (asked : Asked) → AreSilent tx (operate.wait_by tx t (Some asked)).effects.sends
  waits_silent asked = each_mapped (λ (o : Outgoing). is_sign tx o.body ≡ false)
      (wait_of tx (key_of asked.op)) asked.chain (λ r. refl)

  -- where it is in a phase of this kind it is in no other, and not open
  module _ (test : Phase → Bool) (R : Turn → Type 0) (in_phase : test t.phase ≡ true) where
    elsewhere : (phase : Phase) → t.phase ≡ phase → test phase ≡ false → (turn : Turn) → R turn
    elsewhere phase at off turn = absurd (let both : true ≡ false = sym in_phase ∙ (ap test at ∙ off) in cc)

    no_commit : (epoch : ℕ) (phase : Phase) → t.phase ≡ phase → test phase ≡ false
        → CommittedForms node layout tx t epoch R
    no_commit epoch phase at off = record {
      enters = λ some. elsewhere phase at off _;
      ends =
          λ none. elsewhere phase at off _;
    }

    no_abort : (u : Transaction) (why : AbortCause) → ⊥ → AbortForms node layout tx u why R
    no_abort u why never = record { enters = λ some. absurd never; ends = λ none. absurd never }

  module _ (epoch awaited : ℕ) (is : t.phase ≡ Committing epoch awaited) where
    committing_forms : (body : Body) → TurnFormsAt node layout tx t body (FromCommitting node layout tx t awaited body)
    unfolding entering
    committing_forms body = record {
      stays = λ other missed. rests refl refl tt (next_none tx body other);
      stops = λ at on high. stops tx at on high refl refl refl;
      goes_on = λ at on low. goes_on tx at on refl refl refl;
      operates = λ op on can. off Open
          (ready_is t.phase t.asked (and_parts (operate.is_ready t.phase t.asked) _ can).0).0 refl _;
      answers = λ key answer asked on there at. off Open at refl _;
      late = λ key asked why verifying left on there at. off _ at refl _;
      waits = λ asked on there. rests refl refl (waits_silent asked) (ap (is_next tx) on);
      decides = λ on ready. off Open (ready_is t.phase t.asked ready).0 refl _;
      commits = λ e on at some. off Verifying at refl _;
      commits_none = λ e on at none. no_commit is_committing Onward (ap is_committing is) e Verifying at refl;
      committed = λ key e left on at more.
          let same : left ≡ awaited = ap awaited_in (sym at ∙ is) in
          counts tx key e on (grind (arith, nat_tests, more, same)) refl
          (ap (λ n. at_phase t (Committing e (n - 1))) same) refl;
      committed_all = λ key e left on at last.
          let few : awaited ≤ 1 = grind (arith, nat_tests, last, ap awaited_in (sym at ∙ is)) in
          record {
            enters = λ some. completes tx key e (complete.written_count t.touched) on few refl refl refl;
            ends =
                λ none. ends refl (refl, (refl, tt));
          };
      completed = λ key e left on at more. off _ at refl _;
      completed_all = λ key e left on at last. off _ at refl _;
      rolls_back = λ on undecided unaborted. no_abort is_committing Onward (ap is_committing is) t _
          (let both : true ≡ false = sym (ap is_decided is) ∙ undecided in cc);
      refuses = λ key why asked on there at. no_abort is_committing Onward (ap is_committing is) (asking t None) why
          (let both : Open ≡ Committing epoch awaited = sym at ∙ is in cc);
      aborted = λ key why verifying left on at more. off _ at refl _;
      aborted_all = λ key why verifying left on at last. off _ at refl _;
    }
      where
        Onward : Turn → Type 0
        Onward = FromCommitting node layout tx t awaited body

        off : (phase : Phase) → t.phase ≡ phase → is_committing phase ≡ false → (turn : Turn) → Onward turn
        off = elsewhere is_committing Onward (ap is_committing is)

    pub from_committing : (body : Body) → is_for tx body ≡ true → FromCommitting node layout tx t awaited body
        (turn_for node layout tx body t)
    from_committing body =
        turn_each node layout tx body t (FromCommitting node layout tx t awaited body)
        (rows_at node layout tx t body (FromCommitting node layout tx t awaited body) (committing_forms body))

  module _ (epoch awaited : ℕ) (is : t.phase ≡ Completing epoch awaited) where
    abbrev Completes : Turn → Type 0
    Completes turn = FromCompleting node layout tx t turn

    same_phase : t ≡ at_phase t (Completing epoch awaited)
    same_phase = λ i. record { ops = t.ops; touched = t.touched; asked = t.asked; phase = is i }

    off : (phase : Phase) → t.phase ≡ phase → is_completing phase ≡ false → (turn : Turn) → Completes turn
    off = elsewhere is_completing Completes (ap is_completing is)

    completing_forms : (body : Body) → TurnFormsAt node layout tx t body Completes
    completing_forms body = record {
      stays = λ other missed. still epoch awaited refl same_phase tt;
      stops = λ at on high. still epoch awaited refl same_phase tt;
      goes_on = λ at on low. more epoch awaited at refl same_phase
          (ap (λ ph. (part_effects node tx (phase_sends layout tx ph t.touched) at).sends) is);
      operates = λ op on can. off Open
          (ready_is t.phase t.asked (and_parts (operate.is_ready t.phase t.asked) _ can).0).0 refl _;
      answers = λ key answer asked on there at. off Open at refl _;
      late = λ key asked why verifying left on there at. off _ at refl _;
      waits = λ asked on there. still epoch awaited refl same_phase (waits_silent asked);
      decides = λ on ready. off Open (ready_is t.phase t.asked ready).0 refl _;
      commits = λ e on at some. off Verifying at refl _;
      commits_none = λ e on at none. no_commit is_completing Completes (ap is_completing is) e Verifying at refl;
      committed = λ key e left on at some. off _ at refl _;
      committed_all = λ key e left on at last. no_commit is_completing Completes (ap is_completing is) e _ at refl;
      completed = λ key e left on at some. still e (left - 1) refl refl tt;
      completed_all = λ key e left on at last. over refl (refl, tt);
      rolls_back = λ on undecided unaborted. no_abort is_completing Completes (ap is_completing is) t _
          (let both : true ≡ false = sym (ap is_decided is) ∙ undecided in cc);
      refuses = λ key why asked on there at. no_abort is_completing Completes (ap is_completing is) (asking t None) why
          (let both : Open ≡ Completing epoch awaited = sym at ∙ is in cc);
      aborted = λ key why verifying left on at some. off _ at refl _;
      aborted_all = λ key why verifying left on at last. off _ at refl _;
    }

    pub from_completing : (body : Body) → is_for tx body ≡ true → Completes (turn_for node layout tx body t)
    from_completing body = turn_each node layout tx body t Completes
        (rows_at node layout tx t body Completes (completing_forms body))
