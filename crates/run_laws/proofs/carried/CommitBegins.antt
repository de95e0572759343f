-- Turns of a transaction before anything of it is committed: the first commits are sent where its epoch comes.
use Rattle.std.proofs.Common.{◌≡◌, ℕ, suc, ◌+◌, List, [], ◌∷◌, ◌++◌, length, take, Bool, true, false, refl, ap, sym}
use Rattle.std.proofs.Common.{◌∙◌, subst, arith}
use Rattle.std.specs.Prelude.{◌-◌, ◌==◌, nat_lt, None}
use Rattle.std.proofs.lemmas.Bool.{eqb-true}
use Rattle.run_theory.specs.Lists.{Each}
use Rattle.sig_core.specs.declared.portion.TheConstants.{PORTION}
use Rattle.sig_core.specs.declared.member.TxId.{TxId}
use Rattle.sig_core.specs.declared.outcome.AbortCause.{AbortCause}
use Rattle.sig_core.specs.declared.outs.Outgoing.{Outgoing}
use Rattle.sig_core.specs.declared.signal.Body.{Body}
use Rattle.sig_core.specs.declared.signal.Body.TheVariants.{Chain}
use Rattle.sig_core.specs.declared.signal.chain.ChainSignal.TheVariants.{Abort}
use Rattle.frag_map.specs.Layout.{Layout, chain_of}
use Rattle.sig_core.specs.Op.{key_of}
use Rattle.sig_core.specs.Same.{same_tx}
use Rattle.tc_block.specs.declared.phase.Phase.TheVariants.{Verifying, Committing, Aborting}
use Rattle.tc_block.specs.declared.touched.Touched.{Touched}
use Rattle.tc_block.specs.declared.transaction.Transaction.{Transaction}
use Rattle.tc_block.specs.Abort as abort
use Rattle.tc_block.specs.Complete as complete
use Rattle.tc_block.specs.Part.{part_effects, rest_if}
use Rattle.tc_block.specs.Sends.{wait_of, abort_of, entering, front_sends, key_sends, phase_sends}
use Rattle.tc_block.proofs.EachTurn.{AbortForms, TurnFormsAt, rows_at}
use Rattle.tc_block.specs.Turn.{Turn, asking, at_phase, going}
use Rattle.run_theory.proofs.EachSent.{each_flat, each_mapped}
use Rattle.host_laws.proofs.coordinator.Ways.{not_both}
use Rattle.sig_core.proofs.Keys.{same_tx-self}
use Rattle.run_laws.proofs.hosts.TcOwn.{AreSilent}
use Rattle.tc_block.proofs.TurnRows.{turn_for}
use Rattle.run_laws.proofs.hosts.TxTurns.{is_for, turn_each}
use Rattle.run_laws.proofs.fades.Signals.{is_part, is_sign}

-- a row of the transaction is to be aborted
abbrev pub is_back : TxId → Body → Bool
is_back tx (Chain (Abort other key)) = same_tx other tx
is_back tx _ = false

-- one of the signals aborts a row
pub record Aborts (tx : TxId) (sends : List Outgoing) : Type 0 where
  pub first : Outgoing
  pub more : List Outgoing
  pub is : sends ≡ first ∷ more
  pub aborts : is_back tx first.body ≡ true

pub data Begins (node : ℕ) (layout : Layout) (tx : TxId) (t : Transaction) (turn : Turn) : Type 0 where
  silent : AreSilent tx turn.step.effects.sends → Begins node layout tx t turn
  ends : turn.over ≡ true → Each (λ (o : Outgoing). is_part tx o.body ≡ false) turn.step.effects.sends
      → Begins node layout tx t turn
  backs : Aborts tx turn.step.effects.sends → Begins node layout tx t turn
  commits : (epoch : ℕ) → t.phase ≡ Verifying → turn.over ≡ false → turn.step.state ≡ at_phase t
      (Committing epoch (length t.touched))
      → turn.step.effects.sends ≡ (part_effects node tx
      (phase_sends layout tx (Committing epoch (length t.touched)) t.touched) 0).sends
      → Begins node layout tx t turn

module _ (node : ℕ) (layout : Layout) (tx : TxId) where
  -- what an abort sends first
  all_back : (why : AbortCause) (verifying : Bool) (awaited : ℕ) (touched : List Touched)
      → Each (λ (o : Outgoing). is_back tx o.body ≡ true)
      (phase_sends layout tx (Aborting why verifying awaited) touched)
  unfolding phase_sends front_sends key_sends
  all_back why verifying awaited touched =
      each_flat (λ (o : Outgoing). is_back tx o.body ≡ true)
      (key_sends layout tx (Aborting why verifying awaited)) touched
      (λ u. each_mapped (λ (o : Outgoing). is_back tx o.body ≡ true) (abort_of tx u.key)
      (chain_of layout u.key) (λ r. same_tx-self tx))

  part_back : (t : Transaction) (turn : Turn) (xs : List Outgoing) → Each (λ (o : Outgoing). is_back tx o.body ≡ true)
      xs → turn.step.effects.sends ≡ (part_effects node tx xs 0).sends → Begins node layout tx t turn
  unfolding part_effects
  part_back t turn [] all is = silent (subst (AreSilent tx) (sym is) tt)
  part_back t turn (x ∷ xs) all is =
      backs (record {
        first = x;
        more = take (PORTION - 1) xs ++ rest_if node tx 0 (nat_lt (0 + PORTION) (length (x ∷ xs)));
        is = is;
        aborts = all.0;
      })

  enter_back : (t own : Transaction) (why : AbortCause) (verifying : Bool) (awaited : ℕ)
      → Begins node layout tx own (going (entering node layout tx t (Aborting why verifying awaited)))
  unfolding entering
  enter_back t own why verifying awaited =
      part_back own _ (phase_sends layout tx (Aborting why verifying awaited) t.touched)
      (all_back why verifying awaited t.touched) refl

  pub end_silent : (why : AbortCause) (b : Bool) → AreSilent tx (abort.abort_end node tx why b)
  end_silent why true = (refl, (refl, tt))
  end_silent why false = (refl, tt)

  module _ (t : Transaction) where
    abbrev BeginsAt : Turn → Type 0
    BeginsAt turn = Begins node layout tx t turn

    aborts_begin : (u : Transaction) (why : AbortCause) → AbortForms node layout tx u why BeginsAt
    aborts_begin u why = record {
      enters = λ some. enter_back u t why (abort.is_verifying u.phase) (abort.aborts_awaited layout u);
      ends = λ none. silent (end_silent why (abort.is_verifying u.phase));
    }

    -- without a key nothing is written
    none_written : (touched : List Touched) → (length touched == 0) ≡ true
        → (complete.written_count touched == 0) ≡ true
    none_written [] e = refl
    none_written (u ∷ touched) e = absurd (some (length touched) e)
      where
        some : (n : ℕ) → (suc n == 0) ≡ true → ⊥
        some n q = omega (arith, eqb-true (suc n) 0 q)

    begins_forms : (body : Body) → is_part tx body ≡ false → TurnFormsAt node layout tx t body BeginsAt
    unfolding entering
    begins_forms body off = record {
      stays = λ other missed. silent tt;
      stops = λ at is high. silent tt;
      goes_on = λ at is low. is_one (ap (is_part tx) is ∙ same_tx-self tx);
      operates = λ op is can. silent (refl, tt);
      answers = λ key answer asked is on at. silent (refl, tt);
      late =
          λ key asked why verifying awaited is on at. silent (each_mapped (λ (o : Outgoing). is_sign tx o.body ≡ false)
          (abort_of tx key) (chain_of layout key) (λ r. refl));
      waits = λ asked is on. silent (each_mapped (λ (o : Outgoing). is_sign tx o.body ≡ false)
          (wait_of tx (key_of asked.op)) asked.chain (λ r. refl));
      decides = λ is ready. silent (refl, tt);
      commits = λ epoch is at some. commits epoch at refl refl refl;
      commits_none = λ epoch is at none. record {
        enters = λ some. not_both (complete.written_count t.touched == 0) (none_written t.touched none) some;
        ends = λ zero. ends refl (refl, (refl, tt));
      };
      committed = λ key epoch awaited is at more. is_one (ap (is_part tx) is ∙ same_tx-self tx);
      committed_all = λ key epoch awaited is at last. record {
        enters = λ some. is_one (ap (is_part tx) is ∙ same_tx-self tx);
        ends = λ none. is_one (ap (is_part tx) is ∙ same_tx-self tx);
      };
      completed = λ key epoch awaited is at more. silent tt;
      completed_all = λ key epoch awaited is at last. silent (refl, tt);
      rolls_back = λ is undecided unaborted. aborts_begin t _;
      refuses = λ key why asked is on at. aborts_begin (asking t None) why;
      aborted = λ key why verifying awaited is at more. silent tt;
      aborted_all = λ key why verifying awaited is at last. silent (end_silent why verifying);
    }
      where
        is_one : {A : Type 0} → is_part tx body ≡ true → A
        is_one is = not_both (is_part tx body) is off

    pub turn_begins : (body : Body) → is_for tx body ≡ true → is_part tx body ≡ false
        → BeginsAt (turn_for node layout tx body t)
    turn_begins body is off = turn_each node layout tx body t BeginsAt
        (rows_at node layout tx t body BeginsAt (begins_forms body off)) is
