-- A coordinator aborts a transaction for the cause that it was told, and reports that cause.
use Rattle.std.proofs.Common.{◌≡◌, ℕ, Bool, true, false, List, [], ◌∷◌, ◌++◌, length, refl, sym, subst, inl}
use Rattle.std.specs.Prelude.{None, if◌then◌else◌}
use Rattle.indexmap.specs.IndexMap.{insert_entry}
use Rattle.run_theory.proofs.EachSent.{each_mapped}
use Rattle.run_theory.proofs.Pasts.{each_after, each_append, each_before, in_append}
use Rattle.run_theory.specs.Lists.{Each, IsIn}
use Rattle.sig_core.specs.declared.member.TxId.{TxId}
use Rattle.sig_core.specs.declared.outcome.AbortCause.{AbortCause}
use Rattle.sig_core.specs.declared.outcome.AbortCause.TheVariants as cause
use Rattle.sig_core.specs.declared.outs.Outgoing.{Outgoing}
use Rattle.sig_core.specs.declared.signal.Body.{Body}
use Rattle.sig_core.specs.declared.signal.Body.TheVariants.{Client, Chain}
use Rattle.sig_core.specs.declared.signal.chain.ChainSignal.TheVariants.{LqhKeyRef}
use Rattle.sig_core.specs.declared.signal.client.ClientSignal.TheVariants.{TcRollbackRep, TcRollbackReq}
use Rattle.sig_core.specs.Op.{key_of}
use Rattle.sig_core.specs.Same.{same_tx}
use Rattle.sig_core.specs.Step.{Step}
use Rattle.frag_map.specs.Layout.{Layout, chain_of}
use Rattle.tc_block.proofs.EachTc.{tc_each}
use Rattle.tc_block.proofs.EachTurn.{AbortForms, CommittedForms, TurnForms, rows_of}
use Rattle.tc_block.proofs.LiveSplit.{Live, Split}
use Rattle.tc_block.specs.Abort as abort
use Rattle.tc_block.specs.Complete as complete
use Rattle.tc_block.specs.declared.phase.Phase.{Phase}
use Rattle.tc_block.specs.declared.phase.Phase.TheVariants.{Open, Verifying, Committing, Completing, Aborting}
use Rattle.tc_block.specs.declared.transaction.Transaction.{Transaction}
use Rattle.tc_block.specs.Live.{turned_if, without}
use Rattle.tc_block.specs.Operate.{fresh}
use Rattle.tc_block.specs.Sends.{abort_of, entering, front_sends, go_on_if, wait_of}
use Rattle.tc_block.specs.State.{TcState}
use Rattle.tc_block.specs.Tc.{next_tx, tc_table}
use Rattle.tc_block.specs.Turn.{Turn, asking, going}
use Rattle.host_laws.proofs.coordinator.PhaseSends.{HasChains, entering_of_kind, rest_of_kind}
use Rattle.host_laws.proofs.hosts.SendKinds.{are_of, each_of}

-- a signal that neither gives a cause nor wishes for an abort
abbrev pub is_calm : Body → Bool
is_calm (Client (TcRollbackRep tx why)) = false
is_calm (Client (TcRollbackReq tx)) = false
is_calm (Chain (LqhKeyRef tx key why)) = false
is_calm _ = true

chains : (tx : TxId) → HasChains tx is_calm
chains tx = record {
  commits = λ key epoch chain at. refl;
  completes = λ key chain at. refl;
  aborts = λ key. refl;
  goes_on = λ at. refl;
}

fronts : (tx : TxId) (phase : Phase) → are_of is_calm (front_sends tx phase) ≡ true
unfolding front_sends
fronts tx (Completing epoch awaited) = refl
fronts tx (Committing epoch awaited) = refl
fronts tx (Aborting why verifying awaited) = refl
fronts tx Open = refl
fronts tx Verifying = refl

-- C says of transactions which causes they have
module _ (C : TxId → AbortCause → Type 0) where
  -- an abort is reported for a cause that the transaction has; and a coordinator neither refuses nor wishes
  abbrev pub TcTells : Body → Type 0
  TcTells (Client (TcRollbackRep tx why)) = C tx why
  TcTells (Client (TcRollbackReq tx)) = ⊥
  TcTells (Chain (LqhKeyRef tx key why)) = ⊥
  TcTells other = Unit {0}

  -- a transaction that is aborted is so for a cause that it has
  abbrev pub IsAbortedFor : TxId → Phase → Type 0
  IsAbortedFor tx (Aborting why verifying awaited) = C tx why
  IsAbortedFor tx phase = Unit {0}

  abbrev Own : TxId × Transaction → Type 0
  Own e = IsAbortedFor e.0 e.1.phase

  abbrev pub AllCaused : Live → Type 0
  AllCaused live = Each (λ (e : TxId × Transaction). IsAbortedFor e.0 e.1.phase) live

  -- what the signal tells: an open transaction is refused, or any is wished to be aborted, for a cause that it has
  pub record TellsTc (s : TcState) (body : Body) : Type 0 where
    pub refused : (tx : TxId) (key : List ℕ) (why : AbortCause) (t : Transaction) → body ≡ Chain (LqhKeyRef tx key why)
        → IsIn (tx, t) s.live → t.phase ≡ Open → C tx why
    pub wished : (tx : TxId) → body ≡ Client (TcRollbackReq tx) → C tx cause.Request

  abbrev Sent : Outgoing → Type 0
  Sent o = TcTells o.body

  calm_sent : (o : Outgoing) → is_calm o.body ≡ true → Sent o
  calm_sent o is = by o.body is
    where
      by : (b : Body) → is_calm b ≡ true → TcTells b
      by (Client (TcRollbackRep tx why)) is = absurd cc
      by (Client (TcRollbackReq tx)) is = absurd cc
      by (Chain (LqhKeyRef tx key why)) is = absurd cc
      by _ is = tt

  record TurnCaused (tx : TxId) (turn : Turn) : Type 0 where
    state : IsAbortedFor tx turn.step.state.phase
    sends : Each Sent turn.step.effects.sends

  module _ (node : ℕ) (layout : Layout) (tx : TxId) where
    enters : (t : Transaction) (phase : Phase) → IsAbortedFor tx phase
        → TurnCaused tx (going (entering node layout tx t phase))
    unfolding entering
    enters t phase has = record {
      state = has;
      sends = each_of is_calm Sent calm_sent (entering node layout tx t phase).effects.sends
          (entering_of_kind is_calm layout tx (chains tx) node t phase (fronts tx phase));
    }

    abort_ends : (why : AbortCause) (verifying : Bool) → C tx why → Each Sent (abort.abort_end node tx why verifying)
    abort_ends why true has = (tt, (has, tt))
    abort_ends why false has = (has, tt)

    aborts : (t : Transaction) → IsAbortedFor tx t.phase → (why : AbortCause) → C tx why
        → AbortForms node layout tx t why (TurnCaused tx)
    aborts t fine why has = record {
      enters = λ some. enters t (Aborting why (abort.is_verifying t.phase) (abort.aborts_awaited layout t)) has;
      ends = λ none. record { state = fine; sends = abort_ends why (abort.is_verifying t.phase) has };
    }

    commits : (t : Transaction) → IsAbortedFor tx t.phase → (epoch : ℕ)
        → CommittedForms node layout tx t epoch (TurnCaused tx)
    commits t fine epoch = record {
      enters = λ some. enters t (Completing epoch (complete.written_count t.touched)) tt;
      ends = λ none. record { state = fine; sends = (tt, (tt, tt)) };
    }

    turns : (t : Transaction) (body : Body) → IsAbortedFor tx t.phase
        → ((key : List ℕ) (why : AbortCause) → body ≡ Chain (LqhKeyRef tx key why) → t.phase ≡ Open → C tx why)
        → (body ≡ Client (TcRollbackReq tx) → C tx cause.Request)
        → TurnForms node layout tx t body (TurnCaused tx)
    turns t body fine refused wished = record {
      stays = record { state = fine; sends = tt };
      goes_on = λ at. record {
        state = fine;
        sends = each_of is_calm Sent calm_sent (go_on_if node layout tx t at true).effects.sends
            (rest_of_kind is_calm layout tx (chains tx) node t at (fronts tx t.phase));
      };
      operates = λ op is can. record { state = fine; sends = (tt, tt) };
      answers = λ key answer asked is on at. record { state = fine; sends = (tt, tt) };
      late = λ key asked why verifying awaited on at. record {
        state = fine;
        sends = each_mapped Sent (abort_of tx key) (chain_of layout key) (λ m. tt);
      };
      waits = λ asked on. record {
        state = fine;
        sends = each_mapped Sent (wait_of tx (key_of asked.op)) asked.chain (λ m. tt);
      };
      decides = λ is ready. record { state = tt; sends = (tt, tt) };
      commits = λ epoch is at some. enters t (Committing epoch (length t.touched)) tt;
      commits_none = λ epoch is at. commits t fine epoch;
      committed = λ epoch awaited at more. record { state = tt; sends = tt };
      committed_all = λ epoch awaited at. commits t fine epoch;
      completed = λ epoch awaited at more. record { state = tt; sends = tt };
      completed_all = λ epoch awaited at last. record { state = fine; sends = (tt, tt) };
      rolls_back = λ is undecided unaborted. aborts t fine cause.Request (wished is);
      refuses = λ key why asked is on at. aborts (asking t None) fine why (refused key why is at);
      aborted = λ why verifying awaited at more. record { state = subst (IsAbortedFor tx) at fine; sends = tt };
      aborted_all = λ why verifying awaited at last. record {
        state = fine;
        sends = abort_ends why verifying (subst (IsAbortedFor tx) at fine);
      };
    }

  -- a step of a coordinator leaves its transactions so
  pub record TcCaused (step : Step TcState) : Type 0 where
    pub live : AllCaused step.state.live
    pub sends : Each (λ (o : Outgoing). TcTells o.body) step.effects.sends

  inserted : (live : Live) (tx : TxId) → AllCaused live → AllCaused (insert_entry same_tx live tx fresh)
  inserted [] tx all = (tt, tt)
  inserted (e ∷ es) tx all = by (same_tx tx e.0) (inserted es tx all.1)
    where
      by : (b : Bool) → AllCaused (insert_entry same_tx es tx fresh)
          → AllCaused (if b then (e.0, fresh) ∷ es else e ∷ insert_entry same_tx es tx fresh)
      by true more = (tt, all.1)
      by false more = (all.0, more)

  -- whatever the coordinator takes
  pub tc_caused : (s : TcState) (body : Body) → TellsTc s body → AllCaused s.live → TcCaused (tc_table s body)
  unfolding without
  tc_caused s body told all =
      tc_each (λ tx t turn. TurnCaused tx turn) TcCaused s body (record {
        turns = λ tx t at split. rows_of s.node s.layout tx t body (TurnCaused tx)
            (turns s.node s.layout tx t body (own tx t at split)
            (λ key why is on. told.refused tx key why t is (among tx t at split) on) (told.wished tx));
        turned = λ tx t at split turn is. by tx t at split turn is turn.over;
        stays = record { live = all; sends = tt };
        full = λ name. record { live = all; sends = (tt, tt) };
        begins = λ name. record { live = inserted s.live (next_tx s) all; sends = (tt, tt) };
        passes = λ tx ahead. record { live = all; sends = (tt, tt) };
      })
    where
      all_split : (tx : TxId) (t : Transaction) (at : ℕ) (split : Split tx t s.live at)
          → Each Own (split.front ++ (tx, t) ∷ split.back)
      all_split tx t at split = subst (Each Own) split.is all

      own : (tx : TxId) (t : Transaction) (at : ℕ) → Split tx t s.live at → IsAbortedFor tx t.phase
      own tx t at split = (each_after Own split.front ((tx, t) ∷ split.back) (all_split tx t at split)).0

      among : (tx : TxId) (t : Transaction) (at : ℕ) → Split tx t s.live at → IsIn (tx, t) s.live
      among tx t at split =
          subst (IsIn (tx, t)) (sym split.is) (in_append (tx, t) split.front ((tx, t) ∷ split.back) (inl refl))

      before : (tx : TxId) (t : Transaction) (at : ℕ) (split : Split tx t s.live at) → Each Own split.front
      before tx t at split = each_before Own split.front ((tx, t) ∷ split.back) (all_split tx t at split)

      behind : (tx : TxId) (t : Transaction) (at : ℕ) (split : Split tx t s.live at) → Each Own split.back
      behind tx t at split = (each_after Own split.front ((tx, t) ∷ split.back) (all_split tx t at split)).1

      by : (tx : TxId) (t : Transaction) (at : ℕ) → Split tx t s.live at → (turn : Turn) → TurnCaused tx turn
          → (b : Bool) → TcCaused (turned_if s at turn b)
      by tx t at split turn is true = record {
        live = subst (Each Own) (sym split.gone)
            (each_append Own split.front split.back (before tx t at split) (behind tx t at split));
        sends = is.sends;
      }
      by tx t at split turn is false = record {
        live = subst (Each Own) (sym (split.set turn.step.state))
            (each_append Own split.front ((tx, turn.step.state) ∷ split.back) (before tx t at split)
            (is.state, behind tx t at split));
        sends = is.sends;
      }
