-- A coordinator that aborts nothing since the cluster is down, and isn't told so, goes on to, and doesn't tell so.
use Rattle.std.proofs.Common.{◌+◌, ℕ, Bool, true, false, List, [], ◌∷◌, ◌++◌, take, drop, length, nat_lt, sym, subst}
use Rattle.std.specs.Prelude.{if◌then◌else◌, None}
use Rattle.std.specs.List.{flat_map}
use Rattle.indexmap.specs.IndexMap.{insert_entry}
use Rattle.run_theory.specs.Lists.{Each}
use Rattle.run_theory.proofs.EachSent.{each_drop, each_flat, each_mapped, each_take}
use Rattle.run_theory.proofs.Pasts.{each_after, each_append, each_before}
use Rattle.sig_core.specs.declared.member.TxId.{TxId}
use Rattle.sig_core.specs.declared.outcome.AbortCause.{AbortCause}
use Rattle.sig_core.specs.declared.outs.Outgoing.{Outgoing}
use Rattle.sig_core.specs.declared.signal.Body.{Body}
use Rattle.sig_core.specs.declared.signal.Signal.{Signal}
use Rattle.sig_core.specs.declared.view.View.{View}
use Rattle.sig_core.specs.Op.{key_of}
use Rattle.sig_core.specs.Same.{same_tx}
use Rattle.sig_core.specs.Step.{Step}
use Rattle.frag_map.specs.Layout.{Layout, chain_of}
use Rattle.tc_block.proofs.EachResume.{ResumeForms}
use Rattle.tc_block.specs.Abort.{abort_end, is_verifying}
use Rattle.tc_block.specs.Live.{turned, turned_if, without}
use Rattle.tc_block.specs.Operate.{fresh}
use Rattle.tc_block.specs.Part.{part_effects, rest_if}
use Rattle.tc_block.specs.Resume.{anew_if}
use Rattle.tc_block.specs.Sends.{abort_of, complete_if, entering, front_sends, key_sends, phase_sends, wait_of}
use Rattle.tc_block.specs.State.{TcState}
use Rattle.tc_block.specs.Tc.{next_tx}
use Rattle.tc_block.specs.Turn.{Turn, asking}
use Rattle.tc_block.specs.declared.phase.Phase.{Phase}
use Rattle.tc_block.specs.declared.phase.Phase.TheVariants.{Open, Verifying, Committing, Completing, Aborting}
use Rattle.tc_block.specs.declared.touched.Touched.{Touched}
use Rattle.tc_block.specs.declared.transaction.Transaction.{Transaction}
use Rattle.tc_block.proofs.EachTurn.{AbortForms, CommittedForms, TurnForms, rows_of}
use Rattle.tc_block.proofs.LiveSplit.{Live, Split}
use Rattle.tc_views.proofs.Walk.{coordinator_outcomes, inner}
use Rattle.tc_views.specs.Coordinator.{coordinator_row}
use Rattle.tc_views.specs.State.{CoordinatorState, go_on_if}
use Rattle.tc_views.specs.Views.{install_row, tasks_at}
use Rattle.outcome_laws.specs.Down.{CoordinatorHasNoDown, IsNotDown, IsNotDownIn, TellsNoDown}
use Rattle.outcome_laws.proofs.downfall.Sends.{AreNoDown, IsNoDown}

-- the entry of a transaction that is aborted for another cause
abbrev IsUp : TxId × Transaction → Type 0
IsUp e = IsNotDownIn e.1.phase

-- so it is behind a turn, which tells nothing else
record IsUpTurn (turn : Turn) : Type 0 where
  stays : IsNotDownIn turn.step.state.phase
  tells : AreNoDown turn.step.effects.sends

-- and so of a step of the coordinator
record IsUpStep (step : Step TcState) : Type 0 where
  stays : Each IsUp step.state.live
  tells : AreNoDown step.effects.sends

more_up : (node : ℕ) (b : Bool) → AreNoDown (go_on_if node b)
more_up node true = (tt, tt)
more_up node false = tt

-- what a transaction sends along its keys tells of no cause
module _ (node : ℕ) (layout : Layout) (tx : TxId) where
  rest_up : (at : ℕ) (b : Bool) → AreNoDown (rest_if node tx at b)
  rest_up at true = (tt, tt)
  rest_up at false = tt

  part_up : (sends : List Outgoing) (at : ℕ) → AreNoDown sends → AreNoDown (part_effects node tx sends at).sends
  unfolding part_effects
  part_up sends at all =
      each_append IsNoDown (take 8 (drop at sends)) (rest_if node tx at (nat_lt (at + 8) (length sends)))
      (each_take IsNoDown 8 (drop at sends) (each_drop IsNoDown at sends all))
      (rest_up at (nat_lt (at + 8) (length sends)))

  front_up : (phase : Phase) → AreNoDown (front_sends tx phase)
  unfolding front_sends
  front_up Open = tt
  front_up Verifying = tt
  front_up (Committing epoch awaited) = tt
  front_up (Completing epoch awaited) = (tt, tt)
  front_up (Aborting why verifying awaited) = tt

  complete_up : (t : Touched) (b : Bool) → AreNoDown (complete_if tx t b)
  complete_up t true = (tt, tt)
  complete_up t false = tt

  key_up : (phase : Phase) (t : Touched) → AreNoDown (key_sends layout tx phase t)
  unfolding key_sends
  key_up Open t = tt
  key_up Verifying t = tt
  key_up (Committing epoch awaited) t = (tt, tt)
  key_up (Completing epoch awaited) t = complete_up t t.written
  key_up (Aborting why verifying awaited) t =
      each_mapped IsNoDown (abort_of tx t.key) (chain_of layout t.key) (λ r. tt)

  phase_up : (phase : Phase) (touched : List Touched) → AreNoDown (phase_sends layout tx phase touched)
  unfolding phase_sends
  phase_up phase touched =
      each_append IsNoDown (front_sends tx phase) (flat_map (key_sends layout tx phase) touched) (front_up phase)
      (each_flat IsNoDown (key_sends layout tx phase) touched (key_up phase))

  enters : (t : Transaction) (phase : Phase) → IsNotDownIn phase
      → IsUpTurn (record { step = entering node layout tx t phase; over = false })
  unfolding entering
  enters t phase up = record {
    stays = up;
    tells = part_up (phase_sends layout tx phase t.touched) 0 (phase_up phase t.touched);
  }

  committed_up : (t : Transaction) (epoch : ℕ) → IsNotDownIn t.phase
      → CommittedForms node layout tx t epoch (λ turn. IsUpTurn turn)
  committed_up t epoch up = record {
    enters = λ some. enters t _ tt;
    ends = λ none. record { stays = up; tells = (tt, (tt, tt)) };
  }

  -- where a transaction was aborted its client is told why
  end_up : (why : AbortCause) → IsNotDown why → (b : Bool) → AreNoDown (abort_end node tx why b)
  end_up why not_down true = (tt, (not_down, tt))
  end_up why not_down false = (not_down, tt)

  abort_up : (t : Transaction) (why : AbortCause) → IsNotDownIn t.phase → IsNotDown why
      → AbortForms node layout tx t why (λ turn. IsUpTurn turn)
  abort_up t why up not_down = record {
    enters = λ some. enters t _ not_down;
    ends = λ none. record { stays = up; tells = end_up why not_down (is_verifying t.phase) };
  }

  turn_up : (t : Transaction) (body : Body) → IsNotDownIn t.phase → TellsNoDown body
      → TurnForms node layout tx t body (λ turn. IsUpTurn turn)
  turn_up t body up told = record {
    stays = record { stays = up; tells = tt };
    goes_on = λ at. record {
      stays = up;
      tells = part_up (phase_sends layout tx t.phase t.touched) at (phase_up t.phase t.touched);
    };
    operates = λ op is can. record { stays = up; tells = (tt, tt) };
    answers = λ key answer asked is on at. record { stays = up; tells = (tt, tt) };
    late = λ key asked why verifying awaited on at. record {
      stays = up;
      tells = each_mapped IsNoDown (abort_of tx key) (chain_of layout key) (λ r. tt);
    };
    waits = λ asked on. record {
      stays = up;
      tells = each_mapped IsNoDown (wait_of tx (key_of asked.op)) asked.chain (λ r. tt);
    };
    decides = λ is ready. record { stays = tt; tells = (tt, tt) };
    commits = λ epoch is at some. enters t _ tt;
    commits_none = λ epoch is at. committed_up t epoch up;
    committed = λ epoch awaited at more. record { stays = tt; tells = tt };
    committed_all = λ epoch awaited at. committed_up t epoch up;
    completed = λ epoch awaited at more. record { stays = tt; tells = tt };
    completed_all = λ epoch awaited at last. record { stays = up; tells = (tt, tt) };
    rolls_back = λ is undecided unaborted. abort_up t _ up tt;
    refuses = λ key why asked is on at. abort_up (asking t None) why up (subst TellsNoDown is told);
    aborted = λ why verifying awaited at more. record { stays = subst IsNotDownIn at up; tells = tt };
    aborted_all = λ why verifying awaited at last.
        record { stays = up; tells = end_up why (subst IsNotDownIn at up) verifying };
  }

  resume_up : (t : Transaction) → IsNotDownIn t.phase → ResumeForms node layout tx t (λ turn. IsUpTurn turn)
  resume_up t up = record {
    stays = record { stays = up; tells = tt };
    fails = λ number is. abort_up (asking t None) _ up tt;
    anew = λ why verifying awaited at b. anew why (subst IsNotDownIn at up) verifying b;
    recommits = λ epoch awaited at. enters _ _ tt;
    recompletes = λ epoch awaited at. enters _ _ tt;
  }
    where
      anew : (why : AbortCause) → IsNotDown why → (verifying b : Bool)
          → IsUpTurn (anew_if node layout tx (asking t None) why verifying b)
      anew why not_down verifying true = record { stays = up; tells = end_up why not_down verifying }
      anew why not_down verifying false = enters (asking t None) _ not_down

-- the entry of the transaction whose turn it is
own_up : (live : Live) (tx : TxId) (t : Transaction) (at : ℕ) → Split tx t live at → Each IsUp live
    → IsNotDownIn t.phase
own_up live tx t at split all = (each_after IsUp split.front ((tx, t) ∷ split.back) (subst (Each IsUp) split.is all)).0

turned_up : (s : TcState) (tx : TxId) (t : Transaction) (at : ℕ) → Split tx t s.live at → Each IsUp s.live
    → (turn : Turn) → IsUpTurn turn → IsUpStep (turned s at turn)
unfolding without
turned_up s tx t at split all turn up = by turn.over
  where
    whole : Each IsUp (split.front ++ (tx, t) ∷ split.back)
    whole = subst (Each IsUp) split.is all

    front : Each IsUp split.front
    front = each_before IsUp split.front ((tx, t) ∷ split.back) whole

    back : Each IsUp split.back
    back = (each_after IsUp split.front ((tx, t) ∷ split.back) whole).1

    by : (b : Bool) → IsUpStep (turned_if s at turn b)
    by true = record {
      stays = subst (Each IsUp) (sym split.gone) (each_append IsUp split.front split.back front back);
      tells = up.tells;
    }
    by false = record {
      stays = subst (Each IsUp) (sym (split.set turn.step.state))
          (each_append IsUp split.front ((tx, turn.step.state) ∷ split.back) front (up.stays, back));
      tells = up.tells;
    }

begun_up : (live : Live) (tx : TxId) → Each IsUp live → Each IsUp (insert_entry same_tx live tx fresh)
begun_up [] tx all = (tt, tt)
begun_up (e ∷ es) tx all = by (same_tx tx e.0) (begun_up es tx all.1)
  where
    by : (b : Bool) → Each IsUp (insert_entry same_tx es tx fresh)
        → Each IsUp (if b then (e.0, fresh) ∷ es else e ∷ insert_entry same_tx es tx fresh)
    by true more = (tt, all.1)
    by false more = (all.0, more)

coordinator_up : (s : CoordinatorState) (x : Signal) → CoordinatorHasNoDown s → TellsNoDown x.body
    → IsUpStep (inner (coordinator_row s x))
coordinator_up s x up told =
    coordinator_outcomes (λ tx t turn. IsUpTurn turn) (λ step. IsUpStep step) s x (record {
      calm = record {
        turns = λ tx t at split.
            rows_of s.tc.node s.tc.layout tx t x.body (λ turn. IsUpTurn turn)
            (turn_up s.tc.node s.tc.layout tx t x.body (own_up s.tc.live tx t at split up) told);
        turned = λ tx t at split turn up_turn. turned_up s.tc tx t at split up turn up_turn;
        stays = record { stays = up; tells = tt };
        full = λ name. record { stays = up; tells = (tt, tt) };
        begins = λ name. record { stays = begun_up s.tc.live (next_tx s.tc) up; tells = (tt, tt) };
        passes = λ tx ahead. record { stays = up; tells = (tt, tt) };
      };
      resumes = λ tx t at split. resume_up s.tc.node s.tc.layout tx t (own_up s.tc.live tx t at split up);
      promises = record { stays = up; tells = (tt, tt) };
      goes_on = λ step node b so_far. record {
        stays = so_far.stays;
        tells = each_append IsNoDown step.effects.sends (go_on_if node b) so_far.tells (more_up node b);
      };
    })

-- whatever it takes
pub coordinator_down_none : (s : CoordinatorState) (x : Signal) → CoordinatorHasNoDown s → TellsNoDown x.body
    → CoordinatorHasNoDown (coordinator_row s x).state × AreNoDown (coordinator_row s x).effects.sends
coordinator_down_none s x up told = let step = coordinator_up s x up told in (step.stays, step.tells)

-- where a view is installed
pub coordinator_installs_down_none : (s : CoordinatorState) (view : View) → CoordinatorHasNoDown s
    → CoordinatorHasNoDown (install_row s view).state × AreNoDown (install_row s view).effects.sends
unfolding install_row
coordinator_installs_down_none s view up = (up, more_up s.tc.node (nat_lt 0 (length (tasks_at s view.number))))
