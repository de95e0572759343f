-- A transaction is aborted, and its abort reported, for no other cause than those that a node refuses an operation
-- with, and the
-- client's request.
use Rattle.std.proofs.Common.{◌≡◌, ℕ, Bool, true, false, List, length, refl, sym, ap, ◌∙◌}
use Rattle.std.specs.Prelude.{None}
use Rattle.run_theory.specs.Lists.{Each}
use Rattle.sig_core.specs.declared.member.TxId.{TxId}
use Rattle.sig_core.specs.declared.outcome.AbortCause.{AbortCause}
use Rattle.sig_core.specs.declared.outcome.AbortCause.TheVariants as cause
use Rattle.sig_core.specs.declared.outs.Outgoing.{Outgoing}
use Rattle.sig_core.specs.declared.signal.Body.{Body}
use Rattle.sig_core.specs.declared.signal.Body.TheVariants.{Client, Chain}
use Rattle.sig_core.specs.declared.signal.chain.ChainSignal.TheVariants.{LqhKeyRef}
use Rattle.sig_core.specs.declared.signal.client.ClientSignal.TheVariants.{TcRollbackRep}
use Rattle.frag_map.specs.Layout.{Layout}
use Rattle.sig_core.specs.Step.{Step}
use Rattle.sig_core.specs.Op.{key_of}
use Rattle.tc_block.specs.Abort as abort
use Rattle.frag_map.specs.Layout.{chain_of}
use Rattle.tc_block.specs.Complete as complete
use Rattle.tc_block.specs.declared.phase.Phase.{Phase}
use Rattle.tc_block.specs.declared.phase.Phase.TheVariants.{Open, Verifying, Committing, Completing, Aborting}
use Rattle.tc_block.specs.declared.transaction.Transaction.{Transaction}
use Rattle.tc_block.specs.Sends.{abort_of, entering, front_sends, go_on_if, wait_of}
use Rattle.tc_block.specs.State.{TcState}
use Rattle.tc_block.specs.Tc.{tc_table}
use Rattle.tc_block.specs.Turn.{Turn, asking, going}
use Rattle.run_theory.proofs.EachSent.{each_mapped}
use Rattle.tc_block.proofs.EachTurn.{AbortForms, CommittedForms, TurnForms}
use Rattle.tc_block.proofs.LiveKeeps.{LiveKeeps, TurnKeeps, live_each}
use Rattle.host_laws.proofs.hosts.SendKinds.{each_of, of_each, are_of}
use Rattle.host_laws.proofs.coordinator.PhaseSends.{HasChains, entering_of_kind, rest_of_kind}
use Rattle.command_laws.specs.Living.{is_living}

-- a signal that gives no other cause
abbrev pub is_sound : Body → Bool
is_sound (Client (TcRollbackRep tx why)) = is_living why
is_sound (Chain (LqhKeyRef tx key why)) = is_living why
is_sound _ = true

-- it isn't aborted, or for such a cause
abbrev pub lives_on : Phase → Bool
lives_on (Aborting why verifying awaited) = is_living why
lives_on _ = true

abbrev pub AllLive : List (TxId × Transaction) → Type 0
AllLive live = Each (λ (e : TxId × Transaction). lives_on e.1.phase ≡ true) live

abbrev Lives : Transaction → Type 0
Lives t = lives_on t.phase ≡ true

abbrev Sound : Outgoing → Type 0
Sound o = is_sound o.body ≡ true

abbrev TurnLives : Turn → Type 0
TurnLives turn = TurnKeeps Lives Sound turn

chains : (tx : TxId) → HasChains tx is_sound
chains tx = record {
  commits = λ key epoch chain at. refl;
  completes = λ key chain at. refl;
  aborts = λ key. refl;
  goes_on = λ at. refl;
}

fronts : (tx : TxId) (phase : Phase) → are_of is_sound (front_sends tx phase) ≡ true
unfolding front_sends
fronts tx (Completing epoch awaited) = refl
fronts tx (Committing epoch awaited) = refl
fronts tx (Aborting why verifying awaited) = refl
fronts tx Open = refl
fronts tx Verifying = refl

module _ (node : ℕ) (layout : Layout) (tx : TxId) where
  enters : (t : Transaction) (phase : Phase) → lives_on phase ≡ true
      → TurnLives (going (entering node layout tx t phase))
  unfolding entering
  enters t phase lives = record {
    state = lives;
    sends = each_of is_sound Sound (λ o is. is) (entering node layout tx t phase).effects.sends
        (entering_of_kind is_sound layout tx (chains tx) node t phase (fronts tx phase));
  }

  abort_ends : (why : AbortCause) (verifying : Bool) → is_living why ≡ true
      → Each Sound (abort.abort_end node tx why verifying)
  abort_ends why true e = (refl, (e, tt))
  abort_ends why false e = (e, tt)

  aborts : (t : Transaction) → Lives t → (why : AbortCause) → is_living why ≡ true
      → AbortForms node layout tx t why TurnLives
  aborts t fine why e = record {
    enters = λ some. enters t (Aborting why (abort.is_verifying t.phase) (abort.aborts_awaited layout t)) e;
    ends = λ none. record { state = fine; sends = abort_ends why (abort.is_verifying t.phase) e };
  }

  commits : (t : Transaction) → Lives t → (epoch : ℕ) → CommittedForms node layout tx t epoch TurnLives
  commits t fine epoch = record {
    enters = λ some. enters t (Completing epoch (complete.written_count t.touched)) refl;
    ends = λ none. record { state = fine; sends = (refl, (refl, tt)) };
  }

  turns_live : (t : Transaction) (body : Body) → is_sound body ≡ true → Lives t
      → TurnForms node layout tx t body TurnLives
  turns_live t body sound fine = record {
    stays = record { state = fine; sends = tt };
    goes_on = λ at. record {
      state = fine;
      sends = each_of is_sound Sound (λ o is. is) (go_on_if node layout tx t at true).effects.sends
          (rest_of_kind is_sound layout tx (chains tx) node t at (fronts tx t.phase));
    };
    operates = λ op is can. record { state = fine; sends = (refl, tt) };
    answers = λ key answer asked is on at. record { state = fine; sends = (refl, tt) };
    late = λ key asked why verifying awaited on at. record {
      state = fine;
      sends = each_mapped Sound (abort_of tx key) (chain_of layout key) (λ m. refl);
    };
    waits = λ asked on. record {
      state = fine;
      sends = each_mapped Sound (wait_of tx (key_of asked.op)) asked.chain (λ m. refl);
    };
    decides = λ is ready. record { state = refl; sends = (refl, tt) };
    commits = λ epoch is at some. enters t (Committing epoch (length t.touched)) refl;
    commits_none = λ epoch is at. commits t fine epoch;
    committed = λ epoch awaited at more. record { state = refl; sends = tt };
    committed_all = λ epoch awaited at. commits t fine epoch;
    completed = λ epoch awaited at more. record { state = refl; sends = tt };
    completed_all = λ epoch awaited at last. record { state = fine; sends = (refl, tt) };
    rolls_back = λ is undecided unaborted. aborts t fine cause.Request refl;
    refuses = λ key why asked is on at. aborts (asking t None) fine why (ap is_sound (sym is) ∙ sound);
    aborted = λ why verifying awaited at more. record { state = ap lives_on (sym at) ∙ fine; sends = tt };
    aborted_all = λ why verifying awaited at last. record {
      state = fine;
      sends = abort_ends why verifying (ap lives_on (sym at) ∙ fine);
    };
  }

-- a step of a coordinator leaves its transactions so
pub record TcLives (step : Step TcState) : Type 0 where
  pub live : AllLive step.state.live
  pub sends : are_of is_sound step.effects.sends ≡ true

pub tc_lives : (s : TcState) (body : Body) → is_sound body ≡ true → AllLive s.live → TcLives (tc_table s body)
tc_lives s body sound all = record {
  live = step.live;
  sends = of_each is_sound (tc_table s body).effects.sends step.sends;
}
  where
    step : LiveKeeps Lives Sound s.layout (tc_table s body)
    step =
        live_each Lives Sound s body refl (record {
          full = λ name. (refl, tt);
          begins = λ name. (refl, tt);
          passes = λ tx ahead. (refl, tt);
        })
        (λ tx t fine. turns_live s.node s.layout tx t body sound fine) all
