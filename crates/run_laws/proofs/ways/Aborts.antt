-- Who comes to be aborted is given up in the same turn.
use Rattle.std.proofs.Common.{◌≡◌, ◌⊎◌, ℕ, List, [], ◌++◌, take, Bool, true, false, ap, sym, ◌∙◌, subst, arith, inl}
use Rattle.std.proofs.Common.{inr}
use Rattle.std.specs.Prelude.{◌-◌, ◌==◌, None}
use Rattle.std.specs.List.{list_any}
use Rattle.std.proofs.lemmas.Bool.{or_left}
use Rattle.std.proofs.lemmas.Bool.Decides.{nat_tests}
use Rattle.sig_core.specs.declared.portion.TheConstants.{PORTION}
use Rattle.sig_core.specs.declared.member.TxId.{TxId}
use Rattle.sig_core.specs.declared.outcome.AbortCause.{AbortCause}
use Rattle.sig_core.specs.declared.outs.Outgoing.{Outgoing}
use Rattle.sig_core.specs.declared.signal.Body.{Body}
use Rattle.frag_map.specs.Layout.{Layout, chain_of}
use Rattle.sig_core.specs.Op.{key_of}
use Rattle.sig_core.specs.Same.{same_tx}
use Rattle.tc_block.specs.declared.phase.Phase.TheVariants.{Aborting}
use Rattle.tc_block.specs.declared.transaction.Transaction.{Transaction}
use Rattle.tc_block.specs.Abort as abort
use Rattle.tc_block.specs.Part.{part_effects}
use Rattle.tc_block.specs.Sends.{entering, front_sends, phase_sends}
use Rattle.tc_block.specs.Turn.{Turn, asking}
use Rattle.tc_block.specs.Phases.{is_aborting}
use Rattle.sig_core.proofs.Keys.{same_tx-self}
use Rattle.tc_block.proofs.EachTurn.{AbortForms, CommittedForms, TurnForms}
use Rattle.host_laws.specs.Ways.{back_by, way_of}
use Rattle.host_laws.proofs.coordinator.OneWay.{back_more}
use Rattle.run_laws.specs.Keyed.{HasTouchedAsked}
use Rattle.run_laws.proofs.fades.AbortsFirst.{IsBackFirst, aborts_first, asked_count_few}
use Rattle.run_laws.proofs.tokens.Turns.{gives_up}
use Rattle.run_laws.proofs.tokens.TouchedLists.{touch_own}

-- a turn after which it is aborted: it was so, or it is given up
pub record TurnAborts (tx : TxId) (t : Transaction) (turn : Turn) : Type 0 where
  pub touched : HasTouchedAsked turn.step.state.touched turn.step.state.asked
  pub aborts : is_aborting turn.step.state.phase ≡ true
      → (is_aborting t.phase ≡ true) ⊎ (gives_up tx turn.step.effects.sends ≡ true)

-- an abort that has something to wait for
pub enters_told : (tx : TxId) (node : ℕ) (layout : Layout) (t : Transaction) (why : AbortCause) (verifying : Bool)
    (awaited : ℕ) → HasTouchedAsked t.touched t.asked
    → (abort.aborts_awaited layout t == 0) ≡ false
    → gives_up tx (entering node layout tx t (Aborting why verifying awaited)).effects.sends ≡ true
unfolding entering part_effects phase_sends front_sends
enters_told tx node layout t why verifying awaited has waits =
    told _ (aborts_first layout tx why verifying awaited t.touched
    (λ none. absurd (grind (arith, nat_tests, waits, none, asked_count_few layout t.touched t.asked has))))
  where
    told : {sends : List Outgoing} (behind : List Outgoing) → IsBackFirst tx sends
        → gives_up tx (take PORTION sends ++ behind) ≡ true
    told {sends} behind f =
        subst (λ all. gives_up tx (take PORTION all ++ behind) ≡ true) (sym f.is)
        (back_more (same_tx tx) (take (PORTION - 1) f.more ++ behind) (back_by (way_of f.first.body) [])
        (ap (λ w. list_any (same_tx tx) (back_by w [])) f.goes ∙ or_left (same_tx tx tx) false (same_tx-self tx)))

module _ (node : ℕ) (layout : Layout) (tx : TxId) (t : Transaction) (has : HasTouchedAsked t.touched t.asked) where
  -- a turn that leaves the phase, or comes to one in which it isn't aborted
  goes_on : (turn : Turn) → HasTouchedAsked turn.step.state.touched turn.step.state.asked
      → (is_aborting turn.step.state.phase ≡ true → is_aborting t.phase ≡ true) → TurnAborts tx t turn
  goes_on turn touched stays = record { touched = touched; aborts = λ is. inl (stays is) }

  committed_aborts : (epoch : ℕ) → CommittedForms node layout tx t epoch (λ turn. TurnAborts tx t turn)
  unfolding entering
  committed_aborts epoch = record {
    enters = λ some. goes_on _ has (λ is. absurd cc);
    ends = λ none. goes_on _ has (λ is. is);
  }

  -- an abort of one that isn't aborted
  begins_abort : (u : Transaction) → HasTouchedAsked u.touched u.asked → is_aborting u.phase ≡ false
      → (why : AbortCause) → AbortForms node layout tx u why (λ turn. TurnAborts tx t turn)
  unfolding entering
  begins_abort u touched off why = record {
    enters = λ some. record {
      touched = touched;
      aborts = λ is. inr
          (enters_told tx node layout u why (abort.is_verifying u.phase) (abort.aborts_awaited layout u) touched some);
    };
    ends = λ none. record { touched = touched; aborts = λ is. absurd (let both : true ≡ false = sym is ∙ off in cc) };
  }

  -- whatever turn it takes
  pub turn_aborts : (body : Body) → TurnForms node layout tx t body (λ turn. TurnAborts tx t turn)
  unfolding entering
  turn_aborts body = record {
    stays = goes_on _ has (λ is. is);
    goes_on = λ at. goes_on _ has (λ is. is);
    operates = λ op is can. goes_on _ (touch_own t.touched (key_of op) (chain_of layout (key_of op))) (λ is. is);
    answers = λ key answer asked is on at. goes_on _ tt (λ is. is);
    late = λ key asked why verifying awaited on at. goes_on _ tt (λ is. is);
    waits = λ asked on. goes_on _ has (λ is. is);
    decides = λ is ready. goes_on _ has (λ is. absurd cc);
    commits = λ epoch is at some. goes_on _ has (λ is. absurd cc);
    commits_none = λ epoch is at. committed_aborts epoch;
    committed = λ epoch awaited at more. goes_on _ has (λ is. absurd cc);
    committed_all = λ epoch awaited at. committed_aborts epoch;
    completed = λ epoch awaited at more. goes_on _ has (λ is. absurd cc);
    completed_all = λ epoch awaited at last. goes_on _ has (λ is. is);
    rolls_back = λ is undecided unaborted. begins_abort t has unaborted _;
    refuses = λ key why asked is on at. begins_abort (asking t None) tt (ap is_aborting at) why;
    aborted = λ why verifying awaited at more. goes_on _ has (λ is. ap is_aborting at);
    aborted_all = λ why verifying awaited at last. goes_on _ has (λ is. is);
  }
