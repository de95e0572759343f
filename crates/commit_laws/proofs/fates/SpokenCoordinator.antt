-- A step of a member's coordinator speaks of its own transactions: of the commit of one that is decided, and of the
-- abort of one that is given up.
use Rattle.std.proofs.Common.{◌≡◌, ◌∙◌, ◌++◌, ℕ, Bool, true, false, List, refl, ap, subst}
use Rattle.std.specs.Prelude.{if◌then◌else◌, None, Some}
use Rattle.run_theory.specs.Lists.{IsIn}
use Rattle.run_theory.proofs.Pasts.{each_from, each_in}
use Rattle.sig_core.specs.declared.member.Member.{Member}
use Rattle.sig_core.specs.declared.member.TxId.{TxId}
use Rattle.sig_core.specs.declared.outs.Outgoing.{Outgoing}
use Rattle.sig_core.specs.declared.signal.Body.{Body}
use Rattle.sig_core.specs.declared.signal.Body.TheVariants.{Chain, Client}
use Rattle.sig_core.specs.declared.signal.Signal.{Signal}
use Rattle.sig_core.specs.declared.signal.chain.ChainSignal.TheVariants.{Abort, Aborted, Commit, Committed, Complete}
use Rattle.sig_core.specs.declared.signal.chain.ChainSignal.TheVariants.{Completed}
use Rattle.sig_core.specs.declared.signal.client.ClientSignal.TheVariants.{TcKeyFailRef, TcRollbackRep}
use Rattle.sig_core.specs.declared.view.View.{View}
use Rattle.sig_core.specs.Step.{Step}
use Rattle.sig_core.specs.Same.{same_tx}
use Rattle.sig_core.proofs.Keys.{same_tx-self}
use Rattle.tc_block.specs.Phases.{is_aborting, is_decided}
use Rattle.tc_block.specs.Turn.{Turn}
use Rattle.tc_block.specs.declared.phase.Phase.{Phase}
use Rattle.tc_block.specs.declared.transaction.Transaction.{Transaction}
use Rattle.tc_views.specs.Coordinator.{coordinator_row}
use Rattle.tc_views.specs.State.{CoordinatorState}
use Rattle.tc_views.specs.Views.{install_row}
use Rattle.outcome_laws.specs.Counts.{IsCoordinatorOf, coordinator_member}
use Rattle.request_laws.specs.Ways.{entry_of, is_at, is_sent, tells_abort, tells_commit}
use Rattle.request_laws.proofs.phases.OneWay.{sent_before}
use Rattle.commit_laws.proofs.fates.SpokenWords.{AreSpoken, IsSpoken, Speaks}
use Rattle.request_laws.proofs.phases.Steps.{is_about, left_of}
use Rattle.request_laws.proofs.routes.ChainsStay.{any_in}
use Rattle.step_forms.specs.Does.{IsWord}
use Rattle.frag_map.specs.Layout.{Layout}
use Rattle.tc_block.specs.Abort.{rolled_back}
use Rattle.tc_block.proofs.TurnSends.{InPhase, TurnSends, is_before, is_behind}
use Rattle.tc_block.specs.declared.phase.Phase.TheVariants.{Aborting, Committing, Completing}
use Rattle.tc_views.specs.Words.{is_coordinator_word}
use Rattle.tc_views.proofs.Walk.{coordinator_installed_each, coordinator_words}
use Rattle.sig_core.specs.declared.mark.Mark.{Mark}
use Rattle.commit_laws.proofs.forth.Coordinator.{own_is}
use Rattle.commit_laws.proofs.hosts.CoordinatorSends.{is_beside, sent_by}

-- it is in such a phase before a turn, or behind it, or its client is told as it ends
pub data ByTurn (p : Phase → Bool) (told : TxId → Body → Bool) (tx : TxId) (t : Transaction) (turn : Turn) : Type 0
  where
    before : p t.phase ≡ true → ByTurn p told tx t turn
    behind : turn.over ≡ false → p turn.step.state.phase ≡ true → ByTurn p told tx t turn
    telling : is_sent (told tx) turn.step.effects.sends ≡ true → ByTurn p told tx t turn

abbrev pub BackBy : TxId → Transaction → Turn → Type 0
BackBy tx t turn = ByTurn is_aborting tells_abort tx t turn

abbrev pub ForthBy : TxId → Transaction → Turn → Type 0
ForthBy tx t turn = ByTurn is_decided tells_commit tx t turn

-- what is sent speaks of the abort of the transaction only where the one is so, and of its commit only where the other
-- is so
module _ (A C : Type 0) (tx : TxId) where
  abbrev pub Owns : Body → Type 0
  Owns (Chain (Abort other key)) = same_tx other tx ≡ true → A
  Owns (Client (TcRollbackRep other cause)) = same_tx other tx ≡ true → A
  Owns (Chain (Commit other key epoch chain at)) = same_tx other tx ≡ true → C
  Owns (Chain (Complete other key chain at)) = same_tx other tx ≡ true → C
  Owns body = Unit {0}

-- a turn of the transaction speaks of it so
module _ (node : ℕ) (layout : Layout) (tx : TxId) (t : Transaction) (body : Body) where
  abbrev OwnsBy : Turn → Outgoing → Type 0
  OwnsBy turn o = IsIn o turn.step.effects.sends → Owns (BackBy tx t turn) (ForthBy tx t turn) tx o.body

  phased : (p : Phase → Bool) (told : TxId → Body → Bool) (turn : Turn) (phase : Phase) → InPhase t turn phase
      → p phase ≡ true → ByTurn p told tx t turn
  phased p told turn phase (is_before at) is = before (ap p at ∙ is)
  phased p told turn phase (is_behind on at) is = behind on (ap p at ∙ is)

  turn_owns : TurnSends node layout tx t body OwnsBy
  turn_owns = record {
    drives = record {
      goes_on = λ turn left inside. tt;
      commits = λ turn epoch awaited has in_phase u there inside is.
          phased is_decided tells_commit turn (Committing epoch awaited) in_phase refl;
      confirms = λ turn epoch has how inside. tt;
      completes = λ turn epoch awaited has in_phase u there written inside is.
          phased is_decided tells_commit turn (Completing epoch awaited) in_phase refl;
      aborts = λ turn why verifying awaited given in_phase key r there inside is.
          phased is_aborting tells_abort turn (Aborting why verifying awaited) in_phase refl;
      leaves = λ turn over inside. tt;
      rolls_back = λ turn why given over inside is.
          telling (any_in (λ (o : Outgoing). tells_abort tx o.body) (rolled_back tx why) turn.step.effects.sends inside
          (same_tx-self tx));
    };
    operates = λ op is can inside. tt;
    answers = λ key answer asked is own at inside. tt;
    waits = λ asked is on r inside. tt;
    decides = λ is ready inside. tt;
  }

-- the member's own transaction is in such a phase before a step, or behind it, or its client is told
pub data Shows (p : Phase → Bool) (told : TxId → Body → Bool) (s now : CoordinatorState) (tx : TxId)
    (sends : List Outgoing) : Type 0 where
  before_it : is_at p (entry_of s tx) ≡ true → Shows p told s now tx sends
  behind_it : is_at p (entry_of now tx) ≡ true → Shows p told s now tx sends
  tells_it : is_sent (told tx) sends ≡ true → Shows p told s now tx sends

pub record IsShown (p : Phase → Bool) (told : TxId → Body → Bool) (member : Member) (s now : CoordinatorState)
    (tx : TxId) (sends : List Outgoing) : Type 0 where
  pub own : coordinator_member tx ≡ member
  pub shows : Shows p told s now tx sends

owned_so : (A C B D : Type 0) (tx : TxId) → (A → B) → (C → D) → (body : Body) → Owns A C tx body → Owns B D tx body
owned_so A C B D tx one other (Chain (Abort by key)) owned = λ is. one (owned is)
owned_so A C B D tx one other (Client (TcRollbackRep by cause)) owned = λ is. one (owned is)
owned_so A C B D tx one other (Chain (Commit by key epoch chain at)) owned = λ is. other (owned is)
owned_so A C B D tx one other (Chain (Complete by key chain at)) owned = λ is. other (owned is)
owned_so A C B D tx one other body owned = tt

module _ (member : Member) (s : CoordinatorState) (of : IsCoordinatorOf member s) (x : Signal) (tx : TxId) where
  abbrev step : Step CoordinatorState
  step = coordinator_row s x

  abbrev pub Back : Type 0
  Back = IsShown is_aborting tells_abort member s (coordinator_row s x).state tx (coordinator_row s x).effects.sends

  abbrev pub Forth : Type 0
  Forth = IsShown is_decided tells_commit member s (coordinator_row s x).state tx (coordinator_row s x).effects.sends

  -- by a turn of it, beside which more may be sent
  turned : (p : Phase → Bool) (told : TxId → Body → Bool) (t : Transaction) → entry_of s tx ≡ Some t → (turn : Turn)
      → entry_of step.state tx ≡ left_of turn → (more : List Outgoing)
      → step.effects.sends ≡ turn.step.effects.sends ++ more → ByTurn p told tx t turn
      → IsShown p told member s step.state tx step.effects.sends
  turned p told t there turn now more sends (before is) =
      record { own = own_is member s of x tx t there; shows = before_it (ap (is_at p) there ∙ is) }
  turned p told t there turn now more sends (behind on is) =
      record {
        own = own_is member s of x tx t there;
        shows = behind_it (ap (is_at p) now
            ∙ (ap (λ b. is_at p (if b then None else Some turn.step.state)) on ∙ is));
      }
  turned p told t there turn now more sends (telling is) =
      record {
        own = own_is member s of x tx t there;
        shows = tells_it (ap (is_sent (told tx)) sends
            ∙ sent_before (told tx) turn.step.effects.sends more is);
      }

  owned : (o : Outgoing) → IsIn o step.effects.sends → is_about tx o.body ≡ true → is_beside o.body ≡ false
      → Owns Back Forth tx o.body
  owned o there about apart =
      let by = sent_by member s of x tx (λ t. OwnsBy s.tc.node s.tc.layout tx t x.body)
      (λ t. turn_owns s.tc.node s.tc.layout tx t x.body) o about apart there in
      owned_so (BackBy tx by.t by.turn) (ForthBy tx by.t by.turn) Back Forth tx
      (turned is_aborting tells_abort by.t by.found by.turn by.left by.more by.sends)
      (turned is_decided tells_commit by.t by.found by.turn by.left by.more by.sends) o.body (by.said by.inside)

module _ (A C : TxId → Type 0) (member : Member) (s : CoordinatorState) (of : IsCoordinatorOf member s) (x : Signal)
    (back : (tx : TxId) → Back member s of x tx → A tx) (forth : (tx : TxId) → Forth member s of x tx → C tx)
  where
    abbrev sends : List Outgoing
    sends = (coordinator_row s x).effects.sends

    owns : (o : Outgoing) → IsIn o sends → (tx : TxId) (body : Body) → o.body ≡ body → is_about tx body ≡ true
        → is_beside body ≡ false → Owns (Back member s of x tx) (Forth member s of x tx) tx body
    owns o there tx body is about apart =
        subst (Owns (Back member s of x tx) (Forth member s of x tx) tx) is
        (owned member s of x tx o there (ap (is_about tx) is ∙ about) (ap is_beside is ∙ apart))

    speaks : (o : Outgoing) → IsIn o sends → (body : Body) → o.body ≡ body → is_coordinator_word body ≡ true
        → Speaks A C body
    speaks o there (Chain (Abort tx key)) is word =
        back tx (owns o there tx (Chain (Abort tx key)) is (same_tx-self tx) refl (same_tx-self tx))
    speaks o there (Client (TcRollbackRep tx cause)) is word =
        back tx (owns o there tx (Client (TcRollbackRep tx cause)) is (same_tx-self tx) refl (same_tx-self tx))
    speaks o there (Chain (Commit tx key epoch chain at)) is word =
        forth tx (owns o there tx (Chain (Commit tx key epoch chain at)) is (same_tx-self tx) refl (same_tx-self tx))
    speaks o there (Chain (Complete tx key chain at)) is word =
        forth tx (owns o there tx (Chain (Complete tx key chain at)) is (same_tx-self tx) refl (same_tx-self tx))
    speaks o there (Chain (Aborted tx key)) is word = absurd cc
    speaks o there (Chain (Committed tx key)) is word = absurd cc
    speaks o there (Chain (Completed tx key)) is word = absurd cc
    speaks o there (Client (TcKeyFailRef tx)) is word = absurd cc
    speaks o there body is word = tt

    -- so it speaks of those, whatever it takes
    pub coordinator_speaks : AreSpoken A C (coordinator_row s x).effects.sends
    coordinator_speaks =
        each_from (IsSpoken A C) sends (λ o there.
        speaks o there o.body refl
        (each_in (IsWord is_coordinator_word) o sends (coordinator_words.takes s x).0 there))

-- and of none where a view is installed
pub coordinator_installs_speak : (A C : TxId → Type 0) (s : CoordinatorState) (view : View)
    → AreSpoken A C (install_row s view).effects.sends
coordinator_installs_speak A C s view =
    (coordinator_installed_each s view (IsSpoken A C) (λ (mark : Mark). Unit {0}) tt).0
