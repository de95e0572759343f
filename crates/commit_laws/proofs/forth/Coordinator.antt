-- What a step of a member's coordinator says of commits: it is of its own transactions, each of which it shows to have
-- gone forth.
use Rattle.std.proofs.Common.{◌≡◌, ◌∙◌, ◌++◌, ℕ, Bool, true, false, List, refl, sym, ap}
use Rattle.std.proofs.lemmas.Bool.{true≢false}
use Rattle.std.specs.Prelude.{if◌then◌else◌, None, Some}
use Rattle.run_theory.specs.Lists.{IsIn}
use Rattle.run_theory.proofs.Pasts.{each_from, each_in}
use Rattle.sig_core.specs.declared.member.Member.{Member}
use Rattle.sig_core.specs.declared.member.TxId.{TxId}
use Rattle.sig_core.specs.declared.outs.Outgoing.{Outgoing}
use Rattle.sig_core.specs.declared.signal.Body.{Body}
use Rattle.sig_core.specs.declared.signal.Body.TheVariants.{Chain, Client, Takeover}
use Rattle.sig_core.specs.declared.signal.Signal.{Signal}
use Rattle.sig_core.specs.declared.signal.chain.ChainSignal.TheVariants.{Commit, Committed, Complete, Completed}
use Rattle.sig_core.specs.declared.signal.client.ClientSignal.TheVariants.{TcCommitAck, TcCommitConf, TcKeyFailConf}
use Rattle.sig_core.specs.declared.signal.takeover.TakeoverSignal.TheVariants.{LqhTransConf}
use Rattle.sig_core.specs.declared.view.View.{View}
use Rattle.sig_core.specs.Step.{Step}
use Rattle.sig_core.specs.Same.{same_tx}
use Rattle.sig_core.proofs.Keys.{same_tx-self}
use Rattle.host_laws.proofs.coordinator.OfLive.{each_found}
use Rattle.tc_block.specs.Phases.{is_decided}
use Rattle.tc_block.specs.Sends.{reported}
use Rattle.tc_block.specs.Turn.{Turn}
use Rattle.tc_block.specs.declared.transaction.Transaction.{Transaction}
use Rattle.tc_views.specs.Coordinator.{coordinator_row}
use Rattle.tc_views.specs.State.{CoordinatorState}
use Rattle.tc_views.specs.Views.{install_row}
use Rattle.outcome_laws.specs.Counts.{IsCoordinatorOf, coordinator_member}
use Rattle.request_laws.specs.Ways.{entry_of, is_at, is_sent, tells_commit}
use Rattle.request_laws.proofs.phases.OneWay.{sent_before}
use Rattle.commit_laws.proofs.forth.Speaks.{AreSpoken, Speaks}
use Rattle.request_laws.proofs.phases.Steps.{is_about, left_of}
use Rattle.request_laws.proofs.routes.ChainsStay.{any_in}
use Rattle.step_forms.specs.Does.{IsWord}
use Rattle.frag_map.specs.Layout.{Layout}
use Rattle.tc_block.specs.declared.phase.Phase.TheVariants.{Committing, Completing}
use Rattle.tc_block.proofs.TurnSends.{InPhase, IsConfirmed, TurnSends, at_completion, at_end, is_before, is_behind}
use Rattle.tc_block.specs.declared.phase.Phase.{Phase}
use Rattle.tc_views.specs.Words.{is_coordinator_word}
use Rattle.tc_views.proofs.Walk.{coordinator_installed_each, coordinator_words}
use Rattle.sig_core.specs.declared.mark.Mark.{Mark}
use Rattle.commit_laws.proofs.hosts.CoordinatorSends.{is_beside, sent_by}

-- the signal commits the transaction, completes it, or tells its client of the commit
abbrev pub drives_forth : TxId → Body → Bool
drives_forth tx (Chain (Commit other key epoch chain at)) = same_tx other tx
drives_forth tx (Chain (Complete other key chain at)) = same_tx other tx
drives_forth tx (Client (TcCommitConf other epoch)) = same_tx other tx
drives_forth tx body = false

-- it is decided before a turn, or behind it, or its client is told as it ends
pub data DecidedBy (tx : TxId) (t : Transaction) (turn : Turn) : Type 0 where
  before : is_decided t.phase ≡ true → DecidedBy tx t turn
  behind : turn.over ≡ false → is_decided turn.step.state.phase ≡ true → DecidedBy tx t turn
  telling : is_sent (tells_commit tx) turn.step.effects.sends ≡ true → DecidedBy tx t turn

-- what a transaction sends in a turn drives it forth only where it is decided
module _ (node : ℕ) (layout : Layout) (tx : TxId) (t : Transaction) (body : Body) where
  abbrev DrivesIf : Turn → Outgoing → Type 0
  DrivesIf turn o = IsIn o turn.step.effects.sends → drives_forth tx o.body ≡ true → DecidedBy tx t turn

  phased : (turn : Turn) (phase : Phase) → InPhase t turn phase → is_decided phase ≡ true → DecidedBy tx t turn
  phased turn phase (is_before at) decided = before (ap is_decided at ∙ decided)
  phased turn phase (is_behind on at) decided = behind on (ap is_decided at ∙ decided)

  turn_drives : TurnSends node layout tx t body DrivesIf
  turn_drives = record {
    drives = record {
      goes_on = λ turn left inside is. absurd (true≢false (sym is));
      commits = λ turn epoch awaited has in_phase u there inside is.
          phased turn (Committing epoch awaited) in_phase refl;
      confirms = λ turn epoch has how inside is. confirmed turn epoch how inside;
      completes = λ turn epoch awaited has in_phase u there written inside is.
          phased turn (Completing epoch awaited) in_phase refl;
      aborts = λ turn why verifying awaited given in_phase key r there inside is. absurd (true≢false (sym is));
      leaves = λ turn over inside is. absurd (true≢false (sym is));
      rolls_back = λ turn why given over inside is. absurd (true≢false (sym is));
    };
    operates = λ op is can inside drives. absurd (true≢false (sym drives));
    answers = λ key answer asked is own at inside drives. absurd (true≢false (sym drives));
    waits = λ asked is on r inside drives. absurd (true≢false (sym drives));
    decides = λ is ready inside drives. absurd (true≢false (sym drives));
  }
    where
      confirmed : (turn : Turn) (epoch : ℕ) → IsConfirmed t turn epoch
          → IsIn (reported tx epoch) turn.step.effects.sends → DecidedBy tx t turn
      confirmed turn epoch (at_completion awaited in_phase) inside =
          phased turn (Completing epoch awaited) in_phase refl
      confirmed turn epoch (at_end over) inside =
          telling (any_in (λ (o : Outgoing). tells_commit tx o.body) (reported tx epoch) turn.step.effects.sends inside
          (same_tx-self tx))

-- it is decided before a step, or behind it, or its client is told
pub data ShowsForth (s now : CoordinatorState) (tx : TxId) (sends : List Outgoing) : Type 0 where
  before_it : is_at is_decided (entry_of s tx) ≡ true → ShowsForth s now tx sends
  behind_it : is_at is_decided (entry_of now tx) ≡ true → ShowsForth s now tx sends
  tells_it : is_sent (tells_commit tx) sends ≡ true → ShowsForth s now tx sends

-- and is the member's own
pub record GoesForth (member : Member) (s now : CoordinatorState) (tx : TxId) (sends : List Outgoing) : Type 0 where
  pub own : coordinator_member tx ≡ member
  pub shows : ShowsForth s now tx sends

module _ (member : Member) (s : CoordinatorState) (of : IsCoordinatorOf member s) (x : Signal) (tx : TxId) where
  abbrev step : Step CoordinatorState
  step = coordinator_row s x

  abbrev Forth : Type 0
  Forth = GoesForth member s step.state tx step.effects.sends

  pub own_is : (t : Transaction) → entry_of s tx ≡ Some t → coordinator_member tx ≡ member
  own_is t there =
      each_found (λ (e : TxId × Transaction). coordinator_member e.0 ≡ member) s.tc.live tx t of.own there

  -- by a turn of it, beside which more may be sent
  turned : (t : Transaction) → entry_of s tx ≡ Some t → (turn : Turn) → entry_of step.state tx ≡ left_of turn
      → (more : List Outgoing) → step.effects.sends ≡ turn.step.effects.sends ++ more → DecidedBy tx t turn → Forth
  turned t there turn now more sends (before is) =
      record { own = own_is t there; shows = before_it (ap (is_at is_decided) there ∙ is) }
  turned t there turn now more sends (behind on is) =
      record {
        own = own_is t there;
        shows = behind_it (ap (is_at is_decided) now
            ∙ (ap (λ b. is_at is_decided (if b then None else Some turn.step.state)) on ∙ is));
      }
  turned t there turn now more sends (telling is) =
      record {
        own = own_is t there;
        shows = tells_it (ap (is_sent (tells_commit tx)) sends
            ∙ sent_before (tells_commit tx) turn.step.effects.sends more is);
      }

  drives : (o : Outgoing) → IsIn o step.effects.sends → is_about tx o.body ≡ true → is_beside o.body ≡ false
      → drives_forth tx o.body ≡ true → Forth
  drives o there about apart is =
      let by = sent_by member s of x tx (λ t. DrivesIf s.tc.node s.tc.layout tx t x.body)
      (λ t. turn_drives s.tc.node s.tc.layout tx t x.body) o about apart there in
      turned by.t by.found by.turn by.left by.more by.sends (by.said by.inside is)

-- so it says this of commits, where whoever goes forth by the step is so
module _ (F A : TxId → Type 0) where
  pub coordinator_speaks : (member : Member) (s : CoordinatorState) (of : IsCoordinatorOf member s) (x : Signal)
      → ((tx : TxId) → GoesForth member s (coordinator_row s x).state tx (coordinator_row s x).effects.sends → F tx)
      → AreSpoken F A (coordinator_row s x).effects.sends
  coordinator_speaks member s of x so =
      each_from _ sends (λ o there.
      by o there o.body refl (each_in (IsWord is_coordinator_word) o sends (coordinator_words.takes s x).0 there))
    where
      sends : List Outgoing
      sends = (coordinator_row s x).effects.sends

      goes : (o : Outgoing) → IsIn o sends → (tx : TxId) → is_about tx o.body ≡ true → is_beside o.body ≡ false
          → drives_forth tx o.body ≡ true → F tx
      goes o there tx about apart is = so tx (drives member s of x tx o there about apart is)

      by : (o : Outgoing) → IsIn o sends → (body : Body) → o.body ≡ body → is_coordinator_word body ≡ true
          → Speaks F A body
      by o there (Chain (Commit tx key epoch chain at)) is word =
          goes o there tx (ap (is_about tx) is ∙ same_tx-self tx) (ap is_beside is)
          (ap (drives_forth tx) is ∙ same_tx-self tx)
      by o there (Chain (Complete tx key chain at)) is word =
          goes o there tx (ap (is_about tx) is ∙ same_tx-self tx) (ap is_beside is)
          (ap (drives_forth tx) is ∙ same_tx-self tx)
      by o there (Client (TcCommitConf tx epoch)) is word =
          goes o there tx (ap (is_about tx) is ∙ same_tx-self tx) (ap is_beside is)
          (ap (drives_forth tx) is ∙ same_tx-self tx)
      by o there (Chain (Committed tx key)) is word = absurd cc
      by o there (Chain (Completed tx key)) is word = absurd cc
      by o there (Client (TcKeyFailConf tx epoch)) is word = absurd cc
      by o there (Client (TcCommitAck tx)) is word = absurd cc
      by o there (Takeover (LqhTransConf tx key told epoch)) is word = absurd cc
      by o there body is word = tt

  pub coordinator_installs_speak : (s : CoordinatorState) (view : View)
      → AreSpoken F A (install_row s view).effects.sends
  coordinator_installs_speak s view =
      (coordinator_installed_each s view (λ (o : Outgoing). Speaks F A o.body) (λ (mark : Mark). Unit {0}) tt).0
