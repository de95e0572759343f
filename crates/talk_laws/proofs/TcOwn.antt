-- A coordinator asks for no operations, and answers only those of its own transactions; so of the hosts only that of
-- the coordinator which began a transaction answers its operations, and only the shell's asks for them.
use Rattle.std.proofs.Common.{◌≡◌, ◌≢◌, ◌≤◌, ◌<◌, ◌⊎◌, ◌∙◌, ℕ, zero, suc, Bool, true, false, List, ◌∷◌, ap, arith, inl}
use Rattle.std.proofs.Common.{inr, refl, subst, sym}
use Rattle.std.proofs.lemmas.Bool.{cases_lt}
use Rattle.run_theory.specs.Lists.{Each, IsIn}
use Rattle.run_theory.proofs.Pasts.{each_after, each_append, each_map}
use Rattle.sig_core.specs.declared.member.Member.{Member}
use Rattle.sig_core.specs.declared.member.TxId.{TxId}
use Rattle.sig_core.specs.declared.outs.Outgoing.{Outgoing}
use Rattle.sig_core.specs.declared.signal.Body.{Body}
use Rattle.sig_core.specs.declared.signal.Body.TheVariants.{Client}
use Rattle.sig_core.specs.declared.signal.Signal.{Signal}
use Rattle.sig_core.specs.declared.signal.client.ClientSignal.TheVariants.{TcKeyConf, TcKeyReq}
use Rattle.sig_core.specs.declared.view.View.{View}
use Rattle.sig_core.specs.Same.{same_tx}
use Rattle.sig_core.proofs.TxLemmas.{same_tx-is}
use Rattle.report_laws.specs.Answered.{is_answered}
use Rattle.tc_block.specs.Live.{turned_if}
use Rattle.tc_block.specs.Turn.{Turn}
use Rattle.tc_block.specs.declared.transaction.Transaction.{Transaction}
use Rattle.tc_block.proofs.EachTurn.{rows_of}
use Rattle.tc_block.proofs.LiveSplit.{Split}
use Rattle.tc_views.proofs.Walk.{coordinator_outcomes}
use Rattle.tc_views.specs.Coordinator.{coordinator_row}
use Rattle.tc_views.specs.State.{CoordinatorState, go_on_if}
use Rattle.tc_views.specs.Views.{install_row}
use Rattle.world_core.specs.Hosts.{hosts}
use Rattle.world_core.specs.Start.{Start, made}
use Rattle.world_core.specs.Steps.{HostStep}
use Rattle.world_views.specs.Hosts.{started}
use Rattle.host_laws.proofs.coordinator.Keys.{key_of_tx}
use Rattle.view_laws.specs.Runs.{AreOfCluster}
use Rattle.moment_laws.specs.Places.{tc_of}
use Rattle.moment_laws.proofs.MomentHosts.{TcHost, of_none, of_tc, tc_host_is}
use Rattle.outcome_laws.specs.Counts.{IsCoordinatorOf, coordinator_member, count_sent}
use Rattle.outcome_laws.proofs.once.Begins.{no_tc_sends, none_fresh, none_taken, nowhere_sends, tc_begins}
use Rattle.outcome_laws.proofs.client.SendsNoAnswers.{is_coordinators}
use Rattle.outcome_laws.proofs.downfall.NeverDecided.{beside_is}
use Rattle.outcome_laws.proofs.once.AlongLogs.{log_light, sends_in}
use Rattle.outcome_laws.proofs.once.NobodyElse.{IsBeside, beside_light, nothing, of_nobody}
use Rattle.outcome_laws.proofs.once.Counted.{count_none, is_counted}
use Rattle.outcome_laws.proofs.once.CoordinatorScale.{IsTcOf, coordinator_light, of_coordinator}
use Rattle.outcome_laws.proofs.once.Scales.{AreLight}
use Rattle.talk_laws.proofs.ClientLogs.{uncounted_key}
use Rattle.talk_laws.proofs.TcTalks.{AreMute, IsMute, Talks, answers, asks, is_talk, more_mute, operates, rests}
use Rattle.talk_laws.proofs.TcTalks.{resume_talks, turn_talks}

abbrev pub IsOwnTalk : Member → Body → Type 0
IsOwnTalk me (Client (TcKeyConf tx answer)) = coordinator_member tx ≡ me
IsOwnTalk me (Client (TcKeyReq tx op)) = ⊥
IsOwnTalk me body = Unit {0}

abbrev OwnTalk : Member → Outgoing → Type 0
OwnTalk me sent = IsOwnTalk me sent.body

mute_own : (me : Member) (body : Body) → is_talk body ≡ false → IsOwnTalk me body
mute_own me (Client (TcKeyConf tx answer)) mute = absurd cc
mute_own me (Client (TcKeyReq tx op)) mute = absurd cc
mute_own me body mute = tt

module _ (me : Member) where
  all_own : (sends : List Outgoing) → AreMute sends → Each (OwnTalk me) sends
  all_own sends mute = each_map IsMute (OwnTalk me) sends (λ sent is. mute_own me sent.body is) mute

  turn_own : (node : ℕ) (u : TxId) (t : Transaction) (body : Body) (turn : Turn) → coordinator_member u ≡ me
      → Talks node u t body turn → Each (OwnTalk me) turn.step.effects.sends
  turn_own node u t body turn own (rests mute is) = all_own turn.step.effects.sends mute
  turn_own node u t body turn own (operates asked is mute opened ops asked_is) = all_own turn.step.effects.sends mute
  turn_own node u t body turn own (answers asked answer opened asked_is ops none sends) =
      subst (Each (OwnTalk me)) (sym sends) (own, tt)
  turn_own node u t body turn own (asks opened shut sends) = subst (Each (OwnTalk me)) (sym sends) (tt, tt)

  row_own : (s : CoordinatorState) (x : Signal) → IsCoordinatorOf me s
      → Each (OwnTalk me) (coordinator_row s x).effects.sends
  row_own s x of =
      coordinator_outcomes (λ u t turn. Talks s.tc.node u t x.body turn) (λ step. Each (OwnTalk me) step.effects.sends)
      s x
      (record {
        calm = record {
          turns = λ u t at split.
              rows_of s.tc.node s.tc.layout u t x.body (λ turn. Talks s.tc.node u t x.body turn)
              (turn_talks s.tc.node s.tc.layout u t x.body);
          turned = λ u t at split turn talks. turned_own u t at split turn talks turn.over;
          stays = tt;
          full = λ name. (tt, tt);
          begins = λ name. (tt, tt);
          passes = λ u ahead. (tt, tt);
        };
        resumes = λ u t at split. resume_talks s.tc.node s.tc.layout u t x.body;
        promises = (tt, tt);
        goes_on = λ step node b own.
            each_append (OwnTalk me) step.effects.sends (go_on_if node b) own
            (all_own (go_on_if node b) (more_mute node b));
      })
    where
      Own : TxId × Transaction → Type 0
      Own e = coordinator_member e.0 ≡ me

      turned_own : (u : TxId) (t : Transaction) (at : ℕ) (split : Split u t s.tc.live at) (turn : Turn)
          → Talks s.tc.node u t x.body turn → (b : Bool)
          → Each (OwnTalk me) (turned_if s.tc at turn b).effects.sends
      turned_own u t at split turn talks true =
          turn_own s.tc.node u t x.body turn
          (each_after Own split.front ((u, t) ∷ split.back) (subst (Each Own) split.is of.own)).0 talks
      turned_own u t at split turn talks false =
          turn_own s.tc.node u t x.body turn
          (each_after Own split.front ((u, t) ∷ split.back) (subst (Each Own) split.is of.own)).0 talks

  installs_own : (s : CoordinatorState) (view : View) → Each (OwnTalk me) (install_row s view).effects.sends
  unfolding install_row
  installs_own s view = all_own (go_on_if s.tc.node _) (more_mute s.tc.node _)

  -- so what it never sends it never has sent
  module _ (p : Body → Bool) (counts : (body : Body) → is_counted body ≡ false → p body ≡ false)
      (apart : (body : Body) → IsOwnTalk me body → p body ≡ false)
    where
      none_of : (sends : List Outgoing) → Each (OwnTalk me) sends → count_sent p sends ≡ 0
      none_of sends own =
          count_none (λ (sent : Outgoing). p sent.body) sends
          (each_map (OwnTalk me) (λ (sent : Outgoing). p sent.body ≡ false) sends (λ sent is. apart sent.body is) own)

      light : AreLight (of_coordinator p nothing) (IsTcOf me)
      light =
          coordinator_light p counts me nothing
          (λ s x of. omega (arith, none_of (coordinator_row s x).effects.sends (row_own s x of)))
          (λ s view of. omega (arith, none_of (install_row s view).effects.sends (installs_own s view)))

      pub tc_sends_none : (start : Start) (logs : ℕ → List HostStep) → AreOfCluster start logs → IsIn me (made start)
          → sends_in p start (tc_of start me) (logs (tc_of start me)) ≡ 0
      tc_sends_none start logs are there =
          let h = tc_of start me in
          let is =
          log_light (of_coordinator p nothing) (IsTcOf me) light start h (tc_begins start are.nobody me there) (logs h)
          (are.right.local h) in
          omega (arith, is.below, none_taken (logs h), none_fresh p (started start h).parts)

uncounted_answered : (tx : TxId) (body : Body) → is_counted body ≡ false → is_answered tx body ≡ false
uncounted_answered tx (Client (TcKeyConf other answer)) none = absurd cc
uncounted_answered tx body none = refl

answered_coordinators : (tx : TxId) (body : Body) → is_coordinators body ≡ false → is_answered tx body ≡ false
answered_coordinators tx (Client (TcKeyConf other answer)) none = absurd cc
answered_coordinators tx body none = refl

key_apart : (tx : TxId) (me : Member) (body : Body) → IsOwnTalk me body → key_of_tx tx body ≡ false
key_apart tx me (Client (TcKeyReq other op)) own = absurd own
key_apart tx me body own = refl

module _ (start : Start) (logs : ℕ → List HostStep) (are : AreOfCluster start logs) (tx : TxId) where
  -- no node asks for operations
  pub nodes_ask_none : (h : ℕ) → h ≢ 0 → sends_in (key_of_tx tx) start h (logs h) ≡ 0
  nodes_ask_none zero other = absurd (other refl)
  nodes_ask_none (suc k) other = by (cases_lt (suc k) (hosts start))
    where
      of_host : TcHost start (suc k) → sends_in (key_of_tx tx) start (suc k) (logs (suc k)) ≡ 0
      of_host (of_tc me there at) =
          subst (λ (h : ℕ). sends_in (key_of_tx tx) start h (logs h) ≡ 0) (sym at)
          (tc_sends_none me (key_of_tx tx) (uncounted_key tx) (key_apart tx me) start logs are there)
      of_host (of_none none) =
          let is =
          log_light (of_nobody (key_of_tx tx)) IsBeside (beside_light (key_of_tx tx) (uncounted_key tx)) start (suc k)
          (beside_is start are.nobody k none) (logs (suc k)) (are.right.local (suc k)) in
          omega (arith, is.below, none_taken (logs (suc k)))

      by : (suc k < hosts start) ⊎ (hosts start ≤ suc k) → sends_in (key_of_tx tx) start (suc k) (logs (suc k)) ≡ 0
      by (inl low) = of_host (tc_host_is start are.nobody (suc k) low)
      by (inr high) = nowhere_sends (key_of_tx tx) (uncounted_key tx) start logs are (suc k) high

  -- and only the host of its coordinator answers them
  pub others_answer_none : (h : ℕ) → h ≢ tc_of start (coordinator_member tx)
      → sends_in (is_answered tx) start h (logs h) ≡ 0
  others_answer_none h other = by (cases_lt h (hosts start))
    where
      apart : (me : Member) → (coordinator_member tx ≡ me → ⊥) → (body : Body) → IsOwnTalk me body
          → is_answered tx body ≡ false
      apart me differs (Client (TcKeyConf u answer)) own = which (same_tx u tx) refl
        where
          which : (b : Bool) → same_tx u tx ≡ b → b ≡ false
          which false is = refl
          which true is = absurd (differs (sym (ap coordinator_member (same_tx-is u tx is)) ∙ own))
      apart me differs body own = refl

      of_host : TcHost start h → sends_in (is_answered tx) start h (logs h) ≡ 0
      of_host (of_none none) =
          no_tc_sends (is_answered tx) (uncounted_answered tx) start logs are (answered_coordinators tx) h none
      of_host (of_tc me there at) =
          subst (λ (k : ℕ). sends_in (is_answered tx) start k (logs k) ≡ 0) (sym at)
          (tc_sends_none me (is_answered tx) (uncounted_answered tx)
          (apart me (λ same. other (at ∙ ap (tc_of start) (sym same)))) start logs are there)

      by : (h < hosts start) ⊎ (hosts start ≤ h) → sends_in (is_answered tx) start h (logs h) ≡ 0
      by (inl low) = of_host (tc_host_is start are.nobody h low)
      by (inr high) = nowhere_sends (is_answered tx) (uncounted_answered tx) start logs are h high
