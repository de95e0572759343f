-- Whether a transaction is given up: a step that doesn't take it back leaves that as it was, and one that its
-- coordinator has is given up just where it is being aborted.
use Rattle.std.proofs.Common.{Bool, List, [], ap, false, refl, subst, sym, true, ℕ, ◌∙◌, ◌∷◌, ◌≡◌}
use Rattle.std.specs.List.{list_any}
use Rattle.std.specs.Prelude.{◌||◌, Some}
use Rattle.sig_core.proofs.Keys.{same_tx-self}
use Rattle.sig_core.proofs.TxLemmas.{same_tx-swap}
use Rattle.sig_core.specs.declared.member.TxId.{TxId}
use Rattle.sig_core.specs.declared.outs.Outgoing.{Outgoing}
use Rattle.sig_core.specs.declared.signal.Body.{Body}
use Rattle.sig_core.specs.declared.signal.Body.TheVariants.{Chain, Client}
use Rattle.sig_core.specs.declared.signal.chain.ChainSignal.TheVariants.{Abort, Commit, Complete}
use Rattle.sig_core.specs.declared.signal.client.ClientSignal.TheVariants.{TcCommitConf, TcRollbackRep}
use Rattle.sig_core.specs.Same.{same_tx}
use Rattle.tc_block.proofs.LiveKeeps.{SendsBeside}
use Rattle.tc_block.proofs.TurnRows.{turn_for}
use Rattle.tc_block.specs.declared.transaction.Transaction.{Transaction}
use Rattle.tc_block.specs.Phases.{is_aborting}
use Rattle.tc_block.specs.State.{TcState}
use Rattle.node_core.specs.Blocks.{tc_of}
use Rattle.world_core.specs.Hosts.{home}
use Rattle.world_core.specs.Machine.{after, machine}
use Rattle.world_core.specs.Start.{Start}
use Rattle.world_core.specs.Steps.{HostStep}
use Rattle.host_laws.proofs.coordinator.OfLive.{each_found}
use Rattle.host_laws.proofs.coordinator.OneWay.{back_aborting}
use Rattle.host_laws.proofs.hosts.SendKinds.{each_of}
use Rattle.host_laws.proofs.coordinator.Lives.{apart}
use Rattle.host_laws.proofs.coordinator.TurnKinds.{OwnKinds, TurnOnly, own_kinds}
use Rattle.host_laws.specs.Ways.{back_by, put_ways, sent_ways, tc_sends, way_of}
use Rattle.run_laws.specs.GivenUp.{is_given_up}
use Rattle.run_laws.specs.Live.{live_at}
use Rattle.run_laws.specs.Transit.{Comes, logs_of}
use Rattle.run_laws.proofs.hosts.TcSound.{log_sound}
use Rattle.run_laws.proofs.tokens.Coordinator.{IsOwned}
use Rattle.run_laws.proofs.hosts.TxTurns.{OthersSend, turn_each}
use Rattle.order_laws.proofs.UnansweredTurns.{AreUnbacked, is_backing}
use Rattle.run_theory.proofs.EventCases.{event_leaves}

-- what takes no other transaction back
abbrev is_own : TxId → Body → Bool
is_own one (Chain (Abort tx key)) = same_tx tx one
is_own one (Client (TcRollbackRep tx cause)) = same_tx tx one
is_own one body = true

own_unbacked : (one tx : TxId) → same_tx one tx ≡ false → (body : Body) → is_own one body ≡ true
    → is_backing tx body ≡ false
own_unbacked one tx differs (Chain (Abort other key)) e = apart tx one other differs e
own_unbacked one tx differs (Client (TcRollbackRep other cause)) e = apart tx one other differs e
own_unbacked one tx differs _ e = refl

own : (tx : TxId) (body : Body) → OwnKinds tx (is_own tx) body
own tx body = record {
  chains = record {
    commits = λ key epoch chain at. refl;
    completes = λ key chain at. refl;
    aborts = λ key. same_tx-self tx;
    goes_on = λ at. refl;
  };
  operates = λ op chain. refl;
  answers = λ key answer is. refl;
  waits = λ key. refl;
  verifies = λ ops. refl;
  verified = refl;
  committed = λ epoch. refl;
  rolled_back = λ why. same_tx-self tx;
}

pub others_unbacked : (tx : TxId) (s : TcState) (body : Body)
    → OthersSend (λ (o : Outgoing). is_backing tx o.body ≡ false) tx s body
others_unbacked tx s body one off its t =
    each_of (is_own one) (λ o. is_backing tx o.body ≡ false) (λ o e. own_unbacked one tx off o.body e)
    (turn_for s.node s.layout one body t).step.effects.sends
    (turn_each s.node s.layout one body t (TurnOnly (is_own one))
    (own_kinds (is_own one) one body (own one body) s.node s.layout t) its)

pub beside_unbacked : (tx : TxId) (s : TcState) → SendsBeside (λ (o : Outgoing). is_backing tx o.body ≡ false) s
beside_unbacked tx s =
    record { full = λ name. (refl, tt); begins = λ name. (refl, tt); passes = λ one ahead. (refl, tt) }

module _ (tx : TxId) where
  -- what doesn't take it back leaves it where it was
  back_one : (b : Body) (bs : List TxId) → is_backing tx b ≡ false
      → list_any (same_tx tx) (back_by (way_of b) bs) ≡ list_any (same_tx tx) bs
  back_one (Chain (Abort other key)) bs e =
      ap (λ x. x || list_any (same_tx tx) bs) (same_tx-swap tx other ∙ e)
  back_one (Client (TcRollbackRep other why)) bs e =
      ap (λ x. x || list_any (same_tx tx) bs) (same_tx-swap tx other ∙ e)
  back_one (Chain (Commit other key epoch chain at)) bs e = refl
  back_one (Chain (Complete other key chain at)) bs e = refl
  back_one (Client (TcCommitConf other epoch)) bs e = refl
  back_one _ bs e = refl

  back_silent : (sends : List Outgoing) (bs : List TxId) → AreUnbacked tx sends
      → list_any (same_tx tx) (put_ways back_by sends bs) ≡ list_any (same_tx tx) bs
  back_silent [] bs all = refl
  back_silent (o ∷ sends) bs all =
      back_silent sends (back_by (way_of o.body) bs) all.1 ∙ back_one o.body bs all.0

module _ (start : Start) (es : List HostStep) (e : HostStep) (come : Comes start es e) (tx : TxId) where
  abbrev h : ℕ
  h = e.host

  abbrev at_home : ℕ
  at_home = home start tx

  abbrev said : List Outgoing
  said = tc_sends (after start h (logs_of start es h)) e.step.taken

  -- a step that doesn't take it back leaves it where it was
  pub given_same : AreUnbacked tx said
      → is_given_up start (logs_of start (e ∷ es)) tx ≡ is_given_up start (logs_of start es) tx
  given_same none =
      event_leaves (machine start) e es (λ k log. list_any (same_tx tx) (sent_ways start back_by k log))
      (back_silent tx said (sent_ways start back_by h (logs_of start es h)) none) at_home

  -- as does one by which the coordinator says nothing
  pub given_quiet : said ≡ [] → is_given_up start (logs_of start (e ∷ es)) tx ≡ is_given_up start (logs_of start es) tx
  given_quiet nil = given_same (subst (AreUnbacked tx) (sym nil) tt)

module _ (start : Start) (es : List HostStep) (tx : TxId) (u : Transaction)
    (live_was : live_at start (logs_of start es) tx ≡ Some u) where
  pub aborting_given : is_aborting u.phase ≡ true → is_given_up start (logs_of start es) tx ≡ true
  aborting_given on =
      (each_found
      (IsOwned s.node s.next_seq (sent_ways start back_by (home start tx) (logs_of start es (home start tx))))
      s.live tx u (log_sound start (home start tx) (logs_of start es (home start tx))).tc.live live_was).given on
    where
      s : TcState
      s = tc_of (after start (home start tx) (logs_of start es (home start tx)))

  pub given_aborting : is_given_up start (logs_of start es) tx ≡ true → is_aborting u.phase ≡ true
  given_aborting given =
      each_found (λ (x : TxId × Transaction). list_any (same_tx x.0) (sent_ways start back_by (home start tx)
      (logs_of start es (home start tx))) ≡ true → is_aborting x.1.phase ≡ true)
      (tc_of (after start (home start tx) (logs_of start es (home start tx)))).live tx u
      (back_aborting start (home start tx) (logs_of start es (home start tx))) live_was given
