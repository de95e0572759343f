-- The step by which a transaction comes to be carried out: its coordinator sends the first commits, or all is over at
-- once. Before
-- it, and unless the transaction is given up, nothing is on its way that commits or completes its rows.
use Rattle.std.proofs.Common.{◌≡◌, ℕ, true, false, ◌||◌, List, [], ◌∷◌, refl, sym, ap, ◌∙◌, subst}
use Rattle.std.specs.List.{list_any}
use Rattle.std.proofs.lemmas.Bool.{or_left}
use Rattle.world_core.specs.Steps.{HostStep}
use Rattle.sig_core.specs.declared.member.TxId.{TxId}
use Rattle.sig_core.specs.declared.outs.Outgoing.{Outgoing}
use Rattle.sig_core.specs.declared.signal.Body.{Body}
use Rattle.sig_core.specs.declared.signal.Body.TheVariants.{Client, Chain}
use Rattle.sig_core.specs.declared.signal.chain.ChainSignal.TheVariants.{Abort, Commit, Complete}
use Rattle.sig_core.specs.declared.signal.client.ClientSignal.TheVariants.{TcCommitConf, TcRollbackRep}
use Rattle.sig_core.specs.Same.{same_tx}
use Rattle.sig_core.specs.Step.{Effects}
use Rattle.sig_core.proofs.TxLemmas.{same_tx-swap}
use Rattle.node_core.specs.declared.host.Host.{Host}
use Rattle.node_core.specs.Row.{row}
use Rattle.world_core.specs.Hosts.{home}
use Rattle.world_core.specs.Machine.{after, machine}
use Rattle.world_core.specs.Start.{Start}
use Rattle.host_laws.specs.Ways.{Way, back_by, forth_by, put_ways, sent_ways, tc_sends, way_of}
use Rattle.host_laws.proofs.coordinator.OneWay.{back_more, forth_more}
use Rattle.run_laws.specs.GivenUp.{is_carried_out, is_given_up}
use Rattle.run_laws.specs.Transit.{Comes, logs_of}
use Rattle.run_laws.proofs.carried.CommitBegins.{Aborts, is_back}
use Rattle.run_laws.proofs.hosts.TcSaid.{TcSays, rests, takes, tc_says}
use Rattle.run_laws.proofs.fades.Signals.{is_commit, is_sign}
use Rattle.run_laws.proofs.hosts.TcOwn.{AreSilent}
use Rattle.run_theory.proofs.EventCases.{event_leaves, event_own}

module _ (tx : TxId) where
  -- what says nothing of the transaction takes it nowhere
  silent_one : (b : Body) (cs : List TxId) → is_sign tx b ≡ false
      → list_any (same_tx tx) (forth_by (way_of b) cs) ≡ list_any (same_tx tx) cs
  silent_one (Chain (Commit other key epoch chain at)) cs e =
      ap (λ x. x || list_any (same_tx tx) cs) (same_tx-swap tx other ∙ e)
  silent_one (Chain (Abort other key)) cs e = refl
  silent_one (Chain (Complete other key chain at)) cs e = refl
  silent_one (Client (TcCommitConf other epoch)) cs e =
      ap (λ x. x || list_any (same_tx tx) cs) (same_tx-swap tx other ∙ e)
  silent_one (Client (TcRollbackRep other why)) cs e = refl
  silent_one _ cs e = refl

  silent_forth : (sends : List Outgoing) (cs : List TxId) → AreSilent tx sends
      → list_any (same_tx tx) (put_ways forth_by sends cs) ≡ list_any (same_tx tx) cs
  silent_forth [] cs silent = refl
  silent_forth (o ∷ sends) cs silent =
      silent_forth sends (forth_by (way_of o.body) cs) silent.1 ∙ silent_one o.body cs silent.0

  back_one : (b : Body) (bs : List TxId) → is_back tx b ≡ true → list_any (same_tx tx) (back_by (way_of b) bs) ≡ true
  back_one (Chain (Abort other key)) bs e =
      or_left (same_tx tx other) (list_any (same_tx tx) bs) (same_tx-swap tx other ∙ e)
  back_one _ bs e = absurd cc

  back_first : (sends : List Outgoing) (bs : List TxId) → Aborts tx sends
      → list_any (same_tx tx) (put_ways back_by sends bs) ≡ true
  back_first sends bs a =
      ap (λ os. list_any (same_tx tx) (put_ways back_by os bs)) a.is
      ∙ back_more (same_tx tx) a.more (back_by (way_of a.first.body) bs) (back_one a.first.body bs a.aborts)

  forth_one : (b : Body) (cs : List TxId) → is_commit tx b ≡ true
      → list_any (same_tx tx) (forth_by (way_of b) cs) ≡ true
  forth_one (Chain (Commit other key epoch chain at)) cs e =
      or_left (same_tx tx other) (list_any (same_tx tx) cs) (same_tx-swap tx other ∙ e)
  forth_one _ cs e = absurd cc

  forth_first : (sends : List Outgoing) (first : Outgoing) (more : List Outgoing) (cs : List TxId)
      → sends ≡ first ∷ more → is_commit tx first.body ≡ true
      → list_any (same_tx tx) (put_ways forth_by sends cs) ≡ true
  forth_first sends first more cs is commits =
      ap (λ os. list_any (same_tx tx) (put_ways forth_by os cs)) is
      ∙ forth_more (same_tx tx) more (forth_by (way_of first.body) cs) (forth_one first.body cs commits)

module _ (start : Start) (es : List HostStep) (e : HostStep) (come : Comes start es e) (tx : TxId) where
  abbrev h : ℕ
  h = e.host

  abbrev at_home : ℕ
  at_home = home start tx

  abbrev g : Host
  g = after start h (logs_of start es h)

  abbrev said : List Outgoing
  said = tc_sends g e.step.taken

  -- a step that says nothing of it takes it nowhere
  pub carried_silent : AreSilent tx said
      → is_carried_out start (logs_of start (e ∷ es)) tx ≡ is_carried_out start (logs_of start es) tx
  carried_silent silent =
      event_leaves (machine start) e es (λ k log. list_any (same_tx tx) (sent_ways start forth_by k log))
      (silent_forth tx said (sent_ways start forth_by h (logs_of start es h)) silent) at_home

  -- where nothing of it is sent nothing is said of it
  pub said_silent : AreSilent tx (row g e.step.taken).effects.sends → AreSilent tx said
  said_silent silent = by (tc_says g e.step.taken)
    where
      by : TcSays g e.step.taken (row g e.step.taken) → AreSilent tx said
      by (takes step says) = subst (AreSilent tx) (ap (λ (f : Effects). f.sends) step.effects ∙ sym says) silent
      by (rests same says) = subst (AreSilent tx) (sym says) tt

  pub given_first : h ≡ at_home → Aborts tx said → is_given_up start (logs_of start (e ∷ es)) tx ≡ true
  given_first same aborts =
      event_own (machine start) e es (λ k log. list_any (same_tx tx) (sent_ways start back_by k log) ≡ true) at_home
      same (back_first tx said (sent_ways start back_by h (logs_of start es h)) aborts)

  pub carried_first : h ≡ at_home → (first : Outgoing) (more : List Outgoing) → said ≡ first ∷ more
      → is_commit tx first.body ≡ true → is_carried_out start (logs_of start (e ∷ es)) tx ≡ true
  carried_first same first more is commits =
      event_own (machine start) e es (λ k log. list_any (same_tx tx) (sent_ways start forth_by k log) ≡ true) at_home
      same (forth_first tx said first more (sent_ways start forth_by h (logs_of start es h)) is commits)
