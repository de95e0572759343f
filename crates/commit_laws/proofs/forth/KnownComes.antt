-- Whoever comes to be known to the client's side commits: a takeover tells of a commit that left traces, and
-- coordinators are heard that are full members of the current view alone.
use Rattle.std.proofs.Common.{◌≡◌, ◌⊎◌, ◌<◌, ◌||◌, ◌∙◌, ℕ, true, false, length, List, [], ◌∷◌, refl, sym, subst}
use Rattle.std.proofs.Common.{arith, inl, inr}
use Rattle.std.proofs.lemmas.Bool.{or_cases, true≢false}
use Rattle.std.specs.Prelude.{Option, None, Some}
use Rattle.run_theory.specs.Lists.{IsIn}
use Rattle.run_theory.proofs.Pasts.{each_in}
use Rattle.commit_laws.proofs.hosts.MarkCases.{known_cases}
use Rattle.frag_map.specs.Layout.{chain_of}
use Rattle.sig_core.specs.declared.member.Member.{Member}
use Rattle.sig_core.specs.declared.member.TxId.{TxId}
use Rattle.sig_core.specs.declared.outs.Outgoing.{Outgoing}
use Rattle.sig_core.specs.declared.rows.PendingRecord.{PendingRecord}
use Rattle.sig_core.specs.declared.signal.Body.{Body}
use Rattle.sig_core.specs.declared.signal.Body.TheVariants.{Client}
use Rattle.sig_core.specs.declared.signal.client.ClientSignal.{ClientSignal}
use Rattle.sig_core.specs.declared.signal.client.ClientSignal.TheVariants.{TcCommitAck, TcCommitConf, TcKeyFailConf}
use Rattle.sig_core.proofs.TxLemmas.{same_tx-is}
use Rattle.node_views.specs.WellFormed.{is_well_formed}
use Rattle.world_core.specs.Start.{NobodyStarts, Start}
use Rattle.world_core.specs.Steps.{Addressed, HostStep}
use Rattle.world_views.specs.Hosts.{started}
use Rattle.world_views.specs.Machine.{IsOwnWork, step_after}
use Rattle.moment_laws.specs.Moments.{IsMoment, current, logs_of}
use Rattle.moment_laws.proofs.MomentSignals.{EachSent, taken_told}
use Rattle.moment_laws.proofs.MomentViews.{moment_installed, moment_less}
use Rattle.request_laws.specs.Routed.{layout_in}
use Rattle.request_laws.specs.Ways.{is_sent}
use Rattle.request_laws.proofs.routes.PartsOfTheFirst.{chains_in}
use Rattle.commit_laws.specs.Commits.{ComesWhenDone}
use Rattle.commit_laws.specs.Fates.{commits, fate, is_led_by_full}
use Rattle.commit_laws.specs.Forth.{IsForth, TellsForth}
use Rattle.commit_laws.specs.Going.{is_forth, is_lost}
use Rattle.commit_laws.specs.Together.{Follows, KnownCommit}
use Rattle.commit_laws.specs.Traces.{IsCommittedAtAll, IsReplicaOf, has_marker_at, has_trace, is_acknowledgement}
use Rattle.commit_laws.specs.Traces.{is_committed_by, is_known, members_now, record_at}
use Rattle.commit_laws.proofs.commits.Step.{not_closing}
use Rattle.commit_laws.proofs.gathering.EndsTold.{AreEnds, IsEnd, beside_ends}
use Rattle.commit_laws.proofs.fates.Cases.{forth_commits}
use Rattle.commit_laws.proofs.forth.All.{forth_is_known}
use Rattle.commit_laws.proofs.forth.Client.{IsToldOf, by_coordinator, by_takeover}
use Rattle.commit_laws.proofs.hosts.SomePasses.{passing}
use Rattle.commit_laws.proofs.records.Replicas.{chain_replica, members_full}
use Rattle.commit_laws.proofs.forth.TellersFull.{teller_full}
use Rattle.commit_laws.proofs.markers.Traces.{marker_commits, record_commits}

-- the client's side takes word of the commit by the event
pub record TakesWord (start : Start) (e : HostStep) (tx : TxId) : Type 0 where
  pub sound : is_well_formed start.shape e.step.taken ≡ true
  pub told : IsToldOf tx e.step.taken.body

module _ (start : Start) (nobody : NobodyStarts start) (e : HostStep) (log : List HostStep) where
  abbrev shell_sends : List Outgoing
  shell_sends = (step_after start 0 log e).effects.sends

  ends : AreEnds (TakesWord start e) shell_sends
  unfolding started
  ends = beside_ends start nobody 0 tt (TakesWord start e) log e (λ sound tx told. record {
    sound = sound;
    told = told;
  })

  word_of : (tx : TxId) (body : Body) → IsEnd (TakesWord start e) body → is_acknowledgement tx body ≡ true
      → TakesWord start e tx
  word_of tx (Client (TcCommitAck other)) is own = subst (TakesWord start e) (same_tx-is other tx own) is
  word_of tx body is own = absurd (true≢false (sym own))

  -- so it does where it acknowledges
  pub takes_word : (tx : TxId) → is_sent (is_acknowledgement tx) shell_sends ≡ true → TakesWord start e tx
  takes_word tx acknowledges =
      let one = passing (λ (o : Outgoing). is_acknowledgement tx o.body) shell_sends acknowledges in
      word_of tx one.item.body
      (each_in (λ (o : Outgoing). IsEnd (TakesWord start e) o.body) one.item shell_sends ends one.there) one.is

module _ (start : Start) (all : ℕ → List HostStep) (e : HostStep) (es : List HostStep)
    (follows : Follows start all e es)
  where
    abbrev old : ℕ → List HostStep
    old = logs_of start es

    abbrev new : ℕ → List HostStep
    new = logs_of start (e ∷ es)

    abbrev moment : IsMoment start all (e ∷ es)
    moment = follows.moment

    abbrev before : IsMoment start all es
    before = moment_less start all e es moment

    abbrev sends : List Outgoing
    sends = (step_after start 0 (old 0) e).effects.sends

    module _ (tx : TxId) (off : is_known start old tx ≡ false) where
      -- whatever is committed at all replicas left a trace at one
      module _ (key : List ℕ) (at_all : IsCommittedAtAll start old tx key) where
        at_one : (member : Member) → IsReplicaOf start old key member → fate start old tx ≡ commits
        at_one member is = by (record_at start old member key tx) refl (at_all.committed member is)
          where
            among : IsIn member (members_now start old)
            among = subst (IsIn member) (sym (members_full start all es before)) is.full

            remembered : (has_marker_at start old member key tx ≡ true) ⊎ (is_known start old tx ≡ true)
                → fate start old tx ≡ commits
            remembered (inl on) = marker_commits forth_is_known start all es before member among key tx on
            remembered (inr known) = absurd (true≢false (sym known ∙ off))

            by : (o : Option PendingRecord) → record_at start old member key tx ≡ o
                → is_committed_by (has_marker_at start old member key tx || is_known start old tx) o ≡ true
                → fate start old tx ≡ commits
            by None none is =
                remembered (or_cases (has_marker_at start old member key tx) (is_known start old tx) is)
            by (Some r) there is = record_commits forth_is_known start all es before member among key tx r there is

        traced : fate start old tx ≡ commits
        traced =
            by (chain_of (layout_in start (current start old)) key) refl
            (chains_in start all moment.cluster (current start old) (moment_installed start all es before) key)
          where
            by : (chain : List Member) → chain_of (layout_in start (current start old)) key ≡ chain → 0 < length chain
                → fate start old tx ≡ commits
            by [] is some = absurd (omega (arith, some))
            by (member ∷ chain) is some =
                at_one member
                (chain_replica start all es before key member (subst (IsIn member) (sym is) (inl refl)))

      module _ (is : is_known start new tx ≡ true) where
        at : e.host ≡ 0
        at =
            known_cases start e es tx (λ at here. at) (λ was. absurd (true≢false (sym was ∙ off))) is

        acknowledges : is_sent (is_acknowledgement tx) sends ≡ true
        acknowledges =
            known_cases start e es tx (λ at here. here) (λ was. absurd (true≢false (sym was ∙ off))) is

        word : TakesWord start e tx
        word = takes_word start follows.moment.cluster.nobody e (old 0) tx acknowledges

        -- what is told of all that was sent is told of it
        told_of : (K : Body → Type 0) (signal : ClientSignal) → e.step.taken.body ≡ Client signal
            → EachSent start (λ (y : Addressed). K y.signal.body) old → K (Client signal)
        told_of K signal body_is sent =
            subst K body_is
            (taken_told start (λ (y : Addressed). K y.signal.body) all e es moment sent word.sound
            (λ own. absurd (subst (IsOwnWork start e.host) body_is own))
            (not_closing signal e.step.taken.body body_is))

        comes : fate start old tx ≡ commits
        comes = by word.told
          where
            by : IsToldOf tx e.step.taken.body → fate start old tx ≡ commits
            by (by_coordinator epoch body_is) =
                forth_commits (is_known start old tx) (is_led_by_full start old tx) (is_forth start old tx)
                (is_lost start old tx) (has_trace start old tx)
                (teller_full start all e es moment at word.sound tx epoch body_is acknowledges)
                (told_of (TellsForth (IsForth start old)) (TcCommitConf tx epoch) body_is
                (forth_is_known start all es before).signals)
            by (by_takeover epoch body_is) =
                let done =
                told_of (ComesWhenDone start old) (TcKeyFailConf tx epoch) body_is follows.stood.commits.done in
                traced done.1.key (done.0 done.1.key done.1.written)

pub known_commit : KnownCommit
known_commit start all e es follows tx is off = comes start all e es follows tx off is
