-- At each moment each commit at a member is marked or acknowledged, and so a trace of it stays.
use Rattle.std.proofs.Common.{◌≡◌, ◌⊎◌, ◌∙◌, ◌||◌, ℕ, Bool, true, false, List, [], ◌∷◌, refl, sym, ap, subst, inl, inr}
use Rattle.std.proofs.lemmas.Bool.{or_left, or_right}
use Rattle.std.specs.List.{list_any}
use Rattle.run_theory.proofs.Pasts.{each_in, each_map}
use Rattle.run_theory.specs.Lists.{Each, IsIn}
use Rattle.run_theory.proofs.EventCases.{event_cases}
use Rattle.sig_core.specs.declared.member.Member.{Member}
use Rattle.sig_core.specs.declared.member.TxId.{TxId}
use Rattle.sig_core.specs.declared.rows.PendingRecord.{PendingRecord}
use Rattle.sig_core.specs.declared.signal.Body.TheVariants.{Client}
use Rattle.sig_core.specs.declared.signal.Signal.{Signal}
use Rattle.sig_core.specs.declared.signal.client.ClientSignal.TheVariants.{TcCommitAck}
use Rattle.sig_core.specs.Rows.{no_rows}
use Rattle.sig_core.specs.Same.{same_key, same_tx}
use Rattle.sig_core.proofs.Keys.{same_tx-self}
use Rattle.sig_core.proofs.TxLemmas.{same_tx-is}
use Rattle.lqh_block.specs.Commit.{is_marker}
use Rattle.lqh_block.specs.declared.request.Marker.{Marker}
use Rattle.lqh_views.proofs.ListsKept.{both}
use Rattle.node_core.specs.Fresh.{own_rows, with_rows}
use Rattle.node_views.specs.declared.host_body.HostBody as node
use Rattle.node_views.specs.WellFormed.{is_well_formed}
use Rattle.world_core.specs.Start.{NobodyStarts, Start, made}
use Rattle.world_core.specs.Steps.{HostStep}
use Rattle.world_views.specs.Machine.{IsOwnWork, machine}
use Rattle.world_views.proofs.FreshBodies.{none_pending}
use Rattle.moment_laws.specs.Moments.{IsMoment, logs_of}
use Rattle.moment_laws.specs.Places.{ldm_of}
use Rattle.moment_laws.proofs.MomentHosts.{ldm_started}
use Rattle.moment_laws.proofs.MomentSignals.{taken_told}
use Rattle.moment_laws.proofs.MomentViews.{moment_less}
use Rattle.request_laws.specs.Blocks.{no_replica, rows_after, rows_in}
use Rattle.request_laws.proofs.routes.ChainsStay.{any_in}
use Rattle.commit_laws.specs.Forth.{IsForth}
use Rattle.commit_laws.specs.Markers.{CommitsAreRemembered, TracesStay}
use Rattle.commit_laws.specs.Traces.{is_committed_of, is_known, is_marker_of, leave_trace, rows_at}
use Rattle.commit_laws.proofs.forth.All.{SpeaksTruly, all_forth}
use Rattle.commit_laws.proofs.forth.Grows.{known_grows}
use Rattle.commit_laws.proofs.forth.Speaks.{Speaks}
use Rattle.commit_laws.proofs.markers.Lists.{AreKept, Remember, Remembers, all_stay}
use Rattle.commit_laws.proofs.markers.Steps.{rows_step}
use Rattle.commit_laws.proofs.hosts.SomePasses.{Passes, passing}

module _ (start : Start) (all : ℕ → List HostStep) (e : HostStep) (es : List HostStep)
    (moment : IsMoment start all (e ∷ es)) (member : Member) (there : IsIn member (made start))
  where
    abbrev old : ℕ → List HostStep
    old = logs_of start es

    abbrev new : ℕ → List HostStep
    new = logs_of start (e ∷ es)

    abbrev x : Signal
    x = e.step.taken

    abbrev K : TxId → Bool
    K tx = is_known start new tx

    -- what rows are told to forget is acknowledged
    acks : is_well_formed start.shape x ≡ true → (tx : TxId) → x.body ≡ Client (TcCommitAck tx) → K tx ≡ true
    acks sound tx is =
        known_grows start e es tx
        (subst (Speaks (IsForth start old) (λ v. is_known start old v ≡ true)) is
        (taken_told start (SpeaksTruly start old) all e es moment
        (all_forth start all es (moment_less start all e es moment)).signals sound
        (λ work. subst (IsOwnWork start e.host) is work)
        (λ closes. absurd (cc (is, closes.is)))))

    module _ (remembered : Remember (λ tx. is_known start old tx) (rows_at start old member).lqh) where
      more : (markers : List Marker) (r : PendingRecord) → Remembers (λ tx. is_known start old tx) markers r
          → Remembers K markers r
      more markers r was done = by (list_any (is_marker r.tx r.key) markers) (was done)
        where
          by : (b : Bool) → (b || is_known start old r.tx) ≡ true → (b || K r.tx) ≡ true
          by true is = refl
          by false is = known_grows start e es r.tx is

      still : Remember K (rows_at start old member).lqh
      still =
          each_map _ _ (rows_at start old member).lqh.rows.pending (more (rows_at start old member).lqh.markers)
          remembered

      -- so markers stay that aren't acknowledged, and commits are marked behind the event
      pub kept : AreKept K (rows_at start old member).lqh (rows_at start new member).lqh
      kept =
          event_cases (machine start) e es (ldm_of start member)
          (λ log. AreKept K (rows_at start old member).lqh (rows_after start member log).lqh)
          (λ at. rows_step start moment.cluster.nobody member there (old (ldm_of start member)) e K acks still)
          (λ off. (all_stay K (rows_at start old member).lqh.markers, still))

      -- a marker of a transaction stays
      marker_stays : (tx : TxId) (m : Marker) → IsIn m (rows_at start old member).lqh.markers → m.tx ≡ tx
          → (leave_trace tx (rows_at start new member) || K tx) ≡ true
      marker_stays tx m among own = by (kept.0 m among)
        where
          by : IsIn m (rows_at start new member).lqh.markers ⊎ (K m.tx ≡ true)
              → (leave_trace tx (rows_at start new member) || K tx) ≡ true
          by (inl stays) =
              or_left (leave_trace tx (rows_at start new member)) (K tx)
              (or_right (list_any (is_committed_of tx) (rows_at start new member).lqh.rows.pending)
              (list_any (is_marker_of tx) (rows_at start new member).lqh.markers)
              (any_in (is_marker_of tx) m (rows_at start new member).lqh.markers stays
              (ap (λ v. same_tx v tx) own ∙ same_tx-self tx)))
          by (inr known) =
              or_right (leave_trace tx (rows_at start new member)) (K tx) (subst (λ v. K v ≡ true) own known)

      trace_stays : (tx : TxId) → leave_trace tx (rows_at start old member) ≡ true
          → (leave_trace tx (rows_at start new member) || K tx) ≡ true
      trace_stays tx left = by (list_any (is_committed_of tx) (rows_at start old member).lqh.rows.pending) refl left
        where
          marked : (r : PendingRecord) → r.tx ≡ tx
              → (b : Bool) → list_any (is_marker r.tx r.key) (rows_at start old member).lqh.markers ≡ b
              → (b || is_known start old r.tx) ≡ true → (leave_trace tx (rows_at start new member) || K tx) ≡ true
          marked r own true is any =
              let one = passing (is_marker r.tx r.key) (rows_at start old member).lqh.markers is in
              marker_stays tx one.item one.there
              (same_tx-is one.item.tx r.tx (both (same_tx one.item.tx r.tx) (same_key one.item.key r.key) one.is).0
              ∙ own)
          marked r own false off known =
              or_right (leave_trace tx (rows_at start new member)) (K tx)
              (known_grows start e es tx (subst (λ v. is_known start old v ≡ true) own known))

          by_record : Passes (is_committed_of tx) (rows_at start old member).lqh.rows.pending
              → (leave_trace tx (rows_at start new member) || K tx) ≡ true
          by_record one =
              let so = both (same_tx one.item.tx tx) one.item.committed one.is in
              marked one.item (same_tx-is one.item.tx tx so.0) _ refl
              (each_in (Remembers (λ v. is_known start old v) (rows_at start old member).lqh.markers) one.item
              (rows_at start old member).lqh.rows.pending remembered one.there so.1)

          by : (b : Bool) → list_any (is_committed_of tx) (rows_at start old member).lqh.rows.pending ≡ b
              → (b || list_any (is_marker_of tx) (rows_at start old member).lqh.markers) ≡ true
              → (leave_trace tx (rows_at start new member) || K tx) ≡ true
          by true is any = by_record (passing (is_committed_of tx) (rows_at start old member).lqh.rows.pending is)
          by false off is =
              let one = passing (is_marker_of tx) (rows_at start old member).lqh.markers is in
              marker_stays tx one.item one.there (same_tx-is one.item.tx tx one.is)

-- as its life begins it has no record
first_remembers : (start : Start) (nobody : NobodyStarts start) (member : Member) → IsIn member (made start)
    → Remember (λ tx. is_known start (λ h. []) tx) (rows_at start (λ h. []) member).lqh
first_remembers start nobody member there =
    subst (λ (s : node.HostBody). Remember (λ tx. false) (rows_in (no_replica start member) s.parts).lqh)
    (sym (ldm_started start nobody member there))
    (subst (Each (Remembers (λ tx. false) [])) (sym none) tt)
  where
    none : (with_rows no_rows (own_rows start.shape member.node start.rows) start.start_epoch).pending ≡ []
    none = none_pending no_rows (own_rows start.shape member.node start.rows) start.start_epoch

pub commits_are_remembered : CommitsAreRemembered
commits_are_remembered start all [] moment member there = first_remembers start moment.cluster.nobody member there
commits_are_remembered start all (e ∷ es) moment member there =
    (kept start all e es moment member there
    (commits_are_remembered start all es (moment_less start all e es moment) member there)).1

pub traces_stay : TracesStay
traces_stay start all e es moment member there tx left =
    trace_stays start all e es moment member there
    (commits_are_remembered start all es (moment_less start all e es moment) member there) tx left
