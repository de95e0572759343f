-- The parts of a transaction's operation on a key that rows send at a signal are those that the event of the key sends.
use Rattle.std.proofs.Common.{◌≡◌, ◌==◌, ◌∙◌, ℕ, Bool, true, false, map, List, [], ◌∷◌, refl, sym}
use Rattle.std.specs.Prelude.{Option, None, Some}
use Rattle.sig_core.specs.declared.member.Member.{Member}
use Rattle.sig_core.specs.declared.member.TxId.{TxId}
use Rattle.sig_core.specs.declared.outs.Outgoing.{Outgoing}
use Rattle.sig_core.specs.declared.place.Place.{Place}
use Rattle.sig_core.specs.declared.rows.PendingRecord.{PendingRecord}
use Rattle.sig_core.specs.declared.signal.Body.{Body}
use Rattle.sig_core.specs.declared.signal.Body.TheVariants.{Chain, Epoch, Host, Membership, Takeover}
use Rattle.sig_core.specs.declared.signal.Signal.{Signal}
use Rattle.sig_core.specs.declared.signal.chain.ChainSignal.TheVariants.{Aborted, Committed, Completed}
use Rattle.sig_core.specs.declared.signal.epoch.EpochSignal.{EpochSignal}
use Rattle.sig_core.specs.declared.signal.epoch.EpochSignal.TheVariants.{GcpClosed, GcpSaveReq, GcpStateReq}
use Rattle.sig_core.specs.declared.signal.host.HostSignal.TheVariants.{Continue}
use Rattle.sig_core.specs.declared.signal.host.Work.TheVariants as work
use Rattle.sig_core.specs.declared.signal.membership.MembershipSignal.TheVariants.{FenceReq}
use Rattle.sig_core.specs.declared.signal.takeover.TakeoverSignal.TheVariants.{LqhTransReq}
use Rattle.sig_core.specs.declared.view.View.{View}
use Rattle.lqh_block.specs.declared.request.Marker.{Marker}
use Rattle.lqh_views.specs.Address.{addressed, owned_if}
use Rattle.lqh_views.specs.Epochs.{epoch_table}
use Rattle.lqh_views.specs.Report.{go_on_by, is_orphaned_marker, is_orphaned_record, last_before, marker_by, record_by}
use Rattle.lqh_views.specs.Report.{reporting, telling, told_record_if}
use Rattle.lqh_views.specs.declared.report.Report.{Report}
use Rattle.lqh_views.specs.Replica.{is_stale, passed, replica_by, replica_row, serve_if}
use Rattle.lqh_views.specs.State.{ReplicaState}
use Rattle.lqh_block.specs.Views.{is_coordinated}
use Rattle.key_laws.specs.Replica.{at_key, event_at}
use Rattle.run_laws.proofs.circle.KeySends.{is_abort, lqh_tokens}
use Rattle.run_laws.proofs.tokens.Signals.{event_tokens, put, token_of, tokens_of}
use Rattle.request_laws.specs.Replicas.{event_by, event_if, event_under}

module _ (tx : TxId) (key : List ℕ) where
  -- what is addressed elsewhere is no part
  elsewhere : (full : List Member) (o : Outgoing) → ((to : Place) → token_of tx key to o.body ≡ None) → (b : Bool)
      → token_of tx key (owned_if full o b).to (owned_if full o b).body ≡ token_of tx key o.to o.body
  elsewhere full o none true = refl
  elsewhere [] o none false = refl
  elsewhere (oldest ∷ others) o none false =
      none (owned_if (oldest ∷ others) o false).to ∙ sym (none o.to)

  addressed_token : (view : View) (o : Outgoing)
      → token_of tx key (addressed view o).to (addressed view o).body ≡ token_of tx key o.to o.body
  unfolding addressed
  addressed_token view o = by o.to o.body
    where
      by : (to : Place) (body : Body)
          → token_of tx key (addressed view (record { to = to; body = body })).to
          (addressed view (record { to = to; body = body })).body
          ≡ token_of tx key to body
      by to (Chain (Committed v own)) =
          elsewhere view.full (record { to = to; body = Chain (Committed v own) }) (λ w. refl)
          (is_coordinated view.full v)
      by to (Chain (Completed v own)) =
          elsewhere view.full (record { to = to; body = Chain (Completed v own) }) (λ w. refl)
          (is_coordinated view.full v)
      by to (Chain (Aborted v own)) =
          elsewhere view.full (record { to = to; body = Chain (Aborted v own) }) (λ w. refl)
          (is_coordinated view.full v)
      by to body = refl

  addressed_tokens : (view : View) (sends : List Outgoing)
      → tokens_of tx key (map (addressed view) sends) ≡ tokens_of tx key sends
  addressed_tokens view [] = refl
  addressed_tokens view (o ∷ sends) =
      (λ i. put (addressed_token view o i) (addressed_tokens view sends i))

  module _ (s : ReplicaState) where
    passed_tokens : (x : Signal) → is_abort tx x.body ≡ false
        → tokens_of tx key (passed s x).effects.sends ≡ event_tokens tx (event_at key s.lqh x.body) (at_key key s.lqh)
    passed_tokens x off = addressed_tokens s.lqh.layout.view _ ∙ lqh_tokens tx key s.lqh x.body off

    served_tokens : (x : Signal) → is_abort tx x.body ≡ false → (b : Bool)
        → tokens_of tx key (serve_if s x b).effects.sends
        ≡ event_tokens tx (event_if (event_at key s.lqh x.body) b) (at_key key s.lqh)
    served_tokens x off true = refl
    served_tokens x off false = passed_tokens x off

    -- reports, and orders about epochs, have no part in them
    marker_none : (r : Report) (o : Option (ℕ × Marker)) → tokens_of tx key (marker_by s r o).effects.sends ≡ []
    marker_none r None = refl
    marker_none r (Some (at, m)) = refl

    record_none : (r : Report) (o : Option (ℕ × PendingRecord)) → tokens_of tx key (record_by s r o).effects.sends ≡ []
    record_none r None =
        marker_none r (last_before (is_orphaned_marker s.lqh.layout.view.full) s.lqh.markers r.markers)
    record_none r (Some (at, one)) = by one.committed
      where
        by : (b : Bool)
            → tokens_of tx key (telling s (record { to = r.to; records = at; markers = r.markers })
            (told_record_if r.to one b)).effects.sends ≡ []
        by true = refl
        by false = refl

    report_none : (r : Report) → tokens_of tx key (reporting s r).effects.sends ≡ []
    unfolding reporting
    report_none r =
        record_none r (last_before (is_orphaned_record s.lqh.layout.view.full) s.lqh.rows.pending r.records)

    go_on_none : (own : Bool) (o : Option Report) → tokens_of tx key (go_on_by s own o).effects.sends ≡ []
    go_on_none true None = refl
    go_on_none true (Some r) = report_none r
    go_on_none false None = refl
    go_on_none false (Some r) = refl

    epoch_none : (from : ℕ) (signal : EpochSignal) → tokens_of tx key (epoch_table s from signal).effects.sends ≡ []
    epoch_none from (GcpClosed epoch) = refl
    epoch_none from (GcpSaveReq epoch) = refl
    epoch_none from GcpStateReq = refl
    epoch_none from _ = refl

    by_tokens : (x : Signal) → is_abort tx x.body ≡ false → (body : Body)
        → tokens_of tx key (replica_by s x body).effects.sends
        ≡ event_tokens tx (event_by key s x body) (at_key key s.lqh)
    by_tokens x off (Membership (FenceReq proposal)) = refl
    by_tokens x off (Takeover LqhTransReq) = report_none _
    by_tokens x off (Host (Continue work.Report at)) = go_on_none (x.view.number == s.lqh.layout.view.number) s.report
    by_tokens x off (Host (Continue work.Granted at)) = served_tokens x off (is_stale s x)
    by_tokens x off (Host (Continue work.Expired at)) = served_tokens x off (is_stale s x)
    by_tokens x off (Epoch signal) = epoch_none x.member.node signal
    by_tokens x off _ = passed_tokens x off

    -- whatever they take, unless they abort the transaction
    pub row_tokens : (x : Signal) → is_abort tx x.body ≡ false
        → tokens_of tx key (replica_row s x).effects.sends ≡ event_tokens tx (event_under key s x) (at_key key s.lqh)
    row_tokens x off = by_tokens x off x.body
