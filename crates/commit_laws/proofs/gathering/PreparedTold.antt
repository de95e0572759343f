-- Until a takeover is at work in a view, whoever was reported in it to be only prepared, and has no coordinator in it,
-- has such a record at a replica.
use Rattle.std.proofs.Common.{◌≡◌, ◌⊎◌, ◌∙◌, ◌<◌, ℕ, false, filter, List, [], ◌∷◌, inl, inr, map, sym, ap, subst, arith}
use Rattle.std.specs.Prelude.{Option, None, Some}
use Rattle.run_theory.specs.Links.{sent}
use Rattle.run_theory.specs.Lists.{Each, IsIn}
use Rattle.run_theory.proofs.Pasts.{each_map}
use Rattle.commit_laws.proofs.commits.Places.{in_at}
use Rattle.commit_laws.proofs.hosts.PartEach.{part_each}
use Rattle.frag_map.specs.Layout.{chain_of}
use Rattle.sig_core.specs.declared.member.Member.{Member}
use Rattle.sig_core.specs.declared.member.TxId.{TxId}
use Rattle.sig_core.specs.declared.outs.Outgoing.{Outgoing}
use Rattle.sig_core.specs.declared.place.Part.TheVariants.{Ldm}
use Rattle.sig_core.specs.declared.place.Place.{Place}
use Rattle.sig_core.specs.declared.rows.PendingRecord.{PendingRecord}
use Rattle.sig_core.specs.declared.signal.Body.{Body}
use Rattle.sig_core.specs.declared.signal.Body.TheVariants.{Takeover}
use Rattle.sig_core.specs.declared.signal.Signal.{Signal}
use Rattle.sig_core.specs.declared.signal.takeover.RecordState.TheVariants as state
use Rattle.sig_core.specs.declared.signal.takeover.TakeoverSignal.TheVariants.{LqhTransConf}
use Rattle.sig_core.specs.declared.view.View.{View}
use Rattle.sig_core.specs.Rows.{is_on}
use Rattle.sig_core.proofs.Keys.{same_key-self}
use Rattle.lqh_views.specs.Laws.{HasRecord, TellsTruly}
use Rattle.lqh_views.specs.Replica.{replica_row}
use Rattle.lqh_views.specs.State.{ReplicaState}
use Rattle.lqh_views.proofs.LawLemmas.{reports_are_true}
use Rattle.key_laws.specs.Records.{without_epoch}
use Rattle.world_core.specs.Start.{Start, made}
use Rattle.world_core.specs.Steps.{Addressed, HostStep}
use Rattle.world_views.specs.Machine.{step_after}
use Rattle.view_laws.specs.Order.{sound_machine}
use Rattle.view_laws.specs.Runs.{view_after}
use Rattle.moment_laws.specs.Moments.{IsMoment, current, logs_of}
use Rattle.moment_laws.specs.PartSteps.{tc_kind}
use Rattle.moment_laws.specs.Places.{ldm_of}
use Rattle.moment_laws.proofs.MomentHosts.{ldm_member, part_some}
use Rattle.moment_laws.proofs.MomentMembers.{current_host}
use Rattle.moment_laws.proofs.MomentSignals.{EachSent, sent_below, sent_next}
use Rattle.moment_laws.proofs.MomentTurns.{Turn, host_low, keeps, own_behind, raises, turn}
use Rattle.moment_laws.proofs.MomentViews.{current_number, moment_less}
use Rattle.request_laws.specs.Routed.{layout_in}
use Rattle.request_laws.proofs.routes.Headers.{sent_so}
use Rattle.request_laws.proofs.routes.Hosts.{PartHost, beside_sends, coordinates, is_beside, keeps_rows, part_host}
use Rattle.request_laws.proofs.routes.PartSteps.{TcStep, tc_step}
use Rattle.request_laws.proofs.tokens.HostsApart.{ldm_low}
use Rattle.request_laws.specs.Orphans.{IsOrphan}
use Rattle.commit_laws.specs.Gathering.{IsPreparedSomewhere}
use Rattle.commit_laws.specs.Ruling.{NoneRuled}
use Rattle.commit_laws.specs.Traces.{record_at, rows_at}
use Rattle.commit_laws.proofs.gathering.OrphanStays.{record_same}
use Rattle.commit_laws.proofs.records.Once.{rows_once}
use Rattle.commit_laws.proofs.records.Placed.{records_are_at_replicas}
use Rattle.commit_laws.proofs.records.Replicas.{replica_made}
use Rattle.commit_laws.proofs.hosts.RowsTurn.{IsBetween, IsTakenAt, as_was, entered, rows_each}
use Rattle.commit_laws.proofs.hosts.SaverGoes.{of_saver}
use Rattle.commit_laws.proofs.takeover.Reports.{AreFated, Fated, IsFated, all_aside_fated, tc_enters_fated, tc_fated}
use Rattle.commit_laws.proofs.takeover.Told.{in_cell, once_found}

module _ (start : Start) (logs : ℕ → List HostStep) (tx : TxId) where
  -- of the transaction nothing is told, or that it is committed, or it is prepared
  abbrev pub IsPreparedIf : TxId → Option ℕ → Type 0
  IsPreparedIf other epoch = epoch ≡ None → other ≡ tx → IsPreparedSomewhere start logs tx

  -- so it is of a signal of the current view
  abbrev pub TellsPrepared : Addressed → Type 0
  TellsPrepared y =
      y.signal.view.number ≡ current_number start logs
      → Fated (λ other epoch. epoch ≡ None → other ≡ tx → IsPreparedSomewhere start logs tx) y.signal.body

module _ (start : Start) (all : ℕ → List HostStep) (e : HostStep) (es : List HostStep)
    (moment : IsMoment start all (e ∷ es)) (none : NoneRuled start (e ∷ es)) (tx : TxId)
    (orphan : IsOrphan (current start (logs_of start (e ∷ es))) tx)
  where
    abbrev old : ℕ → List HostStep
    old = logs_of start es

    abbrev new : ℕ → List HostStep
    new = logs_of start (e ∷ es)

    abbrev x : Signal
    x = e.step.taken

    abbrev view : View
    view = view_after start e.host (e ∷ old e.host)

    abbrev sends : List Outgoing
    sends = (step_after start e.host (old e.host) e).effects.sends

    less : IsMoment start all es
    less = moment_less start all e es moment

    -- in the same view that was so before too
    pub none_before : current start (logs_of start (e ∷ es)) ≡ current start (logs_of start es) → NoneRuled start es
    none_before same = by none.1
      where
        by : (current_number start old < current_number start new) ⊎ NoneRuled start es → NoneRuled start es
        by (inl above) =
            let number : current_number start new ≡ current_number start old = ap (λ (v : View). v.number) same in
            absurd (omega (arith, above, number))
        by (inr was) = was

    -- who was prepared before the event is so behind it
    pub prepared_stays : current start (logs_of start (e ∷ es)) ≡ current start (logs_of start es)
        → IsPreparedSomewhere start (logs_of start es) tx → IsPreparedSomewhere start (logs_of start (e ∷ es)) tx
    prepared_stays same was = record {
      key = was.key;
      member = was.member;
      replica = record {
        full = subst (λ (v : View). IsIn was.member v.full) (sym same) was.replica.full;
        chained =
            subst (λ (v : View). IsIn was.member (chain_of (layout_in start v) was.key)) (sym same) was.replica.chained;
      };
      own = was.own;
      there =
          record_same start all e es moment none was.member
          (replica_made start all es less was.key was.member was.replica) tx orphan was.key
          ∙ was.there;
      prepared = was.prepared;
    }

    abbrev If : TxId → Option ℕ → Type 0
    If = IsPreparedIf start (logs_of start (e ∷ es)) tx

    module _ (member : Member) (there : IsIn member (made start)) where
      abbrev rows : ReplicaState
      rows = rows_at start (logs_of start es) member

      -- its host stands in the current view, as one of the full members
      full_now : e.host ≡ ldm_of start member → view ≡ current start new → IsIn member (current start new).full
      full_now at stands =
          subst (λ m. IsIn m (current start new).full) (ldm_member start moment.cluster.nobody member there)
          (current_host start all (e ∷ es) moment (ldm_of start member) (part_some start Ldm member)
          (ldm_low start moment.cluster.nobody member there) here)
        where
          here : view_after start (ldm_of start member) (new (ldm_of start member)) ≡ current start new
          here =
              subst (λ k. view_after start k (new k) ≡ current start new) at (own_behind start all e es moment ∙ stands)

      -- a record that its rows have before the event, and have behind it
      record_there : (one : PendingRecord) → IsIn one rows.lqh.rows.pending → one.tx ≡ tx
          → record_at start new member one.key tx ≡ Some (without_epoch one)
      record_there one inside own =
          record_same start all e es moment none member there tx orphan one.key
          ∙ (ap (λ v. record_at start old member one.key v) (sym own)
          ∙ once_found (map without_epoch (filter (is_on one.key) rows.lqh.rows.pending))
          (rows_once start moment.cluster.nobody member there (old (ldm_of start member)) one.key) (without_epoch one)
          (in_cell one.key one rows.lqh.rows.pending inside (same_key-self one.key)))

      record_prepared : IsIn member (current start new).full → (one : PendingRecord) → IsIn one rows.lqh.rows.pending
          → one.tx ≡ tx → one.committed ≡ false → IsPreparedSomewhere start new tx
      record_prepared full one inside own off = record {
        key = one.key;
        member = member;
        replica =
            records_are_at_replicas start all (e ∷ es) moment member full one.key tx (without_epoch one)
            (record_there one inside own);
        own = without_epoch one;
        there = record_there one inside own;
        prepared = off;
      }

      -- what its rows tell is so
      rows_prepared : e.host ≡ ldm_of start member → AreFated If sends
      rows_prepared at =
          subst (AreFated If) (sym (ap (λ k. (step_after start k (old k) e).effects.sends) at))
          (rows_each start all e es moment member there (IsFated If)
          (λ o own.
          of_saver (Fated If) (record { reports = λ epoch. tt; confirms = tt; goes_on = λ at. tt }) o.body own)
          (λ s between taken.
          each_map (λ (o : Outgoing). TellsTruly s o.body) (IsFated If) (replica_row s x).effects.sends
          (λ o tells. told s between taken o.body tells) (reports_are_true s x)) at)
        where
          pending_was : (s : ReplicaState) → IsBetween start all e es moment member there s
              → s.lqh.rows.pending ≡ rows.lqh.rows.pending
          pending_was s (as_was is still) = ap (λ (q : ReplicaState). q.lqh.rows.pending) is
          pending_was s (entered set is) = ap (λ (q : ReplicaState). q.lqh.rows.pending) is

          has_prepared : (s : ReplicaState) → IsBetween start all e es moment member there s
              → IsTakenAt start all e es moment member there s → (other : TxId) (key : List ℕ)
              → HasRecord s other key false → other ≡ tx → IsPreparedSomewhere start new tx
          has_prepared s between taken other key has is =
              record_prepared (full_now at taken.now.stands) has.one
              (subst (IsIn has.one) (pending_was s between) (in_at s.lqh.rows.pending has.at has.one has.there))
              (has.is_tx ∙ is) has.is_committed

          told : (s : ReplicaState) → IsBetween start all e es moment member there s
              → IsTakenAt start all e es moment member there s → (body : Body) → TellsTruly s body → Fated If body
          told s between taken (Takeover (LqhTransConf other key state.Prepared epoch)) tells =
              λ untold is. has_prepared s between taken other key tells.0 is
          told s between taken (Takeover (LqhTransConf other key state.Committed epoch)) tells =
              λ untold is. let no : Some epoch ≡ None = untold in absurd cc
          told s between taken (Takeover (LqhTransConf other key state.Marker epoch)) tells =
              λ untold is. let no : Some epoch ≡ None = untold in absurd cc
          told s between taken body tells = tt

    -- and other hosts tell nothing
    tc_tells : TcStep start e.host (old e.host) e → AreFated If sends
    tc_tells step =
        part_each tc_kind (IsFated If) start.shape step.own (view_after start e.host (old e.host)) x _ view sends
        step.does (λ above. tc_enters_fated If step.own x.view)
        (λ passed. tc_fated If step.does.between x x.to.block)

    sends_fated : AreFated If sends
    sends_fated = by (part_host start moment.cluster.nobody e.host (host_low start all e es moment))
      where
        by : PartHost start e.host → AreFated If sends
        by (coordinates me there at) = tc_tells (tc_step start moment.cluster.nobody me there e.host at (old e.host) e)
        by (keeps_rows me there at) = rows_prepared me there at
        by (is_beside first) = all_aside_fated If sends (beside_sends start e.host first (old e.host) e)

    -- what was told before
    stays_fated : current start new ≡ current start old → (body : Body) → Fated (IsPreparedIf start old tx) body
        → Fated If body
    stays_fated same (Takeover (LqhTransConf other key told epoch)) fated =
        λ untold is. prepared_stays same (fated untold is)
    stays_fated same body fated = tt

    module _ (before : NoneRuled start es → IsOrphan (current start (logs_of start es)) tx
        → EachSent start (TellsPrepared start (logs_of start es) tx) (logs_of start es))
      where
        old_told : EachSent start (TellsPrepared start new tx) old
        old_told i j = by (turn start all e es moment)
          where
            by : Turn start all e es moment → Each (TellsPrepared start new tx) (sent (sound_machine start) i j (old i))
            by (keeps same stands) =
                each_map (TellsPrepared start old tx) (TellsPrepared start new tx)
                (sent (sound_machine start) i j (old i))
                (λ y tells header.
                stays_fated same y.signal.body (tells (header ∙ ap (λ (v : View). v.number) same)))
                (before (none_before same) (subst (λ (v : View). IsOrphan v tx) same orphan) i j)
            by (raises above stands) =
                each_map _ (TellsPrepared start new tx) (sent (sound_machine start) i j (old i))
                (λ y low header. absurd (omega (arith, low, header, above))) (sent_below start all es less i j)

        told_next : EachSent start (TellsPrepared start (logs_of start (e ∷ es)) tx) (logs_of start (e ∷ es))
        told_next =
            sent_next start (TellsPrepared start new tx) all e es moment old_told
            (λ goes.
            sent_so start e.host (old e.host) e
            (λ (v : View) (to : Place) (body : Body). v.number ≡ current_number start new → Fated If body)
            (each_map (IsFated If) (λ (o : Outgoing). view.number ≡ current_number start new → Fated If o.body) sends
            (λ o fated number. fated) sends_fated))

-- so it is of all that was sent
pub prepared_told : (start : Start) (all : ℕ → List HostStep) (es : List HostStep) → IsMoment start all es
    → NoneRuled start es → (tx : TxId) → IsOrphan (current start (logs_of start es)) tx
    → EachSent start (TellsPrepared start (logs_of start es) tx) (logs_of start es)
prepared_told start all [] moment none tx orphan = λ i j. tt
prepared_told start all (e ∷ es) moment none tx orphan =
    told_next start all e es moment none tx orphan
    (λ none orphan. prepared_told start all es (moment_less start all e es moment) none tx orphan)
