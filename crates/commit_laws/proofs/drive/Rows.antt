-- Rows pass on one commit for one, and one completion: to the place in front, or to the owner of the transaction.
use Rattle.std.proofs.Common.{◌≡◌, ◌≤◌, ◌||◌, ◌==◌, ℕ, Bool, true, false, List, [], ◌∷◌, map, nat_lt, refl, sym, ap}
use Rattle.std.proofs.Common.{arith, ◌∙◌}
use Rattle.std.specs.Prelude.{◌-◌, Option, None, Some}
use Rattle.std.proofs.lemmas.Bool.{true≢false}
use Rattle.run_theory.specs.Lists.{Each}
use Rattle.run_theory.proofs.Pasts.{each_map}
use Rattle.sig_core.specs.declared.member.Member.{Member}
use Rattle.sig_core.specs.declared.member.TxId.{TxId}
use Rattle.sig_core.specs.declared.outs.Outgoing.{Outgoing}
use Rattle.sig_core.specs.declared.rows.PendingRecord.{PendingRecord}
use Rattle.sig_core.specs.declared.signal.Body.{Body}
use Rattle.sig_core.specs.declared.signal.Body.TheVariants.{Chain, Epoch, Host, Membership, Takeover}
use Rattle.sig_core.specs.declared.signal.Signal.{Signal}
use Rattle.sig_core.specs.declared.signal.chain.ChainSignal.TheVariants.{Commit, Committed, Complete, Completed}
use Rattle.sig_core.specs.declared.signal.epoch.EpochSignal.{EpochSignal}
use Rattle.sig_core.specs.declared.signal.epoch.EpochSignal.TheVariants.{GcpClosed, GcpSaveReq, GcpStateReq}
use Rattle.sig_core.specs.declared.signal.host.HostSignal.TheVariants.{Continue}
use Rattle.sig_core.specs.declared.signal.host.Work.{Work}
use Rattle.sig_core.specs.declared.signal.host.Work.TheVariants as work
use Rattle.sig_core.specs.declared.signal.membership.MembershipSignal.TheVariants.{FenceReq}
use Rattle.sig_core.specs.declared.signal.takeover.TakeoverSignal.TheVariants.{LqhTransReq}
use Rattle.sig_core.specs.declared.view.View.{View}
use Rattle.sig_core.specs.Rows.{record_state}
use Rattle.sig_core.specs.Chain.{node_at}
use Rattle.sig_core.specs.Place.{coordinator_of, rows_of}
use Rattle.sig_core.specs.Step.{Step, to_place}
use Rattle.tc_block.specs.Complete.{one_if}
use Rattle.lqh_block.proofs.EachLqh.{RequestSends, lqh_sends_each}
use Rattle.lqh_block.specs.declared.request.Marker.{Marker}
use Rattle.lqh_block.specs.declared.request.Request.{Request}
use Rattle.lqh_block.specs.Commit.{applied, commit_row, told_if}
use Rattle.lqh_block.specs.Complete.{complete_row, completed_by}
use Rattle.lqh_block.specs.Lqh.{lqh_row, lqh_table}
use Rattle.lqh_block.specs.State.{LqhState, freed_lock, go_on_if, serve_granted}
use Rattle.lqh_views.specs.Address.{addressed}
use Rattle.lqh_views.specs.declared.report.Report.{Report}
use Rattle.lqh_views.specs.Epochs.{epoch_table}
use Rattle.lqh_views.specs.Replica.{is_stale, passed, replica_by, replica_row, serve_if}
use Rattle.lqh_views.specs.Report.{go_on_by, report_row, is_orphaned_marker, is_orphaned_record, last_before, marker_by}
use Rattle.lqh_views.specs.Report.{record_by, reporting, telling, told_record_if}
use Rattle.lqh_views.specs.State.{ReplicaState}
use Rattle.lqh_views.proofs.AddressLemmas.{same-body}
use Rattle.lqh_saver.specs.Saver.{saver_row}
use Rattle.lqh_saver.specs.State.{SavingState}
use Rattle.outcome_laws.specs.Counts.{count_sent}
use Rattle.outcome_laws.proofs.coordinators.Lists.{count_more, none_counted}
use Rattle.commit_laws.proofs.hosts.SaverGoes.{IsOfSaver, of_saver, saver_lists}
use Rattle.commit_laws.proofs.drive.Kinds.{Drive, Keys, committing, completing, either, goes}
use Rattle.commit_laws.proofs.drive.Turns.{drives_key}

either_less : (b : Bool) → one_if (b || false) ≤ one_if b
either_less true = omega arith
either_less false = omega arith

module _ (drive : Drive) (w : Keys) where
  -- no more is sent of them than was taken
  abbrev Few : Body → List Outgoing → Type 0
  Few body sends = count_sent (either drive w) sends ≤ one_if (goes drive w body)

  none_few : (body : Body) (sends : List Outgoing) → count_sent (either drive w) sends ≡ 0 → Few body sends
  none_few body sends none = omega (arith, none)

  abbrev off : Body → Type 0
  off body = either drive w body ≡ false

  of_one : (body : Body) (o : Outgoing) (more : List Outgoing) → count_sent (either drive w) more ≡ 0
      → one_if (either drive w o.body) ≤ one_if (goes drive w body) → Few body (o ∷ more)
  of_one body o more none one =
      omega (arith, none, one, count_more (λ (sent : Outgoing). either drive w sent.body) o more)

  granted_none : (node : ℕ) (doing : Work) (b : Bool) → count_sent (either drive w) (go_on_if node doing b) ≡ 0
  granted_none node doing b = by drive b
    where
      by : (d : Drive) (b : Bool) → count_sent (either d w) (go_on_if node doing b) ≡ 0
      by committing true = refl
      by completing true = refl
      by committing false = refl
      by completing false = refl

  -- such signals of rows are none of them
  abbrev is_plain : Body → Bool
  is_plain (Chain (Commit tx key epoch chain at)) = false
  is_plain (Chain (Committed tx key)) = false
  is_plain (Chain (Complete tx key chain at)) = false
  is_plain (Chain (Completed tx key)) = false
  is_plain body = true

  plain_off : (body : Body) → is_plain body ≡ true → off body
  plain_off body is = by drive body is
    where
      by : (d : Drive) (body : Body) → is_plain body ≡ true → either d w body ≡ false
      by committing (Chain (Commit tx key epoch chain at)) is = absurd cc
      by committing (Chain (Committed tx key)) is = absurd cc
      by committing body is = refl
      by completing (Chain (Complete tx key chain at)) is = absurd cc
      by completing (Chain (Completed tx key)) is = absurd cc
      by completing body is = refl

  abbrev Plain : Outgoing → Type 0
  Plain o = is_plain o.body ≡ true

  request_plain : (r : Request) → RequestSends Plain r
  request_plain r = record {
    log_full = λ used reserved need. refl;
    table_full = λ rows. refl;
    answers = λ a. refl;
    passes = λ image next is. refl;
  }

  others_plain : (s : LqhState) (body : Body) → drives_key body ≡ false
      → Each Plain (lqh_table s body).effects.sends
  others_plain s body other =
      lqh_sends_each Plain s body (record {
        asked = λ r is. request_plain r;
        waited = λ at r is. request_plain r;
        grants_more = refl;
        expires_more = refl;
        commits_on = λ tx key epoch chain at is behind. absurd (never _ is refl);
        committed = λ tx key epoch chain at is first. absurd (never _ is refl);
        completes_on = λ tx key chain at is behind. absurd (never _ is refl);
        completed = λ tx key chain at is first. absurd (never _ is refl);
        aborted = λ tx key is. refl;
        gives_up = λ tx key is. refl;
        times_out = λ tx key. refl;
        waits = λ tx key ahead is there. refl;
        dumps = λ at rows next is. refl;
      })
    where
      never : (b : Body) → body ≡ b → drives_key b ≡ true → ⊥
      never b is own = true≢false (sym own ∙ (ap drives_key (sym is) ∙ other))

  plain_none : (sends : List Outgoing) → Each Plain sends → count_sent (either drive w) sends ≡ 0
  plain_none sends all =
      none_counted (either drive w) sends
      (each_map Plain (λ (o : Outgoing). off o.body) sends (λ o is. plain_off o.body is) all)

  commits_few : (s : LqhState) (tx : TxId) (key : List ℕ) (epoch : ℕ) (chain : List Member) (at : ℕ)
      → Few (Chain (Commit tx key epoch chain at)) (commit_row s tx key epoch chain at).effects.sends
  unfolding commit_row
  commits_few s tx key epoch chain at = by (at == 0)
    where
      had : Option Bool
      had = record_state s.rows tx key

      own : (o : Outgoing)
          → one_if (either drive w o.body) ≤ one_if (goes drive w (Chain (Commit tx key epoch chain at)))
          → Few (Chain (Commit tx key epoch chain at)) (o ∷ [])
      own o one = of_one (Chain (Commit tx key epoch chain at)) o [] refl one

      by : (b : Bool)
          → Few (Chain (Commit tx key epoch chain at))
          (told_if (applied s tx key epoch had) tx key epoch chain at had b).effects.sends
      by true =
          of_one (Chain (Commit tx key epoch chain at)) (to_place (coordinator_of tx) (Chain (Committed tx key)))
          (serve_granted (applied s tx key epoch had).node (freed_lock (applied s tx key epoch had) tx key))
          (granted_none (applied s tx key epoch had).node work.Granted
          (nat_lt 0 (freed_lock (applied s tx key epoch had) tx key).granted))
          (told drive (w tx key))
        where
          told : (d : Drive) (b : Bool)
              → one_if (either d w (Chain (Committed tx key)))
              ≤ one_if (goes d w (Chain (Commit tx key epoch chain at)))
          told committing b = omega arith
          told completing b = omega arith
      by false =
          own (to_place (rows_of (node_at chain (at - 1))) (Chain (Commit tx key epoch chain (at - 1)))) (passed drive)
        where
          passed : (d : Drive)
              → one_if (either d w (Chain (Commit tx key epoch chain (at - 1))))
              ≤ one_if (goes d w (Chain (Commit tx key epoch chain at)))
          passed committing = either_less (w tx key)
          passed completing = omega arith

  completes_few : (s : LqhState) (tx : TxId) (key : List ℕ) (chain : List Member) (at : ℕ)
      → Few (Chain (Complete tx key chain at)) (complete_row s tx key chain at).effects.sends
  unfolding complete_row
  completes_few s tx key chain at =
      of_one (Chain (Complete tx key chain at)) (completed_by tx key chain at (at == 0))
      (serve_granted s.node (freed_lock s tx key))
      (granted_none s.node work.Granted (nat_lt 0 (freed_lock s tx key).granted)) (by drive (at == 0))
    where
      by : (d : Drive) (b : Bool)
          → one_if (either d w (completed_by tx key chain at b).body)
          ≤ one_if (goes d w (Chain (Complete tx key chain at)))
      by committing true = omega arith
      by committing false = omega arith
      by completing true = omega arith
      by completing false = either_less (w tx key)

  lqh_few : (s : LqhState) (body : Body) → Few body (lqh_table s body).effects.sends
  lqh_few s (Chain (Commit tx key epoch chain at)) = commits_few s tx key epoch chain at
  lqh_few s (Chain (Complete tx key chain at)) = completes_few s tx key chain at
  lqh_few s body =
      none_few body (lqh_table s body).effects.sends
      (plain_none (lqh_table s body).effects.sends (others_plain s body refl))

  addressed_count : (view : View) (sends : List Outgoing)
      → count_sent (either drive w) (map (addressed view) sends) ≡ count_sent (either drive w) sends
  addressed_count view [] = refl
  addressed_count view (send ∷ sends) =
      omega (
        arith,
        count_more (λ (sent : Outgoing). either drive w sent.body) (addressed view send) (map (addressed view) sends),
        count_more (λ (sent : Outgoing). either drive w sent.body) send sends,
        ap (λ body. one_if (either drive w body)) (same-body view send),
        addressed_count view sends,
      )

  module _ (s : ReplicaState) where
    abbrev NoneOf : Step ReplicaState → Type 0
    NoneOf step = Each Plain step.effects.sends

    -- reports, and orders about epochs
    marker_plain : (r : Report) (o : Option (ℕ × Marker)) → NoneOf (marker_by s r o)
    marker_plain r None = (refl, tt)
    marker_plain r (Some (at, m)) = (refl, (refl, tt))

    record_plain : (r : Report) (o : Option (ℕ × PendingRecord)) → NoneOf (record_by s r o)
    record_plain r None =
        marker_plain r (last_before (is_orphaned_marker s.lqh.layout.view.full) s.lqh.markers r.markers)
    record_plain r (Some (at, one)) = by one.committed
      where
        by : (b : Bool)
            → NoneOf (telling s (record { to = r.to; records = at; markers = r.markers }) (told_record_if r.to one b))
        by true = (refl, (refl, tt))
        by false = (refl, (refl, tt))

    report_plain : (r : Report) → NoneOf (reporting s r)
    unfolding reporting
    report_plain r =
        record_plain r (last_before (is_orphaned_record s.lqh.layout.view.full) s.lqh.rows.pending r.records)

    goes_on_plain : (own : Bool) (o : Option Report) → NoneOf (go_on_by s own o)
    goes_on_plain true None = tt
    goes_on_plain true (Some r) = report_plain r
    goes_on_plain false None = tt
    goes_on_plain false (Some r) = tt

    epoch_plain : (from : ℕ) (signal : EpochSignal) → NoneOf (epoch_table s from signal)
    epoch_plain from (GcpClosed epoch) = (refl, tt)
    epoch_plain from (GcpSaveReq epoch) = (refl, tt)
    epoch_plain from GcpStateReq = (refl, tt)
    epoch_plain from _ = tt

    module _ (x : Signal) where
      passed_few : Few x.body (passed s x).effects.sends
      passed_few =
          let sends = (lqh_row s.lqh x).effects.sends in
          omega (arith, addressed_count s.lqh.layout.view sends, lqh_few s.lqh x.body)

      served_few : (stale : Bool) → Few x.body (serve_if s x stale).effects.sends
      served_few true = omega arith
      served_few false = passed_few

      plain_few : (step : Step ReplicaState) → NoneOf step → Few x.body step.effects.sends
      plain_few step all = none_few x.body step.effects.sends (plain_none step.effects.sends all)

      by_few : (body : Body) → Few x.body (replica_by s x body).effects.sends
      by_few (Membership (FenceReq proposal)) = plain_few (replica_by s x (Membership (FenceReq proposal))) (refl, tt)
      by_few (Takeover LqhTransReq) = plain_few (report_row s x.member.node) (report_plain _)
      by_few (Host (Continue work.Report at)) =
          plain_few (go_on_by s (x.view.number == s.lqh.layout.view.number) s.report)
          (goes_on_plain (x.view.number == s.lqh.layout.view.number) s.report)
      by_few (Host (Continue work.Granted at)) = served_few (is_stale s x)
      by_few (Host (Continue work.Expired at)) = served_few (is_stale s x)
      by_few (Epoch signal) = plain_few (epoch_table s x.member.node signal) (epoch_plain x.member.node signal)
      by_few _ = passed_few

-- whatever rows take
rows_pass : (drive : Drive) (w : Keys) (s : ReplicaState) (x : Signal)
    → count_sent (either drive w) (replica_row s x).effects.sends ≤ one_if (goes drive w x.body)
rows_pass drive w s x = by_few drive w s x x.body

-- and with their saver, which sends neither
pub saving_pass : (drive : Drive) (w : Keys) (s : SavingState) (x : Signal)
    → count_sent (either drive w) (saver_row s x).effects.sends ≤ one_if (goes drive w x.body)
saving_pass drive w s x =
    saver_lists s x (λ sends. count_sent (either drive w) sends ≤ one_if (goes drive w x.body))
    (rows_pass drive w s.replica x)
    (λ sends own.
    none_few drive w x.body sends
    (plain_none drive w sends
    (each_map IsOfSaver (λ (o : Outgoing). is_plain drive w o.body ≡ true) sends
    (λ o is.
    of_saver (λ body. is_plain drive w body ≡ true) (record {
      reports = λ epoch. refl;
      confirms = refl;
      goes_on = λ at. refl;
    }) o.body is) own)))
