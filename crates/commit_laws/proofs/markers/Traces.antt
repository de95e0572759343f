-- At an event: what is committed, or remembered of a commit, is of a key that its transaction wrote; and a marker comes
-- to stand alone when all is done.
use Rattle.std.proofs.Common.{◌≡◌, ◌≢◌, ◌⊎◌, ◌||◌, ◌&&◌, ◌∙◌, ℕ, Bool, true, false, List, [], ◌∷◌, refl, sym, ap, subst}
use Rattle.std.proofs.Common.{inl, inr}
use Rattle.std.proofs.lemmas.Bool.{and_parts, cases_eq, or_left, or_right, true≢false}
use Rattle.std.specs.Prelude.{if◌then◌else◌, Option, None, Some}
use Rattle.std.specs.List.{list_any}
use Rattle.run_theory.specs.Lists.{Each, IsIn}
use Rattle.run_theory.proofs.Runs.{log_of-other}
use Rattle.sig_core.specs.declared.member.Member.{Member}
use Rattle.sig_core.specs.declared.member.TxId.{TxId}
use Rattle.sig_core.specs.declared.rows.PendingRecord.{PendingRecord}
use Rattle.sig_core.specs.declared.signal.Body.TheVariants.{Chain}
use Rattle.sig_core.specs.declared.signal.chain.ChainSignal.TheVariants.{Abort, Commit, Complete}
use Rattle.sig_core.specs.Same.{same_key, same_tx}
use Rattle.sig_core.proofs.Keys.{same_tx-self}
use Rattle.lqh_block.specs.Commit.{is_marker}
use Rattle.lqh_views.specs.State.{ReplicaState}
use Rattle.key_laws.specs.Records.{as_committed, committed, found, if_committed, unless_committed}
use Rattle.key_laws.specs.Replica.{at_key}
use Rattle.world_core.specs.Start.{Start, made}
use Rattle.world_core.specs.Steps.{Addressed, HostStep}
use Rattle.world_views.specs.Machine.{machine}
use Rattle.moment_laws.specs.Moments.{IsMoment, logs_of}
use Rattle.moment_laws.specs.Places.{ldm_of, tc_of}
use Rattle.moment_laws.proofs.MomentViews.{moment_less}
use Rattle.outcome_laws.specs.Counts.{coordinator_member}
use Rattle.request_laws.specs.Blocks.{rows_after}
use Rattle.request_laws.specs.Ways.{has_gone_forth}
use Rattle.request_laws.proofs.tokens.HostsApart.{ldm_no_tc}
use Rattle.request_laws.proofs.routes.ChainsStay.{any_in}
use Rattle.commit_laws.proofs.records.KeptRows.{some_is}
use Rattle.commit_laws.specs.Commits.{ComesWhenDone, HasWritten, IsDone, LeavesTraceOn, committed_there, marked_there}
use Rattle.commit_laws.specs.Fates.{aborts, commits, fate, fate_if, is_led_by_full}
use Rattle.commit_laws.specs.Forth.{ForthIsKnownAlways}
use Rattle.commit_laws.specs.Going.{is_forth, is_lost}
use Rattle.commit_laws.specs.Markers.{CommitsAreRemembered}
use Rattle.commit_laws.specs.Together.{AllStand}
use Rattle.commit_laws.specs.Traces.{has_marker_at, has_trace, is_committed_of, is_known, is_marker_of, leave_trace}
use Rattle.commit_laws.specs.Traces.{members_now, record_at, rows_at}
use Rattle.commit_laws.proofs.fates.Committed.{IsCalm, forth_calm, forth_made}
use Rattle.commit_laws.proofs.commits.Remain.{AcknowledgedAreKnown, done_stays, marker_forth, record_forth}
use Rattle.commit_laws.proofs.commits.Remain.{record_there}
use Rattle.commit_laws.proofs.forth.DecidedStay.{forth_decided, written_more}
use Rattle.commit_laws.proofs.records.KeyGoes.{IsMarkedNow, KeyGoes, RecordGoes, TakesNow, is_aborted, is_committed}
use Rattle.commit_laws.proofs.records.KeyGoes.{is_completed, key_goes, record_stays}
use Rattle.commit_laws.proofs.hosts.SomePasses.{passing}
use Rattle.commit_laws.proofs.records.Moves.{now_by}
use Rattle.commit_laws.proofs.records.Replicas.{member_before, member_made}
use Rattle.commit_laws.proofs.links.TakenChains.{abort_aborts, chain_told, commit_kept}

-- whoever has gone forth, and left a trace, commits
commits_traced : (known full forth lost trace : Bool) → forth ≡ true → trace ≡ true
    → fate_if known full forth lost trace ≡ commits
commits_traced true full forth lost trace gone left = refl
commits_traced false true true lost trace gone left = refl
commits_traced false true false lost trace gone left = absurd (true≢false (sym gone))
commits_traced false false forth lost true gone left = refl
commits_traced false false forth lost false gone left = absurd (true≢false (sym left))

-- where none passes each fails
pub each_fails : {A : Type 0} (p : A → Bool) (xs : List A) → list_any p xs ≡ false → Each (λ x. p x ≡ false) xs
each_fails p [] none = tt
each_fails p (x ∷ xs) none = by (p x) refl none (each_fails p xs)
  where
    by : (b : Bool) → p x ≡ b → (b || list_any p xs) ≡ false
        → (list_any p xs ≡ false → Each (λ x. p x ≡ false) xs) → (p x ≡ false) × Each (λ x. p x ≡ false) xs
    by true is none more = absurd (true≢false none)
    by false is none more = (is, more none)

module _ (forth : ForthIsKnownAlways) where
  module _ (start : Start) (all : ℕ → List HostStep) (es : List HostStep) (moment : IsMoment start all es)
      (member : Member) (among : IsIn member (members_now start (logs_of start es))) (key : List ℕ) (tx : TxId)
    where
      abbrev logs : ℕ → List HostStep
      logs = logs_of start es

      traced : is_forth start logs tx ≡ true → leave_trace tx (rows_at start logs member) ≡ true
          → fate start logs tx ≡ commits
      traced gone left =
          commits_traced (is_known start logs tx) (is_led_by_full start logs tx) (is_forth start logs tx)
          (is_lost start logs tx) (has_trace start logs tx) gone
          (any_in (λ (m : Member). leave_trace tx (rows_at start logs m)) member (members_now start logs) among left)

      -- whoever has a marker at a member commits
      pub marker_commits : has_marker_at start (logs_of start es) member key tx ≡ true
          → fate start (logs_of start es) tx ≡ commits
      marker_commits on =
          traced (marker_forth forth start all es moment member (member_made start all es moment member among) key tx
          on)
          (or_right (list_any (is_committed_of tx) (rows_at start logs member).lqh.rows.pending)
          (list_any (is_marker_of tx) (rows_at start logs member).lqh.markers) left)
        where
          left : list_any (is_marker_of tx) (rows_at start logs member).lqh.markers ≡ true
          left =
              let one = passing (is_marker tx key) (rows_at start logs member).lqh.markers on in
              any_in (is_marker_of tx) one.item (rows_at start logs member).lqh.markers one.there
              (and_parts (same_tx one.item.tx tx) (same_key one.item.key key) one.is).0

      -- and so does whoever has a committed record there
      pub record_commits : (r : PendingRecord) → record_at start (logs_of start es) member key tx ≡ Some r
          → r.committed ≡ true → fate start (logs_of start es) tx ≡ commits
      record_commits r is done =
          traced
          (record_forth forth start all es moment member (member_made start all es moment member among) key tx r is
          done)
          (or_left (list_any (is_committed_of tx) (rows_at start logs member).lqh.rows.pending)
          (list_any (is_marker_of tx) (rows_at start logs member).lqh.markers)
          (by (list_any (is_committed_of tx) (rows_at start logs member).lqh.rows.pending) refl))
        where
          by : (b : Bool) → list_any (is_committed_of tx) (rows_at start logs member).lqh.rows.pending ≡ b → b ≡ true
          by true some = refl
          by false none =
              let one =
              record_there (λ (x : PendingRecord). is_committed_of tx x ≡ false) (rows_at start logs member).lqh.rows
              tx key r
              (each_fails (is_committed_of tx) (rows_at start logs member).lqh.rows.pending none) is in
              absurd (true≢false
              (sym (ap (λ t. same_tx t tx && one.own.committed) one.tx_is
              ∙ (ap (λ b. b && one.own.committed) (same_tx-self tx)
              ∙ (ap (λ (x : PendingRecord). x.committed) (sym one.is) ∙ done)))
              ∙ one.so))

  module _ (start : Start) (all : ℕ → List HostStep) (e : HostStep) (es : List HostStep)
      (moment : IsMoment start all (e ∷ es))
    where
      abbrev old : ℕ → List HostStep
      old = logs_of start es

      abbrev new : ℕ → List HostStep
      new = logs_of start (e ∷ es)

      abbrev before : IsMoment start all es
      before = moment_less start all e es moment

      -- who has a trace behind an event had gone forth before
      module _ (member : Member) (there : IsIn member (made start)) (key : List ℕ) (tx : TxId) where
        rows_forth : e.host ≡ ldm_of start member → is_forth start new tx ≡ true → is_forth start old tx ≡ true
        rows_forth at is =
            sym (ap (has_gone_forth start (coordinator_member tx) tx)
            (log_of-other (machine start) e es (tc_of start (coordinator_member tx))
            (λ same.
            ldm_no_tc start moment.cluster.nobody member (coordinator_member tx) there
            (forth_made start all (e ∷ es) moment tx is)
            (sym at ∙ same)))) ∙ is

        other_rows : e.host ≢ ldm_of start member → rows_at start new member ≡ rows_at start old member
        other_rows other = ap (rows_after start member) (log_of-other (machine start) e es (ldm_of start member) other)

        pub trace_before : LeavesTraceOn start (logs_of start (e ∷ es)) member key tx
            → is_forth start (logs_of start es) tx ≡ true
        trace_before trace = by (cases_eq e.host (ldm_of start member)) trace
          where
            by : (e.host ≡ ldm_of start member) ⊎ (e.host ≢ ldm_of start member)
                → LeavesTraceOn start new member key tx → is_forth start old tx ≡ true
            by (inl at) (committed_there r is done) =
                rows_forth at (record_forth forth start all (e ∷ es) moment member there key tx r is done)
            by (inl at) (marked_there on) =
                rows_forth at (marker_forth forth start all (e ∷ es) moment member there key tx on)
            by (inr other) (committed_there r is done) =
                record_forth forth start all es before member there key tx r
                (sym (ap (λ (s : ReplicaState). found tx (at_key key s.lqh).cell.pending) (other_rows other)) ∙ is) done
            by (inr other) (marked_there on) =
                marker_forth forth start all es before member there key tx
                (sym (ap (λ (s : ReplicaState). list_any (is_marker tx key) s.lqh.markers) (other_rows other)) ∙ on)

      module _ (remembered : CommitsAreRemembered) (acknowledged : AcknowledgedAreKnown) (stood : AllStand start es)
        where
          module _ (member : Member) (there : IsIn member (made start)) (key : List ℕ) (tx : TxId) where
            -- a commit of a record is of a key that it wrote
            pub commit_written : TakesNow start all e es moment member there
                → (epoch : ℕ) (chain : List Member) (at : ℕ)
                → e.step.taken.body ≡ Chain (Commit tx key epoch chain at) → (r : PendingRecord)
                → record_at start (logs_of start es) member key tx ≡ Some r → HasWritten start (logs_of start es) tx key
            commit_written takes epoch chain at about r is =
                let one =
                commit_kept start all e es moment takes.now (Commit tx key epoch chain at) about forth stood.spoken tx
                key epoch
                chain at refl in
                (stood.commits.records tx one.kept member there key r is).0

            module _ (gone : is_forth start old tx ≡ true) where
              calm : IsCalm start old tx
              calm = forth_calm start all es before tx gone

              goes : KeyGoes start all e es moment member there key tx
              goes = key_goes start all e es moment member there key tx calm

              record_written : (r : PendingRecord) → record_at start new member key tx ≡ Some r → r.committed ≡ true
                  → HasWritten start old tx key
              record_written r is done = by goes.record_goes (record_at start old member key tx) refl
                where
                  was : (own : PendingRecord) → record_at start old member key tx ≡ Some own → own.committed ≡ true
                      → HasWritten start old tx key
                  was own own_is so = stood.commits.written tx member there key (committed_there own own_is so)

                  if_so : (own : PendingRecord) → record_at start old member key tx ≡ Some own → (b : Bool)
                      → own.committed ≡ b → (if b then Some own else None) ≡ Some r → HasWritten start old tx key
                  if_so own own_is true so same = was own own_is so
                  if_so own own_is false so same = absurd cc

                  unless_so : (own : PendingRecord) → (b : Bool) → own.committed ≡ b
                      → (if b then None else Some own) ≡ Some r → HasWritten start old tx key
                  unless_so own true so same = absurd cc
                  unless_so own false so same =
                      absurd (true≢false (sym done
                      ∙ (ap (λ (x : PendingRecord). x.committed) (sym (some_is own r same)) ∙ so)))

                  by : RecordGoes start all e es moment member there key tx → (o : Option PendingRecord)
                      → record_at start old member key tx ≡ o → HasWritten start old tx key
                  by (record_stays same) o own_is = was r (sym same ∙ is) done
                  by (is_committed takes epoch chain at about now) None own_is =
                      absurd (let both : None ≡ Some r = sym (now ∙ ap (now_by as_committed) own_is) ∙ is in cc)
                  by (is_committed takes epoch chain at about now) (Some own) own_is =
                      commit_written takes epoch chain at about own own_is
                  by (is_completed takes chain at about now) None own_is =
                      absurd (let both : None ≡ Some r = sym (now ∙ ap (now_by unless_committed) own_is) ∙ is in cc)
                  by (is_completed takes chain at about now) (Some own) own_is =
                      unless_so own own.committed refl (sym (now ∙ ap (now_by unless_committed) own_is) ∙ is)
                  by (is_aborted takes about now) None own_is =
                      absurd (let both : None ≡ Some r = sym (now ∙ ap (now_by if_committed) own_is) ∙ is in cc)
                  by (is_aborted takes about now) (Some own) own_is =
                      if_so own own_is own.committed refl (sym (now ∙ ap (now_by if_committed) own_is) ∙ is)

              marker_written : has_marker_at start new member key tx ≡ true → HasWritten start old tx key
              marker_written on = by (goes.marker_gives on)
                where
                  by : (has_marker_at start old member key tx ≡ true)
                      ⊎ IsMarkedNow start all e es moment member there key tx
                      → HasWritten start old tx key
                  by (inl was) = stood.commits.written tx member there key (marked_there was)
                  by (inr now) =
                      commit_written now.takes now.commits.epoch now.commits.chain now.commits.at now.commits.body_is
                      now.commits.prepared now.commits.there

            pub written_now : LeavesTraceOn start (logs_of start (e ∷ es)) member key tx
                → HasWritten start (logs_of start (e ∷ es)) tx key
            written_now trace =
                written_more start all e es moment tx key
                (forth_decided start all es before tx (trace_before member there key tx trace))
                (by trace (trace_before member there key tx trace))
              where
                by : LeavesTraceOn start new member key tx → is_forth start old tx ≡ true → HasWritten start old tx key
                by (committed_there r is done) gone = record_written gone r is done
                by (marked_there on) gone = marker_written gone on

          -- a completion that is taken is of one that is done
          pub complete_done : (member : Member) (there : IsIn member (made start))
              → TakesNow start all e es moment member there → (tx : TxId) (key : List ℕ) (chain : List Member) (at : ℕ)
              → e.step.taken.body ≡ Chain (Complete tx key chain at) → IsDone start (logs_of start es) tx
          complete_done member there takes tx key chain at about =
              subst (ComesWhenDone start old) about
              (chain_told start all e es moment takes.now (Complete tx key chain at) about
              (λ (y : Addressed). ComesWhenDone start old y.signal.body) stood.commits.done)

          -- a marker alone
          pub alone_now : (member : Member) → IsIn member (members_now start (logs_of start (e ∷ es))) → (key : List ℕ)
              (tx : TxId) → has_marker_at start (logs_of start (e ∷ es)) member key tx ≡ true
              → record_at start (logs_of start (e ∷ es)) member key tx ≡ None
              → IsDone start (logs_of start (e ∷ es)) tx
          alone_now member among key tx on none =
              done_stays forth remembered acknowledged start all e es moment tx
              (forth_decided start all es before tx gone)
              (by ((goes member there key tx gone).marker_gives on))
            where
              was_among : IsIn member (members_now start old)
              was_among = member_before start all e es moment member among

              there : IsIn member (made start)
              there = member_made start all es before member was_among

              gone : is_forth start old tx ≡ true
              gone = trace_before member there key tx (marked_there on)

              had_one : (own : PendingRecord) → record_at start new member key tx ≡ Some own → IsDone start old tx
              had_one own is = absurd (let both : Some own ≡ None = sym is ∙ none in cc)

              old_marker : has_marker_at start old member key tx ≡ true
                  → RecordGoes start all e es moment member there key tx → (o : Option PendingRecord)
                  → record_at start old member key tx ≡ o → IsDone start old tx
              old_marker was moves None is = stood.commits.alone member was_among key tx was is
              old_marker was (record_stays same) (Some own) is = had_one own (same ∙ is)
              old_marker was (is_committed takes epoch chain at about now) (Some own) is =
                  had_one (committed own) (now ∙ ap (now_by as_committed) is)
              old_marker was (is_completed takes chain at about now) (Some own) is =
                  complete_done member there takes tx key chain at about
              old_marker was (is_aborted takes about now) (Some own) is =
                  absurd (let both : commits ≡ aborts =
                  sym (marker_commits start all es before member was_among key tx was)
                  ∙ abort_aborts start all e es moment takes.now (Abort tx key) about forth stood.spoken tx key refl in
                  cc)

              new_marker : IsMarkedNow start all e es moment member there key tx
                  → RecordGoes start all e es moment member there key tx → IsDone start old tx
              new_marker now (record_stays same) = had_one now.commits.prepared (same ∙ now.commits.there)
              new_marker now (is_committed takes epoch chain at about is) =
                  had_one (committed now.commits.prepared) (is ∙ ap (now_by as_committed) now.commits.there)
              new_marker now (is_completed takes chain at about is) =
                  complete_done member there takes tx key chain at about
              new_marker now (is_aborted takes about is) =
                  absurd (let both : Chain (Abort tx key)
                  ≡ Chain (Commit tx key now.commits.epoch now.commits.chain now.commits.at) =
                  sym about ∙ now.commits.body_is in cc)

              by : (has_marker_at start old member key tx ≡ true)
                  ⊎ IsMarkedNow start all e es moment member there key tx
                  → IsDone start old tx
              by (inl was) =
                  old_marker was (goes member there key tx gone).record_goes (record_at start old member key tx) refl
              by (inr now) = new_marker now (goes member there key tx gone).record_goes
