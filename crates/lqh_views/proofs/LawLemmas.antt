-- What is true of the steps of a node's rows under views.
use Rattle.std.proofs.Common.{◌≡◌, ◌==◌, ℕ, Bool, true, false, not, cond, List, [], ◌∷◌, map, refl, ap, sym, ◌∙◌, subst}
use Rattle.std.proofs.lemmas.Bool.{true≢false}
use Rattle.std.specs.Prelude.{IfSome, Option, None, Some, filter}
use Rattle.run_theory.specs.Lists.{Each}
use Rattle.sig_core.specs.declared.member.TxId.{TxId}
use Rattle.sig_core.specs.declared.outs.Outgoing.{Outgoing}
use Rattle.sig_core.specs.declared.rows.PendingRecord.{PendingRecord}
use Rattle.sig_core.specs.declared.signal.Body.{Body}
use Rattle.sig_core.specs.declared.signal.Body.TheVariants.{Host, Membership, Takeover, Epoch}
use Rattle.sig_core.specs.declared.signal.Signal.{Signal}
use Rattle.sig_core.specs.declared.signal.epoch.EpochSignal.{EpochSignal}
use Rattle.sig_core.specs.declared.signal.epoch.EpochSignal.TheVariants.{GcpClosed, GcpSaveReq, GcpStateReq}
use Rattle.sig_core.specs.declared.signal.host.HostSignal.TheVariants.{Continue}
use Rattle.sig_core.specs.declared.signal.host.Work.TheVariants as work
use Rattle.sig_core.specs.declared.signal.membership.MembershipSignal.TheVariants.{FenceReq}
use Rattle.sig_core.specs.declared.signal.takeover.TakeoverSignal.TheVariants.{LqhTransReq}
use Rattle.sig_core.specs.declared.view.View.{View}
use Rattle.row_locks.specs.declared.claim.Holder.{Holder}
use Rattle.row_locks.specs.Keeping.{left_to}
use Rattle.row_locks.specs.Tables.{lock_at}
use Rattle.row_locks.proofs.KeepingLemmas.{lock-left}
use Rattle.lqh_block.specs.declared.request.Marker.{Marker}
use Rattle.lqh_block.specs.declared.request.Request.{Request}
use Rattle.lqh_block.specs.Lqh.{lqh_row, lqh_table}
use Rattle.lqh_block.specs.Views.{goes_on_holding, is_coordinated}
use Rattle.lqh_block.proofs.EachLqh.{RequestSends, RowsSend, lqh_sends_each}
use Rattle.lqh_views.specs.declared.report.Report.{Report}
use Rattle.lqh_views.specs.Address.{about, addressed, owned_by, owned_if}
use Rattle.lqh_views.specs.Epochs.{epoch_table}
use Rattle.lqh_views.specs.Laws.{CalmSteps, InstallationsEndWaits, IsCalm, IsCoordinated, ReportsAreTrue, TellsTruly}
use Rattle.lqh_views.specs.Laws.{beside, is_of_rows_by}
use Rattle.lqh_views.specs.Replica.{in_rows, installed, is_stale, passed, replica_by, serve_if}
use Rattle.lqh_views.specs.Report.{go_on_by, is_orphaned_marker, is_orphaned_record, last_before, marker_by, record_by}
use Rattle.lqh_views.specs.Report.{reporting, told_record_if}
use Rattle.lqh_views.specs.State.{ReplicaState, with_lqh}
use Rattle.lqh_views.proofs.AddressLemmas.{same-body}
use Rattle.lqh_views.proofs.LastLemmas.{IsThere, last-there}

-- calm steps

calm_one : (view : View) (send : Outgoing) → IsCalm view send → addressed view send ≡ send
unfolding addressed
calm_one view send calm = by (about send.body) calm
  where
    by_if : (b : Bool) → b ≡ true → owned_if view.full send b ≡ send
    by_if true is = refl
    by_if false is = absurd (true≢false (sym is))

    by : (o : Option TxId) → IsCoordinated view.full o → owned_by view.full send o ≡ send
    by None is = refl
    by (Some tx) is = by_if (is_coordinated view.full tx) is

calm_all : (view : View) (sends : List Outgoing) → Each (IsCalm view) sends → map (addressed view) sends ≡ sends
calm_all view [] calm = refl
calm_all view (send ∷ sends) calm = λ i. calm_one view send calm.0 i ∷ calm_all view sends calm.1 i

pub passed_beside : (s : ReplicaState) (x : Signal) → Each (IsCalm s.lqh.layout.view) (lqh_row s.lqh x).effects.sends
    → passed s x ≡ beside s (lqh_row s.lqh x)
passed_beside s x calm =
    ap (λ sends. record {
      state = with_lqh s (lqh_row s.lqh x).state;
      effects = record { sends = sends; marks = (lqh_row s.lqh x).effects.marks };
    }) (calm_all s.lqh.layout.view (lqh_row s.lqh x).effects.sends calm)

serve_passed : (s : ReplicaState) (x : Signal) (stale : Bool) → not stale ≡ true → serve_if s x stale ≡ passed s x
serve_passed s x true is = absurd (true≢false (sym is))
serve_passed s x false is = refl

-- at a signal of the rows the block does what they do
passes_on : (s : ReplicaState) (x : Signal) (body : Body) → x.body ≡ body → is_of_rows_by s x body ≡ true
    → replica_by s x body ≡ passed s x
passes_on s x (Membership (FenceReq proposal)) same is = absurd (true≢false (sym is))
passes_on s x (Takeover LqhTransReq) same is = absurd (true≢false (sym is))
passes_on s x (Host (Continue work.Report at)) same is = absurd (true≢false (sym is))
passes_on s x (Host (Continue work.Granted at)) same is = serve_passed s x (is_stale s x) is
passes_on s x (Host (Continue work.Expired at)) same is = serve_passed s x (is_stale s x) is
passes_on s x (Epoch (GcpClosed epoch)) same is = absurd (true≢false (sym is))
passes_on s x (Epoch (GcpSaveReq epoch)) same is = absurd (true≢false (sym is))
passes_on s x (Epoch GcpStateReq) same is = absurd (true≢false (sym is))
passes_on s x (Epoch signal) same is = ap (λ body. in_rows s (lqh_table s.lqh body)) (sym same)
passes_on s x _ same is = refl

pub calm_steps : CalmSteps
calm_steps s x is calm = passes_on s x x.body refl is ∙ passed_beside s x calm

-- installations

each_passes : (p : Holder → Bool) (hs : List Holder) → Each (λ h. p h ≡ true) (filter p hs)
each_passes p [] = tt
each_passes p (h ∷ hs) = by (p h) refl (each_passes p hs)
  where
    by : (b : Bool) → p h ≡ b → Each (λ h. p h ≡ true) (filter p hs)
        → Each (λ h. p h ≡ true) (cond b (h ∷ filter p hs) (filter p hs))
    by true is rest = (is, rest)
    by false is rest = rest

pub installations_end_waits : InstallationsEndWaits
installations_end_waits s view =
    record {
      quiet = record { requests = refl; queues = λ key. ap (λ lock. lock.queue) (left key) };
      rightly = record {
        each = λ key. subst (λ lock. Each (λ holder. stays key holder.tx ≡ true) lock.holders) (sym (left key))
            (each_passes (λ holder. stays key holder.tx) (lock_at s.lqh.locks key).holders);
      };
      same = left;
      over = refl;
    }
  where
    stays : List ℕ → TxId → Bool
    stays key tx = goes_on_holding s.lqh.rows view.full key tx

    left : (key : List ℕ) → lock_at (installed s view).lqh.locks key ≡ left_to (stays key) (lock_at s.lqh.locks key)
    left key = lock-left stays s.lqh.locks key

-- reports

abbrev Truly : ReplicaState → List Outgoing → Type 0
Truly s sends = Each (λ send. TellsTruly s send.body) sends

addressed_truly : (s : ReplicaState) (view : View) (sends : List Outgoing) → Truly s sends
    → Truly s (map (addressed view) sends)
addressed_truly s view [] all = tt
addressed_truly s view (send ∷ sends) all =
    (subst (λ body. TellsTruly s body) (sym (same-body view send)) all.0, addressed_truly s view sends all.1)

request_truly : (s : ReplicaState) (r : Request) → RequestSends (λ send. TellsTruly s send.body) r
request_truly s r = record {
  log_full = λ used reserved need. tt;
  table_full = λ rows. tt;
  answers = λ a. tt;
  passes = λ image next is. tt;
}

-- the rows themselves tell a takeover nothing
rows_truly : (s : ReplicaState) (body : Body) → RowsSend (λ send. TellsTruly s send.body) s.lqh body
rows_truly s body = record {
  asked = λ r is. request_truly s r;
  waited = λ at r is. request_truly s r;
  grants_more = tt;
  expires_more = tt;
  commits_on = λ tx key epoch chain at is behind. tt;
  committed = λ tx key epoch chain at is first. tt;
  completes_on = λ tx key chain at is behind. tt;
  completed = λ tx key chain at is first. tt;
  aborted = λ tx key is. tt;
  gives_up = λ tx key is. tt;
  times_out = λ tx key. tt;
  waits = λ tx key ahead is there. tt;
  dumps = λ at rows next is. tt;
}

passed_truly : (s : ReplicaState) (x : Signal) → Truly s (passed s x).effects.sends
passed_truly s x =
    addressed_truly s s.lqh.layout.view (lqh_row s.lqh x).effects.sends
    (lqh_sends_each (λ send. TellsTruly s send.body) s.lqh x.body (rows_truly s x.body))

reporting_truly : (s : ReplicaState) (r : Report) → Truly s (reporting s r).effects.sends
unfolding reporting
reporting_truly s r =
    by (last_before orphaned s.lqh.rows.pending r.records) (last-there orphaned s.lqh.rows.pending r.records)
  where
    orphaned : PendingRecord → Bool
    orphaned = is_orphaned_record s.lqh.layout.view.full

    orphaned_marker : Marker → Bool
    orphaned_marker = is_orphaned_marker s.lqh.layout.view.full

    record_if : (at : ℕ) (one : PendingRecord) → IsThere orphaned s.lqh.rows.pending (at, one) → (b : Bool)
        → one.committed ≡ b → TellsTruly s (told_record_if r.to one b).body
    record_if at one is true same = (
      record {
        at = at;
        one = one;
        there = is.there;
        orphaned = is.passes;
        is_tx = refl;
        is_key = refl;
        is_committed = same;
      },
      refl,
    )
    record_if at one is false same = (
      record {
        at = at;
        one = one;
        there = is.there;
        orphaned = is.passes;
        is_tx = refl;
        is_key = refl;
        is_committed = same;
      },
      refl,
    )

    by_marker : (found : Option (ℕ × Marker)) → IfSome found (IsThere orphaned_marker s.lqh.markers)
        → Truly s (marker_by s r found).effects.sends
    by_marker None is = (tt, tt)
    by_marker (Some found) is = (record { at = found.0; there = is.there; orphaned = is.passes }, (tt, tt))

    by : (found : Option (ℕ × PendingRecord)) → IfSome found (IsThere orphaned s.lqh.rows.pending)
        → Truly s (record_by s r found).effects.sends
    by None is =
        by_marker (last_before orphaned_marker s.lqh.markers r.markers)
        (last-there orphaned_marker s.lqh.markers r.markers)
    by (Some found) is = (record_if found.0 found.1 is found.1.committed refl, (tt, tt))

go_on_truly : (s : ReplicaState) (own : Bool) (report : Option Report) → Truly s (go_on_by s own report).effects.sends
go_on_truly s true None = tt
go_on_truly s true (Some r) = reporting_truly s r
go_on_truly s false None = tt
go_on_truly s false (Some r) = tt

serve_truly : (s : ReplicaState) (x : Signal) (stale : Bool) → Truly s (serve_if s x stale).effects.sends
serve_truly s x true = tt
serve_truly s x false = passed_truly s x

epoch_truly : (s : ReplicaState) (from : ℕ) (signal : EpochSignal) → Truly s (epoch_table s from signal).effects.sends
epoch_truly s from (GcpClosed epoch) = (tt, tt)
epoch_truly s from (GcpSaveReq epoch) = (tt, tt)
epoch_truly s from GcpStateReq = (tt, tt)
epoch_truly s from _ = tt

step_truly : (s : ReplicaState) (x : Signal) (body : Body) → Truly s (replica_by s x body).effects.sends
step_truly s x (Membership (FenceReq proposal)) = (tt, tt)
step_truly s x (Takeover LqhTransReq) = reporting_truly s _
step_truly s x (Host (Continue work.Report at)) = go_on_truly s (x.view.number == s.lqh.layout.view.number) s.report
step_truly s x (Host (Continue work.Granted at)) = serve_truly s x (is_stale s x)
step_truly s x (Host (Continue work.Expired at)) = serve_truly s x (is_stale s x)
step_truly s x (Epoch signal) = epoch_truly s x.member.node signal
step_truly s x _ = passed_truly s x

pub reports_are_true : ReportsAreTrue
reports_are_true s x = step_truly s x x.body
