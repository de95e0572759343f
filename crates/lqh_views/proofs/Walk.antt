-- What holds of each form of a step of a node's rows under views holds of each step; and so what holds of each form of
-- signal and mark.
use Rattle.std.proofs.Common.{◌≡◌, ◌⊎◌, inl, inr, ◌==◌, ℕ, List, [], ◌∷◌, Bool, true, false, not, map, refl, sym, ap}
use Rattle.std.proofs.Common.{◌∙◌, subst}
use Rattle.std.proofs.lemmas.Bool.{true≢false}
use Rattle.std.specs.Prelude.{IfSome, Option, None, Some}
use Rattle.run_theory.specs.Lists.{Each}
use Rattle.run_theory.proofs.Pasts.{each_from}
use Rattle.sig_core.specs.declared.mark.Mark.{Mark}
use Rattle.sig_core.specs.declared.outs.Outgoing.{Outgoing}
use Rattle.sig_core.specs.declared.rows.PendingRecord.{PendingRecord}
use Rattle.sig_core.specs.declared.signal.Body.{Body}
use Rattle.sig_core.specs.declared.signal.Body.TheVariants.{Chain, Client, Epoch, Host, Membership, Takeover}
use Rattle.sig_core.specs.declared.signal.Signal.{Signal}
use Rattle.sig_core.specs.declared.signal.chain.ChainSignal.TheVariants as chain
use Rattle.sig_core.specs.declared.signal.chain.RowWork.TheVariants.{Store}
use Rattle.sig_core.specs.declared.signal.client.ClientSignal.TheVariants.{DumpConf, LqhWaitConf}
use Rattle.sig_core.specs.declared.signal.epoch.EpochSignal.{EpochSignal}
use Rattle.sig_core.specs.declared.signal.epoch.EpochSignal.TheVariants.{GcpClosed, GcpClosedConf, GcpSaveConf}
use Rattle.sig_core.specs.declared.signal.epoch.EpochSignal.TheVariants.{GcpSaveReq, GcpStateConf, GcpStateReq}
use Rattle.sig_core.specs.declared.signal.host.HostSignal.TheVariants.{Continue}
use Rattle.sig_core.specs.declared.signal.host.Work.TheVariants as work
use Rattle.sig_core.specs.declared.signal.membership.MembershipSignal.TheVariants.{FenceConf, FenceReq}
use Rattle.sig_core.specs.declared.signal.takeover.RecordState.TheVariants as state
use Rattle.sig_core.specs.declared.signal.takeover.TakeoverSignal.TheVariants.{LqhTransReq}
use Rattle.sig_core.specs.declared.view.View.{View}
use Rattle.sig_core.specs.Place.{checkpoints, membership, rows_of}
use Rattle.sig_core.specs.Portion.{go_on_at}
use Rattle.sig_core.specs.Step.{Step, stay, to_place}
use Rattle.step_forms.specs.Does.{Does, IsAmong, IsWord, Speaks}
use Rattle.step_forms.proofs.DoesLemmas.{speaks_do}
use Rattle.lqh_block.specs.declared.request.Marker.{Marker}
use Rattle.lqh_block.specs.declared.request.Request.{Request}
use Rattle.lqh_block.specs.Lqh.{lqh_row}
use Rattle.lqh_block.specs.State.{LqhState}
use Rattle.lqh_block.proofs.EachLqh.{RequestSends, RowsMark, RowsSend, lqh_each, lqh_marks_each, lqh_sends_each}
use Rattle.lqh_views.specs.declared.report.Report.{Report}
use Rattle.lqh_views.specs.Address.{addressed}
use Rattle.lqh_views.specs.Epochs.{close_row, epoch_table, fence_row, save_row, state_row}
use Rattle.lqh_views.specs.Laws.{is_of_rows, is_of_rows_by}
use Rattle.lqh_views.specs.Replica.{is_stale, passed, replica_by, replica_row, serve_if}
use Rattle.lqh_views.specs.Report.{ending, go_on_by, is_orphaned_marker, is_orphaned_record, last_before, marker_by}
use Rattle.lqh_views.specs.Report.{record_by, reporting, telling, told, told_marker, told_record, told_record_if}
use Rattle.lqh_views.specs.State.{ReplicaState}
use Rattle.lqh_views.specs.WholeReports.{the_end, whole}
use Rattle.lqh_views.specs.Words.{ReplicaKeepsToItsWords, is_replica_mark, is_replica_word, is_row_word}
use Rattle.lqh_views.proofs.AddressLemmas.{same-body}
use Rattle.lqh_views.proofs.LastLemmas.{IsThere, last-there}

-- At the signal the rows go on with a report, of which this is left: a takeover at this node's member asks for one, or
-- it is the rows' own signal of this view about the one under way.
pub data IsReporting (s : ReplicaState) (x : Signal) (r : Report) : Type 0 where
  is_asked : x.body ≡ Takeover LqhTransReq → r ≡ whole s x.member.node → IsReporting s x r
  goes_on : (at : ℕ) → x.body ≡ Host (Continue work.Report at)
      → (x.view.number == s.lqh.layout.view.number) ≡ true → s.report ≡ Some r → IsReporting s x r

-- the signal is about waits that were granted, or stood too long
abbrev pub is_of_waits : Body → Bool
is_of_waits (Host (Continue work.Granted at)) = true
is_of_waits (Host (Continue work.Expired at)) = true
is_of_waits _ = false

-- the record, or the marker, is of a transaction that was left behind, and stands at this place
abbrev pub IsLeftRecord : ReplicaState → ℕ → PendingRecord → Type 0
IsLeftRecord s at one = IsThere (is_orphaned_record s.lqh.layout.view.full) s.lqh.rows.pending (at, one)

abbrev pub IsLeftMarker : ReplicaState → ℕ → Marker → Type 0
IsLeftMarker s at m = IsThere (is_orphaned_marker s.lqh.layout.view.full) s.lqh.markers (at, m)

-- the last one that is left of a report
abbrev pub last_record : ReplicaState → Report → Option (ℕ × PendingRecord)
last_record s r = last_before (is_orphaned_record s.lqh.layout.view.full) s.lqh.rows.pending r.records

abbrev pub last_marker : ReplicaState → Report → Option (ℕ × Marker)
last_marker s r = last_before (is_orphaned_marker s.lqh.layout.view.full) s.lqh.markers r.markers

-- R is of each step that the rows may take at the signal
pub record ReplicaOutcomes (s : ReplicaState) (x : Signal) (R : Step ReplicaState → Type 0) : Type 0 where
  -- the rows take it
  pub passes : is_of_rows s x ≡ true → R (passed s x)
  -- nothing comes of it: it is of waits of an older view, of a report that isn't under way, or of no order to the rows
  pub stales : is_of_waits x.body ≡ true → is_stale s x ≡ true → R (stay s)
  pub unasked : (at : ℕ) → x.body ≡ Host (Continue work.Report at)
      → ((x.view.number == s.lqh.layout.view.number) ≡ false) ⊎ (s.report ≡ None) → R (stay s)
  pub ignores : (signal : EpochSignal) → x.body ≡ Epoch signal → R (stay s)
  -- a view is promised
  pub promises : (proposal : View) → x.body ≡ Membership (FenceReq proposal) → R (fence_row s)
  -- the master of checkpoints orders something
  pub closes : (epoch : ℕ) → x.body ≡ Epoch (GcpClosed epoch) → R (close_row s x.member.node epoch)
  pub saves : (epoch : ℕ) → x.body ≡ Epoch (GcpSaveReq epoch) → R (save_row s x.member.node epoch)
  pub states : x.body ≡ Epoch GcpStateReq → R (state_row s x.member.node)
  -- a report tells of a record, of a marker where no record is left, or ends where no marker is
  pub tells_record : (r : Report) → IsReporting s x r → (at : ℕ) (one : PendingRecord)
      → last_record s r ≡ Some (at, one) → IsLeftRecord s at one
      → R (telling s (record { to = r.to; records = at; markers = r.markers }) (told_record r.to one))
  pub tells_marker : (r : Report) → IsReporting s x r → (at : ℕ) (m : Marker) → last_record s r ≡ None
      → last_marker s r ≡ Some (at, m) → IsLeftMarker s at m
      → R (telling s (record { to = r.to; records = 0; markers = at }) (told_marker r.to m))
  pub ends : (r : Report) → IsReporting s x r → last_record s r ≡ None → last_marker s r ≡ None → R (ending s r)

module _ (s : ReplicaState) (x : Signal) (R : Step ReplicaState → Type 0) (forms : ReplicaOutcomes s x R) where
  reports : (r : Report) → IsReporting s x r → R (reporting s r)
  unfolding reporting
  reports r under_way =
      by (last_record s r) refl
      (last-there (is_orphaned_record s.lqh.layout.view.full) s.lqh.rows.pending r.records)
    where
      markers : last_record s r ≡ None → (found : Option (ℕ × Marker)) → last_marker s r ≡ found
          → IfSome found (IsThere (is_orphaned_marker s.lqh.layout.view.full) s.lqh.markers) → R (marker_by s r found)
      markers none None no_more there = forms.ends r under_way none no_more
      markers none (Some (at, m)) is there = forms.tells_marker r under_way at m none is there

      by : (found : Option (ℕ × PendingRecord)) → last_record s r ≡ found
          → IfSome found (IsThere (is_orphaned_record s.lqh.layout.view.full) s.lqh.rows.pending)
          → R (record_by s r found)
      by (Some (at, one)) is there = forms.tells_record r under_way at one is there
      by None none there =
          markers none (last_marker s r) refl
          (last-there (is_orphaned_marker s.lqh.layout.view.full) s.lqh.markers r.markers)

  goes_on_with : (at : ℕ) → x.body ≡ Host (Continue work.Report at)
      → R (go_on_by s (x.view.number == s.lqh.layout.view.number) s.report)
  goes_on_with at is = by (x.view.number == s.lqh.layout.view.number) refl s.report refl
    where
      by : (own : Bool) → (x.view.number == s.lqh.layout.view.number) ≡ own → (o : Option Report) → s.report ≡ o
          → R (go_on_by s own o)
      by true own (Some r) under_way = reports r (goes_on at is own under_way)
      by true own None none = forms.unasked at is (inr none)
      by false other (Some r) under_way = forms.unasked at is (inl other)
      by false other None none = forms.unasked at is (inl other)

  serves : is_of_waits x.body ≡ true → is_of_rows s x ≡ not (is_stale s x) → R (serve_if s x (is_stale s x))
  serves of_waits of_rows = by (is_stale s x) refl
    where
      by : (b : Bool) → is_stale s x ≡ b → R (serve_if s x b)
      by true stale = forms.stales of_waits stale
      by false fresh = forms.passes (of_rows ∙ ap not fresh)

  epochs : (signal : EpochSignal) → x.body ≡ Epoch signal → R (epoch_table s x.member.node signal)
  epochs (GcpClosed epoch) is = forms.closes epoch is
  epochs (GcpSaveReq epoch) is = forms.saves epoch is
  epochs GcpStateReq is = forms.states is
  epochs signal is = forms.ignores signal is

  -- whatever the rows take
  pub replica_outcomes : R (replica_row s x)
  replica_outcomes = by x.body refl
    where
      by : (body : Body) → x.body ≡ body → R (replica_by s x body)
      by (Membership (FenceReq proposal)) is = forms.promises proposal is
      by (Takeover LqhTransReq) is = reports (whole s x.member.node) (is_asked is refl)
      by (Host (Continue work.Report at)) is = goes_on_with at is
      by (Host (Continue work.Granted at)) is = serves (ap is_of_waits is) (ap (is_of_rows_by s x) is)
      by (Host (Continue work.Expired at)) is = serves (ap is_of_waits is) (ap (is_of_rows_by s x) is)
      by (Epoch signal) is = epochs signal is
      by _ is = forms.passes (ap (is_of_rows_by s x) is)

-- what the rows send of their own, beside what they send where they take a signal
pub record OwnSends (s : ReplicaState) (x : Signal) (P : Outgoing → Type 0) : Type 0 where
  pub promises : (proposal : View) → x.body ≡ Membership (FenceReq proposal)
      → P (to_place (membership s.lqh.node) (Membership FenceConf))
  pub closes : (epoch : ℕ) → x.body ≡ Epoch (GcpClosed epoch)
      → P (to_place (checkpoints x.member.node) (Epoch (GcpClosedConf epoch)))
  pub saves : (epoch : ℕ) → x.body ≡ Epoch (GcpSaveReq epoch)
      → P (to_place (checkpoints x.member.node) (Epoch (GcpSaveConf epoch)))
  pub states : x.body ≡ Epoch GcpStateReq
      → P (to_place (checkpoints x.member.node) (Epoch (GcpStateConf 0 0 0 s.closed s.saved 0)))
  -- a report, entry by entry
  pub tells_committed : (r : Report) → IsReporting s x r → (at : ℕ) (one : PendingRecord) → IsLeftRecord s at one
      → one.committed ≡ true → P (told r.to one.tx one.key state.Committed one.epoch)
  pub tells_prepared : (r : Report) → IsReporting s x r → (at : ℕ) (one : PendingRecord) → IsLeftRecord s at one
      → one.committed ≡ false → P (told r.to one.tx one.key state.Prepared 0)
  pub tells_marker : (r : Report) → IsReporting s x r → (at : ℕ) (m : Marker) → IsLeftMarker s at m
      → P (told_marker r.to m)
  pub reports_on : (r : Report) → IsReporting s x r → P (go_on_at (rows_of s.lqh.node) work.Report 0)
  pub ends : (r : Report) → IsReporting s x r → P (the_end r.to)

-- what is so of each signal as it is addressed is so of those that are addressed
addressed_each : (P : Outgoing → Type 0) (view : View) (sends : List Outgoing)
    → Each (λ send. P (addressed view send)) sends → Each P (map (addressed view) sends)
addressed_each P view [] all = tt
addressed_each P view (send ∷ sends) all = (all.0, addressed_each P view sends all.1)

same_each : (Q : Body → Type 0) (view : View) (sends : List Outgoing) → Each (λ (send : Outgoing). Q send.body) sends
    → Each (λ (send : Outgoing). Q send.body) (map (addressed view) sends)
same_each Q view [] all = tt
same_each Q view (send ∷ sends) all = (subst Q (sym (same-body view send)) all.0, same_each Q view sends all.1)

module _ (s : ReplicaState) (x : Signal) (P : Outgoing → Type 0) (M : Mark → Type 0) where
  -- where it is so of what the rows do with the signal it is so of the step
  own_each : (is_of_rows s x ≡ true → Does P M (passed s x)) → OwnSends s x P → Does P M (replica_row s x)
  own_each rows own =
      replica_outcomes s x (λ step. Does P M step) (record {
        passes = rows;
        stales = λ of_waits stale. (tt, tt);
        unasked = λ at is none. (tt, tt);
        ignores = λ signal is. (tt, tt);
        promises = λ proposal is. ((own.promises proposal is, tt), tt);
        closes = λ epoch is. ((own.closes epoch is, tt), tt);
        saves = λ epoch is. ((own.saves epoch is, tt), tt);
        states = λ is. ((own.states is, tt), tt);
        tells_record = λ r under_way at one last there.
            ((tells r under_way at one there one.committed refl, (own.reports_on r under_way, tt)), tt);
        tells_marker = λ r under_way at m none last there.
            ((own.tells_marker r under_way at m there, (own.reports_on r under_way, tt)), tt);
        ends = λ r under_way none no_more. ((own.ends r under_way, tt), tt);
      })
    where
      tells : (r : Report) → IsReporting s x r → (at : ℕ) (one : PendingRecord) → IsLeftRecord s at one → (b : Bool)
          → one.committed ≡ b → P (told_record_if r.to one b)
      tells r under_way at one there true is = own.tells_committed r under_way at one there is
      tells r under_way at one there false is = own.tells_prepared r under_way at one there is

-- anything that may be sent, or marked
abbrev pub AnySend : Outgoing → Type 0
AnySend send = Unit {0}

abbrev pub AnyMark : Mark → Type 0
AnyMark mark = Unit {0}

-- what is sent, whatever is marked
pub replica_sends_each : (s : ReplicaState) (x : Signal) (P : Outgoing → Type 0)
    → (is_of_rows s x ≡ true → RowsSend (λ send. P (addressed s.lqh.layout.view send)) s.lqh x.body) → OwnSends s x P
    → Each P (replica_row s x).effects.sends
replica_sends_each s x P sends own = (own_each s x P AnyMark rows own).0
  where
    rows : is_of_rows s x ≡ true → Does P AnyMark (passed s x)
    rows is = (
      addressed_each P s.lqh.layout.view (lqh_row s.lqh x).effects.sends
          (lqh_sends_each (λ send. P (addressed s.lqh.layout.view send)) s.lqh x.body (sends is)),
      each_from AnyMark (passed s x).effects.marks (λ mark there. tt),
    )

-- the same of what is said, whoever it is for
pub replica_says_each : (s : ReplicaState) (x : Signal) (Q : Body → Type 0)
    → (is_of_rows s x ≡ true → RowsSend (λ (send : Outgoing). Q send.body) s.lqh x.body)
    → OwnSends s x (λ (send : Outgoing). Q send.body)
    → Each (λ (send : Outgoing). Q send.body) (replica_row s x).effects.sends
replica_says_each s x Q sends own = (own_each s x (λ (send : Outgoing). Q send.body) AnyMark rows own).0
  where
    rows : is_of_rows s x ≡ true → Does (λ (send : Outgoing). Q send.body) AnyMark (passed s x)
    rows is = (
      same_each Q s.lqh.layout.view (lqh_row s.lqh x).effects.sends
          (lqh_sends_each (λ (send : Outgoing). Q send.body) s.lqh x.body (sends is)),
      each_from AnyMark (passed s x).effects.marks (λ mark there. tt),
    )

-- what is said where a request is performed
request_words : (r : Request) → RequestSends (IsWord is_row_word) r
request_words r = record {
  log_full = λ used reserved need. refl;
  table_full = λ rows. refl;
  answers = λ a. refl;
  passes = λ image next is. refl;
}

row_words : (s : LqhState) (body : Body) → RowsSend (IsWord is_row_word) s body
row_words s body = record {
  asked = λ r is. request_words r;
  waited = λ at r is. request_words r;
  grants_more = refl;
  expires_more = refl;
  commits_on = λ tx key epoch chain at is behind. refl;
  committed = λ tx key epoch chain at is first. refl;
  completes_on = λ tx key chain at is behind. refl;
  completed = λ tx key chain at is first. refl;
  aborted = λ tx key is. refl;
  gives_up = λ tx key is. refl;
  times_out = λ tx key. refl;
  waits = λ tx key ahead is there. refl;
  dumps = λ at rows next is. refl;
}

row_marks : (s : LqhState) (body : Body) → RowsMark (IsAmong is_replica_mark) s body
row_marks s body = record {
  prepared = λ tx key. refl;
  applied = λ tx key epoch chain at committed is first there. refl;
  completed = λ tx key chain at is. refl;
  given_up = λ tx key is there. refl;
  expired = λ tx key. refl;
}

-- where they take a signal they say their words alone
pub passed_words : (s : ReplicaState) (x : Signal) → Speaks is_row_word is_replica_mark (passed s x)
passed_words s x =
    let own = lqh_each (IsWord is_row_word) (IsAmong is_replica_mark) s.lqh x.body (row_words s.lqh x.body)
    (row_marks s.lqh x.body) in
    (same_each (λ body. is_row_word body ≡ true) s.lqh.layout.view (lqh_row s.lqh x).effects.sends own.sends, own.marks)

-- what is so of each of these words, and of each form of what they send of their own, is so of all that they send
pub replica_tells_each : (s : ReplicaState) (x : Signal) (Q : Body → Type 0)
    → ((body : Body) → is_row_word body ≡ true → Q body) → OwnSends s x (λ (send : Outgoing). Q send.body)
    → Each (λ (send : Outgoing). Q send.body) (replica_row s x).effects.sends
replica_tells_each s x Q words own =
    (own_each s x (λ (send : Outgoing). Q send.body) AnyMark rows own).0
  where
    rows : is_of_rows s x ≡ true → Does (λ (send : Outgoing). Q send.body) AnyMark (passed s x)
    rows of_rows =
        speaks_do is_row_word is_replica_mark Q AnyMark (passed s x) words (λ mark is. tt) (passed_words s x)

-- and what is so of each mark of theirs is so of all that they mark
pub replica_marks_each : (s : ReplicaState) (x : Signal) (M : Mark → Type 0) → RowsMark M s.lqh x.body
    → Each M (replica_row s x).effects.marks
replica_marks_each s x M marks =
    (own_each s x AnySend M rows any).1
  where
    rows : is_of_rows s x ≡ true → Does AnySend M (passed s x)
    rows of_rows =
        (each_from AnySend (passed s x).effects.sends (λ send there. tt), lqh_marks_each M s.lqh x.body marks)

    any : OwnSends s x AnySend
    any = record {
      promises = λ proposal is. tt;
      closes = λ epoch is. tt;
      saves = λ epoch is. tt;
      states = λ is. tt;
      tells_committed = λ r under_way at one there is. tt;
      tells_prepared = λ r under_way at one there is. tt;
      tells_marker = λ r under_way at m there. tt;
      reports_on = λ r under_way. tt;
      ends = λ r under_way. tt;
    }

-- a word of the rows is a word of theirs under views
is_word : (body : Body) → is_row_word body ≡ true → is_replica_word body ≡ true
is_word (Chain (chain.LqhKeyReq tx (Store key image) members at)) is = refl
is_word (Chain (chain.LqhKeyConf tx key answer)) is = refl
is_word (Chain (chain.LqhKeyRef tx key cause)) is = refl
is_word (Chain (chain.Commit tx key epoch members at)) is = refl
is_word (Chain (chain.Committed tx key)) is = refl
is_word (Chain (chain.Complete tx key members at)) is = refl
is_word (Chain (chain.Completed tx key)) is = refl
is_word (Chain (chain.Aborted tx key)) is = refl
is_word (Client (LqhWaitConf tx ahead)) is = refl
is_word (Client (DumpConf rows next)) is = refl
is_word (Host (Continue work.Granted at)) is = refl
is_word (Host (Continue work.Expired at)) is = refl
is_word _ is = absurd (true≢false (sym is))

pub replica_words : ReplicaKeepsToItsWords
replica_words = record {
  takes = λ s x. (
    replica_tells_each s x (λ body. is_replica_word body ≡ true) is_word (record {
      promises = λ proposal is. refl;
      closes = λ epoch is. refl;
      saves = λ epoch is. refl;
      states = λ is. refl;
      tells_committed = λ r under_way at one there is. refl;
      tells_prepared = λ r under_way at one there is. refl;
      tells_marker = λ r under_way at m there. refl;
      reports_on = λ r under_way. refl;
      ends = λ r under_way. refl;
    }),
    replica_marks_each s x (IsAmong is_replica_mark) (row_marks s.lqh x.body),
  );
  installs = λ s view. (tt, tt);
}
