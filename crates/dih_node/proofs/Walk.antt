-- What holds of each form of step of a node's epochs holds of what they do at each signal, and what holds of each form
-- of
-- signal and mark holds of all that they send and mark.
use Rattle.std.proofs.Common.{◌≡◌, ◌==◌, ◌+◌, ◌≤◌, ◌<◌, ◌∙◌, ℕ, Bool, true, false, nat_le, nat_lt, List, ◌∷◌, [], ◌++◌}
use Rattle.std.proofs.Common.{length, refl, ap, sym}
use Rattle.std.proofs.lemmas.Bool.{leb-true, leb-false}
use Rattle.std.specs.Prelude.{Option, None, Some, position, remove, slice_get}
use Rattle.run_theory.specs.Lists.{Each}
use Rattle.run_theory.proofs.Pasts.{each_append}
use Rattle.sig_core.specs.declared.mark.Mark.{Mark}
use Rattle.sig_core.specs.declared.mark.Mark.TheVariants.{Decided}
use Rattle.sig_core.specs.declared.member.TxId.{TxId}
use Rattle.sig_core.specs.declared.op.Answer.{Answer}
use Rattle.sig_core.specs.declared.op.Op.{Op}
use Rattle.sig_core.specs.declared.outs.Outgoing.{Outgoing}
use Rattle.sig_core.specs.declared.signal.Body.{Body}
use Rattle.sig_core.specs.declared.signal.Body.TheVariants.{Host, Membership, Epoch}
use Rattle.sig_core.specs.declared.signal.Signal.{Signal}
use Rattle.sig_core.specs.declared.signal.epoch.EpochSignal.{EpochSignal}
use Rattle.sig_core.specs.declared.signal.epoch.EpochSignal.TheVariants.{DiVerifyReq, DiVerifyConf, DiVerifyEnd}
use Rattle.sig_core.specs.declared.signal.epoch.EpochSignal.TheVariants.{GcpPrepare, GcpPrepareConf, GcpCommit}
use Rattle.sig_core.specs.declared.signal.epoch.EpochSignal.TheVariants.{GcpNodeFinish, GcpClosed, GcpClosedConf}
use Rattle.sig_core.specs.declared.signal.epoch.EpochSignal.TheVariants.{CopyGciReq, CopyGciConf, GcpDone, GcpStateReq}
use Rattle.sig_core.specs.declared.signal.epoch.EpochSignal.TheVariants.{GcpStateConf}
use Rattle.sig_core.specs.declared.signal.host.HostSignal.TheVariants.{Continue}
use Rattle.sig_core.specs.declared.signal.host.Work.TheVariants.{Held}
use Rattle.sig_core.specs.declared.signal.membership.MembershipSignal.TheVariants.{FenceReq, FenceConf}
use Rattle.sig_core.specs.declared.view.View.{View}
use Rattle.sig_core.specs.Place.{checkpoints, coordinator, epochs, membership}
use Rattle.sig_core.specs.Portion.{go_on_at}
use Rattle.sig_core.specs.Same.{same_tx}
use Rattle.sig_core.specs.Step.{Step, and_mark, and_send, nothing, sending, stay, to_place}
use Rattle.step_forms.specs.Does.{Does, IsAmong, IsWord}
use Rattle.dih_node.specs.declared.dih.Report.{Report}
use Rattle.dih_node.specs.declared.dih.TheConstants.{TRANSACTIONS}
use Rattle.dih_node.specs.Dih.{dih_row, dih_table, epoch_table}
use Rattle.dih_node.specs.Orders.{close_row, commit_if, commit_row, committed, copy_row, done_row, fence_row, greater}
use Rattle.dih_node.specs.Orders.{install_row, prepare_row, prepared_if, serving, state_row}
use Rattle.dih_node.specs.State.{DihState, can_serve, gives, go_on_if, is_unfinished}
use Rattle.dih_node.specs.Verify.{end_row, ended, ended_by, given, held_by, is_of, report_by, report_if, reported}
use Rattle.dih_node.specs.Verify.{serve_by, serve_if, serve_one, serve_row, take_if, verify_if, verify_row}
use Rattle.dih_node.specs.Words.{DihKeepsToItsWords, is_dih_mark, is_dih_word}

-- a transaction is decided: it has the current epoch, and is counted
abbrev pub deciding : DihState → TxId → Step DihState
deciding s tx =
    record {
      state = record s { counted = s.counted ++ record { tx = tx; epoch = s.current } ∷ [] };
      effects =
          and_send (and_mark nothing (Decided tx s.current)) (coordinator s.node) (Epoch (DiVerifyConf tx s.current));
    }

-- without the oldest request that is held
abbrev pub without_first : DihState → DihState
without_first s = record s { held = remove s.held 0 }

-- the order whose end is to be reported, and to whom
abbrev pub ordered : DihState → ℕ → ℕ → DihState
ordered s from epoch = record s { order = Some (record { epoch = epoch; to = from }) }

-- its end is reported
abbrev pub reporting : DihState → Report → Step DihState
reporting s order =
    sending (record s { order = None }) (checkpoints order.to) (Epoch (GcpNodeFinish order.epoch))

-- what is left of a node's epochs where a transaction ends that they count, or hold, or don't know
pub data IsEnded (s : DihState) (tx : TxId) : DihState → Type 0 where
  was_counted : (at : ℕ) → position (is_of tx) s.counted ≡ Some at
      → IsEnded s tx (record s { counted = remove s.counted at })
  was_held : (at : ℕ) → position (is_of tx) s.counted ≡ None → position (same_tx tx) s.held ≡ Some at
      → IsEnded s tx (record s { held = remove s.held at })
  was_unknown : position (is_of tx) s.counted ≡ None → position (same_tx tx) s.held ≡ None → IsEnded s tx s

-- the end of the order is reported if nothing up to its epoch is counted any more
pub record ReportOutcomes (s : DihState) (R : Step DihState → Type 0) : Type 0 where
  pub unordered : s.order ≡ None → R (stay s)
  pub waits : (order : Report) → s.order ≡ Some order → is_unfinished s.counted order.epoch ≡ true → R (stay s)
  pub reports : (order : Report) → s.order ≡ Some order → is_unfinished s.counted order.epoch ≡ false
      → R (reporting s order)

-- R is of each step that the epochs may take at the signal
pub record DihOutcomes (s : DihState) (x : Signal) (R : Step DihState → Type 0) : Type 0 where
  -- a request finds no room, nothing may be served, or the signal is for others
  pub stays : R (stay s)
  -- a request is decided, or held, and one that was held is decided
  pub decides : (tx : TxId) (ops : List (Op × Answer)) → x.body ≡ Epoch (DiVerifyReq tx ops) → gives s ≡ true
      → R (deciding s tx)
  pub holds : (tx : TxId) (ops : List (Op × Answer)) → x.body ≡ Epoch (DiVerifyReq tx ops) → gives s ≡ false
      → R (stay (record s { held = s.held ++ tx ∷ [] }))
  pub serves : (at : ℕ) (tx : TxId) → x.body ≡ Host (Continue Held at) → (x.view.number == s.number) ≡ true
      → gives s ≡ true → slice_get s.held 0 ≡ Some tx
      → R (serve_one (without_first s) (deciding (without_first s) tx))
  -- a transaction ends
  pub ends : (tx : TxId) (now : DihState) → x.body ≡ Epoch (DiVerifyEnd tx) → IsEnded s tx now → ReportOutcomes now R
  -- an order to prepare or to commit is carried out, or was before
  pub prepares : (epoch next : ℕ) → x.body ≡ Epoch (GcpPrepare epoch next) → s.current ≤ epoch
      → R (sending (record s { prepared = epoch; next = next }) (checkpoints x.member.node)
      (Epoch (GcpPrepareConf epoch)))
  pub prepares_late : (epoch next : ℕ) → x.body ≡ Epoch (GcpPrepare epoch next) → epoch < s.current
      → R (sending s (checkpoints x.member.node) (Epoch (GcpPrepareConf epoch)))
  pub commits : (epoch next : ℕ) → x.body ≡ Epoch (GcpCommit epoch next) → s.current ≤ epoch
      → ReportOutcomes (ordered (committed s epoch next) x.member.node epoch) (λ step. R (serving step))
  pub commits_late : (epoch next : ℕ) → x.body ≡ Epoch (GcpCommit epoch next) → epoch < s.current
      → ReportOutcomes (ordered s x.member.node epoch) R
  -- an epoch is closed, or durable, and what that needs is written
  pub closes : (epoch : ℕ) → x.body ≡ Epoch (GcpClosed epoch)
      → R (sending (record s { closed = greater s.closed epoch }) (checkpoints x.member.node)
      (Epoch (GcpClosedConf epoch)))
  pub copies : (epoch mask : ℕ) → x.body ≡ Epoch (CopyGciReq epoch mask)
      → R (sending s (checkpoints x.member.node) (Epoch (CopyGciConf epoch)))
  pub notes : (epoch : ℕ) → x.body ≡ Epoch (GcpDone epoch) → R (stay (record s { durable = greater s.durable epoch }))
  -- they tell how far they are, and confirm a fence
  pub tells : x.body ≡ Epoch GcpStateReq
      → R (sending s (checkpoints x.member.node)
      (Epoch (GcpStateConf s.current s.prepared s.next s.closed 0 s.durable)))
  pub fences : (proposal : View) → x.body ≡ Membership (FenceReq proposal)
      → R (sending (record s { fence = greater s.fence proposal.number }) (membership s.node) (Membership FenceConf))

pub reported_outcomes : (s : DihState) (R : Step DihState → Type 0) → ReportOutcomes s R → R (reported s)
unfolding reported
reported_outcomes s R forms = by s.order refl
  where
    whether : (order : Report) → s.order ≡ Some order → (b : Bool) → is_unfinished s.counted order.epoch ≡ b
        → R (report_if s order b)
    whether order is true left = forms.waits order is left
    whether order is false none = forms.reports order is none

    by : (o : Option Report) → s.order ≡ o → R (report_by s o)
    by None is = forms.unordered is
    by (Some order) is = whether order is (is_unfinished s.counted order.epoch) refl

pub ended_is : (s : DihState) (tx : TxId) → IsEnded s tx (ended s tx)
unfolding ended
ended_is s tx = by (position (is_of tx) s.counted) refl
  where
    among : position (is_of tx) s.counted ≡ None → (o : Option ℕ) → position (same_tx tx) s.held ≡ o
        → IsEnded s tx (held_by s o)
    among none None is = was_unknown none is
    among none (Some at) is = was_held at none is

    by : (o : Option ℕ) → position (is_of tx) s.counted ≡ o → IsEnded s tx (ended_by s tx o)
    by None is = among is (position (same_tx tx) s.held) refl
    by (Some at) is = was_counted at is

module _ (s : DihState) (x : Signal) (R : Step DihState → Type 0) (forms : DihOutcomes s x R) where
  verified : (tx : TxId) (ops : List (Op × Answer)) → x.body ≡ Epoch (DiVerifyReq tx ops) → R (verify_row s tx)
  unfolding verify_row given
  verified tx ops is = by (nat_lt (length s.counted + length s.held) TRANSACTIONS)
    where
      free : (b : Bool) → gives s ≡ b → R (verify_if s tx b)
      free true on = forms.decides tx ops is on
      free false off = forms.holds tx ops is off

      by : (b : Bool) → R (take_if s tx b)
      by true = free (gives s) refl
      by false = forms.stays

  served : (at : ℕ) → x.body ≡ Host (Continue Held at) → R (serve_row s x.view.number)
  unfolding serve_row given
  served at is = by (x.view.number == s.number) refl (gives s) refl
    where
      first : (x.view.number == s.number) ≡ true → gives s ≡ true → (o : Option TxId) → slice_get s.held 0 ≡ o
          → R (serve_by s o)
      first own on None there = forms.stays
      first own on (Some tx) there = forms.serves at tx is own on there

      by : (b : Bool) → (x.view.number == s.number) ≡ b → (c : Bool) → gives s ≡ c → R (serve_if s b c)
      by true own true on = first own on (slice_get s.held 0) refl
      by true own false off = forms.stays
      by false other c off = forms.stays

  prepared : (epoch next : ℕ) → x.body ≡ Epoch (GcpPrepare epoch next) → R (prepare_row s x.member.node epoch next)
  unfolding prepare_row
  prepared epoch next is = by (nat_le s.current epoch) refl
    where
      by : (b : Bool) → nat_le s.current epoch ≡ b
          → R (sending (prepared_if s epoch next b) (checkpoints x.member.node) (Epoch (GcpPrepareConf epoch)))
      by true on = forms.prepares epoch next is (leb-true s.current epoch on)
      by false off = forms.prepares_late epoch next is (leb-false s.current epoch off)

  commits : (epoch next : ℕ) → x.body ≡ Epoch (GcpCommit epoch next) → R (commit_row s x.member.node epoch next)
  unfolding commit_row
  commits epoch next is = by (nat_le s.current epoch) refl
    where
      by : (b : Bool) → nat_le s.current epoch ≡ b → R (commit_if s x.member.node epoch next b)
      by true on =
          reported_outcomes (ordered (committed s epoch next) x.member.node epoch) (λ step. R (serving step))
          (forms.commits epoch next is (leb-true s.current epoch on))
      by false off =
          reported_outcomes (ordered s x.member.node epoch) R
          (forms.commits_late epoch next is (leb-false s.current epoch off))

  takes_epochs : (signal : EpochSignal) → x.body ≡ Epoch signal → R (epoch_table s x.member.node signal)
  unfolding close_row copy_row done_row state_row end_row
  takes_epochs (DiVerifyReq tx ops) is = verified tx ops is
  takes_epochs (DiVerifyEnd tx) is = reported_outcomes (ended s tx) R (forms.ends tx (ended s tx) is (ended_is s tx))
  takes_epochs (GcpPrepare epoch next) is = prepared epoch next is
  takes_epochs (GcpCommit epoch next) is = commits epoch next is
  takes_epochs (GcpClosed epoch) is = forms.closes epoch is
  takes_epochs (CopyGciReq epoch mask) is = forms.copies epoch mask is
  takes_epochs (GcpDone epoch) is = forms.notes epoch is
  takes_epochs GcpStateReq is = forms.tells is
  takes_epochs _ is = forms.stays

  takes : (body : Body) → x.body ≡ body → R (dih_table s x.member.node x.view.number body)
  unfolding fence_row
  takes (Host (Continue Held at)) is = served at is
  takes (Membership (FenceReq proposal)) is = forms.fences proposal is
  takes (Epoch signal) is = takes_epochs signal is
  takes _ is = forms.stays

-- whatever they take
pub dih_outcomes : (s : DihState) (x : Signal) (R : Step DihState → Type 0) → DihOutcomes s x R → R (dih_row s x)
dih_outcomes s x R forms = takes s x R forms x.body refl

-- the signal asks for an epoch for the transaction, or the epochs go on with what they hold, and it is the oldest
pub data IsDecided (s : DihState) (x : Signal) (tx : TxId) : Type 0 where
  asks : (ops : List (Op × Answer)) → x.body ≡ Epoch (DiVerifyReq tx ops) → gives s ≡ true → IsDecided s x tx
  was_oldest : (at : ℕ) → x.body ≡ Host (Continue Held at) → (x.view.number == s.number) ≡ true → gives s ≡ true
      → slice_get s.held 0 ≡ Some tx → IsDecided s x tx

-- the end of the order is due when a transaction ends, or as it is committed
pub data IsDue (s : DihState) (x : Signal) (order : Report) : Type 0 where
  is_last : (tx : TxId) → x.body ≡ Epoch (DiVerifyEnd tx) → s.order ≡ Some order → IsDue s x order
  is_committed : (next : ℕ) → x.body ≡ Epoch (GcpCommit order.epoch next) → order.to ≡ x.member.node → IsDue s x order

-- P is of each form of signal that the epochs send, and M of each mark
pub record DihForms (s : DihState) (x : Signal) (P : Outgoing → Type 0) (M : Mark → Type 0) : Type 0 where
  pub decided : (tx : TxId) → IsDecided s x tx → M (Decided tx s.current)
  pub confirms : (tx : TxId) → IsDecided s x tx
      → P (to_place (coordinator s.node) (Epoch (DiVerifyConf tx s.current)))
  pub goes_on : P (go_on_at (epochs s.node) Held 0)
  pub prepares : (epoch next : ℕ) → x.body ≡ Epoch (GcpPrepare epoch next)
      → P (to_place (checkpoints x.member.node) (Epoch (GcpPrepareConf epoch)))
  pub reports : (order : Report) → IsDue s x order
      → P (to_place (checkpoints order.to) (Epoch (GcpNodeFinish order.epoch)))
  pub closes : (epoch : ℕ) → x.body ≡ Epoch (GcpClosed epoch)
      → P (to_place (checkpoints x.member.node) (Epoch (GcpClosedConf epoch)))
  pub copies : (epoch mask : ℕ) → x.body ≡ Epoch (CopyGciReq epoch mask)
      → P (to_place (checkpoints x.member.node) (Epoch (CopyGciConf epoch)))
  pub tells : x.body ≡ Epoch GcpStateReq
      → P (to_place (checkpoints x.member.node)
      (Epoch (GcpStateConf s.current s.prepared s.next s.closed 0 s.durable)))
  pub fences : (proposal : View) → x.body ≡ Membership (FenceReq proposal)
      → P (to_place (membership s.node) (Membership FenceConf))

-- the signal by which they go on, if there is one
pub going_each : (P : Outgoing → Type 0) (node : ℕ) → P (go_on_at (epochs node) Held 0) → (b : Bool)
    → Each P (go_on_if node b)
going_each P node goes_on true = (goes_on, tt)
going_each P node goes_on false = tt

pub serving_does : (P : Outgoing → Type 0) (M : Mark → Type 0) (step : Step DihState)
    → P (go_on_at (epochs step.state.node) Held 0) → Does P M step → Does P M (serving step)
serving_does P M step goes_on does = (
  each_append P step.effects.sends (go_on_if step.state.node (can_serve step.state)) does.0
      (going_each P step.state.node goes_on (can_serve step.state)),
  each_append M step.effects.marks [] does.1 tt,
)

module _ (s : DihState) (x : Signal) (P : Outgoing → Type 0) (M : Mark → Type 0) (forms : DihForms s x P M) where
  -- the node and the order are those that they were
  ends_order : (tx : TxId) (now : DihState) → IsEnded s tx now → now.order ≡ s.order
  ends_order tx _ (was_counted at is) = refl
  ends_order tx _ (was_held at none is) = refl
  ends_order tx _ (was_unknown none is) = refl

  reports_end : (tx : TxId) (now : DihState) → x.body ≡ Epoch (DiVerifyEnd tx) → IsEnded s tx now
      → ReportOutcomes now (λ step. Does P M step)
  reports_end tx now is ended =
      record {
        unordered = λ none. (tt, tt);
        waits = λ order there left. (tt, tt);
        reports = λ order there none.
            ((forms.reports order (is_last tx is (sym (ends_order tx now ended) ∙ there)), tt), tt);
      }

  due_commit : (epoch next : ℕ) → x.body ≡ Epoch (GcpCommit epoch next) → (order : Report)
      → Some (record { epoch = epoch; to = x.member.node }) ≡ Some order → IsDue s x order
  due_commit epoch next is order there =
      let same : record { epoch = epoch; to = x.member.node } ≡ order = cc in
      is_committed next (is ∙ ap (λ (o : Report). Epoch (GcpCommit o.epoch next)) same)
      (sym (ap (λ (o : Report). o.to) same))

  -- all that they send and mark
  pub dih_each : Does P M (dih_row s x)
  dih_each =
      dih_outcomes s x (λ step. Does P M step) (record {
        stays = (tt, tt);
        decides = λ tx ops is on.
            ((forms.confirms tx (asks ops is on), tt), (forms.decided tx (asks ops is on), tt));
        holds = λ tx ops is off. (tt, tt);
        serves = λ at tx is own on first.
            let oldest = was_oldest at is own on first in (
              (forms.confirms tx oldest, going_each P s.node forms.goes_on (nat_lt 0 (length (remove s.held 0)))),
              (forms.decided tx oldest, tt),
            );
        ends = reports_end;
        prepares = λ epoch next is ahead. ((forms.prepares epoch next is, tt), tt);
        prepares_late = λ epoch next is late. ((forms.prepares epoch next is, tt), tt);
        commits = λ epoch next is ahead.
            let now = ordered (committed s epoch next) x.member.node epoch in
            record {
              unordered = λ none. serving_does P M (stay now) forms.goes_on (tt, tt);
              waits = λ order there left. serving_does P M (stay now) forms.goes_on (tt, tt);
              reports = λ order there none.
                  serving_does P M (reporting now order) forms.goes_on
                  ((forms.reports order (due_commit epoch next is order there), tt), tt);
            };
        commits_late = λ epoch next is late.
            record {
              unordered = λ none. (tt, tt);
              waits = λ order there left. (tt, tt);
              reports = λ order there none. ((forms.reports order (due_commit epoch next is order there), tt), tt);
            };
        closes = λ epoch is. ((forms.closes epoch is, tt), tt);
        copies = λ epoch mask is. ((forms.copies epoch mask is, tt), tt);
        notes = λ epoch is. (tt, tt);
        tells = λ is. ((forms.tells is, tt), tt);
        fences = λ proposal is. ((forms.fences proposal is, tt), tt);
      })

-- where a view is installed they tell themselves to go on
pub dih_installed_each : (s : DihState) (number : ℕ) (P : Outgoing → Type 0) (M : Mark → Type 0)
    → P (go_on_at (epochs s.node) Held 0) → Does P M (install_row s number)
unfolding install_row
dih_installed_each s number P M goes_on =
    serving_does P M (stay (record s { number = number; fence = greater s.fence number })) goes_on (tt, tt)

-- they keep to their words
pub dih_words : DihKeepsToItsWords
dih_words = (
  λ s x. dih_each s x (IsWord is_dih_word) (IsAmong is_dih_mark) (record {
    decided = λ tx is. refl;
    confirms = λ tx is. refl;
    goes_on = refl;
    prepares = λ epoch next is. refl;
    reports = λ order is. refl;
    closes = λ epoch is. refl;
    copies = λ epoch mask is. refl;
    tells = λ is. refl;
    fences = λ proposal is. refl;
  }),
  λ s number. dih_installed_each s number (IsWord is_dih_word) (IsAmong is_dih_mark) refl,
)
