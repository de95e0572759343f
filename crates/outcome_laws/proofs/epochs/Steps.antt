-- What holds of each form of step of a node's epochs holds of what they do at each signal: a request is held or served,
-- or nothing is decided and nothing is told of a transaction.
use Rattle.std.proofs.Common.{◌≡◌, ◌⊎◌, ◌==◌, ◌∷◌, ◌++◌, ℕ, ◌+◌, Bool, true, false, List, [], length, nat_le, nat_lt}
use Rattle.std.proofs.Common.{ap, inl, inr, refl}
use Rattle.std.specs.Prelude.{Option, None, Some, position, remove, slice_get}
use Rattle.run_theory.proofs.Pasts.{each_append}
use Rattle.sig_core.specs.declared.mark.Mark.{Mark}
use Rattle.sig_core.specs.declared.member.TxId.{TxId}
use Rattle.sig_core.specs.declared.op.Answer.{Answer}
use Rattle.sig_core.specs.declared.op.Op.{Op}
use Rattle.sig_core.specs.declared.signal.Body.{Body}
use Rattle.sig_core.specs.declared.signal.Body.TheVariants.{Host, Membership, Epoch}
use Rattle.sig_core.specs.declared.signal.Signal.{Signal}
use Rattle.sig_core.specs.declared.signal.epoch.EpochSignal.{EpochSignal}
use Rattle.sig_core.specs.declared.signal.epoch.EpochSignal.TheVariants.{DiVerifyReq, DiVerifyEnd, GcpPrepare}
use Rattle.sig_core.specs.declared.signal.epoch.EpochSignal.TheVariants.{GcpPrepareConf, GcpCommit, GcpClosed}
use Rattle.sig_core.specs.declared.signal.epoch.EpochSignal.TheVariants.{CopyGciReq, GcpDone, GcpStateReq}
use Rattle.sig_core.specs.declared.signal.host.HostSignal.TheVariants.{Continue}
use Rattle.sig_core.specs.declared.signal.host.Work.TheVariants.{Held}
use Rattle.sig_core.specs.declared.signal.membership.MembershipSignal.TheVariants.{FenceReq}
use Rattle.sig_core.specs.Place.{checkpoints}
use Rattle.sig_core.specs.Same.{same_tx}
use Rattle.sig_core.specs.Step.{Step, sending, stay}
use Rattle.dih_node.specs.declared.dih.Report.{Report}
use Rattle.dih_node.specs.declared.dih.TheConstants.{TRANSACTIONS}
use Rattle.dih_node.specs.Dih.{dih_row, dih_table, epoch_table}
use Rattle.dih_node.specs.Orders.{close_row, commit_if, commit_row, committed, copy_row, done_row, fence_row, greater}
use Rattle.dih_node.specs.Orders.{install_row, prepare_row, prepared_if, serving, state_row}
use Rattle.dih_node.specs.State.{DihState, can_serve, gives, go_on_if, is_unfinished}
use Rattle.dih_node.specs.Verify.{end_row, ended, ended_by, given, held_by, is_of, report_by, report_if, reported}
use Rattle.dih_node.specs.Verify.{serve_by, serve_if, serve_row, take_if, verify_if, verify_row}
use Rattle.outcome_laws.proofs.epochs.Silent.{AreSilent, IsSilent}

-- one of those that were held isn't held any more
pub record IsOneLess (now held : List TxId) : Type 0 where
  pub place : ℕ
  pub is : now ≡ remove held place

-- no request is held that wasn't
abbrev pub HoldsNoMore : List TxId → List TxId → Type 0
HoldsNoMore now held = (now ≡ held) ⊎ IsOneLess now held

-- nothing is decided, and nothing is told of a transaction
pub record IsQuiet (held : List TxId) (step : Step DihState) : Type 0 where
  pub holds : HoldsNoMore step.state.held held
  pub marks : step.effects.marks ≡ []
  pub sends : AreSilent step.effects.sends

-- S is of each step that they may take at the signal
pub record DihForms (s : DihState) (body : Body) (S : Step DihState → Type 0) : Type 0 where
  pub quiet : (step : Step DihState) → IsQuiet s.held step → S step
  -- a transaction is given an epoch, is held, or is served that was held the longest
  pub gives_it : (tx : TxId) (ops : List (Op × Answer)) → body ≡ Epoch (DiVerifyReq tx ops) → S (given s tx)
  pub holds_it : (tx : TxId) (ops : List (Op × Answer)) → body ≡ Epoch (DiVerifyReq tx ops)
      → S (stay (record s { held = s.held ++ tx ∷ [] }))
  pub serves_it : (tx : TxId) → slice_get s.held 0 ≡ Some tx → S (serve_by s (Some tx))

-- the signal that goes on tells nothing of a transaction
pub goes_on_silent : (node : ℕ) (more : Bool) → AreSilent (go_on_if node more)
goes_on_silent node true = (refl, tt)
goes_on_silent node false = tt

stays_quiet : (s : DihState) → IsQuiet s.held (stay s)
stays_quiet s = record { holds = inl refl; marks = refl; sends = tt }

-- where what is held is served then, it is as quiet as before
served_quiet : (held : List TxId) (step : Step DihState) → IsQuiet held step → IsQuiet held (serving step)
served_quiet held step quiet =
    record {
      holds = quiet.holds;
      marks = marks step.effects.marks quiet.marks;
      sends =
          each_append IsSilent step.effects.sends
          (go_on_if step.state.node (can_serve step.state)) quiet.sends
          (goes_on_silent step.state.node (can_serve step.state));
    }
  where
    marks : (some : List Mark) → some ≡ [] → some ++ [] ≡ []
    marks some none = ap (λ all. all ++ []) none

reported_quiet : (held : List TxId) (t : DihState) → HoldsNoMore t.held held → IsQuiet held (reported t)
unfolding reported
reported_quiet held t holds = by t.order
  where
    whether : (order : Report) (left : Bool) → IsQuiet held (report_if t order left)
    whether order true = record { holds = holds; marks = refl; sends = tt }
    whether order false = record { holds = holds; marks = refl; sends = (refl, tt) }

    by : (order : Option Report) → IsQuiet held (report_by t order)
    by None = record { holds = holds; marks = refl; sends = tt }
    by (Some order) = whether order (is_unfinished t.counted order.epoch)

ended_holds : (s : DihState) (tx : TxId) → HoldsNoMore (ended s tx).held s.held
unfolding ended
ended_holds s tx = by (position (is_of tx) s.counted)
  where
    among : (at : Option ℕ) → HoldsNoMore (held_by s at).held s.held
    among None = inl refl
    among (Some at) = inr (record { place = at; is = refl })

    by : (at : Option ℕ) → HoldsNoMore (ended_by s tx at).held s.held
    by None = among (position (same_tx tx) s.held)
    by (Some at) = inl refl

end_quiet : (s : DihState) (tx : TxId) → IsQuiet s.held (end_row s tx)
unfolding end_row
end_quiet s tx = reported_quiet s.held (ended s tx) (ended_holds s tx)

prepare_quiet : (s : DihState) (from epoch next : ℕ) → IsQuiet s.held (prepare_row s from epoch next)
unfolding prepare_row
prepare_quiet s from epoch next = by (nat_le s.current epoch)
  where
    by : (ahead : Bool)
        → IsQuiet s.held (sending (prepared_if s epoch next ahead) (checkpoints from) (Epoch (GcpPrepareConf epoch)))
    by true = record { holds = inl refl; marks = refl; sends = (refl, tt) }
    by false = record { holds = inl refl; marks = refl; sends = (refl, tt) }

commit_quiet : (s : DihState) (from epoch next : ℕ) → IsQuiet s.held (commit_row s from epoch next)
unfolding commit_row
commit_quiet s from epoch next = by (nat_le s.current epoch)
  where
    by : (ahead : Bool) → IsQuiet s.held (commit_if s from epoch next ahead)
    by true =
        let now = record (committed s epoch next) { order = Some (record { epoch = epoch; to = from }) } in
        served_quiet s.held (reported now) (reported_quiet s.held now (inl refl))
    by false = reported_quiet s.held (record s { order = Some (record { epoch = epoch; to = from }) }) (inl refl)

module _ (s : DihState) (S : Step DihState → Type 0) where
  verified : (tx : TxId) (ops : List (Op × Answer)) → DihForms s (Epoch (DiVerifyReq tx ops)) S → S (verify_row s tx)
  unfolding verify_row
  verified tx ops forms = by (nat_lt (length s.counted + length s.held) TRANSACTIONS)
    where
      free : (b : Bool) → S (verify_if s tx b)
      free true = forms.gives_it tx ops refl
      free false = forms.holds_it tx ops refl

      by : (b : Bool) → S (take_if s tx b)
      by true = free (gives s)
      by false = forms.quiet (stay s) (stays_quiet s)

  served : (number : ℕ) (body : Body) → DihForms s body S → S (serve_row s number)
  unfolding serve_row
  served number body forms = by (number == s.number) (gives s)
    where
      first : (o : Option TxId) → slice_get s.held 0 ≡ o → S (serve_by s o)
      first None is = forms.quiet (stay s) (stays_quiet s)
      first (Some tx) is = forms.serves_it tx is

      by : (b c : Bool) → S (serve_if s b c)
      by true true = first (slice_get s.held 0) refl
      by true false = forms.quiet (stay s) (stays_quiet s)
      by false c = forms.quiet (stay s) (stays_quiet s)

  epochs_each : (from : ℕ) (signal : EpochSignal) → DihForms s (Epoch signal) S → S (epoch_table s from signal)
  unfolding close_row copy_row done_row state_row
  epochs_each from (DiVerifyReq tx ops) forms = verified tx ops forms
  epochs_each from (DiVerifyEnd tx) forms = forms.quiet (end_row s tx) (end_quiet s tx)
  epochs_each from (GcpPrepare epoch next) forms =
      forms.quiet (prepare_row s from epoch next) (prepare_quiet s from epoch next)
  epochs_each from (GcpCommit epoch next) forms =
      forms.quiet (commit_row s from epoch next) (commit_quiet s from epoch next)
  epochs_each from (GcpClosed epoch) forms =
      forms.quiet (close_row s from epoch) (record { holds = inl refl; marks = refl; sends = (refl, tt) })
  epochs_each from (CopyGciReq epoch mask) forms =
      forms.quiet (copy_row s from epoch) (record { holds = inl refl; marks = refl; sends = (refl, tt) })
  epochs_each from (GcpDone epoch) forms =
      forms.quiet (done_row s epoch) (record { holds = inl refl; marks = refl; sends = tt })
  epochs_each from GcpStateReq forms =
      forms.quiet (state_row s from) (record { holds = inl refl; marks = refl; sends = (refl, tt) })
  epochs_each from _ forms = forms.quiet (stay s) (stays_quiet s)

  table_each : (from number : ℕ) (body : Body) → DihForms s body S → S (dih_table s from number body)
  unfolding fence_row
  table_each from number (Host (Continue Held at)) forms = served number (Host (Continue Held at)) forms
  table_each from number (Membership (FenceReq proposal)) forms =
      forms.quiet (fence_row s proposal.number) (record { holds = inl refl; marks = refl; sends = (refl, tt) })
  table_each from number (Epoch signal) forms = epochs_each from signal forms
  table_each from number _ forms = forms.quiet (stay s) (stays_quiet s)

  -- whatever they take
  pub dih_each : (x : Signal) → DihForms s x.body S → S (dih_row s x)
  dih_each x forms = table_each x.member.node x.view.number x.body forms

-- a view that is installed leaves what is held, and its step is quiet
pub dih_installs_hold : (s : DihState) (number : ℕ) → (install_row s number).state.held ≡ s.held
unfolding install_row
dih_installs_hold s number = refl

pub dih_installs_quiet : (s : DihState) (number : ℕ) → IsQuiet s.held (install_row s number)
unfolding install_row
dih_installs_quiet s number =
    let now = record s { number = number; fence = greater s.fence number } in
    served_quiet s.held (stay now) (record { holds = inl refl; marks = refl; sends = tt })
