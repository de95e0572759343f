-- What each event leaves of a node's current epoch, and what is given along a list of them.
use Rattle.std.proofs.Common.{◌≡◌, ◌⊎◌, ◌∙◌, ℕ, ◌+◌, ◌≤◌, ◌<◌, Bool, true, false, nat_le, nat_lt, List, [], ◌∷◌, ◌++◌}
use Rattle.std.proofs.Common.{refl, ap, sym, subst, arith, inl, inr}
use Rattle.std.proofs.lemmas.Bool.{leb-true}
use Rattle.std.proofs.lemmas.List.Elements.{All-nil, All-cons}
use Rattle.std.proofs.lemmas.List.Kept.{AllPairs-cons}
use Rattle.std.specs.List.{All, AllPairs, flat_map}
use Rattle.std.specs.Prelude.{Option, None, Some, ◌==◌, length, position, slice_get}
use Rattle.sig_core.specs.declared.member.TxId.{TxId}
use Rattle.sig_core.specs.declared.signal.Body.{Body}
use Rattle.sig_core.specs.declared.signal.Body.TheVariants.{Host, Membership, Epoch}
use Rattle.sig_core.specs.declared.signal.epoch.EpochSignal.{EpochSignal}
use Rattle.sig_core.specs.declared.signal.epoch.EpochSignal.TheVariants.{DiVerifyReq, DiVerifyEnd, GcpPrepare}
use Rattle.sig_core.specs.declared.signal.epoch.EpochSignal.TheVariants.{GcpCommit, GcpClosed, CopyGciReq, GcpDone}
use Rattle.sig_core.specs.declared.signal.epoch.EpochSignal.TheVariants.{GcpPrepareConf, GcpStateReq}
use Rattle.sig_core.specs.declared.signal.host.HostSignal.TheVariants.{Continue}
use Rattle.sig_core.specs.declared.signal.host.Work.TheVariants.{Held}
use Rattle.sig_core.specs.declared.signal.membership.MembershipSignal.TheVariants.{FenceReq}
use Rattle.sig_core.specs.Place.{checkpoints}
use Rattle.sig_core.specs.Same.{same_tx}
use Rattle.sig_core.specs.Step.{Step, sending}
use Rattle.dih_node.specs.declared.dih.Report.{Report}
use Rattle.dih_node.specs.declared.dih.TheConstants.{TRANSACTIONS}
use Rattle.dih_node.specs.Dih.{dih_table, epoch_table}
use Rattle.dih_node.specs.Laws.{AllNameGreater, EpochsNeverFall, Event, Installs, NamesGreater, Takes, given_along}
use Rattle.dih_node.specs.Laws.{given_at, given_by, step_at}
use Rattle.dih_node.specs.Orders.{close_row, commit_if, commit_row, committed, copy_row, done_row, fence_row}
use Rattle.dih_node.specs.Orders.{install_row, prepare_row, prepared_if, state_row}
use Rattle.dih_node.specs.State.{DihState, gives, is_unfinished}
use Rattle.dih_node.specs.Verify.{end_row, ended, ended_by, given, held_by, is_of, report_by, report_if, reported}
use Rattle.dih_node.specs.Verify.{serve_by, serve_if, serve_row, take_if, verify_if, verify_row}

-- what a step may do to the current epoch: it doesn't fall, and what is given is the one that was current
record Kept (s : DihState) (step : Step DihState) : Type 0 where
  rises : s.current ≤ step.state.current
  given : (given_at step ≡ []) ⊎ (given_at step ≡ s.current ∷ [])

at_least : (n m : ℕ) → m ≡ n → n ≤ m
at_least n m same = omega (arith, same)

-- it stays, and nothing is given
stays : (s : DihState) (step : Step DihState) → step.state.current ≡ s.current → given_at step ≡ [] → Kept s step
stays s step same none = record { rises = at_least s.current step.state.current same; given = inl none }

-- it is given
gives_it : (s : DihState) (step : Step DihState) → step.state.current ≡ s.current → given_at step ≡ s.current ∷ []
    → Kept s step
gives_it s step same one = record { rises = at_least s.current step.state.current same; given = inr one }

-- a report leaves it, and gives none
pub record Quiet (s : DihState) (step : Step DihState) : Type 0 where
  current : step.state.current ≡ s.current
  marks : step.effects.marks ≡ []

pub report_quiet : (s : DihState) → Quiet s (reported s)
unfolding reported
report_quiet s = by s.order
  where
    by_if : (order : Report) (unfinished : Bool) → Quiet s (report_if s order unfinished)
    by_if order true = record { current = refl; marks = refl }
    by_if order false = record { current = refl; marks = refl }

    by : (order : Option Report) → Quiet s (report_by s order)
    by None = record { current = refl; marks = refl }
    by (Some order) = by_if order (is_unfinished s.counted order.epoch)

pub quiet_gives_none : (s : DihState) (step : Step DihState) → Quiet s step → given_at step ≡ []
quiet_gives_none s step quiet = ap (flat_map given_by) quiet.marks

-- and one that goes on with what is held
pub goes_on_gives_none : (s : DihState) (step : Step DihState) → Quiet s step
    → flat_map given_by (step.effects.marks ++ []) ≡ []
goes_on_gives_none s step quiet = ap (λ marks. flat_map given_by (marks ++ [])) quiet.marks

reported_stays : (s now : DihState) → now.current ≡ s.current → Kept s (reported now)
reported_stays s now same =
    let quiet = report_quiet now in
    stays s (reported now) (quiet.current ∙ same) (quiet_gives_none now (reported now) quiet)

-- a request
verify_kept : (s : DihState) (tx : TxId) → Kept s (verify_row s tx)
unfolding verify_row given
verify_kept s tx = by (nat_lt (length s.counted + length s.held) TRANSACTIONS)
  where
    by_if : (free : Bool) → Kept s (verify_if s tx free)
    by_if true = gives_it s (verify_if s tx true) refl refl
    by_if false = stays s (verify_if s tx false) refl refl

    by : (room : Bool) → Kept s (take_if s tx room)
    by true = by_if (gives s)
    by false = stays s (take_if s tx false) refl refl

-- one that was held
serve_kept : (s : DihState) (number : ℕ) → Kept s (serve_row s number)
unfolding serve_row given
serve_kept s number = by (number == s.number) (gives s)
  where
    by_first : (first : Option TxId) → Kept s (serve_by s first)
    by_first None = stays s (serve_by s None) refl refl
    by_first (Some tx) = gives_it s (serve_by s (Some tx)) refl refl

    by : (own free : Bool) → Kept s (serve_if s own free)
    by true true = by_first (slice_get s.held 0)
    by true false = stays s (serve_if s true false) refl refl
    by false true = stays s (serve_if s false true) refl refl
    by false false = stays s (serve_if s false false) refl refl

-- an end
ended_current : (s : DihState) (tx : TxId) → (ended s tx).current ≡ s.current
unfolding ended
ended_current s tx = by (position (is_of tx) s.counted)
  where
    by_held : (at : Option ℕ) → (held_by s at).current ≡ s.current
    by_held None = refl
    by_held (Some at) = refl

    by : (at : Option ℕ) → (ended_by s tx at).current ≡ s.current
    by None = by_held (position (same_tx tx) s.held)
    by (Some at) = refl

end_kept : (s : DihState) (tx : TxId) → Kept s (end_row s tx)
unfolding end_row
end_kept s tx = reported_stays s (ended s tx) (ended_current s tx)

-- an order to prepare, and one to commit
prepare_kept : (s : DihState) (from epoch next : ℕ) → Kept s (prepare_row s from epoch next)
unfolding prepare_row
prepare_kept s from epoch next = by (nat_le s.current epoch)
  where
    by : (ahead : Bool)
        → Kept s (sending (prepared_if s epoch next ahead) (checkpoints from) (Epoch (GcpPrepareConf epoch)))
    by true = stays s _ refl refl
    by false = stays s _ refl refl

commit_kept : (s : DihState) (from epoch next : ℕ) → epoch < next → Kept s (commit_row s from epoch next)
unfolding commit_row
commit_kept s from epoch next greater = by (nat_le s.current epoch) refl
  where
    by : (ahead : Bool) → nat_le s.current epoch ≡ ahead → Kept s (commit_if s from epoch next ahead)
    by true e =
        let now = record (committed s epoch next) { order = Some (record { epoch = epoch; to = from }) } in
        let quiet = report_quiet now in
        let below : s.current ≤ epoch = leb-true s.current epoch e in
        let there : (reported now).state.current ≡ next = quiet.current in
        record {
          rises = omega (arith, below, greater, there);
          given = inl (goes_on_gives_none now (reported now) quiet);
        }
    by false e = reported_stays s (record s { order = Some (record { epoch = epoch; to = from }) }) refl

-- a signal of epochs, any signal, and any event
epoch_kept : (s : DihState) (from : ℕ) (signal : EpochSignal) → NamesGreater (Epoch signal)
    → Kept s (epoch_table s from signal)
unfolding close_row copy_row done_row state_row
epoch_kept s from (DiVerifyReq tx ops) _ = verify_kept s tx
epoch_kept s from (DiVerifyEnd tx) _ = end_kept s tx
epoch_kept s from (GcpPrepare epoch next) _ = prepare_kept s from epoch next
epoch_kept s from (GcpCommit epoch next) greater = commit_kept s from epoch next greater
epoch_kept s from (GcpClosed epoch) _ = stays s _ refl refl
epoch_kept s from (CopyGciReq epoch mask) _ = stays s _ refl refl
epoch_kept s from (GcpDone epoch) _ = stays s _ refl refl
epoch_kept s from GcpStateReq _ = stays s _ refl refl
epoch_kept s from _ _ = stays s _ refl refl

body_kept : (s : DihState) (from number : ℕ) (body : Body) → NamesGreater body → Kept s (dih_table s from number body)
unfolding fence_row
body_kept s from number (Host (Continue Held at)) _ = serve_kept s number
body_kept s from number (Membership (FenceReq proposal)) _ = stays s _ refl refl
body_kept s from number (Epoch signal) greater = epoch_kept s from signal greater
body_kept s from number _ _ = stays s _ refl refl

install_kept : (s : DihState) (number : ℕ) → Kept s (install_row s number)
unfolding install_row
install_kept s number = stays s _ refl refl

-- what is given along a list of events isn't below the current epoch, and never falls
abbrev Rises : ℕ → List ℕ → Type 0
Rises least epochs = All (λ epoch. least ≤ epoch) epochs × AllPairs (λ one other. one ≤ other) epochs

higher : (least next : ℕ) (epochs : List ℕ) → least ≤ next → All (λ epoch. next ≤ epoch) epochs
    → All (λ epoch. least ≤ epoch) epochs
higher least next epochs below all k d within = let above = all k d within in omega (arith, below, above)

rises_by : (s : DihState) (step : Step DihState) (later : List ℕ) → Kept s step → Rises step.state.current later
    → Rises s.current (given_at step ++ later)
rises_by s step later kept rest = by (given_at step) kept.given
  where
    same : s.current ≤ s.current
    same = omega arith

    above : All (λ epoch. s.current ≤ epoch) later
    above = higher s.current step.state.current later kept.rises rest.0

    by : (epochs : List ℕ) → (epochs ≡ []) ⊎ (epochs ≡ s.current ∷ []) → Rises s.current (epochs ++ later)
    by epochs (inl none) = subst (λ (epochs : List ℕ). Rises s.current (epochs ++ later)) (sym none) (above, rest.1)
    by epochs (inr one) =
        subst (λ (epochs : List ℕ). Rises s.current (epochs ++ later)) (sym one) (
          All-cons (λ epoch. s.current ≤ epoch) s.current later same above,
          AllPairs-cons (λ one other. one ≤ other) s.current later above rest.1,
        )

along : (s : DihState) (events : List Event) → AllNameGreater events → Rises s.current (given_along s events)
along s [] _ = (All-nil _, λ i j d less within. absurd (omega arith))
along s (Takes x ∷ events) all =
    let step = step_at s (Takes x) in
    rises_by s step (given_along step.state events) (body_kept s x.member.node x.view.number x.body all.0)
    (along step.state events all.1)
along s (Installs number ∷ events) all =
    let step = step_at s (Installs number) in
    rises_by s step (given_along step.state events) (install_kept s number) (along step.state events all)

pub never_fall : EpochsNeverFall
never_fall s events all = (along s events all).1
