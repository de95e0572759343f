-- Whoever has no coordinator in the current view is seen to when it aborts, or each key that it wrote was committed in
-- that view, or the client's side knows of its commit; then its commit is done.
use Rattle.std.proofs.Common.{◌≡◌, ◌⊎◌, ◌∙◌, ℕ, true, false, List, ◌∷◌, inl, inr, refl, sym, subst}
use Rattle.std.proofs.lemmas.Bool.{true≢false}
use Rattle.run_theory.specs.Links.{sent}
use Rattle.run_theory.proofs.Pasts.{each_in}
use Rattle.sig_core.specs.declared.member.TxId.{TxId}
use Rattle.sig_core.specs.declared.view.View.{View}
use Rattle.lqh_block.specs.Views.{is_coordinated}
use Rattle.world_core.specs.Start.{Start}
use Rattle.world_core.specs.Steps.{Addressed, HostStep}
use Rattle.view_laws.specs.Order.{sound_machine}
use Rattle.moment_laws.specs.Moments.{IsMoment, current, logs_of}
use Rattle.request_laws.specs.Orphans.{IsOrphan}
use Rattle.commit_laws.proofs.reported.Takeovers.{led_fate}
use Rattle.commit_laws.specs.Answered.{AllWereCommittedIn, WasCommittedIn}
use Rattle.commit_laws.specs.Commits.{ComesFromTheEnd, CommitsStand, HasWritten, IsDone}
use Rattle.commit_laws.specs.Fates.{Fate, aborts, commits, fate, is_led_by_full, undetermined}
use Rattle.commit_laws.specs.Going.{is_decided, is_forth, is_lost}
use Rattle.commit_laws.specs.Together.{FatesMove}
use Rattle.commit_laws.specs.Traces.{IsCommittedAtAll, has_trace, is_known}
use Rattle.commit_laws.proofs.answered.Stays.{committed_stays}
use Rattle.commit_laws.proofs.forth.DecidedStay.{decided_more, written_before}
use Rattle.commit_laws.proofs.forth.Grows.{known_grows}
use Rattle.commit_laws.proofs.fates.Forth.{fate_decided}

module _ (start : Start) (logs : ℕ → List HostStep) where
  pub data IsSeenTo (tx : TxId) : Type 0 where
    aborting : fate start logs tx ≡ aborts → IsSeenTo tx
    knowing : is_known start logs tx ≡ true → IsSeenTo tx
    committing : is_decided start logs tx ≡ true → AllWereCommittedIn start logs (current start logs).number tx
        → IsSeenTo tx
    leading : is_led_by_full start logs tx ≡ true → IsSeenTo tx

-- so it is of whom the client's side is told
pub told_seen : (start : Start) (all : ℕ → List HostStep) (es : List HostStep) → IsMoment start all es → (tx : TxId)
    → AllWereCommittedIn start (logs_of start es) (current start (logs_of start es)).number tx
    ⊎ (is_known start (logs_of start es) tx ≡ true) → IsSeenTo start (logs_of start es) tx
told_seen start all es moment tx (inr knows) = knowing knows
told_seen start all es moment tx (inl were) = by (fate start logs tx) refl
  where
    logs : ℕ → List HostStep
    logs = logs_of start es

    by : (f : Fate) → fate start logs tx ≡ f → IsSeenTo start logs tx
    by aborts is = aborting is
    by commits is = committing (fate_decided start all es moment tx is) were
    by undetermined is =
        leading
        (led_fate (is_known start logs tx) (is_led_by_full start logs tx) (is_forth start logs tx)
        (is_lost start logs tx) (has_trace start logs tx) is)

-- it stays so in the view
module _ (start : Start) (all : ℕ → List HostStep) (e : HostStep) (es : List HostStep)
    (moment : IsMoment start all (e ∷ es)) (moves : (tx : TxId) → FatesMove start e es tx)
    (same : current start (logs_of start (e ∷ es)) ≡ current start (logs_of start es))
  where
    pub seen_more : (tx : TxId) → IsSeenTo start (logs_of start es) tx → IsSeenTo start (logs_of start (e ∷ es)) tx
    seen_more tx (aborting is) = aborting ((moves tx).aborting is)
    seen_more tx (knowing is) = knowing (known_grows start e es tx is)
    seen_more tx (leading is) = leading (subst (λ (v : View). is_coordinated v.full tx ≡ true) (sym same) is)
    seen_more tx (committing decided were) =
        committing (decided_more start all e es moment tx decided)
        (λ key written.
        committed_stays start all e es moment (current start (logs_of start (e ∷ es))).number tx key
        (subst (λ (v : View). WasCommittedIn start (logs_of start es) v.number tx key) (sym same)
        (were key (written_before start all e es moment tx key decided written))))

-- and whoever commits is done
pub seen_done : (start : Start) (logs : ℕ → List HostStep) → CommitsStand start logs → (tx : TxId)
    → IsOrphan (current start logs) tx → fate start logs tx ≡ commits → IsSeenTo start logs tx → IsDone start logs tx
seen_done start logs stand tx orphan fated (aborting is) =
    absurd (let both : commits ≡ aborts = sym fated ∙ is in cc)
seen_done start logs stand tx orphan fated (knowing is) = stand.known tx is
seen_done start logs stand tx orphan fated (leading is) = absurd (true≢false (sym is ∙ orphan))
seen_done start logs stand tx orphan fated (committing decided were) = λ key written. one key written (were key written)
  where
    one : (key : List ℕ) → HasWritten start logs tx key
        → WasCommittedIn start logs (current start logs).number tx key → IsCommittedAtAll start logs tx key
    one key written was =
        subst (ComesFromTheEnd start logs) was.body
        (each_in (λ (x : Addressed).
        x.signal.view.number ≡ (current start logs).number → ComesFromTheEnd start logs x.signal.body) was.signal
        (sent (sound_machine start) was.from was.to (logs was.from)) (stand.commits was.from was.to) was.there was.view)
        written
