-- Behind an event of its host a coordinator that completes a transaction, and has driven it in its view, was told in
-- that view of each key that the transaction wrote.
use Rattle.std.proofs.Common.{◌≡◌, ◌∙◌, ℕ, List, ◌∷◌, sym, ap, subst}
use Rattle.std.specs.Prelude.{Some}
use Rattle.run_theory.specs.Lists.{IsIn}
use Rattle.host_laws.proofs.coordinator.OfLive.{each_found}
use Rattle.sig_core.specs.declared.member.Member.{Member}
use Rattle.sig_core.specs.declared.member.TxId.{TxId}
use Rattle.tc_block.specs.declared.phase.Phase.TheVariants.{Completing}
use Rattle.tc_block.specs.declared.transaction.Transaction.{Transaction}
use Rattle.run_laws.specs.Keyed.{IsTouchedRightly}
use Rattle.world_core.specs.Entries.{ops_of}
use Rattle.world_core.specs.Start.{Start, made}
use Rattle.world_core.specs.Steps.{HostStep}
use Rattle.view_laws.specs.Runs.{view_after}
use Rattle.moment_laws.specs.Moments.{IsMoment, logs_of}
use Rattle.moment_laws.specs.Places.{tc_of}
use Rattle.moment_laws.proofs.MomentTurns.{own_log}
use Rattle.moment_laws.proofs.MomentViews.{moment_less}
use Rattle.outcome_laws.specs.Counts.{coordinator_member}
use Rattle.request_laws.specs.Blocks.{coordinator_after}
use Rattle.request_laws.specs.Phases.{CoordinatorStands, SaysIn, SaysOf}
use Rattle.request_laws.specs.Ways.{entry_of}
use Rattle.request_laws.proofs.phases.Stands.{coordinators_stand}
use Rattle.commit_laws.specs.Answered.{AllWereCommittedIn}
use Rattle.commit_laws.proofs.answered.Keys.{keys_committed}
use Rattle.commit_laws.proofs.answered.Written.{all_committed_in}
use Rattle.commit_laws.proofs.drive.Foreign.{IsLedIn}
use Rattle.commit_laws.proofs.drive.Own.{driven, IsDriven, led_in, number_at, sent_in}
use Rattle.commit_laws.proofs.drive.States.{Untouched}

module _ (start : Start) (all : ℕ → List HostStep) (e : HostStep) (es : List HostStep)
    (moment : IsMoment start all (e ∷ es)) (member : Member) (there : IsIn member (made start)) (tx : TxId)
    (own : coordinator_member tx ≡ member) (at : e.host ≡ tc_of start member)
  where
    abbrev new : ℕ → List HostStep
    new = logs_of start (e ∷ es)

    abbrev log : List HostStep
    log = logs_of start (e ∷ es) (tc_of start member)

    abbrev n : ℕ
    n = number_at start member tx (tc_of start member) (logs_of start (e ∷ es) (tc_of start member))

    led : IsLedIn start all tx n
    led =
        subst (λ k. IsLedIn start all tx (view_after start k (new k)).number) at
        (subst (λ (l : List HostStep). IsLedIn start all tx (view_after start e.host l).number)
        (sym (own_log start all e es moment))
        (led_in start member there tx own all e es moment at
        (subst (λ h. IsDriven start member tx h (logs_of start es h)) (sym at)
        (driven start member there tx own all es (moment_less start all e es moment)))))

    stands : CoordinatorStands start member new
    stands = coordinators_stand start all (e ∷ es) moment member there

    pub completes_answered : (t : Transaction)
        → entry_of (coordinator_after start member (logs_of start (e ∷ es) (tc_of start member))) tx ≡ Some t
        → (epoch awaited : ℕ) → t.phase ≡ Completing epoch awaited
        → (Untouched tx (sent_in start member tx (tc_of start member)
        (number_at start member tx (tc_of start member) (logs_of start (e ∷ es) (tc_of start member)))
        (logs_of start (e ∷ es) (tc_of start member))) → ⊥)
        → AllWereCommittedIn start (logs_of start (e ∷ es))
        (number_at start member tx (tc_of start member) (logs_of start (e ∷ es) (tc_of start member))) tx
    completes_answered t found epoch awaited phase busy =
        all_committed_in start new n tx t.touched t.ops
        (ap (λ (m : Member). ops_of tx (new (tc_of start m))) own ∙ says.1.1.ops_are)
        (each_found (λ (one : TxId × Transaction). IsTouchedRightly one.1) (coordinator_after start member log).tc.live
        tx t
        stands.keyed found).answered
        (keys_committed start all (e ∷ es) moment member there tx own led t found epoch awaited phase busy)
      where
        says : SaysIn start member log tx t (Completing epoch awaited)
        says =
            subst (SaysIn start member log tx t) phase
            (each_found (SaysOf start member log) (coordinator_after start member log).tc.live tx t stands.says found)
