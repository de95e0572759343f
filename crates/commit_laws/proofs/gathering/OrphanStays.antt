-- Until a takeover is at work in a view, records of whoever has no coordinator in it stay as they are, and no marker of
-- it comes.
use Rattle.std.proofs.Common.{◌≡◌, ◌⊎◌, ◌∙◌, ◌<◌, ℕ, true, List, ◌∷◌, inl, inr, ap, subst, arith}
use Rattle.run_theory.specs.Lists.{IsIn}
use Rattle.sig_core.specs.declared.member.Member.{Member}
use Rattle.sig_core.specs.declared.member.TxId.{TxId}
use Rattle.sig_core.specs.declared.place.BlockId.TheVariants as block
use Rattle.sig_core.specs.declared.signal.Body.TheVariants.{Chain}
use Rattle.sig_core.specs.declared.signal.chain.ChainSignal.{ChainSignal}
use Rattle.sig_core.specs.declared.signal.chain.ChainSignal.TheVariants.{Abort, Commit, Complete}
use Rattle.sig_core.specs.declared.signal.Signal.{Signal}
use Rattle.sig_core.specs.declared.view.View.{View}
use Rattle.world_core.specs.Start.{Start, made}
use Rattle.world_core.specs.Steps.{Addressed, HostStep}
use Rattle.moment_laws.specs.Moments.{IsMoment, current, logs_of}
use Rattle.moment_laws.proofs.MomentViews.{current_number, moment_less}
use Rattle.moment_laws.proofs.PartTaken.{IsTakenNow}
use Rattle.request_laws.proofs.routes.BesideRows.{is_of_rows}
use Rattle.request_laws.proofs.routes.Headers.{chain_fenced, told_of}
use Rattle.request_laws.specs.Orphans.{IsOrphan}
use Rattle.commit_laws.specs.Ruling.{EndsOf, NoneRuled}
use Rattle.commit_laws.specs.Traces.{has_marker_at, record_at}
use Rattle.commit_laws.proofs.records.KeyGoes.{IsMarkedNow, RecordGoes, is_aborted, is_committed, is_completed}
use Rattle.commit_laws.proofs.records.KeyGoes.{record_stays}
use Rattle.commit_laws.proofs.gathering.OrphanRows.{orphan_goes}
use Rattle.commit_laws.proofs.gathering.OrphansUnended.{orphans_go_on}
use Rattle.commit_laws.proofs.fates.SpokenEvents.{fenced_keeps}

module _ (start : Start) (all : ℕ → List HostStep) (e : HostStep) (es : List HostStep)
    (moment : IsMoment start all (e ∷ es)) (none : NoneRuled start (e ∷ es)) (member : Member)
    (there : IsIn member (made start)) (tx : TxId) (orphan : IsOrphan (current start (logs_of start (e ∷ es))) tx)
    (key : List ℕ)
  where
    abbrev old : ℕ → List HostStep
    old = logs_of start es

    abbrev new : ℕ → List HostStep
    new = logs_of start (e ∷ es)

    abbrev x : Signal
    x = e.step.taken

    abbrev Ends : Addressed → Type 0
    Ends y =
        y.signal.view.number ≡ current_number start (logs_of start es)
        → EndsOf (λ v. IsOrphan (current start (logs_of start es)) v → ⊥) y.signal.body

    -- no signal that ends it is taken
    unended : (b : _) → IsTakenNow start all e es moment b → (signal : ChainSignal) → x.body ≡ Chain signal
        → EndsOf (λ v. IsOrphan (current start old) v → ⊥) (Chain signal)
    unended b taken signal is = by none.1
      where
        same : current start new ≡ current start old
        same = fenced_keeps start all e es moment b taken (ap is_of_rows is) (chain_fenced x signal is)

        number : current_number start new ≡ current_number start old
        number = ap (λ (v : View). v.number) same

        by : (current_number start old < current_number start new) ⊎ NoneRuled start es
            → EndsOf (λ v. IsOrphan (current start old) v → ⊥) (Chain signal)
        by (inl above) = absurd (omega (arith, above, number))
        by (inr was) =
            subst (EndsOf (λ v. IsOrphan (current start old) v → ⊥)) is
            (told_of start all e es moment Ends (orphans_go_on start all es (moment_less start all e es moment) was)
            taken.sound (ap is_of_rows is) (taken.fresh (chain_fenced x signal is) ∙ number))

    orphan_before : (b : _) → IsTakenNow start all e es moment b → (signal : ChainSignal) → x.body ≡ Chain signal
        → IsOrphan (current start old) tx
    orphan_before b taken signal is =
        subst (λ (v : View). IsOrphan v tx)
        (fenced_keeps start all e es moment b taken (ap is_of_rows is) (chain_fenced x signal is)) orphan

    pub record_same : record_at start (logs_of start (e ∷ es)) member key tx
        ≡ record_at start (logs_of start es) member key tx
    record_same = by (orphan_goes start all e es moment member there tx orphan key).record_goes
      where
        by : RecordGoes start all e es moment member there key tx
            → record_at start new member key tx ≡ record_at start old member key tx
        by (record_stays is) = is
        by (is_committed takes epoch chain at about is) =
            absurd (unended block.Lqh takes.now (Commit tx key epoch chain at) about
            (orphan_before block.Lqh takes.now (Commit tx key epoch chain at) about))
        by (is_completed takes chain at about is) =
            absurd (unended block.Lqh takes.now (Complete tx key chain at) about
            (orphan_before block.Lqh takes.now (Complete tx key chain at) about))
        by (is_aborted takes about is) =
            absurd (unended block.Lqh takes.now (Abort tx key) about
            (orphan_before block.Lqh takes.now (Abort tx key) about))

    pub marker_was : has_marker_at start (logs_of start (e ∷ es)) member key tx ≡ true
        → has_marker_at start (logs_of start es) member key tx ≡ true
    marker_was has = by ((orphan_goes start all e es moment member there tx orphan key).marker_gives has)
      where
        by : (has_marker_at start old member key tx ≡ true) ⊎ IsMarkedNow start all e es moment member there key tx
            → has_marker_at start old member key tx ≡ true
        by (inl was) = was
        by (inr marked) =
            let c = marked.commits in
            absurd (unended block.Lqh marked.takes.now (Commit tx key c.epoch c.chain c.at) c.body_is
            (orphan_before block.Lqh marked.takes.now (Commit tx key c.epoch c.chain c.at) c.body_is))
