-- In the current view nothing was asked for of a transaction that has no coordinator in it: so its records there change
-- only by a commit, a completion or an abort.
use Rattle.std.proofs.Common.{◌≡◌, ◌∙◌, ℕ, Bool, true, false, List, ◌∷◌, refl, sym, subst}
use Rattle.std.proofs.lemmas.Bool.{true≢false}
use Rattle.run_theory.specs.Lists.{IsIn}
use Rattle.sig_core.specs.declared.member.Member.{Member}
use Rattle.sig_core.specs.declared.member.TxId.{TxId}
use Rattle.sig_core.specs.declared.view.View.{View}
use Rattle.sig_core.specs.Same.{same_tx}
use Rattle.sig_core.proofs.TxLemmas.{same_tx-is}
use Rattle.world_core.specs.Start.{Start, made}
use Rattle.world_core.specs.Steps.{HostStep}
use Rattle.moment_laws.specs.Moments.{IsMoment, current, logs_of}
use Rattle.outcome_laws.specs.Counts.{coordinator_member}
use Rattle.request_laws.specs.Routed.{WasAskedIn}
use Rattle.request_laws.proofs.orphans.ReportsOfOrphans.{coordinated}
use Rattle.request_laws.specs.Orphans.{IsOrphan}
use Rattle.commit_laws.proofs.records.KeyGoes.{KeyGoes}
use Rattle.commit_laws.proofs.fates.RowsUnasked.{unasked_goes}

module _ (start : Start) (all : ℕ → List HostStep) (e : HostStep) (es : List HostStep)
    (moment : IsMoment start all (e ∷ es)) (member : Member) (there : IsIn member (made start)) (tx : TxId)
    (orphan : IsOrphan (current start (logs_of start (e ∷ es))) tx)
  where
    abbrev old : ℕ → List HostStep
    old = logs_of start es

    abbrev new : ℕ → List HostStep
    new = logs_of start (e ∷ es)

    -- nobody of the current view has asked for it
    unasked : (view : View) (other : TxId) → view ≡ current start new → WasAskedIn start old view other
        → same_tx other tx ≡ false
    unasked view other same was = by (same_tx other tx) refl
      where
        by : (b : Bool) → same_tx other tx ≡ b → b ≡ false
        by false off = refl
        by true own =
            let full : IsIn (coordinator_member tx) (current start new).full =
            subst (λ v. IsIn (coordinator_member v) (current start new).full) (same_tx-is other tx own)
            (subst (λ (v : View). IsIn (coordinator_member other) v.full) same was.full) in
            absurd (true≢false (sym (coordinated (current start new).full tx full) ∙ orphan))

    -- so a record or a marker of it that a member has was there before, unless it is committed by the event
    pub orphan_goes : (key : List ℕ) → KeyGoes start all e es moment member there key tx
    orphan_goes key = unasked_goes start all e es moment member there tx unasked key
