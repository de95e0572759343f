-- In the current view each event keeps the parts of operations that are under way true, and other keys settled.
use Rattle.std.proofs.Common.{◌≡◌, ℕ, List, ◌∷◌, sym, subst}
use Rattle.run_theory.proofs.EventCases.{event_cases}
use Rattle.world_views.specs.Machine.{machine}
use Rattle.sig_core.specs.declared.member.TxId.{TxId}
use Rattle.tc_block.specs.declared.transaction.Transaction.{Transaction}
use Rattle.world_core.specs.Start.{Start}
use Rattle.world_core.specs.Steps.{Addressed, HostStep}
use Rattle.moment_laws.specs.Moments.{current, logs_of}
use Rattle.moment_laws.specs.Places.{tc_of}
use Rattle.outcome_laws.specs.Counts.{coordinator_member}
use Rattle.commit_laws.specs.Parts.{IsHale, PartsStand}
use Rattle.commit_laws.specs.Together.{Follows}
use Rattle.commit_laws.specs.Transit.{AreInTransit, Takes}
use Rattle.commit_laws.proofs.fates.BegunNone.{begun_have_none}
use Rattle.commit_laws.proofs.parts.Aside.{aside_parts, hale_same}
use Rattle.commit_laws.proofs.parts.Home.{home_parts}
use Rattle.commit_laws.proofs.parts.Own.{PartsOf}
use Rattle.commit_laws.proofs.parts.Rows.{rows_parts}

module _ (start : Start) (all : ℕ → List HostStep) (e : HostStep) (es : List HostStep)
    (follows : Follows start all e es)
    (same : current start (logs_of start (e ∷ es)) ≡ current start (logs_of start es))
  where
    -- of each transaction
    parts_of : (xs left : List Addressed) (transit : AreInTransit start es xs) (takes : Takes start e xs left)
        (tx : TxId) (u : Transaction) → IsHale start (logs_of start (e ∷ es)) tx u
        → PartsOf start all e es follows xs left transit takes same tx u
    parts_of xs left transit takes tx u hale =
        event_cases (machine start) e es (tc_of start (coordinator_member tx))
        (λ log. PartsOf start all e es follows xs left transit takes same tx u)
        (λ home. home_parts start all e es follows xs left transit takes same tx home u hale begun_have_none)
        (λ off.
        aside_parts start all e es follows xs left transit takes same tx u hale off
        (λ me there at.
        rows_parts start all e es follows xs left transit takes same tx u
        (hale_same start all e es follows xs left transit takes same tx u hale off) hale.full me there at))

    pub parts_kept : (ys : List Addressed) → AreInTransit start (e ∷ es) ys
        → PartsStand start (logs_of start (e ∷ es)) ys
    parts_kept ys (xs, (transit, passes)) =
        subst (PartsStand start (logs_of start (e ∷ es))) (sym passes.is) (record {
          signals = λ tx u hale. (parts_of xs passes.between transit passes.takes tx u hale).signals;
          waits = λ tx u hale. (parts_of xs passes.between transit passes.takes tx u hale).waits;
          rests = λ tx u hale. (parts_of xs passes.between transit passes.takes tx u hale).rests;
        })
