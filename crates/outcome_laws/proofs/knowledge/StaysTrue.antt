-- What is known, told and marked of transactions stays true where more are decided and more have begun.
use Rattle.std.proofs.Common.{ℕ}
use Rattle.std.specs.Prelude.{Bool, true, false, Option, None, Some, slice_get}
use Rattle.run_theory.proofs.Pasts.{each_map}
use Rattle.sig_core.specs.declared.mark.Mark.{Mark}
use Rattle.sig_core.specs.declared.mark.Mark.TheVariants.{Decided, Reported}
use Rattle.sig_core.specs.declared.member.TxId.{TxId}
use Rattle.sig_core.specs.declared.outcome.Outcome.{Outcome}
use Rattle.sig_core.specs.declared.outcome.Outcome.TheVariants as outcome
use Rattle.sig_core.specs.declared.rows.PendingRecord.{PendingRecord}
use Rattle.sig_core.specs.declared.signal.Body.{Body}
use Rattle.sig_core.specs.declared.signal.Body.TheVariants.{Chain, Client, Epoch, Takeover}
use Rattle.sig_core.specs.declared.signal.chain.ChainSignal.TheVariants.{Commit}
use Rattle.sig_core.specs.declared.signal.client.ClientSignal.TheVariants.{TcCommitConf, TcCommitReq, TcKeyFailConf}
use Rattle.sig_core.specs.declared.signal.epoch.EpochSignal.TheVariants.{DiVerifyConf, DiVerifyReq}
use Rattle.sig_core.specs.declared.signal.takeover.RecordState.{RecordState}
use Rattle.sig_core.specs.declared.signal.takeover.RecordState.TheVariants as state
use Rattle.sig_core.specs.declared.signal.takeover.TakeoverSignal.TheVariants.{LqhTransConf}
use Rattle.api_block.specs.declared.opened.OpenTransaction.{OpenTransaction}
use Rattle.tc_block.specs.declared.phase.Phase.{Phase}
use Rattle.tc_block.specs.declared.phase.Phase.TheVariants as phase
use Rattle.tc_block.specs.declared.transaction.Transaction.{Transaction}
use Rattle.takeover_block.specs.declared.gathered.Gathered.{Gathered}
use Rattle.takeover_block.specs.declared.stage.Stage.{Stage}
use Rattle.takeover_block.specs.declared.stage.Stage.TheVariants as stage
use Rattle.lqh_block.specs.declared.request.Marker.{Marker}
use Rattle.node_views.specs.declared.parts.Parts.{Parts}
use Rattle.node_views.specs.declared.parts.Parts.TheVariants as part
use Rattle.outcome_laws.specs.Known.{HasBegun, IsDecidedAs, IsDecidedAt, IsDecidedIf, IsDecidedIn, PartsKnow}
use Rattle.outcome_laws.specs.Tells.{IsRightMark, IsRightOutcome, Tells, TellsOfRecord}

module _ (D E : TxId → ℕ → Type 0) (B C : TxId → Type 0) (decided : (tx : TxId) (epoch : ℕ) → D tx epoch → E tx epoch)
    (begun : (tx : TxId) → B tx → C tx)
  where
    record_grows : (tx : TxId) (told : RecordState) (epoch : ℕ) → TellsOfRecord D B tx told epoch
        → TellsOfRecord E C tx told epoch
    record_grows tx state.Prepared epoch tells = tt
    record_grows tx state.Committed epoch tells = decided tx epoch tells
    record_grows tx state.Marker epoch tells = decided tx epoch tells

    pub tells_grow : (body : Body) → Tells D B body → Tells E C body
    tells_grow (Client (TcCommitReq tx)) tells = begun tx tells
    tells_grow (Epoch (DiVerifyReq tx ops)) tells = begun tx tells
    tells_grow (Epoch (DiVerifyConf tx epoch)) tells = decided tx epoch tells
    tells_grow (Chain (Commit tx key epoch chain at)) tells = decided tx epoch tells
    tells_grow (Client (TcCommitConf tx epoch)) tells = decided tx epoch tells
    tells_grow (Client (TcKeyFailConf tx epoch)) tells = decided tx epoch tells
    tells_grow (Takeover (LqhTransConf tx key told epoch)) tells = record_grows tx told epoch tells
    tells_grow body tells = tt

    outcome_grows : (tx : TxId) (reported : Outcome) → IsRightOutcome D B tx reported → IsRightOutcome E C tx reported
    outcome_grows tx (outcome.Committed epoch) right = decided tx epoch right
    outcome_grows tx other right = tt

    pub right_grows : (mark : Mark) → IsRightMark D B mark → IsRightMark E C mark
    right_grows (Decided tx epoch) right = begun tx right
    right_grows (Reported tx reported) right = outcome_grows tx reported right
    right_grows mark right = tt

    phase_grows : (tx : TxId) (in_phase : Phase) → IsDecidedIn D B tx in_phase → IsDecidedIn E C tx in_phase
    phase_grows tx (phase.Committing epoch awaited) known = decided tx epoch known
    phase_grows tx (phase.Completing epoch awaited) known = decided tx epoch known
    phase_grows tx other known = tt

    epoch_grows : (tx : TxId) (epoch : Option ℕ) → IsDecidedAs D B tx epoch → IsDecidedAs E C tx epoch
    epoch_grows tx None known = tt
    epoch_grows tx (Some epoch) known = decided tx epoch known

    first_grows : (at : Stage) (first : Option Gathered) → IsDecidedAt D B at first → IsDecidedAt E C at first
    first_grows (stage.Committing epoch awaited) (Some g) known = decided g.tx epoch known
    first_grows (stage.Completing epoch awaited) (Some g) known = decided g.tx epoch known
    first_grows other first known = tt

    row_grows : (r : PendingRecord) (committed : Bool) → IsDecidedIf D B r committed → IsDecidedIf E C r committed
    row_grows r true known = decided r.tx r.epoch known
    row_grows r false known = tt

    open_grows : (tx : Option TxId) → HasBegun D B tx → HasBegun E C tx
    open_grows None known = tt
    open_grows (Some tx) known = begun tx known

    pub parts_grow : (parts : Parts) → PartsKnow D B parts → PartsKnow E C parts
    parts_grow (part.Shell p) known =
        each_map _ _ p.client.api.opened (λ (t : OpenTransaction) has. open_grows t.tx has) known
    parts_grow (part.Main p) known = tt
    parts_grow (part.Tc p) (known, (takeover, held)) = (
      each_map _ _ p.coordinator.tc.live (λ (e : TxId × Transaction) is. phase_grows e.0 e.1.phase is) known,
      (
        record {
          gathered = each_map _ _ p.takeover.gathered (λ (g : Gathered) is. epoch_grows g.tx g.epoch is)
              takeover.gathered;
          first = first_grows p.takeover.stage (slice_get p.takeover.gathered 0) takeover.first;
        },
        each_map B C p.dih.held begun held,
      ),
    )
    parts_grow (part.Ldm p) known = record {
      records = each_map _ _ p.replica.lqh.rows.pending (λ (r : PendingRecord) is. row_grows r r.committed is)
          known.records;
      markers = each_map _ _ p.replica.lqh.markers (λ (m : Marker) is. decided m.tx m.epoch is) known.markers;
    }
