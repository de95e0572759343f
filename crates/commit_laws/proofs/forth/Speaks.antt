-- What signals tell of who was committed, and of whose commit the client's side acknowledges.
use Rattle.std.proofs.Common.{◌≡◌, ℕ, Bool, true, false, List}
use Rattle.std.specs.Prelude.{Option, None, Some, slice_get}
use Rattle.run_theory.specs.Lists.{Each}
use Rattle.run_theory.proofs.Pasts.{each_map}
use Rattle.sig_core.specs.declared.member.TxId.{TxId}
use Rattle.sig_core.specs.declared.outs.Outgoing.{Outgoing}
use Rattle.sig_core.specs.declared.rows.PendingRecord.{PendingRecord}
use Rattle.sig_core.specs.declared.signal.Body.{Body}
use Rattle.sig_core.specs.declared.signal.Body.TheVariants.{Chain, Client, Epoch, Takeover}
use Rattle.sig_core.specs.declared.signal.chain.ChainSignal.TheVariants.{Commit, Committed, Complete, Completed}
use Rattle.sig_core.specs.declared.signal.client.ClientSignal.TheVariants.{TcCommitAck, TcCommitConf, TcKeyFailConf}
use Rattle.sig_core.specs.declared.signal.client.ClientSignal.TheVariants.{ViewRep}
use Rattle.sig_core.specs.declared.signal.epoch.EpochSignal.TheVariants.{DiVerifyConf}
use Rattle.sig_core.specs.declared.signal.takeover.RecordState.{RecordState}
use Rattle.sig_core.specs.declared.signal.takeover.RecordState.TheVariants as state
use Rattle.sig_core.specs.declared.signal.takeover.TakeoverSignal.TheVariants.{LqhTransConf}
use Rattle.lqh_block.specs.declared.request.Marker.{Marker}
use Rattle.lqh_views.specs.State.{ReplicaState}
use Rattle.takeover_block.specs.declared.gathered.Gathered.{Gathered}
use Rattle.takeover_block.specs.declared.stage.Stage.{Stage}
use Rattle.takeover_block.specs.declared.stage.Stage.TheVariants as stage
use Rattle.takeover_block.specs.State.{TakeoverState}
use Rattle.outcome_laws.specs.Known.{IsDecidedAs, IsDecidedAt, IsDecidedIf, RowsKnow, TakeoverKnows}
use Rattle.outcome_laws.specs.Tells.{Tells, TellsOfRecord}
use Rattle.outcome_laws.proofs.knowledge.TellsNothing.{AreUntold, IsUntold, is_tale}
use Rattle.commit_laws.specs.Forth.{TellsForth}

-- said of whoever was committed, whatever the epoch
abbrev pub Of : (TxId → Type 0) → TxId → ℕ → Type 0
Of F tx epoch = F tx

-- said of anyone
abbrev pub Anyone : TxId → Type 0
Anyone tx = Unit {0}

-- the signal gives an epoch
abbrev pub gives_epoch : Body → Bool
gives_epoch (Epoch (DiVerifyConf tx epoch)) = true
gives_epoch body = false

-- where this is said of who was committed, and that of whose commit is acknowledged
module _ (F A : TxId → Type 0) where
  abbrev pub Speaks : Body → Type 0
  Speaks (Chain (Commit tx key epoch chain at)) = F tx
  Speaks (Chain (Committed tx key)) = F tx
  Speaks (Chain (Complete tx key chain at)) = F tx
  Speaks (Chain (Completed tx key)) = F tx
  Speaks (Client (TcCommitConf tx epoch)) = F tx
  Speaks (Client (TcKeyFailConf tx epoch)) = F tx
  Speaks (Client (TcCommitAck tx)) = A tx
  Speaks (Takeover (LqhTransConf tx key told epoch)) = TellsOfRecord (Of F) Anyone tx told epoch
  Speaks body = Unit {0}

  abbrev pub AreSpoken : List Outgoing → Type 0
  AreSpoken sends = Each (λ (sent : Outgoing). Speaks sent.body) sends

  -- what tells no tale says nothing of that
  untold_speaks : (body : Body) → is_tale body ≡ false → Speaks body
  untold_speaks (Client ViewRep) none = tt
  untold_speaks (Client signal) none = absurd cc
  untold_speaks (Chain signal) none = absurd cc
  untold_speaks (Takeover (LqhTransConf tx key told epoch)) none = absurd cc
  untold_speaks body none = tt

  pub untold_speak : (sends : List Outgoing) → AreUntold sends → AreSpoken sends
  untold_speak sends none =
      each_map IsUntold (λ (sent : Outgoing). Speaks sent.body) sends (λ sent is. untold_speaks sent.body is) none

  -- so a block hears of who was decided, unless it is given an epoch
  pub hears : (body : Body) → gives_epoch body ≡ false → Speaks body → Tells (Of F) Anyone body
  hears (Epoch (DiVerifyConf tx epoch)) none spoken = absurd cc
  hears (Chain (Commit tx key epoch chain at)) none spoken = spoken
  hears (Client (TcCommitConf tx epoch)) none spoken = spoken
  hears (Client (TcKeyFailConf tx epoch)) none spoken = spoken
  hears (Takeover (LqhTransConf tx key told epoch)) none spoken = spoken
  hears body none spoken = tt

-- so much as was said is said of more
module _ (F G A B : TxId → Type 0) (more : (tx : TxId) → F tx → G tx) (known : (tx : TxId) → A tx → B tx) where
  told_grows : (tx : TxId) (told : RecordState) (epoch : ℕ) → TellsOfRecord (Of F) Anyone tx told epoch
      → TellsOfRecord (Of G) Anyone tx told epoch
  told_grows tx state.Prepared epoch tells = tt
  told_grows tx state.Committed epoch tells = more tx tells
  told_grows tx state.Marker epoch tells = more tx tells

  pub speaks_grow : (body : Body) → Speaks F A body → Speaks G B body
  speaks_grow (Chain (Commit tx key epoch chain at)) spoken = more tx spoken
  speaks_grow (Chain (Committed tx key)) spoken = more tx spoken
  speaks_grow (Chain (Complete tx key chain at)) spoken = more tx spoken
  speaks_grow (Chain (Completed tx key)) spoken = more tx spoken
  speaks_grow (Client (TcCommitConf tx epoch)) spoken = more tx spoken
  speaks_grow (Client (TcKeyFailConf tx epoch)) spoken = more tx spoken
  speaks_grow (Client (TcCommitAck tx)) spoken = known tx spoken
  speaks_grow (Takeover (LqhTransConf tx key told epoch)) spoken = told_grows tx told epoch spoken
  speaks_grow body spoken = tt

-- and so with what rows and takeovers know
module _ (F G : TxId → Type 0) (B C : TxId → Type 0) (more : (tx : TxId) → F tx → G tx) where
  record_grows : (r : PendingRecord) (committed : Bool) → IsDecidedIf (Of F) B r committed
      → IsDecidedIf (Of G) C r committed
  record_grows r true known = more r.tx known
  record_grows r false known = tt

  pub rows_grow : (s : ReplicaState) → RowsKnow (Of F) B s → RowsKnow (Of G) C s
  rows_grow s knows = record {
    records = each_map _ _ s.lqh.rows.pending (λ (r : PendingRecord) known. record_grows r r.committed known)
        knows.records;
    markers = each_map _ _ s.lqh.markers (λ (m : Marker) known. more m.tx known) knows.markers;
  }

  gathered_grows : (tx : TxId) (epoch : Option ℕ) → IsDecidedAs (Of F) B tx epoch → IsDecidedAs (Of G) C tx epoch
  gathered_grows tx None known = tt
  gathered_grows tx (Some epoch) known = more tx known

  first_grows : (at : Stage) (first : Option Gathered) → IsDecidedAt (Of F) B at first → IsDecidedAt (Of G) C at first
  first_grows (stage.Committing epoch awaited) (Some g) known = more g.tx known
  first_grows (stage.Completing epoch awaited) (Some g) known = more g.tx known
  first_grows other first known = tt

  pub takeover_grows : (s : TakeoverState) → TakeoverKnows (Of F) B s → TakeoverKnows (Of G) C s
  takeover_grows s knows = record {
    gathered = each_map _ _ s.gathered (λ (g : Gathered) known. gathered_grows g.tx g.epoch known) knows.gathered;
    first = first_grows s.stage (slice_get s.gathered 0) knows.first;
  }

-- it is what laws of commits tell of
module _ (F : TxId → Type 0) where
  record_told : (tx : TxId) (told : RecordState) (epoch : ℕ) → TellsOfRecord (Of F) Anyone tx told epoch
      → TellsOfRecord (λ other e. F other) F tx told epoch
  record_told tx state.Prepared epoch tells = tt
  record_told tx state.Committed epoch tells = tells
  record_told tx state.Marker epoch tells = tells

  pub tells_forth : (body : Body) → Speaks F F body → TellsForth F body
  tells_forth (Takeover (LqhTransConf tx key told epoch)) spoken = record_told tx told epoch spoken
  tells_forth body spoken = spoken
