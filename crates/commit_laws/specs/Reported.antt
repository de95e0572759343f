-- What the client's side is told of transactions before it is told that a takeover is complete.
use Rattle.std.specs.Prelude.{◌≡◌, ◌++◌, ◌⊎◌, ℕ, true, List, [], ◌∷◌, Option, None, Some}
use Rattle.run_theory.specs.Links.{sent}
use Rattle.run_theory.specs.Lists.{IsIn}
use Rattle.sig_core.specs.declared.member.Member.{Member}
use Rattle.sig_core.specs.declared.member.TxId.{TxId}
use Rattle.sig_core.specs.declared.signal.Body.TheVariants.{Client}
use Rattle.sig_core.specs.declared.signal.client.ClientSignal.TheVariants.{NfCompleteRep, TcKeyFailConf}
use Rattle.sig_core.specs.Place.{client}
use Rattle.takeover_block.specs.declared.gathered.Gathered.{Gathered}
use Rattle.takeover_block.specs.declared.stage.Stage.{Stage}
use Rattle.takeover_block.specs.declared.stage.Stage.TheVariants as stage
use Rattle.world_core.specs.Start.{Start}
use Rattle.world_core.specs.Steps.{Addressed, HostStep}
use Rattle.view_laws.specs.Order.{sound_machine}
use Rattle.moment_laws.specs.Moments.{IsMoment, current, logs_of}
use Rattle.request_laws.specs.Orphans.{IsOrphan}
use Rattle.commit_laws.specs.Fates.{aborts, fate}
use Rattle.commit_laws.specs.Gathering.{EndsGathering}
use Rattle.commit_laws.specs.Takeovers.{takeover_at}
use Rattle.commit_laws.specs.Traces.{is_known}

-- these signals tell of the commit of the transaction
pub record TellsCommit (tx : TxId) (ys : List Addressed) : Type 0 where
  pub epoch : ℕ
  pub signal : Addressed
  pub there : IsIn signal ys
  pub place : signal.signal.to ≡ client
  pub body : signal.signal.body ≡ Client (TcKeyFailConf tx epoch)

module _ (start : Start) (logs : ℕ → List HostStep) where
  -- it aborts, or the client's side knows that it is committed, or these tell so
  pub data IsSaid (tx : TxId) (ys : List Addressed) : Type 0 where
    aborted : fate start logs tx ≡ aborts → IsSaid tx ys
    known : is_known start logs tx ≡ true → IsSaid tx ys
    told : TellsCommit tx ys → IsSaid tx ys

  -- so it is, in front of each word that a takeover is complete, of whoever has no coordinator in the view of that
  abbrev pub CompletesLast : Type 0
  CompletesLast =
      (i : ℕ) (y : Addressed) (newer older : List Addressed)
      → sent (sound_machine start) i 0 (logs i) ≡ newer ++ y ∷ older → y.signal.body ≡ Client NfCompleteRep
      → (tx : TxId) → IsOrphan y.signal.view tx → IsSaid tx older

-- a member told a takeover that the transaction is committed
pub record IsListed (tx : TxId) (gathered : List Gathered) : Type 0 where
  pub entry : Gathered
  pub there : IsIn entry gathered
  pub own : entry.tx ≡ tx
  pub committed : entry.epoch ≡ None → ⊥

-- where this is said of a transaction, and these have no coordinator
module _ (O S : TxId → Type 0) where
  -- it is said of each of these, or it is still to be ruled on
  abbrev pub AreAttended : List Gathered → Type 0
  AreAttended gathered = (tx : TxId) → O tx → S tx ⊎ IsListed tx gathered

  -- once all members have ended
  abbrev pub IsAttended : Stage → List Gathered → Type 0
  IsAttended (stage.Committing epoch awaited) gathered = AreAttended gathered
  IsAttended (stage.Completing epoch awaited) gathered = AreAttended gathered
  IsAttended (stage.Aborting awaited) gathered = AreAttended gathered
  IsAttended other gathered = Unit {0}

  -- and of the first of them, if its keys are being completed
  abbrev pub IsFirstSaid : Stage → Option Gathered → Type 0
  IsFirstSaid (stage.Completing epoch awaited) (Some g) = S g.tx
  IsFirstSaid other first = Unit {0}

-- when the last member ends, of whoever has no coordinator it is said, or it is to be ruled on
abbrev pub GatheringsList : Type 0
GatheringsList =
    (start : Start) (all : ℕ → List HostStep) (e : HostStep) (es : List HostStep) → IsMoment start all (e ∷ es)
    → (member : Member) → EndsGathering start e es member
    → AreAttended (IsOrphan (current start (logs_of start es))) (λ tx. IsSaid start (logs_of start es) tx [])
    (takeover_at start (logs_of start es) member).gathered
