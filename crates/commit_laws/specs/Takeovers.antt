-- What takeovers rule agrees with what becomes of transactions.
use Rattle.std.specs.Prelude.{◌≡◌, ℕ, true, false, List, Option, None, Some}
use Rattle.std.specs.List.{slice_get}
use Rattle.run_theory.specs.Links.{sent}
use Rattle.run_theory.specs.Lists.{Each, IsIn}
use Rattle.sig_core.specs.declared.member.Member.{Member}
use Rattle.sig_core.specs.declared.member.TxId.{TxId}
use Rattle.sig_core.specs.declared.signal.Body.{Body}
use Rattle.sig_core.specs.declared.signal.Body.TheVariants.{Takeover}
use Rattle.sig_core.specs.declared.signal.takeover.TakeoverSignal.TheVariants.{LqhTransConf}
use Rattle.sig_core.specs.declared.view.View.{View}
use Rattle.takeover_block.specs.declared.gathered.Gathered.{Gathered}
use Rattle.takeover_block.specs.declared.stage.Stage.{Stage}
use Rattle.takeover_block.specs.declared.stage.Stage.TheVariants as stage
use Rattle.takeover_block.specs.Gathered.{told_epoch}
use Rattle.takeover_block.specs.Keys.{has_key}
use Rattle.takeover_block.specs.State.{TakeoverState}
use Rattle.world_core.specs.Start.{Start, made}
use Rattle.world_core.specs.Steps.{Addressed, HostStep}
use Rattle.view_laws.specs.Order.{sound_machine}
use Rattle.view_laws.specs.Runs.{view_after}
use Rattle.moment_laws.specs.Moments.{current}
use Rattle.moment_laws.specs.Places.{tc_of}
use Rattle.request_laws.specs.Blocks.{takeover_after}
use Rattle.request_laws.specs.Orphans.{IsOrphan}
use Rattle.commit_laws.specs.Commits.{HasWritten, HasWrittenOne, IsKept}
use Rattle.commit_laws.specs.Fates.{aborts, commits, fate}
use Rattle.commit_laws.specs.Traces.{is_known}

module _ (start : Start) (logs : ℕ → List HostStep) where
  -- what is told of a transaction: where an epoch is, that it commits, and wrote something
  abbrev pub TellsFate : TxId → Option ℕ → Type 0
  TellsFate tx None = Unit {0}
  TellsFate tx (Some epoch) = (fate start logs tx ≡ commits) × HasWrittenOne start logs tx

  -- what rows report is of orphans of the view in which they do, and true of it
  abbrev pub IsTrueReport : View → Body → Type 0
  IsTrueReport view (Takeover (LqhTransConf tx key state epoch)) =
      IsOrphan view tx × TellsFate tx (told_epoch state epoch)
  IsTrueReport view body = Unit {0}

  abbrev pub takeover_at : Member → TakeoverState
  takeover_at member = takeover_after start member (logs (tc_of start member))

  -- what it is at work on: a commit, or an abort
  abbrev pub IsRuled : Stage → Gathered → Type 0
  IsRuled (stage.Committing epoch awaited) g = (fate start logs g.tx ≡ commits) × HasWrittenOne start logs g.tx
  IsRuled (stage.Completing epoch awaited) g = (fate start logs g.tx ≡ commits) × HasWrittenOne start logs g.tx
  IsRuled (stage.Aborting awaited) g = fate start logs g.tx ≡ aborts
  IsRuled other g = Unit {0}

  -- once all members have told what they have, each key is gathered that the transaction wrote
  abbrev pub HasAllKeys : Gathered → Type 0
  HasAllKeys g =
      IsKept start logs g.tx → is_known start logs g.tx ≡ false → (key : List ℕ) → HasWritten start logs g.tx key
      → has_key g.keys key ≡ true

  abbrev pub IsWhole : Stage → Gathered → Type 0
  IsWhole stage.Resting g = Unit {0}
  IsWhole (stage.Gathering awaited) g = Unit {0}
  IsWhole other g = HasAllKeys g

  -- and whoever none of them told to be committed aborts
  abbrev pub AbortsIfUntold : Gathered → Type 0
  AbortsIfUntold g = g.epoch ≡ None → fate start logs g.tx ≡ aborts

  abbrev pub IsLeft : Stage → Gathered → Type 0
  IsLeft stage.Resting g = Unit {0}
  IsLeft (stage.Gathering awaited) g = Unit {0}
  IsLeft other g = AbortsIfUntold g

  abbrev pub FirstIs : (Gathered → Type 0) → Option Gathered → Type 0
  FirstIs P None = Unit {0}
  FirstIs P (Some g) = P g

  pub record TakeoverStands (member : Member) : Type 0 where
    pub orphans : Each (λ (g : Gathered). IsOrphan (takeover_at member).layout.view g.tx) (takeover_at member).gathered
    -- in the current view
    pub told : (view_after start (tc_of start member) (logs (tc_of start member))).number ≡ (current start logs).number
        → Each (λ (g : Gathered). TellsFate g.tx g.epoch) (takeover_at member).gathered
    pub ruled : (view_after start (tc_of start member) (logs (tc_of start member))).number ≡ (current start logs).number
        → FirstIs (IsRuled (takeover_at member).stage) (slice_get (takeover_at member).gathered 0)
    pub whole : (view_after start (tc_of start member) (logs (tc_of start member))).number ≡ (current start logs).number
        → Each (IsWhole (takeover_at member).stage) (takeover_at member).gathered
    pub left : (view_after start (tc_of start member) (logs (tc_of start member))).number ≡ (current start logs).number
        → Each (IsLeft (takeover_at member).stage) (takeover_at member).gathered

  pub record TakeoversStand : Type 0 where
    pub each : (member : Member) → IsIn member (made start) → TakeoverStands member
    pub reports : (i j : ℕ)
        → Each (λ (x : Addressed). x.signal.view.number ≡ (current start logs).number
        → IsTrueReport x.signal.view x.signal.body) (sent (sound_machine start) i j (logs i))
