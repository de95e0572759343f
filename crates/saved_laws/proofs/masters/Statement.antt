-- What masters have heard of what members saved and noted, what they order, and what is marked as durable; and how it
-- grows with the logs.
use Rattle.std.proofs.Common.{◌≡◌, ◌<◌, ℕ, false, List, ◌∷◌, sym, subst}
use Rattle.run_theory.proofs.Pasts.{each_map}
use Rattle.run_theory.specs.Lists.{Each, IsIn}
use Rattle.sig_core.specs.declared.mark.Mark.TheVariants.{Durable}
use Rattle.sig_core.specs.declared.member.Member.{Member}
use Rattle.sig_core.specs.declared.signal.Body.{Body}
use Rattle.sig_core.specs.declared.signal.Body.TheVariants.{Epoch}
use Rattle.sig_core.specs.declared.signal.epoch.EpochSignal.TheVariants.{CopyGciReq, GcpSaveReq}
use Rattle.sig_core.specs.declared.view.View.{View}
use Rattle.gcp_master.specs.declared.phase.Phase.{Phase}
use Rattle.gcp_master.specs.declared.phase.Phase.TheVariants.{Copying, Gathering, Saving}
use Rattle.gcp_master.specs.declared.voices.Voice.{Voice}
use Rattle.gcp_master.specs.Orders.{mask_of}
use Rattle.gcp_master.specs.State.{MasterState}
use Rattle.world_core.specs.Hosts.{hosts}
use Rattle.world_core.specs.Start.{Start, made}
use Rattle.world_core.specs.Steps.{Addressed, HostStep}
use Rattle.view_laws.specs.Runs.{WasInstalled}
use Rattle.moment_laws.specs.Moments.{IsMoment, logs_of}
use Rattle.moment_laws.specs.Places.{ldm_of, tc_of}
use Rattle.moment_laws.proofs.MomentSignals.{EachSent}
use Rattle.outcome_laws.specs.Decided.{IsMarked}
use Rattle.epoch_laws.specs.Members.{master_of}
use Rattle.closing_laws.specs.Closed.{WasClosed}
use Rattle.closing_laws.proofs.durable.Statement.{IsGoodPhase, closed_grows}
use Rattle.saved_laws.specs.Copied.{IsOfDurable, IsOfSaved, TellsDurable, TellsSaved}
use Rattle.saved_laws.proofs.masters.Orders.{Copies, MayOrder, Saves, is_late}
use Rattle.saved_laws.proofs.masters.Steps.{HasHeard, HasNoted, HasSaved, IsHeard, IsLearnedOf}
use Rattle.saved_laws.proofs.masters.Told.{installed_grows, told_grows}

module _ (start : Start) (logs : ℕ → List HostStep) where
  -- an order to save an epoch is of one that was closed, and one to write it as durable of one that was saved
  abbrev pub IsOrderedRightly : Body → Type 0
  IsOrderedRightly (Epoch (GcpSaveReq epoch)) = WasClosed start logs epoch
  IsOrderedRightly (Epoch (CopyGciReq epoch mask)) = IsOfSaved start logs epoch mask
  IsOrderedRightly body = Unit {0}

  abbrev pub IsRightOrder : Addressed → Type 0
  IsRightOrder y = IsOrderedRightly y.signal.body

  -- all of it
  pub record AllOrdered : Type 0 where
    pub orders : EachSent start IsRightOrder logs
    pub masters : (member : Member) → IsIn member (made start) → HasHeard start logs (master_of start logs member)
    pub durables : (h epoch : ℕ) → h < hosts start → IsMarked (Durable epoch) (logs h) → IsOfDurable start logs epoch

  pub none_rightly : (body : Body) → is_late body ≡ false → IsOrderedRightly body
  none_rightly (Epoch (GcpSaveReq epoch)) none = absurd cc
  none_rightly (Epoch (CopyGciReq epoch mask)) none = absurd cc
  none_rightly body none = tt

  -- what a master orders that has heard, or marked, what it has
  module _ (s : MasterState) (heard : HasHeard start logs s) (good : IsGoodPhase start logs s.phase)
      (stood : WasInstalled start logs s.view)
    where
      saves_rightly : (epoch : ℕ) (phase : Phase) → Saves epoch phase → IsGoodPhase start logs phase
          → WasClosed start logs epoch
      saves_rightly epoch (Saving run) same good = subst (WasClosed start logs) (sym same) good
      saves_rightly epoch phase saves good = absurd saves

      copies_rightly : (epoch mask : ℕ) (phase : Phase) → Copies epoch phase → mask ≡ mask_of s.view.full
          → IsHeard start logs s.view s.voices phase → IsOfSaved start logs epoch mask
      copies_rightly epoch mask (Copying run) same is heard = record {
        view = s.view;
        installed = stood;
        mask_is = is;
        told = subst (λ n. Each (HasSaved start logs n) s.view.full) (sym same) heard.0;
      }
      copies_rightly epoch mask phase copies is heard = absurd copies

      pub may_rightly : (body : Body) → MayOrder s body → IsOrderedRightly body
      may_rightly (Epoch (GcpSaveReq epoch)) may = saves_rightly epoch s.phase may good
      may_rightly (Epoch (CopyGciReq epoch mask)) may = copies_rightly epoch mask s.phase may.0 may.1 heard
      may_rightly body may = tt

-- what was told, and closed, was so behind an event
module _ (start : Start) (all : ℕ → List HostStep) (e : HostStep) (es : List HostStep)
    (moment : IsMoment start all (e ∷ es))
  where
    abbrev old : ℕ → List HostStep
    old = logs_of start es

    abbrev new : ℕ → List HostStep
    new = logs_of start (e ∷ es)

    saved_grows : (epoch : ℕ) (member : Member) → HasSaved start old epoch member → HasSaved start new epoch member
    saved_grows epoch member = told_grows start all e es moment (TellsSaved epoch) (ldm_of start member)

    notes_grow : (epoch : ℕ) (member : Member) → HasNoted start old epoch member → HasNoted start new epoch member
    notes_grow epoch member = told_grows start all e es moment (TellsDurable epoch) (tc_of start member)

    each_saved : (epoch : ℕ) (members : List Member) → Each (HasSaved start old epoch) members
        → Each (HasSaved start new epoch) members
    each_saved epoch members =
        each_map (HasSaved start old epoch) (HasSaved start new epoch) members (saved_grows epoch)

    each_noted : (epoch : ℕ) (members : List Member) → Each (HasNoted start old epoch) members
        → Each (HasNoted start new epoch) members
    each_noted epoch members =
        each_map (HasNoted start old epoch) (HasNoted start new epoch) members (notes_grow epoch)

    pub heard_grows : (view : View) (voices : List Voice) (phase : Phase) → IsHeard start old view voices phase
        → IsHeard start new view voices phase
    heard_grows view voices (Gathering known) is = record {
      saved =
          each_map (IsLearnedOf start old view known) (IsLearnedOf start new view known) voices
          (λ voice saved full rows. saved_grows known.saved voice.member (saved full rows)) is.saved;
      hosts = is.hosts;
      once = is.once;
    }
    heard_grows view voices (Saving run) is =
        each_map (λ (voice : Voice). HasSaved start old run.epoch voice.member)
        (λ (voice : Voice). HasSaved start new run.epoch voice.member) voices
        (λ voice. saved_grows run.epoch voice.member) is
    heard_grows view voices (Copying run) is = (
      each_saved run.epoch view.full is.0,
      each_map (λ (voice : Voice). HasNoted start old run.epoch voice.member)
          (λ (voice : Voice). HasNoted start new run.epoch voice.member) voices
          (λ voice. notes_grow run.epoch voice.member) is.1,
    )
    heard_grows view voices phase is = tt

    pub ordered_grows : (body : Body) → IsOrderedRightly start old body → IsOrderedRightly start new body
    ordered_grows (Epoch (GcpSaveReq epoch)) is = closed_grows start all e es moment epoch is
    ordered_grows (Epoch (CopyGciReq epoch mask)) is = record {
      view = is.view;
      installed = installed_grows start all e es moment is.view is.installed;
      mask_is = is.mask_is;
      told = each_saved epoch is.view.full is.told;
    }
    ordered_grows body is = tt

    pub durable_grows : (epoch : ℕ) → IsOfDurable start old epoch → IsOfDurable start new epoch
    durable_grows epoch is = record {
      view = is.view;
      installed = installed_grows start all e es moment is.view is.installed;
      told = each_noted epoch is.view.full is.told;
    }
