-- What a master sends: orders to prepare and to commit of the run that is under way, and nothing that members tell.
use Rattle.std.proofs.Common.{◌≡◌, ℕ, List, refl, sym, subst}
use Rattle.run_theory.specs.Lists.{Each}
use Rattle.sig_core.specs.declared.mark.Mark.{Mark}
use Rattle.sig_core.specs.declared.outs.Outgoing.{Outgoing}
use Rattle.sig_core.specs.declared.signal.Body.{Body}
use Rattle.sig_core.specs.declared.signal.Body.TheVariants.{Epoch}
use Rattle.sig_core.specs.declared.signal.Signal.{Signal}
use Rattle.sig_core.specs.declared.signal.epoch.EpochSignal.TheVariants.{GcpClosed, GcpCommit, GcpPrepare}
use Rattle.sig_core.specs.declared.signal.epoch.EpochSignal.TheVariants.{GcpPrepareConf, GcpNodeFinish, GcpOrd}
use Rattle.sig_core.specs.declared.signal.epoch.EpochSignal.TheVariants.{GcpStateConf}
use Rattle.sig_core.specs.Step.{Step}
use Rattle.gcp_master.specs.declared.phase.Phase.{Phase}
use Rattle.gcp_master.specs.declared.phase.Phase.TheVariants.{Closing}
use Rattle.gcp_master.specs.Master.{master_row}
use Rattle.gcp_master.specs.Sends.{listing}
use Rattle.gcp_master.specs.State.{MasterState}
use Rattle.gcp_master.proofs.Walk.{listing_does, listing_state, master_steps, walking_does}
use Rattle.epoch_laws.specs.Masters.{Commits, Prepares}

-- the end of this epoch is to be noted
abbrev pub Closes : ℕ → Phase → Type 0
Closes epoch (Closing run) = epoch ≡ run.epoch
Closes epoch phase = ⊥

-- what a master in this phase may say
abbrev pub MaySay : Phase → Body → Type 0
MaySay phase (Epoch (GcpPrepare epoch next)) = Prepares epoch next phase
MaySay phase (Epoch (GcpCommit epoch next)) = Commits epoch next phase
MaySay phase (Epoch (GcpClosed epoch)) = Closes epoch phase
MaySay phase (Epoch (GcpPrepareConf epoch)) = ⊥
MaySay phase (Epoch (GcpNodeFinish epoch)) = ⊥
MaySay phase (Epoch (GcpStateConf current prepared next closed saved durable)) = ⊥
MaySay phase (Epoch GcpOrd) = ⊥
MaySay phase body = Unit {0}

abbrev pub Says : Phase → List Outgoing → Type 0
Says phase sends = Each (λ send. MaySay phase send.body) sends

-- a step of a master says what it may say in the phase to which it comes
abbrev pub SaysOf : Step MasterState → Type 0
SaysOf step = Says step.state.phase step.effects.sends

-- what is sent of a list
lists : (s : MasterState) (at : ℕ) → SaysOf (listing s at)
lists s at = listing_state s at (λ t. Says t.phase (listing s at).effects.sends) say say
  where
    say : Says s.phase (listing s at).effects.sends
    say =
        (listing_does s at (λ (sent : Outgoing). MaySay s.phase sent.body) (λ (mark : Mark). Unit {0}) (record {
          asks = λ known to member is one there. tt;
          prepares = λ run member is there. subst (Prepares run.epoch run.next) (sym is) (refl, refl);
          commits = λ run member is there. subst (Commits run.epoch run.next) (sym is) (refl, refl);
          closes = λ run to member is one there. subst (Closes run.epoch) (sym is) refl;
          saves = λ run member is there. tt;
          copies = λ run member is there. tt;
          tells_micro = λ epoch is. tt;
          tells_global = λ epoch copy local is. tt;
          tells_members = λ epoch copy local to member is one there. tt;
          tells_copying = λ epoch local is. tt;
          switches = λ epoch copy member is there. tt;
          goes_on = λ left. tt;
        })).0

-- whatever a master takes, it says what it may say in the phase to which it comes
pub master_says : (s : MasterState) (x : Signal) → SaysOf (master_row s x)
master_says s x =
    master_steps s x (λ step. SaysOf step) (record {
      stays = λ t. tt;
      stops = λ t. tt;
      lists = λ t at member view. lists t at;
      closes = λ run t member view at is. lists t 0;
      makes_durable = λ run step is at on all says. says;
      walks = λ is at first.
          (walking_does s (λ (sent : Outgoing). MaySay s.phase sent.body) (λ (mark : Mark). Unit {0})
          (λ member there. tt)).0;
      tells_local = λ epoch is at. (tt, tt);
    })
