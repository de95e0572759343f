-- What stands of commits at a moment stands behind the next event, where all stands at the moment; and it stands at
-- first.
use Rattle.run_theory.specs.Links.{sent}
use Rattle.run_theory.proofs.Pasts.{each_map}
use Rattle.sig_core.specs.declared.signal.Body.{Body}
use Rattle.sig_core.specs.declared.signal.Body.TheVariants.{Client}
use Rattle.sig_core.specs.declared.signal.client.ClientSignal.TheVariants.{TcCommitAck}
use Rattle.world_core.specs.Steps.{Addressed}
use Rattle.view_laws.specs.Order.{sound_machine}
use Rattle.moment_laws.specs.Moments.{logs_of}
use Rattle.commit_laws.specs.Forth.{IsForth}
use Rattle.commit_laws.specs.Together.{EventsKeepCommits}
use Rattle.commit_laws.specs.Transit.{MomentsHaveTransit}
use Rattle.commit_laws.specs.Whole.{CommitsGoWhole}
use Rattle.commit_laws.proofs.commits.Remain.{AcknowledgedAreKnown, IsKnownIf}
use Rattle.commit_laws.proofs.commits.Step.{commits_stand}
use Rattle.commit_laws.proofs.forth.All.{IsAcknowledged, SpeaksTruly, all_forth, forth_is_known}
use Rattle.commit_laws.proofs.forth.Speaks.{Speaks}
use Rattle.commit_laws.proofs.markers.All.{commits_are_remembered}
use Rattle.commit_laws.proofs.commits.OwnersHosts.{owners_say_commits}
use Rattle.commit_laws.proofs.settled.Decisions.{settled_now}

-- the client's side knows of each commit that it has acknowledged
pub acknowledged_are_known : AcknowledgedAreKnown
acknowledged_are_known start all es moment i j =
    each_map (SpeaksTruly start (logs_of start es))
    (λ (x : Addressed). IsKnownIf start (logs_of start es) x.signal.body)
    (sent (sound_machine start) i j (logs_of start es i)) (λ x spoken. by x.signal.body spoken)
    ((all_forth start all es moment).signals i j)
  where
    by : (body : Body)
        → Speaks (IsForth start (logs_of start es)) (IsAcknowledged start (logs_of start es)) body
        → IsKnownIf start (logs_of start es) body
    by (Client (TcCommitAck tx)) spoken = spoken
    by body spoken = tt

module _ (whole : CommitsGoWhole) (transit : MomentsHaveTransit) where
  pub events_keep_commits : EventsKeepCommits
  events_keep_commits start all e es follows moves answered =
      commits_stand forth_is_known commits_are_remembered acknowledged_are_known whole owners_say_commits start all e es
      follows answered moves
      (λ tx kept isnt key. settled_now forth_is_known transit start all e es follows tx kept isnt key)
