-- What a host was told stays so, and the signal of epochs that an event takes was told to its host.
use Rattle.std.proofs.Common.{◌≡◌, ◌==◌, ◌&&◌, ◌≤◌, ℕ, Bool, true, false, List, ◌∷◌, refl, sym, subst, arith}
use Rattle.run_theory.proofs.EventCases.{event_keeps}
use Rattle.run_theory.proofs.Pasts.{past_more}
use Rattle.run_theory.specs.Links.{taken}
use Rattle.run_theory.specs.Lists.{IsIn, IsPast}
use Rattle.run_theory.specs.Machine.{Machine}
use Rattle.sig_core.specs.declared.signal.Body.{Body}
use Rattle.sig_core.specs.declared.signal.Body.TheVariants.{Epoch}
use Rattle.sig_core.specs.declared.signal.Signal.{Signal}
use Rattle.sig_core.specs.declared.signal.epoch.EpochSignal.{EpochSignal}
use Rattle.sig_core.specs.declared.signal.epoch.EpochSignal.TheVariants.{GcpSaveConf, GcpStateConf}
use Rattle.sig_core.specs.declared.view.View.{View}
use Rattle.node_views.specs.WellFormed.{is_well_formed}
use Rattle.world_core.proofs.MadeFirst.{all_made}
use Rattle.world_core.specs.Start.{Start}
use Rattle.world_core.specs.Steps.{Addressed, HostStep}
use Rattle.world_views.specs.Machine.{machine}
use Rattle.world_views.specs.Sending.{is_asked, is_own_work}
use Rattle.view_laws.specs.Order.{sound_machine}
use Rattle.view_laws.specs.Runs.{WasInstalled}
use Rattle.moment_laws.specs.Moments.{IsMoment, logs_of}
use Rattle.moment_laws.proofs.MomentTurns.{host_low, own_log}
use Rattle.moment_laws.proofs.MomentSignals.{neither}
use Rattle.closing_laws.proofs.takeover.MastersAreTold.{taken_more, taken_own}
use Rattle.saved_laws.specs.Copied.{TellsSaved, WasTold}

-- who has saved an epoch has saved each one before it
pub saved_less : (less epoch : ℕ) → less ≤ epoch → (body : Body) → TellsSaved epoch body → TellsSaved less body
saved_less less epoch low (Epoch (GcpSaveConf saved)) tells = omega (arith, low, tells)
saved_less less epoch low (Epoch (GcpStateConf now prepared next closed saved durable)) tells =
    omega (arith, low, tells)
saved_less less epoch low _ tells = absurd tells

-- a signal that tells this tells that too
pub told_map : (start : Start) (logs : ℕ → List HostStep) (Tells Also : Body → Type 0)
    → ((body : Body) → Tells body → Also body) → (from : ℕ) → WasTold start logs Tells from
    → WasTold start logs Also from
told_map start logs Tells Also also from was = record {
  host = was.host;
  below = was.below;
  signal = was.signal;
  there = was.there;
  tells = also was.signal.signal.body was.tells;
}

module _ (start : Start) (all : ℕ → List HostStep) (e : HostStep) (es : List HostStep)
    (moment : IsMoment start all (e ∷ es))
  where
    abbrev old : ℕ → List HostStep
    old = logs_of start es

    abbrev new : ℕ → List HostStep
    new = logs_of start (e ∷ es)

    abbrev x : Signal
    x = e.step.taken

    abbrev n : Machine HostStep Addressed
    n = sound_machine start

    pub told_grows : (Tells : Body → Type 0) (from : ℕ) → WasTold start old Tells from → WasTold start new Tells from
    told_grows Tells from was = record {
      host = was.host;
      below = was.below;
      signal = was.signal;
      there =
          event_keeps (machine start) e es (λ k log. IsIn was.signal (taken n from log))
          (λ there. taken_more n from (old e.host) e was.signal there) was.host was.there;
      tells = was.tells;
    }

    pub installed_grows : (view : View) → WasInstalled start old view → WasInstalled start new view
    installed_grows view was = record {
      host = was.host;
      there = was.there;
      made = all_made start moment.cluster.nobody was.host (new 0);
      log = was.log;
      past =
          event_keeps (machine start) e es (λ k log. IsPast was.log log) (λ past. past_more e past) was.host was.past;
      is = was.is;
    }

    -- the signal that is taken now
    module _ (signal : EpochSignal) (is : x.body ≡ Epoch signal) (sound : is_well_formed start.shape x ≡ true) where
      not_asked : is_asked e.host x ≡ false
      not_asked =
          subst (λ body. ((x.from.0 == e.host) && is_own_work body) ≡ false) (sym is) (by (x.from.0 == e.host))
        where
          by : (b : Bool) → (b && false) ≡ false
          by true = refl
          by false = refl

      unasked : n.asked e ≡ false
      unasked = neither (is_asked e.host x) (is_well_formed start.shape x) not_asked sound

      pub told_now : (Tells : Body → Type 0) → Tells (Epoch signal) → WasTold start new Tells x.from.0
      told_now Tells tells = record {
        host = e.host;
        below = host_low start all e es moment;
        signal = n.signal e;
        there =
            subst (λ log. IsIn (n.signal e) (taken n x.from.0 log)) (sym (own_log start all e es moment))
            (taken_own n x.from.0 (old e.host) e unasked refl);
        tells = subst Tells (sym is) tells;
      }
