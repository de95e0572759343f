-- Along a run the view in the header of each signal is one in which some host stood.
use Rattle.std.proofs.Common.{◌≡◌, ◌<◌, ℕ, Bool, true, false, List, ◌∷◌, refl, sym, subst}
use Rattle.run_theory.proofs.Along.{along_signals_of_logs}
use Rattle.run_theory.proofs.Orders.{each_next}
use Rattle.run_theory.proofs.Pasts.{each_map, past_self, past_trans}
use Rattle.run_theory.proofs.Runs.{log_of-own, log_of-past}
use Rattle.run_theory.specs.Along.{Comes, IsKept}
use Rattle.run_theory.specs.Lists.{Each, IsPast}
use Rattle.run_theory.specs.Runs.{IsWithin, log_of}
use Rattle.sig_core.specs.declared.view.View.{View}
use Rattle.world_core.specs.Hosts.{hosts}
use Rattle.world_core.specs.Start.{NobodyStarts, Start}
use Rattle.world_core.specs.Steps.{Addressed, HostStep}
use Rattle.world_views.proofs.SentFacts.{is_stamped}
use Rattle.world_core.proofs.MadeFirst.{all_made}
use Rattle.world_views.specs.Machine.{comes_rightly, machine, signals_of}
use Rattle.world_views.specs.Sending.{is_asked}
use Rattle.view_laws.specs.Runs.{WasInstalled, view_after}
use Rattle.view_laws.specs.Standing.{HeadersAreInstalled}
use Rattle.view_laws.proofs.follow.Senders.{each_from, own_view}
use Rattle.view_laws.proofs.runs.Step.{host_there}
use Rattle.view_laws.proofs.runs.ChosenViews.{of_greater, within_less}

module _ (start : Start) where
  -- what was installed in logs was so in longer ones
  pub installed_more : NobodyStarts start → (old new : ℕ → List HostStep) → ((h : ℕ) → IsPast (old h) (new h))
      → (view : View)
      → WasInstalled start old view → WasInstalled start new view
  installed_more nobody old new more view was = record {
    host = was.host;
    there = was.there;
    made = all_made start nobody was.host (new 0);
    log = was.log;
    past = past_trans was.past (more was.host);
    is = was.is;
  }

  -- a host stood in the view, after a part of its log
  pub installed_at : NobodyStarts start → (logs : ℕ → List HostStep) (h : ℕ) → h < hosts start → (log : List HostStep)
      → IsPast log (logs h)
      → WasInstalled start logs (view_after start h log)
  installed_at nobody logs h low log past = record {
    host = h;
    there = low;
    made = all_made start nobody h (logs 0);
    log = log;
    past = past;
    is = refl;
  }

  -- so it is with what was taken in logs of the hosts that there are, and with each signal on its way
  abbrev pub AreInstalled : (ℕ → List HostStep) → Type 0
  AreInstalled logs =
      IsWithin (hosts start) logs → (h : ℕ)
      → Each (λ (e : HostStep). WasInstalled start logs e.step.taken.view) (logs h)

  abbrev pub HasInstalled : Addressed → (ℕ → List HostStep) → Type 0
  HasInstalled x logs = IsWithin (hosts start) logs → WasInstalled start logs x.signal.view

  module _ (nobody : NobodyStarts start) (es : List HostStep) (e : HostStep)
      (come : Comes (machine start) HasInstalled AreInstalled es e)
      (within : IsWithin (hosts start) (log_of (machine start) (e ∷ es)))
    where
      abbrev old : ℕ → List HostStep
      old = log_of (machine start) es

      abbrev new : ℕ → List HostStep
      new = log_of (machine start) (e ∷ es)

      pub old_taken : WasInstalled start old e.step.taken.view
      old_taken = by (is_asked e.host e.step.taken) refl come.happens.step.fits.comes
        where
          by : (asked : Bool) → is_asked e.host e.step.taken ≡ asked
              → comes_rightly asked start e.host (old e.host) e.step.taken → WasInstalled start old e.step.taken.view
          by true is own =
              subst (WasInstalled start old) (sym (own_view start e.host (old e.host) e.step.taken own))
              (installed_at nobody old e.host (host_there start e es within) (old e.host) (past_self (old e.host)))
          by false is uncut = come.told is (within_less start e es within)

      more : (h : ℕ) → IsPast (old h) (new h)
      more = log_of-past (machine start) e es

      new_taken : WasInstalled start new e.step.taken.view
      new_taken = installed_more nobody old new more e.step.taken.view old_taken

      each_now : (h : ℕ) → Each (λ (e : HostStep). WasInstalled start new e.step.taken.view) (new h)
      each_now h =
          each_next (machine start) (λ (e : HostStep). WasInstalled start new e.step.taken.view) es e h new_taken
          (each_map _ _ (old h) (λ f was. installed_more nobody old new more f.step.taken.view was)
          (come.all.law (within_less start e es within) h))

      -- the view in which the host stands behind the step
      view_now : WasInstalled start new (view_after start e.host (e ∷ old e.host))
      view_now =
          installed_at nobody new e.host (host_there start e es within) (e ∷ old e.host)
          (subst (IsPast (e ∷ old e.host)) (sym (log_of-own (machine start) e es e.host refl))
          (past_self (e ∷ old e.host)))

  pub kept : NobodyStarts start → IsKept (machine start) HasInstalled AreInstalled
  kept nobody = record {
    start = λ within h. tt;
    step = λ es e come within. each_now nobody es e come within;
    sends = λ es e come runs.
        each_map _ (λ (x : Addressed). HasInstalled x (log_of (machine start) (e ∷ es)))
        (signals_of start e.host (log_of (machine start) es e.host) e)
        (λ x one within.
        subst (WasInstalled start (log_of (machine start) (e ∷ es))) (sym one.view_is)
        (view_now nobody es e come within))
        (each_from start e.host (log_of (machine start) es e.host) e);
    closing = λ es e come stops j within.
        of_greater (WasInstalled start (log_of (machine start) (e ∷ es)))
        (view_after start e.host (e ∷ log_of (machine start) es e.host)) e.step.taken.view
        (view_now nobody es e come within)
        (new_taken nobody es e come within);
    stays = λ es e x come is within.
        installed_more nobody (log_of (machine start) es) (log_of (machine start) (e ∷ es))
        (log_of-past (machine start) e es)
        x.signal.view (is (within_less start e es within));
  }

pub headers_installed : HeadersAreInstalled
headers_installed start logs are h low =
    (along_signals_of_logs (machine start) (is_stamped start) (HasInstalled start) (AreInstalled start)
    (kept start are.nobody)
    (hosts start) logs are.within are.right).law
    are.within h
