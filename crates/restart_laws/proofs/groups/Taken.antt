-- A well-formed signal of epochs that was taken was sent: so what is so of all that hosts send is so of it.
use Rattle.std.proofs.Common.{◌≡◌, ◌&&◌, ◌==◌, ◌∙◌, ℕ, Bool, true, false, List, ◌∷◌, refl, sym, subst, inl, ap}
use Rattle.run_theory.proofs.Cuts.{taken_past}
use Rattle.run_theory.proofs.Pasts.{in_past}
use Rattle.run_theory.proofs.Runs.{taken-step}
use Rattle.run_theory.specs.Links.{sent, taken}
use Rattle.run_theory.specs.Lists.{Each, IsIn, IsPast}
use Rattle.run_theory.specs.Machine.{Machine}
use Rattle.run_theory.specs.Runs.{AreLogs}
use Rattle.sig_core.specs.declared.signal.Body.{Body}
use Rattle.sig_core.specs.declared.signal.Body.TheVariants.{Epoch, Host}
use Rattle.sig_core.specs.declared.signal.Signal.{Signal}
use Rattle.sig_core.specs.declared.signal.epoch.EpochSignal.{EpochSignal}
use Rattle.sig_core.specs.declared.signal.host.HostSignal.TheVariants.{Closed}
use Rattle.node_views.specs.WellFormed.{is_well_formed}
use Rattle.world_core.specs.Start.{Start}
use Rattle.world_core.specs.Steps.{Addressed, HostStep}
use Rattle.world_views.specs.Sending.{is_asked, is_own_work}
use Rattle.view_laws.proofs.eras.SoundLogs.{sound_logs}
use Rattle.view_laws.specs.Order.{sound_machine}
use Rattle.view_laws.specs.Runs.{AreOfCluster}
use Rattle.moment_laws.proofs.MomentSignals.{IsClosed, neither}
use Rattle.commit_laws.proofs.orders.Sound.{given_so, sound_closes}

-- no host asks itself for it, and no link closes with it
unasked : (h : ℕ) (x : Signal) (signal : EpochSignal) → x.body ≡ Epoch signal → is_asked h x ≡ false
unasked h x signal is = by (x.from.0 == h)
  where
    by : (b : Bool) → (b && is_own_work x.body) ≡ false
    by true = ap is_own_work is
    by false = refl

not_closed : (body : Body) (signal : EpochSignal) → body ≡ Epoch signal → IsClosed body → ⊥
not_closed body signal is closed =
    let differ : Epoch signal ≡ Host (Closed closed.cause) = sym is ∙ closed.is in absurd cc

module _ (start : Start) (logs : ℕ → List HostStep) (are : AreOfCluster start logs) (K : ℕ → Addressed → Type 0)
    (all_so : (i j : ℕ) → Each (K i) (sent (sound_machine start) i j (logs i))) where
  abbrev n : Machine HostStep Addressed
  n = sound_machine start

  right : AreLogs (sound_machine start) logs
  right = sound_logs start are.nobody logs are.right

  pub taken_so : (h : ℕ) (log : List HostStep) (e : HostStep) → IsPast (e ∷ log) (logs h) → (signal : EpochSignal)
      → e.step.taken.body ≡ Epoch signal → is_well_formed start.shape e.step.taken ≡ true
      → K e.step.taken.from.0 ((sound_machine start).signal e)
  taken_so h log e past signal is sound =
      let from = e.step.taken.from.0 in
      let given : n.asked e ≡ false =
      neither (is_asked e.host e.step.taken) (is_well_formed start.shape e.step.taken)
      (unasked e.host e.step.taken signal is) sound in
      let newest : IsIn (n.signal e) (taken n from (e ∷ log)) =
      subst (IsIn (n.signal e)) (sym (taken-step n from e log given refl)) (inl refl) in
      given_so n (sound_closes start) (K from) from h (logs from) (taken n from (logs h)) (all_so from h)
      (right.linked from h) (n.signal e) (in_past (n.signal e) (taken_past n from past) newest)
      (not_closed e.step.taken.body signal is)
