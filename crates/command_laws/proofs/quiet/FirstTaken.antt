-- Where the request's own step sends one signal, the first further step of any other host takes that.
use Rattle.std.proofs.Common.{◌≡◌, ◌≢◌, ◌⊎◌, ◌<◌, ℕ, List, [], ◌∷◌, ◌++◌, refl, sym, ap, ◌∙◌, subst, inl, inr, arith}
use Rattle.std.proofs.lemmas.Bool.{cases_eq}
use Rattle.std.proofs.Math.Path.{fun_ext}
use Rattle.run_theory.proofs.Growth.{along_cuts}
use Rattle.run_theory.proofs.Pasts.{past_self, past_trans}
use Rattle.run_theory.proofs.Runs.{log_of-other, log_of-own, log_of-past}
use Rattle.run_theory.specs.Cuts.{IsCut}
use Rattle.run_theory.specs.Links.{taken}
use Rattle.run_theory.specs.Lists.{IsPast}
use Rattle.run_theory.specs.Machine.{Machine}
use Rattle.run_theory.specs.Runs.{Happens, Run, log_of}
use Rattle.sig_core.specs.declared.outs.Outgoing.{Outgoing}
use Rattle.sig_core.specs.declared.request.ApiReq.{ApiReq}
use Rattle.node_core.specs.Requests.{is_request}
use Rattle.world_core.proofs.Stamped.{stamped}
use Rattle.world_core.specs.Hosts.{first_membership, host_for, first_hosts}
use Rattle.world_core.specs.Machine.{addressed, machine, sent_count, step_after}
use Rattle.world_core.specs.Start.{Start}
use Rattle.world_core.specs.Steps.{Addressed, HostStep}
use Rattle.command_laws.proofs.quiet.First.{IsFirst, with_first}
use Rattle.command_laws.proofs.quiet.OneAtATime.{IsNext, IsUnderWay, asked_all, cut_first, goes_under_way, longer}
use Rattle.command_laws.proofs.quiet.OneAtATime.{low_here, next_first, next_here, past_here, plain_here, source_here}
use Rattle.command_laws.proofs.quiet.OneAtATime.{takes_it}
use Rattle.command_laws.specs.Served.{IsServedBetween}

module _ (start : Start) (was now : ℕ → List HostStep) (asked : ApiReq) (served : IsServedBetween start was now asked)
    (f : IsFirst start was now asked) (out : Outgoing)
    (one : (step_after start 0 (was 0) f.first).effects.sends ≡ out ∷ [])
    (there : host_for start out.to < first_hosts start) where
  abbrev m : Machine HostStep Addressed
  m = machine start

  -- nothing more is said of the signal, nor of the end
  abbrev P : Addressed → (ℕ → List HostStep) → Type 0
  P x logs = Unit {0}

  abbrev D : (ℕ → List HostStep) → Type 0
  D logs = Unit {0}

  abbrev dest : ℕ
  dest = host_for start out.to

  at_shell : f.first.host ≡ 0
  at_shell = (f.right.local 0).0.at

  first_low : f.first.host < first_hosts start
  first_low = omega (arith, at_shell)

  next : IsNext was (with_first was f.first) f.first
  next = next_first start P D was now asked served f at_shell

  one_there : (step_after start f.first.host (was f.first.host) f.first).effects.sends ≡ out ∷ []
  one_there = subst (λ h. (step_after start h (was h) f.first).effects.sends ≡ out ∷ []) (sym at_shell) one

  -- the signal
  abbrev x : Addressed
  x = addressed (first_membership start) f.first.host f.first.step.stamp
      (sent_count start f.first.host (was f.first.host) (host_for start out.to)) out

  under_way : IsUnderWay start (with_first was f.first) x
  under_way =
      goes_under_way start P D was (with_first was f.first) f.first next first_low out one_there
      (asked_all start P D was (with_first was f.first) f.first next first_low (ap is_request f.body)
      served.before.quiet)
      there

  -- the first further step of the host that it goes to took it
  pub record IsTaken (logs : ℕ → List HostStep) : Type 0 where
    pub newer : List HostStep
    pub step : HostStep
    pub is : logs (host_for start out.to) ≡ newer ++ step ∷ with_first was f.first (host_for start out.to)
    pub to : step.step.taken.to ≡ out.to
    pub body : step.step.taken.body ≡ out.body

  abbrev IsStill : (ℕ → List HostStep) → Type 0
  IsStill logs = (h : ℕ) → logs h ≡ with_first was f.first h

  record Goes (logs : ℕ → List HostStep) : Type 0 where
    since : IsPast (f.first ∷ was 0) (logs 0)
    taken_so : IsCut logs now → IsStill logs ⊎ IsTaken logs

  module _ (es : List HostStep) (e : HostStep) (run : Run m es) (happens : Happens m es e)
      (since : IsPast (f.first ∷ was 0) (log_of m es 0)) (cut : IsCut (log_of m (e ∷ es)) now) where
    takes_first : IsStill (log_of m es) → IsTaken (log_of m (e ∷ es))
    takes_first same =
        let way : IsUnderWay start (log_of m es) x =
        subst (λ logs. IsUnderWay start logs x) (sym (fun_ext same)) under_way in
        let takes = takes_it start P D (log_of m es) (log_of m (e ∷ es)) e
        (next_here start P D was now asked served f at_shell es e run happens since cut)
        (low_here start P D was now asked served f at_shell es e run happens since cut)
        (plain_here start P D was now asked served f at_shell es e run happens since cut)
        (source_here start P D was now asked served f at_shell es e run happens since cut)
        (past_here start P D was now asked served f at_shell es e run happens since cut) x way in
        let at : e.host ≡ dest = ap (λ (z : Addressed). z.to) takes in
        record {
          newer = [];
          step = e;
          is = log_of-own m e es dest at ∙ ap (λ log. e ∷ log) (same dest);
          to = ap (λ (z : Addressed). z.signal.to) takes;
          body = ap (λ (z : Addressed). z.signal.body) takes;
        }

    taken_next : IsStill (log_of m es) ⊎ IsTaken (log_of m es) → IsTaken (log_of m (e ∷ es))
    taken_next (inl same) = takes_first same
    taken_next (inr t) = by (cases_eq e.host dest)
      where
        by : (e.host ≡ dest) ⊎ (e.host ≢ dest) → IsTaken (log_of m (e ∷ es))
        by (inl at) = record {
          newer = e ∷ t.newer;
          step = t.step;
          is = log_of-own m e es dest at ∙ ap (λ log. e ∷ log) t.is;
          to = t.to;
          body = t.body;
        }
        by (inr apart) = record {
          newer = t.newer;
          step = t.step;
          is = log_of-other m e es dest apart ∙ t.is;
          to = t.to;
          body = t.body;
        }

  goes_step : (es : List HostStep) (e : HostStep) → Run m es → Happens m es e → Goes (log_of m es)
      → Goes (log_of m (e ∷ es))
  goes_step es e run happens goes = record {
    since = past_trans goes.since (log_of-past m e es 0);
    taken_so = λ cut. inr
        (taken_next es e run happens goes.since cut (goes.taken_so (λ h. past_trans (log_of-past m e es h) (cut h))));
  }

  goes_now : Goes now
  goes_now =
      along_cuts m (stamped start) Goes goes_step (first_hosts start) (with_first was f.first) now served.since.within
      served.since.right f.right (cut_first start P D was now asked served f at_shell)
      (record { since = past_self (f.first ∷ was 0); taken_so = λ cut. inl (λ h. refl) })

  -- at quiet it was taken
  pub first_taken : IsTaken now
  first_taken = by (goes_now.taken_so (λ h. past_self (now h)))
    where
      by : IsStill now ⊎ IsTaken now → IsTaken now
      by (inr t) = t
      by (inl same) =
          let way : IsUnderWay start now x = subst (λ logs. IsUnderWay start logs x) (sym (fun_ext same)) under_way in
          absurd (longer x (taken m x.signal.from.0 (now x.to))
          (subst (λ xs. IsPast xs (taken m x.signal.from.0 (now x.to)))
          (served.since.quiet x.signal.from.0 x.to way.from way.to ∙ way.ahead) (past_self _)))
