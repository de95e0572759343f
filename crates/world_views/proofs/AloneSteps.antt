-- A step of one host, as it is told of logs and links.
use Rattle.std.proofs.Common.{◌≡◌, ◌≢◌, inl, inr, ℕ, ◌<◌, List, ◌∷◌, length, false, sym, ap, subst, ◌∙◌, arith}
use Rattle.std.specs.Prelude.{Some}
use Rattle.run_theory.specs.Lists.{IsIn}
use Rattle.sig_core.specs.declared.log.HostLog.{HostLog}
use Rattle.sig_core.specs.declared.log.LogStep.{LogStep}
use Rattle.sig_core.specs.declared.outcome.StopCause.TheVariants.{Disk}
use Rattle.sig_core.specs.declared.signal.Signal.{Signal}
use Rattle.sig_core.specs.Step.{Step}
use Rattle.node_views.specs.declared.host_body.HostBody.{HostBody}
use Rattle.world_core.specs.Steps.{Addressed, HostStep}
use Rattle.world_core.specs.World.{logs_at, of_host, with_step}
use Rattle.world_core.proofs.LogIndex.{logs_at_other, logs_at_own}
use Rattle.world_views.specs.Disks.{GoesAlone, HasOneMore}
use Rattle.world_views.specs.Links.{link}
use Rattle.world_views.specs.Machine.{own_stop}
use Rattle.world_views.specs.Sending.{is_asked}
use Rattle.world_views.specs.World.{Whole, entered, step_made}
use Rattle.world_views.proofs.Entered.{entered_by}

-- no list is one longer than itself
pub longer : {A : Type 0} (x : A) (xs ys : List A) → ys ≡ xs → ys ≡ x ∷ xs → ⊥
longer x xs ys same more = omega (arith, ap length same, ap length more)

-- a host that is there makes a step
pub makes_one : (w t : Whole) (h : ℕ) (e : LogStep) → h < length w.logs → t.logs ≡ with_step w.logs h e
    → HasOneMore (logs_at w.logs h) (logs_at t.logs h)
makes_one w t h e there is =
    (of_host h e, ap (λ (logs : List HostLog). logs_at logs h) is ∙ logs_at_own w.logs h e there)

-- and nothing else
pub one_more : (w t : Whole) (h : ℕ) (e : LogStep) → h < length w.logs → t.logs ≡ with_step w.logs h e
    → ((i j : ℕ) (x : Signal) → i ≢ h → IsIn x (link t.links i j).signals → IsIn x (link w.links i j).signals)
    → (is_asked h e.taken ≡ false → IsIn e.taken (link w.links e.taken.from.0 h).signals)
    → ((count : ℕ) → own_stop h e.taken ≡ Some (Disk count) → ⊥)
    → GoesAlone w h t
one_more w t h e there is links taken unfailed =
    record {
      own = inr (of_host h e, own);
      others = λ k apart. ap (λ (logs : List HostLog). logs_at logs k) is ∙ logs_at_other w.logs h k e apart;
      links = λ i j x same on. links i j x (apart i same) on;
      taken = λ now more unasked.
          subst (λ (f : HostStep). IsIn f.step.taken (link w.links f.step.taken.from.0 h).signals) (newest now more)
          (taken (subst (λ (f : HostStep). is_asked h f.step.taken ≡ false) (sym (newest now more)) unasked));
      unfailed = λ now count more stops.
          unfailed count
          (subst (λ (f : HostStep). own_stop h f.step.taken ≡ Some (Disk count)) (sym (newest now more)) stops);
    }
  where
    own : logs_at t.logs h ≡ of_host h e ∷ logs_at w.logs h
    own = ap (λ (logs : List HostLog). logs_at logs h) is ∙ logs_at_own w.logs h e there

    newest : (now : HostStep) → logs_at t.logs h ≡ now ∷ logs_at w.logs h → of_host h e ≡ now
    newest now more = let lists : of_host h e ∷ logs_at w.logs h ≡ now ∷ logs_at w.logs h = sym own ∙ more in cc

    apart : (i : ℕ) → logs_at t.logs i ≡ logs_at w.logs i → i ≢ h
    apart i same at =
        longer (of_host h e) (logs_at w.logs h) (logs_at t.logs h)
        (subst (λ k. logs_at t.logs k ≡ logs_at w.logs k) at same) own

pub none_more : (w t : Whole) (h : ℕ) → t.logs ≡ w.logs
    → ((i j : ℕ) (x : Signal) → IsIn x (link t.links i j).signals → IsIn x (link w.links i j).signals)
    → GoesAlone w h t
none_more w t h is links =
    record {
      own = inl same;
      others = λ k apart. ap (λ (logs : List HostLog). logs_at logs k) is;
      links = λ i j x none on. links i j x on;
      taken = λ e more unasked. absurd (longer e (logs_at w.logs h) (logs_at t.logs h) same more);
      unfailed = λ e count more stops. longer e (logs_at w.logs h) (logs_at t.logs h) same more;
    }
  where
    same : logs_at t.logs h ≡ logs_at w.logs h
    same = ap (λ (logs : List HostLog). logs_at logs h) is

pub logs_of_entered : (w : Whole) (lost : ℕ) (x : Addressed) (t : Step HostBody)
    → (entered w lost x t).logs ≡ with_step w.logs x.to (step_made w x t)
logs_of_entered w lost x t = ap (λ (v : Whole). v.logs) (entered_by w lost x t)
