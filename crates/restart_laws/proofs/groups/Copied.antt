-- What a disk was told to note as durable was ordered, and so was saved at each full member of a view.
use Rattle.std.proofs.Common.{◌≡◌, ◌<◌, ◌&&◌, ◌∙◌, ℕ, Bool, true, false, List, [], ◌∷◌, refl, sym, ap}
use Rattle.std.proofs.Common.{subst, inl, inr}
use Rattle.std.proofs.lemmas.Bool.{and_parts}
use Rattle.std.specs.Prelude.{not, Option, None, Some}
use Rattle.run_theory.proofs.Pasts.{past_less}
use Rattle.run_theory.specs.Links.{sent}
use Rattle.run_theory.specs.Lists.{Each, IsPast}
use Rattle.sig_core.specs.Journal.{OutletState}
use Rattle.sig_core.specs.declared.signal.Body.TheVariants.{Epoch}
use Rattle.sig_core.specs.declared.signal.Signal.{Signal}
use Rattle.sig_core.specs.declared.signal.epoch.EpochSignal.TheVariants.{CopyGciReq}
use Rattle.node_views.specs.declared.host_body.HostBody as hosts
use Rattle.node_views.specs.Row.{is_barred}
use Rattle.node_views.specs.Saving.{outlet_of, saved_by}
use Rattle.node_views.specs.WellFormed.{is_well_formed}
use Rattle.world_core.specs.Start.{Start}
use Rattle.world_core.specs.Steps.{Addressed, HostStep}
use Rattle.world_views.specs.Machine.{after}
use Rattle.view_laws.proofs.eras.Shapes.{shape_stays}
use Rattle.view_laws.specs.Order.{sound_machine}
use Rattle.view_laws.specs.Runs.{AreOfCluster}
use Rattle.moment_laws.proofs.MomentRuns.{are_moments}
use Rattle.closing_laws.proofs.settled.Cuts.{events_of, logs_are}
use Rattle.disk_world.specs.Keeping.{DurableAt, durable_if, kept_beside, todo_in}
use Rattle.disk_laws.specs.Noted.{WasNoted}
use Rattle.disk_laws.proofs.NotedSignals.{body_says, no_durable}
use Rattle.saved_laws.specs.Copied.{CopiedWereSaved, IsOfSaved}
use Rattle.restart_laws.proofs.groups.Taken.{taken_so}

-- a step that notes an epoch took a well-formed signal that orders it
record OrdersIt (well : Signal → Bool) (x : Signal) (epoch mask : ℕ) : Type 0 where
  sound : well x ≡ true
  body : x.body ≡ Epoch (CopyGciReq epoch mask)

orders : (s : hosts.HostBody) (x : Signal) (epoch mask : ℕ)
    → kept_beside (outlet_of s.parts) s (Some x) ≡ DurableAt epoch mask
    → OrdersIt (is_well_formed s.standing.shape) x epoch mask
orders s x epoch mask = by (outlet_of s.parts)
  where
    test : (b : Bool) → (is_well_formed s.standing.shape x && not (is_barred s x)) ≡ b
        → durable_if b x ≡ DurableAt epoch mask → OrdersIt (is_well_formed s.standing.shape) x epoch mask
    test true passes is = record {
      sound = (and_parts (is_well_formed s.standing.shape x) (not (is_barred s x)) passes).0;
      body = body_says x.body epoch mask is;
    }
    test false passes is = absurd cc

    by : (o : Option OutletState) → kept_beside o s (Some x) ≡ DurableAt epoch mask
        → OrdersIt (is_well_formed s.standing.shape) x epoch mask
    by (Some redo) is = absurd (no_durable (saved_by s.parts) redo (todo_in s (Some x)) epoch mask is)
    by None is = test (is_well_formed s.standing.shape x && not (is_barred s x)) refl is

module _ (copied : CopiedWereSaved) (start : Start) (logs : ℕ → List HostStep) (are : AreOfCluster start logs)
    (begins : start.start_epoch < start.epoch) where
  abbrev WasSaved : ℕ → Addressed → Type 0
  WasSaved i y = (epoch mask : ℕ) → y.signal.body ≡ Epoch (CopyGciReq epoch mask) → IsOfSaved start logs epoch mask

  sent_saved : (i j : ℕ) → Each (WasSaved i) (sent (sound_machine start) i j (logs i))
  sent_saved i j =
      subst
      (λ (ls : ℕ → List HostStep). Each (λ (y : Addressed). (epoch mask : ℕ)
      → y.signal.body ≡ Epoch (CopyGciReq epoch mask) → IsOfSaved start ls epoch mask)
      (sent (sound_machine start) i j (ls i)))
      (logs_are start logs are)
      (copied start logs (events_of start logs) begins (are_moments start logs are) i j)

  -- so what a disk was told to note
  pub noted_saved : (h : ℕ) (log : List HostStep) → IsPast log (logs h) → (epoch mask : ℕ)
      → WasNoted start h log epoch mask → IsOfSaved start logs epoch mask
  noted_saved h [] past epoch mask was = absurd was
  noted_saved h (e ∷ log) past epoch mask (inr was) = noted_saved h log (past_less e past) epoch mask was
  noted_saved h (e ∷ log) past epoch mask (inl now) =
      of_orders (orders (after start h (e ∷ log)) e.step.taken epoch mask now.1)
    where
      of_orders : OrdersIt (is_well_formed (after start h (e ∷ log)).standing.shape) e.step.taken epoch mask
          → IsOfSaved start logs epoch mask
      of_orders took =
          taken_so start logs are WasSaved sent_saved h log e past (CopyGciReq epoch mask) took.body
          (ap (λ shape. is_well_formed shape e.step.taken) (sym (shape_stays start are.nobody h (e ∷ log)))
          ∙ took.sound) epoch
          mask took.body
