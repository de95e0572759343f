-- What a step of a host comes to for its blocks: where they come to, where the host stands then, and what they send.
use Rattle.std.proofs.Common.{◌≡◌, ◌≤◌, ◌&&◌, ℕ, zero, suc, Bool, true, false, nat_lt, List, [], ◌∷◌, refl, sym, subst}
use Rattle.std.proofs.Common.{inl, inr, arith}
use Rattle.std.proofs.lemmas.Bool.{ltb-false, ltb-true, true≢false}
use Rattle.std.proofs.lemmas.List.{append-nil}
use Rattle.std.specs.Prelude.{◌++◌, Option, None, Some}
use Rattle.sig_core.specs.declared.outcome.StopCause.{StopCause}
use Rattle.sig_core.specs.declared.outs.Outgoing.{Outgoing}
use Rattle.sig_core.specs.declared.signal.Signal.{Signal}
use Rattle.sig_core.specs.declared.view.View.{View}
use Rattle.sig_core.specs.Step.{Step}
use Rattle.node_views.specs.Blocks.{fence_at, parts_entered, parts_row}
use Rattle.node_views.specs.declared.host_body.HostBody as hosts
use Rattle.node_views.specs.declared.parts.Parts.{Parts}
use Rattle.node_views.specs.Fence.{is_fenced}
use Rattle.node_views.specs.Row.{entered, host_row, is_barred, taken_if}
use Rattle.node_views.specs.WellFormed.{is_well_formed}
use Rattle.world_core.specs.Start.{NobodyStarts, Start}
use Rattle.world_core.specs.Steps.{HostStep}
use Rattle.world_views.specs.Machine.{after, own_stop, step_after, step_by, step_if}
use Rattle.view_laws.specs.Runs.{view_after}
use Rattle.view_laws.proofs.eras.Shapes.{shape_stays}
use Rattle.moment_laws.specs.Parts.{Enters, IsPassed, PartsDo, enters, leaves, settles, stays, takes}
use Rattle.world_views.proofs.StepWalk.{IsTaken, Saying, step_comes}

-- what isn't barred is of no view below the fence, if it is of a kind that fences stop
pub not_barred : (s : hosts.HostBody) (x : Signal) → is_barred s x ≡ false → is_fenced x ≡ true
    → fence_at s.parts x.to.block s.standing.view.number ≤ x.view.number
not_barred s x clear is = by (is_fenced x) clear is
  where
    fence : ℕ
    fence = fence_at s.parts x.to.block s.standing.view.number

    by : (fenced : Bool) → (fenced && nat_lt x.view.number fence) ≡ false → fenced ≡ true → fence ≤ x.view.number
    by true clear is = ltb-false x.view.number fence clear
    by false clear is = absurd (true≢false (sym is))

module _ (s : hosts.HostBody) (x : Signal) where
  abbrev Does : Saying
  Does seen now sends = PartsDo s.standing.shape s.parts s.standing.view x now seen sends

  abbrev DoesBy : Step hosts.HostBody → Type 0
  DoesBy t = Does t.state.standing.view t.state.parts t.effects.sends

  module _ (between : Parts) (stood : View) (front : List Outgoing)
      (entering : Enters s.parts s.standing.view x between stood front)
    where
      -- the signal is left alone behind it
      left : Does stood between front
      left = record {
        between = between;
        stood = stood;
        front = front;
        enters = entering;
        rest = [];
        takes = leaves refl refl refl;
        sent = inl (sym (append-nil front));
      }

      -- or the blocks take it
      taken : IsPassed s.standing.shape between stood x → IsTaken Does x stood between front
      taken passed = record {
        row = λ none. record {
          between = between;
          stood = stood;
          front = front;
          enters = entering;
          rest = (parts_row between x).effects.sends;
          takes = takes passed none refl refl refl;
          sent = inl refl;
        };
        settles = λ view is. record {
          between = between;
          stood = stood;
          front = front;
          enters = entering;
          rest = (parts_row between x).effects.sends
              ++ (parts_entered (parts_row between x).state view).effects.sends;
          takes = settles passed is refl refl;
          sent = inl refl;
        };
      }

  same : Enters s.parts s.standing.view x s.parts s.standing.view []
  same = stays refl refl refl

  -- a host that stops sends nothing
  hushed_does : (view : View) (parts : Parts) (sends : List Outgoing) → Does view parts sends → Does view parts []
  hushed_does view parts sends did = record {
    between = did.between;
    stood = did.stood;
    front = did.front;
    enters = did.enters;
    rest = did.rest;
    takes = did.takes;
    sent = inr refl;
  }

  pub parts_do : (h : ℕ) → PartsDo s.standing.shape s.parts s.standing.view x (step_by h s x).state.parts
      (step_by h s x).state.standing.view (step_by h s x).effects.sends
  unfolding entered host_row
  parts_do h = by (is_well_formed s.standing.shape x) refl
    where
      newer : nat_lt s.standing.view.number x.view.number ≡ true
          → Enters s.parts s.standing.view x (parts_entered s.parts x.view).state x.view
          (parts_entered s.parts x.view).effects.sends
      newer is = enters (ltb-true s.standing.view.number x.view.number is) refl refl refl

      -- one that isn't well formed changes nothing
      unsound : is_well_formed s.standing.shape x ≡ false → (o : Option StopCause) → DoesBy (step_if s x o)
      unsound is (Some cause) = left s.parts s.standing.view [] same
      unsound is None =
          subst (λ sound. DoesBy (taken_if s x sound)) (sym is) (left s.parts s.standing.view [] same)

      by : (sound : Bool) → is_well_formed s.standing.shape x ≡ sound → DoesBy (step_by h s x)
      by false is = unsound is (own_stop h x)
      by true is =
          step_comes Does x h s (record {
            stays = left s.parts s.standing.view [] same;
            hushed = hushed_does;
            goes = λ old barred.
                taken s.parts s.standing.view [] same
                (record {
                  sound = is;
                  low = ltb-false s.standing.view.number x.view.number old;
                  fresh = not_barred s x barred;
                });
            enters = λ above among.
                left (parts_entered s.parts x.view).state x.view (parts_entered s.parts x.view).effects.sends
                (newer above);
            behind = λ above among barred.
                taken (parts_entered s.parts x.view).state x.view (parts_entered s.parts x.view).effects.sends
                (newer above)
                (record {
                  sound = is;
                  low = omega arith;
                  fresh = not_barred (entered s x.view).state x barred;
                });
          })

-- so it is along a log: the shell's host tells its replies behind its step
module _ (start : Start) (nobody : NobodyStarts start) where
  pub step_do : (h : ℕ) (log : List HostStep) (e : HostStep)
      → PartsDo start.shape (after start h log).parts (view_after start h log) e.step.taken
      (step_after start h log e).state.parts (step_after start h log e).state.standing.view
      (step_after start h log e).effects.sends
  step_do h log e =
      subst
      (λ shape. PartsDo shape (after start h log).parts (view_after start h log) e.step.taken
      (step_after start h log e).state.parts (step_after start h log e).state.standing.view
      (step_after start h log e).effects.sends)
      (shape_stays start nobody h log) (parts_do (after start h log) e.step.taken h)

  pub after_do : (h : ℕ) → 1 ≤ h → (log : List HostStep) (e : HostStep)
      → PartsDo start.shape (after start h log).parts (view_after start h log) e.step.taken
      (after start h (e ∷ log)).parts (view_after start h (e ∷ log)) (step_after start h log e).effects.sends
  after_do zero some log e = absurd (omega (arith, some))
  after_do (suc h) some log e = step_do (suc h) log e
