-- A signal that was taken from its link drives its world, whatever became of it.
use Rattle.std.proofs.Common.{◌≡◌, ◌≤◌, inl, inr, ℕ, List, Bool, true, false, refl, sym, subst}
use Rattle.std.specs.Prelude.{if◌then◌else◌, ◌==◌, ◌&&◌, None}
use Rattle.std.proofs.lemmas.Bool.{true≢false}
use Rattle.sig_core.specs.declared.outcome.StopCause.TheVariants.{Clock, Memory}
use Rattle.sig_core.specs.declared.reply.ApiReply.{ApiReply}
use Rattle.sig_core.specs.declared.signal.Body.{Body}
use Rattle.sig_core.specs.declared.signal.Body.TheVariants.{Host}
use Rattle.sig_core.specs.declared.signal.Signal.{Signal}
use Rattle.sig_core.specs.declared.signal.host.HostSignal.TheVariants.{Closed}
use Rattle.sig_core.specs.Step.{Step}
use Rattle.sig_core.specs.declared.outcome.StopCause.{StopCause}
use Rattle.node_views.specs.declared.host_body.HostBody as node
use Rattle.world_core.specs.Hosts.{hosts}
use Rattle.world_core.specs.Right.{arriving}
use Rattle.world_core.specs.Start.{Start}
use Rattle.world_core.specs.Steps.{Addressed}
use Rattle.world_core.specs.World.{logs_at, next_stamp}
use Rattle.world_views.specs.Driven.{IsDriven}
use Rattle.world_views.specs.Links.{Arrival}
use Rattle.world_views.specs.Machine.{after, closes, IsOwnCause, own_stop, step_by}
use Rattle.world_views.specs.Right.{IsRight}
use Rattle.world_views.specs.Schedule.{HasTaken, is_discarded, left_of, taken_if}
use Rattle.world_views.specs.Sending.{is_asked, is_own_work}
use Rattle.world_views.specs.World.{body_at, handled_by, HasFailed, HasHandled, is_stamp, Whole}
use Rattle.world_views.proofs.FailDriven.{lost_driven}
use Rattle.world_views.proofs.Ready.{IsReady}
use Rattle.world_views.proofs.StepDriven.{entered_driven, grown_itself}
use Rattle.world_views.proofs.TakeFacts.{IsTakenFrom}
use Rattle.world_views.proofs.TakeRight.{discard_right, fact, on_open, row_step, take_ready, taking_shortens}

-- what closes no link isn't a host's own stop
closes_none : (work : Body) → is_own_work work ≡ false → closes work ≡ None
closes_none (Host (Closed cause)) e = absurd (true≢false e)
closes_none work e = refl

-- nor is what it didn't ask itself for
pub not_own : (h : ℕ) (x : Signal) → is_asked h x ≡ false → own_stop h x ≡ None
not_own h x e = go (x.from.0 == h) e
  where
    go : (b : Bool) → (b && is_own_work x.body) ≡ false → (if b then closes x.body else None) ≡ None
    go true e = closes_none x.body e
    go false e = refl

module _ (start : Start) (given : List ApiReply) (w : Whole) (right : IsRight start given w) (t : Arrival)
    (at : IsTakenFrom (hosts start) w.links t) where
  abbrev pub arrived : Addressed
  arrived = arriving at.to at.signal

  -- it was discarded
  discard_driven : is_discarded (left_of w t) arrived ≡ true → IsDriven start w (left_of w t)
  discard_driven lost =
      record {
        right = λ others was. discard_right start others w was t at lost;
        grown = grown_itself start given w right;
      }

  abbrev pub step : Step node.HostBody
  step = step_by at.to (body_at w.bodies at.to) at.signal

  -- its host is ready for its step, unless it is discarded
  pub handle_ready : is_discarded (left_of w t) arrived ≡ false → (others : List ApiReply) → IsRight start others w
      → IsReady start others (left_of w t) arrived step
  handle_ready kept others was =
      take_ready start others w was t at kept step
      (row_step at.to (after start at.to (logs_at w.logs at.to)) (body_at w.bodies at.to) at.signal
      (was.bodies at.to at.to_low (on_open start others w was t at kept).runs))

  -- it was handled
  handle_driven : (u : Whole) → (kept : is_discarded (left_of w t) arrived ≡ false) → HasHandled (left_of w t) arrived u
      → IsDriven start w u
  handle_driven u kept = by (is_stamp (next_stamp w.stamps at.to at.signal.stamp))
    where
      lost : (cause : StopCause) → IsOwnCause cause → 1 ≤ at.to → HasFailed (left_of w t) at.to cause u
          → IsDriven start w u
      lost cause own some failed =
          lost_driven start given w right at.to at.to_low (on_open start given w right t at kept).runs some cause own
          t.left
          at.from u at.from_low (taking_shortens start given w right t at) failed

      by : (b : Bool) → handled_by b (left_of w t) arrived u → IsDriven start w u
      by true (inl same) =
          subst (IsDriven start w) (sym same)
          (entered_driven start given w w.bodies t.left 0 arrived step right (handle_ready kept)
          (λ shell. (fact start given w right t at kept).plain))
      by true (inr failed) = lost Memory tt failed.0 failed.1
      by false failed = lost Clock tt failed.0 failed.1

  pub taken_driven : (u : Whole) → HasTaken (left_of w t) t.taken u → IsDriven start w u
  taken_driven u taken =
      go (is_discarded (left_of w t) arrived) refl (subst (λ (x : Addressed). HasTaken (left_of w t) x u) at.is taken)
    where
      go : (b : Bool) → is_discarded (left_of w t) arrived ≡ b → taken_if b (left_of w t) arrived u → IsDriven start w u
      go true lost same = subst (IsDriven start w) (sym same) (discard_driven lost)
      go false kept handled = handle_driven u kept handled

  -- a signal that a link gave is no stop that its host asked itself for
  pub taken_is_given : is_discarded (left_of w t) t.taken ≡ false → own_stop t.taken.to t.taken.signal ≡ None
  taken_is_given =
      subst (λ (x : Addressed). is_discarded (left_of w t) x ≡ false → own_stop x.to x.signal ≡ None) (sym at.is)
      (λ kept. not_own at.to at.signal (fact start given w right t at kept).plain)
