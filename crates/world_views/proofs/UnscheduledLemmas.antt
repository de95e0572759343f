-- Where no schedule picks, no host stops, or cuts off a node, because one had it do so.
use Rattle.std.proofs.Common.{◌≡◌, inl, inr, ℕ, ◌+◌, ◌<◌, ◌≤◌, List, [], ◌∷◌, ◌++◌, Bool, true, false, refl, sym, ◌∙◌}
use Rattle.std.proofs.Common.{subst}
use Rattle.std.specs.Prelude.{◌==◌, if◌then◌else◌, max}
use Rattle.std.proofs.lemmas.Bool.{eqb-true, true≢false}
use Rattle.run_theory.proofs.Links.{given_more}
use Rattle.run_theory.specs.Links.{IsGiven}
use Rattle.sig_core.specs.declared.outcome.StopCause.{StopCause}
use Rattle.sig_core.specs.declared.outcome.StopCause.TheVariants.{Clock, Disk, Memory}
use Rattle.sig_core.specs.declared.reply.ApiReply.{ApiReply}
use Rattle.sig_core.specs.declared.signal.Body.{Body}
use Rattle.sig_core.specs.declared.signal.Body.TheVariants.{Host}
use Rattle.sig_core.specs.declared.signal.host.HostSignal.TheVariants.{Closed, Continue}
use Rattle.sig_core.specs.declared.signal.host.Work.TheVariants.{Request}
use Rattle.sig_core.specs.Step.{Step}
use Rattle.node_views.specs.declared.host_body.HostBody as node
use Rattle.node_views.specs.Row.{stopping}
use Rattle.world_core.specs.Hosts.{hosts}
use Rattle.world_core.specs.Start.{Start}
use Rattle.world_core.specs.Steps.{Addressed, HostStep}
use Rattle.world_core.specs.World.{logs_at, next_stamp}
use Rattle.world_views.specs.Links.{Arrival}
use Rattle.world_views.specs.Machine.{IsOwnCause, has_stopped, machine}
use Rattle.world_views.specs.Right.{IsRight}
use Rattle.world_views.specs.Schedule.{HasTaken, is_discarded, left_of, taken_if}
use Rattle.world_views.specs.Sending.{is_asked}
use Rattle.world_views.specs.Unscheduled.{AreUnscheduled, HasNoStamp, IsUnscheduled, IsWant}
use Rattle.world_views.specs.World.{HasFailed, HasHandled, Whole, body_at, entered, halted, handled_by, is_stamp}
use Rattle.world_views.specs.World.{with_body}
use Rattle.world_views.proofs.FailDriven.{bodies, fail_ready, wish}
use Rattle.world_views.proofs.MoveRight.{logs_are, running}
use Rattle.world_views.proofs.Ready.{IsReady, host_step}
use Rattle.world_views.proofs.TakeDriven.{arrived, handle_ready, step}
use Rattle.world_views.proofs.TakeFacts.{IsTakenFrom}
use Rattle.world_views.proofs.TakeRight.{fact, gives, on_open}

-- A host makes a step.
module _ (disks : Bool) (start : Start) (given : List ApiReply) (w : Whole) (lost : ℕ) (x : Addressed)
    (t : Step node.HostBody)
    (ready : IsReady start given w x t) where
  abbrev new : ℕ → List HostStep
  new = logs_at (entered w lost x t).logs

  -- what a link may have given it still may
  given_still : (i j : ℕ) (xs : List Addressed) → IsGiven (machine start) i j (logs_at w.logs i) xs
      → IsGiven (machine start) i j (new i) xs
  given_still i j xs was =
      subst (λ (log : List HostStep). IsGiven (machine start) i j log xs)
      (sym (logs_are start given w lost x t ready i))
      (go (x.to == i) refl)
    where
      go : (b : Bool) → (x.to == i) ≡ b
          → IsGiven (machine start) i j (if b then host_step w x t ∷ logs_at w.logs i else logs_at w.logs i) xs
      go true same =
          given_more (machine start) i j (logs_at w.logs i) (host_step w x t) xs
          (running start (logs_at w.logs i)
          (subst (λ k. has_stopped (logs_at w.logs k) ≡ false) (eqb-true x.to i same) ready.runs)) was
      go false other = was

  -- what a host stopped for by itself it still did
  want_still : (h : ℕ) (log : List HostStep) (cause : StopCause) → IsWant disks start (logs_at w.logs) h log cause
      → IsWant disks start new h log cause
  want_still h log Memory is = tt
  want_still h log Clock is =
      record {
        from = is.from;
        signal = is.signal;
        given = given_still is.from h _ is.given;
        takes = is.takes;
        none = is.none;
      }
  want_still h log (Disk count) is = is
  want_still h log cause is = absurd is

  unscheduled_still : (h : ℕ) (log : List HostStep) (body : Body)
      → IsUnscheduled disks start (logs_at w.logs) h log body
      → IsUnscheduled disks start new h log body
  unscheduled_still h log (Host (Continue (Request request) at)) is = tt
  unscheduled_still h log (Host (Closed cause)) is = want_still h log cause is
  unscheduled_still h log body is = absurd is

  -- logs stay unscheduled by a step that is so
  pub entered_unscheduled
      : (is_asked x.to x.signal ≡ true → IsUnscheduled disks start new x.to (logs_at w.logs x.to) x.signal.body)
      → AreUnscheduled disks start (logs_at w.logs) → AreUnscheduled disks start new
  entered_unscheduled next was h newer e before is asks =
      go (x.to == h) refl newer (sym (logs_are start given w lost x t ready h) ∙ is)
    where
      go : (b : Bool) → (x.to == h) ≡ b → (newer : List HostStep)
          → (if b then host_step w x t ∷ logs_at w.logs h else logs_at w.logs h) ≡ newer ++ e ∷ before
          → IsUnscheduled disks start new h before e.step.taken.body
      go true same [] at =
          let here : x.to ≡ h = eqb-true x.to h same in
          let own : host_step w x t ≡ e = cc in
          let older : logs_at w.logs h ≡ before = cc in
          let asked : is_asked h x.signal ≡ true =
          subst (λ (d : HostStep). is_asked h d.step.taken ≡ true) (sym own) asks in
          subst (λ (log : List HostStep). IsUnscheduled disks start new h log e.step.taken.body) older
          (subst (λ (d : HostStep). IsUnscheduled disks start new h (logs_at w.logs h) d.step.taken.body) own
          (subst (λ k. IsUnscheduled disks start new k (logs_at w.logs k) x.signal.body) here
          (next (subst (λ k. is_asked k x.signal ≡ true) (sym here) asked))))
      go true same (n ∷ newer) at =
          let rest : logs_at w.logs h ≡ newer ++ e ∷ before = cc in
          unscheduled_still h before e.step.taken.body (was h newer e before rest asks)
      go false other newer at = unscheduled_still h before e.step.taken.body (was h newer e before at asks)

-- and by the stop of a host that wanted memory or stamps, or whose disk failed
pub failed_unscheduled : (disks : Bool) (start : Start) (given : List ApiReply) (w : Whole) → IsRight start given w
    → (h : ℕ)
    → h < hosts start → has_stopped (logs_at w.logs h) ≡ false → 1 ≤ h → (cause : StopCause) → IsOwnCause cause
    → IsWant disks start (logs_at w.logs) h (logs_at w.logs h) cause
    → (left : node.HostBody) → left.standing.cut ≡ (body_at w.bodies h).standing.cut
    → left.standing.view ≡ (body_at w.bodies h).standing.view → AreUnscheduled disks start (logs_at w.logs)
    → AreUnscheduled disks start (logs_at (halted (with_body w h left) h (body_at w.bodies h).standing.view cause
    0).logs)
failed_unscheduled disks start given w right h low runs some cause own wanted left cut view =
    let x = wish start given w right h low runs some cause own left cut view in
    let t = stopping (body_at (bodies start given w right h low runs some cause own left cut view) h) cause in
    let ready = fail_ready start given w right h low runs some cause own left cut view given right in
    entered_unscheduled disks start given (with_body w h left) 0 x t ready
    (λ asks. want_still disks start given (with_body w h left) 0 x t ready h (logs_at w.logs h) cause wanted)

-- A signal was taken from its link.
module _ (disks : Bool) (start : Start) (given : List ApiReply) (w : Whole) (right : IsRight start given w)
    (t : Arrival) (at : IsTakenFrom (hosts start) w.links t) (was : AreUnscheduled disks start (logs_at w.logs)) where
  abbrev x : Addressed
  x = arrived start given w right t at

  handled_unscheduled : (u : Whole) → is_discarded (left_of w t) x ≡ false → HasHandled (left_of w t) x u
      → AreUnscheduled disks start (logs_at u.logs)
  handled_unscheduled u kept = by (is_stamp (next_stamp w.stamps at.to at.signal.stamp)) refl
    where
      failed : (cause : StopCause) → IsOwnCause cause
          → IsWant disks start (logs_at w.logs) at.to (logs_at w.logs at.to) cause → 1 ≤ at.to
          → HasFailed (left_of w t) at.to cause u → AreUnscheduled disks start (logs_at u.logs)
      failed cause own wanted some is =
          subst (λ (v : Whole). AreUnscheduled disks start (logs_at v.logs)) (sym is.is)
          (failed_unscheduled disks start given w right at.to at.to_low (on_open start given w right t at kept).runs
          some cause own wanted is.left is.cut is.view was)

      -- there was no stamp for the step that takes it
      no_stamp : is_stamp (next_stamp w.stamps at.to at.signal.stamp) ≡ false
          → HasNoStamp start (logs_at w.logs) at.to (logs_at w.logs at.to)
      no_stamp none =
          record {
            from = at.from;
            signal = at.signal;
            given = gives start given w right t at kept;
            takes = (on_open start given w right t at kept).takes;
            none = subst (λ n. is_stamp (max n at.signal.stamp + 1) ≡ false) (right.stamps at.to at.to_low) none;
          }

      by : (b : Bool) → is_stamp (next_stamp w.stamps at.to at.signal.stamp) ≡ b → handled_by b (left_of w t) x u
          → AreUnscheduled disks start (logs_at u.logs)
      by true e (inl same) =
          subst (λ (v : Whole). AreUnscheduled disks start (logs_at v.logs)) (sym same)
          (entered_unscheduled disks start given (left_of w t) 0 x (step start given w right t at)
          (handle_ready start given w right t at kept given right)
          (λ asks. absurd (true≢false (sym asks ∙ (fact start given w right t at kept).plain))) was)
      by true e (inr is) = failed Memory tt tt is.0 is.1
      by false e is = failed Clock tt (no_stamp e) is.0 is.1

  -- whatever became of it
  pub taken_unscheduled : (u : Whole) → HasTaken (left_of w t) t.taken u → AreUnscheduled disks start (logs_at u.logs)
  taken_unscheduled u taken =
      go (is_discarded (left_of w t) x) refl (subst (λ (y : Addressed). HasTaken (left_of w t) y u) at.is taken)
    where
      go : (b : Bool) → is_discarded (left_of w t) x ≡ b → taken_if b (left_of w t) x u
          → AreUnscheduled disks start (logs_at u.logs)
      go true lost same = subst (λ (v : Whole). AreUnscheduled disks start (logs_at v.logs)) (sym same) was
      go false kept handled = handled_unscheduled u kept handled
