-- A member's host of epochs tells by its log: of a system slot that is told as written the log noted the epoch.
use Rattle.std.proofs.Common.{◌≡◌, ◌≤◌, ◌⊎◌, ◌++◌, ◌&&◌, inl, inr, ℕ, List, [], ◌∷◌, Bool, true, false, nat_lt, refl}
use Rattle.std.proofs.Common.{sym, ap, subst, ◌∙◌, arith}
use Rattle.std.proofs.lemmas.Bool.Decides.{nat_tests}
use Rattle.std.specs.Prelude.{not, Some}
use Rattle.run_theory.specs.Lists.{Each, IsIn}
use Rattle.run_theory.proofs.Pasts.{each_append, each_from, each_in, each_map}
use Rattle.sig_core.specs.declared.mark.Mark.TheVariants.{Stopped}
use Rattle.sig_core.specs.declared.member.Member.{Member}
use Rattle.sig_core.specs.declared.outs.Outgoing.{Outgoing}
use Rattle.sig_core.specs.declared.place.BlockId.TheVariants as block
use Rattle.sig_core.specs.declared.place.Part.TheVariants.{Tc}
use Rattle.sig_core.specs.declared.signal.Body.{Body}
use Rattle.sig_core.specs.declared.signal.Signal.{Signal}
use Rattle.sig_core.specs.declared.view.Shape.{Shape}
use Rattle.sig_core.specs.declared.view.View.{View}
use Rattle.node_views.specs.Blocks.{fence_at}
use Rattle.node_views.specs.declared.host_body.HostBody as node
use Rattle.node_views.specs.declared.parts.Parts.{Parts}
use Rattle.node_views.specs.declared.parts.Parts.TheVariants as part
use Rattle.node_views.specs.declared.tc_part.TcPart.{TcPart}
use Rattle.node_views.specs.Fence.{is_fenced}
use Rattle.node_views.specs.Parts.{tc_row}
use Rattle.node_views.specs.Row.{is_barred}
use Rattle.node_views.specs.Saving.{outlet_of}
use Rattle.node_views.specs.WellFormed.{is_well_formed}
use Rattle.node_views.specs.Words.{parts_marks}
use Rattle.world_core.specs.Start.{NobodyStarts, Start, made}
use Rattle.world_core.specs.Steps.{HostStep}
use Rattle.world_views.specs.Machine.{after, step_after, stops_by}
use Rattle.view_laws.specs.Runs.{view_after}
use Rattle.view_laws.proofs.eras.Shapes.{shape_stays}
use Rattle.moment_laws.specs.Parts.{IsPassed}
use Rattle.moment_laws.specs.PartSteps.{PartEnters, PartTakes, TcDoes, handles, ignores, installs, remains, tc_kind}
use Rattle.moment_laws.specs.Places.{tc_of}
use Rattle.moment_laws.proofs.MomentHosts.{part_some, tc_low}
use Rattle.request_laws.proofs.routes.Layouts.{runs_tc}
use Rattle.request_laws.proofs.routes.PartSteps.{own_tc}
use Rattle.disk_world.specs.Keeping.{DurableAt, durable_by, durable_if, kept_beside, kept_of}
use Rattle.saved_laws.specs.Copied.{TellsDurable}
use Rattle.disk_laws.specs.Noted.{NotesNow}
use Rattle.restart_laws.specs.Told.{IsNotedDurable, TellsNotedDurable}
use Rattle.saved_laws.proofs.behind.ButLast.{EachButLast, but_last_behind, but_last_map}
use Rattle.restart_laws.proofs.telling.Epochs.{Orders, TellOrders, TellsNone, TellsOrdered, none_ordered, none_told}
use Rattle.restart_laws.proofs.telling.Epochs.{tc_entered_none, tc_orders, tc_tells}
use Rattle.restart_laws.proofs.telling.Facts.{SaysSo, TellsByLog}

-- a signal goes on to these blocks still, whatever the view
record PassesStill (shape : Shape) (parts : Parts) (x : Signal) : Type 0 where
  sound : is_well_formed shape x ≡ true
  fresh : (number : ℕ) → (is_fenced x && nat_lt x.view.number (fence_at parts x.to.block number)) ≡ false

-- what the host does at a signal
module _ (shape : Shape) (p : TcPart) (view : View) (x : Signal) (now : Parts) (seen : View) (sends : List Outgoing)
    (did : TcDoes shape p view x now seen sends)
  where
    front_none : PartEnters tc_kind p view x did.between seen did.front → Each (SaysSo TellsNone) did.front
    front_none (remains same stands none) = subst (Each (SaysSo TellsNone)) (sym none) tt
    front_none (installs above same stands is) =
        subst (Each (SaysSo TellsNone)) (sym is) (tc_entered_none p x.view)

    rest_tells : PartTakes tc_kind shape did.between seen x did.own did.rest → TellOrders x did.rest
    rest_tells (ignores same none) = subst (TellOrders x) (sym none) (none_told x [] tt)
    rest_tells (handles passed same is) = subst (TellOrders x) (sym is) (tc_tells did.between x.to.block x)

    does_tell : TellOrders x sends
    does_tell = by did.sent
      where
        front : Each (SaysSo TellsNone) did.front
        front = front_none did.enters

        rest : TellOrders x did.rest
        rest = rest_tells did.takes

        by : (sends ≡ did.front ++ did.rest) ⊎ (sends ≡ []) → TellOrders x sends
        by (inl whole) = subst (TellOrders x) (sym whole) (record {
          all =
              each_append (SaysSo (TellsOrdered x)) did.front did.rest
              (each_map (SaysSo TellsNone) (SaysSo (TellsOrdered x)) did.front
              (λ sent is. none_ordered x sent.body is) front) rest.all;
          but_last = but_last_behind (SaysSo TellsNone) did.front did.rest front rest.but_last;
        })
        by (inr nothing) = subst (TellOrders x) (sym nothing) (none_told x [] tt)

    -- at an order nothing is told, or it goes on to the blocks as they are then
    passes_still : (epoch : ℕ) → Orders x epoch → Each (SaysSo TellsNone) did.rest ⊎ PassesStill shape now x
    passes_still epoch orders = by did.takes
      where
        taken : IsPassed shape (part.Tc did.between) seen x → did.own ≡ (tc_row did.between x.to.block x).state
            → did.rest ≡ (tc_row did.between x.to.block x).effects.sends
            → Each (SaysSo TellsNone) (tc_row did.between x.to.block x).effects.sends
            ⊎ ((x.to.block ≡ block.Dih) × ((tc_row did.between x.to.block x).state.dih.fence ≡ did.between.dih.fence))
            → Each (SaysSo TellsNone) did.rest ⊎ PassesStill shape now x
        taken passed same is (inl none) = inl (subst (Each (SaysSo TellsNone)) (sym is) none)
        taken passed same is (inr here) = inr (record {
          sound = passed.sound;
          fresh = λ number. whether number (is_fenced x) refl;
        })
          where
            fence_is : (number : ℕ) → fence_at now x.to.block number ≡ did.between.dih.fence
            fence_is number =
                ap (λ parts. fence_at parts x.to.block number) did.is
                ∙ ap (λ b. fence_at (part.Tc did.own) b number) here.0
                ∙ ap (λ (q : TcPart). q.dih.fence) same
                ∙ here.1

            whether : (number : ℕ) (b : Bool) → is_fenced x ≡ b
                → (b && nat_lt x.view.number (fence_at now x.to.block number)) ≡ false
            whether number false fenced = refl
            whether number true fenced =
                let low : did.between.dih.fence ≤ x.view.number =
                subst (λ b. fence_at (part.Tc did.between) b seen.number ≤ x.view.number) here.0 (passed.fresh fenced)
                in
                let same_fence = fence_is number in
                grind (arith, nat_tests, low, same_fence)

        by : PartTakes tc_kind shape did.between seen x did.own did.rest
            → Each (SaysSo TellsNone) did.rest ⊎ PassesStill shape now x
        by (ignores same none) = inl (subst (Each (SaysSo TellsNone)) (sym none) tt)
        by (handles passed same is) =
            taken passed same is (tc_orders did.between x.to.block x orders.ordered orders.mask orders.body)

    -- at an order none is told, or it still goes on
    orders_pass : (epoch : ℕ) → Orders x epoch → Each (SaysSo TellsNone) sends ⊎ PassesStill shape now x
    orders_pass epoch orders = by did.sent (passes_still epoch orders)
      where
        by : (sends ≡ did.front ++ did.rest) ⊎ (sends ≡ [])
            → Each (SaysSo TellsNone) did.rest ⊎ PassesStill shape now x
            → Each (SaysSo TellsNone) sends ⊎ PassesStill shape now x
        by (inl whole) (inl none) =
            inl (subst (Each (SaysSo TellsNone)) (sym whole)
            (each_append (SaysSo TellsNone) did.front did.rest (front_none did.enters) none))
        by (inr nothing) (inl none) = inl (subst (Each (SaysSo TellsNone)) (sym nothing) tt)
        by sent (inr passes) = inr passes

-- a host of epochs that stands so notes what such a signal orders
notes : (s : node.HostBody) (own : TcPart) (x : Signal) (epoch : ℕ) → s.parts ≡ part.Tc own → (orders : Orders x epoch)
    → PassesStill s.standing.shape s.parts x → kept_of s (Some x) ≡ DurableAt orders.ordered orders.mask
notes s own x epoch runs orders passes =
    ap (λ parts. kept_beside (outlet_of parts) s (Some x)) runs
    ∙ ap (λ b. durable_if (b && not (is_barred s x)) x) passes.sound
    ∙ ap (λ b. durable_if (not b) x) (passes.fresh s.standing.view.number)
    ∙ ap durable_by orders.body

module _ (start : Start) (nobody : NobodyStarts start) (member : Member) (there : IsIn member (made start)) where
  abbrev h : ℕ
  h = tc_of start member

  none_noted : (log : List HostStep) (body : Body) → TellsNone body → TellsNotedDurable start member log body
  none_noted log body none epoch tells = absurd (none epoch tells)

  module _ (log : List HostStep) (e : HostStep) where
    abbrev sends : List Outgoing
    sends = (step_after start h log e).effects.sends

    does : TcDoes start.shape (own_tc start nobody member there log e).own (view_after start h log) e.step.taken
        (after start h (e ∷ log)).parts (view_after start h (e ∷ log)) sends
    does = (own_tc start nobody member there log e).does

    tells : TellOrders e.step.taken sends
    tells =
        does_tell start.shape (own_tc start nobody member there log e).own (view_after start h log) e.step.taken
        (after start h (e ∷ log)).parts (view_after start h (e ∷ log)) sends does

    -- what is told of an order is noted with it, by a step that doesn't stop its host
    noted_now : stops_by e.step.marks ≡ false → (epoch : ℕ) → Orders e.step.taken epoch
        → PassesStill start.shape (after start h (e ∷ log)).parts e.step.taken
        → IsNotedDurable start member (e ∷ log) epoch
    noted_now runs epoch orders passes =
        let s = after start h (e ∷ log) in
        let still : PassesStill s.standing.shape s.parts e.step.taken =
        subst (λ shape. PassesStill shape s.parts e.step.taken) (sym (shape_stays start nobody h (e ∷ log))) passes
        in
        let now : NotesNow start h e log orders.ordered orders.mask =
        (runs, notes s does.own e.step.taken epoch does.is orders still)
        in
        inr (orders.ordered, (orders.mask, (inl now, orders.least)))

    says_noted : stops_by e.step.marks ≡ false → Each (SaysSo (TellsNotedDurable start member (e ∷ log))) sends
    says_noted runs =
        each_from (SaysSo (TellsNotedDurable start member (e ∷ log))) sends
        (λ sent among epoch told. one sent among epoch told)
      where
        one : (sent : Outgoing) → IsIn sent sends → (epoch : ℕ) → TellsDurable epoch sent.body
            → IsNotedDurable start member (e ∷ log) epoch
        one sent among epoch told =
            let orders = each_in (SaysSo (TellsOrdered e.step.taken)) sent sends tells.all among epoch told in
            by orders
            (orders_pass start.shape (own_tc start nobody member there log e).own (view_after start h log) e.step.taken
            (after start h (e ∷ log)).parts (view_after start h (e ∷ log)) sends does epoch orders)
          where
            by : Orders e.step.taken epoch
                → Each (SaysSo TellsNone) sends ⊎ PassesStill start.shape (after start h (e ∷ log)).parts e.step.taken
                → IsNotedDurable start member (e ∷ log) epoch
            by orders (inl none) = absurd (each_in (SaysSo TellsNone) sent sends none among epoch told)
            by orders (inr passes) = noted_now runs epoch orders passes

    -- nor is anything told before that
    says_before : EachButLast (SaysSo (TellsNotedDurable start member log)) sends
    says_before =
        but_last_map (SaysSo TellsNone) (SaysSo (TellsNotedDurable start member log)) sends
        (λ sent is. none_noted log sent.body is)
        tells.but_last

  -- so the host tells by its log
  pub epochs_tell_by_log : TellsByLog start h (TellsNotedDurable start member)
  epochs_tell_by_log = record {
    some = part_some start Tc member;
    low = tc_low start nobody member there;
    grows = λ log e body tells epoch told. grown log e epoch (tells epoch told);
    sends = says_noted;
    before = says_before;
    closings = λ log cause epoch told. absurd told;
    stops_none = λ log cause.
        ap (λ parts. parts_marks parts (Stopped cause)) (runs_tc start nobody member there log).runs;
  }
    where
      grown : (log : List HostStep) (e : HostStep) (epoch : ℕ) → IsNotedDurable start member log epoch
          → IsNotedDurable start member (e ∷ log) epoch
      grown log e epoch (inl first) = inl first
      grown log e epoch (inr (latest, (mask, (was, least)))) = inr (latest, (mask, (inr was, least)))
