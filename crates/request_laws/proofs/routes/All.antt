-- At each moment all signals went where they are routed, and coordinators and rows have what they need for that.
use Rattle.std.proofs.Common.{◌≡◌, ◌≢◌, ◌⊎◌, ℕ, List, [], ◌∷◌, inl, inr, sym, ap, subst}
use Rattle.std.proofs.lemmas.Bool.{cases_eq}
use Rattle.run_theory.specs.Lists.{Each, IsIn}
use Rattle.run_theory.proofs.Pasts.{each_map}
use Rattle.run_theory.specs.Links.{sent}
use Rattle.sig_core.specs.declared.member.Member.{Member}
use Rattle.sig_core.specs.declared.signal.Body.{Body}
use Rattle.sig_core.specs.declared.view.View.{View}
use Rattle.node_views.specs.declared.host_body.HostBody as hosts
use Rattle.world_core.specs.Start.{NobodyStarts, Start, made}
use Rattle.world_core.specs.Steps.{HostStep}
use Rattle.world_views.specs.Machine.{step_after}
use Rattle.view_laws.specs.Order.{sound_machine}
use Rattle.view_laws.specs.Runs.{view_after}
use Rattle.moment_laws.specs.Moments.{IsMoment, logs_of}
use Rattle.moment_laws.specs.Places.{ldm_of, tc_of}
use Rattle.moment_laws.proofs.MomentHosts.{ldm_started}
use Rattle.moment_laws.proofs.MomentSignals.{EachSent, sent_next}
use Rattle.moment_laws.proofs.MomentTurns.{host_low}
use Rattle.moment_laws.proofs.MomentViews.{moment_less}
use Rattle.request_laws.specs.Blocks.{no_replica, rows_after, rows_in}
use Rattle.request_laws.specs.Orphans.{AllOrphans}
use Rattle.request_laws.specs.Phases.{CoordinatorStands}
use Rattle.request_laws.specs.Routed.{AllRouted, IsGivenUp, IsRoutedSignal, SignalsAreRouted, WasAskedIn, WasDrivenIn}
use Rattle.request_laws.specs.Routed.{layout_in}
use Rattle.request_laws.specs.Routes.{IsRouted, IsSentRouted}
use Rattle.request_laws.proofs.phases.Stands.{coordinators_stand}
use Rattle.request_laws.proofs.routes.BesideRows.{all_aside_routed}
use Rattle.request_laws.proofs.routes.OtherHosts.{CoordinatorHas, RowsHave, coordinator_elsewhere, rows_elsewhere}
use Rattle.request_laws.proofs.routes.OtherHosts.{signal_stays}
use Rattle.request_laws.proofs.routes.Headers.{sent_so}
use Rattle.request_laws.proofs.routes.Hosts.{PartHost, beside_sends, coordinates, is_beside, keeps_rows, part_host}
use Rattle.request_laws.proofs.orphans.TakeoversOfOrphans.{takeovers_are_of_orphans}
use Rattle.request_laws.proofs.routes.CoordinatorEvents.{own_has, own_sends}
use Rattle.request_laws.proofs.routes.RowEvents.{rows_have, rows_send}
use Rattle.request_laws.proofs.routes.Idle.{none_first}

module _ (start : Start) where
  none_wait : NobodyStarts start → (member : Member) → IsIn member (made start)
      → (rows_after start member []).lqh.waiting ≡ []
  none_wait nobody member there =
      ap (λ (s : hosts.HostBody). (rows_in (no_replica start member) s.parts).lqh.waiting)
      (ldm_started start nobody member there)

  routed_first : NobodyStarts start → AllRouted start (λ h. [])
  routed_first nobody = record {
    signals = λ i j. tt;
    coordinators = λ member there. subst (Each _) (sym (none_first start member there nobody)) tt;
    rows = λ member there. subst (Each _) (sym (none_wait nobody member there)) tt;
  }

  module _ (all : ℕ → List HostStep) (e : HostStep) (es : List HostStep) (moment : IsMoment start all (e ∷ es))
      (routed : AllRouted start (logs_of start es))
    where
      abbrev old : ℕ → List HostStep
      old = logs_of start es

      abbrev new : ℕ → List HostStep
      new = logs_of start (e ∷ es)

      less : IsMoment start all es
      less = moment_less start all e es moment

      orphans : AllOrphans start (logs_of start es)
      orphans = takeovers_are_of_orphans start all es less

      abbrev view : View
      view = view_after start e.host (e ∷ old e.host)

      -- what the event sends
      abbrev AreSent : ℕ → Type 0
      AreSent h =
          Each (IsSentRouted (layout_in start (view_after start h (e ∷ old h)))
          (WasAskedIn start new (view_after start h (e ∷ old h)))
          (WasDrivenIn start new (view_after start h (e ∷ old h))) (IsGivenUp start new))
          (step_after start h (old h) e).effects.sends

      now_sent : AreSent e.host
      now_sent = by (part_host start moment.cluster.nobody e.host (host_low start all e es moment))
        where
          by : PartHost start e.host → AreSent e.host
          by (coordinates me there at) =
              subst AreSent (sym at)
              (own_sends start all e es moment me there at (coordinators_stand start all es less me there)
              (coordinators_stand start all (e ∷ es) moment me there) routed.signals (routed.coordinators me there)
              (orphans.gathered me there))
          by (keeps_rows me there at) =
              subst AreSent (sym at)
              (rows_send start all e es moment me there at routed.signals (routed.rows me there))
          by (is_beside first) =
              all_aside_routed (layout_in start view) (WasAskedIn start new view) (WasDrivenIn start new view)
              (IsGivenUp start new) (step_after start e.host (old e.host) e).effects.sends
              (beside_sends start e.host first (old e.host) e)

      signals_next : EachSent start (IsRoutedSignal start new) new
      signals_next =
          sent_next start (IsRoutedSignal start new) all e es moment
          (λ i j.
          each_map (IsRoutedSignal start old) (IsRoutedSignal start new) (sent (sound_machine start) i j (old i))
          (λ y was. signal_stays start e es y was) (routed.signals i j))
          (λ goes.
          sent_so start e.host (old e.host) e
          (λ (v : View) to (body : Body).
          IsRouted (layout_in start v) (WasAskedIn start new v) (WasDrivenIn start new v) (IsGivenUp start new) to body)
          now_sent)

      coordinator_next : (member : Member) → IsIn member (made start)
          → CoordinatorHas start e es member new (new (tc_of start member))
      coordinator_next member there = by (cases_eq e.host (tc_of start member))
        where
          before : CoordinatorStands start member (logs_of start es)
          before = coordinators_stand start all es less member there

          behind : CoordinatorStands start member (logs_of start (e ∷ es))
          behind = coordinators_stand start all (e ∷ es) moment member there

          by : (e.host ≡ tc_of start member) ⊎ (e.host ≢ tc_of start member)
              → CoordinatorHas start e es member new (new (tc_of start member))
          by (inl at) =
              own_has start all e es moment member there at before behind routed.signals
              (routed.coordinators member there) (orphans.gathered member there)
          by (inr other) =
              coordinator_elsewhere start e es member moment.cluster.nobody there other before behind
              (routed.coordinators member there)

      rows_next : (member : Member) → IsIn member (made start)
          → RowsHave start e es member new (new (ldm_of start member))
      rows_next member there = by (cases_eq e.host (ldm_of start member))
        where
          by : (e.host ≡ ldm_of start member) ⊎ (e.host ≢ ldm_of start member)
              → RowsHave start e es member new (new (ldm_of start member))
          by (inl at) = rows_have start all e es moment member there at routed.signals (routed.rows member there)
          by (inr other) = rows_elsewhere start e es member other (routed.rows member there)

      routed_next : AllRouted start (logs_of start (e ∷ es))
      routed_next = record { signals = signals_next; coordinators = coordinator_next; rows = rows_next }

  routed_all : (all : ℕ → List HostStep) (es : List HostStep) → IsMoment start all es
      → AllRouted start (logs_of start es)
  routed_all all [] moment = routed_first moment.cluster.nobody
  routed_all all (e ∷ es) moment = routed_next all e es moment (routed_all all es (moment_less start all e es moment))

pub signals_are_routed : SignalsAreRouted
signals_are_routed = routed_all
