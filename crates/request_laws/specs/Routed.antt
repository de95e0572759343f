-- Where signals about the rows of transactions went, at each moment.
use Rattle.std.specs.Prelude.{◌≡◌, ℕ, true, List}
use Rattle.run_theory.specs.Links.{sent}
use Rattle.run_theory.specs.Lists.{Each, IsIn}
use Rattle.frag_map.specs.Layout.{Layout, first_layout, in_view}
use Rattle.sig_core.specs.declared.member.Member.{Member}
use Rattle.sig_core.specs.declared.member.TxId.{TxId}
use Rattle.sig_core.specs.declared.view.View.{View}
use Rattle.world_core.specs.Start.{Start, made}
use Rattle.world_core.specs.Steps.{Addressed, HostStep}
use Rattle.view_laws.specs.Order.{sound_machine}
use Rattle.view_laws.specs.Runs.{view_after}
use Rattle.moment_laws.specs.Moments.{IsMoment, logs_of}
use Rattle.moment_laws.specs.Places.{ldm_of, tc_of}
use Rattle.outcome_laws.specs.Counts.{coordinator_member}
use Rattle.request_laws.specs.Blocks.{coordinator_after, rows_after}
use Rattle.request_laws.specs.Drives.{is_commit, is_request, was_sent_in}
use Rattle.request_laws.specs.Routes.{CoordinatorHasRoutes, IsRouted, WaitsRouted}
use Rattle.request_laws.specs.Ways.{has_gone_back}

-- the layout of a view
abbrev pub layout_in : Start → View → Layout
layout_in start view = in_view (first_layout start.shape) view

module _ (start : Start) (logs : ℕ → List HostStep) where
  -- the log of the coordinator's host
  abbrev pub log_for : TxId → List HostStep
  log_for tx = logs (tc_of start (coordinator_member tx))

  -- its coordinator, a full member of the view, asked for an operation of it in this view
  pub record WasAskedIn (view : View) (tx : TxId) : Type 0 where
    pub full : IsIn (coordinator_member tx) view.full
    pub asked : was_sent_in start (coordinator_member tx) (is_request tx) view.number (log_for tx) ≡ true

  -- if its coordinator is a full member of the view, it sent commits of it in this view
  abbrev pub WasDrivenIn : View → TxId → Type 0
  WasDrivenIn view tx =
      IsIn (coordinator_member tx) view.full
      → was_sent_in start (coordinator_member tx) (is_commit tx) view.number (log_for tx) ≡ true

  -- its coordinator has given it up
  abbrev pub IsGivenUp : TxId → Type 0
  IsGivenUp tx = has_gone_back start (coordinator_member tx) tx (log_for tx) ≡ true

  abbrev pub IsRoutedSignal : Addressed → Type 0
  IsRoutedSignal x =
      IsRouted (layout_in start x.signal.view) (WasAskedIn x.signal.view) (WasDrivenIn x.signal.view) IsGivenUp
      x.signal.to x.signal.body

  abbrev pub view_of_tc : Member → View
  view_of_tc member = view_after start (tc_of start member) (logs (tc_of start member))

  abbrev pub view_of_ldm : Member → View
  view_of_ldm member = view_after start (ldm_of start member) (logs (ldm_of start member))

  -- all signals went so, and coordinators and rows of each member have what they need for that in their views
  pub record AllRouted : Type 0 where
    pub signals : (i j : ℕ) → Each IsRoutedSignal (sent (sound_machine start) i j (logs i))
    pub coordinators : (member : Member) → IsIn member (made start)
        → CoordinatorHasRoutes (layout_in start (view_of_tc member)) (WasAskedIn (view_of_tc member))
        (WasDrivenIn (view_of_tc member)) IsGivenUp (coordinator_after start member (logs (tc_of start member)))
    pub rows : (member : Member) → IsIn member (made start)
        → WaitsRouted (layout_in start (view_of_ldm member)) (WasAskedIn (view_of_ldm member))
        (WasDrivenIn (view_of_ldm member)) IsGivenUp (rows_after start member (logs (ldm_of start member)))

abbrev pub SignalsAreRouted : Type 0
SignalsAreRouted =
    (start : Start) (all : ℕ → List HostStep) (es : List HostStep) → IsMoment start all es
    → AllRouted start (logs_of start es)
