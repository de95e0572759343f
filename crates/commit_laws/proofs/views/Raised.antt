-- Where the current view rises it does so at the host of a membership: neither at one of a coordinator nor at one of
-- rows.
use Rattle.std.proofs.Common.{◌≡◌, ◌≢◌, ◌≤◌, ◌<◌, ℕ, List, ◌∷◌, sym, ap, subst, arith}
use Rattle.run_theory.specs.Lists.{IsIn}
use Rattle.sig_core.specs.declared.member.Member.{Member}
use Rattle.sig_core.specs.declared.place.BlockId.TheVariants as block
use Rattle.sig_core.specs.declared.view.View.{View}
use Rattle.std.specs.Prelude.{None}
use Rattle.world_core.specs.Start.{Start, made}
use Rattle.world_core.specs.Steps.{HostStep}
use Rattle.world_views.specs.Machine.{after}
use Rattle.view_laws.specs.Runs.{view_after}
use Rattle.view_laws.specs.Votes.{membership_in}
use Rattle.view_laws.proofs.fences.Promised.{part_none}
use Rattle.moment_laws.specs.Moments.{IsMoment, logs_of}
use Rattle.moment_laws.specs.Places.{ldm_of, tc_of}
use Rattle.moment_laws.proofs.MomentTurns as moments
use Rattle.moment_laws.proofs.MomentViews.{current_number, moment_less}
use Rattle.commit_laws.proofs.views.HeadersLow.{own_low, stops_low}

module _ (start : Start) (all : ℕ → List HostStep) (e : HostStep) (es : List HostStep)
    (moment : IsMoment start all (e ∷ es))
    (above : current_number start (logs_of start es) < current_number start (logs_of start (e ∷ es)))
    (member : Member) (there : IsIn member (made start))
  where
    abbrev old : ℕ → List HostStep
    old = logs_of start es

    not_here : membership_in (after start e.host (old e.host)).parts ≡ None → ⊥
    not_here none = by (moments.turn start all e es moment)
      where
        low : (view_after start e.host (e ∷ old e.host)).number ≤ current_number start old
        low =
            own_low start all e es moment (stops_low start all es (moment_less start all e es moment)) none

        by : moments.Turn start all e es moment → ⊥
        by (moments.keeps same stands) = let is = ap (λ (v : View). v.number) same in absurd (omega (arith, is, above))
        by (moments.raises up stands) =
            let is = ap (λ (v : View). v.number) stands in absurd (omega (arith, is, above, low))

    not_at : (h : ℕ) → membership_in (after start h (old h)).parts ≡ None → e.host ≢ h
    not_at h none at = not_here (subst (λ k. membership_in (after start k (old k)).parts ≡ None) (sym at) none)

    pub coordinator_still : logs_of start (e ∷ es) (tc_of start member) ≡ logs_of start es (tc_of start member)
    coordinator_still =
        moments.other_log start all e es moment (tc_of start member)
        (not_at (tc_of start member) (part_none start moment.cluster.nobody member there block.Tc tt
        (old (tc_of start member))))

    pub rows_still : logs_of start (e ∷ es) (ldm_of start member) ≡ logs_of start es (ldm_of start member)
    rows_still =
        moments.other_log start all e es moment (ldm_of start member)
        (not_at (ldm_of start member) (part_none start moment.cluster.nobody member there block.Lqh tt
        (old (ldm_of start member))))
