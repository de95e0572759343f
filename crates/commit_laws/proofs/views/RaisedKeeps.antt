-- Where the coordinator of a transaction that goes on is fenced at the current view, as that rises, the transaction
-- keeps to it.
use Rattle.std.proofs.Common.{◌≤◌, ◌<◌, ℕ, List, ◌∷◌, subst}
use Rattle.std.proofs.Common.{arith}
use Rattle.sig_core.specs.declared.member.Member.{Member}
use Rattle.sig_core.specs.declared.member.TxId.{TxId}
use Rattle.sig_core.specs.declared.view.View.{View}
use Rattle.tc_block.specs.declared.transaction.Transaction.{Transaction}
use Rattle.host_laws.proofs.coordinator.OfLive.{each_found}
use Rattle.world_core.specs.Start.{Start}
use Rattle.world_core.specs.Steps.{HostStep}
use Rattle.view_laws.proofs.ballots.MadeSets.{in_front}
use Rattle.moment_laws.specs.Moments.{IsMoment, current, logs_of}
use Rattle.moment_laws.specs.Places.{tc_of}
use Rattle.moment_laws.proofs.MomentHosts.{tc_low}
use Rattle.moment_laws.proofs.MomentViews.{current_above, current_number, moment_installed, moment_less}
use Rattle.outcome_laws.specs.Counts.{coordinator_member}
use Rattle.request_laws.specs.Blocks.{coordinator_after}
use Rattle.request_laws.specs.Strays.{KeepsTo}
use Rattle.request_laws.proofs.strays.KeptToInstalled.{fenced_keep}
use Rattle.commit_laws.specs.Parts.{IsHale}
use Rattle.commit_laws.specs.Raised.{CurrentIsFenced}
use Rattle.commit_laws.proofs.fates.Going.{hale_full, hale_made, hale_ways}
use Rattle.commit_laws.proofs.views.RaisedChains.{not_doomed}
use Rattle.commit_laws.proofs.views.RaisedGoing.{raised_unasked, raised_was}
use Rattle.commit_laws.proofs.views.Raised.{coordinator_still}

module _ (fenced : CurrentIsFenced) (start : Start) (all : ℕ → List HostStep) (e : HostStep) (es : List HostStep)
    (moment : IsMoment start all (e ∷ es))
    (above : current_number start (logs_of start es) < current_number start (logs_of start (e ∷ es)))
    (tx : TxId) (t : Transaction) (hale : IsHale start (logs_of start (e ∷ es)) tx t)
  where
    abbrev old : ℕ → List HostStep
    old = logs_of start es

    abbrev member : Member
    member = coordinator_member tx

    abbrev now : View
    now = current start (logs_of start (e ∷ es))

    before : IsMoment start all es
    before = moment_less start all e es moment

    went : IsHale start old tx t
    went = raised_was start all e es moment above tx t hale

    pub raised_keeps : KeepsTo (current start (logs_of start (e ∷ es))) t
    raised_keeps =
        each_found _ _ tx t
        (fenced_keep start all es before member (hale_made start all (e ∷ es) moment tx t hale) now
        (moment_installed start all (e ∷ es) moment)
        (in_front member now.full now.starting (hale_full start all (e ∷ es) moment tx t hale))
        (let low =
        current_above start old moment.cluster.nobody (tc_of start member)
        (tc_low start moment.cluster.nobody member (hale_made start all (e ∷ es) moment tx t hale)) in
        omega (arith, low, above))
        (subst (λ w. now.number ≤ (coordinator_after start member w).fence)
        (coordinator_still start all e es moment above member (hale_made start all (e ∷ es) moment tx t hale))
        (fenced start all (e ∷ es) moment member (hale_full start all (e ∷ es) moment tx t hale))))
        went.there
        (record {
          undecided = went.undecided;
          spared = not_doomed _ _ _ (hale_ways start all es before tx t went).0 went.spared;
          answered = raised_unasked start all e es moment above tx t hale;
        })
