-- Who goes on behind an event at which the current view rises went on before it, and has nothing unanswered.
use Rattle.std.proofs.Common.{◌≡◌, ◌≤◌, ◌<◌, ◌⊎◌, ◌∙◌, ℕ, Bool, true, false, List, [], ◌∷◌, sym, ap, subst, inl, inr}
use Rattle.std.proofs.Common.{arith}
use Rattle.std.specs.Prelude.{if◌then◌else◌, None}
use Rattle.run_theory.specs.Lists.{IsIn}
use Rattle.sig_core.specs.declared.member.Member.{Member}
use Rattle.sig_core.specs.declared.member.TxId.{TxId}
use Rattle.sig_core.specs.declared.signal.Body.{Body}
use Rattle.tc_block.specs.declared.transaction.Transaction.{Transaction}
use Rattle.world_core.specs.Start.{NobodyStarts, Start, made}
use Rattle.world_core.specs.Steps.{HostStep}
use Rattle.view_laws.specs.Runs.{view_after}
use Rattle.view_laws.proofs.eras.Rises.{view_rises}
use Rattle.moment_laws.specs.Moments.{IsMoment, current, logs_of}
use Rattle.moment_laws.specs.Places.{tc_of}
use Rattle.moment_laws.proofs.MomentHosts.{tc_low}
use Rattle.moment_laws.proofs.MomentViews.{current_above, current_number}
use Rattle.outcome_laws.specs.Counts.{coordinator_member}
use Rattle.request_laws.specs.Blocks.{coordinator_after}
use Rattle.request_laws.specs.Drives.{asked_in, is_request, last_view, sends_one}
use Rattle.request_laws.specs.Ways.{entry_of}
use Rattle.commit_laws.specs.Going.{is_lost}
use Rattle.commit_laws.specs.Parts.{IsHale}
use Rattle.commit_laws.proofs.views.AtEvents.{led_was}
use Rattle.commit_laws.proofs.fates.Going.{hale_made}
use Rattle.commit_laws.proofs.views.Raised.{coordinator_still}

-- the view in which a signal was last sent isn't above that of the host
last_low : (start : Start) (nobody : NobodyStarts start) (member : Member) (p : Body → Bool) (log : List HostStep)
    → last_view start member p log ≤ (view_after start (tc_of start member) log).number
last_low start nobody member p [] = omega arith
last_low start nobody member p (e ∷ log) = by (sends_one start member p log e) (last_low start nobody member p log)
  where
    by : (b : Bool) → last_view start member p log ≤ (view_after start (tc_of start member) log).number
        → (if b then (view_after start (tc_of start member) (e ∷ log)).number else last_view start member p log)
        ≤ (view_after start (tc_of start member) (e ∷ log)).number
    by true low = omega arith
    by false low = let up = view_rises start nobody (tc_of start member) log e in omega (arith, low, up)

module _ (start : Start) (all : ℕ → List HostStep) (e : HostStep) (es : List HostStep)
    (moment : IsMoment start all (e ∷ es))
    (above : current_number start (logs_of start es) < current_number start (logs_of start (e ∷ es)))
    (tx : TxId) (t : Transaction) (hale : IsHale start (logs_of start (e ∷ es)) tx t)
  where
    abbrev old : ℕ → List HostStep
    old = logs_of start es

    abbrev new : ℕ → List HostStep
    new = logs_of start (e ∷ es)

    abbrev member : Member
    member = coordinator_member tx

    there : IsIn (coordinator_member tx) (made start)
    there = hale_made start all (e ∷ es) moment tx t hale

    own_same : new (tc_of start member) ≡ old (tc_of start member)
    own_same = coordinator_still start all e es moment above member there

    pub raised_unasked : t.asked ≡ None
    raised_unasked = by hale.fresh
      where
        by : (t.asked ≡ None) ⊎ (asked_in start member tx (new (tc_of start member)) ≡ (current start new).number)
            → t.asked ≡ None
        by (inl none) = none
        by (inr at) =
            let same = ap (asked_in start member tx) own_same in
            let low = last_low start moment.cluster.nobody member (is_request tx) (old (tc_of start member)) in
            let up = current_above start old moment.cluster.nobody (tc_of start member)
            (tc_low start moment.cluster.nobody member there) in
            absurd (omega (arith, same, at, low, up, above))

    pub raised_was : IsHale start (logs_of start es) tx t
    raised_was = record {
      there = ap (λ log. entry_of (coordinator_after start member log) tx) (sym own_same) ∙ hale.there;
      undecided = hale.undecided;
      full = led_was start all e es moment tx hale.full;
      spared = subst (λ (log : List HostStep). is_lost start (λ h. log) tx ≡ false) own_same hale.spared;
      fresh = inl raised_unasked;
    }
