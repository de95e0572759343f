-- Takeovers commit each key of a transaction that is left in a view once at most there, and complete it once at most,
-- where one of them is ordered once.
use Rattle.std.proofs.Common.{◌≡◌, ◌≤◌, ◌+◌, ◌*◌, ◌==◌, ◌∙◌, ℕ, zero, suc, Bool, true, false, List, [], ◌∷◌}
use Rattle.std.proofs.Common.{refl, sym, ap, arith, subst}
use Rattle.std.proofs.lemmas.Bool.{eq-eqb, eqb-true, true≢false}
use Rattle.std.specs.Prelude.{◌-◌}
use Rattle.run_theory.specs.Counts.{total}
use Rattle.run_theory.specs.Lists.{IsIn}
use Rattle.run_theory.proofs.EventCases.{event_keeps}
use Rattle.world_views.specs.Machine.{machine}
use Rattle.frag_map.specs.Layout.{members}
use Rattle.sig_core.specs.declared.member.Member.{Member}
use Rattle.sig_core.specs.declared.member.TxId.{TxId}
use Rattle.sig_core.specs.declared.signal.Signal.{Signal}
use Rattle.sig_core.specs.declared.view.View.{View}
use Rattle.lqh_block.specs.Views.{is_coordinated}
use Rattle.world_core.proofs.MadeFirst.{hosts_first, made_first}
use Rattle.world_core.specs.Hosts.{hosts}
use Rattle.world_core.specs.Start.{Start, made}
use Rattle.world_core.specs.Steps.{HostStep}
use Rattle.view_laws.specs.Runs.{WasInstalled, view_after}
use Rattle.view_laws.proofs.runs.AllSound.{have_orderly}
use Rattle.view_laws.proofs.runs.ChosenViews.{one_view}
use Rattle.moment_laws.specs.Moments.{IsMoment, logs_of}
use Rattle.moment_laws.specs.Places.{tc_of}
use Rattle.moment_laws.proofs.MomentHosts.{tc_number}
use Rattle.moment_laws.proofs.MomentViews.{moment_less}
use Rattle.request_laws.specs.Tokens.{sent_along, taken_along, total_of}
use Rattle.request_laws.proofs.tokens.FirstInView.{node_of, total_of_last, total_of_same}
use Rattle.commit_laws.specs.Once.{KeysAreDrivenOnce}
use Rattle.commit_laws.proofs.drive.Foreign.{installed, unseen_none}
use Rattle.commit_laws.proofs.drive.Kinds.{goes, numbered}
use Rattle.commit_laws.proofs.drive.Lists.{mine, only}
use Rattle.commit_laws.proofs.drive.Moments.{total_of_below}
use Rattle.commit_laws.proofs.drive.Once.{TakeoversDriveOnce, keys_are_driven_once}
use Rattle.commit_laws.proofs.drive.Ruled.{IsRuled, OrdersAreOnce, is_order, ruled_first, ruled_next}

module _ (orders : OrdersAreOnce) (start : Start) (all : ℕ → List HostStep) (tx : TxId) (key : List ℕ) (number : ℕ)
    (left : (view : View) → WasInstalled start all view → view.number ≡ number → is_coordinated view.full tx ≡ false)
  where
    -- an event of the host of a member's takeover
    next : (e : HostStep) (es : List HostStep) (moment : IsMoment start all (e ∷ es)) (me : Member)
        → IsIn me (made start) → e.host ≡ tc_of start me
        → IsRuled start me tx key number e.host (logs_of start es e.host)
        → IsRuled start me tx key number e.host (e ∷ logs_of start es e.host)
    next e es moment me there at before =
        by ((view_after start e.host (e ∷ logs_of start es e.host)).number == number) refl
      where
        by : (b : Bool) → ((view_after start e.host (e ∷ logs_of start es e.host)).number == number) ≡ b
            → IsRuled start me tx key number e.host (e ∷ logs_of start es e.host)
        by true is =
            let same = eqb-true (view_after start e.host (e ∷ logs_of start es e.host)).number number is in
            subst (λ m. IsRuled start me tx key m e.host (e ∷ logs_of start es e.host)) same
            (ruled_next orders start all e es moment me there at tx key
            (left (view_after start e.host (e ∷ logs_of start es e.host)) (installed start all e es moment me there at)
            same)
            (subst (λ m. IsRuled start me tx key m e.host (logs_of start es e.host)) (sym same) before))
        by false off = record {
          few = λ drive.
              let own = before.few drive in
              omega (
                arith,
                own,
                unseen_none start e.host (logs_of start es e.host) e number (goes drive (mine tx (only key))) off,
              );
          now = λ same. absurd (true≢false (sym (eq-eqb (view_after start e.host (e ∷ logs_of start es e.host)).number
              number same) ∙ off));
        }

    pub ruled : (es : List HostStep) → IsMoment start all es → (me : Member) → IsIn me (made start)
        → IsRuled start me tx key number (tc_of start me) (logs_of start es (tc_of start me))
    ruled [] moment me there = ruled_first start moment.cluster.nobody me there tx key number (tc_of start me)
    ruled (e ∷ es) moment me there =
        event_keeps (machine start) e es (λ h log. h ≡ tc_of start me → IsRuled start me tx key number h log)
        (λ before at. next e es moment me there at (before at)) (tc_of start me)
        (λ same. ruled es (moment_less start all e es moment) me there) refl

members_few : (n : ℕ) (f : ℕ → ℕ)
    → total_of (members n) (λ m. f (suc ((m.node - 1) * 3 + 1))) ≤ total (suc (n * 3)) f
members_few zero f = omega arith
members_few (suc n) f =
    let here : suc ((n + 1 - 1) * 3 + 1) ≡ suc (suc (n * 3)) = omega arith in
    let more : suc (suc n * 3) ≡ suc (suc (suc (suc (n * 3)))) = omega arith in
    omega (
      arith,
      total_of_last (members n) (node_of (n + 1)) (λ m. f (suc ((m.node - 1) * 3 + 1))),
      members_few n f,
      ap f here,
      ap (λ k. total k f) more,
    )

pub takeovers_drive_once : OrdersAreOnce → TakeoversDriveOnce
takeovers_drive_once orders start all es moment tx number was drive key =
    omega (
      arith,
      total_of_below (made start) (λ me. sent_along start p (tc_of start me) (logs (tc_of start me)))
          (λ me. taken_along start q (logs (tc_of start me)))
          (λ me there. (ruled orders start all tx key number left es moment me there).few drive),
      total_of_same (made start) (λ me. taken_along start q (logs (tc_of start me)))
          (λ me. taken_along start q (logs (suc ((me.node - 1) * 3 + 1))))
          (λ me there. ap (λ h. taken_along start q (logs h)) (tc_number start moment.cluster.nobody me there)),
      members_few start.shape.nodes (λ h. taken_along start q (logs h)),
      ap (λ ms. total_of ms (λ me. taken_along start q (logs (suc ((me.node - 1) * 3 + 1)))))
          (made_first start moment.cluster.nobody),
      ap (λ k. total k (λ h. taken_along start q (logs h))) as_many,
      orders start all es moment number,
    )
  where
    as_many : suc (start.shape.nodes * 3) ≡ hosts start
    as_many = omega (arith, hosts_first start moment.cluster.nobody)

    logs : ℕ → List HostStep
    logs = logs_of start es

    p : Signal → Bool
    p = numbered number (goes drive (mine tx (only key)))

    q : Signal → Bool
    q = numbered number is_order

    left : (view : View) → WasInstalled start all view → view.number ≡ number → is_coordinated view.full tx ≡ false
    left view there same =
        ap (λ (v : View). is_coordinated v.full tx)
        (one_view have_orderly start all moment.cluster view was.view there was.was (same ∙ sym was.same))
        ∙ was.orphan

-- so keys are driven once
pub keys_driven_once : OrdersAreOnce → KeysAreDrivenOnce
keys_driven_once orders = keys_are_driven_once (takeovers_drive_once orders)
