-- At each moment, in each view, the rows of a node were asked for a report once at most.
use Rattle.std.proofs.Common.{◌≡◌, ◌≢◌, ◌≤◌, ◌<◌, ◌⊎◌, ℕ, false, List, [], ◌∷◌, inl, inr, refl, sym, arith, subst}
use Rattle.std.proofs.lemmas.Bool.{cases_eq}
use Rattle.run_theory.specs.Lists.{IsIn}
use Rattle.run_theory.proofs.EventCases.{event_keeps}
use Rattle.commit_laws.proofs.hosts.PartEach.{part_each}
use Rattle.host_laws.proofs.hosts.Sums.{total_at, total_le}
use Rattle.sig_core.specs.declared.member.Member.{Member}
use Rattle.sig_core.specs.declared.outs.Outgoing.{Outgoing}
use Rattle.sig_core.specs.declared.place.BlockId.{BlockId}
use Rattle.sig_core.specs.declared.place.BlockId.TheVariants as block
use Rattle.lqh_views.specs.WholeReports.{asks}
use Rattle.lqh_saver.specs.State.{saving}
use Rattle.node_views.specs.declared.ldm_part.LdmPart.{LdmPart}
use Rattle.node_views.specs.Parts.{ldm_row}
use Rattle.world_core.specs.Hosts.{hosts}
use Rattle.world_core.specs.Start.{NobodyStarts, Start, made}
use Rattle.world_core.specs.Steps.{HostStep}
use Rattle.world_views.specs.Machine.{step_after, machine}
use Rattle.view_laws.specs.Runs.{view_after}
use Rattle.moment_laws.specs.Moments.{IsMoment, logs_of}
use Rattle.moment_laws.specs.PartSteps.{ldm_kind}
use Rattle.moment_laws.specs.Places.{ldm_of, tc_of}
use Rattle.moment_laws.proofs.MomentViews.{moment_less}
use Rattle.request_laws.specs.Tokens.{all_sent, sent_along, taken_along}
use Rattle.request_laws.proofs.routes.Hosts.{PartHost, beside_sends, coordinates, is_beside, keeps_rows, part_host}
use Rattle.request_laws.proofs.routes.PartSteps.{LdmStep, ldm_step}
use Rattle.request_laws.proofs.tokens.SumsOverHosts.{few_taken}
use Rattle.commit_laws.proofs.gathering.AskedLists.{none_counted}
use Rattle.commit_laws.proofs.gathering.AskedStands.{IsAsked, asked_first, asked_next}
use Rattle.commit_laws.proofs.drive.Kinds.{numbered}
use Rattle.commit_laws.proofs.drive.Ruled.{is_order}
use Rattle.commit_laws.proofs.gathering.Words.{AskNone, aside_none, asked_in, asks_at, none_asks, rows_ask_none}
use Rattle.commit_laws.proofs.orders.Sent.{sent_few}
use Rattle.commit_laws.proofs.orders.Unseen.{unseen_none}
use Rattle.commit_laws.proofs.orders.Together.{orders_once}

-- a host that runs rows asks for none
module _ (start : Start) (nobody : NobodyStarts start) (me : Member) (there : IsIn me (made start)) (h : ℕ)
    (at : h ≡ ldm_of start me)
    (log : List HostStep) (e : HostStep)
  where
    step : LdmStep start h log e
    step = ldm_step start nobody me there h at log e

    of_block : (p : LdmPart) (b : BlockId) → AskNone (ldm_row p b e.step.taken).effects.sends
    unfolding ldm_row
    of_block p block.Lqh = rows_ask_none (saving p.replica p.saver) e.step.taken
    of_block p _ = tt

    rows_none : AskNone (step_after start h log e).effects.sends
    rows_none =
        part_each ldm_kind (λ (o : Outgoing). asks o.body ≡ false) start.shape step.own _ e.step.taken _ _
        (step_after start h log e).effects.sends step.does (λ above. tt)
        (λ passed. of_block step.does.between e.step.taken.to.block)

module _ (start : Start) (node number : ℕ) where
  -- a host asked for none, of whose steps none does
  silent_along : (h : ℕ) → ((log : List HostStep) (e : HostStep) → AskNone (step_after start h log e).effects.sends)
      → (log : List HostStep) → sent_along start (asked_in node number) h log ≡ 0
  silent_along h none [] = refl
  silent_along h none (e ∷ log) =
      omega (
        arith,
        sent_few (asks_at node) start number h log e,
        none_counted node (step_after start h log e).effects.sends (none log e),
        silent_along h none log,
      )

  module _ (all : ℕ → List HostStep) where
    -- an event of the host of a member's takeover
    next : (e : HostStep) (es : List HostStep) (moment : IsMoment start all (e ∷ es)) (me : Member)
        → IsIn me (made start) → e.host ≡ tc_of start me → IsAsked start me node number e.host (logs_of start es e.host)
        → IsAsked start me node number e.host (e ∷ logs_of start es e.host)
    next e es moment me there at before =
        by (cases_eq (view_after start e.host (e ∷ logs_of start es e.host)).number number)
      where
        by : ((view_after start e.host (e ∷ logs_of start es e.host)).number ≡ number)
            ⊎ ((view_after start e.host (e ∷ logs_of start es e.host)).number ≢ number)
            → IsAsked start me node number e.host (e ∷ logs_of start es e.host)
        by (inl same) =
            subst (λ m. IsAsked start me node m e.host (e ∷ logs_of start es e.host)) same
            (asked_next orders_once start all e es moment me there at node
            (subst (λ m. IsAsked start me node m e.host (logs_of start es e.host)) (sym same) before))
        by (inr off) =
            let few = before.few in
            record {
              few =
                  omega (
                    arith,
                    few,
                    unseen_none start e.host (logs_of start es e.host) e number (λ x. asks_at node x.to x.body) off,
                  );
              now = λ same. absurd (off same);
            }

    pub asked : (es : List HostStep) → IsMoment start all es → (me : Member) → IsIn me (made start)
        → IsAsked start me node number (tc_of start me) (logs_of start es (tc_of start me))
    asked [] moment me there = asked_first start moment.cluster.nobody me there node number (tc_of start me)
    asked (e ∷ es) moment me there =
        event_keeps (machine start) e es (λ h log. h ≡ tc_of start me → IsAsked start me node number h log)
        (λ before at. next e es moment me there at (before at)) (tc_of start me)
        (λ same. asked es (moment_less start all e es moment) me there) refl

    module _ (es : List HostStep) (moment : IsMoment start all es) where
      abbrev logs : ℕ → List HostStep
      logs = logs_of start es

      abbrev Few : ℕ → Type 0
      Few h = sent_along start (asked_in node number) h (logs h) ≤ taken_along start (numbered number is_order) (logs h)

      host_few : (h : ℕ) → h < hosts start → Few h
      host_few h low = by (part_host start moment.cluster.nobody h low)
        where
          silent : ((log : List HostStep) (e : HostStep) → AskNone (step_after start h log e).effects.sends) → Few h
          silent none = let nothing = silent_along h none (logs h) in omega (arith, nothing)

          by : PartHost start h → Few h
          by (coordinates me there at) = subst Few (sym at) (asked es moment me there).few
          by (keeps_rows me there at) = silent (λ log e. rows_none start moment.cluster.nobody me there h at log e)
          by (is_beside first) = silent (λ log e. none_asks _ (aside_none _ (beside_sends start h first log e)))

      sent_once : all_sent start (asked_in node number) logs ≤ 1
      sent_once =
          omega (
            arith,
            total_le (hosts start) (λ h. sent_along start (asked_in node number) h (logs h))
                (λ h. taken_along start (numbered number is_order) (logs h)) host_few,
            orders_once start all es moment number,
          )

      -- so a host has taken it once at most
      pub asked_once : (h : ℕ) → h < hosts start → taken_along start (asked_in node number) (logs h) ≤ 1
      asked_once h low =
          omega (
            arith,
            total_at (hosts start) (λ k. taken_along start (asked_in node number) (logs k)) h low,
            few_taken start (asked_in node number) (λ i log e j. refl) all es moment,
            sent_once,
          )
