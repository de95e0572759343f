-- In a view in which a transaction's coordinator is a full member, what it sent itself is all that owners sent, and all
-- that goes on.
use Rattle.std.proofs.Common.{◌≡◌, ◌≢◌, ◌≤◌, ◌<◌, ◌∙◌, ℕ, Bool, List, [], ◌∷◌, refl, sym, ap, arith}
use Rattle.run_theory.specs.Lists.{IsIn}
use Rattle.host_laws.proofs.hosts.Sums.{total_one, total_zero}
use Rattle.sig_core.specs.declared.member.Member.{Member}
use Rattle.sig_core.specs.declared.member.TxId.{TxId}
use Rattle.world_core.proofs.MadeFirst.{begins_made}
use Rattle.world_core.specs.Hosts.{hosts}
use Rattle.world_core.specs.Start.{Start, made}
use Rattle.world_core.specs.Steps.{HostStep}
use Rattle.world_views.specs.Machine.{step_after}
use Rattle.view_laws.proofs.runs.FirstMembers.{first_again, first_in, node_low, node_some}
use Rattle.moment_laws.specs.Moments.{IsMoment, logs_of}
use Rattle.moment_laws.specs.Places.{tc_of}
use Rattle.moment_laws.proofs.MomentTurns.{host_low}
use Rattle.moment_laws.proofs.MomentViews.{moment_less}
use Rattle.outcome_laws.specs.Counts.{coordinator_member}
use Rattle.request_laws.specs.Tokens.{all_sent, sent_along}
use Rattle.request_laws.proofs.routes.Hosts.{PartHost, beside_sends, coordinates, is_beside, keeps_rows, part_host}
use Rattle.request_laws.proofs.tokens.FirstInView.{node_of, sent_now, total_of_made, total_of_zero}
use Rattle.commit_laws.specs.Once.{owners_sent}
use Rattle.commit_laws.proofs.drive.Foreign.{IsLedIn, none_now, other_now, rows_now}
use Rattle.commit_laws.proofs.drive.Kinds.{Drive, goes, numbered}
use Rattle.commit_laws.proofs.drive.Lists.{mine, onward}
use Rattle.commit_laws.proofs.drive.Moments.{along_still}
use Rattle.commit_laws.proofs.drive.Parts.{aside_off}

module _ (start : Start) (all : ℕ → List HostStep) (tx : TxId) (number : ℕ) (led : IsLedIn start all tx number) where
  abbrev home : ℕ
  home = tc_of start (coordinator_member tx)

  -- no other host goes on with its lists
  onward_now : (e : HostStep) (es : List HostStep) (moment : IsMoment start all (e ∷ es)) → e.host ≢ home → (place : ℕ)
      → sent_now start all e es moment (numbered number (onward tx place)) ≡ 0
  onward_now e es moment off place = by (part_host start moment.cluster.nobody e.host (host_low start all e es moment))
    where
      by : PartHost start e.host → sent_now start all e es moment (numbered number (onward tx place)) ≡ 0
      by (coordinates me there at) =
          (other_now start all tx number led e es moment me there (λ is. off (at ∙ ap (tc_of start) (sym is))) at).1
          place
      by (keeps_rows me there at) = rows_now start all tx number led e es moment me there at place
      by (is_beside beside) =
          none_now start all tx number led e es moment (onward tx place)
          (λ same.
          (aside_off tx (step_after start e.host (logs_of start es e.host) e).effects.sends
          (beside_sends start e.host beside (logs_of start es e.host) e)).goes_on place)

  none_onward : (es : List HostStep) → IsMoment start all es → (k : ℕ) → k ≢ home → (place : ℕ)
      → sent_along start (numbered number (onward tx place)) k (logs_of start es k) ≡ 0
  none_onward [] moment k off place = refl
  none_onward (e ∷ es) moment k off place =
      along_still start all e es moment (numbered number (onward tx place)) k
      (λ at. onward_now e es moment (λ is. off (sym at ∙ is)) place)
      ∙ none_onward es (moment_less start all e es moment) k off place

  -- nor does another coordinator, or a takeover, drive a key
  no_keys : (es : List HostStep) → IsMoment start all es → (me : Member) → IsIn me (made start)
      → (coordinator_member tx ≡ me → ⊥) → (drive : Drive) (wk : List ℕ → Bool)
      → sent_along start (numbered number (goes drive (mine tx wk))) (tc_of start me)
      (logs_of start es (tc_of start me)) ≡ 0
  no_keys [] moment me there other drive wk = refl
  no_keys (e ∷ es) moment me there other drive wk =
      along_still start all e es moment (numbered number (goes drive (mine tx wk))) (tc_of start me)
      (λ at. (other_now start all tx number led e es moment me there other at).0 drive wk)
      ∙ no_keys es (moment_less start all e es moment) me there other drive wk

  module _ (es : List HostStep) (moment : IsMoment start all es) where
    abbrev logs : ℕ → List HostStep
    logs = logs_of start es

    pub onward_own : home < hosts start → (place : ℕ)
        → all_sent start (numbered number (onward tx place)) logs
        ≤ sent_along start (numbered number (onward tx place)) home (logs home)
    onward_own low place =
        omega (
          arith,
          total_one (hosts start) (λ k. 0)
              (λ k. sent_along start (numbered number (onward tx place)) k (logs k)) home low
              (λ k off. none_onward es moment k off place),
          total_zero (hosts start) (λ k. 0) (λ k. refl),
        )

    module _ (there : IsIn (coordinator_member tx) (made start)) where
      abbrev me : Member
      me = coordinator_member tx

      abbrev along : Drive → (List ℕ → Bool) → Member → ℕ
      along drive wk m =
          sent_along start (numbered number (goes drive (mine tx wk))) (tc_of start m) (logs (tc_of start m))

      pub owners_own : (drive : Drive) (wk : List ℕ → Bool)
          → owners_sent start (numbered number (goes drive (mine tx wk))) logs ≤ along drive wk me
      owners_own drive wk =
          let all_of = total_of_made start moment.cluster.nobody (λ m. 0) (λ m. along drive wk m) me.node
          (node_some start moment.cluster.nobody me there) (node_low start moment.cluster.nobody me there)
          (λ k some low off.
          no_keys es moment (node_of k) (begins_made start _ (first_in start.shape.nodes k some low))
          (λ is. off (sym (ap (λ (m : Member). m.node) is))) drive wk) in
          omega (
            arith,
            all_of,
            total_of_zero (made start) (λ m. 0) (λ m there. refl),
            ap (along drive wk) (first_again start moment.cluster.nobody me there),
          )
