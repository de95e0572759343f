-- What comes to a host is for it: operations to the primary, images to the others, and commits to the primary last.
use Rattle.std.proofs.Common.{◌≡◌, ◌≢◌, ◌⊎◌, ◌==◌, ◌<◌, ℕ, true, List, length, sym, ap, ◌∙◌, subst, arith, inl, inr}
use Rattle.std.proofs.Common.{eq-eqb, ne_eqb}
use Rattle.std.proofs.lemmas.Bool.{cases_eq}
use Rattle.sig_core.specs.declared.member.Member.{Member}
use Rattle.sig_core.specs.declared.signal.chain.RowWork.{RowWork}
use Rattle.sig_core.specs.declared.signal.chain.RowWork.TheVariants.{Operate, Store}
use Rattle.sig_core.specs.Chain.{node_at, primary_of}
use Rattle.frag_map.specs.Shape.{IsShape}
use Rattle.sig_core.specs.Work.{work_key}
use Rattle.node_core.specs.Blocks.{has_lqh}
use Rattle.world_core.proofs.HostNumbers.{rows_run}
use Rattle.world_core.specs.Hosts.{rows_host}
use Rattle.world_core.specs.Machine.{after}
use Rattle.world_core.specs.Start.{Start}
use Rattle.world_core.specs.Steps.{HostStep}
use Rattle.key_laws.specs.BackupEvents.{IsOfImage}
use Rattle.key_laws.specs.PrimaryEvents.{IsOfOperation}
use Rattle.run_laws.specs.Routes.{ComingAreRouted, CommitsEndAtPrimary, IsCommitRouted, IsForBlock, IsRequestRouted}
use Rattle.run_laws.specs.Routes.{IsRouted, IsSentTo, IsWorkAt, RequestsAreForReplicas, primary_host, replica_host}
use Rattle.run_laws.specs.Routes.{replicas}
use Rattle.run_laws.proofs.routes.Addressed.{rows_addressed}
use Rattle.run_laws.proofs.routes.Routes.{all_routed, took_routed}
use Rattle.run_laws.proofs.routes.Chain.{hosts_are_apart, primary_first, primary_length, replicas_are_nodes}
use Rattle.run_laws.proofs.routes.Chain.{replicas_some}
use Rattle.run_laws.proofs.transit.Runs.{taking}

-- two tests of numbers that pass together
same_tests : (a b c d : ℕ) → (a ≡ b → c ≡ d) → (c ≡ d → a ≡ b) → (a == b) ≡ (c == d)
same_tests a b c d there back = by (cases_eq a b)
  where
    by : (a ≡ b) ⊎ (a ≢ b) → (a == b) ≡ (c == d)
    by (inl same) = eq-eqb a b same ∙ sym (eq-eqb c d (there same))
    by (inr off) = ne_eqb a b off ∙ sym (ne_eqb c d (λ same. off (back same)))

-- a host is that of a place of a key's chain
pub record IsPlaced (start : Start) (h : ℕ) (key : List ℕ) (at : ℕ) : Type 0 where
  pub inside : at < length (replicas start key)
  pub host_is : h ≡ replica_host start key at

-- what goes along the replicas comes to the host of its place
pub placed : (start : Start) (h node : ℕ) (key : List ℕ) (chain : List Member) (at : ℕ) → h ≡ rows_host start node
    → chain ≡ replicas start key
    → IsSentTo node chain at → IsPlaced start h key at
placed start h node key chain at here along sent = record {
  inside = subst (λ (c : List Member). at < length c) along sent.inside;
  host_is = here ∙ ap (rows_host start) (sent.node_is ∙ ap (λ c. node_at c at) along);
}

-- which runs rows
pub placed_runs : (start : Start) (h : ℕ) (key : List ℕ) (at : ℕ) (log : List HostStep) → IsShape start.shape
    → IsPlaced start h key at
    → has_lqh (after start h log) ≡ true
placed_runs start h key at log shape place =
    let node = replicas_are_nodes start key at shape place.inside in
    ap (λ h. has_lqh (after start h log)) place.host_is
    ∙ rows_run start (node_at (replicas start key) at) log node.from node.to

module _ (start : Start) (shape : IsShape start.shape) where
  -- the primary's host is that of the first place
  first_place : (h : ℕ) (key : List ℕ) (at : ℕ) → IsPlaced start h key at → h ≡ primary_host start key → at ≡ 0
  first_place h key at place own =
      hosts_are_apart start key at 0 shape place.inside (replicas_some start shape key) (sym place.host_is ∙ own)

  for_replica : (h : ℕ) (key : List ℕ) (work : RowWork) (at : ℕ) → IsWorkAt at work → IsPlaced start h key at
      → (h ≡ primary_host start key → IsOfOperation work) × (h ≢ primary_host start key → IsOfImage work)
  for_replica h key (Operate op) at is place =
      (λ own. tt, λ off. absurd (off (place.host_is ∙ ap (replica_host start key) is)))
  for_replica h key (Store other image) at is place =
      (λ own. absurd (omega (arith, is, first_place h key at place own)), λ off. tt)

  at_primary : (h node : ℕ) (key : List ℕ) (chain : List Member) (at : ℕ) → h ≡ rows_host start node
      → IsCommitRouted start node key chain at
      → (at == 0) ≡ (h == primary_host start key)
  at_primary h node key chain at here is = by is.along
    where
      by : (chain ≡ replicas start key) ⊎ (chain ≡ primary_of (replicas start key))
          → (at == 0) ≡ (h == primary_host start key)
      by (inl along) =
          let place = placed start h node key chain at here along is.sent in
          same_tests at 0 h (primary_host start key) (λ first. place.host_is ∙ ap (replica_host start key) first)
          (first_place h key at place)
      by (inr alone) =
          let one = primary_length (replicas start key) (replicas_some start shape key) in
          let first : at ≡ 0 = omega (arith, is.sent.inside, ap length alone, one) in
          let own : node ≡ node_at (replicas start key) 0 =
          is.sent.node_is
          ∙ (ap (λ c. node_at c at) alone
          ∙ (ap (node_at (primary_of (replicas start key))) first ∙ primary_first (replicas start key))) in
          same_tests at 0 h (primary_host start key) (λ is_first. here ∙ ap (rows_host start) own) (λ is_own. first)

pub coming_are_routed : ComingAreRouted
coming_are_routed start es e comes =
    let takes = taking start es e comes in
    took_routed start es e takes.before takes.between
    (all_routed start es takes.before comes.before takes.transit) takes.takes

pub requests_are_for_replicas : RequestsAreForReplicas
requests_are_for_replicas start es e tx work chain at comes is =
    let coming = coming_are_routed start es e comes in
    let routed : IsRequestRouted start e.step.taken.to.node (record { tx = tx; work = work; chain = chain; at = at }) =
    subst (IsRouted start e.step.taken.to.node) is coming.routed in
    for_replica start comes.before.shape e.host (work_key work) work at routed.work
    (placed start e.host e.step.taken.to.node (work_key work) chain at
    (rows_addressed start es e comes (subst (IsForBlock e.step.taken.to) is coming.block)) routed.chain routed.sent)

pub commits_end_at_primary : CommitsEndAtPrimary
commits_end_at_primary start es e tx key epoch chain at comes is =
    let coming = coming_are_routed start es e comes in
    at_primary start comes.before.shape e.host e.step.taken.to.node key chain at
    (rows_addressed start es e comes (subst (IsForBlock e.step.taken.to) is coming.block))
    (subst (IsRouted start e.step.taken.to.node) is coming.routed)
