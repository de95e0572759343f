-- A step of the host of a member's rows marks each commit, and leaves a marker until its commit is acknowledged.
use Rattle.std.proofs.Common.{◌≡◌, Bool, true, List, ◌∷◌, sym, ap, subst}
use Rattle.run_theory.specs.Lists.{IsIn}
use Rattle.sig_core.specs.declared.member.Member.{Member}
use Rattle.sig_core.specs.declared.member.TxId.{TxId}
use Rattle.sig_core.specs.declared.place.BlockId.{BlockId}
use Rattle.sig_core.specs.declared.place.BlockId.TheVariants as block
use Rattle.sig_core.specs.declared.place.Part.TheVariants as part
use Rattle.sig_core.specs.declared.signal.Body.TheVariants.{Client}
use Rattle.sig_core.specs.declared.signal.Signal.{Signal}
use Rattle.sig_core.specs.declared.signal.client.ClientSignal.TheVariants.{TcCommitAck}
use Rattle.lqh_views.specs.Replica.{replica_row}
use Rattle.lqh_views.specs.State.{ReplicaState}
use Rattle.lqh_saver.specs.State.{saving}
use Rattle.lqh_saver.specs.Switching.{given_up}
use Rattle.lqh_saver.proofs.StepLemmas.{saver_rows}
use Rattle.node_views.specs.declared.ldm_part.LdmPart.{LdmPart}
use Rattle.node_views.specs.Parts.{ldm_row}
use Rattle.node_views.specs.WellFormed.{is_well_formed}
use Rattle.world_core.specs.Start.{NobodyStarts, Start, made}
use Rattle.world_core.specs.Steps.{HostStep}
use Rattle.world_views.specs.Machine.{after, step_after}
use Rattle.view_laws.specs.Runs.{view_after}
use Rattle.moment_laws.specs.PartSteps.{LdmDoes, PartEnters, PartTakes, handles, ignores, installs, ldm_kind, remains}
use Rattle.moment_laws.specs.Places.{ldm_of}
use Rattle.moment_laws.proofs.MomentHosts.{part_some}
use Rattle.moment_laws.proofs.PartKinds.{ldm_after}
use Rattle.request_laws.specs.Blocks.{no_replica, rows_after, rows_in}
use Rattle.request_laws.proofs.replicas.AlongLogs.{AreRows, rows_so}
use Rattle.commit_laws.proofs.markers.Lists.{AreKept, Remember, all_stay}
use Rattle.commit_laws.proofs.markers.Rows.{rows_kept}

module _ (start : Start) (nobody : NobodyStarts start) (member : Member) (there : IsIn member (made start)) where
  abbrev So : ReplicaState → Type 0
  So s = Unit {0}

  -- a part of rows runs there
  runs : (log : List HostStep)
      → AreRows So (after start (ldm_of start member) log).parts
  runs = rows_so So (λ s x so. tt) (λ s view so. tt) (λ s at has so. tt) start nobody member there tt

  module _ (log : List HostStep) (e : HostStep) (K : TxId → Bool)
      (acks : is_well_formed start.shape e.step.taken ≡ true → (tx : TxId)
      → e.step.taken.body ≡ Client (TcCommitAck tx) → K tx ≡ true)
      (all : Remember K (rows_after start member log).lqh)
    where
      abbrev x : Signal
      x = e.step.taken

      abbrev before : LdmPart
      before = (runs log).part

      rows_is : (rows_after start member log) ≡ before.replica
      rows_is = ap (rows_in (no_replica start member)) (runs log).is

      remembers : Remember K before.replica.lqh
      remembers = subst (λ (s : ReplicaState). Remember K s.lqh) rows_is all

      abbrev Kept : ReplicaState → Type 0
      Kept now = AreKept K before.replica.lqh now.lqh

      rests : Kept before.replica
      rests = (all_stay K before.replica.lqh.markers, remembers)

      did : LdmDoes start.shape before (view_after start (ldm_of start member) log) x
          (after start (ldm_of start member) (e ∷ log)).parts (view_after start (ldm_of start member) (e ∷ log))
          (step_after start (ldm_of start member) log e).effects.sends
      did = ldm_after start nobody (ldm_of start member) log e (part_some start part.Ldm member) before (runs log).is

      -- where a view is installed in them, or none
      abbrev IsLike : LdmPart → Type 0
      IsLike q =
          Remember K q.replica.lqh × ((now : ReplicaState) → AreKept K q.replica.lqh now.lqh → Kept now)

      like : PartEnters ldm_kind before (view_after start (ldm_of start member) log) x did.between
          (view_after start (ldm_of start member) (e ∷ log)) did.front → IsLike did.between
      like (remains same stands none) = subst IsLike (sym same) (remembers, λ now kept. kept)
      like (installs above same stands none) = subst IsLike (sym same) (remembers, λ now kept. kept)

      row_kept : is_well_formed start.shape x ≡ true → (q : LdmPart) → IsLike q → (b : BlockId)
          → Kept (ldm_row q b x).state.replica
      unfolding ldm_row
      row_kept sound q alike block.Lqh =
          saver_rows (saving q.replica q.saver) x Kept (alike.1 q.replica same)
          (alike.1 (replica_row q.replica x).state (rows_kept K q.replica alike.0 x (acks sound)))
          (λ at has. alike.1 (given_up q.replica at) same)
        where
          same : AreKept K q.replica.lqh q.replica.lqh
          same = (all_stay K q.replica.lqh.markers, alike.0)
      row_kept sound q alike _ = alike.1 q.replica (all_stay K q.replica.lqh.markers, alike.0)

      own_kept : PartTakes ldm_kind start.shape did.between (view_after start (ldm_of start member) (e ∷ log)) x did.own
          did.rest → Kept did.own.replica
      own_kept (ignores same none) =
          let alike = like did.enters in
          subst (λ (q : LdmPart). Kept q.replica) (sym same)
          (alike.1 did.between.replica (all_stay K did.between.replica.lqh.markers, alike.0))
      own_kept (handles passed same rest) =
          subst (λ (q : LdmPart). Kept q.replica) (sym same)
          (row_kept passed.sound did.between (like did.enters) x.to.block)

      pub rows_step : AreKept K (rows_after start member log).lqh (rows_after start member (e ∷ log)).lqh
      rows_step =
          subst (λ (s : ReplicaState). AreKept K s.lqh (rows_after start member (e ∷ log)).lqh) (sym rows_is)
          (subst Kept (sym (ap (rows_in (no_replica start member)) did.is)) (own_kept did.takes))
