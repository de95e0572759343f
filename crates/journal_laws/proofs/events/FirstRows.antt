-- The rows with which a member begins: they are orderly, and have nothing pending.
use Rattle.std.proofs.Common.{◌≡◌, ℕ, List, [], ◌∷◌, sym, ap, ◌∙◌, subst}
use Rattle.frag_map.specs.Shape.{IsShape}
use Rattle.run_theory.specs.Lists.{Each, IsIn}
use Rattle.sig_core.specs.declared.member.Member.{Member}
use Rattle.sig_core.specs.Rows.{RowsState, no_rows, put_row}
use Rattle.local_ckpt.specs.Orderly.{IsOrderly}
use Rattle.local_ckpt.proofs.LawLemmas.{orderly}
use Rattle.lqh_views.specs.State.{ReplicaState}
use Rattle.node_core.specs.Fresh.{own_rows, with_rows}
use Rattle.node_views.specs.declared.host_body.HostBody as hosts
use Rattle.world_core.specs.Start.{NobodyStarts, Start, made}
use Rattle.world_views.proofs.FreshBodies.{none_pending}
use Rattle.moment_laws.proofs.MomentHosts.{ldm_started}
use Rattle.request_laws.specs.Blocks.{no_replica, rows_after, rows_in}
use Rattle.request_laws.proofs.replicas.AlongLogs as along
use Rattle.journal_laws.specs.Journal.{first_rows, lqh_after}
use Rattle.journal_laws.proofs.events.Writable.{AreWritable, IsOwned}

put_orderly : (s : RowsState) (rows : List (List ℕ × List ℕ)) (epoch : ℕ) → IsOrderly s
    → IsOrderly (with_rows s rows epoch)
put_orderly s [] epoch is = is
put_orderly s (r ∷ rows) epoch is =
    put_orderly (put_row s r.0 r.1 epoch) rows epoch (orderly.put s r.0 r.1 epoch is)

module _ (start : Start) (nobody : NobodyStarts start) (member : Member) (there : IsIn member (made start)) where
  pub first_replica : rows_after start member [] ≡ along.first_rows start member
  first_replica =
      ap (λ (s : hosts.HostBody). rows_in (no_replica start member) s.parts) (ldm_started start nobody member there)

  -- those of the life that are the member's
  abbrev own : List (List ℕ × List ℕ)
  own = own_rows start.shape member.node start.rows

  pub first_pending : (first_rows start member).pending ≡ []
  first_pending =
      ap (λ (s : ReplicaState). s.lqh.rows.pending) first_replica ∙ none_pending no_rows own start.start_epoch

  pub first_orderly : IsOrderly (first_rows start member)
  first_orderly =
      subst (λ (s : ReplicaState). IsOrderly s.lqh.rows) (sym first_replica)
      (put_orderly no_rows own start.start_epoch orderly.none)

  -- their journal can be written
  pub first_writable : IsShape start.shape → AreWritable (lqh_after start member [])
  first_writable shape =
      subst (λ (s : ReplicaState). AreWritable s.lqh) (sym first_replica)
      (record {
        fragments_some = shape.fragments_some;
        fragments_few = shape.fragments_few;
        waiting = tt;
        pending = subst (Each IsOwned) (sym (none_pending no_rows own start.start_epoch)) tt;
      })
