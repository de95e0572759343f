-- What the rows of a host are as it begins: nobody asked them for anything.
use Rattle.std.proofs.Common.{◌≡◌, ℕ, zero, suc, ◌%◌, List, [], refl, ap, ◌∙◌}
use Rattle.sig_core.specs.declared.member.Member.{Member}
use Rattle.sig_core.specs.declared.place.Part.{Part}
use Rattle.sig_core.specs.declared.place.Part.TheVariants as part
use Rattle.sig_core.specs.Journal.{JournalState, OutletState}
use Rattle.sig_core.specs.Rows.{RowsState, no_rows}
use Rattle.frag_map.specs.Layout.{Layout, first_layout}
use Rattle.lqh_block.specs.Lqh.{unasked_yet}
use Rattle.lqh_block.specs.State.{LqhState}
use Rattle.node_core.specs.Blocks.{lqh_of}
use Rattle.node_core.specs.Fresh.{fresh_part, fresh_shell, own_rows}
use Rattle.world_core.specs.Hosts.{member_at, part_by, started}
use Rattle.world_core.specs.Start.{Start, made}
use Rattle.key_laws.specs.Replica.{at_key}
use Rattle.key_laws.proofs.EpochLemmas.{epochless}
use Rattle.key_laws.proofs.RecordsAt.{on}
use Rattle.host_laws.specs.ReplicaLaws.{key_in}
use Rattle.host_laws.proofs.rows.Replicas.{started_pending}

pub record IsUnasked (s : LqhState) : Type 0 where
  pub node : ℕ
  pub layout : Layout
  pub rows : RowsState
  pub journal : JournalState
  pub outlet : OutletState
  pub pending : rows.pending ≡ []
  pub is : s ≡ unasked_yet node layout rows journal outlet

part_unasked : (p : Part) (member : Member) (layout : Layout) (epoch : ℕ) (rows : List (List ℕ × List ℕ))
    → IsUnasked (lqh_of (fresh_part p member layout epoch rows))
unfolding fresh_part
part_unasked part.Main member layout epoch rows = record {
  node = _;
  layout = _;
  rows = _;
  journal = _;
  outlet = _;
  pending = refl;
  is = refl;
}
part_unasked part.Tc member layout epoch rows = record {
  node = _;
  layout = _;
  rows = _;
  journal = _;
  outlet = _;
  pending = refl;
  is = refl;
}
part_unasked part.Ldm member layout epoch rows = record {
  node = _;
  layout = _;
  rows = _;
  journal = _;
  outlet = _;
  pending = started_pending no_rows
      (own_rows layout.shape member.node rows) epoch;
  is = refl;
}

pub started_unasked : (start : Start) (h : ℕ) → IsUnasked (lqh_of (started start h))
unfolding started fresh_shell
started_unasked start zero = record {
  node = _;
  layout = _;
  rows = _;
  journal = _;
  outlet = _;
  pending = refl;
  is = refl;
}
started_unasked start (suc h) =
    part_unasked (part_by (h % 3)) (member_at (made start) (suc h)) (first_layout start.shape) start.epoch start.rows

-- no key has a record
pub none_pending : (start : Start) (h : ℕ) (key : List ℕ) → (key_in key (started start h)).cell.pending ≡ []
none_pending start h key =
    let fresh = started_unasked start h in
    ap (λ l. (at_key key l).cell.pending) fresh.is ∙ ap (λ xs. epochless (on key xs)) fresh.pending
