-- No lock is held as hosts begin.
use Rattle.std.proofs.Common.{ℕ, zero, suc, ◌%◌, List}
use Rattle.sig_core.specs.declared.member.Member.{Member}
use Rattle.sig_core.specs.declared.member.TxId.{TxId}
use Rattle.sig_core.specs.declared.place.Part.{Part}
use Rattle.sig_core.specs.declared.place.Part.TheVariants.{Main, Tc, Ldm}
use Rattle.frag_map.specs.Layout.{Layout, first_layout}
use Rattle.node_core.specs.Blocks.{lqh_of}
use Rattle.node_core.specs.Fresh.{fresh_part, fresh_shell}
use Rattle.world_core.specs.Hosts.{member_at, part_by, started}
use Rattle.world_core.specs.Start.{Start, made}
use Rattle.calm_laws.proofs.known.Locks.{AreLocksOf, none_of}

part_locks : (K : TxId → Type 0) (of : Part) (member : Member) (layout : Layout) (epoch : ℕ)
    (rows : List (List ℕ × List ℕ)) → AreLocksOf K (lqh_of (fresh_part of member layout epoch rows)).locks
unfolding fresh_part
part_locks K Main member layout epoch rows = none_of K
part_locks K Tc member layout epoch rows = none_of K
part_locks K Ldm member layout epoch rows = none_of K

pub none_locked : (start : Start) (K : TxId → Type 0) (h : ℕ) → AreLocksOf K (lqh_of (started start h)).locks
unfolding fresh_shell started
none_locked start K zero = none_of K
none_locked start K (suc h) =
    part_locks K (part_by (h % 3)) (member_at (made start) (suc h)) (first_layout start.shape) start.epoch start.rows
