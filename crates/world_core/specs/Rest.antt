-- Keys at rest, and what the replicas have of them.
use Rattle.std.specs.List.{list_any}
use Rattle.std.specs.Prelude.{◌≡◌, ℕ, ◌&&◌, Bool, true, false, List, ◌∷◌, ◌++◌}
use Rattle.run_theory.specs.Lists.{IsIn}
use Rattle.world_core.specs.Steps.{HostStep}
use Rattle.sig_core.specs.declared.mark.Mark.{Mark}
use Rattle.sig_core.specs.declared.mark.Mark.TheVariants.{Prepared, Done}
use Rattle.sig_core.specs.declared.member.Member.{Member}
use Rattle.sig_core.specs.declared.member.TxId.{TxId}
use Rattle.sig_core.specs.Same.{same_key, same_tx}
use Rattle.world_core.specs.Marks.{has_mark}
use Rattle.frag_map.specs.Layout.{holds}
use Rattle.world_core.specs.Hosts.{rows_host}
use Rattle.world_core.specs.Start.{Start}
use Rattle.world_core.specs.Views.{live_nodes}

-- a replica prepared the transaction's write of the key
abbrev pub is_prepared : TxId → List ℕ → Mark → Bool
is_prepared tx key (Prepared other at) = same_tx other tx && same_key at key
is_prepared tx key mark = false

-- it is done with the transaction's part in the key
abbrev pub is_done_mark : TxId → List ℕ → Mark → Bool
is_done_mark tx key (Done other at) = same_tx other tx && same_key at key
is_done_mark tx key mark = false

-- in this log every preparation of a write of the key is followed by the end of the same transaction's part in it
abbrev pub IsSettled : List ℕ → List HostStep → Type 0
IsSettled key log =
    (newer : List HostStep) (e : HostStep) (older : List HostStep) (tx : TxId) → log ≡ newer ++ e ∷ older
    → list_any (is_prepared tx key) e.step.marks ≡ true
    → has_mark (is_done_mark tx key) newer ≡ true

-- the member is a live replica of the key: a live node of the group that has it
pub record IsLiveReplica (start : Start) (logs : ℕ → List HostStep) (key : List ℕ) (member : Member) : Type 0 where
  pub live : IsIn member (live_nodes start logs)
  pub holding : holds start.shape member.node key ≡ true

-- the key is at rest: it is settled at the rows of each live replica
abbrev pub IsAtRest : Start → (ℕ → List HostStep) → List ℕ → Type 0
IsAtRest start logs key =
    (member : Member) → IsLiveReplica start logs key member → IsSettled key (logs (rows_host start member.node))
