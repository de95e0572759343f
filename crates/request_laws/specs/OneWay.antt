-- A transaction goes one way at its coordinator.
use Rattle.std.specs.Prelude.{◌≡◌, ◌≤◌, ◌⊎◌, true, false, List, None}
use Rattle.run_theory.specs.Lists.{IsIn}
use Rattle.sig_core.specs.declared.member.Member.{Member}
use Rattle.sig_core.specs.declared.member.TxId.{TxId}
use Rattle.world_core.specs.Start.{NobodyStarts, Start, made}
use Rattle.world_core.specs.Steps.{HostStep}
use Rattle.outcome_laws.specs.Counts.{coordinator_member, is_unborn}
use Rattle.request_laws.specs.Blocks.{coordinator_after}
use Rattle.request_laws.specs.Ways.{entry_of, has_gone_back, has_gone_forth}

-- along a log of a coordinator's host: it isn't both committed and given up, and whoever was begun and is forgotten was
-- one of them
pub record GoesOneWay (start : Start) (member : Member) (tx : TxId) (log : List HostStep) : Type 0 where
  pub one_way : has_gone_forth start member tx log ≡ true → has_gone_back start member tx log ≡ false
  pub forgotten : coordinator_member tx ≡ member → is_unborn (coordinator_after start member log) tx ≡ false
      → 1 ≤ tx.seq
      → entry_of (coordinator_after start member log) tx ≡ None
      → (has_gone_forth start member tx log ≡ true) ⊎ (has_gone_back start member tx log ≡ true)

abbrev pub TransactionsGoOneWay : Type 0
TransactionsGoOneWay =
    (start : Start) → NobodyStarts start → (member : Member) → IsIn member (made start)
    → (tx : TxId) (log : List HostStep)
    → GoesOneWay start member tx log
