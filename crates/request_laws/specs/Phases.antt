-- What a coordinator has of each of its transactions, and what its node has decided of them.
use Rattle.std.specs.Prelude.{◌≡◌, ◌≤◌, ◌<◌, ◌⊎◌, ℕ, true, false, List, None, Some}
use Rattle.run_theory.specs.Lists.{Each}
use Rattle.run_theory.specs.Links.{sent}
use Rattle.sig_core.specs.declared.op.Answer.{Answer}
use Rattle.sig_core.specs.declared.op.Op.{Op}
use Rattle.sig_core.specs.declared.mark.Mark.TheVariants.{Decided}
use Rattle.sig_core.specs.declared.member.Member.{Member}
use Rattle.sig_core.specs.declared.member.TxId.{TxId}
use Rattle.sig_core.specs.declared.signal.Body.{Body}
use Rattle.sig_core.specs.declared.signal.Body.TheVariants.{Epoch}
use Rattle.sig_core.specs.declared.signal.epoch.EpochSignal.TheVariants.{DiVerifyConf, DiVerifyReq}
use Rattle.tc_block.specs.declared.phase.Phase.{Phase}
use Rattle.tc_block.specs.declared.phase.Phase.TheVariants.{Aborting, Committing, Completing, Open, Verifying}
use Rattle.tc_block.specs.declared.transaction.Transaction.{Transaction}
use Rattle.run_laws.specs.Keyed.{IsTouchedRightly}
use Rattle.world_core.specs.Entries.{ops_of}
use Rattle.world_core.specs.Start.{Start}
use Rattle.world_core.specs.Steps.{Addressed, HostStep}
use Rattle.view_laws.specs.Order.{sound_machine}
use Rattle.moment_laws.specs.Places.{tc_of}
use Rattle.outcome_laws.specs.Counts.{IsCoordinatorOf, coordinator_member}
use Rattle.outcome_laws.specs.Decided.{IsMarked}
use Rattle.request_laws.specs.Blocks.{coordinator_after}
use Rattle.request_laws.specs.Ways.{entry_of, has_gone_back, has_gone_forth}

module _ (start : Start) (member : Member) (log : List HostStep) where
  -- its node has decided the transaction, in this epoch, and these are the operations for which the epoch was asked
  pub record IsDecidedWith (tx : TxId) (epoch : ℕ) (ops : List (Op × Answer)) : Type 0 where
    pub marked : IsMarked (Decided tx epoch) log
    pub ops_are : ops_of tx log ≡ ops

  -- what is so of a transaction in a phase
  abbrev pub SaysIn : TxId → Transaction → Phase → Type 0
  SaysIn tx t Open = (has_gone_forth start member tx log ≡ false) × (has_gone_back start member tx log ≡ false)
  SaysIn tx t Verifying =
      (t.asked ≡ None)
      × ((has_gone_forth start member tx log ≡ false) × (has_gone_back start member tx log ≡ false))
  SaysIn tx t (Committing epoch awaited) =
      (t.asked ≡ None) × ((has_gone_back start member tx log ≡ false) × IsDecidedWith tx epoch t.ops)
  SaysIn tx t (Completing epoch awaited) =
      (t.asked ≡ None) × ((has_gone_back start member tx log ≡ false) × IsDecidedWith tx epoch t.ops)
  SaysIn tx t (Aborting why verifying awaited) = has_gone_forth start member tx log ≡ false

  abbrev pub SaysOf : TxId × Transaction → Type 0
  SaysOf e = SaysIn e.0 e.1 e.1.phase

  -- the transaction has gone one way, or still waits for its epoch with these operations
  pub record WaitsWith (tx : TxId) (ops : List (Op × Answer)) : Type 0 where
    pub transaction : Transaction
    pub there : entry_of (coordinator_after start member log) tx ≡ Some transaction
    pub phase : transaction.phase ≡ Verifying
    pub ops_are : transaction.ops ≡ ops

  abbrev pub HasGone : TxId → Type 0
  HasGone tx = (has_gone_forth start member tx log ≡ true) ⊎ (has_gone_back start member tx log ≡ true)

  -- what asks for an epoch, and what gives one
  pub record IsGivenWith (tx : TxId) (epoch : ℕ) : Type 0 where
    pub ops : List (Op × Answer)
    pub decided : IsDecidedWith tx epoch ops
    pub waits : HasGone tx ⊎ WaitsWith tx ops

  abbrev pub IsRightOf : Body → Type 0
  IsRightOf (Epoch (DiVerifyReq tx ops)) = HasGone tx ⊎ WaitsWith tx ops
  IsRightOf (Epoch (DiVerifyConf tx epoch)) = IsGivenWith tx epoch
  IsRightOf body = Unit {0}

-- All that stands of a coordinator and the epochs beside it, by their own log.
pub record CoordinatorStands (start : Start) (member : Member) (logs : ℕ → List HostStep) : Type 0 where
  pub of : IsCoordinatorOf member (coordinator_after start member (logs (tc_of start member)))
  -- of what it hasn't forgotten
  pub says : Each (SaysOf start member (logs (tc_of start member)))
      (coordinator_after start member (logs (tc_of start member))).tc.live
  pub keyed : Each (λ (e : TxId × Transaction). IsTouchedRightly e.1)
      (coordinator_after start member (logs (tc_of start member))).tc.live
  -- of what it has begun and forgotten, which has gone one way; and none goes both
  pub forgotten : (tx : TxId) → coordinator_member tx ≡ member
      → tx.seq < (coordinator_after start member (logs (tc_of start member))).tc.next_seq → 1 ≤ tx.seq
      → entry_of (coordinator_after start member (logs (tc_of start member))) tx ≡ None
      → HasGone start member (logs (tc_of start member)) tx
  pub one_way : (tx : TxId) → has_gone_forth start member tx (logs (tc_of start member)) ≡ true
      → has_gone_back start member tx (logs (tc_of start member)) ≡ false
  -- who has gone forth was decided
  pub forth : (tx : TxId) → has_gone_forth start member tx (logs (tc_of start member)) ≡ true
      → (epoch : ℕ) × IsMarked (Decided tx epoch) (logs (tc_of start member))
  -- of each decision of its node
  pub decided : (tx : TxId) (epoch : ℕ) → IsMarked (Decided tx epoch) (logs (tc_of start member))
      → IsGivenWith start member (logs (tc_of start member)) tx epoch
  -- and of what its host has sent to itself
  pub signals : Each (λ (x : Addressed). IsRightOf start member (logs (tc_of start member)) x.signal.body)
      (sent (sound_machine start) (tc_of start member) (tc_of start member) (logs (tc_of start member)))
