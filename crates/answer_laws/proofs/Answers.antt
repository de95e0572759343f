-- At quiet each command is answered, but for an operation that waits for a lock.
use Rattle.std.proofs.Common.{◌≡◌, ◌<◌, ℕ, List, true, false, refl, ap, sym, ◌∙◌}
use Rattle.std.specs.Prelude.{is_some, Option, None, Some}
use Rattle.std.proofs.lemmas.Bool.{false≢true, true≢false}
use Rattle.api_block.specs.declared.opened.Doing.{Doing}
use Rattle.api_block.specs.declared.opened.Doing.TheVariants.{Beginning, Ready, Operating, Committing}
use Rattle.api_block.specs.declared.opened.OpenTransaction.{OpenTransaction}
use Rattle.api_block.specs.Opened.{is_beginning}
use Rattle.run_theory.specs.Lists.{IsIn}
use Rattle.world_core.specs.Steps.{HostStep}
use Rattle.sig_core.specs.declared.member.TxId.{TxId}
use Rattle.tc_block.specs.declared.phase.Asked.{Asked}
use Rattle.tc_block.specs.declared.phase.Phase.{Phase}
use Rattle.tc_block.specs.declared.phase.Phase.TheVariants as phases
use Rattle.tc_block.specs.Abort.{is_verifying}
use Rattle.world_core.specs.Hosts.{home, first_hosts}
use Rattle.world_core.specs.Machine.{after}
use Rattle.world_core.specs.Start.{Start}
use Rattle.answer_laws.proofs.Aborts.{no_abort}
use Rattle.answer_laws.proofs.Begins.{no_begin}
use Rattle.answer_laws.proofs.Heeded.{asked_where_operating, closed_where_committing, each_numbered}
use Rattle.answer_laws.proofs.Lives.{live_low}
use Rattle.answer_laws.proofs.Queued.{operations_queue}
use Rattle.answer_laws.proofs.Serves.{each_served}
use Rattle.answer_laws.proofs.Verified.{no_epoch}
use Rattle.answer_laws.specs.Answered.{AreQuiet, EachIsAnswered, IsOpenAt, IsKeptByCoordinator, WaitsForLock}
use Rattle.answer_laws.specs.Answered.{is_answered_by, is_operating}
use Rattle.host_laws.specs.OpenedAfter.{opened_after}
use Rattle.tc_block.specs.Phases.{is_aborting, is_committing, is_completing}

-- a phase that is none of the others is the open one
pub only_open : (phase : Phase) → is_verifying phase ≡ false → is_committing phase ≡ false → is_completing phase ≡ false
    → is_aborting phase ≡ false → phase ≡ phases.Open
only_open phases.Open v c d a = refl
only_open phases.Verifying v c d a = absurd (false≢true (sym v))
only_open (phases.Committing epoch k) v c d a = absurd (false≢true (sym c))
only_open (phases.Completing epoch k) v c d a = absurd (false≢true (sym d))
only_open (phases.Aborting why w k) v c d a = absurd (false≢true (sym a))

module _ (start : Start) (logs : ℕ → List HostStep) (t : OpenTransaction) (quiet : AreQuiet start logs)
    (inside : IsIn t (opened_after start logs)) where
  module _ (tx : TxId) (is : t.tx ≡ Some tx) where
    served : IsKeptByCoordinator start logs t tx
    served = each_served start logs t quiet inside tx is

    low : home start tx < first_hosts start
    low = live_low start logs tx served.transaction quiet (home start tx) served.live

    -- where it has nothing unanswered it is open
    open_unasked : served.transaction.asked ≡ None → served.transaction.phase ≡ phases.Open
    open_unasked none =
        only_open served.transaction.phase
        (no_epoch start logs (home start tx) tx served.transaction quiet low served.live) served.uncommitted
        served.unreported
        (no_abort start logs (home start tx) tx served.transaction quiet low served.live none)

    -- nothing is unanswered where nothing was sent
    unasked : is_operating t.doing ≡ false → (o : Option Asked) → served.transaction.asked ≡ o
        → served.transaction.asked ≡ None
    unasked off None e = e
    unasked off (Some asked) e = absurd (false≢true (sym off ∙ served.operating asked e))

    queued : (o : Option Asked) → served.transaction.asked ≡ o → is_some o ≡ true → WaitsForLock start logs tx
    queued None e on = absurd (false≢true on)
    queued (Some asked) e on =
        operations_queue start logs (home start tx) tx served.transaction asked quiet low served.live e

    -- an operation that was sent is unanswered, or the transaction would be open and have it so
    operating_queued : t.doing ≡ Operating → (o : Option Asked) → served.transaction.asked ≡ o
        → WaitsForLock start logs tx
    operating_queued doing (Some asked) e = queued (Some asked) e refl
    operating_queued doing None e = absurd
        (false≢true (sym (ap is_some e) ∙ asked_where_operating start logs t quiet inside tx served.transaction is doing
        served.live (open_unasked e)))

    ready_open : t.doing ≡ Ready → IsOpenAt tx (after start (home start tx) (logs (home start tx)))
    ready_open doing =
        let none = unasked (ap is_operating doing) served.transaction.asked refl in
        record { transaction = served.transaction; live = served.live; phase = open_unasked none; asked = none }

    never_committing : t.doing ≡ Committing → ⊥
    never_committing doing =
        closed_where_committing start logs t quiet inside tx served.transaction is doing served.live
        (open_unasked (unasked (ap is_operating doing) served.transaction.asked refl))

  by_tx : (doing : Doing) → t.doing ≡ doing → (o : Option TxId) → t.tx ≡ o → is_answered_by start logs doing o
  by_tx Ready d (Some tx) e = ready_open tx e d
  by_tx Operating d (Some tx) e = operating_queued tx e d (served tx e).transaction.asked refl
  by_tx Committing d (Some tx) e = absurd (never_committing tx e d)
  by_tx (Beginning op) d (Some tx) e =
      absurd (true≢false (sym (ap is_beginning d) ∙ no_begin start logs t quiet inside))
  by_tx Ready d None e =
      absurd (false≢true (sym (ap is_some e) ∙ each_numbered start logs t quiet inside (ap is_beginning d)))
  by_tx Operating d None e =
      absurd (false≢true (sym (ap is_some e) ∙ each_numbered start logs t quiet inside (ap is_beginning d)))
  by_tx Committing d None e =
      absurd (false≢true (sym (ap is_some e) ∙ each_numbered start logs t quiet inside (ap is_beginning d)))
  by_tx (Beginning op) d None e = absurd (true≢false (sym (ap is_beginning d) ∙ no_begin start logs t quiet inside))

pub each_answered : EachIsAnswered
each_answered start logs t quiet inside = by_tx start logs t quiet inside t.doing refl t.tx refl
