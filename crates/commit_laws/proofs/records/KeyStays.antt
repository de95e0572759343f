-- What an event of another transaction leaves one that holds the lock of a key: its record, its hold on the lock,
-- and the row.
use Rattle.std.proofs.Common.{◌≡◌, ◌∙◌, ℕ, Bool, true, false, List, refl, sym, ap, subst}
use Rattle.std.proofs.lemmas.Bool.{true≢false}
use Rattle.std.specs.Prelude.{if◌then◌else◌, Option, None, Some}
use Rattle.sig_core.specs.declared.member.TxId.{TxId}
use Rattle.sig_core.specs.declared.op.Answer.{Answer}
use Rattle.sig_core.specs.declared.op.Answer.TheVariants.{Done, E626, E630, Found, Missing}
use Rattle.sig_core.specs.declared.op.Op.{Op}
use Rattle.sig_core.specs.declared.rows.PendingRecord.{PendingRecord}
use Rattle.sig_core.specs.declared.signal.chain.RowWork.{RowWork}
use Rattle.sig_core.specs.declared.signal.chain.RowWork.TheVariants.{Operate, Store}
use Rattle.sig_core.specs.Firsts.{first}
use Rattle.sig_core.specs.Op.{answer_to, image_of, key_of}
use Rattle.sig_core.specs.Same.{same_tx}
use Rattle.sig_core.proofs.Keys.{same_tx-self}
use Rattle.row_locks.specs.declared.mode.Lock.{Lock}
use Rattle.row_locks.specs.declared.mode.Lock.TheVariants.{Granted, Queued}
use Rattle.row_locks.specs.declared.mode.Mode.TheVariants.{Exclusive}
use Rattle.row_locks.specs.Holders.{holds, holds_enough}
use Rattle.row_locks.specs.Orderly.{IsOrderly}
use Rattle.row_locks.specs.Rows.{RowLock, asked, grown_old, unwaited}
use Rattle.row_locks.proofs.OrderlyLemmas.{grown_old_orderly}
use Rattle.lqh_block.specs.declared.request.Request.{Request}
use Rattle.lqh_block.specs.Work.{work_mode}
use Rattle.key_laws.proofs.KeyAfter.{asked_lock, served_lock}
use Rattle.key_laws.specs.Primary.{HasPrepared, HoldOn}
use Rattle.key_laws.specs.PrimaryLaws.{nobody_gone}
use Rattle.key_laws.specs.Records.{committed_row, found, seen_by}
use Rattle.key_laws.specs.Replica.{Cell, Event, Replica, aborts, ages, asked_by, asks, commits, completes, expires}
use Rattle.key_laws.specs.Replica.{is_let_in, key_after, operated, rests, served_by, serves, storing, worked}
use Rattle.key_laws.proofs.Holding.{only_holder}
use Rattle.key_laws.proofs.LockHolding.{expiries_hold_on, releases_hold_on, requests_hold_on}
use Rattle.run_laws.proofs.circle.OthersStay.{is_of, of_first, others_stay}

-- The transaction of which an event does something, but for ending a wait: it asks, is served, or comes to its end
-- there.
abbrev pub worker_of : Event → Replica → Option TxId
worker_of (asks q refused) r = Some q.tx
worker_of (serves refused) r = of_first (first (is_let_in r.lock) r.waiting)
worker_of (commits u first) r = Some u
worker_of (completes u) r = Some u
worker_of (aborts u) r = Some u
worker_of event r = None

pub record_stays : (tx : TxId) (event : Event) (r : Replica) → is_of tx (worker_of event r) ≡ false
    → found tx (key_after event r).cell.pending ≡ found tx r.cell.pending
record_stays tx rests r off = refl
record_stays tx (asks q refused) r off = (others_stay tx (asks q refused) r off).found_is
record_stays tx (serves refused) r off = (others_stay tx (serves refused) r off).found_is
record_stays tx (commits u first) r off = (others_stay tx (commits u first) r off).found_is
record_stays tx (completes u) r off = (others_stay tx (completes u) r off).found_is
record_stays tx (aborts u) r off = (others_stay tx (aborts u) r off).found_is
record_stays tx (expires u) r off = refl
record_stays tx (ages None) r off = refl
record_stays tx (ages (Some u)) r off = refl

-- whoever has something prepared on the key holds its lock exclusive
abbrev pub AreHeld : Replica → Type 0
AreHeld r = (u : TxId) → HasPrepared u r.cell.pending → holds_enough u Exclusive r.lock.holders ≡ true

-- no request moves the row
storing_row : (c : Cell) (u : TxId) (key : List ℕ) (image : Option (List ℕ)) (refused : Bool)
    → (storing c u key image refused).row ≡ c.row
storing_row c u key image true = refl
storing_row c u key image false = refl

operated_row : (c : Cell) (u : TxId) (op : Op) (refused : Bool) (answer : Answer)
    → (operated c u op refused answer).row ≡ c.row
operated_row c u op refused Done = storing_row c u (key_of op) (image_of op) refused
operated_row c u op refused (Found value) = refl
operated_row c u op refused Missing = refl
operated_row c u op refused E626 = refl
operated_row c u op refused E630 = refl

pub worked_row : (c : Cell) (u : TxId) (refused : Bool) (w : RowWork) → (worked c u refused w).row ≡ c.row
worked_row c u refused (Operate op) = operated_row c u op refused (answer_to op (seen_by c.row (found u c.pending)))
worked_row c u refused (Store key image) = storing_row c u key image refused

asked_row : (r : Replica) (now : RowLock) (q : Request) (refused : Bool) (answer : Lock)
    → (asked_by r now q refused answer).cell.row ≡ r.cell.row
asked_row r now q refused Granted = worked_row r.cell q.tx refused q.work
asked_row r now q refused (Queued ahead) = refl

served_row : (r : Replica) (refused : Bool) (o : Option Request) → (served_by r refused o).cell.row ≡ r.cell.row
served_row r refused None = refl
served_row r refused (Some q) = worked_row r.cell q.tx refused q.work

module _ (tx : TxId) (r : Replica) (orderly : IsOrderly r.lock) where
  -- nobody else has something prepared where it holds the lock
  alone : AreHeld r → (u : TxId) → same_tx u tx ≡ false → holds tx r.lock.holders ≡ true
      → (o : Option PendingRecord) → found u r.cell.pending ≡ o → committed_row r.cell.row o ≡ r.cell.row
  alone held u off own None is = refl
  alone held u off own (Some y) is = by y.committed refl
    where
      by : (b : Bool) → y.committed ≡ b → (if b then r.cell.row else y.image) ≡ r.cell.row
      by true done = refl
      by false still =
          let exclusive = held u (record { record_is = y; there = is; prepared = still }) in
          let same : tx ≡ u = only_holder r.lock.holders orderly.agreed u tx exclusive own in
          absurd (true≢false (sym (ap (λ t. same_tx t tx) (sym same) ∙ same_tx-self tx) ∙ off))

  pub row_stays : (event : Event) → AreHeld r → is_of tx (worker_of event r) ≡ false → holds tx r.lock.holders ≡ true
      → (key_after event r).cell.row ≡ r.cell.row
  row_stays rests held off own = refl
  row_stays (asks q refused) held off own =
      asked_row r (asked r.lock q.tx (work_mode q.work)).lock q refused (asked r.lock q.tx (work_mode q.work)).answer
  row_stays (serves refused) held off own = served_row r refused (first (is_let_in r.lock) r.waiting)
  row_stays (commits u true) held off own = alone held u off own (found u r.cell.pending) refl
  row_stays (commits u false) held off own = alone held u off own (found u r.cell.pending) refl
  row_stays (completes u) held off own = refl
  row_stays (aborts u) held off own = refl
  row_stays (expires u) held off own = refl
  row_stays (ages None) held off own = refl
  row_stays (ages (Some u)) held off own = refl

  -- and it holds on
  pub record HoldsOn (before after : RowLock) : Type 0 where
    pub held : holds tx before.holders ≡ true → holds tx after.holders ≡ true
    pub exclusive : holds_enough tx Exclusive before.holders ≡ true → holds_enough tx Exclusive after.holders ≡ true

  from : (gone : TxId → Bool) (before after : RowLock) → gone tx ≡ false → HoldOn gone before.holders after.holders
      → HoldsOn before after
  from gone before after spared on =
      record { held = λ is. on.held tx spared is; exclusive = λ is. on.exclusive tx spared is }

  aged : (u : TxId) → HoldsOn r.lock (unwaited (grown_old r.lock) u).lock
  aged u =
      let on = expiries_hold_on (grown_old r.lock) u (grown_old_orderly r.lock orderly) in
      record { held = λ is. on.held tx refl is; exclusive = λ is. on.exclusive tx refl is }

  pub holds_stay : (event : Event) → is_of tx (worker_of event r) ≡ false → HoldsOn r.lock (key_after event r).lock
  holds_stay rests off = record { held = λ is. is; exclusive = λ is. is }
  holds_stay (asks q refused) off =
      subst (HoldsOn r.lock)
      (sym (asked_lock r (asked r.lock q.tx (work_mode q.work)).lock q refused
      (asked r.lock q.tx (work_mode q.work)).answer))
      (from nobody_gone r.lock (asked r.lock q.tx (work_mode q.work)).lock refl
      (requests_hold_on r.lock q.tx (work_mode q.work) orderly))
  holds_stay (serves refused) off =
      subst (HoldsOn r.lock) (sym (served_lock r refused (first (is_let_in r.lock) r.waiting)))
      (record { held = λ is. is; exclusive = λ is. is })
  holds_stay (commits u true) off = from (same_tx u) r.lock _ off (releases_hold_on r.lock u orderly)
  holds_stay (commits u false) off = record { held = λ is. is; exclusive = λ is. is }
  holds_stay (completes u) off = from (same_tx u) r.lock _ off (releases_hold_on r.lock u orderly)
  holds_stay (aborts u) off = from (same_tx u) r.lock _ off (releases_hold_on r.lock u orderly)
  holds_stay (expires u) off = from nobody_gone r.lock _ refl (expiries_hold_on r.lock u orderly)
  holds_stay (ages None) off = record { held = λ is. is; exclusive = λ is. is }
  holds_stay (ages (Some u)) off = aged u
