-- Who holds the lock of a key exclusive goes on so at each event but those by which it lets go; and who has a record
-- prepared holds it, if it holds it as it was let in.
use Rattle.std.proofs.Common.{◌≡◌, ◌⊎◌, ◌∙◌, ℕ, Bool, true, false, List, [], ◌∷◌, refl, sym, ap, subst, inl, inr}
use Rattle.std.proofs.lemmas.Bool.{not-true, true≢false}
use Rattle.std.specs.Prelude.{if◌then◌else◌, Option, None, Some}
use Rattle.sig_core.specs.declared.member.TxId.{TxId}
use Rattle.sig_core.specs.declared.op.Answer.{Answer}
use Rattle.sig_core.specs.declared.op.Answer.TheVariants.{Done, Found, Missing, E626, E630}
use Rattle.sig_core.specs.declared.op.Op.{Op}
use Rattle.sig_core.specs.declared.rows.PendingRecord.{PendingRecord}
use Rattle.sig_core.specs.declared.signal.chain.RowWork.{RowWork}
use Rattle.sig_core.specs.declared.signal.chain.RowWork.TheVariants.{Operate, Store}
use Rattle.sig_core.specs.Firsts.{first}
use Rattle.sig_core.specs.Op.{answer_to, image_of, key_of}
use Rattle.sig_core.specs.Rows.{prepared}
use Rattle.sig_core.specs.Same.{same_tx}
use Rattle.sig_core.proofs.TxLemmas.{same_tx-is}
use Rattle.row_locks.specs.declared.mode.Lock.{Lock}
use Rattle.row_locks.specs.declared.mode.Lock.TheVariants.{Granted, Queued}
use Rattle.row_locks.specs.declared.mode.Mode.TheVariants.{Exclusive}
use Rattle.row_locks.specs.Holders.{holds_enough}
use Rattle.row_locks.specs.Orderly.{IsOrderly}
use Rattle.row_locks.specs.Queues.{waits}
use Rattle.row_locks.specs.Rows.{RowLock, asked, grown_old}
use Rattle.row_locks.proofs.OrderlyLemmas.{grown_old_orderly}
use Rattle.lqh_block.specs.declared.request.Request.{Request}
use Rattle.lqh_block.specs.Work.{op_mode, work_mode}
use Rattle.key_laws.proofs.KeyAfter.{asked_lock, served_lock}
use Rattle.key_laws.specs.LockLaws.{is_attended}
use Rattle.key_laws.specs.Records.{AreOnce, as_committed, committed, edited, found, if_committed, seen_by}
use Rattle.key_laws.specs.Records.{unless_committed}
use Rattle.key_laws.specs.Replica.{Cell, Event, Replica, aborts, ages, asked_by, asks, commits, completes, expires}
use Rattle.key_laws.specs.Replica.{is_let_in, key_after, operated, rests, served_by, serves, storing, worked}
use Rattle.key_laws.proofs.LockHolding.{expiries_hold_on, grants_hold, releases_hold_on, requests_hold_on}
use Rattle.key_laws.proofs.LockWaiting.{attended_hold}
use Rattle.key_laws.proofs.RecordLemmas.{KeepsTx, committed_keeps, found-edited, found-stored, if_keeps, unless_keeps}
use Rattle.key_laws.proofs.Waiting.{each-first_item}
use Rattle.key_laws.proofs.PrimaryGood.{writes_exclusive}
use Rattle.request_laws.specs.Waiting.{AreAttended}
use Rattle.commit_laws.proofs.records.Moves.{found_own, now_by}

-- the first that passes a test does
pub first_passes : {A : Type 0} (p : A → Bool) (xs : List A) (x : A) → first p xs ≡ Some x → p x ≡ true
first_passes p [] x is = absurd cc
first_passes p (y ∷ ys) x is = by (p y) refl is (first_passes p ys x)
  where
    by : (b : Bool) → p y ≡ b → (if b then Some y else first p ys) ≡ Some x → (first p ys ≡ Some x → p x ≡ true)
        → p x ≡ true
    by true e is more = let one : y ≡ x = cc in ap p (sym one) ∙ e
    by false e is more = more is

module _ (tx : TxId) where
  abbrev pub holds : Replica → Bool
  holds r = holds_enough tx Exclusive r.lock.holders

  -- the event lets go of its lock
  abbrev pub lets_go : Event → Bool
  lets_go (commits u true) = same_tx u tx
  lets_go (completes u) = same_tx u tx
  lets_go (aborts u) = same_tx u tx
  lets_go event = false

  pub hold_after : (event : Event) (r : Replica) → IsOrderly r.lock → lets_go event ≡ false → holds r ≡ true
      → holds (key_after event r) ≡ true
  hold_after rests r orderly stays is = is
  hold_after (asks q refused) r orderly stays is =
      ap (λ (l : RowLock). holds_enough tx Exclusive l.holders)
      (asked_lock r (asked r.lock q.tx (work_mode q.work)).lock q refused (asked r.lock q.tx (work_mode q.work)).answer)
      ∙ (requests_hold_on r.lock q.tx (work_mode q.work) orderly).exclusive tx refl is
  hold_after (serves refused) r orderly stays is =
      ap (λ (l : RowLock). holds_enough tx Exclusive l.holders)
      (served_lock r refused (first (is_let_in r.lock) r.waiting)) ∙ is
  hold_after (commits u true) r orderly stays is = (releases_hold_on r.lock u orderly).exclusive tx stays is
  hold_after (commits u false) r orderly stays is = is
  hold_after (completes u) r orderly stays is = (releases_hold_on r.lock u orderly).exclusive tx stays is
  hold_after (aborts u) r orderly stays is = (releases_hold_on r.lock u orderly).exclusive tx stays is
  hold_after (expires u) r orderly stays is = (expiries_hold_on r.lock u orderly).exclusive tx refl is
  hold_after (ages None) r orderly stays is = is
  hold_after (ages (Some u)) r orderly stays is =
      (expiries_hold_on (grown_old r.lock) u (grown_old_orderly r.lock orderly)).exclusive tx refl is

  -- it has a record that isn't committed
  pub record HasPrepared (pending : List PendingRecord) : Type 0 where
    pub own : PendingRecord
    pub there : found tx pending ≡ Some own
    pub still : own.committed ≡ false

  same_prepared : (before after : List PendingRecord) → found tx after ≡ found tx before → HasPrepared after
      → HasPrepared before
  same_prepared before after same h = record { own = h.own; there = sym same ∙ h.there; still = h.still }

  -- what a request makes prepared was so, or is its own and needs the lock exclusive
  abbrev IsOwn : TxId → RowWork → Type 0
  IsOwn u w = (same_tx u tx ≡ true) × (work_mode w ≡ Exclusive)

  stored_prepared : (c : Cell) (u : TxId) (key : List ℕ) (image : Option (List ℕ)) (refused : Bool) (w : RowWork)
      → work_mode w ≡ Exclusive → HasPrepared (storing c u key image refused).pending
      → HasPrepared c.pending ⊎ IsOwn u w
  stored_prepared c u key image true w mode h = inl h
  stored_prepared c u key image false w mode h = by (same_tx u tx) refl
    where
      by : (b : Bool) → same_tx u tx ≡ b → HasPrepared c.pending ⊎ IsOwn u w
      by true e = inr (e, mode)
      by false e =
          inl (same_prepared c.pending (storing c u key image false).pending
          (found-stored tx (prepared u key image) c.pending
          ∙ ap (λ b. if b then Some (prepared u key image) else found tx c.pending) e) h)

  operated_prepared : (c : Cell) (u : TxId) (op : Op) (refused : Bool) (answer : Answer)
      → (answer ≡ Done → op_mode op ≡ Exclusive) → HasPrepared (operated c u op refused answer).pending
      → HasPrepared c.pending ⊎ IsOwn u (Operate op)
  operated_prepared c u op refused Done mode h =
      stored_prepared c u (key_of op) (image_of op) refused (Operate op) (mode refl) h
  operated_prepared c u op refused (Found value) mode h = inl h
  operated_prepared c u op refused Missing mode h = inl h
  operated_prepared c u op refused E626 mode h = inl h
  operated_prepared c u op refused E630 mode h = inl h

  worked_prepared : (c : Cell) (u : TxId) (refused : Bool) (w : RowWork) → HasPrepared (worked c u refused w).pending
      → HasPrepared c.pending ⊎ IsOwn u w
  worked_prepared c u refused (Store key image) h = stored_prepared c u key image refused (Store key image) refl h
  worked_prepared c u refused (Operate op) h =
      operated_prepared c u op refused (answer_to op (seen_by c.row (found u c.pending)))
      (writes_exclusive op (seen_by c.row (found u c.pending))) h

  -- no completion of what is prepared
  abbrev pub IsFair : Replica → Event → Type 0
  IsFair r (completes u) = same_tx u tx ≡ true → HasPrepared r.cell.pending → ⊥
  IsFair r event = Unit {0}

  abbrev pub IsHeld : Replica → Type 0
  IsHeld r = HasPrepared r.cell.pending → holds r ≡ true

  -- a prepared record that an edit of its own left
  record IsLeft (f : PendingRecord → Option PendingRecord) (pending : List PendingRecord) : Type 0 where
    was : PendingRecord
    there : found tx pending ≡ Some was
    own : PendingRecord
    left : f was ≡ Some own
    still : own.committed ≡ false

  own_left : (f : PendingRecord → Option PendingRecord) → KeepsTx f → (pending : List PendingRecord) → AreOnce pending
      → (u : TxId) → same_tx u tx ≡ true → HasPrepared (edited f u pending) → IsLeft f pending
  own_left f keeps pending once u same h =
      by (found tx pending) refl
      (sym (ap (λ t. found tx (edited f t pending)) (same_tx-is u tx same) ∙ found_own f keeps tx pending once)
      ∙ h.there)
    where
      by : (o : Option PendingRecord) → found tx pending ≡ o → now_by f o ≡ Some h.own → IsLeft f pending
      by None is none = absurd cc
      by (Some was) is left = record { was = was; there = is; own = h.own; left = left; still = h.still }

  not_committing : (pending : List PendingRecord) → IsLeft as_committed pending → ⊥
  not_committing pending l =
      let same : committed l.was ≡ l.own = cc (l.left) in
      true≢false (ap (λ (r : PendingRecord). r.committed) same ∙ l.still)

  kept_prepared : (pending : List PendingRecord) → IsLeft unless_committed pending → HasPrepared pending
  kept_prepared pending l = by l.was.committed refl l.left
    where
      by : (b : Bool) → l.was.committed ≡ b → (if b then None else Some l.was) ≡ Some l.own → HasPrepared pending
      by true e is = absurd cc
      by false e is = record { own = l.was; there = l.there; still = e }

  not_aborting : (pending : List PendingRecord) → IsLeft if_committed pending → ⊥
  not_aborting pending l = by l.was.committed refl l.left
    where
      by : (b : Bool) → l.was.committed ≡ b → (if b then Some l.was else None) ≡ Some l.own → ⊥
      by true e is =
          let same : l.was ≡ l.own = cc in
          true≢false (sym e ∙ (ap (λ (r : PendingRecord). r.committed) same ∙ l.still))
      by false e is = absurd cc

  -- an edit of another leaves it
  edited_held : (f : PendingRecord → Option PendingRecord) → KeepsTx f → (event : Event) (u : TxId) (r : Replica)
      → IsOrderly r.lock → (key_after event r).cell.pending ≡ edited f u r.cell.pending
      → (same_tx u tx ≡ false → lets_go event ≡ false)
      → (same_tx u tx ≡ true → HasPrepared (edited f u r.cell.pending) → ⊥) → IsHeld r → IsHeld (key_after event r)
  edited_held f keeps event u r orderly is off own held h = by (same_tx u tx) refl
    where
      now : HasPrepared (edited f u r.cell.pending)
      now = subst HasPrepared is h

      by : (b : Bool) → same_tx u tx ≡ b → holds (key_after event r) ≡ true
      by true e = absurd (own e now)
      by false e =
          hold_after event r orderly (off e)
          (held (same_prepared r.cell.pending (edited f u r.cell.pending)
          (found-edited f keeps u tx r.cell.pending e) now))

  pub prepared_after : (event : Event) (r : Replica) → IsOrderly r.lock → AreOnce r.cell.pending → AreAttended r
      → IsFair r event → IsHeld r → IsHeld (key_after event r)
  prepared_after rests r orderly once attended fair held h = held h
  prepared_after (asks q refused) r orderly once attended fair held h =
      by (asked r.lock q.tx (work_mode q.work)).answer refl h
    where
      now : RowLock
      now = (asked r.lock q.tx (work_mode q.work)).lock

      old : HasPrepared r.cell.pending → holds_enough tx Exclusive now.holders ≡ true
      old was = (requests_hold_on r.lock q.tx (work_mode q.work) orderly).exclusive tx refl (held was)

      own : (asked r.lock q.tx (work_mode q.work)).answer ≡ Granted → IsOwn q.tx q.work
          → holds_enough tx Exclusive now.holders ≡ true
      own granted is =
          subst (λ t. holds_enough t Exclusive now.holders ≡ true) (same_tx-is q.tx tx is.0)
          (subst (λ m. holds_enough q.tx m now.holders ≡ true) is.1
          (grants_hold r.lock q.tx (work_mode q.work) orderly granted))

      either : (asked r.lock q.tx (work_mode q.work)).answer ≡ Granted → HasPrepared r.cell.pending ⊎ IsOwn q.tx q.work
          → holds_enough tx Exclusive now.holders ≡ true
      either granted (inl was) = old was
      either granted (inr is) = own granted is

      by : (answer : Lock) → (asked r.lock q.tx (work_mode q.work)).answer ≡ answer
          → HasPrepared (asked_by r now q refused answer).cell.pending
          → holds (asked_by r now q refused answer) ≡ true
      by Granted granted h = either granted (worked_prepared r.cell q.tx refused q.work h)
      by (Queued ahead) is h = old h
  prepared_after (serves refused) r orderly once attended fair held h = by (first (is_let_in r.lock) r.waiting) refl h
    where
      own : (q : Request) → first (is_let_in r.lock) r.waiting ≡ Some q → IsOwn q.tx q.work → holds r ≡ true
      own q is own_is =
          subst (λ t. holds_enough t Exclusive r.lock.holders ≡ true) (same_tx-is q.tx tx own_is.0)
          (subst (λ m. holds_enough q.tx m r.lock.holders ≡ true) own_is.1
          (attended_hold r.lock q.tx (work_mode q.work)
          (each-first_item (λ (q : Request). is_attended r.lock q.tx (work_mode q.work) ≡ true) (is_let_in r.lock)
          r.waiting q
          attended.attended is)
          (not-true (waits q.tx r.lock.queue) (first_passes (is_let_in r.lock) r.waiting q is))))

      either : (q : Request) → first (is_let_in r.lock) r.waiting ≡ Some q
          → HasPrepared r.cell.pending ⊎ IsOwn q.tx q.work → holds r ≡ true
      either q is (inl was) = held was
      either q is (inr own_is) = own q is own_is

      by : (o : Option Request) → first (is_let_in r.lock) r.waiting ≡ o
          → HasPrepared (served_by r refused o).cell.pending → holds (served_by r refused o) ≡ true
      by None is h = held h
      by (Some q) is h = either q is (worked_prepared r.cell q.tx refused q.work h)
  prepared_after (commits u true) r orderly once attended fair held now =
      edited_held as_committed committed_keeps (commits u true) u r orderly refl (λ off. off)
      (λ same h. not_committing r.cell.pending (own_left as_committed committed_keeps r.cell.pending once u same h))
      held now
  prepared_after (commits u false) r orderly once attended fair held now =
      edited_held as_committed committed_keeps (commits u false) u r orderly refl (λ off. refl)
      (λ same h. not_committing r.cell.pending (own_left as_committed committed_keeps r.cell.pending once u same h))
      held now
  prepared_after (completes u) r orderly once attended fair held now =
      edited_held unless_committed unless_keeps (completes u) u r orderly refl (λ off. off)
      (λ same h.
      fair same (kept_prepared r.cell.pending (own_left unless_committed unless_keeps r.cell.pending once u same h)))
      held now
  prepared_after (aborts u) r orderly once attended fair held now =
      edited_held if_committed if_keeps (aborts u) u r orderly refl (λ off. off)
      (λ same h. not_aborting r.cell.pending (own_left if_committed if_keeps r.cell.pending once u same h)) held now
  prepared_after (expires u) r orderly once attended fair held h =
      hold_after (expires u) r orderly refl (held h)
  prepared_after (ages None) r orderly once attended fair held h = held h
  prepared_after (ages (Some u)) r orderly once attended fair held h =
      hold_after (ages (Some u)) r orderly refl (held h)
