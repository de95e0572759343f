-- Fair events leave a key tidy, and led to what it was led to; so does the installation of a view.
use Rattle.std.proofs.Common.{◌≡◌, ◌||◌, ◌&&◌, cond, Bool, true, false, List, [], ◌∷◌, filter, refl, sym, ap, ◌∙◌}
use Rattle.std.proofs.Common.{inl, inr}
use Rattle.std.proofs.lemmas.Bool.{not-true, or_left, or_right, true≢false}
use Rattle.std.specs.Prelude.{if◌then◌else◌, is_some, Option, None, Some}
use Rattle.run_theory.specs.Lists.{Each}
use Rattle.row_locks.specs.declared.claim.Holder.{Holder}
use Rattle.row_locks.specs.declared.mode.Lock.{Lock}
use Rattle.row_locks.specs.declared.mode.Lock.TheVariants.{Granted, Queued}
use Rattle.row_locks.specs.declared.mode.Mode.{Mode}
use Rattle.row_locks.specs.declared.mode.Mode.TheVariants.{Exclusive}
use Rattle.row_locks.specs.Holders.{holds_enough}
use Rattle.row_locks.specs.Modes.{is_enough}
use Rattle.row_locks.specs.Orderly.{IsOrderly}
use Rattle.row_locks.specs.Queues.{waits}
use Rattle.row_locks.specs.Rows.{RowLock, asked, grown_old, released, unwaited}
use Rattle.row_locks.proofs.KeepingLemmas.{left_orderly}
use Rattle.row_locks.proofs.OrderlyLemmas.{grown_old_orderly}
use Rattle.sig_core.proofs.Firsts.{first_passes}
use Rattle.sig_core.proofs.Keys.{same_tx-self}
use Rattle.sig_core.proofs.TxLemmas.{same_tx-is}
use Rattle.sig_core.specs.declared.member.TxId.{TxId}
use Rattle.sig_core.specs.declared.op.Answer.{Answer}
use Rattle.sig_core.specs.declared.op.Answer.TheVariants.{Done, Found, Missing, E626, E630}
use Rattle.sig_core.specs.declared.op.Op.{Op}
use Rattle.sig_core.specs.declared.rows.PendingRecord.{PendingRecord}
use Rattle.sig_core.specs.declared.signal.chain.RowWork.{RowWork}
use Rattle.sig_core.specs.declared.signal.chain.RowWork.TheVariants.{Operate, Store}
use Rattle.sig_core.specs.Firsts.{first}
use Rattle.sig_core.specs.Op.{answer_to, image_of, key_of}
use Rattle.sig_core.specs.Same.{same_tx}
use Rattle.lqh_block.specs.declared.request.Request.{Request}
use Rattle.lqh_block.specs.Work.{work_mode}
use Rattle.key_laws.proofs.PrimaryGood.{writes_exclusive}
use Rattle.key_laws.specs.Backup.{Backup}
use Rattle.key_laws.specs.BackupEvents.{backup_of}
use Rattle.key_laws.specs.LockLaws.{is_attended}
use Rattle.key_laws.specs.Primary.{HoldOn, IsOwned}
use Rattle.key_laws.specs.Records.{found, seen_by}
use Rattle.key_laws.specs.Replica.{Cell, Replica, aborts, ages, asked_by, asks, commits, completes, expires, expiring}
use Rattle.key_laws.specs.Replica.{is_let_in, key_after, operated, rests, served_by, serves, worked}
use Rattle.key_laws.proofs.LockHolding.{expiries_hold_on, grants_hold, releases_hold_on, requests_hold_on}
use Rattle.key_laws.proofs.LockWaiting.{attended_hold}
use Rattle.key_laws.proofs.Waiting.{each-first_item}
use Rattle.request_laws.specs.Replicas.{key_installed}
use Rattle.commit_laws.specs.Led.{FairEventsLead, IsReady, IsTidy, IsUnkept, Leads}
use Rattle.commit_laws.proofs.led.Moves.{aborts_lead, commits_lead, completions_lead, grants_lead, images_lead}

-- the key with this cell and lock
abbrev seen : Cell → RowLock → Backup
seen c lock = record { row = c.row; pending = c.pending; holders = lock.holders }

pub both_lead : (decided final : TxId → Bool) (a b c : Backup) → Leads decided final a b → Leads decided final b c
    → Leads decided final a c
both_lead decided final a b c one other =
    record { tidy = other.tidy; led = λ value led. other.led value (one.led value led) }

pub itself : (decided final : TxId → Bool) (b : Backup) → IsTidy decided b → Leads decided final b b
itself decided final b tidy = record { tidy = tidy; led = λ value led. led }

module _ (decided final : TxId → Bool) (c : Cell) (lock : RowLock) (tx : TxId) (tidy : IsTidy decided (seen c lock))
    (off : IsUnkept decided final c.pending tx) where
  operated_leads : (op : Op) (refused : Bool) (answer : Answer)
      → (answer ≡ Done → holds_enough tx Exclusive lock.holders ≡ true)
      → Leads decided final (seen c lock) (seen (operated c tx op refused answer) lock)
  operated_leads op true Done locked = itself decided final (seen c lock) tidy
  operated_leads op false Done locked =
      images_lead decided final (seen c lock) tx (key_of op) (image_of op) tidy (locked refl) off
  operated_leads op refused (Found value) locked = itself decided final (seen c lock) tidy
  operated_leads op refused Missing locked = itself decided final (seen c lock) tidy
  operated_leads op refused E626 locked = itself decided final (seen c lock) tidy
  operated_leads op refused E630 locked = itself decided final (seen c lock) tidy

  -- what is performed, or stored, of a transaction that holds the lock as it asked
  work_leads : (refused : Bool) (w : RowWork) → holds_enough tx (work_mode w) lock.holders ≡ true
      → Leads decided final (seen c lock) (seen (worked c tx refused w) lock)
  work_leads refused (Operate op) locked =
      operated_leads op refused (answer_to op (seen_by c.row (found tx c.pending)))
      (λ is. ap (λ mode. holds_enough tx mode lock.holders)
      (sym (writes_exclusive op (seen_by c.row (found tx c.pending)) is)) ∙ locked)
  work_leads true (Store key image) locked = itself decided final (seen c lock) tidy
  work_leads false (Store key image) locked = images_lead decided final (seen c lock) tx key image tidy locked off

module _ (decided final : TxId → Bool) (r : Replica) (ready : IsReady r) (tidy : IsTidy decided (backup_of r)) where
  request_leads : (q : Request) (refused : Bool) → IsUnkept decided final r.cell.pending q.tx
      → Leads decided final (backup_of r) (backup_of (key_after (asks q refused) r))
  request_leads q refused off = by (asked r.lock q.tx (work_mode q.work)).answer refl
    where
      now : RowLock
      now = (asked r.lock q.tx (work_mode q.work)).lock

      let_in : Leads decided final (backup_of r) (seen r.cell now)
      let_in =
          grants_lead decided final (backup_of r) now.holders tidy
          (requests_hold_on r.lock q.tx (work_mode q.work) ready.orderly)

      by : (answer : Lock) → (asked r.lock q.tx (work_mode q.work)).answer ≡ answer
          → Leads decided final (backup_of r) (backup_of (asked_by r now q refused answer))
      by Granted e =
          both_lead decided final (backup_of r) (seen r.cell now) (seen (worked r.cell q.tx refused q.work) now) let_in
          (work_leads decided final r.cell now q.tx let_in.tidy off refused q.work
          (grants_hold r.lock q.tx (work_mode q.work) ready.orderly e))
      by (Queued ahead) e = let_in

  serving_leads : (refused : Bool) → Each (λ (q : Request). IsUnkept decided final r.cell.pending q.tx) r.waiting
      → Leads decided final (backup_of r) (backup_of (key_after (serves refused) r))
  serving_leads refused fair = by (first (is_let_in r.lock) r.waiting) refl
    where
      by : (o : Option Request) → first (is_let_in r.lock) r.waiting ≡ o
          → Leads decided final (backup_of r) (backup_of (served_by r refused o))
      by None is = itself decided final (backup_of r) tidy
      by (Some q) is =
          work_leads decided final r.cell r.lock q.tx tidy
          (each-first_item (λ (x : Request). IsUnkept decided final r.cell.pending x.tx)
          (is_let_in r.lock) r.waiting q fair is) refused q.work
          (attended_hold r.lock q.tx (work_mode q.work)
          (each-first_item (λ (x : Request). is_attended r.lock x.tx (work_mode x.work) ≡ true)
          (is_let_in r.lock) r.waiting
          q ready.attended is)
          (not-true (waits q.tx r.lock.queue) (first_passes (is_let_in r.lock) r.waiting q is)))

  expiry_leads : (tx : TxId) → Leads decided final (backup_of r) (backup_of (expiring r tx))
  expiry_leads tx =
      grants_lead decided final (backup_of r) (unwaited r.lock tx).lock.holders tidy
      (expiries_hold_on r.lock tx ready.orderly)

  -- nobody lets go
  hold_on : (tx : TxId) → HoldOn (same_tx tx) r.lock.holders r.lock.holders
  hold_on tx = record { agreed = tidy.agreed; held = λ v apart is. is; exclusive = λ v apart is. is }

pub fair_lead : FairEventsLead
fair_lead decided final rests r ready tidy fair = itself decided final (backup_of r) tidy
fair_lead decided final (asks q refused) r ready tidy fair = request_leads decided final r ready tidy q refused fair
fair_lead decided final (serves refused) r ready tidy fair = serving_leads decided final r ready tidy refused fair
fair_lead decided final (commits tx true) r ready tidy fair =
    commits_lead decided final (backup_of r) tx (released r.lock tx).lock.holders tidy
    (releases_hold_on r.lock tx ready.orderly) fair
fair_lead decided final (commits tx false) r ready tidy fair =
    commits_lead decided final (backup_of r) tx r.lock.holders tidy (hold_on decided final r ready tidy tx) fair
fair_lead decided final (completes tx) r ready tidy fair =
    completions_lead decided final (backup_of r) tx (released r.lock tx).lock.holders tidy
    (releases_hold_on r.lock tx ready.orderly) fair
fair_lead decided final (aborts tx) r ready tidy fair =
    aborts_lead decided final (backup_of r) tx (released r.lock tx).lock.holders tidy
    (releases_hold_on r.lock tx ready.orderly) fair
fair_lead decided final (expires tx) r ready tidy fair = expiry_leads decided final r ready tidy tx
fair_lead decided final (ages None) r ready tidy fair = itself decided final (backup_of r) tidy
fair_lead decided final (ages (Some tx)) r ready tidy fair =
    grants_lead decided final (backup_of r) (unwaited (grown_old r.lock) tx).lock.holders tidy
    (expiries_hold_on (grown_old r.lock) tx (grown_old_orderly r.lock ready.orderly))

-- who stays holds the lock as before
pub left_enough : (stays : TxId → Bool) (u : TxId) (mode : Mode) (hs : List Holder) → stays u ≡ true
    → holds_enough u mode hs ≡ true → holds_enough u mode (filter (λ (h : Holder). stays h.tx) hs) ≡ true
left_enough stays u mode [] on is = absurd cc
left_enough stays u mode (h ∷ hs) on is =
    by (same_tx h.tx u) refl (is_enough h.mode mode) refl (stays h.tx) refl is (left_enough stays u mode hs on)
  where
    rest : List Holder
    rest = filter (λ (x : Holder). stays x.tx) hs

    same_stays : same_tx h.tx u ≡ true → stays h.tx ≡ true
    same_stays e = ap stays (same_tx-is h.tx u e) ∙ on

    by : (a : Bool) → same_tx h.tx u ≡ a → (b : Bool) → is_enough h.mode mode ≡ b → (c : Bool) → stays h.tx ≡ c
        → ((a && b) || holds_enough u mode hs) ≡ true
        → (holds_enough u mode hs ≡ true → holds_enough u mode rest ≡ true)
        → holds_enough u mode (cond c (h ∷ rest) rest) ≡ true
    by true e true f true g is more = or_left _ _ (λ i. e i && f i)
    by true e b f false g is more = absurd (true≢false (sym (same_stays e) ∙ g))
    by true e false f true g is more = or_right _ _ (more is)
    by false e b f true g is more = or_right _ _ (more is)
    by false e b f false g is more = more is

-- who has a record stays
records_stay : (stays : TxId → Bool) (xs : List PendingRecord)
    → ((v : TxId) → is_some (found v xs) ≡ true → stays v ≡ true)
    → Each (λ (r : PendingRecord). stays r.tx ≡ true) xs
records_stay stays [] told = tt
records_stay stays (r ∷ rest) told = (
  told r.tx (ap (λ b. is_some (if b then Some r else found r.tx rest)) (same_tx-self r.tx)),
  records_stay stays rest (λ v is. told v (by v (same_tx r.tx v) is)),
)
  where
    by : (v : TxId) (b : Bool) → is_some (found v rest) ≡ true → is_some (if b then Some r else found v rest) ≡ true
    by v true is = refl
    by v false is = is

-- an installation leaves the row and the records, and the locks of who has one
pub installation_leads : (decided final : TxId → Bool) (stays : TxId → Bool) (r : Replica) → IsOrderly r.lock
    → ((v : TxId) → is_some (found v r.cell.pending) ≡ true → stays v ≡ true) → IsTidy decided (backup_of r)
    → Leads decided final (backup_of r) (backup_of (key_installed stays r))
installation_leads decided final stays r orderly told tidy = record {
  tidy = record {
    once = tidy.once;
    owned = each_two r.cell.pending (records_stay stays r.cell.pending told) tidy.owned;
    agreed = (left_orderly stays r.lock orderly).agreed;
    done = tidy.done;
  };
  led = λ value led. led;
}
  where
    left : List Holder
    left = filter (λ (h : Holder). stays h.tx) r.lock.holders

    one : (x : PendingRecord) → stays x.tx ≡ true → IsOwned r.lock.holders x → IsOwned left x
    one x on (inl done) = inl done
    one x on (inr held) = inr (left_enough stays x.tx Exclusive r.lock.holders on held)

    each_two : (xs : List PendingRecord) → Each (λ (x : PendingRecord). stays x.tx ≡ true) xs
        → Each (IsOwned r.lock.holders) xs → Each (IsOwned left) xs
    each_two [] on all = tt
    each_two (x ∷ xs) on all = (one x on.0 all.0, each_two xs on.1 all.1)
