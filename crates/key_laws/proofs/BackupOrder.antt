-- Fair events leave a key in order at a backup.
use Rattle.std.proofs.Common.{◌≡◌, Bool, true, false, List, [], ◌∷◌, refl, ◌∙◌}
use Rattle.std.proofs.lemmas.Bool.{not-true}
use Rattle.std.specs.Prelude.{Option, None, Some}
use Rattle.run_theory.specs.Lists.{Each}
use Rattle.run_theory.proofs.Pasts.{each_append, each_map}
use Rattle.sig_core.specs.declared.member.TxId.{TxId}
use Rattle.sig_core.specs.declared.signal.chain.RowWork.{RowWork}
use Rattle.sig_core.specs.declared.signal.chain.RowWork.TheVariants.{Operate, Store}
use Rattle.row_locks.specs.declared.mode.Lock.{Lock}
use Rattle.row_locks.specs.declared.mode.Lock.TheVariants.{Granted, Queued}
use Rattle.row_locks.specs.Holders.{holds_enough}
use Rattle.row_locks.specs.Queues.{waits}
use Rattle.row_locks.specs.Rows.{RowLock, asked, grown_old, released, unwaited}
use Rattle.row_locks.proofs.OrderlyLemmas.{asked_orderly, grown_old_orderly, released_orderly, unwaited_orderly}
use Rattle.sig_core.proofs.TxLemmas.{same_tx-swap}
use Rattle.lqh_block.specs.declared.request.Request.{Request}
use Rattle.lqh_block.specs.Work.{work_mode}
use Rattle.key_laws.specs.Backup.{Backup, IsSound}
use Rattle.key_laws.specs.BackupEvents.{FairEventsKeepAt, IsFairAt, IsImage, IsInOrderAt, IsOfImage, KeepsAt, backup_of}
use Rattle.key_laws.specs.BackupLaws.{Moves}
use Rattle.sig_core.specs.Firsts.{drop_first, first}
use Rattle.key_laws.specs.LockLaws.{is_attended}
use Rattle.key_laws.specs.PrimaryEvents.{NoneOf}
use Rattle.key_laws.specs.Replica.{Cell, Replica, aborts, ageing, ages, asked_by, asks, commits, completes, expires}
use Rattle.key_laws.specs.Replica.{expiring, is_by, is_let_in, key_after, rests, served_by, serves, worked}
use Rattle.key_laws.proofs.BackupMoves.{aborts_move, commits_move, completions_move, grants_move, images_move}
use Rattle.sig_core.proofs.Firsts.{first_passes}
use Rattle.key_laws.proofs.LockHolding.{expiries_hold_on, grants_hold, releases_hold_on, requests_hold_on}
use Rattle.key_laws.proofs.LockWaiting.{attended_hold, expiries_attend, queued_wait, releases_attend, requests_attend}
use Rattle.key_laws.proofs.LockWaiting.{rounds_attend}
use Rattle.key_laws.proofs.Waiting.{alone-drop_first, alone-end, each-drop_first, each-first_item, none-dropped}

-- the key with this cell and lock
abbrev seen : Cell → RowLock → Backup
seen c lock = record { row = c.row; pending = c.pending; holders = lock.holders }

-- one move behind another
both_move : (decided final : TxId → Bool) (a b c : Backup) → Moves decided final a b → Moves decided final b c
    → Moves decided final a c
both_move decided final a b c first second = record {
  sound = second.sound;
  led = λ value led. second.led value (first.led value led);
}

itself : (decided final : TxId → Bool) (b : Backup) → IsSound decided b → Moves decided final b b
itself decided final b sound = record { sound = sound; led = λ value led. led }

-- an image that is stored, or refused
worked_moves : (decided final : TxId → Bool) (c : Cell) (lock : RowLock) (tx : TxId) (refused : Bool) (w : RowWork)
    → IsOfImage w → IsSound decided (seen c lock)
    → holds_enough tx (work_mode w) lock.holders ≡ true → decided tx ≡ false
    → Moves decided final (seen c lock) (seen (worked c tx refused w) lock)
worked_moves decided final c lock tx refused (Operate op) is sound locked off = absurd is
worked_moves decided final c lock tx true (Store key image) is sound locked off =
    itself decided final (seen c lock) sound
worked_moves decided final c lock tx false (Store key image) is sound locked off =
    images_move decided final (seen c lock) tx key image sound locked off

module _ (decided final : TxId → Bool) (r : Replica) (order : IsInOrderAt decided r) where
  abbrev Attended : RowLock → List Request → Type 0
  Attended now xs = Each (λ (q : Request). is_attended now q.tx (work_mode q.work) ≡ true) xs

  -- a request
  request_keeps : (q : Request) (refused : Bool) → IsFairAt decided final r (asks q refused)
      → KeepsAt decided final r (key_after (asks q refused) r)
  request_keeps q refused fair = by (asked r.lock q.tx (work_mode q.work)).answer refl
    where
      attended : Attended (asked r.lock q.tx (work_mode q.work)).lock r.waiting
      attended = each_map (λ (x : Request). is_attended r.lock x.tx (work_mode x.work) ≡ true)
          (λ (x : Request). is_attended (asked r.lock q.tx (work_mode q.work)).lock x.tx (work_mode x.work) ≡ true)
          r.waiting
          (λ x was. requests_attend r.lock q.tx (work_mode q.work) x.tx (work_mode x.work) order.orderly was)
          order.attended

      let_in : Moves decided final (backup_of r) (seen r.cell (asked r.lock q.tx (work_mode q.work)).lock)
      let_in = grants_move decided final (backup_of r) (asked r.lock q.tx (work_mode q.work)).lock.holders order.sound
          (requests_hold_on r.lock q.tx (work_mode q.work) order.orderly)

      done : (answer : Lock) → (asked r.lock q.tx (work_mode q.work)).answer ≡ answer → answer ≡ Granted
          → Moves decided final (backup_of r)
          (seen (worked r.cell q.tx refused q.work) (asked r.lock q.tx (work_mode q.work)).lock)
      done answer e is =
          both_move decided final (backup_of r) (seen r.cell (asked r.lock q.tx (work_mode q.work)).lock)
          (seen (worked r.cell q.tx refused q.work) (asked r.lock q.tx (work_mode q.work)).lock) let_in
          (worked_moves decided final r.cell (asked r.lock q.tx (work_mode q.work)).lock q.tx refused q.work fair.0
          let_in.sound (grants_hold r.lock q.tx (work_mode q.work) order.orderly (e ∙ is)) fair.2)

      by : (answer : Lock) → (asked r.lock q.tx (work_mode q.work)).answer ≡ answer
          → KeepsAt decided final r (asked_by r (asked r.lock q.tx (work_mode q.work)).lock q refused answer)
      by Granted e = record {
        order = record {
          sound = (done Granted e refl).sound;
          orderly = asked_orderly r.lock q.tx (work_mode q.work) order.orderly;
          attended = attended;
          alone = order.alone;
          images = order.images;
        };
        led = (done Granted e refl).led;
      }
      by (Queued ahead) e = record {
        order = record {
          sound = let_in.sound;
          orderly = asked_orderly r.lock q.tx (work_mode q.work) order.orderly;
          attended = each_append (λ (x : Request). is_attended (asked r.lock q.tx (work_mode q.work)).lock x.tx
              (work_mode x.work) ≡ true) r.waiting (q ∷ []) attended
              (queued_wait r.lock q.tx (work_mode q.work) order.orderly, tt);
          alone = alone-end r.waiting q order.alone fair.1;
          images = each_append IsImage r.waiting (q ∷ []) order.images (fair.0, tt);
        };
        led = let_in.led;
      }

  -- the first request that is let in
  served_keeps : (refused : Bool) → IsFairAt decided final r (serves refused)
      → KeepsAt decided final r (key_after (serves refused) r)
  served_keeps refused fair = by (first (is_let_in r.lock) r.waiting) refl
    where
      by : (o : Option Request) → first (is_let_in r.lock) r.waiting ≡ o
          → KeepsAt decided final r (served_by r refused o)
      by None is = record { order = order; led = λ value led. led }
      by (Some q) is =
          let moves = worked_moves decided final r.cell r.lock q.tx refused q.work
          (each-first_item IsImage (is_let_in r.lock) r.waiting q order.images is) order.sound
          (attended_hold r.lock q.tx (work_mode q.work)
          (each-first_item (λ (x : Request). is_attended r.lock x.tx (work_mode x.work) ≡ true) (is_let_in r.lock)
          r.waiting q order.attended is)
          (not-true (waits q.tx r.lock.queue) (first_passes (is_let_in r.lock) r.waiting q is)))
          (each-first_item (λ (x : Request). decided x.tx ≡ false) (is_let_in r.lock) r.waiting q fair is) in
          record {
            order = record {
              sound = moves.sound;
              orderly = order.orderly;
              attended = each-drop_first (λ (x : Request). is_attended r.lock x.tx (work_mode x.work) ≡ true)
                  (is_let_in r.lock) r.waiting order.attended;
              alone = alone-drop_first (is_let_in r.lock) r.waiting order.alone;
              images = each-drop_first IsImage (is_let_in r.lock) r.waiting order.images;
            };
            led = moves.led;
          }

  commit_keeps : (tx : TxId) → IsFairAt decided final r (commits tx false)
      → KeepsAt decided final r (key_after (commits tx false) r)
  commit_keeps tx fair =
      let moves = commits_move decided final (backup_of r) tx order.sound fair in
      record {
        order = record {
          sound = moves.sound;
          orderly = order.orderly;
          attended = order.attended;
          alone = order.alone;
          images = order.images;
        };
        led = moves.led;
      }

  released_attended : (tx : TxId) (xs : List Request) → NoneOf tx xs → Attended r.lock xs
      → Attended (released r.lock tx).lock xs
  released_attended tx [] none all = tt
  released_attended tx (q ∷ xs) none all = (
    releases_attend r.lock tx q.tx (work_mode q.work) order.orderly (same_tx-swap tx q.tx ∙ none.0) all.0,
    released_attended tx xs none.1 all.1,
  )

  complete_keeps : (tx : TxId) → IsFairAt decided final r (completes tx)
      → KeepsAt decided final r (key_after (completes tx) r)
  complete_keeps tx fair =
      let moves = completions_move decided final (backup_of r) tx (released r.lock tx).lock.holders order.sound fair.0
      (releases_hold_on r.lock tx order.orderly) in
      record {
        order = record {
          sound = moves.sound;
          orderly = released_orderly r.lock tx order.orderly;
          attended = released_attended tx r.waiting fair.1 order.attended;
          alone = order.alone;
          images = order.images;
        };
        led = moves.led;
      }

  abort_keeps : (tx : TxId) → IsFairAt decided final r (aborts tx) → KeepsAt decided final r (key_after (aborts tx) r)
  abort_keeps tx fair =
      let moves = aborts_move decided final (backup_of r) tx (released r.lock tx).lock.holders order.sound fair
      (releases_hold_on r.lock tx order.orderly) in
      record {
        order = record {
          sound = moves.sound;
          orderly = released_orderly r.lock tx order.orderly;
          attended = released_attended tx (drop_first (is_by tx) r.waiting) (none-dropped tx r.waiting order.alone)
              (each-drop_first (λ (x : Request). is_attended r.lock x.tx (work_mode x.work) ≡ true) (is_by tx) r.waiting
              order.attended);
          alone = alone-drop_first (is_by tx) r.waiting order.alone;
          images = each-drop_first IsImage (is_by tx) r.waiting order.images;
        };
        led = moves.led;
      }

  unwaited_attended : (tx : TxId) (xs : List Request) → NoneOf tx xs → Attended r.lock xs
      → Attended (unwaited r.lock tx).lock xs
  unwaited_attended tx [] none all = tt
  unwaited_attended tx (q ∷ xs) none all = (
    expiries_attend r.lock tx q.tx (work_mode q.work) order.orderly (same_tx-swap tx q.tx ∙ none.0) all.0,
    unwaited_attended tx xs none.1 all.1,
  )

  expire_keeps : (tx : TxId) → KeepsAt decided final r (expiring r tx)
  expire_keeps tx =
      let moves = grants_move decided final (backup_of r) (unwaited r.lock tx).lock.holders order.sound
      (expiries_hold_on r.lock tx order.orderly) in
      record {
        order = record {
          sound = moves.sound;
          orderly = unwaited_orderly r.lock tx order.orderly;
          attended = unwaited_attended tx (drop_first (is_by tx) r.waiting) (none-dropped tx r.waiting order.alone)
              (each-drop_first (λ (x : Request). is_attended r.lock x.tx (work_mode x.work) ≡ true) (is_by tx) r.waiting
              order.attended);
          alone = alone-drop_first (is_by tx) r.waiting order.alone;
          images = each-drop_first IsImage (is_by tx) r.waiting order.images;
        };
        led = moves.led;
      }

  age_keeps : KeepsAt decided final r (ageing r)
  age_keeps = record {
    order = record {
      sound = order.sound;
      orderly = grown_old_orderly r.lock order.orderly;
      attended = each_map (λ (x : Request). is_attended r.lock x.tx (work_mode x.work) ≡ true)
          (λ (x : Request). is_attended (grown_old r.lock) x.tx (work_mode x.work) ≡ true) r.waiting
          (λ x was. rounds_attend r.lock x.tx (work_mode x.work) was) order.attended;
      alone = order.alone;
      images = order.images;
    };
    led = λ value led. led;
  }

pub fair_keeps : FairEventsKeepAt
fair_keeps decided final rests r order fair = record { order = order; led = λ value led. led }
fair_keeps decided final (asks q refused) r order fair = request_keeps decided final r order q refused fair
fair_keeps decided final (serves refused) r order fair = served_keeps decided final r order refused fair
fair_keeps decided final (commits tx true) r order fair = absurd fair
fair_keeps decided final (commits tx false) r order fair = commit_keeps decided final r order tx fair
fair_keeps decided final (completes tx) r order fair = complete_keeps decided final r order tx fair
fair_keeps decided final (aborts tx) r order fair = abort_keeps decided final r order tx fair
fair_keeps decided final (expires tx) r order fair = expire_keeps decided final r order tx
fair_keeps decided final (ages None) r order fair = age_keeps decided final r order
fair_keeps decided final (ages (Some tx)) r order fair =
    let keeps = expire_keeps decided final (ageing r) (age_keeps decided final r order).order tx in
    record { order = keeps.order; led = keeps.led }
