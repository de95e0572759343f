-- Fair events leave a key in order at its primary.
use Rattle.std.proofs.Common.{◌≡◌, ℕ, Bool, true, false, List, [], ◌∷◌, refl, ◌∙◌}
use Rattle.std.proofs.lemmas.Bool.{not-true}
use Rattle.std.specs.Prelude.{Option, None, Some}
use Rattle.run_theory.specs.Lists.{Each}
use Rattle.run_theory.proofs.Pasts.{each_append, each_map}
use Rattle.sig_core.specs.declared.member.TxId.{TxId}
use Rattle.sig_core.specs.declared.op.Answer.{Answer}
use Rattle.sig_core.specs.declared.op.Answer.TheVariants.{Done, Found, Missing, E626, E630}
use Rattle.sig_core.specs.declared.op.Op.{Op}
use Rattle.sig_core.specs.declared.signal.chain.RowWork.{RowWork}
use Rattle.sig_core.specs.declared.signal.chain.RowWork.TheVariants.{Operate, Store}
use Rattle.sig_core.specs.Op.{answer_to, image_of, key_of}
use Rattle.sig_core.specs.Rows.{prepared}
use Rattle.row_locks.specs.declared.mode.Lock.{Lock}
use Rattle.row_locks.specs.declared.mode.Lock.TheVariants.{Granted, Queued}
use Rattle.row_locks.specs.Holders.{holds_enough}
use Rattle.row_locks.specs.Queues.{waits}
use Rattle.row_locks.specs.Rows.{RowLock, asked, grown_old, released, unwaited}
use Rattle.row_locks.proofs.OrderlyLemmas.{asked_orderly, grown_old_orderly, released_orderly, unwaited_orderly}
use Rattle.sig_core.proofs.TxLemmas.{same_tx-swap}
use Rattle.lqh_block.specs.declared.request.Request.{Request}
use Rattle.lqh_block.specs.Work.{work_mode}
use Rattle.sig_core.specs.Firsts.{drop_first, first}
use Rattle.key_laws.specs.LockLaws.{is_attended}
use Rattle.key_laws.specs.Primary.{IsGood, IsLedTo, Primary, answered, seen_at}
use Rattle.key_laws.specs.PrimaryEvents.{AtPrimary, FairEventsKeepOrder, IsFair, IsInOrder, IsOfOperation, IsOperation}
use Rattle.key_laws.specs.PrimaryEvents.{NoneOf, TimelyEventsKeepValue, made_by, made_if, made_served, noted_unless}
use Rattle.key_laws.specs.PrimaryEvents.{primary_after, primary_of}
use Rattle.key_laws.specs.Records.{found, seen_by}
use Rattle.key_laws.specs.Replica.{Cell, Replica, aborts, ageing, ages, asked_by, asks, commits, completes, expires}
use Rattle.key_laws.specs.Replica.{expiring, is_by, is_let_in, operated, rests, served_by, serves, worked}
use Rattle.sig_core.proofs.Firsts.{first_passes}
use Rattle.key_laws.proofs.LockHolding.{expiries_hold_on, grants_hold, releases_hold_on, requests_hold_on}
use Rattle.key_laws.proofs.LockWaiting.{attended_hold, expiries_attend, queued_wait, releases_attend, requests_attend}
use Rattle.key_laws.proofs.LockWaiting.{rounds_attend}
use Rattle.key_laws.proofs.PrimaryGood.{aborts_keep, commits_keep, completions_keep, grants_keep, operations_keep}
use Rattle.key_laws.proofs.PrimaryValue.{aborts_value, commits_value, completions_value}
use Rattle.key_laws.proofs.RecordLemmas.{kept_row-stored}
use Rattle.key_laws.proofs.Waiting.{alone-drop_first, alone-end, each-drop_first, each-first_item, none-dropped}

-- the key with this cell, lock and answers
abbrev seen : Cell → RowLock → (TxId → List (Op × Answer)) → (TxId → Bool) → Primary
seen c lock made ended = record { row = c.row; pending = c.pending; holders = lock.holders; made = made; ended = ended }

-- an operation that is performed, or refused
operated_good : (c : Cell) (lock : RowLock) (made : TxId → List (Op × Answer)) (ended : TxId → Bool) (tx : TxId)
    (op : Op) (answer : Answer)
    → IsGood (seen c lock made ended) → IsGood (answered (seen c lock made ended) tx op answer) → (refused : Bool)
    → IsGood (seen (operated c tx op refused answer) lock (noted_unless made tx op answer refused) ended)
operated_good c lock made ended tx op Done good next true = good
operated_good c lock made ended tx op Done good next false = next
operated_good c lock made ended tx op (Found value) good next refused = next
operated_good c lock made ended tx op Missing good next refused = next
operated_good c lock made ended tx op E626 good next refused = next
operated_good c lock made ended tx op E630 good next refused = next

worked_good : (c : Cell) (lock : RowLock) (made : TxId → List (Op × Answer)) (ended : TxId → Bool) (tx : TxId)
    (refused : Bool) (w : RowWork) → IsOfOperation w
    → IsGood (seen c lock made ended) → holds_enough tx (work_mode w) lock.holders ≡ true
    → IsGood (seen (worked c tx refused w) lock (made_by made c tx refused w) ended)
worked_good c lock made ended tx refused (Operate op) is good locked =
    operated_good c lock made ended tx op (answer_to op (seen_at (seen c lock made ended) tx)) good
    (operations_keep (seen c lock made ended) tx op good locked) refused
worked_good c lock made ended tx refused (Store key image) is good locked = absurd is

module _ (p : AtPrimary) (order : IsInOrder p) where
  abbrev lock : RowLock
  lock = p.replica.lock

  abbrev waiting : List Request
  waiting = p.replica.waiting

  abbrev Attended : RowLock → List Request → Type 0
  Attended now xs = Each (λ (q : Request). is_attended now q.tx (work_mode q.work) ≡ true) xs

  -- a request
  request_order : (q : Request) (refused : Bool) → IsOperation q → NoneOf q.tx waiting
      → IsInOrder (primary_after (asks q refused) p)
  request_order q refused is none = by (asked lock q.tx (work_mode q.work)).answer refl
    where
      attended : Attended (asked lock q.tx (work_mode q.work)).lock waiting
      attended = each_map (λ (x : Request). is_attended lock x.tx (work_mode x.work) ≡ true)
          (λ (x : Request). is_attended (asked lock q.tx (work_mode q.work)).lock x.tx (work_mode x.work) ≡ true)
          waiting
          (λ x was. requests_attend lock q.tx (work_mode q.work) x.tx (work_mode x.work) order.orderly was)
          order.attended

      let_in : IsGood (seen p.replica.cell (asked lock q.tx (work_mode q.work)).lock p.made p.ended)
      let_in = grants_keep (primary_of p) (asked lock q.tx (work_mode q.work)).lock.holders order.good
          (requests_hold_on lock q.tx (work_mode q.work) order.orderly)

      by : (answer : Lock) → (asked lock q.tx (work_mode q.work)).answer ≡ answer
          → IsInOrder (record {
            replica = asked_by p.replica (asked lock q.tx (work_mode q.work)).lock q refused answer;
            made = made_if p q refused answer;
            ended = p.ended;
          })
      by Granted e = record {
        good = worked_good p.replica.cell (asked lock q.tx (work_mode q.work)).lock p.made p.ended q.tx refused q.work
            is let_in (grants_hold lock q.tx (work_mode q.work) order.orderly e);
        orderly = asked_orderly lock q.tx (work_mode q.work) order.orderly;
        attended = attended;
        alone = order.alone;
        operations = order.operations;
      }
      by (Queued ahead) e = record {
        good = let_in;
        orderly = asked_orderly lock q.tx (work_mode q.work) order.orderly;
        attended = each_append (λ (x : Request). is_attended (asked lock q.tx (work_mode q.work)).lock x.tx
            (work_mode x.work) ≡ true) waiting (q ∷ []) attended
            (queued_wait lock q.tx (work_mode q.work) order.orderly, tt);
        alone = alone-end waiting q order.alone none;
        operations = each_append IsOperation waiting (q ∷ []) order.operations (is, tt);
      }

  -- the first request that is let in
  served_order : (refused : Bool) → IsInOrder (primary_after (serves refused) p)
  served_order refused = by (first (is_let_in lock) waiting) refl
    where
      by : (o : Option Request) → first (is_let_in lock) waiting ≡ o → IsInOrder (record {
        replica = served_by p.replica refused o;
        made = made_served p refused o;
        ended = p.ended;
      })
      by None is = order
      by (Some q) is = record {
        good = worked_good p.replica.cell lock p.made p.ended q.tx refused q.work
            (each-first_item IsOperation (is_let_in lock) waiting q order.operations is) order.good
            (attended_hold lock q.tx (work_mode q.work)
            (each-first_item (λ (x : Request). is_attended lock x.tx (work_mode x.work) ≡ true) (is_let_in lock) waiting
            q order.attended is)
            (not-true (waits q.tx lock.queue) (first_passes (is_let_in lock) waiting q is)));
        orderly = order.orderly;
        attended = each-drop_first (λ (x : Request). is_attended lock x.tx (work_mode x.work) ≡ true) (is_let_in lock)
            waiting order.attended;
        alone = alone-drop_first (is_let_in lock) waiting order.alone;
        operations = each-drop_first IsOperation (is_let_in lock) waiting order.operations;
      }

  -- who doesn't let go is attended still
  released_attended : (tx : TxId) (xs : List Request) → NoneOf tx xs → Attended lock xs
      → Attended (released lock tx).lock xs
  released_attended tx [] none all = tt
  released_attended tx (q ∷ xs) none all = (
    releases_attend lock tx q.tx (work_mode q.work) order.orderly (same_tx-swap tx q.tx ∙ none.0) all.0,
    released_attended tx xs none.1 all.1,
  )

  commit_order : (tx : TxId) → NoneOf tx waiting → IsInOrder (primary_after (commits tx true) p)
  commit_order tx none = record {
    good = commits_keep (primary_of p) tx (released lock tx).lock.holders order.good
        (releases_hold_on lock tx order.orderly);
    orderly = released_orderly lock tx order.orderly;
    attended = released_attended tx waiting none order.attended;
    alone = order.alone;
    operations = order.operations;
  }

  complete_order : (tx : TxId) → IsFair p (completes tx) → IsInOrder (primary_after (completes tx) p)
  complete_order tx fair = record {
    good = completions_keep (primary_of p) tx (released lock tx).lock.holders order.good fair.0
        (releases_hold_on lock tx order.orderly);
    orderly = released_orderly lock tx order.orderly;
    attended = released_attended tx waiting fair.1 order.attended;
    alone = order.alone;
    operations = order.operations;
  }

  abort_order : (tx : TxId) → IsInOrder (primary_after (aborts tx) p)
  abort_order tx = record {
    good = aborts_keep (primary_of p) tx (released lock tx).lock.holders order.good
        (releases_hold_on lock tx order.orderly);
    orderly = released_orderly lock tx order.orderly;
    attended = released_attended tx (drop_first (is_by tx) waiting) (none-dropped tx waiting order.alone)
        (each-drop_first (λ (x : Request). is_attended lock x.tx (work_mode x.work) ≡ true) (is_by tx) waiting
        order.attended);
    alone = alone-drop_first (is_by tx) waiting order.alone;
    operations = each-drop_first IsOperation (is_by tx) waiting order.operations;
  }

  unwaited_attended : (tx : TxId) (xs : List Request) → NoneOf tx xs → Attended lock xs
      → Attended (unwaited lock tx).lock xs
  unwaited_attended tx [] none all = tt
  unwaited_attended tx (q ∷ xs) none all = (
    expiries_attend lock tx q.tx (work_mode q.work) order.orderly (same_tx-swap tx q.tx ∙ none.0) all.0,
    unwaited_attended tx xs none.1 all.1,
  )

  expire_order : (tx : TxId) → IsInOrder (record { replica = expiring p.replica tx; made = p.made; ended = p.ended })
  expire_order tx = record {
    good =
        grants_keep (primary_of p) (unwaited lock tx).lock.holders order.good (expiries_hold_on lock tx order.orderly);
    orderly = unwaited_orderly lock tx order.orderly;
    attended = unwaited_attended tx (drop_first (is_by tx) waiting) (none-dropped tx waiting order.alone)
        (each-drop_first (λ (x : Request). is_attended lock x.tx (work_mode x.work) ≡ true) (is_by tx) waiting
        order.attended);
    alone = alone-drop_first (is_by tx) waiting order.alone;
    operations = each-drop_first IsOperation (is_by tx) waiting order.operations;
  }

  age_order : IsInOrder (record { replica = ageing p.replica; made = p.made; ended = p.ended })
  age_order = record {
    good = order.good;
    orderly = grown_old_orderly lock order.orderly;
    attended = each_map (λ (x : Request). is_attended lock x.tx (work_mode x.work) ≡ true)
        (λ (x : Request). is_attended (grown_old lock) x.tx (work_mode x.work) ≡ true) waiting
        (λ x was. rounds_attend lock x.tx (work_mode x.work) was) order.attended;
    alone = order.alone;
    operations = order.operations;
  }

pub fair_order : FairEventsKeepOrder
fair_order rests p order fair = order
fair_order (asks q refused) p order fair = request_order p order q refused fair.0 fair.1
fair_order (serves refused) p order fair = served_order p order refused
fair_order (commits tx true) p order fair = commit_order p order tx fair
fair_order (commits tx false) p order fair = absurd fair
fair_order (completes tx) p order fair = complete_order p order tx fair
fair_order (aborts tx) p order fair = abort_order p order tx
fair_order (expires tx) p order fair = expire_order p order tx
fair_order (ages None) p order fair = age_order p order
fair_order (ages (Some tx)) p order fair =
    expire_order (record { replica = ageing p.replica; made = p.made; ended = p.ended }) (age_order p order) tx

-- values
stored_value : (kept : TxId → Bool) (value row : Option (List ℕ)) (tx : TxId) (op : Op) (answer : Answer) (c : Cell)
    → kept tx ≡ false → IsLedTo kept value c.row c.pending → (refused : Bool)
    → IsLedTo kept value (operated c tx op refused answer).row (operated c tx op refused answer).pending
stored_value kept value row tx op Done c off led true = led
stored_value kept value row tx op Done c off led false =
    kept_row-stored kept c.row (prepared tx (key_of op) (image_of op)) c.pending off ∙ led
stored_value kept value row tx op (Found other) c off led refused = led
stored_value kept value row tx op Missing c off led refused = led
stored_value kept value row tx op E626 c off led refused = led
stored_value kept value row tx op E630 c off led refused = led

worked_value : (kept : TxId → Bool) (value : Option (List ℕ)) (c : Cell) (tx : TxId) (refused : Bool) (w : RowWork)
    → IsOfOperation w → kept tx ≡ false → IsLedTo kept value c.row c.pending
    → IsLedTo kept value (worked c tx refused w).row (worked c tx refused w).pending
worked_value kept value c tx refused (Operate op) is off led =
    stored_value kept value c.row tx op (answer_to op (seen_by c.row (found tx c.pending))) c off led refused
worked_value kept value c tx refused (Store key image) is off led = absurd is

request_value : (kept : TxId → Bool) (value : Option (List ℕ)) (r : Replica) (now : RowLock) (q : Request)
    (refused : Bool) (answer : Lock) → IsOperation q → kept q.tx ≡ false
    → IsLedTo kept value r.cell.row r.cell.pending
    → IsLedTo kept value (asked_by r now q refused answer).cell.row (asked_by r now q refused answer).cell.pending
request_value kept value r now q refused Granted is off led =
    worked_value kept value r.cell q.tx refused q.work is off led
request_value kept value r now q refused (Queued ahead) is off led = led

served_value : (kept : TxId → Bool) (value : Option (List ℕ)) (r : Replica) (refused : Bool) (o : Option Request)
    → first (is_let_in r.lock) r.waiting ≡ o → Each IsOperation r.waiting
    → Each (λ (q : Request). kept q.tx ≡ false) r.waiting → IsLedTo kept value r.cell.row r.cell.pending
    → IsLedTo kept value (served_by r refused o).cell.row (served_by r refused o).cell.pending
served_value kept value r refused None is operations off led = led
served_value kept value r refused (Some q) is operations off led =
    worked_value kept value r.cell q.tx refused q.work
    (each-first_item IsOperation (is_let_in r.lock) r.waiting q operations is)
    (each-first_item (λ (x : Request). kept x.tx ≡ false) (is_let_in r.lock) r.waiting q off is) led

pub timely_value : TimelyEventsKeepValue
timely_value rests p kept value order fair timely led = led
timely_value (asks q refused) p kept value order fair timely led =
    request_value kept value p.replica (asked p.replica.lock q.tx (work_mode q.work)).lock q refused
    (asked p.replica.lock q.tx (work_mode q.work)).answer fair.0 timely led
timely_value (serves refused) p kept value order fair timely led =
    served_value kept value p.replica refused (first (is_let_in p.replica.lock) p.replica.waiting) refl order.operations
    timely led
timely_value (commits tx true) p kept value order fair timely led =
    commits_value (primary_of p) tx p.replica.lock.holders kept value order.good timely led
timely_value (commits tx false) p kept value order fair timely led = absurd fair
timely_value (completes tx) p kept value order fair timely led =
    completions_value (primary_of p) tx p.replica.lock.holders kept value led
timely_value (aborts tx) p kept value order fair timely led =
    aborts_value (primary_of p) tx p.replica.lock.holders kept value timely led
timely_value (expires tx) p kept value order fair timely led = led
timely_value (ages None) p kept value order fair timely led = led
timely_value (ages (Some tx)) p kept value order fair timely led = led
