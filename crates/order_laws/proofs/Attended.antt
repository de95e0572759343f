-- Who waits at a replica holds the key's lock as it asked or is in the queue for it, along every run.
use Rattle.std.proofs.Common.{◌≡◌, ◌<◌, ℕ, Bool, true, false, List, [], ◌∷◌, length, sym, ap, ◌∙◌}
use Rattle.std.proofs.Common.{subst}
use Rattle.std.specs.Prelude.{Option, None, Some}
use Rattle.run_theory.proofs.EventCases.{event_keeps}
use Rattle.run_theory.specs.Lists.{Each}
use Rattle.run_theory.proofs.Pasts.{each_append, each_map}
use Rattle.sig_core.proofs.TxLemmas.{same_tx-swap}
use Rattle.sig_core.specs.declared.member.TxId.{TxId}
use Rattle.sig_core.specs.Firsts.{drop_first, first}
use Rattle.row_locks.specs.declared.mode.Lock.{Lock}
use Rattle.row_locks.specs.declared.mode.Lock.TheVariants.{Granted, Queued}
use Rattle.row_locks.specs.Orderly.{IsOrderly}
use Rattle.row_locks.specs.Rows.{RowLock, asked, grown_old, released, unlocked, unwaited}
use Rattle.row_locks.proofs.OrderlyLemmas.{asked_orderly, grown_old_orderly, released_orderly, unwaited_orderly}
use Rattle.row_locks.proofs.TableLawLemmas.{unlocked_orderly}
use Rattle.lqh_block.specs.declared.request.Request.{Request}
use Rattle.lqh_block.specs.Work.{work_mode}
use Rattle.frag_map.specs.Shape.{IsShape}
use Rattle.sig_core.specs.Chain.{node_at}
use Rattle.world_core.specs.Hosts.{started}
use Rattle.world_core.specs.Machine.{after, machine}
use Rattle.world_core.specs.Start.{Start}
use Rattle.world_core.specs.Steps.{HostStep}
use Rattle.key_laws.specs.LockLaws.{is_attended}
use Rattle.key_laws.specs.PrimaryEvents.{AreAlone, NoneOf}
use Rattle.key_laws.specs.Replica.{Event, Replica, aborts, ageing, ages, asked_by, asks, commits, completes, expires}
use Rattle.key_laws.specs.Replica.{expiring, is_by, is_let_in, key_after, rests, served_by, serves}
use Rattle.key_laws.proofs.LockWaiting.{expiries_attend, queued_wait, releases_attend, requests_attend, rounds_attend}
use Rattle.key_laws.proofs.Waiting.{alone-drop_first, alone-end, each-drop_first, none-dropped}
use Rattle.host_laws.specs.ReplicaLaws.{event_in, key_in}
use Rattle.host_laws.proofs.rows.Replicas.{logs_follow, nodes_begin}
use Rattle.run_laws.specs.Circle.{at_host}
use Rattle.run_laws.specs.Owed.{IsOwed}
use Rattle.run_laws.specs.Routes.{replica_host, replicas}
use Rattle.run_laws.specs.Transit.{IsRun, logs_of}
use Rattle.run_laws.proofs.tokens.Owing.{events_owed}
use Rattle.run_laws.proofs.routes.Chain.{replicas_are_nodes}
use Rattle.run_laws.proofs.transit.Transit.{comes, earlier}

abbrev AreAttended : RowLock → List Request → Type 0
AreAttended lock xs = Each (λ (q : Request). is_attended lock q.tx (work_mode q.work) ≡ true) xs

-- the lock is orderly, and who waits holds it or is in its queue
pub record IsServing (r : Replica) : Type 0 where
  pub orderly : IsOrderly r.lock
  pub attended : AreAttended r.lock r.waiting
  pub alone : AreAlone r.waiting

-- who asks, or lets go for good, doesn't wait
abbrev IsApart : Replica → Event → Type 0
IsApart r (asks q refused) = NoneOf q.tx r.waiting
IsApart r (commits tx true) = NoneOf tx r.waiting
IsApart r (completes tx) = NoneOf tx r.waiting
IsApart r event = Unit {0}

module _ (r : Replica) (was : IsServing r) where
  asked_serving : (q : Request) (refused : Bool) → NoneOf q.tx r.waiting → IsServing (key_after (asks q refused) r)
  asked_serving q refused none = by (asked r.lock q.tx (work_mode q.work)).answer
    where
      now : RowLock
      now = (asked r.lock q.tx (work_mode q.work)).lock

      attended : AreAttended now r.waiting
      attended =
          each_map (λ (x : Request). is_attended r.lock x.tx (work_mode x.work) ≡ true)
          (λ (x : Request). is_attended now x.tx (work_mode x.work) ≡ true) r.waiting
          (λ x is. requests_attend r.lock q.tx (work_mode q.work) x.tx (work_mode x.work) was.orderly is) was.attended

      by : (answer : Lock) → IsServing (asked_by r now q refused answer)
      by Granted = record {
        orderly = asked_orderly r.lock q.tx (work_mode q.work) was.orderly;
        attended = attended;
        alone = was.alone;
      }
      by (Queued ahead) = record {
        orderly = asked_orderly r.lock q.tx (work_mode q.work) was.orderly;
        attended = each_append (λ (x : Request). is_attended now x.tx (work_mode x.work) ≡ true) r.waiting (q ∷ [])
            attended (queued_wait r.lock q.tx (work_mode q.work) was.orderly, tt);
        alone = alone-end r.waiting q was.alone none;
      }

  served_serving : (refused : Bool) (o : Option Request) → IsServing (served_by r refused o)
  served_serving refused None = was
  served_serving refused (Some q) = record {
    orderly = was.orderly;
    attended = each-drop_first (λ (x : Request). is_attended r.lock x.tx (work_mode x.work) ≡ true)
        (is_let_in r.lock) r.waiting was.attended;
    alone = alone-drop_first (is_let_in r.lock) r.waiting was.alone;
  }

  released_all : (tx : TxId) (xs : List Request) → NoneOf tx xs → AreAttended r.lock xs
      → AreAttended (released r.lock tx).lock xs
  released_all tx [] none all = tt
  released_all tx (q ∷ xs) none all = (
    releases_attend r.lock tx q.tx (work_mode q.work) was.orderly (same_tx-swap tx q.tx ∙ none.0) all.0,
    released_all tx xs none.1 all.1,
  )

  unwaited_all : (tx : TxId) (xs : List Request) → NoneOf tx xs → AreAttended r.lock xs
      → AreAttended (unwaited r.lock tx).lock xs
  unwaited_all tx [] none all = tt
  unwaited_all tx (q ∷ xs) none all = (
    expiries_attend r.lock tx q.tx (work_mode q.work) was.orderly (same_tx-swap tx q.tx ∙ none.0) all.0,
    unwaited_all tx xs none.1 all.1,
  )

  let_go_serving : (tx : TxId) (last : Bool) → NoneOf tx r.waiting → IsServing (key_after (commits tx last) r)
  let_go_serving tx true none = record {
    orderly = released_orderly r.lock tx was.orderly;
    attended = released_all tx r.waiting none was.attended;
    alone = was.alone;
  }
  let_go_serving tx false none = record { orderly = was.orderly; attended = was.attended; alone = was.alone }

  aborted_serving : (tx : TxId) → IsServing (key_after (aborts tx) r)
  aborted_serving tx = record {
    orderly = released_orderly r.lock tx was.orderly;
    attended = released_all tx (drop_first (is_by tx) r.waiting) (none-dropped tx r.waiting was.alone)
        (each-drop_first (λ (x : Request). is_attended r.lock x.tx (work_mode x.work) ≡ true) (is_by tx) r.waiting
        was.attended);
    alone = alone-drop_first (is_by tx) r.waiting was.alone;
  }

  expired_serving : (tx : TxId) → IsServing (expiring r tx)
  expired_serving tx = record {
    orderly = unwaited_orderly r.lock tx was.orderly;
    attended = unwaited_all tx (drop_first (is_by tx) r.waiting) (none-dropped tx r.waiting was.alone)
        (each-drop_first (λ (x : Request). is_attended r.lock x.tx (work_mode x.work) ≡ true) (is_by tx) r.waiting
        was.attended);
    alone = alone-drop_first (is_by tx) r.waiting was.alone;
  }

  aged_serving : IsServing (ageing r)
  aged_serving = record {
    orderly = grown_old_orderly r.lock was.orderly;
    attended = each_map (λ (x : Request). is_attended r.lock x.tx (work_mode x.work) ≡ true)
        (λ (x : Request). is_attended (grown_old r.lock) x.tx (work_mode x.work) ≡ true) r.waiting
        (λ x is. rounds_attend r.lock x.tx (work_mode x.work) is) was.attended;
    alone = was.alone;
  }

serving_after : (event : Event) (r : Replica) → IsServing r → IsApart r event → IsServing (key_after event r)
serving_after rests r was apart = was
serving_after (asks q refused) r was apart = asked_serving r was q refused apart
serving_after (serves refused) r was apart = served_serving r was refused (first (is_let_in r.lock) r.waiting)
serving_after (commits tx true) r was apart = let_go_serving r was tx true apart
serving_after (commits tx false) r was apart =
    record { orderly = was.orderly; attended = was.attended; alone = was.alone }
serving_after (completes tx) r was apart = record {
  orderly = released_orderly r.lock tx was.orderly;
  attended = released_all r was tx r.waiting apart was.attended;
  alone = was.alone;
}
serving_after (aborts tx) r was apart = aborted_serving r was tx
serving_after (expires tx) r was apart = expired_serving r was tx
serving_after (ages None) r was apart = aged_serving r was
serving_after (ages (Some tx)) r was apart = expired_serving (ageing r) (aged_serving r was) tx

module _ (start : Start) (key : List ℕ) where
  -- what is owed keeps them apart
  apart_of : (logs : ℕ → List HostStep) (h : ℕ) (event : Event) → IsOwed start logs key h event
      → IsApart (at_host start logs key h) event
  apart_of logs h (asks q refused) owed = owed.1.0
  apart_of logs h (commits tx true) owed = owed.1.0
  apart_of logs h (commits tx false) owed = tt
  apart_of logs h (completes tx) owed = owed.0
  apart_of logs h (serves refused) owed = tt
  apart_of logs h (aborts tx) owed = tt
  apart_of logs h (expires tx) owed = tt
  apart_of logs h (ages wait) owed = tt
  apart_of logs h rests owed = tt

  -- nobody holds the lock of a replica at first, or waits for it
  pub first_idle : (at : ℕ) → IsShape start.shape → at < length (replicas start key)
      → (key_in key (started start (replica_host start key at))).lock ≡ unlocked
  first_idle at shape inside =
      let node = replicas_are_nodes start key at shape inside in
      ap (λ (r : Replica). r.lock)
      (nodes_begin start (node_at (replicas start key) at) key node.from node.to node.holding)

  first_waits : (at : ℕ) → IsShape start.shape → at < length (replicas start key)
      → (key_in key (started start (replica_host start key at))).waiting ≡ []
  first_waits at shape inside =
      let node = replicas_are_nodes start key at shape inside in
      ap (λ (r : Replica). r.waiting)
      (nodes_begin start (node_at (replicas start key) at) key node.from node.to node.holding)

  pub serving_along : (at : ℕ) → at < length (replicas start key) → (es : List HostStep) → IsRun start es
      → IsServing (at_host start (logs_of start es) key (replica_host start key at))
  serving_along at inside [] run = record {
    orderly = subst IsOrderly (sym (first_idle at run.shape inside)) unlocked_orderly;
    attended =
        subst (AreAttended (key_in key (started start (replica_host start key at))).lock)
        (sym (first_waits at run.shape inside)) tt;
    alone = subst AreAlone (sym (first_waits at run.shape inside)) tt;
  }
  serving_along at inside (e ∷ es) run =
      event_keeps (machine start) e es (λ h log. IsServing (key_in key (after start h log))) here
      (replica_host start key at) (serving_along at inside es (earlier start es e run))
    where
      old : ℕ → List HostStep
      old = logs_of start es

      event : Event
      event = event_in key (after start e.host (old e.host)) e.step.taken

      here : IsServing (at_host start old key e.host) → IsServing (key_in key (after start e.host (e ∷ old e.host)))
      here was =
          subst IsServing (sym (logs_follow start e.host (old e.host) e key))
          (serving_after event (at_host start old key e.host) was
          (apart_of old e.host event (events_owed start es e key (comes start es e run))))
