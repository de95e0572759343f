-- Who comes to ask for something on a key: as it is sent over a link, as it is taken, and in the line at the lock.
use Rattle.std.proofs.Common.{◌≡◌, ℕ, Bool, true, false, List, [], ◌∷◌, filter_map, refl, sym, subst}
use Rattle.std.proofs.lemmas.Bool.{and_from, or_left, or_right, true≢false}
use Rattle.std.specs.List.{cons_option}
use Rattle.std.specs.Prelude.{◌==◌, ◌&&◌, if◌then◌else◌, Option, None, Some}
use Rattle.sig_core.proofs.Keys.{same_tx-self}
use Rattle.sig_core.specs.declared.member.TxId.{TxId}
use Rattle.sig_core.specs.declared.signal.Body.{Body}
use Rattle.sig_core.specs.declared.signal.Body.TheVariants.{Host, Chain}
use Rattle.sig_core.specs.declared.signal.chain.ChainSignal.TheVariants.{LqhKeyReq, Commit, Complete, Abort}
use Rattle.sig_core.specs.declared.signal.host.HostSignal.TheVariants.{Round, Continue}
use Rattle.sig_core.specs.declared.signal.host.Work.TheVariants as work
use Rattle.sig_core.specs.Firsts.{first}
use Rattle.sig_core.specs.Same.{same_key, same_tx}
use Rattle.sig_core.specs.Work.{work_key}
use Rattle.row_locks.specs.declared.claim.Wait.{Wait}
use Rattle.row_locks.specs.declared.mode.Lock.{Lock}
use Rattle.row_locks.specs.declared.mode.Lock.TheVariants.{Granted, Queued}
use Rattle.row_locks.specs.declared.mode.Mode.{Mode}
use Rattle.row_locks.specs.Rounds.{expired}
use Rattle.row_locks.specs.Rows.{RowLock, asked, grown_old, unlocked}
use Rattle.lqh_block.specs.declared.request.Request.{Request}
use Rattle.lqh_block.specs.Expire.{aged}
use Rattle.lqh_block.specs.Operate.{is_granted}
use Rattle.lqh_block.specs.State.{LqhState, storage_of}
use Rattle.lqh_block.specs.Work.{work_mode}
use Rattle.node_core.specs.Blocks.{lqh_of}
use Rattle.node_core.specs.Row.{row}
use Rattle.world_core.specs.Hosts.{started}
use Rattle.world_core.specs.Machine.{after}
use Rattle.world_core.specs.Start.{Start}
use Rattle.world_core.specs.Steps.{HostStep}
use Rattle.key_laws.specs.Replica.{Event, Replica, aborts, ages, asked_by, asks, commits, completes, event_at}
use Rattle.key_laws.specs.Replica.{expired_by, expires, expires_if, if_on, is_let_in, is_refused, key_after, rests}
use Rattle.key_laws.specs.Replica.{served_by, serves, serves_if}
use Rattle.host_laws.specs.ReplicaLaws.{event_in, key_in}
use Rattle.host_laws.proofs.rows.Replicas.{logs_follow}
use Rattle.run_laws.proofs.circle.RowsEvents.{EventCase, event_case, no_event, of_rows}
use Rattle.order_laws.proofs.Behind.{is_among, is_behind}
use Rattle.order_laws.proofs.Lines.{AreInLine, IsLinedLock, aged_lined, asked_lined, released_lined, unwaited_lined}

-- who asks by a signal for something on the key
abbrev pub asker : List ℕ → Body → Option TxId
asker key (Chain (LqhKeyReq tx work chain at)) = if same_key (work_key work) key then Some tx else None
asker key body = None

-- who asked so in the steps of a log, the newest first
abbrev pub came : List ℕ → List HostStep → List TxId
came key log = filter_map (λ (e : HostStep). asker key e.step.taken.body) log

-- the line at a lock is as those came
abbrev pub IsLinedBy : List TxId → RowLock → Type 0
IsLinedBy xs lock = IsLinedLock (λ u. is_among u xs) (λ u v. is_behind u v xs) lock

nobody_lined : IsLinedBy [] unlocked
nobody_lined = record {
  holders = λ u is. absurd cc;
  waiters = λ u is. absurd cc;
  across = λ u v is behind. absurd cc;
  along = tt;
}

along_more : (tx : TxId) (xs : List TxId) (ws : List Wait)
    → AreInLine (λ u. is_among u xs) (λ u v. is_behind u v xs) ws
    → AreInLine (λ u. is_among u (tx ∷ xs)) (λ u v. is_behind u v (tx ∷ xs)) ws
along_more tx xs [] all = tt
along_more tx xs (w ∷ ws) all = (
  λ v is. or_right (same_tx tx v && is_among w.tx xs) (is_behind w.tx v xs) (all.0 v is),
  along_more tx xs ws all.1,
)

-- one more may have come
more_lined : (o : Option TxId) (xs : List TxId) (lock : RowLock) → IsLinedBy xs lock
    → IsLinedBy (cons_option o xs) lock
more_lined None xs lock line = line
more_lined (Some tx) xs lock line = record {
  holders = λ u is. or_right (same_tx tx u) (is_among u xs) (line.holders u is);
  waiters = λ u is. or_right (same_tx tx u) (is_among u xs) (line.waiters u is);
  across = λ u v is behind. or_right (same_tx tx v && is_among u xs) (is_behind u v xs) (line.across u v is behind);
  along = along_more tx xs lock.queue line.along;
}

asked_now : (xs : List TxId) (lock : RowLock) (tx : TxId) (mode : Mode) → IsLinedBy xs lock
    → IsLinedBy (tx ∷ xs) (asked lock tx mode).lock
asked_now xs lock tx mode line =
    asked_lined (λ u. is_among u (tx ∷ xs)) (λ u v. is_behind u v (tx ∷ xs)) lock tx mode
    (more_lined (Some tx) xs lock line) (or_left (same_tx tx tx) (is_among tx xs) (same_tx-self tx))
    (λ u is. newest u (line.holders u is)) (λ u is. newest u (line.waiters u is))
  where
    newest : (u : TxId) → is_among u xs ≡ true → is_behind u tx (tx ∷ xs) ≡ true
    newest u here = or_left (same_tx tx tx && is_among u xs) (is_behind u tx xs)
        (and_from (same_tx tx tx) (is_among u xs) (same_tx-self tx) here)

-- an event is that of a request
abbrev is_asking : Event → Bool
is_asking (asks q refused) = true
is_asking event = false

module _ (xs : List TxId) where
  answered : (r : Replica) (q : Request) (refused : Bool) (now : RowLock) (answer : Lock) → IsLinedBy xs now
      → IsLinedBy xs (asked_by r now q refused answer).lock
  answered r q refused now Granted line = line
  answered r q refused now (Queued ahead) line = line

  served : (r : Replica) (refused : Bool) (o : Option Request) → IsLinedBy xs r.lock
      → IsLinedBy xs (served_by r refused o).lock
  served r refused None line = line
  served r refused (Some q) line = line

  -- no other event makes a line of more
  lined_after : (event : Event) (r : Replica) → is_asking event ≡ false → IsLinedBy xs r.lock
      → IsLinedBy xs (key_after event r).lock
  lined_after rests r off line = line
  lined_after (asks q refused) r off line = absurd (true≢false off)
  lined_after (serves refused) r off line = served r refused (first (is_let_in r.lock) r.waiting) line
  lined_after (commits tx true) r off line =
      released_lined (λ u. is_among u xs) (λ u v. is_behind u v xs) r.lock tx line
  lined_after (commits tx false) r off line = line
  lined_after (completes tx) r off line =
      released_lined (λ u. is_among u xs) (λ u v. is_behind u v xs) r.lock tx line
  lined_after (aborts tx) r off line =
      released_lined (λ u. is_among u xs) (λ u v. is_behind u v xs) r.lock tx line
  lined_after (expires tx) r off line =
      unwaited_lined (λ u. is_among u xs) (λ u v. is_behind u v xs) r.lock tx line
  lined_after (ages None) r off line = aged_lined (λ u. is_among u xs) (λ u v. is_behind u v xs) r.lock line
  lined_after (ages (Some tx)) r off line =
      unwaited_lined (λ u. is_among u xs) (λ u v. is_behind u v xs) (grown_old r.lock) tx
      (aged_lined (λ u. is_among u xs) (λ u v. is_behind u v xs) r.lock line)

module _ (key : List ℕ) where
  still_off : (own : List ℕ) (event : Event) → is_asking event ≡ false → is_asking (if_on own key event) ≡ false
  still_off own event off = by (same_key own key)
    where
      by : (b : Bool) → is_asking (if b then event else rests) ≡ false
      by true = off
      by false = refl

  serves_off : (s : LqhState) (o : Option Request) → is_asking (serves_if key s o) ≡ false
  serves_off s None = refl
  serves_off s (Some q) = still_off (work_key q.work) (serves (is_refused (storage_of s) q)) refl

  expires_off : (o : Option (TxId × List ℕ)) → is_asking (expires_if key o) ≡ false
  expires_off None = refl
  expires_off (Some wait) = still_off wait.1 (expires wait.0) refl

  -- a signal that the rows of a node take
  lined_by : (xs : List TxId) (s : LqhState) (r : Replica) (body : Body) → IsLinedBy xs r.lock
      → IsLinedBy (cons_option (asker key body) xs) (key_after (event_at key s body) r).lock
  lined_by xs s r (Chain (LqhKeyReq tx what chain at)) line = by (same_key (work_key what) key)
    where
      q : Request
      q = record { tx = tx; work = what; chain = chain; at = at }

      by : (b : Bool) → IsLinedBy (cons_option (if b then Some tx else None) xs)
          (key_after (if b then asks q (is_refused (storage_of s) q) else rests) r).lock
      by true =
          answered (tx ∷ xs) r q (is_refused (storage_of s) q) (asked r.lock tx (work_mode what)).lock
          (asked r.lock tx (work_mode what)).answer (asked_now xs r.lock tx (work_mode what) line)
      by false = line
  lined_by xs s r (Host (Continue work.Granted at)) line =
      lined_after xs (serves_if key s (first (is_granted s.locks) s.waiting)) r
      (serves_off s (first (is_granted s.locks) s.waiting)) line
  lined_by xs s r (Chain (Commit tx own epoch chain at)) line =
      lined_after xs (if_on own key (commits tx (at == 0))) r (still_off own (commits tx (at == 0)) refl) line
  lined_by xs s r (Chain (Complete tx own chain at)) line =
      lined_after xs (if_on own key (completes tx)) r (still_off own (completes tx) refl) line
  lined_by xs s r (Chain (Abort tx own)) line =
      lined_after xs (if_on own key (aborts tx)) r (still_off own (aborts tx) refl) line
  lined_by xs s r (Host Round) line =
      lined_after xs (ages (expired_by key (expired (aged s).locks))) r refl line
  lined_by xs s r (Host (Continue work.Expired at)) line =
      lined_after xs (expires_if key (expired s.locks)) r (expires_off (expired s.locks)) line
  lined_by xs s r _ line = line

  -- Along a log: who holds the lock or waits has come, and each that waits came once more behind each in front of it.
  pub lined_along : (start : Start) (h : ℕ) → (key_in key (started start h)).lock ≡ unlocked → (log : List HostStep)
      → IsLinedBy (came key log) (key_in key (after start h log)).lock
  lined_along start h idle [] = subst (IsLinedBy []) (sym idle) nobody_lined
  lined_along start h idle (e ∷ log) =
      subst (λ (r : Replica). IsLinedBy (came key (e ∷ log)) r.lock) (sym (logs_follow start h log e key))
      (by (lined_along start h idle log) (event_case key (after start h log) e.step.taken))
    where
      r : Replica
      r = key_in key (after start h log)

      by : IsLinedBy (came key log) r.lock
          → EventCase key (after start h log) e.step.taken (row (after start h log) e.step.taken)
          → IsLinedBy (cons_option (asker key e.step.taken.body) (came key log))
          (key_after (event_in key (after start h log) e.step.taken) r).lock
      by line (of_rows step is) =
          subst (λ event. IsLinedBy (came key (e ∷ log)) (key_after event r).lock) (sym is)
          (lined_by (came key log) (lqh_of (after start h log)) r e.step.taken.body line)
      by line (no_event is) =
          subst (λ event. IsLinedBy (came key (e ∷ log)) (key_after event r).lock) (sym is)
          (more_lined (asker key e.step.taken.body) (came key log) r.lock line)
