-- Who has let go of a key, and hasn't asked for it since, neither holds its lock nor waits for it.
use Rattle.std.proofs.Common.{◌≡◌, ◌⊎◌, ◌+◌, ℕ, Bool, true, false, List, [], ◌∷◌, ◌++◌, refl, sym, ap, ◌∙◌, subst}
use Rattle.std.proofs.Common.{inl, inr}
use Rattle.std.proofs.lemmas.Bool.{false≢true, or_cases, or_left, or_right, true≢false}
use Rattle.std.specs.Prelude.{if◌then◌else◌, Option, None, Some}
use Rattle.sig_core.proofs.Keys.{same_tx-self}
use Rattle.sig_core.proofs.TxLemmas.{same_tx-is}
use Rattle.sig_core.specs.declared.member.TxId.{TxId}
use Rattle.sig_core.specs.Firsts.{first}
use Rattle.sig_core.specs.Same.{same_tx}
use Rattle.row_locks.proofs.OrderlyLemmas.{gone-without}
use Rattle.row_locks.specs.declared.claim.Holder.{Holder}
use Rattle.row_locks.specs.declared.claim.Wait.{Wait}
use Rattle.row_locks.specs.declared.mode.Lock.{Lock}
use Rattle.row_locks.specs.declared.mode.Lock.TheVariants.{Granted, Queued}
use Rattle.row_locks.specs.declared.mode.Mode.{Mode}
use Rattle.row_locks.specs.Holders.{agrees_with, hold, holds, holds_enough, others, unless_gone}
use Rattle.row_locks.specs.Queues.{wait_of, waits, without}
use Rattle.row_locks.specs.Rows.{RowLock, asked, asked_anew, asked_by, grown_old, is_quiet, may_hold, released}
use Rattle.row_locks.specs.Rows.{served, served_if, unwaited}
use Rattle.lqh_block.specs.declared.request.Request.{Request}
use Rattle.lqh_block.specs.Work.{work_mode}
use Rattle.world_core.specs.Machine.{after}
use Rattle.world_core.specs.Start.{Start}
use Rattle.world_core.specs.Steps.{HostStep}
use Rattle.key_laws.specs.Replica as replica
use Rattle.key_laws.specs.Replica.{Event, Replica, aborts, ages, asks, commits, completes, expires, is_let_in}
use Rattle.key_laws.specs.Replica.{key_after, rests, served_by, serves}
use Rattle.host_laws.proofs.rows.QueueWaits.{waits_aged}
use Rattle.host_laws.specs.ReplicaLaws.{event_in, key_in}
use Rattle.host_laws.proofs.rows.Replicas.{logs_follow}
use Rattle.order_laws.specs.Gone.{WhoHasGoneIsOut, gone_by, has_gone}
use Rattle.order_laws.proofs.Lines.{holds_hold, holds_others, waits_last, waits_raised, waits_without}

pub not_true : (b : Bool) → (b ≡ true → ⊥) → b ≡ false
not_true true never = absurd (never refl)
not_true false never = refl

module _ (tx : TxId) where
  pub record IsAway (hs : List Holder) (ws : List Wait) : Type 0 where
    pub unheld : holds tx hs ≡ true → ⊥
    pub unwaited : waits tx ws ≡ true → ⊥

  abbrev pub IsAwayFrom : RowLock → Type 0
  IsAwayFrom lock = IsAway lock.holders lock.queue

  -- it isn't a holder once it was taken out
  others_gone : (hs : List Holder) → holds tx (others tx hs) ≡ true → ⊥
  others_gone [] is = false≢true is
  others_gone (h ∷ hs) is = by (same_tx h.tx tx) refl is (others_gone hs)
    where
      which : same_tx h.tx tx ≡ false → (same_tx h.tx tx ≡ true) ⊎ (holds tx (others tx hs) ≡ true)
          → (holds tx (others tx hs) ≡ true → ⊥) → ⊥
      which off (inl own) never = true≢false (sym own ∙ off)
      which off (inr rest) never = never rest

      by : (b : Bool) → same_tx h.tx tx ≡ b → holds tx (unless_gone b h (others tx hs)) ≡ true
          → (holds tx (others tx hs) ≡ true → ⊥) → ⊥
      by true e is never = never is
      by false e is never = which e (or_cases (same_tx h.tx tx) (holds tx (others tx hs)) is) never

  -- another that holds the lock doesn't bring it back
  hold_away : (v : TxId) (mode : Mode) (hs : List Holder) → (v ≡ tx → ⊥) → (holds tx hs ≡ true → ⊥)
      → holds tx (hold v mode hs) ≡ true → ⊥
  hold_away v mode hs apart never is = by (holds_hold tx v mode hs is)
    where
      by : (holds tx hs ≡ true) ⊎ (v ≡ tx) → ⊥
      by (inl held) = never held
      by (inr same) = apart same

  served_away : (n : ℕ) (hs : List Holder) (ws : List Wait) → IsAway hs ws → IsAwayFrom (served n hs ws).lock
  served_away n hs [] away = away
  served_away n hs (w ∷ ws) away =
      by (may_hold w hs) (served_away (n + 1) (hold w.tx w.mode hs) ws (record {
        unheld = hold_away w.tx w.mode hs apart away.unheld;
        unwaited = λ is. away.unwaited (or_right (same_tx w.tx tx) (waits tx ws) is);
      }))
    where
      apart : w.tx ≡ tx → ⊥
      apart same =
          away.unwaited (or_left (same_tx w.tx tx) (waits tx ws) (ap (λ t. same_tx t tx) same ∙ same_tx-self tx))

      by : (b : Bool) → IsAwayFrom (served (n + 1) (hold w.tx w.mode hs) ws).lock
          → IsAwayFrom (served_if b (served (n + 1) (hold w.tx w.mode hs) ws)
          (record { lock = record { holders = hs; queue = w ∷ ws }; granted = n })).lock
      by true more = more
      by false more = away

  own_away : (lock : RowLock) → IsAwayFrom (released lock tx).lock
  own_away lock = served_away 0 (others tx lock.holders) (without tx lock.queue) (record {
    unheld = others_gone lock.holders;
    unwaited = λ is. true≢false (sym is ∙ gone-without tx lock.queue);
  })

  released_away : (lock : RowLock) (v : TxId) → IsAwayFrom lock → IsAwayFrom (released lock v).lock
  released_away lock v away = served_away 0 (others v lock.holders) (without v lock.queue) (record {
    unheld = λ is. away.unheld (holds_others v tx lock.holders is);
    unwaited = λ is. away.unwaited (waits_without v tx lock.queue is);
  })

  unwaited_away : (lock : RowLock) (v : TxId) → IsAwayFrom lock → IsAwayFrom (unwaited lock v).lock
  unwaited_away lock v away = served_away 0 lock.holders (without v lock.queue) (record {
    unheld = away.unheld;
    unwaited = λ is. away.unwaited (waits_without v tx lock.queue is);
  })

  aged_away : (lock : RowLock) → IsAwayFrom lock → IsAwayFrom (grown_old lock)
  aged_away lock away = record {
    unheld = away.unheld;
    unwaited = λ is. away.unwaited (sym (waits_aged tx lock.queue) ∙ is);
  }

  -- another's request
  module _ (lock : RowLock) (v : TxId) (mode : Mode) (off : same_tx v tx ≡ false) (away : IsAwayFrom lock) where
    apart : v ≡ tx → ⊥
    apart same = true≢false (sym (ap (λ t. same_tx t tx) same ∙ same_tx-self tx) ∙ off)

    waits_new : (same_tx v tx ≡ true) ⊎ (waits tx lock.queue ≡ true) → ⊥
    waits_new (inl own) = true≢false (sym own ∙ off)
    waits_new (inr rest) = away.unwaited rest

    waits_behind : (waits tx lock.queue ≡ true) ⊎ (same_tx v tx ≡ true) → ⊥
    waits_behind (inl rest) = away.unwaited rest
    waits_behind (inr own) = true≢false (sym own ∙ off)

    granted_away : IsAway (hold v mode lock.holders) lock.queue
    granted_away =
        record { unheld = hold_away v mode lock.holders apart away.unheld; unwaited = away.unwaited }

    last_away : IsAway lock.holders (lock.queue ++ wait_of v mode ∷ [])
    last_away = record {
      unheld = away.unheld;
      unwaited = λ is. waits_behind (waits_last tx lock.queue (wait_of v mode) is);
    }

    anew_away : (held agrees quiet : Bool) → IsAwayFrom (asked_anew held agrees quiet lock v mode).lock
    anew_away true true quiet = granted_away
    anew_away true false quiet = record {
      unheld = away.unheld;
      unwaited = λ is. waits_new (or_cases (same_tx v tx) (waits tx lock.queue) is);
    }
    anew_away false true true = granted_away
    anew_away false true false = last_away
    anew_away false false quiet = last_away

    asked_away : IsAwayFrom (asked lock v mode).lock
    asked_away = by (holds_enough v mode lock.holders) (waits v lock.queue)
      where
        by : (enough waiting : Bool) → IsAwayFrom (asked_by enough waiting lock v mode).lock
        by true waiting = away
        by false true = record {
          unheld = away.unheld;
          unwaited = λ is. away.unwaited (sym (waits_raised v tx mode lock.queue) ∙ is);
        }
        by false false =
            anew_away (holds v lock.holders) (agrees_with v mode lock.holders) (is_quiet lock.queue)

  answered_away : (r : Replica) (q : Request) (refused : Bool) (now : RowLock) (answer : Lock) → IsAwayFrom now
      → IsAwayFrom (replica.asked_by r now q refused answer).lock
  answered_away r q refused now Granted away = away
  answered_away r q refused now (Queued ahead) away = away

  let_in_away : (r : Replica) (refused : Bool) (o : Option Request) → IsAwayFrom r.lock
      → IsAwayFrom (served_by r refused o).lock
  let_in_away r refused None away = away
  let_in_away r refused (Some q) away = away

  -- an event by which it lets go, or another one where it is away
  gone_away : (lock : RowLock) (v : TxId) (was : Bool) → (was ≡ true → IsAwayFrom lock)
      → (same_tx v tx ≡ true) ⊎ (was ≡ true) → IsAwayFrom (released lock v).lock
  gone_away lock v was before (inl own) =
      subst (λ t. IsAwayFrom (released lock t).lock) (sym (same_tx-is v tx own)) (own_away lock)
  gone_away lock v was before (inr is) = released_away lock v (before is)

  pub away_after : (event : Event) (r : Replica) (was : Bool) → (was ≡ true → IsAwayFrom r.lock)
      → gone_by tx event was ≡ true → IsAwayFrom (key_after event r).lock
  away_after rests r was before is = before is
  away_after (asks q refused) r was before is = by (same_tx q.tx tx) refl is
    where
      by : (b : Bool) → same_tx q.tx tx ≡ b → (if b then false else was) ≡ true
          → IsAwayFrom (key_after (asks q refused) r).lock
      by true own never = absurd (false≢true never)
      by false off had =
          answered_away r q refused (asked r.lock q.tx (work_mode q.work)).lock
          (asked r.lock q.tx (work_mode q.work)).answer
          (asked_away r.lock q.tx (work_mode q.work) off (before had))
  away_after (serves refused) r was before is =
      let_in_away r refused (first (is_let_in r.lock) r.waiting) (before is)
  away_after (commits v true) r was before is = gone_away r.lock v was before (or_cases (same_tx v tx) was is)
  away_after (commits v false) r was before is = before is
  away_after (completes v) r was before is = gone_away r.lock v was before (or_cases (same_tx v tx) was is)
  away_after (aborts v) r was before is = gone_away r.lock v was before (or_cases (same_tx v tx) was is)
  away_after (expires v) r was before is = unwaited_away r.lock v (before is)
  away_after (ages None) r was before is = aged_away r.lock (before is)
  away_after (ages (Some v)) r was before is = unwaited_away (grown_old r.lock) v (aged_away r.lock (before is))

  away_along : (start : Start) (key : List ℕ) (h : ℕ) (log : List HostStep) → has_gone start key tx h log ≡ true
      → IsAwayFrom (key_in key (after start h log)).lock
  away_along start key h [] is = absurd (false≢true is)
  away_along start key h (e ∷ log) is =
      subst (λ (r : Replica). IsAwayFrom r.lock) (sym (logs_follow start h log e key))
      (away_after (event_in key (after start h log) e.step.taken) (key_in key (after start h log))
      (has_gone start key tx h log) (away_along start key h log) is)

pub who_has_gone_is_out : WhoHasGoneIsOut
who_has_gone_is_out start key tx h log is =
    let away = away_along tx start key h log is in
    record { unheld = not_true _ away.unheld; unwaited = not_true _ away.unwaited }
