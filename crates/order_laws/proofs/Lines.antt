-- Who holds a lock and who waits stand in a line, and each call on the lock keeps them in it.
use Rattle.std.proofs.Common.{◌≡◌, ◌⊎◌, ◌+◌, ℕ, Bool, true, false, ◌||◌, List, [], ◌∷◌, ◌++◌, refl, sym, ap, ◌∙◌, subst}
use Rattle.std.proofs.Common.{inl, inr}
use Rattle.std.proofs.lemmas.Bool.{or_cases, or_left, or_right}
use Rattle.sig_core.specs.declared.member.TxId.{TxId}
use Rattle.sig_core.specs.Same.{same_tx}
use Rattle.sig_core.proofs.Keys.{same_tx-self}
use Rattle.sig_core.proofs.TxLemmas.{same_tx-is}
use Rattle.row_locks.specs.declared.claim.Holder.{Holder}
use Rattle.row_locks.specs.declared.claim.Wait.{Wait}
use Rattle.row_locks.specs.declared.mode.Mode.{Mode}
use Rattle.row_locks.specs.Holders.{agrees_with, hold, holder_of, holds, holds_enough, others, unless_gone}
use Rattle.row_locks.specs.Queues.{aged_all, raised, raised_if, wait_of, waits, without}
use Rattle.row_locks.specs.Rows.{RowLock, asked, asked_anew, asked_by, grown_old, is_quiet, may_hold, released, served}
use Rattle.row_locks.specs.Rows.{served_if, unwaited}
use Rattle.host_laws.proofs.rows.QueueWaits.{waits_aged}

pub holds_others : (tx u : TxId) (hs : List Holder) → holds u (others tx hs) ≡ true → holds u hs ≡ true
holds_others tx u [] is = is
holds_others tx u (h ∷ hs) is = by (same_tx h.tx tx) is (holds_others tx u hs)
  where
    which : (same_tx h.tx u ≡ true) ⊎ (holds u (others tx hs) ≡ true)
        → (holds u (others tx hs) ≡ true → holds u hs ≡ true) → (same_tx h.tx u || holds u hs) ≡ true
    which (inl own) more = or_left (same_tx h.tx u) (holds u hs) own
    which (inr rest) more = or_right (same_tx h.tx u) (holds u hs) (more rest)

    by : (b : Bool) → holds u (unless_gone b h (others tx hs)) ≡ true
        → (holds u (others tx hs) ≡ true → holds u hs ≡ true) → (same_tx h.tx u || holds u hs) ≡ true
    by true is more = or_right (same_tx h.tx u) (holds u hs) (more is)
    by false is more = which (or_cases (same_tx h.tx u) (holds u (others tx hs)) is) more

holds_last : (u : TxId) (hs : List Holder) (h : Holder) → holds u (hs ++ h ∷ []) ≡ true
    → (holds u hs ≡ true) ⊎ (same_tx h.tx u ≡ true)
holds_last u [] h is = by (or_cases (same_tx h.tx u) false is)
  where
    by : (same_tx h.tx u ≡ true) ⊎ (false ≡ true) → (false ≡ true) ⊎ (same_tx h.tx u ≡ true)
    by (inl own) = inr own
    by (inr never) = inl never
holds_last u (g ∷ hs) h is = by (or_cases (same_tx g.tx u) (holds u (hs ++ h ∷ [])) is) (holds_last u hs h)
  where
    after : (holds u hs ≡ true) ⊎ (same_tx h.tx u ≡ true)
        → ((same_tx g.tx u || holds u hs) ≡ true) ⊎ (same_tx h.tx u ≡ true)
    after (inl rest) = inl (or_right (same_tx g.tx u) (holds u hs) rest)
    after (inr own) = inr own

    by : (same_tx g.tx u ≡ true) ⊎ (holds u (hs ++ h ∷ []) ≡ true)
        → (holds u (hs ++ h ∷ []) ≡ true → (holds u hs ≡ true) ⊎ (same_tx h.tx u ≡ true))
        → ((same_tx g.tx u || holds u hs) ≡ true) ⊎ (same_tx h.tx u ≡ true)
    by (inl own) more = inl (or_left (same_tx g.tx u) (holds u hs) own)
    by (inr rest) more = after (more rest)

-- who holds the lock once a transaction does is that one, or held it before
pub holds_hold : (u tx : TxId) (mode : Mode) (hs : List Holder) → holds u (hold tx mode hs) ≡ true
    → (holds u hs ≡ true) ⊎ (tx ≡ u)
holds_hold u tx mode hs is = by (holds_last u (others tx hs) (holder_of tx mode) is)
  where
    by : (holds u (others tx hs) ≡ true) ⊎ (same_tx tx u ≡ true) → (holds u hs ≡ true) ⊎ (tx ≡ u)
    by (inl rest) = inl (holds_others tx u hs rest)
    by (inr own) = inr (same_tx-is tx u own)

pub waits_without : (tx u : TxId) (ws : List Wait) → waits u (without tx ws) ≡ true → waits u ws ≡ true
waits_without tx u [] is = is
waits_without tx u (w ∷ ws) is = by (same_tx w.tx tx) is (waits_without tx u ws)
  where
    which : (same_tx w.tx u ≡ true) ⊎ (waits u (without tx ws) ≡ true)
        → (waits u (without tx ws) ≡ true → waits u ws ≡ true) → (same_tx w.tx u || waits u ws) ≡ true
    which (inl own) more = or_left (same_tx w.tx u) (waits u ws) own
    which (inr rest) more = or_right (same_tx w.tx u) (waits u ws) (more rest)

    by : (b : Bool) → waits u (unless_gone b w (without tx ws)) ≡ true
        → (waits u (without tx ws) ≡ true → waits u ws ≡ true) → (same_tx w.tx u || waits u ws) ≡ true
    by true is more = or_right (same_tx w.tx u) (waits u ws) (more is)
    by false is more = which (or_cases (same_tx w.tx u) (waits u (without tx ws)) is) more

pub waits_last : (u : TxId) (ws : List Wait) (w : Wait) → waits u (ws ++ w ∷ []) ≡ true
    → (waits u ws ≡ true) ⊎ (same_tx w.tx u ≡ true)
waits_last u [] w is = by (or_cases (same_tx w.tx u) false is)
  where
    by : (same_tx w.tx u ≡ true) ⊎ (false ≡ true) → (false ≡ true) ⊎ (same_tx w.tx u ≡ true)
    by (inl own) = inr own
    by (inr never) = inl never
waits_last u (v ∷ ws) w is = by (or_cases (same_tx v.tx u) (waits u (ws ++ w ∷ [])) is) (waits_last u ws w)
  where
    after : (waits u ws ≡ true) ⊎ (same_tx w.tx u ≡ true)
        → ((same_tx v.tx u || waits u ws) ≡ true) ⊎ (same_tx w.tx u ≡ true)
    after (inl rest) = inl (or_right (same_tx v.tx u) (waits u ws) rest)
    after (inr own) = inr own

    by : (same_tx v.tx u ≡ true) ⊎ (waits u (ws ++ w ∷ []) ≡ true)
        → (waits u (ws ++ w ∷ []) ≡ true → (waits u ws ≡ true) ⊎ (same_tx w.tx u ≡ true))
        → ((same_tx v.tx u || waits u ws) ≡ true) ⊎ (same_tx w.tx u ≡ true)
    by (inl own) more = inl (or_left (same_tx v.tx u) (waits u ws) own)
    by (inr rest) more = after (more rest)

raised_tx : (b : Bool) (mode : Mode) (w : Wait) → (raised_if b mode w).tx ≡ w.tx
raised_tx true mode w = refl
raised_tx false mode w = refl

pub waits_raised : (tx u : TxId) (mode : Mode) (ws : List Wait) → waits u (raised tx mode ws) ≡ waits u ws
waits_raised tx u mode [] = refl
waits_raised tx u mode (w ∷ ws) =
    λ i. same_tx (raised_tx (same_tx w.tx tx) mode w i) u || waits_raised tx u mode ws i

module _ (p : TxId → Bool) (r : TxId → TxId → Bool) where
  -- each that waits stands behind those in front of it
  abbrev pub AreInLine : List Wait → Type 0
  AreInLine [] = Unit {0}
  AreInLine (w ∷ ws) = ((v : TxId) → waits v ws ≡ true → r w.tx v ≡ true) × AreInLine ws

  -- so does each that waits behind each that holds the lock, and all of them have come
  pub record IsLined (hs : List Holder) (ws : List Wait) : Type 0 where
    pub holders : (u : TxId) → holds u hs ≡ true → p u ≡ true
    pub waiters : (u : TxId) → waits u ws ≡ true → p u ≡ true
    pub across : (u v : TxId) → holds u hs ≡ true → waits v ws ≡ true → r u v ≡ true
    pub along : AreInLine ws

  along_without : (tx : TxId) (ws : List Wait) → AreInLine ws → AreInLine (without tx ws)
  along_without tx [] all = tt
  along_without tx (w ∷ ws) all = by (same_tx w.tx tx) (along_without tx ws all.1)
    where
      by : (b : Bool) → AreInLine (without tx ws) → AreInLine (unless_gone b w (without tx ws))
      by true more = more
      by false more = (λ v is. all.0 v (waits_without tx v ws is), more)

  along_last : (ws : List Wait) (w : Wait) → ((u : TxId) → waits u ws ≡ true → r u w.tx ≡ true) → AreInLine ws
      → AreInLine (ws ++ w ∷ [])
  along_last [] w front all = (λ v is. absurd cc, tt)
  along_last (x ∷ ws) w front all =
      (λ v is. by v (waits_last v ws w is), along_last ws w behind all.1)
    where
      behind : (u : TxId) → waits u ws ≡ true → r u w.tx ≡ true
      behind u is = front u (or_right (same_tx x.tx u) (waits u ws) is)

      newest : waits x.tx (x ∷ ws) ≡ true
      newest = or_left (same_tx x.tx x.tx) (waits x.tx ws) (same_tx-self x.tx)

      by : (v : TxId) → (waits v ws ≡ true) ⊎ (same_tx w.tx v ≡ true) → r x.tx v ≡ true
      by v (inl rest) = all.0 v rest
      by v (inr own) = subst (λ t. r x.tx t ≡ true) (same_tx-is w.tx v own) (front x.tx newest)

  along_raised : (tx : TxId) (mode : Mode) (ws : List Wait) → AreInLine ws → AreInLine (raised tx mode ws)
  along_raised tx mode [] all = tt
  along_raised tx mode (w ∷ ws) all = (
    λ v is. ap (λ t. r t v) (raised_tx (same_tx w.tx tx) mode w) ∙ all.0 v (sym (waits_raised tx v mode ws) ∙ is),
    along_raised tx mode ws all.1,
  )

  along_aged : (ws : List Wait) → AreInLine ws → AreInLine (aged_all ws)
  along_aged [] all = tt
  along_aged (w ∷ ws) all = (λ v is. all.0 v (sym (waits_aged v ws) ∙ is), along_aged ws all.1)

  -- a line of one more holder that stood first in the queue
  let_in : (hs : List Holder) (w : Wait) (ws : List Wait) → IsLined hs (w ∷ ws) → IsLined (hold w.tx w.mode hs) ws
  let_in hs w ws line = record {
    holders = λ u is. held u (holds_hold u w.tx w.mode hs is);
    waiters = λ u is. line.waiters u (or_right (same_tx w.tx u) (waits u ws) is);
    across = λ u v is behind. over u v behind (holds_hold u w.tx w.mode hs is);
    along = line.along.1;
  }
    where
      held : (u : TxId) → (holds u hs ≡ true) ⊎ (w.tx ≡ u) → p u ≡ true
      held u (inl is) = line.holders u is
      held u (inr own) =
          subst (λ t. p t ≡ true) own
          (line.waiters w.tx (or_left (same_tx w.tx w.tx) (waits w.tx ws) (same_tx-self w.tx)))

      over : (u v : TxId) → waits v ws ≡ true → (holds u hs ≡ true) ⊎ (w.tx ≡ u) → r u v ≡ true
      over u v behind (inl is) = line.across u v is (or_right (same_tx w.tx v) (waits v ws) behind)
      over u v behind (inr own) = subst (λ t. r t v ≡ true) own (line.along.0 v behind)

  -- a lock whose holders and queue are lined
  abbrev pub IsLinedLock : RowLock → Type 0
  IsLinedLock lock = IsLined lock.holders lock.queue

  served_lined : (n : ℕ) (hs : List Holder) (ws : List Wait) → IsLined hs ws → IsLinedLock (served n hs ws).lock
  served_lined n hs [] line = line
  served_lined n hs (w ∷ ws) line =
      by (may_hold w hs) (served_lined (n + 1) (hold w.tx w.mode hs) ws (let_in hs w ws line))
    where
      by : (b : Bool) → IsLinedLock (served (n + 1) (hold w.tx w.mode hs) ws).lock
          → IsLinedLock (served_if b (served (n + 1) (hold w.tx w.mode hs) ws)
          (record { lock = record { holders = hs; queue = w ∷ ws }; granted = n })).lock
      by true more = more
      by false more = line

  pub released_lined : (lock : RowLock) (tx : TxId) → IsLinedLock lock → IsLinedLock (released lock tx).lock
  released_lined lock tx line = served_lined 0 (others tx lock.holders) (without tx lock.queue) (record {
    holders = λ u is. line.holders u (holds_others tx u lock.holders is);
    waiters = λ u is. line.waiters u (waits_without tx u lock.queue is);
    across = λ u v is behind.
        line.across u v (holds_others tx u lock.holders is) (waits_without tx v lock.queue behind);
    along = along_without tx lock.queue line.along;
  })

  pub unwaited_lined : (lock : RowLock) (tx : TxId) → IsLinedLock lock → IsLinedLock (unwaited lock tx).lock
  unwaited_lined lock tx line = served_lined 0 lock.holders (without tx lock.queue) (record {
    holders = line.holders;
    waiters = λ u is. line.waiters u (waits_without tx u lock.queue is);
    across = λ u v is behind. line.across u v is (waits_without tx v lock.queue behind);
    along = along_without tx lock.queue line.along;
  })

  pub aged_lined : (lock : RowLock) → IsLinedLock lock → IsLinedLock (grown_old lock)
  aged_lined lock line = record {
    holders = line.holders;
    waiters = λ u is. line.waiters u (sym (waits_aged u lock.queue) ∙ is);
    across = λ u v is behind. line.across u v is (sym (waits_aged v lock.queue) ∙ behind);
    along = along_aged lock.queue line.along;
  }

  -- A request of a transaction that has come stands behind all that hold the lock or wait.
  module _ (lock : RowLock) (tx : TxId) (mode : Mode) (line : IsLinedLock lock) (own : p tx ≡ true)
      (behind_holders : (u : TxId) → holds u lock.holders ≡ true → r u tx ≡ true)
      (behind_waiters : (u : TxId) → waits u lock.queue ≡ true → r u tx ≡ true) where
    held_more : (holds tx lock.holders ≡ true) ⊎ (lock.queue ≡ []) → IsLined (hold tx mode lock.holders) lock.queue
    held_more agrees = record {
      holders = λ u is. held u (holds_hold u tx mode lock.holders is);
      waiters = line.waiters;
      across = λ u v is behind. over u v behind agrees (holds_hold u tx mode lock.holders is);
      along = line.along;
    }
      where
        held : (u : TxId) → (holds u lock.holders ≡ true) ⊎ (tx ≡ u) → p u ≡ true
        held u (inl is) = line.holders u is
        held u (inr same) = subst (λ t. p t ≡ true) same own

        over : (u v : TxId) → waits v lock.queue ≡ true → (holds tx lock.holders ≡ true) ⊎ (lock.queue ≡ [])
            → (holds u lock.holders ≡ true) ⊎ (tx ≡ u) → r u v ≡ true
        over u v behind any (inl is) = line.across u v is behind
        over u v behind (inl had) (inr same) = subst (λ t. r t v ≡ true) same (line.across tx v had behind)
        over u v behind (inr none) (inr same) =
            absurd (let no : false ≡ true = sym (ap (waits v) none) ∙ behind in cc)

    raised_first : holds tx lock.holders ≡ true → IsLined lock.holders (wait_of tx mode ∷ lock.queue)
    raised_first had = record {
      holders = line.holders;
      waiters = λ u is. waiting u (or_cases (same_tx tx u) (waits u lock.queue) is);
      across = λ u v is behind. over u v is (or_cases (same_tx tx v) (waits v lock.queue) behind);
      along = (λ v behind. line.across tx v had behind, line.along);
    }
      where
        waiting : (u : TxId) → (same_tx tx u ≡ true) ⊎ (waits u lock.queue ≡ true) → p u ≡ true
        waiting u (inl same) = subst (λ t. p t ≡ true) (same_tx-is tx u same) own
        waiting u (inr rest) = line.waiters u rest

        over : (u v : TxId) → holds u lock.holders ≡ true → (same_tx tx v ≡ true) ⊎ (waits v lock.queue ≡ true)
            → r u v ≡ true
        over u v is (inl same) = subst (λ t. r u t ≡ true) (same_tx-is tx v same) (behind_holders u is)
        over u v is (inr rest) = line.across u v is rest

    queued_last : IsLined lock.holders (lock.queue ++ wait_of tx mode ∷ [])
    queued_last = record {
      holders = line.holders;
      waiters = λ u is. waiting u (waits_last u lock.queue (wait_of tx mode) is);
      across = λ u v is behind. over u v is (waits_last v lock.queue (wait_of tx mode) behind);
      along = along_last lock.queue (wait_of tx mode) behind_waiters line.along;
    }
      where
        waiting : (u : TxId) → (waits u lock.queue ≡ true) ⊎ (same_tx tx u ≡ true) → p u ≡ true
        waiting u (inl rest) = line.waiters u rest
        waiting u (inr same) = subst (λ t. p t ≡ true) (same_tx-is tx u same) own

        over : (u v : TxId) → holds u lock.holders ≡ true → (waits v lock.queue ≡ true) ⊎ (same_tx tx v ≡ true)
            → r u v ≡ true
        over u v is (inl rest) = line.across u v is rest
        over u v is (inr same) = subst (λ t. r u t ≡ true) (same_tx-is tx v same) (behind_holders u is)

    still_raised : IsLined lock.holders (raised tx mode lock.queue)
    still_raised = record {
      holders = line.holders;
      waiters = λ u is. line.waiters u (sym (waits_raised tx u mode lock.queue) ∙ is);
      across = λ u v is behind. line.across u v is (sym (waits_raised tx v mode lock.queue) ∙ behind);
      along = along_raised tx mode lock.queue line.along;
    }

    no_queue : (ws : List Wait) → is_quiet ws ≡ true → ws ≡ []
    no_queue [] is = refl
    no_queue (w ∷ ws) is = absurd cc

    anew_lined : (held agrees quiet : Bool) → holds tx lock.holders ≡ held → is_quiet lock.queue ≡ quiet
        → IsLinedLock (asked_anew held agrees quiet lock tx mode).lock
    anew_lined true true quiet had none = held_more (inl had)
    anew_lined true false quiet had none = raised_first had
    anew_lined false true true had none = held_more (inr (no_queue lock.queue none))
    anew_lined false true false had none = queued_last
    anew_lined false false quiet had none = queued_last

    pub asked_lined : IsLinedLock (asked lock tx mode).lock
    asked_lined = by (holds_enough tx mode lock.holders) (waits tx lock.queue)
      where
        by : (enough waiting : Bool) → IsLinedLock (asked_by enough waiting lock tx mode).lock
        by true waiting = line
        by false true = still_raised
        by false false =
            anew_lined (holds tx lock.holders) (agrees_with tx mode lock.holders) (is_quiet lock.queue) refl refl
