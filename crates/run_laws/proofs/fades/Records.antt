-- The record of a transaction of which nothing more is asked: it is committed and completed, and no other comes.
use Rattle.std.proofs.Common.{◌≡◌, ℕ, Bool, true, false, List, [], ◌∷◌, refl, sym, ap, ◌∙◌, subst}
use Rattle.std.specs.Prelude.{if◌then◌else◌, Option, None, Some}
use Rattle.run_theory.specs.Lists.{Each}
use Rattle.world_core.specs.Steps.{HostStep}
use Rattle.sig_core.specs.declared.member.TxId.{TxId}
use Rattle.sig_core.specs.declared.op.Answer.{Answer}
use Rattle.sig_core.specs.declared.op.Answer.TheVariants.{Done, Found, Missing, E626, E630}
use Rattle.sig_core.specs.declared.rows.PendingRecord.{PendingRecord}
use Rattle.sig_core.specs.declared.signal.chain.RowWork.{RowWork}
use Rattle.sig_core.specs.declared.signal.chain.RowWork.TheVariants.{Operate, Store}
use Rattle.sig_core.specs.Op.{answer_to, image_of, key_of}
use Rattle.sig_core.specs.Rows.{prepared}
use Rattle.sig_core.specs.Same.{same_tx}
use Rattle.sig_core.proofs.TxLemmas.{same_tx-is}
use Rattle.row_locks.specs.declared.mode.Lock.{Lock}
use Rattle.row_locks.specs.declared.mode.Lock.TheVariants.{Granted, Queued}
use Rattle.row_locks.specs.Rows.{asked}
use Rattle.lqh_block.specs.declared.request.Request.{Request}
use Rattle.lqh_block.specs.Work.{work_mode}
use Rattle.world_core.specs.Machine.{after}
use Rattle.world_core.specs.Start.{Start}
use Rattle.sig_core.specs.Firsts.{first}
use Rattle.key_laws.specs.Primary.{HasPrepared}
use Rattle.key_laws.specs.Records.{AreOnce, as_committed, committed, edited, found, if_committed, put_back, seen_by}
use Rattle.key_laws.specs.Records.{unless_committed}
use Rattle.key_laws.specs.Replica.{Cell, Event, Replica, aborts, ages, asked_by, asks, commits, completes, expires}
use Rattle.key_laws.specs.Replica.{is_let_in, key_after, operated, rests, served_by, serves, storing, worked}
use Rattle.host_laws.specs.ReplicaLaws.{event_in, key_in}
use Rattle.key_laws.proofs.RecordLemmas.{committed_keeps, found-edited, found-stored, if_keeps, once-edited}
use Rattle.key_laws.proofs.RecordLemmas.{once-stored, unless_keeps}
use Rattle.host_laws.proofs.rows.Replicas.{logs_follow}
use Rattle.key_laws.proofs.Waiting.{each-first_item}
use Rattle.run_laws.proofs.hosts.FreshHosts.{none_pending}

-- the record after a commit, and after a completion
abbrev pub now_committed : Option PendingRecord → Option PendingRecord
now_committed None = None
now_committed (Some r) = Some (committed r)

abbrev pub now_completed : Option PendingRecord → Option PendingRecord
now_completed None = None
now_completed (Some r) = unless_committed r

found-committed : (tx : TxId) (xs : List PendingRecord)
    → found tx (edited as_committed tx xs) ≡ now_committed (found tx xs)
found-committed tx [] = refl
found-committed tx (r ∷ rest) = by (same_tx r.tx tx) refl (found-committed tx rest)
  where
    by : (b : Bool) → same_tx r.tx tx ≡ b → found tx (edited as_committed tx rest) ≡ now_committed (found tx rest)
        → found tx (if b then put_back (as_committed r) rest else r ∷ edited as_committed tx rest)
        ≡ now_committed (if b then Some r else found tx rest)
    by true e more = ap (λ b. if b then Some (committed r) else found tx rest) e
    by false e more = ap (λ b. if b then Some r else found tx (edited as_committed tx rest)) e ∙ more

found-completed : (tx : TxId) (xs : List PendingRecord) → AreOnce xs
    → found tx (edited unless_committed tx xs) ≡ now_completed (found tx xs)
found-completed tx [] once = refl
found-completed tx (r ∷ rest) once = by (same_tx r.tx tx) refl (found-completed tx rest once.1)
  where
    back : same_tx r.tx tx ≡ true → (b : Bool)
        → found tx (put_back (if b then None else Some r) rest) ≡ (if b then None else Some r)
    back e true = ap (λ t. found t rest) (sym (same_tx-is r.tx tx e)) ∙ once.0
    back e false = ap (λ b. if b then Some r else found tx rest) e

    by : (b : Bool) → same_tx r.tx tx ≡ b → found tx (edited unless_committed tx rest) ≡ now_completed (found tx rest)
        → found tx (if b then put_back (unless_committed r) rest else r ∷ edited unless_committed tx rest)
        ≡ now_completed (if b then Some r else found tx rest)
    by true e more = back e r.committed
    by false e more = ap (λ b. if b then Some r else found tx (edited unless_committed tx rest)) e ∙ more

-- no event gives a transaction two records on a key
once_worked : (c : Cell) (v : TxId) (refused : Bool) (w : RowWork) → AreOnce c.pending
    → AreOnce (worked c v refused w).pending
once_worked c v refused (Store key image) once = by refused
  where
    by : (b : Bool) → AreOnce (storing c v key image b).pending
    by true = once
    by false = once-stored (prepared v key image) c.pending once
once_worked c v refused (Operate op) once = by (answer_to op (seen_by c.row (found v c.pending)))
  where
    which : (b : Bool) → AreOnce (storing c v (key_of op) (image_of op) b).pending
    which true = once
    which false = once-stored (prepared v (key_of op) (image_of op)) c.pending once

    by : (a : Answer) → AreOnce (operated c v op refused a).pending
    by Done = which refused
    by (Found value) = once
    by Missing = once
    by E626 = once
    by E630 = once

pub once_after : (event : Event) (r : Replica) → AreOnce r.cell.pending → AreOnce (key_after event r).cell.pending
once_after rests r once = once
once_after (asks q refused) r once = by (asked r.lock q.tx (work_mode q.work)).answer
  where
    by : (answer : Lock)
        → AreOnce (asked_by r (asked r.lock q.tx (work_mode q.work)).lock q refused answer).cell.pending
    by Granted = once_worked r.cell q.tx refused q.work once
    by (Queued ahead) = once
once_after (serves refused) r once = by (first (is_let_in r.lock) r.waiting)
  where
    by : (o : Option Request) → AreOnce (served_by r refused o).cell.pending
    by None = once
    by (Some q) = once_worked r.cell q.tx refused q.work once
once_after (commits tx true) r once = once-edited as_committed committed_keeps tx r.cell.pending once
once_after (commits tx false) r once = once-edited as_committed committed_keeps tx r.cell.pending once
once_after (completes tx) r once = once-edited unless_committed unless_keeps tx r.cell.pending once
once_after (aborts tx) r once = once-edited if_committed if_keeps tx r.cell.pending once
once_after (expires tx) r once = once
once_after (ages None) r once = once
once_after (ages (Some tx)) r once = once

pub once_at : (start : Start) (key : List ℕ) (h : ℕ) (log : List HostStep)
    → AreOnce (key_in key (after start h log)).cell.pending
once_at start key h [] = subst AreOnce (sym (none_pending start h key)) tt
once_at start key h (e ∷ log) =
    subst (λ (r : Replica). AreOnce r.cell.pending) (sym (logs_follow start h log e key))
    (once_after (event_in key (after start h log) e.step.taken) (key_in key (after start h log))
    (once_at start key h log))

-- the event neither asks for anything of the transaction nor aborts it
abbrev pub IsHarmless : TxId → Replica → Event → Type 0
IsHarmless tx r (asks q refused) = same_tx q.tx tx ≡ false
IsHarmless tx r (serves refused) = Each (λ (q : Request). same_tx q.tx tx ≡ false) r.waiting
IsHarmless tx r (aborts v) = same_tx v tx ≡ false
IsHarmless tx r event = Unit {0}

-- what becomes of its record then
pub data Fading (tx : TxId) (event : Event) (before after : List PendingRecord) : Type 0 where
  stays : found tx after ≡ found tx before → Fading tx event before after
  is_committed : (v : TxId) (last : Bool) → event ≡ commits v last → same_tx v tx ≡ true
      → found tx after ≡ now_committed (found tx before) → Fading tx event before after
  is_completed : found tx after ≡ now_completed (found tx before) → Fading tx event before after

module _ (tx : TxId) where
  stored_stays : (c : Cell) (v : TxId) (key : List ℕ) (image : Option (List ℕ)) (b : Bool) → same_tx v tx ≡ false
      → found tx (storing c v key image b).pending ≡ found tx c.pending
  stored_stays c v key image true differs = refl
  stored_stays c v key image false differs = found-stored tx (prepared v key image) c.pending
      ∙ ap (λ b. if b then Some (prepared v key image) else found tx c.pending) differs

  worked_stays : (c : Cell) (v : TxId) (refused : Bool) (w : RowWork) → same_tx v tx ≡ false
      → found tx (worked c v refused w).pending ≡ found tx c.pending
  worked_stays c v refused (Store key image) differs = stored_stays c v key image refused differs
  worked_stays c v refused (Operate op) differs = by (answer_to op (seen_by c.row (found v c.pending)))
    where
      by : (a : Answer) → found tx (operated c v op refused a).pending ≡ found tx c.pending
      by Done = stored_stays c v (key_of op) (image_of op) refused differs
      by (Found value) = refl
      by Missing = refl
      by E626 = refl
      by E630 = refl

  pub fading : (event : Event) (r : Replica) → IsHarmless tx r event → AreOnce r.cell.pending
      → Fading tx event r.cell.pending (key_after event r).cell.pending
  fading rests r harmless once = stays refl
  fading (asks q refused) r harmless once = stays (by (asked r.lock q.tx (work_mode q.work)).answer)
    where
      by : (answer : Lock)
          → found tx (asked_by r (asked r.lock q.tx (work_mode q.work)).lock q refused answer).cell.pending
          ≡ found tx r.cell.pending
      by Granted = worked_stays r.cell q.tx refused q.work harmless
      by (Queued ahead) = refl
  fading (serves refused) r harmless once = stays (by (first (is_let_in r.lock) r.waiting) refl)
    where
      by : (o : Option Request) → first (is_let_in r.lock) r.waiting ≡ o
          → found tx (served_by r refused o).cell.pending ≡ found tx r.cell.pending
      by None is = refl
      by (Some q) is = worked_stays r.cell q.tx refused q.work
          (each-first_item (λ (x : Request). same_tx x.tx tx ≡ false) (is_let_in r.lock) r.waiting q harmless is)
  fading (commits v last) r harmless once = which last (same_tx v tx) refl
    where
      here : same_tx v tx ≡ true
          → found tx (edited as_committed v r.cell.pending) ≡ now_committed (found tx r.cell.pending)
      here e = ap (λ t. found tx (edited as_committed t r.cell.pending)) (same_tx-is v tx e)
          ∙ found-committed tx r.cell.pending

      which : (l b : Bool) → same_tx v tx ≡ b
          → Fading tx (commits v l) r.cell.pending (key_after (commits v l) r).cell.pending
      which true true e = is_committed v true refl e (here e)
      which false true e = is_committed v false refl e (here e)
      which true false e = stays (found-edited as_committed committed_keeps v tx r.cell.pending e)
      which false false e = stays (found-edited as_committed committed_keeps v tx r.cell.pending e)
  fading (completes v) r harmless once = which (same_tx v tx) refl
    where
      which : (b : Bool) → same_tx v tx ≡ b
          → Fading tx (completes v) r.cell.pending (edited unless_committed v r.cell.pending)
      which true e = is_completed (ap (λ t. found tx (edited unless_committed t r.cell.pending)) (same_tx-is v tx e) ∙
          found-completed tx r.cell.pending once)
      which false e = stays (found-edited unless_committed unless_keeps v tx r.cell.pending e)
  fading (aborts v) r harmless once = stays (found-edited if_committed if_keeps v tx r.cell.pending harmless)
  fading (expires v) r harmless once = stays refl
  fading (ages None) r harmless once = stays refl
  fading (ages (Some v)) r harmless once = stays refl

  -- there is a record of it
  pub record HasRecord (pending : List PendingRecord) : Type 0 where
    pub record_is : PendingRecord
    pub there : found tx pending ≡ Some record_is

  not_prepared : (o : Option PendingRecord) (x : PendingRecord) → now_committed o ≡ Some x → x.committed ≡ false → ⊥
  not_prepared None x is e = cc
  not_prepared (Some r) x is e = let same : committed r ≡ x = cc in
      let both : true ≡ false = ap (λ (y : PendingRecord). y.committed) same ∙ e in cc

  -- what is prepared then was so before
  pub fades_prepared : (event : Event) (before after : List PendingRecord) → Fading tx event before after
      → HasPrepared tx after → HasPrepared tx before
  fades_prepared event before after (stays is) h = record {
    record_is = h.record_is;
    there = sym is ∙ h.there;
    prepared = h.prepared;
  }
  fades_prepared event before after (is_committed v last event_is own is) h =
      absurd (not_prepared (found tx before) h.record_is (sym is ∙ h.there) h.prepared)
  fades_prepared event before after (is_completed is) h = record {
    record_is = h.record_is;
    there = by (found tx before) (sym is ∙ h.there);
    prepared = h.prepared;
  }
    where
      by : (o : Option PendingRecord) → now_completed o ≡ Some h.record_is → o ≡ Some h.record_is
      by None e = cc
      by (Some r) e = which r.committed e
        where
          which : (b : Bool) → (if b then None else Some r) ≡ Some h.record_is → Some r ≡ Some h.record_is
          which true e = absurd cc
          which false e = e

  -- and what there is was there
  pub fades_there : (event : Event) (before after : List PendingRecord) → Fading tx event before after → HasRecord after
      → HasRecord before
  fades_there event before after (stays is) h = record { record_is = h.record_is; there = sym is ∙ h.there }
  fades_there event before after (is_committed v last event_is own is) h = by (found tx before) refl
    where
      by : (o : Option PendingRecord) → found tx before ≡ o → HasRecord before
      by None e = absurd (let both : None ≡ Some h.record_is = sym (is ∙ ap now_committed e) ∙ h.there in cc)
      by (Some r) e = record { record_is = r; there = e }
  fades_there event before after (is_completed is) h = by (found tx before) refl
    where
      by : (o : Option PendingRecord) → found tx before ≡ o → HasRecord before
      by None e = absurd (let both : None ≡ Some h.record_is = sym (is ∙ ap now_completed e) ∙ h.there in cc)
      by (Some r) e = record { record_is = r; there = e }

  -- a commit leaves nothing prepared
  pub commit_ends : (v : TxId) (last : Bool) (r : Replica) → same_tx v tx ≡ true
      → HasPrepared tx (key_after (commits v last) r).cell.pending → ⊥
  commit_ends v true r same h = not_prepared (found tx r.cell.pending) h.record_is
      (sym (ap (λ t. found tx (edited as_committed t r.cell.pending)) (same_tx-is v tx same) ∙ found-committed tx
      r.cell.pending) ∙ h.there) h.prepared
  commit_ends v false r same h = not_prepared (found tx r.cell.pending) h.record_is
      (sym (ap (λ t. found tx (edited as_committed t r.cell.pending)) (same_tx-is v tx same) ∙ found-committed tx
      r.cell.pending) ∙ h.there) h.prepared
