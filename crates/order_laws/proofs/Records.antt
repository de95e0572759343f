-- Whom a replica passed on has a record there, until it lets go of the key.
use Rattle.std.proofs.Common.{◌≡◌, ◌⊎◌, ◌<◌, ◌+◌, ℕ, Bool, true, false, List, [], ◌∷◌, ◌++◌, length, refl, sym, ap, ◌∙◌}
use Rattle.std.proofs.Common.{subst, arith, inl, inr}
use Rattle.std.proofs.lemmas.Bool.{false≢true, or_cases, or_left, or_right}
use Rattle.std.specs.Prelude.{if◌then◌else◌, is_some, Option, None, Some}
use Rattle.run_theory.specs.Lists.{Each}
use Rattle.sig_core.proofs.Keys.{same_tx-self}
use Rattle.sig_core.proofs.TxLemmas.{same_tx-is}
use Rattle.sig_core.specs.declared.member.TxId.{TxId}
use Rattle.sig_core.specs.declared.op.Answer.{Answer}
use Rattle.sig_core.specs.declared.op.Answer.TheVariants.{Done, Found, Missing, E626, E630}
use Rattle.sig_core.specs.declared.op.Op.{Op}
use Rattle.sig_core.specs.declared.outs.Outgoing.{Outgoing}
use Rattle.sig_core.specs.declared.rows.PendingRecord.{PendingRecord}
use Rattle.sig_core.specs.declared.signal.chain.RowWork.{RowWork}
use Rattle.sig_core.specs.declared.signal.chain.RowWork.TheVariants.{Operate, Store}
use Rattle.sig_core.specs.Firsts.{first}
use Rattle.sig_core.specs.Op.{answer_to, image_of, key_of}
use Rattle.sig_core.specs.Rows.{prepared}
use Rattle.sig_core.specs.Same.{same_tx}
use Rattle.row_locks.specs.declared.mode.Lock.{Lock}
use Rattle.row_locks.specs.declared.mode.Lock.TheVariants.{Granted, Queued}
use Rattle.row_locks.specs.Holders.{holds}
use Rattle.row_locks.specs.Rows.{RowLock, asked}
use Rattle.lqh_block.specs.declared.request.Request.{Request}
use Rattle.lqh_block.specs.Work.{work_mode}
use Rattle.node_core.specs.Blocks.{has_lqh}
use Rattle.world_core.specs.Machine.{after, step_after}
use Rattle.world_core.specs.Start.{Start}
use Rattle.world_core.specs.Steps.{HostStep}
use Rattle.key_laws.specs.Primary.{ended_too}
use Rattle.key_laws.specs.PrimaryEvents.{AtPrimary, ended_after}
use Rattle.key_laws.specs.Records.{as_committed, committed, edited, found, if_committed, put_back, seen_by, stored}
use Rattle.key_laws.specs.Records.{unless_committed}
use Rattle.key_laws.specs.Replica.{Cell, Event, Replica, aborts, ages, asked_by, asks, commits, completes, expires}
use Rattle.key_laws.specs.Replica.{is_let_in, key_after, operated, rests, served_by, serves, storing, worked}
use Rattle.key_laws.proofs.RecordLemmas.{KeepsTx, committed_keeps, found-edited, found-stored, if_keeps, unless_keeps}
use Rattle.host_laws.specs.ReplicaLaws.{event_in, key_in}
use Rattle.host_laws.proofs.rows.Replicas.{logs_follow}
use Rattle.run_laws.specs.Circle.{primary_along}
use Rattle.run_laws.specs.Routes.{replica_host, replicas}
use Rattle.run_laws.specs.Transit.{IsRun, logs_of}
use Rattle.run_laws.proofs.circle.KeyMoves.{replica_along}
use Rattle.run_laws.proofs.tokens.Signals.{asked_tokens, event_tokens, operated_token, performed_token, refuses}
use Rattle.run_laws.proofs.tokens.Signals.{served_tokens, stored_token, work_token}
use Rattle.run_laws.proofs.routes.Events.{placed_runs}
use Rattle.order_laws.specs.LetGo.{has_let_go, lock_at_place}
use Rattle.order_laws.specs.Records.{HoldersHaveRecords, has_record}
use Rattle.order_laws.proofs.Askers.{asker, came, lined_along}
use Rattle.order_laws.proofs.Attended.{first_idle}
use Rattle.order_laws.proofs.Behind.{is_among}
use Rattle.order_laws.proofs.LetGo.{came_past}
use Rattle.order_laws.proofs.Passed.{passed, passed_all, passed_step}
use Rattle.order_laws.proofs.Performs.{Works, is_work, one_works, step_works}

-- the transaction has a record
abbrev pub is_recorded : TxId → List PendingRecord → Bool
is_recorded tx pending = is_some (found tx pending)

stored_there : (tx : TxId) (r : PendingRecord) (xs : List PendingRecord) → same_tx r.tx tx ≡ true
    → is_recorded tx (stored r xs) ≡ true
stored_there tx r xs own =
    ap is_some (found-stored tx r xs) ∙ ap (λ b. is_some (if b then Some r else found tx xs)) own

stored_keeps : (tx : TxId) (r : PendingRecord) (xs : List PendingRecord) → is_recorded tx xs ≡ true
    → is_recorded tx (stored r xs) ≡ true
stored_keeps tx r xs there = ap is_some (found-stored tx r xs) ∙ by (same_tx r.tx tx)
  where
    by : (b : Bool) → is_some (if b then Some r else found tx xs) ≡ true
    by true = refl
    by false = there

-- what goes on to the next replica was stored here
work_there : (c : Cell) (q : Request) (refused : Bool) → is_work (performed_token c q refused) ≡ true
    → is_recorded q.tx (worked c q.tx refused q.work).pending ≡ true
work_there c q refused = by q.work
  where
    image_there : (key : List ℕ) (image : Option (List ℕ)) (b : Bool)
        → is_work (stored_token key image q.chain q.at b) ≡ true
        → is_recorded q.tx (storing c q.tx key image b).pending ≡ true
    image_there key image true is = absurd (false≢true is)
    image_there key image false is = stored_there q.tx (prepared q.tx key image) c.pending (same_tx-self q.tx)

    op_there : (op : Op) (a : Answer) → is_work (operated_token op q.chain q.at refused a) ≡ true
        → is_recorded q.tx (operated c q.tx op refused a).pending ≡ true
    op_there op Done is = image_there (key_of op) (image_of op) refused is
    op_there op (Found value) is = absurd (false≢true is)
    op_there op Missing is = absurd (false≢true is)
    op_there op E626 is = absurd (false≢true is)
    op_there op E630 is = absurd (false≢true is)

    by : (w : RowWork) → is_work (work_token c q.tx q.chain q.at refused w) ≡ true
        → is_recorded q.tx (worked c q.tx refused w).pending ≡ true
    by (Operate op) is = op_there op (answer_to op (seen_by c.row (found q.tx c.pending))) is
    by (Store key image) is = image_there key image refused is

event_there : (tx : TxId) (event : Event) (r : Replica)
    → Each (Works (is_recorded tx (key_after event r).cell.pending ≡ true)) (event_tokens tx event r)
event_there tx rests r = tt
event_there tx (asks q refused) r = by (asked r.lock q.tx (work_mode q.work)).answer
  where
    now : RowLock
    now = (asked r.lock q.tx (work_mode q.work)).lock

    by : (a : Lock) → Each (Works (is_recorded tx (asked_by r now q refused a).cell.pending ≡ true))
        (asked_tokens tx r q refused a)
    by Granted =
        one_works tx (λ u. is_recorded u (worked r.cell q.tx refused q.work).pending ≡ true) q.tx
        (performed_token r.cell q refused) (work_there r.cell q refused)
    by (Queued ahead) = tt
event_there tx (serves refused) r = by (first (is_let_in r.lock) r.waiting)
  where
    by : (o : Option Request) → Each (Works (is_recorded tx (served_by r refused o).cell.pending ≡ true))
        (served_tokens tx r refused o)
    by None = tt
    by (Some q) =
        one_works tx (λ u. is_recorded u (worked r.cell q.tx refused q.work).pending ≡ true) q.tx
        (performed_token r.cell q refused) (work_there r.cell q refused)
event_there tx (commits v last) r = tt
event_there tx (completes v) r = tt
event_there tx (aborts v) r = tt
event_there tx (expires v) r =
    one_works tx (λ u. is_recorded u r.cell.pending ≡ true) v refuses (λ is. absurd (false≢true is))
event_there tx (ages None) r = tt
event_there tx (ages (Some v)) r =
    one_works tx (λ u. is_recorded u r.cell.pending ≡ true) v refuses (λ is. absurd (false≢true is))

-- a commit leaves each record
committed_there : (tx u : TxId) (xs : List PendingRecord) → is_recorded u xs ≡ true
    → is_recorded u (edited as_committed tx xs) ≡ true
committed_there tx u [] is = is
committed_there tx u (r ∷ rest) is = by (same_tx r.tx tx) (same_tx r.tx u) refl is (committed_there tx u rest)
  where
    by : (b c : Bool) → same_tx r.tx u ≡ c → is_some (if c then Some r else found u rest) ≡ true
        → (is_recorded u rest ≡ true → is_recorded u (edited as_committed tx rest) ≡ true)
        → is_recorded u (if b then put_back (as_committed r) rest else r ∷ edited as_committed tx rest) ≡ true
    by true true e there more = ap (λ b. is_some (if b then Some (committed r) else found u rest)) e
    by true false e there more = ap (λ b. is_some (if b then Some (committed r) else found u rest)) e ∙ there
    by false true e there more =
        ap (λ b. is_some (if b then Some r else found u (edited as_committed tx rest))) e
    by false false e there more =
        ap (λ b. is_some (if b then Some r else found u (edited as_committed tx rest))) e ∙ more there

-- who has let go, or has a record
abbrev IsKnown : (TxId → Bool) → List PendingRecord → TxId → Type 0
IsKnown ended pending u = (ended u ≡ true) ⊎ (is_recorded u pending ≡ true)

-- stays so at each event
module _ (p : AtPrimary) (u : TxId) where
  abbrev pending : List PendingRecord
  pending = p.replica.cell.pending

  stored_known : (v : TxId) (key : List ℕ) (image : Option (List ℕ)) (b : Bool) → is_recorded u pending ≡ true
      → is_recorded u (storing p.replica.cell v key image b).pending ≡ true
  stored_known v key image true there = there
  stored_known v key image false there = stored_keeps u (prepared v key image) pending there

  operated_known : (v : TxId) (op : Op) (refused : Bool) (a : Answer) → is_recorded u pending ≡ true
      → is_recorded u (operated p.replica.cell v op refused a).pending ≡ true
  operated_known v op refused Done there = stored_known v (key_of op) (image_of op) refused there
  operated_known v op refused (Found value) there = there
  operated_known v op refused Missing there = there
  operated_known v op refused E626 there = there
  operated_known v op refused E630 there = there

  worked_known : (v : TxId) (refused : Bool) (w : RowWork) → IsKnown p.ended pending u
      → IsKnown p.ended (worked p.replica.cell v refused w).pending u
  worked_known v refused w (inl gone) = inl gone
  worked_known v refused w (inr there) = inr (by w)
    where
      by : (w : RowWork) → is_recorded u (worked p.replica.cell v refused w).pending ≡ true
      by (Operate op) =
          operated_known v op refused (answer_to op (seen_by p.replica.cell.row (found v pending))) there
      by (Store key image) = stored_known v key image refused there

  ends_known : (f : PendingRecord → Option PendingRecord) → KeepsTx f → (v : TxId) → IsKnown p.ended pending u
      → IsKnown (ended_too p.ended v) (edited f v pending) u
  ends_known f keeps v is = by (same_tx v u) refl is
    where
      by : (b : Bool) → same_tx v u ≡ b → IsKnown p.ended pending u
          → IsKnown (ended_too p.ended v) (edited f v pending) u
      by true e is = inl (or_left (same_tx v u) (p.ended u) e)
      by false e (inl gone) = inl (or_right (same_tx v u) (p.ended u) gone)
      by false e (inr there) = inr (ap is_some (found-edited f keeps v u pending e) ∙ there)

  committed_known : (v : TxId) → IsKnown p.ended pending u → IsKnown p.ended (edited as_committed v pending) u
  committed_known v (inl gone) = inl gone
  committed_known v (inr there) = inr (committed_there v u pending there)

  known_after : (event : Event) → IsKnown p.ended pending u
      → IsKnown (ended_after event p) (key_after event p.replica).cell.pending u
  known_after rests is = is
  known_after (asks q refused) is = by (asked p.replica.lock q.tx (work_mode q.work)).answer
    where
      by : (a : Lock) → IsKnown p.ended
          (asked_by p.replica (asked p.replica.lock q.tx (work_mode q.work)).lock q refused a).cell.pending u
      by Granted = worked_known q.tx refused q.work is
      by (Queued ahead) = is
  known_after (serves refused) is = by (first (is_let_in p.replica.lock) p.replica.waiting)
    where
      by : (o : Option Request) → IsKnown p.ended (served_by p.replica refused o).cell.pending u
      by None = is
      by (Some q) = worked_known q.tx refused q.work is
  known_after (commits v true) is = ends_known as_committed committed_keeps v is
  known_after (commits v false) is = committed_known v is
  known_after (completes v) is = ends_known unless_committed unless_keeps v is
  known_after (aborts v) is = ends_known if_committed if_keeps v is
  known_after (expires v) is = is
  known_after (ages None) is = is
  known_after (ages (Some v)) is = is

-- so is each of these
record AreKnown (ended : TxId → Bool) (pending : List PendingRecord) (xs : List TxId) : Type 0 where
  among : (u : TxId) → is_among u xs ≡ true → IsKnown ended pending u

known_more : (ended : TxId → Bool) (pending : List PendingRecord) (tx : TxId) (xs : List TxId)
    → is_recorded tx pending ≡ true → AreKnown ended pending xs → AreKnown ended pending (tx ∷ xs)
known_more ended pending tx xs there was = record {
  among = λ u is. by u (or_cases (same_tx tx u) (is_among u xs) is);
}
  where
    by : (u : TxId) → (same_tx tx u ≡ true) ⊎ (is_among u xs ≡ true) → IsKnown ended pending u
    by u (inl own) = inr (subst (λ t. is_recorded t pending ≡ true) (same_tx-is tx u own) there)
    by u (inr rest) = was.among u rest

among_past : (u : TxId) (newer xs : List TxId) → is_among u xs ≡ true → is_among u (newer ++ xs) ≡ true
among_past u [] xs is = is
among_past u (x ∷ newer) xs is = or_right (same_tx x u) (is_among u (newer ++ xs)) (among_past u newer xs is)

module _ (start : Start) (key : List ℕ) (j h : ℕ)
    (runs : (log : List HostStep) → has_lqh (after start h log) ≡ true) where
  abbrev AllKnown : List HostStep → Type 0
  AllKnown log =
      AreKnown (primary_along start h key log).ended (key_in key (after start h log)).cell.pending
      (passed start key j h log)

  step_known : (e : HostStep) (log : List HostStep) → AllKnown log → AllKnown (e ∷ log)
  step_known e log was =
      subst (AreKnown (ended_after event p) now) (sym (passed_step start key j h e log))
      (passed_all start key j (λ tx. is_recorded tx now ≡ true) (AreKnown (ended_after event p) now)
      (λ tx xs there more. known_more (ended_after event p) now tx xs there more)
      (step_after start h log e).effects.sends there (passed start key j h log) before)
    where
      p : AtPrimary
      p = primary_along start h key log

      event : Event
      event = event_in key (after start h log) e.step.taken

      now : List PendingRecord
      now = (key_in key (after start h (e ∷ log))).cell.pending

      same : p.replica ≡ key_in key (after start h log)
      same = replica_along start h key log

      there : (tx : TxId) → Each (λ (o : Outgoing). asker key o.body ≡ Some tx → is_recorded tx now ≡ true)
          (step_after start h log e).effects.sends
      there tx =
          step_works tx key start h log e (runs log) (is_recorded tx now ≡ true)
          (subst (λ (r : Replica). Each (Works (is_recorded tx r.cell.pending ≡ true))
          (event_tokens tx event (key_in key (after start h log)))) (sym (logs_follow start h log e key))
          (event_there tx event (key_in key (after start h log))))

      before : AreKnown (ended_after event p) now (passed start key j h log)
      before = record {
        among = λ u is.
            subst (λ (r : Replica). IsKnown (ended_after event p) r.cell.pending u)
            (replica_along start h key (e ∷ log))
            (known_after p u event
            (subst (λ (r : Replica). IsKnown p.ended r.cell.pending u) (sym same) (was.among u is)));
      }

  known_along : (log : List HostStep) → AllKnown log
  known_along [] = record { among = λ u is. absurd cc }
  known_along (e ∷ log) = step_known e log (known_along log)

module _ (start : Start) (es : List HostStep) (key : List ℕ) (at : ℕ) (tx : TxId) (run : IsRun start es)
    (inside : at + 1 < length (replicas start key)) where
  abbrev front : ℕ
  front = replica_host start key at

  abbrev here : ℕ
  here = replica_host start key (at + 1)

  -- the replica in front passed it on
  abbrev pub IsPassed : Type 0
  IsPassed = is_among tx (passed start key here front (logs_of start es front)) ≡ true

  pub holders_passed : holds tx (lock_at_place start (logs_of start es) key (at + 1)).holders ≡ true → IsPassed
  holders_passed holding =
      let line = lined_along key start here (first_idle start key (at + 1) run.shape inside) (logs_of start es here) in
      let past = came_past start es key at run inside in
      subst (λ xs. is_among tx xs ≡ true) (sym past.is)
      (among_past tx past.newer (came key (logs_of start es here)) (line.holders tx holding))

  pub passed_known : IsPassed → (has_record start (logs_of start es) key front tx ≡ true)
      ⊎ (has_let_go start (logs_of start es) key front tx ≡ true)
  passed_known is =
      by
      ((known_along start key here front
      (λ log. placed_runs start front key at log run.shape
      (record { inside = omega (arith, inside); host_is = refl }))
      (logs_of start es front)).among tx is)
    where
      by : IsKnown (primary_along start front key (logs_of start es front)).ended
          (key_in key (after start front (logs_of start es front))).cell.pending tx
          → (has_record start (logs_of start es) key front tx ≡ true)
          ⊎ (has_let_go start (logs_of start es) key front tx ≡ true)
      by (inl gone) = inr gone
      by (inr there) = inl there

pub holders_have_records : HoldersHaveRecords
holders_have_records start es key at tx run is =
    passed_known start es key at tx run is.inside (holders_passed start es key at tx run is.inside is.holding)
