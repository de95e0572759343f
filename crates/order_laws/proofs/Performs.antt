-- What a replica passes on is some work of the event, and of a transaction that holds the key's lock exclusive then.
use Rattle.std.proofs.Common.{◌≡◌, ℕ, Bool, true, false, List, [], ◌∷◌, refl, sym, ap, ◌∙◌, subst}
use Rattle.std.proofs.lemmas.Bool.{false≢true, not-true}
use Rattle.std.specs.Prelude.{◌&&◌, if◌then◌else◌, Option, None, Some}
use Rattle.run_theory.specs.Lists.{Each}
use Rattle.run_theory.proofs.Pasts.{each_map}
use Rattle.sig_core.proofs.Firsts.{first_passes}
use Rattle.sig_core.proofs.Keys.{same_tx-self}
use Rattle.sig_core.proofs.TxLemmas.{same_tx-is}
use Rattle.sig_core.specs.declared.member.Member.{Member}
use Rattle.sig_core.specs.declared.member.TxId.{TxId}
use Rattle.sig_core.specs.declared.op.Op.{Op}
use Rattle.sig_core.specs.declared.op.Op.TheVariants.{Get}
use Rattle.sig_core.specs.declared.outs.Outgoing.{Outgoing}
use Rattle.sig_core.specs.declared.place.Place.{Place}
use Rattle.sig_core.specs.declared.signal.Body.{Body}
use Rattle.sig_core.specs.declared.signal.Body.TheVariants.{Chain}
use Rattle.sig_core.specs.declared.signal.chain.ChainSignal.TheVariants.{LqhKeyReq, Abort}
use Rattle.sig_core.specs.declared.signal.chain.RowWork.{RowWork}
use Rattle.sig_core.specs.declared.signal.chain.RowWork.TheVariants.{Operate, Store}
use Rattle.sig_core.specs.declared.signal.host.Work.TheVariants as work
use Rattle.sig_core.specs.Firsts.{first}
use Rattle.sig_core.specs.Op.{answer_to}
use Rattle.sig_core.specs.Same.{same_key, same_tx}
use Rattle.sig_core.specs.Step.{Effects, Step}
use Rattle.sig_core.specs.Work.{work_key}
use Rattle.row_locks.specs.declared.claim.Holder.{Holder}
use Rattle.row_locks.specs.declared.mode.Lock.{Lock}
use Rattle.row_locks.specs.declared.mode.Lock.TheVariants.{Granted, Queued}
use Rattle.row_locks.specs.declared.mode.Mode.TheVariants.{Exclusive}
use Rattle.row_locks.specs.Holders.{holds_enough}
use Rattle.row_locks.specs.Queues.{waits}
use Rattle.row_locks.specs.Rows.{RowLock, asked}
use Rattle.lqh_block.proofs.EachLqh.{RequestSends, lqh_sends_each}
use Rattle.lqh_block.proofs.LqhForms.{abort_forms}
use Rattle.lqh_block.specs.Abort as abort
use Rattle.lqh_block.specs.declared.request.Request.{Request}
use Rattle.lqh_block.specs.Lqh.{lqh_table}
use Rattle.lqh_block.specs.State.{LqhState, go_on_if}
use Rattle.lqh_block.specs.Work.{op_mode, work_mode}
use Rattle.node_core.proofs.HostCases.{BlockCase, api_takes, block_case, dih_takes, none_takes, rows_take, tc_takes}
use Rattle.node_core.specs.Blocks.{has_api, has_lqh, has_tc, lqh_of}
use Rattle.node_core.specs.declared.host.Host.{Host}
use Rattle.node_core.specs.declared.host.Host.TheVariants.{Ldm}
use Rattle.node_core.specs.Row.{row}
use Rattle.world_core.specs.Machine.{after, step_after}
use Rattle.world_core.specs.Start.{Start}
use Rattle.world_core.specs.Steps.{HostStep}
use Rattle.key_laws.specs.LockLaws.{is_attended}
use Rattle.key_laws.specs.Records.{found, seen_by}
use Rattle.key_laws.specs.Replica.{Cell, Event, Replica, aborts, ages, asked_by, asks, at_key, commits, completes}
use Rattle.key_laws.specs.Replica.{event_at, expires, is_let_in, key_after, rests, served_by, serves}
use Rattle.key_laws.proofs.LockHolding.{grants_hold}
use Rattle.key_laws.proofs.LockWaiting.{attended_hold}
use Rattle.key_laws.proofs.Waiting.{each-first_item}
use Rattle.host_laws.specs.ReplicaLaws.{event_in, key_in}
use Rattle.host_laws.proofs.rows.Replicas.{logs_follow}
use Rattle.run_laws.proofs.circle.KeySends.{is_abort, lqh_tokens}
use Rattle.run_laws.proofs.tokens.Signals.{Token, asked_tokens, event_tokens, if_by, is_rows, operated_token}
use Rattle.run_laws.proofs.tokens.Signals.{performed_token, performs, put, refuses, served_tokens, token_of, tokens_of}
use Rattle.run_laws.proofs.tokens.Signals.{work_token}
use Rattle.run_laws.proofs.circle.RowsEvents.{event_rows}
use Rattle.order_laws.proofs.Askers.{asker}
use Rattle.order_laws.proofs.Attended.{IsServing}

-- the signal asks the next replica for its part
abbrev pub is_work : Token → Bool
is_work (performs what at) = true
is_work token = false

operated_mode : (op : Op) (chain : List Member) (at : ℕ) (refused : Bool) (seen : Option (List ℕ))
    → is_work (operated_token op chain at refused (answer_to op seen)) ≡ true → op_mode op ≡ Exclusive
unfolding answer_to
operated_mode (Get key) chain at refused None is = absurd (false≢true is)
operated_mode (Get key) chain at refused (Some value) is = absurd (false≢true is)
operated_mode _ chain at refused seen is = refl

-- only what writes goes on
work_exclusive : (c : Cell) (q : Request) (refused : Bool) → is_work (performed_token c q refused) ≡ true
    → work_mode q.work ≡ Exclusive
work_exclusive c q refused = by q.work
  where
    by : (w : RowWork) → is_work (work_token c q.tx q.chain q.at refused w) ≡ true → work_mode w ≡ Exclusive
    by (Operate op) is = operated_mode op q.chain q.at refused (seen_by c.row (found q.tx c.pending)) is
    by (Store key image) is = refl

-- where the signal does, this is so
abbrev pub Works : Type 0 → Token → Type 0
Works X token = is_work token ≡ true → X

module _ (tx : TxId) where
  pub one_works : (X : TxId → Type 0) (v : TxId) (token : Token) → (is_work token ≡ true → X v)
      → Each (Works (X tx)) (if_by tx v token)
  one_works X v token own = by (same_tx v tx) refl
    where
      by : (b : Bool) → same_tx v tx ≡ b → Each (Works (X tx)) (if b then token ∷ [] else [])
      by true e = (λ is. subst X (same_tx-is v tx e) (own is), tt)
      by false e = tt

  -- the transaction holds the lock exclusive then
  performed_holds : (hs : List Holder) (c : Cell) (q : Request) (refused : Bool)
      → holds_enough q.tx (work_mode q.work) hs ≡ true
      → Each (Works (holds_enough tx Exclusive hs ≡ true)) (if_by tx q.tx (performed_token c q refused))
  performed_holds hs c q refused held =
      one_works (λ u. holds_enough u Exclusive hs ≡ true) q.tx (performed_token c q refused)
      (λ is. subst (λ m. holds_enough q.tx m hs ≡ true) (work_exclusive c q refused is) held)

  event_holds : (event : Event) (r : Replica) → IsServing r
      → Each (Works (holds_enough tx Exclusive (key_after event r).lock.holders ≡ true)) (event_tokens tx event r)
  event_holds rests r was = tt
  event_holds (asks q refused) r was = by (asked r.lock q.tx (work_mode q.work)).answer refl
    where
      now : RowLock
      now = (asked r.lock q.tx (work_mode q.work)).lock

      by : (a : Lock) → (asked r.lock q.tx (work_mode q.work)).answer ≡ a
          → Each (Works (holds_enough tx Exclusive (asked_by r now q refused a).lock.holders ≡ true))
          (asked_tokens tx r q refused a)
      by Granted e =
          performed_holds now.holders r.cell q refused (grants_hold r.lock q.tx (work_mode q.work) was.orderly e)
      by (Queued ahead) e = tt
  event_holds (serves refused) r was = by (first (is_let_in r.lock) r.waiting) refl
    where
      by : (o : Option Request) → first (is_let_in r.lock) r.waiting ≡ o
          → Each (Works (holds_enough tx Exclusive (served_by r refused o).lock.holders ≡ true))
          (served_tokens tx r refused o)
      by None is = tt
      by (Some q) is =
          performed_holds r.lock.holders r.cell q refused
          (attended_hold r.lock q.tx (work_mode q.work)
          (each-first_item (λ (x : Request). is_attended r.lock x.tx (work_mode x.work) ≡ true) (is_let_in r.lock)
          r.waiting q was.attended is)
          (not-true (waits q.tx r.lock.queue) (first_passes (is_let_in r.lock) r.waiting q is)))
  event_holds (commits v last) r was = tt
  event_holds (completes v) r was = tt
  event_holds (aborts v) r was = tt
  event_holds (expires v) r was =
      one_works (λ u. holds_enough u Exclusive (key_after (expires v) r).lock.holders ≡ true) v refuses
      (λ is. absurd (false≢true is))
  event_holds (ages None) r was = tt
  event_holds (ages (Some v)) r was =
      one_works (λ u. holds_enough u Exclusive (key_after (ages (Some v)) r).lock.holders ≡ true) v refuses
      (λ is. absurd (false≢true is))

  module _ (key : List ℕ) where
    -- a signal that asks the rows of a node for something on the key is such a one
    record IsWorkFor (to : Place) (body : Body) : Type 0 where
      token : Token
      is : token_of tx key to body ≡ Some token
      works : is_work token ≡ true

    work_for : (to : Place) (body : Body) → is_rows to.block ≡ true → asker key body ≡ Some tx → IsWorkFor to body
    work_for to (Chain (LqhKeyReq v what chain at)) rows asks_is = by (same_key (work_key what) key) refl asks_is
      where
        own : v ≡ tx → same_tx v tx ≡ true
        own same = ap (λ t. same_tx t tx) same ∙ same_tx-self tx

        by : (b : Bool) → same_key (work_key what) key ≡ b → (if b then Some v else None) ≡ Some tx
            → IsWorkFor to (Chain (LqhKeyReq v what chain at))
        by true e some =
            let same : v ≡ tx = cc in
            record {
              token = performs what at;
              is = λ i. if rows i && (own same i && e i) then Some (performs what at) else None;
              works = refl;
            }
        by false e none = absurd cc
    work_for to _ rows asks_is = absurd cc

    -- whatever is sent
    sends_work : (X : Type 0) (sends : List Outgoing)
        → Each (λ (o : Outgoing). (v : TxId) → asker key o.body ≡ Some v → is_rows o.to.block ≡ true) sends
        → Each (Works X) (tokens_of tx key sends)
        → Each (λ (o : Outgoing). asker key o.body ≡ Some tx → X) sends
    sends_work X [] rows told = tt
    sends_work X (o ∷ more) rows told =
        (own, sends_work X more rows.1 (rest (token_of tx key o.to o.body) told))
      where
        rest : (t : Option Token) → Each (Works X) (put t (tokens_of tx key more))
            → Each (Works X) (tokens_of tx key more)
        rest None told = told
        rest (Some t) told = told.1

        newest : (t : Token) → is_work t ≡ true → Each (Works X) (t ∷ tokens_of tx key more) → X
        newest t works told = told.0 works

        own : asker key o.body ≡ Some tx → X
        own is =
            let w = work_for o.to o.body (rows.0 tx is) is in
            newest w.token w.works (subst (λ t. Each (Works X) (put t (tokens_of tx key more))) w.is told)

-- only the rows of nodes are asked
rows_asked : (key : List ℕ) (s : LqhState) (body : Body)
    → Each (λ (o : Outgoing). (v : TxId) → asker key o.body ≡ Some v → is_rows o.to.block ≡ true)
    (lqh_table s body).effects.sends
rows_asked key s body =
    lqh_sends_each (λ (o : Outgoing). (v : TxId) → asker key o.body ≡ Some v → is_rows o.to.block ≡ true) s body
    (record {
      asked = λ r same. request r;
      waited = λ at r there. request r;
      grants_more = λ v is. absurd cc;
      expires_more = λ v is. absurd cc;
      commits_on = λ tx own epoch chain at same behind v is. absurd cc;
      committed = λ tx own epoch chain at sent at_first v is. absurd cc;
      completes_on = λ tx own chain at same behind v is. absurd cc;
      completed = λ tx own chain at sent at_first v is. absurd cc;
      aborted = λ tx own sent v is. absurd cc;
      gives_up = λ tx own given v is. absurd cc;
      times_out = λ tx own v is. absurd cc;
      waits = λ tx own ahead sent there v is. absurd cc;
      dumps = λ at rows next sent v is. absurd cc;
    })
  where
    request : (r : Request)
        → RequestSends (λ (o : Outgoing). (v : TxId) → asker key o.body ≡ Some v → is_rows o.to.block ≡ true) r
    request r = record {
      log_full = λ used reserved need v is. absurd cc;
      table_full = λ rows v is. absurd cc;
      answers = λ a v is. absurd cc;
      passes = λ image next there v is. refl;
    }

abbrev AreSilent : List ℕ → List Outgoing → Type 0
AreSilent key sends = Each (λ (o : Outgoing). asker key o.body ≡ None) sends

-- nor by an abort
going_silent : (key : List ℕ) (node : ℕ) (b : Bool) → AreSilent key (go_on_if node work.Granted b)
going_silent key node true = (refl, tt)
going_silent key node false = tt

aborted_silent : (key : List ℕ) (s : LqhState) (v : TxId) (own : List ℕ)
    → AreSilent key (abort.abort_row s v own).effects.sends
aborted_silent key s v own =
    abort_forms (λ step. AreSilent key step.effects.sends) s v own (record {
      none = λ had st gives none. (refl, going_silent key s.node _);
      some = λ had st gives at r there here. (refl, (refl, going_silent key s.node _));
    })

abort_silent : (tx : TxId) (key : List ℕ) (s : LqhState) (body : Body) → is_abort tx body ≡ true
    → AreSilent key (lqh_table s body).effects.sends
abort_silent tx key s (Chain (Abort v own)) is = aborted_silent key s v own
abort_silent tx key s _ is = absurd cc

none_some : (o : Option TxId) (tx : TxId) → o ≡ None → o ≡ Some tx → ⊥
none_some o tx none some = cc

module _ (tx : TxId) (key : List ℕ) where
  rows_work : (X : Type 0) (s : LqhState) (body : Body)
      → Each (Works X) (event_tokens tx (event_at key s body) (at_key key s))
      → Each (λ (o : Outgoing). asker key o.body ≡ Some tx → X) (lqh_table s body).effects.sends
  rows_work X s body told = by (is_abort tx body) refl
    where
      by : (b : Bool) → is_abort tx body ≡ b
          → Each (λ (o : Outgoing). asker key o.body ≡ Some tx → X) (lqh_table s body).effects.sends
      by true e =
          each_map (λ (o : Outgoing). asker key o.body ≡ None) (λ (o : Outgoing). asker key o.body ≡ Some tx → X)
          (lqh_table s body).effects.sends (λ o none some. absurd (none_some (asker key o.body) tx none some))
          (abort_silent tx key s body e)
      by false e =
          sends_work tx key X (lqh_table s body).effects.sends (rows_asked key s body)
          (subst (Each (Works X)) (sym (lqh_tokens tx key s body e)) told)

  no_api : (s : Host) → has_lqh s ≡ true → has_api s ≡ true → ⊥
  no_api (Ldm l) rows api = false≢true api
  no_api _ rows api = false≢true rows

  no_tc : (s : Host) → has_lqh s ≡ true → has_tc s ≡ true → ⊥
  no_tc (Ldm l) rows tc = false≢true tc
  no_tc _ rows tc = false≢true rows

  module _ (start : Start) (h : ℕ) (log : List HostStep) (e : HostStep)
      (runs : has_lqh (after start h log) ≡ true) where
    abbrev event : Event
    event = event_in key (after start h log) e.step.taken

    -- what is so of each such signal of the event is so wherever a host that runs rows asks the next one
    pub step_works : (X : Type 0) → Each (Works X) (event_tokens tx event (key_in key (after start h log)))
        → Each (λ (o : Outgoing). asker key o.body ≡ Some tx → X) (step_after start h log e).effects.sends
    step_works X told = by (block_case s e.step.taken)
      where
        s : Host
        s = after start h log

        All : List Outgoing → Type 0
        All sends = Each (λ (o : Outgoing). asker key o.body ≡ Some tx → X) sends

        by : BlockCase s e.step.taken (row s e.step.taken) → All (row s e.step.taken).effects.sends
        by (api_takes step) = absurd (no_api s runs step.runs)
        by (tc_takes step) = absurd (no_tc s runs step.runs)
        by (dih_takes step) = absurd (no_tc s runs step.runs)
        by (none_takes step) = subst All (sym (ap (λ (u : Step Host). u.effects.sends) step.is)) tt
        by (rows_take step) =
            subst All (sym (ap (λ (f : Effects). f.sends) step.effects))
            (rows_work X (lqh_of s) e.step.taken.body
            (subst (λ event. Each (Works X) (event_tokens tx event (key_in key s)))
            (event_rows key s e.step.taken step.runs step.at) told))

    -- so it is of a transaction that holds the lock exclusive
    pub step_holds : IsServing (key_in key (after start h log))
        → Each (λ (o : Outgoing). asker key o.body ≡ Some tx → holds_enough tx Exclusive
        (key_in key (after start h (e ∷ log))).lock.holders ≡ true) (step_after start h log e).effects.sends
    step_holds was =
        step_works (holds_enough tx Exclusive (key_in key (after start h (e ∷ log))).lock.holders ≡ true)
        (subst (λ (r : Replica). Each (Works (holds_enough tx Exclusive r.lock.holders ≡ true))
        (event_tokens tx event (key_in key (after start h log)))) (sym (logs_follow start h log e key))
        (event_holds tx event (key_in key (after start h log)) was))
