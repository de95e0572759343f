-- What a step of a replica sends of one transaction's operation on one key is what the event of the key sends.
use Rattle.std.proofs.Common.{◌≡◌, ◌&&◌, ◌||◌, ◌+◌, ◌==◌, ℕ, Bool, true, false, List, [], ◌∷◌, ◌++◌, refl, sym, ap, ◌∙◌}
use Rattle.std.proofs.Common.{subst}
use Rattle.std.specs.Prelude.{if◌then◌else◌, nat_lt, is_some, remove, slice_get, Option, None, Some}
use Rattle.sig_core.specs.declared.member.Member.{Member}
use Rattle.sig_core.specs.declared.member.TxId.{TxId}
use Rattle.sig_core.specs.declared.op.Answer.{Answer}
use Rattle.sig_core.specs.declared.op.Answer.TheVariants as answer
use Rattle.sig_core.specs.declared.op.Op.{Op}
use Rattle.sig_core.specs.declared.outcome.AbortCause.{AbortCause}
use Rattle.sig_core.specs.declared.outcome.AbortCause.TheVariants as cause
use Rattle.sig_core.specs.declared.outs.Outgoing.{Outgoing}
use Rattle.sig_core.specs.declared.signal.Body.{Body}
use Rattle.sig_core.specs.declared.signal.Body.TheVariants.{Host, Client, Chain}
use Rattle.sig_core.specs.declared.signal.chain.ChainSignal.TheVariants.{LqhKeyReq, Commit, Complete, Abort, Aborted}
use Rattle.sig_core.specs.declared.signal.chain.RowWork.{RowWork}
use Rattle.sig_core.specs.declared.signal.chain.RowWork.TheVariants.{Operate, Store}
use Rattle.sig_core.specs.declared.signal.client.ClientSignal.TheVariants.{LqhWaitReq, DumpReq}
use Rattle.sig_core.specs.declared.signal.host.HostSignal.TheVariants.{Round, Continue}
use Rattle.sig_core.specs.declared.signal.host.Work.TheVariants as work
use Rattle.sig_core.specs.Op.{answer_to, image_of, key_of}
use Rattle.sig_core.specs.Place.{coordinator_of}
use Rattle.sig_core.specs.Rows.{is_full, seen}
use Rattle.sig_core.specs.Same.{same_key, same_tx}
use Rattle.sig_core.specs.Step.{to_place}
use Rattle.row_locks.specs.declared.mode.Lock.{Lock}
use Rattle.row_locks.specs.declared.mode.Lock.TheVariants.{Granted, Queued}
use Rattle.row_locks.specs.Rounds.{expired}
use Rattle.row_locks.specs.Rows.{asked}
use Rattle.row_locks.specs.Tables.{lock_at, unwaited_at}
use Rattle.row_records.proofs.KeyLemmas.{same}
use Rattle.lqh_block.specs.Abort as abort
use Rattle.lqh_block.specs.Commit as commit
use Rattle.lqh_block.specs.Complete as complete
use Rattle.lqh_block.specs.declared.request.Request.{Request}
use Rattle.lqh_block.specs.Dump as dump
use Rattle.lqh_block.specs.Expire as expire
use Rattle.lqh_block.specs.Lqh.{lqh_table}
use Rattle.lqh_block.specs.Operate as operate
use Rattle.lqh_block.specs.State.{LqhState, freed_lock, go_on_if, serve_granted, storage_of, with_lock, with_waiting}
use Rattle.lqh_block.specs.Storage as storage
use Rattle.lqh_block.specs.Storage.{StorageState}
use Rattle.lqh_block.specs.Wait as wait
use Rattle.lqh_block.proofs.LqhForms.{abort_forms, commit_forms, complete_forms, dump_forms, expire_forms, expiring}
use Rattle.lqh_block.proofs.LqhForms.{granted_forms, request_forms, wait_forms}
use Rattle.sig_core.specs.Work.{work_key}
use Rattle.lqh_block.specs.Work.{work_mode}
use Rattle.sig_core.specs.Firsts.{first}
use Rattle.key_laws.specs.Records.{found, seen_by}
use Rattle.key_laws.specs.Replica.{Event, Replica, aborts, ages, asks, at_key, cell_at, commits, completes, event_at}
use Rattle.key_laws.specs.Replica.{expired_by, expires, expires_if, if_on, is_refused, rests, serves, serves_if}
use Rattle.sig_core.proofs.Firsts.{first-get, get_by}
use Rattle.key_laws.proofs.KeyAfter.{first_here}
use Rattle.sig_core.proofs.Keys.{same_key-self}
use Rattle.key_laws.proofs.PerformedAt.{seen-cell}
use Rattle.run_laws.proofs.tokens.Signals.{Token, answers, asked_tokens, event_tokens, expired_tokens, is_home}
use Rattle.run_laws.proofs.tokens.Signals.{operated_token, passed_token, performed_token, performs, put, put_home}
use Rattle.run_laws.proofs.tokens.Signals.{put_if}
use Rattle.run_laws.proofs.tokens.Signals.{refuses, served_tokens, stored_token, tokens-append, tokens_of, work_token}

-- the signal isn't an abort of the transaction
abbrev pub is_abort : TxId → Body → Bool
is_abort tx (Chain (Abort v own)) = same_tx v tx
is_abort tx body = false

one_of_two : (b c : Bool) (t : Token) → c ≡ true → (if b && c then t ∷ [] else []) ≡ (if b then t ∷ [] else [])
one_of_two true c t is = ap (λ c. if c then t ∷ [] else []) is
one_of_two false c t is = refl

neither : (b c : Bool) (t : Token) → c ≡ false → (if b && c then t ∷ [] else []) ≡ []
neither true c t is = ap (λ c. if c then t ∷ [] else []) is
neither false c t is = refl

module _ (tx : TxId) (key : List ℕ) where
  -- where an event is of another key nothing is sent
  tokens_if : (own : List ℕ) (event : Event) (r : Replica) (xs : List Token)
      → (own ≡ key → xs ≡ event_tokens tx event r) → (same_key own key ≡ false → xs ≡ [])
      → xs ≡ event_tokens tx (if_on own key event) r
  tokens_if own event r xs here other = by (same_key own key) refl
    where
      by : (b : Bool) → same_key own key ≡ b → xs ≡ event_tokens tx (if b then event else rests) r
      by true e = here (same own key e)
      by false e = other e

  granted_none : (node : ℕ) (b : Bool) → tokens_of tx key (go_on_if node work.Granted b) ≡ []
  granted_none node true = refl
  granted_none node false = refl

  expired_none : (node : ℕ) (b : Bool) → tokens_of tx key (go_on_if node work.Expired b) ≡ []
  expired_none node true = refl
  expired_none node false = refl

  -- a request that is performed sends one
  passed_one : (v : TxId) (own : List ℕ) (image : Option (List ℕ)) (chain : List Member) (at : ℕ) (next : Option Member)
      → tokens_of tx key (storage.passed_to v own image chain at next ∷ [])
      ≡ (if same_tx v tx && same_key own key then passed_token own image at next ∷ [] else [])
  passed_one v own image chain at None = put_home v (same_tx v tx && same_key own key) (answers answer.Done) []
  passed_one v own image chain at (Some next) =
      put_if (same_tx v tx && same_key own key) (performs (Store own image) (at + 1)) []

  stored_one : (s : StorageState) (v : TxId) (own : List ℕ) (image : Option (List ℕ)) (chain : List Member) (at : ℕ)
      (log full : Bool)
      → tokens_of tx key (storage.store_if s v own image chain at log full).effects.sends
      ≡ (if same_tx v tx && same_key own key then stored_token own image chain at (log || full) ∷ [] else [])
  stored_one s v own image chain at true full = put_home v (same_tx v tx && same_key own key) refuses []
  stored_one s v own image chain at false true = put_home v (same_tx v tx && same_key own key) refuses []
  stored_one s v own image chain at false false = passed_one v own image chain at (slice_get chain (at + 1))

  store_one : (s : StorageState) (v : TxId) (own : List ℕ) (image : Option (List ℕ)) (chain : List Member) (at : ℕ)
      → tokens_of tx key (storage.store_row s v own image chain at).effects.sends
      ≡ (if same_tx v tx && same_key own key then stored_token own image chain
      at (storage.is_log_full s.journal (storage.need_of v own image) || is_full s.rows own) ∷ [] else [])
  unfolding storage.store_row
  store_one s v own image chain at = stored_one s v own image chain
      at (storage.is_log_full s.journal (storage.need_of v own image)) (is_full s.rows own)

  operated_one : (s : StorageState) (v : TxId) (op : Op) (chain : List Member) (at : ℕ) (a : Answer)
      → tokens_of tx key (storage.operate_by s v op chain at a).effects.sends
      ≡ (if same_tx v tx && same_key (key_of op) key
      then operated_token op chain at (storage.is_log_full s.journal
      (storage.need_of v (key_of op) (image_of op)) || is_full s.rows (key_of op)) a ∷ [] else [])
  operated_one s v op chain at answer.Done = store_one s v (key_of op) (image_of op) chain at
  operated_one s v op chain at (answer.Found value) =
      put_home v (same_tx v tx && same_key (key_of op) key) (answers (answer.Found value)) []
  operated_one s v op chain at answer.Missing =
      put_home v (same_tx v tx && same_key (key_of op) key) (answers answer.Missing) []
  operated_one s v op chain at answer.E626 =
      put_home v (same_tx v tx && same_key (key_of op) key) (answers answer.E626) []
  operated_one s v op chain at answer.E630 =
      put_home v (same_tx v tx && same_key (key_of op) key) (answers answer.E630) []

  worked_one : (s : StorageState) (v : TxId) (chain : List Member) (at : ℕ) (w : RowWork)
      → tokens_of tx key (storage.perform_by s v chain at w).effects.sends
      ≡ (if same_tx v tx && same_key (work_key w) key then work_token (cell_at key s.rows) v chain
      at (is_refused s (record { tx = v; work = w; chain = chain; at = at })) w ∷ [] else [])
  worked_one s v chain at (Store own image) = store_one s v own image chain at
  worked_one s v chain at (Operate op) = operated_one s v op chain at (answer_to op (seen s.rows v (key_of op)))
      ∙ by (same_tx v tx) (same_key (key_of op) key) refl
    where
      refused : Bool
      refused = storage.is_log_full s.journal (storage.need_of v (key_of op) (image_of op)) || is_full s.rows
          (key_of op)

      by : (b c : Bool) → same_key (key_of op) key ≡ c
          → (if b && c then operated_token op chain at refused (answer_to op (seen s.rows v (key_of op))) ∷ [] else [])
          ≡ (if b && c then operated_token op chain
          at refused (answer_to op (seen_by (cell_at key s.rows).row (found v (cell_at key s.rows).pending))) ∷ [] else
          [])
      by true true e =
          ap (λ row. operated_token op chain at refused (answer_to op row) ∷ [])
          (seen-cell s.rows v (key_of op) ∙ ap
          (λ k. seen_by (cell_at k s.rows).row (found v (cell_at k s.rows).pending)) (same (key_of op) key e))
      by true false e = refl
      by false c e = refl

  performed_one : (s : StorageState) (q : Request)
      → tokens_of tx key (storage.perform s q).effects.sends
      ≡ (if same_tx q.tx tx && same_key (work_key q.work) key then
      performed_token (cell_at key s.rows) q (is_refused s q) ∷ [] else [])
  unfolding storage.perform
  performed_one s q = worked_one s q.tx q.chain q.at q.work

  -- requests
  module _ (s : LqhState) (q : Request) where
    own_tokens : (a : Lock) → work_key q.work ≡ key
        → tokens_of tx key (operate.asked_by (operate.asked_for s q) q a).effects.sends
        ≡ asked_tokens tx (at_key key s) q (is_refused (storage_of s) q) a
    own_tokens Granted at =
        performed_one (storage_of s) q
        ∙ one_of_two (same_tx q.tx tx) (same_key (work_key q.work) key)
        (performed_token (cell_at key s.rows) q (is_refused (storage_of s) q))
        (ap (λ k. same_key k key) at ∙ same_key-self key)
    own_tokens (Queued ahead) at = refl

    other_tokens : (a : Lock) → same_key (work_key q.work) key ≡ false
        → tokens_of tx key (operate.asked_by (operate.asked_for s q) q a).effects.sends ≡ []
    other_tokens Granted off =
        performed_one (storage_of s) q ∙ neither (same_tx q.tx tx) (same_key (work_key q.work) key)
        (performed_token (cell_at key s.rows) q (is_refused (storage_of s) q)) off
    other_tokens (Queued ahead) off = refl

    request_tokens : tokens_of tx key (operate.request_row s q).effects.sends
        ≡ event_tokens tx (if_on (work_key q.work) key (asks q (is_refused (storage_of s) q))) (at_key key s)
    request_tokens =
        request_forms (λ step. tokens_of tx key step.effects.sends
        ≡ event_tokens tx (if_on (work_key q.work) key (asks q (is_refused (storage_of s) q))) (at_key key s)) s q
        (record { granted = λ is. by Granted is; queued = λ ahead is. by (Queued ahead) is })
      where
        by : (a : Lock) → (operate.asking s q).answer ≡ a
            → tokens_of tx key (operate.asked_by (operate.asked_for s q) q a).effects.sends
            ≡ event_tokens tx (if_on (work_key q.work) key (asks q (is_refused (storage_of s) q))) (at_key key s)
        by a is =
            tokens_if (work_key q.work) (asks q (is_refused (storage_of s) q)) (at_key key s)
            (tokens_of tx key (operate.asked_by (operate.asked_for s q) q a).effects.sends)
            (λ at. own_tokens a at ∙ ap (asked_tokens tx (at_key key s) q (is_refused (storage_of s) q)) (sym is)
            ∙ ap (λ k. asked_tokens tx (at_key key s) q (is_refused (storage_of s) q)
            (asked (lock_at s.locks k) q.tx (work_mode q.work)).answer) at)
            (other_tokens a)

  served_one : (s : LqhState) (at : ℕ) (q : Request) → first (operate.is_granted s.locks) s.waiting ≡ Some q
      → tokens_of tx key (operate.granted_on (with_waiting s (remove s.waiting at)) q).effects.sends
      ≡ event_tokens tx (if_on (work_key q.work) key (serves (is_refused (storage_of s) q))) (at_key key s)
  served_one s at q here =
      tokens-append tx key (operate.performed (with_waiting s (remove s.waiting at)) q).effects.sends
      (operate.more_granted (with_waiting s (remove s.waiting at)))
      ∙ ap (λ w. tokens_of tx key (operate.performed (with_waiting s (remove s.waiting at)) q).effects.sends ++ w)
      (granted_none s.node (is_some (operate.first_granted s.locks (remove s.waiting at))))
      ∙ none_behind (tokens_of tx key (operate.performed (with_waiting s (remove s.waiting at)) q).effects.sends)
      ∙ tokens_if (work_key q.work) (serves (is_refused (storage_of s) q)) (at_key key s)
      (tokens_of tx key (operate.performed (with_waiting s (remove s.waiting at)) q).effects.sends)
      (λ own. performed_one (storage_of s) q
      ∙ one_of_two (same_tx q.tx tx) (same_key (work_key q.work) key)
      (performed_token (cell_at key s.rows) q (is_refused (storage_of s) q))
      (ap (λ k. same_key k key) own ∙ same_key-self key)
      ∙ ap (served_tokens tx (at_key key s) (is_refused (storage_of s) q))
      (sym (first_here s key s.waiting q here own)))
      (λ off. performed_one (storage_of s) q
      ∙ neither (same_tx q.tx tx) (same_key (work_key q.work) key)
      (performed_token (cell_at key s.rows) q (is_refused (storage_of s) q)) off)
    where
      none_behind : (xs : List Token) → xs ++ [] ≡ xs
      none_behind [] = refl
      none_behind (x ∷ xs) = ap (λ w. x ∷ w) (none_behind xs)

  granted_tokens : (s : LqhState) → tokens_of tx key (operate.granted_row s).effects.sends
      ≡ event_tokens tx (serves_if key s (first (operate.is_granted s.locks) s.waiting)) (at_key key s)
  granted_tokens s =
      granted_forms (λ step. Sent step.effects.sends (first (operate.is_granted s.locks) s.waiting)) s (record {
        none = λ is. subst (Sent []) (ap (get_by s.waiting) (sym is) ∙ first-get (operate.is_granted s.locks) s.waiting)
            refl;
        some = λ at q is here.
            let q_is : Some q ≡ first (operate.is_granted s.locks) s.waiting =
            sym here ∙ (ap (get_by s.waiting) (sym is) ∙ first-get (operate.is_granted s.locks) s.waiting) in
            subst (Sent (operate.granted_on (with_waiting s (remove s.waiting at)) q).effects.sends) q_is
            (served_one s at q (sym q_is));
      })
    where
      Sent : List Outgoing → Option Request → Type 0
      Sent sends o = tokens_of tx key sends ≡ event_tokens tx (serves_if key s o) (at_key key s)

  -- what is committed, completed and aborted
  none_if : (own : List ℕ) (event : Event) (r : Replica) → event_tokens tx event r ≡ []
      → event_tokens tx (if_on own key event) r ≡ []
  none_if own event r none = by (same_key own key)
    where
      by : (b : Bool) → event_tokens tx (if b then event else rests) r ≡ []
      by true = none
      by false = refl

  -- one is refused
  refused_one : (v : TxId) (own : List ℕ) (rest : List Outgoing) (why : AbortCause) → tokens_of tx key rest ≡ []
      → tokens_of tx key (storage.refusal v own why ∷ rest)
      ≡ (if same_tx v tx && same_key own key then refuses ∷ [] else [])
  refused_one v own rest why none =
      ap (put (if is_home v (coordinator_of v) && (same_tx v tx && same_key own key) then Some refuses else None)) none
      ∙ put_home v (same_tx v tx && same_key own key) refuses []

  served_none : (s : LqhState) (v : TxId) (own : List ℕ)
      → tokens_of tx key (serve_granted s.node (freed_lock s v own)) ≡ []
  served_none s v own = granted_none s.node (nat_lt 0 (freed_lock s v own).granted)

  commit_none : (s : LqhState) (v : TxId) (own : List ℕ) (epoch : ℕ) (chain : List Member) (at : ℕ)
      → tokens_of tx key (commit.commit_row s v own epoch chain at).effects.sends ≡ []
  commit_none s v own epoch chain at =
      commit_forms (λ step. tokens_of tx key step.effects.sends ≡ []) s v own epoch chain at (record {
        last = λ had st markers applies first. served_none s v own;
        passes = λ had st markers applies behind. refl;
      })

  complete_none : (s : LqhState) (v : TxId) (own : List ℕ) (chain : List Member) (at : ℕ)
      → tokens_of tx key (complete.complete_row s v own chain at).effects.sends ≡ []
  complete_none s v own chain at =
      complete_forms (λ step. tokens_of tx key step.effects.sends ≡ []) s v own chain at
      (record { last = λ first. served_none s v own; passes = λ behind. served_none s v own })

  abort_none : (s : LqhState) (v : TxId) (own : List ℕ) → same_tx v tx ≡ false
      → tokens_of tx key (abort.abort_row s v own).effects.sends ≡ []
  abort_none s v own off =
      abort_forms (λ step. tokens_of tx key step.effects.sends ≡ []) s v own (record {
        none = λ had st gives none. served_none s v own;
        some = λ had st gives at r there here.
            refused_one v own (to_place (coordinator_of v) (Chain (Aborted v own)) ∷ serve_granted s.node
            (freed_lock s v own)) cause.Request (served_none s v own)
            ∙ ap (λ b. if b && same_key own key then refuses ∷ [] else []) off;
      })

  -- waits that end
  expire_tokens : (s : LqhState) (r : Replica)
      → tokens_of tx key (expire.expire_row s).effects.sends ≡ event_tokens tx (expires_if key (expired s.locks)) r
  expire_tokens s r =
      expire_forms (λ step. Sent step.effects.sends (expired s.locks)) s (record {
        rests = λ is. subst (Sent []) (sym is) refl;
        none = λ v own is none. subst (Sent (sent v own)) (sym is) (one v own);
        some = λ v own is at q there here. subst (Sent (sent v own)) (sym is) (one v own);
      })
    where
      Sent : List Outgoing → Option (TxId × List ℕ) → Type 0
      Sent sends w = tokens_of tx key sends ≡ event_tokens tx (expires_if key w) r

      sent : TxId → List ℕ → List Outgoing
      sent v own = (expiring s v own (unwaited_at s.locks own v) s.waiting).effects.sends

      one : (v : TxId) (own : List ℕ) → Sent (sent v own) (Some (v, own))
      one v own =
          let served = unwaited_at s.locks own v in
          refused_one v own (serve_granted s.node served ++ expire.more_expired (with_lock s own served)) cause.Timeout
          (tokens-append tx key (serve_granted s.node served) (expire.more_expired (with_lock s own served))
          ∙ ap (λ x. x ++ tokens_of tx key (expire.more_expired (with_lock s own served)))
          (granted_none s.node (nat_lt 0 served.granted))
          ∙ expired_none s.node (is_some (expired (with_lock s own served).locks)))
          ∙ tokens_if own (expires v) r (if same_tx v tx && same_key own key then refuses ∷ [] else [])
          (λ at. one_of_two (same_tx v tx) (same_key own key) refuses (ap (λ k. same_key k key) at ∙ same_key-self key))
          (λ off. neither (same_tx v tx) (same_key own key) refuses off)

  ages_tokens : (w : Option (TxId × List ℕ)) (r : Replica)
      → event_tokens tx (expires_if key w) r ≡ event_tokens tx (ages (expired_by key w)) r
  ages_tokens None r = refl
  ages_tokens (Some w) r = by (same_key w.1 key)
    where
      by : (b : Bool) → event_tokens tx (if b then expires w.0 else rests) r
          ≡ expired_tokens tx (if b then Some w.0 else None)
      by true = refl
      by false = refl

  wait_none : (s : LqhState) (v : TxId) (own : List ℕ) → tokens_of tx key (wait.wait_row s v own).effects.sends ≡ []
  wait_none s v own =
      wait_forms (λ step. tokens_of tx key step.effects.sends ≡ []) s v own
      (record { none = λ is. refl; some = λ ahead is. refl })

  dump_none : (s : LqhState) (at : ℕ) → tokens_of tx key (dump.dump_row s at).effects.sends ≡ []
  dump_none s at = dump_forms (λ step. tokens_of tx key step.effects.sends ≡ []) s at (λ rows next. refl)

  pub lqh_tokens : (s : LqhState) (body : Body) → is_abort tx body ≡ false
      → tokens_of tx key (lqh_table s body).effects.sends ≡ event_tokens tx (event_at key s body) (at_key key s)
  lqh_tokens s (Chain (LqhKeyReq v what chain at)) off =
      request_tokens s (record { tx = v; work = what; chain = chain; at = at })
  lqh_tokens s (Host (Continue work.Granted at)) off = granted_tokens s
  lqh_tokens s (Chain (Commit v own epoch chain at)) off = commit_none s v own epoch chain at
      ∙ sym (none_if own (commits v (at == 0)) (at_key key s) refl)
  lqh_tokens s (Chain (Complete v own chain at)) off = complete_none s v own chain at
      ∙ sym (none_if own (completes v) (at_key key s) refl)
  lqh_tokens s (Chain (Abort v own)) off = abort_none s v own off ∙ sym (none_if own (aborts v) (at_key key s) refl)
  lqh_tokens s (Client (LqhWaitReq v own)) off = wait_none s v own
  lqh_tokens s (Client (DumpReq at)) off = dump_none s at
  lqh_tokens s (Host Round) off = expire_tokens (expire.aged s) (at_key key s)
      ∙ ages_tokens (expired (expire.aged s).locks) (at_key key s)
  lqh_tokens s (Host (Continue work.Expired at)) off = expire_tokens s (at_key key s)
  lqh_tokens s _ off = refl
