-- Which events a signal for the rows of a node is of one transaction, on one key.
use Rattle.std.proofs.Common.{◌≡◌, ◌⊎◌, ◌&&◌, ◌==◌, ℕ, Bool, true, false, List, refl, ap, ◌∙◌, inl, inr}
use Rattle.std.specs.Prelude.{if◌then◌else◌, Option, None, Some}
use Rattle.sig_core.specs.declared.member.Member.{Member}
use Rattle.sig_core.specs.declared.member.TxId.{TxId}
use Rattle.sig_core.specs.declared.signal.Body.{Body}
use Rattle.sig_core.specs.declared.signal.Body.TheVariants.{Host, Chain}
use Rattle.sig_core.specs.declared.signal.chain.ChainSignal.TheVariants.{LqhKeyReq, LqhKeyConf, LqhKeyRef, Commit}
use Rattle.sig_core.specs.declared.signal.chain.ChainSignal.TheVariants.{Complete, Abort}
use Rattle.sig_core.specs.declared.signal.host.HostSignal.TheVariants.{Round, Continue}
use Rattle.sig_core.specs.declared.signal.host.Work.TheVariants as work
use Rattle.sig_core.specs.Place.{rows_of}
use Rattle.sig_core.specs.Same.{same_key, same_tx}
use Rattle.sig_core.proofs.TxLemmas.{same_tx-is}
use Rattle.row_locks.specs.Rounds.{expired}
use Rattle.row_records.proofs.KeyLemmas.{same}
use Rattle.lqh_block.specs.declared.request.Request.{Request}
use Rattle.lqh_block.specs.Expire.{aged}
use Rattle.lqh_block.specs.Operate.{is_granted}
use Rattle.lqh_block.specs.State.{LqhState, storage_of}
use Rattle.sig_core.specs.Work.{work_key}
use Rattle.sig_core.specs.Firsts.{first}
use Rattle.key_laws.specs.Replica.{Event, Replica, aborts, ages, asks, at_key, commits, completes, event_at, expired_by}
use Rattle.key_laws.specs.Replica.{expires, expires_if, if_on, is_let_in, is_refused, rests, serves, serves_if}
use Rattle.run_laws.proofs.tokens.Signals.{performs, token_of}
use Rattle.run_laws.proofs.circle.OthersStay.{event_of, is_of, of_first}

module _ (tx : TxId) (key : List ℕ) (h : ℕ) where
  -- Of another transaction or none; a request comes, or is served; a wait ends; the transaction is aborted, or
  -- committed.
  pub data LqhCase (s : LqhState) (body : Body) (event : Event) : Type 0 where
    off : is_of tx (event_of event (at_key key s)) ≡ false → token_of tx key (rows_of h) body ≡ None
        → LqhCase s body event
    asked : (q : Request) → body ≡ Chain (LqhKeyReq q.tx q.work q.chain q.at) → q.tx ≡ tx → work_key q.work ≡ key
        → event ≡ asks q (is_refused (storage_of s) q)
        → token_of tx key (rows_of h) body ≡ Some (performs q.work q.at) → LqhCase s body event
    served : (q : Request) (refused : Bool) → event ≡ serves refused
        → first (is_let_in (at_key key s).lock) (at_key key s).waiting ≡ Some q → q.tx ≡ tx
        → token_of tx key (rows_of h) body ≡ None → LqhCase s body event
    expired_here : (event ≡ expires tx) ⊎ (event ≡ ages (Some tx)) → token_of tx key (rows_of h) body ≡ None
        → LqhCase s body event
    aborted : (v : TxId) (own : List ℕ) → v ≡ tx → body ≡ Chain (Abort v own) → LqhCase s body event
    committed : (v : TxId) (own : List ℕ) (epoch : ℕ) (chain : List Member) (at : ℕ) → v ≡ tx
        → body ≡ Chain (Commit v own epoch chain at) → LqhCase s body event
    completed : (v : TxId) (own : List ℕ) (chain : List Member) (at : ℕ) → v ≡ tx
        → body ≡ Chain (Complete v own chain at) → LqhCase s body event

  -- an event of another transaction, or of another key
  if_off : (own : List ℕ) (event : Event) (v : TxId) (r : Replica) → event_of event r ≡ Some v → same_tx v tx ≡ false
      → is_of tx (event_of (if_on own key event) r) ≡ false
  if_off own event v r is apart = by (same_key own key)
    where
      by : (b : Bool) → is_of tx (event_of (if b then event else rests) r) ≡ false
      by true = ap (is_of tx) is ∙ apart
      by false = refl

  module _ (s : LqhState) where
    request_case : (q : Request)
        → LqhCase s (Chain (LqhKeyReq q.tx q.work q.chain q.at))
        (if_on (work_key q.work) key (asks q (is_refused (storage_of s) q)))
    request_case q = by (same_key (work_key q.work) key) (same_tx q.tx tx) refl refl
      where
        by : (b c : Bool) → same_key (work_key q.work) key ≡ b → same_tx q.tx tx ≡ c
            → LqhCase s (Chain (LqhKeyReq q.tx q.work q.chain q.at))
            (if_on (work_key q.work) key (asks q (is_refused (storage_of s) q)))
        by true true e f =
            asked q refl (same_tx-is q.tx tx f) (same (work_key q.work) key e)
            (ap (λ b. if b then asks q (is_refused (storage_of s) q) else rests) e)
            (λ i. if f i && e i then Some (performs q.work q.at) else None)
        by true false e f =
            off (if_off (work_key q.work) (asks q (is_refused (storage_of s) q)) q.tx (at_key key s) refl f)
            (λ i. if f i && e i then Some (performs q.work q.at) else None)
        by false true e f =
            off (ap (λ b. is_of tx (event_of (if b then asks q (is_refused (storage_of s) q) else rests)
            (at_key key s))) e) (λ i. if f i && e i then Some (performs q.work q.at) else None)
        by false false e f =
            off (ap (λ b. is_of tx (event_of (if b then asks q (is_refused (storage_of s) q) else rests)
            (at_key key s))) e) (λ i. if f i && e i then Some (performs q.work q.at) else None)

    served_case : (at : ℕ) (refused : Bool) → LqhCase s (Host (Continue work.Granted at)) (serves refused)
    served_case at refused = by (first (is_let_in (at_key key s).lock) (at_key key s).waiting) refl
      where
        by : (o : Option Request) → first (is_let_in (at_key key s).lock) (at_key key s).waiting ≡ o
            → LqhCase s (Host (Continue work.Granted at)) (serves refused)
        by None is = off (ap (λ o. is_of tx (of_first o)) is) refl
        by (Some q) is = which (same_tx q.tx tx) refl
          where
            which : (b : Bool) → same_tx q.tx tx ≡ b → LqhCase s (Host (Continue work.Granted at)) (serves refused)
            which true e = served q refused refl is (same_tx-is q.tx tx e) refl
            which false e = off (ap (λ o. is_of tx (of_first o)) is ∙ e) refl

    granted_case : (at : ℕ) (o : Option Request) → LqhCase s (Host (Continue work.Granted at)) (serves_if key s o)
    granted_case at None = off refl refl
    granted_case at (Some q) = by (same_key (work_key q.work) key)
      where
        by : (b : Bool)
            → LqhCase s (Host (Continue work.Granted at)) (if b then serves (is_refused (storage_of s) q) else rests)
        by true = served_case at (is_refused (storage_of s) q)
        by false = off refl refl

    expires_case : (at : ℕ) (w : Option (TxId × List ℕ))
        → LqhCase s (Host (Continue work.Expired at)) (expires_if key w)
    expires_case at None = off refl refl
    expires_case at (Some w) = by (same_key w.1 key) (same_tx w.0 tx) refl
      where
        by : (b c : Bool) → same_tx w.0 tx ≡ c
            → LqhCase s (Host (Continue work.Expired at)) (if b then expires w.0 else rests)
        by true true f = expired_here (inl (ap expires (same_tx-is w.0 tx f))) refl
        by true false f = off f refl
        by false c f = off refl refl

    ages_case : (w : Option TxId) → LqhCase s (Host Round) (ages w)
    ages_case None = off refl refl
    ages_case (Some v) = by (same_tx v tx) refl
      where
        by : (c : Bool) → same_tx v tx ≡ c → LqhCase s (Host Round) (ages (Some v))
        by true f = expired_here (inr (ap (λ t. ages (Some t)) (same_tx-is v tx f))) refl
        by false f = off f refl

    commit_case : (v : TxId) (own : List ℕ) (epoch : ℕ) (chain : List Member) (at : ℕ) (c : Bool) → same_tx v tx ≡ c
        → LqhCase s (Chain (Commit v own epoch chain at)) (if_on own key (commits v (at == 0)))
    commit_case v own epoch chain at true f = committed v own epoch chain at (same_tx-is v tx f) refl
    commit_case v own epoch chain at false f = off (if_off own (commits v (at == 0)) v (at_key key s) refl f) refl

    complete_case : (v : TxId) (own : List ℕ) (chain : List Member) (at : ℕ) (c : Bool) → same_tx v tx ≡ c
        → LqhCase s (Chain (Complete v own chain at)) (if_on own key (completes v))
    complete_case v own chain at true f = completed v own chain at (same_tx-is v tx f) refl
    complete_case v own chain at false f = off (if_off own (completes v) v (at_key key s) refl f) refl

    abort_case : (v : TxId) (own : List ℕ) (c : Bool) → same_tx v tx ≡ c
        → LqhCase s (Chain (Abort v own)) (if_on own key (aborts v))
    abort_case v own true f = aborted v own (same_tx-is v tx f) refl
    abort_case v own false f = off (if_off own (aborts v) v (at_key key s) refl f) refl

    pub lqh_case : (body : Body) → LqhCase s body (event_at key s body)
    lqh_case (Chain (LqhKeyReq v what chain at)) = request_case (record { tx = v; work = what; chain = chain; at = at })
    lqh_case (Chain (LqhKeyConf v own answer)) = off refl refl
    lqh_case (Chain (LqhKeyRef v own why)) = off refl refl
    lqh_case (Host (Continue work.Granted at)) = granted_case at (first (is_granted s.locks) s.waiting)
    lqh_case (Chain (Commit v own epoch chain at)) = commit_case v own epoch chain at (same_tx v tx) refl
    lqh_case (Chain (Complete v own chain at)) = complete_case v own chain at (same_tx v tx) refl
    lqh_case (Chain (Abort v own)) = abort_case v own (same_tx v tx) refl
    lqh_case (Host Round) = ages_case (expired_by key (expired (aged s).locks))
    lqh_case (Host (Continue work.Expired at)) = expires_case at (expired s.locks)
    lqh_case _ = off refl refl
