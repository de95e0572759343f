-- By which signals a host lets go of a key: what they tell holds of each transaction that it has let go of.
use Rattle.std.proofs.Common.{◌≡◌, ◌⊎◌, ℕ, Bool, true, false, List, refl, subst}
use Rattle.std.proofs.Common.{inl, inr}
use Rattle.std.proofs.lemmas.Bool.{or_cases}
use Rattle.std.specs.Prelude.{◌==◌, if◌then◌else◌, Option, None, Some}
use Rattle.sig_core.proofs.TxLemmas.{same_tx-is}
use Rattle.sig_core.specs.declared.member.TxId.{TxId}
use Rattle.sig_core.specs.declared.signal.Body.{Body}
use Rattle.sig_core.specs.declared.signal.Body.TheVariants.{Host, Chain}
use Rattle.sig_core.specs.declared.signal.chain.ChainSignal.TheVariants.{LqhKeyReq, Commit, Complete, Abort}
use Rattle.sig_core.specs.declared.signal.host.HostSignal.TheVariants.{Round, Continue}
use Rattle.sig_core.specs.declared.signal.host.Work.TheVariants as work
use Rattle.sig_core.specs.Firsts.{first}
use Rattle.sig_core.specs.Same.{same_key, same_tx}
use Rattle.sig_core.specs.Work.{work_key}
use Rattle.row_locks.specs.Rounds.{expired}
use Rattle.row_records.proofs.KeyLemmas.{same}
use Rattle.lqh_block.specs.declared.request.Request.{Request}
use Rattle.lqh_block.specs.Operate.{is_granted}
use Rattle.lqh_block.specs.State.{LqhState, storage_of}
use Rattle.key_laws.specs.PrimaryEvents.{AtPrimary, ended_after}
use Rattle.key_laws.specs.Replica.{Event, aborts, asks, commits, completes, event_at, expires, expires_if, if_on}
use Rattle.key_laws.specs.Replica.{is_refused, rests, serves, serves_if}

module _ (key : List ℕ) (X : TxId → Type 0) where
  -- a signal that lets go of the key tells X of its transaction
  abbrev pub Ends : Body → Type 0
  Ends (Chain (Commit tx own epoch chain at)) = own ≡ key → (at == 0) ≡ true → X tx
  Ends (Chain (Complete tx own chain at)) = own ≡ key → X tx
  Ends (Chain (Abort tx own)) = own ≡ key → X tx
  Ends body = Unit {0}

  module _ (p : AtPrimary) (u : TxId) where
    abbrev pub Told : Type 0
    Told = (p.ended u ≡ true) ⊎ X u

    one_ends : (tx : TxId) → X tx → (same_tx tx u ≡ true) ⊎ (p.ended u ≡ true) → Told
    one_ends tx told (inl own) = inr (subst X (same_tx-is tx u own) told)
    one_ends tx told (inr before) = inl before

    commit_ends : (tx : TxId) (last : Bool) → (last ≡ true → X tx) → ended_after (commits tx last) p u ≡ true → Told
    commit_ends tx true told is = one_ends tx (told refl) (or_cases (same_tx tx u) (p.ended u) is)
    commit_ends tx false told is = inl is

    on_key : (own : List ℕ) (event : Event) → (own ≡ key → ended_after event p u ≡ true → Told)
        → ended_after (if_on own key event) p u ≡ true → Told
    on_key own event told = by (same_key own key) refl
      where
        by : (b : Bool) → same_key own key ≡ b → ended_after (if b then event else rests) p u ≡ true → Told
        by true e is = told (same own key e) is
        by false e is = inl is

    serves_none : (s : LqhState) (o : Option Request) → ended_after (serves_if key s o) p u ≡ true → Told
    serves_none s None is = inl is
    serves_none s (Some q) is =
        on_key (work_key q.work) (serves (is_refused (storage_of s) q)) (λ own e. inl e) is

    expires_none : (o : Option (TxId × List ℕ)) → ended_after (expires_if key o) p u ≡ true → Told
    expires_none None is = inl is
    expires_none (Some wait) is = on_key wait.1 (expires wait.0) (λ own e. inl e) is

    pub body_ends : (s : LqhState) (body : Body) → Ends body → ended_after (event_at key s body) p u ≡ true → Told
    body_ends s (Chain (LqhKeyReq tx what chain at)) told is =
        on_key (work_key what)
        (asks (record { tx = tx; work = what; chain = chain; at = at })
        (is_refused (storage_of s) (record { tx = tx; work = what; chain = chain; at = at }))) (λ own e. inl e) is
    body_ends s (Host (Continue work.Granted at)) told is =
        serves_none s (first (is_granted s.locks) s.waiting) is
    body_ends s (Chain (Commit tx own epoch chain at)) told is =
        on_key own (commits tx (at == 0)) (λ same. commit_ends tx (at == 0) (told same)) is
    body_ends s (Chain (Complete tx own chain at)) told is =
        on_key own (completes tx) (λ same e. one_ends tx (told same) (or_cases (same_tx tx u) (p.ended u) e)) is
    body_ends s (Chain (Abort tx own)) told is =
        on_key own (aborts tx) (λ same e. one_ends tx (told same) (or_cases (same_tx tx u) (p.ended u) e)) is
    body_ends s (Host Round) told is = inl is
    body_ends s (Host (Continue work.Expired at)) told is = expires_none (expired s.locks) is
    body_ends s _ told is = inl is
