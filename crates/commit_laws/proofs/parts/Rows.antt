-- The parts of a transaction's operations behind an event of the rows of a member, in the current view.
use Rattle.std.proofs.Common.{◌≡◌, ◌⊎◌, ◌==◌, ◌∙◌, ℕ, Bool, true, false, List, ◌∷◌, refl, sym, ap, subst, inl, inr}
use Rattle.std.proofs.lemmas.Bool.{true≢false}
use Rattle.std.specs.Prelude.{if◌then◌else◌, Option, None, Some}
use Rattle.run_theory.specs.Lists.{IsIn}
use Rattle.sig_core.specs.declared.member.Member.{Member}
use Rattle.sig_core.specs.declared.member.TxId.{TxId}
use Rattle.sig_core.specs.declared.signal.Body.{Body}
use Rattle.sig_core.specs.declared.signal.Body.TheVariants.{Chain, Host}
use Rattle.sig_core.specs.declared.signal.Signal.{Signal}
use Rattle.sig_core.specs.declared.signal.chain.ChainSignal.{ChainSignal}
use Rattle.sig_core.specs.declared.signal.chain.ChainSignal.TheVariants.{Abort, Commit, Complete, LqhKeyReq}
use Rattle.sig_core.specs.declared.signal.chain.RowWork.{RowWork}
use Rattle.sig_core.specs.declared.signal.host.HostSignal.TheVariants.{Continue, Round}
use Rattle.sig_core.specs.declared.signal.host.Work.TheVariants as work
use Rattle.sig_core.specs.Firsts.{first}
use Rattle.sig_core.specs.Same.{same_key, same_tx}
use Rattle.sig_core.specs.Work.{work_key}
use Rattle.sig_core.proofs.TxLemmas.{same_tx-is}
use Rattle.tc_block.specs.declared.transaction.Transaction.{Transaction}
use Rattle.row_locks.specs.Rounds.{expired}
use Rattle.row_records.proofs.KeyLemmas as index
use Rattle.lqh_block.specs.declared.request.Request.{Request}
use Rattle.lqh_block.specs.Operate.{is_granted}
use Rattle.lqh_block.specs.State.{storage_of}
use Rattle.lqh_views.specs.Replica.{installed, is_stale}
use Rattle.lqh_views.specs.State.{ReplicaState}
use Rattle.key_laws.specs.Replica.{Event, aborts as gives_up, asks, at_key, commits as makes_so, completes as ends}
use Rattle.key_laws.specs.Replica.{event_at, expires, expires_if, if_on, is_refused, rests, serves, serves_if}
use Rattle.key_laws.proofs.KeyAfter.{first_here}
use Rattle.run_laws.proofs.circle.OthersStay.{is_of, of_first}
use Rattle.world_core.specs.Start.{Start, made}
use Rattle.world_core.specs.Steps.{Addressed, HostStep}
use Rattle.moment_laws.specs.Moments.{IsMoment, current, logs_of}
use Rattle.moment_laws.specs.Places.{ldm_of}
use Rattle.moment_laws.proofs.MomentViews.{moment_less}
use Rattle.request_laws.specs.Replicas.{event_by, event_if, event_under}
use Rattle.commit_laws.specs.Fates.{fate, is_led_by_full}
use Rattle.commit_laws.specs.Forth.{IsForth, TellsForth}
use Rattle.commit_laws.specs.Going.{is_forth}
use Rattle.commit_laws.specs.Parts.{IsHale}
use Rattle.commit_laws.specs.Speaks.{SaysAbort}
use Rattle.commit_laws.specs.Together.{Follows}
use Rattle.commit_laws.specs.Traces.{rows_at}
use Rattle.commit_laws.specs.Transit.{AreInTransit, Takes}
use Rattle.commit_laws.proofs.forth.All.{forth_is_known}
use Rattle.commit_laws.proofs.fates.Going.{hale_fate, hale_ways}
use Rattle.commit_laws.proofs.records.KeyStays.{worker_of}
use Rattle.commit_laws.proofs.parts.Apart.{aside_does, entering_does, resting_does}
use Rattle.commit_laws.proofs.parts.Own.{PartsOf}
use Rattle.commit_laws.proofs.parts.Request.{taken_request_parts}
use Rattle.commit_laws.proofs.parts.Served.{served_parts}
use Rattle.commit_laws.proofs.parts.Still.{MemberDoes, still_parts}
use Rattle.commit_laws.proofs.records.Attended.{under_is}
use Rattle.commit_laws.proofs.hosts.RowsTurn.{IsBetween, IsTakenAt, RowsTurn, enter_now, rest_now, rows_turn, take_now}
use Rattle.commit_laws.proofs.links.TakenChains.{chain_told}

-- the transaction isn't this one unless that can be
unless_same : (v tx : TxId) → (same_tx v tx ≡ true → ⊥) → same_tx v tx ≡ false
unless_same v tx none = by (same_tx v tx) refl
  where
    by : (b : Bool) → same_tx v tx ≡ b → b ≡ false
    by true is = absurd (none is)
    by false is = refl

module _ (start : Start) (all : ℕ → List HostStep) (e : HostStep) (es : List HostStep)
    (follows : Follows start all e es) (xs left : List Addressed) (transit : AreInTransit start es xs)
    (takes : Takes start e xs left)
    (same : current start (logs_of start (e ∷ es)) ≡ current start (logs_of start es)) (tx : TxId) (u : Transaction)
    (hale : IsHale start (logs_of start es) tx u) (led : is_led_by_full start (logs_of start (e ∷ es)) tx ≡ true)
    (me : Member) (there : IsIn me (made start)) (at : e.host ≡ ldm_of start me)
  where
    abbrev old : ℕ → List HostStep
    old = logs_of start es

    abbrev x : Signal
    x = e.step.taken

    abbrev before : IsMoment start all es
    before = moment_less start all e es follows.moment

    abbrev Now : Type 0
    Now = PartsOf start all e es follows xs left transit takes same tx u

    by_what_it_does : MemberDoes start all e es follows xs left transit takes same tx u hale led me there at → Now
    by_what_it_does does = still_parts start all e es follows xs left transit takes same tx u hale led me there at does

    -- the rows take the signal
    module _ (s : ReplicaState) (between : IsBetween start all e es follows.moment me there s)
        (which : (s ≡ rows_at start (logs_of start es) me)
        ⊎ (s ≡ installed (rows_at start (logs_of start es) me) (current start (logs_of start (e ∷ es)))))
        (taken : IsTakenAt start all e es follows.moment me there s)
      where
        abbrev OfOther : List ℕ → Event → Type 0
        OfOther key event = is_of tx (worker_of event (at_key key s.lqh)) ≡ false

        not_forth : is_forth start old tx ≡ true → ⊥
        not_forth is = true≢false (sym is ∙ (hale_ways start all es before tx u hale).0)

        forth_told : (signal : ChainSignal) → x.body ≡ Chain signal → TellsForth (IsForth start old) (Chain signal)
        forth_told signal is =
            subst (TellsForth (IsForth start old)) is
            (chain_told start all e es follows.moment taken.now signal is
            (λ (y : Addressed). TellsForth (IsForth start old) y.signal.body)
            (forth_is_known start all es before).signals)

        -- it comes to no end
        uncommitted : (v : TxId) (own : List ℕ) (epoch : ℕ) (chain : List Member) (place : ℕ)
            → x.body ≡ Chain (Commit v own epoch chain place) → same_tx v tx ≡ false
        uncommitted v own epoch chain place is =
            unless_same v tx (λ same.
            not_forth (forth_told (Commit tx own epoch chain place)
            (is ∙ (λ i. Chain (Commit (same_tx-is v tx same i) own epoch chain place)))))

        uncompleted : (v : TxId) (own : List ℕ) (chain : List Member) (place : ℕ)
            → x.body ≡ Chain (Complete v own chain place) → same_tx v tx ≡ false
        uncompleted v own chain place is =
            unless_same v tx (λ same.
            not_forth (forth_told (Complete tx own chain place)
            (is ∙ (λ i. Chain (Complete (same_tx-is v tx same i) own chain place)))))

        unaborted : (v : TxId) (own : List ℕ) → x.body ≡ Chain (Abort v own) → same_tx v tx ≡ false
        unaborted v own is =
            unless_same v tx (λ same.
            let about : x.body ≡ Chain (Abort tx own) = is ∙ (λ i. Chain (Abort (same_tx-is v tx same i) own)) in
            hale_fate start all es before tx u hale
            (subst (SaysAbort (fate start old)) about
            (chain_told start all e es follows.moment taken.now (Abort tx own) about
            (λ (y : Addressed). SaysAbort (fate start old) y.signal.body) follows.stood.spoken.aborts_said)))

        on : (key own : List ℕ) (event : Event) → OfOther key event → OfOther key (if_on own key event)
        on key own event off = by (same_key own key)
          where
            by : (b : Bool) → OfOther key (if b then event else rests)
            by true = off
            by false = refl

        granted_other : (key : List ℕ) (o : Option Request) → first (is_granted s.lqh.locks) s.lqh.waiting ≡ o
            → is_of tx (of_first o) ≡ false → OfOther key (serves_if key s.lqh o)
        granted_other key None is off = refl
        granted_other key (Some q) is off = by (same_key (work_key q.work) key) refl
          where
            by : (b : Bool) → same_key (work_key q.work) key ≡ b
                → OfOther key (if b then serves (is_refused (storage_of s.lqh) q) else rests)
            by true here =
                ap (λ o. is_of tx (of_first o))
                (first_here s.lqh key s.lqh.waiting q is (index.same (work_key q.work) key here)) ∙ off
            by false away = refl

        expired_other : (key : List ℕ) (o : Option (TxId × List ℕ)) → OfOther key (expires_if key o)
        expired_other key None = refl
        expired_other key (Some wait) = on key wait.1 (expires wait.0) refl

        -- no request of the transaction is taken, or is the first that is granted
        abbrev IsAside : Body → Type 0
        IsAside (Chain (LqhKeyReq v w chain place)) = same_tx v tx ≡ false
        IsAside (Host (Continue work.Granted n)) =
            is_of tx (of_first (first (is_granted s.lqh.locks) s.lqh.waiting)) ≡ false
        IsAside body = Unit {0}

        other_at : (key : List ℕ) (body : Body) → x.body ≡ body → IsAside body → OfOther key (event_at key s.lqh body)
        other_at key (Chain (LqhKeyReq v w chain place)) is off =
            on key (work_key w)
            (asks (record { tx = v; work = w; chain = chain; at = place })
            (is_refused (storage_of s.lqh) (record { tx = v; work = w; chain = chain; at = place }))) off
        other_at key (Chain (Commit v own epoch chain place)) is off =
            on key own (makes_so v (place == 0)) (uncommitted v own epoch chain place is)
        other_at key (Chain (Complete v own chain place)) is off =
            on key own (ends v) (uncompleted v own chain place is)
        other_at key (Chain (Abort v own)) is off = on key own (gives_up v) (unaborted v own is)
        other_at key (Host (Continue work.Granted n)) is off =
            granted_other key (first (is_granted s.lqh.locks) s.lqh.waiting) refl off
        other_at key (Host Round) is off = refl
        other_at key (Host (Continue work.Expired n)) is off = expired_other key (expired s.lqh.locks)
        other_at key body is off = refl

        -- so what the rows do isn't of it
        aside : (body : Body) → x.body ≡ body → IsAside body → Now
        aside body is off =
            by_what_it_does
            (aside_does start all e es follows xs left transit takes same tx u hale led me there at s between which
            taken (λ key. by key (under_is key s x)))
          where
            by : (key : List ℕ) → (event_under key s x ≡ rests) ⊎ (event_under key s x ≡ event_at key s.lqh x.body)
                → OfOther key (event_under key s x)
            by key (inl none) = subst (OfOther key) (sym none) refl
            by key (inr event) =
                subst (OfOther key) (sym (event ∙ ap (event_at key s.lqh) is)) (other_at key body is off)

        -- the wait was of an older view
        stale : (n : ℕ) → x.body ≡ Host (Continue work.Granted n) → is_stale s x ≡ true → Now
        stale n is old_view =
            by_what_it_does
            (aside_does start all e es follows xs left transit takes same tx u hale led me there at s between which
            taken (λ key. subst (OfOther key)
            (sym (ap (event_by key s x) is ∙ ap (λ b. event_if (event_at key s.lqh x.body) b) old_view)) refl))

        request : (v : TxId) (w : RowWork) (chain : List Member) (place : ℕ)
            → x.body ≡ Chain (LqhKeyReq v w chain place) → (b : Bool) → same_tx v tx ≡ b → Now
        request v w chain place is true own =
            taken_request_parts start all e es follows xs left transit takes same tx u hale led me there s between which
            taken w chain place (is ∙ (λ i. Chain (LqhKeyReq (same_tx-is v tx own i) w chain place)))
        request v w chain place is false off = aside (Chain (LqhKeyReq v w chain place)) is off

        serving : (n : ℕ) → x.body ≡ Host (Continue work.Granted n) → is_stale s x ≡ false → (o : Option Request)
            → first (is_granted s.lqh.locks) s.lqh.waiting ≡ o → (b : Bool) → is_of tx (of_first o) ≡ b → Now
        serving n is fresh o granted false off =
            aside (Host (Continue work.Granted n)) is (ap (λ o. is_of tx (of_first o)) granted ∙ off)
        serving n is fresh None granted true own = absurd (true≢false (sym own))
        serving n is fresh (Some q) granted true own =
            served_parts start all e es follows xs left transit takes same tx u hale led me there s between which taken
            q (same_tx-is q.tx tx own) n is fresh granted

        granting : (n : ℕ) → x.body ≡ Host (Continue work.Granted n) → (b : Bool) → is_stale s x ≡ b → Now
        granting n is true old_view = stale n is old_view
        granting n is false fresh =
            serving n is fresh (first (is_granted s.lqh.locks) s.lqh.waiting) refl
            (is_of tx (of_first (first (is_granted s.lqh.locks) s.lqh.waiting))) refl

        taken_parts : (body : Body) → x.body ≡ body → Now
        taken_parts (Chain (LqhKeyReq v w chain place)) is = request v w chain place is (same_tx v tx) refl
        taken_parts (Host (Continue work.Granted n)) is = granting n is (is_stale s x) refl
        taken_parts body is = aside body is tt

    pub rows_parts : PartsOf start all e es follows xs left transit takes same tx u
    rows_parts = by (rows_turn start all e es follows.moment me there)
      where
        by : RowsTurn start all e es follows.moment me there → Now
        by (rest_now is quiet stays) =
            by_what_it_does
            (resting_does start all e es follows xs left transit takes same tx u hale led me there at is (quiet at)
            (stays at))
        by (enter_now is quiet) =
            by_what_it_does
            (entering_does start all e es follows xs left transit takes same tx u hale led me there at is (quiet at))
        by (take_now s between which taken) = taken_parts s between which taken x.body refl
