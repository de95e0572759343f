-- A transaction that is carried out asks for nothing any more, so it is out of each lock that it has let go of.
use Rattle.std.proofs.Common.{◌≡◌, ◌≢◌, ◌⊎◌, ℕ, Bool, true, false, List, [], ◌∷◌, refl, sym, ap, ◌∙◌}
use Rattle.std.proofs.Common.{arith, inl, inr}
use Rattle.std.proofs.lemmas.Bool.{false≢true, or_cases, or_left, or_right, true≢false}
use Rattle.std.specs.Prelude.{◌==◌, ◌||◌, if◌then◌else◌, Option, None, Some}
use Rattle.run_theory.proofs.EventCases.{event_cases}
use Rattle.run_theory.proofs.Runs.{log_of-past}
use Rattle.sig_core.specs.declared.member.TxId.{TxId}
use Rattle.sig_core.specs.declared.signal.Body.{Body}
use Rattle.sig_core.specs.declared.signal.Body.TheVariants.{Host, Chain}
use Rattle.sig_core.specs.declared.signal.chain.ChainSignal.TheVariants.{LqhKeyReq, Commit, Complete, Abort}
use Rattle.sig_core.specs.declared.signal.host.HostSignal.TheVariants.{Round, Continue}
use Rattle.sig_core.specs.declared.signal.host.Work.TheVariants as work
use Rattle.sig_core.specs.Firsts.{first}
use Rattle.sig_core.specs.Same.{same_key, same_tx}
use Rattle.sig_core.specs.Work.{work_key}
use Rattle.row_locks.specs.Rounds.{expired}
use Rattle.lqh_block.specs.declared.request.Request.{Request}
use Rattle.lqh_block.specs.Operate.{is_granted}
use Rattle.lqh_block.specs.State.{LqhState, storage_of}
use Rattle.node_core.specs.Blocks.{lqh_of}
use Rattle.node_core.specs.Requests.{is_request}
use Rattle.node_core.specs.Row.{row}
use Rattle.world_core.specs.Machine.{after, machine}
use Rattle.world_core.specs.Start.{Start}
use Rattle.world_core.specs.Steps.{Addressed, HostStep}
use Rattle.key_laws.specs.PrimaryEvents.{AtPrimary, ended_after}
use Rattle.key_laws.specs.Replica.{Event, aborts, ages, asks, commits, completes, event_at, expires}
use Rattle.key_laws.specs.Replica.{expires_if, if_on, is_refused, rests, serves, serves_if}
use Rattle.host_laws.specs.ReplicaLaws.{event_in}
use Rattle.run_laws.specs.Circle.{primary_along}
use Rattle.run_laws.specs.GivenUp.{is_carried_out, is_given_up}
use Rattle.run_laws.specs.Tokens.{is_token, tokens_in}
use Rattle.run_laws.specs.Transit.{Comes, IsRun, logs_of}
use Rattle.run_laws.proofs.ways.GivenUp.{none_is_both}
use Rattle.run_laws.proofs.circle.RowsEvents.{EventCase, event_case, no_event, of_rows}
use Rattle.run_laws.proofs.transit.Transit.{comes, earlier}
use Rattle.run_laws.proofs.transit.Runs.{taking}
use Rattle.run_laws.proofs.causes.Undecided.{carried_out_have_none}
use Rattle.run_laws.proofs.ways.Ways.{given_more}
use Rattle.run_laws.proofs.transit.Weighing.{each_taken, none_passes}
use Rattle.order_laws.specs.Carried.{CarriedOutStayOut}
use Rattle.order_laws.specs.Gone.{gone_by, has_gone}
use Rattle.order_laws.proofs.Gone.{who_has_gone_is_out}
use Rattle.order_laws.proofs.Over.{who_lets_go_is_over}

-- the event is a request of the transaction
abbrev pub is_asked_by : TxId → Event → Bool
is_asked_by tx (asks q refused) = same_tx q.tx tx
is_asked_by tx event = false

module _ (tx : TxId) (key : List ℕ) where
  pub other_off : (own : List ℕ) (event : Event) → is_asked_by tx event ≡ false
      → is_asked_by tx (if_on own key event) ≡ false
  other_off own event off = by (same_key own key)
    where
      by : (b : Bool) → is_asked_by tx (if b then event else rests) ≡ false
      by true = off
      by false = refl

  pub serves_off : (s : LqhState) (o : Option Request) → is_asked_by tx (serves_if key s o) ≡ false
  serves_off s None = refl
  serves_off s (Some q) = other_off (work_key q.work) (serves (is_refused (storage_of s) q)) refl

  pub expires_off : (o : Option (TxId × List ℕ)) → is_asked_by tx (expires_if key o) ≡ false
  expires_off None = refl
  expires_off (Some wait) = other_off wait.1 (expires wait.0) refl

  -- what is no part of an operation of the transaction is no request of it
  rows_off : (s : LqhState) (body : Body) → is_token tx body ≡ false → is_asked_by tx (event_at key s body) ≡ false
  rows_off s (Chain (LqhKeyReq v what chain at)) off =
      other_off (work_key what)
      (asks (record { tx = v; work = what; chain = chain; at = at })
      (is_refused (storage_of s) (record { tx = v; work = what; chain = chain; at = at }))) off
  rows_off s (Host (Continue work.Granted at)) off = serves_off s (first (is_granted s.locks) s.waiting)
  rows_off s (Chain (Commit v own epoch chain at)) off = other_off own (commits v (at == 0)) refl
  rows_off s (Chain (Complete v own chain at)) off = other_off own (completes v) refl
  rows_off s (Chain (Abort v own)) off = other_off own (aborts v) refl
  rows_off s (Host Round) off = refl
  rows_off s (Host (Continue work.Expired at)) off = expires_off (expired s.locks)
  rows_off s _ off = refl

  -- an event by which it lets go, or another one but its request where it has gone already
  gone_still : (event : Event) (p : AtPrimary) (was : Bool) → (p.ended tx ≡ true → was ≡ true)
      → (p.ended tx ≡ true → is_asked_by tx event ≡ false) → ended_after event p tx ≡ true
      → gone_by tx event was ≡ true
  gone_still event p was before off = by event off
    where
      ends : (v : TxId) → (same_tx v tx ≡ true) ⊎ (p.ended tx ≡ true) → (same_tx v tx || was) ≡ true
      ends v (inl own) = or_left (same_tx v tx) was own
      ends v (inr gone) = or_right (same_tx v tx) was (before gone)

      by : (event : Event) → (p.ended tx ≡ true → is_asked_by tx event ≡ false) → ended_after event p tx ≡ true
          → gone_by tx event was ≡ true
      by rests off is = before is
      by (asks q refused) off is = ap (λ b. if b then false else was) (off is) ∙ before is
      by (serves refused) off is = before is
      by (commits v true) off is = ends v (or_cases (same_tx v tx) (p.ended tx) is)
      by (commits v false) off is = before is
      by (completes v) off is = ends v (or_cases (same_tx v tx) (p.ended tx) is)
      by (aborts v) off is = ends v (or_cases (same_tx v tx) (p.ended tx) is)
      by (expires v) off is = before is
      by (ages wait) off is = before is

  module _ (start : Start) where
    -- no part of an operation of one that is carried out comes
    request_plain : (body : Body) → is_request body ≡ true → is_token tx body ≡ false
    request_plain (Chain c) is = absurd (false≢true is)
    request_plain _ is = refl

    none_comes : (es : List HostStep) (e : HostStep) → Comes start es e
        → is_carried_out start (logs_of start es) tx ≡ true → is_token tx e.step.taken.body ≡ false
    none_comes es e come carried = by (is_request e.step.taken.body) refl
      where
        by : (b : Bool) → is_request e.step.taken.body ≡ b → is_token tx e.step.taken.body ≡ false
        by true is = request_plain e.step.taken.body is
        by false is =
            let t = taking start es e come in
            let none : tokens_in tx t.before ≡ 0 =
            omega (arith, carried_out_have_none start es t.before tx come.before t.transit carried) in
            each_taken (λ (x : Addressed). is_token tx x.signal.body ≡ false) e t.before t.between is t.takes
            (none_passes (λ (x : Addressed). is_token tx x.signal.body) t.before none)

    event_off : (h : ℕ) (log : List HostStep) (e : HostStep) → is_token tx e.step.taken.body ≡ false
        → is_asked_by tx (event_in key (after start h log) e.step.taken) ≡ false
    event_off h log e off = by (event_case key (after start h log) e.step.taken)
      where
        by : EventCase key (after start h log) e.step.taken (row (after start h log) e.step.taken)
            → is_asked_by tx (event_in key (after start h log) e.step.taken) ≡ false
        by (of_rows step is) = ap (is_asked_by tx) is ∙ rows_off (lqh_of (after start h log)) e.step.taken.body off
        by (no_event is) = ap (is_asked_by tx) is

    gone_along : (h : ℕ) (es : List HostStep) → IsRun start es → is_carried_out start (logs_of start es) tx ≡ true
        → (primary_along start h key (logs_of start es h)).ended tx ≡ true
        → has_gone start key tx h (logs_of start es h) ≡ true
    gone_along h [] run carried is = absurd (false≢true is)
    gone_along h (e ∷ es) run carried is =
        let before = gone_along h es before_run in
        event_cases (machine start) e es h
        (λ l. (primary_along start h key l).ended tx ≡ true → has_gone start key tx h l ≡ true)
        (λ at. gone_still (event_in key (after start h log) e.step.taken) p (has_gone start key tx h log)
        (λ had. before (carried_before had) had)
        (λ had. event_off h log e (none_comes es e (comes start es e run) (carried_before had))))
        (λ off had. before (carried_before had) had) is
      where
        before_run : IsRun start es
        before_run = earlier start es e run

        log : List HostStep
        log = logs_of start es h

        p : AtPrimary
        p = primary_along start h key log

        -- who had let go was carried out already, since it isn't given up
        carried_before : p.ended tx ≡ true → is_carried_out start (logs_of start es) tx ≡ true
        carried_before had = which (who_lets_go_is_over start es key h tx before_run had)
          where
            which : (is_given_up start (logs_of start es) tx ≡ true)
                ⊎ (is_carried_out start (logs_of start es) tx ≡ true)
                → is_carried_out start (logs_of start es) tx ≡ true
            which (inl given) =
                let now = given_more start (logs_of start es) (logs_of start (e ∷ es)) tx
                (λ h. log_of-past (machine start) e es h) given in
                absurd (true≢false (sym now ∙ none_is_both start (logs_of start (e ∷ es)) tx carried))
            which (inr was) = was

pub carried_out_stay_out : CarriedOutStayOut
carried_out_stay_out start es key h tx run carried is =
    who_has_gone_is_out start key tx h (logs_of start es h) (gone_along tx key start h es run carried is)
