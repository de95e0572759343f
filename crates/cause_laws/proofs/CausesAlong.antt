-- Along every run: each signal that gives a cause tells of one that is in the logs, and so do each transaction that is
-- aborted, each report and each reply.
use Rattle.std.proofs.Common.{◌≡◌, ◌≢◌, ◌⊎◌, ℕ, zero, suc, ◌%◌, Bool, true, false, List, [], ◌∷◌, refl, sym, ap, ◌∙◌}
use Rattle.std.proofs.Common.{subst, inl, inr}
use Rattle.std.proofs.lemmas.Bool.{true≢false}
use Rattle.std.specs.List.{list_any}
use Rattle.run_theory.proofs.EventCases.{event_cases, event_each, event_own}
use Rattle.run_theory.proofs.Orders.{each_next}
use Rattle.run_theory.proofs.Pasts.{each_append, each_from, each_in, each_map, past_self}
use Rattle.run_theory.proofs.Runs.{log_of-past}
use Rattle.run_theory.specs.Lists.{Each, IsIn, IsPast}
use Rattle.sig_core.specs.declared.mark.Mark.{Mark}
use Rattle.sig_core.specs.declared.mark.Mark.TheVariants.{Expired, Reported}
use Rattle.sig_core.specs.declared.member.TxId.{TxId}
use Rattle.sig_core.specs.declared.outcome.AbortCause.{AbortCause}
use Rattle.sig_core.specs.declared.outcome.AbortCause.TheVariants as cause
use Rattle.sig_core.specs.declared.outcome.Outcome.TheVariants as outcome
use Rattle.sig_core.specs.declared.outs.Outgoing.{Outgoing}
use Rattle.sig_core.specs.declared.member.Member.{Member}
use Rattle.sig_core.specs.declared.place.Part.{Part}
use Rattle.sig_core.specs.declared.place.Part.TheVariants as part
use Rattle.sig_core.specs.declared.place.Place.{Place}
use Rattle.sig_core.specs.declared.reply.ApiReply.{ApiReply}
use Rattle.sig_core.specs.declared.reply.ApiReply.TheVariants.{Ended, Refused}
use Rattle.sig_core.specs.declared.reply.Refusal.TheVariants.{TooManyOpen}
use Rattle.sig_core.specs.declared.signal.Body.{Body}
use Rattle.sig_core.specs.declared.signal.Body.TheVariants.{Chain, Client}
use Rattle.sig_core.specs.declared.signal.chain.ChainSignal.TheVariants.{LqhKeyRef}
use Rattle.sig_core.specs.declared.signal.client.ClientSignal.TheVariants.{TcBeginRef, TcRollbackRep, TcRollbackReq}
use Rattle.sig_core.specs.declared.signal.Signal.{Signal}
use Rattle.sig_core.specs.Place.{coordinator_of}
use Rattle.sig_core.specs.Same.{same_tx}
use Rattle.sig_core.specs.Step.{Effects, Step, to_place}
use Rattle.frag_map.specs.Layout.{first_layout}
use Rattle.api_block.specs.State.{ApiState}
use Rattle.lqh_block.proofs.EachLqh.{lqh_marks_each}
use Rattle.lqh_block.specs.Lqh.{lqh_table}
use Rattle.lqh_block.specs.Storage.{refusal}
use Rattle.tc_block.specs.declared.phase.Phase.{Phase}
use Rattle.tc_block.specs.declared.phase.Phase.TheVariants.{Aborting, Open}
use Rattle.tc_block.specs.declared.transaction.Transaction.{Transaction}
use Rattle.tc_block.specs.Phases.{is_aborting}
use Rattle.tc_block.specs.State.{TcState}
use Rattle.node_core.proofs.HostCases.{BlockCase, IsApiStep, IsRowsStep, IsTcStep, api_step, api_takes, block_case}
use Rattle.node_core.proofs.HostCases.{dih_takes, each_mark, none_takes, rows_take, tc_step, tc_takes}
use Rattle.node_core.specs.Blocks.{api_of, dih_of, has_api, has_tc, lqh_of, tc_of}
use Rattle.node_core.specs.declared.host.Host.{Host}
use Rattle.node_core.specs.Dih.{DihState, dih_table}
use Rattle.node_core.proofs.DihForms.{dih_marks_each}
use Rattle.node_core.specs.Fresh.{fresh_part, fresh_shell}
use Rattle.node_core.specs.Requests.{is_request}
use Rattle.node_core.specs.Row.{row}
use Rattle.world_core.proofs.HostNumbers.{api_found}
use Rattle.world_core.specs.Hosts.{home, member_at, part_by, started}
use Rattle.world_core.specs.Machine.{after, machine, signals_of, step_after}
use Rattle.world_core.specs.Start.{Start, made}
use Rattle.world_core.specs.Steps.{Addressed, HostStep}
use Rattle.host_laws.specs.Ways.{back_by, sent_ways, way_of}
use Rattle.host_laws.proofs.hosts.BlocksAlong.{first_live}
use Rattle.host_laws.proofs.hosts.DihSends.{dih_kinds}
use Rattle.host_laws.proofs.coordinator.OneWay.{back_aborting}
use Rattle.host_laws.proofs.hosts.SendKinds.{each_of, is_dih_kind}
use Rattle.host_laws.proofs.coordinator.Lives.{IsOwn}
use Rattle.host_laws.proofs.coordinator.Marks.{tc_marks}
use Rattle.run_laws.specs.GivenUp.{is_given_up}
use Rattle.run_laws.specs.Transit.{AreInTransit, Comes, IsRun, Takes, joined, logs_of}
use Rattle.run_laws.proofs.hosts.HomeSteps.{all_home, own_home}
use Rattle.run_laws.proofs.transit.Transit.{along_transit}
use Rattle.run_laws.proofs.ways.Ways.{IsTold, given_more, taken_told}
use Rattle.run_laws.proofs.transit.Weighing.{each_between, each_joins, each_taken}
use Rattle.cause_laws.specs.Causes.{IsCaused, IsRefused, IsWish, IsWished}
use Rattle.cause_laws.specs.Reasons.{IsReason}
use Rattle.cause_laws.specs.TurnedAway.{IsReplyCaused, IsToldBy, IsTurnedAway}
use Rattle.cause_laws.specs.Waited.{IsOverAfter}
use Rattle.cause_laws.proofs.ApiReplies.{ApiTells, IsMarkedBy, api_fine}
use Rattle.cause_laws.proofs.CausesGrow.{away_more, caused_more, reply_more, wished_more}
use Rattle.cause_laws.proofs.RowReasons.{RowTells, rows_tell}
use Rattle.cause_laws.proofs.TcBegins.{BeginTells, begins_tell}
use Rattle.cause_laws.proofs.TcCauses.{AllCaused, IsAbortedFor, TcTells, TellsTc, tc_caused}
use Rattle.cause_laws.proofs.Waited.{take_eight_rounds}

module _ (start : Start) where
  abbrev pub Caused : (ℕ → List HostStep) → TxId → AbortCause → Type 0
  Caused logs tx why = IsCaused start logs (logs 0) tx why

  -- what a refusal tells: of its cause, and where that is that the transaction is aborted, that its coordinator has
  -- given it up
  abbrev RefusalTells : (ℕ → List HostStep) → TxId → AbortCause → Type 0
  RefusalTells logs tx cause.Request = is_given_up start logs tx ≡ true
  RefusalTells logs tx why = Caused logs tx why

  -- what a signal tells of the logs
  abbrev pub Tells : (ℕ → List HostStep) → Body → Type 0
  Tells logs (Client (TcRollbackReq tx)) = IsWished start (logs 0) tx
  Tells logs (Client (TcRollbackRep tx why)) = Caused logs tx why
  Tells logs (Client (TcBeginRef name)) = IsTurnedAway start logs name
  Tells logs (Chain (LqhKeyRef tx key why)) = RefusalTells logs tx why
  Tells logs other = Unit {0}

  -- and what a mark does, behind this log of the shell's host
  abbrev pub IsMarkCaused : (ℕ → List HostStep) → List HostStep → Mark → Type 0
  IsMarkCaused logs before (Reported tx (outcome.Aborted why)) = IsCaused start logs before tx why
  IsMarkCaused logs before other = Unit {0}

  abbrev pub AreMarksCaused : (ℕ → List HostStep) → List HostStep → Type 0
  AreMarksCaused logs [] = Unit {0}
  AreMarksCaused logs (e ∷ before) = Each (IsMarkCaused logs before) e.step.marks × AreMarksCaused logs before

  -- what was taken, who is aborted, what is marked and what is replied tells of causes in these logs
  pub record AllTell (logs : ℕ → List HostStep) : Type 0 where
    pub taken : (h : ℕ) → Each (λ (e : HostStep). Tells logs e.step.taken.body) (logs h)
    pub live : (h : ℕ) → AllCaused (Caused logs) (tc_of (after start h (logs h))).live
    pub marks : AreMarksCaused logs (logs 0)
    pub replies : (h : ℕ) → Each (IsReplyCaused start logs) (api_of (after start h (logs h))).replies

  record Holds (logs : ℕ → List HostStep) (xs : List Addressed) : Type 0 where
    all : AllTell logs
    signals : Each (λ (x : Addressed). Tells logs x.signal.body) xs

  request_tells : (logs : ℕ → List HostStep) (b : Body) → is_request b ≡ true → Tells logs b
  request_tells logs (Client (TcRollbackReq tx)) is = absurd cc
  request_tells logs (Client (TcRollbackRep tx why)) is = absurd cc
  request_tells logs (Client (TcBeginRef name)) is = absurd cc
  request_tells logs (Chain (LqhKeyRef tx key why)) is = absurd cc
  request_tells logs _ is = tt

  dih_tells : (logs : ℕ → List HostStep) (b : Body) → is_dih_kind b ≡ true → Tells logs b
  dih_tells logs (Client (TcRollbackReq tx)) is = absurd cc
  dih_tells logs (Client (TcRollbackRep tx why)) is = absurd cc
  dih_tells logs (Client (TcBeginRef name)) is = absurd cc
  dih_tells logs (Chain (LqhKeyRef tx key why)) is = absurd cc
  dih_tells logs _ is = tt

  -- the block of epochs marks no report
  dih_caused : (logs : ℕ → List HostStep) (before : List HostStep) (s : DihState) (b : Body)
      → Each (IsMarkCaused logs before) (dih_table s b).effects.marks
  dih_caused logs before s b = dih_marks_each (IsMarkCaused logs before) s b (λ tx ops is. tt)

  rows_caused : (logs : ℕ → List HostStep) (before : List HostStep) (g : Host) (b : Body)
      → Each (IsMarkCaused logs before) (lqh_table (lqh_of g) b).effects.marks
  rows_caused logs before g b = lqh_marks_each (IsMarkCaused logs before) (lqh_of g) b (record {
    prepared = λ tx key. tt;
    applied = λ tx key epoch chain at committed is first there. tt;
    completed = λ tx key chain at is. tt;
    given_up = λ tx key is there. tt;
    expired = λ tx key. tt;
  })

  module _ (small large : ℕ → List HostStep) (past : (h : ℕ) → IsPast (small h) (large h)) where
    own_more : (tx : TxId) (why : AbortCause) → Caused small tx why → Caused large tx why
    own_more tx why is = caused_more start small large past (small 0) (large 0) (past 0) tx why is

    refusal_more : (tx : TxId) (why : AbortCause) → RefusalTells small tx why → RefusalTells large tx why
    refusal_more tx cause.Request is = given_more start small large tx past is
    refusal_more tx (cause.NodeFail view) is = is
    refusal_more tx cause.Down is = is
    refusal_more tx (cause.LogFull used reserved need) is = own_more tx (cause.LogFull used reserved need) is
    refusal_more tx (cause.TableFull rows) is = own_more tx (cause.TableFull rows) is
    refusal_more tx cause.Timeout is = own_more tx cause.Timeout is

    tells_more : (b : Body) → Tells small b → Tells large b
    tells_more (Client (TcRollbackReq tx)) is = wished_more start (small 0) (large 0) tx (past 0) is
    tells_more (Client (TcRollbackRep tx why)) is = own_more tx why is
    tells_more (Client (TcBeginRef name)) is = away_more start small large past name is
    tells_more (Chain (LqhKeyRef tx key why)) is = refusal_more tx why is
    tells_more _ is = tt

    mark_more : (before : List HostStep) (m : Mark) → IsMarkCaused small before m → IsMarkCaused large before m
    mark_more before (Reported tx (outcome.Aborted why)) is =
        caused_more start small large past before before (past_self before) tx why is
    mark_more before _ is = tt

    marks_more : (log : List HostStep) → AreMarksCaused small log → AreMarksCaused large log
    marks_more [] all = tt
    marks_more (e ∷ before) all = (
      each_map (IsMarkCaused small before) (IsMarkCaused large before) e.step.marks (mark_more before) all.0,
      marks_more before all.1,
    )

    live_more : (live : List (TxId × Transaction)) → AllCaused (Caused small) live → AllCaused (Caused large) live
    live_more live all =
        each_map (λ (e : TxId × Transaction). IsAbortedFor (Caused small) e.0 e.1.phase)
        (λ (e : TxId × Transaction). IsAbortedFor (Caused large) e.0 e.1.phase) live (λ e is. by e.0 e.1.phase is) all
      where
        by : (tx : TxId) (phase : Phase) → IsAbortedFor (Caused small) tx phase → IsAbortedFor (Caused large) tx phase
        by tx (Aborting why verifying awaited) is = own_more tx why is
        by tx _ is = tt

    replies_more : (replies : List ApiReply) → Each (IsReplyCaused start small) replies
        → Each (IsReplyCaused start large) replies
    replies_more replies all =
        each_map (IsReplyCaused start small) (IsReplyCaused start large) replies (reply_more start small large past) all

  module _ (es : List HostStep) (e : HostStep) (before between : List Addressed) (come : Comes start es e)
      (transit : AreInTransit start es before) (held : Holds (logs_of start es) before)
      (takes : Takes e before between) where
    abbrev h : ℕ
    h = e.host

    abbrev old : ℕ → List HostStep
    old = logs_of start es

    abbrev now : ℕ → List HostStep
    now = logs_of start (e ∷ es)

    abbrev g : Host
    g = after start h (old h)

    abbrev x : Signal
    x = e.step.taken

    past : (k : ℕ) → IsPast (old k) (now k)
    past k = log_of-past (machine start) e es k

    -- all that the step sends
    abbrev sends : List Outgoing
    sends = (row g x).effects.sends

    -- the wish for an abort, and the marks of the rows
    abbrev wish_for : TxId → Outgoing
    wish_for tx = to_place (coordinator_of tx) (Client (TcRollbackReq tx))

    abbrev row_marks : List Mark
    row_marks = (lqh_table (lqh_of g) x.body).effects.marks

    -- this step, in the logs
    inside : IsPast (e ∷ old h) (now h)
    inside = event_own (machine start) e es (λ k. IsPast (e ∷ old h)) h refl (past_self (e ∷ old h))

    old_told : Tells old x.body
    old_told = by (is_request x.body) refl
      where
        by : (b : Bool) → is_request x.body ≡ b → Tells old x.body
        by true is = request_tells old x.body is
        by false is = each_taken (λ (y : Addressed). Tells old y.signal.body) e before between is takes held.signals

    -- a refusal that an open transaction takes tells of its cause
    open_refused : has_tc g ≡ true → (tx : TxId) (t : Transaction) → IsIn (tx, t) (tc_of g).live → t.phase ≡ Open
        → (why : AbortCause) → RefusalTells old tx why → Caused old tx why
    open_refused runs tx t live begun why told = by why told
      where
        s : TcState
        s = tc_of g

        owned : IsOwn s.node s.next_seq tx
        owned = each_in (λ (v : TxId × Transaction). IsOwn s.node s.next_seq v.0) (tx, t) s.live
            (all_home start tx h (old h)).own live

        its_home : h ≡ home start tx
        its_home = own_home start es e come tx runs owned.home

        kept : is_given_up start old tx ≡ true → ⊥
        kept given =
            let here : list_any (same_tx tx) (sent_ways start back_by h (old h)) ≡ true =
            subst (λ k. list_any (same_tx tx) (sent_ways start back_by k (old k)) ≡ true) (sym its_home) given in
            let aborted : is_aborting t.phase ≡ true =
            each_in (λ (v : TxId × Transaction). list_any (same_tx v.0) (sent_ways start back_by h (old h)) ≡ true
            → is_aborting v.1.phase ≡ true) (tx, t) s.live (back_aborting start h (old h)) live here in
            true≢false (sym aborted ∙ ap is_aborting begun)

        by : (why : AbortCause) → RefusalTells old tx why → Caused old tx why
        by cause.Request told = absurd (kept told)
        by (cause.NodeFail view) told = told
        by cause.Down told = told
        by (cause.LogFull used reserved need) told = told
        by (cause.TableFull rows) told = told
        by cause.Timeout told = told

    tells_tc : has_tc g ≡ true → TellsTc (Caused old) (tc_of g) x.body
    tells_tc runs = record {
      refused = λ tx key why t is live begun. open_refused runs tx t live begun why (subst (Tells old) is old_told);
      wished = λ tx is. subst (Tells old) is old_told;
    }

    -- what each block sends
    wish_told : has_api g ≡ true → (tx : TxId) → IsIn (wish_for tx) sends → IsWish (api_of g) x.body tx
        → IsWished start (now 0) tx
    wish_told runs tx among wish = by (api_found start h (old h) runs)
      where
        IsHere : ℕ → Type 0
        IsHere k =
            IsPast (e ∷ old k) (now k) × (IsWish (api_of (after start k (old k))) x.body tx
            × IsIn (wish_for tx) (step_after start k (old k) e).effects.sends)

        by : h ≡ 0 → IsWished start (now 0) tx
        by at =
            let here : IsHere 0 = subst IsHere at (inside, (wish, among)) in
            record { step = e; before = old 0; inside = here.0; asked = here.1.0; sent = here.1.1 }

    api_told : has_api g ≡ true → (to : Place) (b : Body) → IsIn (to_place to b) sends
        → ApiTells (api_of g) x.body to b → Tells now b
    api_told runs to (Client (TcRollbackReq tx)) among told =
        wish_told runs tx (subst (λ p. IsIn (to_place p (Client (TcRollbackReq tx))) sends) told.0 among) told.1
    api_told runs to (Client (TcRollbackRep tx why)) among told = absurd told
    api_told runs to (Client (TcBeginRef name)) among told = absurd told
    api_told runs to (Chain (LqhKeyRef tx key why)) among told = absurd told
    api_told runs to _ among told = tt

    tc_told : has_tc g ≡ true → (to : Place) (b : Body) → IsIn (to_place to b) sends
        → TcTells (Caused old) b → BeginTells (tc_of g) x.body to b → Tells now b
    tc_told runs to (Client (TcRollbackReq tx)) among told begun = absurd told
    tc_told runs to (Client (TcRollbackRep tx why)) among told begun = own_more old now past tx why told
    tc_told runs to (Client (TcBeginRef name)) among told begun = record {
      host = h;
      step = e;
      before = old h;
      inside = inside;
      runs = runs;
      asked = begun.1.0;
      many = begun.1.1;
      sent = subst (λ p. IsIn (to_place p (Client (TcBeginRef name))) sends) begun.0 among;
    }
    tc_told runs to (Chain (LqhKeyRef tx key why)) among told begun = absurd told
    tc_told runs to _ among told begun = tt

    row_refused : IsRowsStep g x (row g x) → (tx : TxId) (key : List ℕ) (why : AbortCause)
        → IsIn (refusal tx key why) sends → IsReason (lqh_of g) x.body row_marks tx key why → RefusalTells now tx why
    row_refused step tx key why among reason = by why among reason
      where
        marked : e.step.marks ≡ row_marks
        marked = come.happens.step.fits.marks ∙ ap (λ f. f.marks) step.effects

        refused : (cause : AbortCause) → IsIn (refusal tx key cause) sends
            → IsReason (lqh_of g) x.body row_marks tx key cause → IsRefused start now tx cause
        refused cause among reason = record {
          host = h;
          step = e;
          before = old h;
          inside = inside;
          runs = step.runs;
          key = key;
          sent = among;
          reason = subst (λ ms. IsReason (lqh_of g) x.body ms tx key cause) (sym marked) reason;
        }

        by : (why : AbortCause) → IsIn (refusal tx key why) sends
            → IsReason (lqh_of g) x.body row_marks tx key why → RefusalTells now tx why
        by (cause.LogFull used reserved need) among reason = refused (cause.LogFull used reserved need) among reason
        by (cause.TableFull rows) among reason = refused (cause.TableFull rows) among reason
        by cause.Timeout among reason = record {
          refused = refused cause.Timeout among reason;
          waited = each_in (IsOverAfter (e ∷ old h)) (Expired tx key) (row g x).effects.marks
              (take_eight_rounds start h (old h) e)
              (subst (λ f. IsIn (Expired tx key) f.marks) (sym step.effects) reason.0);
        }
        by cause.Request among reason =
            given_more start old now tx past
            (subst (λ w. IsTold start old w) (ap way_of reason)
            (taken_told start es e before between come transit takes))
        by (cause.NodeFail view) among reason = absurd reason
        by cause.Down among reason = absurd reason

    row_told : IsRowsStep g x (row g x) → (to : Place) (b : Body) → IsIn (to_place to b) sends
        → RowTells (lqh_of g) x.body row_marks to b → Tells now b
    row_told step to (Chain (LqhKeyRef tx key why)) among told =
        row_refused step tx key why
        (subst (λ p. IsIn (to_place p (Chain (LqhKeyRef tx key why))) sends) told.0 among) told.1
    row_told step to (Client (TcRollbackReq tx)) among told = absurd told
    row_told step to (Client (TcRollbackRep tx why)) among told = absurd told
    row_told step to (Client (TcBeginRef name)) among told = absurd told
    row_told step to _ among told = tt

    -- what holds of the effects of a block holds of each signal of the step
    of_step : (P : Outgoing → Type 0) (f : Effects) → (row g x).effects ≡ f → Each P f.sends → (o : Outgoing)
        → IsIn o sends → P o
    of_step P f same all o among =
        each_in P o sends (subst (λ (f : Effects). Each P f.sends) (sym same) all) among

    sends_told : Each (λ (o : Outgoing). Tells now o.body) sends
    sends_told = each_from (λ (o : Outgoing). Tells now o.body) sends (by (block_case g x))
      where
        by : BlockCase g x (row g x) → (o : Outgoing) → IsIn o sends → Tells now o.body
        by (api_takes step) o among =
            api_told step.runs o.to o.body among
            (of_step (λ (o : Outgoing). ApiTells (api_of g) x.body o.to o.body) _ step.effects
            (api_fine (api_of g) x.body).sends o among)
        by (tc_takes step) o among =
            tc_told step.runs o.to o.body among
            (of_step (λ (o : Outgoing). TcTells (Caused old) o.body) _ step.effects
            (tc_caused (Caused old) (tc_of g) x.body (tells_tc step.runs) (held.all.live h)).sends o among)
            (of_step (λ (o : Outgoing). BeginTells (tc_of g) x.body o.to o.body) _ step.effects
            (begins_tell (tc_of g) x.body) o among)
        by (dih_takes step) o among =
            of_step (λ (o : Outgoing). Tells now o.body) _ step.effects
            (each_of is_dih_kind (λ (o : Outgoing). Tells now o.body) (λ o is. dih_tells now o.body is)
            (dih_table (dih_of g) x.body).effects.sends (dih_kinds (dih_of g) x.body)) o among
        by (rows_take step) o among =
            row_told step o.to o.body among
            (of_step (λ (o : Outgoing). RowTells (lqh_of g) x.body row_marks o.to o.body) _ step.effects
            (rows_tell (lqh_of g) x.body).sends o among)
        by (none_takes step) o among =
            absurd (subst (λ (u : Step Host). IsIn o u.effects.sends) step.is among)

    -- who is aborted at each host
    live_now : (k : ℕ) → AllCaused (Caused now) (tc_of (after start k (now k))).live
    live_now =
        event_each (machine start) e es (λ k log. AllCaused (Caused now) (tc_of (after start k log)).live)
        (live_more old now past (tc_of (row g x).state).live (kept (tc_step g x)))
        (λ k off. live_more old now past (tc_of (after start k (old k))).live (held.all.live k))
      where
        kept : IsTcStep g x (row g x) ⊎ (tc_of (row g x).state ≡ tc_of g)
            → AllCaused (Caused old) (tc_of (row g x).state).live
        kept (inl step) =
            subst (λ (s : TcState). AllCaused (Caused old) s.live) (sym step.state)
            (tc_caused (Caused old) (tc_of g) x.body (tells_tc step.runs) (held.all.live h)).live
        kept (inr same) = subst (λ (s : TcState). AllCaused (Caused old) s.live) (sym same) (held.all.live h)

    -- what is replied there
    reply_told : (reply : ApiReply) → IsToldBy x.body reply → IsReplyCaused start now reply
    reply_told (Refused name TooManyOpen) is = away_more start old now past name (subst (Tells old) is old_told)
    reply_told (Ended name (outcome.Aborted why)) is =
        (is.0, own_more old now past is.0 why (subst (Tells old) is.1 old_told))
    reply_told _ is = tt

    replies_now : (k : ℕ) → Each (IsReplyCaused start now) (api_of (after start k (now k))).replies
    replies_now =
        event_each (machine start) e es (λ k log. Each (IsReplyCaused start now) (api_of (after start k log)).replies)
        (kept (api_step g x))
        (λ k off. replies_more old now past (api_of (after start k (old k))).replies (held.all.replies k))
      where
        was : Each (IsReplyCaused start now) (api_of g).replies
        was = replies_more old now past (api_of g).replies (held.all.replies h)

        kept : IsApiStep g x (row g x) ⊎ (api_of (row g x).state ≡ api_of g)
            → Each (IsReplyCaused start now) (api_of (row g x).state).replies
        kept (inl step) =
            let added = (api_fine (api_of g) x.body).replies in
            subst (λ (s : ApiState). Each (IsReplyCaused start now) s.replies) (sym step.state)
            (subst (Each (IsReplyCaused start now)) (sym added.is)
            (each_append (IsReplyCaused start now) (api_of g).replies added.more was
            (each_map (IsToldBy x.body) (IsReplyCaused start now) added.more reply_told added.told)))
        kept (inr same) = subst (λ (s : ApiState). Each (IsReplyCaused start now) s.replies) (sym same) was

    -- and what is marked
    mark_told : (m : Mark) → IsMarkedBy x.body m → IsMarkCaused now (old 0) m
    mark_told (Reported tx (outcome.Aborted why)) is =
        caused_more start old now past (old 0) (old 0) (past_self (old 0)) tx why (subst (Tells old) is old_told)
    mark_told _ is = tt

    step_marks : Each (IsMarkCaused now (old 0)) e.step.marks
    step_marks =
        subst (Each (IsMarkCaused now (old 0))) (sym come.happens.step.fits.marks)
        (each_mark (IsMarkCaused now (old 0)) g x (record {
          api = λ runs at.
              each_map (IsMarkedBy x.body) (IsMarkCaused now (old 0)) _ mark_told (api_fine (api_of g) x.body).marks;
          tc = λ runs at. subst (Each (IsMarkCaused now (old 0))) (sym (tc_marks (tc_of g) x.body)) tt;
          dih = λ runs at. dih_caused now (old 0) (dih_of g) x.body;
          rows = λ runs at. rows_caused now (old 0) g x.body;
        }))

    marks_now : AreMarksCaused now (now 0)
    marks_now =
        event_cases (machine start) e es 0 (AreMarksCaused now) (λ at. (step_marks, was)) (λ off. was)
      where
        was : AreMarksCaused now (old 0)
        was = marks_more old now past (old 0) held.all.marks

    next_holds : Holds now (joined (signals_of start h (old h) e) between)
    next_holds = record {
      all = record {
        taken = λ k. each_next (machine start) (λ (f : HostStep). Tells now f.step.taken.body) es e k
            (tells_more old now past x.body old_told)
            (each_map (λ (f : HostStep). Tells old f.step.taken.body) (λ (f : HostStep). Tells now f.step.taken.body)
            (old k) (λ f is. tells_more old now past f.step.taken.body is) (held.all.taken k));
        live = live_now;
        marks = marks_now;
        replies = replies_now;
      };
      signals = each_joins (λ to body. Tells now body) start h (old h) e between sends_told
          (each_map (λ (y : Addressed). Tells old y.signal.body) (λ (y : Addressed). Tells now y.signal.body) between
          (λ y is. tells_more old now past y.signal.body is)
          (each_between (λ (y : Addressed). Tells old y.signal.body) e before between takes held.signals));
    }

  -- no host begins with replies
  first_replies : (h : ℕ) → (api_of (after start h [])).replies ≡ []
  unfolding started fresh_shell fresh_part
  first_replies zero = refl
  first_replies (suc h) = by (part_by (h % 3)) (member_at (made start) (suc h))
    where
      by : (of : Part) (member : Member)
          → (api_of (fresh_part of member (first_layout start.shape) start.epoch start.rows)).replies ≡ []
      by part.Main member = refl
      by part.Tc member = refl
      by part.Ldm member = refl

  none_hold : Holds (logs_of start []) []
  none_hold = record {
    all = record {
      taken = λ h. tt;
      live = λ h. subst (AllCaused (Caused (logs_of start []))) (sym (first_live start h)) tt;
      marks = tt;
      replies = λ h. subst (Each (IsReplyCaused start (logs_of start []))) (sym (first_replies h)) tt;
    };
    signals = tt;
  }

  -- after every run
  pub all_tell : (es : List HostStep) (xs : List Addressed) → IsRun start es → AreInTransit start es xs
      → AllTell (logs_of start es)
  all_tell es xs run transit =
      (along_transit start (λ es xs. Holds (logs_of start es) xs) none_hold
      (λ es e before between come rest held takes. next_holds es e before between come rest held takes)
      es xs run transit).all
