-- Who has come to a key and not let go of it since has touched the key at its coordinator.
use Rattle.std.proofs.Common.{◌≡◌, ◌≢◌, ◌⊎◌, ◌<◌, ℕ, Bool, true, false, List, [], ◌∷◌, refl, sym, ap, ◌∙◌}
use Rattle.std.proofs.Common.{subst, arith, inl, inr}
use Rattle.std.proofs.lemmas.Bool.{false≢true, or_right, true≢false}
use Rattle.std.specs.Prelude.{◌==◌, ◌&&◌, if◌then◌else◌, Option, None, Some}
use Rattle.run_theory.proofs.EventCases.{event_cases, event_keeps}
use Rattle.run_theory.specs.Counts.{one_if, tally}
use Rattle.sig_core.specs.declared.member.TxId.{TxId}
use Rattle.sig_core.specs.declared.op.Answer.{Answer}
use Rattle.sig_core.specs.declared.op.Answer.TheVariants as answer
use Rattle.sig_core.specs.declared.outcome.AbortCause.{AbortCause}
use Rattle.sig_core.specs.declared.signal.Body.{Body}
use Rattle.sig_core.specs.declared.signal.Body.TheVariants.{Host, Chain}
use Rattle.sig_core.specs.declared.signal.chain.ChainSignal.TheVariants.{LqhKeyReq, Commit, Complete, Abort}
use Rattle.sig_core.specs.declared.signal.host.HostSignal.TheVariants.{Round, Continue}
use Rattle.sig_core.specs.declared.signal.host.Work.TheVariants as work
use Rattle.sig_core.specs.Firsts.{first}
use Rattle.sig_core.specs.Op.{key_of}
use Rattle.sig_core.specs.Same.{same_key, same_tx}
use Rattle.sig_core.specs.Work.{work_key}
use Rattle.frag_map.specs.Layout.{Layout}
use Rattle.row_locks.specs.Rounds.{expired}
use Rattle.row_records.proofs.KeyLemmas as keys
use Rattle.lqh_block.specs.declared.request.Request.{Request}
use Rattle.lqh_block.specs.Operate.{is_granted}
use Rattle.lqh_block.specs.State.{LqhState, storage_of}
use Rattle.tc_block.proofs.EachTurn.{AbortForms, CommittedForms, TurnForms, rows_of}
use Rattle.tc_block.proofs.TurnRows.{turn_for}
use Rattle.tc_block.specs.declared.phase.Asked.{Asked}
use Rattle.tc_block.specs.declared.transaction.Transaction.{Transaction}
use Rattle.tc_block.specs.Operate.{touched_after}
use Rattle.tc_block.specs.Sends.{entering}
use Rattle.tc_block.specs.State.{TcState}
use Rattle.tc_block.specs.Turn.{Turn, asking}
use Rattle.node_core.specs.Blocks.{lqh_of, tc_of}
use Rattle.node_core.specs.declared.host.Host as host
use Rattle.node_core.specs.Requests.{is_request}
use Rattle.node_core.specs.Row.{row}
use Rattle.world_core.specs.Hosts.{home}
use Rattle.world_core.specs.Machine.{after, machine}
use Rattle.world_core.specs.Start.{Start}
use Rattle.world_core.specs.Steps.{Addressed, HostStep}
use Rattle.key_laws.specs.Replica.{Event, Replica, aborts, ages, asks, commits, completes, event_at, expires}
use Rattle.key_laws.specs.Replica.{is_refused, rests, serves}
use Rattle.host_laws.proofs.coordinator.OfLive.{each_found}
use Rattle.host_laws.proofs.rows.Replicas.{logs_follow}
use Rattle.host_laws.proofs.coordinator.Lives.{IsOwn}
use Rattle.host_laws.proofs.coordinator.Steps.{left_of_turn}
use Rattle.host_laws.specs.Live.{of_live}
use Rattle.host_laws.specs.ReplicaLaws.{event_in, key_in}
use Rattle.host_laws.specs.Ways.{back_by, sent_ways}
use Rattle.run_laws.specs.Keyed.{HasTouched, HasTouchedAsked}
use Rattle.run_laws.specs.Live.{live_at, of_host}
use Rattle.run_laws.specs.Routes.{replica_host}
use Rattle.run_laws.specs.Transit.{Comes, IsRun, logs_of}
use Rattle.run_laws.proofs.hosts.HomeSteps.{IsHome, all_home, here_now, here_was, own_home, live_leaves}
use Rattle.run_laws.proofs.hosts.LiveOf.{of_each}
use Rattle.run_laws.proofs.circle.RowsEvents.{EventCase, event_case, no_event, of_rows}
use Rattle.run_laws.proofs.hosts.TcSound.{log_sound}
use Rattle.run_laws.proofs.tokens.Coordinator.{IsOwned}
use Rattle.run_laws.proofs.tokens.TouchedLists.{touch_more, write_touched}
use Rattle.run_laws.proofs.transit.Transit.{comes, earlier}
use Rattle.run_laws.proofs.transit.Runs.{taking}
use Rattle.run_laws.proofs.hosts.TxSteps.{next_number, number_rises}
use Rattle.run_laws.proofs.hosts.TxTurns.{is_for as is_for_tx, turn_each}
use Rattle.run_laws.proofs.transit.Weighing.{each_taken, none_passes}
use Rattle.order_laws.specs.Gone.{gone_by}
use Rattle.order_laws.specs.Standing.{WhoIsAwayIsOut, is_away}
use Rattle.order_laws.specs.Unanswered.{asks_on, is_on_key, is_part_on}
use Rattle.order_laws.proofs.Attended.{first_idle}
use Rattle.order_laws.proofs.Awaited as fare
use Rattle.order_laws.proofs.Awaited.{Fares, fares}
use Rattle.order_laws.proofs.Carried.{expires_off, is_asked_by, other_off, serves_off}
use Rattle.order_laws.proofs.Gone.{IsAwayFrom, away_after, not_true}
use Rattle.order_laws.proofs.Unanswered.{parts_are_unanswered}

-- who is away at a place of a chain is out of its lock
pub who_is_away_is_out : WhoIsAwayIsOut
who_is_away_is_out start es key at tx run inside is =
    let off = along (logs_of start es (replica_host start key at)) is in
    record { unheld = not_true _ off.unheld; unwaited = not_true _ off.unwaited }
  where
    h : ℕ
    h = replica_host start key at

    along : (log : List HostStep) → is_away start key tx (replica_host start key at) log ≡ true
        → IsAwayFrom tx (key_in key (after start (replica_host start key at) log)).lock
    along [] is =
        subst (IsAwayFrom tx) (sym (first_idle start key at run.shape inside))
        (record { unheld = λ held. false≢true held; unwaited = λ waits. false≢true waits })
    along (e ∷ log) is =
        subst (λ (r : Replica). IsAwayFrom tx r.lock) (sym (logs_follow start h log e key))
        (away_after tx (event_in key (after start h log) e.step.taken) (key_in key (after start h log))
        (is_away start key tx h log) (along log) is)

module _ (tx : TxId) (key : List ℕ) where
  -- what is no part of an operation of it on the key is no request of it there
  rows_off : (s : LqhState) (body : Body) → is_part_on tx key body ≡ false
      → is_asked_by tx (event_at key s body) ≡ false
  rows_off s (Chain (LqhKeyReq v what chain at)) off = by (same_key (work_key what) key) off
    where
      q : Request
      q = record { tx = v; work = what; chain = chain; at = at }

      alone : (a : Bool) → (a && true) ≡ false → a ≡ false
      alone true off = off
      alone false off = refl

      by : (b : Bool) → (same_tx v tx && b) ≡ false
          → is_asked_by tx (if b then asks q (is_refused (storage_of s) q) else rests) ≡ false
      by true off = alone (same_tx v tx) off
      by false off = refl
  rows_off s (Host (Continue work.Granted at)) off = serves_off tx key s (first (is_granted s.locks) s.waiting)
  rows_off s (Chain (Commit v own epoch chain at)) off = other_off tx key own (commits v (at == 0)) refl
  rows_off s (Chain (Complete v own chain at)) off = other_off tx key own (completes v) refl
  rows_off s (Chain (Abort v own)) off = other_off tx key own (aborts v) refl
  rows_off s (Host Round) off = refl
  rows_off s (Host (Continue work.Expired at)) off = expires_off tx key (expired s.locks)
  rows_off s _ off = refl

  -- who is away stays so, unless it asks
  stays_away : (event : Event) (was : Bool) → is_asked_by tx event ≡ false → was ≡ true → gone_by tx event was ≡ true
  stays_away rests was off is = is
  stays_away (asks q refused) was off is = ap (λ b. if b then false else was) off ∙ is
  stays_away (serves refused) was off is = is
  stays_away (commits v true) was off is = or_right (same_tx v tx) was is
  stays_away (commits v false) was off is = is
  stays_away (completes v) was off is = or_right (same_tx v tx) was is
  stays_away (aborts v) was off is = or_right (same_tx v tx) was is
  stays_away (expires v) was off is = is
  stays_away (ages wait) was off is = is

  -- where it isn't away after a step it wasn't before, or asks now
  pub came_back : (start : Start) (h : ℕ) (log : List HostStep) (e : HostStep)
      → is_away start key tx h (e ∷ log) ≡ false
      → (is_away start key tx h log ≡ false) ⊎ (is_part_on tx key e.step.taken.body ≡ true)
  came_back start h log e is = by (is_away start key tx h log) refl (is_part_on tx key e.step.taken.body) refl
    where
      off : is_part_on tx key e.step.taken.body ≡ false
          → is_asked_by tx (event_in key (after start h log) e.step.taken) ≡ false
      off none = which (event_case key (after start h log) e.step.taken)
        where
          which : EventCase key (after start h log) e.step.taken (row (after start h log) e.step.taken)
              → is_asked_by tx (event_in key (after start h log) e.step.taken) ≡ false
          which (of_rows step at) =
              ap (is_asked_by tx) at ∙ rows_off (lqh_of (after start h log)) e.step.taken.body none
          which (no_event at) = ap (is_asked_by tx) at

      by : (a : Bool) → is_away start key tx h log ≡ a → (b : Bool) → is_part_on tx key e.step.taken.body ≡ b
          → (is_away start key tx h log ≡ false) ⊎ (is_part_on tx key e.step.taken.body ≡ true)
      by false was b part = inl was
      by true was true part = inr part
      by true was false part =
          absurd (true≢false (sym (stays_away (event_in key (after start h log) e.step.taken)
          (is_away start key tx h log) (off part) was) ∙ is))

  -- what a transaction has touched stays touched
  module _ (node : ℕ) (layout : Layout) (t : Transaction) (has : HasTouched t.touched key) where
    abbrev Still : Turn → Type 0
    Still turn = HasTouched turn.step.state.touched key

    after_answer : (a : Answer) (asked : Asked) → HasTouched (touched_after a t.touched asked.op asked.chain) key
    after_answer answer.Done asked = write_touched t.touched (key_of asked.op) key asked.chain has
    after_answer (answer.Found value) asked = has
    after_answer answer.Missing asked = has
    after_answer answer.E626 asked = has
    after_answer answer.E630 asked = has

    aborts_touched : (u : Transaction) (why : AbortCause) → HasTouched u.touched key
        → AbortForms node layout tx u why Still
    unfolding entering
    aborts_touched u why is = record { enters = λ some. is; ends = λ none. is }

    committed_touched : (epoch : ℕ) → CommittedForms node layout tx t epoch Still
    unfolding entering
    committed_touched epoch = record { enters = λ some. has; ends = λ none. has }

    touched_forms : (body : Body) → TurnForms node layout tx t body Still
    unfolding entering
    touched_forms body = record {
      stays = has;
      goes_on = λ at. has;
      operates = λ op is can. touch_more t.touched (key_of op) key _ has;
      answers = λ own a asked is on at. after_answer a asked;
      late = λ own asked why verifying awaited on at. has;
      waits = λ asked on. has;
      decides = λ is ready. has;
      commits = λ epoch is at some. has;
      commits_none = λ epoch is at. committed_touched epoch;
      committed = λ epoch awaited at more. has;
      committed_all = λ epoch awaited at. committed_touched epoch;
      completed = λ epoch awaited at more. has;
      completed_all = λ epoch awaited at last. has;
      rolls_back = λ is undecided unaborted. aborts_touched t _ has;
      refuses = λ own why asked is on at. aborts_touched (asking t None) why has;
      aborted = λ why verifying awaited at more. has;
      aborted_all = λ why verifying awaited at last. has;
    }

    pub turn_touched : (body : Body) → is_for_tx tx body ≡ true
        → HasTouched (turn_for node layout tx body t).step.state.touched key
    turn_touched body own =
        turn_each node layout tx body t Still (rows_of node layout tx t body Still (touched_forms body)) own

  -- its number is given, and where its coordinator has it it has touched the key
  pub record IsKnown (start : Start) (logs : ℕ → List HostStep) : Type 0 where
    pub old : tx.seq < next_number (after start (home start tx) (logs (home start tx)))
    pub touched : (t : Transaction) → live_at start logs tx ≡ Some t → HasTouched t.touched key

  -- one that has an operation on the key unanswered is known
  pub asks_known : (start : Start) (es : List HostStep) → asks_on key (live_at start (logs_of start es) tx) ≡ true
      → IsKnown start (logs_of start es)
  asks_known start es one = by (live_at start (logs_of start es) tx) refl
    where
      by : (o : Option Transaction) → live_at start (logs_of start es) tx ≡ o → IsKnown start (logs_of start es)
      by None none = absurd (false≢true (ap (asks_on key) (sym none) ∙ one))
      by (Some t) there = record {
        old = owned.below;
        touched = λ u live.
            let same : t ≡ u = some_same (sym there ∙ live) in
            subst (λ (u : Transaction). HasTouched u.touched key) same (which t.asked refl);
      }
        where
          some_same : {u : Transaction} → Some t ≡ Some u → t ≡ u
          some_same both = cc

          at_home : ℕ
          at_home = home start tx

          s : TcState
          s = tc_of (after start at_home (logs_of start es at_home))

          owned : IsOwned s.node s.next_seq (sent_ways start back_by at_home (logs_of start es at_home)) (tx, t)
          owned =
              each_found (IsOwned s.node s.next_seq (sent_ways start back_by at_home (logs_of start es at_home)))
              s.live tx t (log_sound start at_home (logs_of start es at_home)).tc.live there

          on_key : is_on_key key t.asked ≡ true
          on_key = sym (ap (asks_on key) there) ∙ one

          which : (asked : Option Asked) → t.asked ≡ asked → HasTouched t.touched key
          which None none = absurd (false≢true (sym (ap (is_on_key key) none) ∙ on_key))
          which (Some a) is_asked =
              subst (HasTouched t.touched)
              (keys.same (key_of a.op) key (sym (ap (is_on_key key) is_asked) ∙ on_key))
              (subst (HasTouchedAsked t.touched) is_asked owned.touched)

  module _ (start : Start) (es : List HostStep) (e : HostStep) (come : Comes start es e) where
    abbrev g : host.Host
    g = after start e.host (logs_of start es e.host)

    -- a part of an operation comes of a transaction that is known
    pub part_known : is_part_on tx key e.step.taken.body ≡ true → IsKnown start (logs_of start es)
    part_known is = asks_known start es (which (asks_on key (live_at start (logs_of start es) tx)) refl)
      where
        plain : (body : Body) → is_part_on tx key body ≡ true → is_request body ≡ false
        plain (Chain c) is = refl
        plain _ is = absurd cc

        which : (b : Bool) → asks_on key (live_at start (logs_of start es) tx) ≡ b → b ≡ true
        which true on = refl
        which false off =
            let t = taking start es e come in
            let none : tally (λ (x : Addressed). is_part_on tx key x.signal.body) t.before ≡ 0 =
            omega (arith, parts_are_unanswered start es t.before tx key come.before t.transit, ap one_if off) in
            absurd (true≢false (sym is
            ∙ each_taken (λ (x : Addressed). is_part_on tx key x.signal.body ≡ false) e t.before t.between
            (plain e.step.taken.body is) t.takes
            (none_passes (λ (x : Addressed). is_part_on tx key x.signal.body) t.before none)))

    -- who is known stays so
    pub known_next : IsKnown start (logs_of start es) → IsKnown start (logs_of start (e ∷ es))
    known_next k = by (fares tx g e.step.taken facts)
      where
        facts : IsHome tx (tc_of g)
        facts = all_home start tx e.host (logs_of start es e.host)

        at_home : ℕ
        at_home = home start tx

        old_now : tx.seq < next_number (after start at_home (logs_of start (e ∷ es) at_home))
        old_now =
            event_keeps (machine start) e es (λ k log. tx.seq < next_number (after start k log))
            (λ low. omega (arith, number_rises g e.step.taken, low)) at_home k.old

        stays : of_host tx (row g e.step.taken).state ≡ of_host tx g → IsKnown start (logs_of start (e ∷ es))
        stays alike = record {
          old = old_now;
          touched = λ t live. k.touched t (sym (live_leaves start es e come tx alike) ∙ live);
        }

        by : Fares tx g e.step.taken (row g e.step.taken) → IsKnown start (logs_of start (e ∷ es))
        by (fare.aside alike off) = stays alike
        by (fare.rows step) = stays (ap (λ (c : TcState). of_live tx c.live) step.tc)
        by (fare.begins step is left off) =
            let here = own_home start es e come tx step.runs (sym (ap (λ (v : TxId). v.tc) is)) in
            absurd (omega (
              arith,
              subst (λ x. tx.seq < next_number x) (here_was start es e come tx here) k.old,
              ap (λ (v : TxId). v.seq) is,
            ))
        by (fare.turns u step there own_body sent left) = record {
          old = old_now;
          touched = λ t live. which its_turn.over refl t (sym left ∙ (sym (ap (of_host tx)
              (here_now start es e come tx here)) ∙ live));
        }
          where
            here : e.host ≡ home start tx
            here =
                own_home start es e come tx step.runs
                (of_each (λ one t. IsOwn (tc_of g).node (tc_of g).next_seq one) tx (tc_of g).live u facts.own
                there).home

            its_turn : Turn
            its_turn = turn_for (tc_of g).node (tc_of g).layout tx e.step.taken.body u

            has : HasTouched u.touched key
            has = k.touched u (ap (of_host tx) (here_was start es e come tx here) ∙ there)

            which : (b : Bool) → its_turn.over ≡ b → (t : Transaction) → left_of_turn its_turn ≡ Some t
                → HasTouched t.touched key
            which true over t is =
                absurd (let both : None ≡ Some t =
                sym (ap (λ b. if b then None else Some its_turn.step.state) over) ∙ is in cc)
            which false over t is =
                let same : its_turn.step.state ≡ t =
                some_same (sym (ap (λ b. if b then None else Some its_turn.step.state) over) ∙ is) in
                subst (λ (v : Transaction). HasTouched v.touched key) same
                (turn_touched (tc_of g).node (tc_of g).layout u has e.step.taken.body own_body)
              where
                some_same : {v w : Transaction} → Some v ≡ Some w → v ≡ w
                some_same both = cc

  -- who isn't away at a host is known
  pub standers_known : (start : Start) (h : ℕ) (es : List HostStep) → IsRun start es
      → is_away start key tx h (logs_of start es h) ≡ false → IsKnown start (logs_of start es)
  standers_known start h [] run is = absurd (true≢false is)
  standers_known start h (e ∷ es) run is =
      let more = standers_known start h es (earlier start es e run) in
      known_next start es e come
      (event_cases (machine start) e es h (λ log. is_away start key tx h log ≡ false → IsKnown start (logs_of start es))
      (λ own now. which more (came_back start h (logs_of start es h) e now)) (λ off now. more now) is)
    where
      come : Comes start es e
      come = comes start es e run

      which : (is_away start key tx h (logs_of start es h) ≡ false → IsKnown start (logs_of start es))
          → (is_away start key tx h (logs_of start es h) ≡ false) ⊎ (is_part_on tx key e.step.taken.body ≡ true)
          → IsKnown start (logs_of start es)
      which more (inl was) = more was
      which more (inr part) = part_known start es e come part
