-- A transaction that goes on, of one key, where its key takes a step at a replica.
use Rattle.std.proofs.Common.{◌≡◌, ◌⊎◌, ◌≢◌, ◌≤◌, ℕ, Bool, true, false, cond, filter, List, [], ◌∷◌, refl, sym, ap, ◌∙◌}
use Rattle.std.proofs.Common.{subst, inl, inr}
use Rattle.std.proofs.lemmas.Bool.{cases_eq}
use Rattle.std.specs.Prelude.{if◌then◌else◌, Option, None, Some}
use Rattle.run_theory.specs.Lists.{Each}
use Rattle.run_theory.proofs.Pasts.{each_map}
use Rattle.world_core.specs.Steps.{Addressed, HostStep}
use Rattle.sig_core.specs.declared.member.TxId.{TxId}
use Rattle.sig_core.specs.declared.op.Answer.{Answer}
use Rattle.sig_core.specs.declared.op.Op.{Op}
use Rattle.sig_core.specs.declared.outs.Outgoing.{Outgoing}
use Rattle.sig_core.specs.declared.signal.chain.RowWork.{RowWork}
use Rattle.sig_core.specs.declared.signal.chain.RowWork.TheVariants.{Operate, Store}
use Rattle.sig_core.specs.Same.{same_tx}
use Rattle.row_locks.specs.declared.mode.Lock.{Lock}
use Rattle.row_locks.specs.declared.mode.Lock.TheVariants.{Granted, Queued}
use Rattle.row_locks.specs.Rows.{asked}
use Rattle.lqh_block.specs.declared.request.Request.{Request}
use Rattle.sig_core.specs.Work.{work_key}
use Rattle.lqh_block.specs.Work.{work_mode}
use Rattle.node_core.specs.Requests.{is_request}
use Rattle.tc_block.specs.declared.transaction.Transaction.{Transaction}
use Rattle.world_core.specs.Hosts.{first_membership, rows_host}
use Rattle.world_core.specs.Machine.{sent_count, signals_of, step_after}
use Rattle.world_core.specs.Start.{Start}
use Rattle.sig_core.specs.Firsts.{first}
use Rattle.key_laws.specs.PrimaryEvents.{ended_after, made_after, made_by, made_if, made_served}
use Rattle.key_laws.specs.Records.{found}
use Rattle.key_laws.specs.Replica.{Event, Replica, ages, asked_by, asks, expires, is_by, is_let_in, key_after, rests}
use Rattle.key_laws.specs.Replica.{served_by, serves, worked}
use Rattle.key_laws.specs.Replica as replica
use Rattle.sig_core.proofs.Keys.{same_tx-self}
use Rattle.run_laws.specs.Circle.{at_primary}
use Rattle.run_laws.specs.Live.{live_at}
use Rattle.run_laws.specs.Routes.{IsRequestRouted, primary_host, replicas}
use Rattle.run_laws.specs.Tokens.{is_token}
use Rattle.run_laws.specs.Transit.{AreInTransit, Comes, Takes, joined, logs_of}
use Rattle.run_laws.proofs.circle.Kept.{IsGoing, SignalTells, queued_going, rests_going, sent_going}
use Rattle.run_laws.proofs.circle.View.{IsAs, IsAskedHere, Tells, settles_as}
use Rattle.run_laws.proofs.circle.KeyMoves.{answered_here, before_here, event_here, ended_same, expired_as, host_of}
use Rattle.run_laws.proofs.circle.KeyMoves.{key_here, key_other, made_here, made_other, others_like, view_as}
use Rattle.run_laws.proofs.circle.KeyMoves.{view_before, view_now, waits_other}
use Rattle.run_laws.proofs.tokens.Signals.{Token, asked_tokens, event_tokens, if_by, performed_token, performs, refuses}
use Rattle.run_laws.proofs.tokens.Signals.{served_tokens, token_of, tokens_of, work_token}
use Rattle.run_laws.proofs.tokens.OnlyToken.{IsOnly, one_sent}
use Rattle.run_laws.proofs.circle.OthersStay.{event_of, filter-end, is_of, of_first, waits_of}
use Rattle.run_laws.proofs.tokens.Performing.{IsPerformed, performed_tells}
use Rattle.run_laws.proofs.routes.Events.{IsPlaced, placed}
use Rattle.run_laws.proofs.circle.Turns.{is_early}
use Rattle.run_laws.proofs.transit.Lists.{Told, sent_some, takes_more, tally_headed, uncounted}
use Rattle.run_laws.proofs.transit.Weighing.{each_taken}

-- an event of another transaction sends none
pub off_tokens : (tx : TxId) (event : Event) (r : Replica) → is_of tx (event_of event r) ≡ false
    → event_tokens tx event r ≡ []
off_tokens tx rests r off = refl
off_tokens tx (asks q refused) r off = by (asked r.lock q.tx (work_mode q.work)).answer
  where
    by : (a : Lock) → asked_tokens tx r q refused a ≡ []
    by Granted = ap (λ b. if b then performed_token r.cell q refused ∷ [] else []) off
    by (Queued ahead) = refl
off_tokens tx (serves refused) r off = by (first (is_let_in r.lock) r.waiting) off
  where
    by : (o : Option Request) → is_of tx (of_first o) ≡ false → served_tokens tx r refused o ≡ []
    by None off = refl
    by (Some q) off = ap (λ b. if b then performed_token r.cell q refused ∷ [] else []) off
off_tokens tx (replica.commits v last) r off = refl
off_tokens tx (replica.completes v) r off = refl
off_tokens tx (replica.aborts v) r off = refl
off_tokens tx (expires v) r off = ap (λ b. if b then refuses ∷ [] else []) off
off_tokens tx (ages None) r off = refl
off_tokens tx (ages (Some v)) r off = ap (λ b. if b then refuses ∷ [] else []) off

-- what is so of those that pass a test is so of the first one that passes another, if it passes this one
pub each-first_by : {A : Type 0} (P : A → Type 0) (p other : A → Bool) (xs : List A) (x : A) → Each P (filter p xs)
    → first other xs ≡ Some x → p x ≡ true → P x
each-first_by P p other [] x all is passes = absurd cc
each-first_by {A} P p other (y ∷ xs) x all is passes = by (other y) is (p y) refl all (each-first_by P p other xs x)
  where
    by : (b : Bool) → (if b then Some y else first other xs) ≡ Some x → (c : Bool) → p y ≡ c
        → Each P (cond c (y ∷ filter p xs) (filter p xs))
        → (Each P (filter p xs) → first other xs ≡ Some x → p x ≡ true → P x) → P x
    by true is true e all more = let one : y ≡ x = cc in subst P one all.0
    by true is false e all more =
        absurd (let one : y ≡ x = cc in let both : true ≡ false = sym passes ∙ (ap p (sym one) ∙ e) in cc)
    by false is true e all more = more all.1 is passes
    by false is false e all more = more all is passes

module _ (start : Start) (es : List HostStep) (e : HostStep) (tx : TxId) (key : List ℕ) (come : Comes start es e)
    (before between : List Addressed) (transit : AreInTransit start es before)
    (takes : Takes e before between) (t : Transaction) (live : live_at start (logs_of start (e ∷ es)) tx ≡ Some t)
    (early : is_early t.phase ≡ true) where
  abbrev n : ℕ
  n = host_of start es e tx key

  abbrev r : Replica
  r = before_here start es e tx key

  abbrev event : Event
  event = event_here start es e tx key

  abbrev sends : List Outgoing
  sends = (step_after start n (logs_of start es n) e).effects.sends

  abbrev sent : List Addressed
  sent = signals_of start n (logs_of start es n) e

  abbrev made : TxId → List (Op × Answer)
  made = (at_primary start (logs_of start es) key).made

  abbrev Going : Type 0
  Going = IsGoing start tx key (view_before start es e tx key) t before

  abbrev GoesOn : Type 0
  GoesOn = IsGoing start tx key (view_now start es e tx key) t (joined sent between)

  transit_now : AreInTransit start (e ∷ es) (joined sent between)
  transit_now = (before, (transit, record { between = between; takes = takes; is = refl }))

  -- where a part is sent it is the only one
  only : (token : Token) → tokens_of tx key sends ≡ token ∷ []
      → IsOnly tx key start (e ∷ es) come.now (joined sent between) transit_now t live early sent between
  only token is =
      one_sent tx key start (e ∷ es) come.now (joined sent between) transit_now t live early sent between refl
      (subst (λ k. 1 ≤ k) (sym (tally_headed (is_token tx) (first_membership start) n e.step.stamp
      (sent_count start n (logs_of start es n)) sends)) (sent_some tx key sends token [] is))

  -- an event that isn't of the transaction
  pub off_going : is_of tx (event_of event r) ≡ false → token_of tx key e.step.taken.to e.step.taken.body ≡ None
      → tokens_of tx key sends ≡ event_tokens tx event r → Going → GoesOn
  off_going off taken is going =
      rests_going start tx key (view_before start es e tx key) (view_now start es e tx key) t e before between takes
      (first_membership start) n e.step.stamp (sent_count start n (logs_of start es n)) sends going
      (others_like start es e tx key off) (inl taken) (is ∙ off_tokens tx event r off)

  -- a request that is performed
  performs_going : (q : Request) (refused : Bool) (node : ℕ) → n ≡ rows_host start node → IsRequestRouted start node q
      → work_key q.work ≡ key
      → found tx (key_after event r).cell.pending ≡ found tx (worked r.cell tx refused q.work).pending
      → made_after event (answered_here start es e tx key) tx ≡ made_by made r.cell tx refused q.work tx
      → ended_after event (answered_here start es e tx key) tx ≡ (at_primary start (logs_of start es) key).ended tx
      → tokens_of tx key sends ≡ work_token r.cell tx q.chain q.at refused q.work ∷ []
      → Tells start key (view_before start es e tx key) t (performs q.work q.at) → Going → GoesOn
  performs_going q refused node at_node routed own here made_is ended_is is told going =
      sent_going start tx key (view_now start es e tx key) t between (first_membership start) n e.step.stamp
      (sent_count start n (logs_of start es n)) sends token going.asked now one.signals one.waits
      (performed_tells start tx key (view_before start es e tx key) (view_now start es e tx key) t n r.cell q.work
      refused made q.at
      place.inside place.host_is routed.work performed told)
    where
      chain_is : q.chain ≡ replicas start key
      chain_is = routed.chain ∙ ap (replicas start) own

      place : IsPlaced start n key q.at
      place = placed start n node key q.chain q.at at_node chain_is routed.sent

      token : Token
      token = work_token r.cell tx (replicas start key) q.at refused q.work

      now : tokens_of tx key sends ≡ token ∷ []
      now = is ∙ ap (λ chain. work_token r.cell tx chain q.at refused q.work ∷ []) chain_is

      one : IsOnly tx key start (e ∷ es) come.now (joined sent between) transit_now t live early sent between
      one = only token now

      performed : IsPerformed start tx key (view_before start es e tx key) (view_now start es e tx key) n r.cell q.work
          refused made
      performed = record {
        was = refl;
        here = ap (λ (r : Replica). found tx r.cell.pending) (key_here start es e tx key) ∙ here;
        elsewhere = λ g off. ap (λ (r : Replica). found tx r.cell.pending)
            (key_other start es e tx key g (λ at. off (sym at)));
        ended = ended_same start es e tx key ended_is;
        answered = refl;
        made = λ at. made_here start es e tx key at ∙ made_is;
        unmade = made_other start es e tx key;
      }

  is_own : (v : TxId) → v ≡ tx → same_tx v tx ≡ true
  is_own v is = ap (λ v. same_tx v tx) is ∙ same_tx-self tx

  own_token : (v : TxId) (token : Token) → v ≡ tx → if_by tx v token ≡ token ∷ []
  own_token v token is = ap (λ b. if b then token ∷ [] else []) (is_own v is)

  -- a request that comes: it is performed, or waits
  pub asked_going : (q : Request) (refused : Bool) (node : ℕ) → event ≡ asks q refused → q.tx ≡ tx
      → work_key q.work ≡ key → n ≡ rows_host start node → IsRequestRouted start node q
      → is_request e.step.taken.body ≡ false
      → token_of tx key e.step.taken.to e.step.taken.body ≡ Some (performs q.work q.at)
      → tokens_of tx key sends ≡ event_tokens tx event r → Going → GoesOn
  asked_going q refused node event_is q_is own at_node routed given taken is going =
      by (asked r.lock q.tx (work_mode q.work)).answer refl
    where
      by : (a : Lock) → (asked r.lock q.tx (work_mode q.work)).answer ≡ a → GoesOn
      by Granted a_is =
          performs_going q refused node at_node routed own
          (ap (λ event. found tx (key_after event r).cell.pending) event_is
          ∙ ap (λ a. found tx (asked_by r (asked r.lock q.tx (work_mode q.work)).lock q refused a).cell.pending)
          a_is
          ∙ ap (λ v. found tx (worked r.cell v refused q.work).pending) q_is)
          (ap (λ event. made_after event (answered_here start es e tx key) tx) event_is
          ∙ ap (λ a. made_if (answered_here start es e tx key) q refused a tx) a_is
          ∙ ap (λ v. made_by made r.cell v refused q.work tx) q_is)
          (ap (λ event. ended_after event (answered_here start es e tx key) tx) event_is)
          (is ∙ ap (λ event. event_tokens tx event r) event_is ∙ ap (asked_tokens tx r q refused) a_is
          ∙ own_token q.tx (performed_token r.cell q refused) q_is
          ∙ ap (λ v. work_token r.cell v q.chain q.at refused q.work ∷ []) q_is)
          (subst (Told tx key (Tells start key (view_before start es e tx key) t)) taken
          (each_taken (SignalTells start tx key (view_before start es e tx key) t) e before between given takes
          going.signals))
          going
      by (Queued ahead) a_is =
          queued_going start tx key (view_before start es e tx key) (view_now start es e tx key) t e before between
          takes (first_membership start) n e.step.stamp (sent_count start n (logs_of start es n)) sends going
          (view_as start es e tx key
          (ap (λ event. found tx (key_after event r).cell.pending) event_is
          ∙ ap (λ a. found tx (asked_by r (asked r.lock q.tx (work_mode q.work)).lock q refused a).cell.pending)
          a_is)
          (ap (λ event. made_after event (answered_here start es e tx key) tx) event_is
          ∙ ap (λ a. made_if (answered_here start es e tx key) q refused a tx) a_is)
          (ap (λ event. ended_after event (answered_here start es e tx key) tx) event_is))
          n q given taken
          (ap (waits_of tx) (key_here start es e tx key) ∙ ap (λ event. waits_of tx (key_after event r)) event_is
          ∙ ap (λ a. waits_of tx (asked_by r (asked r.lock q.tx (work_mode q.work)).lock q refused a)) a_is
          ∙ filter-end (is_by tx) r.waiting q true (is_own q.tx q_is))
          (waits_other start es e tx key)
          (is ∙ ap (λ event. event_tokens tx event r) event_is ∙ ap (asked_tokens tx r q refused) a_is)

  -- one that waited
  pub served_going : (q : Request) (refused : Bool) (node : ℕ) → event ≡ serves refused
      → first (is_let_in r.lock) r.waiting ≡ Some q → q.tx ≡ tx → work_key q.work ≡ key
      → n ≡ rows_host start node → IsRequestRouted start node q
      → tokens_of tx key sends ≡ event_tokens tx event r → Going → GoesOn
  served_going q refused node event_is first_is q_is own at_node routed is going =
      performs_going q refused node at_node routed own
      (ap (λ event. found tx (key_after event r).cell.pending) event_is
      ∙ ap (λ o. found tx (served_by r refused o).cell.pending) first_is
      ∙ ap (λ v. found tx (worked r.cell v refused q.work).pending) q_is)
      (ap (λ event. made_after event (answered_here start es e tx key) tx) event_is
      ∙ ap (λ o. made_served (answered_here start es e tx key) refused o tx) first_is
      ∙ ap (λ v. made_by made r.cell v refused q.work tx) q_is)
      (ap (λ event. ended_after event (answered_here start es e tx key) tx) event_is)
      (is ∙ ap (λ event. event_tokens tx event r) event_is ∙ ap (served_tokens tx r refused) first_is
      ∙ own_token q.tx (performed_token r.cell q refused) q_is
      ∙ ap (λ v. work_token r.cell v q.chain q.at refused q.work ∷ []) q_is)
      (each-first_by (λ (q : Request). Tells start key (view_before start es e tx key) t (performs q.work q.at))
      (is_by tx) (is_let_in r.lock) r.waiting q (going.waiting n) first_is (is_own q.tx q_is))
      going

  -- a wait that ends
  pub expired_going : (event ≡ expires tx) ⊎ (event ≡ ages (Some tx))
      → token_of tx key e.step.taken.to e.step.taken.body ≡ None → tokens_of tx key sends ≡ event_tokens tx event r
      → Going → GoesOn
  expired_going event_is taken is going =
      sent_going start tx key (view_now start es e tx key) t between (first_membership start) n e.step.stamp
      (sent_count start n (logs_of start es n)) sends refuses going.asked now one.signals one.waits
      (by (waits_of tx r) refl)
    where
      now : tokens_of tx key sends ≡ refuses ∷ []
      now = is ∙ which event_is
        where
          which : (event ≡ expires tx) ⊎ (event ≡ ages (Some tx)) → event_tokens tx event r ≡ refuses ∷ []
          which (inl e_is) = ap (λ event. event_tokens tx event r) e_is ∙ own_token tx refuses refl
          which (inr e_is) = ap (λ event. event_tokens tx event r) e_is ∙ own_token tx refuses refl

      one : IsOnly tx key start (e ∷ es) come.now (joined sent between) transit_now t live early sent between
      one = only refuses now

      like : IsAs (view_before start es e tx key) (view_now start es e tx key)
      like = expired_as start es e tx key event_is

      asked_of : (what : RowWork) (at : ℕ) → Tells start key (view_before start es e tx key) t (performs what at)
          → IsAskedHere start key t
      asked_of (Operate op) at told = record { op = op; asks = told.1 }
      asked_of (Store own image) at told = record { op = told.op; asks = told.asks }

      by : (xs : List Request) → waits_of tx r ≡ xs → Tells start key (view_now start es e tx key) t refuses
      by (q ∷ xs) waits_is =
          inl (asked_of q.work q.at (subst (Each (λ (q : Request). Tells start key (view_before start es e tx key) t
          (performs q.work q.at))) waits_is (going.waiting n)).0)
      by [] waits_is =
          inr (settles_as start key (view_before start es e tx key) (view_now start es e tx key) t.ops like
          (going.settled
          (takes_more (λ (x : Addressed). token_of tx key x.signal.to x.signal.body ≡ None) e before between takes
          (each_map (λ (x : Addressed). is_token tx x.signal.body ≡ false)
          (λ (x : Addressed). token_of tx key x.signal.to x.signal.body ≡ None) between
          (λ x off. uncounted tx key x.signal.to x.signal.body off) one.signals) taken)
          (λ h. idle h (cases_eq n h))))
        where
          idle : (h : ℕ) → (n ≡ h) ⊎ (n ≢ h) → (view_before start es e tx key).waits h ≡ []
          idle h (inl at) = subst (λ h. (view_before start es e tx key).waits h ≡ []) at waits_is
          idle h (inr off) = sym (waits_other start es e tx key h off) ∙ one.waits h
