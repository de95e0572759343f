-- Where rows perform a request of a transaction that waited, what they send tells the truth of it on each key.
use Rattle.std.proofs.Common.{◌≡◌, ◌⊎◌, ◌∙◌, ℕ, Bool, true, false, List, [], ◌∷◌, refl, sym, ap, subst}
use Rattle.std.specs.List.{slice_get}
use Rattle.std.proofs.lemmas.Bool.{not-true}
use Rattle.std.specs.Prelude.{if◌then◌else◌, Option, Some}
use Rattle.run_theory.specs.Links.{sent_by}
use Rattle.run_theory.specs.Lists.{Each, IsIn}
use Rattle.commit_laws.proofs.records.LockKeeps.{first_passes}
use Rattle.frag_map.specs.Layout.{chain_of}
use Rattle.row_locks.specs.declared.mode.Mode.TheVariants.{Exclusive}
use Rattle.row_locks.specs.Holders.{holds_enough}
use Rattle.sig_core.specs.declared.member.Member.{Member}
use Rattle.sig_core.specs.declared.member.TxId.{TxId}
use Rattle.sig_core.specs.declared.signal.Body.TheVariants.{Host}
use Rattle.sig_core.specs.declared.signal.host.HostSignal.TheVariants.{Continue}
use Rattle.sig_core.specs.declared.signal.host.Work.TheVariants as work
use Rattle.sig_core.specs.Firsts.{first}
use Rattle.sig_core.specs.declared.signal.Signal.{Signal}
use Rattle.sig_core.specs.Same.{same_key, same_tx}
use Rattle.sig_core.specs.Work.{work_key}
use Rattle.sig_core.proofs.Keys.{same_tx-self}
use Rattle.tc_block.specs.declared.transaction.Transaction.{Transaction}
use Rattle.row_records.proofs.KeyLemmas as index
use Rattle.lqh_block.specs.declared.request.Request.{Request}
use Rattle.lqh_block.specs.State.{storage_of}
use Rattle.lqh_block.specs.Work.{work_mode}
use Rattle.lqh_views.specs.Replica.{installed}
use Rattle.lqh_views.specs.State.{ReplicaState}
use Rattle.key_laws.specs.Replica.{Replica, at_key, event_at, if_on, is_let_in, is_refused, rests, served_by, serves}
use Rattle.key_laws.specs.Replica.{serves_if, worked}
use Rattle.key_laws.proofs.KeyAfter.{first_here}
use Rattle.key_laws.proofs.LockWaiting.{attended_hold}
use Rattle.key_laws.proofs.Waiting.{each-first_item}
use Rattle.key_laws.specs.LockLaws.{is_attended}
use Rattle.row_locks.specs.Queues.{waits}
use Rattle.lqh_block.specs.Operate.{is_granted}
use Rattle.lqh_views.specs.Replica.{is_stale}
use Rattle.run_laws.proofs.tokens.Signals.{Token, event_tokens, served_tokens, work_token}
use Rattle.run_laws.specs.Routes.{IsWorkAt}
use Rattle.world_core.specs.Start.{Start, made}
use Rattle.world_core.specs.Steps.{Addressed, HostStep}
use Rattle.view_laws.specs.Order.{sound_machine}
use Rattle.moment_laws.specs.Moments.{current, logs_of}
use Rattle.request_laws.specs.Replicas.{event_by, event_if, event_under}
use Rattle.request_laws.specs.Waiting.{AreAttended}
use Rattle.request_laws.specs.Routed.{layout_in}
use Rattle.commit_laws.specs.Fates.{is_led_by_full}
use Rattle.commit_laws.specs.Parts.{IsHale, Tells, Told, part_of, performs}
use Rattle.commit_laws.specs.Together.{Follows}
use Rattle.commit_laws.specs.Traces.{rows_at}
use Rattle.moment_laws.proofs.MomentViews.{moment_less}
use Rattle.commit_laws.proofs.forth.All.{forth_is_known}
use Rattle.commit_laws.proofs.records.Attended.{attended_between, rows_attended}
use Rattle.commit_laws.proofs.parts.Takes.{performed_told}
use Rattle.commit_laws.proofs.parts.Sent.{sent_parts}
use Rattle.commit_laws.proofs.hosts.RowsTurn.{IsBetween, IsTakenAt}

module _ (start : Start) (all : ℕ → List HostStep) (e : HostStep) (es : List HostStep)
    (follows : Follows start all e es)
    (same : current start (logs_of start (e ∷ es)) ≡ current start (logs_of start es)) (tx : TxId) (t : Transaction)
    (hale : IsHale start (logs_of start es) tx t) (led : is_led_by_full start (logs_of start (e ∷ es)) tx ≡ true)
    (me : Member) (there : IsIn me (made start)) (s : ReplicaState)
    (between : IsBetween start all e es follows.moment me there s)
    (which : (s ≡ rows_at start (logs_of start es) me)
    ⊎ (s ≡ installed (rows_at start (logs_of start es) me) (current start (logs_of start (e ∷ es)))))
    (taken : IsTakenAt start all e es follows.moment me there s) (q : Request) (own : q.tx ≡ tx) (n : ℕ)
    (is : e.step.taken.body ≡ Host (Continue work.Granted n)) (fresh : is_stale s e.step.taken ≡ false)
    (granted : first (is_granted s.lqh.locks) s.lqh.waiting ≡ Some q)
    (along : q.chain ≡ chain_of (layout_in start (current start (logs_of start es))) (work_key q.work))
    (placed : IsWorkAt q.at q.work)
    (place : slice_get (chain_of (layout_in start (current start (logs_of start es))) (work_key q.work)) q.at ≡ Some me)
    (tells : Tells start (logs_of start es) (work_key q.work) tx t (performs q.work q.at))
  where
    abbrev new : ℕ → List HostStep
    new = logs_of start (e ∷ es)

    abbrev x : Signal
    x = e.step.taken

    abbrev refused : Bool
    refused = is_refused (storage_of s.lqh) q

    abbrev Sent : List ℕ → Type 0
    Sent key =
        Each (λ (y : Addressed). Told start new key tx t (part_of tx key y.signal.body))
        (sent_by (sound_machine start) e.host (logs_of start es e.host) e)

    -- the event of a key is that it serves, if the request is of that
    event_is : (key : List ℕ) → event_under key s x ≡ if_on (work_key q.work) key (serves refused)
    event_is key =
        ap (λ b. event_by key s x b) is
        ∙ (ap (λ b. event_if (event_at key s.lqh x.body) b) fresh
        ∙ (ap (event_at key s.lqh) is ∙ ap (serves_if key s.lqh) granted))

    -- of another key nothing is sent
    other_sent : (key : List ℕ) → same_key (work_key q.work) key ≡ false → Sent key
    other_sent key off =
        sent_parts start all e es follows tx t t hale me there s between taken key (λ (one : Token). ⊥)
        (subst (λ v. Each (λ (one : Token). ⊥) (event_tokens tx v (at_key key s.lqh)))
        (sym (event_is key ∙ ap (λ b. if b then serves refused else rests) off)) tt)
        (λ one none. absurd none)

    -- of its own key
    module _ (key : List ℕ) (here : same_key (work_key q.work) key ≡ true) where
      abbrev r : Replica
      r = at_key key s.lqh

      key_is : work_key q.work ≡ key
      key_is = index.same (work_key q.work) key here

      own_event : event_under key s x ≡ serves refused
      own_event = event_is key ∙ ap (λ b. if b then serves refused else rests) here

      let_in : first (is_let_in r.lock) r.waiting ≡ Some q
      let_in = first_here s.lqh key s.lqh.waiting q granted key_is

      attended : AreAttended r
      attended =
          attended_between forth_is_known start all e es follows.moment me there key s between taken
          (rows_attended forth_is_known start all es (moment_less start all e es follows.moment) me there key)

      -- it holds the lock as it asked
      holds_it : holds_enough tx (work_mode q.work) r.lock.holders ≡ true
      holds_it =
          subst (λ v. holds_enough v (work_mode q.work) r.lock.holders ≡ true) own
          (attended_hold r.lock q.tx (work_mode q.work)
          (each-first_item (λ (one : Request). is_attended r.lock one.tx (work_mode one.work) ≡ true) (is_let_in r.lock)
          r.waiting q attended.attended let_in)
          (not-true (waits q.tx r.lock.queue) (first_passes (is_let_in r.lock) r.waiting q let_in)))

      abbrev by_first : Option Request → Replica
      by_first o = served_by r refused o

      own_sent : Sent key
      own_sent =
          performed_told start all e es follows same tx t hale led me there s between which taken key q.work q.at placed
          (subst (λ k. slice_get (chain_of (layout_in start (current start (logs_of start es))) k) q.at ≡ Some me)
          key_is
          place)
          refused (serves refused) own_event
          (ap (λ o. (by_first o).cell) let_in ∙ ap (λ v. worked r.cell v refused q.work) own)
          (subst (λ o. holds_enough tx (work_mode q.work) (by_first o).lock.holders ≡ true) (sym let_in) holds_it)
          (λ was. subst (λ o. holds_enough tx Exclusive (by_first o).lock.holders ≡ true) (sym let_in) was)
          (ap (served_tokens tx r refused) let_in
          ∙ (ap (λ v. if same_tx v tx then work_token r.cell v q.chain q.at refused q.work ∷ [] else []) own
          ∙ (ap (λ b. if b then work_token r.cell tx q.chain q.at refused q.work ∷ [] else []) (same_tx-self tx)
          ∙ ap (λ ms. work_token r.cell tx ms q.at refused q.work ∷ [])
          (along ∙ ap (chain_of (layout_in start (current start (logs_of start es)))) key_is))))
          (subst (λ k. Tells start (logs_of start es) k tx t (performs q.work q.at)) key_is tells)

    pub served_told : (key : List ℕ)
        → Each (λ (y : Addressed). Told start (logs_of start (e ∷ es)) key tx t (part_of tx key y.signal.body))
        (sent_by (sound_machine start) e.host (logs_of start es e.host) e)
    served_told key = by (same_key (work_key q.work) key) refl
      where
        by : (b : Bool) → same_key (work_key q.work) key ≡ b → Sent key
        by true here = own_sent key here
        by false off = other_sent key off
