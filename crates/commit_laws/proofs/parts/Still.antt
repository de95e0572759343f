-- The parts of a transaction's operations behind an event of the rows of a member, in the current view, by what the
-- member keeps and sends.
use Rattle.std.proofs.Common.{◌≡◌, ◌∙◌, ℕ, true, List, ◌∷◌, refl, sym, ap, subst}
use Rattle.run_theory.proofs.Pasts.{each_map}
use Rattle.run_theory.proofs.Runs.{log_of-other}
use Rattle.run_theory.specs.Lists.{Each, IsIn}
use Rattle.run_theory.proofs.EventCases.{event_cases}
use Rattle.sig_core.specs.declared.member.Member.{Member}
use Rattle.sig_core.specs.declared.member.TxId.{TxId}
use Rattle.sig_core.specs.Same.{same_key, same_tx}
use Rattle.sig_core.specs.Work.{work_key}
use Rattle.tc_block.specs.declared.transaction.Transaction.{Transaction}
use Rattle.lqh_block.specs.declared.request.Request.{Request}
use Rattle.lqh_views.specs.State.{ReplicaState}
use Rattle.key_laws.specs.Replica.{at_key}
use Rattle.run_laws.proofs.transit.Weighing.{joined_each}
use Rattle.world_core.specs.Start.{Start, made}
use Rattle.world_core.specs.Steps.{Addressed, HostStep}
use Rattle.world_views.specs.Machine.{machine}
use Rattle.view_laws.specs.Runs.{view_after}
use Rattle.moment_laws.specs.Moments.{IsMoment, current, logs_of}
use Rattle.moment_laws.specs.Places.{ldm_of}
use Rattle.request_laws.specs.Blocks.{rows_after}
use Rattle.request_laws.proofs.tokens.HostsApart.{ldm_same}
use Rattle.commit_laws.specs.Fates.{is_led_by_full}
use Rattle.commit_laws.specs.Parts.{IsHale, PartsStand, Tells, Told, part_of, performs}
use Rattle.commit_laws.specs.Together.{Follows}
use Rattle.commit_laws.specs.Traces.{replica_at, rows_at}
use Rattle.commit_laws.specs.Transit.{AreInTransit, Takes}
use Rattle.commit_laws.proofs.records.MemberKeeps.{KeepsFor, keeps_self}
use Rattle.commit_laws.proofs.parts.Own.{PartsOf, sent_now}
use Rattle.commit_laws.proofs.parts.Rests.{rests_stay}
use Rattle.commit_laws.proofs.parts.TellsKept.{tells_still, told_still}
use Rattle.commit_laws.proofs.links.TransitCounts.{takes_less}

module _ (start : Start) (all : ℕ → List HostStep) (e : HostStep) (es : List HostStep)
    (follows : Follows start all e es) (xs left : List Addressed) (transit : AreInTransit start es xs)
    (takes : Takes start e xs left)
    (same : current start (logs_of start (e ∷ es)) ≡ current start (logs_of start es)) (tx : TxId) (u : Transaction)
    (hale : IsHale start (logs_of start es) tx u) (led : is_led_by_full start (logs_of start (e ∷ es)) tx ≡ true)
    (me : Member) (there : IsIn me (made start)) (at : e.host ≡ ldm_of start me)
  where
    abbrev old : ℕ → List HostStep
    old = logs_of start es

    abbrev new : ℕ → List HostStep
    new = logs_of start (e ∷ es)

    abbrev moment : IsMoment start all (e ∷ es)
    moment = follows.moment

    abbrev parts : PartsStand start old xs
    parts = follows.stood.parts xs transit

    abbrev number_is : (current start new).number ≡ (current start old).number
    number_is = ap (λ v. v.number) same

    -- The member keeps what it has of the transaction, what it sends of it tells the truth, and what waits there of it
    -- told it before.
    pub record MemberDoes : Type 0 where
      pub keeps : (key : List ℕ)
          → KeepsFor tx (replica_at start (logs_of start es) me key) (replica_at start (logs_of start (e ∷ es)) me key)
      pub sent : (key : List ℕ)
          → Each (λ (y : Addressed). Told start (logs_of start (e ∷ es)) key tx u (part_of tx key y.signal.body))
          (sent_now start all e es follows xs left transit takes same tx)
      pub waits : (key : List ℕ)
          → (view_after start (ldm_of start me) (logs_of start (e ∷ es) (ldm_of start me))).number
          ≡ (current start (logs_of start (e ∷ es))).number
          → Each (λ (q : Request). same_tx q.tx tx ≡ true → same_key (work_key q.work) key ≡ true
          → Tells start (logs_of start es) key tx u (performs q.work q.at))
          (rows_at start (logs_of start (e ∷ es)) me).lqh.waiting

    module _ (does : MemberDoes) where
      all_keep : (key : List ℕ) (m : Member) → IsIn m (made start)
          → KeepsFor tx (replica_at start old m key) (replica_at start new m key)
      all_keep key m among =
          event_cases (machine start) e es (ldm_of start m)
          (λ log. KeepsFor tx (replica_at start old m key) (replica_at start new m key))
          (λ here.
          subst (λ k. KeepsFor tx (replica_at start old k key) (replica_at start new k key))
          (ldm_same start follows.moment.cluster.nobody me m there among (sym at ∙ here)) (does.keeps key))
          (λ off.
          subst (KeepsFor tx (replica_at start old m key))
          (ap (λ log. at_key key (rows_after start m log).lqh)
          (sym (log_of-other (machine start) e es (ldm_of start m) off)))
          (keeps_self tx (replica_at start old m key)))

      told_on : (key : List ℕ) (x : Addressed)
          → (x.signal.view.number ≡ (current start old).number → Told start old key tx u (part_of tx key x.signal.body))
          → x.signal.view.number ≡ (current start new).number
          → Told start new key tx u (part_of tx key x.signal.body)
      told_on key x was here =
          told_still start all e es moment follows.stood.commits same key tx (all_keep key) u u refl refl
          (part_of tx key x.signal.body) (was (here ∙ number_is))

      wait_on : (key : List ℕ) (q : Request)
          → (same_tx q.tx tx ≡ true → same_key (work_key q.work) key ≡ true
          → Tells start old key tx u (performs q.work q.at))
          → same_tx q.tx tx ≡ true → same_key (work_key q.work) key ≡ true
          → Tells start new key tx u (performs q.work q.at)
      wait_on key q was own here =
          tells_still start all e es moment follows.stood.commits same key tx (all_keep key) u u refl refl
          (performs q.work q.at) (was own here)

      still_waits : (key : List ℕ) (m : Member) → IsIn m (made start)
          → (view_after start (ldm_of start m) (new (ldm_of start m))).number ≡ (current start new).number
          → Each (λ (q : Request). same_tx q.tx tx ≡ true → same_key (work_key q.work) key ≡ true
          → Tells start new key tx u (performs q.work q.at)) (rows_at start new m).lqh.waiting
      still_waits key m among stands =
          each_map _ _ (rows_at start new m).lqh.waiting (wait_on key)
          (event_cases (machine start) e es (ldm_of start m) (λ log. Each Waits (rows_at start new m).lqh.waiting)
          (λ here.
          let is : m ≡ me = sym (ldm_same start follows.moment.cluster.nobody me m there among (sym at ∙ here)) in
          subst (λ k. Each Waits (rows_at start new k).lqh.waiting) (sym is)
          (does.waits key
          (subst
          (λ k. (view_after start (ldm_of start k) (new (ldm_of start k))).number ≡ (current start new).number) is
          stands)))
          (λ off.
          let log_is = log_of-other (machine start) e es (ldm_of start m) off in
          subst (λ (s : ReplicaState). Each Waits s.lqh.waiting) (ap (rows_after start m) (sym log_is))
          (parts.waits tx u hale key m among
          (ap (λ log. (view_after start (ldm_of start m) log).number) (sym log_is) ∙ (stands ∙ number_is)))))
        where
          Waits : Request → Type 0
          Waits q =
              same_tx q.tx tx ≡ true → same_key (work_key q.work) key ≡ true
              → Tells start old key tx u (performs q.work q.at)

      pub still_parts : PartsOf start all e es follows xs left transit takes same tx u
      still_parts = record {
        signals = λ key.
            joined_each _ (sent_now start all e es follows xs left transit takes same tx) left
            (each_map (λ (y : Addressed). Told start new key tx u (part_of tx key y.signal.body)) _
            (sent_now start all e es follows xs left transit takes same tx) (λ y told here. told) (does.sent key))
            (each_map _ _ left (told_on key) (takes_less start _ e xs left takes (parts.signals tx u hale key)));
        waits = λ key m among stands. still_waits key m among stands;
        rests = λ key off.
            rests_stay start all e es follows xs left transit takes tx u hale key same led off;
      }
