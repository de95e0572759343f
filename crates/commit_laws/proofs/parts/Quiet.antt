-- Of a transaction that goes on and has nothing unanswered no part is under way in the current view.
use Rattle.std.proofs.Common.{◌≡◌, ◌&&◌, ◌==◌, ◌∙◌, ℕ, Bool, true, false, List, eq-eqb, refl, sym, ap, subst}
use Rattle.std.proofs.lemmas.Bool.{true≢false}
use Rattle.std.specs.Prelude.{if◌then◌else◌, None}
use Rattle.run_theory.proofs.Pasts.{each_map}
use Rattle.run_theory.specs.Lists.{Each, IsIn}
use Rattle.sig_core.specs.declared.member.Member.{Member}
use Rattle.sig_core.specs.declared.member.TxId.{TxId}
use Rattle.sig_core.specs.declared.signal.Body.{Body}
use Rattle.sig_core.specs.declared.signal.Body.TheVariants.{Chain, Host}
use Rattle.sig_core.specs.declared.signal.Signal.{Signal}
use Rattle.sig_core.specs.declared.signal.chain.ChainSignal.TheVariants.{LqhKeyConf, LqhKeyRef, LqhKeyReq}
use Rattle.sig_core.specs.declared.signal.host.HostSignal.TheVariants.{Closed}
use Rattle.sig_core.specs.Same.{same_key, same_tx}
use Rattle.sig_core.specs.Work.{work_key}
use Rattle.tc_block.specs.declared.transaction.Transaction.{Transaction}
use Rattle.lqh_block.specs.declared.request.Request.{Request}
use Rattle.world_core.specs.Start.{Start, made}
use Rattle.world_core.specs.Steps.{Addressed, HostStep}
use Rattle.run_laws.specs.Tokens.{is_token}
use Rattle.view_laws.specs.Runs.{view_after}
use Rattle.moment_laws.specs.Moments.{IsMoment, current, logs_of}
use Rattle.moment_laws.specs.Places.{ldm_of}
use Rattle.outcome_laws.proofs.coordinators.Lists.{none_passes}
use Rattle.request_laws.specs.Tokens.{IsQuiet, count_waiting, is_token_in, number_now}
use Rattle.request_laws.proofs.tokens.Alone.{quiet_unless_asked}
use Rattle.commit_laws.specs.Parts.{IsHale, Tells, Told, answers, part_if, part_of, performs, refuses}
use Rattle.commit_laws.specs.Traces.{rows_at}
use Rattle.commit_laws.specs.Transit.{AreInTransit, is_closing}
use Rattle.commit_laws.proofs.fates.Committed.{calm_stops}
use Rattle.commit_laws.proofs.fates.Going.{hale_calm, hale_made}
use Rattle.commit_laws.proofs.links.TransitCounts.{none_in_transit}

-- a closing is no part of an operation
pub closing_off : (tx : TxId) (number : ℕ) (x : Signal) → is_closing x.body ≡ true → is_token_in tx number x ≡ false
closing_off tx number x is = by x.body is
  where
    by : (body : Body) → is_closing body ≡ true → (is_token tx body && (x.view.number == number)) ≡ false
    by (Host (Closed cause)) is = refl
    by (Chain signal) is = absurd (true≢false (sym is))
    by body is = go (is_token tx body) refl
      where
        go : (b : Bool) → is_token tx body ≡ b → (b && (x.view.number == number)) ≡ false
        go false off = refl
        go true on = absurd (true≢false (sym is ∙ plain body on))
          where
            plain : (body : Body) → is_token tx body ≡ true → is_closing body ≡ false
            plain (Chain signal) on = refl
            plain body on = absurd (true≢false (sym on))

-- what is no token has no part
pub no_part : (tx : TxId) (key : List ℕ) (body : Body) → is_token tx body ≡ false → part_of tx key body ≡ None
no_part tx key (Chain (LqhKeyReq other w chain at)) off =
    ap (λ b. part_if (performs w at) (b && same_key (work_key w) key)) off
no_part tx key (Chain (LqhKeyConf other own answer)) off =
    ap (λ b. part_if (answers answer) (b && same_key own key)) off
no_part tx key (Chain (LqhKeyRef other own cause)) off = ap (λ b. part_if refuses (b && same_key own key)) off
no_part tx key _ off = refl

pub not_and : (a b : Bool) → (a && b) ≡ false → b ≡ true → a ≡ false
not_and true b none is = absurd (true≢false (sym is ∙ none))
not_and false b none is = refl

module _ (start : Start) (all : ℕ → List HostStep) (es : List HostStep) (moment : IsMoment start all es)
    (tx : TxId) where
  abbrev logs : ℕ → List HostStep
  logs = logs_of start es

  abbrev now : ℕ
  now = number_now start (logs_of start es)

  -- no part of it is under way in the current view
  pub record IsIdle (xs : List Addressed) : Type 0 where
    pub signals : (key : List ℕ)
        → Each (λ (x : Addressed). x.signal.view.number ≡ (current start (logs_of start es)).number
        → part_of tx key x.signal.body ≡ None) xs
    pub waits : (member : Member) → IsIn member (made start)
        → (view_after start (ldm_of start member) (logs_of start es (ldm_of start member))).number
        ≡ (current start (logs_of start es)).number
        → Each (λ (q : Request). same_tx q.tx tx ≡ false) (rows_at start (logs_of start es) member).lqh.waiting

  pub quiet_idle : (xs : List Addressed) → AreInTransit start es xs → IsQuiet start logs tx now → IsIdle xs
  quiet_idle xs transit quiet = record {
    signals = λ key.
        each_map (λ (x : Addressed). is_token_in tx now x.signal ≡ false) _ xs
        (λ x off here.
        no_part tx key x.signal.body
        (not_and (is_token tx x.signal.body) (x.signal.view.number == now) off (eq-eqb x.signal.view.number now here)))
        (none_in_transit start (is_token_in tx now) (λ x is. closing_off tx now x is) all es moment xs transit
        quiet.goes);
    waits = λ member there stands.
        none_passes (λ (q : Request). same_tx q.tx tx) (rows_at start logs member).lqh.waiting
        (sym (ap (λ b. if b then count_waiting tx (rows_at start logs member) else 0)
        (eq-eqb (view_after start (ldm_of start member) (logs (ldm_of start member))).number now stands))
        ∙ quiet.waits member there);
  }

  module _ (t : Transaction) (hale : IsHale start (logs_of start es) tx t) where
    pub unasked_idle : (xs : List Addressed) → AreInTransit start es xs → t.asked ≡ None → IsIdle xs
    unasked_idle xs transit none =
        quiet_idle xs transit
        (quiet_unless_asked start all es moment tx (hale_made start all es moment tx t hale)
        (calm_stops start all es moment tx now (hale_calm start all es moment tx t hale none)))

  -- so all that is under way tells the truth
  pub idle_told : (xs : List Addressed) → IsIdle xs → (t : Transaction) (key : List ℕ)
      → Each (λ (x : Addressed). x.signal.view.number ≡ (current start (logs_of start es)).number
      → Told start (logs_of start es) key tx t (part_of tx key x.signal.body)) xs
  idle_told xs idle t key =
      each_map _ _ xs
      (λ x none here. subst (Told start (logs_of start es) key tx t) (sym (none here)) tt) (idle.signals key)

  pub idle_waits : (xs : List Addressed) → IsIdle xs → (t : Transaction) (key : List ℕ) (member : Member)
      → IsIn member (made start)
      → (view_after start (ldm_of start member) (logs_of start es (ldm_of start member))).number
      ≡ (current start (logs_of start es)).number
      → Each (λ (q : Request). same_tx q.tx tx ≡ true → same_key (work_key q.work) key ≡ true
      → Tells start (logs_of start es) key tx t (performs q.work q.at))
      (rows_at start (logs_of start es) member).lqh.waiting
  idle_waits xs idle t key member there stands =
      each_map _ _ (rows_at start (logs_of start es) member).lqh.waiting
      (λ q off own here. absurd (true≢false (sym own ∙ off))) (idle.waits member there stands)
