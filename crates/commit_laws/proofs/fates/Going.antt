-- What is so of a transaction that goes on: it went no way, nobody aborts it; and where no part of its operation on a
-- key is at rows, what these do on the key isn't of it.
use Rattle.std.proofs.Common.{◌≡◌, ◌⊎◌, ◌==◌, ◌∙◌, ℕ, Bool, true, false, cond, filter, List, [], ◌∷◌, refl, sym, ap}
use Rattle.std.proofs.Common.{subst, inl, inr}
use Rattle.std.proofs.lemmas.Bool.{true≢false}
use Rattle.std.specs.Prelude.{if◌then◌else◌, is_some, Option, None, Some}
use Rattle.run_theory.specs.Lists.{Each, IsIn}
use Rattle.sig_core.specs.declared.member.Member.{Member}
use Rattle.sig_core.specs.declared.member.TxId.{TxId}
use Rattle.sig_core.specs.declared.signal.Body.{Body}
use Rattle.sig_core.specs.declared.signal.Body.TheVariants.{Chain, Host}
use Rattle.sig_core.specs.declared.signal.Signal.{Signal}
use Rattle.sig_core.specs.declared.signal.chain.ChainSignal.TheVariants.{Abort, Commit, Complete, LqhKeyReq}
use Rattle.sig_core.specs.declared.signal.chain.RowWork.{RowWork}
use Rattle.sig_core.specs.declared.signal.host.HostSignal.TheVariants.{Continue, Round}
use Rattle.sig_core.specs.declared.signal.host.Work.TheVariants as work
use Rattle.sig_core.specs.Firsts.{first}
use Rattle.sig_core.specs.Same.{same_key, same_tx}
use Rattle.sig_core.specs.Work.{work_key}
use Rattle.sig_core.proofs.TxLemmas.{same_tx-is}
use Rattle.tc_block.specs.declared.phase.Asked.{Asked}
use Rattle.tc_block.specs.declared.phase.Phase.{Phase}
use Rattle.tc_block.specs.declared.phase.Phase.TheVariants.{Aborting, Committing, Completing, Open, Verifying}
use Rattle.tc_block.specs.declared.transaction.Transaction.{Transaction}
use Rattle.tc_block.specs.Doom.{is_undecided}
use Rattle.row_locks.specs.Rounds.{expired}
use Rattle.lqh_block.specs.declared.request.Request.{Request}
use Rattle.lqh_block.specs.Operate.{is_granted}
use Rattle.lqh_block.specs.State.{storage_of}
use Rattle.lqh_block.specs.Views.{was_begun_by}
use Rattle.lqh_views.specs.State.{ReplicaState}
use Rattle.key_laws.specs.Replica.{Event, Replica, aborts as gives_up, asks, asks_for, at_key, commits as makes_so}
use Rattle.key_laws.specs.Replica.{completes as ends, event_at, expires, expires_if, if_on, is_let_in, is_refused}
use Rattle.key_laws.specs.Replica.{rests, serves, serves_if}
use Rattle.key_laws.proofs.Waiting.{each-first_item}
use Rattle.host_laws.proofs.coordinator.OfLive.{each_found}
use Rattle.run_laws.proofs.circle.OthersStay.{is_of, of_first}
use Rattle.world_core.specs.Start.{Start, made}
use Rattle.world_core.specs.Steps.{HostStep}
use Rattle.moment_laws.specs.Moments.{IsMoment, current, logs_of}
use Rattle.moment_laws.proofs.MomentMembers.{current_made}
use Rattle.outcome_laws.specs.Counts.{coordinator_member}
use Rattle.request_laws.specs.Phases.{CoordinatorStands, SaysIn}
use Rattle.request_laws.specs.Replicas.{event_under}
use Rattle.request_laws.specs.Tokens.{has_asked}
use Rattle.request_laws.proofs.phases.Stands.{coordinators_stand}
use Rattle.commit_laws.specs.Fates.{aborts, fate, fate_if}
use Rattle.commit_laws.specs.Going.{is_back, is_forth, is_lost, own_log}
use Rattle.commit_laws.specs.Parts.{IsHale}
use Rattle.commit_laws.specs.Traces.{has_trace, is_known}
use Rattle.commit_laws.proofs.fates.Committed.{IsCalm}
use Rattle.commit_laws.proofs.fates.Moves.{begun_by}
use Rattle.commit_laws.proofs.records.KeyStays.{worker_of}
use Rattle.commit_laws.proofs.records.Attended.{under_is}
use Rattle.commit_laws.proofs.hosts.SomePasses.{passing}

-- who isn't lost at a full coordinator, and hasn't gone forth, doesn't abort
not_aborting : (known forth lost trace : Bool) → forth ≡ false → lost ≡ false
    → fate_if known true forth lost trace ≡ aborts → ⊥
not_aborting true forth lost trace off spared is = absurd cc
not_aborting false true lost trace off spared is = true≢false off
not_aborting false false true trace off spared is = true≢false spared
not_aborting false false false trace off spared is = absurd cc

module _ (start : Start) (all : ℕ → List HostStep) (es : List HostStep) (moment : IsMoment start all es) (tx : TxId)
    (t : Transaction) (hale : IsHale start (logs_of start es) tx t)
  where
    abbrev logs : ℕ → List HostStep
    logs = logs_of start es

    abbrev member : Member
    member = coordinator_member tx

    pub hale_full : IsIn (coordinator_member tx) (current start (logs_of start es)).full
    hale_full =
        let one = passing (was_begun_by tx) (current start logs).full hale.full in
        subst (λ m. IsIn m (current start logs).full) (begun_by tx one.item one.is) one.there

    pub hale_made : IsIn (coordinator_member tx) (made start)
    hale_made = current_made start all es moment member hale_full

    pub hale_stands : CoordinatorStands start (coordinator_member tx) (logs_of start es)
    hale_stands = coordinators_stand start all es moment member hale_made

    undecided_ways : (phase : Phase) → is_undecided phase ≡ true
        → SaysIn start member (own_log start logs tx) tx t phase
        → (is_forth start logs tx ≡ false) × (is_back start logs tx ≡ false)
    undecided_ways Open is says = says
    undecided_ways Verifying is says = says.1
    undecided_ways (Committing epoch awaited) is says = absurd (true≢false (sym is))
    undecided_ways (Completing epoch awaited) is says = absurd (true≢false (sym is))
    undecided_ways (Aborting why verifying awaited) is says = absurd (true≢false (sym is))

    -- it has gone neither way
    pub hale_ways : (is_forth start (logs_of start es) tx ≡ false) × (is_back start (logs_of start es) tx ≡ false)
    hale_ways = undecided_ways t.phase hale.undecided (each_found _ _ tx t hale_stands.says hale.there)

    pub hale_fate : fate start (logs_of start es) tx ≡ aborts → ⊥
    hale_fate is =
        not_aborting (is_known start logs tx) (is_forth start logs tx) (is_lost start logs tx) (has_trace start logs tx)
        hale_ways.0 hale.spared
        (sym (ap (λ full. fate_if (is_known start logs tx) full (is_forth start logs tx) (is_lost start logs tx)
        (has_trace start logs tx)) hale.full)
        ∙ is)

    none_asked : (o : Option Asked) → o ≡ None → is_some o ≡ false
    none_asked o none = ap is_some none

    pub hale_calm : t.asked ≡ None → IsCalm start (logs_of start es) tx
    hale_calm none = record {
      made = hale_made;
      back = hale_ways.1;
      answered = ap has_asked hale.there ∙ none_asked t.asked none;
    }

-- what holds of each that passes a test if it does so, holds of each that is left by it
pub each_passing : {A : Type 0} (P : A → Type 0) (p : A → Bool) (xs : List A) → Each (λ x. p x ≡ true → P x) xs
    → Each P (filter p xs)
each_passing P p [] all = tt
each_passing {A} P p (x ∷ xs) all = by (p x) refl (each_passing P p xs all.1)
  where
    by : (b : Bool) → p x ≡ b → Each P (filter p xs) → Each P (cond b (x ∷ filter p xs) (filter p xs))
    by true is rest = (all.0 is, rest)
    by false off rest = rest

module _ (key : List ℕ) (tx : TxId) (s : ReplicaState) (x : Signal) where
  abbrev r : Replica
  r = at_key key s.lqh

  -- no part of its operation on the key is at the rows, and it comes to no end there
  pub record IsNotAt : Type 0 where
    pub asked : (w : RowWork) (chain : List Member) (at : ℕ) → x.body ≡ Chain (LqhKeyReq tx w chain at)
        → same_key (work_key w) key ≡ true → ⊥
    pub waits : Each (λ (q : Request). asks_for key q ≡ true → same_tx q.tx tx ≡ false) s.lqh.waiting
    pub committed : (own : List ℕ) (epoch : ℕ) (chain : List Member) (at : ℕ)
        → x.body ≡ Chain (Commit tx own epoch chain at) → ⊥
    pub completed : (own : List ℕ) (chain : List Member) (at : ℕ) → x.body ≡ Chain (Complete tx own chain at) → ⊥
    pub aborted : (own : List ℕ) → x.body ≡ Chain (Abort tx own) → ⊥

  module _ (apart : IsNotAt) where
    abbrev OfOther : Event → Type 0
    OfOther event = is_of tx (worker_of event r) ≡ false

    -- an event of one that isn't it
    other_than : (u : TxId) → (same_tx u tx ≡ true → ⊥) → same_tx u tx ≡ false
    other_than u off = by (same_tx u tx) refl
      where
        by : (b : Bool) → same_tx u tx ≡ b → b ≡ false
        by true is = absurd (off is)
        by false is = refl

    on : (own : List ℕ) (event : Event) → (same_key own key ≡ true → OfOther event) → OfOther (if_on own key event)
    on own event here = by (same_key own key) refl
      where
        by : (b : Bool) → same_key own key ≡ b → OfOther (if b then event else rests)
        by true is = here is
        by false is = refl

    let_in : OfOther (serves false)
    let_in = by (first (is_let_in r.lock) r.waiting) refl
      where
        by : (o : Option Request) → first (is_let_in r.lock) r.waiting ≡ o → is_of tx (of_first o) ≡ false
        by None is = refl
        by (Some q) is =
            each-first_item (λ (q : Request). same_tx q.tx tx ≡ false) (is_let_in r.lock) r.waiting q
            (each_passing (λ (q : Request). same_tx q.tx tx ≡ false) (asks_for key) s.lqh.waiting apart.waits) is

    at_event : (body : Body) → x.body ≡ body → OfOther (event_at key s.lqh body)
    at_event (Chain (LqhKeyReq u w chain at)) is =
        on (work_key w)
        (asks (record { tx = u; work = w; chain = chain; at = at })
        (is_refused (storage_of s.lqh) (record { tx = u; work = w; chain = chain; at = at })))
        (λ here. other_than u
        (λ own. apart.asked w chain at (is ∙ (λ i. Chain (LqhKeyReq (same_tx-is u tx own i) w chain at))) here))
    at_event (Chain (Commit u own epoch chain at)) is =
        on own (makes_so u (at == 0))
        (λ here. other_than u
        (λ same. apart.committed own epoch chain at
        (is ∙ (λ i. Chain (Commit (same_tx-is u tx same i) own epoch chain at)))))
    at_event (Chain (Complete u own chain at)) is =
        on own (ends u)
        (λ here. other_than u
        (λ same. apart.completed own chain at (is ∙ (λ i. Chain (Complete (same_tx-is u tx same i) own chain at)))))
    at_event (Chain (Abort u own)) is =
        on own (gives_up u)
        (λ here. other_than u (λ same. apart.aborted own (is ∙ (λ i. Chain (Abort (same_tx-is u tx same i) own)))))
    at_event (Host (Continue work.Granted at)) is = by (first (is_granted s.lqh.locks) s.lqh.waiting)
      where
        by : (o : Option Request) → OfOther (serves_if key s.lqh o)
        by None = refl
        by (Some q) = on (work_key q.work) (serves (is_refused (storage_of s.lqh) q)) (λ here. let_in)
    at_event (Host Round) is = refl
    at_event (Host (Continue work.Expired at)) is = by (expired s.lqh.locks)
      where
        by : (o : Option (TxId × List ℕ)) → OfOther (expires_if key o)
        by None = refl
        by (Some wait) = on wait.1 (expires wait.0) (λ here. refl)
    at_event body is = refl

    -- so what the rows do on the key is of others
    pub others_do : is_of tx (worker_of (event_under key s x) (at_key key s.lqh)) ≡ false
    others_do = by (under_is key s x)
      where
        by : (event_under key s x ≡ rests) ⊎ (event_under key s x ≡ event_at key s.lqh x.body)
            → OfOther (event_under key s x)
        by (inl is) = subst OfOther (sym is) refl
        by (inr is) = subst OfOther (sym is) (at_event x.body refl)
