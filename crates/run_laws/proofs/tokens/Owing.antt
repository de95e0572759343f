-- What the laws of signals in transit come to, for one key of a replica at each event, and at each decision.
use Rattle.std.proofs.Common.{◌≡◌, ℕ, Bool, true, false, List, refl, sym, ap, ◌∙◌, arith, true≢false}
use Rattle.std.proofs.lemmas.Bool.{eqb-true}
use Rattle.std.proofs.lemmas.Bool.Decides.{nat_tests}
use Rattle.std.specs.Prelude.{◌==◌, if◌then◌else◌, Option, None, Some}
use Rattle.world_core.specs.Steps.{HostStep}
use Rattle.sig_core.specs.declared.member.Member.{Member}
use Rattle.sig_core.specs.declared.member.TxId.{TxId}
use Rattle.sig_core.specs.declared.place.BlockId.{BlockId}
use Rattle.sig_core.specs.declared.place.BlockId.TheVariants.{Lqh}
use Rattle.sig_core.specs.declared.signal.Body.{Body}
use Rattle.sig_core.specs.declared.signal.Body.TheVariants as body
use Rattle.sig_core.specs.declared.signal.chain.ChainSignal.TheVariants.{LqhKeyReq, Commit, Complete, Abort}
use Rattle.sig_core.specs.declared.signal.chain.RowWork.{RowWork}
use Rattle.sig_core.specs.declared.signal.host.HostSignal.TheVariants.{Round, Continue}
use Rattle.sig_core.specs.declared.signal.host.Work.TheVariants.{Granted, Expired}
use Rattle.sig_core.specs.Same.{same_key}
use Rattle.row_locks.specs.Rounds.{expired}
use Rattle.row_records.proofs.KeyLemmas.{same as same_key-is}
use Rattle.lqh_block.specs.declared.request.Request.{Request}
use Rattle.lqh_block.specs.Operate.{is_granted}
use Rattle.lqh_block.specs.State.{LqhState, storage_of}
use Rattle.sig_core.specs.Work.{work_key}
use Rattle.node_core.specs.Requests.{is_request}
use Rattle.node_core.specs.declared.host.Host.{Host}
use Rattle.node_core.specs.declared.host.Host.TheVariants.{Ldm}
use Rattle.world_core.specs.Machine.{after}
use Rattle.world_core.specs.Start.{Start}
use Rattle.sig_core.proofs.Keys.{same_tx-self}
use Rattle.sig_core.specs.Firsts.{first}
use Rattle.key_laws.specs.Replica.{Event, asks, commits, expires_if, if_on, is_refused, rests, serves_if}
use Rattle.host_laws.specs.ReplicaLaws.{event_for, event_in}
use Rattle.run_laws.specs.GivenUp.{is_carried_out}
use Rattle.run_laws.specs.Owed.{EventsAreOwed, IsOwed}
use Rattle.run_laws.specs.Routes.{primary_host}
use Rattle.run_laws.specs.Tokens.{is_token}
use Rattle.run_laws.specs.Transit.{Comes, logs_of}
use Rattle.run_laws.proofs.fades.Completions.{completions_follow_commits}
use Rattle.run_laws.proofs.causes.Decided.{commits_are_decided}
use Rattle.run_laws.proofs.ways.GivenUp.{aborts_are_of_given_up, commits_are_of_carried_out}
use Rattle.run_laws.proofs.ways.GivenUp.{completions_are_of_carried_out}
use Rattle.run_laws.proofs.tokens.NoneWait.{comers_are_undecided, none_wait_beside, none_wait_where_carried_out}
use Rattle.run_laws.proofs.routes.Events.{commits_end_at_primary, requests_are_for_replicas}

module _ (start : Start) (es : List HostStep) (e : HostStep) (key : List ℕ) (come : Comes start es e) where
  abbrev Owed : Event → Type 0
  Owed event = IsOwed start (logs_of start es) key e.host event

  -- an event of another key owes nothing
  owed_if : (own : List ℕ) (event : Event) → (own ≡ key → Owed event) → Owed (if_on own key event)
  owed_if own event owed = by (same_key own key) refl
    where
      by : (b : Bool) → same_key own key ≡ b → Owed (if b then event else rests)
      by true is = owed (same_key-is own key is)
      by false is = tt

  served : (s : LqhState) (q : Option Request) → Owed (serves_if key s q)
  served s None = tt
  served s (Some q) = owed_if (work_key q.work) _ (λ own. tt)

  expires_owed : (wait : Option (TxId × List ℕ)) → Owed (expires_if key wait)
  expires_owed None = tt
  expires_owed (Some wait) = owed_if wait.1 _ (λ own. tt)

  asked : (tx : TxId) (w : RowWork) (chain : List Member) (at : ℕ) (refused : Bool)
      → e.step.taken.body ≡ body.Chain (LqhKeyReq tx w chain at) → work_key w ≡ key
      → Owed (asks (record { tx = tx; work = w; chain = chain; at = at }) refused)
  asked tx w chain at refused is own =
      let parts = requests_are_for_replicas start es e tx w chain at come is in
      let plain = ap is_request is in
      let token = ap (is_token tx) is ∙ same_tx-self tx in (
        record {
          operation = λ here. parts.0 (here ∙ ap (primary_host start) (sym own));
          image = λ off. parts.1 (λ here. off (here ∙ ap (primary_host start) own));
        },
        (
          none_wait_beside start es e tx key e.host come plain token,
          comers_are_undecided start es e tx come plain token,
        ),
      )

  committed : (tx : TxId) (epoch : ℕ) (chain : List Member) (at : ℕ)
      → e.step.taken.body ≡ body.Chain (Commit tx key epoch chain at) → Owed (commits tx (at == 0))
  committed tx epoch chain at is =
      by (at == 0) refl (commits_are_of_carried_out start es e tx key epoch chain at come is)
    where
      here : (e.host == primary_host start key) ≡ (at == 0)
      here = sym (commits_end_at_primary start es e tx key epoch chain at come is)

      equal : (one other : ℕ) → one ≡ other → (one == other) ≡ true
      equal one other same = grind (arith, nat_tests, same)

      by : (b : Bool) → (at == 0) ≡ b → is_carried_out start (logs_of start es) tx ≡ true → Owed (commits tx b)
      by true at_first out = (
        eqb-true e.host (primary_host start key) (here ∙ at_first),
        (
          none_wait_where_carried_out start es tx key e.host come.before out,
          record {
            decided = commits_are_decided start es e tx key epoch chain at come is;
            carried = out;
          },
        ),
      )
      by false later out = (
        (λ same. true≢false (sym (equal e.host (primary_host start key) same) ∙ (here ∙ later))),
        record { decided = commits_are_decided start es e tx key epoch chain at come is; carried = out },
      )

  at_block : (s : LqhState) (at_one : BlockId) (b : Body) → e.step.taken.body ≡ b → Owed (event_for key s at_one b)
  at_block s Lqh (body.Chain (LqhKeyReq tx w chain at)) is = owed_if (work_key w) _
      (asked tx w chain at (is_refused (storage_of s) (record { tx = tx; work = w; chain = chain; at = at })) is)
  at_block s Lqh (body.Host (Continue Granted at)) is = served s (first (is_granted s.locks) s.waiting)
  at_block s Lqh (body.Chain (Commit tx own epoch chain at)) is =
      owed_if own _ (λ same. committed tx epoch chain at (is ∙ ap (λ k. body.Chain (Commit tx k epoch chain at)) same))
  at_block s Lqh (body.Chain (Complete tx own chain at)) is =
      owed_if own _ (λ same. let now = is ∙ ap (λ k. body.Chain (Complete tx k chain at)) same in (
        none_wait_where_carried_out start es tx key e.host come.before
            (completions_are_of_carried_out start es e tx key chain at come now),
        completions_follow_commits start es e tx key chain at come now,
      ))
  at_block s Lqh (body.Chain (Abort tx own)) is =
      owed_if own _ (λ same. aborts_are_of_given_up start es e tx own come is)
  at_block s Lqh (body.Host Round) is = tt
  at_block s Lqh (body.Host (Continue Expired at)) is = expires_owed (expired s.locks)
  at_block s Lqh _ is = tt
  at_block s _ b is = tt

  at_any : (g : Host) → Owed (event_in key g e.step.taken)
  at_any (Ldm s) = at_block s e.step.taken.to.block e.step.taken.body refl
  at_any _ = tt

pub events_owed : EventsAreOwed
events_owed start es e key come = at_any start es e key come (after start e.host (logs_of start es e.host))
