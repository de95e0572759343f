-- Whom a transaction waits for behind the second place of a chain is given up.
use Rattle.std.proofs.Common.{◌≡◌, ◌≢◌, ◌⊎◌, ◌<◌, ◌+◌, ℕ, true, List, [], ◌∷◌, length, refl, sym, ap, ◌∙◌, subst}
use Rattle.std.proofs.Common.{arith, inl, inr, eqb-true}
use Rattle.std.proofs.lemmas.Bool.{false≢true, true≢false}
use Rattle.run_theory.proofs.EventCases.{event_cases}
use Rattle.run_theory.proofs.Runs.{log_of-past}
use Rattle.sig_core.specs.declared.member.TxId.{TxId}
use Rattle.sig_core.specs.declared.signal.Body.{Body}
use Rattle.sig_core.specs.declared.signal.Body.TheVariants.{Chain}
use Rattle.sig_core.specs.declared.signal.chain.ChainSignal.TheVariants.{Commit, Complete, Abort}
use Rattle.sig_core.specs.Chain.{node_at}
use Rattle.row_records.proofs.KeyLemmas.{same}
use Rattle.node_core.specs.Blocks.{lqh_of}
use Rattle.node_core.specs.Requests.{is_request}
use Rattle.node_core.specs.Row.{row}
use Rattle.world_core.specs.Hosts.{rows_host}
use Rattle.world_core.specs.Machine.{after, machine}
use Rattle.world_core.specs.Start.{Start}
use Rattle.world_core.specs.Steps.{Addressed, HostStep}
use Rattle.key_laws.specs.PrimaryEvents.{AtPrimary, ended_after}
use Rattle.host_laws.specs.ReplicaLaws.{event_in}
use Rattle.run_laws.specs.Circle.{primary_along}
use Rattle.run_laws.specs.GivenUp.{is_carried_out, is_given_up}
use Rattle.run_laws.specs.Routes.{IsCompletionRouted, IsForBlock, IsRouted, primary_host, replica_host, replicas}
use Rattle.run_laws.specs.Transit.{Comes, IsRun, logs_of}
use Rattle.run_laws.proofs.routes.Addressed.{rows_addressed}
use Rattle.run_laws.proofs.ways.GivenUp.{aborts_are_of_given_up}
use Rattle.run_laws.proofs.routes.Events.{coming_are_routed, commits_end_at_primary, placed}
use Rattle.run_laws.proofs.routes.Chain.{hosts_are_apart, replicas_some}
use Rattle.run_laws.proofs.circle.RowsEvents.{EventCase, event_case, no_event, of_rows}
use Rattle.run_laws.proofs.transit.Transit.{comes, earlier}
use Rattle.run_laws.proofs.transit.Runs.{taking}
use Rattle.run_laws.proofs.ways.Ways.{given_more}
use Rattle.run_laws.proofs.transit.Weighing.{each_taken}
use Rattle.order_laws.specs.LetGo.{LaterHoldersAreGivenUp, has_let_go}
use Rattle.order_laws.proofs.Carried.{carried_out_stay_out}
use Rattle.order_laws.proofs.Completed.{TellsBehind, let_go_more, tells_along}
use Rattle.order_laws.proofs.Ends.{Ends, body_ends}
use Rattle.order_laws.proofs.LetGo.{holders_have_let_go}
use Rattle.order_laws.proofs.Over.{who_lets_go_is_over}

module _ (start : Start) (key : List ℕ) (at : ℕ) (behind : 0 < at) (inside : at + 1 < length (replicas start key)) where
  -- given up, or let go of at the next place
  abbrev IsPast : (ℕ → List HostStep) → TxId → Type 0
  IsPast logs tx = (is_given_up start logs tx ≡ true)
      ⊎ (has_let_go start logs key (replica_host start key (at + 1)) tx ≡ true)

  ends_told : (es : List HostStep) (e : HostStep) → Comes start es e → e.host ≡ replica_host start key at
      → (body : Body) → e.step.taken.body ≡ body → Ends key (IsPast (logs_of start es)) body
  ends_told es e come here (Chain (Commit tx own epoch chain place)) is = λ same last.
      let first_is : e.host ≡ primary_host start own =
      eqb-true e.host (primary_host start own)
      (sym (commits_end_at_primary start es e tx own epoch chain place come is) ∙ last) in
      let zero_is : at ≡ 0 =
      hosts_are_apart start key at 0 come.before.shape (omega (arith, inside))
      (replicas_some start come.before.shape key)
      (sym here ∙ first_is ∙ ap (primary_host start) same) in
      absurd (omega (arith, behind, zero_is))
  ends_told es e come here (Chain (Complete tx own chain place)) is = λ same. inr (told same)
    where
      told : own ≡ key → has_let_go start (logs_of start es) key (replica_host start key (at + 1)) tx ≡ true
      told same =
          let coming = coming_are_routed start es e come in
          let routed : IsCompletionRouted start e.step.taken.to.node own chain place =
          subst (IsRouted start e.step.taken.to.node) is coming.routed in
          let along : chain ≡ replicas start key = routed.along ∙ ap (replicas start) same in
          let own_place = placed start e.host e.step.taken.to.node key chain place
          (rows_addressed start es e come (subst (IsForBlock e.step.taken.to) is coming.block)) along routed.sent in
          let place_is : place ≡ at =
          hosts_are_apart start key place at come.before.shape own_place.inside (omega (arith, inside))
          (sym own_place.host_is ∙ here) in
          let t = taking start es e come in
          let tells : TellsBehind start (logs_of start es) e.step.taken.body =
          each_taken (λ (x : Addressed). TellsBehind start (logs_of start es) x.signal.body) e t.before t.between
          (ap is_request is) t.takes (tells_along start es t.before come.before t.transit) in
          let next = subst (TellsBehind start (logs_of start es)) is tells
          (omega (arith, ap length along, place_is, inside)) in
          subst (λ k. has_let_go start (logs_of start es) k (replica_host start key (at + 1)) tx ≡ true) same
          (subst (λ h. has_let_go start (logs_of start es) own h tx ≡ true)
          (ap (λ c. rows_host start (node_at c (place + 1))) along
          ∙ ap (λ n. replica_host start key (n + 1)) place_is) next)
  ends_told es e come here (Chain (Abort tx own)) is =
      λ same. inl (aborts_are_of_given_up start es e tx own come is)
  ends_told es e come here _ is = tt

  past_more : (es : List HostStep) (e : HostStep) (tx : TxId) → IsPast (logs_of start es) tx
      → IsPast (logs_of start (e ∷ es)) tx
  past_more es e tx (inl given) =
      inl (given_more start (logs_of start es) (logs_of start (e ∷ es)) tx
      (λ h. log_of-past (machine start) e es h) given)
  past_more es e tx (inr gone) = inr (let_go_more start es e key (replica_host start key (at + 1)) tx gone)

  past_along : (tx : TxId) (es : List HostStep) → IsRun start es
      → has_let_go start (logs_of start es) key (replica_host start key at) tx ≡ true → IsPast (logs_of start es) tx
  past_along tx [] run is = absurd (false≢true is)
  past_along tx (e ∷ es) run is =
      let before = past_along tx es (earlier start es e run) in
      past_more es e tx
      (event_cases (machine start) e es h
      (λ l. (primary_along start h key l).ended tx ≡ true → IsPast (logs_of start es) tx)
      (λ here now. joined_up before (event_told here now (event_case key (after start h log) e.step.taken)))
      (λ off. before) is)
    where
      h : ℕ
      h = replica_host start key at

      log : List HostStep
      log = logs_of start es h

      p : AtPrimary
      p = primary_along start h key log

      joined_up : (p.ended tx ≡ true → IsPast (logs_of start es) tx)
          → (p.ended tx ≡ true) ⊎ IsPast (logs_of start es) tx → IsPast (logs_of start es) tx
      joined_up before (inl had) = before had
      joined_up before (inr past) = past

      event_told : e.host ≡ h → ended_after (event_in key (after start h log) e.step.taken) p tx ≡ true
          → EventCase key (after start h log) e.step.taken (row (after start h log) e.step.taken)
          → (p.ended tx ≡ true) ⊎ IsPast (logs_of start es) tx
      event_told here now (of_rows step at_is) =
          body_ends key (IsPast (logs_of start es)) p tx (lqh_of (after start h log)) e.step.taken.body
          (ends_told es e (comes start es e run) here e.step.taken.body refl)
          (ap (λ event. ended_after event p tx) (sym at_is) ∙ now)
      event_told here now (no_event at_is) = inl (ap (λ event. ended_after event p tx) (sym at_is) ∙ now)

pub later_holders_are_given_up : LaterHoldersAreGivenUp
later_holders_are_given_up start es key at holder waiter run behind w =
    by (past_along start key at behind w.inside holder es run gone)
    (who_lets_go_is_over start es key (replica_host start key at) holder run gone)
  where
    gone : has_let_go start (logs_of start es) key (replica_host start key at) holder ≡ true
    gone = holders_have_let_go start es key at holder waiter run w

    by : (is_given_up start (logs_of start es) holder ≡ true)
        ⊎ (has_let_go start (logs_of start es) key (replica_host start key (at + 1)) holder ≡ true)
        → (is_given_up start (logs_of start es) holder ≡ true) ⊎ (is_carried_out start (logs_of start es) holder ≡ true)
        → is_given_up start (logs_of start es) holder ≡ true
    by (inl given) any = given
    by (inr past) (inl given) = given
    by (inr past) (inr carried) =
        absurd (true≢false (sym w.holding
        ∙ (carried_out_stay_out start es key (replica_host start key (at + 1)) holder run carried past).unheld))
