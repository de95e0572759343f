-- A row is completed at a place of its chain behind the place after it, so nobody waits behind the second place for a
-- transaction that is carried out.
use Rattle.std.proofs.Common.{◌≡◌, ◌≢◌, ◌<◌, ◌+◌, ℕ, zero, suc, Bool, true, false, List, [], ◌∷◌, length, refl, ap}
use Rattle.std.proofs.Common.{◌∙◌, subst, arith}
use Rattle.std.proofs.lemmas.Bool.{or_left, true≢false}
use Rattle.std.specs.List.{flat_map}
use Rattle.std.specs.Prelude.{◌-◌, ◌==◌, if◌then◌else◌}
use Rattle.run_theory.proofs.EventCases.{event_keeps, event_own}
use Rattle.run_theory.proofs.EachSent.{each_mapped}
use Rattle.run_theory.proofs.Pasts.{each_append, each_map}
use Rattle.run_theory.specs.Lists.{Each}
use Rattle.sig_core.proofs.Keys.{same_key-self, same_tx-self}
use Rattle.sig_core.specs.declared.member.Member.{Member}
use Rattle.sig_core.specs.declared.member.TxId.{TxId}
use Rattle.sig_core.specs.declared.outs.Outgoing.{Outgoing}
use Rattle.sig_core.specs.declared.place.BlockId.TheVariants.{Lqh}
use Rattle.sig_core.specs.declared.signal.Body.{Body}
use Rattle.sig_core.specs.declared.signal.Body.TheVariants.{Chain}
use Rattle.sig_core.specs.declared.signal.chain.ChainSignal.TheVariants.{Complete}
use Rattle.sig_core.specs.Chain.{last_place, node_at}
use Rattle.sig_core.specs.Same.{same_tx}
use Rattle.frag_map.specs.Layout.{Layout, chain_of}
use Rattle.lqh_block.proofs.EachLqh.{RequestSends, lqh_sends_each}
use Rattle.lqh_block.specs.declared.request.Request.{Request}
use Rattle.lqh_block.specs.Lqh.{lqh_table}
use Rattle.tc_block.proofs.LiveKeeps.{AllAre, TurnsKeep, is_chain, live_keeps}
use Rattle.tc_block.specs.declared.phase.Phase.{Phase}
use Rattle.tc_block.specs.declared.phase.Phase.TheVariants.{Open, Verifying, Committing, Completing, Aborting}
use Rattle.tc_block.specs.declared.touched.Touched.{Touched}
use Rattle.tc_block.specs.declared.transaction.Transaction.{Transaction}
use Rattle.tc_block.specs.Sends.{abort_of, aborts_of, complete_if, front_sends, key_sends, phase_sends}
use Rattle.tc_block.specs.State.{TcState}
use Rattle.tc_block.specs.Tc.{tc_table}
use Rattle.node_core.proofs.HostCases.{each_send}
use Rattle.node_core.specs.Blocks.{api_of, dih_of, has_lqh, lqh_of, tc_of}
use Rattle.world_core.specs.Hosts.{rows_host}
use Rattle.world_core.specs.Machine.{after, machine, step_after}
use Rattle.world_core.specs.Start.{Start}
use Rattle.world_core.specs.Steps.{Addressed, HostStep}
use Rattle.key_laws.specs.PrimaryEvents.{AtPrimary, ended_after}
use Rattle.key_laws.specs.Replica.{Event, completes, event_at, rests}
use Rattle.host_laws.proofs.hosts.DihSends.{dih_kinds}
use Rattle.host_laws.proofs.hosts.SendKinds.{each_of, is_dih_kind}
use Rattle.host_laws.specs.ReplicaLaws.{event_in}
use Rattle.run_laws.proofs.routes.Routes.{api_plain, dih_plain}
use Rattle.run_laws.specs.Circle.{primary_along}
use Rattle.run_laws.specs.Routes.{IsCompletionRouted, IsRouted}
use Rattle.run_laws.specs.Transit.{AreInTransit, Comes, IsRun, logs_of}
use Rattle.run_laws.proofs.routes.Addressed.{rows_addressed}
use Rattle.run_laws.proofs.routes.Events.{coming_are_routed}
use Rattle.run_laws.proofs.routes.Sends.{each_flat_of}
use Rattle.run_laws.proofs.circle.RowsEvents.{event_rows}
use Rattle.run_laws.proofs.transit.Transit.{along_transit}
use Rattle.run_laws.proofs.ways.Passed.{api_each}
use Rattle.run_laws.proofs.transit.Weighing.{each_between, each_joins}
use Rattle.order_laws.specs.LetGo.{has_let_go}
use Rattle.order_laws.proofs.Passed.{ended_stays}

-- a coordinator completes a row from the last place of its chain on
abbrev IsLast : Body → Type 0
IsLast (Chain (Complete tx key chain at)) = at ≡ last_place chain
IsLast body = Unit {0}

abbrev AreLast : List Outgoing → Type 0
AreLast sends = Each (λ (o : Outgoing). IsLast o.body) sends

plain_last : (body : Body) → is_chain body ≡ false → IsLast body
plain_last (Chain c) off = absurd (true≢false off)
plain_last _ off = tt

aborts_last : (tx : TxId) (key : List ℕ) (chain : List Member) → AreLast (aborts_of tx key chain)
aborts_last tx key chain = each_mapped (λ (o : Outgoing). IsLast o.body) (abort_of tx key) chain (λ r. tt)

complete_last : (tx : TxId) (t : Touched) (b : Bool) → AreLast (complete_if tx t b)
complete_last tx t true = (refl, tt)
complete_last tx t false = tt

key_last : (layout : Layout) (tx : TxId) (phase : Phase) (t : Touched) → AreLast (key_sends layout tx phase t)
unfolding key_sends
key_last layout tx Open t = tt
key_last layout tx Verifying t = tt
key_last layout tx (Committing epoch awaited) t = (tt, tt)
key_last layout tx (Completing epoch awaited) t = complete_last tx t t.written
key_last layout tx (Aborting why verifying awaited) t = aborts_last tx t.key (chain_of layout t.key)

front_last : (tx : TxId) (phase : Phase) → AreLast (front_sends tx phase)
unfolding front_sends
front_last tx Open = tt
front_last tx Verifying = tt
front_last tx (Committing epoch awaited) = tt
front_last tx (Completing epoch awaited) = (tt, tt)
front_last tx (Aborting why verifying awaited) = tt

all_plain : (touched : List Touched) → Each (λ (t : Touched). Unit {0}) touched
all_plain [] = tt
all_plain (t ∷ touched) = (tt, all_plain touched)

phase_last : (layout : Layout) (tx : TxId) (phase : Phase) (touched : List Touched)
    → AreLast (phase_sends layout tx phase touched)
unfolding phase_sends
phase_last layout tx phase touched =
    each_append (λ (o : Outgoing). IsLast o.body) (front_sends tx phase)
    (flat_map (key_sends layout tx phase) touched) (front_last tx phase)
    (each_flat_of (λ (t : Touched). Unit {0}) (λ (o : Outgoing). IsLast o.body) (key_sends layout tx phase) touched
    (λ t is. key_last layout tx phase t) (all_plain touched))

turns_last : (layout : Layout) → TurnsKeep (λ (t : Transaction). Unit {0}) (λ (o : Outgoing). IsLast o.body) layout
turns_last layout = record {
  phase = λ t phase fine. tt;
  unasked = λ t fine. tt;
  answered = λ t asked answer is fine. tt;
  sends = λ tx t phase fine. phase_last layout tx phase t.touched;
  aborts = λ tx key. aborts_last tx key (chain_of layout key);
  plain = λ o off. plain_last o.body off;
}

any_live : (live : List (TxId × Transaction)) → AllAre (λ (t : Transaction). Unit {0}) live
any_live [] = tt
any_live (e ∷ live) = (tt, any_live live)

tc_last : (s : TcState) (body : Body) → AreLast (tc_table s body).effects.sends
tc_last s body =
    (live_keeps (λ (t : Transaction). Unit {0}) (λ (o : Outgoing). IsLast o.body) s body tt (turns_last s.layout)
    (λ tx t op fine. record { state = tt; sends = (tt, tt) }) (any_live s.live)).sends

module _ (start : Start) where
  -- a completion that comes to a place tells that the next place has let go
  abbrev pub TellsBehind : (ℕ → List HostStep) → Body → Type 0
  TellsBehind logs (Chain (Complete tx key chain at)) = at + 1 < length chain
      → has_let_go start logs key (rows_host start (node_at chain (at + 1))) tx ≡ true
  TellsBehind logs body = Unit {0}

  plain_tells : (logs : ℕ → List HostStep) (body : Body) → is_chain body ≡ false → TellsBehind logs body
  plain_tells logs (Chain c) off = absurd (true≢false off)
  plain_tells logs _ off = tt

  last_tells : (logs : ℕ → List HostStep) (body : Body) → IsLast body → TellsBehind logs body
  last_tells logs (Chain (Complete tx key chain at)) is = λ inside. absurd (omega (arith, is, inside))
  last_tells logs _ is = tt

  pub let_go_more : (es : List HostStep) (e : HostStep) (key : List ℕ) (h : ℕ) (tx : TxId)
      → has_let_go start (logs_of start es) key h tx ≡ true → has_let_go start (logs_of start (e ∷ es)) key h tx ≡ true
  let_go_more es e key h tx =
      let log = logs_of start es e.host in
      event_keeps (machine start) e es (λ k l. (primary_along start k key l).ended tx ≡ true)
      (ended_stays (event_in key (after start e.host log) e.step.taken) (primary_along start e.host key log) tx) h

  more_tells : (es : List HostStep) (e : HostStep) (body : Body) → TellsBehind (logs_of start es) body
      → TellsBehind (logs_of start (e ∷ es)) body
  more_tells es e (Chain (Complete tx key chain at)) told =
      λ inside. let_go_more es e key (rows_host start (node_at chain (at + 1))) tx (told inside)
  more_tells es e _ told = tt

  behind_is : (at : ℕ) → (at == 0) ≡ false → at ≡ (at - 1) + 1
  behind_is zero off = absurd (true≢false off)
  behind_is (suc at) off = omega arith

  -- where a completion is taken the host has let go
  taken_let_go : (es : List HostStep) (e : HostStep) → Comes start es e
      → has_lqh (after start e.host (logs_of start es e.host)) ≡ true → e.step.taken.to.block ≡ Lqh
      → (tx : TxId) (key : List ℕ) (chain : List Member) (at : ℕ)
      → e.step.taken.body ≡ Chain (Complete tx key chain at)
      → has_let_go start (logs_of start (e ∷ es)) key (rows_host start (node_at chain at)) tx ≡ true
  taken_let_go es e come runs to tx key chain at is =
      event_own (machine start) e es (λ h l. (primary_along start h key l).ended tx ≡ true)
      (rows_host start (node_at chain at)) host_is
      (ap (λ (event : Event). ended_after event p tx)
      (event_rows key (after start e.host log) e.step.taken runs to
      ∙ ap (event_at key (lqh_of (after start e.host log))) is)
      ∙ ap (λ b. ended_after (if b then completes tx else rests) p tx) (same_key-self key)
      ∙ or_left (same_tx tx tx) (p.ended tx) (same_tx-self tx))
    where
      log : List HostStep
      log = logs_of start es e.host

      p : AtPrimary
      p = primary_along start e.host key log

      routed : IsCompletionRouted start e.step.taken.to.node key chain at
      routed = subst (IsRouted start e.step.taken.to.node) is (coming_are_routed start es e come).routed

      host_is : e.host ≡ rows_host start (node_at chain at)
      host_is = rows_addressed start es e come to ∙ ap (rows_host start) routed.sent.node_is

  sends_tell : (es : List HostStep) (e : HostStep) → Comes start es e
      → Each (λ (o : Outgoing). TellsBehind (logs_of start (e ∷ es)) o.body)
      (step_after start e.host (logs_of start es e.host) e).effects.sends
  sends_tell es e come =
      each_send (λ (o : Outgoing). TellsBehind now o.body) (after start e.host (logs_of start es e.host)) e.step.taken
      (record {
        api = λ runs at.
            api_each (λ (o : Outgoing). TellsBehind now o.body) (λ o is. plain_tells now o.body (api_plain o.body is))
            (λ name node. tt) (api_of (after start e.host (logs_of start es e.host))) e.step.taken.body;
        tc = λ runs at.
            each_map (λ (o : Outgoing). IsLast o.body) (λ (o : Outgoing). TellsBehind now o.body) _
            (λ o is. last_tells now o.body is)
            (tc_last (tc_of (after start e.host (logs_of start es e.host))) e.step.taken.body);
        dih = λ runs at.
            each_of is_dih_kind (λ (o : Outgoing). TellsBehind now o.body)
            (λ o is. plain_tells now o.body (dih_plain o.body is)) _
            (dih_kinds (dih_of (after start e.host (logs_of start es e.host))) e.step.taken.body);
        rows = λ runs at. rows_tell runs at;
      })
    where
      now : ℕ → List HostStep
      now = logs_of start (e ∷ es)

      request : (r : Request) → RequestSends (λ (o : Outgoing). TellsBehind now o.body) r
      request r = record {
        log_full = λ used reserved need. tt;
        table_full = λ rows. tt;
        answers = λ a. tt;
        passes = λ image next there. tt;
      }

      rows_tell : has_lqh (after start e.host (logs_of start es e.host)) ≡ true → e.step.taken.to.block ≡ Lqh
          → Each (λ (o : Outgoing). TellsBehind now o.body)
          (lqh_table (lqh_of (after start e.host (logs_of start es e.host))) e.step.taken.body).effects.sends
      rows_tell runs to =
          lqh_sends_each (λ (o : Outgoing). TellsBehind now o.body)
          (lqh_of (after start e.host (logs_of start es e.host))) e.step.taken.body (record {
            asked = λ r same. request r;
            waited = λ at r there. request r;
            grants_more = tt;
            expires_more = tt;
            commits_on = λ tx key epoch chain at same behind. tt;
            committed = λ tx key epoch chain at sent first. tt;
            completes_on = λ tx key chain at same behind inside.
                subst (λ place. has_let_go start now key (rows_host start (node_at chain place)) tx ≡ true)
                (behind_is at behind) (taken_let_go es e come runs to tx key chain at same);
            completed = λ tx key chain at sent first. tt;
            aborted = λ tx key sent. tt;
            gives_up = λ tx key given. tt;
            times_out = λ tx key. tt;
            waits = λ tx key ahead sent there. tt;
            dumps = λ at rows next sent. tt;
          })

  pub tells_along : (es : List HostStep) (xs : List Addressed) → IsRun start es → AreInTransit start es xs
      → Each (λ (x : Addressed). TellsBehind (logs_of start es) x.signal.body) xs
  tells_along =
      along_transit start (λ es xs. Each (λ (x : Addressed). TellsBehind (logs_of start es) x.signal.body) xs) tt
      (λ es e before between come transit all takes.
      each_joins (λ to body. TellsBehind (logs_of start (e ∷ es)) body) start e.host (logs_of start es e.host) e between
      (sends_tell es e come)
      (each_map (λ (x : Addressed). TellsBehind (logs_of start es) x.signal.body)
      (λ (x : Addressed). TellsBehind (logs_of start (e ∷ es)) x.signal.body) between
      (λ x told. more_tells es e x.signal.body told)
      (each_between (λ (x : Addressed). TellsBehind (logs_of start es) x.signal.body) e before between takes all)))
