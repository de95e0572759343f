-- What the host of a transaction's coordinator sends to the first place of a chain: whether the newest is a request or
-- an abort. Where a request is it still, no abort was sent; and whose request was sent is known.
use Rattle.std.proofs.Common.{◌≡◌, ◌≢◌, ◌≤◌, ℕ, zero, suc, Bool, true, false, List, [], ◌∷◌, refl, sym}
use Rattle.std.proofs.Common.{ap, ◌∙◌, arith, eq-eqb}
use Rattle.std.proofs.lemmas.Bool.{eqb-true, false≢true}
use Rattle.std.specs.Prelude.{◌==◌, ◌&&◌, if◌then◌else◌}
use Rattle.run_theory.proofs.EventCases.{event_cases}
use Rattle.run_theory.specs.Counts.{one_if}
use Rattle.run_theory.specs.Links.{put, sent}
use Rattle.run_theory.specs.Lists.{Each}
use Rattle.sig_core.specs.declared.member.TxId.{TxId}
use Rattle.sig_core.specs.declared.outs.Outgoing.{Outgoing}
use Rattle.sig_core.specs.declared.place.Place.{Place}
use Rattle.sig_core.specs.declared.signal.Body.{Body}
use Rattle.sig_core.specs.declared.signal.Body.TheVariants.{Chain, Host}
use Rattle.sig_core.specs.declared.signal.chain.ChainSignal.TheVariants.{Abort, LqhKeyReq}
use Rattle.sig_core.specs.declared.signal.host.HostSignal.TheVariants.{Continue}
use Rattle.sig_core.specs.declared.signal.host.Work.TheVariants as work
use Rattle.sig_core.specs.Chain.{node_at}
use Rattle.sig_core.specs.Same.{same_key, same_tx}
use Rattle.sig_core.specs.Work.{work_key}
use Rattle.tc_block.proofs.EachTurn.{is_onward}
use Rattle.tc_block.proofs.LiveKeeps.{SendsBeside}
use Rattle.tc_block.specs.State.{TcState}
use Rattle.world_core.specs.Hosts.{first_membership, home, host_for, rows_host}
use Rattle.world_core.specs.Machine.{addressed, all_addressed, counted, machine, sent_count, step_after}
use Rattle.world_core.specs.Start.{Start}
use Rattle.world_core.specs.Steps.{Addressed, HostStep}
use Rattle.host_laws.proofs.rows.Operations.{is_lqh}
use Rattle.run_laws.specs.Live.{live_at}
use Rattle.run_laws.specs.Routes.{replica_host, replicas}
use Rattle.run_laws.specs.Transit.{AreInTransit, Comes, IsRun, logs_of}
use Rattle.run_laws.proofs.transit.Transit.{comes, earlier}
use Rattle.run_laws.proofs.transit.Runs.{runs_have_transit}
use Rattle.run_laws.proofs.hosts.TxTurns.{OthersSend}
use Rattle.run_laws.proofs.transit.Weighing.{in_sends, in_transit, joins_weigh, none_passes}
use Rattle.order_laws.specs.Unanswered.{asks_on, is_part_on}
use Rattle.order_laws.proofs.AbortingTurns.{is_abort_to}
use Rattle.order_laws.proofs.FirstTaken.{asks_last, last_by}
use Rattle.order_laws.proofs.GivenUp.{others_unbacked}
use Rattle.order_laws.proofs.Leads.{lead, lqh_block_is}
use Rattle.order_laws.proofs.Standing.{IsKnown, asks_known, known_next}
use Rattle.order_laws.proofs.Unanswered as part
use Rattle.order_laws.proofs.Unanswered.{others_apart, parts_are_unanswered}
use Rattle.order_laws.proofs.UnansweredTurns.{is_backing, parts_out}

module _ (tx : TxId) (key : List ℕ) where
  -- where it takes nothing back and sends no part of an operation
  abbrev pub IsMute : Outgoing → Type 0
  IsMute o = (is_backing tx o.body ≡ false) × (is_part_on tx key o.body ≡ false)

  abbrev pub AreMute : List Outgoing → Type 0
  AreMute sends = Each IsMute sends

  both_each : (sends : List Outgoing) → Each (λ (o : Outgoing). is_backing tx o.body ≡ false) sends
      → Each (λ (o : Outgoing). is_part_on tx key o.body ≡ false) sends → AreMute sends
  both_each [] a b = tt
  both_each (o ∷ sends) a b = ((a.0, b.0), both_each sends a.1 b.1)

  pub others_mute : (s : TcState) (body : Body) → OthersSend IsMute tx s body
  others_mute s body one off its t =
      both_each _ (others_unbacked tx s body one off its t) (others_apart tx key s body one off its t)

  pub beside_mute : (s : TcState) → SendsBeside IsMute s
  beside_mute s = record {
    full = λ name. ((refl, refl), tt);
    begins = λ name. ((refl, refl), tt);
    passes = λ one ahead. ((refl, refl), tt);
  }

  -- what such a signal makes of the newest one
  mute_one : (body : Body) (was : Bool) → is_backing tx body ≡ false → is_part_on tx key body ≡ false
      → last_by tx key body was ≡ was
  mute_one (Chain (LqhKeyReq other work chain at)) was off none = ap (λ b. if b then true else was) none
  mute_one (Chain (Abort other own)) was off none =
      ap (λ b. if b && same_key own key then false else was) off
  mute_one _ was off none = refl

module _ (start : Start) (tx : TxId) (key : List ℕ) where
  -- the host of the key's first place, and what a step sends there
  abbrev first_host : ℕ
  first_host = replica_host start key 0

  abbrev pub last_in : List Outgoing → Bool → Bool
  last_in [] was = was
  last_in (o ∷ more) was =
      last_in more (if host_for start o.to == replica_host start key 0 then last_by tx key o.body was else was)

  put_last : (h stamp : ℕ) (count : ℕ → ℕ) (sends : List Outgoing) (before : List Addressed)
      → asks_last tx key (put (machine start) (replica_host start key 0)
      (all_addressed (first_membership start) h stamp count sends) before)
      ≡ last_in sends (asks_last tx key before)
  put_last h stamp count [] before = refl
  put_last h stamp count (o ∷ more) before =
      put_last h stamp (counted (host_for start o.to) count) more
      (if host_for start o.to == replica_host start key 0 then one ∷ before else before)
      ∙ ap (last_in more) (by (host_for start o.to == replica_host start key 0))
    where
      one : Addressed
      one = addressed (first_membership start) h stamp (count (host_for start o.to)) o

      by : (b : Bool) → asks_last tx key (if b then one ∷ before else before)
          ≡ (if b then last_by tx key o.body (asks_last tx key before) else asks_last tx key before)
      by true = refl
      by false = refl

  pub sent_step : (h : ℕ) (e : HostStep) (log : List HostStep)
      → asks_last tx key (sent (machine start) h (replica_host start key 0) (e ∷ log))
      ≡ last_in (step_after start h log e).effects.sends
      (asks_last tx key (sent (machine start) h (replica_host start key 0) log))
  sent_step h e log =
      put_last h e.step.stamp (sent_count start h log) (step_after start h log e).effects.sends
      (sent (machine start) h (replica_host start key 0) log)

  pub mute_in : (sends : List Outgoing) (was : Bool) → AreMute tx key sends → last_in sends was ≡ was
  mute_in [] was all = refl
  mute_in (o ∷ more) was all =
      mute_in more (if host_for start o.to == replica_host start key 0 then last_by tx key o.body was else was) all.1
      ∙ by (host_for start o.to == replica_host start key 0)
    where
      by : (b : Bool) → (if b then last_by tx key o.body was else was) ≡ was
      by true = mute_one tx key o.body was all.0.0 all.0.1
      by false = refl

  abbrev pub wanted : List Outgoing → Place → Body → ℕ
  wanted list to body = lead tx (is_abort_to tx key (node_at (replicas start key) 0)) list to body

  -- what leads there by going on alone
  abbrev pub onward : List Outgoing → Place → Body → ℕ
  onward list to body =
      if is_onward body then lead tx (is_abort_to tx key (node_at (replicas start key) 0)) list to body else 0

  pub onward_few : (list : List Outgoing) (to : Place) (body : Body) → onward list to body ≤ wanted list to body
  onward_few list to body = by (is_onward body)
    where
      by : (b : Bool) → (if b then wanted list to body else 0) ≤ wanted list to body
      by true = omega arith
      by false = omega arith

  -- where a request is the newest still, no abort was sent, so what leads there does so by going on
  pub record StillAsks (list : List Outgoing) (sends : List Outgoing) (was : Bool) : Type 0 where
    pub was_so : was ≡ true
    pub less : in_sends (wanted list) sends ≤ in_sends (onward list) sends

  one_asks : (list : List Outgoing) (to : Place) (body : Body) (was : Bool) → is_part_on tx key body ≡ false
      → (if host_for start to == replica_host start key 0 then last_by tx key body was else was) ≡ true
      → (was ≡ true) × (wanted list to body ≤ onward list to body)
  one_asks list to (Chain (LqhKeyReq other work chain at)) was off is =
      (by (host_for start to == first_host) is, omega arith)
    where
      by : (b : Bool)
          → (if b then (if same_tx other tx && same_key (work_key work) key then true else was) else was) ≡ true
          → was ≡ true
      by true q = sym (ap (λ b. if b then true else was) off) ∙ q
      by false q = q
  one_asks list to (Chain (Abort other own)) was off is =
      by (is_lqh to.block) refl (to.node == node_at (replicas start key) 0) refl (same_tx other tx && same_key own key)
      refl is
    where
      there : is_lqh to.block ≡ true → (to.node == node_at (replicas start key) 0) ≡ true
          → host_for start to ≡ replica_host start key 0
      there rows node =
          ap (λ b. host_for start (record { node = to.node; block = b })) (lqh_block_is to.block rows)
          ∙ ap (rows_host start) (eqb-true to.node (node_at (replicas start key) 0) node)

      rest : (b c : Bool) → c ≡ false → (if b then (if c then false else was) else was) ≡ true → was ≡ true
      rest true c off q = sym (ap (λ c. if c then false else was) off) ∙ q
      rest false c off q = q

      some : (b : Bool) → (if b then false else was) ≡ true → was ≡ true
      some true q = absurd (false≢true q)
      some false q = q

      by : (a : Bool) → is_lqh to.block ≡ a → (b : Bool) → (to.node == node_at (replicas start key) 0) ≡ b → (c : Bool)
          → (same_tx other tx && same_key own key) ≡ c
          → (if host_for start to == replica_host start key 0 then
          (if same_tx other tx && same_key own key then false else was) else was) ≡ true
          → (was ≡ true)
          × (one_if ((is_lqh to.block && (to.node == node_at (replicas start key) 0))
          && (same_tx other tx && same_key own key)) ≤ 0)
      by true p true q true r is =
          let at : (host_for start to == replica_host start key 0) ≡ true = eq-eqb _ _ (there p q) in
          absurd (false≢true (sym (ap (λ b. if b then (if same_tx other tx && same_key own key then false else was)
          else was) at ∙ ap (λ c. if c then false else was) r) ∙ is))
      by true p true q false r is = (
        rest (host_for start to == replica_host start key 0) (same_tx other tx && same_key own key) r is,
        omega (
          arith,
          none (is_lqh to.block && (to.node == node_at (replicas start key) 0))
              (same_tx other tx && same_key own key) r,
        ),
      )
        where
          none : (a c : Bool) → c ≡ false → one_if (a && c) ≡ 0
          none true c off = ap one_if off
          none false c off = refl
      by true p false q c r is = (
        plain (host_for start to == replica_host start key 0) is,
        omega (
          arith,
          ap (λ b. one_if ((is_lqh to.block && b) && (same_tx other tx && same_key own key))) q,
          gone (is_lqh to.block),
        ),
      )
        where
          gone : (a : Bool) → one_if ((a && false) && (same_tx other tx && same_key own key)) ≡ 0
          gone true = refl
          gone false = refl

          plain : (b : Bool) → (if b then (if same_tx other tx && same_key own key then false else was) else was) ≡ true
              → was ≡ true
          plain true q = some (same_tx other tx && same_key own key) q
          plain false q = q
      by false p b q c r is = (
        plain (host_for start to == replica_host start key 0) is,
        omega (
          arith,
          ap (λ a. one_if ((a && (to.node == node_at (replicas start key) 0))
              && (same_tx other tx && same_key own key))) p,
        ),
      )
        where
          plain : (b : Bool) → (if b then (if same_tx other tx && same_key own key then false else was) else was) ≡ true
              → was ≡ true
          plain true q = some (same_tx other tx && same_key own key) q
          plain false q = q
  one_asks list to (Host (Continue (work.Transaction other) at)) was off is =
      (by (host_for start to == first_host) is, omega arith)
    where
      by : (b : Bool) → (if b then was else was) ≡ true → was ≡ true
      by true q = q
      by false q = q
  one_asks list to body was off is = (by (host_for start to == first_host) is, omega arith)
    where
      by : (b : Bool) → (if b then was else was) ≡ true → was ≡ true
      by true q = q
      by false q = q

  pub still_asks : (list sends : List Outgoing) (was : Bool)
      → Each (λ (o : Outgoing). is_part_on tx key o.body ≡ false) sends → last_in sends was ≡ true
      → StillAsks list sends was
  still_asks list [] was all is = record { was_so = is; less = omega arith }
  still_asks list (o ∷ more) was all is =
      let rest = still_asks list more
      (if host_for start o.to == replica_host start key 0 then last_by tx key o.body was else was) all.1 is in
      let here = one_asks list o.to o.body was all.0 rest.was_so in
      record { was_so = here.0; less = omega (arith, here.1, rest.less) }

  pub off_each : (sends : List Outgoing) → parts_out tx key sends ≡ 0
      → Each (λ (o : Outgoing). is_part_on tx key o.body ≡ false) sends
  off_each sends none = none_passes (λ (o : Outgoing). is_part_on tx key o.body) sends none

  abbrev Asks : List HostStep → Type 0
  Asks log = asks_last tx key (sent (machine start) (home start tx) (replica_host start key 0) log) ≡ true

  -- whose request was sent is known
  pub sent_known : (es : List HostStep) → IsRun start es → Asks (logs_of start es (home start tx))
      → IsKnown tx key start (logs_of start es)
  sent_known [] run is = absurd (false≢true is)
  sent_known (e ∷ es) run is =
      let more = sent_known es (earlier start es e run) in
      event_cases (machine start) e es at_home (λ l. Asks l → IsKnown tx key start (logs_of start (e ∷ es)))
      (own more) (λ off asks. known_next tx key start es e come (more asks)) is
    where
      come : Comes start es e
      come = comes start es e run

      at_home : ℕ
      at_home = home start tx

      log : List HostStep
      log = logs_of start es (home start tx)

      sends : List Outgoing
      sends = (step_after start (home start tx) log e).effects.sends

      own : (Asks log → IsKnown tx key start (logs_of start es)) → e.host ≡ at_home → Asks (e ∷ log)
          → IsKnown tx key start (logs_of start (e ∷ es))
      own more here is =
          which (asks_last tx key (sent (machine start) (home start tx) (replica_host start key 0) log)) refl
        where
          now_asks : last_in sends
              (asks_last tx key (sent (machine start) (home start tx) (replica_host start key 0) log)) ≡ true
          now_asks = sym (sent_step (home start tx) e log) ∙ is

          which : (b : Bool)
              → asks_last tx key (sent (machine start) (home start tx) (replica_host start key 0) log) ≡ b
              → IsKnown tx key start (logs_of start (e ∷ es))
          which true was = known_next tx key start es e come (more was)
          which false was =
              asks_known tx key start (e ∷ es) (asked (asks_on key (live_at start (logs_of start (e ∷ es)) tx)) refl)
            where
              some : 1 ≤ parts_out tx key sends
              some = go (parts_out tx key sends) refl
                where
                  go : (n : ℕ) → parts_out tx key sends ≡ n → 1 ≤ parts_out tx key sends
                  go (suc n) q = omega (arith, q)
                  go zero q =
                      absurd (false≢true (sym was
                      ∙ (still_asks [] sends
                      (asks_last tx key (sent (machine start) (home start tx) (replica_host start key 0) log))
                      (off_each sends q) now_asks).was_so))

              asked : (b : Bool) → asks_on key (live_at start (logs_of start (e ∷ es)) tx) ≡ b → b ≡ true
              asked true on = refl
              asked false off =
                  absurd (omega (
                    arith,
                    some,
                    ap one_if off,
                    parts_are_unanswered start (e ∷ es) transit.0 tx key run transit.1,
                    part.tally_is start tx key transit.0,
                    part.sends_is start tx key sends,
                    ap (in_transit (λ to body. one_if (is_part_on tx key body))) transit.1.1.1.is,
                    joins_weigh (λ to body. one_if (is_part_on tx key body)) start e.host (logs_of start es e.host) e
                        transit.1.1.1.between,
                    ap (λ k. in_sends (λ to body. one_if (is_part_on tx key body))
                        (step_after start k (logs_of start es k) e).effects.sends) here,
                  ))
                where
                  transit : (xs : List Addressed) × AreInTransit start (e ∷ es) xs
                  transit = runs_have_transit start (e ∷ es) run
