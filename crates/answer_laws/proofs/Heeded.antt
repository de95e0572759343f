-- At quiet the coordinator has heard what the API has asked of a transaction.
use Rattle.std.proofs.Common.{◌≡◌, ℕ, ◌≤◌, ◌<◌, List, Bool, true, false, refl, ap, ◌∙◌, subst, arith}
use Rattle.std.specs.Prelude.{is_some, Some}
use Rattle.api_block.specs.declared.opened.Doing.TheVariants.{Operating, Committing}
use Rattle.api_block.specs.declared.opened.OpenTransaction.{OpenTransaction}
use Rattle.api_block.specs.Opened.{is_tx}
use Rattle.run_theory.proofs.Pasts.{each_in}
use Rattle.run_theory.specs.Lists.{IsIn}
use Rattle.world_core.specs.Steps.{HostStep}
use Rattle.sig_core.specs.declared.member.TxId.{TxId}
use Rattle.tc_block.specs.declared.phase.Phase.TheVariants.{Open}
use Rattle.tc_block.specs.declared.transaction.Transaction.{Transaction}
use Rattle.node_core.specs.Blocks.{tc_of}
use Rattle.sig_core.specs.Place.{coordinator_of}
use Rattle.world_core.proofs.HostNumbers.{host_below}
use Rattle.world_core.specs.Hosts.{home, first_hosts}
use Rattle.world_core.specs.Machine.{after}
use Rattle.world_core.specs.Start.{Start}
use Rattle.sig_core.proofs.Keys.{same_tx-self}
use Rattle.run_laws.proofs.hosts.AlongSteps.{at_home, at_tc, live_tx, tx_at}
use Rattle.answer_laws.proofs.ApiEntries.{IsEntryRight, is_commit_req, opened_at}
use Rattle.host_laws.proofs.hosts.BlocksAlong.{IsHome}
use Rattle.host_laws.proofs.hosts.LinkCounts.{signals, taken_steps}
use Rattle.answer_laws.proofs.Lives.{live_low}
use Rattle.answer_laws.proofs.Strangers.{starts_once}
use Rattle.run_theory.specs.Counts.{one_if}
use Rattle.host_laws.proofs.coordinator.Keys.{is_answer, is_key}
use Rattle.host_laws.proofs.coordinator.Steps.{live_in}
use Rattle.answer_laws.proofs.Wants.{IsHeld, all_right, held_few}
use Rattle.answer_laws.specs.Answered.{AreQuiet, EachAskedWhereOperating, EachClosedWhereCommitting, EachIsNumbered}
use Rattle.answer_laws.specs.Answered.{IsLiveAs}
use Rattle.host_laws.specs.OpenedAfter.{opened_after, opened_in}
use Rattle.answer_laws.proofs.Heard.{AllHeard, all_heard, answers_sent, answers_taken, commits_sent, commits_taken}
use Rattle.answer_laws.proofs.Heard.{keys_sent, keys_taken}

module _ (start : Start) (tx : TxId) (some : 1 ≤ tx.tc) (low : tx.tc ≤ start.shape.nodes) where
  -- the host of its coordinator
  abbrev h : ℕ
  h = home start tx

  -- at quiet
  module _ (logs : ℕ → List HostStep) (quiet : AreQuiet start logs) where
    there : h < first_hosts start
    there = host_below start (coordinator_of tx) some low

    heard : AllHeard start tx some low logs
    heard = all_heard start tx some low logs quiet.within quiet.right

    keys_whole : keys_sent start tx some low logs ≤ keys_taken start tx some low (logs h)
    keys_whole = omega (
      arith,
      ap (signals (is_key tx)) (quiet.quiet 0 h (omega arith) there),
      taken_steps start
          (is_key tx) 0 (logs h),
    )

    commits_whole : commits_sent start tx some low logs ≤ commits_taken start tx some low (logs h)
    commits_whole = omega (
      arith,
      ap (signals (is_commit_req tx)) (quiet.quiet 0 h (omega arith) there),
      taken_steps
          start (is_commit_req tx) 0 (logs h),
    )

    answers_whole : answers_sent start tx some low (logs h) ≤ answers_taken start tx some low logs
    answers_whole = omega (
      arith,
      ap (signals (is_answer tx)) (quiet.quiet h 0 there (omega arith)),
      taken_steps start
          (is_answer tx) h (logs 0),
    )

    held_at : (t : OpenTransaction) → IsIn t (opened_after start logs) → t.tx ≡ Some tx
        → IsHeld t.operations (keys_sent start tx some low logs) (commits_sent start tx some low logs)
        (answers_taken start tx some low logs) t.doing
    held_at t inside is =
        heard.asking.held t (opened_at tx t (opened_in (after start 0 (logs 0)))
        (omega (arith, held_few start tx (logs 0), starts_once start tx logs quiet.right quiet.within)) inside
        (ap (is_tx tx) is ∙ same_tx-self tx))

    asked_there : (t : OpenTransaction) (u : Transaction) → IsIn t (opened_after start logs) → t.tx ≡ Some tx
        → t.doing ≡ Operating → tx_at tx (after start h (logs h)) ≡ Some u → u.phase ≡ Open → is_some u.asked ≡ true
    asked_there t u inside is doing at p =
        let o = heard.heard u at p in
        let k = subst (IsHeld t.operations (keys_sent start tx some low logs) (commits_sent start tx some low logs)
        (answers_taken start tx some low logs)) doing (held_at t inside is) in
        on (is_some u.asked) (omega (arith, o.keys, k.0, keys_whole, answers_whole))
      where
        on : (b : Bool) → 1 ≤ one_if b → b ≡ true
        on true e = refl
        on false e = absurd (omega (arith, e))

    closed_there : (t : OpenTransaction) (u : Transaction) → IsIn t (opened_after start logs) → t.tx ≡ Some tx
        → t.doing ≡ Committing → tx_at tx (after start h (logs h)) ≡ Some u → u.phase ≡ Open → ⊥
    closed_there t u inside is doing at p =
        let o = heard.heard u at p in
        let k = subst (IsHeld t.operations (keys_sent start tx some low logs) (commits_sent start tx some low logs)
        (answers_taken start tx some low logs)) doing (held_at t inside is) in
        omega (arith, o.commits, k.0, commits_whole)

module _ (start : Start) (logs : ℕ → List HostStep) (t : OpenTransaction) (quiet : AreQuiet start logs)
    (inside : IsIn t (opened_after start logs)) (tx : TxId) (u : Transaction) (is : t.tx ≡ Some tx)
    (live : IsLiveAs tx u (after start (home start tx) (logs (home start tx)))) (p : u.phase ≡ Open) where
  own : IsHome start tx (home start tx)
  own = at_home start tx (home start tx) (logs (home start tx)) u (live_low start logs tx u quiet (home start tx) live)
      (live_tx start tx (home start tx) (logs (home start tx)) u live)

  live_at : tx_at tx (after start (home start tx) (logs (home start tx))) ≡ Some u
  live_at = live_in tx u (tc_of (after start (home start tx) (logs (home start tx)))).live
      (at_tc start tx (home start tx) (logs (home start tx))).once live

  asked_where : t.doing ≡ Operating → is_some u.asked ≡ true
  asked_where doing = asked_there start tx own.some own.low logs quiet t u inside is doing live_at p

  closed_where : t.doing ≡ Committing → ⊥
  closed_where doing = closed_there start tx own.some own.low logs quiet t u inside is doing live_at p

pub asked_where_operating : EachAskedWhereOperating
asked_where_operating start logs t quiet inside tx u is doing live p =
    asked_where start logs t quiet inside tx u is live p doing

pub closed_where_committing : EachClosedWhereCommitting
closed_where_committing start logs t quiet inside tx u is doing live p =
    closed_where start logs t quiet inside tx u is live p doing

pub each_numbered : EachIsNumbered
each_numbered start logs t quiet inside =
    (each_in IsEntryRight t (opened_in (after start 0 (logs 0))) (all_right start (logs 0)) inside).begun
