-- A step at the host of a transaction's coordinator, and one elsewhere.
use Rattle.std.proofs.Common.{◌≡◌, ◌≢◌, ◌≤◌, ◌<◌, ℕ, Bool, true, false, List, ◌∷◌, refl, sym, ap, ◌∙◌, subst, arith}
use Rattle.std.specs.Prelude.{None}
use Rattle.run_theory.proofs.EventCases.{event_moves, event_leaves, event_own}
use Rattle.run_theory.proofs.Runs.{log_of-other}
use Rattle.run_theory.specs.Lists.{Each}
use Rattle.sig_core.specs.declared.member.TxId.{TxId}
use Rattle.tc_block.specs.declared.transaction.Transaction.{Transaction}
use Rattle.tc_block.specs.State.{TcState}
use Rattle.node_core.specs.declared.host.Host.{Host}
use Rattle.node_core.specs.Blocks.{has_tc, tc_of}
use Rattle.node_core.specs.Row.{row}
use Rattle.world_core.specs.Hosts.{home, first_hosts, tc_host}
use Rattle.world_core.specs.Machine.{after, machine}
use Rattle.world_core.specs.Start.{Start}
use Rattle.world_core.specs.Steps.{HostStep}
use Rattle.run_theory.specs.Counts.{tally}
use Rattle.host_laws.proofs.hosts.BlocksAlong.{at_own_node, no_live}
use Rattle.run_laws.proofs.causes.Begun.{keeps}
use Rattle.host_laws.proofs.coordinator.Lives.{IsOwn, is_keyed}
use Rattle.run_laws.specs.Live.{of_host}
use Rattle.run_laws.specs.Transit.{Comes, logs_of}
use Rattle.run_laws.proofs.routes.Addressed.{comes_below}
use Rattle.host_laws.proofs.coordinator.Steps.{live_none}
use Rattle.host_laws.specs.Live.{of_live}
use Rattle.run_laws.proofs.hosts.LiveAfter.{strange_none, unborn_none}

-- a coordinator's transactions have its numbers, and this one stands there once at most
pub record IsHome (tx : TxId) (s : TcState) : Type 0 where
  pub own : Each (λ (e : TxId × Transaction). IsOwn s.node s.next_seq e.0) s.live
  pub once : tally (is_keyed tx) s.live ≤ 1

pub all_home : (start : Start) (tx : TxId) (h : ℕ) (log : List HostStep) → IsHome tx (tc_of (after start h log))
all_home start tx h log =
    let k = keeps start tx h log in record { own = k.keeps.own; once = omega (arith, k.keeps.began, k.keeps.once) }

-- its number isn't given yet by its coordinator
abbrev pub IsUnborn : TxId → Host → Type 0
IsUnborn tx host = (tc_of host).next_seq ≤ tx.seq

-- where a transaction isn't there
module _ (start : Start) (tx : TxId) (h : ℕ) (log : List HostStep) where
  -- its number isn't given yet
  pub unborn_absent : IsUnborn tx (after start h log) → of_host tx (after start h log) ≡ None
  unborn_absent early =
      let s = tc_of (after start h log) in
      live_none tx s.live (unborn_none tx s.node s.next_seq s.live (all_home start tx h log).own early)

  -- its coordinator is another host's
  pub away_absent : h < first_hosts start → (h ≡ home start tx → ⊥) → of_host tx (after start h log) ≡ None
  away_absent low apart = by (has_tc (after start h log)) refl
    where
      by : (b : Bool) → has_tc (after start h log) ≡ b → of_host tx (after start h log) ≡ None
      by true runs =
          let s = tc_of (after start h log) in
          let own = at_own_node start h log low runs in
          live_none tx s.live
          (strange_none tx s.node s.next_seq s.live (all_home start tx h log).own
          (λ same. apart (own.is ∙ ap (tc_host start) (sym same))))
      by false idle = ap (of_live tx) (no_live (after start h log) idle)

module _ (start : Start) (es : List HostStep) (e : HostStep) (come : Comes start es e) (tx : TxId) where
  abbrev h : ℕ
  h = e.host

  abbrev at_home : ℕ
  at_home = home start tx

  abbrev s : Host
  s = after start h (logs_of start es h)

  -- the host of its coordinator is its home
  pub own_home : has_tc s ≡ true → tx.tc ≡ (tc_of s).node → h ≡ at_home
  own_home runs own =
      let at = at_own_node start h (logs_of start es h) (comes_below start es e come) runs in
      at.is ∙ ap (tc_host start) (sym own)

  -- the home if it is the host that steps, before and behind the step, and if it isn't
  pub here_was : h ≡ at_home → after start at_home (logs_of start es at_home) ≡ s
  here_was at = subst (λ k. after start k (logs_of start es k) ≡ s) at refl

  pub here_now : h ≡ at_home → after start at_home (logs_of start (e ∷ es) at_home) ≡ (row s e.step.taken).state
  here_now at =
      event_own (machine start) e es (λ k log. after start k log ≡ (row s e.step.taken).state) at_home at refl

  pub away : h ≢ at_home
      → after start at_home (logs_of start (e ∷ es) at_home) ≡ after start at_home (logs_of start es at_home)
  away off = ap (after start at_home) (log_of-other (machine start) e es at_home off)

  -- a step that leaves it at its own host leaves it at its home
  pub live_leaves : of_host tx (row s e.step.taken).state ≡ of_host tx s
      → of_host tx (after start at_home (logs_of start (e ∷ es) at_home))
      ≡ of_host tx (after start at_home (logs_of start es at_home))
  live_leaves same = event_leaves (machine start) e es (λ k log. of_host tx (after start k log)) same at_home

  -- where it isn't given yet it wasn't before
  pub unborn_leaves : (IsUnborn tx (row s e.step.taken).state → IsUnborn tx s)
      → IsUnborn tx (after start at_home (logs_of start (e ∷ es) at_home))
      → IsUnborn tx (after start at_home (logs_of start es at_home))
  unborn_leaves was = event_moves (machine start) e es
      (λ k old now. IsUnborn tx (after start k now) → IsUnborn tx (after start k old)) was (λ k log low. low) at_home
