-- What a step of a host does to one transaction of its coordinator, and what it sends of it.
use Rattle.std.proofs.Common.{◌≡◌, ℕ, ◌≤◌, List, Bool, true, false, refl, ap, sym, ◌∙◌, subst, arith}
use Rattle.std.proofs.lemmas.Bool.{false≢true}
use Rattle.std.specs.Prelude.{◌==◌, ◌&&◌, nat_le, None, Some}
use Rattle.sig_core.specs.declared.member.Member.{Member}
use Rattle.sig_core.specs.declared.member.TxId.{TxId}
use Rattle.sig_core.specs.declared.outs.Outgoing.{Outgoing}
use Rattle.sig_core.specs.declared.place.BlockId.{BlockId}
use Rattle.sig_core.specs.declared.place.BlockId.TheVariants as block
use Rattle.sig_core.specs.declared.place.Place.{Place}
use Rattle.sig_core.specs.declared.signal.Body.{Body}
use Rattle.sig_core.specs.declared.signal.Body.TheVariants as body
use Rattle.sig_core.specs.declared.signal.chain.ChainSignal.TheVariants.{Commit}
use Rattle.sig_core.specs.declared.signal.host.HostSignal.TheVariants.{Continue}
use Rattle.sig_core.specs.declared.signal.host.Work.TheVariants as work
use Rattle.sig_core.specs.declared.signal.Signal.{Signal}
use Rattle.sig_core.specs.Same.{same_key, same_tx}
use Rattle.sig_core.specs.Step.{Effects, Step}
use Rattle.node_core.proofs.HostCases.{BlockCase, IsRowsStep, IsTcStep, api_takes, block_case, dih_takes, none_takes}
use Rattle.node_core.proofs.HostCases.{rows_take, runs, tc_takes}
use Rattle.node_core.specs.declared.host.Host.{Host}
use Rattle.node_core.specs.declared.host.Host.TheVariants.{Shell, Main, Tc, Ldm}
use Rattle.node_core.specs.Blocks.{api_of, dih_of, has_lqh, tc_of}
use Rattle.node_core.specs.Row.{row}
use Rattle.tc_block.specs.declared.transaction.Transaction.{Transaction}
use Rattle.tc_block.specs.State.{TcState}
use Rattle.tc_block.specs.Tc.{next_tx, tc_row}
use Rattle.run_theory.specs.Counts.{one_if}
use Rattle.host_laws.proofs.rows.Operations.{is_lqh}
use Rattle.host_laws.proofs.coordinator.Moves.{TcMove, forgets, host_moves, starts, stays}
use Rattle.host_laws.proofs.coordinator.Moves as moves
use Rattle.host_laws.proofs.api.Wishes.{is_tc}
use Rattle.host_laws.specs.Live.{of_live}
use Rattle.run_laws.specs.Live.{of_host}
use Rattle.run_laws.proofs.hosts.HomeSteps.{IsHome}
use Rattle.run_laws.proofs.fades.HostParts.{api_silent, dih_silent}
use Rattle.run_laws.proofs.fades.Signals.{cover, is_next, is_sign}
use Rattle.run_laws.proofs.hosts.TcOwn.{AreSilent, beside_silent, others_silent}
use Rattle.tc_block.proofs.TurnRows.{turn_for}
use Rattle.host_laws.proofs.coordinator.Steps.{left_of_turn}
use Rattle.run_laws.proofs.hosts.TxTurns.{TcTurn, is_for, tc_turn}
use Rattle.run_laws.proofs.hosts.TxTurns as turn

-- a signal for rows comes to a host that runs none, and one by which the transaction goes on finds none
pub record IsMissed (tx : TxId) (s : Host) (x : Signal) : Type 0 where
  pub rows : is_lqh x.to.block ≡ true → has_lqh s ≡ false
  pub next : is_next tx x.body ≡ true → is_tc x.to.block ≡ true → of_host tx s ≡ None

-- A step leaves the transaction alone; it is one of the rows; the coordinator begins a transaction; or the transaction
-- takes a
-- turn.
pub data TxStep (tx : TxId) (s : Host) (x : Signal) (t : Step Host) : Type 0 where
  aside : of_host tx t.state ≡ of_host tx s → AreSilent tx t.effects.sends → IsMissed tx s x → TxStep tx s x t
  rows : IsRowsStep s x t → TxStep tx s x t
  begins : IsTcStep s x t → next_tx (tc_of s) ≡ tx → AreSilent tx t.effects.sends → TxStep tx s x t
  turns : (u : Transaction) → IsTcStep s x t → of_host tx s ≡ Some u → is_for tx x.body ≡ true
      → t.effects.sends ≡ (turn_for (tc_of s).node (tc_of s).layout tx x.body u).step.effects.sends
      → of_host tx t.state ≡ left_of_turn (turn_for (tc_of s).node (tc_of s).layout tx x.body u) → TxStep tx s x t

-- a host that doesn't run a block has nothing of it
pub runs_rows : (s : Host) (b : BlockId) → is_lqh b ≡ true → runs s b ≡ has_lqh s
runs_rows (Shell a) block.Lqh is = refl
runs_rows (Main m) block.Lqh is = refl
runs_rows (Tc p) block.Lqh is = refl
runs_rows (Ldm l) block.Lqh is = refl
runs_rows s _ is = cc

pub none_of : (tx : TxId) (s : Host) (b : BlockId) → is_tc b ≡ true → runs s b ≡ false → of_host tx s ≡ None
none_of tx (Shell a) b is off = refl
none_of tx (Main m) b is off = refl
none_of tx (Ldm l) b is off = refl
none_of tx (Tc p) block.Tc is off = absurd (false≢true (sym off))
none_of tx (Tc p) _ is off = cc

next_for : (tx : TxId) (b : Body) → is_next tx b ≡ true → is_for tx b ≡ true
next_for tx (body.Host (Continue (work.Transaction other) at)) is = is
next_for tx _ is = absurd cc

module _ (tx : TxId) (s : Host) (x : Signal) (home : IsHome tx (tc_of s)) where
  -- the signal is for another block
  elsewhere : (b : BlockId) → x.to.block ≡ b → is_lqh b ≡ false → is_tc b ≡ false → IsMissed tx s x
  elsewhere b at apart away = record {
    rows = λ is. absurd (false≢true (sym (ap is_lqh at ∙ apart) ∙ is));
    next = λ next is. absurd (false≢true (sym (ap is_tc at ∙ away) ∙ is));
  }

  quiet : (t : Step Host) (f : Effects) → t.effects ≡ f → tc_of t.state ≡ tc_of s → AreSilent tx f.sends
      → IsMissed tx s x → TxStep tx s x t
  quiet t f same kept silent missed =
      aside (ap (λ (c : TcState). of_live tx c.live) kept)
      (subst (λ (f : Effects). AreSilent tx f.sends) (sym same) silent) missed

  takes_turn : (t : Step Host) → IsTcStep s x t → TxStep tx s x t
  takes_turn t step =
      by (tc_turn (λ (o : Outgoing). is_sign tx o.body ≡ false) tx (tc_of s) (beside_silent tx (tc_of s))
      home.own home.once x.body
      (others_silent tx (tc_of s) x.body))
    where
      live_is : of_host tx t.state ≡ of_live tx (tc_row (tc_of s) x).state.live
      live_is = ap (λ (c : TcState). of_live tx c.live) step.state

      silent_too : AreSilent tx (tc_row (tc_of s) x).effects.sends → AreSilent tx t.effects.sends
      silent_too = subst (λ (f : Effects). AreSilent tx f.sends) (sym step.effects)

      by : TcTurn (λ (o : Outgoing). is_sign tx o.body ≡ false) tx (tc_of s) x.body (tc_row (tc_of s) x)
          → TxStep tx s x t
      by (turn.idle same silent next) =
          aside (live_is ∙ same) (silent_too silent)
          (record {
            rows = λ is. absurd (false≢true (sym (ap is_lqh step.at) ∙ is));
            next =
                λ is home. next (next_for tx x.body is);
          })
      by (turn.begins is left silent none) = begins step is (silent_too silent)
      by (turn.turns u was same sent left) =
          turns u step was same (ap (λ (f : Effects). f.sends) step.effects ∙ sent) (live_is ∙ left)

  pub tx_step : TxStep tx s x (row s x)
  tx_step = by (row s x) (block_case s x)
    where
      by : (t : Step Host) → BlockCase s x t → TxStep tx s x t
      by t (api_takes step) =
          quiet t _ step.effects step.tc (api_silent tx (api_of s) x.body) (elsewhere block.Api step.at refl refl)
      by t (tc_takes step) = takes_turn t step
      by t (dih_takes step) =
          quiet t _ step.effects step.tc (dih_silent tx (dih_of s) x.body) (elsewhere block.Dih step.at refl refl)
      by t (rows_take step) = rows step
      by t (none_takes step) =
          quiet t _ (ap (λ (u : Step Host). u.effects) step.is) (ap (λ (u : Step Host). tc_of u.state) step.is) tt
          (record {
            rows = λ is. sym (runs_rows s x.to.block is) ∙ step.runs;
            next = λ next is. none_of tx s x.to.block is step.runs;
          })

module _ (tx : TxId) where
  -- what is no commit for rows, and no signal for its coordinator to go on, leads to no commit
  pub aside_cover : (key : List ℕ) (i : ℕ) (to : Place) (b : Body) → is_lqh to.block ≡ false
      → (is_next tx b ≡ true → is_tc to.block ≡ true → ⊥) → cover tx key i to b ≡ 0
  aside_cover key i to (body.Chain (Commit other own epoch chain at)) off none =
      ap (λ l. one_if (l && (same_tx other tx && same_key own key))) off
  aside_cover key i to (body.Host (Continue (work.Transaction other) at)) off none =
      by (is_tc to.block) refl (same_tx other tx) refl
    where
      rest : (a : Bool) → one_if (a && false) ≡ 0
      rest true = refl
      rest false = refl

      by : (x : Bool) → is_tc to.block ≡ x → (y : Bool) → same_tx other tx ≡ y
          → one_if ((x && (to.node == tx.tc)) && (y && nat_le at i)) ≡ 0
      by false p y q = refl
      by true p true q = absurd (none q p)
      by true p false q = rest (to.node == tx.tc)
  aside_cover key i to _ off none = refl

  pub away_cover : (key : List ℕ) (i : ℕ) (to : Place) (b : Body) → is_lqh to.block ≡ false
      → (is_tc to.block && (to.node == tx.tc)) ≡ false → cover tx key i to b ≡ 0
  away_cover key i to (body.Chain (Commit other own epoch chain at)) off far =
      ap (λ l. one_if (l && (same_tx other tx && same_key own key))) off
  away_cover key i to (body.Host (Continue (work.Transaction other) at)) off far =
      ap (λ h. one_if (h && (same_tx other tx && nat_le at i))) far
  away_cover key i to _ off far = refl

  -- nor does another signal than a commit for rows
  pub rows_cover : (key : List ℕ) (i : ℕ) (to : Place) (b : Body) → is_lqh to.block ≡ true
      → ((one : TxId) (own : List ℕ) (epoch : ℕ) (chain : List Member) (at : ℕ)
      → b ≡ body.Chain (Commit one own epoch chain at) → ⊥) → cover tx key i to b ≡ 0
  rows_cover key i to (body.Chain (Commit other own epoch chain at)) is none =
      absurd (none other own epoch chain at refl)
  rows_cover key i to (body.Host (Continue (work.Transaction other) at)) is none =
      ap (λ h. one_if ((h && (to.node == tx.tc)) && (same_tx other tx && nat_le at i))) (by to.block is)
    where
      by : (b : BlockId) → is_lqh b ≡ true → is_tc b ≡ false
      by block.Tc is = absurd cc
      by _ is = refl
  rows_cover key i to _ is none = refl

-- the number of the next transaction of a host's coordinator
abbrev pub next_number : Host → ℕ
next_number host = (tc_of host).next_seq

-- it never falls
pub number_rises : (s : Host) (x : Signal) → next_number s ≤ next_number (row s x).state
number_rises s x = by (row s x) (host_moves s x)
  where
    by : (t : Step Host) → TcMove (tc_of s) (tc_of t.state) t.effects.sends → next_number s ≤ next_number t.state
    by t (stays is kind) = omega (arith, ap (λ (c : TcState). c.next_seq) is)
    by t (starts name is sent) = omega (arith, ap (λ (c : TcState). c.next_seq) is)
    by t (moves.turns one u v front back was is kind told) = omega (arith, ap (λ (c : TcState). c.next_seq) is)
    by t (forgets one u front back was is kind told) = omega (arith, ap (λ (c : TcState). c.next_seq) is)
