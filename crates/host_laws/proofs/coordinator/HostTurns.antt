-- A step of a host, as far as one transaction of its coordinator goes.
use Rattle.std.proofs.Common.{◌≡◌, ◌⊎◌, inl, inr, ℕ, ◌≤◌, List, ◌∷◌, [], Bool, true, false, refl, ap, sym, ◌∙◌, arith}
use Rattle.std.specs.Prelude.{Option, None, Some}
use Rattle.std.proofs.lemmas.Bool.{false≢true, true≢false}
use Rattle.api_block.specs.declared.opened.OpenTransaction.{OpenTransaction}
use Rattle.api_block.specs.State.{ApiState}
use Rattle.node_core.proofs.HostCases.{BlockCase, IsRowsStep, IsTcStep, api_takes, block_case, dih_takes, none_takes}
use Rattle.node_core.proofs.HostCases.{rows_take, runs, tc_takes}
use Rattle.node_core.specs.Blocks.{api_of, dih_of, has_lqh, has_tc, lqh_of, tc_of}
use Rattle.node_core.specs.declared.host.Host.{Host}
use Rattle.node_core.specs.declared.host.Host.TheVariants.{Shell, Main, Tc, Ldm}
use Rattle.node_core.specs.Dih.{dih_table}
use Rattle.node_core.specs.Row.{row}
use Rattle.run_theory.specs.Lists.{Each}
use Rattle.sig_core.specs.declared.member.TxId.{TxId}
use Rattle.sig_core.specs.declared.outs.Outgoing.{Outgoing}
use Rattle.sig_core.specs.declared.place.BlockId.{BlockId}
use Rattle.sig_core.specs.declared.place.BlockId.TheVariants as block
use Rattle.sig_core.specs.declared.signal.Body.{Body}
use Rattle.sig_core.specs.declared.signal.Body.TheVariants as body
use Rattle.sig_core.specs.declared.signal.Signal.{Signal}
use Rattle.sig_core.specs.declared.signal.client.ClientSignal.TheVariants.{TcBeginReq, TcBeginConf, TcKeyConf}
use Rattle.sig_core.specs.declared.signal.client.ClientSignal.TheVariants.{TcCommitConf, TcRollbackRep}
use Rattle.sig_core.specs.declared.signal.epoch.EpochSignal.TheVariants.{DiVerifyConf}
use Rattle.sig_core.specs.declared.signal.host.HostSignal.TheVariants.{Continue}
use Rattle.sig_core.specs.declared.signal.host.Work.TheVariants as work
use Rattle.sig_core.specs.declared.view.View.{View}
use Rattle.sig_core.specs.Place.{client}
use Rattle.sig_core.specs.Step.{Step}
use Rattle.tc_block.specs.declared.transaction.Transaction.{Transaction}
use Rattle.tc_block.specs.Operate.{fresh}
use Rattle.tc_block.specs.Tc.{next_tx, tc_table}
use Rattle.tc_block.specs.Turn.{Turn}
use Rattle.host_laws.proofs.api.Moves.{ApiMove, api_moves, begun_as, ends, goes, is_api_kind, opens, refuses, rests}
use Rattle.host_laws.proofs.hosts.DihSends.{dih_kinds}
use Rattle.host_laws.proofs.rows.Operations.{is_lqh}
use Rattle.host_laws.proofs.hosts.SendKinds.{are_of, is_dih_kind, of_kind}
use Rattle.host_laws.proofs.coordinator.Lives.{IsOwn, is_keyed}
use Rattle.host_laws.specs.Live.{of_live}
use Rattle.host_laws.proofs.coordinator.Steps.{TxStep, born, elsewhere, is_apart, left_of_turn, next_grows, turned}
use Rattle.host_laws.proofs.coordinator.Steps.{tx_step}
use Rattle.tc_block.proofs.TurnRows.{tx_in, is_turn, turn_row}
use Rattle.host_laws.proofs.coordinator.Turns.{TurnMove}
use Rattle.host_laws.proofs.api.Wishes.{is_tc}
use Rattle.run_theory.specs.Counts.{tally}

-- the transaction at a host's coordinator
abbrev pub tx_at : TxId → Host → Option Transaction
tx_at tx h = of_live tx (tc_of h).live

-- where it is there, the host runs a coordinator
pub tx_runs : (tx : TxId) (h : Host) (t : Transaction) → tx_at tx h ≡ Some t → has_tc h ≡ true
tx_runs tx (Tc p) t at = refl
tx_runs tx (Shell s) t at = absurd cc
tx_runs tx (Main m) t at = absurd cc
tx_runs tx (Ldm s) t at = absurd cc

-- what isn't said of it by a coordinator, nor by rows
abbrev pub is_aside : TxId → Body → Bool
is_aside tx (body.Epoch (DiVerifyConf other epoch)) = true
is_aside tx body = is_apart tx body

-- the step leaves the transaction as it is, and the rows
pub record IsAside (tx : TxId) (s : Host) (x : Signal) (t : Step Host) : Type 0 where
  pub same : tx_at tx t.state ≡ tx_at tx s
  pub grows : (tc_of s).next_seq ≤ (tc_of t.state).next_seq
  pub rows : lqh_of t.state ≡ lqh_of s
  pub kind : are_of (is_aside tx) t.effects.sends ≡ true
  pub absent : is_tc x.to.block ≡ true → is_turn x.body ≡ true → tx_in x.body ≡ tx → tx_at tx s ≡ None
  pub unheard : is_lqh x.to.block ≡ true → has_lqh s ≡ false

-- the transaction begins
pub record IsBorn (tx : TxId) (s : Host) (x : Signal) (t : Step Host) : Type 0 where
  pub runs : has_tc s ≡ true
  pub at : x.to.block ≡ block.Tc
  pub name : Option ℕ
  pub about : x.body ≡ body.Client (TcBeginReq name)
  pub one : tx ≡ next_tx (tc_of s)
  pub none : tx_at tx s ≡ None
  pub there : tx_at tx t.state ≡ Some fresh
  pub told : t.effects.sends ≡ record { to = client; body = body.Client (TcBeginConf name tx) } ∷ []
  pub rows : lqh_of t.state ≡ lqh_of s

-- it takes a turn
pub record IsTurned (tx : TxId) (s : Host) (x : Signal) (t : Step Host) : Type 0 where
  pub runs : has_tc s ≡ true
  pub at : x.to.block ≡ block.Tc
  pub was : Transaction
  pub turn : Turn
  pub about : is_turn x.body ≡ true
  pub one : tx_in x.body ≡ tx
  pub there : tx_at tx s ≡ Some was
  pub move : TurnMove (tc_of s) tx was x.body turn
  pub left : tx_at tx t.state ≡ left_of_turn turn
  pub told : t.effects.sends ≡ turn.step.effects.sends
  pub grows : (tc_of s).next_seq ≤ (tc_of t.state).next_seq
  pub rows : lqh_of t.state ≡ lqh_of s

pub data HostTurn (tx : TxId) (s : Host) (x : Signal) (t : Step Host) : Type 0 where
  in_rows : IsRowsStep s x t → HostTurn tx s x t
  aside : IsAside tx s x t → HostTurn tx s x t
  starting : IsBorn tx s x t → HostTurn tx s x t
  turning : IsTurned tx s x t → HostTurn tx s x t

apart_aside : (tx : TxId) (b : Body) → is_apart tx b ≡ true → is_aside tx b ≡ true
apart_aside tx (body.Epoch (DiVerifyConf other epoch)) e = refl
apart_aside tx _ e = e

dih_aside : (tx : TxId) (b : Body) → is_dih_kind b ≡ true → is_aside tx b ≡ true
dih_aside tx (body.Epoch (DiVerifyConf other epoch)) e = refl
dih_aside tx _ e = absurd (false≢true e)

api_aside : (tx : TxId) (b : Body) → is_api_kind b ≡ true → is_aside tx b ≡ true
api_aside tx (body.Client (TcBeginConf name other)) e = absurd (false≢true e)
api_aside tx (body.Client (TcKeyConf other answer)) e = absurd (false≢true e)
api_aside tx (body.Client (TcCommitConf other epoch)) e = absurd (false≢true e)
api_aside tx (body.Client (TcRollbackRep other cause)) e = absurd (false≢true e)
api_aside tx (body.Chain c) e = absurd (false≢true e)
api_aside tx (body.Epoch c) e = absurd (false≢true e)
api_aside tx (body.Host (Continue (work.Transaction other) at)) e = absurd (false≢true e)
api_aside tx _ e = refl

move_aside : (tx : TxId) (s : ApiState) (b : Body) (after : View × List OpenTransaction) (sends : List Outgoing)
    → ApiMove s b after sends → are_of (is_aside tx) sends ≡ true
move_aside tx s b after sends (rests is kind void) = of_kind is_api_kind (is_aside tx) (api_aside tx) sends kind
move_aside tx s b after sends (opens other at op new request is told) = ap (are_of (is_aside tx)) told
move_aside tx s b after sends (begun_as other one front t u back about passes begun was is kind) =
    of_kind is_api_kind (is_aside tx) (api_aside tx) sends kind
move_aside tx s b after sends (goes front t u back go void was is kind) =
    of_kind is_api_kind (is_aside tx) (api_aside tx) sends kind
move_aside tx s b after sends (ends one front t back about passes was is kind) =
    of_kind is_api_kind (is_aside tx) (api_aside tx) sends kind
move_aside tx s b after sends (refuses other front t back about passes was is kind) =
    of_kind is_api_kind (is_aside tx) (api_aside tx) sends kind

-- a host that runs none of a block has nothing of it
idle_absent : (tx : TxId) (s : Host) (at : BlockId) → runs s at ≡ false → is_tc at ≡ true → tx_at tx s ≡ None
idle_absent tx (Tc p) block.Tc off on = absurd (true≢false off)
idle_absent tx (Tc p) _ off on = absurd (false≢true on)
idle_absent tx (Shell s) at off on = refl
idle_absent tx (Main m) at off on = refl
idle_absent tx (Ldm s) at off on = refl

pub idle_unheard : (s : Host) (at : BlockId) → runs s at ≡ false → is_lqh at ≡ true → has_lqh s ≡ false
idle_unheard (Ldm s) block.Lqh off on = absurd (true≢false off)
idle_unheard (Ldm s) _ off on = absurd (false≢true on)
idle_unheard (Shell s) at off on = refl
idle_unheard (Main m) at off on = refl
idle_unheard (Tc p) at off on = refl

idle_tc : (s : Host) (at : BlockId) → runs s at ≡ false → has_tc s ≡ true → is_tc at ≡ false
idle_tc (Tc p) block.Tc off on = absurd (true≢false off)
idle_tc (Tc p) _ off on = refl
idle_tc (Shell s) at off on = absurd (false≢true on)
idle_tc (Main m) at off on = absurd (false≢true on)
idle_tc (Ldm s) at off on = absurd (false≢true on)

-- of a host that runs rows: the step is theirs, or the signal is for another block
pub rows_turn : (s : Host) (x : Signal) → has_lqh s ≡ true
    → IsRowsStep s x (row s x) ⊎ ((lqh_of (row s x).state ≡ lqh_of s) × (is_lqh x.to.block ≡ false))
rows_turn s x on = by (row s x) (block_case s x)
  where
    by : (t : Step Host) → BlockCase s x t
        → IsRowsStep s x t ⊎ ((lqh_of t.state ≡ lqh_of s) × (is_lqh x.to.block ≡ false))
    by t (rows_take step) = inl step
    by t (api_takes step) = inr (step.rows, ap is_lqh step.at)
    by t (tc_takes step) = inr (step.rows, ap is_lqh step.at)
    by t (dih_takes step) = inr (step.rows, ap is_lqh step.at)
    by t (none_takes step) = inr (ap (λ u. lqh_of u.state) step.is, off (is_lqh x.to.block) refl)
      where
        off : (b : Bool) → is_lqh x.to.block ≡ b → is_lqh x.to.block ≡ false
        off false e = e
        off true e = absurd (true≢false (sym on ∙ idle_unheard s x.to.block step.runs e))

-- of a host that runs a coordinator: the step is its, or the signal is for another block
pub tc_turn : (s : Host) (x : Signal) → has_tc s ≡ true
    → IsTcStep s x (row s x) ⊎ ((tc_of (row s x).state ≡ tc_of s) × (is_tc x.to.block ≡ false))
tc_turn s x on = by (row s x) (block_case s x)
  where
    by : (t : Step Host) → BlockCase s x t → IsTcStep s x t ⊎ ((tc_of t.state ≡ tc_of s) × (is_tc x.to.block ≡ false))
    by t (tc_takes step) = inl step
    by t (api_takes step) = inr (step.tc, ap is_tc step.at)
    by t (rows_take step) = inr (step.tc, ap is_tc step.at)
    by t (dih_takes step) = inr (step.tc, ap is_tc step.at)
    by t (none_takes step) = inr (ap (λ u. tc_of u.state) step.is, idle_tc s x.to.block step.runs on)

module _ (tx : TxId) (s : Host) (x : Signal) (once : tally (is_keyed tx) (tc_of s).live ≤ 1)
    (own : Each (λ (e : TxId × Transaction). IsOwn (tc_of s).node (tc_of s).next_seq e.0) (tc_of s).live) where
  -- a step of another block than the coordinator and the rows
  besides : (t : Step Host) → tc_of t.state ≡ tc_of s → lqh_of t.state ≡ lqh_of s
      → are_of (is_aside tx) t.effects.sends ≡ true → is_tc x.to.block ≡ false → is_lqh x.to.block ≡ false
      → HostTurn tx s x t
  besides t tc rows kind not_tc not_lqh =
      aside (record {
        same = ap (λ u. of_live tx u.live) tc;
        grows = omega (arith, ap (λ u. u.next_seq) tc);
        rows = rows;
        kind = kind;
        absent = λ on. absurd (false≢true (sym not_tc ∙ on));
        unheard = λ on. absurd (false≢true (sym not_lqh ∙ on));
      })

  in_tc : (t : Step Host) → IsTcStep s x t → TxStep tx (tc_of s) x.body (tc_table (tc_of s) x.body) → HostTurn tx s x t
  in_tc t step (elsewhere same kind absent) =
      aside (record {
        same = ap (λ u. of_live tx u.live) step.state ∙ same;
        grows = omega (arith, next_grows (tc_of s) x.body, ap (λ u. u.next_seq) step.state);
        rows = step.rows;
        kind = ap (λ f. are_of (is_aside tx) f.sends) step.effects
            ∙ of_kind (is_apart tx) (is_aside tx) (apart_aside tx) (tc_table (tc_of s) x.body).effects.sends kind;
        absent = λ on. absent;
        unheard = λ on. absurd (false≢true (sym (ap is_lqh step.at) ∙ on));
      })
  in_tc t step (born name about one none there told later) =
      starting (record {
        runs = step.runs;
        at = step.at;
        name = name;
        about = about;
        one = one;
        none = none;
        there = ap (λ u. of_live tx u.live) step.state ∙ there;
        told = ap (λ f. f.sends) step.effects ∙ told;
        rows = step.rows;
      })
  in_tc t step (turned was about one there move left told) =
      turning (record {
        runs = step.runs;
        at = step.at;
        was = was;
        turn = turn_row (tc_of s) x.body was;
        about = about;
        one = one;
        there = there;
        move = move;
        left = ap (λ u. of_live tx u.live) step.state ∙ left;
        told = ap (λ f. f.sends) step.effects ∙ told;
        grows = omega (arith, next_grows (tc_of s) x.body, ap (λ u. u.next_seq) step.state);
        rows = step.rows;
      })

  turn_by : (t : Step Host) → BlockCase s x t → HostTurn tx s x t
  turn_by t (api_takes step) =
      besides t step.tc step.rows
      (ap (λ f. are_of (is_aside tx) f.sends) step.effects
      ∙ move_aside tx (api_of s) x.body _ _ (api_moves (api_of s) x.body))
      (ap is_tc step.at) (ap is_lqh step.at)
  turn_by t (tc_takes step) = in_tc t step (tx_step tx (tc_of s) x.body once own)
  turn_by t (dih_takes step) =
      besides t step.tc step.rows
      (ap (λ f. are_of (is_aside tx) f.sends) step.effects
      ∙ of_kind is_dih_kind (is_aside tx) (dih_aside tx) (dih_table (dih_of s) x.body).effects.sends
      (dih_kinds (dih_of s) x.body))
      (ap is_tc step.at) (ap is_lqh step.at)
  turn_by t (rows_take step) = in_rows step
  turn_by t (none_takes step) =
      aside (record {
        same = ap (λ u. tx_at tx u.state) step.is;
        grows = omega (arith, ap (λ u. (tc_of u.state).next_seq) step.is);
        rows = ap (λ u. lqh_of u.state) step.is;
        kind = ap (λ u. are_of (is_aside tx) u.effects.sends) step.is;
        absent = λ on turn same. idle_absent tx s x.to.block step.runs on;
        unheard = idle_unheard s x.to.block step.runs;
      })

  pub host_turn : HostTurn tx s x (row s x)
  host_turn = turn_by (row s x) (block_case s x)
