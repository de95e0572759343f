-- What a signal makes of one of a coordinator's transactions, and what of the signals sent is said of it.
use Rattle.std.proofs.Common.{◌≡◌, ℕ, ◌+◌, ◌<◌, ◌≤◌, List, [], ◌∷◌, ◌++◌, Bool, true, false, refl, ap, sym, ◌∙◌, subst}
use Rattle.std.proofs.Common.{arith, inl, inr}
use Rattle.std.specs.Prelude.{not, if◌then◌else◌, Option, None, Some}
use Rattle.std.proofs.lemmas.Bool.{false≢true}
use Rattle.indexmap.specs.IndexMap.{insert_entry}
use Rattle.run_theory.proofs.Pasts.{each_map}
use Rattle.run_theory.specs.Lists.{Each, IsIn}
use Rattle.sig_core.specs.declared.member.TxId.{TxId}
use Rattle.sig_core.specs.declared.signal.Body.{Body}
use Rattle.sig_core.specs.declared.signal.Body.TheVariants.{Host, Client, Chain, Epoch}
use Rattle.sig_core.specs.declared.signal.chain.ChainSignal.TheVariants.{LqhKeyReq, LqhKeyConf, LqhKeyRef, Commit}
use Rattle.sig_core.specs.declared.signal.chain.ChainSignal.TheVariants.{Committed, Complete, Completed, Abort, Aborted}
use Rattle.sig_core.specs.declared.signal.client.ClientSignal.TheVariants.{TcBeginReq, TcBeginConf, TcKeyConf}
use Rattle.sig_core.specs.declared.signal.client.ClientSignal.TheVariants.{TcCommitConf, TcRollbackRep, LqhWaitReq}
use Rattle.sig_core.specs.declared.signal.epoch.EpochSignal.TheVariants.{DiVerifyReq, DiVerifyConf, DiVerifyEnd}
use Rattle.sig_core.specs.declared.signal.host.HostSignal.TheVariants.{Continue}
use Rattle.sig_core.specs.declared.signal.host.Work.TheVariants as work
use Rattle.sig_core.specs.Place.{client}
use Rattle.sig_core.specs.Same.{same_tx}
use Rattle.tc_block.specs.declared.transaction.Transaction.{Transaction}
use Rattle.tc_block.specs.Operate.{fresh}
use Rattle.tc_block.specs.State.{TcState}
use Rattle.sig_core.proofs.Keys.{same_tx-self}
use Rattle.host_laws.proofs.hosts.SendKinds.{are_of, of_kind}
use Rattle.run_theory.specs.Counts.{one_if, tally}
use Rattle.host_laws.proofs.coordinator.Lives.{IsOwn, apart, insert_new, is_keyed}
use Rattle.host_laws.proofs.coordinator.Turns.{TurnMove, turn_at, turn_moves}
use Rattle.host_laws.proofs.coordinator.TurnKinds.{OwnKinds, TurnOnly, own_forms}
use Rattle.sig_core.specs.Step.{Step}
use Rattle.tc_block.specs.Tc.{next_tx, tc_table}
use Rattle.tc_block.specs.Turn.{Turn}
use Rattle.tc_block.proofs.LiveSplit.{AreOthers}
use Rattle.tc_block.proofs.TurnRows.{TcStep, begins, is_turn, left_in, misses, passes, refuses, rests, takes, tc_step}
use Rattle.tc_block.proofs.TurnRows.{turn_row, tx_in}
use Rattle.host_laws.proofs.coordinator.OfLive.{each_found, of_here, of_other}
use Rattle.run_theory.proofs.Tally.{tally_append, tally_between, tally_in, tally_none}
use Rattle.host_laws.proofs.coordinator.Moves.{same_tx-is}
use Rattle.host_laws.specs.Live.{of_live}

-- what a coordinator sends of one transaction
abbrev pub is_said : TxId → Body → Bool
is_said one (Client (TcKeyConf other answer)) = same_tx other one
is_said one (Client (TcCommitConf other epoch)) = same_tx other one
is_said one (Client (TcRollbackRep other cause)) = same_tx other one
is_said one (Client (LqhWaitReq tx key)) = true
is_said one (Chain (LqhKeyReq other work chain at)) = same_tx other one
is_said one (Chain (Commit other key epoch chain at)) = same_tx other one
is_said one (Chain (Complete other key chain at)) = same_tx other one
is_said one (Chain (Abort other key)) = same_tx other one
is_said one (Epoch (DiVerifyReq other ops)) = same_tx other one
is_said one (Epoch (DiVerifyEnd other)) = same_tx other one
is_said one (Host (Continue (work.Transaction other) at)) = same_tx other one
is_said one _ = false

-- what isn't said of it by a coordinator
abbrev pub is_apart : TxId → Body → Bool
is_apart tx (Client (TcBeginConf name other)) = not (same_tx other tx)
is_apart tx (Client (TcKeyConf other answer)) = not (same_tx other tx)
is_apart tx (Client (TcCommitConf other epoch)) = not (same_tx other tx)
is_apart tx (Client (TcRollbackRep other cause)) = not (same_tx other tx)
is_apart tx (Chain (LqhKeyReq other work chain at)) = not (same_tx other tx)
is_apart tx (Chain (Commit other key epoch chain at)) = not (same_tx other tx)
is_apart tx (Chain (Complete other key chain at)) = not (same_tx other tx)
is_apart tx (Chain (Abort other key)) = not (same_tx other tx)
is_apart tx (Epoch (DiVerifyReq other ops)) = not (same_tx other tx)
is_apart tx (Epoch (DiVerifyConf other epoch)) = false
is_apart tx (Epoch (DiVerifyEnd other)) = not (same_tx other tx)
is_apart tx (Host (Continue (work.Transaction other) at)) = not (same_tx other tx)
is_apart tx (Chain (LqhKeyConf other key answer)) = false
is_apart tx (Chain (LqhKeyRef other key why)) = false
is_apart tx (Chain (Committed other key)) = false
is_apart tx (Chain (Completed other key)) = false
is_apart tx (Chain (Aborted other key)) = false
is_apart tx _ = true

said_apart : (tx one : TxId) → same_tx one tx ≡ false → (body : Body) → is_said one body ≡ true
    → is_apart tx body ≡ true
said_apart tx one off (Client (TcKeyConf other answer)) e = ap not (apart tx one other off e)
said_apart tx one off (Client (TcCommitConf other epoch)) e = ap not (apart tx one other off e)
said_apart tx one off (Client (TcRollbackRep other cause)) e = ap not (apart tx one other off e)
said_apart tx one off (Client (LqhWaitReq other key)) e = refl
said_apart tx one off (Chain (LqhKeyReq other work chain at)) e = ap not (apart tx one other off e)
said_apart tx one off (Chain (Commit other key epoch chain at)) e = ap not (apart tx one other off e)
said_apart tx one off (Chain (Complete other key chain at)) e = ap not (apart tx one other off e)
said_apart tx one off (Chain (Abort other key)) e = ap not (apart tx one other off e)
said_apart tx one off (Epoch (DiVerifyReq other ops)) e = ap not (apart tx one other off e)
said_apart tx one off (Epoch (DiVerifyEnd other)) e = ap not (apart tx one other off e)
said_apart tx one off (Host (Continue (work.Transaction other) at)) e = ap not (apart tx one other off e)
said_apart tx one off _ e = cc

said_kinds : (tx : TxId) (body : Body) → OwnKinds tx (is_said tx) body
said_kinds tx body = record {
  chains = record {
    commits = λ key epoch chain at. self;
    completes = λ key chain at. self;
    aborts =
        λ key. self;
    goes_on = λ at. self;
  };
  operates = λ op chain. self;
  answers = λ key answer is. self;
  waits = λ key. refl;
  verifies = λ ops. self;
  verified = self;
  committed = λ epoch. self;
  rolled_back = λ why. self;
}
  where
    self : same_tx tx tx ≡ true
    self = same_tx-self tx

-- all that a transaction sends is said of it
pub turn_said : (s : TcState) (body : Body) (t : Transaction)
    → are_of (is_said (tx_in body)) (turn_row s body t).step.effects.sends ≡ true
turn_said s body t =
    let tx = tx_in body in
    turn_at s tx body t (TurnOnly (is_said tx)) refl
    (own_forms (is_said tx) tx body (said_kinds tx body) s.node s.layout t)

-- where a transaction stands
pub live_none : (tx : TxId) (live : List (TxId × Transaction)) → tally (is_keyed tx) live ≡ 0 → of_live tx live ≡ None
live_none tx [] none = refl
live_none tx (e ∷ live) none = go (same_tx e.0 tx) refl (live_none tx live)
  where
    go : (b : Bool) → same_tx e.0 tx ≡ b → (tally (is_keyed tx) live ≡ 0 → of_live tx live ≡ None)
        → (if b then Some e.1 else of_live tx live) ≡ None
    go true is rest = absurd (omega (arith, none, ap one_if is))
    go false is rest = rest (omega (arith, none, ap one_if is))

-- one that is live, where no two are of one number
pub live_in : (tx : TxId) (t : Transaction) (live : List (TxId × Transaction)) → tally (is_keyed tx) live ≤ 1
    → IsIn (tx, t) live → of_live tx live ≡ Some t
live_in tx t [] once i = absurd i
live_in tx t (e ∷ live) once (inl same) =
    ap (λ b. if b then Some e.1 else of_live tx live)
    (ap (λ (x : TxId × Transaction). same_tx x.0 tx) (sym same) ∙ same_tx-self tx)
    ∙ ap (λ (x : TxId × Transaction). Some x.1) (sym same)
live_in tx t (e ∷ live) once (inr i) = go (same_tx e.0 tx) refl (live_in tx t live)
  where
    go : (b : Bool) → same_tx e.0 tx ≡ b → (tally (is_keyed tx) live ≤ 1 → IsIn (tx, t) live → of_live tx live ≡ Some t)
        → (if b then Some e.1 else of_live tx live) ≡ Some t
    go true is rest =
        absurd (omega (arith, once, ap one_if is, tally_in (is_keyed tx) (tx, t) live i (same_tx-self tx)))
    go false is rest = rest (omega (arith, once, ap one_if is)) i

-- what is left of a transaction after its turn
abbrev pub left_of_turn : Turn → Option Transaction
left_of_turn turn = if turn.over then None else Some turn.step.state

-- A step of a coordinator, as far as one transaction goes: it is about another, the transaction begins, or it takes a
-- turn.
pub data TxStep (tx : TxId) (s : TcState) (body : Body) (step : Step TcState) : Type 0 where
  elsewhere : of_live tx step.state.live ≡ of_live tx s.live → are_of (is_apart tx) step.effects.sends ≡ true
      → (is_turn body ≡ true → tx_in body ≡ tx → of_live tx s.live ≡ None) → TxStep tx s body step
  born : (name : Option ℕ) → body ≡ Client (TcBeginReq name) → tx ≡ next_tx s → of_live tx s.live ≡ None
      → of_live tx step.state.live ≡ Some fresh
      → step.effects.sends ≡ record { to = client; body = Client (TcBeginConf name tx) } ∷ []
      → s.next_seq < step.state.next_seq → TxStep tx s body step
  turned : (t : Transaction) → is_turn body ≡ true → tx_in body ≡ tx → of_live tx s.live ≡ Some t
      → TurnMove s tx t body (turn_row s body t)
      → of_live tx step.state.live ≡ left_of_turn (turn_row s body t)
      → step.effects.sends ≡ (turn_row s body t).step.effects.sends → TxStep tx s body step

module _ (tx : TxId) (s : TcState) (body : Body) (once : tally (is_keyed tx) s.live ≤ 1)
    (own : Each (λ (e : TxId × Transaction). IsOwn s.node s.next_seq e.0) s.live) where
  -- nothing comes of it
  idle : (step other : Step TcState) → step ≡ other → other.state ≡ s → are_of (is_apart tx) other.effects.sends ≡ true
      → (is_turn body ≡ true → tx_in body ≡ tx → of_live tx s.live ≡ None)
      → TxStep tx s body step
  idle step other is same kind absent =
      elsewhere (ap (λ (x : Step TcState). of_live tx x.state.live) is ∙ ap (λ (x : TcState). of_live tx x.live) same)
      (ap (λ (x : Step TcState). are_of (is_apart tx) x.effects.sends) is ∙ kind) absent

  tx_of : (step : Step TcState) → TcStep s body step → TxStep tx s body step
  tx_of step (rests off is) = idle step _ is refl refl (λ turn. absurd (false≢true (sym off ∙ turn)))
  tx_of step (refuses name about is) =
      idle step _ is refl refl (λ turn. absurd (false≢true (sym (ap is_turn about) ∙ turn)))
  tx_of step (passes one ahead about is) =
      idle step _ is refl refl (λ turn. absurd (false≢true (sym (ap is_turn about) ∙ turn)))
  tx_of step (misses turns others is) =
      idle step _ is refl refl
      (λ turn same. live_none tx s.live (tally_none (is_keyed tx) s.live (subst (λ x. AreOthers x s.live) same others)))
  tx_of step (begins name about room is) = go (same_tx (next_tx s) tx) refl
    where
      last : insert_entry same_tx s.live (next_tx s) fresh ≡ s.live ++ (next_tx s, fresh) ∷ []
      last =
          insert_new s.live (next_tx s) fresh
          (each_map (λ (x : TxId × Transaction). IsOwn s.node s.next_seq x.0)
          (λ (x : TxId × Transaction). x.0.seq < s.next_seq) s.live (λ x o. o.early) own)

      now : of_live tx step.state.live ≡ of_live tx (s.live ++ (next_tx s, fresh) ∷ [])
      now = ap (λ (x : Step TcState). of_live tx x.state.live) is ∙ ap (of_live tx) last

      nothing : (live : List (TxId × Transaction)) → live ++ [] ≡ live
      nothing [] = refl
      nothing (x ∷ live) = ap (λ xs. x ∷ xs) (nothing live)

      plain : (x : Body) → is_turn x ≡ true → x ≡ Client (TcBeginReq name) → ⊥
      plain x turn same = false≢true (ap is_turn (sym same) ∙ turn)

      fewer : (live : List (TxId × Transaction)) → tx.seq ≡ s.next_seq
          → Each (λ (e : TxId × Transaction). IsOwn s.node s.next_seq e.0) live → tally (is_keyed tx) live ≡ 0
      fewer [] seq early = refl
      fewer (e ∷ live) seq early = by (same_tx e.0 tx) refl (fewer live seq early.1)
        where
          by : (b : Bool) → same_tx e.0 tx ≡ b → tally (is_keyed tx) live ≡ 0
              → one_if (same_tx e.0 tx) + tally (is_keyed tx) live ≡ 0
          by true same rest =
              absurd (omega (arith, early.0.early, seq, ap (λ (x : TxId). x.seq) (same_tx-is e.0 tx same)))
          by false same rest = omega (arith, rest, ap one_if same)

      go : (b : Bool) → same_tx (next_tx s) tx ≡ b → TxStep tx s body step
      go false off =
          elsewhere (now ∙ of_other s.live [] (next_tx s) tx fresh off ∙ ap (of_live tx) (nothing s.live))
          (ap (λ (x : Step TcState). are_of (is_apart tx) x.effects.sends) is
          ∙ ap (λ b. if not b then true else false) off)
          (λ turn same. absurd (plain body turn about))
      go true same =
          let here : tx ≡ next_tx s = sym (same_tx-is (next_tx s) tx same) in
          let none : tally (is_keyed tx) s.live ≡ 0 = fewer s.live (ap (λ (x : TxId). x.seq) here) own in
          born name about here (live_none tx s.live none)
          (now ∙ ap (λ k. of_live tx (s.live ++ (k, fresh) ∷ [])) (sym here)
          ∙ of_here tx tx fresh s.live [] none (same_tx-self tx))
          (ap (λ (x : Step TcState). x.effects.sends) is
          ∙ ap (λ k. record { to = client; body = Client (TcBeginConf name k) } ∷ []) (sym here))
          (omega (arith, ap (λ (x : Step TcState). x.state.next_seq) is))
  tx_of step (takes about t front back was is) = go (same_tx (tx_in body) tx) refl
    where
      turn : Turn
      turn = turn_row s body t

      move : TurnMove s (tx_in body) t body turn
      move = turn_moves s body t about

      sends_are : step.effects.sends ≡ turn.step.effects.sends
      sends_are = ap (λ (x : Step TcState). x.effects.sends) is

      live_are : step.state.live ≡ left_in (tx_in body) front back turn
      live_are = ap (λ (x : Step TcState). x.state.live) is

      counted : tally (is_keyed tx) s.live ≡ tally (is_keyed tx) (front ++ back) + one_if (same_tx (tx_in body) tx)
      counted = tally_between (is_keyed tx) front (tx_in body, t) back s.live was

      go : (b : Bool) → same_tx (tx_in body) tx ≡ b → TxStep tx s body step
      go false off =
          elsewhere
          (ap (of_live tx) live_are ∙ kept turn.over
          ∙ sym (ap (of_live tx) was ∙ of_other front back (tx_in body) tx t off))
          (ap (are_of (is_apart tx)) sends_are
          ∙ of_kind (is_said (tx_in body)) (is_apart tx) (said_apart tx (tx_in body) off) turn.step.effects.sends
          (turn_said s body t))
          (λ turn same. absurd (false≢true (sym off ∙ (ap (λ x. same_tx x tx) same ∙ same_tx-self tx))))
        where
          kept : (b : Bool)
              → of_live tx (if b then front ++ back else front ++ (tx_in body, turn.step.state) ∷ back)
              ≡ of_live tx (front ++ back)
          kept true = refl
          kept false = of_other front back (tx_in body) tx turn.step.state off
      go true same =
          turned t about one
          (ap (of_live tx) was ∙ ap (λ k. of_live tx (front ++ (k, t) ∷ back)) one
          ∙ of_here tx tx t front back none (same_tx-self tx))
          (subst (λ k. TurnMove s k t body turn) one move) (ap (of_live tx) live_are ∙ kept turn.over) sends_are
        where
          one : tx_in body ≡ tx
          one = same_tx-is (tx_in body) tx same

          none : tally (is_keyed tx) front ≡ 0
          none = omega (arith, once, counted, ap one_if same, tally_append (is_keyed tx) front back)

          kept : (b : Bool)
              → of_live tx (if b then front ++ back else front ++ (tx_in body, turn.step.state) ∷ back)
              ≡ (if b then None else Some turn.step.state)
          kept true = live_none tx (front ++ back) (omega (arith, once, counted, ap one_if same))
          kept false =
              ap (λ k. of_live tx (front ++ (k, turn.step.state) ∷ back)) one
              ∙ of_here tx tx turn.step.state front back none (same_tx-self tx)

  pub tx_step : TxStep tx s body (tc_table s body)
  tx_step = tx_of (tc_table s body) (tc_step s body)

-- numbers rise, and one that is live has one
pub next_grows : (s : TcState) (body : Body) → s.next_seq ≤ (tc_table s body).state.next_seq
next_grows s body = go (tc_table s body) (tc_step s body)
  where
    go : (step : Step TcState) → TcStep s body step → s.next_seq ≤ step.state.next_seq
    go step (rests off is) = omega (arith, ap (λ (x : Step TcState). x.state.next_seq) is)
    go step (refuses name about is) = omega (arith, ap (λ (x : Step TcState). x.state.next_seq) is)
    go step (passes one ahead about is) = omega (arith, ap (λ (x : Step TcState). x.state.next_seq) is)
    go step (begins name about room is) = omega (arith, ap (λ (x : Step TcState). x.state.next_seq) is)
    go step (misses about none is) = omega (arith, ap (λ (x : Step TcState). x.state.next_seq) is)
    go step (takes about t front back was is) = omega (arith, ap (λ (x : Step TcState). x.state.next_seq) is)

pub live_early : (tx : TxId) (s : TcState) (t : Transaction) → of_live tx s.live ≡ Some t
    → Each (λ (e : TxId × Transaction). IsOwn s.node s.next_seq e.0) s.live → tx.seq < s.next_seq
live_early tx s t there own = (each_found (λ e. IsOwn s.node s.next_seq e.0) s.live tx t own there).early

pub live_home : (tx : TxId) (s : TcState) (t : Transaction) → of_live tx s.live ≡ Some t
    → Each (λ (e : TxId × Transaction). IsOwn s.node s.next_seq e.0) s.live → tx.tc ≡ s.node
live_home tx s t there own = (each_found (λ e. IsOwn s.node s.next_seq e.0) s.live tx t own there).home
