-- Nor is its abort reported by any host, along a log without operations and wishes for an abort.
use Rattle.std.proofs.Common.{◌≡◌, ℕ, Bool, true, false, List, [], ◌∷◌, ◌++◌, refl, sym, ap, ◌∙◌, subst, arith}
use Rattle.std.specs.Prelude.{◌&&◌, if◌then◌else◌}
use Rattle.indexmap.specs.IndexMap.{insert_entry}
use Rattle.run_theory.specs.Lists.{Each}
use Rattle.sig_core.specs.declared.member.TxId.{TxId}
use Rattle.sig_core.specs.declared.outs.Outgoing.{Outgoing}
use Rattle.sig_core.specs.declared.place.Place.{Place}
use Rattle.sig_core.specs.declared.signal.Body.{Body}
use Rattle.sig_core.specs.declared.signal.Body.TheVariants.{Client}
use Rattle.sig_core.specs.declared.signal.client.ClientSignal.TheVariants.{TcKeyReq, TcRollbackRep, TcRollbackReq}
use Rattle.sig_core.specs.declared.signal.Signal.{Signal}
use Rattle.sig_core.specs.Same.{same_tx}
use Rattle.sig_core.specs.Step.{Step}
use Rattle.node_core.specs.Blocks.{tc_of}
use Rattle.node_core.specs.declared.host.Host.{Host}
use Rattle.node_core.specs.Row.{row}
use Rattle.tc_block.specs.declared.transaction.Transaction.{Transaction}
use Rattle.tc_block.specs.Operate.{fresh}
use Rattle.tc_block.specs.State.{TcState}
use Rattle.tc_block.specs.Tc.{tc_row}
use Rattle.world_core.specs.Machine.{after}
use Rattle.world_core.specs.Start.{Start}
use Rattle.world_core.specs.Steps.{HostStep}
use Rattle.host_laws.proofs.api.Begins.{each_at, each_changed, each_less}
use Rattle.host_laws.proofs.hosts.SendKinds.{none_of}
use Rattle.host_laws.proofs.coordinator.Lives.{apart}
use Rattle.host_laws.proofs.coordinator.Steps.{is_said, turn_said}
use Rattle.tc_block.proofs.TurnRows.{begins, misses, rests, takes, tc_step, TcStep, turn_row, tx_in, passes, refuses}
use Rattle.tc_block.proofs.TurnRows.{left_step}
use Rattle.host_laws.proofs.api.Wishes.{is_tc, sends_of}
use Rattle.command_laws.proofs.ends.Firm.{firm_turn, is_firm, is_no_abort, is_push}
use Rattle.command_laws.proofs.hosts.HostSends.{IsOfTc, is_other_kind}
use Rattle.command_laws.proofs.hosts.BlockSteps.{tc_host}
use Rattle.command_laws.proofs.quiet.Since.{sent_since}

-- an operation of the transaction, or the wish for its abort
abbrev pub push_of : TxId → Body → Bool
push_of tx (Client (TcKeyReq other op)) = same_tx other tx
push_of tx (Client (TcRollbackReq other)) = same_tx other tx
push_of tx _ = false

abbrev pub is_push_to : TxId → Place → Body → Bool
is_push_to tx to body = is_tc to.block && push_of tx body

-- the report of its abort
abbrev pub back_of : TxId → Body → Bool
back_of tx (Client (TcRollbackRep other cause)) = same_tx other tx
back_of tx _ = false

abbrev pub is_back : TxId → Place → Body → Bool
is_back tx to body = back_of tx body

pub each_inserted_value : (P : TxId × Transaction → Type 0) (live : List (TxId × Transaction)) (tx : TxId)
    (t : Transaction)
    → ((key : TxId) → P (key, t)) → Each P live → Each P (insert_entry same_tx live tx t)
each_inserted_value P [] tx t own all = (own tx, tt)
each_inserted_value P (e ∷ live) tx t own all = by (same_tx tx e.0) (each_inserted_value P live tx t own all.1)
  where
    by : (b : Bool) → Each P (insert_entry same_tx live tx t)
        → Each P (if b then (e.0, t) ∷ live else e ∷ insert_entry same_tx live tx t)
    by true rest = (own e.0, all.1)
    by false rest = (all.0, rest)

module _ (tx : TxId) where
  -- the transaction is firm wherever it stands
  abbrev pub IsFirmFor : TxId × Transaction → Type 0
  IsFirmFor e = same_tx e.0 tx ≡ true → is_firm e.1.phase e.1.asked ≡ true

  abbrev pub AllFirm : List (TxId × Transaction) → Type 0
  AllFirm live = Each IsFirmFor live

  pub no_back_firm : (to : Place) (body : Body) → is_no_abort body ≡ true → is_back tx to body ≡ false
  no_back_firm to (Client (TcRollbackRep other cause)) e = cc
  no_back_firm to _ e = refl

  no_back_other : (one : TxId) → same_tx one tx ≡ false → (to : Place) (body : Body) → is_said one body ≡ true
      → is_back tx to body ≡ false
  no_back_other one differs to (Client (TcRollbackRep other cause)) e = apart tx one other differs e
  no_back_other one differs to _ e = refl

  pub not_push : (body : Body) → push_of tx body ≡ false → same_tx (tx_in body) tx ≡ true → is_push body ≡ false
  not_push (Client (TcKeyReq other op)) none same = absurd (let both : true ≡ false = sym same ∙ none in cc)
  not_push (Client (TcRollbackReq other)) none same = absurd (let both : true ≡ false = sym same ∙ none in cc)
  not_push _ none same = refl

  -- a step after which it is still firm, and in which no abort of it is reported
  record KeepsFirm (live : List (TxId × Transaction)) (sends : List Outgoing) : Type 0 where
    firm : AllFirm live
    silent : sends_of (is_back tx) sends ≡ 0

  module _ (s : TcState) (body : Body) (plain : push_of tx body ≡ false) (firm : AllFirm s.live) where
    -- after the turn of the signal's transaction, which is firm still, if it is this one
    after_turn : (t : Transaction) (front back : List (TxId × Transaction)) → s.live ≡ front ++ (tx_in body, t) ∷ back
        → IsFirmFor (tx_in body, (turn_row s body t).step.state) → (b : Bool)
        → AllFirm (if b then front ++ back else front ++ (tx_in body, (turn_row s body t).step.state) ∷ back)
    after_turn t front back was stays true = each_less IsFirmFor front (tx_in body, t) back s.live was firm
    after_turn t front back was stays false =
        each_changed IsFirmFor front (tx_in body, t) (tx_in body, (turn_row s body t).step.state) back s.live was firm
        (λ before. stays)

    turn_firm : (step : Step TcState) (t : Transaction) (front back : List (TxId × Transaction))
        → s.live ≡ front ++ (tx_in body, t) ∷ back
        → step ≡ left_step s (tx_in body) front back (turn_row s body t)
        → sends_of (is_back tx) (turn_row s body t).step.effects.sends ≡ 0
        → IsFirmFor (tx_in body, (turn_row s body t).step.state)
        → KeepsFirm step.state.live step.effects.sends
    turn_firm step t front back was is quiet stays = record {
      firm = subst (λ (x : Step TcState). AllFirm x.state.live) (sym is)
          (after_turn t front back was stays (turn_row s body t).over);
      silent = ap (λ (x : Step TcState). sends_of (is_back tx) x.effects.sends) is ∙ quiet;
    }

    idle : (step other : Step TcState) → step ≡ other → other.state ≡ s → sends_of (is_back tx) other.effects.sends ≡ 0
        → KeepsFirm step.state.live step.effects.sends
    idle step other is same quiet = record {
      firm = subst (λ (x : Step TcState). AllFirm x.state.live) (sym is)
          (subst (λ (x : TcState). AllFirm x.live) (sym same) firm);
      silent = ap (λ (x : Step TcState). sends_of (is_back tx) x.effects.sends) is ∙ quiet;
    }

    step_firm : (step : Step TcState) → TcStep s body step → KeepsFirm step.state.live step.effects.sends
    step_firm step (rests off is) = idle step _ is refl refl
    step_firm step (refuses name about is) = idle step _ is refl refl
    step_firm step (passes one ahead about is) = idle step _ is refl refl
    step_firm step (misses about none is) = idle step _ is refl refl
    step_firm step (begins name about room is) = record {
      firm = subst (λ (x : Step TcState). AllFirm x.state.live) (sym is)
          (each_inserted_value _ s.live _ fresh (λ key same. refl) firm);
      silent = ap (λ (x : Step TcState). sends_of (is_back tx) x.effects.sends) is;
    }
    step_firm step (takes about t front back was is) = by (same_tx (tx_in body) tx) refl
      where
        by : (b : Bool) → same_tx (tx_in body) tx ≡ b → KeepsFirm step.state.live step.effects.sends
        by true same =
            let stays = firm_turn s (tx_in body) body t refl (not_push body plain same)
            (each_at IsFirmFor front (tx_in body, t) back s.live was firm same) in
            turn_firm step t front back was is
            (none_of is_no_abort (is_back tx) no_back_firm (turn_row s body t).step.effects.sends stays.sends)
            (λ own. stays.firm)
        by false differs =
            turn_firm step t front back was is
            (none_of (is_said (tx_in body)) (is_back tx) (no_back_other (tx_in body) differs)
            (turn_row s body t).step.effects.sends (turn_said s body t))
            (λ own. absurd (let both : false ≡ true = sym differs ∙ own in cc))

  abbrev pub FirmHost : Host → Type 0
  FirmHost g = AllFirm (tc_of g).live

  back_tc : IsOfTc (is_back tx)
  back_tc = record { others = others; begins = λ name node. refl }
    where
      others : (to : Place) (body : Body) → is_other_kind body ≡ true → is_back tx to body ≡ false
      others to (Client (TcRollbackRep other cause)) e = cc
      others to _ e = refl

  host_firm : (g : Host) (x : Signal) → is_push_to tx x.to x.body ≡ false → FirmHost g
      → KeepsFirm (tc_of (row g x).state).live (row g x).effects.sends
  host_firm g x plain firm =
      tc_host (λ (step : Step TcState). KeepsFirm step.state.live step.effects.sends) g x
      (λ runs at. step_firm (tc_of g) x.body (ap (λ of. is_tc of && push_of tx x.body) (sym at) ∙ plain) firm
      (tc_row (tc_of g) x) (tc_step (tc_of g) x.body))
      (λ effects none off. record { firm = firm; silent = none (is_back tx) back_tc })

  -- so no host reports it in steps that take neither an operation of the transaction nor the wish for its abort
  pub firm_since : (start : Start) (h : ℕ) (newer log : List HostStep) → FirmHost (after start h log)
      → Each (λ (e : HostStep). is_push_to tx e.step.taken.to e.step.taken.body ≡ false) newer
      → FirmHost (after start h (newer ++ log)) × (sent_since start (is_back tx) h newer log ≡ 0)
  firm_since start h [] log firm plain = (firm, refl)
  firm_since start h (e ∷ newer) log firm plain = next (firm_since start h newer log firm plain.1)
    where
      next : FirmHost (after start h (newer ++ log)) × (sent_since start (is_back tx) h newer log ≡ 0)
          → FirmHost (after start h (e ∷ (newer ++ log))) × (sent_since start (is_back tx) h (e ∷ newer) log ≡ 0)
      next before =
          let step = host_firm (after start h (newer ++ log)) e.step.taken plain.0 before.0 in
          (step.firm, omega (arith, step.silent, before.1))
