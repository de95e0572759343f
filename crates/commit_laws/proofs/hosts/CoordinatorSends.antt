-- What holds of each form of signal that a transaction sends at its coordinator, turn by turn, holds of each signal
-- about it that a step of the coordinator sends; and what the coordinator has of it behind the step is what the turn
-- left.
use Rattle.std.proofs.Common.{◌≡◌, ◌⊎◌, ◌∙◌, ◌++◌, ℕ, Bool, true, false, List, [], ◌∷◌, nat_lt, length, refl, sym, ap}
use Rattle.std.proofs.Common.{subst, inl, inr}
use Rattle.std.proofs.lemmas.Bool.{true≢false}
use Rattle.std.proofs.lemmas.List.{append-nil}
use Rattle.std.specs.Prelude.{Some}
use Rattle.run_theory.specs.Lists.{IsIn}
use Rattle.run_theory.proofs.Pasts.{each_in}
use Rattle.sig_core.specs.declared.member.Member.{Member}
use Rattle.sig_core.specs.declared.member.TxId.{TxId}
use Rattle.sig_core.specs.declared.outs.Outgoing.{Outgoing}
use Rattle.sig_core.specs.declared.signal.Body.{Body}
use Rattle.sig_core.specs.declared.signal.Body.TheVariants.{Client}
use Rattle.sig_core.specs.declared.signal.Signal.{Signal}
use Rattle.sig_core.specs.declared.signal.client.ClientSignal.TheVariants.{TcBeginConf, TcWaitConf}
use Rattle.sig_core.specs.Step.{Step}
use Rattle.tc_block.specs.Resume.{resume_row}
use Rattle.tc_block.specs.Turn.{Turn}
use Rattle.tc_block.specs.declared.transaction.Transaction.{Transaction}
use Rattle.tc_block.proofs.TurnRows.{turn_for}
use Rattle.tc_block.proofs.TurnSends.{TurnSends, resume_row_sends, turn_for_sends}
use Rattle.tc_views.specs.Coordinator.{coordinator_row}
use Rattle.tc_views.specs.State.{CoordinatorState, go_on_if, go_on_with}
use Rattle.view_laws.proofs.ballots.MadeSets.{in_either}
use Rattle.outcome_laws.specs.Counts.{IsCoordinatorOf}
use Rattle.request_laws.specs.Ways.{entry_of}
use Rattle.request_laws.proofs.phases.Steps.{Walks, begins, coordinator_walks, is_about, left_of, passes, resumes}
use Rattle.request_laws.proofs.phases.Steps.{stays}
use Rattle.request_laws.proofs.phases.Steps.{turns}

-- a coordinator sends it beside the turns of its transactions
abbrev pub is_beside : Body → Bool
is_beside (Client (TcBeginConf name tx)) = true
is_beside (Client (TcWaitConf tx ahead)) = true
is_beside body = false

module _ (member : Member) (s : CoordinatorState) (of : IsCoordinatorOf member s) (x : Signal) (tx : TxId)
    (P : Transaction → Turn → Outgoing → Type 0)
    (forms : (t : Transaction) → TurnSends s.tc.node s.tc.layout tx t x.body (P t))
  where
    abbrev step : Step CoordinatorState
    step = coordinator_row s x

    -- a turn of the transaction sends it, in front of what more is sent
    pub record SentBy (o : Outgoing) : Type 0 where
      pub t : Transaction
      pub turn : Turn
      pub found : entry_of s tx ≡ Some t
      pub left : entry_of (coordinator_row s x).state tx ≡ left_of turn
      pub more : List Outgoing
      pub sends : (coordinator_row s x).effects.sends ≡ turn.step.effects.sends ++ more
      pub inside : IsIn o turn.step.effects.sends
      pub said : P t turn o

    module _ (o : Outgoing) (about : is_about tx o.body ≡ true) (own : is_beside o.body ≡ false) where
      -- nothing beside the turns is about it
      no_other : (one : Outgoing) → is_beside one.body ≡ true → IsIn o (one ∷ []) → ⊥
      no_other one beside (inl is) =
          true≢false (sym (ap (λ (y : Outgoing). is_beside y.body) is ∙ beside) ∙ own)
      no_other one beside (inr none) = none

      no_more : (node : ℕ) (b : Bool) → IsIn o (go_on_if node b) → ⊥
      no_more node true (inl is) = true≢false (sym about ∙ ap (λ (y : Outgoing). is_about tx y.body) is)
      no_more node true (inr none) = none
      no_more node false none = none

      walked : Walks member s x.view.number x.body tx step → IsIn o step.effects.sends → SentBy o
      walked (stays same unborn away) there =
          absurd (true≢false (sym about ∙ each_in (λ (y : Outgoing). is_about tx y.body ≡ false) o step.effects.sends
          away there))
      walked (passes ahead is same next out) there = absurd (no_other _ refl (subst (IsIn o) out there))
      walked (begins name is room own_tx none some next out) there = absurd (no_other _ refl (subst (IsIn o) out there))
      walked (turns t found takes same free left next out) there =
          let turn : Turn = turn_for s.tc.node s.tc.layout tx x.body t in
          let inside : IsIn o turn.step.effects.sends = subst (IsIn o) out there in
          record {
            t = t;
            turn = turn;
            found = found;
            left = left;
            more = [];
            sends = out ∙ sym (append-nil turn.step.effects.sends);
            inside = inside;
            said =
                each_in (P t turn) o turn.step.effects.sends
                (turn_for_sends s.tc.node s.tc.layout tx t x.body (P t) (forms t) same) inside;
          }
      walked (resumes t verdict rest place node found is newer tasks left next out) there =
          by (in_either o turn.step.effects.sends (go_on_with node rest) (subst (IsIn o) out there))
        where
          turn : Turn
          turn = resume_row s.tc.node s.tc.layout tx t verdict s.number

          by : IsIn o turn.step.effects.sends ⊎ IsIn o (go_on_with node rest) → SentBy o
          by (inr more) = absurd (no_more node (nat_lt 0 (length rest)) more)
          by (inl inside) = record {
            t = t;
            turn = turn;
            found = found;
            left = left;
            more = go_on_with node rest;
            sends = out;
            inside = inside;
            said =
                each_in (P t turn) o turn.step.effects.sends
                (resume_row_sends s.tc.node s.tc.layout tx t x.body (P t) (forms t).drives verdict s.number) inside;
          }

      pub sent_by : IsIn o (coordinator_row s x).effects.sends → SentBy o
      sent_by there = walked (coordinator_walks member s of tx x) there
