-- The epochs of a node hold requests for transactions that have begun, and decide only those.
use Rattle.std.proofs.Common.{◌≡◌, ◌∷◌, ℕ, List, [], inl, inr, subst, sym}
use Rattle.run_theory.specs.Lists.{Each}
use Rattle.run_theory.proofs.EachSent.{each_get, each_removed}
use Rattle.run_theory.proofs.Pasts.{each_append}
use Rattle.sig_core.specs.declared.member.TxId.{TxId}
use Rattle.sig_core.specs.declared.op.Answer.{Answer}
use Rattle.sig_core.specs.declared.op.Op.{Op}
use Rattle.sig_core.specs.declared.outs.Outgoing.{Outgoing}
use Rattle.sig_core.specs.declared.signal.Body.TheVariants.{Epoch}
use Rattle.sig_core.specs.declared.signal.Signal.{Signal}
use Rattle.sig_core.specs.declared.signal.epoch.EpochSignal.TheVariants.{DiVerifyReq}
use Rattle.sig_core.specs.Step.{Step}
use Rattle.dih_node.specs.Dih.{dih_row}
use Rattle.dih_node.specs.Orders.{install_row}
use Rattle.dih_node.specs.State.{DihState, go_on_if}
use Rattle.dih_node.specs.Verify.{given}
use Rattle.outcome_laws.specs.Known.{EpochsKnow}
use Rattle.outcome_laws.specs.Tells.{Decides, IsRightMark, Tells}
use Rattle.outcome_laws.proofs.epochs.Silent.{silent_tell}
use Rattle.outcome_laws.proofs.epochs.Steps.{HoldsNoMore, dih_each, dih_installs_hold, dih_installs_quiet}
use Rattle.outcome_laws.proofs.epochs.Steps.{goes_on_silent}

-- what is so of each is so of those still held
pub each_held : (P : TxId → Type 0) (now held : List TxId) → HoldsNoMore now held → Each P held → Each P now
each_held P now held (inl same) all = subst (Each P) (sym same) all
each_held P now held (inr less) all = subst (Each P) (sym less.is) (each_removed P held less.place all)

module _ (D : TxId → ℕ → Type 0) (B : TxId → Type 0) where
  -- who asks has begun
  asked : (x : Signal) (tx : TxId) (ops : List (Op × Answer)) → Tells D B x.body
      → x.body ≡ Epoch (DiVerifyReq tx ops) → B tx
  asked x tx ops told is = subst (Tells D B) is told

  -- they know it of all that they hold
  pub epochs_know : (s : DihState) (x : Signal) → EpochsKnow D B s → Tells D B x.body
      → EpochsKnow D B (dih_row s x).state
  unfolding given
  epochs_know s x known told =
      dih_each s (λ step. EpochsKnow D B step.state) x (record {
        quiet = λ step is. each_held B step.state.held s.held is.holds known;
        gives_it = λ tx ops is. known;
        holds_it = λ tx ops is. each_append B s.held (tx ∷ []) known (asked x tx ops told is, tt);
        serves_it = λ tx first. each_removed B s.held 0 known;
      })

  pub epochs_install_know : (s : DihState) (number : ℕ) → EpochsKnow D B s
      → EpochsKnow D B (install_row s number).state
  epochs_install_know s number known = subst (Each B) (sym (dih_installs_hold s number)) known

  -- they decide what they hold, or what is asked for
  pub epochs_mark : (s : DihState) (x : Signal) → EpochsKnow D B s → Tells D B x.body
      → Each (IsRightMark D B) (dih_row s x).effects.marks
  unfolding given
  epochs_mark s x known told =
      dih_each s (λ step. Each (IsRightMark D B) step.effects.marks) x (record {
        quiet = λ step is. subst (Each (IsRightMark D B)) (sym is.marks) tt;
        gives_it = λ tx ops is. (asked x tx ops told is, tt);
        holds_it = λ tx ops is. tt;
        serves_it = λ tx first. (each_get B s.held 0 tx known first, tt);
      })

  -- what a step tells is true where its decisions are
  abbrev TellsAsDecided : Step DihState → Type 0
  TellsAsDecided step =
      Each (Decides D B) step.effects.marks → Each (λ (sent : Outgoing). Tells D B sent.body) step.effects.sends

  -- they tell an epoch where they decide in it
  pub epochs_tell : (s : DihState) (x : Signal) → Each (Decides D B) (dih_row s x).effects.marks
      → Each (λ (sent : Outgoing). Tells D B sent.body) (dih_row s x).effects.sends
  unfolding given
  epochs_tell s x =
      dih_each s (λ step. TellsAsDecided step) x (record {
        quiet = λ step is decides. silent_tell D B step.effects.sends is.sends;
        gives_it = λ tx ops is decides. (decides.0, tt);
        holds_it = λ tx ops is decides. tt;
        serves_it = λ tx first decides. (decides.0, silent_tell D B (go_on_if _ _) (goes_on_silent _ _));
      })

  pub epochs_install_tell : (s : DihState) (number : ℕ)
      → Each (λ (sent : Outgoing). Tells D B sent.body) (install_row s number).effects.sends
  epochs_install_tell s number =
      silent_tell D B (install_row s number).effects.sends (dih_installs_quiet s number).sends
