-- Which transactions the epochs beside a coordinator hold, decide and tell the epoch of.
use Rattle.std.proofs.Common.{◌≡◌, ◌⊎◌, ◌∙◌, ℕ, List, [], ◌∷◌, refl, sym, ap, subst, inl, inr}
use Rattle.std.proofs.lemmas.Bool.{true≢false}
use Rattle.run_theory.specs.Lists.{Each, IsIn}
use Rattle.run_theory.proofs.EachSent.{each_get, each_removed}
use Rattle.run_theory.proofs.Pasts.{each_append, each_in}
use Rattle.sig_core.specs.declared.mark.Mark.TheVariants.{Decided}
use Rattle.sig_core.specs.declared.member.TxId.{TxId}
use Rattle.sig_core.specs.declared.op.Answer.{Answer}
use Rattle.sig_core.specs.declared.op.Op.{Op}
use Rattle.sig_core.specs.declared.outs.Outgoing.{Outgoing}
use Rattle.sig_core.specs.declared.signal.Body.TheVariants.{Epoch}
use Rattle.sig_core.specs.declared.signal.Signal.{Signal}
use Rattle.sig_core.specs.declared.signal.epoch.EpochSignal.TheVariants.{DiVerifyConf, DiVerifyReq}
use Rattle.sig_core.specs.Step.{Step}
use Rattle.dih_node.specs.Dih.{dih_row}
use Rattle.dih_node.specs.State.{DihState, go_on_if}
use Rattle.dih_node.specs.Verify.{given}
use Rattle.outcome_laws.proofs.epochs.Silent.{AreSilent, IsSilent, is_telling}
use Rattle.outcome_laws.proofs.epochs.Steps.{dih_each, goes_on_silent}
use Rattle.outcome_laws.proofs.epochs.KnowBegun.{each_held}

-- a signal that gives the transaction this epoch is among these
pub record IsGiven (tx : TxId) (epoch : ℕ) (sends : List Outgoing) : Type 0 where
  pub sent : Outgoing
  pub there : IsIn sent sends
  pub body : sent.body ≡ Epoch (DiVerifyConf tx epoch)

-- what is so of all that were held, and of who asks, is so of all that are held, and of who is decided; and an epoch is
-- told of who is
pub record Holds (P : TxId → Type 0) (step : Step DihState) : Type 0 where
  pub held : Each P step.state.held
  pub decided : (tx : TxId) (epoch : ℕ) → IsIn (Decided tx epoch) step.effects.marks → P tx
  pub given : (tx : TxId) (epoch : ℕ) → IsGiven tx epoch step.effects.sends
      → IsIn (Decided tx epoch) step.effects.marks

not_silent : (tx : TxId) (epoch : ℕ) (sends : List Outgoing) → AreSilent sends → IsGiven tx epoch sends → ⊥
not_silent tx epoch sends all given =
    let silent = each_in IsSilent given.sent sends all given.there in
    true≢false (sym (ap is_telling given.body) ∙ silent)

one_decided : (P : TxId → Type 0) (one tx : TxId) (now epoch : ℕ) → P one
    → IsIn (Decided tx epoch) (Decided one now ∷ []) → P tx
one_decided P one tx now epoch own (inl is) = let same : one ≡ tx = cc in subst P same own
one_decided P one tx now epoch own (inr more) = absurd more

one_given : (one tx : TxId) (now epoch : ℕ) (o : Outgoing) (more : List Outgoing)
    → o.body ≡ Epoch (DiVerifyConf one now) → AreSilent more → IsGiven tx epoch (o ∷ more)
    → IsIn (Decided tx epoch) (Decided one now ∷ [])
one_given one tx now epoch o more body silent given = by given.there
  where
    by : (given.sent ≡ o) ⊎ IsIn given.sent more → IsIn (Decided tx epoch) (Decided one now ∷ [])
    by (inl is) =
        let both : Epoch (DiVerifyConf tx epoch) ≡ Epoch (DiVerifyConf one now) =
        sym given.body ∙ (ap (λ (u : Outgoing). u.body) is ∙ body) in
        let txs : tx ≡ one = cc in
        let epochs : epoch ≡ now = cc in
        inl (λ i. Decided (txs i) (epochs i))
    by (inr there) =
        absurd (not_silent tx epoch more silent (record { sent = given.sent; there = there; body = given.body }))

module _ (P : TxId → Type 0) (s : DihState) (x : Signal) (all : Each P s.held)
    (asks : (tx : TxId) (ops : List (Op × Answer)) → x.body ≡ Epoch (DiVerifyReq tx ops) → P tx)
  where
    pub dih_holds : Holds P (dih_row s x)
    unfolding given
    dih_holds =
        dih_each s (λ step. Holds P step) x (record {
          quiet = λ step is. record {
            held = each_held P step.state.held s.held is.holds all;
            decided = λ tx epoch there. absurd (subst (λ marks. IsIn (Decided tx epoch) marks) is.marks there);
            given = λ tx epoch told. absurd (not_silent tx epoch step.effects.sends is.sends told);
          };
          gives_it = λ one ops is. record {
            held = all;
            decided = λ tx epoch there. one_decided P one tx s.current epoch (asks one ops is) there;
            given = λ tx epoch told. one_given one tx s.current epoch _ [] refl tt told;
          };
          holds_it = λ one ops is. record {
            held = each_append P s.held (one ∷ []) all (asks one ops is, tt);
            decided = λ tx epoch there. absurd there;
            given = λ tx epoch told. absurd told.there;
          };
          serves_it = λ one first. record {
            held = each_removed P s.held 0 all;
            decided = λ tx epoch there.
                one_decided P one tx s.current epoch (each_get P s.held 0 one all first) there;
            given = λ tx epoch told.
                one_given one tx s.current epoch _ (go_on_if _ _) refl (goes_on_silent _ _) told;
          };
        })
