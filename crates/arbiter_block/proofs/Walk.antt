-- What holds of each form of step of the arbitrator holds of what it does at each signal.
use Rattle.std.proofs.Common.{◌≡◌, ℕ, Bool, true, false, List, refl}
use Rattle.std.specs.Prelude.{Option}
use Rattle.sig_core.specs.declared.mark.Mark.{Mark}
use Rattle.sig_core.specs.declared.member.Member.{Member}
use Rattle.sig_core.specs.declared.outs.Outgoing.{Outgoing}
use Rattle.sig_core.specs.declared.signal.Body.{Body}
use Rattle.sig_core.specs.declared.signal.Body.TheVariants.{Membership}
use Rattle.sig_core.specs.declared.signal.Signal.{Signal}
use Rattle.sig_core.specs.declared.signal.membership.MembershipSignal.TheVariants.{ArbitConf, ArbitRef, ArbitReq}
use Rattle.sig_core.specs.Step.{Step, stay, to_place}
use Rattle.step_forms.specs.Does.{Does, IsAmong, IsWord}
use Rattle.arbiter_block.specs.Arbiter.{ArbiterState, arbit_if, arbit_row, arbiter_row, arbiter_table, asker}
use Rattle.arbiter_block.specs.Arbiter.{is_granted}
use Rattle.arbiter_block.specs.Words.{ArbiterKeepsToItsWords, is_arbiter_mark, is_arbiter_word}

-- R is of each step that the arbitrator may take at the signal: it leaves it alone, or grants or refuses a set
pub record ArbiterOutcomes (s : ArbiterState) (x : Signal) (R : Step ArbiterState → Type 0) : Type 0 where
  pub stays : R (stay s)
  pub grants : (number : ℕ) (members : List Member) (joining : Option Member)
      → x.body ≡ Membership (ArbitReq number members joining) → is_granted s number members joining ≡ true
      → R (arbit_if s x.member.node number members true)
  pub refuses : (number : ℕ) (members : List Member) (joining : Option Member)
      → x.body ≡ Membership (ArbitReq number members joining) → is_granted s number members joining ≡ false
      → R (arbit_if s x.member.node number members false)

pub arbiter_outcomes : (s : ArbiterState) (x : Signal) (R : Step ArbiterState → Type 0) → ArbiterOutcomes s x R
    → R (arbiter_row s x)
unfolding arbit_row
arbiter_outcomes s x R forms = by x.body refl
  where
    asked : (number : ℕ) (members : List Member) (joining : Option Member)
        → x.body ≡ Membership (ArbitReq number members joining) → (b : Bool)
        → is_granted s number members joining ≡ b → R (arbit_if s x.member.node number members b)
    asked number members joining is true may = forms.grants number members joining is may
    asked number members joining is false may = forms.refuses number members joining is may

    by : (body : Body) → x.body ≡ body → R (arbiter_table s x.member.node body)
    by (Membership (ArbitReq number members joining)) is =
        asked number members joining is (is_granted s number members joining) refl
    by _ is = forms.stays

-- P is of each answer that it may send; it marks nothing
pub record ArbiterForms (s : ArbiterState) (x : Signal) (P : Outgoing → Type 0) (M : Mark → Type 0) : Type 0 where
  pub confirms : (number : ℕ) (members : List Member) (joining : Option Member)
      → x.body ≡ Membership (ArbitReq number members joining) → is_granted s number members joining ≡ true
      → P (to_place (asker x.member.node) (Membership (ArbitConf number)))
  pub refuses : (number : ℕ) (members : List Member) (joining : Option Member)
      → x.body ≡ Membership (ArbitReq number members joining) → is_granted s number members joining ≡ false
      → P (to_place (asker x.member.node) (Membership (ArbitRef s.number s.members)))

pub arbiter_each : (s : ArbiterState) (x : Signal) (P : Outgoing → Type 0) (M : Mark → Type 0)
    → ArbiterForms s x P M → Does P M (arbiter_row s x)
arbiter_each s x P M forms =
    arbiter_outcomes s x (λ step. Does P M step) (record {
      stays = (tt, tt);
      grants = λ number members joining is may. ((forms.confirms number members joining is may, tt), tt);
      refuses = λ number members joining is may. ((forms.refuses number members joining is may, tt), tt);
    })

pub arbiter_words : ArbiterKeepsToItsWords
arbiter_words s x =
    arbiter_each s x (IsWord is_arbiter_word) (IsAmong is_arbiter_mark) (record {
      confirms = λ number members joining is may. refl;
      refuses = λ number members joining is may. refl;
    })
