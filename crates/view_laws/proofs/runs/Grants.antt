-- Grants are sent by the arbitrator alone, at questions that it grants.
use Rattle.std.proofs.Common.{◌≡◌, ◌⊎◌, ℕ, true, false, List, refl, inl, inr}
use Rattle.std.specs.Prelude.{Option}
use Rattle.run_theory.specs.Lists.{Each}
use Rattle.run_theory.proofs.Pasts.{each_map}
use Rattle.sig_core.specs.declared.member.Member.{Member}
use Rattle.sig_core.specs.declared.outs.Outgoing.{Outgoing}
use Rattle.sig_core.specs.declared.signal.Body.{Body}
use Rattle.sig_core.specs.declared.signal.Body.TheVariants.{Membership}
use Rattle.sig_core.specs.declared.signal.membership.MembershipSignal.TheVariants.{ArbitConf, ArbitReq}
use Rattle.sig_core.specs.declared.signal.Signal.{Signal}
use Rattle.sig_core.specs.Step.{to_place}
use Rattle.arbiter_block.specs.Arbiter.{ArbiterState, arbiter_row, asker, is_granted}
use Rattle.qmgr_block.specs.Qmgr.{qmgr_row}
use Rattle.qmgr_block.specs.Words.{is_qmgr_word}
use Rattle.qmgr_block.proofs.Walk.{qmgr_words}
use Rattle.arbiter_block.proofs.Walk.{arbiter_outcomes}
use Rattle.step_forms.specs.Does.{IsWord}
use Rattle.qmgr_block.specs.State.{QmgrState}
use Rattle.view_laws.specs.Votes.{is_vote}

-- it is no grant
abbrev pub IsNoGrant : Body → Type 0
IsNoGrant (Membership (ArbitConf number)) = ⊥
IsNoGrant body = Unit {0}

abbrev GrantsNothing : Outgoing → Type 0
GrantsNothing sent = IsNoGrant sent.body

of_words : (body : Body) → is_qmgr_word body ≡ true → IsNoGrant body
of_words (Membership (ArbitConf number)) is = absurd cc
of_words body is = tt

-- a membership grants nothing
pub members_grant : (s : QmgrState) (x : Signal) → Each (λ sent. IsNoGrant sent.body) (qmgr_row s x).effects.sends
members_grant s x =
    each_map (IsWord is_qmgr_word) GrantsNothing (qmgr_row s x).effects.sends (λ sent is. of_words sent.body is)
    (qmgr_words.at_signals s x).0

-- the arbitrator sends this: a question was granted
pub record IsGrantOf (s : ArbiterState) (x : Signal) (sent : Outgoing) : Type 0 where
  pub number : ℕ
  pub group : List Member
  pub joins : Option Member
  pub asks : x.body ≡ Membership (ArbitReq number group joins)
  pub granted : is_granted s number group joins ≡ true
  pub is : sent ≡ to_place (asker x.member.node) (Membership (ArbitConf number))

abbrev pub IsAnswer : ArbiterState → Signal → Outgoing → Type 0
IsAnswer s x sent = (is_vote sent.body ≡ false) ⊎ IsGrantOf s x sent

-- what the arbitrator sends is no vote, or grants what was asked for
pub arbiter_answers : (s : ArbiterState) (x : Signal) → Each (IsAnswer s x) (arbiter_row s x).effects.sends
arbiter_answers s x =
    arbiter_outcomes s x (λ step. Each (IsAnswer s x) step.effects.sends) (record {
      stays = tt;
      grants = λ number group joins asks may.
          (inr (record { number = number; group = group; joins = joins; asks = asks; granted = may; is = refl }), tt);
      refuses = λ number group joins asks refused. (inl refl, tt);
    })
