-- Who takes a part of an operation, and what a step of another block leaves alone.
use Rattle.std.proofs.Common.{◌≡◌, ◌⊎◌, inl, inr, ℕ, ◌≤◌, Bool, true, false, ◌&&◌, List, refl, sym, ap, ◌∙◌, subst}
use Rattle.std.proofs.lemmas.Bool.{and_parts, eqb-true}
use Rattle.std.specs.Prelude.{if◌then◌else◌, nat_eq, None, Some}
use Rattle.sig_core.specs.declared.member.TxId.{TxId}
use Rattle.sig_core.specs.declared.place.BlockId.{BlockId}
use Rattle.sig_core.specs.declared.place.BlockId.TheVariants as block
use Rattle.sig_core.specs.declared.place.Place.{Place}
use Rattle.sig_core.specs.declared.signal.Body.{Body}
use Rattle.sig_core.specs.declared.signal.Body.TheVariants.{Chain}
use Rattle.sig_core.specs.declared.signal.chain.ChainSignal.TheVariants.{LqhKeyReq, LqhKeyConf, LqhKeyRef}
use Rattle.sig_core.specs.Same.{same_key, same_tx}
use Rattle.sig_core.specs.Step.{Effects, Step}
use Rattle.sig_core.proofs.TxLemmas.{same_tx-is}
use Rattle.lqh_block.specs.declared.request.Request.{Request}
use Rattle.sig_core.specs.Work.{work_key}
use Rattle.node_core.specs.declared.host.Host.{Host}
use Rattle.node_core.specs.Blocks.{tc_of}
use Rattle.tc_block.specs.State.{TcState}
use Rattle.host_laws.specs.Live.{of_live}
use Rattle.run_laws.specs.Live.{of_host}
use Rattle.run_laws.proofs.hosts.HomeSteps.{IsUnborn}
use Rattle.run_laws.proofs.tokens.Signals.{Token, answers, is_home, is_rows, is_tc, performs, refuses, some_if}
use Rattle.run_laws.proofs.tokens.Signals.{token_of}
use Rattle.run_laws.proofs.tokens.Still.{AreStill}

-- what neither the rows nor the coordinator take
pub record IsBystander (tx : TxId) (s : Host) (t : Step Host) : Type 0 where
  pub live : of_host tx t.state ≡ of_host tx s
  pub unborn : IsUnborn tx t.state → IsUnborn tx s
  pub sends : AreStill tx t.effects.sends

pub bystander : (tx : TxId) (s : Host) (t : Step Host) (f : Effects) → tc_of t.state ≡ tc_of s → t.effects ≡ f
    → AreStill tx f.sends → IsBystander tx s t
bystander tx s t f same is still = record {
  live = ap (λ (c : TcState). of_live tx c.live) same;
  unborn = λ early. subst (λ (c : TcState). c.next_seq ≤ tx.seq) same early;
  sends = subst (λ (f : Effects). AreStill tx f.sends) (sym is) still;
}

-- at another block no part of an operation is taken
pub token_other : (tx : TxId) (key : List ℕ) (to : Place) (body : Body) → is_rows to.block ≡ false
    → is_tc to.block ≡ false → token_of tx key to body ≡ None
token_other tx key to (Chain (LqhKeyReq v work chain at)) off apart =
    ap (λ b. if b && (same_tx v tx && same_key (work_key work) key) then Some (performs work at) else None) off
token_other tx key to (Chain (LqhKeyConf v own answer)) off apart =
    ap (λ b. if (b && nat_eq to.node v.tc) && (same_tx v tx && same_key own key) then Some
    (answers answer) else None) apart
token_other tx key to (Chain (LqhKeyRef v own why)) off apart =
    ap (λ b. if (b && nat_eq to.node v.tc) && (same_tx v tx && same_key own key) then Some refuses else None) apart
token_other tx key to _ off apart = refl

-- the place is that of the transaction's coordinator
pub record IsForHome (tx : TxId) (to : Place) : Type 0 where
  pub block : to.block ≡ block.Tc
  pub node : to.node ≡ tx.tc

tc_block : (b : BlockId) → is_tc b ≡ true → b ≡ block.Tc
tc_block block.Tc is = refl
tc_block _ is = absurd cc

rows_block : (b : BlockId) → is_rows b ≡ true → b ≡ block.Lqh
rows_block block.Lqh is = refl
rows_block _ is = absurd cc

home_of : (tx v : TxId) (to : Place) (b : Bool) → (is_home v to && (same_tx v tx && b)) ≡ true → IsForHome tx to
home_of tx v to b is =
    let parts = and_parts (is_home v to) (same_tx v tx && b) is in
    let home = and_parts (is_tc to.block) (nat_eq to.node v.tc) parts.0 in
    record {
      block = tc_block to.block home.0;
      node = eqb-true to.node v.tc home.1
          ∙ ap (λ (t : TxId). t.tc) (same_tx-is v tx (and_parts (same_tx v tx) b parts.1).0);
    }

-- who takes a part of an operation: the rows of a node, or the coordinator of the transaction
pub record IsRequest (to : Place) (body : Body) : Type 0 where
  pub request : Request
  pub is : body ≡ Chain (LqhKeyReq request.tx request.work request.chain request.at)
  pub rows : to.block ≡ block.Lqh

pub token_place : (tx : TxId) (key : List ℕ) (to : Place) (body : Body) (token : Token)
    → token_of tx key to body ≡ Some token → IsRequest to body ⊎ IsForHome tx to
token_place tx key to (Chain (LqhKeyReq v work chain at)) token is =
    let parts =
    some_if (is_rows to.block && (same_tx v tx && same_key (work_key work) key)) (performs work at) token is in
    inl (record {
      request = record { tx = v; work = work; chain = chain; at = at };
      is = refl;
      rows = rows_block to.block
          (and_parts (is_rows to.block) (same_tx v tx && same_key (work_key work) key) parts.0).0;
    })
token_place tx key to (Chain (LqhKeyConf v own answer)) token is =
    inr (home_of tx v to (same_key own key)
    (some_if (is_home v to && (same_tx v tx && same_key own key)) (answers answer) token is).0)
token_place tx key to (Chain (LqhKeyRef v own why)) token is =
    inr (home_of tx v to (same_key own key)
    (some_if (is_home v to && (same_tx v tx && same_key own key)) refuses token is).0)
token_place tx key to _ token is = absurd cc
