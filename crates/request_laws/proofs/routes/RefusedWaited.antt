-- Of each transaction that rows refuse a request waited, or has just come.
use Rattle.std.proofs.Common.{◌≡◌, ◌+◌, ◌≤◌, ℕ, zero, suc, Bool, true, false, List, refl, ap, subst, arith, ◌∙◌}
use Rattle.std.specs.Prelude.{◌&&◌}
use Rattle.run_theory.specs.Lists.{Each, IsIn}
use Rattle.run_theory.specs.Counts.{one_if}
use Rattle.run_theory.proofs.Pasts.{each_in}
use Rattle.run_theory.proofs.Tally.{counted, tally_in}
use Rattle.sig_core.specs.declared.member.TxId.{TxId}
use Rattle.sig_core.specs.declared.outcome.AbortCause.{AbortCause}
use Rattle.sig_core.specs.declared.outs.Outgoing.{Outgoing}
use Rattle.sig_core.specs.declared.signal.Body.{Body}
use Rattle.sig_core.specs.declared.signal.Body.TheVariants.{Chain}
use Rattle.sig_core.specs.declared.signal.chain.ChainSignal.TheVariants.{LqhKeyReq}
use Rattle.sig_core.specs.Same.{same_key, same_tx}
use Rattle.sig_core.specs.Work.{work_key}
use Rattle.sig_core.proofs.Keys.{same_key-self, same_tx-self}
use Rattle.sig_core.proofs.TxLemmas.{same_tx-is}
use Rattle.lqh_block.specs.declared.request.Request.{Request}
use Rattle.lqh_block.specs.Lqh.{lqh_table}
use Rattle.lqh_block.specs.State.{LqhState}
use Rattle.lqh_block.specs.Storage.{refusal}
use Rattle.lqh_block.specs.Work.{is_for}
use Rattle.host_laws.proofs.rows.Operations.{left_of}
use Rattle.host_laws.proofs.rows.Waits.{came_to, few_hops, hops, is_hop, waiting}
use Rattle.run_laws.proofs.tokens.Waiting.{WaitersAsk}

module _ (P : TxId → Type 0) (s : LqhState) (tx : TxId) (key : List ℕ) where
  own_asked : (q : Request) → P q.tx → is_for tx key q ≡ true → P tx
  own_asked q asked own =
      subst P (same_tx-is q.tx tx (left_of (same_tx q.tx tx) (same_key (work_key q.work) key) own)) asked

  -- the request that comes is its
  came_asked : (body : Body) → ((r : Request) → body ≡ Chain (LqhKeyReq r.tx r.work r.chain r.at) → P r.tx)
      → 1 ≤ came_to tx key body → P tx
  came_asked (Chain (LqhKeyReq one work chain at)) own came =
      let r : Request = record { tx = one; work = work; chain = chain; at = at } in
      by r (is_for tx key r) refl (own r refl) came
    where
      by : (r : Request) (b : Bool) → is_for tx key r ≡ b → P r.tx → 1 ≤ one_if b → P tx
      by r true is asked came = own_asked r asked is
      by r false is asked came = absurd (omega (arith, came))
  came_asked _ own came = absurd (omega (arith, came))

  -- whoever is refused
  pub refused_asked : (body : Body) (why : AbortCause) → WaitersAsk s → Each (λ (q : Request). P q.tx) s.waiting
      → ((r : Request) → body ≡ Chain (LqhKeyReq r.tx r.work r.chain r.at) → P r.tx)
      → IsIn (refusal tx key why) (lqh_table s body).effects.sends → P tx
  refused_asked body why ask all own inside = by (waiting tx key s) refl
    where
      is_own : (same_tx tx tx && same_key key key) ≡ true
      is_own = ap (λ b. b && same_key key key) (same_tx-self tx) ∙ same_key-self key

      told : 1 ≤ hops tx key (lqh_table s body).effects.sends
      told =
          tally_in (λ (o : Outgoing). is_hop tx key o.to o.body) (refusal tx key why) (lqh_table s body).effects.sends
          inside is_own

      few : waiting tx key (lqh_table s body).state + hops tx key (lqh_table s body).effects.sends
          ≤ waiting tx key s + came_to tx key body
      few = few_hops tx key s body (ask.asks key tx)

      by : (n : ℕ) → waiting tx key s ≡ n → P tx
      by zero none = came_asked body own (omega (arith, told, few, none))
      by (suc n) some =
          let found = counted (is_for tx key) s.waiting (omega (arith, some)) in
          own_asked found.item (each_in (λ (q : Request). P q.tx) found.item s.waiting all found.inside) found.passes
