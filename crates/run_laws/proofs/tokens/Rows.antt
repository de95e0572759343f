-- What a node's rows send of a transaction: no more than came and no longer waits.
use Rattle.std.proofs.Common.{◌≡◌, ℕ, ◌+◌, ◌≤◌, List, [], ◌∷◌, Bool, true, false, refl, ap, sym, arith}
use Rattle.std.proofs.lemmas.Bool.{and_parts, false≢true}
use Rattle.sig_core.specs.declared.member.TxId.{TxId}
use Rattle.sig_core.specs.declared.outcome.AbortCause.{AbortCause}
use Rattle.sig_core.specs.declared.outs.Outgoing.{Outgoing}
use Rattle.sig_core.specs.declared.signal.Body.{Body}
use Rattle.sig_core.specs.declared.signal.Body.TheVariants.{Chain}
use Rattle.sig_core.specs.declared.signal.chain.ChainSignal.TheVariants.{LqhKeyReq, LqhKeyConf, LqhKeyRef}
use Rattle.sig_core.specs.Same.{same_key, same_tx}
use Rattle.sig_core.specs.Work.{work_key}
use Rattle.sig_core.proofs.TxLemmas.{same_tx-is}
use Rattle.lqh_block.specs.declared.request.Request.{Request}
use Rattle.lqh_block.specs.Lqh.{lqh_table}
use Rattle.lqh_block.specs.State.{LqhState}
use Rattle.lqh_block.specs.Storage as storage
use Rattle.lqh_block.specs.Storage.{StorageState}
use Rattle.lqh_block.specs.Work.{is_for}
use Rattle.lqh_block.proofs.LqhForms.{perform_forms}
use Rattle.run_theory.proofs.Focus.{none_placed}
use Rattle.host_laws.proofs.rows.RequestCounts.{CountStep, asked_by, count_step, ends, is_work, performs, refuses}
use Rattle.host_laws.proofs.rows.RequestCounts.{rests}
use Rattle.run_theory.specs.Counts.{one_if, tally}
use Rattle.run_laws.specs.Tokens.{is_token}
use Rattle.run_laws.proofs.tokens.Waiting.{WaitersAsk}

-- how many of these signals ask for a part of an operation of the transaction, or answer one
abbrev pub tokens_out : TxId → List Outgoing → ℕ
tokens_out tx sends = tally (λ (o : Outgoing). is_token tx o.body) sends

module _ (tx : TxId) where
  abbrev pub is_own : Request → Bool
  is_own q = same_tx q.tx tx

  -- a request that is performed is answered once, or passed on once
  perform_tokens : (s : StorageState) (r : Request)
      → tokens_out tx (storage.perform s r).effects.sends ≤ one_if (is_own r)
  perform_tokens s r =
      perform_forms (λ step. tokens_out tx step.effects.sends ≤ one_if (is_own r)) s r (record {
        log_full = λ used reserved need. omega arith;
        table_full = λ rows. omega arith;
        answers = λ a. omega arith;
        passes = λ image next is. omega arith;
        ends = λ image is. omega arith;
      })

  refused_tokens : (other : TxId) (key : List ℕ) (why : AbortCause) (r : Request) → is_for other key r ≡ true
      → tokens_out tx (storage.refusal other key why ∷ []) ≤ one_if (is_own r)
  refused_tokens other key why r passes =
      let one : r.tx ≡ other = same_tx-is r.tx other
      (and_parts (same_tx r.tx other) (same_key (work_key r.work) key) passes).0 in
      omega (arith, ap (λ t. one_if (same_tx t tx)) one)

  only_work : (body : Body) → is_work body ≡ false → is_token tx body ≡ false
  only_work (Chain (LqhKeyReq other what chain at)) e = absurd (false≢true (sym e))
  only_work (Chain (LqhKeyConf other key answer)) e = absurd (false≢true (sym e))
  only_work (Chain (LqhKeyRef other key why)) e = absurd (false≢true (sym e))
  only_work _ e = refl

  few_asked : (body : Body) → asked_by is_own body ≤ one_if (is_token tx body)
  few_asked (Chain (LqhKeyReq other what chain at)) = omega arith
  few_asked _ = omega arith

  -- what came is one at most
  pub lqh_tokens : (s : LqhState) (body : Body) → WaitersAsk s
      → tokens_out tx (lqh_table s body).effects.sends + tally is_own (lqh_table s body).state.waiting
      ≤ tally is_own s.waiting + one_if (is_token tx body)
  lqh_tokens s body all = by (count_step is_own (λ (o : Outgoing). is_token tx o.body)
      (λ o e. only_work o.body e) s body)
    where
      by : CountStep is_own (λ (o : Outgoing). is_token tx o.body) s (asked_by is_own body) (lqh_table s body)
          → tokens_out tx (lqh_table s body).effects.sends + tally is_own (lqh_table s body).state.waiting
          ≤ tally is_own s.waiting + one_if (is_token tx body)
      by (performs st r waits sends) = omega (arith, waits, sends, perform_tokens st r, few_asked body)
      by (refuses other key why r passes waits sends) =
          omega (arith, waits, sends, refused_tokens other key why r passes, few_asked body)
      -- who waits too long has a request
      by (ends other key queued none waits sends) =
          absurd (omega (arith, all.asks key other queued, none_placed (is_for other key) s.waiting none))
      by (rests waits sends) = omega (arith, waits, sends, few_asked body)
