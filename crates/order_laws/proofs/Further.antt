-- The parts of a transaction's operation on a key that have come past a place of the key's chain, or wait there.
use Rattle.std.proofs.Common.{◌≡◌, ◌≤◌, ◌<◌, ◌+◌, ℕ, Bool, true, false, List, [], ◌∷◌, refl, sym, ap, arith}
use Rattle.std.proofs.lemmas.Bool.{and_parts, false≢true}
use Rattle.std.proofs.lemmas.Bool.Decides.{nat_tests}
use Rattle.std.specs.Prelude.{◌&&◌, nat_le, nat_lt}
use Rattle.run_theory.specs.Counts.{one_if, tally}
use Rattle.sig_core.proofs.TxLemmas.{same_tx-is}
use Rattle.sig_core.specs.declared.member.TxId.{TxId}
use Rattle.sig_core.specs.declared.outcome.AbortCause.{AbortCause}
use Rattle.sig_core.specs.declared.outs.Outgoing.{Outgoing}
use Rattle.sig_core.specs.declared.signal.Body.{Body}
use Rattle.sig_core.specs.declared.signal.Body.TheVariants.{Chain}
use Rattle.sig_core.specs.declared.signal.chain.ChainSignal.TheVariants.{LqhKeyConf, LqhKeyRef, LqhKeyReq}
use Rattle.sig_core.specs.Same.{same_key, same_tx}
use Rattle.sig_core.specs.Work.{work_key}
use Rattle.row_records.proofs.KeyLemmas as keys
use Rattle.lqh_block.proofs.LqhForms.{perform_forms}
use Rattle.lqh_block.specs.declared.request.Request.{Request}
use Rattle.lqh_block.specs.Lqh.{lqh_table}
use Rattle.lqh_block.specs.State.{LqhState}
use Rattle.lqh_block.specs.Storage as storage
use Rattle.lqh_block.specs.Storage.{StorageState}
use Rattle.lqh_block.specs.Work.{is_for}
use Rattle.host_laws.proofs.hosts.Sums.{first_few}
use Rattle.host_laws.proofs.rows.RequestCounts.{CountStep, asked_by, count_step, ends, is_work, performs, refuses}
use Rattle.host_laws.proofs.rows.RequestCounts.{rests}
use Rattle.order_laws.specs.Unanswered.{is_part_on}

-- a request for a place behind this one, or an answer
abbrev pub is_further : TxId → List ℕ → ℕ → Body → Bool
is_further tx key at (Chain (LqhKeyReq other work chain place)) =
    (same_tx other tx && same_key (work_key work) key) && nat_lt at place
is_further tx key at (Chain (LqhKeyConf other own answer)) = same_tx other tx && same_key own key
is_further tx key at (Chain (LqhKeyRef other own cause)) = same_tx other tx && same_key own key
is_further tx key at body = false

-- a request for this place or one behind it
abbrev pub is_from : TxId → List ℕ → ℕ → Request → Bool
is_from tx key at q = is_for tx key q && nat_le at q.at

module _ (tx : TxId) (key : List ℕ) (at : ℕ) where
  abbrev pub further_out : List Outgoing → ℕ
  further_out sends = tally (λ (o : Outgoing). is_further tx key at o.body) sends

  pub further_part : (body : Body) → is_further tx key at body ≡ true → is_part_on tx key body ≡ true
  further_part (Chain (LqhKeyReq other work chain place)) is =
      (and_parts (same_tx other tx && same_key (work_key work) key) (nat_lt at place) is).0
  further_part (Chain (LqhKeyConf other own answer)) is = is
  further_part (Chain (LqhKeyRef other own cause)) is = is
  further_part _ is = absurd (false≢true is)

  -- a request that is performed is answered, or passed on to a place further on
  perform_further : (s : StorageState) (r : Request)
      → one_if (is_from tx key at r) ≤ further_out (storage.perform s r).effects.sends
  perform_further s r =
      perform_forms (λ step. one_if (is_from tx key at r) ≤ further_out step.effects.sends) s r (record {
        log_full = λ used reserved need. omega (arith, first_few (is_for tx key r) (nat_le at r.at));
        table_full = λ rows. omega (arith, first_few (is_for tx key r) (nat_le at r.at));
        answers = λ a. omega (arith, first_few (is_for tx key r) (nat_le at r.at));
        passes = λ image next is. omega (arith, passed (is_for tx key r) (nat_le at r.at) refl);
        ends = λ image is. omega (arith, first_few (is_for tx key r) (nat_le at r.at));
      })
    where
      next_behind : nat_le at r.at ≡ true → nat_lt at (r.at + 1) ≡ true
      next_behind is = let low : at ≤ r.at = grind (arith, nat_tests, is) in
          let more : at < r.at + 1 = omega (arith, low) in grind (arith, nat_tests, more)

      passed : (a b : Bool) → nat_le at r.at ≡ b → one_if (a && b) ≤ one_if (a && nat_lt at (r.at + 1))
      passed true true is = omega (arith, ap one_if (next_behind is))
      passed true false is = omega arith
      passed false b is = omega arith

  refused_further : (other : TxId) (own : List ℕ) (why : AbortCause) (r : Request) → is_for other own r ≡ true
      → one_if (is_from tx key at r) ≤ further_out (storage.refusal other own why ∷ [])
  refused_further other own why r passes =
      let parts = and_parts (same_tx r.tx other) (same_key (work_key r.work) own) passes in
      let one : r.tx ≡ other = same_tx-is r.tx other parts.0 in
      let its : work_key r.work ≡ own = keys.same (work_key r.work) own parts.1 in
      omega (
        arith,
        first_few (is_for tx key r) (nat_le at r.at),
        ap (λ t. one_if (same_tx t tx && same_key (work_key r.work) key)) one,
        ap (λ k. one_if (same_tx other tx && same_key k key)) its,
      )

  only_work : (body : Body) → is_work body ≡ false → is_further tx key at body ≡ false
  only_work (Chain (LqhKeyReq other what chain place)) e = absurd (false≢true (sym e))
  only_work (Chain (LqhKeyConf other own answer)) e = absurd (false≢true (sym e))
  only_work (Chain (LqhKeyRef other own cause)) e = absurd (false≢true (sym e))
  only_work _ e = refl

  -- those that wait or come here wait still, or are further on
  pub lqh_further : (s : LqhState) (body : Body)
      → tally (is_from tx key at) s.waiting + asked_by (is_from tx key at) body
      ≤ tally (is_from tx key at) (lqh_table s body).state.waiting + further_out (lqh_table s body).effects.sends
  lqh_further s body =
      by (count_step (is_from tx key at) (λ (o : Outgoing). is_further tx key at o.body) (λ o e. only_work o.body e) s
      body)
    where
      by : CountStep (is_from tx key at) (λ (o : Outgoing). is_further tx key at o.body) s
          (asked_by (is_from tx key at) body) (lqh_table s body)
          → tally (is_from tx key at) s.waiting + asked_by (is_from tx key at) body
          ≤ tally (is_from tx key at) (lqh_table s body).state.waiting + further_out (lqh_table s body).effects.sends
      by (performs st r waits sends) = omega (arith, waits, sends, perform_further st r)
      by (refuses other own why r passes waits sends) =
          omega (arith, waits, sends, refused_further other own why r passes)
      by (ends other own queued none waits sends) = omega (arith, waits)
      by (rests waits sends) = omega (arith, waits)
