-- Along a log of a coordinator's host that has heard rightly: for whom the epochs beside it hold a request, and whom
-- they decided, an epoch was asked for with the operations of the request that the host took; and an epoch is told of
-- who is decided.
use Rattle.std.proofs.Common.{◌≡◌, ◌∙◌, ℕ, Bool, true, false, List, [], ◌∷◌, refl, sym, ap, subst, inl, inr}
use Rattle.std.specs.Prelude.{if◌then◌else◌, Option, None, Some}
use Rattle.run_theory.specs.Lists.{Each, IsIn}
use Rattle.run_theory.proofs.Pasts.{each_map}
use Rattle.sig_core.specs.declared.mark.Mark.TheVariants.{Decided}
use Rattle.sig_core.specs.declared.member.Member.{Member}
use Rattle.sig_core.specs.declared.member.TxId.{TxId}
use Rattle.sig_core.specs.declared.op.Answer.{Answer}
use Rattle.sig_core.specs.declared.op.Op.{Op}
use Rattle.sig_core.specs.declared.signal.Body.{Body}
use Rattle.sig_core.specs.declared.signal.Body.TheVariants.{Epoch}
use Rattle.sig_core.specs.declared.signal.epoch.EpochSignal.TheVariants.{DiVerifyConf, DiVerifyReq}
use Rattle.sig_core.specs.Same.{same_tx}
use Rattle.sig_core.proofs.Keys.{same_tx-self}
use Rattle.sig_core.proofs.TxLemmas.{same_tx-is}
use Rattle.world_core.specs.Entries.{else_of, ops_of, verified_by}
use Rattle.world_core.specs.Start.{NobodyStarts, Start, made}
use Rattle.world_core.specs.Steps.{HostStep}
use Rattle.moment_laws.specs.Places.{tc_of}
use Rattle.outcome_laws.specs.Decided.{IsMarked}
use Rattle.request_laws.proofs.phases.AlongLogs.{IsNext, IsRun, begins, next}
use Rattle.request_laws.proofs.phases.AsksOnce.{one_request, request}
use Rattle.request_laws.proofs.phases.ToldByHosts.{HasTold, Heard, IsHeard}

-- with which operations a signal asks for an epoch for the transaction
data Verifies (tx : TxId) (body : Body) : Type 0 where
  verifies : (ops : List (Op × Answer)) → body ≡ request tx ops → verified_by tx body ≡ Some ops → Verifies tx body
  leaves : verified_by tx body ≡ None → Verifies tx body

verified_is : (tx : TxId) (body : Body) → Verifies tx body
verified_is tx (Epoch (DiVerifyReq asked ops)) = by (same_tx asked tx) refl
  where
    by : (b : Bool) → same_tx asked tx ≡ b → Verifies tx (Epoch (DiVerifyReq asked ops))
    by true is =
        verifies ops (ap (λ (u : TxId). request u ops) (same_tx-is asked tx is))
        (ap (λ b. if b then Some ops else None) is)
    by false is = leaves (ap (λ b. if b then Some ops else None) is)
verified_is tx body = leaves refl

module _ (start : Start) (member : Member) (there : IsIn member (made start)) where
  -- an epoch was asked for with the operations of the request that was taken
  abbrev pub IsAskedFor : List HostStep → TxId → Type 0
  IsAskedFor log tx = HasTold start (tc_of start member) (request tx (ops_of tx log)) log

  module _ (nobody : NobodyStarts start) (log : List HostStep) (e : HostStep) (heard : IsHeard start member e log) where
    -- these stay
    pub ops_stay : (tx : TxId) → IsAskedFor log tx → ops_of tx (e ∷ log) ≡ ops_of tx log
    ops_stay tx asked = by (verified_is tx e.step.taken.body)
      where
        by : Verifies tx e.step.taken.body → ops_of tx (e ∷ log) ≡ ops_of tx log
        by (leaves is) = ap (λ (u : Option (List (Op × Answer))). else_of u (ops_of tx log)) is
        by (verifies ops is same) =
            ap (λ (u : Option (List (Op × Answer))). else_of u (ops_of tx log)) same
            ∙ one_request start member there tx nobody log ops (ops_of tx log) (heard.asks tx ops is) asked

    asked_more : (tx : TxId) → IsAskedFor log tx → IsAskedFor (e ∷ log) tx
    asked_more tx asked =
        subst (λ ops. HasTold start (tc_of start member) (request tx ops) (e ∷ log)) (sym (ops_stay tx asked))
        (inr asked)

    asks_now : (tx : TxId) (ops : List (Op × Answer)) → e.step.taken.body ≡ request tx ops → IsAskedFor (e ∷ log) tx
    asks_now tx ops is =
        subst (λ more. HasTold start (tc_of start member) (request tx more) (e ∷ log)) (sym taken)
        (inr (heard.asks tx ops is))
      where
        taken : ops_of tx (e ∷ log) ≡ ops
        taken =
            ap (λ (body : Body). else_of (verified_by tx body) (ops_of tx log)) is
            ∙ ap (λ b. else_of (if b then Some ops else None) (ops_of tx log)) (same_tx-self tx)

  -- all of it, along a log
  pub record IsKept (log : List HostStep) : Type 0 where
    pub at : IsRun start member there log
    pub held : Each (IsAskedFor log) at.own.dih.held
    pub decided : (tx : TxId) (epoch : ℕ) → IsMarked (Decided tx epoch) log → IsAskedFor log tx
    pub given : (tx : TxId) (epoch : ℕ)
        → HasTold start (tc_of start member) (Epoch (DiVerifyConf tx epoch)) log → IsMarked (Decided tx epoch) log

  module _ (nobody : NobodyStarts start) (log : List HostStep) (e : HostStep) (heard : IsHeard start member e log)
      (kept : IsKept log) where
    held_more : Each (IsAskedFor (e ∷ log)) kept.at.own.dih.held
    held_more =
        each_map (IsAskedFor log) (IsAskedFor (e ∷ log)) kept.at.own.dih.held (asked_more nobody log e heard) kept.held

    kept_next : IsKept (e ∷ log)
    kept_next =
        by (next start member there log e kept.at (IsAskedFor (e ∷ log)) held_more (asks_now nobody log e heard) nobody)
      where
        by : IsNext start member there log e kept.at (IsAskedFor (e ∷ log)) held_more (asks_now nobody log e heard)
            → IsKept (e ∷ log)
        by behind = record { at = behind.run; held = behind.said.held_are; decided = decided; given = given }
          where
            decided : (tx : TxId) (epoch : ℕ) → IsMarked (Decided tx epoch) (e ∷ log) → IsAskedFor (e ∷ log) tx
            decided tx epoch (inl now) =
                behind.said.decided tx epoch (subst (IsIn (Decided tx epoch)) heard.marks now)
            decided tx epoch (inr old) = asked_more nobody log e heard tx (kept.decided tx epoch old)

            given : (tx : TxId) (epoch : ℕ)
                → HasTold start (tc_of start member) (Epoch (DiVerifyConf tx epoch)) (e ∷ log)
                → IsMarked (Decided tx epoch) (e ∷ log)
            given tx epoch (inl told) =
                inl (subst (IsIn (Decided tx epoch)) (sym heard.marks)
                (behind.said.given tx epoch (record { sent = told.one; there = told.there; body = told.says })))
            given tx epoch (inr told) = inr (kept.given tx epoch told)

  pub is_kept : NobodyStarts start → (log : List HostStep) → Heard start member log → IsKept log
  is_kept nobody [] heard = record {
    at = (begins start member there nobody).run;
    held = subst (Each (IsAskedFor [])) (sym (begins start member there nobody).held) tt;
    decided = λ tx epoch none. absurd none;
    given = λ tx epoch none. absurd none;
  }
  is_kept nobody (e ∷ log) heard = kept_next nobody log e heard.0 (is_kept nobody log heard.1)
