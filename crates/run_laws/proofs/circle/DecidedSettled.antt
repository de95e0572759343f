-- A decision finds its transaction settled, unless that is given up.
use Rattle.std.proofs.Common.{◌≡◌, List, [], ◌∷◌, ◌++◌, refl, sym, ap, subst, inl, inr}
use Rattle.run_theory.proofs.Pasts.{each_in}
use Rattle.run_theory.proofs.Runs.{log_of-own}
use Rattle.run_theory.specs.Lists.{IsIn}
use Rattle.world_core.specs.Steps.{Addressed}
use Rattle.sig_core.specs.declared.member.TxId.{TxId}
use Rattle.sig_core.specs.declared.op.Answer.{Answer}
use Rattle.sig_core.specs.declared.op.Op.{Op}
use Rattle.sig_core.specs.declared.signal.Body.{Body}
use Rattle.sig_core.specs.declared.signal.Body.TheVariants.{Client, Chain, Epoch}
use Rattle.sig_core.specs.declared.signal.chain.ChainSignal.TheVariants.{Commit}
use Rattle.sig_core.specs.declared.signal.client.ClientSignal.TheVariants.{TcBeginConf, TcCommitReq, TcCommitConf}
use Rattle.sig_core.specs.declared.signal.epoch.EpochSignal.TheVariants.{DiVerifyReq, DiVerifyConf}
use Rattle.node_core.specs.Requests.{is_request}
use Rattle.world_core.specs.Machine.{machine}
use Rattle.run_laws.proofs.causes.Facts.{DecidesAt, DecidesRightly}
use Rattle.host_laws.specs.Kinds.{kind_of}
use Rattle.host_laws.specs.Kinds as kind
use Rattle.run_laws.proofs.causes.Decided.{run_is_causal}
use Rattle.run_laws.proofs.transit.Runs.{runs_have_transit}
use Rattle.run_laws.proofs.circle.VerifiedSettled.{verified_settled}
use Rattle.run_laws.proofs.causes.WhoAsks.{who_asks_waits}
use Rattle.run_laws.specs.Circle.{IsOfWaiting, IsSettledFor}
use Rattle.run_laws.specs.Owed.{DecidedAreSettled, IsDecidedWith}
use Rattle.run_laws.specs.Transit.{logs_of, taken_by}

-- what asks for an epoch for a transaction has operations
record AsksFor (tx : TxId) (body : Body) : Type 0 where
  ops : List (Op × Answer)
  is : body ≡ Epoch (DiVerifyReq tx ops)

asks_for : (tx : TxId) (body : Body) → kind_of body ≡ kind.verified tx → AsksFor tx body
asks_for tx (Epoch (DiVerifyReq other ops)) is = let same : other ≡ tx = cc in record {
  ops = ops;
  is = ap (λ t. Epoch (DiVerifyReq t ops)) same;
}
asks_for tx (Epoch (DiVerifyConf other epoch)) is = absurd cc
asks_for tx (Client (TcBeginConf name other)) is = absurd cc
asks_for tx (Client (TcCommitReq other)) is = absurd cc
asks_for tx (Client (TcCommitConf other epoch)) is = absurd cc
asks_for tx (Chain (Commit other key epoch chain at)) is = absurd cc
asks_for tx _ is = absurd cc

taken_in : (x : Addressed) (front back : List Addressed) → IsIn x (front ++ x ∷ back)
taken_in x [] back = inl refl
taken_in x (y ∷ front) back = inr (taken_in x front back)

pub decided_settled : DecidedAreSettled
decided_settled start es e tx come marked kept = from (asks_for tx e.step.taken.body at.took)
  where
    at : DecidesAt start (logs_of start (e ∷ es)) e tx
    at =
        each_in (DecidesRightly start (logs_of start (e ∷ es))) e (logs_of start (e ∷ es) e.host)
        ((run_is_causal start (e ∷ es) come.now).decisions e.host)
        (subst (IsIn e) (sym (log_of-own (machine start) e es e.host refl)) (inl refl)) tx marked

    from : AsksFor tx e.step.taken.body → IsDecidedWith start (logs_of start es) e tx
    from asks =
        let all = runs_have_transit start (e ∷ es) come.now in
        let before = all.1.0 in
        let in_transit = all.1.1.0 in
        let taken = all.1.1.1.takes.signal (ap is_request asks.is) in
        let own : IsOfWaiting start (logs_of start es) e.step.taken.body =
        each_in (λ (x : Addressed). IsOfWaiting start (logs_of start es) x.signal.body) (taken_by e) before
        (who_asks_waits start es before come.before in_transit)
        (subst (IsIn (taken_by e)) (sym taken.is) (taken_in (taken_by e) taken.front taken.back)) in
        let has = subst (IsOfWaiting start (logs_of start es)) asks.is own kept in
        record {
          ops = asks.ops;
          request = asks.is;
          home_is = at.to;
          settled = λ key. subst (λ ops. IsSettledFor start (logs_of start es) tx ops key) has.ops_are
              ((verified_settled start es before tx has.transaction come.before in_transit kept has.live
              has.phase).settled key);
        }
