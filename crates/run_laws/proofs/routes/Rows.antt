-- The rows of a node send on only what is routed, if what they take and what waits is.
use Rattle.std.proofs.Common.{ℕ, ◌+◌, List, refl, sym, ap, subst, arith}
use Rattle.std.specs.Prelude.{◌-◌}
use Rattle.std.proofs.lemmas.Option.{slice_get_within}
use Rattle.run_theory.specs.Lists.{Each}
use Rattle.sig_core.specs.declared.member.Member.{Member}
use Rattle.sig_core.specs.declared.member.TxId.{TxId}
use Rattle.sig_core.specs.declared.outs.Outgoing.{Outgoing}
use Rattle.sig_core.specs.declared.signal.Body.{Body}
use Rattle.sig_core.specs.declared.signal.Body.TheVariants.{Chain}
use Rattle.sig_core.specs.declared.signal.chain.ChainSignal.TheVariants.{Commit, Complete}
use Rattle.sig_core.specs.Chain.{node_at, node_of}
use Rattle.sig_core.specs.Place.{rows_of}
use Rattle.sig_core.specs.Step.{Step, to_place}
use Rattle.lqh_block.specs.declared.request.Request.{Request}
use Rattle.lqh_block.specs.Lqh.{lqh_table}
use Rattle.lqh_block.specs.State.{LqhState}
use Rattle.world_core.specs.Start.{Start}
use Rattle.lqh_block.proofs.EachLqh.{RequestSends, lqh_sends_each}
use Rattle.run_theory.proofs.EachSent.{each_get}
use Rattle.lqh_block.proofs.EachWaiting.{waiting_each}
use Rattle.run_laws.specs.Routes.{IsCommitRouted, IsCompletionRouted, IsRequestRouted, IsRouted}
use Rattle.run_laws.proofs.routes.Sends.{AreSent, IsSent}

module _ (start : Start) (node : ℕ) where
  abbrev AreWaiting : List Request → Type 0
  AreWaiting waiting = Each (λ (q : Request). IsRequestRouted start node q) waiting

  -- a step of the rows
  pub record RowsRoute (step : Step LqhState) : Type 0 where
    pub waiting : AreWaiting step.state.waiting
    pub sends : AreSent start step.effects.sends

  -- an image goes to the next place of its chain
  request_sent : (r : Request) → IsRequestRouted start node r → RequestSends (λ (o : Outgoing). IsSent start o) r
  request_sent r is = record {
    log_full = λ used reserved need. record { routed = tt; block = refl };
    table_full = λ rows. record { routed = tt; block = refl };
    answers = λ a. record { routed = tt; block = refl };
    passes = λ image next there. record {
      routed = record {
        chain = is.chain;
        sent = record { inside = slice_get_within r.chain (r.at + 1) next there; node_is = sym (ap node_of there) };
        work = omega arith;
      };
      block = refl;
    };
  }

  -- and a commit or a completion to the place in front
  sent_on : (s : LqhState) (body : Body) → IsRouted start node body → AreWaiting s.waiting
      → AreSent start (lqh_table s body).effects.sends
  sent_on s body is all =
      lqh_sends_each (λ (o : Outgoing). IsSent start o) s body (record {
        asked = λ r same. request_sent r (subst (IsRouted start node) same is);
        waited = λ at r there. request_sent r
            (each_get (λ (q : Request). IsRequestRouted start node q) s.waiting at r all there);
        grants_more = record { routed = tt; block = tt };
        expires_more = record { routed = tt; block = tt };
        commits_on = λ tx key epoch chain at same behind. commit_sent tx key epoch chain
            at (subst (IsRouted start node) same is);
        committed = λ tx key epoch chain at sent first. record { routed = tt; block = refl };
        completes_on = λ tx key chain at same behind. complete_sent tx key chain
            at (subst (IsRouted start node) same is);
        completed = λ tx key chain at sent first. record { routed = tt; block = refl };
        aborted = λ tx key sent. record { routed = tt; block = refl };
        gives_up = λ tx key given. record { routed = tt; block = refl };
        times_out = λ tx key. record { routed = tt; block = refl };
        waits = λ tx key ahead sent there. record { routed = tt; block = tt };
        dumps = λ at rows next sent. record { routed = tt; block = tt };
      })
    where
      commit_sent : (tx : TxId) (key : List ℕ) (epoch : ℕ) (chain : List Member) (at : ℕ)
          → IsCommitRouted start node key chain at
          → IsSent start (to_place (rows_of (node_at chain (at - 1))) (Chain (Commit tx key epoch chain (at - 1))))
      commit_sent tx key epoch chain at is =
          record {
            routed = record {
              along = is.along;
              sent =
                  record { inside = omega (arith, is.sent.inside); node_is = refl };
            };
            block = refl;
          }

      complete_sent : (tx : TxId) (key : List ℕ) (chain : List Member) (at : ℕ)
          → IsCompletionRouted start node key chain at
          → IsSent start (to_place (rows_of (node_at chain (at - 1))) (Chain (Complete tx key chain (at - 1))))
      complete_sent tx key chain at is = record {
        routed =
            record { along = is.along; sent = record { inside = omega (arith, is.sent.inside); node_is = refl } };
        block =
            refl;
      }

  -- whatever they take
  pub lqh_routed : (s : LqhState) (body : Body) → IsRouted start node body → AreWaiting s.waiting
      → RowsRoute (lqh_table s body)
  lqh_routed s body is all = record {
    waiting =
        waiting_each (λ (q : Request). IsRequestRouted start node q) s body
        (λ r same. subst (IsRouted start node) same is) all;
    sends = sent_on s body is all;
  }
