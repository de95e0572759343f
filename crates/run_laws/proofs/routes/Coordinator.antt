-- A coordinator whose transactions are routed sends only what is routed, and they stay so.
use Rattle.std.proofs.Common.{◌≡◌, ◌<◌, ℕ, List, [], ◌∷◌, length, refl, sym, subst}
use Rattle.std.specs.Prelude.{Option, None, Some}
use Rattle.run_theory.specs.Lists.{Each}
use Rattle.run_theory.proofs.Pasts.{each_append}
use Rattle.sig_core.specs.declared.member.Member.{Member}
use Rattle.sig_core.specs.declared.member.TxId.{TxId}
use Rattle.sig_core.specs.declared.op.Answer.{Answer}
use Rattle.sig_core.specs.declared.op.Answer.TheVariants as answer
use Rattle.sig_core.specs.declared.op.Op.{Op}
use Rattle.sig_core.specs.declared.signal.Body.{Body}
use Rattle.sig_core.specs.Op.{key_of}
use Rattle.tc_block.specs.declared.touched.Touched.{Touched}
use Rattle.tc_block.specs.declared.transaction.Transaction.{Transaction}
use Rattle.frag_map.specs.Layout.{chain_of, first_layout}
use Rattle.tc_block.specs.Operate.{operating, touched_after}
use Rattle.tc_block.specs.State.{TcState}
use Rattle.tc_block.specs.Tc.{tc_table}
use Rattle.tc_block.specs.Touched.{place_of, touched_by, unwritten, written, written_by}
use Rattle.world_core.specs.Start.{Start}
use Rattle.run_theory.proofs.EachSent.{each_set}
use Rattle.tc_block.proofs.LiveKeeps.{AllAre, LiveKeeps, StepKeeps, TurnsKeep, live_keeps}
use Rattle.run_laws.specs.Routes.{IsAskedRouted, IsTouchedRouted, IsTransactionRouted, replicas}
use Rattle.run_laws.proofs.routes.Sends.{IsSent, aborts_sent, phase_sent, plain_sent}

module _ (start : Start) (some : (key : List ℕ) → 0 < length (replicas start key)) where
  touched_routed : (keys : List Touched) (key : List ℕ) (place : Option ℕ) → Each (IsTouchedRouted start) keys
      → Each (IsTouchedRouted start) (touched_by keys key (replicas start key) place)
  touched_routed keys key None all =
      each_append (IsTouchedRouted start) keys (unwritten key (replicas start key) ∷ []) all (refl, tt)
  touched_routed keys key (Some at) all = all

  written_routed : (keys : List Touched) (key : List ℕ) (chain : List Member) (place : Option ℕ)
      → chain ≡ replicas start key → Each (IsTouchedRouted start) keys
      → Each (IsTouchedRouted start) (written_by keys key chain place)
  written_routed keys key chain None is all = all
  written_routed keys key chain (Some at) is all = each_set (IsTouchedRouted start) keys at (written key chain) all is

  answered_routed : (t : Transaction) → IsTransactionRouted start t → (answer : Answer) (op : Op) (chain : List Member)
      → chain ≡ replicas start (key_of op) → Each (IsTouchedRouted start) (touched_after answer t.touched op chain)
  answered_routed t fine answer.Done op chain is =
      written_routed t.touched (key_of op) chain (place_of t.touched (key_of op)) is fine.touched
  answered_routed t fine (answer.Found value) op chain is = fine.touched
  answered_routed t fine answer.Missing op chain is = fine.touched
  answered_routed t fine answer.E626 op chain is = fine.touched
  answered_routed t fine answer.E630 op chain is = fine.touched

  turns_routed : TurnsKeep (λ t. IsTransactionRouted start t) (λ o. IsSent start o) (first_layout start.shape)
  turns_routed = record {
    phase = λ t phase fine. record { touched = fine.touched; asked = fine.asked };
    unasked = λ t fine. record { touched = fine.touched; asked = tt };
    answered = λ t asked answer is fine. record {
      touched = answered_routed t fine answer asked.op asked.chain (subst (IsAskedRouted start) is fine.asked);
      asked = tt;
    };
    sends = λ tx t phase fine. phase_sent start some tx (first_layout start.shape) phase t.touched fine.touched;
    aborts = λ tx key. aborts_sent start some tx key (chain_of (first_layout start.shape) key);
    plain = λ o e. plain_sent start o.to o.body e;
  }

  operated_routed : (tx : TxId) (t : Transaction) (op : Op) → IsTransactionRouted start t
      → StepKeeps (λ t. IsTransactionRouted start t) (λ o. IsSent start o)
      (operating tx t op (replicas start (key_of op)))
  operated_routed tx t op fine = record {
    state = record {
      touched = touched_routed t.touched (key_of op) (place_of t.touched (key_of op)) fine.touched;
      asked = refl;
    };
    sends = (
      record {
        routed = record {
          chain = refl;
          sent = record { inside = some (key_of op); node_is = refl };
          work
              = refl;
        };
        block = refl;
      },
      tt,
    );
  }

  -- whatever it takes
  pub tc_routed : (s : TcState) (body : Body) → s.layout ≡ first_layout start.shape
      → AllAre (λ t. IsTransactionRouted start t) s.live
      → LiveKeeps (λ t. IsTransactionRouted start t) (λ o. IsSent start o) s.layout (tc_table s body)
  tc_routed s body is all =
      live_keeps (λ t. IsTransactionRouted start t) (λ o. IsSent start o) s body (record { touched = tt; asked = tt })
      (subst (λ v. TurnsKeep (λ t. IsTransactionRouted start t) (λ o. IsSent start o) v) (sym is) turns_routed)
      (λ tx t op fine. subst (λ v. StepKeeps (λ t. IsTransactionRouted start t) (λ o. IsSent start o)
      (operating tx t op (chain_of v (key_of op)))) (sym is) (operated_routed tx t op fine)) all
