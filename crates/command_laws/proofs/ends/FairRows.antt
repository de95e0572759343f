-- The rows of a node refuse an operation for want of room or of time, or since the transaction is aborted.
use Rattle.std.proofs.Common.{◌≡◌, Bool, true, refl, sym, ap, ◌∙◌}
use Rattle.std.specs.Prelude.{if◌then◌else◌, not}
use Rattle.sig_core.specs.declared.member.TxId.{TxId}
use Rattle.sig_core.specs.declared.outs.Outgoing.{Outgoing}
use Rattle.sig_core.specs.declared.signal.Body.{Body}
use Rattle.sig_core.specs.declared.signal.Body.TheVariants.{Chain}
use Rattle.sig_core.specs.declared.signal.chain.ChainSignal.TheVariants.{LqhKeyRef, Abort}
use Rattle.sig_core.specs.Same.{same_tx}
use Rattle.lqh_block.specs.declared.request.Request.{Request}
use Rattle.lqh_block.specs.Lqh.{lqh_table}
use Rattle.lqh_block.specs.State.{LqhState}
use Rattle.lqh_block.proofs.EachLqh.{RequestSends, lqh_sends_each}
use Rattle.host_laws.proofs.hosts.SendKinds.{SendsOnly, of_each}
use Rattle.command_laws.specs.Served.{is_refusal}

-- all but an abort of the transaction, and the refusal of its operation for another cause
abbrev pub is_fair : TxId → Body → Bool
is_fair own (Chain (Abort tx key)) = not (same_tx tx own)
is_fair own (Chain (LqhKeyRef tx key why)) = if is_refusal why then true else not (same_tx tx own)
is_fair own _ = true

pub lqh_fair : (own : TxId) (s : LqhState) (body : Body) → is_fair own body ≡ true
    → SendsOnly (is_fair own) (lqh_table s body)
lqh_fair own s body fair =
    of_each (is_fair own) (lqh_table s body).effects.sends
    (lqh_sends_each (λ (o : Outgoing). is_fair own o.body ≡ true) s body (record {
      asked = λ r is. request r;
      waited = λ at r is. request r;
      grants_more = refl;
      expires_more = refl;
      commits_on = λ tx key epoch chain at is behind. refl;
      committed = λ tx key epoch chain at sent first. refl;
      completes_on = λ tx key chain at is behind. refl;
      completed = λ tx key chain at sent first. refl;
      aborted = λ tx key sent. refl;
      gives_up = λ tx key is. ap (is_fair own) (sym is) ∙ fair;
      times_out = λ tx key. refl;
      waits = λ tx key ahead sent there. refl;
      dumps = λ at rows next sent. refl;
    }))
  where
    request : (r : Request) → RequestSends (λ (o : Outgoing). is_fair own o.body ≡ true) r
    request r = record {
      log_full = λ used reserved need. refl;
      table_full = λ rows. refl;
      answers = λ a. refl;
      passes =
          λ image next is. refl;
    }
