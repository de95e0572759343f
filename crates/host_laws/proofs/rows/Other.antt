-- The rows of a node pass commits and completions on, and say nothing of how transactions come to be decided.
use Rattle.std.proofs.Common.{◌≡◌, ℕ, Bool, true, false, List, refl, ap}
use Rattle.std.specs.Prelude.{◌-◌}
use Rattle.sig_core.specs.declared.member.Member.{Member}
use Rattle.sig_core.specs.declared.member.TxId.{TxId}
use Rattle.sig_core.specs.declared.outs.Outgoing.{Outgoing}
use Rattle.sig_core.specs.declared.signal.Body.{Body}
use Rattle.sig_core.specs.declared.signal.Body.TheVariants.{Client, Chain, Epoch}
use Rattle.sig_core.specs.declared.signal.chain.ChainSignal.TheVariants.{Commit, Complete}
use Rattle.sig_core.specs.declared.signal.client.ClientSignal.TheVariants.{TcBeginConf, TcCommitReq, TcCommitConf}
use Rattle.sig_core.specs.declared.signal.epoch.EpochSignal.TheVariants.{DiVerifyReq, DiVerifyConf}
use Rattle.lqh_block.specs.declared.request.Request.{Request}
use Rattle.lqh_block.specs.Lqh.{lqh_table}
use Rattle.lqh_block.specs.State.{LqhState}
use Rattle.run_theory.specs.Lists.{Each}
use Rattle.lqh_block.proofs.EachLqh.{RequestSends, lqh_sends_each}
use Rattle.host_laws.proofs.hosts.SendKinds.{is_lqh_kind}
use Rattle.host_laws.specs.Kinds.{Kind, committing, kind_of, other}

-- what the rows send, but for the commits and the completions that they pass on
abbrev pub is_own_kind : Body → Bool
is_own_kind (Chain (Commit tx key epoch chain at)) = false
is_own_kind (Chain (Complete tx key chain at)) = false
is_own_kind body = is_lqh_kind body

-- What is so of each such signal, and of a commit or a completion behind the same one that was taken, is so of all that
-- is sent.
pub lqh_passes : (P : Body → Type 0) (s : LqhState) (body : Body) → ((b : Body) → is_own_kind b ≡ true → P b)
    → ((tx : TxId) (key : List ℕ) (epoch : ℕ) (chain : List Member) (at : ℕ)
    → body ≡ Chain (Commit tx key epoch chain at)
    → P (Chain (Commit tx key epoch chain (at - 1))))
    → ((tx : TxId) (key : List ℕ) (chain : List Member) (at : ℕ) → body ≡ Chain (Complete tx key chain at)
    → P (Chain (Complete tx key chain (at - 1))))
    → Each (λ (o : Outgoing). P o.body) (lqh_table s body).effects.sends
lqh_passes P s body owns commits completes =
    lqh_sends_each (λ (o : Outgoing). P o.body) s body (record {
      asked = λ r is. request r;
      waited = λ at r is. request r;
      grants_more = owns _ refl;
      expires_more = owns _ refl;
      commits_on = λ tx key epoch chain at is behind. commits tx key epoch chain at is;
      committed = λ tx key epoch chain at is first. owns _ refl;
      completes_on = λ tx key chain at is behind. completes tx key chain at is;
      completed = λ tx key chain at is first. owns _ refl;
      aborted = λ tx key is. owns _ refl;
      gives_up = λ tx key is. owns _ refl;
      times_out = λ tx key. owns _ refl;
      waits = λ tx key ahead is there. owns _ refl;
      dumps = λ at rows next is. owns _ refl;
    })
  where
    request : (r : Request) → RequestSends (λ (o : Outgoing). P o.body) r
    request r = record {
      log_full = λ used reserved need. owns _ refl;
      table_full = λ rows. owns _ refl;
      answers = λ a. owns _ refl;
      passes = λ image next is. owns _ refl;
    }

-- where a commit goes on to the next place, it is the one that was taken
abbrev pub RowsSay : Kind → Kind → Type 0
RowsSay taken (committing tx) = taken ≡ committing tx
RowsSay taken other = Unit {0}
RowsSay taken _ = ⊥

abbrev pub AllRowsSay : Kind → List Outgoing → Type 0
AllRowsSay taken sends = Each (λ (o : Outgoing). RowsSay taken (kind_of o.body)) sends

pub lqh_says : (s : LqhState) (body : Body) → AllRowsSay (kind_of body) (lqh_table s body).effects.sends
lqh_says s body =
    lqh_passes (λ b. RowsSay (kind_of body) (kind_of b)) s body owns (λ tx key epoch chain at is. ap kind_of is)
    (λ tx key chain at is. tt)
  where
    owns : (b : Body) → is_own_kind b ≡ true → RowsSay (kind_of body) (kind_of b)
    owns (Chain (Commit tx key epoch chain at)) e = absurd cc
    owns (Client (TcBeginConf name tx)) e = absurd cc
    owns (Client (TcCommitReq tx)) e = absurd cc
    owns (Client (TcCommitConf tx epoch)) e = absurd cc
    owns (Epoch (DiVerifyReq tx ops)) e = absurd cc
    owns (Epoch (DiVerifyConf tx epoch)) e = absurd cc
    owns _ e = tt
