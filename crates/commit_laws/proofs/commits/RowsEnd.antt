-- What rows send of commits: they pass a commit on to the place in front of theirs, and tell of it at the first place;
-- and so with completions.
use Rattle.std.proofs.Common.{◌≡◌, ◌==◌, ◌-◌, ℕ, false, List, refl}
use Rattle.std.proofs.lemmas.Bool.{eqb-true}
use Rattle.run_theory.specs.Lists.{Each}
use Rattle.sig_core.specs.declared.member.Member.{Member}
use Rattle.sig_core.specs.declared.member.TxId.{TxId}
use Rattle.sig_core.specs.declared.outs.Outgoing.{Outgoing}
use Rattle.sig_core.specs.declared.signal.Body.{Body}
use Rattle.sig_core.specs.declared.signal.Body.TheVariants.{Chain, Client}
use Rattle.sig_core.specs.declared.signal.Signal.{Signal}
use Rattle.sig_core.specs.declared.signal.chain.ChainSignal.TheVariants.{Commit, Committed, Complete, Completed}
use Rattle.sig_core.specs.declared.signal.client.ClientSignal.TheVariants.{TcCommitAck, TcCommitConf, TcKeyFailConf}
use Rattle.lqh_block.specs.declared.request.Request.{Request}
use Rattle.lqh_block.proofs.EachLqh.{RequestSends}
use Rattle.lqh_views.specs.Replica.{replica_row}
use Rattle.lqh_views.specs.State.{ReplicaState}
use Rattle.lqh_views.proofs.Walk.{replica_says_each}

module _ (taken : Body) where
  -- the commit is passed on
  pub record PassesOn (tx : TxId) (key : List ℕ) (epoch : ℕ) (chain : List Member) (front : ℕ) : Type 0 where
    pub at : ℕ
    pub body_is : taken ≡ Chain (Commit tx key epoch chain at)
    pub behind : (at == 0) ≡ false
    pub front_is : front ≡ at - 1

  pub record TellsCommit (tx : TxId) (key : List ℕ) : Type 0 where
    pub epoch : ℕ
    pub chain : List Member
    pub at : ℕ
    pub body_is : taken ≡ Chain (Commit tx key epoch chain at)
    pub first : at ≡ 0

  -- it is of a completion, which is passed on, or told of at the first place
  pub record TellsCompletion (tx : TxId) (key : List ℕ) : Type 0 where
    pub chain : List Member
    pub at : ℕ
    pub body_is : taken ≡ Chain (Complete tx key chain at)

  abbrev pub IsRowsWord : Body → Type 0
  IsRowsWord (Chain (Commit tx key epoch chain front)) = PassesOn tx key epoch chain front
  IsRowsWord (Chain (Committed tx key)) = TellsCommit tx key
  IsRowsWord (Chain (Complete tx key chain front)) = TellsCompletion tx key
  IsRowsWord (Chain (Completed tx key)) = TellsCompletion tx key
  IsRowsWord (Client (TcCommitAck tx)) = ⊥
  IsRowsWord (Client (TcCommitConf tx epoch)) = ⊥
  IsRowsWord (Client (TcKeyFailConf tx epoch)) = ⊥
  IsRowsWord body = Unit {0}

  abbrev pub AreRowsWords : List Outgoing → Type 0
  AreRowsWords sends = Each (λ (sent : Outgoing). IsRowsWord sent.body) sends

  request_words : (r : Request) → RequestSends (λ (sent : Outgoing). IsRowsWord sent.body) r
  request_words r = record {
    log_full = λ used reserved need. tt;
    table_full = λ rows. tt;
    answers = λ a. tt;
    passes = λ image next is. tt;
  }

-- whatever they take
pub rows_words : (s : ReplicaState) (x : Signal) → AreRowsWords x.body (replica_row s x).effects.sends
rows_words s x =
    replica_says_each s x (IsRowsWord x.body) (λ of_rows. record {
      asked = λ r is. request_words x.body r;
      waited = λ at r is. request_words x.body r;
      grants_more = tt;
      expires_more = tt;
      commits_on = λ tx key epoch chain at is behind. record
          { at = at; body_is = is; behind = behind; front_is = refl };
      committed = λ tx key epoch chain at is first.
          record { epoch = epoch; chain = chain; at = at; body_is = is; first = eqb-true at 0 first };
      completes_on = λ tx key chain at is behind. record { chain = chain; at = at; body_is = is };
      completed = λ tx key chain at is first. record { chain = chain; at = at; body_is = is };
      aborted = λ tx key is. tt;
      gives_up = λ tx key is. tt;
      times_out = λ tx key. tt;
      waits = λ tx key ahead is there. tt;
      dumps = λ at rows next is. tt;
    }) (record {
      promises = λ proposal is. tt;
      closes = λ epoch is. tt;
      saves = λ epoch is. tt;
      states = λ is. tt;
      tells_committed = λ r under_way at one there is. tt;
      tells_prepared = λ r under_way at one there is. tt;
      tells_marker = λ r under_way at m there. tt;
      reports_on = λ r under_way. tt;
      ends = λ r under_way. tt;
    })
