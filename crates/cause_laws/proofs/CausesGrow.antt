-- What has its cause in logs has it in longer ones.
use Rattle.std.proofs.Common.{ℕ, List}
use Rattle.std.specs.Prelude.{Option}
use Rattle.run_theory.proofs.Pasts.{past_trans}
use Rattle.run_theory.specs.Lists.{IsPast}
use Rattle.sig_core.specs.declared.member.TxId.{TxId}
use Rattle.sig_core.specs.declared.outcome.AbortCause.{AbortCause}
use Rattle.sig_core.specs.declared.outcome.AbortCause.TheVariants as cause
use Rattle.sig_core.specs.declared.outcome.Outcome.TheVariants.{Aborted}
use Rattle.sig_core.specs.declared.reply.ApiReply.{ApiReply}
use Rattle.sig_core.specs.declared.reply.ApiReply.TheVariants.{Ended, Refused}
use Rattle.sig_core.specs.declared.reply.Refusal.TheVariants.{TooManyOpen}
use Rattle.world_core.specs.Start.{Start}
use Rattle.world_core.specs.Steps.{HostStep}
use Rattle.cause_laws.specs.Causes.{IsCaused, IsRefused, IsWished}
use Rattle.cause_laws.specs.TurnedAway.{IsReplyCaused, IsTurnedAway}

pub wished_more : (start : Start) (small large : List HostStep) (tx : TxId) → IsPast small large
    → IsWished start small tx → IsWished start large tx
wished_more start small large tx past w = record {
  step = w.step;
  before = w.before;
  inside = past_trans w.inside past;
  asked = w.asked;
  sent = w.sent;
}

module _ (start : Start) (small large : ℕ → List HostStep) (past : (h : ℕ) → IsPast (small h) (large h)) where
  refused_more : (tx : TxId) (why : AbortCause) → IsRefused start small tx why → IsRefused start large tx why
  refused_more tx why r = record {
    host = r.host;
    step = r.step;
    before = r.before;
    inside = past_trans r.inside (past r.host);
    runs = r.runs;
    key = r.key;
    sent = r.sent;
    reason = r.reason;
  }

  pub away_more : (name : Option ℕ) → IsTurnedAway start small name → IsTurnedAway start large name
  away_more name a = record {
    host = a.host;
    step = a.step;
    before = a.before;
    inside = past_trans a.inside (past a.host);
    runs = a.runs;
    asked = a.asked;
    many = a.many;
    sent = a.sent;
  }

  pub caused_more : (few more : List HostStep) → IsPast few more → (tx : TxId) (why : AbortCause)
      → IsCaused start small few tx why → IsCaused start large more tx why
  unfolding refused_more
  caused_more few more less tx cause.Request is = wished_more start few more tx less is
  caused_more few more less tx (cause.NodeFail view) is = is
  caused_more few more less tx cause.Down is = is
  caused_more few more less tx (cause.LogFull used reserved need) is =
      refused_more tx (cause.LogFull used reserved need) is
  caused_more few more less tx (cause.TableFull rows) is = refused_more tx (cause.TableFull rows) is
  caused_more few more less tx cause.Timeout is = record {
    refused = refused_more tx cause.Timeout is.refused;
    waited = is.waited;
  }

  pub reply_more : (reply : ApiReply) → IsReplyCaused start small reply → IsReplyCaused start large reply
  reply_more (Refused name TooManyOpen) is = away_more name is
  reply_more (Ended name (Aborted why)) is = (is.0, caused_more (small 0) (large 0) (past 0) is.0 why is.1)
  reply_more _ is = tt
