-- The client is told the ends that are marked, and the answers that are heard, each under the name of its transaction.
use Rattle.std.proofs.Common.{◌≡◌, ◌⊎◌, ◌++◌, ℕ, Bool, List, [], ◌∷◌, ap, inl, inr, refl, subst, sym, ◌∙◌}
use Rattle.std.specs.Prelude.{Option, None, Some}
use Rattle.run_theory.specs.Lists.{Each, IsIn}
use Rattle.run_theory.specs.Logs.{IsLog}
use Rattle.run_theory.specs.Runs.{AreLogs}
use Rattle.run_theory.proofs.Focus.{IsFocus}
use Rattle.run_theory.proofs.Links.{log_after}
use Rattle.run_theory.proofs.Pasts.{each_map, in_append}
use Rattle.sig_core.specs.declared.mark.Mark.{Mark}
use Rattle.sig_core.specs.declared.mark.Mark.TheVariants.{Installed}
use Rattle.sig_core.specs.declared.member.TxId.{TxId}
use Rattle.sig_core.specs.declared.reply.ApiReply.{ApiReply}
use Rattle.sig_core.specs.declared.reply.ApiReply.TheVariants.{Answered, Ended}
use Rattle.sig_core.specs.declared.signal.Body.{Body}
use Rattle.api_block.specs.declared.opened.OpenTransaction.{OpenTransaction}
use Rattle.api_block.specs.Opened.{has_tx}
use Rattle.api_block.proofs.Walk.{own_is}
use Rattle.report_laws.specs.Answered.{answers_among}
use Rattle.report_laws.specs.Told.{answer_in, outcomes_marked, outcomes_told}
use Rattle.world_core.specs.Start.{NobodyStarts, Start}
use Rattle.world_core.specs.Steps.{HostStep}
use Rattle.world_views.specs.Machine.{machine, replies_at, step_after}
use Rattle.talk_laws.specs.Reports.{IsOfItsTransaction, IsOpenIn, opened_after}
use Rattle.talk_laws.proofs.ClientTalks.{IsMute, IsMuteBehind, Talk, TalkForms}
use Rattle.talk_laws.proofs.ShellLogs.{step_talks}
use Rattle.talk_laws.proofs.ShellTalks.{AreUnreported, HostForms}

mute_ends : (more : List ApiReply) → Each IsMute more → outcomes_told more ≡ []
mute_ends [] mute = refl
mute_ends (Ended name outcome ∷ more) mute = absurd (let no = mute.0 in cc)
mute_ends (reply ∷ more) mute = mute_ends more mute.1

pub mute_answers : (more : List ApiReply) → Each IsMute more → answers_among more ≡ []
mute_answers [] mute = refl
mute_answers (Answered name answer ∷ more) mute = absurd (let no = mute.0 in cc)
mute_answers (reply ∷ more) mute = mute_answers more mute.1

-- the transaction at a place is open under its name
pub open_at : (opened : List OpenTransaction) (p : OpenTransaction → Bool) (at : ℕ) (f : IsFocus p opened at)
    (name : Option ℕ) (tx : TxId)
    → f.item.name ≡ name → f.item.tx ≡ Some tx → IsOpenIn opened name tx
open_at opened p at f name tx named own = record {
  t = f.item;
  there = subst (IsIn f.item) (sym f.is) (in_append f.item f.front (f.item ∷ f.back) (inl refl));
  named = named;
  own = own;
}

module _ (opened : List OpenTransaction) (body : Body) where
  abbrev pub AreOwn : List Mark → List ApiReply → Type 0
  AreOwn marks replies = Each (IsOfItsTransaction opened body marks) replies

  mute_own : (marks : List Mark) (reply : ApiReply) → IsMute reply → IsOfItsTransaction opened body marks reply
  mute_own marks (Answered name answer) mute = absurd cc
  mute_own marks (Ended name outcome) mute = absurd cc
  mute_own marks reply mute = tt

  -- what is told so stays so with one more mark
  one_mark : (mark : Mark) (marks : List Mark) (reply : ApiReply) → IsOfItsTransaction opened body marks reply
      → IsOfItsTransaction opened body (mark ∷ marks) reply
  one_mark mark marks (Answered name answer) own = own
  one_mark mark marks (Ended name outcome) own = (own.0, (inr own.1.0, own.1.1))
  one_mark mark marks reply own = own

  -- what a step replies, and marks
  pub record TellsMarked (marks : List Mark) (replies : List ApiReply) : Type 0 where
    pub same : outcomes_told replies ≡ outcomes_marked marks
    pub answers : (answers_among replies ≡ []) ⊎ (answers_among replies ≡ answer_in body)
    pub own : AreOwn marks replies

  abbrev Tells : Talk
  Tells now sends marks replies = TellsMarked marks replies

  silent : (marks : List Mark) (replies : List ApiReply) → AreUnreported marks → IsMuteBehind [] replies
      → TellsMarked marks replies
  silent marks replies none behind =
      subst (TellsMarked marks) (sym behind.is)
      (record {
        same = mute_ends behind.more behind.mute ∙ sym none;
        answers = inl (mute_answers behind.more behind.mute);
        own = each_map IsMute (IsOfItsTransaction opened body marks) behind.more (mute_own marks) behind.mute;
      })

  forms : TalkForms opened [] body Tells
  forms = record {
    keeps = λ sends plain mute. silent [] _ refl mute;
    opens = λ name node sends new plain mute. silent [] _ refl mute;
    opens_alone = λ op node sends is plain mute. silent [] _ refl mute;
    begins = λ name tx at f is mute. silent [] _ refl mute;
    begins_alone = λ name tx at f op is nameless does mute. silent [] _ refl mute;
    waits = λ p at f ahead sends plain mute. silent [] _ refl mute;
    operates = λ name op at f tx is ready own mute. silent [] _ refl mute;
    answers = λ tx answer at f name is does called. record {
      same = refl;
      answers = inr (sym (ap answer_in is));
      own = ((tx, (is, open_at opened (has_tx tx) at f (Some name) tx called (own_is tx f.item.tx f.passes))), tt);
    };
    answers_last = λ tx answer at f is does nameless. record {
      same = refl;
      answers = inr (sym (ap answer_in is));
      own = ((tx, (is, open_at opened (has_tx tx) at f None tx nameless (own_is tx f.item.tx f.passes))), tt);
    };
    wishes = λ p at f tx ready own mute. silent [] _ refl mute;
    drops = λ p at f sends plain mute. silent [] _ refl mute;
    ends = λ p at f tx outcome sends own plain. record {
      same = refl;
      answers = inl refl;
      own = ((tx, (inl refl, open_at opened p at f f.item.name tx refl own)), tt);
    };
  }

  beside : HostForms opened [] Tells
  beside = record {
    stays = λ sends marks plain none. silent marks [] none (record { more = []; is = refl; mute = tt });
    installs = λ now sends marks replies view tells. record {
      same = tells.same;
      answers = tells.answers;
      own =
          each_map (IsOfItsTransaction opened body marks) (IsOfItsTransaction opened body (Installed view ∷ marks))
          replies (one_mark (Installed view) marks) tells.own;
    };
  }

-- so it is of the row of each step
pub row_tells : (start : Start) (nobody : NobodyStarts start) (e : HostStep) (log : List HostStep)
    → TellsMarked (opened_after start log) e.step.taken.body (step_after start 0 log e).effects.marks
    (replies_at 0 (step_after start 0 log e))
row_tells start nobody e log =
    step_talks start nobody e log (Tells (opened_after start log) e.step.taken.body)
    (forms (opened_after start log) e.step.taken.body) (beside (opened_after start log) e.step.taken.body)

-- whose marks the step has
module _ (start : Start) (nobody : NobodyStarts start) (logs : ℕ → List HostStep) (right : AreLogs (machine start) logs)
    (newer : List HostStep)
    (e : HostStep) (before : List HostStep) (is : logs 0 ≡ newer ++ e ∷ before)
  where
    abbrev replied : List ApiReply
    replied = replies_at 0 (step_after start 0 before e)

    step_tells : TellsMarked (opened_after start before) e.step.taken.body e.step.marks replied
    step_tells =
        let log = log_after (machine start) 0 newer (e ∷ before) (subst (IsLog (machine start) 0) is (right.local 0)) in
        subst (λ marks. TellsMarked (opened_after start before) e.step.taken.body marks replied) (sym log.0.fits.marks)
        (row_tells start nobody e before)

    pub ends_are_marked : outcomes_told replied ≡ outcomes_marked e.step.marks
    ends_are_marked = step_tells.same

    pub answers_are_heard : (answers_among replied ≡ []) ⊎ (answers_among replied ≡ answer_in e.step.taken.body)
    answers_are_heard = step_tells.answers

    pub told_under_names : Each (IsOfItsTransaction (opened_after start before) e.step.taken.body e.step.marks) replied
    told_under_names = step_tells.own
