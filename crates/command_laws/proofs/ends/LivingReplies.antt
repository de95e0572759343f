-- The API replies no loss of a node or of the cluster, where it is told of none.
use Rattle.std.proofs.Common.{◌≡◌, ℕ, Bool, true, false, List, [], ◌∷◌, ◌++◌, refl, sym, ap, ◌∙◌}
use Rattle.std.specs.Prelude.{◌==◌, Option, None, map}
use Rattle.run_theory.specs.Lists.{Each}
use Rattle.run_theory.proofs.EachSent.{each_mapped}
use Rattle.run_theory.proofs.Pasts.{each_append}
use Rattle.sig_core.specs.declared.reply.ApiReply.{ApiReply}
use Rattle.sig_core.specs.declared.reply.ApiReply.TheVariants.{Refused}
use Rattle.sig_core.specs.declared.reply.Refusal.{Refusal}
use Rattle.sig_core.specs.declared.reply.Refusal.TheVariants as refusal
use Rattle.sig_core.specs.declared.request.ApiReq.{ApiReq}
use Rattle.sig_core.specs.declared.signal.Body.{Body}
use Rattle.sig_core.specs.declared.signal.Body.TheVariants.{Host}
use Rattle.sig_core.specs.declared.signal.host.HostSignal.TheVariants.{Continue}
use Rattle.sig_core.specs.declared.signal.host.Work.TheVariants as work
use Rattle.sig_core.specs.Step.{Step}
use Rattle.api_block.specs.declared.members.News.TheVariants as news
use Rattle.api_block.specs.Api.{api_table}
use Rattle.api_block.specs.Commands.{ticked_if}
use Rattle.api_block.specs.Dump.{dump_replies, row_reply}
use Rattle.api_block.specs.Gathered.{gathered}
use Rattle.api_block.specs.Members.{everyone, telling_all}
use Rattle.api_block.specs.State.{ApiState, about}
use Rattle.api_block.proofs.ApiTurns.{ApiRequestForms, ApiSignalForms, api_turns, is_own_refusal}
use Rattle.command_laws.proofs.ends.LivingTurns.{is_sound}
use Rattle.command_laws.specs.Living.{is_of_living}

abbrev pub AllLiving : List ApiReply → Type 0
AllLiving replies = Each (λ (reply : ApiReply). is_of_living reply ≡ true) replies

-- where the signal gives no other cause
abbrev Lives : Body → Step ApiState → Type 0
Lives body step = is_sound body ≡ true → AllLiving step.state.replies

lines_live : (node : ℕ) (digest : Bool) (lines : List (List ℕ × List ℕ)) → AllLiving (dump_replies node digest lines)
unfolding dump_replies
lines_live node true lines = (refl, tt)
lines_live node false lines =
    each_append (λ (r : ApiReply). is_of_living r ≡ true) (map row_reply lines) _
    (each_mapped (λ (r : ApiReply). is_of_living r ≡ true) row_reply lines (λ line. refl)) (refl, tt)

refusal_lives : (name : Option ℕ) (why : Refusal) → is_own_refusal why ≡ true → is_of_living (Refused name why) ≡ true
refusal_lives name refusal.Down own = absurd cc
refusal_lives name _ own = refl

module _ (s : ApiState) (all : AllLiving s.replies) where
  -- one more reply
  one_more : (reply : ApiReply) → is_of_living reply ≡ true → AllLiving (s.replies ++ reply ∷ [])
  one_more reply lives = each_append (λ (r : ApiReply). is_of_living r ≡ true) s.replies (reply ∷ []) all (lives, tt)

  at_request : (r : ApiReq) (body : Body) → ApiRequestForms s r (Lives body)
  at_request r body = record {
    opens = λ name node at is new sound. all;
    opens_alone = λ op node is new sound. all;
    refuses = λ name why is own sound. one_more _ (refusal_lives name why own);
    operates = λ name op at f tx is ready own low sound. all;
    commits = λ name at f tx is ready own sound. all;
    aborts = λ name at f tx is own sound. all;
    ticks = λ number of is. round of (number == of);
    dumps = λ node digest is sound. all;
    waits = λ p at f tx is own sound. all;
    pends = λ name holder is sound. one_more _ refl;
    gives_up = λ p at f holder tx is alone own sound. one_more _ refl;
    is_about_none = λ sound. all;
    rests = λ sound. all;
  }
    where
      round : (of : ℕ) (last : Bool) → Lives body
          (record {
            state = about (ticked_if s of last) None;
            effects = record {
              sends = telling_all news.Round (everyone s.view);
              marks = [];
            };
          })
      round of true sound = one_more _ refl
      round of false sound = all

  at_signal : (body : Body) → ApiSignalForms s body (Lives body)
  at_signal body = record {
    begins_named = λ name tx at f called is e sound. one_more _ refl;
    begins_alone = λ name tx at f op is e d sound. all;
    begins_idle = λ name tx at f is sound. all;
    refuses = λ name at f is sound. one_more _ refl;
    answers = λ tx answer at f name is d e sound. one_more _ refl;
    answers_last = λ tx answer at f is d e sound. one_more _ refl;
    answers_none = λ tx answer at f is other sound. all;
    commits = λ tx epoch at f is sound. one_more _ refl;
    acknowledges = λ tx epoch is none sound. all;
    aborts = λ tx why at f is sound. one_more _ (sym (ap is_sound is) ∙ sound);
    waits = λ tx ahead at f is sound. all;
    dumps = λ d rows next at is sound. all;
    dumped = λ d rows next is sound.
        each_append (λ (r : ApiReply). is_of_living r ≡ true) s.replies
        (dump_replies d.node d.digest (gathered d.rows rows)) all
        (lines_live d.node d.digest (gathered d.rows rows));
    rests = λ void stray sound. all;
  }

  pub api_lives : (body : Body) → is_sound body ≡ true → AllLiving (api_table s body).state.replies
  api_lives body = api_turns s Lives body (λ r at. at_request r (Host (Continue (work.Request r) at))) (at_signal body)
