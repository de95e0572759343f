-- The API never tells of the view: its replies are those that a plain machine gives. And its own view stays.
use Rattle.std.proofs.Common.{◌≡◌, ℕ, Bool, true, false, List, [], ◌∷◌, ◌++◌, refl}
use Rattle.std.specs.Prelude.{◌==◌, None, map}
use Rattle.run_theory.specs.Lists.{Each}
use Rattle.run_theory.proofs.EachSent.{each_mapped}
use Rattle.run_theory.proofs.Pasts.{each_append}
use Rattle.sig_core.specs.declared.reply.ApiReply.{ApiReply}
use Rattle.sig_core.specs.declared.request.ApiReq.{ApiReq}
use Rattle.sig_core.specs.declared.signal.Body.{Body}
use Rattle.sig_core.specs.Step.{Step}
use Rattle.api_block.specs.declared.members.News.TheVariants as news
use Rattle.api_block.specs.Api.{api_table}
use Rattle.api_block.specs.Commands.{ticked_if}
use Rattle.api_block.specs.Dump.{dump_replies, row_reply}
use Rattle.api_block.specs.Gathered.{gathered}
use Rattle.api_block.specs.Members.{everyone, telling_all}
use Rattle.api_block.specs.State.{ApiState, about}
use Rattle.api_block.proofs.ApiTurns.{ApiRequestForms, ApiSignalForms, api_turns}
use Rattle.calm_laws.specs.Steps.{plain_replies, shows}

-- none of these replies tells of the view
abbrev pub AllPlain : List ApiReply → Type 0
AllPlain replies = Each (λ (reply : ApiReply). shows reply ≡ false) replies

-- so a plain machine gives them all
pub replies_plain : (replies : List ApiReply) → AllPlain replies → plain_replies replies ≡ replies
replies_plain [] all = refl
replies_plain (reply ∷ more) all =
    let one : shows reply ≡ false = all.0 in
    rw (one, replies_plain more all.1) refl

-- the view stays, and no reply tells of it
pub record KeepsPlain (s : ApiState) (step : Step ApiState) : Type 0 where
  pub view : step.state.view ≡ s.view
  pub replies : AllPlain step.state.replies

lines_plain : (node : ℕ) (digest : Bool) (lines : List (List ℕ × List ℕ)) → AllPlain (dump_replies node digest lines)
unfolding dump_replies
lines_plain node true lines = (refl, tt)
lines_plain node false lines =
    each_append (λ (r : ApiReply). shows r ≡ false) (map row_reply lines) _
    (each_mapped (λ (r : ApiReply). shows r ≡ false) row_reply lines (λ line. refl)) (refl, tt)

module _ (s : ApiState) (all : AllPlain s.replies) where
  -- one more reply
  one_more : (reply : ApiReply) → shows reply ≡ false → AllPlain (s.replies ++ reply ∷ [])
  one_more reply plain = each_append (λ (r : ApiReply). shows r ≡ false) s.replies (reply ∷ []) all (plain, tt)

  at_request : (r : ApiReq) → ApiRequestForms s r (KeepsPlain s)
  at_request r = record {
    opens = λ name node at is new. record { view = refl; replies = all };
    opens_alone = λ op node is new. record { view = refl; replies = all };
    refuses = λ name why is own. record { view = refl; replies = one_more _ refl };
    operates = λ name op at f tx is ready own low. record { view = refl; replies = all };
    commits = λ name at f tx is ready own. record { view = refl; replies = all };
    aborts = λ name at f tx is own. record { view = refl; replies = all };
    ticks = λ number of is. round of (number == of);
    dumps = λ node digest is. record { view = refl; replies = all };
    waits = λ p at f tx is own. record { view = refl; replies = all };
    pends = λ name holder is. record { view = refl; replies = one_more _ refl };
    gives_up = λ p at f holder tx is alone own. record { view = refl; replies = one_more _ refl };
    is_about_none = record { view = refl; replies = all };
    rests = record { view = refl; replies = all };
  }
    where
      round : (of : ℕ) (last : Bool)
          → KeepsPlain s
          (record {
            state = about (ticked_if s of last) None;
            effects = record { sends = telling_all news.Round (everyone s.view); marks = [] };
          })
      round of true = record { view = refl; replies = one_more _ refl }
      round of false = record { view = refl; replies = all }

  at_signal : (body : Body) → ApiSignalForms s body (KeepsPlain s)
  at_signal body = record {
    begins_named = λ name tx at f called is e. record { view = refl; replies = one_more _ refl };
    begins_alone = λ name tx at f op is e d. record { view = refl; replies = all };
    begins_idle = λ name tx at f is. record { view = refl; replies = all };
    refuses = λ name at f is. record { view = refl; replies = one_more _ refl };
    answers = λ tx answer at f name is d e. record { view = refl; replies = one_more _ refl };
    answers_last = λ tx answer at f is d e. record { view = refl; replies = one_more _ refl };
    answers_none = λ tx answer at f is other. record { view = refl; replies = all };
    commits = λ tx epoch at f is. record { view = refl; replies = one_more _ refl };
    acknowledges = λ tx epoch is none. record { view = refl; replies = all };
    aborts = λ tx why at f is. record { view = refl; replies = one_more _ refl };
    waits = λ tx ahead at f is. record { view = refl; replies = all };
    dumps = λ d rows next at is. record { view = refl; replies = all };
    dumped = λ d rows next is. record {
      view = refl;
      replies = each_append (λ (r : ApiReply). shows r ≡ false) s.replies
          (dump_replies d.node d.digest (gathered d.rows rows)) all
          (lines_plain d.node d.digest (gathered d.rows rows));
    };
    rests = λ void stray. record { view = refl; replies = all };
  }

  -- whatever the API takes
  pub keeps_plain : (body : Body) → KeepsPlain s (api_table s body)
  keeps_plain body = api_turns s (λ taken step. KeepsPlain s step) body (λ r at. at_request r) (at_signal body)
