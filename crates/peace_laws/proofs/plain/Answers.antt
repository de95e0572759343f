-- A plain host replies nothing that the plain part of replies leaves out.
use Rattle.std.proofs.Common.{◌≡◌, ◌⊎◌, inl, inr, ℕ, zero, suc, ◌%◌, Bool, true, false, List, [], ◌∷◌, ◌++◌, refl, sym}
use Rattle.std.proofs.Common.{ap, ◌∙◌, subst}
use Rattle.std.specs.Prelude.{if◌then◌else◌, ◌==◌, None, map, not}
use Rattle.run_theory.specs.Lists.{Each}
use Rattle.run_theory.proofs.EachSent.{each_mapped}
use Rattle.run_theory.proofs.Pasts.{each_append}
use Rattle.sig_core.specs.declared.member.Member.{Member}
use Rattle.sig_core.specs.declared.place.Part.{Part}
use Rattle.sig_core.specs.declared.place.Part.TheVariants as part
use Rattle.sig_core.specs.declared.reply.ApiReply.{ApiReply}
use Rattle.sig_core.specs.declared.reply.ApiReply.TheVariants as reply
use Rattle.sig_core.specs.declared.request.ApiReq.{ApiReq}
use Rattle.sig_core.specs.declared.signal.Body.{Body}
use Rattle.sig_core.specs.declared.signal.Body.TheVariants.{Host}
use Rattle.sig_core.specs.declared.signal.Signal.{Signal}
use Rattle.sig_core.specs.declared.signal.host.HostSignal.TheVariants.{Continue}
use Rattle.sig_core.specs.declared.signal.host.Work.TheVariants as work
use Rattle.sig_core.specs.Step.{Step}
use Rattle.api_block.specs.declared.members.News.TheVariants as news
use Rattle.api_block.specs.Api.{api_table}
use Rattle.api_block.specs.Commands.{ticked_if}
use Rattle.api_block.specs.Dump.{dump_replies, row_reply}
use Rattle.api_block.specs.Gathered.{gathered}
use Rattle.api_block.specs.Members.{everyone, telling_all}
use Rattle.api_block.specs.State.{ApiState, about}
use Rattle.api_block.proofs.ApiTurns.{ApiRequestForms, ApiSignalForms, api_turns}
use Rattle.frag_map.specs.Layout.{Layout, first_layout}
use Rattle.node_core.proofs.HostCases.{IsApiStep, api_step}
use Rattle.node_core.specs.Blocks.{api_of}
use Rattle.node_core.specs.declared.host.Host.{Host as PlainHost}
use Rattle.node_core.specs.Fresh.{fresh_part, fresh_shell}
use Rattle.node_core.specs.Row.{row}
use Rattle.world_core.specs.Hosts.{member_at, part_by, started}
use Rattle.world_core.specs.Machine.{after}
use Rattle.world_core.specs.Start.{Start, made}
use Rattle.world_core.specs.Steps.{HostStep}
use Rattle.calm_laws.specs.Steps as calm
use Rattle.level_laws.specs.Levels.{reply_at}
use Rattle.peace_laws.specs.Parts.{plain_replies, shows}

-- a reply that a plain machine gives
abbrev pub IsPlainReply : ApiReply → Type 0
IsPlainReply reply = shows reply ≡ false

abbrev pub ArePlainReplies : List ApiReply → Type 0
ArePlainReplies replies = Each IsPlainReply replies

abbrev Keeps : Body → Step ApiState → Type 0
Keeps body step = ArePlainReplies step.state.replies

lines_plain : (node : ℕ) (digest : Bool) (lines : List (List ℕ × List ℕ))
    → ArePlainReplies (dump_replies node digest lines)
unfolding dump_replies
lines_plain node true lines = (refl, tt)
lines_plain node false lines =
    each_append IsPlainReply (map row_reply lines) _ (each_mapped IsPlainReply row_reply lines (λ line. refl))
    (refl, tt)

module _ (s : ApiState) (all : ArePlainReplies s.replies) where
  one_more : (reply : ApiReply) → IsPlainReply reply → ArePlainReplies (s.replies ++ reply ∷ [])
  one_more reply plain = each_append IsPlainReply s.replies (reply ∷ []) all (plain, tt)

  at_request : (r : ApiReq) (body : Body) → ApiRequestForms s r (Keeps body)
  at_request r body = record {
    opens = λ name node at is new. all;
    opens_alone = λ op node is new. all;
    refuses = λ name why is own. one_more _ refl;
    operates = λ name op at f tx is ready own low. all;
    commits = λ name at f tx is ready own. all;
    aborts = λ name at f tx is own. all;
    ticks = λ round of is. ticks of (round == of);
    dumps = λ node digest is. all;
    waits = λ p at f tx is own. all;
    pends = λ name holder is. one_more _ refl;
    gives_up = λ p at f holder tx is alone own. one_more _ refl;
    is_about_none = all;
    rests = all;
  }
    where
      ticks : (of : ℕ) (last : Bool)
          → Keeps body (record {
            state = about (ticked_if s of last) None;
            effects = record { sends = telling_all news.Round (everyone s.view); marks = [] };
          })
      ticks of true = one_more _ refl
      ticks of false = all

  at_signal : (body : Body) → ApiSignalForms s body (Keeps body)
  at_signal body = record {
    begins_named = λ name tx at f called is e. one_more _ refl;
    begins_alone = λ name tx at f op is e d. all;
    begins_idle = λ name tx at f is. all;
    refuses = λ name at f is. one_more _ refl;
    answers = λ tx answer at f name is d e. one_more _ refl;
    answers_last = λ tx answer at f is d e. one_more _ refl;
    answers_none = λ tx answer at f is other. all;
    commits = λ tx epoch at f is. one_more _ refl;
    acknowledges = λ tx epoch is none. all;
    aborts = λ tx why at f is. one_more _ refl;
    waits = λ tx ahead at f is. all;
    dumps = λ d rows next at is. all;
    dumped = λ d rows next is.
        each_append IsPlainReply s.replies (dump_replies d.node d.digest (gathered d.rows rows)) all
        (lines_plain d.node d.digest (gathered d.rows rows));
    rests = λ void stray. all;
  }

  api_keeps : (body : Body) → ArePlainReplies (api_table s body).state.replies
  api_keeps body = api_turns s Keeps body (λ r at. at_request r (Host (Continue (work.Request r) at))) (at_signal body)

row_keeps : (s : PlainHost) (x : Signal) → ArePlainReplies (api_of s).replies
    → ArePlainReplies (api_of (row s x).state).replies
row_keeps s x all = by (api_step s x)
  where
    by : IsApiStep s x (row s x) ⊎ (api_of (row s x).state ≡ api_of s)
        → ArePlainReplies (api_of (row s x).state).replies
    by (inl step) =
        subst (λ (a : ApiState). ArePlainReplies a.replies) (sym step.state) (api_keeps (api_of s) all x.body)
    by (inr same) = subst (λ (a : ApiState). ArePlainReplies a.replies) (sym same) all

part_begins : (of : Part) (member : Member) (layout : Layout) (epoch : ℕ) (rows : List (List ℕ × List ℕ))
    → ArePlainReplies (api_of (fresh_part of member layout epoch rows)).replies
unfolding fresh_part
part_begins part.Main member layout epoch rows = tt
part_begins part.Tc member layout epoch rows = tt
part_begins part.Ldm member layout epoch rows = tt

-- whatever a plain host did
pub hosts_reply : (start : Start) (h : ℕ) (log : List HostStep) → ArePlainReplies (api_of (after start h log)).replies
unfolding started fresh_shell
hosts_reply start zero [] = tt
hosts_reply start (suc h) [] =
    part_begins (part_by (h % 3)) (member_at (made start) (suc h)) (first_layout start.shape) start.epoch start.rows
hosts_reply start h (e ∷ log) = row_keeps (after start h log) e.step.taken (hosts_reply start h log)

-- a reply is plain whatever its epoch
reply_level : (epoch : ℕ) (r : ApiReply) → shows (reply_at epoch r) ≡ shows r
reply_level epoch (reply.Ended name outcome) = refl
reply_level epoch r = refl

pub replies_level : (epoch : ℕ) (replies : List ApiReply) → ArePlainReplies (map (reply_at epoch) replies)
    → ArePlainReplies replies
replies_level epoch [] all = tt
replies_level epoch (r ∷ more) all = (sym (reply_level epoch r) ∙ all.0, replies_level epoch more all.1)

-- Replies of which all are plain that don't show a view.
calm_shows : (r : ApiReply) → calm.shows r ≡ true → shows r ≡ true
calm_shows (reply.View view) is = refl
calm_shows r is = absurd cc

pub same_replies : (replies : List ApiReply) → ArePlainReplies (calm.plain_replies replies)
    → plain_replies replies ≡ calm.plain_replies replies
same_replies [] all = refl
same_replies (r ∷ more) all = by (calm.shows r) refl (same_replies more) all
  where
    by : (b : Bool) → calm.shows r ≡ b
        → (ArePlainReplies (calm.plain_replies more) → plain_replies more ≡ calm.plain_replies more)
        → ArePlainReplies (if not b then r ∷ calm.plain_replies more else calm.plain_replies more)
        → (if not (shows r) then r ∷ plain_replies more else plain_replies more)
        ≡ (if not b then r ∷ calm.plain_replies more else calm.plain_replies more)
    by true is rest all =
        ap (λ c. if not c then r ∷ plain_replies more else plain_replies more) (calm_shows r is) ∙ rest all
    by false is rest all =
        ap (λ c. if not c then r ∷ plain_replies more else plain_replies more) all.0
        ∙ ap (λ others. r ∷ others) (rest all.1)
