-- What the API replies, sends and marks of ends and refusals is what it was told, and what it was asked.
use Rattle.std.proofs.Common.{◌≡◌, ℕ, Bool, true, false, List, [], ◌∷◌, ◌++◌, refl, sym, ◌∙◌, subst, inl, append-nil}
use Rattle.std.specs.Prelude.{◌==◌, Option, None, Some, map}
use Rattle.run_theory.specs.Lists.{Each, IsIn}
use Rattle.run_theory.proofs.EachSent.{each_mapped}
use Rattle.run_theory.proofs.Pasts.{each_append, in_append}
use Rattle.sig_core.specs.declared.mark.Mark.{Mark}
use Rattle.sig_core.specs.declared.mark.Mark.TheVariants.{Reported}
use Rattle.sig_core.specs.declared.member.TxId.{TxId}
use Rattle.sig_core.specs.declared.outcome.Outcome.TheVariants as outcome
use Rattle.sig_core.specs.declared.outs.Outgoing.{Outgoing}
use Rattle.sig_core.specs.declared.place.Place.{Place}
use Rattle.sig_core.specs.declared.reply.ApiReply.{ApiReply}
use Rattle.sig_core.specs.declared.reply.ApiReply.TheVariants.{Refused}
use Rattle.sig_core.specs.declared.reply.Refusal.{Refusal}
use Rattle.sig_core.specs.declared.reply.Refusal.TheVariants as refusal
use Rattle.sig_core.specs.declared.request.ApiReq.{ApiReq}
use Rattle.sig_core.specs.declared.request.ApiReq.TheVariants as request
use Rattle.sig_core.specs.declared.signal.Body.{Body}
use Rattle.sig_core.specs.declared.signal.Body.TheVariants.{Chain, Client, Host}
use Rattle.sig_core.specs.declared.signal.chain.ChainSignal.TheVariants.{LqhKeyRef}
use Rattle.sig_core.specs.declared.signal.client.ClientSignal.TheVariants.{TcBeginRef, TcRollbackRep, TcRollbackReq}
use Rattle.sig_core.specs.declared.signal.host.HostSignal.TheVariants.{Continue}
use Rattle.sig_core.specs.declared.signal.host.Work.TheVariants as work
use Rattle.sig_core.specs.Place.{coordinator_of}
use Rattle.sig_core.specs.Step.{Step}
use Rattle.api_block.specs.Api.{api_table}
use Rattle.api_block.specs.Commands.{ticked_if}
use Rattle.api_block.specs.declared.members.News.TheVariants as news
use Rattle.api_block.specs.declared.opened.OpenTransaction.{OpenTransaction}
use Rattle.api_block.specs.Dump.{dump_replies, row_reply}
use Rattle.api_block.specs.Gathered.{gathered}
use Rattle.api_block.specs.Members.{everyone, telling, telling_all}
use Rattle.api_block.specs.Opened.{is_named}
use Rattle.api_block.specs.Outcome.{acknowledging}
use Rattle.api_block.specs.State.{ApiState, about}
use Rattle.api_block.proofs.ApiTurns.{ApiRequestForms, ApiSignalForms, api_turns, is_own_refusal}
use Rattle.host_laws.proofs.api.Begins.{same_name-is}
use Rattle.run_theory.proofs.Focus.{IsFocus}
use Rattle.cause_laws.specs.Causes.{IsEntered, IsWish}
use Rattle.cause_laws.specs.TurnedAway.{AddsReplies, IsToldBy, RepliesAreTold}

-- a coordinator is asked for an abort at such a request alone; and no other signal gives a cause
abbrev pub ApiTells : ApiState → Body → Place → Body → Type 0
ApiTells s asked to (Client (TcRollbackReq tx)) = (to ≡ coordinator_of tx) × IsWish s asked tx
ApiTells s asked to (Chain (LqhKeyRef tx key why)) = ⊥
ApiTells s asked to (Client (TcRollbackRep tx why)) = ⊥
ApiTells s asked to (Client (TcBeginRef name)) = ⊥
ApiTells s asked to other = Unit {0}

-- an abort is marked as the signal tells of it
abbrev pub IsMarkedBy : Body → Mark → Type 0
IsMarkedBy body (Reported tx (outcome.Aborted why)) = body ≡ Client (TcRollbackRep tx why)
IsMarkedBy body other = Unit {0}

-- what a step of the API does
pub record ApiFine (s : ApiState) (body : Body) (step : Step ApiState) : Type 0 where
  pub replies : AddsReplies s body step.state
  pub sends : Each (λ (o : Outgoing). ApiTells s body o.to o.body) step.effects.sends
  pub marks : Each (IsMarkedBy body) step.effects.marks

own_told : (body : Body) (name : Option ℕ) (why : Refusal) → is_own_refusal why ≡ true
    → IsToldBy body (Refused name why)
own_told body name refusal.TooManyOpen own = absurd cc
own_told body name _ own = tt

lines_told : (body : Body) (node : ℕ) (digest : Bool) (lines : List (List ℕ × List ℕ))
    → Each (IsToldBy body) (dump_replies node digest lines)
unfolding dump_replies
lines_told body node true lines = (tt, tt)
lines_told body node false lines =
    each_append (IsToldBy body) (map row_reply lines) _ (each_mapped (IsToldBy body) row_reply lines (λ line. tt))
    (tt, tt)

module _ (s : ApiState) where
  abbrev Tells : Body → Outgoing → Type 0
  Tells asked o = ApiTells s asked o.to o.body

  -- the entry at a place
  entered : (p : OpenTransaction → Bool) (at : ℕ) (f : IsFocus p s.opened at) (name : Option ℕ) (tx : TxId)
      → f.item.name ≡ name → f.item.tx ≡ Some tx → IsEntered s name tx
  entered p at f name tx named its = record {
    entry = f.item;
    there = subst (IsIn f.item) (sym f.is) (in_append f.item f.front (f.item ∷ f.back) (inl refl));
    named = named;
    its = its;
  }

  -- no reply more
  same : (body : Body) (after : ApiState) → after.replies ≡ s.replies → AddsReplies s body after
  same body after is = record { more = []; is = is ∙ sym (append-nil s.replies); told = tt }

  -- one reply more
  one : (body : Body) (after : ApiState) (reply : ApiReply) → after.replies ≡ s.replies ++ reply ∷ []
      → IsToldBy body reply → AddsReplies s body after
  one body after reply is told = record { more = reply ∷ []; is = is; told = (told, tt) }

  at_request : (r : ApiReq) (at : ℕ)
      → ApiRequestForms s r (ApiFine s (Host (Continue (work.Request r) at)))
  at_request r at = record {
    opens = λ name node at is new. record { replies = same body _ refl; sends = (tt, tt); marks = tt };
    opens_alone = λ op node is new. record { replies = same body _ refl; sends = (tt, tt); marks = tt };
    refuses = λ name why is own. record {
      replies = one body _ _ refl (own_told body name why own);
      sends = tt;
      marks = tt;
    };
    operates = λ name op at f tx is ready own low. record { replies = same body _ refl; sends = (tt, tt); marks = tt };
    commits = λ name at f tx is ready own. record { replies = same body _ refl; sends = (tt, tt); marks = tt };
    aborts = λ name place f tx is own. record {
      replies = same body _ refl;
      sends = (
        (
          refl,
          wish tx (request.Abort name) is (entered (is_named (Some name)) place f (Some name) tx
              (same_name-is f.item.name (Some name) f.passes) own),
        ),
        tt,
      );
      marks = tt;
    };
    ticks = λ number of is. record { replies = round of (number == of); sends = rounds; marks = tt };
    dumps = λ node digest is. record { replies = same body _ refl; sends = (tt, tt); marks = tt };
    waits = λ p at f tx is own. record { replies = same body _ refl; sends = (tt, tt); marks = tt };
    pends = λ name holder is. record { replies = one body _ _ refl tt; sends = tt; marks = tt };
    gives_up = λ p place f holder tx is alone own. record {
      replies = one body _ _ refl tt;
      sends = ((refl, wish tx request.Pending is (entered p place f None tx alone own)), tt);
      marks = tt;
    };
    is_about_none = record { replies = same body _ refl; sends = tt; marks = tt };
    rests = record { replies = same body _ refl; sends = tt; marks = tt };
  }
    where
      body : Body
      body = Host (Continue (work.Request r) at)

      wish : (tx : TxId) (q : ApiReq) → r ≡ q → IsWish s (Host (Continue (work.Request q) at)) tx → IsWish s body tx
      wish tx q is = subst (λ (a : ApiReq). IsWish s (Host (Continue (work.Request a) at)) tx) (sym is)

      rounds : Each (Tells body) (telling_all news.Round (everyone s.view))
      rounds = each_mapped (Tells body) (telling news.Round) (everyone s.view) (λ m. tt)

      round : (of : ℕ) (last : Bool) → AddsReplies s body (about (ticked_if s of last) None)
      round of true = one body _ _ refl tt
      round of false = same body _ refl

  at_signal : (body : Body) → ApiSignalForms s body (ApiFine s body)
  at_signal body = record {
    begins_named = λ name tx at f called is e. record { replies = one body _ _ refl tt; sends = tt; marks = tt };
    begins_alone = λ name tx at f op is e d. record { replies = same body _ refl; sends = (tt, tt); marks = tt };
    begins_idle = λ name tx at f is. record { replies = same body _ refl; sends = tt; marks = tt };
    refuses = λ name at f is. record { replies = one body _ _ refl is; sends = tt; marks = tt };
    answers = λ tx answer at f name is d e. record { replies = one body _ _ refl tt; sends = tt; marks = tt };
    answers_last = λ tx answer at f is d e. record {
      replies = one body _ _ refl tt;
      sends = (tt, tt);
      marks = tt;
    };
    answers_none = λ tx answer at f is other. record { replies = same body _ refl; sends = tt; marks = tt };
    commits = λ tx epoch at f is. record { replies = one body _ _ refl tt; sends = known tx; marks = (tt, tt) };
    acknowledges = λ tx epoch is none. record { replies = same body _ refl; sends = known tx; marks = tt };
    aborts = λ tx why at f is. record { replies = one body _ _ refl (tx, is); sends = tt; marks = (is, tt) };
    waits = λ tx ahead at f is. record { replies = same body _ refl; sends = tt; marks = tt };
    dumps = λ d rows next at is. record { replies = same body _ refl; sends = (tt, tt); marks = tt };
    dumped = λ d rows next is. record {
      replies = record {
        more = dump_replies d.node d.digest (gathered d.rows rows);
        is = refl;
        told = lines_told body d.node d.digest (gathered d.rows rows);
      };
      sends = tt;
      marks = tt;
    };
    rests = λ void stray. record { replies = same body _ refl; sends = tt; marks = tt };
  }
    where
      known : (tx : TxId) → Each (Tells body) (acknowledging s tx)
      known tx = each_mapped (Tells body) (telling (news.Committed tx)) (everyone s.view) (λ m. tt)

-- whatever the API takes
pub api_fine : (s : ApiState) (body : Body) → ApiFine s body (api_table s body)
api_fine s body = api_turns s (ApiFine s) body (at_request s) (at_signal s body)

pub replies_told : RepliesAreTold
replies_told s body = (api_fine s body).replies
