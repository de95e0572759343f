-- No more answers are told of a transaction than operations of it were asked for: each answer ends an operation that is
-- under way, and none is under way that wasn't asked for.
use Rattle.std.proofs.Common.{◌≡◌, ◌≤◌, ◌+◌, ◌&&◌, ◌++◌, ℕ, Bool, true, false, List, [], ◌∷◌, length, ap, arith, refl}
use Rattle.std.proofs.Common.{◌∙◌}
use Rattle.std.specs.List.{count_by}
use Rattle.std.specs.Prelude.{if◌then◌else◌, Option, None, Some, remove, slice_set}
use Rattle.run_theory.proofs.Focus.{IsFocus}
use Rattle.sig_core.specs.declared.member.TxId.{TxId}
use Rattle.sig_core.specs.declared.op.Answer.{Answer}
use Rattle.sig_core.specs.declared.op.Op.{Op}
use Rattle.sig_core.specs.declared.outs.Outgoing.{Outgoing}
use Rattle.sig_core.specs.declared.reply.ApiReply.{ApiReply}
use Rattle.sig_core.specs.declared.reply.ApiReply.TheVariants.{Answered, Ended}
use Rattle.sig_core.specs.declared.signal.Body.{Body}
use Rattle.sig_core.specs.declared.signal.Body.TheVariants.{Client}
use Rattle.sig_core.specs.declared.signal.client.ClientSignal.TheVariants.{TcCommitReq, TcKeyConf, TcKeyReq}
use Rattle.sig_core.specs.Place.{coordinator_of}
use Rattle.sig_core.specs.Same.{same_tx}
use Rattle.sig_core.specs.Step.{to_place}
use Rattle.tc_block.specs.Complete.{one_if}
use Rattle.api_block.specs.declared.opened.Doing.TheVariants as doing
use Rattle.api_block.specs.declared.opened.OpenTransaction.{OpenTransaction}
use Rattle.api_block.specs.Opened.{answered, asked_for, begins_at, begun, begun_operating, behind, committing, has_tx}
use Rattle.api_block.specs.Opened.{is_named, is_tx, operating}
use Rattle.api_block.proofs.Walk.{own_is}
use Rattle.outcome_laws.specs.Counts.{count_sent}
use Rattle.outcome_laws.proofs.coordinators.Lists.{count_between, count_both, count_more}
use Rattle.report_laws.specs.Answered.{answers_among, is_answered}
use Rattle.world_core.specs.Start.{NobodyStarts, Start}
use Rattle.world_core.specs.Steps.{HostStep}
use Rattle.world_views.specs.Machine.{replies_at, step_after}
use Rattle.host_laws.proofs.coordinator.Keys.{key_of_tx}
use Rattle.talk_laws.specs.Reports.{opened_after}
use Rattle.talk_laws.specs.Talks.{asked_of, told_of}
use Rattle.talk_laws.proofs.ClientLogs.{asked_count, news_count}
use Rattle.talk_laws.proofs.ClientTalks.{IsMuteBehind, Talk, TalkForms}
use Rattle.talk_laws.proofs.ClientTrack.{is_operating, news_of}
use Rattle.talk_laws.proofs.ReportsTold.{mute_answers}
use Rattle.talk_laws.proofs.ShellLogs.{opened_first, step_talks}
use Rattle.talk_laws.proofs.ShellTalks.{HostForms}

module _ (tx : TxId) where
  -- an operation of the transaction is under way
  abbrev is_working : OpenTransaction → Bool
  is_working t = has_tx tx t && is_operating t.doing

  -- those that are, and the answers that were told, are no more than were asked for
  abbrev AreCovered : List OpenTransaction → ℕ → ℕ → Type 0
  AreCovered opened asked told = told + count_by is_working opened ≤ asked

  idle : (t : OpenTransaction) → is_operating t.doing ≡ false → one_if (is_working t) ≡ 0
  idle t off = by (has_tx tx t) (is_operating t.doing) off
    where
      by : (a b : Bool) → b ≡ false → one_if (a && b) ≡ 0
      by true b none = ap one_if none
      by false b none = refl

  working : (t : OpenTransaction) (one : TxId) → t.tx ≡ Some one → t.doing ≡ doing.Operating
      → one_if (is_working t) ≡ one_if (same_tx one tx)
  working t one own does =
      ap (λ d. one_if (has_tx tx t && is_operating d)) does
      ∙ ap (λ number. one_if (is_tx tx number && true)) own ∙ by (same_tx one tx)
    where
      by : (b : Bool) → one_if (b && true) ≡ one_if b
      by true = refl
      by false = refl

  module _ (opened : List OpenTransaction) (body : Body) (asked told : ℕ) (covered : AreCovered opened asked told) where
    abbrev Covers : Talk
    Covers now sends marks replies =
        AreCovered now (count_sent (key_of_tx tx) sends + asked) (news_of tx body replies + told)

    mute_news : (replies : List ApiReply) → IsMuteBehind [] replies → news_of tx body replies ≡ 0
    mute_news replies behind = by (is_answered tx body)
      where
        by : (b : Bool) → (if b then length (answers_among replies) else 0) ≡ 0
        by true =
            ap (λ list. length (answers_among list)) behind.is
            ∙ ap (λ (list : List Answer). length list) (mute_answers behind.more behind.mute)
        by false = refl

    -- one that is opened isn't under way
    more : (t : OpenTransaction) → is_operating t.doing ≡ false
        → count_by is_working (opened ++ t ∷ []) ≤ count_by is_working opened
    more t off = omega (arith, count_both is_working opened (t ∷ []), count_more is_working t [], idle t off)

    module _ (p : OpenTransaction → Bool) (at : ℕ) (f : IsFocus p opened at) where
      was : count_by is_working opened
          ≡ count_by is_working f.front + (one_if (is_working f.item) + count_by is_working f.back)
      was = ap (count_by is_working) f.is ∙ count_between is_working f.front f.item f.back

      set_is : (u : OpenTransaction)
          → count_by is_working (slice_set opened at u)
          ≡ count_by is_working f.front + (one_if (is_working u) + count_by is_working f.back)
      set_is u = ap (count_by is_working) (f.set u) ∙ count_between is_working f.front u f.back

      resting : (u : OpenTransaction) → one_if (is_working u) ≤ one_if (is_working f.item)
          → count_by is_working (slice_set opened at u) ≤ count_by is_working opened
      resting u fewer = omega (arith, was, set_is u, fewer)

      gone : count_by is_working (remove opened at) ≤ count_by is_working opened
      gone =
          omega (
            arith,
            was,
            ap (count_by is_working) f.removed,
            count_both is_working f.front f.back,
          )

      -- one operation is asked for
      asks : (u : OpenTransaction) (one : TxId) (op : Op) (replies : List ApiReply) → u.tx ≡ Some one
          → u.doing ≡ doing.Operating → IsMuteBehind [] replies
          → Covers (slice_set opened at u) (to_place (coordinator_of one) (Client (TcKeyReq one op)) ∷ []) [] replies
      asks u one op replies own does mute =
          omega (
            arith,
            covered,
            was,
            set_is u,
            working u one own does,
            mute_news replies mute,
            count_more (λ (sent : Outgoing). key_of_tx tx sent.body)
                (to_place (coordinator_of one) (Client (TcKeyReq one op))) [],
          )

      -- and answered
      answers : (u : OpenTransaction) (one : TxId) (name : Option ℕ) (answer : Answer) (sends : List Outgoing)
          → f.item.tx ≡ Some one → f.item.doing ≡ doing.Operating → is_operating u.doing ≡ false
          → body ≡ Client (TcKeyConf one answer)
          → Covers (slice_set opened at u) sends [] (Answered name answer ∷ [])
      answers u one name answer sends own does off is =
          omega (arith, covered, was, set_is u, idle u off, working f.item one own does, news)
        where
          by : (b : Bool) → (if b then 1 else 0) ≡ one_if b
          by true = refl
          by false = refl

          news : news_of tx body (Answered name answer ∷ []) ≡ one_if (same_tx one tx)
          news = ap (λ (b : Bool). if b then 1 else 0) (ap (is_answered tx) is) ∙ by (same_tx one tx)

    forms : TalkForms opened [] body Covers
    forms = record {
      keeps = λ {replies = replies} sends plain mute. omega (arith, covered, mute_news replies mute);
      opens = λ {replies = replies} name node sends new plain mute.
          omega (arith, covered, more (asked_for (Some name) node None) refl, mute_news replies mute);
      opens_alone = λ {replies = replies} op node sends is plain mute.
          omega (arith, covered, more (asked_for None node (Some op)) refl, mute_news replies mute);
      begins = λ {replies = replies} name one at f is mute.
          let u = begun f.item one in
          omega (arith, covered, resting _ at f u (omega (arith, idle u refl)), mute_news replies mute);
      begins_alone = λ name one at f op is nameless does mute.
          asks (begins_at name one.tc) at f (begun_operating f.item one) one op _ refl refl mute;
      waits = λ {replies = replies} p at f ahead sends plain mute.
          omega (arith, covered, resting p at f (behind f.item ahead) (omega arith), mute_news replies mute);
      operates = λ name op at f one is ready own mute.
          asks (is_named (Some name)) at f (operating f.item) one op _ own refl mute;
      answers = λ one answer at f name is does called.
          answers (has_tx one) at f (answered f.item doing.Ready) one (Some name) answer []
          (own_is one f.item.tx f.passes) does refl is;
      answers_last = λ one answer at f is does nameless.
          answers (has_tx one) at f (answered f.item doing.Committing) one None answer
          (to_place (coordinator_of one) (Client (TcCommitReq one)) ∷ []) (own_is one f.item.tx f.passes) does refl is;
      wishes = λ {replies = replies} p at f one ready own mute.
          let u = committing f.item in
          omega (arith, covered, resting p at f u (omega (arith, idle u refl)), mute_news replies mute);
      drops = λ {replies = replies} p at f sends plain mute.
          omega (arith, covered, gone p at f, mute_news replies mute);
      ends = λ p at f one outcome sends own plain.
          omega (arith, covered, gone p at f, none (is_answered tx body) (Ended f.item.name outcome ∷ []) refl);
    }
      where
        none : (b : Bool) (replies : List ApiReply) → answers_among replies ≡ []
            → (if b then length (answers_among replies) else 0) ≡ 0
        none true replies is = ap (λ (list : List Answer). length list) is
        none false replies is = refl

    beside : HostForms opened [] Covers
    beside = record {
      stays = λ sends marks plain none.
          omega (arith, covered, mute_news [] (record { more = []; is = refl; mute = tt }));
      installs = λ now sends marks replies view covers. covers;
    }

  module _ (start : Start) (nobody : NobodyStarts start) where
    covers : (log : List HostStep)
        → AreCovered (opened_after start log) (length (asked_of start tx log)) (length (told_of start tx log))
    covers [] = omega (arith, ap (count_by is_working) (opened_first start))
    covers (e ∷ log) =
        let t = step_after start 0 log e in
        omega (
          arith,
          step_talks start nobody e log
              (Covers (opened_after start log) e.step.taken.body (length (asked_of start tx log))
              (length (told_of start tx log)) (covers log))
              (forms (opened_after start log) e.step.taken.body _ _ (covers log))
              (beside (opened_after start log) e.step.taken.body _ _ (covers log)),
          asked_count tx t.effects.sends (asked_of start tx log),
          news_count tx (is_answered tx e.step.taken.body) (replies_at 0 t) (told_of start tx log),
        )

    pub told_few : (log : List HostStep) → length (told_of start tx log) ≤ length (asked_of start tx log)
    told_few log = omega (arith, covers log)
