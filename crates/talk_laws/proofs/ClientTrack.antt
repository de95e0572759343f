-- The client's side asks for one operation of a transaction at a time: while one is unanswered there is one answer
-- fewer than it asked for, and none is missing where it has asked for the commit.
use Rattle.std.proofs.Common.{◌≡◌, ◌≤◌, ◌+◌, ◌∙◌, ◌++◌, ◌&&◌, ℕ, Bool, true, false, List, [], ◌∷◌, length, ap, arith}
use Rattle.std.proofs.Common.{refl, subst, sym}
use Rattle.std.specs.List.{count_by}
use Rattle.std.specs.Prelude.{if◌then◌else◌, not, remove, slice_set, Option, None, Some}
use Rattle.run_theory.specs.Lists.{Each}
use Rattle.run_theory.proofs.Focus.{IsFocus}
use Rattle.run_theory.proofs.Pasts.{each_after, each_append, each_before, each_map}
use Rattle.sig_core.specs.declared.member.TxId.{TxId}
use Rattle.sig_core.specs.declared.op.Answer.{Answer}
use Rattle.sig_core.specs.declared.op.Op.{Op}
use Rattle.sig_core.specs.declared.outs.Outgoing.{Outgoing}
use Rattle.sig_core.specs.declared.reply.ApiReply.{ApiReply}
use Rattle.sig_core.specs.declared.reply.ApiReply.TheVariants.{Answered, Ended}
use Rattle.sig_core.specs.declared.signal.Body.{Body}
use Rattle.sig_core.specs.declared.signal.Body.TheVariants.{Client}
use Rattle.sig_core.specs.declared.signal.client.ClientSignal.TheVariants.{TcBeginConf, TcCommitReq, TcKeyConf}
use Rattle.sig_core.specs.declared.signal.client.ClientSignal.TheVariants.{TcKeyReq}
use Rattle.sig_core.specs.Place.{coordinator_of}
use Rattle.sig_core.specs.Same.{same_tx}
use Rattle.sig_core.specs.Step.{to_place}
use Rattle.tc_block.specs.Complete.{one_if}
use Rattle.api_block.specs.declared.opened.Doing.{Doing}
use Rattle.api_block.specs.declared.opened.Doing.TheVariants as doing
use Rattle.api_block.specs.declared.opened.OpenTransaction.{OpenTransaction}
use Rattle.api_block.specs.Opened.{answered, asked_for, begins_at, begun as has_begun, begun_operating, behind}
use Rattle.api_block.specs.Opened.{committing, has_tx}
use Rattle.api_block.specs.Opened.{is_named, is_tx, operating}
use Rattle.api_block.proofs.Walk.{own_is}
use Rattle.host_laws.proofs.coordinator.Keys.{key_of_tx}
use Rattle.answer_laws.proofs.ApiSteps.{is_calm}
use Rattle.report_laws.specs.Answered.{answers_among, is_answered}
use Rattle.outcome_laws.specs.Counts.{count_sent, is_begin, is_committing, is_unwished, is_wish}
use Rattle.outcome_laws.proofs.coordinators.Lists.{count_between, count_more, none_counted, none_passes}
use Rattle.talk_laws.proofs.ClientTalks.{ArePlain, IsPlain, Talk, TalkForms}
use Rattle.talk_laws.proofs.ShellTalks.{HostForms}

abbrev pub is_operating : Doing → Bool
is_operating doing.Operating = true
is_operating other = false

-- how many answers a step tells
abbrev pub news_of : TxId → Body → List ApiReply → ℕ
news_of tx body replies = if is_answered tx body then length (answers_among replies) else 0

pub plain_key : (tx : TxId) (body : Body) → is_calm body ≡ true → key_of_tx tx body ≡ false
plain_key tx (Client (TcKeyReq other op)) plain = absurd cc
plain_key tx body plain = refl

plain_wish : (tx : TxId) (body : Body) → is_calm body ≡ true → is_wish tx body ≡ false
plain_wish tx (Client (TcCommitReq other)) plain = absurd cc
plain_wish tx body plain = refl

module _ (tx : TxId) where
  -- of a transaction that is open: all operations but the one that is unanswered are
  abbrev pub IsPaid : ℕ → ℕ → OpenTransaction → Type 0
  IsPaid asked told t = has_tx tx t ≡ true → asked ≤ told + one_if (is_operating t.doing)

  -- the client's side, with how many operations it asked for, answers it told, and commits it asked for, and how often
  -- it was told of the begin
  pub record ClientTalked (opened : List OpenTransaction) (asked told wished begun : ℕ) : Type 0 where
    pub paid : Each (IsPaid asked told) opened
    pub open_few : count_by (has_tx tx) opened ≤ begun
    pub wish_few : wished + count_by (is_unwished tx) opened ≤ begun
    pub unbegun : begun ≡ 0 → asked ≡ 0
    pub wished_paid : 1 ≤ wished → asked ≤ told

  module _ (opened : List OpenTransaction) (asked told wished begun : ℕ)
      (talked : ClientTalked opened asked told wished begun) (body : Body)
      (few : one_if (is_begin tx body) + begun ≤ 1)
    where
      pub record Pays (now : List OpenTransaction) (sends : List Outgoing) (replies : List ApiReply) : Type 0 where
        pub paid : Each (IsPaid (count_sent (key_of_tx tx) sends + asked) (news_of tx body replies + told)) now
        pub unbegun : one_if (is_begin tx body) + begun ≡ 0 → count_sent (key_of_tx tx) sends + asked ≡ 0
        pub wished_paid : 1 ≤ count_sent (is_wish tx) sends + wished
            → count_sent (key_of_tx tx) sends + asked ≤ news_of tx body replies + told

      no_keys : (sends : List Outgoing) → ArePlain sends → count_sent (key_of_tx tx) sends ≡ 0
      no_keys sends plain =
          none_counted (key_of_tx tx) sends
          (each_map IsPlain (λ (sent : Outgoing). key_of_tx tx sent.body ≡ false) sends
          (λ sent is. plain_key tx sent.body is) plain)

      no_wishes : (sends : List Outgoing) → ArePlain sends → count_sent (is_wish tx) sends ≡ 0
      no_wishes sends plain =
          none_counted (is_wish tx) sends
          (each_map IsPlain (λ (sent : Outgoing). is_wish tx sent.body ≡ false) sends
          (λ sent is. plain_wish tx sent.body is) plain)

      more_told : (sends : List Outgoing) (replies : List ApiReply) → count_sent (key_of_tx tx) sends ≡ 0
          → (t : OpenTransaction) → IsPaid asked told t
          → IsPaid (count_sent (key_of_tx tx) sends + asked) (news_of tx body replies + told) t
      more_told sends replies none t paid has = omega (arith, none, paid has)

      -- nothing is asked for
      calm : (now : List OpenTransaction) (sends : List Outgoing) (replies : List ApiReply)
          → count_sent (key_of_tx tx) sends ≡ 0 → count_sent (is_wish tx) sends ≡ 0 → Each (IsPaid asked told) now
          → Pays now sends replies
      calm now sends replies no_key no_wish all = record {
        paid =
            each_map (IsPaid asked told) (IsPaid (count_sent (key_of_tx tx) sends + asked)
            (news_of tx body replies + told))
            now (more_told sends replies no_key) all;
        unbegun = λ none. omega (arith, no_key, talked.unbegun (omega (arith, none)));
        wished_paid = λ some. omega (arith, no_key, talked.wished_paid (omega (arith, some, no_wish)));
      }

      plainly : (now : List OpenTransaction) (sends : List Outgoing) (replies : List ApiReply) → ArePlain sends
          → Each (IsPaid asked told) now → Pays now sends replies
      plainly now sends replies plain all = calm now sends replies (no_keys sends plain) (no_wishes sends plain) all

      module _ (p : OpenTransaction → Bool) (at : ℕ) (f : IsFocus p opened at) where
        item_is : (P : OpenTransaction → Type 0) → Each P opened → P f.item
        item_is P all = (each_after P f.front (f.item ∷ f.back) (subst (Each P) f.is all)).0

        front_is : (P : OpenTransaction → Type 0) → Each P opened → Each P f.front
        front_is P all = each_before P f.front (f.item ∷ f.back) (subst (Each P) f.is all)

        back_is : (P : OpenTransaction → Type 0) → Each P opened → Each P f.back
        back_is P all = (each_after P f.front (f.item ∷ f.back) (subst (Each P) f.is all)).1

        set_is : (P : OpenTransaction → Type 0) (u : OpenTransaction) → Each P f.front → P u → Each P f.back
            → Each P (slice_set opened at u)
        set_is P u front own back =
            subst (Each P) (sym (f.set u)) (each_append P f.front (u ∷ f.back) front (own, back))

        set_all : (P : OpenTransaction → Type 0) (u : OpenTransaction) → Each P opened → P u
            → Each P (slice_set opened at u)
        set_all P u all own = set_is P u (front_is P all) own (back_is P all)

        removed_is : (P : OpenTransaction → Type 0) → Each P opened → Each P (remove opened at)
        removed_is P all =
            subst (Each P) (sym f.removed) (each_append P f.front f.back (front_is P all) (back_is P all))

        counted : (q : OpenTransaction → Bool)
            → count_by q opened ≡ count_by q f.front + (one_if (q f.item) + count_by q f.back)
        counted q = ap (count_by q) f.is ∙ count_between q f.front f.item f.back

        vacuous : (q : OpenTransaction → Bool) (asked told : ℕ) (list : List OpenTransaction)
            → count_by (has_tx tx) list ≡ 0 → Each (IsPaid asked told) list
        vacuous q asked told list none =
            each_map (λ t. has_tx tx t ≡ false) (IsPaid asked told) list
            (λ t off has. absurd (let both : true ≡ false = sym has ∙ off in cc)) (none_passes (has_tx tx) list none)

        module _ (u : OpenTransaction) (one : TxId) (own : u.tx ≡ Some one) where
          has_is : has_tx tx u ≡ same_tx one tx
          has_is = ap (is_tx tx) own

          -- of another transaction nothing changes
          other : (sends : List Outgoing) (replies : List ApiReply) → same_tx one tx ≡ false
              → count_sent (key_of_tx tx) sends ≡ 0 → count_sent (is_wish tx) sends ≡ 0
              → Pays (slice_set opened at u) sends replies
          other sends replies off no_key no_wish =
              calm (slice_set opened at u) sends replies no_key no_wish
              (set_all (IsPaid asked told) u talked.paid
              (λ has. absurd (let both : true ≡ false = sym has ∙ (has_is ∙ off) in cc)))

          key_sent : (op : Op)
              → count_sent (key_of_tx tx) (to_place (coordinator_of one) (Client (TcKeyReq one op)) ∷ [])
              ≡ one_if (same_tx one tx)
          key_sent op =
              omega (
                arith,
                count_more (λ (sent : Outgoing). key_of_tx tx sent.body)
                    (to_place (coordinator_of one) (Client (TcKeyReq one op))) [],
              )

          wish_sent : count_sent (is_wish tx) (to_place (coordinator_of one) (Client (TcCommitReq one)) ∷ [])
              ≡ one_if (same_tx one tx)
          wish_sent =
              omega (
                arith,
                count_more (λ (sent : Outgoing). is_wish tx sent.body)
                    (to_place (coordinator_of one) (Client (TcCommitReq one))) [],
              )

          begins_is : (name : Option ℕ) → body ≡ Client (TcBeginConf name one)
              → is_begin tx body ≡ same_tx one tx
          begins_is name is = ap (is_begin tx) is

          begins_pays : {replies : List ApiReply} (name : Option ℕ) → body ≡ Client (TcBeginConf name one)
              → Pays (slice_set opened at u) [] replies
          begins_pays {replies} name is =
              plainly (slice_set opened at u) [] replies tt (set_all (IsPaid asked told) u talked.paid first)
            where
              first : IsPaid asked told u
              first has =
                  let begins : is_begin tx body ≡ true = begins_is name is ∙ (sym has_is ∙ has) in
                  let none = talked.unbegun (omega (arith, few, ap one_if begins)) in
                  omega (arith, none)

          begins_alone_pays : {replies : List ApiReply} (name : Option ℕ) (op : Op)
              → body ≡ Client (TcBeginConf name one) → u.doing ≡ doing.Operating
              → Pays (slice_set opened at u) (to_place (coordinator_of one) (Client (TcKeyReq one op)) ∷ []) replies
          begins_alone_pays {replies} name op is does = by (same_tx one tx) refl
            where
              sends : List Outgoing
              sends = to_place (coordinator_of one) (Client (TcKeyReq one op)) ∷ []

              by : (b : Bool) → same_tx one tx ≡ b → Pays (slice_set opened at u) sends replies
              by false off = other sends replies off (key_sent op ∙ ap one_if off) refl
              by true same =
                  let begins : one_if (is_begin tx body) ≡ 1 = ap one_if (begins_is name is ∙ same) in
                  let none : asked ≡ 0 = talked.unbegun (omega (arith, few, begins)) in
                  let sent : count_sent (key_of_tx tx) sends ≡ 1 = key_sent op ∙ ap one_if same in
                  let bare : count_by (has_tx tx) opened ≡ 0 = omega (arith, talked.open_few, few, begins) in
                  let all = counted (has_tx tx) in
                  let P : OpenTransaction → Type 0 =
                  IsPaid (count_sent (key_of_tx tx) sends + asked) (news_of tx body replies + told) in
                  record {
                    paid =
                        set_is P u (vacuous p _ _ f.front (omega (arith, bare, all)))
                        (λ has. omega (arith, none, sent, ap (λ d. one_if (is_operating d)) does))
                        (vacuous p _ _ f.back (omega (arith, bare, all)));
                    unbegun = λ zero_is. absurd (omega (arith, zero_is, begins));
                    wished_paid = λ some. absurd (omega (arith, some, talked.wish_few, few, begins));
                  }

          -- the transaction at this place has this number
          module _ (item_own : f.item.tx ≡ Some one) where
            item_has : same_tx one tx ≡ true → has_tx tx f.item ≡ true
            item_has same = ap (is_tx tx) item_own ∙ same

            item_paid : same_tx one tx ≡ true → asked ≤ told + one_if (is_operating f.item.doing)
            item_paid same = item_is (IsPaid asked told) talked.paid (item_has same)

            alone : same_tx one tx ≡ true → count_by (has_tx tx) f.front + count_by (has_tx tx) f.back ≡ 0
            alone same =
                omega (
                  arith,
                  counted (has_tx tx),
                  ap one_if (item_has same),
                  talked.open_few,
                  few,
                )

            operates_pays : {replies : List ApiReply} (op : Op) → f.item.doing ≡ doing.Ready
                → u.doing ≡ doing.Operating
                → Pays (slice_set opened at u) (to_place (coordinator_of one) (Client (TcKeyReq one op)) ∷ []) replies
            operates_pays {replies} op ready does = by (same_tx one tx) refl
              where
                sends : List Outgoing
                sends = to_place (coordinator_of one) (Client (TcKeyReq one op)) ∷ []

                by : (b : Bool) → same_tx one tx ≡ b → Pays (slice_set opened at u) sends replies
                by false off = other sends replies off (key_sent op ∙ ap one_if off) refl
                by true same =
                    let sent : count_sent (key_of_tx tx) sends ≡ 1 = key_sent op ∙ ap one_if same in
                    let P : OpenTransaction → Type 0 =
                    IsPaid (count_sent (key_of_tx tx) sends + asked) (news_of tx body replies + told) in
                    let has = ap one_if (item_has same) in
                    let unwished : one_if (is_unwished tx f.item) ≡ 1 =
                    ap (λ b. one_if (b && not (is_committing f.item.doing))) (item_has same)
                    ∙ ap (λ d. one_if (not (is_committing d))) ready in
                    record {
                      paid =
                          set_is P u (vacuous p _ _ f.front (omega (arith, alone same)))
                          (λ now.
                          omega (
                            arith,
                            sent,
                            item_paid same,
                            ap (λ d. one_if (is_operating d)) ready,
                            ap (λ d. one_if (is_operating d)) does,
                          ))
                          (vacuous p _ _ f.back (omega (arith, alone same)));
                      unbegun = λ zero_is.
                          absurd (omega (arith, zero_is, counted (has_tx tx), has, talked.open_few));
                      wished_paid = λ some.
                          absurd (omega (arith, some, talked.wish_few, few, counted (is_unwished tx), unwished));
                    }

            -- it wishes to commit, or has an answer
            settles : (sends : List Outgoing) (replies : List ApiReply) → count_sent (key_of_tx tx) sends ≡ 0
                → count_sent (is_wish tx) sends ≤ one_if (same_tx one tx)
                → (same_tx one tx ≡ true → asked ≤ news_of tx body replies + told)
                → Pays (slice_set opened at u) sends replies
            settles sends replies no_key wish enough = by (same_tx one tx) refl
              where
                by : (b : Bool) → same_tx one tx ≡ b → Pays (slice_set opened at u) sends replies
                by false off = other sends replies off no_key (omega (arith, wish, ap one_if off))
                by true same = record {
                  paid =
                      set_is (IsPaid (count_sent (key_of_tx tx) sends + asked) (news_of tx body replies + told)) u
                      (vacuous p _ _ f.front (omega (arith, alone same))) (λ now. omega (arith, no_key, enough same))
                      (vacuous p _ _ f.back (omega (arith, alone same)));
                  unbegun = λ none. omega (arith, no_key, talked.unbegun (omega (arith, none)));
                  wished_paid = λ some. omega (arith, no_key, enough same);
                }

            told_one : (name : Option ℕ) (answer : Answer) → body ≡ Client (TcKeyConf one answer)
                → same_tx one tx ≡ true → news_of tx body (Answered name answer ∷ []) ≡ 1
            told_one name answer is same =
                ap (λ (b : Bool). if b then length (answers_among (Answered name answer ∷ [])) else 0)
                (ap (is_answered tx) is ∙ same)

      abbrev pub PaysSo : Talk
      PaysSo now sends marks replies = Pays now sends replies

      pub pays_forms : TalkForms opened [] body PaysSo
      pays_forms = record {
        keeps = λ {replies = replies} sends plain mute. plainly opened sends replies plain talked.paid;
        opens = λ {replies = replies} name node sends new plain mute.
            plainly (opened ++ asked_for (Some name) node None ∷ []) sends replies plain
            (each_append (IsPaid asked told) opened (asked_for (Some name) node None ∷ []) talked.paid
            ((λ has. absurd cc), tt));
        opens_alone = λ {replies = replies} op node sends is plain mute.
            plainly (opened ++ asked_for None node (Some op) ∷ []) sends replies plain
            (each_append (IsPaid asked told) opened (asked_for None node (Some op) ∷ []) talked.paid
            ((λ has. absurd cc), tt));
        begins = λ {replies = replies} name one at f is mute.
            begins_pays (begins_at name one.tc) at f (has_begun f.item one) one refl {replies = replies} name is;
        begins_alone = λ {replies = replies} name one at f op is nameless does mute.
            begins_alone_pays (begins_at name one.tc) at f (begun_operating f.item one) one refl {replies = replies}
            name op is refl;
        waits = λ {replies = replies} p at f ahead sends plain mute.
            plainly (slice_set opened at (behind f.item ahead)) sends replies plain
            (set_all p at f (IsPaid asked told) (behind f.item ahead) talked.paid
            (item_is p at f (IsPaid asked told) talked.paid));
        operates = λ {replies = replies} name op at f one is ready own mute.
            operates_pays (is_named (Some name)) at f (operating f.item) one own own {replies = replies} op ready refl;
        answers = λ one answer at f name is does called.
            let own = own_is one f.item.tx f.passes in
            let u = answered f.item doing.Ready in
            settles (has_tx one) at f u one own own [] (Answered (Some name) answer ∷ []) refl (omega arith)
            (λ is_it.
            omega (
              arith,
              item_paid (has_tx one) at f u one own own is_it,
              ap (λ d. one_if (is_operating d)) does,
              told_one (has_tx one) at f u one own own (Some name) answer is is_it,
            ));
        answers_last = λ one answer at f is does nameless.
            let own = own_is one f.item.tx f.passes in
            let u = answered f.item doing.Committing in
            settles (has_tx one) at f u one own own _ (Answered None answer ∷ []) refl
            (omega (arith, wish_sent (has_tx one) at f u one own))
            (λ is_it.
            omega (
              arith,
              item_paid (has_tx one) at f u one own own is_it,
              ap (λ d. one_if (is_operating d)) does,
              told_one (has_tx one) at f u one own own None answer is is_it,
            ));
        wishes = λ {replies = replies} p at f one ready own mute.
            settles p at f (committing f.item) one own own _ replies refl
            (omega (arith, wish_sent p at f (committing f.item) one own))
            (λ is_it.
            omega (
              arith,
              item_paid p at f (committing f.item) one own own is_it,
              ap (λ d. one_if (is_operating d)) ready,
            ));
        drops = λ {replies = replies} p at f sends plain mute.
            plainly (remove opened at) sends replies plain (removed_is p at f (IsPaid asked told) talked.paid);
        ends = λ p at f one outcome sends own plain.
            plainly (remove opened at) sends (Ended f.item.name outcome ∷ []) plain
            (removed_is p at f (IsPaid asked told) talked.paid);
      }

      pub pays_beside : HostForms opened [] PaysSo
      pays_beside = record {
        stays = λ sends marks plain none. plainly opened sends [] plain talked.paid;
        installs = λ now sends marks replies view pays. pays;
      }
