-- An operation alone that is answered ends in its being committed.
use Rattle.std.proofs.Common.{◌≡◌, ◌≢◌, ◌⊎◌, ◌<◌, ◌≤◌, ◌+◌, ℕ, zero, suc, Bool, true, false, List, [], ◌∷◌, ◌++◌, refl}
use Rattle.std.proofs.Common.{sym, ap, ◌∙◌, subst, inl, inr, append_assoc, arith}
use Rattle.std.proofs.lemmas.Bool.{cases_eq, cases_lt}
use Rattle.std.proofs.lemmas.Bool.Decides.{nat_tests}
use Rattle.std.proofs.Math.Seq.{drop-append_seam}
use Rattle.std.specs.Prelude.{◌==◌, ◌&&◌, Option, None, Some, drop, is_some, length}
use Rattle.run_theory.proofs.Pasts.{each_before, each_in, each_map}
use Rattle.run_theory.specs.Cuts.{IsCut}
use Rattle.run_theory.specs.Links.{is_from}
use Rattle.run_theory.specs.Lists.{Each, IsIn, IsPast}
use Rattle.sig_core.proofs.Keys.{same_tx-self}
use Rattle.sig_core.specs.declared.member.TxId.{TxId}
use Rattle.sig_core.specs.declared.op.Op.{Op}
use Rattle.sig_core.specs.declared.place.Place.{Place}
use Rattle.sig_core.specs.declared.reply.ApiReply.TheVariants.{Answered}
use Rattle.sig_core.specs.declared.request.ApiReq.TheVariants.{Operate}
use Rattle.sig_core.specs.declared.signal.Body.{Body}
use Rattle.sig_core.specs.declared.signal.Body.TheVariants.{Client}
use Rattle.sig_core.specs.declared.signal.client.ClientSignal.TheVariants.{TcKeyReq, TcRollbackReq}
use Rattle.sig_core.specs.Same.{same_tx}
use Rattle.api_block.specs.declared.opened.Doing.TheVariants.{Committing}
use Rattle.node_core.proofs.HostLemmas.{IsFront}
use Rattle.node_core.specs.Blocks.{api_of, tc_of}
use Rattle.node_core.specs.Replies.{replies_of}
use Rattle.node_core.specs.Requests.{is_request}
use Rattle.tc_block.specs.declared.transaction.Transaction.{Transaction}
use Rattle.tc_block.specs.State.{TcState}
use Rattle.world_core.proofs.HostNumbers.{addressed_at}
use Rattle.world_core.proofs.Replies.{replies_grow}
use Rattle.world_core.specs.Hosts.{home, first_hosts}
use Rattle.world_core.specs.Machine.{after, machine, step_after}
use Rattle.world_core.specs.Start.{Start}
use Rattle.world_core.specs.Steps.{HostStep}
use Rattle.host_laws.proofs.api.Begins.{in_middle}
use Rattle.host_laws.proofs.hosts.LinkCounts.{all_three, steps, at_shell, steps_from}
use Rattle.host_laws.proofs.hosts.Sums.{first_few}
use Rattle.host_laws.proofs.rows.Operations.{right_of}
use Rattle.run_theory.proofs.Tally.{tally_append, tally_in}
use Rattle.host_laws.proofs.coordinator.Keys.{answer_of, is_asked, is_key, key_of_tx}
use Rattle.host_laws.proofs.coordinator.Lives.{is_keyed, is_start}
use Rattle.host_laws.proofs.api.Wishes.{is_api, is_tc, second_fails}
use Rattle.run_theory.specs.Counts.{tally}
use Rattle.host_laws.specs.OpenedAfter.{opened_after, opened_in}
use Rattle.answer_laws.proofs.Lives.{once_started}
use Rattle.answer_laws.specs.Answered.{EachIsAnswered, is_answered_by}
use Rattle.command_laws.proofs.ends.Committed.{cut_at_first, sent_append}
use Rattle.command_laws.proofs.hosts.Entries.{HasOne}
use Rattle.command_laws.proofs.hosts.EntryGoes.{HasEnded, commit_goes}
use Rattle.command_laws.proofs.ends.FirmHosts.{back_of, is_back}
use Rattle.command_laws.proofs.quiet.First.{IsFirst, first_step, request_first}
use Rattle.command_laws.proofs.quiet.Homes.{lives_begun}
use Rattle.host_laws.proofs.hosts.BlocksAlong.{replies_are}
use Rattle.command_laws.proofs.hosts.BlockSteps.{api_seen}
use Rattle.command_laws.proofs.lone.Asks.{HasLone, LoneFirst, asks_since, is_lone, lone_first, lone_since}
use Rattle.command_laws.proofs.hosts.Pushes.{is_node_kind, node_since}
use Rattle.command_laws.proofs.ends.Reported.{reported}
use Rattle.command_laws.proofs.quiet.Since.{few_taken, front_nil, none_taken, sent_since, taken_since, taken_is}
use Rattle.command_laws.proofs.operations.TellsOnce.{IsOneOfThree, is_wish_back_to, wish_back_of}
use Rattle.command_laws.proofs.operations.TellsSince.{away_since, shell_since, since_none, tells_since}
use Rattle.command_laws.proofs.hosts.Tests.{none_at}
use Rattle.command_laws.proofs.operations.TurnTells.{is_reply}
use Rattle.command_laws.specs.Served.{IsAnsweredAlone, IsCommittedAlone, IsServedBetween, LoneAreCommitted}

request_plain_key : (tx : TxId) (to : Place) (body : Body) → is_key tx to body ≡ true → is_request body ≡ false
request_plain_key tx to body is = plain body (right_of (is_tc to.block) (key_of_tx tx body) is)
  where
    plain : (b : Body) → key_of_tx tx b ≡ true → is_request b ≡ false
    plain (Client (TcKeyReq other op)) e = refl
    plain _ e = cc

no_key_node : (tx : TxId) (to : Place) (body : Body) → is_node_kind body ≡ true → is_key tx to body ≡ false
no_key_node tx to body e = second_fails (is_tc to.block) (plain body e)
  where
    plain : (b : Body) → is_node_kind b ≡ true → key_of_tx tx b ≡ false
    plain (Client (TcKeyReq one op)) k = cc
    plain _ k = refl

no_wish_node : (tx : TxId) (to : Place) (body : Body) → is_node_kind body ≡ true → is_wish_back_to tx to body ≡ false
no_wish_node tx to body e = second_fails (is_tc to.block) (plain body e)
  where
    plain : (b : Body) → is_node_kind b ≡ true → wish_back_of tx b ≡ false
    plain (Client (TcRollbackReq one)) k = cc
    plain _ k = refl

request_plain_wish : (tx : TxId) (to : Place) (body : Body) → is_request body ≡ true
    → is_wish_back_to tx to body ≡ false
request_plain_wish tx to body is = second_fails (is_tc to.block) (plain body is)
  where
    plain : (b : Body) → is_request b ≡ true → wish_back_of tx b ≡ false
    plain (Client (TcRollbackReq one)) r = cc
    plain _ r = refl

fewer_asked : (tx : TxId) (live : List (TxId × Transaction)) → tally (is_asked tx) live ≤ tally (is_keyed tx) live
fewer_asked tx [] = omega arith
fewer_asked tx (e ∷ live) = omega (arith, fewer_asked tx live, first_few (same_tx e.0 tx) (is_some e.1.asked))

module _ (start : Start) (was now : ℕ → List HostStep) (op : Op)
    (served : IsServedBetween start was now (Operate None op)) where
  f : IsFirst start was now (Operate None op)
  f = request_first start was now (Operate None op) served

  abbrev cut : IsCut was now
  cut = cut_at_first was now f.later f.first f.is served.cut

  module _ (tx : TxId) where
    first : LoneFirst tx (api_of (after start 0 (was 0))) (api_seen (step_after start 0 (was 0) f.first))
    first = subst (LoneFirst tx (api_of (after start 0 (was 0)))) (sym (first_step start was now (Operate None op) f))
        (lone_first tx (api_of (after start 0 (was 0))) op)

    first_lone : tally is_lone (replies_of (after start 0 (f.first ∷ was 0))) ≡ tally is_lone
        (replies_of (after start 0 (was 0)))
    first_lone = ap (tally is_lone) (replies_are (after start 0 (f.first ∷ was 0))) ∙ first.lone
        ∙ ap (tally is_lone) (sym (replies_are (after start 0 (was 0))))

    -- nobody wishes for its abort
    no_wishes : (h : ℕ) → sent_since start (is_wish_back_to tx) h (cut h).newer (was h) ≡ 0
    no_wishes zero =
        omega (
          arith,
          sent_append start (is_wish_back_to tx) 0 f.later (f.first ∷ []) (was 0),
          (asks_since tx start f.later (f.first ∷ was 0) f.plain).0,
          first.wishes,
        )
    no_wishes (suc h) = node_since start (is_wish_back_to tx) (no_wish_node tx) h (cut (suc h)).newer (was (suc h))

    none_wished : (h : ℕ)
        → Each (λ (e : HostStep). is_wish_back_to tx e.step.taken.to e.step.taken.body ≡ false) (cut h).newer
    none_wished h =
        each_map (λ (e : HostStep). is_request e.step.taken.body ≡ false → is_wish_back_to tx e.step.taken.to
        e.step.taken.body ≡ false) (λ (e : HostStep). is_wish_back_to tx e.step.taken.to e.step.taken.body ≡ false)
        (cut h).newer
        (none_at (is_wish_back_to tx) (request_plain_wish tx))
        (none_taken start was now served.before served.since cut (is_wish_back_to tx) (λ i low. no_wishes i) h)

    -- an operation is asked for at most once since it has begun
    few_keys : (h : ℕ) → steps (is_key tx) (cut (suc h)).newer ≤ steps (is_start tx) f.later
    few_keys h =
        omega (
          arith,
          steps_from start (is_key tx) 0 (request_plain_key tx) (cut (suc h)).newer
              (λ k differs. omega (arith, taken_is start (is_key tx) k (cut (suc h)).newer, other k differs)),
          taken_is start (is_key tx) 0 (cut (suc h)).newer,
          few_taken start was now served.before served.since cut (is_key tx) 0 (suc h),
          sent_append start (is_key tx) 0 f.later (f.first ∷ []) (was 0),
          (asks_since tx start f.later (f.first ∷ was 0) f.plain).1,
          first.keys,
        )
      where
        other : (k : ℕ) → k ≢ 0 → taken_since start (is_key tx) k (cut (suc h)).newer ≡ 0
        other zero differs = absurd (differs refl)
        other (suc k) differs =
            omega (
              arith,
              few_taken start was now served.before served.since cut (is_key tx) (suc k) (suc h),
              node_since
                  start (is_key tx) (no_key_node tx) k (cut (suc k)).newer (was (suc k)),
            )

    starts_apart : steps (is_start tx) f.later + steps (is_start tx) (was 0) ≤ 1
    starts_apart =
        omega (
          arith,
          once_started start tx now served.since,
          ap (steps (is_start tx)) f.is,
          tally_append (λ (e : HostStep). is_start tx e.step.taken.to e.step.taken.body) f.later (f.first ∷ was 0),
        )

    module _ (h : ℕ) (low : suc h < first_hosts start) where
      abbrev s : TcState
      s = tc_of (after start (suc h) (was (suc h)))

      asked : ℕ
      asked = tally (is_asked tx) (tc_of (after start (suc h) (was (suc h)))).live

      few_asked : asked ≤ steps (is_start tx) (was 0)
      unfolding asked
      few_asked = omega (arith, fewer_asked tx s.live, lives_begun start was served.before tx (suc h))

      told : (sent_since start (is_reply tx) (suc h) (cut (suc h)).newer (was (suc h)) ≡ 0)
          ⊎ (sent_since start (is_back tx) (suc h) (cut (suc h)).newer (was (suc h)) ≡ 0)
      unfolding asked
      told = three (tc_of (after start (suc h) ((cut (suc h)).newer ++ was (suc h))))
          (tells_since start tx (suc h) (cut (suc h)).newer (was (suc h)) asked (none_wished (suc h))
          (omega (arith, few_asked, few_keys h, starts_apart))
          (record { fair = omega arith; three = inl (refl, refl) })).three
        where
          three : (now_it : TcState)
              → IsOneOfThree tx (sent_since start (is_reply tx) (suc h) (cut (suc h)).newer (was (suc h)))
              (sent_since start (is_back tx) (suc h) (cut (suc h)).newer (was (suc h))) now_it
              → (sent_since start (is_reply tx) (suc h) (cut (suc h)).newer (was (suc h)) ≡ 0)
              ⊎ (sent_since start (is_back tx) (suc h) (cut (suc h)).newer (was (suc h)) ≡ 0)
          three now_it (inl none) = inl none.0
          three now_it (inr (inl firm)) = inr firm.0.1
          three now_it (inr (inr gone)) = inl gone.0

  no_tx : TxId
  no_tx = record { tc = 0; start = 0; seq = 0 }

  -- an answer of an operation alone was replied in a step since then
  answered_step : IsAnsweredAlone start was now → HasLone start f.later (f.first ∷ was 0)
  answered_step answered = by (lone_since start f.later (f.first ∷ was 0) f.plain)
    where
      grown : IsFront (replies_of (after start 0 (was 0))) (replies_of (after start 0 (now 0)))
      grown = replies_grow start (was 0) (now 0) (served.cut 0)

      since_is : drop (length (replies_of (after start 0 (was 0)))) (replies_of (after start 0 (now 0))) ≡ grown.more
      since_is = ap (drop (length (replies_of (after start 0 (was 0))))) grown.is
          ∙ drop-append_seam (replies_of (after start 0 (was 0))) grown.more

      some : 1 ≤ tally is_lone grown.more
      some = tally_in is_lone (Answered None answered.answer) grown.more
          (subst (IsIn (Answered None answered.answer)) since_is answered.told) refl

      by : HasLone start f.later (f.first ∷ was 0)
          ⊎ (tally is_lone (replies_of (after start 0 (f.later ++ f.first ∷ was 0))) ≡ tally is_lone
          (replies_of (after start 0 (f.first ∷ was 0)))) → HasLone start f.later (f.first ∷ was 0)
      by (inl l) = l
      by (inr same) =
          absurd (omega (
            arith,
            some,
            ap (tally is_lone) grown.is,
            tally_append is_lone (replies_of (after start 0 (was 0))) grown.more,
            ap (λ log. tally is_lone (replies_of (after start 0 log))) f.is,
            same,
            first_lone no_tx,
          ))

  module _ (answered : EachIsAnswered) (l : HasLone start f.later (f.first ∷ was 0)) where
    now_is : now 0 ≡ l.newer ++ l.step ∷ (l.older ++ f.first ∷ was 0)
    now_is = f.is ∙ ap (λ w. w ++ f.first ∷ was 0) l.is ∙ append_assoc l.newer (l.step ∷ l.older) (f.first ∷ was 0)

    in_later : IsIn l.step f.later
    in_later = subst (IsIn l.step) (sym l.is) (in_middle l.newer l.step l.older)

    in_newer : IsIn l.step (f.later ++ f.first ∷ [])
    in_newer =
        subst (λ w. IsIn l.step (w ++ f.first ∷ [])) (sym l.is)
        (subst (IsIn l.step) (sym (append_assoc l.newer (l.step ∷ l.older) (f.first ∷ [])))
        (in_middle l.newer l.step (l.older ++ f.first ∷ [])))

    in_now : IsIn l.step (now 0)
    in_now = subst (IsIn l.step) (sym now_is) (in_middle l.newer l.step (l.older ++ f.first ∷ was 0))

    is_answer_here : is_reply l.tx l.step.step.taken.to l.step.step.taken.body ≡ true
    is_answer_here =
        all (l.step.step.taken.to.node == 0) (is_api l.step.step.taken.to.block) (answer_of l.tx l.step.step.taken.body)
        (sym (at_shell start l.step.step.taken.to)
        ∙ grind (arith, nat_tests, addressed_at start now served.since.right 0 l.step in_now)) l.block
        (ap (answer_of l.tx) l.lone.about ∙ same_tx-self l.tx)
      where
        all : (a b c : Bool) → a ≡ true → b ≡ true → c ≡ true → (a && (b && c)) ≡ true
        all true true c p q r = r
        all true false c p q r = cc
        all false b c p q r = cc

    plain_step : is_request l.step.step.taken.body ≡ false
    plain_step = each_in (λ (e : HostStep). is_request e.step.taken.body ≡ false) l.step f.later f.plain in_later

    shell_tells : (newer log : List HostStep) → (sent_since start (is_reply l.tx) 0 newer log ≡ 0)
        × (sent_since start (is_back l.tx) 0 newer log ≡ 0)
    shell_tells newer log = since_none start l.tx 0 newer log (shell_since start l.tx newer log)

    was_sent : (i : ℕ) → l.step.step.taken.from.0 ≡ i → 1 ≤ sent_since start (is_reply l.tx) i (cut i).newer (was i)
    was_sent i at =
        let here = all_three (is_request l.step.step.taken.body) (l.step.step.taken.from.0 == i)
        (is_reply l.tx l.step.step.taken.to l.step.step.taken.body) plain_step (grind (arith, nat_tests, at))
        is_answer_here in
        let taken = tally_in (λ (e : HostStep). is_from (machine start) i e && is_reply l.tx e.step.taken.to
        e.step.taken.body) l.step (f.later ++ f.first ∷ []) in_newer here in
        omega (arith, taken, few_taken start was now served.before served.since cut (is_reply l.tx) i 0)

    -- its coordinator answered it, and so no host reports its abort
    no_backs_at : (k : ℕ) → l.step.step.taken.from.0 ≡ k → (h : ℕ) → h < first_hosts start
        → sent_since start (is_back l.tx) h (cut h).newer (was h) ≡ 0
    no_backs_at k at zero low = (shell_tells (cut 0).newer (was 0)).1
    no_backs_at zero at (suc h) low = absurd (omega (arith, was_sent zero at, (shell_tells (cut 0).newer (was 0)).0))
    no_backs_at (suc k) at (suc h) low = home_is (cases_eq (home start l.tx) (suc k))
        (cases_eq (home start l.tx) (suc h)) (cases_lt (suc k) (first_hosts start))
      where
        some : 1 ≤ sent_since start (is_reply l.tx) (suc k) (cut (suc k)).newer (was (suc k))
        some = was_sent (suc k) at

        away : (j : ℕ) → j < first_hosts start → home start l.tx ≢ j
            → (sent_since start (is_reply l.tx) j (cut j).newer (was j) ≡ 0)
            × (sent_since start (is_back l.tx) j (cut j).newer (was j) ≡ 0)
        away j there differs =
            since_none start l.tx j (cut j).newer (was j) (away_since start l.tx j there differs (cut j).newer (was j))

        here : suc k ≡ suc h → sent_since start (is_back l.tx) (suc h) (cut (suc h)).newer (was (suc h)) ≡ 0
        here same = by (told l.tx h low)
          where
            by : (sent_since start (is_reply l.tx) (suc h) (cut (suc h)).newer (was (suc h)) ≡ 0)
                ⊎ (sent_since start (is_back l.tx) (suc h) (cut (suc h)).newer (was (suc h)) ≡ 0)
                → sent_since start (is_back l.tx) (suc h) (cut (suc h)).newer (was (suc h)) ≡ 0
            by (inl none) =
                absurd (omega (
                  arith,
                  none,
                  subst (λ j. 1 ≤ sent_since start (is_reply l.tx) j (cut j).newer (was j)) same some,
                ))
            by (inr none) = none

        home_is : (home start l.tx ≡ suc k) ⊎ (home start l.tx ≢ suc k) → (home start l.tx ≡ suc h)
            ⊎ (home start l.tx ≢ suc h) → (suc k < first_hosts start) ⊎ (first_hosts start ≤ suc k)
            → sent_since start (is_back l.tx) (suc h) (cut (suc h)).newer (was (suc h)) ≡ 0
        home_is one other (inr high) =
            let none : (cut (suc k)).newer
            ≡ [] = front_nil (cut (suc k)).newer (was (suc k))
            (sym (served.since.within (suc k) high) ∙ (cut (suc k)).is) in
            absurd (omega (arith, some, ap (λ w. sent_since start (is_reply l.tx) (suc k) w (was (suc k))) none))
        home_is (inr differs) other (inl there) = absurd (omega (arith, (away (suc k) there differs).0, some))
        home_is (inl own) (inr differs) (inl there) = (away (suc h) low differs).1
        home_is (inl own) (inl same) (inl there) = here (sym own ∙ same)

    none_back : Each (λ (e : HostStep). is_request e.step.taken.body ≡ false → back_of l.tx e.step.taken.body ≡ false)
        (f.later ++ f.first ∷ [])
    none_back = none_taken start was now served.before served.since cut (is_back l.tx)
        (no_backs_at l.step.step.taken.from.0 refl) 0

    later_is : f.later ++ f.first ∷ [] ≡ l.newer ++ (l.step ∷ l.older ++ f.first ∷ [])
    later_is = ap (λ w. w ++ f.first ∷ []) l.is ∙ append_assoc l.newer (l.step ∷ l.older) (f.first ∷ [])

    still_committing : HasOne l.tx None Committing (opened_after start now) → ⊥
    still_committing has =
        subst (λ d. is_answered_by start now d has.item.tx → ⊥) (sym has.does) (λ none. by has.item.tx none)
        (answered start now has.item served.since has.inside)
      where
        by : (o : Option TxId) → is_answered_by start now Committing o → ⊥
        by (Some one) none = none
        by None none = none

    plain_newer : Each (λ (e : HostStep). is_request e.step.taken.body ≡ false) l.newer
    plain_newer = each_before (λ (e : HostStep). is_request e.step.taken.body ≡ false) l.newer (l.step ∷ l.older)
        (subst (Each (λ (e : HostStep). is_request e.step.taken.body ≡ false)) l.is f.plain)

    none_newer : Each (λ (e : HostStep). is_request e.step.taken.body ≡ false → back_of l.tx e.step.taken.body ≡ false)
        l.newer
    none_newer =
        each_before (λ (e : HostStep). is_request e.step.taken.body ≡ false → back_of l.tx e.step.taken.body ≡ false)
        l.newer (l.step ∷ l.older ++ f.first ∷ [])
        (subst (Each (λ (e : HostStep). is_request e.step.taken.body ≡ false → back_of l.tx e.step.taken.body ≡ false))
        later_is none_back)

    lone_told : IsCommittedAlone start was now
    lone_told = by (commit_goes l.tx None start l.newer (l.step ∷ (l.older ++ f.first ∷ was 0)) plain_newer l.lone.has)
      where
        past : IsPast (was 0) (l.step ∷ (l.older ++ f.first ∷ was 0))
        past = record {
          newer = l.step ∷ l.older ++ f.first ∷ [];
          is = ap (λ w. l.step ∷ w)
              (sym (append_assoc l.older (f.first ∷ []) (was 0)));
        }

        by : HasOne l.tx None Committing (opened_in (after start 0 (l.newer ++ l.step ∷ (l.older ++ f.first ∷ was 0))))
            ⊎ HasEnded l.tx None start l.newer (l.step ∷ (l.older ++ f.first ∷ was 0)) → IsCommittedAlone start was now
        by (inl has) = absurd (still_committing (subst (λ log. HasOne l.tx None Committing
            (opened_in (after start 0 log))) (sym now_is) has))
        by (inr ended) =
            let r = reported start was now served.since l.tx None l.newer (l.step ∷ (l.older ++ f.first ∷ was 0)) now_is
            past plain_newer none_newer ended in
            record { tx = l.tx; epoch = r.epoch; told = r.told; marked = r.marked }

-- so it is where each command is answered
pub lone_committed : EachIsAnswered → LoneAreCommitted
lone_committed each start was now op served answered =
    lone_told start was now op served each (answered_step start was now op served answered)
