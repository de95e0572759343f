-- Along the log of the shell's host: how many operations of a transaction it asked for and how many answers it told.
use Rattle.std.proofs.Common.{◌≡◌, ◌≤◌, ◌+◌, ◌∙◌, ◌++◌, ◌⊎◌, Bool, true, false, List, [], ◌∷◌, length, reverse, ap}
use Rattle.std.proofs.Common.{arith, inl, inr, refl, subst, sym}
use Rattle.std.proofs.lemmas.List.{length-append, length-reverse}
use Rattle.std.specs.List.{cons_option, count_by}
use Rattle.std.specs.Prelude.{if◌then◌else◌, Option, None, Some}
use Rattle.run_theory.proofs.Pasts.{each_map}
use Rattle.sig_core.specs.declared.member.TxId.{TxId}
use Rattle.sig_core.specs.declared.op.Answer.{Answer}
use Rattle.sig_core.specs.declared.op.Op.{Op}
use Rattle.sig_core.specs.declared.outs.Outgoing.{Outgoing}
use Rattle.sig_core.specs.declared.reply.ApiReply.{ApiReply}
use Rattle.sig_core.specs.declared.signal.Body.{Body}
use Rattle.sig_core.specs.declared.signal.Body.TheVariants.{Client}
use Rattle.sig_core.specs.declared.signal.client.ClientSignal.TheVariants.{TcCommitReq, TcKeyConf, TcKeyReq}
use Rattle.sig_core.specs.Same.{same_tx}
use Rattle.sig_core.specs.Step.{Step}
use Rattle.tc_block.specs.Complete.{one_if}
use Rattle.api_block.specs.Opened.{has_tx}
use Rattle.api_views.specs.Client.{client_row}
use Rattle.node_views.specs.declared.host_body.HostBody.{HostBody}
use Rattle.node_views.specs.declared.parts.Parts.{Parts}
use Rattle.node_views.specs.declared.parts.Parts.TheVariants as part
use Rattle.outcome_laws.specs.Counts.{count_open, count_sent, count_unwished, is_begin, is_report, is_unwished, is_wish}
use Rattle.outcome_laws.specs.Once.{takes_in}
use Rattle.outcome_laws.proofs.client.ReportsAndWishes.{noted_unwished, wishes_few}
use Rattle.outcome_laws.proofs.once.DecidesAndReports.{IsOfClient, IsShell, client_light, in_client, of_client}
use Rattle.outcome_laws.proofs.once.DecidesAndReports.{reports_client}
use Rattle.outcome_laws.proofs.once.Counted.{is_counted, uncounted_wish}
use Rattle.outcome_laws.proofs.once.CoordinatorScale.{no_body, no_mark, no_marks}
use Rattle.outcome_laws.proofs.once.Scales.{step_light}
use Rattle.outcome_laws.proofs.coordinators.Lists.{count_more}
use Rattle.report_laws.specs.Answered.{answers_among, is_answered}
use Rattle.report_laws.specs.Asked.{asked_by, asked_in}
use Rattle.report_laws.specs.Told.{answer_in}
use Rattle.world_core.specs.Start.{NobodyStarts, Start}
use Rattle.world_core.specs.Steps.{HostStep}
use Rattle.world_views.specs.Machine.{after, replies_at, step_after}
use Rattle.host_laws.proofs.coordinator.Keys.{key_of_tx}
use Rattle.talk_laws.specs.Reports.{opened_after, opened_in}
use Rattle.talk_laws.specs.Talks.{asked_of, told_of}
use Rattle.talk_laws.proofs.Among.{AreAmong, among_more}
use Rattle.talk_laws.proofs.ClientTrack.{ClientTalked, IsPaid, Pays, PaysSo, news_of, pays_beside, pays_forms}
use Rattle.talk_laws.proofs.Picks.{pick_sends, sent_of, taken_of}
use Rattle.talk_laws.proofs.ReportsTold.{row_tells}
use Rattle.talk_laws.proofs.ShellLogs.{is_shell, opened_first, step_talks}
use Rattle.talk_laws.proofs.TcTrack.{told_by}

-- the signal asks for the commit of this transaction
abbrev pub wished_by : TxId → Body → Option TxId
wished_by tx (Client (TcCommitReq other)) = if same_tx other tx then Some tx else None
wished_by tx body = None

pub uncounted_key : (tx : TxId) (body : Body) → is_counted body ≡ false → key_of_tx tx body ≡ false
uncounted_key tx (Client (TcKeyReq other op)) none = absurd cc
uncounted_key tx body none = refl

module _ (tx : TxId) where
  -- operations that are asked for, counted and picked
  key_count : (body : Body) (before : List Op)
      → length (cons_option (asked_by tx body) before) ≡ one_if (key_of_tx tx body) + length before
  key_count (Client (TcKeyReq other op)) before = by (same_tx other tx)
    where
      by : (b : Bool) → length (cons_option (if b then Some op else None) before) ≡ one_if b + length before
      by true = omega arith
      by false = omega arith
  key_count body before = omega arith

  pub asked_count : (sends : List Outgoing) (before : List Op)
      → length (asked_in tx sends before) ≡ count_sent (key_of_tx tx) sends + length before
  asked_count [] before = omega arith
  asked_count (one ∷ sends) before =
      omega (
        arith,
        asked_count sends (cons_option (asked_by tx one.body) before),
        key_count one.body before,
        count_more (λ (sent : Outgoing). key_of_tx tx sent.body) one sends,
      )

  asked_picks : (sends : List Outgoing) (before : List Op)
      → asked_in tx sends before ≡ pick_sends (asked_by tx) sends before
  asked_picks [] before = refl
  asked_picks (one ∷ sends) before = asked_picks sends (cons_option (asked_by tx one.body) before)

  pub asked_is : (start : Start) (log : List HostStep) → asked_of start tx log ≡ sent_of (asked_by tx) start 0 log
  asked_is start [] = refl
  asked_is start (e ∷ log) =
      asked_picks (step_after start 0 log e).effects.sends (asked_of start tx log)
      ∙ ap (pick_sends (asked_by tx) (step_after start 0 log e).effects.sends) (asked_is start log)

  pub wish_count : (body : Body) (before : List TxId)
      → length (cons_option (wished_by tx body) before) ≡ one_if (is_wish tx body) + length before
  wish_count (Client (TcCommitReq other)) before = by (same_tx other tx)
    where
      by : (b : Bool) → length (cons_option (if b then Some tx else None) before) ≡ one_if b + length before
      by true = omega arith
      by false = omega arith
  wish_count body before = omega arith

  wishes_count : (sends : List Outgoing) (before : List TxId)
      → length (pick_sends (wished_by tx) sends before) ≡ count_sent (is_wish tx) sends + length before
  wishes_count [] before = omega arith
  wishes_count (one ∷ sends) before =
      omega (
        arith,
        wishes_count sends (cons_option (wished_by tx one.body) before),
        wish_count one.body before,
        count_more (λ (sent : Outgoing). is_wish tx sent.body) one sends,
      )

  -- what a step tells, in front of what was told
  pub news_count : (b : Bool) (replies : List ApiReply) (before : List Answer)
      → length ((if b then reverse (answers_among replies) else []) ++ before)
      ≡ (if b then length (answers_among replies) else 0) + length before
  news_count true replies before =
      omega (arith, length-append (reverse (answers_among replies)) before, length-reverse (answers_among replies))
  news_count false replies before = omega arith

  in_front : (xs : List Answer) (answer : Answer) (ys zs : List Answer) → AreAmong xs (answer ∷ []) → AreAmong ys zs
      → AreAmong (xs ++ ys) (answer ∷ zs)
  in_front [] answer ys zs one among = among_more answer ys zs among
  in_front (x ∷ []) answer ys zs (inl one) among = inl (one.0, among)
  in_front (x ∷ y ∷ xs) answer ys zs (inl one) among = absurd one.1
  in_front (x ∷ xs) answer ys zs (inr one) among = absurd one

  -- as many are open as the client's side has, and so it is of those whose commit it hasn't asked for
  open_is : (parts : Parts) → in_client (count_open tx) parts ≡ count_by (has_tx tx) (opened_in parts)
  open_is (part.Shell p) = refl
  open_is (part.Main p) = refl
  open_is (part.Tc p) = refl
  open_is (part.Ldm p) = refl

  unwished_is : (parts : Parts) → in_client (count_unwished tx) parts ≡ count_by (is_unwished tx) (opened_in parts)
  unwished_is (part.Shell p) = refl
  unwished_is (part.Main p) = refl
  unwished_is (part.Tc p) = refl
  unwished_is (part.Ldm p) = refl

  -- its commit is asked for
  asks_client : IsOfClient (is_wish tx) no_mark (count_unwished tx) (is_begin tx)
  asks_client = record {
    counts = uncounted_wish tx;
    stops = λ cause. refl;
    installs = λ view. refl;
    cuts = λ host. refl;
    rows = λ s x. omega (arith, no_marks (client_row s x).effects.marks, wishes_few tx s x);
    notes = noted_unwished tx;
    tells = λ s replies. refl;
  }

  -- along the log of the shell's host, which is told once at most that the transaction has begun
  module _ (start : Start) where
    pub record ClientLog (log : List HostStep) : Type 0 where
      pub talked : ClientTalked tx (opened_after start log) (length (asked_of start tx log))
          (length (told_of start tx log)) (length (sent_of (wished_by tx) start 0 log)) (takes_in (is_begin tx) log)
      pub among : AreAmong (told_of start tx log) (taken_of (told_by tx) log)

    module _ (nobody : NobodyStarts start) (e : HostStep) (log : List HostStep) where
      abbrev t : Step HostBody
      t = step_after start 0 log e

      abbrev replied : List ApiReply
      replied = replies_at 0 t

      -- no more are open behind a step than begin at it
      open_below : count_by (has_tx tx) (opened_after start (e ∷ log))
          ≤ count_by (has_tx tx) (opened_after start log) + one_if (is_begin tx e.step.taken.body)
      open_below =
          let light =
          step_light (of_client no_body (is_report tx) (count_open tx) (is_begin tx)) IsShell
          (client_light no_body (is_report tx) (count_open tx) (is_begin tx) (reports_client tx)) e.step.taken 0
          (after start 0 log) (is_shell start nobody log) in
          omega (arith, light.below, open_is (after start 0 log).parts, open_is (after start 0 (e ∷ log)).parts)

      unwished_below : count_sent (is_wish tx) t.effects.sends
          + count_by (is_unwished tx) (opened_after start (e ∷ log))
          ≤ count_by (is_unwished tx) (opened_after start log) + one_if (is_begin tx e.step.taken.body)
      unwished_below =
          let light =
          step_light (of_client (is_wish tx) no_mark (count_unwished tx) (is_begin tx)) IsShell
          (client_light (is_wish tx) no_mark (count_unwished tx) (is_begin tx) asks_client) e.step.taken 0
          (after start 0 log) (is_shell start nobody log) in
          omega (arith, light.below, unwished_is (after start 0 log).parts, unwished_is (after start 0 (e ∷ log)).parts)

      module _ (few : one_if (is_begin tx e.step.taken.body) + takes_in (is_begin tx) log ≤ 1)
          (old : ClientLog log)
        where
          pays : Pays tx (opened_after start log) (length (asked_of start tx log)) (length (told_of start tx log))
              (length (sent_of (wished_by tx) start 0 log)) (takes_in (is_begin tx) log) old.talked e.step.taken.body
              few
              (opened_after start (e ∷ log)) t.effects.sends replied
          pays =
              step_talks start nobody e log
              (PaysSo tx (opened_after start log) _ _ _ _ old.talked e.step.taken.body few)
              (pays_forms tx (opened_after start log) _ _ _ _ old.talked e.step.taken.body few)
              (pays_beside tx (opened_after start log) _ _ _ _ old.talked e.step.taken.body few)

          -- what an answer makes the client's side reply is that answer, or nothing
          only : (one : TxId) (answer : Answer) → e.step.taken.body ≡ Client (TcKeyConf one answer)
              → AreAmong (reverse (answers_among replied)) (answer ∷ [])
          only one answer is = by (row_tells start nobody e log).answers
            where
              by : (answers_among replied ≡ []) ⊎ (answers_among replied ≡ answer_in e.step.taken.body)
                  → AreAmong (reverse (answers_among replied)) (answer ∷ [])
              by (inl nothing) = subst (λ list. AreAmong (reverse list) (answer ∷ [])) (sym nothing) tt
              by (inr that) =
                  subst (λ list. AreAmong (reverse list) (answer ∷ [])) (sym (that ∙ ap answer_in is)) (inl (refl, tt))

          among_now : AreAmong (told_of start tx (e ∷ log)) (taken_of (told_by tx) (e ∷ log))
          among_now = by e.step.taken.body refl
            where
              which : (answer : Answer) → AreAmong (reverse (answers_among replied)) (answer ∷ []) → (b : Bool)
                  → AreAmong ((if b then reverse (answers_among replied) else []) ++ told_of start tx log)
                  (cons_option (if b then Some answer else None) (taken_of (told_by tx) log))
              which answer that true =
                  in_front (reverse (answers_among replied)) answer (told_of start tx log) (taken_of (told_by tx) log)
                  that old.among
              which answer that false = old.among

              by : (b : Body) → e.step.taken.body ≡ b
                  → AreAmong ((if is_answered tx b then reverse (answers_among replied) else []) ++ told_of start tx
                  log)
                  (cons_option (told_by tx b) (taken_of (told_by tx) log))
              by (Client (TcKeyConf one answer)) is = which answer (only one answer is) (same_tx one tx)
              by b is = old.among

          next : ClientLog (e ∷ log)
          next = record {
            talked = record {
              paid =
                  each_map
                  (IsPaid tx (count_sent (key_of_tx tx) t.effects.sends + length (asked_of start tx log))
                  (news_of tx e.step.taken.body replied + length (told_of start tx log)))
                  (IsPaid tx (length (asked_of start tx (e ∷ log))) (length (told_of start tx (e ∷ log))))
                  (opened_after start (e ∷ log)) (λ one paid has. omega (arith, paid has, asked_now, told_now))
                  pays.paid;
              open_few = omega (arith, open_below, old.talked.open_few);
              wish_few = omega (arith, unwished_below, wished_now, old.talked.wish_few);
              unbegun = λ none. omega (arith, asked_now, pays.unbegun none);
              wished_paid = λ some.
                  omega (arith, asked_now, told_now, pays.wished_paid (omega (arith, wished_now, some)));
            };
            among = among_now;
          }
            where
              asked_now : length (asked_of start tx (e ∷ log))
                  ≡ count_sent (key_of_tx tx) t.effects.sends + length (asked_of start tx log)
              asked_now = asked_count t.effects.sends (asked_of start tx log)

              told_now : length (told_of start tx (e ∷ log))
                  ≡ news_of tx e.step.taken.body replied + length (told_of start tx log)
              told_now = news_count (is_answered tx e.step.taken.body) replied (told_of start tx log)

              wished_now : length (sent_of (wished_by tx) start 0 (e ∷ log))
                  ≡ count_sent (is_wish tx) t.effects.sends + length (sent_of (wished_by tx) start 0 log)
              wished_now = wishes_count t.effects.sends (sent_of (wished_by tx) start 0 log)

    first : ClientLog []
    first = record {
      talked =
          subst (λ opened. ClientTalked tx opened 0 0 0 0) (sym (opened_first start))
          (record {
            paid = tt;
            open_few = omega arith;
            wish_few = omega arith;
            unbegun = λ none. refl;
            wished_paid = λ some. omega arith;
          });
      among = tt;
    }

    pub client_log : NobodyStarts start → (log : List HostStep) → takes_in (is_begin tx) log ≤ 1 → ClientLog log
    client_log nobody [] few = first
    client_log nobody (e ∷ log) few =
        next nobody e log (omega (arith, few)) (client_log nobody log (omega (arith, few)))
