-- A closing goes on where the president's master takes the answer of a member: once all have answered, the next stage
-- begins, or the closing has ended.
use Rattle.std.proofs.Common.{◌≡◌, ◌<◌, ◌⊎◌, ◌∙◌, inl, inr, ℕ, ◌+◌, Bool, true, false, [], ◌∷◌, refl, sym, ap}
use Rattle.std.proofs.Common.{subst, arith, length, nat_lt}
use Rattle.std.proofs.lemmas.Bool.{and_parts, eq-eqb, false≢true, true≢false}
use Rattle.std.proofs.lemmas.Bool.Decides.{nat_tests}
use Rattle.std.specs.Prelude.{◌&&◌, drop, nat_eq, Some}
use Rattle.api_views.specs.declared.closings.Closing.{Closing}
use Rattle.api_views.specs.declared.closings.Closing.TheVariants.{Gcp, Micro, Lcp}
use Rattle.frag_map.specs.Replicas.{first_start}
use Rattle.frag_map.specs.Shape.{IsShape}
use Rattle.gcp_master.specs.declared.voices.Voice.{Voice}
use Rattle.gcp_master.specs.Master.{epoch_table, master_table}
use Rattle.gcp_master.specs.Numbers.{is_first}
use Rattle.gcp_master.specs.Sends.{front_sends, list_effects, listing, master_sends, told_if}
use Rattle.gcp_master.specs.State.{MasterState, all_in, at_phase, counted, counts}
use Rattle.gcp_master.specs.Voices.{is_heard, is_of}
use Rattle.run_theory.specs.Lists.{Each, IsIn}
use Rattle.run_theory.proofs.Pasts.{each_append, each_map}
use Rattle.sig_core.specs.declared.outs.Outgoing.{Outgoing}
use Rattle.sig_core.specs.declared.portion.TheConstants.{PORTION}
use Rattle.sig_core.specs.declared.signal.Body.{Body}
use Rattle.sig_core.specs.declared.signal.Body.TheVariants.{Epoch}
use Rattle.sig_core.specs.declared.signal.epoch.EpochSignal.{EpochSignal}
use Rattle.sig_core.specs.declared.signal.epoch.EpochSignal.TheVariants as signal
use Rattle.sig_core.specs.Place.{checkpoints}
use Rattle.sig_core.specs.Step.{Step, stay}
use Rattle.world_core.specs.Hosts.{host_for, member_at}
use Rattle.world_core.specs.Start.{Start, made}
use Rattle.calm_laws.specs.Alike.{first}
use Rattle.peace_laws.specs.Closing.{Course, closes_epoch, host_in, main}
use Rattle.peace_laws.specs.Moments.{IsTaken, Moment, Takes}
use Rattle.peace_laws.specs.UnderWay.{AnAnswer, Closes, Commits, CommittedAt, Copies, IsAnswer, IsAt}
use Rattle.peace_laws.specs.UnderWay.{IsMaster, IsOver, IsOwed, IsTrue, IsUnderWay, Prepares, Saves, Stage}
use Rattle.peace_laws.specs.UnderWay.{answer, answer_of, blocks_of, ended_by, ended_of, going_on, is_later, order_of}
use Rattle.peace_laws.specs.UnderWay.{order_to, phase_of, report_of, voice_of}
use Rattle.peace_laws.proofs.closings.ListOn.{ReportGoes, report_goes, told_master}
use Rattle.peace_laws.proofs.closings.MainOn.{arrive, committed, main_goes, over_stays, sent_letter, stays_coming, t}
use Rattle.peace_laws.proofs.closings.MainOn.{told_same}
use Rattle.peace_laws.proofs.closings.MasterAnswers.{Ends, Enters, answer_is, answered, completed, completes, is_answer}
use Rattle.peace_laws.proofs.closings.MasterAnswers.{is_gcp}
use Rattle.peace_laws.proofs.closings.MasterAnswers.{none_counts, over_at}
use Rattle.peace_laws.proofs.closings.OrderLists.{IsListed, all_letters, over_list, over_listed, report_stands}
use Rattle.peace_laws.proofs.closings.OrderLists.{stage_listed}
use Rattle.peace_laws.proofs.closings.StageBegins.{stage_begins}
use Rattle.peace_laws.proofs.closings.Voices.{counts_or_heard, counts_unheard, each_is_in, few_on, heard_now, heard_on}
use Rattle.peace_laws.proofs.closings.Voices.{member_in, voice_found}
use Rattle.peace_laws.proofs.closings.WayOn.{main_apart}

-- who answers a stage is known by its host
record SameMember (place other : ℕ) (rows of : Bool) : Type 0 where
  same : place ≡ other
  block : rows ≡ of

same_member : (place other : ℕ) (rows of : Bool) → host_in place rows ≡ host_in other of
    → SameMember place other rows of
same_member place other false false is = record { same = omega (arith, is); block = refl }
same_member place other true true is = record { same = omega (arith, is); block = refl }
same_member place other false true is = absurd (omega (arith, is))
same_member place other true false is = absurd (omega (arith, is))

own_answer : (c : Course) (stage : Stage) → is_answer c stage (answer_of c stage) ≡ true
own_answer c Prepares = eq-eqb c.epoch c.epoch refl
own_answer c Commits = eq-eqb c.epoch c.epoch refl
own_answer c Closes = eq-eqb c.epoch c.epoch refl
own_answer c Saves = eq-eqb c.epoch c.epoch refl
own_answer c Copies = eq-eqb c.epoch c.epoch refl

-- what an answer says
abbrev said_in : Body → EpochSignal
said_in (Epoch said) = said
said_in body = signal.GcpOrd

same_answer : (one other : EpochSignal) → answer one ≡ answer other → one ≡ other
same_answer one other is = ap (λ (o : Outgoing). said_in o.body) is

-- one that counts where members commit is of a member that has
true_answer : (c : Course) (committed : Type 0) (said : EpochSignal) → is_answer c Commits said ≡ true
    → IsAnswer committed said → committed
true_answer c committed (signal.GcpNodeFinish epoch) is fits = fits
true_answer c committed said is fits = absurd (false≢true is)

counted_sends : (s : MasterState) (voice : Voice) → master_sends (counted s voice) ≡ master_sends s
unfolding master_sends
counted_sends s voice = refl

module _ (start : Start) (shape : IsShape start.shape) (c : Course) (first_is : is_first c.next ≡ is_gcp c.kind)
    (before after : Moment) (w : IsUnderWay start c before) (step : Takes start before after)
    (said : AnAnswer start c before step.sender step.host step.sent) where
  abbrev s : MasterState
  s = w.main_part.master

  to : step.sent.to ≡ checkpoints 1
  to = ap (λ (o : Outgoing). o.to) said.is

  abbrev now : Step MasterState
  now = t start shape c before after w step said.to to

  abbrev voice : Voice
  voice = voice_of said.place said.rows

  voice_is : ◌≡◌ {A = Voice} (record { member = step.x.member; from = step.x.from }) voice
  voice_is = λ i. record { member = member i; from = record { 0 = from i } }
    where
      member : step.x.member ≡ first_start (said.place + 1)
      member =
          step.says.member ∙ ap (member_at (made start)) said.from ∙ member_in start said.place said.rows said.low

      from : step.x.from.0 ≡ host_in said.place said.rows
      from = step.says.from ∙ said.from

  now_is : now ≡ epoch_table s voice said.signal
  now_is =
      ap (master_table s _ step.x.view.number) (step.says.body ∙ ap (λ (o : Outgoing). o.body) said.is)
      ∙ ap (λ (v : Voice). epoch_table s v said.signal) voice_is

  committed_on : (place : ℕ) → CommittedAt c before place → CommittedAt c after place
  committed_on = committed start shape c before after w step said.to to

  -- the master's own signals stay on their way
  own_stays : (at : ℕ) → IsIn (going_on at) (before.under_way main main)
      → IsIn (going_on at) (after.under_way main main)
  own_stays at is = go (step.keeps main main (going_on at) is)
    where
      go : IsIn (going_on at) (after.under_way main main)
          ⊎ IsTaken step.sender step.host step.sent main main (going_on at)
          → IsIn (going_on at) (after.under_way main main)
      go (inl still) = still
      go (inr gone) = absurd (main_apart said.place said.rows (gone.0 ∙ said.from))

  -- Where nothing changes, nothing is sent.
  stay_goes : now ≡ stay s → ((stage : Stage) × IsAt start c stage after s) ⊎ IsOver start c after s
      → IsUnderWay start c after
  stay_goes is stage =
      main_goes start shape c before after w step said.to to
      (subst (IsMaster start) (sym (ap (λ (q : Step MasterState). q.state) is)) w.master)
      (subst (λ q. ((stage : Stage) × IsAt start c stage after q) ⊎ IsOver start c after q)
      (sym (ap (λ (q : Step MasterState). q.state) is)) stage)
      (λ one sent. absurd (subst (λ (q : Step MasterState). IsIn one q.effects.sends) is sent))

  pub over_on : IsOver start c before s → IsUnderWay start c after
  over_on over =
      stay_goes (now_is ∙ none_counts c s voice w.master.owed (CommittedAt c before said.place) said.signal said.fits
      over.phase_is)
      (inr (over_stays start shape c before after w step said.to to own_stays over))

  -- In a stage.
  module _ (stage : Stage) (under : IsAt start c stage before s) where
    true_on : (of : Stage) (v : Voice) → IsTrue start c before of v → IsTrue start c after of v
    true_on Commits v is = λ place low own. committed_on place (is place low own)
    true_on of v is = tt

    still_true : Each (IsTrue start c after stage) s.voices
    still_true =
        each_map (IsTrue start c before stage) (IsTrue start c after stage) s.voices (true_on stage) under.heard

    -- all else that is owed is owed on, where the master has heard what it took, and all that it had
    module _ (q : MasterState) (list : master_sends q ≡ master_sends s)
        (heard : (v : Voice) → is_heard s.voices v ≡ true → is_heard q.voices v ≡ true)
        (heard_it : answer (answer_of c stage) ≡ step.sent → is_heard q.voices voice ≡ true) where
      owed_on : (place : ℕ) → place < start.shape.nodes → (rows : Bool)
          → IsOwed start c stage before s place rows → IsOwed start c stage after q place rows
      owed_on place low rows (inl was) = inl (heard (voice_of place rows) was)
      owed_on place low rows (inr (inl coming)) = go (step.keeps (host_in place rows) main _ coming)
        where
          own : host_in place rows ≡ host_in said.place said.rows → answer (answer_of c stage) ≡ step.sent
              → is_heard q.voices (voice_of place rows) ≡ true
          own at is =
              let same : SameMember place said.place rows said.rows = same_member place said.place rows said.rows at in
              ap (λ (p : ℕ). is_heard q.voices (voice_of p rows)) same.same
              ∙ ap (λ (b : Bool). is_heard q.voices (voice_of said.place b)) same.block ∙ heard_it is

          go : IsIn (answer (answer_of c stage)) (after.under_way (host_in place rows) main)
              ⊎ IsTaken step.sender step.host step.sent (host_in place rows) main (answer (answer_of c stage))
              → IsOwed start c stage after q place rows
          go (inl still) = inr (inl still)
          go (inr gone) = inl (own (gone.0 ∙ said.from) gone.1.1)
      owed_on place low rows (inr (inr (inl coming))) =
          inr (inr (inl (stays_coming start shape c before after w step said.to to main (host_in place rows) _
          (λ same. main_apart place rows (sym same)) coming)))
      owed_on place low rows (inr (inr (inr unsent))) =
          inr (inr (inr (record {
            at = unsent.at;
            low = unsent.low;
            coming = own_stays unsent.at unsent.coming;
            left =
                subst (λ all. IsIn (order_to (order_of start c stage) place rows) (drop unsent.at all)) (sym list)
                unsent.left;
          })))

    -- it doesn't count: it was heard before, or answers something else
    aside_on : (is_answer c stage said.signal && counts s voice) ≡ false → IsAt start c stage after s
    aside_on none = record {
      phase_is = under.phase_is;
      front = under.front;
      owed = λ place low rows ordered.
          owed_on s refl (λ v is. is) heard_it place low rows (under.owed place low rows ordered);
      heard = still_true;
      few = under.few;
      missing = under.missing;
      committed = λ beyond place low. committed_on place (under.committed beyond place low);
      global = under.global;
    }
      where
        heard_it : answer (answer_of c stage) ≡ step.sent → is_heard s.voices voice ≡ true
        heard_it is =
            let answers : is_answer c stage said.signal ≡ true =
            ap (is_answer c stage) (sym (same_answer (answer_of c stage) said.signal (is ∙ said.is)))
            ∙ own_answer c stage in
            counts_or_heard start s said.place said.rows shape w.master.view said.low under.few
            (sym (ap (λ b. b && counts s voice) answers) ∙ none)

    -- It counts.
    module _ (answers : is_answer c stage said.signal ≡ true) (new : counts s voice ≡ true) where
      abbrev q : MasterState
      q = counted s voice

      true_here : (of : Stage) → is_answer c of said.signal ≡ true → IsTrue start c after of voice
      true_here Commits is = λ place low own.
          let same : said.place ≡ place = same_place place own in
          subst (CommittedAt c after) same
          (committed_on said.place (true_answer c (CommittedAt c before said.place) said.signal is said.fits))
        where
          same_place : (place : ℕ) → is_of (first_start (place + 1)) voice ≡ true → said.place ≡ place
          same_place place own =
              let at : nat_eq (place + 1) (said.place + 1) ≡ true =
              (and_parts (nat_eq (place + 1) (said.place + 1)) _ own).0 in
              grind (arith, nat_tests, at)
      true_here of is = tt

      all_true : Each (IsTrue start c after stage) q.voices
      all_true =
          each_append (IsTrue start c after stage) s.voices (voice ∷ []) still_true (true_here stage answers, tt)

      -- not all have answered yet
      counted_on : all_in (blocks_of stage) q ≡ false → IsAt start c stage after q
      counted_on missing = record {
        phase_is = under.phase_is;
        front = under.front;
        owed = λ place low rows ordered.
            owed_on q (counted_sends s voice) (λ v is. heard_on s.voices voice v is)
            (λ is. heard_now s.voices voice) place low rows (under.owed place low rows ordered);
        heard = all_true;
        few =
            few_on start.shape.nodes s.voices said.place said.rows said.low under.few (counts_unheard s voice new);
        missing = missing;
        committed = λ beyond place low. committed_on place (under.committed beyond place low);
        global = under.global;
      }

      -- all have
      module _ (all : all_in (blocks_of stage) q ≡ true) where
        master : IsMaster start q
        master = record {
          member = w.master.member;
          view = w.master.view;
          asked = w.master.asked;
          owed = w.master.owed;
        }

        gone_on : (of : Stage) → of ≡ stage → of ≡ Commits → Each (IsTrue start c after of) q.voices
            → (place : ℕ) → place < start.shape.nodes → CommittedAt c after place
        gone_on of same is true_voices place low =
            let found = voice_found (IsTrue start c after Commits) (first_start (place + 1)) q.voices
            (subst (λ of. Each (IsTrue start c after of) q.voices) is true_voices)
            (each_is_in start q w.master.view 1
            (subst (λ of. all_in (blocks_of of) q ≡ true) (sym same ∙ is) all) place low) in
            found.so place low found.own

        -- another stage begins
        module _ (e : Enters c stage q now) where
          abbrev n : MasterState
          n = at_phase q (phase_of c e.next)

          n_master : IsMaster start n
          n_master = record {
            member = w.master.member;
            view = w.master.view;
            asked = w.master.asked;
            owed = w.master.owed;
          }

          n_listed : IsListed start c n
          n_listed = stage_listed start c n n_master e.next refl refl

          here : Each (λ (one : Outgoing). IsIn one (after.under_way main (host_for start one.to)))
              (list_effects n 0).sends
          here =
              subst (Each (λ (one : Outgoing). IsIn one (after.under_way main (host_for start one.to)))) e.sends
              (arrive start shape c before after w step said.to to)

          state_is : n ≡ now.state
          unfolding listing
          state_is = sym (told_same n _ refl) ∙ sym e.state

          committed_now : (is_later stage ≡ true) ⊎ (stage ≡ Commits) → (place : ℕ) → place < start.shape.nodes
              → CommittedAt c after place
          committed_now (inl beyond) place low = committed_on place (under.committed beyond place low)
          committed_now (inr is) place low = gone_on stage refl is all_true place low

          entered : IsAt start c e.next after n
          entered =
              stage_begins start shape c e.next after n n_master refl refl refl here
              (λ beyond. committed_now (e.later beyond)) e.global

          enters_on : IsUnderWay start c after
          enters_on =
              main_goes start shape c before after w step said.to to (subst (IsMaster start) state_is n_master)
              (inl (e.next, subst (IsAt start c e.next after) state_is entered))
              (λ one is.
              sent_letter start shape c before after w step said.to to one
              (all_letters start c shape after n 0 w.master.member n_listed here one (subst (IsIn one) e.sends is)))

        -- or the closing has ended
        module _ (e : Ends c stage q now) where
          abbrev o : MasterState
          o = over_at c q

          o_master : IsMaster start o
          o_master = record {
            member = w.master.member;
            view = w.master.view;
            asked = w.master.asked;
            owed = w.master.owed;
          }

          o_listed : IsListed start c o
          o_listed = over_listed start c o o_master refl (inr refl)

          there : Each (λ (one : Outgoing). IsIn one (after.under_way main (host_for start one.to)))
              (list_effects o 0).sends
          there =
              subst (Each (λ (one : Outgoing). IsIn one (after.under_way main (host_for start one.to)))) e.sends
              (arrive start shape c before after w step said.to to)

          o_list : master_sends o ≡ front_sends 1 (first start) (Some (ended_of c))
          o_list = over_list start c o o_master refl

          more : Bool
          more = nat_lt (0 + PORTION) (length (master_sends o))

          o_state : told_if o more ≡ now.state
          unfolding listing more
          o_state = sym e.state

          lone : (kind : Closing) → c.kind ≡ kind → nat_lt (0 + PORTION) (length (master_sends o)) ≡ true
              → c.kind ≡ Gcp
          unfolding front_sends
          lone Gcp is many = is
          lone Lcp is many = absurd (true≢false (sym c.closes ∙ ap closes_epoch is))
          lone Micro is many = absurd (true≢false (sym many ∙ few))
            where
              few : nat_lt (0 + PORTION) (length (master_sends o)) ≡ false
              few =
                  ap (λ all. nat_lt (0 + PORTION) (length all)) o_list
                  ∙ ap (λ (k : Closing). nat_lt (0 + PORTION) (length (front_sends 1 (first start)
                  (Some (ended_by c.epoch k))))) is

          goes : ReportGoes start c after (told_if o more)
          unfolding more
          goes =
              report_goes start c shape after o 0 o_master o_listed refl (lone c.kind refl)
              (subst (IsIn (report_of c)) (sym o_list) (report_stands start c)) there

          told_over : (b : Bool) → ReportGoes start c after (told_if o b) → IsOver start c after (told_if o b)
          told_over true goes = record {
            phase_is = refl;
            committed = λ place low. committed_on place (under.committed e.later place low);
            report = inr goes.report;
            front = goes.front;
          }
          told_over false goes = record {
            phase_is = refl;
            committed = λ place low. committed_on place (under.committed e.later place low);
            report = inr goes.report;
            front = goes.front;
          }

          ends_on : IsUnderWay start c after
          ends_on =
              main_goes start shape c before after w step said.to to
              (subst (IsMaster start) o_state (told_master start o more o_master))
              (inr (subst (IsOver start c after) o_state (told_over more goes)))
              (λ one is.
              sent_letter start shape c before after w step said.to to one
              (all_letters start c shape after o 0 w.master.member o_listed there one (subst (IsIn one) e.sends is)))

      by_all : (b : Bool) → all_in (blocks_of stage) q ≡ b → now ≡ completed c stage q b → IsUnderWay start c after
      by_all false missing is =
          main_goes start shape c before after w step said.to to
          (subst (IsMaster start) (sym (ap (λ (r : Step MasterState). r.state) is)) (record {
            member = w.master.member;
            view = w.master.view;
            asked = w.master.asked;
            owed = w.master.owed;
          }))
          (inl (
            stage,
            subst (IsAt start c stage after) (sym (ap (λ (r : Step MasterState). r.state) is))
                (counted_on missing),
          ))
          (λ one sent. absurd (subst (λ (r : Step MasterState). IsIn one r.effects.sends) is sent))
      by_all true all is = go (completes c q w.master.asked first_is stage under.global)
        where
          go : Enters c stage q (completed c stage q true) ⊎ Ends c stage q (completed c stage q true)
              → IsUnderWay start c after
          go (inl e) = enters_on all (subst (Enters c stage q) (sym is) e)
          go (inr e) = ends_on all (subst (Ends c stage q) (sym is) e)

    stage_is : now ≡ answered c stage s voice (is_answer c stage said.signal && counts s voice)
    stage_is =
        now_is
        ∙ answer_is c s voice w.master.owed (CommittedAt c before said.place) said.signal said.fits stage under.phase_is

    pub stage_on : IsUnderWay start c after
    stage_on = by (is_answer c stage said.signal && counts s voice) refl stage_is
      where
        by : (b : Bool) → (is_answer c stage said.signal && counts s voice) ≡ b → now ≡ answered c stage s voice b
            → IsUnderWay start c after
        by false none is = stay_goes is (inl (stage, aside_on none))
        by true both is =
            let parts = and_parts (is_answer c stage said.signal) (counts s voice) both in
            by_all parts.0 parts.1 (all_in (blocks_of stage) (counted s voice)) refl is
