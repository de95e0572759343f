-- A closing goes on where the president's master goes on with its list.
use Rattle.std.proofs.Common.{◌≡◌, ◌≤◌, ◌<◌, ◌⊎◌, ◌∙◌, inl, inr, ℕ, ◌+◌, Bool, true, false, refl, sym, ap, subst}
use Rattle.std.proofs.Common.{arith, length, nat_lt}
use Rattle.std.proofs.lemmas.Bool.{and_from}
use Rattle.std.proofs.lemmas.Bool.Decides.{nat_tests}
use Rattle.std.specs.Prelude.{◌==◌, drop, Option, None, Some}
use Rattle.api_views.specs.declared.closings.Closing.TheVariants.{Gcp}
use Rattle.frag_map.specs.Shape.{IsShape}
use Rattle.gcp_master.specs.declared.orders.Ended.{Ended}
use Rattle.gcp_master.specs.Master.{master_table}
use Rattle.gcp_master.specs.Sends.{front_sends, go_on_if, go_on_row, list_effects, listing, master_sends, told_if}
use Rattle.gcp_master.specs.State.{MasterState}
use Rattle.gcp_master.specs.declared.sends.TheConstants.{SENDS}
use Rattle.run_theory.specs.Lists.{Each, IsIn}
use Rattle.sig_core.specs.declared.outs.Outgoing.{Outgoing}
use Rattle.sig_core.specs.declared.portion.TheConstants.{PORTION}
use Rattle.sig_core.specs.declared.view.View.{View}
use Rattle.sig_core.specs.Place.{checkpoints}
use Rattle.sig_core.specs.Portion.{portion}
use Rattle.sig_core.specs.Step.{Step}
use Rattle.world_core.specs.Hosts.{host_for}
use Rattle.world_core.specs.Start.{Start}
use Rattle.calm_laws.specs.Alike.{first}
use Rattle.peace_laws.specs.Closing.{Course, host_in, main}
use Rattle.peace_laws.specs.Moments.{IsTaken, Moment, Takes}
use Rattle.peace_laws.specs.UnderWay.{GoingOn, IsAnswered, IsAt, IsLeft, IsMaster, IsOver, IsOwed, IsTrue, IsUnderWay}
use Rattle.peace_laws.specs.UnderWay.{IsUnsent, Commits, Stage, answer, answer_of, ended_of, going_on, order_of}
use Rattle.peace_laws.specs.UnderWay.{order_to}
use Rattle.peace_laws.specs.UnderWay.{report_of}
use Rattle.peace_laws.proofs.closings.MainOn.{arrive, committed, main_goes, same_place, sent_letter, shell_off}
use Rattle.peace_laws.proofs.closings.MainOn.{stays_coming}
use Rattle.peace_laws.proofs.closings.MainOn.{t, told_same}
use Rattle.peace_laws.proofs.closings.OrderLists.{IsListed, all_letters, client_reached, left_below, list_goes}
use Rattle.peace_laws.proofs.closings.OrderLists.{over_list, over_listed}
use Rattle.peace_laws.proofs.closings.OrderLists.{portion_arrives, portion_or_rest, reaches, report_left, rest_arrives}
use Rattle.peace_laws.proofs.closings.OrderLists.{stage_listed}
use Rattle.peace_laws.proofs.closings.WayOn.{answered_stays, main_apart}
use Rattle.run_theory.proofs.Pasts.{each_map}
use Rattle.gcp_master.specs.declared.voices.Voice.{Voice}

-- what a master is behind a list is still that of the closing
pub told_master : (start : Start) (s : MasterState) (more : Bool) → IsMaster start s → IsMaster start (told_if s more)
told_master start s true master = master
told_master start s false master =
    record { member = master.member; view = master.view; asked = master.asked; owed = master.owed }

-- A list at whose end the report stands: that is under way then, or left to send.
pub record ReportGoes (start : Start) (c : Course) (after : Moment) (s : MasterState) : Type 0 where
  pub report : IsIn (report_of c) (after.under_way main 0) ⊎ IsLeft start c after s
  pub front : (s.front ≡ None) ⊎ IsLeft start c after s

pub report_goes : (start : Start) (c : Course) (shape : IsShape start.shape) (after : Moment) (s : MasterState) (at : ℕ)
    → IsMaster start s → (listed : IsListed start c s) → s.front ≡ Some (ended_of c)
    → (nat_lt (at + PORTION) (length (master_sends s)) ≡ true → c.kind ≡ Gcp)
    → IsIn (report_of c) (drop at (master_sends s))
    → Each (λ (one : Outgoing). IsIn one (after.under_way main (host_for start one.to))) (list_effects s at).sends
    → ReportGoes start c after (told_if s (nat_lt (at + PORTION) (length (master_sends s))))
report_goes start c shape after s at master listed front global there arrive =
    by (nat_lt (at + PORTION) (length (master_sends s))) refl
  where
    by : (more : Bool) → nat_lt (at + PORTION) (length (master_sends s)) ≡ more
        → ReportGoes start c after (told_if s more)
    by true more =
        let below : at + PORTION < length (master_sends s) =
        grind (arith, nat_tests, more) in
        let left : IsLeft start c after s =
        record {
          front = front;
          global = global more;
          at = at + PORTION;
          low = omega (arith, below, listed.few);
          coming = rest_arrives start c shape after s at master.member listed arrive more;
        } in
        record { report = inr left; front = inr left }
    by false none =
        record { report = inl (go (portion_or_rest (master_sends s) at (report_of c) there)); front = inl refl }
      where
        go : IsIn (report_of c) (portion (master_sends s) at)
            ⊎ IsIn (report_of c) (drop (at + PORTION) (master_sends s))
            → IsIn (report_of c) (after.under_way main 0)
        go (inl now) =
            subst (λ j. IsIn (report_of c) (after.under_way main j)) (client_reached start)
            (portion_arrives start c shape after s at master.member listed arrive (report_of c) now)
        go (inr later) =
            let below : at + PORTION < length (master_sends s) =
            left_below (master_sends s) (at + PORTION) (report_of c) later in
            absurd (grind (arith, nat_tests, none, below))

module _ (start : Start) (shape : IsShape start.shape) (c : Course) (before after : Moment)
    (w : IsUnderWay start c before) (step : Takes start before after)
    (on : GoingOn start step.sender step.host step.sent) where
  abbrev s : MasterState
  s = w.main_part.master

  to : step.sent.to ≡ checkpoints 1
  to = ap (λ (o : Outgoing). o.to) on.is

  abbrev now : Step MasterState
  now = t start shape c before after w step on.to to

  more : Bool
  more = nat_lt (on.at + PORTION) (length (master_sends s))

  -- it sends of its list from that place on
  now_is : now ≡ listing s on.at
  unfolding go_on_row
  now_is =
      ap (master_table s _ step.x.view.number) (step.says.body ∙ ap (λ (o : Outgoing). o.body) on.is)
      ∙ ap (go_on_if s on.at)
      (and_from (step.x.view.number == s.view.number) (nat_lt on.at SENDS)
      (ap (λ (v : View). v.number == s.view.number) step.says.view
      ∙ ap (λ (v : View). (first start).number == v.number) w.master.view)
      (few on.at on.low))
    where
      few : (n : ℕ) → n ≤ start.shape.nodes + start.shape.nodes → nat_lt n SENDS ≡ true
      few n low =
          let small : n < 64 = omega (arith, low, shape.nodes_few) in
          grind (arith, nat_tests, small)

  state_is : told_if s more ≡ now.state
  unfolding listing more
  state_is = sym (ap (λ (q : Step MasterState). q.state) now_is)

  sends_are : now.effects.sends ≡ (list_effects s on.at).sends
  unfolding listing
  sends_are = ap (λ (q : Step MasterState). q.effects.sends) now_is

  here : Each (λ (one : Outgoing). IsIn one (after.under_way main (host_for start one.to))) (list_effects s on.at).sends
  here =
      subst (Each (λ (one : Outgoing). IsIn one (after.under_way main (host_for start one.to)))) sends_are
      (arrive start shape c before after w step on.to to)

  -- in a stage
  module _ (stage : Stage) (under : IsAt start c stage before s) where
    listed : IsListed start c s
    listed = stage_listed start c s w.master stage under.phase_is under.front

    owed_on : (place : ℕ) → place < start.shape.nodes → (rows : Bool)
        → IsOwed start c stage before s place rows → IsOwed start c stage after s place rows
    owed_on place low rows (inl heard) = inl heard
    owed_on place low rows (inr (inl said)) = go (step.keeps (host_in place rows) main _ said)
      where
        go : IsIn (answer (answer_of c stage)) (after.under_way (host_in place rows) main)
            ⊎ IsTaken step.sender step.host step.sent (host_in place rows) main (answer (answer_of c stage))
            → IsOwed start c stage after s place rows
        go (inl still) = inr (inl still)
        go (inr gone) = absurd (main_apart place rows (sym (gone.0 ∙ on.from)))
    owed_on place low rows (inr (inr (inl coming))) =
        inr (inr (inl (stays_coming start shape c before after w step on.to to main (host_in place rows) _
        (λ same. main_apart place rows (sym same)) coming)))
    owed_on place low rows (inr (inr (inr unsent))) = go (step.keeps main main _ unsent.coming)
      where
        gone_on : IsIn (order_to (order_of start c stage) place rows)
            (after.under_way main (host_for start (order_to (order_of start c stage) place rows).to))
            ⊎ IsUnsent start after s (order_to (order_of start c stage) place rows)
            → IsOwed start c stage after s place rows
        gone_on (inl coming) =
            inr (inr (inl (subst (λ j. IsIn (order_to (order_of start c stage) place rows) (after.under_way main j))
            (reaches start (order_of start c stage) place rows low) coming)))
        gone_on (inr left) = inr (inr (inr left))

        go : IsIn (going_on unsent.at) (after.under_way main main)
            ⊎ IsTaken step.sender step.host step.sent main main (going_on unsent.at)
            → IsOwed start c stage after s place rows
        go (inl still) =
            inr (inr (inr (record { at = unsent.at; low = unsent.low; coming = still; left = unsent.left })))
        go (inr gone) =
            gone_on
            (list_goes start c shape after s on.at w.master.member listed here
            (order_to (order_of start c stage) place rows)
            (subst (λ n. IsIn (order_to (order_of start c stage) place rows) (drop n (master_sends s)))
            (same_place unsent.at on.at (gone.1.1 ∙ on.is)) unsent.left))

    true_on : (of : Stage) (voice : Voice) → IsTrue start c before of voice → IsTrue start c after of voice
    true_on Commits voice is = λ place low own.
        committed start shape c before after w step on.to to place (is place low own)
    true_on of voice is = tt

    under_on : IsAt start c stage after s
    under_on = record {
      phase_is = under.phase_is;
      front = under.front;
      owed = λ place low rows ordered. owed_on place low rows (under.owed place low rows ordered);
      heard = each_map (IsTrue start c before stage) (IsTrue start c after stage) s.voices (true_on stage) under.heard;
      few = under.few;
      missing = under.missing;
      committed = λ beyond place low.
          committed start shape c before after w step on.to to place (under.committed beyond place low);
      global = under.global;
    }

    pub list_on : IsUnderWay start c after
    list_on =
        main_goes start shape c before after w step on.to to
        (subst (IsMaster start) state_is (told_master start s more w.master))
        (inl (stage, subst (IsAt start c stage after) (sym (told_same s more under.front) ∙ state_is) under_on))
        (λ one is.
        sent_letter start shape c before after w step on.to to one
        (all_letters start c shape after s on.at w.master.member listed here one (subst (IsIn one) sends_are is)))

  -- and at the end
  module _ (over : IsOver start c before s) where
    over_listing : IsListed start c s
    over_listing = over_listed start c s w.master over.phase_is (go over.front)
      where
        go : (s.front ≡ None) ⊎ IsLeft start c before s → (s.front ≡ None) ⊎ (s.front ≡ Some (ended_of c))
        go (inl none) = inl none
        go (inr left) = inr left.front

    same_over : (q : MasterState) → q.phase ≡ s.phase
        → IsAnswered c after ⊎ (IsIn (report_of c) (after.under_way main 0) ⊎ IsLeft start c after q)
        → (q.front ≡ None) ⊎ IsLeft start c after q → IsOver start c after q
    same_over q phase report front = record {
      phase_is = phase ∙ over.phase_is;
      committed = λ place low. committed start shape c before after w step on.to to place (over.committed place low);
      report = report;
      front = front;
    }

    told_phase : (b : Bool) → (told_if s b).phase ≡ s.phase
    told_phase true = refl
    told_phase false = refl

    over_state : (s.front ≡ None) ⊎ IsLeft start c before s → IsOver start c after now.state
    unfolding more
    over_state (inl none) =
        subst (IsOver start c after) (sym (told_same s more none) ∙ state_is)
        (same_over s refl (report over.report) (inl none))
      where
        report : IsAnswered c before ⊎ (IsIn (report_of c) (before.under_way main 0) ⊎ IsLeft start c before s)
            → IsAnswered c after ⊎ (IsIn (report_of c) (after.under_way main 0) ⊎ IsLeft start c after s)
        report (inl told) =
            inl (answered_stays start c before after w step (shell_off start shape c before after w step on.to to) told)
        report (inr (inl coming)) =
            inr (inl (stays_coming start shape c before after w step on.to to main 0 (report_of c)
            (λ same. absurd (cc same)) coming))
        report (inr (inr left)) = absurd (cc (sym none ∙ left.front))
    over_state (inr left) =
        subst (IsOver start c after) state_is
        (same_over (told_if s more) (told_phase more) (inr goes.report) goes.front)
      where
        goes : ReportGoes start c after (told_if s (nat_lt (on.at + PORTION) (length (master_sends s))))
        goes =
            report_goes start c shape after s on.at w.master over_listing left.front (λ more. left.global)
            (subst (λ list. IsIn (report_of c) (drop on.at list))
            (sym (over_list start c s w.master over.phase_is
            ∙ ap (λ (f : Option Ended). front_sends 1 (first start) f) left.front))
            (report_left start c left.global on.at on.low)) here

    pub over_on : IsUnderWay start c after
    over_on =
        main_goes start shape c before after w step on.to to
        (subst (IsMaster start) state_is (told_master start s more w.master))
        (inr (over_state over.front))
        (λ one is.
        sent_letter start shape c before after w step on.to to one
        (all_letters start c shape after s on.at w.master.member over_listing here one
        (subst (IsIn one) sends_are is)))
