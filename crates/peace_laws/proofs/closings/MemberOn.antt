-- A closing goes on where a member takes an order: what was on its way to it is answered.
use Rattle.std.proofs.Common.{◌≡◌, ◌≢◌, ◌<◌, ◌⊎◌, ◌∙◌, inl, inr, ℕ, Bool, true, false, List, [], ◌∷◌, refl, sym}
use Rattle.std.proofs.Common.{ap, subst, map}
use Rattle.std.proofs.lemmas.Bool.{false≢true}
use Rattle.std.specs.Prelude.{None}
use Rattle.frag_map.specs.Shape.{IsShape}
use Rattle.gcp_master.specs.declared.orders.Order.{Order}
use Rattle.gcp_master.specs.declared.orders.Order.TheVariants as order
use Rattle.gcp_master.specs.declared.voices.Voice.{Voice}
use Rattle.gcp_master.specs.State.{MasterState}
use Rattle.node_views.specs.declared.parts.Parts.{Parts}
use Rattle.run_theory.specs.Lists.{Each, IsIn}
use Rattle.run_theory.proofs.Pasts.{each_in, each_map}
use Rattle.sig_core.specs.declared.member.Member.{Member}
use Rattle.sig_core.specs.declared.outs.Outgoing.{Outgoing}
use Rattle.sig_core.specs.declared.place.Place.{Place}
use Rattle.sig_core.specs.Step.{Step}
use Rattle.world_core.specs.Hosts.{host_for, member_at}
use Rattle.world_core.specs.Start.{Start, made}
use Rattle.calm_laws.proofs.places.Main.{main_member}
use Rattle.peace_laws.specs.Closing.{Course, HasRows, host_in, main}
use Rattle.peace_laws.specs.Moments.{IsTaken, Moment, Takes, behind}
use Rattle.peace_laws.specs.UnderWay.{AnOrder, Closes, Commits, CommittedAt, Copies, HasCommitted, HasMember}
use Rattle.peace_laws.specs.UnderWay.{IsAnswer, IsAnswered, IsAt, IsLeft, IsLetter, IsOrder, IsOver, IsOwed, IsTrue}
use Rattle.peace_laws.specs.UnderWay.{IsUnderWay}
use Rattle.peace_laws.specs.UnderWay.{Prepares, Saves, Stage, answer, answer_of, going_on, is_ordered, order_of}
use Rattle.peace_laws.specs.UnderWay.{order_to, report_of}
use Rattle.peace_laws.proofs.closings.MemberMoves.{HasBlock, PartsMove, answers, parts_move}
use Rattle.peace_laws.proofs.closings.OrderLists.{main_reached}
use Rattle.peace_laws.proofs.closings.WayOn.{answered_stays, behind_part, client_stays, committed_on, letters_on}
use Rattle.peace_laws.proofs.closings.WayOn.{main_apart, shell_apart, stays_true, stepped, told_stays}

-- an order of a stage is one of the closing, and is answered
stage_order : (start : Start) (c : Course) (stage : Stage) → IsOrder c (order_of start c stage)
stage_order start c Prepares = (refl, refl)
stage_order start c Commits = (refl, refl)
stage_order start c Closes = tt
stage_order start c Saves = tt
stage_order start c Copies = tt

one_answer : (start : Start) (c : Course) (stage : Stage) (rows : Bool) → is_ordered stage rows ≡ true
    → answers rows (order_of start c stage) ≡ answer_of c stage ∷ []
one_answer start c Prepares false is = refl
one_answer start c Commits false is = refl
one_answer start c Closes false is = refl
one_answer start c Closes true is = refl
one_answer start c Saves true is = refl
one_answer start c Copies false is = refl
one_answer start c stage rows is = absurd (false≢true is)

rows_say : (committed : Type 0) (order : Order) → Each (IsAnswer committed) (answers true order)
rows_say committed order.State = tt
rows_say committed (order.Prepare epoch next) = tt
rows_say committed (order.Commit epoch next) = tt
rows_say committed (order.Close epoch) = (tt, tt)
rows_say committed (order.Save epoch) = (tt, tt)
rows_say committed (order.Copy epoch mask) = tt
rows_say committed (order.Done epoch) = tt
rows_say committed order.Walk = tt
rows_say committed order.Switch = tt

-- what comes of an entry of a list
record Mapped {A B : Type 0} (P : A → Type 0) (f : A → B) (y : B) : Type 0 where
  x : A
  is : y ≡ f x
  so : P x

mapped_in : {A B : Type 0} (P : A → Type 0) (f : A → B) (y : B) (xs : List A) → Each P xs → IsIn y (map f xs)
    → Mapped P f y
mapped_in P f y [] all is = absurd is
mapped_in P f y (x ∷ xs) all (inl same) = record { x = x; is = same; so = all.0 }
mapped_in P f y (x ∷ xs) all (inr later) = mapped_in P f y xs all.1 later

module _ (start : Start) (shape : IsShape start.shape) (c : Course) (before after : Moment)
    (w : IsUnderWay start c before) (step : Takes start before after)
    (taken : AnOrder start c step.sender step.host step.sent) where
  abbrev now : Step Parts
  now = stepped start c before after w step

  -- the host is that of a block of the member
  has_block : (place : ℕ) → place < start.shape.nodes → (rows : Bool) → step.host ≡ host_in place rows
      → HasBlock c rows (before.parts step.host)
  has_block place low false at =
      subst (λ h. HasMember c (before.parts h)) (sym at) (w.epochs place low)
  has_block place low true at = subst (λ h. HasRows (before.parts h)) (sym at) (w.rows place low)

  from_first : step.x.member.node ≡ 1
  from_first =
      ap (λ (m : Member). m.node)
      (step.says.member ∙ ap (member_at (made start)) taken.from ∙ main_member start 0 shape.nodes_some)

  -- it takes such an order as a member does
  moved : (order : Order) → IsOrder c order → (place : ℕ) → place < start.shape.nodes → (rows : Bool)
      → step.host ≡ host_in place rows → step.sent ≡ order_to order place rows
      → PartsMove c order rows (before.parts step.host) now
  moved order fits place low rows at is =
      parts_move c step.x order fits from_first
      (step.says.body ∙ ap (λ (one : Outgoing). one.body) is) rows (before.parts step.host)
      (ap (λ (to : Place). to.block) step.says.to ∙ ap (λ (one : Outgoing). one.to.block) is)
      (has_block place low rows at)

  move : PartsMove c taken.order taken.rows (before.parts step.host) now
  move = moved taken.order taken.fits taken.place taken.low taken.rows taken.to taken.is

  shell_off : 0 ≢ step.host
  shell_off same = shell_apart taken.place taken.rows (same ∙ taken.to)

  main_off : main ≢ step.host
  main_off same = main_apart taken.place taken.rows (same ∙ taken.to)

  own_is : behind step.host now.state ≡ now.state
  own_is = behind_part step.host shell_off now.state

  committed : (place : ℕ) → CommittedAt c before place → CommittedAt c after place
  committed =
      committed_on start c before after w step (λ was. subst (HasCommitted c) (sym own_is) (move.keeps was))

  after_own : after.parts step.host ≡ now.state
  after_own = step.own ∙ own_is

  -- what it answers is true
  says : Each (IsAnswer (CommittedAt c after taken.place)) (answers taken.rows taken.order)
  says = by taken.rows refl
    where
      by : (rows : Bool) → taken.rows ≡ rows
          → Each (IsAnswer (CommittedAt c after taken.place)) (answers rows taken.order)
      by true is = rows_say _ taken.order
      by false is =
          let at : step.host ≡ host_in taken.place false =
          taken.to ∙ ap (host_in taken.place) is in
          subst (λ (P : Parts). Each (IsAnswer (HasCommitted c P)) (answers false taken.order))
          (sym after_own ∙ ap after.parts at) (move.says is)

  new_letters : (one : Outgoing) → IsIn one now.effects.sends
      → IsLetter start c after step.host (host_for start one.to) one
  new_letters one is =
      let of : Mapped (IsAnswer (CommittedAt c after taken.place)) answer one =
      mapped_in (IsAnswer (CommittedAt c after taken.place)) answer one (answers taken.rows taken.order) says
      (subst (IsIn one) move.sends is) in
      inr (inl (record {
        place = taken.place;
        low = taken.low;
        rows = taken.rows;
        signal = of.x;
        fits = of.so;
        from = taken.to;
        to = ap (λ (o : Outgoing). host_for start o.to) of.is ∙ main_reached start shape;
        is = of.is;
      }))

  -- an answer of a stage is under way where its order was taken
  answered : (stage : Stage) (place : ℕ) → place < start.shape.nodes → (rows : Bool) → is_ordered stage rows ≡ true
      → host_in place rows ≡ step.host → order_to (order_of start c stage) place rows ≡ step.sent
      → IsIn (answer (answer_of c stage)) (after.under_way (host_in place rows) main)
  answered stage place low rows ordered at is =
      subst (λ h. IsIn (answer (answer_of c stage)) (after.under_way h main)) (sym at)
      (subst (λ h. IsIn (answer (answer_of c stage)) (after.under_way step.host h)) (main_reached start shape)
      (each_in (λ (o : Outgoing). IsIn o (after.under_way step.host (host_for start o.to)))
      (answer (answer_of c stage)) now.effects.sends step.sends
      (subst (IsIn (answer (answer_of c stage)))
      (sym ((moved (order_of start c stage) (stage_order start c stage) place low rows (sym at) (sym is)).sends
      ∙ ap (map answer) (one_answer start c stage rows ordered)))
      (inl refl))))

  -- what the master knows stays
  abbrev s : MasterState
  s = w.main_part.master

  owed_on : (stage : Stage) (place : ℕ) → place < start.shape.nodes → (rows : Bool) → is_ordered stage rows ≡ true
      → IsOwed start c stage before s place rows → IsOwed start c stage after s place rows
  owed_on stage place low rows ordered (inl heard) = inl heard
  owed_on stage place low rows ordered (inr (inl said)) = go (step.keeps (host_in place rows) main _ said)
    where
      go : IsIn (answer (answer_of c stage)) (after.under_way (host_in place rows) main)
          ⊎ IsTaken step.sender step.host step.sent (host_in place rows) main (answer (answer_of c stage))
          → IsOwed start c stage after s place rows
      go (inl still) = inr (inl still)
      go (inr gone) = absurd (main_off gone.1.0)
  owed_on stage place low rows ordered (inr (inr (inl coming))) = go (step.keeps main (host_in place rows) _ coming)
    where
      go : IsIn (order_to (order_of start c stage) place rows) (after.under_way main (host_in place rows))
          ⊎ IsTaken step.sender step.host step.sent main (host_in place rows)
          (order_to (order_of start c stage) place rows)
          → IsOwed start c stage after s place rows
      go (inl still) = inr (inr (inl still))
      go (inr gone) = inr (inl (answered stage place low rows ordered gone.1.0 gone.1.1))
  owed_on stage place low rows ordered (inr (inr (inr unsent))) = go (step.keeps main main _ unsent.coming)
    where
      go : IsIn (going_on unsent.at) (after.under_way main main)
          ⊎ IsTaken step.sender step.host step.sent main main (going_on unsent.at)
          → IsOwed start c stage after s place rows
      go (inl still) =
          inr (inr (inr (record { at = unsent.at; low = unsent.low; coming = still; left = unsent.left })))
      go (inr gone) = absurd (main_off gone.1.0)

  true_on : (stage : Stage) (voice : Voice) → IsTrue start c before stage voice → IsTrue start c after stage voice
  true_on Commits voice is = λ place low own. committed place (is place low own)
  true_on stage voice is = tt

  stage_on : (stage : Stage) → IsAt start c stage before s → IsAt start c stage after s
  stage_on stage at = record {
    phase_is = at.phase_is;
    front = at.front;
    owed = λ place low rows ordered. owed_on stage place low rows ordered (at.owed place low rows ordered);
    heard = each_map (IsTrue start c before stage) (IsTrue start c after stage) s.voices (true_on stage) at.heard;
    few = at.few;
    missing = at.missing;
    committed = λ beyond place low. committed place (at.committed beyond place low);
    global = at.global;
  }

  left_on : IsLeft start c before s → IsLeft start c after s
  left_on left = go (step.keeps main main _ left.coming)
    where
      go : IsIn (going_on left.at) (after.under_way main main)
          ⊎ IsTaken step.sender step.host step.sent main main (going_on left.at)
          → IsLeft start c after s
      go (inl still) =
          record { front = left.front; global = left.global; at = left.at; low = left.low; coming = still }
      go (inr gone) = absurd (main_off gone.1.0)

  over_on : IsOver start c before s → IsOver start c after s
  over_on over = record {
    phase_is = over.phase_is;
    committed = λ place low. committed place (over.committed place low);
    report = report over.report;
    front = front over.front;
  }
    where
      report_coming : IsIn (report_of c) (after.under_way main 0)
          ⊎ IsTaken step.sender step.host step.sent main 0 (report_of c)
          → IsIn (report_of c) (after.under_way main 0)
      report_coming (inl still) = still
      report_coming (inr gone) = absurd (shell_off gone.1.0)

      report : IsAnswered c before ⊎ (IsIn (report_of c) (before.under_way main 0) ⊎ IsLeft start c before s)
          → IsAnswered c after ⊎ (IsIn (report_of c) (after.under_way main 0) ⊎ IsLeft start c after s)
      report (inl told) = inl (answered_stays start c before after w step shell_off told)
      report (inr (inl coming)) = inr (inl (report_coming (step.keeps main 0 (report_of c) coming)))
      report (inr (inr left)) = inr (inr (left_on left))

      front : (s.front ≡ None) ⊎ IsLeft start c before s → (s.front ≡ None) ⊎ IsLeft start c after s
      front (inl none) = inl none
      front (inr left) = inr (left_on left)

  pub member_on : IsUnderWay start c after
  member_on = record {
    main_part = w.main_part;
    main_is = step.others main main_off ∙ w.main_is;
    master = w.master;
    stage = stages w.stage;
    shell = client_stays start c before after w step shell_off;
    told = told_stays start c before after w step shell_off;
    epochs = λ place low.
        stays_true start c before after w step (HasMember c)
        (λ was. subst (HasMember c) (sym own_is) (move.member was)) (host_in place false) (w.epochs place low);
    rows = λ place low.
        stays_true start c before after w step HasRows
        (λ was. subst HasRows (sym own_is) (move.has_rows was)) (host_in place true) (w.rows place low);
    letters = letters_on start c before after w step committed new_letters;
  }
    where
      stages : ((stage : Stage) × IsAt start c stage before s) ⊎ IsOver start c before s
          → ((stage : Stage) × IsAt start c stage after s) ⊎ IsOver start c after s
      stages (inl under) = inl (under.0, stage_on under.0 under.1)
      stages (inr over) = inr (over_on over)
