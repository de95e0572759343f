-- A step of the president's master in a closing.
use Rattle.std.proofs.Common.{◌≡◌, ◌≢◌, ◌⊎◌, ◌∙◌, inl, inr, ℕ, Bool, true, false, refl, sym, ap, subst}
use Rattle.std.specs.Prelude.{None}
use Rattle.frag_map.specs.Shape.{IsShape}
use Rattle.gcp_master.specs.Master.{master_row}
use Rattle.gcp_master.specs.Sends.{told_if}
use Rattle.gcp_master.specs.State.{MasterState}
use Rattle.node_views.specs.Blocks.{in_main, parts_row}
use Rattle.node_views.specs.Parts.{in_master, main_row}
use Rattle.node_views.specs.declared.main_part.MainPart.{MainPart}
use Rattle.node_views.specs.declared.parts.Parts.{Parts}
use Rattle.node_views.specs.declared.parts.Parts.TheVariants.{Main}
use Rattle.run_theory.specs.Lists.{Each, IsIn}
use Rattle.sig_core.specs.declared.outs.Outgoing.{Outgoing}
use Rattle.sig_core.specs.declared.place.BlockId.TheVariants as block
use Rattle.sig_core.specs.declared.place.Place.{Place}
use Rattle.sig_core.specs.declared.signal.Body.{Body}
use Rattle.sig_core.specs.declared.signal.Body.TheVariants.{Host}
use Rattle.sig_core.specs.declared.signal.host.HostSignal.TheVariants.{Continue}
use Rattle.sig_core.specs.declared.signal.Signal.{Signal}
use Rattle.sig_core.specs.Place.{checkpoints}
use Rattle.sig_core.specs.Step.{Step}
use Rattle.world_core.specs.Hosts.{host_for}
use Rattle.world_core.specs.Start.{Start}
use Rattle.peace_laws.specs.Closing.{Course, HasRows, host_in, main}
use Rattle.peace_laws.specs.Moments.{IsTaken, Moment, Takes, behind}
use Rattle.peace_laws.specs.UnderWay.{CommittedAt, GoingOn, HasCommitted, HasMember, IsAnswered, IsAt, IsLeft, IsLetter}
use Rattle.peace_laws.specs.UnderWay.{IsMaster, IsOver, IsUnderWay, Stage, going_on, report_of}
use Rattle.peace_laws.proofs.closings.Steps.{row_at, row_is}
use Rattle.peace_laws.proofs.closings.OrderLists.{IsSent}
use Rattle.peace_laws.proofs.closings.WayOn.{answered_stays, client_stays, committed_on, letters_on, stays_true}
use Rattle.peace_laws.proofs.closings.WayOn.{stepped, told_stays}

-- a master that has nothing left to tell
pub told_same : (s : MasterState) (more : Bool) → s.front ≡ None → told_if s more ≡ s
told_same s true none = refl
told_same s false none = ap (λ f. record s { front = f }) (sym none)

pub main_row_is : (p : MainPart) (x : Signal) → block.GcpMaster ≡ x.to.block
    → in_main (in_master p (master_row p.master x)) ≡ parts_row (Main p) x
unfolding main_row
main_row_is p x to = ap (λ b. row_at (Main p) b x) to ∙ row_is (Main p) x

-- the place that a master's own signal names
abbrev place_in : Body → ℕ
place_in (Host (Continue work at)) = at
place_in body = 0

pub same_place : (one other : ℕ) → going_on one ≡ going_on other → one ≡ other
same_place one other is = ap (λ (o : Outgoing). place_in o.body) is

module _ (start : Start) (shape : IsShape start.shape) (c : Course) (before after : Moment)
    (w : IsUnderWay start c before) (step : Takes start before after) (at : step.host ≡ main)
    (to : step.sent.to ≡ checkpoints 1) where
  abbrev s : MasterState
  s = w.main_part.master

  -- what the master does
  abbrev pub t : Step MasterState
  t = master_row s step.x

  before_is : before.parts step.host ≡ Main w.main_part
  before_is = ap before.parts at ∙ w.main_is

  stepped_is : in_main (in_master w.main_part t) ≡ stepped start c before after w step
  stepped_is =
      main_row_is w.main_part step.x (sym (ap (λ (p : Place). p.block) (step.says.to ∙ to)))
      ∙ ap (λ (p : Parts). parts_row p step.x) (sym before_is)

  after_is : after.parts main ≡ Main (record { qmgr = w.main_part.qmgr; master = t.state })
  after_is =
      ap after.parts (sym at)
      ∙ step.own
      ∙ ap (λ h. behind h (stepped start c before after w step).state) at
      ∙ ap (λ (q : Step Parts). q.state) (sym stepped_is)

  -- what it sends is under way
  pub arrive : Each (λ (one : Outgoing). IsIn one (after.under_way main (host_for start one.to))) t.effects.sends
  arrive =
      subst
      (λ (q : Step Parts). Each (λ (one : Outgoing). IsIn one (after.under_way main (host_for start one.to)))
      q.effects.sends) (sym stepped_is)
      (subst (λ h. Each (λ (one : Outgoing). IsIn one (after.under_way h (host_for start one.to)))
      (stepped start c before after w step).effects.sends) at step.sends)

  pub shell_off : 0 ≢ step.host
  shell_off same = absurd (cc (same, at))

  -- and nothing but that is new
  none_of : (P : Parts → Type 0) → (P (Main w.main_part) → ⊥) → P (before.parts step.host)
      → P (behind step.host (stepped start c before after w step).state)
  none_of P off was = absurd (off (subst P before_is was))

  pub committed : (place : ℕ) → CommittedAt c before place → CommittedAt c after place
  committed = committed_on start c before after w step (none_of (HasCommitted c) (λ none. none))

  pub main_goes : IsMaster start t.state
      → ((stage : Stage) × IsAt start c stage after t.state) ⊎ IsOver start c after t.state
      → ((one : Outgoing) → IsIn one t.effects.sends → IsLetter start c after main (host_for start one.to) one)
      → IsUnderWay start c after
  main_goes master stage new = record {
    main_part = record { qmgr = w.main_part.qmgr; master = t.state };
    main_is = after_is;
    master = master;
    stage = stage;
    shell = client_stays start c before after w step shell_off;
    told = told_stays start c before after w step shell_off;
    epochs = λ place low.
        stays_true start c before after w step (HasMember c) (none_of (HasMember c) (λ none. none))
        (host_in place false) (w.epochs place low);
    rows = λ place low.
        stays_true start c before after w step HasRows (none_of HasRows (λ none. none))
        (host_in place true) (w.rows place low);
    letters =
        letters_on start c before after w step committed
        (λ one is.
        subst (λ h. IsLetter start c after h (host_for start one.to) one) (sym at)
        (new one (subst (λ (q : Step Parts). IsIn one q.effects.sends) (sym stepped_is) is)));
  }

  -- what is on its way to another host stays there
  pub stays_coming : (i j : ℕ) (one : Outgoing) → j ≢ main → IsIn one (before.under_way i j)
      → IsIn one (after.under_way i j)
  stays_coming i j one apart is = go (step.keeps i j one is)
    where
      go : IsIn one (after.under_way i j) ⊎ IsTaken step.sender step.host step.sent i j one
          → IsIn one (after.under_way i j)
      go (inl still) = still
      go (inr gone) = absurd (apart (gone.1.0 ∙ at))

  -- what is of the list is a letter
  pub sent_letter : (one : Outgoing)
      → IsSent start c one ⊎ GoingOn start main (host_for start one.to) one
      → IsLetter start c after main (host_for start one.to) one
  sent_letter one (inl (inl order)) = inl order
  sent_letter one (inl (inr report)) = inr (inr (inr report))
  sent_letter one (inr on) = inr (inr (inl on))

  -- where the master stays as it is, so does what it has left to tell
  pub over_stays : ((at : ℕ) → IsIn (going_on at) (before.under_way main main)
      → IsIn (going_on at) (after.under_way main main))
      → IsOver start c before s → IsOver start c after s
  over_stays own over = record {
    phase_is = over.phase_is;
    committed = λ place low. committed place (over.committed place low);
    report = report over.report;
    front = front over.front;
  }
    where
      left_on : IsLeft start c before s → IsLeft start c after s
      left_on left = record {
        front = left.front;
        global = left.global;
        at = left.at;
        low = left.low;
        coming = own left.at left.coming;
      }

      report : IsAnswered c before ⊎ (IsIn (report_of c) (before.under_way main 0) ⊎ IsLeft start c before s)
          → IsAnswered c after ⊎ (IsIn (report_of c) (after.under_way main 0) ⊎ IsLeft start c after s)
      report (inl told) = inl (answered_stays start c before after w step shell_off told)
      report (inr (inl coming)) = inr (inl (stays_coming main 0 (report_of c) (λ same. absurd (cc same)) coming))
      report (inr (inr left)) = inr (inr (left_on left))

      front : (s.front ≡ None) ⊎ IsLeft start c before s → (s.front ≡ None) ⊎ IsLeft start c after s
      front (inl none) = inl none
      front (inr left) = inr (left_on left)
