-- What decides and reports a transaction: the epochs of a node decide as many as are held and asked for, and the
-- client's side reports, and asks for the commit of, as many as are open and begin.
use Rattle.std.proofs.Common.{◌≡◌, ◌≤◌, ◌+◌, ◌||◌, ℕ, Bool, true, false, List, [], ap, arith, refl}
use Rattle.std.proofs.lemmas.Bool.{true≢false}
use Rattle.run_theory.specs.Lists.{Each}
use Rattle.run_theory.proofs.Pasts.{each_map}
use Rattle.sig_core.specs.declared.mark.Mark.{Mark}
use Rattle.sig_core.specs.declared.mark.Mark.TheVariants.{CutOff, Installed, Stopped}
use Rattle.sig_core.specs.declared.member.HostId.{HostId}
use Rattle.sig_core.specs.declared.member.Member.{Member}
use Rattle.sig_core.specs.declared.member.TxId.{TxId}
use Rattle.sig_core.specs.declared.outcome.StopCause.{StopCause}
use Rattle.sig_core.specs.declared.place.BlockId.{BlockId}
use Rattle.sig_core.specs.declared.place.BlockId.TheVariants as block
use Rattle.sig_core.specs.declared.signal.Body.{Body}
use Rattle.sig_core.specs.declared.reply.ApiReply.{ApiReply}
use Rattle.sig_core.specs.declared.signal.Body.TheVariants.{Client, Membership}
use Rattle.sig_core.specs.declared.signal.client.ClientSignal.TheVariants.{TcBeginConf}
use Rattle.sig_core.specs.declared.signal.membership.MembershipSignal.TheVariants.{ArbitReq}
use Rattle.sig_core.specs.declared.signal.Signal.{Signal}
use Rattle.sig_core.specs.declared.view.View.{View}
use Rattle.sig_core.specs.Step.{Effects}
use Rattle.tc_block.specs.Complete.{one_if}
use Rattle.api_views.specs.Client.{client_row}
use Rattle.api_views.specs.Members.{noted}
use Rattle.api_block.specs.State.{with_replies}
use Rattle.api_views.specs.State.{ClientState, with_api}
use Rattle.arbiter_block.specs.Arbiter.{ArbiterState, arbit_if, arbit_row, arbiter_row, arbiter_table, is_granted}
use Rattle.dih_node.specs.Dih.{dih_row}
use Rattle.dih_node.specs.Orders as dih
use Rattle.node_views.specs.Blocks.{parts_entered, parts_row}
use Rattle.node_views.specs.Replies.{giving}
use Rattle.lqh_saver.specs.State.{saving}
use Rattle.node_views.specs.Parts.{ldm_row, main_row, shell_row, tc_entered, tc_row}
use Rattle.node_views.specs.declared.ldm_part.LdmPart.{LdmPart}
use Rattle.node_views.specs.declared.main_part.MainPart.{MainPart}
use Rattle.node_views.specs.declared.parts.Parts.{Parts}
use Rattle.node_views.specs.declared.parts.Parts.TheVariants.{Ldm, Main, Shell, Tc}
use Rattle.node_views.specs.declared.shell_part.ShellPart.{ShellPart}
use Rattle.node_views.specs.declared.tc_part.TcPart.{TcPart}
use Rattle.takeover_block.specs.Takeover.{takeover_row}
use Rattle.tc_views.specs.Coordinator.{coordinator_row}
use Rattle.tc_views.specs.Views as coordinator
use Rattle.outcome_laws.specs.Counts.{count_held, count_open, count_sent, count_unwished, is_asking, is_begin}
use Rattle.outcome_laws.specs.Counts.{is_decision, is_report, is_wish}
use Rattle.outcome_laws.proofs.client.ReportsAndWishes.{is_down_answer, is_down_report, noted_open, noted_unwished}
use Rattle.outcome_laws.proofs.client.ReportsAndWishes.{reports_few}
use Rattle.outcome_laws.proofs.client.ReportsAndWishes.{wishes_or_downs_few}
use Rattle.outcome_laws.proofs.epochs.DecisionsCounted.{decides_few, installs_count_held}
use Rattle.outcome_laws.proofs.knowledge.MasterTellsNothing.{master_tells_nothing}
use Rattle.outcome_laws.proofs.knowledge.MembershipTellsNothing.{membership_installs_nothing, membership_tells_nothing}
use Rattle.outcome_laws.proofs.knowledge.TellsNothing.{untold_uncounted}
use Rattle.outcome_laws.proofs.knowledge.Parts.{arbiter_tells_nothing}
use Rattle.outcome_laws.proofs.client.SendsNoAnswers.{client_decides_none}
use Rattle.outcome_laws.proofs.once.Counted.{count_none, is_counted, uncounted_wish}
use Rattle.outcome_laws.proofs.once.CoordinatorScale.{no_body, no_sends, uncounted_none}
use Rattle.outcome_laws.proofs.once.Scales.{AreLight, IsLight, Scale, count_marked}
use Rattle.outcome_laws.proofs.rows.MarkNoOutcome.{rows_mark_none}
use Rattle.outcome_laws.proofs.knowledge.MarksOfNoOutcome.{IsNoOutcome, none_decided}
use Rattle.outcome_laws.proofs.takeovers.NoMarks.{takeover_marks_nothing}
use Rattle.outcome_laws.proofs.coordinators.NoMarks.{coordinator_marks_none}

-- any host
abbrev pub IsAny : Parts → Type 0
IsAny parts = Unit {0}

-- what epochs hold of a transaction
abbrev pub may_decide : TxId → Parts → ℕ
may_decide tx (Tc p) = count_held tx p.dih
may_decide tx parts = 0

abbrev pub of_decisions : TxId → Scale
of_decisions tx = record { sent = no_body; marked = is_decision tx; may = may_decide tx; taken = is_asking tx }

module _ (tx : TxId) where
  abbrev Decides : ℕ → Effects → Parts → Type 0
  Decides limit effects parts = IsLight (of_decisions tx) IsAny limit effects parts

  undecided_none : (marks : List Mark) → Each IsNoOutcome marks → count_marked (is_decision tx) marks ≡ 0
  undecided_none marks none =
      count_none (is_decision tx) marks
      (each_map IsNoOutcome (λ mark. is_decision tx mark ≡ false) marks (λ mark is. none_decided tx mark is) none)

  shell_undecided : (q : ShellPart) (b : BlockId) (x : Signal)
      → count_marked (is_decision tx) (shell_row q b x).effects.marks ≡ 0
  unfolding shell_row
  shell_undecided q block.Api x =
      let marks = (client_row q.client x).effects.marks in
      count_none (is_decision tx) marks
      (each_map (λ (mark : Mark). (tx : TxId) → is_decision tx mark ≡ false) (λ mark. is_decision tx mark ≡ false) marks
      (λ mark is. is tx) (client_decides_none q.client x))
  shell_undecided q block.Arbiter x = undecided_none _ (arbiter_tells_nothing q.arbiter x).1
  shell_undecided q _ x = refl

  main_undecided : (q : MainPart) (b : BlockId) (x : Signal)
      → count_marked (is_decision tx) (main_row q b x).effects.marks ≡ 0
  unfolding main_row
  main_undecided q block.Qmgr x = undecided_none _ (membership_tells_nothing q.qmgr x).1
  main_undecided q block.GcpMaster x = undecided_none _ (master_tells_nothing q.master x).1
  main_undecided q _ x = refl

  ldm_undecided : (q : LdmPart) (b : BlockId) (x : Signal)
      → count_marked (is_decision tx) (ldm_row q b x).effects.marks ≡ 0
  unfolding ldm_row
  ldm_undecided q block.Lqh x = undecided_none _ (rows_mark_none (saving q.replica q.saver) x)
  ldm_undecided q _ x = refl

  bare : (effects : Effects) → effects.marks ≡ [] → count_marked (is_decision tx) effects.marks ≡ 0
  bare effects is = ap (count_marked (is_decision tx)) is

  tc_bare : (q : TcPart) (view : View) → count_marked (is_decision tx) (tc_entered q view).effects.marks ≡ 0
  unfolding coordinator.install_row dih.install_row
  tc_bare q view = refl

  tc_decides : (q : TcPart) (b : BlockId) (x : Signal)
      → Decides (count_held tx q.dih + one_if (is_asking tx x.body)) (tc_row q b x).effects (Tc (tc_row q b x).state)
  unfolding tc_row
  tc_decides q block.Tc x =
      let effects = (coordinator_row q.coordinator x).effects in
      record {
        keeps = tt;
        below = omega (arith, no_sends effects.sends, bare effects (coordinator_marks_none q.coordinator x));
      }
  tc_decides q block.Takeover x =
      let effects = (takeover_row q.takeover x).effects in
      record {
        keeps = tt;
        below = omega (arith, no_sends effects.sends, bare effects (takeover_marks_nothing q.takeover x));
      }
  tc_decides q block.Dih x =
      record {
        keeps = tt;
        below = omega (arith, no_sends (dih_row q.dih x).effects.sends, decides_few tx q.dih x);
      }
  tc_decides q _ x = record { keeps = tt; below = omega arith }

  other_decides : (effects : Effects) (now : Parts) (asked : ℕ) → may_decide tx now ≡ 0
      → count_marked (is_decision tx) effects.marks ≡ 0 → Decides (0 + asked) effects now
  other_decides effects now asked same none =
      record { keeps = tt; below = omega (arith, no_sends effects.sends, none, same) }

  pub decisions_light : AreLight (of_decisions tx) IsAny
  decisions_light = record {
    row = λ parts x any. row parts x;
    enters = λ parts view any. enters parts view;
    tells = λ parts any. tt;
    tells_same = tells_same;
    stops = λ cause. refl;
    installs = λ view. refl;
    cuts = λ host. refl;
  }
    where
      row : (parts : Parts) (x : Signal)
          → Decides (may_decide tx parts + one_if (is_asking tx x.body)) (parts_row parts x).effects
          (parts_row parts x).state
      row (Tc q) x = tc_decides q x.to.block x
      row (Shell q) x = other_decides _ _ _ refl (shell_undecided q x.to.block x)
      row (Main q) x = other_decides _ _ _ refl (main_undecided q x.to.block x)
      row (Ldm q) x = other_decides _ _ _ refl (ldm_undecided q x.to.block x)

      enters : (parts : Parts) (view : View)
          → Decides (may_decide tx parts) (parts_entered parts view).effects (parts_entered parts view).state
      enters (Tc q) view =
          let effects = (tc_entered q view).effects in
          record {
            keeps = tt;
            below =
                omega (
                  arith,
                  no_sends effects.sends,
                  tc_bare q view,
                  installs_count_held tx q.dih view.number,
                );
          }
      enters (Shell q) view = other_decides _ _ 0 refl refl
      enters (Main q) view = other_decides _ _ 0 refl (undecided_none _ (membership_installs_nothing q.qmgr view).1)
      enters (Ldm q) view = other_decides _ _ 0 refl refl

      tells_same : (parts : Parts) → may_decide tx (giving parts []) ≡ may_decide tx parts
      tells_same (Tc q) = refl
      tells_same (Shell q) = refl
      tells_same (Main q) = refl
      tells_same (Ldm q) = refl

-- the shell's host
abbrev pub IsShell : Parts → Type 0
IsShell (Shell p) = Unit {0}
IsShell parts = ⊥

abbrev pub in_client : (ClientState → ℕ) → Parts → ℕ
in_client may (Shell p) = may p.client
in_client may parts = 0

arbiter_bare : (s : ArbiterState) (x : Signal) → (arbiter_row s x).effects.marks ≡ []
unfolding arbit_row
arbiter_bare s x = by x.body
  where
    asked : (number : ℕ) (members : List Member) (b : Bool)
        → (arbit_if s x.member.node number members b).effects.marks ≡ []
    asked number members true = refl
    asked number members false = refl

    by : (body : Body) → (arbiter_table s x.member.node body).effects.marks ≡ []
    by (Membership (ArbitReq number members joining)) = asked number members (is_granted s number members joining)
    by _ = refl

-- what the client's side sends and marks of some kinds, which no host marks itself, nor the arbitrator sends
module _ (sent : Body → Bool) (marked : Mark → Bool) (may : ClientState → ℕ) (taken : Body → Bool) where
  abbrev pub of_client : Scale
  of_client = record { sent = sent; marked = marked; may = in_client may; taken = taken }

  pub record IsOfClient : Type 0 where
    pub counts : (body : Body) → is_counted body ≡ false → sent body ≡ false
    pub stops : (cause : StopCause) → marked (Stopped cause) ≡ false
    pub installs : (view : View) → marked (Installed view) ≡ false
    pub cuts : (host : HostId) → marked (CutOff host) ≡ false
    pub rows : (s : ClientState) (x : Signal)
        → count_marked marked (client_row s x).effects.marks
        + (count_sent sent (client_row s x).effects.sends + may (client_row s x).state)
        ≤ may s + one_if (taken x.body)
    pub notes : (s : ClientState) (view : View) → may (noted s view) ≡ may s
    pub tells : (s : ClientState) (replies : List ApiReply) → may (with_api s (with_replies s.api replies)) ≡ may s

  module _ (is : IsOfClient) where
    abbrev Weighs : ℕ → Effects → Parts → Type 0
    Weighs limit effects parts = IsLight of_client IsShell limit effects parts

    shell_is : (q : ShellPart) (b : BlockId) (x : Signal)
        → Weighs (may q.client + one_if (taken x.body)) (shell_row q b x).effects (Shell (shell_row q b x).state)
    unfolding shell_row
    shell_is q block.Api x = record { keeps = tt; below = is.rows q.client x }
    shell_is q block.Arbiter x =
        let effects = (arbiter_row q.arbiter x).effects in
        record {
          keeps = tt;
          below =
              omega (
                arith,
                ap (count_marked marked) (arbiter_bare q.arbiter x),
                uncounted_none sent is.counts effects.sends (untold_uncounted _ (arbiter_tells_nothing q.arbiter x).0),
              );
        }
    shell_is q _ x = record { keeps = tt; below = omega arith }

    pub client_light : AreLight of_client IsShell
    client_light = record {
      row = row;
      enters = enters;
      tells = tells;
      tells_same = tells_same;
      stops = is.stops;
      installs = is.installs;
      cuts = is.cuts;
    }
      where
        row : (parts : Parts) (x : Signal) → IsShell parts
            → Weighs (in_client may parts + one_if (taken x.body)) (parts_row parts x).effects (parts_row parts x).state
        row (Shell q) x shell = shell_is q x.to.block x
        row (Main q) x shell = absurd shell
        row (Tc q) x shell = absurd shell
        row (Ldm q) x shell = absurd shell

        enters : (parts : Parts) (view : View) → IsShell parts
            → Weighs (in_client may parts) (parts_entered parts view).effects (parts_entered parts view).state
        enters (Shell q) view shell = record { keeps = tt; below = omega (arith, is.notes q.client view) }
        enters (Main q) view shell = absurd shell
        enters (Tc q) view shell = absurd shell
        enters (Ldm q) view shell = absurd shell

        tells : (parts : Parts) → IsShell parts → IsShell (giving parts [])
        tells (Shell q) shell = tt
        tells (Main q) shell = absurd shell
        tells (Tc q) shell = absurd shell
        tells (Ldm q) shell = absurd shell

        tells_same : (parts : Parts) → in_client may (giving parts []) ≡ in_client may parts
        tells_same (Shell q) = is.tells q.client []
        tells_same (Main q) = refl
        tells_same (Tc q) = refl
        tells_same (Ldm q) = refl

module _ (tx : TxId) where
  -- it reports
  pub reports_client : IsOfClient no_body (is_report tx) (count_open tx) (is_begin tx)
  reports_client = record {
    counts = λ body none. refl;
    stops = λ cause. refl;
    installs = λ view. refl;
    cuts = λ host. refl;
    rows = λ s x. omega (arith, no_sends (client_row s x).effects.sends, reports_few tx s x);
    notes = noted_open tx;
    tells = λ s replies. refl;
  }

  -- it asks for the commit, or reports that the cluster is down, unless it is told of that
  abbrev pub begins_or_downs : Body → Bool
  begins_or_downs body = is_begin tx body || is_down_answer tx body

  either_one : (a b : Bool) → (a ≡ true → b ≡ false) → one_if a + one_if b ≤ one_if (a || b)
  either_one false b apart = omega arith
  either_one true true apart = absurd (true≢false (apart refl))
  either_one true false apart = omega arith

  begin_apart : (body : Body) → is_begin tx body ≡ true → is_down_answer tx body ≡ false
  begin_apart (Client (TcBeginConf name other)) is = refl
  begin_apart body is = cc

  pub wishes_client : IsOfClient (is_wish tx) (is_down_report tx) (count_unwished tx) begins_or_downs
  wishes_client = record {
    counts = uncounted_wish tx;
    stops = λ cause. refl;
    installs = λ view. refl;
    cuts = λ host. refl;
    rows = λ s x.
        omega (
          arith,
          wishes_or_downs_few tx s x,
          either_one (is_begin tx x.body) (is_down_answer tx x.body) (begin_apart x.body),
        );
    notes = noted_unwished tx;
    tells = λ s replies. refl;
  }
