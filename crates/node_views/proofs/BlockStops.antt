-- The blocks of a host mark that it stops just where they have it stop. A block more is a line more.
use Rattle.std.proofs.Common.{◌≡◌, List, refl, sym, subst, inl, inr, ◌⊎◌, ap, ◌∙◌}
use Rattle.std.specs.Prelude.{None, Some}
use Rattle.sig_core.specs.declared.mark.Mark.{Mark}
use Rattle.sig_core.specs.declared.outcome.StopCause.{StopCause}
use Rattle.sig_core.specs.declared.outcome.StopCause.TheVariants.{Clock, Disk, Excluded, Killed, Memory, NoGroup}
use Rattle.sig_core.specs.declared.outcome.StopCause.TheVariants.{Sibling}
use Rattle.sig_core.specs.declared.outs.Outgoing.{Outgoing}
use Rattle.sig_core.specs.declared.place.BlockId.{BlockId}
use Rattle.sig_core.specs.declared.place.BlockId.TheVariants as block
use Rattle.sig_core.specs.declared.signal.Body.{Body}
use Rattle.sig_core.specs.declared.signal.Body.TheVariants.{Membership}
use Rattle.sig_core.specs.declared.signal.Signal.{Signal}
use Rattle.sig_core.specs.declared.signal.membership.MembershipSignal.TheVariants.{StopSet}
use Rattle.sig_core.specs.declared.view.View.{View}
use Rattle.api_views.specs.Words.{is_client_mark}
use Rattle.api_views.proofs.Walk.{client_words}
use Rattle.arbiter_block.specs.Words.{is_arbiter_mark}
use Rattle.arbiter_block.proofs.Walk.{arbiter_words}
use Rattle.dih_node.specs.Orders as dih
use Rattle.dih_node.specs.Words.{is_dih_mark}
use Rattle.dih_node.proofs.Walk.{dih_words}
use Rattle.lqh_saver.specs.State.{saving}
use Rattle.lqh_saver.proofs.StepLemmas.{saver_marks}
use Rattle.lqh_saver.proofs.Walk.{rows_words}
use Rattle.lqh_views.specs.Words.{is_replica_mark}
use Rattle.qmgr_block.specs.Decide.{stop_row}
use Rattle.qmgr_block.specs.Qmgr.{qmgr_installed, qmgr_row, qmgr_table}
use Rattle.qmgr_block.specs.State.{QmgrState}
use Rattle.qmgr_block.specs.Stop.{body_stops, qmgr_stops}
use Rattle.qmgr_block.proofs.Walk.{qmgr_each, qmgr_installed_each}
use Rattle.takeover_block.specs.Words.{is_takeover_mark}
use Rattle.takeover_block.proofs.Walk.{takeover_words}
use Rattle.tc_views.specs.Views as coordinator
use Rattle.tc_views.specs.Words.{is_coordinator_mark}
use Rattle.tc_views.proofs.Walk.{coordinator_words}
use Rattle.node_views.specs.Blocks.{parts_entered, parts_row, stop_at}
use Rattle.node_views.specs.declared.ldm_part.LdmPart.{LdmPart}
use Rattle.node_views.specs.declared.main_part.MainPart.{MainPart}
use Rattle.node_views.specs.declared.parts.Parts.{Parts}
use Rattle.node_views.specs.declared.parts.Parts.TheVariants.{Shell, Main, Tc, Ldm}
use Rattle.node_views.specs.declared.shell_part.ShellPart.{ShellPart}
use Rattle.node_views.specs.declared.tc_part.TcPart.{TcPart}
use Rattle.node_views.specs.Parts.{ldm_row, main_row, main_stops, shell_row, tc_row}
use Rattle.node_views.specs.Stop.{stop_in}
use Rattle.node_views.proofs.MasterStops.{master_tells}
use Rattle.node_views.proofs.StopMarks.{GoesOn, none_among, none_stops, stop_before}

-- nothing is asked of what is sent
abbrev Anything : Outgoing → Type 0
Anything sent = Unit {0}

-- the membership is ordered to stop, or has its host go on
module _ (s : QmgrState) (x : Signal) where
  abbrev Tells : Body → Type 0
  Tells body = stop_in (qmgr_table s x.from.0 x.member x.view.number body).effects.marks ≡ body_stops body

  ordered : (cause : StopCause) → Tells (Membership (StopSet cause))
  unfolding stop_row
  ordered (NoGroup group) = refl
  ordered (Excluded number) = refl
  ordered Killed = refl
  ordered Memory = refl
  ordered Clock = refl
  ordered (Disk count) = refl
  ordered (Sibling host) = refl

  is_ordered : (body : Body) → ((cause : StopCause) × (body ≡ Membership (StopSet cause))) ⊎ (body_stops body ≡ None)
  is_ordered (Membership (StopSet cause)) = inl (cause, refl)
  is_ordered body = inr refl

  goes_on : body_stops x.body ≡ None → stop_in (qmgr_row s x).effects.marks ≡ None
  goes_on none =
      none_stops (qmgr_row s x).effects.marks
      (qmgr_each s x Anything GoesOn (record {
        beats = λ next is behind. tt;
        tells = λ member suspects. tt;
        requests = λ set member there. tt;
        questions = λ number members joining. tt;
        fences = λ set is may. (tt, (tt, (tt, tt)));
        refuses = λ set is may. tt;
        confirms = λ at promise is place there up. (tt, refl);
        settles = λ p stands. refl;
        orders_stop = λ p member cause stands. tt;
        goes_down = λ group is. refl;
        stops = λ cause is. absurd (stops_not cause (sym none ∙ ap body_stops is));
        is_full = λ member own is. tt;
        has_been = λ member own is. tt;
        orders = λ at is own oldest. record {
          commits = λ member there. tt;
          takeover = tt;
          master = tt;
          client = tt;
          copies = λ member there. tt;
          works = λ some. tt;
          goes_on = λ left. tt;
        };
      })).1
    where
      stops_not : (cause : StopCause) → None ≡ Some cause → ⊥
      stops_not cause is = cc

  qmgr_tells : stop_in (qmgr_row s x).effects.marks ≡ qmgr_stops x
  qmgr_tells = by (is_ordered x.body)
    where
      by : ((cause : StopCause) × (x.body ≡ Membership (StopSet cause))) ⊎ (body_stops x.body ≡ None) → Tells x.body
      by (inl (cause, is)) = subst Tells (sym is) (ordered cause)
      by (inr none) = goes_on none ∙ sym none

pub parts_tell : (parts : Parts) (x : Signal) → stop_in (parts_row parts x).effects.marks ≡ stop_at parts x
unfolding shell_row main_row tc_row ldm_row
parts_tell parts x = by parts
  where
    shell : (p : ShellPart) (at : BlockId) → stop_in (shell_row p at x).effects.marks ≡ None
    shell p block.Api = none_among is_client_mark (λ cause. refl) _ (client_words p.client x).1
    shell p block.Arbiter = none_among is_arbiter_mark (λ cause. refl) _ (arbiter_words p.arbiter x).1
    shell p _ = refl

    main : (p : MainPart) (at : BlockId) → stop_in (main_row p at x).effects.marks ≡ main_stops p at x
    main p block.Qmgr = qmgr_tells p.qmgr x
    main p block.GcpMaster = master_tells p.master x
    main p _ = refl

    tc : (p : TcPart) (at : BlockId) → stop_in (tc_row p at x).effects.marks ≡ None
    tc p block.Tc = none_among is_coordinator_mark (λ cause. refl) _ (coordinator_words.takes p.coordinator x).1
    tc p block.Takeover = none_among is_takeover_mark (λ cause. refl) _ (takeover_words.takes p.takeover x).1
    tc p block.Dih = none_among is_dih_mark (λ cause. refl) _ (dih_words.0 p.dih x).1
    tc p _ = refl

    ldm : (p : LdmPart) (at : BlockId) → stop_in (ldm_row p at x).effects.marks ≡ None
    ldm p block.Lqh =
        saver_marks (saving p.replica p.saver) x (λ (marks : List Mark). stop_in marks ≡ None)
        (none_among is_replica_mark (λ cause. refl) _ (rows_words p.replica x).1) refl
    ldm p _ = refl

    by : (q : Parts) → stop_in (parts_row q x).effects.marks ≡ stop_at q x
    by (Shell p) = shell p x.to.block
    by (Main p) = main p x.to.block
    by (Tc p) = tc p x.to.block
    by (Ldm p) = ldm p x.to.block

-- none has it stop where a view is installed
pub entered_goes_on : (parts : Parts) (view : View) → stop_in (parts_entered parts view).effects.marks ≡ None
entered_goes_on (Shell p) view = refl
entered_goes_on (Main p) view =
    none_stops (qmgr_installed p.qmgr view).effects.marks
    (qmgr_installed_each p.qmgr view Anything GoesOn
    (record { orders = λ oldest. tt; works = λ other some. tt })).1
entered_goes_on (Tc p) view =
    let before = (coordinator.install_row p.coordinator view).effects.marks in
    let behind = (dih.install_row p.dih view.number).effects.marks in
    stop_before before behind (none_among is_dih_mark (λ cause. refl) behind (dih_words.1 p.dih view.number).1)
    ∙ none_among is_coordinator_mark (λ cause. refl) before (coordinator_words.installs p.coordinator view).1
entered_goes_on (Ldm p) view = refl
