-- Reports to takeovers: they are asked for, and ended. Takeovers alone ask for them, and rows alone end them.
use Rattle.std.proofs.Common.{◌≡◌, ◌==◌, ◌&&◌, ℕ, Bool, true, false, List, refl, sym, subst, ⊎_elim}
use Rattle.std.proofs.lemmas.Bool.{true≢false}
use Rattle.run_theory.specs.Lists.{Each}
use Rattle.run_theory.proofs.Pasts.{each_append, each_map}
use Rattle.sig_core.specs.declared.outs.Outgoing.{Outgoing}
use Rattle.sig_core.specs.declared.place.BlockId.{BlockId}
use Rattle.sig_core.specs.declared.place.BlockId.TheVariants as block
use Rattle.sig_core.specs.declared.place.Place.{Place}
use Rattle.sig_core.specs.declared.signal.Body.{Body}
use Rattle.sig_core.specs.declared.signal.Body.TheVariants.{Takeover}
use Rattle.sig_core.specs.declared.signal.Signal.{Signal}
use Rattle.sig_core.specs.declared.signal.takeover.TakeoverSignal.TheVariants.{LqhTransEnd, LqhTransReq}
use Rattle.sig_core.specs.declared.view.View.{View}
use Rattle.dih_node.specs.Dih.{dih_row}
use Rattle.dih_node.specs.Orders as dih
use Rattle.lqh_views.specs.WholeReports.{asks, ends}
use Rattle.takeover_block.specs.Takeover.{takeover_row}
use Rattle.tc_views.specs.Coordinator.{coordinator_row}
use Rattle.tc_views.specs.State.{CoordinatorState}
use Rattle.tc_views.specs.Views as coordinator
use Rattle.lqh_saver.specs.Saver.{saver_row}
use Rattle.lqh_saver.specs.State.{SavingState}
use Rattle.node_views.specs.declared.tc_part.TcPart.{TcPart}
use Rattle.node_views.specs.Parts.{tc_entered, tc_row}
use Rattle.view_laws.proofs.words.Coordinator.{coordinator_installs_kinds, coordinator_kinds}
use Rattle.view_laws.proofs.words.Sent.{IsOf}
use Rattle.view_laws.proofs.words.Takeover.{is_of_takeover, takeover_kinds}
use Rattle.view_laws.proofs.words.Turns.{is_of_coordinator}
use Rattle.request_laws.proofs.routes.BesideRows.{AreAside, IsAside, epochs_aside, epochs_install_aside, is_of_rows}
use Rattle.commit_laws.proofs.orders.Rows.{rows_order_none}
use Rattle.commit_laws.proofs.orders.Words.{IsNoOrder, is_quiet}

-- the rows of the node are asked for one
abbrev pub asks_at : ℕ → Place → Body → Bool
asks_at node to body = asks body && (to.node == node)

-- in the view of this number
abbrev pub asked_in : ℕ → ℕ → Signal → Bool
asked_in node number x = asks_at node x.to x.body && (x.view.number == number)

-- a report is asked for, or ends
abbrev pub is_report : Body → Bool
is_report (Takeover LqhTransReq) = true
is_report (Takeover LqhTransEnd) = true
is_report body = false

abbrev pub AreNone : List Outgoing → Type 0
AreNone sends = Each (λ (o : Outgoing). is_report o.body ≡ false) sends

-- none is asked for, and none ends
abbrev pub AskNone : List Outgoing → Type 0
AskNone sends = Each (λ (o : Outgoing). asks o.body ≡ false) sends

abbrev pub EndNone : List Outgoing → Type 0
EndNone sends = Each (λ (o : Outgoing). ends o.body ≡ false) sends

abbrev IsNone : Outgoing → Type 0
IsNone o = is_report o.body ≡ false

pub none_asks : (sends : List Outgoing) → AreNone sends → AskNone sends
none_asks sends all = each_map IsNone (λ (o : Outgoing). asks o.body ≡ false) sends (λ o is. by o.body is) all
  where
    by : (body : Body) → is_report body ≡ false → asks body ≡ false
    by (Takeover LqhTransReq) is = absurd (true≢false is)
    by body is = refl

pub none_ends : (sends : List Outgoing) → AreNone sends → EndNone sends
none_ends sends all = each_map IsNone (λ (o : Outgoing). ends o.body ≡ false) sends (λ o is. by o.body is) all
  where
    by : (body : Body) → is_report body ≡ false → ends body ≡ false
    by (Takeover LqhTransEnd) is = absurd (true≢false is)
    by body is = refl

-- what isn't about rows is neither
pub aside_none : (sends : List Outgoing) → AreAside sends → AreNone sends
aside_none sends all = each_map IsAside IsNone sends (λ o is. by o.body is) all
  where
    by : (body : Body) → is_of_rows body ≡ false → is_report body ≡ false
    by (Takeover LqhTransReq) is = absurd (true≢false is)
    by (Takeover LqhTransEnd) is = absurd (true≢false is)
    by body is = refl

-- nor what a coordinator sends
of_coordinator : (body : Body) → is_of_coordinator body ≡ true → is_report body ≡ false
of_coordinator (Takeover signal) is = absurd (true≢false (sym is))
of_coordinator body is = refl

all_of_coordinator : (sends : List Outgoing) → Each (IsOf is_of_coordinator) sends → AreNone sends
all_of_coordinator sends all =
    each_map (IsOf is_of_coordinator) IsNone sends (λ o is. of_coordinator o.body is) all

pub coordinator_none : (s : CoordinatorState) (x : Signal) → AreNone (coordinator_row s x).effects.sends
coordinator_none s x =
    ⊎_elim (λ kinds. all_of_coordinator (coordinator_row s x).effects.sends kinds)
    (λ confirms. subst AreNone (sym confirms.1) (refl, tt)) (coordinator_kinds s x)

-- nor what a part sends that coordinates, where it comes to a view; its takeover ends none
pub tc_enters_none : (p : TcPart) (now : View) → AreNone (tc_entered p now).effects.sends
tc_enters_none p now =
    each_append IsNone (coordinator.install_row p.coordinator now).effects.sends
    (dih.install_row p.dih now.number).effects.sends
    (all_of_coordinator _ (coordinator_installs_kinds p.coordinator now))
    (aside_none _ (epochs_install_aside p.dih now.number))

pub tc_ends_none : (p : TcPart) (x : Signal) (b : BlockId) → EndNone (tc_row p b x).effects.sends
unfolding tc_row
tc_ends_none p x block.Tc =
    none_ends (coordinator_row p.coordinator x).effects.sends (coordinator_none p.coordinator x)
tc_ends_none p x block.Takeover =
    each_map (IsOf is_of_takeover) (λ (o : Outgoing). ends o.body ≡ false) (takeover_row p.takeover x).effects.sends
    (λ o is. by o.body is) (takeover_kinds p.takeover x)
  where
    by : (body : Body) → is_of_takeover body ≡ true → ends body ≡ false
    by (Takeover LqhTransEnd) is = absurd (true≢false (sym is))
    by body is = refl
tc_ends_none p x block.Dih =
    none_ends (dih_row p.dih x).effects.sends (aside_none (dih_row p.dih x).effects.sends (epochs_aside p.dih x))
tc_ends_none p x _ = tt

-- rows ask for none
pub rows_ask_none : (s : SavingState) (x : Signal) → AskNone (saver_row s x).effects.sends
rows_ask_none s x =
    each_map IsNoOrder (λ (o : Outgoing). asks o.body ≡ false) (saver_row s x).effects.sends
    (λ o is. by o.body is) (rows_order_none s x)
  where
    by : (body : Body) → is_quiet body ≡ true → asks body ≡ false
    by (Takeover LqhTransReq) is = absurd (true≢false (sym is))
    by body is = refl
