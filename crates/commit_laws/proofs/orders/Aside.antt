-- Coordinators, takeovers, epochs of a node and the client's side order no takeover.
use Rattle.std.proofs.Common.{◌≡◌, ℕ, Bool, true, List, refl, sym}
use Rattle.std.proofs.lemmas.Bool.{true≢false}
use Rattle.run_theory.specs.Lists.{Each}
use Rattle.run_theory.proofs.Pasts.{each_append, each_map}
use Rattle.sig_core.specs.declared.outs.Outgoing.{Outgoing}
use Rattle.sig_core.specs.declared.place.BlockId.{BlockId}
use Rattle.sig_core.specs.declared.place.BlockId.TheVariants as block
use Rattle.sig_core.specs.declared.signal.Body.{Body}
use Rattle.sig_core.specs.declared.signal.Body.TheVariants.{Host, Takeover}
use Rattle.sig_core.specs.declared.signal.host.HostSignal.TheVariants.{Continue}
use Rattle.sig_core.specs.declared.signal.host.Work.TheVariants.{Members}
use Rattle.sig_core.specs.declared.signal.Signal.{Signal}
use Rattle.sig_core.specs.declared.signal.takeover.TakeoverSignal.TheVariants.{LqhTransReq, TakeoverOrd}
use Rattle.sig_core.specs.declared.view.View.{View}
use Rattle.step_forms.specs.Does.{IsWord}
use Rattle.api_views.specs.Client.{client_row}
use Rattle.api_views.specs.Words.{is_client_word}
use Rattle.api_views.proofs.Walk.{client_words}
use Rattle.arbiter_block.specs.Arbiter.{arbiter_row}
use Rattle.arbiter_block.specs.Words.{is_arbiter_word}
use Rattle.arbiter_block.proofs.Walk.{arbiter_words}
use Rattle.dih_node.specs.Dih.{dih_row}
use Rattle.dih_node.specs.Orders as dih
use Rattle.dih_node.specs.State.{DihState}
use Rattle.dih_node.specs.Words.{is_dih_word}
use Rattle.dih_node.proofs.Walk.{dih_words}
use Rattle.tc_views.specs.Coordinator.{coordinator_row}
use Rattle.tc_views.specs.Views as coordinator
use Rattle.node_views.specs.declared.shell_part.ShellPart.{ShellPart}
use Rattle.node_views.specs.declared.tc_part.TcPart.{TcPart}
use Rattle.node_views.specs.Parts.{shell_row, tc_entered, tc_row}
use Rattle.commit_laws.proofs.orders.Coordinator.{coordinator_installs_quiet, coordinator_quiet}
use Rattle.commit_laws.proofs.orders.Takeover.{takeover_quiet}
use Rattle.commit_laws.proofs.orders.Words.{AreNoOrders, AreQuiet, IsNoOrder, is_quiet, none_quiet}

-- of these words none is an order
abbrev NoOrders : (Body → Bool) → Type 0
NoOrders words = (body : Body) → words body ≡ true → is_quiet body ≡ true

by_words : (words : Body → Bool) → NoOrders words → (sends : List Outgoing) → Each (IsWord words) sends
    → AreNoOrders sends
by_words words none sends all = each_map (IsWord words) IsNoOrder sends (λ sent is. none sent.body is) all

epoch_words : NoOrders is_dih_word
epoch_words (Takeover TakeoverOrd) is = absurd (true≢false (sym is))
epoch_words (Takeover LqhTransReq) is = absurd (true≢false (sym is))
epoch_words (Host (Continue Members at)) is = absurd (true≢false (sym is))
epoch_words body is = refl

side_words : NoOrders is_client_word
side_words (Takeover TakeoverOrd) is = absurd (true≢false (sym is))
side_words (Takeover LqhTransReq) is = absurd (true≢false (sym is))
side_words (Host (Continue Members at)) is = absurd (true≢false (sym is))
side_words body is = refl

grant_words : NoOrders is_arbiter_word
grant_words (Takeover TakeoverOrd) is = absurd (true≢false (sym is))
grant_words (Takeover LqhTransReq) is = absurd (true≢false (sym is))
grant_words (Host (Continue Members at)) is = absurd (true≢false (sym is))
grant_words body is = refl

pub epochs_order_none : (s : DihState) (x : Signal) → AreNoOrders (dih_row s x).effects.sends
epochs_order_none s x = by_words is_dih_word epoch_words (dih_row s x).effects.sends (dih_words.0 s x).0

pub epochs_install_order_none : (s : DihState) (number : ℕ) → AreNoOrders (dih.install_row s number).effects.sends
epochs_install_order_none s number =
    by_words is_dih_word epoch_words (dih.install_row s number).effects.sends (dih_words.1 s number).0

-- a host that coordinates
pub tc_orders_none : (p : TcPart) (x : Signal) (b : BlockId) → AreQuiet (tc_row p b x).effects.sends
unfolding tc_row
tc_orders_none p x block.Tc =
    none_quiet (coordinator_row p.coordinator x).effects.sends (coordinator_quiet p.coordinator x)
tc_orders_none p x block.Takeover = takeover_quiet p.takeover x
tc_orders_none p x block.Dih = none_quiet (dih_row p.dih x).effects.sends (epochs_order_none p.dih x)
tc_orders_none p x _ = tt

pub tc_enters_order_none : (p : TcPart) (now : View) → AreQuiet (tc_entered p now).effects.sends
tc_enters_order_none p now =
    none_quiet (tc_entered p now).effects.sends
    (each_append IsNoOrder (coordinator.install_row p.coordinator now).effects.sends
    (dih.install_row p.dih now.number).effects.sends
    (coordinator_installs_quiet p.coordinator now) (epochs_install_order_none p.dih now.number))

pub shell_orders_none : (p : ShellPart) (x : Signal) (b : BlockId) → AreNoOrders (shell_row p b x).effects.sends
unfolding shell_row
shell_orders_none p x block.Api =
    by_words is_client_word side_words (client_row p.client x).effects.sends (client_words p.client x).0
shell_orders_none p x block.Arbiter =
    by_words is_arbiter_word grant_words (arbiter_row p.arbiter x).effects.sends (arbiter_words p.arbiter x).0
shell_orders_none p x _ = tt
