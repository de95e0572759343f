-- What the epochs of a member tell of system slots: a step tells only of the one that it was ordered to write, and with
-- the last signal that it sends.
use Rattle.std.proofs.Common.{◌≡◌, ◌≤◌, ◌⊎◌, inl, inr, ℕ, List, [], Bool, true, false, refl, sym, ap, ◌∙◌}
use Rattle.std.proofs.lemmas.Bool.{true≢false}
use Rattle.run_theory.specs.Lists.{Each}
use Rattle.run_theory.proofs.Pasts.{each_append, each_map}
use Rattle.sig_core.specs.declared.mark.Mark.{Mark}
use Rattle.sig_core.specs.declared.outs.Outgoing.{Outgoing}
use Rattle.sig_core.specs.declared.place.BlockId.{BlockId}
use Rattle.sig_core.specs.declared.place.BlockId.TheVariants as block
use Rattle.sig_core.specs.declared.signal.Body.{Body}
use Rattle.sig_core.specs.declared.signal.Body.TheVariants.{Epoch}
use Rattle.sig_core.specs.declared.signal.Signal.{Signal}
use Rattle.sig_core.specs.declared.signal.epoch.EpochSignal.TheVariants.{CopyGciConf, CopyGciReq}
use Rattle.sig_core.specs.declared.view.View.{View}
use Rattle.step_forms.proofs.DoesLemmas.{speaks_do}
use Rattle.dih_node.specs.Dih.{dih_row, dih_table}
use Rattle.dih_node.specs.Orders as dih
use Rattle.dih_node.specs.State.{DihState}
use Rattle.dih_node.proofs.Walk.{dih_each, dih_installed_each}
use Rattle.node_views.specs.declared.tc_part.TcPart.{TcPart}
use Rattle.node_views.specs.Parts.{tc_entered, tc_row}
use Rattle.takeover_block.specs.Takeover.{takeover_row}
use Rattle.takeover_block.specs.Words.{is_takeover_mark, is_takeover_word}
use Rattle.takeover_block.proofs.Walk.{takeover_words}
use Rattle.tc_views.specs.Coordinator.{coordinator_row}
use Rattle.tc_views.specs.Views as coordinator
use Rattle.tc_views.specs.Words.{is_coordinator_mark, is_coordinator_word}
use Rattle.tc_views.proofs.Walk.{coordinator_words}
use Rattle.saved_laws.specs.Copied.{TellsDurable}
use Rattle.saved_laws.proofs.behind.ButLast.{EachButLast, but_last_of_each}
use Rattle.restart_laws.proofs.telling.Facts.{SaysSo}

-- of no system slot is told
abbrev pub TellsNone : Body → Type 0
TellsNone body = (epoch : ℕ) → TellsDurable epoch body → ⊥

-- the signal orders to write that of a later epoch, or of this one
pub record Orders (x : Signal) (epoch : ℕ) : Type 0 where
  pub ordered : ℕ
  pub mask : ℕ
  pub body : x.body ≡ Epoch (CopyGciReq ordered mask)
  pub least : epoch ≤ ordered

-- only what the signal orders is told as written
abbrev pub TellsOrdered : Signal → Body → Type 0
TellsOrdered x body = (epoch : ℕ) → TellsDurable epoch body → Orders x epoch

pub none_ordered : (x : Signal) (body : Body) → TellsNone body → TellsOrdered x body
none_ordered x body none epoch tells = absurd (none epoch tells)

coordinators_tell_none : (body : Body) → is_coordinator_word body ≡ true → TellsNone body
coordinators_tell_none (Epoch (CopyGciConf durable)) is epoch tells = true≢false (sym is)
coordinators_tell_none (Epoch signal) is epoch tells = tells
coordinators_tell_none body is epoch tells = tells

takeovers_tell_none : (body : Body) → is_takeover_word body ≡ true → TellsNone body
takeovers_tell_none (Epoch (CopyGciConf durable)) is epoch tells = true≢false (sym is)
takeovers_tell_none (Epoch signal) is epoch tells = tells
takeovers_tell_none body is epoch tells = tells

-- what of a step may be told: what the signal orders, and nothing but with the last thing that it sends
pub record TellOrders (x : Signal) (sends : List Outgoing) : Type 0 where
  pub all : Each (SaysSo (TellsOrdered x)) sends
  pub but_last : EachButLast (SaysSo TellsNone) sends

pub none_told : (x : Signal) (sends : List Outgoing) → Each (SaysSo TellsNone) sends → TellOrders x sends
none_told x sends none = record {
  all =
      each_map (SaysSo TellsNone) (SaysSo (TellsOrdered x)) sends (λ sent is. none_ordered x sent.body is) none;
  but_last = but_last_of_each (SaysSo TellsNone) sends none;
}

abbrev AnyMark : Mark → Type 0
AnyMark mark = Unit {0}

-- whether a signal orders to write a system slot
abbrev is_order : Body → Bool
is_order (Epoch (CopyGciReq epoch mask)) = true
is_order body = false

module _ (s : DihState) (x : Signal) where
  dih_ordered : Each (SaysSo (TellsOrdered x)) (dih_row s x).effects.sends
  dih_ordered =
      (dih_each s x (SaysSo (TellsOrdered x)) AnyMark (record {
        decided = λ tx is. tt;
        confirms = λ tx is epoch tells. absurd tells;
        goes_on = λ epoch tells. absurd tells;
        prepares = λ epoch next is told tells. absurd tells;
        reports = λ order is epoch tells. absurd tells;
        closes = λ epoch is told tells. absurd tells;
        copies = λ epoch mask is told tells. record { ordered = epoch; mask = mask; body = is; least = tells };
        tells = λ is epoch tells. absurd tells;
        fences = λ proposal is epoch tells. absurd tells;
      })).0

  dih_tells : TellOrders x (dih_row s x).effects.sends
  unfolding dih.copy_row
  dih_tells = by (is_order x.body) refl
    where
      sends : List Outgoing
      sends = (dih_row s x).effects.sends

      alone : (body : Body) → is_order body ≡ true
          → EachButLast (SaysSo TellsNone) (dih_table s x.member.node x.view.number body).effects.sends
      alone (Epoch (CopyGciReq epoch mask)) is = (inr refl, tt)
      alone (Epoch signal) is = absurd (true≢false (sym is))
      alone body is = absurd (true≢false (sym is))

      none : is_order x.body ≡ false → (sent : Outgoing) → TellsOrdered x sent.body → TellsNone sent.body
      none is sent tells epoch told =
          let orders = tells epoch told in true≢false (sym (ap is_order orders.body) ∙ is)

      by : (b : Bool) → is_order x.body ≡ b → TellOrders x sends
      by true is = record { all = dih_ordered; but_last = alone x.body is }
      by false is =
          none_told x sends (each_map (SaysSo (TellsOrdered x)) (SaysSo TellsNone) sends (none is) dih_ordered)

  -- nothing else comes of an order
  pub orders_change_none : (epoch mask : ℕ) → x.body ≡ Epoch (CopyGciReq epoch mask) → (dih_row s x).state ≡ s
  unfolding dih.copy_row
  orders_change_none epoch mask is =
      ap (λ body. (dih_table s x.member.node x.view.number body).state) is

-- so it is of the part that runs them, at its other blocks nothing is told
pub tc_tells : (p : TcPart) (b : BlockId) (x : Signal) → TellOrders x (tc_row p b x).effects.sends
unfolding tc_row
tc_tells p block.Tc x =
    none_told x (coordinator_row p.coordinator x).effects.sends
    (speaks_do is_coordinator_word is_coordinator_mark TellsNone AnyMark (coordinator_row p.coordinator x)
    coordinators_tell_none (λ mark is. tt) (coordinator_words.takes p.coordinator x)).0
tc_tells p block.Takeover x =
    none_told x (takeover_row p.takeover x).effects.sends
    (speaks_do is_takeover_word is_takeover_mark TellsNone AnyMark (takeover_row p.takeover x)
    takeovers_tell_none (λ mark is. tt) (takeover_words.takes p.takeover x)).0
tc_tells p block.Dih x = dih_tells p.dih x
tc_tells p _ x = none_told x [] tt

-- nor where a view is installed
pub tc_entered_none : (p : TcPart) (view : View) → Each (SaysSo TellsNone) (tc_entered p view).effects.sends
tc_entered_none p view =
    let coordinates = coordinator.install_row p.coordinator view in
    let gives = dih.install_row p.dih view.number in
    each_append (SaysSo TellsNone) coordinates.effects.sends gives.effects.sends
    (speaks_do is_coordinator_word is_coordinator_mark TellsNone AnyMark coordinates coordinators_tell_none
    (λ mark is. tt) (coordinator_words.installs p.coordinator view)).0
    (dih_installed_each p.dih view.number (SaysSo TellsNone) AnyMark (λ epoch tells. tells)).0

-- only the block of epochs tells of an order, and it stays as it was
pub tc_orders : (p : TcPart) (b : BlockId) (x : Signal) (epoch mask : ℕ) → x.body ≡ Epoch (CopyGciReq epoch mask)
    → Each (SaysSo TellsNone) (tc_row p b x).effects.sends
    ⊎ ((b ≡ block.Dih) × ((tc_row p b x).state.dih.fence ≡ p.dih.fence))
unfolding tc_row
tc_orders p block.Dih x epoch mask is =
    inr (refl, ap (λ (s : DihState). s.fence) (orders_change_none p.dih x epoch mask is))
tc_orders p block.Tc x epoch mask is =
    inl (speaks_do is_coordinator_word is_coordinator_mark TellsNone AnyMark (coordinator_row p.coordinator x)
    coordinators_tell_none (λ mark is. tt) (coordinator_words.takes p.coordinator x)).0
tc_orders p block.Takeover x epoch mask is =
    inl (speaks_do is_takeover_word is_takeover_mark TellsNone AnyMark (takeover_row p.takeover x)
    takeovers_tell_none (λ mark is. tt) (takeover_words.takes p.takeover x)).0
tc_orders p _ x epoch mask is = inl tt
