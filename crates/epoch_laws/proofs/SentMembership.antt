-- A membership sends no order of epochs, but for the one to the master of checkpoints of its own node; and that only
-- where its member is the oldest of the view's full members.
use Rattle.std.proofs.Common.{◌≡◌, ◌&&◌, ◌⊎◌, ◌∙◌, ℕ, Bool, true, false, List, nat_lt, refl, ap, sym, subst, inl, inr}
use Rattle.std.proofs.lemmas.Bool.{false≢true}
use Rattle.run_theory.specs.Lists.{Each}
use Rattle.run_theory.proofs.Pasts.{each_map}
use Rattle.sig_core.specs.declared.mark.Mark.{Mark}
use Rattle.sig_core.specs.declared.outs.Outgoing.{Outgoing}
use Rattle.sig_core.specs.declared.place.Place.{Place}
use Rattle.sig_core.specs.declared.signal.Body.{Body}
use Rattle.sig_core.specs.declared.signal.Body.TheVariants.{Epoch, Host}
use Rattle.sig_core.specs.declared.signal.Signal.{Signal}
use Rattle.sig_core.specs.declared.signal.epoch.EpochSignal.TheVariants.{GcpOrd}
use Rattle.sig_core.specs.declared.signal.host.HostSignal.TheVariants.{Continue}
use Rattle.sig_core.specs.declared.signal.host.Work.TheVariants.{Members}
use Rattle.sig_core.specs.declared.view.View.{View}
use Rattle.sig_core.specs.Place.{checkpoints}
use Rattle.qmgr_block.specs.Settle.{may_settle}
use Rattle.qmgr_block.specs.declared.install.TheConstants.{ORDERS}
use Rattle.qmgr_block.specs.declared.known.Known.{Known}
use Rattle.qmgr_block.specs.Install.{is_of_view, is_oldest, order_if, order_row}
use Rattle.qmgr_block.specs.Qmgr.{qmgr_installed, qmgr_row, qmgr_table}
use Rattle.qmgr_block.specs.State.{QmgrState}
use Rattle.qmgr_block.proofs.Walk.{OrderForms, qmgr_each, qmgr_installed_each}
use Rattle.epoch_laws.proofs.SentNone.{AreNoOrders, IsNoOrder, SendsNoOrder, is_order}

-- the oldest full member orders its own master to begin
pub record IsOrdering (k : Known) (to : Place) : Type 0 where
  pub oldest : is_oldest k ≡ true
  pub own : to ≡ checkpoints k.me.node

abbrev pub OrdersBy : Known → Place → Body → Type 0
OrdersBy k to (Epoch GcpOrd) = IsOrdering k to
OrdersBy k to body = is_order body ≡ false

abbrev pub Orders : Known → Outgoing → Type 0
Orders k send = OrdersBy k send.to send.body

-- what is no order is none of those
none_orders : (k : Known) (send : Outgoing) → IsNoOrder send → Orders k send
none_orders k send none = by send.body none
  where
    by : (body : Body) → is_order body ≡ false → OrdersBy k send.to body
    by (Epoch GcpOrd) none = absurd cc
    by body none = none

pub nothing_orders : (k : Known) (sends : List Outgoing) → AreNoOrders sends → Each (Orders k) sends
nothing_orders k sends none = each_map IsNoOrder (Orders k) sends (none_orders k) none

module _ (s : QmgrState) (x : Signal) where
  -- it goes on with the orders of an installation, and orders so
  record GoesOn (send : Outgoing) : Type 0 where
    at : ℕ
    is : x.body ≡ Host (Continue Members at)
    orders : Orders s.known send

  -- what it sends, where what it sends of the orders is so
  module _ (P : Outgoing → Type 0) where
    sends_so : ((send : Outgoing) → IsNoOrder send → P send)
        → ((at : ℕ) → x.body ≡ Host (Continue Members at) → is_oldest s.known ≡ true → OrderForms s.known P)
        → Each P (qmgr_row s x).effects.sends
    sends_so none orders =
        (qmgr_each s x P (λ (mark : Mark). Unit {0}) (record {
          beats = λ next is behind. none _ refl;
          tells = λ member suspects. none _ refl;
          requests = λ set member there. none _ refl;
          questions = λ number members joining. none _ refl;
          fences = λ set is may. (none _ refl, (none _ refl, (none _ refl, tt)));
          refuses = λ set is may. none _ refl;
          confirms = λ at promise is place there up. (none _ refl, tt);
          settles = λ p stands. tt;
          orders_stop = λ p member cause stands. none _ refl;
          goes_down = λ group is. tt;
          stops = λ cause is. tt;
          is_full = λ member own is. none _ refl;
          has_been = λ member own is. none _ refl;
          orders = λ at is own oldest. orders at is oldest;
        })).0

  -- what it knows is the same where it goes on
  stays : (at : ℕ) → x.body ≡ Host (Continue Members at) → (qmgr_row s x).state.known ≡ s.known
  unfolding order_row
  stays at is =
      ap (λ body. (qmgr_table s x.from.0 x.member x.view.number body).state.known) is
      ∙ by (is_of_view s.known x.view.number && is_oldest s.known && nat_lt at ORDERS)
    where
      by : (b : Bool) → (order_if s.known at b).state ≡ s.known
      by true = refl
      by false = refl

  -- whatever it takes; what it knows is the same where it orders
  pub membership_orders : Each (Orders (qmgr_row s x).state.known) (qmgr_row s x).effects.sends
  membership_orders =
      each_map (λ (send : Outgoing). IsNoOrder send ⊎ GoesOn send) (Orders (qmgr_row s x).state.known)
      (qmgr_row s x).effects.sends by
      (sends_so (λ (send : Outgoing). IsNoOrder send ⊎ GoesOn send) (λ send none. inl none) (λ at is oldest. record {
        commits = λ member there. inl refl;
        takeover = inl refl;
        master = inr (record { at = at; is = is; orders = record { oldest = oldest; own = refl } });
        client = inl refl;
        copies = λ member there. inl refl;
        works = λ some. inl refl;
        goes_on = λ left. inl refl;
      }))
    where
      by : (send : Outgoing) → IsNoOrder send ⊎ GoesOn send → Orders (qmgr_row s x).state.known send
      by send (inl none) = none_orders (qmgr_row s x).state.known send none
      by send (inr on) = subst (λ k. Orders k send) (sym (stays on.at on.is)) on.orders

  -- where it may settle on a view it orders nothing
  pub settling_none : may_settle x.body ≡ true → SendsNoOrder (qmgr_row s x)
  settling_none may =
      sends_so IsNoOrder (λ send none. none) (λ at is oldest. absurd (false≢true (sym (ap may_settle is) ∙ may)))

-- and where a view is installed it orders none at once
pub membership_installs_none : (s : QmgrState) (view : View) → SendsNoOrder (qmgr_installed s view)
membership_installs_none s view =
    (qmgr_installed_each s view IsNoOrder (λ (mark : Mark). Unit {0}) (record {
      orders = λ oldest. refl;
      works = λ other some. refl;
    })).0
