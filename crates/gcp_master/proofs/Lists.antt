-- What holds of each form of signal of a list of a master holds of what an event sends of the list.
use Rattle.std.proofs.Common.{◌≡◌, ◌⊎◌, ℕ, Bool, true, false, List, [], ◌∷◌, ◌++◌, refl, inl, inr}
use Rattle.std.specs.Prelude.{Option, None, Some}
use Rattle.run_theory.specs.Lists.{Each, IsIn}
use Rattle.run_theory.proofs.Pasts.{each_append}
use Rattle.sig_core.specs.declared.member.Member.{Member}
use Rattle.sig_core.specs.declared.outs.Outgoing.{Outgoing}
use Rattle.sig_core.specs.declared.place.BlockId.{BlockId}
use Rattle.sig_core.specs.declared.place.BlockId.TheVariants as block
use Rattle.sig_core.specs.declared.signal.Body.TheVariants.{Epoch, Checkpoint}
use Rattle.sig_core.specs.declared.signal.checkpoint.CheckpointSignal.TheVariants.{LcpSwitch}
use Rattle.sig_core.specs.declared.signal.epoch.EpochSignal.TheVariants.{GcpStateReq, GcpPrepare, GcpCommit, GcpClosed}
use Rattle.sig_core.specs.declared.signal.epoch.EpochSignal.TheVariants.{GcpSaveReq, CopyGciReq, GcpDone, GcpRep}
use Rattle.sig_core.specs.declared.signal.epoch.EpochSignal.TheVariants.{MicroRep}
use Rattle.sig_core.specs.declared.signal.host.Work.TheVariants.{Members}
use Rattle.sig_core.specs.declared.view.View.{View}
use Rattle.sig_core.specs.Place.{checkpoints, client}
use Rattle.sig_core.specs.Portion.{go_on_at}
use Rattle.sig_core.specs.Step.{to_place}
use Rattle.step_forms.proofs.PortionLemmas.{portion_each}
use Rattle.gcp_master.specs.declared.known.Known.{Known}
use Rattle.gcp_master.specs.declared.orders.Ended.{Ended}
use Rattle.gcp_master.specs.declared.orders.Ended.TheVariants.{Micro, Global}
use Rattle.gcp_master.specs.declared.orders.Order.{Order}
use Rattle.gcp_master.specs.declared.orders.Order.TheVariants as order
use Rattle.gcp_master.specs.declared.phase.Phase.{Phase}
use Rattle.gcp_master.specs.declared.phase.Phase.TheVariants.{Unordered, Gathering, Resting, Preparing, Committing}
use Rattle.gcp_master.specs.declared.phase.Phase.TheVariants.{Closing, Saving, Copying}
use Rattle.gcp_master.specs.declared.phase.Run.{Run}
use Rattle.gcp_master.specs.Orders.{mask_of, order_body}
use Rattle.gcp_master.specs.Sends.{front_sends, list_effects, master_sends, order_at, orders_at, phase_sends, to_both}
use Rattle.gcp_master.specs.Sends.{to_copying, to_each, to_switch}
use Rattle.gcp_master.specs.State.{MasterState}

-- a member of the view, full or starting
abbrev pub IsMemberIn : View → Member → Type 0
IsMemberIn view member = IsIn member view.full ⊎ IsIn member view.starting

-- the block of epochs of a member, or its rows
abbrev pub IsOneOfBoth : BlockId → Type 0
IsOneOfBoth to = (to ≡ block.Dih) ⊎ (to ≡ block.Lqh)

-- P is of each form of signal of the list of a master in this state: what its phase orders, what it tells of the end of
-- the last closing, and the signal by which it goes on
pub record ListForms (s : MasterState) (P : Outgoing → Type 0) : Type 0 where
  pub asks : (known : Known) (to : BlockId) (member : Member) → s.phase ≡ Gathering known → IsOneOfBoth to
      → IsMemberIn s.view member → P (to_place (record { node = member.node; block = to }) (Epoch GcpStateReq))
  pub prepares : (run : Run) (member : Member) → s.phase ≡ Preparing run → IsMemberIn s.view member
      → P (to_place (record { node = member.node; block = block.Dih }) (Epoch (GcpPrepare run.epoch run.next)))
  pub commits : (run : Run) (member : Member) → s.phase ≡ Committing run → IsMemberIn s.view member
      → P (to_place (record { node = member.node; block = block.Dih }) (Epoch (GcpCommit run.epoch run.next)))
  pub closes : (run : Run) (to : BlockId) (member : Member) → s.phase ≡ Closing run → IsOneOfBoth to
      → IsMemberIn s.view member
      → P (to_place (record { node = member.node; block = to }) (Epoch (GcpClosed run.epoch)))
  pub saves : (run : Run) (member : Member) → s.phase ≡ Saving run → IsMemberIn s.view member
      → P (to_place (record { node = member.node; block = block.Lqh }) (Epoch (GcpSaveReq run.epoch)))
  pub copies : (run : Run) (member : Member) → s.phase ≡ Copying run → IsMemberIn s.view member
      → P (to_place (record { node = member.node; block = block.Dih })
      (Epoch (CopyGciReq run.epoch (mask_of s.view.full))))
  pub tells_micro : (epoch : ℕ) → s.front ≡ Some (Micro epoch) → P (to_place client (Epoch (MicroRep epoch)))
  pub tells_global : (epoch : ℕ) (copy local : Bool) → s.front ≡ Some (Global epoch copy local)
      → P (to_place client (Epoch (GcpRep epoch)))
  pub tells_members : (epoch : ℕ) (copy local : Bool) (to : BlockId) (member : Member)
      → s.front ≡ Some (Global epoch copy local) → IsOneOfBoth to → IsMemberIn s.view member
      → P (to_place (record { node = member.node; block = to }) (Epoch (GcpDone epoch)))
  pub tells_copying : (epoch : ℕ) (local : Bool) → s.front ≡ Some (Global epoch true local)
      → P (to_place (record { node = s.member.node; block = block.Copy }) (Epoch (GcpRep epoch)))
  pub switches : (epoch : ℕ) (copy : Bool) (member : Member) → s.front ≡ Some (Global epoch copy true)
      → IsIn member s.view.full
      → P (to_place (record { node = member.node; block = block.Lqh }) (Checkpoint LcpSwitch))
  pub goes_on : (left : ℕ) → P (go_on_at (checkpoints s.member.node) Members left)

module _ (s : MasterState) (P : Outgoing → Type 0) where
  -- an order to a block of each of these members
  pub mapped_order : (to : BlockId) (o : Order) (members : List Member)
      → ((member : Member) → IsIn member members → P (order_at to o member)) → Each P (orders_at to o members)
  mapped_order to o [] own = tt
  mapped_order to o (member ∷ members) own =
      (own member (inl refl), mapped_order to o members (λ other inside. own other (inr inside)))

  -- and of each member
  each_order : (to : BlockId) (o : Order) → ((member : Member) → IsMemberIn s.view member → P (order_at to o member))
      → Each P (to_each to o s.view)
  unfolding to_each
  each_order to o own =
      each_append P (orders_at to o s.view.full) (orders_at to o s.view.starting)
      (mapped_order to o s.view.full (λ member there. own member (inl there)))
      (mapped_order to o s.view.starting (λ member there. own member (inr there)))

  both_order : (o : Order)
      → ((to : BlockId) (member : Member) → IsOneOfBoth to → IsMemberIn s.view member → P (order_at to o member))
      → Each P (to_both o s.view)
  unfolding to_both
  both_order o own =
      each_append P (to_each block.Dih o s.view) (to_each block.Lqh o s.view)
      (each_order block.Dih o (λ member there. own block.Dih member (inl refl) there))
      (each_order block.Lqh o (λ member there. own block.Lqh member (inr refl) there))

  module _ (forms : ListForms s P) where
    copying : (epoch : ℕ) (copy local : Bool) → s.front ≡ Some (Global epoch copy local)
        → Each P (to_copying s.member.node epoch copy)
    copying epoch true local is = (forms.tells_copying epoch local is, tt)
    copying epoch false local is = tt

    switching : (epoch : ℕ) (copy local : Bool) → s.front ≡ Some (Global epoch copy local)
        → Each P (to_switch s.view local)
    unfolding order_body
    switching epoch copy true is =
        mapped_order block.Lqh order.Switch s.view.full (λ member there. forms.switches epoch copy member is there)
    switching epoch copy false is = tt

    front : (o : Option Ended) → s.front ≡ o → Each P (front_sends s.member.node s.view o)
    unfolding front_sends order_body
    front None is = tt
    front (Some (Micro epoch)) is = (forms.tells_micro epoch is, tt)
    front (Some (Global epoch copy local)) is =
        each_append P (to_both (order.Done epoch) s.view) _
        (both_order (order.Done epoch)
        (λ to member one there. forms.tells_members epoch copy local to member is one there)) (
          forms.tells_global epoch copy local is,
          each_append P (to_copying s.member.node epoch copy) (to_switch s.view local) (copying epoch copy local is)
              (switching epoch copy local is),
        )

    phase : (p : Phase) → s.phase ≡ p → Each P (phase_sends s.view p)
    unfolding phase_sends order_body
    phase Unordered is = tt
    phase (Gathering known) is =
        both_order order.State (λ to member one there. forms.asks known to member is one there)
    phase (Resting current) is = tt
    phase (Preparing run) is =
        each_order block.Dih (order.Prepare run.epoch run.next) (λ member there. forms.prepares run member is there)
    phase (Committing run) is =
        each_order block.Dih (order.Commit run.epoch run.next) (λ member there. forms.commits run member is there)
    phase (Closing run) is =
        both_order (order.Close run.epoch) (λ to member one there. forms.closes run to member is one there)
    phase (Saving run) is =
        each_order block.Lqh (order.Save run.epoch) (λ member there. forms.saves run member is there)
    phase (Copying run) is =
        each_order block.Dih (order.Copy run.epoch (mask_of s.view.full))
        (λ member there. forms.copies run member is there)

    -- whatever an event sends of the list
    pub list_each : (at : ℕ) → Each P (list_effects s at).sends
    unfolding list_effects master_sends
    list_each at =
        portion_each P (checkpoints s.member.node) Members
        (front_sends s.member.node s.view s.front ++ phase_sends s.view s.phase) at forms.goes_on
        (each_append P (front_sends s.member.node s.view s.front) (phase_sends s.view s.phase) (front s.front refl)
        (phase s.phase refl))
