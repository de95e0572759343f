-- The API, as a transaction with a name is asked for when none begins, and as its coordinator answers.
use Rattle.std.proofs.Common.{◌≡◌, ◌==◌, ℕ, Bool, true, false, [], ◌∷◌, ◌++◌, length, refl, sym, ap, ◌∙◌, subst, eq-eqb}
use Rattle.std.specs.Prelude.{◌&&◌, if◌then◌else◌, is_some, Option, None, Some}
use Rattle.run_theory.proofs.Pasts.{each_map}
use Rattle.run_theory.specs.Lists.{Each}
use Rattle.sig_core.specs.declared.member.TxId.{TxId}
use Rattle.sig_core.specs.declared.reply.ApiReply.TheVariants as reply
use Rattle.sig_core.specs.declared.reply.Refusal.TheVariants.{IsOpen, TooManyOpen}
use Rattle.sig_core.specs.declared.request.ApiReq.TheVariants.{Begin}
use Rattle.sig_core.specs.Step.{Step}
use Rattle.api_block.specs.Api.{request_row}
use Rattle.api_block.specs.Commands.{begin_at, begin_if, begin_row, beginning, node_for}
use Rattle.api_block.specs.declared.opened.OpenTransaction.{OpenTransaction}
use Rattle.api_block.specs.Members.{is_full}
use Rattle.api_block.specs.Opened.{asked_for, begins, begins_at, begun, is_beginning, is_named, place_named, same_name}
use Rattle.api_block.specs.Operate.{begun_by, begun_row}
use Rattle.api_block.specs.Outcome.{over, refuse_row}
use Rattle.api_block.specs.State.{ApiState, about, opening}
use Rattle.host_laws.proofs.api.Begins.{same_name-self}
use Rattle.run_theory.proofs.Focus.{none_placed}
use Rattle.run_laws.proofs.transit.Weighing.{none_passes}
use Rattle.command_laws.proofs.hosts.Entries.{NoneBegins}
use Rattle.command_laws.proofs.hosts.LastOne.{where_last}
use Rattle.command_laws.specs.Served.{named_in}
use Rattle.command_laws.specs.TurnedDown.{no_member_at, turned_down_for}

-- a wish that isn't turned down: no transaction has the name, and the node has a full member
pub record IsFree (s : ApiState) (name node : ℕ) : Type 0 where
  pub unnamed : place_named s (Some name) ≡ None
  pub full : is_full s.view node ≡ true

module _ (s : ApiState) (name : ℕ) (at : Option ℕ) where
  pub is_free : turned_down_for s (Begin name at) ≡ None → IsFree s name (node_for s.view at)
  is_free = by (place_named s (Some name)) refl (is_full s.view (node_for s.view at)) refl
    where
      by : (o : Option ℕ) → place_named s (Some name) ≡ o → (full : Bool) → is_full s.view (node_for s.view at) ≡ full
          → (if is_some o then Some IsOpen else no_member_at (node_for s.view at) full) ≡ None
          → IsFree s name (node_for s.view at)
      by None unnamed true full free = record { unnamed = unnamed; full = full }
      by None unnamed false full free = absurd cc
      by (Some place) unnamed full is free = absurd cc

module _ (s : ApiState) (name node : ℕ) (free : IsFree s name node) (calm : NoneBegins s.opened) where
  -- the entry, as it is asked for
  abbrev pub entry : OpenTransaction
  entry = asked_for (Some name) node None

  abbrev pub asking : ApiState
  asking = about (opening s entry) (Some (length s.opened))

  pub begin_is : (at : Option ℕ) → node_for s.view at ≡ node
      → request_row s (Begin name at) ≡ beginning s (Some name) node None
  unfolding request_row begin_row
  begin_is at is =
      ap (λ o. begin_if s name at (is_some o)) free.unnamed
      ∙ ap (λ n. begin_at s name n (is_full s.view n)) is ∙ ap (begin_at s name node) free.full

  none_begins : (others : Option ℕ) → Each (λ (t : OpenTransaction). begins others t ≡ false) s.opened
  none_begins others =
      each_map (λ (t : OpenTransaction). is_beginning t.doing ≡ false)
      (λ (t : OpenTransaction). begins others t ≡ false)
      s.opened (λ t off. ap (λ b. b && same_name t.name others) off) calm

  begins_now : begins (Some name) entry ≡ true
  begins_now = same_name-self (Some name)

  -- it is refused
  pub refused_is : (refuse_row asking (Some name)).replies ≡ s.replies ++ reply.Refused (Some name) TooManyOpen ∷ []
  unfolding refuse_row
  refused_is = where_last (begins (Some name)) s.opened entry asking
      (λ at t. over asking at (reply.Refused (Some name) TooManyOpen))
      (λ (after : ApiState). after.replies ≡ s.replies ++ reply.Refused (Some name) TooManyOpen ∷ [])
      (none_begins (Some name)) begins_now
      (λ at item last. refl)

  pub refused_left : (refuse_row asking (Some name)).opened ≡ s.opened
  unfolding refuse_row
  refused_left = where_last (begins (Some name)) s.opened entry asking
      (λ at t. over asking at (reply.Refused (Some name) TooManyOpen))
      (λ (after : ApiState). after.opened ≡ s.opened) (none_begins (Some name)) begins_now
      (λ at item last. last.removed)

  -- it begins
  module _ (tx : TxId) (home : tx.tc ≡ node) where
    HasBegun : Step ApiState → Type 0
    HasBegun step = (step.state.replies ≡ s.replies ++ reply.Begun name node ∷ [])
        × ((step.state.opened ≡ s.opened ++ begun entry tx ∷ []) × (step.effects.sends ≡ []))

    begun_is : HasBegun (begun_row asking (Some name) tx)
    unfolding begun_row HasBegun
    begun_is = where_last (begins_at (Some name) tx.tc) s.opened entry _
        (λ at t. begun_by asking tx at t t.name t.doing) HasBegun
        (each_map (λ (t : OpenTransaction). begins (Some name) t ≡ false)
        (λ (t : OpenTransaction). begins_at (Some name) tx.tc t ≡ false)
        s.opened (λ t off. ap (λ b. b && (t.node == tx.tc)) off) (none_begins (Some name)))
        (ap (λ b. b && (node == tx.tc)) begins_now ∙ eq-eqb node tx.tc (sym home))
        (λ at item last. subst (λ (t : OpenTransaction). HasBegun (begun_by asking tx at t t.name t.doing))
        (sym last.item_is)
        (ap (λ n. s.replies ++ reply.Begun name n ∷ []) home, (last.set (begun entry tx), refl)))

    pub begun_replies : (begun_row asking (Some name) tx).state.replies ≡ s.replies ++ reply.Begun name node ∷ []
    unfolding HasBegun
    begun_replies = begun_is.0

    pub begun_opened : (begun_row asking (Some name) tx).state.opened ≡ s.opened ++ begun entry tx ∷ []
    unfolding HasBegun
    begun_opened = begun_is.1.0

    pub begun_sends : (begun_row asking (Some name) tx).effects.sends ≡ []
    unfolding HasBegun
    begun_sends = begun_is.1.1

    -- and is the one of the name
    pub begun_named : named_in (s.opened ++ begun entry tx ∷ []) name ≡ Some (begun entry tx)
    begun_named = where_last (is_named (Some name)) s.opened (begun entry tx) None (λ at t. Some t)
        (λ (o : Option OpenTransaction). o ≡ Some (begun entry tx))
        (none_passes (is_named (Some name)) s.opened (none_placed (is_named (Some name)) s.opened free.unnamed))
        (same_name-self (Some name)) (λ at item last. ap (λ t. Some t) last.item_is)
