-- Signals that are addressed in a view.
use Rattle.std.proofs.Common.{◌≡◌, ℕ, zero, suc, ◌-◌, Bool, true, false, List, [], ◌∷◌, ◌++◌, length, map, refl, ap}
use Rattle.std.proofs.Common.{sym, ◌∙◌, arith}
use Rattle.std.proofs.lemmas.List.{append_assoc}
use Rattle.std.specs.Prelude.{Option, None, Some}
use Rattle.sig_core.specs.declared.member.Member.{Member}
use Rattle.sig_core.specs.declared.member.TxId.{TxId}
use Rattle.sig_core.specs.declared.outs.Outgoing.{Outgoing}
use Rattle.sig_core.specs.declared.view.View.{View}
use Rattle.lqh_block.specs.Views.{is_coordinated}
use Rattle.lqh_views.specs.Address.{about, addressed, addressed_behind, next_of, owned_by, owned_if, to_takeover}

-- the first ones stay, and those behind them are addressed
pub behind-first : (view : View) (before after : List Outgoing)
    → addressed_behind view (length before) (before ++ after) ≡ before ++ map (addressed view) after
behind-first view [] after = refl
behind-first view (send ∷ before) after = ap (λ rest. send ∷ rest) (behind-first view before after)

-- the next of such a list, and then the rest
pub behind-next : (view : View) (passed : ℕ) (send : Outgoing) (sends : List Outgoing)
    → addressed_behind view passed (send ∷ sends) ≡ next_of view passed send ∷ addressed_behind view (passed - 1) sends
behind-next view zero send sends = refl
behind-next view (suc n) send sends =
    let same : suc n - 1 ≡ n = omega arith in
    rw same refl

-- so it goes from those that are left to those that were moved
pub one-moved : (view : View) (passed : ℕ) (send : Outgoing) (moved left : List Outgoing)
    → (moved ++ (next_of view passed send ∷ [])) ++ addressed_behind view (passed - 1) left
    ≡ moved ++ addressed_behind view passed (send ∷ left)
one-moved view passed send moved left =
    append_assoc moved (next_of view passed send ∷ []) (addressed_behind view (passed - 1) left)
    ∙ ap (λ rest. moved ++ rest) (sym (behind-next view passed send left))

pub behind-none : (view : View) (passed : ℕ) → addressed_behind view passed [] ≡ []
behind-none view zero = refl
behind-none view (suc n) = refl

-- whoever a signal is for, it says the same
pub same-body : (view : View) (send : Outgoing) → (addressed view send).body ≡ send.body
unfolding addressed
same-body view send = by (about send.body)
  where
    by_full : (full : List Member) → (to_takeover full send).body ≡ send.body
    by_full [] = refl
    by_full (oldest ∷ others) = refl

    by_if : (full : List Member) (b : Bool) → (owned_if full send b).body ≡ send.body
    by_if full true = refl
    by_if full false = by_full full

    by : (o : Option TxId) → (owned_by view.full send o).body ≡ send.body
    by None = refl
    by (Some tx) = by_if view.full (is_coordinated view.full tx)

pub ruleset addresses = (behind-first, behind-next, behind-none)
