-- A step by which the membership settles on a view has one mark, which tells of it, and sends one signal at most, so
-- there is room for what the installation sends.
use Rattle.std.proofs.Common.{◌≡◌, ◌≤◌, ℕ, Bool, true, false, List, [], ◌∷◌, Option, None, Some, length, refl, sym, ap}
use Rattle.std.proofs.Common.{◌∙◌, arith}
use Rattle.std.specs.Prelude.{◌==◌, ◌&&◌, is_some, not}
use Rattle.sig_core.specs.declared.mark.Mark.{Mark}
use Rattle.sig_core.specs.declared.mark.Mark.TheVariants.{Installed}
use Rattle.sig_core.specs.declared.member.Member.{Member}
use Rattle.sig_core.specs.declared.signal.Body.{Body}
use Rattle.sig_core.specs.declared.signal.Body.TheVariants.{Membership}
use Rattle.sig_core.specs.declared.signal.Signal.{Signal}
use Rattle.sig_core.specs.declared.signal.membership.MembershipSignal.TheVariants.{ArbitConf, PrepFailConf}
use Rattle.sig_core.specs.declared.view.View.{View}
use Rattle.sig_core.specs.Step.{Effects}
use Rattle.qmgr_block.specs.declared.known.Known.{Known}
use Rattle.qmgr_block.specs.declared.known.Proposal.{Proposal}
use Rattle.qmgr_block.specs.Decide.{awaits, confirm_by, confirm_if, confirm_row, confirmed_all, confirmed_one}
use Rattle.qmgr_block.specs.Decide.{granted_by, granted_if, granted_row, heard, is_asked, needs_no_grant}
use Rattle.qmgr_block.specs.Qmgr.{qmgr_row, qmgr_table}
use Rattle.qmgr_block.specs.Settle.{body_settles, grant_settles, granted_with, may_settle, promise_settles}
use Rattle.qmgr_block.specs.Settle.{qmgr_settles, settled_by_all, settled_if, settled_with, view_if}
use Rattle.qmgr_block.specs.State.{QmgrState}

-- the mark of a view that it settles on
abbrev pub mark_of : Option View → List Mark
mark_of None = []
mark_of (Some view) = Installed view ∷ []

-- the mark tells of the view, or there is none, and one signal is sent at most
pub record IsSettling (view : Option View) (effects : Effects) : Type 0 where
  pub marks : effects.marks ≡ mark_of view
  pub few : length effects.sends ≤ 1

settling_all : (k : Known) (p : Proposal) (whole : Bool)
    → IsSettling (view_if p whole) (confirmed_all k p whole).effects
settling_all k p true = record { marks = refl; few = omega arith }
settling_all k p false = record { marks = refl; few = omega arith }

settling_one : (k : Known) (p : Proposal) (awaited : List Member)
    → IsSettling (settled_by_all k p awaited) (confirmed_one k p awaited).effects
settling_one k p [] = settling_all k p (needs_no_grant k p)
settling_one k p (member ∷ awaited) = record { marks = refl; few = omega arith }

settling_if : (k : Known) (p : Proposal) (member : Member) (awaited : Bool)
    → IsSettling (settled_if k p member awaited) (confirm_if k p member awaited).effects
settling_if k p member true = settling_one k (heard p member) (heard p member).awaited
settling_if k p member false = record { marks = refl; few = omega arith }

settling_with : (k : Known) (p : Option Proposal) (number : ℕ) (member : Member)
    → IsSettling (settled_with k p number member) (confirm_by k p number member).effects
settling_with k None number member = record { marks = refl; few = omega arith }
settling_with k (Some p) number member = settling_if k p member (awaits p number member)

settling_promise : (k : Known) (number : ℕ) (member : Member)
    → IsSettling (promise_settles k number member) (confirm_row k number member).effects
unfolding promise_settles confirm_row
settling_promise k number member = settling_with k k.outstanding number member

granting_if : (k : Known) (p : Proposal) (granted : Bool)
    → IsSettling (view_if p granted) (granted_if k p granted).effects
granting_if k p true = record { marks = refl; few = omega arith }
granting_if k p false = record { marks = refl; few = omega arith }

granting_with : (k : Known) (p : Option Proposal) (number : ℕ)
    → IsSettling (granted_with p number) (granted_by k p number).effects
granting_with k None number = record { marks = refl; few = omega arith }
granting_with k (Some p) number = granting_if k p ((p.view.number == number) && is_asked p && not (is_some p.lost))

settling_grant : (k : Known) (number : ℕ) → IsSettling (grant_settles k number) (granted_row k number).effects
unfolding grant_settles granted_row
settling_grant k number = granting_with k k.outstanding number

module _ (s : QmgrState) (x : Signal) where
  settling_at : (body : Body) → may_settle body ≡ true
      → IsSettling (body_settles s.known x.member body) (qmgr_table s x.from.0 x.member x.view.number body).effects
  settling_at (Membership (PrepFailConf number)) is = settling_promise s.known number x.member
  settling_at (Membership (ArbitConf number)) is = settling_grant s.known number
  settling_at body is = absurd cc

  -- where it may settle on a view
  pub settling : may_settle x.body ≡ true → IsSettling (qmgr_settles s x) (qmgr_row s x).effects
  settling = settling_at x.body

  pub settles_few : may_settle x.body ≡ true → length (qmgr_row s x).effects.sends ≤ 1
  settles_few may = (settling may).few

  -- and elsewhere it doesn't
  none_at : (body : Body) → may_settle body ≡ false → body_settles s.known x.member body ≡ None
  none_at (Membership (PrepFailConf number)) is = absurd cc
  none_at (Membership (ArbitConf number)) is = absurd cc
  none_at body is = refl

  pub unsettled : may_settle x.body ≡ false → qmgr_settles s x ≡ None
  unsettled = none_at x.body

  -- so where it settles on one it may
  pub settles_may : (view : View) → qmgr_settles s x ≡ Some view → may_settle x.body ≡ true
  settles_may view is = by (may_settle x.body) refl
    where
      by : (may : Bool) → may_settle x.body ≡ may → may_settle x.body ≡ true
      by true may = may
      by false off = let none : None ≡ Some view = sym (unsettled off) ∙ is in absurd cc

  -- and has its mark
  pub settles_marks : (view : View) → qmgr_settles s x ≡ Some view → (qmgr_row s x).effects.marks ≡ Installed view ∷ []
  settles_marks view is = (settling (settles_may view is)).marks ∙ ap mark_of is

  one_marked : (settled : Option View) (view : View) → mark_of settled ≡ Installed view ∷ [] → settled ≡ Some view
  one_marked None view is = absurd cc
  one_marked (Some other) view is = let same : other ≡ view = cc (is) in ap (λ (v : View). Some v) same

  -- whose mark is there it settles on
  pub marked_settles : may_settle x.body ≡ true → (view : View) → (qmgr_row s x).effects.marks ≡ Installed view ∷ []
      → qmgr_settles s x ≡ Some view
  marked_settles may view is = one_marked (qmgr_settles s x) view (sym (settling may).marks ∙ is)
