-- Chosen views: one for each number, each made of the one before.
use Rattle.std.specs.Prelude.{◌≡◌, ◌<◌}
use Rattle.frag_map.specs.Shape.{IsShape}
use Rattle.sig_core.specs.declared.view.Shape.{Shape}
use Rattle.sig_core.specs.declared.view.View.{View}
use Rattle.view_laws.specs.Ballots.{Ballots, IsChosen}
use Rattle.view_laws.specs.Orderly.{AreOrderly}
use Rattle.view_laws.specs.Sets.{Change, IsMadeOf}

-- two chosen views of one number are the same
abbrev pub OneViewForEachNumber : Type 0
OneViewForEachNumber =
    (shape : Shape) → IsShape shape → (b : Ballots) → AreOrderly shape b → (one other : View)
    → IsChosen shape b one → IsChosen shape b other → one.number ≡ other.number
    → one ≡ other

-- of two chosen views the later one is the next: none is chosen between
pub record IsNext (shape : Shape) (b : Ballots) (before after : View) : Type 0 where
  pub one : IsChosen shape b before
  pub other : IsChosen shape b after
  pub later : before.number < after.number
  pub none : (between : View) → IsChosen shape b between → before.number < between.number
      → between.number < after.number
      → ⊥

-- the set is made of the one before
pub record Follows (before set : View) : Type 0 where
  pub change : Change
  pub made : IsMadeOf before change set

-- so is each chosen view of the one before
abbrev pub ViewsAreAChain : Type 0
ViewsAreAChain =
    (shape : Shape) → IsShape shape → (b : Ballots) → AreOrderly shape b → (before after : View)
    → IsNext shape b before after → Follows before after
