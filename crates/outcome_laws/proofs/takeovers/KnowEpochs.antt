-- A takeover knows in which epoch each transaction was decided that it was told to be committed, and that it commits.
use Rattle.std.proofs.Common.{◌≡◌, ◌⊎◌, ◌∷◌, ℕ, List, inl, inr, length, refl, subst, sym}
use Rattle.std.specs.Prelude.{◌-◌, Option, None, Some, remove, slice_get}
use Rattle.run_theory.specs.Lists.{Each}
use Rattle.run_theory.proofs.EachSent.{each_get, each_removed}
use Rattle.run_theory.proofs.Pasts.{each_after, each_append, each_before}
use Rattle.sig_core.specs.declared.member.TxId.{TxId}
use Rattle.sig_core.specs.declared.signal.Signal.{Signal}
use Rattle.sig_core.specs.declared.signal.takeover.RecordState.{RecordState}
use Rattle.sig_core.specs.declared.signal.takeover.RecordState.TheVariants.{Prepared, Committed, Marker}
use Rattle.sig_core.specs.declared.view.View.{View}
use Rattle.frag_map.specs.Layout.{Layout}
use Rattle.takeover_block.specs.declared.gathered.Gathered.{Gathered}
use Rattle.takeover_block.specs.declared.stage.Stage.{Stage}
use Rattle.takeover_block.specs.declared.stage.Stage.TheVariants.{Gathering, Committing, Completing}
use Rattle.takeover_block.specs.Gathered.{first_epoch, noted, told_epoch, told_first, told_more}
use Rattle.takeover_block.specs.Rule.{entering, finishing, ruling, ruling_by, way_by, way_of}
use Rattle.takeover_block.specs.State.{TakeoverState, in_view, with_gathered}
use Rattle.takeover_block.specs.Takeover.{takeover_row}
use Rattle.takeover_block.proofs.EachTakeover.{takeover_each}
use Rattle.takeover_block.proofs.NotedLemmas.{IsMore, IsNew, noted_is}
use Rattle.outcome_laws.specs.Known.{IsDecidedAs, IsDecidedAt, TakeoverKnows}
use Rattle.outcome_laws.specs.Tells.{Tells, TellsOfRecord}

module _ (D : TxId → ℕ → Type 0) (B : TxId → Type 0) where
  -- it knows the epoch of each that it has gathered, where one was told
  abbrev pub IsKnown : Gathered → Type 0
  IsKnown g = IsDecidedAs D B g.tx g.epoch

  abbrev pub KnowsAll : List Gathered → Type 0
  KnowsAll gathered = Each IsKnown gathered

  -- what a member tells of an epoch
  told_right : (tx : TxId) (told : RecordState) (epoch : ℕ) → TellsOfRecord D B tx told epoch
      → IsDecidedAs D B tx (told_epoch told epoch)
  told_right tx Prepared epoch right = tt
  told_right tx Committed epoch right = right
  told_right tx Marker epoch right = right

  first_right : (tx : TxId) (before told : Option ℕ) → IsDecidedAs D B tx before → IsDecidedAs D B tx told
      → IsDecidedAs D B tx (first_epoch before told)
  first_right tx None told own right = right
  first_right tx (Some epoch) told own right = own

  -- one more record is among what was gathered
  noted_known : (gathered : List Gathered) (tx : TxId) (key : List ℕ) (epoch : Option ℕ) → KnowsAll gathered
      → IsDecidedAs D B tx epoch → KnowsAll (noted gathered tx key epoch)
  noted_known gathered tx key epoch all right = by (noted_is gathered tx key epoch)
    where
      by : IsNew tx key epoch gathered (noted gathered tx key epoch)
          ⊎ IsMore tx key epoch gathered (noted gathered tx key epoch) → KnowsAll (noted gathered tx key epoch)
      by (inl new) =
          let parts = subst KnowsAll new.is all in
          subst KnowsAll (sym new.after)
          (each_append IsKnown new.front (told_first tx key epoch ∷ new.back)
          (each_before IsKnown new.front new.back parts)
          (right, each_after IsKnown new.front new.back parts))
      by (inr more) =
          let parts = subst KnowsAll more.is all in
          let behind = each_after IsKnown more.front (more.own ∷ more.back) parts in
          let own = subst (λ u. IsDecidedAs D B u epoch) (sym more.same) right in
          subst KnowsAll (sym more.after)
          (each_append IsKnown more.front (told_more more.own key epoch ∷ more.back)
          (each_before IsKnown more.front (more.own ∷ more.back) parts)
          (first_right more.own.tx more.own.epoch epoch behind.0 own, behind.1))

  -- it goes on with the epoch that it commits with
  commits_on : (epoch n m : ℕ) (first : Option Gathered) → IsDecidedAt D B (Committing epoch n) first
      → IsDecidedAt D B (Committing epoch m) first
  commits_on epoch n m None right = tt
  commits_on epoch n m (Some g) right = right

  completes_on : (epoch n m : ℕ) (first : Option Gathered) → IsDecidedAt D B (Completing epoch n) first
      → IsDecidedAt D B (Completing epoch m) first
  completes_on epoch n m None right = tt
  completes_on epoch n m (Some g) right = right

  pub is_completed : (epoch n m : ℕ) (first : Option Gathered) → IsDecidedAt D B (Committing epoch n) first
      → IsDecidedAt D B (Completing epoch m) first
  is_completed epoch n m None right = tt
  is_completed epoch n m (Some g) right = right

  -- the way of a transaction is by the epoch that is known of it
  pub way_known : (layout : Layout) (g : Gathered) → IsKnown g
      → IsDecidedAt D B (way_of layout g) (Some g)
  unfolding way_of
  way_known layout g right = by g.epoch right
    where
      by : (epoch : Option ℕ) → IsDecidedAs D B g.tx epoch → IsDecidedAt D B (way_by layout g.keys epoch) (Some g)
      by None right = tt
      by (Some epoch) right = right

  -- what it knows where the first is ruled on
  rules_know : (s : TakeoverState) → KnowsAll s.gathered → TakeoverKnows D B (ruling s).state
  unfolding ruling entering
  rules_know s all = by (slice_get s.gathered 0) refl
    where
      by : (first : Option Gathered) → slice_get s.gathered 0 ≡ first → TakeoverKnows D B (ruling_by s first).state
      by None is = record { gathered = all; first = tt }
      by (Some g) is =
          let right = way_known s.layout g (each_get IsKnown s.gathered 0 g all is) in
          record { gathered = all; first = subst (IsDecidedAt D B (way_of s.layout g)) (sym is) right }

  finishes_know : (s : TakeoverState) → KnowsAll s.gathered → TakeoverKnows D B (finishing s).state
  unfolding finishing
  finishes_know s all =
      rules_know (with_gathered s (remove s.gathered 0))
      (each_removed IsKnown s.gathered 0 all)

  -- while it gathers it commits none
  gathers_on : (stage : Stage) (n : ℕ) (first : Option Gathered) → stage ≡ Gathering n → IsDecidedAt D B stage first
  gathers_on stage n first at = subst (λ stage. IsDecidedAt D B stage first) (sym at) tt

  -- it knows it of the stage that it is at
  pub known_at : (s : TakeoverState) (stage : Stage) → TakeoverKnows D B s → s.stage ≡ stage
      → IsDecidedAt D B stage (slice_get s.gathered 0)
  known_at s stage known at =
      subst (λ stage. IsDecidedAt D B stage (slice_get s.gathered 0)) at known.first

  -- whatever it takes
  pub takeover_knows : (s : TakeoverState) (x : Signal) → TakeoverKnows D B s → Tells D B x.body
      → TakeoverKnows D B (takeover_row s x).state
  unfolding entering
  takeover_knows s x known told =
      takeover_each s (λ step. TakeoverKnows D B step.state) x.body (record {
        stays = λ off. known;
        untold = λ tx key state epoch is off. known;
        unended = λ is off. known;
        orders = λ is some. record { gathered = tt; first = tt };
        orders_nobody = λ is none. rules_know _ tt;
        asks = λ place n is due at. record { gathered = known.gathered; first = known.first };
        tells = λ tx key state epoch n is at.
            record {
              gathered =
                  noted_known s.gathered tx key (told_epoch state epoch) known.gathered
                  (told_right tx state epoch (subst (Tells D B) is told));
              first = gathers_on s.stage n _ at;
            };
        ends = λ n is at more. record { gathered = known.gathered; first = tt };
        all_end = λ n is at last. rules_know s known.gathered;
        commits = λ tx key g e n is first at more.
            record {
              gathered = known.gathered;
              first = commits_on e n (n - 1) (slice_get s.gathered 0) (known_at s (Committing e n) known at);
            };
        all_commit = λ tx key g e n is first at last.
            record {
              gathered = known.gathered;
              first = is_completed e n (length g.keys) (slice_get s.gathered 0) (known_at s (Committing e n) known at);
            };
        completes = λ tx key g e n is first at more.
            record {
              gathered = known.gathered;
              first = completes_on e n (n - 1) (slice_get s.gathered 0) (known_at s (Completing e n) known at);
            };
        all_complete = λ tx key g e n is first at last. finishes_know s known.gathered;
        aborts = λ tx key g n is first at more. record { gathered = known.gathered; first = tt };
        all_abort = λ tx key g n is first at last. finishes_know s known.gathered;
        goes_on = λ tx place g is due at first. record { gathered = known.gathered; first = known.first };
      })

  -- behind a view that is installed nothing is gathered
  pub takeover_install_knows : (s : TakeoverState) (view : View) → TakeoverKnows D B (in_view s view)
  takeover_install_knows s view = record { gathered = tt; first = tt }
