-- A takeover commits whom it was told to be committed, and aborts whom nobody told to be, once all members have ended.
use Rattle.std.proofs.Common.{◌≡◌, ◌-◌, ℕ, false, List, [], ◌∷◌, nat_lt, refl, sym, subst}
use Rattle.std.specs.Prelude.{Option, None, Some, remove, slice_get}
use Rattle.run_theory.specs.Lists.{Each}
use Rattle.run_theory.proofs.EachSent.{each_get, each_removed}
use Rattle.run_theory.proofs.Pasts.{each_map}
use Rattle.sig_core.specs.declared.member.TxId.{TxId}
use Rattle.sig_core.specs.declared.signal.Body.{Body}
use Rattle.sig_core.specs.declared.signal.Body.TheVariants.{Chain, Client, Epoch, Takeover}
use Rattle.sig_core.specs.declared.signal.chain.ChainSignal.TheVariants.{Commit}
use Rattle.sig_core.specs.declared.signal.Signal.{Signal}
use Rattle.sig_core.specs.declared.signal.takeover.TakeoverSignal.TheVariants.{LqhTransConf, LqhTransEnd}
use Rattle.sig_core.specs.declared.view.View.{View}
use Rattle.frag_map.specs.Layout.{Layout}
use Rattle.takeover_block.specs.declared.gathered.Gathered.{Gathered}
use Rattle.takeover_block.specs.declared.stage.Stage.{Stage}
use Rattle.takeover_block.specs.declared.stage.Stage.TheVariants.{Aborting, Committing, Completing, Gathering, Resting}
use Rattle.takeover_block.specs.Rule.{entering, finishing, ruling, ruling_by, way_by, way_of}
use Rattle.takeover_block.specs.State.{TakeoverState, in_view, with_gathered}
use Rattle.takeover_block.specs.Takeover.{takeover_row, takeover_table}
use Rattle.takeover_block.proofs.EachTakeover.{takeover_each}
use Rattle.outcome_laws.specs.Known.{TakeoverKnows}
use Rattle.outcome_laws.specs.Tells.{TellsOfRecord}
use Rattle.outcome_laws.proofs.takeovers.KnowEpochs.{takeover_install_knows, takeover_knows}
use Rattle.commit_laws.proofs.forth.Speaks.{Anyone, Of}

-- what is so of all that is gathered, once all members have ended
abbrev pub IsOnceClosed : (Gathered → Type 0) → Stage → Gathered → Type 0
IsOnceClosed W Resting g = Unit {0}
IsOnceClosed W (Gathering awaited) g = Unit {0}
IsOnceClosed W other g = W g

-- whom it is at work to abort
abbrev pub IsAbortingAt : (TxId → Type 0) → Stage → Option Gathered → Type 0
IsAbortingAt A (Aborting awaited) (Some g) = A g.tx
IsAbortingAt A other first = Unit {0}

module _ (A C : TxId → Type 0) (W : Gathered → Type 0) where
  pub record TakeoverIs (s : TakeoverState) : Type 0 where
    pub knows : TakeoverKnows (Of C) Anyone s
    pub aborting : IsAbortingAt A s.stage (slice_get s.gathered 0)
    pub closed : Each (IsOnceClosed W s.stage) s.gathered

  pub is_installed : (s : TakeoverState) (view : View) → TakeoverIs (in_view s view)
  is_installed s view =
      record { knows = takeover_install_knows (Of C) Anyone s view; aborting = tt; closed = tt }

  -- what a member tells of a transaction
  abbrev pub Hears : Body → Type 0
  Hears (Takeover (LqhTransConf tx key told epoch)) = TellsOfRecord (Of C) Anyone tx told epoch
  Hears body = Unit {0}

  -- where all members end by the signal, it is so of all that is gathered
  abbrev pub ClosesBy : TakeoverState → Body → Type 0
  ClosesBy s body =
      (n : ℕ) → body ≡ Takeover LqhTransEnd → s.stage ≡ Gathering n → nat_lt 1 n ≡ false → Each W s.gathered

  module _ (rules : (g : Gathered) → W g → g.epoch ≡ None → A g.tx) where
    closed_all : (stage : Stage) (gs : List Gathered) → Each W gs → Each (IsOnceClosed W stage) gs
    closed_all stage gs all = each_map W (IsOnceClosed W stage) gs (λ g is. by stage g is) all
      where
        by : (stage : Stage) (g : Gathered) → W g → IsOnceClosed W stage g
        by Resting g is = tt
        by (Gathering n) g is = tt
        by (Committing epoch n) g is = is
        by (Completing epoch n) g is = is
        by (Aborting n) g is = is

    -- the way of a transaction
    way_aborts : (layout : Layout) (g : Gathered) → W g → IsAbortingAt A (way_of layout g) (Some g)
    unfolding way_of
    way_aborts layout g is = by g.epoch refl
      where
        by : (epoch : Option ℕ) → g.epoch ≡ epoch → IsAbortingAt A (way_by layout g.keys epoch) (Some g)
        by None none = rules g is none
        by (Some epoch) some = tt

    -- what is so behind a step, beside what it knows
    pub record IsSo (s : TakeoverState) : Type 0 where
      aborting : IsAbortingAt A s.stage (slice_get s.gathered 0)
      closed : Each (IsOnceClosed W s.stage) s.gathered

    rules_so : (s : TakeoverState) → Each W s.gathered → IsSo (ruling s).state
    unfolding ruling entering
    rules_so s all = by (slice_get s.gathered 0) refl
      where
        by : (first : Option Gathered) → slice_get s.gathered 0 ≡ first → IsSo (ruling_by s first).state
        by None is = record { aborting = tt; closed = closed_all Resting s.gathered all }
        by (Some g) is = record {
          aborting =
              subst (IsAbortingAt A (way_of s.layout g)) (sym is)
              (way_aborts s.layout g (each_get W s.gathered 0 g all is));
          closed = closed_all (way_of s.layout g) s.gathered all;
        }

    finishes_so : (s : TakeoverState) → Each W s.gathered → IsSo (finishing s).state
    unfolding finishing
    finishes_so s all = rules_so (with_gathered s (remove s.gathered 0)) (each_removed W s.gathered 0 all)

    module _ (s : TakeoverState) (own : TakeoverIs s) where
      pub closed_at : (stage : Stage) → s.stage ≡ stage → Each (IsOnceClosed W stage) s.gathered
      closed_at stage at = subst (λ stage. Each (IsOnceClosed W stage) s.gathered) at own.closed

      aborting_at : (stage : Stage) → s.stage ≡ stage → IsAbortingAt A stage (slice_get s.gathered 0)
      aborting_at stage at = subst (λ stage. IsAbortingAt A stage (slice_get s.gathered 0)) at own.aborting

      aborts_on : (n m : ℕ) (first : Option Gathered) → IsAbortingAt A (Aborting n) first
          → IsAbortingAt A (Aborting m) first
      aborts_on n m None right = tt
      aborts_on n m (Some g) right = right

      same : IsSo s
      same = record { aborting = own.aborting; closed = own.closed }

      -- while it gathers nothing is claimed
      open_all : (n : ℕ) (gs : List Gathered) → Each (IsOnceClosed W (Gathering n)) gs
      open_all n [] = tt
      open_all n (g ∷ gs) = (tt, open_all n gs)

      gathering : (n : ℕ) → s.stage ≡ Gathering n → (gs : List Gathered) → IsSo (with_gathered s gs)
      gathering n at gs = record {
        aborting = subst (λ stage. IsAbortingAt A stage (slice_get gs 0)) (sym at) tt;
        closed = subst (λ stage. Each (IsOnceClosed W stage) gs) (sym at) (open_all n gs);
      }

      module _ (x : Signal) (closes : ClosesBy s x.body) where
        -- whatever it takes
        so : IsSo (takeover_row s x).state
        unfolding entering
        so =
            takeover_each s (λ step. IsSo step.state) x.body (record {
              stays = λ off. same;
              untold = λ tx key state epoch is off. same;
              unended = λ is off. same;
              orders = λ is some. record { aborting = tt; closed = tt };
              orders_nobody = λ is none. rules_so _ tt;
              asks = λ place n is due at. record { aborting = own.aborting; closed = own.closed };
              tells = λ tx key state epoch n is at. gathering n at _;
              ends = λ n is at more. record { aborting = tt; closed = open_all (n - 1) s.gathered };
              all_end = λ n is at last. rules_so s (closes n is at last);
              commits = λ tx key g e n is first at more.
                  record { aborting = tt; closed = closed_at (Committing e n) at };
              all_commit = λ tx key g e n is first at last.
                  record { aborting = tt; closed = closed_at (Committing e n) at };
              completes = λ tx key g e n is first at more.
                  record { aborting = tt; closed = closed_at (Completing e n) at };
              all_complete = λ tx key g e n is first at last. finishes_so s (closed_at (Completing e n) at);
              aborts = λ tx key g n is first at more.
                  record {
                    aborting = aborts_on n (n - 1) (slice_get s.gathered 0) (aborting_at (Aborting n) at);
                    closed = closed_at (Aborting n) at;
                  };
              all_abort = λ tx key g n is first at last. finishes_so s (closed_at (Aborting n) at);
              goes_on = λ tx place g is due at first. record { aborting = own.aborting; closed = own.closed };
            })

        -- what it knows, if what a member tells it is true
        knows_on : Hears x.body → TakeoverKnows (Of C) Anyone (takeover_row s x).state
        knows_on heard = by x.body heard
          where
            by : (body : Body) → Hears body → TakeoverKnows (Of C) Anyone (takeover_table s body).state
            by (Takeover (LqhTransConf tx key told epoch)) heard =
                takeover_knows (Of C) Anyone s (record x { body = Takeover (LqhTransConf tx key told epoch) })
                own.knows heard
            by (Client signal) heard = own.knows
            by (Epoch signal) heard = own.knows
            by (Chain (Commit tx key epoch chain at)) heard = own.knows
            by body heard = takeover_knows (Of C) Anyone s (record x { body = body }) own.knows tt

        pub goes_on_so : Hears x.body → TakeoverIs (takeover_row s x).state
        goes_on_so heard = record { knows = knows_on heard; aborting = so.aborting; closed = so.closed }
