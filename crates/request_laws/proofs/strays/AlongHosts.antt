-- A coordinator along the steps of its host: it has the number of the view in which that stands, and a fence above that
-- is of a set that was asked of it, to which all keep that are undecided, aren't doomed and have nothing unanswered.
use Rattle.std.proofs.Common.{◌≡◌, ◌⊎◌, ◌≤◌, ◌<◌, ◌∙◌, ◌&&◌, ◌||◌, ℕ, Bool, true, false, nat_lt, List, [], ◌∷◌, refl}
use Rattle.std.proofs.Common.{sym, ap, subst, arith, inl, inr}
use Rattle.std.specs.List.{list_any}
use Rattle.std.specs.Prelude.{if◌then◌else◌, is_some, Option, None, Some}
use Rattle.run_theory.specs.Lists.{Each, IsIn}
use Rattle.run_theory.proofs.Pasts.{each_from, each_in}
use Rattle.sig_core.specs.declared.member.TxId.{TxId}
use Rattle.sig_core.specs.declared.outs.Outgoing.{Outgoing}
use Rattle.sig_core.specs.declared.place.BlockId.{BlockId}
use Rattle.sig_core.specs.declared.place.BlockId.TheVariants as block
use Rattle.sig_core.specs.declared.signal.Body.TheVariants.{Membership}
use Rattle.sig_core.specs.declared.signal.membership.MembershipSignal.TheVariants.{FenceReq}
use Rattle.sig_core.specs.declared.signal.Signal.{Signal}
use Rattle.sig_core.specs.declared.view.Shape.{Shape}
use Rattle.sig_core.specs.declared.view.View.{View}
use Rattle.node_views.specs.Blocks.{fence_at}
use Rattle.node_views.specs.declared.parts.Parts.{Parts}
use Rattle.node_views.specs.declared.parts.Parts.TheVariants as part
use Rattle.node_views.specs.declared.tc_part.TcPart.{TcPart}
use Rattle.node_views.specs.Fence.{is_body_fenced, is_fenced}
use Rattle.node_views.specs.Parts.{tc_row}
use Rattle.node_views.specs.WellFormed.{is_well_formed}
use Rattle.tc_block.specs.declared.phase.Asked as operations
use Rattle.tc_block.specs.declared.transaction.Transaction.{Transaction}
use Rattle.tc_block.specs.Doom.{doomed_in, is_among, is_doomed_by, is_undecided, strays}
use Rattle.tc_views.specs.Coordinator.{coordinator_row}
use Rattle.tc_views.specs.State.{CoordinatorState, still_live}
use Rattle.tc_views.specs.Views.{fence_row, install_row}
use Rattle.world_core.specs.Start.{NobodyStarts, Start}
use Rattle.world_core.specs.Steps.{HostStep}
use Rattle.world_views.specs.Machine.{after}
use Rattle.view_laws.specs.Runs.{view_after}
use Rattle.moment_laws.specs.PartSteps.{PartEnters, PartTakes, TcDoes, handles, ignores, installs, remains, tc_kind}
use Rattle.moment_laws.proofs.PartKinds.{tc_after}
use Rattle.request_laws.specs.Strays.{HaleKeepTo, IsHale, KeepsTo}
use Rattle.request_laws.proofs.strays.DoomedInSteps.{Fences, dooms, keeps, promises, row_fences, stays_doomed}
use Rattle.request_laws.proofs.strays.AtRest.{HasRested, IsAtRest, IsNoAnswer, WasAtRest, row_rested}

-- whom a view doesn't doom keeps to it, if it is undecided and has no operation unanswered
spared_keeps : (view : View) (t : Transaction) → IsAtRest t → is_doomed_by view t ≡ false → KeepsTo view t
unfolding is_doomed_by
spared_keeps view t rests spared = by (is_undecided t.phase) t.asked rests.0 rests.1 spared
  where
    by : (undecided : Bool) (asked : Option operations.Asked) → undecided ≡ true → asked ≡ None
        → (undecided && (is_some asked || list_any (strays view) t.touched)) ≡ false → KeepsTo view t
    by true None is none spared = spared
    by true (Some asked) is none spared = absurd cc
    by false asked is none spared = absurd cc

-- who isn't doomed by a promise wasn't before, nor does the view doom it
not_either : (a b c : Bool) → ((a || b) ≡ true → c ≡ true) → c ≡ false → (a ≡ false) × (b ≡ false)
not_either true b c dooms off = let both : true ≡ false = sym (dooms refl) ∙ off in absurd cc
not_either false true c dooms off = let both : true ≡ false = sym (dooms refl) ∙ off in absurd cc
not_either false false c dooms off = (refl, refl)

promise_spares : (view : View) (s : CoordinatorState) (e : TxId × Transaction) → IsIn e s.tc.live
    → is_among (doomed_in view s.doomed s.tc.live) e.0 ≡ false
    → (is_among s.doomed e.0 ≡ false) × (is_doomed_by view e.1 ≡ false)
promise_spares view s e there off =
    not_either (is_among s.doomed e.0) (is_doomed_by view e.1) (is_among (doomed_in view s.doomed s.tc.live) e.0)
    (dooms view s.doomed s.tc.live e there) off

-- a signal that is of no kind that fences stop answers no operation
chain_fenced : (x : Signal) → (is_fenced x ≡ true → ⊥) → IsNoAnswer x.body
unfolding is_fenced
chain_fenced x free tx key answer is = free (ap (is_body_fenced x) is)

module _ (Asked : View → Type 0) where
  -- to a set that was asked of it, with the number of its fence, all keep that it hasn't doomed
  pub record IsKeptTo (s : CoordinatorState) : Type 0 where
    pub set : View
    pub number_is : set.number ≡ s.fence
    pub asked : Asked set
    pub keep : HaleKeepTo set s

  pub record Stands (number : ℕ) (s : CoordinatorState) : Type 0 where
    pub number_is : s.number ≡ number
    pub fenced : number < s.fence → IsKeptTo s

  -- a greater view is installed
  installs_stand : (number : ℕ) (s : CoordinatorState) (view : View) → number < view.number → Stands number s
      → Stands view.number (install_row s view).state
  unfolding install_row
  installs_stand number s view above stands =
      record { number_is = refl; fenced = by (nat_lt s.fence view.number) refl }
    where
      now : CoordinatorState
      now = (install_row s view).state

      same : IsKeptTo s → now.fence ≡ s.fence → IsKeptTo now
      same kept is = record {
        set = kept.set;
        number_is = kept.number_is ∙ sym is;
        asked = kept.asked;
        keep =
            each_from (λ (e : TxId × Transaction). IsHale now e → KeepsTo kept.set e.1) s.tc.live
            (λ e there hale.
            each_in (λ (e : TxId × Transaction). IsHale s e → KeepsTo kept.set e.1) e s.tc.live kept.keep there
            (record { undecided = hale.undecided; spared = hale.spared; answered = hale.answered }));
      }

      by : (b : Bool) → nat_lt s.fence view.number ≡ b → view.number < now.fence → IsKeptTo now
      by true is high =
          let low : now.fence ≡ view.number = ap (λ b. if b then view.number else s.fence) is in
          absurd (omega (arith, low, high))
      by false is high =
          let stays : now.fence ≡ s.fence = ap (λ b. if b then view.number else s.fence) is in
          same (stands.fenced (omega (arith, above, stays, high))) stays

  -- a view is promised
  promises_stand : (number : ℕ) (s : CoordinatorState) (proposal : View) → Asked proposal → Stands number s
      → Stands number (fence_row s proposal).state
  unfolding fence_row
  promises_stand number s proposal asked stands =
      record { number_is = stands.number_is; fenced = by (nat_lt s.fence proposal.number) refl }
    where
      now : CoordinatorState
      now = (fence_row s proposal).state

      spared : (e : TxId × Transaction) → IsIn e s.tc.live → IsHale now e
          → (is_among s.doomed e.0 ≡ false) × (is_doomed_by proposal e.1 ≡ false)
      spared e there hale = promise_spares proposal s e there hale.spared

      newly : proposal.number ≡ now.fence → IsKeptTo now
      newly is = record {
        set = proposal;
        number_is = is;
        asked = asked;
        keep =
            each_from (λ (e : TxId × Transaction). IsHale now e → KeepsTo proposal e.1) s.tc.live
            (λ e there hale. spared_keeps proposal e.1 (hale.undecided, hale.answered) (spared e there hale).1);
      }

      still : IsKeptTo s → now.fence ≡ s.fence → IsKeptTo now
      still kept is = record {
        set = kept.set;
        number_is = kept.number_is ∙ sym is;
        asked = kept.asked;
        keep =
            each_from (λ (e : TxId × Transaction). IsHale now e → KeepsTo kept.set e.1) s.tc.live
            (λ e there hale.
            each_in (λ (e : TxId × Transaction). IsHale s e → KeepsTo kept.set e.1) e s.tc.live kept.keep there
            (record {
              undecided = hale.undecided;
              spared = (spared e there hale).0;
              answered = hale.answered;
            }));
      }

      by : (b : Bool) → nat_lt s.fence proposal.number ≡ b → number < now.fence → IsKeptTo now
      by true is high = newly (sym (ap (λ b. if b then proposal.number else s.fence) is))
      by false is high =
          let stays : now.fence ≡ s.fence = ap (λ b. if b then proposal.number else s.fence) is in
          still (stands.fenced (omega (arith, stays, high))) stays

  -- nothing but a promise raises the fence, and no answer comes from below it
  module _ (number : ℕ) (s t : CoordinatorState) (stands : Stands number s)
      (rested : number < s.fence → Each (HasRested s.tc.live) t.tc.live)
      (doomed : (t.doomed ≡ s.doomed) ⊎ (t.doomed ≡ still_live t.tc s.doomed))
    where
      still_hale : (e : TxId × Transaction) → IsIn e t.tc.live → is_among t.doomed e.0 ≡ false
          → is_among s.doomed e.0 ≡ false
      still_hale e there off = by (is_among s.doomed e.0) refl
        where
          by : (b : Bool) → is_among s.doomed e.0 ≡ b → b ≡ false
          by false is = refl
          by true is = let both : true ≡ false = sym (stays_doomed s t e there doomed is) ∙ off in absurd cc

      keeps_on : number < s.fence → t.fence ≡ s.fence → IsKeptTo t
      keeps_on high same = record {
        set = kept.set;
        number_is = kept.number_is ∙ sym same;
        asked = kept.asked;
        keep = each_from (λ (e : TxId × Transaction). IsHale t e → KeepsTo kept.set e.1) t.tc.live each;
      }
        where
          kept : IsKeptTo s
          kept = stands.fenced high

          each : (e : TxId × Transaction) → IsIn e t.tc.live → IsHale t e → KeepsTo kept.set e.1
          each e there hale =
              by (each_in (HasRested s.tc.live) e t.tc.live (rested high) there (hale.undecided, hale.answered))
            where
              by : (e.1.touched ≡ []) ⊎ WasAtRest s.tc.live e → KeepsTo kept.set e.1
              by (inl none) = ap (list_any (strays kept.set)) none
              by (inr was) =
                  ap (list_any (strays kept.set)) was.same
                  ∙ each_in (λ (e : TxId × Transaction). IsHale s e → KeepsTo kept.set e.1) (e.0, was.before)
                  s.tc.live kept.keep was.there
                  (record {
                    undecided = was.rested.0;
                    spared = still_hale e there hale.spared;
                    answered = was.rested.1;
                  })

  row_stands : (number : ℕ) (s : CoordinatorState) (x : Signal) → x.view.number ≤ number
      → (is_fenced x ≡ true → s.fence ≤ x.view.number)
      → ((set : View) → x.body ≡ Membership (FenceReq set) → Asked set) → Stands number s
      → Stands number (coordinator_row s x).state
  row_stands number s x low fresh asks stands = by (coordinator_row s x).state refl (row_fences s x)
    where
      rested : (t : CoordinatorState) → (coordinator_row s x).state ≡ t → number < s.fence
          → Each (HasRested s.tc.live) t.tc.live
      rested t is high =
          subst (λ (t : CoordinatorState). Each (HasRested s.tc.live) t.tc.live) is
          (row_rested s x (chain_fenced x (λ fenced. let above = fresh fenced in omega (arith, above, low, high))))

      by : (t : CoordinatorState) → (coordinator_row s x).state ≡ t → Fences s x.body t → Stands number t
      by t is (promises proposal says same) =
          subst (Stands number) (sym same) (promises_stand number s proposal (asks proposal says) stands)
      by t is (keeps numbered fence doomed) = record {
        number_is = numbered ∙ stands.number_is;
        fenced = λ high. keeps_on number s t stands (rested t is) doomed (omega (arith, high, fence)) fence;
      }

  -- the coordinating part of a host, which takes no signal of a greater view than it stands in
  tc_stands : (p : TcPart) (to : BlockId) (view : View) (x : Signal) → x.view.number ≤ view.number
      → (is_fenced x ≡ true → fence_at (part.Tc p) to view.number ≤ x.view.number)
      → ((set : View) → x.body ≡ Membership (FenceReq set) → to ≡ block.Tc → Asked set)
      → Stands view.number p.coordinator → Stands view.number (tc_row p to x).state.coordinator
  unfolding tc_row
  tc_stands p block.Tc view x low fresh asks stands =
      row_stands view.number p.coordinator x low fresh (λ set says. asks set says refl) stands
  tc_stands p block.Takeover view x low fresh asks stands = stands
  tc_stands p block.Dih view x low fresh asks stands = stands
  tc_stands p _ view x low fresh asks stands = stands

  -- so of the blocks of a host
  abbrev pub StandsIn : View → Parts → Type 0
  StandsIn view (part.Tc p) = Stands view.number p.coordinator
  StandsIn view parts = ⊥

  module _ (shape : Shape) (x : Signal)
      (asks : is_well_formed shape x ≡ true → (set : View) → x.body ≡ Membership (FenceReq set) → Asked set)
    where
      enters_stand : (p : TcPart) (view : View) (between : TcPart) (stood : View) (front : List Outgoing)
          → PartEnters tc_kind p view x between stood front → Stands view.number p.coordinator
          → Stands stood.number between.coordinator
      enters_stand p view between stood front (remains same stays none) stands =
          subst (λ (v : View). Stands v.number between.coordinator) (sym stays)
          (subst (λ (q : TcPart). Stands view.number q.coordinator) (sym same) stands)
      enters_stand p view between stood front (installs above same seen sent) stands =
          subst (λ (v : View). Stands v.number between.coordinator) (sym seen)
          (subst (λ (q : TcPart). Stands x.view.number q.coordinator) (sym same)
          (installs_stand view.number p.coordinator x.view above stands))

      takes_stand : (between : TcPart) (stood : View) (own : TcPart) (rest : List Outgoing)
          → PartTakes tc_kind shape between stood x own rest → Stands stood.number between.coordinator
          → Stands stood.number own.coordinator
      takes_stand between stood own rest (ignores same none) stands =
          subst (λ (q : TcPart). Stands stood.number q.coordinator) (sym same) stands
      takes_stand between stood own rest (handles passed same sent) stands =
          subst (λ (q : TcPart). Stands stood.number q.coordinator) (sym same)
          (tc_stands between x.to.block stood x passed.low passed.fresh (λ set says to. asks passed.sound set says)
          stands)

      does_stand : (p : TcPart) (view : View) (now : Parts) (seen : View) (sends : List Outgoing)
          → TcDoes shape p view x now seen sends → Stands view.number p.coordinator → StandsIn seen now
      does_stand p view now seen sends did stands =
          subst (StandsIn seen) (sym did.is)
          (takes_stand did.between seen did.own did.rest did.takes
          (enters_stand p view did.between seen did.front did.enters stands))

  -- and behind each step of the host
  pub step_stands : (start : Start) (nobody : NobodyStarts start) (h : ℕ) → 1 ≤ h → (log : List HostStep) (e : HostStep)
      → (is_well_formed start.shape e.step.taken ≡ true → (set : View)
      → e.step.taken.body ≡ Membership (FenceReq set) → Asked set)
      → StandsIn (view_after start h log) (after start h log).parts
      → StandsIn (view_after start h (e ∷ log)) (after start h (e ∷ log)).parts
  step_stands start nobody h some log e asks = by (after start h log).parts refl
    where
      by : (parts : Parts) → (after start h log).parts ≡ parts → StandsIn (view_after start h log) parts
          → StandsIn (view_after start h (e ∷ log)) (after start h (e ∷ log)).parts
      by (part.Tc p) runs stands =
          does_stand start.shape e.step.taken asks p (view_after start h log) (after start h (e ∷ log)).parts
          (view_after start h (e ∷ log)) _ (tc_after start nobody h log e some p runs) stands
      by (part.Shell p) runs stands = absurd stands
      by (part.Main p) runs stands = absurd stands
      by (part.Ldm p) runs stands = absurd stands

-- a set that was asked for otherwise
pub stands_more : (Asked Other : View → Type 0) → ((set : View) → Asked set → Other set) → (view : View) (parts : Parts)
    → StandsIn Asked view parts → StandsIn Other view parts
stands_more Asked Other more view (part.Tc p) stands = record {
  number_is = stands.number_is;
  fenced = λ high.
      let kept = stands.fenced high in
      record { set = kept.set; number_is = kept.number_is; asked = more kept.set kept.asked; keep = kept.keep };
}
stands_more Asked Other more view (part.Shell p) stands = absurd stands
stands_more Asked Other more view (part.Main p) stands = absurd stands
stands_more Asked Other more view (part.Ldm p) stands = absurd stands
