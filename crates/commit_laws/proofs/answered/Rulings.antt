-- How far a takeover is with the transaction that it is at: while it commits it, no more answers are missing than it
-- awaits; while it completes it, each of its keys was committed in its view.
use Rattle.std.proofs.Common.{◌≡◌, ◌≤◌, ◌+◌, ◌-◌, ◌&&◌, ◌∙◌, ℕ, Bool, true, false, None, Some, Option, List, []}
use Rattle.std.proofs.Common.{◌∷◌, length, nat_lt, refl, sym, ap, arith, subst, ltb-false}
use Rattle.std.proofs.lemmas.Bool.{true≢false}
use Rattle.std.specs.Prelude.{remove, slice_get}
use Rattle.run_theory.specs.Lists.{Each, IsIn}
use Rattle.run_theory.proofs.Pasts.{each_map}
use Rattle.run_theory.proofs.EventCases.{event_moves}
use Rattle.world_views.specs.Machine.{machine}
use Rattle.sig_core.specs.declared.member.Member.{Member}
use Rattle.sig_core.specs.declared.member.TxId.{TxId}
use Rattle.sig_core.specs.declared.place.BlockId.{BlockId}
use Rattle.sig_core.specs.declared.place.BlockId.TheVariants as block
use Rattle.sig_core.specs.declared.signal.Body.{Body}
use Rattle.sig_core.specs.declared.signal.Body.TheVariants.{Chain}
use Rattle.sig_core.specs.declared.signal.Signal.{Signal}
use Rattle.sig_core.specs.declared.signal.chain.ChainSignal.TheVariants.{Committed}
use Rattle.sig_core.specs.declared.view.View.{View}
use Rattle.sig_core.specs.Same.{same_tx}
use Rattle.sig_core.specs.Step.{Step}
use Rattle.sig_core.proofs.Keys.{same_tx-self}
use Rattle.frag_map.specs.Layout.{first_layout}
use Rattle.tc_block.specs.Complete.{one_if}
use Rattle.takeover_block.specs.declared.gathered.Gathered.{Gathered}
use Rattle.takeover_block.specs.declared.stage.Stage.{Stage}
use Rattle.takeover_block.specs.declared.stage.Stage.TheVariants.{Aborting, Committing, Completing, Gathering, Resting}
use Rattle.takeover_block.specs.Rule.{entering, finishing, is_at_work, ruling, ruling_by, way_by, way_of}
use Rattle.takeover_block.specs.State.{TakeoverState, resting, with_gathered}
use Rattle.takeover_block.specs.Takeover.{takeover_row}
use Rattle.takeover_block.proofs.EachTakeover.{takeover_each}
use Rattle.takeover_block.proofs.LawLemmas.{first_found}
use Rattle.node_views.specs.declared.host_body.HostBody as hosts_of
use Rattle.node_views.specs.declared.parts.Parts.TheVariants as part
use Rattle.node_views.specs.declared.tc_part.TcPart.{TcPart}
use Rattle.node_views.specs.Fence.{is_body_fenced}
use Rattle.node_views.specs.Parts.{tc_row}
use Rattle.world_core.specs.Start.{Start, made}
use Rattle.world_core.specs.Steps.{HostStep}
use Rattle.world_views.specs.Sending.{is_own_work}
use Rattle.view_laws.specs.Runs.{view_after}
use Rattle.moment_laws.specs.Moments.{IsMoment, logs_of}
use Rattle.moment_laws.specs.Parts.{IsPassed}
use Rattle.moment_laws.specs.PartSteps.{PartEnters, PartTakes, handles, ignores, installs, remains, tc_kind}
use Rattle.moment_laws.specs.Places.{tc_of}
use Rattle.moment_laws.proofs.MomentHosts.{tc_started}
use Rattle.moment_laws.proofs.MomentViews.{moment_less}
use Rattle.moment_laws.proofs.PartKinds.{tc_is}
use Rattle.moment_laws.proofs.PartTaken.{IsTakenNow, handled_now}
use Rattle.request_laws.specs.Blocks.{takeover_after, takeover_in}
use Rattle.request_laws.specs.Tokens.{taken_along}
use Rattle.request_laws.proofs.routes.PartSteps.{TcStep, takeover_is}
use Rattle.request_laws.proofs.tokens.RowHosts.{test_taken}
use Rattle.request_laws.proofs.tokens.FirstInView.{taken_now}
use Rattle.commit_laws.specs.Answered.{WasCommittedIn}
use Rattle.commit_laws.proofs.answered.Counts.{told}
use Rattle.commit_laws.proofs.answered.Orphans.{keys_were_committed}
use Rattle.commit_laws.proofs.answered.Stays.{committed_stays}
use Rattle.commit_laws.proofs.drive.Foreign.{entering as entered, step}
use Rattle.commit_laws.proofs.drive.Kinds.{comes, committing, numbered}
use Rattle.commit_laws.proofs.drive.Lists.{any, mine}

-- of the first of the transactions, with these logs, in the view of this number; this is the log of its host
module _ (start : Start) (logs : ℕ → List HostStep) (number : ℕ) (log : List HostStep) where
  abbrev pub IsHeard : Stage → Option Gathered → Type 0
  IsHeard (Committing epoch awaited) (Some g) = length g.keys ≤ awaited + taken_along start (told g.tx number any) log
  IsHeard (Completing epoch awaited) (Some g) =
      Each (λ (key : List ℕ). WasCommittedIn start logs number g.tx key) g.keys
  IsHeard stage first = Unit {0}

  abbrev pub HasHeard : TakeoverState → Type 0
  HasHeard s = IsHeard s.stage (slice_get s.gathered 0)

-- it stays so as more is taken and sent
module _ (start : Start) (logs now : ℕ → List HostStep) (number : ℕ) (log behind : List HostStep)
    (more : (p : Signal → Bool) → taken_along start p log ≤ taken_along start p behind)
    (stays : (tx : TxId) (key : List ℕ) → WasCommittedIn start logs number tx key
    → WasCommittedIn start now number tx key)
  where
    heard_grows : (stage : Stage) (first : Option Gathered) → IsHeard start logs number log stage first
        → IsHeard start now number behind stage first
    heard_grows (Committing epoch awaited) (Some g) heard = omega (arith, heard, more (told g.tx number any))
    heard_grows (Completing epoch awaited) (Some g) heard =
        each_map (λ (key : List ℕ). WasCommittedIn start logs number g.tx key)
        (λ (key : List ℕ). WasCommittedIn start now number g.tx key) g.keys (λ key was. stays g.tx key was) heard
    heard_grows Resting first heard = tt
    heard_grows (Gathering awaited) first heard = tt
    heard_grows (Aborting awaited) first heard = tt
    heard_grows (Committing epoch awaited) None heard = tt
    heard_grows (Completing epoch awaited) None heard = tt

-- the first of them is ruled on: as many answers are awaited as it has keys
module _ (start : Start) (logs : ℕ → List HostStep) (number : ℕ) (log : List HostStep) where
  abbrev Heard : TakeoverState → Type 0
  Heard s = HasHeard start logs number log s

  way_heard : (s : TakeoverState) (g : Gathered) → IsHeard start logs number log (way_of s.layout g) (Some g)
  unfolding way_of
  way_heard s g = by g.epoch
    where
      by : (epoch : Option ℕ) → IsHeard start logs number log (way_by s.layout g.keys epoch) (Some g)
      by (Some epoch) = omega arith
      by None = tt

  ruling_heard : (s : TakeoverState) → Heard (ruling s).state
  unfolding ruling entering
  ruling_heard s = by (slice_get s.gathered 0) refl
    where
      by : (first : Option Gathered) → slice_get s.gathered 0 ≡ first → Heard (ruling_by s first).state
      by None is = tt
      by (Some g) is =
          subst (λ (o : Option Gathered). IsHeard start logs number log (way_of s.layout g) o) (sym is) (way_heard s g)

  finishing_heard : (s : TakeoverState) → Heard (finishing s).state
  unfolding finishing
  finishing_heard s = ruling_heard (with_gathered s (remove s.gathered 0))

-- what tells of a commit is of a kind that fences stop, and no host asks itself for it
comes_plain : (tx : TxId) (body : Body) → comes committing (mine tx any) body ≡ true
    → (is_own_work body ≡ false) × ((y : Signal) → is_body_fenced y body ≡ true)
comes_plain tx (Chain signal) is = (refl, λ y. refl)
comes_plain tx body is = absurd (true≢false (sym is))

-- an event of its host
module _ (start : Start) (all : ℕ → List HostStep) (e : HostStep) (es : List HostStep)
    (moment : IsMoment start all (e ∷ es)) (member : Member) (there : IsIn member (made start))
    (at : e.host ≡ tc_of start member)
  where
    abbrev old : ℕ → List HostStep
    old = logs_of start es

    abbrev new : ℕ → List HostStep
    new = logs_of start (e ∷ es)

    abbrev log : List HostStep
    log = logs_of start es e.host

    abbrev x : Signal
    x = e.step.taken

    abbrev s : TakeoverState
    s = takeover_after start member (logs_of start es e.host)

    abbrev stood : View
    stood = view_after start e.host (logs_of start es e.host)

    abbrev view : View
    view = view_after start e.host (e ∷ logs_of start es e.host)

    abbrev tc : TcStep start e.host log e
    tc = step start all e es moment member there at

    abbrev between : TcPart
    between = tc.does.between

    -- before the signal is taken
    abbrev Was : TakeoverState → Type 0
    Was t = HasHeard start old view.number log t

    -- and behind that
    abbrev Is : TakeoverState → Type 0
    Is t = HasHeard start new view.number (e ∷ log) t

    more : (p : Signal → Bool) → taken_along start p log ≤ taken_along start p (e ∷ log)
    more p = omega arith

    grows : (stage : Stage) (first : Option Gathered) → IsHeard start old view.number log stage first
        → IsHeard start new view.number (e ∷ log) stage first
    grows =
        heard_grows start old new view.number log (e ∷ log) more
        (λ tx key was. committed_stays start all e es moment view.number tx key was)

    -- one that is at work stood in the view before
    pub record Remains : Type 0 where
      pub number_is : view.number ≡ stood.number
      pub same : between.takeover ≡ s

    pub remained : PartEnters tc_kind tc.own stood x between view tc.does.front
        → is_at_work between.takeover.stage ≡ true → Remains
    remained (remains same stands none) work = record {
      number_is = ap (λ (v : View). v.number) stands;
      same = ap (λ (q : TcPart). q.takeover) same ∙ sym (takeover_is start member e.host log at tc.own tc.runs);
    }
    remained (installs above same stands sends) work =
        absurd (true≢false (sym work ∙ ap (λ (q : TcPart). is_at_work q.takeover.stage) same))

    between_was : HasHeard start old stood.number log s
        → PartEnters tc_kind tc.own stood x between view tc.does.front
        → Was between.takeover
    between_was heard (remains same stands none) =
        subst (λ (q : TcPart). Was q.takeover) (sym same)
        (subst Was (takeover_is start member e.host log at tc.own tc.runs)
        (subst (λ (v : View). HasHeard start old v.number log s) (sym stands) heard))
    between_was heard (installs above same stands sends) = subst (λ (q : TcPart). Was q.takeover) (sym same) tt

    pub taken_by : (b : BlockId) → x.to.block ≡ b → IsPassed start.shape (part.Tc between) view x
        → IsTakenNow start all e es moment b
    taken_by b to passed =
        handled_now start all e es moment tc_kind tc_is tc.own tc.runs between tc.does.front
        (entered start all e es moment member there at) passed b to

    -- the takeover takes the signal
    module _ (taken : IsTakenNow start all e es moment block.Takeover) (was : Was between.takeover) where
      -- a word of a commit is counted
      one_more : (tx : TxId) (key : List ℕ) (g : Gathered) → x.body ≡ Chain (Committed tx key) → g.tx ≡ tx
          → 1 + taken_along start (told g.tx view.number any) log
          ≤ taken_along start (told g.tx view.number any) (e ∷ log)
      one_more tx key g is own = omega (arith, now)
        where
          counted : one_if (comes committing (mine g.tx any) x.body) ≡ 1
          counted =
              ap (λ (b : Body). one_if (comes committing (mine g.tx any) b)) is
              ∙ ap (λ b. one_if (b && true)) (ap (λ t. same_tx tx t) own ∙ same_tx-self tx)

          now : 1 ≤ taken_now start all e es moment (told g.tx view.number any)
          now =
              subst
              (λ (v : View). 1 ≤ taken_now start all e es moment (numbered v.number (comes committing (mine g.tx any))))
              (sym taken.stands)
              (omega (
                arith,
                counted,
                test_taken start all e es moment (comes committing (mine g.tx any)) (comes_plain g.tx) block.Takeover
                    taken,
              ))

      pub first_was : (tx : TxId) (g : Gathered) → slice_get between.takeover.gathered 0 ≡ Some g → (stage : Stage)
          → between.takeover.stage ≡ stage → IsHeard start old view.number log stage (Some g)
      first_was tx g first stage at_stage =
          subst (λ (st : Stage). IsHeard start old view.number log st (Some g)) at_stage
          (subst (λ (o : Option Gathered). IsHeard start old view.number log between.takeover.stage o) first was)

      at_first : (g : Gathered) → slice_get between.takeover.gathered 0 ≡ Some g → (stage : Stage)
          → IsHeard start new view.number (e ∷ log) stage (Some g)
          → IsHeard start new view.number (e ∷ log) stage (slice_get between.takeover.gathered 0)
      at_first g first stage heard =
          subst (λ (o : Option Gathered). IsHeard start new view.number (e ∷ log) stage o) (sym first) heard

      -- the last word comes: each key was committed
      pub last_word : (tx : TxId) (key : List ℕ) (g : Gathered) (epoch n : ℕ) → x.body ≡ Chain (Committed tx key)
          → slice_get between.takeover.gathered 0 ≡ Some g → g.tx ≡ tx → between.takeover.stage ≡ Committing epoch n
          → nat_lt 1 n ≡ false → Each (λ (key : List ℕ). WasCommittedIn start new view.number g.tx key) g.keys
      last_word tx key g epoch n is first own at_stage last =
          each_map (λ (key : List ℕ). WasCommittedIn start old stood.number g.tx key)
          (λ (key : List ℕ). WasCommittedIn start new view.number g.tx key) g.keys
          (λ key was.
          committed_stays start all e es moment view.number g.tx key
          (subst (λ m. WasCommittedIn start old m g.tx key) (sym remains_so.number_is) was))
          (keys_were_committed start all e es moment member there at g epoch n
          (ap (λ (t : TakeoverState). slice_get t.gathered 0) (sym remains_so.same) ∙ first)
          (ap (λ (t : TakeoverState). t.stage) (sym remains_so.same) ∙ at_stage)
          (subst (λ m. length g.keys ≤ taken_along start (told g.tx m any) (e ∷ log)) remains_so.number_is
          (let before : length g.keys ≤ n + taken_along start (told g.tx view.number any) log =
          first_was tx g first (Committing epoch n) at_stage in
          omega (arith, before, ltb-false 1 n last, one_more tx key g is own))))
        where
          remains_so : Remains
          remains_so = remained tc.does.enters (ap is_at_work at_stage)

      -- whatever it takes
      row_heard : Is (takeover_row between.takeover x).state
      unfolding entering
      row_heard =
          takeover_each between.takeover (λ (done : Step TakeoverState). Is done.state) x.body (record {
            stays = λ off. same;
            untold = λ tx key state epoch is off. same;
            unended = λ is off. same;
            orders = λ is some. tt;
            orders_nobody = λ is none. ruling_heard start new view.number (e ∷ log) _;
            asks = λ place n is due at_stage. same;
            tells = λ tx key state epoch n is at_stage. at_gathering n at_stage _;
            ends = λ n is at_stage more. tt;
            all_end = λ n is at_stage last. ruling_heard start new view.number (e ∷ log) between.takeover;
            commits = λ tx key g epoch n is first at_stage some.
                let found = first_found between.takeover.gathered tx g first in
                at_first g found.there (Committing epoch (n - 1))
                (let before : length g.keys ≤ n + taken_along start (told g.tx view.number any) log =
                first_was tx g found.there (Committing epoch n) at_stage in
                omega (arith, before, one_more tx key g is found.own));
            all_commit = λ tx key g epoch n is first at_stage last.
                let found = first_found between.takeover.gathered tx g first in
                at_first g found.there (Completing epoch (length g.keys))
                (last_word tx key g epoch n is found.there found.own at_stage last);
            completes = λ tx key g epoch n is first at_stage some.
                let found = first_found between.takeover.gathered tx g first in
                at_first g found.there (Completing epoch (n - 1))
                (grows (Completing epoch n) (Some g) (first_was tx g found.there (Completing epoch n) at_stage));
            all_complete = λ tx key g epoch n is first at_stage last.
                finishing_heard start new view.number (e ∷ log) between.takeover;
            aborts = λ tx key g n is first at_stage some. tt;
            all_abort = λ tx key g n is first at_stage last.
                finishing_heard start new view.number (e ∷ log) between.takeover;
            goes_on = λ tx place g is due work first. same;
          })
        where
          same : Is between.takeover
          same = grows between.takeover.stage (slice_get between.takeover.gathered 0) was

          at_gathering : (n : ℕ) → between.takeover.stage ≡ Gathering n → (gs : List Gathered)
              → IsHeard start new view.number (e ∷ log) between.takeover.stage (slice_get gs 0)
          at_gathering n at_stage gs =
              subst (λ (st : Stage). IsHeard start new view.number (e ∷ log) st (slice_get gs 0)) (sym at_stage) tt

    module _ (heard : HasHeard start old stood.number log s) where
      pub was_between : Was between.takeover
      was_between = between_was heard tc.does.enters

      stays_so : Is between.takeover
      stays_so = grows between.takeover.stage (slice_get between.takeover.gathered 0) was_between

      block_heard : IsPassed start.shape (part.Tc between) view x → (b : BlockId) → x.to.block ≡ b
          → Is (tc_row between b x).state.takeover
      unfolding tc_row
      block_heard passed block.Takeover to = row_heard (taken_by block.Takeover to passed) was_between
      block_heard passed block.Tc to = stays_so
      block_heard passed block.Dih to = stays_so
      block_heard passed _ to = stays_so

      takes_heard : PartTakes tc_kind start.shape between view x tc.does.own tc.does.rest
          → Is tc.does.own.takeover
      takes_heard (ignores same none) = subst (λ (q : TcPart). Is q.takeover) (sym same) stays_so
      takes_heard (handles passed same sends) =
          subst (λ (q : TcPart). Is q.takeover) (sym same) (block_heard passed x.to.block refl)

      pub heard_next : HasHeard start (logs_of start (e ∷ es))
          (view_after start e.host (e ∷ logs_of start es e.host)).number (e ∷ logs_of start es e.host)
          (takeover_after start member (e ∷ logs_of start es e.host))
      heard_next =
          subst Is (sym (takeover_is start member e.host (e ∷ log) at tc.does.own tc.does.is))
          (takes_heard tc.does.takes)

-- so it is at each moment
abbrev pub HeardAt : Start → Member → (ℕ → List HostStep) → ℕ → List HostStep → Type 0
HeardAt start member logs h log =
    HasHeard start logs (view_after start h log).number log (takeover_after start member log)

module _ (start : Start) (all : ℕ → List HostStep) (member : Member) (there : IsIn member (made start)) where
  abbrev home : ℕ
  home = tc_of start member

  pub heard_always : (es : List HostStep) → IsMoment start all es
      → HeardAt start member (logs_of start es) (tc_of start member) (logs_of start es (tc_of start member))
  heard_always [] moment =
      subst (HasHeard start (logs_of start []) (view_after start home []).number [])
      (sym
      (ap (λ (s : hosts_of.HostBody). takeover_in (resting member.node (first_layout start.shape)) s.parts)
      (tc_started start moment.cluster.nobody member there)))
      tt
  heard_always (e ∷ es) moment =
      event_moves (machine start) e es
      (λ h was log. (h ≡ home → HeardAt start member old h was) → h ≡ home → HeardAt start member new h log)
      (λ before at. heard_next start all e es moment member there at (before at))
      (λ h log before at.
      heard_grows start old new (view_after start h log).number log log (λ p. omega arith)
      (λ tx key was. committed_stays start all e es moment (view_after start h log).number tx key was)
      (takeover_after start member log).stage (slice_get (takeover_after start member log).gathered 0) (before at))
      home (λ same. heard_always es (moment_less start all e es moment)) refl
    where
      old : ℕ → List HostStep
      old = logs_of start es

      new : ℕ → List HostStep
      new = logs_of start (e ∷ es)
