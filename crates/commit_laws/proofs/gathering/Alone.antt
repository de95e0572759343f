-- While a takeover gathers in the current view none was at work in it, as one alone is ordered.
use Rattle.std.proofs.Common.{◌≡◌, ◌≢◌, ◌≤◌, ◌<◌, ◌⊎◌, ◌+◌, ◌∙◌, ℕ, zero, suc, Bool, true, false, List, [], ◌∷◌, inl}
use Rattle.std.proofs.Common.{inr, refl, sym, ap, arith, subst}
use Rattle.std.proofs.lemmas.Bool.{cases_eq, cases_lt, true≢false}
use Rattle.std.specs.Prelude.{Option, None, Some, remove, slice_get}
use Rattle.run_theory.specs.Counts.{total}
use Rattle.run_theory.specs.Lists.{IsIn}
use Rattle.run_theory.proofs.EventCases.{event_cases}
use Rattle.commit_laws.proofs.hosts.OwnTaken.{tc_taken}
use Rattle.sig_core.specs.declared.member.Member.{Member}
use Rattle.sig_core.specs.declared.member.TxId.{TxId}
use Rattle.sig_core.specs.declared.place.BlockId.{BlockId}
use Rattle.sig_core.specs.declared.place.BlockId.TheVariants as block
use Rattle.sig_core.specs.declared.signal.Body.TheVariants.{Takeover}
use Rattle.sig_core.specs.declared.signal.Signal.{Signal}
use Rattle.sig_core.specs.declared.signal.takeover.TakeoverSignal.TheVariants.{TakeoverOrd}
use Rattle.sig_core.specs.declared.view.View.{View}
use Rattle.sig_core.specs.Step.{Step}
use Rattle.lqh_block.specs.Views.{is_coordinated}
use Rattle.takeover_block.specs.declared.gathered.Gathered.{Gathered}
use Rattle.takeover_block.specs.declared.stage.Stage.{Stage}
use Rattle.takeover_block.specs.declared.stage.Stage.TheVariants as stage
use Rattle.takeover_block.specs.Rule.{entering, finishing, is_at_work, ruling, ruling_by, way_by, way_of}
use Rattle.takeover_block.specs.State.{TakeoverState, with_gathered}
use Rattle.takeover_block.specs.Takeover.{takeover_row}
use Rattle.takeover_block.proofs.EachTakeover.{is_gathering, takeover_each}
use Rattle.node_views.specs.declared.parts.Parts.TheVariants as part
use Rattle.node_views.specs.declared.tc_part.TcPart.{TcPart}
use Rattle.node_views.specs.Parts.{tc_row}
use Rattle.world_core.specs.Hosts.{hosts, member_at}
use Rattle.world_core.specs.Start.{NobodyStarts, Start, made}
use Rattle.world_core.specs.Steps.{HostStep}
use Rattle.world_views.specs.Machine.{machine}
use Rattle.view_laws.specs.Runs.{WasInstalled, view_after}
use Rattle.view_laws.proofs.runs.AllSound.{have_orderly}
use Rattle.view_laws.proofs.runs.ChosenViews.{one_view}
use Rattle.moment_laws.specs.Moments.{IsMoment, current, logs_of}
use Rattle.moment_laws.specs.Parts.{IsPassed}
use Rattle.moment_laws.specs.PartSteps.{PartEnters, PartTakes, handles, ignores, installs, remains, tc_kind}
use Rattle.moment_laws.specs.Places.{tc_of}
use Rattle.moment_laws.proofs.MomentHosts.{tc_low, tc_member}
use Rattle.moment_laws.proofs.MomentTurns.{current_rises}
use Rattle.moment_laws.proofs.MomentViews.{current_number, moment_installed, moment_less, number_in}
use Rattle.moment_laws.proofs.PartTaken.{IsTakenNow}
use Rattle.request_laws.specs.Blocks.{takeover_after}
use Rattle.request_laws.specs.Tokens.{all_taken, taken_along}
use Rattle.request_laws.proofs.routes.PartSteps.{TcStep, own_tc, takeover_is}
use Rattle.request_laws.proofs.tokens.FirstInView.{all_taken_more, taken_now}
use Rattle.request_laws.specs.Orphans.{IsOrphan}
use Rattle.commit_laws.specs.Ruling.{AllRest, NoneRuled}
use Rattle.commit_laws.specs.Takeovers.{takeover_at}
use Rattle.commit_laws.proofs.drive.Kinds.{numbered}
use Rattle.commit_laws.proofs.drive.Ordered.{ruled}
use Rattle.commit_laws.proofs.drive.Ruled.{OrdersAreOnce, is_order, order_taken}

-- a sum is no less than one or two of what it adds
one_low : (n : ℕ) (f : ℕ → ℕ) (h : ℕ) → h < n → f h ≤ total n f
one_low zero f h low = absurd (omega (arith, low))
one_low (suc n) f h low = by (cases_eq n h) (one_low n f h)
  where
    by : (n ≡ h) ⊎ (n ≢ h) → (h < n → f h ≤ total n f) → f h ≤ f n + total n f
    by (inl is) rest = let same = ap f is in omega (arith, same)
    by (inr off) rest = let less = rest (omega (arith, low, off)) in omega (arith, less)

pub two_low : (n : ℕ) (f : ℕ → ℕ) (h k : ℕ) → h < n → k < n → h ≢ k → f h + f k ≤ total n f
two_low zero f h k low high apart = absurd (omega (arith, low))
two_low (suc n) f h k low high apart = by (cases_eq n h) (cases_eq n k) (two_low n f h k)
  where
    by : (n ≡ h) ⊎ (n ≢ h) → (n ≡ k) ⊎ (n ≢ k) → (h < n → k < n → h ≢ k → f h + f k ≤ total n f)
        → f h + f k ≤ f n + total n f
    by (inl is) (inl too) rest = absurd (apart (sym is ∙ too))
    by (inl is) (inr off) rest =
        let same = ap f is in
        let less = one_low n f k (omega (arith, high, off)) in
        omega (arith, same, less)
    by (inr off) (inl is) rest =
        let same = ap f is in
        let less = one_low n f h (omega (arith, low, off)) in
        omega (arith, same, less)
    by (inr off) (inr away) rest =
        let less = rest (omega (arith, low, off)) (omega (arith, high, away)) apart in omega (arith, less)

-- who gathers behind a signal that is no order did so before
gathers : (s : TakeoverState) (n : ℕ) → s.stage ≡ stage.Gathering n → is_gathering s.stage ≡ true
gathers s n is = ap is_gathering is

abbrev Off : TakeoverState → Type 0
Off s = is_gathering s.stage ≡ true → ⊥

off_ruled : (s : TakeoverState) → Off (ruling s).state
unfolding ruling entering way_of
off_ruled s = by (slice_get s.gathered 0)
  where
    way : (g : Gathered) (o : Option ℕ) → is_gathering (way_by s.layout g.keys o) ≡ true → ⊥
    way g None is = true≢false (sym is)
    way g (Some epoch) is = true≢false (sym is)

    by : (o : Option Gathered) → Off (ruling_by s o).state
    by None = λ is. true≢false (sym is)
    by (Some g) = way g g.epoch

off_finished : (s : TakeoverState) → Off (finishing s).state
unfolding finishing
off_finished s = off_ruled (with_gathered s (remove s.gathered 0))

still_gathers : (s : TakeoverState) (x : Signal) → (x.body ≡ Takeover TakeoverOrd → ⊥)
    → is_gathering (takeover_row s x).state.stage ≡ true → is_gathering s.stage ≡ true
unfolding entering
still_gathers s x unordered =
    takeover_each s (λ (step : Step TakeoverState). is_gathering step.state.stage ≡ true → is_gathering s.stage ≡ true)
    x.body (record {
      stays = λ other is. is;
      untold = λ tx key state epoch body idle is. is;
      unended = λ body idle is. is;
      orders = λ body some. absurd (unordered body);
      orders_nobody = λ body none. absurd (unordered body);
      asks = λ place n body due at is. is;
      tells = λ tx key state epoch n body at is. is;
      ends = λ n body at more is. gathers s n at;
      all_end = λ n body at last is. gathers s n at;
      commits = λ tx key g e n body first at more is. absurd (true≢false (sym is));
      all_commit = λ tx key g e n body first at last is. absurd (true≢false (sym is));
      completes = λ tx key g e n body first at more is. absurd (true≢false (sym is));
      all_complete = λ tx key g e n body first at last is. absurd (off_finished s is);
      aborts = λ tx key g n body first at more is. absurd (true≢false (sym is));
      all_abort = λ tx key g n body first at last is. absurd (off_finished s is);
      goes_on = λ tx place g body due work first is. is;
    })

not_both : (at : Stage) → is_gathering at ≡ true → is_at_work at ≡ false
not_both (stage.Gathering n) is = refl
not_both stage.Resting is = refl
not_both (stage.Committing e n) is = absurd (true≢false (sym is))
not_both (stage.Completing e n) is = absurd (true≢false (sym is))
not_both (stage.Aborting n) is = absurd (true≢false (sym is))

module _ (orders : OrdersAreOnce) (start : Start) (all : ℕ → List HostStep) (tx : TxId) (number : ℕ)
    (left : (view : View) → WasInstalled start all view → view.number ≡ number → is_coordinated view.full tx ≡ false)
  where
    abbrev p : Signal → Bool
    p = numbered number is_order

    abbrev ordered : List HostStep → Member → ℕ
    ordered es member = taken_along start (numbered number is_order) (logs_of start es (tc_of start member))

    abbrev all_ordered : List HostStep → ℕ
    all_ordered es = all_taken start (numbered number is_order) (logs_of start es)

    abbrev StandsAt : List HostStep → Member → Type 0
    StandsAt es member = number_in start (logs_of start es) (tc_of start member) ≡ number

    abbrev stage_at : List HostStep → Member → Stage
    stage_at es member = (takeover_at start (logs_of start es) member).stage

    -- who wasn't ordered rests
    idle : (es : List HostStep) → IsMoment start all es → (member : Member) → IsIn member (made start)
        → StandsAt es member → ordered es member ≡ 0 → stage_at es member ≡ stage.Resting
    idle es moment member there stands none =
        ((ruled orders start all tx [] number left es moment member there).now stands).idle none

    few : NobodyStarts start → (es : List HostStep) (member : Member) → IsIn member (made start)
        → ordered es member ≤ all_ordered es
    few nobody es member there =
        one_low (hosts start) (λ h. taken_along start p (logs_of start es h)) (tc_of start member)
        (tc_low start nobody member there)

    -- before the order none was at work
    unordered_rest : (es : List HostStep) → IsMoment start all es → current_number start (logs_of start es) ≡ number
        → all_ordered es ≡ 0 → NoneRuled start es
    unordered_rest [] moment here none = tt
    unordered_rest (e ∷ es) moment here none = (
      rests,
      by (cases_lt (current_number start (logs_of start es)) (current_number start (logs_of start (e ∷ es))))
          (unordered_rest es (moment_less start all e es moment)),
    )
      where
        rests : AllRest start (logs_of start (e ∷ es))
        rests member there stands =
            ap is_at_work (idle (e ∷ es) moment member there (stands ∙ here)
            (let less = few moment.cluster.nobody (e ∷ es) member there in omega (arith, less, none)))

        by : (current_number start (logs_of start es) < current_number start (logs_of start (e ∷ es)))
            ⊎ (current_number start (logs_of start (e ∷ es)) ≤ current_number start (logs_of start es))
            → (current_number start (logs_of start es) ≡ number → all_ordered es ≡ 0 → NoneRuled start es)
            → (current_number start (logs_of start es) < current_number start (logs_of start (e ∷ es)))
            ⊎ NoneRuled start es
        by (inl above) rest = inl above
        by (inr low) rest =
            let rises = current_rises start all e es moment in
            inr (rest (omega (arith, rises, low, here))
            (omega (arith, none, all_taken_more start all e es moment p)))

    -- the takeover of a member gathers
    module _ (member : Member) (there : IsIn member (made start)) where
      abbrev h : ℕ
      h = tc_of start member

      module _ (e : HostStep) (es : List HostStep) (moment : IsMoment start all (e ∷ es))
          (here : current_number start (logs_of start (e ∷ es)) ≡ number) (stands : StandsAt (e ∷ es) member)
          (gathering : is_gathering (stage_at (e ∷ es) member) ≡ true)
        where
          abbrev old : ℕ → List HostStep
          old = logs_of start es

          abbrev log : List HostStep
          log = logs_of start es (tc_of start member)

          abbrev x : Signal
          x = e.step.taken

          own_ordered : 1 ≤ ordered (e ∷ es) member
          own_ordered = by (cases_eq (ordered (e ∷ es) member) 0)
            where
              by : (ordered (e ∷ es) member ≡ 0) ⊎ (ordered (e ∷ es) member ≢ 0) → 1 ≤ ordered (e ∷ es) member
              by (inl none) =
                  absurd (true≢false (sym gathering ∙ ap is_gathering (idle (e ∷ es) moment member there stands none)))
              by (inr some) = omega (arith, some)

          -- no other is at work
          pub others_rest : AllRest start (logs_of start (e ∷ es))
          others_rest m among m_stands =
              by (cases_eq (tc_of start m) (tc_of start member)) (cases_eq (ordered (e ∷ es) m) 0)
            where
              by : (tc_of start m ≡ tc_of start member) ⊎ (tc_of start m ≢ tc_of start member)
                  → (ordered (e ∷ es) m ≡ 0) ⊎ (ordered (e ∷ es) m ≢ 0) → is_at_work (stage_at (e ∷ es) m) ≡ false
              by (inl same) count =
                  let one : m ≡ member =
                  sym (tc_member start moment.cluster.nobody m among)
                  ∙ (ap (member_at (made start)) same ∙ tc_member start moment.cluster.nobody member there) in
                  ap (λ v. is_at_work (stage_at (e ∷ es) v)) one ∙ not_both (stage_at (e ∷ es) member) gathering
              by (inr apart) (inl none) = ap is_at_work (idle (e ∷ es) moment m among (m_stands ∙ here) none)
              by (inr apart) (inr some) =
                  let both = two_low (hosts start) (λ k. taken_along start p (logs_of start (e ∷ es) k)) (tc_of start m)
                  (tc_of start member) (tc_low start moment.cluster.nobody m among)
                  (tc_low start moment.cluster.nobody member there) apart in
                  let own = own_ordered in
                  let once = orders start all (e ∷ es) moment number in
                  absurd (omega (arith, both, own, once, some))

          -- where one was ordered before, it is this one that gathers
          module _ (some : 1 ≤ all_ordered es) where
            -- so the event takes no order
            none_now : IsTakenNow start all e es moment block.Takeover → x.body ≡ Takeover TakeoverOrd → ⊥
            none_now taken is =
                absurd (omega (
                  arith,
                  now,
                  some,
                  all_taken_more start all e es moment p,
                  orders start all (e ∷ es) moment number,
                ))
              where
                now : 1 ≤ taken_now start all e es moment p
                now =
                    subst (λ m. 1 ≤ taken_now start all e es moment (numbered m is_order)) here
                    (order_taken start all e es moment taken is)

            module _ (at : e.host ≡ tc_of start member) where
              abbrev own : TcStep start (tc_of start member) log e
              own = own_tc start moment.cluster.nobody member there log e

              abbrev between : TcPart
              between = own.does.between

              abbrev stood : View
              stood = view_after start (tc_of start member) log

              abbrev view : View
              view = view_after start (tc_of start member) (e ∷ log)

              abbrev Was : Type 0
              Was = (number_in start old (tc_of start member) ≡ number)
                  × (is_gathering (takeover_after start member log).stage ≡ true)

              taken_by : (b : BlockId) → x.to.block ≡ b → IsPassed start.shape (part.Tc between) view x
                  → IsTakenNow start all e es moment b
              taken_by b to passed = tc_taken start all e es moment h at own passed b to

              between_was : view.number ≡ number → PartEnters tc_kind own.own stood x between view own.does.front
                  → is_gathering between.takeover.stage ≡ true → Was
              between_was stood_now (remains same stays none) is =
                  let same_number : view.number ≡ stood.number = ap (λ (v : View). v.number) stays in (
                    sym same_number ∙ stood_now,
                    ap (λ (s : TakeoverState). is_gathering s.stage)
                        (takeover_is start member h log refl own.own own.runs)
                        ∙ (sym (ap (λ (q : TcPart). is_gathering q.takeover.stage) same) ∙ is),
                  )
              between_was stood_now (installs above same stays sent) is =
                  absurd (true≢false (sym is ∙ ap (λ (q : TcPart). is_gathering q.takeover.stage) same))

              row_was : IsPassed start.shape (part.Tc between) view x → (b : BlockId) → x.to.block ≡ b
                  → is_gathering (tc_row between b x).state.takeover.stage ≡ true
                  → is_gathering between.takeover.stage ≡ true
              unfolding tc_row
              row_was passed block.Takeover to is =
                  still_gathers between.takeover x (none_now (taken_by block.Takeover to passed)) is
              row_was passed block.Tc to is = is
              row_was passed block.Dih to is = is
              row_was passed _ to is = is

              takes_was : PartTakes tc_kind start.shape between view x own.does.own own.does.rest
                  → is_gathering own.does.own.takeover.stage ≡ true → is_gathering between.takeover.stage ≡ true
              takes_was (ignores same none) is = sym (ap (λ (q : TcPart). is_gathering q.takeover.stage) same) ∙ is
              takes_was (handles passed same sent) is =
                  row_was passed x.to.block refl (sym (ap (λ (q : TcPart). is_gathering q.takeover.stage) same) ∙ is)

              own_was : view.number ≡ number → is_gathering (takeover_after start member (e ∷ log)).stage ≡ true → Was
              own_was stood_now is =
                  between_was stood_now own.does.enters
                  (takes_was own.does.takes
                  (sym (ap (λ (s : TakeoverState). is_gathering s.stage)
                  (takeover_is start member h (e ∷ log) refl own.does.own own.does.is)) ∙ is))

            pub gathered_before : (number_in start old (tc_of start member) ≡ number)
                × (is_gathering (stage_at es member) ≡ true)
            gathered_before =
                event_cases (machine start) e es h
                (λ log. (view_after start h log).number ≡ number
                → is_gathering (takeover_after start member log).stage ≡ true
                → (number_in start old (tc_of start member) ≡ number) × (is_gathering (stage_at es member) ≡ true))
                own_was (λ off stood was. (stood, was)) stands gathering

      gathering_rest : (es : List HostStep) → IsMoment start all es → current_number start (logs_of start es) ≡ number
          → StandsAt es member → is_gathering (stage_at es member) ≡ true → NoneRuled start es
      gathering_rest [] moment here stands gathering = tt
      gathering_rest (e ∷ es) moment here stands gathering = (
        others_rest e es moment here stands gathering,
        by (cases_lt (current_number start (logs_of start es)) (current_number start (logs_of start (e ∷ es))))
            (gathering_rest es (moment_less start all e es moment)),
      )
        where
          less : IsMoment start all es
          less = moment_less start all e es moment

          by : (current_number start (logs_of start es) < current_number start (logs_of start (e ∷ es)))
              ⊎ (current_number start (logs_of start (e ∷ es)) ≤ current_number start (logs_of start es))
              → (current_number start (logs_of start es) ≡ number → StandsAt es member
              → is_gathering (stage_at es member) ≡ true → NoneRuled start es)
              → (current_number start (logs_of start es) < current_number start (logs_of start (e ∷ es)))
              ⊎ NoneRuled start es
          by (inl above) rest = inl above
          by (inr low) rest = inr (which (cases_eq (all_ordered es) 0))
            where
              same : current_number start (logs_of start es) ≡ number
              same = let rises = current_rises start all e es moment in omega (arith, rises, low, here)

              which : (all_ordered es ≡ 0) ⊎ (all_ordered es ≢ 0) → NoneRuled start es
              which (inl none) = unordered_rest es less same none
              which (inr some) =
                  let was = gathered_before e es moment here stands gathering (omega (arith, some)) in
                  rest same was.0 was.1

-- so it is where some transaction is left in the current view
pub none_ruled : OrdersAreOnce → (start : Start) (all : ℕ → List HostStep) (es : List HostStep) → IsMoment start all es
    → (member : Member) → IsIn member (made start)
    → number_in start (logs_of start es) (tc_of start member) ≡ current_number start (logs_of start es)
    → is_gathering (takeover_at start (logs_of start es) member).stage ≡ true → (tx : TxId)
    → IsOrphan (current start (logs_of start es)) tx → NoneRuled start es
none_ruled orders start all es moment member there stands gathering tx orphan =
    gathering_rest orders start all tx (current_number start (logs_of start es)) left member there es moment refl stands
    gathering
  where
    left : (view : View) → WasInstalled start all view → view.number ≡ current_number start (logs_of start es)
        → is_coordinated view.full tx ≡ false
    left view was same =
        ap (λ (v : View). is_coordinated v.full tx)
        (one_view have_orderly start all moment.cluster view (current start (logs_of start es)) was
        (moment_installed start all es moment) same)
        ∙ orphan
