-- In a view the takeover of a member asks the rows of each node once for each order at most, and while it gathers it
-- awaits an end of each member but for those that it took: an event of its host keeps this.
use Rattle.std.proofs.Common.{◌≡◌, ◌≢◌, ◌≤◌, ◌+◌, ◌⊎◌, ◌++◌, ◌∙◌, ℕ, Bool, true, false, List, [], ◌∷◌, inl, inr, refl}
use Rattle.std.proofs.Common.{sym, ap, arith, subst}
use Rattle.std.proofs.lemmas.Bool.{cases_eq, true≢false}
use Rattle.run_theory.specs.Lists.{IsIn}
use Rattle.commit_laws.proofs.hosts.PartEach.{between_so}
use Rattle.sig_core.specs.declared.member.Member.{Member}
use Rattle.sig_core.specs.declared.outs.Outgoing.{Outgoing}
use Rattle.sig_core.specs.declared.place.BlockId.{BlockId}
use Rattle.sig_core.specs.declared.place.BlockId.TheVariants as block
use Rattle.sig_core.specs.declared.signal.Body.{Body}
use Rattle.sig_core.specs.declared.signal.Body.TheVariants.{Takeover}
use Rattle.sig_core.specs.declared.signal.Signal.{Signal}
use Rattle.sig_core.specs.declared.signal.takeover.TakeoverSignal.TheVariants.{LqhTransEnd, TakeoverOrd}
use Rattle.sig_core.specs.declared.view.View.{View}
use Rattle.sig_core.specs.Step.{Step}
use Rattle.frag_map.specs.Layout.{Layout, first_layout}
use Rattle.tc_block.specs.Complete.{one_if}
use Rattle.lqh_views.specs.WholeReports.{ends}
use Rattle.takeover_block.specs.declared.stage.Stage.{Stage}
use Rattle.takeover_block.specs.declared.stage.Stage.TheVariants.{Aborting, Committing, Completing, Gathering, Resting}
use Rattle.takeover_block.specs.Sends.{asks_of}
use Rattle.takeover_block.specs.State.{TakeoverState, resting}
use Rattle.takeover_block.specs.Takeover.{takeover_row}
use Rattle.takeover_block.proofs.EachTakeover.{is_gathering}
use Rattle.dih_node.specs.Dih.{dih_row}
use Rattle.tc_views.specs.Coordinator.{coordinator_row}
use Rattle.node_views.specs.declared.host_body.HostBody as hosts_of
use Rattle.node_views.specs.declared.parts.Parts.TheVariants as part
use Rattle.node_views.specs.declared.tc_part.TcPart.{TcPart}
use Rattle.node_views.specs.Fence.{is_body_fenced}
use Rattle.node_views.specs.Parts.{tc_row}
use Rattle.world_core.specs.Start.{NobodyStarts, Start, made}
use Rattle.world_core.specs.Steps.{HostStep}
use Rattle.world_views.specs.Machine.{step_after}
use Rattle.world_views.specs.Sending.{is_own_work}
use Rattle.view_laws.specs.Runs.{view_after}
use Rattle.moment_laws.specs.Moments.{IsMoment, logs_of}
use Rattle.moment_laws.specs.Parts.{IsPassed}
use Rattle.moment_laws.specs.PartSteps.{PartEnters, PartTakes, handles, ignores, installs, remains, tc_kind}
use Rattle.moment_laws.specs.Places.{tc_of}
use Rattle.moment_laws.proofs.MomentHosts.{tc_started}
use Rattle.moment_laws.proofs.MomentMembers.{full_apart}
use Rattle.moment_laws.proofs.PartKinds.{tc_is}
use Rattle.moment_laws.proofs.PartTaken.{IsTakenNow, handled_now}
use Rattle.outcome_laws.proofs.coordinators.Lists.{count_both}
use Rattle.request_laws.specs.Blocks.{takeover_after, takeover_in}
use Rattle.request_laws.specs.Tokens.{sent_along, taken_along}
use Rattle.request_laws.proofs.routes.BesideRows.{epochs_aside}
use Rattle.request_laws.proofs.routes.Headers.{own_installed}
use Rattle.request_laws.proofs.routes.Layouts.{takeover_laid}
use Rattle.request_laws.proofs.routes.PartSteps.{TcStep, takeover_is, tc_step}
use Rattle.request_laws.proofs.routes.PartsOfTheFirst.{nobody_later}
use Rattle.request_laws.proofs.tokens.RowHosts.{test_taken}
use Rattle.request_laws.proofs.tokens.FirstInView.{taken_now}
use Rattle.commit_laws.proofs.gathering.AskedLists.{asks_once, counted, none_counted, some_few}
use Rattle.commit_laws.proofs.gathering.AskedTakeover.{Stands, off_stands, takes_quiet, takes_stand}
use Rattle.commit_laws.proofs.drive.Idle.{idle_stays}
use Rattle.commit_laws.proofs.drive.Kinds.{numbered}
use Rattle.commit_laws.proofs.drive.Ruled.{OrdersAreOnce, is_order, order_few, plain}
use Rattle.commit_laws.proofs.gathering.Words.{aside_none, asked_in, asks_at, coordinator_none, none_asks}
use Rattle.commit_laws.proofs.gathering.Words.{tc_enters_none}
use Rattle.commit_laws.proofs.orders.Sent.{sent_few}

module _ (start : Start) (me : Member) (node number k : ℕ) where
  -- asks of the rows of the node that were sent, and orders and ends that were taken, in the view
  abbrev pub sent_of : List HostStep → ℕ
  sent_of log = sent_along start (asked_in node number) k log

  abbrev pub orders_of : List HostStep → ℕ
  orders_of log = taken_along start (numbered number is_order) log

  abbrev pub ended_of : List HostStep → ℕ
  ended_of log = taken_along start (numbered number ends) log

  -- how it stands with the takeover, in the view
  pub record StandsAsked (log : List HostStep) (s : TakeoverState) : Type 0 where
    pub stands : Stands node s (sent_of log) (ended_of log)
    pub idle : orders_of log ≡ 0 → s.stage ≡ Resting

  pub record IsAsked (log : List HostStep) : Type 0 where
    pub few : sent_of log ≤ orders_of log
    pub now : (view_after start k log).number ≡ number → StandsAsked log (takeover_after start me log)

-- as a life begins
pub asked_first : (start : Start) (nobody : NobodyStarts start) (me : Member) → IsIn me (made start)
    → (node number k : ℕ)
    → IsAsked start me node number k []
asked_first start nobody me there node number k = record {
  few = omega arith;
  now = λ same.
      subst (StandsAsked start me node number k [])
      (sym
      (ap (λ (s : hosts_of.HostBody). takeover_in (resting me.node (first_layout start.shape)) s.parts)
      (tc_started start nobody me there)))
      (record { stands = off_stands node _ 0 0 refl; idle = λ none. refl });
}

pub plain_end : (body : Body) → ends body ≡ true
    → (is_own_work body ≡ false) × ((y : Signal) → is_body_fenced y body ≡ true)
plain_end (Takeover LqhTransEnd) own = (refl, λ y. refl)
plain_end body own = absurd (true≢false (sym own))

module _ (orders : OrdersAreOnce) (start : Start) (all : ℕ → List HostStep) (e : HostStep) (es : List HostStep)
    (moment : IsMoment start all (e ∷ es)) (me : Member) (there : IsIn me (made start)) (at : e.host ≡ tc_of start me)
    (node : ℕ)
  where
    abbrev log : List HostStep
    log = logs_of start es e.host

    abbrev x : Signal
    x = e.step.taken

    abbrev view : View
    view = view_after start e.host (e ∷ log)

    abbrev number : ℕ
    number = view.number

    abbrev sends : List Outgoing
    sends = (step_after start e.host log e).effects.sends

    tc : TcStep start e.host log e
    tc = tc_step start moment.cluster.nobody me there e.host at log e

    abbrev between : TcPart
    between = tc.does.between

    abbrev sent : ℕ
    sent = sent_of start me node number e.host log

    abbrev sent_behind : ℕ
    sent_behind = sent_of start me node number e.host (e ∷ log)

    abbrev ordered : ℕ
    ordered = orders_of start me node number e.host log

    abbrev ordered_behind : ℕ
    ordered_behind = orders_of start me node number e.host (e ∷ log)

    abbrev ended : ℕ
    ended = ended_of start me node number e.host log

    abbrev ended_behind : ℕ
    ended_behind = ended_of start me node number e.host (e ∷ log)

    -- it sends what the rest is
    adds : sent_behind ≤ sent + counted node tc.does.rest
    adds =
        let few = sent_few (asks_at node) start number e.host log e in
        let less = by tc.does.sent in
        omega (arith, few, less)
      where
        front_none : PartEnters tc_kind tc.own (view_after start e.host log) x between view tc.does.front
            → counted node tc.does.front ≡ 0
        front_none (remains same stands none) = ap (counted node) none
        front_none (installs above same stands is) =
            ap (counted node) is ∙ none_counted node _ (none_asks _ (tc_enters_none tc.own x.view))

        by : (sends ≡ tc.does.front ++ tc.does.rest) ⊎ (sends ≡ []) → counted node sends ≤ counted node tc.does.rest
        by (inl is) =
            omega (
              arith,
              ap (counted node) is,
              count_both (λ (o : Outgoing). asks_at node o.to o.body) tc.does.front tc.does.rest,
              front_none tc.does.enters,
            )
        by (inr is) = let none : counted node sends ≡ 0 = ap (counted node) is in omega (arith, none)

    -- what the takeover takes is counted
    takes_one : (q : Body → Bool)
        → ((body : Body) → q body ≡ true
        → (is_own_work body ≡ false) × ((y : Signal) → is_body_fenced y body ≡ true))
        → IsPassed start.shape (part.Tc between) view x → x.to.block ≡ block.Takeover → q x.body ≡ true
        → taken_along start (numbered number q) log + 1 ≤ taken_along start (numbered number q) (e ∷ log)
    takes_one q plain passed to own = omega (arith, one)
      where
        taken : IsTakenNow start all e es moment block.Takeover
        taken =
            handled_now start all e es moment tc_kind tc_is tc.own tc.runs between tc.does.front tc.does.enters passed
            block.Takeover to

        one : 1 ≤ taken_now start all e es moment (numbered number q)
        one =
            subst (λ m. 1 ≤ taken_now start all e es moment (numbered m q))
            (sym (ap (λ (v : View). v.number) taken.stands))
            (let came = test_taken start all e es moment q plain block.Takeover taken in
            let is = ap one_if own in omega (arith, came, is))

    -- an order that comes is the first
    first_order : IsPassed start.shape (part.Tc between) view x → x.to.block ≡ block.Takeover
        → x.body ≡ Takeover TakeoverOrd → (ordered + 1 ≤ ordered_behind) × (ordered ≡ 0)
    first_order passed to is = (more, omega (arith, more, order_few orders start all e es moment number))
      where
        more : ordered + 1 ≤ ordered_behind
        more = takes_one is_order plain passed to (ap is_order is)

    -- what stands once the view is installed
    module _ (before : StandsAsked start me node number e.host log between.takeover) (few : sent ≤ ordered) where
      abbrev Behind : TakeoverState → Type 0
      Behind s = StandsAsked start me node number e.host (e ∷ log) s

      -- what comes of it: it asks only where it gathers behind
      record Comes (s : TakeoverState) : Type 0 where
        stands : Behind s
        quiet : is_gathering s.stage ≡ false → counted node tc.does.rest ≡ 0

      still : counted node tc.does.rest ≡ 0 → Comes between.takeover
      still none = record {
        stands = record {
          stands = λ n gathers.
              let own = before.stands n gathers in
              let asked = own.asked in
              let few = asked.few in
              let waits = own.waits in
              let more = adds in
              record {
                asked = record { place = asked.place; left_is = asked.left_is; few = omega (arith, few, more, none) };
                waits = omega (arith, waits);
              };
          idle = λ unordered. before.idle (omega (arith, unordered));
        };
        quiet = λ off. none;
      }

      -- it takes the signal
      takes_it : IsPassed start.shape (part.Tc between) view x → x.to.block ≡ block.Takeover
          → tc.does.rest ≡ (takeover_row between.takeover x).effects.sends
          → Comes (takeover_row between.takeover x).state
      takes_it passed to is = record {
        stands = record {
          stands =
              takes_stand node between.takeover x sent sent_behind ended ended_behind before.stands (omega arith)
              ends_more unsent (subst (λ (os : List Outgoing). sent_behind ≤ sent + counted node os) is adds);
          idle = λ unordered.
              ap (λ (step : Step TakeoverState). step.state.stage)
              (idle_stays between.takeover x (before.idle (omega (arith, unordered)))
              (λ order. let first = first_order passed to order in
              let more = first.0 in absurd (omega (arith, more, unordered))))
              ∙ before.idle (omega (arith, unordered));
        };
        quiet = λ off.
            ap (counted node) is
            ∙ takes_quiet node between.takeover x sent sent_behind ended ended_behind before.stands (omega arith)
            ends_more unsent off;
      }
        where
          ends_more : x.body ≡ Takeover LqhTransEnd → ended + 1 ≤ ended_behind
          ends_more body = takes_one ends plain_end passed to (ap ends body)

          unsent : x.body ≡ Takeover TakeoverOrd → sent ≡ 0
          unsent order = let first = first_order passed to order in let none = first.1 in omega (arith, none, few)

    module _ (was : IsAsked start me node number e.host log) where
      before_between : StandsAsked start me node number e.host log between.takeover
      before_between =
          between_so tc_kind (λ (q : TcPart). StandsAsked start me node number e.host log q.takeover) tc.own
          (view_after start e.host log) x between view tc.does.front tc.does.enters
          (λ still.
          subst (StandsAsked start me node number e.host log) (takeover_is start me e.host log at tc.own tc.runs)
          (was.now (sym (ap (λ (v : View). v.number) still))))
          (λ above seen. record { stands = off_stands node _ _ _ refl; idle = λ none. refl })

      row : IsPassed start.shape (part.Tc between) view x → (b : BlockId) → x.to.block ≡ b
          → tc.does.own ≡ (tc_row between b x).state → tc.does.rest ≡ (tc_row between b x).effects.sends
          → Comes before_between was.few tc.does.own.takeover
      unfolding tc_row
      row passed block.Takeover to is sends_are =
          subst (λ (q : TcPart). Comes before_between was.few q.takeover) (sym is)
          (takes_it before_between was.few passed to sends_are)
      row passed block.Tc to is sends_are =
          subst (λ (q : TcPart). Comes before_between was.few q.takeover) (sym is)
          (still before_between was.few
          (ap (counted node) sends_are
          ∙ none_counted node (coordinator_row between.coordinator x).effects.sends
          (none_asks _ (coordinator_none between.coordinator x))))
      row passed block.Dih to is sends_are =
          subst (λ (q : TcPart). Comes before_between was.few q.takeover) (sym is)
          (still before_between was.few
          (ap (counted node) sends_are
          ∙ none_counted node (dih_row between.dih x).effects.sends
          (none_asks _ (aside_none _ (epochs_aside between.dih x)))))
      row passed b to is sends_are =
          subst (λ (q : TcPart). Comes before_between was.few q.takeover) (sym is)
          (still before_between was.few (ap (counted node) sends_are))

      comes : Comes before_between was.few tc.does.own.takeover
      comes = by tc.does.takes
        where
          by : PartTakes tc_kind start.shape between view x tc.does.own tc.does.rest
              → Comes before_between was.few tc.does.own.takeover
          by (ignores is nothing) =
              subst (λ (q : TcPart). Comes before_between was.few q.takeover) (sym is)
              (still before_between was.few (ap (counted node) nothing))
          by (handles passed is sends_are) = row passed x.to.block refl is sends_are

      -- its list is that of the view, in which no two members are of one node
      list_once : counted node (asks_of tc.does.own.takeover.layout.view) ≤ 1
      list_once =
          subst (λ (v : View). counted node (asks_of v) ≤ 1) (sym laid)
          (asks_once node view (full_apart start all moment.cluster view (own_installed start all e es moment))
          (nobody_later start all moment.cluster view (own_installed start all e es moment)).starting)
        where
          laid : tc.does.own.takeover.layout.view ≡ view
          laid =
              ap (λ (s : TakeoverState). s.layout.view)
              (sym (takeover_is start me e.host (e ∷ log) at tc.does.own tc.does.is))
              ∙ (ap (λ (l : Layout). l.view) (takeover_laid start moment.cluster.nobody me there (e ∷ log))
              ∙ ap (λ h. view_after start h (e ∷ log)) (sym at))

      off_few : is_gathering tc.does.own.takeover.stage ≡ false → sent_behind ≤ ordered_behind
      off_few off =
          let few = was.few in
          let none = comes.quiet off in
          let more = adds in
          omega (arith, few, none, more)

      gathering_few : (stage : Stage) → tc.does.own.takeover.stage ≡ stage → sent_behind ≤ ordered_behind
      gathering_few (Gathering n) is = by (cases_eq ordered_behind 0)
        where
          by : (ordered_behind ≡ 0) ⊎ (ordered_behind ≢ 0) → sent_behind ≤ ordered_behind
          by (inl none) =
              absurd (true≢false (sym (ap is_gathering is) ∙ ap is_gathering (comes.stands.idle none)))
          by (inr some) =
              let asked = (comes.stands.stands n is).asked in
              let few = asked.few in
              let less = some_few node asked.place tc.does.own.takeover.layout.view in
              omega (arith, few, less, list_once, some)
      gathering_few Resting is = off_few (ap is_gathering is)
      gathering_few (Committing epoch n) is = off_few (ap is_gathering is)
      gathering_few (Completing epoch n) is = off_few (ap is_gathering is)
      gathering_few (Aborting n) is = off_few (ap is_gathering is)

      pub asked_next : IsAsked start me node number e.host (e ∷ log)
      asked_next = record {
        few = gathering_few tc.does.own.takeover.stage refl;
        now = λ same.
            subst (StandsAsked start me node number e.host (e ∷ log))
            (sym (takeover_is start me e.host (e ∷ log) at tc.does.own tc.does.is)) comes.stands;
      }
