-- The takeover of a member commits each key of a transaction that is left in a view once at most there, and only when
-- it was ordered; where it is ordered once.
use Rattle.std.proofs.Common.{◌≡◌, ◌≢◌, ◌≤◌, ◌+◌, ◌⊎◌, ◌++◌, ◌∙◌, ℕ, zero, suc, Bool, true, false, List, [], ◌∷◌, inl}
use Rattle.std.proofs.Common.{inr, refl, sym, ap, arith, subst}
use Rattle.std.proofs.lemmas.Bool.{cases_eq, true≢false}
use Rattle.run_theory.specs.Lists.{IsIn, IsPast}
use Rattle.commit_laws.proofs.hosts.PartEach.{between_so}
use Rattle.host_laws.proofs.hosts.Sums.{total_at}
use Rattle.sig_core.specs.declared.member.Member.{Member}
use Rattle.sig_core.specs.declared.member.TxId.{TxId}
use Rattle.sig_core.specs.declared.outs.Outgoing.{Outgoing}
use Rattle.sig_core.specs.declared.place.BlockId.{BlockId}
use Rattle.sig_core.specs.declared.place.BlockId.TheVariants as block
use Rattle.sig_core.specs.declared.signal.Body.{Body}
use Rattle.sig_core.specs.declared.signal.Body.TheVariants.{Takeover}
use Rattle.sig_core.specs.declared.signal.takeover.TakeoverSignal.TheVariants.{TakeoverOrd}
use Rattle.sig_core.specs.declared.signal.Signal.{Signal}
use Rattle.sig_core.specs.declared.view.View.{View}
use Rattle.frag_map.specs.Layout.{first_layout}
use Rattle.lqh_block.specs.Views.{is_coordinated}
use Rattle.takeover_block.specs.declared.stage.Stage.TheVariants.{Resting}
use Rattle.takeover_block.specs.State.{TakeoverState, resting}
use Rattle.takeover_block.specs.Takeover.{takeover_row}
use Rattle.dih_node.specs.Dih.{dih_row}
use Rattle.node_views.specs.Fence.{is_body_fenced}
use Rattle.node_views.specs.declared.host_body.HostBody as hosts_of
use Rattle.node_views.specs.declared.parts.Parts.TheVariants as part
use Rattle.node_views.specs.declared.tc_part.TcPart.{TcPart}
use Rattle.node_views.specs.Parts.{tc_row}
use Rattle.world_core.specs.Hosts.{hosts}
use Rattle.world_core.specs.Start.{NobodyStarts, Start, made}
use Rattle.world_core.specs.Steps.{HostStep}
use Rattle.world_views.specs.Machine.{step_after}
use Rattle.world_views.specs.Sending.{is_own_work}
use Rattle.view_laws.specs.Runs.{view_after}
use Rattle.moment_laws.proofs.MomentViews.{current_number}
use Rattle.moment_laws.specs.Moments.{IsMoment, logs_of}
use Rattle.moment_laws.specs.Parts.{IsPassed}
use Rattle.moment_laws.specs.PartSteps.{PartTakes, handles, ignores, tc_kind}
use Rattle.moment_laws.specs.Places.{tc_of}
use Rattle.moment_laws.proofs.MomentHosts.{tc_started}
use Rattle.moment_laws.proofs.MomentTurns.{host_low, own_log}
use Rattle.moment_laws.proofs.PartKinds.{tc_is}
use Rattle.moment_laws.proofs.PartTaken.{IsTakenNow, handled_now}
use Rattle.outcome_laws.specs.Counts.{coordinator_member}
use Rattle.outcome_laws.proofs.coordinators.Lists.{count_both}
use Rattle.request_laws.specs.Blocks.{takeover_after, takeover_in}
use Rattle.request_laws.specs.Tokens.{all_taken, sent_along, taken_along}
use Rattle.request_laws.proofs.routes.BesideRows.{epochs_aside}
use Rattle.request_laws.proofs.routes.Headers.{event_past}
use Rattle.request_laws.proofs.orphans.ReportsOfOrphans.{coordinated}
use Rattle.request_laws.proofs.routes.PartSteps.{TcStep, takeover_is}
use Rattle.request_laws.proofs.routes.PartsOfTheFirst.{member_full}
use Rattle.request_laws.proofs.tokens.CoordinatorEvents.{front_away}
use Rattle.request_laws.proofs.tokens.RowHosts.{sent_few, test_taken}
use Rattle.request_laws.proofs.tokens.FirstInView.{sent_low_none, taken_now}
use Rattle.commit_laws.proofs.drive.Foreign.{between_of, entering, own_of, step}
use Rattle.commit_laws.proofs.drive.Gathered.{AreFit, first_alone, fit_stays, none_fit}
use Rattle.commit_laws.proofs.drive.Idle.{idle_stays}
use Rattle.commit_laws.proofs.drive.Kinds.{Drive, goes, numbered}
use Rattle.commit_laws.proofs.drive.Lists.{mine, only}
use Rattle.commit_laws.proofs.drive.Parts.{AreOff, aside_off, away_off, other_off}
use Rattle.commit_laws.proofs.drive.Rulings.{Rules, awaits, counted, rules_once}
use Rattle.commit_laws.proofs.drive.Takeover.{Adds, less_rules, takeover_drives}
use Rattle.sig_core.specs.Step.{Step, stay}
use Rattle.tc_block.specs.Complete.{one_if}

-- the signal orders a takeover
abbrev pub is_order : Body → Bool
is_order (Takeover TakeoverOrd) = true
is_order body = false

pub plain : (body : Body) → is_order body ≡ true
    → (is_own_work body ≡ false) × ((y : Signal) → is_body_fenced y body ≡ true)
plain (Takeover TakeoverOrd) own = (refl, λ y. refl)
plain body own = absurd (true≢false (sym own))

-- one that a takeover takes is counted
pub order_taken : (start : Start) (all : ℕ → List HostStep) (e : HostStep) (es : List HostStep)
    (moment : IsMoment start all (e ∷ es))
    → IsTakenNow start all e es moment block.Takeover → e.step.taken.body ≡ Takeover TakeoverOrd
    → 1 ≤ taken_now start all e es moment (numbered (current_number start (logs_of start (e ∷ es))) is_order)
order_taken start all e es moment taken is =
    let own : one_if (is_order e.step.taken.body) ≡ 1 = ap (λ b. one_if (is_order b)) is in
    omega (arith, test_taken start all e es moment is_order plain block.Takeover taken, own)

-- in each view one is taken at most
abbrev pub OrdersAreOnce : Type 0
OrdersAreOnce =
    (start : Start) (all : ℕ → List HostStep) (es : List HostStep) → IsMoment start all es → (number : ℕ)
    → all_taken start (numbered number is_order) (logs_of start es) ≤ 1

-- so no host takes more
pub order_few : OrdersAreOnce → (start : Start) (all : ℕ → List HostStep) (e : HostStep) (es : List HostStep)
    → IsMoment start all (e ∷ es) → (number : ℕ)
    → taken_along start (numbered number is_order) (e ∷ logs_of start es e.host) ≤ 1
order_few orders start all e es moment number =
    omega (
      arith,
      orders start all (e ∷ es) moment number,
      total_at (hosts start) (λ h. taken_along start (numbered number is_order) (logs_of start (e ∷ es) h)) e.host
          (host_low start all e es moment),
      ap (taken_along start (numbered number is_order)) (own_log start all e es moment),
    )

module _ (start : Start) (me : Member) (tx : TxId) (key : List ℕ) (number k : ℕ) where
  abbrev pub sent_of : List HostStep → Drive → ℕ
  sent_of log drive = sent_along start (numbered number (goes drive (mine tx (only key)))) k log

  abbrev pub orders_of : List HostStep → ℕ
  orders_of log = taken_along start (numbered number is_order) log

  -- how it stands with the takeover, in the view
  pub record StandsRuled (log : List HostStep) (s : TakeoverState) : Type 0 where
    pub fit : AreFit s.gathered
    pub rules : Rules tx key s (sent_of log)
    pub idle : orders_of log ≡ 0 → s.stage ≡ Resting

  pub record IsRuled (log : List HostStep) : Type 0 where
    pub few : (drive : Drive) → sent_of log drive ≤ orders_of log
    pub now : (view_after start k log).number ≡ number → StandsRuled log (takeover_after start me log)

-- as a life begins
pub ruled_first : (start : Start) (nobody : NobodyStarts start) (me : Member) → IsIn me (made start)
    → (tx : TxId) (key : List ℕ) (number k : ℕ)
    → IsRuled start me tx key number k []
ruled_first start nobody me there tx key number k = record {
  few = λ drive. omega arith;
  now = λ same.
      subst (StandsRuled start me tx key number k [])
      (sym
      (ap (λ (s : hosts_of.HostBody). takeover_in (resting me.node (first_layout start.shape)) s.parts)
      (tc_started start nobody me there)))
      (record { fit = none_fit; rules = awaits refl (λ drive. refl); idle = λ none. refl });
}

module _ (orders : OrdersAreOnce) (start : Start) (all : ℕ → List HostStep) (e : HostStep) (es : List HostStep)
    (moment : IsMoment start all (e ∷ es)) (me : Member) (there : IsIn me (made start)) (at : e.host ≡ tc_of start me)
    (tx : TxId) (key : List ℕ)
  where
    abbrev log : List HostStep
    log = logs_of start es e.host

    abbrev x : Signal
    x = e.step.taken

    abbrev view : View
    view = view_after start e.host (e ∷ log)

    abbrev number : ℕ
    number = view.number

    abbrev sends : List Outgoing
    sends = (step_after start e.host log e).effects.sends

    abbrev tc : TcStep start e.host log e
    tc = step start all e es moment me there at

    abbrev between : TcPart
    between = tc.does.between

    abbrev sent : Drive → ℕ
    sent = sent_of start me tx key number e.host log

    abbrev sent_behind : Drive → ℕ
    sent_behind = sent_of start me tx key number e.host (e ∷ log)

    abbrev ordered : ℕ
    ordered = orders_of start me tx key number e.host log

    abbrev ordered_behind : ℕ
    ordered_behind = orders_of start me tx key number e.host (e ∷ log)

    -- it sends what the rest is
    adds : Adds tx key sent sent_behind tc.does.rest
    adds drive =
        let few = sent_few start (goes drive (mine tx (only key))) number e.host log e in
        let less = by tc.does.sent in
        omega (arith, few, less)
      where
        front_off : AreOff tx tc.does.front
        front_off =
            away_off tx tc.does.front
            (front_away tx me tc.own (own_of start all e es moment me there at) (view_after start e.host log) x between
            view
            tc.does.front (entering start all e es moment me there at))

        by : (sends ≡ tc.does.front ++ tc.does.rest) ⊎ (sends ≡ [])
            → counted tx key drive sends ≤ counted tx key drive tc.does.rest
        by (inl is) =
            omega (
              arith,
              ap (counted tx key drive) is,
              count_both (λ (o : Outgoing). goes drive (mine tx (only key)) o.body) tc.does.front tc.does.rest,
              front_off.keys drive (only key),
            )
        by (inr is) =
            let none : counted tx key drive sends ≡ 0 = ap (counted tx key drive) is in omega (arith, none)

    -- an order that comes is the first
    first_order : IsPassed start.shape (part.Tc between) view x → x.to.block ≡ block.Takeover
        → x.body ≡ Takeover TakeoverOrd → (ordered + 1 ≤ ordered_behind) × (ordered ≡ 0)
    first_order passed to is = (more, omega (arith, more, order_few orders start all e es moment number))
      where
        taken : IsTakenNow start all e es moment block.Takeover
        taken =
            handled_now start all e es moment tc_kind tc_is tc.own tc.runs between tc.does.front
            (entering start all e es moment me there at) passed block.Takeover to

        one : 1 ≤ taken_now start all e es moment (numbered number is_order)
        one =
            subst (λ m. 1 ≤ taken_now start all e es moment (numbered m is_order))
            (sym (ap (λ (v : View). v.number) taken.stands))
            (order_taken start all e es moment taken is)

        more : ordered + 1 ≤ ordered_behind
        more = omega (arith, one)

    -- what stands once the view is installed
    module _ (before : StandsRuled start me tx key number e.host log between.takeover)
        (few : (drive : Drive) → sent drive ≤ ordered)
      where
        abbrev Behind : TakeoverState → Type 0
        Behind s = StandsRuled start me tx key number e.host (e ∷ log) s

        -- what comes of it, and of what is sent where it wasn't ordered
        pub record Comes (s : TakeoverState) : Type 0 where
          pub stands : Behind s
          pub silent : ordered_behind ≡ 0 → (drive : Drive) → counted tx key drive tc.does.rest ≡ 0

        quiet : ((drive : Drive) → counted tx key drive tc.does.rest ≡ 0) → Comes between.takeover
        quiet none = record {
          stands = record {
            fit = before.fit;
            rules =
                less_rules tx key between.takeover sent sent_behind before.fit.keys
                (λ g rest is own. first_alone tx key between.takeover.gathered before.fit g rest is own) before.rules
                (λ drive. let own = adds drive in let nothing = none drive in omega (arith, own, nothing));
            idle = λ unordered. before.idle (omega (arith, unordered));
          };
          silent = λ unordered. none;
        }

        -- it takes the signal
        takes_it : IsPassed start.shape (part.Tc between) view x → x.to.block ≡ block.Takeover
            → tc.does.rest ≡ (takeover_row between.takeover x).effects.sends
            → Comes (takeover_row between.takeover x).state
        takes_it passed to is = record {
          stands = record {
            fit = fit_stays between.takeover x before.fit;
            rules =
                takeover_drives tx key between.takeover sent sent_behind before.fit.keys
                (λ g rest same own. first_alone tx key between.takeover.gathered before.fit g rest same own)
                before.rules x
                (λ order drive.
                let first = first_order passed to order in
                let none = first.1 in
                let under = few drive in
                omega (arith, none, under))
                (subst (Adds tx key sent sent_behind) is adds);
            idle = λ unordered.
                ap (λ (step : Step TakeoverState). step.state.stage) (still unordered)
                ∙ before.idle (omega (arith, unordered));
          };
          silent = λ unordered drive.
              ap (counted tx key drive) (is ∙ ap (λ (step : Step TakeoverState). step.effects.sends) (still unordered));
        }
          where
            still : ordered_behind ≡ 0 → takeover_row between.takeover x ≡ stay between.takeover
            still unordered =
                idle_stays between.takeover x (before.idle (omega (arith, unordered)))
                (λ order. absurd (let first = first_order passed to order in let more = first.0 in omega
                (arith, more, unordered)))

    -- the coordinator of the transaction isn't a full member
    module _ (orphan : is_coordinated view.full tx ≡ false) (was : IsRuled start me tx key number e.host log) where
      full : IsIn me view.full
      full =
          subst (λ h. IsIn me (view_after start h (e ∷ logs_of start es h)).full) (sym at)
          (member_full start all moment.cluster me there (e ∷ logs_of start es (tc_of start me))
          (subst (λ h. IsPast (e ∷ logs_of start es h) (all h)) at (event_past start all e es moment)))

      other : coordinator_member tx ≡ me → ⊥
      other own =
          true≢false
          (sym (coordinated view.full tx (subst (λ (m : Member). IsIn m view.full) (sym own) full)) ∙ orphan)

      before_between : StandsRuled start me tx key number e.host log between.takeover
      before_between =
          between_so tc_kind (λ (q : TcPart). StandsRuled start me tx key number e.host log q.takeover) tc.own
          (view_after start e.host log) x between view tc.does.front (entering start all e es moment me there at)
          (λ still.
          subst (StandsRuled start me tx key number e.host log) (takeover_is start me e.host log at tc.own tc.runs)
          (was.now (sym (ap (λ (v : View). v.number) still))))
          (λ above seen. record {
            fit = none_fit;
            rules =
                awaits refl
                (λ drive.
                sent_low_none start moment.cluster.nobody (goes drive (mine tx (only key))) number e.host log
                (let same_number = ap (λ (v : View). v.number) seen in omega (arith, same_number, above)));
            idle = λ none. refl;
          })

      row : IsPassed start.shape (part.Tc between) view x → (b : BlockId) → x.to.block ≡ b
          → tc.does.own ≡ (tc_row between b x).state → tc.does.rest ≡ (tc_row between b x).effects.sends
          → Comes before_between was.few tc.does.own.takeover
      unfolding tc_row
      row passed block.Takeover to is sends_are =
          subst (λ (q : TcPart). Comes before_between was.few q.takeover) (sym is)
          (takes_it before_between was.few passed to sends_are)
      row passed block.Tc to is sends_are =
          subst (λ (q : TcPart). Comes before_between was.few q.takeover) (sym is)
          (quiet before_between was.few
          (λ drive.
          ap (counted tx key drive) sends_are
          ∙ (other_off tx me between.coordinator (between_of start all e es moment me there at) other x).keys drive
          (only key)))
      row passed block.Dih to is sends_are =
          subst (λ (q : TcPart). Comes before_between was.few q.takeover) (sym is)
          (quiet before_between was.few
          (λ drive.
          ap (counted tx key drive) sends_are
          ∙ (aside_off tx (dih_row between.dih x).effects.sends (epochs_aside between.dih x)).keys drive (only key)))
      row passed b to is sends_are =
          subst (λ (q : TcPart). Comes before_between was.few q.takeover) (sym is)
          (quiet before_between was.few (λ drive. ap (counted tx key drive) sends_are))

      comes : Comes before_between was.few tc.does.own.takeover
      comes = by tc.does.takes
        where
          by : PartTakes tc_kind start.shape between view x tc.does.own tc.does.rest
              → Comes before_between was.few tc.does.own.takeover
          by (ignores is nothing) =
              subst (λ (q : TcPart). Comes before_between was.few q.takeover) (sym is)
              (quiet before_between was.few (λ drive. ap (counted tx key drive) nothing))
          by (handles passed is sends_are) = row passed x.to.block refl is sends_are

      pub ruled_next : IsRuled start me tx key number e.host (e ∷ log)
      ruled_next = record {
        few = λ drive. by drive (cases_eq ordered_behind 0);
        now = λ same.
            subst (StandsRuled start me tx key number e.host (e ∷ log))
            (sym (takeover_is start me e.host (e ∷ log) at tc.does.own tc.does.is)) comes.stands;
      }
        where
          by : (drive : Drive) → (ordered_behind ≡ 0) ⊎ (ordered_behind ≢ 0) → sent_behind drive ≤ ordered_behind
          by drive (inl none) =
              let own = adds drive in
              let silent = comes.silent none drive in
              let few = was.few drive in
              omega (arith, own, silent, few)
          by drive (inr some) =
              let once =
              rules_once tx key tc.does.own.takeover sent_behind comes.stands.fit.keys comes.stands.rules drive in
              omega (arith, once, some_is ordered_behind some)
            where
              some_is : (n : ℕ) → n ≢ 0 → 1 ≤ n
              some_is zero off = absurd (off refl)
              some_is (suc n) off = omega arith
