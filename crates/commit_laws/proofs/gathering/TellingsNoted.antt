-- What a takeover was told in the current view is noted while it gathers.
use Rattle.std.proofs.Common.{◌≡◌, ◌≤◌, ◌&&◌, ◌||◌, ◌==◌, ◌∙◌, ℕ, Bool, true, false, List, [], ◌∷◌, inl, inr, refl}
use Rattle.std.proofs.Common.{sym, ap, subst, arith}
use Rattle.std.proofs.lemmas.Bool.{true≢false}
use Rattle.std.specs.Prelude.{if◌then◌else◌, not, None}
use Rattle.run_theory.specs.Links.{is_from, taken}
use Rattle.run_theory.specs.Lists.{IsIn}
use Rattle.run_theory.specs.Logs.{IsRunning}
use Rattle.run_theory.specs.Machine.{Machine}
use Rattle.run_theory.specs.Runs.{Happens}
use Rattle.run_theory.proofs.EventCases.{event_cases}
use Rattle.commit_laws.proofs.hosts.OwnTaken.{tc_taken}
use Rattle.sig_core.specs.declared.member.Member.{Member}
use Rattle.sig_core.specs.declared.member.TxId.{TxId}
use Rattle.sig_core.specs.declared.place.BlockId.{BlockId}
use Rattle.sig_core.specs.declared.place.BlockId.TheVariants as block
use Rattle.sig_core.specs.declared.place.Part.TheVariants as kinds
use Rattle.sig_core.specs.declared.signal.Body.TheVariants.{Takeover}
use Rattle.sig_core.specs.declared.signal.Signal.{Signal}
use Rattle.sig_core.specs.declared.signal.takeover.TakeoverSignal.TheVariants.{LqhTransConf, TakeoverOrd}
use Rattle.sig_core.specs.declared.view.View.{View}
use Rattle.sig_core.specs.Step.{Step}
use Rattle.takeover_block.specs.Gathered.{told_epoch}
use Rattle.takeover_block.specs.State.{TakeoverState}
use Rattle.node_views.specs.declared.host_body.HostBody as hosts
use Rattle.node_views.specs.declared.parts.Parts.TheVariants as part
use Rattle.node_views.specs.declared.tc_part.TcPart.{TcPart}
use Rattle.node_views.specs.Parts.{tc_row}
use Rattle.node_views.specs.WellFormed.{is_well_formed}
use Rattle.world_core.specs.Start.{Start, made}
use Rattle.world_core.specs.Steps.{Addressed, HostStep}
use Rattle.world_views.specs.Machine.{machine, step_after, stops_by}
use Rattle.view_laws.specs.Order.{sound_machine}
use Rattle.view_laws.specs.Runs.{view_after}
use Rattle.moment_laws.specs.Moments.{IsMoment, current, logs_of}
use Rattle.moment_laws.specs.Parts.{IsPassed}
use Rattle.moment_laws.specs.PartSteps.{PartEnters, PartTakes, handles, ignores, installs, remains, tc_kind}
use Rattle.moment_laws.specs.Places.{tc_of}
use Rattle.moment_laws.proofs.MomentHosts.{part_some, tc_low}
use Rattle.moment_laws.proofs.MomentTurns.{current_rises, old_current}
use Rattle.moment_laws.proofs.MomentViews.{current_above, current_number, moment_less, number_in}
use Rattle.moment_laws.proofs.PartTaken.{IsTakenNow}
use Rattle.request_laws.specs.Blocks.{takeover_after}
use Rattle.request_laws.proofs.phases.AlongLogs.{told_some}
use Rattle.request_laws.proofs.routes.Headers.{takeover_fenced}
use Rattle.request_laws.proofs.routes.PartSteps.{TcStep, own_tc, takeover_is}
use Rattle.commit_laws.specs.Takeovers.{takeover_at}
use Rattle.commit_laws.specs.Telling.{IsTelling, OrdersComeFirst, TellingsAreForTakeovers}
use Rattle.commit_laws.proofs.links.TakeoverHears.{Hears, heard, stops, tc_hears}
use Rattle.commit_laws.proofs.gathering.Notes.{NotedAt, notes_stay, telling_noted}

-- a signal that a link gave is sound
pub sound_of : (asked sound from : Bool) → (not (asked || not sound) && from) ≡ true → sound ≡ true
sound_of true sound from is = absurd (true≢false (sym is))
sound_of false true from is = refl
sound_of false false from is = absurd (true≢false (sym is))

module _ (start : Start) (logs : ℕ → List HostStep) (member : Member) where
  -- of what its host was told in the current view, where that host stands in it and runs
  abbrev pub TellingsNoted : Type 0
  TellingsNoted =
      number_in start logs (tc_of start member) ≡ current_number start logs
      → IsRunning (sound_machine start) (logs (tc_of start member)) → (i : ℕ) (y : Addressed)
      → IsIn y (taken (sound_machine start) i (logs (tc_of start member))) → (tx : TxId) (key : List ℕ)
      → (tells : IsTelling start logs tx key y)
      → NotedAt tx key (told_epoch tells.told tells.epoch ≡ None → ⊥) (takeover_at start logs member)

module _ (first : OrdersComeFirst) (placed : TellingsAreForTakeovers) (start : Start) (all : ℕ → List HostStep)
    (e : HostStep) (es : List HostStep) (moment : IsMoment start all (e ∷ es)) (member : Member)
    (there : IsIn member (made start)) (before : TellingsNoted start (logs_of start es) member)
  where
    abbrev n : Machine HostStep Addressed
    n = sound_machine start

    abbrev old : ℕ → List HostStep
    old = logs_of start es

    abbrev new : ℕ → List HostStep
    new = logs_of start (e ∷ es)

    abbrev h : ℕ
    h = tc_of start member

    abbrev log : List HostStep
    log = logs_of start es (tc_of start member)

    abbrev x : Signal
    x = e.step.taken

    -- where its host stands in the view behind the event in which it stood before, nothing has changed of that view
    still : number_in start old h ≡ current_number start new → current start new ≡ current start old
    still same =
        let above = current_above start old moment.cluster.nobody h (tc_low start moment.cluster.nobody member there) in
        let rises = current_rises start all e es moment in
        old_current start all e es moment (omega (arith, same, above, rises))

    was : (y : Addressed) (tx : TxId) (key : List ℕ) (tells : IsTelling start new tx key y)
        → number_in start old h ≡ current_number start new → IsRunning n log → (i : ℕ) → IsIn y (taken n i log)
        → NotedAt tx key (told_epoch tells.told tells.epoch ≡ None → ⊥) (takeover_after start member log)
    was y tx key tells same runs i inside =
        let number : current_number start new ≡ current_number start old =
        ap (λ (v : View). v.number) (still same) in
        before (same ∙ number) runs i y inside tx key
        (record { told = tells.told; epoch = tells.epoch; body = tells.body; number = tells.number ∙ number })

    module _ (at : e.host ≡ tc_of start member) where
      abbrev step : Step hosts.HostBody
      step = step_after start (tc_of start member) log e

      abbrev own : TcStep start (tc_of start member) log e
      own = own_tc start moment.cluster.nobody member there log e

      abbrev between : TcPart
      between = own.does.between

      abbrev stood : View
      stood = view_after start (tc_of start member) log

      abbrev view : View
      view = view_after start (tc_of start member) (e ∷ log)

      happens : Happens (sound_machine start) es e
      happens = moment.run.1

      running : IsRunning (sound_machine start) (logs_of start es (tc_of start member))
      running = subst (λ k. IsRunning n (old k)) at happens.step.runs

      module _ (stands : view.number ≡ current_number start new) (y : Addressed) (tx : TxId) (key : List ℕ)
          (tells : IsTelling start new tx key y)
        where
          abbrev Noted : TakeoverState → Type 0
          Noted s = NotedAt tx key (told_epoch tells.told tells.epoch ≡ None → ⊥) s

          -- what it was told before
          module _ (i : ℕ) (inside : IsIn y (taken (sound_machine start) i (logs_of start es (tc_of start member))))
            where
              between_noted : PartEnters tc_kind own.own stood x between view own.does.front → Noted between.takeover
              between_noted (remains same stays none) =
                  let number : view.number ≡ stood.number = ap (λ (v : View). v.number) stays in
                  subst (λ (q : TcPart). Noted q.takeover) (sym same)
                  (subst Noted (takeover_is start member h log refl own.own own.runs)
                  (was y tx key tells (sym number ∙ stands) running i inside))
              between_noted (installs above same stays sent) =
                  subst (λ (q : TcPart). Noted q.takeover) (sym same) (λ gathers. absurd (true≢false (sym gathers)))

              taken_by : (b : BlockId) → x.to.block ≡ b → IsPassed start.shape (part.Tc between) view x
                  → IsTakenNow start all e es moment b
              taken_by b to passed = tc_taken start all e es moment h at own passed b to

              unordered : x.to.block ≡ block.Takeover → IsPassed start.shape (part.Tc between) view x
                  → x.body ≡ Takeover TakeoverOrd → ⊥
              unordered to passed orders =
                  first start all e es moment member there at to orders
                  ((taken_by block.Takeover to passed).fresh (takeover_fenced x TakeoverOrd orders)) i y inside tx key
                  tells

              row_noted : IsPassed start.shape (part.Tc between) view x → (b : BlockId) → x.to.block ≡ b
                  → Noted (tc_row between b x).state.takeover
              unfolding tc_row
              row_noted passed block.Takeover to =
                  notes_stay tx key (told_epoch tells.told tells.epoch ≡ None → ⊥) between.takeover x
                  (unordered to passed)
                  (between_noted own.does.enters)
              row_noted passed block.Tc to = between_noted own.does.enters
              row_noted passed block.Dih to = between_noted own.does.enters
              row_noted passed _ to = between_noted own.does.enters

              takes_noted : PartTakes tc_kind start.shape between view x own.does.own own.does.rest
                  → Noted own.does.own.takeover
              takes_noted (ignores same none) =
                  subst (λ (q : TcPart). Noted q.takeover) (sym same) (between_noted own.does.enters)
              takes_noted (handles passed same sent) =
                  subst (λ (q : TcPart). Noted q.takeover) (sym same) (row_noted passed x.to.block refl)

              older_noted : Noted (takeover_after start member (e ∷ log))
              older_noted =
                  subst Noted (sym (takeover_is start member h (e ∷ log) refl own.does.own own.does.is))
                  (takes_noted own.does.takes)

          -- and what it is told by the event
          newest_noted : stops_by e.step.marks ≡ false → is_well_formed start.shape x ≡ true → y.signal ≡ x
              → Noted (takeover_after start member (e ∷ log))
          unfolding tc_row
          newest_noted runs sound is =
              by (tc_hears start moment.cluster.nobody h log e own.own own.runs
              (LqhTransConf tx key tells.told tells.epoch) body_is to high
              sound)
            where
              body_is : x.body ≡ Takeover (LqhTransConf tx key tells.told tells.epoch)
              body_is = ap (λ (s : Signal). s.body) (sym is) ∙ tells.body

              to : x.to.block ≡ block.Takeover
              to = placed start all e es moment sound tx key tells.told tells.epoch body_is

              high : stood.number ≤ x.view.number
              high =
                  let above = current_above start old moment.cluster.nobody h
                  (tc_low start moment.cluster.nobody member there) in
                  let rises = current_rises start all e es moment in
                  let number : x.view.number ≡ current_number start new =
                  ap (λ (s : Signal). s.view.number) (sym is) ∙ tells.number in
                  omega (arith, above, rises, number)

              marks : e.step.marks ≡ step.effects.marks
              marks =
                  subst (λ k. e.step.marks ≡ (step_after start k (old k) e).effects.marks) at happens.step.fits.marks

              now_is : (q : TcPart) → step.state.parts ≡ part.Tc q → takeover_after start member (e ∷ log) ≡ q.takeover
              now_is q parts =
                  takeover_is start member h (e ∷ log) refl q
                  (ap (λ (s : hosts.HostBody). s.parts) (told_some h (part_some start kinds.Tc member) step) ∙ parts)

              takes_it : (q : TcPart) → Noted (tc_row q block.Takeover x).state.takeover
              takes_it q = telling_noted q.takeover x tx key tells.told tells.epoch body_is

              row : (q : TcPart) → Noted (tc_row q x.to.block x).state.takeover
              row q =
                  subst (λ (b : BlockId). Noted (tc_row q b x).state.takeover) (sym to)
                  (takes_it q)

              by : Hears own.own stood x step → Noted (takeover_after start member (e ∷ log))
              by (stops is) = absurd (true≢false (sym (ap stops_by marks ∙ is) ∙ runs))
              by (heard q seen front entering parts stays) =
                  subst Noted (sym (now_is (tc_row q x.to.block x).state parts)) (row q)

          both : (i : ℕ) → (b : Bool) → is_from n i e ≡ b → stops_by e.step.marks ≡ false
              → IsIn y (if b then n.signal e ∷ taken n i log else taken n i log)
              → Noted (takeover_after start member (e ∷ log))
          both i false off runs inside = older_noted i inside
          both i true from runs (inr inside) = older_noted i inside
          both i true from runs (inl is) =
              newest_noted runs
              (sound_of ((machine start).asked e) (is_well_formed start.shape x) (n.from (n.signal e) == i) from)
              (ap (λ (z : Addressed). z.signal) is)

    pub tellings_next : TellingsNoted start (logs_of start (e ∷ es)) member
    tellings_next stands runs i y inside tx key tells =
        event_cases (machine start) e es h
        (λ log. (view_after start h log).number ≡ current_number start new → IsRunning n log → IsIn y (taken n i log)
        → NotedAt tx key (told_epoch tells.told tells.epoch ≡ None → ⊥) (takeover_after start member log))
        (λ at stood ran there. both at stood y tx key tells i (is_from n i e) refl ran there)
        (λ off stood ran there. was y tx key tells stood ran i there) stands runs inside

-- so it is at each moment
pub tellings_noted : OrdersComeFirst → TellingsAreForTakeovers → (start : Start) (all : ℕ → List HostStep)
    (es : List HostStep) → IsMoment start all es → (member : Member) → IsIn member (made start)
    → TellingsNoted start (logs_of start es) member
tellings_noted first placed start all [] moment member there =
    λ stands runs i y inside tx key tells. absurd inside
tellings_noted first placed start all (e ∷ es) moment member there =
    tellings_next first placed start all e es moment member there
    (tellings_noted first placed start all es (moment_less start all e es moment) member there)
