-- A coordinator whose transactions have their routes sends only what is routed in its view, and they go on to have
-- them.
use Rattle.std.proofs.Common.{◌≡◌, ℕ, Bool, true, false, List, [], ◌∷◌, ◌++◌, length, nat_lt, refl, sym, ap, ◌∙◌, subst}
use Rattle.std.proofs.Common.{◌⊎◌, ◌||◌}
use Rattle.std.proofs.lemmas.Bool.{true≢false}
use Rattle.std.proofs.lemmas.List.Folds.{list_any-append}
use Rattle.std.specs.Prelude.{if◌then◌else◌}
use Rattle.indexmap.specs.IndexMap.{insert_entry}
use Rattle.run_theory.specs.Lists.{Each}
use Rattle.run_theory.proofs.Pasts.{each_after, each_append, each_before, each_from, each_in, each_map}
use Rattle.sig_core.specs.declared.member.TxId.{TxId}
use Rattle.sig_core.specs.declared.outs.Outgoing.{Outgoing}
use Rattle.sig_core.specs.declared.signal.Body.{Body}
use Rattle.sig_core.specs.declared.signal.Body.TheVariants.{Epoch, Host}
use Rattle.sig_core.specs.declared.signal.Signal.{Signal}
use Rattle.sig_core.specs.declared.signal.epoch.EpochSignal.TheVariants.{DiVerifyConf}
use Rattle.sig_core.specs.declared.signal.host.HostSignal.TheVariants.{Continue}
use Rattle.sig_core.specs.declared.signal.host.Work.TheVariants as work
use Rattle.sig_core.specs.declared.view.View.{View}
use Rattle.sig_core.specs.Same.{same_tx}
use Rattle.sig_core.specs.Step.{Step, stay}
use Rattle.frag_map.specs.Layout.{Layout}
use Rattle.tc_block.proofs.EachResume.{ResumeForms}
use Rattle.tc_block.specs.Doom.{is_among}
use Rattle.tc_block.specs.Live.{turned, turned_if, without}
use Rattle.tc_block.specs.Operate.{fresh}
use Rattle.tc_block.specs.State.{TcState}
use Rattle.tc_block.specs.Tc.{next_tx}
use Rattle.tc_block.specs.Turn.{Turn}
use Rattle.tc_block.specs.declared.phase.Phase.{Phase}
use Rattle.tc_block.specs.declared.phase.Phase.TheVariants.{Open, Verifying, Committing, Completing, Aborting}
use Rattle.tc_block.specs.declared.transaction.Transaction.{Transaction}
use Rattle.tc_block.proofs.EachTurn.{RowsAre, rows_at, rows_both}
use Rattle.tc_block.proofs.LiveSplit.{KeysOnce, Live, Split, once_back, once_front}
use Rattle.tc_views.proofs.Walk.{coordinator_outcomes, inner}
use Rattle.tc_views.specs.Coordinator.{coordinator_row, coordinator_table}
use Rattle.tc_views.specs.State.{CoordinatorState, go_on_if}
use Rattle.tc_views.specs.Views.{install_row, tasks_at}
use Rattle.tc_views.specs.Laws.{AreOnce}
use Rattle.outcome_laws.proofs.coordinators.Lists.{keys_once}
use Rattle.request_laws.specs.Drives.{is_commit, is_request}
use Rattle.request_laws.specs.Routes.{CoordinatorHasRoutes, HasRoutesIn, IsRouted, IsSentRouted}
use Rattle.request_laws.specs.Ways.{is_sent}
use Rattle.request_laws.proofs.routes.OwnSends.{IsOwnTurn, IsUnsent, other_unsent, resumes_own, turns_own}
use Rattle.request_laws.proofs.routes.DoomedStay.{doomed_stay}
use Rattle.request_laws.proofs.routes.Sends.{IsMade}
use Rattle.request_laws.proofs.routes.Takeovers.{ChainsAreSome}
use Rattle.request_laws.proofs.routes.Turns.{Grows, IsAnsweredIn, IsGiven, Renews, Routes, has_stays, resume_forms}
use Rattle.request_laws.proofs.routes.Turns.{turn_forms, was_so}

-- What a coordinator sends is of transactions that it asks for, or drives, in this view, and of those that it had no
-- other is asked for, or driven, anew; of those that it has, who is aborted is given up, and who is decided isn't.
pub record Makes (A0 D0 A D G : TxId → Type 0) (before live : Live) (sends : List Outgoing) : Type 0 where
  pub sends_own : Each (λ (sent : Outgoing). IsMade A D sent.body) sends
  pub given : Each (λ (e : TxId × Transaction). IsGiven G e.0 e.1.phase) live
  pub renews : Each (λ (e : TxId × Transaction). Renews A0 D0 A D e.0 sends) before

-- none of them that doesn't take operations, and isn't aborted, has one unanswered
abbrev pub AreAnswered : CoordinatorState → Type 0
AreAnswered s = Each (λ (e : TxId × Transaction). IsAnsweredIn e.1) s.tc.live

-- signals that change nothing: a doomed transaction takes no epoch, and a list of sends of an older view has ended
abbrev pub is_idle : CoordinatorState → ℕ → Body → Bool
is_idle s number (Host (Continue (work.Transaction tx) at)) = nat_lt number s.number
is_idle s number (Epoch (DiVerifyConf tx epoch)) = is_among s.doomed tx
is_idle s number body = false

idle_stays : (s : CoordinatorState) (number : ℕ) (body : Body) → is_idle s number body ≡ true
    → coordinator_table s number body ≡ stay s
idle_stays s number (Host (Continue (work.Transaction tx) at)) is = rw is refl
idle_stays s number (Epoch (DiVerifyConf tx epoch)) is = rw is refl
idle_stays s number body is = absurd (true≢false (sym is))

spared_in : (s : CoordinatorState) (number : ℕ) (body : Body) → is_idle s number body ≡ false → (tx : TxId) (epoch : ℕ)
    → body ≡ Epoch (DiVerifyConf tx epoch) → is_among s.doomed tx ≡ false
spared_in s number body busy tx epoch same = sym (ap (is_idle s number) same) ∙ busy

-- of an entry that isn't doomed behind a step, and wasn't before, the routes are those before
undoomed : (layout : Layout) (A D G : TxId → Type 0) (s next : CoordinatorState) (tx : TxId) (t : Transaction)
    → (is_among next.doomed tx ≡ false → is_among s.doomed tx ≡ false) → (phase : Phase)
    → HasRoutesIn layout A D G s tx t phase → HasRoutesIn layout A D G next tx t phase
undoomed layout A D G s next tx t same Open has = λ spared asked. has (same spared) asked
undoomed layout A D G s next tx t same Verifying has = λ spared asked. has (same spared) asked
undoomed layout A D G s next tx t same (Committing epoch awaited) has = has
undoomed layout A D G s next tx t same (Completing epoch awaited) has = has
undoomed layout A D G s next tx t same (Aborting why verifying awaited) has = has

-- where the coordinator goes on it asks for nothing, and drives nobody
or_none : (b : Bool) → (b || false) ≡ b
or_none true = refl
or_none false = refl

more_asked : (tx : TxId) (sends : List Outgoing) (node : ℕ) (b : Bool)
    → is_sent (is_request tx) (sends ++ go_on_if node b) ≡ is_sent (is_request tx) sends
more_asked tx sends node b =
    list_any-append (λ (sent : Outgoing). is_request tx sent.body) sends (go_on_if node b) ∙ by b
  where
    by : (b : Bool) → (is_sent (is_request tx) sends || is_sent (is_request tx) (go_on_if node b))
        ≡ is_sent (is_request tx) sends
    by true = or_none (is_sent (is_request tx) sends)
    by false = or_none (is_sent (is_request tx) sends)

more_driven : (tx : TxId) (sends : List Outgoing) (node : ℕ) (b : Bool)
    → is_sent (is_commit tx) (sends ++ go_on_if node b) ≡ is_sent (is_commit tx) sends
more_driven tx sends node b =
    list_any-append (λ (sent : Outgoing). is_commit tx sent.body) sends (go_on_if node b) ∙ by b
  where
    by : (b : Bool) → (is_sent (is_commit tx) sends || is_sent (is_commit tx) (go_on_if node b))
        ≡ is_sent (is_commit tx) sends
    by true = or_none (is_sent (is_commit tx) sends)
    by false = or_none (is_sent (is_commit tx) sends)

module _ (A0 D0 G0 A D G : TxId → Type 0) (grows : Grows A0 D0 G0 A D G) (s : CoordinatorState)
    (some : ChainsAreSome s.tc.layout) where
  abbrev IsSent : Outgoing → Type 0
  IsSent sent = IsSentRouted s.tc.layout A D G sent

  abbrev AreSent : List Outgoing → Type 0
  AreSent sends = Each (IsSentRouted s.tc.layout A D G) sends

  -- an entry had its routes before the step, and has them behind it, with who is doomed before it
  abbrev HadEntry : TxId × Transaction → Type 0
  HadEntry e = HasRoutesIn s.tc.layout A0 D0 G0 s e.0 e.1 e.1.phase

  abbrev HasEntry : TxId × Transaction → Type 0
  HasEntry e = HasRoutesIn s.tc.layout A D G s e.0 e.1 e.1.phase

  record StepRoutes (step : Step TcState) : Type 0 where
    has : Each HasEntry step.state.live
    sends : AreSent step.effects.sends

  abbrev Own : Live → List Outgoing → Type 0
  Own live sends = Makes A0 D0 A D G s.tc.live live sends

  -- a step that sends its own
  abbrev StepGoes : Step TcState → Type 0
  StepGoes step = Own step.state.live step.effects.sends → StepRoutes step

  abbrev Given : TxId × Transaction → Type 0
  Given e = IsGiven G e.0 e.1.phase

  abbrev Renewed : List Outgoing → TxId × Transaction → Type 0
  Renewed sends e = Renews A0 D0 A D e.0 sends

  more_sent : (node : ℕ) (b : Bool) → AreSent (go_on_if node b)
  more_sent node true = (tt, tt)
  more_sent node false = tt

  -- entries of which nothing is sent stay
  all_stay : (live : Live) (sends : List Outgoing) → Each (λ (e : TxId × Transaction). IsUnsent e.0 sends) live
      → Each (Renewed sends) live → Each Given live → Each HadEntry live → Each HasEntry live
  all_stay [] sends unsent renews given all = tt
  all_stay (e ∷ es) sends unsent renews given all = (
    has_stays s.tc.layout A0 D0 G0 A D G s e.0 e.1 e.1.phase
        (λ on. was_so (is_sent (is_request e.0) sends) unsent.0.unasked (renews.0.asked on))
        (λ on. was_so (is_sent (is_commit e.0) sends) unsent.0.undriven (renews.0.driven on)) given.0 all.0,
    all_stay es sends unsent.1 renews.1 given.1 all.1,
  )

  unsent_all : (live : Live) (sends : List Outgoing) → ((tx : TxId) → IsUnsent tx sends)
      → Each (λ (e : TxId × Transaction). IsUnsent e.0 sends) live
  unsent_all [] sends none = tt
  unsent_all (e ∷ es) sends none = (none e.0, unsent_all es sends none)

  -- and so do all where nothing is sent of anybody
  same_has : (sends : List Outgoing) → Own s.tc.live sends → ((tx : TxId) → IsUnsent tx sends)
      → Each HadEntry s.tc.live → Each HasEntry s.tc.live
  same_has sends makes none all =
      all_stay s.tc.live sends (unsent_all s.tc.live sends none) makes.renews makes.given all

  -- a transaction begins without any key
  begun_has : (live : Live) (tx : TxId) (sends : List Outgoing) → Each (Renewed sends) live
      → ((one : TxId) → IsUnsent one sends) → Each Given (insert_entry same_tx live tx fresh) → Each HadEntry live
      → Each HasEntry (insert_entry same_tx live tx fresh)
  begun_has [] tx sends renews none given all = (λ spared asked. record { touched = tt; asked = tt }, tt)
  begun_has (e ∷ es) tx sends renews none given all =
      by (same_tx tx e.0) given (λ rest. begun_has es tx sends renews.1 none rest all.1)
    where
      by : (b : Bool) → Each Given (if b then (e.0, fresh) ∷ es else e ∷ insert_entry same_tx es tx fresh)
          → (Each Given (insert_entry same_tx es tx fresh) → Each HasEntry (insert_entry same_tx es tx fresh))
          → Each HasEntry (if b then (e.0, fresh) ∷ es else e ∷ insert_entry same_tx es tx fresh)
      by true given more = (
        λ spared asked. record { touched = tt; asked = tt },
        all_stay es sends (unsent_all es sends none) renews.1 given.1 all.1,
      )
      by false given more = (
        (all_stay (e ∷ []) sends (none e.0, tt) (renews.0, tt) (given.0, tt) (all.0, tt)).0,
        more given.1,
      )

  -- the entry of the transaction whose turn it is
  own_entry : (P : TxId × Transaction → Type 0) (live : Live) (tx : TxId) (t : Transaction) (at : ℕ)
      → Split tx t live at → Each P live → P (tx, t)
  own_entry P live tx t at split all =
      (each_after P split.front ((tx, t) ∷ split.back) (subst (Each P) split.is all)).0

  -- a turn that sends only its own
  abbrev TurnGoes : TxId → Turn → Type 0
  TurnGoes tx turn = Routes s.tc.layout A D G some A0 D0 G0 grows s tx turn × IsOwnTurn tx turn

  turned_goes : (tx : TxId) (t : Transaction) (at : ℕ) → Split tx t s.tc.live at → KeysOnce s.tc.live
      → Each HadEntry s.tc.live → (turn : Turn) → TurnGoes tx turn → StepGoes (turned s.tc at turn)
  unfolding without
  turned_goes tx t at split once all turn goes = by turn.over refl
    where
      sends : List Outgoing
      sends = turn.step.effects.sends

      keys : KeysOnce (split.front ++ (tx, t) ∷ split.back)
      keys = subst KeysOnce split.is once

      whole : Each HadEntry (split.front ++ (tx, t) ∷ split.back)
      whole = subst (Each HadEntry) split.is all

      -- those of a list of others
      others : (live : Live) → Each (λ (x : TxId × Transaction). same_tx x.0 tx ≡ false) live
          → Each (Renewed sends) live → Each Given live → Each HadEntry live → Each HasEntry live
      others live apart =
          all_stay live sends
          (each_map (λ (x : TxId × Transaction). same_tx x.0 tx ≡ false)
          (λ (x : TxId × Transaction). IsUnsent x.0 sends) live
          (λ x is. other_unsent tx x.0 is sends goes.1) apart)

      front : Each (Renewed sends) s.tc.live → Each Given split.front → Each HasEntry split.front
      front renews given =
          others split.front (once_front split.front split.back tx t keys)
          (each_before (Renewed sends) split.front ((tx, t) ∷ split.back)
          (subst (Each (Renewed sends)) split.is renews))
          given (each_before HadEntry split.front ((tx, t) ∷ split.back) whole)

      back : Each (Renewed sends) s.tc.live → Each Given split.back → Each HasEntry split.back
      back renews given =
          others split.back (once_back split.front split.back tx t keys)
          (each_after (Renewed sends) split.front ((tx, t) ∷ split.back)
          (subst (Each (Renewed sends)) split.is renews)).1
          given (each_after HadEntry split.front ((tx, t) ∷ split.back) whole).1

      by : (b : Bool) → turn.over ≡ b → StepGoes (turned_if s.tc at turn b)
      by true over makes =
          let own = goes.0 (record {
            sends = makes.sends_own;
            given = λ on. absurd (true≢false (sym over ∙ on));
            renews = own_entry (Renewed sends) s.tc.live tx t at split makes.renews;
          }) in
          let given = subst (Each Given) split.gone makes.given in
          record {
            has = subst (Each HasEntry) (sym split.gone)
                (each_append HasEntry split.front split.back
                (front makes.renews (each_before Given split.front split.back given))
                (back makes.renews (each_after Given split.front split.back given)));
            sends = own.sends;
          }
      by false on makes =
          let given = subst (Each Given) (split.set turn.step.state) makes.given in
          let rest = each_after Given split.front ((tx, turn.step.state) ∷ split.back) given in
          let own = goes.0 (record {
            sends = makes.sends_own;
            given = λ on. rest.0;
            renews = own_entry (Renewed sends) s.tc.live tx t at split makes.renews;
          }) in
          record {
            has = subst (Each HasEntry) (sym (split.set turn.step.state))
                (each_append HasEntry split.front ((tx, turn.step.state) ∷ split.back)
                (front makes.renews
                (each_before Given split.front ((tx, turn.step.state) ∷ split.back) given))
                (own.has on, back makes.renews rest.1));
            sends = own.sends;
          }

  module _ (x : Signal) (once : KeysOnce s.tc.live) (all : Each HadEntry s.tc.live) (answered : AreAnswered s)
      (is : IsRouted s.tc.layout A0 D0 G0 x.to x.body)
      (spared : (tx : TxId) (epoch : ℕ) → x.body ≡ Epoch (DiVerifyConf tx epoch) → is_among s.doomed tx ≡ false) where
    turns_go : (tx : TxId) (t : Transaction) (at : ℕ) → Split tx t s.tc.live at
        → RowsAre s.tc.node s.tc.layout tx t x.body (TurnGoes tx)
    turns_go tx t at split =
        rows_both s.tc.node s.tc.layout tx t x.body (Routes s.tc.layout A D G some A0 D0 G0 grows s tx) (IsOwnTurn tx)
        (rows_at s.tc.node s.tc.layout tx t x.body (Routes s.tc.layout A D G some A0 D0 G0 grows s tx)
        (turn_forms s.tc.layout A D G some A0 D0 G0 grows s tx s.tc.node x.to x.body t
        (own_entry HadEntry s.tc.live tx t at split all)
        (own_entry (λ (e : TxId × Transaction). IsAnsweredIn e.1) s.tc.live tx t at split answered) is
        (spared tx)))
        (turns_own s.tc.node s.tc.layout tx t x.body)

    resumes_go : (tx : TxId) (t : Transaction) (at : ℕ) → Split tx t s.tc.live at
        → ResumeForms s.tc.node s.tc.layout tx t (TurnGoes tx)
    resumes_go tx t at split =
        let routes = resume_forms s.tc.layout A D G some A0 D0 G0 grows s tx s.tc.node t
        (own_entry HadEntry s.tc.live tx t at split all)
        (own_entry (λ (e : TxId × Transaction). IsAnsweredIn e.1) s.tc.live tx t at split answered) in
        let own = resumes_own s.tc.node s.tc.layout tx t in
        record {
          stays = (routes.stays, own.stays);
          fails = λ number undecided. record {
            enters = λ some. ((routes.fails number undecided).enters some, (own.fails number undecided).enters some);
            ends = λ none. ((routes.fails number undecided).ends none, (own.fails number undecided).ends none);
          };
          anew = λ why verifying awaited at b.
              (routes.anew why verifying awaited at b, own.anew why verifying awaited at b);
          recommits = λ epoch awaited at. (routes.recommits epoch awaited at, own.recommits epoch awaited at);
          recompletes = λ epoch awaited at. (routes.recompletes epoch awaited at, own.recompletes epoch awaited at);
        }

    -- where the coordinator goes on behind a step
    without_more : (live : Live) (sends : List Outgoing) (node : ℕ) (b : Bool)
        → Own live (sends ++ go_on_if node b) → Own live sends
    without_more live sends node b makes = record {
      sends_own = each_before (λ (sent : Outgoing). IsMade A D sent.body) sends (go_on_if node b) makes.sends_own;
      given = makes.given;
      renews =
          each_map (Renewed (sends ++ go_on_if node b)) (Renewed sends) s.tc.live
          (λ e renews. record {
            asked = λ on.
                subst (λ b. A0 e.0 ⊎ (b ≡ true)) (more_asked e.0 sends node b) (renews.asked on);
            driven = λ on.
                subst (λ b. D0 e.0 ⊎ (b ≡ true)) (more_driven e.0 sends node b) (renews.driven on);
          }) makes.renews;
    }

    nothing_sent : (tx : TxId) → IsUnsent tx []
    nothing_sent tx = record { unasked = refl; undriven = refl }

    goes_routed : StepGoes (inner (coordinator_row s x))
    goes_routed =
        coordinator_outcomes (λ tx t turn. TurnGoes tx turn) (λ step. StepGoes step) s x (record {
          calm = record {
            turns = turns_go;
            turned = λ tx t at split turn goes. turned_goes tx t at split once all turn goes;
            stays = λ makes. record { has = same_has [] makes nothing_sent all; sends = tt };
            full = λ name makes. record {
              has = same_has _ makes (λ tx. record { unasked = refl; undriven = refl }) all;
              sends = (tt, tt);
            };
            begins = λ name makes. record {
              has = begun_has s.tc.live (next_tx s.tc) _ makes.renews
                  (λ tx. record { unasked = refl; undriven = refl }) makes.given all;
              sends = (tt, tt);
            };
            passes = λ tx ahead makes. record {
              has = same_has _ makes (λ tx. record { unasked = refl; undriven = refl }) all;
              sends = (tt, tt);
            };
          };
          resumes = resumes_go;
          promises = λ makes. record {
            has = same_has _ makes (λ tx. record { unasked = refl; undriven = refl }) all;
            sends = (tt, tt);
          };
          goes_on = λ step node b so_far makes.
              let own = so_far (without_more step.state.live step.effects.sends node b makes) in
              record {
                has = own.has;
                sends = each_append IsSent step.effects.sends (go_on_if node b) own.sends (more_sent node b);
              };
        })

-- whatever it takes: what it has behind it, and sends
pub record CoordinatorRoutes (layout : Layout) (A D G : TxId → Type 0) (step : Step CoordinatorState) : Type 0 where
  pub has : CoordinatorHasRoutes layout A D G step.state
  pub sends : Each (IsSentRouted layout A D G) step.effects.sends

-- that it takes is routed, unless it is idle at it
abbrev pub TakesRouted : Layout → (TxId → Type 0) → (TxId → Type 0) → (TxId → Type 0) → CoordinatorState → Signal
    → Type 0
TakesRouted layout A D G s x = is_idle s x.view.number x.body ≡ false → IsRouted layout A D G x.to x.body

module _ (A0 D0 G0 A D G : TxId → Type 0) (grows : Grows A0 D0 G0 A D G) (s : CoordinatorState) (x : Signal) where
  abbrev Now : Layout → Type 0
  Now layout = CoordinatorRoutes layout A D G (coordinator_row s x)

  abbrev OwnStep : Step CoordinatorState → Type 0
  OwnStep step = Makes A0 D0 A D G s.tc.live step.state.tc.live step.effects.sends

  own_routed : ChainsAreSome s.tc.layout → AreOnce s.tc.live → CoordinatorHasRoutes s.tc.layout A0 D0 G0 s
      → AreAnswered s → TakesRouted s.tc.layout A0 D0 G0 s x → OwnStep (coordinator_row s x) → Now s.tc.layout
  own_routed some once all answered is makes = by (is_idle s x.view.number x.body) refl
    where
      at_rest : (step : Step CoordinatorState) → step ≡ stay s → OwnStep step
          → CoordinatorRoutes s.tc.layout A D G step
      at_rest step same makes =
          subst (CoordinatorRoutes s.tc.layout A D G) (sym same)
          (record {
            has =
                same_has A0 D0 G0 A D G grows s some [] (subst OwnStep same makes)
                (λ tx. record { unasked = refl; undriven = refl }) all;
            sends = tt;
          })

      by : (b : Bool) → is_idle s x.view.number x.body ≡ b → Now s.tc.layout
      by true idle = at_rest (coordinator_row s x) (idle_stays s x.view.number x.body idle) makes
      by false busy =
          let step = goes_routed A0 D0 G0 A D G grows s some x (keys_once s.tc.live once) all answered (is busy)
          (spared_in s x.view.number x.body busy) makes in
          record {
            has =
                each_from
                (λ (e : TxId × Transaction).
                HasRoutesIn s.tc.layout A D G (coordinator_row s x).state e.0 e.1 e.1.phase)
                (coordinator_row s x).state.tc.live
                (λ e inside.
                undoomed s.tc.layout A D G s (coordinator_row s x).state e.0 e.1 (doomed_stay s x e inside) e.1.phase
                (each_in (HasEntry A0 D0 G0 A D G grows s some) e (coordinator_row s x).state.tc.live step.has inside));
            sends = step.sends;
          }

  pub coordinator_routed : (layout : Layout) → s.tc.layout ≡ layout → ChainsAreSome layout → AreOnce s.tc.live
      → CoordinatorHasRoutes layout A0 D0 G0 s → AreAnswered s → TakesRouted layout A0 D0 G0 s x
      → OwnStep (coordinator_row s x) → CoordinatorRoutes layout A D G (coordinator_row s x)
  coordinator_routed layout same some once all answered is makes =
      subst
      (λ (l : Layout). ChainsAreSome l → CoordinatorHasRoutes l A0 D0 G0 s → TakesRouted l A0 D0 G0 s x → Now l) same
      (λ some all is. own_routed some once all answered is makes) some all is

-- and where a view is installed it tells nobody but itself
pub installs_routed : (layout : Layout) (A D G : TxId → Type 0) (s : CoordinatorState) (view : View)
    → Each (IsSentRouted layout A D G) (install_row s view).effects.sends
unfolding install_row
installs_routed layout A D G s view = by (nat_lt 0 (length (tasks_at s view.number)))
  where
    by : (b : Bool) → Each (IsSentRouted layout A D G) (go_on_if s.tc.node b)
    by true = (tt, tt)
    by false = tt
