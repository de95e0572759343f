-- What a transaction does at a signal, or for what an installation left, is routed in the view of its coordinator, and
-- it has its routes behind it, if what it sends is its own of this view.
use Rattle.std.proofs.Common.{◌≡◌, ◌⊎◌, ◌==◌, ℕ, Bool, true, false, List, [], ◌∷◌, inl, inr, length, map, refl, sym, ap}
use Rattle.std.proofs.Common.{◌∙◌, subst, arith}
use Rattle.std.proofs.lemmas.Bool.{eqb-true, true≢false}
use Rattle.std.specs.Prelude.{None}
use Rattle.run_theory.specs.Lists.{Each}
use Rattle.run_theory.proofs.EachSent.{each_mapped}
use Rattle.sig_core.specs.declared.member.TxId.{TxId}
use Rattle.sig_core.specs.declared.op.Op.{Op}
use Rattle.sig_core.specs.declared.outcome.AbortCause.{AbortCause}
use Rattle.sig_core.specs.declared.outs.Outgoing.{Outgoing}
use Rattle.sig_core.specs.declared.place.Place.{Place}
use Rattle.sig_core.specs.declared.signal.Body.{Body}
use Rattle.sig_core.specs.declared.signal.Body.TheVariants.{Epoch}
use Rattle.sig_core.specs.declared.signal.epoch.EpochSignal.TheVariants.{DiVerifyConf}
use Rattle.sig_core.specs.Op.{key_of}
use Rattle.sig_core.specs.Step.{stay}
use Rattle.frag_map.specs.Layout.{Layout, chain_of}
use Rattle.tc_block.proofs.EachResume.{ResumeForms}
use Rattle.tc_block.specs.Abort.{abort_end, is_verifying}
use Rattle.tc_block.specs.Complete.{written_count}
use Rattle.tc_block.specs.Doom.{is_among, is_undecided}
use Rattle.tc_block.specs.Operate.{answered as answered_as, can_operate, is_ready, operating}
use Rattle.tc_block.specs.Part.{part_effects}
use Rattle.tc_block.specs.Phases.{is_aborting, is_decided}
use Rattle.tc_block.specs.Resume.{anew_if, rechained, redriven}
use Rattle.tc_block.specs.Sends.{abort_of, entering, go_on_if, phase_sends, wait_of, waits_of}
use Rattle.tc_block.specs.Touched.{fits, place_of}
use Rattle.tc_block.specs.Turn.{Turn, asking, at_phase, going}
use Rattle.tc_block.specs.declared.phase.Phase.{Phase}
use Rattle.tc_block.specs.declared.phase.Phase.TheVariants.{Open, Verifying, Committing, Completing, Aborting}
use Rattle.tc_block.specs.declared.touched.Touched.{Touched}
use Rattle.tc_block.specs.declared.transaction.Transaction.{Transaction}
use Rattle.tc_block.proofs.EachTurn.{AbortForms, CommittedForms, TurnFormsAt, may_ask, ready_is}
use Rattle.tc_views.specs.State.{CoordinatorState}
use Rattle.host_laws.proofs.rows.Operations.{left_of}
use Rattle.request_laws.specs.Drives.{is_commit, is_request}
use Rattle.request_laws.specs.Routes.{HasRoutes, HasRoutesIn, IsAskedRouted, IsRouted, IsSentRouted, IsTouchedRouted}
use Rattle.request_laws.specs.Ways.{is_sent}
use Rattle.request_laws.proofs.routes.Sends.{IsMade, Needs, Nobody, answered_routed, commits_sent, going_unasked}
use Rattle.request_laws.proofs.routes.Sends.{none_asked, none_driven, part_sent, phase_sent, rechained_routed}
use Rattle.request_laws.proofs.routes.Sends.{touched_routed}
use Rattle.request_laws.proofs.routes.Takeovers.{ChainsAreSome}

-- who is aborted is given up, and who is decided isn't
pub record IsGiven (G : TxId → Type 0) (tx : TxId) (phase : Phase) : Type 0 where
  pub aborting : is_aborting phase ≡ true → G tx
  pub decided : is_decided phase ≡ true → G tx → ⊥

-- behind a step a transaction is asked for, or driven, where it was so before it, or where the step sends that
pub record Renews (A0 D0 A D : TxId → Type 0) (tx : TxId) (sends : List Outgoing) : Type 0 where
  pub asked : A tx → A0 tx ⊎ (is_sent (is_request tx) sends ≡ true)
  pub driven : D tx → D0 tx ⊎ (is_sent (is_commit tx) sends ≡ true)

-- and what is so stays so
pub record Grows (A0 D0 G0 A D G : TxId → Type 0) : Type 0 where
  pub asked : (tx : TxId) → A0 tx → A tx
  pub driven : (tx : TxId) → D0 tx → D tx
  pub given : (tx : TxId) → G0 tx → G tx

-- so it is with what a turn sends and leaves
pub record MakesTurn (A0 D0 A D G : TxId → Type 0) (tx : TxId) (turn : Turn) : Type 0 where
  pub sends : Each (λ (sent : Outgoing). IsMade A D sent.body) turn.step.effects.sends
  pub given : turn.over ≡ false → IsGiven G tx turn.step.state.phase
  pub renews : Renews A0 D0 A D tx turn.step.effects.sends

-- an operation is unanswered only where the transaction takes operations or is aborted
abbrev pub IsAnsweredIn : Transaction → Type 0
IsAnsweredIn t = may_ask t.phase ≡ false → t.asked ≡ None

-- what isn't so by what is sent was so
pub was_so : {P : Type 0} (b : Bool) → b ≡ false → P ⊎ (b ≡ true) → P
was_so b none (inl was) = was
was_so b none (inr is) = absurd (true≢false (sym is ∙ none))

-- an entry that stays has its routes, where nothing is asked for, or driven, anew
pub has_stays : (layout : Layout) (A0 D0 G0 A D G : TxId → Type 0) (s : CoordinatorState) (tx : TxId) (t : Transaction)
    (phase : Phase) → (A tx → A0 tx) → (D tx → D0 tx) → IsGiven G tx phase
    → HasRoutesIn layout A0 D0 G0 s tx t phase → HasRoutesIn layout A D G s tx t phase
has_stays layout A0 D0 G0 A D G s tx t phase asked driven given has = by phase given has
  where
    before : (t.asked ≡ None) ⊎ A tx → (t.asked ≡ None) ⊎ A0 tx
    before (inl none) = inl none
    before (inr on) = inr (asked on)

    by : (phase : Phase) → IsGiven G tx phase → HasRoutesIn layout A0 D0 G0 s tx t phase
        → HasRoutesIn layout A D G s tx t phase
    by Open given has = λ spared on. has spared (before on)
    by Verifying given has = λ spared on. has spared (before on)
    by (Committing epoch awaited) given has = (λ on. has.0 (driven on), given.decided refl)
    by (Completing epoch awaited) given has = (λ on. has.0 (driven on), given.decided refl)
    by (Aborting why verifying awaited) given has = given.aborting refl

module _ (layout : Layout) (A D G : TxId → Type 0) (some : ChainsAreSome layout) where
  abbrev IsSent : Outgoing → Type 0
  IsSent sent = IsSentRouted layout A D G sent

  abbrev AreSent : List Outgoing → Type 0
  AreSent sends = Each (IsSentRouted layout A D G) sends

  abbrev AreKeys : List Touched → Type 0
  AreKeys touched = Each (IsTouchedRouted layout) touched

  module _ (A0 D0 G0 : TxId → Type 0) (grows : Grows A0 D0 G0 A D G) (s : CoordinatorState) (tx : TxId) where
    -- the routes of its entry before the step, and behind it
    abbrev Had : Transaction → Type 0
    Had t = HasRoutesIn layout A0 D0 G0 s tx t t.phase

    abbrev Has : Transaction → Type 0
    Has t = HasRoutesIn layout A D G s tx t t.phase

    -- what a turn leaves, unless the transaction is over, and sends
    pub record TurnRoutes (turn : Turn) : Type 0 where
      pub has : turn.over ≡ false → Has turn.step.state
      pub sends : AreSent turn.step.effects.sends

    -- a turn that sends its own
    abbrev pub Makes : Turn → Type 0
    Makes turn = MakesTurn A0 D0 A D G tx turn

    abbrev pub Routes : Turn → Type 0
    Routes turn = Makes turn → TurnRoutes turn

    -- the same in another phase or with another unanswered operation
    in_phase : (t : Transaction) (phase : Phase) → t.phase ≡ phase → Had t → HasRoutesIn layout A0 D0 G0 s tx t phase
    in_phase t phase at has = subst (HasRoutesIn layout A0 D0 G0 s tx t) at has

    to_phase : (t : Transaction) (phase : Phase) → t.phase ≡ phase → HasRoutesIn layout A D G s tx t phase → Has t
    to_phase t phase at has = subst (HasRoutesIn layout A D G s tx t) (sym at) has

    -- an entry that stays, by a turn that sends nothing of this
    stays_as : (t : Transaction) (sends : List Outgoing) → Renews A0 D0 A D tx sends
        → is_sent (is_request tx) sends ≡ false → is_sent (is_commit tx) sends ≡ false → IsGiven G tx t.phase → Had t
        → Has t
    stays_as t sends renews unasked undriven given has =
        has_stays layout A0 D0 G0 A D G s tx t t.phase
        (λ on. was_so (is_sent (is_request tx) sends) unasked (renews.asked on))
        (λ on. was_so (is_sent (is_commit tx) sends) undriven (renews.driven on)) given has

    now : D0 tx ⊎ G0 tx → D tx ⊎ G tx
    now (inl driven) = inl (grows.driven tx driven)
    now (inr given) = inr (grows.given tx given)

    same_routes : (t w : Transaction) → w.touched ≡ t.touched → w.asked ≡ t.asked → HasRoutes layout t
        → HasRoutes layout w
    same_routes t w touched asked has = record {
      touched = subst AreKeys (sym touched) has.touched;
      asked = subst (IsAskedRouted layout) (sym asked) has.asked;
    }

    enters_aborting : (node : ℕ) (t : Transaction) (why : AbortCause) (verifying : Bool) (awaited : ℕ)
        → Routes (record { step = entering node layout tx t (Aborting why verifying awaited); over = false })
    unfolding entering
    enters_aborting node t why verifying awaited makes =
        let given : G tx = (makes.given refl).aborting refl in
        record {
          has = λ on. given;
          sends =
              part_sent layout A D G some tx node (phase_sends layout tx (Aborting why verifying awaited) t.touched) 0
              (inr given)
              (phase_sent layout A D G some tx (Aborting why verifying awaited) t.touched tt);
        }

    enters_committing : (node : ℕ) (t : Transaction) (epoch awaited : ℕ) → (D tx → HasRoutes layout t)
        → Routes (record { step = entering node layout tx t (Committing epoch awaited); over = false })
    unfolding entering
    enters_committing node t epoch awaited routes makes = record {
      has = λ on. (
        λ driven. same_routes t (at_phase t (Committing epoch awaited)) refl refl (routes driven),
        (makes.given refl).decided refl,
      );
      sends = commits_sent layout A D G some tx node epoch awaited t.touched (λ driven. (routes driven).touched)
          makes.sends;
    }

    enters_completing : (node : ℕ) (t : Transaction) (epoch awaited : ℕ) → D tx → (D tx → HasRoutes layout t)
        → Routes (record { step = entering node layout tx t (Completing epoch awaited); over = false })
    unfolding entering
    enters_completing node t epoch awaited driven routes makes = record {
      has = λ on. (
        λ driven. same_routes t (at_phase t (Completing epoch awaited)) refl refl (routes driven),
        (makes.given refl).decided refl,
      );
      sends =
          part_sent layout A D G some tx node (phase_sends layout tx (Completing epoch awaited) t.touched) 0
          (inl driven)
          (phase_sent layout A D G some tx (Completing epoch awaited) t.touched (driven, (routes driven).touched));
    }

    end_sent : (node : ℕ) (why : AbortCause) (b : Bool) → AreSent (abort_end node tx why b)
    end_sent node why true = (tt, (tt, tt))
    end_sent node why false = (tt, tt)

    -- the transaction is over
    over_now : {P : Type 0} → true ≡ false → P
    over_now e = absurd (true≢false e)

    aborts : (node : ℕ) (t : Transaction) (why : AbortCause) → AbortForms node layout tx t why Routes
    aborts node t why = record {
      enters = λ awaited. enters_aborting node t _ _ _;
      ends = λ none makes. record { has = over_now; sends = end_sent node why (is_verifying t.phase) };
    }

    all_committed : (node : ℕ) (t : Transaction) (epoch : ℕ) → D tx → (D tx → HasRoutes layout t)
        → CommittedForms node layout tx t epoch Routes
    all_committed node t epoch driven routes = record {
      enters = λ left. enters_completing node t epoch _ driven routes;
      ends = λ none makes. record { has = over_now; sends = (tt, (tt, tt)) };
    }

    -- where nothing was touched nothing was written
    commits_nothing : (node : ℕ) (t : Transaction) (epoch : ℕ) (touched : List Touched) → t.touched ≡ touched
        → (length touched == 0) ≡ true → CommittedForms node layout tx t epoch Routes
    commits_nothing node t epoch [] is none = record {
      enters = λ left. over_now (sym (ap (λ ts. written_count ts == 0) is) ∙ left);
      ends = λ none makes. record { has = over_now; sends = (tt, (tt, tt)) };
    }
    commits_nothing node t epoch (one ∷ touched) is none =
        absurd (omega (arith, eqb-true (length (one ∷ touched)) 0 none))

    -- it goes on with what it sends in its phase
    on_sent : (node : ℕ) (t : Transaction) (at : ℕ) → Had t → D0 tx ⊎ G0 tx
        → AreSent (part_effects node tx (phase_sends layout tx t.phase t.touched) at).sends
    on_sent node t at has own =
        part_sent layout A D G some tx node (phase_sends layout tx t.phase t.touched) at (now own)
        (phase_sent layout A D G some tx t.phase t.touched (by t.phase has own))
      where
        by : (phase : Phase) → HasRoutesIn layout A0 D0 G0 s tx t phase → D0 tx ⊎ G0 tx
            → Needs layout A D G some tx phase t.touched
        by Open has own = tt
        by Verifying has own = tt
        by (Committing epoch awaited) has (inl driven) = (grows.driven tx driven, (has.0 driven).touched)
        by (Committing epoch awaited) has (inr given) = absurd (has.1 given)
        by (Completing epoch awaited) has (inl driven) = (grows.driven tx driven, (has.0 driven).touched)
        by (Completing epoch awaited) has (inr given) = absurd (has.1 given)
        by (Aborting why verifying awaited) has own = tt

    on_has : (node : ℕ) (t : Transaction) (at : ℕ) → Had t → D0 tx ⊎ G0 tx
        → Makes (going (go_on_if node layout tx t at true)) → Has t
    on_has node t at has own makes = by t.phase refl own has
      where
        unasked : is_undecided t.phase ≡ true → A tx → A0 tx
        unasked undecided on =
            was_so (is_sent (is_request tx) (part_effects node tx (phase_sends layout tx t.phase t.touched) at).sends)
            (going_unasked layout some node tx t.touched at t.phase undecided) (makes.renews.asked on)

        before : is_undecided t.phase ≡ true → (t.asked ≡ None) ⊎ A tx → (t.asked ≡ None) ⊎ A0 tx
        before undecided (inl none) = inl none
        before undecided (inr on) = inr (unasked undecided on)

        decided : (D0 tx → HasRoutes layout t) × (G0 tx → ⊥) → D0 tx ⊎ G0 tx → HasRoutes layout t
        decided has (inl driven) = has.0 driven
        decided has (inr given) = absurd (has.1 given)

        by : (phase : Phase) → t.phase ≡ phase → D0 tx ⊎ G0 tx → Had t → Has t
        by Open at own has = to_phase t Open at (λ spared on.
            in_phase t Open at has spared (before (ap is_undecided at) on))
        by Verifying at own has = to_phase t Verifying at (λ spared on.
            in_phase t Verifying at has spared (before (ap is_undecided at) on))
        by (Committing epoch awaited) at own has = to_phase t (Committing epoch awaited) at (
          λ on. decided (in_phase t (Committing epoch awaited) at has) own,
          (makes.given refl).decided (ap is_decided at),
        )
        by (Completing epoch awaited) at own has = to_phase t (Completing epoch awaited) at (
          λ on. decided (in_phase t (Completing epoch awaited) at has) own,
          (makes.given refl).decided (ap is_decided at),
        )
        by (Aborting why verifying awaited) at own has =
            to_phase t (Aborting why verifying awaited) at ((makes.given refl).aborting (ap is_aborting at))

    operates : (t : Transaction) (op : Op) → Had t → can_operate t op ≡ true
        → Routes (record { step = operating tx t op (chain_of layout (key_of op)); over = false })
    operates t op has can makes =
        let is = ready_is t.phase t.asked (left_of (is_ready t.phase t.asked) (fits t.touched (key_of op)) can) in
        record {
          has = λ on. to_phase (operating tx t op (chain_of layout (key_of op))).state Open is.0 (λ spared asked.
              let routes = in_phase t Open is.0 has spared (inl is.1) in
              record {
                touched = touched_routed layout A D G some t.touched (key_of op) (place_of t.touched (key_of op))
                    routes.touched;
                asked = refl;
              });
          sends = (
            (record { chain = refl; inside = some (key_of op); place = refl; work = refl }, makes.sends.0),
            tt,
          );
        }

    module _ (node : ℕ) (to : Place) (body : Body) (t : Transaction) (has : Had t) (answered : IsAnsweredIn t)
        (is : IsRouted layout A0 D0 G0 to body)
        (spared : (epoch : ℕ) → body ≡ Epoch (DiVerifyConf tx epoch) → is_among s.doomed tx ≡ false) where
      -- it does nothing
      rests : Routes (going (stay t))
      rests makes = record { has = λ on. stays_as t [] makes.renews refl refl (makes.given refl) has; sends = tt }

      routed_as : (b : Body) → body ≡ b → IsRouted layout A0 D0 G0 to b
      routed_as b same = subst (IsRouted layout A0 D0 G0 to) same is

      -- one that verifies and is spared has its routes
      verifying_routes : (epoch : ℕ) → body ≡ Epoch (DiVerifyConf tx epoch) → t.phase ≡ Verifying
          → HasRoutes layout t
      verifying_routes epoch same at =
          in_phase t Verifying at has (spared epoch same) (inl (answered (ap may_ask at)))

      decided_routes : (epoch awaited : ℕ) → t.phase ≡ Committing epoch awaited → D0 tx → HasRoutes layout t
      decided_routes epoch awaited at driven = (in_phase t (Committing epoch awaited) at has).0 driven

      pub turn_forms : TurnFormsAt node layout tx t body Routes
      turn_forms = record {
        stays = λ other missed. rests;
        stops = λ at same high. rests;
        goes_on = λ at same low makes. record {
          has = λ on. on_has node t at has (routed_as _ same) makes;
          sends = on_sent node t at has (routed_as _ same);
        };
        operates = λ op same can. operates t op has can;
        answers = λ key answer asked same own at makes. record {
          has = λ on. to_phase (answered_as t asked answer) Open at (λ spared none.
              let routes = in_phase t Open at has spared (inr (routed_as _ same).1) in
              record {
                touched =
                    answered_routed layout A D G some t.touched answer asked.op asked.chain
                    (subst (IsAskedRouted layout) own.is routes.asked) routes.touched;
                asked = tt;
              });
          sends = (tt, tt);
        };
        late = λ key asked why verifying awaited same own at makes. record {
          has = λ on. to_phase (asking t None) (Aborting why verifying awaited) at
              ((makes.given refl).aborting (ap is_aborting at));
          sends = each_mapped IsSent (abort_of tx key) (chain_of layout key) (λ r. refl);
        };
        waits = λ asked same own makes. record {
          has = λ on.
              stays_as t (waits_of tx (key_of asked.op) asked.chain) makes.renews
              (none_asked layout G tx D _
              (each_mapped (IsSentRouted layout Nobody D G) (wait_of tx (key_of asked.op)) asked.chain (λ r. tt)))
              (none_driven layout G tx A _
              (each_mapped (IsSentRouted layout A Nobody G) (wait_of tx (key_of asked.op)) asked.chain (λ r. tt)))
              (makes.given refl) has;
          sends = each_mapped IsSent (wait_of tx (key_of asked.op)) asked.chain (λ r. tt);
        };
        decides = λ same ready makes.
            let at = ready_is t.phase t.asked ready in
            record {
              has = λ on spared none.
                  same_routes t (at_phase t Verifying) refl refl
                  (in_phase t Open at.0 has spared (inl at.1));
              sends = (tt, tt);
            };
        commits = λ epoch same at some. enters_committing node t epoch _ (λ driven. verifying_routes epoch same at);
        commits_none = λ epoch same at none. commits_nothing node t epoch t.touched refl none;
        committed = λ key epoch awaited same at more makes. record {
          has = λ on. (
            λ driven. same_routes t _ refl refl (decided_routes epoch awaited at (routed_as _ same).1),
            (makes.given refl).decided refl,
          );
          sends = tt;
        };
        committed_all = λ key epoch awaited same at last.
            let driven = (routed_as _ same).1 in
            all_committed node t epoch (grows.driven tx driven) (λ on. decided_routes epoch awaited at driven);
        completed = λ key epoch awaited same at more makes. record {
          has = λ on. (
            λ driven.
                same_routes t _ refl refl ((in_phase t (Completing epoch awaited) at has).0 (routed_as _ same).1),
            (makes.given refl).decided refl,
          );
          sends = tt;
        };
        completed_all = λ key epoch awaited same at last makes. record { has = over_now; sends = (tt, tt) };
        rolls_back = λ same undecided unaborted. aborts node t _;
        refuses = λ key why asked same own at. aborts node (asking t None) why;
        aborted = λ key why verifying awaited same at more makes. record {
          has = λ on. (makes.given refl).aborting refl;
          sends = tt;
        };
        aborted_all = λ key why verifying awaited same at last makes. record {
          has = over_now;
          sends = end_sent node why verifying;
        };
      }

    -- for what an installation left
    pub resume_forms : (node : ℕ) (t : Transaction) → Had t → IsAnsweredIn t → ResumeForms node layout tx t Routes
    resume_forms node t has answered = record {
      stays = λ makes. record {
        has = λ on. stays_as t [] makes.renews refl refl (makes.given refl) has;
        sends = tt;
      };
      fails = λ number undecided. aborts node (asking t None) _;
      anew = λ why verifying awaited at b. anew why verifying b;
      recommits = λ epoch awaited at. redrives epoch (answered (ap may_ask at));
      recompletes = λ epoch awaited at. redrives epoch (answered (ap may_ask at));
    }
      where
        anew : (why : AbortCause) (verifying b : Bool)
            → Routes (anew_if node layout tx (asking t None) why verifying b)
        anew why verifying true makes = record { has = over_now; sends = end_sent node why verifying }
        anew why verifying false makes = enters_aborting node (asking t None) _ _ _ makes

        redrives : (epoch : ℕ) → t.asked ≡ None
            → Routes (record { step = redriven node layout tx t epoch; over = false })
        redrives epoch none =
            enters_committing node (record t { touched = map (rechained layout) t.touched }) epoch _
            (λ driven. record {
              touched = rechained_routed layout A D G some t.touched;
              asked = subst (IsAskedRouted layout) (sym none) tt;
            })
