-- What a step of a coordinator leaves at rest: no answer of an operation comes in it, so whoever is undecided and has
-- none unanswered was so before, with the same keys, or has begun and has none.
use Rattle.std.proofs.Common.{◌≡◌, ◌⊎◌, ◌∙◌, ℕ, Bool, true, false, List, [], ◌∷◌, ◌++◌, refl, sym, ap, subst, inl, inr}
use Rattle.std.specs.Prelude.{if◌then◌else◌, None}
use Rattle.indexmap.specs.IndexMap.{insert_entry}
use Rattle.run_theory.specs.Lists.{Each, IsIn}
use Rattle.run_theory.proofs.Pasts.{each_after, each_append, each_before, each_from}
use Rattle.frag_map.specs.Layout.{Layout}
use Rattle.sig_core.specs.declared.member.TxId.{TxId}
use Rattle.sig_core.specs.declared.op.Answer.{Answer}
use Rattle.sig_core.specs.declared.outcome.AbortCause.{AbortCause}
use Rattle.sig_core.specs.declared.signal.Body.{Body}
use Rattle.sig_core.specs.declared.signal.Body.TheVariants.{Chain}
use Rattle.sig_core.specs.declared.signal.chain.ChainSignal.TheVariants.{LqhKeyConf}
use Rattle.sig_core.specs.declared.signal.Signal.{Signal}
use Rattle.sig_core.specs.Same.{same_tx}
use Rattle.tc_block.proofs.EachResume.{ResumeForms}
use Rattle.tc_block.specs.declared.phase.Phase.{Phase}
use Rattle.tc_block.specs.declared.transaction.Transaction.{Transaction}
use Rattle.tc_block.specs.Doom.{is_undecided}
use Rattle.tc_block.specs.Live.{turned, turned_if, without}
use Rattle.tc_block.specs.Operate.{fresh}
use Rattle.tc_block.specs.Resume.{anew_if}
use Rattle.tc_block.specs.Sends.{entering}
use Rattle.tc_block.specs.State.{TcState}
use Rattle.tc_block.specs.Tc.{next_tx}
use Rattle.tc_block.specs.Turn.{Turn, asking}
use Rattle.tc_block.proofs.EachTurn.{AbortForms, CommittedForms, TurnForms, ready_is, rows_of}
use Rattle.tc_block.proofs.LiveSplit.{Live, Split}
use Rattle.tc_views.proofs.Walk.{coordinator_outcomes}
use Rattle.tc_views.specs.Coordinator.{coordinator_row}
use Rattle.tc_views.specs.State.{CoordinatorState}

-- undecided, with no operation unanswered
abbrev pub IsAtRest : Transaction → Type 0
IsAtRest t = (is_undecided t.phase ≡ true) × (t.asked ≡ None)

-- a transaction that was so already, with the same keys
pub record WasAtRest (live : Live) (e : TxId × Transaction) : Type 0 where
  pub before : Transaction
  pub there : IsIn (e.0, before) live
  pub rested : IsAtRest before
  pub same : e.1.touched ≡ before.touched

abbrev pub HasRested : Live → TxId × Transaction → Type 0
HasRested live e = IsAtRest e.1 → (e.1.touched ≡ []) ⊎ WasAtRest live e

-- no operation is answered
abbrev pub IsNoAnswer : Body → Type 0
IsNoAnswer body = (tx : TxId) (key : List ℕ) (answer : Answer) → body ≡ Chain (LqhKeyConf tx key answer) → ⊥

-- a turn that doesn't end a transaction and leaves it at rest has found it so, with the same keys
abbrev Leaves : Transaction → Turn → Type 0
Leaves t turn =
    turn.over ≡ false → IsAtRest turn.step.state → IsAtRest t × (turn.step.state.touched ≡ t.touched)

clash : (phase other : Phase) → phase ≡ other → is_undecided other ≡ false → is_undecided phase ≡ true → ⊥
clash phase other at off is = let both : true ≡ false = sym is ∙ ap is_undecided at ∙ off in cc

module _ (node : ℕ) (layout : Layout) (tx : TxId) where
  committed_leaves : (t : Transaction) (epoch : ℕ) → CommittedForms node layout tx t epoch (λ turn. Leaves t turn)
  unfolding entering
  committed_leaves t epoch = record { enters = λ some going rests. absurd cc; ends = λ none going. absurd cc }

  abort_leaves : (t u : Transaction) (why : AbortCause) → AbortForms node layout tx u why (λ turn. Leaves t turn)
  unfolding entering
  abort_leaves t u why = record { enters = λ some going rests. absurd cc; ends = λ none going. absurd cc }

  turn_leaves : (t : Transaction) (body : Body) → IsNoAnswer body
      → TurnForms node layout tx t body (λ turn. Leaves t turn)
  unfolding entering
  turn_leaves t body none = record {
    stays = λ going rests. (rests, refl);
    goes_on = λ at going rests. (rests, refl);
    operates = λ op is can going rests. absurd cc;
    answers = λ key answer asked is on at. absurd (none tx key answer is);
    late = λ key asked why verifying awaited on at going rests. absurd (clash t.phase _ at refl rests.0);
    waits = λ asked on going rests. (rests, refl);
    decides = λ is ready going rests.
        let was = ready_is t.phase t.asked ready in ((ap is_undecided was.0, was.1), refl);
    commits = λ epoch is at some going rests. absurd cc;
    commits_none = λ epoch is at. committed_leaves t epoch;
    committed = λ epoch awaited at more going rests. absurd cc;
    committed_all = λ epoch awaited at. committed_leaves t epoch;
    completed = λ epoch awaited at more going rests. absurd cc;
    completed_all = λ epoch awaited at last going. absurd cc;
    rolls_back = λ is undecided unaborted. abort_leaves t t _;
    refuses = λ key why asked is on at. abort_leaves t (asking t None) why;
    aborted = λ why verifying awaited at more going rests. absurd cc;
    aborted_all = λ why verifying awaited at last going. absurd cc;
  }

  resume_leaves : (t : Transaction) → ResumeForms node layout tx t (λ turn. Leaves t turn)
  unfolding entering
  resume_leaves t = record {
    stays = λ going rests. (rests, refl);
    fails = λ number is. abort_leaves t (asking t None) _;
    anew = λ why verifying awaited at b. anew why verifying b;
    recommits = λ epoch awaited at going rests. absurd cc;
    recompletes = λ epoch awaited at going rests. absurd cc;
  }
    where
      anew : (why : AbortCause) (verifying b : Bool)
          → Leaves t (anew_if node layout tx (asking t None) why verifying b)
      anew why verifying true going rests = absurd cc
      anew why verifying false going rests = absurd cc

-- all that stays as it was
self_rested : (live : Live) → Each (HasRested live) live
self_rested live =
    each_from (HasRested live) live
    (λ e there rests. inr (record { before = e.1; there = there; rested = rests; same = refl }))

module _ (s : TcState) where
  abbrev Rested : TcState → Type 0
  Rested t = Each (HasRested s.live) t.live

  turned_rested : (tx : TxId) (t : Transaction) (at : ℕ) → Split tx t s.live at → (turn : Turn) → Leaves t turn
      → Rested (turned s at turn).state
  unfolding without
  turned_rested tx t at split turn leaves = by turn.over refl
    where
      whole : Each (HasRested s.live) (split.front ++ (tx, t) ∷ split.back)
      whole = subst (Each (HasRested s.live)) split.is (self_rested s.live)

      front : Each (HasRested s.live) split.front
      front = each_before (HasRested s.live) split.front ((tx, t) ∷ split.back) whole

      rest : Each (HasRested s.live) ((tx, t) ∷ split.back)
      rest = each_after (HasRested s.live) split.front ((tx, t) ∷ split.back) whole

      own : turn.over ≡ false → HasRested s.live (tx, turn.step.state)
      own going rests = let were = leaves going rests in by (rest.0 were.0) were.1
        where
          by : (t.touched ≡ []) ⊎ WasAtRest s.live (tx, t) → turn.step.state.touched ≡ t.touched
              → (turn.step.state.touched ≡ []) ⊎ WasAtRest s.live (tx, turn.step.state)
          by (inl none) same = inl (same ∙ none)
          by (inr was) same =
              inr (record { before = was.before; there = was.there; rested = was.rested; same = same ∙ was.same })

      by : (b : Bool) → turn.over ≡ b → Rested (turned_if s at turn b).state
      by true is =
          subst (Each (HasRested s.live)) (sym split.gone)
          (each_append (HasRested s.live) split.front split.back front rest.1)
      by false is =
          subst (Each (HasRested s.live)) (sym (split.set turn.step.state))
          (each_append (HasRested s.live) split.front ((tx, turn.step.state) ∷ split.back) front (own is, rest.1))

-- a transaction that begins has no keys
begun_rested : (old live : Live) (tx : TxId) → Each (HasRested old) live
    → Each (HasRested old) (insert_entry same_tx live tx fresh)
begun_rested old [] tx all = (λ rests. inl refl, tt)
begun_rested old (e ∷ es) tx all = by (same_tx tx e.0) (begun_rested old es tx all.1)
  where
    by : (b : Bool) → Each (HasRested old) (insert_entry same_tx es tx fresh)
        → Each (HasRested old) (if b then (e.0, fresh) ∷ es else e ∷ insert_entry same_tx es tx fresh)
    by true more = (λ rests. inl refl, all.1)
    by false more = (all.0, more)

pub row_rested : (s : CoordinatorState) (x : Signal) → IsNoAnswer x.body
    → Each (HasRested s.tc.live) (coordinator_row s x).state.tc.live
row_rested s x none =
    coordinator_outcomes (λ tx t turn. Leaves t turn) (λ step. Rested s.tc step.state) s x (record {
      calm = record {
        turns = λ tx t at split.
            rows_of s.tc.node s.tc.layout tx t x.body (λ turn. Leaves t turn)
            (turn_leaves s.tc.node s.tc.layout tx t x.body none);
        turned = λ tx t at split turn leaves. turned_rested s.tc tx t at split turn leaves;
        stays = self_rested s.tc.live;
        full = λ name. self_rested s.tc.live;
        begins = λ name. begun_rested s.tc.live s.tc.live (next_tx s.tc) (self_rested s.tc.live);
        passes = λ tx ahead. self_rested s.tc.live;
      };
      resumes = λ tx t at split. resume_leaves s.tc.node s.tc.layout tx t;
      promises = self_rested s.tc.live;
      goes_on = λ step node b rested. rested;
    })
