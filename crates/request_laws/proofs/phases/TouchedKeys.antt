-- Each transaction of a coordinator has touched its keys rightly, whatever the coordinator takes, under views too.
use Rattle.std.proofs.Common.{◌≡◌, ◌∙◌, ◌||◌, ℕ, Bool, true, false, List, [], ◌∷◌, ◌++◌, map, refl, sym, ap, subst}
use Rattle.std.specs.List.{list_any}
use Rattle.std.specs.Prelude.{Option, None, Some}
use Rattle.run_theory.specs.Lists.{Each}
use Rattle.run_theory.proofs.Pasts.{each_after, each_append, each_before, each_map}
use Rattle.sig_core.specs.declared.member.Member.{Member}
use Rattle.sig_core.specs.declared.member.TxId.{TxId}
use Rattle.sig_core.specs.declared.op.Answer.{Answer}
use Rattle.sig_core.specs.declared.op.Op.{Op}
use Rattle.sig_core.specs.declared.outcome.AbortCause.{AbortCause}
use Rattle.sig_core.specs.declared.signal.Body.{Body}
use Rattle.sig_core.specs.declared.signal.Signal.{Signal}
use Rattle.sig_core.specs.declared.view.View.{View}
use Rattle.sig_core.specs.Op.{key_of}
use Rattle.sig_core.specs.Same.{same_key}
use Rattle.frag_map.specs.Layout.{Layout}
use Rattle.tc_block.proofs.EachResume.{ResumeForms}
use Rattle.tc_block.specs.declared.phase.Asked.{Asked}
use Rattle.tc_block.specs.declared.phase.Phase.{Phase}
use Rattle.tc_block.specs.declared.touched.Touched.{Touched}
use Rattle.tc_block.specs.declared.transaction.Transaction.{Transaction}
use Rattle.tc_block.specs.Live.{turned, turned_if, without}
use Rattle.tc_block.specs.Operate.{fresh}
use Rattle.tc_block.specs.Resume.{anew_if, rechained, rechained_if}
use Rattle.tc_block.specs.Sends.{entering}
use Rattle.tc_block.specs.State.{TcState}
use Rattle.tc_block.specs.Tc.{next_tx}
use Rattle.tc_block.specs.Touched.{is_on}
use Rattle.tc_block.specs.Turn.{Turn, asking, at_phase}
use Rattle.tc_block.proofs.EachTurn.{TurnForms, rows_of}
use Rattle.tc_block.proofs.LiveKeeps.{turn_keeps}
use Rattle.tc_block.proofs.LiveSplit.{Split, each_inserted}
use Rattle.tc_views.proofs.Walk.{coordinator_outcomes}
use Rattle.tc_views.specs.Coordinator.{coordinator_row}
use Rattle.tc_views.specs.State.{CoordinatorState}
use Rattle.tc_views.specs.Views.{install_row}
use Rattle.run_laws.specs.Keyed.{AreApart, HasTouched, HasTouchedAsked, IsTouchedRightly, IsWrittenRightly}
use Rattle.run_laws.proofs.tokens.TouchedLists.{any_done}
use Rattle.run_laws.proofs.hosts.Keyed.{AnySend, operated_keyed, turns_keyed}
use Rattle.outcome_laws.specs.Counts.{IsCoordinatorOf}
use Rattle.outcome_laws.proofs.coordinators.Lists.{next_is_other}

abbrev pub IsKeyed : TxId × Transaction → Type 0
IsKeyed e = IsTouchedRightly e.1

-- keys that are chained anew
module _ (layout : Layout) where
  key_stays : (t : Touched) → (rechained layout t).key ≡ t.key
  unfolding rechained
  key_stays t = by t.written
    where
      by : (b : Bool) → (rechained_if t b layout).key ≡ t.key
      by true = refl
      by false = refl

  written_stays : (t : Touched) → (rechained layout t).written ≡ t.written
  unfolding rechained
  written_stays t = by t.written
    where
      by : (b : Bool) → (rechained_if t b layout).written ≡ b
      by true = refl
      by false = refl

  abbrev anew : List Touched → List Touched
  anew touched = map (rechained layout) touched

  each_anew : (P : Touched → Type 0) → ((t : Touched) → P t → P (rechained layout t)) → (touched : List Touched)
      → Each P touched → Each P (anew touched)
  each_anew P keeps [] all = tt
  each_anew P keeps (t ∷ touched) all = (keeps t all.0, each_anew P keeps touched all.1)

  apart_anew : (touched : List Touched) → AreApart touched → AreApart (anew touched)
  apart_anew [] apart = tt
  apart_anew (t ∷ touched) apart = (
    each_anew (λ (u : Touched). same_key u.key (rechained layout t).key ≡ false)
        (λ u off. ap (λ k. same_key k (rechained layout t).key) (key_stays u) ∙ off) touched
        (each_map (λ (u : Touched). same_key u.key t.key ≡ false)
        (λ (u : Touched). same_key u.key (rechained layout t).key ≡ false) touched
        (λ u off. ap (same_key u.key) (key_stays t) ∙ off) apart.0),
    apart_anew touched apart.1,
  )

  any_anew : (key : List ℕ) (touched : List Touched)
      → list_any (is_on key) (anew touched) ≡ list_any (is_on key) touched
  any_anew key [] = refl
  any_anew key (t ∷ touched) =
      ap (λ k. same_key k key || list_any (is_on key) (anew touched)) (key_stays t)
      ∙ ap (λ b. same_key t.key key || b) (any_anew key touched)

  asked_anew : (touched : List Touched) (asked : Option Asked) → HasTouchedAsked touched asked
      → HasTouchedAsked (anew touched) asked
  asked_anew touched None has = tt
  asked_anew touched (Some asked) has = any_anew (key_of asked.op) touched ∙ has

  written_anew : (ops : List (Op × Answer)) (t : Touched) → IsWrittenRightly ops t
      → IsWrittenRightly ops (rechained layout t)
  written_anew ops t right =
      written_stays t ∙ subst (λ k. t.written ≡ any_done k ops) (sym (key_stays t)) right

  rechained_keyed : (t : Transaction) → IsTouchedRightly t → IsTouchedRightly (record t { touched = anew t.touched })
  rechained_keyed t fine = record {
    apart = apart_anew t.touched fine.apart;
    answered =
        each_map (λ (op : Op × Answer). HasTouched t.touched (key_of op.0)) _ t.ops
        (λ op has. any_anew (key_of op.0) t.touched ∙ has) fine.answered;
    asked = asked_anew t.touched t.asked fine.asked;
    written = each_anew (IsWrittenRightly t.ops) (written_anew t.ops) t.touched fine.written;
  }

at_phase_keyed : (t : Transaction) (phase : Phase) → IsTouchedRightly t → IsTouchedRightly (at_phase t phase)
at_phase_keyed t phase fine =
    record { apart = fine.apart; answered = fine.answered; asked = fine.asked; written = fine.written }

unasked_keyed : (t : Transaction) → IsTouchedRightly t → IsTouchedRightly (asking t None)
unasked_keyed t fine =
    record { apart = fine.apart; answered = fine.answered; asked = tt; written = fine.written }

-- so it is with what an installation left to do
resume_keyed : (node : ℕ) (layout : Layout) (tx : TxId) (t : Transaction) → IsTouchedRightly t
    → ResumeForms node layout tx t (λ turn. IsTouchedRightly turn.step.state)
unfolding entering
resume_keyed node layout tx t fine = record {
  stays = fine;
  fails = λ number is. record {
    enters = λ some. at_phase_keyed (asking t None) _ (unasked_keyed t fine);
    ends = λ none. unasked_keyed t fine;
  };
  anew = λ why verifying awaited at b. begun_anew why verifying b;
  recommits = λ epoch awaited at. at_phase_keyed _ _ (rechained_keyed layout t fine);
  recompletes = λ epoch awaited at. at_phase_keyed _ _ (rechained_keyed layout t fine);
}
  where
    begun_anew : (why : AbortCause) (verifying b : Bool)
        → IsTouchedRightly (anew_if node layout tx (asking t None) why verifying b).step.state
    begun_anew why verifying true = unasked_keyed t fine
    begun_anew why verifying false = at_phase_keyed (asking t None) _ (unasked_keyed t fine)

module _ (s : TcState) (all : Each IsKeyed s.live) where
  all_split : (tx : TxId) (t : Transaction) (at : ℕ) (split : Split tx t s.live at)
      → Each IsKeyed (split.front ++ (tx, t) ∷ split.back)
  all_split tx t at split = subst (Each IsKeyed) split.is all

  own : (tx : TxId) (t : Transaction) (at : ℕ) → Split tx t s.live at → IsTouchedRightly t
  own tx t at split = (each_after IsKeyed split.front ((tx, t) ∷ split.back) (all_split tx t at split)).0

  turned_keyed : (tx : TxId) (t : Transaction) (at : ℕ) → Split tx t s.live at → (turn : Turn)
      → IsTouchedRightly turn.step.state → Each IsKeyed (turned s at turn).state.live
  unfolding without
  turned_keyed tx t at split turn fine = by turn.over
    where
      front : Each IsKeyed split.front
      front = each_before IsKeyed split.front ((tx, t) ∷ split.back) (all_split tx t at split)

      back : Each IsKeyed split.back
      back = (each_after IsKeyed split.front ((tx, t) ∷ split.back) (all_split tx t at split)).1

      by : (b : Bool) → Each IsKeyed (turned_if s at turn b).state.live
      by true = subst (Each IsKeyed) (sym split.gone) (each_append IsKeyed split.front split.back front back)
      by false =
          subst (Each IsKeyed) (sym (split.set turn.step.state))
          (each_append IsKeyed split.front ((tx, turn.step.state) ∷ split.back) front (fine, back))

fresh_keyed : IsTouchedRightly fresh
fresh_keyed = record { apart = tt; answered = tt; asked = tt; written = tt }

module _ (member : Member) (s : CoordinatorState) (of : IsCoordinatorOf member s) where
  -- each turn within the view keeps it
  states : (tx : TxId) (t : Transaction) (body : Body) → IsTouchedRightly t
      → TurnForms s.tc.node s.tc.layout tx t body (λ turn. IsTouchedRightly turn.step.state)
  states tx t body fine =
      let kept =
      turn_keeps (λ t. IsTouchedRightly t) AnySend s.tc.node s.tc.layout (turns_keyed s.tc.layout) tx t body fine
      (λ op is. record { state = operated_keyed t op s.tc.layout tx fine; sends = (tt, tt) }) in
      record {
        stays = kept.stays.state;
        goes_on = λ at. (kept.goes_on at).state;
        operates = λ op is can. (kept.operates op is can).state;
        answers = λ key answer asked is on at. (kept.answers key answer asked is on at).state;
        late = λ key asked why verifying awaited on at. (kept.late key asked why verifying awaited on at).state;
        waits = λ asked on. (kept.waits asked on).state;
        decides = λ is ready. (kept.decides is ready).state;
        commits = λ epoch is at some. (kept.commits epoch is at some).state;
        commits_none = λ epoch is at. record {
          enters = λ some. ((kept.commits_none epoch is at).enters some).state;
          ends = λ none. ((kept.commits_none epoch is at).ends none).state;
        };
        committed = λ epoch awaited at more. (kept.committed epoch awaited at more).state;
        committed_all = λ epoch awaited at. record {
          enters = λ some. ((kept.committed_all epoch awaited at).enters some).state;
          ends = λ none. ((kept.committed_all epoch awaited at).ends none).state;
        };
        completed = λ epoch awaited at more. (kept.completed epoch awaited at more).state;
        completed_all = λ epoch awaited at last. (kept.completed_all epoch awaited at last).state;
        rolls_back = λ is undecided unaborted. record {
          enters = λ some. ((kept.rolls_back is undecided unaborted).enters some).state;
          ends = λ none. ((kept.rolls_back is undecided unaborted).ends none).state;
        };
        refuses = λ key why asked is on at. record {
          enters = λ some. ((kept.refuses key why asked is on at).enters some).state;
          ends = λ none. ((kept.refuses key why asked is on at).ends none).state;
        };
        aborted = λ why verifying awaited at more. (kept.aborted why verifying awaited at more).state;
        aborted_all = λ why verifying awaited at last. (kept.aborted_all why verifying awaited at last).state;
      }

  pub coordinator_keyed : (x : Signal) → Each IsKeyed s.tc.live → Each IsKeyed (coordinator_row s x).state.tc.live
  coordinator_keyed x all =
      coordinator_outcomes (λ tx t turn. IsTouchedRightly turn.step.state) (λ step. Each IsKeyed step.state.live) s x
      (record {
        calm = record {
          turns = λ tx t at split.
              rows_of s.tc.node s.tc.layout tx t x.body (λ turn. IsTouchedRightly turn.step.state)
              (states tx t x.body (own s.tc all tx t at split));
          turned = λ tx t at split turn fine. turned_keyed s.tc all tx t at split turn fine;
          stays = all;
          full = λ name. all;
          begins = λ name.
              each_inserted IsKeyed s.tc.live (next_tx s.tc) fresh
              (next_is_other s.tc.live (next_tx s.tc) of.begun) fresh_keyed all;
          passes = λ tx ahead. all;
        };
        resumes = λ tx t at split.
            resume_keyed s.tc.node s.tc.layout tx t (own s.tc all tx t at split);
        promises = all;
        goes_on = λ step node b fine. fine;
      })

  -- and where a view is installed
  pub install_keyed : (view : View) → Each IsKeyed s.tc.live → Each IsKeyed (install_row s view).state.tc.live
  unfolding install_row
  install_keyed view all = all
