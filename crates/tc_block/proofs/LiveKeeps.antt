-- What a coordinator keeps of each of its transactions, and of all that it sends, if beginning and answering an
-- operation does.
use Rattle.std.proofs.Common.{◌≡◌, ℕ, Bool, true, false, List, [], ◌∷◌, ◌++◌, length, take, drop, refl, sym, subst}
use Rattle.std.specs.Prelude.{◌+◌, nat_lt, Option, None, Some, if◌then◌else◌}
use Rattle.indexmap.specs.IndexMap.{insert_entry}
use Rattle.run_theory.specs.Lists.{Each}
use Rattle.run_theory.proofs.Pasts.{each_after, each_append, each_before}
use Rattle.sig_core.specs.declared.member.TxId.{TxId}
use Rattle.sig_core.specs.declared.op.Answer.{Answer}
use Rattle.sig_core.specs.declared.op.Op.{Op}
use Rattle.sig_core.specs.declared.outcome.AbortCause.{AbortCause}
use Rattle.sig_core.specs.declared.outs.Outgoing.{Outgoing}
use Rattle.sig_core.specs.declared.signal.Body.{Body}
use Rattle.sig_core.specs.declared.signal.Body.TheVariants.{Client, Chain}
use Rattle.sig_core.specs.declared.signal.client.ClientSignal.TheVariants.{TcKeyReq}
use Rattle.sig_core.specs.Op.{key_of}
use Rattle.sig_core.specs.Same.{same_tx}
use Rattle.sig_core.specs.Step.{Step}
use Rattle.frag_map.specs.Layout.{Layout, chain_of}
use Rattle.tc_block.specs.Abort as abort
use Rattle.tc_block.specs.declared.phase.Asked.{Asked}
use Rattle.tc_block.specs.declared.phase.Phase.{Phase}
use Rattle.tc_block.specs.declared.phase.Phase.TheVariants.{Verifying}
use Rattle.tc_block.specs.declared.transaction.Transaction.{Transaction}
use Rattle.tc_block.specs.Live.{turned_if, without}
use Rattle.tc_block.specs.Operate as operate
use Rattle.tc_block.specs.Part.{part_effects, rest_if}
use Rattle.tc_block.specs.Sends.{aborts_of, entering, phase_sends, wait_of}
use Rattle.tc_block.specs.State.{TcState}
use Rattle.tc_block.specs.Tc.{begin_if, next_tx, pass_if, tc_table}
use Rattle.tc_block.specs.Turn.{Turn, asking, at_phase}
use Rattle.run_theory.proofs.EachSent.{each_drop, each_mapped, each_take}
use Rattle.tc_block.proofs.EachTc.{tc_each}
use Rattle.tc_block.proofs.EachTurn.{AbortForms, CommittedForms, TurnForms, rows_of}
use Rattle.tc_block.proofs.LiveSplit.{Live, Split}

-- a step of a transaction leaves it so, and sends only such signals
pub record StepKeeps (P : Transaction → Type 0) (Q : Outgoing → Type 0) (step : Step Transaction) : Type 0 where
  pub state : P step.state
  pub sends : Each Q step.effects.sends

abbrev pub TurnKeeps : (Transaction → Type 0) → (Outgoing → Type 0) → Turn → Type 0
TurnKeeps P Q turn = StepKeeps P Q turn.step

abbrev pub AllAre : (Transaction → Type 0) → Live → Type 0
AllAre P live = Each (λ (e : TxId × Transaction). P e.1) live

-- a step of the coordinator that leaves each transaction so
pub record LiveKeeps (P : Transaction → Type 0) (Q : Outgoing → Type 0) (before : Layout) (step : Step TcState) : Type 0
  where
    pub live : AllAre P step.state.live
    pub sends : Each Q step.effects.sends
    pub layout : step.state.layout ≡ before

-- what a coordinator sends beside the turns of its transactions
pub record SendsBeside (Q : Outgoing → Type 0) (s : TcState) : Type 0 where
  pub full : (name : Option ℕ) → Each Q (begin_if s name true).effects.sends
  pub begins : (name : Option ℕ) → Each Q (begin_if s name false).effects.sends
  pub passes : (tx ahead : TxId) → Each Q (pass_if s tx ahead true).effects.sends

-- the signal is about a row at a replica
abbrev pub is_chain : Body → Bool
is_chain (Chain c) = true
is_chain body = false

-- what holds of a transaction whatever its phase, and stays when an operation is answered; and what holds of all that
-- it sends
-- but for operations
pub record TurnsKeep (P : Transaction → Type 0) (Q : Outgoing → Type 0) (layout : Layout) : Type 0 where
  pub phase : (t : Transaction) (phase : Phase) → P t → P (at_phase t phase)
  pub unasked : (t : Transaction) → P t → P (asking t None)
  pub answered : (t : Transaction) (asked : Asked) (answer : Answer) → t.asked ≡ Some asked → P t
      → P (operate.answered t asked answer)
  pub sends : (tx : TxId) (t : Transaction) (phase : Phase) → P t → Each Q (phase_sends layout tx phase t.touched)
  pub aborts : (tx : TxId) (key : List ℕ) → Each Q (aborts_of tx key (chain_of layout key))
  pub plain : (o : Outgoing) → is_chain o.body ≡ false → Q o

module _ (P : Transaction → Type 0) (Q : Outgoing → Type 0) (node : ℕ) (layout : Layout) (keep : TurnsKeep P Q layout)
    (tx : TxId) where
  rest_keeps : (at : ℕ) (b : Bool) → Each Q (rest_if node tx at b)
  rest_keeps at true = (keep.plain _ refl, tt)
  rest_keeps at false = tt

  part_keeps : (sends : List Outgoing) (at : ℕ) → Each Q sends → Each Q (part_effects node tx sends at).sends
  unfolding part_effects
  part_keeps sends at all =
      each_append Q (take 8 (drop at sends)) (rest_if node tx at (nat_lt (at + 8) (length sends)))
      (each_take Q 8 (drop at sends) (each_drop Q at sends all))
      (rest_keeps at (nat_lt (at + 8) (length sends)))

  enters : (t : Transaction) (phase : Phase) → P t → StepKeeps P Q (entering node layout tx t phase)
  unfolding entering
  enters t phase fine = record {
    state = keep.phase t phase fine;
    sends = part_keeps (phase_sends layout tx phase t.touched) 0
        (keep.sends tx t phase fine);
  }

  committed_keeps : (t : Transaction) (epoch : ℕ) → P t
      → CommittedForms node layout tx t epoch (λ turn. TurnKeeps P Q turn)
  committed_keeps t epoch fine = record {
    enters = λ some. enters t _ fine;
    ends = λ none. record {
      state = fine;
      sends = (keep.plain _ refl, (keep.plain _ refl, tt));
    };
  }

  abort_ends : (why : AbortCause) (b : Bool) → Each Q (abort.abort_end node tx why b)
  abort_ends why true = (keep.plain _ refl, (keep.plain _ refl, tt))
  abort_ends why false = (keep.plain _ refl, tt)

  abort_keeps : (t : Transaction) → P t → (why : AbortCause)
      → AbortForms node layout tx t why (λ turn. TurnKeeps P Q turn)
  abort_keeps t fine why = record {
    enters = λ some. enters t _ fine;
    ends = λ none. record {
      state = fine;
      sends = abort_ends why (abort.is_verifying t.phase);
    };
  }

  -- so each turn does
  pub turn_keeps : (t : Transaction) (body : Body) → P t
      → ((op : Op) → body ≡ Client (TcKeyReq tx op) → StepKeeps P Q
      (operate.operating tx t op (chain_of layout (key_of op))))
      → TurnForms node layout tx t body (λ turn. TurnKeeps P Q turn)
  turn_keeps t body fine operated = record {
    stays = record { state = fine; sends = tt };
    goes_on = λ at. record {
      state = fine;
      sends = part_keeps (phase_sends layout tx t.phase t.touched) at (keep.sends tx t t.phase fine);
    };
    operates = λ op is can. operated op is;
    answers = λ key answer asked is on at. record {
      state = keep.answered t asked answer on fine;
      sends = (keep.plain _ refl, tt);
    };
    late = λ key asked why verifying awaited on at. record { state = keep.unasked t fine; sends = keep.aborts tx key };
    waits = λ asked on. record {
      state = fine;
      sends = each_mapped Q (wait_of tx (key_of asked.op)) asked.chain
          (λ r. keep.plain (wait_of tx (key_of asked.op) r) refl);
    };
    decides = λ is ready. record { state = keep.phase t Verifying fine; sends = (keep.plain _ refl, tt) };
    commits = λ epoch is at some. enters t _ fine;
    commits_none = λ epoch is at. committed_keeps t epoch fine;
    committed = λ epoch awaited at more. record { state = keep.phase t _ fine; sends = tt };
    committed_all = λ epoch awaited at. committed_keeps t epoch fine;
    completed = λ epoch awaited at more. record { state = keep.phase t _ fine; sends = tt };
    completed_all = λ epoch awaited at last. record { state = fine; sends = (keep.plain _ refl, tt) };
    rolls_back = λ is undecided unaborted. abort_keeps t fine _;
    refuses = λ key why asked is on at. abort_keeps (asking t None) (keep.unasked t fine) why;
    aborted = λ why verifying awaited at more. record { state = keep.phase t _ fine; sends = tt };
    aborted_all = λ why verifying awaited at last. record { state = fine; sends = abort_ends why verifying };
  }

module _ (P : Transaction → Type 0) (Q : Outgoing → Type 0) where
  inserted : (live : Live) (tx : TxId) (t : Transaction) → P t → AllAre P live
      → AllAre P (insert_entry same_tx live tx t)
  inserted [] tx t own all = (own, tt)
  inserted (e ∷ es) tx t own all = by (same_tx tx e.0) (inserted es tx t own all.1)
    where
      by : (b : Bool) → AllAre P (insert_entry same_tx es tx t)
          → AllAre P (if b then (e.0, t) ∷ es else e ∷ insert_entry same_tx es tx t)
      by true more = (own, all.1)
      by false more = (all.0, more)

  -- whatever the coordinator takes, where its turns do so
  pub live_each : (s : TcState) (body : Body) → P operate.fresh → SendsBeside Q s
      → ((tx : TxId) (t : Transaction) → P t → TurnForms s.node s.layout tx t body (λ turn. TurnKeeps P Q turn))
      → AllAre P s.live → LiveKeeps P Q s.layout (tc_table s body)
  unfolding without
  live_each s body fresh beside forms all =
      tc_each (λ tx t turn. TurnKeeps P Q turn) (LiveKeeps P Q s.layout) s body (record {
        turns = λ tx t at split. rows_of s.node s.layout tx t body (λ turn. TurnKeeps P Q turn)
            (forms tx t (own tx t at split));
        turned = λ tx t at split turn keeps. by tx t at split turn keeps turn.over;
        stays = record { live = all; sends = tt; layout = refl };
        full = λ name. record { live = all; sends = beside.full name; layout = refl };
        begins = λ name. record {
          live = inserted s.live (next_tx s) operate.fresh fresh all;
          sends = beside.begins name;
          layout = refl;
        };
        passes = λ tx ahead. record { live = all; sends = beside.passes tx ahead; layout = refl };
      })
    where
      Own : TxId × Transaction → Type 0
      Own e = P e.1

      all_split : (tx : TxId) (t : Transaction) (at : ℕ) (split : Split tx t s.live at)
          → Each Own (split.front ++ (tx, t) ∷ split.back)
      all_split tx t at split = subst (Each Own) split.is all

      own : (tx : TxId) (t : Transaction) (at : ℕ) → Split tx t s.live at → P t
      own tx t at split = (each_after Own split.front ((tx, t) ∷ split.back) (all_split tx t at split)).0

      by : (tx : TxId) (t : Transaction) (at : ℕ) → Split tx t s.live at → (turn : Turn) → TurnKeeps P Q turn
          → (b : Bool) → LiveKeeps P Q s.layout (turned_if s at turn b)
      by tx t at split turn keeps true = record {
        live = subst (Each Own) (sym split.gone)
            (each_append Own split.front split.back
            (each_before Own split.front ((tx, t) ∷ split.back) (all_split tx t at split))
            (each_after Own split.front ((tx, t) ∷ split.back) (all_split tx t at split)).1);
        sends = keeps.sends;
        layout = refl;
      }
      by tx t at split turn keeps false = record {
        live = subst (Each Own) (sym (split.set turn.step.state))
            (each_append Own split.front ((tx, turn.step.state) ∷ split.back)
            (each_before Own split.front ((tx, t) ∷ split.back) (all_split tx t at split))
            (keeps.state, (each_after Own split.front ((tx, t) ∷ split.back) (all_split tx t at split)).1));
        sends = keeps.sends;
        layout = refl;
      }

  pub live_keeps : (s : TcState) (body : Body) → P operate.fresh → TurnsKeep P Q s.layout
      → ((tx : TxId) (t : Transaction) (op : Op) → P t → StepKeeps P Q
      (operate.operating tx t op (chain_of s.layout (key_of op)))) → AllAre P s.live
      → LiveKeeps P Q s.layout (tc_table s body)
  live_keeps s body fresh keep operated all =
      live_each s body fresh (record {
        full = λ name. (keep.plain _ refl, tt);
        begins = λ name. (keep.plain _ refl, tt);
        passes = λ tx ahead. (keep.plain _ refl, tt);
      })
      (λ tx t fine. turn_keeps P Q s.node s.layout keep tx t body fine (λ op is. operated tx t op fine)) all
