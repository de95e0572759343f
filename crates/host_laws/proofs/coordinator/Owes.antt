-- Turn by turn, what a transaction that commits waits for.
use Rattle.std.proofs.Common.{◌≡◌, ◌⊎◌, ℕ, zero, suc, ◌+◌, ◌-◌, ◌≤◌, ◌<◌, List, [], ◌∷◌, ◌++◌, length, Bool, true}
use Rattle.std.proofs.Common.{false, refl, ap, sym, ◌∙◌, subst, arith, inl, inr}
use Rattle.std.specs.Prelude.{◌&&◌, ◌||◌, nat_lt, is_some, slice_set, Option, None, Some}
use Rattle.std.proofs.lemmas.Bool.Decides.{nat_tests}
use Rattle.run_theory.proofs.Pasts.{each_append}
use Rattle.run_theory.specs.Lists.{Each}
use Rattle.sig_core.specs.declared.member.Member.{Member}
use Rattle.sig_core.specs.declared.member.TxId.{TxId}
use Rattle.sig_core.specs.declared.op.Answer.{Answer}
use Rattle.sig_core.specs.declared.op.Answer.TheVariants as answer
use Rattle.sig_core.specs.declared.op.Op.{Op}
use Rattle.sig_core.specs.declared.outs.Outgoing.{Outgoing}
use Rattle.frag_map.specs.Layout.{Layout}
use Rattle.sig_core.specs.Chain.{primary_of}
use Rattle.sig_core.specs.Op.{key_of}
use Rattle.tc_block.specs.declared.phase.Asked.{Asked}
use Rattle.tc_block.specs.declared.phase.Phase.{Phase}
use Rattle.tc_block.specs.declared.phase.Phase.TheVariants.{Verifying, Committing, Completing, Aborting}
use Rattle.tc_block.specs.declared.touched.Touched.{Touched}
use Rattle.tc_block.specs.declared.transaction.Transaction.{Transaction}
use Rattle.frag_map.specs.Layout.{chain_of}
use Rattle.tc_block.specs.Operate as operate
use Rattle.tc_block.specs.Part.{part_effects}
use Rattle.tc_block.specs.Touched.{fits, place_of, touch, touched_by, unwritten, written, written_by}
use Rattle.host_laws.proofs.hosts.PartCounts.{is_cont}
use Rattle.host_laws.proofs.coordinator.Commits.{is_chain, is_commit, part_law}
use Rattle.host_laws.proofs.api.Wishes.{sends_of}
use Rattle.std.proofs.lemmas.Bool.{and_parts, false≢true}
use Rattle.sig_core.specs.declared.signal.Body.{Body}
use Rattle.sig_core.specs.declared.signal.Body.TheVariants.{Host, Chain}
use Rattle.sig_core.specs.declared.signal.chain.ChainSignal.TheVariants.{Committed}
use Rattle.sig_core.specs.declared.signal.host.HostSignal.TheVariants.{Continue}
use Rattle.sig_core.specs.declared.signal.host.Work.TheVariants as work
use Rattle.sig_core.specs.Same.{same_tx}
use Rattle.sig_core.specs.Step.{stay}
use Rattle.tc_block.specs.Phases.{is_committing}
use Rattle.tc_block.specs.Sends.{entering, phase_sends}
use Rattle.tc_block.specs.Turn.{Turn, asking, at_phase, going}
use Rattle.sig_core.proofs.Keys.{same_tx-self}
use Rattle.tc_block.proofs.EachTurn.{CommittedForms, IsMissed, TurnFormsAt, is_onward, ready_is}
use Rattle.host_laws.proofs.rows.Operations.{is_good, is_node, left_of, true_and}
use Rattle.run_theory.specs.Counts.{one_if}
use Rattle.sig_core.specs.declared.portion.TheConstants.{PORTION}
use Rattle.tc_block.specs.declared.sends.TheConstants.{SENDS}
use Rattle.tc_block.specs.declared.touched.TheConstants.{KEYS}

-- what is so of each of a coordinator's transactions
pub record IsKnown (n : ℕ) (t : Transaction) : Type 0 where
  pub chains : Each (λ (x : Touched). is_chain n x.chain ≡ true) t.touched
  pub few : length t.touched ≤ KEYS
  pub asked : (a : Asked) → t.asked ≡ Some a → is_chain n a.chain ≡ true
  pub some : (epoch k : ℕ) → t.phase ≡ Committing epoch k → 1 ≤ k

-- whether an answer for it came to a coordinator, and whether that goes on with it
abbrev pub came_in : TxId → Body → ℕ
came_in tx (Chain (Committed one key)) = one_if (same_tx one tx)
came_in tx _ = 0

abbrev pub at_if : Bool → ℕ → Option ℕ
at_if true a = Some a
at_if false a = None

abbrev pub cont_in : TxId → Body → Option ℕ
cont_in tx (Host (Continue (work.Transaction one) a)) = at_if (same_tx one tx) a
cont_in tx _ = None

-- what a turn makes of what it waits for: it begins to wait for what it sends, waits on, or goes on to send
pub data Owes (n : ℕ) (tx : TxId) (t u : Transaction) (sends : List Outgoing) (k came : ℕ)
    (at : Option ℕ) : Type 0 where
  begins : came ≡ 0 → at ≡ None → k ≡ length u.touched
      → ((PORTION < length u.touched) × (PORTION ≤ sends_of (is_commit n tx) sends)
      × (1 ≤ sends_of (is_cont tx PORTION) sends)) ⊎ (length u.touched ≤ sends_of (is_commit n tx) sends)
      → Owes n tx t u sends k came at
  waits : (epoch before : ℕ) → t.phase ≡ Committing epoch before → at ≡ None → k + came ≤ before
      → u.touched ≡ t.touched → Owes n tx t u sends k came at
  goes_on : (epoch a : ℕ) → at ≡ Some a → came ≡ 0 → t.phase ≡ Committing epoch k → u.touched ≡ t.touched
      → (SENDS ≤ a) ⊎ (((a + PORTION < length u.touched) × (PORTION ≤ sends_of (is_commit n tx) sends)
      × (1 ≤ sends_of (is_cont tx (a + PORTION)) sends)) ⊎ (length u.touched ≤ a + sends_of (is_commit n tx) sends))
      → Owes n tx t u sends k came at

pub record TurnOwes (n : ℕ) (tx : TxId) (t : Transaction) (turn : Turn) (came : ℕ) (at : Option ℕ) : Type 0 where
  pub known : IsKnown n turn.step.state
  pub owes : (epoch k : ℕ) → turn.over ≡ false → turn.step.state.phase ≡ Committing epoch k
      → Owes n tx t turn.step.state turn.step.effects.sends k came at

from_start : (l s c : ℕ) → ((PORTION < l) × (PORTION ≤ s) × (1 ≤ c)) ⊎ (l ≤ 0 + s)
    → ((PORTION < l) × (PORTION ≤ s) × (1 ≤ c)) ⊎ (l ≤ s)
from_start l s c (inl h) = inl h
from_start l s c (inr h) = inr (omega (arith, h))

set_each : {A : Type 0} (P : A → Type 0) (xs : List A) (at : ℕ) (y : A) → P y → Each P xs → Each P (slice_set xs at y)
set_each P [] at y p all = tt
set_each P (x ∷ xs) zero y p all = (p, all.1)
set_each P (x ∷ xs) (suc at) y p all = (all.0, set_each P xs at y p all.1)

pub set_length : {A : Type 0} (xs : List A) (at : ℕ) (y : A) → length (slice_set xs at y) ≡ length xs
set_length [] at y = refl
set_length (x ∷ xs) zero y = refl
set_length (x ∷ xs) (suc at) y = ap suc (set_length xs at y)

pub last_length : {A : Type 0} (xs : List A) (y : A) → length (xs ++ y ∷ []) ≡ length xs + 1
last_length [] y = refl
last_length (x ∷ xs) y = omega (arith, last_length xs y)

primary_chain : (n : ℕ) (chain : List Member) → is_chain n chain ≡ true → is_chain n (primary_of chain) ≡ true
primary_chain n [] good = cc
primary_chain n (m ∷ chain) good =
    true_and (is_node n m.node && true) true
    (true_and (is_node n m.node) true
    (left_of (is_node n m.node) (is_good n chain) (left_of (is_good n (m ∷ chain)) _ good)) refl) refl

touch_known : (n : ℕ) (touched : List Touched) (key : List ℕ) (chain : List Member) → is_chain n chain ≡ true
    → fits touched key ≡ true → length touched ≤ KEYS → Each (λ (x : Touched). is_chain n x.chain ≡ true) touched
    → (Each (λ (x : Touched). is_chain n x.chain ≡ true) (touch touched key chain))
    × (length (touch touched key chain) ≤ KEYS)
touch_known n touched key chain good fit few all = go (place_of touched key) refl
  where
    go : (o : Option ℕ) → place_of touched key ≡ o
        → (Each (λ (x : Touched). is_chain n x.chain ≡ true) (touched_by touched key chain o))
        × (length (touched_by touched key chain o) ≤ KEYS)
    go (Some at) e = (all, few)
    go None e =
        let low : nat_lt (length touched) KEYS ≡ true = ap (λ o. is_some o || nat_lt (length touched) KEYS) (sym e)
        ∙ fit in (
          each_append (λ (x : Touched). is_chain n x.chain ≡ true) touched (unwritten key chain ∷ []) all
              (primary_chain n chain good, tt),
          omega (arith, last_length touched (unwritten key chain), under low),
        )
      where
        under : nat_lt (length touched) KEYS ≡ true → length touched < KEYS
        under q = grind (arith, nat_tests, q)

after_known : (n : ℕ) (a : Answer) (touched : List Touched) (op : Op) (chain : List Member) → is_chain n chain ≡ true
    → length touched ≤ KEYS → Each (λ (x : Touched). is_chain n x.chain ≡ true) touched
    → (Each (λ (x : Touched). is_chain n x.chain ≡ true) (operate.touched_after a touched op chain))
    × (length (operate.touched_after a touched op chain) ≤ KEYS)
after_known n answer.Done touched op chain good few all = go (place_of touched (key_of op))
  where
    go : (o : Option ℕ) → (Each (λ (x : Touched). is_chain n x.chain ≡ true) (written_by touched (key_of op) chain o))
        × (length (written_by touched (key_of op) chain o) ≤ KEYS)
    go None = (all, few)
    go (Some at) = (
      set_each (λ (x : Touched). is_chain n x.chain ≡ true) touched at
          (written (key_of op) chain) good all,
      omega (arith, few, set_length touched at (written (key_of op) chain)),
    )
after_known n (answer.Found value) touched op chain good few all = (all, few)
after_known n answer.Missing touched op chain good few all = (all, few)
after_known n answer.E626 touched op chain good few all = (all, few)
after_known n answer.E630 touched op chain good few all = (all, few)

module _ (n : ℕ) (tx : TxId) (t : Transaction) (known : IsKnown n t) where
  abbrev pub Owing : Body → Turn → Type 0
  Owing body turn = TurnOwes n tx t turn (came_in tx body) (cont_in tx body)

  -- in another phase that isn't one of committing
  known_phase : (phase : Phase) → ((epoch k : ℕ) → phase ≡ Committing epoch k → 1 ≤ k) → IsKnown n (at_phase t phase)
  known_phase phase some = record { chains = known.chains; few = known.few; asked = known.asked; some = some }

  known_none : IsKnown n (asking t None)
  known_none = record { chains = known.chains; few = known.few; asked = λ a e. absurd (no_some a e); some = known.some }
    where
      no_some : (a : Asked) → None ≡ Some a → ⊥
      no_some a e = cc

  -- a signal by which nothing came
  abbrev IsStill : Body → Type 0
  IsStill body = (came_in tx body ≡ 0) × (cont_in tx body ≡ None)

  module _ (body : Body) where
    -- the transaction waits on
    waits_on : (turn : Turn) → IsStill body → IsKnown n turn.step.state → turn.step.state.phase ≡ t.phase
        → turn.step.state.touched ≡ t.touched → Owing body turn
    waits_on turn none now same touched = record {
      known = now;
      owes = λ epoch k over is. waits epoch k (sym same ∙ is) none.1 (omega (arith, none.0)) touched;
    }

    -- it goes to another phase, or to the end
    leaves : (turn : Turn) → IsKnown n turn.step.state
        → ((epoch k : ℕ) → turn.over ≡ false → turn.step.state.phase ≡ Committing epoch k → ⊥) → Owing body turn
    leaves turn now never = record { known = now; owes = λ epoch k over is. absurd (never epoch k over is) }

    over : (turn : Turn) → turn.over ≡ true → IsKnown n turn.step.state → Owing body turn
    over turn done now = leaves turn now (λ epoch k going is. false≢true (sym going ∙ done))

    -- it isn't committing
    not_committing : (phase : Phase) → is_committing phase ≡ false → (epoch k : ℕ) → phase ≡ Committing epoch k → ⊥
    not_committing phase off epoch k is = false≢true (sym off ∙ ap is_committing is)

    to_phase : (phase : Phase) → is_committing phase ≡ false → IsKnown n (at_phase t phase)
    to_phase phase off = known_phase phase (λ epoch k is. absurd (not_committing phase off epoch k is))

    moves : (turn : Turn) → IsKnown n turn.step.state → is_committing turn.step.state.phase ≡ false → Owing body turn
    moves turn now off = leaves turn now (λ epoch k going is. not_committing turn.step.state.phase off epoch k is)

    commit_owes : (node : ℕ) (layout : Layout) (epoch : ℕ) → CommittedForms node layout tx t epoch (Owing body)
    unfolding entering
    commit_owes node layout epoch = record {
      enters = λ some. moves _ (to_phase (Completing epoch _) refl) refl;
      ends = λ none. over _ refl known;
    }

    -- the transaction is left alone: at an answer it isn't committing
    missed_owes : (b : Body) → is_onward b ≡ false → IsMissed t b → Owing b (going (stay t))
    missed_owes (Host (Continue (work.Transaction one) at)) off missed = absurd cc
    missed_owes (Chain (Committed one key)) off missed = record {
      known = known;
      owes = λ epoch k going is. absurd (not_committing t.phase missed epoch k is);
    }
    missed_owes _ off missed =
        record { known = known; owes = λ epoch k going is. waits epoch k is refl (omega arith) refl }

    -- the coordinator goes on with it
    onward_is : (at : ℕ) → body ≡ Host (Continue (work.Transaction tx) at) → cont_in tx body ≡ Some at
    onward_is at is = ap (cont_in tx) is ∙ ap (λ b. at_if b at) (same_tx-self tx)

    -- so it is at each turn
    pub owes_forms : (node : ℕ) (layout : Layout) → node ≡ tx.tc
        → ((key : List ℕ) → is_chain n (chain_of layout key) ≡ true)
        → TurnFormsAt node layout tx t body (Owing body)
    unfolding entering
    owes_forms node layout home good = record {
      stays = λ other missed. missed_owes body other missed;
      stops = λ at is high. record {
        known = known;
        owes = λ epoch k going on. goes_on epoch at (onward_is at is) (ap (came_in tx) is) on refl (inl high);
      };
      goes_on = λ at is low. record {
        known = known;
        owes = λ epoch k going on. goes_on epoch at (onward_is at is) (ap (came_in tx) is) on refl
            (inr (subst (λ phase.
            ((at + PORTION < length t.touched)
            × (PORTION ≤ sends_of (is_commit n tx)
            (part_effects node tx (phase_sends layout tx phase t.touched) at).sends)
            × (1 ≤ sends_of (is_cont tx (at + PORTION))
            (part_effects node tx (phase_sends layout tx phase t.touched) at).sends))
            ⊎ (length t.touched ≤ at + sends_of (is_commit n tx)
            (part_effects node tx (phase_sends layout tx phase t.touched) at).sends)) (sym on)
            (part_law n tx node layout epoch k at t.touched home known.chains)));
      };
      operates = λ op is can.
          let both = and_parts (operate.is_ready t.phase t.asked) (fits t.touched (key_of op)) can in
          let touched = touch_known n t.touched (key_of op) (chain_of layout (key_of op))
          (good (key_of op)) both.1 known.few known.chains in
          moves _
          (record {
            chains = touched.0;
            few = touched.1;
            asked = λ a q. subst (λ (x : Asked). is_chain n x.chain ≡ true) (the_one op a q) (good (key_of op));
            some = known.some;
          })
          (ap is_committing (ready_is t.phase t.asked both.0).0);
      answers = λ key answer asked is own at.
          let touched = after_known n answer t.touched asked.op asked.chain
          (known.asked asked own.is) known.few known.chains in
          moves _ (record { chains = touched.0; few = touched.1; asked = known_none.asked; some = known.some })
          (ap is_committing at);
      late = λ key asked why verifying awaited is own at. moves _ known_none (ap is_committing at);
      waits = λ asked is on. waits_on _ (ap (came_in tx) is, ap (cont_in tx) is) known refl refl;
      decides = λ is ready. moves _ (to_phase Verifying refl) refl;
      commits = λ epoch is at some.
          let more : 1 ≤ length t.touched = grind (arith, nat_tests, some) in
          record {
            known = known_phase (Committing epoch (length t.touched))
                (λ f k on. omega (arith, the_k epoch (length t.touched) f k on, more));
            owes = λ f k going on. begins (ap (came_in tx) is) (ap (cont_in tx) is)
                (the_k epoch (length t.touched) f k on)
                (from_start (length t.touched) _ _
                (part_law n tx node layout epoch (length t.touched) 0 t.touched home known.chains));
          };
      commits_none = λ epoch is at none. commit_owes node layout epoch;
      committed = λ key epoch awaited is at last.
          let more : 1 < awaited = grind (arith, nat_tests, last) in
          record {
            known = known_phase (Committing epoch (awaited - 1))
                (λ f k on. omega (arith, the_k epoch (awaited - 1) f k on, more));
            owes = λ f k going on. waits epoch awaited at (ap (cont_in tx) is)
                (omega (
                  arith,
                  the_k epoch (awaited - 1) f k on,
                  more,
                  ap (came_in tx) is,
                  ap one_if (same_tx-self tx),
                )) refl;
          };
      committed_all = λ key epoch awaited is at last. commit_owes node layout epoch;
      completed = λ key epoch awaited is at more. moves _ (to_phase (Completing epoch _) refl) refl;
      completed_all = λ key epoch awaited is at last. over _ refl known;
      rolls_back = λ is undecided unaborted. record {
        enters = λ some. moves _ (to_phase (Aborting _ _ _) refl) refl;
        ends = λ none. over _ refl known;
      };
      refuses = λ key why asked is own at. record {
        enters = λ some. moves _
            (record {
              chains = known.chains;
              few = known.few;
              asked = known_none.asked;
              some =
                  (to_phase (Aborting _ _ _) refl).some;
            }) refl;
        ends = λ none. over _ refl known_none;
      };
      aborted = λ key why verifying awaited is at more. moves _ (to_phase (Aborting why verifying _) refl) refl;
      aborted_all = λ key why verifying awaited is at last. over _ refl known;
    }
      where
        the_one : (op : Op) (a : Asked) → Some (record { op = op; chain = chain_of layout (key_of op) }) ≡ Some a
            → record { op = op; chain = chain_of layout (key_of op) } ≡ a
        the_one op a q = cc

        the_k : (epoch n f k : ℕ) → Committing epoch n ≡ Committing f k → k ≡ n
        the_k epoch n f k is =
            let same : n ≡ k = cc in sym same
