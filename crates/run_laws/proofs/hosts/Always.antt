-- What is so of a coordinator's transaction whatever turns it takes; so it touches no more than 64 keys.
use Rattle.std.proofs.Common.{◌≡◌, ◌⊎◌, ℕ, ◌+◌, ◌≤◌, ◌<◌, List, [], ◌∷◌, length, Bool, true, false, refl, ap, sym, ◌∙◌}
use Rattle.std.proofs.Common.{subst, arith, inl, inr}
use Rattle.std.specs.Prelude.{◌||◌, nat_lt, is_some, if◌then◌else◌, Option, None, Some}
use Rattle.std.proofs.lemmas.Bool.Decides.{nat_tests}
use Rattle.node_core.specs.Blocks.{tc_of}
use Rattle.world_core.specs.Steps.{HostStep}
use Rattle.sig_core.specs.declared.member.Member.{Member}
use Rattle.sig_core.specs.declared.member.TxId.{TxId}
use Rattle.sig_core.specs.declared.op.Answer.{Answer}
use Rattle.sig_core.specs.declared.op.Answer.TheVariants as answer
use Rattle.sig_core.specs.declared.op.Op.{Op}
use Rattle.sig_core.specs.declared.signal.Body.{Body}
use Rattle.sig_core.specs.Op.{key_of}
use Rattle.tc_block.specs.declared.touched.TheConstants.{KEYS}
use Rattle.tc_block.specs.declared.phase.Phase.{Phase}
use Rattle.tc_block.specs.declared.touched.Touched.{Touched}
use Rattle.tc_block.specs.declared.transaction.Transaction.{Transaction}
use Rattle.tc_block.specs.declared.phase.Phase.TheVariants.{Committing, Completing, Aborting}
use Rattle.tc_block.specs.Abort.{aborts_awaited, is_verifying}
use Rattle.tc_block.specs.Complete.{written_count}
use Rattle.tc_block.specs.Operate.{fresh, touched_after}
use Rattle.tc_block.specs.Sends.{entering}
use Rattle.tc_block.specs.State.{TcState}
use Rattle.tc_block.specs.Touched.{fits, place_of, touch, touched_by, unwritten, written, written_by}
use Rattle.tc_block.specs.Turn.{Turn}
use Rattle.world_core.specs.Machine.{after, step_after}
use Rattle.frag_map.specs.Layout.{chain_of, first_layout}
use Rattle.world_core.specs.Start.{Start}
use Rattle.sig_core.proofs.Keys.{same_tx-self}
use Rattle.run_laws.proofs.hosts.AlongSteps.{first_none, no_transaction, the_transaction, turn_at, tx_at}
use Rattle.host_laws.proofs.hosts.BlocksAlong.{tc_layout}
use Rattle.host_laws.proofs.coordinator.HostTurns.{HostTurn, aside, in_rows, starting, turning}
use Rattle.run_theory.specs.Counts.{one_if}
use Rattle.host_laws.proofs.coordinator.Keys.{key_of_tx}
use Rattle.host_laws.proofs.coordinator.Owes.{last_length, set_length}
use Rattle.host_laws.specs.Live.{of_live}
use Rattle.host_laws.proofs.coordinator.Turns.{GivesUp, TurnMove, abort_ends, aborted, aborts, all_completed, answers}
use Rattle.host_laws.proofs.coordinator.Turns.{asked_to}
use Rattle.host_laws.proofs.coordinator.Turns.{asks, commits, committed, completed, completes, decides, ends, gives_up}
use Rattle.host_laws.proofs.coordinator.Turns.{goes_on}
use Rattle.host_laws.proofs.coordinator.Turns.{keeps, late, refused}

-- what holds of a transaction that begins, and is kept by each turn
pub record IsStable (start : Start) (tx : TxId) (P : Transaction → Type 0) : Type 0 where
  pub begins : P fresh
  pub turns : (s : TcState) (t : Transaction) (body : Body) (turn : Turn) → s.layout ≡ first_layout start.shape
      → TurnMove s tx t body turn → turn.over ≡ false → P t → P turn.step.state

pub always : (start : Start) (tx : TxId) (h : ℕ) (P : Transaction → Type 0) → IsStable start tx P
    → (log : List HostStep) (t : Transaction) → tx_at tx (after start h log) ≡ Some t → P t
always start tx h P stable [] t at = no_transaction t (sym (first_none start tx h) ∙ at)
always start tx h P stable (e ∷ log) t at = next (always start tx h P stable log) (turn_at start tx h log e)
  where
    next : ((u : Transaction) → tx_at tx (after start h log) ≡ Some u → P u)
        → HostTurn tx (after start h log) e.step.taken (step_after start h log e) → P t
    next before (in_rows step) = before t (ap (λ (s : TcState). of_live tx s.live) (sym step.tc) ∙ at)
    next before (aside step) = before t (sym step.same ∙ at)
    next before (starting step) = subst P (the_transaction fresh t (sym step.there ∙ at)) stable.begins
    next before (turning step) = which step.turn.over refl
      where
        which : (b : Bool) → step.turn.over ≡ b → P t
        which true over =
            no_transaction t (sym (step.left ∙ ap (λ b. if b then None else Some step.turn.step.state) over) ∙ at)
        which false over =
            subst P (the_transaction step.turn.step.state t
            (sym (step.left ∙ ap (λ b. if b then None else Some step.turn.step.state) over) ∙ at))
            (stable.turns (tc_of (after start h log)) step.was e.step.taken.body step.turn
            (tc_layout start h log step.runs) step.move over (before step.was step.there))

-- the keys that a transaction touches: one more where it is asked for an operation, and then no more than 64
pub record Touches (tx : TxId) (t : Transaction) (body : Body) (u : Transaction) : Type 0 where
  pub few : length t.touched ≤ KEYS → length u.touched ≤ KEYS
  pub more : length u.touched ≤ length t.touched + one_if (key_of_tx tx body)

touch_length : (touched : List Touched) (key : List ℕ) (chain : List Member) → fits touched key ≡ true
    → (length (touch touched key chain) ≤ length touched)
    ⊎ ((length touched < KEYS) × (length (touch touched key chain) ≡ length touched + 1))
touch_length touched key chain fit = go (place_of touched key) refl
  where
    go : (o : Option ℕ) → place_of touched key ≡ o
        → (length (touched_by touched key chain o) ≤ length touched)
        ⊎ ((length touched < KEYS) × (length (touched_by touched key chain o) ≡ length touched + 1))
    go (Some at) e = inl (omega arith)
    go None e =
        let low : nat_lt (length touched) KEYS ≡ true =
        ap (λ o. is_some o || nat_lt (length touched) KEYS) (sym e) ∙ fit in
        inr (under low, last_length touched (unwritten key chain))
      where
        under : nat_lt (length touched) KEYS ≡ true → length touched < KEYS
        under q = grind (arith, nat_tests, q)

after_length : (a : Answer) (touched : List Touched) (op : Op) (chain : List Member)
    → length (touched_after a touched op chain) ≡ length touched
after_length answer.Done touched op chain = go (place_of touched (key_of op))
  where
    go : (o : Option ℕ) → length (written_by touched (key_of op) chain o) ≡ length touched
    go None = refl
    go (Some at) = set_length touched at (written (key_of op) chain)
after_length (answer.Found value) touched op chain = refl
after_length answer.Missing touched op chain = refl
after_length answer.E626 touched op chain = refl
after_length answer.E630 touched op chain = refl

pub turn_touches : (s : TcState) (tx : TxId) (t : Transaction) (body : Body) (turn : Turn) → TurnMove s tx t body turn
    → Touches tx t body turn.step.state
unfolding entering
turn_touches s tx t body turn move = go move
  where
    alike : (other : Turn) → turn ≡ other → length other.step.state.touched ≡ length t.touched
        → Touches tx t body turn.step.state
    alike other is e =
        let now = ap (λ (x : Turn). length x.step.state.touched) is in
        record { few = λ low. omega (arith, low, now, e); more = omega (arith, now, e) }

    entered : (w : Transaction) (phase : Phase)
        → length (entering s.node s.layout tx w phase).state.touched ≡ length w.touched
    entered w phase = refl

    given : (w : Transaction) → GivesUp t body w → length w.touched ≡ length t.touched
    given w (asked_to p other about is) = ap (λ (x : Transaction). length x.touched) is
    given w (refused other key why asked p about on is) = ap (λ (x : Transaction). length x.touched) is

    go : TurnMove s tx t body turn → Touches tx t body turn.step.state
    go (keeps sends is kind missed) = alike _ is refl
    go (goes_on at about low is) = alike _ is refl
    go (asks op about p q fit is) = by (touch_length t.touched (key_of op) (chain_of s.layout (key_of op)) fit)
      where
        now : length turn.step.state.touched ≡ length (touch t.touched (key_of op) (chain_of s.layout (key_of op)))
        now = ap (λ (x : Turn). length x.step.state.touched) is

        by : (length (touch t.touched (key_of op) (chain_of s.layout (key_of op))) ≤ length t.touched)
            ⊎ ((length t.touched < KEYS)
            × (length (touch t.touched (key_of op) (chain_of s.layout (key_of op))) ≡ length t.touched + 1))
            → Touches tx t body turn.step.state
        by (inl less) = record { few = λ low. omega (arith, low, now, less); more = omega (arith, now, less) }
        by (inr one) = record {
          few = λ low. omega (arith, now, one.0, one.1);
          more = omega (arith, now, one.1, ap one_if (ap (key_of_tx tx) about ∙ same_tx-self tx));
        }
    go (answers key a asked about p q is) = alike _ is (after_length a t.touched asked.op asked.chain)
    go (late key asked about p q is) = alike _ is refl
    go (decides about p q is) = alike _ is refl
    go (aborts w why gives some is) =
        alike _ is (entered w (Aborting why (is_verifying w.phase) (aborts_awaited s.layout w)) ∙ given w gives)
    go (gives_up w why gives is none) = alike _ is (given w gives)
    go (aborted key why v k about p low is) = alike _ is refl
    go (abort_ends key why v k about p low is) = alike _ is refl
    go (commits epoch about p is) = alike _ is (entered t (Committing epoch (length t.touched)))
    go (committed epoch k p is) = alike _ is refl
    go (completes epoch p is) = alike _ is (entered t (Completing epoch (written_count t.touched)))
    go (ends epoch p is) = alike _ is refl
    go (completed epoch k p is) = alike _ is refl
    go (all_completed epoch k p is) = alike _ is refl

pub few_touched : (start : Start) (tx : TxId) (h : ℕ) (log : List HostStep) (t : Transaction)
    → tx_at tx (after start h log) ≡ Some t → length t.touched ≤ KEYS
few_touched start tx h =
    always start tx h (λ t. length t.touched ≤ KEYS)
    (record {
      begins = omega arith;
      turns = λ s t body turn layout move over few. (turn_touches s tx t body turn move).few few;
    })
