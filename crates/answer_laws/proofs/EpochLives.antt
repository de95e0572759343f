-- The transactions that the block of epochs counts are those of its node's coordinator that have asked for an epoch.
use Rattle.std.proofs.Common.{◌≡◌, ℕ, ◌+◌, ◌≤◌, ◌<◌, List, [], ◌∷◌, ◌++◌, length, Bool, true, false, refl, ap, sym, ◌∙◌}
use Rattle.std.proofs.Common.{subst, arith, inl, inr}
use Rattle.std.specs.Prelude.{◌-◌, ◌^◌, ◌==◌, ◌&&◌, ◌||◌, nat_le, if◌then◌else◌, position}
use Rattle.std.proofs.lemmas.Bool.{false≢true}
use Rattle.std.proofs.lemmas.Bool.Decides.{nat_tests}
use Rattle.run_theory.proofs.Pasts.{each_map}
use Rattle.run_theory.specs.Lists.{Each}
use Rattle.sig_core.specs.declared.member.TxId.{TxId}
use Rattle.sig_core.specs.declared.op.Answer.{Answer}
use Rattle.sig_core.specs.declared.op.Op.{Op}
use Rattle.sig_core.specs.declared.outcome.AbortCause.{AbortCause}
use Rattle.sig_core.specs.declared.outs.Outgoing.{Outgoing}
use Rattle.sig_core.specs.declared.place.Place.{Place}
use Rattle.sig_core.specs.declared.signal.Body.{Body}
use Rattle.sig_core.specs.declared.signal.Body.TheVariants.{Epoch}
use Rattle.sig_core.specs.declared.signal.epoch.EpochSignal.TheVariants.{DiVerifyReq}
use Rattle.sig_core.specs.Place.{epochs}
use Rattle.sig_core.specs.Same.{same_tx}
use Rattle.sig_core.specs.Step.{Step, to_place}
use Rattle.tc_block.specs.declared.tc.TheConstants.{TRANSACTIONS}
use Rattle.tc_block.specs.declared.phase.Phase.{Phase}
use Rattle.tc_block.specs.declared.phase.Phase.TheVariants.{Open, Verifying, Committing, Completing, Aborting}
use Rattle.tc_block.specs.declared.transaction.Transaction.{Transaction}
use Rattle.tc_block.specs.Abort as abort
use Rattle.frag_map.specs.Layout.{chain_of}
use Rattle.tc_block.specs.Operate.{fresh}
use Rattle.tc_block.specs.Sends.{abort_of, entering, reported, verify_end}
use Rattle.tc_block.specs.State.{TcState}
use Rattle.tc_block.specs.Tc.{is_full, next_tx, tc_table}
use Rattle.tc_block.specs.Turn.{Turn}
use Rattle.sig_core.proofs.Keys.{same_tx-self}
use Rattle.answer_laws.proofs.EpochCounts.{IsWithout, SendsFew, asked_count, counts_if, ended_by, ended_count}
use Rattle.answer_laws.proofs.EpochCounts.{is_epochless, plain_counts, sends_count}
use Rattle.host_laws.proofs.hosts.PartKinds.{IsPartKind, entering_of, parts_of}
use Rattle.host_laws.proofs.hosts.SendKinds.{are_of, of_kind, of_map}
use Rattle.run_theory.proofs.Tally.{tally_append, tally_between}
use Rattle.run_theory.specs.Counts.{one_if, tally}
use Rattle.host_laws.proofs.coordinator.Lives.{IsOwn, insert_new}
use Rattle.host_laws.proofs.coordinator.Turns.{GivesUp, IsCommitted, TurnMove, abort_ends, aborted, aborts}
use Rattle.host_laws.proofs.coordinator.Turns.{all_completed}
use Rattle.host_laws.proofs.coordinator.Turns.{answers, asked_to, asks, at_last, at_once, commits, committed, completed}
use Rattle.host_laws.proofs.coordinator.Turns.{completes, decides, ends, gives_up, goes_on, is_wait_kind, keeps, late}
use Rattle.host_laws.proofs.coordinator.Turns.{refused}
use Rattle.host_laws.proofs.coordinator.Turns.{turn_moves}
use Rattle.host_laws.proofs.hosts.Sums.{one_most}
use Rattle.tc_block.specs.Phases.{is_committing}
use Rattle.tc_block.proofs.TurnRows.{begins, misses, rests, takes, tc_step, TcStep, turn_row, tx_in, passes, refuses}

-- an epoch was asked for, and its end isn't told
abbrev pub is_counted : Phase → Bool
is_counted Open = false
is_counted Verifying = true
is_counted (Committing epoch awaited) = true
is_counted (Completing epoch awaited) = true
is_counted (Aborting why verifying awaited) = verifying

abbrev pub is_counted_one : TxId × Transaction → Bool
is_counted_one e = is_counted e.1.phase

abbrev pub is_counted_as : TxId → TxId × Transaction → Bool
is_counted_as tx e = same_tx tx e.0 && is_counted e.1.phase

-- what a turn makes of that
pub data TurnCounts (node : ℕ) (tx : TxId) (t : Transaction) (turn : Turn) : Type 0 where
  unchanged : turn.over ≡ false → is_counted turn.step.state.phase ≡ is_counted t.phase
      → are_of is_epochless turn.step.effects.sends ≡ true → TurnCounts node tx t turn
  asking : (ops : List (Op × Answer)) → turn.over ≡ false → is_counted t.phase ≡ false
      → is_counted turn.step.state.phase ≡ true
      → turn.step.effects.sends ≡ to_place (epochs node) (Epoch (DiVerifyReq tx ops)) ∷ [] → TurnCounts node tx t turn
  ending : turn.over ≡ true → is_counted t.phase ≡ true → (front back : List Outgoing)
      → are_of is_epochless front ≡ true → are_of is_epochless back ≡ true
      → turn.step.effects.sends ≡ front ++ verify_end node tx ∷ back → TurnCounts node tx t turn
  gone : turn.over ≡ true → is_counted t.phase ≡ false → are_of is_epochless turn.step.effects.sends ≡ true
      → TurnCounts node tx t turn

wait_plain : (body : Body) → is_wait_kind body ≡ true → is_epochless body ≡ true
wait_plain (Epoch (DiVerifyReq tx ops)) e = cc
wait_plain (Epoch _) e = cc
wait_plain _ e = refl

plain_part : (tx : TxId) → IsPartKind is_epochless tx
plain_part tx = record {
  commit = λ key epoch chain at. refl;
  complete = λ key chain at. refl;
  abort = λ key. refl;
  cont = λ at. refl;
  report = λ epoch. refl;
}

committed_counted : (t : Transaction) (body : Body) → IsCommitted t body → is_counted t.phase ≡ true
committed_counted t body (at_once tx epoch p about) = ap is_counted p
committed_counted t body (at_last tx key p about) = by t.phase p
  where
    by : (phase : Phase) → is_committing phase ≡ true → is_counted phase ≡ true
    by (Committing epoch k) e = refl
    by Open e = cc
    by Verifying e = cc
    by (Completing epoch k) e = cc
    by (Aborting why v k) e = cc

given_phase : (t : Transaction) (body : Body) (w : Transaction) → GivesUp t body w
    → (w.phase ≡ t.phase) × (is_counted t.phase ≡ abort.is_verifying t.phase)
given_phase t body w (asked_to (inl p) tx about is) =
    (ap (λ (x : Transaction). x.phase) is, ap is_counted p ∙ sym (ap abort.is_verifying p))
given_phase t body w (asked_to (inr p) tx about is) =
    (ap (λ (x : Transaction). x.phase) is, ap is_counted p ∙ sym (ap abort.is_verifying p))
given_phase t body w (refused tx key why asked p about on is) =
    (ap (λ (x : Transaction). x.phase) is, ap is_counted p ∙ sym (ap abort.is_verifying p))

module _ (s : TcState) (tx : TxId) (t : Transaction) (body : Body) (turn : Turn) where
  back_to : (other : Turn) → turn ≡ other → TurnCounts s.node tx t other → TurnCounts s.node tx t turn
  back_to other is c = subst (TurnCounts s.node tx t) (sym is) c

  end_counts : (u : Transaction) (why : AbortCause) (v : Bool) → is_counted t.phase ≡ v
      → TurnCounts s.node tx t
      (record {
        step = record { state = u; effects = record { sends = abort.abort_end s.node tx why v; marks = [] } };
        over = true;
      })
  end_counts u why true e = ending refl e [] (abort.rolled_back tx why ∷ []) refl refl refl
  end_counts u why false e = gone refl e refl

  entered : (w : Transaction) (phase : Phase) → is_counted phase ≡ is_counted t.phase
      → TurnCounts s.node tx t (record { step = entering s.node s.layout tx w phase; over = false })
  unfolding entering
  entered w phase e = unchanged refl e (entering_of is_epochless tx (plain_part tx) s.node s.layout w phase)

  pub turn_counts : TurnMove s tx t body turn → TurnCounts s.node tx t turn
  turn_counts (keeps sends is kind missed) =
      back_to _ is (unchanged refl refl (of_kind is_wait_kind is_epochless wait_plain sends kind))
  turn_counts (goes_on at about low is) =
      back_to _ is (unchanged refl refl (parts_of is_epochless tx (plain_part tx) s.node s.layout t.phase t.touched at))
  turn_counts (asks op about p q fit is) = back_to _ is (unchanged refl refl refl)
  turn_counts (answers key answer asked about p q is) = back_to _ is (unchanged refl refl refl)
  turn_counts (late key asked about p q is) =
      back_to _ is (unchanged refl refl (of_map is_epochless (abort_of tx key) (chain_of s.layout key) (λ r. refl)))
  turn_counts (decides about p q is) = back_to _ is (asking t.ops refl (ap is_counted p) refl refl)
  turn_counts (aborts w why gives some is) =
      let g = given_phase t body w gives in
      back_to _ is (entered w (Aborting why (abort.is_verifying w.phase) (abort.aborts_awaited s.layout w))
      (ap abort.is_verifying g.0 ∙ sym g.1))
  turn_counts (gives_up w why gives is none) =
      let g = given_phase t body w gives in
      back_to _ is (end_counts w why (abort.is_verifying w.phase) (g.1 ∙ sym (ap abort.is_verifying g.0)))
  turn_counts (aborted key why v k about p low is) = back_to _ is (unchanged refl (sym (ap is_counted p)) refl)
  turn_counts (abort_ends key why v k about p low is) = back_to _ is (end_counts t why v (ap is_counted p))
  turn_counts (commits epoch about p is) =
      back_to _ is (entered t (Committing epoch (length t.touched)) (sym (ap is_counted p)))
  turn_counts (committed epoch k p is) = back_to _ is (unchanged refl (sym (ap is_counted p)) refl)
  turn_counts (completes epoch p is) = back_to _ is (entered t _ (sym (committed_counted t body p)))
  turn_counts (ends epoch p is) =
      back_to _ is (ending refl (committed_counted t body p) (reported tx epoch ∷ []) [] refl refl refl)
  turn_counts (completed epoch k p is) = back_to _ is (unchanged refl (sym (ap is_counted p)) refl)
  turn_counts (all_completed epoch k p is) = back_to _ is (ending refl (ap is_counted p) [] [] refl refl refl)

-- the block counts what its coordinator has asked for
pub record AreCounted (s : TcState) (c : List TxId) : Type 0 where
  pub all : length c ≡ tally is_counted_one s.live
  pub own : (v : TxId) → tally (same_tx v) c ≡ tally (is_counted_as v) s.live
  pub room : length s.live ≤ TRANSACTIONS

-- after signals of which one asks for an epoch or ends one
count_append : (at : Place → Bool) (xs ys : List Outgoing) (c : List TxId)
    → sends_count at (xs ++ ys) c ≡ sends_count at ys (sends_count at xs c)
count_append at [] ys c = refl
count_append at (x ∷ xs) ys c = count_append at xs ys _

few_append : (at : Place → Bool) (xs ys : List Outgoing) (c : List TxId) → SendsFew at xs c
    → SendsFew at ys (sends_count at xs c) → SendsFew at (xs ++ ys) c
few_append at [] ys c p q = q
few_append at (x ∷ xs) ys c p q = (p.0, few_append at xs ys _ p.1 q)

length_between : {A : Type 0} (xs : List A) (x : A) (ys : List A) → length (xs ++ x ∷ ys) ≡ length (xs ++ ys) + 1
length_between [] x ys = omega arith
length_between (y ∷ xs) x ys = omega (arith, length_between xs x ys)

tally_under : {A : Type 0} (p : A → Bool) (xs : List A) → tally p xs ≤ length xs
tally_under p [] = omega arith
tally_under p (x ∷ xs) = omega (arith, tally_under p xs, one_most (p x))

-- what a step makes of the count of those signals that are for such places
pub record StepCounts (at : Place → Bool) (after : TcState) (sends : List Outgoing) (c : List TxId) : Type 0 where
  pub counted : AreCounted after (sends_count at sends c)
  pub few : SendsFew at sends c

module _ (s : TcState) (at : Place → Bool) (own : at (epochs s.node) ≡ true) (body : Body) (c : List TxId)
    (k : AreCounted s c) (owned : Each (λ (e : TxId × Transaction). IsOwn s.node s.next_seq e.0) s.live) where
  plain_step : (step : Step TcState) → are_of is_epochless step.effects.sends ≡ true
      → tally is_counted_one step.state.live ≡ tally is_counted_one s.live
      → ((v : TxId) → tally (is_counted_as v) step.state.live ≡ tally (is_counted_as v) s.live)
      → length step.state.live ≤ TRANSACTIONS
      → StepCounts at step.state step.effects.sends c
  plain_step step kind all each room =
      let p = plain_counts at step.effects.sends c kind in
      record {
        counted = record {
          all = ap length p.0 ∙ (k.all ∙ sym all);
          own = λ v. ap (tally (same_tx v)) p.0
              ∙ (k.own v ∙ sym (each v));
          room = room;
        };
        few = p.1;
      }

  own_place : (at (epochs s.node) && true) ≡ true
  own_place = ap (λ b. b && true) own

  idle : (step other : Step TcState) → step ≡ other → other.state ≡ s → are_of is_epochless other.effects.sends ≡ true
      → StepCounts at step.state step.effects.sends c
  idle step other is same kind =
      let live_is : step.state.live ≡ s.live = ap (λ (x : Step TcState). x.state.live) is
      ∙ ap (λ (x : TcState). x.live) same in
      plain_step step (ap (λ (x : Step TcState). are_of is_epochless x.effects.sends) is ∙ kind)
      (ap (tally is_counted_one) live_is)
      (λ v. ap (tally (is_counted_as v)) live_is) (omega (arith, k.room, ap length live_is))

  step_of_counts : (step : Step TcState) → TcStep s body step → StepCounts at step.state step.effects.sends c
  step_of_counts step (rests off is) = idle step _ is refl refl
  step_of_counts step (refuses name about is) = idle step _ is refl refl
  step_of_counts step (passes tx ahead about is) = idle step _ is refl refl
  step_of_counts step (misses about none is) = idle step _ is refl refl
  step_of_counts step (begins name about room is) =
      plain_step step (ap (λ (x : Step TcState). are_of is_epochless x.effects.sends) is)
      (now tally_all ∙ omega (arith, tally_append is_counted_one s.live ((next_tx s, fresh) ∷ [])))
      (λ v. ap (tally (is_counted_as v)) live_is
      ∙ omega (
        arith,
        tally_append (is_counted_as v) s.live ((next_tx s, fresh) ∷ []),
        none (same_tx v (next_tx s)),
      ))
      (omega (arith, ap length live_is, length_last s.live, fewer))
    where
      tally_all : List (TxId × Transaction) → ℕ
      tally_all live = tally is_counted_one live

      live_is : step.state.live ≡ s.live ++ (next_tx s, fresh) ∷ []
      live_is =
          ap (λ (x : Step TcState). x.state.live) is
          ∙ insert_new s.live (next_tx s) fresh
          (each_map (λ (x : TxId × Transaction). IsOwn s.node s.next_seq x.0)
          (λ (x : TxId × Transaction). x.0.seq < s.next_seq) s.live (λ x o. o.early) owned)

      now : (f : List (TxId × Transaction) → ℕ) → f step.state.live ≡ f (s.live ++ (next_tx s, fresh) ∷ [])
      now f = ap f live_is

      none : (b : Bool) → one_if (b && false) ≡ 0
      none true = refl
      none false = refl

      length_last : (live : List (TxId × Transaction)) → length (live ++ (next_tx s, fresh) ∷ []) ≡ length live + 1
      length_last [] = refl
      length_last (x ∷ live) = omega (arith, length_last live)

      fewer : length s.live < TRANSACTIONS
      fewer = by (nat_le TRANSACTIONS (length s.live)) refl room
        where
          by : (b : Bool) → nat_le TRANSACTIONS (length s.live) ≡ b → is_full s ≡ false → length s.live < TRANSACTIONS
          by true e full = absurd (false≢true (sym full ∙ ap (λ b. b || (s.next_seq == 2 ^ 64 - 1)) e))
          by false e full = grind (arith, nat_tests, e)
  step_of_counts step (takes about t front back was is) = by (turn_counts s one t body turn (turn_moves s body t about))
    where
      one : TxId
      one = tx_in body

      turn : Turn
      turn = turn_row s body t

      sends_are : step.effects.sends ≡ turn.step.effects.sends
      sends_are = ap (λ (x : Step TcState). x.effects.sends) is

      live_over : (b : Bool) → turn.over ≡ b
          → step.state.live ≡ (if b then front ++ back else front ++ (one, turn.step.state) ∷ back)
      live_over b e = ap (λ (x : Step TcState). x.state.live) is
          ∙ ap (λ b. if b then front ++ back else front ++ (one, turn.step.state) ∷ back) e

      was_all : tally is_counted_one s.live ≡ tally is_counted_one (front ++ back) + one_if (is_counted t.phase)
      was_all = tally_between is_counted_one front (one, t) back s.live was

      was_one : (v : TxId)
          → tally (is_counted_as v) s.live
          ≡ tally (is_counted_as v) (front ++ back) + one_if (same_tx v one && is_counted t.phase)
      was_one v = tally_between (is_counted_as v) front (one, t) back s.live was

      was_length : length s.live ≡ length (front ++ back) + 1
      was_length = ap length was ∙ length_between front (one, t) back

      now_all : tally is_counted_one (front ++ (one, turn.step.state) ∷ back)
          ≡ tally is_counted_one (front ++ back) + one_if (is_counted turn.step.state.phase)
      now_all = tally_between is_counted_one front (one, turn.step.state) back _ refl

      now_one : (v : TxId)
          → tally (is_counted_as v) (front ++ (one, turn.step.state) ∷ back)
          ≡ tally (is_counted_as v) (front ++ back) + one_if (same_tx v one && is_counted turn.step.state.phase)
      now_one v = tally_between (is_counted_as v) front (one, turn.step.state) back _ refl

      now_length : length (front ++ (one, turn.step.state) ∷ back) ≡ length (front ++ back) + 1
      now_length = length_between front (one, turn.step.state) back

      both : (a : Bool) → (a && false) ≡ false
      both true = refl
      both false = refl

      alone : (a : Bool) → (a && true) ≡ a
      alone true = refl
      alone false = refl

      by : TurnCounts s.node one t turn → StepCounts at step.state step.effects.sends c
      by (unchanged over keeps_it kind) =
          let live = live_over false over in
          plain_step step (ap (are_of is_epochless) sends_are ∙ kind)
          (omega (arith, ap (tally is_counted_one) live, now_all, was_all, ap one_if keeps_it))
          (λ v. omega (
            arith,
            ap (tally (is_counted_as v)) live,
            now_one v,
            was_one v,
            ap (λ b. one_if (same_tx v one && b)) keeps_it,
          ))
          (omega (arith, k.room, ap length live, now_length, was_length))
      by (gone over none kind) =
          let live = live_over true over in
          plain_step step (ap (are_of is_epochless) sends_are ∙ kind)
          (omega (arith, ap (tally is_counted_one) live, was_all, ap one_if none))
          (λ v. omega (
            arith,
            ap (tally (is_counted_as v)) live,
            was_one v,
            ap (λ b. one_if (same_tx v one && b)) none,
            ap one_if (both (same_tx v one)),
          ))
          (omega (arith, k.room, ap length live, was_length))
      by (asking ops over none some told) =
          let live = live_over false over in
          let sends = sends_are ∙ told in
          subst (λ xs. StepCounts at step.state xs c) (sym sends) (record {
            counted = record {
              all = omega (
                arith,
                ap length grown,
                length_end c,
                k.all,
                ap (tally is_counted_one) live,
                now_all,
                was_all,
                ap one_if none,
                ap one_if some,
              );
              own = λ v. omega (
                arith,
                ap (tally (same_tx v)) grown,
                tally_append (same_tx v) c (one ∷ []),
                k.own v,
                ap (tally (is_counted_as v)) live,
                now_one v,
                was_one v,
                ap (λ b. one_if (same_tx v one && b)) none,
                ap (λ b. one_if (same_tx v one && b)) some,
                ap one_if (both (same_tx v one)),
                ap one_if (alone (same_tx v one)),
              );
              room = omega (arith, k.room, ap length live, now_length, was_length);
            };
            few = (λ e. fewer, tt);
          })
        where
          fewer : length c < TRANSACTIONS
          fewer = omega (
            arith,
            k.all,
            k.room,
            was_all,
            was_length,
            tally_under is_counted_one (front ++ back),
            ap one_if none,
          )

          grown : sends_count at (to_place (epochs s.node) (Epoch (DiVerifyReq one ops)) ∷ []) c ≡ c ++ one ∷ []
          grown = ap (λ b. counts_if b (Epoch (DiVerifyReq one ops)) c) own_place ∙ asked_count c one fewer

          length_end : (xs : List TxId) → length (xs ++ one ∷ []) ≡ length xs + 1
          length_end [] = refl
          length_end (x ∷ xs) = omega (arith, length_end xs)
      by (ending over some before behind kind other told) =
          let live = live_over true over in
          let sends = sends_are ∙ told in
          subst (λ xs. StepCounts at step.state xs c) (sym sends) (record {
            counted = record {
              all = omega (
                arith,
                ap length fewer_is,
                less.fewer,
                k.all,
                ap (tally is_counted_one) live,
                was_all,
                ap one_if some,
              );
              own = λ v. omega (
                arith,
                ap (tally (same_tx v)) fewer_is,
                less.own v,
                k.own v,
                ap (tally (is_counted_as v)) live,
                was_one v,
                ap (λ b. one_if (same_tx v one && b)) some,
                ap one_if (alone (same_tx v one)),
              );
              room = omega (arith, k.room, ap length live, was_length);
            };
            few = few_append at before (verify_end s.node one ∷ behind) c first.1
                (λ e. absurd (no_ask (at (epochs s.node)) e), last_few);
          })
        where
          first : (sends_count at before c ≡ c) × SendsFew at before c
          first = plain_counts at before c kind

          there : 1 ≤ tally (same_tx one) c
          there = omega (
            arith,
            k.own one,
            was_one one,
            ap (λ b. one_if (same_tx one one && b)) some,
            ap one_if (alone (same_tx one one)),
            ap one_if (same_tx-self one),
          )

          less : IsWithout one c (ended_by c (position (same_tx one) c))
          less = ended_count c one there

          ended_is : (d : List TxId)
              → counts_if (at (epochs s.node) && true) (verify_end s.node one).body d
              ≡ ended_by d (position (same_tx one) d)
          ended_is d = ap (λ b. counts_if b (verify_end s.node one).body d) own_place

          last : (d : List TxId) → (sends_count at behind d ≡ d) × SendsFew at behind d
          last d = plain_counts at behind d other

          last_few : SendsFew at behind
              (counts_if (at (epochs s.node) && true) (verify_end s.node one).body (sends_count at before c))
          last_few = (last _).1

          no_ask : (b : Bool) → (b && (true && false)) ≡ true → ⊥
          no_ask true e = false≢true e
          no_ask false e = false≢true e

          fewer_is : sends_count at (before ++ verify_end s.node one ∷ behind) c ≡ ended_by c (position (same_tx one) c)
          fewer_is =
              count_append at before (verify_end s.node one ∷ behind) c
              ∙ (ap (λ d. sends_count at (verify_end s.node one ∷ behind) d) first.0 ∙ ((last _).0 ∙ ended_is c))

  pub step_counts : StepCounts at (tc_table s body).state (tc_table s body).effects.sends c
  step_counts = step_of_counts (tc_table s body) (tc_step s body)
