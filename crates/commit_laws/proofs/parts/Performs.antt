-- What an operation of a transaction leaves where it is performed: at the primary its answer or its image, at each
-- place behind the image, and an answer when all places have that.
use Rattle.std.proofs.Common.{◌≡◌, ◌≢◌, ◌<◌, ◌⊎◌, ◌||◌, ◌+◌, ◌++◌, ◌∙◌, ℕ, zero, suc, Bool, true, false, not, List, []}
use Rattle.std.proofs.Common.{◌∷◌, refl, sym, ap, subst, inl, inr, arith}
use Rattle.std.proofs.lemmas.Bool.{cases_eq, true≢false}
use Rattle.std.proofs.lemmas.List.Folds.{list_any-append}
use Rattle.std.specs.List.{list_any, slice_get}
use Rattle.std.specs.Prelude.{Option, None, Some}
use Rattle.run_theory.specs.Lists.{IsIn}
use Rattle.frag_map.specs.Layout.{chain_of}
use Rattle.row_locks.specs.declared.mode.Mode.TheVariants.{Exclusive}
use Rattle.row_locks.specs.Holders.{holds, holds_enough}
use Rattle.sig_core.specs.declared.member.Member.{Member}
use Rattle.sig_core.specs.declared.member.TxId.{TxId}
use Rattle.sig_core.specs.declared.op.Answer.{Answer}
use Rattle.sig_core.specs.declared.op.Answer.TheVariants.{Done, E626, E630, Found, Missing}
use Rattle.sig_core.specs.declared.op.Op.{Op}
use Rattle.sig_core.specs.Op.{answer_to, image_of, key_of}
use Rattle.sig_core.specs.Same.{same_key}
use Rattle.tc_block.specs.declared.transaction.Transaction.{Transaction}
use Rattle.key_laws.specs.OneKey.{AreRight, ops_on, row_after, row_after_all, row_by}
use Rattle.key_laws.specs.Records.{found, seen_by}
use Rattle.key_laws.proofs.Holding.{holds_so}
use Rattle.run_laws.proofs.circle.OthersStay.{filter-end}
use Rattle.world_core.specs.History.{is_done}
use Rattle.world_core.specs.Start.{Start, made}
use Rattle.world_core.specs.Steps.{HostStep}
use Rattle.moment_laws.specs.Moments.{current}
use Rattle.request_laws.specs.Routed.{layout_in}
use Rattle.commit_laws.specs.Going.{is_written_by}
use Rattle.commit_laws.specs.Parts.{IsAsked, IsStoredTo}
use Rattle.commit_laws.specs.Settled.{HasImageIf, IsPrimary, IsSettledWith, is_changing, is_get, row_behind}
use Rattle.commit_laws.specs.Traces.{IsReplicaOf, record_at, replica_at}
use Rattle.commit_laws.proofs.commits.Places.{place_of}

-- operations with one more
pub right_more : (row : Option (List ℕ)) (ops : List (Op × Answer)) (op : Op) (answer : Answer) → AreRight row ops
    → answer ≡ answer_to op (row_after_all row ops) → AreRight row (ops ++ (op, answer) ∷ [])
right_more row [] op answer right is = (is, tt)
right_more row (one ∷ ops) op answer right is = (right.0, right_more (row_after one.0 row) ops op answer right.1 is)

pub row_more : (row : Option (List ℕ)) (ops : List (Op × Answer)) (op : Op) (answer : Answer)
    → row_after_all row (ops ++ (op, answer) ∷ []) ≡ row_after op (row_after_all row ops)
row_more row [] op answer = refl
row_more row (one ∷ ops) op answer = row_more (row_after one.0 row) ops op answer

-- what took no effect leaves the row
pub row_unless : (answer : Answer) (op : Op) (row : Option (List ℕ)) → is_done answer ≡ false
    → row_by answer op row ≡ row
row_unless Done op row off = absurd (true≢false off)
row_unless (Found value) op row off = refl
row_unless Missing op row off = refl
row_unless E626 op row off = refl
row_unless E630 op row off = refl

pub row_unwritten : (row : Option (List ℕ)) (ops : List (Op × Answer)) → AreRight row ops
    → list_any (λ (op : Op × Answer). is_done op.1) ops ≡ false → row_after_all row ops ≡ row
row_unwritten row [] right none = refl
row_unwritten row (one ∷ ops) right none =
    let parts = neither (is_done one.1) (list_any (λ (op : Op × Answer). is_done op.1) ops) none in
    let same : row_after one.0 row ≡ row =
    ap (λ a. row_by a one.0 row) (sym right.0) ∙ row_unless one.1 one.0 row parts.0 in
    ap (λ w. row_after_all w ops) same
    ∙ row_unwritten row ops (subst (λ w. AreRight w ops) same right.1) parts.1
  where
    neither : (a b : Bool) → (a || b) ≡ false → (a ≡ false) × (b ≡ false)
    neither true b is = absurd (true≢false is)
    neither false b is = (refl, is)

or_none : (a b : Bool) → b ≡ false → (a || (b || false)) ≡ a
or_none true b off = refl
or_none false b off = ap (λ b. b || false) off

or_some : (a b : Bool) → b ≡ true → (a || (b || false)) ≡ true
or_some true b is = refl
or_some false b is = ap (λ b. b || false) is

or_cases : (a b : Bool) → (a || (b || false)) ≡ true → (a ≡ true) ⊎ (b ≡ true)
or_cases true b is = inl refl
or_cases false true is = inr refl
or_cases false false is = absurd (true≢false (sym is))

module _ (start : Start) (logs : ℕ → List HostStep) (key : List ℕ) (tx : TxId) where
  abbrev chain_now : List Member
  chain_now = chain_of (layout_in start (current start logs)) key

  abbrev row_at : Member → Option (List ℕ)
  row_at m = (replica_at start logs m key).cell.row

  -- the operations on the key, with one more
  own_more : (ops : List (Op × Answer)) (op : Op) (answer : Answer) → same_key (key_of op) key ≡ true
      → ops_on key (ops ++ (op, answer) ∷ []) ≡ ops_on key ops ++ (op, answer) ∷ []
  own_more ops op answer here =
      filter-end (λ (o : Op × Answer). same_key (key_of o.0) key) ops (op, answer) true here

  written_more : (ops : List (Op × Answer)) (op : Op) (answer : Answer) → same_key (key_of op) key ≡ true
      → is_written_by (ops ++ (op, answer) ∷ []) key ≡ (is_written_by ops key || (is_done answer || false))
  written_more ops op answer here =
      ap (list_any (λ (o : Op × Answer). is_done o.1)) (own_more ops op answer here)
      ∙ list_any-append (λ (o : Op × Answer). is_done o.1) (ops_on key ops) ((op, answer) ∷ [])

  changing_more : (ops : List (Op × Answer)) (op : Op) (answer : Answer) → same_key (key_of op) key ≡ true
      → is_changing (ops_on key (ops ++ (op, answer) ∷ []))
      ≡ (is_changing (ops_on key ops) || (not (is_get op) || false))
  changing_more ops op answer here =
      ap is_changing (own_more ops op answer here)
      ∙ list_any-append (λ (o : Op × Answer). not (is_get o.0)) (ops_on key ops) ((op, answer) ∷ [])

  behind_more : (p : Member) (ops : List (Op × Answer)) (op : Op) (answer : Answer) → same_key (key_of op) key ≡ true
      → row_behind start logs key p (ops ++ (op, answer) ∷ []) ≡ row_after op (row_behind start logs key p ops)
  behind_more p ops op answer here =
      ap (row_after_all (row_at p)) (own_more ops op answer here) ∙ row_more (row_at p) (ops_on key ops) op answer

  -- When all places have the image, the operation is answered rightly.
  module _ (t : Transaction) (image : Option (List ℕ)) (at : ℕ) (all : IsStoredTo start logs key tx t image at)
      (last : slice_get (chain_of (layout_in start (current start logs)) key) at ≡ None)
    where
      abbrev done_ops : List (Op × Answer)
      done_ops = t.ops ++ (all.op, Done) ∷ []

      none_behind : (xs : List Member) (n k : ℕ) (m : Member) → slice_get xs n ≡ None → slice_get xs k ≡ Some m → k < n
      none_behind [] n k m none is = absurd cc
      none_behind (y ∷ xs) zero k m none is = absurd cc
      none_behind (y ∷ xs) (suc n) zero m none is = omega arith
      none_behind (y ∷ xs) (suc n) (suc k) m none is = let low = none_behind xs n k m none is in omega (arith, low)

      left_is : (p : Member) → IsPrimary start logs key p → row_behind start logs key p done_ops ≡ image
      left_is p is =
          behind_more p t.ops all.op Done all.asks.here
          ∙ (ap (λ a. row_by a all.op (row_behind start logs key p t.ops)) (all.takes_effect p is) ∙ all.image_is)

      wrote : is_written_by done_ops key ≡ true
      wrote = written_more t.ops all.op Done all.asks.here ∙ or_some (is_written_by t.ops key) true refl

      pub whole_settled : IsSettledWith start logs key tx (t.ops ++ (all.op, Done) ∷ [])
      whole_settled = record {
        right = λ p is.
            subst (AreRight (row_at p)) (sym (own_more t.ops all.op Done all.asks.here))
            (right_more (row_at p) (ops_on key t.ops) all.op Done (all.right p is) (sym (all.takes_effect p is)));
        images = λ p is m replica.
            let place = place_of chain_now m replica.chained in
            subst (λ b. HasImageIf b (row_behind start logs key p done_ops) (record_at start logs m key tx)) (sym wrote)
            (subst (λ w. HasImageIf true w (record_at start logs m key tx)) (sym (left_is p is))
            (all.stored place.at m (none_behind chain_now at place.at m last place.is) place.is));
        others = all.others;
        held = λ p is. inr (holds_so tx Exclusive (replica_at start logs p key).lock.holders (all.held p is));
        exclusive = λ p is changing. all.held p is;
      }

-- A member performs it, and all others have what they had.
module _ (start : Start) (old new : ℕ → List HostStep) (same : current start new ≡ current start old) (key : List ℕ)
    (tx : TxId)
    (me : Member)
    (others_same : (m : Member) → IsIn m (made start)
    → (m ≡ me) ⊎ (replica_at start new m key ≡ replica_at start old m key))
    (chain_made : (place : ℕ) (m : Member)
    → slice_get (chain_of (layout_in start (current start old)) key) place ≡ Some m
    → IsReplicaOf start old key m × IsIn m (made start))
    (row_same : (replica_at start new me key).cell.row ≡ (replica_at start old me key).cell.row)
    (t : Transaction)
  where
    abbrev chain_old : List Member
    chain_old = chain_of (layout_in start (current start old)) key

    was_at : (place : ℕ) (m : Member) → slice_get (chain_of (layout_in start (current start new)) key) place ≡ Some m
        → slice_get chain_old place ≡ Some m
    was_at place m is = subst (λ v. slice_get (chain_of (layout_in start v) key) place ≡ Some m) same is

    was_replica : (m : Member) → IsReplicaOf start new key m → IsReplicaOf start old key m
    was_replica m is = record {
      full = subst (λ v. IsIn m v.full) same is.full;
      chained = subst (λ v. IsIn m (chain_of (layout_in start v) key)) same is.chained;
    }

    is_replica : (m : Member) → IsReplicaOf start old key m → IsReplicaOf start new key m
    is_replica m is = record {
      full = subst (λ v. IsIn m v.full) (sym same) is.full;
      chained = subst (λ v. IsIn m (chain_of (layout_in start v) key)) (sym same) is.chained;
    }

    rows_same : (m : Member) → IsIn m (made start)
        → (replica_at start new m key).cell.row ≡ (replica_at start old m key).cell.row
    rows_same m there = by (others_same m there)
      where
        by : (m ≡ me) ⊎ (replica_at start new m key ≡ replica_at start old m key)
            → (replica_at start new m key).cell.row ≡ (replica_at start old m key).cell.row
        by (inl is) =
            subst (λ k. (replica_at start new k key).cell.row ≡ (replica_at start old k key).cell.row) (sym is) row_same
        by (inr is) = ap (λ r. r.cell.row) is

    some_is : (a b : Member) → Some a ≡ Some b → a ≡ b
    some_is a b is = cc

    now_asked : (op : Op) → IsAsked start old key tx t op → IsAsked start new key tx t op
    now_asked op asks = record { asked = asks.asked; is = asks.is; op_is = asks.op_is; here = asks.here }

    primary_row : (p : Member) → IsPrimary start new key p
        → (replica_at start new p key).cell.row ≡ (replica_at start old p key).cell.row
    primary_row p is = rows_same p (chain_made 0 p (was_at 0 p is)).1

    -- an image is prepared here
    module _ (image : Option (List ℕ)) (has : HasImageIf true image (record_at start new me key tx)) where
      others_none : IsReplicaOf start old key me → (m : Member) → IsIn m (made start)
          → (IsReplicaOf start new key m → ⊥)
          → record_at start old m key tx ≡ None → record_at start new m key tx ≡ None
      others_none replica m there off none = by (others_same m there)
        where
          by : (m ≡ me) ⊎ (replica_at start new m key ≡ replica_at start old m key)
              → record_at start new m key tx ≡ None
          by (inl is) = absurd (off (subst (IsReplicaOf start new key) (sym is) (is_replica me replica)))
          by (inr is) = ap (λ r. found tx r.cell.pending) is ∙ none

      -- at a place behind others that have it
      pub stored_on : (at : ℕ) → IsStoredTo start old key tx t image at
          → slice_get (chain_of (layout_in start (current start old)) key) at ≡ Some me
          → (holds_enough tx Exclusive (replica_at start old me key).lock.holders ≡ true
          → holds_enough tx Exclusive (replica_at start new me key).lock.holders ≡ true)
          → IsStoredTo start new key tx t image (at + 1)
      stored_on at was place on = record {
        op = was.op;
        asks = now_asked was.op was.asks;
        image_is = was.image_is;
        takes_effect = λ p is.
            subst (λ row. answer_to was.op (row_after_all row (ops_on key t.ops)) ≡ Done) (sym (primary_row p is))
            (was.takes_effect p (was_at 0 p is));
        right = λ p is.
            subst (λ row. AreRight row (ops_on key t.ops)) (sym (primary_row p is)) (was.right p (was_at 0 p is));
        stored = λ k m low is. stored_at k m (was_at k m is) low (cases_eq k at);
        others = λ m there off.
            others_none (chain_made at me place).0 m there off (was.others m there (λ is. off (is_replica m is)));
        held = λ p is. held_at p (was_at 0 p is) (others_same p (chain_made 0 p (was_at 0 p is)).1);
      }
        where
          stored_at : (k : ℕ) (m : Member) → slice_get chain_old k ≡ Some m → k < at + 1 → (k ≡ at) ⊎ (k ≢ at)
              → HasImageIf true image (record_at start new m key tx)
          stored_at k m is low (inl here) =
              subst (λ n. HasImageIf true image (record_at start new n key tx))
              (some_is me m (sym place ∙ (ap (slice_get chain_old) (sym here) ∙ is))) has
          stored_at k m is low (inr off) = by (others_same m (chain_made k m is).1)
            where
              less : k < at
              less = omega (arith, low, off)

              by : (m ≡ me) ⊎ (replica_at start new m key ≡ replica_at start old m key)
                  → HasImageIf true image (record_at start new m key tx)
              by (inl same_as) = subst (λ n. HasImageIf true image (record_at start new n key tx)) (sym same_as) has
              by (inr kept) =
                  subst (λ r. HasImageIf true image (found tx r.cell.pending)) (sym kept) (was.stored k m less is)

          held_at : (p : Member) → slice_get chain_old 0 ≡ Some p
              → (p ≡ me) ⊎ (replica_at start new p key ≡ replica_at start old p key)
              → holds_enough tx Exclusive (replica_at start new p key).lock.holders ≡ true
          held_at p is (inl same_as) =
              subst (λ n. holds_enough tx Exclusive (replica_at start new n key).lock.holders ≡ true) (sym same_as)
              (on (subst (λ n. holds_enough tx Exclusive (replica_at start old n key).lock.holders ≡ true) same_as
              (was.held p is)))
          held_at p is (inr kept) =
              ap (λ r. holds_enough tx Exclusive r.lock.holders) kept ∙ was.held p is

    -- An operation is performed here, at the primary.
    module _ (primary : IsPrimary start old key me) (settled : IsSettledWith start old key tx t.ops) (op : Op)
        (asks : IsAsked start old key tx t op)
      where
        abbrev left : Option (List ℕ)
        left = row_behind start old key me t.ops

        replica_me : IsReplicaOf start old key me
        replica_me = (chain_made 0 me primary).0

        is_me : (p : Member) → IsPrimary start new key p → p ≡ me
        is_me p is = some_is p me (sym (was_at 0 p is) ∙ primary)

        left_same : row_behind start new key me t.ops ≡ row_behind start old key me t.ops
        left_same = ap (λ row. row_after_all row (ops_on key t.ops)) row_same

        -- the row that it sees is the one that the operations before it leave
        pub seen_is : seen_by (replica_at start old me key).cell.row (record_at start old me key tx)
            ≡ row_behind start old key me t.ops
        seen_is = by (is_written_by t.ops key) refl
          where
            by : (b : Bool) → is_written_by t.ops key ≡ b
                → seen_by (replica_at start old me key).cell.row (record_at start old me key tx) ≡ left
            by true wrote =
                let image : HasImageIf true left (record_at start old me key tx) =
                subst (λ b. HasImageIf b left (record_at start old me key tx)) wrote
                (settled.images me primary me replica_me) in
                ap (seen_by (replica_at start old me key).cell.row) image.1.0 ∙ image.1.1.1
            by false off =
                ap (seen_by (replica_at start old me key).cell.row)
                (subst (λ b. HasImageIf b left (record_at start old me key tx)) off
                (settled.images me primary me replica_me))
                ∙ sym (row_unwritten (replica_at start old me key).cell.row (ops_on key t.ops)
                (settled.right me primary) off)

        right_me : AreRight (replica_at start new me key).cell.row (ops_on key t.ops)
        right_me = subst (λ row. AreRight row (ops_on key t.ops)) (sym row_same) (settled.right me primary)

        at_me : (P : Member → Type 0) → P me → (p : Member) → IsPrimary start new key p → P p
        at_me P is p first = subst P (sym (is_me p first)) is

        -- it takes effect, and its image is prepared
        pub stored_first : answer_to op (row_behind start old key me t.ops) ≡ Done
            → holds_enough tx Exclusive (replica_at start new me key).lock.holders ≡ true
            → HasImageIf true (image_of op) (record_at start new me key tx)
            → IsStoredTo start new key tx t (image_of op) 1
        stored_first done exclusive has = record {
          op = op;
          asks = now_asked op asks;
          image_is = refl;
          takes_effect =
              at_me (λ p. answer_to op (row_behind start new key p t.ops) ≡ Done) (ap (answer_to op) left_same ∙ done);
          right = at_me (λ p. AreRight (replica_at start new p key).cell.row (ops_on key t.ops)) right_me;
          stored = λ k m low is. stored_at k m (was_at k m is) low;
          others = λ m there off.
              others_none (image_of op) has replica_me m there off
              (settled.others m there (λ is. off (is_replica m is)));
          held = at_me (λ p. holds_enough tx Exclusive (replica_at start new p key).lock.holders ≡ true) exclusive;
        }
          where
            stored_at : (k : ℕ) (m : Member) → slice_get chain_old k ≡ Some m → k < 1
                → HasImageIf true (image_of op) (record_at start new m key tx)
            stored_at zero m is low =
                subst (λ n. HasImageIf true (image_of op) (record_at start new n key tx))
                (some_is me m (sym primary ∙ is)) has
            stored_at (suc k) m is low = absurd (omega (arith, low))

        -- it takes none, and is answered
        module _ (answer : Answer) (answer_is : answer ≡ answer_to op (row_behind start old key me t.ops))
            (off : is_done answer ≡ false) (rec : record_at start new me key tx ≡ record_at start old me key tx)
            (held_now : holds tx (replica_at start new me key).lock.holders ≡ true)
            (kept : holds_enough tx Exclusive (replica_at start old me key).lock.holders ≡ true
            → holds_enough tx Exclusive (replica_at start new me key).lock.holders ≡ true)
            (for_change : is_get op ≡ false
            → holds_enough tx Exclusive (replica_at start new me key).lock.holders ≡ true)
          where
            abbrev more : List (Op × Answer)
            more = t.ops ++ (op, answer) ∷ []

            rec_same : (m : Member) → IsIn m (made start) → record_at start new m key tx ≡ record_at start old m key tx
            rec_same m there = by (others_same m there)
              where
                by : (m ≡ me) ⊎ (replica_at start new m key ≡ replica_at start old m key)
                    → record_at start new m key tx ≡ record_at start old m key tx
                by (inl is) =
                    subst (λ k. record_at start new k key tx ≡ record_at start old k key tx) (sym is) rec
                by (inr is) = ap (λ r. found tx r.cell.pending) is

            written_same : is_written_by more key ≡ is_written_by t.ops key
            written_same =
                written_more start old key tx t.ops op answer asks.here
                ∙ or_none (is_written_by t.ops key) (is_done answer) off

            left_more : row_behind start new key me more ≡ left
            left_more =
                behind_more start new key tx me t.ops op answer asks.here
                ∙ (ap (row_after op) left_same
                ∙ (ap (λ a. row_by a op left) (sym answer_is) ∙ row_unless answer op left off))

            right_then : AreRight (replica_at start new me key).cell.row (ops_on key more)
            right_then =
                subst (AreRight (replica_at start new me key).cell.row)
                (sym (own_more start old key tx t.ops op answer asks.here))
                (right_more (replica_at start new me key).cell.row (ops_on key t.ops) op answer right_me
                (answer_is ∙ ap (answer_to op) (sym left_same)))

            images_me : (m : Member) → IsReplicaOf start new key m
                → HasImageIf (is_written_by more key) (row_behind start new key me more) (record_at start new m key tx)
            images_me m replica =
                let was = was_replica m replica in
                let place = place_of chain_old m was.chained in
                subst (λ b. HasImageIf b (row_behind start new key me more) (record_at start new m key tx))
                (sym written_same)
                (subst (λ w. HasImageIf (is_written_by t.ops key) w (record_at start new m key tx)) (sym left_more)
                (subst (HasImageIf (is_written_by t.ops key) left) (sym (rec_same m (chain_made place.at m place.is).1))
                (settled.images me primary m was)))

            changing : is_changing (ops_on key more) ≡ true
                → holds_enough tx Exclusive (replica_at start new me key).lock.holders ≡ true
            changing is =
                by (or_cases (is_changing (ops_on key t.ops)) (not (is_get op))
                (sym (changing_more start old key tx t.ops op answer asks.here) ∙ is))
              where
                not_true : (b : Bool) → not b ≡ true → b ≡ false
                not_true true is = absurd (true≢false (sym is))
                not_true false is = refl

                by : (is_changing (ops_on key t.ops) ≡ true) ⊎ (not (is_get op) ≡ true)
                    → holds_enough tx Exclusive (replica_at start new me key).lock.holders ≡ true
                by (inl before) = kept (settled.exclusive me primary before)
                by (inr now) = for_change (not_true (is_get op) now)

            pub answered_settles : IsSettledWith start new key tx (t.ops ++ (op, answer) ∷ [])
            answered_settles = record {
              right = at_me (λ p. AreRight (replica_at start new p key).cell.row (ops_on key more)) right_then;
              images =
                  at_me
                  (λ p. (m : Member) → IsReplicaOf start new key m
                  → HasImageIf (is_written_by more key) (row_behind start new key p more)
                  (record_at start new m key tx))
                  images_me;
              others = λ m there no_replica.
                  rec_same m there ∙ settled.others m there (λ is. no_replica (is_replica m is));
              held =
                  at_me
                  (λ p. (ops_on key more ≡ []) ⊎ (holds tx (replica_at start new p key).lock.holders ≡ true))
                  (inr held_now);
              exclusive =
                  at_me
                  (λ p. is_changing (ops_on key more) ≡ true
                  → holds_enough tx Exclusive (replica_at start new p key).lock.holders ≡ true) changing;
            }
