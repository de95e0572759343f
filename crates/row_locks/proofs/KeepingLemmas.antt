-- Where waits end and some holders let go, each lock stays orderly, and of each key those are left that are to stay.
use Rattle.std.proofs.Common.{◌≡◌, ℕ, ◌+◌, ◌≤◌, Bool, true, false, not, ◌||◌, cond, List, [], ◌∷◌, length, map, refl}
use Rattle.std.proofs.Common.{ap, sym, ◌∙◌, subst, arith, Ordering}
use Rattle.std.proofs.lemmas.Bool.{true≢false, and_parts, and_from, not-true, or_parts, or_from}
use Rattle.std.proofs.lemmas.Map.Entries.{option_filter, lookup-filter-values}
use Rattle.std.proofs.lemmas.Map.Keys.{IsDistinct-from_sorted}
use Rattle.std.specs.Prelude.{Option, Some, None, filter, option_map}
use Rattle.std.specs.Ordering.{eq_by_cmp}
use Rattle.std.specs.Cmp.{Equal-is, eq_by_cmp_equiv}
use Rattle.std.specs.Cmp.Lexicographic.{nat_list_cmp_total}
use Rattle.std.specs.List.{IsDistinct}
use Rattle.std.specs.Map.{keys_of, lookup}
use Rattle.std.specs.Map.Calls.{RetainsPairs}
use Rattle.std.specs.BTreeMap.{is_at}
use Rattle.std.specs.FinMap as finite
use Rattle.sig_core.proofs.TableLemmas.{find-lookup}
use Rattle.sig_core.specs.declared.member.TxId.{TxId}
use Rattle.sig_core.specs.Same.{same_tx}
use Rattle.row_locks.specs.declared.claim.Holder.{Holder}
use Rattle.row_locks.specs.declared.claim.Wait.{Wait}
use Rattle.row_locks.specs.declared.mode.Mode.{Mode}
use Rattle.row_locks.specs.Holders.{agrees_with, holds}
use Rattle.row_locks.specs.Keeping.{all_left_to, left_to}
use Rattle.row_locks.specs.Modes.{agree}
use Rattle.row_locks.specs.Orderly.{IsOrderly, are_agreed, are_held_once}
use Rattle.row_locks.specs.OrderlyTables.{AreOrderly}
use Rattle.row_locks.specs.Rounds.{is_used}
use Rattle.row_locks.specs.Rows.{RowLock, row_lock}
use Rattle.row_locks.specs.Tables.{Locks, is_idle, lock_at, or_unlocked}
use Rattle.row_locks.proofs.LocksLemmas.{key_cmp, get-locks}
use Rattle.row_locks.proofs.TableLawLemmas.{some_none, unlocked_orderly}
use Rattle.row_locks.proofs.UnqueuedLemmas.{holds_true, rising}

module _ {F : Type 0} (T : F → List ℕ → RowLock → Bool → RowLock → F → Type 0) where
  -- the entries that are left, each with those that stay
  pub retained_left : (stays : List ℕ → TxId → Bool) (f : F)
      → ((k : List ℕ) (v : RowLock) (b : Bool) (w : RowLock) (g : F) → T f k v b w g
      → (b ≡ is_used (k, left_to (stays k) v)) × (w ≡ left_to (stays k) v) × (g ≡ f))
      → (es kept : List (List ℕ × RowLock)) → RetainsPairs T f es kept
      → kept ≡ filter is_used (map (λ e. (e.0, left_to (stays e.0) e.1)) es)
  retained_left stays f told [] kept r = r
  retained_left stays f told (e ∷ es) kept r =
      let a = told e.0 e.1 r.0 r.1 r.2 r.4 in
      let rest = retained_left stays f told es r.3 (subst (λ u. RetainsPairs T u es r.3) a.2 r.5) in
      r.6 ∙ (λ i. cond (a.0 i) ((e.0, a.1 i) ∷ rest i) (rest i))

-- of the holders of one key

module _ (stays : TxId → Bool) where
  abbrev left : List Holder → List Holder
  left hs = filter (λ h. stays h.tx) hs

  unheld_if : (u : TxId) (h : Holder) (rest : List Holder) (b : Bool) → same_tx h.tx u ≡ false → holds u rest ≡ false
      → holds u (cond b (h ∷ rest) rest) ≡ false
  unheld_if u h rest true e r = or_from (same_tx h.tx u) (holds u rest) e r
  unheld_if u h rest false e r = r

  unheld-left : (u : TxId) (hs : List Holder) → holds u hs ≡ false → holds u (left hs) ≡ false
  unheld-left u [] n = refl
  unheld-left u (h ∷ hs) n =
      let parts = or_parts (same_tx h.tx u) (holds u hs) n in
      unheld_if u h (left hs) (stays h.tx) parts.0 (unheld-left u hs parts.1)

  once_if : (h : Holder) (rest : List Holder) (b : Bool) → holds h.tx rest ≡ false → are_held_once rest ≡ true
      → are_held_once (cond b (h ∷ rest) rest) ≡ true
  once_if h rest true n r = and_from (not (holds h.tx rest)) (are_held_once rest) (ap not n) r
  once_if h rest false n r = r

  once-left : (hs : List Holder) → are_held_once hs ≡ true → are_held_once (left hs) ≡ true
  once-left [] o = refl
  once-left (h ∷ hs) o =
      let parts = and_parts (not (holds h.tx hs)) (are_held_once hs) o in
      once_if h (left hs) (stays h.tx) (unheld-left h.tx hs (not-true _ parts.0)) (once-left hs parts.1)

  agrees_if : (u : TxId) (m : Mode) (h : Holder) (rest : List Holder) (b : Bool)
      → (same_tx h.tx u || agree h.mode m) ≡ true → agrees_with u m rest ≡ true
      → agrees_with u m (cond b (h ∷ rest) rest) ≡ true
  agrees_if u m h rest true e r = and_from _ _ e r
  agrees_if u m h rest false e r = r

  agrees-left : (u : TxId) (m : Mode) (hs : List Holder) → agrees_with u m hs ≡ true → agrees_with u m (left hs) ≡ true
  agrees-left u m [] a = refl
  agrees-left u m (h ∷ hs) a =
      let parts = and_parts (same_tx h.tx u || agree h.mode m) (agrees_with u m hs) a in
      agrees_if u m h (left hs) (stays h.tx) parts.0 (agrees-left u m hs parts.1)

  agreed_if : (h : Holder) (rest : List Holder) (b : Bool) → agrees_with h.tx h.mode rest ≡ true
      → are_agreed rest ≡ true → are_agreed (cond b (h ∷ rest) rest) ≡ true
  agreed_if h rest true a r = and_from _ _ a r
  agreed_if h rest false a r = r

  agreed-left : (hs : List Holder) → are_agreed hs ≡ true → are_agreed (left hs) ≡ true
  agreed-left [] a = refl
  agreed-left (h ∷ hs) a =
      let parts = and_parts (agrees_with h.tx h.mode hs) (are_agreed hs) a in
      agreed_if h (left hs) (stays h.tx) (agrees-left h.tx h.mode hs parts.0) (agreed-left hs parts.1)

  fewer_if : (h : Holder) (rest : List Holder) (b : Bool) (n : ℕ) → length rest ≤ n
      → length (cond b (h ∷ rest) rest) ≤ n + 1
  fewer_if h rest true n few = omega (arith, few)
  fewer_if h rest false n few = omega (arith, few)

  fewer-left : (hs : List Holder) → length (left hs) ≤ length hs
  fewer-left [] = omega arith
  fewer-left (h ∷ hs) =
      let few = fewer_if h (left hs) (stays h.tx) (length hs) (fewer-left hs) in
      omega (arith, few)

  pub left_orderly : (lock : RowLock) → IsOrderly lock → IsOrderly (left_to stays lock)
  left_orderly lock is =
      record {
        held_once = once-left lock.holders is.held_once;
        agreed = agreed-left lock.holders is.agreed;
        waiting_once = refl;
        held_up = refl;
        raises_first = refl;
        in_need = refl;
        within_rounds = refl;
      }

  -- what a row keeps, where there is room for so many holders
  pub left_row : (hs now : List Holder) (ws queue : List Wait) (room after : ℕ) → now ≡ left hs → queue ≡ []
      → room ≡ after → (length hs + length ws ≤ room) × IsOrderly (row_lock hs ws)
      → (length now + length queue ≤ after) × IsOrderly (row_lock now queue)
  left_row hs now ws queue room after held none same row =
      let few = fewer-left hs in
      let now_many = ap length held in
      let none_many = ap length none in
      let fits = row.0 in (
        omega (arith, few, now_many, none_many, fits, same),
        subst (λ lock. IsOrderly lock) (λ i. row_lock (sym held i) (sym none i)) (left_orderly (row_lock hs ws) row.1),
      )

-- of all keys

-- a look-up over entries whose values are changed by what the key says
lookup-left : (stays : List ℕ → TxId → Bool) (q : List ℕ) (es : List (List ℕ × RowLock))
    → lookup (is_at (key_cmp q)) (map (λ e. (e.0, left_to (stays e.0) e.1)) es)
    ≡ option_map (left_to (stays q)) (lookup (is_at (key_cmp q)) es)
lookup-left stays q [] = refl
lookup-left stays q (e ∷ es) = by (is_at (key_cmp q) e.0) refl (lookup-left stays q es)
  where
    by : (b : Bool) → is_at (key_cmp q) e.0 ≡ b
        → lookup (is_at (key_cmp q)) (map (λ e. (e.0, left_to (stays e.0) e.1)) es)
        ≡ option_map (left_to (stays q)) (lookup (is_at (key_cmp q)) es)
        → cond b (Some (left_to (stays e.0) e.1))
        (lookup (is_at (key_cmp q)) (map (λ e. (e.0, left_to (stays e.0) e.1)) es))
        ≡ option_map (left_to (stays q)) (cond b (Some e.1) (lookup (is_at (key_cmp q)) es))
    by true is rest =
        ap (λ k. Some (left_to (stays k) e.1))
        (sym (finite.slice_cmp-IsAntisymmetric finite.nat_cmp-IsAntisymmetric q e.0 ((Equal-is (key_cmp q e.0)).0 is)))
    by false is rest = rest

keys-left : (stays : List ℕ → TxId → Bool) (es : List (List ℕ × RowLock))
    → keys_of (map (λ e. (e.0, left_to (stays e.0) e.1)) es) ≡ keys_of es
keys-left stays [] = refl
keys-left stays (e ∷ es) = ap (λ ks. e.0 ∷ ks) (keys-left stays es)

distinct : (stays : List ℕ → TxId → Bool) (m : Locks)
    → IsDistinct (eq_by_cmp key_cmp) (keys_of (map (λ e. (e.0, left_to (stays e.0) e.1)) (finite.entries m)))
distinct stays m =
    subst (λ ks. IsDistinct (eq_by_cmp key_cmp) ks) (sym (keys-left stays (finite.entries m)))
    (IsDistinct-from_sorted key_cmp (keys_of (finite.entries m))
    (rising (finite.entries m) (holds_true _ (finite.entries_sorted m))))

-- the lock is used
abbrev used : RowLock → Bool
used l = not (is_idle l)

get-left : (stays : List ℕ → TxId → Bool) (m : Locks) (q : List ℕ)
    → finite.get (all_left_to stays m) q ≡ option_filter used (option_map (left_to (stays q)) (finite.get m q))
get-left stays m q =
    get-locks (filter is_used (map (λ e. (e.0, left_to (stays e.0) e.1)) (finite.entries m))) q
    ∙ lookup-filter-values (eq_by_cmp_equiv nat_list_cmp_total) used q
    (map (λ e. (e.0, left_to (stays e.0) e.1)) (finite.entries m)) (distinct stays m)
    ∙ ap (option_filter used) (lookup-left stays q (finite.entries m)
    ∙ ap (option_map (left_to (stays q))) (sym (finite.get-entries m q ∙ find-lookup key_cmp q (finite.entries m))))

-- an idle lock is one that isn't there
idle_if : (l : RowLock) (b : Bool) → used l ≡ b → or_unlocked (cond b (Some l) None) ≡ l
idle_if l true is = refl
idle_if l false is = by l.holders l.queue is
  where
    by : (hs : List Holder) (ws : List Wait) → used (row_lock hs ws) ≡ false → row_lock [] [] ≡ row_lock hs ws
    by [] [] is = refl
    by [] (w ∷ ws) is = absurd (true≢false is)
    by (h ∷ hs) ws is = absurd (true≢false is)

-- the lock of each key is the one that is left of it
pub lock-left : (stays : List ℕ → TxId → Bool) (m : Locks) (q : List ℕ)
    → lock_at (all_left_to stays m) q ≡ left_to (stays q) (lock_at m q)
lock-left stays m q = ap or_unlocked (get-left stays m q) ∙ by (finite.get m q)
  where
    by : (o : Option RowLock)
        → or_unlocked (option_filter used (option_map (left_to (stays q)) o)) ≡ left_to (stays q) (or_unlocked o)
    by None = refl
    by (Some l) = idle_if (left_to (stays q) l) (used (left_to (stays q) l)) refl

left_used : (stays : List ℕ → TxId → Bool) (q : List ℕ) (o : Option RowLock) (l : RowLock)
    → option_filter used (option_map (left_to (stays q)) o) ≡ Some l → is_idle l ≡ false
left_used stays q None l e = some_none l e
left_used stays q (Some x) l e = by (used (left_to (stays q) x)) refl e
  where
    by : (b : Bool) → used (left_to (stays q) x) ≡ b → cond b (Some (left_to (stays q) x)) None ≡ Some l
        → is_idle l ≡ false
    by true is e = ap (λ o. is_idle (or_unlocked o)) (sym e) ∙ not-true _ is
    by false is e = some_none l e

pub keep_orderly : (m : Locks) (stays : List ℕ → TxId → Bool) → AreOrderly m → AreOrderly (all_left_to stays m)
keep_orderly m stays are =
    record {
      each = λ q. subst (λ l. IsOrderly l) (sym (lock-left stays m q))
          (left_orderly (stays q) (lock_at m q) (are.each q));
      used = λ q l e. left_used stays q (finite.get m q) l (sym (get-left stays m q) ∙ e);
    }
