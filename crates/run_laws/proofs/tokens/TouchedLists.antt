-- Lists of touched keys, where one key more is touched or written.
use Rattle.std.proofs.Common.{◌≡◌, ℕ, Bool, true, false, ◌||◌, ◌&&◌, cond, List, [], ◌∷◌, ◌++◌, refl, sym, ap, ◌∙◌}
use Rattle.std.proofs.Common.{subst}
use Rattle.std.specs.List.{list_any}
use Rattle.std.specs.Prelude.{if◌then◌else◌, is_some, Option, None, Some, position}
use Rattle.std.proofs.Math.Bool.{or-false}
use Rattle.std.proofs.lemmas.Bool.{or_right}
use Rattle.std.proofs.lemmas.List.Folds.{list_any-append}
use Rattle.run_theory.specs.Lists.{Each}
use Rattle.run_theory.proofs.Pasts.{each_append, each_map}
use Rattle.sig_core.specs.declared.member.Member.{Member}
use Rattle.sig_core.specs.declared.op.Answer.{Answer}
use Rattle.sig_core.specs.declared.op.Op.{Op}
use Rattle.sig_core.specs.Op.{key_of}
use Rattle.sig_core.specs.Same.{same_key}
use Rattle.row_records.proofs.KeyLemmas.{same as same_key-is}
use Rattle.tc_block.specs.declared.touched.Touched.{Touched}
use Rattle.tc_block.specs.Touched.{is_on, place_of, touch, touched_by, unwritten, write, written, written_by}
use Rattle.world_core.specs.History.{is_done}
use Rattle.key_laws.specs.OneKey.{ops_on}
use Rattle.sig_core.proofs.Firsts.{first-set, place_by, position-cons, set_by, set_first}
use Rattle.sig_core.proofs.Keys.{same_key-self, same_key-swap}
use Rattle.run_laws.specs.Keyed.{AreApart, HasTouched, IsWrittenRightly}

-- an item has a place where one passes
any_placed : {A : Type 0} (p : A → Bool) (xs : List A) → is_some (position p xs) ≡ list_any p xs
any_placed p [] = refl
any_placed p (x ∷ xs) = ap is_some (position-cons p x xs) ∙ by (p x) (position p xs) (any_placed p xs)
  where
    by : (b : Bool) (at : Option ℕ) → is_some at ≡ list_any p xs → is_some (place_by b at) ≡ (b || list_any p xs)
    by true at more = refl
    by false None more = more
    by false (Some at) more = more

-- an operation on a key was answered by `Done`
abbrev pub any_done : List ℕ → List (Op × Answer) → Bool
any_done key ops = list_any (λ (op : Op × Answer). is_done op.1) (ops_on key ops)

-- one more answer
pub done_after : (key : List ℕ) (ops : List (Op × Answer)) (op : Op) (answer : Answer)
    → any_done key (ops ++ (op, answer) ∷ []) ≡ (any_done key ops || (same_key (key_of op) key && is_done answer))
done_after key [] op answer = by (same_key (key_of op) key)
  where
    by : (b : Bool)
        → list_any (λ (op : Op × Answer). is_done op.1) (cond b ((op, answer) ∷ []) []) ≡ (b && is_done answer)
    by true = or-false (is_done answer)
    by false = refl
done_after key (o ∷ ops) op answer = by (same_key (key_of o.0) key) (done_after key ops op answer)
  where
    more : Bool
    more = same_key (key_of op) key && is_done answer

    by : (b : Bool) → any_done key (ops ++ (op, answer) ∷ []) ≡ (any_done key ops || more)
        → list_any (λ (op : Op × Answer). is_done op.1)
        (cond b (o ∷ ops_on key (ops ++ (op, answer) ∷ [])) (ops_on key (ops ++ (op, answer) ∷ [])))
        ≡ (list_any (λ (op : Op × Answer). is_done op.1) (cond b (o ∷ ops_on key ops) (ops_on key ops)) || more)
    by false rest = rest
    by true rest = one (is_done o.1) rest
      where
        one : (d : Bool) → any_done key (ops ++ (op, answer) ∷ []) ≡ (any_done key ops || more)
            → (d || any_done key (ops ++ (op, answer) ∷ [])) ≡ ((d || any_done key ops) || more)
        one true rest = refl
        one false rest = rest

-- where none is on the key none was
pub none_done : (key : List ℕ) (ops : List (Op × Answer))
    → Each (λ (op : Op × Answer). same_key (key_of op.0) key ≡ false) ops → any_done key ops ≡ false
none_done key [] none = refl
none_done key (o ∷ ops) none = by (same_key (key_of o.0) key) none.0 (none_done key ops none.1)
  where
    by : (b : Bool) → b ≡ false → any_done key ops ≡ false
        → list_any (λ (op : Op × Answer). is_done op.1) (cond b (o ∷ ops_on key ops) (ops_on key ops)) ≡ false
    by true is rest = cc
    by false is rest = rest

none_on : (key : List ℕ) (touched : List Touched) → list_any (is_on key) touched ≡ false
    → Each (λ (u : Touched). same_key u.key key ≡ false) touched
none_on key [] none = tt
none_on key (t ∷ touched) none = by (same_key t.key key) refl none (none_on key touched)
  where
    by : (b : Bool) → same_key t.key key ≡ b → (b || list_any (is_on key) touched) ≡ false
        → (list_any (is_on key) touched ≡ false → Each (λ (u : Touched). same_key u.key key ≡ false) touched)
        → Each (λ (u : Touched). same_key u.key key ≡ false) (t ∷ touched)
    by true is none more = cc
    by false is none more = (is, more none)

apart_last : (touched : List Touched) (t : Touched) → AreApart touched
    → Each (λ (u : Touched). same_key u.key t.key ≡ false) touched → AreApart (touched ++ t ∷ [])
apart_last [] t apart off = (tt, tt)
apart_last (e ∷ touched) t apart off = (
  each_append (λ (u : Touched). same_key u.key e.key ≡ false) touched (t ∷ []) apart.0
      (same_key-swap t.key e.key ∙ off.0, tt),
  apart_last touched t apart.1 off.1,
)

-- the keys after a touch
pub touch_apart : (touched : List Touched) (key : List ℕ) (chain : List Member) → AreApart touched
    → AreApart (touch touched key chain)
touch_apart touched key chain apart = by (place_of touched key) (any_placed (is_on key) touched)
  where
    by : (at : Option ℕ) → is_some at ≡ list_any (is_on key) touched → AreApart (touched_by touched key chain at)
    by None is = apart_last touched (unwritten key chain) apart (none_on key touched (sym is))
    by (Some at) is = apart

-- a key that was touched still is
pub touch_more : (touched : List Touched) (key other : List ℕ) (chain : List Member) → HasTouched touched other
    → HasTouched (touch touched key chain) other
touch_more touched key other chain has = by (place_of touched key)
  where
    by : (at : Option ℕ) → HasTouched (touched_by touched key chain at) other
    by None = list_any-append (is_on other) touched (unwritten key chain ∷ [])
        ∙ ap (λ b. b || list_any (is_on other) (unwritten key chain ∷ [])) has
    by (Some at) = has

pub touch_own : (touched : List Touched) (key : List ℕ) (chain : List Member) → HasTouched (touch touched key chain) key
touch_own touched key chain = by (place_of touched key) (any_placed (is_on key) touched)
  where
    by : (at : Option ℕ) → is_some at ≡ list_any (is_on key) touched → HasTouched (touched_by touched key chain at) key
    by None is =
        list_any-append (is_on key) touched (unwritten key chain ∷ [])
        ∙ or_right (list_any (is_on key) touched) (list_any (is_on key) (unwritten key chain ∷ []))
        (ap (λ b. b || false) (same_key-self key))
    by (Some at) is = sym is

-- no operation was on a key that wasn't touched
pub untouched_none : (touched : List Touched) (key : List ℕ) (ops : List (Op × Answer))
    → list_any (is_on key) touched ≡ false
    → Each (λ (op : Op × Answer). HasTouched touched (key_of op.0)) ops
    → Each (λ (op : Op × Answer). same_key (key_of op.0) key ≡ false) ops
untouched_none touched key ops none all = each_map (λ (op : Op × Answer). HasTouched touched (key_of op.0))
    (λ (op : Op × Answer). same_key (key_of op.0) key ≡ false) ops off all
  where
    off : (op : Op × Answer) → HasTouched touched (key_of op.0) → same_key (key_of op.0) key ≡ false
    off op has = by (same_key (key_of op.0) key) refl
      where
        by : (b : Bool) → same_key (key_of op.0) key ≡ b → b ≡ false
        by false e = refl
        by true e =
            let one : key_of op.0 ≡ key = same_key-is (key_of op.0) key e in
            sym (subst (HasTouched touched) one has) ∙ none

pub touch_written : (touched : List Touched) (key : List ℕ) (chain : List Member) (ops : List (Op × Answer))
    → Each (λ (op : Op × Answer). HasTouched touched (key_of op.0)) ops
    → Each (IsWrittenRightly ops) touched → Each (IsWrittenRightly ops) (touch touched key chain)
touch_written touched key chain ops all right = by (place_of touched key) (any_placed (is_on key) touched)
  where
    by : (at : Option ℕ) → is_some at ≡ list_any (is_on key) touched
        → Each (IsWrittenRightly ops) (touched_by touched key chain at)
    by None is = each_append (IsWrittenRightly ops) touched (unwritten key chain ∷ []) right
        (sym (none_done key ops (untouched_none touched key ops (sym is) all)), tt)
    by (Some at) is = right

-- a write of a key replaces it where it stands
write_is : (touched : List Touched) (key : List ℕ) (chain : List Member)
    → write touched key chain ≡ set_first (is_on key) (written key chain) touched
write_is touched key chain = by (place_of touched key) ∙ first-set (is_on key) (written key chain) touched
  where
    by : (at : Option ℕ) → written_by touched key chain at ≡ set_by (written key chain) touched at
    by None = refl
    by (Some at) = refl

module _ (key : List ℕ) (chain : List Member) where
  abbrev replaced : List Touched → List Touched
  replaced touched = set_first (is_on key) (written key chain) touched

  any_replaced : (other : List ℕ) (touched : List Touched)
      → list_any (is_on other) (replaced touched) ≡ list_any (is_on other) touched
  any_replaced other [] = refl
  any_replaced other (t ∷ touched) = by (same_key t.key key) refl (any_replaced other touched)
    where
      by : (b : Bool) → same_key t.key key ≡ b
          → list_any (is_on other) (replaced touched) ≡ list_any (is_on other) touched
          → list_any (is_on other) (if b then written key chain ∷ touched else t ∷ replaced touched)
          ≡ (same_key t.key other || list_any (is_on other) touched)
      by true e rest = ap (λ k. same_key k other || list_any (is_on other) touched) (sym (same_key-is t.key key e))
      by false e rest = ap (λ b. same_key t.key other || b) rest

  off_replaced : (other : List ℕ) (touched : List Touched)
      → Each (λ (u : Touched). same_key u.key other ≡ false) touched
      → Each (λ (u : Touched). same_key u.key other ≡ false) (replaced touched)
  off_replaced other [] off = tt
  off_replaced other (t ∷ touched) off = by (same_key t.key key) refl (off_replaced other touched off.1)
    where
      by : (b : Bool) → same_key t.key key ≡ b → Each (λ (u : Touched). same_key u.key other ≡ false) (replaced touched)
          → Each (λ (u : Touched). same_key u.key other ≡ false)
          (if b then written key chain ∷ touched else t ∷ replaced touched)
      by true e rest = (ap (λ k. same_key k other) (sym (same_key-is t.key key e)) ∙ off.0, off.1)
      by false e rest = (off.0, rest)

  apart_replaced : (touched : List Touched) → AreApart touched → AreApart (replaced touched)
  apart_replaced [] apart = tt
  apart_replaced (t ∷ touched) apart = by (same_key t.key key) refl (apart_replaced touched apart.1)
    where
      by : (b : Bool) → same_key t.key key ≡ b → AreApart (replaced touched)
          → AreApart (if b then written key chain ∷ touched else t ∷ replaced touched)
      by true e rest = (
        subst (λ k. Each (λ (u : Touched). same_key u.key k ≡ false) touched) (same_key-is t.key key e)
            apart.0,
        apart.1,
      )
      by false e rest = (off_replaced t.key touched apart.0, rest)

  -- an answer on another key changes nothing
  other_right : (ops : List (Op × Answer)) (op : Op) (answer : Answer) (t : Touched)
      → same_key (key_of op) t.key ≡ false → IsWrittenRightly ops t → IsWrittenRightly (ops ++ (op, answer) ∷ []) t
  other_right ops op answer t off right = right
      ∙ sym (done_after t.key ops op answer ∙ (ap (λ b. any_done t.key ops || (b && is_done answer)) off ∙ or-false
      (any_done t.key ops)))

  written_replaced : (ops : List (Op × Answer)) (op : Op) (answer : Answer) → key_of op ≡ key → is_done answer ≡ true
      → (touched : List Touched) → AreApart touched
      → Each (IsWrittenRightly ops) touched → Each (IsWrittenRightly (ops ++ (op, answer) ∷ [])) (replaced touched)
  written_replaced ops op answer on done [] apart right = tt
  written_replaced ops op answer on done (t ∷ touched) apart right =
      by (same_key t.key key) refl (written_replaced ops op answer on done touched apart.1 right.1)
    where
      now : List (Op × Answer)
      now = ops ++ (op, answer) ∷ []

      others : (us : List Touched) → Each (λ (u : Touched). same_key u.key key ≡ false) us
          → Each (IsWrittenRightly ops) us → Each (IsWrittenRightly now) us
      others [] off right = tt
      others (u ∷ us) off right = (
        other_right ops op answer u
            (ap (λ k. same_key k u.key) on ∙ (same_key-swap key u.key ∙ off.0)) right.0,
        others us off.1 right.1,
      )

      own : true ≡ any_done key now
      own = sym (done_after key ops op answer ∙ or_right (any_done key ops) (same_key (key_of op) key && is_done answer)
          (ap (λ k. same_key k key && is_done answer) on ∙ (ap (λ b. b && is_done answer) (same_key-self key) ∙ done)))

      by : (b : Bool) → same_key t.key key ≡ b → Each (IsWrittenRightly now) (replaced touched)
          → Each (IsWrittenRightly now) (if b then written key chain ∷ touched else t ∷ replaced touched)
      by true e rest = (
        own,
        others touched (subst (λ k. Each (λ (u : Touched). same_key u.key k ≡ false) touched)
            (same_key-is t.key key e) apart.0) right.1,
      )
      by false e rest =
          (other_right ops op answer t (ap (λ k. same_key k t.key) on ∙ (same_key-swap key t.key ∙ e)) right.0, rest)

-- the keys after a write
pub write_apart : (touched : List Touched) (key : List ℕ) (chain : List Member) → AreApart touched
    → AreApart (write touched key chain)
write_apart touched key chain apart =
    subst AreApart (sym (write_is touched key chain)) (apart_replaced key chain touched apart)

pub write_touched : (touched : List Touched) (key other : List ℕ) (chain : List Member) → HasTouched touched other
    → HasTouched (write touched key chain) other
write_touched touched key other chain has =
    ap (list_any (is_on other)) (write_is touched key chain) ∙ (any_replaced key chain other touched ∙ has)

pub write_written : (touched : List Touched) (chain : List Member) (ops : List (Op × Answer)) (op : Op)
    (answer : Answer) → is_done answer ≡ true → AreApart touched
    → Each (IsWrittenRightly ops) touched
    → Each (IsWrittenRightly (ops ++ (op, answer) ∷ [])) (write touched (key_of op) chain)
write_written touched chain ops op answer done apart right =
    subst (Each (IsWrittenRightly (ops ++ (op, answer) ∷ []))) (sym (write_is touched (key_of op) chain))
    (written_replaced (key_of op) chain ops op answer refl done touched apart right)

-- an answer that isn't `Done` changes nothing
pub undone_written : (touched : List Touched) (ops : List (Op × Answer)) (op : Op) (answer : Answer)
    → is_done answer ≡ false → Each (IsWrittenRightly ops) touched
    → Each (IsWrittenRightly (ops ++ (op, answer) ∷ [])) touched
undone_written touched ops op answer off right =
    each_map (IsWrittenRightly ops) (IsWrittenRightly (ops ++ (op, answer) ∷ [])) touched same right
  where
    none : (b : Bool) → (b && is_done answer) ≡ false
    none true = off
    none false = refl

    same : (t : Touched) → IsWrittenRightly ops t → IsWrittenRightly (ops ++ (op, answer) ∷ []) t
    same t is = is ∙ sym (done_after t.key ops op answer ∙ (ap (λ b. any_done t.key ops || b)
        (none (same_key (key_of op) t.key)) ∙ or-false (any_done t.key ops)))
