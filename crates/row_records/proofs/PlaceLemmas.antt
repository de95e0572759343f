-- The rows of places, from one place on: what becomes of them where a key gets a place, a row or none, or loses its
-- place.
use Rattle.std.proofs.Common.{◌≡◌, ℕ, zero, suc, Bool, true, false, List, [], ◌∷◌, drop, refl, sym, ap, ◌∙◌, subst}
use Rattle.std.specs.Prelude.{if◌then◌else◌, Option, None, Some, is_some, slice_index_or, slice_set}
use Rattle.sig_core.specs.declared.rows.PendingRecord.{PendingRecord}
use Rattle.sig_core.specs.declared.rows.Slot.{Slot}
use Rattle.sig_core.specs.Rows.{RowsState, freed, freed_by, freed_if, is_at, is_idle, no_row, place_of, placed, row_by}
use Rattle.sig_core.specs.Rows.{row_in, row_of, set_row, set_row_by, with_place, with_place_by, with_row}
use Rattle.sig_core.specs.Same.{same_key}
use Rattle.sig_core.proofs.Firsts.{first-set, place_by, position-cons, set_by, set_first}
use Rattle.sig_core.proofs.Keys.{same_key-self, same_key-swap}
use Rattle.row_records.specs.Places.{AreApart, has_place}
use Rattle.row_records.proofs.KeyLemmas.{same}

-- the row of the key
abbrev pub row_at : List (Option Slot) → List ℕ → Option (List ℕ)
row_at [] key = None
row_at (None ∷ places) key = row_at places key
row_at (Some slot ∷ places) key = if same_key slot.key key then slot.row else row_at places key

row_by-at : (places : List (Option Slot)) (key : List ℕ) → row_by places (place_of places key) ≡ row_at places key
row_by-at [] key = refl
row_by-at (None ∷ places) key =
    ap (row_by (None ∷ places)) (position-cons (is_at key) None places) ∙ by (place_of places key)
    ∙ row_by-at places key
  where
    by : (at : Option ℕ) → row_by (None ∷ places) (place_by false at) ≡ row_by places at
    by None = refl
    by (Some at) = refl
row_by-at (Some slot ∷ places) key =
    ap (row_by (Some slot ∷ places)) (position-cons (is_at key) (Some slot) places)
    ∙ by (same_key slot.key key) (place_of places key) (row_by-at places key)
  where
    by : (b : Bool) (at : Option ℕ) → row_by places at ≡ row_at places key
        → row_by (Some slot ∷ places) (place_by b at) ≡ (if b then slot.row else row_at places key)
    by true at more = refl
    by false None more = more
    by false (Some at) more = more

pub row_of-at : (s : RowsState) (key : List ℕ) → row_of s key ≡ row_at s.places key
unfolding row_of
row_of-at s key = row_by-at s.places key

-- a key without a place has no row
pub no_place : (places : List (Option Slot)) (key : List ℕ) → has_place places key ≡ false → row_at places key ≡ None
no_place [] key off = refl
no_place (None ∷ places) key off = no_place places key off
no_place (Some slot ∷ places) key off = by (same_key slot.key key) off (no_place places key)
  where
    by : (b : Bool) → (if b then true else has_place places key) ≡ false
        → (has_place places key ≡ false → row_at places key ≡ None) → (if b then slot.row else row_at places key) ≡ None
    by true off more = absurd cc
    by false off more = more off

pub not_first : (b c : Bool) → (if b then true else c) ≡ false → (b ≡ false) × (c ≡ false)
not_first true c is = absurd cc
not_first false c is = (refl, is)

row_nil : (n : ℕ) (key : List ℕ) → row_at (drop n []) key ≡ None
row_nil zero key = refl
row_nil (suc n) key = refl

-- behind some places there are no keys but those that there were
pub gone_behind : (n : ℕ) (places : List (Option Slot)) (key : List ℕ) → has_place places key ≡ false
    → has_place (drop n places) key ≡ false
gone_behind zero places key off = off
gone_behind (suc n) [] key off = refl
gone_behind (suc n) (None ∷ places) key off = gone_behind n places key off
gone_behind (suc n) (Some slot ∷ places) key off =
    gone_behind n places key (not_first (same_key slot.key key) (has_place places key) off).1

pub apart_behind : (n : ℕ) (places : List (Option Slot)) → AreApart places → AreApart (drop n places)
apart_behind zero places apart = apart
apart_behind (suc n) [] apart = tt
apart_behind (suc n) (None ∷ places) apart = apart_behind n places apart
apart_behind (suc n) (Some slot ∷ places) apart = apart_behind n places apart.1

-- a row behind some places is the row of its key
pub row_behind : (n : ℕ) (places : List (Option Slot)) (key value : List ℕ) → AreApart places
    → row_at (drop n places) key ≡ Some value
    → row_at places key ≡ Some value
row_behind zero places key value apart is = is
row_behind (suc n) [] key value apart is = is
row_behind (suc n) (None ∷ places) key value apart is = row_behind n places key value apart is
row_behind (suc n) (Some slot ∷ places) key value apart is =
    by (same_key slot.key key) refl (row_behind n places key value apart.1 is)
  where
    by : (b : Bool) → same_key slot.key key ≡ b → row_at places key ≡ Some value
        → (if b then slot.row else row_at places key) ≡ Some value
    by true e more =
        let gone : has_place places key ≡ false = ap (has_place places) (sym (same slot.key key e)) ∙ apart.0 in
        absurd (let both : Some value ≡ None = sym is ∙ no_place (drop n places) key
        (gone_behind n places key gone) in cc)
    by false e more = more

-- a key has a place exactly where one is found
pub place_of-has : (places : List (Option Slot)) (key : List ℕ) → is_some (place_of places key) ≡ has_place places key
place_of-has [] key = refl
place_of-has (slot ∷ places) key =
    ap is_some (position-cons (is_at key) slot places)
    ∙ by (is_at key slot) (place_of places key) (place_of-has places key)
  where
    by : (b : Bool) (at : Option ℕ) → is_some at ≡ has_place places key
        → is_some (place_by b at) ≡ (if b then true else has_place places key)
    by true at more = refl
    by false None more = more
    by false (Some at) more = more

-- one key has come to have a place
row-placed_first : (key q : List ℕ) (places : List (Option Slot)) → has_place places key ≡ false
    → row_at (placed (no_row key) places) q ≡ row_at places q
row-placed_first key q [] off = by None (same_key key q)
  where
    by : (row : Option (List ℕ)) (b : Bool) → (if b then row else row) ≡ row
    by row true = refl
    by row false = refl
row-placed_first key q (None ∷ places) off = by (same_key key q) refl
  where
    by : (b : Bool) → same_key key q ≡ b → (if b then None else row_at places q) ≡ row_at places q
    by true e = sym (ap (row_at places) (sym (same key q e)) ∙ no_place places key off)
    by false e = refl
row-placed_first key q (Some other ∷ places) off =
    ap (λ w. if same_key other.key q then other.row else w)
    (row-placed_first key q places (not_first (same_key other.key key) (has_place places key) off).1)

row-placed : (n : ℕ) (key q : List ℕ) (places : List (Option Slot)) → has_place places key ≡ false
    → row_at (drop n (placed (no_row key) places)) q ≡ row_at (drop n places) q
row-placed zero key q places off = row-placed_first key q places off
row-placed (suc n) key q [] off = row_nil n q
row-placed (suc n) key q (None ∷ places) off = refl
row-placed (suc n) key q (Some other ∷ places) off =
    row-placed n key q places (not_first (same_key other.key key) (has_place places key) off).1

has-placed : (key q : List ℕ) (places : List (Option Slot))
    → has_place (placed (no_row key) places) q ≡ (if same_key key q then true else has_place places q)
has-placed key q [] = refl
has-placed key q (None ∷ places) = refl
has-placed key q (Some other ∷ places) =
    ap (λ w. if same_key other.key q then true else w) (has-placed key q places)
    ∙ by (same_key other.key q) (same_key key q)
  where
    by : (b c : Bool)
        → (if b then true else (if c then true else has_place places q)) ≡
        (if c then true else (if b then true else has_place places q))
    by true true = refl
    by true false = refl
    by false true = refl
    by false false = refl

apart-placed : (key : List ℕ) (places : List (Option Slot)) → has_place places key ≡ false → AreApart places
    → AreApart (placed (no_row key) places)
apart-placed key [] off apart = (refl, tt)
apart-placed key (None ∷ places) off apart = (off, apart)
apart-placed key (Some other ∷ places) off apart =
    let parts = not_first (same_key other.key key) (has_place places key) off in (
      has-placed key other.key places
          ∙ ap (λ b. if b then true else has_place places other.key) (same_key-swap key other.key ∙ parts.0) ∙ apart.0,
      apart-placed key places parts.1 apart.1,
    )

-- what holds of places to which a key may be added
pub by_place : (P : List (Option Slot) → Type 0) (places : List (Option Slot)) (key : List ℕ) → P places
    → (has_place places key ≡ false → P (placed (no_row key) places)) → P (with_place places key)
by_place P places key stays new = by (place_of places key) refl
  where
    by : (at : Option ℕ) → place_of places key ≡ at → P (with_place_by places key at)
    by None is = new (sym (place_of-has places key) ∙ ap is_some is)
    by (Some at) is = stays

pub row-with_place : (n : ℕ) (places : List (Option Slot)) (key q : List ℕ)
    → row_at (drop n (with_place places key)) q ≡ row_at (drop n places) q
row-with_place n places key q =
    by_place (λ w. row_at (drop n w) q ≡ row_at (drop n places) q) places key refl (row-placed n key q places)

pub apart-with_place : (places : List (Option Slot)) (key : List ℕ) → AreApart places → AreApart (with_place places key)
apart-with_place places key apart = by_place AreApart places key apart (λ off. apart-placed key places off apart)

pub has-with_place : (places : List (Option Slot)) (key q : List ℕ) → has_place places q ≡ true
    → has_place (with_place places key) q ≡ true
has-with_place places key q is =
    by_place (λ w. has_place w q ≡ true) places key is (λ off. has-placed key q places ∙ by (same_key key q))
  where
    by : (b : Bool) → (if b then true else has_place places q) ≡ true
    by true = refl
    by false = is

pub has-own_place : (places : List (Option Slot)) (key : List ℕ) → has_place (with_place places key) key ≡ true
has-own_place places key = by (place_of places key) refl
  where
    by : (at : Option ℕ) → place_of places key ≡ at → has_place (with_place_by places key at) key ≡ true
    by None is = has-placed key key places ∙ ap (λ b. if b then true else has_place places key) (same_key-self key)
    by (Some at) is = sym (place_of-has places key) ∙ ap is_some is

-- the row of one key is set
pub set_row-first : (places : List (Option Slot)) (key : List ℕ) (row : Option (List ℕ)) (epoch : ℕ)
    → set_row places key row epoch ≡ set_first (is_at key) (Some (with_row key row epoch)) places
set_row-first places key row epoch =
    by (place_of places key) ∙ first-set (is_at key) (Some (with_row key row epoch)) places
  where
    by : (at : Option ℕ) → set_row_by places key row epoch at ≡ set_by (Some (with_row key row epoch)) places at
    by None = refl
    by (Some at) = refl

module _ (key : List ℕ) (row : Option (List ℕ)) (epoch : ℕ) where
  abbrev rewritten : List (Option Slot) → List (Option Slot)
  rewritten places = set_first (is_at key) (Some (with_row key row epoch)) places

  own-set_first : (places : List (Option Slot)) → has_place places key ≡ true → row_at (rewritten places) key ≡ row
  own-set_first [] there = absurd cc
  own-set_first (None ∷ places) there = own-set_first places there
  own-set_first (Some slot ∷ places) there = by (same_key slot.key key) refl there (own-set_first places)
    where
      by : (b : Bool) → same_key slot.key key ≡ b → (if b then true else has_place places key) ≡ true
          → (has_place places key ≡ true → row_at (rewritten places) key ≡ row)
          → row_at (if b then Some (with_row key row epoch) ∷ places else Some slot ∷ rewritten places) key ≡ row
      by true e there more = ap (λ b. if b then row else row_at places key) (same_key-self key)
      by false e there more = ap (λ b. if b then slot.row else row_at (rewritten places) key) e ∙ more there

  other-set_first : (n : ℕ) (q : List ℕ) → same_key key q ≡ false → (places : List (Option Slot))
      → row_at (drop n (rewritten places)) q ≡ row_at (drop n places) q
  other-set_first n q off [] = refl
  other-set_first zero q off (None ∷ places) = other-set_first zero q off places
  other-set_first zero q off (Some slot ∷ places) = by (same_key slot.key key) refl (other-set_first zero q off places)
    where
      by : (b : Bool) → same_key slot.key key ≡ b → row_at (rewritten places) q ≡ row_at places q
          → row_at (if b then Some (with_row key row epoch) ∷ places else Some slot ∷ rewritten places) q ≡
          (if same_key slot.key q then slot.row else row_at places q)
      by true e more =
          ap (λ b. if b then row else row_at places q) off
          ∙ sym (ap (λ b. if b then slot.row else row_at places q) (ap (λ k. same_key k q) (same slot.key key e) ∙ off))
      by false e more = ap (λ w. if same_key slot.key q then slot.row else w) more
  other-set_first (suc n) q off (None ∷ places) = other-set_first n q off places
  other-set_first (suc n) q off (Some slot ∷ places) = by (same_key slot.key key) (other-set_first n q off places)
    where
      by : (b : Bool) → row_at (drop n (rewritten places)) q ≡ row_at (drop n places) q
          → row_at
          (drop (suc n) (if b then Some (with_row key row epoch) ∷ places else Some slot ∷ rewritten places)) q
          ≡ row_at (drop n places) q
      by true more = refl
      by false more = more

  has-set_first : (q : List ℕ) (places : List (Option Slot)) → has_place (rewritten places) q ≡ has_place places q
  has-set_first q [] = refl
  has-set_first q (None ∷ places) = has-set_first q places
  has-set_first q (Some slot ∷ places) = by (same_key slot.key key) refl (has-set_first q places)
    where
      by : (b : Bool) → same_key slot.key key ≡ b → has_place (rewritten places) q ≡ has_place places q
          → has_place
          (if b then Some (with_row key row epoch) ∷ places else Some slot ∷ rewritten places) q ≡ has_place
          (Some slot ∷ places) q
      by true e more = ap (λ k. if same_key k q then true else has_place places q) (sym (same slot.key key e))
      by false e more = ap (λ w. if same_key slot.key q then true else w) more

  apart-set_first : (places : List (Option Slot)) → AreApart places → AreApart (rewritten places)
  apart-set_first [] apart = tt
  apart-set_first (None ∷ places) apart = apart-set_first places apart
  apart-set_first (Some slot ∷ places) apart = by (same_key slot.key key) refl (apart-set_first places apart.1)
    where
      by : (b : Bool) → same_key slot.key key ≡ b → AreApart (rewritten places)
          → AreApart (if b then Some (with_row key row epoch) ∷ places else Some slot ∷ rewritten places)
      by true e more = (ap (has_place places) (sym (same slot.key key e)) ∙ apart.0, apart.1)
      by false e more = (has-set_first slot.key places ∙ apart.0, more)

  pub own-set_row : (places : List (Option Slot)) → has_place places key ≡ true
      → row_at (set_row places key row epoch) key ≡ row
  own-set_row places there = ap (λ w. row_at w key) (set_row-first places key row epoch) ∙ own-set_first places there

  pub other-set_row : (n : ℕ) (q : List ℕ) → same_key key q ≡ false → (places : List (Option Slot))
      → row_at (drop n (set_row places key row epoch)) q ≡ row_at (drop n places) q
  other-set_row n q off places =
      ap (λ w. row_at (drop n w) q) (set_row-first places key row epoch) ∙ other-set_first n q off places

  pub has-set_row : (q : List ℕ) (places : List (Option Slot))
      → has_place (set_row places key row epoch) q ≡ has_place places q
  has-set_row q places = ap (λ w. has_place w q) (set_row-first places key row epoch) ∙ has-set_first q places

  pub apart-set_row : (places : List (Option Slot)) → AreApart places → AreApart (set_row places key row epoch)
  apart-set_row places apart = subst AreApart (sym (set_row-first places key row epoch)) (apart-set_first places apart)

pub row-set_row : (places : List (Option Slot)) (key q : List ℕ) (row : Option (List ℕ)) (epoch : ℕ)
    → has_place places key ≡ true
    → row_at (set_row places key row epoch) q ≡ (if same_key key q then row else row_at places q)
row-set_row places key q row epoch there = by (same_key key q) refl
  where
    by : (b : Bool) → same_key key q ≡ b
        → row_at (set_row places key row epoch) q ≡ (if b then row else row_at places q)
    by true e =
        ap (row_at (set_row places key row epoch)) (sym (same key q e)) ∙ own-set_row key row epoch places there
    by false e = other-set_row key row epoch 0 q e places

-- the place of a key without a row is freed
abbrev pub cleared : List ℕ → List (Option Slot) → List (Option Slot)
cleared key places = set_first (is_at key) None places

row-cleared : (n : ℕ) (key q : List ℕ) (places : List (Option Slot)) → AreApart places → row_at places key ≡ None
    → row_at (drop n (cleared key places)) q ≡ row_at (drop n places) q
row-cleared n key q [] apart none = refl
row-cleared zero key q (None ∷ places) apart none = row-cleared zero key q places apart none
row-cleared zero key q (Some slot ∷ places) apart none =
    by (same_key slot.key key) refl none (row-cleared zero key q places apart.1)
  where
    by : (b : Bool) → same_key slot.key key ≡ b → (if b then slot.row else row_at places key) ≡ None
        → (row_at places key ≡ None → row_at (cleared key places) q ≡ row_at places q)
        → row_at (if b then None ∷ places else Some slot ∷ cleared key places) q ≡
        (if same_key slot.key q then slot.row else row_at places q)
    by true e none more = at (same_key slot.key q) refl
      where
        at : (c : Bool) → same_key slot.key q ≡ c → row_at places q ≡ (if c then slot.row else row_at places q)
        at true f = ap (row_at places) (sym (same slot.key q f)) ∙ no_place places slot.key apart.0 ∙ sym none
        at false f = refl
    by false e none more = ap (λ w. if same_key slot.key q then slot.row else w) (more none)
row-cleared (suc n) key q (None ∷ places) apart none = row-cleared n key q places apart none
row-cleared (suc n) key q (Some slot ∷ places) apart none =
    by (same_key slot.key key) none (row-cleared n key q places apart.1)
  where
    by : (b : Bool) → (if b then slot.row else row_at places key) ≡ None
        → (row_at places key ≡ None → row_at (drop n (cleared key places)) q ≡ row_at (drop n places) q)
        → row_at (drop (suc n) (if b then None ∷ places else Some slot ∷ cleared key places)) q ≡ row_at
        (drop n places) q
    by true none more = refl
    by false none more = more none

gone-cleared : (key q : List ℕ) (places : List (Option Slot)) → has_place places q ≡ false
    → has_place (cleared key places) q ≡ false
gone-cleared key q [] off = refl
gone-cleared key q (None ∷ places) off = gone-cleared key q places off
gone-cleared key q (Some slot ∷ places) off =
    let parts = not_first (same_key slot.key q) (has_place places q) off in
    by (same_key slot.key key) parts.0 parts.1 (gone-cleared key q places parts.1)
  where
    by : (b : Bool) → same_key slot.key q ≡ false → has_place places q ≡ false
        → has_place (cleared key places) q ≡ false
        → has_place (if b then None ∷ places else Some slot ∷ cleared key places) q ≡ false
    by true e off more = off
    by false e off more = ap (λ b. if b then true else has_place (cleared key places) q) e ∙ more

apart-cleared : (key : List ℕ) (places : List (Option Slot)) → AreApart places → AreApart (cleared key places)
apart-cleared key [] apart = tt
apart-cleared key (None ∷ places) apart = apart-cleared key places apart
apart-cleared key (Some slot ∷ places) apart = by (same_key slot.key key) (apart-cleared key places apart.1)
  where
    by : (b : Bool) → AreApart (cleared key places)
        → AreApart (if b then None ∷ places else Some slot ∷ cleared key places)
    by true more = apart.1
    by false more = (gone-cleared key slot.key places apart.0, more)

has-cleared : (key q : List ℕ) → same_key key q ≡ false → (places : List (Option Slot))
    → has_place (cleared key places) q ≡ has_place places q
has-cleared key q off [] = refl
has-cleared key q off (None ∷ places) = has-cleared key q off places
has-cleared key q off (Some slot ∷ places) = by (same_key slot.key key) refl (has-cleared key q off places)
  where
    by : (b : Bool) → same_key slot.key key ≡ b → has_place (cleared key places) q ≡ has_place places q
        → has_place (if b then None ∷ places else Some slot ∷ cleared key places) q ≡ has_place (Some slot ∷ places) q
    by true e more =
        sym (ap (λ b. if b then true else has_place places q) (ap (λ k. same_key k q) (same slot.key key e) ∙ off))
    by false e more = ap (λ w. if same_key slot.key q then true else w) more

-- What freeing a key's place does: nothing, or the key has no row and no record, and its place is cleared.
pub by_freed : (P : List (Option Slot) → Type 0) (places : List (Option Slot)) (pending : List PendingRecord)
    (key : List ℕ) → P places
    → (is_idle pending key ≡ true → row_at places key ≡ None → P (cleared key places)) → P (freed places pending key)
by_freed P places pending key stays clears = by (place_of places key) refl (is_idle pending key) refl
  where
    cleared_at : (at : ℕ) → place_of places key ≡ Some at → slice_set places at None ≡ set_first (is_at key) None places
    cleared_at at is = ap (set_by None places) (sym is) ∙ first-set (is_at key) None places

    at_row : (at : ℕ) → place_of places key ≡ Some at → (row : Option (List ℕ))
        → row_in (slice_index_or places at None) ≡ row → (b : Bool) → is_idle pending key ≡ b
        → P (freed_if places at row b)
    at_row at is None e true f =
        subst P (sym (cleared_at at is)) (clears f (sym (row_by-at places key) ∙ ap (row_by places) is ∙ e))
    at_row at is None e false f = stays
    at_row at is (Some row) e b f = stays

    by : (at : Option ℕ) → place_of places key ≡ at → (b : Bool) → is_idle pending key ≡ b → P (freed_by places b at)
    by None is b f = stays
    by (Some at) is b f = at_row at is (row_in (slice_index_or places at None)) refl b f

module _ (places : List (Option Slot)) (pending : List PendingRecord) (key : List ℕ) where
  pub row-freed : AreApart places → (n : ℕ) (q : List ℕ)
      → row_at (drop n (freed places pending key)) q ≡ row_at (drop n places) q
  row-freed apart n q =
      by_freed (λ w. row_at (drop n w) q ≡ row_at (drop n places) q) places pending key refl
      (λ idle none. row-cleared n key q places apart none)

  pub apart-freed : AreApart places → AreApart (freed places pending key)
  apart-freed apart = by_freed AreApart places pending key apart (λ idle none. apart-cleared key places apart)

  pub has-freed : (q : List ℕ) → (is_idle pending key ≡ true → same_key key q ≡ false) → has_place places q ≡ true
      → has_place (freed places pending key) q ≡ true
  has-freed q idle there =
      by_freed (λ w. has_place w q ≡ true) places pending key there
      (λ is none. has-cleared key q (idle is) places ∙ there)
