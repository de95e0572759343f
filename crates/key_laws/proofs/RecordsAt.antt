-- The records of a replica, key by key: what is stored, committed and dropped on one key, and that the others are left
-- alone.
use Rattle.std.proofs.Common.{◌≡◌, ℕ, Bool, true, false, cond, ◌&&◌, List, [], ◌∷◌, filter, refl, sym, ap, ◌∙◌, subst}
use Rattle.std.proofs.lemmas.Bool.{and_parts}
use Rattle.std.specs.Prelude.{if◌then◌else◌, Option, None, Some, position}
use Rattle.run_theory.specs.Lists.{Each}
use Rattle.sig_core.specs.declared.member.TxId.{TxId}
use Rattle.sig_core.specs.declared.rows.PendingRecord.{PendingRecord}
use Rattle.sig_core.specs.Rows.{is_of, is_on, record_at, recorded_by}
use Rattle.sig_core.specs.Same.{same_key, same_tx}
use Rattle.row_records.proofs.KeyLemmas.{same}
use Rattle.sig_core.specs.Firsts.{drop_first, first}
use Rattle.key_laws.specs.Records.{edited, found, put_back, stored}
use Rattle.sig_core.proofs.Keys.{same_key-self}
use Rattle.sig_core.proofs.Firsts.{place_by, position-cons, set_first}

-- those on the key
abbrev pub on : List ℕ → List PendingRecord → List PendingRecord
on key pending = filter (is_on key) pending

-- a transaction's record on the key is the one among those on the key
pub first-found : (tx : TxId) (key : List ℕ) (xs : List PendingRecord) → first (is_of tx key) xs ≡ found tx (on key xs)
first-found tx key [] = refl
first-found tx key (x ∷ xs) = by (same_tx x.tx tx) refl (same_key x.key key) (first-found tx key xs)
  where
    by : (b : Bool) → same_tx x.tx tx ≡ b → (c : Bool) → first (is_of tx key) xs ≡ found tx (on key xs)
        → (if b && c then Some x else first (is_of tx key) xs) ≡ found tx (cond c (x ∷ on key xs) (on key xs))
    by true e true more = sym (ap (λ b. if b then Some x else found tx (on key xs)) e)
    by true e false more = more
    by false e true more = more ∙ sym (ap (λ b. if b then Some x else found tx (on key xs)) e)
    by false e false more = more

-- one is stored
abbrev pub stored_in : PendingRecord → List PendingRecord → List PendingRecord
stored_in r [] = r ∷ []
stored_in r (x ∷ xs) = if is_of r.tx r.key x then r ∷ xs else x ∷ stored_in r xs

pub recorded-stored : (r : PendingRecord) (xs : List PendingRecord)
    → recorded_by xs r (position (is_of r.tx r.key) xs) ≡ stored_in r xs
recorded-stored r [] = refl
recorded-stored r (x ∷ xs) = ap (recorded_by (x ∷ xs) r) (position-cons (is_of r.tx r.key) x xs)
    ∙ by (is_of r.tx r.key x) (position (is_of r.tx r.key) xs) (recorded-stored r xs)
  where
    by : (b : Bool) (at : Option ℕ) → recorded_by xs r at ≡ stored_in r xs
        → recorded_by (x ∷ xs) r (place_by b at) ≡ (if b then r ∷ xs else x ∷ stored_in r xs)
    by true at more = refl
    by false None more = ap (λ w. x ∷ w) more
    by false (Some at) more = ap (λ w. x ∷ w) more

on_here : (key : List ℕ) (x : PendingRecord) (xs : List PendingRecord) (c : Bool) → same_key x.key key ≡ c
    → on key (x ∷ xs) ≡ cond c (x ∷ on key xs) (on key xs)
on_here key x xs c e = ap (λ c. cond c (x ∷ on key xs) (on key xs)) e

on-stored_in : (key : List ℕ) (r : PendingRecord) (xs : List PendingRecord) → r.key ≡ key
    → on key (stored_in r xs) ≡ stored r (on key xs)
on-stored_in key r [] own = on_here key r [] true (ap (λ k. same_key k key) own ∙ same_key-self key)
on-stored_in key r (x ∷ xs) own = by (same_tx x.tx r.tx) refl (same_key x.key r.key) refl (on-stored_in key r xs own)
  where
    by : (b : Bool) → same_tx x.tx r.tx ≡ b → (c : Bool) → same_key x.key r.key ≡ c
        → on key (stored_in r xs) ≡ stored r (on key xs)
        → on key (if b && c then r ∷ xs else x ∷ stored_in r xs) ≡ stored r (on key (x ∷ xs))
    by true e true f more =
        on_here key r xs true (ap (λ k. same_key k key) own ∙ same_key-self key)
        ∙ sym (ap (stored r) (on_here key x xs true (ap (same_key x.key) (sym own) ∙ f)) ∙ ap
        (λ b. if b then r ∷ on key xs else x ∷ stored r (on key xs)) e)
    by true e false f more =
        on_here key x (stored_in r xs) false (ap (same_key x.key) (sym own) ∙ f) ∙ more
        ∙ sym (ap (stored r) (on_here key x xs false (ap (same_key x.key) (sym own) ∙ f)))
    by false e true f more =
        on_here key x (stored_in r xs) true (ap (same_key x.key) (sym own) ∙ f) ∙ ap (λ w. x ∷ w) more
        ∙ sym (ap (stored r) (on_here key x xs true (ap (same_key x.key) (sym own) ∙ f)) ∙ ap
        (λ b. if b then r ∷ on key xs else x ∷ stored r (on key xs)) e)
    by false e false f more =
        on_here key x (stored_in r xs) false (ap (same_key x.key) (sym own) ∙ f) ∙ more
        ∙ sym (ap (stored r) (on_here key x xs false (ap (same_key x.key) (sym own) ∙ f)))

on-stored_other : (q : List ℕ) (r : PendingRecord) (xs : List PendingRecord) → same_key r.key q ≡ false
    → on q (stored_in r xs) ≡ on q xs
on-stored_other q r [] off = on_here q r [] false off
on-stored_other q r (x ∷ xs) off = by (same_tx x.tx r.tx) (same_key x.key r.key) refl (on-stored_other q r xs off)
  where
    by : (b c : Bool) → same_key x.key r.key ≡ c → on q (stored_in r xs) ≡ on q xs
        → on q (if b && c then r ∷ xs else x ∷ stored_in r xs) ≡ on q (x ∷ xs)
    by true true f more =
        on_here q r xs false off ∙ sym (on_here q x xs false (ap (λ k. same_key k q) (same x.key r.key f) ∙ off))
    by true false f more = ap (λ w. cond (same_key x.key q) (x ∷ w) w) more
    by false c f more = ap (λ w. cond (same_key x.key q) (x ∷ w) w) more

-- what is stored on the key
pub on-storing : (key : List ℕ) (r : PendingRecord) (xs : List PendingRecord) → r.key ≡ key
    → on key (recorded_by xs r (record_at xs r.tx r.key)) ≡ stored r (on key xs)
on-storing key r xs own = ap (on key) (recorded-stored r xs) ∙ on-stored_in key r xs own

pub on-storing_other : (q : List ℕ) (r : PendingRecord) (xs : List PendingRecord) → same_key r.key q ≡ false
    → on q (recorded_by xs r (record_at xs r.tx r.key)) ≡ on q xs
on-storing_other q r xs off = ap (on q) (recorded-stored r xs) ∙ on-stored_other q r xs off

-- The transaction's record becomes what f makes of it, or goes.
abbrev pub edited_in : (PendingRecord → Option PendingRecord) → (PendingRecord → Bool) → List PendingRecord
    → List PendingRecord
edited_in f p [] = []
edited_in f p (x ∷ xs) = if p x then put_back (f x) xs else x ∷ edited_in f p xs

pub edited_in-none : (f : PendingRecord → Option PendingRecord) (p : PendingRecord → Bool) (xs : List PendingRecord)
    → first p xs ≡ None → edited_in f p xs ≡ xs
edited_in-none f p [] none = refl
edited_in-none f p (x ∷ xs) none = by (p x) none (edited_in-none f p xs)
  where
    by : (b : Bool) → (if b then Some x else first p xs) ≡ None → (first p xs ≡ None → edited_in f p xs ≡ xs)
        → (if b then put_back (f x) xs else x ∷ edited_in f p xs) ≡ x ∷ xs
    by true none more = absurd cc
    by false none more = ap (λ w. x ∷ w) (more none)

pub edited_in-set : (f : PendingRecord → Option PendingRecord) (p : PendingRecord → Bool) (xs : List PendingRecord)
    (r y : PendingRecord) → first p xs ≡ Some r → f r ≡ Some y
    → edited_in f p xs ≡ set_first p y xs
edited_in-set f p [] r y is to = absurd cc
edited_in-set f p (x ∷ xs) r y is to = by (p x) is (λ more. edited_in-set f p xs r y more to)
  where
    by : (b : Bool) → (if b then Some x else first p xs) ≡ Some r
        → (first p xs ≡ Some r → edited_in f p xs ≡ set_first p y xs)
        → (if b then put_back (f x) xs else x ∷ edited_in f p xs) ≡ (if b then y ∷ xs else x ∷ set_first p y xs)
    by true is more = let one : x ≡ r = cc in ap (λ o. put_back o xs) (ap f one ∙ to)
    by false is more = ap (λ w. x ∷ w) (more is)

pub edited_in-drop : (f : PendingRecord → Option PendingRecord) (p : PendingRecord → Bool) (xs : List PendingRecord)
    (r : PendingRecord) → first p xs ≡ Some r → f r ≡ None
    → edited_in f p xs ≡ drop_first p xs
edited_in-drop f p [] r is to = absurd cc
edited_in-drop f p (x ∷ xs) r is to = by (p x) is (λ more. edited_in-drop f p xs r more to)
  where
    by : (b : Bool) → (if b then Some x else first p xs) ≡ Some r
        → (first p xs ≡ Some r → edited_in f p xs ≡ drop_first p xs)
        → (if b then put_back (f x) xs else x ∷ edited_in f p xs) ≡ (if b then xs else x ∷ drop_first p xs)
    by true is more = let one : x ≡ r = cc in ap (λ o. put_back o xs) (ap f one ∙ to)
    by false is more = ap (λ w. x ∷ w) (more is)

pub edited_in-keep : (f : PendingRecord → Option PendingRecord) (p : PendingRecord → Bool) (xs : List PendingRecord)
    (r : PendingRecord) → first p xs ≡ Some r → f r ≡ Some r → edited_in f p xs ≡ xs
edited_in-keep f p [] r is to = absurd cc
edited_in-keep f p (x ∷ xs) r is to = by (p x) is (λ more. edited_in-keep f p xs r more to)
  where
    by : (b : Bool) → (if b then Some x else first p xs) ≡ Some r → (first p xs ≡ Some r → edited_in f p xs ≡ xs)
        → (if b then put_back (f x) xs else x ∷ edited_in f p xs) ≡ x ∷ xs
    by true is more = let one : x ≡ r = cc in ap (λ o. put_back o xs) (ap f one ∙ to) ∙ ap (λ w. w ∷ xs) (sym one)
    by false is more = ap (λ w. x ∷ w) (more is)

-- an edit leaves the record on its key
abbrev pub KeepsKey : (PendingRecord → Option PendingRecord) → Type 0
KeepsKey f = (r x : PendingRecord) → f r ≡ Some x → x.key ≡ r.key

pub on-edited : (f : PendingRecord → Option PendingRecord) → KeepsKey f
    → (tx : TxId) (key : List ℕ) (xs : List PendingRecord)
    → on key (edited_in f (is_of tx key) xs) ≡ edited f tx (on key xs)
on-edited f keeps tx key [] = refl
on-edited f keeps tx key (x ∷ xs) = by (same_tx x.tx tx) refl (same_key x.key key) refl (on-edited f keeps tx key xs)
  where
    back : (o : Option PendingRecord) → f x ≡ o → same_key x.key key ≡ true
        → on key (put_back o xs) ≡ put_back o (on key xs)
    back None is f = refl
    back (Some y) is f = on_here key y xs true (ap (λ k. same_key k key) (keeps x y is) ∙ f)

    by : (b : Bool) → same_tx x.tx tx ≡ b → (c : Bool) → same_key x.key key ≡ c
        → on key (edited_in f (is_of tx key) xs) ≡ edited f tx (on key xs)
        → on key (if b && c then put_back (f x) xs else x ∷ edited_in f (is_of tx key) xs)
        ≡ edited f tx (on key (x ∷ xs))
    by true e true g more =
        back (f x) refl g
        ∙ sym (ap (edited f tx) (on_here key x xs true g) ∙ ap
        (λ b. if b then put_back (f x) (on key xs) else x ∷ edited f tx (on key xs)) e)
    by true e false g more = on_here key x (edited_in f (is_of tx key) xs) false g ∙ more
        ∙ sym (ap (edited f tx) (on_here key x xs false g))
    by false e true g more =
        on_here key x (edited_in f (is_of tx key) xs) true g ∙ ap (λ w. x ∷ w) more
        ∙ sym (ap (edited f tx) (on_here key x xs true g) ∙ ap
        (λ b. if b then put_back (f x) (on key xs) else x ∷ edited f tx (on key xs)) e)
    by false e false g more = on_here key x (edited_in f (is_of tx key) xs) false g ∙ more
        ∙ sym (ap (edited f tx) (on_here key x xs false g))

pub on-edited_other : (f : PendingRecord → Option PendingRecord) → KeepsKey f
    → (tx : TxId) (key q : List ℕ) (xs : List PendingRecord) → same_key key q ≡ false
    → on q (edited_in f (is_of tx key) xs) ≡ on q xs
on-edited_other f keeps tx key q [] off = refl
on-edited_other f keeps tx key q (x ∷ xs) off =
    by (same_tx x.tx tx) (same_key x.key key) refl (on-edited_other f keeps tx key q xs off)
  where
    own : same_key x.key key ≡ true → same_key x.key q ≡ false
    own g = ap (λ k. same_key k q) (same x.key key g) ∙ off

    back : (o : Option PendingRecord) → f x ≡ o → same_key x.key key ≡ true → on q (put_back o xs) ≡ on q (x ∷ xs)
    back None is g = sym (on_here q x xs false (own g))
    back (Some y) is g =
        on_here q y xs false (ap (λ k. same_key k q) (keeps x y is) ∙ own g) ∙ sym (on_here q x xs false (own g))

    by : (b c : Bool) → same_key x.key key ≡ c → on q (edited_in f (is_of tx key) xs) ≡ on q xs
        → on q (if b && c then put_back (f x) xs else x ∷ edited_in f (is_of tx key) xs) ≡ on q (x ∷ xs)
    by true true g more = back (f x) refl g
    by true false g more = ap (λ w. cond (same_key x.key q) (x ∷ w) w) more
    by false c g more = ap (λ w. cond (same_key x.key q) (x ∷ w) w) more

-- what holds of each record
pub each-recorded : (P : PendingRecord → Type 0) (r : PendingRecord) (xs : List PendingRecord) → P r → Each P xs
    → Each P (recorded_by xs r (record_at xs r.tx r.key))
each-recorded P r xs own all = subst (Each P) (sym (recorded-stored r xs)) (in_list xs all)
  where
    by : (b : Bool) (x : PendingRecord) (rest : List PendingRecord) → P x → Each P rest → Each P (stored_in r rest)
        → Each P (if b then r ∷ rest else x ∷ stored_in r rest)
    by true x rest here all more = (own, all)
    by false x rest here all more = (here, more)

    in_list : (xs : List PendingRecord) → Each P xs → Each P (stored_in r xs)
    in_list [] all = (own, tt)
    in_list (x ∷ xs) all = by (is_of r.tx r.key x) x xs all.0 all.1 (in_list xs all.1)

pub each-edited_in : (P : PendingRecord → Type 0) (f : PendingRecord → Option PendingRecord) (p : PendingRecord → Bool)
    (xs : List PendingRecord) → ((r x : PendingRecord) → f r ≡ Some x → P r → P x)
    → Each P xs → Each P (edited_in f p xs)
each-edited_in P f p [] own all = tt
each-edited_in P f p (x ∷ xs) own all = by (p x) (each-edited_in P f p xs own all.1)
  where
    back : (o : Option PendingRecord) → f x ≡ o → Each P (put_back o xs)
    back None is = all.1
    back (Some y) is = (own x y is all.0, all.1)

    by : (b : Bool) → Each P (edited_in f p xs) → Each P (if b then put_back (f x) xs else x ∷ edited_in f p xs)
    by true more = back (f x) refl
    by false more = (all.0, more)

-- the record that is found
pub each-first : (P : PendingRecord → Type 0) (tx : TxId) (key : List ℕ) (xs : List PendingRecord) (r : PendingRecord)
    → Each P xs → first (is_of tx key) xs ≡ Some r → P r × (r.key ≡ key)
each-first P tx key [] r all is = absurd cc
each-first P tx key (x ∷ xs) r all is = by (is_of tx key x) refl is (each-first P tx key xs r all.1)
  where
    by : (b : Bool) → is_of tx key x ≡ b → (if b then Some x else first (is_of tx key) xs) ≡ Some r
        → (first (is_of tx key) xs ≡ Some r → P r × (r.key ≡ key)) → P r × (r.key ≡ key)
    by true e is more =
        let one : x ≡ r = cc in
        let own = and_parts (same_tx x.tx tx) (same_key x.key key) e in
        (subst P one all.0, ap (λ (r : PendingRecord). r.key) (sym one) ∙ same x.key key own.1)
    by false e is more = more is
