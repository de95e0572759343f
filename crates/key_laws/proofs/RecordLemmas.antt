-- Records on one key, after one was stored, committed or dropped.
use Rattle.std.proofs.Common.{◌≡◌, ◌⊎◌, ℕ, Bool, true, false, not, ◌&&◌, List, [], ◌∷◌, refl, sym, ap, ◌∙◌, subst, inl}
use Rattle.std.proofs.Common.{inr}
use Rattle.std.specs.Prelude.{if◌then◌else◌, Option, None, Some}
use Rattle.run_theory.specs.Lists.{Each}
use Rattle.run_theory.proofs.Pasts.{each_map}
use Rattle.sig_core.specs.declared.member.TxId.{TxId}
use Rattle.sig_core.specs.declared.rows.PendingRecord.{PendingRecord}
use Rattle.sig_core.specs.Same.{same_tx}
use Rattle.sig_core.proofs.TxLemmas.{same_tx-is, same_tx-swap}
use Rattle.sig_core.proofs.Keys.{same_tx-self}
use Rattle.key_laws.specs.Records.{AreOnce, as_committed, committed, edited, found, if_committed, is_kept, kept_row}
use Rattle.key_laws.specs.Records.{put_back, stored, unless_committed}

-- an edit leaves the record to its transaction
abbrev pub KeepsTx : (PendingRecord → Option PendingRecord) → Type 0
KeepsTx f = (r x : PendingRecord) → f r ≡ Some x → x.tx ≡ r.tx

pub committed_keeps : KeepsTx as_committed
committed_keeps r x is = let now : committed r ≡ x = cc in sym (ap (λ (r : PendingRecord). r.tx) now)

kept_if : (b : Bool) (r x : PendingRecord) → (if b then Some r else None) ≡ Some x → r ≡ x
kept_if true r x is = cc
kept_if false r x is = absurd cc

kept_unless : (b : Bool) (r x : PendingRecord) → (if b then None else Some r) ≡ Some x → r ≡ x
kept_unless true r x is = absurd cc
kept_unless false r x is = cc

pub if_same : (r x : PendingRecord) → if_committed r ≡ Some x → r ≡ x
if_same r x is = kept_if r.committed r x is

pub unless_same : (r x : PendingRecord) → unless_committed r ≡ Some x → r ≡ x
unless_same r x is = kept_unless r.committed r x is

pub if_keeps : KeepsTx if_committed
if_keeps r x is = sym (ap (λ (r : PendingRecord). r.tx) (if_same r x is))

pub unless_keeps : KeepsTx unless_committed
unless_keeps r x is = sym (ap (λ (r : PendingRecord). r.tx) (unless_same r x is))

same_too : (a b v : TxId) → same_tx a b ≡ true → same_tx a v ≡ same_tx b v
same_too a b v is = ap (λ t. same_tx t v) (same_tx-is a b is)

-- whose record is found
pub found-stored : (v : TxId) (r : PendingRecord) (xs : List PendingRecord)
    → found v (stored r xs) ≡ (if same_tx r.tx v then Some r else found v xs)
found-stored v r [] = refl
found-stored v r (x ∷ rest) =
    by (same_tx x.tx r.tx) refl (same_tx r.tx v) refl (same_tx x.tx v) refl (found-stored v r rest)
  where
    by : (b : Bool) → same_tx x.tx r.tx ≡ b → (c : Bool) → same_tx r.tx v ≡ c → (d : Bool) → same_tx x.tx v ≡ d
        → found v (stored r rest) ≡ (if c then Some r else found v rest)
        → found v (if b then r ∷ rest else x ∷ stored r rest)
        ≡ (if c then Some r else (if d then Some x else found v rest))
    by true e true f d g more = ap (λ b. if b then Some r else found v rest) f
    by true e false f true g more = absurd (let other : true ≡ false = sym g ∙ same_too x.tx r.tx v e ∙ f in cc)
    by true e false f false g more = ap (λ b. if b then Some r else found v rest) f
    by false e true f true g more = absurd
        (let other : true ≡ false = sym (ap (λ t. same_tx t r.tx) (same_tx-is x.tx v g) ∙ (same_tx-swap v r.tx ∙ f))
        ∙ e in cc)
    by false e true f false g more = ap (λ b. if b then Some x else found v (stored r rest)) g ∙ more
    by false e false f true g more = ap (λ b. if b then Some x else found v (stored r rest)) g
    by false e false f false g more = ap (λ b. if b then Some x else found v (stored r rest)) g ∙ more

-- a transaction without a record has none among the rest
pub none_first : (v : TxId) (r : PendingRecord) (rest : List PendingRecord) → found v (r ∷ rest) ≡ None
    → (same_tx r.tx v ≡ false) × (found v rest ≡ None)
none_first v r rest none = by (same_tx r.tx v) refl none
  where
    by : (b : Bool) → same_tx r.tx v ≡ b → (if b then Some r else found v rest) ≡ None
        → (same_tx r.tx v ≡ false) × (found v rest ≡ None)
    by true e none = absurd cc
    by false e none = (e, none)

pub each_apart : (v : TxId) (xs : List PendingRecord) → found v xs ≡ None → Each (λ r. same_tx r.tx v ≡ false) xs
each_apart v [] none = tt
each_apart v (r ∷ rest) none = let parts = none_first v r rest none in (parts.0, each_apart v rest parts.1)

-- the record that is found is one of them
pub each_found : (P : PendingRecord → Type 0) (v : TxId) (xs : List PendingRecord) (x : PendingRecord) → Each P xs
    → found v xs ≡ Some x → P x × (x.tx ≡ v)
each_found P v [] x all is = absurd cc
each_found P v (r ∷ rest) x all is = by (same_tx r.tx v) refl is (each_found P v rest x all.1)
  where
    by : (b : Bool) → same_tx r.tx v ≡ b → (if b then Some r else found v rest) ≡ Some x
        → (found v rest ≡ Some x → P x × (x.tx ≡ v)) → P x × (x.tx ≡ v)
    by true e is more =
        let one : r ≡ x = cc in (subst P one all.0, ap (λ (r : PendingRecord). r.tx) (sym one) ∙ same_tx-is r.tx v e)
    by false e is more = more is

found_at : (v : TxId) (r : PendingRecord) (rest : List PendingRecord) (b : Bool) → same_tx r.tx v ≡ b
    → found v (r ∷ rest) ≡ (if b then Some r else found v rest)
found_at v r rest b e = ap (λ b. if b then Some r else found v rest) e

-- an edit leaves the other transactions' records alone
pub found-edited : (f : PendingRecord → Option PendingRecord) → KeepsTx f → (tx v : TxId) (xs : List PendingRecord)
    → same_tx tx v ≡ false → found v (edited f tx xs) ≡ found v xs
found-edited f keeps tx v [] apart = refl
found-edited f keeps tx v (r ∷ rest) apart = by (same_tx r.tx tx) refl (found-edited f keeps tx v rest apart)
  where
    own : same_tx r.tx tx ≡ true → same_tx r.tx v ≡ false
    own e = same_too r.tx tx v e ∙ apart

    back : (o : Option PendingRecord) → f r ≡ o → same_tx r.tx tx ≡ true
        → found v (put_back o rest) ≡ found v (r ∷ rest)
    back None is e = sym (found_at v r rest false (own e))
    back (Some x) is e =
        found_at v x rest false (ap (λ t. same_tx t v) (keeps r x is) ∙ own e) ∙ sym (found_at v r rest false (own e))

    by : (b : Bool) → same_tx r.tx tx ≡ b → found v (edited f tx rest) ≡ found v rest
        → found v (if b then put_back (f r) rest else r ∷ edited f tx rest) ≡ found v (r ∷ rest)
    by true e more = back (f r) refl e
    by false e more = ap (λ w. if same_tx r.tx v then Some r else w) more

-- and gives none to a transaction that had none
pub none-edited : (f : PendingRecord → Option PendingRecord) → KeepsTx f → (tx v : TxId) (xs : List PendingRecord)
    → found v xs ≡ None → found v (edited f tx xs) ≡ None
none-edited f keeps tx v [] none = refl
none-edited f keeps tx v (r ∷ rest) none =
    let parts = none_first v r rest none in by (same_tx r.tx tx) parts.0 parts.1 (none-edited f keeps tx v rest parts.1)
  where
    back : (o : Option PendingRecord) → f r ≡ o → same_tx r.tx v ≡ false → found v rest ≡ None
        → found v (put_back o rest) ≡ None
    back None is apart gone = gone
    back (Some x) is apart gone = found_at v x rest false (ap (λ t. same_tx t v) (keeps r x is) ∙ apart) ∙ gone

    by : (b : Bool) → same_tx r.tx v ≡ false → found v rest ≡ None → found v (edited f tx rest) ≡ None
        → found v (if b then put_back (f r) rest else r ∷ edited f tx rest) ≡ None
    by true apart gone more = back (f r) refl apart gone
    by false apart gone more = found_at v r (edited f tx rest) false apart ∙ more

pub once-stored : (r : PendingRecord) (xs : List PendingRecord) → AreOnce xs → AreOnce (stored r xs)
once-stored r [] once = (refl, tt)
once-stored r (x ∷ rest) once = by (same_tx x.tx r.tx) refl (once-stored r rest once.1)
  where
    by : (b : Bool) → same_tx x.tx r.tx ≡ b → AreOnce (stored r rest)
        → AreOnce (if b then r ∷ rest else x ∷ stored r rest)
    by true e more = (ap (λ t. found t rest) (sym (same_tx-is x.tx r.tx e)) ∙ once.0, once.1)
    by false e more = (
      found-stored x.tx r rest ∙ ap (λ b. if b then Some r else found x.tx rest)
          (same_tx-swap r.tx x.tx ∙ e) ∙ once.0,
      more,
    )

pub once-edited : (f : PendingRecord → Option PendingRecord) → KeepsTx f → (tx : TxId) (xs : List PendingRecord)
    → AreOnce xs → AreOnce (edited f tx xs)
once-edited f keeps tx [] once = tt
once-edited f keeps tx (r ∷ rest) once = by (same_tx r.tx tx) (once-edited f keeps tx rest once.1)
  where
    back : (o : Option PendingRecord) → f r ≡ o → AreOnce (put_back o rest)
    back None is = once.1
    back (Some x) is = (ap (λ t. found t rest) (keeps r x is) ∙ once.0, once.1)

    by : (b : Bool) → AreOnce (edited f tx rest) → AreOnce (if b then put_back (f r) rest else r ∷ edited f tx rest)
    by true more = back (f r) refl
    by false more = (none-edited f keeps tx r.tx rest once.0, more)

-- what holds of each record
pub each-stored : (P : PendingRecord → Type 0) (r : PendingRecord) (xs : List PendingRecord) → P r → Each P xs
    → Each P (stored r xs)
each-stored P r [] own all = (own, tt)
each-stored P r (x ∷ rest) own all = by (same_tx x.tx r.tx) (each-stored P r rest own all.1)
  where
    by : (b : Bool) → Each P (stored r rest) → Each P (if b then r ∷ rest else x ∷ stored r rest)
    by true more = (own, all.1)
    by false more = (all.0, more)

pub each_both : (P Q R : PendingRecord → Type 0) (xs : List PendingRecord) → ((r : PendingRecord) → P r → Q r → R r)
    → Each P xs → Each Q xs → Each R xs
each_both P Q R [] f ps qs = tt
each_both P Q R (x ∷ xs) f ps qs = (f x ps.0 qs.0, each_both P Q R xs f ps.1 qs.1)

pub each-edited : (P Q : PendingRecord → Type 0) (f : PendingRecord → Option PendingRecord) (tx : TxId)
    (xs : List PendingRecord) → AreOnce xs
    → ((r : PendingRecord) → same_tx r.tx tx ≡ false → P r → Q r)
    → ((r x : PendingRecord) → same_tx r.tx tx ≡ true → f r ≡ Some x → P r → Q x)
    → Each P xs → Each Q (edited f tx xs)
each-edited P Q f tx [] once others own all = tt
each-edited P Q f tx (r ∷ rest) once others own all =
    by (same_tx r.tx tx) refl (each-edited P Q f tx rest once.1 others own all.1)
  where
    behind : same_tx r.tx tx ≡ true → Each Q rest
    behind e =
        each_both (λ x. same_tx x.tx tx ≡ false) P Q rest others
        (each_apart tx rest (ap (λ t. found t rest) (sym (same_tx-is r.tx tx e)) ∙ once.0)) all.1

    back : (o : Option PendingRecord) → f r ≡ o → same_tx r.tx tx ≡ true → Each Q (put_back o rest)
    back None is e = behind e
    back (Some x) is e = (own r x e is all.0, behind e)

    by : (b : Bool) → same_tx r.tx tx ≡ b → Each Q (edited f tx rest)
        → Each Q (if b then put_back (f r) rest else r ∷ edited f tx rest)
    by true e more = back (f r) refl e
    by false e more = (others r e all.0, more)

-- each record is committed, or of this transaction
abbrev pub OnlyOf : TxId → List PendingRecord → Type 0
OnlyOf tx xs = Each (λ (r : PendingRecord). (r.committed ≡ true) ⊎ (r.tx ≡ tx)) xs

not_kept : (kept : TxId → Bool) (r : PendingRecord) → r.committed ≡ true → is_kept kept r ≡ false
not_kept kept r is = ap (λ b. not b && kept r.tx) is

unkept : (kept : TxId → Bool) (r : PendingRecord) → kept r.tx ≡ false → is_kept kept r ≡ false
unkept kept r is = by (not r.committed) (kept r.tx) is
  where
    by : (b c : Bool) → c ≡ false → (b && c) ≡ false
    by true c is = is
    by false c is = refl

kept_at : (kept : TxId → Bool) (row : Option (List ℕ)) (r : PendingRecord) (rest : List PendingRecord) (b : Bool)
    → is_kept kept r ≡ b
    → kept_row kept row (r ∷ rest) ≡ (if b then r.image else kept_row kept row rest)
kept_at kept row r rest b e = ap (λ b. if b then r.image else kept_row kept row rest) e

-- where no record's transaction is kept the row is as it will be
pub kept_row-none : (kept : TxId → Bool) (row : Option (List ℕ)) (xs : List PendingRecord)
    → Each (λ r. is_kept kept r ≡ false) xs → kept_row kept row xs ≡ row
kept_row-none kept row [] none = refl
kept_row-none kept row (r ∷ rest) none = kept_at kept row r rest false none.0 ∙ kept_row-none kept row rest none.1

pub kept_row-committed : (kept : TxId → Bool) (row : Option (List ℕ)) (xs : List PendingRecord)
    → Each (λ r. r.committed ≡ true) xs → kept_row kept row xs ≡ row
kept_row-committed kept row xs all = kept_row-none kept row xs
    (each_map (λ (r : PendingRecord). r.committed ≡ true) (λ r. is_kept kept r ≡ false) xs (λ r is. not_kept kept r is)
    all)

pub kept_row-unkept : (kept : TxId → Bool) (row : Option (List ℕ)) (tx : TxId) (xs : List PendingRecord) → OnlyOf tx xs
    → kept tx ≡ false → kept_row kept row xs ≡ row
kept_row-unkept kept row tx xs only off = kept_row-none kept row xs
    (each_map (λ (r : PendingRecord). (r.committed ≡ true) ⊎ (r.tx ≡ tx)) (λ r. is_kept kept r ≡ false) xs each only)
  where
    each : (r : PendingRecord) → (r.committed ≡ true) ⊎ (r.tx ≡ tx) → is_kept kept r ≡ false
    each r (inl is) = not_kept kept r is
    each r (inr is) = unkept kept r (ap kept is ∙ off)

-- a record of a transaction that isn't kept changes nothing of it
pub kept_row-stored : (kept : TxId → Bool) (row : Option (List ℕ)) (r : PendingRecord) (xs : List PendingRecord)
    → kept r.tx ≡ false
    → kept_row kept row (stored r xs) ≡ kept_row kept row xs
kept_row-stored kept row r [] off = kept_at kept row r [] false (unkept kept r off)
kept_row-stored kept row r (x ∷ rest) off = by (same_tx x.tx r.tx) refl (kept_row-stored kept row r rest off)
  where
    by : (b : Bool) → same_tx x.tx r.tx ≡ b → kept_row kept row (stored r rest) ≡ kept_row kept row rest
        → kept_row kept row (if b then r ∷ rest else x ∷ stored r rest) ≡ kept_row kept row (x ∷ rest)
    by true e more =
        kept_at kept row r rest false (unkept kept r off)
        ∙ sym (kept_at kept row x rest false (unkept kept x (ap kept (same_tx-is x.tx r.tx e) ∙ off)))
    by false e more = ap (λ w. if is_kept kept x then x.image else w) more

-- an edit of a record that isn't to become the row, and that leaves it so
pub kept_row-edited : (kept : TxId → Bool) (row : Option (List ℕ)) (f : PendingRecord → Option PendingRecord)
    (tx : TxId) (xs : List PendingRecord)
    → ((r : PendingRecord) (rest : List PendingRecord) → r.tx ≡ tx → kept_row kept row (put_back (f r) rest) ≡ kept_row
    kept row (r ∷ rest))
    → kept_row kept row (edited f tx xs) ≡ kept_row kept row xs
kept_row-edited kept row f tx [] own = refl
kept_row-edited kept row f tx (r ∷ rest) own = by (same_tx r.tx tx) refl (kept_row-edited kept row f tx rest own)
  where
    by : (b : Bool) → same_tx r.tx tx ≡ b → kept_row kept row (edited f tx rest) ≡ kept_row kept row rest
        → kept_row kept row (if b then put_back (f r) rest else r ∷ edited f tx rest) ≡ kept_row kept row (r ∷ rest)
    by true e more = own r rest (same_tx-is r.tx tx e)
    by false e more = ap (λ w. if is_kept kept r then r.image else w) more

pub kept_row-completed : (kept : TxId → Bool) (row : Option (List ℕ)) (tx : TxId) (xs : List PendingRecord)
    → kept_row kept row (edited unless_committed tx xs) ≡ kept_row kept row xs
kept_row-completed kept row tx xs =
    kept_row-edited kept row unless_committed tx xs (λ r rest is. own r rest r.committed refl)
  where
    own : (r : PendingRecord) (rest : List PendingRecord) (b : Bool) → r.committed ≡ b
        → kept_row kept row (put_back (if b then None else Some r) rest) ≡ kept_row kept row (r ∷ rest)
    own r rest true e = sym (kept_at kept row r rest false (not_kept kept r e))
    own r rest false e = refl

pub kept_row-aborted : (kept : TxId → Bool) (row : Option (List ℕ)) (tx : TxId) (xs : List PendingRecord)
    → kept tx ≡ false
    → kept_row kept row (edited if_committed tx xs) ≡ kept_row kept row xs
kept_row-aborted kept row tx xs off =
    kept_row-edited kept row if_committed tx xs (λ r rest is. own r rest is r.committed)
  where
    own : (r : PendingRecord) (rest : List PendingRecord) → r.tx ≡ tx → (b : Bool)
        → kept_row kept row (put_back (if b then Some r else None) rest) ≡ kept_row kept row (r ∷ rest)
    own r rest is true = refl
    own r rest is false = sym (kept_at kept row r rest false (unkept kept r (ap kept is ∙ off)))

-- the one record that is to become the row
pub kept_row-one : (kept : TxId → Bool) (row : Option (List ℕ)) (tx : TxId) (xs : List PendingRecord)
    (x : PendingRecord) → OnlyOf tx xs → found tx xs ≡ Some x
    → x.committed ≡ false → kept tx ≡ true → kept_row kept row xs ≡ x.image
kept_row-one kept row tx [] x only is prepared on = absurd cc
kept_row-one kept row tx (r ∷ rest) x only is prepared on =
    by (same_tx r.tx tx) refl is (λ more. kept_row-one kept row tx rest x only.1 more prepared on)
  where
    here : r ≡ x → r.tx ≡ tx → is_kept kept r ≡ true
    here one own = (λ i. not ((ap (λ (r : PendingRecord). r.committed) one ∙ prepared) i) && (ap kept own ∙ on) i)

    off : same_tx r.tx tx ≡ false → (r.committed ≡ true) ⊎ (r.tx ≡ tx) → is_kept kept r ≡ false
    off apart (inl is) = not_kept kept r is
    off apart (inr is) =
        absurd (let other : true ≡ false = sym (same_tx-self tx) ∙ (ap (λ t. same_tx t tx) (sym is) ∙ apart) in cc)

    by : (b : Bool) → same_tx r.tx tx ≡ b → (if b then Some r else found tx rest) ≡ Some x
        → (found tx rest ≡ Some x → kept_row kept row rest ≡ x.image)
        → kept_row kept row (r ∷ rest) ≡ x.image
    by true e is more = let one : r ≡ x = cc in kept_at kept row r rest true (here one (same_tx-is r.tx tx e))
        ∙ ap (λ (r : PendingRecord). r.image) one
    by false e is more = kept_at kept row r rest false (off e only.0) ∙ more is

-- one transaction more is kept, which has no record
pub kept_row-others : (kept now : TxId → Bool) (row : Option (List ℕ)) (tx : TxId) (xs : List PendingRecord)
    → ((v : TxId) → same_tx v tx ≡ false → now v ≡ kept v)
    → found tx xs ≡ None → kept_row now row xs ≡ kept_row kept row xs
kept_row-others kept now row tx [] same none = refl
kept_row-others kept now row tx (r ∷ rest) same none =
    let parts = none_first tx r rest none in
    λ i. if not r.committed && same r.tx parts.0 i then r.image else kept_row-others kept now row tx rest same parts.1 i
