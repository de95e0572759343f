-- Where each transaction has one record at most: which record makes the row that all that are kept would leave, and
-- that nothing is spoilt where whoever is committed takes effect.
use Rattle.std.proofs.Common.{◌≡◌, ◌∙◌, ◌&&◌, not, Bool, true, false, ℕ, List, [], ◌∷◌, refl, sym, ap}
use Rattle.std.proofs.lemmas.Bool.{and_from, or_from}
use Rattle.std.specs.List.{list_any}
use Rattle.std.specs.Prelude.{if◌then◌else◌, Option, None, Some}
use Rattle.sig_core.proofs.Keys.{same_tx-self}
use Rattle.sig_core.proofs.TxLemmas.{same_tx-is}
use Rattle.sig_core.specs.Same.{same_tx}
use Rattle.sig_core.specs.declared.member.TxId.{TxId}
use Rattle.sig_core.specs.declared.rows.PendingRecord.{PendingRecord}
use Rattle.key_laws.specs.Backup.{is_spoilt}
use Rattle.key_laws.specs.Records.{AreOnce, found, is_kept, kept_row}

-- the first record is that of its transaction
found_first : (x : PendingRecord) (rest : List PendingRecord) → found x.tx (x ∷ rest) ≡ Some x
found_first x rest = ap (λ b. if b then Some x else found x.tx rest) (same_tx-self x.tx)

-- and the others are those of theirs
found_behind : (x : PendingRecord) (rest : List PendingRecord) → AreOnce (x ∷ rest) → (v : TxId) (r : PendingRecord)
    → found v rest ≡ Some r → found v (x ∷ rest) ≡ Some r
found_behind x rest once v r is = by (same_tx x.tx v) refl
  where
    by : (b : Bool) → same_tx x.tx v ≡ b → found v (x ∷ rest) ≡ Some r
    by true e =
        absurd (let both : None ≡ Some r = sym once.0 ∙ ap (λ t. found t rest) (same_tx-is x.tx v e) ∙ is in cc)
    by false e = ap (λ b. if b then Some x else found v rest) e ∙ is

-- The row that all that are kept would leave is the image of a record of one of them that isn't committed yet, or the
-- row itself where there is none.
pub data Leaves (kept : TxId → Bool) (row : Option (List ℕ)) (xs : List PendingRecord) : Type 0 where
  an_image : (r : PendingRecord) → found r.tx xs ≡ Some r → r.committed ≡ false → kept r.tx ≡ true
      → kept_row kept row xs ≡ r.image → Leaves kept row xs
  the_row : ((v : TxId) (r : PendingRecord) → kept v ≡ true → found v xs ≡ Some r → r.committed ≡ false → ⊥)
      → kept_row kept row xs ≡ row → Leaves kept row xs

pub leaves : (kept : TxId → Bool) (row : Option (List ℕ)) (xs : List PendingRecord) → AreOnce xs
    → Leaves kept row xs
leaves kept row [] once = the_row (λ v r on is. absurd cc) refl
leaves kept row (x ∷ rest) once = by x.committed refl (kept x.tx) refl (leaves kept row rest once.1)
  where
    none_here : (is_kept kept x ≡ true → ⊥)
        → ((v : TxId) (r : PendingRecord) → kept v ≡ true → found v rest ≡ Some r → r.committed ≡ false → ⊥)
        → (v : TxId) (r : PendingRecord) → kept v ≡ true → found v (x ∷ rest) ≡ Some r → r.committed ≡ false → ⊥
    none_here never none v r on is begun = at (same_tx x.tx v) refl is
      where
        at : (b : Bool) → same_tx x.tx v ≡ b → (if b then Some x else found v rest) ≡ Some r → ⊥
        at true e is =
            let one : x ≡ r = cc in
            never (and_from (not x.committed) (kept x.tx)
            (ap (λ (y : PendingRecord). not y.committed) one ∙ ap not begun)
            (ap kept (same_tx-is x.tx v e) ∙ on))
        at false e is = none v r on is begun

    later : (is_kept kept x ≡ false) → Leaves kept row rest → Leaves kept row (x ∷ rest)
    later off (an_image r is begun on row_is) =
        an_image r (found_behind x rest once r.tx r is) begun on
        (ap (λ b. if b then x.image else kept_row kept row rest) off ∙ row_is)
    later off (the_row none row_is) =
        the_row (none_here (λ on. absurd (let both : true ≡ false = sym on ∙ off in cc)) none)
        (ap (λ b. if b then x.image else kept_row kept row rest) off ∙ row_is)

    by : (b : Bool) → x.committed ≡ b → (c : Bool) → kept x.tx ≡ c → Leaves kept row rest
        → Leaves kept row (x ∷ rest)
    by true e c f more = later (ap (λ b. not b && kept x.tx) e) more
    by false e true f more =
        an_image x (found_first x rest) e f
        (ap (λ b. if b then x.image else kept_row kept row rest) (λ i. not (e i) && f i))
    by false e false f more = later (λ i. not (e i) && f i) more

-- nothing is spoilt
pub unspoilt : (final : TxId → Bool) (xs : List PendingRecord) → AreOnce xs
    → ((v : TxId) (r : PendingRecord) → found v xs ≡ Some r → r.committed ≡ true → final v ≡ true)
    → list_any (is_spoilt final) xs ≡ false
unspoilt final [] once told = refl
unspoilt final (x ∷ rest) once told =
    or_from (is_spoilt final x) (list_any (is_spoilt final) rest) (own x.committed refl)
    (unspoilt final rest once.1 (λ v r is. told v r (found_behind x rest once v r is)))
  where
    own : (b : Bool) → x.committed ≡ b → is_spoilt final x ≡ false
    own true e = λ i. e i && not (told x.tx x (found_first x rest) e i)
    own false e = ap (λ b. b && not (final x.tx)) e
