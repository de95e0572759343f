-- A transaction's record on a key is put, replaced or taken out: what becomes of it and of the others.
use Rattle.std.proofs.Common.{◌≡◌, Bool, true, false, List, ℕ, refl, ap, ◌∙◌}
use Rattle.std.specs.Prelude.{if◌then◌else◌, Option, None, Some}
use Rattle.sig_core.specs.declared.member.TxId.{TxId}
use Rattle.sig_core.specs.declared.rows.PendingRecord.{PendingRecord}
use Rattle.sig_core.specs.Firsts.{drop_first, first}
use Rattle.sig_core.specs.Rows.{is_of}
use Rattle.sig_core.proofs.Firsts.{set_first}
use Rattle.local_ckpt.specs.Orderly.{HasOne, prepared_in}
use Rattle.local_ckpt.proofs.Firsts.{drop-drop_other, drop-none, drop-put_other, drop-put_own, drop-set_other}
use Rattle.local_ckpt.proofs.Firsts.{drop-set_own, first-drop_other, first-put_other, first-put_own, first-set_other}
use Rattle.local_ckpt.proofs.Firsts.{first-set_own, put_first}
use Rattle.local_ckpt.proofs.RecordLemmas.{by_record, is_same, two_records}

-- the record is this afterwards, or gone, the others are as they were, and there is one of each at most
pub record Edits (xs ys : List PendingRecord) (tx : TxId) (key : List ℕ) (now : Option PendingRecord) : Type 0 where
  pub firsts : (other : TxId) (key2 : List ℕ)
      → first (is_of other key2) ys ≡ (if is_same tx key other key2 then now else first (is_of other key2) xs)
  pub once : (other : TxId) (key2 : List ℕ) → HasOne ys other key2

-- what is prepared afterwards
pub edit_images : (xs ys : List PendingRecord) (tx : TxId) (key : List ℕ) (now : Option PendingRecord)
    → Edits xs ys tx key now
    → (other : TxId) (key2 : List ℕ) → prepared_in (first (is_of other key2) ys)
    ≡ (if is_same tx key other key2 then prepared_in now else prepared_in (first (is_of other key2) xs))
edit_images xs ys tx key now edits other key2 =
    ap prepared_in (edits.firsts other key2) ∙ by (is_same tx key other key2)
  where
    by : (b : Bool) → prepared_in (if b then now else first (is_of other key2) xs)
        ≡ (if b then prepared_in now else prepared_in (first (is_of other key2) xs))
    by true = refl
    by false = refl

module _ (tx : TxId) (key : List ℕ) (xs : List PendingRecord)
    (one : (other : TxId) (key2 : List ℕ) → HasOne xs other key2) where
  abbrev own : PendingRecord → Bool
  own = is_of tx key

  module _ (r : PendingRecord) (is : is_of tx key r ≡ true) where
    off_other : (other : TxId) (key2 : List ℕ) → is_same tx key other key2 ≡ false → is_of other key2 r ≡ false
    off_other other key2 off = two_records tx other key key2 off r is

    pub puts : Edits xs (put_first (is_of tx key) r xs) tx key (Some r)
    puts = record {
      firsts = λ other key2. by_record tx other key key2 (λ t k b.
          first (is_of t k) (put_first own r xs) ≡ (if b then Some r else first (is_of t k) xs))
          (first-put_own own r is xs)
          (λ off. first-put_other own (is_of other key2) (two_records tx other key key2 off) r
          (off_other other key2 off) xs);
      once = λ other key2. by_record tx other key key2 (λ t k b. HasOne (put_first own r xs) t k)
          (ap (first own) (drop-put_own own r is xs) ∙ one tx key)
          (λ off.
          let two = two_records tx other key key2 off in
          let off_r = off_other other key2 off in
          ap (first (is_of other key2)) (drop-put_other own (is_of other key2) two r off_r xs)
          ∙ first-put_other own (is_of other key2) two r off_r (drop_first (is_of other key2) xs) ∙ one other key2);
    }

    pub sets : (old : PendingRecord) → first (is_of tx key) xs ≡ Some old → Edits xs
        (set_first (is_of tx key) r xs) tx key (Some r)
    sets old found = record {
      firsts = λ other key2. by_record tx other key key2 (λ t k b.
          first (is_of t k) (set_first own r xs) ≡ (if b then Some r else first (is_of t k) xs))
          (first-set_own own r is xs old found)
          (λ off. first-set_other own (is_of other key2) (two_records tx other key key2 off) r
          (off_other other key2 off) xs);
      once = λ other key2. by_record tx other key key2 (λ t k b. HasOne (set_first own r xs) t k)
          (ap (first own) (drop-set_own own r is xs) ∙ one tx key)
          (λ off.
          let two = two_records tx other key key2 off in
          let off_r = off_other other key2 off in
          ap (first (is_of other key2)) (drop-set_other own (is_of other key2) two r off_r xs)
          ∙ first-set_other own (is_of other key2) two r off_r (drop_first (is_of other key2) xs) ∙ one other key2);
    }

  pub drops_one : Edits xs (drop_first (is_of tx key) xs) tx key None
  drops_one = record {
    firsts = λ other key2. by_record tx other key key2 (λ t k b.
        first (is_of t k) (drop_first own xs) ≡ (if b then None else first (is_of t k) xs))
        (one tx key) (λ off. first-drop_other own (is_of other key2) (two_records tx other key key2 off) xs);
    once = λ other key2. by_record tx other key key2 (λ t k b. HasOne (drop_first own xs) t k)
        (ap (first own) (drop-none own (drop_first own xs) (one tx key)) ∙ one tx key)
        (λ off.
        let two = two_records tx other key key2 off in
        ap (first (is_of other key2)) (drop-drop_other own (is_of other key2) two xs)
        ∙ first-drop_other own (is_of other key2) two (drop_first (is_of other key2) xs) ∙ one other key2);
  }
