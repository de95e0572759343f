-- The operations and the answers of a transaction, the newest first, in front of those before.
use Rattle.std.proofs.Common.{◌≡◌, List, [], ◌∷◌, ◌++◌, reverse, map, refl, sym, ap, ◌∙◌}
use Rattle.std.proofs.lemmas.List.{reverse-append}
use Rattle.sig_core.specs.declared.op.Answer.{Answer}
use Rattle.sig_core.specs.declared.op.Op.{Op}

module _ {A : Type 0} (part : (Op × Answer) → A) where
  abbrev pub newest_of : List (Op × Answer) → List A → List A
  newest_of [] before = before
  newest_of (op ∷ ops) before = newest_of ops (part op ∷ before)

  pub of_more : (ops : List (Op × Answer)) (op : Op × Answer) (before : List A)
      → newest_of (ops ++ op ∷ []) before ≡ part op ∷ newest_of ops before
  of_more [] op before = refl
  of_more (one ∷ ops) op before = of_more ops op (part one ∷ before)

  pub of_is : (ops : List (Op × Answer)) (before : List A) → newest_of ops before ≡ reverse (map part ops) ++ before
  of_is [] before = refl
  of_is (op ∷ ops) before =
      of_is ops (part op ∷ before)
      ∙ (assoc (reverse (map part ops)) (part op) before
      ∙ ap (λ w. w ++ before) (sym (reverse-append (part op ∷ []) (map part ops))))
    where
      assoc : (xs : List A) (x : A) (ys : List A) → xs ++ x ∷ ys ≡ (xs ++ x ∷ []) ++ ys
      assoc [] x ys = refl
      assoc (y ∷ xs) x ys = ap (λ w. y ∷ w) (assoc xs x ys)

-- the answers
abbrev pub newest : List (Op × Answer) → List Answer → List Answer
newest = newest_of (λ (op : Op × Answer). op.1)

pub newest_more : (ops : List (Op × Answer)) (op : Op × Answer) (before : List Answer)
    → newest (ops ++ op ∷ []) before ≡ op.1 ∷ newest ops before
newest_more = of_more (λ (op : Op × Answer). op.1)

pub newest_is : (ops : List (Op × Answer)) (before : List Answer) → newest ops before ≡ reverse
    (map (λ (op : Op × Answer). op.1) ops) ++ before
newest_is = of_is (λ (op : Op × Answer). op.1)

-- the operations
abbrev pub newest_ops : List (Op × Answer) → List Op → List Op
newest_ops = newest_of (λ (op : Op × Answer). op.0)

pub newest_ops_more : (ops : List (Op × Answer)) (op : Op × Answer) (before : List Op)
    → newest_ops (ops ++ op ∷ []) before ≡ op.0 ∷ newest_ops ops before
newest_ops_more = of_more (λ (op : Op × Answer). op.0)

pub newest_ops_is : (ops : List (Op × Answer)) (before : List Op) → newest_ops ops before ≡ reverse
    (map (λ (op : Op × Answer). op.0) ops) ++ before
newest_ops_is = of_is (λ (op : Op × Answer). op.0)
