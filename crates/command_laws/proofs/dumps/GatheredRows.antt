-- Rows that are gathered are in byte order of their keys, each once, and no others.
use Rattle.std.proofs.Common.{◌≡◌, ◌⊎◌, ℕ, List, [], ◌∷◌, refl, sym, ap, ◌∙◌, subst, inl, inr, Ordering}
use Rattle.std.specs.BTreeMap.{insert_entry}
use Rattle.std.specs.Cmp.Lexicographic.{nat_list_cmp_total, slice_cmp}
use Rattle.std.specs.declared.cmp.Ordering.TheVariants.{Less, Equal, Greater}
use Rattle.std.specs.FinMap as map
use Rattle.std.specs.Ordering.{match_ordering, nat_cmp, ordering_reverse}
use Rattle.run_theory.proofs.Pasts.{each_map}
use Rattle.run_theory.specs.Lists.{Each, IsIn}
use Rattle.api_block.specs.Gathered.{gathered}
use Rattle.command_laws.specs.Dumped.{AreRising}

-- rows, and the order of their keys
abbrev pub KeyedRow : Type 0
KeyedRow = List ℕ × List ℕ

abbrev key_cmp : List ℕ → List ℕ → Ordering
key_cmp = slice_cmp nat_cmp

-- none of these has the key
abbrev pub HaveNot : List ℕ → List KeyedRow → Type 0
HaveNot key rows = Each (λ (r : KeyedRow). r.0 ≡ key → ⊥) rows

-- no two have one key
abbrev pub AreDistinct : List KeyedRow → Type 0
AreDistinct [] = Unit {0}
AreDistinct (r ∷ rows) = HaveNot r.0 rows × AreDistinct rows

tied : (a b : List ℕ) → key_cmp a b ≡ Equal → a ≡ b
tied = map.slice_cmp-IsAntisymmetric map.nat_cmp-IsAntisymmetric

turned : (a b : List ℕ) → key_cmp a b ≡ Greater → key_cmp b a ≡ Less
turned a b is = nat_list_cmp_total.antisymm b a ∙ ap ordering_reverse is

module _ (k v : List ℕ) where
  abbrev put : List KeyedRow → List KeyedRow
  put rows = insert_entry key_cmp rows k v

  -- what is so of each, by its key, is so with the new one
  each_put : (P : List ℕ → Type 0) (rows : List KeyedRow) → Each (λ (r : KeyedRow). P r.0) rows → P k
      → Each (λ (r : KeyedRow). P r.0) (put rows)
  each_put P [] all new = (new, tt)
  each_put P (r ∷ rows) all new = by (key_cmp k r.0) (each_put P rows all.1 new)
    where
      by : (o : Ordering) → Each (λ (q : KeyedRow). P q.0) (put rows)
          → Each (λ (q : KeyedRow). P q.0) (match_ordering o ((k, v) ∷ r ∷ rows) ((r.0, v) ∷ rows) (r ∷ put rows))
      by Less rest = (new, all)
      by Equal rest = all
      by Greater rest = (all.0, rest)

  rising_put : (rows : List KeyedRow) → AreRising rows → AreRising (put rows)
  rising_put [] rising = (tt, tt)
  rising_put (r ∷ rows) rising = by (key_cmp k r.0) refl (rising_put rows rising.1)
    where
      by : (o : Ordering) → key_cmp k r.0 ≡ o → AreRising (put rows)
          → AreRising (match_ordering o ((k, v) ∷ r ∷ rows) ((r.0, v) ∷ rows) (r ∷ put rows))
      by Less is rest = (
        (
          is,
          each_map (λ (q : KeyedRow). key_cmp r.0 q.0 ≡ Less) (λ (q : KeyedRow). key_cmp k q.0 ≡ Less) rows
              (λ q behind. nat_list_cmp_total.trans k r.0 q.0 is behind) rising.0,
        ),
        rising,
      )
      by Equal is rest = rising
      by Greater is rest = (each_put (λ key. key_cmp r.0 key ≡ Less) rows rising.0 (turned k r.0 is), rest)

  -- it is there
  put_there : (rows : List KeyedRow) → IsIn (k, v) (put rows)
  put_there [] = inl refl
  put_there (r ∷ rows) = by (key_cmp k r.0) refl (put_there rows)
    where
      by : (o : Ordering) → key_cmp k r.0 ≡ o → IsIn (k, v) (put rows)
          → IsIn (k, v) (match_ordering o ((k, v) ∷ r ∷ rows) ((r.0, v) ∷ rows) (r ∷ put rows))
      by Less is rest = inl refl
      by Equal is rest = inl (ap (λ key. (key, v)) (tied k r.0 is))
      by Greater is rest = inr rest

  -- and another one still is
  put_kept : (q : KeyedRow) (rows : List KeyedRow) → (q.0 ≡ k → ⊥) → IsIn q rows → IsIn q (put rows)
  put_kept q [] other inside = absurd inside
  put_kept q (r ∷ rows) other inside = by (key_cmp k r.0) refl inside (put_kept q rows other)
    where
      by : (o : Ordering) → key_cmp k r.0 ≡ o → (q ≡ r) ⊎ IsIn q rows → (IsIn q rows → IsIn q (put rows))
          → IsIn q (match_ordering o ((k, v) ∷ r ∷ rows) ((r.0, v) ∷ rows) (r ∷ put rows))
      by Less is here rest = inr here
      by Equal is (inl same) rest = absurd (other (ap (λ (x : KeyedRow). x.0) same ∙ sym (tied k r.0 is)))
      by Equal is (inr behind) rest = inr behind
      by Greater is (inl same) rest = inl same
      by Greater is (inr behind) rest = inr (rest behind)

  -- there are no others
  put_from : (q : KeyedRow) (rows : List KeyedRow) → IsIn q (put rows) → (q ≡ (k, v)) ⊎ IsIn q rows
  put_from q [] inside = inside
  put_from q (r ∷ rows) inside = by (key_cmp k r.0) refl inside (put_from q rows)
    where
      by : (o : Ordering) → key_cmp k r.0 ≡ o
          → IsIn q (match_ordering o ((k, v) ∷ r ∷ rows) ((r.0, v) ∷ rows) (r ∷ put rows))
          → (IsIn q (put rows) → (q ≡ (k, v)) ⊎ IsIn q rows) → (q ≡ (k, v)) ⊎ ((q ≡ r) ⊎ IsIn q rows)
      by Less is here rest = here
      by Equal is (inl same) rest = inl (same ∙ ap (λ key. (key, v)) (sym (tied k r.0 is)))
      by Equal is (inr behind) rest = inr (inr behind)
      by Greater is (inl same) rest = inr (inl same)
      by Greater is (inr behind) rest = further (rest behind)
        where
          further : (q ≡ (k, v)) ⊎ IsIn q rows → (q ≡ (k, v)) ⊎ ((q ≡ r) ⊎ IsIn q rows)
          further (inl new) = inl new
          further (inr old) = inr (inr old)

pub gathered_rising : (rows more : List KeyedRow) → AreRising rows → AreRising (gathered rows more)
gathered_rising rows [] rising = rising
gathered_rising rows (r ∷ more) rising = gathered_rising (put r.0 r.1 rows) more (rising_put r.0 r.1 rows rising)

pub gathered_from : (q : KeyedRow) (rows more : List KeyedRow) → IsIn q (gathered rows more) → IsIn q rows ⊎ IsIn q more
gathered_from q rows [] inside = inl inside
gathered_from q rows (r ∷ more) inside = by (gathered_from q (put r.0 r.1 rows) more inside)
  where
    first : (q ≡ (r.0, r.1)) ⊎ IsIn q rows → IsIn q rows ⊎ ((q ≡ r) ⊎ IsIn q more)
    first (inl new) = inr (inl new)
    first (inr old) = inl old

    by : IsIn q (put r.0 r.1 rows) ⊎ IsIn q more → IsIn q rows ⊎ ((q ≡ r) ⊎ IsIn q more)
    by (inl early) = first (put_from r.0 r.1 q rows early)
    by (inr late) = inr (inr late)

gathered_kept : (q : KeyedRow) (rows more : List KeyedRow) → HaveNot q.0 more → IsIn q rows
    → IsIn q (gathered rows more)
gathered_kept q rows [] others inside = inside
gathered_kept q rows (r ∷ more) others inside =
    gathered_kept q (put r.0 r.1 rows) more others.1 (put_kept r.0 r.1 q rows (λ same. others.0 (sym same)) inside)

pub gathered_there : (q : KeyedRow) (rows more : List KeyedRow) → AreDistinct more → IsIn q more
    → IsIn q (gathered rows more)
gathered_there q rows [] distinct inside = absurd inside
gathered_there q rows (r ∷ more) distinct (inl same) =
    gathered_kept q (put r.0 r.1 rows) more (subst (λ (x : KeyedRow). HaveNot x.0 more) (sym same) distinct.0)
    (subst (λ (x : KeyedRow). IsIn x (put r.0 r.1 rows)) (sym same) (put_there r.0 r.1 rows))
gathered_there q rows (r ∷ more) distinct (inr behind) = gathered_there q (put r.0 r.1 rows) more distinct.1 behind
