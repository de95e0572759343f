-- The lists of commits and completions of a transaction: each names a key once, and eight of them are sent at once.
use Rattle.std.proofs.Common.{◌≡◌, ◌≤◌, ◌+◌, ◌==◌, ◌&&◌, ◌++◌, ◌∙◌, ℕ, zero, suc, Bool, true, false, List, [], ◌∷◌}
use Rattle.std.proofs.Common.{drop, length, nat_lt, refl, sym, ap, arith, take}
use Rattle.std.proofs.Math.Seq.{take-add}
use Rattle.std.specs.List.{count_by, flat_map}
use Rattle.run_theory.specs.Lists.{Each}
use Rattle.run_theory.proofs.EachSent.{each_drop, each_take}
use Rattle.sig_core.specs.declared.member.TxId.{TxId}
use Rattle.sig_core.specs.declared.outs.Outgoing.{Outgoing}
use Rattle.sig_core.specs.declared.portion.TheConstants.{PORTION}
use Rattle.sig_core.specs.declared.signal.Body.{Body}
use Rattle.sig_core.specs.declared.signal.Body.TheVariants.{Host}
use Rattle.sig_core.specs.declared.signal.host.HostSignal.TheVariants.{Continue}
use Rattle.sig_core.specs.declared.signal.host.Work.TheVariants as work
use Rattle.sig_core.specs.Same.{same_key, same_tx}
use Rattle.sig_core.specs.Place.{coordinator}
use Rattle.sig_core.specs.Portion.{go_on_at}
use Rattle.frag_map.specs.Layout.{Layout}
use Rattle.tc_block.specs.declared.phase.Phase.TheVariants.{Committing, Completing}
use Rattle.tc_block.specs.declared.touched.Touched.{Touched}
use Rattle.tc_block.specs.Part.{part_effects, rest_if}
use Rattle.tc_block.specs.Sends.{commit_of, complete_if, complete_of, front_sends, key_sends, phase_sends, reported}
use Rattle.tc_block.specs.Complete.{one_if}
use Rattle.row_records.proofs.KeyLemmas.{same as same_keys}
use Rattle.run_laws.specs.Keyed.{AreApart}
use Rattle.outcome_laws.specs.Counts.{count_sent}
use Rattle.outcome_laws.proofs.coordinators.Lists.{count_both, count_more, none_counted, one_few, second_few}
use Rattle.commit_laws.proofs.drive.Kinds.{Drive, Keys, committing, completing, goes}

-- of this transaction these keys
abbrev pub mine : TxId → (List ℕ → Bool) → Keys
mine tx wk one key = same_tx one tx && wk key

abbrev pub any : List ℕ → Bool
any key = true

abbrev pub only : List ℕ → List ℕ → Bool
only key own = same_key own key

-- the signal goes on with what is sent of the transaction, at this place
abbrev pub onward : TxId → ℕ → Body → Bool
onward tx at (Host (Continue (work.Transaction one) left)) = same_tx one tx && (left == at)
onward tx at body = false

-- no more of the first ones pass than of all, and no more than they are
pub taken_less : {A : Type 0} (p : A → Bool) (n : ℕ) (xs : List A) → count_by p (take n xs) ≤ count_by p xs
taken_less p zero xs = omega arith
taken_less p (suc n) [] = omega arith
taken_less p (suc n) (x ∷ xs) = omega (arith, count_more p x (take n xs), count_more p x xs, taken_less p n xs)

pub taken_few : {A : Type 0} (p : A → Bool) (n : ℕ) (xs : List A) → count_by p (take n xs) ≤ n
taken_few p zero xs = omega arith
taken_few p (suc n) [] = omega arith
taken_few p (suc n) (x ∷ xs) = omega (arith, count_more p x (take n xs), one_few (p x), taken_few p n xs)

-- one portion more
pub portion_more : {A : Type 0} (p : A → Bool) (at : ℕ) (xs : List A)
    → count_by p (take (at + PORTION) xs) ≡ count_by p (take at xs) + count_by p (take PORTION (drop at xs))
portion_more p at xs =
    ap (count_by p) (take-add at PORTION xs) ∙ count_both p (take at xs) (take PORTION (drop at xs))

module _ (node : ℕ) (tx : TxId) (list : List Outgoing) (at : ℕ) where
  -- of commits and completions a part of a list has those of its portion
  pub part_keys : (drive : Drive) (w : Keys)
      → count_sent (goes drive w) (part_effects node tx list at).sends
      ≤ count_sent (goes drive w) (take PORTION (drop at list))
  unfolding part_effects
  part_keys drive w =
      omega (
        arith,
        count_both (λ (o : Outgoing). goes drive w o.body) (take PORTION (drop at list))
            (rest_if node tx at (nat_lt (at + PORTION) (length list))),
        none drive (nat_lt (at + PORTION) (length list)),
      )
    where
      none : (d : Drive) (b : Bool) → count_sent (goes d w) (rest_if node tx at b) ≡ 0
      none committing true = refl
      none completing true = refl
      none committing false = refl
      none completing false = refl

  -- and it goes on once, where something is left
  pub part_onward : (x : ℕ) → Each (λ (o : Outgoing). onward tx x o.body ≡ false) list
      → count_sent (onward tx x) (part_effects node tx list at).sends
      ≤ one_if (nat_lt (at + PORTION) (length list) && ((at + PORTION) == x))
  unfolding part_effects
  part_onward x plain =
      omega (
        arith,
        count_both (λ (o : Outgoing). onward tx x o.body) (take PORTION (drop at list))
            (rest_if node tx at (nat_lt (at + PORTION) (length list))),
        none_counted (onward tx x) (take PORTION (drop at list))
            (each_take Plain PORTION (drop at list) (each_drop Plain at list plain)),
        rest (nat_lt (at + PORTION) (length list)),
      )
    where
      Plain : Outgoing → Type 0
      Plain o = onward tx x o.body ≡ false

      own : (a b : Bool) → one_if (a && b) ≤ one_if (true && b)
      own true b = omega arith
      own false b = omega arith

      rest : (b : Bool) → count_sent (onward tx x) (rest_if node tx at b) ≤ one_if (b && ((at + PORTION) == x))
      rest true =
          omega (
            arith,
            count_more (λ (o : Outgoing). onward tx x o.body)
                (go_on_at (coordinator node) (work.Transaction tx) (at + PORTION)) [],
            own (same_tx tx tx) ((at + PORTION) == x),
          )
      rest false = omega arith

module _ (layout : Layout) (tx : TxId) where
  abbrev pub commits_of : ℕ → ℕ → List Touched → List Outgoing
  commits_of epoch awaited touched = phase_sends layout tx (Committing epoch awaited) touched

  abbrev pub completions_of : ℕ → ℕ → List Touched → List Outgoing
  completions_of epoch awaited touched = phase_sends layout tx (Completing epoch awaited) touched

  -- they don't go on by themselves
  pub commits_plain : (x epoch awaited : ℕ) (touched : List Touched)
      → Each (λ (o : Outgoing). onward tx x o.body ≡ false) (commits_of epoch awaited touched)
  unfolding phase_sends front_sends key_sends
  commits_plain x epoch awaited [] = tt
  commits_plain x epoch awaited (t ∷ touched) = (refl, commits_plain x epoch awaited touched)

  completions_plain_of : (x epoch awaited : ℕ) (touched : List Touched)
      → Each (λ (o : Outgoing). onward tx x o.body ≡ false)
      (flat_map (key_sends layout tx (Completing epoch awaited)) touched)
  unfolding key_sends
  completions_plain_of x epoch awaited [] = tt
  completions_plain_of x epoch awaited (t ∷ touched) = by t.written (completions_plain_of x epoch awaited touched)
    where
      by : (b : Bool)
          → Each (λ (o : Outgoing). onward tx x o.body ≡ false)
          (flat_map (key_sends layout tx (Completing epoch awaited)) touched)
          → Each (λ (o : Outgoing). onward tx x o.body ≡ false)
          (complete_if tx t b ++ flat_map (key_sends layout tx (Completing epoch awaited)) touched)
      by true rest = (refl, rest)
      by false rest = rest

  pub completions_plain : (x epoch awaited : ℕ) (touched : List Touched)
      → Each (λ (o : Outgoing). onward tx x o.body ≡ false) (completions_of epoch awaited touched)
  unfolding phase_sends front_sends
  completions_plain x epoch awaited touched = (refl, completions_plain_of x epoch awaited touched)

  -- there is one commit for each key
  pub commits_length : (epoch awaited : ℕ) (touched : List Touched)
      → length (commits_of epoch awaited touched) ≡ length touched
  unfolding phase_sends front_sends key_sends
  commits_length epoch awaited [] = refl
  commits_length epoch awaited (t ∷ touched) = ap suc (commits_length epoch awaited touched)

  -- how many replicas await doesn't matter
  pub commits_same : (epoch one other : ℕ) (touched : List Touched)
      → commits_of epoch one touched ≡ commits_of epoch other touched
  unfolding phase_sends front_sends key_sends
  commits_same epoch one other touched = refl

  pub completions_same : (epoch one other : ℕ) (touched : List Touched)
      → completions_of epoch one touched ≡ completions_of epoch other touched
  unfolding phase_sends front_sends key_sends
  completions_same epoch one other touched = refl

  -- of a key there is one commit, and one completion
  module _ (key : List ℕ) where
    abbrev own : Keys
    own = mine tx (only key)

    -- commits of other keys
    commits_off : (epoch awaited : ℕ) (touched : List Touched)
        → Each (λ (u : Touched). same_key u.key key ≡ false) touched
        → count_sent (goes committing own) (commits_of epoch awaited touched) ≡ 0
    unfolding phase_sends front_sends key_sends
    commits_off epoch awaited [] off = refl
    commits_off epoch awaited (t ∷ touched) off =
        omega (
          arith,
          count_more (λ (o : Outgoing). goes committing own o.body) (commit_of tx epoch t)
              (commits_of epoch awaited touched),
          second_few (same_tx tx tx) (same_key t.key key),
          ap one_if off.0,
          commits_off epoch awaited touched off.1,
        )

    abbrev rest_of : ℕ → ℕ → List Touched → List Outgoing
    rest_of epoch awaited touched = flat_map (key_sends layout tx (Completing epoch awaited)) touched

    one_completed : (t : Touched) (b : Bool)
        → count_sent (goes completing own) (complete_if tx t b) ≤ one_if (same_key t.key key)
    one_completed t true =
        omega (
          arith,
          count_more (λ (o : Outgoing). goes completing own o.body) (complete_of tx t) [],
          second_few (same_tx tx tx) (same_key t.key key),
        )
    one_completed t false = omega arith

    completions_off : (epoch awaited : ℕ) (touched : List Touched)
        → Each (λ (u : Touched). same_key u.key key ≡ false) touched
        → count_sent (goes completing own) (rest_of epoch awaited touched) ≡ 0
    unfolding key_sends
    completions_off epoch awaited [] off = refl
    completions_off epoch awaited (t ∷ touched) off =
        omega (
          arith,
          count_both (λ (o : Outgoing). goes completing own o.body) (complete_if tx t t.written)
              (rest_of epoch awaited touched),
          one_completed t t.written,
          ap one_if off.0,
          completions_off epoch awaited touched off.1,
        )

    -- the others are of other keys
    others_off : (t : Touched) (touched : List Touched) → same_key t.key key ≡ true
        → Each (λ (u : Touched). same_key u.key t.key ≡ false) touched
        → Each (λ (u : Touched). same_key u.key key ≡ false) touched
    others_off t [] is off = tt
    others_off t (u ∷ touched) is off =
        (ap (same_key u.key) (sym (same_keys t.key key is)) ∙ off.0, others_off t touched is off.1)

    commits_once : (epoch awaited : ℕ) (touched : List Touched) → AreApart touched
        → count_sent (goes committing own) (commits_of epoch awaited touched) ≤ 1
    unfolding phase_sends front_sends key_sends
    commits_once epoch awaited [] apart = omega arith
    commits_once epoch awaited (t ∷ touched) apart =
        by (same_key t.key key) refl (commits_once epoch awaited touched apart.1)
      where
        more : count_sent (goes committing own) (commits_of epoch awaited (t ∷ touched))
            ≡ one_if (goes committing own (commit_of tx epoch t).body)
            + count_sent (goes committing own) (commits_of epoch awaited touched)
        more =
            omega (
              arith,
              count_more (λ (o : Outgoing). goes committing own o.body) (commit_of tx epoch t)
                  (commits_of epoch awaited touched),
            )

        by : (b : Bool) → same_key t.key key ≡ b
            → count_sent (goes committing own) (commits_of epoch awaited touched) ≤ 1
            → count_sent (goes committing own) (commits_of epoch awaited (t ∷ touched)) ≤ 1
        by true is rest =
            omega (
              arith,
              more,
              one_few (goes committing own (commit_of tx epoch t).body),
              commits_off epoch awaited touched (others_off t touched is apart.0),
            )
        by false off rest =
            omega (
              arith,
              more,
              second_few (same_tx tx tx) (same_key t.key key),
              ap one_if off,
              rest,
            )

    completions_once_of : (epoch awaited : ℕ) (touched : List Touched) → AreApart touched
        → count_sent (goes completing own) (rest_of epoch awaited touched) ≤ 1
    unfolding key_sends
    completions_once_of epoch awaited [] apart = omega arith
    completions_once_of epoch awaited (t ∷ touched) apart =
        by (same_key t.key key) refl (completions_once_of epoch awaited touched apart.1)
      where
        more : count_sent (goes completing own) (rest_of epoch awaited (t ∷ touched))
            ≡ count_sent (goes completing own) (complete_if tx t t.written)
            + count_sent (goes completing own) (rest_of epoch awaited touched)
        more =
            count_both (λ (o : Outgoing). goes completing own o.body) (complete_if tx t t.written)
            (rest_of epoch awaited touched)

        by : (b : Bool) → same_key t.key key ≡ b
            → count_sent (goes completing own) (rest_of epoch awaited touched) ≤ 1
            → count_sent (goes completing own) (rest_of epoch awaited (t ∷ touched)) ≤ 1
        by true is rest =
            omega (
              arith,
              more,
              one_completed t t.written,
              ap one_if is,
              completions_off epoch awaited touched (others_off t touched is apart.0),
            )
        by false off rest =
            omega (
              arith,
              more,
              one_completed t t.written,
              ap one_if off,
              rest,
            )

    completions_once : (epoch awaited : ℕ) (touched : List Touched) → AreApart touched
        → count_sent (goes completing own) (completions_of epoch awaited touched) ≤ 1
    unfolding phase_sends front_sends
    completions_once epoch awaited touched apart =
        omega (
          arith,
          count_more (λ (o : Outgoing). goes completing own o.body) (reported tx epoch) (rest_of epoch awaited touched),
          completions_once_of epoch awaited touched apart,
        )

  -- no commits among completions, nor the other way round
  pub commits_alone : (w : Keys) (epoch awaited : ℕ) (touched : List Touched)
      → count_sent (goes completing w) (commits_of epoch awaited touched) ≡ 0
  unfolding phase_sends front_sends key_sends
  commits_alone w epoch awaited [] = refl
  commits_alone w epoch awaited (t ∷ touched) =
      omega (
        arith,
        count_more (λ (o : Outgoing). goes completing w o.body) (commit_of tx epoch t)
            (commits_of epoch awaited touched),
        commits_alone w epoch awaited touched,
      )

  completions_alone_of : (w : Keys) (epoch awaited : ℕ) (touched : List Touched)
      → count_sent (goes committing w) (flat_map (key_sends layout tx (Completing epoch awaited)) touched) ≡ 0
  unfolding key_sends
  completions_alone_of w epoch awaited [] = refl
  completions_alone_of w epoch awaited (t ∷ touched) =
      omega (
        arith,
        count_both (λ (o : Outgoing). goes committing w o.body) (complete_if tx t t.written)
            (flat_map (key_sends layout tx (Completing epoch awaited)) touched),
        none t.written,
        completions_alone_of w epoch awaited touched,
      )
    where
      none : (b : Bool) → count_sent (goes committing w) (complete_if tx t b) ≡ 0
      none true = refl
      none false = refl

  pub completions_alone : (w : Keys) (epoch awaited : ℕ) (touched : List Touched)
      → count_sent (goes committing w) (completions_of epoch awaited touched) ≡ 0
  unfolding phase_sends front_sends
  completions_alone w epoch awaited touched =
      omega (
        arith,
        count_more (λ (o : Outgoing). goes committing w o.body) (reported tx epoch)
            (flat_map (key_sends layout tx (Completing epoch awaited)) touched),
        completions_alone_of w epoch awaited touched,
      )

  -- so of each drive
  pub once_in_commits : (drive : Drive) (key : List ℕ) (epoch awaited : ℕ) (touched : List Touched) → AreApart touched
      → count_sent (goes drive (mine tx (only key))) (commits_of epoch awaited touched)
      + count_sent (goes drive (mine tx (only key))) (completions_of epoch awaited touched) ≤ 1
  once_in_commits committing key epoch awaited touched apart =
      omega (
        arith,
        commits_once key epoch awaited touched apart,
        completions_alone (mine tx (only key)) epoch awaited touched,
      )
  once_in_commits completing key epoch awaited touched apart =
      omega (
        arith,
        completions_once key epoch awaited touched apart,
        commits_alone (mine tx (only key)) epoch awaited touched,
      )
