-- The lists of commits and completions of a takeover: each names a key once, since each key was gathered once.
use Rattle.std.proofs.Common.{◌≡◌, ◌≤◌, ◌+◌, ◌||◌, ◌++◌, ◌∙◌, ℕ, Bool, true, false, List, [], ◌∷◌, refl, sym, ap}
use Rattle.std.proofs.Common.{arith}
use Rattle.std.proofs.lemmas.Bool.{true≢false}
use Rattle.std.specs.List.{flat_map}
use Rattle.run_theory.specs.Lists.{Each}
use Rattle.sig_core.specs.declared.outs.Outgoing.{Outgoing}
use Rattle.sig_core.specs.Same.{same_key, same_tx}
use Rattle.frag_map.specs.Layout.{Layout, chain_of}
use Rattle.row_records.proofs.KeyLemmas.{same as same_keys}
use Rattle.takeover_block.specs.declared.gathered.Gathered.{Gathered}
use Rattle.takeover_block.specs.declared.stage.Stage.{Stage}
use Rattle.takeover_block.specs.declared.stage.Stage.TheVariants.{Aborting, Committing, Completing, Gathering, Resting}
use Rattle.takeover_block.specs.Keys.{has_key, with_key, with_key_if}
use Rattle.takeover_block.specs.Sends.{abort_at, commit_along, complete_along, front_sends, key_sends, key_sends_along}
use Rattle.takeover_block.specs.Sends.{stage_sends}
use Rattle.outcome_laws.specs.Counts.{count_sent}
use Rattle.outcome_laws.proofs.coordinators.Lists.{count_both, count_more, none_counted, one_few, second_few}
use Rattle.run_theory.proofs.EachSent.{each_mapped}
use Rattle.run_theory.proofs.Pasts.{each_append}
use Rattle.tc_block.specs.Complete.{one_if}
use Rattle.commit_laws.proofs.drive.Kinds.{Drive, Keys, committing, completing, goes}
use Rattle.commit_laws.proofs.drive.Lists.{mine, only}

-- no key stands twice
abbrev pub KeysApart : List (List ℕ) → Type 0
KeysApart [] = Unit {0}
KeysApart (key ∷ keys) = Each (λ (own : List ℕ). same_key own key ≡ false) keys × KeysApart keys

-- one more, that isn't among them
last_apart : (keys : List (List ℕ)) (key : List ℕ) → has_key keys key ≡ false → KeysApart keys
    → KeysApart (keys ++ key ∷ [])
last_apart [] key off apart = (tt, tt)
last_apart (own ∷ keys) key off apart =
    let parts = neither (same_key key own) (has_key keys key) off in (
      each_append (λ (u : List ℕ). same_key u own ≡ false) keys (key ∷ []) apart.0 (parts.0, tt),
      last_apart keys key parts.1 apart.1,
    )
  where
    neither : (a b : Bool) → (a || b) ≡ false → (a ≡ false) × (b ≡ false)
    neither true b is = absurd (true≢false is)
    neither false b is = (refl, is)

pub with_key_apart : (keys : List (List ℕ)) (key : List ℕ) → KeysApart keys → KeysApart (with_key keys key)
unfolding with_key
with_key_apart keys key apart = by (has_key keys key) refl
  where
    by : (b : Bool) → has_key keys key ≡ b → KeysApart (with_key_if keys key b)
    by true is = apart
    by false off = last_apart keys key off apart

-- the stage commits keys, or completes them
abbrev pub is_way : Drive → Stage → Bool
is_way committing (Committing e n) = true
is_way completing (Completing e n) = true
is_way drive stage = false

module _ (layout : Layout) (g : Gathered) where
  -- what is sent for one key
  module _ (drive : Drive) (w : Keys) where
    abbrev count : List Outgoing → ℕ
    count sends = count_sent (goes drive w) sends

    pub key_count : (stage : Stage) (key : List ℕ) → count (key_sends layout g.tx stage key) ≤ one_if (w g.tx key)
    unfolding key_sends
    key_count stage key = by drive stage
      where
        by : (d : Drive) (stage : Stage)
            → count_sent (goes d w) (key_sends_along g.tx stage key (chain_of layout key)) ≤ one_if (w g.tx key)
        by committing (Committing e n) =
            omega (
              arith,
              count_more (λ (o : Outgoing). goes committing w o.body)
                  (commit_along g.tx e key (chain_of layout key)) [],
            )
        by completing (Committing e n) = omega arith
        by committing (Completing e n) = omega arith
        by completing (Completing e n) =
            omega (
              arith,
              count_more (λ (o : Outgoing). goes completing w o.body)
                  (complete_along g.tx key (chain_of layout key)) [],
            )
        by committing (Aborting n) =
            let none =
            none_counted (goes committing w) (key_sends_along g.tx (Aborting n) key (chain_of layout key))
            (each_mapped (λ (o : Outgoing). goes committing w o.body ≡ false) (abort_at g.tx key) (chain_of layout key)
            (λ m. refl)) in
            omega (arith, none)
        by completing (Aborting n) =
            let none =
            none_counted (goes completing w) (key_sends_along g.tx (Aborting n) key (chain_of layout key))
            (each_mapped (λ (o : Outgoing). goes completing w o.body ≡ false) (abort_at g.tx key) (chain_of layout key)
            (λ m. refl)) in
            omega (arith, none)
        by committing Resting = omega arith
        by completing Resting = omega arith
        by committing (Gathering n) = omega arith
        by completing (Gathering n) = omega arith

    pub front_none : (stage : Stage) → count (front_sends g.tx stage) ≡ 0
    unfolding front_sends
    front_none stage = by drive stage
      where
        by : (d : Drive) (stage : Stage) → count_sent (goes d w) (front_sends g.tx stage) ≡ 0
        by committing (Completing e n) = refl
        by completing (Completing e n) = refl
        by d Resting = refl
        by d (Gathering n) = refl
        by d (Committing e n) = refl
        by d (Aborting n) = refl

  -- of a key there is one at most
  module _ (drive : Drive) (key : List ℕ) (stage : Stage) where
    abbrev own : Keys
    own = mine g.tx (only key)

    abbrev list_for : List (List ℕ) → List Outgoing
    list_for keys = flat_map (key_sends layout g.tx stage) keys

    none_for : (keys : List (List ℕ)) → Each (λ (u : List ℕ). same_key u key ≡ false) keys
        → count_sent (goes drive own) (list_for keys) ≡ 0
    none_for [] off = refl
    none_for (u ∷ keys) off =
        omega (
          arith,
          count_both (λ (o : Outgoing). goes drive own o.body) (key_sends layout g.tx stage u) (list_for keys),
          key_count drive own stage u,
          second_few (same_tx g.tx g.tx) (same_key u key),
          ap one_if off.0,
          none_for keys off.1,
        )

    others_off : (u : List ℕ) (keys : List (List ℕ)) → same_key u key ≡ true
        → Each (λ (v : List ℕ). same_key v u ≡ false) keys → Each (λ (v : List ℕ). same_key v key ≡ false) keys
    others_off u [] is off = tt
    others_off u (v ∷ keys) is off =
        (ap (same_key v) (sym (same_keys u key is)) ∙ off.0, others_off u keys is off.1)

    once_for : (keys : List (List ℕ)) → KeysApart keys → count_sent (goes drive own) (list_for keys) ≤ 1
    once_for [] apart = omega arith
    once_for (u ∷ keys) apart = by (same_key u key) refl (once_for keys apart.1)
      where
        more : count_sent (goes drive own) (list_for (u ∷ keys))
            ≡ count_sent (goes drive own) (key_sends layout g.tx stage u) + count_sent (goes drive own) (list_for keys)
        more = count_both (λ (o : Outgoing). goes drive own o.body) (key_sends layout g.tx stage u) (list_for keys)

        by : (b : Bool) → same_key u key ≡ b → count_sent (goes drive own) (list_for keys) ≤ 1
            → count_sent (goes drive own) (list_for (u ∷ keys)) ≤ 1
        by true is rest =
            omega (
              arith,
              more,
              key_count drive own stage u,
              one_few (own g.tx u),
              none_for keys (others_off u keys is apart.0),
            )
        by false off rest =
            omega (
              arith,
              more,
              key_count drive own stage u,
              second_few (same_tx g.tx g.tx) (same_key u key),
              ap one_if off,
              rest,
            )

    pub stage_once : KeysApart g.keys → count_sent (goes drive own) (stage_sends layout stage g) ≤ 1
    unfolding stage_sends
    stage_once apart =
        omega (
          arith,
          count_both (λ (o : Outgoing). goes drive own o.body) (front_sends g.tx stage) (list_for g.keys),
          front_none drive own stage,
          once_for g.keys apart,
        )

    -- what doesn't commit, or doesn't complete, has none
    pub stage_none : is_way drive stage ≡ false → (w : Keys)
        → count_sent (goes drive w) (stage_sends layout stage g) ≡ 0
    unfolding stage_sends key_sends
    stage_none off w =
        omega (
          arith,
          count_both (λ (o : Outgoing). goes drive w o.body) (front_sends g.tx stage) (list_for g.keys),
          front_none drive w stage,
          all_off g.keys,
        )
      where
        one : (d : Drive) (stage : Stage) → is_way d stage ≡ false → (u : List ℕ)
            → count_sent (goes d w) (key_sends_along g.tx stage u (chain_of layout u)) ≡ 0
        one committing (Committing e n) off u = absurd (true≢false off)
        one completing (Committing e n) off u = refl
        one committing (Completing e n) off u = refl
        one completing (Completing e n) off u = absurd (true≢false off)
        one committing (Aborting n) off u =
            none_counted (goes committing w) (key_sends_along g.tx (Aborting n) u (chain_of layout u))
            (each_mapped (λ (o : Outgoing). goes committing w o.body ≡ false) (abort_at g.tx u) (chain_of layout u)
            (λ m. refl))
        one completing (Aborting n) off u =
            none_counted (goes completing w) (key_sends_along g.tx (Aborting n) u (chain_of layout u))
            (each_mapped (λ (o : Outgoing). goes completing w o.body ≡ false) (abort_at g.tx u) (chain_of layout u)
            (λ m. refl))
        one committing Resting off u = refl
        one completing Resting off u = refl
        one committing (Gathering n) off u = refl
        one completing (Gathering n) off u = refl

        all_off : (keys : List (List ℕ)) → count_sent (goes drive w) (list_for keys) ≡ 0
        all_off [] = refl
        all_off (u ∷ keys) =
            omega (
              arith,
              count_both (λ (o : Outgoing). goes drive w o.body) (key_sends layout g.tx stage u) (list_for keys),
              one drive stage off u,
              all_off keys,
            )
