-- How much of what a coordinator awaits its signals, and those of the rows of a node, stand for.
use Rattle.std.proofs.Common.{◌≡◌, ◌≤◌, ◌<◌, ◌+◌, ◌-◌, ℕ, suc, Bool, true, false, List, [], ◌∷◌, ◌++◌, length, take}
use Rattle.std.proofs.Common.{drop, min}
use Rattle.std.proofs.Common.{refl, sym, ap, ◌∙◌, arith, length-take, length-drop}
use Rattle.std.proofs.lemmas.Bool.{false≢true, true≢false}
use Rattle.std.proofs.lemmas.Bool.Decides.{nat_tests}
use Rattle.std.proofs.lemmas.List.{length-append, length-map}
use Rattle.std.specs.List.{flat_map}
use Rattle.std.specs.Prelude.{◌-◌, if◌then◌else◌, nat_lt}
use Rattle.run_theory.proofs.EachSent.{each_drop, each_flat, each_mapped, each_take}
use Rattle.run_theory.proofs.Pasts.{each_append}
use Rattle.run_theory.specs.Counts.{one_if}
use Rattle.run_theory.specs.Lists.{Each}
use Rattle.sig_core.proofs.Keys.{same_tx-self}
use Rattle.sig_core.specs.declared.member.Member.{Member}
use Rattle.sig_core.specs.declared.member.TxId.{TxId}
use Rattle.sig_core.specs.declared.outs.Outgoing.{Outgoing}
use Rattle.sig_core.specs.declared.portion.TheConstants.{PORTION}
use Rattle.sig_core.specs.declared.signal.Body.{Body}
use Rattle.sig_core.specs.declared.signal.Body.TheVariants.{Chain, Host}
use Rattle.sig_core.specs.declared.signal.chain.ChainSignal.TheVariants.{Abort, Aborted, Commit, Committed, Complete}
use Rattle.sig_core.specs.declared.signal.chain.ChainSignal.TheVariants.{Completed}
use Rattle.sig_core.specs.declared.signal.host.HostSignal.TheVariants.{Continue}
use Rattle.sig_core.specs.declared.signal.host.Work.TheVariants as work
use Rattle.sig_core.specs.Same.{same_tx}
use Rattle.frag_map.specs.Layout.{Layout, chain_of}
use Rattle.tc_block.specs.Complete as complete
use Rattle.tc_block.specs.declared.phase.Phase.{Phase}
use Rattle.tc_block.specs.declared.phase.Phase.TheVariants.{Open, Verifying, Committing, Completing, Aborting}
use Rattle.tc_block.specs.declared.touched.Touched.{Touched}
use Rattle.tc_block.specs.Part.{part_effects, rest_if}
use Rattle.tc_block.specs.Sends.{abort_of, aborts_of, complete_if, front_sends, key_sends, phase_sends, reported}
use Rattle.lqh_block.proofs.EachLqh.{RequestSends, lqh_sends_each}
use Rattle.lqh_block.proofs.LqhForms.{abort_forms, commit_forms, complete_forms}
use Rattle.lqh_block.specs.declared.request.Request.{Request}
use Rattle.lqh_block.specs.Lqh.{lqh_table}
use Rattle.lqh_block.specs.State.{LqhState, freed_lock, go_on_if}
use Rattle.node_core.specs.Requests.{is_request}
use Rattle.host_laws.proofs.hosts.Sums.{one_most}
use Rattle.run_laws.proofs.transit.Weighing.{weigh, weigh_append, weigh_none}
use Rattle.order_laws.specs.Awaited.{due, list_length}

-- the signal stands for something
abbrev pub is_due : TxId → Body → Bool
is_due tx (Chain (Commit other key epoch chain at)) = same_tx other tx
is_due tx (Chain (Committed other key)) = same_tx other tx
is_due tx (Chain (Complete other key chain at)) = same_tx other tx
is_due tx (Chain (Completed other key)) = same_tx other tx
is_due tx (Chain (Abort other key)) = same_tx other tx
is_due tx (Chain (Aborted other key)) = same_tx other tx
is_due tx (Host (Continue (work.Transaction other) at)) = same_tx other tx
is_due tx body = false

pub off_due : (tx : TxId) (count : ℕ) (body : Body) → is_due tx body ≡ false → due tx count body ≡ 0
off_due tx count (Chain (Commit other key epoch chain at)) off = ap one_if off
off_due tx count (Chain (Committed other key)) off = ap one_if off
off_due tx count (Chain (Complete other key chain at)) off = ap one_if off
off_due tx count (Chain (Completed other key)) off = ap one_if off
off_due tx count (Chain (Abort other key)) off = ap one_if off
off_due tx count (Chain (Aborted other key)) off = ap one_if off
off_due tx count (Host (Continue (work.Transaction other) at)) off =
    ap (λ b. if b then suc (count - suc at) else 0) off
off_due tx count _ off = refl

-- what stands for nothing of one list does so of each
pub none_due : (tx : TxId) (count other : ℕ) (body : Body) → due tx count body ≡ 0 → due tx other body ≡ 0
none_due tx count other (Chain (Commit one key epoch chain at)) none = none
none_due tx count other (Chain (Committed one key)) none = none
none_due tx count other (Chain (Complete one key chain at)) none = none
none_due tx count other (Chain (Completed one key)) none = none
none_due tx count other (Chain (Abort one key)) none = none
none_due tx count other (Chain (Aborted one key)) none = none
none_due tx count other (Host (Continue (work.Transaction one) at)) none = by (same_tx one tx) none
  where
    by : (b : Bool) → (if b then suc (count - suc at) else 0) ≡ 0 → (if b then suc (other - suc at) else 0) ≡ 0
    by true some = absurd (omega (arith, some))
    by false some = refl
none_due tx count other _ none = refl

pub request_due : (tx : TxId) (body : Body) → is_request body ≡ true → is_due tx body ≡ false
request_due tx (Chain c) is = absurd (false≢true is)
request_due tx (Host (Continue (work.Transaction other) at)) is = absurd (false≢true is)
request_due tx _ is = refl

pub weigh_ones : {A : Type 0} (f : A → ℕ) (xs : List A) → Each (λ x. f x ≤ 1) xs → weigh f xs ≤ length xs
weigh_ones f [] all = omega arith
weigh_ones f (x ∷ xs) all = omega (arith, all.0, weigh_ones f xs all.1)

module _ (tx : TxId) where
  -- what so many signals stand for
  abbrev pub weighs : ℕ → List Outgoing → ℕ
  weighs count sends = weigh (λ (o : Outgoing). due tx count o.body) sends

  pub off_weighs : (count : ℕ) (sends : List Outgoing) → Each (λ (o : Outgoing). is_due tx o.body ≡ false) sends
      → weighs count sends ≡ 0
  off_weighs count [] all = refl
  off_weighs count (o ∷ sends) all = omega (arith, off_due tx count o.body all.0, off_weighs count sends all.1)

  module _ (node : ℕ) where
    rest_is : (count at : ℕ) → weighs count (rest_if node tx at true) ≡ suc (count - suc (at + PORTION))
    rest_is count at =
        omega (arith, ap (λ b. if b then suc (count - suc (at + PORTION)) else 0) (same_tx-self tx))

    -- a part of a list, from a place on, stands for no more than is left from there
    pub part_weighs : (count : ℕ) (xs : List Outgoing) (at : ℕ) → length xs ≡ count
        → Each (λ (o : Outgoing). due tx count o.body ≤ 1) xs
        → weighs count (part_effects node tx xs at).sends ≤ count - at
    unfolding part_effects
    part_weighs count xs at is all = by (nat_lt (at + PORTION) (length xs)) refl
      where
        w : Outgoing → ℕ
        w o = due tx count o.body

        long : length (take PORTION (drop at xs)) ≡ min PORTION (count - at)
        long =
            length-take PORTION (drop at xs)
            ∙ (ap (λ m. min PORTION m) (length-drop at xs) ∙ ap (λ m. min PORTION (m - at)) is)

        part_is : weigh w (take PORTION (drop at xs)) ≤ length (take PORTION (drop at xs))
        part_is =
            weigh_ones w (take PORTION (drop at xs))
            (each_take (λ (o : Outgoing). due tx count o.body ≤ 1) PORTION (drop at xs)
            (each_drop (λ (o : Outgoing). due tx count o.body ≤ 1) at xs all))

        by : (b : Bool) → nat_lt (at + PORTION) (length xs) ≡ b
            → weigh w (take PORTION (drop at xs) ++ rest_if node tx at b) ≤ count - at
        by true e =
            let far : at + PORTION < length xs = grind (arith, nat_tests, e) in
            omega (
              arith,
              weigh_append w (take PORTION (drop at xs)) (rest_if node tx at true),
              part_is,
              long,
              rest_is count at,
              far,
              is,
            )
        by false e =
            omega (arith, weigh_append w (take PORTION (drop at xs)) (rest_if node tx at false), part_is, long)

    -- where the first of the list stands for nothing, the first part stands for the others
    pub first_weighs : (count : ℕ) (x : Outgoing) (xs : List Outgoing) → suc (length xs) ≡ count
        → due tx count x.body ≡ 0 → Each (λ (o : Outgoing). due tx count o.body ≤ 1) xs
        → weighs count (part_effects node tx (x ∷ xs) 0).sends ≤ length xs
    unfolding part_effects
    first_weighs count x xs is none all = by (nat_lt (0 + PORTION) (length (x ∷ xs))) refl
      where
        w : Outgoing → ℕ
        w o = due tx count o.body

        part_is : weigh w (take (PORTION - 1) xs) ≤ length (take (PORTION - 1) xs)
        part_is =
            weigh_ones w (take (PORTION - 1) xs)
            (each_take (λ (o : Outgoing). due tx count o.body ≤ 1) (PORTION - 1) xs all)

        by : (b : Bool) → nat_lt (0 + PORTION) (length (x ∷ xs)) ≡ b
            → weigh w (take PORTION (drop 0 (x ∷ xs)) ++ rest_if node tx 0 b) ≤ length xs
        by true e =
            let far : 0 + PORTION < length (x ∷ xs) = grind (arith, nat_tests, e) in
            omega (
              arith,
              weigh_append w (take (PORTION - 1) xs) (rest_if node tx 0 true),
              part_is,
              length-take (PORTION - 1) xs,
              rest_is count 0,
              far,
              none,
              is,
            )
        by false e =
            omega (
              arith,
              weigh_append w (take (PORTION - 1) xs) (rest_if node tx 0 false),
              part_is,
              length-take (PORTION - 1) xs,
              none,
            )

  module _ (layout : Layout) where
    complete_long : (u : Touched) (b : Bool) → length (complete_if tx u b) ≡ complete.one_if b
    complete_long u true = refl
    complete_long u false = refl

    commits_long : (epoch awaited : ℕ) (us : List Touched)
        → length (flat_map (key_sends layout tx (Committing epoch awaited)) us) ≡ length us
    unfolding key_sends
    commits_long epoch awaited [] = refl
    commits_long epoch awaited (u ∷ us) = omega (arith, commits_long epoch awaited us)

    completions_long : (epoch awaited : ℕ) (us : List Touched)
        → length (flat_map (key_sends layout tx (Completing epoch awaited)) us) ≡ complete.written_count us
    unfolding key_sends
    completions_long epoch awaited [] = refl
    completions_long epoch awaited (u ∷ us) =
        omega (
          arith,
          completions_long epoch awaited us,
          complete_long u u.written,
          length-append (complete_if tx u u.written)
              (flat_map (key_sends layout tx (Completing epoch awaited)) us),
        )

    -- a list is as long as its phase says
    pub phase_long : (phase : Phase) (touched : List Touched)
        → length (phase_sends layout tx phase touched) ≡ list_length layout phase touched
    unfolding phase_sends front_sends key_sends
    phase_long (Committing epoch awaited) touched = commits_long epoch awaited touched
    phase_long (Completing epoch awaited) touched = omega (arith, completions_long epoch awaited touched)
    phase_long (Aborting why verifying awaited) touched = all touched
      where
        all : (us : List Touched) → length (flat_map (key_sends layout tx (Aborting why verifying awaited)) us)
            ≡ list_length layout (Aborting why verifying awaited) us
        all [] = refl
        all (u ∷ us) =
            omega (
              arith,
              all us,
              length-map (chain_of layout u.key) (abort_of tx u.key),
              length-append (aborts_of tx u.key (chain_of layout u.key))
                  (flat_map (key_sends layout tx (Aborting why verifying awaited)) us),
            )
    phase_long Open touched = none touched
      where
        none : (us : List Touched) → length (flat_map (key_sends layout tx Open) us) ≡ 0
        none [] = refl
        none (u ∷ us) = none us
    phase_long Verifying touched = none touched
      where
        none : (us : List Touched) → length (flat_map (key_sends layout tx Verifying) us) ≡ 0
        none [] = refl
        none (u ∷ us) = none us

    module _ (count : ℕ) where
      abbrev IsOne : Outgoing → Type 0
      IsOne o = due tx count o.body ≤ 1

      pub aborts_one : (key : List ℕ) (chain : List Member) → Each IsOne (aborts_of tx key chain)
      aborts_one key chain = each_mapped IsOne (abort_of tx key) chain (λ r. one_most (same_tx tx tx))

      complete_one : (u : Touched) (b : Bool) → Each IsOne (complete_if tx u b)
      complete_one u true = (one_most (same_tx tx tx), tt)
      complete_one u false = tt

      key_one : (phase : Phase) (u : Touched) → Each IsOne (key_sends layout tx phase u)
      unfolding key_sends
      key_one (Committing epoch awaited) u = (one_most (same_tx tx tx), tt)
      key_one (Completing epoch awaited) u = complete_one u u.written
      key_one (Aborting why verifying awaited) u = aborts_one u.key (chain_of layout u.key)
      key_one Open u = tt
      key_one Verifying u = tt

      front_one : (phase : Phase) → Each IsOne (front_sends tx phase)
      unfolding front_sends
      front_one (Committing epoch awaited) = tt
      front_one (Completing epoch awaited) = (omega arith, tt)
      front_one (Aborting why verifying awaited) = tt
      front_one Open = tt
      front_one Verifying = tt

      -- each signal of a list stands for one at most
      pub phase_one : (phase : Phase) (touched : List Touched) → Each IsOne (phase_sends layout tx phase touched)
      unfolding phase_sends
      phase_one phase touched =
          each_append IsOne (front_sends tx phase) (flat_map (key_sends layout tx phase) touched) (front_one phase)
          (each_flat IsOne (key_sends layout tx phase) touched (key_one phase))

      keys_one : (phase : Phase) (touched : List Touched)
          → Each IsOne (flat_map (key_sends layout tx phase) touched)
      keys_one phase touched = each_flat IsOne (key_sends layout tx phase) touched (key_one phase)

    -- the first part of the completions stands for the keys that were written
    pub completions_weigh : (node epoch awaited : ℕ) (touched : List Touched)
        → weighs (suc (complete.written_count touched))
        (part_effects node tx (phase_sends layout tx (Completing epoch awaited) touched) 0).sends
        ≤ complete.written_count touched
    unfolding phase_sends front_sends
    completions_weigh node epoch awaited touched =
        let long = completions_long epoch awaited touched in
        omega (
          arith,
          long,
          first_weighs node (suc (complete.written_count touched)) (reported tx epoch)
              (flat_map (key_sends layout tx (Completing epoch awaited)) touched) (omega (arith, long)) refl
              (keys_one (suc (complete.written_count touched)) (Completing epoch awaited) touched),
        )

  -- a row of a transaction is committed, completed or aborted
  abbrev is_row_end : Body → Bool
  is_row_end (Chain (Commit other key epoch chain at)) = true
  is_row_end (Chain (Complete other key chain at)) = true
  is_row_end (Chain (Abort other key)) = true
  is_row_end body = false

  module _ (s : LqhState) (count : ℕ) where
    serving_none : (b : Bool) → weighs count (go_on_if s.node work.Granted b) ≡ 0
    serving_none true = refl
    serving_none false = refl

    other_none : (body : Body) → is_row_end body ≡ false
        → Each (λ (o : Outgoing). due tx count o.body ≡ 0) (lqh_table s body).effects.sends
    other_none body off =
        lqh_sends_each (λ (o : Outgoing). due tx count o.body ≡ 0) s body (record {
          asked = λ r is. request r;
          waited = λ at r is. request r;
          grants_more = refl;
          expires_more = refl;
          commits_on = λ one own epoch chain at is behind. absurd (true≢false (sym (ap is_row_end is) ∙ off));
          committed = λ one own epoch chain at is first. absurd (true≢false (sym (ap is_row_end is) ∙ off));
          completes_on = λ one own chain at is behind. absurd (true≢false (sym (ap is_row_end is) ∙ off));
          completed = λ one own chain at is first. absurd (true≢false (sym (ap is_row_end is) ∙ off));
          aborted = λ one own is. absurd (true≢false (sym (ap is_row_end is) ∙ off));
          gives_up = λ one own is. refl;
          times_out = λ one own. refl;
          waits = λ one own ahead is there. refl;
          dumps = λ at rows next is. refl;
        })
      where
        request : (r : Request) → RequestSends (λ (o : Outgoing). due tx count o.body ≡ 0) r
        request r = record {
          log_full = λ used reserved need. refl;
          table_full = λ rows. refl;
          answers = λ a. refl;
          passes = λ image next is. refl;
        }

    -- what the rows of a node send stands for no more than what they took
    pub lqh_weighs : (body : Body) → weighs count (lqh_table s body).effects.sends ≤ due tx count body
    lqh_weighs (Chain (Commit other key epoch chain at)) =
        commit_forms (λ step. weighs count step.effects.sends ≤ one_if (same_tx other tx)) s other key epoch chain at
        (record {
          last = λ had st markers applies first.
              omega (arith, serving_none (nat_lt 0 (freed_lock s other key).granted));
          passes = λ had st markers applies first. omega arith;
        })
    lqh_weighs (Chain (Complete other key chain at)) =
        complete_forms (λ step. weighs count step.effects.sends ≤ one_if (same_tx other tx)) s other key chain at
        (record {
          last = λ first. omega (arith, serving_none (nat_lt 0 (freed_lock s other key).granted));
          passes = λ first. omega (arith, serving_none (nat_lt 0 (freed_lock s other key).granted));
        })
    lqh_weighs (Chain (Abort other key)) =
        abort_forms (λ step. weighs count step.effects.sends ≤ one_if (same_tx other tx)) s other key
        (record {
          none = λ had st gives none. omega (arith, serving_none (nat_lt 0 (freed_lock s other key).granted));
          some = λ had st gives at r there here.
              omega (arith, serving_none (nat_lt 0 (freed_lock s other key).granted));
        })
    lqh_weighs body =
        omega (
          arith,
          weigh_none (λ (o : Outgoing). due tx count o.body) (lqh_table s body).effects.sends (other_none body refl),
        )
