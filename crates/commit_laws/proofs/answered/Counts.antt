-- Signals of distinct keys are counted: where each key has one at most, and there are as many as keys, each key has
-- one.
use Rattle.std.proofs.Common.{◌≡◌, ◌≤◌, ◌+◌, ◌||◌, ◌&&◌, ◌==◌, ℕ, Bool, true, false, if◌then◌else◌, List, [], ◌∷◌}
use Rattle.std.proofs.Common.{length, refl, sym, ap, arith}
use Rattle.std.proofs.lemmas.Bool.{and_parts, true≢false}
use Rattle.std.specs.List.{list_any}
use Rattle.std.specs.Prelude.{not}
use Rattle.run_theory.specs.Lists.{Each}
use Rattle.sig_core.specs.declared.member.TxId.{TxId}
use Rattle.sig_core.specs.declared.signal.Body.{Body}
use Rattle.sig_core.specs.declared.signal.Body.TheVariants.{Chain}
use Rattle.sig_core.specs.declared.signal.Signal.{Signal}
use Rattle.sig_core.specs.declared.signal.chain.ChainSignal.TheVariants.{Committed}
use Rattle.sig_core.specs.Same.{same_key, same_tx}
use Rattle.tc_block.specs.declared.touched.Touched.{Touched}
use Rattle.tc_block.specs.Complete.{one_if}
use Rattle.world_core.specs.Start.{Start}
use Rattle.world_core.specs.Steps.{HostStep}
use Rattle.view_laws.specs.Order.{sound_machine}
use Rattle.request_laws.proofs.routes.BesideRows.{is_of_rows}
use Rattle.request_laws.specs.Tokens.{taken_along}
use Rattle.commit_laws.proofs.drive.Kinds.{comes, committing, numbered}
use Rattle.commit_laws.proofs.drive.Lists.{any, mine, only}

-- the key is one of these, or none of them
abbrev pub among : List Touched → List ℕ → Bool
among touched key = list_any (λ (u : Touched). same_key key u.key) touched

abbrev pub outside : List Touched → List ℕ → Bool
outside touched key = not (among touched key)

-- counts of keys
module _ (count : (List ℕ → Bool) → ℕ) (none : count (among []) ≡ 0)
    (adds : (u : Touched) (us : List Touched) → count (among (u ∷ us)) ≤ count (only u.key) + count (among us))
    (once : (key : List ℕ) → count (only key) ≤ 1)
  where
    pub counts_few : (us : List Touched) → count (among us) ≤ length us
    counts_few [] = omega (arith, none)
    counts_few (u ∷ us) = omega (arith, adds u us, once u.key, counts_few us)

    pub each_counts : (us : List Touched) → length us ≤ count (among us)
        → Each (λ (u : Touched). 1 ≤ count (only u.key)) us
    each_counts [] enough = tt
    each_counts (u ∷ us) enough =
        (omega (arith, adds u us, counts_few us, enough), each_counts us (omega (arith, adds u us, once u.key, enough)))

-- what is taken, test by test
module _ (start : Start) (p q r : Signal → Bool) (parts : (x : Signal) → one_if (p x) ≤ one_if (q x) + one_if (r x))
  where
    pub taken_parts : (log : List HostStep)
        → taken_along start p log ≤ taken_along start q log + taken_along start r log
    taken_parts [] = omega arith
    taken_parts (e ∷ log) = omega (arith, one ((sound_machine start).asked e), taken_parts log)
      where
        one : (b : Bool)
            → (if b then 0 else one_if (p e.step.taken))
            ≤ (if b then 0 else one_if (q e.step.taken)) + (if b then 0 else one_if (r e.step.taken))
        one true = omega arith
        one false = parts e.step.taken

pub taken_none : (start : Start) (p : Signal → Bool) → ((x : Signal) → p x ≡ false) → (log : List HostStep)
    → taken_along start p log ≡ 0
taken_none start p none [] = refl
taken_none start p none (e ∷ log) =
    omega (arith, one ((sound_machine start).asked e), taken_none start p none log)
  where
    one : (b : Bool) → (if b then 0 else one_if (p e.step.taken)) ≡ 0
    one true = refl
    one false = ap one_if (none e.step.taken)

-- the tests of keys that were committed
module _ (tx : TxId) (number : ℕ) where
  abbrev pub told : (List ℕ → Bool) → Signal → Bool
  told wk = numbered number (comes committing (mine tx wk))

  -- rows tell that
  pub told_rows : (wk : List ℕ → Bool) (y : Signal) → told wk y ≡ true → is_of_rows y.body ≡ true
  told_rows wk y is = by y.body (and_parts (comes committing (mine tx wk) y.body) (y.view.number == number) is).0
    where
      by : (body : Body) → comes committing (mine tx wk) body ≡ true → is_of_rows body ≡ true
      by (Chain signal) is = refl
      by body is = absurd (true≢false (sym is))

  -- a test of a key that is one of two is one of theirs
  module _ (f g h : List ℕ → Bool) (parts : (key : List ℕ) → one_if (f key) ≤ one_if (g key) + one_if (h key)) where
    within : (a b c : Bool) (d e : Bool) → one_if a ≤ one_if b + one_if c
        → one_if ((d && a) && e) ≤ one_if ((d && b) && e) + one_if ((d && c) && e)
    within a b c true true less = less'
      where
        same : (x : Bool) → (x && true) ≡ x
        same true = refl
        same false = refl

        less' : one_if (a && true) ≤ one_if (b && true) + one_if (c && true)
        less' = omega (arith, less, ap one_if (same a), ap one_if (same b), ap one_if (same c))
    within a b c true false less = omega (arith, ap one_if (off a))
      where
        off : (x : Bool) → (x && false) ≡ false
        off true = refl
        off false = refl
    within a b c false e less = omega arith

    pub told_parts : (x : Signal) → one_if (told f x) ≤ one_if (told g x) + one_if (told h x)
    told_parts x = by x.body (x.view.number == number)
      where
        by : (body : Body) (e : Bool)
            → one_if (comes committing (mine tx f) body && e)
            ≤ one_if (comes committing (mine tx g) body && e) + one_if (comes committing (mine tx h) body && e)
        by (Chain (Committed one key)) e = within (f key) (g key) (h key) (same_tx one tx) e (parts key)
        by body e = omega arith

  or_parts : (a b : Bool) → one_if (a || b) ≤ one_if a + one_if b
  or_parts true b = omega arith
  or_parts false b = omega arith

  not_parts : (a : Bool) → one_if true ≤ one_if a + one_if (not a)
  not_parts true = omega arith
  not_parts false = omega arith

  nothing_told : (x : Signal) → told (among []) x ≡ false
  nothing_told x = by x.body (x.view.number == number)
    where
      off : (d e : Bool) → ((d && false) && e) ≡ false
      off true e = refl
      off false e = refl

      by : (body : Body) (e : Bool) → (comes committing (mine tx (among [])) body && e) ≡ false
      by (Chain (Committed one key)) e = off (same_tx one tx) e
      by body e = refl

  -- where no other keys are told of, none twice, and as many as these, each of these is
  module _ (start : Start) (log : List HostStep) (touched : List Touched)
      (once : (key : List ℕ) → taken_along start (told (only key)) log ≤ 1)
      (others : taken_along start (told (outside touched)) log ≡ 0)
      (enough : length touched ≤ taken_along start (told any) log)
    where
      pub each_told : Each (λ (u : Touched). 1 ≤ taken_along start (told (only u.key)) log) touched
      each_told =
          each_counts (λ wk. taken_along start (told wk) log)
          (taken_none start (told (among [])) nothing_told log)
          (λ u us.
          taken_parts start (told (among (u ∷ us))) (told (only u.key)) (told (among us))
          (told_parts (among (u ∷ us)) (only u.key) (among us) (λ key. or_parts (same_key key u.key) (among us key)))
          log)
          once touched
          (omega (
            arith,
            enough,
            others,
            taken_parts start (told any) (told (among touched)) (told (outside touched))
                (told_parts any (among touched) (outside touched) (λ key. not_parts (among touched key))) log,
          ))
