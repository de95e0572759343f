-- What a link has given: what it held, and any older part of it.
use Rattle.std.proofs.Common.{◌≡◌, inl, inr, ℕ, ◌-◌, List, [], ◌∷◌, ◌++◌, length, reverse, Bool, true, false, ap, sym}
use Rattle.std.proofs.Common.{◌∙◌, subst, append_assoc}
use Rattle.std.specs.Prelude.{drop, map, take}
use Rattle.std.proofs.lemmas.Bool.{true≢false}
use Rattle.std.proofs.lemmas.List.{map-append, reverse-append, take-append-drop}
use Rattle.run_theory.proofs.Links as runs
use Rattle.run_theory.proofs.Pasts.{past_self, past_trans}
use Rattle.run_theory.specs.Links.{IsClosing, IsGiven, put, sent}
use Rattle.run_theory.specs.Lists.{IsPast}
use Rattle.sig_core.specs.declared.signal.Signal.{Signal}
use Rattle.world_core.specs.Right.{arriving}
use Rattle.world_core.specs.Start.{Start}
use Rattle.world_core.specs.Steps.{Addressed, HostStep}
use Rattle.world_views.specs.Links.{LinkState, closed_by, without}
use Rattle.world_views.specs.Machine.{has_cut, has_stopped, machine}
use Rattle.world_views.specs.Right.{IsHeld, holds_by, on_link, stopped_holds}

module _ (start : Start) where
  -- the links of a host that runs aren't closed
  running_closes : (i j : ℕ) (log : List HostStep) (xs : List Addressed) → has_stopped log ≡ false
      → IsClosing (machine start) i j log xs → IsPast xs (sent (machine start) i j log)
  running_closes i j [] xs runs c = absurd c
  running_closes i j (e ∷ log) xs runs c = absurd (true≢false (sym c.stops ∙ runs))

  pub running_given : (i j : ℕ) (log : List HostStep) (xs : List Addressed) → has_stopped log ≡ false
      → IsGiven (machine start) i j log xs → IsPast xs (sent (machine start) i j log)
  running_given i j log xs runs (inl past) = past
  running_given i j log xs runs (inr c) = running_closes i j log xs runs c

  -- all that a link holds it may give
  pub held_given : (i j : ℕ) (log : List HostStep) (xs : List Addressed) → IsHeld start i j log xs
      → IsGiven (machine start) i j log xs
  held_given i j log xs held = go (has_stopped log) held
    where
      by : (b : Bool) → stopped_holds b start i j log xs → IsGiven (machine start) i j log xs
      by true past = inl past
      by false c = inr c

      go : (b : Bool) → holds_by b start i j log xs → IsGiven (machine start) i j log xs
      go true held = by (has_cut start i log j) held
      go false is = inl (subst (IsPast xs) is (past_self xs))

  -- and so it may any older part of what it may give
  pub past_given : (i j : ℕ) (log : List HostStep) (ys xs : List Addressed) → IsPast ys xs
      → IsGiven (machine start) i j log xs → IsGiven (machine start) i j log ys
  past_given i j log ys xs past given = runs.given_less (machine start) i j log past given

  -- what is put on a link goes in front of what it gave
  pub put_past : (j : ℕ) (xs before all : List Addressed) → IsPast before all
      → IsPast before (put (machine start) j xs all)
  put_past j xs before all past = past_trans past (runs.put_past (machine start) j xs all)

abbrev arrive : ℕ → List Signal → List Addressed
arrive j signals = map (arriving j) (reverse signals)

-- the newest of them first
arrive_append : (j : ℕ) (xs ys : List Signal) → arrive j (xs ++ ys) ≡ arrive j ys ++ arrive j xs
arrive_append j xs ys =
    ap (map (arriving j)) (reverse-append xs ys) ∙ map-append (arriving j) (reverse ys) (reverse xs)

lost_of : (j n : ℕ) (signals : List Signal) (before : List Addressed)
    → IsPast (arrive j (take n signals) ++ before) (arrive j signals ++ before)
lost_of j n signals before =
    record {
      newer = arrive j (drop n signals);
      is =
          ap (λ xs. arrive j xs ++ before) (sym (take-append-drop n signals))
          ∙ ap (λ xs. xs ++ before) (arrive_append j (take n signals) (drop n signals))
          ∙ append_assoc (arrive j (drop n signals)) (arrive j (take n signals)) before;
    }

-- a link that lost its youngest signals still has the older ones
pub lost_past : (j lost : ℕ) (l : LinkState) (before : List Addressed)
    → IsPast (on_link j (without lost l) ++ before) (on_link j l ++ before)
lost_past j lost l before = lost_of j (length l.signals - lost) l.signals before

-- a closing is the newest on its link
pub closed_on : (j : ℕ) (signal : Signal) (l : LinkState)
    → on_link j (closed_by signal l) ≡ arriving j signal ∷ on_link j l
closed_on j signal l = ap (map (arriving j)) (reverse-append l.signals (signal ∷ []))
