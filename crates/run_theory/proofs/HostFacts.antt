-- What running hosts and links keep in the order of time are right logs.
use Rattle.std.proofs.Common.{◌≡◌, ◌==◌, ◌++◌, ℕ, Bool, true, false, List, [], ◌∷◌, reverse, filter, if◌then◌else◌}
use Rattle.std.proofs.Common.{refl, sym, ap, ◌∙◌, subst, subst₂, take, drop, take-append-drop, append_assoc, append-nil}
use Rattle.std.proofs.lemmas.List.{reverse-append, reverse-reverse}
use mathlib.Core.List.{IsPrefix}
use Rattle.run_theory.specs.Lists.{HasEntry, IsPast}
use Rattle.run_theory.specs.Machine.{Machine, IsStamped}
use Rattle.run_theory.specs.Links.{sent_by, put, sent, is_from, taken, IsGiven}
use Rattle.run_theory.specs.Logs.{IsLog, IsThere}
use Rattle.run_theory.specs.Runs.{AreLogs, IsWithin}
use Rattle.run_theory.specs.Orders.{LogsRun}
use Rattle.run_theory.specs.Hosts.{AreKept}
use Rattle.run_theory.proofs.Pasts.{past_trans}
use Rattle.run_theory.proofs.Links.{given_less}
use Rattle.run_theory.proofs.Runs.{if_true, if_false}
use Rattle.run_theory.proofs.Merging.{merged_run}

-- a front in the order of time is an older part
pub past_of_front : {A : Type 0} (xs ys : List A) → IsPrefix xs ys → IsPast (reverse xs) (reverse ys)
past_of_front xs ys p = record { newer = reverse p.0; is = ap reverse (sym p.1) ∙ reverse-append xs p.0 }

-- the steps up to a length are an older part
pub past_take : {A : Type 0} (n : ℕ) (xs : List A) → IsPast (reverse (take n xs)) (reverse xs)
past_take n xs = past_of_front (take n xs) xs (drop n xs, take-append-drop n xs)

entry_reverse : {A : Type 0} (xs : List A) → HasEntry (reverse xs) → HasEntry xs
entry_reverse [] has = has
entry_reverse (x ∷ xs) has = tt

reverse-cons : {A : Type 0} (x : A) (xs : List A) → reverse (x ∷ xs) ≡ reverse xs ++ x ∷ []
reverse-cons x xs = reverse-append (x ∷ []) xs

module _ {E X : Type 0} (m : Machine E X) where
  -- in the order of time a step puts what it sends to a host at the end
  put-in_time : (j : ℕ) (xs before : List X)
      → reverse (put m j xs before) ≡ reverse before ++ filter (λ x. m.to x == j) xs
  put-in_time j [] before = sym (append-nil (reverse before))
  put-in_time j (x ∷ xs) before = go (m.to x == j) refl (put-in_time j xs)
    where
      go : (b : Bool) → (m.to x == j) ≡ b
          → ((w : List X) → reverse (put m j xs w) ≡ reverse w ++ filter (λ y. m.to y == j) xs)
          → reverse (put m j xs (if b then x ∷ before else before))
          ≡ reverse before ++ filter (λ y. m.to y == j) (x ∷ xs)
      go true is all =
          all (x ∷ before) ∙ (ap (λ w. w ++ filter (λ y. m.to y == j) xs) (reverse-cons x before) ∙
          (append_assoc (reverse before) (x ∷ []) (filter (λ y. m.to y == j) xs)
          ∙ ap (λ w. reverse before ++ w)
          (sym (if_true (x ∷ filter (λ y. m.to y == j) xs) (filter (λ y. m.to y == j) xs) is))))
      go false is all =
          all before ∙ ap (λ w. reverse before ++ w)
          (sym (if_false (x ∷ filter (λ y. m.to y == j) xs) (filter (λ y. m.to y == j) xs) is))

  pub sent-in_time : (i j : ℕ) (log : List E) (e : E)
      → reverse (sent m i j (e ∷ log)) ≡ reverse (sent m i j log) ++ filter (λ x. m.to x == j) (sent_by m i log e)
  sent-in_time i j log e = put-in_time j (sent_by m i log e) (sent m i j log)

  -- and takes its signal last
  pub taken-in_time : (i : ℕ) (log : List E) (e : E)
      → reverse (taken m i (e ∷ log)) ≡ reverse (taken m i log) ++ (if is_from m i e then m.signal e ∷ [] else [])
  taken-in_time i log e = go (is_from m i e)
    where
      go : (b : Bool)
          → reverse (if b then m.signal e ∷ taken m i log else taken m i log)
          ≡ reverse (taken m i log) ++ (if b then m.signal e ∷ [] else [])
      go true = reverse-cons (m.signal e) (taken m i log)
      go false = sym (append-nil (reverse (taken m i log)))

  pub logs_of_hosts : (own : ℕ → List E) (puts takes : ℕ → ℕ → List X) → AreKept m own puts takes
      → AreLogs m (λ h. reverse (own h))
  logs_of_hosts own puts takes kept = record {
    local = kept.local;
    there = λ h has. kept.there h (entry_reverse (own h) has);
    linked = λ i j.
        let all = taken m i (reverse (own j)) in
        let got : IsPast (reverse (reverse all)) (reverse (puts i j)) = past_trans
        (past_of_front (reverse all) (takes i j) (kept.took i j))
        (past_of_front (takes i j) (puts i j) (kept.gives i j)) in
        given_less m i j (reverse (own i)) (subst (λ w. IsPast w (reverse (puts i j))) (reverse-reverse all) got)
        (kept.sends i j);
  }

  pub hosts_run : IsStamped m → (n : ℕ) (own : ℕ → List E) (puts takes : ℕ → ℕ → List X) → IsWithin n own
      → AreKept m own puts takes → LogsRun m n (λ h. reverse (own h))
  hosts_run stamped n own puts takes within kept = merged_run m stamped n (λ h. reverse (own h))
      (λ h le. ap reverse (within h le)) (logs_of_hosts own puts takes kept)

  -- all right logs are kept by some hosts and links
  pub kept_of_logs : (logs : ℕ → List E) → AreLogs m logs
      → AreKept m (λ h. reverse (logs h)) (λ i j. reverse (taken m i (logs j))) (λ i j. reverse (taken m i (logs j)))
  kept_of_logs logs a = record {
    local = λ h. subst (IsLog m h) (sym (reverse-reverse (logs h))) (a.local h);
    there = λ h has. subst (IsThere m h) (sym (reverse-reverse (logs 0))) (a.there h (entry_reverse (logs h) has));
    sends = λ i j. subst₂ (IsGiven m i j) (sym (reverse-reverse (logs i))) (sym (reverse-reverse (taken m i (logs j))))
        (a.linked i j);
    gives = λ i j. ([], append-nil (reverse (taken m i (logs j))));
    took = λ i j. (
      [],
      append-nil (reverse (taken m i (reverse (reverse (logs j))))) ∙ ap (λ w. reverse (taken m i w))
          (reverse-reverse (logs j)),
    );
  }
