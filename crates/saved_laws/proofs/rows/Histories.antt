-- The history up to an epoch is that up to a moment behind which all is decided later.
use Rattle.std.proofs.Common.{◌≡◌, ◌≤◌, ◌<◌, ◌∙◌, ◌++◌, cond, ℕ, Bool, true, false, List, [], ◌∷◌, filter, reverse}
use Rattle.std.proofs.Common.{refl, sym, ap, subst, append-nil}
use Rattle.std.proofs.lemmas.Bool.{le-leb, lt-leb}
use Rattle.std.proofs.lemmas.List.{reverse-append}
use Rattle.std.proofs.lemmas.List.Elements.{filter-append}
use Rattle.std.specs.Prelude.{nat_le}
use Rattle.run_theory.proofs.Pasts.{each_filter, each_map}
use Rattle.run_theory.specs.Lists.{Each}
use Rattle.sig_core.specs.declared.entry.Entry.{Entry}
use Rattle.world_core.specs.History.{history, is_kept}
use Rattle.world_core.specs.Hosts.{hosts}
use Rattle.world_core.specs.Start.{Start}
use Rattle.world_core.specs.Steps.{HostStep}
use Rattle.view_laws.proofs.eras.Entries.{stand_in_order}
use Rattle.view_laws.specs.Order.{decisions, entries_along}
use Rattle.view_laws.specs.Runs.{AreOfCluster}
use Rattle.view_laws.proofs.eras.Sorted.{each_turned}
use Rattle.commit_laws.specs.Values.{history_at, is_final_entry}
use Rattle.closing_laws.proofs.settled.Cuts.{events_of, logs_are}
use Rattle.saved_laws.specs.History.{up_to}
use Rattle.saved_laws.proofs.rows.Decisions.{DecideWith, InFront, entries_in_front}

filter_each : {A : Type 0} (p : A → Bool) (xs : List A) → Each (λ x. p x ≡ true) xs → filter p xs ≡ xs
filter_each p [] all = refl
filter_each p (x ∷ xs) all =
    ap (λ b. cond b (x ∷ filter p xs) (filter p xs)) all.0 ∙ ap (λ w. x ∷ w) (filter_each p xs all.1)

filter_off : {A : Type 0} (p : A → Bool) (xs : List A) → Each (λ x. p x ≡ false) xs → filter p xs ≡ []
filter_off p [] all = refl
filter_off p (x ∷ xs) all = ap (λ b. cond b (x ∷ filter p xs) (filter p xs)) all.0 ∙ filter_off p xs all.1

module _ (epoch : ℕ) (fin : Entry → Bool) where
  kept_up_to : (xs : List Entry) → Each (λ (a : Entry). a.epoch ≤ epoch) xs
      → up_to epoch (filter fin (reverse xs)) ≡ filter fin (reverse xs)
  kept_up_to xs low =
      filter_each (λ (a : Entry). nat_le a.epoch epoch) (filter fin (reverse xs))
      (each_map (λ (a : Entry). a.epoch ≤ epoch) (λ (a : Entry). nat_le a.epoch epoch ≡ true) (filter fin (reverse xs))
      (λ a less. le-leb a.epoch epoch less)
      (each_filter (λ (a : Entry). a.epoch ≤ epoch) fin (reverse xs)
      (each_turned (λ (a : Entry). a.epoch ≤ epoch) xs low)))

  none_up_to : (xs : List Entry) → Each (λ (a : Entry). epoch < a.epoch) xs
      → up_to epoch (filter fin (reverse xs)) ≡ []
  none_up_to xs late =
      filter_off (λ (a : Entry). nat_le a.epoch epoch) (filter fin (reverse xs))
      (each_map (λ (a : Entry). epoch < a.epoch) (λ (a : Entry). nat_le a.epoch epoch ≡ false)
      (filter fin (reverse xs)) (λ a more. lt-leb a.epoch epoch more)
      (each_filter (λ (a : Entry). epoch < a.epoch) fin (reverse xs)
      (each_turned (λ (a : Entry). epoch < a.epoch) xs late)))

  up_to_front : (xs ys : List Entry) → Each (λ (a : Entry). epoch < a.epoch) xs
      → Each (λ (a : Entry). a.epoch ≤ epoch) ys
      → up_to epoch (filter fin (reverse (xs ++ ys))) ≡ filter fin (reverse ys)
  up_to_front xs ys late low =
      ap (λ w. up_to epoch (filter fin w)) (reverse-append xs ys)
      ∙ ap (up_to epoch) (filter-append fin (reverse ys) (reverse xs))
      ∙ filter-append (λ (a : Entry). nat_le a.epoch epoch) (filter fin (reverse ys)) (filter fin (reverse xs))
      ∙ (λ i. kept_up_to ys low i ++ none_up_to xs late i) ∙ append-nil (filter fin (reverse ys))

module _ (start : Start) (logs : ℕ → List HostStep) (are : AreOfCluster start logs) where
  -- the history along all events is that of the logs
  history_is : history_at start (events_of start logs) (events_of start logs) ≡ history (hosts start) logs
  history_is =
      ap (λ (ls : ℕ → List HostStep). filter (is_kept (hosts start) ls) (entries_along start (events_of start logs)))
      (logs_are start logs are)
      ∙ ap (filter (is_kept (hosts start) logs)) (sym (stand_in_order start logs are))

  pub history_up_to : (epoch : ℕ) (newer es : List HostStep) → events_of start logs ≡ newer ++ es
      → DecideWith (λ at. at ≤ epoch) es → DecideWith (λ at. epoch < at) newer
      → up_to epoch (history (hosts start) logs) ≡ history_at start (events_of start logs) es
  history_up_to epoch newer es is low late =
      sym (ap (up_to epoch) history_is)
      ∙ ap (λ w. up_to epoch (filter fin (reverse w))) (ap (decisions start) is ∙ behind.is)
      ∙ up_to_front epoch fin behind.front (decisions start es) behind.each all_low
    where
      fin : Entry → Bool
      fin = is_final_entry start (events_of start logs)

      behind : InFront (λ at. epoch < at) (decisions start es) (decisions start (newer ++ es))
      behind = entries_in_front start (λ at. epoch < at) newer es late

      all_low : Each (λ (a : Entry). a.epoch ≤ epoch) (decisions start es)
      all_low =
          let here = entries_in_front start (λ at. at ≤ epoch) es [] low in
          subst (Each (λ (a : Entry). a.epoch ≤ epoch))
          (sym (ap (decisions start) (sym (append-nil es)) ∙ here.is ∙ append-nil here.front)) here.each
