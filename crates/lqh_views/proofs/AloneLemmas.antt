-- What a report tells where nothing comes between.
use Rattle.std.proofs.Common.{◌≡◌, ◌⊎◌, inl, inr, ◌∙◌, ◌++◌, ℕ, zero, suc, Bool, true, false, cond, List, [], ◌∷◌, map}
use Rattle.std.proofs.Common.{refl, ap, sym}
use Rattle.std.proofs.lemmas.List.{reverse-append}
use Rattle.std.proofs.lemmas.List.Elements.{filter-append}
use Rattle.std.specs.Prelude.{Option, None, Some, filter, reverse, slice_get, take}
use Rattle.sig_core.specs.declared.outs.Outgoing.{Outgoing}
use Rattle.sig_core.specs.declared.rows.PendingRecord.{PendingRecord}
use Rattle.sig_core.specs.declared.signal.Signal.{Signal}
use Rattle.sig_core.specs.Step.{Step}
use Rattle.lqh_block.specs.declared.request.Marker.{Marker}
use Rattle.lqh_views.specs.declared.report.Report.{Report}
use Rattle.lqh_views.specs.Replica.{replica_by, replica_row}
use Rattle.lqh_views.specs.Report.{ending, found_at, found_if, go_on_by, is_orphaned_marker, is_orphaned_record}
use Rattle.lqh_views.specs.Report.{last_before, marker_by, record_by, reporting, telling, told_marker, told_record}
use Rattle.lqh_views.specs.State.{ReplicaState, with_report}
use Rattle.lqh_views.specs.WholeReports.{IsOwn, ReportsTellEachOnce, from_the_last, left_to_tell, the_end, told_alone}
use Rattle.lqh_views.specs.WholeReports.{whole}

-- the first entries, and the one behind them
take_next : {X : Type 0} (xs : List X) (n : ℕ) (x : X) → slice_get xs n ≡ Some x → take (suc n) xs ≡ take n xs ++ x ∷ []
take_next [] zero x there = absurd cc
take_next [] (suc n) x there = absurd cc
take_next (y ∷ xs) zero x there =
    let own : y ≡ x = cc in
    ap (λ z. z ∷ []) own
take_next (y ∷ xs) (suc n) x there = ap (λ ys. y ∷ ys) (take_next xs n x there)

take_past : {X : Type 0} (xs : List X) (n : ℕ) → slice_get xs n ≡ None → take (suc n) xs ≡ take n xs
take_past [] zero there = refl
take_past [] (suc n) there = refl
take_past (y ∷ xs) zero there = absurd cc
take_past (y ∷ xs) (suc n) there = ap (λ ys. y ∷ ys) (take_past xs n there)

take_none : {X : Type 0} (n : ℕ) → take {A = X} n [] ≡ []
take_none zero = refl
take_none (suc n) = refl

-- the last entry that passes is the first from the last on
abbrev LastIs : {X : Type 0} → (X → Bool) → List X → ℕ → Option (ℕ × X) → Type 0
LastIs p xs n None = from_the_last p xs n ≡ []
LastIs p xs n (Some found) = from_the_last p xs n ≡ found.1 ∷ from_the_last p xs found.0

lifted : {X : Type 0} (p : X → Bool) (xs : List X) (n : ℕ) (found : Option (ℕ × X))
    → from_the_last p xs (suc n) ≡ from_the_last p xs n → LastIs p xs n found → LastIs p xs (suc n) found
lifted p xs n None same is = same ∙ is
lifted p xs n (Some found) same is = same ∙ is

last_is : {X : Type 0} (p : X → Bool) (xs : List X) (n : ℕ) → LastIs p xs n (last_before p xs n)
last_is p xs zero = refl
last_is {X} p xs (suc n) = by (slice_get xs n) refl (last_is p xs n)
  where
    Rest : Type 0
    Rest = LastIs p xs n (last_before p xs n)

    in_front : (x : X) → slice_get xs n ≡ Some x
        → from_the_last p xs (suc n) ≡ reverse (cond (p x) (x ∷ []) []) ++ from_the_last p xs n
    in_front x there =
        ap (λ ys. reverse (filter p ys)) (take_next xs n x there)
        ∙ ap (λ ys. reverse ys) (filter-append p (take n xs) (x ∷ []))
        ∙ reverse-append (filter p (take n xs)) (filter p (x ∷ []))

    by_if : (x : X) → slice_get xs n ≡ Some x → (b : Bool) → p x ≡ b → Rest
        → LastIs p xs (suc n) (found_if n x (last_before p xs n) b)
    by_if x there true is rest =
        in_front x there ∙ ap (λ b. reverse (cond b (x ∷ []) []) ++ from_the_last p xs n) is
    by_if x there false is rest =
        lifted p xs n (last_before p xs n)
        (in_front x there ∙ ap (λ b. reverse (cond b (x ∷ []) []) ++ from_the_last p xs n) is) rest

    by : (o : Option X) → slice_get xs n ≡ o → Rest → LastIs p xs (suc n) (found_at p n (last_before p xs n) o)
    by None there rest =
        lifted p xs n (last_before p xs n) (ap (λ ys. reverse (filter p ys)) (take_past xs n there)) rest
    by (Some x) there rest = by_if x there (p x) refl rest

-- the next step tells the first of what is left, and leaves the rest
record TellsFirst (s : ReplicaState) (r : Report) (step : Step ReplicaState) : Type 0 where
  next : Report
  send : Outgoing
  left : left_to_tell s r ≡ send ∷ left_to_tell (with_report s (Some next)) next
  is : step ≡ telling s next send

-- or the end, where that is all
abbrev TellsNext : ReplicaState → Report → Step ReplicaState → Type 0
TellsNext s r step = ((left_to_tell s r ≡ the_end r.to ∷ []) × (step ≡ ending s r)) ⊎ TellsFirst s r step

tells_next : (s : ReplicaState) (r : Report) → TellsNext s r (reporting s r)
unfolding reporting
tells_next s r =
    by (last_before of_record s.lqh.rows.pending r.records) (last_is of_record s.lqh.rows.pending r.records)
  where
    of_record : PendingRecord → Bool
    of_record = is_orphaned_record s.lqh.layout.view.full

    of_marker : Marker → Bool
    of_marker = is_orphaned_marker s.lqh.layout.view.full

    markers : List Marker
    markers = from_the_last of_marker s.lqh.markers r.markers

    by_marker : from_the_last of_record s.lqh.rows.pending r.records ≡ [] → (found : Option (ℕ × Marker))
        → LastIs of_marker s.lqh.markers r.markers found → TellsNext s r (marker_by s r found)
    by_marker none None is =
        inl (λ i. map (told_record r.to) (none i) ++ map (told_marker r.to) (is i) ++ the_end r.to ∷ [], refl)
    by_marker none (Some found) is = inr (record {
      next = record { to = r.to; records = 0; markers = found.0 };
      send = told_marker r.to found.1;
      left = λ i. map (told_record r.to) (none i) ++ map (told_marker r.to) (is i) ++ the_end r.to ∷ [];
      is = refl;
    })

    by : (found : Option (ℕ × PendingRecord)) → LastIs of_record s.lqh.rows.pending r.records found
        → TellsNext s r (record_by s r found)
    by None is =
        by_marker is (last_before of_marker s.lqh.markers r.markers) (last_is of_marker s.lqh.markers r.markers)
    by (Some found) is = inr (record {
      next = record { to = r.to; records = found.0; markers = r.markers };
      send = told_record r.to found.1;
      left = λ i. map (told_record r.to) (is i) ++ map (told_marker r.to) markers ++ the_end r.to ∷ [];
      is = refl;
    })

-- a step at the block's own signal
own_step : (s : ReplicaState) (own : Signal) (report : Option Report) → s.report ≡ report → IsOwn s.lqh.layout.view own
    → replica_row s own ≡ go_on_by s true report
own_step s own report is mine =
    ap (replica_by s own) mine.body ∙ ap (λ b. go_on_by s b s.report) mine.same ∙ ap (go_on_by s true) is

-- a report that is over tells nothing
over_alone : (n : ℕ) (s : ReplicaState) (own : Signal) → s.report ≡ None → IsOwn s.lqh.layout.view own
    → told_alone s own n ≡ []
over_alone zero s own none mine = refl
over_alone (suc n) s own none mine =
    ap (λ (step : Step ReplicaState). take 1 step.effects.sends ++ told_alone step.state own n)
    (own_step s own None none mine)
    ∙ over_alone n s own none mine

-- one step, and so many behind it
step_alone : (n : ℕ) (own : Signal)
    → ((s : ReplicaState) (r : Report) → s.report ≡ Some r → IsOwn s.lqh.layout.view own
    → told_alone s own n ≡ take n (left_to_tell s r))
    → (s : ReplicaState) (r : Report) (step : Step ReplicaState) → step ≡ reporting s r → IsOwn s.lqh.layout.view own
    → take 1 step.effects.sends ++ told_alone step.state own n ≡ take (suc n) (left_to_tell s r)
step_alone n own rest s r step same mine = by (tells_next s r)
  where
    Tells : Step ReplicaState → List Outgoing
    Tells one = take 1 one.effects.sends ++ told_alone one.state own n

    by : TellsNext s r (reporting s r) → Tells step ≡ take (suc n) (left_to_tell s r)
    by (inl ends) =
        ap Tells (same ∙ ends.1)
        ∙ ap (λ sends. the_end r.to ∷ sends) (over_alone n (with_report s None) own refl mine ∙ sym (take_none n))
        ∙ ap (take (suc n)) (sym ends.0)
    by (inr tells) =
        ap Tells (same ∙ tells.is)
        ∙ ap (λ sends. tells.send ∷ sends) (rest (with_report s (Some tells.next)) tells.next refl mine)
        ∙ ap (take (suc n)) (sym tells.left)

alone_tells : (n : ℕ) (own : Signal) (s : ReplicaState) (r : Report) → s.report ≡ Some r → IsOwn s.lqh.layout.view own
    → told_alone s own n ≡ take n (left_to_tell s r)
alone_tells zero own s r is mine = refl
alone_tells (suc n) own s r is mine =
    step_alone n own (alone_tells n own) s r (replica_row s own) (own_step s own (Some r) is mine) mine

pub reports_tell_each_once : ReportsTellEachOnce
reports_tell_each_once s ask own n asked mine =
    step_alone n own (alone_tells n own) s (whole s ask.member.node) (replica_row s ask)
    (ap (replica_by s ask) asked) mine
