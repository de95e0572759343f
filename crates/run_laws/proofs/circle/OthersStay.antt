-- An event of one transaction leaves alone what a key has of the others.
use Rattle.std.proofs.Common.{◌≡◌, ℕ, Bool, true, false, ◌||◌, cond, List, [], ◌∷◌, ◌++◌, filter, refl, sym, ap, ◌∙◌}
use Rattle.std.specs.Prelude.{if◌then◌else◌, Option, None, Some}
use Rattle.sig_core.specs.declared.member.TxId.{TxId}
use Rattle.sig_core.specs.declared.op.Answer.{Answer}
use Rattle.sig_core.specs.declared.op.Answer.TheVariants.{Done, Found, Missing, E626, E630}
use Rattle.sig_core.specs.declared.op.Op.{Op}
use Rattle.sig_core.specs.declared.signal.chain.RowWork.{RowWork}
use Rattle.sig_core.specs.declared.signal.chain.RowWork.TheVariants.{Operate, Store}
use Rattle.sig_core.specs.Op.{answer_to, image_of, key_of}
use Rattle.sig_core.specs.Rows.{prepared}
use Rattle.sig_core.specs.Same.{same_tx}
use Rattle.sig_core.proofs.TxLemmas.{same_tx-is}
use Rattle.row_locks.specs.declared.mode.Lock.{Lock}
use Rattle.row_locks.specs.declared.mode.Lock.TheVariants.{Granted, Queued}
use Rattle.row_locks.specs.Rows.{RowLock, asked}
use Rattle.lqh_block.specs.declared.request.Request.{Request}
use Rattle.lqh_block.specs.Work.{work_mode}
use Rattle.sig_core.specs.Firsts.{drop_first, first}
use Rattle.key_laws.specs.Primary.{noted}
use Rattle.key_laws.specs.PrimaryEvents.{AtPrimary, ended_after, made_after, made_by, made_if, made_served}
use Rattle.key_laws.specs.PrimaryEvents.{noted_unless}
use Rattle.key_laws.specs.Records.{as_committed, found, if_committed, seen_by, unless_committed}
use Rattle.key_laws.specs.Replica.{Cell, Event, Replica, aborts, ages, asked_by, asks, commits, completes, expires}
use Rattle.key_laws.specs.Replica.{is_by, is_let_in, key_after, operated, rests, served_by, serves, storing, worked}
use Rattle.sig_core.proofs.Firsts.{filter-drop_other}
use Rattle.key_laws.proofs.RecordLemmas.{committed_keeps, found-edited, found-stored, if_keeps, unless_keeps}

-- the transaction that an event is of, if it is of one
abbrev pub of_first : Option Request → Option TxId
of_first None = None
of_first (Some q) = Some q.tx

abbrev pub event_of : Event → Replica → Option TxId
event_of rests r = None
event_of (asks q refused) r = Some q.tx
event_of (serves refused) r = of_first (first (is_let_in r.lock) r.waiting)
event_of (commits tx last) r = Some tx
event_of (completes tx) r = Some tx
event_of (aborts tx) r = Some tx
event_of (expires tx) r = Some tx
event_of (ages wait) r = wait

-- it is this one
abbrev pub is_of : TxId → Option TxId → Bool
is_of tx None = false
is_of tx (Some v) = same_tx v tx

-- the requests of a transaction that wait for the key
abbrev pub waits_of : TxId → Replica → List Request
waits_of tx r = filter (is_by tx) r.waiting

-- the key has the same of the transaction as before
pub record StaysFor (tx : TxId) (before after : Replica) : Type 0 where
  pub found_is : found tx after.cell.pending ≡ found tx before.cell.pending
  pub waits_are : waits_of tx after ≡ waits_of tx before

pub filter-end : {X : Type 0} (p : X → Bool) (xs : List X) (x : X) (b : Bool) → p x ≡ b
    → filter p (xs ++ x ∷ []) ≡ cond b (filter p xs ++ x ∷ []) (filter p xs)
filter-end p [] x true e = ap (λ c. cond c (x ∷ []) []) e
filter-end p [] x false e = ap (λ c. cond c (x ∷ []) []) e
filter-end {X} p (y ∷ xs) x b e = by (p y) b (filter-end p xs x b e)
  where
    by : (c b : Bool) → filter p (xs ++ x ∷ []) ≡ cond b (filter p xs ++ x ∷ []) (filter p xs)
        → cond c (y ∷ filter p (xs ++ x ∷ [])) (filter p (xs ++ x ∷ []))
        ≡ cond b (cond c (y ∷ filter p xs) (filter p xs) ++ x ∷ []) (cond c (y ∷ filter p xs) (filter p xs))
    by true true more = ap (λ w. y ∷ w) more
    by true false more = ap (λ w. y ∷ w) more
    by false true more = more
    by false false more = more

-- the first item that passes a test is taken out, and doesn't pass another
filter-drop_known : {X : Type 0} (q p : X → Bool) (xs : List X) (x : X) → first p xs ≡ Some x → q x ≡ false
    → filter q (drop_first p xs) ≡ filter q xs
filter-drop_known q p [] x is off = refl
filter-drop_known {X} q p (y ∷ xs) x is off = by (p y) is (λ more. filter-drop_known q p xs x more off)
  where
    by : (b : Bool) → (if b then Some y else first p xs) ≡ Some x
        → (first p xs ≡ Some x → filter q (drop_first p xs) ≡ filter q xs)
        → filter q (if b then xs else y ∷ drop_first p xs) ≡ filter q (y ∷ xs)
    by true is more = let one : y ≡ x = cc in sym (ap (λ c. cond c (y ∷ filter q xs) (filter q xs)) (ap q one ∙ off))
    by false is more = ap (λ w. cond (q y) (y ∷ w) w) (more is)

module _ (tx : TxId) where
  -- records
  storing_stays : (c : Cell) (v : TxId) (key : List ℕ) (image : Option (List ℕ)) (refused : Bool) → same_tx v tx ≡ false
      → found tx (storing c v key image refused).pending ≡ found tx c.pending
  storing_stays c v key image true off = refl
  storing_stays c v key image false off = found-stored tx (prepared v key image) c.pending
      ∙ ap (λ b. if b then Some (prepared v key image) else found tx c.pending) off

  operated_stays : (c : Cell) (v : TxId) (op : Op) (refused : Bool) (answer : Answer) → same_tx v tx ≡ false
      → found tx (operated c v op refused answer).pending ≡ found tx c.pending
  operated_stays c v op refused Done off = storing_stays c v (key_of op) (image_of op) refused off
  operated_stays c v op refused (Found value) off = refl
  operated_stays c v op refused Missing off = refl
  operated_stays c v op refused E626 off = refl
  operated_stays c v op refused E630 off = refl

  worked_stays : (c : Cell) (v : TxId) (refused : Bool) (w : RowWork) → same_tx v tx ≡ false
      → found tx (worked c v refused w).pending ≡ found tx c.pending
  worked_stays c v refused (Operate op) off =
      operated_stays c v op refused (answer_to op (seen_by c.row (found v c.pending))) off
  worked_stays c v refused (Store key image) off = storing_stays c v key image refused off

  asked_stays : (r : Replica) (now : RowLock) (q : Request) (refused : Bool) (answer : Lock) → same_tx q.tx tx ≡ false
      → StaysFor tx r (asked_by r now q refused answer)
  asked_stays r now q refused Granted off = record {
    found_is = worked_stays r.cell q.tx refused q.work off;
    waits_are = refl;
  }
  asked_stays r now q refused (Queued ahead) off = record {
    found_is = refl;
    waits_are = filter-end (is_by tx) r.waiting q false off;
  }

  served_stays : (r : Replica) (refused : Bool) (o : Option Request) → first (is_let_in r.lock) r.waiting ≡ o
      → is_of tx (of_first o) ≡ false → StaysFor tx r (served_by r refused o)
  served_stays r refused None is off = record { found_is = refl; waits_are = refl }
  served_stays r refused (Some q) is off = record {
    found_is = worked_stays r.cell q.tx refused q.work off;
    waits_are = filter-drop_known (is_by tx) (is_let_in r.lock) r.waiting q is off;
  }

  -- requests that wait
  dropped_stays : (v : TxId) (xs : List Request) → same_tx v tx ≡ false
      → filter (is_by tx) (drop_first (is_by v) xs) ≡ filter (is_by tx) xs
  dropped_stays v xs off =
      filter-drop_other (is_by tx) (is_by v) xs (λ x is. ap (λ t. same_tx t tx) (same_tx-is x.tx v is) ∙ off)

  pub others_stay : (event : Event) (r : Replica) → is_of tx (event_of event r) ≡ false
      → StaysFor tx r (key_after event r)
  others_stay rests r off = record { found_is = refl; waits_are = refl }
  others_stay (asks q refused) r off = asked_stays r (asked r.lock q.tx (work_mode q.work)).lock q refused
      (asked r.lock q.tx (work_mode q.work)).answer off
  others_stay (serves refused) r off = served_stays r refused (first (is_let_in r.lock) r.waiting) refl off
  others_stay (commits v true) r off = record {
    found_is = found-edited as_committed committed_keeps v tx r.cell.pending off;
    waits_are = refl;
  }
  others_stay (commits v false) r off = record {
    found_is = found-edited as_committed committed_keeps v tx r.cell.pending off;
    waits_are = refl;
  }
  others_stay (completes v) r off = record {
    found_is = found-edited unless_committed unless_keeps v tx r.cell.pending off;
    waits_are = refl;
  }
  others_stay (aborts v) r off = record {
    found_is = found-edited if_committed if_keeps v tx r.cell.pending off;
    waits_are = dropped_stays v r.waiting off;
  }
  others_stay (expires v) r off = record { found_is = refl; waits_are = dropped_stays v r.waiting off }
  others_stay (ages None) r off = record { found_is = refl; waits_are = refl }
  others_stay (ages (Some v)) r off = record { found_is = refl; waits_are = dropped_stays v r.waiting off }

  -- answers
  noted_stays : (made : TxId → List (Op × Answer)) (v : TxId) (op : Op × Answer) → same_tx v tx ≡ false
      → noted made v op tx ≡ made tx
  noted_stays made v op off = ap (λ b. if b then made tx ++ op ∷ [] else made tx) off

  unless_stays : (made : TxId → List (Op × Answer)) (v : TxId) (op : Op) (answer : Answer) (refused : Bool)
      → same_tx v tx ≡ false → noted_unless made v op answer refused tx ≡ made tx
  unless_stays made v op Done true off = refl
  unless_stays made v op Done false off = noted_stays made v (op, Done) off
  unless_stays made v op (Found value) refused off = noted_stays made v (op, Found value) off
  unless_stays made v op Missing refused off = noted_stays made v (op, Missing) off
  unless_stays made v op E626 refused off = noted_stays made v (op, E626) off
  unless_stays made v op E630 refused off = noted_stays made v (op, E630) off

  made_by_stays : (made : TxId → List (Op × Answer)) (c : Cell) (v : TxId) (refused : Bool) (w : RowWork)
      → same_tx v tx ≡ false → made_by made c v refused w tx ≡ made tx
  made_by_stays made c v refused (Operate op) off =
      unless_stays made v op (answer_to op (seen_by c.row (found v c.pending))) refused off
  made_by_stays made c v refused (Store key image) off = refl

  made_if_stays : (p : AtPrimary) (q : Request) (refused : Bool) (answer : Lock) → same_tx q.tx tx ≡ false
      → made_if p q refused answer tx ≡ p.made tx
  made_if_stays p q refused Granted off = made_by_stays p.made p.replica.cell q.tx refused q.work off
  made_if_stays p q refused (Queued ahead) off = refl

  made_served_stays : (p : AtPrimary) (refused : Bool) (o : Option Request) → is_of tx (of_first o) ≡ false
      → made_served p refused o tx ≡ p.made tx
  made_served_stays p refused None off = refl
  made_served_stays p refused (Some q) off = made_by_stays p.made p.replica.cell q.tx refused q.work off

  pub made_stays : (event : Event) (p : AtPrimary) → is_of tx (event_of event p.replica) ≡ false
      → made_after event p tx ≡ p.made tx
  made_stays (asks q refused) p off =
      made_if_stays p q refused (asked p.replica.lock q.tx (work_mode q.work)).answer off
  made_stays (serves refused) p off =
      made_served_stays p refused (first (is_let_in p.replica.lock) p.replica.waiting) off
  made_stays rests p off = refl
  made_stays (commits v last) p off = refl
  made_stays (completes v) p off = refl
  made_stays (aborts v) p off = refl
  made_stays (expires v) p off = refl
  made_stays (ages wait) p off = refl

  -- ends
  ended_too_stays : (p : AtPrimary) (v : TxId) → same_tx v tx ≡ false → (same_tx v tx || p.ended tx) ≡ p.ended tx
  ended_too_stays p v off = ap (λ b. b || p.ended tx) off

  pub ended_stays : (event : Event) (p : AtPrimary) → is_of tx (event_of event p.replica) ≡ false
      → ended_after event p tx ≡ p.ended tx
  ended_stays (commits v true) p off = ended_too_stays p v off
  ended_stays (commits v false) p off = refl
  ended_stays (completes v) p off = ended_too_stays p v off
  ended_stays (aborts v) p off = ended_too_stays p v off
  ended_stays (asks q refused) p off = refl
  ended_stays (serves refused) p off = refl
  ended_stays rests p off = refl
  ended_stays (expires v) p off = refl
  ended_stays (ages wait) p off = refl
