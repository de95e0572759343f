-- What a signal does to one key of a replica is the event of that key.
use Rattle.std.proofs.Common.{◌≡◌, ℕ, Bool, true, false, cond, not, List, [], ◌∷◌, ◌++◌, filter, refl, sym, ap, ◌∙◌}
use Rattle.std.proofs.Common.{subst}
use Rattle.std.specs.Prelude.{if◌then◌else◌, Option, None, Some, is_some, position, remove}
use Rattle.sig_core.specs.declared.member.TxId.{TxId}
use Rattle.sig_core.specs.Same.{same_key}
use Rattle.row_locks.specs.declared.mode.Lock.{Lock}
use Rattle.row_locks.specs.declared.mode.Lock.TheVariants.{Granted, Queued}
use Rattle.row_locks.specs.Holders.{first_other}
use Rattle.row_locks.specs.Queues.{waits}
use Rattle.row_locks.specs.Rows.{RowLock, asked}
use Rattle.row_locks.specs.Tables.{ahead_of, lock_at, some_if}
use Rattle.row_records.proofs.KeyLemmas.{same}
use Rattle.lqh_block.proofs.LqhForms.{granted_forms, request_forms}
use Rattle.lqh_block.specs.declared.request.Request.{Request}
use Rattle.lqh_block.specs.Operate as operate
use Rattle.lqh_block.specs.State.{LqhState, storage_of, with_waiting}
use Rattle.sig_core.specs.Work.{work_key}
use Rattle.lqh_block.specs.Work.{work_mode}
use Rattle.sig_core.specs.Firsts.{drop_first, first}
use Rattle.key_laws.specs.Replica.{Event, Replica, asked_by, asks, asks_for, at_key, cell_at, if_on, is_let_in}
use Rattle.key_laws.specs.Replica.{is_refused, key_after, rests, served_by, serves, serves_if, worked}
use Rattle.key_laws.proofs.PerformedAt.{cell-performed}
use Rattle.sig_core.proofs.Firsts.{drop_by, first-drop, first-get, get_by}
use Rattle.sig_core.proofs.Keys.{same_key-self}
use Rattle.key_laws.proofs.LocksAt.{lock-inserted}

pub replica_is : (r p : Replica) → r.cell ≡ p.cell → r.lock ≡ p.lock → r.waiting ≡ p.waiting → r ≡ p
replica_is r p cell lock waiting = λ i. record { cell = cell i; lock = lock i; waiting = waiting i }

-- What a row does where it is of another key: nothing; and else its event.
pub is_if : (own key : List ℕ) (event : Event) (r p : Replica) → (own ≡ key → r ≡ key_after event p)
    → (same_key own key ≡ false → r ≡ p) → r ≡ key_after (if_on own key event) p
is_if own key event r p here other = by (same_key own key) refl
  where
    by : (b : Bool) → same_key own key ≡ b → r ≡ key_after (if b then event else rests) p
    by true e = here (same own key e)
    by false e = other e

-- an event of the key itself, and one of another
pub on_own : {A : Type 0} (own key : List ℕ) (x y : A) → own ≡ key → (if same_key own key then x else y) ≡ x
on_own own key x y at = ap (λ k. if same_key k key then x else y) at ∙ ap (λ b. if b then x else y) (same_key-self key)

pub on_other : {A : Type 0} (own key : List ℕ) (x y : A) → same_key own key ≡ false
    → (if same_key own key then x else y) ≡ y
on_other own key x y off = ap (λ b. if b then x else y) off

-- the lock that a request, and one that is let in, leave
pub asked_lock : (r : Replica) (now : RowLock) (q : Request) (refused : Bool) (answer : Lock)
    → (asked_by r now q refused answer).lock ≡ now
asked_lock r now q refused Granted = refl
asked_lock r now q refused (Queued ahead) = refl

pub served_lock : (r : Replica) (refused : Bool) (o : Option Request) → (served_by r refused o).lock ≡ r.lock
served_lock r refused None = refl
served_lock r refused (Some q) = refl

-- requests

asks_here : (key : List ℕ) (q : Request) (xs : List Request) (b : Bool) → asks_for key q ≡ b
    → filter (asks_for key) (q ∷ xs) ≡ cond b (q ∷ filter (asks_for key) xs) (filter (asks_for key) xs)
asks_here key q xs b e = ap (λ c. cond c (q ∷ filter (asks_for key) xs) (filter (asks_for key) xs)) e

waiting_end : (key : List ℕ) (xs : List Request) (q : Request) (b : Bool) → asks_for key q ≡ b
    → filter (asks_for key) (xs ++ q ∷ []) ≡ cond b (filter (asks_for key) xs ++ q ∷ []) (filter (asks_for key) xs)
waiting_end key [] q true e = asks_here key q [] true e
waiting_end key [] q false e = asks_here key q [] false e
waiting_end key (x ∷ xs) q b e = by (asks_for key x) b (waiting_end key xs q b e)
  where
    by : (c b : Bool) → filter (asks_for key) (xs ++ q ∷ [])
        ≡ cond b (filter (asks_for key) xs ++ q ∷ []) (filter (asks_for key) xs)
        → cond c (x ∷ filter (asks_for key) (xs ++ q ∷ [])) (filter (asks_for key) (xs ++ q ∷ []))
        ≡ cond b (cond c (x ∷ filter (asks_for key) xs) (filter (asks_for key) xs) ++ q ∷ [])
        (cond c (x ∷ filter (asks_for key) xs) (filter (asks_for key) xs))
    by true true more = ap (λ w. x ∷ w) more
    by true false more = ap (λ w. x ∷ w) more
    by false true more = more
    by false false more = more

module _ (s : LqhState) (q : Request) (key : List ℕ) where
  request_own : (answer : Lock) → work_key q.work ≡ key
      → at_key key (operate.asked_by (operate.asked_for s q) q answer).state
      ≡ asked_by (at_key key s) (asked (lock_at s.locks key) q.tx (work_mode q.work)).lock q
      (is_refused (storage_of s) q) answer
  request_own Granted at =
      replica_is _ _
      (cell-performed (storage_of s) q key
      ∙ on_own (work_key q.work) key (worked (cell_at key s.rows) q.tx (is_refused (storage_of s) q) q.work)
      (cell_at key s.rows) at)
      (lock-inserted s.locks (work_key q.work) key (operate.asking s q).lock
      ∙ on_own (work_key q.work) key (operate.asking s q).lock (lock_at s.locks key) at
      ∙ ap (λ k. (asked (lock_at s.locks k) q.tx (work_mode q.work)).lock) at)
      refl
  request_own (Queued ahead) at =
      replica_is _ _ refl
      (lock-inserted s.locks (work_key q.work) key (operate.asking s q).lock
      ∙ on_own (work_key q.work) key (operate.asking s q).lock (lock_at s.locks key) at
      ∙ ap (λ k. (asked (lock_at s.locks k) q.tx (work_mode q.work)).lock) at)
      (waiting_end key s.waiting q true (ap (λ k. same_key k key) at ∙ same_key-self key))

  request_other : (answer : Lock) → same_key (work_key q.work) key ≡ false
      → at_key key (operate.asked_by (operate.asked_for s q) q answer).state ≡ at_key key s
  request_other Granted off =
      replica_is _ _
      (cell-performed (storage_of s) q key
      ∙ on_other (work_key q.work) key (worked (cell_at key s.rows) q.tx (is_refused (storage_of s) q) q.work)
      (cell_at key s.rows) off)
      (lock-inserted s.locks (work_key q.work) key (operate.asking s q).lock
      ∙ on_other (work_key q.work) key (operate.asking s q).lock (lock_at s.locks key) off)
      refl
  request_other (Queued ahead) off =
      replica_is _ _ refl
      (lock-inserted s.locks (work_key q.work) key (operate.asking s q).lock
      ∙ on_other (work_key q.work) key (operate.asking s q).lock (lock_at s.locks key) off)
      (waiting_end key s.waiting q false off)

  -- what the key comes to be
  abbrev RequestEvent : LqhState → Type 0
  RequestEvent after = at_key key after
      ≡ key_after (if_on (work_key q.work) key (asks q (is_refused (storage_of s) q))) (at_key key s)

  request_by : (answer : Lock) → (operate.asking s q).answer ≡ answer
      → RequestEvent (operate.asked_by (operate.asked_for s q) q answer).state
  request_by answer is =
      is_if (work_key q.work) key (asks q (is_refused (storage_of s) q)) _ _
      (λ at. request_own answer at
      ∙ ap (asked_by (at_key key s) (asked (lock_at s.locks key) q.tx (work_mode q.work)).lock q
      (is_refused (storage_of s) q)) (sym is)
      ∙ ap (λ k. asked_by (at_key key s) (asked (lock_at s.locks key) q.tx (work_mode q.work)).lock q
      (is_refused (storage_of s) q) (asked (lock_at s.locks k) q.tx (work_mode q.work)).answer) at)
      (request_other answer)

  pub request_event : RequestEvent (operate.request_row s q).state
  request_event =
      request_forms (λ step. RequestEvent step.state) s q
      (record { granted = λ is. request_by Granted is; queued = λ ahead is. request_by (Queued ahead) is })

-- a request that is let in is granted
let_in : (s : LqhState) (key : List ℕ) (x : Request) → asks_for key x ≡ true
    → operate.is_granted s.locks x ≡ is_let_in (lock_at s.locks key) x
let_in s key x is = ap (λ k. not (is_some (ahead_of (lock_at s.locks k) x.tx))) (same (work_key x.work) key is)
    ∙ by (waits x.tx (lock_at s.locks key).queue) (first_other x.tx (lock_at s.locks key).holders)
  where
    by : (b : Bool) (tx : TxId) → not (is_some (some_if b tx)) ≡ not b
    by true tx = refl
    by false tx = refl

-- the first of all that are granted, where it is for the key, is the first of those for it
pub first_here : (s : LqhState) (key : List ℕ) (xs : List Request) (q : Request)
    → first (operate.is_granted s.locks) xs ≡ Some q → work_key q.work ≡ key
    → first (is_let_in (lock_at s.locks key)) (filter (asks_for key) xs) ≡ Some q
first_here s key [] q is at = absurd cc
first_here s key (x ∷ xs) q is at = by (operate.is_granted s.locks x) (asks_for key x) refl refl is
    (λ more. first_here s key xs q more at)
  where
    by : (b c : Bool) → operate.is_granted s.locks x ≡ b → asks_for key x ≡ c
        → (if b then Some x else first (operate.is_granted s.locks) xs) ≡ Some q
        → (first (operate.is_granted s.locks) xs ≡ Some q
        → first (is_let_in (lock_at s.locks key)) (filter (asks_for key) xs) ≡ Some q)
        → first (is_let_in (lock_at s.locks key)) (cond c (x ∷ filter (asks_for key) xs) (filter (asks_for key) xs))
        ≡ Some q
    by true true e f is more = ap (λ b. if b then Some x else
        first (is_let_in (lock_at s.locks key)) (filter (asks_for key) xs)) (sym (let_in s key x f) ∙ e) ∙ is
    by true false e f is more =
        let one : x ≡ q = cc in
        absurd (let both : true ≡ false = sym (same_key-self key)
        ∙ (ap (λ k. same_key k key) (sym at) ∙ ap (λ (r : Request). asks_for key r) (sym one) ∙ f) in cc)
    by false true e f is more =
        ap (λ b. if b then Some x else first (is_let_in (lock_at s.locks key)) (filter (asks_for key) xs))
        (sym (let_in s key x f) ∙ e) ∙ more is
    by false false e f is more = more is

-- without that request
without_own : (s : LqhState) (key : List ℕ) (xs : List Request) (q : Request)
    → first (operate.is_granted s.locks) xs ≡ Some q → work_key q.work ≡ key
    → filter (asks_for key) (drop_first (operate.is_granted s.locks) xs)
    ≡ drop_first (is_let_in (lock_at s.locks key)) (filter (asks_for key) xs)
without_own s key [] q is at = absurd cc
without_own s key (x ∷ xs) q is at =
    by (operate.is_granted s.locks x) (asks_for key x) refl refl is (λ more. without_own s key xs q more at)
  where
    by : (b c : Bool) → operate.is_granted s.locks x ≡ b → asks_for key x ≡ c
        → (if b then Some x else first (operate.is_granted s.locks) xs) ≡ Some q
        → (first (operate.is_granted s.locks) xs ≡ Some q
        → filter (asks_for key) (drop_first (operate.is_granted s.locks) xs)
        ≡ drop_first (is_let_in (lock_at s.locks key)) (filter (asks_for key) xs))
        → filter (asks_for key) (if b then xs else x ∷ drop_first (operate.is_granted s.locks) xs)
        ≡ drop_first (is_let_in (lock_at s.locks key))
        (cond c (x ∷ filter (asks_for key) xs) (filter (asks_for key) xs))
    by true true e f is more =
        sym (ap (λ b. if b then filter (asks_for key) xs else
        x ∷ drop_first (is_let_in (lock_at s.locks key)) (filter (asks_for key) xs)) (sym (let_in s key x f) ∙ e))
    by true false e f is more =
        let one : x ≡ q = cc in
        absurd (let both : true ≡ false = sym (same_key-self key)
        ∙ (ap (λ k. same_key k key) (sym at) ∙ ap (λ (r : Request). asks_for key r) (sym one) ∙ f) in cc)
    by false true e f is more =
        asks_here key x (drop_first (operate.is_granted s.locks) xs) true f ∙ ap (λ w. x ∷ w) (more is)
        ∙ sym (ap (λ b. if b then filter (asks_for key) xs else
        x ∷ drop_first (is_let_in (lock_at s.locks key)) (filter (asks_for key) xs)) (sym (let_in s key x f) ∙ e))
    by false false e f is more = asks_here key x (drop_first (operate.is_granted s.locks) xs) false f ∙ more is

without_other : (s : LqhState) (key : List ℕ) (xs : List Request) (q : Request)
    → first (operate.is_granted s.locks) xs ≡ Some q → same_key (work_key q.work) key ≡ false
    → filter (asks_for key) (drop_first (operate.is_granted s.locks) xs) ≡ filter (asks_for key) xs
without_other s key [] q is off = absurd cc
without_other s key (x ∷ xs) q is off = by (operate.is_granted s.locks x) is (λ more. without_other s key xs q more off)
  where
    by : (b : Bool) → (if b then Some x else first (operate.is_granted s.locks) xs) ≡ Some q
        → (first (operate.is_granted s.locks) xs ≡ Some q
        → filter (asks_for key) (drop_first (operate.is_granted s.locks) xs) ≡ filter (asks_for key) xs)
        → filter (asks_for key) (if b then xs else x ∷ drop_first (operate.is_granted s.locks) xs)
        ≡ filter (asks_for key) (x ∷ xs)
    by true is more = let one : x ≡ q = cc in
        sym (asks_here key x xs false (ap (λ (r : Request). asks_for key r) one ∙ off))
    by false is more = ap (λ w. cond (asks_for key x) (x ∷ w) w) (more is)

module _ (s : LqhState) (key : List ℕ) where
  served_here : (at : ℕ) → position (operate.is_granted s.locks) s.waiting ≡ Some at → (q : Request)
      → first (operate.is_granted s.locks) s.waiting ≡ Some q
      → at_key key (operate.granted_on (with_waiting s (remove s.waiting at)) q).state
      ≡ key_after (if_on (work_key q.work) key (serves (is_refused (storage_of s) q))) (at_key key s)
  served_here at at_is q here =
      is_if (work_key q.work) key (serves (is_refused (storage_of s) q)) _ _
      (λ own. replica_is _ _
      (cell-performed (storage_of s) q key
      ∙ on_own (work_key q.work) key (worked (cell_at key s.rows) q.tx (is_refused (storage_of s) q) q.work)
      (cell_at key s.rows) own)
      refl (gone ∙ without_own s key s.waiting q here own)
      ∙ ap (served_by (at_key key s) (is_refused (storage_of s) q)) (sym (first_here s key s.waiting q here own)))
      (λ off. replica_is _ _
      (cell-performed (storage_of s) q key
      ∙ on_other (work_key q.work) key (worked (cell_at key s.rows) q.tx (is_refused (storage_of s) q) q.work)
      (cell_at key s.rows) off)
      refl (gone ∙ without_other s key s.waiting q here off))
    where
      gone : filter (asks_for key) (remove s.waiting at)
          ≡ filter (asks_for key) (drop_first (operate.is_granted s.locks) s.waiting)
      gone = ap (filter (asks_for key)) (ap (drop_by s.waiting) (sym at_is)
          ∙ first-drop (operate.is_granted s.locks) s.waiting)

  pub granted_event : at_key key (operate.granted_row s).state
      ≡ key_after (serves_if key s (first (operate.is_granted s.locks) s.waiting)) (at_key key s)
  granted_event =
      granted_forms (λ step. Comes step.state (first (operate.is_granted s.locks) s.waiting)) s (record {
        none = λ is. subst (Comes s) (ap (get_by s.waiting) (sym is) ∙ first-get (operate.is_granted s.locks) s.waiting)
            refl;
        some = λ at q is here.
            let q_is : Some q ≡ first (operate.is_granted s.locks) s.waiting =
            sym here ∙ (ap (get_by s.waiting) (sym is) ∙ first-get (operate.is_granted s.locks) s.waiting) in
            subst (Comes (operate.granted_on (with_waiting s (remove s.waiting at)) q).state) q_is
            (served_here at is q (sym q_is));
      })
    where
      Comes : LqhState → Option Request → Type 0
      Comes after o = at_key key after ≡ key_after (serves_if key s o) (at_key key s)
