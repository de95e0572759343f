-- A step of the rows sends at most four signals.
use Rattle.std.proofs.Common.{ℕ, suc, ◌+◌, ◌≤◌, Bool, true, false, List, [], ◌∷◌, ◌++◌, length, arith}
use Rattle.std.proofs.lemmas.List.{length-append}
use Rattle.std.specs.Prelude.{is_some, nat_lt, remove, Option}
use Rattle.sig_core.specs.declared.member.TxId.{TxId}
use Rattle.sig_core.specs.declared.outs.Outgoing.{Outgoing}
use Rattle.sig_core.specs.declared.signal.Signal.{Signal}
use Rattle.sig_core.specs.declared.signal.host.Work.{Work}
use Rattle.sig_core.specs.declared.signal.host.Work.TheVariants as work
use Rattle.sig_core.specs.declared.outcome.AbortCause.TheVariants as cause
use Rattle.sig_core.specs.declared.signal.Body.TheVariants.{Chain}
use Rattle.sig_core.specs.declared.signal.chain.ChainSignal.TheVariants.{Aborted}
use Rattle.sig_core.specs.Place.{coordinator_of}
use Rattle.sig_core.specs.Step.{Step, to_place}
use Rattle.row_locks.specs.Rounds.{expired}
use Rattle.row_locks.specs.Rows.{Served}
use Rattle.row_locks.specs.Tables.{unwaited_at}
use Rattle.lqh_block.specs.declared.request.Request.{Request}
use Rattle.lqh_block.specs.Expire as expire
use Rattle.lqh_block.specs.Lqh.{lqh_row}
use Rattle.lqh_block.specs.Operate as operate
use Rattle.lqh_block.specs.State.{LqhState, freed_lock, go_on_if, serve_granted, storage_of, with_lock, with_waiting}
use Rattle.lqh_block.specs.Storage as storage
use Rattle.lqh_block.specs.Storage.{StorageState, refusal}
use Rattle.lqh_block.proofs.LqhForms.{ExpireForms, LqhForms, aborting, expiring, lqh_forms, perform_forms}

-- one signal, and some behind it
one_more : (xs : List Outgoing) (n : ℕ) → length xs ≤ n → suc (length xs) ≤ suc n
one_more xs n few = omega (arith, few)

append_few : (xs ys : List Outgoing) (m n : ℕ) → length xs ≤ m → length ys ≤ n → length (xs ++ ys) ≤ m + n
append_few xs ys m n few more =
    let all = length-append xs ys in
    omega (arith, few, more, all)

goes_on : (node : ℕ) (what : Work) (b : Bool) → length (go_on_if node what b) ≤ 1
goes_on node what true = omega arith
goes_on node what false = omega arith

performs : (s : StorageState) (r : Request) → length (storage.perform s r).effects.sends ≤ 1
performs s r = perform_forms (λ step. length step.effects.sends ≤ 1) s r (record {
  log_full = λ used reserved need. omega arith;
  table_full = λ rows. omega arith;
  answers = λ a. omega arith;
  passes = λ image next is. omega arith;
  ends = λ image is. omega arith;
})

abbrev Few : {S : Type 0} → Step S → Type 0
Few step = length step.effects.sends ≤ 4

-- one signal, and the one to go on with granted waits
granted_few : (node : ℕ) (served : Served) → suc (length (serve_granted node served)) ≤ 2
granted_few node served = one_more (serve_granted node served) 1 (goes_on node work.Granted (nat_lt 0 served.granted))

wider : (n m : ℕ) → n ≤ m → m ≤ 4 → n ≤ 4
wider n m few more = omega (arith, few, more)

serves_few : (node : ℕ) (served : Served) → suc (length (serve_granted node served)) ≤ 4
serves_few node served = wider _ 2 (granted_few node served) (omega arith)

aborts_few : (s : LqhState) (tx : TxId) (key : List ℕ) (waiting : List Request) (st : StorageState)
    (had : Option Bool) (refused : List Outgoing) → length refused ≤ 1 → Few (aborting s tx key waiting st had refused)
aborts_few s tx key waiting st had refused few =
    let served = freed_lock s tx key in
    let told = to_place (coordinator_of tx) (Chain (Aborted tx key)) ∷ serve_granted s.node served in
    wider _ 3 (append_few refused told 1 2 few (granted_few s.node served)) (omega arith)

expires_few : (s : LqhState) → ExpireForms (λ step. Few step) s
expires_few s = record {
  rests = λ is. omega arith;
  none = λ tx key is none. one tx key (unwaited_at s.locks key tx) s.waiting;
  some = λ tx key is at r there here. one tx key (unwaited_at s.locks key tx) (remove s.waiting at);
}
  where
    one : (tx : TxId) (key : List ℕ) (served : Served) (waiting : List Request)
        → Few (expiring s tx key served waiting)
    one tx key served waiting =
        let granted = serve_granted s.node served in
        let more = expire.more_expired (with_lock s key served) in
        let two = append_few granted more 1 1 (goes_on s.node work.Granted (nat_lt 0 served.granted))
        (goes_on s.node work.Expired (is_some (expired (with_lock s key served).locks))) in
        wider _ 3 (one_more (granted ++ more) 2 two) (omega arith)

grants_few : (s : LqhState) (r : Request) → Few (operate.granted_on s r)
grants_few s r =
    let all = append_few (operate.performed s r).effects.sends (operate.more_granted s) 1 1 (performs (storage_of s) r)
    (goes_on s.node work.Granted (is_some (operate.first_granted s.locks s.waiting))) in
    wider _ 2 all (omega arith)

asks_few : (s : LqhState) (r : Request) → Few (operate.performed s r)
asks_few s r =
    wider _ 1 (performs (storage_of s) r) (omega arith)

forms : (s : LqhState) → LqhForms (λ body step. Few step) s
forms s = record {
  asks = λ r. record {
    granted = λ is. asks_few (operate.asked_for s r) r;
    queued = λ ahead is. omega arith;
  };
  grants = λ at. record {
    none = λ is. omega arith;
    some = λ place r is here. grants_few (with_waiting s (remove s.waiting place)) r;
  };
  commits = λ tx key epoch chain at. record {
    last = λ had st markers applies first. serves_few s.node (freed_lock s tx key);
    passes = λ had st markers applies first. omega arith;
  };
  completes = λ tx key chain at. record {
    last = λ first. serves_few s.node (freed_lock s tx key);
    passes = λ first. serves_few s.node (freed_lock s tx key);
  };
  aborts = λ tx key. record {
    none = λ had st gives none. aborts_few s tx key s.waiting st had [] (omega arith);
    some = λ had st gives at r there here. aborts_few s tx key (remove s.waiting at) st had
        (refusal tx key cause.Request ∷ []) (omega arith);
  };
  acknowledges = λ tx markers. omega arith;
  waits = λ tx key. record {
    none = λ is. omega arith;
    some = λ ahead is. omega arith;
  };
  dumps = λ at rows next. omega arith;
  ages = expires_few (expire.aged s);
  expires = λ at. expires_few s;
  rests = λ body is. omega arith;
}

pub few_sends : (s : LqhState) (x : Signal) → length (lqh_row s x).effects.sends ≤ 4
few_sends s x = lqh_forms (λ body step. Few step) s (forms s) x.body

-- so there is room for them
pub room-for : (s : LqhState) (x : Signal) (before : List Outgoing) → length before + 12 ≤ 16
    → length (before ++ (lqh_row s x).effects.sends) ≤ 16
room-for s x before room =
    let few = few_sends s x in
    let all = length-append before (lqh_row s x).effects.sends in
    omega (arith, room, few, all)

pub ruleset few = (room-for)
