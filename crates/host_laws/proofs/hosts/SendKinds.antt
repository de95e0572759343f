-- Lists of signals of certain kinds.
use Rattle.std.proofs.Common.{◌≡◌, ℕ, zero, suc, ◌+◌, cond, arith, List, [], ◌∷◌, ◌++◌, take, drop, Bool, true, false}
use Rattle.std.proofs.Common.{refl}
use Rattle.std.specs.Prelude.{if◌then◌else◌, map}
use Rattle.std.specs.List.{flat_map}
use Rattle.run_theory.specs.Lists.{Each}
use Rattle.sig_core.specs.declared.member.TxId.{TxId}
use Rattle.sig_core.specs.declared.outcome.AbortCause.{AbortCause}
use Rattle.sig_core.specs.declared.outcome.AbortCause.TheVariants.{LogFull, Request, TableFull, Timeout}
use Rattle.sig_core.specs.declared.outs.Outgoing.{Outgoing}
use Rattle.sig_core.specs.declared.place.Place.{Place}
use Rattle.sig_core.specs.declared.signal.Body.{Body}
use Rattle.sig_core.specs.declared.signal.Body.TheVariants.{Host, Client, Chain, Epoch}
use Rattle.sig_core.specs.declared.signal.chain.ChainSignal.TheVariants.{LqhKeyReq, LqhKeyConf, LqhKeyRef, Commit}
use Rattle.sig_core.specs.declared.signal.chain.ChainSignal.TheVariants.{Committed, Complete, Completed, Abort, Aborted}
use Rattle.sig_core.specs.declared.signal.client.ClientSignal.TheVariants.{TcBeginReq, TcKeyConf, TcCommitConf}
use Rattle.sig_core.specs.declared.signal.client.ClientSignal.TheVariants.{TcRollbackRep, TcWaitConf, LqhWaitReq}
use Rattle.sig_core.specs.declared.signal.client.ClientSignal.TheVariants.{LqhWaitConf, DumpConf}
use Rattle.sig_core.specs.declared.signal.epoch.EpochSignal.TheVariants.{DiVerifyReq, DiVerifyConf, DiVerifyEnd}
use Rattle.sig_core.specs.declared.signal.host.HostSignal.TheVariants.{Continue}
use Rattle.sig_core.specs.declared.signal.host.Work.TheVariants.{Granted, Expired, Transaction}
use Rattle.sig_core.specs.Same.{same_tx}
use Rattle.sig_core.specs.Step.{Step}
use Rattle.run_theory.specs.Counts.{tally}

-- what a coordinator sends of a transaction. Of no other one it reports the end
abbrev pub is_tc_kind : TxId → Body → Bool
is_tc_kind one (Client (TcKeyConf other answer)) = same_tx other one
is_tc_kind tx (Client (TcCommitConf other epoch)) = same_tx other tx
is_tc_kind tx (Client (TcRollbackRep other cause)) = same_tx other tx
is_tc_kind one (Client (TcWaitConf tx ahead)) = true
is_tc_kind one (Client (LqhWaitReq tx key)) = true
is_tc_kind one (Chain (LqhKeyReq tx work chain at)) = true
is_tc_kind one (Chain (Commit tx key epoch chain at)) = true
is_tc_kind one (Chain (Complete tx key chain at)) = true
is_tc_kind one (Chain (Abort tx key)) = true
is_tc_kind one (Epoch (DiVerifyReq tx ops)) = true
is_tc_kind one (Epoch (DiVerifyEnd tx)) = true
is_tc_kind one (Host (Continue (Transaction tx) at)) = true
is_tc_kind one _ = false

-- all but the answer of an operation
abbrev pub is_keyless : Body → Bool
is_keyless (Client (TcKeyConf other answer)) = false
is_keyless _ = true

-- what the block of epochs sends
abbrev pub is_dih_kind : Body → Bool
is_dih_kind (Epoch (DiVerifyConf tx epoch)) = true
is_dih_kind _ = false

-- why the rows of a node may end an operation: for want of room or of time, or since an abort was asked for
abbrev pub is_row_cause : AbortCause → Bool
is_row_cause (LogFull used reserved need) = true
is_row_cause (TableFull rows) = true
is_row_cause Timeout = true
is_row_cause Request = true
is_row_cause cause = false

-- what the rows of a node send
abbrev pub is_lqh_kind : Body → Bool
is_lqh_kind (Client (LqhWaitConf tx ahead)) = true
is_lqh_kind (Client (DumpConf rows next)) = true
is_lqh_kind (Chain (LqhKeyReq tx work chain at)) = true
is_lqh_kind (Chain (LqhKeyConf tx key answer)) = true
is_lqh_kind (Chain (LqhKeyRef tx key cause)) = is_row_cause cause
is_lqh_kind (Chain (Commit tx key epoch chain at)) = true
is_lqh_kind (Chain (Committed tx key)) = true
is_lqh_kind (Chain (Complete tx key chain at)) = true
is_lqh_kind (Chain (Completed tx key)) = true
is_lqh_kind (Chain (Aborted tx key)) = true
is_lqh_kind (Host (Continue Granted at)) = true
is_lqh_kind (Host (Continue Expired at)) = true
is_lqh_kind _ = false

-- the wish for a transaction
abbrev pub is_begin_wish : Body → Bool
is_begin_wish (Client (TcBeginReq name)) = true
is_begin_wish _ = false

-- the signals are all of this kind
abbrev pub are_of : (Body → Bool) → List Outgoing → Bool
are_of kind [] = true
are_of kind (sent ∷ more) = if kind sent.body then are_of kind more else false

-- a step sends no others
abbrev pub SendsOnly : {S : Type 0} → (Body → Bool) → Step S → Type 0
SendsOnly kind step = are_of kind step.effects.sends ≡ true

one_more : (b first rest : Bool) → (if b then first else false) ≡ true → (first ≡ true → rest ≡ true)
    → (if b then rest else false) ≡ true
one_more true first rest e go = go e
one_more false first rest e go = e

the_rest : (b first : Bool) → (if b then first else false) ≡ true → first ≡ true
the_rest true first e = e
the_rest false first e = cc

the_first : (b first : Bool) → (if b then first else false) ≡ true → b ≡ true
the_first true first e = refl
the_first false first e = e

-- one signal of a kind
pub one_kind : (b : Bool) → b ≡ true → (if b then true else false) ≡ true
one_kind true e = refl
one_kind false e = cc

both_kinds : (b : Bool) {rest : Bool} → b ≡ true → rest ≡ true → (if b then rest else false) ≡ true
both_kinds true e r = r
both_kinds false e r = e

-- each is of the kind
pub of_each : (kind : Body → Bool) (xs : List Outgoing) → Each (λ (o : Outgoing). kind o.body ≡ true) xs
    → are_of kind xs ≡ true
of_each kind [] all = refl
of_each kind (x ∷ xs) all = both_kinds (kind x.body) all.0 (of_each kind xs all.1)

pub of_append : (kind : Body → Bool) (xs ys : List Outgoing) → are_of kind xs ≡ true → are_of kind ys ≡ true
    → are_of kind (xs ++ ys) ≡ true
of_append kind [] ys p q = q
of_append kind (x ∷ xs) ys p q =
    one_more (kind x.body) (are_of kind xs) (are_of kind (xs ++ ys)) p (λ first. of_append kind xs ys first q)

pub of_take : (kind : Body → Bool) (n : ℕ) (xs : List Outgoing) → are_of kind xs ≡ true → are_of kind (take n xs) ≡ true
of_take kind zero xs p = refl
of_take kind (suc n) [] p = refl
of_take kind (suc n) (x ∷ xs) p =
    one_more (kind x.body) (are_of kind xs) (are_of kind (take n xs)) p (of_take kind n xs)

pub of_drop : (kind : Body → Bool) (n : ℕ) (xs : List Outgoing) → are_of kind xs ≡ true → are_of kind (drop n xs) ≡ true
of_drop kind zero xs p = p
of_drop kind (suc n) [] p = refl
of_drop kind (suc n) (x ∷ xs) p = of_drop kind n xs (the_rest (kind x.body) (are_of kind xs) p)

-- signals that are made of a list's items, one of each
pub of_map : (kind : Body → Bool) {A : Type 0} (f : A → Outgoing) (xs : List A) → ((x : A) → kind (f x).body ≡ true)
    → are_of kind (map f xs) ≡ true
of_map kind f [] plain = refl
of_map kind f (x ∷ xs) plain = both_kinds (kind (f x).body) (plain x) (of_map kind f xs plain)

-- or some of each
pub of_flat : (kind : Body → Bool) {A : Type 0} (f : A → List Outgoing) (xs : List A)
    → ((x : A) → are_of kind (f x) ≡ true) → are_of kind (flat_map f xs) ≡ true
of_flat kind f [] plain = refl
of_flat kind f (x ∷ xs) plain = of_append kind (f x) (flat_map f xs) (plain x) (of_flat kind f xs plain)

-- where no signal of the kind passes a test, none of these does
pub none_of : (kind : Body → Bool) (test : Place → Body → Bool)
    → ((to : Place) (body : Body) → kind body ≡ true → test to body ≡ false)
    → (xs : List Outgoing) → are_of kind xs ≡ true → tally (λ (x : Outgoing). test x.to x.body) xs ≡ 0
none_of kind test fails [] e = refl
none_of kind test fails (x ∷ xs) e =
    one (test x.to x.body) (fails x.to x.body (the_first (kind x.body) (are_of kind xs) e))
    (none_of kind test fails xs (the_rest (kind x.body) (are_of kind xs) e))
  where
    one : (b : Bool) {n : ℕ} → b ≡ false → n ≡ 0 → cond b 1 0 + n ≡ 0
    one true e r = cc
    one false e r = omega (arith, r)

-- what is so of each signal of the kind is so of each of these
pub each_of : (kind : Body → Bool) (P : Outgoing → Type 0) → ((x : Outgoing) → kind x.body ≡ true → P x)
    → (xs : List Outgoing) → are_of kind xs ≡ true → Each P xs
each_of kind P holds [] e = tt
each_of kind P holds (x ∷ xs) e = (
  holds x (the_first (kind x.body) (are_of kind xs) e),
  each_of kind P holds xs
      (the_rest (kind x.body) (are_of kind xs) e),
)

-- signals of a kind are of each kind that includes it
pub of_kind : (kind other : Body → Bool) → ((body : Body) → kind body ≡ true → other body ≡ true) → (xs : List Outgoing)
    → are_of kind xs ≡ true → are_of other xs ≡ true
of_kind kind other holds [] e = refl
of_kind kind other holds (x ∷ xs) e =
    both_kinds (other x.body) (holds x.body (the_first (kind x.body) (are_of kind xs) e))
    (of_kind kind other holds xs (the_rest (kind x.body) (are_of kind xs) e))
