-- The signals by which one transaction's operation on one key goes round.
use Rattle.std.proofs.Common.{◌≡◌, ◌&&◌, ◌+◌, ℕ, Bool, true, false, List, [], ◌∷◌, ◌++◌, refl, ap, ◌∙◌}
use Rattle.std.specs.Cmp.{nat_eq_equiv}
use Rattle.std.specs.Prelude.{if◌then◌else◌, nat_eq, slice_get, Option, None, Some}
use Rattle.sig_core.specs.declared.member.Member.{Member}
use Rattle.sig_core.specs.declared.member.TxId.{TxId}
use Rattle.sig_core.specs.declared.op.Answer.{Answer}
use Rattle.sig_core.specs.declared.op.Answer.TheVariants.{Done}
use Rattle.sig_core.specs.declared.op.Op.{Op}
use Rattle.sig_core.specs.declared.outs.Outgoing.{Outgoing}
use Rattle.sig_core.specs.declared.place.BlockId.{BlockId}
use Rattle.sig_core.specs.declared.place.BlockId.TheVariants.{Tc, Lqh}
use Rattle.sig_core.specs.declared.place.Place.{Place}
use Rattle.sig_core.specs.declared.signal.Body.{Body}
use Rattle.sig_core.specs.declared.signal.Body.TheVariants.{Chain}
use Rattle.sig_core.specs.declared.signal.chain.ChainSignal.TheVariants.{LqhKeyReq, LqhKeyConf, LqhKeyRef}
use Rattle.sig_core.specs.declared.signal.chain.RowWork.{RowWork}
use Rattle.sig_core.specs.declared.signal.chain.RowWork.TheVariants.{Operate, Store}
use Rattle.sig_core.specs.Op.{answer_to, image_of, key_of}
use Rattle.sig_core.specs.Place.{coordinator_of}
use Rattle.sig_core.specs.Same.{same_key, same_tx}
use Rattle.row_locks.specs.declared.mode.Lock.{Lock}
use Rattle.row_locks.specs.declared.mode.Lock.TheVariants.{Granted, Queued}
use Rattle.row_locks.specs.Rows.{asked}
use Rattle.lqh_block.specs.declared.request.Request.{Request}
use Rattle.sig_core.specs.Work.{work_key}
use Rattle.lqh_block.specs.Work.{work_mode}
use Rattle.sig_core.specs.Firsts.{first}
use Rattle.key_laws.specs.Records.{found, seen_by}
use Rattle.key_laws.specs.Replica.{Cell, Event, Replica, ages, asks, expires, is_let_in, serves}

-- a replica is to do some work, at this place of its chain; the coordinator is answered, or refused
pub data Token : Type 0 where
  performs : RowWork → ℕ → Token
  answers : Answer → Token
  refuses : Token

-- it is for the rows of a node, or for the coordinator of this transaction
abbrev pub is_rows : BlockId → Bool
is_rows Lqh = true
is_rows block = false

abbrev pub is_tc : BlockId → Bool
is_tc Tc = true
is_tc block = false

abbrev pub is_home : TxId → Place → Bool
is_home tx to = is_tc to.block && nat_eq to.node tx.tc

-- such a signal of this transaction, on this key
abbrev pub token_of : TxId → List ℕ → Place → Body → Option Token
token_of tx key to (Chain (LqhKeyReq v work chain at)) =
    if is_rows to.block && (same_tx v tx && same_key (work_key work) key) then Some (performs work at) else None
token_of tx key to (Chain (LqhKeyConf v own answer)) =
    if is_home v to && (same_tx v tx && same_key own key) then Some (answers answer) else None
token_of tx key to (Chain (LqhKeyRef v own cause)) =
    if is_home v to && (same_tx v tx && same_key own key) then Some refuses else None
token_of tx key to body = None

abbrev pub put : Option Token → List Token → List Token
put None rest = rest
put (Some t) rest = t ∷ rest

-- those among some signals
abbrev pub tokens_of : TxId → List ℕ → List Outgoing → List Token
tokens_of tx key [] = []
tokens_of tx key (o ∷ more) = put (token_of tx key o.to o.body) (tokens_of tx key more)

-- an image that is prepared goes on to the next place, or is answered at the last one
abbrev pub passed_token : List ℕ → Option (List ℕ) → ℕ → Option Member → Token
passed_token key image at None = answers Done
passed_token key image at (Some next) = performs (Store key image) (at + 1)

abbrev pub stored_token : List ℕ → Option (List ℕ) → List Member → ℕ → Bool → Token
stored_token key image chain at true = refuses
stored_token key image chain at false = passed_token key image at (slice_get chain (at + 1))

abbrev pub operated_token : Op → List Member → ℕ → Bool → Answer → Token
operated_token op chain at refused Done = stored_token (key_of op) (image_of op) chain at refused
operated_token op chain at refused answer = answers answer

abbrev pub work_token : Cell → TxId → List Member → ℕ → Bool → RowWork → Token
work_token c tx chain at refused (Operate op) =
    operated_token op chain at refused (answer_to op (seen_by c.row (found tx c.pending)))
work_token c tx chain at refused (Store key image) = stored_token key image chain at refused

-- what a request that is performed sends
abbrev pub performed_token : Cell → Request → Bool → Token
performed_token c q refused = work_token c q.tx q.chain q.at refused q.work

abbrev pub if_by : TxId → TxId → Token → List Token
if_by tx v t = if same_tx v tx then t ∷ [] else []

abbrev pub asked_tokens : TxId → Replica → Request → Bool → Lock → List Token
asked_tokens tx r q refused Granted = if_by tx q.tx (performed_token r.cell q refused)
asked_tokens tx r q refused (Queued ahead) = []

abbrev pub served_tokens : TxId → Replica → Bool → Option Request → List Token
served_tokens tx r refused None = []
served_tokens tx r refused (Some q) = if_by tx q.tx (performed_token r.cell q refused)

abbrev pub expired_tokens : TxId → Option TxId → List Token
expired_tokens tx None = []
expired_tokens tx (Some v) = if_by tx v refuses

-- what an event of the key sends of this transaction, if it isn't its abort
abbrev pub event_tokens : TxId → Event → Replica → List Token
event_tokens tx (asks q refused) r = asked_tokens tx r q refused (asked r.lock q.tx (work_mode q.work)).answer
event_tokens tx (serves refused) r = served_tokens tx r refused (first (is_let_in r.lock) r.waiting)
event_tokens tx (expires v) r = if_by tx v refuses
event_tokens tx (ages wait) r = expired_tokens tx wait
event_tokens tx event r = []

pub tokens-append : (tx : TxId) (key : List ℕ) (xs ys : List Outgoing)
    → tokens_of tx key (xs ++ ys) ≡ tokens_of tx key xs ++ tokens_of tx key ys
tokens-append tx key [] ys = refl
tokens-append tx key (x ∷ xs) ys =
    ap (put (token_of tx key x.to x.body)) (tokens-append tx key xs ys) ∙ by (token_of tx key x.to x.body)
  where
    by : (o : Option Token)
        → put o (tokens_of tx key xs ++ tokens_of tx key ys) ≡ put o (tokens_of tx key xs) ++ tokens_of tx key ys
    by None = refl
    by (Some t) = refl

-- one signal
pub put_if : (b : Bool) (t : Token) (rest : List Token)
    → put (if b then Some t else None) rest ≡ (if b then t ∷ rest else rest)
put_if true t rest = refl
put_if false t rest = refl

-- the coordinator of a transaction is its coordinator
pub home_is : (tx : TxId) → is_home tx (coordinator_of tx) ≡ true
home_is tx = nat_eq_equiv.refl tx.tc

pub put_home : (v : TxId) (b : Bool) (t : Token) (rest : List Token)
    → put (if is_home v (coordinator_of v) && b then Some t else None) rest ≡ (if b then t ∷ rest else rest)
put_home v b t rest = ap (λ h. put (if h && b then Some t else None) rest) (home_is v) ∙ put_if b t rest

-- a token is given by its signal
pub some_if : (b : Bool) (t u : Token) → (if b then Some t else None) ≡ Some u → (b ≡ true) × (t ≡ u)
some_if true t u is = (refl, cc)
some_if false t u is = absurd cc
