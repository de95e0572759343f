-- What rows may be asked, so that their journal can be written.
use Rattle.std.proofs.Common.{◌≤◌, ◌<◌, ◌%◌, ◌^◌, List, ℕ, arith}
use Rattle.std.specs.Prelude.{IfSome}
use Rattle.std.proofs.lemmas.Nat.{mod_below}
use Rattle.run_theory.specs.Lists.{Each}
use Rattle.sig_core.specs.declared.rows.PendingRecord.{PendingRecord}
use Rattle.sig_core.specs.declared.signal.Body.{Body}
use Rattle.sig_core.specs.declared.signal.Body.TheVariants.{Chain}
use Rattle.sig_core.specs.declared.signal.chain.ChainSignal.TheVariants as chain
use Rattle.sig_core.specs.declared.signal.chain.RowWork.{RowWork}
use Rattle.sig_core.specs.declared.view.Shape.{Shape}
use Rattle.sig_core.specs.Digest.{digest_word}
use Rattle.sig_core.specs.Work.{work_image, work_key}
use Rattle.frag_map.specs.Fragment.{frag_of}
use Rattle.redo_format.specs.Records.{IsKey, IsTransaction, IsValue}
use Rattle.lqh_block.specs.declared.request.Request.{Request}
use Rattle.lqh_block.specs.State.{LqhState}

-- the key of the work is one, and so is its value, if it has one
abbrev pub IsWork : RowWork → Type 0
IsWork work = IsKey (work_key work) × IfSome (work_image work) IsValue

-- the request is of a transaction, and of such work
abbrev pub IsRequest : Request → Type 0
IsRequest r = IsTransaction r.tx × IsWork r.work

abbrev pub IsOwned : PendingRecord → Type 0
IsOwned r = IsTransaction r.tx × IsKey r.key

-- rows whose records, and whose requests that wait, are such, and which lie in as many fragments as there may be
pub record AreWritable (s : LqhState) : Type 0 where
  pub fragments_some : 1 ≤ s.layout.shape.fragments
  pub fragments_few : s.layout.shape.fragments ≤ 32
  pub waiting : Each IsRequest s.waiting
  pub pending : Each IsOwned s.rows.pending

-- a signal asks for such work, or orders a commit in an epoch that can be written
abbrev pub IsWritable : Body → Type 0
IsWritable (Chain (chain.LqhKeyReq tx work members at)) = IsTransaction tx × IsWork work
IsWritable (Chain (chain.Commit tx key epoch members at)) = epoch < 2 ^ 64
IsWritable body = Unit {0}

few_below : (x n : ℕ) → x < n → n ≤ 32 → x < 32
few_below x n below few = omega (arith, below, few)

pub fragment_few : (shape : Shape) (key : List ℕ) → 1 ≤ shape.fragments → shape.fragments ≤ 32
    → frag_of shape key < 32
unfolding frag_of
fragment_few shape key some few =
    few_below (digest_word key % shape.fragments) shape.fragments
    (mod_below (digest_word key) shape.fragments (omega (arith, some))) few
