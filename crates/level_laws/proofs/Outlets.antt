-- How much a journal has to give out grows by a record's bytes, whatever they say.
use Rattle.std.proofs.Common.{◌≡◌, ℕ, Bool, true, false, List, ap, arith}
use Rattle.std.proofs.lemmas.List.{length-append}
use Rattle.sig_core.proofs.RedoLemmas.{bytes_size}
use Rattle.sig_core.specs.declared.member.TxId.{TxId}
use Rattle.sig_core.specs.declared.redo.Redo.{Redo}
use Rattle.sig_core.specs.declared.redo.Redo.TheVariants as redo
use Rattle.sig_core.specs.Journal.{OutletState, behind, behind_by}
use Rattle.sig_core.specs.Redo.{bytes_of, size_of}
use Rattle.level_laws.specs.Levels.{outlet_at}

pub behind_level : (o : OutletState) (r : Redo) → behind (outlet_at o) r ≡ outlet_at (behind o r)
behind_level o r = by o.keeps
  where
    up_to : ℕ → OutletState
    up_to end = record (outlet_at o) { flushed = end }

    by : (keeps : Bool) → behind (outlet_at o) r ≡ outlet_at (behind_by keeps o r)
    by true = ap up_to (omega (arith, length-append o.left (bytes_of r), bytes_size r))
    by false = ap up_to (omega arith)

pub commit_outlet : (o : OutletState) (tx : TxId) (one other : ℕ) (key : List ℕ)
    → behind (outlet_at o) (redo.Commit tx one key) ≡ outlet_at (behind o (redo.Commit tx other key))
unfolding size_of
commit_outlet o tx one other key = behind_level o (redo.Commit tx other key)
