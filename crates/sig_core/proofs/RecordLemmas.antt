-- Where a transaction's record on a key stands: it is the first one of both.
use Rattle.std.proofs.Common.{◌≡◌, ℕ, List, refl, ◌∙◌}
use Rattle.std.specs.Prelude.{Option, None, Some}
use Rattle.sig_core.specs.declared.member.TxId.{TxId}
use Rattle.sig_core.specs.declared.rows.PendingRecord.{PendingRecord}
use Rattle.sig_core.specs.Firsts.{first}
use Rattle.sig_core.specs.Rows.{RowsState, get_at, is_of, record_at, record_of}
use Rattle.sig_core.proofs.Firsts.{first-get, get_by}

get_at-by : (pending : List PendingRecord) (at : Option ℕ) → get_at pending at ≡ get_by pending at
get_at-by pending None = refl
get_at-by pending (Some at) = refl

pub record_of-first : (s : RowsState) (tx : TxId) (key : List ℕ) → record_of s tx key ≡ first (is_of tx key) s.pending
unfolding record_of
record_of-first s tx key = get_at-by s.pending (record_at s.pending tx key) ∙ first-get (is_of tx key) s.pending
