-- Replaying bytes that files have.
use Rattle.std.proofs.Common.{◌≡◌, ◌∙◌, ◌≤◌, ℕ, List, length, sym, ap, inl, inr, append-nil, arith}
use Rattle.std.specs.Prelude.{Ok, Err}
use Rattle.std.proofs.lemmas.Bool.{cases_lt}
use Rattle.std.proofs.lemmas.List.{ext_get_or}
use Rattle.sig_core.specs.declared.redo.Redo.{Redo}
use Rattle.sig_core.specs.declared.fault.ReadFault.TheVariants.{Damaged, DiskFault, NoMemory}
use Rattle.redo_log.specs.Replaying.{log_bytes, replayed}
use Rattle.redo_log.specs.Stored.{AreStored}
use Rattle.redo_log.specs.StoredLaws.{StoredRecordsAreReplayed}
use Rattle.redo_log.proofs.OrderLemmas.{one_newest, undamaged}

-- files have no fewer bytes from a position on than they have
no_fewer : (files : ℕ → List ℕ) (parity from count : ℕ) (one other : List ℕ) → AreStored files parity from count one
    → AreStored files parity from count other → length other ≤ length one
no_fewer files parity from count one other a b =
    elim (cases_lt (length one) (length other)) [
      | inr enough ↦ enough
      | inl fewer ↦
          absurd (omega (arith, a.all (omega (arith, fewer, b.most)), (b.each (length one) fewer).there))
    ]

-- so they have one list of bytes
pub one_stored : (files : ℕ → List ℕ) (parity from count : ℕ) (one other : List ℕ)
    → AreStored files parity from count one
    → AreStored files parity from count other → one ≡ other
one_stored files parity from count one other a b =
    let less = no_fewer files parity from count other one b a in
    let more = no_fewer files parity from count one other a b in
    ext_get_or 0 one other (omega (arith, less, more))
    (λ k below. (a.each k below).same ∙ sym (b.each k (omega (arith, below, less))).same)

pub stored_replayed : StoredRecordsAreReplayed
stored_replayed epoch parity from files before rows newest (Ok done) are stored
    (bytes, (read, whole, (others, replays))) =
    let same : log_bytes newest ≡ bytes =
    one_stored files parity from (length (log_bytes newest)) (log_bytes newest) bytes stored read in
    let one : others ≡ newest =
    one_newest others newest replays.are are (sym (same ∙ replays.split ∙ append-nil (log_bytes others))) in
    replays.made ∙ ap (λ (w : List Redo). replayed epoch before w) one
stored_replayed epoch parity from files before rows newest (Err NoMemory) are stored is = tt
stored_replayed epoch parity from files before rows newest (Err (DiskFault count)) are stored is = tt
stored_replayed epoch parity from files before rows newest (Err (Damaged file at byte)) are stored
    (bytes, (read, inl is)) =
    let same : bytes ≡ log_bytes newest =
    one_stored files parity from (length (log_bytes newest)) bytes (log_bytes newest) read stored in
    undamaged epoch parity from before rows bytes newest file at byte are same is
stored_replayed epoch parity from files before rows newest (Err (Damaged file at byte)) are stored
    (bytes, (read, inr is)) =
    let same : bytes ≡ log_bytes newest =
    one_stored files parity from (length (log_bytes newest)) bytes (log_bytes newest) read stored in
    omega (arith, is.0, ap length same)
