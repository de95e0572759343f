-- Records gone through one by one.
use Rattle.std.proofs.Common.{◌≡◌, ◌≤◌, ◌<◌, ◌+◌, ◌-◌, ◌∙◌, ℕ, zero, suc, Bool, true, false, List, [], ◌∷◌, length}
use Rattle.std.proofs.Common.{drop, refl, sym, ap, subst, arith}
use Rattle.std.specs.Prelude.{if◌then◌else◌, Result, Ok, Err}
use Rattle.std.proofs.lemmas.Bool.{le-ltb}
use Rattle.std.proofs.lemmas.List.{length-drop}
use Rattle.sig_core.specs.declared.redo.Redo.{Redo}
use Rattle.sig_core.specs.Journal.{OutletState, end_of}
use Rattle.sig_core.specs.Rows.{RowsState}
use Rattle.redo_format.specs.declared.fault.FormatFault.{FormatFault}
use Rattle.redo_format.specs.Decoding.{IsDecoded, decoded}
use Rattle.redo_format.specs.Reading.{record_at}
use Rattle.redo_log.specs.LogState.{LogState, bytes_from, outlet_in}
use Rattle.redo_log.proofs.ReplayLemmas.{front_fits, front_some}
use Rattle.lqh_saver.specs.Redo.{is_unfinished, noted, noted_from, noting, oldest, oldest_from, records_by, records_of}

-- without bytes there are no records
no_bytes : (more : ℕ) → records_of more [] ≡ []
unfolding records_of record_at
no_bytes zero = refl
no_bytes (suc more) = refl

-- nor where none begins the bytes
none_begins : (more : ℕ) (rest : List ℕ) (fault : FormatFault) → decoded rest ≡ Err fault → records_of more rest ≡ []
unfolding records_of
none_begins zero rest fault is = refl
none_begins (suc more) rest fault is =
    ap (λ (read : Result (Redo × ℕ) FormatFault). records_by read (λ len. records_of more (drop len rest))) is

-- bytes that begin with a record: behind it they are fewer
record OneMore (more : ℕ) (rest : List ℕ) (found : Redo × ℕ) : Type 0 where
  fewer : ℕ
  enough : length (drop found.1 rest) ≤ fewer
  split : records_of more rest ≡ found ∷ records_of fewer (drop found.1 rest)

one_more : (more : ℕ) (rest : List ℕ) (found : Redo × ℕ) → 0 < length rest → length rest ≤ more
    → decoded rest ≡ Ok found → IsDecoded rest found → OneMore more rest found
unfolding records_of
one_more zero rest found some enough is found_is = absurd (omega (arith, some, enough))
one_more (suc more) rest found some enough is found_is =
    let size : 1 ≤ found.1 = front_some rest found found_is in
    record {
      fewer = more;
      enough = omega (arith, size, enough, length-drop found.1 rest);
      split = ap (λ (read : Result (Redo × ℕ) FormatFault).
          records_by read (λ len. records_of more (drop len rest))) is;
    }

-- no byte of a log was given out from where it begins
all_left : (log : LogState) → bytes_from log log.flushed ≡ log.left
unfolding bytes_from
all_left log =
    let none : log.flushed - log.flushed ≡ 0 = omega arith in
    ap (λ (b : Bool). if b then [] else drop (log.flushed - log.flushed) log.left)
    (le-ltb log.flushed log.flushed (omega arith))
    ∙ ap (λ (n : ℕ). drop n log.left) none

-- The records up to a position were finished, and what is left leads to the same as all did.
pub record IsSeeking (rows : RowsState) (o : OutletState) (at : ℕ) (rest : List ℕ) : Type 0 where
  pub more : ℕ
  pub enough : length rest ≤ more
  pub here : at + length rest ≡ end_of o
  pub leads : oldest_from rows at (records_of more rest) ≡ oldest rows o

module _ (rows : RowsState) (log : LogState) where
  pub seeking_begins : (at : ℕ) (bytes : List ℕ) → at ≡ log.flushed → bytes ≡ bytes_from log at
      → IsSeeking rows (outlet_in log) at bytes
  seeking_begins at bytes is are =
      let all : bytes ≡ log.left = are ∙ ap (bytes_from log) is ∙ all_left log in
      subst (λ (from : ℕ). IsSeeking rows (outlet_in log) from bytes) (sym is)
      (subst (λ (w : List ℕ). IsSeeking rows (outlet_in log) log.flushed w) (sym all)
      (record { more = length log.left; enough = omega arith; here = refl; leads = refl }))

module _ (rows : RowsState) (o : OutletState) (at : ℕ) (rest : List ℕ) (seeking : IsSeeking rows o at rest) where
  pub seeking_stops : (fault : FormatFault) → decoded rest ≡ Err fault → at ≡ oldest rows o
  seeking_stops fault is =
      sym (ap (oldest_from rows at) (none_begins seeking.more rest fault is)) ∙ seeking.leads

  pub seeking_ends : length rest ≤ 0 → at ≡ oldest rows o
  seeking_ends none = by rest none seeking.leads
    where
      by : (left : List ℕ) → length left ≤ 0
          → oldest_from rows at (records_of seeking.more left) ≡ oldest rows o → at ≡ oldest rows o
      by [] none leads = sym (ap (oldest_from rows at) (no_bytes seeking.more)) ∙ leads
      by (byte ∷ left) none leads = absurd (omega (arith, none))

  module _ (found : Redo × ℕ) (some : 0 < length rest) (is : decoded rest ≡ Ok found) (found_is : IsDecoded rest found)
    where
      split : OneMore seeking.more rest found
      split = one_more seeking.more rest found some seeking.enough is found_is

      leads_on : (if is_unfinished rows found.0 then at
          else oldest_from rows (at + found.1) (records_of split.fewer (drop found.1 rest))) ≡ oldest rows o
      leads_on = sym (ap (oldest_from rows at) split.split) ∙ seeking.leads

      pub seeking_finds : is_unfinished rows found.0 ≡ true → at ≡ oldest rows o
      seeking_finds unfinished =
          sym (ap (λ (b : Bool). if b then at
          else oldest_from rows (at + found.1) (records_of split.fewer (drop found.1 rest))) unfinished) ∙ leads_on

      pub seeking_goes_on : is_unfinished rows found.0 ≡ false → IsSeeking rows o (at + found.1) (drop found.1 rest)
      seeking_goes_on finished =
          record {
            more = split.fewer;
            enough = split.enough;
            here = omega (arith, seeking.here, front_fits rest found found_is, length-drop found.1 rest);
            leads =
                sym (ap (λ (b : Bool). if b then at
                else oldest_from rows (at + found.1) (records_of split.fewer (drop found.1 rest))) finished) ∙ leads_on;
          }

-- so of the epochs of commits
pub record IsNoting (floor : ℕ) (o : OutletState) (epoch : ℕ) (rest : List ℕ) : Type 0 where
  pub more : ℕ
  pub enough : length rest ≤ more
  pub leads : noted_from epoch (records_of more rest) ≡ noted floor o

pub noting_begins : (floor : ℕ) (log : LogState) (bytes : List ℕ) → bytes ≡ bytes_from log log.flushed
    → IsNoting floor (outlet_in log) floor bytes
noting_begins floor log bytes are =
    subst (λ (w : List ℕ). IsNoting floor (outlet_in log) floor w) (sym (are ∙ all_left log))
    (record { more = length log.left; enough = omega arith; leads = refl })

module _ (floor : ℕ) (o : OutletState) (epoch : ℕ) (rest : List ℕ) (seeking : IsNoting floor o epoch rest) where
  pub noting_stops : (fault : FormatFault) → decoded rest ≡ Err fault → epoch ≡ noted floor o
  noting_stops fault is = sym (ap (noted_from epoch) (none_begins seeking.more rest fault is)) ∙ seeking.leads

  pub noting_ends : length rest ≤ 0 → epoch ≡ noted floor o
  noting_ends none = by rest none seeking.leads
    where
      by : (left : List ℕ) → length left ≤ 0 → noted_from epoch (records_of seeking.more left) ≡ noted floor o
          → epoch ≡ noted floor o
      by [] none leads = sym (ap (noted_from epoch) (no_bytes seeking.more)) ∙ leads
      by (byte ∷ left) none leads = absurd (omega (arith, none))

  pub noting_goes_on : (found : Redo × ℕ) → 0 < length rest → decoded rest ≡ Ok found → IsDecoded rest found
      → IsNoting floor o (noting epoch found.0) (drop found.1 rest)
  noting_goes_on found some is found_is =
      let split : OneMore seeking.more rest found = one_more seeking.more rest found some seeking.enough is found_is in
      record {
        more = split.fewer;
        enough = split.enough;
        leads = sym (ap (noted_from epoch) split.split) ∙ seeking.leads;
      }

-- what is behind a record is less
pub fewer_behind : (rest : List ℕ) (found : Redo × ℕ) → 0 < length rest → IsDecoded rest found
    → length (drop found.1 rest) < length rest
fewer_behind rest found some is = omega (arith, some, front_some rest found is, length-drop found.1 rest)
