-- Whether a node holds the records that bytes begin with, looked at one by one.
use Rattle.std.proofs.Common.{◌≡◌, ◌∙◌, ℕ, zero, suc, ◌-◌, ◌≤◌, ◌<◌, ◌&&◌, Bool, true, false, List, [], ◌∷◌, length, take, drop, refl, ap, sym, arith}
use Rattle.std.specs.Prelude.{Result, Ok, Err}
use Rattle.std.specs.List.{list_all}
use Rattle.std.proofs.lemmas.Bool.{and_from}
use Rattle.std.proofs.lemmas.List.{length-drop, take_all}
use Rattle.sig_core.specs.declared.redo.Redo.{Redo}
use Rattle.sig_core.specs.declared.slots.ControlSlot.{ControlSlot}
use Rattle.sig_core.specs.declared.view.Shape.{Shape}
use Rattle.redo_format.specs.Decoding.{IsDecoded, decoded}
use Rattle.redo_format.specs.declared.fault.FormatFault.{FormatFault}
use Rattle.redo_log.proofs.ReplayLemmas.{front_fewer}
use Rattle.redo_log.specs.Stored.{AreStored}
use Rattle.sys_restart.specs.Files.{Files}
use Rattle.sys_restart.specs.Held.{are_records_held, newest_in, records_of}
use Rattle.sys_restart.specs.Redone.{decode_on, records_in}
use Rattle.sys_restart.proofs.RedoneLemmas.{ends, log_is, none_in_none}

-- some records passed a test, and behind them the rest is left
pub record IsOnTheWay (test : Redo → Bool) (bytes rest : List ℕ) : Type 0 where
  pub newest : List Redo
  pub more : ℕ
  pub enough : length rest ≤ more
  pub split : newest_in bytes ≡ (records_in more newest rest).newest
  pub passed : list_all test newest ≡ true

pub begins : (test : Redo → Bool) (bytes : List ℕ) → IsOnTheWay test bytes bytes
begins test bytes =
    record { newest = []; more = length bytes; enough = omega arith; split = refl; passed = refl }

-- one more record
one_more : (newest : List Redo) (more : ℕ) (rest : List ℕ) (found : Redo × ℕ) → decoded rest ≡ Ok found
    → records_in (suc more) newest rest ≡ records_in more (found.0 ∷ newest) (drop found.1 rest)
unfolding records_in
one_more newest more rest found is = ap (decode_on (records_in more) newest rest) is

-- one that fails the test stays among them
stay_failed : (test : Redo → Bool) (more : ℕ) (newest : List Redo) (rest : List ℕ) → list_all test newest ≡ false
    → list_all test (records_in more newest rest).newest ≡ false
unfolding records_in
stay_failed test zero newest rest failed = failed
stay_failed test (suc more) newest rest failed =
    by (decoded rest) (λ (redo : Redo). stay_failed test more (redo ∷ newest))
  where
    and_false : (a b : Bool) → b ≡ false → (a && b) ≡ false
    and_false true b is = is
    and_false false b is = refl

    by : (found : Result (Redo × ℕ) FormatFault)
        → ((redo : Redo) (left : List ℕ) → list_all test (redo ∷ newest) ≡ false
        → list_all test (records_in more (redo ∷ newest) left).newest ≡ false)
        → list_all test (decode_on (records_in more) newest rest found).newest ≡ false
    by (Err fault) again = failed
    by (Ok found) again =
        again found.0 (drop found.1 rest) (and_false (test found.0) (list_all test newest) failed)

module _ (test : Redo → Bool) (bytes rest : List ℕ) (way : IsOnTheWay test bytes rest) where
  -- nothing is left, or no record
  pub all_passed : (fault : FormatFault) → decoded rest ≡ Err fault → list_all test (newest_in bytes) ≡ true
  all_passed fault none =
      ap (list_all test)
      (way.split ∙ ap (λ d. d.newest) (ends way.more way.newest rest fault none))
      ∙ way.passed

  module _ (found : Redo × ℕ) (is : IsDecoded rest found) (exact : decoded rest ≡ Ok found) (behind : List ℕ)
      (cut : behind ≡ take (length rest - found.1) (drop found.1 rest)) where
    fewer : length behind < length rest
    fewer = front_fewer rest found is behind cut

    -- all that is left
    split_on : (more : ℕ) → newest_in bytes ≡ (records_in (suc more) way.newest rest).newest
        → newest_in bytes ≡ (records_in more (found.0 ∷ way.newest) behind).newest
    split_on more split =
        split
        ∙ ap (λ d. d.newest) (one_more way.newest more rest found exact)
        ∙ ap (λ (left : List ℕ). (records_in more (found.0 ∷ way.newest) left).newest)
        (sym (cut
        ∙ take_all (length rest - found.1) (drop found.1 rest) (omega (arith, length-drop found.1 rest))))

    pub goes_on : test found.0 ≡ true → IsOnTheWay test bytes behind
    goes_on passes = by way.more way.enough way.split
      where
        by : (more : ℕ) → length rest ≤ more → newest_in bytes ≡ (records_in more way.newest rest).newest
            → IsOnTheWay test bytes behind
        by zero enough split = absurd (omega (arith, enough, fewer))
        by (suc more) enough split = record {
          newest = found.0 ∷ way.newest;
          more = more;
          enough = omega (arith, enough, fewer);
          split = split_on more split;
          passed = and_from (test found.0) (list_all test way.newest) passes way.passed;
        }

    pub stops : test found.0 ≡ false → list_all test (newest_in bytes) ≡ false
    stops fails = by way.more way.enough way.split
      where
        by : (more : ℕ) → length rest ≤ more → newest_in bytes ≡ (records_in more way.newest rest).newest
            → list_all test (newest_in bytes) ≡ false
        by zero enough split = absurd (omega (arith, enough, fewer))
        by (suc more) enough split =
            ap (list_all test) (split_on more split)
            ∙ stay_failed test more (found.0 ∷ way.newest) behind
            (ap (λ (b : Bool). b && list_all test way.newest) fails)

-- nothing is left
pub all_looked_at : (test : Redo → Bool) (bytes rest : List ℕ) → IsOnTheWay test bytes rest → length rest ≤ 0
    → list_all test (newest_in bytes) ≡ true
all_looked_at test bytes [] way none = all_passed test bytes [] way _ none_in_none
all_looked_at test bytes (byte ∷ rest) way none = absurd (omega (arith, none))

-- what was read of a disk is the redo of its slot
pub log_held : (shape : Shape) (node : ℕ) (files : Files) (slot : ControlSlot) (stored bytes : List ℕ) (held : Bool)
    → AreStored files slot.parity slot.redo_start (slot.redo_end - slot.redo_start) stored → bytes ≡ stored
    → held ≡ are_records_held shape node (newest_in bytes)
    → held ≡ are_records_held shape node (records_of files slot)
log_held shape node files slot stored bytes held are same is =
    is
    ∙ ap (λ (log : List ℕ). are_records_held shape node (newest_in log))
    (same ∙ sym (log_is files slot.parity slot.redo_start (slot.redo_end - slot.redo_start) stored are))
