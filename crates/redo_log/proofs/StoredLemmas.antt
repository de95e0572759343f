-- Reading a log piece by piece, and what replaying it answers.
use Rattle.std.proofs.Common.{◌≡◌, ◌∙◌, ◌≤◌, ◌<◌, ◌+◌, ◌-◌, ◌/◌, ℕ, List, length, take, drop, get_or, refl, sym, ap}
use Rattle.std.proofs.Common.{subst, inl, inr, arith}
use Rattle.std.specs.Prelude.{Ok, Err}
use Rattle.std.proofs.lemmas.Bool.{cases_lt}
use Rattle.std.proofs.lemmas.List.{get_or-append_right, get_or_append_left, get_or-drop, get_or-take, length-append}
use Rattle.std.proofs.lemmas.List.{length-drop, length-take}
use Rattle.sig_core.specs.Table.{Rows}
use Rattle.sig_core.specs.declared.fault.ReadFault.{ReadFault}
use Rattle.sig_core.specs.declared.fault.ReadFault.TheVariants.{Damaged, DiskFault, NoMemory}
use Rattle.sig_core.specs.declared.ring.TheConstants.{LOG_FILE_BYTES}
use Rattle.sig_core.specs.Ring.{file_of, place_of}
use Rattle.redo_log.specs.Replaying.{Replays, damage}
use Rattle.redo_log.specs.Stored.{AreStored, EachIsStored, IsPiece, IsStored, ReplaysStored}

-- positions in one file have places one behind the other
pub near_place : (at more : ℕ) → place_of at + more < LOG_FILE_BYTES → place_of (at + more) ≡ place_of at + more
near_place at more near = omega (arith, near)

pub near_file : (parity at more : ℕ) → place_of at + more < LOG_FILE_BYTES
    → file_of parity (at + more) ≡ file_of parity at
near_file parity at more near =
    let same : (at + more) / LOG_FILE_BYTES ≡ at / LOG_FILE_BYTES = omega (arith, near) in
    omega (arith, same)

-- a byte that stands at the place of a position
pub stands : (files : ℕ → List ℕ) (parity position byte number place : ℕ) → file_of parity position ≡ number
    → place_of position ≡ place → place < length (files number) → byte ≡ get_or (files number) place 0
    → IsStored files parity position byte
stands files parity position byte number place file_is place_is there same =
    record {
      there = subst (λ (n : ℕ). place_of position < length (files n)) (sym file_is)
          (subst (λ (p : ℕ). p < length (files number)) (sym place_is) there);
      same = subst (λ (n : ℕ). byte ≡ get_or (files n) (place_of position) 0) (sym file_is)
          (subst (λ (p : ℕ). byte ≡ get_or (files number) p 0) (sym place_is) same);
    }

-- how many bytes a piece adds
pub piece_size : (file : List ℕ) (place len : ℕ) (old new : List ℕ) (count : ℕ) → IsPiece file place len old new count
    → length new ≡ length old + count
piece_size file place len old new count is =
    ap length is.added ∙ length-append old (take count (drop place file))
    ∙ omega (arith, length-take count (drop place file), length-drop place file, is.most)

-- a piece's own bytes stand at their places
added_stored : (files : ℕ → List ℕ) (parity at more : ℕ) (old new : List ℕ) (len count : ℕ)
    → place_of at + len ≤ LOG_FILE_BYTES → IsPiece (files (file_of parity at)) (place_of at) len old new count
    → more < count
    → IsStored files parity (at + more) (get_or new (length old + more) 0)
added_stored files parity at more old new len count within is below =
    let file : List ℕ = files (file_of parity at) in
    let part : List ℕ = take count (drop (place_of at) file) in
    let near : place_of at + more < LOG_FILE_BYTES = omega (arith, within, is.most, below) in
    let there : place_of at + more < length file = omega (arith, is.most, below) in
    let less : length old + more - length old ≡ more = omega arith in
    stands files parity (at + more) (get_or new (length old + more) 0) (file_of parity at) (place_of at + more)
    (near_file parity at more near) (near_place at more near) there
    (ap (λ xs. get_or xs (length old + more) 0) is.added
    ∙ get_or-append_right old part (length old) (length old + more) 0 refl (omega arith)
    ∙ ap (λ (n : ℕ). get_or part n 0) less
    ∙ get_or-take count (drop (place_of at) file) more 0 below
    ∙ get_or-drop (place_of at) file more 0)

-- one more piece is read
pub more_stored : (files : ℕ → List ℕ) (parity from at : ℕ) (old new : List ℕ) (len count : ℕ) → from + length old ≡ at
    → place_of at + len ≤ LOG_FILE_BYTES → IsPiece (files (file_of parity at)) (place_of at) len old new count
    → EachIsStored files parity from old → EachIsStored files parity from new
more_stored files parity from at old new len count here within is each behind below =
    let part : List ℕ = take count (drop (place_of at) (files (file_of parity at))) in
    elim (cases_lt behind (length old)) [
      | inl before ↦
          let same : get_or old behind 0 ≡ get_or new behind 0 =
          sym (ap (λ xs. get_or xs behind 0) is.added ∙ get_or_append_left old part 0 behind before) in
          subst (λ (b : ℕ). IsStored files parity (from + behind) b) same (each behind before)
      | inr later ↦
          let more : ℕ = behind - length old in
          let size = piece_size (files (file_of parity at)) (place_of at) len old new count is in
          let index : length old + more ≡ behind = omega (arith, later) in
          let position : at + more ≡ from + behind = omega (arith, here, later) in
          subst (λ (p : ℕ). IsStored files parity p (get_or new behind 0)) position
          (subst (λ (i : ℕ). IsStored files parity (at + more) (get_or new i 0)) index
          (added_stored files parity at more old new len count within is (omega (arith, size, later, below))))
    ]

-- the file of a piece ended within it
pub short_stored : (files : ℕ → List ℕ) (parity from at to : ℕ) (old new : List ℕ) (len count : ℕ)
    → from + length old ≡ at → at + len ≤ to → place_of at + len ≤ LOG_FILE_BYTES
    → IsPiece (files (file_of parity at)) (place_of at) len old new count → count < len
    → EachIsStored files parity from old → AreStored files parity from (to - from) new
short_stored files parity from at to old new len count here last within is short each =
    let size = piece_size (files (file_of parity at)) (place_of at) len old new count is in
    let near : place_of at + count < LOG_FILE_BYTES = omega (arith, within, short) in
    let position : from + length new ≡ at + count = omega (arith, size, here) in
    let ended : length (files (file_of parity at)) ≤ place_of at + count = omega (arith, is.most, short) in
    record {
      each = more_stored files parity from at old new len count here within is each;
      most = omega (arith, size, here, last, short);
      all = λ fewer.
          subst (λ (p : ℕ). length (files (file_of parity p)) ≤ place_of p) (sym position)
          (subst (λ (n : ℕ). length (files n) ≤ place_of (at + count)) (sym (near_file parity at count near))
          (subst (λ (p : ℕ). length (files (file_of parity at)) ≤ p) (sym (near_place at count near)) ended));
    }

-- what replaying answers where the bytes that were read aren't records
pub stops_stored : (epoch : ℕ) (before : Rows) (files : ℕ → List ℕ) (parity from count : ℕ) (rows : Rows)
    (bytes read : List ℕ)
    (fault : ReadFault) → AreStored files parity from count bytes → read ≡ bytes
    → Replays epoch before parity from read rows (Err fault)
    → ReplaysStored epoch before files parity from count rows (Err fault)
stops_stored epoch before files parity from count rows bytes read NoMemory stored same is = tt
stops_stored epoch before files parity from count rows bytes read (DiskFault faults) stored same is = tt
stops_stored epoch before files parity from count rows bytes read (Damaged file at byte) stored same is = (
  bytes,
  (
    stored,
    inl
        (subst (λ (w : List ℕ). Replays epoch before parity from w rows (Err (Damaged file at byte))) same is),
  ),
)

-- what it answers where all of them are, and there are too few, or enough
pub short_replays : (epoch : ℕ) (before : Rows) (files : ℕ → List ℕ) (parity from count : ℕ) (rows : Rows)
    (bytes : List ℕ)
    (fault : ReadFault) → AreStored files parity from count bytes → Replays epoch before parity from bytes rows (Ok tt)
    → length bytes < count → fault ≡ damage parity from bytes (length bytes)
    → ReplaysStored epoch before files parity from count rows (Err fault)
short_replays epoch before files parity from count rows bytes fault stored is short named =
    subst (λ (f : ReadFault). ReplaysStored epoch before files parity from count rows (Err f)) (sym named)
    (bytes, (stored, inr (short, refl, is)))

pub whole_replays : (epoch : ℕ) (before : Rows) (files : ℕ → List ℕ) (parity from count : ℕ) (rows : Rows)
    (bytes : List ℕ)
    → AreStored files parity from count bytes → Replays epoch before parity from bytes rows (Ok tt)
    → count ≤ length bytes
    → ReplaysStored epoch before files parity from count rows (Ok tt)
whole_replays epoch before files parity from count rows bytes stored is enough =
    (bytes, (stored, omega (arith, stored.most, enough), is))
