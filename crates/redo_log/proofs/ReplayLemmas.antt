-- Replaying record by record.
use Rattle.std.proofs.Common.{◌≡◌, ◌≤◌, ◌<◌, ◌+◌, ◌-◌, ℕ, cond, List, [], ◌∷◌, ◌++◌, length, take, drop, refl, sym, ap}
use Rattle.std.proofs.Common.{subst, ◌∙◌, append_assoc, arith}
use Rattle.std.specs.Prelude.{Option, Result, Ok, Err}
use Rattle.std.proofs.lemmas.List.{length-append, length-drop, length-take, take-append-drop}
use Rattle.sig_core.specs.declared.redo.Redo.{Redo}
use Rattle.sig_core.specs.declared.redo.Redo.TheVariants.{Prepare, Commit, Abort}
use Rattle.sig_core.specs.Table.{Rows}
use Rattle.redo_format.specs.declared.fault.FormatFault.TheVariants.{NotRecord}
use Rattle.sig_core.specs.Redo.{bytes_of}
use Rattle.redo_format.specs.Records.{IsRecord}
use Rattle.redo_format.specs.Decoding.{IsDecoded, decoded, from_read}
use Rattle.redo_format.specs.Reading.{record_at}
use Rattle.sig_core.specs.declared.fault.ReadFault.{ReadFault}
use Rattle.redo_log.specs.declared.image_id.ImageId.{ImageId}
use Rattle.redo_log.specs.Replaying.{Images, IsReplayed, Replays, applied, damage, id_of, image_at, image_of, log_bytes}
use Rattle.redo_log.specs.Replaying.{prepared_by, same_id}

pub some_bytes : (redo : Redo) → 1 ≤ length (bytes_of redo)
unfolding bytes_of
some_bytes (Prepare tx fragment key image) = omega arith
some_bytes (Commit tx epoch key) = omega arith
some_bytes (Abort tx key) = omega arith

pub front_fits : (bytes : List ℕ) (found : Redo × ℕ) → IsDecoded bytes found → found.1 ≤ length bytes
front_fits bytes found is =
    let len : length (take found.1 bytes) ≡ found.1 = ap length is.front ∙ sym is.len in
    omega (arith, length-take found.1 bytes, len)

pub front_some : (bytes : List ℕ) (found : Redo × ℕ) → IsDecoded bytes found → 1 ≤ found.1
front_some bytes found is = omega (arith, is.len, some_bytes found.0)

pub front_split : (bytes : List ℕ) (found : Redo × ℕ) → IsDecoded bytes found
    → bytes ≡ bytes_of found.0 ++ drop found.1 bytes
front_split bytes found is =
    sym (take-append-drop found.1 bytes) ∙ ap (λ (w : List ℕ). w ++ drop found.1 bytes) is.front

pub front_fewer : (bytes : List ℕ) (found : Redo × ℕ) → IsDecoded bytes found → (rest : List ℕ)
    → rest ≡ take (length bytes - found.1) (drop found.1 bytes) → length rest < length bytes
front_fewer bytes found is rest same =
    let some : 1 ≤ found.1 = front_some bytes found is in
    let fits : found.1 ≤ length bytes = front_fits bytes found is in
    let len : length rest ≡ length (take (length bytes - found.1) (drop found.1 bytes)) = ap length same in
    omega (arith, some, fits, len, length-take (length bytes - found.1) (drop found.1 bytes), length-drop found.1 bytes)

fault_by : (bytes : List ℕ) (read : Result (Redo × List ℕ) ℕ) (at : ℕ) → Err (NotRecord at) ≡ from_read bytes read
    → at ≤ length bytes
fault_by bytes (Ok x) at e = absurd cc
fault_by bytes (Err left) at e = let is : at ≡ length bytes - left = cc in omega (arith, is)

pub fault_within : (bytes : List ℕ) (at : ℕ) → Err (NotRecord at) ≡ decoded bytes → at ≤ length bytes
fault_within bytes at e = fault_by bytes (record_at bytes) at e

-- some records were replayed, and these images are prepared behind them
pub record IsOnTheWay (epoch : ℕ) (before : Rows) (bytes : List ℕ) (rows : Rows) (images : Images) (rest : List ℕ)
    : Type 0 where
  pub newest : List Redo
  pub done : IsReplayed epoch before bytes rows newest rest
  pub prepared : (q : ImageId) → image_at images q ≡ image_of newest q

pub begins : (epoch : ℕ) (before : Rows) (bytes : List ℕ) (images : Images) → images ≡ []
    → IsOnTheWay epoch before bytes before images bytes
begins epoch before bytes images none =
    record {
      newest = [];
      done = record { are = tt; split = refl; made = refl };
      prepared = λ q. ap (λ (w : Images). image_at w q) none;
    }

pub goes_on : (epoch : ℕ) (before : Rows) (bytes : List ℕ) (rows : Rows) (images : Images) (rest : List ℕ) (redo : Redo)
    (more_rows : Rows) (more : Images) (less : List ℕ)
    → IsOnTheWay epoch before bytes rows images rest → IsRecord redo → rest ≡ bytes_of redo ++ less
    → more_rows ≡ applied epoch redo (image_at images (id_of redo)) rows
    → ((q : ImageId) → image_at more q ≡ cond (same_id (id_of redo) q) (prepared_by redo) (image_at images q))
    → IsOnTheWay epoch before bytes more_rows more less
goes_on epoch before bytes rows images rest redo more_rows more less way is split rows_is images_are =
    let newest : List Redo = way.newest in
    record {
      newest = redo ∷ newest;
      done = record {
        are = (is, way.done.are);
        split = way.done.split ∙ ap (λ (w : List ℕ). log_bytes newest ++ w) split
            ∙ sym (append_assoc (log_bytes newest) (bytes_of redo) less);
        made = rows_is ∙ ap (λ (found : Option (Option (List ℕ))). applied epoch redo found rows)
            (way.prepared (id_of redo))
            ∙ ap (λ (w : Rows). applied epoch redo (image_of newest (id_of redo)) w) way.done.made;
      };
      prepared = λ q. images_are q ∙ ap (λ (found : Option (Option (List ℕ))). cond (same_id (id_of redo) q)
          (prepared_by redo) found) (way.prepared q);
    }

pub shorter : (epoch : ℕ) (before : Rows) (bytes : List ℕ) (rows : Rows) (images : Images) (rest : List ℕ)
    → IsOnTheWay epoch before bytes rows images rest → length rest ≤ length bytes
shorter epoch before bytes rows images rest way =
    omega (arith, ap length way.done.split, length-append (log_bytes way.newest) rest)

pub ends : (epoch : ℕ) (before : Rows) (parity from : ℕ) (bytes : List ℕ) (rows : Rows) (images : Images)
    (rest : List ℕ)
    → IsOnTheWay epoch before bytes rows images rest → length rest ≤ 0
    → Replays epoch before parity from bytes rows (Ok tt)
ends epoch before parity from bytes rows images [] way none = (way.newest, way.done)
ends epoch before parity from bytes rows images (byte ∷ rest) way none = absurd (omega (arith, none))

pub stops : (epoch : ℕ) (before : Rows) (parity from : ℕ) (bytes : List ℕ) (rows : Rows) (images : Images)
    (rest : List ℕ) (at : ℕ)
    (fault : ReadFault)
    → IsOnTheWay epoch before bytes rows images rest → 0 < length rest → decoded rest ≡ Err (NotRecord at)
    → fault ≡ damage parity from bytes (length bytes - length rest + at)
    → Replays epoch before parity from bytes rows (Err fault)
stops epoch before parity from bytes rows images rest at fault way some none named =
    let place : ℕ = length bytes - length rest + at in
    subst (λ (f : ReadFault). Replays epoch before parity from bytes rows (Err f)) (sym named)
    (way.newest, (rest, (at, (way.done, record { some = some; none = none; named = refl }))))

pub ruleset replays = (stops, ends)

pub ruleset fronts = (front_fits, front_some, front_split, fault_within)
