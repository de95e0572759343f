-- A checkpoint of rows is read as these rows, and a file that was written piece by piece begins with it.
use Rattle.std.proofs.Common.{◌≡◌, ◌∙◌, ℕ, zero, suc, ◌+◌, ◌-◌, ◌^◌, ◌≤◌, ◌<◌, Bool, true, false, cond, ◌&&◌, T, List, [], ◌∷◌, ◌++◌, length, map, take, drop, replicate, refl, ap, sym, arith, inl, inr, append_assoc, append-nil, length-append, Ordering, Less, Equal, Greater, if◌then◌else◌}
use Rattle.std.specs.Prelude.{Option, None, Some, Ok}
use Rattle.std.specs.Ordering.{eq_by_cmp, is_eq, is_lt, nat_cmp}
use Rattle.std.specs.Cmp.Lexicographic.{slice_cmp, nat_list_cmp_total}
use Rattle.std.specs.FinMap as finmap
use Rattle.std.specs.FinMap.Entries.{below_all, find, is_sorted}
use Rattle.std.specs.List.{AllByRecursion, flat_map}
use Rattle.std.proofs.lemmas.Bool.{cases_lt, true≢false}
use Rattle.std.proofs.lemmas.List.{drop_all, length-drop, length-take-le, take-append-drop, take-append-le, take_all, take_at}
use Rattle.host_io.specs.Call.{Call, Synced, Wrote}
use Rattle.host_io.specs.DiskState.{filled_up, laid, settled, state_of, written}
use Rattle.host_io.proofs.LaidLemmas.{laid_reaches}
use Rattle.host_io.proofs.StateLemmas.{same_number}
use Rattle.redo_log.specs.Stored.{files_of}
use Rattle.lcp_store.specs.Laws.{AreRowsOf, CheckpointsAreRead, IsWordOf, all_in}
use Rattle.lcp_store.specs.Reading.{rows_in}
use Rattle.lcp_store.specs.declared.row.Version.TheVariants.{Second}
use Rattle.sig_core.specs.Checkpoint.{head_bytes, row_bytes}
use Rattle.sig_core.specs.Table.{Rows}
use Rattle.sig_core.specs.declared.key.TheConstants.{KEY_BYTES}
use Rattle.sig_core.specs.declared.piece.TheConstants.{PIECE_BYTES}
use Rattle.sig_core.specs.declared.value.TheConstants.{VALUE_BYTES}
use Rattle.sysfile_core.proofs.RunLemmas.{done}
use Rattle.sys_restart.specs.Calls.{piece_calls, row_at, stored_rows}
use Rattle.sys_restart.specs.Prepared.{AreStorable}

abbrev in_order : List ℕ → List ℕ → Ordering
in_order = slice_cmp nat_cmp

abbrev Pairs : Type 0
Pairs = List (List ℕ × List ℕ)

tied : (o : Ordering) → is_eq o ≡ true → o ≡ Equal
tied Less is = absurd (true≢false (sym is))
tied Equal is = refl
tied Greater is = absurd (true≢false (sym is))

first_of : (a b : Bool) → T (a && b) → T a
first_of true b is = tt
first_of false b is = absurd is

second_of : (a b : Bool) → T (a && b) → T b
second_of true b is = is
second_of false b is = absurd is

is_less : (o : Ordering) → T (is_lt o) → is_eq o ≡ false
is_less Less is = refl
is_less Equal is = absurd is
is_less Greater is = absurd is

-- a key that ties with one below all isn't there
absent : (q x : List ℕ) (rows : Pairs) → eq_by_cmp in_order q x ≡ true → T (below_all in_order x rows)
    → find in_order q rows ≡ None
absent q x [] tie below = refl
absent q x (row ∷ rows) tie below =
    let same : in_order q row.0 ≡ in_order x row.0 = nat_list_cmp_total.congr q x row.0 (tied (in_order q x) tie) in
    let apart : eq_by_cmp in_order q row.0 ≡ false =
    ap is_eq same ∙ is_less (in_order x row.0) (first_of (is_lt (in_order x row.0)) (below_all in_order x rows) below)
    in
    ap (λ (b : Bool). cond b (Some row.1) (find in_order q rows)) apart
    ∙ absent q x rows tie (second_of (is_lt (in_order x row.0)) (below_all in_order x rows) below)

abbrev or_else : Option (List ℕ) → Option (List ℕ) → Option (List ℕ)
or_else (Some value) other = Some value
or_else None other = other

-- rows that are put one after the other
got : (epoch : ℕ) (rows : Pairs) (before : Rows) (q : List ℕ) → T (is_sorted in_order rows)
    → finmap.get (all_in before (map (row_at epoch) rows)) q ≡ or_else (find in_order q rows) (finmap.get before q)
got epoch [] before q sorted = refl
got epoch (row ∷ rows) before q sorted =
    let behind = second_of (below_all in_order row.0 rows) (is_sorted in_order rows) sorted in
    let below = first_of (below_all in_order row.0 rows) (is_sorted in_order rows) sorted in
    got epoch rows (finmap.insert before row.0 row.1) q behind
    ∙ ap (or_else (find in_order q rows)) (finmap.get-insert nat_list_cmp_total before row.0 row.1 q)
    ∙ by (eq_by_cmp in_order q row.0) refl (λ tie. absent q row.0 rows tie below)
  where
    by : (tie : Bool) → eq_by_cmp in_order q row.0 ≡ tie
        → (eq_by_cmp in_order q row.0 ≡ true → find in_order q rows ≡ None)
        → or_else (find in_order q rows) (cond (eq_by_cmp in_order q row.0) (Some row.1) (finmap.get before q))
        ≡ or_else (cond (eq_by_cmp in_order q row.0) (Some row.1) (find in_order q rows)) (finmap.get before q)
    by true e none =
        ap
        (λ (b : Bool). or_else (find in_order q rows) (cond b (Some row.1) (finmap.get before q))) e
        ∙ ap (λ found. or_else found (Some row.1)) (none e)
        ∙ sym (ap (λ (b : Bool). or_else (cond b (Some row.1) (find in_order q rows)) (finmap.get before q)) e)
    by false e none =
        ap
        (λ (b : Bool). or_else (find in_order q rows) (cond b (Some row.1) (finmap.get before q))) e
        ∙ sym (ap (λ (b : Bool). or_else (cond b (Some row.1) (find in_order q rows)) (finmap.get before q)) e)

or_none : (found other : Option (List ℕ)) → other ≡ None → or_else found other ≡ found
or_none (Some value) other none = refl
or_none None other none = none

pub all_back : (epoch : ℕ) (rows : Rows) → all_in finmap.empty (stored_rows epoch rows) ≡ rows
all_back epoch rows =
    finmap.same_map nat_list_cmp_total (finmap.slice_cmp-IsAntisymmetric finmap.nat_cmp-IsAntisymmetric) _ _
    (λ q.
    got epoch (finmap.entries rows) finmap.empty q (finmap.entries_sorted rows)
    ∙ or_none (find in_order q (finmap.entries rows)) (finmap.get finmap.empty q) (finmap.get-empty in_order q)
    ∙ sym (finmap.get-entries rows q))

storable : (epoch : ℕ) (rows : Pairs)
    → AllByRecursion (λ row. IsWordOf 1 KEY_BYTES row.0 × IsWordOf 0 VALUE_BYTES row.1) rows
    → AreRowsOf Second epoch (map (row_at epoch) rows)
storable epoch [] are = tt
storable epoch (row ∷ rows) are =
    (record { key = are.0.0; epoch = omega arith; value = are.0.1 }, storable epoch rows are.1)

-- the checkpoint is read as the rows
pub read_again : CheckpointsAreRead → (file epoch : ℕ) (rows : Rows) → epoch < 2 ^ 64 → AreStorable rows
    → rows_in file epoch (head_bytes ++ flat_map row_bytes (stored_rows epoch rows)) ≡ Ok rows
read_again law file epoch rows small are =
    (law file epoch (stored_rows epoch rows) small).1 (storable epoch (finmap.entries rows) are)
    ∙ ap Ok (all_back epoch rows)

-- the front of a file after a piece was laid down
laid_front : (at : ℕ) (piece old : List ℕ) → at ≤ length old
    → take (at + length piece) (laid at piece old) ≡ take at old ++ piece
laid_front at [] old within = ap (λ (n : ℕ). take n old) (omega arith) ∙ sym (append-nil (take at old))
laid_front at (byte ∷ bytes) old within =
    let piece = byte ∷ bytes in
    let last = at + length piece in
    let full = filled_up last old in
    let front : take at full ≡ take at old = take-append-le at old (replicate (last - length old) 0) within in
    let long : length (take at full) ≡ at = ap length front ∙ length-take-le at old within in
    take_at (take at full ++ piece) (drop last full) last
    (length-append (take at full) piece ∙ ap (λ n. n + length piece) long)
    ∙ ap (λ (w : List ℕ). w ++ piece) front

laid_long : (at : ℕ) (piece old : List ℕ) → at ≤ length old → at + length piece ≤ length (laid at piece old)
laid_long at [] old within = omega (arith, within)
laid_long at (byte ∷ bytes) old within = laid_reaches at (byte ∷ bytes) old (omega arith)

after_wrote : (file at : ℕ) (bytes : List ℕ) (calls : List Call)
    → files_of (Wrote file at bytes ∷ calls) file ≡ laid at bytes (files_of calls file)
after_wrote file at bytes calls =
    ap (λ (b : Bool). (if b then written (state_of calls file) at (length bytes) bytes else state_of calls file).bytes)
    (same_number file)

pub after_synced : (file : ℕ) (calls : List Call) → files_of (Synced file ∷ calls) file ≡ files_of calls file
after_synced file calls =
    ap (λ (b : Bool). (if b then settled (state_of calls file).bytes else state_of calls file).bytes) (same_number file)

no_more : (more file at : ℕ) (bytes : List ℕ) (calls : List Call) → bytes ≡ []
    → done (piece_calls more file at bytes) calls ≡ calls
unfolding piece_calls
no_more zero file at bytes calls none = refl
no_more (suc more) file at [] calls none = refl
no_more (suc more) file at (byte ∷ bytes) calls none = absurd cc

-- the front of a file after pieces were written
pub pieces_front : (more file at : ℕ) (bytes : List ℕ) (calls : List Call) → length bytes ≤ more
    → at ≤ length (files_of calls file)
    → take (at + length bytes) (files_of (done (piece_calls more file at bytes) calls) file)
    ≡ take at (files_of calls file) ++ bytes
unfolding piece_calls
pieces_front zero file at [] calls few within =
    ap (λ (n : ℕ). take n (files_of calls file)) (omega arith) ∙ sym (append-nil (take at (files_of calls file)))
pieces_front zero file at (byte ∷ bytes) calls few within = absurd (omega (arith, few))
pieces_front (suc more) file at [] calls few within =
    ap (λ (n : ℕ). take n (files_of calls file)) (omega arith) ∙ sym (append-nil (take at (files_of calls file)))
pieces_front (suc more) file at (byte ∷ bytes) calls few within =
    elim (cases_lt (length all) PIECE_BYTES) [
      | inl last ↦ at_last (omega (arith, last))
      | inr many ↦
          on many
          (pieces_front more file (at + PIECE_BYTES) (drop PIECE_BYTES (byte ∷ bytes))
          (Wrote file at (take PIECE_BYTES (byte ∷ bytes)) ∷ calls))
    ]
  where
    all : List ℕ
    all = byte ∷ bytes

    old : List ℕ
    old = files_of calls file

    piece : List ℕ
    piece = take PIECE_BYTES all

    rest : List ℕ
    rest = drop PIECE_BYTES all

    next : List Call
    next = Wrote file at piece ∷ calls

    read : files_of next file ≡ laid at piece old
    read = after_wrote file at piece calls

    at_last : length all ≤ PIECE_BYTES
        → take (at + length all) (files_of (done (piece_calls more file (at + PIECE_BYTES) rest) next) file)
        ≡ take at old ++ all
    at_last short =
        let whole : piece ≡ all = take_all PIECE_BYTES all short in
        ap (λ (made : List Call). take (at + length all) (files_of made file))
        (no_more more file (at + PIECE_BYTES) rest next (drop_all PIECE_BYTES all short))
        ∙ ap (take (at + length all)) (read ∙ ap (λ (w : List ℕ). laid at w old) whole)
        ∙ laid_front at all old within

    on : PIECE_BYTES ≤ length all
        → (length rest ≤ more → at + PIECE_BYTES ≤ length (files_of next file)
        → take (at + PIECE_BYTES + length rest)
        (files_of (done (piece_calls more file (at + PIECE_BYTES) rest) next) file)
        ≡ take (at + PIECE_BYTES) (files_of next file) ++ rest)
        → take (at + length all) (files_of (done (piece_calls more file (at + PIECE_BYTES) rest) next) file)
        ≡ take at old ++ all
    on many again =
        let size : length piece ≡ PIECE_BYTES = length-take-le PIECE_BYTES all many in
        let sizes : at + length all ≡ at + PIECE_BYTES + length rest =
        omega (arith, many, length-drop PIECE_BYTES all) in
        let long : at + PIECE_BYTES ≤ length (files_of next file) =
        omega (arith, size, laid_long at piece old within, ap length read) in
        let front : take (at + PIECE_BYTES) (files_of next file) ≡ take at old ++ piece =
        ap (λ (n : ℕ). take (at + n) (files_of next file)) (sym size)
        ∙ ap (take (at + length piece)) read ∙ laid_front at piece old within in
        ap (λ (n : ℕ). take n (files_of (done (piece_calls more file (at + PIECE_BYTES) rest) next) file)) sizes
        ∙ again (omega (arith, few, length-drop PIECE_BYTES all)) long
        ∙ ap (λ (w : List ℕ). w ++ rest) front
        ∙ append_assoc (take at old) piece rest
        ∙ ap (λ (w : List ℕ). take at old ++ w) (take-append-drop PIECE_BYTES all)
