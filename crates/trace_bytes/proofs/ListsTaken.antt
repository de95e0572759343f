-- What is read of lists is what is written.
use Rattle.std.proofs.Common.{◌≡◌, ℕ, zero, suc, ◌≤◌, ◌<◌, ◌^◌, List, [], ◌∷◌, ◌++◌, length, refl, ap, sym, subst, ◌∙◌}
use Rattle.std.proofs.Common.{append_assoc, append-nil, arith}
use Rattle.std.specs.Prelude.{Result, Ok, flat_map}
use Rattle.std.specs.Int.{w64, to_be_bytes}
use Rattle.redo_format.specs.Reading.{and_then, told, byte_at}
use Rattle.redo_format.proofs.Readers.{IsBytes, bind_ok, reads_byte, reads_number, eight_bytes, rest_bytes}
use Rattle.trace_bytes.specs.Numbers.{u64_bytes, u64_at}
use Rattle.trace_bytes.specs.Lists.{All, AreItems, list_bytes, more_at, list_at, zeros_at, few_at, short_list_at}
use Rattle.trace_bytes.proofs.Taken.{Takes, behind, ok_is}
use Rattle.trace_bytes.proofs.ListsAgain.{small_bytes}

-- the items behind those that were read
more_taken : {A : Type 0} {Is : A → Type 0} {spelled : A → List ℕ} {item : List ℕ → Result (A × List ℕ) ℕ}
    → Takes Is spelled item → (read : List A) (count : ℕ) (bytes : List ℕ) (x : List A × List ℕ) → IsBytes bytes
    → more_at item read count bytes ≡ Ok x
    → (items : List A) × (x.0 ≡ read ++ items) × (length items ≡ count) × All Is items
    × (bytes ≡ flat_map spelled items ++ x.1)
unfolding more_at
more_taken one read zero bytes x are e =
    let same = ok_is (read, bytes) x e in
    ([], ap (λ z. z.0) (sym same) ∙ sym (append-nil read), refl, tt, ap (λ z. z.1) same)
more_taken {spelled = spelled} {item = item} one read (suc count) bytes x are e =
    let first = bind_ok (item bytes) (λ y. more_at item (read ++ y.0 ∷ []) count y.1) x e in
    let a = one.takes bytes first.0 are first.1 in
    let rest : IsBytes first.0.1 = rest_bytes (spelled first.0.0) first.0.1 (subst IsBytes a.1 are) in
    let more = more_taken one (read ++ first.0.0 ∷ []) count first.0.1 x rest first.2 in (
      first.0.0 ∷ more.0,
      more.1 ∙ append_assoc read (first.0.0 ∷ []) more.0,
      ap suc more.2,
      (a.0, more.3),
      a.1 ∙ ap (λ (w : List ℕ). spelled first.0.0 ++ w) more.4
          ∙ sym (append_assoc (spelled first.0.0) (flat_map spelled more.0) x.1),
    )

-- behind the count of the items they stand, all of them
counted : {A : Type 0} {Is : A → Type 0} {spelled : A → List ℕ} {item : List ℕ → Result (A × List ℕ) ℕ}
    (Few : ℕ → Type 0)
    → Takes Is spelled item → (bytes : List ℕ) (n : ℕ × List ℕ) (x : List A × List ℕ) → IsBytes bytes → Few n.0
    → bytes ≡ u64_bytes n.0 ++ n.1 → more_at item [] n.0 n.1 ≡ Ok x
    → (Few (length x.0) × All Is x.0) × (bytes ≡ list_bytes spelled x.0 ++ x.1)
unfolding list_bytes
counted {A = A} {Is = Is} {spelled = spelled} Few one bytes n x are few front e =
    let rest : IsBytes n.1 = rest_bytes (u64_bytes n.0) n.1 (subst IsBytes front are) in
    let more = more_taken one [] n.0 n.1 x rest e in
    let all : bytes ≡ (u64_bytes (length more.0) ++ flat_map spelled more.0) ++ x.1 =
    front ∙ ap (λ (w : List ℕ). u64_bytes n.0 ++ w) more.4
    ∙ sym (append_assoc (u64_bytes n.0) (flat_map spelled more.0) x.1)
    ∙ ap (λ (k : ℕ). (u64_bytes k ++ flat_map spelled more.0) ++ x.1) (sym more.2) in
    subst (λ (xs : List A). (Few (length xs) × All Is xs) × (bytes ≡ (u64_bytes (length xs) ++ flat_map spelled xs) ++
    x.1))
    (sym more.1) ((subst Few (sym more.2) few, more.3), all)

pub takes_list : {A : Type 0} {Is : A → Type 0} {spelled : A → List ℕ} {item : List ℕ → Result (A × List ℕ) ℕ}
    → Takes Is spelled item → Takes (AreItems Is) (list_bytes spelled) (list_at item)
unfolding list_at u64_bytes
takes_list {item = item} one = record {
  takes = λ bytes x are e.
      let found = behind u64_at (more_at item []) bytes x e in
      let front = (reads_number w64 (2 ^ 64) eight_bytes).takes bytes found.0 are found.1 in
      counted (λ n. n < 2 ^ 64) one bytes found.0 x are front.0 front.1 found.2;
}

-- ---- short lists

abbrev zeros : ℕ → List ℕ
zeros zero = []
zeros (suc n) = 0 ∷ zeros n

zeros_taken : (count : ℕ) (bytes : List ℕ) (x : ℕ × List ℕ) → IsBytes bytes → zeros_at count bytes ≡ Ok x
    → bytes ≡ zeros count ++ x.1
unfolding zeros_at
zeros_taken zero bytes x are e = ap (λ z. z.1) (ok_is (0, bytes) x e)
zeros_taken (suc count) bytes x are e =
    let found = behind (byte_at 0 0) (λ _. zeros_at count) bytes x e in
    let a = (reads_byte 0 0).takes bytes found.0 are found.1 in
    let rest : IsBytes found.0.1 = rest_bytes (found.0.0 ∷ []) found.0.1 (subst IsBytes a.1 are) in
    let none : found.0.0 ≡ 0 = omega (arith, a.0.1) in
    a.1 ∙ ap (λ (n : ℕ). (n ∷ []) ++ found.0.1) none
    ∙ ap (λ (w : List ℕ). 0 ∷ w) (zeros_taken count found.0.1 x rest found.2)

few_taken : (most : ℕ) (bytes : List ℕ) (x : ℕ × List ℕ) → most < 256 → IsBytes bytes → few_at most bytes ≡ Ok x
    → (x.0 ≤ most) × (bytes ≡ u64_bytes x.0 ++ x.1)
unfolding few_at u64_bytes
few_taken most bytes x small are e =
    let found = behind (zeros_at 7) (λ _. byte_at 0 most) bytes x e in
    let front = zeros_taken 7 bytes found.0 are found.1 in
    let rest : IsBytes found.0.1 = rest_bytes (zeros 7) found.0.1 (subst IsBytes front are) in
    let a = (reads_byte 0 most).takes found.0.1 x rest found.2 in (
      a.0.1,
      front ∙ ap (λ (w : List ℕ). zeros 7 ++ w) a.1
          ∙ ap (λ (w : List ℕ). w ++ x.1) (sym (small_bytes x.0 (omega (arith, small, a.0.1)))),
    )

pub takes_short_list : {A : Type 0} {Is : A → Type 0} {spelled : A → List ℕ} {item : List ℕ → Result (A × List ℕ) ℕ}
    (most : ℕ) → most < 256
    → Takes Is spelled item
    → Takes (λ items. (length items ≤ most) × All Is items) (list_bytes spelled) (short_list_at most item)
unfolding short_list_at
takes_short_list {item = item} most small one = record {
  takes = λ bytes x are e.
      let found = behind (few_at most) (more_at item []) bytes x e in
      let front = few_taken most bytes found.0 small are found.1 in
      counted (λ n. n ≤ most) one bytes found.0 x are front.0 front.1 found.2;
}
