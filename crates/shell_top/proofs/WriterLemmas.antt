-- One write after another.
use Rattle.std.proofs.Common.{◌≡◌, ℕ, List, [], ◌∷◌, ◌++◌, arith, length, take, drop, refl, ap, sym, ◌∙◌, append_assoc}
use Rattle.std.proofs.Common.{subst}
use Rattle.std.specs.Prelude.{Option, None, Some}
use Rattle.std.specs.Io.KnownBytes.{Appends, Keeps}
use Rattle.std.proofs.KnownBytes.{Appends-nil, Appends-trans}
use Rattle.std.proofs.lemmas.List.{append-nil, take-append-drop, take_at}
use Rattle.shell_top.specs.Printed.{AppendsPart}

-- the bytes were written but for the rest
pub record IsWriting (written written_now : Option (List ℕ)) (bytes rest : List ℕ) : Type 0 where
  pub done : List ℕ
  pub appended : Appends written written_now done
  pub whole : bytes ≡ done ++ rest

pub writing_starts : (written : Option (List ℕ)) (bytes : List ℕ) → IsWriting written written bytes bytes
writing_starts written bytes = record { done = []; appended = Appends-nil written; whole = refl }

pub writing_goes_on : (written mid now : Option (List ℕ)) (bytes rest : List ℕ) (count : ℕ)
    → IsWriting written mid bytes rest
    → Appends mid now (take count rest) → IsWriting written now bytes (drop count rest)
writing_goes_on written mid now bytes rest count is more = record {
  done = is.done ++ take count rest;
  appended = Appends-trans written mid now is.done (take count rest) is.appended more;
  whole = is.whole ∙ ap (λ xs. is.done ++ xs) (sym (take-append-drop count rest))
      ∙ sym (append_assoc is.done (take count rest) (drop count rest));
}

-- what was appended stays, where known bytes do
Appends-kept : (a b c : Option (List ℕ)) (bs : List ℕ) → Appends a b bs → Keeps b c → Appends a c bs
Appends-kept None b c bs p q = tt
Appends-kept (Some x) None c bs p q = absurd p
Appends-kept (Some x) (Some y) None bs p q = absurd q
Appends-kept (Some x) (Some y) (Some z) bs p q = q ∙ p

pub writing_fails : (written mid now : Option (List ℕ)) (bytes rest : List ℕ) → IsWriting written mid bytes rest
    → Keeps mid now → AppendsPart written now bytes
writing_fails written mid now bytes rest is kept = record {
  count = length is.done;
  appended = subst (λ xs. Appends written now xs)
      (sym (ap (take (length is.done)) is.whole ∙ take_at is.done rest (length is.done) refl))
      (Appends-kept written mid now is.done is.appended kept);
}

-- nothing is left to write
pub writing_ends : (written now : Option (List ℕ)) (bytes rest : List ℕ) → IsWriting written now bytes rest
    → length rest ≡ 0 → Appends written now bytes
writing_ends written now bytes [] is e =
    subst (λ xs. Appends written now xs) (sym (is.whole ∙ append-nil is.done)) is.appended
writing_ends written now bytes (x ∷ rest) is e = absurd (omega arith)

pub ruleset writing = (writing_starts, writing_goes_on, writing_fails, writing_ends)
