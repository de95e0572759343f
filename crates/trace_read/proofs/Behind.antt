-- What is read behind a kind is what is read with it.
use Rattle.std.proofs.Common.{◌≡◌, ℕ, List, sym, subst}
use Rattle.std.specs.Prelude.{Result, Ok}
use Rattle.redo_format.specs.Reading.{and_then, told, byte_at}
use Rattle.trace_bytes.proofs.ListForms.{behind_kind}
use Rattle.trace_read.specs.declared.stop.Stop.{Stop}
use Rattle.trace_read.specs.Reading.{Gives, GivesOrWants}

pub kind_read : {A : Type 0} (least most : ℕ) (of : ℕ → List ℕ → Result (A × List ℕ) ℕ) (bytes rest : List ℕ)
    (kind : ℕ) (result : Result A ℕ) (left : List ℕ)
    → byte_at least most bytes ≡ Ok (kind, rest) → Gives result left (of kind rest)
    → Gives result left (told (λ x. x.1) (and_then (byte_at least most) of) bytes)
kind_read least most of bytes rest kind result left e is =
    subst (Gives result left) (sym (behind_kind least most of bytes rest kind e)) is

pub kind_read_or_wants : {A : Type 0} (least most : ℕ) (of : ℕ → List ℕ → Result (A × List ℕ) ℕ)
    (bytes rest : List ℕ) (kind : ℕ) (result : Result A Stop) (left : List ℕ)
    → byte_at least most bytes ≡ Ok (kind, rest) → GivesOrWants result left (of kind rest)
    → GivesOrWants result left (told (λ x. x.1) (and_then (byte_at least most) of) bytes)
kind_read_or_wants least most of bytes rest kind result left e is =
    subst (GivesOrWants result left) (sym (behind_kind least most of bytes rest kind e)) is
