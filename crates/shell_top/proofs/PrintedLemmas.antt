-- What is printed, text behind text.
use Rattle.std.proofs.Common.{◌≡◌, ℕ, List, [], ◌++◌, length, take, drop, Bool, true, false, refl, ap, sym, subst, ◌∙◌}
use Rattle.std.proofs.Common.{append_assoc, arith}
use Rattle.std.specs.Prelude.{Option}
use Rattle.std.specs.Io.KnownBytes.{Appends}
use Rattle.std.proofs.KnownBytes.{Appends-trans}
use Rattle.std.proofs.lemmas.List.{append-nil, take-append-drop, take_at}
use Rattle.shell_top.specs.declared.ended.Ending.{Ending}
use Rattle.shell_top.specs.declared.ended.Ending.TheVariants as ending
use Rattle.shell_top.specs.Printed.{AppendsPart, is_cut_short, prints_if}
use Rattle.shell_top.specs.Text.{fault_line}

-- a text, and then a first part of another
pub part_behind : (written mid now : Option (List ℕ)) (text more : List ℕ) → Appends written mid text
    → AppendsPart mid now more → AppendsPart written now (text ++ more)
part_behind written mid now text more all part =
    let front = text ++ take part.count more in
    let cut : text ++ more ≡ front ++ drop part.count more =
    ap (λ xs. text ++ xs) (sym (take-append-drop part.count more))
    ∙ sym (append_assoc text (take part.count more) (drop part.count more)) in
    record {
      count = length front;
      appended = subst (Appends written now)
          (sym (ap (take (length front)) cut ∙ take_at front (drop part.count more) (length front) refl))
          (Appends-trans written mid now text (take part.count more) all part.appended);
    }

-- a first part of a text, and then nothing
part_before : (written mid now : Option (List ℕ)) (text : List ℕ) → AppendsPart written mid text
    → AppendsPart mid now [] → AppendsPart written now (text ++ [])
part_before written mid now text part none =
    let nothing : take none.count [] ≡ [] = take_none none.count in
    let front : Appends written now (take part.count text) =
    subst (Appends written now) (append-nil (take part.count text))
    (Appends-trans written mid now (take part.count text) [] part.appended
    (subst (Appends mid now) nothing none.appended)) in
    record {
      count = part.count;
      appended = subst (λ xs. Appends written now (take part.count xs)) (sym (append-nil text))
          front;
    }
  where
    take_none : (n : ℕ) → take {A = ℕ} n [] ≡ []
    take_none n = grind (arith, take_at)

-- an ending that cuts printing short has no line of its own
no_line : (meant : Ending) → is_cut_short meant ≡ true → fault_line meant ≡ []
no_line ending.WriteFault cut = refl
no_line ending.NoMemory cut = refl
no_line _ cut = cc

-- the answers, and then the line of the fault
pub prints_both : (a b : Bool) (meant result : Ending) → is_cut_short meant ≡ a → is_cut_short result ≡ b
    → (written mid now : Option (List ℕ)) (text : List ℕ) → prints_if a meant meant written mid text
    → prints_if b result meant mid now (fault_line meant)
    → prints_if b result meant written now (text ++ fault_line meant)
prints_both true true meant result p q written mid now text lines last =
    subst (λ line. AppendsPart written now (text ++ line)) (sym (no_line meant p))
    (part_before written mid now text lines (subst (AppendsPart mid now) (no_line meant p) last))
prints_both true false meant result p q written mid now text lines last =
    let same : is_cut_short meant ≡ is_cut_short result = ap is_cut_short last.0 in cc
prints_both false true meant result p q written mid now text lines last =
    part_behind written mid now text (fault_line meant) lines.1 last
prints_both false false meant result p q written mid now text lines last =
    (last.0, Appends-trans written mid now text (fault_line meant) lines.1 last.1)
