-- What a journal still has to give out stands behind what it gave out, whatever is appended, and wherever it gives up
-- what stands before a position.
use Rattle.std.proofs.Common.{◌≡◌, ◌≤◌, ◌+◌, ◌-◌, ◌∙◌, ℕ, List, [], ◌∷◌, drop, length, true, refl, sym, ap, subst}
use Rattle.std.proofs.Common.{arith}
use Rattle.std.proofs.lemmas.Bool.{and_parts, leb-true}
use Rattle.std.proofs.lemmas.List.{drop-append-le, drop-drop, length-append, length-drop}
use Rattle.std.specs.Prelude.{nat_le, Option, None, Some}
use Rattle.sig_core.specs.declared.redo.Redo.{Redo}
use Rattle.sig_core.specs.declared.redo.Redo.TheVariants as redo
use Rattle.sig_core.specs.Journal.{OutletState, behind, end_of}
use Rattle.sig_core.specs.Redo.{bytes_of}
use Rattle.sig_core.specs.Rows.{RowsState}
use Rattle.redo_log.specs.Replaying.{log_bytes}
use Rattle.local_ckpt.specs.Events.{Abort, Commit, Complete, Event, Prepare, Step, log_if, logged}
use Rattle.local_ckpt.specs.Orderly.{image_in}
use Rattle.lqh_saver.specs.Switching.{has_position, outlet_from}
use Rattle.journal_laws.specs.Events.{behind_all}
use Rattle.journal_laws.specs.Journal.{outlet_with}
use Rattle.journal_laws.specs.Saver.{IsRestOf}

-- what stands from a position on of the bytes of records
abbrev pub rest_from : List Redo → ℕ → OutletState
rest_from log at = outlet_from (outlet_with log) at

pub nothing_given : IsRestOf (outlet_with []) (outlet_with [])
nothing_given = record { least = omega arith; most = omega arith; is = refl }

-- where it ends all ends
pub end_same : (o all : OutletState) → IsRestOf o all → end_of o ≡ end_of all
end_same o all rest =
    ap end_of rest.is
    ∙ (let most : o.flushed ≤ all.flushed + length all.left = rest.most in
    let e : o.flushed + length (drop (o.flushed - all.flushed) all.left) ≡ all.flushed + length all.left =
    omega (arith, rest.least, most, length-drop (o.flushed - all.flushed) all.left) in e)

-- a record was appended
module _ (o : OutletState) (log : List Redo) (r : Redo) (rest : IsRestOf o (outlet_with log)) where
  within : o.flushed - 0 ≤ length (log_bytes log)
  within = let most : o.flushed ≤ 0 + length (log_bytes log) = rest.most in omega (arith, most)

  pub one_behind : IsRestOf (behind o r) (outlet_with (r ∷ log))
  one_behind =
      subst (λ (p : OutletState). IsRestOf (behind p r) (outlet_with (r ∷ log))) (sym rest.is)
      (record {
        least = omega arith;
        most = omega (arith, within, length-append (log_bytes log) (bytes_of r));
        is = ap (λ (left : List ℕ). record { keeps = true; parity = 0; flushed = o.flushed; left = left })
            (sym (drop-append-le (o.flushed - 0) (log_bytes log) (bytes_of r) within));
      })

one_if : (o : OutletState) (log : List Redo) (record_of : Redo) (image : Option (Option (List ℕ)))
    → IsRestOf o (outlet_with log)
    → IsRestOf (behind_all (log_if record_of image []) o) (outlet_with (log_if record_of image log))
one_if o log record_of None rest = rest
one_if o log record_of (Some image) rest = one_behind o log record_of rest

-- an event's records stand behind those that there were
pub more_behind : (event : Event) (s : RowsState) (o : OutletState) (log : List Redo) → IsRestOf o (outlet_with log)
    → IsRestOf (behind_all (logged event s []) o) (outlet_with (logged event s log))
more_behind (Prepare tx fragment key image) s o log rest =
    one_behind o log (redo.Prepare tx fragment key image) rest
more_behind (Commit tx key epoch) s o log rest = one_if o log (redo.Commit tx epoch key) (image_in s tx key) rest
more_behind (Abort tx key) s o log rest = one_if o log (redo.Abort tx key) (image_in s tx key) rest
more_behind (Complete tx key) s o log rest = rest
more_behind Step s o log rest = rest

-- what stands before a position is given up once or twice
given_twice : (o all : OutletState) (at : ℕ) → IsRestOf o all → o.flushed ≤ at
    → outlet_from o at ≡ outlet_from all at
given_twice o all at rest least =
    let before : (o.flushed - all.flushed) + (at - o.flushed) ≡ at - all.flushed = omega (arith, rest.least, least) in
    ap (λ (p : OutletState). leaving p (drop (at - o.flushed) p.left)) rest.is
    ∙ ap (leaving all)
    (drop-drop (at - o.flushed) (o.flushed - all.flushed) all.left ∙ ap (λ (n : ℕ). drop n all.left) before)
  where
    leaving : OutletState → List ℕ → OutletState
    leaving p left = record { keeps = p.keeps; parity = p.parity; flushed = at; left = left }

-- what stands before a position was given up
pub less_left : (o all : OutletState) (at : ℕ) → IsRestOf o all → has_position o at ≡ true
    → IsRestOf (outlet_from o at) all
less_left o all at rest has =
    let parts = and_parts (nat_le o.flushed at) (nat_le at (end_of o)) has in
    let least : o.flushed ≤ at = leb-true o.flushed at parts.0 in
    let most : at ≤ end_of o = leb-true at (end_of o) parts.1 in
    let same = end_same o all rest in
    record {
      least = omega (arith, rest.least, least);
      most = subst (λ (end : ℕ). at ≤ end) same most;
      is = given_twice o all at rest least;
    }

-- what was given out stays where it was as records are appended
one_flushed : (o : OutletState) (log : List Redo) (r : Redo) → IsRestOf o (outlet_with log)
    → (behind o r).flushed ≡ o.flushed
one_flushed o log r rest = ap (λ (p : OutletState). (behind p r).flushed) rest.is

flushed_if : (o : OutletState) (log : List Redo) (record_of : Redo) (image : Option (Option (List ℕ)))
    → IsRestOf o (outlet_with log) → (behind_all (log_if record_of image []) o).flushed ≡ o.flushed
flushed_if o log record_of None rest = refl
flushed_if o log record_of (Some image) rest = one_flushed o log record_of rest

pub stays_flushed : (event : Event) (s : RowsState) (o : OutletState) (log : List Redo)
    → IsRestOf o (outlet_with log) → (behind_all (logged event s []) o).flushed ≡ o.flushed
stays_flushed (Prepare tx fragment key image) s o log rest =
    one_flushed o log (redo.Prepare tx fragment key image) rest
stays_flushed (Commit tx key epoch) s o log rest = flushed_if o log (redo.Commit tx epoch key) (image_in s tx key) rest
stays_flushed (Abort tx key) s o log rest = flushed_if o log (redo.Abort tx key) (image_in s tx key) rest
stays_flushed (Complete tx key) s o log rest = refl
stays_flushed Step s o log rest = refl
