-- What calls on a disk that are made one after the other leave of its record.
use Rattle.std.proofs.Common.{◌≡◌, ◌≤◌, Bool, List, [], ◌∷◌, length, inl, inr, arith}
use Rattle.std.specs.Prelude.{Option, Some}
use Rattle.host_io.specs.Call.{Call, Lost, Synced, Tore, Wrote}
use Rattle.host_io.specs.Image.{IsRecord}
use Rattle.sysfile_core.specs.Runs.{Runs}

-- a disk tells a record that keeps to the model, and is as long as an earlier one, or longer
pub record TellsRecord (before : List Call) (told : Option (List Call)) : Type 0 where
  pub calls : List Call
  pub is : told ≡ Some calls
  pub kept : IsRecord calls
  pub grows : length before ≤ length calls

-- so it does behind calls, whatever they come to
pub runs_tell : (asks calls : List Call) (told : Option (List Call)) (ok : Bool) → IsRecord calls
    → Runs asks calls told ok → TellsRecord calls told
runs_tell [] calls told ok kept runs = record { calls = calls; is = runs.0; kept = kept; grows = omega arith }
runs_tell (Wrote file at bytes ∷ asks) calls told ok kept (inl (inl none, not_so)) =
    record { calls = calls; is = none; kept = kept; grows = omega arith }
runs_tell (Wrote file at bytes ∷ asks) calls told ok kept (inl (inr (piece, added), not_so)) =
    record {
      calls = Tore file at bytes piece ∷ calls;
      is = added.grown;
      kept = (added.allowed, kept);
      grows = omega arith;
    }
runs_tell (Synced file ∷ asks) calls told ok kept (inl (none, not_so)) =
    record { calls = calls; is = none; kept = kept; grows = omega arith }
runs_tell (Tore file at asked piece ∷ asks) calls told ok kept (inl (none, not_so)) = absurd none
runs_tell (Lost files ∷ asks) calls told ok kept (inl (none, not_so)) = absurd none
runs_tell (ask ∷ asks) calls told ok kept (inr (may, runs)) =
    let rest = runs_tell asks (ask ∷ calls) told ok (may, kept) runs in
    record { calls = rest.calls; is = rest.is; kept = rest.kept; grows = omega (arith, rest.grows) }
