-- Calls that are made one after the other, and those that are left.
use Rattle.std.proofs.Common.{◌≡◌, ◌∙◌, ℕ, Bool, true, false, ◌==◌, List, [], ◌∷◌, ◌++◌, length, refl, ap, sym, subst}
use Rattle.std.proofs.Common.{inl, inr}
use Rattle.std.proofs.Common.{if◌then◌else◌}
use Rattle.std.specs.Prelude.{Option, Some}
use Rattle.host_io.specs.Call.{Call, Lost, Synced, Tore, Wrote}
use Rattle.host_io.specs.Disk.{IsAdded, IsSynced, IsWritten}
use Rattle.host_io.specs.DiskState.{FileState, settled, state_of, written}
use Rattle.sysfile_core.specs.Runs.{Runs}
use Rattle.sysfile_core.proofs.RunLemmas.{HoldsThrough, done}

-- Of some calls these are left: what they come to is what all do.
pub record AreLeft (asks rest calls : List Call) (told : Option (List Call)) : Type 0 where
  pub now : List Call
  pub tells : told ≡ Some now
  pub runs : (end : Option (List Call)) (ok : Bool) → Runs rest now end ok → Runs asks calls end ok

pub all_left : (asks calls : List Call) (told : Option (List Call)) → told ≡ Some calls
    → AreLeft asks asks calls told
all_left asks calls told is = record { now = calls; tells = is; runs = λ end ok runs. runs }

-- the next one was made
pub one_made : (ask : Call) (asks rest left calls : List Call) (told after : Option (List Call))
    → AreLeft asks left calls told → left ≡ ask ∷ rest
    → ((now : List Call) → told ≡ Some now → IsAdded now after ask) → AreLeft asks rest calls after
one_made ask asks rest left calls told after are is made =
    let added = made are.now are.tells in
    record {
      now = ask ∷ are.now;
      tells = added.grown;
      runs = λ end ok runs.
          are.runs end ok (subst (λ calls. Runs calls are.now end ok) (sym is) (inr (added.allowed, runs)));
    }

-- the next one failed
pub write_failed : (file at : ℕ) (bytes : List ℕ) (asks rest left calls : List Call) (told after : Option (List Call))
    → AreLeft asks left calls told → left ≡ Wrote file at bytes ∷ rest
    → ((now : List Call) → told ≡ Some now → IsWritten now after file at bytes false) → Runs asks calls after false
write_failed file at bytes asks rest left calls told after are is failed =
    are.runs after false
    (subst (λ calls. Runs calls are.now after false) (sym is) (inl (failed are.now are.tells, refl)))

pub sync_failed : (file : ℕ) (asks rest left calls : List Call) (told after : Option (List Call))
    → AreLeft asks left calls told → left ≡ Synced file ∷ rest
    → ((now : List Call) → told ≡ Some now → IsSynced now after file false) → Runs asks calls after false
sync_failed file asks rest left calls told after are is failed =
    are.runs after false
    (subst (λ calls. Runs calls are.now after false) (sym is) (inl (failed are.now are.tells, refl)))

-- none is left
pub none_left : (asks left calls : List Call) (told : Option (List Call)) → AreLeft asks left calls told → left ≡ []
    → Runs asks calls told true
none_left asks left calls told are is =
    are.runs told true (subst (λ calls. Runs calls are.now told true) (sym is) (are.tells, refl))

-- a write by itself
pub write_runs : (file at : ℕ) (bytes : List ℕ) (calls : List Call) (told : Option (List Call)) (ok : Bool)
    → IsWritten calls told file at bytes ok → Runs (Wrote file at bytes ∷ []) calls told ok
write_runs file at bytes calls told true is = inr (is.allowed, (is.grown, refl))
write_runs file at bytes calls told false is = inl (is, refl)

-- the calls are of files other than this one
abbrev pub AreElsewhere : ℕ → List Call → Type 0
AreElsewhere this [] = Unit {0}
AreElsewhere this (Wrote file at bytes ∷ asks) = ((file == this) ≡ false) × AreElsewhere this asks
AreElsewhere this (Synced file ∷ asks) = ((file == this) ≡ false) × AreElsewhere this asks
AreElsewhere this (Tore file at asked piece ∷ asks) = ⊥
AreElsewhere this (Lost files ∷ asks) = ⊥

pub both_elsewhere : (this : ℕ) (asks more : List Call) → AreElsewhere this asks → AreElsewhere this more
    → AreElsewhere this (asks ++ more)
both_elsewhere this [] more one other = other
both_elsewhere this (Wrote file at bytes ∷ asks) more one other = (one.0, both_elsewhere this asks more one.1 other)
both_elsewhere this (Synced file ∷ asks) more one other = (one.0, both_elsewhere this asks more one.1 other)
both_elsewhere this (Tore file at asked piece ∷ asks) more one other = absurd one
both_elsewhere this (Lost files ∷ asks) more one other = absurd one

pub same_record : (one other : List Call) → Some one ≡ Some other → one ≡ other
same_record one other same = cc

state_is : (this : ℕ) (told : Option (List Call)) (after calls : List Call) → told ≡ Some after → told ≡ Some calls
    → state_of after this ≡ state_of calls this
state_is this told after calls one other =
    ap (λ made. state_of made this) (same_record after calls (sym one ∙ other))

-- whatever they come to, that one stays
pub elsewhere_stays : (this : ℕ) (asks calls after : List Call) (told : Option (List Call)) (ok : Bool)
    → AreElsewhere this asks → Runs asks calls told ok → told ≡ Some after → state_of after this ≡ state_of calls this
elsewhere_stays this [] calls after told ok apart runs is = state_is this told after calls is runs.0
elsewhere_stays this (Wrote file at bytes ∷ asks) calls after told ok apart (inl (inl none, not_so)) is =
    state_is this told after calls is none
elsewhere_stays this (Wrote file at bytes ∷ asks) calls after told ok apart (inl (inr (piece, added), not_so)) is =
    state_is this told after (Tore file at bytes piece ∷ calls) is added.grown
    ∙ ap (λ (b : Bool). if b then written (state_of calls this) at (length bytes) piece else state_of calls this)
    apart.0
elsewhere_stays this (Wrote file at bytes ∷ asks) calls after told ok apart (inr (may, runs)) is =
    elsewhere_stays this asks (Wrote file at bytes ∷ calls) after told ok apart.1 runs is
    ∙ ap (λ (b : Bool). if b then written (state_of calls this) at (length bytes) bytes else state_of calls this)
    apart.0
elsewhere_stays this (Synced file ∷ asks) calls after told ok apart (inl (none, not_so)) is =
    state_is this told after calls is none
elsewhere_stays this (Synced file ∷ asks) calls after told ok apart (inr (may, runs)) is =
    elsewhere_stays this asks (Synced file ∷ calls) after told ok apart.1 runs is
    ∙ ap (λ (b : Bool). if b then settled (state_of calls this).bytes else state_of calls this) apart.0
elsewhere_stays this (Tore file at asked piece ∷ asks) calls after told ok apart runs is = absurd apart
elsewhere_stays this (Lost files ∷ asks) calls after told ok apart runs is = absurd apart

pub elsewhere_through : (this : ℕ) (asks calls : List Call) (s : FileState) → AreElsewhere this asks
    → state_of calls this ≡ s → HoldsThrough (λ moment. state_of moment this ≡ s) asks calls
elsewhere_through this [] calls s apart same = same
elsewhere_through this (Wrote file at bytes ∷ asks) calls s apart same = (
  same,
  (
    λ piece few.
        ap (λ (b : Bool). if b then written (state_of calls this) at (length bytes) piece else state_of calls this)
        apart.0
        ∙ same,
    elsewhere_through this asks (Wrote file at bytes ∷ calls) s apart.1
        (ap (λ (b : Bool). if b then written (state_of calls this) at (length bytes) bytes else state_of calls this)
        apart.0
        ∙ same),
  ),
)
elsewhere_through this (Synced file ∷ asks) calls s apart same = (
  same,
  elsewhere_through this asks (Synced file ∷ calls) s apart.1
      (ap (λ (b : Bool). if b then settled (state_of calls this).bytes else state_of calls this) apart.0 ∙ same),
)
elsewhere_through this (Tore file at asked piece ∷ asks) calls s apart same = absurd apart
elsewhere_through this (Lost files ∷ asks) calls s apart same = absurd apart

pub elsewhere_done : (this : ℕ) (asks calls : List Call) → AreElsewhere this asks
    → state_of (done asks calls) this ≡ state_of calls this
elsewhere_done this [] calls apart = refl
elsewhere_done this (Wrote file at bytes ∷ asks) calls apart =
    elsewhere_done this asks (Wrote file at bytes ∷ calls) apart.1
    ∙ ap (λ (b : Bool). if b then written (state_of calls this) at (length bytes) bytes else state_of calls this)
    apart.0
elsewhere_done this (Synced file ∷ asks) calls apart =
    elsewhere_done this asks (Synced file ∷ calls) apart.1
    ∙ ap (λ (b : Bool). if b then settled (state_of calls this).bytes else state_of calls this) apart.0
elsewhere_done this (Tore file at asked piece ∷ asks) calls apart = absurd apart
elsewhere_done this (Lost files ∷ asks) calls apart = absurd apart
