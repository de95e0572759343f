-- What becomes of a transaction, as far as it is settled: it is committed, or never will be.
use Rattle.std.specs.Prelude.{◌≡◌, ℕ, Bool, true, false, List, ◌∷◌}
use Rattle.lqh_block.specs.Views.{is_coordinated}
use Rattle.sig_core.specs.declared.member.TxId.{TxId}
use Rattle.world_core.specs.Start.{Start}
use Rattle.world_core.specs.Steps.{HostStep}
use Rattle.moment_laws.specs.Moments.{IsMoment, current, logs_of}
use Rattle.commit_laws.specs.Going.{is_forth, is_lost}
use Rattle.commit_laws.specs.Traces.{has_trace, is_known}

pub data Fate : Type 0 where
  undetermined : Fate
  commits : Fate
  aborts : Fate

-- its coordinator is a full member of the current view, and determines it
abbrev pub fate_here : (forth lost : Bool) → Fate
fate_here true lost = commits
fate_here false true = aborts
fate_here false false = undetermined

-- its coordinator isn't, and the traces at members do
abbrev pub fate_gone : (trace : Bool) → Fate
fate_gone true = commits
fate_gone false = aborts

-- whoever the client's side knows to be committed is
abbrev pub fate_if : (known full forth lost trace : Bool) → Fate
fate_if true full forth lost trace = commits
fate_if false true forth lost trace = fate_here forth lost
fate_if false false forth lost trace = fate_gone trace

module _ (start : Start) (logs : ℕ → List HostStep) (tx : TxId) where
  abbrev pub is_led_by_full : Bool
  is_led_by_full = is_coordinated (current start logs).full tx

  abbrev pub fate : Fate
  fate =
      fate_if (is_known start logs tx) is_led_by_full (is_forth start logs tx) (is_lost start logs tx)
      (has_trace start logs tx)

-- whoever aborts does so for ever
abbrev pub AbortsStay : Type 0
AbortsStay =
    (start : Start) (all : ℕ → List HostStep) (e : HostStep) (es : List HostStep) → IsMoment start all (e ∷ es)
    → (tx : TxId) → fate start (logs_of start es) tx ≡ aborts → fate start (logs_of start (e ∷ es)) tx ≡ aborts

-- and whoever commits does so as long as no other view becomes the current one
abbrev pub CommitsStay : Type 0
CommitsStay =
    (start : Start) (all : ℕ → List HostStep) (e : HostStep) (es : List HostStep) → IsMoment start all (e ∷ es)
    → current start (logs_of start (e ∷ es)) ≡ current start (logs_of start es)
    → (tx : TxId) → fate start (logs_of start es) tx ≡ commits → fate start (logs_of start (e ∷ es)) tx ≡ commits
