-- What a signal is to a key of a host: what it is to the rows that take it, and else nothing.
use Rattle.std.proofs.Common.{◌≡◌, ℕ, List, true, false, refl, ap}
use Rattle.sig_core.specs.declared.place.BlockId.{BlockId}
use Rattle.sig_core.specs.declared.place.BlockId.TheVariants as block
use Rattle.sig_core.specs.declared.signal.Signal.{Signal}
use Rattle.sig_core.specs.Step.{Step}
use Rattle.node_core.specs.Blocks.{has_lqh, lqh_of}
use Rattle.node_core.specs.declared.host.Host.{Host}
use Rattle.node_core.specs.declared.host.Host.TheVariants.{Ldm}
use Rattle.node_core.specs.Row.{row}
use Rattle.node_core.proofs.HostCases.{BlockCase, IsRowsStep, api_takes, block_case, dih_takes, none_takes, rows_take}
use Rattle.node_core.proofs.HostCases.{runs, tc_takes}
use Rattle.key_laws.specs.Replica.{event_at, rests}
use Rattle.host_laws.specs.ReplicaLaws.{event_for, event_in}
use Rattle.run_laws.proofs.tokens.Signals.{is_rows}

-- the events of a key
pub event_rows : (key : List ℕ) (s : Host) (x : Signal) → has_lqh s ≡ true → x.to.block ≡ block.Lqh
    → event_in key s x ≡ event_at key (lqh_of s) x.body
event_rows key (Ldm l) x runs at = ap (λ b. event_for key l b x.body) at
event_rows key _ x runs at = absurd cc

-- what is for another block is none, nor is what the host doesn't run
pub event_off : (key : List ℕ) (s : Host) (x : Signal) → is_rows x.to.block ≡ false → event_in key s x ≡ rests
event_off key (Ldm l) x off = by x.to.block off
  where
    by : (b : BlockId) → is_rows b ≡ false → event_for key l b x.body ≡ rests
    by block.Lqh off = absurd cc
    by _ off = refl
event_off key _ x off = refl

pub event_missed : (key : List ℕ) (s : Host) (x : Signal) → runs s x.to.block ≡ false → event_in key s x ≡ rests
event_missed key (Ldm l) x off = by x.to.block off
  where
    by : (b : BlockId) → runs (Ldm l) b ≡ false → event_for key l b x.body ≡ rests
    by block.Lqh off = absurd cc
    by _ off = refl
event_missed key _ x off = refl

module _ (key : List ℕ) where
  pub data EventCase (s : Host) (x : Signal) (t : Step Host) : Type 0 where
    of_rows : IsRowsStep s x t → event_in key s x ≡ event_at key (lqh_of s) x.body → EventCase s x t
    no_event : event_in key s x ≡ rests → EventCase s x t

  event_by : (s : Host) (x : Signal) (t : Step Host) → BlockCase s x t → EventCase s x t
  event_by s x t (api_takes step) = no_event (event_off key s x (ap is_rows step.at))
  event_by s x t (tc_takes step) = no_event (event_off key s x (ap is_rows step.at))
  event_by s x t (dih_takes step) = no_event (event_off key s x (ap is_rows step.at))
  event_by s x t (rows_take step) = of_rows step (event_rows key s x step.runs step.at)
  event_by s x t (none_takes step) = no_event (event_missed key s x step.runs)

  pub event_case : (s : Host) (x : Signal) → EventCase s x (row s x)
  event_case s x = event_by s x (row s x) (block_case s x)
