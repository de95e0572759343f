-- What a host has where it doesn't run a block.
use Rattle.std.proofs.Common.{◌≡◌, ℕ, suc, Bool, true, false, List, refl, ap, arith}
use Rattle.std.specs.FinMap as finite
use Rattle.std.specs.Prelude.{None}
use Rattle.sig_core.specs.declared.member.TxId.{TxId}
use Rattle.sig_core.specs.declared.place.BlockId.TheVariants as block
use Rattle.row_locks.proofs.LocksLemmas.{key_cmp}
use Rattle.row_locks.specs.Tables.{ahead_at, ahead_of, or_unlocked}
use Rattle.node_core.proofs.HostCases.{runs}
use Rattle.node_core.specs.Blocks.{has_api, has_lqh, has_tc, lqh_of}
use Rattle.node_core.specs.declared.host.Host.{Host}
use Rattle.node_core.specs.declared.host.Host.TheVariants.{Shell, Main, Tc, Ldm}
use Rattle.world_core.proofs.HostNumbers.{api_found}
use Rattle.world_core.specs.Machine.{after}
use Rattle.world_core.specs.Start.{Start}
use Rattle.world_core.specs.Steps.{HostStep}

-- who runs the API has no coordinator and no rows
pub api_alone : (g : Host) → has_api g ≡ true → has_tc g ≡ true → ⊥
api_alone (Shell s) api tc = cc
api_alone (Main m) api tc = cc
api_alone (Tc p) api tc = cc
api_alone (Ldm l) api tc = cc

pub runs_api : (g : Host) → runs g block.Api ≡ has_api g
runs_api (Shell s) = refl
runs_api (Main m) = refl
runs_api (Tc p) = refl
runs_api (Ldm l) = refl

pub runs_tc : (g : Host) → runs g block.Tc ≡ has_tc g
runs_tc (Shell s) = refl
runs_tc (Main m) = refl
runs_tc (Tc p) = refl
runs_tc (Ldm l) = refl

pub runs_rows : (g : Host) → runs g block.Lqh ≡ has_lqh g
runs_rows (Shell s) = refl
runs_rows (Main m) = refl
runs_rows (Tc p) = refl
runs_rows (Ldm l) = refl

-- without rows there are no locks
pub no_rows : (g : Host) → has_lqh g ≡ false → (key : List ℕ) (tx : TxId) → ahead_at (lqh_of g).locks key tx ≡ None
no_rows (Shell s) none key tx = ap (λ o. ahead_of (or_unlocked o) tx) (finite.get-empty key_cmp key)
no_rows (Main m) none key tx = ap (λ o. ahead_of (or_unlocked o) tx) (finite.get-empty key_cmp key)
no_rows (Tc p) none key tx = ap (λ o. ahead_of (or_unlocked o) tx) (finite.get-empty key_cmp key)
no_rows (Ldm l) none key tx = cc

pub api_no_rows : (g : Host) → has_api g ≡ true → has_lqh g ≡ true → ⊥
api_no_rows (Shell s) api rows = cc
api_no_rows (Main m) api rows = cc
api_no_rows (Tc p) api rows = cc
api_no_rows (Ldm l) api rows = cc

pub node_runs_none : (start : Start) (h : ℕ) (log : List HostStep) → has_api (after start (suc h) log) ≡ false
node_runs_none start h log = by (has_api (after start (suc h) log)) refl
  where
    by : (b : Bool) → has_api (after start (suc h) log) ≡ b → b ≡ false
    by false is = refl
    by true is = absurd (omega (arith, api_found start (suc h) log is))
