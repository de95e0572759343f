-- What a host does at a signal, block by block: the one walk over hosts.
use Rattle.std.proofs.Common.{◌≡◌, ◌⊎◌, inl, inr, Bool, true, false, refl, ap, sym, subst}
use Rattle.run_theory.specs.Lists.{Each}
use Rattle.sig_core.specs.declared.mark.Mark.{Mark}
use Rattle.sig_core.specs.declared.outs.Outgoing.{Outgoing}
use Rattle.sig_core.specs.declared.place.BlockId.{BlockId}
use Rattle.sig_core.specs.declared.place.BlockId.TheVariants as block
use Rattle.sig_core.specs.declared.signal.Signal.{Signal}
use Rattle.sig_core.specs.Step.{Effects, Step, nothing, stay}
use Rattle.api_block.specs.Api.{api_row}
use Rattle.api_block.specs.State.{ApiState}
use Rattle.lqh_block.specs.Lqh.{lqh_row}
use Rattle.lqh_block.specs.State.{LqhState}
use Rattle.tc_block.specs.State.{TcState}
use Rattle.tc_block.specs.Tc.{tc_row}
use Rattle.node_core.specs.declared.host.Host.{Host}
use Rattle.node_core.specs.declared.host.Host.TheVariants.{Shell, Main, Tc, Ldm}
use Rattle.node_core.specs.declared.tc_part.TcPart.{TcPart}
use Rattle.node_core.specs.Blocks.{api_of, dih_of, has_api, has_lqh, has_tc, lqh_of, tc_of}
use Rattle.node_core.specs.Dih.{DihState, dih_row}
use Rattle.node_core.specs.Row.{in_dih, in_ldm, in_shell, in_tc, in_tc_part, ldm_row, row, shell_row, tc_part_row}

-- the host runs the block
abbrev pub runs : Host → BlockId → Bool
runs (Shell a) block.Api = true
runs (Tc p) block.Tc = true
runs (Tc p) block.Dih = true
runs (Ldm l) block.Lqh = true
runs _ _ = false

-- A step of a host is one of the block that the signal is for, where the host runs it, and else nothing.
pub data HostCase (s : Host) (x : Signal) : Step Host → Type 0 where
  of_api : (a : ApiState) → s ≡ Shell a → x.to.block ≡ block.Api → HostCase s x (in_shell (api_row a x))
  of_tc : (p : TcPart) → s ≡ Tc p → x.to.block ≡ block.Tc → HostCase s x (in_tc_part (in_tc p (tc_row p.tc x)))
  of_dih : (p : TcPart) → s ≡ Tc p → x.to.block ≡ block.Dih → HostCase s x (in_tc_part (in_dih p (dih_row p.dih x)))
  of_rows : (l : LqhState) → s ≡ Ldm l → x.to.block ≡ block.Lqh → HostCase s x (in_ldm (lqh_row l x))
  of_none : runs s x.to.block ≡ false → HostCase s x (stay s)

shell_case : (a : ApiState) (x : Signal) (at : BlockId) → x.to.block ≡ at
    → HostCase (Shell a) x (in_shell (shell_row a at x))
unfolding shell_row
shell_case a x block.Api is = of_api a refl is
shell_case a x at is = of_none (ap (runs (Shell a)) is)

tc_case : (p : TcPart) (x : Signal) (at : BlockId) → x.to.block ≡ at
    → HostCase (Tc p) x (in_tc_part (tc_part_row p at x))
unfolding tc_part_row
tc_case p x block.Tc is = of_tc p refl is
tc_case p x block.Dih is = of_dih p refl is
tc_case p x at is = of_none (ap (runs (Tc p)) is)

rows_case : (l : LqhState) (x : Signal) (at : BlockId) → x.to.block ≡ at → HostCase (Ldm l) x (in_ldm (ldm_row l at x))
unfolding ldm_row
rows_case l x block.Lqh is = of_rows l refl is
rows_case l x at is = of_none (ap (runs (Ldm l)) is)

pub host_case : (s : Host) (x : Signal) → HostCase s x (row s x)
unfolding row
host_case (Shell a) x = shell_case a x x.to.block refl
host_case (Main m) x = of_none refl
host_case (Tc p) x = tc_case p x x.to.block refl
host_case (Ldm l) x = rows_case l x x.to.block refl

-- a step of a block alone, of a host that runs it: the state and the effects are those of its row
pub record IsApiStep (s : Host) (x : Signal) (t : Step Host) : Type 0 where
  pub runs : has_api s ≡ true
  pub at : x.to.block ≡ block.Api
  pub state : api_of t.state ≡ (api_row (api_of s) x).state
  pub effects : t.effects ≡ (api_row (api_of s) x).effects
  pub tc : tc_of t.state ≡ tc_of s
  pub dih : dih_of t.state ≡ dih_of s
  pub rows : lqh_of t.state ≡ lqh_of s

pub record IsTcStep (s : Host) (x : Signal) (t : Step Host) : Type 0 where
  pub runs : has_tc s ≡ true
  pub at : x.to.block ≡ block.Tc
  pub state : tc_of t.state ≡ (tc_row (tc_of s) x).state
  pub effects : t.effects ≡ (tc_row (tc_of s) x).effects
  pub api : api_of t.state ≡ api_of s
  pub dih : dih_of t.state ≡ dih_of s
  pub rows : lqh_of t.state ≡ lqh_of s

pub record IsDihStep (s : Host) (x : Signal) (t : Step Host) : Type 0 where
  pub runs : has_tc s ≡ true
  pub at : x.to.block ≡ block.Dih
  pub state : dih_of t.state ≡ (dih_row (dih_of s) x).state
  pub effects : t.effects ≡ (dih_row (dih_of s) x).effects
  pub api : api_of t.state ≡ api_of s
  pub tc : tc_of t.state ≡ tc_of s
  pub rows : lqh_of t.state ≡ lqh_of s

pub record IsRowsStep (s : Host) (x : Signal) (t : Step Host) : Type 0 where
  pub runs : has_lqh s ≡ true
  pub at : x.to.block ≡ block.Lqh
  pub state : lqh_of t.state ≡ (lqh_row (lqh_of s) x).state
  pub effects : t.effects ≡ (lqh_row (lqh_of s) x).effects
  pub api : api_of t.state ≡ api_of s
  pub tc : tc_of t.state ≡ tc_of s
  pub dih : dih_of t.state ≡ dih_of s

-- a step of none of its blocks
pub record IsIdleStep (s : Host) (x : Signal) (t : Step Host) : Type 0 where
  pub runs : runs s x.to.block ≡ false
  pub is : t ≡ stay s

-- the same cases, by what a host has of each block
pub data BlockCase (s : Host) (x : Signal) (t : Step Host) : Type 0 where
  api_takes : IsApiStep s x t → BlockCase s x t
  tc_takes : IsTcStep s x t → BlockCase s x t
  dih_takes : IsDihStep s x t → BlockCase s x t
  rows_take : IsRowsStep s x t → BlockCase s x t
  none_takes : IsIdleStep s x t → BlockCase s x t

block_case_by : (s : Host) (x : Signal) {t : Step Host} → HostCase s x t → BlockCase s x t
block_case_by s x (of_api a is at) =
    subst (λ h. BlockCase h x (in_shell (api_row a x))) (sym is)
    (api_takes (record { runs = refl; at = at; state = refl; effects = refl; tc = refl; dih = refl; rows = refl }))
block_case_by s x (of_tc p is at) =
    subst (λ h. BlockCase h x (in_tc_part (in_tc p (tc_row p.tc x)))) (sym is)
    (tc_takes (record { runs = refl; at = at; state = refl; effects = refl; api = refl; dih = refl; rows = refl }))
block_case_by s x (of_dih p is at) =
    subst (λ h. BlockCase h x (in_tc_part (in_dih p (dih_row p.dih x)))) (sym is)
    (dih_takes (record { runs = refl; at = at; state = refl; effects = refl; api = refl; tc = refl; rows = refl }))
block_case_by s x (of_rows l is at) =
    subst (λ h. BlockCase h x (in_ldm (lqh_row l x))) (sym is)
    (rows_take (record { runs = refl; at = at; state = refl; effects = refl; api = refl; tc = refl; dih = refl }))
block_case_by s x (of_none is) = none_takes (record { runs = is; is = refl })

pub block_case : (s : Host) (x : Signal) → BlockCase s x (row s x)
block_case s x = block_case_by s x (host_case s x)

-- of one block: the step is its own, or it stays as it is
api_step_by : (s : Host) (x : Signal) (t : Step Host) → BlockCase s x t → IsApiStep s x t ⊎ (api_of t.state ≡ api_of s)
api_step_by s x t (api_takes step) = inl step
api_step_by s x t (tc_takes step) = inr step.api
api_step_by s x t (dih_takes step) = inr step.api
api_step_by s x t (rows_take step) = inr step.api
api_step_by s x t (none_takes step) = inr (ap (λ (u : Step Host). api_of u.state) step.is)

pub api_step : (s : Host) (x : Signal) → IsApiStep s x (row s x) ⊎ (api_of (row s x).state ≡ api_of s)
api_step s x = api_step_by s x (row s x) (block_case s x)

tc_step_by : (s : Host) (x : Signal) (t : Step Host) → BlockCase s x t → IsTcStep s x t ⊎ (tc_of t.state ≡ tc_of s)
tc_step_by s x t (api_takes step) = inr step.tc
tc_step_by s x t (tc_takes step) = inl step
tc_step_by s x t (dih_takes step) = inr step.tc
tc_step_by s x t (rows_take step) = inr step.tc
tc_step_by s x t (none_takes step) = inr (ap (λ (u : Step Host). tc_of u.state) step.is)

pub tc_step : (s : Host) (x : Signal) → IsTcStep s x (row s x) ⊎ (tc_of (row s x).state ≡ tc_of s)
tc_step s x = tc_step_by s x (row s x) (block_case s x)

dih_step_by : (s : Host) (x : Signal) (t : Step Host) → BlockCase s x t → IsDihStep s x t ⊎ (dih_of t.state ≡ dih_of s)
dih_step_by s x t (api_takes step) = inr step.dih
dih_step_by s x t (tc_takes step) = inr step.dih
dih_step_by s x t (dih_takes step) = inl step
dih_step_by s x t (rows_take step) = inr step.dih
dih_step_by s x t (none_takes step) = inr (ap (λ (u : Step Host). dih_of u.state) step.is)

pub dih_step : (s : Host) (x : Signal) → IsDihStep s x (row s x) ⊎ (dih_of (row s x).state ≡ dih_of s)
dih_step s x = dih_step_by s x (row s x) (block_case s x)

rows_step_by : (s : Host) (x : Signal) (t : Step Host) → BlockCase s x t
    → IsRowsStep s x t ⊎ (lqh_of t.state ≡ lqh_of s)
rows_step_by s x t (api_takes step) = inr step.rows
rows_step_by s x t (tc_takes step) = inr step.rows
rows_step_by s x t (dih_takes step) = inr step.rows
rows_step_by s x t (rows_take step) = inl step
rows_step_by s x t (none_takes step) = inr (ap (λ (u : Step Host). lqh_of u.state) step.is)

pub rows_step : (s : Host) (x : Signal) → IsRowsStep s x (row s x) ⊎ (lqh_of (row s x).state ≡ lqh_of s)
rows_step s x = rows_step_by s x (row s x) (block_case s x)

-- what a block's row keeps, a host keeps
pub keeps_tc : (R : TcState → Type 0) → ((t : TcState) (x : Signal) → R t → R (tc_row t x).state)
    → (s : Host) (x : Signal) → R (tc_of s) → R (tc_of (row s x).state)
keeps_tc R kept s x was = go (tc_step s x)
  where
    go : IsTcStep s x (row s x) ⊎ (tc_of (row s x).state ≡ tc_of s) → R (tc_of (row s x).state)
    go (inl step) = subst R (sym step.state) (kept (tc_of s) x was)
    go (inr same) = subst R (sym same) was

pub keeps_dih : (R : DihState → Type 0) → ((d : DihState) (x : Signal) → R d → R (dih_row d x).state)
    → (s : Host) (x : Signal) → R (dih_of s) → R (dih_of (row s x).state)
keeps_dih R kept s x was = go (dih_step s x)
  where
    go : IsDihStep s x (row s x) ⊎ (dih_of (row s x).state ≡ dih_of s) → R (dih_of (row s x).state)
    go (inl step) = subst R (sym step.state) (kept (dih_of s) x was)
    go (inr same) = subst R (sym same) was

pub keeps_rows : (R : LqhState → Type 0) → ((l : LqhState) (x : Signal) → R l → R (lqh_row l x).state)
    → (s : Host) (x : Signal) → R (lqh_of s) → R (lqh_of (row s x).state)
keeps_rows R kept s x was = go (rows_step s x)
  where
    go : IsRowsStep s x (row s x) ⊎ (lqh_of (row s x).state ≡ lqh_of s) → R (lqh_of (row s x).state)
    go (inl step) = subst R (sym step.state) (kept (lqh_of s) x was)
    go (inr same) = subst R (sym same) was

-- what holds of the effects of each block's row, where the host runs it and the signal is for it
pub record OfRows (P : Effects → Type 0) (s : Host) (x : Signal) : Type 0 where
  pub api : has_api s ≡ true → x.to.block ≡ block.Api → P (api_row (api_of s) x).effects
  pub tc : has_tc s ≡ true → x.to.block ≡ block.Tc → P (tc_row (tc_of s) x).effects
  pub dih : has_tc s ≡ true → x.to.block ≡ block.Dih → P (dih_row (dih_of s) x).effects
  pub rows : has_lqh s ≡ true → x.to.block ≡ block.Lqh → P (lqh_row (lqh_of s) x).effects

-- so it does of a host's
pub of_effects : (P : Effects → Type 0) (s : Host) (x : Signal) → P nothing → OfRows P s x → P (row s x).effects
of_effects P s x none each = go (block_case s x)
  where
    go : BlockCase s x (row s x) → P (row s x).effects
    go (api_takes step) = subst P (sym step.effects) (each.api step.runs step.at)
    go (tc_takes step) = subst P (sym step.effects) (each.tc step.runs step.at)
    go (dih_takes step) = subst P (sym step.effects) (each.dih step.runs step.at)
    go (rows_take step) = subst P (sym step.effects) (each.rows step.runs step.at)
    go (none_takes step) = subst P (sym (ap (λ (u : Step Host). u.effects) step.is)) none

pub each_send : (Q : Outgoing → Type 0) (s : Host) (x : Signal) → OfRows (λ f. Each Q f.sends) s x
    → Each Q (row s x).effects.sends
each_send Q s x each = of_effects (λ f. Each Q f.sends) s x tt each

pub each_mark : (Q : Mark → Type 0) (s : Host) (x : Signal) → OfRows (λ f. Each Q f.marks) s x
    → Each Q (row s x).effects.marks
each_mark Q s x each = of_effects (λ f. Each Q f.marks) s x tt each

-- a host stays of its kind: it runs the same blocks
pub api_stays : (s : Host) (x : Signal) → has_api (row s x).state ≡ has_api s
unfolding row
api_stays (Shell a) x = refl
api_stays (Main m) x = refl
api_stays (Tc p) x = refl
api_stays (Ldm l) x = refl

pub tc_stays : (s : Host) (x : Signal) → has_tc (row s x).state ≡ has_tc s
unfolding row
tc_stays (Shell a) x = refl
tc_stays (Main m) x = refl
tc_stays (Tc p) x = refl
tc_stays (Ldm l) x = refl

pub rows_stay : (s : Host) (x : Signal) → has_lqh (row s x).state ≡ has_lqh s
unfolding row
rows_stay (Shell a) x = refl
rows_stay (Main m) x = refl
rows_stay (Tc p) x = refl
rows_stay (Ldm l) x = refl
