-- Steps of hosts, each with what a disk kept of it.
use Rattle.std.proofs.Common.{◌≡◌, inl, inr, ℕ, suc, Bool, true, false, List, refl, sym, subst}
use Rattle.std.proofs.lemmas.Bool.{true≢false}
use Rattle.std.specs.Prelude.{IfSome, is_some, Option, None, Some}
use Rattle.world_core.specs.Start.{Start}
use Rattle.world_core.specs.Steps.{HostStep}
use Rattle.world_core.specs.World.{logs_at}
use Rattle.world_views.specs.Disks.{GoesAlone, HasMoreIf, HasOneMore}
use Rattle.world_views.specs.Driven.{IsSound, IsStepped, IsWorld}
use Rattle.world_views.specs.declared.world.Taken.{Taken}
use Rattle.world_views.specs.World.{Whole}
use Rattle.world_views.proofs.AloneSteps.{longer}
use Rattle.disk_world.specs.Disks.{Disks, HasGoneOn, HasKeptStep, IsNotKept, KeepsNothing, KeepsStep, WayOn}

pub no_way : (w : Whole) (disks : Disks) → WayOn w disks w disks
no_way w disks = (0, (refl, refl))

-- a host that has one step more handled a signal, and one that has none more didn't
handled_one : (handled : Bool) (old new : List HostStep) → HasMoreIf handled old new → HasOneMore old new
    → handled ≡ true
handled_one true old new more one = refl
handled_one false old new same one = absurd (longer one.0 old new same one.1)

handled_none : (handled : Bool) (old new : List HostStep) → HasMoreIf handled old new → new ≡ old → handled ≡ false
handled_none true old new one same = absurd (longer one.0 old new same one.1)
handled_none false old new more same = refl

-- a host went on, and what is kept of it
module _ (w stepped t : Whole) (old new : Disks) (counts : List ℕ) where
  of_taken : (h : ℕ) (handled : Bool) → GoesAlone w h stepped
      → HasMoreIf handled (logs_at w.logs h) (logs_at stepped.logs h)
      → ((start : Start) → IsSound start w → IsStepped start w stepped true)
      → ((start : Start) → IsSound start w → IsStepped start w t true)
      → (handled ≡ true → KeepsStep stepped h old → HasKeptStep stepped h old new counts t)
      → (IsNotKept handled stepped h → (t ≡ stepped) × (new ≡ old)) → HasGoneOn w old new counts t
  of_taken h handled alone more driven goes kept nothing =
      record {
        host = h;
        stepped = stepped;
        alone = alone;
        driven = driven;
        goes = goes;
        kept = λ e one. kept (handled_one handled (logs_at w.logs h) (logs_at stepped.logs h) more (e, one));
        nothing = none;
      }
    where
      none : KeepsNothing w stepped h → (t ≡ stepped) × (new ≡ old)
      none (inl shell) = nothing (inl shell)
      none (inr (inl same)) =
          nothing (inr (inl (handled_none handled (logs_at w.logs h) (logs_at stepped.logs h) more same)))
      none (inr (inr stopped)) = nothing (inr (inr stopped))

  pub gone_on : (at : Option Taken) (x : Taken) → at ≡ Some x
      → IfSome at (λ (taken : Taken). GoesAlone w taken.host.0 stepped)
      → IfSome at (λ (taken : Taken).
      HasMoreIf taken.handled (logs_at w.logs taken.host.0) (logs_at stepped.logs taken.host.0))
      → ((start : Start) → IsSound start w → IsStepped start w stepped (is_some at))
      → ((start : Start) → IsSound start w → IsStepped start w t true)
      → (x.handled ≡ true → KeepsStep stepped x.host.0 old → HasKeptStep stepped x.host.0 old new counts t)
      → (IsNotKept x.handled stepped x.host.0 → (t ≡ stepped) × (new ≡ old)) → HasGoneOn w old new counts t
  gone_on None x is alone more driven goes kept nothing = absurd cc
  gone_on (Some y) x is alone more driven goes kept nothing =
      let same : y ≡ x = cc in
      of_taken x.host.0 x.handled (subst (λ (taken : Taken). GoesAlone w taken.host.0 stepped) same alone)
      (subst (λ (taken : Taken).
      HasMoreIf taken.handled (logs_at w.logs taken.host.0) (logs_at stepped.logs taken.host.0)) same more)
      driven goes kept nothing

-- and one more
pub way_further : (w : Whole) (old : Disks) (between : Whole) (disks : Disks) (t : Whole) (new : Disks)
    (counts : List ℕ) (went : Bool) → went ≡ true → WayOn w old between disks
    → (went ≡ true → HasGoneOn between disks new counts t) → WayOn w old t new
way_further w old between disks t new counts true is way gone =
    (suc way.0, (between, (disks, (counts, (way.1, gone refl)))))
way_further w old between disks t new counts false is way gone = absurd (true≢false (sym is))

-- nothing was under way any more
pub way_ends : (w : Whole) (old : Disks) (between : Whole) (disks : Disks) (t : Whole) (new : Disks) (went : Bool)
    → went ≡ false → WayOn w old between disks → IsWorld between
    → ((start : Start) → IsSound start between → IsStepped start between t went)
    → (went ≡ false → new ≡ disks) → WayOn w old t new
way_ends w old between disks t new true ended way is stepped same = absurd (true≢false ended)
way_ends w old between disks t new false ended way is stepped same =
    let still = stepped is.start is.sound in
    subst (λ v. WayOn w old v new) (sym still.0) (subst (λ e. WayOn w old between e) (sym (same refl)) way)
