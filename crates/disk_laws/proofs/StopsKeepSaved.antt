-- A step by which a host with rows stops leaves the epoch that they noted as saved.
use Rattle.std.proofs.Common.{◌≡◌, ◌||◌, ◌∙◌, ℕ, zero, suc, Bool, true, false, nat_lt, List, [], ◌∷◌, refl, ap, sym}
use Rattle.std.proofs.Common.{subst}
use Rattle.std.proofs.lemmas.Bool.{or_from, true≢false}
use Rattle.std.specs.List.{list_any}
use Rattle.std.specs.Prelude.{not, Option, None, Some}
use Rattle.run_theory.specs.Lists.{Each}
use Rattle.sig_core.specs.declared.mark.Mark.{Mark}
use Rattle.sig_core.specs.declared.mark.Mark.TheVariants.{Stopped}
use Rattle.sig_core.specs.declared.member.HostId.{HostId}
use Rattle.sig_core.specs.declared.outcome.StopCause.{StopCause}
use Rattle.sig_core.specs.declared.signal.Body.{Body}
use Rattle.sig_core.specs.declared.signal.Body.TheVariants.{Host}
use Rattle.sig_core.specs.declared.signal.Signal.{Signal}
use Rattle.sig_core.specs.declared.signal.host.HostSignal.TheVariants.{Closed, Cut, Kill}
use Rattle.sig_core.specs.Step.{Step}
use Rattle.api_views.specs.Members.{same_member}
use Rattle.lqh_views.specs.Words.{is_replica_mark}
use Rattle.node_views.specs.declared.host_body.HostBody as hosts
use Rattle.node_views.specs.declared.ldm_part.LdmPart.{LdmPart}
use Rattle.node_views.specs.declared.parts.Parts.{Parts}
use Rattle.node_views.specs.declared.parts.Parts.TheVariants as part
use Rattle.node_views.specs.declared.standing.Standing.{Standing}
use Rattle.node_views.specs.Row.{blocks_row, closed_if, counted_row, cut_if, entered, entering_if, headed_if}
use Rattle.node_views.specs.Row.{headed_row}
use Rattle.node_views.specs.Row.{host_row, host_table, is_barred, is_cut, is_excluded, is_stop, kill_row, killed_after}
use Rattle.node_views.specs.Row.{passed_if, passed_row, taken_if}
use Rattle.node_views.specs.Saving.{saved_by}
use Rattle.node_views.specs.WellFormed.{is_first, is_well_formed}
use Rattle.node_views.proofs.WordWalk.{parts_speak}
use Rattle.step_forms.specs.Does.{IsAmong}
use Rattle.world_views.specs.Machine.{own_stop, step_by, step_if}

-- the rows tell of no stop
no_stop : (marks : List Mark) → Each (IsAmong is_replica_mark) marks → list_any is_stop marks ≡ false
no_stop [] all = refl
no_stop (mark ∷ marks) all = or_from (is_stop mark) (list_any is_stop marks) (one mark all.0) (no_stop marks all.1)
  where
    one : (m : Mark) → is_replica_mark m ≡ true → is_stop m ≡ false
    one (Stopped cause) is = absurd (true≢false (sym is))
    one m is = refl

-- where a step stops the host, its rows have noted this epoch
abbrev IfStops : ℕ → Step hosts.HostBody → Type 0
IfStops saved t = list_any is_stop t.effects.marks ≡ true → saved_by t.state.parts ≡ saved

-- a host with these rows
abbrev with_rows : Standing → LdmPart → hosts.HostBody
with_rows standing p = record { standing = standing; parts = part.Ldm p }

unstopped : (saved : ℕ) (t : Step hosts.HostBody) → list_any is_stop t.effects.marks ≡ false → IfStops saved t
unstopped saved t none stops = absurd (true≢false (sym stops ∙ none))

module _ (x : Signal) where
  module _ (standing : Standing) (p : LdmPart) where
    abbrev s : hosts.HostBody
    s = with_rows standing p

    abbrev saved : ℕ
    saved = p.replica.saved

    blocks_keep : IfStops saved (blocks_row s x)
    unfolding blocks_row
    blocks_keep = unstopped saved (blocks_row s x) (no_stop _ (parts_speak (part.Ldm p) x).1)

    kill_keeps : (after : ℕ) → IfStops saved (kill_row s after)
    kill_keeps zero = λ stops. refl
    kill_keeps (suc after) = unstopped saved (kill_row s (suc after)) refl

    cut_keeps : (host : HostId) (b : Bool) → IfStops saved (cut_if s host b)
    cut_keeps host true = unstopped saved (cut_if s host true) refl
    cut_keeps host false = unstopped saved (cut_if s host false) refl

    closed_keeps : (b : Bool) → IfStops saved (closed_if s x b)
    closed_keeps true = λ stops. refl
    closed_keeps false = blocks_keep

    table_keeps : (body : Body) → IfStops saved (host_table s x body)
    table_keeps (Host (Kill after)) = kill_keeps after
    table_keeps (Host (Cut node host)) = cut_keeps host (is_cut s.standing host || not (is_first host))
    table_keeps (Host (Closed cause)) = closed_keeps (same_member s.standing.member x.member)
    table_keeps body = blocks_keep

    passed_keeps : IfStops saved (passed_row s x)
    unfolding passed_row
    passed_keeps = by (is_barred s x)
      where
        by : (b : Bool) → IfStops saved (passed_if s x b)
        by true = unstopped saved (passed_if s x true) refl
        by false = table_keeps x.body

  headed_keeps : (standing : Standing) (p : LdmPart) → IfStops p.replica.saved (headed_row (with_rows standing p) x)
  unfolding headed_row entered
  headed_keeps standing p = by (nat_lt standing.view.number x.view.number)
    where
      among : (b : Bool) → IfStops p.replica.saved (entering_if (with_rows standing p) x b)
      among true stops = refl
      among false stops = passed_keeps _ _ stops

      by : (b : Bool) → IfStops p.replica.saved (headed_if (with_rows standing p) x b)
      by true = among (is_excluded standing x.view)
      by false = passed_keeps standing p

  counted_keeps : (standing : Standing) (p : LdmPart) (left : Option ℕ)
      → IfStops p.replica.saved (counted_row (with_rows standing p) x left)
  counted_keeps standing p None = headed_keeps standing p
  counted_keeps standing p (Some zero) = λ stops. refl
  counted_keeps standing p (Some (suc zero)) = λ stops. refl
  counted_keeps standing p (Some (suc (suc left))) = headed_keeps (killed_after standing (Some (suc left))) p

  row_keeps : (standing : Standing) (p : LdmPart) → IfStops p.replica.saved (host_row (with_rows standing p) x)
  unfolding host_row
  row_keeps standing p = by (is_well_formed standing.shape x)
    where
      by : (b : Bool) → IfStops p.replica.saved (taken_if (with_rows standing p) x b)
      by true = counted_keeps standing p standing.left
      by false = unstopped p.replica.saved (taken_if (with_rows standing p) x false) refl

  -- whatever signal it is
  pub step_keeps : (h : ℕ) (now : hosts.HostBody) (p : LdmPart) → now.parts ≡ part.Ldm p
      → list_any is_stop (step_by h now x).effects.marks ≡ true
      → saved_by (step_by h now x).state.parts ≡ p.replica.saved
  step_keeps h now p runs = subst Keeps (sym same) (by (own_stop h x))
    where
      Keeps : hosts.HostBody → Type 0
      Keeps host = IfStops p.replica.saved (step_by h host x)

      same : now ≡ with_rows now.standing p
      same = ap (λ (parts : Parts). record { standing = now.standing; parts = parts }) runs

      by : (o : Option StopCause) → IfStops p.replica.saved (step_if (with_rows now.standing p) x o)
      by (Some cause) = λ stops. refl
      by None = row_keeps now.standing p
