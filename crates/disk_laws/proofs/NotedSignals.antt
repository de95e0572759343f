-- What a disk keeps of a host that coordinates for a member: an epoch that a signal says is durable, or nothing.
use Rattle.std.proofs.Common.{◌≡◌, ◌∙◌, ◌&&◌, ℕ, Bool, true, false, not, List, [], ◌∷◌, refl, ap, sym, subst, inl}
use Rattle.std.specs.Prelude.{Option, None, Some}
use Rattle.std.proofs.lemmas.Bool.{and_parts}
use Rattle.run_theory.specs.Lists.{IsIn}
use Rattle.sig_core.specs.declared.member.Member.{Member}
use Rattle.sig_core.specs.declared.signal.Body.{Body}
use Rattle.sig_core.specs.declared.signal.Body.TheVariants.{Epoch}
use Rattle.sig_core.specs.declared.signal.Signal.{Signal}
use Rattle.sig_core.specs.declared.signal.epoch.EpochSignal.TheVariants.{CopyGciReq}
use Rattle.sig_core.specs.declared.view.Shape.{Shape}
use Rattle.sig_core.specs.Journal.{OutletState}
use Rattle.node_views.specs.declared.host_body.HostBody.{HostBody}
use Rattle.node_views.specs.Row.{is_barred}
use Rattle.node_views.specs.Saving.{outlet_of, saved_by}
use Rattle.node_views.specs.WellFormed.{is_body_sound, is_mask, is_sender, is_view, is_well_formed}
use Rattle.lqh_saver.specs.declared.stage.Todo.{Todo}
use Rattle.lqh_saver.specs.declared.stage.Todo.TheVariants as todo
use Rattle.moment_laws.specs.Places.{tc_of}
use Rattle.request_laws.proofs.routes.Layouts.{runs_tc}
use Rattle.view_laws.proofs.eras.Shapes.{shape_stays}
use Rattle.world_core.specs.Start.{NobodyStarts, Start, made}
use Rattle.world_core.specs.Steps.{HostStep}
use Rattle.world_views.specs.Disks.{newest_taken}
use Rattle.world_views.specs.Machine.{after, has_stopped}
use Rattle.disk_world.specs.Keeping.{DurableAt, Kept, NothingNew, durable_by, durable_if, durable_in}
use Rattle.disk_world.specs.Keeping.{kept_beside, kept_of, kept_unless, todo_in}
use Rattle.disk_laws.specs.Noted.{WasNoted}
use Rattle.disk_laws.proofs.GoneLemmas.{kept_behind}

-- a signal says that an epoch is durable, at some members of the shape
pub record SaysDurable (shape : Shape) (x : Signal) (epoch mask : ℕ) : Type 0 where
  pub body : x.body ≡ Epoch (CopyGciReq epoch mask)
  pub named : is_mask shape mask ≡ true

pub same_epoch : (a b c d : ℕ) → DurableAt a b ≡ DurableAt c d → a ≡ c
same_epoch a b c d same = cc

same_mask : (a b c d : ℕ) → DurableAt a b ≡ DurableAt c d → b ≡ d
same_mask a b c d same = cc

-- what is durable by a body is what it says
pub body_says : (body : Body) (epoch mask : ℕ) → durable_by body ≡ DurableAt epoch mask
    → body ≡ Epoch (CopyGciReq epoch mask)
body_says (Epoch (CopyGciReq other others)) epoch mask is =
    ap (λ (e : ℕ). Epoch (CopyGciReq e others)) (same_epoch other others epoch mask is)
    ∙ ap (λ (m : ℕ). Epoch (CopyGciReq epoch m)) (same_mask other others epoch mask is)
body_says body epoch mask is = absurd cc

mask_sound : (shape : Shape) (x : Signal) (epoch mask : ℕ) → is_well_formed shape x ≡ true
    → x.body ≡ Epoch (CopyGciReq epoch mask) → is_mask shape mask ≡ true
unfolding is_well_formed
mask_sound shape x epoch mask sound is =
    subst (λ body. is_body_sound shape body ≡ true) is
    (and_parts (is_sender shape x.member && is_view shape x.view) (is_body_sound shape x.body) sound).1

-- what a disk keeps of a host with rows is no epoch that is durable
pub no_durable : (saved : ℕ) (redo : OutletState) (it : Todo) (epoch mask : ℕ)
    → kept_unless saved redo it ≡ DurableAt epoch mask → ⊥
no_durable saved redo todo.Nothing epoch mask is = cc
no_durable saved redo (todo.Write piece) epoch mask is = cc
no_durable saved redo todo.Sync epoch mask is = cc
no_durable saved redo (todo.Name finished) epoch mask is = cc

-- one that a disk keeps was well formed
pub kept_says : (s : HostBody) (x : Signal) (epoch mask : ℕ) → kept_of s (Some x) ≡ DurableAt epoch mask
    → SaysDurable s.standing.shape x epoch mask
kept_says s x epoch mask is = by (outlet_of s.parts) is
  where
    passed : (sound free : Bool) → is_well_formed s.standing.shape x ≡ sound
        → durable_if (sound && free) x ≡ DurableAt epoch mask → SaysDurable s.standing.shape x epoch mask
    passed true true e so =
        let says = body_says x.body epoch mask so in
        record { body = says; named = mask_sound s.standing.shape x epoch mask e says }
    passed true false e so = absurd cc
    passed false free e so = absurd cc

    by : (o : Option OutletState) → kept_beside o s (Some x) ≡ DurableAt epoch mask
        → SaysDurable s.standing.shape x epoch mask
    by (Some redo) so = absurd (no_durable (saved_by s.parts) redo (todo_in s (Some x)) epoch mask so)
    by None so = passed (is_well_formed s.standing.shape x) (not (is_barred s x)) refl so

-- a host without rows keeps nothing, or an epoch
pub record IsDurable (kept : Kept) : Type 0 where
  pub epoch : ℕ
  pub mask : ℕ
  pub is : kept ≡ DurableAt epoch mask

pub data IsNoRows (kept : Kept) : Type 0 where
  nothing : kept ≡ NothingNew → IsNoRows kept
  durable : IsDurable kept → IsNoRows kept

by_body : (body : Body) → IsNoRows (durable_by body)
by_body (Epoch (CopyGciReq epoch mask)) = durable (record { epoch = epoch; mask = mask; is = refl })
by_body body = nothing refl

pub no_rows : (s : HostBody) (taken : Option Signal) → outlet_of s.parts ≡ None → IsNoRows (kept_of s taken)
no_rows s taken none = subst (λ o. IsNoRows (kept_beside o s taken)) (sym none) (by taken)
  where
    if_passed : (b : Bool) (x : Signal) → IsNoRows (durable_if b x)
    if_passed true x = by_body x.body
    if_passed false x = nothing refl

    by : (taken : Option Signal) → IsNoRows (durable_in s taken)
    by None = nothing refl
    by (Some x) = if_passed (is_well_formed s.standing.shape x && not (is_barred s x)) x

-- so it is with the host that coordinates for a member
module _ (start : Start) (member : Member) (there : IsIn member (made start)) where
  no_outlet : NobodyStarts start → (log : List HostStep) → outlet_of (after start (tc_of start member) log).parts ≡ None
  no_outlet nobody log = ap outlet_of (runs_tc start nobody member there log).runs

  abbrev pub noted : List HostStep → Kept
  noted log = kept_behind start (tc_of start member) log

  pub noted_no_rows : NobodyStarts start → (log : List HostStep) → IsNoRows (noted log)
  noted_no_rows nobody log = no_rows (after start (tc_of start member) log) (newest_taken log) (no_outlet nobody log)

  -- what it notes comes of its newest step
  pub none_noted : NobodyStarts start → noted [] ≡ NothingNew
  none_noted nobody = ap (λ o. kept_beside o (after start (tc_of start member) []) None) (no_outlet nobody [])

  pub noted_mask : NobodyStarts start → (e : HostStep) (log : List HostStep) (epoch mask : ℕ)
      → noted (e ∷ log) ≡ DurableAt epoch mask
      → is_mask start.shape mask ≡ true
  noted_mask nobody e log epoch mask is =
      subst (λ (shape : Shape). is_mask shape mask ≡ true) (shape_stays start nobody (tc_of start member) (e ∷ log))
      (kept_says (after start (tc_of start member) (e ∷ log)) e.step.taken epoch mask is).named

  -- and one that it notes while the host runs was noted
  pub was_noted : NobodyStarts start → (log : List HostStep) (epoch mask : ℕ) → has_stopped log ≡ false
      → noted log ≡ DurableAt epoch mask
      → WasNoted start (tc_of start member) log epoch mask
  was_noted nobody [] epoch mask runs is = let none = none_noted nobody in absurd cc
  was_noted nobody (e ∷ log) epoch mask runs is = inl (runs, is)
