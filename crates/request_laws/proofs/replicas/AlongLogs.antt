-- What is so of the rows of a member and their saver as they begin, and stays so at each installation and at each
-- signal, is so after every log of their host. For what is of rows alone: at each signal that they take, and where
-- their journal gives up redo.
use Rattle.std.proofs.Common.{◌≡◌, ◌⊎◌, ◌∙◌, ℕ, true, List, [], ◌∷◌, inl, inr, refl, sym, ap, subst}
use Rattle.run_theory.specs.Lists.{IsIn}
use Rattle.sig_core.specs.declared.member.Member.{Member}
use Rattle.sig_core.specs.declared.outs.Outgoing.{Outgoing}
use Rattle.sig_core.specs.declared.place.BlockId.{BlockId}
use Rattle.sig_core.specs.declared.place.BlockId.TheVariants as block
use Rattle.sig_core.specs.declared.signal.Signal.{Signal}
use Rattle.sig_core.specs.declared.view.View.{View}
use Rattle.sig_core.specs.Rows.{no_rows}
use Rattle.frag_map.specs.Layout.{first_layout}
use Rattle.row_locks.proofs.TableLawLemmas.{empty_orderly}
use Rattle.lqh_block.specs.Fresh.{no_outlet, unused}
use Rattle.lqh_views.specs.Replica.{fresh_replica, installed, replica_row}
use Rattle.lqh_views.specs.State.{ReplicaState}
use Rattle.lqh_saver.specs.Saver.{fresh_saver, saver_installed, saver_row}
use Rattle.lqh_saver.specs.State.{SavingState, saving}
use Rattle.lqh_saver.specs.Switching.{given_up, has_position}
use Rattle.lqh_saver.proofs.StepLemmas.{saver_rows}
use Rattle.node_core.specs.Fresh.{own_rows, with_rows}
use Rattle.node_views.specs.declared.host_body.HostBody as hosts
use Rattle.node_views.specs.declared.ldm_part.LdmPart.{LdmPart}
use Rattle.node_views.specs.declared.parts.Parts.{Parts}
use Rattle.node_views.specs.declared.parts.Parts.TheVariants.{Ldm}
use Rattle.node_views.specs.Parts.{ldm_row}
use Rattle.world_core.specs.Start.{NobodyStarts, Start, made}
use Rattle.world_core.specs.Steps.{HostStep}
use Rattle.world_views.specs.Machine.{after}
use Rattle.moment_laws.specs.PartSteps.{PartEnters, PartTakes, handles, ignores, installs, ldm_kind, remains}
use Rattle.moment_laws.specs.Places.{ldm_of}
use Rattle.moment_laws.proofs.MomentHosts.{ldm_started}
use Rattle.host_laws.proofs.rows.Replicas.{put_placed}
use Rattle.host_laws.specs.ReplicaLaws.{IsWell}
use Rattle.request_laws.specs.Blocks.{no_replica, rows_after, rows_in, saver_in, saving_after}
use Rattle.request_laws.specs.Waiting.{RowsAreWell}
use Rattle.request_laws.proofs.replicas.KeyEvents.{installations_keep_well, signals_keep_well}
use Rattle.request_laws.proofs.routes.PartSteps.{LdmStep, own_ldm}
use Rattle.request_laws.proofs.routes.Layouts.{runs_ldm}

-- the rows of a member as they begin, and with their saver
abbrev pub first_rows : Start → Member → ReplicaState
first_rows start member =
    fresh_replica member.node (first_layout start.shape)
    (with_rows no_rows (own_rows start.shape member.node start.rows) start.start_epoch)
    unused no_outlet start.start_epoch

abbrev pub first_saving : Start → Member → SavingState
first_saving start member = saving (first_rows start member) (fresh_saver start.start_epoch 0)

-- A step of their host: a view may be installed in them, and then they may take the signal.
pub record SavingStep (x : Signal) (s t : SavingState) : Type 0 where
  pub between : SavingState
  pub enters : (between ≡ s) ⊎ (between ≡ saver_installed s x.view)
  pub takes : (t ≡ between) ⊎ (t ≡ (saver_row between x).state)

-- the rows and the saver of a part
abbrev of_part : LdmPart → SavingState
of_part p = saving p.replica p.saver

module _ (start : Start) (nobody : NobodyStarts start) (member : Member) (there : IsIn member (made start)) where
  -- those that a host runs
  abbrev saving_in : Parts → SavingState
  saving_in parts =
      saving (rows_in (no_replica start member) parts) (saver_in (fresh_saver start.start_epoch 0) parts)

  pub saving_first : saving_after start member [] ≡ first_saving start member
  saving_first = ap (λ (s : hosts.HostBody). saving_in s.parts) (ldm_started start nobody member there)

  pub saving_step : (log : List HostStep) (e : HostStep)
      → SavingStep e.step.taken (saving_after start member log) (saving_after start member (e ∷ log))
  unfolding ldm_row
  saving_step log e = record {
    between = of_part step.does.between;
    enters = entered step.does.enters;
    takes = taken step.does.takes;
  }
    where
      step : LdmStep start (ldm_of start member) log e
      step = own_ldm start nobody member there log e

      before : saving_after start member log ≡ of_part step.own
      before = ap saving_in step.runs

      behind : saving_after start member (e ∷ log) ≡ of_part step.does.own
      behind = ap saving_in step.does.is

      entered : {stood seen : View} {front : List Outgoing}
          → PartEnters ldm_kind step.own stood e.step.taken step.does.between seen front
          → (of_part step.does.between ≡ saving_after start member log)
          ⊎ (of_part step.does.between ≡ saver_installed (saving_after start member log) e.step.taken.view)
      entered (remains same stands none) = inl (ap of_part same ∙ sym before)
      entered (installs above same stands none) =
          inr (ap of_part same ∙ sym (ap (λ (s : SavingState). saver_installed s e.step.taken.view) before))

      row : (b : BlockId) → step.does.own ≡ (ldm_row step.does.between b e.step.taken).state
          → (saving_after start member (e ∷ log) ≡ of_part step.does.between)
          ⊎ (saving_after start member (e ∷ log) ≡ (saver_row (of_part step.does.between) e.step.taken).state)
      row block.Lqh is = inr (behind ∙ ap of_part is)
      row _ is = inl (behind ∙ ap of_part is)

      taken : {seen : View} {rest : List Outgoing}
          → PartTakes ldm_kind start.shape step.does.between seen e.step.taken step.does.own rest
          → (saving_after start member (e ∷ log) ≡ of_part step.does.between)
          ⊎ (saving_after start member (e ∷ log) ≡ (saver_row (of_part step.does.between) e.step.taken).state)
      taken (ignores same none) = inl (behind ∙ ap of_part same)
      taken (handles passed same sends) = row e.step.taken.to.block same

  module _ (So : SavingState → Type 0) (row : (s : SavingState) (x : Signal) → So s → So (saver_row s x).state)
      (install : (s : SavingState) (view : View) → So s → So (saver_installed s view))
      (first : So (first_saving start member))
    where
      keeps : (x : Signal) (s t : SavingState) → SavingStep x s t → So s → So t
      keeps x s t step so = behind step.takes
        where
          entered : (step.between ≡ s) ⊎ (step.between ≡ saver_installed s x.view) → So step.between
          entered (inl same) = subst So (sym same) so
          entered (inr set) = subst So (sym set) (install s x.view so)

          behind : (t ≡ step.between) ⊎ (t ≡ (saver_row step.between x).state) → So t
          behind (inl same) = subst So (sym same) (entered step.enters)
          behind (inr took) = subst So (sym took) (row step.between x (entered step.enters))

      pub always_saving : (log : List HostStep) → So (saving_after start member log)
      always_saving [] = subst So (sym saving_first) first
      always_saving (e ∷ log) =
          keeps e.step.taken (saving_after start member log) (saving_after start member (e ∷ log)) (saving_step log e)
          (always_saving log)

-- a host runs rows of which it is so
pub record AreRows (So : ReplicaState → Type 0) (parts : Parts) : Type 0 where
  pub part : LdmPart
  pub is : parts ≡ Ldm part
  pub so : So part.replica

module _ (So : ReplicaState → Type 0) (row : (s : ReplicaState) (x : Signal) → So s → So (replica_row s x).state)
    (install : (s : ReplicaState) (view : View) → So s → So (installed s view))
    (give : (s : ReplicaState) (at : ℕ) → has_position s.lqh.outlet at ≡ true → So s → So (given_up s at))
    (start : Start) (nobody : NobodyStarts start) (member : Member) (there : IsIn member (made start))
    (first : So (first_rows start member))
  where
    pub always : (log : List HostStep) → So (rows_after start member log)
    always =
        always_saving start nobody member there (λ s. So s.replica)
        (λ s x so. saver_rows s x So so (row s.replica x so) (λ at has. give s.replica at has so))
        (λ s view so. install s.replica view so) first

    pub rows_so : (log : List HostStep) → AreRows So (after start (ldm_of start member) log).parts
    rows_so log =
        let at = runs_ldm start nobody member there log in
        record {
          part = at.own;
          is = at.runs;
          so = subst So (ap (rows_in (no_replica start member)) at.runs) (always log);
        }

pub first_well : (start : Start) (member : Member) → IsWell (first_rows start member).lqh
first_well start member = record {
  placed = put_placed no_rows (own_rows start.shape member.node start.rows) start.start_epoch tt refl;
  orderly = empty_orderly;
}

-- where redo is given up they stay well
pub given_up_well : (s : ReplicaState) (at : ℕ) → has_position s.lqh.outlet at ≡ true → IsWell s.lqh
    → IsWell (given_up s at).lqh
given_up_well s at has well = record { placed = well.placed; orderly = well.orderly }

pub rows_well : RowsAreWell
rows_well start nobody member there =
    always (λ s. IsWell s.lqh) signals_keep_well installations_keep_well given_up_well start nobody member there
    (first_well start member)
