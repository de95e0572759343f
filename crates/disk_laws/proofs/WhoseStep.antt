-- Whose step it was, for what the disk of a member's node has: the host of the rows made one, or the one that
-- coordinates, and the disk was to keep something of it; or the disk tells what it told.
use Rattle.std.proofs.Common.{◌≡◌, ◌≢◌, ◌∙◌, ◌⊎◌, ◌-◌, ◌≤◌, ◌<◌, ℕ, Bool, true, false, List, ◌∷◌, length, get_or}
use Rattle.std.proofs.Common.{refl, ap, sym, subst, inl, inr}
use Rattle.std.specs.Prelude.{None, Option, Some}
use Rattle.std.proofs.lemmas.Bool.{cases_eq}
use Rattle.host_io.specs.Call.{Call}
use Rattle.host_io.specs.Image.{IsRecord}
use Rattle.redo_log.specs.Stored.{files_of}
use Rattle.run_theory.specs.Lists.{IsIn, IsPast}
use Rattle.run_theory.specs.Logs.{IsLog}
use Rattle.run_theory.proofs.Pasts.{past_more, past_self}
use Rattle.sig_core.specs.declared.member.Member.{Member}
use Rattle.sig_core.specs.declared.outcome.StopCause.TheVariants.{Disk}
use Rattle.sig_core.specs.declared.slots.SystemSlot.{SystemSlot}
use Rattle.sig_core.specs.Table.{Rows}
use Rattle.sysfile_core.specs.Runs.{Runs}
use Rattle.node_disk.specs.Slots.{SlotsInUse}
use Rattle.world_core.specs.Hosts.{hosts}
use Rattle.world_core.specs.Start.{Start, made}
use Rattle.world_core.specs.Steps.{HostStep}
use Rattle.world_core.specs.World.{logs_at}
use Rattle.world_views.specs.Driven.{IsSound}
use Rattle.world_views.specs.Machine.{has_stopped, machine}
use Rattle.world_views.specs.World.{Whole, stopped}
use Rattle.moment_laws.specs.Places.{ldm_of, tc_of}
use Rattle.moment_laws.proofs.MomentHosts.{ldm_member, tc_member}
use Rattle.disk_world.specs.Disks.{Disks, HasGoneOn, HasKept}
use Rattle.disk_world.specs.Keeping.{DurableAt, Kept, NothingNew, calls_of}
use Rattle.disk_laws.specs.OnDisk.{KeepsNoted, KeepsUp}
use Rattle.disk_laws.proofs.GoneLemmas.{Comes, HasFailedStop, as_was, comes, failed_stop, fails, keeps, kept_behind}
use Rattle.disk_laws.proofs.GoneLemmas.{logs_same, place_is, place_of, ran_before, sound_still}
use Rattle.disk_laws.proofs.NotedSignals.{IsNoRows, durable, noted, noted_no_rows, nothing}
use Rattle.disk_laws.proofs.OtherHosts.{others_keep_nothing}
use Rattle.disk_laws.proofs.RecordLemmas.{runs_tell}

module _ (start : Start) (member : Member) (before : Rows) (first : SystemSlot) (w t : Whole) (old new : Disks)
    (counts : List ℕ) (sound : IsSound start w) (there : IsIn member (made start))
    (gone : HasGoneOn w old new counts t) (up : KeepsUp start member before first w old) where
  abbrev d : ℕ
  d = member.node - 1

  abbrev tc : ℕ
  tc = tc_of start member

  abbrev ldm : ℕ
  ldm = ldm_of start member

  abbrev log_of : ℕ → List HostStep
  log_of g = logs_at gone.stepped.logs g

  abbrev told_now : Option (List Call)
  told_now = get_or new.told d None

  pub record_kept : IsRecord up.calls
  record_kept = by up.is.noted
    where
      by : KeepsNoted start member before first (logs_at w.logs tc) up.slots up.calls → IsRecord up.calls
      by (inl has) = has.slot.kept
      by (inr leaves) = leaves.kept

  -- the disk was to keep this, and that is what it tells
  pub record HasMade (what : Kept) : Type 0 where
    pub ok : Bool
    pub calls : List Call
    pub told : told_now ≡ Some calls
    pub kept : IsRecord calls
    pub grows : length up.calls ≤ length calls
    pub runs : Runs (calls_of (files_of up.calls) up.slots what) up.calls (Some calls) ok

  -- it was to keep what comes of a step of the rows
  pub record RowsStep : Type 0 where
    pub step : HostStep
    pub more : log_of ldm ≡ step ∷ logs_at w.logs ldm
    pub local : IsLog (machine start) ldm (log_of ldm)
    pub ran : has_stopped (logs_at w.logs ldm) ≡ false
    pub runs : has_stopped (log_of ldm) ≡ false
    pub since : IsPast (log_of ldm) (logs_at t.logs ldm)
    pub made : HasMade (kept_behind start ldm (log_of ldm))

  -- it was to note an epoch that is durable
  pub record NotingStep : Type 0 where
    pub ran : has_stopped (logs_at w.logs tc) ≡ false
    pub epoch : ℕ
    pub mask : ℕ
    pub is : noted start member there (log_of tc) ≡ DurableAt epoch mask
    pub made : HasMade (DurableAt epoch mask)

  pub data WhoseStep : Type 0 where
    of_none : told_now ≡ Some up.calls → WhoseStep
    of_rows : RowsStep → WhoseStep
    of_noting : NotingStep → WhoseStep

  -- a host that runs made a step
  module _ (ok : Bool) (low : gone.host < hosts start) (runs : has_stopped (log_of gone.host) ≡ false)
      (step : HostStep) (more : log_of gone.host ≡ step ∷ logs_at w.logs gone.host) where
    abbrev HasAsked : ℕ → Type 0
    HasAsked g = HasKept (kept_behind start g (log_of g)) (place_of start g) old new ok

    still : IsSound start gone.stepped
    still = sound_still start w t old new counts sound gone

    local : IsLog (machine start) gone.host (log_of gone.host)
    local = still.right.local gone.host low

    ran : has_stopped (logs_at w.logs gone.host) ≡ false
    ran = ran_before start gone.host (logs_at w.logs gone.host) (log_of gone.host) gone.alone.own local runs

    -- what a host had kept, where its node's disk is this one
    made_of : (g : ℕ) (what : Kept) → place_of start g ≡ d → kept_behind start g (log_of g) ≡ what → HasAsked g
        → HasMade what
    made_of g what here is has =
        let asks = calls_of (files_of up.calls) up.slots what in
        let asked = subst RunsSo is (subst UsedSo (up.slots_are up.slots) (at_d.runs up.calls up.slots up.told)) in
        let tells = runs_tell asks up.calls told_now ok record_kept asked in
        record {
          ok = ok;
          calls = tells.calls;
          told = tells.is;
          kept = tells.kept;
          grows = tells.grows;
          runs = subst (λ o. Runs asks up.calls o ok) tells.is asked;
        }
      where
        RunsSo : Kept → Type 0
        RunsSo kept = Runs (calls_of (files_of up.calls) up.slots kept) up.calls told_now ok

        UsedSo : SlotsInUse → Type 0
        UsedSo s = Runs (calls_of (files_of up.calls) s (kept_behind start g (log_of g))) up.calls told_now ok

        at_d : HasKept (kept_behind start g (log_of g)) d old new ok
        at_d = subst (λ (at : ℕ). HasKept (kept_behind start g (log_of g)) at old new ok) here has

    none_of : HasMade NothingNew → WhoseStep
    none_of made_so = of_none (made_so.told ∙ made_so.runs.0)

    -- it has the rows
    rows_go : IsPast (log_of ldm) (logs_at t.logs ldm) → gone.host ≡ ldm → HasAsked ldm → WhoseStep
    rows_go since is has =
        of_rows (record {
          step = step;
          more = subst (λ (g : ℕ). log_of g ≡ step ∷ logs_at w.logs g) is more;
          local = subst (λ (g : ℕ). IsLog (machine start) g (log_of g)) is local;
          ran = subst (λ (g : ℕ). has_stopped (logs_at w.logs g) ≡ false) is ran;
          runs = subst (λ (g : ℕ). has_stopped (log_of g) ≡ false) is runs;
          since = since;
          made =
              made_of ldm (kept_behind start ldm (log_of ldm))
              (place_is start member ldm (ldm_member start sound.right.nobody member there)) refl has;
        })

    -- it coordinates
    noting_goes : gone.host ≡ tc → HasAsked tc → WhoseStep
    noting_goes at has = by (noted_no_rows start member there sound.right.nobody (log_of tc))
      where
        made_so : (what : Kept) → noted start member there (log_of tc) ≡ what → HasMade what
        made_so what is =
            made_of tc what (place_is start member tc (tc_member start sound.right.nobody member there)) is has

        by : IsNoRows (noted start member there (log_of tc)) → WhoseStep
        by (nothing is) = none_of (made_so NothingNew is)
        by (durable one) =
            of_noting (record {
              ran = subst (λ (g : ℕ). has_stopped (logs_at w.logs g) ≡ false) at ran;
              epoch = one.epoch;
              mask = one.mask;
              is = one.is;
              made = made_so (DurableAt one.epoch one.mask) one.is;
            })

    -- it is neither
    other_goes : 1 ≤ gone.host → gone.host ≢ ldm → gone.host ≢ tc → HasAsked gone.host
        → (d ≡ place_of start gone.host) ⊎ (d ≡ place_of start gone.host → ⊥) → WhoseStep
    other_goes some not_rows not_tc has (inl here) =
        none_of
        (made_of gone.host NothingNew (sym here)
        (others_keep_nothing start gone.stepped still member there gone.host some low not_rows not_tc (sym here)) has)
    other_goes some not_rows not_tc has (inr elsewhere) = of_none (has.others d elsewhere ∙ up.told)

    step_of : 1 ≤ gone.host → IsPast (log_of ldm) (logs_at t.logs ldm) → HasAsked gone.host → WhoseStep
    step_of some since has = by (cases_eq gone.host ldm) (cases_eq gone.host tc)
      where
        by : (gone.host ≡ ldm) ⊎ (gone.host ≡ ldm → ⊥) → (gone.host ≡ tc) ⊎ (gone.host ≡ tc → ⊥) → WhoseStep
        by (inl rows) either = rows_go since rows (subst HasAsked rows has)
        by (inr not_rows) (inl noting) = noting_goes noting (subst HasAsked noting has)
        by (inr not_rows) (inr not_tc) =
            other_goes some not_rows not_tc has (cases_eq d (place_of start gone.host))

  -- no host stopped since, or the one that went on
  since_same : t ≡ gone.stepped → IsPast (log_of ldm) (logs_at t.logs ldm)
  since_same same =
      subst (IsPast (log_of ldm)) (sym (logs_same start w t old new counts sound gone same ldm))
      (past_self (log_of ldm))

  since_failed : (count : ℕ) → gone.host < hosts start → t ≡ stopped gone.stepped gone.host (Disk count) 1
      → IsPast (log_of ldm) (logs_at t.logs ldm)
  since_failed count low same = by (cases_eq gone.host ldm)
    where
      failed : HasFailedStop start w t old new counts sound gone count
      failed = failed_stop start w t old new counts sound gone count low same

      by : (gone.host ≡ ldm) ⊎ (gone.host ≡ ldm → ⊥) → IsPast (log_of ldm) (logs_at t.logs ldm)
      by (inl is) =
          subst (IsPast (log_of ldm)) (sym (subst (λ (g : ℕ). logs_at t.logs g ≡ failed.stop ∷ log_of g) is failed.own))
          (past_more failed.stop (past_self (log_of ldm)))
      by (inr apart) =
          subst (IsPast (log_of ldm)) (sym (failed.others ldm (λ is. apart (sym is)))) (past_self (log_of ldm))

  by_step : Comes start w t old new counts sound gone → WhoseStep
  by_step (as_was same_world same_disks stops) =
      of_none (ap (λ (disks : Disks). get_or disks.told d None) same_disks ∙ up.told)
  by_step (keeps some low runs step more same has) =
      step_of true low runs step more some (since_same same) has
  by_step (fails some low runs step more count same has) =
      step_of false low runs step more some (since_failed count low same) has

  pub whose_step : start.shape.nodes ≤ length old.told → start.shape.nodes ≤ length old.slots → WhoseStep
  whose_step told slots = by_step (comes start w t old new counts sound gone told slots)
