-- A host goes on, and the disk of its node has what it was to keep of it.
use Rattle.std.proofs.Common.{◌≡◌, ◌≢◌, ◌⊎◌, ◌∙◌, ℕ, ◌-◌, ◌^◌, ◌≤◌, ◌<◌, ◌==◌, Bool, true, false, List, [], ◌∷◌}
use Rattle.std.proofs.Common.{get_or, refl, ap, sym, subst, inl, inr}
use Rattle.std.specs.List.{list_any}
use Rattle.std.specs.Prelude.{Option, None}
use Rattle.std.proofs.lemmas.Bool.{eq-eqb, eqb-true, true≢false}
use Rattle.host_io.specs.Call.{Call}
use Rattle.redo_log.specs.Stored.{files_of}
use Rattle.run_theory.specs.Lists.{IsIn, IsPast}
use Rattle.run_theory.specs.Logs.{IsLog}
use Rattle.run_theory.proofs.Pasts.{past_more, past_self, past_trans}
use Rattle.sig_core.specs.declared.mark.Mark.TheVariants.{Stopped}
use Rattle.sig_core.specs.declared.member.Member.{Member}
use Rattle.sig_core.specs.declared.outcome.StopCause.TheVariants.{Disk}
use Rattle.sig_core.specs.declared.place.Part.TheVariants.{Ldm, Tc}
use Rattle.sig_core.specs.declared.slots.SystemSlot.{SystemSlot}
use Rattle.sig_core.specs.Table.{Rows}
use Rattle.sysfile_core.specs.Runs.{Runs}
use Rattle.node_disk.specs.Slots.{SlotsInUse}
use Rattle.world_core.specs.Hosts.{hosts}
use Rattle.world_core.specs.Start.{Start, made}
use Rattle.world_core.specs.Steps.{HostStep}
use Rattle.world_core.specs.World.{logs_at}
use Rattle.world_views.specs.Disks.{HasAtMostOneMore}
use Rattle.world_views.specs.Driven.{IsSound}
use Rattle.world_views.specs.Machine.{has_stopped, machine, stops_by}
use Rattle.world_views.specs.World.{Whole, has_stopped_in, stopped}
use Rattle.moment_laws.specs.Places.{ldm_of, tc_of}
use Rattle.moment_laws.proofs.MomentHosts.{ldm_member, part_some, tc_apart, tc_low, tc_member}
use Rattle.disk_world.specs.Disks.{Disks, HasGoneOn, HasKept, slots_if}
use Rattle.disk_world.specs.Keeping.{Kept, NothingNew, calls_of, slots_after}
use Rattle.disk_world.proofs.KeptLemmas.{kept_as}
use Rattle.request_laws.proofs.tokens.HostsApart.{ldm_low}
use Rattle.disk_laws.specs.Laws.{AreNotable, AreSavable, StepsAreKept}
use Rattle.disk_laws.specs.Noted.{WasNoted, is_disk_stop}
use Rattle.disk_laws.specs.OnDisk.{IsOnDisk, KeepsNoted, KeepsRows, KeepsUp}
use Rattle.disk_laws.proofs.GoneLemmas.{Comes, IsSameOrStopped, as_was, comes, failed_stop}
use Rattle.disk_laws.proofs.GoneLemmas.{fails, keeps, kept_behind, logs_same, place_is, place_of, ran_before}
use Rattle.disk_laws.proofs.GoneLemmas.{sound_still, stopped_or}
use Rattle.disk_laws.proofs.NoteSteps.{AreKept, noted_kept, noted_stop}
use Rattle.disk_laws.proofs.OtherHosts.{others_keep_nothing}
use Rattle.disk_laws.proofs.RowKept.{AreOnDisk, RowsAreKept}
use Rattle.disk_laws.proofs.RowSteps.{rows_kept, rows_stop}

-- a disk stop is one
disk_stop : (stop : HostStep) (count : ℕ) → stop.step.marks ≡ Stopped (Disk count) ∷ []
    → list_any is_disk_stop stop.step.marks ≡ true
disk_stop stop count marks = ap (list_any is_disk_stop) marks

stops_so : (stop : HostStep) (count : ℕ) → stop.step.marks ≡ Stopped (Disk count) ∷ []
    → stops_by stop.step.marks ≡ true
stops_so stop count marks = ap stops_by marks

module _ (start : Start) (member : Member) (before : Rows) (first : SystemSlot) (w t : Whole) (old new : Disks)
    (counts : List ℕ) (sound : IsSound start w) (there : IsIn member (made start))
    (gone : HasGoneOn w old new counts t) (up : KeepsUp start member before first w old) where
  abbrev d : ℕ
  d = member.node - 1

  abbrev ldm : ℕ
  ldm = ldm_of start member

  abbrev tc : ℕ
  tc = tc_of start member

  abbrev stepped : Whole
  stepped = gone.stepped

  abbrev told_now : Option (List Call)
  told_now = get_or new.told d None

  -- what the disk of the member's node kept
  own_runs : (kept : Kept) (ok : Bool) → HasKept kept d old new ok
      → Runs (calls_of (files_of up.calls) up.slots kept) up.calls told_now ok
  own_runs kept ok has =
      subst (λ (used : SlotsInUse). Runs (calls_of (files_of up.calls) used kept) up.calls told_now ok)
      (up.slots_are up.slots) (has.runs up.calls up.slots up.told)

  own_used : (kept : Kept) (ok : Bool) → HasKept kept d old new ok → (other : SlotsInUse)
      → get_or new.slots d other ≡ slots_if ok up.slots kept
  own_used kept ok has other = has.used other ∙ ap (λ (used : SlotsInUse). slots_if ok used kept) (up.slots_are other)

  then_up : (rows noted : List HostStep) (used : SlotsInUse) → logs_at t.logs ldm ≡ rows → logs_at t.logs tc ≡ noted
      → ((other : SlotsInUse) → get_or new.slots d other ≡ used)
      → AreOnDisk start member before first rows noted used told_now → KeepsUp start member before first t new
  then_up rows noted used rows_are noted_are slots_are are = record {
    there = there;
    slots = used;
    slots_are = slots_are;
    calls = are.calls;
    told = are.is;
    is =
        subst (λ log. IsOnDisk start member before first log (logs_at t.logs tc) used are.calls) (sym rows_are)
        (subst (λ log. IsOnDisk start member before first rows log used are.calls) (sym noted_are) are.on);
  }

  -- A host went on that runs, and its disk kept what it was to keep of it, or failed.
  record Moves (g : ℕ) (ok : Bool) : Type 0 where
    step : HostStep
    more : logs_at stepped.logs g ≡ step ∷ logs_at w.logs g
    local : IsLog (machine start) g (logs_at stepped.logs g)
    runs : has_stopped (logs_at stepped.logs g) ≡ false
    ran : has_stopped (logs_at w.logs g) ≡ false
    kept : HasKept (kept_behind start g (logs_at stepped.logs g)) (place_of start g) old new ok
    others : (k : ℕ) → k ≢ g → logs_at stepped.logs k ≡ logs_at w.logs k

  own_moves : (ok : Bool) → gone.host < hosts start → has_stopped (logs_at stepped.logs gone.host) ≡ false
      → (e : HostStep) → logs_at stepped.logs gone.host ≡ e ∷ logs_at w.logs gone.host
      → HasKept (kept_behind start gone.host (logs_at stepped.logs gone.host)) (place_of start gone.host) old new ok
      → Moves gone.host ok
  own_moves ok low runs e more has = record {
    step = e;
    more = more;
    local = local;
    runs = runs;
    ran =
        ran_before start gone.host (logs_at w.logs gone.host) (logs_at stepped.logs gone.host) (inr (e, more)) local
        runs;
    kept = has;
    others = gone.alone.others;
  }
    where
      local : IsLog (machine start) gone.host (logs_at stepped.logs gone.host)
      local = (sound_still start w t old new counts sound gone).right.local gone.host low

  moves_at : (g : ℕ) (ok : Bool) → gone.host ≡ g → Moves gone.host ok → Moves g ok
  moves_at g ok is = subst (λ (k : ℕ). Moves k ok) is

  -- it stopped behind that
  record Fails (g count : ℕ) : Type 0 where
    stop : HostStep
    marks : stop.step.marks ≡ Stopped (Disk count) ∷ []
    own : logs_at t.logs g ≡ stop ∷ logs_at stepped.logs g
    others : (k : ℕ) → k ≢ g → logs_at t.logs k ≡ logs_at stepped.logs k

  own_fails : (count : ℕ) → gone.host < hosts start → t ≡ stopped stepped gone.host (Disk count) 1
      → Fails gone.host count
  own_fails count low same =
      let failed = failed_stop start w t old new counts sound gone count low same in
      record { stop = failed.stop; marks = failed.marks; own = failed.own; others = failed.others }

  module _ (late : 2 ^ 32 ≤ start.epoch)
      (savable : (log : List HostStep) → IsPast log (logs_at t.logs ldm) → AreSavable start member before log)
      (notable : AreNotable start member (logs_at t.logs tc)) where
    apart : tc ≢ ldm
    apart = tc_apart start sound.right.nobody member there

    -- the host of the rows
    module _ (ok : Bool) (moves : Moves ldm ok) where
      abbrev now : List HostStep
      now = logs_at stepped.logs ldm

      abbrev kept_rows : Kept
      kept_rows = kept_behind start ldm now

      rows_has : HasKept kept_rows d old new ok
      rows_has =
          kept_as kept_rows kept_rows (place_of start ldm) d old old new new ok moves.kept refl
          (place_is start member ldm (ldm_member start sound.right.nobody member there)) refl refl

      noted_same : logs_at stepped.logs tc ≡ logs_at w.logs tc
      noted_same = moves.others tc apart

      -- what a disk may be asked to keep then
      module _ (past : IsPast now (logs_at t.logs ldm)) where
        kept_now : RowsAreKept start member before first now (logs_at w.logs tc) up.slots told_now ok kept_rows
        kept_now =
            rows_kept start member before first there sound.right.nobody late (logs_at w.logs tc) up.slots up.calls
            told_now ok moves.step
            (logs_at w.logs ldm) now moves.more moves.ran moves.runs moves.local
            (λ log older. savable log (past_trans older past)) up.is (own_runs kept_rows ok rows_has)

      rows_keep : ok ≡ true → t ≡ stepped → KeepsUp start member before first t new
      rows_keep so same =
          let rows = logs_same start w t old new counts sound gone same ldm in
          let noted = logs_same start w t old new counts sound gone same tc in
          then_up now (logs_at w.logs tc) (slots_after up.slots kept_rows) rows (noted ∙ noted_same)
          (λ other. own_used kept_rows ok rows_has other
          ∙ ap (λ (b : Bool). slots_if b up.slots kept_rows) so)
          ((kept_now (subst (IsPast now) (sym rows) (past_self now))).done so)

      rows_stop_behind : (count : ℕ) → ok ≡ false → Fails ldm count → KeepsUp start member before first t new
      rows_stop_behind count not_so failed =
          then_up (failed.stop ∷ now) (logs_at w.logs tc) up.slots failed.own (failed.others tc apart ∙ noted_same)
          (λ other. own_used kept_rows ok rows_has other
          ∙ ap (λ (b : Bool). slots_if b up.slots kept_rows) not_so)
          ((kept_now (subst (IsPast now) (sym failed.own) (past_more failed.stop (past_self now)))).failed not_so
          failed.stop (disk_stop failed.stop count failed.marks) (stops_so failed.stop count failed.marks))

    -- and the one that coordinates
    module _ (ok : Bool) (moves : Moves tc ok) where
      abbrev now_noted : List HostStep
      now_noted = logs_at stepped.logs tc

      abbrev kept_noted : Kept
      kept_noted = kept_behind start tc now_noted

      noted_has : HasKept kept_noted d old new ok
      noted_has =
          kept_as kept_noted kept_noted (place_of start tc) d old old new new ok moves.kept refl
          (place_is start member tc (tc_member start sound.right.nobody member there)) refl refl

      grown : HasAtMostOneMore (logs_at w.logs tc) now_noted
      grown = inr (moves.step, moves.more)

      rows_same : logs_at stepped.logs ldm ≡ logs_at w.logs ldm
      rows_same = moves.others ldm (λ is. apart (sym is))

      module _ (low : AreNotable start member now_noted) where
        kept_so : AreKept start member before first there (logs_at w.logs ldm) (logs_at w.logs tc) now_noted grown
            moves.ran moves.runs low up.slots up.calls up.is told_now ok kept_noted
        kept_so =
            noted_kept start member before first there (logs_at w.logs ldm) (logs_at w.logs tc) now_noted grown
            moves.ran moves.runs low up.slots up.calls up.is told_now ok sound.right.nobody
            (own_runs kept_noted ok noted_has)

      noted_keep : ok ≡ true → t ≡ stepped → KeepsUp start member before first t new
      noted_keep so same =
          let rows = logs_same start w t old new counts sound gone same ldm in
          let noted = logs_same start w t old new counts sound gone same tc in
          let low : AreNotable start member now_noted = subst (AreNotable start member) noted notable in
          then_up (logs_at w.logs ldm) now_noted (slots_after up.slots kept_noted) (rows ∙ rows_same) noted
          (λ other. own_used kept_noted ok noted_has other
          ∙ ap (λ (b : Bool). slots_if b up.slots kept_noted) so)
          ((kept_so low).done so)

      noted_stop_behind : (count : ℕ) → ok ≡ false → Fails tc count → KeepsUp start member before first t new
      noted_stop_behind count not_so failed =
          let low : AreNotable start member now_noted =
          λ epoch mask was. notable epoch mask
          (subst (λ log. WasNoted start tc log epoch mask) (sym failed.own) (inr was)) in
          then_up (logs_at w.logs ldm) (failed.stop ∷ now_noted) up.slots
          (failed.others ldm (λ is. apart (sym is)) ∙ rows_same) failed.own
          (λ other. own_used kept_noted ok noted_has other
          ∙ ap (λ (b : Bool). slots_if b up.slots kept_noted) not_so)
          ((kept_so low).failed not_so failed.stop (disk_stop failed.stop count failed.marks)
          (stops_so failed.stop count failed.marks))

    -- the logs of both are as they were
    module _ (rows_same : logs_at t.logs ldm ≡ logs_at w.logs ldm) (noted_same : logs_at t.logs tc ≡ logs_at w.logs tc)
      where
        -- and so is the disk, since another one was asked
        elsewhere : (kept : Kept) (at : ℕ) (ok : Bool) → HasKept kept at old new ok → d ≢ at
            → KeepsUp start member before first t new
        elsewhere kept at ok has not_here =
            then_up (logs_at w.logs ldm) (logs_at w.logs tc) up.slots rows_same noted_same
            (λ other. has.others_used d other not_here ∙ up.slots_are other)
            (record { calls = up.calls; is = has.others d not_here ∙ up.told; on = up.is })

        -- or since nothing was to be kept
        nothing_here : (ok : Bool) → HasKept NothingNew d old new ok
            → (ok ≡ true) × KeepsUp start member before first t new
        nothing_here ok has =
            let none = own_runs NothingNew ok has in (
              none.1,
              then_up (logs_at w.logs ldm) (logs_at w.logs tc) up.slots rows_same noted_same
                  (λ other. own_used NothingNew ok has other ∙ ap (λ (b : Bool). slots_if b up.slots NothingNew) none.1)
                  (record { calls = up.calls; is = none.0; on = up.is }),
            )

    -- a host that is neither
    other_moves : (ok : Bool) → 1 ≤ gone.host → gone.host < hosts start → Moves gone.host ok → gone.host ≢ ldm
        → gone.host ≢ tc → ((g : ℕ) → g ≢ gone.host → logs_at t.logs g ≡ logs_at stepped.logs g)
        → KeepsUp start member before first t new
    other_moves ok some low moves not_rows not_tc logs = by (d == place_of start gone.host) refl
      where
        rows_same : logs_at t.logs ldm ≡ logs_at w.logs ldm
        rows_same = logs ldm (λ is. not_rows (sym is)) ∙ moves.others ldm (λ is. not_rows (sym is))

        noted_same : logs_at t.logs tc ≡ logs_at w.logs tc
        noted_same = logs tc (λ is. not_tc (sym is)) ∙ moves.others tc (λ is. not_tc (sym is))

        by : (b : Bool) → (d == place_of start gone.host) ≡ b → KeepsUp start member before first t new
        by true e =
            let here : place_of start gone.host ≡ d = sym (eqb-true d (place_of start gone.host) e) in
            (nothing_here rows_same noted_same ok
            (kept_as (kept_behind start gone.host (logs_at stepped.logs gone.host)) NothingNew
            (place_of start gone.host) d old old new new ok moves.kept
            (others_keep_nothing start stepped (sound_still start w t old new counts sound gone) member there gone.host
            some low not_rows not_tc here) here refl refl)).1
        by false e =
            elsewhere rows_same noted_same (kept_behind start gone.host (logs_at stepped.logs gone.host))
            (place_of start gone.host) ok moves.kept
            (λ is. true≢false (sym (eq-eqb d (place_of start gone.host) is) ∙ e))

    -- a host that keeps nothing
    same_moves : t ≡ stepped → new ≡ old
        → ((e : HostStep) → logs_at stepped.logs gone.host ≡ e ∷ logs_at w.logs gone.host → 1 ≤ gone.host
        → has_stopped_in stepped gone.host ≡ true)
        → KeepsUp start member before first t new
    same_moves same_world same_disks stops =
        then_up (logs_at t.logs ldm) (logs_at t.logs tc) up.slots refl refl
        (λ other. ap (λ (disks : Disks). get_or disks.slots d other) same_disks ∙ up.slots_are other)
        (record {
          calls = up.calls;
          is = ap (λ (disks : Disks). get_or disks.told d None) same_disks ∙ up.told;
          on = record {
            rows = rows_by (stopped_or start w t old new counts sound gone same_world stops ldm
                (part_some start Ldm member) (ldm_low start sound.right.nobody member there));
            noted = noted_by (stopped_or start w t old new counts sound gone same_world stops tc
                (part_some start Tc member) (tc_low start sound.right.nobody member there));
          };
        })
      where
        local : IsLog (machine start) ldm (logs_at t.logs ldm)
        local =
            subst (IsLog (machine start) ldm) (sym (logs_same start w t old new counts sound gone same_world ldm))
            ((sound_still start w t old new counts sound gone).right.local ldm
            (ldm_low start sound.right.nobody member there))

        rows_by : IsSameOrStopped start w t ldm
            → KeepsRows start member before first (logs_at t.logs ldm) up.slots up.calls
        rows_by (inl same) =
            subst (λ log. KeepsRows start member before first log up.slots up.calls) (sym same) up.is.rows
        rows_by (inr stopped_so) =
            rows_stop start member before first there sound.right.nobody (logs_at w.logs ldm) (logs_at t.logs ldm)
            up.slots up.calls local
            savable stopped_so up.is.rows

        noted_by : IsSameOrStopped start w t tc
            → KeepsNoted start member before first (logs_at t.logs tc) up.slots up.calls
        noted_by (inl same) =
            subst (λ log. KeepsNoted start member before first log up.slots up.calls) (sym same) up.is.noted
        noted_by (inr stopped_so) =
            noted_stop start member before first there (logs_at w.logs tc) (logs_at t.logs tc) up.slots up.calls
            stopped_so up.is.noted

    -- the host is this one, or it isn't
    is_it : (g : ℕ) → (gone.host ≡ g) ⊎ (gone.host ≢ g)
    is_it g = by (gone.host == g) refl
      where
        by : (b : Bool) → (gone.host == g) ≡ b → (gone.host ≡ g) ⊎ (gone.host ≢ g)
        by true e = inl (eqb-true gone.host g e)
        by false e = inr (λ is. true≢false (sym (eq-eqb gone.host g is) ∙ e))

    keep_by : 1 ≤ gone.host → gone.host < hosts start → t ≡ stepped → Moves gone.host true
        → (gone.host ≡ ldm) ⊎ (gone.host ≢ ldm) → (gone.host ≡ tc) ⊎ (gone.host ≢ tc)
        → KeepsUp start member before first t new
    keep_by some low same moves (inl rows) either = rows_keep true (moves_at ldm true rows moves) refl same
    keep_by some low same moves (inr not_rows) (inl noted) = noted_keep true (moves_at tc true noted moves) refl same
    keep_by some low same moves (inr not_rows) (inr not_tc) =
        other_moves true some low moves not_rows not_tc
        (λ g not_it. logs_same start w t old new counts sound gone same g)

    fail_by : 1 ≤ gone.host → gone.host < hosts start → (count : ℕ) → Fails gone.host count → Moves gone.host false
        → (gone.host ≡ ldm) ⊎ (gone.host ≢ ldm) → (gone.host ≡ tc) ⊎ (gone.host ≢ tc)
        → KeepsUp start member before first t new
    fail_by some low count failed moves (inl rows) either =
        rows_stop_behind false (moves_at ldm false rows moves) count refl (subst (λ (k : ℕ). Fails k count) rows failed)
    fail_by some low count failed moves (inr not_rows) (inl noted) =
        noted_stop_behind false (moves_at tc false noted moves) count refl
        (subst (λ (k : ℕ). Fails k count) noted failed)
    fail_by some low count failed moves (inr not_rows) (inr not_tc) =
        other_moves false some low moves not_rows not_tc failed.others

    pub by_host : Comes start w t old new counts sound gone → KeepsUp start member before first t new
    by_host (as_was same_world same_disks stops) = same_moves same_world same_disks stops
    by_host (keeps some low runs e more same has) =
        keep_by some low same (own_moves true low runs e more has) (is_it ldm) (is_it tc)
    by_host (fails some low runs e more count same has) =
        fail_by some low count (own_fails count low same) (own_moves false low runs e more has) (is_it ldm) (is_it tc)

pub steps_kept : StepsAreKept
steps_kept start member before first w t old new counts sound there told slots gone late savable notable up =
    by_host start member before first w t old new counts sound there gone up late savable notable
    (comes start w t old new counts sound gone told slots)
