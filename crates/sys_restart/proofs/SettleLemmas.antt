-- Disks all of whose files are synced read as before, and a loss of power leaves them so.
use Rattle.std.proofs.Common.{◌≡◌, ◌∙◌, ℕ, zero, suc, ◌+◌, ◌-◌, ◌≤◌, ◌<◌, Bool, true, false, List, [], ◌∷◌, length, map, get_or, refl, ap, sym, subst, inl, inr, arith}
use Rattle.std.specs.Prelude.{◌==◌, Option, None, Some, Ok, if◌then◌else◌}
use Rattle.std.proofs.Math.Path.{fun_ext}
use Rattle.std.proofs.lemmas.Bool.{cases_lt, eq-eqb, true≢false}
use Rattle.host_io.specs.Call.{Call, Synced}
use Rattle.host_io.specs.DiskState.{FileState, settled, state_of}
use Rattle.host_io.specs.Image.{IsRecord, MayFollow}
use Rattle.host_io.specs.declared.limits.TheConstants.{FILES}
use Rattle.redo_log.specs.Stored.{files_of}
use Rattle.sig_core.specs.declared.fault.RestartFault.{RestartFault}
use Rattle.sig_core.specs.declared.fault.RestartFault.TheVariants.{Damaged, DiskFault, NoMemory, OtherShape, UsedUp}
use Rattle.sig_core.specs.declared.view.Shape.{Shape}
use Rattle.sysfile_core.specs.Runs.{Runs}
use Rattle.sysfile_core.specs.declared.place.TheConstants.{CONTROL_FILE}
use Rattle.sys_restart.specs.Answers.{is_outside}
use Rattle.sys_restart.specs.declared.restored.Restored.{Restored}
use Rattle.sys_restart.specs.Files.{disks_of}
use Rattle.sys_restart.specs.LifeCalls.{HasRun, after_calls, record_of, told_by}
use Rattle.sys_restart.specs.Prepared.{HasKept, IsSettled, MayPrepare}
use Rattle.sys_restart.specs.ReadyDisks.{AreToPrepare}
use Rattle.sys_restart.specs.Restored.{restored_of}
use Rattle.sys_restart.specs.Settle.{IsDiskFault, settled_record, settled_records, sync_calls, syncs_from}
use Rattle.sys_restart.proofs.LifeLemmas.{made_record}

-- a sync changes no byte
synced_bytes : (same : Bool) (s : FileState) → (if same then settled s.bytes else s).bytes ≡ s.bytes
synced_bytes true s = refl
synced_bytes false s = refl

-- and leaves nothing dirty where nothing was
stays_settled : (same : Bool) (s : FileState) → s ≡ settled s.bytes
    → (if same then settled s.bytes else s) ≡ settled (if same then settled s.bytes else s).bytes
stays_settled true s is = refl
stays_settled false s is = is

-- nor where it is of this file
is_settled : (same : Bool) (s : FileState) → same ≡ true
    → (if same then settled s.bytes else s) ≡ settled (if same then settled s.bytes else s).bytes
is_settled true s is = refl
is_settled false s is = absurd (true≢false (sym is))

syncs_keep : (more file : ℕ) (calls : List Call) (this : ℕ)
    → files_of (after_calls (syncs_from more file) calls) this ≡ files_of calls this
syncs_keep zero file calls this = refl
syncs_keep (suc more) file calls this =
    syncs_keep more (file + 1) (Synced file ∷ calls) this
    ∙ synced_bytes (file == this) (state_of calls this)

syncs_stay : (more file : ℕ) (calls : List Call) (this : ℕ) → state_of calls this ≡ settled (files_of calls this)
    → state_of (after_calls (syncs_from more file) calls) this
    ≡ settled (files_of (after_calls (syncs_from more file) calls) this)
syncs_stay zero file calls this is = is
syncs_stay (suc more) file calls this is =
    syncs_stay more (file + 1) (Synced file ∷ calls) this
    (stays_settled (file == this) (state_of calls this) is)

syncs_settle : (more file : ℕ) (calls : List Call) (this : ℕ) → file ≤ this → this < file + more
    → state_of (after_calls (syncs_from more file) calls) this
    ≡ settled (files_of (after_calls (syncs_from more file) calls) this)
syncs_settle zero file calls this low high = absurd (omega (arith, low, high))
syncs_settle (suc more) file calls this low high =
    elim (cases_lt file this) [
      | inl less ↦
          syncs_settle more (file + 1) (Synced file ∷ calls) this (omega (arith, less)) (omega (arith, high))
      | inr most ↦
          syncs_stay more (file + 1) (Synced file ∷ calls) this
          (is_settled (file == this) (state_of calls this) (eq-eqb file this (omega (arith, low, most))))
    ]

syncs_follow : (more file : ℕ) (calls : List Call) → file + more ≤ FILES → IsRecord calls
    → IsRecord (after_calls (syncs_from more file) calls)
syncs_follow zero file calls few is = is
syncs_follow (suc more) file calls few is =
    let within : file < FILES = omega (arith, few) in
    syncs_follow more (file + 1) (Synced file ∷ calls) (omega (arith, few)) (within, is)

-- So it is of a disk all of whose files are synced: each reads as before,
pub settled_keeps : (calls : List Call) (file : ℕ) → files_of (settled_record calls) file ≡ files_of calls file
unfolding sync_calls
settled_keeps calls file = syncs_keep FILES 0 calls file

-- nothing of it is dirty,
pub settled_settles : (calls : List Call) → IsSettled (settled_record calls)
unfolding sync_calls
settled_settles calls file below = syncs_settle FILES 0 calls file (omega arith) (omega (arith, below))

-- and its record keeps to the model if it did before.
pub settled_follows : (calls : List Call) → IsRecord calls → IsRecord (settled_record calls)
unfolding sync_calls
settled_follows calls is = syncs_follow FILES 0 calls (omega arith) is

-- what is so of a record in a list, and stays so when it is settled
at_settled : (P : List Call → Type 0) (records : List (List Call)) (k : ℕ)
    → P (get_or records k []) → ((calls : List Call) → P calls → P (settled_record calls))
    → P (get_or (settled_records records) k [])
at_settled P [] k is stays = is
at_settled P (calls ∷ records) zero is stays = stays calls is
at_settled P (calls ∷ records) (suc k) is stays = at_settled P records k is stays

-- settled disks read as before
pub settled_disks : (records : List (List Call)) → disks_of (settled_records records) ≡ disks_of records
settled_disks records =
    fun_ext (λ node.
    fun_ext (λ file.
    at_settled (λ calls. files_of calls file ≡ disks_of records node file) records (node - 1) refl
    (λ calls is. settled_keeps calls file ∙ is)))

-- and may be prepared for a life if they might before
may_prepare : (shape : Shape) (node : ℕ) (r : Restored) (calls : List Call) → MayPrepare shape node r calls
    → MayPrepare shape node r (settled_record calls)
may_prepare shape node r calls may = record {
  kept = settled_follows calls may.kept;
  settled = settled_settles calls;
  control = subst (HasKept r.generation) (sym (settled_keeps calls CONTROL_FILE)) may.control;
  rows = may.rows;
}

pub settled_to_prepare : (shape : Shape) (r : Restored) (records : List (List Call)) → AreToPrepare shape r records
    → AreToPrepare shape r (settled_records records)
settled_to_prepare shape r records are = record {
  restored = ap (restored_of shape) (settled_disks records) ∙ are.restored;
  each = λ node least most.
      at_settled (MayPrepare shape node r) records (node - 1) (are.each node least most) (may_prepare shape node r);
}

-- a fault of a disk is none of what its files hold
pub fault_outside : (fault : RestartFault) → IsDiskFault fault → is_outside fault ≡ true
fault_outside (DiskFault node count) is = refl
fault_outside (OtherShape found asked) is = absurd is
fault_outside (Damaged node file at byte) is = absurd is
fault_outside (UsedUp generation epoch) is = absurd is
fault_outside NoMemory is = absurd is

-- The files below this one were synced: what the others come to is what all come to.
pub record SyncedTo (file : ℕ) (calls : List Call) (told : Option (List Call)) : Type 0 where
  pub now : List Call
  pub tells : told ≡ Some now
  pub rest :
      (end : Option (List Call)) (ok : Bool) → Runs (syncs_from (FILES - file) file) now end ok
      → Runs sync_calls calls end ok

pub none_synced : (calls : List Call) (told : Option (List Call)) → told ≡ Some calls → SyncedTo 0 calls told
unfolding sync_calls
none_synced calls told is = record { now = calls; tells = is; rest = λ end ok runs. runs }

-- those of this file and the ones behind it
next_sync : (file : ℕ) → file < FILES
    → syncs_from (FILES - file) file ≡ Synced file ∷ syncs_from (FILES - (file + 1)) (file + 1)
next_sync file below =
    let left : FILES - file ≡ suc (FILES - (file + 1)) = omega (arith, below) in
    ap (λ (n : ℕ). syncs_from n file) left

-- one more was synced
pub more_synced : (file : ℕ) (calls : List Call) (told next : Option (List Call)) (was : SyncedTo file calls told)
    → file < FILES → next ≡ Some (Synced file ∷ was.now) → MayFollow was.now (Synced file)
    → SyncedTo (file + 1) calls next
more_synced file calls told next was below is may = record {
  now = Synced file ∷ was.now;
  tells = is;
  rest = λ end ok runs.
      was.rest end ok
      (subst (λ asks. Runs asks was.now end ok) (sym (next_sync file below)) (inr (may, runs)));
}

-- it couldn't be
pub stops_syncing : (file : ℕ) (calls : List Call) (told next : Option (List Call)) (was : SyncedTo file calls told)
    → file < FILES → next ≡ Some was.now → Runs sync_calls calls next false
stops_syncing file calls told next was below is =
    was.rest next false
    (subst (λ asks. Runs asks was.now next false) (sym (next_sync file below)) (inl (is, refl)))

-- all were
pub all_synced : (file : ℕ) (calls : List Call) (told : Option (List Call)) → SyncedTo file calls told → file ≡ FILES
    → Runs sync_calls calls told true
all_synced file calls told was all =
    let none : FILES - file ≡ 0 = omega (arith, all) in
    was.rest told true
    (subst (λ (n : ℕ). Runs (syncs_from n file) was.now told true) (sym none) (was.tells, refl))

-- disks each of which tells that it is settled
told_settled : (records : List (List Call)) (told : List (Option (List Call))) → length told ≡ length records
    → ((k : ℕ) → k < length records → get_or told k None ≡ Some (settled_record (get_or records k [])))
    → told ≡ map Some (settled_records records)
told_settled [] [] many each = refl
told_settled [] (one ∷ told) many each = absurd (omega (arith, many))
told_settled (calls ∷ records) [] many each = absurd (omega (arith, many))
told_settled (calls ∷ records) (one ∷ told) many each =
    ap (λ first. first ∷ told) (each 0 (omega arith))
    ∙ ap (λ rest. Some (settled_record calls) ∷ rest)
    (told_settled records told (omega (arith, many)) (λ k below. each (suc k) (omega (arith, below))))

-- so it is behind the calls of all
pub runs_settled : (records : List (List Call)) (told : List (Option (List Call)))
    → length told ≡ length records → HasRun (λ node. sync_calls) records told (Ok tt)
    → told ≡ map Some (settled_records records)
runs_settled records told many (done, turns) =
    told_settled records told many
    (λ k below.
    let at : k + 1 - 1 ≡ k = omega arith in
    subst (λ (p : ℕ). get_or told p None ≡ Some (settled_record (get_or records p []))) at
    (made_record sync_calls (record_of records (k + 1)) (told_by told (k + 1))
    (turns.whole (k + 1) (omega arith) (omega (arith, below, turns.last)))))
