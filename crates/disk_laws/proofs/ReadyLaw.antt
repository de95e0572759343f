-- A disk that is ready for a life has what there is to keep of hosts that did nothing yet.
use Rattle.std.proofs.Common.{◌≡◌, ◌∙◌, ℕ, ◌+◌, ◌==◌, Bool, true, false, nat_lt, List, [], drop}
use Rattle.std.proofs.Common.{refl, ap, sym, subst, inl, arith}
use Rattle.std.proofs.Common.{if◌then◌else◌}
use Rattle.std.specs.Prelude.{Option, None, Some, Ok}
use Rattle.std.proofs.lemmas.Bool.{eqb-true}
use Rattle.host_io.specs.Call.{Call}
use Rattle.redo_log.specs.Replaying.{log_bytes}
use Rattle.redo_log.specs.Stored.{files_of}
use Rattle.run_theory.proofs.Pasts.{past_self}
use Rattle.sig_core.specs.declared.member.Member.{Member}
use Rattle.sig_core.specs.declared.slots.ControlSlot.{ControlSlot}
use Rattle.sig_core.specs.declared.slots.SystemSlot.{SystemSlot}
use Rattle.sig_core.specs.Journal.{OutletState, end_of}
use Rattle.sig_core.specs.Table.{Rows}
use Rattle.sysfile_core.specs.declared.place.TheConstants.{CONTROL_FILE}
use Rattle.sysfile_core.specs.Reading.{control_of_file, later_control, of_generation}
use Rattle.sys_restart.specs.declared.restored.Restored.{Restored}
use Rattle.sys_restart.specs.Calls.{next_system, rows_of_node}
use Rattle.sys_restart.specs.Prepared.{HasSlot}
use Rattle.sys_restart.proofs.AlikeLemmas.{not_none, same_answer, same_some}
use Rattle.sys_restart.proofs.ControlLemmas.{both_read}
use Rattle.node_disk.specs.Found.{slots_in}
use Rattle.node_disk.specs.Slots.{SlotsInUse}
use Rattle.node_disk.proofs.StartLaw.{are_in_use, ready_has}
use Rattle.node_restart.specs.Rows.{HasRows}
use Rattle.node_restart.proofs.StartLaw.{ready_rows}
use Rattle.lqh_saver.specs.Saver.{fresh_saver}
use Rattle.lqh_saver.specs.State.{SaverState}
use Rattle.request_laws.specs.Blocks.{rows_after, saver_after}
use Rattle.world_core.specs.Start.{Start}
use Rattle.journal_laws.specs.Journal.{lqh_after, outlet_with}
use Rattle.journal_laws.proofs.follow.Follow.{first_saver}
use Rattle.saved_laws.specs.Checkpoints.{StandFor}
use Rattle.disk_laws.specs.Laws.{ReadyDisksKeepUp}
use Rattle.disk_laws.specs.OnDisk.{HasLastRows, HasWalked}
use Rattle.disk_laws.proofs.JournalLemmas.{first_outlet}
use Rattle.disk_laws.proofs.SavedLemmas.{first_saved}

-- the control slot in use of a generation is of that
of_own : (generation : ℕ) (one : Option ControlSlot) (slot : ControlSlot) → of_generation generation one ≡ Some slot
    → slot.generation ≡ generation
of_own generation None slot is = absurd (not_none slot _ refl is)
of_own generation (Some one) slot is = by (one.generation == generation) refl is
  where
    by : (same : Bool) → (one.generation == generation) ≡ same → (if same then Some one else None) ≡ Some slot
        → slot.generation ≡ generation
    by true e found =
        ap (λ (s : ControlSlot). s.generation) (sym (same_some one slot _ refl found))
        ∙ eqb-true one.generation generation e
    by false e found = absurd (not_none slot _ refl found)

generation_is : (generation : ℕ) (bytes : List ℕ) (slot : ControlSlot)
    → control_of_file generation bytes ≡ Ok (Some slot) → slot.generation ≡ generation
generation_is generation bytes slot is =
    let read = both_read generation bytes (Some slot) is in
    by read.one read.other (of_generation generation read.one) (of_generation generation read.other) refl refl
    read.later
  where
    by : (one other a b : Option ControlSlot) → of_generation generation one ≡ a → of_generation generation other ≡ b
        → later_control a b ≡ Some slot → slot.generation ≡ generation
    by one other None b e f later = of_own generation other slot (f ∙ later)
    by one other (Some a) None e f later = of_own generation one slot (e ∙ later)
    by one other (Some a) (Some b) e f later = pick (nat_lt a.serial b.serial) later
      where
        pick : (less : Bool) → (if less then Some b else Some a) ≡ Some slot → slot.generation ≡ generation
        pick true so = of_own generation other slot (f ∙ so)
        pick false so = of_own generation one slot (e ∙ so)

-- the slots name the life behind what was restored
abbrev AreNamed : Start → Member → Restored → List Call → SlotsInUse → Type 0
AreNamed start member r calls s =
    (s.system ≡ next_system start.shape r) × HasSlot start.shape member.node r (files_of calls) s.control

pub ready_keep_up : ReadyDisksKeepUp
ready_keep_up start nobody member r calls s kept from there ready is = record {
  rows = inl (record { last = last; walked = λ runs. walked });
  noted = inl (record {
    slot = (are_in_use (r.generation + 1) calls s kept ready.0.0 is).1;
    shape = refl;
    is = inl system;
    least = omega (arith, ap (λ (slot : SystemSlot). slot.epoch) system);
    latest = λ epoch mask none. absurd none;
  });
}
  where
    found : (one : SlotsInUse)
        × ((slots_in (r.generation + 1) (files_of calls) ≡ Ok (Some one)) × AreNamed start member r calls one)
    found = let own = ready_has start.shape member.node r calls ready in (own.0, (own.1.0, (own.1.1, own.1.2)))

    same : found.0 ≡ s
    same = same_some found.0 s _ refl (same_answer (Some found.0) (Some s) _ found.1.0 is)

    both : AreNamed start member r calls s
    both = subst (AreNamed start member r calls) same found.1.1

    system : s.system ≡ next_system start.shape r
    system = both.0

    has : HasSlot start.shape member.node r (files_of calls) s.control
    has = both.1

    saved : s.control.saved ≡ (rows_after start member []).saved
    saved = has.saved ∙ sym from ∙ sym (first_saved start nobody member there)

    before : Rows
    before = rows_of_node start.shape member.node r

    own_saver : saver_after start member [] ≡ fresh_saver start.start_epoch 0
    own_saver = first_saver start nobody member there

    outlet : (lqh_after start member []).outlet ≡ outlet_with []
    outlet = first_outlet start member there nobody

    stands : StandFor start member before before start.start_epoch s.control.redo_start [] []
    stands = record {
      are = tt;
      bytes = sym (ap (λ (at : ℕ). drop at (log_bytes [])) has.start);
      most = omega (arith, has.start);
      same = λ epoch up. refl;
    }

    last : HasLastRows start member before (next_system start.shape r) [] s calls
    last = record {
      generation_is = generation_is (r.generation + 1) (files_of calls CONTROL_FILE) s.control has.in_use;
      begins = has.start ∙ sym (ap (λ (o : OutletState). o.flushed) outlet);
      low = omega (arith, has.start);
      ends = has.end ∙ sym (ap (λ (v : SaverState). v.saved_end) own_saver);
      serial = inl (omega (arith, has.serial));
      few = omega (arith, ap (λ (v : SaverState). v.named) own_saver);
      older = [];
      past = past_self [];
      saved = saved;
      latest = sym saved;
      events = [];
      events_of = refl;
      end_is = has.end ∙ sym (ap end_of outlet);
      base = before;
      redo = [];
      least = start.start_epoch;
      stands = stands;
      gone = [];
      all = refl;
      until_now = record { now = []; events_of = refl; are = tt; newer = []; is = refl; stand = stands };
      told = omega arith;
      rows =
          subst (λ (at : ℕ). HasRows s at before [] calls) (sym from)
          (ready_rows start.shape member.node r calls s kept ready is);
    }

    walked : HasWalked start member before (next_system start.shape r) (saver_after start member []).stage [] s calls
    walked =
        subst
        (λ (v : SaverState). HasWalked start member before (next_system start.shape r) v.stage [] s calls)
        (sym own_saver) tt
