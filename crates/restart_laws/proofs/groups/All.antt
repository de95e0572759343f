-- What is restored of the disks of a life is its history up to the epoch of the latest system slot.
use Rattle.std.proofs.Common.{◌≡◌, ◌≤◌, ◌<◌, ◌+◌, ◌*◌, ◌==◌, ◌∙◌, ℕ, Bool, true, false, nat_lt, List, [], refl, sym, ap}
use Rattle.std.proofs.Common.{subst, inl, inr, arith, get_or}
use Rattle.std.specs.Cmp.Lexicographic.{nat_list_cmp_total}
use Rattle.std.specs.FinMap as map
use Rattle.std.specs.Prelude.{None, Option, Some, Ok}
use Rattle.std.proofs.lemmas.Bool.{and_left, and_right, eq-eqb, le-ltb}
use Rattle.frag_map.specs.Fragment.{group_of_key}
use Rattle.frag_map.specs.Layout.{holds}
use Rattle.frag_map.specs.Replicas.{first_start}
use Rattle.frag_map.specs.Shape.{group_of, groups}
use Rattle.redo_log.specs.Replaying.{replayed}
use Rattle.run_theory.proofs.Pasts.{each_in, past_self}
use Rattle.run_theory.specs.Lists.{IsIn}
use Rattle.sig_core.specs.declared.mark.Mark.TheVariants.{Durable}
use Rattle.sig_core.specs.declared.member.Member.{Member}
use Rattle.sig_core.specs.declared.slots.ControlSlot.{ControlSlot}
use Rattle.sig_core.specs.declared.slots.SystemSlot.{SystemSlot}
use Rattle.sig_core.specs.Table.{Rows}
use Rattle.sysfile_core.specs.declared.place.TheConstants.{CONTROL_FILE}
use Rattle.sysfile_core.specs.Reading.{control_of_file}
use Rattle.sys_restart.proofs.RestoredLemmas.{restored_as, rows_under}
use Rattle.sys_restart.specs.declared.restored.Restored.{Restored}
use Rattle.sys_restart.specs.Calls.{rows_of_node}
use Rattle.sys_restart.specs.Files.{Disks}
use Rattle.sys_restart.specs.Groups.{is_listed}
use Rattle.sys_restart.specs.Held.{holds_record}
use Rattle.sys_restart.specs.Outdated.{are_ahead, is_outdated}
use Rattle.sys_restart.specs.Owner.{is_owned}
use Rattle.sys_restart.specs.Restored.{restored_of}
use Rattle.world_core.proofs.MadeFirst.{begins_made}
use Rattle.world_core.specs.Hosts.{hosts}
use Rattle.world_core.specs.Start.{Start, made}
use Rattle.world_core.specs.Steps.{HostStep}
use Rattle.view_laws.proofs.runs.AllSound.{have_orderly}
use Rattle.view_laws.proofs.runs.ChosenViews.{viable}
use Rattle.view_laws.proofs.runs.FirstMembers.{first_in}
use Rattle.moment_laws.proofs.MomentMembers.{full_made}
use Rattle.moment_laws.proofs.MomentRuns.{are_moments}
use Rattle.moment_laws.specs.Places.{ldm_of, tc_of}
use Rattle.outcome_laws.specs.Decided.{IsMarked}
use Rattle.closing_laws.proofs.settled.Cuts.{events_of, logs_are}
use Rattle.journal_laws.specs.Events.{records_behind}
use Rattle.journal_laws.specs.Journal.{first_rows}
use Rattle.journal_laws.specs.Laws.{ReplaysGiveOwnRows}
use Rattle.journal_laws.proofs.events.FirstRows.{first_pending}
use Rattle.saved_laws.specs.Behind.{IsDurable}
use Rattle.saved_laws.specs.Copied.{CopiedWereSaved, DoneWereMarked, DurableWereNoted, IsOfDurable, TellsDurable}
use Rattle.saved_laws.specs.Copied.{WasTold}
use Rattle.saved_laws.specs.History.{SavedRowsAreHistory, row_up_to}
use Rattle.saved_laws.specs.Keys.{OtherKeysAreUnlogged, OtherKeysStay}
use Rattle.journal_laws.specs.Saver.{IsToldDone}
use Rattle.disk_laws.specs.Found.{HasSavedRows}
use Rattle.disk_laws.specs.ToldSlots.{AreTold, IsKnownDurable}
use Rattle.restart_laws.specs.Restart.{AreGrouped, AreLeft, IsOfLife, RestartsAreHistory}
use Rattle.restart_laws.proofs.groups.Done.{told_done}
use Rattle.restart_laws.proofs.groups.Held.{rows_held}
use Rattle.restart_laws.proofs.groups.Left.{begins, told_durable}
use Rattle.restart_laws.proofs.groups.Nodes.{first_below, group_low, has_full, node_group, node_low_group}
use Rattle.restart_laws.proofs.groups.Sources.{AreGroups, AreOfOne, HasOwnRows, IsGroup, all_groups, group_is}
use Rattle.restart_laws.proofs.groups.System.{latest, listed_saved, manned, system_generation, system_least, system_up}

module _ (copied : CopiedWereSaved) (durable : DurableWereNoted) (done : DoneWereMarked) (saved : SavedRowsAreHistory)
    (replays : ReplaysGiveOwnRows) (stay : OtherKeysStay) (unlogged : OtherKeysAreUnlogged) (start : Start)
    (r : Restored) (logs : ℕ → List HostStep) (images : Disks) (left : AreLeft start r logs images) where
  abbrev system : SystemSlot
  system = (latest start r logs images left).slot

  -- no epoch that was reported durable is later
  durable_low : (h epoch : ℕ) → h < hosts start → IsMarked (Durable epoch) (logs h) → epoch ≤ system.epoch
  durable_low h epoch below marked = by noted
    where
      noted : IsOfDurable start logs epoch
      noted =
          subst
          (λ (ls : ℕ → List HostStep). IsMarked (Durable epoch) (ls h) → IsOfDurable start ls epoch)
          (logs_are start logs left.cluster)
          (durable start logs (events_of start logs) (begins start r logs images left)
          (are_moments start logs left.cluster) h epoch below)
          marked

      by : IsOfDurable start logs epoch → epoch ≤ system.epoch
      by of =
          let one =
          has_full start.shape left.cluster.shape of.view
          (viable have_orderly start logs left.cluster of.view of.installed) 0
          (first_below start.shape left.cluster.shape) in
          let there = full_made start logs left.cluster of.view of.installed one.member one.full in
          let own =
          told_durable start r logs images left one.member there epoch
          (each_in (λ (m : Member). WasTold start logs (TellsDurable epoch) (tc_of start m)) one.member of.view.full
          of.told one.full) in
          let up = system_up start r logs images left one.member there in
          omega (arith, own, up)

  -- nor one that is durable
  made_low : (epoch : ℕ) → IsDurable start logs epoch → epoch ≤ system.epoch
  made_low epoch (inl first) =
      let is = left.epoch_is in
      let low = system_least start r logs images left in
      omega (arith, first, is, low)
  made_low epoch (inr was) =
      let low = durable_low was.host was.at was.below was.marked in
      let more = was.least in
      omega (arith, low, more)

  -- or that a member was told is so
  told_low : (member : Member) (epoch : ℕ) → IsToldDone start member (logs (ldm_of start member)) epoch
      → epoch ≤ system.epoch
  told_low member epoch told =
      made_low epoch
      (told_done done start logs left.cluster (begins start r logs images left) member (ldm_of start member)
      (logs (ldm_of start member)) (past_self (logs (ldm_of start member))) epoch told)

  known_low : (member : Member) (epoch : ℕ) → IsKnownDurable start member (r.generation + 1) logs epoch
      → epoch ≤ system.epoch
  known_low member epoch (inl told) = told_low member epoch told
  known_low member epoch (inr made_so) = made_low epoch made_so

  -- so what is found on the disk of a member is so up to it
  least_low : (member : Member) (there : IsIn member (made start))
      → (left.each member there).saved.least ≤ system.epoch
  least_low member there =
      told_low member (left.each member there).saved.least (left.each member there).saved.told

  -- and of its control slots one wasn't saved behind it
  none_ahead : (member : Member) (one other : Option ControlSlot)
      → AreTold start member (r.generation + 1) logs one other → are_ahead system.epoch one other ≡ false
  none_ahead member None other told = refl
  none_ahead member (Some one) None told = refl
  none_ahead member (Some one) (Some other) (inl known) =
      and_left (nat_lt system.epoch one.saved) (nat_lt system.epoch other.saved)
      (le-ltb system.epoch one.saved (known_low member one.saved known))
  none_ahead member (Some one) (Some other) (inr known) =
      and_right (nat_lt system.epoch one.saved) (nat_lt system.epoch other.saved)
      (le-ltb system.epoch other.saved (known_low member other.saved known))

  -- a node's rows are those of the history up to the epoch of the slot, of its keys alone
  abbrev AreHistory : ℕ → Rows → Type 0
  AreHistory node rows =
      ((key : List ℕ) → holds start.shape node key ≡ true → map.get rows key ≡ row_up_to start logs system.epoch key)
      × ((key : List ℕ) → holds start.shape node key ≡ false → map.get rows key ≡ None)

  -- those of two nodes of a group are the same
  same_rows : (n m : ℕ) (one other : Rows) → group_of start.shape n ≡ group_of start.shape m → AreHistory n one
      → AreHistory m other → one ≡ other
  same_rows n m one other group own their =
      map.same_map nat_list_cmp_total (map.slice_cmp-IsAntisymmetric map.nat_cmp-IsAntisymmetric) one other
      (λ key. by key (holds start.shape n key) refl)
    where
      also : (key : List ℕ) → holds start.shape m key ≡ holds start.shape n key
      also key = ap (λ (g : ℕ). g == group_of_key start.shape key) (sym group)

      by : (key : List ℕ) (b : Bool) → holds start.shape n key ≡ b → map.get one key ≡ map.get other key
      by key true holding = own.0 key holding ∙ sym (their.0 key (also key ∙ holding))
      by key false apart = own.1 key apart ∙ sym (their.1 key (also key ∙ apart))

  -- the disk of each node that it lists has such
  own_rows : (node : ℕ) → 1 ≤ node → node ≤ start.shape.nodes → is_listed system.mask node ≡ true
      → HasOwnRows start.shape images system AreHistory node
  own_rows node some low listed = record {
    slot = has.slot;
    rows = replayed system.epoch before (records_behind (first_rows start member) has.events);
    owner = ap (is_owned node) (left.each member there).owner ∙ eq-eqb node node refl;
    control =
        ap (λ generation. control_of_file generation (images node CONTROL_FILE))
        (system_generation start r logs images left ∙ sym has.generation_is)
        ∙ has.restores.0;
    saved = saved_up;
    rows_are = has.restores.1 system.epoch (least_low member there);
    held = rows_held start.shape node _ others;
    logged =
        has.restores.2 (holds_record start.shape node)
        (unlogged start logs left.cluster member there has.older has.past has.events has.events_of);
    last =
        ap (λ generation. is_outdated generation system.epoch (images node CONTROL_FILE))
        (system_generation start r logs images left)
        ∙ none_ahead member _ _ (left.each member there).told_slots;
    so = (own, others);
  }
    where
      member : Member
      member = first_start node

      there : IsIn member (made start)
      there = begins_made start _ (first_in start.shape.nodes node some low)

      before : Rows
      before = rows_of_node start.shape node r

      has : HasSavedRows start member before (r.generation + 1) (logs (ldm_of start member)) (images node)
      has = (left.each member there).saved

      saved_up : system.epoch ≤ has.slot.saved
      saved_up = listed_saved start r logs images left copied member there listed

      own : (key : List ℕ) → holds start.shape node key ≡ true
          → map.get (replayed system.epoch before (records_behind (first_rows start member) has.events)) key
          ≡ row_up_to start logs system.epoch key
      own key holding =
          ap (λ (rows : Rows). map.get rows key)
          (replays (first_rows start member) before has.events system.epoch
          (first_pending start left.cluster.nobody member there))
          ∙ saved start logs (begins start r logs images left) left.cluster member there has.older has.past has.events
          has.events_of before (left.each member there).begun system.epoch
          (subst (λ k. system.epoch ≤ k) has.saved saved_up)
          key
          holding

      others : (key : List ℕ) → holds start.shape node key ≡ false
          → map.get (replayed system.epoch before (records_behind (first_rows start member) has.events)) key ≡ None
      others key apart =
          ap (λ (rows : Rows). map.get rows key)
          (replays (first_rows start member) before has.events system.epoch
          (first_pending start left.cluster.nobody member there))
          ∙ stay start logs left.cluster member there has.older has.past has.events has.events_of before system.epoch
          key
          apart
          ∙ left.grouped node key some low apart

  group_rows : (group : ℕ) → group < groups start.shape
      → IsGroup start.shape images system AreHistory (group * start.shape.replicas + 1)
  group_rows group below =
      let whole = group_low start.shape left.cluster.shape group below in
      group_is start.shape images system AreHistory (group * start.shape.replicas + 1)
      (λ node from under. own_rows node (omega (arith, from)) (omega (arith, under, whole)))
      (λ n m one other from under from_m under_m.
      same_rows n m one other
      (node_group start.shape group n from under ∙ sym (node_group start.shape group m from_m under_m)))
      (manned start r logs images left copied group below)

  all : AreGroups start.shape images system AreHistory 0 (groups start.shape) []
  all = all_groups start.shape images system AreHistory group_rows

  abbrev restored : Restored
  restored = record { generation = system.generation; epoch = system.epoch; groups = all.all }

  is_restored : restored_of start.shape images ≡ Ok restored
  is_restored =
      restored_as start.shape images (Ok (Some system)) (latest start r logs images left).is
      ∙ rows_under start.shape images system all.all all.is

  -- those of each node are the rows of one of its group
  of_one : (node : ℕ) → 1 ≤ node → node ≤ start.shape.nodes
      → AreOfOne start.shape images system AreHistory (group_of start.shape node * start.shape.replicas + 1)
      start.shape.replicas (get_or all.all (group_of start.shape node) map.empty)
  of_one node some low =
      subst
      (λ group. AreOfOne start.shape images system AreHistory (group * start.shape.replicas + 1) start.shape.replicas
      (get_or all.all (group_of start.shape node) map.empty))
      (let e : 0 + group_of start.shape node ≡ group_of start.shape node = omega arith in e)
      (all.each (group_of start.shape node) (node_low_group start.shape left.cluster.shape node some low))

  rows_so : (node : ℕ) (key : List ℕ) → 1 ≤ node → node ≤ start.shape.nodes → holds start.shape node key ≡ true
      → map.get (rows_of_node start.shape node restored) key ≡ row_up_to start logs restored.epoch key
  rows_so node key some low holding =
      (of_one node some low).so.0 key
      (ap (λ group. group == group_of_key start.shape key)
      (node_group start.shape (group_of start.shape node) (of_one node some low).node (of_one node some low).from
      (of_one node some low).below)
      ∙ holding)

  grouped : AreGrouped start.shape restored
  grouped node key some low apart =
      (of_one node some low).so.1 key
      (ap (λ group. group == group_of_key start.shape key)
      (node_group start.shape (group_of start.shape node) (of_one node some low).node (of_one node some low).from
      (of_one node some low).below)
      ∙ apart)

  of_life : IsOfLife start r logs restored
  of_life = record {
    generation_is = system_generation start r logs images left;
    least = system_least start r logs images left;
    durable = durable_low;
    groups_are = all.many;
    rows = rows_so;
    grouped = grouped;
  }

-- what the laws of members and their journals say leads to it
pub restarts_history : CopiedWereSaved → DurableWereNoted → DoneWereMarked → SavedRowsAreHistory → ReplaysGiveOwnRows
    → OtherKeysStay → OtherKeysAreUnlogged → RestartsAreHistory
restarts_history copied durable done saved replays stay unlogged start r logs images left = (
  restored copied durable done saved replays stay unlogged start r logs images left,
  (
    is_restored copied durable done saved replays stay unlogged start r logs images left,
    of_life copied durable done saved replays stay unlogged start r logs images left,
  ),
)
