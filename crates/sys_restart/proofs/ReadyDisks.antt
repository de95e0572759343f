-- Once all disks were prepared and named, they are ready.
use Rattle.std.proofs.Common.{◌≡◌, ◌∙◌, ℕ, zero, suc, ◌+◌, ◌≤◌, ◌<◌, true, List, length, refl, ap, sym, subst, arith, inl, inr}
use Rattle.std.specs.Prelude.{Option, None, Some, Result, Ok, Err}
use Rattle.std.proofs.lemmas.Bool.{cases_lt}
use Rattle.frag_map.specs.Shape.{IsShape}
use Rattle.host_io.specs.Call.{Call}
use Rattle.host_io.specs.Image.{IsRecord}
use Rattle.lcp_store.specs.Laws.{CheckpointsAreRead}
use Rattle.redo_log.specs.Stored.{files_of}
use Rattle.sig_core.specs.Table.{Rows}
use Rattle.sig_core.specs.declared.fault.RestartFault.{RestartFault}
use Rattle.sig_core.specs.declared.slots.SystemSlot.{SystemSlot}
use Rattle.sig_core.specs.declared.view.Shape.{Shape}
use Rattle.sysfile_core.specs.declared.place.TheConstants.{SYSTEM_FILE}
use Rattle.sysfile_core.specs.Reading.{later_system, system_at}
use Rattle.sysfile_core.specs.Runs.{Runs}
use Rattle.sysfile_core.proofs.RunLemmas.{all_done}
use Rattle.sys_restart.specs.declared.restored.Restored.{Restored}
use Rattle.sys_restart.specs.Calls.{name_calls, node_calls}
use Rattle.sys_restart.specs.Files.{Disks, disks_of}
use Rattle.sys_restart.specs.Groups.{rows_of_groups}
use Rattle.sys_restart.specs.Latest.{later, latest_from, latest_of, latest_on, of_shape}
use Rattle.sys_restart.specs.LifeCalls.{HasRun, RunInTurn, prepare_asks, prepared_record, record_of, told_by}
use Rattle.sys_restart.specs.Prepared.{IsBelow, MayName}
use Rattle.sys_restart.specs.ReadyDisks.{AreReady, AreToPrepare}
use Rattle.sys_restart.specs.Restored.{restored_by, restored_of, with_rows}
use Rattle.sys_restart.proofs.AlikeLemmas.{no_answer, same_answer}
use Rattle.sys_restart.proofs.KeepsLemmas.{HasNumbers}
use Rattle.sys_restart.proofs.LatestLemmas.{latest_fails}
use Rattle.sys_restart.proofs.LifeLemmas.{each_made, made_record}
use Rattle.sys_restart.proofs.MomentLemmas.{runs_record}
use Rattle.sys_restart.proofs.NameLemmas.{both_below}
use Rattle.sys_restart.proofs.PreparedLemmas.{prepares, system_stays}
use Rattle.sys_restart.proofs.ReadyLemmas.{is_ready}

-- the latest system slot of a node is below a generation
abbrev pub HasBelow : Shape → ℕ → Disks → ℕ → Type 0
HasBelow shape generation disks node =
    (slot : Option SystemSlot) × ((latest_on shape node (disks node) ≡ Ok slot) × IsBelow generation slot)

-- those of all nodes are where the latest is
each_from : (shape : Shape) (generation : ℕ) (disks : Disks) (node more : ℕ) (found last : Option SystemSlot)
    → latest_from shape disks node more (Ok found) ≡ Ok last → IsBelow generation last
    → IsBelow generation found × ((k : ℕ) → node ≤ k → k < node + more → HasBelow shape generation disks k)
unfolding latest_from
each_from shape generation disks node zero found last is below = (
  subst (IsBelow generation) (sym (same_answer found last _ refl is)) below,
  λ k low high. absurd (omega (arith, low, high)),
)
each_from shape generation disks node (suc more) found last is below =
    by (latest_on shape node (disks node))
    (λ slot rest. each_from shape generation disks (node + 1) more (later_system found slot) last rest below) refl
  where
    by : (read : Result (Option SystemSlot) RestartFault)
        → ((slot : Option SystemSlot) → latest_from shape disks (node + 1) more (Ok (later_system found slot)) ≡ Ok last
        → IsBelow generation (later_system found slot)
        × ((k : ℕ) → node + 1 ≤ k → k < node + 1 + more → HasBelow shape generation disks k))
        → latest_on shape node (disks node) ≡ read
        → IsBelow generation found × ((k : ℕ) → node ≤ k → k < node + suc more → HasBelow shape generation disks k)
    by (Err fault) again e =
        absurd (no_answer fault last _
        (ap (λ read. latest_from shape disks (node + 1) more (later (Ok found) read)) e
        ∙ latest_fails shape disks (node + 1) more fault)
        is)
    by (Ok slot) again e =
        let rest =
        again slot (sym (ap (λ read. latest_from shape disks (node + 1) more (later (Ok found) read)) e) ∙ is) in
        let both = both_below generation found slot rest.0 in (
          both.0,
          λ k low high.
              elim (cases_lt node k) [
                | inl less ↦ rest.1 k (omega (arith, less)) (omega (arith, high))
                | inr most ↦
                    let here : node ≡ k = omega (arith, low, most) in
                    subst (HasBelow shape generation disks) here (slot, (e, both.1))
              ],
        )

-- no disk names the next life where a restart gives this one
pub each_below : (shape : Shape) (disks : Disks) (r : Restored) → restored_of shape disks ≡ Ok r → (node : ℕ)
    → 1 ≤ node → node ≤ shape.nodes → HasBelow shape (r.generation + 1) disks node
unfolding restored_of
each_below shape disks r is node some few = by (latest_of shape disks) refl
  where
    each : (last : Option SystemSlot) → latest_of shape disks ≡ Ok last → IsBelow (r.generation + 1) last
        → HasBelow shape (r.generation + 1) disks node
    each last e below =
        (each_from shape (r.generation + 1) disks 1 shape.nodes None last e below).1 node some (omega (arith, few))

    rows_by : (system : SystemSlot) (rows : Result (List Rows) RestartFault) → latest_of shape disks ≡ Ok (Some system)
        → rows_of_groups shape disks system ≡ rows → HasBelow shape (r.generation + 1) disks node
    rows_by system (Err fault) e f =
        absurd (no_answer fault r _ (ap (restored_by shape disks) e ∙ ap (with_rows system) f) is)
    rows_by system (Ok rows) e f =
        let made : Restored = record { generation = system.generation; epoch = system.epoch; groups = rows } in
        let same : made ≡ r = same_answer made r _ (ap (restored_by shape disks) e ∙ ap (with_rows system) f) is in
        let generation : system.generation ≡ r.generation = ap (λ (s : Restored). s.generation) same in
        each (Some system) e (omega (arith, generation))

    by : (found : Result (Option SystemSlot) RestartFault) → latest_of shape disks ≡ found
        → HasBelow shape (r.generation + 1) disks node
    by (Err fault) e = absurd (no_answer fault r _ (ap (restored_by shape disks) e) is)
    by (Ok None) e = each None e tt
    by (Ok (Some system)) e = rows_by system (rows_of_groups shape disks system) e refl

module _ (shape : Shape) (r : Restored) (records : List (List Call)) (mid told : List (Option (List Call)))
    (is : IsShape shape) (numbers : HasNumbers r) (law : CheckpointsAreRead) (many : length mid ≡ length records)
    (nodes : length records ≡ shape.nodes) (are : AreToPrepare shape r records)
    (first : HasRun (prepare_asks shape r records) records mid (Ok tt)) where
  abbrev prepared : ℕ → List Call
  prepared node = prepared_record shape r (record_of records) node

  may_name : (node : ℕ) → 1 ≤ node → node ≤ shape.nodes → MayName shape node r (prepared node)
  may_name node some few = record {
    kept =
        subst IsRecord (sym (all_done calls before (prepared node) made))
        (runs_record calls before (Some (prepared node)) made (are.each node some few).kept);
    prepared = prepares before shape node r numbers (are.each node some few) (prepared node) made law;
    below = by (each_below shape (disks_of records) r are.restored node some few);
  }
    where
      before : List Call
      before = record_of records node

      calls : List Call
      calls = node_calls before shape node r

      made : Runs calls before (Some (prepared node)) true
      made = each_made shape r records mid told (Ok tt) many first node some (omega (arith, few, nodes))

      stays : files_of (prepared node) SYSTEM_FILE ≡ files_of before SYSTEM_FILE
      stays = system_stays before shape node r numbers (are.each node some few) (prepared node) made

      by : HasBelow shape (r.generation + 1) (disks_of records) node
          → (slot : Option SystemSlot)
          × ((latest_on shape node (files_of (prepared node)) ≡ Ok slot) × IsBelow (r.generation + 1) slot)
      by (slot, (latest, below)) = (
        slot,
        (
          ap (λ bytes. later (of_shape shape node (system_at 0 bytes)) (of_shape shape node (system_at 1 bytes))) stays
              ∙ latest,
          below,
        ),
      )

  pub all_ready : (last : ℕ)
      → RunInTurn (λ node. name_calls (prepared_record shape r (record_of records) node) shape r)
      (prepared_record shape r (record_of records)) told (length records) (Ok tt) last → AreReady shape r told
  all_ready last turns node some few =
      let asks = name_calls (prepared node) shape r in
      let runs : Runs asks (prepared node) (told_by told node) true =
      turns.whole node some (omega (arith, few, nodes, turns.last)) in
      let now = made_record asks (prepared node) (told_by told node) runs in (
        _,
        (
          now,
          is_ready (prepared node) _ shape node r is numbers (may_name node some few)
              (subst (λ end. Runs asks (prepared node) end true) now runs),
        ),
      )
