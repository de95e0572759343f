-- What disks tell behind a cut of their power, where they told their records before it.
use Rattle.std.proofs.Common.{◌≡◌, ◌≤◌, ◌<◌, ◌+◌, ◌-◌, ◌∙◌, ℕ, false, List, [], ◌∷◌, length, get_or, map, refl, ap}
use Rattle.std.proofs.Common.{sym, subst, arith, inl, inr}
use Rattle.std.proofs.lemmas.Bool.{cases_lt}
use Rattle.std.proofs.lemmas.List.{get_or-map, get_or_past}
use Rattle.std.specs.Prelude.{Option, None, Some}
use Rattle.host_io.specs.Call.{Call, Wrote, Tore, Synced, Lost}
use Rattle.host_io.specs.Disk.{IsCut, ends_cut}
use Rattle.host_io.specs.Image.{IsLeft, IsRecord}
use Rattle.host_io.proofs.StateLemmas.{reads_as_an_image}
use Rattle.life_start.specs.Records.{AllTellMore, HaveMore, TellsMore}
use Rattle.redo_log.specs.Stored.{files_of}
use Rattle.sig_core.specs.declared.view.Shape.{Shape}
use Rattle.sys_restart.specs.declared.restored.Restored.{Restored}
use Rattle.sys_restart.specs.Files.{disks_of}
use Rattle.sys_restart.specs.Prepared.{IsSettled}
use Rattle.sys_restart.proofs.AlikeLemmas.{not_none, same_some}
use Rattle.sys_restart.proofs.DisksLemmas.{mapped}
use Rattle.restart_laws.specs.HandedOn.{AreCut}
use Rattle.restart_laws.specs.Lived.{AreFitFor}

-- the record of one disk behind the cut of its power
record IsCutTo (calls now : List Call) : Type 0 where
  kept : IsRecord now
  settled : IsSettled now
  left : IsLeft calls (files_of now)

cut_to : (calls now : List Call) → IsRecord calls → IsCut calls (Some now) (ends_cut calls) → IsCutTo calls now
cut_to calls now kept cut = by calls kept cut
  where
    -- it has the cut more
    more : (before : List Call) → IsRecord before → IsCut before (Some now) false → IsCutTo before now
    more before kept (files, added) =
        subst (IsCutTo before) (same_some (Lost files ∷ before) now _ added.grown refl)
        (record { kept = (added.allowed, kept); settled = λ file here. refl; left = added.allowed.1 })

    by : (before : List Call) → IsRecord before → IsCut before (Some now) (ends_cut before) → IsCutTo before now
    by [] kept cut = more [] kept cut
    by (Wrote file at bytes ∷ before) kept cut = more (Wrote file at bytes ∷ before) kept cut
    by (Tore file at asked piece ∷ before) kept cut = more (Tore file at asked piece ∷ before) kept cut
    by (Synced file ∷ before) kept cut = more (Synced file ∷ before) kept cut
    by (Lost files ∷ before) kept cut =
        subst (IsCutTo (Lost files ∷ before)) (same_some (Lost files ∷ before) now _ cut refl)
        (record { kept = kept; settled = λ file here. refl; left = reads_as_an_image (Lost files ∷ before) kept })

-- a disk tells a record that keeps to the model
abbrev TellsRecord : Option (List Call) → Type 0
TellsRecord told = (calls : List Call) × ((told ≡ Some calls) × IsRecord calls)

module _ (shape : Shape) (told : List (Option (List Call))) (records : List (List Call))
    (many : length records ≡ length told)
    (tell : (at : ℕ) → at < length told → TellsRecord (get_or told at None))
    (lost : (at : ℕ) (calls : List Call) → get_or told at None ≡ Some calls
    → IsCut calls (get_or (map Some records) at None) (ends_cut calls)) where
  one : (at : ℕ) → at < length told
      → (calls : List Call) × ((get_or told at None ≡ Some calls) × IsCutTo calls (get_or records at []))
  one at below =
      let (calls, (is, kept)) = tell at below in (
        calls,
        (
          is,
          cut_to calls (get_or records at []) kept
              (subst (λ (now : Option (List Call)). IsCut calls now (ends_cut calls))
              (get_or-map Some records at [] None (omega (arith, many, below))) (lost at calls is)),
        ),
      )

  -- behind the last record there is none
  past : (at : ℕ) → length told ≤ at → get_or records at [] ≡ []
  past at high = get_or_past records at [] (omega (arith, many, high))

  pub cut_disks_are_cut : AreCut shape told records
  cut_disks_are_cut = record {
    kept = λ node.
        elim (cases_lt (node - 1) (length told)) [
          | inl below ↦ (one (node - 1) below).1.1.kept
          | inr high ↦ subst IsRecord (sym (past (node - 1) high)) tt
        ];
    settled = λ node some few.
        elim (cases_lt (node - 1) (length told)) [
          | inl below ↦ (one (node - 1) below).1.1.settled
          | inr high ↦ subst IsSettled (sym (past (node - 1) high)) (λ file here. refl)
        ];
    left = λ node calls is.
        elim (cases_lt (node - 1) (length told)) [
          | inl below ↦
              let (own, (own_is, cut)) = one (node - 1) below in
              subst (λ (before : List Call). IsLeft before (disks_of records node))
              (same_some own calls _ own_is is) cut.left
          | inr high ↦ absurd (not_none calls _ (get_or_past told (node - 1) None high) is)
        ];
  }

-- so are the disks of a life, from which it was to begin and which then told more
pub left_disks_are_cut : (shape : Shape) (r : Restored) (first records : List (List Call))
    (opened told now : List (Option (List Call))) → opened ≡ map Some first → length first ≡ shape.nodes
    → AreFitFor shape r first → AllTellMore opened told → now ≡ map Some records → length now ≡ length told
    → ((at : ℕ) (calls : List Call) → get_or told at None ≡ Some calls
    → IsCut calls (get_or now at None) (ends_cut calls))
    → AreCut shape told records
left_disks_are_cut shape r first records opened told now were nodes fit grown is many lost =
    cut_disks_are_cut shape told records
    (sym (mapped Some records) ∙ ap length (sym is) ∙ many)
    tell
    (λ at calls some.
    subst (λ (all : List (Option (List Call))). IsCut calls (get_or all at None) (ends_cut calls)) is
    (lost at calls some))
  where
    more : HaveMore opened told
    more = grown first were

    as_many : length told ≡ length first
    as_many = more.many ∙ ap length were ∙ mapped Some first

    kept : (at : ℕ) → at < length told → IsRecord (get_or first at [])
    kept at below =
        let same : at + 1 - 1 ≡ at = omega arith in
        subst (λ (k : ℕ). IsRecord (get_or first k [])) same
        (fit.0.each (at + 1) (omega arith) (omega (arith, as_many, nodes, below))).kept

    tell : (at : ℕ) → at < length told → TellsRecord (get_or told at None)
    tell at below =
        let (calls, (told_is, longer)) =
        subst (λ (before : Option (List Call)). TellsMore before (get_or told at None))
        (ap (λ (all : List (Option (List Call))). get_or all at None) were
        ∙ get_or-map Some first at [] None (omega (arith, as_many, below)))
        (more.each at) in (
          calls,
          (told_is, longer.allowed (kept at below)),
        )
