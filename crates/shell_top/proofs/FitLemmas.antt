-- A life hands its disks on: where they were fit as it was to begin, so they are once their power is cut.
use Rattle.std.proofs.Common.{◌≡◌, ◌<◌, ◌∙◌, ℕ, suc, Bool, true, false, List, [], ◌∷◌, length, map, refl, ap, subst, sym}
use Rattle.std.proofs.Common.{get_or, arith}
use Rattle.std.proofs.lemmas.List.{get_or-map}
use Rattle.std.specs.Prelude.{Option, None, Some, Ok}
use Rattle.host_io.specs.Call.{Call, Lost}
use Rattle.host_io.specs.Disk.{IsCut, ends_cut}
use Rattle.disk_world.specs.Disks.{disks_with}
use Rattle.life_start.specs.Begun.{end_of_epochs}
use Rattle.life_start.specs.Records.{HaveMore, TellsMore}
use Rattle.restart_laws.proofs.handed.Cut.{lives_are_handed_on}
use Rattle.restart_laws.proofs.handed.CutRecords.{left_disks_are_cut}
use Rattle.restart_laws.specs.HandedOn.{AreCut}
use Rattle.restart_laws.specs.Lived.{AreFitFor}
use Rattle.shell_top.specs.Chapters.{IsRestored, RestartsAsHistory}
use Rattle.shell_top.specs.Fit.{AreFit, HandsOn}
use Rattle.shell_top.specs.Lives.{Going, IsLivedSince, life_of}
use Rattle.shell_top.specs.Seen.{HasGrown, HasLost, HaveLost, Seen}
use Rattle.shell_top.proofs.OnDisksLemmas.{left_as_history}
use Rattle.sig_core.specs.declared.view.Shape.{Shape}
use Rattle.sys_restart.proofs.AlikeLemmas.{same_answer}
use Rattle.sys_restart.proofs.DisksLemmas.{mapped}
use Rattle.sys_restart.specs.declared.restored.Restored.{Restored}
use Rattle.sys_restart.specs.Files.{disks_of}
use Rattle.sys_restart.specs.Restored.{restored_of}
use Rattle.world_core.specs.Start.{Start}
use Rattle.world_views.specs.Lives.{start_of}

-- where each place of a list has something, the list is of that
all_there : {A : Type 0} (xs : List (Option A))
    → ((at : ℕ) → at < length xs → (x : A) × (get_or xs at None ≡ Some x)) → (ys : List A) × (xs ≡ map Some ys)
all_there [] each = ([], refl)
all_there (x ∷ xs) each =
    let (y, is) = each 0 (omega arith) in
    let (ys, are) = all_there xs (λ at below. each (suc at) (omega (arith, below))) in
    (y ∷ ys, ap (λ o. o ∷ xs) is ∙ ap (λ os. Some y ∷ os) are)

-- a disk that told its record tells one behind a cut of its power
cut_tells : (calls : List Call) (now : Option (List Call)) (b : Bool) → IsCut calls now b
    → (more : List Call) × (now ≡ Some more)
cut_tells calls now true is = (calls, is)
cut_tells calls now false (files, added) = (Lost files ∷ calls, added.grown)

module _ (shape : Shape) (opened left : Seen) (g : Going) (grown : HasGrown opened left)
    (restored : IsRestored shape opened (life_of g)) (begins : g.start ≡ start_of shape (life_of g))
    (lived : IsLivedSince shape opened left g)
  where
    module _ (fit : AreFit shape opened) (now : Seen) (lost : HaveLost left now)
      where
        abbrev r : Restored
        r = (restored fit.records fit.tell).1.restored

        fit_for : AreFitFor shape r fit.records
        fit_for =
            let begun = (restored fit.records fit.tell).1 in
            fit.for_life r begun.read (subst (λ (epoch : ℕ). epoch < end_of_epochs) begun.begins.1 begun.low)

        more : HaveMore opened.told left.told
        more = grown.more fit.records fit.tell

        as_many : length left.told ≡ length fit.records
        as_many = more.many ∙ ap length fit.tell ∙ mapped Some fit.records

        lost_each : (at : ℕ) (calls : List Call) → get_or left.told at None ≡ Some calls
            → IsCut calls (get_or now.told at None) (ends_cut calls)
        lost_each at calls is =
            subst (λ (before : Option (List Call)). HasLost before (get_or now.told at None)) is (lost.each at)

        tells_now : (at : ℕ) → at < length now.told → (own : List Call) × (get_or now.told at None ≡ Some own)
        tells_now at below =
            let many = lost.many in
            let was : get_or opened.told at None ≡ Some (get_or fit.records at []) =
            ap (λ (all : List (Option (List Call))). get_or all at None) fit.tell
            ∙ get_or-map Some fit.records at [] None (omega (arith, below, many, as_many)) in
            let (calls, (is, longer)) =
            subst (λ (before : Option (List Call)). TellsMore before (get_or left.told at None)) was (more.each at) in
            cut_tells calls (get_or now.told at None) (ends_cut calls) (lost_each at calls is)

        there : (records : List (List Call)) × (now.told ≡ map Some records)
        there = all_there now.told tells_now

        cut : AreCut g.start.shape left.told there.0
        cut =
            subst (λ (s : Start). AreCut s.shape left.told there.0) (sym begins)
            (left_disks_are_cut shape r fit.records there.0 opened.told left.told now.told fit.tell fit.many fit_for
            grown.more there.1 lost.many lost_each)

        handed : (found : Restored)
            × ((restored_of shape (disks_of there.0) ≡ Ok found)
            × (found.epoch < end_of_epochs → AreFitFor shape found there.0))
        handed =
            let on = lives_are_handed_on g.start r g.whole (disks_with left.told g.slots) there.0
            (lived fit.records fit.tell r fit_for) cut in
            subst
            (λ (s : Start).
            (found : Restored)
            × ((restored_of s.shape (disks_of there.0) ≡ Ok found)
            × (found.epoch < end_of_epochs → AreFitFor s.shape found there.0)))
            begins (on.0, (on.1.0, on.1.2))

        fit_now : AreFit shape now
        fit_now = record {
          records = there.0;
          many = sym (mapped Some there.0) ∙ ap length (sym there.1) ∙ lost.many ∙ as_many ∙ fit.many;
          tell = there.1;
          for_life = λ again is last.
              let same = same_answer handed.0 again (restored_of shape (disks_of there.0)) handed.1.0 is in
              subst (λ (x : Restored). AreFitFor shape x there.0) same
              (handed.1.1 (subst (λ (x : Restored). x.epoch < end_of_epochs) (sym same) last));
        }

    pub disks_are_handed_on : HandsOn shape opened left
    disks_are_handed_on = fit_now

    -- and whatever a crash leaves of them, a restart comes to its history
    pub kept_as_history : RestartsAsHistory shape opened left (life_of g) × HandsOn shape opened left
    kept_as_history = (left_as_history shape opened left g begins lived, disks_are_handed_on)
