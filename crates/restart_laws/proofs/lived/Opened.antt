-- Disks on which a life was opened are ready for it.
use Rattle.std.proofs.Common.{◌≡◌, ◌≤◌, ◌<◌, ◌+◌, ◌-◌, ◌∙◌, ℕ, zero, suc, List, [], ◌∷◌, length, map, refl, ap, subst}
use Rattle.std.proofs.Common.{arith}
use Rattle.std.specs.Prelude.{get_or, Option, None, Some, Ok}
use Rattle.host_io.specs.Call.{Call}
use Rattle.host_io.specs.Image.{IsRecord}
use Rattle.redo_log.specs.Stored.{files_of}
use Rattle.sig_core.specs.declared.view.Shape.{Shape}
use Rattle.life_start.specs.Begun.{AreSlotsOf}
use Rattle.life_start.specs.Records.{AllTellMore, TellsMore}
use Rattle.life_start.specs.Shapes.{HaveShape}
use Rattle.node_disk.specs.Found.{slots_in}
use Rattle.node_disk.specs.Slots.{SlotsInUse}
use Rattle.sys_restart.specs.declared.restored.Restored.{Restored}
use Rattle.sys_restart.specs.Files.{disks_of}
use Rattle.sys_restart.specs.LifeCalls.{record_of, told_by}
use Rattle.sys_restart.specs.ReadyDisks.{AreReady, AreToPrepare}
use Rattle.restart_laws.specs.Lived.{IsReadyFor, OpenedAreReady}

-- what stands at a place of a list
at_place : {A : Type 0} (xs : List A) (k : ℕ) → k < length xs → (x : A) × ((other : A) → get_or xs k other ≡ x)
at_place [] k low = absurd (omega (arith, low))
at_place (x ∷ xs) zero low = (x, λ other. refl)
at_place (x ∷ xs) (suc k) low = at_place xs k (omega (arith, low))

-- where each disk tells its calls there are records of all
all_some : {A : Type 0} (told : List (Option A)) → ((k : ℕ) → k < length told → (x : A) × (get_or told k None ≡ Some x))
    → (now : List A) × (told ≡ map Some now)
all_some [] each = ([], refl)
all_some (o ∷ told) each =
    let first = each 0 (omega arith) in
    let rest = all_some told (λ k low. each (suc k) (omega (arith, low))) in
    (first.0 ∷ rest.0, ap (λ x. x ∷ told) first.1 ∙ ap (λ xs. Some first.0 ∷ xs) rest.1)

mapped_at : {A : Type 0} (xs : List A) (k : ℕ) (d : A) → k < length xs
    → get_or (map Some xs) k None ≡ Some (get_or xs k d)
mapped_at [] k d low = absurd (omega (arith, low))
mapped_at (x ∷ xs) zero d low = refl
mapped_at (x ∷ xs) (suc k) d low = mapped_at xs k d (omega (arith, low))

mapped_length : {A : Type 0} (xs : List A) → length (map Some xs) ≡ length xs
mapped_length [] = refl
mapped_length (x ∷ xs) = ap suc (mapped_length xs)

one_told : {A : Type 0} (o : Option A) (one other : A) → o ≡ Some one → o ≡ Some other → one ≡ other
one_told o one other first second = cc

module _ (shape : Shape) (r : Restored) (records : List (List Call)) (told : List (Option (List Call)))
    (slots : List SlotsInUse) (may : AreToPrepare shape r records) (ready : AreReady shape r told)
    (more : AllTellMore (map Some records) told) (shapes : HaveShape shape told)
    (own : (now : List (List Call)) → told ≡ map Some now → AreSlotsOf (r.generation + 1) (disks_of now) slots)
    (many_told : length told ≡ shape.nodes) (many_slots : length slots ≡ shape.nodes) where
  now : (now : List (List Call)) × (told ≡ map Some now)
  now =
      all_some told (λ k low.
      let is = ready (k + 1) (omega arith) (omega (arith, low, many_told)) in
      (is.0, subst (λ p. get_or told p None ≡ Some is.0) (omega arith) is.1.0))

  module _ (node : ℕ) (some : 1 ≤ node) (few : node ≤ shape.nodes) where
    abbrev calls : List Call
    calls = (ready node some few).0

    is_told : told_by told node ≡ Some calls
    is_told = (ready node some few).1.0

    kept : IsRecord calls
    kept = by ((more records refl).each (node - 1))
      where
        low : node - 1 < length records
        low =
            let many = (more records refl).many in
            omega (arith, some, few, many, many_told, mapped_length records)

        by : TellsMore (get_or (map Some records) (node - 1) None) (get_or told (node - 1) None) → IsRecord calls
        by tells =
            let from : TellsMore (Some (record_of records node)) (get_or told (node - 1) None) =
            subst (λ o. TellsMore o (get_or told (node - 1) None)) (mapped_at records (node - 1) [] low) tells in
            subst IsRecord (one_told (get_or told (node - 1) None) from.0 calls from.1.0 is_told)
            (from.1.1.allowed (may.each node some few).kept)

    place : (x : SlotsInUse) × ((other : SlotsInUse) → get_or slots (node - 1) other ≡ x)
    place = at_place slots (node - 1) (omega (arith, some, few, many_slots))

    found : slots_in (r.generation + 1) (files_of calls) ≡ Ok (Some place.0)
    found =
        subst (λ (s : SlotsInUse). slots_in (r.generation + 1) (files_of calls) ≡ Ok (Some s)) (place.1 place.0)
        (subst
        (λ (c : List Call). slots_in (r.generation + 1) (files_of c) ≡ Ok (Some (get_or slots (node - 1) place.0)))
        same
        (own now.0 now.1 (node - 1) place.0 (omega (arith, some, few, many_slots))))
      where
        same : get_or now.0 (node - 1 + 1 - 1) [] ≡ calls
        same =
            ap (λ p. get_or now.0 p []) (omega (arith, some))
            ∙ one_told (get_or told (node - 1) None) (get_or now.0 (node - 1) []) calls
            (ap (λ all. get_or all (node - 1) None) now.1
            ∙ mapped_at now.0 (node - 1) []
            (let many = ap length now.1 in omega (arith, some, few, many, many_told, mapped_length now.0)))
            is_told

    is_ready : IsReadyFor shape r (record { told = told; slots = slots }) node
    is_ready =
        record {
          calls = calls;
          told = is_told;
          kept = kept;
          ready = (ready node some few).1.1;
          slots = place.0;
          slots_are = place.1;
          found = found;
          shapes = shapes node some few calls is_told;
          storable = (may.each node some few).rows;
        }

pub opened_are_ready : OpenedAreReady
opened_are_ready shape r records told slots may ready more shapes own many_told many_slots =
    record {
      told = many_told;
      slots = many_slots;
      each = is_ready shape r records told slots may ready more shapes own many_told many_slots;
    }
