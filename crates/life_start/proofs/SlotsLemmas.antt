-- Slots that are read one disk after the other.
use Rattle.std.proofs.Common.{◌≡◌, ◌⊎◌, inl, inr, ℕ, ◌+◌, ◌<◌, ◌≤◌, List, [], ◌∷◌, ◌++◌, length, get_or, sym, subst}
use Rattle.std.proofs.Common.{arith}
use Rattle.std.proofs.lemmas.Bool.{cases_lt}
use Rattle.std.proofs.lemmas.List.{get_or_append_left, length-append}
use Rattle.std.proofs.Math.Seq.{get_or-append_seam}
use Rattle.node_disk.specs.Slots.{SlotsInUse}
use Rattle.sys_restart.specs.Files.{Disks}
use Rattle.sys_restart.proofs.DisksLemmas.{uneven}
use Rattle.life_start.specs.Begun.{AreSlotsOf, IsSlotsOf}

-- the slots of the next disk stand behind those of others
pub one_more : (generation : ℕ) (disks : Disks) (slots : List SlotsInUse) (one : SlotsInUse)
    → AreSlotsOf generation disks slots → IsSlotsOf generation (disks (length slots + 1)) one
    → AreSlotsOf generation disks (slots ++ one ∷ [])
one_more generation disks slots one are is k other below = by (cases_lt k (length slots))
  where
    by : (k < length slots) ⊎ (length slots ≤ k)
        → IsSlotsOf generation (disks (k + 1)) (get_or (slots ++ one ∷ []) k other)
    by (inl low) =
        subst (IsSlotsOf generation (disks (k + 1))) (sym (get_or_append_left slots (one ∷ []) other k low))
        (are k other low)
    by (inr high) =
        let all : length (slots ++ one ∷ []) ≡ length slots + 1 = length-append slots (one ∷ []) in
        let last : length slots ≡ k = omega (arith, high, below, all) in
        subst (λ (p : ℕ). IsSlotsOf generation (disks (p + 1)) (get_or (slots ++ one ∷ []) p other)) last
        (subst (IsSlotsOf generation (disks (length slots + 1)))
        (sym (get_or-append_seam slots one [] other)) is)

pub none_yet : (generation : ℕ) (disks : Disks) (slots : List SlotsInUse) → slots ≡ []
    → AreSlotsOf generation disks slots
none_yet generation disks [] none k other below = absurd (omega (arith, below))
none_yet generation disks (one ∷ slots) none k other below = absurd (uneven one slots none)

-- the slots of the next disk were read
pub next_more : (generation index : ℕ) (disks : Disks) (slots more : List SlotsInUse) (one : SlotsInUse)
    → length slots ≡ index → more ≡ slots ++ one ∷ [] → AreSlotsOf generation disks slots
    → IsSlotsOf generation (disks (index + 1)) one → AreSlotsOf generation disks more
next_more generation index disks slots more one count grown are is =
    subst (AreSlotsOf generation disks) (sym grown)
    (one_more generation disks slots one are
    (subst (λ (k : ℕ). IsSlotsOf generation (disks (k + 1)) one) (sym count) is))
