-- The hosts of main parts, by the places of their members in the ring of the first view.
use Rattle.std.proofs.Common.{◌≡◌, ◌+◌, ◌-◌, ◌*◌, ◌/◌, ◌%◌, ◌<◌, ◌≤◌, ℕ, zero, suc, true, refl, sym, ap, ◌∙◌, arith}
use Rattle.std.specs.Prelude.{None, Some}
use Rattle.std.proofs.lemmas.Bool.{false≢true}
use Rattle.std.proofs.lemmas.Nat.{mod-mul-add}
use Rattle.frag_map.specs.Replicas.{first_start}
use Rattle.frag_map.specs.Shape.{IsShape}
use Rattle.qmgr_block.specs.Ring.{place_behind, place_in_front}
use Rattle.sig_core.specs.Place.{membership}
use Rattle.world_core.proofs.HostNumbers.{node_host}
use Rattle.world_core.specs.Hosts.{host_for, first_hosts, member_at, part_by}
use Rattle.world_core.specs.Start.{Start, made}
use Rattle.calm_laws.specs.Plain.{is_beating, is_main}
use Rattle.calm_laws.proofs.lives.FirstMembers.{member_first}
use Rattle.calm_laws.proofs.lives.FirstRing.{ring_alone, ring_many}
use Rattle.calm_laws.proofs.plain_steps.Resting.{ring}

-- the host of the main part of the member at a place
abbrev pub main_at : ℕ → ℕ
main_at k = suc (k * 3)

left_main : (left : ℕ) → is_main (part_by left) ≡ true → left ≡ 0
left_main zero beats = refl
left_main (suc zero) beats = absurd (false≢true beats)
left_main (suc (suc left)) beats = absurd (false≢true beats)

pub main_beats : (k : ℕ) → is_beating (main_at k) ≡ true
main_beats k =
    let whole : k * 3 ≡ k * 3 + 0 = omega arith in
    ap (λ (m : ℕ). is_main (part_by (m % 3))) whole
    ∙ ap (λ (left : ℕ). is_main (part_by left)) (mod-mul-add k 3 0 (omega arith))

-- Each host that beats is such a one.
pub record IsMainAt (start : Start) (h : ℕ) : Type 0 where
  pub place : ℕ
  pub low : place < start.shape.nodes
  pub is : h ≡ main_at place

pub main_place : (start : Start) (h : ℕ) → h < first_hosts start → is_beating h ≡ true → IsMainAt start h
main_place start zero low beats = absurd (false≢true beats)
main_place start (suc m) low beats =
    let left : m % 3 ≡ 0 = left_main (m % 3) beats in
    record { place = m / 3; low = omega (arith, low); is = ap suc (omega (arith, left)) }

pub main_low : (start : Start) (k : ℕ) → k < start.shape.nodes → main_at k < first_hosts start
main_low start k low = omega (arith, low)

pub main_member : (start : Start) (k : ℕ) → k < start.shape.nodes
    → member_at (made start) (main_at k) ≡ first_start (k + 1)
main_member start k low =
    let at : k * 3 / 3 ≡ k = omega arith in
    member_first start (k * 3) (omega (arith, low)) ∙ ap (λ (i : ℕ). first_start (i + 1)) at

-- what is for its membership goes there
pub main_reached : (start : Start) (k : ℕ) → k < start.shape.nodes → host_for start (membership (k + 1)) ≡ main_at k
main_reached start k low = node_host start (membership (k + 1)) (omega arith) (omega (arith, low)) ∙ omega arith

-- who is beside it
module _ (start : Start) (shape : IsShape start.shape) (k : ℕ) (low : k < start.shape.nodes) where
  pub none_beside : start.shape.nodes ≡ 1 → ring start (main_at k) ≡ record { next = None; before = None }
  none_beside one =
      sym (ap (ring start) (main_reached start k low))
      ∙ ring_alone start shape (k + 1) (omega arith) (omega (arith, low)) one

  pub two_beside : 2 ≤ start.shape.nodes
      → ring start (main_at k)
      ≡ record {
        next = Some (first_start (place_behind start.shape.nodes k + 1));
        before = Some (first_start (place_in_front start.shape.nodes k + 1));
      }
  two_beside many =
      let own : k + 1 - 1 ≡ k = omega arith in
      sym (ap (ring start) (main_reached start k low))
      ∙ ring_many start shape (k + 1) (omega arith) (omega (arith, low)) many
      ∙ ap (λ i.
      record {
        next = Some (first_start (place_behind start.shape.nodes i + 1));
        before = Some (first_start (place_in_front start.shape.nodes i + 1));
      })
      own
