-- The members that began the life are in the first view, and signals of theirs are well formed.
use Rattle.std.proofs.Common.{◌≡◌, ℕ, zero, suc, ◌+◌, ◌/◌, ◌<◌, ◌≤◌, ◌⊎◌, inl, inr, [], ◌∷◌, true, false, refl, ap, ◌∙◌}
use Rattle.std.proofs.Common.{eq-eqb, arith}
use Rattle.std.specs.Prelude.{◌&&◌, ◌||◌, nat_le}
use Rattle.std.specs.List.{list_all, list_any}
use Rattle.std.proofs.lemmas.Bool.{and_from, cases_lt, or_left, or_right}
use Rattle.std.proofs.lemmas.Bool.Decides.{nat_tests}
use Rattle.std.proofs.lemmas.List.Folds.{list_all-append, list_any-append}
use Rattle.api_views.specs.Members.{is_among, is_member, same_member}
use Rattle.frag_map.specs.Layout.{first_view, members}
use Rattle.frag_map.specs.Replicas.{first_start}
use Rattle.node_views.specs.WellFormed.{are_nodes, is_body_sound, is_node, is_sender, is_view, is_well_formed}
use Rattle.node_views.specs.WellFormed as shape
use Rattle.sig_core.specs.declared.member.Member.{Member}
use Rattle.sig_core.specs.declared.signal.Signal.{Signal}
use Rattle.sig_core.specs.declared.view.Shape.{Shape}
use Rattle.sig_core.specs.Members.{nobody}
use Rattle.world_core.proofs.HostNumbers.{made_at}
use Rattle.world_core.specs.Hosts.{first_hosts, member_at}
use Rattle.world_core.specs.Start.{Start, made}
use Rattle.calm_laws.specs.Alike.{first}
use Rattle.calm_laws.proofs.lives.WellFormed.{sender_sound}

-- a host behind the shell's is of one of them
pub member_first : (start : Start) (h : ℕ) → suc h < first_hosts start
    → member_at (made start) (suc h) ≡ first_start (h / 3 + 1)
member_first start h low = made_at start (h / 3) nobody (omega (arith, low))

among : (n k : ℕ) → k < n → is_among (members n) (first_start (k + 1)) ≡ true
among zero k low = absurd (omega (arith, low))
among (suc n) k low =
    list_any-append (same_member (first_start (k + 1))) (members n) (first_start (n + 1) ∷ [])
    ∙ go (cases_lt k n) (among n k)
  where
    go : (k < n) ⊎ (n ≤ k) → (k < n → is_among (members n) (first_start (k + 1)) ≡ true)
        → (is_among (members n) (first_start (k + 1))
        || list_any (same_member (first_start (k + 1))) (first_start (n + 1) ∷ []))
        ≡ true
    go (inl below) before =
        or_left (is_among (members n) (first_start (k + 1)))
        (list_any (same_member (first_start (k + 1))) (first_start (n + 1) ∷ [])) (before below)
    go (inr last) before =
        let at : k + 1 ≡ n + 1 = omega (arith, last, low) in
        or_right (is_among (members n) (first_start (k + 1)))
        (list_any (same_member (first_start (k + 1))) (first_start (n + 1) ∷ []))
        (ap (λ b. (b && true) || false) (eq-eqb (k + 1) (n + 1) at))

pub member_known : (start : Start) (h : ℕ) → suc h < first_hosts start
    → is_member (first start) (member_at (made start) (suc h)) ≡ true
unfolding is_member
member_known start h low =
    ap (λ (m : Member). is_among (members start.shape.nodes) m || false) (member_first start h low)
    ∙ or_left (is_among (members start.shape.nodes) (first_start (h / 3 + 1))) false
    (among start.shape.nodes (h / 3) (omega (arith, low)))

-- all of them are nodes
node_there : (of : Shape) (node : ℕ) → 1 ≤ node → node ≤ of.nodes → is_node of node ≡ true
node_there of node some low =
    and_from (nat_le 1 node) (nat_le node of.nodes) (grind (arith, nat_tests, some)) (grind (arith, nat_tests, low))

all_nodes : (of : Shape) (n : ℕ) → n ≤ of.nodes → are_nodes of (members n) ≡ true
all_nodes of zero low = refl
all_nodes of (suc n) low =
    list_all-append (shape.is_member of) (members n) (first_start (n + 1) ∷ [])
    ∙ and_from (are_nodes of (members n)) (list_all (shape.is_member of) (first_start (n + 1) ∷ []))
    (all_nodes of n (omega (arith, low)))
    (and_from (is_node of (n + 1)) true (node_there of (n + 1) (omega arith) (omega (arith, low))) refl)

view_there : (of : Shape) → is_view of (first_view of.nodes) ≡ true
view_there of =
    and_from (true && are_nodes of (members of.nodes)) true
    (and_from true (are_nodes of (members of.nodes)) refl (all_nodes of of.nodes (omega arith))) refl

-- a signal of the first view, from a host that is there
pub first_fine : (start : Start) (h : ℕ) (x : Signal) → h < first_hosts start → x.view ≡ first start
    → x.member ≡ member_at (made start) h → is_body_sound start.shape x.body ≡ true
    → is_well_formed start.shape x ≡ true
unfolding is_well_formed
first_fine start h x low view member sound =
    and_from (is_sender start.shape x.member && is_view start.shape x.view) (is_body_sound start.shape x.body)
    (and_from (is_sender start.shape x.member) (is_view start.shape x.view)
    (ap (is_sender start.shape) member ∙ sender_sound start h low)
    (ap (is_view start.shape) view ∙ view_there start.shape))
    sound
