-- The host of each part of a member that was made, and to which member's part a request for a fence comes.
use Rattle.std.proofs.Common.{◌≡◌, ◌==◌, ◌+◌, ◌-◌, ◌*◌, ◌≤◌, ◌||◌, ◌∙◌, ℕ, suc, Bool, true, false, filter, List, []}
use Rattle.std.proofs.Common.{◌∷◌, length, refl, ap, sym, subst, arith}
use Rattle.std.proofs.lemmas.Bool.{eqb-true}
use Rattle.std.specs.List.{list_any}
use Rattle.std.specs.Prelude.{if◌then◌else◌, Option, None, Some, position}
use Rattle.frag_map.specs.Layout.{first_view}
use Rattle.frag_map.specs.Replicas.{first_start, is_member}
use Rattle.run_theory.specs.Lists.{IsIn}
use Rattle.run_theory.proofs.EachSent.{each_get}
use Rattle.run_theory.proofs.Pasts.{each_from}
use Rattle.sig_core.proofs.Firsts.{place_by, position-cons}
use Rattle.sig_core.specs.declared.member.Member.{Member}
use Rattle.sig_core.specs.declared.place.BlockId.{BlockId}
use Rattle.sig_core.specs.declared.place.Part.{Part}
use Rattle.sig_core.specs.declared.place.Part.TheVariants.{Ldm, Main, Tc}
use Rattle.sig_core.specs.declared.view.View.{View}
use Rattle.sig_core.specs.Part.{part_of}
use Rattle.world_core.proofs.MadeFirst.{hosts_first, made_begins}
use Rattle.world_core.proofs.HostNumbers.{node_host, the_member}
use Rattle.world_core.specs.Hosts.{host_at, host_by, host_for, host_of, member_at, member_of, number_of, receiver}
use Rattle.world_core.specs.Start.{NobodyStarts, Start, made}
use Rattle.world_views.specs.Hosts.{or_itself, reached}
use Rattle.view_laws.specs.Sets.{all_of}
use Rattle.view_laws.proofs.follow.Hosts.{first_of}
use Rattle.view_laws.proofs.runs.FirstMembers.{made_same, made_tested, node_low, node_some}
use Rattle.view_laws.proofs.memberships.SetTests.{filter_in}

pub any_found : {A : Type 0} (p : A → Bool) (xs : List A) (i : ℕ) → position p xs ≡ Some i → list_any p xs ≡ true
any_found p [] i is = absurd cc
any_found p (x ∷ xs) i is = by (p x) (position p xs) (any_found p xs) (sym (position-cons p x xs) ∙ is)
  where
    by : (b : Bool) (o : Option ℕ) → ((j : ℕ) → o ≡ Some j → list_any p xs ≡ true) → place_by b o ≡ Some i
        → (b || list_any p xs) ≡ true
    by true o rest is = refl
    by false None rest is = absurd cc
    by false (Some j) rest is = rest j refl

-- parts by their numbers
pub number_some : (part : Part) → 1 ≤ number_of part
number_some Main = omega arith
number_some Tc = omega arith
number_some Ldm = omega arith

pub number_few : (part : Part) → number_of part ≤ 3
number_few Main = omega arith
number_few Tc = omega arith
number_few Ldm = omega arith

-- the member of a node in a view is of that node
pub node_of : (view : View) (node : ℕ) (m : Member) → member_of view node ≡ Some m → m.node ≡ node
node_of view node m is =
    each_get (λ (m : Member). m.node ≡ node) (filter (λ (m : Member). m.node == node) (all_of view)) 0 m
    (each_from _ (filter (λ (m : Member). m.node == node) (all_of view))
    (λ m i. eqb-true m.node node (filter_in (λ (m : Member). m.node == node) (all_of view) m i).1))
    is

-- and so is whom a member knows of the node
pub known_node : (me : Member) (view : View) (node : ℕ) (m : Member)
    → or_itself me node (member_of view node) ≡ Some m → m.node ≡ node
known_node me view node m is = by (member_of view node) refl is
  where
    itself : (b : Bool) → (me.node == node) ≡ b → (if b then Some me else None) ≡ Some m → m.node ≡ node
    itself true e is = let same : me ≡ m = cc in subst (λ (n : Member). n.node ≡ node) same (eqb-true me.node node e)
    itself false e is = absurd cc

    by : (o : Option Member) → member_of view node ≡ o → or_itself me node o ≡ Some m → m.node ≡ node
    by None e is = itself (me.node == node) refl is
    by (Some other) e is = node_of view node m (e ∙ is)

module _ (start : Start) (nobody : NobodyStarts start) where
  by_member : (node : ℕ) (b : BlockId) → 1 ≤ node
      → host_for start (record { node = node; block = b })
      ≡ host_by (made start) (part_of b) (member_of (first_view start.shape.nodes) node)
  unfolding receiver
  by_member node b some = by (node == 0) refl
    where
      by : (test : Bool) → (node == 0) ≡ test
          → (if test then 0 else host_by (made start) (part_of b) (member_of (first_view start.shape.nodes) node))
          ≡ host_by (made start) (part_of b) (member_of (first_view start.shape.nodes) node)
      by true e = absurd (omega (arith, eqb-true node 0 e, some))
      by false e = refl

  first_host : (node : ℕ) (b : BlockId) → 1 ≤ node → node ≤ start.shape.nodes
      → host_of (made start) (part_of b) (first_start node) ≡ (node - 1) * 3 + number_of (part_of b)
  first_host node b some low =
      sym (by_member node b some ∙ ap (host_by (made start) (part_of b)) (the_member start.shape.nodes node some low))
      ∙ node_host start (record { node = node; block = b }) some low

  -- the host of the part that runs a block
  pub block_host : (me : Member) → IsIn me (made start) → (b : BlockId)
      → host_of (made start) (part_of b) me ≡ (me.node - 1) * 3 + number_of (part_of b)
  block_host me there b =
      let first = first_of start.shape.nodes me (made_begins start nobody me there) in
      subst (λ (m : Member). host_of (made start) (part_of b) m ≡ (m.node - 1) * 3 + number_of (part_of b))
      (sym first.is) (first_host first.node b first.some first.low)

  -- two of whom parts have one host are one
  pub hosts_same : (one other : Member) → IsIn one (made start) → IsIn other (made start) → (b at : BlockId)
      → host_of (made start) (part_of b) one ≡ host_of (made start) (part_of at) other → one ≡ other
  hosts_same one other there there_too b at same =
      made_same start nobody one other there there_too
      (omega (
        arith,
        same,
        block_host one there b,
        block_host other there_too at,
        node_some start nobody one there,
        node_some start nobody other there_too,
        number_some (part_of b),
        number_few (part_of b),
        number_some (part_of at),
        number_few (part_of at),
      ))

  -- nobody's host is that of a member
  not_absent : (me : Member) → IsIn me (made start) → (at : BlockId)
      → start.shape.nodes * 3 + 1 ≡ host_of (made start) (part_of at) me → ⊥
  not_absent me there at same =
      omega (
        arith,
        same,
        block_host me there at,
        node_low start nobody me there,
        node_some start nobody me there,
        number_few (part_of at),
      )

  absent_is : (part : Part) → host_by (made start) part None ≡ start.shape.nodes * 3 + 1
  absent_is part = hosts_first start nobody

  -- a member that a host sends to was made
  found_made : (m me : Member) → IsIn me (made start) → (b at : BlockId)
      → host_of (made start) (part_of b) m ≡ host_of (made start) (part_of at) me → IsIn m (made start)
  found_made m me there b at same = by (position (is_member m) (made start)) refl same
    where
      by : (o : Option ℕ) → position (is_member m) (made start) ≡ o
          → host_at (length (made start) * 3 + 1) (part_of b) o ≡ host_of (made start) (part_of at) me
          → IsIn m (made start)
      by None e same = absurd (not_absent me there at (sym (absent_is (part_of b)) ∙ same))
      by (Some i) e same = made_tested start m (any_found (is_member m) (made start) i e)

  -- what a host of a node sends to its own node, and comes to a part of a member, comes to one of that node
  pub own_reaches : (h : ℕ) (view : View) (w me : Member) → IsIn w (made start) → IsIn me (made start)
      → (b at : BlockId)
      → reached (made start) (suc h) view (record { node = w.node; block = b }) ≡ host_of (made start) (part_of at) me
      → w ≡ me
  unfolding reached
  own_reaches h view w me made_w made_me b at is = by (w.node == 0) refl is
    where
      at_last : Option Member
      at_last = or_itself (member_at (made start) (suc h)) w.node (member_of view w.node)

      found : (o : Option Member) → at_last ≡ o
          → host_by (made start) (part_of b) o ≡ host_of (made start) (part_of at) me → w ≡ me
      found None e same = absurd (not_absent me made_me at (sym (absent_is (part_of b)) ∙ same))
      found (Some m) e same =
          let made_m = found_made m me made_me b at same in
          made_same start nobody w m made_w made_m (sym (known_node (member_at (made start) (suc h)) view w.node m e))
          ∙ hosts_same m me made_m made_me b at same

      by : (test : Bool) → (w.node == 0) ≡ test
          → (if test then 0 else host_by (made start) (part_of b) at_last)
          ≡ host_of (made start) (part_of at) me
          → w ≡ me
      by true e same = absurd (omega (arith, eqb-true w.node 0 e, node_some start nobody w made_w))
      by false e same = found at_last refl same

  -- and only what is for a place of a part comes to that
  pub part_reaches : (h : ℕ) (view : View) (node : ℕ) (me : Member) → IsIn me (made start) → (b at : BlockId)
      → reached (made start) (suc h) view (record { node = node; block = b }) ≡ host_of (made start) (part_of at) me
      → number_of (part_of b) ≡ number_of (part_of at)
  unfolding reached
  part_reaches h view node me there b at is = by (node == 0) is
    where
      found : (o : Option Member) → host_by (made start) (part_of b) o ≡ host_of (made start) (part_of at) me
          → number_of (part_of b) ≡ number_of (part_of at)
      found None same = absurd (not_absent me there at (sym (absent_is (part_of b)) ∙ same))
      found (Some m) same =
          omega (
            arith,
            same,
            block_host m (found_made m me there b at same) b,
            block_host me there at,
            number_some (part_of b),
            number_few (part_of b),
            number_some (part_of at),
            number_few (part_of at),
          )

      at_last : Option Member
      at_last = or_itself (member_at (made start) (suc h)) node (member_of view node)

      by : (test : Bool)
          → (if test then 0 else host_by (made start) (part_of b) at_last)
          ≡ host_of (made start) (part_of at) me
          → number_of (part_of b) ≡ number_of (part_of at)
      by true same = absurd (omega (arith, same, block_host me there at, number_some (part_of at)))
      by false same = found at_last same
