-- Chains by their nodes and starts.
use Rattle.std.proofs.Common.{◌≡◌, ℕ, ◌+◌, ◌<◌, ◌≤◌, List, [], ◌∷◌, ◌++◌, length, take, map, slice_index_or, slice_set}
use Rattle.std.proofs.Common.{refl, ap, ap₂, sym, ◌∙◌, arith}
use Rattle.std.proofs.lemmas.List.{length-append, length-set, length-take-le, take_more, take_more_set}
use Rattle.sig_core.specs.declared.member.Member.{Member}
use Rattle.sig_core.specs.Chain.{members_by}
use Rattle.sig_core.specs.Members.{nobody}

-- one member more
pub members_by-last : (nodes starts : List ℕ) (node start : ℕ) → length nodes ≡ length starts
    → members_by (nodes ++ node ∷ []) (starts ++ start ∷ [])
    ≡ members_by nodes starts ++ record { node = node; start = start } ∷ []
members_by-last [] [] node start same = refl
members_by-last [] (s ∷ starts) node start same = cc
members_by-last (n ∷ nodes) [] node start same = cc
members_by-last (n ∷ nodes) (s ∷ starts) node start same =
    let rest : length nodes ≡ length starts = cc in
    ap (λ ms. record { node = n; start = s } ∷ ms) (members_by-last nodes starts node start rest)

-- the nodes of members are those that they were made of
pub nodes-members_by : (nodes starts : List ℕ) → length nodes ≡ length starts
    → map (λ (member : Member). member.node) (members_by nodes starts) ≡ nodes
nodes-members_by [] starts same = refl
nodes-members_by (n ∷ nodes) [] same = cc
nodes-members_by (n ∷ nodes) (s ∷ starts) same =
    let rest : length nodes ≡ length starts = cc in
    ap (λ ns. n ∷ ns) (nodes-members_by nodes starts rest)

-- one replica more is in the arrays
module _ (replicas : List Member) (nodes starts : List ℕ) (len at : ℕ) (few : length replicas ≤ 8)
    (inside : at < length replicas) where
  pub filled_by : (len ≡ at) × (length nodes ≡ 8) × (length starts ≡ 8)
      × (members_by (take at nodes) (take at starts) ≡ take at replicas)
      → (len + 1 ≡ at + 1)
      × (length (slice_set nodes len (slice_index_or replicas at nobody).node) ≡ 8)
      × (length (slice_set starts len (slice_index_or replicas at nobody).start) ≡ 8)
      × (members_by (take (at + 1) (slice_set nodes len (slice_index_or replicas at nobody).node))
      (take (at + 1) (slice_set starts len (slice_index_or replicas at nobody).start)) ≡ take (at + 1) replicas)
  filled_by is =
      let one = slice_index_or replicas at nobody in
      let place = is.0 in
      let node_inside : at < length nodes = omega (arith, few, inside, is.1) in
      let start_inside : at < length starts = omega (arith, few, inside, is.2) in
      let same : length (take at nodes) ≡ length (take at starts) =
      length-take-le at nodes (omega (arith, node_inside))
      ∙ sym (length-take-le at starts (omega (arith, start_inside))) in (
        ap (λ n. n + 1) place,
        length-set nodes len one.node ∙ is.1,
        length-set starts len one.start ∙ is.2,
        rw (place, take_more_set nodes at one.node node_inside, take_more_set starts at one.start start_inside)
            (members_by-last (take at nodes) (take at starts) one.node one.start same
            ∙ ap (λ ms. ms ++ one ∷ []) is.3
            ∙ sym (take_more replicas at nobody inside)),
      )

-- one member more is in the list
pub listed_by : (nodes starts : List ℕ) (members longer : List Member) (at : ℕ) → at < 8
    → (length nodes ≡ 8) × (length starts ≡ 8)
    → (length members ≡ at) × (members ≡ members_by (take at nodes) (take at starts))
    → longer ≡ members ++ record { node = slice_index_or nodes at 0; start = slice_index_or starts at 0 } ∷ []
    → (length longer ≡ at + 1) × (longer ≡ members_by (take (at + 1) nodes) (take (at + 1) starts))
listed_by nodes starts members longer at few whole is more =
    let node_inside : at < length nodes = omega (arith, few, whole.0) in
    let start_inside : at < length starts = omega (arith, few, whole.1) in
    let same : length (take at nodes) ≡ length (take at starts) =
    length-take-le at nodes (omega (arith, node_inside))
    ∙ sym (length-take-le at starts (omega (arith, start_inside))) in (
      ap length more ∙ length-append members _ ∙ ap (λ n. n + 1) is.0,
      more ∙ ap (λ ms. ms ++ record { node = slice_index_or nodes at 0; start = slice_index_or starts at 0 } ∷ []) is.1
          ∙ sym (members_by-last (take at nodes) (take at starts) (slice_index_or nodes at 0)
          (slice_index_or starts at 0) same)
          ∙ sym (ap₂ members_by (take_more nodes at 0 node_inside) (take_more starts at 0 start_inside)),
    )
