-- A walk over the members of a view, or over the fragments, goes on to the next one.
use Rattle.std.proofs.Common.{◌≡◌, ◌<◌, ◌∙◌, ℕ, suc, ◌+◌, ◌-◌, ◌++◌, List, ap, arith, drop, get_or, length}
use Rattle.std.proofs.Common.{refl}
use Rattle.std.specs.List.{flat_map}
use Rattle.std.proofs.lemmas.List.{drop_more, length-append}
use Rattle.sig_core.specs.declared.outs.Outgoing.{Outgoing}
use Rattle.sig_core.proofs.PortionLemmas.{all_offered-append}
use Rattle.frag_map.specs.Layout.{Layout}
use Rattle.copy_block.specs.declared.stage.Joiner.{Joiner}
use Rattle.copy_block.specs.Sends.{request_of, requests_from}

-- of the numbers up to n one more is left before the next
pub left-suc : (n at : ℕ) → at < n → n - at ≡ suc (n - (at + 1))
left-suc n at low = omega arith

-- what is left of the requests begins with those for the next fragment
pub requests-next : (layout : Layout) (joiner : Joiner) (n at : ℕ) → at < n
    → requests_from layout joiner at (n - at)
    ≡ request_of layout joiner at ++ requests_from layout joiner (at + 1) (n - (at + 1))
requests-next layout joiner n at low = rw (left-suc n at low) refl

-- so they are as many as those, and what is left behind it
pub requests-count : (layout : Layout) (joiner : Joiner) (n at : ℕ) → at < n
    → length (requests_from layout joiner at (n - at))
    ≡ length (request_of layout joiner at) + length (requests_from layout joiner (at + 1) (n - (at + 1)))
requests-count layout joiner n at low =
    ap length (requests-next layout joiner n at low)
    ∙ length-append (request_of layout joiner at) (requests_from layout joiner (at + 1) (n - (at + 1)))

-- what is left of a list that each item adds to begins with what the next item adds
pub flat-next : {A : Type 0} (f : A → List Outgoing) (items : List A) (i : ℕ) (d : A) → i < length items
    → flat_map f (drop i items) ≡ f (get_or items i d) ++ flat_map f (drop (i + 1) items)
flat-next f items i d inside = rw (drop_more items i d inside) refl

pub ruleset walks = (requests-next, flat-next, all_offered-append)
