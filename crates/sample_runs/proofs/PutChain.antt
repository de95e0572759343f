-- The replicas of a row of the two nodes, whichever its key.
use Rattle.std.proofs.Common.{◌≡◌, refl, ap, ◌∙◌, true}
use Rattle.std.specs.Prelude.{◌==◌}
use Rattle.std.proofs.Math.Nat.{mod-one}
use Rattle.frag_map.specs.Fragment.{frag_of, group_of_fragment}
use Rattle.frag_map.specs.Layout.{chain_of, first_layout, first_view, holds}
use Rattle.frag_map.specs.Replicas.{replicas_of}
use Rattle.frag_map.specs.Shape.{group_of}
use Rattle.sample_runs.specs.Put.{key, replicas, two}

fragment_is : frag_of two.shape key ≡ 0
unfolding frag_of
fragment_is = mod-one _

replicas_are : replicas_of two.shape (first_view 2) 0 ≡ replicas
unfolding replicas_of
replicas_are = refl

pub chain_is : chain_of (first_layout two.shape) key ≡ replicas
unfolding chain_of
chain_is = ap (replicas_of two.shape (first_view 2)) fragment_is ∙ replicas_are

pub one_holds : holds two.shape 1 key ≡ true
one_holds = ap (λ fragment. group_of two.shape 1 == group_of_fragment two.shape fragment) fragment_is

pub two_holds : holds two.shape 2 key ≡ true
two_holds = ap (λ fragment. group_of two.shape 2 == group_of_fragment two.shape fragment) fragment_is
