-- Fragments: which one a key is in, and which group has it.
use Rattle.std.specs.Prelude.{ℕ, ◌%◌, List}
use Rattle.sig_core.specs.Digest.{digest_word}
use Rattle.sig_core.specs.declared.view.Shape.{Shape}
use Rattle.frag_map.specs.Shape.{groups}

-- the fragment of a key, from 0: the first four bytes of its digest, as a number, modulo the number of fragments
unfoldable pub frag_of : Shape → List ℕ → ℕ
frag_of shape key = digest_word key % shape.fragments

-- the group of nodes that has a fragment
abbrev pub group_of_fragment : Shape → ℕ → ℕ
group_of_fragment shape fragment = fragment % groups shape

-- the group that has a key
abbrev pub group_of_key : Shape → List ℕ → ℕ
group_of_key shape key = group_of_fragment shape (frag_of shape key)
