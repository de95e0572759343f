-- What the rows of a node, or their digest, come to, between two quiet moments.
use Rattle.std.specs.Prelude.{◌≡◌, ℕ, Bool, List, [], ◌∷◌, None, Some}
use Rattle.std.specs.Cmp.Lexicographic.{slice_cmp}
use Rattle.std.specs.declared.cmp.Ordering.TheVariants.{Less}
use Rattle.std.specs.Ordering.{nat_cmp}
use Rattle.run_theory.specs.Lists.{Each, IsIn}
use Rattle.sig_core.specs.declared.request.ApiReq.{ApiReq}
use Rattle.api_block.specs.Dump.{dump_replies}
use Rattle.node_core.specs.Blocks.{api_of}
use Rattle.world_core.specs.At.{row_in}
use Rattle.world_core.specs.Machine.{after}
use Rattle.world_core.specs.Start.{Start}
use Rattle.world_core.specs.Steps.{HostStep}
use Rattle.command_laws.specs.Served.{replies_since}
use Rattle.command_laws.specs.TurnedDown.{turned_down_for}

-- each row comes before all those behind it, in byte order of their keys
abbrev pub AreRising : List (List ℕ × List ℕ) → Type 0
AreRising [] = Unit {0}
AreRising (row ∷ rows) = Each (λ (next : List ℕ × List ℕ). slice_cmp nat_cmp row.0 next.0 ≡ Less) rows × AreRising rows

-- The committed rows that the node had at the earlier moment are told, and nothing else is replied: each key once, in
-- byte
-- order, with its value.
pub record IsDumped (start : Start) (was now : ℕ → List HostStep) (node : ℕ) (digest : Bool) : Type 0 where
  pub rows : List (List ℕ × List ℕ)
  pub told : replies_since start was now ≡ dump_replies node digest rows
  pub rising : AreRising rows
  pub committed : (key value : List ℕ) → IsIn (key, value) rows → row_in start was node key ≡ Some value
  pub all : (key value : List ℕ) → row_in start was node key ≡ Some value → IsIn (key, value) rows

-- so it is where the API doesn't turn the request down
abbrev pub DumpComesTo : Start → (was now : ℕ → List HostStep) → ApiReq → ℕ → Bool → Type 0
DumpComesTo start was now request node digest =
    turned_down_for (api_of (after start 0 (was 0))) request ≡ None → IsDumped start was now node digest
