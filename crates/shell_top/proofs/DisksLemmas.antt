-- Disks before the first life of a session, and those that are handed back.
use Rattle.std.proofs.Common.{◌≡◌, ℕ, List, [], ◌++◌, length, take, ap, sym, ◌∙◌}
use Rattle.std.specs.Prelude.{None, option_map}
use Rattle.std.proofs.Math.Seq.{take-append_seam}
use Rattle.shell_top.specs.declared.lives.Lives.{Lives}
use Rattle.shell_top.specs.Lives.{all_lives, disks_by, disks_of, going_in, now_of}

module _ {D : Type 0} (lives : Lives D) (none : lives.world ≡ None) where
  -- where no life goes on, the disks aren't in its world
  pub disks_alone : disks_of lives ≡ lives.disks.items
  disks_alone = ap (disks_by lives.disks.items) none

  pub none_now : now_of lives ≡ None
  none_now = ap (option_map (going_in lives.shape)) none

-- before the first life there is none
pub no_lives : {D : Type 0} (lives : Lives D) → lives.ended.items ≡ [] → now_of lives ≡ None
    → all_lives lives.ended.items (now_of lives) ≡ []
no_lives lives ended none = ap (all_lives lives.ended.items) none ∙ ended

-- the disks of a cluster, in front of those that it doesn't use
pub used_back : {D : Type 0} (nodes : ℕ) (used unused all : List D) → length used ≡ nodes → all ≡ used ++ unused
    → take nodes all ≡ used
used_back nodes used unused all many back =
    ap (take nodes) back ∙ ap (λ n. take n (used ++ unused)) (sym many) ∙ take-append_seam used unused
