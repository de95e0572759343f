-- Replay, key by key: what the records of a log make of a key's row, whatever that was before.
use Rattle.std.proofs.Common.{◌≡◌, ℕ, Bool, true, false, cond, List, [], ◌∷◌, refl, ap, ◌∙◌}
use Rattle.std.specs.Prelude.{nat_le, if◌then◌else◌, Option, None, Some}
use Rattle.std.specs.Cmp.Lexicographic.{nat_list_cmp_total}
use Rattle.std.specs.FinMap as map
use Rattle.sig_core.specs.declared.redo.Redo.{Redo}
use Rattle.sig_core.specs.declared.redo.Redo.TheVariants.{Prepare, Commit, Abort}
use Rattle.sig_core.specs.Same.{same_key}
use Rattle.sig_core.specs.Table.{Rows}
use Rattle.sig_core.proofs.Keys.{tied-same_key}
use Rattle.redo_log.specs.Replaying.{applied, id_of, image_of, replayed, with_image}

-- a commit that isn't later makes its image the row of its key
abbrev pub redoing : ℕ → Redo → Option (Option (List ℕ)) → List ℕ → Option (Option (List ℕ)) → Option (Option (List ℕ))
redoing epoch (Prepare tx fragment key image) found q older = older
redoing epoch (Abort tx key) found q older = older
redoing epoch (Commit tx at key) None q older = older
redoing epoch (Commit tx at key) (Some image) q older =
    if nat_le at epoch then (if same_key q key then Some image else older) else older

-- what some records, the newest first, make of the row of a key, where they make anything of it
abbrev pub redone : ℕ → List Redo → List ℕ → Option (Option (List ℕ))
redone epoch [] q = None
redone epoch (redo ∷ older) q = redoing epoch redo (image_of older (id_of redo)) q (redone epoch older q)

-- that, or else the row that there was
abbrev pub over : Option (Option (List ℕ)) → Option (List ℕ) → Option (List ℕ)
over None row = row
over (Some image) row = image

pub get-with_image : (rows : Rows) (key : List ℕ) (image : Option (List ℕ)) (q : List ℕ)
    → map.get (with_image rows key image) q ≡ (if same_key q key then image else map.get rows q)
get-with_image rows key None q =
    map.get-remove nat_list_cmp_total rows key q ∙ ap (λ b. cond b None (map.get rows q)) (tied-same_key q key)
    ∙ by (same_key q key)
  where
    by : (b : Bool) → cond b None (map.get rows q) ≡ (if b then None else map.get rows q)
    by true = refl
    by false = refl
get-with_image rows key (Some value) q =
    map.get-insert nat_list_cmp_total rows key value q
    ∙ ap (λ b. cond b (Some value) (map.get rows q)) (tied-same_key q key) ∙ by (same_key q key)
  where
    by : (b : Bool) → cond b (Some value) (map.get rows q) ≡ (if b then Some value else map.get rows q)
    by true = refl
    by false = refl

pub get-applied : (epoch : ℕ) (redo : Redo) (found : Option (Option (List ℕ))) (rows : Rows) (q : List ℕ)
    (older : Option (Option (List ℕ)))
    (row : Option (List ℕ)) → map.get rows q ≡ over older row
    → map.get (applied epoch redo found rows) q ≡ over (redoing epoch redo found q older) row
get-applied epoch (Prepare tx fragment key image) found rows q older row is = is
get-applied epoch (Abort tx key) found rows q older row is = is
get-applied epoch (Commit tx at key) None rows q older row is = is
get-applied epoch (Commit tx at key) (Some image) rows q older row is = by (nat_le at epoch)
  where
    own : (b : Bool) → (if b then image else map.get rows q) ≡ over (if b then Some image else older) row
    own true = refl
    own false = is

    by : (b : Bool)
        → map.get (if b then with_image rows key image else rows) q ≡ over
        (if b then (if same_key q key then Some image else older) else older) row
    by true = get-with_image rows key image q ∙ own (same_key q key)
    by false = is

pub get-replayed : (epoch : ℕ) (log : List Redo) (rows : Rows) (q : List ℕ)
    → map.get (replayed epoch rows log) q ≡ over (redone epoch log q) (map.get rows q)
get-replayed epoch [] rows q = refl
get-replayed epoch (redo ∷ older) rows q =
    get-applied epoch redo (image_of older (id_of redo)) (replayed epoch rows older) q (redone epoch older q)
    (map.get rows q) (get-replayed epoch older rows q)
