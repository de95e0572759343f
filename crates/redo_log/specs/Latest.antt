-- Prepared images of which the latest lies apart.
use Rattle.std.specs.Prelude.{List, ◌∷◌, ℕ, Bool, false, Option, None, Some}
use Rattle.redo_log.specs.declared.image_id.ImageId.{ImageId}
use Rattle.redo_log.specs.Replaying.{Images, same_id}

-- all of them, the latest first
abbrev pub with_latest : Option (ImageId × Option (List ℕ)) → Images → Images
with_latest None others = others
with_latest (Some latest) others = latest ∷ others

-- the latest is of this transaction and key
abbrev pub is_of : Option (ImageId × Option (List ℕ)) → ImageId → Bool
is_of None id = false
is_of (Some latest) id = same_id latest.0 id
