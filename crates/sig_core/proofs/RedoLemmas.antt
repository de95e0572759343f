-- A redo record has as many bytes as its size says.
use Rattle.std.proofs.Common.{◌≡◌, ℕ, List, length, refl, arith}
use Rattle.std.specs.Prelude.{Option, None, Some}
use Rattle.std.proofs.lemmas.List.{length-append}
use Rattle.sig_core.specs.declared.redo.Redo.{Redo}
use Rattle.sig_core.specs.declared.redo.Redo.TheVariants as redo
use Rattle.sig_core.specs.Redo.{bytes_of, image_bytes, image_size, size_of}

image_bytes_size : (image : Option (List ℕ)) → length (image_bytes image) ≡ image_size image
image_bytes_size None = refl
image_bytes_size (Some value) = omega arith

pub bytes_size : (r : Redo) → length (bytes_of r) ≡ size_of r
unfolding bytes_of size_of
bytes_size (redo.Prepare tx fragment key image) =
    omega (arith, length-append key (image_bytes image), image_bytes_size image)
bytes_size (redo.Commit tx epoch key) = omega arith
bytes_size (redo.Abort tx key) = omega arith
