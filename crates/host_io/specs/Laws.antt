-- What is true of every disk that keeps to the model.
use Rattle.std.specs.Prelude.{◌≡◌, ℕ, ◌<◌, List, ◌∷◌}
use Rattle.host_io.specs.declared.limits.TheConstants.{FILES}
use Rattle.host_io.specs.Call.{Call, Synced}
use Rattle.host_io.specs.DiskState.{state_of}
use Rattle.host_io.specs.Image.{IsImage, IsLeft, IsRecord}

-- as it reads it is one of its images
abbrev pub ReadsAsAnImage : Type 0
ReadsAsAnImage = (calls : List Call) → IsRecord calls → IsLeft calls (λ file. (state_of calls file).bytes)

-- right after a sync a crash leaves a file as it reads
abbrev pub SyncedIsKept : Type 0
SyncedIsKept =
    (calls : List Call) (file : ℕ) (image : List ℕ) → IsRecord calls → file < FILES
    → IsImage (state_of (Synced file ∷ calls) file) image → image ≡ (state_of calls file).bytes
