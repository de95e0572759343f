-- What is replayed of records that commit nothing up to an epoch.
use Rattle.std.proofs.Common.{◌≡◌, ◌∙◌, ℕ, Bool, List, [], ◌∷◌, ◌++◌, refl, ap}
use Rattle.std.specs.Prelude.{Option, None, Some, if◌then◌else◌}
use Rattle.std.proofs.lemmas.Bool.{lt-leb}
use Rattle.redo_log.specs.Replaying.{applied, id_of, image_of, replayed, with_image}
use Rattle.sig_core.specs.Table.{Rows}
use Rattle.sig_core.specs.declared.redo.Redo.{Redo}
use Rattle.sig_core.specs.declared.redo.Redo.TheVariants.{Abort, Commit, Prepare}
use Rattle.node_restart.specs.Laws.{ReplaysStopAtEpochs}
use Rattle.node_restart.specs.Rows.{IsLater}

-- a later record changes nothing
unchanged : (epoch : ℕ) (redo : Redo) (found : Option (Option (List ℕ))) (rows : Rows) → IsLater epoch redo
    → applied epoch redo found rows ≡ rows
unchanged epoch (Prepare tx fragment key image) found rows later = refl
unchanged epoch (Abort tx key) found rows later = refl
unchanged epoch (Commit tx at key) None rows later = refl
unchanged epoch (Commit tx at key) (Some image) rows later =
    ap (λ (b : Bool). if b then with_image rows key image else rows) (lt-leb at epoch later)

pub replays_stop : ReplaysStopAtEpochs
replays_stop epoch start [] redo later = refl
replays_stop epoch start (newest ∷ newer) redo later =
    unchanged epoch newest (image_of (newer ++ redo) (id_of newest)) (replayed epoch start (newer ++ redo)) later.0
    ∙ replays_stop epoch start newer redo later.1
