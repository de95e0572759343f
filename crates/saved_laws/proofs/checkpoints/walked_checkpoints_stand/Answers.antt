use Rattle.local_ckpt.proofs.LawLemmas.{pieces_are}
use Rattle.saved_laws.proofs.checkpoints.walked_checkpoints_stand.Goals as goal
use Rattle.saved_laws.proofs.locking.Keep.{keep_locks}
use Rattle.saved_laws.proofs.standing.Walked.{walked_stand}

pub returns : goal.returns
returns c =
    walked_stand c.local_checkpoints_stand.ensures pieces_are c.journals_have_records.ensures
    c.walks_are_followed.ensures keep_locks
