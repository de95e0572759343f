use Rattle.journal_laws.proofs.room.HaveRoom.{journals_have_room}
use Rattle.journal_laws.proofs.laws.journals_have_room.Goals as goal

pub returns : goal.returns
returns c = journals_have_room
