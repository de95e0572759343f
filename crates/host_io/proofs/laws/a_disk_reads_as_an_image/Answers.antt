use Rattle.host_io.proofs.StateLemmas.{reads_as_an_image}
use Rattle.host_io.proofs.laws.a_disk_reads_as_an_image.Goals as goal

pub returns : goal.returns
returns c = reads_as_an_image
