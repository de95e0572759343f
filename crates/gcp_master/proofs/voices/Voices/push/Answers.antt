use Rattle.std.proofs.Common.{◌≡◌, ◌<◌, length, List, take, subst}
use Rattle.gcp_master.specs.declared.voices.Voice.{Voice}
use Rattle.gcp_master.proofs.VoiceLemmas.{pushed}
use Rattle.gcp_master.proofs.voices.Voices.push.Goals as goal

pub invariant_of-self : goal.invariant_of-self
invariant_of-self c =
    let is : c.args.self.now ≡ take c.self.inside.len c.self.inside.all = cc in
    pushed _ _ _ c.args.voice c.self.invariant (subst (λ (voices : List Voice). length voices < 16) is c.requires)
