use Rattle.std.proofs.Common.{◌∙◌, ap}
use Rattle.sys_restart.specs.Places.{places_of}
use Rattle.sys_restart.proofs.places.places_beside.Goals as goal

pub returns-in-Ok-clause-read : goal.returns-in-Ok-clause-read
returns-in-Ok-clause-read g c = λ calls told.
    c.places_of.ensures.value ∙ ap (places_of c.args.one) (c.in-Ok.ensures.read calls told)
