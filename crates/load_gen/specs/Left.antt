-- What a load on its way has still to ask for.
use Rattle.std.specs.Prelude.{◌-◌, List, ◌++◌}
use Rattle.load_gen.specs.declared.load.Asked.{Asked}
use Rattle.load_gen.specs.declared.load.Load.{Load}
use Rattle.load_gen.specs.Load.{checkpoint_if, waves, waves_of}

abbrev pub left : Load → List Asked
left load =
    checkpoint_if load.closes
    ++ waves load.transactions load.seed (waves_of load.transactions - load.waves) load.waves
