-- The hosts of a member.
use Rattle.std.specs.Prelude.{ℕ}
use Rattle.sig_core.specs.declared.member.Member.{Member}
use Rattle.sig_core.specs.declared.place.Part.TheVariants.{Ldm, Tc}
use Rattle.world_core.specs.Hosts.{host_of}
use Rattle.world_core.specs.Start.{Start, made}

-- that of its coordinator and epochs, and that of its rows
abbrev pub tc_of : Start → Member → ℕ
tc_of start member = host_of (made start) Tc member

abbrev pub ldm_of : Start → Member → ℕ
ldm_of start member = host_of (made start) Ldm member
