-- The filler behind the members of a list.
use Rattle.sig_core.specs.declared.member.Member.{Member}

abbrev pub nobody : Member
nobody = record { node = 0; start = 0 }
