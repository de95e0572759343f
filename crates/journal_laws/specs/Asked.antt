-- What the shell is asked that can be written to a journal.
use Rattle.std.specs.Prelude.{List, IfSome}
use Rattle.run_theory.specs.Lists.{Each}
use Rattle.script_lang.specs.Spelling.{IsOperation}
use Rattle.sig_core.specs.declared.request.ApiReq.{ApiReq}
use Rattle.sig_core.specs.declared.request.ApiReq.TheVariants.{Operate}
use Rattle.world_core.specs.Steps.{HostStep}
use Rattle.world_views.specs.Requests.{request_of}

-- a request for an operation is for one whose key and value are words
abbrev pub IsOfRequest : ApiReq → Type 0
IsOfRequest (Operate name op) = IsOperation op
IsOfRequest request = Unit {0}

-- so it is of all that a host asked itself for
abbrev pub AreOfWords : List HostStep → Type 0
AreOfWords log = Each (λ (e : HostStep). IfSome (request_of e) IsOfRequest) log
