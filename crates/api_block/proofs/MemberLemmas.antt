-- What members are told, list after list.
use Rattle.std.proofs.Common.{◌≡◌, List, [], ◌∷◌, ◌++◌, refl, ap}
use Rattle.sig_core.specs.declared.member.Member.{Member}
use Rattle.api_block.specs.declared.members.News.{News}
use Rattle.api_block.specs.Members.{telling, telling_all}

pub telling-append : (told : News) (xs ys : List Member)
    → telling_all told (xs ++ ys) ≡ telling_all told xs ++ telling_all told ys
telling-append told [] ys = refl
telling-append told (x ∷ xs) ys = ap (λ rest. telling told x ∷ rest) (telling-append told xs ys)

pub ruleset told = (telling-append)
